-- A registry that is called by one alone.
use Rattle.std.proofs.Common.{◌≡◌, ℕ, zero, suc, ◌<◌, true, nat_lt, List, [], ◌∷◌, ◌++◌, length, slice_get, Option, Some, refl, sym, ap, ◌∙◌, subst, arith, eqb-true, le-ltb, lt-ltb}
use Rattle.std.specs.Prelude.{is_some, slice_index_or, IfSome}
use Rattle.std.specs.List.{All}
use Rattle.std.proofs.lemmas.Bool.{and_parts}
use Rattle.std.proofs.lemmas.Bool.Decides.{nat_tests}
use Rattle.std.proofs.lemmas.List.{length-set}
use Rattle.fragment.specs.Parts.{Parts}
use Rattle.unit_set.specs.Held.{IsFreshFor}
use Rattle.registry.specs.declared.entry.Entry.{Entry}
use Rattle.registry.specs.declared.entry.Entry.TheVariants.{Map, Replace, Attach, Merge, Detach, Due, Acked, Failed, Finish}
use Rattle.registry.specs.declared.entry.Replaced.{Replaced}
use Rattle.registry.specs.declared.entry.Replaced.TheVariants.{Yes, NoSuchModule, NoSuchFile}
use Rattle.registry.specs.Content.{Content}
use Rattle.registry.specs.Opening.{Opening}
use Rattle.registry.specs.State.{State}
use Rattle.registry.specs.Registry.{Told, AreReplied, after, after_all, files_after, generation_of, opened, reg, replace_reply, replaced_by, told, told_all, unit_for}
use Rattle.registry.specs.History.{Adds, History, IsCounted, IsHeld, is_attach, is_detach, state_of}
use Rattle.registry.specs.Laws.{AttachesGoOn, GoesOn, HoldsItsOwn}
use Rattle.registrar.specs.Calls.{AreFreshOf, Holder, HoldsOwn, IsMapped, handing, holder_of, made}
use Rattle.registrar.proofs.Counts.{count-told}

-- ---- one entry more

told-snoc : (o : Opening) (s : State) (es : List Entry) (e : Entry) → told_all o s (es ++ e ∷ []) ≡ told_all o s es ++ told o (after_all o s es) e ∷ []
told-snoc o s [] e = refl
told-snoc o s (x ∷ es) e = ap (λ ts. told o s x ∷ ts) (told-snoc o (after o s x) es e)

pub makes : (old new : History) (e : Entry) (unit : Content) → Adds old e new → unit ≡ unit_for old.opening (state_of old) e → holder_of new ≡ made (handing e unit) (holder_of old)
makes old new e unit adds is =
    let o = old.opening in
    ap holder_of adds.added
    ∙ (ap (λ (ts : List Told). let h : Holder = record { opening = o; own = ts } in h) (told-snoc o (opened o) old.journal e)
    ∙ ap (λ (u : Content). made (handing e u) (holder_of old)) (sym is))

-- ---- files

files_step : (o : Opening) (s : State) (e : Entry) → length (after o s e).files ≡ length s.files
files_step o s (Map guest k file) = refl
files_step o s (Replace guest k file reply) = replaced (replace_reply o s k file) s.files k file where
  replaced : (r : Replaced) (files : List ℕ) (k file : ℕ) → length (files_after r files k file) ≡ length files
  replaced Yes files k file = length-set files k file
  replaced NoSuchModule files k file = refl
  replaced NoSuchFile files k file = refl
files_step o s (Attach guest slot file age version) = refl
files_step o s (Merge guest slot age addrs reply) = refl
files_step o s (Detach guest slot age) = refl
files_step o s (Due slot age version) = refl
files_step o s (Acked slot age version) = refl
files_step o s (Failed slot) = refl
files_step o s Finish = refl

files_all : (o : Opening) (s : State) (es : List Entry) → length (after_all o s es).files ≡ length s.files
files_all o s [] = refl
files_all o s (e ∷ es) = files_all o (after o s e) es ∙ files_step o s e

some_within : {A : Type 0} (xs : List A) (k : ℕ) → is_some (slice_get xs k) ≡ nat_lt k (length xs)
some_within [] k = sym (le-ltb k 0 (omega arith))
some_within (x ∷ xs) zero = sym (lt-ltb 0 (length (x ∷ xs)) (omega arith))
some_within (x ∷ xs) (suc k) = some_within xs k ∙ same k (length xs) where
  same : (a b : ℕ) → nat_lt a b ≡ nat_lt (suc a) (suc b)
  same a b = grind (arith, nat_tests)

map_told : (guest k guest' k' : ℕ) (file file' : Option ℕ) → (let x : Option Entry = Some (Map guest k file) in x) ≡ Some (Map guest' k' file') → file ≡ file'
map_told guest k guest' k' file file' is = cc

pub mapped : (old new : History) (guest k : ℕ) (file : Option ℕ) → Adds old (Map guest k file) new → IfSome file (λ f. f < length old.opening.codes) → IsMapped old.opening k file
mapped old new guest k file adds there =
    let files = (state_of old).files in
    record {
      some = ap is_some (sym (map_told guest k guest k (slice_get files k) file adds.replied)) ∙ (some_within files k ∙ ap (nat_lt k) (files_all old.opening (opened old.opening) old.journal));
      there = there;
    }

reply_told : (guest k file guest' k' file' : ℕ) (r r' : Replaced) → (let x : Option Entry = Some (Replace guest k file r) in x) ≡ Some (Replace guest' k' file' r') → r ≡ r'
reply_told guest k file guest' k' file' r r' is = cc

replaced_long : (files modules : List ℕ) (count k file : ℕ) → length files ≡ length modules → replaced_by files count k file ≡ replaced_by modules count k file
replaced_long files modules count k file long = rw long refl

pub replaced : (old new : History) (guest k file : ℕ) (reply : Replaced) → Adds old (Replace guest k file reply) new → reply ≡ replaced_by old.opening.modules (length old.opening.codes) k file
replaced old new guest k file reply adds =
    let o = old.opening in
    sym (reply_told guest k file guest k file (replace_reply o (state_of old) k file) reply adds.replied)
    ∙ replaced_long (state_of old).files o.modules (length o.codes) k file (files_all o (opened o) old.journal)

-- ---- what is held

pub held : (h : History) (slot age : ℕ) → HoldsItsOwn → IsCounted (state_of h) h.journal → HoldsOwn slot age (holder_of h).own → IsHeld (state_of h) slot age
held h slot age law counted own =
    law (record h { journal = [] }) h h.journal slot age (λ s a. refl) refl counted
    (omega (arith, own, count-told (is_detach slot age) h.opening (opened h.opening) h.journal, count-told (is_attach slot age) h.opening (opened h.opening) h.journal))

-- an entry with what stands before it and behind it
record IsAt (o : Opening) (s : State) (es : List Entry) (t : Told) : Type 0 where
  before : List Entry
  entry : Entry
  more : List Entry
  split : es ≡ before ++ entry ∷ more
  is : t ≡ told o (after_all o s before) entry

at_place : (o : Opening) (s : State) (es : List Entry) (t : Told) (k : ℕ) → k < length (told_all o s es) → slice_index_or (told_all o s es) k t ≡ t → IsAt o s es t
at_place o s [] t k within is = absurd (omega arith)
at_place o s (e ∷ es) t zero within is = record { before = []; entry = e; more = es; split = refl; is = sym is }
at_place o s (e ∷ es) t (suc k) within is =
    let later = at_place o (after o s e) es t k (omega arith) is in
    record { before = e ∷ later.before; entry = later.entry; more = later.more; split = ap (λ xs. e ∷ xs) later.split; is = later.is }

goes_by : (h : History) (law : AttachesGoOn) (before more : List Entry) (e : Entry) (slot age : ℕ) → h.journal ≡ before ++ e ∷ more → AreReplied h.opening (opened h.opening) h.journal
    → slot < length (state_of h).slots → is_attach slot age e ≡ true → GoesOn (unit_for h.opening (reg h.opening before) e) (generation_of (state_of h) slot age).unit
goes_by h law before more (Map guest k file) slot age split replied within is = absurd (cc)
goes_by h law before more (Replace guest k file reply) slot age split replied within is = absurd (cc)
goes_by h law before more (Attach guest s file a version) slot age split replied within is =
    let parts = and_parts _ _ is in
    let o = h.opening in
    let e = Attach guest s file a version in
    let u = unit_for o (reg o before) e in
    let same_slot = eqb-true s slot parts.0 in
    let same_age = eqb-true a age parts.1 in
    let there = subst (λ (j : List Entry). slot < length (reg o j).slots) split within in
    let there_s = subst (λ n. n < length (reg o (before ++ e ∷ more)).slots) (sym same_slot) there in
    let on = law o before more guest s file a version (subst (AreReplied o (opened o)) split replied) there_s in
    let on_j = subst (λ (j : List Entry). GoesOn u (generation_of (reg o j) s a).unit) (sym split) on in
    subst (λ n. GoesOn u (generation_of (state_of h) slot n).unit) same_age (subst (λ n. GoesOn u (generation_of (state_of h) n a).unit) same_slot on_j)
goes_by h law before more (Merge guest s a addrs reply) slot age split replied within is = absurd (cc)
goes_by h law before more (Detach guest s a) slot age split replied within is = absurd (cc)
goes_by h law before more (Due s a version) slot age split replied within is = absurd (cc)
goes_by h law before more (Acked s a version) slot age split replied within is = absurd (cc)
goes_by h law before more (Failed s) slot age split replied within is = absurd (cc)
goes_by h law before more Finish slot age split replied within is = absurd (cc)

-- what is fresh in a unit that was handed out is fresh in the unit of its generation
pub fresh : (h : History) (slot age : ℕ) (added : List Parts) → AttachesGoOn → AreReplied h.opening (opened h.opening) h.journal → slot < length (state_of h).slots → AreFreshOf slot age added (holder_of h).own
    → All (IsFreshFor (generation_of (state_of h) slot age).unit.slot (generation_of (state_of h) slot age).unit.image) added
fresh h slot age added law replied within f =
    let o = h.opening in
    let at = at_place o (opened o) h.journal f.told f.there.0 f.there.1 f.there.2 in
    let on = goes_by h law at.before at.more at.entry slot age at.split replied within (subst (λ (t : Told). is_attach slot age t.entry ≡ true) at.is f.attached) in
    let u : Content = unit_for o (reg o at.before) at.entry in
    let v : Content = (generation_of (state_of h) slot age).unit in
    let here = subst (λ (t : Told). All (IsFreshFor t.unit.slot t.unit.image) added) at.is f.fresh in
    subst (λ s. All (IsFreshFor s v.image) added) (sym on.slot) (subst (λ i. All (IsFreshFor u.slot i) added) (sym on.image) here)
