-- Counts of own entries.
use Rattle.std.proofs.Common.{◌≡◌, ℕ, ◌+◌, ◌≤◌, ◌&&◌, ◌==◌, cond, Bool, true, false, List, [], ◌∷◌, ◌++◌, refl, sym, ap, ◌∙◌, subst, arith, count_by, eq-eqb, eqb-true}
use Rattle.std.proofs.lemmas.List.Sums.{sum_by-append}
use Rattle.std.proofs.lemmas.List.Elements.{Contains-append_left, Contains-append_right}
use Rattle.std.proofs.lemmas.Bool.{and_parts}
use Rattle.registry.specs.declared.entry.Entry.{Entry}
use Rattle.registry.specs.declared.entry.Entry.TheVariants.{Attach, Detach}
use Rattle.registry.specs.Opening.{Opening}
use Rattle.registry.specs.State.{State}
use Rattle.registry.specs.Registry.{Told, after, opened, told, told_all}
use Rattle.registry.specs.History.{is_attach, is_detach}
use Rattle.registrar.specs.Calls.{AreCovered, HoldsOwn, attaches, detaches, handing, plain}
use Rattle.registrar.specs.Laws.{AttachedIsFresh, AttachedIsHeld, CoveredLetGo, CoveredStays, FreshStays, HeldStays, RegistryIsCovered}

abbrev one : Bool → ℕ
one b = cond b 1 0

count-snoc : {A : Type 0} (p : A → Bool) (xs : List A) (x : A) → count_by p (xs ++ x ∷ []) ≡ count_by p xs + one (p x)
count-snoc p xs x = grind (arith, sum_by-append (λ y. cond (p y) 1 0) xs (x ∷ []))

count-cons : {A : Type 0} (p : A → Bool) (x : A) (xs : List A) → count_by p (x ∷ xs) ≡ one (p x) + count_by p xs
count-cons p x xs = grind (arith, sum_by-append (λ y. cond (p y) 1 0) (x ∷ []) xs)

-- told entries are counted as the entries
pub count-told : (p : Entry → Bool) (o : Opening) (s : State) (es : List Entry) → count_by (λ t. p t.entry) (told_all o s es) ≡ count_by p es
count-told p o s [] = refl
count-told p o s (e ∷ es) =
    let front = count-cons (λ (t : Told). p t.entry) (told o s e) (told_all o (after o s e) es) in
    omega (arith, front, count-cons p e es, count-told p o (after o s e) es)

module _ (own : List Told) (t : Told) (slot age : ℕ) where
  more_attaches : attaches slot age (own ++ t ∷ []) ≡ attaches slot age own + one (is_attach slot age t.entry)
  more_attaches = count-snoc (λ (x : Told). is_attach slot age x.entry) own t

  more_detaches : detaches slot age (own ++ t ∷ []) ≡ detaches slot age own + one (is_detach slot age t.entry)
  more_detaches = count-snoc (λ (x : Told). is_detach slot age x.entry) own t

attached_by : (slot age guest file version : ℕ) → is_attach slot age (Attach guest slot file age version) ≡ true
attached_by slot age guest file version = ap (λ b. b && (age == age)) (eq-eqb slot slot refl) ∙ eq-eqb age age refl

pub attached-is-held : AttachedIsHeld
attached-is-held own guest slot file age version unit covered =
    let t = handing (Attach guest slot file age version) unit in
    omega (arith, covered slot age, more_attaches own t slot age, more_detaches own t slot age, ap one (attached_by slot age guest file version))

pub attached-is-fresh : AttachedIsFresh
attached-is-fresh own guest slot file age version unit added all =
    let t = handing (Attach guest slot file age version) unit in
    record { told = t; there = Contains-append_right own (t ∷ []) t (0, omega arith, refl); attached = attached_by slot age guest file version; fresh = all }

pub held-stays : HeldStays
held-stays own t slot age other held = omega (arith, held, more_attaches own t slot age, more_detaches own t slot age, ap one other)

pub fresh-stays : FreshStays
fresh-stays own more slot age added f = record { told = f.told; there = Contains-append_left own more f.told f.there; attached = f.attached; fresh = f.fresh }

pub covered-stays : CoveredStays
covered-stays own t other covered slot age =
    omega (arith, covered slot age, more_attaches own t slot age, more_detaches own t slot age, ap one (other slot age))

let_go_by : (own : List Told) (t : Told) (s a slot age : ℕ) (b : Bool) → is_detach s a t.entry ≡ b → (b ≡ true → (s ≡ slot) × (a ≡ age)) → HoldsOwn slot age own → AreCovered own
    → detaches s a (own ++ t ∷ []) ≤ attaches s a (own ++ t ∷ [])
let_go_by own t s a slot age true is same held covered =
    let e = same refl in
    let here = subst (λ n. HoldsOwn n a own) (sym e.0) (subst (λ n. HoldsOwn slot n own) (sym e.1) held) in
    omega (arith, here, more_attaches own t s a, more_detaches own t s a, ap one is)
let_go_by own t s a slot age false is same held covered = omega (arith, covered s a, more_attaches own t s a, more_detaches own t s a, ap one is)

pub covered-let-go : CoveredLetGo
covered-let-go own guest slot age held covered s a =
    let_go_by own (plain (Detach guest slot age)) s a slot age ((slot == s) && (age == a)) refl
    (λ is. let parts = and_parts _ _ is in (sym (eqb-true slot s parts.0), sym (eqb-true age a parts.1))) held covered

pub registry-is-covered : RegistryIsCovered
registry-is-covered h counted slot age =
    omega (arith, counted.attached slot age, count-told (is_detach slot age) h.opening (opened h.opening) h.journal, count-told (is_attach slot age) h.opening (opened h.opening) h.journal)
