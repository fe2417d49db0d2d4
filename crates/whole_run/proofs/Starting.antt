-- The registry of a run is made from the loads of its slots.
use Rattle.std.proofs.Common.{◌≡◌, inl, inr, ℕ, zero, suc, ◌+◌, ◌<◌, Bool, true, List, [], ◌∷◌, ◌++◌, length, get_or, take, add-one, map, option_map, refl, sym, ap, ◌∙◌, subst, arith, Option, Some, None, All}
use Rattle.std.specs.Prelude.{slice_get, slice_index_or}
use Rattle.std.proofs.lemmas.List.Elements.{All-push}
use Rattle.std.proofs.Math.Seq.{take-suc}
use Rattle.std.proofs.lemmas.Option.{slice_get-get_or, slice_get-map, unwrap_or-slice_get}
use Rattle.shelf_model.specs.declared.shelf.Area.{Area}
use Rattle.shelf_model.specs.Shelf.{Images}
use Rattle.unit_set.specs.Slot.{Slot, slot_text}
use Rattle.unit_set.specs.Held.{Held}
use Rattle.manifest.specs.Entries.{Listing}
use Rattle.plain_machine.specs.Program.{Program}
use Rattle.elf_map.specs.Program.{texts_of}
use Rattle.slot_list.specs.Laws as lists
use Rattle.publish.specs.declared.area.Standing.{Standing}
use Rattle.publish.specs.declared.area.Verdict.{Verdict}
use Rattle.publish.specs.declared.outcome.Loaded.{Loaded}
use Rattle.publish.specs.declared.outcome.Loaded.TheVariants.{Unread}
use Rattle.publish.specs.Load.{loaded_as}
use Rattle.publish.specs.Crash.{Fits}
use Rattle.registry.specs.Content.{Content, content_of}
use Rattle.registry.specs.Opening.{Opening, no_slot, slot_at}
use Rattle.registry.specs.History.{History, IsOpening}
use Rattle.publisher.specs.declared.loads.Load.{Load}
use Rattle.publisher.specs.Loads.{IsLoaded, Loads, blank, contents_of, load_at, name_at}
use Rattle.publisher.specs.Serving.{AreDistinct, seqs_of, standing_at}
use Rattle.publisher.proofs.Opens.{fits_of_loads}
use Rattle.whole_run.specs.Job.{Job, job_of, slots_in_job}
use Rattle.whole_run.specs.Shelf.{IsOpened, Opened, Seen, seq_loaded}
use Rattle.whole_run.specs.Whole.{Opens, opened_at}
use Rattle.whole_run.specs.Start.{IsStart}

-- ---- lists

content_at : (found : List (Option Held)) (k : ℕ) → slice_index_or (contents_of found) k None ≡ option_map content_of (slice_index_or found k None)
content_at [] k = refl
content_at (u ∷ us) zero = refl
content_at (u ∷ us) (suc k) = content_at us k

-- what is read off items of two lists is the same
maps_same : {X Y Z : Type 0} (f : X → Z) (g : Y → Z) (xs : List X) (ys : List Y) (x0 : X) (y0 : Y) → length xs ≡ length ys
    → ((k : ℕ) → k < length xs → f (slice_index_or xs k x0) ≡ g (slice_index_or ys k y0)) → map f xs ≡ map g ys
maps_same f g [] [] x0 y0 long each = refl
maps_same f g [] (y ∷ ys) x0 y0 long each = absurd (omega (arith, long))
maps_same f g (x ∷ xs) [] x0 y0 long each = absurd (omega (arith, long))
maps_same f g (x ∷ xs) (y ∷ ys) x0 y0 long each =
    let rest = maps_same f g xs ys x0 y0 (omega (arith, long)) (λ k within. each (suc k) (omega (arith, within))) in
    ap (λ z. z ∷ map f xs) (each 0 (omega arith)) ∙ ap (λ zs. g y ∷ zs) rest

-- one more of which it holds
pub all_more : {A : Type 0} (P : A → Type 0) (xs : List A) (i : ℕ) (x : A) → i < length xs → x ≡ get_or xs i x → All P (take i xs) → P x → All P (take (i + 1) xs)
all_more P xs i x within is all here =
    let e : take (i + 1) xs ≡ take i xs ++ x ∷ [] = rw add-one (take-suc xs i x within ∙ ap (λ y. take i xs ++ y ∷ []) (sym is)) in
    subst (λ ys. All P ys) (sym e) (All-push P (take i xs) x all here)

-- no two slots of an opening have one spelling
pub apart : (o : Opening) (slots : List Slot) → o.slots ≡ slots → lists.AreDistinct (map slot_text slots) → AreDistinct o
apart o slots is differ j k within_j within_k same =
    let at : (n : ℕ) → n < length o.slots → slice_get (map slot_text slots) n ≡ Some (slot_text (slot_at o n)) =
    λ n within. ap (λ (xs : List Slot). slice_get (map slot_text xs) n) (sym is)
    ∙ (slice_get-map slot_text o.slots n ∙ ap (option_map slot_text) (slice_get-get_or o.slots n no_slot within ∙ ap Some (sym (unwrap_or-slice_get o.slots n no_slot)))) in
    differ j k (slot_text (slot_at o k)) (at j within_j ∙ ap Some same) (at k within_k)

-- ---- one slot

seq_by : (held : Option Area) (seq : ℕ) (a b : Verdict) → (held ≡ None → seq ≡ 0) → seq ≡ seq_loaded (loaded_as held seq a b)
seq_by None seq a b unheld = unheld refl
seq_by (Some area) seq a b unheld = refl

-- a load as the registry takes it
abbrev opened_of : Load → Opened
opened_of x = record { loaded = x.loaded; found = option_map content_of x.found; shut = x.shut }

module _ (s : Seen) (t : ℕ) (images : Images) where
  abbrev IsLoadOf : Slot → Load → Type 0
  IsLoadOf slot x = IsLoaded s.told_before s.told_after t images s.faults_before s.faults_after slot x

  seq_of_load : (slot : Slot) (x : Load) → IsLoadOf slot x → x.standing.seq ≡ seq_loaded x.loaded
  seq_of_load slot x (inl r) =
      ap (λ (y : Load). y.standing.seq) r.is
      ∙ (seq_by r.answer.standing.held r.answer.standing.seq r.answer.a r.answer.b r.unheld ∙ ap (λ (y : Load). seq_loaded y.loaded) (sym r.is))
  seq_of_load slot x (inr u) = ap (λ (y : Load). y.standing.seq) u.is ∙ ap (λ (y : Load). seq_loaded y.loaded) (sym u.is)

  opened_so : (slot : Slot) (x : Load) → IsLoadOf slot x → IsOpened s slot (opened_of x)
  opened_so slot x (inl r) = inl (record { answer = r.answer; finds = r.finds; is = ap (λ (y : Load). opened_of y) r.is })
  opened_so slot x (inr u) = inr (record { rose = u.rose; is = ap (λ (y : Load). opened_of y) u.is })

module _ (s : Seen) (t : ℕ) (images : Images) (slots : List Slot) (l : Loads) (each : (k : ℕ) → k < length slots → IsLoaded s.told_before s.told_after t images s.faults_before s.faults_after (name_at slots k) (load_at l k)) where
  -- the seqs that are kept are those that are told
  seqs_same : length l.loaded ≡ length slots → length l.standings ≡ length slots → seqs_of l.standings ≡ map seq_loaded l.loaded
  seqs_same loaded standings =
      maps_same (λ s. s.seq) seq_loaded l.standings l.loaded blank Unread (standings ∙ sym loaded)
      (λ k within. seq_of_load s t images (name_at slots k) (load_at l k) (each k (omega (arith, within, standings))))

  -- a load is told as the registry takes it
  opened_by : (o : Opening) → o.slots ≡ slots → o.found ≡ contents_of l.found → o.shut ≡ l.shut → (k : ℕ) → k < length o.slots → IsOpened s (slot_at o k) (opened_at o l.loaded k)
  opened_by o is_slots is_found is_shut k within =
      let x : Load = load_at l k in
      let is : opened_at o l.loaded k ≡ opened_of x =
      ap (λ (us : List (Option Content)). let y : Opened = record { loaded = x.loaded; found = slice_index_or us k None; shut = slice_index_or o.shut k true } in y) is_found
      ∙ (ap (λ (u : Option Content). let y : Opened = record { loaded = x.loaded; found = u; shut = slice_index_or o.shut k true } in y) (content_at l.found k)
      ∙ ap (λ (bs : List Bool). let y : Opened = record { loaded = x.loaded; found = option_map content_of x.found; shut = slice_index_or bs k true } in y) is_shut) in
      let there : k < length slots = subst (λ (xs : List Slot). k < length xs) is_slots within in
      subst (λ (xs : List Slot). IsOpened s (name_at xs k) (opened_at o l.loaded k)) (sym is_slots)
      (subst (λ y. IsOpened s (name_at slots k) y) (sym is) (opened_so s t images (name_at slots k) x (each k there)))

  pub starts : (j : Job) (h : History) (o : Opening) (loads : List Loaded) (standings : List Standing) → h ≡ record { opening = o; journal = [] } → loads ≡ l.loaded → standings ≡ l.standings
      → o.slots ≡ slots → o.found ≡ contents_of l.found → o.shut ≡ l.shut → slots ≡ slots_in_job j → o.modules ≡ map (λ m. m.file) j.listing.modules → o.codes ≡ map texts_of j.programs
      → length l.loaded ≡ length slots → length l.standings ≡ length slots → IsOpening o → lists.AreDistinct (map slot_text slots) → IsStart j s t images loads standings h
  starts j h o loads standings is_h is_loads is_standings is_slots is_found is_shut all modules codes loaded_each standings_each is differ =
      let long : length o.slots ≡ length slots = ap (λ (xs : List Slot). length xs) is_slots in
      let opens : Opens j s l.loaded o = record {
        slots = is_slots ∙ all;
        modules = modules;
        codes = codes;
        each = loaded_each ∙ sym long;
        is = is;
        opened = opened_by o is_slots is_found is_shut;
      } in
      let start : IsStart j s t images l.loaded l.standings (record { opening = o; journal = [] }) = record {
        empty = refl;
        opens = opens;
        apart = apart o slots is_slots differ;
        each = standings_each ∙ sym long;
        seqs = seqs_same loaded_each standings_each;
        fits = λ k within opened.
            subst (λ (xs : List Slot). Fits s.told_after images t (name_at xs k) (standing_at l.standings k)) (sym is_slots)
            (fits_of_loads s.told_before s.told_after t images s.faults_before s.faults_after slots l k (each k (omega (arith, within, long))) (ap (λ (bs : List Bool). slice_index_or bs k true) (sym is_shut) ∙ opened));
      } in
      subst (λ x. IsStart j s t images loads standings x) (sym is_h)
      (subst (λ xs. IsStart j s t images xs standings (record { opening = o; journal = [] })) (sym is_loads)
      (subst (λ xs. IsStart j s t images l.loaded xs (record { opening = o; journal = [] })) (sym is_standings) start))

-- over the same programs
pub start_for : (l : Listing) (elfs elfs' : List Program) (inputs : List (List ℕ)) (s : Seen) (t : ℕ) (images : Images) (loads : List Loaded) (standings : List Standing) (h : History) → elfs ≡ elfs'
    → ((inputs : List (List ℕ)) → IsStart (job_of l elfs inputs) s t images loads standings h) → IsStart (job_of l elfs' inputs) s t images loads standings h
start_for l elfs elfs' inputs s t images loads standings h same start = subst (λ es. IsStart (job_of l es inputs) s t images loads standings h) same (start inputs)

-- ---- the files of modules

-- each module's file is there
pub files_there : {A : Type 0} (files : List ℕ) (codes : List A) (n : ℕ) → All (λ file. file < n) files → length codes ≡ n → All (λ file. file < length codes) files
files_there files codes n all is = subst (λ m. All (λ file. file < m) files) (sym is) all
