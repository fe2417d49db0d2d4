-- A guest is handed in and told by its row.
use Rattle.std.proofs.Common.{◌≡◌, ℕ, zero, suc, ◌<◌, ◌≤◌, List, [], ◌∷◌, length, map, refl, sym, ap, ◌∙◌, subst, arith, slice_get, Option, Some, None, Result, Ok, Err, IfOk, OnOk, Vec, Global}
use Rattle.std.specs.Prelude.{IfSome}
use Rattle.std.proofs.lemmas.List.{length-map}
use Rattle.rv_decode.specs.declared.ins.Isa.{Isa}
use Rattle.probe_tools.specs.declared.tool.Tool.{Tool}
use Rattle.manifest.specs.Entries.{GuestEntry, Listing}
use Rattle.manifest.specs.Manifest.{module_names}
use Rattle.plain_machine.specs.Machine.{Guest}
use Rattle.elf_map.specs.Program.{texts_of}
use Rattle.slot_list.specs.Recipe.{Recipe, recipe_of}
use Rattle.slot_list.specs.Laws.{AreDistinct, RecipesAreListed, SegmentsAreNumbered, SlotsDiffer}
use Rattle.block_ledger.specs.Traced.{Scheme}
use Rattle.registry.specs.Opening.{Opening}
use Rattle.registry.specs.Registry.{Told, opened, told_all}
use Rattle.registry.specs.History.{History, state_of}
use Rattle.guest_rounds.specs.Rounds.{AreCalls, AreFree, AreTold}
use Rattle.guest_proc.specs.Started.{scheme_for}
use Rattle.guest_answers.specs.Begin.{guest_of}
use Rattle.guest_answers.specs.Plan.{Fits, Plan, caller_of}
use Rattle.guest_loop.specs.declared.guest.Ran.{Ran}
use Rattle.guest_loop.specs.declared.guest.Work.{Work}
use Rattle.guest_loop.specs.Guest.{IsToldBy, caller_for}
use Rattle.whole_run.specs.Job.{IsToldOf, Job, guest_for, input_of, plan_of, rounds_of, scheme_in, slots_in_job, tells}
use Rattle.whole_run.specs.Crew.{HaveRun, IsWork, IsWorkOf, MayRun}

-- ---- rows

some_by : {A : Type 0} (x : Option A) (P : A → Type 0) → ((a : A) → x ≡ Some a → P a) → IfSome x P
some_by None P all = tt
some_by (Some a) P all = all a refl

some_at : {A : Type 0} (x : Option A) (a : A) (P : A → Type 0) → x ≡ Some a → IfSome x P → P a
some_at x a P is h = subst (λ o. IfSome o P) is h

at_within : {A : Type 0} (xs : List A) (i : ℕ) → i < length xs → (x : A) × (slice_get xs i ≡ Some x)
at_within [] i within = absurd (omega arith)
at_within (x ∷ xs) zero within = (x, refl)
at_within (x ∷ xs) (suc i) within = at_within xs i (omega arith)

-- ---- what a guest is handed in with is what its row says

recipe_same : (i i' : Isa) (t t' : Tool) (m m' : ℕ) → i ≡ i' → t ≡ t' → m ≡ m' → (let r : Recipe = record { isa = i; tool = t; max = m } in r) ≡ record { isa = i'; tool = t'; max = m' }
recipe_same i i' t t' m m' ei et em = rw (ei, et, em) refl

guest_same : (i i' : Isa) (k k' s s' : ℕ) (x x' : List ℕ) (f f' : ℕ) → i ≡ i' → k ≡ k' → s ≡ s' → x ≡ x' → f ≡ f'
    → (let g : Guest = record { isa = i; program = k; stack = s; input = x; fuel = f } in g) ≡ record { isa = i'; program = k'; stack = s'; input = x'; fuel = f' }
guest_same i i' k k' s s' x x' f f' ei ek es ex ef = rw (ei, ek, es, ex, ef) refl

scheme_same : (t t' : Tool) (m m' p p' : ℕ) → t ≡ t' → m ≡ m' → p ≡ p' → (let s : Scheme = record { tool = t; max = m; pool = p } in s) ≡ record { tool = t'; max = m'; pool = p' }
scheme_same t t' m m' p p' et em ep = rw (et, em, ep) refl

module _ (g : ℕ) (input : List ℕ) (work : Work) (row : GuestEntry) (w : IsWork g input work row) where
  row_caller : (plan : Plan) → caller_for plan work.guest work.setup ≡ caller_of plan g (recipe_of row)
  row_caller plan =
      ap (λ n. caller_for plan n work.setup) w.number
      ∙ ap (λ (r : Recipe). caller_of plan g r) (recipe_same work.setup.isa row.isa work.setup.tool row.tool work.setup.max row.max w.isa w.tool w.max)

  row_guest : guest_of work.«module» work.setup ≡ guest_for row input
  row_guest =
      guest_same work.setup.isa row.isa work.«module» row.«module» work.setup.stack row.stack work.setup.input input work.setup.fuel row.fuel w.isa w.program w.stack w.reads w.fuel

  row_scheme : scheme_for work.setup ≡ scheme_in row
  row_scheme = scheme_same work.setup.tool row.tool work.setup.max row.max work.setup.pool row.pool w.tool w.max w.pool

  told_row : (j : Job) (own : List Told) (ran : Ran) → input ≡ input_of j g → ran.end.name ≡ work.name
      → IsToldBy (plan_of j) (caller_for (plan_of j) work.guest work.setup) (guest_of work.«module» work.setup) (scheme_for work.setup) own ran → IsToldOf j g own ran row
  told_row j own ran reads name told =
      let c = caller_of (plan_of j) g (recipe_of row) in
      record {
        name = name ∙ w.name;
        told = subst (λ x. IsToldBy (plan_of j) c (guest_for row x) (scheme_in row) own ran) reads
            (subst (λ s. IsToldBy (plan_of j) c (guest_for row input) s own ran) row_scheme
            (subst (λ x. IsToldBy (plan_of j) c x (scheme_for work.setup) own ran) row_guest
            (subst (λ x. IsToldBy (plan_of j) x (guest_of work.«module» work.setup) (scheme_for work.setup) own ran) (row_caller (plan_of j)) told)));
      }

-- a guest that was told by what it was handed in with is told by its number
pub tells_of : (j : Job) (g : ℕ) (input : List ℕ) (work : Work) (own : List Told) (ran : Ran) → input ≡ input_of j g → IsWorkOf j.listing g input work → ran.end.name ≡ work.name
    → IsToldBy (plan_of j) (caller_for (plan_of j) work.guest work.setup) (guest_of work.«module» work.setup) (scheme_for work.setup) own ran → tells j g own ran
tells_of j g input work own ran reads is name told =
    some_by (slice_get j.listing.guests g) (IsToldOf j g own ran)
    (λ row at. told_row g input work row (some_at (slice_get j.listing.guests g) row (IsWork g input work) at is) j own ran reads name told)

-- the same, where the plan and the rows are kept apart
pub tells_by : (j : Job) (plan : Plan) (l : Listing) (g : ℕ) (input : List ℕ) (work : Work) (own : List Told) (ran : Ran) → plan ≡ plan_of j → l ≡ j.listing → input ≡ input_of j g → IsWorkOf l g input work
    → ran.end.name ≡ work.name → IsToldBy plan (caller_for plan work.guest work.setup) (guest_of work.«module» work.setup) (scheme_for work.setup) own ran → tells j g own ran
tells_by j plan l g input work own ran is_plan is_l reads is name told =
    tells_of j g input work own ran reads (subst (λ x. IsWorkOf x g input work) is_l is) name
    (subst (λ p. IsToldBy p (caller_for p work.guest work.setup) (guest_of work.«module» work.setup) (scheme_for work.setup) own ran) is_plan told)

-- of three answers that a call gives
pub ok_by : {T E : Type 0} (r : Result T E) (P Q S : T → Type 0) (R : Type 0) → IfOk r P → IfOk r Q → OnOk r R → ((x : T) → P x → Q x → R → S x) → IfOk r S
ok_by (Ok x) P Q S R p q r f = f x p q r
ok_by (Err e) P Q S R p q r f = tt

pub all_ran : {E : Type 0} (r : Result (Vec Ran Global) E) (j j' : Job) (rounds : List ℕ) (old new : History) → j' ≡ j → rounds ≡ rounds_of j → IfOk r (λ v. length v.items ≡ length rounds)
    → IfOk r (λ v. AreTold (tells j') (told_all old.opening (opened old.opening) new.journal) v.items) → AreCalls rounds old.opening new → OnOk r (AreFree (state_of new)) → IfOk r (λ v. HaveRun j old new v.items)
all_ran r j j' rounds old new same is each told calls free =
    ok_by r _ _ (λ v. HaveRun j old new v.items) _ each told free (λ v each told free. record {
      calls = subst (λ xs. AreCalls xs old.opening new) is calls;
      one_each = each ∙ (ap length is ∙ length-map j.listing.guests (λ g. g.round));
      told = subst (λ x. AreTold (tells x) (told_all old.opening (opened old.opening) new.journal) v.items) same told;
      free = free;
    })

-- ---- what it may run over

pub fits_work : (j : Job) (o : Opening) (g : ℕ) (input : List ℕ) (work : Work) → MayRun j o g → IsWorkOf j.listing g input work → Fits (plan_of j) (caller_for (plan_of j) work.guest work.setup) o
fits_work j o g input work may is =
    let at = at_within j.listing.guests g may.there in
    let w = some_at (slice_get j.listing.guests g) at.0 (IsWork g input work) at.1 is in
    subst (λ c. Fits (plan_of j) c o) (sym (row_caller g input work at.0 w (plan_of j))) (some_at (slice_get j.listing.guests g) at.0 (λ row. Fits (plan_of j) (caller_of (plan_of j) g (recipe_of row)) o) at.1 may.fits)

-- a registry that was made from the job has slots for each guest
pub may_run : (j : Job) (o : Opening) (g : ℕ) → SlotsDiffer → RecipesAreListed → SegmentsAreNumbered → AreDistinct (module_names j.listing.modules) → length j.listing.modules ≤ 32
    → o.slots ≡ slots_in_job j → o.codes ≡ map texts_of j.programs → length o.modules ≡ length j.listing.modules → g < length j.listing.guests → MayRun j o g
may_run j o g differ listed numbered names few slots codes modules there = record {
  there = there;
  fits = some_by (slice_get j.listing.guests g) (λ row. Fits (plan_of j) (caller_of (plan_of j) g (recipe_of row)) o) (λ row at. record {
    slots = slots;
    codes = codes;
    modules = modules;
    few = few;
    names = names;
    apart = differ j.listing.modules j.listing.guests j.programs names;
    segs = λ f elf is. numbered j.programs f elf is;
    listed = listed j.listing.guests g row at;
  });
}

-- what is handed in is what the row of this number says
pub work_at : (l : Listing) (g : ℕ) (input : List ℕ) (work : Work) (row : GuestEntry) → slice_get l.guests g ≡ Some row → IsWork g input work row → IsWorkOf l g input work
work_at l g input work row at is = subst (λ o. IfSome o (IsWork g input work)) (sym at) is
