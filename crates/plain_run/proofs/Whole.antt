-- What a run comes to.
use Rattle.std.proofs.Common.{◌≡◌, ℕ, Bool, List, [], ◌∷◌, ◌++◌, Option, Some, None, refl, sym, ◌∙◌, ap, subst}
use Rattle.std.specs.Prelude.{slice_get}
use Rattle.std.proofs.lemmas.List.{append-nil}
use Rattle.std.proofs.lemmas.List.Concat.{flat_map-append}
use Rattle.std.specs.FinMap as fin
use Rattle.std.specs.Ordering.{nat_cmp}
use Rattle.std.specs.Option.{option_to_list}
use Rattle.probe_tools.specs.declared.tool.Tool.{Tool}
use Rattle.probe_tools.specs.Rows.{AreRows, Counts}
use Rattle.plain_machine.specs.declared.ends.End.{End}
use Rattle.plain_machine.specs.declared.ends.End.TheVariants as ends
use Rattle.plain_machine.specs.Region.{Area}
use Rattle.plain_machine.specs.Program.{Program}
use Rattle.plain_machine.specs.Machine.{Setting, State, Guest, base_at, file_at, start}
use Rattle.plain_machine.specs.Run.{Run, run, plain, run_of, run_from, unstarted}
use Rattle.plain_machine.specs.Plain.{IsPlainRun}
use Rattle.plain_machine.specs.Cut.{Marked, cut}
use Rattle.plain_machine.specs.Own.{own_answers}
use Rattle.plain_machine.specs.Events.{events, seen}
use Rattle.plain_run.specs.Runs.{RunsFrom, states_of}

pub states-both : (xs ys : List (State × Bool)) (states : List State) → states_of (xs ++ ys) ++ states ≡ states_of xs ++ (states_of ys ++ states)
states-both [] ys states = refl
states-both (x ∷ xs) ys states = ap (λ zs. x.0 ∷ zs) (states-both xs ys states)

pub states-all : (xs ys : List (State × Bool)) → states_of (xs ++ ys) ≡ states_of xs ++ states_of ys
states-all [] ys = refl
states-all (x ∷ xs) ys = ap (λ zs. x.0 ∷ zs) (states-all xs ys)

pub events-both : (tool : Tool) (xs ys : List (State × Bool)) → events tool (xs ++ ys) ≡ events tool xs ++ events tool ys
events-both tool xs ys = flat_map-append (seen tool) xs ys

-- ---- the whole run

-- the states of a cut are those that were cut
pub cut-states : (max : ℕ) (states : List State) (room : ℕ) (place : Option Area) → states_of (cut max room place states) ≡ states
cut-states max [] room place = refl
cut-states max (s ∷ states) room place = ap (λ xs. s ∷ xs) (cut-states max states _ _)

-- no row for no event
pub no-rows : (counts : Counts) → counts ≡ fin.empty → AreRows [] counts
no-rows counts empty key = ap (λ c. fin.get c key) empty ∙ fin.get-empty nat_cmp key

-- the whole run of a guest that was placed
pub run-whole : (w : Setting) (g : Guest) (tool : Tool) (max f base : ℕ) (program : Program) (s : State) (maps : List ℕ) (end : End) (output : List ℕ) (counts : Counts) →
    base_at w g.program ≡ Some base → file_at w f ≡ Some program → start g f base program ≡ Some s → slice_get (f ∷ []) g.program ≡ Some f →
    RunsFrom w tool max g.fuel s (f ∷ []) (f ∷ []) maps end output counts → IsPlainRun w g tool max (f ∷ []) maps end output counts
run-whole w g tool max f base program s maps end output counts at_base at_file starts own_file r =
    let whole : plain w g maps ≡ run w g.fuel r.taken s =
    ap (plain w g) r.took
    ∙ ap (λ o. run_of w g f r.taken o (file_at w f)) at_base
    ∙ ap (run_of w g f r.taken (Some base)) at_file
    ∙ ap (run_from w g r.taken) starts in
    let marks : cut max 0 None (run w g.fuel r.taken s).states ≡ r.marks = ap (λ (v : Marked). v.marks) r.seen ∙ append-nil r.marks in
    let states : states_of r.marks ≡ (plain w g maps).states =
    ap states_of (sym marks) ∙ cut-states max (run w g.fuel r.taken s).states 0 None ∙ ap (λ (x : Run). x.states) (sym whole) in
    record {
      own =
          r.took
          ∙ ap (λ xs. f ∷ xs) (r.own ∙ ap (own_answers w (f ∷ [])) states)
          ∙ ap (λ o. option_to_list o ++ own_answers w (f ∷ []) (plain w g maps).states) (sym own_file);
      complete = record {
        ends = ap (λ (x : Run). x.end) whole ∙ ap (λ (v : Marked). v.end) r.seen;
        took_all = ap (λ (x : Run). x.left) whole ∙ ap (λ (v : Marked). v.left) r.seen;
      };
      wrote = ap (λ (x : Run). x.output) whole ∙ ap (λ (v : Marked). v.output) r.seen;
      rows = subst (λ xs. AreRows (events tool xs) counts) (sym (ap (λ (x : Run). cut max 0 None x.states) whole ∙ marks)) r.rows;
    }

-- the run of a guest that cannot be placed
pub run-unplaced : (w : Setting) (g : Guest) (tool : Tool) (max f base : ℕ) (program : Program) (output : List ℕ) (counts : Counts) →
    base_at w g.program ≡ Some base → file_at w f ≡ Some program → start g f base program ≡ None → slice_get (f ∷ []) g.program ≡ Some f → output ≡ [] → counts ≡ fin.empty →
    IsPlainRun w g tool max (f ∷ []) (f ∷ []) ends.Unplaced output counts
run-unplaced w g tool max f base program output counts at_base at_file starts own_file nothing empty =
    let whole : plain w g (f ∷ []) ≡ unstarted (Some ends.Unplaced) [] =
    ap (λ o. run_of w g f [] o (file_at w f)) at_base
    ∙ ap (run_of w g f [] (Some base)) at_file
    ∙ ap (run_from w g []) starts in
    record {
      own =
          ap (λ o. option_to_list o ++ []) (sym own_file)
          ∙ ap (λ (x : Run). option_to_list (slice_get (f ∷ []) g.program) ++ own_answers w (f ∷ []) x.states) (sym whole);
      complete = record { ends = ap (λ (x : Run). x.end) whole; took_all = ap (λ (x : Run). x.left) whole };
      wrote = ap (λ (x : Run). x.output) whole ∙ sym nothing;
      rows = subst (λ (x : Run). AreRows (events tool (cut max 0 None x.states)) counts) (sym whole) (no-rows counts empty);
    }

-- the same run, with its fuel, file and first answers by other names
pub runs-as : (w : Setting) (tool : Tool) (max : ℕ) (s : State) (maps : List ℕ) (end : End) (output : List ℕ) (counts : Counts) (fuel fuel' f f' : ℕ) (before : List ℕ) → fuel ≡ fuel' → f ≡ f' → before ≡ f' ∷ [] →
    RunsFrom w tool max fuel s (f ∷ []) before maps end output counts → RunsFrom w tool max fuel' s (f' ∷ []) (f' ∷ []) maps end output counts
runs-as w tool max s maps end output counts fuel fuel' f f' before a b c r =
    subst (λ n. RunsFrom w tool max n s (f' ∷ []) (f' ∷ []) maps end output counts) a
    (subst (λ x. RunsFrom w tool max fuel s (x ∷ []) (f' ∷ []) maps end output counts) b
    (subst (λ xs. RunsFrom w tool max fuel s (f ∷ []) xs maps end output counts) c r))
