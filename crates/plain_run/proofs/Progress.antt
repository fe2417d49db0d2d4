-- How far a guest has come between two instructions.
use Rattle.std.proofs.Common.{◌≡◌, ℕ, ◌-◌, ◌<◌, zero, suc, Bool, List, [], ◌++◌, Option, None, refl, sym, ◌∙◌, ap, subst, arith, append_assoc}
use Rattle.std.proofs.lemmas.List.{append-nil}
use Rattle.probe_tools.specs.declared.tool.Tool.{Tool}
use Rattle.probe_tools.specs.Rows.{AreRows, Counts}
use Rattle.plain_machine.specs.declared.ends.End.{End}
use Rattle.plain_machine.specs.declared.ends.End.TheVariants as ends
use Rattle.plain_machine.specs.Region.{Area}
use Rattle.plain_machine.specs.Machine.{State, Setting}
use Rattle.plain_machine.specs.Run.{run}
use Rattle.plain_machine.specs.Cut.{marked_in, marked, with_marks, over}
use Rattle.plain_machine.specs.Own.{own_answers}
use Rattle.plain_machine.specs.Events.{events}
use Rattle.plain_machine.proofs.RunLaws.{run-zero, with-more}
use Rattle.plain_run.specs.Runs.{RunsFrom, states_of}
use Rattle.plain_run.proofs.Whole.{states-both, states-all, events-both}
use Rattle.plain_run.specs.declared.block.OpenBlock.{OpenBlock}
use Rattle.plain_run.specs.Places.{LiesAt}
use Rattle.plain_run.specs.Steps.{Moves, Finishes}

-- A run from s has come to now, with this block open, these counts, these files of the modules, and these map answers.
pub record Progress (w : Setting) (tool : Tool) (max fuel : ℕ) (s : State) (files : List ℕ) (left : ℕ) (block : OpenBlock) (now : State) (counts : Counts) (later before maps : List ℕ) : Type 0 where
  pub marks : List (State × Bool)
  pub taken : List ℕ
  pub took : maps ≡ before ++ taken
  pub own : (states : List State) → own_answers w files (states_of marks ++ states) ≡ taken ++ own_answers w later states
  pub region : Option Area
  pub lies : LiesAt block.region region
  pub seen : (answers : List ℕ) → marked max (run w fuel (taken ++ answers) s) ≡ with_marks marks (marked_in max block.room region (run w left answers now))
  pub rows : AreRows (events tool marks) counts

pub progress-start : (w : Setting) (tool : Tool) (max fuel : ℕ) (s : State) (files : List ℕ) (counts : Counts) (maps : List ℕ) → AreRows [] counts →
    Progress w tool max fuel s files fuel (record { room = 0; region = None }) s counts files maps maps
progress-start w tool max fuel s files counts maps are = record {
  marks = [];
  taken = [];
  took = sym (append-nil maps);
  own = λ states. refl;
  region = None;
  lies = tt;
  seen = λ answers. refl;
  rows = are;
}

-- one instruction more
moves-one : (w : Setting) (tool : Tool) (max fuel : ℕ) (s : State) (files : List ℕ) (left : ℕ) (block : OpenBlock) (now : State) (counts more : Counts) (later last before maps gained : List ℕ) (block_after : OpenBlock) (next : State) →
    (p : Progress w tool max fuel s files (suc left) block now counts later before maps) → Moves w tool max block p.region now block_after next counts more later last maps gained →
    Progress w tool max fuel s files left block_after next more last before gained
moves-one w tool max fuel s files left block now counts more later last before maps gained block_after next p m = record {
  marks = p.marks ++ m.marks;
  taken = p.taken ++ m.taken;
  took = m.took ∙ ap (λ xs. xs ++ m.taken) p.took ∙ append_assoc before p.taken m.taken;
  own = λ states.
      ap (own_answers w files) (states-both p.marks m.marks states)
      ∙ p.own (states_of m.marks ++ states)
      ∙ ap (λ xs. p.taken ++ xs) (m.own states)
      ∙ sym (append_assoc p.taken m.taken (own_answers w last states));
  region = m.region;
  lies = m.lies;
  seen = λ answers.
      ap (λ xs. marked max (run w fuel xs s)) (append_assoc p.taken m.taken answers)
      ∙ p.seen (m.taken ++ answers)
      ∙ ap (with_marks p.marks) (m.seen left answers)
      ∙ with-more p.marks m.marks (marked_in max block_after.room m.region (run w left answers next));
  rows = subst (λ es. AreRows es more) (sym (events-both tool p.marks m.marks)) (m.counted (events tool p.marks) p.rows);
}

pub progress-moves : (w : Setting) (tool : Tool) (max fuel : ℕ) (s : State) (files : List ℕ) (left less : ℕ) (block : OpenBlock) (now : State) (counts more : Counts) (later last before maps gained : List ℕ) (block_after : OpenBlock) (next : State) →
    0 < left → less ≡ left - 1 → (p : Progress w tool max fuel s files left block now counts later before maps) → Moves w tool max block p.region now block_after next counts more later last maps gained →
    Progress w tool max fuel s files less block_after next more last before gained
progress-moves w tool max fuel s files zero less block now counts more later last before maps gained block_after next some spent p m = absurd (omega arith)
progress-moves w tool max fuel s files (suc left) less block now counts more later last before maps gained block_after next some spent p m =
    let same : left ≡ less = omega arith in
    subst (λ n. Progress w tool max fuel s files n block_after next more last before gained) same (moves-one w tool max fuel s files left block now counts more later last before maps gained block_after next p m)

-- the end
pub progress-finishes : (w : Setting) (tool : Tool) (max fuel : ℕ) (s : State) (files : List ℕ) (left : ℕ) (block : OpenBlock) (now next : State) (counts more : Counts) (later before maps gained : List ℕ) (end : End) →
    0 < left → (p : Progress w tool max fuel s files left block now counts later before maps) → Finishes w tool max block p.region now next counts more later maps gained end →
    RunsFrom w tool max fuel s files before gained end next.io.output more
progress-finishes w tool max fuel s files zero block now next counts more later before maps gained end some p f = absurd (omega arith)
progress-finishes w tool max fuel s files (suc left) block now next counts more later before maps gained end some p f = record {
  marks = p.marks ++ f.marks;
  taken = p.taken;
  took = f.same ∙ p.took;
  own =
      sym (append-nil p.taken)
      ∙ ap (λ xs. p.taken ++ xs) (sym f.own)
      ∙ sym (p.own (states_of f.marks))
      ∙ ap (own_answers w files) (sym (states-all p.marks f.marks));
  seen =
      ap (λ xs. marked max (run w fuel xs s)) (sym (append-nil p.taken)) ∙ p.seen [] ∙ ap (with_marks p.marks) (f.seen left [])
      ∙ with-more p.marks f.marks (over end next.io.output []);
  rows = subst (λ es. AreRows es more) (sym (events-both tool p.marks f.marks)) (f.counted (events tool p.marks) p.rows);
}

-- the fuel is spent
pub progress-spent : (w : Setting) (tool : Tool) (max fuel : ℕ) (s : State) (files : List ℕ) (left : ℕ) (block : OpenBlock) (now : State) (counts : Counts) (later before maps : List ℕ) → left ≡ 0 →
    Progress w tool max fuel s files left block now counts later before maps → RunsFrom w tool max fuel s files before maps ends.Fuel now.io.output counts
progress-spent w tool max fuel s files (suc left) block now counts later before maps spent p = absurd (omega arith)
progress-spent w tool max fuel s files zero block now counts later before maps spent p = record {
  marks = p.marks;
  taken = p.taken;
  took = p.took;
  own = sym (append-nil p.taken) ∙ sym (p.own []) ∙ ap (own_answers w files) (append-nil (states_of p.marks));
  seen =
      ap (λ xs. marked max (run w fuel xs s)) (sym (append-nil p.taken)) ∙ p.seen [] ∙ ap (λ r. with_marks p.marks (marked_in max block.room p.region r)) (run-zero w [] now);
  rows = p.rows;
}
