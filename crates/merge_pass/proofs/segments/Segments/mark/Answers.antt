use Rattle.std.proofs.Common.{◌≡◌, ◌∙◌, sym, ap, subst, rules, ℕ, Some, None, Ok, Err}
use Rattle.std.specs.Prelude.{cond, OnOk, OnErr, Result, Option}
use Rattle.std.specs.Option.{option_copied_mut}
use Rattle.std.specs.Ordering.{nat_cmp}
use Rattle.std.specs.Map.{lookup}
use Rattle.std.specs.BTreeMap.{is_at}
use Rattle.std.specs.FinMap as fin
use Rattle.block_ledger.specs.Ledger.{Segment}
use Rattle.merge_pass.specs.Segments.{marked}
use Rattle.merge_pass.proofs.Maps.{get_seen, insert_seen}
use Rattle.merge_pass.proofs.Removing.{put-same}
use Rattle.merge_pass.proofs.segments.Segments.mark.Goals.{in-Some, in-None}
use Rattle.merge_pass.proofs.segments.Segments.mark.Goals as goal

on_ok : {A E : Type 0} {P Q : Type 0} (r : Result A E) → (P → Q) → OnOk r P → OnOk r Q
on_ok (Ok v) f p = f p
on_ok (Err e) f p = p

pub returns-clause-ok : goal.returns-clause-ok
returns-clause-ok c =
    let n = c.args.number in
    let old = c.self.inside.map.entries in
    let same : (o : Option Segment) → option_copied_mut c.get_mut.result ≡ o → fin.get c.args.self.now n ≡ o =
    λ o e. sym (ap (λ m. fin.get m n) c.self.view_is) ∙ get_seen old n ∙ sym c.get_mut.ensures.value ∙ e in
    elim c.match-get_mut.branch [
      | in-Some w ↦
          let new = w.mark.new.self in
          let seg = w.in-Some.segment.now in
          let after : (q : ℕ) → lookup (is_at (nat_cmp q)) (c.get_mut.follows.lender new).entries ≡ cond (is_at (nat_cmp n) q) (Some new) (lookup (is_at (nat_cmp q)) old) =
          ((c.get_mut.follows.holds new).3 (search rules)).0 in
          let got = same (Some seg) (ap option_copied_mut w.in-Some.is) in
          subst (λ r. OnOk r (fin.from_entries c.match-get_mut.self-inside.map.entries ≡ marked n c.args.addrs.now (fin.get c.args.self.now n) c.args.self.now)) (sym w.result-is)
          (on_ok w.mark.result (λ e.
          ap (λ s. fin.from_entries s.map.entries) w.self-inside-is
          ∙ insert_seen old (c.get_mut.follows.lender new).entries n new after
          ∙ (λ i. fin.insert (c.self.view_is i) n (e i))
          ∙ ap (λ o. marked n c.args.addrs.now o c.args.self.now) (sym got)) w.mark.ensures.ok)
      | in-None w ↦
          let got = same None (ap option_copied_mut w.in-None.is) in
          let kept : c.get_mut.follows.lender-at-none ≡ c.self.inside.map = c.get_mut.follows.holds-at-none in
          subst (λ r. OnOk r (fin.from_entries c.match-get_mut.self-inside.map.entries ≡ marked n c.args.addrs.now (fin.get c.args.self.now n) c.args.self.now)) (sym w.result-is)
          (ap (λ s. fin.from_entries s.map.entries) w.self-inside-is ∙ ap (λ m. fin.from_entries m.entries) kept ∙ c.self.view_is ∙ ap (λ o. marked n c.args.addrs.now o c.args.self.now) (sym got))
    ]

on_err : {A E : Type 0} {P Q : Type 0} (r : Result A E) → (P → Q) → OnErr r P → OnErr r Q
on_err (Ok v) f p = p
on_err (Err e) f p = f p

pub returns-clause-err : goal.returns-clause-err
returns-clause-err c =
    let n = c.args.number in
    let old = c.self.inside.map.entries in
    elim c.match-get_mut.branch [
      | in-Some w ↦
          let new = w.mark.new.self in
          let seg = w.in-Some.segment.now in
          let after : (q : ℕ) → lookup (is_at (nat_cmp q)) (c.get_mut.follows.lender new).entries ≡ cond (is_at (nat_cmp n) q) (Some new) (lookup (is_at (nat_cmp q)) old) =
          ((c.get_mut.follows.holds new).3 (search rules)).0 in
          let got : fin.get c.args.self.now n ≡ Some seg = sym (ap (λ m. fin.get m n) c.self.view_is) ∙ get_seen old n ∙ sym c.get_mut.ensures.value ∙ ap option_copied_mut w.in-Some.is in
          subst (λ r. OnErr r (fin.from_entries c.match-get_mut.self-inside.map.entries ≡ c.args.self.now)) (sym w.result-is)
          (on_err w.mark.result (λ e.
          ap (λ s. fin.from_entries s.map.entries) w.self-inside-is
          ∙ insert_seen old (c.get_mut.follows.lender new).entries n new after
          ∙ (λ i. fin.insert (c.self.view_is i) n (e i))
          ∙ put-same c.args.self.now n seg got) w.mark.ensures.err)
      | in-None w ↦
          let kept : c.get_mut.follows.lender-at-none ≡ c.self.inside.map = c.get_mut.follows.holds-at-none in
          subst (λ r. OnErr r (fin.from_entries c.match-get_mut.self-inside.map.entries ≡ c.args.self.now)) (sym w.result-is) tt
    ]
