-- Places at which a tool has no probe.
use Rattle.std.proofs.Common.{◌≡◌, ℕ, zero, suc, ◌+◌, ◌-◌, ◌≤◌, List, [], length, None, sym, ◌∙◌, ap, arith, inl, inr}
use Rattle.rv_decode.specs.declared.ins.Isa.{Isa}
use Rattle.probe_tools.specs.declared.tool.Tool.{Tool}
use Rattle.fragment.specs.Probing.{probe_at, probes_before, probes_of}
use Rattle.fragment.proofs.Places.{before-none, front_stays}
use Rattle.block_build.specs.Places.{HasAllPlaces}

module _ (tool : Tool) (isa : Isa) (words : List ℕ) (low high : ℕ) (all : HasAllPlaces tool (length words) low high) where
  -- no probe stands before the range
  pub none_before : (i : ℕ) → i ≤ low → probes_before tool isa words i ≡ []
  none_before zero h = before-none tool isa words
  none_before (suc i) h =
      let next : suc i ≡ i + 1 = omega arith in
      let none : probe_at tool isa words i ≡ None = all.none _ i (omega (arith, all.within, all.at_most)) (inl (omega arith)) in
      ap (probes_before tool isa words) next ∙ sym (front_stays tool isa words i none) ∙ none_before i (omega arith)

  same_behind : (m : ℕ) → high + m ≤ length words → probes_before tool isa words high ≡ probes_before tool isa words (high + m)
  same_behind zero h = ap (probes_before tool isa words) (omega arith)
  same_behind (suc m) h =
      let next : high + suc m ≡ high + m + 1 = omega arith in
      let none : probe_at tool isa words (high + m) ≡ None = all.none _ (high + m) (omega arith) (inr (omega arith)) in
      same_behind m (omega arith) ∙ front_stays tool isa words (high + m) none ∙ ap (probes_before tool isa words) (sym next)

  -- and none behind it
  pub none_behind : probes_before tool isa words high ≡ probes_of tool isa words
  none_behind =
      let most : high ≤ length words = all.at_most in
      let e : high + (length words - high) ≡ length words = omega arith in
      same_behind (length words - high) (omega arith) ∙ ap (probes_before tool isa words) e
