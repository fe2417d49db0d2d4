-- Code behind a store.
use Rattle.std.proofs.Common.{◌≡◌, ℕ, ◌+◌, ◌*◌, ◌<◌, ◌≤◌, ◌⊎◌, true, false, List, [], ◌∷◌, length, Option, Some, None, refl, sym, ◌∙◌, ap, subst, arith, inl, inr}
use Rattle.std.specs.Prelude.{find}
use Rattle.std.proofs.lemmas.Bool.{cases_Bool}
use Rattle.std.proofs.lemmas.Bool.Decides.{nat_tests}
use Rattle.std.proofs.lemmas.Option.{same_Some}
use Rattle.cc_base.specs.Image.{Code}
use Rattle.cc_base.specs.Span.{Range}
use Rattle.rv_decode.specs.declared.ins.Isa.{Isa}
use Rattle.probe_tools.specs.declared.tool.Tool.{Tool}
use Rattle.plain_machine.specs.Region.{Area, holds, with_bytes}
use Rattle.plain_machine.specs.Memory.{Memory, has_code, put, code_of, as_code, code_at}
use Rattle.guest_mem.proofs.MemoryLemmas.{with_bytes_keeps}
use Rattle.fragment.specs.Parts.{Parts}
use Rattle.fragment.specs.Build.{IsBuilt, IsFresh, built}
use Rattle.fragment.specs.Laws.{IsBeside}
use Rattle.fragment.proofs.Values.{value-built}
use Rattle.fragment.proofs.Alike.{locality}
use Rattle.block_ledger.specs.Ledger.{has_some}
use Rattle.block_ledger.specs.Traced.{built_in}
use Rattle.guest_proc.specs.Fresh.{block_in, extent}

-- the region of a byte behind a store: as it was, or the one that the store went to
pub record Behind (a addr : ℕ) (bytes : List ℕ) (m : Memory) (r : Area) : Type 0 where
  pub region : Area
  pub here : find (has_code a 1) (put addr bytes m) ≡ Some region
  pub which : (region ≡ r) ⊎ ((region ≡ with_bytes addr bytes r) × (holds addr (length bytes) r ≡ true))

same_has_code : (a addr : ℕ) (bytes : List ℕ) (q : Area) → holds addr (length bytes) q ≡ true → has_code a 1 (with_bytes addr bytes q) ≡ has_code a 1 q
same_has_code a addr bytes q held = let keeps = with_bytes_keeps addr bytes q held in rw keeps.length refl

pub behind-put : (a addr : ℕ) (bytes : List ℕ) (m : Memory) (r : Area) → find (has_code a 1) m ≡ Some r → Behind a addr bytes m r
behind-put a addr bytes [] r e = absurd (cc)
behind-put a addr bytes (q ∷ qs) r e = elim (cases_Bool (holds addr (length bytes) q)) [
  | inl held ↦ elim (cases_Bool (has_code a 1 q)) [
    | inl here ↦
        let is : Some q ≡ Some r = rw here at e in
        let same : q ≡ r = same_Some q r is in
        let moved : has_code a 1 (with_bytes addr bytes q) ≡ true = same_has_code a addr bytes q held ∙ here in
        record { region = with_bytes addr bytes q; here = rw held (rw moved refl); which = inr (ap (with_bytes addr bytes) same, subst (λ x. holds addr (length bytes) x ≡ true) same held) }
    | inr not_here ↦
        let rest : find (has_code a 1) qs ≡ Some r = rw not_here at e in
        let moved : has_code a 1 (with_bytes addr bytes q) ≡ false = same_has_code a addr bytes q held ∙ not_here in
        record { region = r; here = rw held (rw moved rest); which = inl refl }
  ]
  | inr not_held ↦ elim (cases_Bool (has_code a 1 q)) [
    | inl here ↦
        let is : Some q ≡ Some r = rw here at e in
        record { region = r; here = rw not_held (rw here is); which = inl refl }
    | inr not_here ↦
        let rest : find (has_code a 1) qs ≡ Some r = rw not_here at e in
        let behind = behind-put a addr bytes qs r rest in
        record { region = behind.region; here = rw not_held (rw not_here behind.here); which = behind.which }
  ]
]

abbrev range : ℕ → ℕ → Range
range start len = record { start = start; len = len }

-- a block that the span does not meet lies beside it
apart : (span : Range) (block : Parts) → 0 < span.len → 0 < length block.words → has_some span block ≡ false → IsBeside span.start span.len block
apart span block some words clear = grind (arith, nat_tests)

-- ---- the block at an address, with its region

pub record FoundAt (tool : Tool) (max : ℕ) (isa : Isa) (m : Memory) (a : ℕ) (block : Parts) : Type 0 where
  pub at : block.address ≡ a
  pub region : Area
  pub here : find (has_code a 1) m ≡ Some region
  pub fresh : IsFresh (code_of region) isa tool max block
  pub built : IsBuilt (code_of region) isa tool max block

found_by : (tool : Tool) (max : ℕ) (isa : Isa) (m : Memory) (a : ℕ) (block : Parts) (o : Option Area) → find (has_code a 1) m ≡ o → 0 < max → built_in (as_code o) a isa tool max ≡ Some block → FoundAt tool max isa m a block
found_by tool max isa m a block None is some e = absurd (cc)
found_by tool max isa m a block (Some r) is some e =
    let both = value-built (code_of r) a isa tool max block some e in
    record { at = both.1; region = r; here = is; fresh = ap (λ x. built (code_of r) x isa tool max) both.1 ∙ e; built = both.0 }

pub found-at : (tool : Tool) (max : ℕ) (isa : Isa) (m : Memory) (a : ℕ) (block : Parts) → 0 < max → block_in tool max isa m a ≡ Some block → FoundAt tool max isa m a block
found-at tool max isa m a block some e = found_by tool max isa m a block (find (has_code a 1) m) refl some e

-- where a region has the block fresh, the memory has it
at-found : (tool : Tool) (max : ℕ) (isa : Isa) (m : Memory) (a : ℕ) (block : Parts) (region : Area) → block.address ≡ a → find (has_code a 1) m ≡ Some region → IsFresh (code_of region) isa tool max block → block_in tool max isa m a ≡ Some block
at-found tool max isa m a block region at here fresh =
    ap (λ o. built_in (as_code o) a isa tool max) here ∙ ap (λ x. built (code_of region) x isa tool max) (sym at) ∙ fresh

-- a block that a store does not meet stays fresh
pub fresh-put : (tool : Tool) (max : ℕ) (isa : Isa) (m : Memory) (a addr : ℕ) (bytes : List ℕ) (block : Parts) → 0 < max → 0 < length bytes → has_some (record { start = addr; len = length bytes }) block ≡ false →
    block_in tool max isa m a ≡ Some block → block_in tool max isa (put addr bytes m) a ≡ Some block
fresh-put tool max isa m a addr bytes block some_max some clear is =
    let f = found-at tool max isa m a block some_max is in
    let behind = behind-put a addr bytes m f.region f.here in
    at-found tool max isa (put addr bytes m) a block behind.region f.at behind.here (elim behind.which [
      | inl same ↦ subst (λ r. IsFresh (code_of r) isa tool max block) (sym same) f.fresh
      | inr moved ↦
          let held = moved.1 in
          subst (λ r. IsFresh (code_of r) isa tool max block) (sym moved.0)
          (locality.writes (code_of f.region) isa tool max block addr bytes some_max (grind (arith, nat_tests)) (grind (arith, nat_tests))
          (apart (range addr (length bytes)) block some f.built.not_empty clear) f.fresh)
    ])

-- and so does a segment's place
extent_by : (a addr : ℕ) (bytes : List ℕ) (m : Memory) (o : Option Area) (x : Code) → find (has_code a 1) m ≡ o → extent (as_code o) ≡ extent (Some x) → extent (code_at (put addr bytes m) a) ≡ extent (Some x)
extent_by a addr bytes m None x is e = absurd (cc)
extent_by a addr bytes m (Some r) x is e =
    let behind = behind-put a addr bytes m r is in
    ap (λ o. extent (as_code o)) behind.here ∙ elim behind.which [
      | inl same ↦ ap (λ q. extent (Some (code_of q))) same ∙ e
      | inr moved ↦
          let keeps = with_bytes_keeps addr bytes r moved.1 in
          let size : length (with_bytes addr bytes r).bytes ≡ length r.bytes = keeps.length in
          ap (λ q. extent (Some (code_of q))) moved.0 ∙ ap (λ n. Some (range r.start n)) size ∙ e
    ]

pub extent-put : (a addr : ℕ) (bytes : List ℕ) (m : Memory) (x : Code) → extent (code_at m a) ≡ extent (Some x) → extent (code_at (put addr bytes m) a) ≡ extent (Some x)
extent-put a addr bytes m x e = extent_by a addr bytes m (find (has_code a 1) m) x refl e
