-- Small runs, worked out by hand: what happens in each, one thing after the other.
use Rattle.std.proofs.Common.{◌≡◌, ℕ, true, false, ◌+◌, ◌*◌, zero, suc, List, [], ◌∷◌, Option, Some, None, refl, ◌∙◌, ap, arith}
use Rattle.cc_base.specs.Span.{Range}
use Rattle.fragment.specs.Parts.{Parts}
use Rattle.fragment.specs.declared.Probe.{Probe}
use Rattle.probe_tools.specs.declared.probe.ProbeKind.TheVariants as kinds
use Rattle.fragment.specs.declared.Exit.TheVariants.{Direct, Indirect, Asks, Stop}
use Rattle.std.specs.Ordering.{nat_cmp}
use Rattle.std.specs.FinMap as fin
use Rattle.block_ledger.specs.Ledger.{Ledger, Counts, begun, left_by, written, new_ledger, flushed, links_of, exit_at, wants_room}
use Rattle.block_ledger.proofs.Gets.{answers}

abbrev pub counts : ℕ → ℕ → ℕ → ℕ → Counts
counts b r t l = record { blocks = b; reused = r; built = t; linked = l }

-- a probe at its begin
abbrev pub begins : List Probe
begins = record { place = 0; kind = kinds.Block } ∷ []

abbrev pub one : Parts
one = record { address = 0x10000; words = 0x05D00893 ∷ 0x00000073 ∷ []; probes = begins; exits = Asks 0x10008 ∷ [] }

abbrev pub c0 : Parts
c0 = record { address = 0x10000; words = 0x3E800293 ∷ 0xFFF28293 ∷ 0xFE029EE3 ∷ []; probes = begins; exits = Direct 0x10004 ∷ Direct 0x1000C ∷ [] }

abbrev pub c1 : Parts
c1 = record { address = 0x10004; words = 0xFFF28293 ∷ 0xFE029EE3 ∷ []; probes = begins; exits = Direct 0x10004 ∷ Direct 0x1000C ∷ [] }

abbrev pub c2 : Parts
c2 = record { address = 0x1000C; words = 0x05D00893 ∷ 0x00000073 ∷ []; probes = begins; exits = Asks 0x10014 ∷ [] }

-- a ledger of a guest whose units are empty
abbrev pub plain : fin.FinMap nat_cmp Parts → fin.FinMap nat_cmp ℕ → ℕ → Option ℕ → Counts → Ledger
plain private links block left c = record { segments = fin.empty; shared = fin.empty; private = private; links = links; block = block; left = left; counts = c }

-- ---- countdown

abbrev blocks0 : fin.FinMap nat_cmp Parts
blocks0 = fin.insert fin.empty 0x10000 c0

abbrev blocks1 : fin.FinMap nat_cmp Parts
blocks1 = fin.insert blocks0 0x10004 c1

abbrev links1 : fin.FinMap nat_cmp ℕ
links1 = fin.insert fin.empty (2 * 0x10000) 0x10004

abbrev links2 : fin.FinMap nat_cmp ℕ
links2 = fin.insert links1 (2 * 0x10004) 0x10004

abbrev links3 : fin.FinMap nat_cmp ℕ
links3 = fin.insert links2 (2 * 0x10004 + 1) 0x1000C

first : begun c0 new_ledger ≡ plain blocks0 fin.empty 0x10000 None (counts 1 0 1 0)
first = simp answers

second : begun c1 (left_by (Some 0) (plain blocks0 fin.empty 0x10000 None (counts 1 0 1 0))) ≡ plain blocks1 links1 0x10004 None (counts 2 0 2 0)
second = simp answers

third : begun c1 (left_by (Some 0) (plain blocks1 links1 0x10004 None (counts 2 0 2 0))) ≡ plain blocks1 links2 0x10004 None (counts 3 0 2 0)
third = simp answers

again : (b r t l : ℕ) → begun c1 (left_by (Some 0) (plain blocks1 links2 0x10004 None (counts b r t l))) ≡ plain blocks1 links2 0x10004 None (counts (b + 1) r t (l + 1))
again b r t l = simp answers

turns : ℕ → Ledger → Ledger
turns zero led = led
turns (suc n) led = turns n (begun c1 (left_by (Some 0) led))

all-turns : (n b r t l : ℕ) → turns n (plain blocks1 links2 0x10004 None (counts b r t l)) ≡ plain blocks1 links2 0x10004 None (counts (b + n) r t (l + n))
unfolding turns
all-turns zero b r t l =
    let h : b ≡ b + 0 = omega arith in let k : l ≡ l + 0 = omega arith in
    ap (λ x. plain blocks1 links2 0x10004 None (counts x r t l)) h ∙ ap (λ x. plain blocks1 links2 0x10004 None (counts (b + 0) r t x)) k
all-turns (suc n) b r t l =
    let h : b + 1 + n ≡ b + suc n = omega arith in let k : l + 1 + n ≡ l + suc n = omega arith in
    ap (turns n) (again b r t l) ∙ all-turns n (b + 1) r t (l + 1)
    ∙ ap (λ x. plain blocks1 links2 0x10004 None (counts x r t (l + 1 + n))) h
    ∙ ap (λ x. plain blocks1 links2 0x10004 None (counts (b + suc n) r t x)) k

final : (b r t l : ℕ) → begun c2 (left_by (Some 1) (plain blocks1 links2 0x10004 None (counts b r t l))) ≡ plain (fin.insert blocks1 0x1000C c2) links3 0x1000C None (counts (b + 1) r (t + 1) l)
final b r t l = simp answers

-- 1001 blocks, 3 built, 997 linked
countdown : (begun c2 (left_by (Some 1) (turns 997 (begun c1 (left_by (Some 0) (begun c1 (left_by (Some 0) (begun c0 new_ledger)))))))).counts ≡ counts 1001 0 3 997
countdown =
    ap (λ led. (begun c2 (left_by (Some 1) (turns 997 (begun c1 (left_by (Some 0) (begun c1 (left_by (Some 0) led))))))).counts) first
    ∙ ap (λ led. (begun c2 (left_by (Some 1) (turns 997 (begun c1 (left_by (Some 0) led))))).counts) second
    ∙ ap (λ led. (begun c2 (left_by (Some 1) (turns 997 led))).counts) third
    ∙ ap (λ led. (begun c2 (left_by (Some 1) led)).counts) (all-turns 997 3 0 2 0)
    ∙ ap (λ led. led.counts) (final 1000 0 2 997)

-- ---- self-overwrite: two stores, each on a word of its own block, and the block behind them

abbrev pub o0 : Parts
o0 = record { address = 0x10000; words = 0x000102B7 ∷ 0x0102A303 ∷ 0x0002A823 ∷ 0x0062A823 ∷ 0x05D00893 ∷ 0x00000073 ∷ []; probes = begins; exits = Asks 0x10018 ∷ [] }

abbrev pub o1 : Parts
o1 = record { address = 0x1000C; words = 0x0062A823 ∷ 0x00000000 ∷ []; probes = begins; exits = Stop ∷ [] }

abbrev pub o2 : Parts
o2 = record { address = 0x10010; words = 0x05D00893 ∷ 0x00000073 ∷ []; probes = begins; exits = Asks 0x10018 ∷ [] }

abbrev pub store : Range
store = record { start = 0x10010; len = 4 }

pub over-2 : written store (left_by None (plain (fin.insert fin.empty 0x10000 o0) fin.empty 0x10000 None (counts 1 0 1 0))) ≡ plain fin.empty fin.empty 0x10000 None (counts 1 0 1 0)
over-2 = simp answers

pub over-4 : written store (left_by None (plain (fin.insert fin.empty 0x1000C o1) fin.empty 0x1000C None (counts 2 0 2 0))) ≡ plain fin.empty fin.empty 0x1000C None (counts 2 0 2 0)
over-4 = simp answers

-- ---- calls-tool: a call, the block behind the call, and the function

abbrev pub k0 : Parts
k0 = record { address = 0x10000; words = 0x00C000EF ∷ []; probes = record { place = 0; kind = kinds.Call } ∷ []; exits = Direct 0x1000C ∷ [] }

abbrev pub k1 : Parts
k1 = record { address = 0x10004; words = 0x05D00893 ∷ 0x00000073 ∷ []; probes = []; exits = Asks 0x1000C ∷ [] }

abbrev pub k2 : Parts
k2 = record { address = 0x1000C; words = 0x00008067 ∷ []; probes = []; exits = Indirect ∷ [] }

abbrev pub call_links : fin.FinMap nat_cmp ℕ
call_links = fin.insert fin.empty (2 * 0x10000) 0x1000C

-- ---- the same again, with all its blocks in the unit

abbrev unit_entries : List (ℕ × Parts)
unit_entries = (0x10000, k0) ∷ (0x10004, k1) ∷ (0x1000C, k2) ∷ []

-- the links that an attach brings
unit-links : links_of (fin.from_sorted {R = nat_cmp} unit_entries) (exit_at 0x10000 0) k0.exits ≡ (2 * 0x10000, 0x1000C) ∷ []
unit-links = rw (fin.get-from_sorted nat_cmp unit_entries 0x1000C tt) refl

-- a ledger that has these blocks as shared, with that one link
abbrev in_unit : ℕ → Option ℕ → Counts → Ledger
in_unit block left c = record {
  segments = fin.empty;
  shared = fin.insert (fin.insert (fin.insert fin.empty 0x10000 k0) 0x10004 k1) 0x1000C k2;
  private = fin.empty;
  links = fin.insert fin.empty (2 * 0x10000) 0x1000C;
  block = block;
  left = left;
  counts = c;
}

call-1 : begun k0 (in_unit 0 None (counts 0 0 0 0)) ≡ in_unit 0x10000 None (counts 1 1 0 0)
call-1 = simp answers

call-2 : begun k2 (left_by (Some 0) (in_unit 0x10000 None (counts 1 1 0 0))) ≡ in_unit 0x1000C None (counts 2 2 0 1)
call-2 = simp answers

call-3 : begun k1 (left_by None (in_unit 0x1000C None (counts 2 2 0 1))) ≡ in_unit 0x10004 None (counts 3 3 0 1)
call-3 = simp answers

calls-again : (begun k1 (left_by None (begun k2 (left_by (Some 0) (begun k0 (in_unit 0 None (counts 0 0 0 0))))))).counts ≡ counts 3 3 0 1
calls-again =
    ap (λ led. (begun k1 (left_by None (begun k2 (left_by (Some 0) led)))).counts) call-1
    ∙ ap (λ led. (begun k1 (left_by None led)).counts) call-2
    ∙ ap (λ led. led.counts) call-3

-- ---- a flush: the private blocks go, with their links, and the next begin gains none

flush : flushed (left_by (Some 1) (plain blocks1 links2 0x10004 None (counts 3 0 2 0))) ≡ plain fin.empty fin.empty 0x10004 None (counts 3 0 2 0)
flush = simp answers

room : wants_room 2 (plain blocks1 links2 0x10004 None (counts 3 0 2 0)) 0x1000C ≡ true
room = simp answers

no-room-wanted : wants_room 2 (plain blocks1 links2 0x10004 None (counts 3 0 2 0)) 0x10004 ≡ false
no-room-wanted = simp answers
