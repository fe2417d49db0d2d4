-- A full pool.
use Rattle.std.proofs.Common.{◌≡◌, ℕ, ◌<◌, ◌==◌, ◌&&◌, ◌++◌, List, [], Bool, true, false, cond, Option, Some, None, refl, sym, ◌∙◌, ap, arith, inl, inr}
use Rattle.std.specs.Prelude.{not, nat_le, is_some, if◌then◌else◌}
use Rattle.std.proofs.lemmas.Bool.{cases_Bool, eq-eqb}
use Rattle.std.proofs.lemmas.Bool.Decides.{nat_tests}
use Rattle.std.proofs.lemmas.List.{append-nil}
use Rattle.std.specs.Ordering.{nat_cmp, eq_by_cmp}
use Rattle.std.specs.Cmp.{nat_cmp_total}
use Rattle.std.specs.FinMap as fin
use Rattle.fragment.specs.Parts.{Parts}
use Rattle.block_ledger.specs.Ledger.{Ledger, Segment, is_live, is_private, wants_room, flushed, all_offered, begun, candidates, offered_to, with_offered}
use Rattle.block_ledger.specs.Requests.{offer, offer_to, offers}
use Rattle.block_ledger.specs.Traced.{room_asks, with_block}
use Rattle.block_ledger.specs.Laws.{FlushEmpties, OffersStandAlone, RoomIsMade}
use Rattle.block_ledger.proofs.Gets.{got-insert, got-kept, got-empty, len-none, tied}

gone : (o : Option Parts) → cond (not (is_some o)) o None ≡ None
gone None = refl
gone (Some f) = refl

-- no private block is left
pub none-private : FlushEmpties
none-private led = fin.same_map nat_cmp_total fin.nat_cmp-IsAntisymmetric (flushed led).private fin.empty (λ q.
    got-kept led.private (λ a. not (is_private led a)) q ∙ gone (fin.get led.private q) ∙ sym (got-empty q))

no_more : (b c : Bool) → c ≡ false → (b && c) ≡ false
no_more true c e = e
no_more false c e = refl

pub room : (pool a : ℕ) (led : Ledger) → 0 < pool → wants_room pool (flushed led) a ≡ false
room pool a led some =
    let none : fin.len (flushed led).private ≡ 0 = ap fin.len (none-private led) ∙ len-none Parts in
    let fits : nat_le pool 0 ≡ false = grind (arith, nat_tests) in
    no_more (not (is_live (flushed led) a)) (nat_le pool (fin.len (flushed led).private)) (ap (nat_le pool) none ∙ fits)

pub room-is-made : RoomIsMade
room-is-made scheme block t some wants =
    let is : List ℕ = fin.keys t.ledger.segments in
    let made : Ledger = flushed (all_offered is t.ledger) in
    let after : wants_room scheme.pool made block.address ≡ false = room scheme.pool block.address (all_offered is t.ledger) some in
    let ledger : with_block scheme (Some block) made ≡ with_block scheme (Some block) t.ledger =
    ap (λ b. begun block (if b then flushed (all_offered (fin.keys made.segments) made) else made)) after
    ∙ sym (ap (λ b. begun block (if b then made else t.ledger)) wants) in
    let none : (t.requests ++ offers is t.ledger) ++ room_asks scheme (Some block) made ≡ t.requests ++ offers is t.ledger =
    ap (λ b. (t.requests ++ offers is t.ledger) ++ (if b then offers (fin.keys made.segments) made else [])) after ∙ append-nil (t.requests ++ offers is t.ledger) in
    let same : t.requests ++ room_asks scheme (Some block) t.ledger ≡ t.requests ++ offers is t.ledger =
    ap (λ b. t.requests ++ (if b then offers is t.ledger else [])) wants in
    ap (λ l. record t { ledger = l; requests = (t.requests ++ offers is t.ledger) ++ room_asks scheme (Some block) made }) ledger
    ∙ ap (λ rs. record t { ledger = with_block scheme (Some block) t.ledger; requests = rs }) (none ∙ sym same)

-- ---- offers

differs : (i j : ℕ) → (j == i) ≡ false → eq_by_cmp nat_cmp j i ≡ false
differs i j apart = elim (cases_Bool (eq_by_cmp nat_cmp j i)) [
  | inl same ↦ let e : (j == i) ≡ true = eq-eqb j i (tied j i same) in absurd (cc)
  | inr other ↦ other
]

-- it looks at the private blocks and the counts alone
offer_same : (j : ℕ) (o : Option Segment) (led : Ledger) (segments : fin.FinMap nat_cmp Segment) → offer_to j o (record led { segments = segments }) ≡ offer_to j o led
offer_same j None led segments = refl
offer_same j (Some seg) led segments = refl

other_offer : (i j : ℕ) (o : Option Segment) (led : Ledger) → (j == i) ≡ false → offer j (offered_to i o led) ≡ offer j led
other_offer i j None led apart = refl
other_offer i j (Some seg) led apart =
    let segments : fin.FinMap nat_cmp Segment = fin.insert led.segments i (with_offered seg (candidates seg led)) in
    offer_same j (fin.get segments j) led segments
    ∙ ap (λ o. offer_to j o led) (got-insert led.segments i (with_offered seg (candidates seg led)) j ∙ ap (λ b. cond b (Some (with_offered seg (candidates seg led))) (fin.get led.segments j)) (differs i j apart))

pub offers-stand-alone : OffersStandAlone
offers-stand-alone i j led apart = other_offer i j (fin.get led.segments i) led apart
