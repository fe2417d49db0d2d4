-- What holds of the ledger.
use Rattle.std.specs.Prelude.{◌≡◌, ℕ, ◌<◌, ◌==◌, ◌++◌, if◌then◌else◌, Bool, true, false, Some, None}
use Rattle.std.specs.FinMap as fin
use Rattle.cc_base.specs.Span.{Range}
use Rattle.fragment.specs.Parts.{Parts}
use Rattle.block_ledger.specs.Ledger.{Ledger, view, only, has_some, is_live, written, wants_room, flushed, all_offered, offered, source}
use Rattle.block_ledger.specs.Requests.{offer, offers}
use Rattle.block_ledger.specs.Traced.{Scheme, Trace, beginning}

-- what stands ready after some addresses went
abbrev pub OnlyViews : Type 0
OnlyViews = (stays : ℕ → Bool) (led : Ledger) (a : ℕ) → view (only stays led) a ≡ (if stays a then view led a else None)

-- room is made: the candidates of all segments are offered, and the private blocks go
abbrev pub with_room : Trace → Trace
with_room t = record t { ledger = flushed (all_offered (fin.keys t.ledger.segments) t.ledger); requests = t.requests ++ offers (fin.keys t.ledger.segments) t.ledger }

-- A begin that wants room is one after room was made: so the stop at a full pool may be answered from outside.
abbrev pub RoomIsMade : Type 0
RoomIsMade = (scheme : Scheme) (block : Parts) (t : Trace) → 0 < scheme.pool → wants_room scheme.pool t.ledger block.address ≡ true →
    beginning scheme (Some block) (with_room t) ≡ beginning scheme (Some block) t

-- what is offered to one segment leaves what another has to be offered
abbrev pub OffersStandAlone : Type 0
OffersStandAlone = (i j : ℕ) (led : Ledger) → (j == i) ≡ false → offer j (offered i led) ≡ offer j led

-- a block that stands ready after bytes were written has none of them, and stood ready before
pub record IsSpared (span : Range) (led : Ledger) (a : ℕ) (f : Parts) : Type 0 where
  pub clear : has_some span f ≡ false
  pub before : view led a ≡ Some f

abbrev pub WritesWithdraw : Type 0
WritesWithdraw = (span : Range) (led : Ledger) (a : ℕ) (f : Parts) → view (written span led) a ≡ Some f → IsSpared span led a f

-- each link leads from a live address to one
abbrev pub AreLive : Ledger → Type 0
AreLive led = (x to : ℕ) → fin.get led.links x ≡ Some to → (is_live led (source x) ≡ true) × (is_live led to ≡ true)

-- they do so after some addresses went, too
abbrev pub LinksStayLive : Type 0
LinksStayLive = (stays : ℕ → Bool) (led : Ledger) → AreLive led → AreLive (only stays led)

-- a flush leaves no private block
abbrev pub FlushEmpties : Type 0
FlushEmpties = (led : Ledger) → (flushed led).private ≡ fin.empty
