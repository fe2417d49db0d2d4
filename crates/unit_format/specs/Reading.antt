-- Reading a unit's text. Each rule stands behind the fields that it needs; the first failure is the answer.
use Rattle.std.specs.Prelude.{ℕ, ◌+◌, ◌*◌, ◌%◌, List, length, map, Bool, true, false, ◌==◌, ◌&&◌, ◌||◌, nat_le, nat_lt, Option, Some, None, Result, Ok, if◌then◌else◌}
use Rattle.std.specs.Int.{w16, w32}
use Rattle.cc_base.specs.Image.{Code}
use Rattle.fragment.specs.declared.Exit.{Exit}
use Rattle.fragment.specs.declared.Exit.TheVariants.{Direct, Indirect, Asks, Stop}
use Rattle.fragment.specs.declared.Probe.{Probe}
use Rattle.probe_tools.specs.declared.probe.ProbeKind.{ProbeKind}
use Rattle.probe_tools.specs.declared.probe.ProbeKind.TheVariants.{Block, Call, Load, Store}
use Rattle.rv_decode.specs.declared.ins.Isa.{Isa}
use Rattle.rv_decode.specs.declared.ins.Isa.TheVariants.{I, Im}
use Rattle.unit_set.specs.Raw.{Tied, Raw}
use Rattle.unit_set.specs.Slot.{Slot}
use Rattle.fragment.specs.Build.{words_at}
use Rattle.unit_set.specs.Slot.{slot_of}
use Rattle.unit_format.specs.declared.error.TextErr.{TextErr}
use Rattle.unit_format.specs.declared.error.TextErr.TheVariants as errors
use Rattle.unit_format.specs.declared.header.Version.{Version}
use Rattle.unit_format.specs.declared.header.Version.TheVariants.{One, Two}
use Rattle.unit_format.specs.Steps.{◌>>=◌, rule, known, byte_at, bytes_at, number_at, each, many}
use Rattle.unit_format.specs.Text.{Out}

-- ---- the header

-- the version of the first four bytes, read as a number
abbrev pub version_of : ℕ → Option Version
version_of n = if n == 0x31554343 then Some One else (if n == 0x32554343 then Some Two else None)

abbrev pub isa_of : ℕ → Option Isa
isa_of n = if n == 0 then Some I else (if n == 1 then Some Im else None)

unfoldable pub isa_at : Version → List ℕ → Result (Isa × List ℕ) TextErr
isa_at One bytes = Ok (I, bytes)
isa_at Two bytes = do
  code ← byte_at bytes
  isa ← known (isa_of code.0) errors.Isa
  Ok (isa, code.1)

unfoldable pub version_at : List ℕ → Result (Version × List ℕ) TextErr
version_at bytes = do
  magic ← number_at w32 bytes
  version ← known (version_of magic.0) errors.Magic
  Ok (version, magic.1)

abbrev pub same_isa : Isa → Isa → Bool
same_isa I I = true
same_isa I Im = false
same_isa Im I = false
same_isa Im Im = true

unfoldable pub slot_at : Isa → List ℕ → Result (Slot × List ℕ) TextErr
slot_at isa bytes = do
  n ← byte_at bytes
  name ← bytes_at n.0 n.1
  slot ← known (slot_of name.0) errors.Name
  same ← rule (same_isa slot.isa isa) errors.Name
  Ok (slot, name.1)

abbrev pub fits_segment : ℕ → ℕ → Bool
fits_segment start n = nat_le 1 n && nat_le n 1048576 && nat_le (start + n) 4294967295

unfoldable pub image_at : List ℕ → Result (Code × List ℕ) TextErr
image_at bytes = do
  start ← number_at w32 bytes
  n ← number_at w32 start.1
  fits ← rule (fits_segment start.0 n.0) errors.Count
  content ← bytes_at n.0 n.1
  Ok (record { start = start.0; bytes = content.0 }, content.1)

-- ---- fragment i

unfoldable pub count_at : Version → List ℕ → Result (ℕ × List ℕ) TextErr
count_at One bytes = byte_at bytes
count_at Two bytes = number_at w16 bytes

abbrev pub holds_words : Code → ℕ → ℕ → Bool
holds_words image x n = nat_le 1 n && nat_le n 64 && nat_le image.start x && nat_le (x + 4 * n) (image.start + length image.bytes)

-- where a fragment stands: its address, over the one before, and its number of words
unfoldable pub place_at : Version → Code → ℕ → ℕ → List ℕ → Result ((ℕ × ℕ) × List ℕ) TextErr
place_at v image i least bytes = do
  address ← number_at w32 bytes
  rises ← rule (nat_le least address.0) (errors.Order i)
  aligned ← rule (address.0 % 4 == 0) (errors.Field i)
  words ← count_at v address.1
  within ← rule (holds_words image address.0 words.0) (errors.Field i)
  Ok ((address.0, words.0), words.1)

abbrev pub kind_of : ℕ → Option ProbeKind
kind_of n = if n == 0 then Some Block else (if n == 1 then Some Call else (if n == 2 then Some Load else (if n == 3 then Some Store else None)))

unfoldable pub probe_at : ℕ → ℕ → List ℕ → Result (Probe × List ℕ) TextErr
probe_at i words bytes = do
  place ← byte_at bytes
  before ← rule (nat_lt place.0 words) (errors.Field i)
  code ← byte_at place.1
  kind ← known (kind_of code.0) (errors.Field i)
  Ok (record { place = place.0; kind = kind }, code.1)

unfoldable pub probes_at : Version → ℕ → ℕ → List ℕ → Result (List Probe × List ℕ) TextErr
probes_at v i words bytes = do
  n ← count_at v bytes
  few ← rule (nat_le n.0 64) (errors.Field i)
  many (probe_at i words) n.0 n.1

-- an exit of this kind and target
abbrev pub exit_of : ℕ → ℕ → Option Exit
exit_of kind target =
    if kind == 0 then Some (Direct target)
    else (if kind == 2 then Some (Asks target)
    else (if target == 0 then (if kind == 1 then Some Indirect else (if kind == 3 then Some Stop else None)) else None))

unfoldable pub exit_at : ℕ → List ℕ → Result (Exit × List ℕ) TextErr
exit_at i bytes = do
  kind ← byte_at bytes
  is_kind ← rule (nat_lt kind.0 4) (errors.Field i)
  target ← number_at w32 kind.1
  exit ← known (exit_of kind.0 target.0) (errors.Field i)
  Ok (exit, target.1)

unfoldable pub out_at : ℕ → List ℕ → Result (Out × List ℕ) TextErr
out_at i bytes = do
  exit ← exit_at i bytes
  link ← number_at w32 exit.1
  Ok ((exit.0, link.0), link.1)

unfoldable pub outs_at : ℕ → List ℕ → Result (List Out × List ℕ) TextErr
outs_at i bytes = do
  n ← byte_at bytes
  one_or_two ← rule ((n.0 == 1) || (n.0 == 2)) (errors.Field i)
  many (out_at i) n.0 n.1

abbrev pub exits_of : List Out → List Exit
exits_of xs = map (λ x. x.0) xs

abbrev pub links_of : List Out → List ℕ
links_of xs = map (λ x. x.1) xs

unfoldable pub fragment_at : Version → Code → ℕ → ℕ → List ℕ → Result (Tied × List ℕ) TextErr
fragment_at v image i least bytes = do
  place ← place_at v image i least bytes
  probes ← probes_at v i place.0.1 place.1
  outs ← outs_at i probes.1
  Ok (
    record {
      frag = record { address = place.0.0; words = words_at image place.0.0 place.0.1; probes = probes.0; exits = exits_of outs.0 };
      links = links_of outs.0;
    },
    outs.1,
  )

-- ---- the whole text

-- the number of a fragment, and the least address that it may have
abbrev pub Turn : Type 0
Turn = ℕ × ℕ

abbrev pub turn_at : Version → Code → Turn → List ℕ → Result (Tied × List ℕ) TextErr
turn_at v image turn bytes = fragment_at v image turn.0 turn.1 bytes

abbrev pub next_turn : Turn → Tied → Turn
next_turn turn f = (turn.0 + 1, f.frag.address + 1)

unfoldable pub fragments_at : Version → Code → List ℕ → Result (List Tied × List ℕ) TextErr
fragments_at v image bytes = do
  n ← number_at w32 bytes
  few ← rule (nat_le n.0 16384) errors.Count
  each (turn_at v image) next_turn (0, 0) n.0 n.1

-- a text at the front, and what is behind it
unfoldable pub text_at : List ℕ → Result ((Version × Raw) × List ℕ) TextErr
text_at bytes = do
  version ← version_at bytes
  isa ← isa_at version.0 version.1
  slot ← slot_at isa.0 isa.1
  image ← image_at slot.1
  frags ← fragments_at version.0 image.0 image.1
  Ok ((version.0, record { slot = slot.0; image = image.0; frags = frags.0 }), frags.1)

-- all of the bytes
unfoldable pub unit_of : List ℕ → Result Raw TextErr
unit_of bytes = do
  found ← text_at bytes
  all ← rule (length found.1 == 0) errors.Trailing
  Ok found.0.1
