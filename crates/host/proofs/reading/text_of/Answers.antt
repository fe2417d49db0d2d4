use Rattle.std.proofs.Common.{◌≡◌, ℕ, List, length, nat_le, true, false, Bool, ◌&&◌}
use Rattle.std.specs.List.{list_all}
use Rattle.std.specs.Str.{is_utf8}
use Rattle.std.proofs.lemmas.Str.{IsUtf8-from_is_utf8}
use Rattle.host.proofs.reading.text_of.Goals as goal

last_true : (a b c d : Bool) → (a && b && c && d) ≡ true → d ≡ true
last_true true true true d h = h
last_true true true false d h = cc
last_true true false c d h = cc
last_true false b c d h = cc

pub unreachable-requires : goal.unreachable-requires
unreachable-requires c =
    let name : List ℕ = c.args.name.now in
    let text : is_utf8 name ≡ true = last_true (nat_le 1 (length name)) (nat_le (length name) 255) (list_all (nat_le 32) name) (is_utf8 name) c.requires in
    let h = c.in-Err.ensures in
    h.cases.0 (rw c.items.ensures (IsUtf8-from_is_utf8 c.args.name.now text))
