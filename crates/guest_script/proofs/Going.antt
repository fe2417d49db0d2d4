-- Entries and requests behind others.
use Rattle.std.proofs.Common.{◌≡◌, ℕ, ◌-◌, List, [], ◌∷◌, ◌++◌, refl, ap}
use Rattle.std.proofs.lemmas.List.Concat.{flat_map-append}
use Rattle.block_ledger.specs.Requests.{Asking}
use Rattle.registry.specs.Registry.{Told}
use Rattle.guest_script.specs.Script.{ages_behind}
use Rattle.guest_script.specs.Told.{file_told, unit_told}
use Rattle.guest_script.specs.Legs.{blocks_at, legs_from}
use Rattle.guest_script.specs.Laws.{AgesGoOn, LegsGoOn, MadeGoesOn, ToldGoesOn}

pub made-goes-on : MadeGoesOn
made-goes-on c ages [] more [] others made rest = rest
made-goes-on c ages [] more (t ∷ ts) others made rest = absurd made
made-goes-on c ages (r ∷ rs) more [] others made rest = absurd made
made-goes-on c ages (r ∷ rs) more (t ∷ ts) others made rest = (made.0, made-goes-on c (ages_behind r.request t.entry ages) rs more ts others made.1 rest)

pub ages-go-on : AgesGoOn
ages-go-on c ages [] more [] others made = refl
ages-go-on c ages [] more (t ∷ ts) others made = absurd made
ages-go-on c ages (r ∷ rs) more [] others made = absurd made
ages-go-on c ages (r ∷ rs) more (t ∷ ts) others made = ages-go-on c (ages_behind r.request t.entry ages) rs more ts others made.1

pub told-goes-on : ToldGoesOn
told-goes-on ts others = record {
  files = flat_map-append (λ (t : Told). file_told t.entry) ts others;
  units = flat_map-append (λ (t : Told). unit_told t t.entry) ts others;
}

legs_on : (before : ℕ) (rs more : List Asking) → legs_from before (rs ++ more) ≡ legs_from before rs ++ legs_from (blocks_at before rs) more
legs_on before [] more = refl
legs_on before (r ∷ rs) more = ap (λ ns. (r.blocks - before) ∷ ns) (legs_on r.blocks rs more)

blocks_on : (before : ℕ) (rs more : List Asking) → blocks_at before (rs ++ more) ≡ blocks_at (blocks_at before rs) more
blocks_on before [] more = refl
blocks_on before (r ∷ rs) more = blocks_on r.blocks rs more

pub legs-go-on : LegsGoOn
legs-go-on before rs more = record { legs = legs_on before rs more; blocks = blocks_on before rs more }
