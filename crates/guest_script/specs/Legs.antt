-- How many blocks a guest began between its entries.
use Rattle.std.specs.Prelude.{ℕ, ◌-◌, List, [], ◌∷◌, ◌++◌}
use Rattle.block_ledger.specs.Requests.{Asking}

-- how many before each request since the one before, where so many had begun
abbrev pub legs_from : ℕ → List Asking → List ℕ
legs_from before [] = []
legs_from before (r ∷ rs) = (r.blocks - before) ∷ legs_from r.blocks rs

-- how many had begun before the last of these requests
abbrev pub blocks_at : ℕ → List Asking → ℕ
blocks_at before [] = before
blocks_at before (r ∷ rs) = blocks_at r.blocks rs

-- before each request, and last those behind the last one, where `blocks` began in all
abbrev pub legs : List Asking → ℕ → List ℕ
legs rs blocks = legs_from 0 rs ++ (blocks - blocks_at 0 rs) ∷ []
