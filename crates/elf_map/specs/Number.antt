-- Numbers in a file.
use Rattle.std.specs.Prelude.{ℕ, List, take, drop}
use Rattle.plain_machine.specs.Memory.{number_of}

-- the number that n bytes spell from place `at` on, the lowest byte first
unfoldable pub number_at : ℕ → List ℕ → ℕ → ℕ
number_at n bytes at = number_of (take n (drop at bytes))
