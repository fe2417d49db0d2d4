-- Words that are done one after the other, by position.
use Rattle.std.specs.Prelude.{◌≡◌, ℕ, zero, suc, ◌+◌, ◌-◌, ◌<◌, ◌≤◌, ◌==◌, nat_lt, Bool, true, false, if◌then◌else◌, List, [], ◌∷◌, ◌++◌, length, slice_index, Option, Some, None, Result, Ok}
use Rattle.plain_machine.specs.declared.cpu.Done.{Done}
use Rattle.plain_machine.specs.declared.cpu.Done.TheVariants as done
use Rattle.plain_machine.specs.declared.access.Access.{Access}
use Rattle.plain_machine.specs.Memory.{fetched}
use Rattle.plain_machine.specs.Step.{Outcome, step}
use Rattle.plain_machine.specs.Machine.{State}
use Rattle.fragment.specs.declared.Exit.{Exit}
use Rattle.fragment.specs.Parts.{Parts}
use Rattle.engine.specs.declared.block.Left.{Left}
use Rattle.engine.specs.declared.block.Left.TheVariants as left

abbrev pub outcome_in : State → ℕ → Outcome
outcome_in s word = step word s.cpu s.memory

-- the state that a word leaves
abbrev pub state_after : State → ℕ → State
state_after s word = record s { cpu = (outcome_in s word).1; memory = (outcome_in s word).2 }

-- the state before word number i, where the words are done from state s on
unfoldable pub state_at : List ℕ → State → ℕ → State
state_at words s zero = s
state_at words s (suc i) = state_after (state_at words s i) (slice_index words i)

-- what word number i did
abbrev pub done_at : List ℕ → State → ℕ → Done
done_at words s i = (outcome_in (state_at words s i) (slice_index words i)).0

-- the word that a state does
abbrev pub word_of : State → Result ℕ Access
word_of s = fetched s.memory s.cpu.pc

abbrev pub is_first : ℕ → Bool
is_first zero = true
is_first (suc i) = false

-- the states before the first n words, the first of which alone begins a block
unfoldable pub marks_before : List ℕ → State → ℕ → List (State × Bool)
marks_before words s zero = []
marks_before words s (suc n) = marks_before words s n ++ (state_at words s n, is_first n) ∷ []

-- the exit behind the last word: of a branch, whose comparison did not hold, the second
abbrev pub last_exit : List Exit → ℕ
last_exit exits = if length exits == 2 then 1 else 0

-- how a word leaves its block, where it does not just go on to the next
abbrev pub leaving : Done → Option Left
leaving done.Next = None
leaving done.Taken = Some (left.Exit 0)
leaving done.Asked = Some left.Asked
leaving (done.Touched span) = Some (left.Touched span)
leaving (done.Fault kind) = Some (left.Fault kind)

-- how a block is left by what the last word done did, where further ones stand behind it or not
abbrev pub left_by : List Exit → Bool → Done → Left
left_by exits more done.Next = if more then left.Fuel else left.Exit (last_exit exits)
left_by exits more done.Taken = left.Exit 0
left_by exits more done.Asked = left.Asked
left_by exits more (done.Touched span) = left.Touched span
left_by exits more (done.Fault kind) = left.Fault kind

-- From state s the first n words of the block are done, one at least, each from memory. All before the last went on to
-- the next; by what the last did the block is left so, in state next.
pub record DoesWords (block : Parts) (n : ℕ) (s : State) (how : Left) (next : State) : Type 0 where
  pub some : 0 < n
  pub at_most : n ≤ length block.words
  pub there : (i : ℕ) → i < n → word_of (state_at block.words s i) ≡ Ok (slice_index block.words i)
  pub went : (i : ℕ) → i + 1 < n → done_at block.words s i ≡ done.Next
  pub left : how ≡ left_by block.exits (nat_lt n (length block.words)) (done_at block.words s (n - 1))
  pub reached : next ≡ state_at block.words s n
