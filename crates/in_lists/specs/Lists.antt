-- Lists of exits, one for each head.
use Rattle.std.specs.Prelude.{◌≡◌, ℕ, ◌<◌, ◌==◌, nat_eq, not, List, [], map, replicate, get_or, slice_set, filter, Contains}
use Rattle.std.specs.List.{IsDistinct}

pub record Incoming : Type 0 where
  -- the exits are numbered from 0 up to this number
  pub exits : ℕ
  -- the list of each head
  pub lists : List (List ℕ)

abbrev pub incoming : ℕ → List (List ℕ) → Incoming
incoming exits lists = record { exits = exits; lists = lists }

abbrev pub all_empty : ℕ → ℕ → Incoming
all_empty exits heads = incoming exits (replicate heads [])

abbrev pub list_of : Incoming → ℕ → List ℕ
list_of v head = get_or v.lists head []

-- the exit is in the head's list
abbrev pub IsIn : Incoming → ℕ → ℕ → Type 0
IsIn v exit head = Contains (list_of v head) exit

-- v with another list for that head alone
abbrev pub with_list : Incoming → ℕ → List ℕ → Incoming
with_list v head list = incoming v.exits (slice_set v.lists head list)

abbrev pub without : ℕ → List ℕ → List ℕ
without exit list = filter (λ e. not (e == exit)) list

-- v with every list but for that exit
abbrev pub cut_out : Incoming → ℕ → Incoming
cut_out v exit = incoming v.exits (map (without exit) v.lists)

-- each exit is in one list at most, and there once, and all numbers are in range
pub record IsKept (v : Incoming) : Type 0 where
  pub in_range : (exit head : ℕ) → IsIn v exit head → exit < v.exits
  pub one_list : (exit head other : ℕ) → IsIn v exit head → IsIn v exit other → head ≡ other
  pub once : (head : ℕ) → IsDistinct nat_eq (list_of v head)
