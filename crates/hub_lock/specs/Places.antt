-- The entries of a journal by their places. The first entry has the place 0.
use Rattle.std.specs.Prelude.{◌≡◌, ℕ, zero, suc, ◌+◌, ◌-◌, ◌≤◌, List, [], ◌∷◌, ◌++◌, cond, ◌==◌, nat_lt, length}

-- the parts of all seats of a turn together
abbrev pub all_parts : ℕ
all_parts = 4294967296

-- the sum of f over a list
abbrev pub total : {A : Type 0} → (A → ℕ) → List A → ℕ
total f [] = 0
total f (x ∷ xs) = f x + total f xs

-- 1 where x is k, and else 0
abbrev pub only : ℕ → ℕ → ℕ
only k x = cond (x == k) 1 0

-- 1 where a ≤ x and x < b, and else 0
abbrev pub between : ℕ → ℕ → ℕ → ℕ
between x a b = cond (nat_lt x b) (cond (nat_lt x a) 0 1) 0

-- how often the place stands among these places
abbrev pub times : ℕ → List ℕ → ℕ
times place places = total (only place) places

-- the entry in front, unless n is 0
abbrev pub pick : {E : Type 0} → ℕ → E → List E → List E
pick zero e es = es
pick (suc n) e es = e ∷ es

-- the entries at the places where f is not 0, of a journal whose first place is k
abbrev pub picked : {E : Type 0} → (ℕ → ℕ) → ℕ → List E → List E
picked f k [] = []
picked f k (e ∷ es) = pick (f k) e (picked f (suc k) es)

-- the entries at a seat's own places, in the order of the journal
abbrev pub mine : {E : Type 0} → List E → List ℕ → List E
mine log own = picked (λ p. times p own) 0 log

-- the entries at all other places, in the order of the journal
abbrev pub others : {E : Type 0} → List E → List ℕ → List E
others log own = picked (λ p. 1 - times p own) 0 log

-- the journal begins with what was seen
abbrev pub StartsWith : {E : Type 0} → List E → List E → Type 0
StartsWith {E} log seen = (rest : List E) × (log ≡ seen ++ rest)

-- each own place is the place of an entry that was seen
abbrev pub IsWithin : {E : Type 0} → List E → List ℕ → Type 0
IsWithin seen own = (p : ℕ) → length seen ≤ p → times p own ≡ 0

abbrev pub longer : {E : Type 0} → List E → List E → List E
longer xs ys = cond (nat_lt (length xs) (length ys)) ys xs

abbrev pub shorter : {E : Type 0} → List E → List E → List E
shorter xs ys = cond (nat_lt (length xs) (length ys)) xs ys
