-- How names are spelled, and how they are told apart.
use Rattle.std.specs.Prelude.{ℕ, ◌==◌, Bool, true, ◌&&◌, ◌||◌, nat_le, not, List, [], ◌∷◌, length, Option, is_some}
use Rattle.std.specs.List.{list_all, position_from}
use Rattle.std.specs.Str.{bytes_eq, is_utf8}

-- a to z, 0 to 9, `_` and `-`
abbrev pub is_name_byte : ℕ → Bool
is_name_byte b = (nat_le 97 b && nat_le b 122) || (nat_le 48 b && nat_le b 57) || (b == 95) || (b == 45)

-- a name of a module or a guest: 1 to 16 of these characters
abbrev pub is_name : List ℕ → Bool
is_name n = nat_le 1 (length n) && nat_le (length n) 16 && list_all is_name_byte n

-- a name of a file: a text of 1 to 255 bytes, and no character below U+0020
abbrev pub is_file_name : List ℕ → Bool
is_file_name n = nat_le 1 (length n) && nat_le (length n) 255 && list_all (nat_le 32) n && is_utf8 n

-- where the text first stands among these names, counted from 0
abbrev pub place_of : List ℕ → List (List ℕ) → Option ℕ
place_of text names = position_from (bytes_eq text) 0 names

-- it is one of them
abbrev pub is_among : List ℕ → List (List ℕ) → Bool
is_among text names = is_some (place_of text names)

-- no name stands twice
abbrev pub are_distinct : List (List ℕ) → Bool
are_distinct [] = true
are_distinct (n ∷ names) = not (is_among n names) && are_distinct names
