-- What the words of a call ask.
use Rattle.std.specs.Prelude.{ℕ, Bool, true, ◌&&◌, ◌||◌, not, List, [], ◌∷◌, codes, if◌then◌else◌, Option, Some, None, String, string_bytes}
use Rattle.std.specs.declared.alloc.Global.{Global}
use Rattle.std.specs.List.{list_any}
use Rattle.std.specs.Str.{bytes_eq}
use Rattle.host.specs.declared.words.Order.{Order as Told}

-- A run: its manifest, and whether the counts of its guests and its journal are told.
pub record Order : Type 0 where
  pub file : List ℕ
  pub counts : Bool
  pub journal : Bool

abbrev pub is_word : List ℕ → String Global → Bool
is_word text word = bytes_eq (string_bytes word) text

-- an option of a run
abbrev pub is_option : String Global → Bool
is_option word = is_word (codes "--counts") word || is_word (codes "--journal") word

-- this text is one of the words
abbrev pub has : List ℕ → List (String Global) → Bool
has text words = list_any (is_word text) words

-- each word is an option, and stands once
abbrev pub are_options : List (String Global) → Bool
are_options [] = true
are_options (word ∷ words) = is_option word && not (has (string_bytes word) words) && are_options words

-- what the words ask: they are `run` and a file, and behind them options in any order
abbrev pub order_of : List (String Global) → Option Order
order_of [] = None
order_of (verb ∷ []) = None
order_of (verb ∷ file ∷ options) =
    if is_word (codes "run") verb && are_options options
    then Some (record { file = string_bytes file; counts = has (codes "--counts") options; journal = has (codes "--journal") options }) else None

-- the same, as the code has it
abbrev pub meant : Told → Order
meant told = record { file = told.file.now; counts = told.counts; journal = told.journal }
