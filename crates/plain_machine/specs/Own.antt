-- The map answers of a guest that is alone: its own calls say which file a module is.
use Rattle.std.specs.Prelude.{◌≡◌, ℕ, ◌&&◌, if◌then◌else◌, List, [], ◌∷◌, ◌++◌, slice_get, slice_set}
use Rattle.std.specs.Option.{option_to_list}
use Rattle.plain_machine.specs.Machine.{State, Action, Maps, Replaces, action, Setting, Guest, is_below}
use Rattle.plain_machine.specs.Run.{plain}

-- the answer that an action takes, where the modules are these files: the file of the module that it maps
abbrev pub taken_by : List ℕ → Action → List ℕ
taken_by files (Maps k next) = option_to_list (slice_get files k)
taken_by files _ = []

-- the files of the modules once module k is to be file f, where both numbers are in range
abbrev pub replaced : Setting → List ℕ → ℕ → ℕ → List ℕ
replaced w files k f = if is_below k w.bases && is_below f w.files then slice_set files k f else files

abbrev pub files_after : Setting → List ℕ → Action → List ℕ
files_after w files (Replaces k f next) = replaced w files k f
files_after w files _ = files

-- the answers that these states take, one after the other
abbrev pub own_answers : Setting → List ℕ → List State → List ℕ
own_answers w files [] = []
own_answers w files (s ∷ states) = taken_by files (action s) ++ own_answers w (files_after w files (action s)) states

-- The map answers of a guest's run are, first, the file of its program, and then those that its own calls make them.
-- Before it the modules are these files.
abbrev pub AreOwn : Setting → Guest → List ℕ → List ℕ → Type 0
AreOwn w g files maps = maps ≡ option_to_list (slice_get files g.program) ++ own_answers w files (plain w g maps).states
