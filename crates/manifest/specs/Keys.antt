-- Keys, and the rules on each of them. Key is the word for what stands before `=`; a key is named by its path.
use Rattle.std.specs.Prelude.{ℕ, ℤ, pos, negsuc, ◌+◌, ◌%◌, ◌==◌, Bool, true, false, ◌&&◌, nat_le, not, List, [], ◌∷◌, ◌++◌, codes, decimal, Option, Some, None, is_some, unwrap_or, if◌then◌else◌}
use Rattle.std.specs.Str.{bytes_eq}
use Rattle.toml.specs.Data.{Data, Items, no_items, item, Members, no_members, member, as_str, as_integer, as_array, as_table}
use Rattle.rv_decode.specs.declared.ins.Isa.{Isa}
use Rattle.rv_decode.specs.declared.ins.Isa.TheVariants as sets
use Rattle.probe_tools.specs.declared.tool.Tool.{Tool}
use Rattle.probe_tools.specs.declared.tool.Tool.TheVariants as tools
use Rattle.manifest.specs.declared.error.ManifestErr.{ManifestErr}
use Rattle.manifest.specs.declared.error.ManifestErr.TheVariants as errors
use Rattle.manifest.specs.declared.path.Place.{Place}
use Rattle.manifest.specs.declared.path.Place.TheVariants as places
use Rattle.manifest.specs.declared.numbers.Limits.{Limits}
use Rattle.manifest.specs.declared.lists.ItemKind.{ItemKind}
use Rattle.manifest.specs.declared.lists.ItemKind.TheVariants as items
use Rattle.manifest.specs.Names.{is_name, is_file_name, place_of, is_among}

-- the path of a key: in a table of a list, the list's name, the table's number and the key, with dots between them
abbrev pub path_of : Place → List ℕ → List ℕ
path_of places.Top key = key
path_of (places.Module i) key = codes "module." ++ decimal i ++ codes "." ++ key
path_of (places.Guest i) key = codes "guest." ++ decimal i ++ codes "." ++ key

-- ---- rules

-- a rule, and the answer where it fails
abbrev pub Rule : Type 0
Rule = Bool × ManifestErr

-- the answer of the first rule that fails
abbrev pub first_failing : List Rule → Option ManifestErr
first_failing [] = None
first_failing (rule ∷ rules) = if rule.0 then first_failing rules else Some rule.1

-- the answer of the first part in which a rule fails
abbrev pub first_of : Option ManifestErr → Option ManifestErr → Option ManifestErr
first_of None next = next
first_of (Some e) next = Some e

-- the answer of the first rule that fails, of rules in parts
abbrev pub first_in : List (List Rule) → Option ManifestErr
first_in [] = None
first_in (rules ∷ parts) = first_of (first_failing rules) (first_in parts)

-- ---- what stands at a key, if anything does

-- it is not there, or meets the test
abbrev pub if_there : (Data → Bool) → Option Data → Bool
if_there test None = true
if_there test (Some d) = test d

abbrev pub is_text : Data → Bool
is_text d = is_some (as_str d)

abbrev pub is_number : Data → Bool
is_number d = is_some (as_integer d)

abbrev pub is_table : Data → Bool
is_table d = is_some (as_table d)

-- its bytes, where it is a text
abbrev pub text_of : Data → List ℕ
text_of d = unwrap_or (as_str d) []

abbrev pub text_at : Option Data → List ℕ
text_at None = []
text_at (Some d) = text_of d

-- ---- unknown keys

-- the keys that a table may have
abbrev pub keys_of : Place → List (List ℕ)
keys_of places.Top = codes "files" ∷ codes "module" ∷ codes "guest" ∷ []
keys_of (places.Module i) = codes "name" ∷ codes "file" ∷ codes "base" ∷ []
keys_of (places.Guest i) =
    codes "name" ∷ codes "module" ∷ codes "round" ∷ codes "tool" ∷ codes "isa" ∷ codes "max" ∷ codes "fuel" ∷ codes "pool" ∷ codes "stack" ∷ codes "input" ∷ []

-- no key but those. A table's keys rise by their bytes
unfoldable pub unknown_rules : Place → Members → List Rule
unknown_rules place no_members = []
unknown_rules place (member key d ms) = (is_among key (keys_of place), errors.Unknown (path_of place key)) ∷ unknown_rules place ms

-- ---- texts

-- a text that has to be there
abbrev pub text_rules : List ℕ → Option Data → List Rule
text_rules path v = (is_some v, errors.Missing path) ∷ (if_there is_text v, errors.Kind path) ∷ []

-- a name that none of those before it is
unfoldable pub name_rules : List (List ℕ) → List ℕ → Option Data → List Rule
name_rules before path v =
    (is_some v, errors.Missing path) ∷
    (if_there is_text v, errors.Kind path) ∷
    (is_name (text_at v), errors.BadName path) ∷
    (not (is_among (text_at v) before), errors.Repeated path) ∷
    []

-- one of these names
unfoldable pub choice_rules : List (List ℕ) → List ℕ → Option Data → List Rule
choice_rules names path v =
    (is_some v, errors.Missing path) ∷
    (if_there is_text v, errors.Kind path) ∷
    (is_among (text_at v) names, errors.BadName path) ∷
    []

abbrev pub chosen : List (List ℕ) → Option Data → ℕ
chosen names v = unwrap_or (place_of (text_at v) names) 0

-- a text that may be left out, and else meets the test
unfoldable pub optional_rules : (List ℕ → Bool) → List ℕ → Option Data → List Rule
optional_rules test path v =
    (if_there is_text v, errors.Kind path) ∷
    (if_there (λ d. test (text_of d)) v, errors.BadName path) ∷
    []

abbrev pub tool_of : List ℕ → Option Tool
tool_of text =
    if bytes_eq text (codes "blocks") then Some tools.Blocks
    else if bytes_eq text (codes "calls") then Some tools.Calls
    else if bytes_eq text (codes "memory") then Some tools.Memory
    else None

abbrev pub isa_of : List ℕ → Option Isa
isa_of text = if bytes_eq text (codes "i") then Some sets.I else if bytes_eq text (codes "im") then Some sets.Im else None

abbrev pub tool_rules : List ℕ → Option Data → List Rule
tool_rules = optional_rules (λ text. is_some (tool_of text))

abbrev pub isa_rules : List ℕ → Option Data → List Rule
isa_rules = optional_rules (λ text. is_some (isa_of text))

abbrev pub input_rules : List ℕ → Option Data → List Rule
input_rules = optional_rules is_file_name

-- what is meant, or the default where it is left out
abbrev pub meant : {A : Type 0} → A → (List ℕ → Option A) → Option Data → A
meant default pick None = default
meant default pick (Some d) = unwrap_or (pick (text_of d)) default

abbrev pub input_at : Option Data → Option (List ℕ)
input_at None = None
input_at (Some d) = Some (text_of d)

-- ---- numbers

-- it is in the range, and a multiple of the step
abbrev pub fits : Limits → ℤ → Bool
fits limits (pos n) = nat_le limits.low n && nat_le n limits.high && (n % limits.step == 0)
fits limits (negsuc n) = false

abbrev pub if_number : Limits → Option ℤ → Bool
if_number limits None = false
if_number limits (Some z) = fits limits z

-- a number that may be left out
unfoldable pub number_rules : Limits → List ℕ → Option Data → List Rule
number_rules limits path v =
    (if_there is_number v, errors.Kind path) ∷
    (if_there (λ d. if_number limits (as_integer d)) v, errors.Range path) ∷
    []

abbrev pub natural : Option ℤ → ℕ
natural None = 0
natural (Some (pos n)) = n
natural (Some (negsuc n)) = 0

-- the number, or the default where it is left out
abbrev pub number_at : ℕ → Option Data → ℕ
number_at default None = default
number_at default (Some d) = natural (as_integer d)

-- ---- lists

-- what the items of a list are to be
abbrev pub is_of : ItemKind → Data → Bool
is_of items.Text d = is_text d
is_of items.Table d = is_table d

abbrev pub item_count : Items → ℕ
item_count no_items = 0
item_count (item d ds) = item_count ds + 1

abbrev pub each_item : (Data → Bool) → Items → Bool
each_item test no_items = true
each_item test (item d ds) = test d && each_item test ds

-- it is a list, and each item meets the test
abbrev pub if_items : (Data → Bool) → Option Items → Bool
if_items test None = false
if_items test (Some ds) = each_item test ds

abbrev pub items_at : Option Data → Items
items_at None = no_items
items_at (Some d) = unwrap_or (as_array d) no_items

-- a list of 1 to `most` items of a kind
unfoldable pub list_rules : ItemKind → ℕ → List ℕ → Option Data → List Rule
list_rules kind most path v =
    (is_some v, errors.Missing path) ∷
    (if_there (λ d. if_items (is_of kind) (as_array d)) v, errors.Kind path) ∷
    (nat_le 1 (item_count (items_at v)) && nat_le (item_count (items_at v)) most, errors.TooMany path) ∷
    []
