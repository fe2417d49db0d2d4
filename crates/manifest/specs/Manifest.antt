-- What the bytes of a manifest say, and the first rule that they break.
use Rattle.std.specs.Prelude.{◌≡◌, ◌≢◌, ℕ, List, [], ◌∷◌, ◌++◌, length, map, codes, unwrap_or, Option, Some, None, Result, Ok, Err, if◌then◌else◌}
use Rattle.std.specs.List.{list_all}
use Rattle.std.specs.Str.{is_utf8}
use Rattle.toml.specs.Data.{Data, Items, no_items, item, Members, no_members, get_member, as_table}
use Rattle.toml.specs.Parse.{parse_document}
use Rattle.rv_decode.specs.declared.ins.Isa.TheVariants as sets
use Rattle.probe_tools.specs.declared.tool.Tool.TheVariants as tools
use Rattle.manifest.specs.declared.error.ManifestErr.{ManifestErr}
use Rattle.manifest.specs.declared.error.ManifestErr.TheVariants as errors
use Rattle.manifest.specs.declared.path.Place.TheVariants as places
use Rattle.manifest.specs.declared.lists.ItemKind.TheVariants as items
use Rattle.manifest.specs.declared.numbers.Limits.{Limits}
use Rattle.manifest.specs.Names.{is_file_name, are_distinct}
use Rattle.manifest.specs.Entries.{ModuleEntry, GuestEntry, Listing}
use Rattle.manifest.specs.Keys.{Rule, first_in, path_of, unknown_rules, text_of, text_at, name_rules, choice_rules, chosen, tool_of, isa_of, tool_rules, isa_rules, input_rules, meant, input_at, number_rules, number_at, items_at, list_rules}

-- ---- the names of the files

abbrev pub texts_in : Items → List (List ℕ)
texts_in no_items = []
texts_in (item d ds) = text_of d ∷ texts_in ds

abbrev pub files_at : Option Data → List (List ℕ)
files_at v = texts_in (items_at v)

-- a fault of an item is one of the key `files`
unfoldable pub spelling_rules : Option Data → List Rule
spelling_rules v =
    (list_all is_file_name (files_at v), errors.BadName (codes "files")) ∷
    (are_distinct (files_at v), errors.Repeated (codes "files")) ∷
    []

-- ---- the tables of a list

-- the members, where it is a table
abbrev pub table_of : Data → Members
table_of d = unwrap_or (as_table d) no_members

-- what the tables say, in order
unfoldable pub rows_in : {Row : Type 0} → (Members → Row) → Items → List Row
rows_in row_of no_items = []
rows_in row_of (item d ds) = row_of (table_of d) ∷ rows_in row_of ds

-- the rules on each table, where these rows come before it
unfoldable pub rules_each : {Row : Type 0} → (Members → Row) → (List Row → Members → List (List Rule)) → List Row → Items → List (List Rule)
rules_each row_of rules before no_items = []
rules_each row_of rules before (item d ds) = rules before (table_of d) ++ rules_each row_of rules (before ++ row_of (table_of d) ∷ []) ds

-- ---- modules

abbrev pub module_of : List (List ℕ) → Members → ModuleEntry
module_of files t = record {
  name = text_at (get_member (codes "name") t);
  file = chosen files (get_member (codes "file") t);
  base = number_at 0 (get_member (codes "base") t);
}

abbrev pub module_names : List ModuleEntry → List (List ℕ)
module_names modules = map (λ m. m.name) modules

abbrev pub base_limits : Limits
base_limits = record { low = 0; high = 4294967292; step = 4 }

-- the rules on a module's table, by its keys, where these modules come before it
abbrev pub module_rules : List (List ℕ) → List ModuleEntry → Members → List (List Rule)
module_rules files before t =
    let place = places.Module (length before) in
    unknown_rules place t ∷
    name_rules (module_names before) (path_of place (codes "name")) (get_member (codes "name") t) ∷
    choice_rules files (path_of place (codes "file")) (get_member (codes "file") t) ∷
    number_rules base_limits (path_of place (codes "base")) (get_member (codes "base") t) ∷
    []

-- ---- guests

abbrev pub guest_of : List (List ℕ) → Members → GuestEntry
guest_of modules t = record {
  name = text_at (get_member (codes "name") t);
  «module» = chosen modules (get_member (codes "module") t);
  round = number_at 0 (get_member (codes "round") t);
  tool = meant tools.Blocks tool_of (get_member (codes "tool") t);
  isa = meant sets.I isa_of (get_member (codes "isa") t);
  max = number_at 32 (get_member (codes "max") t);
  fuel = number_at 10000000 (get_member (codes "fuel") t);
  pool = number_at 4096 (get_member (codes "pool") t);
  stack = number_at 65536 (get_member (codes "stack") t);
  input = input_at (get_member (codes "input") t);
}

abbrev pub guest_names : List GuestEntry → List (List ℕ)
guest_names guests = map (λ g. g.name) guests

abbrev pub limits_of : ℕ → ℕ → ℕ → Limits
limits_of low high step = record { low = low; high = high; step = step }

-- the rules on a guest's table, by its keys, where these guests come before it
abbrev pub guest_rules : List (List ℕ) → List GuestEntry → Members → List (List Rule)
guest_rules modules before t =
    let place = places.Guest (length before) in
    unknown_rules place t ∷
    name_rules (guest_names before) (path_of place (codes "name")) (get_member (codes "name") t) ∷
    choice_rules modules (path_of place (codes "module")) (get_member (codes "module") t) ∷
    number_rules (limits_of 0 15 1) (path_of place (codes "round")) (get_member (codes "round") t) ∷
    tool_rules (path_of place (codes "tool")) (get_member (codes "tool") t) ∷
    isa_rules (path_of place (codes "isa")) (get_member (codes "isa") t) ∷
    number_rules (limits_of 1 64 1) (path_of place (codes "max")) (get_member (codes "max") t) ∷
    number_rules (limits_of 1 1000000000 1) (path_of place (codes "fuel")) (get_member (codes "fuel") t) ∷
    number_rules (limits_of 16 65536 1) (path_of place (codes "pool")) (get_member (codes "pool") t) ∷
    number_rules (limits_of 4096 1048576 16) (path_of place (codes "stack")) (get_member (codes "stack") t) ∷
    input_rules (path_of place (codes "input")) (get_member (codes "input") t) ∷
    []

-- ---- the whole

abbrev pub modules_at : List (List ℕ) → Option Data → List ModuleEntry
modules_at files v = rows_in (module_of files) (items_at v)

abbrev pub guests_at : List (List ℕ) → Option Data → List GuestEntry
guests_at modules v = rows_in (guest_of modules) (items_at v)

abbrev pub listing_of : Members → Listing
listing_of t =
    let files = files_at (get_member (codes "files") t) in
    let modules = modules_at files (get_member (codes "module") t) in
    record { files = files; modules = modules; guests = guests_at (module_names modules) (get_member (codes "guest") t) }

abbrev pub files_rules : Option Data → List (List Rule)
files_rules v = list_rules items.Text 32 (codes "files") v ∷ spelling_rules v ∷ []

abbrev pub modules_rules : List (List ℕ) → Option Data → List (List Rule)
modules_rules files v = list_rules items.Table 32 (codes "module") v ∷ rules_each (module_of files) (module_rules files) [] (items_at v)

abbrev pub guests_rules : List (List ℕ) → Option Data → List (List Rule)
guests_rules modules v = list_rules items.Table 64 (codes "guest") v ∷ rules_each (guest_of modules) (guest_rules modules) [] (items_at v)

-- all rules, in order
abbrev pub manifest_rules : Members → List (List Rule)
manifest_rules t =
    let files = files_at (get_member (codes "files") t) in
    let modules = modules_at files (get_member (codes "module") t) in
    unknown_rules places.Top t ∷
    (files_rules (get_member (codes "files") t) ++
    (modules_rules files (get_member (codes "module") t) ++
    guests_rules (module_names modules) (get_member (codes "guest") t)))

abbrev pub answered : {A : Type 0} → Option ManifestErr → A → Result A ManifestErr
answered None value = Ok value
answered (Some e) value = Err e

-- the answer for a document, or none where it is no TOML
abbrev pub listing_in : Option Members → Result Listing ManifestErr
listing_in None = Err errors.Text
listing_in (Some t) = answered (first_in (manifest_rules t)) (listing_of t)

-- what the bytes of a manifest say, or the first rule that they break
abbrev pub manifest_of : List ℕ → Result Listing ManifestErr
manifest_of bytes = if is_utf8 bytes then listing_in (parse_document bytes) else Err errors.Text

-- ---- what readers answer

-- What stands there where no rule fails, else the answer of the first that does. Where memory ran out nothing is said
abbrev pub Reads : {X Y : Type 0} → (X → Y) → Option ManifestErr → Y → Result X ManifestErr → Type 0
Reads seen fault value (Ok x) = (fault ≡ None) × (seen x ≡ value)
Reads seen fault value (Err e) = e ≢ errors.Memory → fault ≡ Some e

-- no rule fails, or this is the answer of the first that does. Where memory ran out nothing is said
abbrev pub Passes : Option ManifestErr → Result (Unit {0}) ManifestErr → Type 0
Passes fault (Ok _) = fault ≡ None
Passes fault (Err e) = e ≢ errors.Memory → fault ≡ Some e

-- the answer that is given, unless memory ran out
abbrev pub Gives : {X : Type 0} → Result X ManifestErr → Result X ManifestErr → Type 0
Gives (Ok x) answer = answer ≡ Ok x
Gives (Err e) answer = e ≢ errors.Memory → answer ≡ Err e
