-- The files of modules are there.
use Rattle.std.proofs.Common.{◌≡◌, ℕ, ◌<◌, Bool, true, false, nat_lt, if◌then◌else◌, List, [], ◌∷◌, length, slice_get, Option, Some, None, refl, subst, ltb-true}
use Rattle.std.specs.Prelude.{IfSome}
use Rattle.std.specs.List.{All}
use Rattle.std.proofs.lemmas.List.Elements.{All-set}
use Rattle.std.proofs.lemmas.Option.{get_or_from_slice_get, slice_get_within}
use Rattle.registry.specs.declared.entry.Entry.{Entry}
use Rattle.registry.specs.declared.entry.Entry.TheVariants.{Map, Replace, Attach, Merge, Detach, Due, Acked, Failed, Finish}
use Rattle.registry.specs.declared.entry.Replaced.{Replaced}
use Rattle.registry.specs.declared.entry.Replaced.TheVariants.{Yes, NoSuchModule, NoSuchFile}
use Rattle.registry.specs.Opening.{Opening}
use Rattle.registry.specs.State.{State}
use Rattle.registry.specs.Registry.{after, after_all, files_after, opened, reg, replace_reply, replaced_by}
use Rattle.registry.specs.Laws.{MapsAreThere}

abbrev AreThere : ℕ → List ℕ → Type 0
AreThere count files = All (λ f. f < count) files

is_file : (b c : Bool) → (if b then (if c then Yes else NoSuchFile) else NoSuchModule) ≡ Yes → c ≡ true
is_file true true is = refl
is_file true false is = absurd (let e : NoSuchFile ≡ Yes = is in cc)
is_file false c is = absurd (let e : NoSuchModule ≡ Yes = is in cc)

replaced : (count : ℕ) (files : List ℕ) (k file : ℕ) (r : Replaced) → replaced_by files count k file ≡ r → AreThere count files → AreThere count (files_after r files k file)
replaced count files k file Yes is all = All-set (λ f. f < count) files k file (ltb-true file count (is_file (nat_lt k (length files)) (nat_lt file count) is)) all
replaced count files k file NoSuchModule is all = all
replaced count files k file NoSuchFile is all = all

behind : (o : Opening) (s : State) (e : Entry) → AreThere (length o.codes) s.files → AreThere (length o.codes) (after o s e).files
behind o s (Map guest k file) all = all
behind o s (Replace guest k file reply) all = replaced (length o.codes) s.files k file (replace_reply o s k file) refl all
behind o s (Attach guest slot file age version) all = all
behind o s (Merge guest slot age addrs reply) all = all
behind o s (Detach guest slot age) all = all
behind o s (Due slot age version) all = all
behind o s (Acked slot age version) all = all
behind o s (Failed slot) all = all
behind o s Finish all = all

pub files_there : (o : Opening) (s : State) (es : List Entry) → AreThere (length o.codes) s.files → AreThere (length o.codes) (after_all o s es).files
files_there o s [] all = all
files_there o s (e ∷ es) all = files_there o (after o s e) es (behind o s e all)

pub file_there : (count : ℕ) (files : List ℕ) (k : ℕ) (file : Option ℕ) → slice_get files k ≡ file → AreThere count files → IfSome file (λ f. f < count)
file_there count files k None is all = tt
file_there count files k (Some f) is all = subst (λ n. n < count) (get_or_from_slice_get files k f 0 is) (all k 0 (slice_get_within files k f is))

map_told : (guest k guest' k' : ℕ) (file file' : Option ℕ) → (let x : Option Entry = Some (Map guest k file) in x) ≡ Some (Map guest' k' file') → file ≡ file'
map_told guest k guest' k' file file' is = cc

pub maps-are-there : MapsAreThere
maps-are-there o journal guest k file all told =
    file_there (length o.codes) (reg o journal).files k (Some file) (map_told guest k guest k (slice_get (reg o journal).files k) (Some file) told)
    (files_there o (opened o) journal all)
