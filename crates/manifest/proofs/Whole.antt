-- The rules on a whole manifest, part by part.
use Rattle.std.proofs.Common.{◌≡◌, ℕ, ◌<◌, ◌≤◌, true, List, ◌∷◌, ◌++◌, length, Some, None, ap, sym, subst, ◌∙◌}
use Rattle.std.specs.Prelude.{codes, All}
use Rattle.std.proofs.lemmas.List.{length-map}
use Rattle.toml.specs.Data.{Members, get_member}
use Rattle.manifest.specs.declared.error.ManifestErr.{ManifestErr}
use Rattle.manifest.specs.declared.path.Place.TheVariants as places
use Rattle.manifest.specs.Entries.{ModuleEntry, GuestEntry, Listing, IsListing}
use Rattle.manifest.specs.Names.{are_distinct, is_file_name}
use Rattle.manifest.specs.Keys.{Rule, first_failing, first_of, first_in, unknown_rules}
use Rattle.manifest.specs.Manifest.{files_at, files_rules, modules_at, modules_rules, module_names, guests_at, guests_rules, manifest_rules, listing_of}
use Rattle.manifest.proofs.Faults.{first_in-append}

of_three : (u : List Rule) (f m g : List (List Rule)) → first_in (u ∷ (f ++ (m ++ g))) ≡ first_of (first_failing u) (first_of (first_in f) (first_of (first_in m) (first_in g)))
of_three u f m g = ap (first_of (first_failing u)) (first_in-append f (m ++ g) ∙ ap (first_of (first_in f)) (first_in-append m g))

three_fail : (u : List Rule) (f m g : List (List Rule)) (e : ManifestErr) → first_failing u ≡ None → first_in f ≡ None → first_in m ≡ Some e → first_in (u ∷ (f ++ (m ++ g))) ≡ Some e
three_fail u f m g e a b fails =
    of_three u f m g ∙ ap (λ o. first_of o (first_of (first_in f) (first_of (first_in m) (first_in g)))) a
    ∙ ap (λ o. first_of o (first_of (first_in m) (first_in g))) b ∙ ap (λ o. first_of o (first_in g)) fails

three_decide : (u : List Rule) (f m g : List (List Rule)) → first_failing u ≡ None → first_in f ≡ None → first_in m ≡ None → first_in (u ∷ (f ++ (m ++ g))) ≡ first_in g
three_decide u f m g a b c =
    of_three u f m g ∙ ap (λ o. first_of o (first_of (first_in f) (first_of (first_in m) (first_in g)))) a
    ∙ ap (λ o. first_of o (first_of (first_in m) (first_in g))) b ∙ ap (λ o. first_of o (first_in g)) c

abbrev files_in : Members → List (List ℕ)
files_in t = files_at (get_member (codes "files") t)

abbrev modules_in : Members → List ModuleEntry
modules_in t = modules_at (files_in t) (get_member (codes "module") t)

abbrev after_files : Members → List (List Rule)
after_files t = modules_rules (files_in t) (get_member (codes "module") t)

abbrev after_modules : Members → List (List Rule)
after_modules t = guests_rules (module_names (modules_in t)) (get_member (codes "guest") t)

module _ (t : Members) (files : List (List ℕ)) (is : files ≡ files_at (get_member (codes "files") t))
    (u : first_failing (unknown_rules places.Top t) ≡ None) (f : first_in (files_rules (get_member (codes "files") t)) ≡ None) where
  pub modules_fail : (e : ManifestErr) → first_in (modules_rules files (get_member (codes "module") t)) ≡ Some e → first_in (manifest_rules t) ≡ Some e
  modules_fail e fails =
      three_fail (unknown_rules places.Top t) (files_rules (get_member (codes "files") t)) (after_files t) (after_modules t) e u f
      (ap (λ fs. first_in (modules_rules fs (get_member (codes "module") t))) (sym is) ∙ fails)

  pub guests_decide : (modules : List ModuleEntry) → modules ≡ modules_at files (get_member (codes "module") t) → first_in (modules_rules files (get_member (codes "module") t)) ≡ None
      → first_in (manifest_rules t) ≡ first_in (guests_rules (module_names modules) (get_member (codes "guest") t))
  guests_decide modules are passes =
      three_decide (unknown_rules places.Top t) (files_rules (get_member (codes "files") t)) (after_files t) (after_modules t) u f
      (ap (λ fs. first_in (modules_rules fs (get_member (codes "module") t))) (sym is) ∙ passes)
      ∙ ap (λ ms. first_in (guests_rules (module_names ms) (get_member (codes "guest") t)))
      (ap (λ fs. modules_at fs (get_member (codes "module") t)) (sym is) ∙ sym are)

pub listing_is : (t : Members) (files : List (List ℕ)) (modules : List ModuleEntry) (guests : List GuestEntry) → files ≡ files_at (get_member (codes "files") t)
    → modules ≡ modules_at files (get_member (codes "module") t) → guests ≡ guests_at (module_names modules) (get_member (codes "guest") t)
    → (let l : Listing = record { files = files; modules = modules; guests = guests } in l ≡ listing_of t)
listing_is t files modules guests a b c = cc

-- what every manifest keeps
pub is_listing : (files kept : List (List ℕ)) (modules : List ModuleEntry) (names : List (List ℕ)) (guests : List GuestEntry) → kept ≡ files → names ≡ module_names modules
    → 1 ≤ length files → length files ≤ 32 → All (λ n. is_file_name n ≡ true) files → 1 ≤ length modules → length modules ≤ 32 → All (λ m. m.file < length files) modules
    → 1 ≤ length guests → length guests ≤ 64 → All (λ g. g.«module» < length names) guests → are_distinct (module_names modules) ≡ true → IsListing kept modules guests
is_listing files kept modules names guests same named some_file few_files spelled some_module few_modules have_files some_guest few_guests have_modules apart =
    let count : length names ≡ length modules = ap length named ∙ length-map modules (λ m. m.name) in
    rw same (record {
      some_file = some_file;
      few_files = few_files;
      some_module = some_module;
      few_modules = few_modules;
      some_guest = some_guest;
      few_guests = few_guests;
      own_names = apart;
      files_spelled = spelled;
      have_files = have_files;
      have_modules = subst (λ n. All (λ g. g.«module» < n) guests) count have_modules;
    })
