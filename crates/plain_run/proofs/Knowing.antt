-- What is known of the modules that are mapped.
use Rattle.std.proofs.Common.{◌≡◌, ℕ, ◌<◌, Bool, true, false, List, [], ◌∷◌, ◌++◌, length, get_or, ◌≤◌, Some, None, refl, sym, ◌∙◌, ap, subst, inl, inr}
use Rattle.std.specs.Prelude.{find, option_map, if◌then◌else◌}
use Rattle.std.specs.List.{list_any}
use Rattle.std.proofs.lemmas.Bool.{cases_Bool, eqb-true}
use Rattle.std.proofs.lemmas.Option.{same_Some, slice_get_read, slice_get_within}
use Rattle.plain_machine.specs.declared.io.Mapping.{Mapping}
use Rattle.plain_machine.specs.Memory.{without_first}
use Rattle.plain_machine.specs.Calls.{is_module}
use Rattle.plain_machine.specs.Program.{Program, top_of}
use Rattle.plain_run.specs.Known.{AreKnown, IsKnown}

pub known-more : (files : List Program) (base f : ℕ) (ms : List Mapping) → AreKnown files base ms → IsKnown files base f → AreKnown files base (ms ++ record { «module» = 0; file = f } ∷ [])
known-more files base f [] all is = (refl, is, tt)
known-more files base f (m ∷ ms) all is = (all.0, all.1, known-more files base f ms all.2 is)

known-if : (files : List Program) (base : ℕ) (m : Mapping) (xs ys : List Mapping) (b : Bool) → AreKnown files base xs → AreKnown files base ys → AreKnown files base (if b then xs else ys)
known-if files base m xs ys true p q = p
known-if files base m xs ys false p q = q

pub known-less : (files : List Program) (base : ℕ) (test : Mapping → Bool) (ms : List Mapping) → AreKnown files base ms → AreKnown files base (without_first test ms)
known-less files base test [] all = tt
known-less files base test (m ∷ ms) all = known-if files base m ms (m ∷ without_first test ms) (test m) all.2 (all.0, all.1, known-less files base test ms all.2)

-- one that is found
pub record Found (files : List Program) (base k : ℕ) (ms : List Mapping) : Type 0 where
  pub mapping : Mapping
  pub is : find (is_module k) ms ≡ Some mapping
  pub zero : k ≡ 0
  pub known : IsKnown files base mapping.file

pub known-found : (files : List Program) (base k : ℕ) (ms : List Mapping) → AreKnown files base ms → list_any (is_module k) ms ≡ true → Found files base k ms
known-found files base k [] all some = absurd (cc)
known-found files base k (m ∷ ms) all some = elim (cases_Bool (is_module k m)) [
  | inl here ↦ record { mapping = m; is = rw here refl; zero = sym (eqb-true m.module k here) ∙ all.0; known = all.1 }
  | inr elsewhere ↦ (
      let rest : list_any (is_module k) ms ≡ true = rw elsewhere at some in
      let found = known-found files base k ms all.2 rest in
      record { mapping = found.mapping; is = rw elsewhere found.is; zero = found.zero; known = found.known }
      )
]

-- the file that it was mapped from
pub file-found : (files : List Program) (base k f : ℕ) (ms : List Mapping) → AreKnown files base ms → list_any (is_module k) ms ≡ true →
    Some f ≡ option_map (λ m. m.file) (find (is_module k) ms) → IsKnown files base f
file-found files base k f ms all some is =
    let found = known-found files base k ms all some in
    let same : found.mapping.file ≡ f = same_Some found.mapping.file f (sym (is ∙ ap (λ o. option_map (λ m. m.file) o) found.is)) in
    subst (IsKnown files base) same found.known

-- the program of a file that is known
pub program-of : (files : List Program) (base f : ℕ) (program : Program) → (known : IsKnown files base f) → program ≡ get_or files f program → known.program ≡ program
program-of files base f program known is =
    same_Some known.program program (sym known.there ∙ slice_get_read files (length files) f program refl (slice_get_within files f known.program known.there) is)

pub known-within : (files : List Program) (base f : ℕ) → IsKnown files base f → f < length files
known-within files base f known = slice_get_within files f known.program known.there

-- a module that is mapped from file f, which is this program
pub record MappedFrom (files : List Program) (base k f : ℕ) (program : Program) (ms : List Mapping) : Type 0 where
  pub found : Found files base k ms
  pub same : found.known.program ≡ program
  pub top : top_of program base ≤ 4294967295

pub mapped-from : (files : List Program) (base k f : ℕ) (program : Program) (ms : List Mapping) → AreKnown files base ms → list_any (is_module k) ms ≡ true →
    Some f ≡ option_map (λ m. m.file) (find (is_module k) ms) → program ≡ get_or files f program → MappedFrom files base k f program ms
mapped-from files base k f program ms all some is at =
    let found = known-found files base k ms all some in
    let file : f ≡ found.mapping.file = same_Some f found.mapping.file (is ∙ ap (λ o. option_map (λ m. m.file) o) found.is) in
    let here : program ≡ get_or files found.mapping.file program = at ∙ ap (λ x. get_or files x program) file in
    let same : found.known.program ≡ program = program-of files base found.mapping.file program found.known here in
    record { found = found; same = same; top = subst (λ p. top_of p base ≤ 4294967295) same found.known.top }

-- a file of this number is known once its program was placed
pub known-placed : (files : List Program) (base f : ℕ) (program : Program) → f < length files → program ≡ get_or files f program → top_of program base ≤ 4294967295 → IsKnown files base f
known-placed files base f program lt is top = record { program = program; there = slice_get_read files (length files) f program refl lt is; top = top }

pub not-found : (files : List Program) (base k : ℕ) (ms : List Mapping) → AreKnown files base ms → list_any (is_module k) ms ≡ true → None ≡ option_map (λ m. m.file) (find (is_module k) ms) → ⊥
not-found files base k ms all some is =
    let found = known-found files base k ms all some in
    let clash : None ≡ Some found.mapping.file = is ∙ ap (λ o. option_map (λ m. m.file) o) found.is in
    cc
