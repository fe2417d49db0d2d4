-- The programs of files, one by one.
use Rattle.std.proofs.Common.{◌≡◌, ℕ, zero, suc, ◌+◌, ◌<◌, List, [], ◌∷◌, ◌++◌, length, take, get_or, Ok, Err, refl, ◌∙◌, subst, arith}
use Rattle.plain_machine.specs.Program.{Program}
use Rattle.elf_map.specs.Elf.{elf_of}
use Rattle.host_text.specs.declared.cause.Cause.{Cause}
use Rattle.host.specs.Outcome.{taken, programs_of}
use Rattle.host.proofs.Steps.{goes_on, stops}

-- these are the programs of these files
abbrev pub AreTaken : List (List ℕ) → List (List ℕ) → List Program → Type 0
AreTaken [] files [] = Unit {0}
AreTaken [] files (p ∷ ps) = ⊥
AreTaken (name ∷ names) [] ps = ⊥
AreTaken (name ∷ names) (bytes ∷ files) [] = ⊥
AreTaken (name ∷ names) (bytes ∷ files) (p ∷ ps) = (taken name (elf_of bytes) ≡ Ok p) × AreTaken names files ps

taken_next : (names files : List (List ℕ)) (ps : List Program) (i : ℕ) (p : Program) (d e : List ℕ) → i < length names → i < length files →
    AreTaken (take i names) (take i files) ps → taken (get_or names i d) (elf_of (get_or files i e)) ≡ Ok p →
    AreTaken (take (suc i) names) (take (suc i) files) (ps ++ p ∷ [])
taken_next [] files ps i p d e within also before is = absurd (omega (arith, within))
taken_next (name ∷ names) [] ps i p d e within also before is = absurd (omega (arith, also))
taken_next (name ∷ names) (bytes ∷ files) [] zero p d e within also before is = (is, tt)
taken_next (name ∷ names) (bytes ∷ files) (q ∷ ps) zero p d e within also before is = absurd before
taken_next (name ∷ names) (bytes ∷ files) [] (suc i) p d e within also before is = absurd before
taken_next (name ∷ names) (bytes ∷ files) (q ∷ ps) (suc i) p d e within also before is =
    let one : i < length names = omega (arith, within) in
    let two : i < length files = omega (arith, also) in
    (before.0, taken_next names files ps i p d e one two before.1 is)

pub taken_more : (names files : List (List ℕ)) (ps : List Program) (i : ℕ) (p : Program) (d e : List ℕ) → i < length names → i < length files →
    AreTaken (take i names) (take i files) ps → taken (get_or names i d) (elf_of (get_or files i e)) ≡ Ok p →
    AreTaken (take (i + 1) names) (take (i + 1) files) (ps ++ p ∷ [])
taken_more names files ps i p d e within also before is =
    let one : suc i ≡ i + 1 = omega arith in
    subst (λ n. AreTaken (take n names) (take n files) (ps ++ p ∷ [])) one (taken_next names files ps i p d e within also before is)

pub refused_at : (names files : List (List ℕ)) (ps : List Program) (i : ℕ) (cause : Cause) (d e : List ℕ) → i < length names → i < length files →
    AreTaken (take i names) (take i files) ps → taken (get_or names i d) (elf_of (get_or files i e)) ≡ Err cause → programs_of names files ≡ Err cause
unfolding programs_of
refused_at [] files ps i cause d e within also before is = absurd (omega (arith, within))
refused_at (name ∷ names) [] ps i cause d e within also before is = absurd (omega (arith, also))
refused_at (name ∷ names) (bytes ∷ files) ps zero cause d e within also before is = stops (taken name (elf_of bytes)) _ cause is
refused_at (name ∷ names) (bytes ∷ files) [] (suc i) cause d e within also before is = absurd before
refused_at (name ∷ names) (bytes ∷ files) (q ∷ ps) (suc i) cause d e within also before is =
    let one : i < length names = omega (arith, within) in
    let two : i < length files = omega (arith, also) in
    goes_on (taken name (elf_of bytes)) _ q before.0 ∙ stops (programs_of names files) _ cause (refused_at names files ps i cause d e one two before.1 is)

pub all_taken : (names files : List (List ℕ)) (ps : List Program) → AreTaken names files ps → programs_of names files ≡ Ok ps
unfolding programs_of
all_taken [] files [] are = refl
all_taken [] files (p ∷ ps) are = absurd are
all_taken (name ∷ names) [] ps are = absurd are
all_taken (name ∷ names) (bytes ∷ files) [] are = absurd are
all_taken (name ∷ names) (bytes ∷ files) (p ∷ ps) are =
    goes_on (taken name (elf_of bytes)) _ p are.0 ∙ goes_on (programs_of names files) _ ps (all_taken names files ps are.1)

-- there are as many programs as names
pub program_count : (names files : List (List ℕ)) (ps : List Program) → AreTaken names files ps → length ps ≡ length names
program_count [] files [] are = refl
program_count [] files (p ∷ ps) are = absurd are
program_count (name ∷ names) [] ps are = absurd are
program_count (name ∷ names) (bytes ∷ files) [] are = absurd are
program_count (name ∷ names) (bytes ∷ files) (p ∷ ps) are = let more : length ps ≡ length names = program_count names files ps are.1 in omega (arith, more)
