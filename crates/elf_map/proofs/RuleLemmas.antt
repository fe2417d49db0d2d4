-- The first rule that fails, of rules in parts.
use Rattle.std.proofs.Common.{◌≡◌, ℕ, ◌+◌, refl, List, [], ◌∷◌, ◌++◌, Some, None, Result, Ok, Err, ⊎_elim, ap, ◌∙◌, length, true, false, arith}
use Rattle.std.proofs.lemmas.Bool.{cases_Bool}
use Rattle.std.specs.List.{flat_map, filter}
use Rattle.elf_map.specs.declared.error.ElfErr.{ElfErr}
use Rattle.elf_map.specs.declared.header.ProgramHeader.{ProgramHeader}
use Rattle.elf_map.specs.Program.{executes}
use Rattle.elf_map.specs.Results.{Tests}
use Rattle.elf_map.specs.Elf.{Rule, first_failing, header_rules, kind_rules, segment_rules, count_rule, file_rules, headers, program_in, is_mapped, segments_of, flags_of}

-- the first part decides where a rule of it fails
pub first_failing-append_some : (xs ys : List Rule) (e : ElfErr) → first_failing xs ≡ Some e → first_failing (xs ++ ys) ≡ Some e
first_failing-append_some [] ys e h = absurd (cc)
first_failing-append_some (x ∷ xs) ys e h =
    ⊎_elim (λ passes. rw passes (first_failing-append_some xs ys e (rw passes at h))) (λ fails. rw fails (rw fails at h)) (cases_Bool x.0)

pub first_failing-append_none : (xs ys : List Rule) → first_failing xs ≡ None → first_failing (xs ++ ys) ≡ first_failing ys
first_failing-append_none [] ys h = refl
first_failing-append_none (x ∷ xs) ys h =
    ⊎_elim (λ passes. rw passes (first_failing-append_none xs ys (rw passes at h))) (λ fails. let c = rw fails at h in absurd (cc)) (cases_Bool x.0)

-- the rules behind those on the file's header, and behind those on kinds
abbrev from_segments : List ℕ → List Rule
from_segments f = segment_rules (length f) 0 (headers f) ++ count_rule (program_in f) ∷ []

abbrev from_kinds : List ℕ → List Rule
from_kinds f = flat_map kind_rules (headers f) ++ from_segments f

pub header_fails : (f : List ℕ) (e : ElfErr) → first_failing (header_rules f) ≡ Some e → first_failing (file_rules f) ≡ Some e
header_fails f e h = first_failing-append_some (header_rules f) (from_kinds f) e h

pub kind_fails : (f : List ℕ) (e : ElfErr) → first_failing (header_rules f) ≡ None → first_failing (flat_map kind_rules (headers f)) ≡ Some e
    → first_failing (file_rules f) ≡ Some e
kind_fails f e h k =
    first_failing-append_none (header_rules f) (from_kinds f) h ∙ first_failing-append_some (flat_map kind_rules (headers f)) (from_segments f) e k

to_segments : (f : List ℕ) → first_failing (header_rules f) ≡ None → first_failing (flat_map kind_rules (headers f)) ≡ None
    → first_failing (file_rules f) ≡ first_failing (from_segments f)
to_segments f h k =
    first_failing-append_none (header_rules f) (from_kinds f) h ∙ first_failing-append_none (flat_map kind_rules (headers f)) (from_segments f) k

pub segment_fails : (f : List ℕ) (e : ElfErr) → first_failing (header_rules f) ≡ None → first_failing (flat_map kind_rules (headers f)) ≡ None
    → first_failing (segment_rules (length f) 0 (headers f)) ≡ Some e → first_failing (file_rules f) ≡ Some e
segment_fails f e h k s =
    to_segments f h k ∙ first_failing-append_some (segment_rules (length f) 0 (headers f)) (count_rule (program_in f) ∷ []) e s

pub count_decides : (f : List ℕ) → first_failing (header_rules f) ≡ None → first_failing (flat_map kind_rules (headers f)) ≡ None
    → first_failing (segment_rules (length f) 0 (headers f)) ≡ None → first_failing (file_rules f) ≡ first_failing (count_rule (program_in f) ∷ [])
count_decides f h k s =
    to_segments f h k ∙ first_failing-append_none (segment_rules (length f) 0 (headers f)) (count_rule (program_in f) ∷ []) s

-- rules of which the same fails first are tested alike
pub Tests-same : (xs ys : List Rule) (r : Result (Unit {0}) ElfErr) → first_failing xs ≡ first_failing ys → Tests ys r → Tests xs r
Tests-same xs ys (Ok u) e t = e ∙ t
Tests-same xs ys (Err x) e t = e ∙ t

-- one program header more
pub kinds_pass : (hs rest : List ProgramHeader) (h : ProgramHeader) → hs ≡ h ∷ rest → first_failing (kind_rules h) ≡ None
    → first_failing (flat_map kind_rules hs) ≡ first_failing (flat_map kind_rules rest)
kinds_pass hs rest h e passes = ap (λ all. first_failing (flat_map kind_rules all)) e ∙ first_failing-append_none (kind_rules h) (flat_map kind_rules rest) passes

pub kinds_fail : (hs rest : List ProgramHeader) (h : ProgramHeader) (err : ElfErr) → hs ≡ h ∷ rest → first_failing (kind_rules h) ≡ Some err
    → first_failing (flat_map kind_rules hs) ≡ Some err
kinds_fail hs rest h err e fails = ap (λ all. first_failing (flat_map kind_rules all)) e ∙ first_failing-append_some (kind_rules h) (flat_map kind_rules rest) err fails

-- how many of the headers' segments may be executed
abbrev pub code_count : List ℕ → List ProgramHeader → ℕ
code_count f hs = length (filter executes (segments_of f hs))

pub code_count-more : (f : List ℕ) (hs rest : List ProgramHeader) (h : ProgramHeader) → hs ≡ h ∷ rest → is_mapped h ≡ true → (flags_of h.flags).execute ≡ true
    → code_count f hs ≡ code_count f rest + 1
code_count-more f hs rest h e mapped runs =
    ap (code_count f) e ∙ (rw mapped (rw runs (omega arith)))

pub code_count-data : (f : List ℕ) (hs rest : List ProgramHeader) (h : ProgramHeader) → hs ≡ h ∷ rest → is_mapped h ≡ true → (flags_of h.flags).execute ≡ false
    → code_count f hs ≡ code_count f rest
code_count-data f hs rest h e mapped stays = ap (code_count f) e ∙ (rw mapped (rw stays refl))

pub code_count-unmapped : (f : List ℕ) (hs rest : List ProgramHeader) (h : ProgramHeader) → hs ≡ h ∷ rest → is_mapped h ≡ false → code_count f hs ≡ code_count f rest
code_count-unmapped f hs rest h e unmapped = ap (code_count f) e ∙ (rw unmapped refl)
