-- The program headers of a file as a list.
use Rattle.std.proofs.Common.{◌≡◌, ℕ, zero, suc, ◌+◌, ◌≤◌, List, [], ◌∷◌, None, length, refl, ap, arith, ◌∙◌}
use Rattle.std.proofs.lemmas.Bool.Decides.{nat_tests}
use Rattle.elf_map.specs.Elf.{header_of, headers_from, header_rules, first_failing, e_phnum}

pub headers_from-none : (f : List ℕ) (at n : ℕ) → n ≡ 0 → headers_from f at n ≡ []
unfolding headers_from
headers_from-none f at n e = rw e refl

headers_from-suc : (f : List ℕ) (at n : ℕ) → headers_from f at (suc n) ≡ header_of f at ∷ headers_from f (at + 32) n
unfolding headers_from
headers_from-suc f at n = refl

pub headers_from-some : (f : List ℕ) (at n k : ℕ) → n ≡ suc k → headers_from f at n ≡ header_of f at ∷ headers_from f (at + 32) k
headers_from-some f at n k e = rw e (headers_from-suc f at k)

pub length-headers_from : (f : List ℕ) (at n : ℕ) → length (headers_from f at n) ≡ n
length-headers_from f at zero = ap length (headers_from-none f at zero refl)
length-headers_from f at (suc n) = ap length (headers_from-suc f at n) ∙ omega (arith, length-headers_from f (at + 32) n)

-- a header that is sound has at most 64
pub few_headers : (f : List ℕ) → first_failing (header_rules f) ≡ None → e_phnum f ≤ 64
few_headers f h = grind (arith, nat_tests)
