use Rattle.std.proofs.Common.{◌≡◌, ℕ, ◌/◌, ◌^◌, ◌<◌, ◌≤◌, ℤ, pos, ◌*ℤ◌, arith, w32, w64, to_z, of_z, FitsSigned, ◌∙◌, ap, refl}
use Rattle.std.specs.Prelude.{unsigned_abs}
use Rattle.std.proofs.Math.IntN.{negsuc}
use Rattle.std.specs.Int.Signed.{mag}
use Rattle.std.proofs.lemmas.Int.{to_z-of_z, fits_signed_mul}
use Rattle.plain_machine.specs.Alu.{high, signed}

abs_le : (a : ℤ) (m : ℕ) → mag a < m → unsigned_abs a ≤ m
abs_le (pos n) m h = omega arith
abs_le (negsuc n) m h = omega arith

-- the product of two words fits 64 bits
product_fits : (a b : ℤ) → mag a < 2 ^ 31 → mag b < 2 ^ 31 → FitsSigned w64 (a *ℤ b)
product_fits a b p q = fits_signed_mul w64 a b (2 ^ 31) (2 ^ 31) (abs_le a (2 ^ 31) p) (abs_le b (2 ^ 31) q) (omega arith)

fits_64 : (a : ℤ) → mag a < 2 ^ 31 → FitsSigned w64 a
fits_64 a p = record { sfits = omega arith }

fits_32 : (a : ℤ) → mag a < 2 ^ 31 → FitsSigned w32 a
fits_32 a p = record { sfits = p }

pub high_is : (a b f g : ℤ) (x y p : ℕ) → mag a < 2 ^ 31 → mag b < 2 ^ 31 → a ≡ to_z w32 x → b ≡ to_z w32 y → f ≡ to_z w32 (of_z w32 a) → g ≡ to_z w32 (of_z w32 b) → p ≡ of_z w64 (to_z w64 (of_z w64 (to_z w64 (of_z w64 f) *ℤ to_z w64 (of_z w64 g)))) → p / 2 ^ 32 ≡ high (signed x *ℤ signed y)
high_is a b f g x y p fa fb ea eb ef eg ep =
    let f' : f ≡ a = ef ∙ to_z-of_z w32 a (fits_32 a fa) in
    let g' : g ≡ b = eg ∙ to_z-of_z w32 b (fits_32 b fb) in
    let i = to_z-of_z w64 a (fits_64 a fa) in
    let j = to_z-of_z w64 b (fits_64 b fb) in
    let k = to_z-of_z w64 (a *ℤ b) (product_fits a b fa fb) in
    ap (λ n. n / 2 ^ 32) (rw (ep, f', g', i, j, k, ea, eb) refl)
