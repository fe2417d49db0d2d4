-- The two definitions of the number that bytes spell.
use Rattle.std.proofs.Common.{◌≡◌, ℕ, zero, suc, ◌+◌, ◌-◌, ◌*◌, ◌≤◌, ◌<◌, List, length, take, drop, get_or, refl, ap, arith, ◌∙◌, drop-cons}
use Rattle.std.proofs.lemmas.List.{length-take-le, take_all}
use Rattle.std.proofs.Common.{length-drop}
use Rattle.byteorder.specs.Endian.{little_from, little_number}
use Rattle.plain_machine.specs.Memory.{number_of}
use Rattle.elf_map.specs.Number.{number_at}

little_from-take : (i n : ℕ) (xs : List ℕ) → i + n ≤ length xs → little_from i n xs ≡ number_of (take n (drop i xs))
little_from-take i zero xs h = refl
little_from-take i (suc n) xs h =
    let here : i < length xs = omega arith in
    rw (drop-cons xs i 0) (ap (λ rest. get_or xs i 0 + 256 * rest) (little_from-take (suc i) n xs (omega arith)))

-- the first n bytes of a part that is n long
pub little_number-part : (n at to : ℕ) (xs : List ℕ) → to ≡ at + n → to ≤ length xs → little_number n (take (to - at) (drop at xs)) ≡ number_at n xs at
unfolding number_at
little_number-part n at to xs e h =
    let long : to - at ≡ n = omega arith in
    let size : length (take n (drop at xs)) ≡ n = length-take-le n (drop at xs) (omega (arith, length-drop at xs)) in
    rw long (little_from-take 0 n (take n (drop at xs)) (omega arith) ∙ ap number_of (take_all n (take n (drop at xs)) (omega arith)))
