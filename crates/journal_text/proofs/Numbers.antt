-- Numbers in a row.
use Rattle.std.proofs.Common.{◌≡◌, ℕ, zero, suc, ◌+◌, ◌-◌, ◌<◌, Bool, true, false, cond, List, [], ◌∷◌, ◌++◌, Some, flat_map, find, ap, sym, ◌∙◌, arith, append_assoc, append-nil, zero-add}
use Rattle.std.specs.List.{range_with_len}

one_after : (a n : ℕ) → range_with_len a (suc n) ≡ range_with_len a n ++ (a + n) ∷ []
one_after a zero = let e : a ≡ a + zero = omega arith in ap (λ k. k ∷ []) e
one_after a (suc n) =
    let e : a + 1 + n ≡ a + suc n = omega arith in
    ap (λ ks. a ∷ ks) (one_after (a + 1) n ∙ ap (λ k. range_with_len (a + 1) n ++ k ∷ []) e)

pieces_more : (f : ℕ → List ℕ) (ns : List ℕ) (n : ℕ) → flat_map f (ns ++ n ∷ []) ≡ flat_map f ns ++ f n
pieces_more f [] n = append-nil (f n)
pieces_more f (m ∷ ns) n = ap (λ rest. f m ++ rest) (pieces_more f ns n) ∙ sym (append_assoc (f m) (flat_map f ns) (f n))

-- what is made of the numbers below n, and of n
pub one_more : (f : ℕ → List ℕ) (n : ℕ) → flat_map f (range_with_len 0 (n + 1)) ≡ flat_map f (range_with_len 0 n) ++ f n
one_more f n =
    let next : n + 1 ≡ suc n = omega arith in
    ap (λ k. flat_map f (range_with_len 0 k)) next ∙ ap (flat_map f) (one_after 0 n ∙ ap (λ k. range_with_len 0 n ++ k ∷ []) (zero-add n)) ∙ pieces_more f (range_with_len 0 n) n

-- the first number that passes is not this one
pub not_this : (p : ℕ → Bool) (i n : ℕ) → i < n → p i ≡ false → find p (range_with_len i (n - i)) ≡ find p (range_with_len (i + 1) (n - (i + 1)))
not_this p i n lt fails =
    let some : n - i ≡ suc (n - (i + 1)) = omega (arith, lt) in
    ap (λ k. find p (range_with_len i k)) some ∙ ap (λ b. cond b (Some i) (find p (range_with_len (i + 1) (n - (i + 1))))) fails

-- or it is this one
pub is_this : (p : ℕ → Bool) (i n : ℕ) → i < n → p i ≡ true → find p (range_with_len i (n - i)) ≡ Some i
is_this p i n lt holds =
    let some : n - i ≡ suc (n - (i + 1)) = omega (arith, lt) in
    ap (λ k. find p (range_with_len i k)) some ∙ ap (λ b. cond b (Some i) (find p (range_with_len (i + 1) (n - (i + 1))))) holds
