-- What a list of nodes is after `put`.
use Rattle.std.proofs.Common.{◌≡◌, ℕ, zero, suc, ◌+◌, ◌<◌, ◌≤◌, List, [], ◌∷◌, length, set, get_or, refl, sym, ap, arith}
use Rattle.in_lists.specs.Block.{put_at}
use Rattle.in_lists.specs.Nodes.{alone, AllAlone}
use Rattle.in_lists.specs.declared.node.Node.{Node}

-- over a node
pub put_within : (ns : List Node) (i : ℕ) (n : Node) → i < length ns → put_at ns i n ≡ set ns i n
put_within [] i n within = absurd (omega arith)
put_within (m ∷ ms) zero n within = refl
put_within (m ∷ ms) (suc i) n within = ap (λ (rest : List Node). m ∷ rest) (put_within ms i n (omega arith))

-- right behind the last one
pub put_longer : (ns : List Node) (i : ℕ) (n : Node) → i ≡ length ns → length (put_at ns i n) ≡ i + 1
put_longer [] i n end = omega arith
put_longer (m ∷ ms) zero n end = absurd (omega arith)
put_longer (m ∷ ms) (suc i) n end = omega (arith, put_longer ms i n (omega arith))

-- where d is read before, and n is d in its own place, d is read afterwards
read_put : (ns : List Node) (i k : ℕ) (n d : Node) → i ≤ length ns → (k ≡ i → n ≡ d) → get_or ns k d ≡ d → get_or (put_at ns i n) k d ≡ d
read_put [] i zero n d le same old = same (omega arith)
read_put [] i (suc k) n d le same old = refl
read_put (m ∷ ms) zero zero n d le same old = same refl
read_put (m ∷ ms) zero (suc k) n d le same old = old
read_put (m ∷ ms) (suc i) zero n d le same old = old
read_put (m ∷ ms) (suc i) (suc k) n d le same old = read_put ms i k n d (omega arith) (λ e. same (ap suc e)) old

pub put_alone : (ns : List Node) (i : ℕ) → i ≤ length ns → AllAlone ns → AllAlone (put_at ns i (alone i))
put_alone ns i le all k = read_put ns i k (alone i) (alone k) le (λ e. ap alone (sym e)) (all k)
