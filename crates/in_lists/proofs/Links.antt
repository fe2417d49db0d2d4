-- The links and heads of the nodes after a change.
use Rattle.std.proofs.Common.{◌≡◌, ◌≢◌, ℕ, ◌<◌, inl, inr, List, Option, length, set, length-set, get_or-set_same, get_or-set_other, refl, ap, sym, ◌∙◌, arith}
use Rattle.in_lists.specs.declared.node.Node.{Node}
use Rattle.in_lists.specs.Nodes.{alone, node_at, with_next, with_head, joined}
use Rattle.in_lists.specs.Linked.{next_of, prev_of, head_of}
use Rattle.in_lists.proofs.Chains.{same_or_not}

node_set : (ns : List Node) (i : ℕ) (n : Node) → i < length ns → node_at (set ns i n) i ≡ n
node_set ns i n within = get_or-set_same ns i n (alone i) within

node_kept : (ns : List Node) (i j : ℕ) (n : Node) → j ≢ i → node_at (set ns i n) j ≡ node_at ns j
node_kept ns i j n other = get_or-set_other ns i j n (alone j) other

-- a field that the new node has from the old one
field_kept : {X : Type 0} (f : Node → X) (ns : List Node) (i j : ℕ) (n : Node) → i < length ns → f n ≡ f (node_at ns i) → f (node_at (set ns i n) j) ≡ f (node_at ns j)
field_kept f ns i j n within same = elim (same_or_not j i) [
  | inl here ↦ ap (λ k. f (node_at (set ns i n) k)) here ∙ ap f (node_set ns i n within) ∙ same ∙ sym (ap (λ k. f (node_at ns k)) here)
  | inr other ↦ ap f (node_kept ns i j n other)
]

pub length-joined : (ns : List Node) (a b : ℕ) → length (joined ns a b) ≡ length ns
length-joined ns a b = length-set (with_next ns a b) b (record (node_at (with_next ns a b) b) { prev = a }) ∙ length-set ns a (record (node_at ns a) { next = b })

pub length-with_head : (ns : List Node) (i : ℕ) (h : Option ℕ) → length (with_head ns i h) ≡ length ns
length-with_head ns i h = length-set ns i (record (node_at ns i) { head = h })

module _ (ns : List Node) (a b : ℕ) (fa : a < length ns) (fb : b < length ns) where
  abbrev half : List Node
  half = with_next ns a b

  abbrev first : Node
  first = record (node_at ns a) { next = b }

  abbrev second : Node
  second = record (node_at half b) { prev = a }

  fb' : b < length half
  fb' = omega (arith, length-set ns a first)

  pub next-joined : next_of (joined ns a b) a ≡ b
  next-joined = field_kept (λ n. n.next) half b a second fb' refl ∙ ap (λ n. n.next) (node_set ns a first fa)

  pub next-joined_other : (i : ℕ) → i ≢ a → next_of (joined ns a b) i ≡ next_of ns i
  next-joined_other i other = field_kept (λ n. n.next) half b i second fb' refl ∙ ap (λ n. n.next) (node_kept ns a i first other)

  pub prev-joined : prev_of (joined ns a b) b ≡ a
  prev-joined = ap (λ n. n.prev) (node_set half b second fb')

  pub prev-joined_other : (i : ℕ) → i ≢ b → prev_of (joined ns a b) i ≡ prev_of ns i
  prev-joined_other i other = ap (λ n. n.prev) (node_kept half b i second other) ∙ field_kept (λ n. n.prev) ns a i first fa refl

  pub head-joined : (i : ℕ) → head_of (joined ns a b) i ≡ head_of ns i
  head-joined i = field_kept (λ n. n.head) half b i second fb' refl ∙ field_kept (λ n. n.head) ns a i first fa refl

module _ (ns : List Node) (i : ℕ) (h : Option ℕ) (fi : i < length ns) where
  abbrev now : Node
  now = record (node_at ns i) { head = h }

  pub next-with_head : (j : ℕ) → next_of (with_head ns i h) j ≡ next_of ns j
  next-with_head j = field_kept (λ n. n.next) ns i j now fi refl

  pub prev-with_head : (j : ℕ) → prev_of (with_head ns i h) j ≡ prev_of ns j
  prev-with_head j = field_kept (λ n. n.prev) ns i j now fi refl

  pub head-with_head : head_of (with_head ns i h) i ≡ h
  head-with_head = ap (λ n. n.head) (node_set ns i now fi)

  pub head-with_head_other : (j : ℕ) → j ≢ i → head_of (with_head ns i h) j ≡ head_of ns j
  head-with_head_other j other = ap (λ n. n.head) (node_kept ns i j now other)
