-- The tables of a process, by place: which place a live address has, what lies there, and where its exits lead.
use Rattle.std.specs.Prelude.{ℕ, ◌+◌, ◌*◌, ◌%◌, Bool, false, cond, List, [], ◌∷◌, Option, Some, None}
use Rattle.std.specs.Ordering.{nat_cmp}
use Rattle.std.specs.FinMap as fin
use Rattle.fragment.specs.Parts.{Parts}
pub use Rattle.frag_table.specs.Held.{Held, address_of, is_shared_in}
use Rattle.exit_links.specs.Linked as links
use Rattle.exit_links.specs.Linked.{Linked}
use Rattle.block_ledger.specs.Ledger.{source, exit_at}

pub record Tables : Type 0 where
  -- by address
  pub place : ℕ → Option ℕ
  -- by place
  pub held : ℕ → Option Held
  -- by twice the place and the exit
  pub next : ℕ → Option ℕ

-- the place that exit x leads to
abbrev pub leads : Linked → ℕ → Option ℕ
leads l x = fin.get l.pairs x

abbrev pub is_value : Option ℕ → ℕ → Bool
is_value o p = links.leads_to o p

abbrev pub and_then : {A B : Type 0} → Option A → (A → Option B) → Option B
and_then None f = None
and_then (Some a) f = f a

-- ---- by address

abbrev pub if_shared : Bool → Held → Option Parts
if_shared b h = cond b (cond h.shared (Some h.block) None) (cond h.shared None (Some h.block))

-- the block at an address, where it is of an attached unit or not
abbrev pub block_at : Tables → Bool → ℕ → Option Parts
block_at t b a = and_then (and_then (t.place a) t.held) (if_shared b)

-- the address that lies in a place
abbrev pub address_at : Tables → ℕ → Option ℕ
address_at t p = address_of (t.held p)

abbrev pub number_of : ℕ → ℕ → ℕ
number_of p e = 2 * p + e

-- where the exit x of the block at an address leads
abbrev pub link_at : Tables → ℕ → Option ℕ
link_at t x = and_then (t.place (source x)) (λ p. and_then (t.next (number_of p (x % 2))) (address_at t))

-- ---- as finite maps

abbrev pub with_value : {X : Type 0} → ℕ → Option X → fin.FinMap nat_cmp X → fin.FinMap nat_cmp X
with_value k None m = m
with_value k (Some v) m = fin.insert m k v

-- the map with these keys, where the function has a value
abbrev pub tabulated : {X : Type 0} → List ℕ → (ℕ → Option X) → fin.FinMap nat_cmp X
tabulated [] f = fin.empty
tabulated (k ∷ ks) f = with_value k (f k) (tabulated ks f)

abbrev pub exits_of : List ℕ → List ℕ
exits_of [] = []
exits_of (a ∷ rest) = exit_at a 0 ∷ exit_at a 1 ∷ exits_of rest
