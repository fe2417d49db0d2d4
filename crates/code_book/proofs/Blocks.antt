-- The blocks of a unit, as a list and by address.
use Rattle.std.proofs.Common.{◌≡◌, ℕ, zero, suc, ◌+◌, ◌-◌, ◌<◌, ◌≤◌, ◌==◌, ◌||◌, ◌&&◌, Bool, true, false, cond, List, [], ◌∷◌, ◌++◌, length, get_or, Option, Some, None, refl, sym, ◌∙◌, ap, subst, arith, is_lt}
use Rattle.std.specs.Prelude.{is_some, map, drop, nat_le, nat_lt, slice_get, IfSome, T, not, if◌then◌else◌}
use Rattle.std.specs.List.{flat_map}
use Rattle.std.specs.Option.{option_or}
use Rattle.std.specs.Ordering.{nat_cmp, eq_by_cmp}
use Rattle.std.specs.Cmp.{nat_cmp_total}
use Rattle.std.specs.FinMap as fin
use Rattle.std.specs.FinSet as set
use Rattle.std.proofs.lemmas.Bool.Decides.{nat_tests}
use Rattle.std.proofs.lemmas.Option.{slice_get-get_or}
use Rattle.cc_base.specs.Image.{Code}
use Rattle.cc_base.specs.Span.{Range}
use Rattle.fragment.specs.Parts.{Parts}
use Rattle.fragment.specs.declared.Exit.{Exit}
use Rattle.fragment.specs.declared.Exit.TheVariants.{Direct, Indirect, Asks, Stop}
use Rattle.block_ledger.specs.Ledger.{Ledger, Blocks, with_all, links_of, exit_at, is_live, only, attached}
use Rattle.block_ledger.proofs.Gets.{got-insert, kept-insert}
use Rattle.code_book.specs.Book.{Book, IsKept, ledger, outside}
use Rattle.code_book.proofs.Only.{only-all}
use Rattle.code_book.proofs.Leaving.{or_dead, only-live}
use Rattle.merge_pass.specs.Segments.{segment_for}
use Rattle.unit_set.specs.Held as unit
use Rattle.unit_set.specs.Held.{addresses}
use Rattle.code_book.specs.Whole.{IsClear, IsClearOf, region_of, AreBlocks, IsInside, has, entries_of, blocks_of, target_in, led_to, with_blocks, with_exits, with_links}
use Rattle.code_book.proofs.Coming.{eq_apart}
use Rattle.code_book.proofs.Ledgers.{same_blocks}
use Rattle.code_book.proofs.Withdrawing.{eq_is}

pub drop-at : {X : Type 0} (xs : List X) (i : ℕ) (x : X) → slice_get xs i ≡ Some x → drop i xs ≡ x ∷ drop (i + 1) xs
drop-at [] i x e = absurd (cc)
drop-at (y ∷ xs) zero x e = let same : y ≡ x = cc in ap (λ z. z ∷ xs) same
drop-at (y ∷ xs) (suc i) x e = drop-at xs i x e ∙ ap (λ n. x ∷ drop n (y ∷ xs)) (more i)
  where
    more : (i : ℕ) → suc (i + 1) ≡ suc i + 1
    more i = omega arith

pub drop-end : {X : Type 0} (xs : List X) → drop (length xs) xs ≡ []
drop-end [] = refl
drop-end (x ∷ xs) = drop-end xs

-- ---- rising

-- from there on the blocks lie as before
pub record LiesFrom (region : Range) (fs : List Parts) : Type 0 where
  pub least : ℕ
  pub rest : AreBlocks region least fs

pub lies-from : (region : Range) (least : ℕ) (fs : List Parts) (i : ℕ) → AreBlocks region least fs → LiesFrom region (drop i fs)
lies-from region least [] zero are = record { least = least; rest = are }
lies-from region least [] (suc i) are = record { least = least; rest = are }
lies-from region least (f ∷ fs) zero are = record { least = least; rest = are }
lies-from region least (f ∷ fs) (suc i) are = lies-from region (f.address + 1) fs i are.2

-- none lies below the first
none_by : (f : Parts) (fs : List Parts) (a : ℕ) → (eq_by_cmp nat_cmp a f.address ≡ false) → fin.find nat_cmp a (entries_of fs) ≡ None → fin.find nat_cmp a (entries_of (f ∷ fs)) ≡ None
none_by f fs a apart rest = ap (λ b. cond b (Some f) (fin.find nat_cmp a (entries_of fs))) apart ∙ rest

pub none-below : (region : Range) (least : ℕ) (fs : List Parts) (a : ℕ) → a < least → AreBlocks region least fs → fin.find nat_cmp a (entries_of fs) ≡ None
none-below region least [] a less are = refl
none-below region least (f ∷ fs) a less are =
    let from = are.0 in
    none_by f fs a (eq_is a f.address false (eq_apart a f.address (λ e. absurd (omega (arith, from, less, e))))) (none-below region (f.address + 1) fs a (omega (arith, from, less)) are.2)

is_less : (a b : ℕ) → a < b → T (is_lt (nat_cmp a b))
is_less a b less = grind (arith, nat_tests)

both : (a b : Bool) → T a → T b → T (a && b)
both true b p q = q
both false b p q = p

below_all : (region : Range) (least : ℕ) (fs : List Parts) (a : ℕ) → a < least → AreBlocks region least fs → T (fin.Entries.below_all nat_cmp a (entries_of fs))
below_all region least [] a less are = tt
below_all region least (f ∷ fs) a less are =
    let from = are.0 in
    both _ _ (is_less a f.address (omega (arith, from, less))) (below_all region (f.address + 1) fs a (omega (arith, from, less)) are.2)

sorted : (region : Range) (least : ℕ) (fs : List Parts) → AreBlocks region least fs → T (fin.is_sorted nat_cmp (entries_of fs))
sorted region least [] are = tt
sorted region least (f ∷ fs) are = both _ _ (below_all region (f.address + 1) fs f.address (omega arith) are.2) (sorted region (f.address + 1) fs are.2)

as-sorted : (region : Range) (least : ℕ) (fs : List Parts) → AreBlocks region least fs → blocks_of fs ≡ fin.from_sorted (entries_of fs)
as-sorted region least fs are = same_blocks (blocks_of fs) (fin.from_sorted (entries_of fs)) (λ q.
    fin.get-from_entries nat_cmp_total (entries_of fs) q ∙ sym (fin.get-from_sorted nat_cmp (entries_of fs) q (sorted region least fs are)))

pub entries-are : (region : Range) (least : ℕ) (fs : List Parts) → AreBlocks region least fs → fin.entries (blocks_of fs) ≡ entries_of fs
entries-are region least fs are = ap fin.entries (as-sorted region least fs are) ∙ fin.entries-from_sorted nat_cmp (entries_of fs) (sorted region least fs are)

-- ---- what the unit has

has_by : (f : Parts) (fs : List Parts) (a : ℕ) (b : Bool) → (f.address == a) ≡ b → is_some (fin.find nat_cmp a (entries_of fs)) ≡ has fs a →
    is_some (cond b (Some f) (fin.find nat_cmp a (entries_of fs))) ≡ (b || has fs a)
has_by f fs a true is rest = refl
has_by f fs a false is rest = rest

turned : (a b : ℕ) → (a == b) ≡ (b == a)
turned a b = grind (arith, nat_tests)

find_has : (fs : List Parts) (a : ℕ) → is_some (fin.find nat_cmp a (entries_of fs)) ≡ has fs a
find_has [] a = refl
find_has (f ∷ fs) a = ap (λ b. is_some (cond b (Some f) (fin.find nat_cmp a (entries_of fs)))) (eq_is a f.address (f.address == a) (turned a f.address)) ∙ has_by f fs a (f.address == a) refl (find_has fs a)

pub got-has : (region : Range) (least : ℕ) (fs : List Parts) → AreBlocks region least fs → (a : ℕ) → is_some (fin.get (blocks_of fs) a) ≡ has fs a
got-has region least fs are a = ap is_some (fin.get-from_entries nat_cmp_total (entries_of fs) a) ∙ find_has fs a

-- ---- maps with entries added

pub with-none : {X : Type 0} (m : fin.FinMap nat_cmp X) → with_all m [] ≡ m
with-none m = same_blocks (with_all m []) m (λ q. fin.get-from_entries nat_cmp_total (fin.entries m) q ∙ sym (fin.get-entries m q))

pub with-more : {X : Type 0} (m : fin.FinMap nat_cmp X) (xs ys : List (ℕ × X)) → with_all m (xs ++ ys) ≡ with_all (with_all m ys) xs
with-more m [] ys = sym (with-none (with_all m ys))
with-more m (x ∷ xs) ys = ap (λ n. fin.insert n x.0 x.1) (with-more m xs ys)

or_cond : {A : Type 0} (b : Bool) (v : A) (o p : Option A) → cond b (Some v) (option_or o p) ≡ option_or (cond b (Some v) o) p
or_cond true v o p = refl
or_cond false v o p = refl

pub got-all : {X : Type 0} (m : fin.FinMap nat_cmp X) (es : List (ℕ × X)) (q : ℕ) → fin.get (with_all m es) q ≡ option_or (fin.find nat_cmp q es) (fin.get m q)
got-all m [] q = ap (λ n. fin.get n q) (with-none m)
got-all m (e ∷ es) q = got-insert (with_all m es) e.0 e.1 q ∙ ap (λ o. cond (eq_by_cmp nat_cmp q e.0) (Some e.1) o) (got-all m es q) ∙ or_cond (eq_by_cmp nat_cmp q e.0) e.1 (fin.find nat_cmp q es) (fin.get m q)

-- ---- the blocks come

is_true : (b : Bool) → not b ≡ false → b ≡ true
is_true true e = refl
is_true false e = absurd (cc)

pub clear-of : (image : Code) (led : Ledger) → IsClear image led → IsClearOf (region_of image) led
clear-of image led clear a out = clear a (is_true (nat_le image.start a && nat_lt a (image.start + length image.bytes)) out)

pub blocks-none : (led : Ledger) → with_blocks [] led ≡ led
blocks-none led = ap (λ m. record led { shared = m }) (with-none led.shared)

in_region : (region : Range) (f : Parts) → IsInside region f → outside region f.address ≡ false
in_region region f is = let from = is.from in let below = is.below in grind (arith, nat_tests)

-- one more is not live yet
pub absent-yet : (region : Range) (least : ℕ) (f : Parts) (rest : List Parts) (led : Ledger) → AreBlocks region least (f ∷ rest) → ((a : ℕ) → outside region a ≡ false → is_live led a ≡ false) →
    is_live (with_blocks rest led) f.address ≡ false
absent-yet region least f rest led are clear =
    ap (λ o. is_some (option_or o (fin.get led.private f.address)))
    (got-all led.shared (entries_of rest) f.address ∙ ap (λ o. option_or o (fin.get led.shared f.address)) (none-below region (f.address + 1) rest f.address (omega arith) are.2))
    ∙ clear f.address (in_region region f are.1)

-- where some came, they go again with the region
kept_blocks : (region : Range) (least : ℕ) (fs : List Parts) (m : Blocks) → AreBlocks region least fs → fin.retain_keys (with_all m (entries_of fs)) (outside region) ≡ fin.retain_keys m (outside region)
kept_blocks region least [] m are = ap (λ n. fin.retain_keys n (outside region)) (with-none m)
kept_blocks region least (f ∷ fs) m are =
    kept-insert (with_all m (entries_of fs)) f.address f (outside region)
    ∙ ap (λ b. if b then fin.insert (fin.retain_keys (with_all m (entries_of fs)) (outside region)) f.address f else fin.retain_keys (with_all m (entries_of fs)) (outside region)) (in_region region f are.1)
    ∙ kept_blocks region (f.address + 1) fs m are.2

all_stay : (s l : Bool) → (s ≡ false → l ≡ false) → (s || not l) ≡ true
all_stay true l h = refl
all_stay false l h = ap not (h refl)

pub undone : (k : Book) (kept : IsKept k) (region : Range) (fs : List Parts) → LiesFrom region fs → ((a : ℕ) → outside region a ≡ false → is_live (ledger k) a ≡ false) →
    only (outside region) (with_blocks fs (ledger k)) ≡ ledger k
undone k kept region fs lies clear =
    ap (λ m. record (only (outside region) (ledger k)) { shared = m }) (kept_blocks region lies.least fs (ledger k).shared lies.rest)
    ∙ sym (only-live k kept (outside region))
    ∙ only-all (or_dead (outside region) (ledger k)) (ledger k) (λ a. all_stay (outside region a) (is_live (ledger k) a) (clear a))

or_some : {A : Type 0} (o p q : Option A) → is_some o ≡ true → is_some (option_or (option_or o p) q) ≡ true
or_some None p q e = absurd (cc)
or_some (Some v) p q e = refl

pub blocks-live : (fs : List Parts) (led : Ledger) (a : ℕ) → has fs a ≡ true → is_live (with_blocks fs led) a ≡ true
blocks-live fs led a is =
    ap (λ o. is_some (option_or o (fin.get led.private a))) (got-all led.shared (entries_of fs) a)
    ∙ or_some (fin.find nat_cmp a (entries_of fs)) (fin.get led.shared a) (fin.get led.private a) (find_has fs a ∙ is)

-- ---- the exits lead on

pub led-live : (x : ℕ) (o : Option ℕ) (led : Ledger) (a : ℕ) → is_live (led_to x o led) a ≡ is_live led a
led-live x None led a = refl
led-live x (Some to) led a = refl

if_by : (P : ℕ → Type 0) (a : ℕ) (b : Bool) → (b ≡ true → P a) → IfSome (if b then Some a else None) P
if_by P a true h = h refl
if_by P a false h = tt

pub target-is : (P : ℕ → Type 0) (fs : List Parts) → ((a : ℕ) → has fs a ≡ true → P a) → (o : Option Exit) → IfSome (target_in fs o) P
target-is P fs all None = tt
target-is P fs all (Some (Direct to)) = if_by P to (has fs to) (all to)
target-is P fs all (Some Indirect) = tt
target-is P fs all (Some (Asks to)) = tt
target-is P fs all (Some Stop) = tt

abbrev led_map : ℕ → Option ℕ → fin.FinMap nat_cmp ℕ → fin.FinMap nat_cmp ℕ
led_map x None m = m
led_map x (Some to) m = fin.insert m x to

led_is : (x : ℕ) (o : Option ℕ) (led : Ledger) → led_to x o led ≡ record led { links = led_map x o led.links }
led_is x None led = refl
led_is x (Some to) led = refl

module _ (region : Range) (least : ℕ) (fs : List Parts) (are : AreBlocks region least fs) where
  one_by : (x to : ℕ) (rest : List (ℕ × ℕ)) (m : fin.FinMap nat_cmp ℕ) (b : Bool) → with_all m (if b then (x, to) ∷ rest else rest) ≡ led_map x (if b then Some to else None) (with_all m rest)
  one_by x to rest m true = refl
  one_by x to rest m false = refl

  one : (x : ℕ) (e : Exit) (es : List Exit) (m : fin.FinMap nat_cmp ℕ) → with_all m (links_of (blocks_of fs) x (e ∷ es)) ≡ led_map x (target_in fs (Some e)) (with_all m (links_of (blocks_of fs) (x + 1) es))
  one x (Direct to) es m =
      ap (λ b. with_all m (if b then (x, to) ∷ links_of (blocks_of fs) (x + 1) es else links_of (blocks_of fs) (x + 1) es)) (got-has region least fs are to)
      ∙ one_by x to (links_of (blocks_of fs) (x + 1) es) m (has fs to)
  one x Indirect es m = refl
  one x (Asks to) es m = refl
  one x Stop es m = refl

  next_exit : (a : ℕ) → exit_at a 0 + 1 ≡ exit_at a 1
  next_exit a = omega arith

  two : (a : ℕ) (es : List Exit) (m : fin.FinMap nat_cmp ℕ) → length es ≤ 2 →
      led_map (exit_at a 0) (target_in fs (slice_get es 0)) (led_map (exit_at a 1) (target_in fs (slice_get es 1)) m) ≡ with_all m (links_of (blocks_of fs) (exit_at a 0) es)
  two a [] m few = sym (with-none m)
  two a (e ∷ []) m few = sym (one (exit_at a 0) e [] m ∙ ap (led_map (exit_at a 0) (target_in fs (Some e))) (with-none m))
  two a (e ∷ d ∷ []) m few =
      sym (one (exit_at a 0) e (d ∷ []) m
      ∙ ap (led_map (exit_at a 0) (target_in fs (Some e))) (one (exit_at a 0 + 1) d [] m ∙ (λ i. led_map (next_exit a i) (target_in fs (Some d)) (with-none m i))))
  two a (e ∷ d ∷ c ∷ es) m few = absurd (omega (arith, few))

  pub two-exits : (f : Parts) (led : Ledger) → length f.exits ≤ 2 →
      led_to (exit_at f.address 0) (target_in fs (slice_get f.exits 0)) (led_to (exit_at f.address 1) (target_in fs (slice_get f.exits 1)) led) ≡ with_exits fs f led
  two-exits f led few =
      led_is (exit_at f.address 0) (target_in fs (slice_get f.exits 0)) (led_to (exit_at f.address 1) (target_in fs (slice_get f.exits 1)) led)
      ∙ ap (λ (l : Ledger). record l { links = led_map (exit_at f.address 0) (target_in fs (slice_get f.exits 0)) l.links }) (led_is (exit_at f.address 1) (target_in fs (slice_get f.exits 1)) led)
      ∙ ap (λ m. record led { links = m }) (two f.address f.exits led.links few)

pub links-none : (all : List Parts) (led : Ledger) → with_links all [] led ≡ led
links-none all led = ap (λ m. record led { links = m }) (with-none led.links)

pub links-more : (all : List Parts) (f : Parts) (rest : List Parts) (led : Ledger) → with_exits all f (with_links all rest led) ≡ with_links all (f ∷ rest) led
links-more all f rest led = ap (λ m. record led { links = m })
    (sym (with-more led.links (links_of (blocks_of all) (exit_at f.address 0) f.exits) (flat_map (λ e. links_of (blocks_of all) (exit_at e.0 0) e.1.exits) (entries_of rest))))

-- ---- the loops from the last to the first

pub split : {X : Type 0} (xs : List X) (n : ℕ) (x : X) → 0 < n → n ≤ length xs → x ≡ get_or xs (n - 1) x → drop (n - 1) xs ≡ x ∷ drop n xs
split xs n x some most is =
    drop-at xs (n - 1) x (slice_get-get_or xs (n - 1) x (omega (arith, some, most)) ∙ ap Some (sym is)) ∙ ap (λ m. x ∷ drop m xs) (let e : n - 1 + 1 ≡ n = omega arith in e)

-- the block before the rest
pub record IsNext (region : Range) (f : Parts) (rest : List Parts) : Type 0 where
  pub least : ℕ
  pub inside : AreBlocks region least (f ∷ rest)

pub is-next : (region : Range) (fs : List Parts) (n : ℕ) (f : Parts) → AreBlocks region 0 fs → 0 < n → n ≤ length fs → f ≡ get_or fs (n - 1) f → IsNext region f (drop n fs)
is-next region fs n f are some most is =
    let lies = lies-from region 0 fs (n - 1) are in
    record { least = lies.least; inside = subst (AreBlocks region lies.least) (split fs n f some most is) lies.rest }

-- ---- a unit is attached

abbrev pub with_segment : ℕ → unit.Held → Ledger → Ledger
with_segment i whole led = record led { segments = fin.insert led.segments i (segment_for whole) }

addresses-are : (fs : List Parts) → map (λ e. e.0) (entries_of fs) ≡ addresses fs
addresses-are [] = refl
addresses-are (f ∷ fs) = ap (λ xs. f.address ∷ xs) (addresses-are fs)

pub attached-is : (region : Range) (whole : unit.Held) → AreBlocks region 0 whole.frags → (i : ℕ) (led : Ledger) →
    with_links whole.frags whole.frags (with_segment i whole (with_blocks whole.frags led)) ≡ attached i whole.image (blocks_of whole.frags) led
attached-is region whole are i led =
    ap (λ xs. by xs (entries_of whole.frags)) (sym (addresses-are whole.frags)) ∙ ap (λ es. by (map (λ e. e.0) es) es) (sym (entries-are region 0 whole.frags are))
  where
    by : List ℕ → List (ℕ × Parts) → Ledger
    by xs es = record led {
      segments = fin.insert led.segments i (record { image = whole.image; addresses = set.from_list xs; offered = set.empty });
      shared = with_all led.shared es;
      links = with_all led.links (flat_map (λ e. links_of (blocks_of whole.frags) (exit_at e.0 0) e.1.exits) es);
    }
