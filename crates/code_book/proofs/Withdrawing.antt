-- A block is withdrawn.
use Rattle.std.proofs.Common.{◌≡◌, ℕ, zero, suc, ◌-◌, ◌/◌, ◌<◌, ◌≤◌, ◌==◌, ◌||◌, ◌&&◌, ◌⊎◌, Bool, true, false, cond, List, length, get_or, Option, Some, None, refl, sym, ◌∙◌, ap, subst, arith, inl, inr}
use Rattle.std.specs.Prelude.{is_some, not, slice_set}
use Rattle.std.specs.Option.{option_map, option_or}
use Rattle.std.specs.Ordering.{nat_cmp, eq_by_cmp}
use Rattle.std.specs.Cmp.{nat_cmp_total}
use Rattle.std.specs.FinMap as fin
use Rattle.std.proofs.lemmas.Bool.{cases_lt}
use Rattle.std.proofs.lemmas.List.{get_or_past}
use Rattle.exit_links.specs.Linked.{Linked}
use Rattle.fragment.specs.Parts.{Parts}
use Rattle.block_ledger.specs.Ledger.{view, is_live, only}
use Rattle.block_ledger.proofs.Gets.{got-kept}
use Rattle.block_ledger.proofs.Views.{only-views}
use Rattle.code_writes.specs.Meeting.{AreShort}
use Rattle.code_book.specs.Tables.{leads, Held, and_then, address_at, address_of, if_shared, is_value, is_shared_in}
use Rattle.frag_table.specs.Held.{lies as lies_there}
use Rattle.code_book.specs.Keeping.{Goes, held_stays}
use Rattle.code_book.specs.Book.{Book, IsKept, tables, ledger, size_of}
use Rattle.code_book.proofs.Tabulated.{ties, ties-same}
use Rattle.code_book.proofs.Coming.{eq_true, eq_same, eq_apart, is_none_of}
use Rattle.code_book.proofs.Going.{some_same, gone-tied}
use Rattle.code_book.proofs.Ledgers.{gone-ledger, gone-private, got-private, got-shared}

-- the test of finite maps is that of numbers
pub eq_is : (q k : ℕ) (b : Bool) → (q == k) ≡ b → eq_by_cmp nat_cmp q k ≡ b
eq_is q k true e = ties-same q k (eq_true q k e)
eq_is q k false e = by (eq_by_cmp nat_cmp q k) refl
  where
    by : (c : Bool) → eq_by_cmp nat_cmp q k ≡ c → c ≡ false
    by true t = let same : (q == k) ≡ true = ap (λ x. x == k) (ties q k t) ∙ eq_same k in let f = sym same ∙ e in cc
    by false t = refl

flip : {A : Type 0} (b : Bool) (o n : A) → cond b n o ≡ cond (not b) o n
flip true o n = refl
flip false o n = refl

pub got-removed : {X : Type 0} (m : fin.FinMap nat_cmp X) (k q : ℕ) → fin.get (fin.remove m k) q ≡ cond (not (q == k)) (fin.get m q) None
got-removed m k q = fin.get-remove nat_cmp_total m k q ∙ ap (λ b. cond b None (fin.get m q)) (eq_is q k (q == k) refl) ∙ flip (q == k) (fin.get m q) None

-- a place that holds something is within the list
pub within : {X : Type 0} (xs : List (Option X)) (p : ℕ) → is_some (get_or xs p None) ≡ true → p < length xs
within xs p some = by (cases_lt p (length xs))
  where
    by : (p < length xs) ⊎ (length xs ≤ p) → p < length xs
    by (inl less) = less
    by (inr past) = let none = get_or_past xs p None past in absurd (is_none_of (get_or xs p None) none some)

pub some_of : (o : Option Held) (a : ℕ) → address_of o ≡ Some a → is_some o ≡ true
some_of None a e = absurd (cc)
some_of (Some h) a e = refl

module _ (old : Book) (kept : IsKept old) (addr p : ℕ) (place : fin.get old.places.place addr ≡ Some p) (links : Linked)
    (next : (x : ℕ) → leads links x ≡ cond ((x / 2 == p) || is_value (leads old.links x) p) None (leads old.links x)) (long : links.places ≡ old.links.places)
    (slots : List (Option Held)) (emptied : (q : ℕ) → get_or slots q None ≡ cond (q == p) None (get_or old.places.slots q None)) where
  abbrev shared : Bool
  shared = is_shared_in (get_or old.places.slots p None)

  abbrev pub less : Book
  less = record old {
    places = record { place = fin.remove old.places.place addr; slots = slots };
    links = links;
    lens = fin.remove old.lens addr;
    here = cond (old.block == addr) None old.here;
    own = cond shared old.own (old.own - 1);
  }

  abbrev stays : ℕ → Bool
  stays a = not (a == addr)

  lies : address_at (tables old) p ≡ Some addr
  lies = kept.tied.lies addr p place

  pub there : p < length old.places.slots
  there = within old.places.slots p (some_of (get_or old.places.slots p None) addr lies)

  -- what lies in another place stays
  stays_by : (q : ℕ) (o : Option Held) → get_or old.places.slots q None ≡ o → is_some o ≡ true → (b : Bool) → (q == p) ≡ b → held_stays stays o ≡ not b
  stays_by q None at some b is = absurd (cc)
  stays_by q (Some h) at some true is =
      let same : address_at (tables old) q ≡ Some addr = ap (address_at (tables old)) (eq_true q p is) ∙ lies in
      let this : h.block.address ≡ addr = some_same h.block.address addr (sym (ap address_of at) ∙ same) in
      ap not (ap (λ a. a == addr) this ∙ eq_same addr)
  stays_by q (Some h) at some false is =
      ap not (eq_apart h.block.address addr (λ same.
      let other : fin.get old.places.place addr ≡ Some q = ap (fin.get old.places.place) (sym same) ∙ kept.tied.placed h.block.address q (ap address_of at) in
      let this : q ≡ p = some_same q p (sym other ∙ place) in
      let clash : true ≡ false = sym (eq_same p) ∙ ap (λ r. r == p) (sym this) ∙ is in
      absurd (cc)))

  stays_at : (q : ℕ) → is_some (get_or old.places.slots q None) ≡ true → held_stays stays (get_or old.places.slots q None) ≡ not (q == p)
  stays_at q some = stays_by q (get_or old.places.slots q None) refl some (q == p) refl

  none_both : (b c : Bool) (o : Option Held) → o ≡ None → cond b None o ≡ cond c o None
  none_both true true o e = sym e
  none_both true false o e = refl
  none_both false true o e = refl
  none_both false false o e = e

  held_by : (q : ℕ) (o : Option Held) → get_or old.places.slots q None ≡ o → cond (q == p) None o ≡ cond (held_stays stays o) o None
  held_by q None at = none_both (q == p) (held_stays stays None) None refl
  held_by q (Some h) at = flip (q == p) (Some h) None ∙ ap (λ b. cond b (Some h) None) (sym (stays_by q (Some h) at refl (q == p) refl))

  not_either : (b c : Bool) (o : Option ℕ) → cond (b || c) None o ≡ cond (not b && not c) o None
  not_either true c o = refl
  not_either false true o = refl
  not_either false false o = refl

  none_either : (b c : Bool) → cond {A = Option ℕ} b None None ≡ cond c None None
  none_either true true = refl
  none_either true false = refl
  none_either false true = refl
  none_either false false = refl

  next_by : (x : ℕ) (o : Option ℕ) → leads old.links x ≡ o →
      cond ((x / 2 == p) || is_value o p) None o ≡ cond (held_stays stays ((tables old).held (x / 2)) && held_stays stays (and_then o (tables old).held)) o None
  next_by x None at = none_either ((x / 2 == p) || false) (held_stays stays ((tables old).held (x / 2)) && held_stays stays None)
  next_by x (Some q) at =
      let both = kept.tied.links x q at in
      not_either (x / 2 == p) (q == p) (Some q)
      ∙ ap (λ b. cond (b && not (q == p)) (Some q) None) (sym (stays_at (x / 2) both.0))
      ∙ ap (λ b. cond (held_stays stays ((tables old).held (x / 2)) && b) (Some q) None) (sym (stays_at q both.1))

  pub goes : Goes stays (tables old) (tables less)
  goes = record {
    place = λ a. got-removed old.places.place addr a;
    held = λ q. emptied q ∙ held_by q (get_or old.places.slots q None) refl;
    next = λ x. next x ∙ next_by x (leads old.links x) refl;
  }

  pub less-ledger : ledger less ≡ only stays (ledger old)
  less-ledger = gone-ledger stays old less kept.tied goes (record { segments = refl; block = refl; left = refl; counts = refl })

  view_less : (a : ℕ) → view (ledger less) a ≡ cond (stays a) (view (ledger old) a) None
  view_less a = ap (λ led. view led a) less-ledger ∙ only-views stays (ledger old) a

  map_by : (b : Bool) (o : Option Parts) → cond b (option_map size_of o) None ≡ option_map size_of (cond b o None)
  map_by true o = refl
  map_by false o = refl

  value_by : {A : Type 0} (c : Bool) (o : Option A) (v : A) → cond c o None ≡ Some v → o ≡ Some v
  value_by true o v e = e
  value_by false o v e = absurd (cc)

  -- the count of its own blocks
  removed : {X : Type 0} (m : fin.FinMap nat_cmp X) → fin.retain_keys m stays ≡ fin.remove m addr
  removed m = fin.same_map nat_cmp_total fin.nat_cmp-IsAntisymmetric (fin.retain_keys m stays) (fin.remove m addr) (λ q. got-kept m stays q ∙ sym (got-removed m addr q))

  private_there : (o : Option Held) → get_or old.places.slots p None ≡ o → fin.contains_key (ledger old).private addr ≡ (not (is_shared_in o) && is_some o)
  private_there o at = ap is_some (got-private old addr ∙ ap (λ k. and_then (and_then k (tables old).held) (if_shared false)) place ∙ ap (λ k. and_then k (if_shared false)) at) ∙ by o
    where
      by_shared : (b : Bool) (f : Parts) → is_some (cond b None (Some f)) ≡ (not b && true)
      by_shared true f = refl
      by_shared false f = refl

      by : (o : Option Held) → is_some (and_then o (if_shared false)) ≡ (not (is_shared_in o) && is_some o)
      by None = refl
      by (Some h) = by_shared h.shared h.block

  len_less : fin.len (ledger less).private ≡ cond shared (fin.len (ledger old).private) (fin.len (ledger old).private - 1)
  len_less = ap fin.len (gone-private stays old less kept.tied goes ∙ removed (ledger old).private) ∙ fin.len-remove nat_cmp_total (ledger old).private addr
      ∙ ap (λ b. cond b (fin.len (ledger old).private - 1) (fin.len (ledger old).private)) (private_there (get_or old.places.slots p None) refl ∙ ap (λ b. not shared && b) (some_of (get_or old.places.slots p None) addr lies))
      ∙ by shared
    where
      by : (b : Bool) → cond (not b && true) (fin.len (ledger old).private - 1) (fin.len (ledger old).private) ≡ cond b (fin.len (ledger old).private) (fin.len (ledger old).private - 1)
      by true = refl
      by false = refl

  some_there : (m : fin.FinMap nat_cmp Parts) (k n : ℕ) → fin.len m ≡ n → fin.contains_key m k ≡ true → 0 < n
  some_there m k zero none is = absurd (is_none_of (fin.get m k) (ap (λ m. fin.get m k) (fin.empty_of_len m none) ∙ fin.get-empty nat_cmp k) is)
  some_there m k (suc n) some is = omega arith

  pub has-own : shared ≡ false → 0 < old.own
  has-own is = subst (λ n. 0 < n) (sym kept.own) (some_there (ledger old).private addr (fin.len (ledger old).private) refl
      (private_there (get_or old.places.slots p None) refl ∙ ap (λ b. not b && is_some (get_or old.places.slots p None)) is ∙ some_of (get_or old.places.slots p None) addr lies))

  here_by : (b : Bool) → (old.block == addr) ≡ b → cond b None old.here ≡ cond (not b) (fin.get old.places.place old.block) None
  here_by true is = refl
  here_by false is = kept.here

  short_less : AreShort (fin.get less.lens)
  short_less a len is = kept.short a len (value_by (stays a) (fin.get old.lens a) len (sym (got-removed old.lens addr a) ∙ is))

  room_by : (q : ℕ) (c : Bool) → is_some (cond c ((tables old).held q) None) ≡ true → is_some ((tables old).held q) ≡ true
  room_by q true some = some
  room_by q false some = absurd (cc)

  own_by : (b : Bool) → cond b old.own (old.own - 1) ≤ old.counts.built
  own_by true = kept.counts.3
  own_by false = let most = kept.counts.3 in omega arith

  pub less-kept : IsKept less
  less-kept = record {
    tied = gone-tied stays (tables old) (tables less) kept.tied goes;
    here = here_by (old.block == addr) refl ∙ sym (got-removed old.places.place addr old.block);
    covers = λ a. got-removed old.lens addr a ∙ ap (λ o. cond (stays a) o None) (kept.covers a) ∙ map_by (stays a) (view (ledger old) a) ∙ ap (option_map size_of) (sym (view_less a));
    short = short_less;
    own = ap (λ n. cond shared n (n - 1)) kept.own ∙ sym len_less;
    left = kept.left;
    room = λ q some. subst (λ n. q < n) (sym long) (kept.room q (room_by q (held_stays stays ((tables old).held q)) (ap is_some (sym (goes.held q)) ∙ some)));
    counts = (kept.counts.0, kept.counts.1, kept.counts.2, own_by shared);
  }

  -- the same, by its fields
  pub is-less : (index : fin.FinMap nat_cmp ℕ) (lens : fin.FinMap nat_cmp ℕ) (here : Option ℕ) (own : ℕ) →
      index ≡ less.places.place → lens ≡ less.lens → here ≡ less.here → own ≡ less.own →
      record old { places = record { place = index; slots = slots }; links = links; lens = lens; here = here; own = own } ≡ less
  is-less index lens here own a c d e = λ i. record old { places = record { place = a i; slots = slots }; links = links; lens = c i; here = d i; own = e i }

pub lies-address : (o : Option Held) (a : ℕ) → lies_there o a ≡ true → address_of o ≡ Some a
lies-address None a e = absurd (cc)
lies-address (Some h) a e = ap Some (eq_true h.block.address a e)

-- an address without a place is not live
pub no-place : (old : Book) (a : ℕ) → fin.get old.places.place a ≡ None → is_live (ledger old) a ≡ true → ⊥
no-place old a none live =
    let gone : view (ledger old) a ≡ None =
    ap (λ o. option_or o (fin.get (ledger old).private a)) (got-shared old a ∙ ap (λ o. and_then (and_then o (tables old).held) (if_shared true)) none)
    ∙ got-private old a ∙ ap (λ o. and_then (and_then o (tables old).held) (if_shared false)) none in
    is_none_of (view (ledger old) a) gone live

-- the links have the place of a live address
pub place-there : (old : Book) → IsKept old → (a p : ℕ) → fin.get old.places.place a ≡ Some p → p < old.links.places
place-there old kept a p at = kept.room p (some_of ((tables old).held p) a (kept.tied.lies a p at))
