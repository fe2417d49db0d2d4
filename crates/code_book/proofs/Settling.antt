-- A block that was built comes to lie in a free place.
use Rattle.std.proofs.Common.{◌≡◌, ℕ, ◌+◌, ◌<◌, ◌≤◌, ◌==◌, Bool, true, false, cond, List, length, get_or, Option, Some, None, refl, sym, ◌∙◌, ap, subst, arith}
use Rattle.std.specs.Prelude.{is_some, not, if◌then◌else◌}
use Rattle.std.specs.Option.{option_map, option_or}
use Rattle.std.specs.Ordering.{nat_cmp}
use Rattle.std.specs.FinMap as fin
use Rattle.exit_links.specs.Linked.{Linked}
use Rattle.fragment.specs.Parts.{Parts}
use Rattle.block_ledger.specs.Ledger.{Ledger, view, is_live, is_shared, is_private, linked_by, found, counted, begun}
use Rattle.block_ledger.proofs.Gets.{got-insert, len-more}
use Rattle.code_book.specs.Tables.{leads, Held, Tables, tabulated, exits_of, block_at, link_at}
use Rattle.code_book.specs.Keeping.{AreTied, Comes}
use Rattle.code_book.specs.Book.{Book, IsKept, IsShort, tables, live, ledger, size_of, gone_on}
use Rattle.code_book.proofs.Coming.{eq_true, eq_same, come-blocks, come-links, come-tied}
use Rattle.code_book.proofs.Going.{some_same}
use Rattle.code_book.proofs.Ledgers.{got-private, got-shared, got-links, same_blocks}
use Rattle.code_book.proofs.Withdrawing.{eq_is, got-removed}
use Rattle.code_book.proofs.Linking.{live-there, found_if}

-- ---- the same tables, with more room

module _ (old : Book) (kept : IsKept old) (slots : List (Option Held)) (links : Linked) (same : (q : ℕ) → get_or slots q None ≡ get_or old.places.slots q None)
    (next : (x : ℕ) → leads links x ≡ leads old.links x) (longer : old.links.places ≤ links.places) where
  abbrev wider : Book
  wider = record old { places = record { place = old.places.place; slots = slots }; links = links }

  same_tables : tables wider ≡ tables old
  same_tables = λ i. record { place = fin.get old.places.place; held = λ q. same q i; next = λ x. next x i }

  abbrev ledger_by : Tables → Ledger
  ledger_by t = record (ledger old) {
    shared = tabulated (live old) (block_at t true);
    private = tabulated (live old) (block_at t false);
    links = tabulated (exits_of (live old)) (link_at t);
  }

  pub wider-ledger : ledger wider ≡ ledger old
  wider-ledger = ap ledger_by same_tables

  pub wider-kept : IsKept wider
  wider-kept = record {
    tied = subst AreTied (sym same_tables) kept.tied;
    here = kept.here;
    covers = λ a. kept.covers a ∙ ap (λ led. option_map size_of (view led a)) (sym wider-ledger);
    short = kept.short;
    own = kept.own ∙ ap (λ (led : Ledger). fin.len led.private) (sym wider-ledger);
    left = kept.left;
    room = λ p some. let r = kept.room p (ap is_some (sym (same p)) ∙ some) in omega arith;
    counts = kept.counts;
  }

-- ---- one block more

pub none_either : (o : Option Parts) (p : Option Parts) → is_some (option_or o p) ≡ false → (o ≡ None) × (p ≡ None)
none_either None None e = (refl, refl)
none_either None (Some f) e = absurd (cc)
none_either (Some f) p e = absurd (cc)

pub no_place : (o : Option ℕ) → ((p : ℕ) → o ≡ Some p → ⊥) → o ≡ None
no_place None h = refl
no_place (Some p) h = absurd (h p refl)

pub not-kept : {X : Type 0} (m : fin.FinMap nat_cmp X) (a : ℕ) (v : X) → fin.get m a ≡ None → fin.remove (fin.insert m a v) a ≡ m
not-kept m a v none = same_blocks _ m (λ q. got-removed (fin.insert m a v) a q ∙ ap (λ o. cond (not (q == a)) o None) (got-insert m a v q ∙ ap (λ b. cond b (Some v) (fin.get m q)) (eq_is q a (q == a) refl)) ∙ by q (q == a) refl)
  where
    by : (q : ℕ) (b : Bool) → (q == a) ≡ b → cond (not b) (cond b (Some v) (fin.get m q)) None ≡ fin.get m q
    by q true is = sym (ap (fin.get m) (eq_true q a is) ∙ none)
    by q false is = refl

module _ (old : Book) (kept : IsKept old) (f : Parts) (p : ℕ) (absent : is_live (ledger old) f.address ≡ false) (short : IsShort f)
    (free : get_or old.places.slots p None ≡ None) (wide : p < old.links.places) where
  abbrev held : Held
  held = record { block = f; shared = false }

  none : (fin.get (ledger old).shared f.address ≡ None) × (fin.get (ledger old).private f.address ≡ None)
  none = none_either (fin.get (ledger old).shared f.address) (fin.get (ledger old).private f.address) absent

  pub not-covered : fin.get old.lens f.address ≡ None
  not-covered = kept.covers f.address ∙ ap (option_map size_of) (λ i. option_or (none.0 i) (none.1 i))

  no_place_yet : fin.get old.places.place f.address ≡ None
  no_place_yet = no_place (fin.get old.places.place f.address) (λ r at. let live = live-there old kept f.address r at in let clash : true ≡ false = sym live ∙ absent in cc)

  module _ (slots : List (Option Held)) (taken : (q : ℕ) → get_or slots q None ≡ cond (q == p) (Some held) (get_or old.places.slots q None)) where
    abbrev more : Book
    more = record old {
      places = record { place = fin.insert old.places.place f.address p; slots = slots };
      lens = fin.insert old.lens f.address (size_of f);
      here = cond (old.block == f.address) (Some p) old.here;
      own = old.own + 1;
      counts = record { blocks = old.counts.blocks + 1; reused = old.counts.reused; built = old.counts.built + 1; linked = old.counts.linked };
    }

    got : {X : Type 0} (m : fin.FinMap nat_cmp X) (v : X) (a : ℕ) → fin.get (fin.insert m f.address v) a ≡ cond (a == f.address) (Some v) (fin.get m a)
    got m v a = got-insert m f.address v a ∙ ap (λ b. cond b (Some v) (fin.get m a)) (eq_is a f.address (a == f.address) refl)

    comes : Comes held p (tables old) (tables more)
    comes = record { absent = no_place_yet; free = free; place = λ a. got old.places.place p a; held = taken; next = λ _. refl }

    shared_by : (a : ℕ) (b : Bool) → (a == f.address) ≡ b → cond b None (fin.get (ledger old).shared a) ≡ fin.get (ledger old).shared a
    shared_by a true is = sym (ap (fin.get (ledger old).shared) (eq_true a f.address is) ∙ none.0)
    shared_by a false is = refl

    more_shared : (ledger more).shared ≡ (ledger old).shared
    more_shared = same_blocks (ledger more).shared (ledger old).shared (λ a. got-shared more a ∙ come-blocks held p (tables old) (tables more) kept.tied comes true a
        ∙ ap (cond (a == f.address) None) (sym (got-shared old a)) ∙ shared_by a (a == f.address) refl)

    more_private : (ledger more).private ≡ fin.insert (ledger old).private f.address f
    more_private = same_blocks (ledger more).private (fin.insert (ledger old).private f.address f) (λ a. got-private more a ∙ come-blocks held p (tables old) (tables more) kept.tied comes false a
        ∙ ap (cond (a == f.address) (Some f)) (sym (got-private old a)) ∙ sym (got (ledger old).private f a))

    more_links : (ledger more).links ≡ (ledger old).links
    more_links = same_blocks (ledger more).links (ledger old).links (λ x. got-links more x ∙ come-links held p (tables old) (tables more) kept.tied comes x ∙ sym (got-links old x))

    pub settled-ledger : ledger more ≡ found f (counted (ledger old))
    settled-ledger = settled ∙ sym (found_if old f false false (ap is_some none.0) (ap is_some none.1))
      where
        settled : ledger more ≡ record (counted (ledger old)) { private = fin.insert (ledger old).private f.address f; counts = record (counted (ledger old)).counts { built = old.counts.built + 1 } }
        settled = λ i. record (ledger more) { shared = more_shared i; private = more_private i; links = more_links i }

    view_by : (a : ℕ) (b : Bool) → (a == f.address) ≡ b → cond b (Some (size_of f)) (fin.get old.lens a) ≡ option_map size_of (option_or (fin.get (ledger old).shared a) (cond b (Some f) (fin.get (ledger old).private a)))
    view_by a true is = sym (ap (λ o. option_map size_of (option_or o (Some f))) (ap (fin.get (ledger old).shared) (eq_true a f.address is) ∙ none.0))
    view_by a false is = kept.covers a

    view_more : (a : ℕ) → view (ledger more) a ≡ option_or (fin.get (ledger old).shared a) (cond (a == f.address) (Some f) (fin.get (ledger old).private a))
    view_more a = (λ i. option_or (fin.get (more_shared i) a) (fin.get (more_private i) a)) ∙ ap (option_or (fin.get (ledger old).shared a)) (got (ledger old).private f a)

    short_by : (a len : ℕ) (b : Bool) → (a == f.address) ≡ b → cond b (Some (size_of f)) (fin.get old.lens a) ≡ Some len → (0 < len) × (len ≤ 256) × (a + len ≤ 4294967295)
    short_by a len true is e =
        let size : size_of f ≡ len = some_same (size_of f) len e in
        let there : a ≡ f.address = eq_true a f.address is in
        let some = short.some in
        let within = short.ends in
        let few = short.few in
        (omega (arith, size, some), omega (arith, size, few), omega (arith, size, there, within))
    short_by a len false is e = kept.short a len e

    here_by : (b : Bool) → cond b (Some p) old.here ≡ cond b (Some p) (fin.get old.places.place old.block)
    here_by true = refl
    here_by false = kept.here

    room_by : (q : ℕ) (b : Bool) → (q == p) ≡ b → is_some (cond b (Some held) (get_or old.places.slots q None)) ≡ true → q < old.links.places
    room_by q true is some = let same : q ≡ p = eq_true q p is in omega (arith, same, wide)
    room_by q false is some = kept.room q some

    pub settled-kept : IsKept more
    settled-kept = record {
      tied = come-tied held p (tables old) (tables more) kept.tied comes;
      here = here_by (old.block == f.address) ∙ sym (got old.places.place p old.block);
      covers = λ a. got old.lens (size_of f) a ∙ view_by a (a == f.address) refl ∙ ap (option_map size_of) (sym (view_more a));
      short = λ a len e. short_by a len (a == f.address) refl (sym (got old.lens (size_of f) a) ∙ e);
      own = ap (λ n. n + 1) kept.own ∙ sym (ap fin.len more_private ∙ len-more (ledger old).private f.address f ∙ ap (λ o. cond (is_some o) (fin.len (ledger old).private) (fin.len (ledger old).private + 1)) none.1);
      left = kept.left;
      room = λ q some. room_by q (q == p) refl (ap is_some (sym (taken q)) ∙ some);
      counts = let c = kept.counts in (omega (arith, c.0), omega (arith, c.1), omega (arith, c.2), omega (arith, c.3));
    }

    pub settled-place : fin.get more.places.place f.address ≡ Some p
    settled-place = got old.places.place p f.address ∙ ap (λ b. cond b (Some p) (fin.get old.places.place f.address)) (eq_same f.address)

-- it begins
left_found : (f : Parts) (led : Ledger) (b c : Bool) → is_shared led f.address ≡ b → is_private led f.address ≡ c → (found f led).left ≡ led.left
left_found f led true c d e = ap (λ (l : Ledger). l.left) (by d)
  where
    by : is_shared led f.address ≡ true → found f led ≡ record led { counts = record led.counts { reused = led.counts.reused + 1 } }
    by d = λ i. if d i then record led { counts = record led.counts { reused = led.counts.reused + 1 } } else if is_private led f.address then led else record led { private = fin.insert led.private f.address f; counts = record led.counts { built = led.counts.built + 1 } }
left_found f led false true d e = ap (λ (l : Ledger). l.left) (λ i. if d i then record led { counts = record led.counts { reused = led.counts.reused + 1 } } else if e i then led else record led { private = fin.insert led.private f.address f; counts = record led.counts { built = led.counts.built + 1 } })
left_found f led false false d e = ap (λ (l : Ledger). l.left) (λ i. if d i then record led { counts = record led.counts { reused = led.counts.reused + 1 } } else if e i then led else record led { private = fin.insert led.private f.address f; counts = record led.counts { built = led.counts.built + 1 } })

pub begun-new : (f : Parts) (led : Ledger) → gone_on f.address (found f (counted led)) ≡ begun f led
begun-new f led = ap (λ l. record (linked_by l f.address (found f (counted led))) { block = f.address; left = None }) (left_found f (counted led) (is_shared led f.address) (is_private led f.address) refl refl)

-- the same, by its fields
pub is-more : (old : Book) (f : Parts) (p : ℕ) (slots : List (Option Held)) (index lens : fin.FinMap nat_cmp ℕ) (here : Option ℕ) →
    index ≡ fin.insert old.places.place f.address p → lens ≡ fin.insert old.lens f.address (size_of f) → here ≡ cond (old.block == f.address) (Some p) old.here →
    record old {
      places = record { place = index; slots = slots };
      lens = lens;
      here = here;
      own = old.own + 1;
      counts = record { blocks = old.counts.blocks + 1; reused = old.counts.reused; built = old.counts.built + 1; linked = old.counts.linked };
    }
    ≡ record old {
      places = record { place = fin.insert old.places.place f.address p; slots = slots };
      lens = fin.insert old.lens f.address (size_of f);
      here = cond (old.block == f.address) (Some p) old.here;
      own = old.own + 1;
      counts = record { blocks = old.counts.blocks + 1; reused = old.counts.reused; built = old.counts.built + 1; linked = old.counts.linked };
    }
is-more old f p slots index lens here a b c = λ i. record old {
  places = record { place = a i; slots = slots };
  lens = b i;
  here = c i;
  own = old.own + 1;
  counts = record { blocks = old.counts.blocks + 1; reused = old.counts.reused; built = old.counts.built + 1; linked = old.counts.linked };
}
