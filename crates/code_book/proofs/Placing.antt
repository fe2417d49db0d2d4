-- A block that a unit shares comes to lie in a free place.
use Rattle.std.proofs.Common.{◌≡◌, ℕ, ◌+◌, ◌<◌, ◌≤◌, ◌==◌, Bool, true, false, cond, List, length, get_or, Option, Some, None, refl, sym, ◌∙◌, ap, arith}
use Rattle.std.specs.Prelude.{is_some}
use Rattle.std.specs.Option.{option_map, option_or}
use Rattle.std.specs.Ordering.{nat_cmp}
use Rattle.std.specs.FinMap as fin
use Rattle.fragment.specs.Parts.{Parts}
use Rattle.block_ledger.specs.Ledger.{view, is_live}
use Rattle.block_ledger.proofs.Gets.{got-insert}
use Rattle.code_book.specs.Tables.{Held}
use Rattle.code_book.specs.Keeping.{Comes}
use Rattle.code_book.specs.Book.{Book, IsKept, IsShort, tables, ledger, size_of}
use Rattle.code_book.specs.Whole.{with_one}
use Rattle.code_book.proofs.Coming.{eq_true, come-blocks, come-links, come-tied}
use Rattle.code_book.proofs.Going.{some_same}
use Rattle.code_book.proofs.Ledgers.{got-private, got-shared, got-links, same_blocks}
use Rattle.code_book.proofs.Withdrawing.{eq_is}
use Rattle.code_book.proofs.Linking.{live-there}
use Rattle.code_book.proofs.Settling.{none_either, no_place}

module _ (old : Book) (kept : IsKept old) (f : Parts) (p : ℕ) (absent : is_live (ledger old) f.address ≡ false) (short : IsShort f)
    (free : get_or old.places.slots p None ≡ None) (wide : p < old.links.places) where
  abbrev held : Held
  held = record { block = f; shared = true }

  none : (fin.get (ledger old).shared f.address ≡ None) × (fin.get (ledger old).private f.address ≡ None)
  none = none_either (fin.get (ledger old).shared f.address) (fin.get (ledger old).private f.address) absent

  no_place_yet : fin.get old.places.place f.address ≡ None
  no_place_yet = no_place (fin.get old.places.place f.address) (λ r at. let live = live-there old kept f.address r at in let clash : true ≡ false = sym live ∙ absent in cc)

  module _ (slots : List (Option Held)) (taken : (q : ℕ) → get_or slots q None ≡ cond (q == p) (Some held) (get_or old.places.slots q None)) where
    abbrev more : Book
    more = record old {
      places = record { place = fin.insert old.places.place f.address p; slots = slots };
      lens = fin.insert old.lens f.address (size_of f);
      here = cond (old.block == f.address) (Some p) old.here;
    }

    got : {X : Type 0} (m : fin.FinMap nat_cmp X) (v : X) (a : ℕ) → fin.get (fin.insert m f.address v) a ≡ cond (a == f.address) (Some v) (fin.get m a)
    got m v a = got-insert m f.address v a ∙ ap (λ b. cond b (Some v) (fin.get m a)) (eq_is a f.address (a == f.address) refl)

    comes : Comes held p (tables old) (tables more)
    comes = record { absent = no_place_yet; free = free; place = λ a. got old.places.place p a; held = taken; next = λ _. refl }

    private_by : (a : ℕ) (b : Bool) → (a == f.address) ≡ b → cond b None (fin.get (ledger old).private a) ≡ fin.get (ledger old).private a
    private_by a true is = sym (ap (fin.get (ledger old).private) (eq_true a f.address is) ∙ none.1)
    private_by a false is = refl

    more_private : (ledger more).private ≡ (ledger old).private
    more_private = same_blocks (ledger more).private (ledger old).private (λ a. got-private more a ∙ come-blocks held p (tables old) (tables more) kept.tied comes false a
        ∙ ap (cond (a == f.address) None) (sym (got-private old a)) ∙ private_by a (a == f.address) refl)

    more_shared : (ledger more).shared ≡ fin.insert (ledger old).shared f.address f
    more_shared = same_blocks (ledger more).shared (fin.insert (ledger old).shared f.address f) (λ a. got-shared more a ∙ come-blocks held p (tables old) (tables more) kept.tied comes true a
        ∙ ap (cond (a == f.address) (Some f)) (sym (got-shared old a)) ∙ sym (got (ledger old).shared f a))

    more_links : (ledger more).links ≡ (ledger old).links
    more_links = same_blocks (ledger more).links (ledger old).links (λ x. got-links more x ∙ come-links held p (tables old) (tables more) kept.tied comes x ∙ sym (got-links old x))

    pub held-ledger : ledger more ≡ with_one f (ledger old)
    held-ledger = λ i. record (ledger more) { shared = more_shared i; private = more_private i; links = more_links i }

    view_by : (a : ℕ) (b : Bool) → (a == f.address) ≡ b → cond b (Some (size_of f)) (fin.get old.lens a) ≡ option_map size_of (option_or (cond b (Some f) (fin.get (ledger old).shared a)) (fin.get (ledger old).private a))
    view_by a true is = refl
    view_by a false is = kept.covers a

    view_more : (a : ℕ) → view (ledger more) a ≡ option_or (cond (a == f.address) (Some f) (fin.get (ledger old).shared a)) (fin.get (ledger old).private a)
    view_more a = (λ i. option_or (fin.get (more_shared i) a) (fin.get (more_private i) a)) ∙ ap (λ o. option_or o (fin.get (ledger old).private a)) (got (ledger old).shared f a)

    short_by : (a len : ℕ) (b : Bool) → (a == f.address) ≡ b → cond b (Some (size_of f)) (fin.get old.lens a) ≡ Some len → (0 < len) × (len ≤ 256) × (a + len ≤ 4294967295)
    short_by a len true is e =
        let size : size_of f ≡ len = some_same (size_of f) len e in
        let there : a ≡ f.address = eq_true a f.address is in
        let some = short.some in
        let within = short.ends in
        let few = short.few in
        (omega (arith, size, some), omega (arith, size, few), omega (arith, size, there, within))
    short_by a len false is e = kept.short a len e

    here_by : (b : Bool) → cond b (Some p) old.here ≡ cond b (Some p) (fin.get old.places.place old.block)
    here_by true = refl
    here_by false = kept.here

    room_by : (q : ℕ) (b : Bool) → (q == p) ≡ b → is_some (cond b (Some held) (get_or old.places.slots q None)) ≡ true → q < old.links.places
    room_by q true is some = let same : q ≡ p = eq_true q p is in omega (arith, same, wide)
    room_by q false is some = kept.room q some

    pub held-kept : IsKept more
    held-kept = record {
      tied = come-tied held p (tables old) (tables more) kept.tied comes;
      here = here_by (old.block == f.address) ∙ sym (got old.places.place p old.block);
      covers = λ a. got old.lens (size_of f) a ∙ view_by a (a == f.address) refl ∙ ap (option_map size_of) (sym (view_more a));
      short = λ a len e. short_by a len (a == f.address) refl (sym (got old.lens (size_of f) a) ∙ e);
      own = kept.own ∙ ap fin.len (sym more_private);
      left = kept.left;
      room = λ q some. room_by q (q == p) refl (ap is_some (sym (taken q)) ∙ some);
      counts = kept.counts;
    }

-- the same, by its fields
pub is-held : (old : Book) (f : Parts) (p : ℕ) (slots : List (Option Held)) (index lens : fin.FinMap nat_cmp ℕ) (here : Option ℕ) →
    index ≡ fin.insert old.places.place f.address p → lens ≡ fin.insert old.lens f.address (size_of f) → here ≡ cond (old.block == f.address) (Some p) old.here →
    record old { places = record { place = index; slots = slots }; lens = lens; here = here }
    ≡ record old {
      places = record { place = fin.insert old.places.place f.address p; slots = slots };
      lens = fin.insert old.lens f.address (size_of f);
      here = cond (old.block == f.address) (Some p) old.here;
    }
is-held old f p slots index lens here a b c = λ i. record old { places = record { place = a i; slots = slots }; lens = b i; here = c i }
