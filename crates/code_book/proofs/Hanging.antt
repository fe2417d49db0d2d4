-- An exit of a live block leads to another.
use Rattle.std.proofs.Common.{◌≡◌, ℕ, ◌+◌, ◌*◌, ◌<◌, ◌==◌, Bool, true, false, cond, length, Some, refl, sym, ◌∙◌, ap, subst}
use Rattle.std.specs.Option.{option_map, option_or}
use Rattle.std.specs.FinMap as fin
use Rattle.exit_links.specs.Linked.{Linked}
use Rattle.block_ledger.specs.Ledger.{exit_at}
use Rattle.block_ledger.proofs.Gets.{got-insert}
use Rattle.code_book.specs.Tables.{leads, block_at}
use Rattle.code_book.specs.Keeping.{Leads}
use Rattle.code_book.specs.Book.{Book, IsKept, tables, ledger, size_of}
use Rattle.code_book.specs.Whole.{led_to}
use Rattle.code_book.proofs.Coming.{lead-blocks, lead-links, lead-tied}
use Rattle.code_book.proofs.Ledgers.{got-private, got-shared, got-links, same_blocks}
use Rattle.code_book.proofs.Withdrawing.{eq_is}

module _ (old : Book) (kept : IsKept old) (b p e : ℕ) (less : e < 2) (from : fin.get old.places.place b ≡ Some p) where
  module _ (a q : ℕ) (onto : fin.get old.places.place a ≡ Some q) (links : Linked) (next : (x : ℕ) → leads links x ≡ cond (x == 2 * p + e) (Some q) (leads old.links x))
      (long : links.places ≡ old.links.places) where
    abbrev more : Book
    more = record old { links = links }

    led : Leads p e q (tables old) (tables more)
    led = record { place = λ _. refl; held = λ _. refl; next = next }

    more_blocks : (s : Bool) (c : ℕ) → block_at (tables more) s c ≡ block_at (tables old) s c
    more_blocks s c = lead-blocks p e q (tables old) (tables more) kept.tied less led b a from onto s c

    more_shared : (ledger more).shared ≡ (ledger old).shared
    more_shared = same_blocks (ledger more).shared (ledger old).shared (λ c. got-shared more c ∙ more_blocks true c ∙ sym (got-shared old c))

    more_private : (ledger more).private ≡ (ledger old).private
    more_private = same_blocks (ledger more).private (ledger old).private (λ c. got-private more c ∙ more_blocks false c ∙ sym (got-private old c))

    more_links : (ledger more).links ≡ fin.insert (ledger old).links (exit_at b e) a
    more_links = same_blocks (ledger more).links (fin.insert (ledger old).links (exit_at b e) a) (λ y.
        got-links more y ∙ lead-links p e q (tables old) (tables more) kept.tied less led b a from onto y
        ∙ ap (λ o. cond (y == exit_at b e) (Some a) o) (sym (got-links old y))
        ∙ sym (got-insert (ledger old).links (exit_at b e) a y ∙ ap (λ c. cond c (Some a) (fin.get (ledger old).links y)) (eq_is y (exit_at b e) (y == exit_at b e) refl)))

    pub hung-ledger : ledger more ≡ led_to (exit_at b e) (Some a) (ledger old)
    hung-ledger = λ i. record (ledger old) { shared = more_shared i; private = more_private i; links = more_links i }

    pub hung-kept : IsKept more
    hung-kept = record {
      tied = lead-tied p e q (tables old) (tables more) kept.tied less led b a from onto;
      here = kept.here;
      covers = λ c. kept.covers c ∙ ap (option_map size_of) (sym (λ i. option_or (fin.get (more_shared i) c) (fin.get (more_private i) c)));
      short = kept.short;
      own = kept.own ∙ ap fin.len (sym more_private);
      left = kept.left;
      room = λ r some. subst (λ n. r < n) (sym long) (kept.room r some);
      counts = kept.counts;
    }
