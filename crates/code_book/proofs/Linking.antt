-- The exit by which the block before was left leads to the block that begins.
use Rattle.std.proofs.Common.{◌≡◌, ℕ, ◌+◌, ◌*◌, ◌%◌, ◌<◌, ◌==◌, Bool, true, false, cond, length, Option, Some, None, refl, sym, ◌∙◌, ap, subst, arith}
use Rattle.std.specs.Prelude.{is_some, not, if◌then◌else◌}
use Rattle.std.specs.Option.{option_map, option_or}
use Rattle.std.specs.FinMap as fin
use Rattle.exit_links.specs.Linked.{Linked}
use Rattle.fragment.specs.Parts.{Parts}
use Rattle.block_ledger.specs.Ledger.{Ledger, view, is_live, is_shared, is_private, source, exit_at, linked_by, found, counted, begun}
use Rattle.block_ledger.proofs.Gets.{got-insert}
use Rattle.code_book.specs.Tables.{leads, Held, and_then, address_at, address_of, block_at, if_shared, is_shared_in, number_of}
use Rattle.code_book.specs.Keeping.{Leads}
use Rattle.code_book.specs.Book.{Book, IsKept, tables, ledger, size_of, gone_on}
use Rattle.code_book.proofs.Coming.{lead-blocks, lead-links, lead-tied}
use Rattle.code_book.proofs.Ledgers.{got-private, got-shared, got-links, same_blocks}
use Rattle.code_book.proofs.Withdrawing.{no-place, some_of, eq_is}

linked_then : (x a : ℕ) (led : Ledger) (b c : Bool) → is_some (fin.get led.links x) ≡ b → is_live led (source x) ≡ c →
    linked_by (Some x) a led ≡ (if b then record led { counts = record led.counts { linked = led.counts.linked + 1 } } else if c then record led { links = fin.insert led.links x a } else led)
linked_then x a led b c e f = λ i. if e i then record led { counts = record led.counts { linked = led.counts.linked + 1 } } else if f i then record led { links = fin.insert led.links x a } else led

pub not_live : (b : Bool) → (b ≡ true → ⊥) → b ≡ false
not_live true h = absurd (h refl)
not_live false h = refl

either : (b : Bool) (g : Parts) → is_some (option_or (cond b (Some g) None) (cond b None (Some g))) ≡ true
either true g = refl
either false g = refl

live_by : (o : Option Held) → is_some o ≡ true → is_some (option_or (and_then o (if_shared true)) (and_then o (if_shared false))) ≡ true
live_by None e = absurd (cc)
live_by (Some h) e = either h.shared h.block

module _ (old : Book) where
  pub found_if : (f : Parts) (b c : Bool) → is_shared (ledger old) f.address ≡ b → is_private (ledger old) f.address ≡ c →
      found f (counted (ledger old)) ≡ (if b then record (counted (ledger old)) { counts = record (counted (ledger old)).counts { reused = old.counts.reused + 1 } }
      else if c then counted (ledger old) else record (counted (ledger old)) { private = fin.insert (ledger old).private f.address f; counts = record (counted (ledger old)).counts { built = old.counts.built + 1 } })
  found_if f b c d e = λ i. if d i then record (counted (ledger old)) { counts = record (counted (ledger old)).counts { reused = old.counts.reused + 1 } }
      else if e i then counted (ledger old) else record (counted (ledger old)) { private = fin.insert (ledger old).private f.address f; counts = record (counted (ledger old)).counts { built = old.counts.built + 1 } }

module _ (old : Book) (kept : IsKept old) where
  pub live-there : (a p : ℕ) → fin.get old.places.place a ≡ Some p → is_live (ledger old) a ≡ true
  live-there a p at =
      ap is_some (λ i. option_or (got-shared old a i) (got-private old a i))
      ∙ ap (λ o. is_some (option_or (and_then (and_then o (tables old).held) (if_shared true)) (and_then (and_then o (tables old).held) (if_shared false)))) at
      ∙ live_by ((tables old).held p) (some_of ((tables old).held p) a (kept.tied.lies a p at))

  source_is : (b e : ℕ) → e < 2 → source (exit_at b e) ≡ b
  source_is b e less = omega arith

  exit_is : (b e : ℕ) → e < 2 → (exit_at b e) % 2 ≡ e
  exit_is b e less = omega arith

  pub no-left : (a : ℕ) → old.left ≡ None → ledger old ≡ linked_by (ledger old).left a (ledger old)
  no-left a is = sym (ap (λ l. linked_by (option_map (exit_at old.block) l) a (ledger old)) is)

  no_here_by : (a : ℕ) → old.here ≡ None → (o : Option ℕ) → old.left ≡ o → linked_by (option_map (exit_at old.block) o) a (ledger old) ≡ ledger old
  no_here_by a none None is = refl
  no_here_by a none (Some e) is =
      let less = kept.left e is in
      let x = exit_at old.block e in
      let gone : fin.get old.places.place (source x) ≡ None = ap (fin.get old.places.place) (source_is old.block e less) ∙ sym kept.here ∙ none in
      let no_link : is_some (fin.get (ledger old).links x) ≡ false = ap is_some (got-links old x ∙ ap (λ o. and_then o (λ p. and_then ((tables old).next (number_of p (x % 2))) (address_at (tables old)))) gone) in
      linked_then x a (ledger old) false false no_link (not_live (is_live (ledger old) (source x)) (λ live. no-place old (source x) gone live))

  pub no-here : (a : ℕ) → old.here ≡ None → ledger old ≡ linked_by (ledger old).left a (ledger old)
  no-here a none = sym (no_here_by a none old.left refl)

  module _ (p e : ℕ) (here : old.here ≡ Some p) (left : old.left ≡ Some e) where
    abbrev x : ℕ
    x = exit_at old.block e

    pub from : fin.get old.places.place old.block ≡ Some p
    from = sym kept.here ∙ here

    link_is : fin.get (ledger old).links x ≡ and_then ((tables old).next (2 * p + e)) (address_at (tables old))
    link_is =
        got-links old x
        ∙ ap (λ o. and_then o (λ r. and_then ((tables old).next (number_of r (x % 2))) (address_at (tables old)))) (ap (fin.get old.places.place) (source_is old.block e (kept.left e left)) ∙ from)
        ∙ ap (λ r. and_then ((tables old).next (number_of p r)) (address_at (tables old))) (exit_is old.block e (kept.left e left))

    source_live : is_live (ledger old) (source x) ≡ true
    source_live = ap (is_live (ledger old)) (source_is old.block e (kept.left e left)) ∙ live-there old.block p from

    some_address : (o : Option Held) → is_some o ≡ true → is_some (address_of o) ≡ true
    some_address None s = absurd (cc)
    some_address (Some h) s = refl

    is_linked : (o : Option ℕ) → (tables old).next (2 * p + e) ≡ o → is_some o ≡ true → is_some (and_then o (address_at (tables old))) ≡ true
    is_linked None at some = absurd (cc)
    is_linked (Some q) at some = some_address ((tables old).held q) (kept.tied.links (2 * p + e) q at).1

    as_left : (a : ℕ) → linked_by (ledger old).left a (ledger old) ≡ linked_by (Some x) a (ledger old)
    as_left a = ap (λ l. linked_by (option_map (exit_at old.block) l) a (ledger old)) left

    -- it is linked already
    pub is-linked : (a : ℕ) → is_some (leads old.links (2 * p + e)) ≡ true →
        record (ledger old) { counts = record old.counts { linked = old.counts.linked + 1 } } ≡ linked_by (ledger old).left a (ledger old)
    is-linked a some = sym (as_left a ∙ linked_then x a (ledger old) true true (ap is_some link_is ∙ is_linked ((tables old).next (2 * p + e)) refl some) source_live)

    module _ (a q : ℕ) (onto : fin.get old.places.place a ≡ Some q) (links : Linked) (next : (y : ℕ) → leads links y ≡ cond (y == 2 * p + e) (Some q) (leads old.links y))
        (long : links.places ≡ old.links.places) where
      abbrev more : Book
      more = record old { links = links }

      led : Leads p e q (tables old) (tables more)
      led = record { place = λ _. refl; held = λ _. refl; next = next }

      more_blocks : (b : Bool) (c : ℕ) → block_at (tables more) b c ≡ block_at (tables old) b c
      more_blocks b c = lead-blocks p e q (tables old) (tables more) kept.tied (kept.left e left) led old.block a from onto b c

      more_shared : (ledger more).shared ≡ (ledger old).shared
      more_shared = same_blocks (ledger more).shared (ledger old).shared (λ c. got-shared more c ∙ more_blocks true c ∙ sym (got-shared old c))

      more_private : (ledger more).private ≡ (ledger old).private
      more_private = same_blocks (ledger more).private (ledger old).private (λ c. got-private more c ∙ more_blocks false c ∙ sym (got-private old c))

      more_links : (ledger more).links ≡ fin.insert (ledger old).links x a
      more_links = same_blocks (ledger more).links (fin.insert (ledger old).links x a) (λ y.
          got-links more y ∙ lead-links p e q (tables old) (tables more) kept.tied (kept.left e left) led old.block a from onto y
          ∙ ap (λ o. cond (y == x) (Some a) o) (sym (got-links old y))
          ∙ sym (got-insert (ledger old).links x a y ∙ ap (λ c. cond c (Some a) (fin.get (ledger old).links y)) (eq_is y x (y == x) refl)))

      none_linked : is_some (leads old.links (2 * p + e)) ≡ false → is_some (fin.get (ledger old).links x) ≡ false
      none_linked none = ap is_some link_is ∙ by (leads old.links (2 * p + e)) none
        where
          by : (o : Option ℕ) → is_some o ≡ false → is_some (and_then o (address_at (tables old))) ≡ false
          by None n = refl
          by (Some r) n = absurd (cc)

      -- it is linked from now on
      pub more-ledger : is_some (leads old.links (2 * p + e)) ≡ false → ledger more ≡ linked_by (ledger old).left a (ledger old)
      more-ledger none = (λ i. record (ledger old) { shared = more_shared i; private = more_private i; links = more_links i })
          ∙ sym (as_left a ∙ linked_then x a (ledger old) false true (none_linked none) source_live)

      pub more-kept : IsKept more
      more-kept = record {
        tied = lead-tied p e q (tables old) (tables more) kept.tied (kept.left e left) led old.block a from onto;
        here = kept.here;
        covers = λ c. kept.covers c ∙ ap (option_map size_of) (sym (λ i. option_or (fin.get (more_shared i) c) (fin.get (more_private i) c)));
        short = kept.short;
        own = kept.own ∙ ap fin.len (sym more_private);
        left = kept.left;
        room = λ r some. subst (λ n. r < n) (sym long) (kept.room r some);
        counts = kept.counts;
      }

  -- a block that is live begins: what is counted
  shared_by : (b : Bool) (f : Parts) → is_some (cond b (Some f) None) ≡ b
  shared_by true f = refl
  shared_by false f = refl

  own_by : (b : Bool) (f : Parts) → b ≡ false → is_some (cond b None (Some f)) ≡ true
  own_by true f e = absurd (cc)
  own_by false f e = refl

  module _ (a p : ℕ) (at : fin.get old.places.place a ≡ Some p) where
    is_held : (b : Bool) → block_at (tables old) b a ≡ and_then ((tables old).held p) (if_shared b)
    is_held b = ap (λ o. and_then (and_then o (tables old).held) (if_shared b)) at

    shared_is : (o : Option Held) → (tables old).held p ≡ o → is_some o ≡ true → is_shared (ledger old) a ≡ is_shared_in o
    shared_is None there some = absurd (cc)
    shared_is (Some h) there some = ap is_some (got-shared old a ∙ is_held true ∙ ap (λ o. and_then o (if_shared true)) there) ∙ shared_by h.shared h.block

    private_is : (o : Option Held) → (tables old).held p ≡ o → is_some o ≡ true → is_shared_in o ≡ false → is_private (ledger old) a ≡ true
    private_is None there some own = absurd (cc)
    private_is (Some h) there some own = ap is_some (got-private old a ∙ is_held false ∙ ap (λ o. and_then o (if_shared false)) there) ∙ own_by h.shared h.block own

    some_held : is_some ((tables old).held p) ≡ true
    some_held = some_of ((tables old).held p) a (kept.tied.lies a p at)

    no_more : (n : ℕ) → n + 0 ≡ n
    no_more n = omega arith

    found_by : (f : Parts) → f.address ≡ a → (b : Bool) → is_shared_in ((tables old).held p) ≡ b →
        found f (counted (ledger old)) ≡ record (ledger old) { counts = record { blocks = old.counts.blocks + 1; reused = old.counts.reused + cond b 1 0; built = old.counts.built; linked = old.counts.linked } }
    found_by f same true is =
        let shared : is_shared (ledger old) f.address ≡ true = ap (is_shared (ledger old)) same ∙ shared_is ((tables old).held p) refl some_held ∙ is in
        found_if old f true (is_private (ledger old) f.address) shared refl
    found_by f same false is =
        let shared : is_shared (ledger old) f.address ≡ false = ap (is_shared (ledger old)) same ∙ shared_is ((tables old).held p) refl some_held ∙ is in
        let own : is_private (ledger old) f.address ≡ true = ap (is_private (ledger old)) same ∙ private_is ((tables old).held p) refl some_held is in
        found_if old f false true shared own
        ∙ ap (λ n. record (ledger old) { counts = record { blocks = old.counts.blocks + 1; reused = n; built = old.counts.built; linked = old.counts.linked } }) (sym (no_more old.counts.reused))

    pub found-live : (f : Parts) → f.address ≡ a →
        found f (counted (ledger old)) ≡ record (ledger old) { counts = record { blocks = old.counts.blocks + 1; reused = old.counts.reused + cond (is_shared_in ((tables old).held p)) 1 0; built = old.counts.built; linked = old.counts.linked } }
    found-live f same = found_by f same (is_shared_in ((tables old).held p)) refl

    -- it begins
    pub begun-live : (f : Parts) → f.address ≡ a →
        gone_on a (record (ledger old) { counts = record { blocks = old.counts.blocks + 1; reused = old.counts.reused + cond (is_shared_in ((tables old).held p)) 1 0; built = old.counts.built; linked = old.counts.linked } }) ≡ begun f (ledger old)
    begun-live f same =
        ap (λ led. record (linked_by (ledger old).left a led) { block = a; left = None }) (sym (found-live f same))
        ∙ ap (λ b. record (linked_by (ledger old).left b (found f (counted (ledger old)))) { block = b; left = None }) (sym same)

  -- what is seen of a live block by its place
  view_by : (o : Option Held) → option_or (and_then o (if_shared true)) (and_then o (if_shared false)) ≡ option_map (λ h. h.block) o
  view_by None = refl
  view_by (Some h) = by h.shared h.block
    where
      by : (b : Bool) (g : Parts) → option_or (cond b (Some g) None) (cond b None (Some g)) ≡ Some g
      by true g = refl
      by false g = refl

  pub view-is : (a : ℕ) → view (ledger old) a ≡ option_map (λ h. h.block) (and_then (fin.get old.places.place a) (tables old).held)
  view-is a = (λ i. option_or (got-shared old a i) (got-private old a i)) ∙ view_by (and_then (fin.get old.places.place a) (tables old).held)

  live_is : (a : ℕ) (o : Option ℕ) → fin.get old.places.place a ≡ o → is_live (ledger old) a ≡ is_some o
  live_is a None at = not_live (is_live (ledger old) a) (λ live. no-place old a at live)
  live_is a (Some p) at = live-there a p at

  pub live-is : (a : ℕ) → is_live (ledger old) a ≡ is_some (fin.get old.places.place a)
  live-is a = live_is a (fin.get old.places.place a) refl

  own_in : (o : Option Held) → is_some o ≡ true → is_some (and_then o (if_shared false)) ≡ not (is_shared_in o)
  own_in None some = absurd (cc)
  own_in (Some h) some = by h.shared h.block
    where
      by : (b : Bool) (g : Parts) → is_some (cond b None (Some g)) ≡ not b
      by true g = refl
      by false g = refl

  pub own-is : (a p : ℕ) → fin.get old.places.place a ≡ Some p → is_private (ledger old) a ≡ not (is_shared_in ((tables old).held p))
  own-is a p at = ap is_some (got-private old a ∙ ap (λ o. and_then (and_then o (tables old).held) (if_shared false)) at) ∙ own_in ((tables old).held p) (some_of ((tables old).held p) a (kept.tied.lies a p at))
