use Rattle.std.proofs.Common.{◌≡◌, ℕ, ◌∙◌, List, [], ◌∷◌, length, map, Option, Some, None, ap, arith, refl, sym}
use Rattle.std.specs.Ordering.{nat_cmp}
use Rattle.std.specs.FinMap as fin
use Rattle.plain_machine.specs.Program.{Segment, base_of}
use Rattle.block_ledger.specs.Ledger.{Ledger, Segment as Attached}
use Rattle.code_book.specs.View.{ledger_of}
use Rattle.guest_proc.specs.Maps.{OthersStartElsewhere}
use Rattle.guest_proc.proofs.tests.take_away.Goals as goal

none_of : (es : List (ℕ × Attached)) → length (map (λ e. e.0) es) ≡ 0 → (i : ℕ) → fin.find nat_cmp i es ≡ None
none_of [] e i = refl
none_of (x ∷ es) e i = absurd (cc)

alone : (k base : ℕ) (ss : List Segment) (led : Ledger) → ((i : ℕ) → fin.get led.segments i ≡ None) → OthersStartElsewhere k base ss led
alone k base [] led none = tt
alone k base (s ∷ ss) led none = (λ i seg is at. let impossible = sym (none i) ∙ is in absurd (cc), alone k base ss led none)

pub unplace-requires-clause-placed : goal.unplace-requires-clause-placed
unplace-requires-clause-placed c =
    let led : Ledger = ledger_of c.args.guest.now.book in
    let few : length (fin.keys led.segments) ≡ 0 = ap length (sym c.in_ok-numbers.ensures.numbers) ∙ omega (arith, c.len.ensures) in
    record {
      stand = c.requires.stand;
      alone = alone c.args.module (base_of c.args.elf.now 0) c.args.elf.now.segments led (λ i. fin.get-entries led.segments i ∙ none_of (fin.entries led.segments) few i);
    }
