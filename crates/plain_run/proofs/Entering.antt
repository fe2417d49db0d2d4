-- Where a guest is entered.
use Rattle.std.proofs.Common.{◌≡◌, ℕ, ◌+◌, ◌%◌, ◌==◌, ◌&&◌, Bool, true, false, if◌then◌else◌, Some, None, [], refl, sym, subst}
use Rattle.std.specs.Prelude.{nat_lt}
use Rattle.std.specs.List.{list_any}
use Rattle.std.proofs.lemmas.Bool.{eqb-true}
use Rattle.std.proofs.lemmas.Option.{same_Some}
use Rattle.plain_machine.specs.Program.{Program, base_of, can_enter, entry_of, runs_at}

picked : (a b : Bool) (x e : ℕ) → Some e ≡ (if a then None else if b then Some x else None) → (b ≡ true) × (x ≡ e)
picked true b x e is = absurd (cc)
picked false true x e is = (refl, same_Some x e (sym is))
picked false false x e is = absurd (cc)

first-of : (a b : Bool) → (a && b) ≡ true → a ≡ true
first-of true b h = refl
first-of false b h = cc

pub entry-aligned : (program : Program) (base e : ℕ) → Some e ≡ entry_of program base → e % 4 ≡ 0
entry-aligned program base e is =
    let x : ℕ = base_of program base + program.entry in
    let both = picked (nat_lt 4294967295 x) (can_enter (base_of program base) program.segments x) x e is in
    let aligned : x % 4 ≡ 0 = eqb-true (x % 4) 0 (first-of (x % 4 == 0) (list_any (runs_at (base_of program base) x) program.segments) both.0) in
    subst (λ y. y % 4 ≡ 0) both.1 aligned

-- a program without segments
pub nothing : Program
nothing = record { fixed = true; entry = 0; segments = [] }
