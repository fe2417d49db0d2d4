-- Arithmetic on 32 bits.
use Rattle.std.specs.Prelude.{ℕ, ◌+◌, ◌-◌, ◌*◌, ◌/◌, ◌%◌, ◌^◌, ◌==◌, Bool, not, nat_lt, if◌then◌else◌, bit_and, bit_or, bit_xor, ℤ, pos, ◌*ℤ◌, int_lt, int_div, int_rem}
use Rattle.std.specs.Int.{w32, w64, cast_signed, cast_unsigned, int_shr}
use Rattle.plain_machine.specs.declared.operation.Op.{Op}
use Rattle.plain_machine.specs.declared.operation.Op.TheVariants as ops
use Rattle.plain_machine.specs.declared.operation.Comparison.{Comparison}
use Rattle.plain_machine.specs.declared.operation.Comparison.TheVariants as comparisons

-- a word in two's complement, and back
abbrev pub signed : ℕ → ℤ
signed x = cast_signed w32 x

abbrev pub word : ℤ → ℕ
word z = cast_unsigned w32 z

-- the high 32 bits of a product of 64 bits
abbrev pub high : ℤ → ℕ
high z = cast_unsigned w64 z / 2 ^ 32

abbrev pub truth : Bool → ℕ
truth b = if b then 1 else 0

abbrev pub computed : Op → ℕ → ℕ → ℕ
computed ops.Add x y = (x + y) % 2 ^ 32
computed ops.Sub x y = (x + (2 ^ 32 - y)) % 2 ^ 32
computed ops.Sll x y = x * 2 ^ (y % 32) % 2 ^ 32
computed ops.Slt x y = truth (int_lt (signed x) (signed y))
computed ops.Sltu x y = truth (nat_lt x y)
computed ops.Xor x y = bit_xor x y
computed ops.Srl x y = x / 2 ^ (y % 32)
computed ops.Sra x y = word (int_shr (signed x) (y % 32))
computed ops.Or x y = bit_or x y
computed ops.And x y = bit_and x y
computed ops.Mul x y = x * y % 2 ^ 32
computed ops.Mulh x y = high (signed x *ℤ signed y)
computed ops.Mulhsu x y = high (signed x *ℤ pos y)
computed ops.Mulhu x y = x * y / 2 ^ 32
computed ops.Div x y = if y == 0 then 2 ^ 32 - 1 else word (int_div (signed x) (signed y))
computed ops.Divu x y = if y == 0 then 2 ^ 32 - 1 else x / y
computed ops.Rem x y = if y == 0 then x else word (int_rem (signed x) (signed y))
computed ops.Remu x y = if y == 0 then x else x % y

-- whether a branch is taken
abbrev pub is_taken : Comparison → ℕ → ℕ → Bool
is_taken comparisons.Eq x y = x == y
is_taken comparisons.Ne x y = not (x == y)
is_taken comparisons.Lt x y = int_lt (signed x) (signed y)
is_taken comparisons.Ge x y = not (int_lt (signed x) (signed y))
is_taken comparisons.Ltu x y = nat_lt x y
is_taken comparisons.Geu x y = not (nat_lt x y)
