-- What the calls of a memory answer.
use Rattle.std.specs.Prelude.{◌≡◌, ℕ, List, ◌++◌, Option, Some, None, Result, Ok, Err, IsOkUnless}
use Rattle.cc_base.specs.Image.{Code}
use Rattle.cc_base.specs.declared.span.CodeView.{CodeView}
use Rattle.plain_machine.specs.declared.access.MemErr.{MemErr}
use Rattle.plain_machine.specs.declared.access.MemErr.TheVariants as errors
use Rattle.plain_machine.specs.declared.access.Access.{Access}
use Rattle.plain_machine.specs.Memory.{Memory}
use Rattle.guest_mem.specs.declared.access.CopyErr.{CopyErr}
use Rattle.guest_mem.specs.declared.access.CopyErr.TheVariants as copy

-- refused for this reason; else only memory may run out
abbrev pub RefusedFor : {A : Type 0} → Option MemErr → Result A MemErr → Type 0
RefusedFor (Some e) result = result ≡ Err e
RefusedFor None result = IsOkUnless result errors.Memory

-- what a function that may change a memory answered is this result; an error leaves the memory as it was
abbrev pub Becomes : {A : Type 0} → Memory → Result Memory Access → Result A Access → Memory → Type 0
Becomes old made (Ok _) new = made ≡ Ok new
Becomes old made (Err e) new = (made ≡ Err e) × (new ≡ old)

-- the bytes that were read are appended; an error appends nothing
abbrev pub Copies : Result (List ℕ) Access → Result (Unit {0}) CopyErr → List ℕ → List ℕ → Type 0
Copies read (Ok _) old new = (bytes : List ℕ) × (read ≡ Ok bytes) × (new ≡ old ++ bytes)
Copies read (Err (copy.Access e)) old new = (read ≡ Err e) × (new ≡ old)
Copies read (Err copy.Memory) old new = new ≡ old

-- the view shows that code
abbrev pub Shows : Option CodeView → Option Code → Type 0
Shows None None = Unit {0}
Shows (Some v) (Some c) = (v.start ≡ c.start) × (v.bytes.now ≡ c.bytes)
Shows None (Some c) = ⊥
Shows (Some v) None = ⊥
