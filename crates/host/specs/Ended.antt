-- How a call ended.
use Rattle.std.specs.Prelude.{ℕ}
use Rattle.host_text.specs.declared.cause.Cause.{Cause}
use Rattle.host.specs.Answer.{Lists}

-- its exit status, why, and what it tells of its run
pub record Ended : Type 0 where
  pub status : ℕ
  pub cause : Cause
  pub lists : Lists
