-- The run of a plan.
use Rattle.std.specs.Prelude.{◌≡◌, ℕ, List}
use Rattle.whole_run.specs.Shelf.{Seen as ShelfSeen}
use Rattle.whole_run.specs.Whole.{IsWhole, Whole}
use Rattle.host.specs.Answer.{Lists, job_in, lists_of, whole_text}
use Rattle.host.specs.Outcome.{Plan}

-- it tells these lists and this text
pub record IsRunOf (plan : Plan) (shelf : ShelfSeen) (lists : Lists) (text : List ℕ) : Type 0 where
  pub whole : Whole
  pub runs : IsWhole (job_in plan) shelf whole
  pub lists_are : lists ≡ lists_of whole
  pub printed : text ≡ whole_text plan whole
