-- What a whole run changes of its shelf, whatever it answers.
use Rattle.std.proofs.Common.{◌≡◌, List, [], subst}
use Rattle.std.proofs.Math.Path.{fun_ext}
use Rattle.shelf_model.specs.Shelf.{Told, TellsSame}
use Rattle.unit_set.specs.Slot.{Slot}
use Rattle.publisher.specs.Areas.{KeepsStrangers, OnlyPublishes}
use Rattle.whole_run.specs.Shelf.{ChangesOnly}

-- what tells the same is the same
pub told_is : (before after : Told) → TellsSame before after → after ≡ before
told_is before after same = fun_ext (λ name. fun_ext (λ area. same name area))

pub unchanged : (slots : List Slot) (before after : Told) → TellsSame before after → ChangesOnly slots before after
unchanged slots before after same = record { only = record { all = []; theirs = tt; areas = same }; strangers = λ name area apart. same name area }

-- by publications behind calls that change nothing
pub changed : (slots slots' : List Slot) (before mid after : Told) → TellsSame before mid → slots' ≡ slots → OnlyPublishes slots' mid after → KeepsStrangers slots' mid after → ChangesOnly slots before after
changed slots slots' before mid after same is only strangers =
    subst (λ t. ChangesOnly slots t after) (told_is before mid same)
    (subst (λ xs. ChangesOnly xs mid after) is (record { only = only; strangers = strangers }))
