-- What holds of an answer that is Ok.
use Rattle.std.proofs.Common.{Result, Ok, Err}
use Rattle.std.specs.Prelude.{IfOk}

pub ok_both : {T E : Type 0} (r : Result T E) (P P' Q : T → Type 0) → ((x : T) → P x → P' x → Q x) → IfOk r P → IfOk r P' → IfOk r Q
ok_both (Ok x) P P' Q more h h' = more x h h'
ok_both (Err e) P P' Q more h h' = tt
