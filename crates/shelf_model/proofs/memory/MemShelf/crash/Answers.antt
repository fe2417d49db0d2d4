use Rattle.std.proofs.Common.{◌≤◌, List, Some, length, ap, sym, ◌∙◌, subst, arith}
use Rattle.shelf_model.specs.declared.memory.Call.{Call}
use Rattle.shelf_model.specs.Shelf.{Leaves}
use Rattle.shelf_model.specs.Calls.{content_of}
use Rattle.shelf_model.specs.Crash.{crash_of}
use Rattle.shelf_model.proofs.Records.{images_of}
use Rattle.shelf_model.proofs.Crashes.{puts_done, puts_tell, puts_leave, crash_is_image}
use Rattle.shelf_model.proofs.memory.MemShelf.crash.Goals as goal

pub returns-clause-told : goal.returns-clause-told
returns-clause-told c = λ n b.
    let past : length c.args.self.now.calls.items ≤ c.loop-call.call-index = omega (arith, c.loop-call-test.false, c.loop-call.auto.call-index-end) in
    let all = puts_done c.args.whole c.loop-call.call-index c.args.self.now.calls.items c.loop-call.after.calls.items c.loop-call.invariant past in
    ap (λ (xs : List Call). Some (content_of xs n b)) all ∙ ap Some (puts_tell c.args.whole c.args.self.now.calls.items n b)

pub returns-clause-synced : goal.returns-clause-synced
returns-clause-synced c = λ n b.
    let past : length c.args.self.now.calls.items ≤ c.loop-call.call-index = omega (arith, c.loop-call-test.false, c.loop-call.auto.call-index-end) in
    let all = puts_done c.args.whole c.loop-call.call-index c.args.self.now.calls.items c.loop-call.after.calls.items c.loop-call.invariant past in
    subst (λ (xs : List Call). Leaves (images_of xs) (length xs) n b (crash_of c.args.whole c.args.self.now.calls.items n b)) (sym all) (puts_leave c.args.whole c.args.self.now.calls.items n b)

pub returns-clause-image : goal.returns-clause-image
returns-clause-image c = λ n b. crash_is_image c.args.whole c.args.self.now.calls.items n b
