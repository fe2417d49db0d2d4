use Rattle.std.proofs.Common.{◌∷◌, [], ◌^◌, Some, refl, ◌∙◌, ap}
use Rattle.std.proofs.lemmas.Result.{IfOk-weaker}
use Rattle.plain_machine.specs.declared.cpu.Done.TheVariants as done
use Rattle.plain_machine.specs.Machine.{State}
use Rattle.engine.specs.Standing.{state}
use Rattle.plain_run.specs.Plain.{one_module}
use Rattle.plain_run.specs.Ready.{state_of}
use Rattle.plain_run.proofs.Rows.{both-ok}
use Rattle.plain_run.specs.declared.block.OpenBlock.{OpenBlock}
use Rattle.plain_run.proofs.Stepping.{Did, did-so, finishes-unfetched, moves-next, moves-taken, moves-touched, finishes-fault, steps-call, small-after}
use Rattle.plain_run.proofs.step.step.Goals as goal

pub returns-in_default-clause-steps : goal.returns-in_default-clause-steps
returns-in_default-clause-steps c = λ place lies.
    finishes-unfetched (one_module c.args.elfs.now c.args.base) c.args.setup.now.tool c.args.setup.now.max c.args.block.now place (state_of c.args.process.now) c.args.process.now.report.counts (c.args.process.now.file ∷ []) c.args.maps.now.items
    (c.in_default.ensures.none refl c.args.process.now.io)

pub returns-in-Next-clause-steps : goal.returns-in-Next-clause-steps
returns-in-Next-clause-steps c = λ place lies.
    let w = one_module c.args.elfs.now c.args.base in
    let p = c.args.process.now in
    let now : State = state_of p in
    let files = p.file ∷ [] in
    let after : OpenBlock = record { room = c.room_after-block.result; region = Some c.in-Some.found.region } in
    let did : Did c.args.setup.now.tool c.args.setup.now.max c.args.block.now after place now c.in-Some.found.word c.is_left_at-begins.result done.Next c.exec-done.new.cpu c.exec-done.new.mem p.report c.count.new.report =
    did-so c.args.setup.now.tool c.args.setup.now.max c.args.block.now place now c.in-Some.found.word c.is_left_at-begins.result c.closes.result c.decode-ins.result c.room_after-block.result c.in-Some.found.region c.exec-done.result done.Next c.exec-done.new.cpu c.exec-done.new.mem p.report c.count.new.report
    c.in-Next.is c.in-Some.ensures.word c.exec-done.ensures.step (c.is_left_at-begins.ensures place now refl lies) c.decode-ins.ensures.value (c.closes.ensures c.exec-done.new.cpu c.exec-done.new.mem)
    c.room_after-block.ensures c.in-Some.ensures.region c.in_ok-count.ensures c.requires.ready.tool in
    moves-next w c.args.setup.now.tool c.args.setup.now.max c.args.block.now after place now c.in-Some.found.word c.is_left_at-begins.result c.exec-done.new.cpu c.exec-done.new.mem p.report c.count.new.report files c.args.maps.now.items did

pub returns-in-Next-clause-ready : goal.returns-in-Next-clause-ready
returns-in-Next-clause-ready c = λ is. record {
  known = c.requires.ready.known;
  file = c.requires.ready.file;
  aligned = c.exec-done.ensures.aligned;
  tool = ap (λ r. r.tool) c.in_ok-count.ensures ∙ c.requires.ready.tool;
  small = small-after c.args.process.now.report.tool c.args.process.now.cpu c.is_left_at-begins.result c.decode-ins.result c.args.process.now.report c.count.new.report c.args.process.now.left (2 ^ 64) c.in_ok-count.ensures c.requires.fuel c.requires.ready.small;
}

pub returns-in-Taken-clause-steps : goal.returns-in-Taken-clause-steps
returns-in-Taken-clause-steps c = λ place lies.
    let w = one_module c.args.elfs.now c.args.base in
    let p = c.args.process.now in
    let now : State = state_of p in
    let files = p.file ∷ [] in
    let after : OpenBlock = record { room = c.room_after-block.result; region = Some c.in-Some.found.region } in
    let did : Did c.args.setup.now.tool c.args.setup.now.max c.args.block.now after place now c.in-Some.found.word c.is_left_at-begins.result done.Taken c.exec-done.new.cpu c.exec-done.new.mem p.report c.count.new.report =
    did-so c.args.setup.now.tool c.args.setup.now.max c.args.block.now place now c.in-Some.found.word c.is_left_at-begins.result c.closes.result c.decode-ins.result c.room_after-block.result c.in-Some.found.region c.exec-done.result done.Taken c.exec-done.new.cpu c.exec-done.new.mem p.report c.count.new.report
    c.in-Taken.is c.in-Some.ensures.word c.exec-done.ensures.step (c.is_left_at-begins.ensures place now refl lies) c.decode-ins.ensures.value (c.closes.ensures c.exec-done.new.cpu c.exec-done.new.mem)
    c.room_after-block.ensures c.in-Some.ensures.region c.in_ok-count.ensures c.requires.ready.tool in
    moves-taken w c.args.setup.now.tool c.args.setup.now.max c.args.block.now after place now c.in-Some.found.word c.is_left_at-begins.result c.exec-done.new.cpu c.exec-done.new.mem p.report c.count.new.report files c.args.maps.now.items did

pub returns-in-Taken-clause-ready : goal.returns-in-Taken-clause-ready
returns-in-Taken-clause-ready c = λ is. record {
  known = c.requires.ready.known;
  file = c.requires.ready.file;
  aligned = c.exec-done.ensures.aligned;
  tool = ap (λ r. r.tool) c.in_ok-count.ensures ∙ c.requires.ready.tool;
  small = small-after c.args.process.now.report.tool c.args.process.now.cpu c.is_left_at-begins.result c.decode-ins.result c.args.process.now.report c.count.new.report c.args.process.now.left (2 ^ 64) c.in_ok-count.ensures c.requires.fuel c.requires.ready.small;
}

pub returns-in-Touched-clause-steps : goal.returns-in-Touched-clause-steps
returns-in-Touched-clause-steps c = λ place lies.
    let w = one_module c.args.elfs.now c.args.base in
    let p = c.args.process.now in
    let now : State = state_of p in
    let files = p.file ∷ [] in
    let after : OpenBlock = record { room = c.room_after-block.result; region = Some c.in-Some.found.region } in
    let did : Did c.args.setup.now.tool c.args.setup.now.max c.args.block.now after place now c.in-Some.found.word c.is_left_at-begins.result (done.Touched c.in-Touched.span) c.exec-done.new.cpu c.exec-done.new.mem p.report c.count.new.report =
    did-so c.args.setup.now.tool c.args.setup.now.max c.args.block.now place now c.in-Some.found.word c.is_left_at-begins.result c.closes.result c.decode-ins.result c.room_after-block.result c.in-Some.found.region c.exec-done.result (done.Touched c.in-Touched.span) c.exec-done.new.cpu c.exec-done.new.mem p.report c.count.new.report
    c.in-Touched.is c.in-Some.ensures.word c.exec-done.ensures.step (c.is_left_at-begins.ensures place now refl lies) c.decode-ins.ensures.value (c.closes.ensures c.exec-done.new.cpu c.exec-done.new.mem)
    c.room_after-block.ensures c.in-Some.ensures.region c.in_ok-count.ensures c.requires.ready.tool in
    moves-touched w c.args.setup.now.tool c.args.setup.now.max c.args.block.now after place now c.in-Some.found.word c.is_left_at-begins.result c.in-Touched.span c.exec-done.new.cpu c.exec-done.new.mem p.report c.count.new.report files c.args.maps.now.items did

pub returns-in-Touched-clause-ready : goal.returns-in-Touched-clause-ready
returns-in-Touched-clause-ready c = λ is. record {
  known = c.requires.ready.known;
  file = c.requires.ready.file;
  aligned = c.exec-done.ensures.aligned;
  tool = ap (λ r. r.tool) c.in_ok-count.ensures ∙ c.requires.ready.tool;
  small = small-after c.args.process.now.report.tool c.args.process.now.cpu c.is_left_at-begins.result c.decode-ins.result c.args.process.now.report c.count.new.report c.args.process.now.left (2 ^ 64) c.in_ok-count.ensures c.requires.fuel c.requires.ready.small;
}

pub returns-in-Fault-clause-steps : goal.returns-in-Fault-clause-steps
returns-in-Fault-clause-steps c = λ place lies.
    let w = one_module c.args.elfs.now c.args.base in
    let p = c.args.process.now in
    let now : State = state_of p in
    let files = p.file ∷ [] in
    let after : OpenBlock = record { room = c.room_after-block.result; region = Some c.in-Some.found.region } in
    let did : Did c.args.setup.now.tool c.args.setup.now.max c.args.block.now after place now c.in-Some.found.word c.is_left_at-begins.result (done.Fault c.in-Fault.kind) c.exec-done.new.cpu c.exec-done.new.mem p.report c.count.new.report =
    did-so c.args.setup.now.tool c.args.setup.now.max c.args.block.now place now c.in-Some.found.word c.is_left_at-begins.result c.closes.result c.decode-ins.result c.room_after-block.result c.in-Some.found.region c.exec-done.result (done.Fault c.in-Fault.kind) c.exec-done.new.cpu c.exec-done.new.mem p.report c.count.new.report
    c.in-Fault.is c.in-Some.ensures.word c.exec-done.ensures.step (c.is_left_at-begins.ensures place now refl lies) c.decode-ins.ensures.value (c.closes.ensures c.exec-done.new.cpu c.exec-done.new.mem)
    c.room_after-block.ensures c.in-Some.ensures.region c.in_ok-count.ensures c.requires.ready.tool in
    finishes-fault w c.args.setup.now.tool c.args.setup.now.max c.args.block.now after place now (state c.exec-done.new.cpu c.exec-done.new.mem p.io) c.in-Some.found.word c.is_left_at-begins.result c.in-Fault.kind c.exec-done.new.cpu c.exec-done.new.mem p.report c.count.new.report files c.args.maps.now.items did refl

pub returns-in-Asked-clause-steps : goal.returns-in-Asked-clause-steps
returns-in-Asked-clause-steps c = λ place lies.
    let w = one_module c.args.elfs.now c.args.base in
    let p = c.args.process.now in
    let now : State = state_of p in
    let files = p.file ∷ [] in
    let after : OpenBlock = record { room = c.room_after-block.result; region = Some c.in-Some.found.region } in
    let did : Did c.args.setup.now.tool c.args.setup.now.max c.args.block.now after place now c.in-Some.found.word c.is_left_at-begins.result done.Asked c.exec-done.new.cpu c.exec-done.new.mem p.report c.count.new.report =
    did-so c.args.setup.now.tool c.args.setup.now.max c.args.block.now place now c.in-Some.found.word c.is_left_at-begins.result c.closes.result c.decode-ins.result c.room_after-block.result c.in-Some.found.region c.exec-done.result done.Asked c.exec-done.new.cpu c.exec-done.new.mem p.report c.count.new.report
    c.in-Asked.is c.in-Some.ensures.word c.exec-done.ensures.step (c.is_left_at-begins.ensures place now refl lies) c.decode-ins.ensures.value (c.closes.ensures c.exec-done.new.cpu c.exec-done.new.mem)
    c.room_after-block.ensures c.in-Some.ensures.region c.in_ok-count.ensures c.requires.ready.tool in
    let next : State = state c.answer.new.cpu c.answer.new.mem c.answer.new.io in
    IfOk-weaker c.answer.result _ _
    (λ end answers. steps-call w c.args.setup.now.tool c.args.setup.now.max c.args.block.now after place now next c.in-Some.found.word c.is_left_at-begins.result c.exec-done.new.cpu c.exec-done.new.mem p.report c.count.new.report files (c.answer.new.file ∷ []) c.args.maps.now.items c.answer.new.maps.items end
    did answers)
    c.answer.ensures.answers

pub returns-in-Asked-clause-ready : goal.returns-in-Asked-clause-ready
returns-in-Asked-clause-ready c = IfOk-weaker c.answer.result _ _
    (λ end both is. record {
      known = both.0;
      file = c.answer.ensures.file;
      aligned = both.1 is;
      tool = ap (λ r. r.tool) c.in_ok-count.ensures ∙ c.requires.ready.tool;
      small = small-after c.args.process.now.report.tool c.args.process.now.cpu c.is_left_at-begins.result c.decode-ins.result c.args.process.now.report c.count.new.report c.args.process.now.left (2 ^ 64) c.in_ok-count.ensures c.requires.fuel c.requires.ready.small;
    })
    (both-ok c.answer.result _ _ c.answer.ensures.known c.answer.ensures.aligned)
