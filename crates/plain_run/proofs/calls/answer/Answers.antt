use Rattle.std.proofs.Common.{◌≡◌, ◌%◌, ◌∷◌, [], ap, subst, sym, ◌∙◌}
use Rattle.engine.specs.Standing.{state}
use Rattle.plain_run.specs.Known.{AreKnown}
use Rattle.plain_run.specs.Plain.{one_module}
use Rattle.plain_run.proofs.Behind.{GoesBehind, ends-exit, ends-full, goes-replace, aligned-behind, mapped-kept, unmaps-mapped}
use Rattle.plain_run.proofs.calls.answer.Goals as goal

pub map-requires-clause-known : goal.map-requires-clause-known
map-requires-clause-known c =
    subst (AreKnown c.args.elfs.now c.args.base) (sym (mapped-kept (state c.args.cpu.now c.args.mem.now c.args.io.now) c.in_ok-span.field-0 c.ask.new.cpu c.ask.new.mem c.ask.new.io c.in_ok-span.ensures.called)) c.requires.known

pub unmap-requires-clause-known : goal.unmap-requires-clause-known
unmap-requires-clause-known c =
    subst (AreKnown c.args.elfs.now c.args.base) (sym (mapped-kept (state c.args.cpu.now c.args.mem.now c.args.io.now) c.in_ok-span.field-0 c.ask.new.cpu c.ask.new.mem c.ask.new.io c.in_ok-span.ensures.called)) c.requires.known

pub unmap-requires-clause-mapped : goal.unmap-requires-clause-mapped
unmap-requires-clause-mapped c =
    unmaps-mapped (state c.args.cpu.now c.args.mem.now c.args.io.now) c.in_ok-span.field-0 c.in-Unmap.module c.ask.new.cpu c.ask.new.mem c.ask.new.io c.in-Unmap.is c.in_ok-span.ensures.called

pub returns-in-Back-clause-known : goal.returns-in-Back-clause-known
returns-in-Back-clause-known c =
    subst (AreKnown c.args.elfs.now c.args.base) (sym (mapped-kept (state c.args.cpu.now c.args.mem.now c.args.io.now) c.in_ok-span.field-0 c.ask.new.cpu c.ask.new.mem c.ask.new.io c.in_ok-span.ensures.called)) c.requires.known

pub returns-in-Exit-clause-known : goal.returns-in-Exit-clause-known
returns-in-Exit-clause-known c =
    subst (AreKnown c.args.elfs.now c.args.base) (sym (mapped-kept (state c.args.cpu.now c.args.mem.now c.args.io.now) c.in_ok-span.field-0 c.ask.new.cpu c.ask.new.mem c.ask.new.io c.in_ok-span.ensures.called)) c.requires.known

pub returns-in-OutputFull-clause-known : goal.returns-in-OutputFull-clause-known
returns-in-OutputFull-clause-known c =
    subst (AreKnown c.args.elfs.now c.args.base) (sym (mapped-kept (state c.args.cpu.now c.args.mem.now c.args.io.now) c.in_ok-span.field-0 c.ask.new.cpu c.ask.new.mem c.ask.new.io c.in_ok-span.ensures.called)) c.requires.known

pub returns-in-Replace-clause-known : goal.returns-in-Replace-clause-known
returns-in-Replace-clause-known c =
    subst (AreKnown c.args.elfs.now c.args.base) (sym (mapped-kept (state c.args.cpu.now c.args.mem.now c.args.io.now) c.in_ok-span.field-0 c.ask.new.cpu c.ask.new.mem c.ask.new.io c.in_ok-span.ensures.called)) c.requires.known

pub returns-in-Back-clause-aligned : goal.returns-in-Back-clause-aligned
returns-in-Back-clause-aligned c = λ is.
    let behind : c.ask.new.cpu.pc % 4 ≡ 0 =
    aligned-behind (state c.args.cpu.now c.args.mem.now c.args.io.now) c.in_ok-span.field-0 c.ask.new.cpu c.ask.new.mem c.ask.new.io c.requires.aligned
    (subst GoesBehind (sym c.in-Back.is) tt) c.in_ok-span.ensures.called in
    behind

pub returns-in_ok-map-in-Map-clause-aligned : goal.returns-in_ok-map-in-Map-clause-aligned
returns-in_ok-map-in-Map-clause-aligned c = λ is.
    let behind : c.ask.new.cpu.pc % 4 ≡ 0 =
    aligned-behind (state c.args.cpu.now c.args.mem.now c.args.io.now) c.in_ok-span.field-0 c.ask.new.cpu c.ask.new.mem c.ask.new.io c.requires.aligned
    (subst GoesBehind (sym c.in-Map.is) tt) c.in_ok-span.ensures.called in
    ap (λ n. n % 4) c.map.ensures.pc ∙ behind

pub returns-in-Unmap-clause-aligned : goal.returns-in-Unmap-clause-aligned
returns-in-Unmap-clause-aligned c = λ is.
    let behind : c.ask.new.cpu.pc % 4 ≡ 0 =
    aligned-behind (state c.args.cpu.now c.args.mem.now c.args.io.now) c.in_ok-span.field-0 c.ask.new.cpu c.ask.new.mem c.ask.new.io c.requires.aligned
    (subst GoesBehind (sym c.in-Unmap.is) tt) c.in_ok-span.ensures.called in
    ap (λ n. n % 4) c.unmap.ensures.pc ∙ behind

pub returns-in-Replace-clause-aligned : goal.returns-in-Replace-clause-aligned
returns-in-Replace-clause-aligned c = λ is.
    let behind : c.ask.new.cpu.pc % 4 ≡ 0 =
    aligned-behind (state c.args.cpu.now c.args.mem.now c.args.io.now) c.in_ok-span.field-0 c.ask.new.cpu c.ask.new.mem c.ask.new.io c.requires.aligned
    (subst GoesBehind (sym c.in-Replace.is) tt) c.in_ok-span.ensures.called in
    ap (λ n. n % 4) c.replace.ensures.pc ∙ behind

pub returns-in-Exit-clause-answers : goal.returns-in-Exit-clause-answers
returns-in-Exit-clause-answers c =
    ends-exit (state c.args.cpu.now c.args.mem.now c.args.io.now) c.in_ok-span.field-0 c.in-Exit.status c.ask.new.cpu c.ask.new.mem c.ask.new.io c.args.maps.now.items
    c.in-Exit.is c.in_ok-span.ensures.called

pub returns-in-OutputFull-clause-answers : goal.returns-in-OutputFull-clause-answers
returns-in-OutputFull-clause-answers c =
    ends-full (state c.args.cpu.now c.args.mem.now c.args.io.now) c.in_ok-span.field-0 c.ask.new.cpu c.ask.new.mem c.ask.new.io c.args.maps.now.items
    c.in-OutputFull.is c.in_ok-span.ensures.called

pub returns-in-Replace-clause-answers : goal.returns-in-Replace-clause-answers
returns-in-Replace-clause-answers c =
    goes-replace (one_module c.args.elfs.now c.args.base) (state c.args.cpu.now c.args.mem.now c.args.io.now) (state c.replace.new.cpu c.ask.new.mem c.ask.new.io) c.in_ok-span.field-0
    c.in-Replace.module c.in-Replace.other c.ask.new.cpu c.ask.new.mem c.ask.new.io (c.args.file.now ∷ []) (c.replace.new.file ∷ []) c.args.maps.now.items c.in-Replace.is c.in_ok-span.ensures.called
    (c.replace.ensures.state c.args.base c.ask.new.mem c.ask.new.io) (c.replace.ensures.files c.args.base)
