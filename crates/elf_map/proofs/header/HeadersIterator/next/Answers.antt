use Rattle.std.proofs.Common.{◌≡◌, ◌+◌, ◌-◌, ◌∙◌, ◌∷◌, length, ap, sym, arith}
use Rattle.elf_map.specs.Elf.{headers_from}
use Rattle.elf_map.proofs.HeaderLemmas.{headers_from-none, headers_from-some, length-headers_from}
use Rattle.elf_map.proofs.header.HeadersIterator.next.Goals as goal

pub returns-then-self-eq0-clause-steps : goal.returns-then-self-eq0-clause-steps
returns-then-self-eq0-clause-steps c =
    let none = headers_from-none c.self.inside.file.now c.self.inside.at c.self.inside.count c.if-self-eq0.true in
    (sym c.self.view_is ∙ none, sym c.self.view_is ∙ none)

pub returns-clause-steps : goal.returns-clause-steps
returns-clause-steps c =
    sym c.self.view_is
    ∙ (headers_from-some c.self.inside.file.now c.self.inside.at c.self.inside.count (c.self.inside.count - 1) (omega arith)
    ∙ ap (λ h. h ∷ headers_from c.self.inside.file.now (c.self.inside.at + 32) (c.self.inside.count - 1)) (sym c.header_at-header.ensures))

pub returns-clause-goes : goal.returns-clause-goes
returns-clause-goes c =
    let before : length c.args.self.now ≡ c.self.inside.count = ap length (sym c.self.view_is) ∙ length-headers_from c.self.inside.file.now c.self.inside.at c.self.inside.count in
    let after = length-headers_from c.self.inside.file.now (c.self.inside.at + 32) (c.self.inside.count - 1) in
    search (arith, before, after)
