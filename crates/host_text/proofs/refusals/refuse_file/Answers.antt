use Rattle.host_text.proofs.refusals.refuse_file.Goals as goal

pub returns-clause-whole : goal.returns-clause-whole
returns-clause-whole g c = let h = c.print_five.ensures.whole in rw c.items.ensures at h
