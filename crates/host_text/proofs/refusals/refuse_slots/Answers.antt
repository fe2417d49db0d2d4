use Rattle.host_text.proofs.refusals.refuse_slots.Goals as goal

pub returns-clause-whole : goal.returns-clause-whole
returns-clause-whole g c = let h = c.print_five.ensures.whole in rw (c.as_bytes.ensures.value, c.format-number.ensures.text) at h
