use Rattle.host_text.proofs.refusals.refuse_manifest.Goals as goal

pub returns-clause-whole : goal.returns-clause-whole
returns-clause-whole g c = let h = c.print_five.ensures.whole in rw (c.as_bytes-word.ensures.value, c.manifest_word.ensures, c.manifest_key.ensures) at h

pub returns-clause-front : goal.returns-clause-front
returns-clause-front g c = let h = c.print_five.ensures.front in rw (c.as_bytes-word.ensures.value, c.manifest_word.ensures, c.manifest_key.ensures) at h
