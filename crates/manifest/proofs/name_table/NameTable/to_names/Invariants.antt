use Rattle.std.proofs.Common.{◌≡◌, ◌++◌, drop, map}
use Rattle.manifest.proofs.name_table.NameTable.to_names.Given as goal

-- the names so far, and those of what is left
abbrev pub invariant-loop-name : goal.invariant-loop-name
invariant-loop-name l = l.names.items ++ map (λ k. k.items) (drop l.name-index l.name-items) ≡ map (λ k. k.items) l.name-items
