use Rattle.std.proofs.Common.{◌≡◌, map, take}
use Rattle.macro_table.proofs.definitions.copied_names.Given as goal

abbrev pub invariant-loop-name : goal.invariant-loop-name
invariant-loop-name l = map (λ n. n.items) l.copies.items ≡ map (λ n. n.items) (take l.name-index l.names)
