use Rattle.std.proofs.Common.{◌≡◌, ◌+◌, ◌-◌, map, Option, vec_len}
use Rattle.core_cells.specs.declared.values.Scalar.{Scalar}
use Rattle.core_cells.specs.Forms.{node_cells, inner_cells}
use Rattle.core_cells.proofs.cells.reach.Given as goal

abbrev pub invariant-loop-alloc : goal.invariant-loop-alloc
invariant-loop-alloc l =
    (held : Option Scalar) → node_cells held (map inner_cells l.parts.items) l.rest ≡ node_cells held (map inner_cells l.initial.parts.items) l.rest

abbrev pub decreases-loop-alloc : goal.decreases-loop-alloc
decreases-loop-alloc l = l.number + 1 - vec_len l.parts
