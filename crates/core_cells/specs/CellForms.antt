-- What is held at a path, and what writing leaves; by the steps from the outside in.
use Rattle.std.specs.Prelude.{ℕ, ◌==◌, Bool, true, false, List, [], ◌∷◌, ◌++◌, Some, reverse, if◌then◌else◌}
use Rattle.core_meaning.specs.Values as plain
use Rattle.core_cells.specs.declared.cells.Held.{Held}
use Rattle.core_cells.specs.declared.cells.Held.TheVariants as held
use Rattle.core_cells.specs.Forms.{Inner, rest_in, inner_cells}

abbrev pub held_cells : Held → Inner
held_cells (held.Rest rest) = rest_in rest
held_cells (held.Cells c) = inner_cells c.now

-- what stands behind one more step
abbrev pub behind_step : plain.Step → Inner → Inner
behind_step step f steps = f (step ∷ steps)

-- what is held below some steps
abbrev pub below : List plain.Step → Inner → Inner
below [] f = f
below (step ∷ steps) f = below steps (behind_step step f)

-- the cells with others in the place of one part's
abbrev pub with_part : ℕ → Inner → Inner → Inner
with_part k new f [] = f []
with_part k new f (plain.part j ∷ steps) = if j == k then new steps else f (plain.part j ∷ steps)
with_part k new f (plain.behind ∷ steps) = f (plain.behind ∷ steps)

-- the cells with a value in the place of what was held
abbrev pub with_held : plain.Scalar → Inner → Inner
with_held v f [] = Some v
with_held v f (step ∷ steps) = f (step ∷ steps)

abbrev pub with_value : plain.Value → Inner → Inner
with_value plain.nothing f = f
with_value (plain.scalar v) f = with_held v f
with_value (plain.whole cells) f = λ steps. cells (reverse steps)

-- the cells with a value in the place of what was held below some steps; nothing is written behind an object
abbrev pub placed : List plain.Step → plain.Value → Inner → Inner
placed [] v f = with_value v f
placed (plain.part k ∷ steps) v f = with_part k (placed steps v (behind_step (plain.part k) f)) f
placed (plain.behind ∷ steps) v f = f

-- nothing of a path leads behind an object
abbrev pub only_parts : List plain.Step → Bool
only_parts [] = true
only_parts (plain.part k ∷ steps) = only_parts steps
only_parts (plain.behind ∷ steps) = false

-- cells by paths whose last step comes first
abbrev pub by_paths : Inner → plain.Cells
by_paths f path = f (reverse path)

-- the cells of what is at a path
abbrev pub cells_at : plain.Cells → plain.Path → plain.Cells
cells_at cells path steps = cells (steps ++ path)
