-- Types of parts along paths.
use Rattle.std.proofs.Common.{◌≡◌, List, [], ◌∷◌, ◌++◌, map, reverse, ◌∙◌, ap}
use Rattle.std.proofs.lemmas.List.{map-append, reverse-append}
use Rattle.c_types.specs.TypeLaws.{type_kinds}
use Rattle.core_cells.specs.declared.values.Step.{Step}
use Rattle.core_cells.specs.Forms.{plain_step, plain_path}

pub plain_path-append : (outer : List Step) (step : Step) → plain_path (outer ++ step ∷ []) ≡ plain_step step ∷ plain_path outer
plain_path-append outer step = ap reverse (map-append plain_step outer (step ∷ [])) ∙ reverse-append (map plain_step outer) (plain_step step ∷ [])

pub ruleset part_steps = (type_kinds, plain_path-append)
