-- What the kinds of types are, beside the usual steps on lists.
use Rattle.std.proofs.lemmas.Grind.{common_steps}
use Rattle.c_types.specs.TypeLaws.{type_kinds}

pub ruleset type_steps = (common_steps, type_kinds)
