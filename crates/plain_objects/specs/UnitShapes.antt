-- The parts of items.
use Rattle.std.proofs.Common.{◌≡◌, ℕ, List, refl}
use Rattle.c_tree.specs.declared.kinds.Kind.TheVariants as k
use Rattle.c_tree.specs.Trees.{PlainTrees, leaf, node, none, more}
use Rattle.core_meaning.specs.UnitNames.{completes}
use Rattle.plain_objects.specs.Completion.{first_names}

pub completes_first : (tag : List ℕ) (parts : PlainTrees) → completes tag (node k.StructDefinition parts) ≡ first_names tag parts
completes_first tag none = refl
completes_first tag (more (leaf token) rest) = refl
completes_first tag (more (node kind words) rest) = refl

pub ruleset completing = (completes_first)
