-- That function bodies are read so; the law is the contract of a function of this crate.
use Rattle.std.specs.Prelude.{◌≡◌, false, List}
use Rattle.c_types.specs.Types.{PlainType}
use Rattle.c_tree.specs.Trees.{PlainTree}
use Rattle.c_tree.specs.Grammar.{block}
use Rattle.tree_derivations.specs.Derivations.{Derivation}
use Rattle.core_meaning.specs.Entities.{Scope}
use Rattle.core_meaning.specs.UnitNames.{judged_body}
use Rattle.statement_readings.specs.Walks.{State, is_refused, walk_body}

abbrev pub starting : Scope → List PlainType → State
starting scope slots = record { scope = scope; slots = slots; refused = false }

-- The reading of a function's block is refused exactly where its judgement is.
abbrev pub BodiesAreRead : Type 0
BodiesAreRead =
    (result : PlainType) (scope : Scope) (slots : List PlainType) (tree : PlainTree) → Derivation block tree
    → (walk_body result tree (starting scope slots)).refused ≡ is_refused (judged_body scope result slots tree)
