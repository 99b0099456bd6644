-- That initialisers are refused so; the laws are the contracts of functions of this crate.
use Rattle.std.specs.Prelude.{◌≡◌, ℕ, Option, None}
use Rattle.c_text.specs.Token.{PlainToken}
use Rattle.c_types.specs.Types.{PlainType}
use Rattle.c_tree.specs.declared.kinds.Kind.TheVariants as k
use Rattle.c_tree.specs.Trees.{PlainTree, PlainTrees, node}
use Rattle.c_tree.specs.Grammar.{expression, initialiser}
use Rattle.tree_derivations.specs.Derivations.{Derivation}
use Rattle.core_meaning.specs.Checking.{◌>>=◌, or_broken}
use Rattle.core_meaning.specs.Values.{Path}
use Rattle.core_meaning.specs.Entities.{Scope}
use Rattle.core_meaning.specs.Expressions.{text_bytes}
use Rattle.core_meaning.specs.Constancy.{initial, value_initial, text_initial}
use Rattle.operand_types.specs.OperandTypes.{renumbered}
use Rattle.statement_readings.specs.Walks.{is_refused}
use Rattle.type_tables.specs.Tables.{Tables, known_in}
use Rattle.type_tables.specs.Follows.{IsThere, Follows}
use Rattle.cond_initialisers.specs.Refusals.{Asked, by_types, refuses, members_in}

-- Expressions are refused exactly where what they give is, of a local or of one of so many globals.
pub record AreRefused (by : ℕ → ℕ) (scope : Scope) (globals : Option ℕ) (asked : Asked) : Type 0 where
  pub values : (level : ℕ) (tree : PlainTree) → Derivation (expression level) tree → (ty : PlainType) (path : Path) (first : PlainToken)
      → asked.unfit tree (renumbered by ty) ≡ is_refused (value_initial scope globals ty path tree first)
  pub texts : (parts : PlainTrees) → Derivation (expression 1) (node k.Texts parts) → (element : PlainType) (count : ℕ) (path : Path) (first : PlainToken)
      → asked.without_room (node k.Texts parts) count ≡ is_refused (or_broken (text_bytes parts) >>= (λ bytes. text_initial element count path bytes first))

-- For a local it is enough to ask for types, whatever numbers structs have.
abbrev pub LocalsAreRefusedByTypes : Type 0
LocalsAreRefusedByTypes = (t : Tables) (scope : Scope) (f : Follows t scope) → AreRefused f.by scope None (by_types (known_in t))

-- An initialiser is refused exactly where what it gives is, if its expressions are, whatever numbers structs have.
abbrev pub InitialisersAreRefused : Type 0
InitialisersAreRefused =
    (t : Tables) (scope : Scope) (f : Follows t scope) (globals : Option ℕ) (asked : Asked) → AreRefused f.by scope globals asked
    → (tree : PlainTree) → Derivation initialiser tree → (ty : PlainType) → IsThere scope.structs ty → (path : Path) (behind : PlainToken)
    → refuses asked (members_in t) tree (renumbered f.by ty) ≡ is_refused (initial scope globals ty path tree behind)
