-- That expressions select so; each law is the contract of a function of this crate.
use Rattle.std.specs.Prelude.{◌≡◌, ℕ, true, List, length, map, filter, Option, Some, None}
use Rattle.c_names.specs.Names.{is_identifier}
use Rattle.c_text.specs.Token.{PlainToken}
use Rattle.c_types.specs.Types.{PlainType}
use Rattle.c_tree.specs.Trees.{PlainTree, spelled}
use Rattle.c_tree.specs.Grammar.{expression, initialiser}
use Rattle.tree_derivations.specs.Derivations.{Derivation}
use Rattle.core_meaning.specs.Checking.{Entity, member_entity, Binding, fine}
use Rattle.core_meaning.specs.Entities.{FileName, Scope}
use Rattle.core_meaning.specs.Typing.{Operand}
use Rattle.core_meaning.specs.Expressions.{judged}
use Rattle.core_meaning.specs.Constancy.{Initial, initial}
use Rattle.core_meaning.specs.Values.{Path}
use Rattle.bindings.specs.Bindings.{is_name}
use Rattle.bindings.specs.Laws.{ArePieces}
use Rattle.operand_types.specs.Laws.{KeepsApart}
use Rattle.expression_types.specs.Known.{Known, IsKnown}
use Rattle.selections.specs.Selections.{structures_selected}

-- the struct of a member, where structs have these numbers
abbrev pub structure_of_entity : (ℕ → ℕ) → Entity → Option ℕ
structure_of_entity by (member_entity number member) = Some (by number)
structure_of_entity by other = None

abbrev pub structure_bound : (ℕ → ℕ) → Binding → Option ℕ
structure_bound by b = structure_of_entity by b.entity

-- names of file scope are spelt as names
abbrev pub HasNames : Scope → Type 0
HasNames scope = (name : List ℕ) (n : FileName) → scope.file_names name ≡ Some n → is_identifier name ≡ true

-- Where an expression is judged well, its identifiers are bound to members of these structs, in the order of the text, and those that select
-- nothing to no member, whatever numbers structs have.
abbrev pub SelectionsAreJudged : Type 0
SelectionsAreJudged =
    (by : ℕ → ℕ) → KeepsApart by → (scope : Scope) → HasNames scope → (known : Known) → IsKnown by scope known
    → (level : ℕ) (tree : PlainTree) → Derivation (expression level) tree → ArePieces (spelled tree) → (operand : Operand) (bindings : List Binding)
    → judged scope tree ≡ fine operand bindings → structures_selected known tree ≡ map (structure_bound by) bindings

-- So are those of an initialiser, whatever it initialises.
abbrev pub InitialisersSelectSo : Type 0
InitialisersSelectSo =
    (by : ℕ → ℕ) → KeepsApart by → (scope : Scope) → HasNames scope → (known : Known) → IsKnown by scope known
    → (tree : PlainTree) → Derivation initialiser tree → ArePieces (spelled tree) → (globals : Option ℕ) (ty : PlainType) (path : Path) (behind : PlainToken)
    → (parts : List Initial) (bindings : List Binding)
    → initial scope globals ty path tree behind ≡ fine parts bindings → structures_selected known tree ≡ map (structure_bound by) bindings

-- each identifier is told of, and nothing else
abbrev pub EachIdentifierIsToldOf : Type 0
EachIdentifierIsToldOf = (known : Known) (tree : PlainTree) → length (structures_selected known tree) ≡ length (filter is_name (spelled tree))
