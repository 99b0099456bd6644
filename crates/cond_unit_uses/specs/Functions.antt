-- What is noted of the definition of a function behind its declarations, as a configuration sees it (ISO/IEC 9899:2011, 6.9.1).
use Rattle.std.specs.Prelude.{◌≡◌, ℕ, Bool, true, false, List, ◌++◌, Some}
use Rattle.c_text.specs.Token.{PlainToken}
use Rattle.c_types.specs.Types.{PlainType}
use Rattle.c_tree.specs.declared.kinds.Kind.{Kind}
use Rattle.c_tree.specs.declared.kinds.Kind.TheVariants as k
use Rattle.c_tree.specs.declared.terminals.Terminal.TheVariants as t
use Rattle.c_tree.specs.Trees.{PlainTree, PlainTrees, leaf, node, none, more, spelled}
use Rattle.c_tree.specs.Grammar.{block, file_item}
use Rattle.tree_derivations.specs.Derivations.{Derivation}
use Rattle.bindings.specs.Laws.{ArePieces}
use Rattle.conditional.specs.Judgements as judgements
use Rattle.core_meaning.specs.Checking.{Binding, fine}
use Rattle.core_meaning.specs.Entities.{Scope}
use Rattle.core_meaning.specs.Declarations.{behind_word, Parameter, parameters_of}
use Rattle.core_meaning.specs.Statements.{JudgedItems}
use Rattle.core_meaning.specs.UnitNames.{UnitState, parameter_types, judged_body, judged_item}
use Rattle.operand_types.specs.OperandTypes.{outcome_as}
use Rattle.selections.specs.Laws as selections
use Rattle.member_uses.specs.Uses.{uses_in}
use Rattle.type_tables.specs.Numbers.{FollowsBy}
use Rattle.cond_parameters.specs.Parameters.{IsList}
use Rattle.cond_member_uses.specs.Noted.{Noted, HasNames}
use Rattle.cond_types.specs.Definitions.{inside}

-- The block of a function with this list of parameters, where its name is visible: if it is judged well there, its uses are noted.
pub record NotesBlock (list body : PlainTree) (old new : Noted) : Type 0 where
  pub notes :
      (by : ℕ → ℕ) (scope : Scope) (name : PlainToken) (parameters : List Parameter) (result : PlainType) (items : JudgedItems) (bindings : List Binding) → HasNames old.tables
      → FollowsBy by old.tables scope → IsList list → outcome_as (λ ps. ps) (parameters_of true scope (Some list) name) ≡ judgements.fine parameters → Derivation block body → ArePieces (spelled body)
      → judged_body (inside scope parameters) result (parameter_types parameters) body ≡ fine items bindings
      → new.uses ≡ old.uses ++ uses_in by body (judged_body (inside scope parameters) result (parameter_types parameters) body)

-- with such parts of the function's declarator
abbrev pub NotesDeclared : PlainTree → PlainTrees → Noted → Noted → Type 0
NotesDeclared body parts old new = (list : PlainTree) → behind_word t.OpenParenthesis parts ≡ Some list → NotesBlock list body old new

-- with the declarator alone in a list
abbrev pub NotesListed : PlainTree → PlainTrees → Noted → Noted → Type 0
NotesListed body list old new = (parts : PlainTrees) → list ≡ more (node k.FunctionDeclarator parts) none → NotesDeclared body parts old new

-- with such parts of the definition
abbrev pub NotesDefined : PlainTrees → Noted → Noted → Type 0
NotesDefined parts old new =
    (words body : PlainTree) (list : PlainTrees) → Derivation block body → parts ≡ more words (more (node k.Declarators list) (more body none)) → NotesListed body list old new

-- what is noted of a node by its parts
abbrev pub NotesNode : (PlainTrees → Noted → Noted → Type 0) → PlainTree → Noted → Noted → Type 0
NotesNode Does tree old new = (kind : Kind) (parts : PlainTrees) → tree ≡ node kind parts → Does parts old new

abbrev pub is_function : Kind → Bool
is_function k.Function = true
is_function kind = false

-- the definition of a function
abbrev pub is_definition : PlainTree → Bool
is_definition (leaf token) = false
is_definition (node kind parts) = is_function kind

-- An item, in what is visible behind it.
pub record NotesBehind (tree : PlainTree) (old new : Noted) : Type 0 where
  pub notes :
      (by : ℕ → ℕ) (globals : ℕ) (unit next : UnitState) (rest : PlainTrees) (bindings : List Binding) → selections.HasNames unit.scope → FollowsBy by old.tables next.scope
      → Derivation file_item tree → ArePieces (spelled tree) → judged_item globals unit tree rest ≡ fine next bindings
      → new.uses ≡ old.uses ++ uses_in by tree (judged_item globals unit tree rest)
