-- What comes of declarations of locals, as a configuration sees it (ISO/IEC 9899:2011, 6.7).
use Rattle.std.specs.Prelude.{◌≡◌, ℕ, Bool, true, false, ◌||◌, List, Option, Some, None, ⊤}
use Rattle.c_text.specs.Token.{PlainToken}
use Rattle.c_types.specs.Types.{PlainType}
use Rattle.c_tree.specs.declared.kinds.Kind.TheVariants as k
use Rattle.c_tree.specs.Trees.{PlainTree, PlainTrees, leaf, node}
use Rattle.c_tree.specs.Grammar as grammar
use Rattle.tree_derivations.specs.Derivations.{Derivation}
use Rattle.conditional.specs.Judgements as judgements
use Rattle.conditional.specs.declared.outcomes.Outcomes.{Outcomes}
use Rattle.core_meaning.specs.Checking.{Checked, fine, broken}
use Rattle.core_meaning.specs.Entities.{Struct, Scope}
use Rattle.core_meaning.specs.Declarations.{Locals, name_in, judged_object, local_initial, declared_local, judged_locals}
use Rattle.core_meaning.specs.Declarations as meaning
use Rattle.operand_types.specs.OperandTypes.{renumbered}
use Rattle.operand_rules.specs.declared.operands.Refused.{Refused}
use Rattle.statement_readings.specs.Walks.{is_refused}
use Rattle.type_tables.specs.Tables.{Tables}
use Rattle.type_tables.specs.Steps.{with_local}
use Rattle.type_tables.specs.declared.entries.DeclaredType.{DeclaredType}
use Rattle.type_tables.specs.Follows.{IsThere, FollowsInBlock}
use Rattle.type_tables.specs.Numbers.{FollowsInBlockBy}
use Rattle.cond_declarators.specs.Types.{ShowsType}
use Rattle.cond_statements.specs.Following.{Declared}
use Rattle.cond_statements.specs.Ready.{IsDerived}

-- an initialiser, if there is one, is derived from the grammar
abbrev pub IsInitialiser : Option PlainTree → Type 0
IsInitialiser None = ⊤
IsInitialiser (Some tree) = Derivation grammar.initialiser tree

-- A local of this type is declared. It is refused where its type or its initialiser is.
pub record IsDeclared (ty : PlainType) (name : PlainToken) (initialiser : Option PlainTree) (old new : Tables) (refused : Bool) : Type 0 where
  pub local : new ≡ with_local name.text ty old
  pub refused_is :
      (scope : Scope) (slot : ℕ) (follows : FollowsInBlock old scope) (whole : PlainType) → ty ≡ renumbered follows.follows.by whole → IsThere scope.structs whole → IsInitialiser initialiser
      → refused ≡ (is_refused (judged_object scope whole name) || is_refused (local_initial (meaning.with_local scope name.text slot whole) whole name initialiser))

-- the tables follow what is visible behind declarators, where the same structs are visible, or one is refused
abbrev pub GoesOn : (ℕ → ℕ) → List Struct → Checked Locals → Bool → Tables → Type 0
GoesOn by structs (fine locals bindings) refused t = (refused ≡ false) × FollowsInBlockBy by t locals.scope × (locals.scope.structs ≡ structs)
GoesOn by structs other refused t = refused ≡ true

-- what is judged in each scope that the tables follow is declared, where this is the type before the declarators and the scope is ready
pub record Declares (on : ℕ → Bool) (base : Outcomes DeclaredType Refused) (judged : Scope → List PlainType → PlainType → Checked Locals) (Ready : Scope → Type 0) (old new : Tables) (refused : Bool) : Type 0 where
  pub goes_on :
      (scope : Scope) (slots : List PlainType) (ty : PlainType) (follows : FollowsInBlock old scope) → IsThere scope.structs ty → ShowsType on (judgements.fine (renumbered follows.follows.by ty)) base
      → Ready scope → GoesOn follows.follows.by scope.structs (judged scope slots ty) refused new

-- a declaration with these parts is declared in each scope that the tables follow
pub record DeclaresLocals (parts : PlainTrees) (old new : Tables) (refused : Bool) : Type 0 where
  pub declared :
      (scope : Scope) (slots : List PlainType) (follows : FollowsInBlock old scope) → IsDerived (node k.LocalDeclaration parts)
      → Declared follows.follows.by (judged_locals scope slots parts) refused new

-- ---- declarators

-- the name in a declarator
abbrev pub name_of : PlainTree → Option PlainToken
name_of (leaf token) = None
name_of (node kind parts) = name_in parts

-- the local of a declarator that gives it this name
abbrev pub local_in : Scope → List PlainType → PlainType → PlainTree → PlainToken → Option PlainTree → Checked Locals
local_in scope slots ty (node kind parts) name initialiser = declared_local scope slots ty kind parts name initialiser
local_in scope slots ty (leaf token) name initialiser = broken
