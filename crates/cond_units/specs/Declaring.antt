-- What comes of declarations at file scope, as a configuration sees it (ISO/IEC 9899:2011, 6.7, 6.9.2).
use Rattle.std.specs.Prelude.{◌≡◌, ℕ, Bool, true, false, ◌&&◌, ◌||◌, List, [], Option, Some, None, is_some, ⊤}
use Rattle.c_text.specs.Token.{PlainToken}
use Rattle.c_types.specs.Types.{PlainType, structure}
use Rattle.c_tree.specs.Trees.{PlainTree, PlainTrees, leaf, node}
use Rattle.c_tree.specs.Grammar as grammar
use Rattle.tree_derivations.specs.Derivations.{Derivation}
use Rattle.conditional.specs.Judgements as judgements
use Rattle.conditional.specs.declared.outcomes.Outcomes.{Outcomes}
use Rattle.core_meaning.specs.Checking.{Checked, fine, broken, ◌>>=◌, or_broken}
use Rattle.core_meaning.specs.Entities.{Struct, Scope, Sort, variable}
use Rattle.core_meaning.specs.Declarations.{name_in}
use Rattle.core_meaning.specs.UnitNames.{Storage, UnitState, with_name, with_scope, judged_global, defined_object, declared_object}
use Rattle.operand_types.specs.OperandTypes.{renumbered}
use Rattle.operand_rules.specs.declared.operands.Refused.{Refused}
use Rattle.type_tables.specs.declared.entries.DeclaredType.{DeclaredType}
use Rattle.type_tables.specs.Tables.{Tables, object}
use Rattle.type_tables.specs.Follows.{IsThere, Follows, SortFollows, SortIsThere}
use Rattle.type_tables.specs.Numbers.{FollowsBy}
use Rattle.cond_declarators.specs.Types.{ShowsType}
use Rattle.name_declarations.specs.Names.{Named}
use Rattle.cond_units.specs.Definitions.{is_unfit}
use Rattle.cond_units.specs.Values.{is_value_refused}
use Rattle.cond_units.specs.Seen.{SeenUnit}
use Rattle.type_tables.specs.Definitions.{plain_definitions}

-- What is seen says what is visible at a place of file scope and what has been defined, where structs have these numbers.
pub record IsUnit (by : ℕ → ℕ) (seen : SeenUnit) (unit : UnitState) : Type 0 where
  pub tables : FollowsBy by seen.tables unit.scope
  pub defined : seen.defined ≡ plain_definitions unit.defined
  pub outside : unit.scope.blocks ≡ []

-- what is seen goes on to say so, where the same structs are visible; or the declaration is refused
abbrev pub GoesOn : (ℕ → ℕ) → List Struct → Checked UnitState → Bool → SeenUnit → Type 0
GoesOn by structs (fine unit bindings) refused seen = (refused ≡ false) × IsUnit by seen unit × (unit.scope.structs ≡ structs)
GoesOn by structs other refused seen = refused ≡ true

-- an initialiser, if there is one, is derived from the grammar
abbrev pub IsInitialiser : Option PlainTree → Type 0
IsInitialiser None = ⊤
IsInitialiser (Some tree) = Derivation grammar.initialiser tree

-- what is judged of a declarator behind a type, before the rest of a unit
abbrev pub Judged : Type 0
Judged = UnitState → PlainType → Checked UnitState

-- the object of a name whose declarator gives it its type
abbrev pub object_of_type : ℕ → Storage → PlainToken → Option PlainTree → PlainTrees → Judged
object_of_type globals storage name initialiser rest unit ty = do
  scope ← with_name unit.scope name (variable ty) storage
  judged ← judged_global storage (is_some initialiser) scope ty name rest
  defined_object globals (with_scope unit scope) storage ty name initialiser

-- the object of a declarator that gives it this name
abbrev pub object_of_name : ℕ → Storage → PlainTree → PlainToken → Option PlainTree → PlainTrees → Judged
object_of_name globals storage (node kind parts) name initialiser rest unit ty = declared_object globals unit storage ty kind parts name initialiser rest
object_of_name globals storage (leaf token) name initialiser rest unit ty = broken

-- the name in a declarator
abbrev pub name_of : PlainTree → Option PlainToken
name_of (leaf token) = None
name_of (node kind parts) = name_in parts

-- the object of a declarator
abbrev pub object_in : ℕ → Storage → PlainTree → Option PlainTree → PlainTrees → Judged
object_in globals storage tree initialiser rest unit ty =
    or_broken (name_of tree) >>= (λ name. object_of_name globals storage tree name initialiser rest unit ty)

-- The name of an object of this type is declared where a condition is true. It is refused where it differs from what it stands for already, where the
-- object may not be of the type, and where its first value is refused.
pub record Names (storage : Storage) (ty : PlainType) (name : PlainToken) (initialiser : Option PlainTree) (rest : PlainTrees) (here : Bool) (old new : Tables) (refused : Bool) : Type 0 where
  pub differs : Bool
  pub unfit : Bool
  pub invalid : Bool
  pub refused_is : refused ≡ (differs || (here && (unfit || invalid)))
  pub elsewhere : here ≡ false → (new ≡ old) × (differs ≡ false)
  pub named :
      here ≡ true → (scope : Scope) (follows : Follows old scope) (s : Sort) → SortFollows follows.by old.signatures s (object ty) → SortIsThere scope.structs s
      → Named follows.by (with_name scope name s storage) differs new
  pub unfit_is : ((number : ℕ) → ty ≡ structure number → new.declared number ≡ true) → unfit ≡ is_unfit new storage (is_some initialiser) ty rest
  pub invalid_is :
      (scope : Scope) (follows : Follows new scope) (t : PlainType) → ty ≡ renumbered follows.by t → IsThere scope.structs t → scope.blocks ≡ [] → IsInitialiser initialiser → (globals : ℕ)
      → invalid ≡ is_value_refused scope globals t name initialiser

-- What is judged of the object's own type is declared.
pub record DeclaresTyped (ty : PlainType) (judged : Judged) (Ready : Type 0) (old new : SeenUnit) (refused : Bool) : Type 0 where
  pub goes_on :
      (by : ℕ → ℕ) (unit : UnitState) (whole : PlainType) → IsUnit by old unit → ty ≡ renumbered by whole → IsThere unit.scope.structs whole → Ready
      → GoesOn by unit.scope.structs (judged unit whole) refused new

-- What is judged is declared, where this is the type before the declarator.
pub record Declares (on : ℕ → Bool) (base : Outcomes DeclaredType Refused) (judged : Judged) (Ready : Type 0) (old new : SeenUnit) (refused : Bool) : Type 0 where
  pub goes_on :
      (by : ℕ → ℕ) (unit : UnitState) (ty : PlainType) → IsUnit by old unit → IsThere unit.scope.structs ty → ShowsType on (judgements.fine (renumbered by ty)) base → Ready
      → GoesOn by unit.scope.structs (judged unit ty) refused new
