-- What is judged of functions at file scope, by their declarators (ISO/IEC 9899:2011, 6.7.6.3).
use Rattle.std.specs.Prelude.{◌≡◌, ℕ, Bool, true, false, not, List, map, Option, Some}
use Rattle.c_text.specs.Token.{PlainToken}
use Rattle.c_types.specs.Types.{PlainType}
use Rattle.c_tree.specs.declared.kinds.Kind.TheVariants as k
use Rattle.c_tree.specs.declared.terminals.Terminal.TheVariants as t
use Rattle.c_tree.specs.Heights.{count_stars}
use Rattle.c_tree.specs.Trees.{PlainTree, PlainTrees, leaf, node}
use Rattle.c_tree.specs.Grammar.{Role, declarator}
use Rattle.tree_derivations.specs.Derivations.{Derivation}
use Rattle.core_meaning.specs.declared.refusals.TypeKind.TheVariants.{Redeclared, BadOperand}
use Rattle.core_meaning.specs.Checking.{file_entity, Checked, fine, broken, ◌>>=◌, give, unless_so, declares, or_broken}
use Rattle.core_meaning.specs.Entities.{Scope, function}
use Rattle.core_meaning.specs.Declarations.{name_in, behind_word, pointers, Parameter, parameters_of}
use Rattle.core_meaning.specs.UnitNames.{Storage, with_name, with_scope, may_be_function, parameter_types, signature_of, declared_function}
use Rattle.operand_types.specs.OperandTypes.{renumbered}
use Rattle.type_tables.specs.Follows.{AreThere}
use Rattle.cond_parameters.specs.Parameters.{IsList}
use Rattle.cond_units.specs.Declaring.{Judged}

-- a function's declarator is derived from the grammar
pub data IsFunctionDeclarator : PlainTree → Type 0 where
  of_function : {role : Role} {parts : PlainTrees} → Derivation (declarator role) (node k.FunctionDeclarator parts) → IsFunctionDeclarator (node k.FunctionDeclarator parts)

-- a list of parameters stands behind the parenthesis
pub record HasList (parts : PlainTrees) : Type 0 where
  pub list : PlainTree
  pub behind : behind_word t.OpenParenthesis parts ≡ Some list
  pub is_list : IsList list

-- ---- by what a declarator says

-- what is judged of a function by how many stars its declarator has, its name, and what stands behind the parenthesis
abbrev pub JudgedHead : Type 0
JudgedHead = ℕ → PlainToken → Option PlainTree → Judged

abbrev pub judged_parts : JudgedHead → PlainTrees → Judged
judged_parts judged parts unit ty = or_broken (name_in parts) >>= (λ name. judged (count_stars parts) name (behind_word t.OpenParenthesis parts) unit ty)

abbrev pub judged_declarator : JudgedHead → PlainTree → Judged
judged_declarator judged (leaf token) unit ty = broken
judged_declarator judged (node kind parts) unit ty = judged_parts judged parts unit ty

-- ---- declarations that define nothing

abbrev pub function_of_parts : Storage → PlainTrees → Option PlainTree → Judged
function_of_parts storage parts initialiser unit ty = or_broken (name_in parts) >>= (λ name. declared_function unit storage ty parts name initialiser)

-- the function that a declarator declares
abbrev pub function_in : Storage → PlainTree → Option PlainTree → Judged
function_in storage (leaf token) initialiser unit ty = broken
function_in storage (node kind parts) initialiser unit ty = function_of_parts storage parts initialiser unit ty

-- the function by its head, refused at its name if it has an initialiser
abbrev pub function_of_head : Storage → Bool → JudgedHead
function_of_head storage initialised stars name list unit ty = do
  bound ← declares (file_entity name.text)
  parameters ← (unless_so (may_be_function storage (pointers stars ty) (unit.scope.file_names name.text)) Redeclared name >>= (λ u. parameters_of false unit.scope list name))
  scope ← with_name unit.scope name (function (signature_of (pointers stars ty) parameters)) storage
  none_given ← unless_so (not initialised) BadOperand name
  give (with_scope unit scope)

-- the types of parameters, where structs have these numbers; or the list is refused
abbrev pub GivesTypes : (ℕ → ℕ) → Scope → Checked (List Parameter) → List PlainType → Bool → Type 0
GivesTypes by scope (fine ps bindings) types refused = (refused ≡ false) × (types ≡ map (renumbered by) (parameter_types ps)) × AreThere scope.structs (parameter_types ps)
GivesTypes by scope other types refused = refused ≡ true
