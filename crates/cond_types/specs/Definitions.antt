-- Definitions of functions, as a configuration sees them (ISO/IEC 9899:2011, 6.9.1).
use Rattle.std.specs.Prelude.{true, false, List, Some}
use Rattle.c_text.specs.Token.{PlainToken}
use Rattle.c_types.specs.Types.{PlainType}
use Rattle.c_tree.specs.Trees.{PlainTree, node}
use Rattle.c_tree.specs.Grammar.{block}
use Rattle.tree_derivations.specs.Derivations.{Derivation}
use Rattle.core_meaning.specs.declared.refusals.TypeKind.TheVariants.{Redeclared}
use Rattle.core_meaning.specs.Checking.{file_entity, Checked, broken, ◌>>=◌, give, unless_so, declares, in_function, or_broken}
use Rattle.core_meaning.specs.Entities.{Scope, function}
use Rattle.core_meaning.specs.Declarations.{name_in, pointers, based, Parameter, parameters_of, with_block}
use Rattle.core_meaning.specs.UnitNames.{UnitState, Storage, storage_of, with_name, with_scope, with_defined, with_parameters, function_body, parameter_types, signature_of, may_be_function, is_result, result_kind, judged_body, count_functions, defined_function}
use Rattle.cond_units.specs.Functions.{IsFunctionDeclarator, JudgedHead}

-- the definition of a function with these words, this declarator and this block
abbrev pub definition_of : PlainTree → PlainTree → PlainTree → UnitState → Checked UnitState
definition_of (node words_kind words) (node kind parts) body unit = do
  base ← based false unit.scope words
  name ← or_broken (name_in parts)
  in_function (count_functions unit.defined) (defined_function unit (storage_of words) base.ty parts name body)
definition_of words declarator body unit = broken

-- the declarator and the block are derived from the grammar
pub record IsDefinition (declarator body : PlainTree) : Type 0 where
  pub declares : IsFunctionDeclarator declarator
  pub has_block : Derivation block body

-- ---- by what the declarator says

-- the scope of a function's block
abbrev pub inside : Scope → List Parameter → Scope
inside scope parameters = with_parameters (with_block scope) 0 parameters

-- what is visible behind the function with this result, if its parameters, its name and its block aren't refused
abbrev pub behind_block : Storage → PlainToken → PlainTree → PlainTree → Scope → PlainType → Checked Scope
behind_block storage name list body scope result = do
  parameters ← parameters_of true scope (Some list) name
  behind ← with_name scope name (function (signature_of result parameters)) storage
  items ← judged_body (inside behind parameters) result (parameter_types parameters) body
  give behind

-- the definition by the function's head
abbrev pub definition_of_head : Storage → PlainTree → JudgedHead
definition_of_head storage body stars name list unit ty = in_function (count_functions unit.defined) (do
  bound ← declares (file_entity name.text)
  fits ← unless_so (is_result unit.scope (pointers stars ty)) (result_kind unit.scope storage (pointers stars ty) name (parameters_of true unit.scope list name)) name
  parameters ← (unless_so (may_be_function storage (pointers stars ty) (unit.scope.file_names name.text)) Redeclared name >>= (λ u. parameters_of true unit.scope list name))
  scope ← with_name unit.scope name (function (signature_of (pointers stars ty) parameters)) storage
  items ← judged_body (inside scope parameters) (pointers stars ty) (parameter_types parameters) body
  give (with_defined (with_scope unit scope) name.text (function_body items.slots items.core)))
