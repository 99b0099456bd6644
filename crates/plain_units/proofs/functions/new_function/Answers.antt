use Rattle.std.proofs.Common.{◌≡◌, ℕ, List, map, true, sym, subst, ◌∙◌}
use Rattle.std.proofs.lemmas.Result.{MatchResult-weaker}
use Rattle.c_text.specs.Token.{PlainToken, plain_token}
use Rattle.c_types.specs.Types.{PlainType, plain_type}
use Rattle.c_tree.specs.Trees.{plain_trees}
use Rattle.c_tree.specs.declared.terminals.Terminal.TheVariants as t
use Rattle.core_meaning.specs.declared.refusals.TypeKind.TheVariants.{Redeclared}
use Rattle.core_meaning.specs.Checking.{Checked}
use Rattle.core_meaning.specs.Declarations.{Parameter, behind_word, parameters_of}
use Rattle.core_meaning.specs.Entities.{Scope}
use Rattle.core_meaning.specs.UnitNames.{Storage, may_be_function}
use Rattle.plain_scope.specs.PlainScope.{plain_scope, uses_of}
use Rattle.plain_declarators.specs.Sequences.{passed_gives, passed_refused}
use Rattle.plain_parameters.specs.PlainParameters.{plain_parameter}
use Rattle.plain_objects.specs.PlainStates.{plain_storage}
use Rattle.plain_units.proofs.functions.new_function.Goals as goal

pub returns-clause-judged : goal.returns-clause-judged
returns-clause-judged c =
    let scope : Scope = plain_scope c.args.scope.now in
    let storage : Storage = plain_storage c.args.storage in
    let result : PlainType = plain_type c.args.returns.now in
    let name : PlainToken = plain_token c.args.name.now in
    let next : Unit {0} → Checked (List Parameter) = λ new. parameters_of c.args.defining scope (behind_word t.OpenParenthesis (plain_trees c.args.parts.now)) name in
    let new : may_be_function storage result (scope.file_names name.text) ≡ true =
    subst (λ (text : List ℕ). may_be_function storage result (scope.file_names text) ≡ true) c.as_slice.ensures.value (sym c.may_be_function.ensures ∙ c.in_ok-unless.ensures) in
    MatchResult-weaker c.declared_parameters.result c.declared_parameters.ensures.judged
    (λ all g. passed_gives (may_be_function storage result (scope.file_names name.text)) Redeclared name next (map plain_parameter all.items) (uses_of c.args.used.now) (uses_of c.declared_parameters.new.used) new g)
    (λ error r. passed_refused (may_be_function storage result (scope.file_names name.text)) Redeclared name next error new r)
