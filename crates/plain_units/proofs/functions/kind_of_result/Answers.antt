use Rattle.std.proofs.Common.{◌≡◌, ℕ, List, map, sym, subst, true}
use Rattle.std.proofs.lemmas.Result.{MatchResult-weaker}
use Rattle.std.specs.Prelude.{MatchResult}
use Rattle.c_text.specs.Token.{PlainToken, plain_token}
use Rattle.c_types.specs.Types.{PlainType, plain_type}
use Rattle.c_tree.specs.Trees.{plain_trees}
use Rattle.core_meaning.specs.Declarations.{Parameter}
use Rattle.core_meaning.specs.Entities.{Scope, function}
use Rattle.core_meaning.specs.UnitNames.{Storage, signature_of, with_name, kind_or_incomplete, may_be_function}
use Rattle.plain_scope.specs.PlainScope.{plain_scope, uses_of}
use Rattle.plain_scope.specs.declared.errors.ElabError.TheVariants.{Memory}
use Rattle.plain_parameters.specs.PlainParameters.{plain_parameter}
use Rattle.plain_parameters.specs.declared.parameters.Parameter.{Parameter as RustParameter}
use Rattle.plain_objects.specs.PlainStates.{plain_storage}
use Rattle.plain_units.specs.Functions.{kind_behind}
use Rattle.plain_units.proofs.functions.kind_of_result.Goals as goal

pub returns-in-Ok : goal.returns-in-Ok
returns-in-Ok c =
    let scope : Scope = plain_scope c.args.scope.now in
    let behind : Scope = plain_scope c.declared_parameters.new.scope in
    let storage : Storage = plain_storage c.args.storage in
    let result : PlainType = plain_type c.args.returns.now in
    let name : PlainToken = plain_token c.args.name.now in
    let parameters : List Parameter = map plain_parameter c.in-Ok.parameters.items in
    let new : may_be_function storage result (scope.file_names name.text) ≡ true =
    subst (λ (text : List ℕ). may_be_function storage result (scope.file_names text) ≡ true) c.as_slice.ensures.value (sym c.if-not-may_be_function.ensures) in
    let named : MatchResult c.kind_by_name.result (λ kind. kind ≡ kind_or_incomplete (with_name behind name (function (signature_of result parameters)) storage)) (λ error. error ≡ Memory) =
    subst (λ (ps : List RustParameter). MatchResult c.kind_by_name.result (λ kind. kind ≡ kind_or_incomplete (with_name behind name (function (signature_of result (map plain_parameter ps))) storage)) (λ error. error ≡ Memory)) c.as_slice-in-Ok.ensures.value c.kind_by_name.ensures in
    MatchResult-weaker c.kind_by_name.result named
    (λ kind is. kind_behind scope behind storage result (plain_trees c.args.parts.now) name parameters (uses_of c.args.used.now) (uses_of c.declared_parameters.new.used) kind new c.in-Ok.ensures.judged c.in-Ok.ensures.same is)
    (λ error is. is)
