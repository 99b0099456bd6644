use Rattle.std.proofs.Common.{◌≡◌, rules, sym}
use Rattle.std.proofs.lemmas.Result.{MatchResult-weaker}
use Rattle.std.specs.Prelude.{Some}
use Rattle.c_text.specs.Token.{PlainToken, plain_token}
use Rattle.core_meaning.specs.Entities.{Scope, Sort, FileName}
use Rattle.core_meaning.specs.UnitNames.{Storage, declared_again, linkage, is_function}
use Rattle.plain_scope.specs.PlainScope.{plain_scope, plain_file_name, plain_sort}
use Rattle.plain_scope.specs.Judgements.{Answers}
use Rattle.plain_objects.specs.PlainStates.{plain_storage}
use Rattle.plain_objects.specs.FileNames.{again_gives, again_refused}
use Rattle.plain_objects.proofs.names.declare_name.Goals as goal

pub returns-in-Some : goal.returns-in-Some
returns-in-Some c =
    let scope : Scope = plain_scope c.args.scope.now in
    let name : PlainToken = plain_token c.args.name.now in
    let sort : Sort = plain_sort c.args.sort in
    let storage : Storage = plain_storage c.args.storage in
    let visible : FileName = plain_file_name c.in-Some.found.now in
    let looked : scope.file_names name.text ≡ Some visible = search rules in
    let again : Answers (declared_again scope name sort (linkage storage (is_function sort) (Some visible)) visible) (λ (u : Unit {0}). scope) c.declare_again.result =
    rw (sym c.is_function-of_function.ensures) (rw (sym c.linkage-internal.ensures) c.declare_again.ensures) in
    MatchResult-weaker c.declare_again.result again
    (λ u is. again_gives scope name sort storage visible scope looked is)
    (λ error r. again_refused scope name sort storage visible error looked r)
