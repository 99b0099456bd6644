use Rattle.std.proofs.Common.{◌≡◌, not, true, rules}
use Rattle.std.proofs.lemmas.Result.{MatchResult-weaker}
use Rattle.c_text.specs.Token.{PlainToken, plain_token}
use Rattle.c_tree.specs.Trees.{plain_trees}
use Rattle.core_meaning.specs.declared.refusals.TypeKind.TheVariants.{Redeclared}
use Rattle.core_meaning.specs.Checking.{Checked}
use Rattle.core_meaning.specs.Entities.{Scope}
use Rattle.core_meaning.specs.UnitNames.{is_defined_tag}
use Rattle.plain_scope.specs.PlainScope.{plain_scope, uses_of}
use Rattle.plain_declarators.specs.Sequences.{passed_gives, passed_refused}
use Rattle.plain_structs.specs.Structs.{struct_by_words}
use Rattle.plain_structs.proofs.structs.struct_of_tag.Goals as goal

pub returns : goal.returns
returns c =
    let scope : Scope = plain_scope c.args.scope.now in
    let tag : PlainToken = plain_token c.args.tag.now in
    let next : Unit {0} → Checked Scope = λ new. struct_by_words scope (plain_trees c.args.words.now) (plain_trees c.args.list.now) in
    let is_new : not (is_defined_tag scope (scope.tags tag.text)) ≡ true = search rules in
    MatchResult-weaker c.struct_by_words.result c.struct_by_words.ensures
    (λ u g. passed_gives (not (is_defined_tag scope (scope.tags tag.text))) Redeclared tag next (plain_scope c.struct_by_words.new.scope) (uses_of c.args.used.now) (uses_of c.struct_by_words.new.used) is_new g)
    (λ error r. passed_refused (not (is_defined_tag scope (scope.tags tag.text))) Redeclared tag next error is_new r)
