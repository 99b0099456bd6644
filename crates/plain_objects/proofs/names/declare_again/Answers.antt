use Rattle.std.proofs.Common.{Bool, ◌&&◌, refl, sym, ◌∙◌}
use Rattle.std.proofs.lemmas.Result.{MatchResult-weaker}
use Rattle.c_text.specs.Token.{PlainToken, plain_token}
use Rattle.core_meaning.specs.declared.refusals.TypeKind.TheVariants.{Redeclared}
use Rattle.core_meaning.specs.Checking.{Checked, give}
use Rattle.core_meaning.specs.Entities.{Scope}
use Rattle.core_meaning.specs.UnitNames.{same_sort, same_bool}
use Rattle.plain_scope.specs.PlainScope.{plain_scope, plain_sort}
use Rattle.plain_declarators.specs.Sequences.{passed_is, failed_refused}
use Rattle.plain_objects.proofs.names.declare_again.Goals as goal

pub returns : goal.returns
returns c =
    let name : PlainToken = plain_token c.args.name.now in
    let same : Bool = same_sort (plain_sort c.args.visible.now.sort) (plain_sort c.args.sort) && same_bool c.args.visible.now.internal c.args.internal in
    let next : Unit {0} → Checked Scope = λ same. give (plain_scope c.args.scope.now) in
    MatchResult-weaker c.unless.result c.unless.ensures
    (λ u is. passed_is same Redeclared name next (next tt) (sym c.agrees.ensures ∙ is) refl)
    (λ error r. failed_refused same Redeclared name next error (sym c.agrees.ensures ∙ r.0) r.1)
