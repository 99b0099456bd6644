use Rattle.std.proofs.Common.{subst, ◌≡◌}
use Rattle.cond_formula.specs.Conditions.{Condition, condition_of, IsConjunction}
use Rattle.tied_tokens.specs.Tokens.{plain_file_tokens}
use Rattle.tied_tokens.specs.Ties.{plain_declared_name, plain_tied_tokens}
use Rattle.tied_tokens.proofs.Growth.{grows_tried, on_names, name_leads}
use Rattle.tied_tokens.proofs.steps.try_both.Goals as goal

joined :
    (a b first second both : Condition) → a ≡ first → b ≡ second → IsConjunction a b both → IsConjunction first second both
joined a b first second both e f is =
    subst (λ (x : Condition). IsConjunction x second both) e (subst (λ (y : Condition). IsConjunction a y both) f is)

pub returns-clause-grows : goal.returns-clause-grows
returns-clause-grows c =
    let all = plain_tied_tokens c.args.all.now in
    let own = plain_declared_name c.args.own.now in
    let other = plain_declared_name c.args.other.now in
    let both = condition_of c.in_ok-both.both in
    let is = joined (condition_of c.in_ok-when.when) (condition_of c.in_ok-also.also) own.when other.when both c.in_ok-when.ensures c.in_ok-also.ensures c.in_ok-both.ensures in
    grows_tried all own.token both other.token (plain_file_tokens c.args.found.now.items) (plain_file_tokens c.try_token.new.found.items) c.in_ok-try_token.ensures
    (on_names all own other both is c.requires.own c.requires.other c.requires.same)

pub returns-clause-leads : goal.returns-clause-leads
returns-clause-leads c =
    let all = plain_tied_tokens c.args.all.now in
    let own = plain_declared_name c.args.own.now in
    let other = plain_declared_name c.args.other.now in
    let both = condition_of c.in_ok-both.both in
    let is = joined (condition_of c.in_ok-when.when) (condition_of c.in_ok-also.also) own.when other.when both c.in_ok-when.ensures c.in_ok-also.ensures c.in_ok-both.ensures in
    name_leads all own other both is (plain_file_tokens c.try_token.new.found.items) c.in_ok-try_token.ensures.comes
