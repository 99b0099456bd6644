use Rattle.std.proofs.Common.{subst, sym}
use Rattle.std.proofs.lemmas.Result.{IfOk-weaker}
use Rattle.choice_parser.specs.Deaths.{DeadIsWrong, LivesIfSome, IsRefused}
use Rattle.choice_settling.proofs.Divisions.{divided_so}
use Rattle.choice_parser.proofs.RefusalLemmas.{dead_split, lives_split, refused_split}
use Rattle.choice_parser.proofs.refusals.+living.Goals as goal

pub returns-in_ok-second-in-Split-clause-lives : goal.returns-in_ok-second-in-Split-clause-lives
returns-in_ok-second-in-Split-clause-lives t c = IfOk-weaker c.either_living.result _ _ (λ new either.
    subst (λ s. LivesIfSome c.args.path.now s new) (sym c.in-Split.is)
    (lives_split c.args.path.now c.deref.result.now c.deref-in-Split.result.now c.in-Split.f c.in-Split.first c.in-Split.second c.in_ok-first-in-Split.first c.in_ok-second-in-Split.second new
    (divided_so c.args.path.now c.in-Split.f c.in_ok-first_path-in-Split.first_path.items c.in_ok-second_path-in-Split.second_path.items c.deref.result.now c.deref-in-Split.result.now
    c.deref.ensures.value c.deref-in-Split.ensures.value c.in_ok-first_path-in-Split.ensures c.in_ok-second_path-in-Split.ensures)
    (subst (λ s. LivesIfSome c.deref.result.now s c.in_ok-first-in-Split.first) c.into_inner-in-Split.ensures c.in_ok-first-in-Split.ensures.lives)
    (subst (λ s. LivesIfSome c.deref-in-Split.result.now s c.in_ok-second-in-Split.second) c.into_inner-in-Split-2.ensures c.in_ok-second-in-Split.ensures.lives)
    either)) c.either_living.ensures

pub returns-in_ok-second-in-Split-clause-refused : goal.returns-in_ok-second-in-Split-clause-refused
returns-in_ok-second-in-Split-clause-refused t c = IfOk-weaker c.either_living.result _ _ (λ new either.
    subst (λ s. IsRefused c.args.path.now s c.args.refused.now c.living-in-Split-2.new.refused) (sym c.in-Split.is)
    (refused_split c.args.path.now c.deref.result.now c.deref-in-Split.result.now c.in-Split.f c.in-Split.first c.in-Split.second c.args.refused.now c.living-in-Split.new.refused c.living-in-Split-2.new.refused
    (divided_so c.args.path.now c.in-Split.f c.in_ok-first_path-in-Split.first_path.items c.in_ok-second_path-in-Split.second_path.items c.deref.result.now c.deref-in-Split.result.now
    c.deref.ensures.value c.deref-in-Split.ensures.value c.in_ok-first_path-in-Split.ensures c.in_ok-second_path-in-Split.ensures)
    (subst (λ s. IsRefused c.deref.result.now s c.args.refused.now c.living-in-Split.new.refused) c.into_inner-in-Split.ensures c.in_ok-first-in-Split.ensures.refused)
    (subst (λ s. IsRefused c.deref-in-Split.result.now s c.living-in-Split.new.refused c.living-in-Split-2.new.refused) c.into_inner-in-Split-2.ensures c.in_ok-second-in-Split.ensures.refused)))
    c.either_living.ensures

pub returns-in_ok-second-in-Split-clause-dead : goal.returns-in_ok-second-in-Split-clause-dead
returns-in_ok-second-in-Split-clause-dead t c = IfOk-weaker c.either_living.result _ _ (λ new either.
    subst DeadIsWrong (sym c.in-Split.is)
    (dead_split c.in-Split.f c.in-Split.first c.in-Split.second
    (subst DeadIsWrong c.into_inner-in-Split.ensures c.in_ok-first-in-Split.ensures.dead)
    (subst DeadIsWrong c.into_inner-in-Split-2.ensures c.in_ok-second-in-Split.ensures.dead)))
    c.either_living.ensures
