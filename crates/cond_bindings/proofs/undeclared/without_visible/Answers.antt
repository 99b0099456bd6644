use Rattle.std.proofs.Common.{not, ◌&&◌, List, length, take, ap, ◌∙◌, sym, arith}
use Rattle.std.proofs.lemmas.List.{take_all}
use Rattle.cond_formula.specs.declared.formulas.Formula.{False}
use Rattle.cond_formula.specs.Conditions.{condition_of, conditions_of, value, all_true}
use Rattle.cond_formula.specs.ConditionLaws.{condition_of-False}
use Rattle.cond_bindings.specs.declared.unit_bindings.Declaration.{Declaration}
use Rattle.cond_bindings.specs.Bindings.{visible}
use Rattle.cond_bindings.specs.Unseen.{none_there}
use Rattle.cond_bindings.proofs.WalkLemmas.{ended, past, gone_on, none_yet, narrower, nothing_left}
use Rattle.cond_bindings.proofs.undeclared.without_visible.Goals as goal

pub loop-next-init : goal.loop-next-init
loop-next-init c =
    record {
      within = omega arith;
      same = λ on.
          ap (λ b. b && none_there on (visible (take (length c.args.declarations.now) c.args.declarations.now) c.args.latest)) (sym (none_yet (all_true on (conditions_of c.args.path.items)) (value on (condition_of False)) (ap (value on) condition_of-False)))
          ∙ ap (λ (ds : List Declaration). all_true on (conditions_of c.args.path.items) && none_there on (visible ds c.args.latest)) (take_all (length c.args.declarations.now) c.args.declarations.now (omega arith));
    }

pub loop-next-preserved : goal.loop-next-preserved
loop-next-preserved c =
    record {
      within = omega arith;
      same = λ on.
          gone_on on c.args.declarations.now c.loop-next.behind c.loop-next.next
          (all_true on (conditions_of c.args.path.items) && not (value on (condition_of c.loop-next.seen))) _ (c.loop-next.invariant.same on) c.in-Some.place c.index-declarations-place.result c.in-Some.is (omega arith)
          c.loop-next.invariant.within c.index-declarations-place.is (all_true on (conditions_of c.args.path.items) && not (value on (condition_of c.in_ok-seen.seen)))
          (narrower (all_true on (conditions_of c.args.path.items)) (value on (condition_of c.loop-next.seen)) (value on (condition_of c.index-declarations-place.result.when)) (value on (condition_of c.in_ok-seen.seen))
          (c.in_ok-seen.ensures on));
    }

pub returns-then-place-behind : goal.returns-then-place-behind
returns-then-place-behind c = λ on.
    c.in_ok-left_behind.ensures on
    ∙ past on c.args.declarations.now c.loop-next.behind c.loop-next.next (all_true on (conditions_of c.args.path.items) && not (value on (condition_of c.loop-next.seen))) _ (c.loop-next.invariant.same on) c.in-Some.place c.in-Some.is (omega arith)

pub returns-then-follows : goal.returns-then-follows
returns-then-follows c = λ on.
    let follows = rw c.deref.ensures.value at c.follows.ensures in
    nothing_left (all_true on (conditions_of c.args.path.items)) (value on (condition_of c.in_ok-seen.seen))
    (none_there on (visible (take c.in-Some.place c.args.declarations.now) c.index-declarations-place.result.hides)) _ (follows c.if-follows.true on)
    (gone_on on c.args.declarations.now c.loop-next.behind c.loop-next.next
    (all_true on (conditions_of c.args.path.items) && not (value on (condition_of c.loop-next.seen))) _ (c.loop-next.invariant.same on) c.in-Some.place c.index-declarations-place.result c.in-Some.is (omega arith)
    c.loop-next.invariant.within c.index-declarations-place.is (all_true on (conditions_of c.args.path.items) && not (value on (condition_of c.in_ok-seen.seen)))
    (narrower (all_true on (conditions_of c.args.path.items)) (value on (condition_of c.loop-next.seen)) (value on (condition_of c.index-declarations-place.result.when)) (value on (condition_of c.in_ok-seen.seen))
    (c.in_ok-seen.ensures on)))

pub returns : goal.returns
returns c = λ on.
    c.in_ok-left_behind-2.ensures on
    ∙ ended on c.args.declarations.now c.loop-next.behind c.loop-next.next (all_true on (conditions_of c.args.path.items) && not (value on (condition_of c.loop-next.seen))) _ (c.loop-next.invariant.same on) c.in_default.is
