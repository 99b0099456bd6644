use Rattle.std.proofs.Common.{List, ◌++◌, ◌||◌, ap, arith}
use Rattle.cond_formula.specs.Conditions.{Condition, condition_of, value}
use Rattle.cond_formula.specs.ConditionLaws.{condition_of-False}
use Rattle.conditional.specs.declared.entries.Guarded.{Guarded}
use Rattle.cond_bodies.specs.declared.meanings.Function.{Function}
use Rattle.conditional.specs.Entries.{entries_of, seen}
use Rattle.cond_bodies.specs.CondMeanings.{plain_function}
use Rattle.cond_runs.specs.CondArguments.{lists_at, fit_among, some_unfit}
use Rattle.cond_runs.proofs.ArgumentLemmas.{fit_step, unfit_step, fit_end, unfit_end}
use Rattle.cond_runs.proofs.arguments.all_fitting.Goals as goal

pub loop-function-init : goal.loop-function-init
loop-function-init c = record {
  functions = λ on. ap (λ (l : List (Guarded Function)). seen on (entries_of plain_function l) ++ fit_among (lists_at on c.args.arguments.now) (seen on (entries_of plain_function c.args.functions.now))) c.new.ensures.items;
  unfit = λ on. ap (λ (d : Condition). value on d || some_unfit (lists_at on c.args.arguments.now) (seen on (entries_of plain_function c.args.functions.now))) condition_of-False;
}

pub loop-function-preserved : goal.loop-function-preserved
loop-function-preserved c = record {
  functions = λ on.
      fit_step on c.args.functions.now c.function-item.result c.loop-function.function-index c.loop-function-test.true c.function-item.is (lists_at on c.args.arguments.now) (value on (condition_of c.in_ok-unfit.unfit)) (c.in_ok-unfit.ensures on)
      (seen on (entries_of plain_function c.loop-function.all.functions.items)) (seen on (entries_of plain_function c.add.new.self.functions.items)) (fit_among (lists_at on c.args.arguments.now) (seen on (entries_of plain_function c.args.functions.now)))
      (c.loop-function.invariant.functions on) (c.in_ok-add.ensures.functions on);
  unfit = λ on.
      unfit_step on c.args.functions.now c.function-item.result c.loop-function.function-index c.loop-function-test.true c.function-item.is (lists_at on c.args.arguments.now) (value on (condition_of c.in_ok-unfit.unfit)) (c.in_ok-unfit.ensures on)
      (value on (condition_of c.loop-function.all.unfit)) (value on (condition_of c.add.new.self.unfit)) (some_unfit (lists_at on c.args.arguments.now) (seen on (entries_of plain_function c.args.functions.now)))
      (c.loop-function.invariant.unfit on) (c.in_ok-add.ensures.unfit on);
}

pub returns-clause-functions : goal.returns-clause-functions
returns-clause-functions c = λ on.
    fit_end on c.args.functions.now c.loop-function.function-index (lists_at on c.args.arguments.now) (seen on (entries_of plain_function c.loop-function.all.functions.items)) (fit_among (lists_at on c.args.arguments.now) (seen on (entries_of plain_function c.args.functions.now))) (omega arith) (c.loop-function.invariant.functions on)

pub returns-clause-unfit : goal.returns-clause-unfit
returns-clause-unfit c = λ on.
    unfit_end on c.args.functions.now c.loop-function.function-index (lists_at on c.args.arguments.now) (value on (condition_of c.loop-function.all.unfit)) (some_unfit (lists_at on c.args.arguments.now) (seen on (entries_of plain_function c.args.functions.now))) (omega arith) (c.loop-function.invariant.unfit on)
