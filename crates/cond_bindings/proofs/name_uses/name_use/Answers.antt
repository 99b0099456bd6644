use Rattle.std.proofs.Common.{Bool, not, ◌&&◌, List, ap, ◌∙◌}
use Rattle.std.proofs.lemmas.Result.{IfOk-weaker}
use Rattle.cond_formula.specs.Conditions.{Condition, conditions, conditions_of, value, all_true}
use Rattle.cond_formula.specs.ConditionLaws.{condition_of-False}
use Rattle.cond_bindings.specs.Bindings.{visible}
use Rattle.cond_bindings.specs.Unseen.{none_there}
use Rattle.cond_bindings.proofs.WalkLemmas.{undeclared_is, of_file_is}
use Rattle.cond_bindings.proofs.name_uses.name_use.Goals as goal

pub returns-in-None-clause-undeclared : goal.returns-in-None-clause-undeclared
returns-in-None-clause-undeclared c =
    λ on.
    let block = visible c.args.declarations.now c.args.block in
    let file = visible c.args.declarations.now c.args.file in
    let none = rw c.in-None.is at c.in_ok-without_visible.ensures in
    ap (value on) condition_of-False
    ∙ ap (λ (b : Bool). b && none_there on file) (none on ∙ ap (λ (cs : List Condition). all_true on (conditions cs) && none_there on block) c.in_ok-path.ensures)
    ∙ undeclared_is on (all_true on (conditions_of c.args.path.now)) block file

pub returns-in-None-clause-of_file : goal.returns-in-None-clause-of_file
returns-in-None-clause-of_file c =
    λ on.
    let block = visible c.args.declarations.now c.args.block in
    let file = visible c.args.declarations.now c.args.file in
    let none = rw c.in-None.is at c.in_ok-without_visible.ensures in
    ap (value on) condition_of-False
    ∙ ap (λ (b : Bool). b && not (none_there on file)) (none on ∙ ap (λ (cs : List Condition). all_true on (conditions cs) && none_there on block) c.in_ok-path.ensures)
    ∙ of_file_is on (all_true on (conditions_of c.args.path.now)) block file

pub returns-in-Some-clause-undeclared : goal.returns-in-Some-clause-undeclared
returns-in-Some-clause-undeclared c =
    let block = visible c.args.declarations.now c.args.block in
    let file = visible c.args.declarations.now c.args.file in
    let left = rw c.in-Some.is at c.in_ok-without_visible.ensures in
    IfOk-weaker c.use_at_file.result _ _
    (λ name is on.
    is on
    ∙ ap (λ (b : Bool). b && none_there on file) (left on ∙ ap (λ (cs : List Condition). all_true on (conditions cs) && none_there on block) c.in_ok-path.ensures)
    ∙ undeclared_is on (all_true on (conditions_of c.args.path.now)) block file)
    c.use_at_file.ensures.undeclared

pub returns-in-Some-clause-of_file : goal.returns-in-Some-clause-of_file
returns-in-Some-clause-of_file c =
    let block = visible c.args.declarations.now c.args.block in
    let file = visible c.args.declarations.now c.args.file in
    let left = rw c.in-Some.is at c.in_ok-without_visible.ensures in
    IfOk-weaker c.use_at_file.result _ _
    (λ name is on.
    is on
    ∙ ap (λ (b : Bool). b && not (none_there on file)) (left on ∙ ap (λ (cs : List Condition). all_true on (conditions cs) && none_there on block) c.in_ok-path.ensures)
    ∙ of_file_is on (all_true on (conditions_of c.args.path.now)) block file)
    c.use_at_file.ensures.of_file
