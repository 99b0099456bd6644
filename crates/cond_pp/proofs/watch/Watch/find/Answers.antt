use Rattle.std.proofs.Common.{Bool, ap, ◌∙◌}
use Rattle.std.specs.Prelude.{◌||◌, ◌&&◌, not, option_map}
use Rattle.cond_formula.specs.declared.formulas.Formula.{Formula}
use Rattle.cond_formula.specs.Features.{has}
use Rattle.cond_formula.specs.Conditions.{Condition, condition_of, value}
use Rattle.c_text.specs.Macros.{Table}
use Rattle.read_walks.specs.Tests.{is_defined}
use Rattle.cond_pp.proofs.watch.Watch.find.Goals as goal

pub returns-clause-found : goal.returns-clause-found
returns-clause-found c =
    λ k.
    let on = has k in
    let before = value on (condition_of c.args.self.now.found) in
    let not_refused = not (value on (condition_of c.args.reading.now.refused)) in
    let there = value on (condition_of c.args.here.now) && not_refused in
    let name = option_map (λ n. n.now) c.args.sought.now.name in
    c.in_ok-found.ensures on
    ∙ ap (λ (f : Formula). value on (condition_of f) || value on (condition_of c.in_ok-when.when)) c.replace-before.ensures.value
    ∙ ap (λ (b : Bool). before || b) (c.in_ok-when.ensures on)
    ∙ ap (λ (b : Bool). before || (b && value on (condition_of c.in_ok-defined.defined))) (c.in_ok-read.ensures on)
    ∙ ap (λ (h : Condition). before || ((value on h && not_refused) && value on (condition_of c.in_ok-defined.defined))) c.in_ok-try_clone.ensures
    ∙ ap (λ (b : Bool). before || (there && b)) (c.in_ok-defined.ensures k)
    ∙ ap (λ (t : Table). before || (there && is_defined name t)) (c.macros-macros.ensures on)
