use Rattle.std.proofs.Common.{◌&&◌, not, refl, ap, ◌∙◌}
use Rattle.cond_formula.specs.declared.formulas.Formula.{Formula}
use Rattle.cond_formula.specs.Conditions.{condition_of, value}
use Rattle.conditional.specs.Entries.{alternatives}
use Rattle.known_tables.proofs.Finding.{found_more}
use Rattle.known_tables.proofs.searches.Search.find.Goals as goal

pub returns : goal.returns
returns g c = λ on whole next later sees before. record {
  finds =
      found_more on (value on (condition_of c.args.self.now.rest)) (value on (condition_of c.args.when.now)) (value on (condition_of c.in_ok-here.here)) (value on (condition_of c.in_ok-self.field-0))
      (condition_of c.in_ok-here.here) (alternatives g.T.Plain.form c.args.what.now) (alternatives g.T.Plain.form c.args.self.now.found) (alternatives g.T.Plain.form c.place_there.new.found)
      whole next later refl
      (c.in_ok-here.ensures on)
      (c.in_ok-self.ensures on ∙ ap (λ (f : Formula). value on (condition_of f) && not (value on (condition_of c.args.when.now))) c.replace-before.ensures.value)
      (c.in_ok-place_there.ensures on) sees before.finds;
}
