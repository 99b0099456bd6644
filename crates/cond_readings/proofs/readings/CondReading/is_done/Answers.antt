use Rattle.std.proofs.Common.{◌≡◌, true, false, sym, ◌∙◌}
use Rattle.cond_formula.specs.Features.{has}
use Rattle.cond_formula.specs.Conditions.{condition_of, value}
use Rattle.cond_readings.specs.TakenLaws.{none-where}
use Rattle.cond_readings.proofs.readings.CondReading.is_done.Goals as goal

pub returns-then-is_implied-clause-done : goal.returns-then-is_implied-clause-done
returns-then-is_implied-clause-done g c =
    λ t k adm here features.
    none-where (value (has k) (condition_of c.args.self.now.refused)) _ (c.is_implied.ensures c.if-is_implied.true (has k) here)

pub returns-clause-done : goal.returns-clause-done
returns-clause-done g c =
    λ t k adm here features.
    let e : false ≡ true = sym (c.holds_nowhere.ensures.never t k adm) ∙ here in
    cc
