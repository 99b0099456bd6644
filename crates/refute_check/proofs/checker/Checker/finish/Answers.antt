use Rattle.std.proofs.Common.{◌≡◌, ℕ, Bool, false, ◌∙◌, sym, subst}
use Rattle.refute_check.specs.Clauses.{all_hold}
use Rattle.refute_check.specs.Entries.{given_of}
use Rattle.refute_check.specs.Storage.{entries_in}
use Rattle.refute_check.specs.Progress.{Progress}
use Rattle.refute_check.proofs.CheckerLaws.{unsatisfied}
use Rattle.refute_check.proofs.checker.Checker.finish.Goals as goal

pub returns-clause-unsatisfiable : goal.returns-clause-unsatisfiable
returns-clause-unsatisfiable c =
    let P : Progress → Type 0 = λ progress. (values : ℕ → Bool) → all_hold values (given_of progress.entries) ≡ false in
    subst P c.self.view_is (unsatisfied (entries_in c.self.inside.literals.items c.self.inside.clauses.items) c.self.invariant.sound (sym c.self.invariant.ended ∙ c.if-not-self.false))
