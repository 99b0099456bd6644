use Rattle.std.proofs.Common.{◌≡◌, ℕ, Bool, ◌||◌, drop}
use Rattle.cond_formula.specs.Conditions.{condition_of, value}
use Rattle.conditional.specs.Entries.{seen}
use Rattle.choice_expansions.specs.Expansions.{expanded}
use Rattle.cond_initialisers.specs.Constants.{some_constant}
use Rattle.cond_initialisers.proofs.constants.where_some_constant.Given as goal

abbrev pub invariant-loop-expansion : goal.invariant-loop-expansion
invariant-loop-expansion l = (on : ℕ → Bool)
    → (value on (condition_of l.some) || some_constant (value on (condition_of l.arrays)) (seen on (expanded (drop l.expansion-index l.expansions)))) ≡ some_constant (value on (condition_of l.arrays)) (seen on (expanded l.expansions))
