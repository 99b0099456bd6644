use Rattle.std.proofs.Common.{not, ap, ◌∙◌}
use Rattle.cond_formula.specs.Features.{has}
use Rattle.cond_formula.specs.Conditions.{Condition, condition_of, value}
use Rattle.conditional.specs.Entries.{some_holds, entries_of}
use Rattle.conditional.specs.Judgements.{fine}
use Rattle.core_meaning.specs.Declarations.{count_or_one}
use Rattle.operand_rules.specs.PlainOperandTypes.{reason}
use Rattle.cond_declarators.proofs.Counting.{counted_or_one}
use Rattle.cond_declarators.proofs.elements.counts_or_one.Goals as goal

pub returns-clause-shows : goal.returns-clause-shows
returns-clause-shows g c = λ n o admitted shown.
    counted_or_one (has n) (condition_of c.in_ok-some.some) (condition_of c.in_ok-none.none) o c.args.numbers c.without_refusals-counts.result c.nothing-all.result c.place_under.new.self
    c.place_possible.new.self (c.in_ok-none.ensures (has n) ∙ ap (λ xs. some_holds (has n) (entries_of reason xs)) c.deref.ensures.value)
    (c.in_ok-some.ensures.holds (has n) ∙ ap (λ (k : Condition). not (value (has n) k)) c.in_ok-try_clone.ensures)
    (c.without_refusals-counts.ensures (has n)) (c.nothing-all.ensures (has n) (fine (count_or_one o))) (c.in_ok-place_under.ensures (has n)) (c.in_ok-place_possible.ensures.judges n admitted) shown
