use Rattle.std.proofs.Common.{Bool, [], ◌∷◌, ◌++◌, ap, ◌∙◌}
use Rattle.cond_formula.specs.Conditions.{condition_of, value}
use Rattle.conditional.specs.Entries.{entries_of, some_holds, under}
use Rattle.operand_rules.specs.PlainOperandTypes.{plain_operand_type}
use Rattle.known_tables.proofs.Showing.{or_refusal_shown}
use Rattle.known_tables.proofs.operands.or_refused.Goals as goal

pub returns : goal.returns
returns c = λ on o sees.
    or_refusal_shown on (record { fine = c.args.fine; refused = c.refuse.new.refusals }) (value on (condition_of c.in_ok-some.some))
    (c.in_ok-some.ensures on ∙ ap (λ xs. some_holds on (entries_of plain_operand_type xs)) c.deref.ensures.value)
    (c.in_ok-refuse.ensures on ∙ ap (λ xs. xs ++ under (value on (condition_of c.in_ok-elsewhere.elsewhere)) (tt ∷ [])) (c.empty-refused.ensures on)
    ∙ ap (λ (b : Bool). under b (tt ∷ [])) (c.in_ok-elsewhere.ensures.holds on))
    o sees
