use Rattle.std.proofs.Common.{Bool, false, not, ap, ◌∙◌}
use Rattle.cond_formula.specs.Conditions.{Condition, condition_of, value}
use Rattle.c_types.specs.Types.{plain_type}
use Rattle.conditional.specs.Entries.{alternatives}
use Rattle.operand_types.specs.OperandTypes.{struct_in}
use Rattle.operand_rules.specs.PlainOperandTypes.{plain_category, plain_operand_type}
use Rattle.type_tables.specs.Tables.{is_complete_in}
use Rattle.type_tables.specs.Seen.{seen_tables}
use Rattle.known_tables.proofs.Showing.{one_of_two}
use Rattle.known_tables.proofs.operands.operand_of_type.Goals as goal

pub returns : goal.returns
returns c = λ on.
    let ty = plain_type c.args.ty.now in
    one_of_two on (is_complete_in (seen_tables on c.args.tables.now) (struct_in ty)) (condition_of c.in_ok-complete.complete) (condition_of c.in_ok-elsewhere.elsewhere)
    (λ (b : Bool). record { ty = ty; category = plain_category c.args.category; is_null = false; has_complete_struct = b })
    (alternatives plain_operand_type c.nothing-all.result) (alternatives plain_operand_type c.place_operand.new.all) (alternatives plain_operand_type c.place_operand-2.new.all)
    (c.nothing-all.ensures on) (c.in_ok-complete.ensures on)
    (c.in_ok-elsewhere.ensures.holds on ∙ ap (λ (k : Condition). not (value on k)) c.in_ok-try_clone.ensures ∙ ap not (c.in_ok-complete.ensures on))
    (c.in_ok-place_operand.ensures on) (c.in_ok-place_operand-2.ensures on)
