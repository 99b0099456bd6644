use Rattle.std.proofs.Common.{rules, ◌≡◌, ◌<◌, ◌||◌, drop, length, sym, ap, ◌∙◌, subst, arith}
use Rattle.cond_formula.specs.Conditions.{condition_of, value}
use Rattle.conditional.specs.Judgements.{JudgesUnder}
use Rattle.conditional.proofs.ListLaws.{item_of}
use Rattle.operand_rules.specs.PlainOperandTypes.{plain_operand_type, reason}
use Rattle.cond_nodes.specs.Reads.{EachRead}
use Rattle.cond_typing.proofs.PartsBehindParts.{no_items}
use Rattle.cond_typing.proofs.ArgumentsPlaced.{none_more, one_more}
use Rattle.cond_typing.proofs.arguments.with_argument.Goals as goal

pub returns-then-is_empty : goal.returns-then-is_empty
returns-then-is_empty c = λ on callable reads xs held each is before.
    let none : length c.args.operands.now ≡ 0 = grind (arith, c.is_empty.ensures, c.if-is_empty.true) in
    none_more on callable reads xs held (value on (condition_of c.args.when.now)) c.args.argument (subst (EachRead on callable xs) (no_items c.args.operands.now none) each) is before

pub returns : goal.returns
returns c = λ on callable reads xs held each is before.
    let within : 0 < length c.args.operands.now = first_of (search rules, grind arith) in
    one_more on callable reads xs held (condition_of c.args.when.now) c.index-operands-0.result (drop 1 c.args.operands.now) c.args.argument (record { when = c.in_ok-either.either; what = c.place_under.new.self })
    (subst (EachRead on callable xs) (item_of c.args.operands.now c.index-operands-0.result 0 within c.index-operands-0.is) each) is
    (c.in_ok-either.ensures on ∙ ap (λ when. value on (condition_of c.args.argument.when) || value on when) c.in_ok-try_clone.ensures)
    (subst (λ x. JudgesUnder plain_operand_type reason on (condition_of c.args.when.now) x.outcomes c.args.argument.what c.place_under.new.self) (sym c.index-operands-0.is) (c.in_ok-place_under.ensures on)) before
