use Rattle.std.proofs.Common.{not, sym, ap, ◌∙◌}
use Rattle.std.specs.Prelude.{Some}
use Rattle.cond_formula.specs.Features.{has}
use Rattle.cond_formula.specs.Conditions.{Condition, condition_of, value}
use Rattle.conditional.specs.Judgements.{fine, refused}
use Rattle.operand_rules.specs.PlainOperandTypes.{reason}
use Rattle.type_tables.specs.Forms.{declared_type_form}
use Rattle.type_tables.specs.Questions.{where_declared}
use Rattle.type_tables.specs.Seen.{seen_tables}
use Rattle.cond_declarators.specs.Elements.{struct_if_any}
use Rattle.cond_declarators.proofs.Placing.{one_placed}
use Rattle.cond_declarators.proofs.WordTypes.{shown_where, shown_nowhere}
use Rattle.cond_declarators.proofs.bases.types_of_struct.Goals as goal

pub returns-clause-shows : goal.returns-clause-shows
returns-clause-shows g c = λ n admitted.
    let elsewhere = c.in_ok-elsewhere.ensures.holds (has n) ∙ ap (λ (k : Condition). not (value (has n) k)) c.in_ok-try_clone.ensures in
    let here = c.in_ok-declared.ensures (has n) in
    one_placed declared_type_form reason (has n) (condition_of c.in_ok-declared.declared) (condition_of c.in_ok-elsewhere.elsewhere)
    (struct_if_any (where_declared (seen_tables (has n) c.args.tables.now) (Some c.args.number))) c.nothing-all.result c.place_possible.new.self c.place_possible-2.new.self
    (fine (declared_type_form c.struct_type.result)) (refused tt) elsewhere
    (c.nothing-all.ensures (has n) (struct_if_any (where_declared (seen_tables (has n) c.args.tables.now) (Some c.args.number))))
    (c.in_ok-place_possible.ensures.judges n admitted)
    (c.in_ok-place_possible-2.ensures.judges n (ap (value (has n)) c.in_ok-place_possible.ensures.kept ∙ admitted))
    (λ t. ap fine c.struct_type.ensures ∙ shown_where ((seen_tables (has n) c.args.tables.now).declared c.args.number) c.args.number (sym here ∙ t))
    (λ t. shown_nowhere ((seen_tables (has n) c.args.tables.now).declared c.args.number) c.args.number (sym (elsewhere ∙ ap not here) ∙ t))
