use Rattle.std.proofs.Common.{◌++◌, ap, ◌∙◌}
use Rattle.c_text.specs.Token.{plain_token}
use Rattle.cond_formula.specs.Conditions.{condition_of, value}
use Rattle.conditional.specs.Entries.{seen, listed, entries_of, some_holds, under, first}
use Rattle.operand_rules.specs.PlainOperandTypes.{reason}
use Rattle.cond_selections.specs.Selected.{structure_number, plain_selection}
use Rattle.cond_selections.specs.Progress.{one_selection}
use Rattle.cond_selections.proofs.Noting.{shown_noted}
use Rattle.cond_selections.proofs.names.push_selection.Goals as goal

pub returns : goal.returns
returns c = λ on owner shows.
    let here = value on (condition_of c.in_ok-here.here) in
    shown_noted on (value on (condition_of c.args.when)) (value on (condition_of c.in_ok-refused.refused)) here (plain_token c.args.name.now) owner c.args.structures.now
    (seen on (listed plain_selection c.args.log.now)) (seen on (listed plain_selection c.push_first.new.log)) shows (c.in_ok-refused.ensures on ∙ ap (λ list. some_holds on (entries_of reason list)) c.deref.ensures.value) (c.in_ok-here.ensures on)
    (c.in_ok-push_first.ensures on ∙ ap (λ list. seen on (listed plain_selection c.args.log.now) ++ under here (one_selection (plain_token c.args.name.now) (first (seen on (entries_of structure_number list))))) c.deref-2.ensures.value)
