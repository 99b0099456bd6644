use Rattle.std.proofs.Common.{◌++◌, ap, ◌∙◌}
use Rattle.std.specs.Prelude.{Some}
use Rattle.std.specs.List.{list_any}
use Rattle.c_text.specs.Token.{plain_token}
use Rattle.cond_formula.specs.Conditions.{condition_of, value}
use Rattle.name_spaces.specs.Laws.{common_by}
use Rattle.cond_name_spaces.specs.Spaced.{plain_space}
use Rattle.told_occurrences.specs.Told.{numbered}
use Rattle.told_occurrences.specs.Units.{names_seen}
use Rattle.read_occurrences.specs.Read.{is_own_pair}
use Rattle.told_units.proofs.Lists.{both_too}
use Rattle.told_units.proofs.names.push_entry.Goals as goal

pub returns : goal.returns
returns c on unit pairs tells own =
    let one = c.args.one.now in
    c.in_ok-push_name.ensures on unit tells
    ∙ ap (λ l. names_seen on c.args.all.now.items ++ l)
    (both_too (value on (condition_of c.in_ok-here.here)) (value on (condition_of c.in_ok-declares.declares)) (value on (condition_of one.when)) (list_any (is_own_pair one.what.number) pairs)
    (numbered one.what.number (common_by unit (Some (plain_space one.what.space)) (plain_token one.what.token).text)) (c.in_ok-here.ensures on) (c.in_ok-declares.ensures on ∙ own one.what.number))
