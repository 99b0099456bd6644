use Rattle.std.proofs.Common.{◌++◌, sym, ap, ◌∙◌}
use Rattle.c_text.specs.Token.{plain_token}
use Rattle.cond_formula.specs.Conditions.{condition_of, value}
use Rattle.conditional.specs.Entries.{seen, listed, under}
use Rattle.selections.specs.Selections.{structure_named}
use Rattle.cond_selections.specs.Selected.{plain_selection}
use Rattle.cond_selections.specs.Progress.{one_selection}
use Rattle.cond_selections.proofs.Noting.{name_noted, none_noted}
use Rattle.cond_selections.proofs.names.push_token.Goals as goal

pub returns-then-not-is_name : goal.returns-then-not-is_name
returns-then-not-is_name c = λ on owner number shows.
    none_noted (value on (condition_of c.args.when.now)) number (plain_token c.args.token.now) (structure_named owner (value on (condition_of c.args.turned.now))) (seen on (listed plain_selection c.args.log.now))
    (sym c.is_name.ensures ∙ c.if-not-is_name.true)

pub returns : goal.returns
returns c = λ on owner number shows.
    name_noted (value on (condition_of c.args.when.now)) (value on (condition_of c.args.turned.now)) number (plain_token c.args.token.now) owner
    (seen on (listed plain_selection c.args.log.now)) (seen on (listed plain_selection c.push_selection.new.log)) (sym c.is_name.ensures ∙ c.if-not-is_name.false)
    (c.in_ok-push_selection.ensures on owner shows ∙ ap (λ b. seen on (listed plain_selection c.args.log.now) ++ under b (one_selection (plain_token c.args.token.now) owner)) (c.in_ok-here.ensures on))
