use Rattle.std.proofs.Common.{sym, ◌∙◌}
use Rattle.c_text.specs.Token.{plain_token}
use Rattle.cond_formula.specs.Conditions.{condition_of, value}
use Rattle.conditional.specs.Entries.{seen, listed}
use Rattle.scope_readings.specs.Walks.{role}
use Rattle.name_spaces.specs.Spaces.{space_by}
use Rattle.cond_name_spaces.specs.Spaced.{plain_name}
use Rattle.cond_name_spaces.proofs.Noting.{name_noted}
use Rattle.cond_name_spaces.proofs.names.push_token.Goals as goal

pub returns : goal.returns
returns c = λ on tag one.
    name_noted (value on (condition_of c.args.when.now)) c.args.number (plain_token c.args.token.now) (space_by c.args.around.declaration tag (role c.args.around.kind (value on (condition_of c.args.turned.now))))
    (seen on (listed plain_name c.args.log.now)) (seen on (listed plain_name c.push_name.new.log)) (sym c.is_name.ensures ∙ c.if-not-is_name.false) (c.in_ok-push_name.ensures on tag one)
