use Rattle.std.proofs.Common.{◌++◌, not, ◌&&◌, ap, ◌∙◌}
use Rattle.c_text.specs.Token.{plain_token}
use Rattle.cond_formula.specs.Conditions.{condition_of, value}
use Rattle.conditional.specs.Entries.{seen, under, listed}
use Rattle.scope_readings.specs.Walks.{role}
use Rattle.name_spaces.specs.Spaces.{space_by}
use Rattle.cond_name_spaces.specs.Spaced.{plain_name, numbered}
use Rattle.cond_name_spaces.specs.Progress.{one_name}
use Rattle.cond_name_spaces.proofs.Noting.{name_by}
use Rattle.cond_name_spaces.proofs.names.push_name.Goals as goal

pub returns : goal.returns
returns c = λ on tag one.
    let name = numbered c.args.name.number (plain_token c.args.name.token.now) in
    let w = value on (condition_of c.args.when.now) in
    let t = value on (condition_of c.args.turned.now) in
    let before = value on (condition_of c.in_ok-before.before) in
    let behind = value on (condition_of c.in_ok-behind.behind) in
    let old = seen on (listed plain_name c.args.log.now) in
    let mid = seen on (listed plain_name c.push_as.new.log) in
    name_by w t before behind (λ turned. one_name name (space_by c.args.around.declaration tag (role c.args.around.kind turned))) old mid (seen on (listed plain_name c.push_as-2.new.log))
    (c.in_ok-before.ensures on ∙ ap (λ f. value on f && not t) c.in_ok-try_clone.ensures) (c.in_ok-behind.ensures on)
    (c.in_ok-push_as.ensures on tag one ∙ ap (λ space. old ++ under before (one_name name space)) (c.declared_by-declares.ensures tag))
    (c.in_ok-push_as-2.ensures on tag one ∙ ap (λ space. mid ++ under behind (one_name name space)) (c.declared_by-declares-2.ensures tag))
