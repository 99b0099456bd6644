use Rattle.std.proofs.Common.{◌++◌}
use Rattle.c_text.specs.Token.{plain_token}
use Rattle.cond_formula.specs.Conditions.{condition_of, value}
use Rattle.conditional.specs.Entries.{seen, under, entries_of, listed}
use Rattle.conditional.proofs.ListLaws.{copied_end}
use Rattle.cond_name_spaces.specs.Spaced.{plain_name, numbered}
use Rattle.cond_name_spaces.specs.Progress.{member_by}
use Rattle.cond_name_spaces.proofs.names.push_member.Goals as goal

pub returns : goal.returns
returns c = λ on.
    let name = numbered c.args.name.number (plain_token c.args.name.token.now) in
    copied_end (member_by name) on (value on (condition_of c.args.when.now)) c.args.tags.now c.loop-tag.tag-index (seen on (listed plain_name c.loop-tag.log))
    (seen on (listed plain_name c.args.log.now) ++ under (value on (condition_of c.args.when.now)) (seen on (entries_of (member_by name) c.args.tags.now)))
    c.loop-tag-test.false (c.loop-tag.invariant on)
