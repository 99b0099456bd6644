use Rattle.std.proofs.Common.{◌≡◌, ℕ, Bool, ◌++◌, drop}
use Rattle.cond_formula.specs.Conditions.{condition_of, value}
use Rattle.c_text.specs.Token.{plain_token}
use Rattle.conditional.specs.Entries.{seen, under, entries_of, listed}
use Rattle.cond_name_spaces.specs.Spaced.{plain_name, numbered}
use Rattle.cond_name_spaces.specs.Progress.{member_by}
use Rattle.cond_name_spaces.proofs.names.push_member.Given as goal

abbrev pub invariant-loop-tag : goal.invariant-loop-tag
invariant-loop-tag l = (on : ℕ → Bool) →
    seen on (listed plain_name l.log)
    ++ under (value on (condition_of l.when)) (seen on (entries_of (member_by (numbered l.name.number (plain_token l.name.token.now))) (drop l.tag-index l.tags)))
    ≡ seen on (listed plain_name l.fn.log) ++ under (value on (condition_of l.when)) (seen on (entries_of (member_by (numbered l.name.number (plain_token l.name.token.now))) l.tags))
