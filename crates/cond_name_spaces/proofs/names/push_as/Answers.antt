use Rattle.std.proofs.Common.{◌++◌, sym, ap, ◌∙◌}
use Rattle.c_text.specs.Token.{plain_token}
use Rattle.cond_formula.specs.Conditions.{condition_of, value}
use Rattle.conditional.specs.Entries.{seen, under, entries_of, listed}
use Rattle.cond_name_spaces.specs.Spaced.{plain_name, numbered}
use Rattle.cond_name_spaces.specs.Progress.{member_by, one_name, space_of}
use Rattle.cond_name_spaces.proofs.Noting.{one_member}
use Rattle.cond_name_spaces.proofs.names.push_as.Goals as goal

pub returns-in_ok-push_member-in-Member : goal.returns-in_ok-push_member-in-Member
returns-in_ok-push_member-in-Member c = λ on tag one.
    let name = numbered c.args.name.number (plain_token c.args.name.token.now) in
    c.in_ok-push_member-in-Member.ensures on
    ∙ ap (λ names. seen on (listed plain_name c.args.log.now) ++ under (value on (condition_of c.args.when)) names)
    (ap (λ list. seen on (entries_of (member_by name) list)) c.deref.ensures.value
    ∙ (one_member on name c.args.tags.now.entries.items tag one ∙ ap (λ declares. one_name name (space_of tag declares)) (sym c.in-Member.is)))
