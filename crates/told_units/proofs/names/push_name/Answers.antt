use Rattle.std.proofs.Common.{ℕ, List, ◌++◌, ap, sym, ◌∙◌}
use Rattle.std.specs.Prelude.{Some}
use Rattle.cond_formula.specs.Conditions.{condition_of, value}
use Rattle.conditional.specs.Entries.{under}
use Rattle.bindings.specs.Visible.{NameSpace, tags, members_of}
use Rattle.name_spaces.specs.Laws.{common_by}
use Rattle.cond_name_spaces.specs.Spaced.{plain_space}
use Rattle.told_occurrences.specs.Told.{NumberedName, numbered}
use Rattle.told_occurrences.specs.Units.{names_seen}
use Rattle.told_units.proofs.names.push_name.Goals as goal

pub returns-in_ok-push_tag-in-Tags : goal.returns-in_ok-push_tag-in-Tags
returns-in_ok-push_tag-in-Tags c on unit tells =
    let with_name : NameSpace → List ℕ → List NumberedName = λ space text.
    names_seen on c.args.all.now.items ++ under (value on (condition_of c.args.when)) (numbered c.args.name.now.number (common_by unit (Some space) text)) in
    c.in_ok-push_tag-in-Tags.ensures on unit
    ∙ ap (λ text. with_name tags text) c.as_slice-text.ensures.value
    ∙ ap (λ space. with_name (plain_space space) c.args.name.now.token.text.items) (sym c.in-Tags.is)

pub returns-in_ok-push_member-in-MembersOf : goal.returns-in_ok-push_member-in-MembersOf
returns-in_ok-push_member-in-MembersOf c on unit tells =
    let with_name : NameSpace → List ℕ → List NumberedName = λ space text.
    names_seen on c.args.all.now.items ++ under (value on (condition_of c.args.when)) (numbered c.args.name.now.number (common_by unit (Some space) text)) in
    c.in_ok-push_member-in-MembersOf.ensures on unit
    ∙ ap (λ tag. with_name (members_of tag) c.as_slice-text.result.now) c.deref.ensures.value
    ∙ ap (λ text. with_name (members_of c.in-MembersOf.tag.items) text) c.as_slice-text.ensures.value
    ∙ ap (λ space. with_name (plain_space space) c.args.name.now.token.text.items) (sym c.in-MembersOf.is)
