use Rattle.unit_member_uses.proofs.FirstValues.{declarations_use_nothing}
use Rattle.unit_member_uses.proofs.declarations_use_nothing.Goals as goal

pub returns : goal.returns
returns c =
    declarations_use_nothing c.types_are_kept.ensures c.expressions_have_types.ensures c.counts_need_no_names.ensures c.first_values_name_no_members.ensures c.declarators_are_derived.ensures
    c.declarations_are_used.ensures c.scopes_keep_names.ensures
