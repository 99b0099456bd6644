use Rattle.std.proofs.Common.{not, List, ap, ◌∙◌}
use Rattle.conditional.specs.Entries.{entries_of, some_holds}
use Rattle.conditional.specs.declared.entries.Guarded.{Guarded}
use Rattle.type_tables.specs.Forms.{declared_type_form}
use Rattle.type_tables.specs.declared.entries.DeclaredType.{DeclaredType}
use Rattle.link_faults.proofs.LikeMain.{none_there}
use Rattle.link_faults.proofs.mains.where_empty.Goals as goal

pub returns : goal.returns
returns c = λ on.
    c.in_ok-f.ensures.holds on
    ∙ ap not (c.in_ok-some.ensures on ∙ ap (λ (xs : List (Guarded DeclaredType)). some_holds on (entries_of declared_type_form xs)) c.deref.ensures.value)
    ∙ none_there on c.args.parameters.now.entries.items
