use Rattle.std.proofs.Common.{List, ap, ◌∙◌, subst}
use Rattle.std.specs.List.{AllZip}
use Rattle.name_places.specs.Places.{place_of}
use Rattle.type_tables.specs.Seen.{name_in}
use Rattle.type_tables.specs.declared.entries.CondName.{CondName}
use Rattle.cond_types.specs.Leaving.{IsLeftAs}
use Rattle.cond_types.proofs.LeftNames.{left_names_seen}
use Rattle.cond_types.proofs.left_names.take_names.Goals as goal

pub returns-clause-names : goal.returns-clause-names
returns-clause-names c = λ on name.
    ap (λ places. name_in on c.in_ok-declared.declared.items name (place_of places name)) c.take_places-places.ensures.places
    ∙ left_names_seen c.args.earlier on name c.args.tables.now.declared.items c.in_ok-declared.declared.items (place_of c.args.tables.now.names name)
    (subst (λ (names : List CondName). AllZip (IsLeftAs c.args.earlier) names c.in_ok-declared.declared.items) c.deref.ensures.value c.in_ok-declared.ensures)
