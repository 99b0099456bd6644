use Rattle.std.proofs.Common.{ℕ, List, length, ap, ◌∙◌}
use Rattle.std.specs.Prelude.{option_map}
use Rattle.type_tables.specs.Seen.{seen_tables}
use Rattle.type_tables.specs.declared.entries.CondSignature.{CondSignature}
use Rattle.cond_types.specs.Leaving.{name_behind}
use Rattle.cond_types.proofs.LeftUnits.{begun_so}
use Rattle.cond_types.proofs.leaving.leave.Goals as goal

pub returns-clause-names : goal.returns-clause-names
returns-clause-names c = λ on name.
    c.in_ok-names.ensures.names on name
    ∙ ap (λ (n : ℕ). option_map (name_behind n) ((seen_tables on c.args.unit.now.tables).names name)) (c.in_ok-earlier.ensures ∙ ap (λ (l : List CondSignature). length l) c.deref.ensures.value)

pub returns-clause-begun : goal.returns-clause-begun
returns-clause-begun c = λ on.
    begun_so on c.args.unit.now.tables c.take_names.new.tables c.take_signatures.new.tables c.begin_unit-names_again.new.self c.args.unit.now.defined c.take_definitions-defined.new.defined
    c.in_ok-names.ensures.rest (c.begin_unit-names_again.ensures.seen on) (c.in_ok-take_signatures.ensures.seen on) (c.take_definitions-defined.ensures.none on)
