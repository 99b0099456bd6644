use Rattle.std.proofs.Common.{List, refl, subst}
use Rattle.conditional.specs.declared.entries.Guarded.{Guarded}
use Rattle.type_tables.specs.declared.definitions.Definition.{Definition}
use Rattle.link_faults.specs.Several.{Count}
use Rattle.link_faults.specs.SeenUnits.{unit_seen}
use Rattle.link_faults.specs.Measures.{whole_in}
use Rattle.link_faults.proofs.Entries.{counted_defined}
use Rattle.link_faults.proofs.definitions.definitions.Goals as goal

pub returns : goal.returns
returns c = λ on tables.
    counted_defined on c.in_ok-whole.whole (record { one = c.in_ok-one.one; two = c.in_ok-whole.whole.two }) (unit_seen on tables c.args.left.now) c.args.name.now
    (c.in_ok-one.ensures on tables)
    (subst (λ (xs : List (Guarded Definition)). Count on c.in_ok-whole.whole (whole_in on c.args.name.now xs)) c.deref.ensures.value (c.in_ok-whole.ensures on)) refl
