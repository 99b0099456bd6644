use Rattle.std.proofs.Common.{◌≡◌, ◌&&◌, List, sym, subst}
use Rattle.std.specs.Prelude.{if◌then◌else◌}
use Rattle.cond_formula.specs.Conditions.{condition_of, value}
use Rattle.conditional.specs.Entries.{some_holds, Carry, entries_of}
use Rattle.conditional.specs.declared.entries.Guarded.{Guarded}
use Rattle.type_tables.specs.declared.entries.DeclaredType.{DeclaredType}
use Rattle.type_tables.specs.Forms.{declared_type_form}
use Rattle.type_tables.specs.Seen.{seen_tables}
use Rattle.cond_structs.specs.Gathered.{gathered, with_type}
use Rattle.cond_structs.proofs.Outcome.{outcome_comes}
use Rattle.cond_structs.proofs.collecting.Gathering.add_outcome.Goals as goal

pub returns-clause-comes : goal.returns-clause-comes
returns-clause-comes c = λ on v shows here.
    outcome_comes on (seen_tables on c.args.tables.now) c.args.name.now c.args.types.now v (value on (condition_of c.args.here.now)) (value on (condition_of c.in_ok-refused.refused))
    (gathered on c.args.self.now) (gathered on c.add_first.new.self) (gathered on c.refuse.new.self)
    (λ ty carry.
    subst
    (λ (l : List (Guarded DeclaredType)). gathered on c.add_first.new.self
    ≡ (if value on (condition_of c.args.here.now) && some_holds on (entries_of declared_type_form l) then with_type (seen_tables on c.args.tables.now) c.args.name.now ty (gathered on c.args.self.now) else gathered on c.args.self.now))
    c.deref.ensures.value (c.in_ok-add_first.ensures.adds on ty (subst (λ (l : List (Guarded DeclaredType)). Carry on ty (entries_of declared_type_form l)) (sym c.deref.ensures.value) carry)))
    (c.in_ok-refuse.ensures on) (c.in_ok-refused.ensures on) shows here
