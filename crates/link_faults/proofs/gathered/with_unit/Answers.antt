use Rattle.std.proofs.Common.{◌&&◌, ◌||◌, ap, ◌∙◌, List}
use Rattle.std.specs.List.{list_any}
use Rattle.cond_formula.specs.Conditions.{condition_of, value}
use Rattle.conditional.specs.declared.entries.Guarded.{Guarded}
use Rattle.type_tables.specs.declared.entries.FileName.{FileName}
use Rattle.link_faults.specs.Gathered.{meaning_so, some_declared}
use Rattle.link_faults.proofs.Gathering.{unit_is}
use Rattle.link_faults.proofs.gathered.with_unit.Goals as goal

pub returns : goal.returns
returns c = λ on tables test.
    let present = value on (condition_of c.args.left.now.when) in
    let before = some_declared on tables test c.args.so_far.items in
    c.in_ok-all.ensures on tables test
    ∙ ap (λ (xs : List (Guarded FileName)). before || list_any (λ (e : Guarded FileName). present && meaning_so on tables test e) xs) c.deref.ensures.value
    ∙ ap (λ b. before || b) (unit_is on tables test c.args.name.now present c.args.left.now c.in_ok-meanings.meanings.alternatives.items (c.in_ok-meanings.ensures on))
