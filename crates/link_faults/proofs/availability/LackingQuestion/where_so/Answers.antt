use Rattle.std.proofs.Common.{not, ◌&&◌, Bool, List, ap, ap₂, ◌∙◌}
use Rattle.std.specs.Prelude.{if◌then◌else◌}
use Rattle.cond_formula.specs.Conditions.{Condition, condition_of, value}
use Rattle.core_meaning.specs.Linking.{is_internal, defines}
use Rattle.cond_bindings.specs.declared.unit_bindings.FileUse.{FileUse}
use Rattle.link_faults.specs.SeenUnits.{unit_seen, is_used}
use Rattle.link_faults.proofs.availability.LackingQuestion.where_so.Goals as goal

pub returns : goal.returns
returns c = λ on.
    let tables = c.args._tables.now in
    let unit = unit_seen on tables c.args.left.now in
    let name = c.args.self.now.name.now in
    c.in_ok-f.ensures on
    ∙ ap₂ (λ (u a : Bool). u && not a)
    (c.in_ok-used.ensures on ∙ ap (λ (uses : List FileUse). is_used on uses name) c.deref.ensures.value)
    (c.in_ok-available.ensures on
    ∙ ap₂ (λ (i d : Bool). if i then d else value on (condition_of c.in_ok-try_clone.field-0)) (c.in_ok-internal.ensures on tables) (c.in_ok-defined.ensures on tables)
    ∙ ap (λ (k : Condition). if is_internal unit name then defines unit name else value on k) c.in_ok-try_clone.ensures)
