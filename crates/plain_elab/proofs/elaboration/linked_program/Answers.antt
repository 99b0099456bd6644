use Rattle.std.proofs.Common.{◌≡◌, List, map, length, false, ap, ◌∙◌, arith}
use Rattle.std.proofs.lemmas.List.{length-map}
use Rattle.core_meaning.specs.Linking.{listed, program_of}
use Rattle.plain_link.specs.declared.left.Left.{Left}
use Rattle.plain_link.specs.PlainUnits.{plain_unit, plain_units}
use Rattle.plain_numbers.specs.PlainLinked.{plain_linked, plain_list}
use Rattle.plain_elab.proofs.elaboration.linked_program.Goals as goal

pub returns : goal.returns
returns c = λ trees texts.
    let are : plain_list c.in_ok-objects.objects ≡ listed (map (plain_unit 0) c.args.units.items) false =
    c.in_ok-objects.ensures.list.list ∙ ap (λ (left : List Left). listed (map (plain_unit 0) left) false) c.as_slice.ensures.value in
    let count : length c.in_ok-objects.objects.list.items ≡ c.args.objects_then =
    omega (arith, length-map c.in_ok-objects.objects.list.items plain_linked, ap length are, c.requires) in
    c.in_ok-program.ensures trees texts ∙ ap (λ n. program_of trees (plain_units n c.args.units.items c.args.structs.now)) count
