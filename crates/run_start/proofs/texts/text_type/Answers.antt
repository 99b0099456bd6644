use Rattle.std.proofs.Common.{ap, ◌∙◌}
use Rattle.c_types.specs.Types.{plain_type, array_of, char}
use Rattle.c_types.specs.TypeLaws.{plain_type-Array, plain_type-Char}
use Rattle.run_start.proofs.texts.text_type.Goals as goal

pub returns : goal.returns
returns c =
    let element = c.in_ok-element.element in
    let count = c.in_ok-count.count in
    plain_type-Array element count
    ∙ (ap (λ t. array_of t count) (ap plain_type c.in_ok-element.ensures.ok ∙ plain_type-Char)
    ∙ ap (array_of char) c.in_ok-count.ensures)
