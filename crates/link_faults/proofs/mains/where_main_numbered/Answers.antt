use Rattle.std.proofs.Common.{ap, ◌∙◌}
use Rattle.core_meaning.specs.Entities.{Signature, function}
use Rattle.core_meaning.specs.Linking.{is_main}
use Rattle.link_faults.proofs.mains.where_main_numbered.Goals as goal

pub returns : goal.returns
returns c = λ on.
    c.in_ok-r.ensures on
    ∙ ap (λ (s : Signature). is_main (function s)) (c.signature_or-f.ensures on (c.none-none.ensures on))
