use Rattle.std.proofs.Common.{false, [], refl}
use Rattle.std.specs.Prelude.{None}
use Rattle.selections.proofs.Identifiers.{each_told}
use Rattle.selections.proofs.each_identifier_is_told_of.Goals as goal

pub returns : goal.returns
returns c = λ known tree. each_told known None false tree [] [] refl
