use Rattle.named_classes.proofs.One.{classes-one}
use Rattle.named_classes.proofs.named_classes_are_one.Goals as goal

pub returns : goal.returns
returns c = classes-one c.bytes_tell_tokens.ensures c.lines_are_one.ensures c.places_tell_tokens.ensures
