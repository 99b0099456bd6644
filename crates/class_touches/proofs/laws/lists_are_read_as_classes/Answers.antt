use Rattle.class_touches.proofs.Listed.{read-as-classes}
use Rattle.class_touches.proofs.laws.lists_are_read_as_classes.Goals as goal

pub returns : goal.returns
returns c = read-as-classes
