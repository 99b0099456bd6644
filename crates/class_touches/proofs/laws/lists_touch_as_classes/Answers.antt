use Rattle.class_touches.proofs.Listed.{touch-as-classes}
use Rattle.class_touches.proofs.laws.lists_touch_as_classes.Goals as goal

pub returns : goal.returns
returns c = touch-as-classes
