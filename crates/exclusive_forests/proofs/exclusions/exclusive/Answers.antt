use Rattle.exclusive_forests.proofs.ApartLaws.{forest_apart}
use Rattle.exclusive_forests.proofs.exclusions.exclusive.Goals as goal

pub returns : goal.returns
returns c = λ on. forest_apart on c.args.forest _ (c.in_ok-items.ensures on)
