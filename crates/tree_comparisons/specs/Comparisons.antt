-- What a comparison comes to.
use Rattle.std.specs.Prelude.{Bool, true, false}
use Rattle.tree_comparisons.specs.declared.comparing.Comparison.{Comparison}
use Rattle.tree_comparisons.specs.declared.comparing.Comparison.TheVariants.{SameTree, BothRefuse}

abbrev pub agrees : Comparison → Bool
agrees SameTree = true
agrees BothRefuse = true
agrees other = false
