-- Tests of the occurrences that are told of the units of a project.
use Rattle.std.specs.Prelude.{ℕ, Bool, false, ◌||◌, List, ◌∷◌}
use Rattle.cond_tokens.specs.declared.tokens.CondStream.{CondStream}
use Rattle.cond_pairings.specs.Pairs.{pairs_seen}
use Rattle.told_occurrences.specs.declared.told.ToldUnit.{ToldUnit}
use Rattle.class_occurrences.specs.Occurring.{Occurring, some_passes}

module _ (on : ℕ → Bool) (test : Occurring → Bool) where
  -- what a configuration sees of what is told of some unit passes, by the tokens of the unit's stream
  abbrev pub some_unit_passes : List CondStream → List ToldUnit → Bool
  some_unit_passes (stream ∷ streams) (told ∷ rest) = some_passes test stream.tokens.items (pairs_seen on told.pairs.items) || some_unit_passes streams rest
  some_unit_passes streams all = false
