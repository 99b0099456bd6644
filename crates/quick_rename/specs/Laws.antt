-- LAWS on what is taken, each the contract of a function of this crate.
use Rattle.std.specs.Prelude.{ℕ, List, ◌⊎◌}
use Rattle.quick_form.specs.Quick.{Takes}

-- a file is taken for a renaming or it isn't
abbrev pub TakingIsDecided : Type 0
TakingIsDecided = (old new bytes : List ℕ) → Takes old new bytes ⊎ (Takes old new bytes → ⊥)
