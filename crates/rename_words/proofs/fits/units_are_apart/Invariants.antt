use Rattle.std.proofs.Common.{All, map, take}
use Rattle.folder_names.specs.Folders.{IsApart}
use Rattle.rename_words.specs.Steps.{file_of}
use Rattle.rename_words.proofs.fits.units_are_apart.Given as goal

abbrev pub invariant-loop-unit : goal.invariant-loop-unit
invariant-loop-unit l = All (λ name. IsApart name l.folder) (map file_of (take l.unit-index l.units))
