use Rattle.std.proofs.Common.{All, map, take, string_bytes}
use Rattle.folder_names.specs.Folders.{IsApart}
use Rattle.rename_words.proofs.fits.are_apart.Given as goal

abbrev pub invariant-loop-name : goal.invariant-loop-name
invariant-loop-name l = All (λ name. IsApart name l.folder) (map string_bytes (take l.name-index l.names))
