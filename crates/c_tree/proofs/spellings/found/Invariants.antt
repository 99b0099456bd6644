use Rattle.std.proofs.Common.{◌≡◌, map, drop}
use Rattle.c_tree.specs.Spellings.{plain_spelling}
use Rattle.c_tree.specs.Terminals.{found}
use Rattle.c_tree.proofs.spellings.found.Given as goal

abbrev pub invariant-loop-spelling : goal.invariant-loop-spelling
invariant-loop-spelling l =
    found l.text (map plain_spelling l.spellings) ≡ found l.text (map plain_spelling (drop l.spelling-index l.spellings))
