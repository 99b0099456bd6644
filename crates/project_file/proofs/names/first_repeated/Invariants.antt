use Rattle.std.proofs.Common.{take, map}
use Rattle.project_file.proofs.NameLemmas.{HoldsNames, text_of}
use Rattle.project_file.proofs.names.first_repeated.Given as goal

abbrev pub invariant-loop-name : goal.invariant-loop-name
invariant-loop-name l = HoldsNames l.earlier (map text_of (take l.name-index l.names))
