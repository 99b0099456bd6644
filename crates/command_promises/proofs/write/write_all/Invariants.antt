use Rattle.std.proofs.Common.{take, map}
use Rattle.text_edits.specs.Files.{plain_file}
use Rattle.command_promises.specs.Giving.{WroteAll}
use Rattle.command_promises.proofs.write.write_all.Given as goal

abbrev pub invariant-loop-file : goal.invariant-loop-file
invariant-loop-file g l = WroteAll (g.S.Store.state l.fn.store) (map plain_file (take l.file-index l.files)) (g.S.Store.state l.store)
