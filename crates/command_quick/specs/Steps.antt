-- A model of the words as the code holds them: no part of what the command means.
use Rattle.command_quick.specs.declared.words.Renaming.{Renaming as Words}
use Rattle.command_quick.specs.Words.{Renaming}

-- the renaming that the words ask for
abbrev pub asked : Words → Renaming
asked r = record { file = r.file.now; old = r.old.now; new = r.new.now; out = r.out.now }
