-- The commands of the program.
use Rattle.std.specs.Prelude.{ℕ, List, [], ◌∷◌}
use Rattle.command_promises.specs.Commands as promises
use Rattle.command_promises.specs.Commands.{Command, Asked}
use Rattle.command_quick.specs.Quick.{quick}
use Rattle.command_admit.specs.Admit.{admit}
use Rattle.command_tokens.specs.Tokens.{tokens}
use Rattle.command_run.specs.Run.{run}
use Rattle.command_check.specs.Check.{check}
use Rattle.command_rename.specs.Rename.{rename}
use Rattle.morpheus_top.specs.declared.commands.Which.{Which}
use Rattle.morpheus_top.specs.declared.commands.Which.TheVariants.{Quick, Admit, Tokens, Run, Check, Rename}

abbrev pub commands : Which → Command
commands Quick = quick
commands Admit = admit
commands Tokens = tokens
commands Run = run
commands Check = check
commands Rename = rename

-- all of them, with the statuses with which something is said
abbrev pub program : Command
program = promises.program commands (0 ∷ 1 ∷ 2 ∷ 5 ∷ 8 ∷ 9 ∷ 10 ∷ 11 ∷ 12 ∷ [])

-- the words ask for nothing that the program does
abbrev pub IsUsage : List (List ℕ) → Type 0
IsUsage words = (which : Which) (query : (commands which).Query) → Asked (commands which) words query → ⊥
