-- A call comes to something, whichever command it is of.
use Rattle.std.specs.declared.alloc.Global.{Global}
use Rattle.text_edits.specs.Files.{Lookup}
use Rattle.command_outcomes.specs.Concluding.{Concludes}
use Rattle.command_outcomes.specs.Laws.{QuickConcludes, AdmitConcludes, TokensConclude}
use Rattle.command_outcomes.proofs.Courses.{words_conclude}
use Rattle.run_outcomes.specs.Laws.{RunConcludes}
use Rattle.command_check.specs.Laws.{CheckConcludes}
use Rattle.command_rename.specs.Laws.{RenameConcludes}
use Rattle.morpheus_top.specs.declared.commands.Which.{Which}
use Rattle.morpheus_top.specs.declared.commands.Which.TheVariants.{Quick, Admit, Tokens, Run, Check, Rename}
use Rattle.morpheus_top.specs.Commands.{commands}
use Rattle.morpheus_top.specs.Laws.{CallsConclude}

module _ (quick : QuickConcludes) (admit : AdmitConcludes) (tokens : TokensConclude) (run : RunConcludes) (check : CheckConcludes) (rename : RenameConcludes) (alloc : Global) (held : Lookup) where
  by_command : (which : Which) (query : (commands which).Query) → Concludes ((commands which).Does query) held
  by_command Quick query = quick query held
  by_command Admit query = admit alloc query held
  by_command Tokens query = tokens alloc query held
  by_command Run query = run alloc query held
  by_command Check query = check alloc query held
  by_command Rename query = rename alloc query held

pub calls_end : QuickConcludes → AdmitConcludes → TokensConclude → RunConcludes → CheckConcludes → RenameConcludes → CallsConclude
calls_end quick admit tokens run check rename alloc words held = words_conclude held commands (by_command quick admit tokens run check rename alloc held) words
