use Rattle.std.proofs.Common.{◌∙◌, sym}
use Rattle.command_projects.proofs.NameLists.{joined_ok}
use Rattle.command_projects.proofs.naming.listed.Goals as goal

pub returns : goal.returns
returns c = joined_ok c.args.names.now c.join.result (sym c.is_empty.ensures ∙ c.if-is_empty.false) c.join.ensures.ok
