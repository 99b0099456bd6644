use Rattle.folder_names.proofs.Standing.{stands_in, stands_elsewhere}
use Rattle.folder_names.proofs.folders.is_in_folder.Goals as goal

pub returns-in-Some : goal.returns-in-Some
returns-in-Some c = stands_in c.args.name.now c.args.folder.now c.in-Some.rest c.begins_with_slash.result c.in-Some.ensures.cases c.begins_with_slash.ensures

pub returns-in-None : goal.returns-in-None
returns-in-None c = stands_elsewhere c.args.name.now c.args.folder.now c.in-None.ensures.cases
