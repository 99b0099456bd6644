use Rattle.c_text.specs.Trees as trees
use Rattle.unit_files.specs.declared.roles.Role.{Role}
use Rattle.unit_files.specs.declared.roles.Role.TheVariants.{Begins, BeginsBranch, BeginsLast, Closes, StandsAlone}

abbrev pub plain_role : Role → trees.Role
plain_role Begins = trees.begins
plain_role BeginsBranch = trees.begins_branch
plain_role BeginsLast = trees.begins_last
plain_role Closes = trees.closes
plain_role StandsAlone = trees.stands_alone
