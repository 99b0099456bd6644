use Rattle.cond_declarators.proofs.There.{bases_are_there, objects_are_there}
use Rattle.cond_declarators.proofs.laws.types_are_there.Goals as goal

pub returns-clause-bases : goal.returns-clause-bases
returns-clause-bases c = bases_are_there

pub returns-clause-objects : goal.returns-clause-objects
returns-clause-objects c = objects_are_there
