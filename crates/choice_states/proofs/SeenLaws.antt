-- Trees without their leaves are read as trees with them.
use Rattle.std.proofs.Common.{refl}
use Rattle.c_tree.specs.Machine.{of_trees}
use Rattle.c_tree.proofs.Makings.{Carries}
use Rattle.choice_states.specs.Seen.{of_seen}

pub trees_carried : Carries of_seen of_trees (λ s. s.tree)
trees_carried = record { of_token = λ token. refl; of_parts = λ kind parts. refl; of_nothing = refl }
