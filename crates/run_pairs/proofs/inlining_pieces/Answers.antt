use Rattle.run_pairs.proofs.InliningLaw.{inlining_pieces_lem}
use Rattle.run_pairs.proofs.inlining_pieces.Goals as goal

pub returns : goal.returns
returns c = inlining_pieces_lem
