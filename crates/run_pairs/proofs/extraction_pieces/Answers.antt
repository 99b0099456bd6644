use Rattle.run_pairs.proofs.LawOnPieces.{extraction_pieces_lem}
use Rattle.run_pairs.proofs.extraction_pieces.Goals as goal

pub returns : goal.returns
returns c = extraction_pieces_lem
