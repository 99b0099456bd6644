use Rattle.std.proofs.Common.{take}
use Rattle.std.specs.Prelude.{All}
use Rattle.tied_tokens.specs.Tokens.{plain_file_token}
use Rattle.tied_tokens.specs.Ties.{plain_tie, plain_tied_tokens}
use Rattle.tied_tokens.specs.Reached.{OccursBy}
use Rattle.tied_tokens.proofs.classes.occurs_somewhere.Given as goal

abbrev pub invariant-loop-tie : goal.invariant-loop-tie
invariant-loop-tie l = All (λ tie. OccursBy (plain_tied_tokens l.all) (plain_file_token l.place) (plain_tie tie) → ⊥) (take l.tie-index l.all.ties.now)
