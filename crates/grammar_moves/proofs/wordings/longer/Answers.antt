use Rattle.std.proofs.Common.{refl}
use Rattle.grammar_moves.specs.PlainPlaces.{plain_words}
use Rattle.grammar_moves.proofs.WordLemmas.{full-goes_on}
use Rattle.grammar_moves.proofs.wordings.longer.Goals as goal

pub returns-in_err-longer-clause-none : goal.returns-in_err-longer-clause-none
returns-in_err-longer-clause-none c =
    λ none. full-goes_on c.args.wording (plain_words c.args.words) c.args.word (c.in_err-longer.ensures.full refl)
