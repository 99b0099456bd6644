use Rattle.std.proofs.Common.{◌∙◌, sym, refl}
use Rattle.c_tree.specs.Places.{are_same}
use Rattle.grammar_moves.proofs.WordLemmas.{any_joined, wordings-joined}
use Rattle.grammar_moves.proofs.wordings.may_end.Goals as goal

pub returns : goal.returns
returns c =
    c.some_is.ensures
    ∙ any_joined (are_same c.args.words.now) (λ words. words.now) c.storages.result.now c.types.result.now
    ∙ rw (c.storages.ensures, c.types.ensures, sym (wordings-joined c.args.wording)) refl
