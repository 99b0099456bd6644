use Rattle.std.proofs.Common.{map, sym}
use Rattle.std.proofs.lemmas.List.{length-map}
use Rattle.c_text.specs.Token.{plain_token}
use Rattle.c_text.specs.Preprocessing.{texts}
use Rattle.macro_table.proofs.MeaningLemmas.{lengths_differ}
use Rattle.macro_table.proofs.meanings.same_spellings.Goals as goal

pub returns-then-tokens-others : goal.returns-then-tokens-others
returns-then-tokens-others c =
    sym (lengths_differ (texts (map plain_token c.args.tokens.now)) (texts (map plain_token c.args.others.now))
    (λ same. c.if-tokens-others.true (simp length-map at same)))
