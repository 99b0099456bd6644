use Rattle.std.proofs.Common.{◌≡◌, map, drop}
use Rattle.c_text.specs.Token.{plain_token}
use Rattle.c_text.specs.Preprocessing.{same_texts, texts}
use Rattle.macro_table.proofs.meanings.same_spellings.Given as goal

abbrev pub invariant-loop-i : goal.invariant-loop-i
invariant-loop-i l =
    same_texts (texts (map plain_token (drop l.i l.tokens))) (texts (map plain_token (drop l.i l.others)))
    ≡ same_texts (texts (map plain_token l.tokens)) (texts (map plain_token l.others))
