-- What replaces a list of tokens in a configuration.
use Rattle.std.specs.Prelude.{◌≡◌, ℕ, Bool, false}
use Rattle.c_text.specs.Token.{plain_token}
use Rattle.c_text.specs.Macros.{Replaced}
use Rattle.cond_formula.specs.Conditions.{condition_of, value}
use Rattle.conditional.specs.Entries.{listed, seen}
use Rattle.cond_macros.specs.Outcomes.{is_bad_call, tokens_of}
use Rattle.cond_macros.specs.declared.replacement.CondReplacement.{CondReplacement}

-- it is refused where a call is; elsewhere its tokens replace the list
pub record Replaces (on : ℕ → Bool) (plain : Replaced) (all : CondReplacement) : Type 0 where
  pub refused : value on (condition_of all.refused) ≡ is_bad_call plain
  pub tokens : is_bad_call plain ≡ false → seen on (listed plain_token all.tokens) ≡ tokens_of plain
