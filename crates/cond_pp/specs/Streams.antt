-- What is promised of a unit in all configurations: in each it is what preprocessing makes of the unit there.
use Rattle.std.specs.Prelude.{◌≡◌, ℕ, Bool, true, false}
use Rattle.cond_formula.specs.Conditions.{condition_of, value}
use Rattle.c_text.specs.Preprocessing.{Sources, Refusal, IsPreprocessed, gives, is_refused}
use Rattle.cond_tokens.specs.declared.tokens.CondStream.{CondStream}
use Rattle.cond_tokens.specs.Streams.{tokens_at}

-- The stream is refused exactly where the unit is, and elsewhere its tokens that are present are those that the unit gives.
pub record IsStreamAt (on : ℕ → Bool) (s : Sources) (number : ℕ) (stream : CondStream) : Type 0 where
  pub refused : value on (condition_of stream.refused) ≡ true → (why : Refusal) × IsPreprocessed s number (is_refused why)
  pub tokens : value on (condition_of stream.refused) ≡ false → IsPreprocessed s number (gives (tokens_at on stream.tokens.items))
