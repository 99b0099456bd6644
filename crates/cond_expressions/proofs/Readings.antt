-- Expressions that are read token by token.
use Rattle.std.proofs.Common.{◌≡◌, ℕ, ◌+◌, ◌<◌, if◌then◌else◌, Bool, true, false, not, List, ◌∷◌, Option, Some, None, map, drop, length, get_or, refl, sym, ap, ◌∙◌}
use Rattle.std.specs.Prelude.{option_map}
use Rattle.cond_formula.specs.Conditions.{value, condition_of}
use Rattle.c_text.specs.Token.{plain_token}
use Rattle.c_text.specs.Expressions.{Word, word_of}
use Rattle.conditional.specs.Entries.{Entry, Sees}
use Rattle.pp_lines.specs.ExpressionReading.{Place, Outcome, at_start}
use Rattle.pp_lines.specs.ExpressionView.{read_on}
use Rattle.cond_tokens.specs.declared.tokens.CondToken.{CondToken}
use Rattle.cond_tokens.specs.Streams.{tokens_at}
use Rattle.cond_expressions.specs.Places.{next_place}
use Rattle.cond_expressions.proofs.SeenLaws.{item_of}

pub reads_on : (p : Option (Place Outcome)) (word : Word) (words : List Word) → read_on (next_place p word) words ≡ read_on p (word ∷ words)
reads_on None word words = refl
reads_on (Some p) word words = refl

-- a place where a token is read if it is present
abbrev pub place_behind : (ℕ → Bool) → CondToken → Option (Place Outcome) → Option (Place Outcome)
place_behind on token p = if value on (condition_of token.when) then next_place p (word_of (plain_token token.token)) else p

pub reads_item : (on : ℕ → Bool) (p : Option (Place Outcome)) (ts : List CondToken) (t : CondToken) (i : ℕ) → i < length ts → t ≡ get_or ts i t →
    read_on (place_behind on t p) (map word_of (tokens_at on (drop (i + 1) ts))) ≡ read_on p (map word_of (tokens_at on (drop i ts)))
reads_item on p ts t i within is =
    by_test (value on (condition_of t.when)) ∙ ap (λ (l : List CondToken). read_on p (map word_of (tokens_at on l))) (sym (item_of ts t i within is)) where
      by_test : (b : Bool) →
          read_on (if b then next_place p (word_of (plain_token t.token)) else p) (map word_of (tokens_at on (drop (i + 1) ts)))
          ≡ read_on p (map word_of (if b then plain_token t.token ∷ tokens_at on (drop (i + 1) ts) else tokens_at on (drop (i + 1) ts)))
      by_test true = reads_on p (word_of (plain_token t.token)) (map word_of (tokens_at on (drop (i + 1) ts)))
      by_test false = refl

-- of a value that is split by a condition: where the condition is true it is changed
pub split_sees : {P : Type 0} (on : ℕ → Bool) (f : P → P) (w elsewhere : Bool) (p : P) (all : List (Entry P)) → elsewhere ≡ not w →
    Sees on (if w then option_map f (if w then Some p else None) else (if elsewhere then Some p else None)) all → Sees on (Some (if w then f p else p)) all
split_sees on f true elsewhere p all is sees = sees
split_sees on f false true p all is sees = sees
split_sees on f false false p all is sees = absurd cc

-- where the reading of tokens stands, with those that are left
pub record Stand (on : ℕ → Bool) (all rest : List CondToken) (places : List (Entry (Option (Place Outcome)))) : Type 0 where
  pub place : Option (Place Outcome)
  pub seen_there : Sees on (Some place) places
  pub reads : read_on place (map word_of (tokens_at on rest)) ≡ read_on (Some at_start) (map word_of (tokens_at on all))
