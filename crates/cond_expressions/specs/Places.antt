-- A model of the code, not part of the meaning:
-- places in an expression that is read token by token, or none where no expression goes on like this.
use Rattle.std.specs.Prelude.{[], Option, option_map, option_and_then}
use Rattle.c_text.specs.Expressions.{Word}
use Rattle.pp_lines.specs.declared.expressions.Value.{Value}
use Rattle.pp_lines.specs.ExpressionReading.{Place, Outcome, outcomes, next}
use Rattle.pp_lines.specs.ExpressionView.{reader_view, read_on}
use Rattle.cond_expressions.specs.declared.places.ExpressionPlace.{ExpressionPlace}

abbrev pub place_view : ExpressionPlace → Option (Place Outcome)
place_view place = option_map reader_view place.reader

-- behind one word more
abbrev pub next_place : Option (Place Outcome) → Word → Option (Place Outcome)
next_place place word = option_and_then (λ p. next outcomes p.last p.waits word) place

-- what the expression is worth if it ends there
abbrev pub value_at : Option (Place Outcome) → Value
value_at place = read_on place []
