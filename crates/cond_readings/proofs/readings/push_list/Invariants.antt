use Rattle.std.proofs.Common.{◌≡◌, ℕ, Bool, ◌++◌}
use Rattle.cond_formula.specs.Conditions.{condition_of, value}
use Rattle.c_text.specs.Token.{plain_token}
use Rattle.conditional.specs.Entries.{entries_of, seen, under}
use Rattle.cond_tokens.specs.Streams.{tokens_at}
use Rattle.cond_readings.proofs.readings.push_list.Given as goal

abbrev pub invariant-loop-entry : goal.invariant-loop-entry
invariant-loop-entry l = (on : ℕ → Bool) →
    tokens_at on l.tokens.items ≡ tokens_at on l.initial.tokens.items ++ under (value on (condition_of l.here)) (seen on (entries_of plain_token l.yielded))
