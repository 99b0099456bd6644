use Rattle.std.proofs.Common.{◌≡◌, ℕ, Bool, ◌++◌, map, drop}
use Rattle.c_text.specs.Token.{plain_token}
use Rattle.conditional.specs.Entries.{entries_of, seen}
use Rattle.cond_bodies.specs.CondMeanings.{plain_function}
use Rattle.cond_runs.specs.Functions.{without_params}
use Rattle.cond_macros.proofs.replacing.as_functions.Given as goal

abbrev pub invariant-loop-object : goal.invariant-loop-object
invariant-loop-object l = (on : ℕ → Bool) →
    seen on (entries_of plain_function l.functions.items) ++ map without_params (seen on (entries_of (λ b. map plain_token b.now) (drop l.object-index l.objects)))
    ≡ map without_params (seen on (entries_of (λ b. map plain_token b.now) l.objects))
