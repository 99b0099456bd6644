-- Open calls under conditions, step by step.
use Rattle.std.proofs.Common.{◌≡◌, ℕ, suc, ◌+◌, ◌<◌, ◌≤◌, Bool, ◌||◌, List, [], ◌∷◌, ◌++◌, map, drop, length, get_or, sym, ap, ◌∙◌, add-one, drop-cons}
use Rattle.std.proofs.lemmas.List.{drop_all, map-append}
use Rattle.cond_formula.specs.Conditions.{condition_of, value}
use Rattle.conditional.specs.Entries.{seen, under}
use Rattle.cond_runs.specs.declared.calls.Call.{Call}
use Rattle.cond_runs.specs.Pieces.{some_open}
use Rattle.cond_runs.specs.CondCalls.{held_at, call_entry, calls_at}
use Rattle.cond_runs.proofs.ArgumentLemmas.{or_false}
use Rattle.cond_runs.proofs.RunLemmas.{held_pushed, open_cases}

next_call : (xs : List Call) (x : Call) (i : ℕ) → i < length xs → x ≡ get_or xs i x → drop i xs ≡ x ∷ drop (i + 1) xs
next_call xs x i within is = rw (add-one, drop-cons xs i x within) (ap (λ (y : Call). y ∷ drop (suc i) xs) (sym is))

pub open_step : (on : ℕ → Bool) (xs : List Call) (x : Call) (i : ℕ) (some new all : Bool) → i < length xs → x ≡ get_or xs i x → new ≡ (some || value on (condition_of x.when)) →
    (some || some_open (calls_at on (drop i xs))) ≡ all → (new || some_open (calls_at on (drop (i + 1) xs))) ≡ all
open_step on xs x i some new all within is is_new before =
    let before' = rw (next_call xs x i within is) at before in
    ap (λ (b : Bool). b || some_open (calls_at on (drop (i + 1) xs))) is_new ∙ open_cases some (value on (condition_of x.when)) all (held_at on x) (calls_at on (drop (i + 1) xs)) before'

pub open_end : (on : ℕ → Bool) (xs : List Call) (i : ℕ) (some all : Bool) → length xs ≤ i → (some || some_open (calls_at on (drop i xs))) ≡ all → some ≡ all
open_end on xs i some all past before =
    let e = drop_all i xs past in
    let before' = rw e at before in
    or_false some ∙ before'

-- one call more
pub calls_pushed : (on : ℕ → Bool) (xs longer : List Call) (x : Call) → longer ≡ xs ++ x ∷ [] → calls_at on longer ≡ calls_at on xs ++ under (value on (condition_of x.when)) (held_at on x ∷ [])
calls_pushed on xs longer x is =
    ap (λ (l : List Call). calls_at on l) is
    ∙ ap (seen on) (map-append (call_entry on) xs (x ∷ []))
    ∙ held_pushed on (map (call_entry on) xs) (call_entry on x)
