-- The tokens of an expression one by one.
use Rattle.std.proofs.Common.{◌≡◌, ℕ, zero, suc, ◌≤◌, List, [], ◌∷◌, ◌++◌, Option, Some, None, true, false, refl, ap, sym, arith}
use Rattle.std.specs.Prelude.{codes}
use Rattle.std.proofs.lemmas.List.{append_assoc}
use Rattle.c_text.specs.Token.{PlainToken}
use Rattle.c_text.specs.Directives.{is_spelled}
use Rattle.c_text.specs.Macros.{Table}
use Rattle.c_text.specs.Preprocessing.{tests_replaced, by_test, test_at, with_token}
use Rattle.cond_readings.specs.Tests.{with_front}

pub at-defined : (table : Table) (ts : List PlainToken) (more : ℕ) (token : PlainToken) (rest : List PlainToken) → more ≤ 0 → is_spelled (codes "defined") token ≡ true → with_front ts (tests_replaced table more (token ∷ rest)) ≡ with_front ts (by_test table token (test_at rest) (λ m. tests_replaced table m rest))
at-defined table ts zero token rest h e = rw e refl
at-defined table ts (suc more) token rest h e = absurd (omega arith)

pub with-one : (ts : List PlainToken) (token : PlainToken) (o : Option (List PlainToken)) → with_front ts (with_token token o) ≡ with_front (ts ++ token ∷ []) o
with-one ts token None = refl
with-one ts token (Some others) = ap Some (sym (append_assoc ts (token ∷ []) others))

pub at-other : (table : Table) (ts : List PlainToken) (more : ℕ) (token : PlainToken) (rest : List PlainToken) → more ≤ 0 → is_spelled (codes "defined") token ≡ false → with_front ts (tests_replaced table more (token ∷ rest)) ≡ with_front (ts ++ token ∷ []) (tests_replaced table more rest)
at-other table ts zero token rest h e = rw e (with-one ts token (tests_replaced table 0 rest))
at-other table ts (suc more) token rest h e = absurd (omega arith)
