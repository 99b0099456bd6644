-- A scope that ends with a node.
use Rattle.std.proofs.Common.{◌≡◌, ℕ, Bool, true, false, List, sym, ap, subst}
use Rattle.scope_readings.specs.Scopes.{Scopes, leave}
use Rattle.scope_readings.specs.Walks.{leave_if}
use Rattle.cond_bindings.specs.Names.{PlainNames, seen, Steps}

module _ (on : ℕ → Bool) (before behind : List ℕ) (walk : Scopes → Scopes) (old mid : PlainNames) where
  -- what the blocks within it declared isn't visible any more
  left_steps :
      (path : Bool) → Steps on path before walk behind old mid
      → Steps on path before (λ s. leave s (walk s)) behind old (record mid { blocks = old.blocks })
  left_steps true steps = ap (leave (seen on before old)) steps
  left_steps false steps = ap (leave (seen on behind old)) steps

  pub leaves :
      (path ends : Bool) (new : PlainNames) → ends ≡ true → new ≡ record mid { blocks = old.blocks } → Steps on path before walk behind old mid
      → Steps on path before (λ s. leave_if ends s (walk s)) behind old new
  leaves path ends new is left steps =
      subst (λ e. Steps on path before (λ s. leave_if e s (walk s)) behind old new) (sym is)
      (subst (λ n. Steps on path before (λ s. leave s (walk s)) behind old n) (sym left) (left_steps path steps))
