-- An item that a call reads.
use Rattle.std.proofs.Common.{◌≡◌, ℕ, ◌<◌, Bool, true, false, ◌&&◌, refl, arith}
use Rattle.std.specs.Prelude.{codes, nat_lt, ◌==◌}
use Rattle.std.proofs.lemmas.Grind.{common_steps}
use Rattle.c_text.specs.Directives.{is_spelled}
use Rattle.c_text.specs.Macros as spec

pub plain_progress : (call : spec.Call) (item : spec.Item) → is_spelled (codes ")") item.token ≡ false → is_spelled (codes "(") item.token ≡ false → (is_spelled (codes ",") item.token && call.nested == 1) ≡ false →
    spec.progress call item ≡ spec.goes_on (spec.with_item call item)
plain_progress call item e f g = rw (e, f, g) refl

pub false_last : (b : Bool) → (b && false) ≡ false
false_last true = refl
false_last false = refl

pub deep : (a : Bool) (n : ℕ) → (a && nat_lt n 2) ≡ false → a ≡ true → 1 < n
deep true n e f = grind (arith, common_steps)
deep false n e f = cc
