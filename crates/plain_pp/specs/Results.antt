-- What this crate's calls answer.
use Rattle.std.specs.Prelude.{◌≡◌, Bool, Result, Ok, Err, ⊤}
use Rattle.c_text.specs.Preprocessing as spec
use Rattle.c_text.specs.Preprocessing.{Condition, holds, fails}
use Rattle.plain_pp.specs.declared.errors.PpError.{PpError}
use Rattle.plain_pp.specs.declared.errors.PpError.TheVariants.{Refused, Memory}
use Rattle.unit_files.specs.Refusals.{refusal_view}

-- the error is a refusal with this property, or want of memory
abbrev pub Says : PpError → (spec.Refusal → Type 0) → Type 0
Says (Refused kind at) P = P (refusal_view kind at)
Says Memory P = ⊤

-- the call finds out whether the condition holds, or why it is refused
abbrev pub Decides : Result Bool PpError → Condition → Type 0
Decides (Ok truth) condition = condition ≡ holds truth
Decides (Err e) condition = Says e (λ why. condition ≡ fails why)
