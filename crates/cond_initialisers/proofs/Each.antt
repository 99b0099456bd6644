-- What each result of a judgement is.
use Rattle.std.proofs.Common.{Bool, true, false, List}
use Rattle.std.specs.Prelude.{⊤, if◌then◌else◌}
use Rattle.core_meaning.specs.Checking.{Binding, Checked, fine, refused, broken, with_bindings, ◌>>=◌}

abbrev pub Each : {A : Type 0} → (A → Type 0) → Checked A → Type 0
Each P (fine x bindings) = P x
Each P (refused kind token) = ⊤
Each P broken = ⊤

pub each_with : {A : Type 0} (P : A → Type 0) (before : List Binding) (c : Checked A) → Each P c → Each P (with_bindings before c)
each_with P before (fine x bindings) is = is
each_with P before (refused kind token) is = tt
each_with P before broken is = tt

-- what comes of any result
pub each_after : {A B : Type 0} (P : B → Type 0) (f : A → Checked B) → ((x : A) → Each P (f x)) → (c : Checked A) → Each P (c >>= f)
each_after P f each (fine x bindings) = each_with P bindings (f x) (each x)
each_after P f each (refused kind token) = tt
each_after P f each broken = tt

-- what comes of results that are so
pub each_then : {A B : Type 0} (Q : A → Type 0) (P : B → Type 0) (f : A → Checked B) → ((x : A) → Q x → Each P (f x)) → (c : Checked A) → Each Q c → Each P (c >>= f)
each_then Q P f each (fine x bindings) is = each_with P bindings (f x) (each x is)
each_then Q P f each (refused kind token) is = tt
each_then Q P f each broken is = tt

pub each_of_both : {A : Type 0} (P : A → Type 0) (b : Bool) (c d : Checked A) → Each P c → Each P d → Each P (if b then c else d)
each_of_both P true c d is_c is_d = is_c
each_of_both P false c d is_c is_d = is_d
