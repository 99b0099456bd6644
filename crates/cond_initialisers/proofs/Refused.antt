-- What is refused, whatever it would come to.
use Rattle.std.proofs.Common.{◌≡◌, true, List, refl, sym, ◌∙◌}
use Rattle.std.specs.Prelude.{◌||◌}
use Rattle.core_meaning.specs.Checking.{Binding, Checked, fine, refused, broken, with_bindings, ◌>>=◌, give}
use Rattle.operand_types.specs.Operators.{test_outcome}
use Rattle.statement_readings.specs.Walks.{is_refused}
use Rattle.statement_readings.proofs.Steps.{given_on}
use Rattle.cond_initialisers.specs.Refusals.{is_refusal}

pub refused_with : {A : Type 0} (before : List Binding) (m : Checked A) → is_refused (with_bindings before m) ≡ is_refused m
refused_with before (fine x bindings) = refl
refused_with before (refused kind token) = refl
refused_with before broken = refl

pub test_refused : {A : Type 0} (m : Checked A) → is_refusal (test_outcome m) ≡ is_refused m
test_refused (fine x bindings) = refl
test_refused (refused kind token) = refl
test_refused broken = refl

pub then_with : {A B : Type 0} (before : List Binding) (m : Checked A) (next : A → Checked B) → is_refused (with_bindings before m >>= next) ≡ is_refused (m >>= next)
then_with before (fine x bindings) next = refused_with _ (next x) ∙ sym (refused_with bindings (next x))
then_with before (refused kind token) next = refl
then_with before broken next = refl

pub always_refused : {A B : Type 0} (m : Checked A) (next : A → Checked B) → ((x : A) → is_refused (next x) ≡ true) → true ≡ is_refused (m >>= next)
always_refused (fine x bindings) next each = sym (refused_with bindings (next x) ∙ each x)
always_refused (refused k t) next each = refl
always_refused broken next each = refl

-- one judgement and another behind it
pub refused_both : {A B C : Type 0} (m : Checked A) (n : Checked B) (f : A → B → C) → (is_refused m || is_refused n) ≡ is_refused (m >>= (λ x. n >>= (λ y. give (f x y))))
refused_both (fine x bindings) n f = sym (refused_with bindings (n >>= (λ y. give (f x y))) ∙ given_on n (f x))
refused_both (refused kind token) n f = refl
refused_both broken n f = refl
