-- Steps of a reading beside the judgements that they stand for.
use Rattle.std.proofs.Common.{◌≡◌, Bool, true, false, List, refl, sym, ap, subst, ◌∙◌}
use Rattle.std.proofs.lemmas.Bool.{false≢true}
use Rattle.c_types.specs.Types.{PlainType}
use Rattle.core_meaning.specs.Checking.{Binding, Checked, fine, refused, broken, with_bindings, ◌>>=◌, give}
use Rattle.core_meaning.specs.Entities.{Scope}
use Rattle.core_meaning.specs.Declarations.{Locals}
use Rattle.statement_readings.specs.Walks.{State, is_refused, refused_if, with_locals}
use Rattle.statement_readings.specs.Laws.{starting}

pub none_such : {A : Type 0} → false ≡ true → A
none_such h = absurd (false≢true h)

-- the state is as the result says, or both are refused
abbrev pub Leaves : {A : Type 0} → (A → State → Type 0) → Checked A → State → Type 0
Leaves P (fine x bindings) s = P x s
Leaves P (refused kind token) s = s.refused ≡ true
Leaves P broken s = s.refused ≡ true

-- nothing is refused, and this is visible and these slots are taken
abbrev pub IsAt : {A : Type 0} → (A → Scope) → (A → List PlainType) → A → State → Type 0
IsAt scope_of slots_of x s = s ≡ starting (scope_of x) (slots_of x)

-- what is refused stays so
abbrev pub Stays : (State → State) → Type 0
Stays next = (s : State) → s.refused ≡ true → (next s).refused ≡ true

leaves_with : {A : Type 0} (P : A → State → Type 0) (before : List Binding) (m : Checked A) (s : State) → Leaves P m s → Leaves P (with_bindings before m) s
leaves_with P before (fine x bindings) s h = h
leaves_with P before (refused kind token) s h = h
leaves_with P before broken s h = h

pub leaves_then :
    {A B : Type 0} (f : A → Scope) (g : A → List PlainType) (P : B → State → Type 0) (m : Checked A) (n : A → Checked B) (next : State → State) → Stays next → (s : State)
    → Leaves (IsAt f g) m s → ((x : A) → Leaves P (n x) (next (starting (f x) (g x)))) → Leaves P (m >>= n) (next s)
leaves_then f g P (fine x bindings) n next stays s h each =
    leaves_with P bindings (n x) (next s) (subst (λ t. Leaves P (n x) (next t)) (sym h) (each x))
leaves_then f g P (refused kind token) n next stays s h each = stays s h
leaves_then f g P broken n next stays s h each = stays s h

-- a test that changes nothing but what is refused
pub tested : {A : Type 0} (scope : Scope) (slots : List PlainType) (m : Checked A) (b : Bool) → b ≡ is_refused m → Leaves (IsAt (λ x. scope) (λ x. slots)) m (refused_if b (starting scope slots))
tested scope slots (fine x bindings) b e = ap (λ b. refused_if b (starting scope slots)) e
tested scope slots (refused kind token) b e = e
tested scope slots broken b e = e

pub locals_leave : (outer : Scope) (slots : List PlainType) (m : Checked Locals) → Leaves (IsAt (λ l. l.scope) (λ l. l.slots)) m (with_locals (starting outer slots) m)
locals_leave outer slots (fine l bindings) = refl
locals_leave outer slots (refused kind token) = refl
locals_leave outer slots broken = refl

-- ---- what is refused, whatever the bindings, the kinds of refusals and their tokens

refused_with : {A : Type 0} (before : List Binding) (m : Checked A) → is_refused (with_bindings before m) ≡ is_refused m
refused_with before (fine x bindings) = refl
refused_with before (refused kind token) = refl
refused_with before broken = refl

pub same_then :
    {A B C : Type 0} (m : Checked A) (f : A → Checked B) (g : A → Checked C) → ((x : A) → is_refused (f x) ≡ is_refused (g x))
    → is_refused (m >>= f) ≡ is_refused (m >>= g)
same_then (fine x bindings) f g h = refused_with bindings (f x) ∙ h x ∙ sym (refused_with bindings (g x))
same_then (refused kind token) f g h = refl
same_then broken f g h = refl

pub same_first :
    {A B C D : Type 0} (m : Checked A) (n : Checked B) (f : A → Checked C) (g : B → Checked D) → is_refused m ≡ is_refused n → ((x : A) (y : B) → is_refused (f x) ≡ is_refused (g y))
    → is_refused (m >>= f) ≡ is_refused (n >>= g)
same_first (fine x b) (fine y c) f g h each = refused_with b (f x) ∙ each x y ∙ sym (refused_with c (g y))
same_first (fine x b) (refused kind token) f g h each = none_such h
same_first (fine x b) broken f g h each = none_such h
same_first (refused kind token) (fine y c) f g h each = none_such (sym h)
same_first (refused kind token) (refused k t) f g h each = refl
same_first (refused kind token) broken f g h each = refl
same_first broken (fine y c) f g h each = none_such (sym h)
same_first broken (refused k t) f g h each = refl
same_first broken broken f g h each = refl

-- a result that is given on
pub given_on : {A B : Type 0} (m : Checked A) (f : A → B) → is_refused (m >>= (λ x. give (f x))) ≡ is_refused m
given_on (fine x bindings) f = refl
given_on (refused kind token) f = refl
given_on broken f = refl
