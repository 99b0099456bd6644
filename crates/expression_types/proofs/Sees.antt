-- A judgement and what is read of it.
use Rattle.std.proofs.Common.{◌≡◌, Bool, true, false, List, refl, sym, ap, subst}
use Rattle.std.specs.Prelude.{if◌then◌else◌}
use Rattle.core_meaning.specs.Checking.{Binding, Checked, fine, refused, broken, with_bindings, ◌>>=◌}
use Rattle.conditional.specs.Judgements as seen
use Rattle.conditional.specs.Judgements.{bind}
use Rattle.operand_types.specs.OperandTypes.{outcome_as}

-- what is read is the form of what a judgement comes to, of which this holds, or both are refused
abbrev pub SeesAs : {A P : Type 0} → (A → P) → (A → Type 0) → Checked A → seen.Checked P (Unit {0}) → Type 0
SeesAs form Q (fine x b) (seen.fine o) = (form x ≡ o) × Q x
SeesAs form Q (fine x b) (seen.refused why) = ⊥
SeesAs form Q (refused kind token) (seen.fine o) = ⊥
SeesAs form Q (refused kind token) (seen.refused why) = Unit {0}
SeesAs form Q broken (seen.fine o) = ⊥
SeesAs form Q broken (seen.refused why) = Unit {0}

pub sees_with : {A P : Type 0} (form : A → P) (Q : A → Type 0) (before : List Binding) (m : Checked A) (c : seen.Checked P (Unit {0}))
    → SeesAs form Q m c → SeesAs form Q (with_bindings before m) c
sees_with form Q before (fine x b) (seen.fine o) r = r
sees_with form Q before (fine x b) (seen.refused why) r = r
sees_with form Q before (refused kind token) (seen.fine o) r = r
sees_with form Q before (refused kind token) (seen.refused why) r = tt
sees_with form Q before broken (seen.fine o) r = r
sees_with form Q before broken (seen.refused why) r = tt

pub sees_without : {A P : Type 0} (form : A → P) (Q : A → Type 0) (before : List Binding) (m : Checked A) (c : seen.Checked P (Unit {0}))
    → SeesAs form Q (with_bindings before m) c → SeesAs form Q m c
sees_without form Q before (fine x b) (seen.fine o) r = r
sees_without form Q before (fine x b) (seen.refused why) r = r
sees_without form Q before (refused kind token) (seen.fine o) r = r
sees_without form Q before (refused kind token) (seen.refused why) r = tt
sees_without form Q before broken (seen.fine o) r = r
sees_without form Q before broken (seen.refused why) r = tt

pub sees_then :
    {A P B S : Type 0} (form : A → P) (Q : A → Type 0) (other : B → S) (R : B → Type 0) (m : Checked A) (c : seen.Checked P (Unit {0}))
    (f : A → Checked B) (g : P → seen.Checked S (Unit {0})) → SeesAs form Q m c → ((x : A) → Q x → SeesAs other R (f x) (g (form x))) → SeesAs other R (m >>= f) (bind c g)
sees_then form Q other R (fine x b) (seen.fine o) f g r next = sees_with other R b (f x) (g o) (subst (λ p. SeesAs other R (f x) (g p)) r.0 (next x r.1))
sees_then form Q other R (fine x b) (seen.refused why) f g r next = absurd r
sees_then form Q other R (refused kind token) (seen.fine o) f g r next = absurd r
sees_then form Q other R (refused kind token) (seen.refused why) f g r next = tt
sees_then form Q other R broken (seen.fine o) f g r next = absurd r
sees_then form Q other R broken (seen.refused why) f g r next = tt

-- where nothing comes of the rest, nothing is read
pub sees_nothing : {A B S : Type 0} (other : B → S) (R : B → Type 0) (m : Checked A) (f : A → Checked B) → ((x : A) → SeesAs other R (f x) (seen.refused tt)) → SeesAs other R (m >>= f) (seen.refused tt)
sees_nothing other R (fine x b) f next = sees_with other R b (f x) (seen.refused tt) (next x)
sees_nothing other R (refused kind token) f next = tt
sees_nothing other R broken f next = tt

-- the outcome alone
pub outcome_seen : {A P : Type 0} (form : A → P) (Q : A → Type 0) (m : Checked A) (c : seen.Checked P (Unit {0})) → SeesAs form Q m c → c ≡ outcome_as form m
outcome_seen form Q (fine x b) (seen.fine o) r = ap seen.fine (sym r.0)
outcome_seen form Q (fine x b) (seen.refused why) r = absurd r
outcome_seen form Q (refused kind token) (seen.fine o) r = absurd r
outcome_seen form Q (refused kind token) (seen.refused why) r = refl
outcome_seen form Q broken (seen.fine o) r = absurd r
outcome_seen form Q broken (seen.refused why) r = refl

-- ---- what holds of all that a judgement may come to

abbrev pub Comes : {A : Type 0} → (A → Type 0) → Checked A → Type 0
Comes Q (fine x b) = Q x
Comes Q (refused kind token) = Unit {0}
Comes Q broken = Unit {0}

comes_with : {A : Type 0} (Q : A → Type 0) (before : List Binding) (m : Checked A) → Comes Q m → Comes Q (with_bindings before m)
comes_with Q before (fine x b) q = q
comes_with Q before (refused kind token) q = tt
comes_with Q before broken q = tt

pub comes_then : {A B : Type 0} (Q : B → Type 0) (m : Checked A) (f : A → Checked B) → ((x : A) → Comes Q (f x)) → Comes Q (m >>= f)
comes_then Q (fine x b) f next = comes_with Q b (f x) (next x)
comes_then Q (refused kind token) f next = tt
comes_then Q broken f next = tt

pub comes_if : {A : Type 0} (Q : A → Type 0) (b : Bool) (m n : Checked A) → Comes Q m → Comes Q n → Comes Q (if b then m else n)
comes_if Q true m n p q = p
comes_if Q false m n p q = q

outcome_is : {A P : Type 0} (form : A → P) (Q : A → Type 0) (m : Checked A) → Comes Q m → SeesAs form Q m (outcome_as form m)
outcome_is form Q (fine x b) q = (refl, q)
outcome_is form Q (refused kind token) q = tt
outcome_is form Q broken q = tt

pub sees_from : {A P : Type 0} (form : A → P) (Q : A → Type 0) (m : Checked A) (c : seen.Checked P (Unit {0})) → outcome_as form m ≡ c → Comes Q m → SeesAs form Q m c
sees_from form Q m c h q = subst (SeesAs form Q m) h (outcome_is form Q m q)

pub bind_assoc : {A B C : Type 0} (c : seen.Checked A (Unit {0})) (f : A → seen.Checked B (Unit {0})) (g : B → seen.Checked C (Unit {0})) → bind c (λ x. bind (f x) g) ≡ bind (bind c f) g
bind_assoc (seen.fine x) f g = refl
bind_assoc (seen.refused why) f g = refl

-- what comes to nothing is seen like any refusal
pub never_fine : {A P : Type 0} (form : A → P) (Q : A → Type 0) (m n : Checked A) (c : seen.Checked P (Unit {0})) → Comes (λ x. ⊥) m → Comes (λ x. ⊥) n → SeesAs form Q m c → SeesAs form Q n c
never_fine form Q (fine x b) n c never other r = absurd never
never_fine form Q m (fine x b) c never other r = absurd other
never_fine form Q (refused kind token) (refused k t) (seen.fine o) never other r = r
never_fine form Q (refused kind token) (refused k t) (seen.refused why) never other r = tt
never_fine form Q (refused kind token) broken (seen.fine o) never other r = r
never_fine form Q (refused kind token) broken (seen.refused why) never other r = tt
never_fine form Q broken (refused k t) (seen.fine o) never other r = r
never_fine form Q broken (refused k t) (seen.refused why) never other r = tt
never_fine form Q broken broken (seen.fine o) never other r = r
never_fine form Q broken broken (seen.refused why) never other r = tt
