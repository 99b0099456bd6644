-- Two judgements side by side that come to related results or are both refused.
use Rattle.std.proofs.Common.{◌≡◌, Bool, true, false, List, refl, sym, ap}
use Rattle.std.specs.Prelude.{Option, Some, None, if◌then◌else◌}
use Rattle.std.proofs.lemmas.Bool.{false≢true}
use Rattle.c_text.specs.Token.{PlainToken}
use Rattle.core_meaning.specs.declared.refusals.TypeKind.{TypeKind}
use Rattle.core_meaning.specs.Checking.{Binding, Checked, fine, refused, broken, with_bindings, ◌>>=◌, unless_so, or_broken}
use Rattle.operand_types.specs.OperandTypes.{outcome_as}

abbrev pub Both : {A B : Type 0} → (A → B → Type 0) → Checked A → Checked B → Type 0
Both R (fine x a) (fine y b) = R x y
Both R (fine x a) (refused kind token) = ⊥
Both R (fine x a) broken = ⊥
Both R (refused kind token) (fine y b) = ⊥
Both R (refused kind token) (refused other at) = Unit {0}
Both R (refused kind token) broken = Unit {0}
Both R broken (fine y b) = ⊥
Both R broken (refused other at) = Unit {0}
Both R broken broken = Unit {0}

both_with : {A B : Type 0} (R : A → B → Type 0) (before others : List Binding) (m : Checked A) (n : Checked B) → Both R m n
    → Both R (with_bindings before m) (with_bindings others n)
both_with R before others (fine x a) (fine y b) r = r
both_with R before others (fine x a) (refused kind token) r = r
both_with R before others (fine x a) broken r = r
both_with R before others (refused kind token) (fine y b) r = r
both_with R before others (refused kind token) (refused other at) r = tt
both_with R before others (refused kind token) broken r = tt
both_with R before others broken (fine y b) r = r
both_with R before others broken (refused other at) r = tt
both_with R before others broken broken r = tt

pub both_then : {A B C D : Type 0} (R : A → B → Type 0) (S : C → D → Type 0) (m : Checked A) (n : Checked B) (f : A → Checked C) (g : B → Checked D)
    → Both R m n → ((x : A) (y : B) → R x y → Both S (f x) (g y)) → Both S (m >>= f) (n >>= g)
both_then R S (fine x a) (fine y b) f g r next = both_with S a b (f x) (g y) (next x y r)
both_then R S (fine x a) (refused kind token) f g r next = absurd r
both_then R S (fine x a) broken f g r next = absurd r
both_then R S (refused kind token) (fine y b) f g r next = absurd r
both_then R S (refused kind token) (refused other at) f g r next = tt
both_then R S (refused kind token) broken f g r next = tt
both_then R S broken (fine y b) f g r next = absurd r
both_then R S broken (refused other at) f g r next = tt
both_then R S broken broken f g r next = tt

pub both_as : {A B P : Type 0} (form : A → P) (other : B → P) (m : Checked A) (n : Checked B) → Both (λ x y. form x ≡ other y) m n
    → outcome_as form m ≡ outcome_as other n
both_as form other (fine x a) (fine y b) r = ap Rattle.conditional.specs.Judgements.fine r
both_as form other (fine x a) (refused kind token) r = absurd r
both_as form other (fine x a) broken r = absurd r
both_as form other (refused kind token) (fine y b) r = absurd r
both_as form other (refused kind token) (refused at there) r = refl
both_as form other (refused kind token) broken r = refl
both_as form other broken (fine y b) r = absurd r
both_as form other broken (refused at there) r = refl
both_as form other broken broken r = refl

abbrev pub Any : {A B : Type 0} → A → B → Type 0
Any x y = Unit {0}

pub both_unless : (b c : Bool) (kind other : TypeKind) (token at : PlainToken) → b ≡ c → Both Any (unless_so b kind token) (unless_so c other at)
both_unless true true kind other token at h = tt
both_unless true false kind other token at h = absurd (false≢true (sym h))
both_unless false true kind other token at h = absurd (false≢true h)
both_unless false false kind other token at h = tt

-- the same option, whatever it is
pub both_same : {A : Type 0} (o : Option A) → Both (λ x y. x ≡ y) (or_broken o) (or_broken o)
both_same (Some x) = refl
both_same None = tt

-- the same test, and what is known of it on both ways
pub both_if : {A B : Type 0} (C : A → B → Type 0) (b c : Bool) (x y : A) (u v : B) → c ≡ b
    → (b ≡ true → C x u) → (b ≡ false → C y v) → C (if b then x else y) (if c then u else v)
both_if C true true x y u v h so not_so = so refl
both_if C true false x y u v h so not_so = absurd (false≢true h)
both_if C false true x y u v h so not_so = absurd (false≢true (sym h))
both_if C false false x y u v h so not_so = not_so refl

pub both_weaker : {A B : Type 0} (R S : A → B → Type 0) (m : Checked A) (n : Checked B) → Both R m n → ((x : A) (y : B) → R x y → S x y) → Both S m n
both_weaker R S (fine x a) (fine y b) r weaker = weaker x y r
both_weaker R S (fine x a) (refused kind token) r weaker = r
both_weaker R S (fine x a) broken r weaker = r
both_weaker R S (refused kind token) (fine y b) r weaker = r
both_weaker R S (refused kind token) (refused other at) r weaker = tt
both_weaker R S (refused kind token) broken r weaker = tt
both_weaker R S broken (fine y b) r weaker = r
both_weaker R S broken (refused other at) r weaker = tt
both_weaker R S broken broken r weaker = tt
