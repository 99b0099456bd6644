-- Judgements one after another, in other groups.
use Rattle.std.proofs.Common.{◌≡◌, List, ◌++◌, refl, ap}
use Rattle.std.proofs.lemmas.List.{append_assoc, append-nil}
use Rattle.core_meaning.specs.Checking.{Binding, Checked, fine, refused, broken, with_bindings, ◌>>=◌, give}

pub with_both : {A : Type 0} (a b : List Binding) (c : Checked A) → with_bindings (a ++ b) c ≡ with_bindings a (with_bindings b c)
with_both a b (fine x rest) = ap (fine x) (append_assoc a b rest)
with_both a b (refused kind token) = refl
with_both a b broken = refl

with_next : {A B : Type 0} (a : List Binding) (c : Checked A) (next : A → Checked B) → (with_bindings a c >>= next) ≡ with_bindings a (c >>= next)
with_next a (fine x b) next = with_both a b (next x)
with_next a (refused kind token) next = refl
with_next a broken next = refl

pub bind_assoc : {A B C : Type 0} (c : Checked A) (f : A → Checked B) (g : B → Checked C) → ((c >>= f) >>= g) ≡ (c >>= (λ x. f x >>= g))
bind_assoc (fine x bindings) f g = with_next bindings (f x) g
bind_assoc (refused kind token) f g = refl
bind_assoc broken f g = refl

-- what is given in one form, and then taken in another
pub regrouped : {A B C : Type 0} (c : Checked A) (f : A → B) (g : B → Checked C) → ((c >>= (λ x. give (f x))) >>= g) ≡ (c >>= (λ x. g (f x)))
regrouped (fine x bindings) f g = ap (λ l. with_bindings l (g (f x))) (append-nil bindings)
regrouped (refused kind token) f g = refl
regrouped broken f g = refl

pub then_same : {A B : Type 0} (c : Checked A) (f g : A → Checked B) → ((x : A) → f x ≡ g x) → (c >>= f) ≡ (c >>= g)
then_same (fine x bindings) f g same = ap (with_bindings bindings) (same x)
then_same (refused kind token) f g same = refl
then_same broken f g same = refl
