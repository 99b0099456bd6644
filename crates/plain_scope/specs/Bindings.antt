-- Laws of one judgement after another.
use Rattle.std.proofs.Common.{◌≡◌, List, [], ◌++◌, refl, ap, ◌∙◌}
use Rattle.std.proofs.lemmas.List.{append_assoc, append-nil}
use Rattle.core_meaning.specs.Checking.{Binding, Checked, fine, refused, broken, with_bindings, ◌>>=◌, give}

pub with_none : {A : Type 0} (c : Checked A) → with_bindings [] c ≡ c
with_none (fine x b) = refl
with_none (refused kind token) = refl
with_none broken = refl

pub give_then : {A B : Type 0} (x : A) (f : A → Checked B) → (give x >>= f) ≡ f x
give_then x f = with_none (f x)

pub then_give : {A : Type 0} (c : Checked A) → (c >>= give) ≡ c
then_give (fine x b) = ap (fine x) (append-nil b)
then_give (refused kind token) = refl
then_give broken = refl

with_both : {A : Type 0} (a b : List Binding) (c : Checked A) → with_bindings (a ++ b) c ≡ with_bindings a (with_bindings b c)
with_both a b (fine x d) = ap (fine x) (append_assoc a b d)
with_both a b (refused kind token) = refl
with_both a b broken = refl

with_then : {A B : Type 0} (a : List Binding) (c : Checked A) (f : A → Checked B) → (with_bindings a c >>= f) ≡ with_bindings a (c >>= f)
with_then a (fine x b) f = with_both a b (f x)
with_then a (refused kind token) f = refl
with_then a broken f = refl

pub then_then : {A B C : Type 0} (c : Checked A) (f : A → Checked B) (g : B → Checked C) → ((c >>= f) >>= g) ≡ (c >>= (λ x. f x >>= g))
then_then (fine x b) f g = with_then b (f x) g
then_then (refused kind token) f g = refl
then_then broken f g = refl

pub then_same : {A B : Type 0} (c : Checked A) (f g : A → Checked B) → ((x : A) → f x ≡ g x) → (c >>= f) ≡ (c >>= g)
then_same (fine x b) f g h = ap (with_bindings b) (h x)
then_same (refused kind token) f g h = refl
then_same broken f g h = refl

-- a result that is given in another form
pub regroup : {A B C : Type 0} (c : Checked A) (f : A → B) (g : B → Checked C) → ((c >>= (λ x. give (f x))) >>= g) ≡ (c >>= (λ x. g (f x)))
regroup c f g = then_then c (λ x. give (f x)) g ∙ then_same c (λ x. give (f x) >>= g) (λ x. g (f x)) (λ x. give_then (f x) g)
