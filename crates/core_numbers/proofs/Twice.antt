-- One tree judged twice. Nothing is owed unless both judgements are fine; then they bind the same, and their results are related.
use Rattle.std.proofs.Common.{◌≡◌, ℕ, Bool, true, false, List, ◌++◌, map, refl, sym, ap, subst, ◌∙◌}
use Rattle.std.specs.Prelude.{Option, Some, None, if◌then◌else◌}
use Rattle.c_text.specs.Token.{PlainToken}
use Rattle.c_types.specs.Types.{PlainType}
use Rattle.core_meaning.specs.declared.refusals.TypeKind.{TypeKind}
use Rattle.core_meaning.specs.Program.{PlainExpression, PlainPlace}
use Rattle.core_meaning.specs.Checking.{Binding, Checked, fine, refused, broken, with_bindings, ◌>>=◌, give, unless_so, found_or, numbered_binding, in_function}
use Rattle.core_meaning.specs.Typing.{Designation, value, object, Operand, Typed, of_value, of_object}

abbrev pub Sides : {A : Type 0} → (A → A → Type 0) → Checked A → Checked A → Type 0
Sides V (fine x js) (fine y ks) = (js ≡ ks) × V x y
Sides V (fine x js) (refused kind token) = Unit {0}
Sides V (fine x js) broken = Unit {0}
Sides V (refused kind token) d = Unit {0}
Sides V broken d = Unit {0}

pub record Same {A : Type 0} (V : A → A → Type 0) (c d : Checked A) : Type 0 where
  pub holds : Sides V c d

abbrev pub Anything : {A : Type 0} → A → A → Type 0
Anything x y = Unit {0}

abbrev pub Equal : {A : Type 0} → A → A → Type 0
Equal x y = x ≡ y

sides_refused : {A : Type 0} (V : A → A → Type 0) (c : Checked A) (kind : TypeKind) (token : PlainToken) → Sides V c (refused kind token)
sides_refused V (fine x js) kind token = tt
sides_refused V (refused other at) kind token = tt
sides_refused V broken kind token = tt

sides_broken : {A : Type 0} (V : A → A → Type 0) (c : Checked A) → Sides V c broken
sides_broken V (fine x js) = tt
sides_broken V (refused other at) = tt
sides_broken V broken = tt

pub right_refused : {A : Type 0} (V : A → A → Type 0) (c : Checked A) (kind : TypeKind) (token : PlainToken) → Same V c (refused kind token)
right_refused V c kind token = record { holds = sides_refused V c kind token }

pub left_refused : {A : Type 0} (V : A → A → Type 0) (kind : TypeKind) (token : PlainToken) (d : Checked A) → Same V (refused kind token) d
left_refused V kind token d = record { holds = tt }

pub left_broken : {A : Type 0} (V : A → A → Type 0) (d : Checked A) → Same V broken d
left_broken V d = record { holds = tt }

pub same_give : {A : Type 0} (V : A → A → Type 0) (x y : A) → V x y → Same V (give x) (give y)
same_give V x y v = record { holds = (refl, v) }

sides_itself : {A : Type 0} (V : A → A → Type 0) (c : Checked A) → ((x : A) → V x x) → Sides V c c
sides_itself V (fine x js) f = (refl, f x)
sides_itself V (refused kind token) f = tt
sides_itself V broken f = tt

pub itself : {A : Type 0} (V : A → A → Type 0) (c : Checked A) → ((x : A) → V x x) → Same V c c
itself V c f = record { holds = sides_itself V c f }

fine_then : {B : Type 0} (W : B → B → Type 0) (js ks : List Binding) (f g : Checked B) → js ≡ ks → Sides W f g → Sides W (with_bindings js f) (with_bindings ks g)
fine_then W js ks (fine x as_) (fine y bs) e h = (ap (λ l. l ++ as_) e ∙ ap (λ l. ks ++ l) h.0, h.1)
fine_then W js ks (fine x as_) (refused kind token) e h = tt
fine_then W js ks (fine x as_) broken e h = tt
fine_then W js ks (refused kind token) g e h = tt
fine_then W js ks broken g e h = tt

sides_then :
    {A B : Type 0} (V : A → A → Type 0) (W : B → B → Type 0) (c d : Checked A) (f g : A → Checked B) → Sides V c d → ((x y : A) → V x y → Sides W (f x) (g y)) → Sides W (c >>= f) (d >>= g)
sides_then V W (fine x js) (fine y ks) f g h next = fine_then W js ks (f x) (g y) h.0 (next x y h.1)
sides_then V W (fine x js) (refused kind token) f g h next = sides_refused W (with_bindings js (f x)) kind token
sides_then V W (fine x js) broken f g h next = sides_broken W (with_bindings js (f x))
sides_then V W (refused kind token) d f g h next = tt
sides_then V W broken d f g h next = tt

pub same_then :
    {A B : Type 0} (V : A → A → Type 0) (W : B → B → Type 0) (c d : Checked A) (f g : A → Checked B) → Same V c d → ((x y : A) → V x y → Same W (f x) (g y)) → Same W (c >>= f) (d >>= g)
same_then V W c d f g h next = record { holds = sides_then V W c d f g h.holds (λ x y v. (next x y v).holds) }

-- results that don't matter
pub any_then : {A B : Type 0} (W : B → B → Type 0) (c d : Checked A) (f g : A → Checked B) → Same Anything c d → ((x y : A) → Same W (f x) (g y)) → Same W (c >>= f) (d >>= g)
any_then W c d f g h next = same_then Anything W c d f g h (λ x y v. next x y)

-- the same result
pub equal_then : {A B : Type 0} (W : B → B → Type 0) (c d : Checked A) (f g : A → Checked B) → Same Equal c d → ((x : A) → Same W (f x) (g x)) → Same W (c >>= f) (d >>= g)
equal_then W c d f g h next = same_then Equal W c d f g h (λ x y e. subst (λ z. Same W (f x) (g z)) e (next x))

-- a result that the other is made of
pub made_then :
    {A B : Type 0} (make : A → A) (W : B → B → Type 0) (c d : Checked A) (f g : A → Checked B) → Same (λ x y. y ≡ make x) c d → ((x : A) → Same W (f x) (g (make x))) → Same W (c >>= f) (d >>= g)
made_then make W c d f g h next = same_then (λ x y. y ≡ make x) W c d f g h (λ x y e. subst (λ z. Same W (f x) (g z)) (sym e) (next x))

-- one judgement, which depends on nothing that differs
pub first_then : {A B : Type 0} (W : B → B → Type 0) (c : Checked A) (f g : A → Checked B) → ((x : A) → Same W (f x) (g x)) → Same W (c >>= f) (c >>= g)
first_then W c f g next = equal_then W c c f g (itself Equal c (λ x. refl)) next

sides_as : {A : Type 0} (V W : A → A → Type 0) (c d : Checked A) → Sides V c d → ((x y : A) → V x y → W x y) → Sides W c d
sides_as V W (fine x js) (fine y ks) h f = (h.0, f x y h.1)
sides_as V W (fine x js) (refused kind token) h f = tt
sides_as V W (fine x js) broken h f = tt
sides_as V W (refused kind token) d h f = tt
sides_as V W broken d h f = tt

pub same_as : {A : Type 0} (V W : A → A → Type 0) (c d : Checked A) → Same V c d → ((x y : A) → V x y → W x y) → Same W c d
same_as V W c d h f = record { holds = sides_as V W c d h.holds f }

pub same_if : {A : Type 0} (V : A → A → Type 0) (b : Bool) (c d f g : Checked A) → Same V c f → Same V d g → Same V (if b then c else d) (if b then f else g)
same_if V true c d f g h i = h
same_if V false c d f g h i = i

pub unless_then : {B : Type 0} (W : B → B → Type 0) (a b : Bool) (kind other : TypeKind) (token at : PlainToken) (f g : Unit {0} → Checked B) → ((x : Unit {0}) → Same W (f x) (g x)) → Same W (unless_so a kind token >>= f) (unless_so b other at >>= g)
unless_then W a b kind other token at f g next = same_then Anything W (unless_so a kind token) (unless_so b other at) f g (record { holds = by a b }) (λ x y v. next x)
  where
    by : (a b : Bool) → Sides Anything (unless_so a kind token) (unless_so b other at)
    by true true = (refl, tt)
    by true false = tt
    by false b = tt

both_found : {A : Type 0} (a b : Option A) (kind other : TypeKind) (token at : PlainToken) → Sides Anything (found_or a kind token) (found_or b other at)
both_found (Some x) (Some y) kind other token at = (refl, tt)
both_found (Some x) None kind other token at = tt
both_found None b kind other token at = tt

pub found_then : {A B : Type 0} (W : B → B → Type 0) (a b : Option A) (kind other : TypeKind) (token at : PlainToken) (f g : A → Checked B) → ((x y : A) → Same W (f x) (g y)) → Same W (found_or a kind token >>= f) (found_or b other at >>= g)
found_then W a b kind other token at f g next = same_then Anything W (found_or a kind token) (found_or b other at) f g (record { holds = both_found a b kind other token at }) (λ x y v. next x y)

-- ---- operands and values

abbrev pub SameDesignation : Designation → Designation → Type 0
SameDesignation (value a) (value b) = Unit {0}
SameDesignation (object p free) (object q shut) = free ≡ shut
SameDesignation d e = ⊥

-- the same but for what it is in a core program
pub record SameOperand (o p : Operand) : Type 0 where
  pub other : Designation
  pub designates : SameDesignation o.designates other
  pub is : p ≡ record o { designates = other }

pub record SameTyped (x y : Typed) : Type 0 where
  pub other : PlainExpression
  pub is : y ≡ record x { core = other }

designates_itself : (d : Designation) → SameDesignation d d
designates_itself (value core) = tt
designates_itself (object place free) = refl

pub operand_itself : (o : Operand) → SameOperand o o
operand_itself o = record { other = o.designates; designates = designates_itself o.designates; is = refl }

pub operand_then :
    {B : Type 0} (W : B → B → Type 0) (c d : Checked Operand) (f g : Operand → Checked B) → Same SameOperand c d
    → ((o : Operand) (e : Designation) → SameDesignation o.designates e → Same W (f o) (g (record o { designates = e }))) → Same W (c >>= f) (d >>= g)
operand_then W c d f g h next = same_then SameOperand W c d f g h (λ o p v. subst (λ z. Same W (f o) (g z)) (sym v.is) (next o v.other v.designates))

pub value_then :
    {B : Type 0} (W : B → B → Type 0) (c d : Checked Typed) (f g : Typed → Checked B) → Same SameTyped c d → ((x : Typed) (core : PlainExpression) → Same W (f x) (g (record x { core = core }))) → Same W (c >>= f) (d >>= g)
value_then W c d f g h next = same_then SameTyped W c d f g h (λ x y v. subst (λ z. Same W (f x) (g z)) (sym v.is) (next x v.other))

pub gives_value : (token : PlainToken) (ty : PlainType) (a b : PlainExpression) → Same SameOperand (give (of_value token ty a)) (give (of_value token ty b))
gives_value token ty a b = same_give SameOperand (of_value token ty a) (of_value token ty b) (record { other = value b; designates = tt; is = refl })

pub gives_object : (token : PlainToken) (ty : PlainType) (p q : PlainPlace) (free : Bool) → Same SameOperand (give (of_object token ty p free)) (give (of_object token ty q free))
gives_object token ty p q free = same_give SameOperand (of_object token ty p free) (of_object token ty q free) (record { other = object q free; designates = refl; is = refl })

pub gives_typed : (x : Typed) (core : PlainExpression) → Same SameTyped (give x) (give (record x { core = core }))
gives_typed x core = same_give SameTyped x (record x { core = core }) (record { other = core; is = refl })

-- ---- functions

sides_function : {A : Type 0} (V : A → A → Type 0) (m n : ℕ) (c d : Checked A) → m ≡ n → Sides V c d → Sides V (in_function m c) (in_function n d)
sides_function V m n (fine x js) (fine y ks) e h = (ap (map (numbered_binding m)) h.0 ∙ ap (λ i. map (numbered_binding i) ks) e, h.1)
sides_function V m n (fine x js) (refused kind token) e h = tt
sides_function V m n (fine x js) broken e h = tt
sides_function V m n (refused kind token) d e h = tt
sides_function V m n broken d e h = tt

pub same_function : {A : Type 0} (V : A → A → Type 0) (m n : ℕ) (c d : Checked A) → m ≡ n → Same V c d → Same V (in_function m c) (in_function n d)
same_function V m n c d e h = record { holds = sides_function V m n c d e h.holds }
