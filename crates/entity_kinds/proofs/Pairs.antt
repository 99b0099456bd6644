-- Two judgements side by side. Nothing is owed unless both are fine; then the kinds of what they bind are alike, place by place.
use Rattle.std.proofs.Common.{◌≡◌, inr, ℕ, Bool, true, false, List, [], ◌∷◌, ◌++◌, map, refl, sym, subst}
use Rattle.std.specs.Prelude.{Option, Some, None, if◌then◌else◌}
use Rattle.c_text.specs.Token.{PlainToken}
use Rattle.core_meaning.specs.declared.refusals.TypeKind.{TypeKind}
use Rattle.core_meaning.specs.Checking.{Entity, local_entity, local_of_function, file_entity, struct_entity, member_entity, own_entity, Binding, Checked, fine, refused, broken, with_bindings, ◌>>=◌, give, unless_so, found_or, or_broken, declares, uses, numbered, numbered_binding, in_function}
use Rattle.entity_numbers.proofs.Uses.{All, Binds}
use Rattle.entity_numbers.specs.Kinds.{Ties, AreTied, with_tie, IsUsable, AreDeclaredAlike, AreMeantAlike, AreKindsAlike}

-- ---- structs that are tied

abbrev pub Grows : Ties → Ties → Type 0
Grows ties others = (m n : ℕ) → AreTied m n ties → AreTied m n others

abbrev pub ties_behind : Ties → List Binding → List Binding → Ties
ties_behind ties [] ks = ties
ties_behind ties (j ∷ js) [] = ties
ties_behind ties (j ∷ js) (k ∷ ks) = ties_behind (with_tie ties j.entity k.entity) js ks

grows_one : (ties : Ties) (a b : Entity) → Grows ties (with_tie ties a b)
grows_one ties (struct_entity m) (struct_entity n) i j h = inr h
grows_one ties _ _ i j h = h

grows_behind : (ties : Ties) (js ks : List Binding) → Grows ties (ties_behind ties js ks)
grows_behind ties [] ks m n h = h
grows_behind ties (j ∷ js) [] m n h = h
grows_behind ties (j ∷ js) (k ∷ ks) m n h = grows_behind (with_tie ties j.entity k.entity) js ks m n (grows_one ties j.entity k.entity m n h)

append_alike :
    (ties : Ties) (js ks as_ bs : List Binding) → AreKindsAlike ties js ks → AreKindsAlike (ties_behind ties js ks) as_ bs → AreKindsAlike ties (js ++ as_) (ks ++ bs)
append_alike ties [] [] as_ bs f g = g
append_alike ties [] (k ∷ ks) as_ bs f g = absurd f
append_alike ties (j ∷ js) [] as_ bs f g = absurd f
append_alike ties (j ∷ js) (k ∷ ks) as_ bs f g = (f.0, append_alike (with_tie ties j.entity k.entity) js ks as_ bs f.1 g)

append_behind :
    (ties : Ties) (js ks as_ bs : List Binding) → AreKindsAlike ties js ks → ties_behind (ties_behind ties js ks) as_ bs ≡ ties_behind ties (js ++ as_) (ks ++ bs)
append_behind ties [] [] as_ bs f = refl
append_behind ties [] (k ∷ ks) as_ bs f = absurd f
append_behind ties (j ∷ js) [] as_ bs f = absurd f
append_behind ties (j ∷ js) (k ∷ ks) as_ bs f = append_behind (with_tie ties j.entity k.entity) js ks as_ bs f.1

-- ---- two judgements

-- what is said of both results, where these structs are tied
abbrev pub Said : Type 0 → Type 0 → Type 1
Said A B = Ties → A → B → Type 0

abbrev pub Anything : {A B : Type 0} → Ties → A → B → Type 0
Anything ties x y = Unit {0}

abbrev pub IfFine : {A B : Type 0} → Said A B → Ties → A → List Binding → Checked B → Type 0
IfFine V ties x js (fine y ks) = AreKindsAlike ties js ks × V (ties_behind ties js ks) x y
IfFine V ties x js (refused kind token) = Unit {0}
IfFine V ties x js broken = Unit {0}

abbrev pub Sides : {A B : Type 0} → Said A B → Ties → Checked A → Checked B → Type 0
Sides V ties (fine x js) d = IfFine V ties x js d
Sides V ties (refused kind token) d = Unit {0}
Sides V ties broken d = Unit {0}

pub record Alike {A B : Type 0} (ties : Ties) (V : Ties → A → B → Type 0) (c : Checked A) (d : Checked B) : Type 0 where
  pub holds : Sides V ties c d

sides_refused : {A B : Type 0} (V : Ties → A → B → Type 0) (ties : Ties) (c : Checked A) (kind : TypeKind) (token : PlainToken) → Sides V ties c (refused kind token)
sides_refused V ties (fine x js) kind token = tt
sides_refused V ties (refused other at) kind token = tt
sides_refused V ties broken kind token = tt

sides_broken : {A B : Type 0} (V : Ties → A → B → Type 0) (ties : Ties) (c : Checked A) → Sides V ties c broken
sides_broken V ties (fine x js) = tt
sides_broken V ties (refused other at) = tt
sides_broken V ties broken = tt

pub right_refused : {A B : Type 0} (V : Ties → A → B → Type 0) (ties : Ties) (c : Checked A) (kind : TypeKind) (token : PlainToken) → Alike ties V c (refused kind token)
right_refused V ties c kind token = record { holds = sides_refused V ties c kind token }

pub right_broken : {A B : Type 0} (V : Ties → A → B → Type 0) (ties : Ties) (c : Checked A) → Alike ties V c broken
right_broken V ties c = record { holds = sides_broken V ties c }

-- one judgement after another
fine_then :
    {C D : Type 0} (W : Ties → C → D → Type 0) (ties : Ties) (js ks : List Binding) (f : Checked C) (g : Checked D) → AreKindsAlike ties js ks → Sides W (ties_behind ties js ks) f g
    → Sides W ties (with_bindings js f) (with_bindings ks g)
fine_then W ties js ks (fine x as_) (fine y bs) first h =
    (append_alike ties js ks as_ bs first h.0, subst (λ (t : Ties). W t x y) (append_behind ties js ks as_ bs first) h.1)
fine_then W ties js ks (fine x as_) (refused kind token) first h = tt
fine_then W ties js ks (fine x as_) broken first h = tt
fine_then W ties js ks (refused kind token) g first h = tt
fine_then W ties js ks broken g first h = tt

sides_then :
    {A B C D : Type 0} (V : Ties → A → B → Type 0) (W : Ties → C → D → Type 0) (ties : Ties) (c : Checked A) (d : Checked B) (f : A → Checked C) (g : B → Checked D) → Sides V ties c d
    → ((more_ : Ties) → Grows ties more_ → (x : A) (y : B) → V more_ x y → Sides W more_ (f x) (g y)) → Sides W ties (c >>= f) (d >>= g)
sides_then V W ties (fine x js) (fine y ks) f g h next =
    fine_then W ties js ks (f x) (g y) h.0 (next (ties_behind ties js ks) (grows_behind ties js ks) x y h.1)
sides_then V W ties (fine x js) (refused kind token) f g h next = sides_refused W ties (with_bindings js (f x)) kind token
sides_then V W ties (fine x js) broken f g h next = sides_broken W ties (with_bindings js (f x))
sides_then V W ties (refused kind token) d f g h next = tt
sides_then V W ties broken d f g h next = tt

pub alike_then :
    {A B C D : Type 0} (V : Ties → A → B → Type 0) (W : Ties → C → D → Type 0) (ties : Ties) (c : Checked A) (d : Checked B) (f : A → Checked C) (g : B → Checked D) → Alike ties V c d
    → ((more_ : Ties) → Grows ties more_ → (x : A) (y : B) → V more_ x y → Alike more_ W (f x) (g y)) → Alike ties W (c >>= f) (d >>= g)
alike_then V W ties c d f g h next = record { holds = sides_then V W ties c d f g h.holds (λ more_ grows x y v. (next more_ grows x y v).holds) }

-- results that don't matter
pub any_then :
    {A B C D : Type 0} (W : Ties → C → D → Type 0) (ties : Ties) (c : Checked A) (d : Checked B) (f : A → Checked C) (g : B → Checked D) → Alike ties Anything c d
    → ((more_ : Ties) → Grows ties more_ → (x : A) (y : B) → Alike more_ W (f x) (g y)) → Alike ties W (c >>= f) (d >>= g)
any_then W ties c d f g h next = alike_then Anything W ties c d f g h (λ more_ grows x y v. next more_ grows x y)

pub alike_give : {A B : Type 0} (V : Ties → A → B → Type 0) (ties : Ties) (x : A) (y : B) → V ties x y → Alike ties V (give x) (give y)
alike_give V ties x y v = record { holds = (tt, v) }

pub left_refused : {A B : Type 0} (V : Ties → A → B → Type 0) (ties : Ties) (kind : TypeKind) (token : PlainToken) (d : Checked B) → Alike ties V (refused kind token) d
left_refused V ties kind token d = record { holds = tt }

pub left_broken : {A B : Type 0} (V : Ties → A → B → Type 0) (ties : Ties) (d : Checked B) → Alike ties V broken d
left_broken V ties d = record { holds = tt }

sides_as :
    {A B : Type 0} (V W : Ties → A → B → Type 0) (ties : Ties) (c : Checked A) (d : Checked B) → Sides V ties c d → ((more_ : Ties) (x : A) (y : B) → V more_ x y → W more_ x y) → Sides W ties c d
sides_as V W ties (fine x js) (fine y ks) h f = (h.0, f (ties_behind ties js ks) x y h.1)
sides_as V W ties (fine x js) (refused kind token) h f = tt
sides_as V W ties (fine x js) broken h f = tt
sides_as V W ties (refused kind token) d h f = tt
sides_as V W ties broken d h f = tt

pub alike_as :
    {A B : Type 0} (V W : Ties → A → B → Type 0) (ties : Ties) (c : Checked A) (d : Checked B) → Alike ties V c d → ((more_ : Ties) (x : A) (y : B) → V more_ x y → W more_ x y) → Alike ties W c d
alike_as V W ties c d h f = record { holds = sides_as V W ties c d h.holds f }

pub alike_if :
    {A B : Type 0} (V : Ties → A → B → Type 0) (ties : Ties) (a b : Bool) (c d : Checked A) (f g : Checked B) → a ≡ b → Alike ties V c f → Alike ties V d g
    → Alike ties V (if a then c else d) (if b then f else g)
alike_if V ties true true c d f g e h i = h
alike_if V ties true false c d f g e h i = absurd cc
alike_if V ties false true c d f g e h i = absurd cc
alike_if V ties false false c d f g e h i = i

-- ---- judgements that bind nothing

abbrev pub Never : Entity → Type 0
Never e = ⊥

pub none_bound : (js : List Binding) → All Never js → js ≡ []
none_bound [] h = refl
none_bound (j ∷ js) h = absurd h.0

sides_quiet : {A B : Type 0} (ties : Ties) (c : Checked A) (d : Checked B) → Binds Never c → Binds Never d → Sides Anything ties c d
sides_quiet ties (fine x js) (fine y ks) h i =
    subst (λ (l : List Binding). AreKindsAlike ties l ks × Unit {0}) (sym (none_bound js h.all)) (subst (λ (l : List Binding). AreKindsAlike ties [] l × Unit {0}) (sym (none_bound ks i.all)) (tt, tt))
sides_quiet ties (fine x js) (refused kind token) h i = tt
sides_quiet ties (fine x js) broken h i = tt
sides_quiet ties (refused kind token) d h i = tt
sides_quiet ties broken d h i = tt

pub alike_quiet : {A B : Type 0} (ties : Ties) (c : Checked A) (d : Checked B) → Binds Never c → Binds Never d → Alike ties Anything c d
alike_quiet ties c d h i = record { holds = sides_quiet ties c d h i }

sides_quiet_then :
    {A B C D : Type 0} (W : Ties → C → D → Type 0) (ties : Ties) (c : Checked A) (d : Checked B) (f : A → Checked C) (g : B → Checked D) → Binds Never c → Binds Never d
    → ((x : A) (y : B) → Sides W ties (f x) (g y)) → Sides W ties (c >>= f) (d >>= g)
sides_quiet_then W ties (fine x js) (fine y ks) f g h i next =
    subst (λ (l : List Binding). Sides W ties (with_bindings l (f x)) (with_bindings ks (g y))) (sym (none_bound js h.all))
    (subst (λ (l : List Binding). Sides W ties (with_bindings [] (f x)) (with_bindings l (g y))) (sym (none_bound ks i.all)) (fine_then W ties [] [] (f x) (g y) tt (next x y)))
sides_quiet_then W ties (fine x js) (refused kind token) f g h i next = sides_refused W ties (with_bindings js (f x)) kind token
sides_quiet_then W ties (fine x js) broken f g h i next = sides_broken W ties (with_bindings js (f x))
sides_quiet_then W ties (refused kind token) d f g h i next = tt
sides_quiet_then W ties broken d f g h i next = tt

-- one that binds nothing first
pub quiet_then :
    {A B C D : Type 0} (W : Ties → C → D → Type 0) (ties : Ties) (c : Checked A) (d : Checked B) (f : A → Checked C) (g : B → Checked D) → Binds Never c → Binds Never d
    → ((x : A) (y : B) → Alike ties W (f x) (g y)) → Alike ties W (c >>= f) (d >>= g)
quiet_then W ties c d f g h i next = record { holds = sides_quiet_then W ties c d f g h i (λ x y. (next x y).holds) }

pub quiet_unless : (b : Bool) (kind : TypeKind) (token : PlainToken) → Binds Never (unless_so b kind token)
quiet_unless true kind token = record { all = tt }
quiet_unless false kind token = record { all = tt }

pub unless_then :
    {C D : Type 0} (W : Ties → C → D → Type 0) (ties : Ties) (a b : Bool) (kind other : TypeKind) (token at : PlainToken) (f : Unit {0} → Checked C) (g : Unit {0} → Checked D)
    → ((x y : Unit {0}) → Alike ties W (f x) (g y)) → Alike ties W (unless_so a kind token >>= f) (unless_so b other at >>= g)
unless_then W ties a b kind other token at f g next =
    quiet_then W ties (unless_so a kind token) (unless_so b other at) f g (quiet_unless a kind token) (quiet_unless b other at) next

pub found_quiet : {A : Type 0} (o : Option A) (kind : TypeKind) (token : PlainToken) → Binds Never (found_or o kind token)
found_quiet (Some x) kind token = record { all = tt }
found_quiet None kind token = record { all = tt }

pub found_then :
    {A B C D : Type 0} (W : Ties → C → D → Type 0) (ties : Ties) (a : Option A) (b : Option B) (kind other : TypeKind) (token at : PlainToken) (f : A → Checked C) (g : B → Checked D)
    → ((x : A) (y : B) → Alike ties W (f x) (g y)) → Alike ties W (found_or a kind token >>= f) (found_or b other at >>= g)
found_then W ties a b kind other token at f g next = quiet_then W ties (found_or a kind token) (found_or b other at) f g (found_quiet a kind token) (found_quiet b other at) next

some_quiet : {A : Type 0} (o : Option A) → Binds Never (or_broken o)
some_quiet (Some x) = record { all = tt }
some_quiet None = record { all = tt }

pub some_then :
    {A B C D : Type 0} (W : Ties → C → D → Type 0) (ties : Ties) (a : Option A) (b : Option B) (f : A → Checked C) (g : B → Checked D)
    → ((x : A) (y : B) → Alike ties W (f x) (g y)) → Alike ties W (or_broken a >>= f) (or_broken b >>= g)
some_then W ties a b f g next = quiet_then W ties (or_broken a) (or_broken b) f g (some_quiet a) (some_quiet b) next

-- ---- judgements that are never fine

abbrev pub NeverFine : {A : Type 0} → Checked A → Type 0
NeverFine (fine x js) = ⊥
NeverFine (refused kind token) = Unit {0}
NeverFine broken = Unit {0}

never_behind : {B : Type 0} (js : List Binding) (d : Checked B) → NeverFine d → NeverFine (with_bindings js d)
never_behind js (fine x ks) h = absurd h
never_behind js (refused kind token) h = tt
never_behind js broken h = tt

pub never_then : {A B : Type 0} (c : Checked A) (f : A → Checked B) → ((x : A) → NeverFine (f x)) → NeverFine (c >>= f)
never_then (fine x js) f h = never_behind js (f x) (h x)
never_then (refused kind token) f h = tt
never_then broken f h = tt

sides_left : {A B : Type 0} (V : Ties → A → B → Type 0) (ties : Ties) (c : Checked A) (d : Checked B) → NeverFine c → Sides V ties c d
sides_left V ties (fine x js) d h = absurd h
sides_left V ties (refused kind token) d h = tt
sides_left V ties broken d h = tt

pub left_never : {A B : Type 0} (V : Ties → A → B → Type 0) (ties : Ties) (c : Checked A) (d : Checked B) → NeverFine c → Alike ties V c d
left_never V ties c d h = record { holds = sides_left V ties c d h }

sides_right : {A B : Type 0} (V : Ties → A → B → Type 0) (ties : Ties) (c : Checked A) (d : Checked B) → NeverFine d → Sides V ties c d
sides_right V ties c (fine x js) h = absurd h
sides_right V ties c (refused kind token) h = sides_refused V ties c kind token
sides_right V ties c broken h = sides_broken V ties c

pub right_never : {A B : Type 0} (V : Ties → A → B → Type 0) (ties : Ties) (c : Checked A) (d : Checked B) → NeverFine d → Alike ties V c d
right_never V ties c d h = record { holds = sides_right V ties c d h }

-- ---- identifiers

pub uses_then :
    {C D : Type 0} (W : Ties → C → D → Type 0) (ties : Ties) (a b : Entity) (f : Unit {0} → Checked C) (g : Unit {0} → Checked D) → IsUsable a → IsUsable b
    → ((x y : Unit {0}) → Alike ties W (f x) (g y)) → Alike ties W (uses a >>= f) (uses b >>= g)
uses_then W ties a b f g h i next =
    record { holds = fine_then W ties (record { entity = a; in_expression = true } ∷ []) (record { entity = b; in_expression = true } ∷ []) (f tt) (g tt) ((h, i), tt) (subst (λ (t : Ties). Sides W t (f tt) (g tt)) (no_tie a b h) (next tt tt).holds) }
  where
    no_tie : (a b : Entity) → IsUsable a → ties ≡ with_tie ties a b
    no_tie (struct_entity m) b h = absurd h
    no_tie _ b h = refl

pub declares_then :
    {C D : Type 0} (W : Ties → C → D → Type 0) (ties : Ties) (a b : Entity) (f : Unit {0} → Checked C) (g : Unit {0} → Checked D) → AreDeclaredAlike ties a b
    → ((x y : Unit {0}) → Alike (with_tie ties a b) W (f x) (g y)) → Alike ties W (declares a >>= f) (declares b >>= g)
declares_then W ties a b f g h next =
    record { holds = fine_then W ties (record { entity = a; in_expression = false } ∷ []) (record { entity = b; in_expression = false } ∷ []) (f tt) (g tt) (h, tt) (next tt tt).holds }

-- ---- the bindings of a function

numbered_meant : (n : ℕ) (ties : Ties) (p q : Bool) (a b : Entity) → AreMeantAlike ties p q a b → AreMeantAlike ties p q (numbered n a) (numbered n b)
numbered_meant n ties true true a b h = (usable a h.0, usable b h.1)
  where
    usable : (e : Entity) → IsUsable e → IsUsable (numbered n e)
    usable (local_entity slot) i = tt
    usable _ i = i
numbered_meant n ties false false a b h = by a b h
  where
    by : (a b : Entity) → AreDeclaredAlike ties a b → AreDeclaredAlike ties (numbered n a) (numbered n b)
    by (local_entity i) (local_entity j) h = refl
    by (local_of_function f i) (local_of_function g j) h = h
    by (file_entity x) (file_entity y) h = h
    by (struct_entity i) (struct_entity j) h = h
    by (member_entity x i) (member_entity y j) h = h
    by own_entity own_entity h = h
    by _ _ h = absurd h
numbered_meant n ties true false a b h = absurd h
numbered_meant n ties false true a b h = absurd h

numbered_tie : (n : ℕ) (ties : Ties) (a b : Entity) → with_tie ties (numbered n a) (numbered n b) ≡ with_tie ties a b
numbered_tie n ties (local_entity i) b = refl
numbered_tie n ties (struct_entity i) (local_entity j) = refl
numbered_tie n ties _ _ = refl

numbered_alike :
    (n : ℕ) (ties : Ties) (js ks : List Binding) → AreKindsAlike ties js ks
    → AreKindsAlike ties (map (numbered_binding n) js) (map (numbered_binding n) ks) × (ties_behind ties (map (numbered_binding n) js) (map (numbered_binding n) ks) ≡ ties_behind ties js ks)
numbered_alike n ties [] [] h = (tt, refl)
numbered_alike n ties [] (k ∷ ks) h = absurd h
numbered_alike n ties (j ∷ js) [] h = absurd h
numbered_alike n ties (j ∷ js) (k ∷ ks) h =
    let same_ = numbered_tie n ties j.entity k.entity in
    let rest = numbered_alike n (with_tie ties j.entity k.entity) js ks h.1 in (
      (
        numbered_meant n ties j.in_expression k.in_expression j.entity k.entity h.0,
        subst (λ (t : Ties). AreKindsAlike t (map (numbered_binding n) js) (map (numbered_binding n) ks)) (sym same_) rest.0,
      ),
      subst (λ (t : Ties). ties_behind t (map (numbered_binding n) js) (map (numbered_binding n) ks) ≡ ties_behind (with_tie ties j.entity k.entity) js ks) (sym same_) rest.1,
    )

sides_function : {A B : Type 0} (V : Ties → A → B → Type 0) (ties : Ties) (n : ℕ) (c : Checked A) (d : Checked B) → Sides V ties c d → Sides V ties (in_function n c) (in_function n d)
sides_function V ties n (fine x js) (fine y ks) h = let both = numbered_alike n ties js ks h.0 in (both.0, subst (λ (t : Ties). V t x y) (sym both.1) h.1)
sides_function V ties n (fine x js) (refused kind token) h = tt
sides_function V ties n (fine x js) broken h = tt
sides_function V ties n (refused kind token) d h = tt
sides_function V ties n broken d h = tt

pub alike_function :
    {A B : Type 0} (V : Ties → A → B → Type 0) (ties : Ties) (m n : ℕ) (c : Checked A) (d : Checked B) → m ≡ n → Alike ties V c d → Alike ties V (in_function m c) (in_function n d)
alike_function V ties m n c d e h = subst (λ i. Alike ties V (in_function m c) (in_function i d)) e (record { holds = sides_function V ties m c d h.holds })
