-- Two judgements side by side. Nothing is owed unless both are fine. Then the identifiers of both are bound in turn: where the bindings that
-- are still to come begin with those of the judgements and correspond, the results correspond, and so do the bindings behind them.
use Rattle.std.proofs.Common.{◌≡◌, ℕ, Bool, true, false, List, [], ◌∷◌, ◌++◌, map, refl, sym, subst, IsTrue}
use Rattle.std.specs.Prelude.{Option, Some, None, if◌then◌else◌}
use Rattle.std.specs.List.{AllZip}
use Rattle.std.proofs.lemmas.List.{append_assoc}
use Rattle.c_text.specs.Token.{PlainToken}
use Rattle.core_meaning.specs.declared.refusals.TypeKind.{TypeKind}
use Rattle.core_meaning.specs.Checking.{Entity, local_entity, local_of_function, file_entity, struct_entity, member_entity, own_entity, Binding, Checked, fine, refused, broken, with_bindings, ◌>>=◌, give, unless_so, found_or, or_broken, declares, uses, numbered, numbered_binding, in_function}
use Rattle.core_meaning.specs.Typing.{Operand}
use Rattle.renamed_programs.specs.Entities.{Correspondence, SameEntity, AreBoundAlike}

-- which names of file scope of one unit correspond to which of another
abbrev pub Naming : Type 1
Naming = List ℕ → List ℕ → Type 0

abbrev pub naming : Correspondence → Naming
naming named a b = IsTrue (named a b)

-- Entities that correspond, where it doesn't matter whether the number of a function stands with a slot.
abbrev pub Tied : Naming → Entity → Entity → Type 0
Tied named (local_entity m) (local_entity n) = m ≡ n
Tied named (local_entity m) (local_of_function g n) = m ≡ n
Tied named (local_of_function f m) (local_entity n) = m ≡ n
Tied named (local_of_function f m) (local_of_function g n) = m ≡ n
Tied named (file_entity a) (file_entity b) = named a b
Tied named (struct_entity m) (struct_entity n) = m ≡ n
Tied named (member_entity s m) (member_entity t n) = (s ≡ t) × (m ≡ n)
Tied named own_entity own_entity = Unit {0}
Tied named a b = ⊥

pub tied : (named : Correspondence) (a b : Entity) → SameEntity named a b → Tied (naming named) a b
tied named (local_entity m) (local_entity n) h = h
tied named (local_of_function f m) (local_of_function g n) h = h.1
tied named (file_entity a) (file_entity b) h = h
tied named (struct_entity m) (struct_entity n) h = h
tied named (member_entity s m) (member_entity t n) h = h
tied named own_entity own_entity h = tt
tied named _ _ h = absurd h

abbrev pub BothTied : Naming → Binding → Binding → Type 0
BothTied named a b = Tied named a.entity b.entity

abbrev pub AllTied : Naming → List Binding → List Binding → Type 0
AllTied named js ks = AllZip (BothTied named) js ks

pub all_tied : (named : Correspondence) (js ks : List Binding) → AreBoundAlike named js ks → AllTied (naming named) js ks
all_tied named [] [] h = tt
all_tied named [] (k ∷ ks) h = absurd h
all_tied named (j ∷ js) [] h = absurd h
all_tied named (j ∷ js) (k ∷ ks) h = (tied named j.entity k.entity h.0, all_tied named js ks h.1)

-- ---- results that correspond

abbrev pub IfBound : {A B : Type 0} → Naming → (A → B → Type 0) → A → List Binding → Checked B → Type 0
IfBound named V x js (fine y ks) = (ts us : List Binding) → AllTied named (js ++ ts) (ks ++ us) → V x y × AllTied named ts us
IfBound named V x js (refused kind token) = Unit {0}
IfBound named V x js broken = Unit {0}

abbrev pub Sides : {A B : Type 0} → Naming → (A → B → Type 0) → Checked A → Checked B → Type 0
Sides named V (fine x js) d = IfBound named V x js d
Sides named V (refused kind token) d = Unit {0}
Sides named V broken d = Unit {0}

-- the same as a record, that proofs find what they need by its name
pub record Alike {A B : Type 0} (named : Naming) (V : A → B → Type 0) (c : Checked A) (d : Checked B) : Type 0 where
  pub holds : Sides named V c d

abbrev pub Equal : {A : Type 0} → A → A → Type 0
Equal x y = x ≡ y

abbrev pub SameOperand : Operand → Operand → Type 0
SameOperand o p = record o { stands_at = p.stands_at } ≡ p

abbrev pub Anything : {A B : Type 0} → A → B → Type 0
Anything x y = Unit {0}

module _ (named : Naming) where
  sides_refused : {A B : Type 0} (V : A → B → Type 0) (c : Checked A) (kind : TypeKind) (token : PlainToken) → Sides named V c (refused kind token)
  sides_refused V (fine x js) kind token = tt
  sides_refused V (refused other at) kind token = tt
  sides_refused V broken kind token = tt

  sides_broken : {A B : Type 0} (V : A → B → Type 0) (c : Checked A) → Sides named V c broken
  sides_broken V (fine x js) = tt
  sides_broken V (refused other at) = tt
  sides_broken V broken = tt

  sides_give : {A B : Type 0} (V : A → B → Type 0) (x : A) (y : B) → V x y → Sides named V (give x) (give y)
  sides_give V x y v = λ ts us h. (v, h)

  -- one judgement after another
  fine_then :
      {C D : Type 0} (W : C → D → Type 0) (js ks : List Binding) (f : Checked C) (g : Checked D)
      → ((ts us : List Binding) → AllTied named (js ++ ts) (ks ++ us) → Sides named W f g × AllTied named ts us) → Sides named W (with_bindings js f) (with_bindings ks g)
  fine_then W js ks (fine x as_) (fine y bs) h = λ ts us all.
      let split : AllTied named (js ++ (as_ ++ ts)) (ks ++ (bs ++ us)) = subst (λ l. AllTied named (js ++ (as_ ++ ts)) l) (append_assoc ks bs us) (subst (λ l. AllTied named l ((ks ++ bs) ++ us)) (append_assoc js as_ ts) all) in
      let first = h (as_ ++ ts) (bs ++ us) split in
      first.0 ts us first.1
  fine_then W js ks (fine x as_) (refused kind token) h = tt
  fine_then W js ks (fine x as_) broken h = tt
  fine_then W js ks (refused kind token) g h = tt
  fine_then W js ks broken g h = tt

  after_fine :
      {A B C D : Type 0} (V : A → B → Type 0) (W : C → D → Type 0) (x : A) (js : List Binding) (d : Checked B) (f : A → Checked C) (g : B → Checked D)
      → IfBound named V x js d → ((y : B) → V x y → Sides named W (f x) (g y)) → Sides named W (with_bindings js (f x)) (d >>= g)
  after_fine V W x js (fine y ks) f g h next = fine_then W js ks (f x) (g y) (λ ts us all. let first = h ts us all in (next y first.0, first.1))
  after_fine V W x js (refused kind token) f g h next = sides_refused W (with_bindings js (f x)) kind token
  after_fine V W x js broken f g h next = sides_broken W (with_bindings js (f x))

  sides_then :
      {A B C D : Type 0} (V : A → B → Type 0) (W : C → D → Type 0) (c : Checked A) (d : Checked B) (f : A → Checked C) (g : B → Checked D)
      → Sides named V c d → ((x : A) (y : B) → V x y → Sides named W (f x) (g y)) → Sides named W (c >>= f) (d >>= g)
  sides_then V W (fine x js) d f g h next = after_fine V W x js d f g h (λ y v. next x y v)
  sides_then V W (refused kind token) d f g h next = tt
  sides_then V W broken d f g h next = tt

  as_bound : {A B : Type 0} (V W : A → B → Type 0) (x : A) (js : List Binding) (d : Checked B) → IfBound named V x js d → ((y : B) → V x y → W x y) → IfBound named W x js d
  as_bound V W x js (fine y ks) h f = λ ts us all. let first = h ts us all in (f y first.0, first.1)
  as_bound V W x js (refused kind token) h f = tt
  as_bound V W x js broken h f = tt

  sides_as : {A B : Type 0} (V W : A → B → Type 0) (c : Checked A) (d : Checked B) → Sides named V c d → ((x : A) (y : B) → V x y → W x y) → Sides named W c d
  sides_as V W (fine x js) d h f = as_bound V W x js d h (λ y v. f x y v)
  sides_as V W (refused kind token) d h f = tt
  sides_as V W broken d h f = tt

  -- ---- choices

  sides_if :
      {A B : Type 0} (V : A → B → Type 0) (a b : Bool) (c d : Checked A) (f g : Checked B) → a ≡ b → (a ≡ true → Sides named V c f) → (a ≡ false → Sides named V d g)
      → Sides named V (if a then c else d) (if b then f else g)
  sides_if V true true c d f g e h i = h refl
  sides_if V true false c d f g e h i = absurd cc
  sides_if V false true c d f g e h i = absurd cc
  sides_if V false false c d f g e h i = i refl

  -- where one choice is a refusal it doesn't matter which is taken
  sides_if_else :
      {A B : Type 0} (V : A → B → Type 0) (a b : Bool) (c : Checked A) (f : Checked B) (kind other : TypeKind) (token at : PlainToken) → (a ≡ true → b ≡ true → Sides named V c f)
      → Sides named V (if a then c else refused kind token) (if b then f else refused other at)
  sides_if_else V true true c f kind other token at h = h refl refl
  sides_if_else V true false c f kind other token at h = sides_refused V c other at
  sides_if_else V false b c f kind other token at h = tt

  sides_unless : (a b : Bool) (kind other : TypeKind) (token at : PlainToken) → Sides named (λ x y. (a ≡ true) × (b ≡ true)) (unless_so a kind token) (unless_so b other at)
  sides_unless true true kind other token at = λ ts us all. ((refl, refl), all)
  sides_unless true false kind other token at = tt
  sides_unless false b kind other token at = tt

  sides_found : {A B : Type 0} (a : Option A) (b : Option B) (kind other : TypeKind) (token at : PlainToken) → Sides named (λ x y. (a ≡ Some x) × (b ≡ Some y)) (found_or a kind token) (found_or b other at)
  sides_found (Some x) (Some y) kind other token at = λ ts us all. ((refl, refl), all)
  sides_found (Some x) None kind other token at = tt
  sides_found None b kind other token at = tt

  sides_or_broken : {A B : Type 0} (a : Option A) (b : Option B) → Sides named (λ x y. (a ≡ Some x) × (b ≡ Some y)) (or_broken a) (or_broken b)
  sides_or_broken (Some x) (Some y) = λ ts us all. ((refl, refl), all)
  sides_or_broken (Some x) None = tt
  sides_or_broken None b = tt

  -- ---- identifiers

  -- ---- judgements that bind nothing

  abbrev pub Quiet : {A : Type 0} → Checked A → Type 0
  Quiet (fine x js) = js ≡ []
  Quiet (refused kind token) = Unit {0}
  Quiet broken = Unit {0}

  sides_quiet : {A B : Type 0} (c : Checked A) (d : Checked B) → Quiet c → Quiet d → Sides named Anything c d
  sides_quiet (fine x js) (fine y ks) h i = λ ts us all. (tt, subst (λ l. AllTied named ts (l ++ us)) i (subst (λ l. AllTied named (l ++ ts) (ks ++ us)) h all))
  sides_quiet (fine x js) (refused kind token) h i = tt
  sides_quiet (fine x js) broken h i = tt
  sides_quiet (refused kind token) d h i = tt
  sides_quiet broken d h i = tt

  pub quiet_unless : (b : Bool) (kind : TypeKind) (token : PlainToken) → Quiet (unless_so b kind token)
  quiet_unless true kind token = refl
  quiet_unless false kind token = tt

  quiet_behind : {B : Type 0} (d : Checked B) → Quiet d → Quiet (with_bindings [] d)
  quiet_behind (fine y ks) q = q
  quiet_behind (refused kind token) q = q
  quiet_behind broken q = q

  pub quiet_then : {A B : Type 0} (c : Checked A) (f : A → Checked B) → Quiet c → ((x : A) → Quiet (f x)) → Quiet (c >>= f)
  quiet_then (fine x js) f h next = subst (λ l. Quiet (with_bindings l (f x))) (sym h) (quiet_behind (f x) (next x))
  quiet_then (refused kind token) f h next = tt
  quiet_then broken f h next = tt

  -- ---- judgements that are never fine

  abbrev pub NeverFine : {A : Type 0} → Checked A → Type 0
  NeverFine (fine x js) = ⊥
  NeverFine (refused kind token) = Unit {0}
  NeverFine broken = Unit {0}

  never_behind : {B : Type 0} (js : List Binding) (d : Checked B) → NeverFine d → NeverFine (with_bindings js d)
  never_behind js (fine x ks) h = absurd h
  never_behind js (refused kind token) h = tt
  never_behind js broken h = tt

  pub never_then : {A B : Type 0} (c : Checked A) (f : A → Checked B) → ((x : A) → NeverFine (f x)) → NeverFine (c >>= f)
  never_then (fine x js) f h = never_behind js (f x) (h x)
  never_then (refused kind token) f h = tt
  never_then broken f h = tt

  left_never : {A B : Type 0} (V : A → B → Type 0) (c : Checked A) (d : Checked B) → NeverFine c → Sides named V c d
  left_never V (fine x js) d h = absurd h
  left_never V (refused kind token) d h = tt
  left_never V broken d h = tt

  right_never : {A B : Type 0} (V : A → B → Type 0) (c : Checked A) (d : Checked B) → NeverFine d → Sides named V c d
  right_never V c (fine x js) h = absurd h
  right_never V c (refused kind token) h = sides_refused V c kind token
  right_never V c broken h = sides_broken V c

  -- ---- the bindings of a function

  tied_left : (m : ℕ) (a b : Entity) → Tied named (numbered m a) b → Tied named a b
  tied_left m (local_entity s) (local_entity t) h = h
  tied_left m (local_entity s) (local_of_function g t) h = h
  tied_left m _ _ h = h

  tied_right : (n : ℕ) (a b : Entity) → Tied named a (numbered n b) → Tied named a b
  tied_right n (local_entity s) (local_entity t) h = h
  tied_right n (local_of_function g s) (local_entity t) h = h
  tied_right n (file_entity s) (local_entity t) h = h
  tied_right n (struct_entity s) (local_entity t) h = h
  tied_right n (member_entity s m) (local_entity t) h = h
  tied_right n own_entity (local_entity t) h = h
  tied_right n _ _ h = h

  all_left : (m : ℕ) (js ts us : List Binding) → AllTied named (map (numbered_binding m) js ++ ts) us → AllTied named (js ++ ts) us
  all_left m [] ts us h = h
  all_left m (j ∷ js) ts [] h = absurd h
  all_left m (j ∷ js) ts (u ∷ us) h = (tied_left m j.entity u.entity h.0, all_left m js ts us h.1)

  all_right : (n : ℕ) (ts ks us : List Binding) → AllTied named ts (map (numbered_binding n) ks ++ us) → AllTied named ts (ks ++ us)
  all_right n ts [] us h = h
  all_right n [] (k ∷ ks) us h = absurd h
  all_right n (t ∷ ts) (k ∷ ks) us h = (tied_right n t.entity k.entity h.0, all_right n ts ks us h.1)

  sides_function : {A B : Type 0} (V : A → B → Type 0) (m n : ℕ) (c : Checked A) (d : Checked B) → Sides named V c d → Sides named V (in_function m c) (in_function n d)
  sides_function V m n (fine x js) (fine y ks) h = λ ts us all. h ts us (all_right n (js ++ ts) ks us (all_left m js ts (map (numbered_binding n) ks ++ us) all))
  sides_function V m n (fine x js) (refused kind token) h = tt
  sides_function V m n (fine x js) broken h = tt
  sides_function V m n (refused kind token) d h = tt
  sides_function V m n broken d h = tt

  -- ---- the same as records

  pub alike_give : {A B : Type 0} (V : A → B → Type 0) (x : A) (y : B) → V x y → Alike named V (give x) (give y)
  alike_give V x y v = record { holds = sides_give V x y v }

  pub alike_refused : {A B : Type 0} (V : A → B → Type 0) (kind : TypeKind) (token : PlainToken) (d : Checked B) → Alike named V (refused kind token) d
  alike_refused V kind token d = record { holds = tt }

  pub alike_broken : {A B : Type 0} (V : A → B → Type 0) (d : Checked B) → Alike named V broken d
  alike_broken V d = record { holds = tt }

  pub refused_alike : {A B : Type 0} (V : A → B → Type 0) (kind : TypeKind) (token : PlainToken) (c : Checked A) → Alike named V c (refused kind token)
  refused_alike V kind token c = record { holds = sides_refused V c kind token }

  pub broken_alike : {A B : Type 0} (V : A → B → Type 0) (c : Checked A) → Alike named V c broken
  broken_alike V c = record { holds = sides_broken V c }

  pub never_left : {A B : Type 0} (V : A → B → Type 0) (c : Checked A) (d : Checked B) → NeverFine c → Alike named V c d
  never_left V c d h = record { holds = left_never V c d h }

  pub never_right : {A B : Type 0} (V : A → B → Type 0) (c : Checked A) (d : Checked B) → NeverFine d → Alike named V c d
  never_right V c d h = record { holds = right_never V c d h }

  pub alike_quiet : {A B : Type 0} (c : Checked A) (d : Checked B) → Quiet c → Quiet d → Alike named Anything c d
  alike_quiet c d h i = record { holds = sides_quiet c d h i }

  pub alike_as : {A B : Type 0} (V W : A → B → Type 0) (c : Checked A) (d : Checked B) → Alike named V c d → ((x : A) (y : B) → V x y → W x y) → Alike named W c d
  alike_as V W c d h f = record { holds = sides_as V W c d h.holds f }

  pub alike_function : {A B : Type 0} (V : A → B → Type 0) (m n : ℕ) (c : Checked A) (d : Checked B) → Alike named V c d → Alike named V (in_function m c) (in_function n d)
  alike_function V m n c d h = record { holds = sides_function V m n c d h.holds }

  -- one judgement after another
  pub alike_then :
      {A B C D : Type 0} (V : A → B → Type 0) (W : C → D → Type 0) (c : Checked A) (d : Checked B) (f : A → Checked C) (g : B → Checked D)
      → Alike named V c d → ((x : A) (y : B) → V x y → Alike named W (f x) (g y)) → Alike named W (c >>= f) (d >>= g)
  alike_then V W c d f g h next = record { holds = sides_then V W c d f g h.holds (λ x y v. (next x y v).holds) }

  -- the same result on both sides
  pub alike_equal :
      {A C D : Type 0} (W : C → D → Type 0) (c d : Checked A) (f : A → Checked C) (g : A → Checked D) → Alike named Equal c d → ((x : A) → Alike named W (f x) (g x)) → Alike named W (c >>= f) (d >>= g)
  alike_equal W c d f g h next = alike_then Equal W c d f g h (λ x y e. subst (λ z. Alike named W (f x) (g z)) e (next x))

  -- operands that are the same but for where they are refused
  pub alike_operand :
      {C D : Type 0} (W : C → D → Type 0) (c d : Checked Operand) (f : Operand → Checked C) (g : Operand → Checked D) → Alike named SameOperand c d
      → ((o : Operand) (token : PlainToken) → Alike named W (f o) (g (record o { stands_at = token }))) → Alike named W (c >>= f) (d >>= g)
  alike_operand W c d f g h next = alike_then SameOperand W c d f g h (λ x y e. subst (λ z. Alike named W (f x) (g z)) e (next x y.stands_at))

  -- results that don't matter
  pub alike_any :
      {A B C D : Type 0} (W : C → D → Type 0) (c : Checked A) (d : Checked B) (f : A → Checked C) (g : B → Checked D) → Alike named Anything c d
      → ((x : A) (y : B) → Alike named W (f x) (g y)) → Alike named W (c >>= f) (d >>= g)
  alike_any W c d f g h next = alike_then Anything W c d f g h (λ x y v. next x y)

  pub alike_if :
      {A B : Type 0} (V : A → B → Type 0) (a b : Bool) (c d : Checked A) (f g : Checked B) → a ≡ b → Alike named V c f → Alike named V d g
      → Alike named V (if a then c else d) (if b then f else g)
  alike_if V a b c d f g e h i = record { holds = sides_if V a b c d f g e (λ x. h.holds) (λ x. i.holds) }

  -- where one choice is a refusal it doesn't matter which is taken
  pub alike_if_else :
      {A B : Type 0} (V : A → B → Type 0) (a b : Bool) (c : Checked A) (f : Checked B) (kind other : TypeKind) (token at : PlainToken) → Alike named V c f
      → Alike named V (if a then c else refused kind token) (if b then f else refused other at)
  alike_if_else V a b c f kind other token at h = record { holds = sides_if_else V a b c f kind other token at (λ x y. h.holds) }

  pub alike_tests :
      {C D : Type 0} (W : C → D → Type 0) (a b : Bool) (kind other : TypeKind) (token at : PlainToken) (f : Unit {0} → Checked C) (g : Unit {0} → Checked D)
      → ((x y : Unit {0}) → Alike named W (f x) (g y)) → Alike named W (unless_so a kind token >>= f) (unless_so b other at >>= g)
  alike_tests W a b kind other token at f g next =
      alike_then (λ x y. (a ≡ true) × (b ≡ true)) W (unless_so a kind token) (unless_so b other at) f g (record { holds = sides_unless a b kind other token at }) (λ x y v. next x y)

  pub alike_unless : (a b : Bool) (kind other : TypeKind) (token at : PlainToken) → Alike named Anything (unless_so a kind token) (unless_so b other at)
  alike_unless a b kind other token at = alike_quiet (unless_so a kind token) (unless_so b other at) (quiet_unless a kind token) (quiet_unless b other at)

  pub alike_finds :
      {A B C D : Type 0} (W : C → D → Type 0) (a : Option A) (b : Option B) (kind other : TypeKind) (token at : PlainToken) (f : A → Checked C) (g : B → Checked D)
      → ((x : A) (y : B) → a ≡ Some x → b ≡ Some y → Alike named W (f x) (g y)) → Alike named W (found_or a kind token >>= f) (found_or b other at >>= g)
  alike_finds W a b kind other token at f g next =
      alike_then (λ x y. (a ≡ Some x) × (b ≡ Some y)) W (found_or a kind token) (found_or b other at) f g (record { holds = sides_found a b kind other token at }) (λ x y v. next x y v.0 v.1)

  some_same : {A : Type 0} (a b : Option A) (x y : A) → a ≡ b → a ≡ Some x → b ≡ Some y → x ≡ y
  some_same a b x y e h i = cc

  pub alike_finds_same :
      {A C D : Type 0} (W : C → D → Type 0) (a b : Option A) (kind other : TypeKind) (token at : PlainToken) (f : A → Checked C) (g : A → Checked D)
      → a ≡ b → ((x : A) → Alike named W (f x) (g x)) → Alike named W (found_or a kind token >>= f) (found_or b other at >>= g)
  alike_finds_same W a b kind other token at f g e next =
      alike_finds W a b kind other token at f g (λ x y h i. subst (λ z. Alike named W (f x) (g z)) (some_same a b x y e h i) (next x))

  pub found_alike : {A : Type 0} (a b : Option A) (kind other : TypeKind) (token at : PlainToken) → a ≡ b → Alike named Equal (found_or a kind token) (found_or b other at)
  found_alike a b kind other token at e =
      alike_as (λ x y. (a ≡ Some x) × (b ≡ Some y)) Equal (found_or a kind token) (found_or b other at) (record { holds = sides_found a b kind other token at }) (λ x y v. some_same a b x y e v.0 v.1)

  pub alike_somes :
      {A B C D : Type 0} (W : C → D → Type 0) (a : Option A) (b : Option B) (f : A → Checked C) (g : B → Checked D)
      → ((x : A) (y : B) → a ≡ Some x → b ≡ Some y → Alike named W (f x) (g y)) → Alike named W (or_broken a >>= f) (or_broken b >>= g)
  alike_somes W a b f g next = alike_then (λ x y. (a ≡ Some x) × (b ≡ Some y)) W (or_broken a) (or_broken b) f g (record { holds = sides_or_broken a b }) (λ x y v. next x y v.0 v.1)

  pub alike_somes_same :
      {A C D : Type 0} (W : C → D → Type 0) (a b : Option A) (f : A → Checked C) (g : A → Checked D)
      → a ≡ b → ((x : A) → Alike named W (f x) (g x)) → Alike named W (or_broken a >>= f) (or_broken b >>= g)
  alike_somes_same W a b f g e next = alike_somes W a b f g (λ x y h i. subst (λ z. Alike named W (f x) (g z)) (some_same a b x y e h i) (next x))

  -- ---- identifiers

  pub alike_uses :
      {C D : Type 0} (W : C → D → Type 0) (e o : Entity) (f : Unit {0} → Checked C) (g : Unit {0} → Checked D) → (Tied named e o → (x y : Unit {0}) → Alike named W (f x) (g y)) → Alike named W (uses e >>= f) (uses o >>= g)
  alike_uses W e o f g next = alike_then (λ x y. Tied named e o) W (uses e) (uses o) f g (record { holds = λ ts us all. (all.0, all.1) }) (λ x y v. next v x y)

  pub alike_declares :
      {C D : Type 0} (W : C → D → Type 0) (e o : Entity) (f : Unit {0} → Checked C) (g : Unit {0} → Checked D) → (Tied named e o → (x y : Unit {0}) → Alike named W (f x) (g y)) → Alike named W (declares e >>= f) (declares o >>= g)
  alike_declares W e o f g next = alike_then (λ x y. Tied named e o) W (declares e) (declares o) f g (record { holds = λ ts us all. (all.0, all.1) }) (λ x y v. next v x y)

pub ruleset alike_rules = (alike_operand, alike_equal, alike_tests, alike_unless, alike_finds_same, found_alike, alike_somes_same, alike_if_else, alike_give, alike_refused, alike_broken, refused_alike, broken_alike)
