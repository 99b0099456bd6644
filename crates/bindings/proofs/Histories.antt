-- Identifiers in the order of the text, and the first with an entity among them.
use Rattle.std.proofs.Common.{◌≡◌, ℕ, Bool, true, false, List, [], ◌∷◌, ◌++◌, refl, sym, ap, subst, ◌∙◌, IsTrue}
use Rattle.std.specs.Prelude.{Option, Some, None, if◌then◌else◌, ◌==◌}
use Rattle.std.proofs.lemmas.Bool.{and_parts, eqb-true}
use Rattle.std.specs.Cmp.Lexicographic.{bytes_decides}
use Rattle.c_text.specs.Token.{PlainToken}
use Rattle.core_meaning.specs.Checking.{Entity, local_entity, local_of_function, file_entity, struct_entity, member_entity, Binding as JudgedBinding}
use Rattle.bindings.specs.Visible.{Binding, bound_to, undeclared, member_use, Occurrence}
use Rattle.bindings.specs.Judged.{IsDeclared, IsBoundAlike, same_entity, Identified, first_with, identified, IsAlike, AreAlike, IsFirstUndeclared}

-- ---- what is the same entity

same_number : (a b : ℕ) → (a == b) ≡ true → a ≡ b
same_number a b h = eqb-true a b h

pub same_is : (a b : Entity) → same_entity a b ≡ true → a ≡ b
same_is (local_entity m) (local_entity n) h = ap local_entity (same_number m n h)
same_is (local_of_function f m) (local_of_function g n) h =
    let both = and_parts (f == g) (m == n) h in
    ap (λ x. local_of_function x m) (same_number f g both.0) ∙ ap (local_of_function g) (same_number m n both.1)
same_is (file_entity a) (file_entity b) h = ap file_entity ((bytes_decides a b).0 h)
same_is (struct_entity m) (struct_entity n) h = ap struct_entity (same_number m n h)
same_is (member_entity s m) (member_entity u n) h =
    let both = and_parts (s == u) (m == n) h in
    ap (λ x. member_entity x m) (same_number s u both.0) ∙ ap (member_entity u) (same_number m n both.1)
same_is _ _ h = absurd cc

-- ---- histories

abbrev pub recorded : List Identified → List Occurrence → List JudgedBinding → List Identified
recorded before [] js = before
recorded before (o ∷ os) [] = before
recorded before (o ∷ os) (j ∷ js) = recorded (before ++ identified o j ∷ []) os js

pub alike_append :
    (before : List Identified) (os ps : List Occurrence) (js ks : List JudgedBinding) → AreAlike before os js → AreAlike (recorded before os js) ps ks
    → AreAlike before (os ++ ps) (js ++ ks)
alike_append before [] ps [] ks a b = b
alike_append before [] ps (j ∷ js) ks a b = absurd a
alike_append before (o ∷ os) ps [] ks a b = absurd a
alike_append before (o ∷ os) ps (j ∷ js) ks a b = (a.0, alike_append (before ++ identified o j ∷ []) os ps js ks a.1 b)

pub recorded_append :
    (before : List Identified) (os ps : List Occurrence) (js ks : List JudgedBinding) → AreAlike before os js
    → recorded before (os ++ ps) (js ++ ks) ≡ recorded (recorded before os js) ps ks
recorded_append before [] ps [] ks a = refl
recorded_append before [] ps (j ∷ js) ks a = absurd a
recorded_append before (o ∷ os) ps [] ks a = absurd a
recorded_append before (o ∷ os) ps (j ∷ js) ks a = recorded_append (before ++ identified o j ∷ []) os ps js ks a.1

-- ---- undeclared identifiers

pub unbound_append : (token : PlainToken) (os ps : List Occurrence) → IsFirstUndeclared token os → IsFirstUndeclared token (os ++ ps)
unbound_append token [] ps h = absurd h
unbound_append token (o ∷ os) ps h = by o.binding (unbound_append token os ps) h
  where
    by :
        (b : Binding) → (IsFirstUndeclared token os → IsFirstUndeclared token (os ++ ps))
        → (elim b as (λ x. Type 0) [ bound_to n ↦ IsFirstUndeclared token os | undeclared ↦ IsTrue (Rattle.core_meaning.specs.Constancy.same_place token o.token) | member_use w ↦ IsFirstUndeclared token os ])
        → (elim b as (λ x. Type 0) [ bound_to n ↦ IsFirstUndeclared token (os ++ ps) | undeclared ↦ IsTrue (Rattle.core_meaning.specs.Constancy.same_place token o.token) | member_use w ↦ IsFirstUndeclared token (os ++ ps) ])
    by (bound_to n) further h = further h
    by undeclared further h = h
    by (member_use w) further h = further h

bound_declared : (before : List Identified) (o : Occurrence) (entity : Entity) → IsBoundAlike before o entity → IsDeclared o
bound_declared before o entity = seen o.binding
  where
    seen : (b : Binding) → (elim b as (λ x. Type 0) [ bound_to n ↦ n ≡ Rattle.bindings.specs.Judged.number_or (first_with entity before) o.number | undeclared ↦ ⊥ | member_use w ↦ Rattle.bindings.specs.Judged.IsMember before w entity ]) → (elim b as (λ x. Type 0) [ bound_to n ↦ Unit {0} | undeclared ↦ ⊥ | member_use w ↦ Unit {0} ])
    seen (bound_to n) h = tt
    seen undeclared h = h
    seen (member_use w) h = tt

pub is_declared : (before : List Identified) (o : Occurrence) (entity : Entity) → IsAlike before o entity → IsDeclared o
is_declared before o (local_entity slot) h = h
is_declared before o entity h = bound_declared before o entity h

-- to be bound alike is enough
pub alike_bound : (before : List Identified) (o : Occurrence) (entity : Entity) → IsBoundAlike before o entity → IsAlike before o entity
alike_bound before o (local_entity slot) h = bound_declared before o (local_entity slot) h
alike_bound before o entity h = h

pub unbound_behind :
    (token : PlainToken) (before : List Identified) (os ps : List Occurrence) (js : List JudgedBinding) → AreAlike before os js → IsFirstUndeclared token ps
    → IsFirstUndeclared token (os ++ ps)
unbound_behind token before [] ps js a h = h
unbound_behind token before (o ∷ os) ps [] a h = absurd a
unbound_behind token before (o ∷ os) ps (j ∷ js) a h =
    by o.binding (unbound_behind token (before ++ identified o j ∷ []) os ps js a.1 h) (λ e. subst (λ (b : Binding). elim b as (λ x. Type 0) [ bound_to n ↦ Unit {0} | undeclared ↦ ⊥ | member_use w ↦ Unit {0} ]) e (is_declared before o j.entity a.0))
  where
    by :
        (b : Binding) → IsFirstUndeclared token (os ++ ps) → (b ≡ undeclared → ⊥)
        → (elim b as (λ x. Type 0) [ bound_to n ↦ IsFirstUndeclared token (os ++ ps) | undeclared ↦ IsTrue (Rattle.core_meaning.specs.Constancy.same_place token o.token) | member_use w ↦ IsFirstUndeclared token (os ++ ps) ])
    by (bound_to n) further never = further
    by undeclared further never = absurd (never refl)
    by (member_use w) further never = further

-- ---- the first with an entity

abbrev pub SameFirsts : List Identified → List Identified → Type 0
SameFirsts before after = (e : Entity) → first_with e after ≡ first_with e before

pub first_kept : (e : Entity) (before : List Identified) (i found : Identified) → first_with e before ≡ Some found → first_with e (before ++ i ∷ []) ≡ Some found
first_kept e [] i found h = absurd cc
first_kept e (x ∷ rest) i found h = by (same_entity x.entity e) (first_kept e rest i found) h
  where
    by :
        (b : Bool) → (first_with e rest ≡ Some found → first_with e (rest ++ i ∷ []) ≡ Some found) → (if b then Some x else first_with e rest) ≡ Some found
        → (if b then Some x else first_with e (rest ++ i ∷ [])) ≡ Some found
    by true further h = h
    by false further h = further h

-- one that has none before is the first
pub first_new : (e : Entity) (before : List Identified) (i : Identified) → first_with e before ≡ None → same_entity i.entity e ≡ true → first_with e (before ++ i ∷ []) ≡ Some i
first_new e [] i h is = rw is refl
first_new e (x ∷ rest) i h is = by (same_entity x.entity e) (λ g. first_new e rest i g is) h
  where
    by : (b : Bool) → (first_with e rest ≡ None → first_with e (rest ++ i ∷ []) ≡ Some i) → (if b then Some x else first_with e rest) ≡ None → (if b then Some x else first_with e (rest ++ i ∷ [])) ≡ Some i
    by true further h = absurd cc
    by false further h = further h

-- one of another entity changes nothing
pub first_other : (e : Entity) (before : List Identified) (i : Identified) → same_entity i.entity e ≡ false → first_with e (before ++ i ∷ []) ≡ first_with e before
first_other e [] i other = rw other refl
first_other e (x ∷ rest) i other = ap (λ (f : Option Identified). if same_entity x.entity e then Some x else f) (first_other e rest i other)

-- nor does a further one
pub first_again : (before : List Identified) (i found : Identified) → first_with i.entity before ≡ Some found → SameFirsts before (before ++ i ∷ [])
first_again before i found h e = by (same_entity i.entity e) refl
  where
    by : (b : Bool) → same_entity i.entity e ≡ b → first_with e (before ++ i ∷ []) ≡ first_with e before
    by true is =
        let now : first_with e before ≡ Some found = subst (λ x. first_with x before ≡ Some found) (same_is i.entity e is) h in
        first_kept e before i found now ∙ sym now
    by false is = first_other e before i is

-- ---- what is first stays so

abbrev pub Grows : List Identified → List Identified → Type 0
Grows before after = (e : Entity) (i : Identified) → first_with e before ≡ Some i → first_with e after ≡ Some i

pub recorded_grows : (before : List Identified) (os : List Occurrence) (js : List JudgedBinding) → Grows before (recorded before os js)
recorded_grows before [] js e i h = h
recorded_grows before (o ∷ os) [] e i h = h
recorded_grows before (o ∷ os) (j ∷ js) e i h = recorded_grows (before ++ identified o j ∷ []) os js e i (first_kept e before (identified o j) i h)
