-- The identifiers of a unit one by one, with all that is known of each.
use Rattle.std.proofs.Common.{◌≡◌, ℕ, true, false, List, [], ◌∷◌, ◌++◌, map, inl, inr, refl, sym, ap, subst, ◌∙◌}
use Rattle.std.specs.Prelude.{◌⊎◌, Option, Some, flat_map}
use Rattle.std.specs.List.{AllZip, AllByRecursion}
use Rattle.std.proofs.lemmas.Bool.{eqb-true}
use Rattle.core_meaning.specs.Checking.{Entity, local_entity, local_of_function, file_entity, struct_entity, member_entity, own_entity, Binding}
use Rattle.core_meaning.specs.Entities.{Table}
use Rattle.bindings.specs.Visible.{NameSpace, Binding as Bound, Occurrence as BoundIdentifier}
use Rattle.bindings.specs.Judged.{Identified, first_with}
use Rattle.choice_trees.specs.Leaves.{Leaf}
use Rattle.changed_forests.specs.Numbered.{number_of}
use Rattle.entity_numbers.specs.Bound.{IsOfUnit}
use Rattle.program_occurrences.specs.Occurrences.{UnitNames, or_itself, Occurrence, declares_itself}
use Rattle.program_occurrences.specs.Laws.{IsBoundTo, IsBoundBy, IsOccurrenceOf}
use Rattle.occurrence_names.specs.Laws.{KeepsName}
use Rattle.occurrence_names.proofs.Kept.{In}
use Rattle.name_spaces.specs.Laws.{IsTold, binds_itself}
use Rattle.name_spaces.proofs.Embeddings.{Spaces, Fits}
use Rattle.told_occurrences.specs.Told.{number_in}

pub record Row : Type 0 where
  pub bound : BoundIdentifier
  pub occurrence : Occurrence
  pub space : Option NameSpace
  pub judged : Binding
  pub leaf : Leaf

pub record IsLeafOf (numbers : List ℕ) (b : BoundIdentifier) (l : Leaf) : Type 0 where
  pub text : l.text ≡ b.token
  pub tells : l.number ≡ Some (number_in numbers b.number)
  pub number : number_of l.text ≡ number_in numbers b.number

pub record Facts (unit : UnitNames) (tags : Table ℕ) (numbers : List ℕ) (r : Row) : Type 0 where
  pub is : IsOccurrenceOf unit.identified r.bound r.occurrence
  pub told : IsTold unit r.occurrence r.space
  pub itself : binds_itself r.bound ≡ declares_itself r.occurrence
  pub entity : r.occurrence.identifier.entity ≡ r.judged.entity
  pub fits : Fits tags r.space r.judged
  pub unused : declares_itself r.occurrence ≡ true → r.judged.in_expression ≡ false
  pub keeps : KeepsName r.occurrence
  pub free : IsOfUnit r.judged.entity
  pub first : r.occurrence.declared_by ≡ or_itself r.occurrence.identifier (first_with r.occurrence.identifier.entity unit.identified)
  pub leaf : IsLeafOf numbers r.bound r.leaf

-- ---- the rows of lists

abbrev pub IsJudgedAs : Occurrence → Binding → Type 0
IsJudgedAs o j = o.identifier.entity ≡ j.entity

abbrev pub IsUnused : Occurrence → Binding → Type 0
IsUnused o j = declares_itself o ≡ true → j.in_expression ≡ false

abbrev pub IsFirst : UnitNames → Occurrence → Type 0
IsFirst unit o = o.declared_by ≡ or_itself o.identifier (first_with o.identifier.entity unit.identified)

pub record Rows (unit : UnitNames) (tags : Table ℕ) (numbers : List ℕ) (bs : List BoundIdentifier) (os : List Occurrence) (ss : Spaces) (js : List Binding) (ls : List Leaf) : Type 0 where
  pub rows : List Row
  pub bounds : map (λ (r : Row). r.bound) rows ≡ bs
  pub occurrences : map (λ (r : Row). r.occurrence) rows ≡ os
  pub spaces : map (λ (r : Row). r.space) rows ≡ ss
  pub bindings : map (λ (r : Row). r.judged) rows ≡ js
  pub leaves : map (λ (r : Row). r.leaf) rows ≡ ls
  pub facts : AllByRecursion (Facts unit tags numbers) rows

module _ (unit : UnitNames) (tags : Table ℕ) (numbers : List ℕ) where
  pub rows_of :
      (bs : List BoundIdentifier) (os : List Occurrence) (ss : Spaces) (js : List Binding) (ls : List Leaf)
      → AllZip (IsOccurrenceOf unit.identified) bs os → AllZip (IsTold unit) os ss → AllZip (λ b o. binds_itself b ≡ declares_itself o) bs os → AllZip IsJudgedAs os js → AllZip (Fits tags) ss js → AllZip IsUnused os js
      → AllByRecursion KeepsName os → AllByRecursion (λ j. IsOfUnit j.entity) js → AllByRecursion (IsFirst unit) os → AllZip (IsLeafOf numbers) bs ls → Rows unit tags numbers bs os ss js ls
  rows_of [] [] [] [] [] a b c d e f g h i l = record { rows = []; bounds = refl; occurrences = refl; spaces = refl; bindings = refl; leaves = refl; facts = tt }
  rows_of [] [] [] [] (x ∷ ls) a b c d e f g h i l = absurd l
  rows_of [] [] [] (j ∷ js) ls a b c d e f g h i l = absurd d
  rows_of [] [] (s ∷ ss) js ls a b c d e f g h i l = absurd b
  rows_of [] (o ∷ os) ss js ls a b c d e f g h i l = absurd a
  rows_of (x ∷ bs) [] ss js ls a b c d e f g h i l = absurd a
  rows_of (x ∷ bs) (o ∷ os) [] js ls a b c d e f g h i l = absurd b
  rows_of (x ∷ bs) (o ∷ os) (s ∷ ss) [] ls a b c d e f g h i l = absurd d
  rows_of (x ∷ bs) (o ∷ os) (s ∷ ss) (j ∷ js) [] a b c d e f g h i l = absurd l
  rows_of (x ∷ bs) (o ∷ os) (s ∷ ss) (j ∷ js) (y ∷ ls) a b c d e f g h i l =
      let later = rows_of bs os ss js ls a.1 b.1 c.1 d.1 e.1 f.1 g.1 h.1 i.1 l.1 in
      let r : Row = record { bound = x; occurrence = o; space = s; judged = j; leaf = y } in
      record {
        rows = r ∷ later.rows;
        bounds = ap (λ (t : List BoundIdentifier). x ∷ t) later.bounds;
        occurrences = ap (λ (t : List Occurrence). o ∷ t) later.occurrences;
        spaces = ap (λ (t : Spaces). s ∷ t) later.spaces;
        bindings = ap (λ (t : List Binding). j ∷ t) later.bindings;
        leaves = ap (λ (t : List Leaf). y ∷ t) later.leaves;
        facts = (record { is = a.0; told = b.0; itself = c.0; entity = d.0; fits = e.0; unused = f.0; keeps = g.0; free = h.0; first = i.0; leaf = l.0 }, later.facts);
      }

-- ---- elements

pub in_left : {X : Type 0} (x : X) (xs ys : List X) → In x xs → In x (xs ++ ys)
in_left x [] ys i = absurd i
in_left x (y ∷ xs) ys (inl e) = inl e
in_left x (y ∷ xs) ys (inr i) = inr (in_left x xs ys i)

pub in_right : {X : Type 0} (x : X) (xs ys : List X) → In x ys → In x (xs ++ ys)
in_right x [] ys i = i
in_right x (y ∷ xs) ys i = inr (in_right x xs ys i)

pub in_either : {X : Type 0} (x : X) (xs ys : List X) → In x (xs ++ ys) → In x xs ⊎ In x ys
in_either x [] ys i = inr i
in_either x (y ∷ xs) ys (inl e) = inl (inl e)
in_either x (y ∷ xs) ys (inr i) = by (in_either x xs ys i)
  where
    by : In x xs ⊎ In x ys → In x (y ∷ xs) ⊎ In x ys
    by (inl a) = inl (inr a)
    by (inr b) = inr b

-- what an element of a list was made of
pub record Source {X Y : Type 0} (f : X → Y) (xs : List X) (y : Y) : Type 0 where
  pub source : X
  pub among : In source xs
  pub same : y ≡ f source

pub in_source : {X Y : Type 0} (f : X → Y) (xs : List X) (y : Y) → In y (map f xs) → Source f xs y
in_source f [] y i = absurd i
in_source f (x ∷ xs) y (inl e) = record { source = x; among = inl refl; same = e }
in_source f (x ∷ xs) y (inr i) = let s = in_source f xs y i in record { source = s.source; among = inr s.among; same = s.same }

pub record Origin {X Y : Type 0} (f : X → List Y) (xs : List X) (y : Y) : Type 0 where
  pub source : X
  pub among : In source xs
  pub made : In y (f source)

pub in_origin : {X Y : Type 0} (f : X → List Y) (xs : List X) (y : Y) → In y (flat_map f xs) → Origin f xs y
in_origin f [] y i = absurd i
in_origin f (x ∷ xs) y i = by (λ b. in_origin f xs y b) (in_either y (f x) (flat_map f xs) i)
  where
    by : (In y (flat_map f xs) → Origin f xs y) → In y (f x) ⊎ In y (flat_map f xs) → Origin f (x ∷ xs) y
    by later (inl a) = record { source = x; among = inl refl; made = a }
    by later (inr b) = let o = later b in record { source = o.source; among = inr o.among; made = o.made }

pub in_made : {X Y : Type 0} (f : X → List Y) (xs : List X) (x : X) (y : Y) → In x xs → In y (f x) → In y (flat_map f xs)
in_made f [] x y i m = absurd i
in_made f (z ∷ xs) x y (inl e) m = in_left y (f z) (flat_map f xs) (subst (λ s. In y (f s)) e m)
in_made f (z ∷ xs) x y (inr i) m = in_right y (f z) (flat_map f xs) (in_made f xs x y i m)

-- ---- one row

pub bound_so : (all : List Identified) (x : Bound) (o : Occurrence) (e : Entity) → IsOfUnit e → IsBoundBy all x o e → IsBoundTo all x o
bound_so all x o (local_entity slot) free h = absurd free
bound_so all x o (local_of_function f slot) free h = h
bound_so all x o (file_entity name) free h = h
bound_so all x o (struct_entity n) free h = h
bound_so all x o (member_entity s n) free h = h
bound_so all x o own_entity free h = h

module _ (unit : UnitNames) (tags : Table ℕ) (numbers : List ℕ) (r : Row) (f : Facts unit tags numbers r) where
  pub row_bound : (x : Bound) → r.bound.binding ≡ x → IsBoundTo unit.identified x r.occurrence
  row_bound x e =
      bound_so unit.identified x r.occurrence r.occurrence.identifier.entity (subst IsOfUnit (sym f.entity) f.free)
      (subst (λ (y : Bound). IsBoundBy unit.identified y r.occurrence r.occurrence.identifier.entity) e f.is.bound)

  pub row_own : declares_itself r.occurrence ≡ true → r.occurrence.identifier.number ≡ r.occurrence.declared_by.number
  row_own e = eqb-true r.occurrence.identifier.number r.occurrence.declared_by.number e

  -- what declares itself is the first of its entity
  pub row_first : (e : Entity) (by : Identified) → r.judged.entity ≡ e → first_with e unit.identified ≡ Some by → declares_itself r.occurrence ≡ true → r.bound.number ≡ by.number
  row_first e by is found own =
      sym f.is.number ∙ row_own own
      ∙ ap (λ (i : Identified). i.number) (f.first ∙ ap (or_itself r.occurrence.identifier) (ap (λ (x : Entity). first_with x unit.identified) (f.entity ∙ is) ∙ found))
