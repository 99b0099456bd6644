-- The first identifier that stands for an entity.
use Rattle.std.proofs.Common.{◌≡◌, ℕ, suc, zero, ◌==◌, Bool, true, false, List, [], ◌∷◌, map, Option, Some, None, Contains, refl, ap, ap₂, sym, ◌∙◌, subst, eqb-true, arith}
use Rattle.std.specs.Prelude.{if◌then◌else◌, IsTrue}
use Rattle.std.specs.Str.{bytes_eq}
use Rattle.std.proofs.lemmas.Bool.{and_parts}
use Rattle.std.proofs.lemmas.Slice.Eq.{bytes_eq-Decides}
use Rattle.core_meaning.specs.Checking.{Entity, local_entity, local_of_function, file_entity, struct_entity, member_entity}
use Rattle.bindings.specs.Judged.{Identified, same_entity, first_with}
use Rattle.program_occurrences.specs.Occurrences.{UnitNames, Occurrence, or_itself, occurrence_among}
use Rattle.program_occurrences.specs.Laws.{IsDeclaredIn, DeclarationsAreOccurrences}

same_bytes : (a b : List ℕ) → IsTrue (bytes_eq a b) → a ≡ b
same_bytes a b e = let d = bytes_eq-Decides a b in d.0 e

pub same_entity-is : (a b : Entity) → IsTrue (same_entity a b) → a ≡ b
same_entity-is (local_entity m) (local_entity n) e = ap local_entity (eqb-true m n e)
same_entity-is (local_of_function f m) (local_of_function g n) e =
    let both = and_parts (f == g) (m == n) e in ap₂ local_of_function (eqb-true f g both.0) (eqb-true m n both.1)
same_entity-is (file_entity a) (file_entity b) e = ap file_entity (same_bytes a b e)
same_entity-is (struct_entity m) (struct_entity n) e = ap struct_entity (eqb-true m n e)
same_entity-is (member_entity s m) (member_entity t n) e =
    let both = and_parts (s == t) (m == n) e in ap₂ member_entity (eqb-true s t both.0) (eqb-true m n both.1)
same_entity-is _ _ e = absurd cc

-- the first is one of them, and stands for the entity
pub record IsFirst (entity : Entity) (all : List Identified) (first : Identified) : Type 0 where
  pub among : Contains all first
  pub entity_is : first.entity ≡ entity

first_by_test :
    (entity : Entity) (i : Identified) (rest : List Identified) (first : Identified) → (first_with entity rest ≡ Some first → IsFirst entity rest first)
    → (b : Bool) → same_entity i.entity entity ≡ b → (if b then Some i else first_with entity rest) ≡ Some first → IsFirst entity (i ∷ rest) first
first_by_test entity i rest first behind true s e =
    let same : i ≡ first = cc in
    record { among = (0, omega arith, same); entity_is = ap (λ (x : Identified). x.entity) (sym same) ∙ same_entity-is i.entity entity s }
first_by_test entity i rest first behind false s e =
    let f = behind e in record { among = (suc f.among.0, omega (arith, f.among.1), f.among.2); entity_is = f.entity_is }

pub first_is : (entity : Entity) (all : List Identified) (first : Identified) → first_with entity all ≡ Some first → IsFirst entity all first
first_is entity [] first e = absurd cc
first_is entity (i ∷ rest) first e = first_by_test entity i rest first (λ e. first_is entity rest first e) (same_entity i.entity entity) refl e

-- ---- elements of lists that are made of others

pub record IsOf {X Y : Type 0} (f : X → Y) (xs : List X) (y : Y) : Type 0 where
  pub source : X
  pub among : Contains xs source
  pub same : f source ≡ y

pub source_of : {X Y : Type 0} (f : X → Y) (xs : List X) (y : Y) → Contains (map f xs) y → IsOf f xs y
source_of f [] y (k, below, e) = absurd (omega arith)
source_of f (x ∷ xs) y (zero, below, e) = record { source = x; among = (0, omega arith, refl); same = e }
source_of f (x ∷ xs) y (suc k, below, e) =
    let s = source_of f xs y (k, omega arith, e) in record { source = s.source; among = (suc s.among.0, omega (arith, s.among.1), s.among.2); same = s.same }

pub made_from : {X Y : Type 0} (f : X → Y) (xs : List X) (x : X) → Contains xs x → Contains (map f xs) (f x)
made_from f [] x (k, below, e) = absurd (omega arith)
made_from f (first ∷ xs) x (zero, below, e) = (0, omega arith, ap f e)
made_from f (first ∷ xs) x (suc k, below, e) = let m = made_from f xs x (k, omega arith, e) in (suc m.0, omega (arith, m.1), m.2)

-- ---- declarations

declared :
    (unit : UnitNames) (i : Identified) → Contains unit.identified i → (x : Option Identified) → first_with i.entity unit.identified ≡ x
    → IsDeclaredIn unit (occurrence_among unit.identified i)
declared unit i among None e = record {
  declaration = occurrence_among unit.identified i;
  among = made_from (occurrence_among unit.identified) unit.identified i among;
  identifier = ap (or_itself i) (sym e);
  itself = refl;
}
declared unit i among (Some d) e =
    let first = first_is i.entity unit.identified d e in
    let by : occurrence_among unit.identified d ≡ record { identifier = d; declared_by = d } =
    ap (λ x. record { identifier = d; declared_by = or_itself d x }) (ap (λ x. first_with x unit.identified) first.entity_is ∙ e) in
    record {
      declaration = occurrence_among unit.identified d;
      among = made_from (occurrence_among unit.identified) unit.identified d first.among;
      identifier = ap (or_itself i) (sym e);
      itself = ap (λ (o : Occurrence). o.declared_by) by ∙ ap (or_itself i) (sym e);
    }

pub declarations_are_occurrences : DeclarationsAreOccurrences
declarations_are_occurrences unit o among =
    let s = source_of (occurrence_among unit.identified) unit.identified o among in
    subst (IsDeclaredIn unit) s.same (declared unit s.source s.among (first_with s.source.entity unit.identified) refl)
