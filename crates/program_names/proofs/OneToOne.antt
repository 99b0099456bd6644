-- Names that stand at one place correspond one to one, where each identifier is declared by the one at the same place.
use Rattle.std.proofs.Common.{◌≡◌, inl, inr, ℕ, zero, suc, ◌≤◌, Bool, true, false, List, [], ◌∷◌, map, refl, sym, ap, subst, ◌∙◌, arith}
use Rattle.std.specs.Prelude.{◌⊎◌, Some, ◌||◌, if◌then◌else◌}
use Rattle.std.specs.List.{AllByRecursion, AllZip}
use Rattle.std.specs.Str.{bytes_eq}
use Rattle.std.specs.Cmp.Lexicographic.{bytes_decides}
use Rattle.std.proofs.lemmas.Bool.{and_parts, false≢true}
use Rattle.c_tree.specs.Trees.{PlainTree, spelled}
use Rattle.core_meaning.specs.Checking.{Entity, file_entity}
use Rattle.core_meaning.specs.Entities.{Struct}
use Rattle.bindings.specs.Judged.{same_entity, Identified, first_with, number_or}
use Rattle.bindings.proofs.Histories.{same_is}
use Rattle.renamed_programs.specs.Laws.{IsOneToOne}
use Rattle.entity_numbers.specs.Firsts.{AreInOrder, first_number, AreFirstAlike}
use Rattle.program_occurrences.specs.Occurrences.{UnitNames, structs_behind, judged_behind, judged_bindings, names_behind, names_of_units}
use Rattle.program_occurrences.specs.Links.{bound_numbers}
use Rattle.unit_numbers.proofs.Alike.{in_order, firsts_alike}
use Rattle.occurrence_names.proofs.Kept.{In}
use Rattle.program_names.specs.Names.{are_names, stand_at_one_place, names_at_places}
use Rattle.program_names.specs.Laws.{NamesAreOneToOne}

-- ---- identifiers among others

later : (from : ℕ) (i : Identified) (all : List Identified) → AreInOrder from all → In i all → from ≤ i.number
later from i [] order among = absurd among
later from i (j ∷ rest) order (inl e) = subst (λ (k : Identified). from ≤ k.number) (sym e) order.0
later from i (j ∷ rest) order (inr among) = let less : suc j.number ≤ i.number = later (suc j.number) i rest order.1 among in let first : from ≤ j.number = order.0 in omega (arith, less, first)

-- one number, one identifier
pub one_number : (from : ℕ) (i j : Identified) (all : List Identified) → AreInOrder from all → In i all → In j all → i.number ≡ j.number → i ≡ j
one_number from i j [] order a b e = absurd a
one_number from i j (k ∷ rest) order (inl a) (inl b) e = a ∙ sym b
one_number from i j (k ∷ rest) order (inl a) (inr b) e =
    let less : suc k.number ≤ j.number = later (suc k.number) j rest order.1 b in let same_ : i.number ≡ k.number = ap (λ (l : Identified). l.number) a in let number : i.number ≡ j.number = e in absurd (omega (arith, less, same_, number))
one_number from i j (k ∷ rest) order (inr a) (inl b) e =
    let less : suc k.number ≤ i.number = later (suc k.number) i rest order.1 a in let same_ : j.number ≡ k.number = ap (λ (l : Identified). l.number) b in let number : i.number ≡ j.number = e in absurd (omega (arith, less, same_, number))
one_number from i j (k ∷ rest) order (inr a) (inr b) e = one_number (suc k.number) i j rest order.1 a b e

-- the first that stands for a name
pub record First (e : Entity) (all : List Identified) : Type 0 where
  pub first : Identified
  pub found : first_with e all ≡ Some first
  pub among : In first all
  pub stands : first.entity ≡ e

pub first_of : (i : Identified) (all : List Identified) → same_entity i.entity i.entity ≡ true → In i all → First i.entity all
first_of i [] same_ among = absurd among
first_of i (j ∷ rest) same_ among = by (same_entity j.entity i.entity) refl (λ m. first_of i rest same_ m) among
  where
    more_ : First i.entity rest → same_entity j.entity i.entity ≡ false → First i.entity (j ∷ rest)
    more_ f e = record { first = f.first; found = ap (λ (b : Bool). if b then Some j else first_with i.entity rest) e ∙ f.found; among = inr f.among; stands = f.stands }

    by : (b : Bool) → same_entity j.entity i.entity ≡ b → (In i rest → First i.entity rest) → (i ≡ j) ⊎ In i rest → First i.entity (j ∷ rest)
    by true e further a = record { first = j; found = ap (λ (b : Bool). if b then Some j else first_with i.entity rest) e; among = inl refl; stands = same_is j.entity i.entity e }
    by false e further (inl a) = absurd (false≢true (sym e ∙ ap (λ (k : Identified). same_entity k.entity i.entity) (sym a) ∙ same_))
    by false e further (inr a) = more_ (further a) e

pub first_is : (i : Identified) (all : List Identified) (f : First i.entity all) → first_number all i ≡ f.first.number
first_is i all f = ap (λ o. number_or o i.number) f.found

-- identifiers that stand for one thing have one first, and those that have one first stand for one thing
one_first : (i j : Identified) (all : List Identified) → same_entity i.entity i.entity ≡ true → In i all → i.entity ≡ j.entity → first_number all i ≡ first_number all j
one_first i j all same_ among e =
    let f = first_of i all same_ among in
    first_is i all f ∙ sym (ap (λ o. number_or o j.number) (ap (λ x. first_with x all) (sym e) ∙ f.found))

one_entity :
    (i j : Identified) (all : List Identified) → AreInOrder 0 all → same_entity i.entity i.entity ≡ true → same_entity j.entity j.entity ≡ true → In i all → In j all → first_number all i ≡ first_number all j
    → i.entity ≡ j.entity
one_entity i j all order s t a b e =
    let f = first_of i all s a in
    let g = first_of j all t b in
    let one_ : f.first ≡ g.first = one_number 0 f.first g.first all order f.among g.among (sym (first_is i all f) ∙ e ∙ first_is j all g) in
    sym f.stands ∙ ap (λ (k : Identified). k.entity) one_ ∙ g.stands

-- ---- names at one place

pub record Standing (all others : List Identified) (a b : List ℕ) : Type 0 where
  pub one : Identified
  pub other : Identified
  pub among : In one all
  pub among_others : In other others
  pub is : one.entity ≡ file_entity a
  pub was : other.entity ≡ file_entity b
  pub first : first_number all one ≡ first_number others other

pub names_are : (a b : List ℕ) (e f : Entity) → are_names a b e f ≡ true → (e ≡ file_entity a) × (f ≡ file_entity b)
names_are a b (file_entity x) (file_entity y) h =
    let both = and_parts (bytes_eq x a) (bytes_eq y b) h in (ap file_entity ((bytes_decides x a).0 both.0), ap file_entity ((bytes_decides y b).0 both.1))
names_are a b _ _ h = absurd (false≢true h)

pub standing :
    (a b : List ℕ) (all others xs ys : List Identified) → ((i : Identified) → In i xs → In i all) → ((j : Identified) → In j ys → In j others) → AllZip (AreFirstAlike all others) xs ys → stand_at_one_place a b xs ys ≡ true
    → Standing all others a b
standing a b all others [] ys f g h e = absurd (false≢true e)
standing a b all others (i ∷ xs) [] f g h e = absurd (false≢true e)
standing a b all others (i ∷ xs) (j ∷ ys) f g h e = by (are_names a b i.entity j.entity) refl (λ later_. standing a b all others xs ys (λ k m. f k (inr m)) (λ k m. g k (inr m)) h.1 later_) e
  where
    by : (p : Bool) → are_names a b i.entity j.entity ≡ p → (stand_at_one_place a b xs ys ≡ true → Standing all others a b) → (p || stand_at_one_place a b xs ys) ≡ true → Standing all others a b
    by true n further e = let names = names_are a b i.entity j.entity n in record { one = i; other = j; among = f i (inl refl); among_others = g j (inl refl); is = names.0; was = names.1; first = h.0.first }
    by false n further e = further e

pub same_file : (i : Identified) (a : List ℕ) → i.entity ≡ file_entity a → same_entity i.entity i.entity ≡ true
same_file i a e = subst (λ x. same_entity x x ≡ true) (sym e) ((bytes_decides a a).1 refl)

pub same_name : (a b : List ℕ) → file_entity a ≡ file_entity b → a ≡ b
same_name a b e = cc

unit_one_to_one : (unit other : UnitNames) → AreInOrder 0 unit.identified → AreInOrder 0 other.identified → bound_numbers unit ≡ bound_numbers other → IsOneToOne (λ a b. stand_at_one_place a b unit.identified other.identified)
unit_one_to_one unit other order orders numbers =
    let xs : List Identified = unit.identified in
    let ys : List Identified = other.identified in
    let zipped : AllZip (AreFirstAlike xs ys) xs ys = firsts_alike xs ys xs ys numbers in
    let stands : (a b : List ℕ) → stand_at_one_place a b xs ys ≡ true → Standing xs ys a b = λ a b h. standing a b xs ys xs ys (λ i m. m) (λ j m. m) zipped h in
    record {
      forth = λ a b c h g.
          let s = stands a b h in
          let t = stands a c g in
          same_name b c (sym s.was
          ∙ one_entity s.other t.other ys orders (same_file s.other b s.was) (same_file t.other c t.was) s.among_others t.among_others (sym s.first ∙ one_first s.one t.one xs (same_file s.one a s.is) s.among (s.is ∙ sym t.is) ∙ t.first) ∙ t.was);
      back = λ a b c h g.
          let s = stands a c h in
          let t = stands b c g in
          same_name a b (sym s.is
          ∙ one_entity s.one t.one xs order (same_file s.one a s.is) (same_file t.one b t.is) s.among t.among (s.first ∙ one_first s.other t.other ys (same_file s.other c s.was) s.among_others (s.was ∙ sym t.was) ∙ sym t.first) ∙ t.is);
    }

-- ---- programs

no_names : IsOneToOne (λ a b. false)
no_names = record { forth = λ a b c h g. absurd (false≢true h); back = λ a b c h g. absurd (false≢true h) }

abbrev pub AreOrdered : List UnitNames → Type 0
AreOrdered units = AllByRecursion (λ (u : UnitNames). AreInOrder 0 u.identified) units

units_one_to_one :
    (units others : List UnitNames) → AreOrdered units → AreOrdered others
    → map bound_numbers units ≡ map bound_numbers others → (index : ℕ) → IsOneToOne (names_at_places units others index)
units_one_to_one [] others f g e index = no_names
units_one_to_one (unit ∷ units) [] f g e index = no_names
units_one_to_one (unit ∷ units) (other ∷ others) f g e zero = let head : bound_numbers unit ≡ bound_numbers other = cc in unit_one_to_one unit other f.0 g.0 head
units_one_to_one (unit ∷ units) (other ∷ others) f g e (suc index) = let tail : map bound_numbers units ≡ map bound_numbers others = cc in units_one_to_one units others f.1 g.1 tail index

pub all_ordered : (structs : List Struct) (trees : List PlainTree) → AreOrdered (names_behind structs trees)
all_ordered structs [] = tt
all_ordered structs (tree ∷ rest) = (in_order (spelled tree) 0 (judged_bindings (judged_behind structs tree)) 0 (omega arith), all_ordered (structs_behind structs (judged_behind structs tree)) rest)

pub names_are_one_to_one : NamesAreOneToOne
names_are_one_to_one trees others e index = units_one_to_one (names_of_units trees) (names_of_units others) (all_ordered [] trees) (all_ordered [] others) e index
