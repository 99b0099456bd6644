-- An identifier declares itself where it is bound to itself; a member that is used is declared before.
use Rattle.std.proofs.Common.{◌≡◌, ℕ, suc, ◌≤◌, ◌==◌, Bool, false, List, [], ◌∷◌, ◌++◌, map, sym, ap, ap₂, subst, ◌∙◌, append_assoc, arith}
use Rattle.std.specs.List.{AllZip}
use Rattle.c_tree.specs.Trees.{spelled}
use Rattle.core_meaning.specs.Checking.{Entity, local_entity, local_of_function, file_entity, struct_entity, member_entity, own_entity, Binding, fine}
use Rattle.core_meaning.specs.Linking.{no_numbers}
use Rattle.bindings.specs.Visible.{bound_to, undeclared, member_use, Binding as Bound, Occurrence as BoundIdentifier}
use Rattle.bindings.specs.Bindings.{bindings_of}
use Rattle.bindings.specs.Judged.{Identified, number_or, first_with, IsMember, IsBoundAlike, IsAlike, identified, AreAlike}
use Rattle.bindings.specs.Laws.{JudgementsBindAlike}
use Rattle.entity_numbers.specs.Firsts.{AreInOrder}
use Rattle.entity_numbers.specs.Bound.{IsOfUnit, AreOfUnit}
use Rattle.bound_slots.specs.Laws.{SlotsAreOfFunctions}
use Rattle.program_occurrences.specs.Occurrences.{with_entities, names_of_unit, Occurrence, occurrence_among, occurrences_of, declares_itself}
use Rattle.program_occurrences.specs.Laws.{identifier_of, IdentifiersAreBound, IsBoundTo, IsBoundBy, IsOccurrenceOf, OccurrencesAreBound}
use Rattle.unit_numbers.proofs.Alike.{in_order}
use Rattle.name_spaces.specs.Laws.{binds_itself, BindingsTellDeclarations}
use Rattle.name_spaces.proofs.Told.{Below, below_more, declared_before}

-- ---- members that are used

abbrev IsElsewhere : Bound → Occurrence → Type 0
IsElsewhere (member_use which) o = declares_itself o ≡ false
IsElsewhere other o = Unit {0}

-- it stands for no slot without a function, and a member that is used is declared elsewhere
abbrev IsDeclaredSo : BoundIdentifier → Occurrence → Type 0
IsDeclaredSo b o = IsOfUnit o.identifier.entity × IsElsewhere b.binding o

alike_bound : (before : List Identified) (b : BoundIdentifier) (e : Entity) → IsOfUnit e → IsAlike before b e → IsBoundAlike before b e
alike_bound before b (local_entity slot) free h = absurd free
alike_bound before b (local_of_function f slot) free h = h
alike_bound before b (file_entity name) free h = h
alike_bound before b (struct_entity n) free h = h
alike_bound before b (member_entity s n) free h = h
alike_bound before b own_entity free h = h

elsewhere :
    (n : ℕ) (before rest all : List Identified) (b : BoundIdentifier) (j : Binding) → Below n before → n ≤ b.number → all ≡ before ++ rest → (x : Bound)
    → (elim x as (λ y. Type 0) [ bound_to by ↦ by ≡ number_or (first_with j.entity before) b.number | undeclared ↦ ⊥ | member_use which ↦ IsMember before which j.entity ])
    → IsElsewhere x (occurrence_among all (identified b j))
elsewhere n before rest all b j h less is (bound_to by) bound = tt
elsewhere n before rest all b j h less is undeclared bound = tt
elsewhere n before rest all b j h less is (member_use which) bound = declared_before n before rest all (identified b j) bound.member h less is bound.declares_member

each_elsewhere :
    (n : ℕ) (before : List Identified) (bs : List BoundIdentifier) (js : List Binding) (all : List Identified) → Below n before → AreInOrder n (with_entities (map identifier_of bs) js)
    → all ≡ before ++ with_entities (map identifier_of bs) js → AreAlike before bs js → AreOfUnit js → AllZip IsDeclaredSo bs (map (occurrence_among all) (with_entities (map identifier_of bs) js))
each_elsewhere n before [] [] all h order is alike free = tt
each_elsewhere n before [] (j ∷ js) all h order is alike free = absurd alike
each_elsewhere n before (b ∷ bs) [] all h order is alike free = absurd alike
each_elsewhere n before (b ∷ bs) (j ∷ js) all h order is alike free = (
  (free.0, elsewhere n before (with_entities (map identifier_of (b ∷ bs)) (j ∷ js)) all b j h order.0 is b.binding (alike_bound before b j.entity free.0 alike.0)),
  each_elsewhere (suc b.number) (before ++ identified b j ∷ []) bs js all (below_more n before (identified b j) h order.0) order.1
      (is ∙ sym (append_assoc before (identified b j ∷ []) (with_entities (map identifier_of bs) js))) alike.1 free.1,
)

-- ---- bindings and occurrences

bound_so : (all : List Identified) (x : Bound) (o : Occurrence) (e : Entity) → IsOfUnit e → IsBoundBy all x o e → IsBoundTo all x o
bound_so all x o (local_entity slot) free h = absurd free
bound_so all x o (local_of_function f slot) free h = h
bound_so all x o (file_entity name) free h = h
bound_so all x o (struct_entity n) free h = h
bound_so all x o (member_entity s n) free h = h
bound_so all x o own_entity free h = h

one_told :
    (all : List Identified) (b : BoundIdentifier) (o : Occurrence) → o.identifier.number ≡ b.number → (x : Bound) → IsBoundTo all x o → IsElsewhere x o
    → (elim x as (λ y. Bool) [ bound_to by ↦ b.number == by | other ↦ false ]) ≡ declares_itself o
one_told all b o number (bound_to by) bound h = ap₂ (λ m n. m == n) (sym number) bound
one_told all b o number undeclared bound h = absurd bound
one_told all b o number (member_use which) bound h = sym h

each_told : (all : List Identified) (bs : List BoundIdentifier) (os : List Occurrence) → AllZip (IsOccurrenceOf all) bs os → AllZip IsDeclaredSo bs os → AllZip (λ b o. binds_itself b ≡ declares_itself o) bs os
each_told all [] [] f g = tt
each_told all [] (o ∷ os) f g = absurd f
each_told all (b ∷ bs) [] f g = absurd f
each_told all (b ∷ bs) (o ∷ os) f g =
    (one_told all b o f.0.number b.binding (bound_so all b.binding o o.identifier.entity g.0.0 f.0.bound) g.0.1, each_told all bs os f.1 g.1)

pub declarations_told : JudgementsBindAlike → IdentifiersAreBound → OccurrencesAreBound → SlotsAreOfFunctions → BindingsTellDeclarations
declarations_told alike found bound slots tree w structs state js judged =
    let ids = found tree w.unit in
    let all : List Identified = (names_of_unit tree (fine state js)).identified in
    let same_ : with_entities (map identifier_of (bindings_of tree)) js ≡ all = ap (λ is. with_entities is js) ids in
    let zipped : AllZip (IsOccurrenceOf all) (bindings_of tree) (occurrences_of (names_of_unit tree (fine state js))) =
    subst (λ c. AllZip (IsOccurrenceOf (names_of_unit tree c).identified) (bindings_of tree) (occurrences_of (names_of_unit tree c))) judged (bound tree w structs state js judged) in
    let others : AllZip IsDeclaredSo (bindings_of tree) (occurrences_of (names_of_unit tree (fine state js))) =
    subst (λ (is : List Identified). AllZip IsDeclaredSo (bindings_of tree) (map (occurrence_among all) is)) same_
    (each_elsewhere 0 [] (bindings_of tree) js all tt (subst (λ (is : List Identified). AreInOrder 0 is) (sym same_) (in_order (spelled tree) 0 js 0 (omega arith))) (sym same_)
    (alike tree w 0 structs (no_numbers 0) state js judged) (slots tree 0 structs (no_numbers 0) state js judged)) in
    subst (λ c. AllZip (λ b o. binds_itself b ≡ declares_itself o) (bindings_of tree) (occurrences_of (names_of_unit tree c))) (sym judged) (each_told all (bindings_of tree) (occurrences_of (names_of_unit tree (fine state js))) zipped others)
