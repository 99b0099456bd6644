-- Units that differ only in names, and whose identifiers have the same firsts, bind them alike.
use Rattle.std.proofs.Common.{◌≡◌, ℕ, ◌+◌, suc, ◌≤◌, Bool, true, false, List, [], ◌∷◌, ◌++◌, map, refl, sym, ap, subst, ◌∙◌, arith}
use Rattle.std.specs.Prelude.{Option, Some, None, if◌then◌else◌}
use Rattle.std.specs.List.{AllZip}
use Rattle.c_text.specs.Token.{PlainToken}
use Rattle.c_tree.specs.Trees.{PlainTree, spelled}
use Rattle.core_meaning.specs.Checking.{Binding, fine}
use Rattle.core_meaning.specs.Entities.{Struct, Numbers}
use Rattle.core_meaning.specs.UnitNames.{UnitState, judged_unit}
use Rattle.bindings.specs.Visible.{Occurrence as BoundIdentifier}
use Rattle.bindings.specs.Bindings.{is_name, bindings_of}
use Rattle.bindings.specs.Judged.{Identified, first_with, number_or, identified, AreAlike}
use Rattle.bindings.specs.Laws.{IsWritten, JudgementsBindAlike}
use Rattle.entity_numbers.specs.Numbered.{AreNumbered}
use Rattle.entity_numbers.specs.Firsts.{AreOf, AreInOrder, AreFirstAlike}
use Rattle.entity_numbers.specs.Laws.{FirstsAreBoundAlike}
use Rattle.program_occurrences.specs.Occurrences.{Identifier, identifiers_from, with_entities, or_itself, Occurrence, occurrence_among}
use Rattle.program_occurrences.specs.Links.{BoundNumber}
use Rattle.program_occurrences.specs.Laws.{identifier_of, IdentifiersAreBound}
use Rattle.unit_numbers.specs.Laws.{counts_behind, UnitsAreNumbered, UsesAreBoundBefore, UnitsBindAlike}
use Rattle.bound_slots.specs.Laws.{SlotsAreOfFunctions}
use Rattle.entity_kinds.specs.Laws.{KindsAreAlike}

-- ---- each identifier has the entity to which it is bound

of_bound : (before : List Identified) (os : List BoundIdentifier) (js : List Binding) → AreAlike before os js → AreOf (with_entities (map identifier_of os) js) js
of_bound before [] [] h = tt
of_bound before [] (j ∷ js) h = absurd h
of_bound before (o ∷ os) [] h = absurd h
of_bound before (o ∷ os) (j ∷ js) h = (refl, of_bound (before ++ identified o j ∷ []) os js h.1)

-- so in a unit that is judged well
pub identified_of :
    JudgementsBindAlike → IdentifiersAreBound → (tree : PlainTree) → IsWritten tree → (globals : ℕ) (structs : List Struct) (numbers : Numbers) (unit : UnitState) (js : List Binding)
    → judged_unit globals structs numbers tree ≡ fine unit js → AreOf (with_entities (identifiers_from 0 (spelled tree)) js) js
identified_of alike bound tree w globals structs numbers unit js e =
    subst (λ is. AreOf (with_entities is js) js) (bound tree w.unit) (of_bound [] (bindings_of tree) js (alike tree w globals structs numbers unit js e))

-- ---- identifiers stand in the order of the text

next_order : (n : ℕ) (token : PlainToken) (others : List Identifier) (js : List Binding) (from : ℕ) → from ≤ n → ((js : List Binding) → AreInOrder (suc n) (with_entities others js)) → AreInOrder from (with_entities (record { number = n; token = token } ∷ others) js)
next_order n token others [] from less further = tt
next_order n token others (j ∷ js) from less further = (less, further js)

pub in_order : (tokens : List PlainToken) (n : ℕ) (js : List Binding) (from : ℕ) → from ≤ n → AreInOrder from (with_entities (identifiers_from n tokens) js)
in_order [] n js from less = tt
in_order (token ∷ rest) n js from less =
    by (is_name token) (λ ks. in_order rest (n + 1) ks (suc n) (omega arith)) (in_order rest (n + 1) js from (omega (arith, less)))
  where
    by :
        (b : Bool) → ((ks : List Binding) → AreInOrder (suc n) (with_entities (identifiers_from (n + 1) rest) ks)) → AreInOrder from (with_entities (identifiers_from (n + 1) rest) js)
        → AreInOrder from (with_entities (if b then record { number = n; token = token } ∷ identifiers_from (n + 1) rest else identifiers_from (n + 1) rest) js)
    by true further other = next_order n token (identifiers_from (n + 1) rest) js from less further
    by false further other = other

-- ---- the firsts are those of the occurrences

abbrev number_of : Occurrence → BoundNumber
number_of o = record { identifier = o.identifier.number; declared_by = o.declared_by.number }

itself_number : (i : Identified) (o : Option Identified) → (or_itself i o).number ≡ number_or o i.number
itself_number i None = refl
itself_number i (Some first) = refl

pub firsts_alike :
    (all others xs ys : List Identified) → map number_of (map (occurrence_among all) xs) ≡ map number_of (map (occurrence_among others) ys)
    → AllZip (AreFirstAlike all others) xs ys
firsts_alike all others [] [] e = tt
firsts_alike all others [] (b ∷ ys) e = absurd cc
firsts_alike all others (a ∷ xs) [] e = absurd cc
firsts_alike all others (a ∷ xs) (b ∷ ys) e =
    let first : number_of (occurrence_among all a) ≡ number_of (occurrence_among others b) = cc in
    let rest : map number_of (map (occurrence_among all) xs) ≡ map number_of (map (occurrence_among others) ys) = cc in (
      record {
        number = ap (λ (n : BoundNumber). n.identifier) first;
        first = sym (itself_number a (first_with a.entity all)) ∙ ap (λ (n : BoundNumber). n.declared_by) first ∙ itself_number b (first_with b.entity others);
      },
      firsts_alike all others xs ys rest,
    )

pub units_bind_alike : UnitsAreNumbered → FirstsAreBoundAlike → JudgementsBindAlike → IdentifiersAreBound → KindsAreAlike → SlotsAreOfFunctions → UsesAreBoundBefore → UnitsBindAlike
units_bind_alike numbered firsts alike bound kinds slots uses named tree other w v differ globals count structs others numbers more_ unit after js ks lengths e f same names =
    let xs : List Identified = with_entities (identifiers_from 0 (spelled tree)) js in
    let ys : List Identified = with_entities (identifiers_from 0 (spelled other)) ks in
    let x : AreOf xs js = identified_of alike bound tree w globals structs numbers unit js e in
    let y : AreOf ys ks = identified_of alike bound other v count others more_ after ks f in
    let second : AreNumbered (counts_behind structs) [] ks =
    subst (λ n. AreNumbered (record { structs = n; members = λ s. 0; slots = λ g. 0 }) [] ks) (sym lengths) (numbered other v.unit count others more_ after ks f) in
    firsts named (counts_behind structs) xs ys js ks x y (in_order (spelled tree) 0 js 0 (omega arith)) (firsts_alike xs ys xs ys same) (numbered tree w.unit globals structs numbers unit js e) second
    (kinds tree other w.unit differ globals count structs others numbers more_ unit after js ks e f) (slots tree globals structs numbers unit js e) (uses tree w globals structs numbers unit js e) names
