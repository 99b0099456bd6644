-- The names of a unit that declare themselves are told by their name spaces, and by the bindings of the unit.
use Rattle.std.proofs.Common.{◌≡◌, ℕ, suc, ◌+◌, ◌≤◌, ◌==◌, Bool, true, false, List, [], ◌∷◌, ◌++◌, length, map, Option, Some, None, refl, sym, ap, subst, ◌∙◌, append_assoc, arith}
use Rattle.std.specs.Prelude.{if◌then◌else◌, IsTrue, option_map, All}
use Rattle.std.specs.List.{AllZip, AllByRecursion}
use Rattle.std.proofs.lemmas.Bool.{false≢true, ne_eqb}
use Rattle.std.proofs.lemmas.List.{length-map}
use Rattle.std.proofs.lemmas.List.Elements.{recursion_from_All}
use Rattle.std.proofs.lemmas.Option.{none-some, same_Some}
use Rattle.c_text.specs.Token.{PlainToken}
use Rattle.c_tree.specs.declared.kinds.Kind.TheVariants as k
use Rattle.c_tree.specs.Trees.{PlainTree, PlainTrees, leaf, node, none, more, written, all_written, spelled}
use Rattle.core_meaning.specs.Checking.{Entity, local_entity, local_of_function, file_entity, struct_entity, member_entity, own_entity, Binding, fine}
use Rattle.core_meaning.specs.Entities.{Table, Struct}
use Rattle.core_meaning.specs.Linking.{no_numbers}
use Rattle.core_meaning.specs.UnitNames.{UnitState}
use Rattle.tree_derivations.specs.Derivations.{UnitsAreDerived}
use Rattle.bindings.specs.Visible.{NameSpace, ordinary, tags, members_of, Occurrence as BoundIdentifier}
use Rattle.bindings.specs.Bindings.{is_name, read_unit, bindings_of}
use Rattle.bindings.specs.Judged.{same_entity, Identified, first_with, identified, AreAlike}
use Rattle.bindings.specs.Laws.{IsWritten, JudgementsBindAlike}
use Rattle.bindings.proofs.Pieces.{holds_of}
use Rattle.bindings.proofs.FileObjects.{FileRel}
use Rattle.entity_numbers.specs.Numbered.{first_place}
use Rattle.entity_numbers.specs.Firsts.{AreOf, AreInOrder}
use Rattle.entity_numbers.specs.Bound.{AreUsedBehind}
use Rattle.entity_numbers.proofs.Places.{of_more}
use Rattle.bound_slots.specs.Laws.{SizesBindNothing}
use Rattle.program_occurrences.specs.Occurrences.{identifiers_from, UnitNames, names_of_unit, judged_behind, or_itself, Occurrence, occurrence_among, occurrences_of, declares_itself, member_by, common_name_by}
use Rattle.program_occurrences.specs.Laws.{identifier_of, IdentifiersAreBound}
use Rattle.unit_numbers.specs.Laws.{UsesAreBoundBefore}
use Rattle.unit_numbers.proofs.Alike.{identified_of, in_order}
use Rattle.occurrence_names.specs.Laws.{OccurrencesKeepNames, IsTextOf, FileNamesAreWritten}
use Rattle.occurrence_names.proofs.FileNames.{visible}
use Rattle.name_spaces.specs.Spaces.{spaces_of}
use Rattle.name_spaces.specs.Laws.{common_by, IsTold, SpacesTellNames}
use Rattle.name_spaces.proofs.Formed.{each_formed}
use Rattle.name_spaces.proofs.Embeddings.{Declares, Fits, Embeds, embeds_each}
use Rattle.name_spaces.proofs.Uses.{names, all_names, Worded}
use Rattle.name_spaces.proofs.Listed.{parts_count}
use Rattle.name_spaces.proofs.Units.{unit_embeds}

-- ---- the first identifier of an entity

-- the identifiers before one
abbrev pub Below : ℕ → List Identified → Type 0
Below n [] = Unit {0}
Below n (i ∷ rest) = (suc i.number ≤ n) × Below n rest

pub below_more : (n : ℕ) (before : List Identified) (i : Identified) → Below n before → n ≤ i.number → Below (suc i.number) (before ++ i ∷ [])
below_more n [] i h less = (omega arith, tt)
below_more n (x ∷ before) i h less = let first : suc x.number ≤ n = h.0 in (omega (arith, first, less), below_more n before i h.1 less)

first_below : (n : ℕ) (before : List Identified) (e : Entity) (d : Identified) → Below n before → first_with e before ≡ Some d → suc d.number ≤ n
first_below n [] e d h f = absurd (none-some d f)
first_below n (x ∷ before) e d h f = by (same_entity x.entity e) f (first_below n before e d h.1)
  where
    by : (b : Bool) → (if b then Some x else first_with e before) ≡ Some d → (first_with e before ≡ Some d → suc d.number ≤ n) → suc d.number ≤ n
    by true f later = subst (λ (y : Identified). suc y.number ≤ n) (same_Some x d f) h.0
    by false f later = later f

first_on : (e : Entity) (before rest : List Identified) (d : Identified) → first_with e before ≡ Some d → first_with e (before ++ rest) ≡ Some d
first_on e [] rest d f = absurd (none-some d f)
first_on e (x ∷ before) rest d f = by (same_entity x.entity e) f (first_on e before rest d)
  where
    by : (b : Bool) → (if b then Some x else first_with e before) ≡ Some d → (first_with e before ≡ Some d → first_with e (before ++ rest) ≡ Some d) → (if b then Some x else first_with e (before ++ rest)) ≡ Some d
    by true f later = f
    by false f later = later f

-- one that is declared before doesn't declare itself
pub declared_before :
    (n : ℕ) (before rest all : List Identified) (i d : Identified) → Below n before → n ≤ i.number → all ≡ before ++ rest → first_with i.entity before ≡ Some d → declares_itself (occurrence_among all i) ≡ false
declared_before n before rest all i d h less is f =
    let first : suc d.number ≤ n = first_below n before i.entity d h f in
    let found : first_with i.entity all ≡ Some d = ap (first_with i.entity) is ∙ first_on i.entity before rest d f in
    ap (λ (o : Option Identified). i.number == (or_itself i o).number) found ∙ ne_eqb i.number d.number (λ e. let same_ : i.number ≡ d.number = e in omega (arith, first, less, same_))

no_place : (e : Entity) (before : List Identified) (js : List Binding) → AreOf before js → first_with e before ≡ None → first_place e js ≡ None
no_place e [] [] of_ f = refl
no_place e [] (j ∷ js) of_ f = absurd of_
no_place e (i ∷ before) [] of_ f = absurd of_
no_place e (i ∷ before) (j ∷ js) of_ f =
    ap (λ (x : Entity). if same_entity x e then Some 0 else option_map (λ n. suc n) (first_place e js)) (sym of_.0)
    ∙ by (same_entity i.entity e) f (no_place e before js of_.1)
  where
    by : (b : Bool) → (if b then Some i else first_with e before) ≡ None → (first_with e before ≡ None → first_place e js ≡ None) → (if b then Some 0 else option_map (λ n. suc n) (first_place e js)) ≡ None
    by true f later = absurd (none-some i (sym f))
    by false f later = ap (λ (o : Option ℕ). option_map (λ n. suc n) o) (later f)

-- what an expression uses doesn't declare itself
abbrev IsUnused : Occurrence → Binding → Type 0
IsUnused o j = IsTrue (declares_itself o) → j.in_expression ≡ false

one_unused :
    (n : ℕ) (before rest all : List Identified) (behind : List Binding) (i : Identified) (j : Binding) → Below n before → n ≤ i.number → all ≡ before ++ rest → AreOf before behind → i.entity ≡ j.entity
    → (j.in_expression ≡ true → first_place j.entity behind ≡ None → ⊥) → (b : Bool) → j.in_expression ≡ b → IsTrue (declares_itself (occurrence_among all i)) → b ≡ false
one_unused n before rest all behind i j h less is of_ same_ used false e own = refl
one_unused n before rest all behind i j h less is of_ same_ used true e own = by (first_with i.entity before) refl
  where
    by : (o : Option Identified) → first_with i.entity before ≡ o → true ≡ false
    by None f = absurd (used e (no_place j.entity before behind of_ (subst (λ (x : Entity). first_with x before ≡ None) same_ f)))
    by (Some d) f = absurd (false≢true (sym (declared_before n before rest all i d h less is f) ∙ own))

each_unused :
    (n : ℕ) (before is : List Identified) (behind js : List Binding) (all : List Identified) → Below n before → AreInOrder n is → all ≡ before ++ is → AreOf before behind → AreOf is js → AreUsedBehind behind js
    → AllZip IsUnused (map (occurrence_among all) is) js
each_unused n before [] behind [] all h order is of_ same_ used = tt
each_unused n before [] behind (j ∷ js) all h order is of_ same_ used = absurd same_
each_unused n before (i ∷ is) behind [] all h order e of_ same_ used = absurd same_
each_unused n before (i ∷ is) behind (j ∷ js) all h order e of_ same_ used = (
  one_unused n before (i ∷ is) all behind i j h order.0 e of_ same_.0 used.0 j.in_expression refl,
  each_unused (suc i.number) (before ++ i ∷ []) is (behind ++ j ∷ []) js all (below_more n before i h order.0) order.1 (e ∙ sym (append_assoc before (i ∷ []) is)) (of_more before behind i j of_ same_.0) same_.1 used.1,
)

-- ---- as many names as bindings

abbrev token_names : List PlainToken → ℕ
token_names [] = 0
token_names (token ∷ rest) = (if is_name token then 1 else 0) + token_names rest

identifiers_count : (n : ℕ) (tokens : List PlainToken) → length (identifiers_from n tokens) ≡ token_names tokens
identifiers_count n [] = refl
identifiers_count n (token ∷ rest) = by (is_name token) (identifiers_count (n + 1) rest)
  where
    by : (b : Bool) → length (identifiers_from (n + 1) rest) ≡ token_names rest → length (if b then record { number = n; token = token } ∷ identifiers_from (n + 1) rest else identifiers_from (n + 1) rest) ≡ (if b then 1 else 0) + token_names rest
    by true later = omega (arith, later)
    by false later = omega (arith, later)

mutual
  written_names : (tree : PlainTree) (behind : List PlainToken) → token_names (written tree behind) ≡ names tree + token_names behind
  written_names (leaf token) behind = refl
  written_names (node kind parts) behind = all_written_names parts behind

  all_written_names : (parts : PlainTrees) (behind : List PlainToken) → token_names (all_written parts behind) ≡ all_names parts + token_names behind
  all_written_names none behind = omega arith
  all_written_names (more tree rest) behind =
      let first = written_names tree (all_written rest behind) in let later = all_written_names rest behind in omega (arith, first, later)

alike_count : (before : List Identified) (os : List BoundIdentifier) (js : List Binding) → AreAlike before os js → length os ≡ length js
alike_count before [] [] h = refl
alike_count before [] (j ∷ js) h = absurd h
alike_count before (o ∷ os) [] h = absurd h
alike_count before (o ∷ os) (j ∷ js) h = ap suc (alike_count (before ++ identified o j ∷ []) os js h.1)

-- ---- one name

module _ (unit : UnitNames) (known : Table ℕ) (struct_named : (struct : List ℕ) (n : ℕ) (text : List ℕ) → known struct ≡ Some n → member_by (first_with (struct_entity n) unit.identified) text ≡ common_by unit (Some (members_of struct)) text) where
  name_told : (space : Option NameSpace) (text : List ℕ) (e : Entity) → Declares known space e → IsTextOf e text → common_name_by unit text e ≡ common_by unit space text
  name_told (Some ordinary) text (file_entity name) d is = ap (λ (x : List ℕ). common_by unit (Some ordinary) x) (sym is)
  name_told (Some ordinary) text _ d is = absurd d
  name_told (Some tags) text (struct_entity n) d is = refl
  name_told (Some tags) text _ d is = absurd d
  name_told (Some (members_of struct)) text (member_entity n m) d is = struct_named struct n text d
  name_told (Some (members_of struct)) text _ d is = absurd d
  name_told None text (local_entity slot) d is = refl
  name_told None text (local_of_function f slot) d is = refl
  name_told None text own_entity d is = refl
  name_told None text _ d is = absurd d

  each_told :
      (all is : List Identified) (js : List Binding) (spaces : List (Option NameSpace)) → AreOf is js → AllZip IsUnused (map (occurrence_among all) is) js → AllZip (Fits known) spaces js
      → AllByRecursion (λ o. IsTextOf o.identifier.entity o.identifier.token.text) (map (occurrence_among all) is) → AllZip (IsTold unit) (map (occurrence_among all) is) spaces
  each_told all [] [] [] of_ unused fits texts = tt
  each_told all [] [] (s ∷ spaces) of_ unused fits texts = absurd fits
  each_told all [] (j ∷ js) spaces of_ unused fits texts = absurd of_
  each_told all (i ∷ is) [] spaces of_ unused fits texts = absurd of_
  each_told all (i ∷ is) (j ∷ js) [] of_ unused fits texts = absurd fits
  each_told all (i ∷ is) (j ∷ js) (s ∷ spaces) of_ unused fits texts = (
    (λ own. name_told s i.token.text i.entity (subst (Declares known s) (sym of_.0) (fits.0 (unused.0 own))) texts.0),
    each_told all is js spaces of_.1 unused.1 fits.1 texts.1,
  )

-- ---- a unit

module _ (derived : UnitsAreDerived) (counts : SizesBindNothing) (alike : JudgementsBindAlike) (found : IdentifiersAreBound) (used : UsesAreBoundBefore) (kept : OccurrencesKeepNames) (texts : FileNamesAreWritten) where
  module _ (tree : PlainTree) (w : IsWritten tree) (structs : List Struct) (state : UnitState) (js : List Binding) (judged : judged_behind structs tree ≡ fine state js) where
    abbrev unit : UnitNames
    unit = names_of_unit tree (fine state js)

    seen : FileRel state.scope (read_unit tree) unit.identified
    seen = subst (λ c. FileRel state.scope (read_unit tree) (names_of_unit tree c).identified) judged (visible derived found kept tree w structs state js judged)

    worded : Worded state.scope
    worded name n e = (seen.names name n e).word

    struct_named : (struct : List ℕ) (n : ℕ) (text : List ℕ) → state.scope.tags struct ≡ Some n → member_by (first_with (struct_entity n) unit.identified) text ≡ common_by unit (Some (members_of struct)) text
    struct_named struct n text e =
        let f = seen.tagged struct n e in
        ap (λ (o : Option Identified). member_by o text) f.found.first ∙ ap (λ (x : List ℕ). common_by unit (Some (members_of x)) text) f.spelt

    embeds : (t : PlainTree) → IsWritten t → judged_behind structs t ≡ fine state js → Embeds state.scope.tags (spaces_of t) js × (length (spaces_of t) ≡ names t)
    embeds (leaf token) w e = absurd (derived (leaf token) w.unit)
    embeds (node k.Unit parts) w e = (
      unit_embeds counts 0 structs (no_numbers 0) parts (each_formed (derived (node k.Unit parts) w.unit) (holds_of (node k.Unit parts) [] w.pieces).0) state js e worded,
      parts_count parts k.Unit [] k.Unit false,
    )
    embeds (node kind parts) w e = absurd (derived (node kind parts) w.unit)

    as_many : length (spaces_of tree) ≡ length js
    as_many =
        let first = (embeds tree w judged).1 in
        let second = written_names tree [] in
        let third = identifiers_count 0 (spelled tree) in
        let fourth = ap length (found tree w.unit) in
        let fifth = length-map (bindings_of tree) identifier_of in
        let last = alike_count [] (bindings_of tree) js (alike tree w 0 structs (no_numbers 0) state js judged) in
        omega (arith, first, second, third, fourth, fifth, last)

    fits : AllZip (Fits state.scope.tags) (spaces_of tree) js
    fits = embeds_each state.scope.tags (spaces_of tree) js (embeds tree w judged).0 as_many

    told : AllZip (IsTold unit) (occurrences_of unit) (spaces_of tree)
    told =
        let of_ = identified_of alike found tree w 0 structs (no_numbers 0) state js judged in
        each_told unit state.scope.tags struct_named unit.identified unit.identified js (spaces_of tree) of_
        (each_unused 0 [] unit.identified [] js unit.identified tt (in_order (spelled tree) 0 js 0 (omega arith)) refl tt of_ (used tree w 0 structs (no_numbers 0) state js judged)) fits
        (recursion_from_All (λ o. IsTextOf o.identifier.entity o.identifier.token.text) (occurrences_of unit)
        (subst (λ c. All (λ o. IsTextOf o.identifier.entity o.identifier.token.text) (occurrences_of (names_of_unit tree c))) judged (texts tree w structs state js judged)))

  pub spaces_told : SpacesTellNames
  spaces_told tree w structs state js judged =
      subst (λ c. AllZip (IsTold (names_of_unit tree c)) (occurrences_of (names_of_unit tree c)) (spaces_of tree)) (sym judged) (told tree w structs state js judged)
