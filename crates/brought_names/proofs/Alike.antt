-- What a token brings along is written as it is: in one unit by the name of the declaration, in others by the name in common.
use Rattle.std.proofs.Common.{◌≡◌, ℕ, zero, suc, Bool, true, false, List, [], ◌∷◌, map, Option, Some, None, refl, ap, sym, ◌∙◌, subst, inl, inr}
use Rattle.std.specs.Prelude.{slice_get, Contains, if◌then◌else◌}
use Rattle.std.specs.List.{AllByRecursion}
use Rattle.std.proofs.lemmas.Option.{same_Some, none-some}
use Rattle.std.proofs.lemmas.List.Elements.{recursion_from_All}
use Rattle.c_text.specs.Token.{PlainToken}
use Rattle.c_tree.specs.Trees.{PlainTree, spelled}
use Rattle.core_meaning.specs.Checking.{Entity, local_entity, local_of_function, file_entity, struct_entity, member_entity, own_entity, Binding, fine}
use Rattle.core_meaning.specs.Entities.{Struct}
use Rattle.core_meaning.specs.Linking.{Units, judged_program}
use Rattle.core_meaning.specs.UnitNames.{UnitState}
use Rattle.bindings.specs.Judged.{Identified, first_with}
use Rattle.bindings.specs.Laws.{IsWritten, AreWritten}
use Rattle.program_occurrences.specs.Occurrences.{identifiers_from, UnitNames, judged_bindings, names_of_unit, structs_behind, judged_behind, names_behind, names_of_units, Occurrence, occurrence_among, occurrences_of, OccursIn, CommonName, external_name, tag, member_of, member_by, common_name_by, common_name}
use Rattle.program_occurrences.specs.Classes.{PlainFileToken, copied_by, file_token, declaring_token, Brings, by_declaration, by_occurrence, by_name}
use Rattle.program_occurrences.specs.Laws.{DeclarationsAreOccurrences, AreJudged, no_more, one_more, UnitsOfProgramsAreJudged}
use Rattle.occurrence_names.specs.Laws.{KeepsName, OccurrencesKeepNames, IsTextOf, FileNamesAreWritten}
use Rattle.occurrence_names.proofs.Kept.{In, in-of, one-number, at}
use Rattle.occurrence_names.proofs.FileNames.{plain-of, among-plain}
use Rattle.brought_names.specs.Laws.{AreNamedAlike, BroughtAreNamedAlike}

-- ---- the units of a program

-- a unit that is judged well behind some structs
record IsJudged (unit : UnitNames) : Type 0 where
  tree : PlainTree
  written : IsWritten tree
  structs : List Struct
  state : UnitState
  bindings : List Binding
  judged : judged_behind structs tree ≡ fine state bindings
  is : unit ≡ names_of_unit tree (judged_behind structs tree)

unit-judged :
    (structs : List Struct) (trees : List PlainTree) (place : ℕ) (unit : UnitNames) → AreJudged structs trees → AreWritten trees
    → slice_get (names_behind structs trees) place ≡ Some unit → IsJudged unit
unit-judged structs [] place unit no_more written is = absurd (none-some unit is)
unit-judged structs (tree ∷ rest) zero unit (one_more state js judged others) written is = record {
  tree = tree;
  written = written.0;
  structs = structs;
  state = state;
  bindings = js;
  judged = judged;
  is = sym (same_Some (names_of_unit tree (judged_behind structs tree)) unit is);
}
unit-judged structs (tree ∷ rest) (suc place) unit (one_more state js judged others) written is =
    unit-judged state.scope.structs rest place unit others written.1
    (subst (λ (ss : List Struct). slice_get (names_behind ss rest) place ≡ Some unit) (ap (structs_behind structs) judged) is)

-- ---- common names

-- what has such a name is written so
abbrev TextOfCommon : CommonName → List ℕ → Type 0
TextOfCommon (external_name name) text = text ≡ name
TextOfCommon (tag name) text = text ≡ name
TextOfCommon (member_of struct name) text = text ≡ name

some-common : (name other : CommonName) → Some name ≡ Some other → (text : List ℕ) → TextOfCommon name text → TextOfCommon other text
some-common name other e text h = subst (λ (x : CommonName). TextOfCommon x text) (same_Some name other e) h

common-text : (unit : UnitNames) (e : Entity) (text : List ℕ) (name : CommonName) → common_name_by unit text e ≡ Some name → IsTextOf e text → TextOfCommon name text
common-text unit (file_entity own) text name e h = by (unit.is_external own) e
  where
    by : (b : Bool) → (if b then Some (external_name own) else None) ≡ Some name → TextOfCommon name text
    by true f = some-common (external_name own) name f text h
    by false f = absurd (none-some name f)
common-text unit (struct_entity number) text name e h = some-common (tag text) name e text refl
common-text unit (member_entity struct number) text name e h = by (first_with (struct_entity struct) unit.identified) e
  where
    by : (o : Option Identified) → member_by o text ≡ Some name → TextOfCommon name text
    by None f = absurd (none-some name f)
    by (Some i) f = some-common (member_of i.token.text text) name f text refl
common-text unit (local_entity slot) text name e h = absurd (none-some name e)
common-text unit (local_of_function f slot) text name e h = absurd (none-some name e)
common-text unit own_entity text name e h = absurd (none-some name e)

one-text : (name : CommonName) (a b : List ℕ) → TextOfCommon name a → TextOfCommon name b → a ≡ b
one-text (external_name name) a b e f = e ∙ sym f
one-text (tag name) a b e f = e ∙ sym f
one-text (member_of struct name) a b e f = e ∙ sym f

-- ---- an occurrence is one of an identifier of the unit

identifier-among : (all is : List Identified) (o : Occurrence) → In o (map (occurrence_among all) is) → In o.identifier is
identifier-among all [] o a = absurd a
identifier-among all (i ∷ is) o (inl e) = inl (ap (λ (x : Occurrence). x.identifier) e)
identifier-among all (i ∷ is) o (inr a) = inr (identifier-among all is o a)

module _ (declared : DeclarationsAreOccurrences) (judge : UnitsOfProgramsAreJudged) (keep : OccurrencesKeepNames) (write : FileNamesAreWritten) (trees : List PlainTree) (linked : Units) (js : List Binding) (written : AreWritten trees) (is_judged : judged_program trees ≡ fine linked js) where
  abbrev units : List UnitNames
  units = names_of_units trees

  of-unit : (o : OccursIn units) → IsJudged o.unit
  of-unit o = unit-judged [] trees o.place o.unit (judge trees linked js is_judged) written o.is_unit

  keeps-name : (o : OccursIn units) → o.occurrence.identifier.token.text ≡ o.occurrence.declared_by.token.text
  keeps-name o =
      let u = of-unit o in
      at KeepsName o.occurrence (occurrences_of o.unit)
      (subst (λ (x : UnitNames). AllByRecursion KeepsName (occurrences_of x)) (sym u.is)
      (recursion_from_All KeepsName (occurrences_of (names_of_unit u.tree (judged_behind u.structs u.tree))) (keep u.tree u.written u.structs u.state u.bindings u.judged)))
      (in-of o.occurrence (occurrences_of o.unit) o.among)

  is-text : (o : OccursIn units) → IsTextOf o.occurrence.identifier.entity o.occurrence.identifier.token.text
  is-text o =
      let u = of-unit o in
      at (λ p. IsTextOf p.identifier.entity p.identifier.token.text) o.occurrence (occurrences_of o.unit)
      (subst (λ (x : UnitNames). AllByRecursion (λ p. IsTextOf p.identifier.entity p.identifier.token.text) (occurrences_of x)) (sym u.is)
      (recursion_from_All (λ p. IsTextOf p.identifier.entity p.identifier.token.text) (occurrences_of (names_of_unit u.tree (judged_behind u.structs u.tree)))
      (write u.tree u.written u.structs u.state u.bindings u.judged)))
      (in-of o.occurrence (occurrences_of o.unit) o.among)

  -- what declares it, as an occurrence
  abbrev declaration : OccursIn units → OccursIn units
  declaration o = record { place = o.place; unit = o.unit; is_unit = o.is_unit; occurrence = (declared o.unit o.occurrence o.among).declaration; among = (declared o.unit o.occurrence o.among).among }

  declaration-is : (o : OccursIn units) → (declaration o).occurrence.identifier ≡ o.occurrence.declared_by
  declaration-is o = (declared o.unit o.occurrence o.among).identifier

  declaring-among : (unit : UnitNames) (o : Occurrence) → Contains (occurrences_of unit) o → In o.declared_by unit.identified
  declaring-among unit o c =
      let d = declared unit o c in
      subst (λ (i : Identified). In i unit.identified) d.identifier (identifier-among unit.identified unit.identified d.declaration (in-of d.declaration (occurrences_of unit) d.among))

  -- in one unit, what declares two occurrences is one identifier if its number is one
  same-declaration :
      (unit : UnitNames) → IsJudged unit → (o p : Occurrence) → Contains (occurrences_of unit) o → Contains (occurrences_of unit) p → o.declared_by.number ≡ p.declared_by.number
      → o.declared_by.token ≡ p.declared_by.token
  same-declaration unit u o p a b e =
      let plain : (i : Identified) → In i unit.identified → In (plain-of i) (identifiers_from 0 (spelled u.tree)) =
      λ i c. among-plain (identifiers_from 0 (spelled u.tree)) (judged_bindings (judged_behind u.structs u.tree)) i (subst (λ (x : UnitNames). In i x.identified) u.is c) in
      ap (λ (x : Rattle.program_occurrences.specs.Occurrences.Identifier). x.token)
      (one-number 0 (spelled u.tree) (plain-of o.declared_by) (plain-of p.declared_by) e (plain o.declared_by (declaring-among unit o a)) (plain p.declared_by (declaring-among unit p b)))

  by-declaration : (o : OccursIn units) → AreNamedAlike units (file_token o.occurrence) (declaring_token o.occurrence)
  by-declaration o = record {
    first = o;
    second = declaration o;
    at_first = refl;
    at_second = ap (λ (i : Identified). copied_by i.token) (declaration-is o);
    alike = keeps-name o ∙ ap (λ (i : Identified). i.token.text) (sym (declaration-is o));
  }

  by-occurrence : (o p : OccursIn units) → o.place ≡ p.place → o.occurrence.declared_by.number ≡ p.occurrence.declared_by.number → AreNamedAlike units (file_token o.occurrence) (file_token p.occurrence)
  by-occurrence o p place number =
      let unit : o.unit ≡ p.unit = same_Some o.unit p.unit (sym o.is_unit ∙ (ap (slice_get units) place ∙ p.is_unit)) in
      let there : Contains (occurrences_of p.unit) o.occurrence = subst (λ (u : UnitNames). Contains (occurrences_of u) o.occurrence) unit o.among in
      record {
        first = o;
        second = p;
        at_first = refl;
        at_second = refl;
        alike =
            keeps-name o
            ∙ (ap (λ (x : PlainToken). x.text) (same-declaration p.unit (of-unit p) o.occurrence p.occurrence there p.among number) ∙ sym (keeps-name p));
      }

  by-common : (o p : OccursIn units) (name : CommonName) → common_name o.unit o.occurrence.identifier ≡ Some name → common_name p.unit p.occurrence.identifier ≡ Some name → AreNamedAlike units (file_token o.occurrence) (file_token p.occurrence)
  by-common o p name e f = record {
    first = o;
    second = p;
    at_first = refl;
    at_second = refl;
    alike =
        one-text name o.occurrence.identifier.token.text p.occurrence.identifier.token.text
        (common-text o.unit o.occurrence.identifier.entity o.occurrence.identifier.token.text name e (is-text o))
        (common-text p.unit p.occurrence.identifier.entity p.occurrence.identifier.token.text name f (is-text p));
  }

  named-alike : (a b : PlainFileToken) → Brings units a b → AreNamedAlike units a b
  named-alike a b (by_declaration o) = by-declaration o
  named-alike a b (by_occurrence o p place number) = by-occurrence o p place number
  named-alike a b (by_name o p name first second e f) = by-common o p name e f

pub brought-alike : DeclarationsAreOccurrences → UnitsOfProgramsAreJudged → OccurrencesKeepNames → FileNamesAreWritten → BroughtAreNamedAlike
brought-alike declared judge keep write trees linked js a b written is_judged brings = named-alike declared judge keep write trees linked js written is_judged a b brings
