-- Units whose trees have the new name declare names with external linkage where those before did, by the new name where they are of the class.
use Rattle.std.proofs.Common.{◌≡◌, ℕ, ◌+◌, ◌==◌, Bool, true, false, List, [], ◌∷◌, map, refl, ap, sym, subst, ◌∙◌, IsTrue}
use Rattle.std.specs.Prelude.{Option, Some, None, option_map, if◌then◌else◌}
use Rattle.std.specs.List.{AllByRecursion, AllZip, list_any}
use Rattle.std.proofs.lemmas.Bool.{false≢true, and_parts}
use Rattle.std.proofs.lemmas.List.Elements.{recursion_from_All}
use Rattle.std.proofs.lemmas.Option.{none-some, slice_get_within, get_or_from_slice_get}
use Rattle.c_text.specs.declared.origin.FileToken.{FileToken}
use Rattle.c_text.specs.declared.token.TokenKind.{TokenKind}
use Rattle.c_text.specs.declared.token.TokenKind.TheVariants.{Name}
use Rattle.c_text.specs.Token.{PlainToken}
use Rattle.c_tree.specs.declared.terminals.Terminal.TheVariants as t
use Rattle.c_tree.specs.Terminals.{same}
use Rattle.c_tree.specs.Trees.{PlainTree, PlainTrees, leaf, node, none, more, written, all_written, spelled}
use Rattle.core_meaning.specs.Checking.{Entity, local_entity, local_of_function, file_entity, struct_entity, member_entity, own_entity, Binding, Checked, fine}
use Rattle.core_meaning.specs.Entities.{Struct}
use Rattle.core_meaning.specs.UnitNames.{UnitState}
use Rattle.core_meaning.specs.Linking.{no_numbers}
use Rattle.tree_derivations.specs.Derivations.{UnitsAreDerived}
use Rattle.bindings.specs.Bindings.{is_name}
use Rattle.bindings.specs.Judged.{Identified, first_with}
use Rattle.bindings.specs.Laws.{AreWritten}
use Rattle.renamed_programs.specs.Trees.{SameButName, SameButNames, AllSameButNames, same_leaf, same_node, same_end, same_more}
use Rattle.renamed_programs.specs.Entities.{Correspondence, SameEntity, AreBoundAlike}
use Rattle.renamed_programs.specs.Laws.{BindAlike, IsOneToOne}
use Rattle.renamed_programs.proofs.Tokens.{same_terminal}
use Rattle.renamed_programs.proofs.Alike.{naming}
use Rattle.renamed_programs.proofs.Scopes.{SameStructs, SameNumbers}
use Rattle.renamed_programs.proofs.Units.{OneToOne}
use Rattle.renamed_programs.proofs.Items.{UnitsAfter, unit_alike, result_of}
use Rattle.renamed_programs.proofs.Texts.{AllDerived}
use Rattle.renamed_programs.proofs.Linking.{both_tests}
use Rattle.program_occurrences.specs.Occurrences.{Identifier, identifiers_from, with_entities, UnitNames, is_external_name, names_of_unit, structs_behind, judged_behind, names_behind, names_of_units, Occurrence, occurrence_among, occurrences_of, declares_itself, external_name, member_by, common_name_by, common_name}
use Rattle.program_occurrences.specs.Links.{BoundNumber, bound_numbers}
use Rattle.program_occurrences.specs.Laws.{AreJudged, one_more, UnitsOfProgramsAreJudged}
use Rattle.occurrence_names.specs.Laws.{IsTextOf, FileNamesAreWritten}
use Rattle.occurrence_names.proofs.Kept.{in-of, at}
use Rattle.program_names.specs.Laws.{UnitsOfProgramsBindAlike, NamesAreOneToOne}
use Rattle.program_names.specs.Names.{names_at_places}
use Rattle.program_names.proofs.OneToOne.{all_ordered}
use Rattle.changed_forests.specs.Renamed.{is_name as is_name_kind, copies, is_of_class, with_name, renamed_tree, renamed_trees}
use Rattle.linked_otherwise.specs.Otherwise.{if_external, name_after, IsRenamedAt, AreRenamed, AreNamed, AreWrittenSo}
use Rattle.linked_otherwise.specs.Laws.{LinksAreTold, LinksOfRenamedAreTold}
use Rattle.linked_otherwise.proofs.Units.{bound-number, known-so, same-external}

-- ---- what an identifier is known by

-- no member is known by a name with external linkage
no-member : (first : Option Identified) (text : List ℕ) → if_external (member_by first text) ≡ None
no-member None text = refl
no-member (Some declares_tag) text = refl

-- what a name of file scope is known by is what is written there
is-written : (unit : UnitNames) (text : List ℕ) (e : Entity) (name : List ℕ) → IsTextOf e text → common_name_by unit text e ≡ Some (external_name name) → text ≡ name
is-written unit text (file_entity own) name h e = by (unit.is_external own) e
  where
    by : (b : Bool) → (if b then Some (external_name own) else None) ≡ Some (external_name name) → text ≡ name
    by true f = h ∙ same-external own name f
    by false f = absurd (none-some (external_name name) f)
is-written unit text (struct_entity number) name h e = absurd cc
is-written unit text (member_entity struct number) name h e =
    absurd (none-some name (sym (no-member (first_with (struct_entity struct) unit.identified) text) ∙ ap if_external e))
is-written unit text _ name h e = absurd (none-some (external_name name) e)

-- names of file scope that correspond are known alike where both have external linkage or neither
external-alike :
    (b x y : Bool) (new text other own name : List ℕ) → x ≡ y → text ≡ own → other ≡ name → other ≡ name_after new b text
    → if_external (if y then Some (external_name name) else None) ≡ option_map (name_after new b) (if_external (if x then Some (external_name own) else None))
external-alike b true true new text other own name same is was renamed = ap {B = Option (List ℕ)} Some (sym was ∙ renamed ∙ ap (name_after new b) is)
external-alike b false false new text other own name same is was renamed = refl
external-alike b true false new text other own name same is was renamed = absurd (false≢true (sym same))
external-alike b false true new text other own name same is was renamed = absurd (false≢true same)

common-alike :
    (named : Correspondence) (unit after : UnitNames) (b : Bool) (new text other : List ℕ) (e f : Entity) → SameEntity named e f
    → ((a c : List ℕ) → IsTrue (named a c) → unit.is_external a ≡ after.is_external c) → IsTextOf e text → IsTextOf f other → other ≡ name_after new b text
    → if_external (common_name_by after other f) ≡ option_map (name_after new b) (if_external (common_name_by unit text e))
common-alike named unit after b new text other (file_entity a) (file_entity c) same external is was renamed =
    external-alike b (unit.is_external a) (after.is_external c) new text other a c (external a c same) is was renamed
common-alike named unit after b new text other (struct_entity m) (struct_entity n) same external is was renamed = refl
common-alike named unit after b new text other (member_entity s m) (member_entity r n) same external is was renamed =
    no-member (first_with (struct_entity r) after.identified) other ∙ sym (ap (option_map (name_after new b)) (no-member (first_with (struct_entity s) unit.identified) text))
common-alike named unit after b new text other (local_entity m) (local_entity n) same external is was renamed = refl
common-alike named unit after b new text other (local_of_function s m) (local_of_function r n) same external is was renamed = refl
common-alike named unit after b new text other own_entity own_entity same external is was renamed = refl
common-alike named unit after b new text other _ _ same external is was renamed = absurd same

name-kind : (k : TokenKind) → is_name_kind k ≡ true → k ≡ Name
name-kind Name e = refl
name-kind _ e = absurd (false≢true e)

abbrev IsWrittenAs : Occurrence → Type 0
IsWrittenAs o = IsTextOf o.identifier.entity o.identifier.token.text

module _ (class : List FileToken) (new : List ℕ) where
  abbrev after : PlainToken → PlainToken
  after token = with_name class new token

  -- ---- tokens and trees

  alike-token : (token : PlainToken) → SameButName token (after token)
  alike-token token = by (is_of_class class new token) refl
    where
      by : (b : Bool) → is_of_class class new token ≡ b → SameButName token (if b then record token { text = new } else token)
      by false e = record { kind = refl; text = λ no_name. refl }
      by true e = record { kind = refl; text = λ no_name. absurd (no_name (name-kind token.kind (and_parts (is_name_kind token.kind) (list_any (λ of. copies of token) class) e).0)) }

  after-text : (token : PlainToken) → (after token).text ≡ name_after new (is_of_class class new token) token.text
  after-text token = by (is_of_class class new token)
    where
      by : (b : Bool) → (if b then record token { text = new } else token).text ≡ name_after new b token.text
      by true = refl
      by false = refl

  mutual
    alike-tree : (tree : PlainTree) → SameButNames tree (renamed_tree class new tree)
    alike-tree (leaf token) = same_leaf (alike-token token)
    alike-tree (node kind parts) = same_node (alike-trees parts)

    alike-trees : (parts : PlainTrees) → AllSameButNames parts (renamed_trees class new parts)
    alike-trees none = same_end
    alike-trees (more tree rest) = same_more (alike-tree tree) (alike-trees rest)

  all-alike : (trees : List PlainTree) → AllZip SameButNames trees (map (renamed_tree class new) trees)
  all-alike [] = tt
  all-alike (tree ∷ trees) = (alike-tree tree, all-alike trees)

  mutual
    written-after : (tree : PlainTree) (behind : List PlainToken) → written (renamed_tree class new tree) (map after behind) ≡ map after (written tree behind)
    written-after (leaf token) behind = refl
    written-after (node kind parts) behind = all-written-after parts behind

    all-written-after : (parts : PlainTrees) (behind : List PlainToken) → all_written (renamed_trees class new parts) (map after behind) ≡ map after (all_written parts behind)
    all-written-after none behind = refl
    all-written-after (more tree rest) behind = ap (written (renamed_tree class new tree)) (all-written-after rest behind) ∙ written-after tree (all_written rest behind)

  -- ---- identifiers

  abbrev pub identifier-after : Identifier → Identifier
  identifier-after i = record i { token = after i.token }

  identifiers-after : (number : ℕ) (tokens : List PlainToken) → identifiers_from number (map after tokens) ≡ map identifier-after (identifiers_from number tokens)
  identifiers-after number [] = refl
  identifiers-after number (token ∷ tokens) =
      by (is_name token) (is_name (after token)) (ap (same t.Name) (same_terminal token (after token) (alike-token token))) (identifiers-after (number + 1) tokens)
    where
      by :
          (b c : Bool) → b ≡ c → identifiers_from (number + 1) (map after tokens) ≡ map identifier-after (identifiers_from (number + 1) tokens)
          → (if c then record { number = number; token = after token } ∷ identifiers_from (number + 1) (map after tokens) else identifiers_from (number + 1) (map after tokens))
          ≡ map identifier-after (if b then record { number = number; token = token } ∷ identifiers_from (number + 1) tokens else identifiers_from (number + 1) tokens)
      by true true e rest = ap (λ (l : List Identifier). record { number = number; token = after token } ∷ l) rest
      by false false e rest = rest
      by true false e rest = absurd (false≢true (sym e))
      by false true e rest = absurd (false≢true e)

  pub unit-identifiers-after : (tree : PlainTree) → identifiers_from 0 (spelled (renamed_tree class new tree)) ≡ map identifier-after (identifiers_from 0 (spelled tree))
  unit-identifiers-after tree = ap (identifiers_from 0) (written-after tree []) ∙ identifiers-after 0 (spelled tree)

  -- two identifiers at one place, which stand for what corresponds
  record IsAlikeAt (named : Correspondence) (i j : Identified) : Type 0 where
    token : j.token ≡ after i.token
    entity : SameEntity named i.entity j.entity

  identified-alike :
      (named : Correspondence) (is : List Identifier) (js ks : List Binding) → AreBoundAlike named js ks → AllZip (IsAlikeAt named) (with_entities is js) (with_entities (map identifier-after is) ks)
  identified-alike named [] js ks bound = tt
  identified-alike named (i ∷ is) [] [] bound = tt
  identified-alike named (i ∷ is) [] (k ∷ ks) bound = absurd bound
  identified-alike named (i ∷ is) (b ∷ js) [] bound = absurd bound
  identified-alike named (i ∷ is) (b ∷ js) (k ∷ ks) bound = (record { token = refl; entity = bound.0 }, identified-alike named is js ks bound.1)

  unit-identified-alike :
      (named : Correspondence) (tree : PlainTree) (js ks : List Binding) → AreBoundAlike named js ks
      → AllZip (IsAlikeAt named) (with_entities (identifiers_from 0 (spelled tree)) js) (with_entities (identifiers_from 0 (spelled (renamed_tree class new tree))) ks)
  unit-identified-alike named tree js ks bound =
      subst (λ (is : List Identifier). AllZip (IsAlikeAt named) (with_entities (identifiers_from 0 (spelled tree)) js) (with_entities is ks)) (sym (unit-identifiers-after tree))
      (identified-alike named (identifiers_from 0 (spelled tree)) js ks bound)

  -- ---- units

  -- two units whose names of file scope correspond so that they have external linkage in both or in neither
  record AreAlikeUnits (unit other : UnitNames) : Type 0 where
    named : Correspondence
    identified : AllZip (IsAlikeAt named) unit.identified other.identified
    external : (a c : List ℕ) → IsTrue (named a c) → unit.is_external a ≡ other.is_external c
    written : AllByRecursion IsWrittenAs (occurrences_of unit)
    written_after : AllByRecursion IsWrittenAs (occurrences_of other)

  at-place :
      (unit other : UnitNames) (named : Correspondence) (external : (a c : List ℕ) → IsTrue (named a c) → unit.is_external a ≡ other.is_external c) (o p : Occurrence)
      → IsAlikeAt named o.identifier p.identifier → IsWrittenAs o → IsWrittenAs p → bound-number o ≡ bound-number p → IsRenamedAt (is_of_class class new) new unit other o p
  at-place unit other named external o p alike w v number =
      by (declares_itself o) (declares_itself p) (ap (λ (n : BoundNumber). n.identifier == n.declared_by) number)
    where
      b : Bool
      b = is_of_class class new o.identifier.token

      by :
          (x y : Bool) → x ≡ y
          → if_external (if y then common_name other p.identifier else None) ≡ option_map (name_after new b) (if_external (if x then common_name unit o.identifier else None))
      by true true e =
          common-alike named unit other b new o.identifier.token.text p.identifier.token.text o.identifier.entity p.identifier.entity alike.entity external w v
          (ap (λ (token : PlainToken). token.text) alike.token ∙ after-text o.identifier.token)
      by false false e = refl
      by true false e = absurd (false≢true (sym e))
      by false true e = absurd (false≢true e)

  unit-renamed :
      (unit other : UnitNames) (named : Correspondence) (external : (a c : List ℕ) → IsTrue (named a c) → unit.is_external a ≡ other.is_external c) (all others xs ys : List Identified)
      → AllZip (IsAlikeAt named) xs ys → AllByRecursion IsWrittenAs (map (occurrence_among all) xs) → AllByRecursion IsWrittenAs (map (occurrence_among others) ys)
      → map bound-number (map (occurrence_among all) xs) ≡ map bound-number (map (occurrence_among others) ys)
      → AllZip (IsRenamedAt (is_of_class class new) new unit other) (map (occurrence_among all) xs) (map (occurrence_among others) ys)
  unit-renamed unit other named external all others [] [] alike w v e = tt
  unit-renamed unit other named external all others [] (y ∷ ys) alike w v e = absurd alike
  unit-renamed unit other named external all others (x ∷ xs) [] alike w v e = absurd alike
  unit-renamed unit other named external all others (x ∷ xs) (y ∷ ys) alike w v e =
      let first : bound-number (occurrence_among all x) ≡ bound-number (occurrence_among others y) = cc in
      let rest : map bound-number (map (occurrence_among all) xs) ≡ map bound-number (map (occurrence_among others) ys) = cc in (
        at-place unit other named external (occurrence_among all x) (occurrence_among others y) alike.0 w.0 v.0 first,
        unit-renamed unit other named external all others xs ys alike.1 w.1 v.1 rest,
      )

  all-renamed : (units others : List UnitNames) → AllZip AreAlikeUnits units others → map bound_numbers units ≡ map bound_numbers others → AreRenamed (is_of_class class new) new units others
  all-renamed [] [] alike e = tt
  all-renamed [] (other ∷ others) alike e = absurd alike
  all-renamed (unit ∷ units) [] alike e = absurd alike
  all-renamed (unit ∷ units) (other ∷ others) alike e =
      let first : bound_numbers unit ≡ bound_numbers other = cc in
      let rest : map bound_numbers units ≡ map bound_numbers others = cc in
      let a = alike.0 in (
        unit-renamed unit other a.named a.external unit.identified other.identified unit.identified other.identified a.identified a.written a.written_after first,
        all-renamed units others alike.1 rest,
      )

  -- ---- units that are judged well

  one-to-one : (named : Correspondence) → IsOneToOne named → OneToOne (naming named)
  one-to-one named law a b x y f g =
      both_tests x a y b (λ e. law.forth a y b (subst (λ (z : List ℕ). IsTrue (named z y)) e g) f) (λ e. law.back x a b (subst (λ (z : List ℕ). IsTrue (named x z)) e g) f)

  module _ (write : FileNamesAreWritten) (named : ℕ → Correspondence) (one : (i : ℕ) → IsOneToOne (named i)) where
    texts-of : (tree : PlainTree) → AreWritten (tree ∷ []) → (structs : List Struct) (state : UnitState) (js : List Binding) → judged_behind structs tree ≡ fine state js → AllByRecursion IsWrittenAs (occurrences_of (names_of_unit tree (fine state js)))
    texts-of tree w structs state js e =
        subst (λ (c : Checked UnitState). AllByRecursion IsWrittenAs (occurrences_of (names_of_unit tree c))) e
        (recursion_from_All (λ (o : Occurrence). IsTextOf o.identifier.entity o.identifier.token.text) (occurrences_of (names_of_unit tree (judged_behind structs tree))) (write tree w.0 structs state js e))

    units-alike :
        (index : ℕ) (structs others : List Struct) (trees : List PlainTree) → SameStructs structs others → AllDerived trees → AreWritten trees → AreWritten (map (renamed_tree class new) trees)
        → AreJudged structs trees → AreJudged others (map (renamed_tree class new) trees) → BindAlike named index structs others trees (map (renamed_tree class new) trees)
        → AllZip AreAlikeUnits (names_behind structs trees) (names_behind others (map (renamed_tree class new) trees))
    units-alike index structs others [] same derived w v judged after_judged bind = tt
    units-alike index structs others (tree ∷ trees) same derived w v (one_more state js is further) (one_more other ks was behind) bind =
        let both = bind 0 (no_numbers 0) (no_numbers 0) state other js ks is was in
        let numbers : SameNumbers (naming (named index)) (no_numbers 0) (no_numbers 0) = record { globals = λ a b e. refl; functions = λ a b e. refl; literals = λ bytes. refl } in
        let left : UnitsAfter (naming (named index)) (one-to-one (named index) (one index)) state other =
        result_of (named index) (UnitsAfter (naming (named index)) (one-to-one (named index) (one index))) (judged_behind structs tree) (judged_behind others (renamed_tree class new tree)) state other js ks
        (unit_alike (naming (named index)) (one-to-one (named index) (one index)) derived.0 (alike-tree tree) 0 structs others (no_numbers 0) (no_numbers 0) same numbers) is was both.0 in
        let unit : AreAlikeUnits (names_of_unit tree (fine state js)) (names_of_unit (renamed_tree class new tree) (fine other ks)) = record {
          named = named index;
          identified = unit-identified-alike (named index) tree js ks both.0;
          external = λ a c h. ap is_external_name (left.scopes.names a c h);
          written = texts-of tree (w.0, tt) structs state js is;
          written_after = texts-of (renamed_tree class new tree) (v.0, tt) others other ks was;
        } in
        let rest = units-alike (index + 1) state.scope.structs other.scope.structs trees left.scopes.structs derived.1 w.1 v.1 further behind both.1 in
        subst (λ (c : Checked UnitState). AllZip AreAlikeUnits (names_of_unit tree c ∷ names_behind (structs_behind structs c) trees) (names_behind others (renamed_tree class new tree ∷ map (renamed_tree class new) trees))) (sym is)
        (subst (λ (c : Checked UnitState). AllZip AreAlikeUnits (names_of_unit tree (fine state js) ∷ names_behind state.scope.structs trees)
        (names_of_unit (renamed_tree class new tree) c ∷ names_behind (structs_behind others c) (map (renamed_tree class new) trees))) (sym was)
        (unit, rest))

  -- ---- declarations of the class

  abbrev AreWrittenIn : UnitNames → Type 0
  AreWrittenIn unit = AllByRecursion IsWrittenAs (occurrences_of unit)

  first-written : (units others : List UnitNames) → AllZip AreAlikeUnits units others → AllByRecursion AreWrittenIn units
  first-written [] [] alike = tt
  first-written [] (other ∷ others) alike = absurd alike
  first-written (unit ∷ units) [] alike = absurd alike
  first-written (unit ∷ units) (other ∷ others) alike = (alike.0.written, first-written units others alike.1)

  have-old-name : (old : List ℕ) (units : List UnitNames) → AllByRecursion AreWrittenIn units → AreWrittenSo (is_of_class class new) old units → AreNamed (is_of_class class new) old units
  have-old-name old units texts so = record {
    named = λ d inside.
        let f = d.found in
        let own : AreWrittenIn f.unit = at AreWrittenIn f.unit units texts (in-of f.unit units (f.place, slice_get_within units f.place f.unit f.is_unit, get_or_from_slice_get units f.place f.unit f.unit f.is_unit)) in
        let here : IsWrittenAs f.occurrence = at IsWrittenAs f.occurrence (occurrences_of f.unit) own (in-of f.occurrence (occurrences_of f.unit) f.among) in
        sym (is-written f.unit f.occurrence.identifier.token.text f.occurrence.identifier.entity d.name here (known-so f.unit f.occurrence d.name d.declares)) ∙ so.written f inside;
  }

derived-all : UnitsAreDerived → (trees : List PlainTree) → AreWritten trees → AllDerived trees
derived-all derived [] w = tt
derived-all derived (tree ∷ trees) w = (derived tree w.0.unit, derived-all derived trees w.1)

pub renamed-told : UnitsAreDerived → UnitsOfProgramsAreJudged → FileNamesAreWritten → UnitsOfProgramsBindAlike → NamesAreOneToOne → LinksAreTold → LinksOfRenamedAreTold
renamed-told derived judged_well write bind_alike one_to_one told class old new trees w v linked after_linked bindings behind e f bound so together =
    let others : List PlainTree = map (renamed_tree class new) trees in
    let bind = bind_alike trees others w v (all-alike class new trees) linked after_linked bindings behind e f bound in
    let alike : AllZip (AreAlikeUnits class new) (names_of_units trees) (names_of_units others) =
    units-alike class new write (names_at_places (names_of_units trees) (names_of_units others)) (λ index. one_to_one trees others bound index) 0 [] [] trees tt (derived-all derived trees w) w v
    (judged_well trees linked bindings e) (judged_well others after_linked behind f) bind in
    told (is_of_class class new) old new (names_of_units trees) (names_of_units others) bound (all_ordered [] trees) (all-renamed class new (names_of_units trees) (names_of_units others) alike bound)
    (have-old-name class new old (names_of_units trees) (first-written class new (names_of_units trees) (names_of_units others) alike) so) together
