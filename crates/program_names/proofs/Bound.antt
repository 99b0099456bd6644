-- Units bind alike one after the other, as names at one place correspond.
use Rattle.std.proofs.Common.{◌≡◌, ℕ, ◌+◌, zero, suc, Bool, true, false, List, [], ◌∷◌, map, refl, sym, ap, subst, ◌∙◌, length, IsTrue, arith}
use Rattle.std.specs.Prelude.{◌||◌}
use Rattle.std.specs.List.{AllZip}
use Rattle.std.specs.Str.{bytes_eq}
use Rattle.std.specs.Cmp.Lexicographic.{bytes_decides}
use Rattle.std.proofs.lemmas.Bool.{and_from}
use Rattle.c_tree.specs.Trees.{PlainTree, spelled}
use Rattle.core_meaning.specs.Checking.{Entity, file_entity, Binding, Checked, fine}
use Rattle.core_meaning.specs.Entities.{Struct}
use Rattle.core_meaning.specs.UnitNames.{UnitState}
use Rattle.core_meaning.specs.Linking.{no_numbers}
use Rattle.bindings.specs.Judged.{Identified}
use Rattle.bindings.specs.Laws.{AreWritten, JudgementsBindAlike}
use Rattle.renamed_programs.specs.Entities.{Correspondence, AreBoundAlike}
use Rattle.renamed_programs.specs.Trees.{SameButNames}
use Rattle.renamed_programs.specs.Laws.{BindAlike}
use Rattle.entity_numbers.specs.Numbered.{AreNamedAt, AreNamedSo}
use Rattle.entity_numbers.specs.Firsts.{AreOf}
use Rattle.entity_numbers.specs.Kinds.{Ties, with_tie, AreKindsAlike}
use Rattle.entity_kinds.specs.Laws.{KindsAreAlike}
use Rattle.core_numbers.specs.Laws.{BindingsNeedNoNumbers}
use Rattle.program_occurrences.specs.Occurrences.{identifiers_from, with_entities, UnitNames, names_of_unit, structs_behind, names_behind, names_of_units}
use Rattle.program_occurrences.specs.Links.{bound_numbers}
use Rattle.program_occurrences.specs.Laws.{IdentifiersAreBound, AreJudged, one_more, UnitsOfProgramsAreJudged}
use Rattle.unit_numbers.specs.Laws.{UnitsBindAlike, UnitsLeaveAsManyStructs}
use Rattle.unit_numbers.proofs.Alike.{identified_of}
use Rattle.program_names.specs.Names.{are_names, stand_at_one_place, names_at_places}
use Rattle.program_names.specs.Laws.{UnitsOfProgramsBindAlike}

-- ---- names that stand at one place

or_left : (a b : Bool) → a ≡ true → (a || b) ≡ true
or_left true b h = refl
or_left false b h = absurd cc

or_right : (a b : Bool) → b ≡ true → (a || b) ≡ true
or_right true b h = refl
or_right false b h = h

named_at :
    (named : Correspondence) (e f : Entity) → ((a b : List ℕ) → are_names a b e f ≡ true → IsTrue (named a b)) → AreNamedAt named e f
named_at named (file_entity a) (file_entity b) h = h a b (and_from (bytes_eq a a) (bytes_eq b b) ((bytes_decides a a).1 refl) ((bytes_decides b b).1 refl))
named_at named _ _ h = tt

named_so :
    (named : Correspondence) (ties : Ties) (xs ys : List Identified) (js ks : List Binding) → AreOf xs js → AreOf ys ks → AreKindsAlike ties js ks
    → ((a b : List ℕ) → stand_at_one_place a b xs ys ≡ true → IsTrue (named a b)) → AreNamedSo named js ks
named_so named ties [] [] [] [] x y kinds h = tt
named_so named ties xs ys [] (k ∷ ks) x y kinds h = absurd kinds
named_so named ties xs ys (j ∷ js) [] x y kinds h = absurd kinds
named_so named ties [] ys (j ∷ js) (k ∷ ks) x y kinds h = absurd x
named_so named ties (i ∷ xs) [] (j ∷ js) (k ∷ ks) x y kinds h = absurd y
named_so named ties (i ∷ xs) [] [] [] x y kinds h = absurd x
named_so named ties [] (l ∷ ys) [] [] x y kinds h = absurd y
named_so named ties (i ∷ xs) (l ∷ ys) [] [] x y kinds h = absurd x
named_so named ties (i ∷ xs) (l ∷ ys) (j ∷ js) (k ∷ ks) x y kinds h = (
  named_at named j.entity k.entity (λ a b e. h a b (or_left (are_names a b i.entity l.entity) (stand_at_one_place a b xs ys) (ap (λ z. are_names a b z l.entity) x.0 ∙ ap (are_names a b j.entity) y.0 ∙ e))),
  named_so named (with_tie ties j.entity k.entity) xs ys js ks x.1 y.1 kinds.1 (λ a b e. h a b (or_right (are_names a b i.entity l.entity) (stand_at_one_place a b xs ys) e)),
)

-- names that stand at one place correspond, in the units from this number on
abbrev AreNamedFrom : (ℕ → Correspondence) → ℕ → List UnitNames → List UnitNames → Type 0
AreNamedFrom named index units others = (i : ℕ) (a b : List ℕ) → names_at_places units others i a b ≡ true → IsTrue (named (index + i) a b)

first_named : (named : ℕ → Correspondence) (index : ℕ) (unit other : UnitNames) (units others : List UnitNames) → AreNamedFrom named index (unit ∷ units) (other ∷ others) → (a b : List ℕ) → stand_at_one_place a b unit.identified other.identified ≡ true → IsTrue (named index a b)
first_named named index unit other units others h a b e = let same_ : index + 0 ≡ index = omega arith in subst (λ i. IsTrue (named i a b)) same_ (h zero a b e)

rest_named : (named : ℕ → Correspondence) (index : ℕ) (unit other : UnitNames) (units others : List UnitNames) → AreNamedFrom named index (unit ∷ units) (other ∷ others) → AreNamedFrom named (index + 1) units others
rest_named named index unit other units others h i a b e = let same_ : index + suc i ≡ (index + 1) + i = omega arith in subst (λ j. IsTrue (named j a b)) same_ (h (suc i) a b e)

module _ (bound : IdentifiersAreBound) (alike : JudgementsBindAlike) (kinds : KindsAreAlike) (bind : UnitsBindAlike) (many : UnitsLeaveAsManyStructs) (same : BindingsNeedNoNumbers) where
  units_from :
      (named : ℕ → Correspondence) (index : ℕ) (structs others : List Struct) (trees seconds : List PlainTree) → length structs ≡ length others → AreWritten trees → AreWritten seconds → AllZip SameButNames trees seconds
      → AreJudged structs trees → AreJudged others seconds → map bound_numbers (names_behind structs trees) ≡ map bound_numbers (names_behind others seconds)
      → AreNamedFrom named index (names_behind structs trees) (names_behind others seconds) → BindAlike named index structs others trees seconds
  units_from named index structs others [] [] lengths w v differ x y numbers names = tt
  units_from named index structs others [] (second ∷ seconds) lengths w v differ x y numbers names = absurd differ
  units_from named index structs others (first ∷ trees) [] lengths w v differ x y numbers names = absurd differ
  units_from named index structs others (first ∷ trees) (second ∷ seconds) lengths w v differ (one_more state js is further) (one_more other ks was behind_) numbers names =
      λ globals own more_ unit after bindings behind e f.
      let s = same first globals 0 structs own (no_numbers 0) unit state bindings js e is in
      let u = same second globals 0 others more_ (no_numbers 0) after other behind ks f was in
      let names_are : (names_of_unit first (fine state js) ∷ names_behind state.scope.structs trees) ≡ names_behind structs (first ∷ trees) = ap (λ (c : Checked UnitState). names_of_unit first c ∷ names_behind (structs_behind structs c) trees) (sym is) in
      let names_were : (names_of_unit second (fine other ks) ∷ names_behind other.scope.structs seconds) ≡ names_behind others (second ∷ seconds) = ap (λ (c : Checked UnitState). names_of_unit second c ∷ names_behind (structs_behind others c) seconds) (sym was) in
      let all : map bound_numbers (names_of_unit first (fine state js) ∷ names_behind state.scope.structs trees) ≡ map bound_numbers (names_of_unit second (fine other ks) ∷ names_behind other.scope.structs seconds)
      = ap (map bound_numbers) names_are ∙ numbers ∙ ap (map bound_numbers) (sym names_were) in
      let head : bound_numbers (names_of_unit first (fine state js)) ≡ bound_numbers (names_of_unit second (fine other ks)) = cc in
      let tail : map bound_numbers (names_behind state.scope.structs trees) ≡ map bound_numbers (names_behind other.scope.structs seconds) = cc in
      let named_ : AreNamedFrom named index (names_of_unit first (fine state js) ∷ names_behind state.scope.structs trees) (names_of_unit second (fine other ks) ∷ names_behind other.scope.structs seconds)
      = subst (λ l. AreNamedFrom named index l (names_of_unit second (fine other ks) ∷ names_behind other.scope.structs seconds)) (sym names_are) (subst (λ l. AreNamedFrom named index (names_behind structs (first ∷ trees)) l) (sym names_were) names) in
      let so : AreNamedSo (named index) js ks
      = named_so (named index) [] (with_entities (identifiers_from 0 (spelled first)) js) (with_entities (identifiers_from 0 (spelled second)) ks) js ks
      (identified_of alike bound first w.0 0 structs (no_numbers 0) state js is) (identified_of alike bound second v.0 0 others (no_numbers 0) other ks was)
      (kinds first second w.0.unit differ.0 0 0 structs others (no_numbers 0) (no_numbers 0) state other js ks is was)
      (first_named named index (names_of_unit first (fine state js)) (names_of_unit second (fine other ks)) (names_behind state.scope.structs trees) (names_behind other.scope.structs seconds) named_) in
      let both : AreBoundAlike (named index) js ks = bind (named index) first second w.0 v.0 differ.0 0 0 structs others (no_numbers 0) (no_numbers 0) state other js ks lengths is was head so in
      let more_lengths : length state.scope.structs ≡ length other.scope.structs = many (named index) first second w.0.unit v.0.unit 0 0 structs others (no_numbers 0) (no_numbers 0) state other js ks lengths is was both in
      let rest = units_from named (index + 1) state.scope.structs other.scope.structs trees seconds more_lengths w.1 v.1 differ.1 further behind_ tail
      (rest_named named index (names_of_unit first (fine state js)) (names_of_unit second (fine other ks)) (names_behind state.scope.structs trees) (names_behind other.scope.structs seconds) named_) in (
        subst (λ l. AreBoundAlike (named index) l behind) (sym s.bound) (subst (λ l. AreBoundAlike (named index) js l) (sym u.bound) both),
        subst (λ l. BindAlike named (index + 1) l after.scope.structs trees seconds) (sym s.structs) (subst (λ l. BindAlike named (index + 1) state.scope.structs l trees seconds) (sym u.structs) rest),
      )

pub units_of_programs_bind_alike : UnitsOfProgramsAreJudged → IdentifiersAreBound → JudgementsBindAlike → KindsAreAlike → UnitsBindAlike → UnitsLeaveAsManyStructs → BindingsNeedNoNumbers → UnitsOfProgramsBindAlike
units_of_programs_bind_alike judged_ bound alike kinds bind many same trees others w v differ linked after bindings behind e f numbers =
    units_from bound alike kinds bind many same (names_at_places (names_of_units trees) (names_of_units others)) 0 [] [] trees others refl w v differ (judged_ trees linked bindings e) (judged_ others after behind f) numbers
    (λ i a b h. let same_ : i ≡ 0 + i = omega arith in subst (λ j. IsTrue (names_at_places (names_of_units trees) (names_of_units others) j a b)) same_ h)
