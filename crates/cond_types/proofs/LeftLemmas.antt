-- What is seen of the units that are present says what they leave, with the names that they use.
use Rattle.std.proofs.Common.{◌≡◌, ℕ, suc, Bool, true, false, List, [], ◌∷◌, map, filter, IsTrue, refl, sym, ap, ◌∙◌}
use Rattle.std.specs.Prelude.{if◌then◌else◌}
use Rattle.std.specs.List.{AllZip}
use Rattle.cond_formula.specs.Conditions.{condition_of, value}
use Rattle.c_tree.specs.Trees.{PlainTree}
use Rattle.choice_trees.specs.declared.trees.Forest.{Forest}
use Rattle.choice_trees.specs.ChoiceTrees.{forest_at}
use Rattle.core_meaning.specs.Checking.{Checked, fine, refused, broken}
use Rattle.core_meaning.specs.Entities.{Struct, Numbers}
use Rattle.core_meaning.specs.Linking.{Unit as JudgedUnit, Units, judged_units}
use Rattle.bindings.specs.Laws.{AreWritten, FileNamesAreUsedAlike}
use Rattle.project_file.specs.declared.projects.Unit.{Unit}
use Rattle.cond_bindings.specs.declared.unit_bindings.UnitBindings.{UnitBindings}
use Rattle.cond_bindings.specs.Bindings.{file_uses_of, uses_at}
use Rattle.cond_scopes.specs.Units.{IsInGrammar, AreInGrammar, UsesFileNames, UnitsUseFileNames, present_trees}
use Rattle.type_tables.specs.declared.tables.Tables.{Tables}
use Rattle.link_faults.specs.declared.left.LeftUnit.{LeftUnit}
use Rattle.link_faults.specs.SeenUnits.{is_present, LeavesAlike}
use Rattle.cond_types.specs.declared.units.TypedUnit.{TypedUnit}
use Rattle.cond_types.specs.declared.units.TypedUnits.{TypedUnits}
use Rattle.cond_types.specs.Units.{is_present as is_typed_present, IsLeft, AreTyped}
use Rattle.cond_types.specs.declared.typing.CondTypes.{CondTypes}
use Rattle.cond_types.specs.Uses.{HasUses, HaveUses}
use Rattle.cond_types.specs.Typed.{IsTypedAs}
use Rattle.cond_types.proofs.UseLemmas.{shifted, used_as}
use Rattle.cond_types.proofs.Judged.{UsesOf, uses_follow}

module _ (on : ℕ → Bool) where
  abbrev here : Unit → Bool
  here unit = value on (condition_of unit.when)

  first_written : (b : Bool) (tree : PlainTree) (trees : List PlainTree) → AreWritten (if b then tree ∷ trees else trees) → (IsTrue b → AreWritten (tree ∷ trees)) × AreWritten trees
  first_written true tree trees h = ((λ x. h), h.1)
  first_written false tree trees h = ((λ x. absurd (let no : ◌≡◌ {A = Bool} false true = x in cc)), h)

  -- units with written trees are in the grammar
  pub in_grammar : (units : List Unit) (forests : List Forest) → AreWritten (present_trees on units forests) → AreInGrammar on units forests
  in_grammar [] forests h = tt
  in_grammar (unit ∷ units) [] h = tt
  in_grammar (unit ∷ units) (forest ∷ forests) h =
      let both = first_written (here unit) (forest_at on forest) (present_trees on units forests) h in
      ((λ x. let w = both.0 x in let first = w.0 in first.unit), in_grammar units forests both.1)

  module _ (tables : Tables) (by : ℕ → ℕ) (structs : List Struct) where
    abbrev Left : List JudgedUnit → List LeftUnit → Type 0
    Left units left = AllZip (LeavesAlike on tables by structs) units left

    abbrev Typed : List JudgedUnit → List TypedUnit → Type 0
    Typed units typed = AllZip (IsLeft on tables by structs) units typed

    abbrev Use : List JudgedUnit → List PlainTree → Type 0
    Use units trees = AllZip UsesOf units trees

    leaves :
        (unit : JudgedUnit) (forest : Forest) (source : Unit) (bound : UnitBindings) (typed : TypedUnit) (left : LeftUnit) → HasUses (file_uses_of bound) typed left
        → UsesFileNames on (condition_of source.when) forest bound → (IsTrue (here source)) → (IsTrue (here source) → IsInGrammar on forest)
        → UsesOf unit (forest_at on forest) → IsLeft on tables by structs unit typed → LeavesAlike on tables by structs unit left
    leaves unit forest source bound typed left has names present grammar uses is = record {
      names = λ name. rw (has.names) (is.names name);
      there = is.there;
      defined = rw (has.defined) is.defined;
      uses = λ name. uses.uses name ∙ (sym (names.present present (grammar present) name) ∙ (ap (λ us. uses_at on us name) (sym has.used) ∙ sym (used_as on name left.uses.items)));
    }

    step :
        (b typed_here left_here : Bool) → typed_here ≡ b → left_here ≡ typed_here
        → (tree : PlainTree) (trees : List PlainTree) (t : TypedUnit) (typed : List TypedUnit) (l : LeftUnit) (left : List LeftUnit)
        → (IsTrue b → (unit : JudgedUnit) → UsesOf unit tree → IsLeft on tables by structs unit t → LeavesAlike on tables by structs unit l)
        → ((units : List JudgedUnit) → Use units trees → Typed units typed → Left units left)
        → (units : List JudgedUnit) → Use units (if b then tree ∷ trees else trees) → Typed units (if typed_here then t ∷ typed else typed) → Left units (if left_here then l ∷ left else left)
    step true true true e f tree trees t typed l left first rest [] uses is = absurd uses
    step true true true e f tree trees t typed l left first rest (unit ∷ units) uses is = (first refl unit uses.0 is.0, rest units uses.1 is.1)
    step false false false e f tree trees t typed l left first rest units uses is = rest units uses is
    step true false left_here e f tree trees t typed l left first rest units uses is = absurd cc
    step false true left_here e f tree trees t typed l left first rest units uses is = absurd cc
    step true true false e f tree trees t typed l left first rest units uses is = absurd cc
    step false false true e f tree trees t typed l left first rest units uses is = absurd cc

    pub all_leave :
        (units : List Unit) (forests : List Forest) (bound : List UnitBindings) (typed : List TypedUnit) (left : List LeftUnit)
        → UnitsUseFileNames on units forests bound → AreInGrammar on units forests
        → map (λ (u : TypedUnit). value on (condition_of u.when)) typed ≡ map (λ (u : Unit). value on (condition_of u.when)) units → HaveUses bound 0 typed left
        → (judged : List JudgedUnit) → Use judged (present_trees on units forests) → Typed judged (filter (is_typed_present on) typed) → Left judged (filter (is_present on) left)
    all_leave [] forests [] [] [] names grammar same have judged uses is = none judged uses
      where
        none : (judged : List JudgedUnit) → Use judged [] → Left judged []
        none [] h = tt
        none (j ∷ judged) h = absurd h
    all_leave [] forests [] [] (l ∷ left) names grammar same have judged uses is = absurd have
    all_leave [] forests [] (t ∷ typed) left names grammar same have judged uses is = absurd cc
    all_leave [] forests (b ∷ bound) typed left names grammar same have judged uses is = absurd names
    all_leave (u ∷ units) [] bound typed left names grammar same have judged uses is = absurd names
    all_leave (u ∷ units) (f ∷ forests) [] typed left names grammar same have judged uses is = absurd names
    all_leave (u ∷ units) (f ∷ forests) (b ∷ bound) [] left names grammar same have judged uses is = absurd cc
    all_leave (u ∷ units) (f ∷ forests) (b ∷ bound) (t ∷ typed) [] names grammar same have judged uses is = absurd have
    all_leave (u ∷ units) (f ∷ forests) (b ∷ bound) (t ∷ typed) (l ∷ left) names grammar same have judged uses is =
        let heads : value on (condition_of t.when) ≡ here u = cc in
        let tails : map (λ (x : TypedUnit). value on (condition_of x.when)) typed ≡ map (λ (x : Unit). value on (condition_of x.when)) units = cc in
        step (here u) (is_typed_present on t) (is_present on l) heads (ap (λ f. value on (condition_of f)) have.0.when)
        (forest_at on f) (present_trees on units forests) t (filter (is_typed_present on) typed) l (filter (is_present on) left)
        (λ present unit x y. leaves unit f u b t l have.0 names.0 present grammar.0 x y)
        (λ others x y. all_leave units forests bound typed left names.1 grammar.1 tails (shifted b bound 0 typed left have.1) others x y)
        judged uses is

  -- units are left where they were taken
  pub left_where_taken :
      (bound : List UnitBindings) (place : ℕ) (typed : List TypedUnit) (left : List LeftUnit) → HaveUses bound place typed left
      → map (λ (u : LeftUnit). value on (condition_of u.when)) left ≡ map (λ (u : TypedUnit). value on (condition_of u.when)) typed
  left_where_taken bound place [] [] have = refl
  left_where_taken bound place [] (l ∷ left) have = absurd have
  left_where_taken bound place (t ∷ typed) [] have = absurd have
  left_where_taken bound place (t ∷ typed) (l ∷ left) have =
      ap (λ f. value on (condition_of f) ∷ map (λ (u : LeftUnit). value on (condition_of u.when)) left) have.0.when
      ∙ ap (λ list. value on (condition_of t.when) ∷ list) (left_where_taken bound (suc place) typed left have.1)

-- ---- units

module _ (laws : FileNamesAreUsedAlike) (on : ℕ → Bool) (units : List Unit) (forests : List Forest) (bound : List UnitBindings) (found : TypedUnits) (t : CondTypes)
    (tables_are : t.tables ≡ found.tables) (refused_is : t.refused ≡ found.refused) (have : HaveUses bound 0 found.units.items t.units.items)
    (present : map (λ (u : TypedUnit). value on (condition_of u.when)) found.units.items ≡ map (λ (u : Unit). value on (condition_of u.when)) units)
    (names : UnitsUseFileNames on units forests bound) (written : AreWritten (present_trees on units forests)) (globals : ℕ) (numbers : ℕ → Numbers) where
  by_judgement : (j : Checked Units) → judged_units numbers globals 0 [] (present_trees on units forests) ≡ j → AreTyped on j found → IsTypedAs on j t
  by_judgement (fine linked bindings) judged typed =
      let uses = uses_follow laws numbers globals 0 (present_trees on units forests) written [] linked bindings judged in
      let left = typed.1 in (
        ap (λ f. value on (condition_of f)) refused_is ∙ typed.0,
        record {
          by = left.by;
          leave = rw (tables_are) (all_leave on found.tables left.by linked.structs units forests bound found.units.items t.units.items names (in_grammar on units forests written) present have linked.units uses left.units);
          structs = rw (tables_are) left.structs;
        },
      )
  by_judgement (refused kind token) judged typed = ap (λ f. value on (condition_of f)) refused_is ∙ typed
  by_judgement broken judged typed = ap (λ f. value on (condition_of f)) refused_is ∙ typed

  pub types_told : AreTyped on (judged_units numbers globals 0 [] (present_trees on units forests)) found → IsTypedAs on (judged_units numbers globals 0 [] (present_trees on units forests)) t
  types_told typed = by_judgement (judged_units numbers globals 0 [] (present_trees on units forests)) refl typed
