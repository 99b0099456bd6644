-- The units are gone through as they are judged.
use Rattle.std.proofs.Common.{◌≡◌, ℕ, ◌+◌, Bool, true, false, ◌||◌, List, [], ◌∷◌, ◌++◌, refl, sym, ap, ap₂, ◌∙◌, subst, append_assoc, append-nil}
use Rattle.std.specs.Prelude.{filter, if◌then◌else◌}
use Rattle.std.specs.List.{AllZip}
use Rattle.cond_formula.specs.Conditions.{condition_of, value}
use Rattle.conditional_steps.proofs.Alternatives.{or_nothing}
use Rattle.c_tree.specs.declared.kinds.Kind.TheVariants as k
use Rattle.c_tree.specs.Trees.{PlainTree, PlainTrees, node}
use Rattle.c_tree.specs.Grammar.{file_item}
use Rattle.tree_derivations.specs.Derivations.{Each, UnitsAreDerived}
use Rattle.choice_trees.specs.declared.trees.Forest.{Forest}
use Rattle.choice_trees.specs.ChoiceTrees.{plain_choices, parts_at, forest_at}
use Rattle.project_file.specs.declared.projects.Unit.{Unit}
use Rattle.core_meaning.specs.Checking.{Binding, Checked, fine, refused, broken, with_bindings, ◌>>=◌, give}
use Rattle.core_meaning.specs.Entities.{Struct, Numbers}
use Rattle.core_meaning.specs.Linking.{Units, closed, judged_units, uses_in}
use Rattle.core_meaning.specs.Linking as linking
use Rattle.core_meaning.specs.UnitNames.{UnitState, unit_start, judged_to_end}
use Rattle.cond_declarators.proofs.There.{whole_of}
use Rattle.cond_units.specs.Seen.{seen_unit}
use Rattle.cond_units.specs.Declaring.{IsUnit}
use Rattle.cond_scopes.specs.Units.{AreInGrammar, present_trees}
use Rattle.cond_units.specs.Items.{ItemGoesOn}
use Rattle.cond_units.proofs.Growing.{UnitGrows, has_itself}
use Rattle.cond_types.specs.Leaving.{unit_before_all}
use Rattle.cond_types.specs.Steps.{TakesUnit}
use Rattle.cond_types.specs.Units.{is_present, IsLeft, AreLeft, AreTyped}
use Rattle.cond_types.specs.declared.units.TypedUnit.{TypedUnit}
use Rattle.cond_types.specs.declared.units.TypedUnits.{TypedUnits}
use Rattle.cond_types.specs.declared.beginnings.UnitsSoFar.{UnitsSoFar}
use Rattle.cond_types.proofs.AtEnd.{unit_grows}
use Rattle.cond_types.proofs.LeftUnits.{IsKept, all_still, now_kept, are_left, structs_follow, next_begins, first_by, first_begins, zip_last, filter_last}

-- the units so far in one table
abbrev pub together : UnitsSoFar → TypedUnits
together all = record { units = all.units; tables = record all.next.tables { signatures = all.signatures }; refused = all.refused }

-- what a unit leaves for linking
abbrev pub left_of : UnitState → List Binding → linking.Unit
left_of u bindings = record { names = u.scope.file_names; order = u.scope.order; defined = u.defined; uses = uses_in bindings }

module _ (on : ℕ → Bool) where
  abbrev pub behind : List linking.Unit → Units → Units
  behind done linked = record { units = done ++ linked.units; structs = linked.structs }

  -- what these units and those behind them are is what is seen
  abbrev pub AreTypedBehind : List linking.Unit → Checked Units → TypedUnits → Type 0
  AreTypedBehind done (fine linked bindings) t = (value on (condition_of t.refused) ≡ false) × AreLeft on (behind done linked) t
  AreTypedBehind done other t = value on (condition_of t.refused) ≡ true

  typed_at_start : (o : Checked Units) (t : TypedUnits) → AreTypedBehind [] o t → AreTyped on o t
  typed_at_start (fine linked bindings) t h = h
  typed_at_start (refused kind token) t h = h
  typed_at_start broken t h = h

  typed_still : (done : List linking.Unit) (unit : linking.Unit) (next : Checked Units) (t : TypedUnits) → AreTypedBehind (done ++ unit ∷ []) next t
      → AreTypedBehind done (with_bindings [] (next >>= (λ others. give (record { units = (unit ∷ []) ++ others.units; structs = others.structs })))) t
  typed_still done unit (fine linked bindings) t h = (h.0, subst (λ (units : List linking.Unit). AreLeft on (record { units = units; structs = linked.structs }) t) (append_assoc done (unit ∷ []) linked.units) h.1)
  typed_still done unit (refused kind token) t h = h
  typed_still done unit broken t h = h

  module _ (globals : ℕ) (numbers : ℕ → Numbers) (whole : Checked Units) where
    -- what the rest of the units makes of those that are done is what all are
    abbrev pub Leads : ℕ → List Struct → List linking.Unit → List PlainTree → Type 0
    Leads index structs done rest = (t : TypedUnits) → AreTypedBehind done (judged_units numbers globals index structs rest) t → AreTyped on whole t

    -- so many units are done, and the next one begins behind their structs
    pub record IsReached (all : UnitsSoFar) (rest : List PlainTree) (by : ℕ → ℕ) (structs : List Struct) (index : ℕ) (done : List linking.Unit) : Type 0 where
      pub begins : (n : Numbers) → IsUnit by (seen_unit on all.next) (unit_start structs n)
      pub kept : AllZip (IsKept on all.signatures.items by structs) done (filter (is_present on) all.units.items)
      pub leads : Leads index structs done rest

    -- so it is; or one has been refused
    pub data SoFar (all : UnitsSoFar) (rest : List PlainTree) : Type 0 where
      going :
          (by : ℕ → ℕ) (structs : List Struct) (index : ℕ) (done : List linking.Unit) → value on (condition_of all.refused) ≡ false → IsReached all rest by structs index done
          → SoFar all rest
      declined : value on (condition_of all.refused) ≡ true → ((t : TypedUnits) → value on (condition_of t.refused) ≡ true → AreTyped on whole t) → SoFar all rest

    -- ---- a unit that is present

    abbrev judged_behind : ℕ → List PlainTree → Checked UnitState → Checked Units
    judged_behind index rest o =
        closed o >>= (λ first. judged_units numbers globals (index + 1) first.structs rest >>= (λ others. give (record { units = first.units ++ others.units; structs = others.structs })))

    refused_behind : (index : ℕ) (rest : List PlainTree) (done : List linking.Unit) (by : ℕ → ℕ) (structs : List Struct) (parts : PlainTrees) (o : Checked UnitState)
        → judged_to_end globals (unit_start structs (numbers index)) parts ≡ o → Leads index structs done (node k.Unit parts ∷ rest)
        → ((t : TypedUnits) → AreTypedBehind done (judged_behind index rest o) t → AreTyped on whole t)
    refused_behind index rest done by structs parts o e leads t h = leads t (subst (λ o. AreTypedBehind done (judged_behind index rest o) t) (sym e) h)

    module _ (parts : PlainTrees) (rest : List PlainTree) (old new : UnitsSoFar) (step : TakesUnit on true parts old new) where
      present_last : filter (is_present on) new.units.items ≡ filter (is_present on) old.units.items ++ step.left ∷ []
      present_last =
          ap (filter (is_present on)) step.units_are ∙ filter_last (is_present on) old.units.items step.left
          ∙ ap (λ (b : Bool). if b then filter (is_present on) old.units.items ++ step.left ∷ [] else filter (is_present on) old.units.items) step.when_is

      unit_judged : (by : ℕ → ℕ) (structs : List Struct) (index : ℕ) (done : List linking.Unit) → value on (condition_of old.refused) ≡ false → IsReached old (node k.Unit parts ∷ rest) by structs index done
          → (o : Checked UnitState) → judged_to_end globals (unit_start structs (numbers index)) parts ≡ o → ItemGoesOn by structs o step.found (seen_unit on step.at_end) → SoFar new rest
      unit_judged by structs index done accepted at (fine u bindings) e h =
          let has = whole_of (UnitGrows structs) (judged_to_end globals (unit_start structs (numbers index)) parts) u bindings
          (unit_grows structs globals (unit_start structs (numbers index)) parts (has_itself structs)) e in
          going h.1.numbers u.scope.structs (index + 1) (done ++ left_of u bindings ∷ [])
          (step.refused_is ∙ ap₂ (λ (a b : Bool). a || b) accepted h.0)
          (record {
            begins = next_begins h.1.numbers (seen_unit on step.at_end) (seen_unit on new.next) u step.next_is h.1.is_unit;
            kept =
                subst (AllZip (IsKept on new.signatures.items h.1.numbers u.scope.structs) (done ++ left_of u bindings ∷ [])) (sym present_last)
                (zip_last (IsKept on new.signatures.items h.1.numbers u.scope.structs) done (filter (is_present on) old.units.items) (left_of u bindings) step.left
                (all_still on old.signatures.items step.at_end.tables.signatures.items new.signatures.items step.signatures_are by h.1.numbers structs u.scope.structs h.1.kept has done
                (filter (is_present on) old.units.items) at.kept)
                (now_kept on old.signatures.items new.signatures.items step.at_end.tables h.1.numbers u.scope (left_of u bindings) step.left step.signatures_are h.1.is_unit.tables step.names_are refl
                (sym h.1.is_unit.defined ∙ sym step.defined_are)));
            leads = λ t c. refused_behind index rest done by structs parts (fine u bindings) e at.leads t
                (typed_still done (left_of u bindings) (judged_units numbers globals (index + 1) u.scope.structs rest) t c);
          })
      unit_judged by structs index done accepted at (refused kind token) e h =
          declined (step.refused_is ∙ ap₂ (λ (a b : Bool). a || b) accepted h) (λ t c. refused_behind index rest done by structs parts (refused kind token) e at.leads t c)
      unit_judged by structs index done accepted at broken e h =
          declined (step.refused_is ∙ ap₂ (λ (a b : Bool). a || b) accepted h) (λ t c. refused_behind index rest done by structs parts broken e at.leads t c)

      unit_present : Each file_item parts → SoFar old (node k.Unit parts ∷ rest) → SoFar new rest
      unit_present ready (going by structs index done accepted at) =
          unit_judged by structs index done accepted at (judged_to_end globals (unit_start structs (numbers index)) parts) refl
          (((step.declares globals).does refl).goes_on by (unit_start structs (numbers index)) (at.begins (numbers index)) ready)
      unit_present ready (declined is_refused leads) = declined (step.refused_is ∙ ap (λ (b : Bool). b || step.found) is_refused) leads

    -- ---- a unit that isn't

    module _ (parts : PlainTrees) (rest : List PlainTree) (old new : UnitsSoFar) (step : TakesUnit on false parts old new) where
      present_same : filter (is_present on) new.units.items ≡ filter (is_present on) old.units.items
      present_same =
          ap (filter (is_present on)) step.units_are ∙ filter_last (is_present on) old.units.items step.left
          ∙ ap (λ (b : Bool). if b then filter (is_present on) old.units.items ++ step.left ∷ [] else filter (is_present on) old.units.items) step.when_is

      unit_absent : SoFar old rest → SoFar new rest
      unit_absent (going by structs index done accepted at) =
          let none = (step.declares globals).elsewhere refl in
          going by structs index done
          (step.refused_is ∙ (or_nothing (value on (condition_of old.refused)) step.found none.1 ∙ accepted))
          (record {
            begins = next_begins by (seen_unit on step.at_end) (seen_unit on new.next) (unit_start structs (numbers index)) step.next_is
                (none.0.stays by (unit_start structs (numbers index)) (at.begins (numbers index)));
            kept =
                subst (AllZip (IsKept on new.signatures.items by structs) done) (sym present_same)
                (all_still on old.signatures.items step.at_end.tables.signatures.items new.signatures.items step.signatures_are by by structs structs (λ n s e. refl) (has_itself structs) done
                (filter (is_present on) old.units.items) at.kept);
            leads = at.leads;
          })
      unit_absent (declined is_refused leads) = declined (step.refused_is ∙ ap (λ (b : Bool). b || step.found) is_refused) leads

    one_unit : (here : Bool) (parts : PlainTrees) (before rest : List PlainTree) (old new : UnitsSoFar) → before ≡ (if here then node k.Unit parts ∷ rest else rest) → (here ≡ true → Each file_item parts)
        → TakesUnit on here parts old new → SoFar old before → SoFar new rest
    one_unit true parts before rest old new is ready step so_far = unit_present parts rest old new step (ready refl) (subst (SoFar old) is so_far)
    one_unit false parts before rest old new is ready step so_far = unit_absent parts rest old new step (subst (SoFar old) is so_far)

    -- ---- the ends

    units_end : (all : UnitsSoFar) → SoFar all [] → AreTyped on whole (together all)
    units_end all (going by structs index done accepted at) =
        at.leads (together all) (
          accepted,
          record {
            by = by;
            units =
                subst (λ (units : List linking.Unit). AllZip (IsLeft on (together all).tables by structs) units (filter (is_present on) all.units.items)) (sym (append-nil done))
                (are_left on (together all).tables by structs done (filter (is_present on) all.units.items) at.kept);
            structs = structs_follow on all.next.tables (together all).tables by (unit_start structs (numbers index)).scope refl (at.begins (numbers index)).tables;
          },
        )
    units_end all (declined is_refused leads) = leads (together all) is_refused

  units_begin : (globals : ℕ) (numbers : ℕ → Numbers) (trees : List PlainTree) (all : UnitsSoFar) → all.units.items ≡ [] → seen_unit on all.next ≡ unit_before_all → value on (condition_of all.refused) ≡ false
      → SoFar globals numbers (judged_units numbers globals 0 [] trees) all trees
  units_begin globals numbers trees all none nothing accepted =
      going first_by [] 0 [] accepted (record {
        begins = first_begins (seen_unit on all.next) nothing;
        kept = subst (λ (units : List TypedUnit). AllZip (IsKept on all.signatures.items first_by []) [] (filter (is_present on) units)) (sym none) tt;
        leads = λ t h. typed_at_start (judged_units numbers globals 0 [] trees) t h;
      })

  -- ---- all units with their trees

  module _ (all_units : List Unit) (all_forests : List Forest) (globals : ℕ) (numbers : ℕ → Numbers) where
    abbrev all_judged : Checked Units
    all_judged = judged_units numbers globals 0 [] (present_trees on all_units all_forests)

    -- those that are left are ahead
    pub record UnitsGone (all : UnitsSoFar) (units : List Unit) (forests : List Forest) : Type 0 where
      pub in_grammar : AreInGrammar on all_units all_forests → AreInGrammar on units forests
      pub so_far : AreInGrammar on all_units all_forests → SoFar globals numbers all_judged all (present_trees on units forests)

    -- other names for what is ahead
    pub ahead_are : (all : UnitsSoFar) (units left_units : List Unit) (forests left_forests : List Forest) → units ≡ left_units → forests ≡ left_forests → UnitsGone all units forests
        → UnitsGone all left_units left_forests
    ahead_are all units left_units forests left_forests same_units same_forests gone =
        subst (λ list. UnitsGone all list left_forests) same_units (subst (λ list. UnitsGone all units list) same_forests gone)

    pub none_gone : (all : UnitsSoFar) → all.units.items ≡ [] → seen_unit on all.next ≡ unit_before_all → value on (condition_of all.refused) ≡ false → UnitsGone all all_units all_forests
    none_gone all none nothing accepted = record {
      in_grammar = λ h. h;
      so_far = λ h. units_begin globals numbers (present_trees on all_units all_forests) all none nothing accepted;
    }

    pub one_more_gone : UnitsAreDerived → (unit : Unit) (units : List Unit) (forest : Forest) (forests : List Forest) (old new : UnitsSoFar)
        → TakesUnit on (value on (condition_of unit.when)) (parts_at on k.Unit 0 (plain_choices forest.items.items)) old new → UnitsGone old (unit ∷ units) (forest ∷ forests)
        → UnitsGone new units forests
    one_more_gone derived unit units forest forests old new step gone = record {
      in_grammar = λ h. (gone.in_grammar h).1;
      so_far = λ h.
          one_unit globals numbers all_judged (value on (condition_of unit.when)) (parts_at on k.Unit 0 (plain_choices forest.items.items))
          (present_trees on (unit ∷ units) (forest ∷ forests)) (present_trees on units forests) old new refl (λ here. derived (forest_at on forest) ((gone.in_grammar h).0 here)) step (gone.so_far h);
    }

    pub all_gone : (all : UnitsSoFar) → UnitsGone all [] [] → AreInGrammar on all_units all_forests → AreTyped on all_judged (together all)
    all_gone all gone h = units_end globals numbers all_judged all (gone.so_far h)
