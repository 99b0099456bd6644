-- What is read of a unit, and of the units one after the other.
use Rattle.std.proofs.Common.{◌≡◌, ℕ, Bool, true, false, ◌&&◌, ◌||◌, List, [], ◌∷◌, ◌++◌, IsTrue, refl, sym, ap, ◌∙◌, subst, append_assoc}
use Rattle.std.proofs.Math.Bool.{or_assoc, or-false}
use Rattle.std.proofs.lemmas.List.{append-nil}
use Rattle.cond_formula.specs.Conditions.{Condition, value, condition_of}
use Rattle.c_tree.specs.declared.kinds.Kind.TheVariants as k
use Rattle.choice_trees.specs.declared.trees.Forest.{Forest}
use Rattle.choice_trees.specs.ChoiceTrees.{plain_choices, parts_at, forest_at}
use Rattle.choice_trees.specs.Leaves.{forest_leaves}
use Rattle.project_file.specs.declared.projects.Unit.{Unit}
use Rattle.bindings.specs.Visible.{uses_among}
use Rattle.bindings.specs.Bindings.{bindings_of}
use Rattle.scope_readings.specs.Scopes.{Scopes, starting}
use Rattle.scope_readings.specs.Walks.{walk_node}
use Rattle.scope_readings.specs.Laws.{ScopesAreRead, FileNamesAreRead}
use Rattle.cond_bindings.specs.declared.unit_bindings.UnitBindings.{UnitBindings}
use Rattle.cond_bindings.specs.declared.unit_bindings.CondBindings.{CondBindings}
use Rattle.cond_bindings.specs.Bindings.{identifiers_of, pairings_at, PlainUse, file_uses_of, uses_at}
use Rattle.cond_bindings.specs.Names.{PlainNames, seen, Steps, some_undeclared}
use Rattle.cond_scopes.specs.Progress.{numbers}
use Rattle.cond_scopes.specs.Units.{bindings_at, IsInGrammar, IsScoped, UsesFileNames, IsRefused, UnitsAreScoped, UnitsUseFileNames, AreInGrammar, any_undeclared, AreScoped}

-- ---- a unit

module _ (on : ℕ → Bool) (forest : Forest) (before after : PlainNames) where
  abbrev pub walked : Scopes → Scopes
  walked = walk_node k.Unit k.Unit (parts_at on k.Unit 0 (plain_choices forest.items.items))

  -- before it nothing was seen, and where it is present its tree was walked
  pub record WasRead (when : Bool) : Type 0 where
    pub law : ScopesAreRead
    pub uses_law : FileNamesAreRead
    pub nothing : (coming : List ℕ) → seen on coming before ≡ starting coming
    pub steps : Steps on when (numbers (forest_leaves on forest)) walked [] before after

  present : (when : Bool) → IsTrue when → WasRead when → IsInGrammar on forest → pairings_at on after.identifiers ≡ bindings_at on forest
  present true is read in_grammar =
      ap (λ (s : Scopes). s.found) (read.steps ∙ ap walked (read.nothing (numbers (forest_leaves on forest))))
      ∙ read.law (forest_at on forest) in_grammar (numbers (forest_leaves on forest))
  present false is read in_grammar = absurd (cc is)

  absent : (when : Bool) → when ≡ false → WasRead when → pairings_at on after.identifiers ≡ []
  absent true is read = absurd (cc is)
  absent false is read = ap (λ (s : Scopes). s.found) (read.steps ∙ read.nothing [])

  used : (when : Bool) → IsTrue when → WasRead when → IsInGrammar on forest → (name : List ℕ) → uses_at on after.uses name ≡ uses_among (bindings_of (forest_at on forest)) name
  used true is read in_grammar name =
      ap (λ (s : Scopes). s.uses name) (read.steps ∙ ap walked (read.nothing (numbers (forest_leaves on forest))))
      ∙ read.uses_law (forest_at on forest) in_grammar (numbers (forest_leaves on forest)) name
  used false is read in_grammar name = absurd (cc is)

  unused : (when : Bool) → when ≡ false → WasRead when → (name : List ℕ) → uses_at on after.uses name ≡ false
  unused true is read name = absurd (cc is)
  unused false is read name = ap (λ (s : Scopes). s.uses name) (read.steps ∙ read.nothing [])

  module _ (when : Condition) (read : WasRead (value on when)) where
    pub uses_names : (unit : UnitBindings) → file_uses_of unit ≡ after.uses → UsesFileNames on when forest unit
    uses_names unit same = record {
      present = λ here in_grammar name. ap (λ (us : List PlainUse). uses_at on us name) same ∙ used (value on when) here read in_grammar name;
      absent = λ elsewhere name. ap (λ (us : List PlainUse). uses_at on us name) same ∙ unused (value on when) elsewhere read name;
    }

    pub is_scoped : (unit : UnitBindings) → identifiers_of unit ≡ after.identifiers → IsScoped on when forest unit
    is_scoped unit same = record {
      present = λ here in_grammar. ap (pairings_at on) same ∙ present (value on when) here read in_grammar;
      absent = λ elsewhere. ap (pairings_at on) same ∙ absent (value on when) elsewhere read;
    }

    pub is_refused : (refused : Bool) → refused ≡ some_undeclared (pairings_at on after.identifiers) → IsRefused on when forest refused
    is_refused refused is = record {
      present = λ here in_grammar. is ∙ ap some_undeclared (present (value on when) here read in_grammar);
      absent = λ elsewhere. is ∙ ap some_undeclared (absent (value on when) elsewhere read);
    }

-- ---- the units

-- refused where the unit is present and has an identifier that is undeclared
refused_here :
    (on : ℕ → Bool) (when : Condition) (forest : Forest) (refused w : Bool) → value on when ≡ w → IsRefused on when forest refused
    → (IsTrue (value on when) → IsInGrammar on forest) → refused ≡ (w && some_undeclared (bindings_at on forest))
refused_here on when forest refused true is told in_grammar = told.present is (in_grammar is)
refused_here on when forest refused false is told in_grammar = told.absent is

module _ (on : ℕ → Bool) (all_units : List Unit) (all_forests : List Forest) where
  -- those that are left complete the units so far
  pub record UnitsSoFar (done : List UnitBindings) (refused : Bool) (units : List Unit) (forests : List Forest) : Type 0 where
    pub bound : (more : List UnitBindings) → UnitsAreScoped on units forests more → UnitsAreScoped on all_units all_forests (done ++ more)
    pub used_names : (more : List UnitBindings) → UnitsUseFileNames on units forests more → UnitsUseFileNames on all_units all_forests (done ++ more)
    pub in_grammar : AreInGrammar on all_units all_forests → AreInGrammar on units forests
    pub refused_with : AreInGrammar on all_units all_forests → (refused || any_undeclared on units forests) ≡ any_undeclared on all_units all_forests

  -- other names for what is left
  pub left_are :
      (done : List UnitBindings) (refused : Bool) (units left_units : List Unit) (forests left_forests : List Forest)
      → units ≡ left_units → forests ≡ left_forests → UnitsSoFar done refused units forests → UnitsSoFar done refused left_units left_forests
  left_are done refused units left_units forests left_forests same_units same_forests so_far =
      subst (λ list. UnitsSoFar done refused list left_forests) same_units (subst (λ list. UnitsSoFar done refused units list) same_forests so_far)

  pub no_unit_yet : (done : List UnitBindings) (refused : Bool) → done ≡ [] → refused ≡ false → UnitsSoFar done refused all_units all_forests
  no_unit_yet done refused none is = record {
    bound = λ more h. rw none h;
    used_names = λ more h. rw none h;
    in_grammar = λ h. h;
    refused_with = λ h. ap (λ b. b || any_undeclared on all_units all_forests) is;
  }

  pub one_unit_more :
      (unit : Unit) (units : List Unit) (forest : Forest) (forests : List Forest) (done : List UnitBindings) (new : UnitBindings) (all : List UnitBindings)
      (refused here now : Bool)
      → UnitsSoFar done refused (unit ∷ units) (forest ∷ forests) → IsScoped on (condition_of unit.when) forest new → UsesFileNames on (condition_of unit.when) forest new
      → IsRefused on (condition_of unit.when) forest here → all ≡ done ++ new ∷ [] → now ≡ (refused || here) → UnitsSoFar all now units forests
  one_unit_more unit units forest forests done new all refused here now so_far scoped uses told all_are is = record {
    bound = λ more h. rw all_are (rw append_assoc (so_far.bound (new ∷ more) (scoped, h)));
    used_names = λ more h. rw all_are (rw append_assoc (so_far.used_names (new ∷ more) (uses, h)));
    in_grammar = λ h. (so_far.in_grammar h).1;
    refused_with = λ h.
        ap (λ b. b || any_undeclared on units forests) is
        ∙ (or_assoc refused here (any_undeclared on units forests)
        ∙ (ap (λ b. refused || (b || any_undeclared on units forests))
        (refused_here on (condition_of unit.when) forest here (value on (condition_of unit.when)) refl told (so_far.in_grammar h).0)
        ∙ so_far.refused_with h));
  }

  pub no_unit_left : (b : CondBindings) → UnitsSoFar b.units.items (value on (condition_of b.refused)) [] [] → AreScoped on all_units all_forests b
  no_unit_left b so_far = record {
    bound = rw (sym (append-nil b.units.items)) (so_far.bound [] tt);
    used = rw (sym (append-nil b.units.items)) (so_far.used_names [] tt);
    refused = λ h. sym (or-false (value on (condition_of b.refused))) ∙ so_far.refused_with h;
  }
