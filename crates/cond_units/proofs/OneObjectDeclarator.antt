-- What comes of one declarator of an object: by its types, and by its name.
use Rattle.std.proofs.Common.{◌≡◌, ℕ, Bool, true, false, ◌&&◌, ◌||◌, List, [], ◌∷◌, refl, sym, ◌∙◌, subst}
use Rattle.std.specs.Prelude.{Option, Some, None}
use Rattle.conditional.specs.Entries.{alternatives, Stands}
use Rattle.conditional.specs.Judgements as judgements
use Rattle.conditional.specs.declared.outcomes.Outcomes.{Outcomes}
use Rattle.conditional_steps.specs.Here.{Here, is_refused}
use Rattle.conditional_steps.proofs.Found.{not_both, are_both, neither}
use Rattle.c_text.specs.Token.{PlainToken}
use Rattle.c_types.specs.Types.{PlainType}
use Rattle.c_tree.specs.Trees.{PlainTree, PlainTrees, leaf, node}
use Rattle.core_meaning.specs.Checking.{Binding, file_entity, Checked, fine, refused, broken, with_bindings, ◌>>=◌, or_broken}
use Rattle.core_meaning.specs.Entities.{Struct, Scope}
use Rattle.core_meaning.specs.UnitNames.{Storage, UnitState}
use Rattle.operand_types.specs.OperandTypes.{outcome_as, renumbered}
use Rattle.operand_rules.specs.declared.operands.Refused.{Refused}
use Rattle.type_tables.specs.Forms.{declared_type_form}
use Rattle.type_tables.specs.declared.entries.DeclaredType.{DeclaredType}
use Rattle.type_tables.specs.Follows.{IsThere, Follows}
use Rattle.cond_declarators.specs.Types.{ShowsType, object_type_in}
use Rattle.cond_declarators.proofs.There.{objects_are_there}
use Rattle.cond_units.specs.Seen.{SeenUnit}
use Rattle.cond_units.specs.Declaring.{IsUnit, GoesOn, IsInitialiser, object_of_type, object_of_name, object_in, name_of, DeclaresTyped, Declares}

pub goes_still : (by : ℕ → ℕ) (structs : List Struct) (before : List Binding) (next : Checked UnitState) (declined : Bool) (seen : SeenUnit) → GoesOn by structs next declined seen → GoesOn by structs (with_bindings before next) declined seen
goes_still by structs before (fine unit bindings) declined seen h = h
goes_still by structs before (refused kind token) declined seen h = h
goes_still by structs before broken declined seen h = h

module _ (globals : ℕ) (storage : Storage) (name : PlainToken) (initialiser : Option PlainTree) (rest : PlainTrees) (by : ℕ → ℕ) (structs : List Struct) (declined : Bool) (seen : SeenUnit) (unit : UnitState) (ty : PlainType) where
  -- by the type that the declarator gives
  typed_comes : (tree : PlainTree) (whole : PlainType) (bindings : List Binding) → object_type_in unit.scope ty tree name initialiser ≡ fine whole bindings
      → GoesOn by structs (object_of_type globals storage name initialiser rest unit whole) declined seen → GoesOn by structs (object_of_name globals storage tree name initialiser rest unit ty) declined seen
  typed_comes (leaf token) whole bindings e h = absurd cc
  typed_comes (node kind parts) whole bindings e h =
      goes_still by structs (record { entity = file_entity name.text; in_expression = false } ∷ []) _ declined seen
      (subst (λ o. GoesOn by structs (o >>= (λ whole. object_of_type globals storage name initialiser rest unit whole)) declined seen) (sym e) (goes_still by structs bindings _ declined seen h))

  refused_comes : (tree : PlainTree) (o : Checked PlainType) → object_type_in unit.scope ty tree name initialiser ≡ o → ((whole : PlainType) (bindings : List Binding) → o ≡ fine whole bindings → ⊥) → declined ≡ true
      → GoesOn by structs (object_of_name globals storage tree name initialiser rest unit ty) declined seen
  refused_comes (leaf token) o e never h = h
  refused_comes (node kind parts) (fine whole bindings) e never h = absurd (never whole bindings refl)
  refused_comes (node kind parts) (refused k token) e never h =
      goes_still by structs (record { entity = file_entity name.text; in_expression = false } ∷ []) _ declined seen (subst (λ o. GoesOn by structs (o >>= (λ whole. object_of_type globals storage name initialiser rest unit whole)) declined seen) (sym e) h)
  refused_comes (node kind parts) broken e never h =
      goes_still by structs (record { entity = file_entity name.text; in_expression = false } ∷ []) _ declined seen (subst (λ o. GoesOn by structs (o >>= (λ whole. object_of_type globals storage name initialiser rest unit whole)) declined seen) (sym e) h)

  named_comes : (tree : PlainTree) → name_of tree ≡ Some name → GoesOn by structs (object_of_name globals storage tree name initialiser rest unit ty) declined seen
      → GoesOn by structs (object_in globals storage tree initialiser rest unit ty) declined seen
  named_comes tree e h =
      subst (λ o. GoesOn by structs (or_broken o >>= (λ name. object_of_name globals storage tree name initialiser rest unit ty)) declined seen) (sym e) (goes_still by structs [] _ declined seen h)

  nameless_comes : (tree : PlainTree) → name_of tree ≡ None → declined ≡ true → GoesOn by structs (object_in globals storage tree initialiser rest unit ty) declined seen
  nameless_comes tree e h = subst (λ o. GoesOn by structs (or_broken o >>= (λ name. object_of_name globals storage tree name initialiser rest unit ty)) declined seen) (sym e) h

module _ (on : ℕ → Bool) (globals : ℕ) (storage : Storage) (base : Outcomes DeclaredType Refused) (tree : PlainTree) (name : PlainToken) (initialiser : Option PlainTree) (rest : PlainTrees) (old new : SeenUnit) (when : Bool) where
  pub named_here :
      (types : Outcomes DeclaredType Refused) (untyped no_object found f : Bool) → f ≡ (no_object || found) → no_object ≡ (when && untyped)
      → ((x : judgements.Checked PlainType (Unit {0})) → ShowsType on x types → untyped ≡ is_refused x)
      → ((scope : Scope) (follows : Follows old.tables scope) (ty : PlainType) → IsThere scope.structs ty → ShowsType on (judgements.fine (renumbered follows.by ty)) base
      → ShowsType on (outcome_as (renumbered follows.by) (object_type_in scope ty tree name initialiser)) types)
      → (when ≡ false → (new ≡ old) × (found ≡ false))
      → (when ≡ true → (ty : PlainType) → Stands on ty (alternatives declared_type_form types.fine)
      → DeclaresTyped ty (object_of_type globals storage name initialiser rest) (IsInitialiser initialiser) old new found)
      → Here when (Declares on base (object_of_name globals storage tree name initialiser rest) (IsInitialiser initialiser)) old new f
  named_here types untyped no_object found f is_f is_none refusals shows elsewhere declares = record {
    elsewhere = λ h. ((elsewhere h).0, neither no_object when untyped found f is_f is_none h (elsewhere h).1);
    does = λ h. record {
      goes_on = λ by unit ty is there shown derived.
          one h by unit ty is there derived (object_type_in unit.scope ty tree name initialiser) refl
          (subst (λ (b : ℕ → ℕ). ShowsType on (outcome_as (renumbered b) (object_type_in unit.scope ty tree name initialiser)) types) is.tables.numbers
          (shows unit.scope is.tables.follows ty there (subst (λ (b : ℕ → ℕ). ShowsType on (judgements.fine (renumbered b ty)) base) (sym is.tables.numbers) shown)));
    };
  }
    where
      one : when ≡ true → (by : ℕ → ℕ) (unit : UnitState) (ty : PlainType) → IsUnit by old unit → IsThere unit.scope.structs ty → IsInitialiser initialiser
          → (o : Checked PlainType) → object_type_in unit.scope ty tree name initialiser ≡ o → ShowsType on (outcome_as (renumbered by) o) types
          → GoesOn by unit.scope.structs (object_of_name globals storage tree name initialiser rest unit ty) f new
      one h by unit ty is there derived (fine whole bindings) e shown =
          typed_comes globals storage name initialiser rest by unit.scope.structs f new unit ty tree whole bindings e
          (subst (λ (b : Bool). GoesOn by unit.scope.structs (object_of_type globals storage name initialiser rest unit whole) b new)
          (sym (not_both no_object when untyped found f is_f is_none h (refusals (judgements.fine (renumbered by whole)) shown)))
          ((declares h (renumbered by whole) (record { held = shown.shown.held refl; carry = shown.shown.carry })).goes_on by unit whole is refl (objects_are_there unit.scope ty there tree name initialiser whole bindings e) derived))
      one h by unit ty is there derived (refused kind token) e shown =
          refused_comes globals storage name initialiser rest by unit.scope.structs f new unit ty tree (refused kind token) e (λ whole bindings never. cc)
          (are_both no_object when untyped found f is_f is_none h (refusals (judgements.refused tt) shown))
      one h by unit ty is there derived broken e shown =
          refused_comes globals storage name initialiser rest by unit.scope.structs f new unit ty tree broken e (λ whole bindings never. cc)
          (are_both no_object when untyped found f is_f is_none h (refusals (judgements.refused tt) shown))

  -- by the name in the declarator
  pub tree_here : (found : Bool) → name_of tree ≡ Some name
      → Here when (Declares on base (object_of_name globals storage tree name initialiser rest) (IsInitialiser initialiser)) old new found
      → Here when (Declares on base (object_in globals storage tree initialiser rest) (IsInitialiser initialiser)) old new found
  tree_here found e does = record {
    elsewhere = does.elsewhere;
    does = λ h. record {
      goes_on = λ by unit ty is there shown derived.
          named_comes globals storage name initialiser rest by unit.scope.structs found new unit ty tree e ((does.does h).goes_on by unit ty is there shown derived);
    };
  }

-- a declarator without a name
pub nameless_here :
    (on : ℕ → Bool) (globals : ℕ) (storage : Storage) (base : Outcomes DeclaredType Refused) (tree : PlainTree) (some_name : PlainToken) (initialiser : Option PlainTree) (rest : PlainTrees) (seen : SeenUnit) (when f : Bool)
    → name_of tree ≡ None → f ≡ when → Here when (Declares on base (object_in globals storage tree initialiser rest) (IsInitialiser initialiser)) seen seen f
nameless_here on globals storage base tree some_name initialiser rest seen when f e is_f = record {
  elsewhere = λ h. (refl, is_f ∙ h);
  does = λ h. record {
    goes_on = λ by unit ty is there shown derived.
        nameless_comes globals storage some_name initialiser rest by unit.scope.structs f seen unit ty tree e (is_f ∙ h);
  };
}
