-- What comes of one declarator: by its types, and by its name.
use Rattle.std.proofs.Common.{◌≡◌, ℕ, Bool, true, false, not, ◌&&◌, ◌||◌, List, refl, sym, ap, ◌∙◌, subst}
use Rattle.std.specs.Prelude.{Option, Some, is_some}
use Rattle.conditional.specs.Entries.{alternatives, Stands}
use Rattle.conditional.specs.Judgements as judgements
use Rattle.conditional.specs.declared.outcomes.Outcomes.{Outcomes}
use Rattle.c_text.specs.Token.{PlainToken}
use Rattle.c_types.specs.Types.{PlainType}
use Rattle.c_tree.specs.Trees.{PlainTree}
use Rattle.core_meaning.specs.Checking.{Checked, fine, refused, broken}
use Rattle.core_meaning.specs.Entities.{Scope}
use Rattle.core_meaning.specs.Declarations.{innermost, is_new_local, one_local}
use Rattle.operand_types.specs.OperandTypes.{outcome_as, renumbered}
use Rattle.operand_rules.specs.declared.operands.Refused.{Refused}
use Rattle.statement_readings.specs.Walks.{is_refused}
use Rattle.type_tables.specs.Forms.{declared_type_form}
use Rattle.type_tables.specs.Tables.{Tables, local_named, is_in_block}
use Rattle.type_tables.specs.declared.entries.DeclaredType.{DeclaredType}
use Rattle.type_tables.specs.Follows.{IsThere, Follows, FollowsInBlock}
use Rattle.cond_declarators.specs.Types.{ShowsType, object_type_in}
use Rattle.cond_declarators.proofs.There.{objects_are_there}
use Rattle.conditional_steps.specs.Here as results
use Rattle.conditional_steps.specs.Here.{Here}
use Rattle.conditional_steps.proofs.Found.{not_both, are_both, neither}
use Rattle.cond_locals.specs.Declaring.{IsInitialiser, IsDeclared, GoesOn, Declares, name_of, local_in}
use Rattle.cond_locals.proofs.Locals.{new_comes, untyped_comes, known_comes, named_comes}

module _ (on : ℕ → Bool) (base : Outcomes DeclaredType Refused) (tree : PlainTree) (name : PlainToken) (initialiser : Option PlainTree) (old new : Tables) (when : Bool) where
  pub new_here :
      (types : Outcomes DeclaredType Refused) (untyped no_object found f : Bool) → f ≡ (no_object || found) → no_object ≡ (when && untyped)
      → ((x : judgements.Checked PlainType (Unit {0})) → ShowsType on x types → untyped ≡ results.is_refused x)
      → ((scope : Scope) (follows : Follows old scope) (ty : PlainType) → IsThere scope.structs ty → ShowsType on (judgements.fine (renumbered follows.by ty)) base
      → ShowsType on (outcome_as (renumbered follows.by) (object_type_in scope ty tree name initialiser)) types)
      → (when ≡ false → (new ≡ old) × (found ≡ false))
      → (when ≡ true → (ty : PlainType) → Stands on ty (alternatives declared_type_form types.fine) → IsDeclared ty name initialiser old new found)
      → Here when (Declares on base (λ scope slots ty. local_in scope slots ty tree name initialiser) (λ scope. (is_new_local scope name.text ≡ true) × IsInitialiser initialiser)) old new f
  new_here types untyped no_object found f is_f is_none refusals shows elsewhere declares = record {
    elsewhere = λ h. ((elsewhere h).0, neither no_object when untyped found f is_f is_none h (elsewhere h).1);
    does = λ h. record {
      goes_on = λ scope slots ty follows there shown ready. by h scope slots ty follows there ready (object_type_in scope ty tree name initialiser) refl (shows scope follows.follows ty there shown);
    };
  }
    where
      by : when ≡ true → (scope : Scope) (slots : List PlainType) (ty : PlainType) (follows : FollowsInBlock old scope) → IsThere scope.structs ty → (is_new_local scope name.text ≡ true) × IsInitialiser initialiser
          → (o : Checked PlainType) → object_type_in scope ty tree name initialiser ≡ o → ShowsType on (outcome_as (renumbered follows.follows.by) o) types
          → GoesOn follows.follows.by scope.structs (local_in scope slots ty tree name initialiser) f new
      by h scope slots ty follows there ready (fine whole bindings) is shown =
          new_comes scope slots ty name initialiser old new follows f tree whole bindings ready.0 is (objects_are_there scope ty there tree name initialiser whole bindings is) ready.1
          (subst (λ (b : Bool). IsDeclared (renumbered follows.follows.by whole) name initialiser old new b)
          (sym (not_both no_object when untyped found f is_f is_none h (refusals (judgements.fine (renumbered follows.follows.by whole)) shown)))
          (declares h (renumbered follows.follows.by whole) (record { held = shown.shown.held refl; carry = shown.shown.carry })))
      by h scope slots ty follows there ready (refused kind token) is shown =
          untyped_comes scope slots ty name initialiser follows.follows.by scope.structs new f tree (ap is_refused is)
          (are_both no_object when untyped found f is_f is_none h (refusals (judgements.refused tt) shown))
      by h scope slots ty follows there ready broken is shown =
          untyped_comes scope slots ty name initialiser follows.follows.by scope.structs new f tree (ap is_refused is)
          (are_both no_object when untyped found f is_f is_none h (refusals (judgements.refused tt) shown))

  is_known : (b : Bool) (x : Bool) → not x ≡ b → x ≡ not b
  is_known b true h = ap not h
  is_known b false h = ap not h

  pub named_here :
      (known again found f : Bool) → f ≡ (again || found) → again ≡ (when && known) → known ≡ is_in_block old.depth (local_named old.locals name.text)
      → Here when (Declares on base (λ scope slots ty. local_in scope slots ty tree name initialiser) (λ scope. (is_new_local scope name.text ≡ true) × IsInitialiser initialiser)) old new found
      → Here when (Declares on base (λ scope slots ty. local_in scope slots ty tree name initialiser) (λ scope. IsInitialiser initialiser)) old new f
  named_here known again found f is_f is_again is_block does = record {
    elsewhere = λ h. ((does.elsewhere h).0, neither again when known found f is_f is_again h (does.elsewhere h).1);
    does = λ h. record { goes_on = λ scope slots ty follows there shown derived. by h scope slots ty follows there shown derived (is_new_local scope name.text) refl };
  }
    where
      by : when ≡ true → (scope : Scope) (slots : List PlainType) (ty : PlainType) (follows : FollowsInBlock old scope) → IsThere scope.structs ty
          → ShowsType on (judgements.fine (renumbered follows.follows.by ty)) base → IsInitialiser initialiser → (b : Bool) → is_new_local scope name.text ≡ b
          → GoesOn follows.follows.by scope.structs (local_in scope slots ty tree name initialiser) f new
      by h scope slots ty follows there shown derived true fresh =
          subst (λ (b : Bool). GoesOn follows.follows.by scope.structs (local_in scope slots ty tree name initialiser) b new)
          (sym (not_both again when known found f is_f is_again h (is_block ∙ (sym (follows.innermost name.text) ∙ is_known true (is_some (innermost scope.blocks name.text)) fresh))))
          ((does.does h).goes_on scope slots ty follows there shown (fresh, derived))
      by h scope slots ty follows there shown derived false fresh =
          known_comes scope slots ty name initialiser follows.follows.by scope.structs new f tree fresh
          (are_both again when known found f is_f is_again h (is_block ∙ (sym (follows.innermost name.text) ∙ is_known false (is_some (innermost scope.blocks name.text)) fresh)))

  -- by the name in the declarator
  pub tree_here :
      (found : Bool) → name_of tree ≡ Some name
      → Here when (Declares on base (λ scope slots ty. local_in scope slots ty tree name initialiser) (λ scope. IsInitialiser initialiser)) old new found
      → Here when (Declares on base (λ scope slots ty. one_local scope slots ty tree initialiser) (λ scope. IsInitialiser initialiser)) old new found
  tree_here found is does = record {
    elsewhere = does.elsewhere;
    does = λ h. record {
      goes_on = λ scope slots ty follows there shown derived.
          named_comes scope slots ty name initialiser follows.follows.by scope.structs new found tree is ((does.does h).goes_on scope slots ty follows there shown derived);
    };
  }
