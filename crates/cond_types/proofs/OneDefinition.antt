-- The definition of a function by its words.
use Rattle.std.proofs.Common.{◌≡◌, ℕ, Bool, true, false, ◌&&◌, ◌||◌, List, refl, sym, subst}
use Rattle.conditional.specs.Judgements as judgements
use Rattle.conditional.specs.declared.outcomes.Outcomes.{Outcomes}
use Rattle.conditional_steps.specs.Here.{is_refused}
use Rattle.conditional_steps.proofs.Found.{not_both, are_both, neither}
use Rattle.c_types.specs.Types.{PlainType}
use Rattle.c_tree.specs.Grammar.{block}
use Rattle.c_tree.specs.Trees.{PlainTree, leaf, node}
use Rattle.tree_derivations.specs.Derivations.{Derivation}
use Rattle.core_meaning.specs.Checking.{Checked, fine, refused, broken, ◌>>=◌}
use Rattle.core_meaning.specs.Entities.{Struct, Scope}
use Rattle.core_meaning.specs.Declarations.{Based}
use Rattle.core_meaning.specs.UnitNames.{UnitState}
use Rattle.operand_types.specs.OperandTypes.{outcome_as, renumbered}
use Rattle.operand_rules.specs.declared.operands.Refused.{Refused}
use Rattle.type_tables.specs.declared.entries.DeclaredType.{DeclaredType}
use Rattle.type_tables.specs.Follows.{IsThere, Follows}
use Rattle.cond_declarators.specs.Types.{ShowsType, based_in, base_type}
use Rattle.cond_declarators.proofs.There.{bases_are_there}
use Rattle.cond_locals.proofs.OneDeclaration.{IsSame, words_same}
use Rattle.cond_units.specs.Seen.{SeenUnit}
use Rattle.cond_units.specs.Declaring.{IsUnit, GoesOn, Declares}
use Rattle.cond_units.specs.Functions.{IsFunctionDeclarator, judged_declarator}
use Rattle.cond_units.specs.Where.{Where}
use Rattle.cond_units.specs.Names.{storage_in}
use Rattle.cond_units.specs.Items.{ItemGoesOn, DeclaresItem}
use Rattle.cond_units.proofs.Declaring.{item_still}
use Rattle.cond_types.specs.Definitions.{definition_of, IsDefinition, definition_of_head}

-- the words declare no struct
goes_on_as_item : (by : ℕ → ℕ) (structs : List Struct) (next : Checked UnitState) (f : Bool) (seen : SeenUnit) → GoesOn by structs next f seen → ItemGoesOn by structs next f seen
goes_on_as_item by structs (fine unit bindings) f seen h = (h.0, record { numbers = by; is_unit = h.1; kept = λ n s e. refl })
goes_on_as_item by structs (refused kind token) f seen h = h
goes_on_as_item by structs broken f seen h = h

-- it is judged by the storage and the type that the words say
by_its_words : (words declarator body : PlainTree) (unit : UnitState) → IsFunctionDeclarator declarator
    → definition_of words declarator body unit ≡ (based_in false unit.scope words >>= (λ base. judged_declarator (definition_of_head (storage_in words) body) declarator unit base.ty))
by_its_words (leaf token) declarator body unit is = refl
by_its_words (node words_kind words) (node kind parts) body unit is = refl
by_its_words (node words_kind words) (leaf token) body unit is = elim is [ ]

module _ (on : ℕ → Bool) (base : Outcomes DeclaredType Refused) (words declarator body : PlainTree) (old new : SeenUnit) (when untyped no_type found f : Bool)
    (is_f : f ≡ (no_type || found)) (is_none : no_type ≡ (when && untyped))
    (refusals : (x : judgements.Checked PlainType (Unit {0})) → ShowsType on x base → untyped ≡ is_refused x)
    (shows : (scope : Scope) (follows : Follows old.tables scope) → ShowsType on (outcome_as (base_type follows.by) (based_in false scope words)) base)
    (does : Where when (Declares on base (judged_declarator (definition_of_head (storage_in words) body) declarator) (IsFunctionDeclarator declarator × Derivation block body)) old new found) where
  by_type : when ≡ true → (by : ℕ → ℕ) (unit : UnitState) (u : IsUnit by old unit) → IsDefinition declarator body → (c : Checked Based) → based_in false unit.scope words ≡ c
      → ShowsType on (outcome_as (base_type u.tables.follows.by) c) base
      → ItemGoesOn by unit.scope.structs (c >>= (λ base. judged_declarator (definition_of_head (storage_in words) body) declarator unit base.ty)) f new
  by_type h by unit u ready (fine b bindings) is shown =
      let next : Checked UnitState = judged_declarator (definition_of_head (storage_in words) body) declarator unit b.ty in
      item_still by unit.scope.structs bindings next f new
      (goes_on_as_item by unit.scope.structs next f new
      (subst (λ (r : Bool). GoesOn by unit.scope.structs next r new) (sym (not_both no_type when untyped found f is_f is_none h (refusals _ shown)))
      ((does.does h).goes_on by unit b.ty u
      (subst (λ (s : Scope). IsThere s.structs b.ty) (subst (IsSame unit.scope) is (words_same unit.scope words)) (bases_are_there false old.tables unit.scope u.tables.follows words b bindings is))
      (subst (λ (n : ℕ → ℕ). ShowsType on (judgements.fine (renumbered n b.ty)) base) u.tables.numbers shown) (ready.declares, ready.has_block))))
  by_type h by unit u ready (refused kind token) is shown = are_both no_type when untyped found f is_f is_none h (refusals (judgements.refused tt) shown)
  by_type h by unit u ready broken is shown = are_both no_type when untyped found f is_f is_none h (refusals (judgements.refused tt) shown)

  pub defined_here : Where when (DeclaresItem (definition_of words declarator body) (IsDefinition declarator body)) old new f
  defined_here = record {
    elsewhere = λ h. let none = does.elsewhere h in (none.0, neither no_type when untyped found f is_f is_none h none.1);
    does = λ h. record {
      goes_on = λ by unit u ready.
          subst (λ (c : Checked UnitState). ItemGoesOn by unit.scope.structs c f new) (sym (by_its_words words declarator body unit ready.declares))
          (by_type h by unit u ready (based_in false unit.scope words) refl (shows unit.scope u.tables.follows));
    };
  }
