-- What comes of one declarator of a function: by its list, its name and its kind.
use Rattle.std.proofs.Common.{◌≡◌, ℕ, Bool, true, false, not, List, [], refl, sym, ◌∙◌, subst}
use Rattle.std.specs.Prelude.{Option, Some, None, is_some}
use Rattle.conditional.specs.Entries.{alternatives, Stands}
use Rattle.conditional.specs.declared.outcomes.Outcomes.{Outcomes}
use Rattle.c_text.specs.Token.{PlainToken}
use Rattle.c_types.specs.Types.{PlainType}
use Rattle.c_tree.specs.declared.kinds.Kind.{Kind}
use Rattle.c_tree.specs.declared.terminals.Terminal.TheVariants as t
use Rattle.c_tree.specs.Heights.{count_stars}
use Rattle.c_tree.specs.Trees.{PlainTree, PlainTrees, leaf, node}
use Rattle.core_meaning.specs.declared.refusals.TypeKind.TheVariants.{BadOperand}
use Rattle.core_meaning.specs.Checking.{Binding, file_entity, Checked, fine, refused, broken, with_bindings, ◌>>=◌, give, unless_so, declares, or_broken}
use Rattle.core_meaning.specs.Entities.{Struct, function}
use Rattle.core_meaning.specs.Declarations.{name_in, behind_word, pointers}
use Rattle.core_meaning.specs.UnitNames.{Storage, UnitState, with_name, with_scope, signature_of, refused_initialiser, new_function, declared_function}
use Rattle.operand_types.specs.OperandTypes.{renumbered}
use Rattle.operand_rules.specs.declared.operands.Refused.{Refused}
use Rattle.type_tables.specs.Forms.{declared_type_form}
use Rattle.type_tables.specs.declared.entries.DeclaredType.{DeclaredType}
use Rattle.cond_parameters.specs.Parameters.{IsList}
use Rattle.cond_units.specs.Seen.{SeenUnit}
use Rattle.cond_units.specs.Declaring.{GoesOn, Judged, DeclaresTyped, Declares}
use Rattle.cond_units.proofs.OneObjectDeclarator.{goes_still}
use Rattle.cond_units.specs.Functions.{IsFunctionDeclarator, HasList, JudgedHead, judged_parts, judged_declarator, function_of_head, function_in}
use Rattle.cond_units.specs.Where.{Stays, Where}
use Rattle.cond_units.proofs.ParameterLists.{declarator_has_list}

some_same : (x y : PlainTree) → Some x ≡ Some y → x ≡ y
some_same x y e = cc

module _ (on : ℕ → Bool) (base : Outcomes DeclaredType Refused) (old new : SeenUnit) (when declined : Bool) where
  -- by the types before it
  pub listed_here : (judged : Judged) (Ready : Type 0) → (when ≡ false → Stays old new × (declined ≡ false))
      → (when ≡ true → (ty : PlainType) → Stands on ty (alternatives declared_type_form base.fine) → DeclaresTyped ty judged Ready old new declined)
      → Where when (Declares on base judged Ready) old new declined
  listed_here judged Ready elsewhere declares = record {
    elsewhere = elsewhere;
    does = λ h. record {
      goes_on = λ by unit ty is there shown ready.
          (declares h (renumbered by ty) (record { held = shown.shown.held refl; carry = shown.shown.carry })).goes_on by unit ty is refl there ready;
    };
  }

  module _ (judged : JudgedHead) (Extra : Type 0) (parts : PlainTrees) where
    -- by its list
    pub named_here : (name : PlainToken) (list : PlainTree) → Some list ≡ behind_word t.OpenParenthesis parts
        → Where when (Declares on base (judged (count_stars parts) name (Some list)) (IsList list × Extra)) old new declined
        → Where when (Declares on base (λ unit ty. judged (count_stars parts) name (behind_word t.OpenParenthesis parts) unit ty) (HasList parts × Extra)) old new declined
    named_here name list e does = record {
      elsewhere = does.elsewhere;
      does = λ h. record {
        goes_on = λ by unit ty is there shown ready.
            subst (λ (o : Option PlainTree). GoesOn by unit.scope.structs (judged (count_stars parts) name o unit ty) declined new) e
            ((does.does h).goes_on by unit ty is there shown (subst IsList (sym (some_same list ready.0.list (e ∙ ready.0.behind))) ready.0.is_list, ready.1));
      };
    }

    -- by its name
    pub parts_here : (name : PlainToken) → Some name ≡ name_in parts
        → Where when (Declares on base (λ unit ty. judged (count_stars parts) name (behind_word t.OpenParenthesis parts) unit ty) (HasList parts × Extra)) old new declined
        → Where when (Declares on base (judged_parts judged parts) (HasList parts × Extra)) old new declined
    parts_here name e does = record {
      elsewhere = does.elsewhere;
      does = λ h. record {
        goes_on = λ by unit ty is there shown ready.
            subst (λ o. GoesOn by unit.scope.structs (or_broken o >>= (λ name. judged (count_stars parts) name (behind_word t.OpenParenthesis parts) unit ty)) declined new) e
            (goes_still by unit.scope.structs [] _ declined new ((does.does h).goes_on by unit ty is there shown ready));
      };
    }

    -- by its kind
    pub node_here : (kind : Kind) → Where when (Declares on base (judged_parts judged parts) (HasList parts × Extra)) old new declined
        → Where when (Declares on base (judged_declarator judged (node kind parts)) (IsFunctionDeclarator (node kind parts) × Extra)) old new declined
    node_here kind does = record {
      elsewhere = does.elsewhere;
      does = λ h. record { goes_on = λ by unit ty is there shown ready. (does.does h).goes_on by unit ty is there shown (declarator_has_list ready.0, ready.1) };
    }

-- ---- a declarator that defines nothing

module _ (by : ℕ → ℕ) (structs : List Struct) (declined : Bool) (new : SeenUnit) where
  goes_on_behind : {A : Type 0} (first : Checked A) (f g : A → Checked UnitState) → ((x : A) → GoesOn by structs (f x) declined new → GoesOn by structs (g x) declined new)
      → GoesOn by structs (first >>= f) declined new → GoesOn by structs (first >>= g) declined new
  goes_on_behind (fine x bindings) f g each h = goes_still by structs bindings (g x) declined new (each x (goes_on_before bindings (f x) h))
    where
      goes_on_before : (before : List Binding) (next : Checked UnitState) → GoesOn by structs (with_bindings before next) declined new → GoesOn by structs next declined new
      goes_on_before before (fine unit bindings) h = h
      goes_on_before before (refused kind token) h = h
      goes_on_before before broken h = h
  goes_on_behind (refused kind token) f g each h = h
  goes_on_behind broken f g each h = h

  given_or_not : (name : PlainToken) (unit : UnitState) (initialiser : Option PlainTree) (initialised : Bool) → is_some initialiser ≡ initialised
      → GoesOn by structs (unless_so (not initialised) BadOperand name >>= (λ u. give unit)) declined new
      → GoesOn by structs (refused_initialiser initialiser name >>= (λ u. give unit)) declined new
  given_or_not name unit None false e h = h
  given_or_not name unit None true e h = absurd cc
  given_or_not name unit (Some tree) true e h = h
  given_or_not name unit (Some tree) false e h = absurd cc

  -- its head says what it declares
  pub head_declares : (storage : Storage) (unit : UnitState) (ty : PlainType) (tree : PlainTree) (initialiser : Option PlainTree) (initialised : Bool) → is_some initialiser ≡ initialised
      → GoesOn by structs (judged_declarator (function_of_head storage initialised) tree unit ty) declined new → GoesOn by structs (function_in storage tree initialiser unit ty) declined new
  head_declares storage unit ty (leaf token) initialiser initialised e h = h
  head_declares storage unit ty (node kind parts) initialiser initialised e h =
      goes_on_behind (or_broken (name_in parts)) (λ name. function_of_head storage initialised (count_stars parts) name (behind_word t.OpenParenthesis parts) unit ty) (λ name. declared_function unit storage ty parts name initialiser)
      (λ name. goes_on_behind (declares (file_entity name.text)) _ _
      (λ u. goes_on_behind (new_function false unit.scope storage (pointers (count_stars parts) ty) parts name) _ _
      (λ ps. goes_on_behind (with_name unit.scope name (function (signature_of (pointers (count_stars parts) ty) ps)) storage) _ _
      (λ scope. given_or_not name (with_scope unit scope) initialiser initialised e)))) h
