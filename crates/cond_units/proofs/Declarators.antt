-- One declarator at file scope: a function's or an object's.
use Rattle.std.proofs.Common.{◌≡◌, ℕ, Bool, true, false, refl, sym, subst}
use Rattle.std.specs.Prelude.{Option}
use Rattle.c_types.specs.Types.{PlainType}
use Rattle.c_tree.specs.declared.kinds.Kind.TheVariants as k
use Rattle.c_tree.specs.Trees.{PlainTree, PlainTrees, leaf, node}
use Rattle.c_tree.specs.Grammar.{Role, declarator}
use Rattle.tree_derivations.specs.Derivations.{Derivation}
use Rattle.conditional.specs.declared.outcomes.Outcomes.{Outcomes}
use Rattle.conditional_steps.specs.Here.{Here}
use Rattle.operand_rules.specs.declared.operands.Refused.{Refused}
use Rattle.type_tables.specs.declared.entries.DeclaredType.{DeclaredType}
use Rattle.declarator_lists.specs.Lists.{declared}
use Rattle.core_meaning.specs.UnitNames.{Storage, UnitState, declared_one}
use Rattle.cond_units.specs.Seen.{SeenUnit}
use Rattle.cond_units.specs.Declaring.{IsUnit, GoesOn, IsInitialiser, object_in, Declares}
use Rattle.cond_units.specs.Functions.{IsFunctionDeclarator, of_function, function_in}
use Rattle.cond_units.specs.Where.{Where}
use Rattle.cond_units.specs.Names.{is_function, one_name, IsReady}

same_object : (globals : ℕ) (storage : Storage) (tree : PlainTree) (initialiser : Option PlainTree) (rest : PlainTrees) (unit : UnitState) (ty : PlainType) → is_function tree ≡ false
    → object_in globals storage tree initialiser rest unit ty ≡ declared_one globals unit storage ty tree initialiser rest
same_object globals storage (leaf token) initialiser rest unit ty h = refl
same_object globals storage (node k.FunctionDeclarator parts) initialiser rest unit ty h = absurd cc
same_object globals storage (node kind parts) initialiser rest unit ty h = refl

same_function : (globals : ℕ) (storage : Storage) (tree : PlainTree) (initialiser : Option PlainTree) (rest : PlainTrees) (unit : UnitState) (ty : PlainType) → is_function tree ≡ true
    → function_in storage tree initialiser unit ty ≡ declared_one globals unit storage ty tree initialiser rest
same_function globals storage (leaf token) initialiser rest unit ty h = absurd cc
same_function globals storage (node k.FunctionDeclarator parts) initialiser rest unit ty h = refl
same_function globals storage (node kind parts) initialiser rest unit ty h = absurd cc

is_declarator : {role : Role} (tree : PlainTree) → is_function tree ≡ true → Derivation (declarator role) tree → IsFunctionDeclarator tree
is_declarator (leaf token) h d = absurd cc
is_declarator (node k.FunctionDeclarator parts) h d = of_function d
is_declarator (node kind parts) h d = absurd cc

module _ (on : ℕ → Bool) (base : Outcomes DeclaredType Refused) (globals : ℕ) (storage : Storage) (rest : PlainTrees) (role : Role) (tree : PlainTree) (initialiser : Option PlainTree)
    (old new : SeenUnit) (when refused : Bool) where
  abbrev pub Named : Type 0
  Named = Where when (Declares on base (one_name globals storage rest (declared tree initialiser)) (IsReady role (declared tree initialiser))) old new refused

  pub object_named : is_function tree ≡ false → Here when (Declares on base (object_in globals storage tree initialiser rest) (IsInitialiser initialiser)) old new refused → Named
  object_named is does = record {
    elsewhere = λ h. let none = does.elsewhere h in (record { stays = λ by unit u. subst (λ (s : SeenUnit). IsUnit by s unit) (sym none.0) u }, none.1);
    does = λ h. record {
      goes_on = λ by unit ty u there shown ready.
          subst (λ c. GoesOn by unit.scope.structs c refused new) (same_object globals storage tree initialiser rest unit ty is) ((does.does h).goes_on by unit ty u there shown ready.initialised);
    };
  }

  pub function_named : is_function tree ≡ true → Where when (Declares on base (function_in storage tree initialiser) (IsFunctionDeclarator tree)) old new refused → Named
  function_named is does = record {
    elsewhere = λ h. does.elsewhere h;
    does = λ h. record {
      goes_on = λ by unit ty u there shown ready.
          subst (λ c. GoesOn by unit.scope.structs c refused new) (same_function globals storage tree initialiser rest unit ty is) ((does.does h).goes_on by unit ty u there shown (is_declarator tree is ready.declares));
    };
  }
