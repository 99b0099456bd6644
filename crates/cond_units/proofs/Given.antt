-- What is given or not.
use Rattle.std.proofs.Common.{◌≡◌, ℕ, Bool, [], sym, refl, subst}
use Rattle.std.specs.Prelude.{Option, Some, None, option_map, is_some}
use Rattle.c_text.specs.Token.{PlainToken}
use Rattle.c_types.specs.Types.{PlainType}
use Rattle.c_tree.specs.Trees.{PlainTree}
use Rattle.c_tree.specs.Grammar as grammar
use Rattle.tree_derivations.specs.Derivations.{Derivation}
use Rattle.core_meaning.specs.Entities.{Scope}
use Rattle.core_meaning.specs.Constancy.{initial}
use Rattle.statement_readings.specs.Walks.{is_refused}
use Rattle.cond_units.specs.Values.{is_value_refused}
use Rattle.cond_units.specs.Declaring.{IsInitialiser}

pub value_given : {A : Type 0} (form : A → PlainTree) (given : Option A) (item : A) → given ≡ Some item → (scope : Scope) (globals : ℕ) (ty : PlainType) (name : PlainToken) (found : Bool)
    → (Derivation grammar.initialiser (form item) → found ≡ is_refused (initial scope (Some globals) ty [] (form item) name)) → IsInitialiser (option_map form given)
    → found ≡ is_value_refused scope globals ty name (option_map form given)
value_given form given item is scope globals ty name found h =
    subst (λ o. IsInitialiser (option_map form o) → found ≡ is_value_refused scope globals ty name (option_map form o)) (sym is) h

pub still_given : {A B : Type 0} (form : A → B) (given : Option A) → is_some given ≡ is_some (option_map form given)
still_given form None = refl
still_given form (Some x) = refl
