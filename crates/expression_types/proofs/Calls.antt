-- Calls are read as they are judged.
use Rattle.std.proofs.Common.{◌≡◌, ℕ, suc, Bool, true, false, List, [], ◌∷◌, refl, sym, ap, subst, ◌∙◌, length}
use Rattle.std.specs.Prelude.{◌||◌, ◌==◌, map, Option, Some, None, option_map, if◌then◌else◌}
use Rattle.std.proofs.lemmas.Bool.{false≢true, eqb-true, eq-eqb}
use Rattle.std.proofs.lemmas.List.{length-map}
use Rattle.c_text.specs.Token.{PlainToken}
use Rattle.c_types.specs.Types.{PlainType}
use Rattle.c_tree.specs.Trees.{PlainTree, PlainTrees, none, more}
use Rattle.core_meaning.specs.declared.refusals.TypeKind.TheVariants.{Incomplete, ArgumentCount, BadOperand}
use Rattle.core_meaning.specs.Program.{PlainExpression, PlainArguments, no_argument, argument}
use Rattle.core_meaning.specs.Checking.{Checked, fine, refused, broken, ◌>>=◌, give, unless_so, uses, file_entity}
use Rattle.core_meaning.specs.Entities.{Signature, Scope}
use Rattle.core_meaning.specs.Typing.{Operand, loaded, is_complete}
use Rattle.core_meaning.specs.Expressions as spec
use Rattle.core_meaning.specs.Expressions.{Callee, judged, judged_arguments}
use Rattle.conditional.specs.Judgements as seen
use Rattle.conditional.specs.Judgements.{bind}
use Rattle.choice_trees.specs.ChoiceTrees.{semicolon}
use Rattle.operand_types.specs.OperandTypes.{OperandType, renumbered, structs_for}
use Rattle.operand_types.specs.Operators.{fitted_type}
use Rattle.operand_types.specs.Laws.{OperatorsKeepTypes}
use Rattle.operand_types.proofs.Renumbered.{void_by, alike_for, complete_alike}
use Rattle.expression_types.specs.Known.{Known, value_type}
use Rattle.expression_types.specs.Reading as reading
use Rattle.expression_types.specs.Reading.{Read, read_expression}
use Rattle.expression_types.proofs.Sees.{SeesAs, sees_then, sees_nothing, sees_from, Comes}
use Rattle.expression_types.proofs.Numbers.{NullIsNumber}
use Rattle.expression_types.proofs.Expressions.{Anything, nothing, absent_null, form, Sees, called_as, IsTyped}

pub any_comes : {A : Type 0} (m : Checked A) → Comes Anything m
any_comes (fine x b) = tt
any_comes (refused kind token) = tt
any_comes broken = tt

none_after : {A B : Type 0} (c : seen.Checked A (Unit {0})) (f : A → seen.Checked B (Unit {0})) → ((x : A) → f x ≡ seen.refused tt) → bind c f ≡ seen.refused tt
none_after (seen.fine x) f h = h x
none_after (seen.refused why) f h = refl

-- too few or too many arguments fit nothing
pub none_fit : (types : List PlainType) (reads : List Read) → (length reads ≡ length types → ⊥) → reading.all_fit types reads ≡ seen.refused tt
none_fit [] [] h = absurd (h refl)
none_fit [] (r ∷ reads) h = refl
none_fit (ty ∷ types) [] h = refl
none_fit (ty ∷ types) (r ∷ reads) h = none_after (bind r.outcome (fitted_type semicolon ty)) (λ fits. reading.all_fit types reads) (λ fits. none_fit types reads (λ e. h (ap suc e)))

module _ (by : ℕ → ℕ) (scope : Scope) (known : Known) (laws : OperatorsKeepTypes by scope) where
  -- the expressions among arguments
  abbrev pub entries : PlainTrees → List Read
  entries none = []
  entries (more tree none) = read_expression known tree ∷ []
  entries (more tree (more comma rest)) = read_expression known tree ∷ entries rest

  abbrev pub ArgumentsTyped : PlainTrees → Type 0
  ArgumentsTyped parts = (types : List PlainType) (bracket : PlainToken) → length (entries parts) ≡ length types
      → SeesAs (nothing {A = PlainArguments}) (Anything {A = PlainArguments}) (judged_arguments scope types parts bracket) (reading.all_fit (map (renumbered by) types) (entries parts))

  passed_seen : (tree : PlainTree) (ty : PlainType) (at : PlainToken) → IsTyped by scope known tree
      → SeesAs (nothing {A = PlainExpression}) (Anything {A = PlainExpression}) (judged scope tree >>= (λ operand. spec.passed scope ty operand at)) (bind (read_expression known tree).outcome (fitted_type semicolon (renumbered by ty)))
  passed_seen tree ty at typed =
      sees_then (form by scope) NullIsNumber (nothing {A = PlainExpression}) (Anything {A = PlainExpression}) (judged scope tree) (read_expression known tree).outcome (λ operand. spec.passed scope ty operand at)
      (fitted_type semicolon (renumbered by ty)) typed.outcome
      (λ x h. sees_from (nothing {A = PlainExpression}) (Anything {A = PlainExpression}) (spec.passed scope ty x at) (fitted_type semicolon (renumbered by ty) (form by scope x)) (laws.fits at semicolon ty x) (any_comes (spec.passed scope ty x at)))

  pub last_seen : (tree : PlainTree) (ty : PlainType) (at : PlainToken) → IsTyped by scope known tree
      → SeesAs (nothing {A = PlainArguments}) (Anything {A = PlainArguments})
      (judged scope tree >>= (λ operand. spec.passed scope ty operand at >>= (λ core. give (argument core no_argument))))
      (bind (bind (read_expression known tree).outcome (fitted_type semicolon (renumbered by ty))) (λ fits. seen.fine (tt {0})))
  last_seen tree ty at typed =
      subst (λ z. SeesAs (nothing {A = PlainArguments}) (Anything {A = PlainArguments})
      (judged scope tree >>= (λ operand. spec.passed scope ty operand at >>= (λ core. give (argument core no_argument)))) z)
      (Rattle.expression_types.proofs.Sees.bind_assoc (read_expression known tree).outcome (fitted_type semicolon (renumbered by ty)) (λ fits. seen.fine (tt {0})))
      (sees_then (form by scope) NullIsNumber (nothing {A = PlainArguments}) (Anything {A = PlainArguments}) (judged scope tree) (read_expression known tree).outcome
      (λ operand. spec.passed scope ty operand at >>= (λ core. give (argument core no_argument))) (λ o. bind (fitted_type semicolon (renumbered by ty) o) (λ fits. seen.fine (tt {0}))) typed.outcome
      (λ x h. sees_then (nothing {A = PlainExpression}) (Anything {A = PlainExpression}) (nothing {A = PlainArguments}) (Anything {A = PlainArguments}) (spec.passed scope ty x at)
      (fitted_type semicolon (renumbered by ty) (form by scope x)) (λ core. give (argument core no_argument)) (λ fits. seen.fine (tt {0}))
      (sees_from (nothing {A = PlainExpression}) (Anything {A = PlainExpression}) (spec.passed scope ty x at) (fitted_type semicolon (renumbered by ty) (form by scope x)) (laws.fits at semicolon ty x) (any_comes (spec.passed scope ty x at)))
      (λ core g. (refl, tt))))

  pub more_seen : (tree : PlainTree) (ty : PlainType) (at : PlainToken) (others : Checked PlainArguments) (c : seen.Checked (Unit {0}) (Unit {0})) → IsTyped by scope known tree
      → SeesAs (nothing {A = PlainArguments}) (Anything {A = PlainArguments}) others c
      → SeesAs (nothing {A = PlainArguments}) (Anything {A = PlainArguments})
      (judged scope tree >>= (λ operand. spec.passed scope ty operand at >>= (λ core. others >>= (λ rest. give (argument core rest)))))
      (bind (bind (read_expression known tree).outcome (fitted_type semicolon (renumbered by ty))) (λ fits. c))
  more_seen tree ty at others c typed seen_so =
      subst (λ z. SeesAs (nothing {A = PlainArguments}) (Anything {A = PlainArguments})
      (judged scope tree >>= (λ operand. spec.passed scope ty operand at >>= (λ core. others >>= (λ rest. give (argument core rest))))) z)
      (Rattle.expression_types.proofs.Sees.bind_assoc (read_expression known tree).outcome (fitted_type semicolon (renumbered by ty)) (λ fits. c))
      (sees_then (form by scope) NullIsNumber (nothing {A = PlainArguments}) (Anything {A = PlainArguments}) (judged scope tree) (read_expression known tree).outcome
      (λ operand. spec.passed scope ty operand at >>= (λ core. others >>= (λ rest. give (argument core rest)))) (λ o. bind (fitted_type semicolon (renumbered by ty) o) (λ fits. c)) typed.outcome
      (λ x h. sees_then (nothing {A = PlainExpression}) (Anything {A = PlainExpression}) (nothing {A = PlainArguments}) (Anything {A = PlainArguments}) (spec.passed scope ty x at)
      (fitted_type semicolon (renumbered by ty) (form by scope x)) (λ core. others >>= (λ rest. give (argument core rest))) (λ fits. c)
      (sees_from (nothing {A = PlainExpression}) (Anything {A = PlainExpression}) (spec.passed scope ty x at) (fitted_type semicolon (renumbered by ty) (form by scope x)) (laws.fits at semicolon ty x) (any_comes (spec.passed scope ty x at)))
      (λ core g. kept_by core)))
    where
      kept_by : (core : PlainExpression) → SeesAs (nothing {A = PlainArguments}) (Anything {A = PlainArguments}) (others >>= (λ rest. give (argument core rest))) c
      kept_by core = as_before others c seen_so
        where
          as_before : (m : Checked PlainArguments) (d : seen.Checked (Unit {0}) (Unit {0})) → SeesAs (nothing {A = PlainArguments}) (Anything {A = PlainArguments}) m d
              → SeesAs (nothing {A = PlainArguments}) (Anything {A = PlainArguments}) (m >>= (λ rest. give (argument core rest))) d
          as_before (fine x b) (seen.fine o) r = (r.0, tt)
          as_before (fine x b) (seen.refused why) r = r
          as_before (refused kind token) (seen.fine o) r = r
          as_before (refused kind token) (seen.refused why) r = tt
          as_before broken (seen.fine o) r = r
          as_before broken (seen.refused why) r = tt

  -- ---- the call

  result_is : (signature : Signature) → reading.is_result (value_type by scope signature.result) ≡ (spec.is_void signature.result || is_complete scope.structs signature.result)
  result_is signature =
      rw (void_by by signature.result) (rw (complete_alike by scope.structs (structs_for (value_type by scope signature.result)) signature.result (alike_for by scope.structs signature.result)) refl)

  abbrev result_of : Callee → PlainToken → PlainArguments → Operand
  result_of f bracket arguments = spec.result_of_call scope f bracket arguments

  module _ (f : Callee) (bracket : PlainToken) (count : ℕ) (given : Checked PlainArguments) (reads : List Read) (as_many : length reads ≡ count)
      (fit : count ≡ length f.signature.parameters → SeesAs (nothing {A = PlainArguments}) (Anything {A = PlainArguments}) given (reading.all_fit (map (renumbered by) f.signature.parameters) reads)) where
    abbrev read_result : seen.Checked OperandType (Unit {0})
    read_result = bind (reading.all_fit (map (renumbered by) f.signature.parameters) reads) (λ fits. seen.fine (value_type by scope f.signature.result))

    counted : (b : Bool) → (count == length f.signature.parameters) ≡ b
        → Sees by scope (unless_so b ArgumentCount bracket >>= (λ callable. given >>= (λ arguments. give (result_of f bracket arguments)))) read_result
    counted true h = given_seen given (reading.all_fit (map (renumbered by) f.signature.parameters) reads) (fit (eqb-true count (length f.signature.parameters) h))
      where
        given_seen : (m : Checked PlainArguments) (d : seen.Checked (Unit {0}) (Unit {0})) → SeesAs (nothing {A = PlainArguments}) (Anything {A = PlainArguments}) m d
            → Sees by scope (unless_so true ArgumentCount bracket >>= (λ callable. m >>= (λ arguments. give (result_of f bracket arguments)))) (bind d (λ fits. seen.fine (value_type by scope f.signature.result)))
        given_seen (fine x b) (seen.fine o) r = (refl, absent_null)
        given_seen (fine x b) (seen.refused why) r = r
        given_seen (refused kind token) (seen.fine o) r = r
        given_seen (refused kind token) (seen.refused why) r = tt
        given_seen broken (seen.fine o) r = r
        given_seen broken (seen.refused why) r = tt
    counted false h =
        subst (λ d. Sees by scope (refused ArgumentCount bracket) (bind d (λ fits. seen.fine (value_type by scope f.signature.result))))
        (sym (none_fit (map (renumbered by) f.signature.parameters) reads other)) tt
      where
        other : length reads ≡ length (map (renumbered by) f.signature.parameters) → ⊥
        other e = false≢true (sym h ∙ eq-eqb count (length f.signature.parameters) (sym as_many ∙ e ∙ length-map f.signature.parameters (renumbered by)))

    tests : (b c : Bool) → (count == length f.signature.parameters) ≡ c
        → Sees by scope ((unless_so b Incomplete bracket >>= (λ complete. unless_so c ArgumentCount bracket)) >>= (λ callable. given >>= (λ arguments. give (result_of f bracket arguments))))
        (if b then read_result else reading.no_outcome)
    tests true true h = counted true h
    tests true false h = counted false h
    tests false c h = tt

    callable_seen : Sees by scope (spec.may_be_called scope f.signature count bracket >>= (λ callable. given >>= (λ arguments. give (result_of f bracket arguments)))) (reading.called (Some (called_as by scope f)) reads)
    callable_seen =
        subst (λ b. Sees by scope (spec.may_be_called scope f.signature count bracket >>= (λ callable. given >>= (λ arguments. give (result_of f bracket arguments)))) (if b then read_result else reading.no_outcome))
        (sym (result_is f.signature)) (tests (spec.is_void f.signature.result || is_complete scope.structs f.signature.result) (count == length f.signature.parameters) refl)

    pub function_seen : Sees by scope (uses (file_entity f.name.text) >>= (λ bound. spec.may_be_called scope f.signature count bracket >>= (λ callable. given >>= (λ arguments. give (result_of f bracket arguments)))))
        (reading.called (Some (called_as by scope f)) reads)
    function_seen =
        sees_then (nothing {A = Unit {0}}) (Anything {A = Unit {0}}) (form by scope) NullIsNumber (uses (file_entity f.name.text)) (seen.fine (tt {0}))
        (λ bound. spec.may_be_called scope f.signature count bracket >>= (λ callable. given >>= (λ arguments. give (result_of f bracket arguments))))
        (λ bound. reading.called (Some (called_as by scope f)) reads) (refl, tt) (λ x h. callable_seen)

  -- what is called, if it is a function
  abbrev call_of : Option Callee → PlainTree → PlainToken → (Callee → Checked Operand) → Checked Operand
  call_of c first bracket so_called = elim c as (λ x. Checked Operand) [
    | Some f ↦ so_called f
    | None ↦ judged scope first >>= (λ operand. loaded scope operand >>= (λ x. refused BadOperand bracket))
  ]

  pub call_seen : (first : PlainTree) (bracket : PlainToken) (so_called : Callee → Checked Operand) (reads : List Read)
      → ((f : Callee) → Sees by scope (so_called f) (reading.called (Some (called_as by scope f)) reads)) → (c : Option Callee)
      → Sees by scope (call_of c first bracket so_called) (reading.called (option_map (called_as by scope) c) reads)
  call_seen first bracket so_called reads seen_so (Some f) = seen_so f
  call_seen first bracket so_called reads seen_so None =
      sees_nothing (form by scope) NullIsNumber (judged scope first) (λ operand. loaded scope operand >>= (λ x. refused BadOperand bracket))
      (λ operand. sees_nothing (form by scope) NullIsNumber (loaded scope operand) (λ x. refused BadOperand bracket) (λ x. tt))
