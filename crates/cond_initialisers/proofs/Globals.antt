-- What expressions give an object of file scope is refused by types and by what is constant.
use Rattle.std.proofs.Common.{◌≡◌, ℕ, Bool, true, false, not, ◌||◌, List, [], ◌∷◌, ◌++◌, refl, sym, ap, subst, ◌∙◌}
use Rattle.std.specs.Prelude.{Option, Some, None, is_some}
use Rattle.c_text.specs.Token.{PlainToken}
use Rattle.c_types.specs.Types.{PlainType, array_of}
use Rattle.c_tree.specs.Trees.{PlainTree}
use Rattle.c_tree.specs.Grammar.{expression}
use Rattle.tree_derivations.specs.Derivations.{Derivation}
use Rattle.core_meaning.specs.declared.refusals.TypeKind.TheVariants.{BadOperand, BadConstant}
use Rattle.core_meaning.specs.Program.{PlainExpression}
use Rattle.core_meaning.specs.Values.{Path}
use Rattle.core_meaning.specs.Checking.{Binding, Checked, fine, refused, broken, with_bindings, ◌>>=◌, give, unless_so, found_or}
use Rattle.core_meaning.specs.Entities.{Scope}
use Rattle.core_meaning.specs.Typing.{Operand, Typed, loaded, fits_into}
use Rattle.core_meaning.specs.Expressions.{judged, valued}
use Rattle.core_meaning.specs.Constancy.{value_if_constant, first_scalar, is_allowed, value_initial, Initial}
use Rattle.conditional.specs.Judgements.{bind}
use Rattle.operand_types.specs.OperandTypes.{renumbered, scope_with, type_of_operand, outcome_as}
use Rattle.operand_types.specs.Laws.{operand_seen}
use Rattle.operand_rules.specs.PlainOperandTypes.{accepted}
use Rattle.expression_types.specs.Known.{Known}
use Rattle.expression_types.specs.Reading.{read_expression}
use Rattle.statement_readings.specs.Walks.{is_refused}
use Rattle.cond_initialisers.specs.Refusals.{is_refusal, by_types}
use Rattle.cond_initialisers.specs.Laws.{AreRefused}
use Rattle.cond_initialisers.proofs.Refused.{refused_with}
use Rattle.cond_initialisers.specs.declared.forms.Form.{Form}
use Rattle.cond_initialisers.specs.Forms.{form_of}
use Rattle.cond_initialisers.specs.Constants.{is_number, has_number, is_array, an_array, gives_address, by_constants}
use Rattle.cond_initialisers.proofs.Each.{Each}
use Rattle.cond_initialisers.proofs.Addresses.{HasForm, designates_by_form}
use Rattle.cond_initialisers.proofs.Values.{HasValue, loaded_form, first_of_fitted}
use Rattle.cond_initialisers.proofs.Anywhere.{numbers_need_no_names}

-- ---- arrays

accepted_so : (b : Bool) → not (is_refusal (accepted b)) ≡ b
accepted_so true = refl
accepted_so false = refl

array_same : (by : ℕ → ℕ) (ty : PlainType) → is_array (renumbered by ty) ≡ is_array ty
array_same by (array_of element count) = refl
array_same by ty = refl

-- ---- values

module _ (by : ℕ → ℕ) (scope : Scope) (g : ℕ) (ty : PlainType) (path : Path) (first : PlainToken) where
  abbrev kept : Option ℕ → PlainExpression → Checked (List Initial)
  kept globals core = unless_so (is_allowed scope globals core) BadConstant first >>= (λ allowed. give (record { path = path; value = core; first = first } ∷ []))

  abbrev given : Option ℕ → Typed → Checked (List Initial)
  given globals x = found_or (fits_into ty x) BadOperand first >>= kept globals

  kept_if : (core : PlainExpression) (b constant : Bool) → b ≡ constant
      → is_refused {A = List Initial} (with_bindings [] (unless_so b BadConstant first >>= (λ allowed. give (record { path = path; value = core; first = first } ∷ []))))
      ≡ (is_refused (with_bindings [] (kept None core)) || not constant)
  kept_if core true constant e = ap not e
  kept_if core false constant e = ap not e

  found_kept : (o : Option PlainExpression) (constant : Bool) → ((core : PlainExpression) → o ≡ Some core → is_some (first_scalar g core) ≡ constant)
      → is_refused (found_or o BadOperand first >>= kept (Some g)) ≡ (is_refused (found_or o BadOperand first >>= kept None) || not constant)
  found_kept None constant same = refl
  found_kept (Some core) constant same = kept_if core (is_some (first_scalar g core)) constant (same core refl)

  given_same : (v : Typed) (names_array : Bool) (f : Form) → HasValue f names_array v
      → is_refused (given (Some g) v) ≡ (is_refused (given None v) || not (is_some (value_if_constant v.core) || gives_address names_array f))
  given_same v names_array f is =
      found_kept (fits_into ty v) (is_some (value_if_constant v.core) || gives_address names_array f)
      (λ core e. first_of_fitted g ty v is.fits is.null core e ∙ ap (λ b. is_some (value_if_constant v.core) || b) is.form)

  value_same : (l : Checked Typed) (bindings : List Binding) (names_array : Bool) (f : Form) → Each (HasValue f names_array) l
      → is_refused (with_bindings bindings l >>= given (Some g)) ≡ (is_refused (with_bindings bindings l >>= given None) || not (is_number (with_bindings bindings l) || gives_address names_array f))
  value_same (fine v others) bindings names_array f is =
      refused_with (bindings ++ others) (given (Some g) v)
      ∙ (given_same v names_array f is
      ∙ ap (λ b. b || not (is_some (value_if_constant v.core) || gives_address names_array f)) (sym (refused_with (bindings ++ others) (given None v))))
  value_same (refused kind token) bindings names_array f is = refl
  value_same broken bindings names_array f is = refl

  -- an operand of an array type
  abbrev of_array : Checked Operand → Bool
  of_array m = not (is_refusal (bind (outcome_as (type_of_operand by scope.structs) m) an_array))

  operand_same : (m : Checked Operand) (f : Form) → Each (HasForm f) m
      → is_refused ((m >>= loaded scope) >>= given (Some g)) ≡ (is_refused ((m >>= loaded scope) >>= given None) || not (is_number (m >>= loaded scope) || gives_address (of_array m) f))
  operand_same (fine x bindings) f is =
      value_same (loaded scope x) bindings (is_array x.ty) f
      (subst (λ h. Each (HasValue h (is_array x.ty)) (loaded scope x)) is.form (loaded_form scope.structs x x.ty x.designates is.fits is.null))
      ∙ ap (λ b. is_refused (with_bindings bindings (loaded scope x) >>= given None) || not (is_number (with_bindings bindings (loaded scope x)) || gives_address b f))
      (sym (accepted_so (is_array (renumbered by x.ty)) ∙ array_same by x.ty))
  operand_same (refused kind token) f is = refl
  operand_same broken f is = refl

-- ---- expressions

module _ (by : ℕ → ℕ) (scope : Scope) (known : Known) (outside : scope.blocks ≡ [])
    (types : (level : ℕ) (tree : PlainTree) → Derivation (expression level) tree → (read_expression known tree).outcome ≡ operand_seen by scope (judged scope tree))
    (locals : AreRefused by scope None (by_types known)) (g : ℕ) where
  values_same : (level : ℕ) (tree : PlainTree) → Derivation (expression level) tree → (ty : PlainType) (path : Path) (first : PlainToken)
      → (by_constants known).unfit tree (renumbered by ty) ≡ is_refused (value_initial scope (Some g) ty path tree first)
  values_same level tree d ty path first =
      ap (λ b. b || not (has_number tree || gives_address (not (is_refusal (bind (read_expression known tree).outcome an_array))) (form_of tree))) (locals.values level tree d ty path first)
      ∙ (ap (λ b. is_refused (value_initial scope None ty path tree first) || not (b || gives_address (not (is_refusal (bind (read_expression known tree).outcome an_array))) (form_of tree)))
      (numbers_need_no_names (scope_with []) scope tree)
      ∙ (ap (λ o. is_refused (value_initial scope None ty path tree first) || not (is_number (valued scope tree) || gives_address (not (is_refusal (bind o an_array))) (form_of tree))) (types level tree d)
      ∙ sym (operand_same by scope g ty path first (judged scope tree) (form_of tree) (designates_by_form scope outside tree))))

  pub refused_by_constants : AreRefused by scope (Some g) (by_constants known)
  refused_by_constants = record { values = values_same; texts = locals.texts }
