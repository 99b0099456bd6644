-- What is constant of an expression is the same whatever is visible.
use Rattle.std.proofs.Common.{◌≡◌, ℕ, Bool, true, false, refl, sym, ap, ◌∙◌}
use Rattle.std.specs.Prelude.{Option, Some, None, if◌then◌else◌}
use Rattle.c_text.specs.Token.{PlainToken}
use Rattle.c_types.specs.Integers.{is_integer}
use Rattle.c_tree.specs.declared.kinds.Kind.TheVariants as k
use Rattle.c_tree.specs.Terminals.{terminal}
use Rattle.c_tree.specs.Trees.{PlainTree, leaf, node, none, more}
use Rattle.core_meaning.specs.declared.refusals.TypeKind.TheVariants.{BadConstant}
use Rattle.core_meaning.specs.Program.{update, update_after}
use Rattle.core_meaning.specs.Checking as judging
use Rattle.core_meaning.specs.Checking.{◌>>=◌, found_or}
use Rattle.core_meaning.specs.Entities.{Scope}
use Rattle.core_meaning.specs.Typing.{Typed, loaded}
use Rattle.core_meaning.specs.Expressions as spec
use Rattle.core_meaning.specs.Expressions.{judged, valued, first_token, callee, text_bytes, first_text, arithmetic_words}
use Rattle.core_meaning.specs.Constancy.{is_constant, constant_value, count_of_value, value_if_constant}
use Rattle.operand_types.specs.OperandTypes.{outcome_as}
use Rattle.operand_rules.proofs.Loads.{outcome_with}
use Rattle.cond_sizes.specs.Laws.{CountsNeedNoNames}
use Rattle.cond_sizes.specs.Sizes.{given}
use Rattle.cond_sizes.proofs.Constants.{has_constant, is_constant_value, constant_operand, constant_typed, alike, single_alike, loaded_strict, loaded_alike, prefixed_strict, prefixed_alike, cast_operand_strict, cast_operand_alike, combined_by_strict, combined_by_alike, two_alike, on_two, condition_value_strict, condition_value_alike, results_strict, results_alike}
use Rattle.cond_sizes.proofs.Variables.{nothing_after, texts_none, stepped_none, assigned_none, subscript_none, selected_none, called_none, called_without_none}

module _ (scope other : Scope) where
  abbrev IsNameless : PlainTree → Type 0
  IsNameless tree = constant_operand (judged scope tree) ≡ constant_operand (judged other tree)

  conditional_alike : (question : PlainToken) (first second third : PlainTree) → IsNameless first → IsNameless second → IsNameless third
      → constant_operand (judged scope first >>= spec.condition_value scope (first_token first question) >>= (λ condition. on_two scope (spec.chosen question condition) (judged scope second) (judged scope third)))
      ≡ constant_operand (judged other first >>= spec.condition_value other (first_token first question) >>= (λ condition. on_two other (spec.chosen question condition) (judged other second) (judged other third)))
  conditional_alike question first second third is_first is_second is_third =
      alike is_constant has_constant (λ condition. on_two scope (spec.chosen question condition) (judged scope second) (judged scope third))
      (λ condition. on_two other (spec.chosen question condition) (judged other second) (judged other third))
      (results_strict scope question (judged scope second) (judged scope third)) (results_strict other question (judged other second) (judged other third))
      (results_alike scope other question (judged scope second) (judged other second) (judged scope third) (judged other third) is_second is_third)
      (judged scope first >>= spec.condition_value scope (first_token first question)) (judged other first >>= spec.condition_value other (first_token first question))
      (alike has_constant is_constant (spec.condition_value scope (first_token first question)) (spec.condition_value other (first_token first question))
      (condition_value_strict scope (first_token first question)) (condition_value_strict other (first_token first question)) (condition_value_alike scope other (first_token first question))
      (judged scope first) (judged other first) is_first)

  pub nameless : (tree : PlainTree) → IsNameless tree
  nameless (leaf token) = single_alike scope other token (terminal token)
  nameless (node k.Texts parts) = texts_none scope (text_bytes parts) (first_text parts) ∙ sym (texts_none other (text_bytes parts) (first_text parts))
  nameless (node k.Parenthesized (more bracket (more inner (more close none)))) = nameless inner
  nameless (node k.PostfixStep (more inner (more (leaf sign) none))) =
      nothing_after (spec.stepped scope update_after sign) (stepped_none scope update_after (λ c p e. refl) sign) (judged scope inner)
      ∙ sym (nothing_after (spec.stepped other update_after sign) (stepped_none other update_after (λ c p e. refl) sign) (judged other inner))
  nameless (node k.PrefixStep (more (leaf sign) (more inner none))) =
      nothing_after (spec.stepped scope update sign) (stepped_none scope update (λ c p e. refl) sign) (judged scope inner)
      ∙ sym (nothing_after (spec.stepped other update sign) (stepped_none other update (λ c p e. refl) sign) (judged other inner))
  nameless (node k.Prefix (more (leaf sign) (more inner none))) =
      alike has_constant has_constant (spec.prefixed scope sign) (spec.prefixed other sign) (prefixed_strict scope sign) (prefixed_strict other sign) (prefixed_alike scope other sign)
      (judged scope inner) (judged other inner) (nameless inner)
  nameless (node k.Cast (more (leaf bracket) (more (node words_kind words) (more close (more inner none))))) =
      alike has_constant has_constant (λ operand. loaded scope operand >>= (λ x. spec.cast_to bracket x (arithmetic_words words))) (λ operand. loaded other operand >>= (λ x. spec.cast_to bracket x (arithmetic_words words)))
      (cast_operand_strict scope bracket (arithmetic_words words)) (cast_operand_strict other bracket (arithmetic_words words)) (cast_operand_alike scope other bracket (arithmetic_words words))
      (judged scope inner) (judged other inner) (nameless inner)
  nameless (node k.Selection (more first (more (leaf sign) (more (leaf name) none)))) =
      nothing_after (spec.selected scope sign name) (selected_none scope sign name) (judged scope first)
      ∙ sym (nothing_after (spec.selected other sign name) (selected_none other sign name) (judged other first))
  nameless (node k.Index (more first (more (leaf bracket) (more second (more close none))))) =
      subscript_none scope bracket (judged scope first) (judged scope second) ∙ sym (subscript_none other bracket (judged other first) (judged other second))
  nameless (node k.Call (more first (more (leaf bracket) (more (node k.Arguments parts) (more close none))))) =
      called_none scope bracket (judged scope first) parts (callee scope first) ∙ sym (called_none other bracket (judged other first) parts (callee other first))
  nameless (node k.Call (more first (more (leaf bracket) (more (node k.Absent none) (more close none))))) =
      called_without_none scope bracket (judged scope first) (callee scope first) ∙ sym (called_without_none other bracket (judged other first) (callee other first))
  nameless (node k.Assignment (more first (more (leaf sign) (more second none)))) =
      assigned_none scope sign (judged scope first) (judged scope second) ∙ sym (assigned_none other sign (judged other first) (judged other second))
  nameless (node k.Conditional (more first (more (leaf question) (more second (more colon (more third none)))))) =
      conditional_alike question first second third (nameless first) (nameless second) (nameless third)
  nameless (node kind (more first (more (leaf sign) (more second none)))) =
      two_alike scope other (spec.combined_by scope kind sign) (spec.combined_by other kind sign) (combined_by_strict scope kind sign) (combined_by_strict other kind sign)
      (combined_by_alike scope other kind sign) (judged scope first) (judged other first) (judged scope second) (judged other second) (nameless first) (nameless second)
  nameless (node kind parts) = refl

-- ---- counts (6.7.6.2)

-- what comes of a size, by what is constant of it
abbrev count_from : Option Typed → Option ℕ
count_from None = None
count_from (Some x) = if is_integer x.ty then count_of_value (constant_value x.core) else None

given_so : (o : Option ℕ) (token : PlainToken) → outcome_as (λ (n : ℕ). n) (found_or o BadConstant token) ≡ given o
given_so None token = refl
given_so (Some n) token = refl

counted : (token : PlainToken) (c : judging.Checked Typed)
    → outcome_as (λ (n : ℕ). n) (c >>= (λ x. found_or (if is_integer x.ty then count_of_value (value_if_constant x.core) else None) BadConstant token)) ≡ given (count_from (constant_typed c))
counted token (judging.fine x bindings) =
    outcome_with (λ (n : ℕ). n) bindings (found_or (if is_integer x.ty then count_of_value (value_if_constant x.core) else None) BadConstant token)
    ∙ (given_so (if is_integer x.ty then count_of_value (value_if_constant x.core) else None) token ∙ ap given (by_test (is_constant x.core))) where
      no_count : (s : Bool) → (if s then count_of_value None else None) ≡ None
      no_count true = refl
      no_count false = refl

      by_test : (t : Bool) → (if is_integer x.ty then count_of_value (if t then constant_value x.core else None) else None) ≡ count_from (if t then Some x else None)
      by_test true = refl
      by_test false = no_count (is_integer x.ty)
counted token (judging.refused kind at) = refl
counted token judging.broken = refl

pub counts_need_no_names_lem : CountsNeedNoNames
counts_need_no_names_lem scope other tree behind before =
    counted (first_token tree behind) (valued scope tree)
    ∙ (ap (λ o. given (count_from o)) (alike has_constant is_constant_value (loaded scope) (loaded other) (loaded_strict scope) (loaded_strict other) (loaded_alike scope other)
    (judged scope tree) (judged other tree) (nameless scope other tree))
    ∙ sym (counted (first_token tree before) (valued other tree)))
