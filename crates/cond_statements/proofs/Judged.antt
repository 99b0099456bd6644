-- An expression that a statement uses is refused by its type where it is refused by its judgement.
use Rattle.std.proofs.Common.{◌≡◌, ℕ, Bool, true, false, not, ◌||◌, List, [], ◌++◌, refl, sym, ap, ◌∙◌}
use Rattle.std.specs.Prelude.{Option, Some, None}
use Rattle.c_text.specs.Token.{PlainToken}
use Rattle.c_types.specs.Types.{PlainType, void, char, unsigned_char, int, unsigned_int, long, unsigned_long, pointer_to, array_of, structure}
use Rattle.c_tree.specs.declared.kinds.Kind.{Kind}
use Rattle.c_tree.specs.declared.kinds.Kind.TheVariants as k
use Rattle.c_tree.specs.Trees.{PlainTree}
use Rattle.core_meaning.specs.declared.refusals.TypeKind.{TypeKind}
use Rattle.core_meaning.specs.declared.refusals.TypeKind.TheVariants.{Misplaced, BadOperand}
use Rattle.core_meaning.specs.Checking.{Binding, with_bindings, ◌>>=◌, unless_so, found_or}
use Rattle.core_meaning.specs.Checking as judged
use Rattle.core_meaning.specs.Entities.{Scope}
use Rattle.core_meaning.specs.Program.{PlainExpression}
use Rattle.core_meaning.specs.Typing.{Operand, loaded, fits_into}
use Rattle.core_meaning.specs.Expressions.{passed, condition_value, first_token, is_void, valued}
use Rattle.core_meaning.specs.Expressions as expressions
use Rattle.conditional.specs.Judgements.{Checked, bind}
use Rattle.choice_trees.specs.ChoiceTrees.{semicolon}
use Rattle.conditional_steps.specs.Here.{is_refused}
use Rattle.operand_types.specs.OperandTypes.{OperandType, renumbered, outcome_as}
use Rattle.operand_types.specs.Operators.{loaded_type, tested_type, fitted_type}
use Rattle.operand_types.specs.Laws.{KeepsApart, operand_seen, operand_type, OperatorsKeepTypes}
use Rattle.expression_types.specs.Known.{Known, IsKnown}
use Rattle.expression_types.specs.Reading.{Outcome, read_expression}
use Rattle.expression_types.specs.Laws.{ExpressionsHaveTypes}
use Rattle.statement_readings.specs.Walks.{Use, condition, discarded, returned, expression_refused}
use Rattle.statement_readings.specs.Walks as walks
use Rattle.cond_statements.specs.Ready.{IsExpression}
use Rattle.cond_statements.specs.Results.{absence_refused, operand_refused}

outcome_refused : {A P : Type 0} (f : A → P) (m : judged.Checked A) → is_refused (outcome_as f m) ≡ walks.is_refused m
outcome_refused f (judged.fine x bindings) = refl
outcome_refused f (judged.refused kind token) = refl
outcome_refused f judged.broken = refl

with_refused : {A : Type 0} (before : List Binding) (m : judged.Checked A) → walks.is_refused (with_bindings before m) ≡ walks.is_refused m
with_refused before (judged.fine x bindings) = refl
with_refused before (judged.refused kind token) = refl
with_refused before judged.broken = refl

found_refused : (found : Option PlainExpression) (kind other : TypeKind) (at : PlainToken) → walks.is_refused (found_or found kind at) ≡ walks.is_refused (found_or found other at)
found_refused None kind other at = refl
found_refused (Some e) kind other at = refl

then_refused : {A B C : Type 0} (before : List Binding) (n : judged.Checked A) (g : A → judged.Checked B) (h : A → judged.Checked C) → ((y : A) → walks.is_refused (g y) ≡ walks.is_refused (h y))
    → walks.is_refused (n >>= g) ≡ walks.is_refused (with_bindings before n >>= h)
then_refused before (judged.fine y c) g h each = with_refused c (g y) ∙ each y ∙ sym (with_refused (before ++ c) (h y))
then_refused before (judged.refused kind token) g h each = refl
then_refused before judged.broken g h each = refl

in_steps : {A B C D : Type 0} (m : judged.Checked A) (f : A → judged.Checked B) (g : B → judged.Checked C) (h : B → judged.Checked D) → ((y : B) → walks.is_refused (g y) ≡ walks.is_refused (h y))
    → walks.is_refused (m >>= (λ x. f x >>= g)) ≡ walks.is_refused ((m >>= f) >>= h)
in_steps (judged.fine x b) f g h each = with_refused b (f x >>= g) ∙ then_refused b (f x) g h each
in_steps (judged.refused kind token) f g h each = refl
in_steps judged.broken f g h each = refl

same_void : (by : ℕ → ℕ) (ty : PlainType) → is_void (renumbered by ty) ≡ is_void ty
same_void by void = refl
same_void by char = refl
same_void by unsigned_char = refl
same_void by int = refl
same_void by unsigned_int = refl
same_void by long = refl
same_void by unsigned_long = refl
same_void by (pointer_to ty) = refl
same_void by (array_of ty count) = refl
same_void by (structure n) = refl

pub same_absence : (by : ℕ → ℕ) (kind : Kind) (ty : PlainType) → absence_refused kind (renumbered by ty) ≡ absence_refused kind ty
same_absence by k.Return ty = ap not (same_void by ty)
same_absence by _ ty = refl

placed_refused : {A : Type 0} (b c : Bool) (m : judged.Checked A) → c ≡ walks.is_refused m → (b || c) ≡ walks.is_refused (unless_so (not b) Misplaced semicolon >>= (λ placed. m))
placed_refused true c m h = refl
placed_refused false c m h = h ∙ sym (with_refused [] m)

module _ (by : ℕ → ℕ) (scope : Scope) (kept : OperatorsKeepTypes by scope) where
  seen_refused : {A P : Type 0} (m : judged.Checked Operand) (f : Operand → judged.Checked A) (g : OperandType → Checked P (Unit {0})) → ((x : Operand) → is_refused (g (operand_type by scope x)) ≡ walks.is_refused (f x))
      → is_refused (bind (operand_seen by scope m) g) ≡ walks.is_refused (m >>= f)
  seen_refused (judged.fine x b) f g each = each x ∙ sym (with_refused b (f x))
  seen_refused (judged.refused kind token) f g each = refl
  seen_refused judged.broken f g each = refl

  use_refused : (usage : Use) (ty : PlainType) (tree : PlainTree) → operand_refused usage (operand_seen by scope (expressions.judged scope tree)) (renumbered by ty) ≡ expression_refused ty scope usage tree
  use_refused condition ty tree =
      seen_refused (expressions.judged scope tree) (condition_value scope (first_token tree semicolon)) (tested_type semicolon)
      (λ x. ap is_refused (sym (kept.tests (first_token tree semicolon) semicolon x)) ∙ outcome_refused (λ a. tt) (condition_value scope (first_token tree semicolon) x))
  use_refused discarded ty tree =
      seen_refused (expressions.judged scope tree) (loaded scope) (loaded_type semicolon)
      (λ x. ap is_refused (sym (kept.loads semicolon x)) ∙ outcome_refused (Rattle.operand_types.specs.Laws.value_type by scope) (loaded scope x))
  use_refused returned ty tree =
      let fits : is_refused (bind (operand_seen by scope (expressions.judged scope tree)) (fitted_type semicolon (renumbered by ty)))
      ≡ walks.is_refused (expressions.judged scope tree >>= (λ x. loaded scope x >>= (λ y. found_or (fits_into ty y) BadOperand semicolon))) =
      seen_refused (expressions.judged scope tree) (λ x. passed scope ty x semicolon) (fitted_type semicolon (renumbered by ty))
      (λ x. ap is_refused (sym (kept.fits semicolon semicolon ty x)) ∙ outcome_refused (λ a. tt) (passed scope ty x semicolon)) in
      let steps : walks.is_refused (expressions.judged scope tree >>= (λ x. loaded scope x >>= (λ y. found_or (fits_into ty y) BadOperand semicolon)))
      ≡ walks.is_refused (valued scope tree >>= (λ y. found_or (fits_into ty y) Misplaced semicolon)) =
      in_steps (expressions.judged scope tree) (loaded scope) (λ y. found_or (fits_into ty y) BadOperand semicolon) (λ y. found_or (fits_into ty y) Misplaced semicolon)
      (λ y. found_refused (fits_into ty y) BadOperand Misplaced semicolon) in
      ap (λ b. b || is_refused (bind (operand_seen by scope (expressions.judged scope tree)) (fitted_type semicolon (renumbered by ty)))) (same_void by ty)
      ∙ placed_refused (is_void ty) (is_refused (bind (operand_seen by scope (expressions.judged scope tree)) (fitted_type semicolon (renumbered by ty))))
      (valued scope tree >>= (λ y. found_or (fits_into ty y) Misplaced semicolon)) (fits ∙ steps)

  pub expression_judged :
      (apart : KeepsApart by) → ExpressionsHaveTypes → (known : Known) → IsKnown by scope known → (usage : Use) (ty : PlainType) (tree : PlainTree) → IsExpression tree
      → operand_refused usage (read_expression known tree).outcome (renumbered by ty) ≡ expression_refused ty scope usage tree
  expression_judged apart typed known is usage ty tree derived =
      ap (λ (o : Outcome). operand_refused usage o (renumbered by ty)) (typed by apart scope known is derived.level tree derived.derivation) ∙ use_refused usage ty tree
