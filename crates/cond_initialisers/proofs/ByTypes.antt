-- What expressions give a local is refused exactly where their types are.
use Rattle.std.proofs.Common.{arith, ◌≡◌, ℕ, ◌+◌, ◌-◌, Bool, true, false, List, [], ◌∷◌, refl, sym, ap, ◌∙◌}
use Rattle.std.specs.Prelude.{IsTrue, nat_le, length, Option, Some, None}
use Rattle.std.proofs.lemmas.Bool.{false≢true}
use Rattle.c_text.specs.Token.{PlainToken}
use Rattle.c_types.specs.Types.{PlainType, char, array_of}
use Rattle.c_tree.specs.declared.kinds.Kind.TheVariants as k
use Rattle.c_tree.specs.Trees.{PlainTree, PlainTrees, leaf, node, none, more}
use Rattle.c_tree.specs.Grammar.{expression, are_texts, any_part}
use Rattle.tree_derivations.specs.Derivations.{Derivation, made_of, some_texts}
use Rattle.core_meaning.specs.declared.refusals.TypeKind.TheVariants.{BadOperand, BadConstant}
use Rattle.core_meaning.specs.Values.{Path}
use Rattle.core_meaning.specs.Program.{PlainExpression}
use Rattle.core_meaning.specs.Checking.{Checked, fine, refused, broken, ◌>>=◌, give, unless_so, found_or, or_broken}
use Rattle.core_meaning.specs.Entities.{Scope}
use Rattle.core_meaning.specs.Typing.{Operand, loaded, fits_into}
use Rattle.core_meaning.specs.Expressions.{judged, text_bytes, first_text, passed}
use Rattle.core_meaning.specs.Constancy.{Initial, text_initial, is_allowed, value_initial}
use Rattle.conditional.specs.Judgements.{bind}
use Rattle.choice_trees.specs.ChoiceTrees.{semicolon}
use Rattle.operand_types.specs.OperandTypes.{renumbered, type_of_operand, outcome_as}
use Rattle.operand_types.specs.Operators.{fitted_type}
use Rattle.operand_types.specs.Laws.{OperatorsKeepTypes, operand_seen}
use Rattle.operand_rules.specs.PlainOperandTypes.{accepted}
use Rattle.expression_types.specs.Known.{Known}
use Rattle.expression_types.specs.Reading.{text_outcome, read_expression}
use Rattle.statement_readings.specs.Walks.{is_refused}
use Rattle.statement_readings.proofs.Steps.{same_then}
use Rattle.cond_initialisers.specs.Laws.{AreRefused}
use Rattle.cond_initialisers.specs.Refusals.{is_refusal, has_room, room_for, is_unfit, without_room, by_types}
use Rattle.cond_initialisers.proofs.Refused.{refused_with, test_refused, then_with}

module _ (by : ℕ → ℕ) (scope : Scope) (known : Known)
    (types : (level : ℕ) (tree : PlainTree) → Derivation (expression level) tree → (read_expression known tree).outcome ≡ operand_seen by scope (judged scope tree))
    (keeps : OperatorsKeepTypes by scope) where
  -- ---- expressions

  found_refused : (o : Option PlainExpression) (path : Path) (first : PlainToken)
      → is_refused (found_or o BadOperand semicolon)
      ≡ is_refused {A = List Initial} (found_or o BadOperand first >>= (λ core. unless_so (is_allowed scope None core) BadConstant first >>= (λ allowed. give (record { path = path; value = core; first = first } ∷ []))))
  found_refused None path first = refl
  found_refused (Some core) path first = refl

  judged_unfit : (m : Checked Operand) (ty : PlainType) (path : Path) (first : PlainToken)
      → is_refusal (bind (outcome_as (type_of_operand by scope.structs) m) (fitted_type semicolon (renumbered by ty)))
      ≡ is_refused {A = List Initial} ((m >>= loaded scope) >>= (λ x. found_or (fits_into ty x) BadOperand first
      >>= (λ core. unless_so (is_allowed scope None core) BadConstant first >>= (λ allowed. give (record { path = path; value = core; first = first } ∷ [])))))
  judged_unfit (fine x bindings) ty path first =
      sym (ap is_refusal (keeps.fits semicolon semicolon ty x))
      ∙ (test_refused (passed scope ty x semicolon)
      ∙ (same_then (loaded scope x) (λ v. found_or (fits_into ty v) BadOperand semicolon) _ (λ v. found_refused (fits_into ty v) path first)
      ∙ sym (then_with bindings (loaded scope x) _)))
  judged_unfit (refused kind token) ty path first = refl
  judged_unfit broken ty path first = refl

  unfit_same : {level : ℕ} {tree : PlainTree} → Derivation (expression level) tree → (ty : PlainType) (path : Path) (first : PlainToken)
      → is_unfit known tree (renumbered by ty) ≡ is_refused (value_initial scope None ty path tree first)
  unfit_same {level} {tree} d ty path first =
      ap (λ o. is_refusal (bind o (fitted_type semicolon (renumbered by ty)))) (types level tree d) ∙ judged_unfit (judged scope tree) ty path first

  -- ---- texts

  fits_in : (b : Bool) (parts : List Initial) (first : PlainToken) → is_refusal (accepted b) ≡ is_refused (unless_so b BadConstant first >>= (λ room. give parts))
  fits_in true parts first = refl
  fits_in false parts first = refl

  room_same : (element : PlainType) (count : ℕ) (path : Path) (bytes : List ℕ) (first : PlainToken)
      → is_refusal (accepted (has_room count (array_of char (length bytes + 1)))) ≡ is_refused (text_initial element count path bytes first)
  room_same element count path bytes first =
      let e : length bytes + 1 - 1 ≡ length bytes = omega arith in
      ap (λ n. is_refusal (accepted (nat_le n count))) e ∙ fits_in (nat_le (length bytes) count) _ first

  bytes_same : (o : Option (List ℕ)) (at : PlainToken) (element : PlainType) (count : ℕ) (path : Path) (first : PlainToken)
      → is_refusal (bind (text_outcome o (Some at)) (room_for count)) ≡ is_refused (or_broken o >>= (λ bytes. text_initial element count path bytes first))
  bytes_same None at element count path first = refl
  bytes_same (Some bytes) at element count path first = room_same element count path bytes first ∙ sym (refused_with [] (text_initial element count path bytes first))

  texts_same : (parts : PlainTrees) → IsTrue (are_texts parts) → IsTrue (any_part parts) → (element : PlainType) (count : ℕ) (path : Path) (first : PlainToken)
      → is_refusal (bind (text_outcome (text_bytes parts) (first_text parts)) (room_for count)) ≡ is_refused (or_broken (text_bytes parts) >>= (λ bytes. text_initial element count path bytes first))
  texts_same none texts some element count path first = absurd (false≢true some)
  texts_same (more (leaf token) rest) texts some element count path first = bytes_same (text_bytes (more (leaf token) rest)) token element count path first
  texts_same (more (node kind inner) rest) texts some element count path first = absurd (false≢true texts)

  pub refused_by_types : AreRefused by scope None (by_types known)
  refused_by_types = record {
    values = λ level tree d ty path first. unfit_same d ty path first;
    texts = λ parts d element count path first. given_texts d element count path first;
  } where
    given_texts : {parts : PlainTrees} → Derivation (expression 1) (node k.Texts parts) → (element : PlainType) (count : ℕ) (path : Path) (first : PlainToken)
        → without_room known (node k.Texts parts) count ≡ is_refused (or_broken (text_bytes parts) >>= (λ bytes. text_initial element count path bytes first))
    given_texts (made_of k.Texts {parts = parts} b a (some_texts texts some)) element count path first = texts_same parts texts some element count path first
