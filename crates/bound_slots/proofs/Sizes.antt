-- The size of an array is constant, so it binds nothing. This holds of all trees.
use Rattle.std.proofs.Common.{◌≡◌, ℕ, ◌+◌, ℤ, Bool, true, false, List, length, refl, subst}
use Rattle.std.specs.Prelude.{Option, Some, None, if◌then◌else◌}
use Rattle.std.proofs.lemmas.Bool.{false≢true}
use Rattle.c_text.specs.Token.{PlainToken}
use Rattle.c_types.specs.Types.{char, array_of}
use Rattle.c_types.specs.Integers.{is_integer}
use Rattle.c_tree.specs.declared.kinds.Kind.TheVariants as k
use Rattle.c_tree.specs.declared.terminals.Terminal.{Terminal}
use Rattle.c_tree.specs.declared.terminals.Terminal.TheVariants as t
use Rattle.c_tree.specs.Terminals.{terminal}
use Rattle.c_tree.specs.Trees.{PlainTree, leaf, node, none, more}
use Rattle.core_meaning.specs.declared.refusals.TypeKind.TheVariants.{BadConstant}
use Rattle.core_meaning.specs.Program.{literal, update, update_after}
use Rattle.core_meaning.specs.Checking.{Checked, ◌>>=◌, give, found_or, or_broken}
use Rattle.core_meaning.specs.Entities.{Local, Sort, variable, function, FileName, Scope, local_in, entity_number}
use Rattle.core_meaning.specs.Typing.{Operand, Typed, of_value, of_object, loaded}
use Rattle.core_meaning.specs.Expressions as spec
use Rattle.core_meaning.specs.Expressions.{callee, judged, valued, text_bytes, first_text, first_token, arithmetic_words}
use Rattle.core_meaning.specs.Constancy.{is_constant, constant_value, count_of_value, value_if_constant, judged_count}
use Rattle.bound_slots.specs.Laws.{SizesBindNothing}
use Rattle.bound_slots.proofs.Shapes.{PassNot, stepped_never, assignment_never, subscript_never, selected_never, called_never, called_without_never}
use Rattle.bound_slots.proofs.Constants.{OnlyOf, Only, weaker, Never, never, never_then, never_given, only_then, has_constant, is_constant_value, loads, prefixed_only, cast_operand_only, condition_only, combined_by_only, chosen_only, two_only}

abbrev pub Anything : Type 0
Anything = Unit {0}

module _ (s : Scope) where
  -- ---- what is never constant: what names objects, changes them or calls a function

  sort_never : (token : PlainToken) (sort : Sort) → Never has_constant (spec.file_operand s token sort)
  sort_never token (variable ty) = record { only = λ e. absurd (false≢true e) }
  sort_never token (function signature) = record { only = tt }

  file_name_never : (token : PlainToken) (found : Option FileName) → Never has_constant (spec.file_name_operand s token found)
  file_name_never token None = record { only = tt }
  file_name_never token (Some found) = sort_never token found.sort

  name_never : (token : PlainToken) (found : Option Local) → Never has_constant (spec.name_operand s token found)
  name_never token (Some found) = record { only = λ e. absurd (false≢true e) }
  name_never token None = file_name_never token (s.file_names token.text)

  texts_never : (bytes : Option (List ℕ)) (first : Option PlainToken)
      → Never has_constant (or_broken bytes >>= (λ bytes. or_broken first >>= (λ first. give (of_object first (array_of char (length bytes + 1)) (literal (entity_number s.numbers.literals bytes)) true))))
  texts_never bytes first =
      never_then has_constant (or_broken bytes) (λ bytes. or_broken first >>= (λ first. give (of_object first (array_of char (length bytes + 1)) (literal (entity_number s.numbers.literals bytes)) true)))
      (λ bytes. never_then has_constant (or_broken first) (λ first. give (of_object first (array_of char (length bytes + 1)) (literal (entity_number s.numbers.literals bytes)) true)) (λ first. never_given has_constant _ refl))

  constant_shapes : PassNot has_constant
  constant_shapes = record {
    changed = λ sign ty c p e. refl;
    changed_after = λ sign ty c p e. refl;
    assigned = λ sign ty p e. refl;
    called = λ sign ty number arguments. refl;
    pointed = λ sign ty e. refl;
    selected = λ sign ty p number free. refl;
  }

  -- ---- expressions: where one is constant, nothing is bound in it

  abbrev IsQuiet : Checked Operand → Type 0
  IsQuiet c = Only Anything has_constant c

  character_quiet : (token : PlainToken) → IsQuiet (spec.character_operand token)
  character_quiet token = by (spec.character_value (Rattle.c_text.specs.Constants.quoted_values token.text))
    where
      by : (o : Option ℤ) → IsQuiet (or_broken o >>= (λ z. give (of_value token Rattle.c_types.specs.Types.int (Rattle.core_meaning.specs.Program.constant z))))
      by (Some z) = record { only = λ e. (tt, refl) }
      by None = record { only = tt }

  single_quiet : (token : PlainToken) (kind : Terminal) → IsQuiet (spec.single_operand s token kind)
  single_quiet token t.Name = never Anything has_constant _ (name_never token (local_in s.blocks token.text))
  single_quiet token t.Number = record { only = λ e. (tt, refl) }
  single_quiet token t.Character = character_quiet token
  single_quiet token _ = record { only = tt }

  quiet_then : (c : Checked Operand) (f : Operand → Checked Operand) → IsQuiet c → ((o : Operand) → Only (has_constant o ≡ true) has_constant (f o)) → IsQuiet (c >>= f)
  quiet_then c f h g =
      weaker (Anything × Anything) Anything has_constant (c >>= f) (λ x. tt)
      (only_then has_constant has_constant Anything Anything c f h (λ o. weaker (has_constant o ≡ true) ((has_constant o ≡ true) × Anything) has_constant (f o) (λ e. (e, tt)) (g o)))

  never_quiet : (c : Checked Operand) (f : Operand → Checked Operand) → ((o : Operand) → Never has_constant (f o)) → IsQuiet (c >>= f)
  never_quiet c f g = never Anything has_constant (c >>= f) (never_then has_constant c f g)

  conditional_quiet : (question at : PlainToken) (first second third : Checked Operand) → IsQuiet first → IsQuiet second → IsQuiet third
      → IsQuiet (first >>= spec.condition_value s at >>= (λ condition. second >>= (λ left. loaded s left >>= (λ a. third >>= (λ right. loaded s right >>= (λ b. spec.chosen question condition a b))))))
  conditional_quiet question at first second third is_first is_second is_third =
      weaker (Anything × Anything) Anything has_constant _ (λ x. tt)
      (only_then is_constant has_constant Anything Anything (first >>= spec.condition_value s at) _
      (weaker (Anything × Anything) Anything is_constant (first >>= spec.condition_value s at) (λ x. tt)
      (only_then has_constant is_constant Anything Anything first (spec.condition_value s at) is_first
      (λ o. weaker (has_constant o ≡ true) ((has_constant o ≡ true) × Anything) is_constant (spec.condition_value s at o) (λ e. (e, tt)) (condition_only s at o))))
      (λ condition. weaker (is_constant condition ≡ true) ((is_constant condition ≡ true) × Anything) has_constant _ (λ e. (e, tt))
      (two_only s (is_constant condition ≡ true) (spec.chosen question condition) (λ a b. chosen_only question condition a b) second third is_second is_third)))

  quiet : (tree : PlainTree) → IsQuiet (judged s tree)
  quiet (leaf token) = single_quiet token (terminal token)
  quiet (node k.Texts parts) = never Anything has_constant _ (texts_never (text_bytes parts) (first_text parts))
  quiet (node k.Parenthesized (more bracket (more inner (more close none)))) = quiet inner
  quiet (node k.PostfixStep (more inner (more (leaf sign) none))) = never_quiet (judged s inner) (spec.stepped s update_after sign) (λ o. stepped_never s has_constant constant_shapes update_after constant_shapes.changed_after sign o)
  quiet (node k.PrefixStep (more (leaf sign) (more inner none))) = never_quiet (judged s inner) (spec.stepped s update sign) (λ o. stepped_never s has_constant constant_shapes update constant_shapes.changed sign o)
  quiet (node k.Prefix (more (leaf sign) (more inner none))) = quiet_then (judged s inner) (spec.prefixed s sign) (quiet inner) (λ o. prefixed_only s sign o)
  quiet (node k.Cast (more (leaf bracket) (more (node words_kind words) (more close (more inner none))))) =
      quiet_then (judged s inner) (λ operand. loaded s operand >>= (λ x. spec.cast_to bracket x (arithmetic_words words))) (quiet inner) (λ o. cast_operand_only s bracket (arithmetic_words words) o)
  quiet (node k.Selection (more first (more (leaf sign) (more (leaf name) none)))) = never_quiet (judged s first) (spec.selected s sign name) (λ o. selected_never s has_constant constant_shapes sign name o)
  quiet (node k.Index (more first (more (leaf bracket) (more second (more close none))))) = never Anything has_constant _ (subscript_never s has_constant constant_shapes bracket (judged s first) (judged s second))
  quiet (node k.Call (more first (more (leaf bracket) (more (node k.Arguments parts) (more close none))))) = never Anything has_constant _ (called_never s has_constant constant_shapes bracket (judged s first) parts (callee s first))
  quiet (node k.Call (more first (more (leaf bracket) (more (node k.Absent none) (more close none))))) = never Anything has_constant _ (called_without_never s has_constant constant_shapes bracket (judged s first) (callee s first))
  quiet (node k.Assignment (more first (more (leaf sign) (more second none)))) = never Anything has_constant _ (assignment_never s has_constant constant_shapes sign (judged s first) (judged s second))
  quiet (node k.Conditional (more first (more (leaf question) (more second (more colon (more third none)))))) =
      conditional_quiet question (first_token first question) (judged s first) (judged s second) (judged s third) (quiet first) (quiet second) (quiet third)
  quiet (node kind (more first (more (leaf sign) (more second none)))) =
      two_only s Anything (spec.combined_by s kind sign)
      (λ a b. weaker ((is_constant_value b ≡ true) × (is_constant_value a ≡ true)) ((is_constant_value b ≡ true) × ((is_constant_value a ≡ true) × Anything)) has_constant (spec.combined_by s kind sign a b) (λ h. (h.0, (h.1, tt))) (combined_by_only s kind sign a b))
      (judged s first) (judged s second) (quiet first) (quiet second)
  quiet (node kind parts) = record { only = tt }

  -- ---- sizes

  pub value_quiet : (tree : PlainTree) → Only Anything is_constant_value (valued s tree)
  value_quiet tree =
      weaker (Anything × Anything) Anything is_constant_value (valued s tree) (λ x. tt)
      (only_then has_constant is_constant_value Anything Anything (judged s tree) (loaded s) (quiet tree)
      (λ o. weaker (has_constant o ≡ true) ((has_constant o ≡ true) × Anything) is_constant_value (loaded s o) (λ e. (e, tt)) (loads s o)))

  abbrev any_count : ℕ → Bool
  any_count n = true

  counted : (x : Typed) (at : PlainToken) → Only ((is_constant_value x ≡ true) × Anything) any_count (found_or (if is_integer x.ty then count_of_value (value_if_constant x.core) else None) BadConstant at)
  counted x at = by (is_integer x.ty) (is_constant x.core) refl
    where
      given : (o : Option ℕ) → is_constant x.core ≡ true → Only ((is_constant_value x ≡ true) × Anything) any_count (found_or o BadConstant at)
      given (Some n) e = record { only = λ f. ((e, tt), refl) }
      given None e = record { only = tt }

      by : (b c : Bool) → is_constant x.core ≡ c → Only ((is_constant_value x ≡ true) × Anything) any_count (found_or (if b then count_of_value (if c then constant_value x.core else None) else None) BadConstant at)
      by true true e = given (count_of_value (constant_value x.core)) e
      by true false e = record { only = tt }
      by false c e = record { only = tt }

  pub size_quiet : (tree : PlainTree) (behind : PlainToken) → Only (Anything × Anything) any_count (judged_count s tree behind)
  size_quiet tree behind =
      only_then is_constant_value any_count Anything Anything (valued s tree) (λ x. found_or (if is_integer x.ty then count_of_value (value_if_constant x.core) else None) BadConstant (first_token tree behind)) (value_quiet tree)
      (λ x. counted x (first_token tree behind))

pub sizes_bind_nothing : SizesBindNothing
sizes_bind_nothing s tree behind count js e = (subst (OnlyOf (Anything × Anything) (λ n. true)) e (size_quiet s tree behind).only refl).1
