-- The types that words name, where structs have the numbers of the tables.
use Rattle.std.proofs.Common.{◌≡◌, ℕ, Bool, true, false, not, IsTrue, refl, sym, ap, ◌∙◌}
use Rattle.std.specs.Prelude.{Option, Some, None, option_map, if◌then◌else◌}
use Rattle.c_text.specs.Token.{PlainToken}
use Rattle.c_types.specs.Types.{structure}
use Rattle.c_tree.specs.declared.terminals.Terminal.TheVariants as t
use Rattle.c_tree.specs.Trees.{PlainTrees}
use Rattle.conditional.specs.Judgements.{fine, refused}
use Rattle.core_meaning.specs.Checking.{◌>>=◌, or_broken, give}
use Rattle.core_meaning.specs.Entities.{Scope}
use Rattle.core_meaning.specs.Expressions.{has_terminal, words_type, arithmetic_words}
use Rattle.core_meaning.specs.Declarations.{name_in, based_on_tag, based}
use Rattle.operand_types.specs.OperandTypes.{outcome_as, renumbered, struct_in}
use Rattle.type_tables.specs.Tables.{Tables}
use Rattle.type_tables.specs.Follows.{Follows}
use Rattle.cond_declarators.specs.Types.{base_type}
use Rattle.cond_declarators.specs.Elements.{struct_if_any}

words_renumbered : (by : ℕ → ℕ) (is_void is_unsigned is_char is_long : Bool) → renumbered by (words_type is_void is_unsigned is_char is_long) ≡ words_type is_void is_unsigned is_char is_long
words_renumbered by true is_unsigned is_char is_long = refl
words_renumbered by false true true is_long = refl
words_renumbered by false false true is_long = refl
words_renumbered by false true false true = refl
words_renumbered by false false false true = refl
words_renumbered by false true false false = refl
words_renumbered by false false false false = refl

-- words without a struct name the same type whatever numbers structs have
pub arithmetic_renumbered : (by : ℕ → ℕ) (words : PlainTrees) → renumbered by (arithmetic_words words) ≡ arithmetic_words words
arithmetic_renumbered by words = words_renumbered by (has_terminal t.Void words) (has_terminal t.Unsigned words) (has_terminal t.Char words) (has_terminal t.Long words)

words_without : (is_void is_unsigned is_char is_long : Bool) → struct_in (words_type is_void is_unsigned is_char is_long) ≡ None
words_without true is_unsigned is_char is_long = refl
words_without false true true is_long = refl
words_without false false true is_long = refl
words_without false true false true = refl
words_without false false false true = refl
words_without false true false false = refl
words_without false false false false = refl

pub arithmetic_without : (words : PlainTrees) → struct_in (arithmetic_words words) ≡ None
arithmetic_without words = words_without (has_terminal t.Void words) (has_terminal t.Unsigned words) (has_terminal t.Char words) (has_terminal t.Long words)

module _ (by : ℕ → ℕ) (declaring : Bool) (scope : Scope) (words : PlainTrees) where
  pub based_arithmetic : has_terminal t.Struct words ≡ false → outcome_as (base_type by) (based declaring scope words) ≡ fine (arithmetic_words words)
  based_arithmetic is =
      ap (λ b. outcome_as (base_type by) (if b then or_broken (name_in words) >>= (λ tag. based_on_tag declaring scope tag (scope.tags tag.text)) else give (record { ty = arithmetic_words words; scope = scope }))) is
      ∙ ap fine (arithmetic_renumbered by words)

  pub based_nameless : has_terminal t.Struct words ≡ true → name_in words ≡ None → outcome_as (base_type by) (based declaring scope words) ≡ refused tt
  based_nameless is none =
      ap (λ b. outcome_as (base_type by) (if b then or_broken (name_in words) >>= (λ tag. based_on_tag declaring scope tag (scope.tags tag.text)) else give (record { ty = arithmetic_words words; scope = scope }))) is
      ∙ ap (λ name. outcome_as (base_type by) (or_broken name >>= (λ tag. based_on_tag declaring scope tag (scope.tags tag.text)))) none

-- the struct is what is shown where it is declared, and a refusal elsewhere
pub shown_where : (declared : Bool) (number : ℕ) → IsTrue declared → fine (structure number) ≡ struct_if_any (if declared then Some number else None)
shown_where true number h = refl
shown_where false number h = cc

pub shown_nowhere : (declared : Bool) (number : ℕ) → IsTrue (not declared) → refused tt ≡ struct_if_any (if declared then Some number else None)
shown_nowhere true number h = cc
shown_nowhere false number h = refl

tag_outcome : (by : ℕ → ℕ) (scope : Scope) (tag : PlainToken) (o : Option ℕ)
    → outcome_as (base_type by) (or_broken (Some tag) >>= (λ (t : PlainToken). based_on_tag false scope tag o)) ≡ struct_if_any (option_map by o)
tag_outcome by scope tag None = refl
tag_outcome by scope tag (Some n) = refl

-- words of a struct name that of the tag, if it is visible
pub based_tagged : (tables : Tables) (scope : Scope) (f : Follows tables scope) (words : PlainTrees) (tag : PlainToken) → has_terminal t.Struct words ≡ true → name_in words ≡ Some tag
    → outcome_as (base_type f.by) (based false scope words) ≡ struct_if_any (tables.tags tag.text)
based_tagged tables scope f words tag is named =
    ap (λ b. outcome_as (base_type f.by) (if b then or_broken (name_in words) >>= (λ tag. based_on_tag false scope tag (scope.tags tag.text)) else give (record { ty = arithmetic_words words; scope = scope }))) is
    ∙ (ap (λ name. outcome_as (base_type f.by) (or_broken name >>= (λ tag. based_on_tag false scope tag (scope.tags tag.text)))) named
    ∙ (tag_outcome f.by scope tag (scope.tags tag.text) ∙ ap struct_if_any (sym (f.tags tag.text))))
