-- The types of constants.
use Rattle.std.proofs.Common.{◌≡◌, ℕ, Bool, true, false, List, [], ◌∷◌, Option, Some, None, refl, sym, ap, ◌∙◌}
use Rattle.std.specs.Prelude.{◌==◌}
use Rattle.c_text.specs.Token.{PlainToken}
use Rattle.c_text.specs.Constants.{number_value, quoted_values}
use Rattle.c_types.specs.Types.{PlainType, void, char, unsigned_char, int, unsigned_int, long, unsigned_long, pointer_to, array_of, structure}
use Rattle.c_types.specs.Integers.{is_integer}
use Rattle.core_meaning.specs.Program.{constant}
use Rattle.core_meaning.specs.Checking.{give, or_broken, ◌>>=◌}
use Rattle.core_meaning.specs.Typing.{of_value}
use Rattle.core_meaning.specs.Expressions.{number_type, number_operand, character_value, character_operand}
use Rattle.conditional.specs.Judgements.{fine}
use Rattle.expression_types.proofs.Numbers.{number_is}
use Rattle.operand_types.specs.OperandTypes.{OperandType, rvalue, renumbered, struct_in, is_known_complete, type_of_operand, outcome_as}
use Rattle.operand_types.specs.Operators.{same_number}
use Rattle.operand_types.proofs.Renumbered.{renumbered_same}
use Rattle.cond_typing.specs.PartsProgress.{is_byte}

whole_integer : (t : PlainType) → is_integer t ≡ true → is_known_complete [] (struct_in t) ≡ true
whole_integer void is = refl
whole_integer char is = refl
whole_integer unsigned_char is = refl
whole_integer int is = refl
whole_integer unsigned_int is = refl
whole_integer long is = refl
whole_integer unsigned_long is = refl
whole_integer (pointer_to t) is = cc
whole_integer (array_of t count) is = cc
whole_integer (structure n) is = cc

abbrev pub value_of : PlainType → Bool → Bool → OperandType
value_of t is_null complete = record { ty = t; category = rvalue; is_null = is_null; has_complete_struct = complete }

pub number_seen :
    (token : PlainToken) (t : PlainType) (v : ℕ) → t ≡ number_type token.text → v ≡ number_value token.text
    → value_of t (v == 0) true ≡ type_of_operand same_number [] (number_operand token)
number_seen token t v is_type is_value =
    ap (λ t. value_of t (v == 0) true) (is_type ∙ sym (renumbered_same (number_type token.text))) ∙
    (ap (λ v. value_of (renumbered same_number (number_type token.text)) (v == 0) true) is_value ∙
    ap (value_of (renumbered same_number (number_type token.text)) (number_value token.text == 0)) (sym (whole_integer (number_type token.text) (number_is token.text))))

byte_seen :
    (token : PlainToken) (values : Option (List ℕ)) → is_byte values ≡ true
    → fine (value_of int false true) ≡ outcome_as (type_of_operand same_number []) (or_broken (character_value values) >>= (λ z. give (of_value token int (constant z))))
byte_seen token None is = cc
byte_seen token (Some []) is = cc
byte_seen token (Some (byte ∷ [])) is = refl
byte_seen token (Some (byte ∷ next ∷ more)) is = cc

pub character_seen :
    (token : PlainToken) → is_byte (quoted_values token.text) ≡ true → fine (value_of int false true) ≡ outcome_as (type_of_operand same_number []) (character_operand token)
character_seen token is = byte_seen token (quoted_values token.text) is
