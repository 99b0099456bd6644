-- How many bytes texts in a row have, and what they are by that (ISO/IEC 9899:2011, 6.4.5, 6.5.1).
use Rattle.std.specs.Prelude.{ℕ, ◌+◌, true, false, List, length, Option, Some, None}
use Rattle.c_text.specs.Constants.{quoted_values}
use Rattle.c_types.specs.Types.{char, array_of}
use Rattle.c_tree.specs.Trees.{PlainTree, PlainTrees, leaf, node, none, more}
use Rattle.conditional.specs.Judgements.{fine}
use Rattle.operand_types.specs.OperandTypes.{lvalue}
use Rattle.expression_types.specs.Reading.{Outcome, no_outcome}
use Rattle.cond_typing.specs.declared.lengths.TextLength.{TextLength}
use Rattle.cond_typing.specs.declared.lengths.TextLength.TheVariants.{NoText, Bytes, Unreadable}

abbrev pub Length : Type 0
Length = TextLength

abbrev pub same_length : TextLength → Length
same_length n = n

-- the length of texts and of texts behind them
abbrev pub joined : TextLength → TextLength → TextLength
joined Unreadable b = Unreadable
joined NoText b = b
joined (Bytes m) NoText = Bytes m
joined (Bytes m) (Bytes n) = Bytes (m + n)
joined (Bytes m) Unreadable = Unreadable

abbrev pub length_of_bytes : Option (List ℕ) → TextLength
length_of_bytes None = Unreadable
length_of_bytes (Some bytes) = Bytes (length bytes)

abbrev pub text_length : PlainTree → TextLength
text_length (leaf token) = length_of_bytes (quoted_values token.text)
text_length (node kind parts) = Unreadable

abbrev pub row_length : PlainTrees → TextLength
row_length none = NoText
row_length (more text rest) = joined (text_length text) (row_length rest)

-- an array with a zero behind the text
abbrev pub array_of_length : TextLength → Outcome
array_of_length (Bytes n) = fine (record { ty = array_of char (n + 1); category = lvalue true; is_null = false; has_complete_struct = true })
array_of_length other = no_outcome
