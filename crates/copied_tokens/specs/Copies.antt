-- The tokens of files of which the tokens that preprocessing gives are copies (ISO/IEC 9899:2011, 6.10.3).
use Rattle.std.specs.Prelude.{◌≡◌, ◌<◌, ℕ, false, List, length, Contains, IsTrue}
use Rattle.c_text.specs.declared.origin.Place.TheVariants.{MacroBody}
use Rattle.c_text.specs.Token.{PlainToken}
use Rattle.c_text.specs.Lines.{PlainLine, AreItsLines}
use Rattle.c_text.specs.Directives.{is_word, is_predefined}
use Rattle.c_text.specs.Preprocessing.{Sources, file_at, built_in_file, built_in_text}

-- In the file with this number and these bytes a token of this kind and text stands where the token comes from, on a line that is no
-- directive line.
pub record IsOnTextLine (number : ℕ) (bytes : List ℕ) (token : PlainToken) : Type 0 where
  pub lines : List PlainLine
  pub are_lines : AreItsLines number bytes lines
  pub line : PlainLine
  pub among : Contains lines line
  pub text_line : line.directive ≡ false
  pub copied : PlainToken
  pub within : Contains line.tokens copied
  pub kind : copied.kind ≡ token.kind
  pub text : copied.text ≡ token.text
  pub span : copied.origin.span ≡ token.origin.span
  pub file : token.origin.file ≡ number

-- It is a copy of a token on a text line of one of the project's files or of a built-in header, or comes out of the body of a macro.
pub data IsCopied (s : Sources) (token : PlainToken) : Type 0 where
  from_file : (number : ℕ) → number < length s.files → IsOnTextLine number (file_at s number).bytes token → IsCopied s token
  from_header : IsOnTextLine built_in_file built_in_text token → IsCopied s token
  from_body : token.origin.place ≡ MacroBody → IsCopied s token

-- If it is a name that is predefined, it comes out of the body of a macro.
abbrev pub IsFromBodyIfPredefined : PlainToken → Type 0
IsFromBodyIfPredefined token = IsTrue (is_word token) → IsTrue (is_predefined token) → token.origin.place ≡ MacroBody
