-- What a directive line says (ISO/IEC 9899:2011, 6.10), by its tokens, of which the first is `#`.
use Rattle.std.specs.Prelude.{ℕ, Bool, true, false, ◌&&◌, ◌||◌, List, [], ◌∷◌, map, codes, if◌then◌else◌, Option, Some, None}
use Rattle.std.specs.List.{list_any}
use Rattle.std.specs.Str.{bytes_eq}
use Rattle.c_text.specs.declared.origin.Place.TheVariants as place
use Rattle.c_text.specs.declared.token.TokenKind.{TokenKind}
use Rattle.c_text.specs.declared.token.TokenKind.TheVariants.{Name, Keyword, Text}
use Rattle.c_text.specs.Token.{PlainToken}

-- a macro: an object-like one has no list of parameters
pub record PlainMacro : Type 0 where
  pub name : List ℕ
  pub params : Option (List (List ℕ))
  pub body : List PlainToken

pub data PlainDirective : Type 0 where
  if_line : List PlainToken → PlainDirective
  ifdef_line : PlainToken → PlainDirective
  ifndef_line : PlainToken → PlainDirective
  elif_line : List PlainToken → PlainDirective
  else_line : PlainDirective
  endif_line : PlainDirective
  define_line : PlainMacro → PlainDirective
  -- a `#define` or `#undef` of the right form that no macro may have, whatever is defined
  bad_define : PlainDirective
  undef_line : PlainToken → PlainDirective
  -- the tokens behind the directive's name
  include_line : List PlainToken → PlainDirective
  error_line : PlainDirective
  null_line : PlainDirective
  malformed : PlainDirective

abbrev pub is_spelled : List ℕ → PlainToken → Bool
is_spelled text token = bytes_eq token.text text

-- an identifier of the preprocessor: keywords are ordinary there
abbrev pub is_word_kind : TokenKind → Bool
is_word_kind Name = true
is_word_kind Keyword = true
is_word_kind other = false

abbrev pub is_word : PlainToken → Bool
is_word token = is_word_kind token.kind

abbrev pub is_text_kind : TokenKind → Bool
is_text_kind Text = true
is_text_kind other = false

abbrev pub is_keyword_kind : TokenKind → Bool
is_keyword_kind Keyword = true
is_keyword_kind other = false

-- the names of which no macro may be made, and which no active token may be
abbrev pub predefined_names : List (List ℕ)
predefined_names =
    codes "__LINE__" ∷ codes "__FILE__" ∷ codes "__DATE__" ∷ codes "__TIME__" ∷ codes "__STDC__" ∷ codes "__STDC_VERSION__"
    ∷ codes "__STDC_HOSTED__" ∷ codes "__VA_ARGS__" ∷ codes "__func__" ∷ codes "_Pragma" ∷ []

abbrev pub is_predefined : PlainToken → Bool
is_predefined token = list_any (bytes_eq token.text) predefined_names

-- a name that no macro may have, whatever the features are
abbrev pub is_fixed_name : PlainToken → Bool
is_fixed_name token = is_keyword_kind token.kind || is_spelled (codes "defined") token || is_predefined token

-- `#`, `##` or `...`, which no macro's body may hold
abbrev pub is_barred : PlainToken → Bool
is_barred token = is_spelled (codes "#") token || is_spelled (codes "##") token || is_spelled (codes "...") token

abbrev pub has_repetition : List (List ℕ) → Bool
has_repetition [] = false
has_repetition (first ∷ rest) = list_any (bytes_eq first) rest || has_repetition rest

-- what the parentheses of a function-like macro hold, and the tokens behind them
pub record Parameters : Type 0 where
  pub names : List (List ℕ)
  pub variadic : Bool
  pub body : List PlainToken

abbrev pub parameters : List (List ℕ) → Bool → List PlainToken → Parameters
parameters names variadic body = record { names = names; variadic = variadic; body = body }

abbrev pub with_name : List ℕ → Option Parameters → Option Parameters
with_name name None = None
with_name name (Some p) = Some (parameters (name ∷ p.names) p.variadic p.body)

-- behind `...` only `)` may stand
abbrev pub behind_dots : List PlainToken → Option Parameters
behind_dots [] = None
behind_dots (token ∷ rest) = if is_spelled (codes ")") token then Some (parameters [] true rest) else None

abbrev mutual
  -- where a parameter must stand
  pub at_parameter : List PlainToken → Option Parameters
  at_parameter [] = None
  at_parameter (token ∷ rest) =
      if is_spelled (codes "...") token then behind_dots rest
      else if is_word token then with_name token.text (behind_parameter rest) else None

  pub behind_parameter : List PlainToken → Option Parameters
  behind_parameter [] = None
  behind_parameter (token ∷ rest) =
      if is_spelled (codes ")") token then Some (parameters [] false rest)
      else if is_spelled (codes ",") token then at_parameter rest else None

-- what stands behind `(`: parameters with commas between them, and `)`
abbrev pub parameters_of : List PlainToken → Option Parameters
parameters_of [] = None
parameters_of (token ∷ rest) =
    if is_spelled (codes ")") token then Some (parameters [] false rest) else at_parameter (token ∷ rest)

-- a token of a `#define` line
abbrev pub in_body : PlainToken → PlainToken
in_body token = record token { origin = record token.origin { place = place.MacroBody } }

abbrev pub macro_line : Bool → PlainToken → Option (List (List ℕ)) → List PlainToken → PlainDirective
macro_line bad name params body =
    if bad || is_fixed_name name || list_any is_barred body then bad_define
    else define_line (record { name = name.text; params = params; body = map in_body body })

abbrev pub function_like : PlainToken → Option Parameters → PlainDirective
function_like name None = malformed
function_like name (Some p) = macro_line (p.variadic || has_repetition p.names) name (Some p.names) p.body

-- a `(` that follows the name at once begins parameters
abbrev pub definition : PlainToken → List PlainToken → PlainDirective
definition name [] = macro_line false name None []
definition name (token ∷ rest) =
    if is_spelled (codes "(") token && token.joined then function_like name (parameters_of rest)
    else macro_line false name None (token ∷ rest)

-- by the identifier that must come first
abbrev pub by_word : (PlainToken → List PlainToken → PlainDirective) → List PlainToken → PlainDirective
by_word make [] = malformed
by_word make (token ∷ rest) = if is_word token then make token rest else malformed

abbrev pub removal : PlainToken → List PlainToken → PlainDirective
removal name rest = if is_fixed_name name then bad_define else undef_line name

-- the last token is `>`, and not the first
abbrev pub ends_with_angle : List PlainToken → Bool
ends_with_angle [] = false
ends_with_angle (first ∷ []) = false
ends_with_angle (first ∷ last ∷ []) = is_spelled (codes ">") last
ends_with_angle (first ∷ second ∷ third ∷ rest) = ends_with_angle (second ∷ third ∷ rest)

-- one text alone, or `<`, tokens and `>`
abbrev pub inclusion : List PlainToken → PlainDirective
inclusion [] = malformed
inclusion (only ∷ []) = if is_text_kind only.kind then include_line (only ∷ []) else malformed
inclusion (first ∷ second ∷ rest) =
    if is_spelled (codes "<") first && ends_with_angle (second ∷ rest) then include_line (first ∷ second ∷ rest) else malformed

-- by the directive's name
abbrev pub named_directive : PlainToken → List PlainToken → PlainDirective
named_directive name rest =
    if is_spelled (codes "if") name then if_line rest
    else if is_spelled (codes "ifdef") name then by_word (λ token more. ifdef_line token) rest
    else if is_spelled (codes "ifndef") name then by_word (λ token more. ifndef_line token) rest
    else if is_spelled (codes "elif") name then elif_line rest
    else if is_spelled (codes "else") name then else_line
    else if is_spelled (codes "endif") name then endif_line
    else if is_spelled (codes "define") name then by_word definition rest
    else if is_spelled (codes "undef") name then by_word removal rest
    else if is_spelled (codes "include") name then inclusion rest
    else if is_spelled (codes "error") name then error_line
    else malformed

-- a directive line with these tokens
abbrev pub directive_of : List PlainToken → PlainDirective
directive_of [] = malformed
directive_of (hash ∷ []) = null_line
directive_of (hash ∷ name ∷ rest) = named_directive name rest
