-- A model of the code, not part of the meaning:
-- An expression of `#if` read token by token: operands and connectives that wait for more, and what these make of their operands.
use Rattle.std.specs.Prelude.{ℕ, ◌+◌, ◌^◌, min, max, Bool, true, false, not, nat_lt, nat_le, ℤ, List, [], ◌∷◌, map, codes, if◌then◌else◌, Option, Some, None, option_and_then}
use Rattle.std.specs.Str.{bytes_eq}
use Rattle.c_text.specs.declared.token.TokenKind.{TokenKind}
use Rattle.c_text.specs.declared.token.TokenKind.TheVariants.{Name, Keyword, Number, Character, Punctuator}
use Rattle.c_text.specs.Token.{PlainToken}
use Rattle.c_text.specs.Constants.{is_unsigned, number_value}
use Rattle.c_text.specs.Expressions.{Unary, unary_plus, unary_minus, negation, complement, Binary, times, over, remainder, plus, minus, left_shift, right_shift, less, greater, at_most, at_least, equal, unequal, bits_and, bits_xor, bits_or, both, either, Word, word_of, Expression, operand, parenthesized, unary, binary, conditional, unary_text, binary_text, binary_level, highest, operand_value, unary_value, of_one, connected, chosen, height, value}

-- what operands and connectives make: expressions, or outcomes
pub record Algebra (A : Type 0) : Type 0 where
  pub of_word : Word → A
  pub in_group : A → A
  pub of_unary : Unary → A → A
  pub of_binary : Binary → A → A → A
  pub of_choice : A → A → A → A

-- What waits for an operand: an open parenthesis, an operator before it, a left operand with its connective, the first operand of `?`,
-- or the first two of `?` and `:`.
pub data Pending (A : Type 0) : Type 0 where
  opened : Pending A
  prefixed : Unary → Pending A
  joined : A → Binary → Pending A
  asked : A → Pending A
  parted : A → A → Pending A

-- an operand, if the last tokens are one, and what waits, the innermost first
pub record Place (A : Type 0) : Type 0 where
  pub last : Option A
  pub waits : List (Pending A)

-- what a token says where an operand is wanted
pub data Front : Type 0 where
  stands : Front
  opens : Front
  prefixes : Unary → Front
  misplaced : Front

-- what a token says behind an operand
pub data Sign : Type 0 where
  connects : Binary → Sign
  asks : Sign
  parts : Sign
  closes : Sign
  ends : Sign

abbrev pub all_unary : List Unary
all_unary = unary_plus ∷ unary_minus ∷ negation ∷ complement ∷ []

abbrev pub all_binary : List Binary
all_binary =
    times ∷ over ∷ remainder ∷ plus ∷ minus ∷ left_shift ∷ right_shift ∷ less ∷ greater ∷ at_most ∷ at_least
    ∷ equal ∷ unequal ∷ bits_and ∷ bits_xor ∷ bits_or ∷ both ∷ either ∷ []

-- the first one of this spelling
abbrev pub spelled_first : {A : Type 0} → (A → List ℕ) → List ℕ → List A → Option A
spelled_first spelling text [] = None
spelled_first spelling text (x ∷ xs) = if bytes_eq (spelling x) text then Some x else spelled_first spelling text xs

abbrev pub unary_of : List ℕ → Option Unary
unary_of text = spelled_first unary_text text all_unary

abbrev pub binary_of : List ℕ → Option Binary
binary_of text = spelled_first binary_text text all_binary

-- whether a token may stand as an operand
abbrev pub is_operand : TokenKind → List ℕ → Bool
is_operand Number text = if is_unsigned text then false else nat_lt (number_value text) (2 ^ 63)
is_operand Character text = true
is_operand Name text = not (bytes_eq text (codes "defined"))
is_operand Keyword text = true
is_operand other text = false

abbrev pub prefix_or : Option Unary → Front
prefix_or None = misplaced
prefix_or (Some op) = prefixes op

abbrev pub front_mark : List ℕ → Front
front_mark text = if bytes_eq (codes "(") text then opens else prefix_or (unary_of text)

abbrev pub front_of : TokenKind → List ℕ → Front
front_of Punctuator text = front_mark text
front_of kind text = if is_operand kind text then stands else misplaced

abbrev pub other_sign : List ℕ → Sign
other_sign text =
    if bytes_eq (codes "?") text then asks
    else if bytes_eq (codes ":") text then parts
    else if bytes_eq (codes ")") text then closes else ends

abbrev pub connective_or : Sign → Option Binary → Sign
connective_or sign None = sign
connective_or sign (Some op) = connects op

abbrev pub sign_of : TokenKind → List ℕ → Sign
sign_of Punctuator text = connective_or (other_sign text) (binary_of text)
sign_of kind text = ends

-- before a sign, what waits and holds its last operand at least this tightly takes it
abbrev pub sign_level : Sign → ℕ
sign_level (connects op) = binary_level op
sign_level asks = 2
sign_level other = 1

-- how tightly what waits holds its last operand; 0 where only a sign of its own ends that
abbrev pub pending_level : {A : Type 0} → Pending A → ℕ
pending_level opened = 0
pending_level (prefixed op) = 12
pending_level (joined a op) = binary_level op
pending_level (asked a) = 0
pending_level (parted a b) = 1

-- an operand is wanted
abbrev pub wanting : {A : Type 0} → List (Pending A) → Option (Place A)
wanting ps = Some (record { last = None; waits = ps })

-- a `:` behind what is settled
abbrev pub at_colon : {A : Type 0} → A → List (Pending A) → Option (Place A)
at_colon x (asked a ∷ ps) = wanting (parted a x ∷ ps)
at_colon x ps = None

-- an operand that nothing waits for
abbrev pub if_alone : {A : Type 0} → Option A → List (Pending A) → Option A
if_alone last [] = last
if_alone last (p ∷ ps) = None

abbrev pub whole : {A : Type 0} → Place A → Option A
whole place = if_alone place.last place.waits

module _ {A : Type 0} (R : Algebra A) where
  -- what waits, with its last operand
  abbrev pub completed : Pending A → A → A
  completed opened x = x
  completed (prefixed op) x = R.of_unary op x
  completed (joined a op) x = R.of_binary op a x
  completed (asked a) x = x
  completed (parted a b) x = R.of_choice a b x

  -- an operand, once all that holds it this tightly has taken it
  abbrev pub settled : ℕ → A → List (Pending A) → Place A
  settled level x [] = record { last = Some x; waits = [] }
  settled level x (p ∷ ps) =
      if nat_le level (pending_level p) then settled level (completed p x) ps
      else record { last = Some x; waits = p ∷ ps }

  -- a word where an operand is wanted
  abbrev pub at_front : Front → Word → List (Pending A) → Option (Place A)
  at_front stands word ps = Some (record { last = Some (R.of_word word); waits = ps })
  at_front opens word ps = wanting (opened ∷ ps)
  at_front (prefixes op) word ps = wanting (prefixed op ∷ ps)
  at_front misplaced word ps = None

  -- a `)` behind what is settled
  abbrev pub at_close : A → List (Pending A) → Option (Place A)
  at_close x (opened ∷ ps) = Some (record { last = Some (R.in_group x); waits = ps })
  at_close x ps = None

  abbrev pub with_sign : Sign → A → List (Pending A) → Option (Place A)
  with_sign (connects op) x ps = wanting (joined x op ∷ ps)
  with_sign asks x ps = wanting (asked x ∷ ps)
  with_sign parts x ps = at_colon x ps
  with_sign closes x ps = at_close x ps
  with_sign ends x ps = None

  -- a word behind an operand
  abbrev pub place_behind : Sign → Place A → Option (Place A)
  place_behind sign place = option_and_then (λ x. with_sign sign x place.waits) place.last

  abbrev pub next : Option A → List (Pending A) → Word → Option (Place A)
  next None ps word = at_front (front_of word.kind word.text) word ps
  next (Some x) ps word =
      place_behind (sign_of word.kind word.text) (settled (sign_level (sign_of word.kind word.text)) x ps)

  -- the words end here
  abbrev pub finished : Option A → List (Pending A) → Option A
  finished None ps = None
  finished (Some x) ps = whole (settled 1 x ps)

  -- what the words are, behind what is read
  abbrev pub read : Place A → List Word → Option A
  read place [] = finished place.last place.waits
  read place (word ∷ words) = option_and_then (λ p. read p words) (next place.last place.waits word)

abbrev pub at_start : {A : Type 0} → Place A
at_start = record { last = None; waits = [] }

abbrev pub trees : Algebra Expression
trees = record {
  of_word = operand;
  in_group = parenthesized;
  of_unary = unary;
  of_binary = binary;
  of_choice = conditional;
}

-- how high an expression is, up to one above the highest, and its value
pub record Outcome : Type 0 where
  pub height : ℕ
  pub value : Option ℤ

abbrev pub outcome_of : Expression → Outcome
outcome_of e = record { height = min (height e) 129; value = value e }

-- one higher, where that still counts
abbrev pub raised : ℕ → ℕ
raised n = min n 128 + 1

abbrev pub outcomes : Algebra Outcome
outcomes = record {
  of_word = λ word. record { height = 1; value = Some (operand_value word.kind word.text) };
  in_group = λ a. record { height = raised a.height; value = a.value };
  of_unary = λ op a. record { height = raised a.height; value = of_one (unary_value op) a.value };
  of_binary = λ op a b. record { height = raised (max a.height b.height); value = connected op a.value b.value };
  of_choice = λ a b c. record {
    height = raised (max a.height (max b.height c.height));
    value = chosen a.value b.value c.value;
  };
}

-- the value of a whole expression that is no higher than it may be
abbrev pub answer : Option Outcome → Option ℤ
answer None = None
answer (Some a) = if nat_le a.height highest then a.value else None

abbrev pub evaluated : List PlainToken → Option ℤ
evaluated tokens = answer (read outcomes at_start (map word_of tokens))
