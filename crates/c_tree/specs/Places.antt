-- A model of the code, not part of the meaning:
-- Where a reader of tokens may stand in a node, and what the next token does there.
use Rattle.std.specs.Prelude.{ℕ, nat_le, Bool, true, false, not, ◌&&◌, List, [], ◌∷◌, ◌++◌, if◌then◌else◌}
use Rattle.std.specs.List.{list_any}
use Rattle.c_tree.specs.declared.kinds.Kind.{Kind}
use Rattle.c_tree.specs.declared.kinds.Kind.TheVariants as k
use Rattle.c_tree.specs.declared.terminals.Terminal.{Terminal}
use Rattle.c_tree.specs.declared.terminals.Terminal.TheVariants.{Name, Number, Character, Text, OpenParenthesis, CloseParenthesis, OpenBracket, OpenBrace, Semicolon, Comma, Question, Select, Step, Ampersand, Star, Sign, Negation, Divide, Shift, Relation, Equality, Caret, Bar, AndAnd, OrOr, Assign, CompoundAssign, Void, Inline, If, Else, While, Do, For, Jump, Return}
use Rattle.c_tree.specs.Terminals.{same, is_one_of}
use Rattle.c_tree.specs.Grammar.{Category, expression, arguments, cast_type, specifiers, declarators, initialiser, initialisers, statement, else_part, block, items, item, for_start, members, member, file_item, Role, file_first, file_inline, file_later, parameter_of, inline_parameter, Slot, word, perhaps, stars, needed, optional, row, bracketed_size, level, cast_types, types, file_types, tag_words, at_file_scope, may_be_initialised}

-- the words that a node of words may be
pub data Wording : Type 0 where
  cast_wording : Wording
  type_wording : Wording
  file_wording : Wording

abbrev pub wordings : Wording → List (List Terminal)
wordings cast_wording = cast_types
wordings type_wording = types
wordings file_wording = file_types

-- what the words of a declaration at file scope allow behind them
pub data Specified : Type 0 where
  -- `struct` and a name alone
  by_tag : Specified
  -- `inline` among them
  by_inline : Specified
  by_others : Specified

-- what the declarators of a declaration at file scope allow behind them
pub data Flavour : Type 0 where
  -- no function, or more than one declarator, or an initialiser
  object : Flavour
  -- a function without parameters, which must be defined
  empty : Flavour
  -- a function that may be defined
  definable : Flavour
  -- a function with a parameter without a name, which can't be defined
  prototype : Flavour

-- what parameters are so far
pub data Naming : Type 0 where
  lone_void : Naming
  named : Naming
  unnamed : Naming

-- A place in a node, behind the parts that have been read.
pub data Place : Type 0 where
  -- in a node with a fixed list of parts, with those that are still to come
  inside : Kind → List Slot → Place
  -- where an expression of at least this level begins
  operand : ℕ → Place
  -- behind an operand of a level, in an expression of at least another
  operator : ℕ → ℕ → Place
  -- behind a `(` that begins an expression of at least this level
  opened : ℕ → Place
  in_texts : Place
  in_words : Wording → List Terminal → Place
  -- in a list without commas
  in_list : Kind → Category → Place
  -- in a list with commas, behind an entry, and behind a comma
  entered : Kind → Category → Place
  separated_from : Kind → Category → Place
  -- at file scope: before and behind the words of a declaration, before and behind its declarators
  specifying : Place
  specified : Specified → Place
  declaring : Bool → Place
  declared : Bool → Flavour → Place
  -- in declarators: before a declarator, behind one, behind a comma, before an initialiser, behind one
  declarator_at : Role → Place
  declarator_read : Role → Flavour → Place
  declarator_next : Role → Place
  initialiser_next : Role → Place
  initialiser_read : Role → Place
  -- in a declarator: before its name (perhaps behind stars), behind it
  before_name : Role → Bool → Place
  behind_name : Role → Place
  -- in the brackets of a declarator that has a name or none
  in_brackets : Bool → List Slot → Place
  -- in the parentheses of a declarator: before and behind its parameters, behind the parentheses
  parameters_next : Role → Place
  parameters_read : Role → Flavour → Place
  behind_parameters : Flavour → Place
  -- in parameters, of an inline function or another: before the first, behind one, behind a comma
  parameter_at : Bool → List Naming → Place
  parameter_read : Bool → Naming → Place
  parameter_next : Bool → Naming → Place
  -- in a parameter: before its type, behind it (whether it is the lone word `void`), behind its declarator
  parameter_begins : Bool → Place
  parameter_typed : Bool → Bool → Place
  parameter_declared : Naming → Place

-- How a part begins with a token: the nodes around it from the outermost, each with the place behind the part in it, and the innermost,
-- of which the token is the first part, perhaps behind one that is left out.
pub data Beginning : Type 0 where
  no_beginning : Beginning
  begins : List Place → Bool → Place → Beginning

-- What a token does in a place.
pub data Move : Type 0 where
  -- it is the next part
  shifts : Place → Move
  -- a part begins with it; the place is the one to come back to
  enters : Place → Beginning → Move
  -- it is the second part of a node of which what has been read is the first; the place to come back to, and that in the new node
  takes : Place → Place → Move
  -- a part is left out before it
  skips : Move → Move
  -- the node is whole without it
  finishes : Kind → Move
  -- so is what has been read, which is a part of its own
  passes : Move
  fails : Move

abbrev pub around : Place → Beginning → Beginning
around outer no_beginning = no_beginning
around outer (begins places skipped inner) = begins (outer ∷ places) skipped inner

-- lists of words that go on from these
abbrev pub goes_on : List Terminal → List Terminal → Bool
goes_on [] full = true
goes_on (first ∷ rest) [] = false
goes_on (first ∷ rest) (second ∷ full) = same first second && goes_on rest full

abbrev pub are_same : List Terminal → List Terminal → Bool
are_same [] [] = true
are_same [] (second ∷ others) = false
are_same (first ∷ rest) [] = false
are_same (first ∷ rest) (second ∷ others) = same first second && are_same rest others

abbrev pub begins_words : Wording → Terminal → Beginning
begins_words wording token =
    if list_any (goes_on (token ∷ [])) (wordings wording) then begins [] false (in_words wording (token ∷ [])) else no_beginning

abbrev pub begins_expression : ℕ → Terminal → Beginning
begins_expression wanted Name = begins [] false (operator wanted 16)
begins_expression wanted Number = begins [] false (operator wanted 16)
begins_expression wanted Character = begins [] false (operator wanted 16)
begins_expression wanted Text = begins (operand wanted ∷ []) false in_texts
begins_expression wanted OpenParenthesis = begins (operand wanted ∷ []) false (opened wanted)
begins_expression wanted Ampersand = begins (operand wanted ∷ []) false (inside k.Prefix (needed (expression 13) ∷ []))
begins_expression wanted Star = begins (operand wanted ∷ []) false (inside k.Prefix (needed (expression 13) ∷ []))
begins_expression wanted Sign = begins (operand wanted ∷ []) false (inside k.Prefix (needed (expression 13) ∷ []))
begins_expression wanted Negation = begins (operand wanted ∷ []) false (inside k.Prefix (needed (expression 13) ∷ []))
begins_expression wanted Step = begins (operand wanted ∷ []) false (inside k.PrefixStep (needed (expression 14) ∷ []))
begins_expression wanted kind = no_beginning

abbrev pub behind_first : List Slot → List Slot
behind_first [] = []
behind_first (first ∷ rest) = rest

-- a node of a fixed list of parts, behind its first word
abbrev pub begins_row : Kind → Beginning
begins_row kind = begins [] false (inside kind (behind_first (row kind)))

abbrev pub begins_statement : Terminal → Beginning
begins_statement OpenBrace = begins_row k.Block
begins_statement Semicolon = begins [] true (inside k.ExpressionStatement [])
begins_statement If = begins_row k.If
begins_statement While = begins_row k.While
begins_statement Do = begins_row k.Do
begins_statement For = begins_row k.For
begins_statement Jump = begins_row k.Jump
begins_statement Return = begins_row k.Return
begins_statement token = around (inside k.ExpressionStatement (behind_first (row k.ExpressionStatement))) (begins_expression 1 token)

abbrev pub either : Beginning → Beginning → Beginning
either no_beginning second = second
either (begins places skipped inner) second = begins places skipped inner

abbrev pub begins_local : Terminal → Beginning
begins_local token = around (inside k.LocalDeclaration (behind_first (row k.LocalDeclaration))) (begins_words type_wording token)

abbrev pub begins_item : Terminal → Beginning
begins_item token = either (begins_local token) (begins_statement token)

abbrev pub begins_initialiser : Terminal → Beginning
begins_initialiser OpenBrace = begins_row k.Braces
begins_initialiser token = begins_expression 1 token

abbrev pub begins_for : Terminal → Beginning
begins_for Semicolon = begins [] true (inside k.ForStart [])
begins_for token =
    either (begins_local token) (around (inside k.ForStart (behind_first (row k.ForStart))) (begins_expression 1 token))

-- parameters may do without a name, but those of an inline function
abbrev pub begins_declarator : Role → Terminal → Beginning
begins_declarator role Star = begins [] false (before_name role true)
begins_declarator role Name = begins [] false (behind_name role)
begins_declarator parameter_of OpenBracket = begins [] false (in_brackets false (behind_first bracketed_size))
begins_declarator role token = no_beginning

abbrev pub begins_member : Terminal → Beginning
begins_member token = around (inside k.Member (behind_first (row k.Member))) (begins_words type_wording token)

abbrev pub begins_parameter : Bool → Terminal → Beginning
begins_parameter inline token = around (parameter_begins inline) (begins_words type_wording token)

abbrev pub begins_file_item : Terminal → Beginning
begins_file_item token = around specifying (begins_words file_wording token)

-- The parts that a node of a fixed list of parts needs. Those whose first places need more than a category have moves of their own.
abbrev pub begins_part : Category → Terminal → Beginning
begins_part (expression wanted) token = begins_expression wanted token
begins_part arguments token = around (entered k.Arguments (expression 1)) (begins_expression 1 token)
begins_part cast_type token = begins_words cast_wording token
begins_part specifiers token = begins_words type_wording token
begins_part (declarators role) token = around (declarator_at role) (begins_declarator role token)
begins_part statement token = begins_statement token
begins_part else_part Else = begins_row k.Else
begins_part block OpenBrace = begins_row k.Block
begins_part items token = around (in_list k.Items item) (begins_item token)
begins_part item token = begins_item token
begins_part for_start token = begins_for token
begins_part initialiser token = begins_initialiser token
begins_part initialisers token = around (entered k.Initialisers initialiser) (begins_initialiser token)
begins_part members token = around (in_list k.Members member) (begins_member token)
begins_part member token = begins_member token
begins_part file_item token = begins_file_item token
begins_part category token = no_beginning

abbrev pub or_fails : Place → Beginning → Move
or_fails behind no_beginning = fails
or_fails behind (begins places skipped inner) = enters behind (begins places skipped inner)

abbrev pub or_skips : Place → Beginning → Move → Move
or_skips behind no_beginning move = skips move
or_skips behind (begins places skipped inner) move = enters behind (begins places skipped inner)

abbrev pub or_ends : Place → Beginning → Kind → Move
or_ends behind no_beginning kind = finishes kind
or_ends behind (begins places skipped inner) kind = enters behind (begins places skipped inner)

-- in a node of a fixed list of parts
abbrev pub row_move : Kind → (List Slot → Place) → List Slot → Terminal → Move
row_move kind at [] token = finishes kind
row_move kind at (word terminals ∷ slots) token = if is_one_of terminals token then shifts (at slots) else fails
row_move kind at (needed category ∷ slots) token = or_fails (at slots) (begins_part category token)
row_move kind at (optional category ∷ slots) token = or_skips (at slots) (begins_part category token) (row_move kind at slots token)
row_move kind at (perhaps terminals ∷ slots) token = fails
row_move kind at (stars ∷ slots) token = fails

-- the operator behind a left operand, or behind the condition of `?:`, and the node that it makes
pub data Operator : Type 0 where
  no_operator : Operator
  operator_of : Kind → ℕ → Operator

abbrev pub operator_at : Terminal → Operator
operator_at Assign = operator_of k.Assignment 14
operator_at CompoundAssign = operator_of k.Assignment 14
operator_at Question = operator_of k.Conditional 3
operator_at OrOr = operator_of k.LogicalOr 3
operator_at AndAnd = operator_of k.LogicalAnd 4
operator_at Bar = operator_of k.Or 5
operator_at Caret = operator_of k.Xor 6
operator_at Ampersand = operator_of k.And 7
operator_at Equality = operator_of k.Equality 8
operator_at Relation = operator_of k.Relation 9
operator_at Shift = operator_of k.Shift 10
operator_at Sign = operator_of k.Sum 11
operator_at Star = operator_of k.Product 12
operator_at Divide = operator_of k.Product 12
operator_at Step = operator_of k.PostfixStep 15
operator_at OpenBracket = operator_of k.Index 15
operator_at OpenParenthesis = operator_of k.Call 15
operator_at Select = operator_of k.Selection 15
operator_at token = no_operator

-- an operator takes what has been read as its left operand where it binds tightly enough for the place, and so does the operand for it
abbrev pub operator_move : ℕ → ℕ → Operator → Move
operator_move wanted own no_operator = passes
operator_move wanted own (operator_of kind left) =
    if nat_le wanted (level kind) && nat_le left own
    then takes (operand wanted) (inside kind (behind_first (behind_first (row kind)))) else passes

abbrev pub opened_move : ℕ → Terminal → Move
opened_move wanted token = elim (begins_words cast_wording token) as (λ x. Move) [
  | begins places skipped inner ↦
      if nat_le wanted 13 then enters (inside k.Cast (word (CloseParenthesis ∷ []) ∷ needed (expression 13) ∷ [])) (begins places skipped inner)
      else fails
  | no_beginning ↦ or_fails (inside k.Parenthesized (word (CloseParenthesis ∷ []) ∷ [])) (begins_expression 1 token)
]

abbrev pub words_move : Wording → List Terminal → Terminal → Move
words_move wording words token =
    if list_any (goes_on (words ++ token ∷ [])) (wordings wording) then shifts (in_words wording (words ++ token ∷ []))
    else if list_any (are_same words) (wordings wording) then finishes k.Specifiers else fails

-- a comma behind the last initialiser of a list is lawful
abbrev pub may_end_with_comma : Kind → Bool
may_end_with_comma k.Initialisers = true
may_end_with_comma other = false

abbrev pub comma_move : Kind → Category → Terminal → Move
comma_move kind category token = elim (begins_part category token) as (λ x. Move) [
  | begins places skipped inner ↦ enters (entered kind category) (begins places skipped inner)
  | no_beginning ↦ if may_end_with_comma kind then finishes kind else fails
]

abbrev pub specified_move : Specified → Terminal → Move
specified_move by_tag OpenBrace = shifts (inside k.StructDefinition (behind_first (behind_first (row k.StructDefinition))))
specified_move by_tag Semicolon = shifts (inside k.StructDeclaration [])
specified_move by_inline token = or_fails (declaring true) (around (declarator_at file_inline) (begins_declarator file_inline token))
specified_move words token = or_fails (declaring false) (around (declarator_at file_first) (begins_declarator file_first token))

abbrev pub may_be_declared_so : Bool → Flavour → Bool
may_be_declared_so true flavour = false
may_be_declared_so false empty = false
may_be_declared_so false other = true

abbrev pub may_be_defined_so : Flavour → Bool
may_be_defined_so empty = true
may_be_defined_so definable = true
may_be_defined_so other = false

abbrev pub declared_move : Bool → Flavour → Terminal → Move
declared_move inline flavour Semicolon =
    if may_be_declared_so inline flavour then shifts (inside k.Declaration []) else fails
declared_move inline flavour OpenBrace =
    if may_be_defined_so flavour then enters (inside k.Function []) (begins_row k.Block) else fails
declared_move inline flavour token = fails

abbrev pub is_inline_role : Role → Bool
is_inline_role file_inline = true
is_inline_role inline_parameter = true
is_inline_role other = false

abbrev pub later : Role → Role
later file_first = file_later
later other = other

abbrev pub declarator_read_move : Role → Flavour → Terminal → Move
declarator_read_move role flavour Comma =
    if may_be_declared_so (is_inline_role role) flavour then shifts (declarator_next (later role)) else fails
declarator_read_move role flavour Assign =
    if may_be_declared_so (is_inline_role role) flavour && may_be_initialised role then shifts (initialiser_next role) else fails
declarator_read_move role flavour token = finishes k.Declarators

abbrev pub initialiser_read_move : Role → Terminal → Move
initialiser_read_move role Comma = shifts (declarator_next (later role))
initialiser_read_move role token = finishes k.Declarators

abbrev pub before_name_move : Role → Terminal → Move
before_name_move role Star = shifts (before_name role true)
before_name_move role Name = shifts (behind_name role)
before_name_move parameter_of OpenBracket = shifts (in_brackets false (behind_first bracketed_size))
before_name_move parameter_of token = finishes k.Declarator
before_name_move role token = fails

abbrev pub behind_name_move : Role → Terminal → Move
behind_name_move file_inline OpenBracket = finishes k.Declarator
behind_name_move role OpenBracket = shifts (in_brackets true (behind_first bracketed_size))
behind_name_move role OpenParenthesis = if at_file_scope role then shifts (parameters_next role) else finishes k.Declarator
behind_name_move role token = finishes k.Declarator

abbrev pub is_later : Role → Bool
is_later file_later = true
is_later other = false

abbrev pub parameters_next_move : Role → Terminal → Move
parameters_next_move role CloseParenthesis = if is_later role then fails else skips (shifts (behind_parameters empty))
parameters_next_move role token =
    or_fails (parameters_read role empty) (around (parameter_at (is_inline_role role) []) (begins_parameter (is_inline_role role) token))

abbrev pub parameters_read_move : Role → Flavour → Terminal → Move
parameters_read_move role flavour CloseParenthesis =
    if is_inline_role role && not (may_be_defined_so flavour) then fails else shifts (behind_parameters flavour)
parameters_read_move role flavour token = fails

abbrev pub may_go_on : Bool → Naming → Bool
may_go_on false naming = true
may_go_on true named = true
may_go_on true other = false

abbrev pub parameter_read_move : Bool → Naming → Terminal → Move
parameter_read_move inline naming Comma = if may_go_on inline naming then shifts (parameter_next inline naming) else fails
parameter_read_move inline naming token = finishes k.Parameters

abbrev pub parameter_role : Bool → Role
parameter_role true = inline_parameter
parameter_role false = parameter_of

abbrev pub parameter_typed_move : Bool → Terminal → Move
parameter_typed_move inline token =
    or_skips (parameter_declared unnamed) (begins_declarator (parameter_role inline) token) (finishes k.Parameter)

-- What a token does in a place.
abbrev pub move : Place → Terminal → Move
move (inside kind slots) token = row_move kind (inside kind) slots token
move (operand wanted) token = fails
move (operator wanted own) token = operator_move wanted own (operator_at token)
move (opened wanted) token = opened_move wanted token
move in_texts Text = shifts in_texts
move in_texts kind = finishes k.Texts
move (in_words wording words) token = words_move wording words token
move (in_list kind category) token = or_ends (in_list kind category) (begins_part category token) kind
move (entered kind category) Comma = shifts (separated_from kind category)
move (entered kind category) token = finishes kind
move (separated_from kind category) token = comma_move kind category token
move specifying token = fails
move (specified words) token = specified_move words token
move (declaring inline) token = fails
move (declared inline flavour) token = declared_move inline flavour token
move (declarator_at role) token = fails
move (declarator_read role flavour) token = declarator_read_move role flavour token
move (declarator_next role) token = or_fails (declarator_at role) (begins_declarator role token)
move (initialiser_next role) token = or_fails (initialiser_read role) (begins_initialiser token)
move (initialiser_read role) token = initialiser_read_move role token
move (before_name role starred) token = before_name_move role token
move (behind_name role) token = behind_name_move role token
move (in_brackets has_name slots) token = row_move k.ArrayDeclarator (in_brackets has_name) slots token
move (parameters_next role) token = parameters_next_move role token
move (parameters_read role flavour) token = parameters_read_move role flavour token
move (behind_parameters flavour) token = finishes k.FunctionDeclarator
move (parameter_at inline before) token = fails
move (parameter_read inline naming) token = parameter_read_move inline naming token
move (parameter_next inline naming) token = or_fails (parameter_at inline (naming ∷ [])) (begins_parameter inline token)
move (parameter_begins inline) token = fails
move (parameter_typed inline lone) token = parameter_typed_move inline token
move (parameter_declared naming) token = finishes k.Parameter

-- The level of an expression by the place at which it ended.
abbrev pub level_at : Place → ℕ
level_at (inside kind slots) = level kind
level_at other = 16

abbrev pub specified_by : List Terminal → Specified
specified_by words =
    if are_same words tag_words then by_tag else if list_any (same Inline) words then by_inline else by_others

abbrev pub words_at : Place → List Terminal
words_at (in_words wording words) = words
words_at other = []

abbrev pub flavour_of : Naming → Flavour
flavour_of lone_void = definable
flavour_of named = definable
flavour_of unnamed = prototype

-- the flavour of a declarator by the place at which it ended
abbrev pub flavour_at : Place → Flavour
flavour_at (behind_parameters flavour) = flavour
flavour_at (parameter_read inline naming) = flavour_of naming
flavour_at (declarator_read file_first flavour) = flavour
flavour_at (declarator_read file_inline flavour) = flavour
flavour_at other = object

abbrev pub naming_at : Place → Naming
naming_at (behind_name role) = named
naming_at (in_brackets true slots) = named
naming_at (parameter_typed inline true) = lone_void
naming_at (parameter_declared naming) = naming
naming_at other = unnamed

-- with the parameters before it
abbrev pub joined_naming : List Naming → Naming → Naming
joined_naming [] naming = naming
joined_naming (named ∷ others) named = named
joined_naming (first ∷ others) naming = unnamed

-- The place behind a part, by the place to come back to and the one at which the part ended.
abbrev pub back : Place → Place → Place
back (operand wanted) ended = operator wanted (level_at ended)
back specifying ended = specified (specified_by (words_at ended))
back (declaring inline) ended = declared inline (flavour_at ended)
back (declarator_at role) ended = declarator_read role (flavour_at ended)
back (parameters_read role flavour) ended = parameters_read role (flavour_at ended)
back (parameter_at inline before) ended = parameter_read inline (joined_naming before (naming_at ended))
back (parameter_begins inline) ended = parameter_typed inline (are_same (words_at ended) (Void ∷ []))
back (parameter_declared naming) ended = parameter_declared (naming_at ended)
back place ended = place
