-- The grammar (ISO/IEC 9899:2011, 6.5 to 6.9): which trees are units. It is given as writing: the parts of each kind of node, in their order.
use Rattle.std.specs.Prelude.{ℕ, ◌+◌, nat_le, Bool, true, false, not, ◌&&◌, ◌||◌, List, [], ◌∷◌, ◌++◌, map, if◌then◌else◌}
use Rattle.std.specs.List.{list_any, flat_map}
use Rattle.c_tree.specs.declared.kinds.Kind.{Kind}
use Rattle.c_tree.specs.declared.kinds.Kind.TheVariants.{Absent, Unit, Function, Declaration, StructDefinition, StructDeclaration, Members, Member, LocalDeclaration, Specifiers, Declarators, Declarator, ArrayDeclarator, FunctionDeclarator, Parameters, Parameter, Braces, Initialisers, Block, Items, ExpressionStatement, If, Else, While, Do, For, ForStart, Jump, Return, Assignment, Conditional, LogicalOr, LogicalAnd, Or, Xor, And, Equality, Relation, Shift, Sum, Product, Cast, Prefix, PrefixStep, PostfixStep, Index, Call, Arguments, Selection, Parenthesized, Texts}
use Rattle.c_tree.specs.declared.terminals.Terminal.{Terminal}
use Rattle.c_tree.specs.declared.terminals.Terminal.TheVariants as t
use Rattle.c_tree.specs.Terminals.{terminal, same, is_one_of}
use Rattle.c_tree.specs.Trees.{PlainTree, PlainTrees, leaf, node, none, more}

-- where a declarator stands, which decides what it may be: the first ones at file scope may still turn out to be a function's
pub data Role : Type 0 where
  file_first : Role
  file_inline : Role
  file_later : Role
  local : Role
  member_of : Role
  parameter_of : Role
  inline_parameter : Role

-- what may stand in a place
pub data Category : Type 0 where
  -- an expression that binds at least as tightly as this level
  expression : ℕ → Category
  arguments : Category
  cast_type : Category
  -- the words of a type
  specifiers : Category
  -- the same, perhaps after words of storage
  file_specifiers : Category
  -- `struct` and a name
  tag : Category
  declarators : Role → Category
  declarator : Role → Category
  -- a declarator that may do without a name
  abstract_declarator : Category
  parameters : Category
  parameter : Category
  initialiser : Category
  initialisers : Category
  statement : Category
  else_part : Category
  block : Category
  items : Category
  item : Category
  for_start : Category
  members : Category
  member : Category
  file_item : Category

-- what a node needs in a place
pub data Slot : Type 0 where
  -- a token of these
  word : List Terminal → Slot
  -- perhaps a token of these
  perhaps : List Terminal → Slot
  -- stars, as many as there are
  stars : Slot
  needed : Category → Slot
  -- a part, or what stands for it where it is left out
  optional : Category → Slot

-- How tightly the operators bind, from 1, the assignment, to 16, what needs no operator; 0 is no expression (6.5.1 to 6.5.16).
abbrev pub level : Kind → ℕ
level Assignment = 1
level Conditional = 2
level LogicalOr = 3
level LogicalAnd = 4
level Or = 5
level Xor = 6
level And = 7
level Equality = 8
level Relation = 9
level Shift = 10
level Sum = 11
level Product = 12
level Cast = 13
level Prefix = 14
level PrefixStep = 14
level PostfixStep = 15
level Index = 15
level Call = 15
level Selection = 15
level Parenthesized = 16
level Texts = 16
level other = 0

-- a left operand may have the operator's own level, a right one may not
abbrev pub binary : ℕ → List Terminal → List Slot
binary own operators = needed (expression own) ∷ word operators ∷ needed (expression (own + 1)) ∷ []

abbrev pub parenthesized_condition : List Slot → List Slot
parenthesized_condition behind =
    word (t.OpenParenthesis ∷ []) ∷ needed (expression 1) ∷ word (t.CloseParenthesis ∷ []) ∷ behind

abbrev pub bracketed_size : List Slot
bracketed_size = word (t.OpenBracket ∷ []) ∷ optional (expression 2) ∷ word (t.CloseBracket ∷ []) ∷ []

-- The parts of the kinds that have as many parts each time.
abbrev pub row : Kind → List Slot
row Assignment = needed (expression 14) ∷ word (t.Assign ∷ t.CompoundAssign ∷ []) ∷ needed (expression 1) ∷ []
row Conditional =
    needed (expression 3) ∷ word (t.Question ∷ []) ∷ needed (expression 1) ∷ word (t.Colon ∷ []) ∷ needed (expression 2) ∷ []
row LogicalOr = binary 3 (t.OrOr ∷ [])
row LogicalAnd = binary 4 (t.AndAnd ∷ [])
row Or = binary 5 (t.Bar ∷ [])
row Xor = binary 6 (t.Caret ∷ [])
row And = binary 7 (t.Ampersand ∷ [])
row Equality = binary 8 (t.Equality ∷ [])
row Relation = binary 9 (t.Relation ∷ [])
row Shift = binary 10 (t.Shift ∷ [])
row Sum = binary 11 (t.Sign ∷ [])
row Product = binary 12 (t.Star ∷ t.Divide ∷ [])
row Cast =
    word (t.OpenParenthesis ∷ []) ∷ needed cast_type ∷ word (t.CloseParenthesis ∷ []) ∷ needed (expression 13) ∷ []
row Prefix = word (t.Ampersand ∷ t.Star ∷ t.Sign ∷ t.Negation ∷ []) ∷ needed (expression 13) ∷ []
row PrefixStep = word (t.Step ∷ []) ∷ needed (expression 14) ∷ []
row PostfixStep = needed (expression 15) ∷ word (t.Step ∷ []) ∷ []
row Index =
    needed (expression 15) ∷ word (t.OpenBracket ∷ []) ∷ needed (expression 1) ∷ word (t.CloseBracket ∷ []) ∷ []
row Call =
    needed (expression 15) ∷ word (t.OpenParenthesis ∷ []) ∷ optional arguments ∷ word (t.CloseParenthesis ∷ []) ∷ []
row Selection = needed (expression 15) ∷ word (t.Select ∷ []) ∷ word (t.Name ∷ []) ∷ []
row Parenthesized = parenthesized_condition []
row Block = word (t.OpenBrace ∷ []) ∷ optional items ∷ word (t.CloseBrace ∷ []) ∷ []
row ExpressionStatement = optional (expression 1) ∷ word (t.Semicolon ∷ []) ∷ []
row If = word (t.If ∷ []) ∷ parenthesized_condition (needed statement ∷ optional else_part ∷ [])
row Else = word (t.Else ∷ []) ∷ needed statement ∷ []
row While = word (t.While ∷ []) ∷ parenthesized_condition (needed statement ∷ [])
row Do =
    word (t.Do ∷ []) ∷ needed statement ∷ word (t.While ∷ []) ∷ parenthesized_condition (word (t.Semicolon ∷ []) ∷ [])
row For =
    word (t.For ∷ []) ∷ word (t.OpenParenthesis ∷ []) ∷ needed for_start ∷ optional (expression 1)
    ∷ word (t.Semicolon ∷ []) ∷ optional (expression 1) ∷ word (t.CloseParenthesis ∷ []) ∷ needed statement ∷ []
row ForStart = optional (expression 1) ∷ word (t.Semicolon ∷ []) ∷ []
row Jump = word (t.Jump ∷ []) ∷ word (t.Semicolon ∷ []) ∷ []
row Return = word (t.Return ∷ []) ∷ optional (expression 1) ∷ word (t.Semicolon ∷ []) ∷ []
row LocalDeclaration = needed specifiers ∷ needed (declarators local) ∷ word (t.Semicolon ∷ []) ∷ []
row Member = needed specifiers ∷ needed (declarators member_of) ∷ word (t.Semicolon ∷ []) ∷ []
row Declaration = needed file_specifiers ∷ needed (declarators file_first) ∷ word (t.Semicolon ∷ []) ∷ []
row Function = needed file_specifiers ∷ needed (declarators file_first) ∷ needed block ∷ []
row StructDefinition =
    needed tag ∷ word (t.OpenBrace ∷ []) ∷ needed members ∷ word (t.CloseBrace ∷ []) ∷ word (t.Semicolon ∷ []) ∷ []
row StructDeclaration = needed tag ∷ word (t.Semicolon ∷ []) ∷ []
row Braces = word (t.OpenBrace ∷ []) ∷ needed initialisers ∷ word (t.CloseBrace ∷ []) ∷ []
row Parameter = needed specifiers ∷ optional abstract_declarator ∷ []
row Declarator = stars ∷ word (t.Name ∷ []) ∷ []
row ArrayDeclarator = stars ∷ word (t.Name ∷ []) ∷ bracketed_size
row FunctionDeclarator =
    stars ∷ word (t.Name ∷ []) ∷ word (t.OpenParenthesis ∷ []) ∷ optional parameters ∷ word (t.CloseParenthesis ∷ []) ∷ []
row other = []

-- The words of a type (6.7.2), and those of storage before it (6.7.1, 6.7.4).
abbrev pub arithmetic_types : List (List Terminal)
arithmetic_types =
    (t.Char ∷ []) ∷ (t.Unsigned ∷ t.Char ∷ []) ∷ (t.Int ∷ []) ∷ (t.Unsigned ∷ []) ∷ (t.Unsigned ∷ t.Int ∷ [])
    ∷ (t.Long ∷ []) ∷ (t.Long ∷ t.Int ∷ []) ∷ (t.Unsigned ∷ t.Long ∷ []) ∷ (t.Unsigned ∷ t.Long ∷ t.Int ∷ []) ∷ []

abbrev pub tag_words : List Terminal
tag_words = t.Struct ∷ t.Name ∷ []

abbrev pub cast_types : List (List Terminal)
cast_types = (t.Void ∷ []) ∷ arithmetic_types

abbrev pub types : List (List Terminal)
types = tag_words ∷ cast_types

abbrev pub storages : List (List Terminal)
storages = [] ∷ (t.Static ∷ []) ∷ (t.Static ∷ t.Inline ∷ []) ∷ (t.Extern ∷ []) ∷ []

abbrev pub file_types : List (List Terminal)
file_types = flat_map (λ storage. map (λ words. storage ++ words) types) storages

-- the parts are tokens of these terminals
abbrev pub are_words : List Terminal → PlainTrees → Bool
are_words [] none = true
are_words [] (more part rest) = false
are_words (first ∷ words) none = false
are_words (first ∷ words) (more (leaf token) rest) = same first (terminal token) && are_words words rest
are_words (first ∷ words) (more (node kind parts) rest) = false

abbrev pub are_words_of : List (List Terminal) → PlainTrees → Bool
are_words_of lists parts = list_any (λ words. are_words words parts) lists

abbrev pub is_kind : Kind → Kind → Bool
is_kind Absent Absent = true
is_kind Absent other = false
is_kind FunctionDeclarator FunctionDeclarator = true
is_kind FunctionDeclarator other = false
is_kind Parameters Parameters = true
is_kind Parameters other = false
is_kind first second = false

abbrev pub is_absent : PlainTree → Bool
is_absent (node Absent none) = true
is_absent other = false

-- a word among the parts
abbrev pub has_word : Terminal → PlainTrees → Bool
has_word wanted none = false
has_word wanted (more (leaf token) rest) = same wanted (terminal token) || has_word wanted rest
has_word wanted (more (node kind parts) rest) = has_word wanted rest

-- whether the statement is one to which an `else` behind it would belong (6.8.4.1): its last part is an `if` without `else`
abbrev mutual
  pub takes_else : PlainTree → Bool
  takes_else (leaf token) = false
  takes_else (node Absent parts) = true
  takes_else (node If parts) = last_takes_else parts
  takes_else (node Else parts) = last_takes_else parts
  takes_else (node While parts) = last_takes_else parts
  takes_else (node For parts) = last_takes_else parts
  takes_else (node other parts) = false

  pub last_takes_else : PlainTrees → Bool
  last_takes_else none = false
  last_takes_else (more first none) = takes_else first
  last_takes_else (more first (more second rest)) = last_takes_else (more second rest)

-- an `if` with an `else` has no `if` in between to which that `else` would belong
abbrev pub nearest_if : PlainTrees → Bool
nearest_if (more w (more o (more e (more c (more inner (more other none)))))) = is_absent other || not (takes_else inner)
nearest_if other = false

-- a name behind the stars of a declarator; another may stand in its brackets
abbrev pub has_name : PlainTrees → Bool
has_name none = false
has_name (more (leaf token) rest) = same t.Name (terminal token) || (same t.Star (terminal token) && has_name rest)
has_name (more (node kind parts) rest) = false

-- the parameters of a definition: none, the lone `void`, or each with its name (6.9.1)
abbrev pub is_named : PlainTree → Bool
is_named (leaf comma) = true
is_named (node kind (more words (more (node inner parts) none))) = has_name parts
is_named other = false

abbrev pub all_named : PlainTrees → Bool
all_named none = true
all_named (more part rest) = is_named part && all_named rest

abbrev pub is_lone_void : PlainTrees → Bool
is_lone_void (more (node kind (more (node specifying words) (more second none))) none) =
    are_words (t.Void ∷ []) words && is_absent second
is_lone_void other = false

abbrev pub may_be_defined : PlainTrees → Bool
may_be_defined none = true
may_be_defined (more (leaf token) rest) = may_be_defined rest
may_be_defined (more (node kind parts) rest) =
    (if is_kind Parameters kind then is_lone_void parts || all_named parts else true) && may_be_defined rest

-- the one declarator of a function's definition
abbrev pub defines_function : PlainTree → Bool
defines_function (node Declarators (more (node kind parts) none)) = is_kind FunctionDeclarator kind && may_be_defined parts
defines_function other = false

-- only a definition has no parameters at all, and only a definition is inline
abbrev pub has_absent : PlainTrees → Bool
has_absent none = false
has_absent (more part rest) = is_absent part || has_absent rest

abbrev pub lacks_parameters : PlainTrees → Bool
lacks_parameters none = false
lacks_parameters (more (leaf token) rest) = lacks_parameters rest
lacks_parameters (more (node kind parts) rest) = (is_kind FunctionDeclarator kind && has_absent parts) || lacks_parameters rest

abbrev pub is_inline : PlainTree → Bool
is_inline (leaf token) = false
is_inline (node kind words) = has_word t.Inline words

abbrev pub may_be_declared : PlainTree → PlainTree → Bool
may_be_declared words (leaf token) = false
may_be_declared words (node kind parts) = not (is_inline words) && not (lacks_parameters parts)

abbrev pub at_file_scope : Role → Bool
at_file_scope file_first = true
at_file_scope file_inline = true
at_file_scope file_later = true
at_file_scope other = false

abbrev pub may_be_initialised : Role → Bool
may_be_initialised local = true
may_be_initialised role = at_file_scope role

abbrev pub is_statement : Kind → Bool
is_statement Block = true
is_statement ExpressionStatement = true
is_statement If = true
is_statement While = true
is_statement Do = true
is_statement For = true
is_statement Jump = true
is_statement Return = true
is_statement kind = false

-- which nodes may stand in a place of a category
abbrev pub belongs : Category → Kind → Bool
belongs (expression wanted) kind = nat_le 1 (level kind) && nat_le wanted (level kind)
belongs arguments Arguments = true
belongs cast_type Specifiers = true
belongs specifiers Specifiers = true
belongs file_specifiers Specifiers = true
belongs tag Specifiers = true
belongs (declarators role) Declarators = true
belongs (declarator role) Declarator = true
belongs (declarator role) ArrayDeclarator = true
belongs (declarator role) FunctionDeclarator = at_file_scope role
belongs abstract_declarator Declarator = true
belongs abstract_declarator ArrayDeclarator = true
belongs parameters Parameters = true
belongs parameter Parameter = true
belongs initialiser Braces = true
belongs initialiser kind = nat_le 1 (level kind)
belongs initialisers Initialisers = true
belongs statement kind = is_statement kind
belongs else_part Else = true
belongs block Block = true
belongs items Items = true
belongs item LocalDeclaration = true
belongs item kind = is_statement kind
belongs for_start LocalDeclaration = true
belongs for_start ForStart = true
belongs members Members = true
belongs member Member = true
belongs file_item Function = true
belongs file_item Declaration = true
belongs file_item StructDefinition = true
belongs file_item StructDeclaration = true
belongs category kind = false

-- How the parts of a node follow one another.
pub data Shape : Type 0 where
  -- a fixed list of places
  in_row : List Slot → Shape
  -- words that are one of these lists
  of_words : List (List Terminal) → Shape
  -- one or more texts
  of_texts : Shape
  -- parts of a category, one or more
  repeated : Category → Shape
  -- parts of a category, perhaps none
  any_number : Category → Shape
  -- one or more, with commas between them
  separated : Category → Shape
  -- the same, perhaps with a comma behind the last
  separated_or_ended : Category → Shape
  -- declarators with their initialisers
  declaring : Role → Shape

abbrev pub shape : Category → Kind → Shape
shape category Unit = any_number file_item
shape category Members = repeated member
shape category Items = repeated item
shape category Arguments = separated (expression 1)
shape category Parameters = separated parameter
shape category Initialisers = separated_or_ended initialiser
shape category Texts = of_texts
shape (declarators role) Declarators = declaring role
shape cast_type Specifiers = of_words cast_types
shape file_specifiers Specifiers = of_words file_types
shape tag Specifiers = of_words (tag_words ∷ [])
shape category Specifiers = of_words types
shape abstract_declarator Declarator = in_row (stars ∷ perhaps (t.Name ∷ []) ∷ [])
shape abstract_declarator ArrayDeclarator = in_row (stars ∷ perhaps (t.Name ∷ []) ∷ bracketed_size)
shape category kind = in_row (row kind)

abbrev pub any_part : PlainTrees → Bool
any_part none = false
any_part (more part rest) = true

-- what the parts of a node must besides agree in
abbrev pub agree : Kind → PlainTrees → Bool
agree If parts = nearest_if parts
agree Function (more words (more declared (more body none))) = defines_function declared
agree Declaration (more words (more declared (more end none))) = may_be_declared words declared
agree Declarator parts = any_part parts
agree kind parts = true

-- What an expression may be without an operator (6.5.1).
abbrev pub is_single : Category → Terminal → Bool
is_single (expression wanted) token = is_one_of (t.Name ∷ t.Number ∷ t.Character ∷ []) token
is_single initialiser token = is_one_of (t.Name ∷ t.Number ∷ t.Character ∷ []) token
is_single other token = false

abbrev pub is_word : List Terminal → PlainTree → Bool
is_word terminals (leaf token) = is_one_of terminals (terminal token)
is_word terminals (node kind parts) = false

abbrev pub are_texts : PlainTrees → Bool
are_texts none = true
are_texts (more part rest) = is_word (t.Text ∷ []) part && are_texts rest

-- what the next part of a node must be, and what is needed behind it
pub data Next : Type 0 where
  fine : List Slot → Next
  must_be : Category → List Slot → Next
  wrong : Next

abbrev pub next_part : List Slot → PlainTree → Next
next_part [] tree = wrong
next_part (word terminals ∷ slots) tree = if is_word terminals tree then fine slots else wrong
next_part (perhaps terminals ∷ slots) tree = if is_word terminals tree then fine slots else next_part slots tree
next_part (stars ∷ slots) tree = if is_word (t.Star ∷ []) tree then fine (stars ∷ slots) else next_part slots tree
next_part (needed category ∷ slots) tree = must_be category slots
next_part (optional category ∷ slots) tree = if is_absent tree then fine slots else must_be category slots

abbrev pub nothing_is_needed : List Slot → Bool
nothing_is_needed [] = true
nothing_is_needed (perhaps terminals ∷ slots) = nothing_is_needed slots
nothing_is_needed (stars ∷ slots) = nothing_is_needed slots
nothing_is_needed (other ∷ slots) = false

-- Whether a tree may stand in a place of a category.
abbrev mutual
  pub is_a : Category → PlainTree → Bool
  is_a category (leaf token) = is_single category (terminal token)
  is_a category (node kind parts) = belongs category kind && agree kind parts && elim (shape category kind) as (λ x. Bool) [
    | in_row slots ↦ are_in_row slots parts
    | of_words lists ↦ are_words_of lists parts
    | of_texts ↦ are_texts parts && any_part parts
    | repeated each ↦ are_each each parts && any_part parts
    | any_number each ↦ are_each each parts
    | separated each ↦ are_separated each parts
    | separated_or_ended each ↦ are_separated_or_ended each parts
    | declaring role ↦ are_declared role parts
  ]

  pub are_in_row : List Slot → PlainTrees → Bool
  are_in_row slots none = nothing_is_needed slots
  are_in_row slots (more tree rest) = elim (next_part slots tree) as (λ x. Bool) [
    | fine others ↦ are_in_row others rest
    | must_be category others ↦ is_a category tree && are_in_row others rest
    | wrong ↦ false
  ]

  pub are_each : Category → PlainTrees → Bool
  are_each category none = true
  are_each category (more tree rest) = is_a category tree && are_each category rest

  pub are_separated : Category → PlainTrees → Bool
  are_separated category none = false
  are_separated category (more tree none) = is_a category tree
  are_separated category (more tree (more comma rest)) =
      is_a category tree && is_word (t.Comma ∷ []) comma && are_separated category rest

  pub are_separated_or_ended : Category → PlainTrees → Bool
  are_separated_or_ended category none = false
  are_separated_or_ended category (more tree none) = is_a category tree
  are_separated_or_ended category (more tree (more comma none)) = is_a category tree && is_word (t.Comma ∷ []) comma
  are_separated_or_ended category (more tree (more comma (more next rest))) =
      is_a category tree && is_word (t.Comma ∷ []) comma && are_separated_or_ended category (more next rest)

  -- declarators with commas between them, each perhaps with `=` and an initialiser
  pub are_declared : Role → PlainTrees → Bool
  are_declared role none = false
  are_declared role (more tree rest) = is_a (declarator role) tree && may_follow_declarator role rest

  pub may_follow_declarator : Role → PlainTrees → Bool
  may_follow_declarator role none = true
  may_follow_declarator role (more sign none) = false
  may_follow_declarator role (more sign (more tree rest)) =
      if is_word (t.Comma ∷ []) sign then is_a (declarator role) tree && may_follow_declarator role rest
      else is_word (t.Assign ∷ []) sign && may_be_initialised role && is_a initialiser tree && may_follow_initialiser role rest

  pub may_follow_initialiser : Role → PlainTrees → Bool
  may_follow_initialiser role none = true
  may_follow_initialiser role (more comma rest) = is_word (t.Comma ∷ []) comma && are_declared role rest

-- the tree of a unit, of any height
abbrev pub is_unit : PlainTree → Bool
is_unit (leaf token) = false
is_unit (node Unit parts) = are_each file_item parts
is_unit (node kind parts) = false
