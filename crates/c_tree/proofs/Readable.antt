-- What it means that a tree is read as itself: in each place that wants it, whatever may follow it there.
use Rattle.std.proofs.Common.{◌≡◌, ℕ, ◌+◌, ◌<◌, Bool, true, false, not, ◌&&◌, ◌||◌, List, [], ◌∷◌, ◌++◌}
use Rattle.std.specs.Prelude.{IsTrue, nat_le, if◌then◌else◌}
use Rattle.c_text.specs.Token.{PlainToken}
use Rattle.c_tree.specs.declared.kinds.Kind.TheVariants as k
use Rattle.c_tree.specs.declared.terminals.Terminal.{Terminal}
use Rattle.c_tree.specs.declared.terminals.Terminal.TheVariants as t
use Rattle.c_tree.specs.Terminals.{same, is_one_of}
use Rattle.c_tree.specs.Trees.{PlainTree, PlainTrees, leaf, node, none, more, written}
use Rattle.c_tree.specs.Grammar.{Category, expression, arguments, cast_type, specifiers, file_specifiers, tag, declarators, declarator, abstract_declarator, parameters, parameter, initialiser, initialisers, statement, else_part, block, items, item, for_start, members, member, file_item, Role, file_first, file_inline, file_later, local, member_of, level, is_a, takes_else, at_file_scope, has_name, is_named, all_named, is_lone_void, is_kind, has_absent, may_be_defined, lacks_parameters, defines_function}
use Rattle.c_tree.specs.Places.{Place, operator, parameter_at, parameter_read, declarator_at, back, Operator, no_operator, operator_of, operator_at, Beginning, around, begins_expression, begins_part, begins_declarator, begins_parameter, parameter_role, Naming, named, lone_void, naming_at, flavour_of, flavour_at, may_be_declared_so, may_be_defined_so}
use Rattle.c_tree.specs.Machine.{Frame, frame}
use Rattle.c_tree.proofs.Coming.{is_beginning, ahead, reading, arriving, entering}

-- the level of the node that an operator makes, or 0 where the terminal is none behind an operand
abbrev pub binds_of : Operator → ℕ
binds_of no_operator = 0
binds_of (operator_of kind left) = level kind

-- a further text lengthens texts, whatever is wanted
abbrev pub binds : Terminal → ℕ
binds t.Text = 17
binds x = binds_of (operator_at x)

abbrev pub level_of : PlainTree → ℕ
level_of (leaf token) = 16
level_of (node kind parts) = level kind

-- what an operator's level must be below so that no place on the right edge of an expression of a level takes it
abbrev pub edge : ℕ → ℕ
edge l = if nat_le l 2 then l else if nat_le l 12 then l + 1 else if nat_le l 14 then 13 else 17

abbrev pub expression_firsts : List Terminal
expression_firsts =
    t.Name ∷ t.Number ∷ t.Character ∷ t.Text ∷ t.OpenParenthesis ∷ t.Ampersand ∷ t.Star ∷ t.Sign ∷ t.Negation ∷ t.Step ∷ []

abbrev pub statement_firsts : List Terminal
statement_firsts =
    t.OpenBrace ∷ t.Semicolon ∷ t.If ∷ t.While ∷ t.Do ∷ t.For ∷ t.Jump ∷ t.Return ∷ []

abbrev pub cast_firsts : List Terminal
cast_firsts = t.Void ∷ t.Char ∷ t.Unsigned ∷ t.Int ∷ t.Long ∷ []

abbrev pub type_firsts : List Terminal
type_firsts = t.Struct ∷ cast_firsts

-- the terminals with which a part of a category may begin
abbrev pub firsts : Category → List Terminal
firsts (expression wanted) = expression_firsts
firsts arguments = expression_firsts
firsts cast_type = cast_firsts
firsts specifiers = type_firsts
firsts file_specifiers = t.Static ∷ t.Extern ∷ type_firsts
firsts tag = type_firsts
firsts (declarators role) = t.Star ∷ t.Name ∷ []
firsts (declarator role) = t.Star ∷ t.Name ∷ []
firsts abstract_declarator = t.Star ∷ t.Name ∷ t.OpenBracket ∷ []
firsts parameters = type_firsts
firsts parameter = type_firsts
firsts initialiser = t.OpenBrace ∷ expression_firsts
firsts initialisers = t.OpenBrace ∷ expression_firsts
firsts statement = statement_firsts ++ expression_firsts
firsts else_part = t.Else ∷ []
firsts block = t.OpenBrace ∷ []
firsts items = type_firsts ++ statement_firsts ++ expression_firsts
firsts item = type_firsts ++ statement_firsts ++ expression_firsts
firsts for_start = type_firsts ++ t.Semicolon ∷ expression_firsts
firsts members = type_firsts
firsts member = type_firsts
firsts file_item = t.Static ∷ t.Extern ∷ type_firsts

-- no `else` behind a statement that would take it
abbrev pub MayFollowStatement : PlainTree → Terminal → Type 0
MayFollowStatement tree x = IsTrue (not (takes_else tree && same t.Else x))

-- what may follow a part so that it isn't lengthened
abbrev pub MayFollow : Category → PlainTree → Terminal → Type 0
MayFollow (expression wanted) tree x = (binds x < wanted) × (binds x < edge (level_of tree))
MayFollow arguments tree x = IsTrue (is_one_of (t.CloseParenthesis ∷ []) x)
MayFollow cast_type tree x = IsTrue (is_one_of (t.CloseParenthesis ∷ []) x)
MayFollow specifiers tree x = IsTrue (is_one_of (t.Star ∷ t.Name ∷ t.OpenBracket ∷ t.CloseParenthesis ∷ t.Comma ∷ []) x)
MayFollow (declarators role) tree x = IsTrue (is_one_of (t.Semicolon ∷ []) x)
MayFollow initialiser tree x = IsTrue (is_one_of (t.Comma ∷ t.CloseBrace ∷ t.Semicolon ∷ []) x)
MayFollow initialisers tree x = IsTrue (is_one_of (t.CloseBrace ∷ []) x)
MayFollow statement tree x = MayFollowStatement tree x
MayFollow else_part tree x = MayFollowStatement tree x
MayFollow item tree x = MayFollowStatement tree x
MayFollow items tree x = IsTrue (is_one_of (t.CloseBrace ∷ []) x)
MayFollow members tree x = IsTrue (is_one_of (t.CloseBrace ∷ []) x)
MayFollow category tree x = Unit {0}

-- the categories of parts behind which the place doesn't depend on the part
abbrev pub is_steady : Category → Bool
is_steady (expression wanted) = true
is_steady arguments = true
is_steady cast_type = true
is_steady specifiers = true
is_steady (declarators local) = true
is_steady (declarators member_of) = true
is_steady initialiser = true
is_steady initialisers = true
is_steady statement = true
is_steady else_part = true
is_steady block = true
is_steady items = true
is_steady item = true
is_steady for_start = true
is_steady members = true
is_steady member = true
is_steady file_item = true
is_steady category = false

-- an expression is read as the first operand of its place
abbrev pub Opens : ℕ → PlainTree → Type 0
Opens wanted tree =
    (frames : List (Frame PlainTree)) (rest : List PlainToken) → binds (ahead rest) < edge (level_of tree)
    → entering (begins_expression wanted) frames (written tree rest)
    ≡ reading (frame (operator wanted (level_of tree)) (tree ∷ []) ∷ frames) rest

-- a part is read as the next part of the node around it
abbrev pub Joins : Category → PlainTree → Type 0
Joins category tree =
    (place : Place) (parts : List PlainTree) (frames : List (Frame PlainTree)) (rest : List PlainToken)
    → ((ended : Place) → back place ended ≡ place) → MayFollow category tree (ahead rest)
    → entering (begins_part category) (frame place parts ∷ frames) (written tree rest)
    ≡ reading (frame place (parts ++ tree ∷ []) ∷ frames) rest

-- ---- parts behind which the place depends on how they ended

abbrev pub has_name_of : PlainTree → Bool
has_name_of (leaf token) = false
has_name_of (node kind parts) = has_name parts

-- the declarator of a parameter
pub record AbstractRead (inline : Bool) (tree : PlainTree) : Type 0 where
  pub ended : Place
  pub reads :
      (frames : List (Frame PlainTree)) (rest : List PlainToken) → IsTrue (is_one_of (t.Comma ∷ t.CloseParenthesis ∷ []) (ahead rest))
      → entering (begins_declarator (parameter_role inline)) frames (written tree rest) ≡ arriving tree ended frames rest
  pub named_so : IsTrue (has_name_of tree) → naming_at ended ≡ named
  pub begins_so : (rest : List PlainToken) → IsTrue (is_beginning (begins_declarator (parameter_role inline) (ahead (written tree rest))))

abbrev pub is_void : PlainTree → Bool
is_void tree = is_lone_void (more tree none)

pub record ParameterRead (inline : Bool) (tree : PlainTree) : Type 0 where
  pub ended : Place
  pub reads :
      (frames : List (Frame PlainTree)) (rest : List PlainToken) → IsTrue (is_one_of (t.Comma ∷ t.CloseParenthesis ∷ []) (ahead rest))
      → entering (begins_parameter inline) frames (written tree rest) ≡ arriving tree ended frames rest
  pub named_so : IsTrue (is_named tree) → naming_at ended ≡ named
  pub void_so : IsTrue (is_void tree) → naming_at ended ≡ lone_void

abbrev pub begins_parameters : Bool → Terminal → Beginning
begins_parameters inline x = around (parameter_at inline []) (begins_parameter inline x)

-- the parameters that a definition may have
abbrev pub are_definable : PlainTree → Bool
are_definable (leaf token) = false
are_definable (node kind parts) = is_lone_void parts || all_named parts

pub record ParametersRead (inline : Bool) (tree : PlainTree) : Type 0 where
  pub naming : Naming
  pub reads :
      (frames : List (Frame PlainTree)) (rest : List PlainToken) → IsTrue (is_one_of (t.CloseParenthesis ∷ []) (ahead rest))
      → entering (begins_parameters inline) frames (written tree rest) ≡ arriving tree (parameter_read inline naming) frames rest
  pub definable_so : IsTrue (are_definable tree) → IsTrue (may_be_defined_so (flavour_of naming))

-- a function without parameters
abbrev pub lacks : PlainTree → Bool
lacks (leaf token) = false
lacks (node kind parts) = is_kind k.FunctionDeclarator kind && has_absent parts

-- a function that may be defined
abbrev pub defines : PlainTree → Bool
defines (leaf token) = false
defines (node kind parts) = is_kind k.FunctionDeclarator kind && may_be_defined parts

-- what a place asks of a declarator besides
abbrev pub suits : Role → PlainTree → Bool
suits file_inline tree = defines tree
suits file_later tree = not (lacks tree)
suits role tree = true

pub record DeclaratorRead (role : Role) (tree : PlainTree) : Type 0 where
  pub ended : Place
  pub reads :
      (frames : List (Frame PlainTree)) (rest : List PlainToken)
      → IsTrue (is_one_of (t.Comma ∷ t.Assign ∷ t.Semicolon ∷ t.OpenBrace ∷ []) (ahead rest))
      → entering (begins_declarator role) frames (written tree rest) ≡ arriving tree ended frames rest
  pub declarable_so : IsTrue (not (lacks tree)) → IsTrue (may_be_declared_so false (flavour_at ended))
  pub definable_so : IsTrue (defines tree) → IsTrue (may_be_defined_so (flavour_at ended))

abbrev pub begins_declarators : Role → Terminal → Beginning
begins_declarators role x = around (declarator_at role) (begins_declarator role x)

-- the declarators of a declaration at file scope
abbrev pub may_be_declarators : PlainTree → Bool
may_be_declarators (leaf token) = false
may_be_declarators (node kind parts) = not (lacks_parameters parts)

pub record DeclarationRead (tree : PlainTree) : Type 0 where
  pub ended : Place
  pub reads :
      (frames : List (Frame PlainTree)) (rest : List PlainToken) → IsTrue (is_one_of (t.Semicolon ∷ []) (ahead rest))
      → entering (begins_declarators file_first) frames (written tree rest) ≡ arriving tree ended frames rest
  pub declarable_so : IsTrue (may_be_declared_so false (flavour_at ended))

abbrev pub first_role : Bool → Role
first_role true = file_inline
first_role false = file_first

-- the declarator of a definition
pub record DefinitionRead (inline : Bool) (tree : PlainTree) : Type 0 where
  pub ended : Place
  pub reads :
      (frames : List (Frame PlainTree)) (rest : List PlainToken) → IsTrue (is_one_of (t.OpenBrace ∷ []) (ahead rest))
      → entering (begins_declarators (first_role inline)) frames (written tree rest) ≡ arriving tree ended frames rest
  pub definable_so : IsTrue (may_be_defined_so (flavour_at ended))

pub record Readable (tree : PlainTree) : Type 0 where
  pub first :
      (category : Category) → IsTrue (is_a category tree) → (rest : List PlainToken)
      → IsTrue (is_one_of (firsts category) (ahead (written tree rest)))
  pub opens : (wanted : ℕ) → IsTrue (is_a (expression wanted) tree) → Opens wanted tree
  pub joins : (category : Category) → IsTrue (is_steady category) → IsTrue (is_a category tree) → Joins category tree
  pub abstract_reads :
      (inline : Bool) → IsTrue (is_a abstract_declarator tree) → IsTrue (not inline || has_name_of tree) → AbstractRead inline tree
  pub parameter_reads :
      (inline : Bool) → IsTrue (is_a parameter tree) → IsTrue (not inline || (is_named tree || is_void tree)) → ParameterRead inline tree
  pub parameters_reads :
      (inline : Bool) → IsTrue (is_a parameters tree) → IsTrue (not inline || are_definable tree) → ParametersRead inline tree
  pub declarator_reads :
      (asked role : Role) → IsTrue (is_a (declarator asked) tree) → (IsTrue (at_file_scope asked) → IsTrue (at_file_scope role))
      → IsTrue (suits role tree) → DeclaratorRead role tree
  pub declaration_reads : IsTrue (is_a (declarators file_first) tree) → IsTrue (may_be_declarators tree) → DeclarationRead tree
  pub definition_reads :
      (inline : Bool) → IsTrue (is_a (declarators file_first) tree) → IsTrue (defines_function tree) → DefinitionRead inline tree

abbrev pub AllReadable : PlainTrees → Type 0
AllReadable none = Unit {0}
AllReadable (more tree rest) = Readable tree × AllReadable rest

-- the trees of a list
abbrev pub listed : PlainTrees → List PlainTree
listed none = []
listed (more tree rest) = tree ∷ listed rest
