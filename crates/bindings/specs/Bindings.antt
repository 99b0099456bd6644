-- The bindings of a unit (ISO/IEC 9899:2011, 6.2.1 to 6.2.3, 6.7, 6.8.2, 6.8.5): each identifier with the token that first declares what it
-- stands for, whatever the types are. Trees are read in the order of the text.
use Rattle.std.specs.Prelude.{ℕ, Bool, true, false, List, [], Option, Some, None, if◌then◌else◌}
use Rattle.c_text.specs.Token.{PlainToken}
use Rattle.c_tree.specs.declared.kinds.Kind.TheVariants as k
use Rattle.c_tree.specs.declared.terminals.Terminal.TheVariants as t
use Rattle.c_tree.specs.Terminals.{terminal, same}
use Rattle.c_tree.specs.Trees.{PlainTree, PlainTrees, leaf, node, none, more}
use Rattle.core_meaning.specs.Declarations.{name_in}
use Rattle.bindings.specs.Visible.{ordinary, members_of, look_up, bound_to, Occurrence, Reading, start, passed, occurs, with_file_entry, with_block_entry, leave, used, member_used, tag_named}

abbrev pub is_name : PlainToken → Bool
is_name token = same t.Name (terminal token)

-- ---- expressions and initialisers: each name is a use of an ordinary name, but for a member's behind `.` or `->`

abbrev mutual
  pub read_expression : PlainTree → Reading → Reading
  read_expression (leaf token) r = if is_name token then used token r else passed r
  read_expression (node k.Selection (more structure (more (leaf sign) (more (leaf name) none)))) r =
      member_used name (passed (read_expression structure r))
  read_expression (node kind parts) r = read_expressions parts r

  pub read_expressions : PlainTrees → Reading → Reading
  read_expressions none r = r
  read_expressions (more tree rest) r = read_expressions rest (read_expression tree r)

-- ---- the words of a type: a name is a tag

abbrev pub read_words : Bool → PlainTrees → Reading → Reading
read_words may_declare none r = r
read_words may_declare (more (leaf token) rest) r =
    read_words may_declare rest (if is_name token then tag_named may_declare token r else passed r)
read_words may_declare (more (node kind parts) rest) r = read_words may_declare rest (read_expressions parts r)

-- ---- declarators

-- where a name is declared: at file scope, in a block or a list of parameters, among the members of a struct with this tag
pub data Where : Type 0 where
  at_file : Where
  in_block : Where
  among_members : List ℕ → Where

-- An undeclared tag declares a struct in a declaration at file scope and in a member, and nowhere else.
abbrev pub may_declare_tags : Where → Bool
may_declare_tags in_block = false
may_declare_tags other = true

-- The token that declares a name at file scope: the first, as all declarations of the name there are of one entity (6.2.2). Each
-- other declarator declares an entity of its own.
abbrev pub first_or : Option ℕ → ℕ → ℕ
first_or None by = by
first_or (Some first) by = first

abbrev pub declaring : Where → PlainToken → Reading → ℕ
declaring at_file token r = first_or (look_up ordinary token.text r.file) r.next
declaring other token r = r.next

abbrev pub declared : Where → PlainToken → ℕ → Reading → Reading
declared at_file token by r = with_file_entry ordinary token.text by r
declared in_block token by r = with_block_entry token.text by r
declared (among_members tag) token by r = with_file_entry (members_of tag) token.text by r

-- A name is visible behind its declarator. What stands behind the name in it is read so; a name in brackets is none that is declared.
module _ (behind : PlainTrees → Reading → Reading) (place : Where) where
  abbrev pub read_declarator : PlainTrees → Reading → Reading
  read_declarator none r = r
  read_declarator (more (leaf token) rest) r =
      if is_name token
      then declared place token (declaring place token r) (behind rest (occurs token (bound_to (declaring place token r)) r))
      else if same t.OpenBracket (terminal token) then read_expressions rest (passed r)
      else read_declarator rest (passed r)
  read_declarator (more (node kind parts) rest) r = read_expressions rest (read_expressions parts r)

  -- a declarator, or an initialiser or a sign between them
  abbrev pub read_declared : PlainTree → Reading → Reading
  read_declared (node k.Declarator parts) r = read_declarator parts r
  read_declared (node k.ArrayDeclarator parts) r = read_declarator parts r
  read_declared (node k.FunctionDeclarator parts) r = read_declarator parts r
  read_declared other r = read_expression other r

  abbrev pub read_declarators : PlainTrees → Reading → Reading
  read_declarators none r = r
  read_declarators (more tree rest) r = read_declarators rest (read_declared tree r)

-- ---- parameters

abbrev pub read_parameter : PlainTree → Reading → Reading
read_parameter (node k.Parameter (more (node kind words) (more declarator none))) r =
    read_declared read_expressions in_block declarator (read_words false words r)
read_parameter other r = read_expression other r

abbrev pub read_parameters : PlainTrees → Reading → Reading
read_parameters none r = r
read_parameters (more tree rest) r = read_parameters rest (read_parameter tree r)

-- what stands behind the name of a declarator
abbrev pub read_suffix : PlainTrees → Reading → Reading
read_suffix none r = r
read_suffix (more (node k.Parameters parts) rest) r = read_suffix rest (read_parameters parts r)
read_suffix (more tree rest) r = read_suffix rest (read_expression tree r)

-- the parameters of a declaration that defines no function are visible up to its declarator's end
abbrev pub read_closed_suffix : PlainTrees → Reading → Reading
read_closed_suffix parts r = leave r (read_suffix parts r)

-- ---- declarations

abbrev pub read_declaration : Where → PlainTrees → Reading → Reading
read_declaration place (more (node kind words) (more (node list declarators) (more (leaf semicolon) none))) r =
    passed (read_declarators read_closed_suffix place declarators (read_words (may_declare_tags place) words r))
read_declaration place parts r = read_expressions parts r

-- ---- statements: a block and a `for` are blocks

abbrev mutual
  pub read_statement : PlainTree → Reading → Reading
  read_statement (node k.Block parts) r = leave r (read_statements parts r)
  read_statement (node k.For parts) r = leave r (read_statements parts r)
  read_statement (node k.Items parts) r = read_statements parts r
  read_statement (node k.If parts) r = read_statements parts r
  read_statement (node k.Else parts) r = read_statements parts r
  read_statement (node k.While parts) r = read_statements parts r
  read_statement (node k.Do parts) r = read_statements parts r
  read_statement (node k.LocalDeclaration parts) r = read_declaration in_block parts r
  read_statement other r = read_expression other r

  pub read_statements : PlainTrees → Reading → Reading
  read_statements none r = r
  read_statements (more tree rest) r = read_statements rest (read_statement tree r)

-- ---- units

abbrev pub read_members : List ℕ → PlainTrees → Reading → Reading
read_members tag none r = r
read_members tag (more (node k.Member parts) rest) r = read_members tag rest (read_declaration (among_members tag) parts r)
read_members tag (more other rest) r = read_members tag rest (read_expression other r)

abbrev pub tag_text : Option PlainToken → List ℕ
tag_text None = []
tag_text (Some tag) = tag.text

-- The parameters of a function's definition belong to its outermost block; its own name belongs to file scope.
abbrev pub read_item : PlainTree → Reading → Reading
read_item (node k.StructDefinition (more (node kind words) (more (leaf brace) (more (node list members) (more (leaf last) (more (leaf semicolon) none)))))) r =
    passed (passed (read_members (tag_text (name_in words)) members (passed (read_words true words r))))
read_item (node k.StructDeclaration (more (node kind words) (more (leaf semicolon) none))) r = passed (read_words true words r)
read_item (node k.Declaration parts) r = read_declaration at_file parts r
read_item (node k.Function (more (node kind words) (more (node list declarators) (more body none)))) r =
    leave r (read_statement body (read_declarators read_suffix at_file declarators (read_words false words r)))
read_item other r = read_expression other r

abbrev pub read_items : PlainTrees → Reading → Reading
read_items none r = r
read_items (more tree rest) r = read_items rest (read_item tree r)

abbrev pub read_unit : PlainTree → Reading
read_unit (node k.Unit items) = read_items items start
read_unit other = start

-- The identifiers of a unit with their bindings, in the order of the text.
abbrev pub bindings_of : PlainTree → List Occurrence
bindings_of tree = (read_unit tree).found
