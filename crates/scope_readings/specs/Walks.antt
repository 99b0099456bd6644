-- How a unit is read by the kinds of its nodes, whatever the places of their parts, so that a reader of all configurations at once, in which a
-- part may be there or not, reads it in the same way.
use Rattle.std.specs.Prelude.{ℕ, Bool, true, false, ◌||◌, List, if◌then◌else◌}
use Rattle.c_text.specs.Token.{PlainToken}
use Rattle.c_tree.specs.declared.kinds.Kind.{Kind}
use Rattle.c_tree.specs.declared.kinds.Kind.TheVariants as k
use Rattle.c_tree.specs.declared.terminals.Terminal.TheVariants as t
use Rattle.c_tree.specs.Terminals.{terminal, same}
use Rattle.c_tree.specs.Trees.{PlainTree, PlainTrees, leaf, node, none, more}
use Rattle.bindings.specs.Bindings.{is_name}
use Rattle.scope_readings.specs.Scopes.{Scopes, Scope, file_scope, block_scope, members, starting, this, passed, used, tagged, named, shown, leave}

-- ---- what a name is, by the node in which it stands

pub data Role : Type 0 where
  ordinary_use : Role
  member_use : Role
  tag : Role
  declared_name : Role

-- Behind a `.` or `->`, and in the brackets of a declarator, a name is another thing than before.
abbrev pub turns : Kind → PlainToken → Bool
turns k.Selection token = same t.Select (terminal token)
turns k.ArrayDeclarator token = same t.OpenBracket (terminal token)
turns other token = false

abbrev pub role : Kind → Bool → Role
role k.Specifiers turned = tag
role k.Declarator turned = declared_name
role k.FunctionDeclarator turned = declared_name
role k.ArrayDeclarator false = declared_name
role k.Selection true = member_use
role other turned = ordinary_use

-- ---- declarations: a declarator and a tag stand in the innermost of them

abbrev pub declaration_in : Kind → Kind → Kind
declaration_in around k.Declaration = k.Declaration
declaration_in around k.Function = k.Function
declaration_in around k.StructDefinition = k.StructDefinition
declaration_in around k.StructDeclaration = k.StructDeclaration
declaration_in around k.Member = k.Member
declaration_in around k.LocalDeclaration = k.LocalDeclaration
declaration_in around k.Parameter = k.Parameter
declaration_in around other = around

abbrev pub scope_of : Kind → Scope
scope_of k.Declaration = file_scope
scope_of k.Function = file_scope
scope_of k.Member = members
scope_of other = block_scope

-- An undeclared tag declares a struct in a declaration at file scope and in a member, and nowhere else.
abbrev pub may_declare : Kind → Bool
may_declare k.Declaration = true
may_declare k.StructDefinition = true
may_declare k.StructDeclaration = true
may_declare k.Member = true
may_declare other = false

-- ---- scopes

-- A scope ends with a block, a `for`, a function's definition, and a function's declarator elsewhere (6.2.1 p4).
abbrev pub ends_scope : Kind → Kind → Bool
ends_scope around k.Block = true
ends_scope around k.For = true
ends_scope around k.Function = true
ends_scope k.Function k.FunctionDeclarator = false
ends_scope around k.FunctionDeclarator = true
ends_scope around other = false

abbrev pub leave_if : Bool → Scopes → Scopes → Scopes
leave_if true before s = leave before s
leave_if false before s = s

-- ---- the reading, within the declaration around

-- a name, where the parts behind it are walked so
abbrev pub walk_name : Kind → Role → PlainToken → (Scopes → Scopes) → Scopes → Scopes
walk_name around ordinary_use token behind s = behind (used token.text s)
walk_name around member_use token behind s = behind (passed s)
walk_name around tag token behind s = behind (tagged (may_declare around) token.text s)
walk_name around declared_name token behind s =
    shown (scope_of around) token.text (this s) (behind (named (scope_of around) token.text s))

-- the parts of a node; whether one before them turned what a name is
abbrev pub walk_parts : Kind → Kind → Bool → PlainTrees → Scopes → Scopes
walk_parts around kind turned none s = s
walk_parts around kind turned (more (node inner parts) rest) s =
    walk_parts around kind turned rest
    (leave_if (ends_scope around inner) s (walk_parts (declaration_in around inner) inner false parts s))
walk_parts around kind turned (more (leaf token) rest) s =
    if is_name token
    then walk_name around (role kind turned) token (λ after. walk_parts around kind turned rest after) s
    else walk_parts around kind (turned || turns kind token) rest (passed s)

-- a node among the parts of another
abbrev pub walk_node : Kind → Kind → PlainTrees → Scopes → Scopes
walk_node around kind parts s =
    leave_if (ends_scope around kind) s (walk_parts (declaration_in around kind) kind false parts s)

-- a unit whose tokens have these numbers
abbrev pub walk_unit : List ℕ → PlainTree → Scopes
walk_unit numbers (leaf token) = starting numbers
walk_unit numbers (node kind parts) = walk_node k.Unit kind parts (starting numbers)
