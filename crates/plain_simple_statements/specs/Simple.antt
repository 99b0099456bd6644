-- Steps in judging statements that take no slots.
use Rattle.std.specs.Prelude.{ℕ, Bool, not, List, if◌then◌else◌, codes}
use Rattle.std.specs.Str.{bytes_eq}
use Rattle.c_text.specs.Token.{PlainToken}
use Rattle.c_types.specs.Types.{PlainType}
use Rattle.c_tree.specs.declared.kinds.Kind.{Kind}
use Rattle.c_tree.specs.declared.kinds.Kind.TheVariants as k
use Rattle.c_tree.specs.Trees.{PlainTree, PlainTrees, leaf, node, none, more}
use Rattle.core_meaning.specs.declared.refusals.TypeKind.TheVariants.{Misplaced}
use Rattle.core_meaning.specs.Program.{PlainExpression, PlainStatement, evaluate, break_loop, continue_loop, return_nothing, return_value}
use Rattle.core_meaning.specs.Checking.{Checked, broken, ◌>>=◌, give, unless_so, found_or}
use Rattle.core_meaning.specs.Entities.{Scope}
use Rattle.core_meaning.specs.Typing.{fits_into}
use Rattle.core_meaning.specs.Expressions.{valued, is_void, unused}
use Rattle.core_meaning.specs.Statements.{Around, expression_statement}

abbrev pub around_of : Scope → PlainType → Bool → Around
around_of scope returns in_loop = record { scope = scope; result = returns; in_loop = in_loop }

-- an expression whose value isn't used
abbrev pub unused_value : Scope → PlainTree → Checked PlainExpression
unused_value scope tree = do
  x ← valued scope tree
  give (unused x.core)

abbrev pub evaluated : Scope → PlainTree → Checked PlainStatement
evaluated scope tree = do
  x ← valued scope tree
  give (evaluate (unused x.core))

-- the value of a `return` in a function with a result
abbrev pub returned_value : Scope → PlainType → PlainToken → PlainTree → Checked PlainStatement
returned_value scope returns word tree = do
  x ← valued scope tree
  core ← found_or (fits_into returns x) Misplaced word
  give (return_value core)

abbrev pub expression_in : Scope → PlainTrees → Checked PlainStatement
expression_in scope (more tree (more end none)) = expression_statement scope tree
expression_in scope other = broken

-- which jump a word stands for
abbrev pub jump_by : List ℕ → PlainStatement
jump_by word = if bytes_eq word (codes "break") then break_loop else continue_loop

abbrev pub jump_if : Bool → PlainToken → Checked PlainStatement
jump_if in_loop word = do
  placed ← unless_so in_loop Misplaced word
  give (jump_by word.text)

abbrev pub jump_in : Bool → PlainTrees → Checked PlainStatement
jump_in in_loop (more (leaf word) (more end none)) = jump_if in_loop word
jump_in in_loop other = broken

abbrev pub nothing_returned : PlainType → PlainToken → Checked PlainStatement
nothing_returned returns word = do
  placed ← unless_so (is_void returns) Misplaced word
  give return_nothing

abbrev pub returned_as : Scope → PlainType → PlainToken → PlainTree → Checked PlainStatement
returned_as scope returns word (node k.Absent parts) = nothing_returned returns word
returned_as scope returns word tree = do
  placed ← unless_so (not (is_void returns)) Misplaced word
  returned_value scope returns word tree

abbrev pub return_in : Scope → PlainType → PlainTrees → Checked PlainStatement
return_in scope returns (more (leaf word) (more tree (more end none))) = returned_as scope returns word tree
return_in scope returns other = broken

-- a statement that takes no slots, by its kind
abbrev pub simple_of : Around → Kind → PlainTrees → Checked PlainStatement
simple_of around k.ExpressionStatement parts = expression_in around.scope parts
simple_of around k.Jump parts = jump_in around.in_loop parts
simple_of around k.Return parts = return_in around.scope around.result parts
simple_of around other parts = broken
