-- The tree of present items, behind the line `int putchar(int);` (ISO/IEC 9899:2011, 6.5 to 6.9). Each part takes the seats of
-- its tokens from the front, and hands on the others.
use Rattle.std.specs.Prelude.{ℕ, List, [], ◌∷◌, if◌then◌else◌}
use Rattle.c_tree.specs.declared.kinds.Kind.TheVariants as kind
use Rattle.c_tree.specs.Trees.{PlainTree, PlainTrees, leaf, node, none, more, absent, trees}
use Rattle.quick_form.specs.Symbols.{Symbol, Int, Void, While, Return, Putchar, Main, Name, Number, Mark}
use Rattle.quick_form.specs.Form.{Term, Sum, operand_symbol}
use Rattle.quick_form.specs.Program.{Code, done, assign, put, give, while_}
use Rattle.quick_core.specs.Present.{Item, tentative, valued, main_of}
use Rattle.quick_trees.specs.Tokens.{Seat, Seats, skip, token_of}

abbrev pub word : Symbol → Seat → PlainTree
word k seat = leaf (token_of k seat)

-- a tree, and the seats behind it
pub record Grown : Type 0 where
  pub tree : PlainTree
  pub seats : Seats

pub record GrownAll : Type 0 where
  pub trees : PlainTrees
  pub seats : Seats

-- ---- expressions

abbrev pub sum_node : PlainTree → Term → Seats → PlainTree
sum_node left t seats =
    node kind.Sum (trees (left ∷ word (Mark (if t.subtracted then 45 else 43)) (seats 0) ∷ word (operand_symbol t.operand) (seats 1) ∷ []))

abbrev pub terms_tree : PlainTree → List Term → Seats → Grown
terms_tree left [] seats = record { tree = left; seats = seats }
terms_tree left (t ∷ ts) seats = terms_tree (sum_node left t seats) ts (skip 2 seats)

abbrev pub sum_tree : Sum → Seats → Grown
sum_tree s seats = terms_tree (word (operand_symbol s.first) (seats 0)) s.more (skip 1 seats)

-- ---- statements

-- a block without items has a place for them
abbrev pub block_items : PlainTrees → PlainTree
block_items none = absent
block_items (more first rest) = node kind.Items (more first rest)

abbrev pub block_tree : Seat → GrownAll → PlainTree
block_tree brace items =
    node kind.Block (trees (word (Mark 123) brace ∷ block_items items.trees ∷ word (Mark 125) (items.seats 0) ∷ []))

abbrev pub assignment_tree : List ℕ → Seats → Grown → PlainTree
assignment_tree x seats sum =
    node kind.ExpressionStatement (trees (
    node kind.Assignment (trees (word (Name x) (seats 0) ∷ word (Mark 61) (seats 1) ∷ sum.tree ∷ []))
    ∷ word (Mark 59) (sum.seats 0) ∷ []))

abbrev pub output_tree : Seats → Grown → PlainTree
output_tree seats sum =
    node kind.ExpressionStatement (trees (
    node kind.Call (trees (
    word Putchar (seats 0) ∷ word (Mark 40) (seats 1) ∷ node kind.Arguments (trees (sum.tree ∷ [])) ∷ word (Mark 41) (sum.seats 0) ∷ []))
    ∷ word (Mark 59) (sum.seats 1) ∷ []))

abbrev pub return_tree : Seats → Grown → PlainTree
return_tree seats sum = node kind.Return (trees (word Return (seats 0) ∷ sum.tree ∷ word (Mark 59) (sum.seats 0) ∷ []))

abbrev pub while_tree : Seats → Grown → GrownAll → PlainTree
while_tree seats sum body =
    node kind.While (trees (
    word While (seats 0) ∷ word (Mark 40) (seats 1) ∷ sum.tree ∷ word (Mark 41) (sum.seats 0) ∷ block_tree (sum.seats 1) body ∷ []))

abbrev pub before : PlainTree → GrownAll → GrownAll
before first others = record { trees = more first others.trees; seats = others.seats }

abbrev pub code_trees : Code → Seats → GrownAll
code_trees done seats = record { trees = none; seats = seats }
code_trees (assign x s rest) seats =
    before (assignment_tree x seats (sum_tree s (skip 2 seats))) (code_trees rest (skip 1 (sum_tree s (skip 2 seats)).seats))
code_trees (put s rest) seats =
    before (output_tree seats (sum_tree s (skip 2 seats))) (code_trees rest (skip 2 (sum_tree s (skip 2 seats)).seats))
code_trees (give s rest) seats =
    before (return_tree seats (sum_tree s (skip 1 seats))) (code_trees rest (skip 1 (sum_tree s (skip 1 seats)).seats))
code_trees (while_ s body rest) seats =
    before (while_tree seats (sum_tree s (skip 2 seats)) (code_trees body (skip 2 (sum_tree s (skip 2 seats)).seats)))
    (code_trees rest (skip 1 (code_trees body (skip 2 (sum_tree s (skip 2 seats)).seats)).seats))

-- ---- items

abbrev pub specifiers : Symbol → Seat → PlainTree
specifiers k seat = node kind.Specifiers (trees (word k seat ∷ []))

abbrev pub declarator : List ℕ → Seat → PlainTree
declarator x seat = node kind.Declarator (trees (word (Name x) seat ∷ []))

-- `int`, declarators and `;`
abbrev pub declaration_tree : Seats → List PlainTree → Seat → PlainTree
declaration_tree seats declared end =
    node kind.Declaration (trees (specifiers Int (seats 0) ∷ node kind.Declarators (trees declared) ∷ word (Mark 59) end ∷ []))

-- a function with one parameter that has no name, or the lone `void`
abbrev pub function_declarator : Symbol → Symbol → Seats → PlainTree
function_declarator name parameter seats =
    node kind.FunctionDeclarator (trees (
    word name (seats 0) ∷ word (Mark 40) (seats 1)
    ∷ node kind.Parameters (trees (node kind.Parameter (trees (specifiers parameter (seats 2) ∷ absent ∷ [])) ∷ []))
    ∷ word (Mark 41) (seats 3) ∷ []))

abbrev pub main_tree : Seats → GrownAll → PlainTree
main_tree seats body =
    node kind.Function (trees (
    specifiers Int (seats 0) ∷ node kind.Declarators (trees (function_declarator Main Void (skip 1 seats) ∷ []))
    ∷ block_tree (seats 5) body ∷ []))

abbrev pub item_trees : List Item → Seats → PlainTrees
item_trees [] seats = none
item_trees (tentative x ∷ rest) seats =
    more (declaration_tree seats (declarator x (seats 1) ∷ []) (seats 2)) (item_trees rest (skip 3 seats))
item_trees (valued x d ∷ rest) seats =
    more (declaration_tree seats (declarator x (seats 1) ∷ word (Mark 61) (seats 2) ∷ word (Number d) (seats 3) ∷ []) (seats 4))
    (item_trees rest (skip 5 seats))
item_trees (main_of body ∷ rest) seats =
    more (main_tree seats (code_trees body (skip 6 seats))) (item_trees rest (skip 1 (code_trees body (skip 6 seats)).seats))

abbrev pub unit_tree : List Item → Seats → PlainTree
unit_tree items seats =
    node kind.Unit (more (declaration_tree seats (function_declarator Putchar Int (skip 1 seats) ∷ []) (seats 5)) (item_trees items (skip 6 seats)))
