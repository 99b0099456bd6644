-- How high a tree is. Lists add nothing by their length, parentheses and each operator count, and the stars of a declarator count one by one.
use Rattle.std.specs.Prelude.{ℕ, ◌+◌, max, if◌then◌else◌, [], ◌∷◌}
use Rattle.c_tree.specs.declared.kinds.Kind.{Kind}
use Rattle.c_tree.specs.declared.kinds.Kind.TheVariants.{Absent, Members, Specifiers, Declarators, Declarator, ArrayDeclarator, FunctionDeclarator, Parameters, Initialisers, Items, Else, ForStart, Arguments, Texts}
use Rattle.c_tree.specs.declared.terminals.Terminal.TheVariants as t
use Rattle.c_tree.specs.Terminals.{terminal, is_one_of}
use Rattle.c_tree.specs.Trees.{PlainTree, PlainTrees, leaf, node, none, more}
use Rattle.c_tree.specs.Grammar.{is_word}

abbrev pub count_stars : PlainTrees → ℕ
count_stars none = 0
count_stars (more tree rest) = (if is_word (t.Star ∷ []) tree then 1 else 0) + count_stars rest

-- a type of several words is a node, over the tag of a struct as over any name
abbrev pub several : PlainTrees → ℕ
several none = 0
several (more first none) = 0
several (more first (more second rest)) = 1

-- how much higher than the highest of its parts a node is
abbrev pub height_over : Kind → PlainTrees → ℕ → ℕ
height_over Specifiers parts highest = several parts + highest
height_over Declarator parts highest = count_stars parts + highest
height_over ArrayDeclarator parts highest = count_stars parts + 1 + highest
height_over FunctionDeclarator parts highest = count_stars parts + 1 + highest
height_over Absent parts highest = highest
height_over Members parts highest = highest
height_over Declarators parts highest = highest
height_over Parameters parts highest = highest
height_over Initialisers parts highest = highest
height_over Items parts highest = highest
height_over Else parts highest = highest
height_over ForStart parts highest = highest
height_over Arguments parts highest = highest
height_over Texts parts highest = highest
height_over other parts highest = 1 + highest

abbrev mutual
  pub height_of : PlainTree → ℕ
  height_of (leaf token) = if is_one_of (t.Name ∷ t.Number ∷ t.Character ∷ t.Text ∷ []) (terminal token) then 1 else 0
  height_of (node kind parts) = height_over kind parts (highest_of parts)

  pub highest_of : PlainTrees → ℕ
  highest_of none = 0
  highest_of (more tree rest) = max (height_of tree) (highest_of rest)

-- the most that a unit's tree may have
abbrev pub most_high : ℕ
most_high = 512
