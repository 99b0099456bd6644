-- By how much a node is higher than the highest of its parts, and conditions that tell a number.
use Rattle.std.specs.Prelude.{◌≡◌, ℕ, suc, ◌+◌, ◌≤◌, Bool, true, false, List, [], ◌∷◌, map, Option, Some, None, nat_lt, if◌then◌else◌}
use Rattle.cond_formula.specs.Conditions.{value, condition_of}
use Rattle.cond_formula.specs.declared.formulas.Formula.{Formula}
use Rattle.c_tree.specs.declared.kinds.Kind.{Kind}
use Rattle.c_tree.specs.declared.kinds.Kind.TheVariants.{Specifiers, Declarator, ArrayDeclarator, FunctionDeclarator}
use Rattle.c_tree.specs.declared.terminals.Terminal.TheVariants.{Star}
use Rattle.c_tree.specs.Trees.{PlainTree, PlainTrees}
use Rattle.c_tree.specs.Grammar.{is_word}
use Rattle.c_tree.specs.Heights.{count_stars, several, height_of}
use Rattle.choice_trees.specs.ChoiceTrees.{PlainChoices, no_choice, choice, branch_at, needs_statement}

-- the levels that a node has for its parts, beside those of its kind
abbrev pub further : Kind → PlainTrees → ℕ
further Specifiers parts = several parts
further Declarator parts = count_stars parts
further ArrayDeclarator parts = count_stars parts
further FunctionDeclarator parts = count_stars parts
further other parts = 0

-- how high what stands for a part is, where this is how high it is without an alternative that holds
abbrev pub height_or : ℕ → Option PlainTree → ℕ
height_or missing None = missing
height_or missing (Some tree) = height_of tree

-- the statement `;` has the height 1
abbrev pub missing_height : Kind → ℕ → ℕ
missing_height kind place = if needs_statement kind place then 1 else 0

-- whether a part is counted: a star, or any part
abbrev pub counts : (only_stars : Bool) → PlainTree → Bool
counts true tree = is_word (Star ∷ []) tree
counts false tree = true

abbrev pub some_counts : (only_stars : Bool) → Option PlainTree → Bool
some_counts only_stars None = false
some_counts only_stars (Some tree) = counts only_stars tree

-- how many parts are counted in a configuration
abbrev pub counted : (ℕ → Bool) → (only_stars : Bool) → PlainChoices → ℕ
counted on only_stars no_choice = 0
counted on only_stars (choice alternatives rest) = (if some_counts only_stars (branch_at on alternatives) then 1 else 0) + counted on only_stars rest

-- The first says that the number is above this one, the next that it is above the next one, and above the last it never is.
abbrev pub TellFrom : ℕ → List Bool → ℕ → Type 0
TellFrom below [] number = number ≤ below
TellFrom below (first ∷ rest) number = (first ≡ nat_lt below number) × TellFrom (suc below) rest number

abbrev pub values : (ℕ → Bool) → List Formula → List Bool
values on formulas = map (λ f. value on (condition_of f)) formulas

-- the conditions tell a number: the first that it is 1 at least, the next that it is 2 at least
abbrev pub Tells : (ℕ → Bool) → List Formula → ℕ → Type 0
Tells on formulas number = TellFrom 0 (values on formulas) number
