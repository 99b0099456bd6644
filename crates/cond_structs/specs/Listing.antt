-- What a configuration sees of the declarations of a struct's members.
use Rattle.std.specs.Prelude.{ℕ, Bool, List, [], ◌∷◌, ◌++◌, map}
use Rattle.cond_formula.specs.Conditions.{condition_of}
use Rattle.conditional.specs.Entries.{Entry}
use Rattle.c_tree.specs.Trees.{PlainTrees}
use Rattle.choice_trees.specs.ChoiceTrees.{plain_item, item_at}
use Rattle.cond_structs.specs.Walks.{MemberParts, declaration_in}
use Rattle.cond_structs.specs.declared.listing.MemberDeclaration.{MemberDeclaration}

-- the declarations with these parts
abbrev pub all_in : List PlainTrees → List MemberParts
all_in [] = []
all_in (parts ∷ rest) = declaration_in parts ++ all_in rest

module _ (on : ℕ → Bool) where
  abbrev pub declaration_at : MemberDeclaration → Entry MemberParts
  declaration_at d = record { when = condition_of d.when; what = record { words = item_at on (plain_item d.words.now); list = item_at on (plain_item d.list.now) } }

  abbrev pub declarations_at : List MemberDeclaration → List (Entry MemberParts)
  declarations_at all = map declaration_at all
