-- What a configuration sees of the entries of a list, and of the ways in which it begins.
use Rattle.std.specs.Prelude.{ℕ, Bool, List, [], ◌∷◌, map, Option, Some, None, option_map}
use Rattle.cond_formula.specs.Conditions.{condition_of}
use Rattle.conditional.specs.Entries.{Entry, seen}
use Rattle.c_tree.specs.Trees.{PlainTree}
use Rattle.choice_trees.specs.ChoiceTrees.{plain_item, item_at}
use Rattle.declarator_lists.specs.declared.items.ListEntry.{ListEntry}
use Rattle.declarator_lists.specs.declared.beginnings.Head.{Head}
use Rattle.declarator_lists.specs.declared.beginnings.Beginning.{Beginning}
use Rattle.declarator_lists.specs.declared.initialised.Initialised.{Initialised}
use Rattle.declarator_lists.specs.declared.listed.ListedDeclarator.{ListedDeclarator}
use Rattle.declarator_lists.specs.Lists.{Declared, declared}

module _ (on : ℕ → Bool) where
  abbrev pub entry_at : ListEntry → Entry PlainTree
  entry_at entry = record { when = condition_of entry.when; what = item_at on (plain_item entry.item.now) }

  abbrev pub entries_at : List ListEntry → List (Entry PlainTree)
  entries_at entries = map entry_at entries

  -- the whole list
  abbrev pub beginning_at : Option Beginning → List PlainTree
  beginning_at None = []
  beginning_at (Some b) = item_at on (plain_item b.first.now) ∷ seen on (entries_at b.rest.now)

  abbrev pub head_at : Head → Entry (List PlainTree)
  head_at head = record { when = condition_of head.when; what = beginning_at head.beginning }

  abbrev pub heads_at : List Head → List (Entry (List PlainTree))
  heads_at heads = map head_at heads

  abbrev pub initialised_at : Initialised → Entry (Option PlainTree)
  initialised_at i = record { when = condition_of i.when; what = option_map (λ item. item_at on (plain_item item.now)) i.initialiser }

  abbrev pub all_initialised_at : List Initialised → List (Entry (Option PlainTree))
  all_initialised_at all = map initialised_at all

  abbrev pub declarator_at : ListedDeclarator → Entry Declared
  declarator_at d = record { when = condition_of d.when; what = declared (item_at on (plain_item d.declarator.now)) (option_map (λ item. item_at on (plain_item item.now)) d.initialiser) }

  -- the declarators, each under its condition
  abbrev pub listed_at : List ListedDeclarator → List (Entry Declared)
  listed_at all = map declarator_at all
