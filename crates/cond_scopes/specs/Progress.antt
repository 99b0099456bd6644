-- How the parts of a node are read one after the other, and what a configuration sees of a reader of all of them.
use Rattle.std.specs.Prelude.{◌≡◌, ℕ, Bool, true, false, ◌||◌, List, [], ◌∷◌, map, reverse, Option, Some, None, Vec, if◌then◌else◌}
use Rattle.std.specs.declared.alloc.Global.{Global}
use Rattle.cond_formula.specs.declared.formulas.Formula.{Formula}
use Rattle.cond_formula.specs.Conditions.{condition_of, conditions_of, value, all_true}
use Rattle.c_tree.specs.declared.kinds.Kind.{Kind}
use Rattle.c_tree.specs.Trees.{PlainTree, PlainTrees, leaf, node, none, more}
use Rattle.choice_trees.specs.ChoiceTrees.{no_statement}
use Rattle.choice_trees.specs.Leaves.{Leaf}
use Rattle.bindings.specs.Bindings.{is_name}
use Rattle.scope_readings.specs.Scopes.{Scopes, Scope, this, passed, used, tagged, named, shown}
use Rattle.scope_readings.specs.Walks.{Role, ordinary_use, member_use, tag, declared_name, role, turns, scope_of, may_declare, walk_node}
use Rattle.cond_bindings.specs.Names.{PlainNames, seen}
use Rattle.cond_scopes.specs.declared.parts.Pending.{Pending}
use Rattle.cond_scopes.specs.declared.parts.Progress.{Progress}

-- a declarator's name, which is shown behind the declarator
pub record Hidden : Type 0 where
  pub name : List ℕ
  pub number : ℕ

-- how far the parts of a node have been read
pub record SoFar : Type 0 where
  pub scopes : Scopes
  pub turned : Bool
  -- the latest first
  pub hidden : List Hidden

-- names are shown, the latest first
abbrev pub showing : Scope → List Hidden → Scopes → Scopes
showing scope [] s = s
showing scope (h ∷ rest) s = showing scope rest (shown scope h.name h.number s)

-- one part more, in a declaration and a node of these kinds
abbrev pub name_read : Kind → Role → List ℕ → SoFar → SoFar
name_read around ordinary_use name p = record p { scopes = used name p.scopes }
name_read around member_use name p = record p { scopes = passed p.scopes }
name_read around tag name p = record p { scopes = tagged (may_declare around) name p.scopes }
name_read around declared_name name p =
    record p { scopes = named (scope_of around) name p.scopes; hidden = record { name = name; number = this p.scopes } ∷ p.hidden }

abbrev pub part_read : Kind → Kind → PlainTree → SoFar → SoFar
part_read around kind (node inner parts) p = record p { scopes = walk_node around inner parts p.scopes }
part_read around kind (leaf token) p =
    if is_name token then name_read around (role kind p.turned) token.text p
    else record p { scopes = passed p.scopes; turned = p.turned || turns kind token }

-- what stands for a part, if anything does
abbrev pub perhaps_read : Kind → Kind → Bool → Option PlainTree → SoFar → SoFar
perhaps_read around kind needed (Some part) p = part_read around kind part p
perhaps_read around kind true None p = part_read around kind no_statement p
perhaps_read around kind false None p = p

abbrev pub parts_read : Kind → Kind → PlainTrees → SoFar → SoFar
parts_read around kind none p = p
parts_read around kind (more tree rest) p = parts_read around kind rest (part_read around kind tree p)

-- ---- what a configuration sees

-- the numbers of leaves; a `;` that stands for a statement where there is none is no identifier, so that its number doesn't matter
abbrev pub number_or_none : Option ℕ → ℕ
number_or_none (Some number) = number
number_or_none None = 0

abbrev pub numbers : List Leaf → List ℕ
numbers leaves = map (λ leaf. number_or_none leaf.number) leaves

module _ (on : ℕ → Bool) where
  -- on a path, if there is one
  abbrev pub on_it : Option (Vec Formula Global) → Bool
  on_it None = false
  on_it (Some path) = all_true on (conditions_of path.items)

  abbrev pub hidden_at : List Pending → List Hidden
  hidden_at [] = []
  hidden_at (p ∷ rest) =
      if all_true on (conditions_of p.path.items) then record { name = p.name.now; number = p.number } ∷ hidden_at rest else hidden_at rest

  abbrev pub seen_so_far : List ℕ → PlainNames → Progress → SoFar
  seen_so_far coming names progress = record {
    scopes = seen on coming names;
    turned = value on (condition_of progress.turned);
    hidden = hidden_at (reverse progress.pending.items);
  }

  -- on a path what is seen becomes what a step makes of it, and elsewhere it stays
  abbrev pub MovesOn : Bool → List ℕ → (SoFar → SoFar) → List ℕ → PlainNames → Progress → PlainNames → Progress → Type 0
  MovesOn true before step behind names progress new_names new = seen_so_far behind new_names new ≡ step (seen_so_far before names progress)
  MovesOn false before step behind names progress new_names new = seen_so_far behind new_names new ≡ seen_so_far behind names progress
