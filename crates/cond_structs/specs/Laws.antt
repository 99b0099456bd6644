-- That the members of a struct are declared so; the law is the contract of a function of this crate.
use Rattle.std.specs.Prelude.{ℕ}
use Rattle.c_tree.specs.Trees.{PlainTrees}
use Rattle.c_tree.specs.Grammar.{member}
use Rattle.tree_derivations.specs.Derivations.{Each}
use Rattle.choice_expansions.specs.Steps.{after_each}
use Rattle.declarator_lists.specs.Lists.{trees_of}
use Rattle.core_meaning.specs.UnitNames.{AllMembers, all_members}
use Rattle.declaration_readings.specs.Readings.{Going, after, IsSame}
use Rattle.cond_structs.specs.Walks.{declarations_in, declared_next}

-- the members of a struct, declaration by declaration
abbrev pub DeclarationsAreRead : Type 0
DeclarationsAreRead =
    (number : ℕ) (list : PlainTrees) → Each member list → (k : Going AllMembers)
    → IsSame (after_each (declared_next number) k (declarations_in (trees_of list))) (after k (all_members k.state.scope number k.state.known list))
