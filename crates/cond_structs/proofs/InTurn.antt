-- The members of a struct are declared declaration by declaration.
use Rattle.std.proofs.Common.{◌≡◌, ℕ, true, [], ◌++◌, refl, sym, ◌∙◌, subst}
use Rattle.c_tree.specs.declared.kinds.Kind.TheVariants as kinds
use Rattle.c_tree.specs.Trees.{PlainTree, PlainTrees, leaf, node, none, more}
use Rattle.c_tree.specs.Grammar.{member, member_of}
use Rattle.tree_derivations.specs.Derivations.{Derivation, single, made_of, a_row, at_end, a_part, a_word, Each, no_more, one_more}
use Rattle.core_meaning.specs.Checking.{Checked, fine, refused, broken, with_bindings, ◌>>=◌, give}
use Rattle.core_meaning.specs.Declarations.{Based, based}
use Rattle.core_meaning.specs.UnitNames.{Members, members_from, AllMembers, all_members}
use Rattle.bindings.proofs.Locals.{specifiers_are, declarators_are}
use Rattle.choice_expansions.specs.Steps.{after_each}
use Rattle.declarator_lists.specs.Lists.{trees_of}
use Rattle.declaration_readings.specs.Readings.{Going, after, IsSame}
use Rattle.declaration_readings.proofs.InTurn.{bound, then_others}
use Rattle.cond_structs.specs.Walks.{MemberParts, declarations_in, next_declaration, declared_next, AreDerived}

abbrev pair : Based → Members → AllMembers
pair base known = record { scope = base.scope; known = known }

-- what is judged in three steps
turned : (k : Going AllMembers) (c : Checked Based) (f : Based → Checked Members) (next : AllMembers → Checked AllMembers)
    → after k (c >>= (λ base. f base >>= (λ known. next (pair base known)))) ≡ after k ((c >>= (λ base. f base >>= (λ known. give (pair base known)))) >>= next)
turned k (fine base bindings) f next = inner (f base)
  where
    inner : (d : Checked Members) → after k (with_bindings bindings (d >>= (λ known. next (pair base known)))) ≡ after k (with_bindings bindings (d >>= (λ known. give (pair base known))) >>= next)
    inner (fine known more_) =
        bound k bindings (with_bindings more_ (next (pair base known))) ∙ bound k more_ (next (pair base known)) ∙ sym (bound k (bindings ++ (more_ ++ [])) (next (pair base known)))
    inner (refused kind token) = refl
    inner broken = refl
turned k (refused kind token) f next = refl
turned k broken f next = refl

module _ (number : ℕ) where
  abbrev all_of : AllMembers → PlainTrees → Checked AllMembers
  all_of s list = all_members s.scope number s.known list

  -- a declaration, and the others
  one_and_others : (k : Going AllMembers) (words list : PlainTrees) (end_ : PlainTree) (rest : PlainTrees)
      → ((g : Going AllMembers) → IsSame (after_each (declared_next number) g (declarations_in (trees_of rest))) (after g (all_of g.state rest)))
      → IsSame (after_each (declared_next number) k (declarations_in (trees_of (more (node kinds.Member (more (node kinds.Specifiers words) (more (node kinds.Declarators list) (more end_ none)))) rest))))
      (after k (all_of k.state (more (node kinds.Member (more (node kinds.Specifiers words) (more (node kinds.Declarators list) (more end_ none)))) rest)))
  one_and_others k words list end_ rest others =
      let d : MemberParts = record { words = node kinds.Specifiers words; list = node kinds.Declarators list } in
      subst (IsSame (after_each (declared_next number) (declared_next number k d) (declarations_in (trees_of rest))))
      (sym (turned k (based true k.state.scope words) (λ base. members_from base.scope number k.state.known base.ty list) (λ s. all_of s rest)))
      (then_others (λ s x. give s) all_of member_of k (next_declaration number k.state d) rest _ (others (declared_next number k d)))

  pub read : {list : PlainTrees} → Each member list → (k : Going AllMembers) → IsSame (after_each (declared_next number) k (declarations_in (trees_of list))) (after k (all_of k.state list))
  read no_more k = record { refused = refl; state = λ e. refl }
  read (one_more {rest = rest} d others) k = by d (λ g. read others g)
    where
      by : {tree : PlainTree} → Derivation member tree
          → ((g : Going AllMembers) → IsSame (after_each (declared_next number) g (declarations_in (trees_of rest))) (after g (all_of g.state rest)))
          → IsSame (after_each (declared_next number) k (declarations_in (trees_of (more tree rest)))) (after k (all_of k.state (more tree rest)))
      by (single is) next = absurd cc
      by (made_of kinds.Member b a (a_row (a_part {tree = words} w (a_part {tree = list} l (a_word {token = end_} v at_end))))) next =
          let ws = specifiers_are w in
          let ds = declarators_are l in
          subst (λ x. IsSame (after_each (declared_next number) k (declarations_in (trees_of (more (node kinds.Member (more x (more list (more (leaf end_) none)))) rest))))
          (after k (all_of k.state (more (node kinds.Member (more x (more list (more (leaf end_) none)))) rest)))) (sym ws.is)
          (subst (λ x. IsSame (after_each (declared_next number) k (declarations_in (trees_of (more (node kinds.Member (more (node kinds.Specifiers ws.parts) (more x (more (leaf end_) none)))) rest))))
          (after k (all_of k.state (more (node kinds.Member (more (node kinds.Specifiers ws.parts) (more x (more (leaf end_) none)))) rest)))) (sym ds.is)
          (one_and_others k ws.parts ds.parts (leaf end_) rest next))
      by (made_of _ b a s) next = absurd cc

pub are_derived : {list : PlainTrees} → Each member list → AreDerived (declarations_in (trees_of list))
are_derived no_more = tt
are_derived (one_more {rest = rest} d others) = by d (are_derived others)
  where
    by : {tree : PlainTree} → Derivation member tree → AreDerived (declarations_in (trees_of rest)) → AreDerived (declarations_in (trees_of (more tree rest)))
    by (single is) next = absurd cc
    by (made_of kinds.Member b a (a_row (a_part w (a_part l (a_word v at_end))))) next = (l, next)
    by (made_of _ b a s) next = absurd cc
