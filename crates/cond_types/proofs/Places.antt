-- Which tree stands at a place of the parts of a node.
use Rattle.std.proofs.Common.{arith, ◌≡◌, ℕ, zero, suc, ◌≤◌, ◌<◌, Bool, true, false, List, [], ◌∷◌, length, get_or, inl, inr, refl, sym, ap, ◌∙◌, subst}
use Rattle.std.specs.Prelude.{Option, Some, None, MatchOption}
use Rattle.std.proofs.lemmas.Bool.{false≢true}
use Rattle.c_tree.specs.declared.kinds.Kind.{Kind}
use Rattle.c_tree.specs.declared.kinds.Kind.TheVariants as k
use Rattle.c_tree.specs.Trees.{PlainTree, PlainTrees, node, none}
use Rattle.choice_trees.specs.ChoiceTrees.{no_statement}
use Rattle.choice_variants.specs.Variants.{part_at, before}
use Rattle.choice_variants.specs.declared.parts.Part.{Part}
use Rattle.cond_types.specs.Places.{tree_at, IsEmpty, IsNone, is_members, is_declarators}

module _ (on : ℕ → Bool) where
  pub none_beyond : (parts : List Part) (n : ℕ) → length parts ≤ n → tree_at n (before on parts none) ≡ None
  none_beyond [] n h = refl
  none_beyond (p ∷ parts) zero h = absurd (omega (arith, h))
  none_beyond (p ∷ parts) (suc n) h = none_beyond parts n (omega (arith, h))

  pub one_there : (parts : List Part) (n : ℕ) (p : Part) → n < length parts → p ≡ get_or parts n p → tree_at n (before on parts none) ≡ Some (part_at on p)
  one_there [] n p h is = absurd (omega (arith, h))
  one_there (q ∷ parts) zero p h is = ap (λ (x : Part). Some (part_at on x)) (sym is)
  one_there (q ∷ parts) (suc n) p h is = one_there parts n p (omega (arith, h)) is

-- what is found of a part is found at its place
pub item_there : {R : Type 0} (at : R → PlainTree) (result : Option R) (part : PlainTree) (found : Option PlainTree) → found ≡ Some part
    → MatchOption result (IsEmpty (Some part)) (λ r. part ≡ at r) → MatchOption result (IsEmpty found) (λ r. found ≡ Some (at r))
item_there {R} at None part found e h = subst IsEmpty (sym e) h
item_there {R} at (Some r) part found e h = e ∙ ap (λ (t : PlainTree). Some t) h

pub list_there : {R : Type 0} (at : R → PlainTree) (kind : Kind) (result : Option R) (part : PlainTree) (found : Option PlainTree) → found ≡ Some part
    → MatchOption result (IsNone kind (Some part)) (λ r. part ≡ at r) → MatchOption result (IsNone kind found) (λ r. found ≡ Some (at r))
list_there {R} at kind None part found e h = subst (IsNone kind) (sym e) h
list_there {R} at kind (Some r) part found e h = e ∙ ap (λ (t : PlainTree). Some t) h

none_of : (a : PlainTree) (found : Option PlainTree) → found ≡ None → found ≡ Some a → ⊥
none_of a found e h = cc

one_of : (a b : PlainTree) (found : Option PlainTree) → found ≡ Some b → found ≡ Some a → a ≡ b
one_of a b found e h = cc

-- where nothing stands no list does
pub none_in_empty : (kind : Kind) (found : Option PlainTree) → IsEmpty found → IsNone kind found
none_in_empty kind found (inl e) parts h = absurd (none_of (node kind parts) found e h)
none_in_empty kind found (inr e) parts h = one_of (node kind parts) no_statement found e h

-- ---- the kinds of lists

pub members_kind : (kind : Kind) → true ≡ is_members kind → kind ≡ k.Members
members_kind k.Members h = refl
members_kind kind h = absurd cc

pub declarators_kind : (kind : Kind) → true ≡ is_declarators kind → kind ≡ k.Declarators
declarators_kind k.Declarators h = refl
declarators_kind kind h = absurd cc

same_kind : (a b : Kind) (x y : PlainTrees) → Some (node a x) ≡ Some (node b y) → a ≡ b
same_kind a b x y e = cc

pub no_members : (kind : Kind) (parts : PlainTrees) → false ≡ is_members kind → IsNone k.Members (Some (node kind parts))
no_members kind parts h inner e = absurd (false≢true (h ∙ ap is_members (same_kind kind k.Members parts inner e)))

pub no_declarators : (kind : Kind) (parts : PlainTrees) → false ≡ is_declarators kind → IsNone k.Declarators (Some (node kind parts))
no_declarators kind parts h inner e = absurd (false≢true (h ∙ ap is_declarators (same_kind kind k.Declarators parts inner e)))
