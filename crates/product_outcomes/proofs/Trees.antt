-- The tokens of units have trees, or those of one have none.
use Rattle.std.proofs.Common.{◌≡◌, suc, ◌≤◌, List, [], ◌∷◌, Option, Some, None, refl, sym, subst, ◌∙◌, inl, inr, ◌⊎◌, arith}
use Rattle.std.specs.List.{AllByRecursion, AllZip, Contains, All}
use Rattle.std.proofs.lemmas.Bool.{cases_lt}
use Rattle.std.proofs.lemmas.List.Elements.{recursion_from_All}
use Rattle.c_text.specs.Token.{PlainToken}
use Rattle.c_tree.specs.Trees.{PlainTree}
use Rattle.c_tree.specs.Units.{Spells, IsTreeOf}
use Rattle.c_tree.specs.Heights.{height_of, most_high}
use Rattle.c_tree.specs.Machine.{read, of_trees}
use Rattle.c_tree.specs.ReadingLaws.{ReadIsSpelt, SpeltIsRead, TreesAreOne}
use Rattle.bindings.specs.Laws.{ArePieces, AreWritten}
use Rattle.unit_outcomes.specs.Laws.{IsSpelt}

pub record HasTree (tokens : List PlainToken) : Type 0 where
  pub tree : PlainTree
  pub is_tree : IsTreeOf tokens tree

abbrev pub HasNone : List PlainToken → Type 0
HasNone tokens = (tree : PlainTree) → IsTreeOf tokens tree → ⊥

module _ (sound : ReadIsSpelt) (complete : SpeltIsRead) (one : TreesAreOne) where
  low-or-none : (tokens : List PlainToken) (tree : PlainTree) → Spells tokens tree → HasTree tokens ⊎ HasNone tokens
  low-or-none tokens tree spells =
      elim (cases_lt most_high (height_of tree)) [
        | inl high ↦ inr (λ other is.
            let same : other ≡ tree = one tokens other tree is.spells spells in
            let low : height_of tree ≤ most_high = subst (λ (t : PlainTree). height_of t ≤ most_high) same is.low in
            absurd (omega (arith, high, low)))
        | inr low ↦ inl (record { tree = tree; is_tree = record { spells = spells; low = low } })
      ]

  tree-or-none : (tokens : List PlainToken) → HasTree tokens ⊎ HasNone tokens
  tree-or-none tokens = by (read of_trees tokens) refl
    where
      by : (found : Option PlainTree) → read of_trees tokens ≡ found → HasTree tokens ⊎ HasNone tokens
      by (Some tree) e = low-or-none tokens tree (sound tokens tree e)
      by None e = inr (λ tree is. let no : ◌≡◌ {A = Option PlainTree} None (Some tree) = sym e ∙ complete tokens tree is.spells in absurd cc)

  pub record HaveTrees (tokens : List (List PlainToken)) : Type 0 where
    pub trees : List PlainTree
    pub are_trees : AllZip IsTreeOf tokens trees

  pub record OneLacks (tokens : List (List PlainToken)) : Type 0 where
    pub of_unit : List PlainToken
    pub among : Contains tokens of_unit
    pub treeless : HasNone of_unit

  pub trees-or-none : (tokens : List (List PlainToken)) → HaveTrees tokens ⊎ OneLacks tokens
  trees-or-none [] = inl (record { trees = []; are_trees = tt })
  trees-or-none (ts ∷ tokens) = by (tree-or-none ts) (trees-or-none tokens)
    where
      by : HasTree ts ⊎ HasNone ts → HaveTrees tokens ⊎ OneLacks tokens → HaveTrees (ts ∷ tokens) ⊎ OneLacks (ts ∷ tokens)
      by (inl first) (inl others) = inl (record { trees = first.tree ∷ others.trees; are_trees = (first.is_tree, others.are_trees) })
      by (inl first) (inr lacks) = inr (record { of_unit = lacks.of_unit; among = (suc lacks.among.0, omega (arith, lacks.among.1), lacks.among.2); treeless = lacks.treeless })
      by (inr none) others = inr (record { of_unit = ts; among = (0, omega arith, refl); treeless = none })

are-pieces : (tokens : List PlainToken) → AllByRecursion IsSpelt tokens → ArePieces tokens
are-pieces [] h = tt
are-pieces (token ∷ tokens) h = (h.0, are-pieces tokens h.1)

pub are-written : (tokens : List (List PlainToken)) (trees : List PlainTree) → AllByRecursion (λ ts. All IsSpelt ts) tokens → AllZip IsTreeOf tokens trees → AreWritten trees
are-written [] [] h are = tt
are-written [] (tree ∷ trees) h are = absurd are
are-written (ts ∷ tokens) [] h are = absurd are
are-written (ts ∷ tokens) (tree ∷ trees) h are =
    (record { unit = are.0.spells.unit; pieces = subst ArePieces (sym are.0.spells.text) (are-pieces ts (recursion_from_All IsSpelt ts h.0)) }, are-written tokens trees h.1 are.1)
