-- Which trees are kept.
use Rattle.std.proofs.Common.{◌≡◌, ◌<◌, ◌≤◌, max, Bool, true, false, List, [], ◌∷◌, ◌++◌, Option, Some, None, refl, ap, inl, inr, arith}
use Rattle.std.specs.Bool.{if◌then◌else◌}
use Rattle.std.specs.Prelude.{option_map}
use Rattle.std.proofs.lemmas.Bool.{le-leb}
use Rattle.c_text.specs.Token.{PlainToken}
use Rattle.c_tree.specs.Trees.{PlainTree, leaf, plain_tree, plain_trees}
use Rattle.c_tree.specs.declared.terminals.Terminal.TheVariants as t
use Rattle.c_tree.specs.Terminals.{terminal, is_one_of}
use Rattle.std.proofs.lemmas.Bool.Decides.{leb_tells}
use Rattle.c_tree.specs.Heights.{height_of, highest_of}
use Rattle.c_tree.specs.declared.trees.Tree.{Tree}
use Rattle.plain_parse.specs.Kept.{kept, all_kept, with_kept}

pub leaf-low : (token : PlainToken) → height_of (leaf token) ≤ 512
leaf-low token = chosen (is_one_of (t.Name ∷ t.Number ∷ t.Character ∷ t.Text ∷ []) (terminal token))
  where
    chosen : (b : Bool) → (if b then 1 else 0) ≤ 512
    chosen true = omega arith
    chosen false = omega arith

pub kept-low : (tree : PlainTree) → height_of tree ≤ 512 → kept tree ≡ Some tree
kept-low tree low = ap (λ b. if b then Some tree else None) (le-leb (height_of tree) 512 low)

pub kept-high : (tree : PlainTree) → 512 < height_of tree → kept tree ≡ None
kept-high tree high = elim (leb_tells (height_of tree) 512) [
  | inl is_low ↦ absurd (omega arith)
  | inr is_high ↦ ap (λ b. if b then Some tree else None) is_high.0
]

pub highest-push : (parts : List Tree) (part : Tree) → highest_of (plain_trees (parts ++ part ∷ [])) ≡ max (highest_of (plain_trees parts)) (height_of (plain_tree part))
highest-push [] part = omega arith
highest-push (first ∷ rest) part = rw (highest-push rest part) (omega arith)

pub ruleset kept_laws = (leaf-low, kept-low, kept-high, highest-push)

pub all_kept-push : (parts : List (Option PlainTree)) (part : Option PlainTree) → all_kept (parts ++ part ∷ []) ≡ with_kept (all_kept parts) part
all_kept-push [] None = refl
all_kept-push [] (Some part) = refl
all_kept-push (None ∷ rest) part = refl
all_kept-push (Some first ∷ rest) part = rw (all_kept-push rest part) (in_front (all_kept rest) part)
  where
    in_front :
        (parts : Option (List PlainTree)) (part : Option PlainTree)
        → option_map (λ more. first ∷ more) (with_kept parts part) ≡ with_kept (option_map (λ more. first ∷ more) parts) part
    in_front None part = refl
    in_front (Some parts) None = refl
    in_front (Some parts) (Some part) = refl
