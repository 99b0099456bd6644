-- The parser's values follow from the trees: they are the trees that are low enough.
use Rattle.std.proofs.Common.{◌≡◌, ℕ, ◌<◌, ◌≤◌, ◌⊎◌, List, [], ◌∷◌, map, Some, None, refl, sym, ap, ◌∙◌, inl, inr, arith}
use Rattle.std.specs.Prelude.{option_map, option_and_then}
use Rattle.std.proofs.lemmas.Bool.Decides.{leb_tells}
use Rattle.c_tree.specs.declared.kinds.Kind.{Kind}
use Rattle.c_tree.specs.declared.kinds.Kind.TheVariants.{Absent, Members, Specifiers, Declarators, Declarator, ArrayDeclarator, FunctionDeclarator, Parameters, Initialisers, Items, Else, ForStart, Arguments, Texts}
use Rattle.c_tree.specs.Trees.{PlainTree, PlainTrees, leaf, node, trees}
use Rattle.c_tree.specs.Heights.{height_over, height_of, highest_of}
use Rattle.c_tree.specs.Machine.{of_trees}
use Rattle.c_tree.proofs.Makings.{Carries}
use Rattle.plain_parse.specs.Kept.{kept, all_kept, of_kept}
use Rattle.plain_parse.proofs.KeptLemmas.{leaf-low, kept-low, kept-high}

-- a node is no lower than its parts
height_over-at_least : (kind : Kind) (parts : PlainTrees) (highest : ℕ) → highest ≤ height_over kind parts highest
height_over-at_least Specifiers parts highest = omega arith
height_over-at_least Declarator parts highest = omega arith
height_over-at_least ArrayDeclarator parts highest = omega arith
height_over-at_least FunctionDeclarator parts highest = omega arith
height_over-at_least Absent parts highest = omega arith
height_over-at_least Members parts highest = omega arith
height_over-at_least Declarators parts highest = omega arith
height_over-at_least Parameters parts highest = omega arith
height_over-at_least Initialisers parts highest = omega arith
height_over-at_least Items parts highest = omega arith
height_over-at_least Else parts highest = omega arith
height_over-at_least ForStart parts highest = omega arith
height_over-at_least Arguments parts highest = omega arith
height_over-at_least Texts parts highest = omega arith
height_over-at_least _ parts highest = omega arith

-- all parts are kept, or one of them is too high
abbrev AllOrNone : List PlainTree → Type 0
AllOrNone parts =
    ((highest_of (trees parts) ≤ 512) × (all_kept (map kept parts) ≡ Some parts))
    ⊎ ((512 < highest_of (trees parts)) × (all_kept (map kept parts) ≡ None))

all_kept-cases : (parts : List PlainTree) → AllOrNone parts
all_kept-cases [] = inl (omega arith, refl)
all_kept-cases (first ∷ rest) = elim (leb_tells (height_of first) 512) [
  | inr high ↦ inr (let is_high = high.1 in omega arith, ap (λ x. all_kept (x ∷ map kept rest)) (kept-high first high.1))
  | inl low ↦ elim (all_kept-cases rest) [
    | inl others ↦ inl (
      let is_low = low.1 in let are_low = others.0 in omega arith,
      ap (λ x. all_kept (x ∷ map kept rest)) (kept-low first low.1) ∙ ap (option_map (λ parts. first ∷ parts)) others.1,
    )
    | inr others ↦ inr (
      let are_high = others.0 in omega arith,
      ap (λ x. all_kept (x ∷ map kept rest)) (kept-low first low.1) ∙ ap (option_map (λ parts. first ∷ parts)) others.1,
    )
  ]
]

pub carries : Carries of_trees of_kept kept
carries = record {
  of_token = λ token. sym (kept-low (leaf token) (leaf-low token));
  of_parts = λ kind parts. elim (all_kept-cases parts) [
    | inl low ↦ ap (option_and_then (λ parts. kept (node kind (trees parts)))) low.1
    | inr high ↦
        ap (option_and_then (λ parts. kept (node kind (trees parts)))) high.1
        ∙ sym (kept-high (node kind (trees parts))
        (let is_high = high.0 in let least = height_over-at_least kind (trees parts) (highest_of (trees parts)) in omega arith))
  ];
  of_nothing = refl;
}
