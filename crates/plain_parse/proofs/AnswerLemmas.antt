-- What follows of units from what the parser reads.
use Rattle.std.proofs.Common.{◌≡◌, ℕ, ◌+◌, ◌<◌, ◌≤◌, List, map, take, Option, Some, None, refl, sym, ap, ◌∙◌, inl, inr, subst}
use Rattle.std.specs.Prelude.{option_map}
use Rattle.std.proofs.lemmas.Bool.Decides.{leb_tells}
use Rattle.c_text.specs.Token.{PlainToken}
use Rattle.c_tree.specs.Trees.{PlainTree}
use Rattle.c_tree.specs.Heights.{height_of}
use Rattle.c_tree.specs.Units.{Spells, IsTreeOf, BeginsUnit, IsUnexpected, IsTooHigh}
use Rattle.c_tree.specs.Machine.{Frame, start, read_on, read, of_trees}
use Rattle.c_tree.specs.ReadingLaws.{ReadIsSpelt, SpeltIsRead, FrontsBegin, FrontsAreRead}
use Rattle.c_tree.proofs.Makings.{frame_map, read_on-carried, read-carried}
use Rattle.plain_parse.specs.Kept.{kept, of_kept}
use Rattle.plain_parse.specs.Readings.{IsFault}
use Rattle.plain_parse.proofs.KeptLemmas.{kept-low, kept-high}
use Rattle.plain_parse.proofs.Carried.{carries}

-- a kept tree is the tree itself
kept-Some : (tree low : PlainTree) → kept tree ≡ Some low → (tree ≡ low) × (height_of tree ≤ 512)
kept-Some tree low is = elim (leb_tells (height_of tree) 512) [
  | inl fits ↦ (let same = kept-low tree fits.1 in cc, fits.1)
  | inr high ↦ absurd (let none = kept-high tree high.1 in cc)
]

kept-None : (tree : PlainTree) → kept tree ≡ None → 512 < height_of tree
kept-None tree is = elim (leb_tells (height_of tree) 512) [
  | inl fits ↦ absurd (let some = kept-low tree fits.1 in cc)
  | inr high ↦ high.1
]

-- what is read of the trees themselves
read_trees : (tokens : List PlainToken) → read of_kept tokens ≡ option_map kept (read of_trees tokens)
read_trees = read-carried of_trees of_kept kept carries

read_on_trees :
    (tokens : List PlainToken)
    → read_on of_kept (Some start) tokens ≡ option_map (map (frame_map kept)) (read_on of_trees (Some start) tokens)
read_on_trees tokens = read_on-carried of_trees of_kept kept carries (Some start) tokens

module _ (spelt : ReadIsSpelt) (tokens : List PlainToken) where
  tree-from :
      (low : PlainTree) (x : Option PlainTree) → read of_trees tokens ≡ x → option_map kept x ≡ Some (Some low) → IsTreeOf tokens low
  tree-from low None reads is = absurd cc
  tree-from low (Some tree) reads is =
      let same : kept tree ≡ Some low = cc in
      let parts = kept-Some tree low same in
      let P : PlainTree → Type 0 = λ t. IsTreeOf tokens t in
      subst P parts.0 (record { spells = spelt tokens tree reads; low = parts.1 })

  pub tree-is : (low : PlainTree) → read of_kept tokens ≡ Some (Some low) → IsTreeOf tokens low
  tree-is low is = tree-from low (read of_trees tokens) refl (sym (read_trees tokens) ∙ is)

  too_high-from : (x : Option PlainTree) → read of_trees tokens ≡ x → option_map kept x ≡ Some None → IsTooHigh tokens
  too_high-from None reads is = absurd cc
  too_high-from (Some tree) reads is =
      let none : kept tree ≡ None = cc in
      record { tree = tree; spells = spelt tokens tree reads; high = kept-None tree none }

  pub too_high-is : read of_kept tokens ≡ Some None → IsTooHigh tokens
  too_high-is is = too_high-from (read of_trees tokens) refl (sym (read_trees tokens) ∙ is)

module _ (is_read : SpeltIsRead) (begin : FrontsBegin) (are_read : FrontsAreRead) where
  begins-from :
      (front : List PlainToken) (frames : List (Frame (Option PlainTree))) (x : Option (List (Frame PlainTree)))
      → read_on of_trees (Some start) front ≡ x → option_map (map (frame_map kept)) x ≡ Some frames → BeginsUnit front
  begins-from front frames None reads is = absurd cc
  begins-from front frames (Some others) reads is = begin front others reads

  not_read : (front : List PlainToken) → read_on of_kept (Some start) front ≡ None → BeginsUnit front → ⊥
  not_read front none begins =
      let reading = are_read front begins in
      let some = read_on_trees front ∙ ap (option_map (map (frame_map kept))) reading.reads in cc

  not_spelt : (tokens : List PlainToken) → read of_kept tokens ≡ None → (tree : PlainTree) → Spells tokens tree → ⊥
  not_spelt tokens none tree spells =
      let some = read_trees tokens ∙ ap (option_map kept) (is_read tokens tree spells) in cc

  pub unexpected-is : (tokens : List PlainToken) (place : ℕ) → IsFault tokens place → IsUnexpected tokens place
  unexpected-is tokens place fault = record {
    within = fault.within;
    begins =
        begins-from (take place tokens) fault.frames (read_on of_trees (Some start) (take place tokens)) refl
        (sym (read_on_trees (take place tokens)) ∙ fault.reads);
    whole = not_spelt tokens fault.whole;
    ends = λ inside. not_read (take (place + 1) tokens) (fault.ends inside);
  }
