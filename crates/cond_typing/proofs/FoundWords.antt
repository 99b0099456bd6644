-- Words among parts.
use Rattle.std.proofs.Common.{◌≡◌, ℕ, ◌+◌, ◌<◌, ◌||◌, Bool, true, false, List, drop, length, get_or, refl, sym, ap, ◌∙◌}
use Rattle.conditional.proofs.ListLaws.{item_of}
use Rattle.c_tree.specs.declared.terminals.Terminal.{Terminal}
use Rattle.c_tree.specs.Trees.{PlainTree, PlainTrees, leaf, node, none, more}
use Rattle.core_meaning.specs.Expressions.{has_terminal}
use Rattle.choice_variants.specs.declared.parts.Part.{Part}
use Rattle.choice_variants.specs.Variants.{part_at, before}
use Rattle.cond_typing.specs.PartsProgress.{is_wanted}

first_word : (wanted : Terminal) (tree : PlainTree) (rest : PlainTrees) → has_terminal wanted (more tree rest) ≡ (is_wanted wanted tree || has_terminal wanted rest)
first_word wanted (leaf token) rest = refl
first_word wanted (node kind parts) rest = refl

module _ (on : ℕ → Bool) (wanted : Terminal) (parts : List Part) (i : ℕ) (x : Part) (within : i < length parts) (is : x ≡ get_or parts i x) where
  next_word : has_terminal wanted (before on (drop i parts) none) ≡ (is_wanted wanted (part_at on x) || has_terminal wanted (before on (drop (i + 1) parts) none))
  next_word =
      ap (λ list. has_terminal wanted (before on list none)) (item_of parts x i within is) ∙
      first_word wanted (part_at on x) (before on (drop (i + 1) parts) none)

  pub word_found : is_wanted wanted (part_at on x) ≡ true → has_terminal wanted (before on (drop i parts) none) ≡ true
  word_found found = next_word ∙ ap (λ b. b || has_terminal wanted (before on (drop (i + 1) parts) none)) found

  pub word_passed : is_wanted wanted (part_at on x) ≡ false → has_terminal wanted (before on (drop (i + 1) parts) none) ≡ has_terminal wanted (before on (drop i parts) none)
  word_passed other = sym (next_word ∙ ap (λ b. b || has_terminal wanted (before on (drop (i + 1) parts) none)) other)
