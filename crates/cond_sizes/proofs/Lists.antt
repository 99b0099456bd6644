-- Lists in braces, by the parts of the node.
use Rattle.std.proofs.Common.{◌≡◌, ℕ, ◌+◌, Bool, false, List, [], ◌∷◌, length, get_or, refl, sym, ap, arith}
use Rattle.std.specs.Prelude.{None, option_map, if◌then◌else◌}
use Rattle.c_types.specs.Types.{PlainType}
use Rattle.c_tree.specs.declared.kinds.Kind.TheVariants as k
use Rattle.c_tree.specs.Trees.{PlainTree, PlainTrees, leaf, node, none, more}
use Rattle.choice_variants.specs.declared.parts.Part.{Part}
use Rattle.choice_variants.specs.Variants.{part_at, before}
use Rattle.core_meaning.specs.Constancy.{count_by_initialiser, is_character_type}
use Rattle.core_meaning.specs.Expressions.{text_bytes}

module _ (element : PlainType) where
  two_parts : (first second : PlainTree) → count_by_initialiser element (node k.Braces (more first (more second none))) ≡ None
  two_parts first (leaf token) = refl
  two_parts first (node kind parts) = refl

  four_parts : (first second third fourth : PlainTree) (rest : PlainTrees) → count_by_initialiser element (node k.Braces (more first (more second (more third (more fourth rest))))) ≡ None
  four_parts first (leaf token) third fourth rest = refl
  four_parts first (node kind parts) third fourth rest = refl

  pub not_three : (on : ℕ → Bool) (parts : List Part) → (length parts ≡ 3 → ⊥) → count_by_initialiser element (node k.Braces (before on parts none)) ≡ None
  not_three on [] other = refl
  not_three on (a ∷ []) other = refl
  not_three on (a ∷ b ∷ []) other = two_parts (part_at on a) (part_at on b)
  not_three on (a ∷ b ∷ c ∷ []) other = absurd (other refl)
  not_three on (a ∷ b ∷ c ∷ d ∷ rest) other = four_parts (part_at on a) (part_at on b) (part_at on c) (part_at on d) (before on rest none)

pub three_parts : (on : ℕ → Bool) (parts : List Part) (b : Part) → length parts ≡ 3 → b ≡ get_or parts 1 b
    → (first last : PlainTree) × (before on parts none ≡ more first (more (part_at on b) (more last none)))
three_parts on [] b three is = absurd (omega (arith, three))
three_parts on (a ∷ []) b three is = absurd (omega (arith, three))
three_parts on (a ∷ c ∷ []) b three is = absurd (omega (arith, three))
three_parts on (a ∷ c ∷ d ∷ []) b three is = (part_at on a, part_at on d, ap (λ x. more (part_at on a) (more (part_at on x) (more (part_at on d) none))) (sym is))
three_parts on (a ∷ c ∷ d ∷ e ∷ rest) b three is = absurd (omega (arith, three))

-- texts give no other array a number of elements
pub no_characters : (element : PlainType) (parts : PlainTrees) → is_character_type element ≡ false → count_by_initialiser element (node k.Texts parts) ≡ None
no_characters element parts other = ap (λ b. if b then option_map (λ bytes. length bytes + 1) (text_bytes parts) else None) other
