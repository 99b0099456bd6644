-- How deep parts of variants are, by which their expansion is seen to end.
use Rattle.std.proofs.Common.{ℕ, zero, suc, ◌<◌, ◌≤◌, max, List, [], ◌∷◌, length, get_or, arith}
use Rattle.choice_variants.specs.declared.parts.Part.{Part}
use Rattle.choice_variants.specs.declared.parts.Variant.{Variant}
use Rattle.choice_variants.specs.Variants.{part_depth, AreLow, AreAllLow}

abbrev pub parts_depth : List Part → ℕ
parts_depth [] = 0
parts_depth (part ∷ parts) = max (part_depth part) (parts_depth parts)

abbrev pub variants_depth : List Variant → ℕ
variants_depth [] = 0
variants_depth (variant ∷ variants) = max (parts_depth variant.parts.items) (variants_depth variants)

pub part_within : (list : List Part) (i : ℕ) (x : Part) → i < length list → part_depth (get_or list i x) ≤ parts_depth list
part_within [] i x less = absurd (omega (arith, less))
part_within (first ∷ rest) zero x less = omega arith
part_within (first ∷ rest) (suc i) x less = let h : part_depth (get_or rest i x) ≤ parts_depth rest = part_within rest i x (omega (arith, less)) in omega (arith, h)

pub variant_within : (list : List Variant) (i : ℕ) (x : Variant) → i < length list → parts_depth (get_or list i x).parts.items ≤ variants_depth list
variant_within [] i x less = absurd (omega (arith, less))
variant_within (first ∷ rest) zero x less = omega arith
variant_within (first ∷ rest) (suc i) x less =
    let h : parts_depth (get_or rest i x).parts.items ≤ variants_depth rest = variant_within rest i x (omega (arith, less)) in omega (arith, h)

low_parts : (n : ℕ) (list : List Part) → AreLow n list → parts_depth list ≤ n
low_parts n [] low = omega arith
low_parts n (part ∷ parts) low = let h : parts_depth parts ≤ n = low_parts n parts low.1 in let f : part_depth part ≤ n = low.0 in omega (arith, h, f)

pub low_variants : (n : ℕ) (list : List Variant) → AreAllLow n list → variants_depth list ≤ n
low_variants n [] low = omega arith
low_variants n (variant ∷ variants) low =
    let h : variants_depth variants ≤ n = low_variants n variants low.1 in
    let f : parts_depth variant.parts.items ≤ n = low_parts n variant.parts.items low.0 in omega (arith, h, f)
