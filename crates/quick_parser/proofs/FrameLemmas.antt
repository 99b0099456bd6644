-- The open frames of a vector, whose last element is the innermost.
use Rattle.std.proofs.Common.{◌≡◌, ℕ, suc, ◌≤◌, List, [], ◌∷◌, length, reverse, slice_set, Some, ◌-◌, refl, arith}
use Rattle.std.proofs.lemmas.List.{reverse-append, reverse-reverse, length-reverse}
use Rattle.std.proofs.Math.Seq.{set-append_seam}
use Rattle.quick_parser.specs.declared.spots.Frame.{Frame}
use Rattle.quick_parser.specs.declared.spots.Frame.TheVariants.{Block, Group, Alternative}
use Rattle.quick_parser.specs.Spots.{block_count, innermost, turned_frames}

-- there are no more blocks than frames
pub block_count-le : (fs : List Frame) → block_count fs ≤ length fs
block_count-le [] = omega arith
block_count-le (Block ∷ fs) = omega (arith, block_count-le fs)
block_count-le (Group ∷ fs) = omega (arith, block_count-le fs)
block_count-le (Alternative ∷ fs) = omega (arith, block_count-le fs)

-- the other branch of the innermost group
turned_end :
    (fs : List Frame) → innermost fs ≡ Some Group
    → reverse (slice_set (reverse fs) (length fs - 1) Alternative) ≡ turned_frames fs
turned_end [] e = absurd cc
turned_end (Group ∷ fs) e =
    let last : suc (length fs) - 1 ≡ length (reverse fs) = omega (arith, length-reverse fs) in
    rw (reverse-append (Group ∷ []) fs, last, set-append_seam (reverse fs) Group [] Alternative, reverse-append (reverse fs) (Alternative ∷ []), reverse-reverse fs)
    refl
turned_end (Block ∷ fs) e = absurd cc
turned_end (Alternative ∷ fs) e = absurd cc

pub reverse-turned :
    (xs : List Frame) (n : ℕ) → n ≡ length xs → innermost (reverse xs) ≡ Some Group
    → reverse (slice_set xs (n - 1) Alternative) ≡ turned_frames (reverse xs)
reverse-turned xs n h e = rw h (rw (reverse-reverse xs, length-reverse xs) at (turned_end (reverse xs) e))

pub block_count-turned : (fs : List Frame) → block_count (turned_frames fs) ≡ block_count fs
block_count-turned [] = refl
block_count-turned (Block ∷ fs) = refl
block_count-turned (Group ∷ fs) = refl
block_count-turned (Alternative ∷ fs) = refl
