-- A text without backslashes has no splices: its bytes stay, each at its offset.
use Rattle.std.proofs.Common.{◌≡◌, ℕ, suc, ◌==◌, false, List, [], ◌∷◌, ◌++◌, refl, ap}
use Rattle.std.specs.List.{AllByRecursion}
use Rattle.c_text.specs.Splices.{Placed, placed, bytes_of, spliced_from}

-- bytes that stand one after the other, from an offset on
abbrev pub placed_at : ℕ → List ℕ → List Placed
placed_at at [] = []
placed_at at (b ∷ bs) = placed b at ∷ placed_at (suc at) bs

-- the offset behind them
abbrev pub behind : ℕ → List ℕ → ℕ
behind at [] = at
behind at (b ∷ bs) = behind (suc at) bs

pub placed_bytes : (at : ℕ) (bs : List ℕ) → bytes_of (placed_at at bs) ≡ bs
placed_bytes at [] = refl
placed_bytes at (b ∷ bs) = ap (λ cs. b ∷ cs) (placed_bytes (suc at) bs)

pub placed_append : (at : ℕ) (bs cs : List ℕ) → placed_at at (bs ++ cs) ≡ placed_at at bs ++ placed_at (behind at bs) cs
placed_append at [] cs = refl
placed_append at (b ∷ bs) cs = ap (λ ps. placed b at ∷ ps) (placed_append (suc at) bs cs)

abbrev pub NoBackslash : List ℕ → Type 0
NoBackslash bs = AllByRecursion (λ b. (92 == b) ≡ false) bs

pub spliced_is : (at : ℕ) (bs : List ℕ) → NoBackslash bs → spliced_from 0 at bs ≡ placed_at at bs
spliced_is at [] h = refl
spliced_is at (b ∷ bs) h = rw h.0 (ap (λ ps. placed b at ∷ ps) (spliced_is (suc at) bs h.1))
