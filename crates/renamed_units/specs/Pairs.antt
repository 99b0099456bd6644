-- Lists of which each two elements are related.
use Rattle.std.specs.Prelude.{⊤, List, [], ◌∷◌}

-- lists of one length, of which each two elements are related
abbrev pub Pairs : {X Y : Type 0} → (X → Y → Type 0) → List X → List Y → Type 0
Pairs R [] [] = ⊤
Pairs R [] (y ∷ ys) = ⊥
Pairs R (x ∷ xs) [] = ⊥
Pairs R (x ∷ xs) (y ∷ ys) = R x y × Pairs R xs ys
