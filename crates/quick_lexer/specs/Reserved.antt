-- The words with a meaning of their own.
use Rattle.std.specs.Prelude.{ℕ, List, [], ◌∷◌, codes}
use Rattle.quick_form.specs.Symbols as spec

abbrev pub reserved : List (List ℕ × spec.Symbol)
reserved =
    (codes "int", spec.Int)
    ∷ (codes "void", spec.Void)
    ∷ (codes "while", spec.While)
    ∷ (codes "return", spec.Return)
    ∷ (codes "putchar", spec.Putchar)
    ∷ (codes "main", spec.Main)
    ∷ []
