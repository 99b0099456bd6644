-- Texts that are numbers in decimal.
use Rattle.std.specs.Prelude.{◌≡◌, ℕ, ◌≤◌, List, decimal}

-- The text is this number in decimal, without a leading zero, and the number isn't larger than the first.
abbrev pub IsNumber : ℕ → List ℕ → ℕ → Type 0
IsNumber largest text number = (text ≡ decimal number) × (number ≤ largest)
