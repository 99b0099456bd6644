use Rattle.std.specs.Prelude.{ℕ, ◌<◌, List, Option, Some, None, ◌⊎◌}

-- how many names a write takes from the room: one, where nothing stands under the name yet
abbrev pub names_taken : Option (List ℕ) → ℕ
names_taken None = 1
names_taken (Some bytes) = 0

-- the room has too few names for what stands under the name, or too few bytes
abbrev pub LacksRoom : Option (List ℕ) → ℕ → ℕ → ℕ → Type 0
LacksRoom held names_left bytes_left bytes = (names_left < names_taken held) ⊎ (bytes_left < bytes)
