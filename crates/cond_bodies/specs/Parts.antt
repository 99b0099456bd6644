-- The parameter that a token of a body is.
use Rattle.std.specs.Prelude.{ℕ, ◌+◌, ◌&&◌, if◌then◌else◌, List, [], ◌∷◌}
use Rattle.c_text.specs.Token.{PlainToken}
use Rattle.c_text.specs.Directives.{is_spelled, is_word}
use Rattle.cond_bodies.specs.declared.part.Part.{Part}
use Rattle.cond_bodies.specs.declared.part.Part.TheVariants as part

-- among parameters that are numbered from here on
abbrev pub part_from : ℕ → List (List ℕ) → PlainToken → Part
part_from number [] token = part.Token
part_from number (param ∷ params) token = if is_word token && is_spelled param token then part.Parameter number else part_from (number + 1) params token
