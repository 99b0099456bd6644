-- What declares the tokens of a unit, by their numbers in its stream, and what a configuration sees of it.
use Rattle.std.specs.Prelude.{◌↔◌, ℕ, zero, suc, ◌==◌, Bool, true, false, not, ◌||◌, List, [], ◌∷◌, map, get_or, Contains, if◌then◌else◌}
use Rattle.std.specs.List.{list_any}
use Rattle.cond_formula.specs.Conditions.{value, condition_of}
use Rattle.cond_pairings.specs.Pairs.{Pair}
use Rattle.declared_tokens.specs.declared.tokens.DeclaredBy.{DeclaredBy}
use Rattle.declared_tokens.specs.declared.tokens.DeclaredTokens.{DeclaredTokens}

-- ---- by pairs of identifiers and what declares them

-- by which tokens this one is declared
abbrev pub declared_among : ℕ → List Pair → List ℕ
declared_among token [] = []
declared_among token (p ∷ rest) =
    if p.identifier == token then p.declared_by ∷ declared_among token rest else declared_among token rest

-- ---- in a configuration

abbrev pub numbers_at : (ℕ → Bool) → List DeclaredBy → List ℕ
numbers_at on [] = []
numbers_at on (d ∷ rest) = if value on (condition_of d.when) then d.number ∷ numbers_at on rest else numbers_at on rest

-- what may declare a token
abbrev pub entries_of : DeclaredTokens → ℕ → List DeclaredBy
entries_of all token = get_or (map (λ entries. entries.items) all.by_token.items) token []

abbrev pub declared_at : (ℕ → Bool) → DeclaredTokens → ℕ → List ℕ
declared_at on all token = numbers_at on (entries_of all token)

-- ---- where two units' tokens are declared by others

abbrev pub is_among : List ℕ → ℕ → Bool
is_among all number = list_any (λ other. other == number) all

-- one of the first isn't among the second
abbrev pub is_one_missing : List ℕ → List ℕ → Bool
is_one_missing some all = list_any (λ number. not (is_among all number)) some

abbrev pub differ : List ℕ → List ℕ → Bool
differ a b = is_one_missing a b || is_one_missing b a

-- each token is declared by the same in both
abbrev pub AreDeclaredAlike : (ℕ → List ℕ) → (ℕ → List ℕ) → Type 0
AreDeclaredAlike a b = (token number : ℕ) → Contains (a token) number ↔ Contains (b token) number

-- some is declared otherwise, or none is
abbrev pub TellsOtherwise : Bool → (ℕ → List ℕ) → (ℕ → List ℕ) → Type 0
TellsOtherwise true a b = AreDeclaredAlike a b → ⊥
TellsOtherwise false a b = AreDeclaredAlike a b

-- one of so many tokens is declared by other tokens in the one than in the other
abbrev pub is_one_declared_otherwise : (ℕ → List ℕ) → (ℕ → List ℕ) → ℕ → Bool
is_one_declared_otherwise a b zero = false
is_one_declared_otherwise a b (suc number) = is_one_declared_otherwise a b number || differ (a number) (b number)
