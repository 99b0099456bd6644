-- Literals, clauses and assignments. A literal is a signed number: n is variable number n, and -n is its negation. A clause
-- is a list of literals, of which one at least is to be true.
use Rattle.std.specs.Prelude.{ℕ, suc, ℤ, pos, negsuc, ◌==◌, Bool, true, false, not, ◌&&◌, nat_le, List, [], ◌∷◌}
use Rattle.std.specs.List.{list_all, list_any}

abbrev pub variable_of : ℤ → ℕ
variable_of (pos n) = n
variable_of (negsuc n) = suc n

-- whether the literal is its variable, and not the negation
abbrev pub is_positive : ℤ → Bool
is_positive (pos n) = true
is_positive (negsuc n) = false

-- whether a literal is true where `values` says which variables are
abbrev pub literal_holds : (ℕ → Bool) → ℤ → Bool
literal_holds values (pos n) = values n
literal_holds values (negsuc n) = not (values (suc n))

abbrev pub clause_holds : (ℕ → Bool) → List ℤ → Bool
clause_holds values clause = list_any (literal_holds values) clause

-- whether the assignment satisfies the clauses
abbrev pub all_hold : (ℕ → Bool) → List (List ℤ) → Bool
all_hold values clauses = list_all (clause_holds values) clauses

-- a literal over variables 1 up to this number
abbrev pub is_literal : ℕ → ℤ → Bool
is_literal vars literal = nat_le 1 (variable_of literal) && nat_le (variable_of literal) vars

abbrev pub names_variable : List ℤ → ℕ → Bool
names_variable clause variable = list_any (λ literal. variable_of literal == variable) clause

-- a clause over these variables, with no variable twice
abbrev pub is_clause : ℕ → List ℤ → Bool
is_clause vars [] = true
is_clause vars (first ∷ rest) =
    is_literal vars first && not (names_variable rest (variable_of first)) && is_clause vars rest
