-- Keywords by their first byte.
use Rattle.std.specs.Prelude.{ℕ, Bool, false, ◌==◌, List, [], ◌∷◌, filter}
use Rattle.c_names.specs.Names.{keywords}

abbrev pub begins_with : ℕ → List ℕ → Bool
begins_with b [] = false
begins_with b (c ∷ cs) = c == b

-- the keywords that begin with a byte
unfoldable pub keywords_from : ℕ → List (List ℕ)
keywords_from b = filter (begins_with b) keywords
