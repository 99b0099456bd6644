-- What a text says as a controlling expression.
use Rattle.std.specs.Prelude.{◌≡◌, ℕ, Bool, List, All, IsTrue}
use Rattle.c_names.specs.Names.{is_new_name}
use Rattle.cond_formula.specs.Expressions.{Disjunction, disjunction_text, disjunction_holds, DisjunctionNames}

-- Expressions over lawful names that are spelled alike are true alike, so that a text can be read in one way only.
abbrev pub OneReading : Type 0
OneReading =
    (names : List (List ℕ)) → All (λ name. IsTrue (is_new_name name)) names → (one other : Disjunction) → DisjunctionNames names one → DisjunctionNames names other → disjunction_text one ≡ disjunction_text other → (on : List ℕ → Bool) → disjunction_holds on one ≡ disjunction_holds on other
