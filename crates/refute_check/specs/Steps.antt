-- How a step of a refutation is checked: its literals are taken as false, and its hints make more literals true, each in its
-- turn, until one of them names a clause whose literals are all false.
use Rattle.std.specs.Prelude.{ℕ, zero, suc, ◌+◌, ℤ, Bool, true, false, not, if◌then◌else◌, List, [], ◌∷◌, Option, None, Some, replicate, slice_get, slice_index_or, slice_set}
use Rattle.std.specs.List.{list_all}
use Rattle.refute_check.specs.declared.refusals.CheckKind.{CheckKind}
use Rattle.refute_check.specs.declared.refusals.CheckKind.TheVariants.{BadHint, NotFalse, Syntax}
use Rattle.refute_check.specs.Clauses.{variable_of, is_positive, is_clause}

-- The values of the variables, by their numbers; the place of number 0 isn't used.
abbrev pub no_values : ℕ → List (Option Bool)
no_values vars = replicate (vars + 1) None

-- the value of a literal whose variable has this value
abbrev pub literal_of : Bool → Option Bool → Option Bool
literal_of positive None = None
literal_of positive (Some value) = Some (if positive then value else not value)

abbrev pub value_of : List (Option Bool) → ℤ → Option Bool
value_of values literal = literal_of (is_positive literal) (slice_index_or values (variable_of literal) None)

abbrev pub is_false : Option Bool → Bool
is_false None = false
is_false (Some value) = not value

abbrev pub taken_true : List (Option Bool) → ℤ → List (Option Bool)
taken_true values literal = slice_set values (variable_of literal) (Some (is_positive literal))

abbrev pub taken_false : List (Option Bool) → ℤ → List (Option Bool)
taken_false values literal = slice_set values (variable_of literal) (Some (not (is_positive literal)))

abbrev pub all_taken_false : List (Option Bool) → List ℤ → List (Option Bool)
all_taken_false values [] = values
all_taken_false values (first ∷ rest) = all_taken_false (taken_false values first) rest

-- What a hint's clause is where these values are known.
pub data Judgement : Type 0 where
  -- all its literals are false
  false_clause : Judgement
  -- all its literals are false but this one, which has no value
  unit : ℤ → Judgement
  neither : Judgement

-- by the first literal's value and the others
abbrev pub judged : Option Bool → ℤ → Bool → Judgement → Judgement
judged (Some false) first others_false others = others
judged (Some true) first others_false others = neither
judged None first true others = unit first
judged None first false others = neither

abbrev pub all_false : List (Option Bool) → List ℤ → Bool
all_false values clause = list_all (λ literal. is_false (value_of values literal)) clause

abbrev pub judgement : List (Option Bool) → List ℤ → Judgement
judgement values [] = false_clause
judgement values (first ∷ rest) =
    judged (value_of values first) first (all_false values rest) (judgement values rest)

-- the clause with a number, counted from 1
abbrev pub clause_at : List (List ℤ) → ℕ → Option (List ℤ)
clause_at clauses zero = None
clause_at clauses (suc index) = slice_get clauses index

abbrev pub hint_judgement : List (Option Bool) → Option (List ℤ) → Judgement
hint_judgement values None = neither
hint_judgement values (Some clause) = judgement values clause

-- a false clause ends the step, so that no hint may follow
abbrev pub more_hints_fault : List ℕ → Option CheckKind
more_hints_fault [] = None
more_hints_fault (hint ∷ rest) = Some BadHint

-- by what a hint's clause is, and what is wrong with the other hints once a literal is true
abbrev pub hint_fault : Judgement → (ℤ → Option CheckKind) → List ℕ → Option CheckKind
hint_fault false_clause others rest = more_hints_fault rest
hint_fault (unit literal) others rest = others literal
hint_fault neither others rest = Some BadHint

-- What is wrong with the hints, if anything.
abbrev pub hints_fault : List (List ℤ) → List (Option Bool) → List ℕ → Option CheckKind
hints_fault clauses values [] = Some NotFalse
hints_fault clauses values (hint ∷ rest) =
    hint_fault (hint_judgement values (clause_at clauses hint)) (λ literal. hints_fault clauses (taken_true values literal) rest) rest

-- What is wrong with a step after these clauses, if anything.
abbrev pub step_fault : ℕ → List (List ℤ) → List ℤ → List ℕ → Option CheckKind
step_fault vars clauses clause hints =
    if is_clause vars clause then hints_fault clauses (all_taken_false (no_values vars) clause) hints else Some Syntax
