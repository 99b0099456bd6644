-- The program of one configuration: what is left of the items where each group has taken its branch, and when it is accepted.
use Rattle.std.specs.Prelude.{◌≡◌, ℕ, Bool, List, [], ◌∷◌, ◌++◌, if◌then◌else◌, Contains, All}
use Rattle.std.specs.List.{IsDistinct}
use Rattle.std.specs.Str.{bytes_eq}
use Rattle.quick_form.specs.Words.{value_of}
use Rattle.quick_form.specs.Form.{Operand, Named, Literal, Term, Sum, Statements, no_more, assignment, output, return_of, loop, group, choice, Items, no_item, variable, initialised, main_with, item_group, item_choice}

-- statements without groups, each with what follows it
pub data Code : Type 0 where
  done : Code
  assign : List ℕ → Sum → Code → Code
  put : Sum → Code → Code
  give : Sum → Code → Code
  while_ : Sum → Code → Code → Code

-- an object with its name and first value, or `main` with its body
pub data Declaration : Type 0 where
  object : List ℕ → ℕ → Declaration
  function : Code → Declaration

-- A configuration says of each name whether it is on. A group takes its branch, and the code k follows.
abbrev pub chosen_code : (List ℕ → Bool) → Statements → Code → Code
chosen_code on no_more k = k
chosen_code on (assignment x s rest) k = assign x s (chosen_code on rest k)
chosen_code on (output s rest) k = put s (chosen_code on rest k)
chosen_code on (return_of s rest) k = give s (chosen_code on rest k)
chosen_code on (loop s body rest) k = while_ s (chosen_code on body done) (chosen_code on rest k)
chosen_code on (group n body rest) k =
    if on n then chosen_code on body (chosen_code on rest k) else chosen_code on rest k
chosen_code on (choice n body other rest) k =
    if on n then chosen_code on body (chosen_code on rest k) else chosen_code on other (chosen_code on rest k)

abbrev pub program : (List ℕ → Bool) → Items → List Declaration
program on no_item = []
program on (variable x rest) = object x 0 ∷ program on rest
program on (initialised x d rest) = object x (value_of d) ∷ program on rest
program on (main_with body rest) = function (chosen_code on body done) ∷ program on rest
program on (item_group n body rest) = (if on n then program on body else []) ++ program on rest
program on (item_choice n body other rest) = (if on n then program on body else program on other) ++ program on rest

-- the names that code uses
abbrev pub operand_names : Operand → List (List ℕ)
operand_names (Named x) = x ∷ []
operand_names (Literal d) = []

abbrev pub term_names : List Term → List (List ℕ)
term_names [] = []
term_names (t ∷ ts) = operand_names t.operand ++ term_names ts

abbrev pub sum_names : Sum → List (List ℕ)
sum_names s = operand_names s.first ++ term_names s.more

abbrev pub used_names : Code → List (List ℕ)
used_names done = []
used_names (assign x s rest) = x ∷ (sum_names s ++ used_names rest)
used_names (put s rest) = sum_names s ++ used_names rest
used_names (give s rest) = sum_names s ++ used_names rest
used_names (while_ s body rest) = sum_names s ++ (used_names body ++ used_names rest)

-- the objects' names; those before the first `main`; the bodies of `main`
abbrev pub object_names : List Declaration → List (List ℕ)
object_names [] = []
object_names (object x v ∷ p) = x ∷ object_names p
object_names (function c ∷ p) = object_names p

abbrev pub visible_names : List Declaration → List (List ℕ)
visible_names [] = []
visible_names (object x v ∷ p) = x ∷ visible_names p
visible_names (function c ∷ p) = []

abbrev pub bodies : List Declaration → List Code
bodies [] = []
bodies (object x v ∷ p) = bodies p
bodies (function c ∷ p) = c ∷ bodies p

-- A program is accepted where `main` is there once, each name is declared at most once, and each used name is
-- declared before its use.
pub record IsAccepted (p : List Declaration) : Type 0 where
  pub body : Code
  pub once : bodies p ≡ body ∷ []
  pub distinct : IsDistinct bytes_eq (object_names p)
  pub known : All (Contains (visible_names p)) (used_names body)
