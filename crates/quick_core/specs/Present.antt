-- The items that are present in a configuration, as they are written: with an object's first value, if one is written, by its digits.
use Rattle.std.specs.Prelude.{ℕ, Bool, List, [], ◌∷◌, ◌++◌, map, if◌then◌else◌}
use Rattle.quick_form.specs.Words.{value_of}
use Rattle.quick_form.specs.Form.{Operand, Named, Literal, Term, Sum, Items, no_item, variable, initialised, main_with, item_group, item_choice}
use Rattle.quick_form.specs.Program.{Code, done, assign, put, give, while_, Declaration, object, function, chosen_code}

pub data Item : Type 0 where
  -- `int x;`
  tentative : List ℕ → Item
  -- `int x = d;`
  valued : List ℕ → List ℕ → Item
  main_of : Code → Item

abbrev pub present_items : (List ℕ → Bool) → Items → List Item
present_items on no_item = []
present_items on (variable x rest) = tentative x ∷ present_items on rest
present_items on (initialised x d rest) = valued x d ∷ present_items on rest
present_items on (main_with body rest) = main_of (chosen_code on body done) ∷ present_items on rest
present_items on (item_group n body rest) = (if on n then present_items on body else []) ++ present_items on rest
present_items on (item_choice n body other rest) =
    (if on n then present_items on body else present_items on other) ++ present_items on rest

abbrev pub declaration : Item → Declaration
declaration (tentative x) = object x 0
declaration (valued x d) = object x (value_of d)
declaration (main_of c) = function c

abbrev pub declarations : List Item → List Declaration
declarations items = map declaration items

-- the numbers that stand in items, by their digits
abbrev pub operand_numbers : Operand → List (List ℕ)
operand_numbers (Named x) = []
operand_numbers (Literal d) = d ∷ []

abbrev pub term_numbers : List Term → List (List ℕ)
term_numbers [] = []
term_numbers (t ∷ ts) = operand_numbers t.operand ++ term_numbers ts

abbrev pub sum_numbers : Sum → List (List ℕ)
sum_numbers s = operand_numbers s.first ++ term_numbers s.more

abbrev pub code_numbers : Code → List (List ℕ)
code_numbers done = []
code_numbers (assign x s rest) = sum_numbers s ++ code_numbers rest
code_numbers (put s rest) = sum_numbers s ++ code_numbers rest
code_numbers (give s rest) = sum_numbers s ++ code_numbers rest
code_numbers (while_ s body rest) = sum_numbers s ++ (code_numbers body ++ code_numbers rest)

abbrev pub item_numbers : List Item → List (List ℕ)
item_numbers [] = []
item_numbers (tentative x ∷ rest) = item_numbers rest
item_numbers (valued x d ∷ rest) = d ∷ item_numbers rest
item_numbers (main_of c ∷ rest) = code_numbers c ++ item_numbers rest
