-- The symbols of items keep apart.
use Rattle.std.proofs.Common.{◌≡◌, Bool, true, false, cond, List, [], ◌∷◌, refl, ◌∙◌}
use Rattle.quick_form.specs.Symbols.{Symbol, Mark}
use Rattle.quick_form.specs.Form.{Operand, Named, Literal, Term, Sum, Statements, no_more, assignment, output, return_of, loop, group, choice, Items, no_item, variable, initialised, main_with, item_group, item_choice, operand_symbol, write_terms, write_sum, write_statements, write_items}
use Rattle.quick_lines.specs.SpelledLines.{are_spaced}

spaced-operand : (o : Operand) (k : List Symbol) → are_spaced (operand_symbol o ∷ k) ≡ are_spaced k
spaced-operand (Named x) k = refl
spaced-operand (Literal d) k = refl

-- a sign, and the operand behind it
spaced-sign : (b : Bool) (o : Operand) (k : List Symbol) → are_spaced (Mark (cond b 45 43) ∷ operand_symbol o ∷ k) ≡ are_spaced k
spaced-sign true (Named x) k = refl
spaced-sign true (Literal d) k = refl
spaced-sign false (Named x) k = refl
spaced-sign false (Literal d) k = refl

spaced-terms : (ts : List Term) (k : List Symbol) → are_spaced (write_terms ts k) ≡ are_spaced k
spaced-terms [] k = refl
spaced-terms (t ∷ ts) k = spaced-sign t.subtracted t.operand (write_terms ts k) ∙ spaced-terms ts k

spaced-sum : (s : Sum) (k : List Symbol) → are_spaced (write_sum s k) ≡ are_spaced k
spaced-sum s k = spaced-operand s.first (write_terms s.more k) ∙ spaced-terms s.more k

spaced-assigned : (o : Operand) (k : List Symbol) → are_spaced (Mark 61 ∷ operand_symbol o ∷ k) ≡ are_spaced k
spaced-assigned (Named x) k = refl
spaced-assigned (Literal d) k = refl

spaced-statements : (st : Statements) (k : List Symbol) → are_spaced (write_statements st k) ≡ are_spaced k
spaced-statements no_more k = refl
spaced-statements (assignment x s rest) k =
    spaced-assigned s.first (write_terms s.more (Mark 59 ∷ write_statements rest k))
    ∙ spaced-terms s.more (Mark 59 ∷ write_statements rest k) ∙ spaced-statements rest k
spaced-statements (output s rest) k = spaced-sum s (Mark 41 ∷ Mark 59 ∷ write_statements rest k) ∙ spaced-statements rest k
spaced-statements (return_of s rest) k = spaced-sum s (Mark 59 ∷ write_statements rest k) ∙ spaced-statements rest k
spaced-statements (loop s body rest) k =
    spaced-sum s (Mark 41 ∷ Mark 123 ∷ write_statements body (Mark 125 ∷ write_statements rest k))
    ∙ spaced-statements body (Mark 125 ∷ write_statements rest k) ∙ spaced-statements rest k
spaced-statements (group n body rest) k = spaced-statements body _ ∙ spaced-statements rest k
spaced-statements (choice n body other rest) k = spaced-statements body _ ∙ spaced-statements other _ ∙ spaced-statements rest k

pub spaced-items : (items : Items) (k : List Symbol) → are_spaced (write_items items k) ≡ are_spaced k
spaced-items no_item k = refl
spaced-items (variable x rest) k = spaced-items rest k
spaced-items (initialised x d rest) k = spaced-items rest k
spaced-items (main_with body rest) k = spaced-statements body (Mark 125 ∷ write_items rest k) ∙ spaced-items rest k
spaced-items (item_group n body rest) k = spaced-items body _ ∙ spaced-items rest k
spaced-items (item_choice n body other rest) k = spaced-items body _ ∙ spaced-items other _ ∙ spaced-items rest k
