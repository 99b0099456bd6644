-- The declared names of items are those that stand behind an `int`.
use Rattle.std.proofs.Common.{◌≡◌, ℕ, Bool, true, false, ◌||◌, List, [], ◌∷◌, ◌++◌, refl, ap, ◌∙◌, sym}
use Rattle.std.proofs.lemmas.List.Folds.{list_any-append}
use Rattle.std.specs.List.{list_any}
use Rattle.std.specs.Str.{bytes_eq}
use Rattle.quick_form.specs.Symbols.{Symbol, Mark, Else, Endif}
use Rattle.quick_form.specs.Form as form
use Rattle.quick_form.specs.Form.{Named, Literal, Term, Sum, Statements, no_more, assignment, output, return_of, loop, group, choice, Items, no_item, variable, initialised, main_with, item_group, item_choice, operand_symbol, write_terms, write_sum, write_statements, write_items, declared_names}
use Rattle.quick_parser.specs.Laws.{declares, DeclaredBehindInt}

operand_declares :
    (n : List ℕ) (o : form.Operand) (k : List Symbol) → declares n (operand_symbol o ∷ k) ≡ declares n k
operand_declares n (Named x) k = refl
operand_declares n (Literal d) k = refl

terms_declare : (n : List ℕ) (ts : List Term) (k : List Symbol) → declares n (write_terms ts k) ≡ declares n k
terms_declare n [] k = refl
terms_declare n (t ∷ ts) k = operand_declares n t.operand (write_terms ts k) ∙ terms_declare n ts k

sum_declares : (n : List ℕ) (s : Sum) (k : List Symbol) → declares n (write_sum s k) ≡ declares n k
sum_declares n s k = operand_declares n s.first (write_terms s.more k) ∙ terms_declare n s.more k

-- statements declare nothing
statements_declare :
    (n : List ℕ) (t : Statements) (k : List Symbol) → declares n (write_statements t k) ≡ declares n k
statements_declare n no_more k = refl
statements_declare n (assignment x s rest) k = sum_declares n s (Mark 59 ∷ write_statements rest k) ∙ statements_declare n rest k
statements_declare n (output s rest) k =
    sum_declares n s (Mark 41 ∷ Mark 59 ∷ write_statements rest k) ∙ statements_declare n rest k
statements_declare n (return_of s rest) k = sum_declares n s (Mark 59 ∷ write_statements rest k) ∙ statements_declare n rest k
statements_declare n (loop s body rest) k =
    sum_declares n s (Mark 41 ∷ Mark 123 ∷ write_statements body (Mark 125 ∷ write_statements rest k))
    ∙ statements_declare n body (Mark 125 ∷ write_statements rest k)
    ∙ statements_declare n rest k
statements_declare n (group x body rest) k =
    statements_declare n body (Endif ∷ write_statements rest k) ∙ statements_declare n rest k
statements_declare n (choice x body other rest) k =
    statements_declare n body (Else ∷ write_statements other (Endif ∷ write_statements rest k))
    ∙ statements_declare n other (Endif ∷ write_statements rest k)
    ∙ statements_declare n rest k

or_assoc : (a b c : Bool) → ((a || b) || c) ≡ (a || (b || c))
or_assoc true b c = refl
or_assoc false b c = refl

or_false : (a : Bool) → (a || false) ≡ a
or_false true = refl
or_false false = refl

items_declare :
    (n : List ℕ) (t : Items) (k : List Symbol)
    → declares n (write_items t k) ≡ (list_any (bytes_eq n) (declared_names t) || declares n k)
items_declare n no_item k = refl
items_declare n (variable x rest) k =
    ap (λ b. bytes_eq n x || b) (items_declare n rest k)
    ∙ sym (or_assoc (bytes_eq n x) (list_any (bytes_eq n) (declared_names rest)) (declares n k))
items_declare n (initialised x d rest) k =
    ap (λ b. bytes_eq n x || b) (items_declare n rest k)
    ∙ sym (or_assoc (bytes_eq n x) (list_any (bytes_eq n) (declared_names rest)) (declares n k))
items_declare n (main_with body rest) k =
    statements_declare n body (Mark 125 ∷ write_items rest k) ∙ items_declare n rest k
items_declare n (item_group x body rest) k =
    items_declare n body (Endif ∷ write_items rest k)
    ∙ ap (λ b. list_any (bytes_eq n) (declared_names body) || b) (items_declare n rest k)
    ∙ sym (or_assoc (list_any (bytes_eq n) (declared_names body)) (list_any (bytes_eq n) (declared_names rest)) (declares n k))
    ∙ ap (λ b. b || declares n k) (sym (list_any-append (bytes_eq n) (declared_names body) (declared_names rest)))
items_declare n (item_choice x body other rest) k =
    items_declare n body (Else ∷ write_items other (Endif ∷ write_items rest k))
    ∙ ap (λ b. list_any (bytes_eq n) (declared_names body) || b)
    (items_declare n other (Endif ∷ write_items rest k)
    ∙ ap (λ b. list_any (bytes_eq n) (declared_names other) || b) (items_declare n rest k))
    ∙ rw (list_any-append (bytes_eq n) (declared_names body) (declared_names other ++ declared_names rest), list_any-append (bytes_eq n) (declared_names other) (declared_names rest))
    (rw (or_assoc, or_assoc) refl)

pub declared_behind_int : DeclaredBehindInt
declared_behind_int n items = items_declare n items [] ∙ or_false (list_any (bytes_eq n) (declared_names items))
