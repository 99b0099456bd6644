-- What renamed items write: the symbols that the items write, renamed.
use Rattle.std.proofs.Common.{◌≡◌, ℕ, cond, List, [], ◌∷◌, map, refl, sym, ap, ◌∙◌}
use Rattle.quick_form.specs.Symbols.{Symbol, Int, Void, While, Return, Putchar, Main, Name, Number, Mark, Ifdef, Else, Endif}
use Rattle.quick_form.specs.Form.{Operand, Named, Literal, Term, Sum, Statements, no_more, assignment, output, return_of, loop, group, choice, Items, no_item, variable, initialised, main_with, item_group, item_choice, operand_symbol, write_terms, write_sum, write_statements, write_items}
use Rattle.quick_form.specs.Renaming.{renamed_word, renamed_symbol, changed_operand, changed_term, changed_sum, changed_statements, renamed_items}
use Rattle.quick_form.specs.Quick.{RenamedSymbols, RenamedReads}
use Rattle.quick_form.proofs.LexingLines.{symbols_of-renamed}

operand-renamed : (old new : List ℕ) (x : Operand) → operand_symbol (changed_operand (renamed_word old new) x) ≡ renamed_symbol old new (operand_symbol x)
operand-renamed old new (Named x) = refl
operand-renamed old new (Literal d) = refl

terms-renamed : (old new : List ℕ) (ts : List Term) (k : List Symbol) → write_terms (map (changed_term (renamed_word old new)) ts) (map (renamed_symbol old new) k) ≡ map (renamed_symbol old new) (write_terms ts k)
terms-renamed old new [] k = refl
terms-renamed old new (t ∷ ts) k =
    ap (λ x. Mark (cond t.subtracted 45 43) ∷ x ∷ write_terms (map (changed_term (renamed_word old new)) ts) (map (renamed_symbol old new) k)) (operand-renamed old new t.operand)
    ∙ ap (λ ks. Mark (cond t.subtracted 45 43) ∷ renamed_symbol old new (operand_symbol t.operand) ∷ ks) (terms-renamed old new ts k)

sum-renamed : (old new : List ℕ) (s : Sum) (k : List Symbol) → write_sum (changed_sum (renamed_word old new) s) (map (renamed_symbol old new) k) ≡ map (renamed_symbol old new) (write_sum s k)
sum-renamed old new s k =
    ap (λ x. x ∷ write_terms (map (changed_term (renamed_word old new)) s.more) (map (renamed_symbol old new) k)) (operand-renamed old new s.first)
    ∙ ap (λ ks. renamed_symbol old new (operand_symbol s.first) ∷ ks) (terms-renamed old new s.more k)

statements-renamed : (old new : List ℕ) (b : Statements) (k : List Symbol) → write_statements (changed_statements (renamed_word old new) b) (map (renamed_symbol old new) k) ≡ map (renamed_symbol old new) (write_statements b k)
statements-renamed old new no_more k = refl
statements-renamed old new (assignment x s rest) k =
    ap (λ ks. Name (renamed_word old new x) ∷ Mark 61 ∷ write_sum (changed_sum (renamed_word old new) s) (Mark 59 ∷ ks)) (statements-renamed old new rest k)
    ∙ ap (λ ks. Name (renamed_word old new x) ∷ Mark 61 ∷ ks) (sum-renamed old new s (Mark 59 ∷ write_statements rest k))
statements-renamed old new (output s rest) k =
    ap (λ ks. Putchar ∷ Mark 40 ∷ write_sum (changed_sum (renamed_word old new) s) (Mark 41 ∷ Mark 59 ∷ ks)) (statements-renamed old new rest k)
    ∙ ap (λ ks. Putchar ∷ Mark 40 ∷ ks) (sum-renamed old new s (Mark 41 ∷ Mark 59 ∷ write_statements rest k))
statements-renamed old new (return_of s rest) k =
    ap (λ ks. Return ∷ write_sum (changed_sum (renamed_word old new) s) (Mark 59 ∷ ks)) (statements-renamed old new rest k)
    ∙ ap (λ ks. Return ∷ ks) (sum-renamed old new s (Mark 59 ∷ write_statements rest k))
statements-renamed old new (loop s body rest) k =
    let after = Mark 125 ∷ write_statements rest k in
    let inner : write_statements (changed_statements (renamed_word old new) body) (Mark 125 ∷ write_statements (changed_statements (renamed_word old new) rest) (map (renamed_symbol old new) k)) ≡ map (renamed_symbol old new) (write_statements body after) =
    ap (λ ks. write_statements (changed_statements (renamed_word old new) body) (Mark 125 ∷ ks)) (statements-renamed old new rest k)
    ∙ statements-renamed old new body after in
    ap (λ ks. While ∷ Mark 40 ∷ write_sum (changed_sum (renamed_word old new) s) (Mark 41 ∷ Mark 123 ∷ ks)) inner
    ∙ ap (λ ks. While ∷ Mark 40 ∷ ks) (sum-renamed old new s (Mark 41 ∷ Mark 123 ∷ write_statements body after))
statements-renamed old new (group n body rest) k =
    ap (λ ks. Ifdef n ∷ write_statements (changed_statements (renamed_word old new) body) (Endif ∷ ks)) (statements-renamed old new rest k)
    ∙ ap (λ ks. Ifdef n ∷ ks) (statements-renamed old new body (Endif ∷ write_statements rest k))
statements-renamed old new (choice n body other rest) k =
    let after = Endif ∷ write_statements rest k in
    ap (λ ks. Ifdef n ∷ write_statements (changed_statements (renamed_word old new) body) (Else ∷ write_statements (changed_statements (renamed_word old new) other) (Endif ∷ ks))) (statements-renamed old new rest k)
    ∙ ap (λ ks. Ifdef n ∷ write_statements (changed_statements (renamed_word old new) body) (Else ∷ ks)) (statements-renamed old new other after)
    ∙ ap (λ ks. Ifdef n ∷ ks) (statements-renamed old new body (Else ∷ write_statements other after))

items-renamed : (old new : List ℕ) (i : Items) (k : List Symbol) → write_items (renamed_items old new i) (map (renamed_symbol old new) k) ≡ map (renamed_symbol old new) (write_items i k)
items-renamed old new no_item k = refl
items-renamed old new (variable x rest) k =
    ap (λ ks. Int ∷ Name (renamed_word old new x) ∷ Mark 59 ∷ ks) (items-renamed old new rest k)
items-renamed old new (initialised x d rest) k =
    ap (λ ks. Int ∷ Name (renamed_word old new x) ∷ Mark 61 ∷ Number d ∷ Mark 59 ∷ ks) (items-renamed old new rest k)
items-renamed old new (main_with body rest) k =
    ap (λ ks. Int ∷ Main ∷ Mark 40 ∷ Void ∷ Mark 41 ∷ Mark 123 ∷ write_statements (changed_statements (renamed_word old new) body) (Mark 125 ∷ ks)) (items-renamed old new rest k)
    ∙ ap (λ ks. Int ∷ Main ∷ Mark 40 ∷ Void ∷ Mark 41 ∷ Mark 123 ∷ ks) (statements-renamed old new body (Mark 125 ∷ write_items rest k))
items-renamed old new (item_group n body rest) k =
    ap (λ ks. Ifdef n ∷ write_items (renamed_items old new body) (Endif ∷ ks)) (items-renamed old new rest k)
    ∙ ap (λ ks. Ifdef n ∷ ks) (items-renamed old new body (Endif ∷ write_items rest k))
items-renamed old new (item_choice n body other rest) k =
    let after = Endif ∷ write_items rest k in
    ap (λ ks. Ifdef n ∷ write_items (renamed_items old new body) (Else ∷ write_items (renamed_items old new other) (Endif ∷ ks))) (items-renamed old new rest k)
    ∙ ap (λ ks. Ifdef n ∷ write_items (renamed_items old new body) (Else ∷ ks)) (items-renamed old new other after)
    ∙ ap (λ ks. Ifdef n ∷ ks) (items-renamed old new body (Else ∷ write_items other after))

pub renamed_symbols_lem : RenamedSymbols
renamed_symbols_lem old new bytes ho hn = symbols_of-renamed old new bytes ho hn

pub renamed_reads_lem : RenamedReads
renamed_reads_lem old new bytes items ho hn reads =
    symbols_of-renamed old new bytes ho hn
    ∙ ap (map (renamed_symbol old new)) reads
    ∙ sym (items-renamed old new items [])
