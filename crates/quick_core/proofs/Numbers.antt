-- The numbers of a file that reads as items are numbers of the quick form.
use Rattle.std.proofs.Common.{◌≡◌, ℕ, Bool, true, false, List, [], ◌∷◌, ◌++◌, codes, refl, sym, ◌∙◌, ap, subst, cond}
use Rattle.std.specs.List.{flat_map, All, AllByRecursion}
use Rattle.std.proofs.lemmas.List.Elements.{All-nil, All-cons}
use Rattle.std.specs.Str.{bytes_eq}
use Rattle.quick_form.specs.Words.{value_of, is_name, is_number, is_blank}
use Rattle.quick_form.specs.Symbols.{Symbol, Name, Number, Mark, Ifdef, Else, Endif, Malformed, Piece, Word, Other, word_symbol, piece_symbols, directive_symbol, line_symbols, lines_of, pieces_of, solid_pieces, is_directive_line, after_first_piece}
use Rattle.quick_form.specs.Form.{Operand, Named, Literal, Term, Sum, Statements, no_more, assignment, output, return_of, loop, group, choice, Items, no_item, variable, initialised, main_with, item_group, item_choice, operand_symbol, write_terms, write_sum, write_statements, write_items}
use Rattle.quick_form.specs.Program as quick
use Rattle.quick_form.specs.Program.{Code, Declaration, object, function, chosen_code, program, IsAccepted}
use Rattle.quick_form.specs.Run as quick_run
use Rattle.core_meaning.specs.Run as core
use Rattle.quick_core.specs.CoreProgram.{core_program}
use Rattle.quick_core.specs.Present.{Item, tentative, valued, main_of, present_items, declaration, declarations, operand_numbers, term_numbers, sum_numbers, code_numbers, item_numbers}
use Rattle.quick_core.specs.Laws.{core_answer, ProgramIsOfItems, NumbersAreRead, RunsAgree}
use Rattle.quick_core.proofs.Starts.{IsNumber, items_agree, all_by, split_all}

-- a symbol that is a number is one
abbrev IsProper : Symbol → Type 0
IsProper (Number d) = IsNumber d
IsProper s = Unit {0}

proper_choice : (b : Bool) (x y : Symbol) → (b ≡ true → IsProper x) → IsProper y → IsProper (cond b x y)
proper_choice true x y p q = p refl
proper_choice false x y p q = q

proper_word : (w : List ℕ) → IsProper (word_symbol w)
proper_word w =
    proper_choice (bytes_eq w (codes "int")) _ _ (λ _. tt)
    (proper_choice (bytes_eq w (codes "void")) _ _ (λ _. tt)
    (proper_choice (bytes_eq w (codes "while")) _ _ (λ _. tt)
    (proper_choice (bytes_eq w (codes "return")) _ _ (λ _. tt)
    (proper_choice (bytes_eq w (codes "putchar")) _ _ (λ _. tt)
    (proper_choice (bytes_eq w (codes "main")) _ _ (λ _. tt)
    (proper_choice (is_name w) (Name w) _ (λ _. tt)
    (proper_choice (is_number w) (Number w) Malformed (λ h. h) tt)))))))

abbrev AreProper : List Symbol → Type 0
AreProper ks = AllByRecursion IsProper ks

proper_append : (a b : List Symbol) → AreProper a → AreProper b → AreProper (a ++ b)
proper_append [] b p q = q
proper_append (x ∷ a) b p q = (p.0, proper_append a b p.1 q)

proper_if : (b : Bool) (x y : List Symbol) → AreProper x → AreProper y → AreProper (cond b x y)
proper_if true x y p q = p
proper_if false x y p q = q

proper_piece : (p : Piece) → AreProper (piece_symbols p)
proper_piece (Word w) = (proper_word w, tt)
proper_piece (Other b) = proper_if (is_blank b) [] (Mark b ∷ []) tt (tt, tt)

proper_pieces : (ps : List Piece) → AreProper (flat_map piece_symbols ps)
proper_pieces [] = tt
proper_pieces (p ∷ ps) = proper_append (piece_symbols p) (flat_map piece_symbols ps) (proper_piece p) (proper_pieces ps)

proper_directive : (ps : List Piece) → IsProper (directive_symbol ps)
proper_directive [] = tt
proper_directive (Other b ∷ ps) = tt
proper_directive (Word d ∷ []) =
    proper_choice (bytes_eq d (codes "else")) Else _ (λ _. tt) (proper_choice (bytes_eq d (codes "endif")) Endif Malformed (λ _. tt) tt)
proper_directive (Word d ∷ Other b ∷ ps) = tt
proper_directive (Word d ∷ Word n ∷ []) =
    proper_choice (bytes_eq d (codes "ifdef")) _ Malformed (λ _. proper_choice (is_name n) (Ifdef n) Malformed (λ _. tt) tt) tt
proper_directive (Word d ∷ Word n ∷ p ∷ ps) = tt

proper_line : (line : List ℕ) → AreProper (line_symbols line)
proper_line line =
    proper_if (is_directive_line (solid_pieces line)) _ _
    (proper_directive (after_first_piece (solid_pieces line)), tt) (proper_pieces (pieces_of line))

proper_lines : (lines : List (List ℕ)) → AreProper (flat_map line_symbols lines)
proper_lines [] = tt
proper_lines (line ∷ lines) = proper_append (line_symbols line) (flat_map line_symbols lines) (proper_line line) (proper_lines lines)

-- ---- what proper symbols spell

abbrev AreNumbers : List (List ℕ) → Type 0
AreNumbers ds = AllByRecursion IsNumber ds

numbers_append : (a b : List (List ℕ)) → AreNumbers a → AreNumbers b → AreNumbers (a ++ b)
numbers_append [] b p q = q
numbers_append (x ∷ a) b p q = (p.0, numbers_append a b p.1 q)

operand_proper : (o : Operand) → IsProper (operand_symbol o) → AreNumbers (operand_numbers o)
operand_proper (Named x) h = tt
operand_proper (Literal d) h = (h, tt)

terms_proper : (ts : List Term) (k : List Symbol) → AreProper (write_terms ts k) → AreNumbers (term_numbers ts) × AreProper k
terms_proper [] k h = (tt, h)
terms_proper (t ∷ ts) k h =
    let rest = terms_proper ts k h.1.1 in
    (numbers_append (operand_numbers t.operand) (term_numbers ts) (operand_proper t.operand h.1.0) rest.0, rest.1)

sum_proper : (s : Sum) (k : List Symbol) → AreProper (write_sum s k) → AreNumbers (sum_numbers s) × AreProper k
sum_proper s k h =
    let rest = terms_proper s.more k h.1 in
    (numbers_append (operand_numbers s.first) (term_numbers s.more) (operand_proper s.first h.0) rest.0, rest.1)

-- code before which statements stand
abbrev Extends : (Code → Code) → Type 0
Extends f = (c : Code) → AreNumbers (code_numbers c) → AreNumbers (code_numbers (f c))

extends_if : (b : Bool) (f g : Code → Code) → Extends f → Extends g → Extends (λ c. cond b (f c) (g c))
extends_if true f g p q = p
extends_if false f g p q = q

items_append : (a b : List Item) → AreNumbers (item_numbers a) → AreNumbers (item_numbers b) → AreNumbers (item_numbers (a ++ b))
items_append [] b p q = q
items_append (tentative x ∷ a) b p q = items_append a b p q
items_append (valued x d ∷ a) b p q = (p.0, items_append a b p.1 q)
items_append (main_of c ∷ a) b p q =
    let parts = split_all IsNumber (code_numbers c) (item_numbers a) p in
    numbers_append (code_numbers c) (item_numbers (a ++ b)) parts.0 (items_append a b parts.1 q)

items_if : (b : Bool) (x y : List Item) → AreNumbers (item_numbers x) → AreNumbers (item_numbers y) → AreNumbers (item_numbers (cond b x y))
items_if true x y p q = p
items_if false x y p q = q

module _ (on : List ℕ → Bool) where
  statements_proper : (st : Statements) (k : List Symbol) → AreProper (write_statements st k) → Extends (chosen_code on st) × AreProper k
  statements_proper no_more k h = (λ c n. n, h)
  statements_proper (assignment x s rest) k h =
      let first = sum_proper s (Mark 59 ∷ write_statements rest k) h.1.1 in
      let others = statements_proper rest k first.1.1 in
      (λ c n. numbers_append (sum_numbers s) (code_numbers (chosen_code on rest c)) first.0 (others.0 c n), others.1)
  statements_proper (output s rest) k h =
      let first = sum_proper s (Mark 41 ∷ Mark 59 ∷ write_statements rest k) h.1.1 in
      let others = statements_proper rest k first.1.1.1 in
      (λ c n. numbers_append (sum_numbers s) (code_numbers (chosen_code on rest c)) first.0 (others.0 c n), others.1)
  statements_proper (return_of s rest) k h =
      let first = sum_proper s (Mark 59 ∷ write_statements rest k) h.1 in
      let others = statements_proper rest k first.1.1 in
      (λ c n. numbers_append (sum_numbers s) (code_numbers (chosen_code on rest c)) first.0 (others.0 c n), others.1)
  statements_proper (loop s body rest) k h =
      let first = sum_proper s (Mark 41 ∷ Mark 123 ∷ write_statements body (Mark 125 ∷ write_statements rest k)) h.1.1 in
      let inner = statements_proper body (Mark 125 ∷ write_statements rest k) first.1.1.1 in
      let others = statements_proper rest k inner.1.1 in (
        λ c n. numbers_append (sum_numbers s) (code_numbers (chosen_code on body quick.done) ++ code_numbers (chosen_code on rest c)) first.0
            (numbers_append (code_numbers (chosen_code on body quick.done)) (code_numbers (chosen_code on rest c)) (inner.0 quick.done tt) (others.0 c n)),
        others.1,
      )
  statements_proper (group n body rest) k h =
      let inner = statements_proper body (Endif ∷ write_statements rest k) h.1 in
      let others = statements_proper rest k inner.1.1 in
      (extends_if (on n) (λ c. chosen_code on body (chosen_code on rest c)) (chosen_code on rest) (λ c p. inner.0 (chosen_code on rest c) (others.0 c p)) others.0, others.1)
  statements_proper (choice n body other rest) k h =
      let inner = statements_proper body (Else ∷ write_statements other (Endif ∷ write_statements rest k)) h.1 in
      let second = statements_proper other (Endif ∷ write_statements rest k) inner.1.1 in
      let others = statements_proper rest k second.1.1 in (
        extends_if (on n) (λ c. chosen_code on body (chosen_code on rest c)) (λ c. chosen_code on other (chosen_code on rest c))
            (λ c p. inner.0 (chosen_code on rest c) (others.0 c p)) (λ c p. second.0 (chosen_code on rest c) (others.0 c p)),
        others.1,
      )

  items_proper : (items : Items) (k : List Symbol) → AreProper (write_items items k) → AreNumbers (item_numbers (present_items on items)) × AreProper k
  items_proper no_item k h = (tt, h)
  items_proper (variable x rest) k h = items_proper rest k h.1.1.1
  items_proper (initialised x d rest) k h =
      let others = items_proper rest k h.1.1.1.1.1 in
      ((h.1.1.1.0, others.0), others.1)
  items_proper (main_with body rest) k h =
      let inner = statements_proper body (Mark 125 ∷ write_items rest k) h.1.1.1.1.1.1 in
      let others = items_proper rest k inner.1.1 in
      (numbers_append (code_numbers (chosen_code on body quick.done)) (item_numbers (present_items on rest)) (inner.0 quick.done tt) others.0, others.1)
  items_proper (item_group n body rest) k h =
      let inner = items_proper body (Endif ∷ write_items rest k) h.1 in
      let others = items_proper rest k inner.1.1 in
      (items_append (cond (on n) (present_items on body) []) (present_items on rest) (items_if (on n) (present_items on body) [] inner.0 tt) others.0, others.1)
  items_proper (item_choice n body other rest) k h =
      let inner = items_proper body (Else ∷ write_items other (Endif ∷ write_items rest k)) h.1 in
      let second = items_proper other (Endif ∷ write_items rest k) inner.1.1 in
      let others = items_proper rest k second.1.1 in (
        items_append (cond (on n) (present_items on body) (present_items on other)) (present_items on rest)
            (items_if (on n) (present_items on body) (present_items on other) inner.0 second.0) others.0,
        others.1,
      )

pub all_from : {X : Type 0} (P : X → Type 0) (xs : List X) → AllByRecursion P xs → All P xs
all_from P [] h = All-nil P
all_from P (x ∷ xs) h = All-cons P x xs h.0 (all_from P xs h.1)

pub numbers_are_read_lem : NumbersAreRead
numbers_are_read_lem on bytes items reads =
    all_from IsNumber (item_numbers (present_items on items)) (items_proper on items [] (subst AreProper reads (proper_lines (lines_of bytes)))).0

-- ---- the program of a configuration

declarations_append : (a b : List Item) → declarations (a ++ b) ≡ declarations a ++ declarations b
declarations_append [] b = refl
declarations_append (x ∷ a) b = ap (λ ds. declaration x ∷ ds) (declarations_append a b)

declarations_if : (b : Bool) (x y : List Declaration) (x' y' : List Item) → x ≡ declarations x' → y ≡ declarations y' → cond b x y ≡ declarations (cond b x' y')
declarations_if true x y x' y' p q = p
declarations_if false x y x' y' p q = q

joined_declarations : (a b : List Declaration) (a' b' : List Item) → a ≡ declarations a' → b ≡ declarations b' → a ++ b ≡ declarations (a' ++ b')
joined_declarations a b a' b' p q = ap (λ x. x ++ b) p ∙ (ap (λ y. declarations a' ++ y) q ∙ sym (declarations_append a' b'))

pub program_is_of_items_lem : ProgramIsOfItems
program_is_of_items_lem on no_item = refl
program_is_of_items_lem on (variable x rest) = ap (λ ds. object x 0 ∷ ds) (program_is_of_items_lem on rest)
program_is_of_items_lem on (initialised x d rest) = ap (λ ds. object x (value_of d) ∷ ds) (program_is_of_items_lem on rest)
program_is_of_items_lem on (main_with body rest) = ap (λ ds. function (chosen_code on body quick.done) ∷ ds) (program_is_of_items_lem on rest)
program_is_of_items_lem on (item_group n body rest) =
    joined_declarations (cond (on n) (program on body) []) (program on rest) (cond (on n) (present_items on body) []) (present_items on rest)
    (declarations_if (on n) (program on body) [] (present_items on body) [] (program_is_of_items_lem on body) refl) (program_is_of_items_lem on rest)
program_is_of_items_lem on (item_choice n body other rest) =
    joined_declarations (cond (on n) (program on body) (program on other)) (program on rest) (cond (on n) (present_items on body) (present_items on other)) (present_items on rest)
    (declarations_if (on n) (program on body) (program on other) (present_items on body) (present_items on other) (program_is_of_items_lem on body) (program_is_of_items_lem on other))
    (program_is_of_items_lem on rest)

pub runs_agree_lem : ProgramIsOfItems → NumbersAreRead → RunsAgree
runs_agree_lem same numbers on bytes items reads accepted input n =
    let numbers' = all_by IsNumber (item_numbers (present_items on items)) (numbers on bytes items reads) in
    subst (λ p. IsAccepted p → core.run (core_program (present_items on items)) input n ≡ core_answer (quick_run.run p input n)) (sym (same on items))
    (λ a. items_agree (present_items on items) numbers' a input n) accepted
