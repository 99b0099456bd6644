-- Symbols with their groups, and those of items.
use Rattle.std.proofs.Common.{◌≡◌, ℕ, Bool, true, false, cond, ◌||◌, List, [], ◌∷◌, ◌++◌, refl, sym, ap, ◌∙◌}
use Rattle.std.specs.List.{list_any}
use Rattle.std.proofs.lemmas.Bool.{or_parts}
use Rattle.std.proofs.lemmas.List.{append_assoc}
use Rattle.std.proofs.lemmas.List.Folds.{list_any-append}
use Rattle.quick_form.specs.Symbols.{Symbol, Int, Void, While, Return, Putchar, Main, Name, Number, Mark, Ifdef, Else, Endif}
use Rattle.quick_form.specs.Form.{Operand, Named, Literal, Term, Sum, Statements, no_more, assignment, output, return_of, loop, group, choice, Items, no_item, variable, initialised, main_with, item_group, item_choice, operand_symbol, write_terms, write_sum, write_statements, write_items}
use Rattle.quick_form.specs.Program.{Code, done, assign, put, give, while_, chosen_code}
use Rattle.quick_core.specs.Present.{Item, tentative, valued, main_of, present_items}
use Rattle.quick_trees.specs.Tokens.{write_code, write_present}
use Rattle.quick_lines.specs.Spellings.{is_directive}

-- symbols, each with what follows it, and groups with their branches
pub data Nest : Type 0 where
  nothing : Nest
  symbol : Symbol → Nest → Nest
  one_branch : List ℕ → Nest → Nest → Nest
  two_branches : List ℕ → Nest → Nest → Nest → Nest

-- what a nest writes, followed by other symbols
abbrev pub write : Nest → List Symbol → List Symbol
write nothing k = k
write (symbol s rest) k = s ∷ write rest k
write (one_branch n body rest) k = Ifdef n ∷ write body (Endif ∷ write rest k)
write (two_branches n body other rest) k = Ifdef n ∷ write body (Else ∷ write other (Endif ∷ write rest k))

-- the symbols of the branches that are taken
abbrev pub present : (List ℕ → Bool) → Nest → List Symbol
present on nothing = []
present on (symbol s rest) = s ∷ present on rest
present on (one_branch n body rest) = cond (on n) (present on body) [] ++ present on rest
present on (two_branches n body other rest) = cond (on n) (present on body) (present on other) ++ present on rest

-- its own symbols are no directive lines
abbrev pub IsPlain : Nest → Type 0
IsPlain nothing = Unit {0}
IsPlain (symbol s rest) = (is_directive s ≡ false) × IsPlain rest
IsPlain (one_branch n body rest) = IsPlain body × IsPlain rest
IsPlain (two_branches n body other rest) = IsPlain body × IsPlain other × IsPlain rest

-- ---- one nest behind another, and symbols before one

abbrev pub attach : Nest → Nest → Nest
attach nothing k = k
attach (symbol s rest) k = symbol s (attach rest k)
attach (one_branch n body rest) k = one_branch n body (attach rest k)
attach (two_branches n body other rest) k = two_branches n body other (attach rest k)

abbrev with_symbols : List Symbol → Nest → Nest
with_symbols [] k = k
with_symbols (s ∷ ss) k = symbol s (with_symbols ss k)

write-attach : (a b : Nest) (k : List Symbol) → write (attach a b) k ≡ write a (write b k)
write-attach nothing b k = refl
write-attach (symbol s rest) b k = ap (λ l. s ∷ l) (write-attach rest b k)
write-attach (one_branch n body rest) b k = ap (λ l. Ifdef n ∷ write body (Endif ∷ l)) (write-attach rest b k)
write-attach (two_branches n body other rest) b k =
    ap (λ l. Ifdef n ∷ write body (Else ∷ write other (Endif ∷ l))) (write-attach rest b k)

present-attach : (on : List ℕ → Bool) (a b : Nest) → present on (attach a b) ≡ present on a ++ present on b
present-attach on nothing b = refl
present-attach on (symbol s rest) b = ap (λ l. s ∷ l) (present-attach on rest b)
present-attach on (one_branch n body rest) b =
    ap (λ l. cond (on n) (present on body) [] ++ l) (present-attach on rest b)
    ∙ sym (append_assoc (cond (on n) (present on body) []) (present on rest) (present on b))
present-attach on (two_branches n body other rest) b =
    ap (λ l. cond (on n) (present on body) (present on other) ++ l) (present-attach on rest b)
    ∙ sym (append_assoc (cond (on n) (present on body) (present on other)) (present on rest) (present on b))

plain-attach : (a b : Nest) → IsPlain a → IsPlain b → IsPlain (attach a b)
plain-attach nothing b p q = q
plain-attach (symbol s rest) b p q = (p.0, plain-attach rest b p.1 q)
plain-attach (one_branch n body rest) b p q = (p.0, plain-attach rest b p.1 q)
plain-attach (two_branches n body other rest) b p q = (p.0, p.1, plain-attach rest b p.2 q)

write-symbols : (ss : List Symbol) (a : Nest) (k : List Symbol) → write (with_symbols ss a) k ≡ ss ++ write a k
write-symbols [] a k = refl
write-symbols (s ∷ ss) a k = ap (λ l. s ∷ l) (write-symbols ss a k)

present-symbols : (on : List ℕ → Bool) (ss : List Symbol) (a : Nest) → present on (with_symbols ss a) ≡ ss ++ present on a
present-symbols on [] a = refl
present-symbols on (s ∷ ss) a = ap (λ l. s ∷ l) (present-symbols on ss a)

plain-symbols : (ss : List Symbol) (a : Nest) → list_any is_directive ss ≡ false → IsPlain a → IsPlain (with_symbols ss a)
plain-symbols [] a e p = p
plain-symbols (s ∷ ss) a e p =
    let both = or_parts (is_directive s) (list_any is_directive ss) e in
    (both.0, plain-symbols ss a both.1 p)

-- ---- sums

plain-operand : (o : Operand) → is_directive (operand_symbol o) ≡ false
plain-operand (Named x) = refl
plain-operand (Literal d) = refl

terms-append : (ts : List Term) (k l : List Symbol) → write_terms ts k ++ l ≡ write_terms ts (k ++ l)
terms-append [] k l = refl
terms-append (t ∷ ts) k l = ap (λ x. Mark (cond t.subtracted 45 43) ∷ operand_symbol t.operand ∷ x) (terms-append ts k l)

sum-append : (s : Sum) (k l : List Symbol) → write_sum s k ++ l ≡ write_sum s (k ++ l)
sum-append s k l = ap (λ x. operand_symbol s.first ∷ x) (terms-append s.more k l)

terms-plain : (ts : List Term) (k : List Symbol) → list_any is_directive k ≡ false → list_any is_directive (write_terms ts k) ≡ false
terms-plain [] k e = e
terms-plain (t ∷ ts) k e = ap (λ b. b || list_any is_directive (write_terms ts k)) (plain-operand t.operand) ∙ terms-plain ts k e

sum-plain : (s : Sum) (k : List Symbol) → list_any is_directive k ≡ false → list_any is_directive (write_sum s k) ≡ false
sum-plain s k e = ap (λ b. b || list_any is_directive (write_terms s.more k)) (plain-operand s.first) ∙ terms-plain s.more k e

-- ---- statements

abbrev nest_statements : Statements → Nest
nest_statements no_more = nothing
nest_statements (assignment x s rest) =
    with_symbols (Name x ∷ Mark 61 ∷ write_sum s (Mark 59 ∷ [])) (nest_statements rest)
nest_statements (output s rest) =
    with_symbols (Putchar ∷ Mark 40 ∷ write_sum s (Mark 41 ∷ Mark 59 ∷ [])) (nest_statements rest)
nest_statements (return_of s rest) = with_symbols (Return ∷ write_sum s (Mark 59 ∷ [])) (nest_statements rest)
nest_statements (loop s body rest) =
    with_symbols (While ∷ Mark 40 ∷ write_sum s (Mark 41 ∷ Mark 123 ∷ []))
    (attach (nest_statements body) (symbol (Mark 125) (nest_statements rest)))
nest_statements (group n body rest) = one_branch n (nest_statements body) (nest_statements rest)
nest_statements (choice n body other rest) = two_branches n (nest_statements body) (nest_statements other) (nest_statements rest)

-- symbols that end with those behind a sum
behind-sum : (front : List Symbol) (s : Sum) (k l : List Symbol) → (front ++ write_sum s k) ++ l ≡ front ++ write_sum s (k ++ l)
behind-sum front s k l = append_assoc front (write_sum s k) l ∙ ap (λ x. front ++ x) (sum-append s k l)

-- a statement with a sum, which the rest follows
written-sum : (front : List Symbol) (s : Sum) (k : List Symbol) (a : Nest) (c rest : List Symbol) → write a c ≡ rest → write (with_symbols (front ++ write_sum s k) a) c ≡ front ++ write_sum s (k ++ rest)
written-sum front s k a c rest e =
    write-symbols (front ++ write_sum s k) a c ∙ ap (λ x. (front ++ write_sum s k) ++ x) e ∙ behind-sum front s k rest

statements-written : (st : Statements) (k : List Symbol) → write (nest_statements st) k ≡ write_statements st k
statements-written no_more k = refl
statements-written (assignment x s rest) k =
    written-sum (Name x ∷ Mark 61 ∷ []) s (Mark 59 ∷ []) (nest_statements rest) k (write_statements rest k) (statements-written rest k)
statements-written (output s rest) k =
    written-sum (Putchar ∷ Mark 40 ∷ []) s (Mark 41 ∷ Mark 59 ∷ []) (nest_statements rest) k (write_statements rest k) (statements-written rest k)
statements-written (return_of s rest) k =
    written-sum (Return ∷ []) s (Mark 59 ∷ []) (nest_statements rest) k (write_statements rest k) (statements-written rest k)
statements-written (loop s body rest) k =
    let behind = attach (nest_statements body) (symbol (Mark 125) (nest_statements rest)) in
    let inner : write behind k ≡ write_statements body (Mark 125 ∷ write_statements rest k) =
    write-attach (nest_statements body) (symbol (Mark 125) (nest_statements rest)) k
    ∙ statements-written body (Mark 125 ∷ write (nest_statements rest) k)
    ∙ ap (λ l. write_statements body (Mark 125 ∷ l)) (statements-written rest k) in
    written-sum (While ∷ Mark 40 ∷ []) s (Mark 41 ∷ Mark 123 ∷ []) behind k (write_statements body (Mark 125 ∷ write_statements rest k)) inner
statements-written (group n body rest) k =
    ap (λ l. Ifdef n ∷ write (nest_statements body) (Endif ∷ l)) (statements-written rest k)
    ∙ ap (λ l. Ifdef n ∷ l) (statements-written body (Endif ∷ write_statements rest k))
statements-written (choice n body other rest) k =
    ap (λ l. Ifdef n ∷ write (nest_statements body) (Else ∷ write (nest_statements other) (Endif ∷ l))) (statements-written rest k)
    ∙ ap (λ l. Ifdef n ∷ write (nest_statements body) (Else ∷ l)) (statements-written other (Endif ∷ write_statements rest k))
    ∙ ap (λ l. Ifdef n ∷ l) (statements-written body (Else ∷ write_statements other (Endif ∷ write_statements rest k)))

statements-plain : (st : Statements) → IsPlain (nest_statements st)
statements-plain no_more = tt
statements-plain (assignment x s rest) =
    plain-symbols (Name x ∷ Mark 61 ∷ write_sum s (Mark 59 ∷ [])) (nest_statements rest) (sum-plain s (Mark 59 ∷ []) refl) (statements-plain rest)
statements-plain (output s rest) =
    plain-symbols (Putchar ∷ Mark 40 ∷ write_sum s (Mark 41 ∷ Mark 59 ∷ [])) (nest_statements rest) (sum-plain s (Mark 41 ∷ Mark 59 ∷ []) refl) (statements-plain rest)
statements-plain (return_of s rest) =
    plain-symbols (Return ∷ write_sum s (Mark 59 ∷ [])) (nest_statements rest) (sum-plain s (Mark 59 ∷ []) refl) (statements-plain rest)
statements-plain (loop s body rest) =
    plain-symbols (While ∷ Mark 40 ∷ write_sum s (Mark 41 ∷ Mark 123 ∷ [])) (attach (nest_statements body) (symbol (Mark 125) (nest_statements rest)))
    (sum-plain s (Mark 41 ∷ Mark 123 ∷ []) refl)
    (plain-attach (nest_statements body) (symbol (Mark 125) (nest_statements rest)) (statements-plain body) (refl, statements-plain rest))
statements-plain (group n body rest) = (statements-plain body, statements-plain rest)
statements-plain (choice n body other rest) = (statements-plain body, statements-plain other, statements-plain rest)

-- what a branch writes, with more behind it
code-branch : (b : Bool) (x y : List Symbol) (c d : Code) (k l : List Symbol) → x ++ l ≡ write_code c k → y ++ l ≡ write_code d k → cond b x y ++ l ≡ write_code (cond b c d) k
code-branch true x y c d k l p q = p
code-branch false x y c d k l p q = q

-- what is present of statements is what the code that is chosen writes
module _ (on : List ℕ → Bool) where
  present-sum : (front : List Symbol) (s : Sum) (k : List Symbol) (a : Nest) (l rest : List Symbol) → present on a ++ l ≡ rest → present on (with_symbols (front ++ write_sum s k) a) ++ l ≡ front ++ write_sum s (k ++ rest)
  present-sum front s k a l rest e =
      ap (λ x. x ++ l) (present-symbols on (front ++ write_sum s k) a)
      ∙ append_assoc (front ++ write_sum s k) (present on a) l
      ∙ ap (λ x. (front ++ write_sum s k) ++ x) e
      ∙ behind-sum front s k rest

  present-code : (st : Statements) (c : Code) (k : List Symbol) → present on (nest_statements st) ++ write_code c k ≡ write_code (chosen_code on st c) k
  present-code no_more c k = refl
  present-code (assignment x s rest) c k =
      present-sum (Name x ∷ Mark 61 ∷ []) s (Mark 59 ∷ []) (nest_statements rest) (write_code c k) (write_code (chosen_code on rest c) k) (present-code rest c k)
  present-code (output s rest) c k =
      present-sum (Putchar ∷ Mark 40 ∷ []) s (Mark 41 ∷ Mark 59 ∷ []) (nest_statements rest) (write_code c k) (write_code (chosen_code on rest c) k) (present-code rest c k)
  present-code (return_of s rest) c k =
      present-sum (Return ∷ []) s (Mark 59 ∷ []) (nest_statements rest) (write_code c k) (write_code (chosen_code on rest c) k) (present-code rest c k)
  present-code (loop s body rest) c k =
      let after = nest_statements rest in
      let behind = attach (nest_statements body) (symbol (Mark 125) after) in
      let wanted = write_code (chosen_code on body done) (Mark 125 ∷ write_code (chosen_code on rest c) k) in
      let inner : present on behind ++ write_code c k ≡ wanted =
      ap (λ x. x ++ write_code c k) (present-attach on (nest_statements body) (symbol (Mark 125) after))
      ∙ append_assoc (present on (nest_statements body)) (Mark 125 ∷ present on after) (write_code c k)
      ∙ ap (λ x. present on (nest_statements body) ++ (Mark 125 ∷ x)) (present-code rest c k)
      ∙ present-code body done (Mark 125 ∷ write_code (chosen_code on rest c) k) in
      present-sum (While ∷ Mark 40 ∷ []) s (Mark 41 ∷ Mark 123 ∷ []) behind (write_code c k) wanted inner
  present-code (group n body rest) c k =
      append_assoc (cond (on n) (present on (nest_statements body)) []) (present on (nest_statements rest)) (write_code c k)
      ∙ ap (λ x. cond (on n) (present on (nest_statements body)) [] ++ x) (present-code rest c k)
      ∙ code-branch (on n) (present on (nest_statements body)) [] (chosen_code on body (chosen_code on rest c)) (chosen_code on rest c) k (write_code (chosen_code on rest c) k) (present-code body (chosen_code on rest c) k) refl
  present-code (choice n body other rest) c k =
      append_assoc (cond (on n) (present on (nest_statements body)) (present on (nest_statements other))) (present on (nest_statements rest)) (write_code c k)
      ∙ ap (λ x. cond (on n) (present on (nest_statements body)) (present on (nest_statements other)) ++ x) (present-code rest c k)
      ∙ code-branch (on n) (present on (nest_statements body)) (present on (nest_statements other)) (chosen_code on body (chosen_code on rest c)) (chosen_code on other (chosen_code on rest c)) k (write_code (chosen_code on rest c) k) (present-code body (chosen_code on rest c) k) (present-code other (chosen_code on rest c) k)

-- ---- items

abbrev pub nest_items : Items → Nest
nest_items no_item = nothing
nest_items (variable x rest) = with_symbols (Int ∷ Name x ∷ Mark 59 ∷ []) (nest_items rest)
nest_items (initialised x d rest) = with_symbols (Int ∷ Name x ∷ Mark 61 ∷ Number d ∷ Mark 59 ∷ []) (nest_items rest)
nest_items (main_with body rest) =
    with_symbols (Int ∷ Main ∷ Mark 40 ∷ Void ∷ Mark 41 ∷ Mark 123 ∷ []) (attach (nest_statements body) (symbol (Mark 125) (nest_items rest)))
nest_items (item_group n body rest) = one_branch n (nest_items body) (nest_items rest)
nest_items (item_choice n body other rest) = two_branches n (nest_items body) (nest_items other) (nest_items rest)

pub items-written : (items : Items) (k : List Symbol) → write (nest_items items) k ≡ write_items items k
items-written no_item k = refl
items-written (variable x rest) k = ap (λ l. Int ∷ Name x ∷ Mark 59 ∷ l) (items-written rest k)
items-written (initialised x d rest) k = ap (λ l. Int ∷ Name x ∷ Mark 61 ∷ Number d ∷ Mark 59 ∷ l) (items-written rest k)
items-written (main_with body rest) k =
    ap (λ l. Int ∷ Main ∷ Mark 40 ∷ Void ∷ Mark 41 ∷ Mark 123 ∷ l)
    (write-attach (nest_statements body) (symbol (Mark 125) (nest_items rest)) k
    ∙ statements-written body (Mark 125 ∷ write (nest_items rest) k)
    ∙ ap (λ l. write_statements body (Mark 125 ∷ l)) (items-written rest k))
items-written (item_group n body rest) k =
    ap (λ l. Ifdef n ∷ write (nest_items body) (Endif ∷ l)) (items-written rest k)
    ∙ ap (λ l. Ifdef n ∷ l) (items-written body (Endif ∷ write_items rest k))
items-written (item_choice n body other rest) k =
    ap (λ l. Ifdef n ∷ write (nest_items body) (Else ∷ write (nest_items other) (Endif ∷ l))) (items-written rest k)
    ∙ ap (λ l. Ifdef n ∷ write (nest_items body) (Else ∷ l)) (items-written other (Endif ∷ write_items rest k))
    ∙ ap (λ l. Ifdef n ∷ l) (items-written body (Else ∷ write_items other (Endif ∷ write_items rest k)))

pub items-plain : (items : Items) → IsPlain (nest_items items)
items-plain no_item = tt
items-plain (variable x rest) = (refl, (refl, (refl, items-plain rest)))
items-plain (initialised x d rest) = (refl, (refl, (refl, (refl, (refl, items-plain rest)))))
items-plain (main_with body rest) =
    plain-symbols (Int ∷ Main ∷ Mark 40 ∷ Void ∷ Mark 41 ∷ Mark 123 ∷ []) (attach (nest_statements body) (symbol (Mark 125) (nest_items rest))) refl
    (plain-attach (nest_statements body) (symbol (Mark 125) (nest_items rest)) (statements-plain body) (refl, items-plain rest))
items-plain (item_group n body rest) = (items-plain body, items-plain rest)
items-plain (item_choice n body other rest) = (items-plain body, items-plain other, items-plain rest)

code-append : (c : Code) (k l : List Symbol) → write_code c k ++ l ≡ write_code c (k ++ l)
code-append done k l = refl
code-append (assign x s rest) k l =
    ap (λ y. Name x ∷ Mark 61 ∷ y) (sum-append s (Mark 59 ∷ write_code rest k) l ∙ ap (λ y. write_sum s (Mark 59 ∷ y)) (code-append rest k l))
code-append (put s rest) k l =
    ap (λ y. Putchar ∷ Mark 40 ∷ y)
    (sum-append s (Mark 41 ∷ Mark 59 ∷ write_code rest k) l ∙ ap (λ y. write_sum s (Mark 41 ∷ Mark 59 ∷ y)) (code-append rest k l))
code-append (give s rest) k l =
    ap (λ y. Return ∷ y) (sum-append s (Mark 59 ∷ write_code rest k) l ∙ ap (λ y. write_sum s (Mark 59 ∷ y)) (code-append rest k l))
code-append (while_ s body rest) k l =
    ap (λ y. While ∷ Mark 40 ∷ y)
    (sum-append s (Mark 41 ∷ Mark 123 ∷ write_code body (Mark 125 ∷ write_code rest k)) l
    ∙ ap (λ y. write_sum s (Mark 41 ∷ Mark 123 ∷ y))
    (code-append body (Mark 125 ∷ write_code rest k) l ∙ ap (λ y. write_code body (Mark 125 ∷ y)) (code-append rest k l)))

present-append : (a b : List Item) → write_present (a ++ b) ≡ write_present a ++ write_present b
present-append [] b = refl
present-append (tentative x ∷ a) b = ap (λ y. Int ∷ Name x ∷ Mark 59 ∷ y) (present-append a b)
present-append (valued x d ∷ a) b = ap (λ y. Int ∷ Name x ∷ Mark 61 ∷ Number d ∷ Mark 59 ∷ y) (present-append a b)
present-append (main_of c ∷ a) b =
    ap (λ y. Int ∷ Main ∷ Mark 40 ∷ Void ∷ Mark 41 ∷ Mark 123 ∷ y)
    (ap (λ y. write_code c (Mark 125 ∷ y)) (present-append a b) ∙ sym (code-append c (Mark 125 ∷ write_present a) (write_present b)))

items-branch : (b : Bool) (x y : List Symbol) (c d : List Item) → x ≡ write_present c → y ≡ write_present d → cond b x y ≡ write_present (cond b c d)
items-branch true x y c d p q = p
items-branch false x y c d p q = q

pub items-present : (on : List ℕ → Bool) (items : Items) → present on (nest_items items) ≡ write_present (present_items on items)
items-present on no_item = refl
items-present on (variable x rest) = ap (λ y. Int ∷ Name x ∷ Mark 59 ∷ y) (items-present on rest)
items-present on (initialised x d rest) = ap (λ y. Int ∷ Name x ∷ Mark 61 ∷ Number d ∷ Mark 59 ∷ y) (items-present on rest)
items-present on (main_with body rest) =
    ap (λ y. Int ∷ Main ∷ Mark 40 ∷ Void ∷ Mark 41 ∷ Mark 123 ∷ y)
    (present-attach on (nest_statements body) (symbol (Mark 125) (nest_items rest))
    ∙ ap (λ y. present on (nest_statements body) ++ (Mark 125 ∷ y)) (items-present on rest)
    ∙ present-code on body done (Mark 125 ∷ write_present (present_items on rest)))
items-present on (item_group n body rest) =
    let these = present_items on body in
    ap (λ y. cond (on n) (present on (nest_items body)) [] ++ y) (items-present on rest)
    ∙ ap (λ y. y ++ write_present (present_items on rest))
    (items-branch (on n) (present on (nest_items body)) [] these [] (items-present on body) refl)
    ∙ sym (present-append (cond (on n) these []) (present_items on rest))
items-present on (item_choice n body other rest) =
    let these = present_items on body in
    let those = present_items on other in
    ap (λ y. cond (on n) (present on (nest_items body)) (present on (nest_items other)) ++ y) (items-present on rest)
    ∙ ap (λ y. y ++ write_present (present_items on rest))
    (items-branch (on n) (present on (nest_items body)) (present on (nest_items other)) these those (items-present on body) (items-present on other))
    ∙ sym (present-append (cond (on n) these those) (present_items on rest))

-- ---- what is present of a plain nest has no directive lines

plain-branch : (b : Bool) (x y : List Symbol) → list_any is_directive x ≡ false → list_any is_directive y ≡ false → list_any is_directive (cond b x y) ≡ false
plain-branch true x y p q = p
plain-branch false x y p q = q

plain-append : (x y : List Symbol) → list_any is_directive x ≡ false → list_any is_directive y ≡ false → list_any is_directive (x ++ y) ≡ false
plain-append x y p q = list_any-append is_directive x y ∙ ap (λ b. b || list_any is_directive y) p ∙ q

pub present-plain : (on : List ℕ → Bool) (a : Nest) → IsPlain a → list_any is_directive (present on a) ≡ false
present-plain on nothing p = refl
present-plain on (symbol s rest) p = ap (λ b. b || list_any is_directive (present on rest)) p.0 ∙ present-plain on rest p.1
present-plain on (one_branch n body rest) p =
    plain-append (cond (on n) (present on body) []) (present on rest)
    (plain-branch (on n) (present on body) [] (present-plain on body p.0) refl) (present-plain on rest p.1)
present-plain on (two_branches n body other rest) p =
    plain-append (cond (on n) (present on body) (present on other)) (present on rest)
    (plain-branch (on n) (present on body) (present on other) (present-plain on body p.0) (present-plain on other p.1)) (present-plain on rest p.2)

-- ---- the unit: `int putchar(int);` before items

abbrev pub nest_unit : Items → Nest
nest_unit items = with_symbols (Int ∷ Putchar ∷ Mark 40 ∷ Int ∷ Mark 41 ∷ Mark 59 ∷ []) (nest_items items)
