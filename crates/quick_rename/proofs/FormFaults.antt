-- The place of a fault in a line is the place of the fault of the file.
use Rattle.std.proofs.Common.{◌≡◌, inl, inr, ℕ, ◌+◌, true, false, cond, List, [], ◌∷◌, ◌++◌, Option, Some, None, is_some, option_and_then, length, take, codes, refl, sym, ◌∙◌, ap, subst, append_assoc, append-nil, arith, length-append, nat_lt}
use Rattle.std.specs.List.{flat_map, AllByRecursion}
use Rattle.std.proofs.lemmas.Bool.{both_ways, cases_Bool, ltb-true, ltb-false}
use Rattle.std.proofs.Math.Seq.{take-append_seam, take-append-add}
use Rattle.quick_form.specs.Symbols.{Symbol, Int, Void, While, Return, Putchar, Main, Name, Number, Mark, Ifdef, Else, Endif, Malformed, solid_pieces, is_directive_line, after_first_piece, directive_symbol, line_symbols, symbols_of}
use Rattle.quick_form.specs.Form.{IsWritten}
use Rattle.quick_form.specs.Places.{IsFormPrefix, Departs, IsLeast, IsFaultOfText}
use Rattle.quick_form.proofs.PlaceLemmas.{front_begins, shorter_front}
use Rattle.quick_form.proofs.CutLines.{first_line_of, lines_of-before, symbols_of-newline}
use Rattle.quick_form.proofs.LexingPieces.{IsOneLine-append}
use Rattle.quick_lexer.proofs.PieceLemmas.{token_symbols-solid}
use Rattle.quick_parser.specs.declared.spots.SumEnd.{SumEnd}
use Rattle.quick_parser.specs.declared.spots.SumEnd.TheVariants.{Statement, Output, Condition}
use Rattle.quick_parser.specs.declared.spots.Place.{Place}
use Rattle.quick_parser.specs.declared.spots.Place.TheVariants.{Entry, Declarator, Declared, Initializer, Semicolon, MainOpening, MainVoid, MainClosing, Body, Assignment, Opening, Operand, Operator}
use Rattle.quick_parser.specs.declared.spots.Frame.{Frame}
use Rattle.quick_parser.specs.declared.spots.Frame.TheVariants.{Block, Group, Alternative}
use Rattle.quick_parser.specs.Steps.{State, start, step, steps, after}
use Rattle.quick_parser.specs.Completion.{closing_symbols, sum_ending, entry_ending, completion}
use Rattle.quick_parser.specs.Laws.{StatesComplete, RefusedIsUnwritten}
use Rattle.quick_rename.specs.Cuts.{IsOneLine, IsEndOfLine, Opens, FaultAt, line_spelling, takes_line}
use Rattle.quick_rename.proofs.Walk.{symbols_of-line}

-- A STATE'S COMPLETION AS BYTES

abbrev symbol_bytes : Symbol → List ℕ
symbol_bytes Int = codes "int"
symbol_bytes Void = codes "void"
symbol_bytes While = codes "while"
symbol_bytes Return = codes "return"
symbol_bytes Putchar = codes "putchar"
symbol_bytes Main = codes "main"
symbol_bytes (Name n) = n
symbol_bytes (Number d) = d
symbol_bytes (Mark b) = b ∷ []
symbol_bytes (Ifdef n) = n
symbol_bytes Else = codes "#else"
symbol_bytes Endif = codes "#endif"
symbol_bytes Malformed = []

-- each symbol on a line of its own
abbrev written : List Symbol → List ℕ
written [] = []
written (k ∷ ks) = 10 ∷ (symbol_bytes k ++ written ks)

abbrev AreSpelled : List Symbol → Type 0
AreSpelled = AllByRecursion (λ k. symbols_of (symbol_bytes k) ≡ k ∷ [])

written_spells : (ks : List Symbol) (bytes : List ℕ) → AreSpelled ks → symbols_of (bytes ++ written ks) ≡ symbols_of bytes ++ ks
written_spells [] bytes h = ap symbols_of (append-nil bytes) ∙ sym (append-nil (symbols_of bytes))
written_spells (k ∷ ks) bytes h =
    ap symbols_of (sym (append_assoc bytes (10 ∷ symbol_bytes k) (written ks)))
    ∙ (written_spells ks (bytes ++ 10 ∷ symbol_bytes k) h.1
    ∙ (ap (λ l. l ++ ks) (symbols_of-newline bytes (symbol_bytes k) ∙ ap (λ l. symbols_of bytes ++ l) h.0)
    ∙ append_assoc (symbols_of bytes) (k ∷ []) ks))

closing_spelled : (fs : List Frame) → AreSpelled (closing_symbols fs)
closing_spelled [] = tt
closing_spelled (Block ∷ fs) = (refl, closing_spelled fs)
closing_spelled (Group ∷ fs) = (refl, closing_spelled fs)
closing_spelled (Alternative ∷ fs) = (refl, closing_spelled fs)

sum_spelled : (e : SumEnd) (k : List Symbol) → AreSpelled k → AreSpelled (sum_ending e k)
sum_spelled Statement k h = (refl, h)
sum_spelled Output k h = (refl, (refl, h))
sum_spelled Condition k h = (refl, (refl, (refl, h)))

entry_spelled : (p : Place) (k : List Symbol) → AreSpelled k → AreSpelled (entry_ending p k)
entry_spelled Entry k h = h
entry_spelled Declarator k h = (refl, (refl, h))
entry_spelled Declared k h = (refl, h)
entry_spelled Initializer k h = (refl, (refl, h))
entry_spelled Semicolon k h = (refl, h)
entry_spelled MainOpening k h = (refl, (refl, (refl, (refl, (refl, h)))))
entry_spelled MainVoid k h = (refl, (refl, (refl, (refl, h))))
entry_spelled MainClosing k h = (refl, (refl, (refl, h)))
entry_spelled Body k h = (refl, (refl, h))
entry_spelled Assignment k h = (refl, (refl, (refl, h)))
entry_spelled (Opening e) k h = (refl, (refl, sum_spelled e k h))
entry_spelled (Operand e) k h = (refl, sum_spelled e k h)
entry_spelled (Operator e) k h = sum_spelled e k h

-- what is read begins a file
pub read_begins : StatesComplete → (bytes : List ℕ) (s : State) → after (symbols_of bytes) ≡ Some s → IsFormPrefix bytes
read_begins law bytes s e =
    let spelled = written_spells (completion s) bytes (entry_spelled s.spot.place (closing_symbols s.spot.open_frames) (closing_spelled s.spot.open_frames)) in
    (written (completion s), subst IsWritten (sym spelled) (law (symbols_of bytes) s e))

-- THE STATES OF A LINE

step_on : (o : Option State) (a b : List Symbol) → ((t : State) → steps t (a ++ b) ≡ option_and_then (λ u. steps u b) (steps t a)) → option_and_then (λ t. steps t (a ++ b)) o ≡ option_and_then (λ u. steps u b) (option_and_then (λ t. steps t a) o)
step_on None a b h = refl
step_on (Some t) a b h = h t

pub steps-append : (s : State) (a b : List Symbol) → steps s (a ++ b) ≡ option_and_then (λ t. steps t b) (steps s a)
steps-append s [] b = refl
steps-append s (k ∷ a) b = step_on (step s k) a b (λ t. steps-append t a b)

pub after-append : (s : State) (a b : List Symbol) → after a ≡ Some s → after (a ++ b) ≡ steps s b
after-append s a b e = steps-append start a b ∙ ap (option_and_then (λ t. steps t b)) e

-- the symbols of a line, by its solid pieces
pub line_symbols-solid : (line : List ℕ) → line_symbols line ≡ line_spelling (solid_pieces line)
line_symbols-solid line = ap (λ l. cond (is_directive_line (solid_pieces line)) (directive_symbol (after_first_piece (solid_pieces line)) ∷ []) l) (token_symbols-solid line)

pub is_one : {X : Type 0} (o : Option X) → is_some o ≡ true → (x : X) × (o ≡ Some x)
is_one None e = absurd (both_ways false refl e)
is_one (Some x) e = (x, refl)

pub is_none : {X : Type 0} (o : Option X) → is_some o ≡ false → o ≡ None
is_none None e = refl
is_none (Some x) e = absurd (both_ways true e refl)

pub one_front : (a b : List ℕ) → IsOneLine (a ++ b) → IsOneLine a
one_front [] b h = tt
one_front (x ∷ a) b h = (h.0, one_front a b h.1)

line_read : (before line : List ℕ) (ks : List Symbol) (s : State) → Opens before ks → IsOneLine line → after ks ≡ Some s → after (symbols_of (before ++ line)) ≡ steps s (line_spelling (solid_pieces line))
line_read before line ks s opens one e =
    ap after (opens line ∙ ap (λ l. ks ++ l) (symbols_of-line line one ∙ line_symbols-solid line)) ∙ after-append s ks (line_spelling (solid_pieces line)) e

live_line : StatesComplete → (before front more : List ℕ) (ks : List Symbol) (s : State) → Opens before ks → IsOneLine front → IsOneLine more → after ks ≡ Some s → takes_line s (solid_pieces (front ++ more)) ≡ true → IsFormPrefix (before ++ front)
live_line law before front more ks s opens one on e live =
    let t = is_one (steps s (line_spelling (solid_pieces (front ++ more)))) live in
    let read = line_read before (front ++ more) ks s opens (IsOneLine-append front more one on) e ∙ t.1 in
    front_begins (before ++ front) more (subst IsFormPrefix (sym (append_assoc before front more)) (read_begins law (before ++ (front ++ more)) t.0 read))

-- whatever follows on the line, and behind it
dead_text : RefusedIsUnwritten → (before front rest : List ℕ) (ks : List Symbol) (s : State) → Opens before ks → IsOneLine front → after ks ≡ Some s → ((more : List ℕ) → takes_line s (solid_pieces (front ++ more)) ≡ false) → IsWritten (symbols_of (before ++ (front ++ rest))) → ⊥
dead_text law before front rest ks s opens one e dead w =
    let f = first_line_of rest in
    let lines = lines_of-before front rest f.line f.others one f.lines_are in
    let spelled : symbols_of (before ++ (front ++ rest)) ≡ ks ++ (line_spelling (solid_pieces (front ++ f.line)) ++ flat_map line_symbols f.others) =
    opens (front ++ rest) ∙ ap (λ l. ks ++ l) (ap (flat_map line_symbols) lines ∙ ap (λ l. l ++ flat_map line_symbols f.others) (line_symbols-solid (front ++ f.line))) in
    let none = is_none (steps s (line_spelling (solid_pieces (front ++ f.line)))) (dead f.line) in
    law (symbols_of (before ++ (front ++ rest)))
    (ap after spelled
    ∙ (after-append s ks (line_spelling (solid_pieces (front ++ f.line)) ++ flat_map line_symbols f.others) e
    ∙ (steps-append s (line_spelling (solid_pieces (front ++ f.line))) (flat_map line_symbols f.others) ∙ ap (option_and_then (λ t. steps t (flat_map line_symbols f.others))) none)))
    w

-- THE PLACE

one_byte : (b : ℕ) (rest : List ℕ) → take 1 (b ∷ rest) ≡ b ∷ []
one_byte b rest = refl

least_departs : (bytes front : List ℕ) (b : ℕ) (rest : List ℕ) → bytes ≡ front ++ b ∷ rest → IsFormPrefix front → ((more : List ℕ) → IsWritten (symbols_of (front ++ b ∷ more)) → ⊥) → IsLeast (Departs bytes) (length front)
least_departs bytes front b rest e live dead =
    let len : length bytes ≡ length front + (length rest + 1) = ap length e ∙ (length-append front (b ∷ rest) ∙ omega arith) in
    let here : take (length front + 1) bytes ≡ front ++ b ∷ [] = ap (take (length front + 1)) e ∙ take-append-add front (b ∷ rest) 1 in
    let before : take (length front) bytes ≡ front = ap (take (length front)) e ∙ take-append_seam front (b ∷ rest) in
    record {
      holds = record {
        within = omega arith;
        begins_none = λ p.
            let q : IsFormPrefix (front ++ b ∷ []) = subst IsFormPrefix here p in
            dead q.0 (subst (λ l. IsWritten (symbols_of l)) (append_assoc front (b ∷ []) q.0) q.1);
      };
      least = λ j d. elim (cases_Bool (nat_lt j (length front))) [
        | inl h ↦ let less = ltb-true j (length front) h in absurd (d.begins_none (shorter_front (j + 1) (length front) bytes (omega arith) (subst IsFormPrefix (sym before) live)))
        | inr h ↦ ltb-false j (length front) h
      ];
    }

-- by what stands behind the front in the line, and behind the line
fault_at : StatesComplete → RefusedIsUnwritten → (bytes before line behind front back : List ℕ) (ks : List Symbol) (s : State) → bytes ≡ before ++ (line ++ behind) → line ≡ front ++ back → IsOneLine line → IsEndOfLine behind → Opens before ks → after ks ≡ Some s
    → takes_line s (solid_pieces line) ≡ false → IsFormPrefix (before ++ front) → ((b : ℕ) (bs : List ℕ) → back ≡ b ∷ bs → (rest : List ℕ) → takes_line s (solid_pieces (front ++ b ∷ rest)) ≡ false)
    → IsFaultOfText bytes (length (before ++ front))
fault_at law refused bytes before line behind front (b ∷ bs) ks s e l one end opens a refusal live dead =
    let one_front_b : IsOneLine (front ++ b ∷ []) = one_front (front ++ b ∷ []) bs (subst IsOneLine (l ∙ sym (append_assoc front (b ∷ []) bs)) one) in
    let joined : bytes ≡ (before ++ front) ++ b ∷ (bs ++ behind) = e ∙ (ap (λ t. before ++ (t ++ behind)) l ∙ (ap (λ t. before ++ t) (append_assoc front (b ∷ bs) behind) ∙ sym (append_assoc before front (b ∷ (bs ++ behind))))) in
    inl (least_departs bytes (before ++ front) b (bs ++ behind) joined live
    (λ more w. dead_text refused before (front ++ b ∷ []) more ks s opens one_front_b a
    (λ x. ap (λ t. takes_line s (solid_pieces t)) (append_assoc front (b ∷ []) x) ∙ dead b bs refl x)
    (subst (λ t. IsWritten (symbols_of t)) (append_assoc before front (b ∷ more) ∙ ap (λ t. before ++ t) (sym (append_assoc front (b ∷ []) more))) w)))
fault_at law refused bytes before line behind front [] ks s e l one (inl end) opens a refusal live dead =
    let whole : bytes ≡ before ++ line = e ∙ ap (λ t. before ++ t) (ap (λ t. line ++ t) end ∙ append-nil line) in
    let same : line ≡ front = l ∙ append-nil front in
    let here : bytes ≡ before ++ front = whole ∙ ap (λ t. before ++ t) same in
    inr (record {
      at_end = ap length (sym here);
      begins = subst IsFormPrefix (sym here) live;
      unfinished = λ w. refused (symbols_of bytes) (ap (λ t. after (symbols_of t)) whole ∙ (line_read before line ks s opens one a ∙ is_none (steps s (line_spelling (solid_pieces line))) refusal)) w;
    })
fault_at law refused bytes before line behind front [] ks s e l one (inr end) opens a refusal live dead =
    let same : line ≡ front = l ∙ append-nil front in
    let joined : bytes ≡ (before ++ front) ++ 10 ∷ end.0 = e ∙ (ap (λ t. before ++ (line ++ t)) end.1 ∙ (ap (λ t. before ++ (t ++ 10 ∷ end.0)) same ∙ sym (append_assoc before front (10 ∷ end.0)))) in
    inl (least_departs bytes (before ++ front) 10 end.0 joined live
    (λ more w. refused (symbols_of ((before ++ front) ++ 10 ∷ more))
    (ap after (symbols_of-newline (before ++ front) more)
    ∙ (steps-append start (symbols_of (before ++ front)) (symbols_of more)
    ∙ ap (option_and_then (λ t. steps t (symbols_of more)))
    (ap (λ t. after (symbols_of (before ++ t))) (sym same) ∙ (line_read before line ks s opens one a ∙ is_none (steps s (line_spelling (solid_pieces line))) refusal)))) w))

pub line_fault : StatesComplete → RefusedIsUnwritten → (bytes before line behind : List ℕ) (ks : List Symbol) (s : State) (n : ℕ) → bytes ≡ before ++ (line ++ behind) → IsOneLine line → IsEndOfLine behind → Opens before ks → after ks ≡ Some s
    → takes_line s (solid_pieces line) ≡ false → FaultAt (takes_line s) line n → IsFaultOfText bytes (length before + n)
line_fault law refused bytes before line behind ks s n e one end opens a refusal f =
    let live = live_line law before f.front f.more ks s opens (one_front f.front f.back (subst IsOneLine f.joined one)) f.one_line a f.live in
    let place : length (before ++ f.front) ≡ length before + n = length-append before f.front ∙ ap (λ m. length before + m) (sym f.count_is) in
    subst (IsFaultOfText bytes) place (fault_at law refused bytes before line behind f.front f.back ks s e f.joined one end opens a refusal live f.dead)
