-- Which words are signs and operands.
use Rattle.std.proofs.Common.{◌≡◌, ℕ, ◌^◌, List, [], ◌∷◌, Option, Some, None, Bool, true, false, refl, sym, ap, ◌∙◌, subst, arith}
use Rattle.std.specs.Prelude.{⊤, codes, nat_lt, not, if◌then◌else◌}
use Rattle.std.proofs.lemmas.Bool.Decides.{nat_tests}
use Rattle.std.proofs.lemmas.Slice.Eq.{bytes_eq-Decides}
use Rattle.c_text.specs.Constants.{is_unsigned, number_value}
use Rattle.c_text.specs.declared.token.TokenKind.{TokenKind}
use Rattle.c_text.specs.declared.token.TokenKind.TheVariants.{Name, Keyword, Number, Character, Punctuator}
use Rattle.c_text.specs.Expressions.{Unary, Binary, Word, mark, unary_text, binary_text, IsOperand}
use Rattle.pp_lines.specs.ExpressionReading.{Front, stands, opens, prefixes, misplaced, Sign, connects, asks, parts, closes, ends, front_of, sign_of, all_unary, all_binary}
use Rattle.std.specs.Str.{bytes_eq}
use Rattle.pp_lines.specs.ExpressionReading.{spelled_first, unary_of, binary_of, is_operand, front_mark, prefix_or, other_sign, connective_or}

eq_bytes : (a b : List ℕ) → bytes_eq a b ≡ true → a ≡ b
eq_bytes a b h = grind (arith, bytes_eq-Decides a b)

first_spelling : {A : Type 0} (spelling : A → List ℕ) (text : List ℕ) (xs : List A) (x : A)
    → spelled_first spelling text xs ≡ Some x → text ≡ spelling x
first_spelling spelling text [] x h = absurd cc
first_spelling {A} spelling text (y ∷ ys) x h =
    by (bytes_eq (spelling y) text) refl (first_spelling spelling text ys x) h
  where
    by : (b : Bool) → bytes_eq (spelling y) text ≡ b → (spelled_first spelling text ys ≡ Some x → text ≡ spelling x)
        → (if b then Some y else spelled_first spelling text ys) ≡ Some x → text ≡ spelling x
    by true e more g = let same : y ≡ x = cc in sym (eq_bytes (spelling y) text e) ∙ ap spelling same
    by false e more g = more g

stands_number : (a b : Bool) → (if (if a then false else b) then stands else misplaced) ≡ stands → (a ≡ false) × (b ≡ true)
stands_number true b h = absurd cc
stands_number false true h = (refl, refl)
stands_number false false h = absurd cc

stands_name : (a : Bool) → (if not a then stands else misplaced) ≡ stands → a ≡ false
stands_name true h = absurd cc
stands_name false h = refl

punctuator_operand : (a : Bool) (o : Option Unary) → (if a then opens else prefix_or o) ≡ stands → ⊥
punctuator_operand true o h = absurd cc
punctuator_operand false None h = absurd cc
punctuator_operand false (Some op) h = absurd cc

pub front_stands : (kind : TokenKind) (text : List ℕ) → front_of kind text ≡ stands → IsOperand kind text
front_stands Number text h =
    let n = stands_number (is_unsigned text) (nat_lt (number_value text) (2 ^ 63)) h in
    (n.0, grind (arith, nat_tests, n.1))
front_stands Character text h = tt
front_stands Name text h = stands_name (bytes_eq text (codes "defined")) h
front_stands Keyword text h = tt
front_stands Punctuator text h = punctuator_operand (bytes_eq (codes "(") text) (unary_of text) h
front_stands other text h = absurd cc

mark_same : (w : Word) (text : List ℕ) → w.kind ≡ Punctuator → w.text ≡ text → w ≡ mark text
mark_same w text h g =
    let of_kind : TokenKind → Word = λ k. record { kind = k; text = w.text } in
    ap of_kind h ∙ ap mark g

abbrev pub IsMarkFront : Front → Type 0
IsMarkFront stands = ⊥
IsMarkFront misplaced = ⊥
IsMarkFront other = ⊤

operand_front : (b : Bool) (f : Front) → IsMarkFront f → (if b then stands else misplaced) ≡ f → ⊥
operand_front true f i e = subst IsMarkFront (sym e) i
operand_front false f i e = subst IsMarkFront (sym e) i

mark_front :
    (kind : TokenKind) (text : List ℕ) (f : Front) → IsMarkFront f → front_of kind text ≡ f
    → (kind ≡ Punctuator) × (front_mark text ≡ f)
mark_front Punctuator text f i e = (refl, e)
mark_front other text f i e = absurd (operand_front (is_operand other text) f i e)

opens_case : (a : Bool) (o : Option Unary) → (if a then opens else prefix_or o) ≡ opens → a ≡ true
opens_case true o h = refl
opens_case false None h = absurd cc
opens_case false (Some op) h = absurd cc

prefixes_case : (a : Bool) (o : Option Unary) (op : Unary) → (if a then opens else prefix_or o) ≡ prefixes op → o ≡ Some op
prefixes_case true o op h = absurd cc
prefixes_case false None op h = absurd cc
prefixes_case false (Some other) op h = let same : other ≡ op = cc in ap (λ (x : Unary). Some x) same

pub front_opens : (w : Word) → front_of w.kind w.text ≡ opens → w ≡ mark (codes "(")
front_opens w h =
    let m = mark_front w.kind w.text opens tt h in
    let e = opens_case (bytes_eq (codes "(") w.text) (unary_of w.text) m.1 in
    mark_same w (codes "(") m.0 (sym (eq_bytes (codes "(") w.text e))

pub front_prefixes : (w : Word) (op : Unary) → front_of w.kind w.text ≡ prefixes op → w ≡ mark (unary_text op)
front_prefixes w op h =
    let m = mark_front w.kind w.text (prefixes op) tt h in
    let e = prefixes_case (bytes_eq (codes "(") w.text) (unary_of w.text) op m.1 in
    mark_same w (unary_text op) m.0 (first_spelling unary_text w.text all_unary op e)

abbrev pub IsMarkSign : Sign → Type 0
IsMarkSign ends = ⊥
IsMarkSign other = ⊤

mark_sign :
    (kind : TokenKind) (text : List ℕ) (s : Sign) → IsMarkSign s → sign_of kind text ≡ s
    → (kind ≡ Punctuator) × (connective_or (other_sign text) (binary_of text) ≡ s)
mark_sign Punctuator text s i e = (refl, e)
mark_sign other text s i e = absurd (subst IsMarkSign (sym e) i)

abbrev pub one_of_three : Bool → Bool → Bool → Sign
one_of_three a b c = if a then asks else if b then parts else if c then closes else ends

connects_case : (a b c : Bool) (o : Option Binary) (op : Binary) → connective_or (one_of_three a b c) o ≡ connects op → o ≡ Some op
connects_case a b c (Some other) op h = let same : other ≡ op = cc in ap (λ (x : Binary). Some x) same
connects_case true b c None op h = absurd cc
connects_case false true c None op h = absurd cc
connects_case false false true None op h = absurd cc
connects_case false false false None op h = absurd cc

asks_case : (a b c : Bool) (o : Option Binary) → connective_or (one_of_three a b c) o ≡ asks → a ≡ true
asks_case a b c (Some other) h = absurd cc
asks_case true b c None h = refl
asks_case false true c None h = absurd cc
asks_case false false true None h = absurd cc
asks_case false false false None h = absurd cc

parts_case : (a b c : Bool) (o : Option Binary) → connective_or (one_of_three a b c) o ≡ parts → b ≡ true
parts_case a b c (Some other) h = absurd cc
parts_case true b c None h = absurd cc
parts_case false true c None h = refl
parts_case false false true None h = absurd cc
parts_case false false false None h = absurd cc

closes_case : (a b c : Bool) (o : Option Binary) → connective_or (one_of_three a b c) o ≡ closes → c ≡ true
closes_case a b c (Some other) h = absurd cc
closes_case true b c None h = absurd cc
closes_case false true c None h = absurd cc
closes_case false false true None h = refl
closes_case false false false None h = absurd cc

pub sign_connects : (w : Word) (op : Binary) → sign_of w.kind w.text ≡ connects op → w ≡ mark (binary_text op)
sign_connects w op h =
    let m = mark_sign w.kind w.text (connects op) tt h in
    let e = connects_case (bytes_eq (codes "?") w.text) (bytes_eq (codes ":") w.text) (bytes_eq (codes ")") w.text) (binary_of w.text) op m.1 in
    mark_same w (binary_text op) m.0 (first_spelling binary_text w.text all_binary op e)

pub sign_asks : (w : Word) → sign_of w.kind w.text ≡ asks → w ≡ mark (codes "?")
sign_asks w h =
    let m = mark_sign w.kind w.text asks tt h in
    let e = asks_case (bytes_eq (codes "?") w.text) (bytes_eq (codes ":") w.text) (bytes_eq (codes ")") w.text) (binary_of w.text) m.1 in
    mark_same w (codes "?") m.0 (sym (eq_bytes (codes "?") w.text e))

pub sign_parts : (w : Word) → sign_of w.kind w.text ≡ parts → w ≡ mark (codes ":")
sign_parts w h =
    let m = mark_sign w.kind w.text parts tt h in
    let e = parts_case (bytes_eq (codes "?") w.text) (bytes_eq (codes ":") w.text) (bytes_eq (codes ")") w.text) (binary_of w.text) m.1 in
    mark_same w (codes ":") m.0 (sym (eq_bytes (codes ":") w.text e))

pub sign_closes : (w : Word) → sign_of w.kind w.text ≡ closes → w ≡ mark (codes ")")
sign_closes w h =
    let m = mark_sign w.kind w.text closes tt h in
    let e = closes_case (bytes_eq (codes "?") w.text) (bytes_eq (codes ":") w.text) (bytes_eq (codes ")") w.text) (binary_of w.text) m.1 in
    mark_same w (codes ")") m.0 (sym (eq_bytes (codes ")") w.text e))
