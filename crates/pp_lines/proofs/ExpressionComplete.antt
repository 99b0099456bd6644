-- What an expression spells is read as this expression.
use Rattle.std.proofs.Common.{◌≡◌, ℕ, ◌<◌, ◌≤◌, List, [], ◌∷◌, ◌++◌, append_assoc, Option, Some, None, true, false, refl, ap, ◌∙◌, arith}
use Rattle.std.specs.Prelude.{⊤, codes, nat_le, option_and_then}
use Rattle.std.proofs.lemmas.Bool.Decides.{nat_tests}
use Rattle.c_text.specs.declared.token.TokenKind.{TokenKind}
use Rattle.c_text.specs.declared.token.TokenKind.TheVariants.{Name, Keyword, Number, Character, Text, Punctuator}
use Rattle.c_text.specs.Expressions.{Unary, unary_plus, unary_minus, negation, complement, Binary, times, over, remainder, plus, minus, left_shift, right_shift, less, greater, at_most, at_least, equal, unequal, bits_and, bits_xor, bits_or, both, either, Word, mark, Expression, operand, parenthesized, unary, binary, conditional, unary_text, binary_text, binary_level, spelled, level, Fits, IsOperand}
use Rattle.pp_lines.specs.ExpressionReading.{Pending, opened, prefixed, joined, asked, parted, Place, stands, prefixes, connects, asks, front_of, sign_of, sign_level, pending_level, completed, settled, read, place_behind, whole, trees}

sign-binary : (op : Binary) → sign_of Punctuator (binary_text op) ≡ connects op
sign-binary times = refl
sign-binary over = refl
sign-binary remainder = refl
sign-binary plus = refl
sign-binary minus = refl
sign-binary left_shift = refl
sign-binary right_shift = refl
sign-binary less = refl
sign-binary greater = refl
sign-binary at_most = refl
sign-binary at_least = refl
sign-binary equal = refl
sign-binary unequal = refl
sign-binary bits_and = refl
sign-binary bits_xor = refl
sign-binary bits_or = refl
sign-binary both = refl
sign-binary either = refl

front-unary : (op : Unary) → front_of Punctuator (unary_text op) ≡ prefixes op
front-unary unary_plus = refl
front-unary unary_minus = refl
front-unary negation = refl
front-unary complement = refl

pub binary_bounds : (op : Binary) → (2 ≤ binary_level op) × (binary_level op ≤ 11)
binary_bounds times = (omega arith, omega arith)
binary_bounds over = (omega arith, omega arith)
binary_bounds remainder = (omega arith, omega arith)
binary_bounds plus = (omega arith, omega arith)
binary_bounds minus = (omega arith, omega arith)
binary_bounds left_shift = (omega arith, omega arith)
binary_bounds right_shift = (omega arith, omega arith)
binary_bounds less = (omega arith, omega arith)
binary_bounds greater = (omega arith, omega arith)
binary_bounds at_most = (omega arith, omega arith)
binary_bounds at_least = (omega arith, omega arith)
binary_bounds equal = (omega arith, omega arith)
binary_bounds unequal = (omega arith, omega arith)
binary_bounds bits_and = (omega arith, omega arith)
binary_bounds bits_xor = (omega arith, omega arith)
binary_bounds bits_or = (omega arith, omega arith)
binary_bounds both = (omega arith, omega arith)
binary_bounds either = (omega arith, omega arith)

pub le_true : (a b : ℕ) → a ≤ b → nat_le a b ≡ true
le_true a b h = grind (arith, nat_tests)

le_false : (a b : ℕ) → b < a → nat_le a b ≡ false
le_false a b h = grind (arith, nat_tests)

front-operand : (kind : TokenKind) (text : List ℕ) → IsOperand kind text → front_of kind text ≡ stands
front-operand Number text h = grind (arith, nat_tests)
front-operand Character text h = refl
front-operand Name text h = rw h refl
front-operand Keyword text h = refl
front-operand Text text h = absurd h
front-operand Punctuator text h = absurd h
front-operand other text h = absurd h

-- what waits takes an operand of this level
abbrev pub HeldBy : Pending Expression → ℕ → Type 0
HeldBy opened n = ⊤
HeldBy (prefixed op) n = 12 ≤ n
HeldBy (joined a op) n = binary_level op < n
HeldBy (asked a) n = ⊤
HeldBy (parted a b) n = ⊤

abbrev pub Held : List (Pending Expression) → ℕ → Type 0
Held [] n = ⊤
Held (p ∷ ps) n = HeldBy p n

-- the level at which the next words take what stands before them
abbrev pub demand : List Word → ℕ
demand [] = 1
demand (w ∷ ws) = sign_level (sign_of w.kind w.text)

abbrev pub wanted : List (Pending Expression) → List Word → Option Expression
wanted ps ws = read trees (record { last = None; waits = ps }) ws

abbrev pub had : Expression → List (Pending Expression) → List Word → Option Expression
had e ps ws = read trees (record { last = Some e; waits = ps }) ws

same_read :
    (e f : Expression) (ps qs : List (Pending Expression)) (ws : List Word)
    → settled trees (demand ws) e ps ≡ settled trees (demand ws) f qs → had e ps ws ≡ had f qs ws
same_read e f ps qs [] h = ap (whole) h
same_read e f ps qs (w ∷ ws) h =
    ap (λ (s : Place Expression). option_and_then (λ p. read trees p ws) (place_behind trees (sign_of w.kind w.text) s)) h

lower : (p : Pending Expression) (n l : ℕ) → HeldBy p n → n ≤ l → n ≤ 11 → 2 ≤ l → pending_level p < l
lower opened n l h a b c = omega arith
lower (prefixed op) n l h a b c = absurd (omega arith)
lower (joined x op) n l h a b c = omega arith
lower (asked x) n l h a b c = omega arith
lower (parted x y) n l h a b c = omega arith

stays :
    (ps : List (Pending Expression)) (e : Expression) (n l : ℕ) → Held ps n → n ≤ l → n ≤ 11 → 2 ≤ l
    → settled trees l e ps ≡ record { last = Some e; waits = ps }
stays [] e n l h a b c = refl
stays (p ∷ ps) e n l h a b c = rw (le_false l (pending_level p) (lower p n l h a b c)) refl

pub takes :
    (p : Pending Expression) (ps : List (Pending Expression)) (e : Expression) (l : ℕ) → l ≤ pending_level p
    → settled trees l e (p ∷ ps) ≡ settled trees l (completed trees p e) ps
takes p ps e l h = rw (le_true l (pending_level p) h) refl

pub held_more : (ps : List (Pending Expression)) (n m : ℕ) → Held ps n → n ≤ m → Held ps m
held_more [] n m h a = h
held_more (opened ∷ ps) n m h a = h
held_more (prefixed op ∷ ps) n m h a = omega arith
held_more (joined x op ∷ ps) n m h a = omega arith
held_more (asked x ∷ ps) n m h a = h
held_more (parted x y ∷ ps) n m h a = h

-- behind an operand, a connective
connected_on :
    (op : Binary) (e : Expression) (ps : List (Pending Expression)) (ws : List Word) → Held ps (binary_level op)
    → had e ps (mark (binary_text op) ∷ ws) ≡ wanted (joined e op ∷ ps) ws
connected_on op e ps ws h =
    let b = binary_bounds op in
    let s = stays ps e (binary_level op) (binary_level op) h (omega arith) b.1 b.0 in
    rw (sign-binary op, s) refl

asked_on :
    (e : Expression) (ps : List (Pending Expression)) (ws : List Word) → Held ps 1
    → had e ps (mark (codes "?") ∷ ws) ≡ wanted (asked e ∷ ps) ws
asked_on e ps ws h =
    ap (λ (s : Place Expression). option_and_then (λ p. read trees p ws) (place_behind trees asks s))
    (stays ps e 1 2 h (omega arith) (omega arith) (omega arith))

pub level_positive : (e : Expression) → 1 ≤ level e
level_positive (operand word) = omega arith
level_positive (parenthesized inner) = omega arith
level_positive (unary op inner) = omega arith
level_positive (binary op l r) = let b = binary_bounds op in omega arith
level_positive (conditional a b c) = omega arith

demand-binary : (op : Binary) (ws : List Word) → demand (mark (binary_text op) ∷ ws) ≡ binary_level op
demand-binary op ws = ap sign_level (sign-binary op)

pub complete :
    (e : Expression) (ps : List (Pending Expression)) (ws : List Word) → Fits e → Held ps (level e) → demand ws ≤ level e
    → wanted ps (spelled e ++ ws) ≡ had e ps ws
complete (operand word) ps ws f h d = rw (front-operand word.kind word.text f) refl
complete (parenthesized inner) ps ws f h d =
    ap (λ l. wanted (opened ∷ ps) l) (append_assoc (spelled inner) (mark (codes ")") ∷ []) ws)
    ∙ complete inner (opened ∷ ps) (mark (codes ")") ∷ ws) f tt (level_positive inner)
complete (unary op inner) ps ws f h d =
    rw (front-unary op)
    (complete inner (prefixed op ∷ ps) ws f.0 f.1 (omega (arith, f.1))
    ∙ same_read inner (unary op inner) (prefixed op ∷ ps) ps ws (takes (prefixed op) ps inner (demand ws) d))
complete (binary op l r) ps ws f h d =
    ap (λ x. wanted ps x) (append_assoc (spelled l) (mark (binary_text op) ∷ spelled r) ws)
    ∙ complete l ps (mark (binary_text op) ∷ (spelled r ++ ws)) f.0 (held_more ps (binary_level op) (level l) h f.2)
    (rw (demand-binary op (spelled r ++ ws)) f.2)
    ∙ connected_on op l ps (spelled r ++ ws) h
    ∙ complete r (joined l op ∷ ps) ws f.1 f.3 (omega (arith, f.3))
    ∙ same_read r (binary op l r) (joined l op ∷ ps) ps ws (takes (joined l op) ps r (demand ws) d)
complete (conditional a b c) ps ws f h d =
    ap (λ x. wanted ps x)
    (append_assoc (spelled a ++ (mark (codes "?") ∷ spelled b)) (mark (codes ":") ∷ spelled c) ws
    ∙ append_assoc (spelled a) (mark (codes "?") ∷ spelled b) (mark (codes ":") ∷ (spelled c ++ ws)))
    ∙ complete a ps (mark (codes "?") ∷ (spelled b ++ mark (codes ":") ∷ (spelled c ++ ws))) f.0
    (held_more ps 1 (level a) h (level_positive a)) f.3
    ∙ asked_on a ps (spelled b ++ mark (codes ":") ∷ (spelled c ++ ws)) h
    ∙ complete b (asked a ∷ ps) (mark (codes ":") ∷ (spelled c ++ ws)) f.1 tt (level_positive b)
    ∙ complete c (parted a b ∷ ps) ws f.2 tt (omega (arith, level_positive c))
    ∙ same_read c (conditional a b c) (parted a b ∷ ps) ps ws (takes (parted a b) ps c (demand ws) d)
