-- Terminals are told apart by their numbers, and what holds of each in a list holds of one in it.
use Rattle.std.proofs.Common.{◌≡◌, ℕ, zero, suc, true, List, [], ◌∷◌, refl, ap, sym, ◌∙◌, inl, inr, ◌⊎◌}
use Rattle.std.specs.Prelude.{IsTrue}
use Rattle.std.proofs.lemmas.Bool.{eqb-true, eq-eqb, or_cases, false≢true}
use Rattle.c_tree.specs.declared.terminals.Terminal.{Terminal}
use Rattle.c_tree.specs.declared.terminals.Terminal.TheVariants.{Name, Number, Character, Text, OpenParenthesis, CloseParenthesis, OpenBracket, CloseBracket, OpenBrace, CloseBrace, Semicolon, Comma, Question, Colon, Select, Step, Ampersand, Star, Sign, Negation, Divide, Shift, Relation, Equality, Caret, Bar, AndAnd, OrOr, Assign, CompoundAssign, Void, Char, Unsigned, Int, Long, Struct, Static, Extern, Inline, If, Else, While, Do, For, Jump, Return, Other}
use Rattle.c_tree.specs.Terminals.{number, same, is_one_of}

all_terminals : List Terminal
all_terminals =
    Name ∷ Number ∷ Character ∷ Text ∷ OpenParenthesis ∷ CloseParenthesis ∷ OpenBracket ∷ CloseBracket ∷ OpenBrace ∷ CloseBrace
    ∷ Semicolon ∷ Comma ∷ Question ∷ Colon ∷ Select ∷ Step ∷ Ampersand ∷ Star ∷ Sign ∷ Negation ∷ Divide ∷ Shift ∷ Relation
    ∷ Equality ∷ Caret ∷ Bar ∷ AndAnd ∷ OrOr ∷ Assign ∷ CompoundAssign ∷ Void ∷ Char ∷ Unsigned ∷ Int ∷ Long ∷ Struct ∷ Static
    ∷ Extern ∷ Inline ∷ If ∷ Else ∷ While ∷ Do ∷ For ∷ Jump ∷ Return ∷ Other ∷ []

nth : List Terminal → ℕ → Terminal
nth [] n = Other
nth (k ∷ ks) zero = k
nth (k ∷ ks) (suc n) = nth ks n

number_back : (k : Terminal) → nth all_terminals (number k) ≡ k
unfolding all_terminals nth
number_back Name = refl
number_back _ = refl

pub same-true : (a b : Terminal) → IsTrue (same a b) → a ≡ b
same-true a b h = sym (number_back a) ∙ ap (nth all_terminals) (eqb-true (number a) (number b) h) ∙ number_back b

pub same_refl : (a : Terminal) → IsTrue (same a a)
same_refl a = eq-eqb (number a) (number a) refl

-- what holds of each terminal of a list
abbrev pub EachOf : (Terminal → Type 0) → List Terminal → Type 0
EachOf P [] = Unit {0}
EachOf P (k ∷ ks) = P k × EachOf P ks

one_of_case :
    (P : Terminal → Type 0) (first : Terminal) (ks : List Terminal) (k : Terminal)
    → (same k first ≡ true) ⊎ (is_one_of ks k ≡ true) → P first → (is_one_of ks k ≡ true → P k) → P k
one_of_case P first ks k (inl e) here others = rw (same-true k first e) here
one_of_case P first ks k (inr e) here others = others e

pub one_of : (P : Terminal → Type 0) (ks : List Terminal) (k : Terminal) → IsTrue (is_one_of ks k) → EachOf P ks → P k
one_of P [] k h each = absurd (false≢true h)
one_of P (first ∷ ks) k h each =
    one_of_case P first ks k (or_cases (same k first) (is_one_of ks k) h) each.0 (λ e. one_of P ks k e each.1)
