-- Names and constraints are ASCII.
use Rattle.std.proofs.Common.{◌≡◌, ℕ, zero, suc, ◌<◌, ◌≤◌, true, not, ◌&&◌, ◌||◌, ◌==◌, nat_le, List, [], ◌∷◌, ◌++◌, codes, IsUtf8, sym, subst, inl, inr, arith}
use Rattle.std.specs.Prelude.{nat_eq}
use Rattle.std.specs.List.{AllByRecursion, list_all, list_any, starts_with}
use Rattle.std.specs.Str.{bytes_eq}
use Rattle.std.proofs.lemmas.Bool.{and_parts, or_cases, eqb-true, leb-true}
use Rattle.std.proofs.lemmas.Str.{IsUtf8-from_ascii}
use Rattle.c_names.specs.Bytes.{digit_0, digit_9, lower_a, lower_z, underscore, upper_a, upper_z}
use Rattle.c_names.specs.Names.{is_digit, is_nondigit, is_word_byte, is_identifier, is_keyword, taken_names, is_new_name}
use Rattle.feature_model.specs.declared.signs.Sign.{Sign}
use Rattle.feature_model.specs.declared.signs.Sign.TheVariants.{Not, And, Or, Implies, Equals, Opens, Closes}
use Rattle.feature_model.specs.Tokens.{Name, Mark, sign_text, Piece, Space, Tab, Spelled, pieces_text, WellSpaced}
use Rattle.feature_model.specs.Trees.{Tree}
use Rattle.feature_model.specs.Constraints.{IsConstraint}
use Rattle.file_outcomes.proofs.Strings.{MayBeString}

abbrev Low : List ℕ → Type 0
Low bytes = AllByRecursion (λ b. b < 128) bytes

low-append : (a b : List ℕ) → Low a → Low b → Low (a ++ b)
low-append [] b h k = k
low-append (x ∷ a) b h k = (h.0, low-append a b h.1 k)

low-utf8 : (bytes : List ℕ) → Low bytes → IsUtf8 bytes
low-utf8 bytes h = IsUtf8-from_ascii bytes (by bytes h)
  where
    by : (bytes : List ℕ) → Low bytes → (i : ℕ) → Rattle.std.specs.Prelude.slice_index bytes i < 128
    by [] h i = omega arith
    by (b ∷ bytes) h zero = h.0
    by (b ∷ bytes) h (suc i) = by bytes h.1 i

upto : (low high b : ℕ) → high < 128 → (nat_le low b && nat_le b high) ≡ true → b < 128
upto low high b small h = let k : b ≤ high = leb-true b high (and_parts (nat_le low b) (nat_le b high) h).1 in omega (arith, k, small)

nondigit-low : (b : ℕ) → is_nondigit b ≡ true → b < 128
nondigit-low b h =
    elim (or_cases ((nat_le upper_a b && nat_le b upper_z) || (nat_le lower_a b && nat_le b lower_z)) (b == underscore) h) [
      | inl letter ↦ elim (or_cases (nat_le upper_a b && nat_le b upper_z) (nat_le lower_a b && nat_le b lower_z) letter) [
        | inl upper ↦ upto upper_a upper_z b (omega arith) upper
        | inr lower ↦ upto lower_a lower_z b (omega arith) lower
      ]
      | inr line ↦ let e : b ≡ underscore = eqb-true b underscore line in omega (arith, e)
    ]

word-low : (b : ℕ) → is_word_byte b ≡ true → b < 128
word-low b h =
    elim (or_cases (is_nondigit b) (is_digit b) h) [ inl letter ↦ nondigit-low b letter | inr digit ↦ upto digit_0 digit_9 b (omega arith) digit ]

words-low : (bytes : List ℕ) → list_all is_word_byte bytes ≡ true → Low bytes
words-low [] h = tt
words-low (b ∷ bytes) h = let p = and_parts (is_word_byte b) (list_all is_word_byte bytes) h in (word-low b p.0, words-low bytes p.1)

identifier-low : (bytes : List ℕ) → is_identifier bytes ≡ true → Low bytes
identifier-low [] h = tt
identifier-low (b ∷ bytes) h = let p = and_parts (is_nondigit b) (list_all is_word_byte bytes) h in (nondigit-low b p.0, words-low bytes p.1)

pub name-utf8 : (name : List ℕ) → is_new_name name ≡ true → IsUtf8 name
name-utf8 name h =
    let free = and_parts (is_identifier name && not (is_keyword name) && not (list_any (bytes_eq name) taken_names)) (not (starts_with nat_eq name (codes "__"))) h in
    let other = and_parts (is_identifier name && not (is_keyword name)) (not (list_any (bytes_eq name) taken_names)) free.0 in
    low-utf8 name (identifier-low name (and_parts (is_identifier name) (not (is_keyword name)) other.0).0)

sign-low : (sign : Sign) → Low (sign_text sign)
sign-low Not = (omega arith, tt)
sign-low And = (omega arith, (omega arith, tt))
sign-low Or = (omega arith, (omega arith, tt))
sign-low Implies = (omega arith, (omega arith, tt))
sign-low Equals = (omega arith, (omega arith, (omega arith, tt)))
sign-low Opens = (omega arith, tt)
sign-low Closes = (omega arith, tt)

pieces-low : (pieces : List Piece) → WellSpaced pieces → Low (pieces_text pieces)
pieces-low [] h = tt
pieces-low (Spelled (Name word) ∷ rest) h = low-append word (pieces_text rest) (identifier-low word h.0) (pieces-low rest h.2)
pieces-low (Spelled (Mark sign) ∷ rest) h = low-append (sign_text sign) (pieces_text rest) (sign-low sign) (pieces-low rest h)
pieces-low (Space ∷ rest) h = (omega arith, pieces-low rest h)
pieces-low (Tab ∷ rest) h = (omega arith, pieces-low rest h)

pub constraint-may : (text : List ℕ) (tree : Tree) → IsConstraint text tree → MayBeString text
constraint-may text tree is = record {
  utf8 = subst IsUtf8 (sym is.written.written) (low-utf8 (pieces_text is.written.pieces) (pieces-low is.written.pieces is.written.spaced));
  short = omega (arith, is.short);
}
