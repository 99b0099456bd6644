-- Pieces of one byte: marks, blanks and newlines, and what may stand behind them.
use Rattle.std.proofs.Common.{◌≡◌, ℕ, suc, ◌==◌, Bool, true, false, ◌&&◌, ◌||◌, List, [], ◌∷◌, codes, length, refl, ◌∙◌, sym, ap, subst, cond, ⊎_elim, Option, Some, None, arith}
use Rattle.std.specs.List.{list_all}
use Rattle.std.proofs.lemmas.Bool.{both_ways, and_parts, eqb-true, ne_eqb, or_cases}
use Rattle.c_text.specs.declared.token.BadKind.TheVariants.{BadByte}
use Rattle.c_text.specs.declared.token.TokenKind.TheVariants.{Punctuator, Bad}
use Rattle.c_text.specs.Constants.{is_one_of}
use Rattle.c_text.specs.Pieces.{PieceKind, space, line_end, token, piece_of}
use Rattle.quick_form.specs.Words.{is_blank}
use Rattle.quick_lines.specs.SpelledLines.{may_go_on}

-- what a test finds of each byte of a list
pub of_all : (test : ℕ → Bool) (bytes : List ℕ) (b : ℕ) → list_all test bytes ≡ true → is_one_of bytes b ≡ true → test b ≡ true
of_all test [] b all h = absurd (both_ways false refl h)
of_all test (c ∷ cs) b all h =
    let parts = and_parts (test c) (list_all test cs) all in
    ⊎_elim (λ e. subst (λ d. test d ≡ true) (eqb-true c b e) parts.0) (λ e. of_all test cs b parts.1 e) (or_cases (c == b) (is_one_of cs b) h)

-- the marks of the quick form with `#`, and blanks
abbrev pub marks : List ℕ
marks = codes "(){};=+-# \t"

-- `+`, `-`, `=` and `#` begin longer punctuators, which go on with one of `#+-=>`
abbrev pub may_begin : ℕ → Bool
may_begin b = may_go_on b || b == 35

abbrev pub makes_longer : ℕ → Bool
makes_longer b = is_one_of (codes "#+-=>") b

abbrev pub mark_kind : ℕ → PieceKind
mark_kind b = cond (is_blank b) space (token Punctuator)

-- The byte is a piece, and no longer one begins with it where such a byte follows.
pub record StandsAlone (b : ℕ) (kind : PieceKind) : Type 0 where
  pub is_piece : piece_of (b ∷ []) ≡ Some kind
  pub longest : (c : ℕ) (more : List ℕ) → (may_begin b && makes_longer c) ≡ false → piece_of (b ∷ c ∷ more) ≡ None

abbrev pub lone : ℕ → Option PieceKind
lone n = cond (n == 1) (Some (token (Bad BadByte))) None

pub not_lone : (n : ℕ) → lone (suc (suc n)) ≡ None
not_lone n = ap (λ t. cond t (Some (token (Bad BadByte))) None) (ne_eqb (suc (suc n)) 1 (λ e. omega (arith, e)))

other_than : (c d : ℕ) → makes_longer d ≡ true → makes_longer c ≡ false → (c == d) ≡ false
other_than c d h k = ne_eqb c d (λ e. both_ways (makes_longer d) (ap makes_longer (sym e) ∙ k) h)

-- Nothing else is tested of longer texts but their length.
alone : (b : ℕ) (kind : PieceKind) → piece_of (b ∷ []) ≡ Some kind
    → ((c : ℕ) (more : List ℕ) → (may_begin b && makes_longer c) ≡ false → piece_of (b ∷ c ∷ more) ≡ lone (suc (suc (length more))))
    → StandsAlone b kind
alone b kind e h = record { is_piece = e; longest = λ c more k. h c more k ∙ not_lone (length more) }

pub newline_alone : StandsAlone 10 line_end
newline_alone = alone 10 line_end refl (λ c more h. refl)

-- ---- the marks

record AllStand (bytes : List ℕ) : Type 0 where
  stands : (b : ℕ) → is_one_of bytes b ≡ true → StandsAlone b (mark_kind b)

none : AllStand []
none = record { stands = λ b h. absurd (both_ways false refl h) }

also : {b : ℕ} {bytes : List ℕ} → StandsAlone b (mark_kind b) → AllStand bytes → AllStand (b ∷ bytes)
also {b} {bytes} first others = record {
  stands = λ c h.
      ⊎_elim (λ e. subst (λ d. StandsAlone d (mark_kind d)) (eqb-true b c e) first) (λ e. others.stands c e)
      (or_cases (b == c) (is_one_of bytes c) h);
}

all_stand : AllStand marks
all_stand =
    also (alone 40 _ refl (λ c more h. refl)) (
    also (alone 41 _ refl (λ c more h. refl)) (
    also (alone 123 _ refl (λ c more h. refl)) (
    also (alone 125 _ refl (λ c more h. refl)) (
    also (alone 59 _ refl (λ c more h. refl)) (
    also (alone 61 _ refl (λ c more h. rw (other_than c 61 refl h) refl)) (
    also (alone 43 _ refl (λ c more h. rw (other_than c 43 refl h, other_than c 61 refl h) refl)) (
    also (alone 45 _ refl (λ c more h. rw (other_than c 62 refl h, other_than c 45 refl h, other_than c 61 refl h) refl)) (
    also (alone 35 _ refl (λ c more h. rw (other_than c 35 refl h) refl)) (
    also (alone 32 _ refl (λ c more h. refl)) (
    also (alone 9 _ refl (λ c more h. refl)) none))))))))))

pub mark_alone : (b : ℕ) → is_one_of marks b ≡ true → StandsAlone b (mark_kind b)
mark_alone = all_stand.stands
