-- A parser reads nothing but beginnings of files: each spot that it comes to has an end.
use Rattle.std.proofs.Common.{◌≡◌, ℕ, suc, inl, List, [], ◌∷◌, ◌++◌, Option, Some, None, refl, subst}
use Rattle.std.specs.Prelude.{option_and_then}
use Rattle.quick_form.specs.Symbols.{Symbol, Void, Mark}
use Rattle.quick_form.specs.Form.{Literal}
use Rattle.quick_parser.specs.declared.spots.SumEnd.{SumEnd}
use Rattle.quick_parser.specs.declared.spots.SumEnd.TheVariants.{Statement, Output, Condition}
use Rattle.quick_parser.specs.declared.spots.Place.{Place}
use Rattle.quick_parser.specs.declared.spots.Place.TheVariants.{Entry, Declarator, Declared, Initializer, Semicolon, MainOpening, MainVoid, MainClosing, Body, Assignment, Opening, Operand, Operator}
use Rattle.quick_parser.specs.declared.spots.Frame.{Frame}
use Rattle.quick_parser.specs.declared.spots.Frame.TheVariants.{Block, Group, Alternative}
use Rattle.quick_parser.specs.Spots.{Spot, block_count, advanced}
use Rattle.quick_parser.specs.Completion.{closing_symbols, entry_ending, empty_block, sum_ending, zero_sum}
use Rattle.quick_parser.proofs.Complete.{advances}
use Rattle.quick_parser.proofs.Backwards.{backwards, none_then, operand_then, end_then}
use Rattle.quick_parser.proofs.Language.{Language, Follows, ListThen, BodyThen, ClosingThen, VoidThen, SumThen, SumEnds, Ends, Closes, EndsAt}

-- the first step of a reading, and the rest of it
pub record StepsOn (p q : Spot) (k : Symbol) (ks : List Symbol) : Type 0 where
  pub next : Spot
  pub first : advanced p k ≡ Some next
  pub more : advances next ks ≡ Some q

steps_on :
    (p q : Spot) (k : Symbol) (ks : List Symbol) (x : Option Spot) → advanced p k ≡ x
    → option_and_then (λ r. advances r ks) x ≡ Some q → StepsOn p q k ks
steps_on p q k ks None f e = absurd cc
steps_on p q k ks (Some r) f e = record { next = r; first = f; more = e }

-- what ends a file behind symbols ends it, with the symbols, before
pub sound :
    (ks : List Symbol) (p q : Spot) → advances p ks ≡ Some q → (rest : List Symbol) → EndsAt q rest
    → EndsAt p (ks ++ rest)
sound [] p q e rest c = let same : q ≡ p = cc in let P : Spot → Type 0 = λ r. EndsAt r rest in subst P same c
sound (k ∷ ks) p q e rest c =
    let t = steps_on p q k ks (advanced p k) refl e in
    backwards p t.next k t.first (ks ++ rest) (sound ks t.next q t.more rest c)

-- the ends of the open frames
closes : (fs : List Frame) → Closes fs (closing_symbols fs)
closes [] = refl
closes (Block ∷ fs) =
    record {
      rest = closing_symbols fs;
      is = refl;
      more = none_then (block_count fs) (Closes fs) (closing_symbols fs) (closes fs);
    }
closes (Group ∷ fs) =
    inl
    (record {
      rest = closing_symbols fs;
      is = refl;
      more = none_then (block_count fs) (Closes fs) (closing_symbols fs) (closes fs);
    })
closes (Alternative ∷ fs) =
    record {
      rest = closing_symbols fs;
      is = refl;
      more = none_then (block_count fs) (Closes fs) (closing_symbols fs) (closes fs);
    }

-- the end of each entry, where k ends what is open
semicolon_ends : (n : ℕ) (L : Language) (k : List Symbol) → L k → Follows (Mark 59) (ListThen n L) (Mark 59 ∷ k)
semicolon_ends n L k c = record { rest = k; is = refl; more = none_then n L k c }

body_ends : (n : ℕ) (L : Language) (k : List Symbol) → L k → BodyThen n L (empty_block k)
body_ends n L k c =
    record {
      rest = Mark 125 ∷ k;
      is = refl;
      more = none_then (suc n) (Follows (Mark 125) (ListThen n L)) (Mark 125 ∷ k)
          (record { rest = k; is = refl; more = none_then n L k c });
    }

sum_ends : (e : SumEnd) (n : ℕ) (L : Language) (k : List Symbol) → L k → SumEnds e n L (sum_ending e k)
sum_ends Statement n L k c = semicolon_ends n L k c
sum_ends Output n L k c = record { rest = Mark 59 ∷ k; is = refl; more = semicolon_ends n L k c }
sum_ends Condition n L k c = record { rest = empty_block k; is = refl; more = body_ends n L k c }

zero_ends : (e : SumEnd) (n : ℕ) (L : Language) (k : List Symbol) → L k → SumThen (SumEnds e n L) (zero_sum e k)
zero_ends e n L k c =
    operand_then (Literal (48 ∷ [])) (SumEnds e n L) (sum_ending e k) (end_then e n L (sum_ending e k) (sum_ends e n L k c))

closing_ends : (n : ℕ) (L : Language) (k : List Symbol) → L k → ClosingThen n L (Mark 41 ∷ empty_block k)
closing_ends n L k c = record { rest = empty_block k; is = refl; more = body_ends n L k c }

void_ends : (n : ℕ) (L : Language) (k : List Symbol) → L k → VoidThen n L (Void ∷ Mark 41 ∷ empty_block k)
void_ends n L k c = record { rest = Mark 41 ∷ empty_block k; is = refl; more = closing_ends n L k c }

entry_ends : (p : Place) (n : ℕ) (L : Language) (k : List Symbol) → L k → Ends p n L (entry_ending p k)
entry_ends Entry n L k c = none_then n L k c
entry_ends Declarator n L k c =
    inl
    (record {
      name = 97 ∷ [];
      more = record { rest = Mark 59 ∷ k; is = refl; more = inl (semicolon_ends n L k c) };
    })
entry_ends Declared n L k c = inl (semicolon_ends n L k c)
entry_ends Initializer n L k c =
    record { digits = 48 ∷ []; more = record { rest = Mark 59 ∷ k; is = refl; more = semicolon_ends n L k c } }
entry_ends Semicolon n L k c = semicolon_ends n L k c
entry_ends MainOpening n L k c =
    record { rest = Void ∷ Mark 41 ∷ empty_block k; is = refl; more = void_ends n L k c }
entry_ends MainVoid n L k c = void_ends n L k c
entry_ends MainClosing n L k c = closing_ends n L k c
entry_ends Body n L k c = body_ends n L k c
entry_ends Assignment n L k c = record { rest = zero_sum Statement k; is = refl; more = zero_ends Statement n L k c }
entry_ends (Opening e) n L k c = record { rest = zero_sum e k; is = refl; more = zero_ends e n L k c }
entry_ends (Operand e) n L k c = zero_ends e n L k c
entry_ends (Operator e) n L k c = end_then e n L (sum_ending e k) (sum_ends e n L k c)

-- each spot has an end
pub spot_ends : (p : Spot) → EndsAt p (entry_ending p.place (closing_symbols p.open_frames))
spot_ends p = entry_ends p.place (block_count p.open_frames) (Closes p.open_frames) (closing_symbols p.open_frames) (closes p.open_frames)
