-- The value of tokens is what their reading says.
use Rattle.std.proofs.Common.{◌≡◌, ◌≤◌, List, [], append-nil, map, Option, Some, None, Bool, true, false, refl, sym, ap, ◌∙◌, arith}
use Rattle.std.specs.Prelude.{◌↔◌, min, nat_le, option_map, if◌then◌else◌, ℤ}
use Rattle.std.proofs.lemmas.Bool.Decides.{nat_tests}
use Rattle.c_text.specs.Token.{PlainToken}
use Rattle.c_text.specs.Expressions.{Word, word_of, Expression, spelled, Fits, height, value, HasValue}
use Rattle.pp_lines.specs.ExpressionReading.{read, at_start, trees, outcome_of, answer, evaluated}
use Rattle.pp_lines.specs.Laws.{ValuesAreOne, ValuesAreDecided, ValuesAreRead}
use Rattle.pp_lines.specs.ExpressionView.{told}
use Rattle.pp_lines.specs.declared.expressions.Value.{Value}
use Rattle.pp_lines.specs.declared.expressions.Value.TheVariants.{Number, Refused}
use Rattle.pp_lines.proofs.ExpressionComplete.{le_true, level_positive, complete}
use Rattle.pp_lines.proofs.ExpressionSound.{sound}
use Rattle.pp_lines.proofs.ExpressionOutcomes.{read_of}

reads : (e : Expression) → Fits e → read trees at_start (spelled e) ≡ Some e
reads e f =
    ap (read trees at_start) (sym (append-nil (spelled e)))
    ∙ complete e [] [] f tt (level_positive e)

pub values_are_one : ValuesAreOne
values_are_one tokens a b g h =
    let x = reads g.expression g.fits in
    let y = reads h.expression h.fits in
    let s = g.spells in
    let t = h.spells in
    let u = g.value_is in
    let v = h.value_is in
    cc

answer_low : (e : Expression) (z : ℤ) → height e ≤ 128 → value e ≡ Some z → answer (Some (outcome_of e)) ≡ Some z
answer_low e z h v =
    let l : min (height e) 129 ≤ 128 = omega arith in
    rw (le_true (min (height e) 129) 128 l) v

low_answer : (e : Expression) (z : ℤ) → answer (Some (outcome_of e)) ≡ Some z → (height e ≤ 128) × (value e ≡ Some z)
low_answer e z h = by (nat_le (min (height e) 129) 128) refl h
  where
    by : (b : Bool) → nat_le (min (height e) 129) 128 ≡ b → (if b then value e else None) ≡ Some z
        → (height e ≤ 128) × (value e ≡ Some z)
    by true g k = let l : min (height e) 129 ≤ 128 = grind (arith, nat_tests) in (omega arith, k)
    by false g k = absurd cc

value_read : (tokens : List PlainToken) (z : ℤ) (o : Option Expression) → read trees at_start (map word_of tokens) ≡ o
    → answer (option_map outcome_of o) ≡ Some z → HasValue tokens z
value_read tokens z None e h = absurd cc
value_read tokens z (Some x) e h =
    let s = sound (map word_of tokens) at_start x tt tt e in
    let l = low_answer x z h in
    record { expression = x; fits = s.fits; spells = s.text; low = l.0; value_is = l.1 }

evaluated_is : (tokens : List PlainToken) → evaluated tokens ≡ answer (option_map outcome_of (read trees at_start (map word_of tokens)))
evaluated_is tokens = ap answer (read_of (map word_of tokens) at_start)

has_value : (tokens : List PlainToken) (z : ℤ) → evaluated tokens ≡ Some z → HasValue tokens z
has_value tokens z h =
    value_read tokens z (read trees at_start (map word_of tokens)) refl (sym (evaluated_is tokens) ∙ h)

value_had : (tokens : List PlainToken) (z : ℤ) → HasValue tokens z → evaluated tokens ≡ Some z
value_had tokens z h =
    evaluated_is tokens
    ∙ ap (λ (l : List Word). answer (option_map outcome_of (read trees at_start l))) h.spells
    ∙ ap (λ (o : Option Expression). answer (option_map outcome_of o)) (reads h.expression h.fits)
    ∙ answer_low h.expression z h.low h.value_is

pub values_are_decided : ValuesAreDecided
values_are_decided tokens = (evaluated tokens, λ z. (has_value tokens z, value_had tokens z))

number_told : (v : Option ℤ) (z : ℤ) → told v ≡ Number z → v ≡ Some z
number_told None z h = absurd cc
number_told (Some y) z h = let same : y ≡ z = cc in ap (λ (x : ℤ). Some x) same

refusal_told : (v : Option ℤ) → told v ≡ Refused → v ≡ None
refusal_told None h = refl
refusal_told (Some y) h = absurd cc

not_valued : (v : Option ℤ) → ((z : ℤ) → v ≡ Some z → ⊥) → v ≡ None
not_valued None h = refl
not_valued (Some y) h = absurd (h y refl)

pub tells_number : (tokens : List PlainToken) (v : Value) → v ≡ told (evaluated tokens) → (z : ℤ) → (v ≡ Number z) ↔ HasValue tokens z
tells_number tokens v e z =
    (λ h. has_value tokens z (number_told (evaluated tokens) z (sym e ∙ h)), λ h. e ∙ ap told (value_had tokens z h))

pub tells_refusal :
    (tokens : List PlainToken) (v : Value) → v ≡ told (evaluated tokens)
    → (v ≡ Refused) ↔ ((z : ℤ) → HasValue tokens z → ⊥)
tells_refusal tokens v e = (
  λ h z g. let n = refusal_told (evaluated tokens) (sym e ∙ h) in let s = value_had tokens z g in absurd cc,
  λ h. e ∙ ap told (not_valued (evaluated tokens) (λ z g. h z (has_value tokens z g))),
)

pub values_are_read : ValuesAreRead
values_are_read tokens = record { number = tells_number tokens _ refl; refused = tells_refusal tokens _ refl }
