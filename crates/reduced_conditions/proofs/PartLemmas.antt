-- What one of several conditions says.
use Rattle.std.proofs.Common.{◌≡◌, ℕ, zero, suc, ◌<◌, ◌+◌, Bool, true, false, not, ◌&&◌, ◌||◌, List, [], ◌∷◌, drop, length, get_or, IsTrue, refl, sym, ap, ◌∙◌, arith}
use Rattle.std.proofs.lemmas.List.{drop_more}
use Rattle.cond_formula.specs.declared.formulas.Formula.{Formula}
use Rattle.cond_formula.specs.Conditions.{condition_of, conditions_of, value, all_true, any_true}

pub left_true : (a b : Bool) → IsTrue (a && b) → IsTrue a
left_true true b h = refl
left_true false b h = cc

pub right_true : (a b : Bool) → IsTrue (a && b) → IsTrue b
right_true true b h = h
right_true false b h = cc

or_left : (a b : Bool) → IsTrue a → IsTrue (a || b)
or_left true b h = refl
or_left false b h = cc

or_right : (a b : Bool) → IsTrue b → IsTrue (a || b)
or_right true b h = refl
or_right false b h = h

-- each part of a conjunction is true where it is
pub part_of_all : (on : ℕ → Bool) (parts : List Formula) (i : ℕ) (part : Formula) → i < length parts → part ≡ get_or parts i part → IsTrue (all_true on (conditions_of parts)) → IsTrue (value on (condition_of part))
part_of_all on [] i part within is all = absurd (omega arith)
part_of_all on (x ∷ parts) zero part within is all = rw is (left_true (value on (condition_of x)) (all_true on (conditions_of parts)) all)
part_of_all on (x ∷ parts) (suc i) part within is all = part_of_all on parts i part (omega arith) is (right_true (value on (condition_of x)) (all_true on (conditions_of parts)) all)

-- a disjunction is true where one of its parts is
pub part_of_some : (on : ℕ → Bool) (parts : List Formula) (i : ℕ) (part : Formula) → i < length parts → part ≡ get_or parts i part → IsTrue (value on (condition_of part)) → IsTrue (any_true on (conditions_of parts))
part_of_some on [] i part within is one = absurd (omega arith)
part_of_some on (x ∷ parts) zero part within is one = or_left (value on (condition_of x)) (any_true on (conditions_of parts)) (let one' = rw is at one in one')
part_of_some on (x ∷ parts) (suc i) part within is one = or_right (value on (condition_of x)) (any_true on (conditions_of parts)) (part_of_some on parts i part (omega arith) is one)

both_true : (a b : Bool) → IsTrue a → IsTrue b → IsTrue (a && b)
both_true true b h g = g
both_true false b h g = cc

-- a part that is true, before others that all are
pub all_from : (on : ℕ → Bool) (parts : List Formula) (i : ℕ) (part : Formula) → i < length parts → part ≡ get_or parts i part → IsTrue (value on (condition_of part)) → IsTrue (all_true on (conditions_of (drop (i + 1) parts))) → IsTrue (all_true on (conditions_of (drop i parts)))
all_from on parts i part within is one rest =
    let after = drop (i + 1) parts in
    let next : drop i parts ≡ part ∷ after = drop_more parts i part within ∙ ap (λ (p : Formula). p ∷ after) (sym is) in
    ap (λ (ps : List Formula). all_true on (conditions_of ps)) next ∙ both_true (value on (condition_of part)) (all_true on (conditions_of after)) one rest

pub none_left : (a b : Bool) → (a || b) ≡ false → a ≡ false
none_left true b h = h
none_left false b h = refl

pub none_right : (a b : Bool) → (a || b) ≡ false → b ≡ false
none_right true b h = cc
none_right false b h = h

-- each part of a disjunction is false where it is
pub part_of_none : (on : ℕ → Bool) (parts : List Formula) (i : ℕ) (part : Formula) → i < length parts → part ≡ get_or parts i part → any_true on (conditions_of parts) ≡ false → value on (condition_of part) ≡ false
part_of_none on [] i part within is none = absurd (omega arith)
part_of_none on (x ∷ parts) zero part within is none = rw is (none_left (value on (condition_of x)) (any_true on (conditions_of parts)) none)
part_of_none on (x ∷ parts) (suc i) part within is none = part_of_none on parts i part (omega arith) is (none_right (value on (condition_of x)) (any_true on (conditions_of parts)) none)

-- ---- two conditions of which one says what the other says

pub implied_both : (a b : Bool) → (IsTrue b → IsTrue a) → b ≡ (a && b)
implied_both a true h = sym (ap (λ (k : Bool). k && true) (h refl))
implied_both true false h = refl
implied_both false false h = refl

pub implied_both_left : (a b : Bool) → (IsTrue a → IsTrue b) → a ≡ (a && b)
implied_both_left true b h = sym (h refl)
implied_both_left false b h = refl

pub implied_either : (a b : Bool) → (IsTrue b → IsTrue a) → a ≡ (a || b)
implied_either true b h = refl
implied_either false true h = h refl
implied_either false false h = refl

pub implied_either_right : (a b : Bool) → (IsTrue a → IsTrue b) → b ≡ (a || b)
implied_either_right true b h = h refl
implied_either_right false b h = refl

pub ruled_out : (a b : Bool) → (IsTrue a → b ≡ false) → false ≡ (a && b)
ruled_out true b h = sym (h refl)
ruled_out false b h = refl

pub ruled_out_left : (a b : Bool) → (IsTrue b → a ≡ false) → false ≡ (a && b)
ruled_out_left a true h = ap (λ (k : Bool). k && true) (sym (h refl))
ruled_out_left true false h = refl
ruled_out_left false false h = refl

pub opposite_either : (a b : Bool) → a ≡ not b → true ≡ (a || b)
opposite_either a true h = ap (λ (k : Bool). k || true) (sym h)
opposite_either a false h = ap (λ (k : Bool). k || false) (sym h)

pub not_opposite : (a b : Bool) → IsTrue a → a ≡ not b → b ≡ false
not_opposite a true is h = sym is ∙ h
not_opposite a false is h = refl

-- ---- one part more of a conjunction

and_assoc : (k p r : Bool) → ((k && p) && r) ≡ (k && (p && r))
and_assoc true p r = refl
and_assoc false p r = refl

pub kept_same : (k p r new all : Bool) → new ≡ (k && p) → (k && (p && r)) ≡ all → (new && r) ≡ all
kept_same k p r new all e h = ap (λ (b : Bool). b && r) e ∙ and_assoc k p r ∙ h

pub kept_true : (k p r new : Bool) → (IsTrue (k && p) → IsTrue new) → IsTrue (k && (p && r)) → IsTrue (new && r)
kept_true true true r new e h = ap (λ (b : Bool). b && r) (e refl) ∙ h
kept_true true false r new e h = cc
kept_true false p r new e h = cc

-- ---- what two conditions have in common that differ in a change

pub one_of_both : (a b rest change : Bool) → (change ≡ true → rest ≡ a) → (IsTrue a → IsTrue rest) → (IsTrue b → IsTrue rest) → (IsTrue rest → change ≡ false → IsTrue b) → rest ≡ (a || b)
one_of_both true b rest change there wider said back = wider refl
one_of_both false true rest change there wider said back = said refl
one_of_both false false rest true there wider said back = there refl
one_of_both false false true false there wider said back = sym (back refl refl)
one_of_both false false false false there wider said back = refl

pub neither_one : (a b f g some n : Bool) → a ≡ not f → b ≡ not g → some ≡ (f || g) → n ≡ not some → n ≡ (a && b)
neither_one a b true g some n off-a off-b joined opposite = opposite ∙ ap not joined ∙ sym (ap (λ (k : Bool). k && b) off-a)
neither_one a b false g some n off-a off-b joined opposite = opposite ∙ ap not joined ∙ sym (ap (λ (k : Bool). k && b) off-a ∙ off-b)

-- ---- what is left out

pub excluded_not : (a b : Bool) → (a && b) ≡ false → a ≡ (a && not b)
excluded_not true true h = h
excluded_not true false h = refl
excluded_not false b h = refl

pub excluded_goes : (part rest b : Bool) → (part && b) ≡ false → ((part || rest) && b) ≡ (rest && b)
excluded_goes true true b h = refl
excluded_goes true false b h = h
excluded_goes false rest b h = refl

pub excluded_turned : (a b : Bool) → (a && b) ≡ false → (b && a) ≡ false
excluded_turned true true h = h
excluded_turned true false h = refl
excluded_turned false true h = refl
excluded_turned false false h = refl

pub excluded_false : (a b : Bool) → (a && b) ≡ false → IsTrue b → IsTrue (not a)
excluded_false true true h is = sym h
excluded_false true false h is = is
excluded_false false b h is = refl

pub apart_without : (a b : Bool) → (IsTrue a → IsTrue b → ⊥) → a ≡ (a && not b)
apart_without true true h = absurd (h refl refl)
apart_without true false h = refl
apart_without false b h = refl

pub implied_without : (a b : Bool) → (IsTrue a → IsTrue b) → false ≡ (a && not b)
implied_without true true h = refl
implied_without true false h = h refl
implied_without false b h = refl

pub without_inside : (a b more e : Bool) → (IsTrue a → more ≡ b) → e ≡ not more → (a && e) ≡ (a && not b)
without_inside true b more e h is = is ∙ ap not (h refl)
without_inside false b more e h is = refl

pub both_inside : (a b here : Bool) → (IsTrue b → here ≡ a) → (here && b) ≡ (a && b)
both_inside a true here h = ap (λ (k : Bool). k && true) (h refl)
both_inside true false true h = refl
both_inside true false false h = refl
both_inside false false true h = refl
both_inside false false false h = refl

pub elsewhere_either : (a b e : Bool) → (a ≡ false → e ≡ b) → e ≡ true → true ≡ (a || b)
elsewhere_either true b e h is = refl
elsewhere_either false b e h is = sym is ∙ h refl

-- a part that the other says already

pub said_already : (k p : Bool) → IsTrue p → k ≡ (k && p)
said_already true p is = sym is
said_already false p is = refl

pub false_where_not : (o p : Bool) → (IsTrue o → p ≡ false) → IsTrue p → o ≡ false
false_where_not true p h is = sym is ∙ h refl
false_where_not false p h is = refl
