-- What sets of literals say.
use Rattle.std.proofs.Common.{◌≡◌, ℕ, zero, suc, ◌<◌, ◌+◌, Bool, true, false, true≢false, not, ◌&&◌, ◌||◌, List, [], ◌∷◌, ◌++◌, drop, length, get_or, nat_eq, ◌^◌, ◌*◌, ◌%◌, ◌≤◌, ◌≢◌, IsTrue, ◌↔◌, inl, inr, refl, sym, ap, ◌∙◌, subst, arith, bit_and, bit_or, bit_xor}
use Rattle.std.proofs.lemmas.List.{drop_more}
use Rattle.std.proofs.lemmas.Nat.{and_le_l}
use Rattle.std.proofs.lemmas.Nat.Bits.{bit_at_or, bit_at_xor, bit_at-lt, bit_at_above, bit_at_clear_same, bit_at_clear_other}
use Rattle.std.proofs.lemmas.Bool.{cases_eq}
use Rattle.std.proofs.lemmas.Bool.Decides.{nat_tests}
use Rattle.std.specs.Int.{bit_at, bit_not, w128}
use Rattle.std.specs.declared.alloc.Global.{Global}
use Rattle.std.specs.Prelude.{Vec}
use Rattle.cond_formula.specs.declared.formulas.Formula.{Formula, True, Var, And, Or}
use Rattle.cond_formula.specs.ConditionLaws.{condition_of-True, condition_of-Var, condition_of-And, condition_of-Or}
use Rattle.cond_formula.specs.Conditions.{Conditions, none, more, condition_of, conditions_of, value, all_true, any_true}
use Rattle.cond_formula.proofs.ConnectiveLaws.{all_true-append, any_true-append}
use Rattle.reduced_conditions.specs.declared.literals.Literals.{Literals}
use Rattle.reduced_conditions.specs.Literals.{Tells, EachHas, AllOn, AllOff, HasAll, Without}
use Rattle.reduced_conditions.proofs.PartLemmas.{left_true, right_true, none_left, none_right}

same_numbers : (a b : ℕ) → IsTrue (nat_eq a b) → a ≡ b
same_numbers a b same = grind (arith, nat_tests, same)

and_true : (a : Bool) → (a && true) ≡ a
and_true true = refl
and_true false = refl

or_false : (a : Bool) → (a || false) ≡ a
or_false true = refl
or_false false = refl

-- ---- lists of conditions that have one value

pub each_at : (is : Bool) (on : ℕ → Bool) (parts : List Formula) (i : ℕ) (part : Formula) → i < length parts → part ≡ get_or parts i part → EachHas is on (conditions_of parts) → value on (condition_of part) ≡ is
each_at is on [] i part within same each = absurd (omega arith)
each_at is on (x ∷ parts) zero part within same each = ap (λ (p : Formula). value on (condition_of p)) same ∙ each.0
each_at is on (x ∷ parts) (suc i) part within same each = each_at is on parts i part (omega arith) same each.1

pub each_from : (is : Bool) (on : ℕ → Bool) (parts : List Formula) (i : ℕ) (part : Formula) → i < length parts → part ≡ get_or parts i part → value on (condition_of part) ≡ is → EachHas is on (conditions_of (drop (i + 1) parts)) → EachHas is on (conditions_of (drop i parts))
each_from is on parts i part within same one rest =
    let after = drop (i + 1) parts in
    let next : drop i parts ≡ part ∷ after = drop_more parts i part within ∙ ap (λ (p : Formula). p ∷ after) (sym same) in
    subst (λ (ps : List Formula). EachHas is on (conditions_of ps)) (sym next) (one, rest)

pub each_of_all : (on : ℕ → Bool) (parts : Conditions) → all_true on parts ≡ true → EachHas true on parts
each_of_all on none all = tt
each_of_all on (more part rest) all = (left_true (value on part) (all_true on rest) all, each_of_all on rest (right_true (value on part) (all_true on rest) all))

pub each_end : (is : Bool) (on : ℕ → Bool) (parts : List Formula) (i : ℕ) → length parts ≤ i → EachHas is on (conditions_of (drop i parts))
each_end is on [] zero done = tt
each_end is on [] (suc i) done = tt
each_end is on (x ∷ parts) zero done = absurd (omega arith)
each_end is on (x ∷ parts) (suc i) done = each_end is on parts i (omega arith)

pub differ : (a b : Bool) → a ≡ b → a ≡ not b → ⊥
differ a true is other = true≢false (sym is ∙ other)
differ a false is other = true≢false (sym other ∙ is)

pub both_true : (a b : Bool) → a ≡ true → b ≡ true → (a && b) ≡ true
both_true true b h g = g
both_true false b h g = h

pub all_of_each : (on : ℕ → Bool) (parts : Conditions) → EachHas true on parts → all_true on parts ≡ true
all_of_each on none each = refl
all_of_each on (more part rest) each = both_true (value on part) (all_true on rest) each.0 (all_of_each on rest each.1)

pub each_of_none : (on : ℕ → Bool) (parts : Conditions) → any_true on parts ≡ false → EachHas false on parts
each_of_none on none all = tt
each_of_none on (more part rest) all = (none_left (value on part) (any_true on rest) all, each_of_none on rest (none_right (value on part) (any_true on rest) all))

neither_true : (a b : Bool) → a ≡ false → b ≡ false → (a || b) ≡ false
neither_true true b h g = h
neither_true false b h g = g

pub none_of_each : (on : ℕ → Bool) (parts : Conditions) → EachHas false on parts → any_true on parts ≡ false
none_of_each on none each = refl
none_of_each on (more part rest) each = neither_true (value on part) (any_true on rest) each.0 (none_of_each on rest each.1)

not_both : (a b : Bool) → (a ≡ true → b ≡ false) → (a && b) ≡ false
not_both true b h = h refl
not_both false b h = refl

-- a conjunction of which not all parts are true
pub not_all : (on : ℕ → Bool) (parts : Conditions) → (EachHas true on parts → ⊥) → all_true on parts ≡ false
not_all on none refuted = absurd (refuted tt)
not_all on (more part rest) refuted = not_both (value on part) (all_true on rest) (λ is. not_all on rest (λ each. refuted (is, each)))

one_true : (a b : Bool) → (a ≡ false → b ≡ true) → (a || b) ≡ true
one_true true b h = refl
one_true false b h = h refl

-- a disjunction of which not all parts are false
pub not_none : (on : ℕ → Bool) (parts : Conditions) → (EachHas false on parts → ⊥) → any_true on parts ≡ true
not_none on none refuted = absurd (refuted tt)
not_none on (more part rest) refuted = one_true (value on part) (any_true on rest) (λ is. not_none on rest (λ each. refuted (is, each)))

-- ---- what formulas say by their parts

pub and_says : (on : ℕ → Bool) (f : Formula) (parts : Vec Formula Global) (items : List Formula) → f ≡ And parts → items ≡ parts.items → value on (condition_of f) ≡ all_true on (conditions_of items)
and_says on f parts items is same = ap (λ (g : Formula). value on (condition_of g)) is ∙ ap (value on) (condition_of-And parts) ∙ ap (λ (ps : List Formula). all_true on (conditions_of ps)) (sym same)

pub or_says : (on : ℕ → Bool) (f : Formula) (parts : Vec Formula Global) (items : List Formula) → f ≡ Or parts → items ≡ parts.items → value on (condition_of f) ≡ any_true on (conditions_of items)
or_says on f parts items is same = ap (λ (g : Formula). value on (condition_of g)) is ∙ ap (value on) (condition_of-Or parts) ∙ ap (λ (ps : List Formula). any_true on (conditions_of ps)) (sym same)

pub var_says : (on : ℕ → Bool) (f : Formula) (feature : ℕ) → f ≡ Var feature → value on (condition_of f) ≡ on feature
var_says on f feature is = ap (λ (g : Formula). value on (condition_of g)) is ∙ ap (value on) (condition_of-Var feature)

pub none_says : (on : ℕ → Bool) (parts : List Formula) → IsTrue (nat_eq (length parts) 0) → value on (condition_of True) ≡ all_true on (conditions_of parts)
none_says on [] empty = ap (value on) condition_of-True
none_says on (x ∷ parts) empty = absurd (omega (arith, same_numbers (length (x ∷ parts)) 0 empty))

pub all_with : (on : ℕ → Bool) (parts longer : List Formula) (f : Formula) → longer ≡ parts ++ f ∷ [] → all_true on (conditions_of longer) ≡ (all_true on (conditions_of parts) && value on (condition_of f))
all_with on parts longer f is =
    ap (λ (ps : List Formula). all_true on (conditions_of ps)) is ∙ all_true-append on parts (f ∷ [])
    ∙ ap (λ (b : Bool). all_true on (conditions_of parts) && b) (and_true (value on (condition_of f)))

pub one_with : (on : ℕ → Bool) (parts longer : List Formula) (f : Formula) → longer ≡ parts ++ f ∷ [] → any_true on (conditions_of longer) ≡ (any_true on (conditions_of parts) || value on (condition_of f))
one_with on parts longer f is =
    ap (λ (ps : List Formula). any_true on (conditions_of ps)) is ∙ any_true-append on parts (f ∷ [])
    ∙ ap (λ (b : Bool). any_true on (conditions_of parts) || b) (or_false (value on (condition_of f)))

-- ---- literals that tell of something

-- the same literals tell of what says the same
pub tells_same : (before after : Literals) (P Q : (ℕ → Bool) → Type 0) → Tells before after P → ((on : ℕ → Bool) → Q on → P on) → ((on : ℕ → Bool) → P on → Q on) → Tells before after Q
tells_same before after P Q tells there back = record {
  ahead = λ on before says. tells.ahead on before (there on says);
  all = tells.all;
  kept = tells.kept;
  back = λ all on after. back on (tells.back all on after);
}

-- a literal is told of where its feature is
pub var_tells : (before after : Literals) (f : Formula) (feature : ℕ) (is : Bool) → f ≡ Var feature → Tells before after (λ on. on feature ≡ is) → Tells before after (λ on. value on (condition_of f) ≡ is)
var_tells before after f feature is same tells =
    let says = λ (on : ℕ → Bool). var_says on f feature same in
    tells_same before after (λ on. on feature ≡ is) (λ on. value on (condition_of f) ≡ is) tells (λ on has. sym (says on) ∙ has) (λ on has. says on ∙ has)

-- ---- bits

by_order : (P : Type 0) (i k : ℕ) → (i < k → P) → (k ≤ i → P) → P
by_order P i zero one other = other (omega arith)
by_order P zero (suc k) one other = one (omega arith)
by_order P (suc i) (suc k) one other = by_order P i k (λ less. one (omega (arith, less))) (λ from. other (omega (arith, from)))

split : (P : Type 0) (bit : ℕ) → bit < 2 → (bit ≡ 1 → P) → (bit ≡ 0 → P) → P
split P zero few one other = other refl
split P (suc zero) few one other = one refl
split P (suc (suc bit)) few one other = absurd (omega arith)

pub has_same : (a b i : ℕ) → IsTrue (nat_eq (bit_or a b) a) → bit_at b i ≡ 1 → bit_at a i ≡ 1
has_same a b i same is =
    let there : bit_at (bit_or a b) i ≡ 1 = omega (arith, bit_at_or a b i, bit_at-lt a i, is) in
    ap (λ (bits : ℕ). bit_at bits i) (sym (same_numbers (bit_or a b) a same)) ∙ there

-- a bit of one of two sets
pub of_either : (P : Type 0) (a b i : ℕ) → bit_at (bit_or a b) i ≡ 1 → (bit_at a i ≡ 1 → P) → (bit_at b i ≡ 1 → P) → P
of_either P a b i is one other = split P (bit_at a i) (bit_at-lt a i) one (λ off. other (omega (arith, off, is, bit_at_or a b i, bit_at-lt b i)))

pub on_both : (on : ℕ → Bool) (a b : ℕ) → AllOn on a → AllOn on b → AllOn on (bit_or a b)
on_both on a b one other = λ i is. of_either (IsTrue (on i)) a b i is (one i) (other i)

pub off_both : (on : ℕ → Bool) (a b : ℕ) → AllOff on a → AllOff on b → AllOff on (bit_or a b)
off_both on a b one other = λ i is. of_either (on i ≡ false) a b i is (one i) (other i)

pub of_left : (a b : ℕ) → HasAll (bit_or a b) a
of_left a b = λ i is. omega (arith, is, bit_at_or a b i, bit_at-lt b i)

pub of_right : (a b : ℕ) → HasAll (bit_or a b) b
of_right a b = λ i is. omega (arith, is, bit_at_or a b i, bit_at-lt a i)

pub without_is : (a b : ℕ) → Without a b (bit_xor (bit_or a b) b)
without_is a b = record {
  few = λ i is. omega (arith, is, bit_at_xor (bit_or a b) b i, bit_at_or a b i, bit_at-lt a i, bit_at-lt b i);
  left = λ i is off. omega (arith, is, off, bit_at_xor (bit_or a b) b i, bit_at_or a b i, bit_at-lt a i, bit_at-lt b i);
}

pub on_again : (on : ℕ → Bool) (a b rest : ℕ) → Without a b rest → AllOn on rest → AllOn on b → AllOn on a
on_again on a b rest is left other = λ i set. split (IsTrue (on i)) (bit_at b i) (bit_at-lt b i) (other i) (λ off. left i (is.left i set off))

pub off_again : (on : ℕ → Bool) (a b rest : ℕ) → Without a b rest → AllOff on rest → AllOff on b → AllOff on a
off_again on a b rest is left other = λ i set. split (on i ≡ false) (bit_at b i) (bit_at-lt b i) (other i) (λ off. left i (is.left i set off))

pub cleared_less : (bits k : ℕ) → k < 128 → bit_at bits k ≡ 1 → bit_and bits (bit_not w128 (1 * 2 ^ k % 2 ^ 128)) < bits
cleared_less bits k within set =
    let left : ℕ = bit_and bits (bit_not w128 (1 * 2 ^ k % 2 ^ 128)) in
    elim (cases_eq left bits) [
      | inl same ↦ absurd (let both : bit_at left k ≡ bit_at bits k = ap (λ (b : ℕ). bit_at b k) same in omega (arith, both, set, bit_at_clear_same w128 bits k within))
      | inr other ↦ omega (arith, and_le_l bits (bit_not w128 (1 * 2 ^ k % 2 ^ 128)))
    ]

pub cleared_other : (bits k other : ℕ) → bits < 2 ^ 128 → k < 128 → other ≢ k → bit_at (bit_and bits (bit_not w128 (1 * 2 ^ k % 2 ^ 128))) other ≡ bit_at bits other
cleared_other bits k other fits within apart =
    let left : ℕ = bit_and bits (bit_not w128 (1 * 2 ^ k % 2 ^ 128)) in
    by_order (bit_at left other ≡ bit_at bits other) other 128 (λ low. bit_at_clear_other w128 bits k within other low apart)
    (λ high. bit_at_above left 128 other (omega (arith, fits, and_le_l bits (bit_not w128 (1 * 2 ^ k % 2 ^ 128)))) high ∙ sym (bit_at_above bits 128 other fits high))

-- ---- what is so of each bit, one taken after the other

abbrev EachIn : (ℕ → Type 0) → ℕ → Type 0
EachIn Is bits = (i : ℕ) → bit_at bits i ≡ 1 → Is i

parted : (Is : ℕ → Type 0) (bits left k : ℕ) → bit_at bits k ≡ 1 → bit_at left k ≡ 0 → ((i : ℕ) → i ≢ k → bit_at left i ≡ bit_at bits i) → EachIn Is bits ↔ (Is k × EachIn Is left)
parted Is bits left k set gone kept = (
  λ each. (each k set, λ i is. each i (sym (kept i (λ same. omega (arith, is, gone, ap (bit_at left) same))) ∙ is)),
  λ both i is. elim (cases_eq i k) [
    | inl same ↦ subst Is (sym same) both.0
    | inr other ↦ both.1 i (kept i other ∙ is)
  ],
)

one_more : (X Y Here Bits Left All : Type 0) → (Y → X × Here) → (X → Here → Y) → (Bits ↔ (Here × Left)) → ((X × Bits) ↔ All) → (Y × Left) ↔ All
one_more X Y Here Bits Left All there back part so_far = (
  λ y. so_far.0 ((there y.0).0, part.1 ((there y.0).1, y.1)),
  λ all. let before = so_far.1 all in let here = part.0 before.1 in (back before.0 here.0, here.1),
)

pub both_of_true : (a b c : Bool) → a ≡ (b && c) → IsTrue a → IsTrue b × IsTrue c
both_of_true a b c is both = (left_true b c (sym is ∙ both), right_true b c (sym is ∙ both))

both_of_false : (a b c : Bool) → a ≡ (b || c) → a ≡ false → (b ≡ false) × (c ≡ false)
both_of_false a b c is off = (none_left b c (sym is ∙ off), none_right b c (sym is ∙ off))

-- the formulas of the features whose bits are in the first set, but for those whose bits are in the second
abbrev pub Listed : ℕ → ℕ → List Formula → Type 0
Listed bits rest parts =
    ((on : ℕ → Bool) → (IsTrue (all_true on (conditions_of parts)) × AllOn on rest) ↔ AllOn on bits)
    × ((on : ℕ → Bool) → ((any_true on (conditions_of parts) ≡ false) × AllOff on rest) ↔ AllOff on bits)

pub listed_more : (bits rest left k : ℕ) (parts longer : List Formula) → bit_at rest k ≡ 1 → bit_at left k ≡ 0 → ((i : ℕ) → i ≢ k → bit_at left i ≡ bit_at rest i)
    → longer ≡ parts ++ Var k ∷ [] → Listed bits rest parts → Listed bits left longer
listed_more bits rest left k parts longer set gone kept is so_far =
    let var = λ (on : ℕ → Bool). ap (value on) (condition_of-Var k) in
    let all = λ (on : ℕ → Bool). all_with on parts longer (Var k) is ∙ ap (λ (b : Bool). all_true on (conditions_of parts) && b) (var on) in
    let one = λ (on : ℕ → Bool). one_with on parts longer (Var k) is ∙ ap (λ (b : Bool). any_true on (conditions_of parts) || b) (var on) in (
      λ on. one_more (IsTrue (all_true on (conditions_of parts))) (IsTrue (all_true on (conditions_of longer))) (IsTrue (on k)) (AllOn on rest) (AllOn on left) (AllOn on bits)
          (both_of_true (all_true on (conditions_of longer)) (all_true on (conditions_of parts)) (on k) (all on))
          (λ before here. all on ∙ both_true (all_true on (conditions_of parts)) (on k) before here)
          (parted (λ i. IsTrue (on i)) rest left k set gone kept) (so_far.0 on),
      λ on. one_more (any_true on (conditions_of parts) ≡ false) (any_true on (conditions_of longer) ≡ false) (on k ≡ false) (AllOff on rest) (AllOff on left) (AllOff on bits)
          (both_of_false (any_true on (conditions_of longer)) (any_true on (conditions_of parts)) (on k) (one on))
          (λ before here. one on ∙ neither_true (any_true on (conditions_of parts)) (on k) before here)
          (parted (λ i. on i ≡ false) rest left k set gone kept) (so_far.1 on),
    )

-- ---- truth values

pub same_truth : (a b : Bool) → (IsTrue a → IsTrue b) → (IsTrue b → IsTrue a) → a ≡ b
same_truth true b there back = sym (there refl)
same_truth false true there back = back refl
same_truth false false there back = refl

pub not_true : (a : Bool) → IsTrue (not a) → a ≡ false
not_true true is = sym is
not_true false is = refl

pub by_value : (P : Type 0) (a b : Bool) → (a ≡ b → P) → (a ≡ not b → P) → P
by_value P true true one other = one refl
by_value P true false one other = other refl
by_value P false true one other = other refl
by_value P false false one other = one refl

pub both_by : (f a b : Bool) (A B : Type 0) → (IsTrue f ↔ (A × B)) → (IsTrue a ↔ A) → (IsTrue b ↔ B) → f ≡ (a && b)
both_by f a b A B both one other = same_truth f (a && b)
    (λ is. both_true a b (one.1 (both.0 is).0) (other.1 (both.0 is).1))
    (λ is. both.1 (one.0 (left_true a b is), other.0 (right_true a b is)))

-- one of two is true where their common part is
pub one_by : (f a b : Bool) → (IsTrue a → IsTrue f) → (IsTrue b → IsTrue f) → (IsTrue f → (IsTrue a → ⊥) → IsTrue b) → f ≡ (a || b)
one_by f true b one other back = one refl
one_by f false true one other back = other refl
one_by f false false one other back = same_truth f false (λ is. back is (λ no'. true≢false (sym no'))) (λ no'. absurd (true≢false (sym no')))
