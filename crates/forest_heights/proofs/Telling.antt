-- Conditions that tell a number.
use Rattle.std.proofs.Common.{◌≡◌, ℕ, suc, ◌+◌, ◌<◌, ◌≤◌, Bool, true, false, ◌&&◌, ◌||◌, if◌then◌else◌, Option, Some, None, List, [], ◌∷◌, ◌++◌, drop, length, get_or, nat_le, nat_lt, subst, refl, sym, ap, ◌∙◌, arith}
use Rattle.std.proofs.lemmas.Bool.Decides.{nat_tests}
use Rattle.std.proofs.lemmas.List.{drop_all, map-append}
use Rattle.cond_formula.specs.declared.formulas.Formula.{Formula}
use Rattle.cond_formula.specs.Conditions.{condition_of, value}
use Rattle.c_tree.specs.declared.kinds.Kind.{Kind}
use Rattle.c_tree.specs.declared.kinds.Kind.TheVariants.{Specifiers}
use Rattle.c_tree.specs.Trees.{PlainTree, PlainTrees, none, more}
use Rattle.c_tree.specs.Heights.{count_stars, several}
use Rattle.choice_trees.specs.declared.trees.Choice.{Choice}
use Rattle.choice_trees.specs.declared.trees.Item.{Item}
use Rattle.choice_trees.specs.ChoiceTrees.{PlainChoices, no_choice, choice, plain_branches, plain_choices, branch_at, parts_at, needs_statement, with_part}
use Rattle.forest_heights.specs.Levels.{TellFrom, Tells, values, counted, some_counts}
use Rattle.forest_heights.proofs.Choosing.{item_of}

-- no more than there are conditions
within_from : (bits : List Bool) (below number : ℕ) → TellFrom below bits number → number ≤ below + length bits
within_from [] below number past = omega (arith, past)
within_from (first ∷ rest) below number tell =
    let h : number ≤ suc below + length rest = within_from rest (suc below) number tell.1 in omega (arith, h)

values_long : (on : ℕ → Bool) (levels : List Formula) → length (values on levels) ≡ length levels
values_long on [] = refl
values_long on (first ∷ rest) = ap suc (values_long on rest)

pub within : (on : ℕ → Bool) (levels : List Formula) (number : ℕ) → Tells on levels number → number ≤ length levels
within on levels number tell =
    let h : number ≤ 0 + length (values on levels) = within_from (values on levels) 0 number tell in
    let e : length (values on levels) ≡ length levels = values_long on levels in
    omega (arith, h, e)

-- ---- one more

-- the conditions with one more under `when`, given whether the number is this one at least
abbrev pub grown : Bool → Bool → List Bool → List Bool
grown here when [] = (here && when) ∷ []
grown here when (first ∷ rest) = (first || (here && when)) ∷ grown first when rest

above : (when : Bool) (n number : ℕ) → (nat_lt n number || (nat_le n number && when)) ≡ nat_lt n ((if when then 1 else 0) + number)
above true n number = grind (arith, nat_tests)
above false n number = grind (arith, nat_tests)

last : (when : Bool) (n number : ℕ) → number ≤ n → (nat_le n number && when) ≡ nat_lt n ((if when then 1 else 0) + number)
last true n number past = grind (arith, nat_tests)
last false n number past = grind (arith, nat_tests)

last_within : (when : Bool) (n number : ℕ) → number ≤ n → ((if when then 1 else 0) + number) ≤ suc n
last_within true n number past = omega (arith, past)
last_within false n number past = omega (arith, past)

grown_tell : (when : Bool) (levels : List Bool) (n number : ℕ) (here : Bool) → here ≡ nat_le n number → TellFrom n levels number → TellFrom n (grown here when levels) ((if when then 1 else 0) + number)
grown_tell when [] n number here is past = (ap (λ (b : Bool). b && when) is ∙ last when n number past, last_within when n number past)
grown_tell when (first ∷ rest) n number here is tell = (
  ap (λ (b : Bool). b || (here && when)) tell.0 ∙ (ap (λ (b : Bool). nat_lt n number || (b && when)) is ∙ above when n number),
  grown_tell when rest (suc n) number first tell.0 tell.1,
)

least : (number : ℕ) → true ≡ nat_le 0 number
least number = grind (arith, nat_tests)

module _ (on : ℕ → Bool) (when : Bool) (levels longer : List Formula) (i : ℕ) (below : Formula) where
  abbrev GrownSoFar : Type 0
  GrownSoFar = values on longer ++ grown (value on (condition_of below)) when (values on (drop i levels)) ≡ grown true when (values on levels)

  pub one_more_told : length levels ≤ i → (highest : Formula) (now : List Formula) → now ≡ longer ++ highest ∷ [] →
      value on (condition_of highest) ≡ (value on (condition_of below) && when) → GrownSoFar →
      (number : ℕ) → Tells on levels number → Tells on now ((if when then 1 else 0) + number)
  one_more_told past highest now is top before number tell =
      let all : values on now ≡ grown true when (values on levels) =
      ap (values on) is ∙ (map-append (λ f. value on (condition_of f)) longer (highest ∷ [])
      ∙ (ap (λ (b : Bool). values on longer ++ b ∷ []) top
      ∙ (ap (λ (rest : List Formula). values on longer ++ grown (value on (condition_of below)) when (values on rest)) (sym (drop_all i levels past))
      ∙ before))) in
      subst (λ bits. TellFrom 0 bits ((if when then 1 else 0) + number)) (sym all) (grown_tell when (values on levels) 0 number true (least number) tell)

-- ---- how many parts are counted

-- the conditions tell what was counted before the rest of the parts
pub record CountedSoFar (on : ℕ → Bool) (only_stars : Bool) (parts rest : PlainChoices) (levels : List Formula) : Type 0 where
  pub before : ℕ
  pub told : Tells on levels before
  pub sum : before + counted on only_stars rest ≡ counted on only_stars parts

moved : (one before rest behind all : ℕ) → behind ≡ one + rest → before + behind ≡ all → (one + before) + rest ≡ all
moved one before rest behind all split total = omega (arith, split, total)

ended : (before rest all : ℕ) → rest ≡ 0 → before + rest ≡ all → before ≡ all
ended before rest all nothing total = omega (arith, nothing, total)

module _ (on : ℕ → Bool) (only_stars : Bool) (parts : List (Choice Item)) (i : ℕ) (levels : List Formula) where
  abbrev pub Counted : ℕ → List Formula → Type 0
  Counted place = CountedSoFar on only_stars (plain_choices parts) (plain_choices (drop place parts))

  pub one_counted : (part : Choice Item) → i < length parts → part ≡ get_or parts i part → (when : Bool) →
      when ≡ some_counts only_stars (branch_at on (plain_branches part.branches.items)) → (longer : List Formula) →
      ((number : ℕ) → Tells on levels number → Tells on longer ((if when then 1 else 0) + number)) → Counted i levels → Counted (i + 1) longer
  one_counted part inside is when same longer grows so_far = record {
    before = (if when then 1 else 0) + so_far.before;
    told = grows so_far.before so_far.told;
    sum = moved (if when then 1 else 0) so_far.before (counted on only_stars (plain_choices (drop (i + 1) parts))) (counted on only_stars (plain_choices (drop i parts))) (counted on only_stars (plain_choices parts))
        (ap (λ (xs : List (Choice Item)). counted on only_stars (plain_choices xs)) (item_of parts part i inside is)
        ∙ ap (λ (b : Bool). (if b then 1 else 0) + counted on only_stars (plain_choices (drop (i + 1) parts))) (sym same)) so_far.sum;
  }

  pub all_counted : length parts ≤ i → Counted i levels → Tells on levels (counted on only_stars (plain_choices parts))
  all_counted past so_far =
      subst (λ n. Tells on levels n)
      (ended so_far.before (counted on only_stars (plain_choices (drop i parts))) (counted on only_stars (plain_choices parts))
      (ap (λ (xs : List (Choice Item)). counted on only_stars (plain_choices xs)) (drop_all i parts past)) so_far.sum)
      so_far.told

-- ---- two at least

bit_told : (b : Bool) → TellFrom 0 (b ∷ []) (if b then 1 else 0)
bit_told true = (refl, omega arith)
bit_told false = (refl, omega arith)

pub second_tells : (on : ℕ → Bool) (words : List Formula) (number : ℕ) (level copy : Formula) → 1 < length words → level ≡ get_or words 1 level → condition_of copy ≡ condition_of level →
    Tells on words number → Tells on (copy ∷ []) (if nat_lt 1 number then 1 else 0)
second_tells on [] number level copy long is same tell = absurd (omega (arith, long))
second_tells on (first ∷ []) number level copy long is same tell = absurd (omega (arith, long))
second_tells on (first ∷ second ∷ rest) number level copy long is same tell =
    subst (λ b. TellFrom 0 (b ∷ []) (if nat_lt 1 number then 1 else 0)) (sym (ap (value on) (same ∙ ap condition_of is) ∙ tell.1.0)) (bit_told (nat_lt 1 number))

one_at_most : (number : ℕ) → number ≤ 1 → false ≡ nat_lt 1 number
one_at_most number few = grind (arith, nat_tests)

pub short_tells : (on : ℕ → Bool) (words : List Formula) (number : ℕ) → length words ≤ 1 → Tells on words number → Tells on [] (if nat_lt 1 number then 1 else 0)
short_tells on words number short tell =
    let few : number ≤ length words = within on words number tell in
    subst (λ (b : Bool). (if b then 1 else 0) ≤ 0) (one_at_most number (omega (arith, few, short))) (omega arith)

-- ---- what is counted

star_or_not : (needed : Bool) (part : Option PlainTree) (rest : PlainTrees) → count_stars (with_part needed part rest) ≡ (if some_counts true part then 1 else 0) + count_stars rest
star_or_not needed (Some part) rest = refl
star_or_not true None rest = refl
star_or_not false None rest = omega arith

pub stars_counted : (on : ℕ → Bool) (kind : Kind) (place : ℕ) (parts : PlainChoices) → counted on true parts ≡ count_stars (parts_at on kind place parts)
stars_counted on kind place no_choice = refl
stars_counted on kind place (choice alternatives rest) =
    ap (λ (n : ℕ). (if some_counts true (branch_at on alternatives) then 1 else 0) + n) (stars_counted on kind (suc place) rest)
    ∙ sym (star_or_not (needs_statement kind place) (branch_at on alternatives) (parts_at on kind (suc place) rest))

abbrev how_many : PlainTrees → ℕ
how_many none = 0
how_many (more first rest) = 1 + how_many rest

word_or_not : (part : Option PlainTree) (rest : PlainTrees) → (if some_counts false part then 1 else 0) + how_many rest ≡ how_many (with_part false part rest)
word_or_not (Some part) rest = refl
word_or_not None rest = omega arith

words_counted : (on : ℕ → Bool) (place : ℕ) (parts : PlainChoices) → counted on false parts ≡ how_many (parts_at on Specifiers place parts)
words_counted on place no_choice = refl
words_counted on place (choice alternatives rest) =
    ap (λ (n : ℕ). (if some_counts false (branch_at on alternatives) then 1 else 0) + n) (words_counted on (suc place) rest)
    ∙ word_or_not (branch_at on alternatives) (parts_at on Specifiers (suc place) rest)

two : (rest : ℕ) → nat_lt 1 (1 + (1 + rest)) ≡ true
two rest = grind (arith, nat_tests)

several_are : (parts : PlainTrees) → (if nat_lt 1 (how_many parts) then 1 else 0) ≡ several parts
several_are none = refl
several_are (more first none) = refl
several_are (more first (more second rest)) = ap (λ (b : Bool). if b then 1 else 0) (two (how_many rest))

pub words_are_several : (on : ℕ → Bool) (parts : PlainChoices) → (if nat_lt 1 (counted on false parts) then 1 else 0) ≡ several (parts_at on Specifiers 0 parts)
words_are_several on parts = ap (λ (n : ℕ). if nat_lt 1 n then 1 else 0) (words_counted on 0 parts) ∙ several_are (parts_at on Specifiers 0 parts)
