-- Numbers of elements.
use Rattle.std.proofs.Common.{◌≡◌, ℕ, Bool, true, false, not, ◌||◌, List, [], ◌∷◌, IsTrue, refl, ap, ◌∙◌}
use Rattle.std.specs.Prelude.{nat_le, Option, Some, None, if◌then◌else◌}
use Rattle.c_text.specs.Token.{PlainToken}
use Rattle.c_types.specs.Types.{PlainType}
use Rattle.c_tree.specs.Trees.{PlainTree}
use Rattle.cond_formula.specs.Conditions.{Condition, value}
use Rattle.conditional.specs.Entries.{Entry, listed, seen, first, some_holds}
use Rattle.conditional.specs.Judgements.{fine, refused, Shows, Judges, JudgesUnder}
use Rattle.conditional.specs.declared.outcomes.Outcomes.{Outcomes}
use Rattle.core_meaning.specs.declared.refusals.TypeKind.TheVariants.{BadConstant}
use Rattle.core_meaning.specs.Checking.{◌>>=◌, give, unless_so}
use Rattle.core_meaning.specs.Constancy.{most_elements, count_by_initialiser}
use Rattle.core_meaning.specs.Declarations.{count_or_one, count_without_size}
use Rattle.operand_types.specs.OperandTypes.{outcome_as}
use Rattle.operand_rules.specs.declared.operands.Refused.{Refused}
use Rattle.operand_rules.specs.PlainOperandTypes.{reason}
use Rattle.cond_sizes.specs.declared.elements.Count.{Count}
use Rattle.cond_sizes.specs.Sizes.{plain_count, given, ShowsCount}
use Rattle.cond_declarators.specs.Elements.{within_limit}
use Rattle.cond_declarators.proofs.Placing.{others_or_one}

none_first : {Q : Type 0} (t some : Bool) (what : Q) (rest : List Q) → (rest ≡ [] → some ≡ false) → (if t then what ∷ rest else rest) ≡ [] → (t || some) ≡ false
none_first true some what rest later is = absurd cc
none_first false some what rest later is = later is

none_hold : {Q : Type 0} (on : ℕ → Bool) (xs : List (Entry Q)) → seen on xs ≡ [] → some_holds on xs ≡ false
none_hold on [] is = refl
none_hold on (x ∷ xs) is = none_first (value on x.when) (some_holds on xs) x.what (seen on xs) (none_hold on xs) is

some_first : {Q : Type 0} (t some : Bool) (what why : Q) (rest : List Q) → (first rest ≡ Some why → some ≡ true) → first (if t then what ∷ rest else rest) ≡ Some why → (t || some) ≡ true
some_first true some what why rest later is = refl
some_first false some what why rest later is = later is

some_hold : {Q : Type 0} (on : ℕ → Bool) (xs : List (Entry Q)) (why : Q) → first (seen on xs) ≡ Some why → some_holds on xs ≡ true
some_hold on [] why is = absurd cc
some_hold on (x ∷ xs) why is = some_first (value on x.when) (some_holds on xs) x.what why (seen on xs) (some_hold on xs why) is

never : {A : Type 0} (b : Bool) → b ≡ false → IsTrue b → A
never true is t = absurd cc
never false is t = absurd cc

-- an initialiser that gives no number counts as one
pub counted_or_one :
    (on : ℕ → Bool) (some none : Condition) (o : Option ℕ) (numbers counts start one all : Outcomes Count Refused) → value on none ≡ some_holds on (listed reason numbers.refused)
    → value on some ≡ not (value on none) → ((n : ℕ) → ShowsCount on (fine n) numbers → ShowsCount on (fine n) counts) → Shows plain_count reason on false (fine (count_or_one o)) start
    → JudgesUnder plain_count reason on some counts start one → Judges plain_count reason on none (fine 1) one all
    → ShowsCount on (given o) numbers → ShowsCount on (fine (count_or_one o)) all
counted_or_one on some none None numbers counts start one all is_none is_some same nothing placed then_placed shown =
    let refusals : value on none ≡ true = is_none ∙ some_hold on (listed reason numbers.refused) tt (shown.shown.held refl) in
    others_or_one plain_count reason on some none (fine 1) start one all counts (fine 1) is_some nothing placed then_placed
    (never (value on some) (is_some ∙ ap not refusals)) (λ t. refl)
counted_or_one on some none (Some n) numbers counts start one all is_none is_some same nothing placed then_placed shown =
    let no_refusals : value on none ≡ false = is_none ∙ none_hold on (listed reason numbers.refused) shown.shown.not_refused in
    others_or_one plain_count reason on some none (fine n) start one all counts (fine 1) is_some nothing placed then_placed
    (λ t. same n shown) (never (value on none) no_refusals)

-- at most as many as an array may have
pub limited : (element : PlainType) (name : PlainToken) (initialiser : PlainTree)
    → within_limit (count_or_one (count_by_initialiser element initialiser)) ≡ outcome_as (λ (n : ℕ). n) (count_without_size element name (Some initialiser))
limited element name initialiser = by (nat_le (count_or_one (count_by_initialiser element initialiser)) most_elements)
  where
    by : (b : Bool) → (if b then fine (count_or_one (count_by_initialiser element initialiser)) else refused tt)
        ≡ outcome_as (λ (n : ℕ). n) (unless_so b BadConstant name >>= (λ u. give (count_or_one (count_by_initialiser element initialiser))))
    by true = refl
    by false = refl
