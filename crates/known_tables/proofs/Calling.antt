-- What a call gives, by what matching refuses.
use Rattle.std.proofs.Common.{◌≡◌, ℕ, zero, suc, Bool, true, false, not, ◌||◌, List, [], ◌∷◌, ◌++◌, Option, None, Some, refl, sym, ap, if◌then◌else◌}
use Rattle.std.specs.Prelude.{slice_get}
use Rattle.cond_formula.specs.Conditions.{condition_of, value}
use Rattle.c_types.specs.Types.{PlainType, void, char, unsigned_char, int, unsigned_int, long, unsigned_long, pointer_to, array_of, structure}
use Rattle.choice_trees.specs.ChoiceTrees.{semicolon}
use Rattle.core_meaning.specs.Typing.{is_complete_struct, is_complete}
use Rattle.core_meaning.specs.Expressions.{is_void}
use Rattle.conditional.specs.declared.entries.Guarded.{Guarded}
use Rattle.conditional.specs.declared.outcomes.Outcomes.{Outcomes}
use Rattle.conditional.specs.Entries.{entries_of, alternatives, listed, seen, first, or_later, under, Sees}
use Rattle.conditional.specs.Judgements.{Checked, fine, refused, bind}
use Rattle.matched_lists.specs.Matched.{matched, StartsWith, behind, AreThere}
use Rattle.operand_types.specs.OperandTypes.{OperandType, structs_up_to, structs_for}
use Rattle.operand_types.specs.Operators.{fitted_type}
use Rattle.operand_rules.specs.declared.operands.OperandType as code
use Rattle.operand_rules.specs.declared.operands.Refused.{Refused}
use Rattle.operand_rules.specs.PlainOperandTypes.{plain_operand_type, reason}
use Rattle.cond_operands.specs.declared.judgements.Passed.{Passed}
use Rattle.cond_operands.specs.Operands.{ShowsOperand, ShowsTest}
use Rattle.expression_types.specs.Known.{Callable}
use Rattle.expression_types.specs.Reading.{Read, no_outcome, all_fit, is_result, called}
use Rattle.cond_nodes.specs.Reads.{ShowsEach, ShowsNext}
use Rattle.type_tables.specs.Forms.{declared_type_form}
use Rattle.type_tables.specs.Tables.{Tables, is_complete_type, value_of}
use Rattle.type_tables.specs.declared.entries.DeclaredType.{DeclaredType}
use Rattle.known_tables.proofs.Showing.{value_shown, refusal_shown}
use Rattle.known_tables.specs.Calls.{refusal_in, fitting}

-- ---- the two lists

module _ (on : ℕ → Bool) where
  pub parameters_there : (xs : List (Guarded DeclaredType)) → AreThere on (λ x ty. declared_type_form x ≡ ty) xs (seen on (entries_of declared_type_form xs))
  parameters_there [] = refl
  parameters_there (x ∷ xs) = by (value on (condition_of x.when)) (parameters_there xs)
    where
      by : (b : Bool) → AreThere on (λ x ty. declared_type_form x ≡ ty) xs (seen on (entries_of declared_type_form xs)) → StartsWith b (λ x ty. declared_type_form x ≡ ty) x.what (if b then declared_type_form x.what ∷ seen on (entries_of declared_type_form xs) else seen on (entries_of declared_type_form xs))
          × AreThere on (λ x ty. declared_type_form x ≡ ty) xs (behind b (if b then declared_type_form x.what ∷ seen on (entries_of declared_type_form xs) else seen on (entries_of declared_type_form xs)))
      by true rest = (refl, rest)
      by false rest = (tt, rest)

  pub arguments_there : (xs : List (Guarded (Outcomes code.OperandType Refused))) (reads : List Read) → ShowsEach on reads xs → AreThere on (λ x r. ShowsOperand on r.outcome x) xs reads
  arguments_there [] reads each = each
  arguments_there (x ∷ xs) reads each = by (value on (condition_of x.when)) (λ rs e. arguments_there xs rs e) reads each
    where
      by : (b : Bool) → ((rs : List Read) → ShowsEach on rs xs → AreThere on (λ x r. ShowsOperand on r.outcome x) xs rs) → (reads : List Read) → ShowsNext on b x.what (λ others. ShowsEach on others xs) reads
          → StartsWith b (λ x r. ShowsOperand on r.outcome x) x.what reads × AreThere on (λ x r. ShowsOperand on r.outcome x) xs (behind b reads)
      by true rest [] each = absurd each
      by true rest (r ∷ rs) each = (each.0, rest rs each.1)
      by false rest reads each = (tt, rest reads each)

abbrev passes : Option (Unit {0}) → Checked (Unit {0}) (Unit {0})
passes None = fine tt
passes (Some why) = refused why

then_passes : (x : Checked (Unit {0}) (Unit {0})) (rest : Checked (Unit {0}) (Unit {0})) (m : Option (Unit {0})) → rest ≡ passes m → bind x (λ fits. rest) ≡ passes (or_later (refusal_in x) m)
then_passes (fine passed) rest m is = is
then_passes (refused why) rest m is = refl

fits_as : (types : List PlainType) (reads : List Read) → all_fit types reads ≡ passes (matched fitting types reads)
fits_as [] [] = refl
fits_as [] (r ∷ rs) = refl
fits_as (ty ∷ types) [] = refl
fits_as (ty ∷ types) (r ∷ rs) = then_passes (bind r.outcome (fitted_type semicolon ty)) (all_fit types rs) (matched fitting types rs) (fits_as types rs)

-- ---- what is shown

pub first_more : {A : Type 0} (xs ys : List A) → first (xs ++ ys) ≡ or_later (first xs) (first ys)
first_more [] ys = refl
first_more (x ∷ xs) ys = refl

module _ (on : ℕ → Bool) (all : Outcomes code.OperandType Refused) where
  by_parts : (o : OperandType) (m : Option (Unit {0})) (test : Checked (Unit {0}) (Unit {0})) (returned : Bool) → test ≡ passes m
      → first (seen on (listed reason all.refused)) ≡ or_later m (first (under (not returned) (tt ∷ []))) → Sees on (Some o) (alternatives plain_operand_type all.fine)
      → ShowsOperand on (if returned then bind test (λ fit. fine o) else no_outcome) all
  by_parts o None test false passed is sees = refusal_shown on all is
  by_parts o (Some why) test false passed is sees = refusal_shown on all is
  by_parts o None test true passed is sees = rw passed (value_shown on all o is sees)
  by_parts o (Some why) test true passed is sees = rw passed (refusal_shown on all is)

  pub called_shown : (f : Callable) (reads : List Read)
      → first (seen on (listed reason all.refused)) ≡ or_later (matched fitting f.parameters reads) (first (under (not (is_result f.result)) (tt ∷ [])))
      → Sees on (Some f.result) (alternatives plain_operand_type all.fine) → ShowsOperand on (called (Some f) reads) all
  called_shown f reads is sees = by_parts f.result (matched fitting f.parameters reads) (all_fit f.parameters reads) (is_result f.result) (fits_as f.parameters reads) is sees

-- what is refused of a test
pub test_refuses : (on : ℕ → Bool) (x : Checked (Unit {0}) (Unit {0})) (all : Outcomes Passed Refused) → ShowsTest on x all → first (seen on (listed reason all.refused)) ≡ refusal_in x
test_refuses on (fine p) all shows = ap first shows.shown.not_refused
test_refuses on (refused why) all shows = shows.shown.held refl

-- ---- what may be returned

up_to : (n : ℕ) (complete : Bool) → is_complete_struct (slice_get (structs_up_to n complete) n) ≡ complete
up_to zero complete = refl
up_to (suc n) complete = up_to n complete

pub returned_as : (t : Tables) (ty : PlainType) → is_void ty ≡ false → is_complete_type t ty ≡ is_result (value_of t ty)
returned_as t void not_void = absurd cc
returned_as t char not_void = refl
returned_as t unsigned_char not_void = refl
returned_as t int not_void = refl
returned_as t unsigned_int not_void = refl
returned_as t long not_void = refl
returned_as t unsigned_long not_void = refl
returned_as t (pointer_to ty) not_void = refl
returned_as t (array_of ty count) not_void = refl
returned_as t (structure n) not_void = sym (up_to n (t.complete n))

pub void_returned : (t : Tables) (ty : PlainType) → is_void ty ≡ true → true ≡ is_result (value_of t ty)
void_returned t ty is = ap (λ (b : Bool). b || is_complete (structs_for (value_of t ty)) ty) (sym is)
