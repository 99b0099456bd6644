-- Operators make of operands what they make of the operands' types.
use Rattle.std.proofs.Common.{◌≡◌, ℕ, Bool, true, List, refl, sym, ap, subst, ◌∙◌}
use Rattle.std.specs.Prelude.{Option, Some, None, option_map}
use Rattle.c_types.specs.Types.{PlainType}
use Rattle.core_meaning.specs.Program.{update}
use Rattle.core_meaning.specs.Checking.{Checked, ◌>>=◌}
use Rattle.core_meaning.specs.Entities.{Struct, Scope}
use Rattle.core_meaning.specs.Typing.{Operand, Typed, loaded}
use Rattle.core_meaning.specs.Expressions.{prefixed, stepped, cast_to, combined_by, indexed, written_place, assignment, chosen, condition_value, passed}
use Rattle.c_types.specs.Integers.{is_integer}
use Rattle.operand_types.specs.OperandTypes.{OperandType, struct_in, is_known_complete, renumbered, type_of_operand, type_of_value, outcome_as, structs_with, structs_for, scope_with, asked_of, any_core, an_operand, a_value}
use Rattle.operand_types.specs.Operators.{same_number}
use Rattle.operand_types.specs.Laws.{KeepsApart, OperatorsKeepTypes, TypesAreKept}
use Rattle.operand_types.proofs.Renumbered.{integer_no_struct, struct_by, Alike, alike_for}
use Rattle.operand_types.proofs.Both.{Both, both_as, both_weaker, Any}
use Rattle.operand_types.proofs.Operators.{SameOperand, SameValue, value_same, loads_same, prefixes_same, steps_same, casts_same, combines_same, indexes_same, assigns_same, chooses_same, tests_same, passes_same}

abbrev nothing_of : {A : Type 0} → A → Unit {0}
nothing_of x = tt

-- the structs of the operand that is asked for, by the first one's struct
abbrev asked_structs : Option ℕ → Bool → List Struct → List Struct
asked_structs (Some n) complete second = structs_with (Some n) complete
asked_structs None complete second = second

asked_is : (o p : OperandType) (m : Option ℕ) → struct_in o.ty ≡ m
    → structs_for (elim m as (λ x. OperandType) [ Some n ↦ o | None ↦ p ]) ≡ asked_structs m o.has_complete_struct (structs_for p)
asked_is o p (Some n) h = ap (λ k. structs_with k o.has_complete_struct) h
asked_is o p None h = refl

asked : (o p : OperandType) → structs_for (asked_of o p) ≡ asked_structs (struct_in o.ty) o.has_complete_struct (structs_for p)
asked o p = asked_is o p (struct_in o.ty) refl

module _ (by : ℕ → ℕ) (structs : List Struct) (s t : PlainType) where
  -- the types of a first and a second operand
  abbrev first_type : Bool → OperandType
  first_type null = record { ty = renumbered by s; category = Rattle.operand_types.specs.OperandTypes.rvalue; is_null = null; has_complete_struct = is_known_complete structs (struct_in s) }

  first_asked : (second : List Struct) (m : Option ℕ) (k : Option ℕ) → k ≡ option_map by m
      → is_known_complete (structs_with k (is_known_complete structs m)) k ≡ is_known_complete structs m
      → is_known_complete structs m ≡ is_known_complete (asked_structs k (is_known_complete structs m) second) k
  first_asked second m (Some n) h known = sym known
  first_asked second None None h known = refl
  first_asked second (Some n) None h known = sym known

  pub first_alike : (second : List Struct) → Alike by structs (asked_structs (struct_in (renumbered by s)) (is_known_complete structs (struct_in s)) second) s
  first_alike second = record {
    known = first_asked second (struct_in s) (struct_in (renumbered by s)) (struct_by by s) (sym (alike_for by structs s).known);
  }

  pub second_alike : struct_in s ≡ None
      → Alike by structs (asked_structs (struct_in (renumbered by s)) (is_known_complete structs (struct_in s)) (structs_with (struct_in (renumbered by t)) (is_known_complete structs (struct_in t)))) t
  second_alike h = subst (λ k. Alike by structs (asked_structs k (is_known_complete structs (struct_in s)) (structs_with (struct_in (renumbered by t)) (is_known_complete structs (struct_in t)))) t)
      (sym (struct_by by s ∙ ap (option_map by) h)) (alike_for by structs t)

module _ (by : ℕ → ℕ) (keeps : KeepsApart by) (scope : Scope) where
  abbrev operand_of : Operand → OperandType
  operand_of x = type_of_operand by scope.structs x

  abbrev value_of : Typed → OperandType
  value_of x = type_of_value by scope.structs x

  -- judgements that come to operands of one type
  seen_so : (others : List Struct) (m n : Checked Operand) → Both (SameOperand by scope others) m n
      → outcome_as (type_of_operand by scope.structs) m ≡ outcome_as (type_of_operand same_number others) n
  seen_so others m n both = both_as (type_of_operand by scope.structs) (type_of_operand same_number others) m n both

  tested_so : {A B : Type 0} (m : Checked A) (n : Checked B) → Both Any m n → outcome_as nothing_of m ≡ outcome_as nothing_of n
  tested_so m n both = both_as nothing_of nothing_of m n (both_weaker Any (λ x y. nothing_of x ≡ nothing_of y) m n both (λ x y h. refl))

  known_of : (x : Operand) → Alike by scope.structs (structs_for (operand_of x)) x.ty
  known_of x = alike_for by scope.structs x.ty

  first_known : (x y : Typed) → Alike by scope.structs (structs_for (asked_of (value_of x) (value_of y))) x.ty
  first_known x y = subst (λ l. Alike by scope.structs l x.ty) (sym (asked (value_of x) (value_of y))) (first_alike by scope.structs x.ty y.ty (structs_for (value_of y)))

  second_known : (x y : Typed) → struct_in x.ty ≡ None → Alike by scope.structs (structs_for (asked_of (value_of x) (value_of y))) y.ty
  second_known x y h = subst (λ l. Alike by scope.structs l y.ty) (sym (asked (value_of x) (value_of y))) (second_alike by scope.structs x.ty y.ty h)

  number_known : (x y : Typed) → is_integer x.ty ≡ true → Alike by scope.structs (structs_for (asked_of (value_of x) (value_of y))) y.ty
  number_known x y h = second_known x y (integer_no_struct x.ty h)

  pub operators_keep_types : OperatorsKeepTypes by scope
  operators_keep_types = record {
    loads = λ at x. both_as (type_of_value by scope.structs) (type_of_value same_number (structs_for (operand_of x))) (loaded scope x) (loaded (scope_with (structs_for (operand_of x))) (an_operand at (operand_of x)))
        (both_weaker (SameValue by scope (structs_for (operand_of x))) (λ v w. type_of_value by scope.structs v ≡ type_of_value same_number (structs_for (operand_of x)) w)
        (loaded scope x) (loaded (scope_with (structs_for (operand_of x))) (an_operand at (operand_of x)))
        (loads_same by scope (structs_for (operand_of x)) at x (known_of x)) (value_same by scope (structs_for (operand_of x))));
    prefixes = λ sign x. seen_so (structs_for (operand_of x)) (prefixed scope sign x) (prefixed (scope_with (structs_for (operand_of x))) sign (an_operand sign (operand_of x)))
        (prefixes_same by scope (structs_for (operand_of x)) sign x (known_of x));
    steps = λ sign make x. seen_so (structs_for (operand_of x)) (stepped scope make sign x) (stepped (scope_with (structs_for (operand_of x))) update sign (an_operand sign (operand_of x)))
        (steps_same by scope (structs_for (operand_of x)) keeps make update sign sign x (known_of x));
    casts = λ bracket ty x h. seen_so (structs_for (value_of x)) (cast_to bracket x ty) (cast_to bracket (a_value (value_of x)) ty)
        (casts_same by scope (structs_for (value_of x)) keeps bracket ty any_core x h);
    combines = λ kind sign x y. seen_so (structs_for (asked_of (value_of x) (value_of y))) (combined_by scope kind sign x y)
        (combined_by (scope_with (structs_for (asked_of (value_of x) (value_of y)))) kind sign (a_value (value_of x)) (a_value (value_of y)))
        (combines_same by scope (structs_for (asked_of (value_of x) (value_of y))) keeps kind sign any_core any_core x y (first_known x y) (number_known x y));
    indexes = λ bracket x y. seen_so (structs_for (asked_of (value_of x) (value_of y))) (indexed scope bracket x y)
        (indexed (scope_with (structs_for (asked_of (value_of x) (value_of y)))) bracket (a_value (value_of x)) (a_value (value_of y)))
        (indexes_same by scope (structs_for (asked_of (value_of x) (value_of y))) keeps bracket any_core any_core x y (first_known x y) (number_known x y));
    assigns = λ sign x y. seen_so (structs_for (operand_of x)) (written_place scope sign x >>= (λ place. assignment scope sign x place y))
        (written_place (scope_with (structs_for (operand_of x))) sign (an_operand sign (operand_of x))
        >>= (λ place. assignment (scope_with (structs_for (operand_of x))) sign (an_operand sign (operand_of x)) place (a_value (value_of y))))
        (assigns_same by scope (structs_for (operand_of x)) keeps sign x any_core y (known_of x));
    chooses = λ question condition x y null. seen_so (structs_for (asked_of (value_of x) (value_of y))) (chosen question condition x y)
        (chosen question any_core (a_value (value_of x)) (a_value (value_of y)))
        (chooses_same by scope (structs_for (asked_of (value_of x) (value_of y))) keeps question condition any_core any_core x y (first_known x y) (second_known x y) null);
    tests = λ at first x. tested_so (condition_value scope at x) (condition_value (scope_with (structs_for (operand_of x))) first (an_operand first (operand_of x)))
        (tests_same by scope (structs_for (operand_of x)) keeps at first first x (known_of x));
    fits = λ at first ty x. tested_so (passed scope ty x at) (passed (scope_with (structs_for (operand_of x))) (renumbered by ty) (an_operand first (operand_of x)) first)
        (passes_same by scope (structs_for (operand_of x)) keeps at first first ty x (known_of x));
  }

pub types_are_kept_lem : TypesAreKept
types_are_kept_lem by keeps scope = operators_keep_types by keeps scope
