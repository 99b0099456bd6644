-- What a name stands for, while its definitions are read.
use Rattle.std.proofs.Common.{◌≡◌, ℕ, ◌+◌, ◌<◌, ◌≤◌, Bool, true, false, not, ◌&&◌, if◌then◌else◌, List, [], ◌∷◌, ◌++◌, drop, length, get_or, Option, Some, None, refl, sym, ap, ◌∙◌, append-nil}
use Rattle.std.specs.Option.{option_map}
use Rattle.std.proofs.lemmas.List.{drop_all}
use Rattle.c_text.specs.Token.{PlainToken}
use Rattle.c_text.specs.Directives.{PlainMacro}
use Rattle.c_text.specs.Macros as spec
use Rattle.c_text.specs.Preprocessing.{feature_token}
use Rattle.cond_formula.specs.Conditions.{condition_of, value}
use Rattle.conditional.specs.declared.entries.Guarded.{Guarded}
use Rattle.conditional.specs.Entries.{entries_of, first, seen, under}
use Rattle.macro_table.specs.declared.definitions.Definition.{Definition}
use Rattle.macro_table.specs.PlainDefinitions.{plain_definition}
use Rattle.macro_table.specs.MacroTables.{macro_meaning, meaning_among}
use Rattle.cond_bodies.specs.CondMeanings.{PlainFunction, is_feature, object_of, function_of}
use Rattle.cond_bodies.proofs.ItemLemmas.{seen_next}

-- how far a meaning is found: among the definitions that are left, or it is what was found
pub record FoundSoFar (left : Bool) (meaning rest : Option spec.Meaning) (objects : List (List PlainToken)) (functions : List PlainFunction) : Type 0 where
  pub sought : left ≡ true → (meaning ≡ rest) × (objects ≡ []) × (functions ≡ [])
  pub found : left ≡ false → (objects ≡ object_of meaning) × (functions ≡ function_of meaning)

pub found_start : (on_feature : Bool) (rest : Option spec.Meaning) → FoundSoFar (true && not on_feature) (if on_feature then Some (spec.feature feature_token) else rest) rest [] []
found_start true rest = record { sought = λ e. cc; found = λ e. (refl, refl) }
found_start false rest = record { sought = λ e. (refl, refl, refl); found = λ e. cc }

found_step : (t left : Bool) (m : spec.Meaning) (meaning rest : Option spec.Meaning) (objects more_objects : List (List PlainToken)) (functions more_functions : List PlainFunction) →
    FoundSoFar left meaning (if t then Some m else rest) objects functions →
    more_objects ≡ objects ++ under (t && left) (object_of (Some m)) → more_functions ≡ functions ++ under (t && left) (function_of (Some m)) →
    FoundSoFar (left && not t) meaning rest more_objects more_functions
found_step true true m meaning rest objects more_objects functions more_functions before os fs =
    let now = before.sought refl in
    record {
      sought = λ e. cc;
      found = λ e. (
        os ∙ ap (λ (l : List (List PlainToken)). l ++ object_of (Some m)) now.1 ∙ ap object_of (sym now.0),
        fs ∙ ap (λ (l : List PlainFunction). l ++ function_of (Some m)) now.2 ∙ ap function_of (sym now.0),
      );
    }
found_step false true m meaning rest objects more_objects functions more_functions before os fs =
    let now = before.sought refl in
    record { sought = λ e. (now.0, os ∙ append-nil objects ∙ now.1, fs ∙ append-nil functions ∙ now.2); found = λ e. cc }
found_step true false m meaning rest objects more_objects functions more_functions before os fs =
    let now = before.found refl in
    record { sought = λ e. cc; found = λ e. (os ∙ append-nil objects ∙ now.0, fs ∙ append-nil functions ∙ now.1) }
found_step false false m meaning rest objects more_objects functions more_functions before os fs =
    let now = before.found refl in
    record { sought = λ e. cc; found = λ e. (os ∙ append-nil objects ∙ now.0, fs ∙ append-nil functions ∙ now.1) }

pub meaning_next : (on : ℕ → Bool) (xs : List (Guarded Definition)) (x : Guarded Definition) (i : ℕ) → i < length xs → x ≡ get_or xs i x →
    meaning_among on (entries_of plain_definition (drop i xs))
    ≡ (if value on (condition_of x.when) then Some (macro_meaning (plain_definition x.what)) else meaning_among on (entries_of plain_definition (drop (i + 1) xs)))
meaning_next on xs x i within is =
    ap (λ (l : List PlainMacro). option_map macro_meaning (first l)) (seen_next plain_definition on xs x i within is)
    ∙ by_test (value on (condition_of x.when)) (seen on (entries_of plain_definition (drop (i + 1) xs)))
  where
    by_test : (t : Bool) (rest : List PlainMacro) → option_map macro_meaning (first (if t then plain_definition x.what ∷ rest else rest)) ≡ (if t then Some (macro_meaning (plain_definition x.what)) else option_map macro_meaning (first rest))
    by_test true rest = refl
    by_test false rest = refl

pub definition_step : (on : ℕ → Bool) (xs : List (Guarded Definition)) (x : Guarded Definition) (i : ℕ) (left here after : Bool) (meaning : Option spec.Meaning) (objects more_objects : List (List PlainToken)) (functions more_functions : List PlainFunction) →
    i < length xs → x ≡ get_or xs i x → here ≡ (value on (condition_of x.when) && left) → after ≡ (left && not (value on (condition_of x.when))) →
    FoundSoFar left meaning (meaning_among on (entries_of plain_definition (drop i xs))) objects functions →
    more_objects ≡ objects ++ under here (object_of (Some (macro_meaning (plain_definition x.what)))) → more_functions ≡ functions ++ under here (function_of (Some (macro_meaning (plain_definition x.what)))) →
    FoundSoFar after meaning (meaning_among on (entries_of plain_definition (drop (i + 1) xs))) more_objects more_functions
definition_step on xs x i left here after meaning objects more_objects functions more_functions within is is_here is_after before os fs =
    let m = macro_meaning (plain_definition x.what) in
    let e = meaning_next on xs x i within is in
    let before' = rw e at before in
    rw is_after (found_step (value on (condition_of x.when)) left m meaning (meaning_among on (entries_of plain_definition (drop (i + 1) xs))) objects more_objects functions more_functions before'
    (os ∙ ap (λ (b : Bool). objects ++ under b (object_of (Some m))) is_here) (fs ∙ ap (λ (b : Bool). functions ++ under b (function_of (Some m))) is_here))

pub definition_end : (on : ℕ → Bool) (xs : List (Guarded Definition)) (i : ℕ) (left : Bool) (meaning : Option spec.Meaning) (objects : List (List PlainToken)) (functions : List PlainFunction) → length xs ≤ i →
    FoundSoFar left meaning (meaning_among on (entries_of plain_definition (drop i xs))) objects functions → (objects ≡ object_of meaning) × (functions ≡ function_of meaning)
definition_end on xs i left meaning objects functions past so_far =
    let e = drop_all i xs past in
    let so_far' = rw e at so_far in
    by_test left so_far'
  where
    by_test : (left : Bool) → FoundSoFar left meaning None objects functions → (objects ≡ object_of meaning) × (functions ≡ function_of meaning)
    by_test true all = let now = all.sought refl in (now.1 ∙ ap object_of (sym now.0), now.2 ∙ ap function_of (sym now.0))
    by_test false all = all.found refl

macro_is_none : (o : Option PlainMacro) → is_feature (option_map macro_meaning o) ≡ false
macro_is_none None = refl
macro_is_none (Some m) = by_params m.params where
  by_params : (params : Option (List (List ℕ))) → is_feature (Some (macro_meaning (record m { params = params }))) ≡ false
  by_params None = refl
  by_params (Some params) = refl

pub feature_is : (on_feature : Bool) (o : Option PlainMacro) → on_feature ≡ is_feature (if on_feature then Some (spec.feature feature_token) else option_map macro_meaning o)
feature_is true o = refl
feature_is false o = sym (macro_is_none o)
