use Rattle.std.proofs.Common.{◌≡◌, List, [], ◌∷◌, length, string_bytes, String, codes, All, IsTrue, ap, ◌∙◌, refl, arith}
use Rattle.std.proofs.lemmas.List.Elements.{All-nil, All-cons}
use Rattle.std.specs.declared.alloc.Global.{Global}
use Rattle.library_tests.proofs.FormulaLaws.{feature_below}
use Rattle.c_names.specs.Names.{is_new_name}
use Rattle.library_tests.proofs.formulas.prints_parentheses_where_operators_nest.Goals as goal

pub print_if-requires-clause-numbered : goal.print_if-requires-clause-numbered
print_if-requires-clause-numbered g c =
    let two : length c.deref.result.now ≡ 2 = ap length (c.deref.ensures.value ∙ c.in_ok-names.ensures.items) in
    rw two (c.in_ok-either.ensures.below 2 (c.in_ok-b_alone.ensures.below 2 (c.in_ok-without_a.ensures.below 2 (feature_below 2 0 (omega arith))) (feature_below 2 1 (omega arith))) (feature_below 2 0 (omega arith)))

abbrev IsNamed : String Global → Type 0
IsNamed name = IsTrue (is_new_name (string_bytes name))

named : (names : List (String Global)) (a b : String Global) → names ≡ a ∷ b ∷ [] → string_bytes a ≡ codes "A" → string_bytes b ≡ codes "B" → All IsNamed names
named names a b is is_a is_b =
    rw is (All-cons IsNamed a (b ∷ []) (rw is_a refl) (All-cons IsNamed b [] (rw is_b refl) (All-nil IsNamed)))

pub print_if-requires-clause-lawful : goal.print_if-requires-clause-lawful
print_if-requires-clause-lawful g c =
    named c.deref.result.now c.in_ok-from_str.field-0 c.in_ok-from_str-2.field-0 (c.deref.ensures.value ∙ c.in_ok-names.ensures.items) c.in_ok-from_str.ensures.ok c.in_ok-from_str-2.ensures.ok
