use Rattle.std.proofs.Common.{rules, map, length, string_bytes, arith}
use Rattle.std.proofs.lemmas.Bool.Decides.{nat_tests}
use Rattle.std.proofs.lemmas.Grind.{common_steps}
use Rattle.cond_formula.proofs.PrintLaws.{test_text-Var, test_text-Not, test_text-And, test_text-Or, below_feature, below_parts-And, below_parts-Or, below_inner, below_part, parts_text-some}
use Rattle.cond_formula.specs.declared.formulas.Formula.{the_lemmas}
use Rattle.cond_formula.proofs.print.+print.Goals as goal

pub write_joined-write_test-requires : goal.write_joined-write_test-requires
write_joined-write_test-requires t c =
    (search (rules, the_lemmas), below_part (length c.args.names.now) c.args.parts.now c.loop-index.index _ c.loop-index-test.true c.index-parts-index.is c.requires.numbered)

pub write_parts-returns : goal.write_parts-returns
write_parts-returns t c =
    let some = parts_text-some (map string_bytes c.args.names.now) c.args.operator c.args.parts.now (grind (arith, nat_tests)) in
    grind (arith, common_steps)

pub write_test-write_test-requires : goal.write_test-write_test-requires
write_test-write_test-requires t c =
    (search (rules, the_lemmas), below_inner (length c.args.names.now) c.args.formula.now c.in-Not.inner _ c.in-Not.is c.deref.ensures c.requires.numbered)

pub write_test-write_parenthesized-requires : goal.write_test-write_parenthesized-requires
write_test-write_parenthesized-requires t c =
    (search (rules, the_lemmas), below_parts-And (length c.args.names.now) c.args.formula.now c.in-And.parts _ c.in-And.is c.deref-in-And.ensures.value c.requires.numbered)

pub write_test-write_parenthesized-requires-in-Or :
    goal.write_test-write_parenthesized-requires-in-Or
write_test-write_parenthesized-requires-in-Or t c =
    (search (rules, the_lemmas), below_parts-Or (length c.args.names.now) c.args.formula.now c.in-Or.parts _ c.in-Or.is c.deref-in-Or.ensures.value c.requires.numbered)

pub write_test-returns-in_ok-write_defined-in-Var :
    goal.write_test-returns-in_ok-write_defined-in-Var
write_test-returns-in_ok-write_defined-in-Var t c =
    let text = test_text-Var c.args.names.now c.args.formula.now c.in-Var.feature c.index-names-feature.result c.in-Var.is (below_feature (length c.args.names.now) c.args.formula.now c.in-Var.feature c.in-Var.is c.requires.numbered) c.index-names-feature.is in
    grind (arith, common_steps)

pub write_test-returns-in_ok-write_test-in-Not : goal.write_test-returns-in_ok-write_test-in-Not
write_test-returns-in_ok-write_test-in-Not t c =
    let text = test_text-Not (map string_bytes c.args.names.now) c.args.formula.now c.in-Not.inner c.deref.result.now c.in-Not.is c.deref.ensures in
    grind (arith, common_steps)

pub write_test-returns-in_ok-write_parenthesized-in-And :
    goal.write_test-returns-in_ok-write_parenthesized-in-And
write_test-returns-in_ok-write_parenthesized-in-And t c =
    let text = test_text-And (map string_bytes c.args.names.now) c.args.formula.now c.in-And.parts c.deref-in-And.result.now c.in-And.is c.deref-in-And.ensures.value in
    grind (arith, common_steps)

pub write_test-returns-in_ok-write_parenthesized-in-Or :
    goal.write_test-returns-in_ok-write_parenthesized-in-Or
write_test-returns-in_ok-write_parenthesized-in-Or t c =
    let text = test_text-Or (map string_bytes c.args.names.now) c.args.formula.now c.in-Or.parts c.deref-in-Or.result.now c.in-Or.is c.deref-in-Or.ensures.value in
    grind (arith, common_steps)
