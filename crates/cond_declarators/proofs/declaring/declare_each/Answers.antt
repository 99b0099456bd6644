use Rattle.std.proofs.Common.{◌+◌, map, drop, refl, ap, ◌∙◌, subst}
use Rattle.std.proofs.lemmas.List.{drop_all}
use Rattle.cond_formula.specs.Features.{has}
use Rattle.cond_formula.specs.Conditions.{value}
use Rattle.conditional.proofs.ListLaws.{item_of}
use Rattle.choice_expansions.specs.Expansions.{plain_expansion}
use Rattle.type_tables.specs.Seen.{seen_tables}
use Rattle.cond_declarators.proofs.StructsDeclared.{DeclaredSoFar, ahead, declared_next, declared_end}
use Rattle.cond_declarators.proofs.declaring.declare_each.Goals as goal

pub loop-expansion-init : goal.loop-expansion-init
loop-expansion-init g c = record {
  kept = refl;
  elsewhere = λ on off. refl;
  so_far = λ n scope f words admitted here alone. ahead alone refl (c.nothing-all.ensures (has n));
}

pub loop-expansion-preserved : goal.loop-expansion-preserved
loop-expansion-preserved g c = record {
  kept = c.in_ok-declare_expansion.ensures.kept ∙ c.loop-expansion.invariant.kept;
  elsewhere = λ on off. c.in_ok-declare_expansion.ensures.elsewhere on off ∙ c.loop-expansion.invariant.elsewhere on off;
  so_far = λ n scope f words admitted here alone.
      declared_next (has n) words scope (seen_tables (has n) c.args.tables.now) f (plain_expansion c.expansion-item.result)
      (map plain_expansion (drop (c.loop-expansion.expansion-index + 1) c.args.expansions.now)) (seen_tables (has n) c.loop-expansion.tables) (seen_tables (has n) c.declare_expansion.new.tables)
      c.loop-expansion.all c.declare_expansion.new.all
      (c.in_ok-declare_expansion.ensures.places n (ap (value (has n)) c.loop-expansion.invariant.kept ∙ admitted) here)
      (subst (λ rest. DeclaredSoFar (has n) words scope (seen_tables (has n) c.args.tables.now) f (map plain_expansion rest) (seen_tables (has n) c.loop-expansion.tables) c.loop-expansion.all)
      (item_of c.args.expansions.now c.expansion-item.result c.loop-expansion.expansion-index c.loop-expansion-test.true c.expansion-item.is)
      (c.loop-expansion.invariant.so_far n scope f words admitted here alone));
}

pub returns-clause-declares : goal.returns-clause-declares
returns-clause-declares g c = λ n scope f words admitted here alone.
    declared_end (has n) words scope (seen_tables (has n) c.args.tables.now) f (seen_tables (has n) c.loop-expansion.tables) c.loop-expansion.all
    (subst (λ rest. DeclaredSoFar (has n) words scope (seen_tables (has n) c.args.tables.now) f (map plain_expansion rest) (seen_tables (has n) c.loop-expansion.tables) c.loop-expansion.all)
    (drop_all c.loop-expansion.expansion-index c.args.expansions.now c.loop-expansion-test.false) (c.loop-expansion.invariant.so_far n scope f words admitted here alone))
