use Rattle.std.proofs.Common.{sym, subst}
use Rattle.cond_formula.specs.Features.{has}
use Rattle.c_tree.specs.declared.kinds.Kind.TheVariants.{Braces}
use Rattle.c_tree.specs.Trees.{node}
use Rattle.core_meaning.specs.Constancy.{count_by_initialiser}
use Rattle.cond_sizes.specs.Sizes.{given, ShowsCount}
use Rattle.cond_sizes.proofs.Lists.{not_three, three_parts}
use Rattle.cond_sizes.proofs.initialisers.parts_of_braces.Goals as goal

pub returns-in_ok-counts-clause-shows : goal.returns-in_ok-counts-clause-shows
returns-in_ok-counts-clause-shows g c = λ n element admitted.
    let h = three_parts (has n) c.args.parts.now c.index-parts-1.result c.if-parts-eq3.true c.index-parts-1.is in
    subst (λ parts. ShowsCount (has n) (given (count_by_initialiser element (node Braces parts))) c.in_ok-counts.counts) (sym h.2)
    (c.in_ok-counts.ensures.shows n element h.0 h.1 admitted)

pub returns-in_ok-none-clause-shows : goal.returns-in_ok-none-clause-shows
returns-in_ok-none-clause-shows g c = λ n element admitted.
    subst (λ o. ShowsCount (has n) (given o) c.in_ok-none.none) (sym (not_three element (has n) c.args.parts.now c.if-parts-eq3.false)) (c.in_ok-none.ensures (has n))
