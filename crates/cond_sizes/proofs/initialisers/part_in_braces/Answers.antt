use Rattle.std.proofs.Common.{Bool, IsTrue, IfOk, List, sym, subst}
use Rattle.cond_formula.specs.Features.{has}
use Rattle.cond_formula.specs.Conditions.{value}
use Rattle.c_types.specs.Types.{PlainType}
use Rattle.c_tree.specs.declared.kinds.Kind.TheVariants.{Braces}
use Rattle.c_tree.specs.Trees.{PlainTree, none, more, node}
use Rattle.choice_variants.specs.Variants.{part_at}
use Rattle.core_meaning.specs.Constancy.{count_by_initialiser}
use Rattle.cond_sizes.specs.Sizes.{given, ShowsCount}
use Rattle.cond_sizes.proofs.initialisers.part_in_braces.Goals as goal

pub returns-in-Item-clause-shows : goal.returns-in-Item-clause-shows
returns-in-Item-clause-shows g c =
    subst (λ part. IfOk c.list_in_braces.result (λ all. (n : List Bool) (element : PlainType) (brace last : PlainTree) → IsTrue (value (has n) (g.O.Oracle.admits c.args.oracle.now))
    → ShowsCount (has n) (given (count_by_initialiser element (node Braces (more brace (more (part_at (has n) part) (more last none)))))) all))
    (sym c.in-Item.is) c.list_in_braces.ensures.shows
