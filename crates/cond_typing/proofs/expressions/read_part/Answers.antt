use Rattle.std.proofs.Common.{sym, subst}
use Rattle.std.proofs.lemmas.Result.{IfOk-weaker}
use Rattle.cond_formula.specs.Features.{has}
use Rattle.choice_variants.specs.Variants.{part_at}
use Rattle.expression_types.specs.Reading.{read_expression}
use Rattle.cond_nodes.specs.Reads.{ShowsRead}
use Rattle.cond_typing.proofs.expressions.read_part.Goals as goal

pub returns-in-NoStatement-clause-shows : goal.returns-in-NoStatement-clause-shows
returns-in-NoStatement-clause-shows g c =
    IfOk-weaker c.nothing_read.result _ _ (λ z shows n right admitted.
    subst (λ part. ShowsRead (has n) (g.K.Knowledge.callable c.args.known.now n) (read_expression (g.K.Knowledge.known c.args.known.now n) (part_at (has n) part)) z) (sym c.in-NoStatement.is)
    (shows (has n) (g.K.Knowledge.callable c.args.known.now n))) c.nothing_read.ensures
