use Rattle.cond_formula.specs.Features.{has}
use Rattle.cond_formula.specs.Conditions.{condition_of, value}
use Rattle.c_text.specs.Token.{plain_token}
use Rattle.c_tree.specs.Trees.{none}
use Rattle.choice_variants.specs.Variants.{before}
use Rattle.cond_units.specs.Seen.{seen_unit}
use Rattle.cond_units.proofs.OneFunctionDeclarator.{parts_here}
use Rattle.cond_units.proofs.function_declarators.read_parts.Goals as goal

pub returns-clause-declares : goal.returns-clause-declares
returns-clause-declares g c = λ n admitted.
    parts_here (has n) c.args.reading.now.base.now (seen_unit (has n) c.args.unit.now) (seen_unit (has n) c.read_named.new.unit) (value (has n) (condition_of c.args.when.now)) (value (has n) (condition_of c.in_ok-refused.refused))
    (g.R.HeadReader.judged c.args.reading.now.reader.now n) (g.R.HeadReader.ready c.args.reading.now.reader.now n) (before (has n) c.args.parts.now none) (plain_token c.in-Some.name.now) (c.in-Some.ensures (has n)) (c.in_ok-refused.ensures.declares n admitted)
