use Rattle.std.proofs.Common.{◌≡◌, [], ◌∷◌, sym, ap, ◌∙◌, subst}
use Rattle.cond_formula.specs.Features.{has}
use Rattle.cond_formula.specs.Conditions.{condition_of, value}
use Rattle.conditional.specs.Entries.{seen}
use Rattle.choice_trees.specs.ChoiceTrees.{plain_choices, parts_at}
use Rattle.choice_variants.specs.Variants.{shown}
use Rattle.cond_units.specs.Seen.{seen_unit}
use Rattle.cond_units.proofs.OneFunctionDeclarator.{node_here}
use Rattle.cond_units.proofs.function_declarators.read_node.Goals as goal

pub returns-clause-declares : goal.returns-clause-declares
returns-clause-declares g c = λ n admitted.
    let parts = parts_at (has n) c.args.kind 0 (plain_choices c.args.parts.now) in
    node_here (has n) c.args.reading.now.base.now (seen_unit (has n) c.args.unit.now) (seen_unit (has n) c.read_each.new.unit) (value (has n) (condition_of c.args.when.now)) (value (has n) (condition_of c.in_ok-refused.refused))
    (g.R.HeadReader.judged c.args.reading.now.reader.now n) (g.R.HeadReader.ready c.args.reading.now.reader.now n) parts c.args.kind
    (c.in_ok-refused.ensures.declares n parts (ap (value (has n)) c.in_ok-all.ensures.kept ∙ admitted)
    (subst (λ list. seen (has n) (shown (has n) list) ≡ parts ∷ []) (sym c.deref.ensures.value) (c.in_ok-all.ensures.alone n admitted)))
