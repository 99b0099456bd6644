use Rattle.std.proofs.Common.{ap, ◌∙◌}
use Rattle.cond_formula.specs.Features.{has}
use Rattle.cond_formula.specs.Conditions.{condition_of, value}
use Rattle.choice_trees.specs.ChoiceTrees.{plain_item, item_at}
use Rattle.type_tables.specs.Seen.{seen_tables}
use Rattle.cond_structs.specs.Gathered.{gathered}
use Rattle.cond_structs.proofs.OneDeclaration.{declaration_stands}
use Rattle.cond_structs.proofs.reading.read_declaration.Goals as goal

pub returns-clause-stands : goal.returns-clause-stands
returns-clause-stands g c = λ n by before number k admitted derived s.
    declaration_stands (has n) c.in_ok-base.base by before number k (seen_tables (has n) c.args.tables.now) (seen_tables (has n) c.declared_base.new.tables) (gathered (has n) c.args.all) (gathered (has n) c.refuse.new.self)
    (gathered (has n) c.in_ok-members.members) (item_at (has n) (plain_item c.args.words.now)) (item_at (has n) (plain_item c.args.list.now)) (value (has n) (condition_of c.args.here.now)) (value (has n) (condition_of c.in_ok-refused.refused))
    (c.in_ok-base.ensures.elsewhere (has n)) (λ h scope f. c.in_ok-base.ensures.declares n scope f admitted h) (c.in_ok-refuse.ensures (has n)) (c.in_ok-refused.ensures (has n))
    (λ m here_is so_far known. c.in_ok-members.ensures.gathers n m (ap (value (has n)) c.in_ok-base.ensures.kept ∙ admitted) (ap (value (has n)) c.in_ok-here.ensures ∙ here_is) (λ h. derived (here_is ∙ h)) so_far known) s
