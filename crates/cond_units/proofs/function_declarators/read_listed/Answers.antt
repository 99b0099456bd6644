use Rattle.std.proofs.Common.{sym, subst}
use Rattle.std.specs.Prelude.{Some}
use Rattle.cond_formula.specs.Features.{has}
use Rattle.cond_formula.specs.Conditions.{condition_of, value}
use Rattle.conditional.specs.Entries.{entries_of, Stands}
use Rattle.c_text.specs.Token.{plain_token}
use Rattle.choice_trees.specs.ChoiceTrees.{plain_item, item_at}
use Rattle.type_tables.specs.Forms.{declared_type_form}
use Rattle.cond_parameters.specs.Parameters.{IsList}
use Rattle.cond_units.specs.Seen.{seen_unit}
use Rattle.cond_units.proofs.OneFunctionDeclarator.{listed_here}
use Rattle.cond_units.proofs.function_declarators.read_listed.Goals as goal

pub returns-clause-declares : goal.returns-clause-declares
returns-clause-declares g c = λ n admitted.
    listed_here (has n) c.args.reading.now.base.now (seen_unit (has n) c.args.unit.now) (seen_unit (has n) c.read_by_types.new.unit) (value (has n) (condition_of c.args.when.now)) (value (has n) (condition_of c.in_ok-refused.refused))
    (g.R.HeadReader.judged c.args.reading.now.reader.now n c.args.head.now.stars (plain_token c.args.head.now.name.now) (Some (item_at (has n) (plain_item c.args.head.now.list.now))))
    (IsList (item_at (has n) (plain_item c.args.head.now.list.now)) × g.R.HeadReader.ready c.args.reading.now.reader.now n)
    (λ off. c.in_ok-refused.ensures.elsewhere n admitted off)
    (λ on ty stands. c.in_ok-refused.ensures.declares n admitted on ty
    (subst (λ list. Stands (has n) ty (entries_of declared_type_form list)) (sym c.as_slice-alternatives.ensures.value) stands))
