use Rattle.std.proofs.Common.{ℕ, sym, ap, ◌∙◌, subst}
use Rattle.std.specs.Prelude.{Some}
use Rattle.cond_formula.specs.Features.{has}
use Rattle.cond_formula.specs.Conditions.{condition_of, value}
use Rattle.c_text.specs.Token.{plain_token}
use Rattle.c_tree.specs.Trees.{none}
use Rattle.choice_trees.specs.ChoiceTrees.{plain_item, item_at}
use Rattle.choice_variants.specs.Variants.{part_at, before}
use Rattle.cond_parameters.specs.Parameters.{IsList}
use Rattle.cond_units.specs.Seen.{seen_unit}
use Rattle.cond_units.specs.Declaring.{Declares}
use Rattle.cond_units.specs.Where.{Where}
use Rattle.cond_units.proofs.OneFunctionDeclarator.{named_here}
use Rattle.cond_units.proofs.function_declarators.read_named.Goals as goal

pub returns-clause-declares : goal.returns-clause-declares
returns-clause-declares g c = λ n admitted.
    let list = item_at (has n) (plain_item c.in-Some-Item.list.now) in
    let judged = g.R.HeadReader.judged c.args.reading.now.reader.now n in
    let ready = g.R.HeadReader.ready c.args.reading.now.reader.now n in
    named_here (has n) c.args.reading.now.base.now (seen_unit (has n) c.args.unit.now) (seen_unit (has n) c.read_listed.new.unit) (value (has n) (condition_of c.args.when.now)) (value (has n) (condition_of c.in_ok-refused.refused))
    judged ready (before (has n) c.args.parts.now none) (plain_token c.args.name.now) list
    (ap (λ part. Some (part_at (has n) part)) (sym c.in-Some-Item.field-0-is) ∙ c.in-Some-Item.ensures (has n))
    (subst (λ (stars : ℕ). Where (value (has n) (condition_of c.args.when.now))
    (Declares (has n) c.args.reading.now.base.now (judged stars (plain_token c.args.name.now) (Some list)) (IsList list × ready))
    (seen_unit (has n) c.args.unit.now) (seen_unit (has n) c.read_listed.new.unit) (value (has n) (condition_of c.in_ok-refused.refused)))
    (c.count_of_stars.ensures (has n)) (c.in_ok-refused.ensures.declares n admitted))
