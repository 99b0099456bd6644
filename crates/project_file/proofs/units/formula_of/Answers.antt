use Rattle.cond_formula.specs.Conditions.{condition_of}
use Rattle.project_file.proofs.TextLemmas.{refused_text, presence_of}
use Rattle.project_file.proofs.units.formula_of.Goals as goal

pub returns-in-Err : goal.returns-in-Err
returns-in-Err c =
    rw c.refusal_at.ensures
    (refused_text c.tree_is_one.ensures c.args.features.now c.args.text.now c.in-Err.error c.in-Err.ensures c.args.place)

pub returns-in-Ok : goal.returns-in-Ok
returns-in-Ok c = presence_of c.args.features.now c.args.text.now (condition_of c.in-Ok.formula) c.in-Ok.ensures
