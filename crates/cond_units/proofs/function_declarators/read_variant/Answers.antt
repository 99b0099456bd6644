use Rattle.std.proofs.Common.{◌&&◌, Bool, subst}
use Rattle.cond_formula.specs.Features.{has}
use Rattle.cond_formula.specs.Conditions.{condition_of, value}
use Rattle.c_tree.specs.Trees.{none}
use Rattle.choice_variants.specs.Variants.{before}
use Rattle.cond_units.specs.Seen.{seen_unit}
use Rattle.cond_units.specs.Declaring.{Declares}
use Rattle.cond_units.specs.Functions.{HasList, judged_parts}
use Rattle.cond_units.specs.Where.{Where}
use Rattle.cond_units.proofs.function_declarators.read_variant.Goals as goal

pub returns-clause-declares : goal.returns-clause-declares
returns-clause-declares g c = λ n admitted.
    let judged = g.R.HeadReader.judged c.args.reading.now.reader.now n in
    let ready = g.R.HeadReader.ready c.args.reading.now.reader.now n in
    subst (λ parts. Where (value (has n) (condition_of c.args.when.now) && value (has n) (condition_of c.args.variant.now.when))
    (Declares (has n) c.args.reading.now.base.now (judged_parts judged (before (has n) parts none)) (HasList (before (has n) parts none) × ready))
    (seen_unit (has n) c.args.unit.now) (seen_unit (has n) c.read_parts.new.unit) (value (has n) (condition_of c.in_ok-refused.refused))) c.as_slice-parts.ensures.value
    (subst (λ (b : Bool). Where b
    (Declares (has n) c.args.reading.now.base.now (judged_parts judged (before (has n) c.as_slice-parts.result.now none)) (HasList (before (has n) c.as_slice-parts.result.now none) × ready))
    (seen_unit (has n) c.args.unit.now) (seen_unit (has n) c.read_parts.new.unit) (value (has n) (condition_of c.in_ok-refused.refused)))
    (c.in_ok-here.ensures (has n)) (c.in_ok-refused.ensures.declares n admitted))
