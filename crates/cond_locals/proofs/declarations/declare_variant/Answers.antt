use Rattle.std.proofs.Common.{arith, ◌&&◌, Bool, subst}
use Rattle.std.proofs.lemmas.Result.{IfOk-weaker}
use Rattle.cond_formula.specs.Features.{has}
use Rattle.cond_formula.specs.Conditions.{condition_of, value}
use Rattle.c_tree.specs.Trees.{none, more}
use Rattle.choice_variants.specs.Variants.{part_at}
use Rattle.type_tables.specs.Seen.{seen_tables}
use Rattle.conditional_steps.specs.Here.{Here}
use Rattle.cond_locals.specs.Declaring.{DeclaresLocals}
use Rattle.cond_locals.proofs.Parts.{undeclared_parts, parts_here}
use Rattle.cond_locals.proofs.declarations.declare_variant.Goals as goal

pub returns-then-len-ne3-clause-declares : goal.returns-then-len-ne3-clause-declares
returns-then-len-ne3-clause-declares g c =
    IfOk-weaker c.never.result _ _ (λ f off n admitted.
    undeclared_parts (has n) c.args.variant.now.parts.items (value (has n) (condition_of c.args.when.now) && value (has n) (condition_of c.args.variant.now.when)) (seen_tables (has n) c.args.tables.now) (value (has n) (condition_of f))
    (λ count. c.if-len-ne3.true (omega (arith, c.len.ensures, count, c.args.variant.now.parts.ok.0))) (off (has n))) c.never.ensures

pub returns-clause-declares : goal.returns-clause-declares
returns-clause-declares g c = λ n admitted.
    parts_here (has n) c.args.variant.now.parts.items c.index-words.result.now c.index-list.result.now (value (has n) (condition_of c.args.when.now) && value (has n) (condition_of c.args.variant.now.when))
    (seen_tables (has n) c.args.tables.now) (seen_tables (has n) c.declare_two.new.tables) (value (has n) (condition_of c.in_ok-refused.refused))
    (omega (arith, c.len.ensures, c.if-len-ne3.false, c.args.variant.now.parts.ok.0)) c.index-words.ensures c.index-list.ensures
    (λ end. subst (λ (b : Bool). Here b (DeclaresLocals (more (part_at (has n) c.index-words.result.now) (more (part_at (has n) c.index-list.result.now) (more end none))))
    (seen_tables (has n) c.args.tables.now) (seen_tables (has n) c.declare_two.new.tables) (value (has n) (condition_of c.in_ok-refused.refused))) (c.in_ok-here.ensures (has n))
    (c.in_ok-refused.ensures.declares n end admitted))
