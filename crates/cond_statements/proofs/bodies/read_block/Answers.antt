use Rattle.std.proofs.Common.{true, refl, sym, subst, arith}
use Rattle.cond_formula.specs.Features.{has}
use Rattle.c_types.specs.Types.{void}
use Rattle.c_tree.specs.declared.kinds.Kind.{Kind}
use Rattle.choice_trees.specs.ChoiceTrees.{plain_choices, parts_at}
use Rattle.statement_readings.specs.Laws.{starting}
use Rattle.type_tables.specs.Seen.{seen_tables}
use Rattle.cond_statements.specs.Ready.{Ready}
use Rattle.cond_statements.specs.Readings.{Stand}
use Rattle.cond_statements.proofs.Locals.{body_closed}
use Rattle.type_tables.proofs.LocalsAlone.{seen_same}
use Rattle.cond_statements.proofs.DerivedParts.{block_ready}
use Rattle.cond_statements.proofs.bodies.read_block.Goals as goal

pub returns-clause-same : goal.returns-clause-same
returns-clause-same g c =
    (body_closed c.args.tables.now c.read_parts.new.tables c.close_block.new.tables c.len-locals.result c.in_ok-refused.ensures.outside (omega (arith, c.len-locals.ensures, c.args.tables.now.locals.ok.0)) c.close_block.ensures.same c.close_block.ensures.locals).same

pub returns-clause-locals : goal.returns-clause-locals
returns-clause-locals g c =
    (body_closed c.args.tables.now c.read_parts.new.tables c.close_block.new.tables c.len-locals.result c.in_ok-refused.ensures.outside (omega (arith, c.len-locals.ensures, c.args.tables.now.locals.ok.0)) c.close_block.ensures.same c.close_block.ensures.locals).locals

pub returns-clause-seen : goal.returns-clause-seen
returns-clause-seen g c = λ on.
    let closed =
    body_closed c.args.tables.now c.read_parts.new.tables c.close_block.new.tables c.len-locals.result c.in_ok-refused.ensures.outside (omega (arith, c.len-locals.ensures, c.args.tables.now.locals.ok.0)) c.close_block.ensures.same c.close_block.ensures.locals in
    seen_same on c.args.tables.now c.close_block.new.tables closed.same closed.locals

pub returns-clause-elsewhere : goal.returns-clause-elsewhere
returns-clause-elsewhere g c = λ n admitted h. (c.in_ok-refused.ensures.reads n void admitted).accepted h

pub returns-clause-refused : goal.returns-clause-refused
returns-clause-refused g c = λ n admitted h ty scope slots follows stands derived.
    let parts = parts_at (has n) c.args.kind 0 (plain_choices c.args.parts.now) in
    let block = block_ready derived in
    let by = follows.follows.by in
    let t = seen_tables (has n) c.args.tables.now in
    ((c.in_ok-refused.ensures.reads n ty admitted).arrives h by (starting scope slots) true refl stands (subst (λ (m : Kind). Ready m true parts) (sym block.0) block.1)
    (subst (λ (m : Kind). Stand m true by t scope) (sym block.0) (record { follows = follows; numbers = refl }))).refused_is
