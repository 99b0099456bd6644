use Rattle.std.proofs.Common.{map}
use Rattle.std.proofs.lemmas.Result.{MatchResult-weaker}
use Rattle.c_types.specs.Types.{plain_type}
use Rattle.c_tree.specs.Trees.{plain_tree, plain_trees}
use Rattle.plain_scope.specs.PlainScope.{plain_scope, uses_of}
use Rattle.plain_statements.specs.PlainJudged.{plain_judged_items}
use Rattle.plain_units.specs.Functions.{body_gives, body_refused}
use Rattle.plain_units.proofs.functions.judge_body.Goals as goal

pub returns-clause-judged : goal.returns-clause-judged
returns-clause-judged c =
    let scope = plain_scope c.args.scope.now in
    let result = plain_type c.args.returns.now in
    let slots = map plain_type c.args.slots.now.items in
    let body = plain_tree c.args.body.now in
    let brace = plain_tree c.in_ok-list.field-0-0.now in
    let list = plain_tree c.in_ok-list.list.now in
    let last = plain_tree c.in_ok-list.field-0-2.now in
    let parts = plain_trees c.in_ok-parts.parts.now in
    MatchResult-weaker c.items_in.result c.items_in.ensures.judged
    (λ items g. body_gives scope result slots body brace list last parts (plain_judged_items c.items_in.new.slots.items items.items) (uses_of c.args.used.now) (uses_of c.items_in.new.used) c.in_ok-parts.ensures c.in_ok-list.ensures g)
    (λ error r. body_refused scope result slots body brace list last parts error c.in_ok-parts.ensures c.in_ok-list.ensures r)
