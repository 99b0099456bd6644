use Rattle.std.proofs.Common.{map, rules}
use Rattle.c_types.specs.Types.{plain_type}
use Rattle.c_tree.specs.Trees.{plain_tree, plain_trees}
use Rattle.core_meaning.specs.Declarations.{judged_locals}
use Rattle.plain_scope.specs.PlainScope.{plain_scope, uses_of}
use Rattle.plain_scope.specs.Judgements.{RefusedAs}
use Rattle.plain_declarations.specs.PlainLocals.{plain_locals}
use Rattle.plain_declarations.specs.Locals.{parts_give, parts_refused}
use Rattle.plain_declarations.proofs.locals.declared_locals.Goals as goal

pub returns-in_err-items-clause-judged : goal.returns-in_err-items-clause-judged
returns-in_err-items-clause-judged c =
    let outer : RefusedAs (judged_locals (plain_scope c.args.scope.now) (map plain_type c.args.slots.now.items) (plain_trees c.args.parts.now)) c.in_err-items.field-0.0 = parts_refused (plain_scope c.args.scope.now) (map plain_type c.args.slots.now.items) (plain_trees c.args.parts.now) (plain_tree c.in_ok-words.words.now) (plain_tree c.in_ok-words.list.now) (plain_tree c.in_ok-words.field-0-2.now) (plain_trees c.in_ok-words-2.words.now) (plain_trees c.in_ok-list.list.now) c.in_err-items.field-0.0 (search rules) c.in_ok-words-2.ensures c.in_ok-list.ensures c.in_err-items.ensures.judged in
    search (rules, outer)

pub returns-clause-judged : goal.returns-clause-judged
returns-clause-judged c =
    parts_give (plain_scope c.args.scope.now) (map plain_type c.args.slots.now.items) (plain_trees c.args.parts.now) (plain_tree c.in_ok-words.words.now) (plain_tree c.in_ok-words.list.now) (plain_tree c.in_ok-words.field-0-2.now) (plain_trees c.in_ok-words-2.words.now) (plain_trees c.in_ok-list.list.now) (plain_locals c.locals_of.new.scope c.locals_of.new.slots.items c.in_ok-items.items.items) (uses_of c.args.used.now) (uses_of c.locals_of.new.used) (search rules) c.in_ok-words-2.ensures c.in_ok-list.ensures c.in_ok-items.ensures.judged
