use Rattle.std.proofs.Common.{map, rules}
use Rattle.c_types.specs.Types.{plain_type}
use Rattle.c_tree.specs.Trees.{PlainTrees, plain_trees}
use Rattle.core_meaning.specs.Checking.{give}
use Rattle.core_meaning.specs.Declarations.{judged_locals}
use Rattle.core_meaning.specs.Entities.{Scope}
use Rattle.core_meaning.specs.Plain.{plain_item}
use Rattle.core_meaning.specs.Statements.{before_items}
use Rattle.plain_declarations.specs.PlainLocals.{plain_local_item}
use Rattle.plain_scope.specs.PlainScope.{plain_scope, uses_of}
use Rattle.plain_scope.specs.Judgements.{RefusedAs}
use Rattle.plain_scope.specs.JudgementLaws.{refused_first}
use Rattle.plain_statements.specs.Items.{locals_given}
use Rattle.plain_statements.specs.Steps.{locals_item}
use Rattle.plain_statements.proofs.starts.locals_item.Goals as goal

pub returns-in_err-declared-clause-judged : goal.returns-in_err-declared-clause-judged
returns-in_err-declared-clause-judged c =
    let scope : Scope = plain_scope c.args.scope.now in
    let slots = map plain_type c.args.slots.now.items in
    let parts : PlainTrees = plain_trees c.args.parts.now in
    let outer : RefusedAs (locals_item scope slots parts) c.in_err-declared.field-0.0 = refused_first (judged_locals scope slots parts) (λ locals. give (record { scope = locals.scope; slots = locals.slots; puts = before_items locals.items })) c.in_err-declared.field-0.0 c.in_err-declared.ensures.judged in
    search (rules, outer)

pub returns-clause-judged : goal.returns-clause-judged
returns-clause-judged c =
    locals_given (plain_scope c.args.scope.now) (plain_scope c.declared_locals.new.scope) (map plain_type c.args.slots.now.items) (map plain_type c.declared_locals.new.slots.items) (plain_trees c.args.parts.now) (map plain_local_item c.in_ok-declared.declared.items) (map plain_item c.in_ok-items.items.items) (uses_of c.args.used.now) (uses_of c.declared_locals.new.used) c.in_ok-declared.ensures.judged c.in_ok-items.ensures
