use Rattle.std.proofs.Common.{false, ap, ◌∙◌}
use Rattle.cond_formula.specs.Features.{has}
use Rattle.cond_formula.specs.Conditions.{condition_of, value}
use Rattle.plain_objects.specs.PlainStates.{plain_storage}
use Rattle.type_tables.specs.Forms.{sort_form}
use Rattle.type_tables.specs.Tables.{Tables}
use Rattle.type_tables.specs.Seen.{seen_tables}
use Rattle.name_declarations.proofs.Scopes.{names_declared, depth_kept}
use Rattle.name_declarations.proofs.names.declare_as.Goals as goal

pub returns-clause-declared : goal.returns-clause-declared
returns-clause-declared g c = λ n admitted here scope follows token s text is there numbered.
    names_declared (seen_tables (has n) c.args.tables.now) scope follows token s (sort_form c.args.sort) (plain_storage c.args.storage) is there numbered
    c.args.name.now c.is_static-internal.result (value (has n) (condition_of c.args.when.now)) _ _ text c.is_static-internal.ensures here
    (c.in_ok-refused.ensures.exact n admitted) (value (has n) (condition_of c.in_ok-try_clone.field-0))
    (c.in_ok-declare_name.ensures.seen (has n)) (ap (value (has n)) c.in_ok-try_clone.ensures)

pub returns-clause-depth : goal.returns-clause-depth
returns-clause-depth g c =
    ap (λ (t : Tables). t.depth) (c.in_ok-declare_name.ensures.seen (λ n. false))
    ∙ depth_kept (value (λ n. false) (condition_of c.in_ok-try_clone.field-0)) _ _ (seen_tables (λ n. false) c.args.tables.now)
