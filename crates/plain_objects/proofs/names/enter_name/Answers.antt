use Rattle.std.proofs.Common.{ℕ, List, ap, ◌∙◌}
use Rattle.core_meaning.specs.Entities as entities
use Rattle.core_meaning.specs.Entities.{Table, with_entry}
use Rattle.plain_scope.specs.PlainScope.{plain_scope, plain_file_name}
use Rattle.plain_objects.specs.PlainStates.{plain_names, plain_order}
use Rattle.plain_objects.proofs.names.enter_name.Goals as goal

pub returns : goal.returns
returns c =
    let changed : Table entities.FileName → List (List ℕ) → entities.Scope = λ names order. record (plain_scope c.args.scope.now) { file_names = names; order = order } in
    ap (λ names. changed names (plain_order c.append_name.new.order.items)) c.in_ok-enter.ensures
    ∙ ap (changed (with_entry (plain_names c.args.scope.now.file_names) c.args.name.now (plain_file_name c.args.entry))) c.in_ok-append_name.ensures
