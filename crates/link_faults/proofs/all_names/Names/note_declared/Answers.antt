use Rattle.std.proofs.Common.{◌||◌, ap, ◌∙◌, List, ℕ}
use Rattle.std.specs.List.{list_any}
use Rattle.std.specs.Str.{bytes_eq}
use Rattle.type_tables.specs.declared.entries.CondName.{CondName}
use Rattle.link_faults.specs.Mentioned.{is_declared}
use Rattle.link_faults.proofs.Walks.{any_step}
use Rattle.link_faults.proofs.Noting.{with_name_has}
use Rattle.link_faults.proofs.all_names.Names.note_declared.Goals as goal

pub loop-n-preserved : goal.loop-n-preserved
loop-n-preserved c = λ name.
    let before = list_any (bytes_eq name) c.loop-n.self in
    let x = c.n-item.result in
    any_step (λ (n : CondName). bytes_eq name n.name.items) c.args.names.now (list_any (bytes_eq name) c.args.self.now || is_declared name c.args.names.now) x c.loop-n.n-index
    before (list_any (bytes_eq name) c.note.new.self) c.loop-n-test.true c.n-item.is
    (ap (λ (names : List (List ℕ)). list_any (bytes_eq name) names) c.in_ok-note.ensures
    ∙ with_name_has c.loop-n.self c.deref.result.now name ∙ ap (λ m. before || bytes_eq name m) c.deref.ensures.value)
    (c.loop-n.invariant name)
