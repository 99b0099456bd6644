use Rattle.std.proofs.Common.{ℕ, List, [], Bor, get_or}
use Rattle.project_file.proofs.NameLemmas.{first_repeated, names_more, get_or-self, held, not_held}
use Rattle.project_file.proofs.names.first_repeated.Goals as goal

pub returns-then-not-branch : goal.returns-then-not-branch
returns-then-not-branch c =
    let i = c.loop-name.name-index in
    let name : Bor (List ℕ) = get_or c.args.names.now i (record { ref_ptr = (0, 0); now = [] }) in
    first_repeated c.loop-name.earlier c.args.names.now i name c.loop-name-test.true (get_or-self c.args.names.now i (record { ref_ptr = (0, 0); now = [] }) c.loop-name-test.true)
    c.loop-name.invariant (held _ c.in_ok-insert.field-0 c.in_ok-insert.ensures.added c.if-not-branch.true)

pub loop-name-preserved : goal.loop-name-preserved
loop-name-preserved c =
    let i = c.loop-name.name-index in
    let name : Bor (List ℕ) = get_or c.args.names.now i (record { ref_ptr = (0, 0); now = [] }) in
    names_more c.loop-name.earlier c.insert.new.self c.args.names.now i name c.loop-name-test.true (get_or-self c.args.names.now i (record { ref_ptr = (0, 0); now = [] }) c.loop-name-test.true)
    c.loop-name.invariant (not_held _ c.in_ok-insert.field-0 c.in_ok-insert.ensures.added c.if-not-branch.false) c.in_ok-insert.ensures.updates
