use Rattle.std.proofs.Common.{◌≡◌, ◌∙◌, ap, sym, subst, IsTrue}
use Rattle.cond_formula.specs.Features.{has}
use Rattle.cond_formula.specs.Conditions.{condition_of, value}
use Rattle.text_edits.specs.Files.{plain_files}
use Rattle.project_file.specs.View.{project_view}
use Rattle.choice_trees.specs.Leaves.{forest_leaves}
use Rattle.cond_tokens.specs.declared.tokens.CondStream.{CondStream}
use Rattle.choice_parser.specs.Units.{numbered_at}
use Rattle.project_check.proofs.UnitLemmas.{unit_parsed, parsed_leaves}
use Rattle.project_check.proofs.unit_forests.parse_unit.Goals as goal

pub returns-clause-parsed : goal.returns-clause-parsed
returns-clause-parsed g c = λ c' admitted.
    let there : IsTrue (value (has c') (g.O.Oracle.admits c.stream_of.new.oracle)) = ap (value (has c')) c.in_ok-stream.ensures.kept ∙ admitted in
    unit_parsed (has c') (project_view c.args.project.now) (plain_files c.args.files.now) c.args.place c.in_ok-stream.stream (value (has c') (condition_of c.in_ok-unit.unit.stream.refused)) (value (has c') (condition_of c.in_ok-unit.unit.treeless)) c.in_ok-unit.unit.forest
    (c.in_ok-stream.ensures.streams c' admitted) (ap (λ (s : CondStream). value (has c') (condition_of s.refused)) c.in_ok-unit.ensures.stream) (c.in_ok-unit.ensures.parsed c' there)

pub returns-clause-leaves : goal.returns-clause-leaves
returns-clause-leaves g c = λ c' admitted with_tree.
    let there : IsTrue (value (has c') (g.O.Oracle.admits c.stream_of.new.oracle)) = ap (value (has c')) c.in_ok-stream.ensures.kept ∙ admitted in
    let unit = c.in_ok-unit.unit in
    subst (λ (s : CondStream). forest_leaves (has c') unit.forest ≡ numbered_at (has c') 0 s.tokens.items) (sym c.in_ok-unit.ensures.stream)
    (parsed_leaves (has c') c.in_ok-stream.stream (value (has c') (condition_of unit.treeless)) unit.forest (c.in_ok-unit.ensures.parsed c' there) with_tree)
