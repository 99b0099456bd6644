use Rattle.std.proofs.Common.{ℕ, ◌<◌, List, IsTrue, length, map, take, refl, ap, sym, subst, ◌∙◌, rules, arith}
use Rattle.std.specs.Prelude.{◌↔◌, option_map}
use Rattle.text_edits.specs.Files.{plain_files}
use Rattle.cond_formula.specs.Features.{has}
use Rattle.cond_formula.specs.Conditions.{condition_of, value}
use Rattle.cond_formula.specs.ConditionLaws.{condition_of-False}
use Rattle.cond_formula.specs.declared.formulas.Formula.{False}
use Rattle.project_file.specs.View.{project_view, unit_view}
use Rattle.project_program.specs.Programs.{present_from}
use Rattle.tied_tokens.specs.Tokens.{plain_file_tokens}
use Rattle.class_touches.specs.Units.{IsReadInUnits}
use Rattle.class_touches.proofs.Present.{next-present, all-present}
use Rattle.class_touches.proofs.Reading.{in-no-units, unit-more, in-all-units}
use Rattle.class_touches.proofs.units.read_in_project.Goals as goal

pub loop-unit-init : goal.loop-unit-init
loop-unit-init g c = record {
  whole = search rules;
  kept = refl;
  read = λ c' admitted.
      in-no-units (project_view c.args.project.now) (plain_files c.args.files.now) (option_map (λ n. n.now) c.args.name) c' (plain_file_tokens c.args.tokens.now)
      (value (has c') (condition_of False)) (ap (value (has c')) condition_of-False);
}

pub loop-unit-preserved : goal.loop-unit-preserved
loop-unit-preserved g c =
    let units = c.args.project.now.units.items in
    let view = project_view c.args.project.now in
    let files = plain_files c.args.files.now in
    let tokens = plain_file_tokens c.args.tokens.now in
    let name = option_map (λ n. n.now) c.args.name in
    let k = c.loop-unit.unit in
    let unit = c.index.result.now in
    let inside : k < length units = omega (arith, c.loop-unit.invariant.whole) in
    record {
      whole = c.loop-unit.invariant.whole;
      kept = c.in_ok-here.ensures.kept ∙ c.loop-unit.invariant.kept;
      read = λ c' admitted.
          let there : IsTrue (value (has c') (g.O.Oracle.admits c.loop-unit.oracle)) = ap (value (has c')) c.loop-unit.invariant.kept ∙ admitted in
          subst (λ (us : List ℕ). IsTrue (value (has c') (condition_of c.in_ok-found.found)) ↔ IsReadInUnits view files tokens name c' us) (sym (next-present (has c') units k unit inside c.index.ensures))
          (unit-more view files name c' tokens (present_from (has c') 0 (map unit_view (take k units))) k (value (has c') (condition_of c.loop-unit.found)) (value (has c') (condition_of unit.when))
          (value (has c') (condition_of c.in_ok-here.here)) (value (has c') (condition_of c.in_ok-found.found)) (c.in_ok-found.ensures (has c')) (c.loop-unit.invariant.read c' admitted) (c.in_ok-here.ensures.read c' there));
    }

pub returns-clause-read : goal.returns-clause-read
returns-clause-read g c = λ c' admitted.
    let units = c.args.project.now.units.items in
    let k = c.loop-unit.unit in
    in-all-units (project_view c.args.project.now) (plain_files c.args.files.now) (option_map (λ n. n.now) c.args.name) c' (plain_file_tokens c.args.tokens.now) (value (has c') (condition_of c.loop-unit.found))
    (present_from (has c') 0 (map unit_view (take k units))) (all-present (has c') units k (omega (arith, c.loop-unit.invariant.whole))) (c.loop-unit.invariant.read c' admitted)
