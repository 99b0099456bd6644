use Rattle.std.proofs.Common.{List, ℕ, Option, Some, None, Bor, IsTrue, sym, subst}
use Rattle.std.specs.Prelude.{◌↔◌, Any, option_map}
use Rattle.text_edits.specs.Files.{plain_files}
use Rattle.cond_formula.specs.Features.{has}
use Rattle.cond_formula.specs.Conditions.{condition_of, value}
use Rattle.project_file.specs.View.{project_view}
use Rattle.plain_pp.specs.Units.{sources_of, file_of}
use Rattle.tied_tokens.specs.Tokens.{plain_file_token, plain_file_tokens}
use Rattle.class_touches.specs.Touches.{IsReadWhile}
use Rattle.class_touches.proofs.Reading.{one-made}
use Rattle.class_touches.proofs.units.read_in_unit.Goals as goal

pub returns-in_ok-any_defined_at-in-Some-clause-read : goal.returns-in_ok-any_defined_at-in-Some-clause-read
returns-in_ok-any_defined_at-in-Some-clause-read g c = λ c' admitted.
    let project = project_view c.args.project.now in
    let s = sources_of project (plain_files c.args.files.now) (has c') in
    let number = file_of project c.args.unit in
    let tokens = c.args.tokens.now in
    let found = value (has c') (condition_of c.in_ok-any_defined_at-in-Some.field-0) in
    subst (λ (name : Option (Bor (List ℕ))). IsTrue found ↔ Any (λ token. IsReadWhile s number token (option_map (λ n. n.now) name)) (plain_file_tokens tokens)) (sym c.in-Some.is)
    (one-made plain_file_token (λ token. IsReadWhile s number token (Some c.in-Some.name.now)) tokens found (c.in_ok-any_defined_at-in-Some.ensures.defined c' admitted))

pub returns-in_ok-any_active-in-None-clause-read : goal.returns-in_ok-any_active-in-None-clause-read
returns-in_ok-any_active-in-None-clause-read g c = λ c' admitted.
    let project = project_view c.args.project.now in
    let s = sources_of project (plain_files c.args.files.now) (has c') in
    let number = file_of project c.args.unit in
    let tokens = c.args.tokens.now in
    let found = value (has c') (condition_of c.in_ok-any_active-in-None.field-0) in
    subst (λ (name : Option (Bor (List ℕ))). IsTrue found ↔ Any (λ token. IsReadWhile s number token (option_map (λ n. n.now) name)) (plain_file_tokens tokens)) (sym c.in-None.is)
    (one-made plain_file_token (λ token. IsReadWhile s number token None) tokens found (c.in_ok-any_active-in-None.ensures.active c' admitted))
