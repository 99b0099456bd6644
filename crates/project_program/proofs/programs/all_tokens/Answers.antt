use Rattle.std.proofs.Common.{◌≡◌, ℕ, ◌<◌, List, ◌++◌, [], ◌∷◌, length, map, arith, rules, sym, ap, subst, ◌∙◌}
use Rattle.std.specs.Prelude.{Vec}
use Rattle.std.specs.List.{Contains}
use Rattle.std.specs.declared.alloc.Global.{Global}
use Rattle.std.proofs.lemmas.List.{map-append}
use Rattle.text_edits.specs.Files.{plain_files}
use Rattle.cond_formula.specs.Features.{has}
use Rattle.c_text.specs.Token.{plain_token}
use Rattle.c_text.specs.declared.token.Token.{Token}
use Rattle.project_file.specs.View.{project_view}
use Rattle.project_program.specs.Programs.{present_units, UnitGives, WhyNone}
use Rattle.project_program.specs.Steps.{plain_tokens}
use Rattle.project_program.proofs.ListLaws.{zipped_more}
use Rattle.project_program.proofs.StageLaws.{unit_refused}
use Rattle.project_program.proofs.programs.all_tokens.Goals as goal

pub returns-in_err-tokens : goal.returns-in_err-tokens
returns-in_err-tokens c =
    let inside : c.loop-i.i < length c.in_ok-places.places.items = omega (arith, c.loop-i.invariant.whole) in
    let there : Contains c.in_ok-places.places.items c.index.result.now = (c.loop-i.i, inside, sym c.index.ensures) in
    let present : Contains (present_units (project_view c.args.project.now) (has c.args.c)) c.index.result.now = subst (λ (places : List ℕ). Contains places c.index.result.now) c.in_ok-places.ensures.places there in
    let outer : WhyNone (project_view c.args.project.now) (plain_files c.args.files.now) (has c.args.c) c.in_err-tokens.field-0.0
    = unit_refused (project_view c.args.project.now) (plain_files c.args.files.now) (has c.args.c) c.index.result.now c.in_err-tokens.field-0.0 present c.in_err-tokens.ensures in
    search (rules, outer)

pub loop-i-preserved : goal.loop-i-preserved
loop-i-preserved c =
    let inside : c.loop-i.i < length c.in_ok-places.places.items = omega (arith, c.loop-i.invariant.whole) in
    let all : plain_tokens c.push.new.self.items ≡ plain_tokens c.loop-i.all.items ++ map plain_token c.in_ok-tokens.tokens.items ∷ [] = ap plain_tokens c.in_ok-push.ensures.items ∙ map-append (λ (tokens : Vec Token Global). map plain_token tokens.items) c.loop-i.all.items (c.in_ok-tokens.tokens ∷ []) in
    record {
      whole = c.loop-i.invariant.whole;
      so_far = zipped_more (UnitGives (project_view c.args.project.now) (plain_files c.args.files.now) (has c.args.c)) c.in_ok-places.places.items (plain_tokens c.loop-i.all.items) (plain_tokens c.push.new.self.items) c.loop-i.i c.index.result.now (map plain_token c.in_ok-tokens.tokens.items) inside c.index.ensures c.loop-i.invariant.so_far c.in_ok-tokens.ensures all;
    }
