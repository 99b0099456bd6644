use Rattle.std.proofs.Common.{◌≡◌, sym, ◌∙◌, arith, take, Some, None}
use Rattle.std.proofs.lemmas.Grind.{common_steps}
use Rattle.std.specs.Prelude.{position}
use Rattle.file_edits.specs.Faults as spec
use Rattle.file_edits.specs.Places.{plain_edit}
use Rattle.file_edits.proofs.FaultLemmas.{overlap-more, overlap-found}
use Rattle.file_edits.proofs.faults.overlap.Goals as goal

pub loop-second-preserved : goal.loop-second-preserved
loop-second-preserved c =
    let e : position (λ other. spec.edits_overlap (plain_edit c.index-edits-second.result) (plain_edit other)) (take c.loop-second.second c.args.edits.now) ≡ None = grind (arith, common_steps) in
    sym (overlap-more c.args.edits.now c.loop-second.second c.index-edits-second.result c.loop-second-test.true c.index-edits-second.is e) ∙ c.loop-second.invariant

pub returns-in-Some-clause-places : goal.returns-in-Some-clause-places
returns-in-Some-clause-places c =
    let e : position (λ other. spec.edits_overlap (plain_edit c.index-edits-second.result) (plain_edit other)) (take c.loop-second.second c.args.edits.now) ≡ Some c.in-Some.first = grind (arith, common_steps) in
    sym (overlap-found c.args.edits.now c.loop-second.second c.index-edits-second.result c.loop-second-test.true c.index-edits-second.is c.in-Some.first e) ∙ c.loop-second.invariant
