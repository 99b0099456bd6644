use Rattle.std.proofs.Common.{arith, true, false}
use Rattle.std.proofs.lemmas.Bool.{both_ways}
use Rattle.c_types.specs.Types.{plain_type}
use Rattle.c_types.specs.Tags.{plain_tags}
use Rattle.core_meaning.specs.Linking.{TypesAgree}
use Rattle.plain_link.proofs.FaultLaws.{zip_at}
use Rattle.plain_link.proofs.agreement.parameters_agree.Goals as goal

pub returns-then-not-branch : goal.returns-then-not-branch
returns-then-not-branch c =
    let step = zip_at (TypesAgree (plain_tags c.args.tags.now)) plain_type c.args.a.now c.args.b.now c.loop-i.i c.index-a-i.result c.index-b-i.result (omega arith) (omega arith) c.index-a-i.is c.index-b-i.is in (
      λ h. absurd cc,
      λ h. absurd (both_ways c.in_ok-compatible.field-0 c.if-not-branch.true (c.in_ok-compatible.ensures.1 (step.0 (c.loop-i.invariant.1 h)).0)),
    )

pub loop-i-preserved : goal.loop-i-preserved
loop-i-preserved c =
    let step = zip_at (TypesAgree (plain_tags c.args.tags.now)) plain_type c.args.a.now c.args.b.now c.loop-i.i c.index-a-i.result c.index-b-i.result (omega arith) (omega arith) c.index-a-i.is c.index-b-i.is in (
      λ h. c.loop-i.invariant.0 (step.1 (c.in_ok-compatible.ensures.0 c.if-not-branch.false, h)),
      λ h. (step.0 (c.loop-i.invariant.1 h)).1,
    )
