use Rattle.std.proofs.Common.{◌≡◌, ◌-◌, ◌+◌, ◌<◌, length, reverse, take, arith, ap, ◌∙◌}
use Rattle.core_meaning.specs.Memory.{with_all_ended}
use Rattle.core_memory.specs.MemoryForms.{plain_memory}
use Rattle.run_machine.proofs.ObjectLemmas.{end_one_more}
use Rattle.run_machine.proofs.objects.end_all.Goals as goal

pub loop-left-preserved : goal.loop-left-preserved
loop-left-preserved c =
    let objects = c.args.objects.now in
    let m = plain_memory c.loop-left.memory in
    let i = c.loop-left.left - 1 in
    let next : i + 1 ≡ c.loop-left.left = omega (arith, c.loop-left-test.true) in
    let within : i < length objects = omega (arith, c.loop-left-test.true, c.loop-left.invariant.within) in
    record {
      within = omega (arith, c.loop-left.invariant.within);
      ended =
          ap (λ now. with_all_ended now (reverse (take i objects))) c.end.ensures.ended
          ∙ (end_one_more m objects i within
          ∙ (ap (λ k. with_all_ended m (reverse (take k objects))) next
          ∙ c.loop-left.invariant.ended));
      structs = c.end.ensures.structs ∙ c.loop-left.invariant.structs;
    }

pub returns-clause-ended : goal.returns-clause-ended
returns-clause-ended c =
    let none : 0 ≡ c.loop-left.left = omega (arith, c.loop-left-test.false) in
    ap (λ k. with_all_ended (plain_memory c.loop-left.memory) (reverse (take k c.args.objects.now))) none
    ∙ c.loop-left.invariant.ended
