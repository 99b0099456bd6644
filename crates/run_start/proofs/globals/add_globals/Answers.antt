use Rattle.std.proofs.Common.{◌<◌, ◌≤◌, List, [], length, get_or, map, subst, ap, ◌∙◌}
use Rattle.std.proofs.lemmas.List.{take_all}
use Rattle.core_meaning.specs.declared.program.Global.{Global}
use Rattle.core_meaning.specs.Run.{memory_of}
use Rattle.core_memory.specs.MemoryForms.{plain_memory}
use Rattle.run_start.specs.Starts.{global_object}
use Rattle.run_start.proofs.ObjectLemmas.{object_added}
use Rattle.run_start.proofs.globals.add_globals.Goals as goal

pub loop-global-preserved : goal.loop-global-preserved
loop-global-preserved c =
    let program = c.args.program.now in
    let i = c.loop-global.global-index in
    let item = c.global-item.result in
    let shown = c.deref-global-items.ensures.value in
    record {
      added = object_added [] (global_object program) program.globals.items i item (plain_memory c.loop-global.memory) (plain_memory c.add_global.new.memory) (subst (λ (xs : List Global). i < length xs) shown c.loop-global-test.true) (c.global-item.is ∙ ap (λ xs. get_or xs i item) shown) c.loop-global.invariant.added c.in_ok-add_global.ensures.added;
      structs = c.add_global.ensures.structs ∙ c.loop-global.invariant.structs;
    }

pub returns-clause-added : goal.returns-clause-added
returns-clause-added c =
    let program = c.args.program.now in
    let i = c.loop-global.global-index in
    c.loop-global.invariant.added
    ∙ ap (λ gs. memory_of (map (global_object program) gs)) (take_all i program.globals.items (subst (λ (xs : List Global). length xs ≤ i) c.deref-global-items.ensures.value c.loop-global-test.false))
