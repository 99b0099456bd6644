use Rattle.std.proofs.Common.{◌<◌, ℕ, subst, sym, ap, ◌∙◌}
use Rattle.core_meaning.specs.Memory.{with_new}
use Rattle.core_meaning.specs.Run.{literal_object}
use Rattle.core_memory.specs.MemoryForms.{plain_memory}
use Rattle.run_start.specs.Starts.{global_objects, text_object, text_type}
use Rattle.run_start.proofs.ObjectLemmas.{object_added, as_many, typed_at}
use Rattle.run_start.proofs.texts.add_texts.Goals as goal

pub add_text-requires : goal.add_text-requires
add_text-requires c =
    let texts = c.args.program.now.literals.items in
    typed_at c.args.texts.now texts c.loop-number.number c.index-texts-number.result c.index.result.now c.requires.types c.loop-number-test.true c.index-texts-number.is c.index.ensures
    ∙ ap text_type (sym c.deref.ensures.value)

pub loop-number-preserved : goal.loop-number-preserved
loop-number-preserved c =
    let program = c.args.program.now in
    let texts = program.literals.items in
    let number = c.loop-number.number in
    record {
      added = object_added (global_objects program) text_object texts number c.index.result.now (plain_memory c.loop-number.memory) (plain_memory c.add_text.new.memory)
          (subst (λ (n : ℕ). number < n) (as_many c.args.texts.now texts c.requires.types) c.loop-number-test.true)
          c.index.ensures c.loop-number.invariant.added
          (c.in_ok-add_text.ensures.added ∙ ap (λ bytes. with_new (plain_memory c.loop-number.memory) (literal_object bytes)) c.deref.ensures.value);
      structs = c.add_text.ensures.structs ∙ c.loop-number.invariant.structs;
    }
