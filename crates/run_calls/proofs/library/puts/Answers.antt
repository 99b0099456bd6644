use Rattle.std.proofs.Common.{◌∷◌, [], ap, sym, ◌∙◌}
use Rattle.core_meaning.specs.declared.program.BuiltIn.TheVariants.{Puts}
use Rattle.core_meaning.specs.Values.{pointer, scalar}
use Rattle.core_cells.specs.Forms.{plain_pointer}
use Rattle.core_memory.specs.MemoryForms.{plain_memory}
use Rattle.core_memory.specs.TextForms.{plain_text}
use Rattle.run_machine.specs.Machines.{program_of, built_in_outcome, line_outcome}
use Rattle.run_machine.proofs.MachineLemmas.{come_same}
use Rattle.run_calls.proofs.OutputLemmas.{puts_known, puts_undefined}
use Rattle.run_calls.proofs.TextLemmas.{text_same}
use Rattle.run_calls.proofs.library.puts.Goals as goal

pub returns-in-None : goal.returns-in-None
returns-in-None c =
    let m = c.args.machine.now in
    let q = plain_pointer c.args.pointer.now in
    puts_undefined m q (sym (text_same (program_of m) (plain_memory m.memory) q) ∙ (sym c.in_ok-text_at.ensures ∙ ap plain_text c.in-None.is))

pub returns-in-Some : goal.returns-in-Some
returns-in-Some c =
    let m = c.args.machine.now in
    let q = plain_pointer c.args.pointer.now in
    let bytes = c.in-Some.text.items in
    come_same c.put_line.result (line_outcome c.deref.result.now m) (built_in_outcome Puts (scalar (pointer q) ∷ []) m) c.put_line.new.machine
    c.put_line.ensures
    (ap (λ b. line_outcome b m) c.deref.ensures.value ∙ sym (puts_known m q bytes (sym (text_same (program_of m) (plain_memory m.memory) q) ∙ (sym c.in_ok-text_at.ensures ∙ ap plain_text c.in-Some.is))))
