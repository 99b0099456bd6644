use Rattle.std.proofs.Common.{map, ap, sym, ◌∙◌, option_map}
use Rattle.std.specs.Option.{option_copied}
use Rattle.core_meaning.specs.declared.program.BuiltIn.TheVariants.{Puts}
use Rattle.core_cells.specs.Forms.{plain_pointer, plain_value}
use Rattle.run_machine.specs.Machines.{program_of, state_of, built_in_outcome}
use Rattle.run_calls.proofs.LibraryLemmas.{only_pointer, puts_fails}
use Rattle.run_machine.proofs.MachineLemmas.{come_same}
use Rattle.run_calls.proofs.OutputLemmas.{built_in_fails}
use Rattle.run_calls.proofs.library.call_puts.Goals as goal

pub returns-in-None : goal.returns-in-None
returns-in-None c =
    let m = c.args.machine.now in
    let vs = map plain_value c.args.arguments.now in
    built_in_fails m Puts vs (puts_fails (program_of m) vs (state_of m) (sym c.pointer_argument.ensures ∙ ap (λ p. option_map plain_pointer (option_copied p)) c.in-None.is))

pub returns-in-Some : goal.returns-in-Some
returns-in-Some c =
    let m = c.args.machine.now in
    let vs = map plain_value c.args.arguments.now in
    come_same c.puts.result _ (built_in_outcome Puts vs m) c.puts.new.machine c.puts.ensures
    (ap (λ values. built_in_outcome Puts values m) (sym (only_pointer vs _ (sym c.pointer_argument.ensures ∙ ap (λ p. option_map plain_pointer (option_copied p)) c.in-Some.is))))
