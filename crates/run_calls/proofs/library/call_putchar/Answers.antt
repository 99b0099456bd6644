use Rattle.std.proofs.Common.{ℤ, ◌∷◌, [], map, ap, sym, ◌∙◌, to_z, of_z, rules}
use Rattle.std.specs.Int.{w128}
use Rattle.std.proofs.lemmas.Int.{to_z-of_z}
use Rattle.core_meaning.specs.Values.{number, scalar}
use Rattle.core_meaning.specs.declared.program.BuiltIn.TheVariants.{Putchar}
use Rattle.core_cells.specs.Forms.{plain_value}
use Rattle.run_machine.specs.Machines.{program_of, state_of, built_in_outcome}
use Rattle.run_calls.proofs.LibraryLemmas.{only_number, putchar_fails}
use Rattle.run_machine.proofs.MachineLemmas.{come_same}
use Rattle.run_calls.proofs.OutputLemmas.{built_in_fails}
use Rattle.run_calls.proofs.library.call_putchar.Goals as goal

pub returns-in-None : goal.returns-in-None
returns-in-None c =
    let m = c.args.machine.now in
    let vs = map plain_value c.args.arguments.now in
    built_in_fails m Putchar vs (putchar_fails (program_of m) vs (state_of m) (sym c.number_argument.ensures ∙ c.in-None.is))

pub returns-in-Some : goal.returns-in-Some
returns-in-Some c =
    let m = c.args.machine.now in
    let vs = map plain_value c.args.arguments.now in
    let z = c.in-Some.number in
    come_same c.putchar.result (built_in_outcome Putchar (scalar (number (to_z w128 (of_z w128 z))) ∷ []) m) (built_in_outcome Putchar vs m) c.putchar.new.machine c.putchar.ensures
    (ap (λ (y : ℤ). built_in_outcome Putchar (scalar (number y) ∷ []) m) (to_z-of_z w128 z (search rules))
    ∙ ap (λ values. built_in_outcome Putchar values m) (sym (only_number vs z (sym c.number_argument.ensures ∙ c.in-Some.is))))
