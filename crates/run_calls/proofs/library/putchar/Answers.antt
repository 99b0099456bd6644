use Rattle.std.proofs.Common.{◌≡◌, ◌∷◌, [], ℕ, ℤ, pos, Some, ap, ◌∙◌, to_z, of_z, rules}
use Rattle.std.specs.Int.{w128}
use Rattle.std.proofs.lemmas.Int.{to_z-of_z}
use Rattle.c_types.specs.Types.{unsigned_char}
use Rattle.c_types.specs.Arithmetic.{bits_of}
use Rattle.core_meaning.specs.declared.program.BuiltIn.TheVariants.{Putchar}
use Rattle.core_meaning.specs.Outcomes.{after}
use Rattle.core_meaning.specs.Values.{number, scalar}
use Rattle.interp_actions.specs.Actions.{value_operand}
use Rattle.run_machine.specs.declared.machine.Machine.{Machine}
use Rattle.run_machine.specs.Machines.{state_of, with_operand, given_outcome, built_in_outcome}
use Rattle.run_machine.proofs.MachineLemmas.{comes_same}
use Rattle.run_calls.proofs.OutputLemmas.{put_out_more}
use Rattle.run_calls.proofs.library.putchar.Goals as goal

pub returns : goal.returns
returns c =
    let m = c.args.machine.now in
    let byte = c.byte_of-byte.result in
    let new = c.put_number.new.machine in
    let middle : Machine = record m { output = c.push.new.self } in
    let put = λ (z : ℤ). given_outcome (Some (value_operand (scalar (number z)))) middle in
    let sent : to_z w128 (of_z w128 c.from.result) ≡ pos byte = to_z-of_z w128 c.from.result (search rules) ∙ c.from.ensures in
    let same : byte ≡ bits_of unsigned_char c.args.number = c.byte_of-byte.ensures ∙ ap (bits_of unsigned_char) (to_z-of_z w128 c.args.number c.ranges.number) in
    comes_same c.in_ok-flow.flow (put (to_z w128 (of_z w128 c.from.result))) (built_in_outcome Putchar (scalar (number c.args.number) ∷ []) m) new c.in_ok-flow.ensures
    (ap put sent
    ∙ (put_out_more m.output.items (byte ∷ []) c.push.new.self.items (with_operand m (value_operand (scalar (number (pos byte)))) (state_of m)) c.in_ok-push.ensures.items
    ∙ ap (λ (b : ℕ). after m.output.items (after (b ∷ []) (with_operand m (value_operand (scalar (number (pos b)))) (state_of m)))) same))
