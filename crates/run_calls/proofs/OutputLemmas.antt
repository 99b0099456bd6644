-- What the functions of the built-in headers put out.
use Rattle.std.proofs.Common.{◌≡◌, ℕ, List, [], ◌∷◌, ◌++◌, pos, sym, ap, ◌∙◌, append-nil, Option, Some, None}
use Rattle.core_meaning.specs.declared.program.BuiltIn.{BuiltIn}
use Rattle.core_meaning.specs.declared.program.BuiltIn.TheVariants.{Puts}
use Rattle.core_meaning.specs.Values.{Pointer, number, pointer, Value, scalar}
use Rattle.core_meaning.specs.Outcomes.{Outcome, Fails, after, followed_by, ◌>>=◌, give, given, put_out}
use Rattle.core_meaning.specs.Meaning.{Ending, text_at, called_built_in}
use Rattle.core_memory.specs.MemoryForms.{plain_memory}
use Rattle.interp_actions.specs.Actions.{value_operand}
use Rattle.run_machine.specs.declared.machine.Machine.{Machine}
use Rattle.run_machine.specs.Machines.{program_of, state_of, with_operand, built_in_outcome, line_outcome}
use Rattle.run_machine.proofs.ContinuedLaws.{after_after}

pub put_out_more : (before bytes out : List ℕ) (o : Outcome Ending) → out ≡ before ++ bytes → after out o ≡ after before (after bytes o)
put_out_more before bytes out o same = ap (λ b. after b o) same ∙ sym (after_after before bytes o)

text_outcome : Option (List ℕ) → Machine → Outcome Ending
text_outcome text m =
    after m.output.items
    (followed_by (after [] (followed_by (given text (state_of m)) (λ text. put_out (text ++ 10 ∷ []) >>= (λ done. give (scalar (number (pos 0)))))))
    (λ v. with_operand m (value_operand v)))

pub puts_known : (m : Machine) (q : Pointer) (bytes : List ℕ) → text_at (program_of m) (plain_memory m.memory) q ≡ Some bytes → built_in_outcome Puts (scalar (pointer q) ∷ []) m ≡ line_outcome bytes m
unfolding text_outcome
puts_known m q bytes known =
    let line = bytes ++ 10 ∷ [] in
    let rest = with_operand m (value_operand (scalar (number (pos 0)))) (state_of m) in
    ap (λ text. text_outcome text m) known
    ∙ (ap (λ out. after m.output.items (after out rest)) (append-nil line)
    ∙ after_after m.output.items line rest)

pub puts_undefined : (m : Machine) (q : Pointer) → text_at (program_of m) (plain_memory m.memory) q ≡ None → built_in_outcome Puts (scalar (pointer q) ∷ []) m ≡ Fails m.output.items
unfolding text_outcome
puts_undefined m q known =
    ap (λ text. text_outcome text m) known ∙ ap Fails (append-nil m.output.items)

pub built_in_fails : (m : Machine) (b : BuiltIn) (vs : List Value) → called_built_in (program_of m) b vs (state_of m) ≡ Fails [] → built_in_outcome b vs m ≡ Fails m.output.items
built_in_fails m b vs fails =
    ap (λ o. after m.output.items (followed_by o (λ v. with_operand m (value_operand v)))) fails
    ∙ ap Fails (append-nil m.output.items)
