use Rattle.std.proofs.Common.{◌≡◌, ℕ, map, take, drop}
use Rattle.core_meaning.specs.Linking.{parts_of_body}
use Rattle.core_meaning.specs.Plain.{plain_function}
use Rattle.plain_numbers.specs.declared.places.Linked.{Linked}
use Rattle.plain_program.specs.Bodies.{held}
use Rattle.plain_program.specs.Functions.{function_for, AreApart, SameFor}
use Rattle.plain_program.proofs.functions.functions_of.Given as goal

abbrev pub invariant-loop-key : goal.invariant-loop-key
invariant-loop-key l = record {
  made : (globals : ℕ) → map plain_function l.functions.items ≡ map (λ key. function_for key (held globals l.initial.bodies key)) (take l.key-index l.keys);
  same : (globals : ℕ) → SameFor (held globals l.bodies) (held globals l.initial.bodies) (drop l.key-index l.keys);
  apart : AreApart (drop l.key-index l.keys);
  objects : (globals : ℕ) → (other : Linked) → parts_of_body (held globals l.bodies other) ≡ parts_of_body (held globals l.initial.bodies other);
}
