use Rattle.std.proofs.Common.{◌≡◌, ℕ, map, take, drop}
use Rattle.c_types.specs.Types.{PlainType, plain_type}
use Rattle.core_meaning.specs.Plain.{plain_global}
use Rattle.plain_numbers.specs.declared.places.Linked.{Linked}
use Rattle.plain_program.specs.Bodies.{held}
use Rattle.plain_program.specs.Functions.{AreApart, SameFor}
use Rattle.plain_program.specs.Globals.{global_for}
use Rattle.plain_program.proofs.globals.globals_of.Given as goal

abbrev pub invariant-loop-i : goal.invariant-loop-i
invariant-loop-i l = record {
  made : (globals : ℕ) → (T : Linked → PlainType) → map plain_type l.types ≡ map T l.keys →
      map (plain_global globals) l.all.items ≡ map (λ key. global_for (T key) key (held globals l.initial.bodies key)) (take l.i l.keys);
  same : (globals : ℕ) → SameFor (held globals l.bodies) (held globals l.initial.bodies) (drop l.i l.keys);
  apart : AreApart (drop l.i l.keys);
}
