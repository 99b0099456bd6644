use Rattle.std.proofs.Common.{◌≡◌, [], ◌∷◌, ◌++◌, rules, sym, ap, ◌∙◌}
use Rattle.std.specs.Prelude.{Some, option_map}
use Rattle.core_meaning.specs.Plain.{plain_constant_part}
use Rattle.plain_declarations.specs.PlainDeclared.{plain_initial}
use Rattle.plain_objects.specs.Objects.{constant_part_of, parts_pushed}
use Rattle.plain_objects.proofs.definitions.constant_parts.Goals as goal

pub loop-initial-preserved : goal.loop-initial-preserved
loop-initial-preserved c = λ globals.
    let is : constant_part_of globals (plain_initial c.in-Some.initial) ≡ Some (plain_constant_part globals c.in-Some-constant_part.part) = sym (c.constant_part.ensures globals) ∙ ap (option_map (plain_constant_part globals)) c.in-Some-constant_part.is in
    let pushed : c.push.new.self.items ≡ c.loop-initial.parts.items ++ c.in-Some-constant_part.part ∷ [] = search rules in
    rw pushed (parts_pushed globals c.loop-initial.yielded c.in-Some.initial c.loop-initial.parts.items c.in-Some-constant_part.part (c.loop-initial.invariant globals) is)
