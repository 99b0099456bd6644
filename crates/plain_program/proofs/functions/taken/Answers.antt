use Rattle.std.proofs.Common.{ap, ◌∙◌}
use Rattle.std.specs.Prelude.{None, option_map}
use Rattle.plain_link.specs.PlainDefinitions.{plain_body}
use Rattle.core_meaning.specs.Linking.{same_linked}
use Rattle.plain_numbers.specs.PlainLinked.{plain_linked, entry_at}
use Rattle.plain_numbers.specs.LinkedLaws.{put_at}
use Rattle.plain_program.proofs.BodyLaws.{mapped_choice}
use Rattle.plain_program.proofs.functions.taken.Goals as goal

pub returns-clause-others : goal.returns-clause-others
returns-clause-others c = λ globals other.
    ap (option_map (plain_body globals)) (put_at c.args.key.now c.args.bodies.now.entries c.remove.new.self.entries None c.remove.ensures.updates.0 other)
    ∙ mapped_choice (plain_body globals) (same_linked (plain_linked c.args.key.now) (plain_linked other)) (entry_at c.args.bodies.now (plain_linked other))
