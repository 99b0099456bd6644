use Rattle.vector_cases.specs.Fields.{number}
use Rattle.vector_cases.proofs.FieldLemmas.{reads_one}
use Rattle.vector_cases.proofs.fields.Fields.number.Goals as goal

pub returns-in-Some : goal.returns-in-Some
returns-in-Some c =
    let spelled = rw c.in-Some.is at c.in_ok-number.ensures in
    reads_one c.args.self.now c.raw.new.self c.in_ok-field.field.now (number c.in-Some.number) c.in_ok-field.ensures spelled.0
