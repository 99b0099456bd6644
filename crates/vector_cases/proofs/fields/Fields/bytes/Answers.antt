use Rattle.vector_cases.specs.Fields.{bytes}
use Rattle.vector_cases.proofs.FieldLemmas.{reads_one}
use Rattle.vector_cases.proofs.fields.Fields.bytes.Goals as goal

pub returns : goal.returns
returns c = reads_one c.args.self.now c.raw.new.self c.in_ok-field.field.now (bytes c.in_ok-said.said.items) c.in_ok-field.ensures c.in_ok-said.ensures
