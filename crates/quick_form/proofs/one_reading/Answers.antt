use Rattle.quick_form.proofs.Reading.{one_reading_lem}
use Rattle.quick_form.proofs.one_reading.Goals as goal

pub returns : goal.returns
returns c = one_reading_lem
