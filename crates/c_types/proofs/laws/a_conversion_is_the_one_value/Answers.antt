use Rattle.c_types.proofs.ConversionLaws.{one_conversion}
use Rattle.c_types.proofs.laws.a_conversion_is_the_one_value.Goals as goal

pub returns : goal.returns
returns c = one_conversion
