use Rattle.c_types.specs.TypeLaws.{plain_type-ULong}
use Rattle.library_tests.proofs.types.types_are_printed_with_their_names.Goals as goal

pub print_type-requires-clause-numbered : goal.print_type-requires-clause-numbered
print_type-requires-clause-numbered g c = rw plain_type-ULong tt

pub print_type-requires-clause-no_array : goal.print_type-requires-clause-no_array
print_type-requires-clause-no_array g c = rw plain_type-ULong tt
