use Rattle.std.proofs.Common.{arith, length, vec_len}
use Rattle.c_types.specs.Types.{plain_type}
use Rattle.c_types.proofs.PrintLaws.{below_base}
use Rattle.c_types.proofs.print.print_type.Goals as goal

pub write_base-requires : goal.write_base-requires
write_base-requires c =
    below_base (vec_len c.args.tags.now.tags) (length c.deref.result.now) (plain_type c.args.t.now) (plain_type c.behind_pointers.result.now) (omega arith) c.behind_pointers.ensures c.requires.numbered
