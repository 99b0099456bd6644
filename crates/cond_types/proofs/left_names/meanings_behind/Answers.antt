use Rattle.std.proofs.Common.{ap, ◌∙◌}
use Rattle.conditional.specs.Entries.{first, seen, listed}
use Rattle.type_tables.specs.Forms.{file_name_form}
use Rattle.cond_types.specs.Leaving.{name_behind}
use Rattle.cond_types.proofs.LeftNames.{first_map}
use Rattle.cond_types.proofs.left_names.meanings_behind.Goals as goal

pub returns : goal.returns
returns c = λ on.
    ap first (c.in_ok-l.ensures (name_behind c.args.earlier) (record { maps = λ x y a. a }) on)
    ∙ first_map (name_behind c.args.earlier) (seen on (listed file_name_form c.args.meanings.now))
