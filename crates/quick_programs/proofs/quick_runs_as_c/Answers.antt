use Rattle.quick_programs.proofs.Programs.{quick_runs_as_c_lem}
use Rattle.quick_programs.proofs.quick_runs_as_c.Goals as goal

pub returns : goal.returns
returns c =
    quick_runs_as_c_lem c.units_give_what_is_present.ensures c.units_declare_no_number.ensures c.program_is_of_items.ensures
    c.tokens_run_alike.ensures
