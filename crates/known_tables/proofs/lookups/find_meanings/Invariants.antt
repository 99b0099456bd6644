use Rattle.std.proofs.Common.{ℕ, Bool, Option, drop}
use Rattle.c_types.specs.Types.{PlainType}
use Rattle.conditional.specs.Entries.{entries_of, seen, first}
use Rattle.type_tables.specs.Forms.{file_name_form}
use Rattle.known_tables.specs.Searches.{Finds}
use Rattle.known_tables.specs.Lookups.{found_at_file_scope, Answers}
use Rattle.known_tables.proofs.lookups.find_meanings.Given as goal

abbrev pub invariant-loop-meaning : goal.invariant-loop-meaning
invariant-loop-meaning g l = (on : ℕ → Bool) (object : PlainType → Option g.T.Plain.Form) (function : ℕ → Option g.T.Plain.Form) (whole : Option g.T.Plain.Form)
    → Answers g.T.Plain.form on (g.S.Sought.objects l.sought on) (g.S.Sought.functions l.sought on) object function
    → Finds g.T.Plain.form on whole (found_at_file_scope object function (first (seen on (entries_of file_name_form l.meanings)))) l.fn.search
    → Finds g.T.Plain.form on whole (found_at_file_scope object function (first (seen on (entries_of file_name_form (drop l.meaning-index l.meanings))))) l.search
