use Rattle.std.proofs.Common.{ℕ, Bool, Option, reverse, take}
use Rattle.c_types.specs.Types.{PlainType}
use Rattle.conditional.specs.Entries.{alternatives, Sees}
use Rattle.type_tables.specs.Tables as plain
use Rattle.type_tables.specs.Tables.{local_named}
use Rattle.type_tables.specs.Seen.{locals_in}
use Rattle.known_tables.specs.Lookups.{found_at_file_scope, found_in, Answers}
use Rattle.known_tables.proofs.lookups.seen_behind_all.Given as goal

abbrev pub invariant-loop-local : goal.invariant-loop-local
invariant-loop-local g l = (on : ℕ → Bool) (object : PlainType → Option g.T.Plain.Form) (function : ℕ → Option g.T.Plain.Form) (named : Option plain.FileName)
    → Answers g.T.Plain.form on (g.S.Sought.objects l.sought on) (g.S.Sought.functions l.sought on) object function
    → Sees on (found_at_file_scope object function named) (alternatives g.T.Plain.form l.fn.around)
    → Sees on (found_in object function (local_named (locals_in on (reverse (take l.local-index l.locals))) l.name) named) (alternatives g.T.Plain.form l.seen)
