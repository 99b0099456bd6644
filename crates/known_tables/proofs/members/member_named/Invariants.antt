use Rattle.std.proofs.Common.{ℕ, Bool, drop}
use Rattle.conditional.specs.Entries.{entries_of, seen}
use Rattle.operand_rules.specs.PlainOperandTypes.{plain_operand_type}
use Rattle.type_tables.specs.Forms.{member_form}
use Rattle.type_tables.specs.Seen.{seen_tables}
use Rattle.known_tables.specs.Searches.{Finds}
use Rattle.known_tables.specs.Lookups.{member_type}
use Rattle.known_tables.proofs.members.member_named.Given as goal

abbrev pub invariant-loop-member : goal.invariant-loop-member
invariant-loop-member l = (on : ℕ → Bool)
    → Finds plain_operand_type on (member_type (seen_tables on l.tables) (seen on (entries_of member_form l.members)) l.name)
    (member_type (seen_tables on l.tables) (seen on (entries_of member_form (drop l.member-index l.members))) l.name) l.search
