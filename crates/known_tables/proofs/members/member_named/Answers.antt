use Rattle.std.proofs.Common.{◌+◌, List, drop, subst}
use Rattle.std.proofs.lemmas.List.{drop_all}
use Rattle.conditional.specs.declared.entries.Guarded.{Guarded}
use Rattle.conditional.specs.Entries.{entries_of, seen}
use Rattle.conditional.proofs.ListLaws.{item_of}
use Rattle.operand_rules.specs.PlainOperandTypes.{plain_operand_type}
use Rattle.type_tables.specs.Forms.{member_form}
use Rattle.type_tables.specs.Seen.{seen_tables}
use Rattle.type_tables.specs.declared.entries.Member.{Member}
use Rattle.known_tables.specs.Searches.{Finds}
use Rattle.known_tables.specs.Lookups.{member_type}
use Rattle.known_tables.proofs.members.member_named.Goals as goal

pub loop-member-init : goal.loop-member-init
loop-member-init c = λ on. c.new-search.ensures on (member_type (seen_tables on c.args.tables.now) (seen on (entries_of member_form c.args.members.now)) c.args.name.now)

pub loop-member-preserved : goal.loop-member-preserved
loop-member-preserved c = λ on.
    c.in_ok-find_member.ensures on (member_type (seen_tables on c.args.tables.now) (seen on (entries_of member_form c.args.members.now)) c.args.name.now)
    (entries_of member_form (drop (c.loop-member.member-index + 1) c.args.members.now))
    (subst (λ (ms : List (Guarded Member)). Finds plain_operand_type on (member_type (seen_tables on c.args.tables.now) (seen on (entries_of member_form c.args.members.now)) c.args.name.now)
    (member_type (seen_tables on c.args.tables.now) (seen on (entries_of member_form ms)) c.args.name.now) c.loop-member.search)
    (item_of c.args.members.now c.member-item.result c.loop-member.member-index c.loop-member-test.true c.member-item.is) (c.loop-member.invariant on))

pub returns : goal.returns
returns c = λ on.
    c.end.ensures on (member_type (seen_tables on c.args.tables.now) (seen on (entries_of member_form c.args.members.now)) c.args.name.now)
    (subst (λ (ms : List (Guarded Member)). Finds plain_operand_type on (member_type (seen_tables on c.args.tables.now) (seen on (entries_of member_form c.args.members.now)) c.args.name.now)
    (member_type (seen_tables on c.args.tables.now) (seen on (entries_of member_form ms)) c.args.name.now) c.loop-member.search)
    (drop_all c.loop-member.member-index c.args.members.now c.loop-member-test.false) (c.loop-member.invariant on))
