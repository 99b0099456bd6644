use Rattle.std.proofs.Common.{◌≡◌, true, false, not, Some, sym, ap, ◌∙◌, subst}
use Rattle.std.specs.Str.{bytes_eq}
use Rattle.std.proofs.lemmas.Result.{on_ok_weaker}
use Rattle.c_types.specs.Types.{plain_type}
use Rattle.conditional.specs.Entries.{seen}
use Rattle.operand_rules.specs.PlainOperandTypes.{plain_operand_type}
use Rattle.type_tables.specs.Tables.{object_of}
use Rattle.type_tables.specs.Seen.{seen_tables}
use Rattle.known_tables.specs.Searches.{Finds}
use Rattle.known_tables.specs.Lookups.{member_type}
use Rattle.known_tables.proofs.Looking.{member_next, member_other, is_same, is_other}
use Rattle.known_tables.proofs.members.find_member.Goals as goal

pub returns-then-ne : goal.returns-then-ne
returns-then-ne c = λ on whole later before.
    let other : bytes_eq c.args.name.now c.args.member.now.what.name.items ≡ false = is_other _ (sym (c.ne.ensures ∙ ap (λ t. not (bytes_eq c.args.name.now t)) c.as_slice.ensures.value) ∙ c.if-ne.true) in
    subst (λ next. Finds plain_operand_type on whole next c.args.search.now) (member_other (seen_tables on c.args.tables.now) on c.args.member.now later c.args.name.now other) before

pub returns : goal.returns
returns c =
    let same : bytes_eq c.args.name.now c.args.member.now.what.name.items ≡ true = is_same _ (sym (c.ne.ensures ∙ ap (λ t. not (bytes_eq c.args.name.now t)) c.as_slice.ensures.value) ∙ c.if-ne.false) in
    on_ok_weaker c.find.result (λ finds on whole later before.
    finds on whole (Some (object_of (seen_tables on c.args.tables.now) (plain_type c.args.member.now.what.ty))) (member_type (seen_tables on c.args.tables.now) (seen on later) c.args.name.now)
    (c.in_ok-operand.ensures on)
    (subst (λ next. Finds plain_operand_type on whole next c.args.search.now) (member_next (seen_tables on c.args.tables.now) on c.args.member.now later c.args.name.now same) before)) c.find.ensures
