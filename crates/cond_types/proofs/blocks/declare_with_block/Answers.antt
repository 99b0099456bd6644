use Rattle.std.proofs.Common.{Bool, not, List, reverse, sym, ap, ap₂, ◌∙◌, subst}
use Rattle.std.specs.Prelude.{◌&&◌, ◌||◌}
use Rattle.cond_formula.specs.Features.{has}
use Rattle.cond_formula.specs.Conditions.{condition_of, value}
use Rattle.conditional.specs.Entries.{seen, listed, alternatives, Stands}
use Rattle.c_text.specs.Token.{plain_token}
use Rattle.c_types.specs.Types.{PlainType, plain_type}
use Rattle.choice_trees.specs.ChoiceTrees.{plain_item, item_at}
use Rattle.core_meaning.specs.Entities.{Signature}
use Rattle.core_meaning.specs.Declarations.{with_block}
use Rattle.plain_objects.specs.PlainStates.{plain_storage}
use Rattle.statement_readings.proofs.Statements.{bodies_read}
use Rattle.type_tables.specs.Forms.{declared_type_form}
use Rattle.type_tables.specs.Seen.{seen_tables, locals_in}
use Rattle.type_tables.specs.Steps.{with_signature}
use Rattle.type_tables.specs.Tables as plain
use Rattle.type_tables.specs.Numbers.{FollowsInBlockBy}
use Rattle.type_tables.proofs.BlockLaws.{block_entered, entered_by}
use Rattle.cond_units.proofs.OneFunction.{as_signature}
use Rattle.cond_types.proofs.BehindBlock.{block_left, signed_outside}
use Rattle.cond_types.proofs.OneBlock.{block_named}
use Rattle.cond_types.proofs.blocks.declare_with_block.Goals as goal

pub returns-clause-elsewhere : goal.returns-clause-elsewhere
returns-clause-elsewhere g c = λ n admitted off.
    let old = seen_tables (has n) c.args.tables.now in
    let still = ap (value (has n)) c.in_ok-declared.ensures.kept ∙ admitted in
    let still_so = ap (value (has n)) c.in_ok-differs.ensures.kept ∙ still in
    let none = c.in_ok-declared.ensures.elsewhere n admitted off in
    let apart = c.in_ok-differs.ensures.elsewhere n still off in
    let nowhere = c.in_ok-here.ensures (has n) ∙ ap (λ (b : Bool). b && not (value (has n) (condition_of c.in_ok-before.before))) (ap (value (has n)) c.in_ok-possible.ensures ∙ off) in
    let behind =
    block_left c.args.tables.now c.enter.new.self c.declare_parameters.new.tables c.declare_signed.new.tables c.read_body.new.tables c.leave.new.self c.in_ok-outside.outside
    c.in_ok-outside.ensures.outside c.in_ok-outside.ensures.kept c.in_ok-declared.ensures.outside c.in_ok-differs.ensures.locals c.in_ok-wrong.ensures.same c.in_ok-wrong.ensures.locals c.leave.ensures (has n) in (
      behind
          ∙ (signed_outside _ old (seen_tables (has n) c.declare_parameters.new.tables) (seen_tables (has n) c.declare_signed.new.tables) apart.0 (none.0 ∙ c.in_ok-outside.ensures.seen (has n))
          ∙ ap (λ (s : Signature). with_signature s old) (c.in_ok-signature.ensures (has n) ∙ ap (λ (types : List PlainType). as_signature (plain_type c.args.returns.now) types) none.2)),
      c.in_ok-refused.ensures (has n)
          ∙ ap₂ (λ (a b : Bool). a || b) (c.in_ok-before.ensures (has n) ∙ ap₂ (λ (a b : Bool). a || b) none.1 apart.1) (c.in_ok-wrong.ensures.elsewhere n still_so nowhere),
    )

pub returns-clause-named : goal.returns-clause-named
returns-clause-named g c = λ n admitted on scope follows ty e there is_list derived.
    let old = seen_tables (has n) c.args.tables.now in
    let storage = plain_storage c.args.definition.now.storage in
    let name = plain_token c.args.head.now.name.now in
    let list = item_at (has n) (plain_item c.args.head.now.list.now) in
    let body = item_at (has n) (plain_item c.args.definition.now.body.now) in
    let still = ap (value (has n)) c.in_ok-declared.ensures.kept ∙ admitted in
    let still_so = ap (value (has n)) c.in_ok-differs.ensures.kept ∙ still in
    block_named storage name list body scope ty (plain_type c.args.returns.now) old (seen_tables (has n) c.declare_parameters.new.tables) (seen_tables (has n) c.declare_signed.new.tables) (seen_tables (has n) c.leave.new.self)
    follows (seen (has n) (listed declared_type_form c.in_ok-declared.declared.types)) (value (has n) (condition_of c.in_ok-declared.declared.refused)) (value (has n) (condition_of c.in_ok-differs.differs))
    (value (has n) (condition_of c.in_ok-wrong.wrong)) (value (has n) (condition_of c.in_ok-before.before)) (value (has n) (condition_of c.in_ok-here.here)) (value (has n) (condition_of c.in_ok-refused.refused))
    (c.in_ok-before.ensures (has n))
    (c.in_ok-here.ensures (has n) ∙ ap (λ (b : Bool). b && not (value (has n) (condition_of c.in_ok-before.before))) (ap (value (has n)) c.in_ok-possible.ensures ∙ on))
    (c.in_ok-refused.ensures (has n))
    (block_left c.args.tables.now c.enter.new.self c.declare_parameters.new.tables c.declare_signed.new.tables c.read_body.new.tables c.leave.new.self c.in_ok-outside.outside
    c.in_ok-outside.ensures.outside c.in_ok-outside.ensures.kept c.in_ok-declared.ensures.outside c.in_ok-differs.ensures.locals c.in_ok-wrong.ensures.same c.in_ok-wrong.ensures.locals c.leave.ensures (has n))
    (ap (λ v. locals_in (has n) (reverse v.items)) c.in_ok-differs.ensures.locals) c.in_ok-differs.ensures.depth e there
    (λ at follows_so s same is_there. c.in_ok-differs.ensures.named n still on at follows_so s (c.in_ok-signature.ensures (has n) ∙ same) is_there)
    (λ here at slots follows_so same.
    c.in_ok-wrong.ensures.refused n still_so here ty at slots follows_so
    (subst (λ (t : PlainType). Stands (has n) t (alternatives declared_type_form c.in_ok-result.result)) same (c.in_ok-result.ensures (has n))) derived
    ∙ bodies_read ty at slots body derived)
    (c.in_ok-declared.ensures.declared n follows.by scope name admitted on
    (subst (λ (t : plain.Tables). FollowsInBlockBy follows.by t (with_block scope)) (sym (c.in_ok-outside.ensures.seen (has n)))
    (record { follows = block_entered old scope follows; numbers = entered_by old scope follows })) is_list)
