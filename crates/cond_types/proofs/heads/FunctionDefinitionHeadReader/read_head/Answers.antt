use Rattle.std.proofs.Common.{[], ◌∷◌, ◌++◌, Bool, false, ap, ap₂, sym, ◌∙◌, subst}
use Rattle.std.specs.Prelude.{◌&&◌, ◌||◌, not}
use Rattle.cond_formula.specs.Features.{has}
use Rattle.cond_formula.specs.Conditions.{condition_of, value}
use Rattle.conditional.specs.Entries.{under}
use Rattle.c_text.specs.Token.{plain_token}
use Rattle.c_types.specs.Types.{PlainType, plain_type}
use Rattle.choice_trees.specs.ChoiceTrees.{plain_item, item_at}
use Rattle.core_meaning.specs.Expressions.{is_void}
use Rattle.core_meaning.specs.UnitNames.{may_be_function}
use Rattle.plain_objects.specs.PlainStates.{plain_storage}
use Rattle.type_tables.specs.Tables as plain
use Rattle.type_tables.specs.Tables.{is_complete_type}
use Rattle.type_tables.specs.Seen.{seen_tables}
use Rattle.cond_units.specs.Seen.{seen_unit}
use Rattle.cond_units.proofs.OneFunction.{as_signature}
use Rattle.cond_types.proofs.OneHead.{definition_here}
use Rattle.cond_types.proofs.heads.FunctionDefinitionHeadReader.read_head.Goals as goal

pub returns-clause-declares : goal.returns-clause-declares
returns-clause-declares g c = λ n admitted.
    let still = ap (value (has n)) c.in_ok-other.ensures.kept ∙ admitted in
    let list = item_at (has n) (plain_item c.args.head.now.list.now) in
    let body = item_at (has n) (plain_item c.args.self.now.body.now) in
    let old = seen_unit (has n) c.args.unit.now in
    let is_or = ap (λ (b : Bool). value (has n) (condition_of c.args.when.now) && b) (c.in_ok-impossible.ensures (has n)) in
    definition_here (plain_storage c.args.self.now.storage) c.args.head.now.stars (plain_token c.args.head.now.name.now) list body (plain_type c.args.ty.now)
    old (seen_unit (has n) c.define.new.unit) (value (has n) (condition_of c.args.when.now)) (value (has n) (condition_of c.in_ok-unfit.unfit)) (value (has n) (condition_of c.in_ok-other.other))
    (value (has n) (condition_of c.in_ok-conflicting.conflicting)) (value (has n) (condition_of c.in_ok-here.here)) (value (has n) (condition_of c.in_ok-invalid.invalid)) (value (has n) (condition_of c.in_ok-refused.refused))
    (as_signature (plain_type c.in_ok-returns.returns) [])
    (c.in_ok-refused.ensures (has n))
    (c.in_ok-conflicting.ensures (has n) ∙ is_or)
    (c.in_ok-here.ensures (has n)
    ∙ ap₂ (λ (a b : Bool). a && not b) (ap (value (has n)) c.in_ok-possible.ensures) (c.in_ok-impossible.ensures (has n)))
    (c.in_ok-define.ensures.defined (has n)
    ∙ ap (λ text. old.defined ++ under (value (has n) (condition_of c.in_ok-here.here)) (record { name = text; tentative = false } ∷ [])) c.deref-2.ensures.value)
    (c.in_ok-unfit.ensures (has n) ∙ ap (λ (t : PlainType). not (is_void t || is_complete_type old.tables t)) c.in_ok-returns.ensures)
    (λ scope follows t e. c.in_ok-other.ensures.exact n admitted scope follows t (c.in_ok-returns.ensures ∙ e)
    ∙ ap (λ name. value (has n) (condition_of c.args.when.now) && not (may_be_function (plain_storage c.args.self.now.storage) t (scope.file_names name))) c.deref.ensures.value)
    (λ off. let apart = c.in_ok-invalid.ensures.elsewhere n still off in (ap (seen_tables (has n)) c.in_ok-define.ensures.tables ∙ apart.0, apart.1))
    (λ on scope follows t e there is_list derived.
    subst (λ (tables : plain.Tables). Rattle.name_declarations.specs.Names.Named follows.by
    (Rattle.cond_types.specs.Definitions.behind_block (plain_storage c.args.self.now.storage) (plain_token c.args.head.now.name.now) list body scope t) (value (has n) (condition_of c.in_ok-invalid.invalid)) tables)
    (sym (ap (seen_tables (has n)) c.in_ok-define.ensures.tables))
    (c.in_ok-invalid.ensures.named n still on scope follows t (c.in_ok-returns.ensures ∙ e) there is_list derived))
