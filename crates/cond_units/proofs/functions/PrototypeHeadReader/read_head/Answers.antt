use Rattle.std.proofs.Common.{◌≡◌, Bool, ap, ap₂, refl, ◌∙◌, subst}
use Rattle.std.specs.Prelude.{◌&&◌, ◌||◌, not}
use Rattle.cond_formula.specs.Features.{has}
use Rattle.cond_formula.specs.Conditions.{condition_of, value}
use Rattle.conditional.specs.Entries.{seen, listed}
use Rattle.c_text.specs.Token.{plain_token}
use Rattle.c_types.specs.Types.{PlainType, plain_type}
use Rattle.choice_trees.specs.ChoiceTrees.{plain_item, item_at}
use Rattle.core_meaning.specs.Entities.{Signature, Scope, function}
use Rattle.core_meaning.specs.UnitNames.{with_name, may_be_function}
use Rattle.plain_objects.specs.PlainStates.{plain_storage}
use Rattle.type_tables.specs.Forms.{declared_type_form}
use Rattle.type_tables.specs.Tables as plain
use Rattle.type_tables.specs.Seen.{seen_tables}
use Rattle.type_tables.specs.Steps.{with_signature}
use Rattle.type_tables.specs.Follows.{renumbered_signature, SortIsThere, Follows}
use Rattle.name_declarations.specs.Names.{Named}
use Rattle.cond_units.specs.Seen.{seen_unit}
use Rattle.cond_units.proofs.OneFunction.{as_signature, function_here}
use Rattle.cond_units.proofs.functions.PrototypeHeadReader.read_head.Goals as goal

pub returns-clause-declares : goal.returns-clause-declares
returns-clause-declares g c = λ n admitted.
    let still = ap (value (has n)) c.in_ok-other.ensures.kept ∙ admitted in
    let still_so = ap (value (has n)) c.in_ok-parameters.ensures.kept ∙ still in
    let types = seen (has n) (listed declared_type_form c.in_ok-parameters.parameters.types) in
    function_here (plain_storage c.args.self.now.storage) c.args.head.now.stars (plain_token c.args.head.now.name.now) (item_at (has n) (plain_item c.args.head.now.list.now)) c.args.self.now.initialised (plain_type c.args.ty.now)
    (seen_unit (has n) c.args.unit.now) (record { tables = seen_tables (has n) c.declare_signed.new.tables; defined = (seen_unit (has n) c.args.unit.now).defined }) (value (has n) (condition_of c.args.when.now)) (value (has n) (condition_of c.in_ok-other.other)) (value (has n) (condition_of c.in_ok-conflicting.conflicting))
    (value (has n) (condition_of c.in_ok-parameters.parameters.refused)) (value (has n) (condition_of c.in_ok-differs.differs)) (value (has n) (condition_of c.in_ok-given.given)) (value (has n) (condition_of c.in_ok-refused.refused)) types
    (c.in_ok-refused.ensures (has n) ∙ ap₂ (λ (a b : Bool). a || b) (c.in_ok-first.ensures (has n)) (c.in_ok-second.ensures (has n))) refl (c.in_ok-conflicting.ensures (has n))
    (c.in_ok-given.ensures (has n))
    (λ scope follows t e. c.in_ok-other.ensures.exact n admitted scope follows t (c.in_ok-result.ensures ∙ e)
    ∙ ap (λ name. value (has n) (condition_of c.args.when.now) && not (may_be_function (plain_storage c.args.self.now.storage) t (scope.file_names name))) c.deref.ensures.value)
    (λ off. c.in_ok-parameters.ensures.elsewhere n still off)
    (λ on scope follows is_list. c.in_ok-parameters.ensures.given n scope follows (plain_token c.args.head.now.name.now) still on is_list)
    (λ off. let apart = c.in_ok-differs.ensures.elsewhere n still_so off in
    (apart.0 ∙ ap₂ (λ (r : PlainType) (t : plain.Tables). with_signature (as_signature r types) t) c.in_ok-result.ensures (c.in_ok-parameters.ensures.same (has n)), apart.1))
    (λ on scope follows s is there.
    subst (λ (t : plain.Tables). (scope : Scope) (follows : Follows t scope) (s : Signature) → as_signature (plain_type c.in_ok-result.result) types ≡ renumbered_signature follows.by s → SortIsThere scope.structs (function s)
    → Named follows.by (with_name scope (plain_token c.args.head.now.name.now) (function s) (plain_storage c.args.self.now.storage)) (value (has n) (condition_of c.in_ok-differs.differs)) (seen_tables (has n) c.declare_signed.new.tables))
    (c.in_ok-parameters.ensures.same (has n)) (λ scope follows s is there. c.in_ok-differs.ensures.named n still_so on scope follows s is there) scope follows s
    (ap (λ (r : PlainType). as_signature r types) c.in_ok-result.ensures ∙ is) there)
