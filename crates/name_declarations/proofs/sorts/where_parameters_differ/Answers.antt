use Rattle.std.proofs.Common.{◌≡◌, ap, ◌∙◌, sym, refl, subst}
use Rattle.std.proofs.lemmas.Result.{IfOk-weaker}
use Rattle.std.specs.Prelude.{is_some}
use Rattle.cond_formula.specs.Features.{has}
use Rattle.conditional.specs.Entries.{seen, listed, entries_of, some_holds}
use Rattle.operand_rules.specs.PlainOperandTypes.{reason}
use Rattle.matched_lists.specs.Matched.{AreThere}
use Rattle.matched_lists.proofs.Seen.{some_seen, seen_there}
use Rattle.type_tables.specs.Forms.{declared_type_form}
use Rattle.name_declarations.proofs.Matching.{same_rule, matched_same}
use Rattle.name_declarations.proofs.sorts.where_parameters_differ.Goals as goal

pub returns-clause-exact : goal.returns-clause-exact
returns-clause-exact g c = IfOk-weaker c.when_some_hold.result _ _ (λ f is n admitted.
    let as_ = seen (has n) (listed declared_type_form c.args.a.now) in
    let bs = seen (has n) (listed declared_type_form c.args.b.now) in
    is (has n) ∙ ap (λ xs. some_holds (has n) (entries_of reason xs)) c.deref-3.ensures.value ∙ some_seen reason (has n) c.in_ok-refused.refused.entries.items
    ∙ ap is_some (c.in_ok-refused.ensures.matched n same_rule as_ bs admitted (record { pair = λ p q refusals h. h; first_longer = refl; second_longer = refl })
    (subst (λ xs. AreThere (has n) (λ x ty. declared_type_form x ≡ ty) xs as_) (sym c.deref.ensures.value) (seen_there declared_type_form (has n) c.args.a.now.entries.items))
    (subst (λ xs. AreThere (has n) (λ x ty. declared_type_form x ≡ ty) xs bs) (sym c.deref-2.ensures.value) (seen_there declared_type_form (has n) c.args.b.now.entries.items)))
    ∙ matched_same as_ bs) c.when_some_hold.ensures
