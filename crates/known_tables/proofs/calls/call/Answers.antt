use Rattle.std.proofs.Common.{◌≡◌, Bool, not, Some, [], ◌∷◌, refl, sym, ap, ◌∙◌, subst}
use Rattle.cond_formula.specs.Features.{has}
use Rattle.cond_formula.specs.Conditions.{condition_of, value}
use Rattle.conditional.specs.Entries.{listed, seen, first, or_later, under}
use Rattle.operand_rules.specs.PlainOperandTypes.{reason}
use Rattle.matched_lists.specs.Matched.{matched, AreThere}
use Rattle.type_tables.specs.Forms.{declared_type_form}
use Rattle.type_tables.specs.Seen.{seen_tables, signature_of}
use Rattle.known_tables.specs.Calls.{callable_of, fitting}
use Rattle.known_tables.proofs.Calling.{parameters_there, arguments_there, first_more, called_shown}
use Rattle.known_tables.proofs.calls.call.Goals as goal

pub returns-clause-shows : goal.returns-clause-shows
returns-clause-shows g c = λ n reads admitted each.
    let f = callable_of (seen_tables (has n) c.args.tables.now) (signature_of (has n) (Some c.args.signature.now)) in
    let elsewhere = value (has n) (condition_of c.in_ok-elsewhere.elsewhere) in
    let refused_first : first (seen (has n) (listed reason c.in_ok-refused.refused)) ≡ matched fitting f.parameters reads =
    c.in_ok-refused.ensures.matched n fitting f.parameters reads admitted (record { pair = λ p q refusals h. h; first_longer = refl; second_longer = refl })
    (subst (λ xs. AreThere (has n) (λ x ty. declared_type_form x ≡ ty) xs f.parameters) (sym c.deref.ensures.value) (parameters_there (has n) c.args.signature.now.parameters.entries.items))
    (arguments_there (has n) c.args.arguments.now reads each) in
    called_shown (has n) (record { fine = c.in_ok-fine.fine; refused = c.refuse.new.refusals }) f reads
    (ap first (c.in_ok-refuse.ensures (has n)) ∙ first_more (seen (has n) (listed reason c.in_ok-refused.refused)) (under elsewhere (tt ∷ []))
    ∙ ap (λ m. or_later m (first (under elsewhere (tt ∷ [])))) refused_first
    ∙ ap (λ (b : Bool). or_later (matched fitting f.parameters reads) (first (under b (tt ∷ [])))) (c.in_ok-elsewhere.ensures.holds (has n) ∙ ap not (c.in_ok-returned.ensures (has n))))
    (c.in_ok-fine.ensures (has n))
