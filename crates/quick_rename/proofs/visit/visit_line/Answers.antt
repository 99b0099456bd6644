use Rattle.std.proofs.Common.{◌≡◌, ◌+◌, ◌-◌, ℕ, true, [], ◌∷◌, ◌++◌, length, refl, subst}
use Rattle.quick_form.specs.Symbols.{is_directive_line, solid_pieces}
use Rattle.quick_lexer.specs.View.{symbol_view}
use Rattle.quick_rename.specs.Visits.{placed}
use Rattle.quick_rename.proofs.Walk.{directive_stop, true_unless}
use Rattle.quick_rename.proofs.visit.visit_line.Goals as goal

pub returns-else-branch-clause-visits : goal.returns-else-branch-clause-visits
returns-else-branch-clause-visits g c =
    let V = g.V.Visitor in
    let k = symbol_view c.in-Some.symbol in
    let offset = c.args.end - length c.args.line.now in
    let directive : is_directive_line (solid_pieces c.args.line.now) ≡ true = true_unless _ (λ e. let n = c.directive.ensures.none.1 e in let f : ⊥ = cc in f) in
    directive_stop V.took V.refuses c.args.visitor.now c.take.new.self c.args.line.now offset k _ directive c.in-Some.ensures.some refl refl refl
    (c.in_ok-take-in-Some.ensures.stays c.if-branch.false)
    (λ front h. subst (λ (n : ℕ). V.refuses (front ++ placed k (offset + n) ∷ [])) c.solid_len.ensures.len (c.in_ok-take-in-Some.ensures.refused c.if-branch.false front h))
