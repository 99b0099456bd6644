use Rattle.std.proofs.Common.{◌≡◌, ℕ, List, map, length, rules, subst, ◌∙◌}
use Rattle.text_edits.specs.Files.{plain_files}
use Rattle.cond_formula.specs.Features.{has}
use Rattle.cond_tokens.specs.declared.tokens.CondStream.{CondStream}
use Rattle.tied_tokens.specs.Ties.{plain_tie, plain_declared_name}
use Rattle.told_ties.specs.Ties.{tied_seen, named_seen, tied_in, named_in}
use Rattle.project_ties.specs.Tied.{IsOwn}
use Rattle.project_ties.proofs.Pushed.{still_own}
use Rattle.project_ties.proofs.Products.{tells_products}
use Rattle.project_ties.proofs.projects.ties_of_told.Goals as goal

pub returns-clause-tells : goal.returns-clause-tells
returns-clause-tells g c =
    let project = c.args.project.now in
    let features = c.len-features.result in
    let many : features ≡ length project.features.items = search rules in
    tells_products c.programs_are_one.ensures c.outcomes_are_one.ensures c.tokens_spell_one_unit.ensures c.occurrences_are_tied.ensures c.ties_are_seen.ensures
    project (plain_files c.args.files.now) c.args.parsed.now c.args.numbered.now c.args.told.now
    (record { accepted = c.in_ok-accepted.accepted; ties = c.in_ok-ties.ties; names = c.in_ok-names.names })
    features (g.O.Oracle.admits c.args.oracle.now) c.requires.model many c.requires.below c.requires.parsed c.requires.leaves c.requires.numbered c.requires.told
    c.in_ok-accepted.ensures.below c.in_ok-ties.ensures.below c.in_ok-names.ensures.below
    (λ c' own. c.in_ok-accepted.ensures.exact c' (subst (λ (n : ℕ). IsOwn n (g.O.Oracle.admits c.args.oracle.now) c') many own))
    (λ c' own. subst (λ (ss : List CondStream). tied_seen (has c') (map plain_tie c.in_ok-ties.ties.items) ≡ tied_in (has c') ss c.args.told.now) c.deref.ensures.value
    (c.in_ok-ties.ensures.tied c' (still_own c.in_ok-accepted.ensures.kept own)))
    (λ c' own. subst (λ (ss : List CondStream). named_seen (has c') (map plain_declared_name c.in_ok-names.names.items) ≡ named_in (has c') ss c.args.told.now) c.deref-2.ensures.value
    (c.in_ok-names.ensures.named c' (still_own (c.in_ok-ties.ensures.kept ∙ c.in_ok-accepted.ensures.kept) own)))
