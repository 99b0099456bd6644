use Rattle.std.proofs.Common.{◌≡◌, ℕ, List, length, refl, sym, ap, ◌∙◌}
use Rattle.std.proofs.lemmas.List.{length-map}
use Rattle.text_edits.specs.Files.{PlainFile, plain_files}
use Rattle.cond_formula.specs.Features.{has}
use Rattle.cond_formula.specs.Conditions.{condition_of, value}
use Rattle.project_file.specs.View.{project_view}
use Rattle.project_store.specs.Reads.{names_of}
use Rattle.project_check.proofs.BrokenLemmas.{at_these}
use Rattle.project_analysis.proofs.Elaborated.{tells_trees}
use Rattle.project_analysis.proofs.Products.{tells_these, units_told}
use Rattle.project_analysis.proofs.analysis.told_project.Goals as goal

pub returns-clause-told : goal.returns-clause-told
returns-clause-told g c = λ n product.
    let project = c.args.project.now in
    let files = plain_files c.args.files.now in
    let numbered = c.args.numbered.now in
    let told = c.in_ok-told.told.units.items in
    let filed : length files ≡ length (names_of (project_view project))
    = sym (length-map files (λ (f : PlainFile). f.name)) ∙ ap (λ (names : List (List ℕ)). length names) c.requires.named in
    let tells = tells_these (g.O.Oracle.admits c.args.oracle.now) project.units.items c.deref.result.now numbered numbered told c.deref.ensures.value refl c.in_ok-told.ensures.told in
    units_told c.programs_are_one.ensures c.outcomes_are_one.ensures c.tokens_spell_one_unit.ensures c.tokens_are_spelt.ensures c.changes_are_seen.ensures
    c.numberings_are_seen.ensures c.sites_dont_matter.ensures c.units_stay_units.ensures project files filed c.args.parsed.now numbered told c.requires.numbered
    (g.O.Oracle.admits c.args.oracle.now) c.requires.model c.requires.parsed c.requires.leaves tells n product

pub returns-clause-broken : goal.returns-clause-broken
returns-clause-broken g c = λ n admitted.
    let units = c.args.project.now.units.items in
    let numbered = c.args.numbered.now in
    let broken = value (has n) (condition_of c.in_ok-told.told.broken) in
    tells_trees c.numberings_are_seen.ensures c.sites_dont_matter.ensures c.units_stay_units.ensures (has n) units c.args.parsed.now.forests.items numbered c.requires.numbered broken
    (at_these (has n) units c.deref.result.now numbered numbered broken c.deref.ensures.value refl (c.in_ok-told.ensures.broken n admitted))
