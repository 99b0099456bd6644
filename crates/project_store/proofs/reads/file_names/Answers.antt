use Rattle.std.proofs.Common.{◌≡◌, ◌∙◌, ◌++◌, ap, refl, List, [], ◌∷◌, map, string_bytes}
use Rattle.std.proofs.lemmas.List.{take_all}
use Rattle.project_file.specs.declared.projects.Unit.{Unit as SourceUnit}
use Rattle.project_file.specs.View.{unit_view}
use Rattle.project_store.proofs.reads.file_names.Goals as goal

files-map : (units : List SourceUnit) → map (λ u. string_bytes u.file) units ≡ map (λ u. u.file) (map unit_view units)
files-map [] = refl
files-map (u ∷ units) = ap (λ fs. string_bytes u.file ∷ fs) (files-map units)

pub returns : goal.returns
returns c =
    let headers = map string_bytes c.args.project.now.headers.items in
    c.loop-unit.invariant
    ∙ ap (λ us. headers ++ map (λ u. string_bytes u.file) us) (take_all c.loop-unit.unit-index c.deref-unit-items.result.now c.loop-unit-test.false ∙ c.deref-unit-items.ensures.value)
    ∙ ap (λ fs. headers ++ fs) (files-map c.args.project.now.units.items)
