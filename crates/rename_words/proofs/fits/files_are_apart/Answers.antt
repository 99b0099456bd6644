use Rattle.std.proofs.Common.{List, ℕ, All, ◌↔◌, IsTrue, map, refl, subst, string_bytes}
use Rattle.folder_names.specs.Folders.{IsApart}
use Rattle.rename_words.specs.Steps.{file_of}
use Rattle.rename_words.proofs.Apart.{both_by_first, both_by_second}
use Rattle.rename_words.proofs.ProjectNames.{names_are}
use Rattle.rename_words.proofs.fits.files_are_apart.Goals as goal

pub returns-then-are_apart : goal.returns-then-are_apart
returns-then-are_apart c =
    let Apart : List ℕ → Type 0 = λ name. IsApart name c.args.folder.now in
    let headers = c.deref.result.now in
    let units = c.deref-then-are_apart.result.now in
    subst (λ names. IsTrue c.units_are_apart.result ↔ All Apart names) (names_are c.args.project.now headers units c.deref.ensures.value c.deref-then-are_apart.ensures.value)
    (both_by_second Apart c.are_apart.result c.units_are_apart.result (map string_bytes headers) (map file_of units) c.are_apart.ensures c.if-are_apart.true c.units_are_apart.ensures)

pub returns-else-are_apart : goal.returns-else-are_apart
returns-else-are_apart c =
    let Apart : List ℕ → Type 0 = λ name. IsApart name c.args.folder.now in
    let headers = c.deref.result.now in
    let units = c.args.project.now.units.items in
    subst (λ names. IsTrue c.are_apart.result ↔ All Apart names) (names_are c.args.project.now headers units c.deref.ensures.value refl)
    (both_by_first Apart c.are_apart.result (map string_bytes headers) (map file_of units) c.are_apart.ensures c.if-are_apart.false)
