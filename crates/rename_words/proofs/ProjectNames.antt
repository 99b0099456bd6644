-- The names of a project's files, by the project as the code holds it.
use Rattle.std.proofs.Common.{◌≡◌, List, [], ◌∷◌, ◌++◌, map, refl, sym, ◌∙◌, ap, string_bytes, String, Global}
use Rattle.project_file.specs.declared.projects.Unit.{Unit as SourceUnit}
use Rattle.project_file.specs.declared.projects.Project.{Project}
use Rattle.project_file.specs.View.{unit_view, project_view}
use Rattle.project_store.specs.Reads.{names_of}
use Rattle.rename_words.specs.Steps.{file_of}

files_of_units : (units : List SourceUnit) → map (λ u. u.file) (map unit_view units) ≡ map file_of units
files_of_units [] = refl
files_of_units (u ∷ units) = ap (λ files. file_of u ∷ files) (files_of_units units)

pub names_are : (project : Project) (headers : List (String Global)) (units : List SourceUnit) → headers ≡ project.headers.items → units ≡ project.units.items → map string_bytes headers ++ map file_of units ≡ names_of (project_view project)
names_are project headers units h u =
    ap (λ hs. map string_bytes hs ++ map file_of units) h ∙ ap (λ fs. map string_bytes project.headers.items ++ fs) (ap (map file_of) u ∙ sym (files_of_units project.units.items))
