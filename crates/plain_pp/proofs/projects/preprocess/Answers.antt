use Rattle.std.proofs.Common.{refl, List, length, map, ap, sym, ◌∙◌, subst, arith, ◌≡◌, All, ◌<◌, ◌≤◌}
use Rattle.std.specs.String.{string_bytes}
use Rattle.std.proofs.lemmas.List.{length-map}
use Rattle.cond_formula.specs.Features.{has}
use Rattle.text_edits.specs.declared.files.SourceFile.{SourceFile}
use Rattle.text_edits.specs.Files.{plain_file, plain_files}
use Rattle.c_text.specs.Preprocessing.{on, most_nested}
use Rattle.project_file.specs.View.{project_view, unit_view}
use Rattle.project_file.specs.Projects.{names_on}
use Rattle.plain_pp.specs.Readings.{plain_reading}
use Rattle.plain_pp.specs.Units.{sources_of, file_of}
use Rattle.unit_files.specs.SourceFiles.{AreSources}
use Rattle.plain_pp.specs.Features.{started}
use Rattle.plain_pp.proofs.UnitLemmas.{outcome-is, files-named, says-unit, all-short}
use Rattle.plain_pp.proofs.projects.preprocess.Goals as goal

pub read_source-requires-clause-small : goal.read_source-requires-clause-small
read_source-requires-clause-small c =
    let files = c.args.files.now.list.items in
    let p = c.args.project.now in
    let n = files-named files (map string_bytes p.headers.items) (map (λ u. u.file) (map unit_view p.units.items)) c.requires.named in
    let headers = length-map p.headers.items string_bytes in
    record {
      short = subst (λ (fs : List SourceFile). All (λ f. length f.bytes.items ≤ 4294967295) fs) (sym c.as_slice-2.ensures.value) (all-short files c.requires.short);
      few = subst (λ (fs : List SourceFile). length fs < 4294967295) (sym c.as_slice-2.ensures.value) c.requires.few;
      headers = omega (arith, ap length c.as_slice-2.ensures.value, ap length c.as_slice-3.ensures.value);
    }

pub returns-in-Ok : goal.returns-in-Ok
returns-in-Ok c =
    let p = c.args.project.now in
    let s = sources_of (project_view p) (plain_files c.args.files.now) (has c.args.c) in
    let are : AreSources (record { files = c.as_slice-2.result; headers = c.as_slice-3.result; features = c.as_slice-4.result }) s = record {
      files = ap (λ (fs : List SourceFile). map plain_file fs) (sym c.as_slice-2.ensures.value);
      headers = ap (λ xs. map string_bytes xs) (sym c.as_slice-3.ensures.value);
      features = ap (λ xs. map string_bytes xs) (sym c.as_slice-4.ensures.value);
    } in
    let at : c.unit_number-number.result ≡ file_of (project_view p) c.args.unit = omega (arith, p.headers.ok.0, length-map p.headers.items string_bytes) in
    let start = c.in_ok-reading.ensures ∙ ap (λ xs. started (names_on (has c.args.c) (map string_bytes xs))) c.as_slice.ensures.value in
    λ x syn.
    outcome-is s x most_nested c.unit_number-number.result (file_of (project_view p) c.args.unit) (plain_reading c.in_ok-reading.reading) (on (plain_reading c.read_source.new.reading)) start at (c.in-Ok.ensures s x are syn)

pub returns-in-Err : goal.returns-in-Err
returns-in-Err c =
    let p = c.args.project.now in
    let s = sources_of (project_view p) (plain_files c.args.files.now) (has c.args.c) in
    let are : AreSources (record { files = c.as_slice-2.result; headers = c.as_slice-3.result; features = c.as_slice-4.result }) s = record {
      files = ap (λ (fs : List SourceFile). map plain_file fs) (sym c.as_slice-2.ensures.value);
      headers = ap (λ xs. map string_bytes xs) (sym c.as_slice-3.ensures.value);
      features = ap (λ xs. map string_bytes xs) (sym c.as_slice-4.ensures.value);
    } in
    let at : c.unit_number-number.result ≡ file_of (project_view p) c.args.unit = omega (arith, p.headers.ok.0, length-map p.headers.items string_bytes) in
    let start = c.in_ok-reading.ensures ∙ ap (λ xs. started (names_on (has c.args.c) (map string_bytes xs))) c.as_slice.ensures.value in
    says-unit s most_nested c.unit_number-number.result (file_of (project_view p) c.args.unit) (plain_reading c.in_ok-reading.reading) c.in-Err.error start at refl (λ x syn. c.in-Err.ensures s x are syn)
