use Rattle.std.proofs.Common.{◌≡◌, ℕ, ◌<◌, ◌≤◌, ◌||◌, List, length, map, All, ap, sym, ◌∙◌, subst, arith}
use Rattle.std.specs.String.{string_bytes}
use Rattle.std.proofs.lemmas.List.{length-map}
use Rattle.text_edits.specs.declared.files.SourceFile.{SourceFile}
use Rattle.text_edits.specs.Files.{plain_file, plain_files}
use Rattle.cond_formula.specs.Features.{has}
use Rattle.cond_formula.specs.declared.formulas.Formula.{True}
use Rattle.cond_formula.specs.Conditions.{condition_of, value}
use Rattle.cond_formula.specs.ConditionLaws.{condition_of-True}
use Rattle.active_tokens.specs.Reads.{Read}
use Rattle.project_file.specs.Projects.{names_on}
use Rattle.project_file.specs.View.{project_view, unit_view}
use Rattle.unit_files.specs.SourceFiles.{AreSources}
use Rattle.cond_readings.specs.Readings.{reading_at}
use Rattle.plain_pp.specs.Units.{sources_of, file_of}
use Rattle.cond_pp.specs.Watches.{is_seen}
use Rattle.cond_pp.proofs.StreamLemmas.{starts, unit-read, unit-reads, files-named, all-short}
use Rattle.cond_pp.proofs.projects.read_unit.Goals as goal

pub read_source-requires-clause-small : goal.read_source-requires-clause-small
read_source-requires-clause-small g c =
    let files = c.args.files.now.list.items in
    let p = c.args.project.now in
    let n = files-named files (map string_bytes p.headers.items) (map (λ u. u.file) (map unit_view p.units.items)) c.requires.named in
    let headers = length-map p.headers.items string_bytes in
    record {
      short = subst (λ (fs : List SourceFile). All (λ f. length f.bytes.items ≤ 4294967295) fs) (sym c.as_slice.ensures.value) (all-short files c.requires.short);
      few = subst (λ (fs : List SourceFile). length fs < 4294967295) (sym c.as_slice.ensures.value) c.requires.few;
      headers = omega (arith, ap length c.as_slice.ensures.value, ap length c.as_slice-2.ensures.value);
    }

pub returns-clause-read : goal.returns-clause-read
returns-clause-read g c =
    λ k x adm syntax.
    let features = has k in
    let p = c.args.project.now in
    let view = project_view p in
    let s = sources_of view (plain_files c.args.files.now) features in
    let are : AreSources (record { files = c.as_slice.result; headers = c.as_slice-2.result; features = c.as_slice-3.result }) s = record {
      files = ap (λ (fs : List SourceFile). map plain_file fs) (sym c.as_slice.ensures.value);
      headers = ap (λ xs. map string_bytes xs) (sym c.as_slice-2.ensures.value);
      features = ap (λ xs. map string_bytes xs) (sym c.as_slice-3.ensures.value);
    } in
    let names = map string_bytes c.as_slice-3.result.now in
    let at : c.unit_number-number.result ≡ file_of view c.args.unit = omega (arith, p.headers.ok.0, length-map p.headers.items string_bytes) in
    let start = starts features names c.new-reading.result s (c.new-reading.ensures.refused features) (c.new-reading.ensures.table features) c.new-reading.ensures.tokens (ap (λ (ns : List (List ℕ)). names_on features ns) are.features) in
    ap (λ (ns : List (List ℕ)). reading_at features ns c.read_source.new.reading) are.features
    ∙ unit-read features s x c.unit_number-number.result (file_of view c.args.unit) (condition_of True) (reading_at features names c.new-reading.result) (reading_at features names c.read_source.new.reading) condition_of-True start at (c.in_ok-read_source.ensures.read k s x adm are syntax)

pub returns-clause-found : goal.returns-clause-found
returns-clause-found g c =
    λ k x is misplaced adm are_misplaced.
    let features = has k in
    let p = c.args.project.now in
    let view = project_view p in
    let watch = c.args.watch.now in
    let s = sources_of view (plain_files c.args.files.now) features in
    let are : AreSources (record { files = c.as_slice.result; headers = c.as_slice-2.result; features = c.as_slice-3.result }) s = record {
      files = ap (λ (fs : List SourceFile). map plain_file fs) (sym c.as_slice.ensures.value);
      headers = ap (λ xs. map string_bytes xs) (sym c.as_slice-2.ensures.value);
      features = ap (λ xs. map string_bytes xs) (sym c.as_slice-3.ensures.value);
    } in
    let names = map string_bytes c.as_slice-3.result.now in
    let at : c.unit_number-number.result ≡ file_of view c.args.unit = omega (arith, p.headers.ok.0, length-map p.headers.items string_bytes) in
    let start = starts features names c.new-reading.result s (c.new-reading.ensures.refused features) (c.new-reading.ensures.table features) c.new-reading.ensures.tokens (ap (λ (ns : List (List ℕ)). names_on features ns) are.features) in
    c.in_ok-read_source.ensures.found k s x is misplaced adm are are_misplaced
    ∙ ap (λ (l : List Read). value features (condition_of watch.found) || is_seen watch l) (unit-reads features s x misplaced c.unit_number-number.result (file_of view c.args.unit) (condition_of True) (reading_at features names c.new-reading.result) condition_of-True start at)
