-- What becomes of a unit by the reading of its file.
use Rattle.std.proofs.Common.{◌≡◌, ℕ, ◌+◌, ◌≤◌, List, [], ◌∷◌, ◌++◌, length, map, All, ap, sym, ◌∙◌}
use Rattle.std.proofs.lemmas.List.{length-map, length-append}
use Rattle.std.proofs.lemmas.List.Elements.{All-nil, All-cons, All-head, All-tail}
use Rattle.text_edits.specs.declared.files.SourceFile.{SourceFile}
use Rattle.text_edits.specs.Files.{PlainFile, plain_file}
use Rattle.c_text.specs.Preprocessing.{Reading, Flow, Sources, Syntax, IsSyntaxOf, outcome_of, refused, read_source, project_file, at_start, most_nested}
use Rattle.plain_pp.specs.declared.errors.PpError.{PpError}
use Rattle.plain_pp.specs.declared.errors.PpError.TheVariants.{Refused, Memory}
use Rattle.unit_files.specs.Refusals.{refusal_view}
use Rattle.plain_pp.specs.Results.{Says}
use Rattle.plain_pp.specs.Units.{WhyNone}

pub outcome-is : (s : Sources) (x : Syntax) (more number place : ℕ) (r : Reading) (flow : Flow) → r ≡ at_start s → number ≡ place → read_source s x more (project_file number) r ≡ flow → outcome_of (read_source s x more (project_file place) (at_start s)) ≡ outcome_of flow
outcome-is s x more number place r flow start at h =
    ap outcome_of (ap (λ n. read_source s x more (project_file n) (at_start s)) (sym at) ∙ ap (λ v. read_source s x more (project_file number) v) (sym start) ∙ h)

pub files-named : (files : List SourceFile) (headers units : List (List ℕ)) → map (λ f. f.name) (map plain_file files) ≡ headers ++ units → length files ≡ length headers + length units
files-named files headers units h =
    sym (length-map files plain_file) ∙ sym (length-map (map plain_file files) (λ f. f.name)) ∙ ap length h ∙ length-append headers units

pub says-unit : (s : Sources) (more number place : ℕ) (r : Reading) (e : PpError) → r ≡ at_start s → number ≡ place → more ≡ most_nested → ((x : Syntax) → IsSyntaxOf s x → Says e (λ why. read_source s x more (project_file number) r ≡ refused why)) → WhyNone s place e
says-unit s more number place r (Refused kind at) start same nested h =
    λ x syn.
    ap (λ n. outcome_of (read_source s x n (project_file place) (at_start s))) (sym nested)
    ∙ outcome-is s x more number place r (refused (refusal_view kind at)) start same (h x syn)
says-unit s more number place r Memory start same nested h = tt

abbrev IsShort : PlainFile → Type 0
IsShort f = length f.bytes ≤ 4294967295

pub all-short : (files : List SourceFile) → All IsShort (map plain_file files) → All (λ f. length f.bytes.items ≤ 4294967295) files
all-short [] h = All-nil (λ f. length f.bytes.items ≤ 4294967295)
all-short (f ∷ files) h =
    All-cons (λ g. length g.bytes.items ≤ 4294967295) f files (All-head IsShort (plain_file f) (map plain_file files) h) (all-short files (All-tail IsShort (plain_file f) (map plain_file files) h))
