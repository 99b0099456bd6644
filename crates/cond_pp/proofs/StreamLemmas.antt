-- What a unit gives, by what is seen of its reading.
use Rattle.std.proofs.Common.{◌≡◌, ℕ, suc, ◌+◌, ◌<◌, Bool, true, false, List, [], ◌∷◌, ◌++◌, ◌≤◌, length, map, All, add-one, Option, Some, None, refl, sym, ap, ◌∙◌, arith}
use Rattle.std.specs.Prelude.{if◌then◌else◌, ◌||◌, ◌&&◌}
use Rattle.std.specs.List.{list_any}
use Rattle.std.specs.Str.{bytes_eq}
use Rattle.std.proofs.Math.Path.{fun_ext}
use Rattle.std.proofs.lemmas.List.{length-map, length-append}
use Rattle.std.proofs.lemmas.List.Elements.{All-nil, All-cons, All-head, All-tail}
use Rattle.std.specs.String.{string_bytes}
use Rattle.text_edits.specs.declared.files.SourceFile.{SourceFile}
use Rattle.text_edits.specs.declared.files.Files.{Files}
use Rattle.text_edits.specs.Files.{PlainFile, plain_file, plain_files}
use Rattle.project_file.specs.declared.projects.Project.{Project}
use Rattle.project_file.specs.View.{project_view, unit_view}
use Rattle.project_store.specs.Reads.{names_of}
use Rattle.plain_pp.specs.Units.{sources_of, file_of}
use Rattle.cond_formula.specs.Conditions.{Condition, Always, condition_of, value}
use Rattle.cond_tokens.specs.Streams.{tokens_at}
use Rattle.c_text.specs.Macros.{Table, Meaning, feature}
use Rattle.c_text.specs.Token.{PlainToken}
use Rattle.c_text.specs.Preprocessing.{Reading, Flow, Refusal, Source, Sources, Syntax, Outcome, IsSyntaxOf, IsPreprocessed, on, refused, gives, is_refused, unbalanced, outcome_of, preprocessed, read_source, project_file, most_nested, at_start, feature_token}
use Rattle.active_tokens.specs.Active.{reads_of_source, reads_of_unit}
use Rattle.project_file.specs.Projects.{names_from, names_on}
use Rattle.macro_table.specs.MacroTables.{table_at}
use Rattle.macro_table.specs.Features.{is_feature_on}
use Rattle.unit_outcomes.specs.Laws.{HasFiles, UnitsHaveOutcomes}
use Rattle.cond_readings.specs.Readings.{came_to, taken, reading_at, table_in}
use Rattle.cond_readings.specs.declared.readings.CondReading.{CondReading}
use Rattle.cond_pp.specs.Streams.{IsStreamAt}
use Rattle.cond_pp.specs.Watches.{read_where}

-- ---- where a reading begins

and-true : (b : Bool) → (b && true) ≡ b
and-true true = refl
and-true false = refl

and-false : (b : Bool) → (b && false) ≡ false
and-false true = refl
and-false false = refl

feature-one : (is : List ℕ → Bool) (first : List ℕ) (rest : List (List ℕ)) (b found : Bool) → found ≡ list_any is rest → ((is first && b) || found) ≡ list_any is (if b then first ∷ rest else rest)
feature-one is first rest true found h = ap (λ (k : Bool). k || found) (and-true (is first)) ∙ ap (λ (k : Bool). is first || k) h
feature-one is first rest false found h = ap (λ (k : Bool). k || found) (and-false (is first)) ∙ h

feature-on : (features : ℕ → Bool) (i : ℕ) (names : List (List ℕ)) (name : List ℕ) → is_feature_on features i names name ≡ list_any (bytes_eq name) (names_from i features names)
feature-on features i [] name = refl
feature-on features i (first ∷ rest) name =
    feature-one (bytes_eq name) first (names_from (i + 1) features rest) (features i) (is_feature_on features (suc i) rest name)
    (feature-on features (suc i) rest name ∙ ap (λ (n : ℕ). list_any (bytes_eq name) (names_from n features rest)) (sym (add-one i)))

start-is : (features : ℕ → Bool) (names : List (List ℕ)) (table : Table) (tokens : List PlainToken) (s : Sources) → ((name : List ℕ) → table name ≡ None) → tokens ≡ [] → s.on_features ≡ names_from 0 features names → record { table = λ name. if is_feature_on features 0 names name then Some (feature feature_token) else table name; tokens = tokens } ≡ at_start s
start-is features names table tokens s none tokens_are features_are =
    let same : (name : List ℕ) → (if is_feature_on features 0 names name then Some (feature feature_token) else table name) ≡ (at_start s).table name =
    λ name.
    ap (λ (b : Bool). if b then Some (feature feature_token) else table name) (feature-on features 0 names name)
    ∙ ap (λ (ns : List (List ℕ)). if list_any (bytes_eq name) ns then Some (feature feature_token) else table name) (sym features_are)
    ∙ ap (λ (o : Option Meaning). if list_any (bytes_eq name) s.on_features then Some (feature feature_token) else o) (none name)
    in
    ap (λ (t : Table). let r : Reading = record { table = t; tokens = tokens } in r) (fun_ext same)
    ∙ ap (λ (ts : List PlainToken). let r : Reading = record { table = (at_start s).table; tokens = ts } in r) tokens_are

pub starts : (features : ℕ → Bool) (names : List (List ℕ)) (r : CondReading) (s : Sources) → value features (condition_of r.refused) ≡ false → ((name : List ℕ) → table_at features r.table name ≡ None) → r.tokens.items ≡ [] → s.on_features ≡ names_on features names → reading_at features names r ≡ Some (at_start s)
starts features names r s refused_off none tokens_are features_are =
    ap (λ (b : Bool). if b then None else Some (let a : Reading = record { table = table_in features names r.table; tokens = tokens_at features r.tokens.items } in a)) refused_off
    ∙ ap (λ (a : Reading). Some a) (start-is features names (table_at features r.table) (tokens_at features r.tokens.items) s none (ap (λ ts. tokens_at features ts) tokens_are) features_are)

-- the reading of a unit's file, where nothing is read before it
pub unit-read : (features : ℕ → Bool) (s : Sources) (x : Syntax) (number place : ℕ) (when : Condition) (start new : Option Reading) → when ≡ Always → start ≡ Some (at_start s) → number ≡ place → new ≡ taken (value features when) (λ r. read_source s x most_nested (project_file number) r) start → new ≡ came_to (preprocessed s x place)
unit-read features s x number place when start new when_is start_is number_is read =
    read
    ∙ ap (λ (a : Condition). taken (value features a) (λ r. read_source s x most_nested (project_file number) r) start) when_is
    ∙ ap (λ (o : Option Reading). taken true (λ r. read_source s x most_nested (project_file number) r) o) start_is
    ∙ ap (λ (n : ℕ). came_to (preprocessed s x n)) number_is

-- what it reads
pub unit-reads : (features : ℕ → Bool) (s : Sources) (x : Syntax) (misplaced : Source → List PlainToken) (number place : ℕ) (when : Condition) (start : Option Reading) → when ≡ Always → start ≡ Some (at_start s) → number ≡ place → read_where (value features when) (λ r. reads_of_source s x misplaced most_nested (project_file number) r) start ≡ reads_of_unit s x misplaced place
unit-reads features s x misplaced number place when start when_is start_is number_is =
    ap (λ (a : Condition). read_where (value features a) (λ r. reads_of_source s x misplaced most_nested (project_file number) r) start) when_is
    ∙ ap (λ (o : Option Reading). read_where true (λ r. reads_of_source s x misplaced most_nested (project_file number) r) o) start_is
    ∙ ap (λ (n : ℕ). reads_of_unit s x misplaced n) number_is

-- ---- what becomes of a unit

-- where a reading is refused it gives nothing
refused-gives : {A : Type 0} (flow : Flow) (tokens : List PlainToken) → outcome_of flow ≡ gives tokens → None ≡ came_to flow → A
refused-gives (on r) tokens h none = cc
refused-gives (refused why) tokens h none = cc

why-of : (s : Sources) (number : ℕ) (outcome : Outcome) → IsPreprocessed s number outcome → ((x : Syntax) → IsSyntaxOf s x → None ≡ came_to (preprocessed s x number)) → (why : Refusal) × IsPreprocessed s number (is_refused why)
why-of s number (is_refused why) is none = (why, is)
why-of s number (gives tokens) is none =
    (record { kind = unbalanced; file = 0; span = record { start = 0; end = 0 } }, λ x syntax. refused-gives (preprocessed s x number) tokens (is x syntax) (none x syntax))

-- a unit that is refused however it is read has one refusal
is-refused : UnitsHaveOutcomes → (s : Sources) (number : ℕ) → HasFiles s number → ((x : Syntax) → IsSyntaxOf s x → None ≡ came_to (preprocessed s x number)) → (why : Refusal) × IsPreprocessed s number (is_refused why)
is-refused have s number files none =
    let outcome = have s number files in
    why-of s number outcome.0 outcome.1 none

gives-tokens : (flow : Flow) (r : Reading) → Some r ≡ came_to flow → outcome_of flow ≡ gives r.tokens
gives-tokens (on r') r h =
    let e : r' ≡ r = cc in
    ap (λ (k : Reading). gives k.tokens) e
gives-tokens (refused why) r h = cc

does-give : (s : Sources) (number : ℕ) (r : Reading) → ((x : Syntax) → IsSyntaxOf s x → Some r ≡ came_to (preprocessed s x number)) → IsPreprocessed s number (gives r.tokens)
does-give s number r read = λ x syntax. gives-tokens (preprocessed s x number) r (read x syntax)

-- what is seen of a reading is what the unit gives
pub stream-is : UnitsHaveOutcomes → (features : ℕ → Bool) (names : List (List ℕ)) (s : Sources) (number : ℕ) → HasFiles s number → (r : CondReading) → ((x : Syntax) → IsSyntaxOf s x → reading_at features names r ≡ came_to (preprocessed s x number)) → IsStreamAt features s number (record { tokens = r.tokens; refused = r.refused })
stream-is have features names s number files r read =
    let there : Reading = record { table = table_in features names r.table; tokens = tokens_at features r.tokens.items } in
    let shown : (b : Bool) → value features (condition_of r.refused) ≡ b → (x : Syntax) → IsSyntaxOf s x → (if b then None else Some there) ≡ came_to (preprocessed s x number) =
    λ b h x syntax. sym (ap (λ (k : Bool). if k then None else Some there) h) ∙ read x syntax
    in
    record {
      refused = λ h. is-refused have s number files (shown true h);
      tokens = λ h. does-give s number there (shown false h);
    }

-- ---- the files of a project

pub files-named : (files : List SourceFile) (headers units : List (List ℕ)) → map (λ f. f.name) (map plain_file files) ≡ headers ++ units → length files ≡ length headers + length units
files-named files headers units h =
    sym (length-map files plain_file) ∙ sym (length-map (map plain_file files) (λ f. f.name)) ∙ ap length h ∙ length-append headers units

-- a unit of a project has a file, and so has each header
pub has-files : (p : Project) (files : Files) (features : ℕ → Bool) (unit : ℕ) → unit < length p.units.items → map (λ f. f.name) (plain_files files) ≡ names_of (project_view p) → HasFiles (sources_of (project_view p) (plain_files files) features) (file_of (project_view p) unit)
has-files p files features unit there named =
    let view = project_view p in
    let list = files.list.items in
    let headers = length-map p.headers.items string_bytes in
    let units = length-map p.units.items unit_view in
    let counted = files-named list view.headers (map (λ u. u.file) view.units) named in record {
      unit = omega (arith, length-map list plain_file, length-map view.units (λ u. u.file));
      headers = omega (arith, length-map list plain_file);
    }

abbrev IsShort : PlainFile → Type 0
IsShort f = length f.bytes ≤ 4294967295

pub all-short : (files : List SourceFile) → All IsShort (map plain_file files) → All (λ f. length f.bytes.items ≤ 4294967295) files
all-short [] h = All-nil (λ f. length f.bytes.items ≤ 4294967295)
all-short (f ∷ files) h =
    All-cons (λ g. length g.bytes.items ≤ 4294967295) f files (All-head IsShort (plain_file f) (map plain_file files) h) (all-short files (All-tail IsShort (plain_file f) (map plain_file files) h))
