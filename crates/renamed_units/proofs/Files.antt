-- The files of a project and of the renamed one.
use Rattle.std.proofs.Common.{◌≡◌, ℕ, zero, suc, ◌+◌, ◌<◌, ◌≤◌, Bool, true, false, cond, List, [], ◌∷◌, ◌++◌, map, length, take, drop, Some, None, refl, ap, sym, ◌∙◌, subst, inl, inr, arith}
use Rattle.std.specs.Prelude.{◌⊎◌, slice_index_or}
use Rattle.std.specs.List.{AllByRecursion, list_any}
use Rattle.std.specs.Str.{bytes_eq}
use Rattle.std.proofs.lemmas.Bool.{cases_lt}
use Rattle.std.proofs.lemmas.List.Elements.{recursion_from_All}
use Rattle.text_edits.specs.Span.{PlainSpan}
use Rattle.text_edits.specs.Files.{PlainFile}
use Rattle.c_text.specs.Token.{PlainToken}
use Rattle.c_text.specs.Lines.{PlainLine, AreItsLines}
use Rattle.c_text.specs.Macros.{feature}
use Rattle.c_text.specs.Preprocessing.{Source, project_file, stdio, stdlib, Sources, Syntax, IsSyntaxOf, IsFile, file_at, source_name, built_in_file, built_in_text, feature_token, at_start}
use Rattle.file_edits.specs.Edits.{edited_from}
use Rattle.renamings.specs.Renamings.{Renaming, renamed_bytes, renamed_files, moved, renamed_line, IsNameAt, AreNamesOf, FitsFiles}
use Rattle.active_tokens.specs.Active.{AreMisplaced, misplaced_in}
use Rattle.c_lexer.specs.Laws.{LinesAreOne}
use Rattle.renamed_units.proofs.Alike.{OnlyMoved, AlikeFound, AlikeReadings}
use Rattle.renamed_units.specs.Renamed.{renamed_sources}
use Rattle.renamings.specs.Laws.{LinesAreRenamed}
use Rattle.renamed_units.proofs.Runs.{IsStanding}
use Rattle.renamed_units.proofs.Walks.{IsLine}
use Rattle.renamings.proofs.SpanLemmas.{RiseFrom}
use Rattle.renamed_units.proofs.Places.{AtIn, standing-in}
use Rattle.renamed_units.proofs.Tokens.{entries, EntriesRise, entries-rise}
use Rattle.renamed_units.proofs.Names.{lines-fit, standing-of, chain-of, ends-of, new-some}
use Rattle.renamed_units.proofs.Lengths.{length-moves}
use Rattle.renamed_units.proofs.Sources.{IsThere, IsRenamedFile}

-- ---- files by their numbers

abbrev no_file_there : PlainFile
no_file_there = record { name = []; bytes = [] }

renamed-length : (r : Renaming) (from : ℕ) (files : List PlainFile) → length (renamed_files r from files) ≡ length files
renamed-length r from [] = refl
renamed-length r from (f ∷ files) = let later = renamed-length r (suc from) files in cc

renamed-bytes-at : (r : Renaming) (from : ℕ) (files : List PlainFile) (k : ℕ) → k < length files → (slice_index_or (renamed_files r from files) k no_file_there).bytes ≡ renamed_bytes r (from + k) (slice_index_or files k no_file_there).bytes
renamed-bytes-at r from [] k h = absurd (omega (arith, h))
renamed-bytes-at r from (f ∷ files) zero h = ap (λ (n : ℕ). renamed_bytes r n f.bytes) (omega arith)
renamed-bytes-at r from (f ∷ files) (suc k) h =
    renamed-bytes-at r (suc from) files k (omega (arith, h)) ∙ ap (λ (n : ℕ). renamed_bytes r n (slice_index_or files k no_file_there).bytes) (omega arith)

renamed-name-at : (r : Renaming) (from : ℕ) (files : List PlainFile) (k : ℕ) → (slice_index_or (renamed_files r from files) k no_file_there).name ≡ (slice_index_or files k no_file_there).name
renamed-name-at r from [] k = refl
renamed-name-at r from (f ∷ files) zero = refl
renamed-name-at r from (f ∷ files) (suc k) = renamed-name-at r (suc from) files k

record IsSplit (files : List PlainFile) (k : ℕ) : Type 0 where
  before : List PlainFile
  behind : List PlainFile
  count : length before ≡ k
  is : files ≡ before ++ slice_index_or files k no_file_there ∷ behind

split-at : (files : List PlainFile) (k : ℕ) → k < length files → IsSplit files k
split-at [] k h = absurd (omega (arith, h))
split-at (f ∷ files) zero h = record { before = []; behind = files; count = refl; is = refl }
split-at (f ∷ files) (suc k) h =
    let later = split-at files k (omega (arith, h)) in
    record { before = f ∷ later.before; behind = later.behind; count = ap suc later.count; is = ap (λ (l : List PlainFile). f ∷ l) later.is }

-- ---- without edits

unedited : (at : ℕ) (bytes : List ℕ) → edited_from at [] bytes ≡ bytes
unedited at [] = refl
unedited at (byte ∷ rest) = ap (λ (l : List ℕ). byte ∷ l) (unedited (suc at) rest)

unmoved-bytes : (r : Renaming) (number : ℕ) (bytes : List ℕ) → r.spans number ≡ [] → renamed_bytes r number bytes ≡ bytes
unmoved-bytes r number bytes e = rw e (unedited 0 bytes)

unmoved-place : (r : Renaming) (number at : ℕ) → r.spans number ≡ [] → moved r number at ≡ at
unmoved-place r number at e = rw e refl

pub each-take : {X : Type 0} (P : X → Type 0) (n : ℕ) (xs : List X) → AllByRecursion P xs → AllByRecursion P (take n xs)
each-take P zero xs a = tt
each-take P (suc n) [] a = tt
each-take P (suc n) (x ∷ xs) a = (a.0, each-take P n xs a.1)

pub each-drop : {X : Type 0} (P : X → Type 0) (n : ℕ) (xs : List X) → AllByRecursion P xs → AllByRecursion P (drop n xs)
each-drop P zero xs a = a
each-drop P (suc n) [] a = tt
each-drop P (suc n) (x ∷ xs) a = each-drop P n xs a.1

take-map : {X Y : Type 0} (f : X → Y) (n : ℕ) (xs : List X) → take n (map f xs) ≡ map f (take n xs)
take-map f zero xs = refl
take-map f (suc n) [] = refl
take-map f (suc n) (x ∷ xs) = ap (λ l. f x ∷ l) (take-map f n xs)

drop-map : {X Y : Type 0} (f : X → Y) (n : ℕ) (xs : List X) → drop n (map f xs) ≡ map f (drop n xs)
drop-map f zero xs = refl
drop-map f (suc n) [] = refl
drop-map f (suc n) (x ∷ xs) = drop-map f n xs

-- ---- sources that are renamed

-- the renamed spans of a file are those of the name
pub names-at : (r : Renaming) (s : Sources) → FitsFiles r s.files → (x : Syntax) (are : IsSyntaxOf s x) (number : ℕ) → number < length s.files → AreNamesOf r.old (are.lines number) (r.spans number)
names-at r s fits x are number there =
    let split = split-at s.files number there in
    fits.in_files number split.before (file_at s number) split.behind (are.lines number) split.count split.is (are.are_lines number there)

module _ (renamed : LinesAreRenamed) (one : LinesAreOne) (r : Renaming) (s : Sources) (fits : FitsFiles r s.files) (few : length s.files ≤ built_in_file) (x x' : Syntax) (are : IsSyntaxOf s x) (are' : IsSyntaxOf (renamed_sources r s) x') where
  -- nothing is renamed in the built-in file
  pub built-in-spans : r.spans built_in_file ≡ []
  built-in-spans = fits.elsewhere built_in_file few

  names-in : (number : ℕ) → number < length s.files → AreNamesOf r.old (are.lines number) (r.spans number)
  names-in number there = names-at r s fits x are number there

  each-name : (number : ℕ) (there : number < length s.files) → AllByRecursion (IsNameAt r.old (are.lines number)) (r.spans number)
  each-name number there = recursion_from_All (IsNameAt r.old (are.lines number)) (r.spans number) (names-in number there).names

  rise-in : (number : ℕ) (there : number < length s.files) → EntriesRise number (length (file_at s number).bytes) 0 (entries (are.lines number))
  rise-in number there = entries-rise number (file_at s number).bytes (are.lines number) (are.are_lines number there)

  pub standing-at : (number : ℕ) → IsStanding r (AtIn r number)
  standing-at number = either (cases_lt number (length s.files))
    where
      either : (number < length s.files) ⊎ (length s.files ≤ number) → IsStanding r (AtIn r number)
      either (inl there) = standing-of r number (length (file_at s number).bytes) (are.lines number) (rise-in number there) (names-in number there).ascending (each-name number there) fits.good
      either (inr over) = standing-in r number 0 (new-some r.new fits.good) (subst (λ (l : List PlainSpan). RiseFrom 0 l) (sym (fits.elsewhere number over)) tt)

  lines-same : (number : ℕ) → number < length s.files → are'.lines number ≡ map (renamed_line r number) (are.lines number)
  lines-same number there =
      let there' : number < length (renamed_sources r s).files = subst (λ (n : ℕ). number < n) (sym (renamed-length r 0 s.files)) there in
      let bytes : (file_at (renamed_sources r s) number).bytes ≡ renamed_bytes r number (file_at s number).bytes = renamed-bytes-at r 0 s.files number there ∙ ap (λ (n : ℕ). renamed_bytes r n (file_at s number).bytes) (omega arith) in
      one number (file_at (renamed_sources r s) number).bytes (are'.lines number) (map (renamed_line r number) (are.lines number)) (are'.are_lines number there')
      (subst (λ (b : List ℕ). AreItsLines number b (map (renamed_line r number) (are.lines number))) (sym bytes)
      (renamed r number (file_at s number).bytes (are.lines number) fits.good (are.are_lines number there) (names-in number there)))

  size-same : (number : ℕ) → number < length s.files → length (file_at (renamed_sources r s) number).bytes ≡ moved r number (length (file_at s number).bytes)
  size-same number there =
      ap (λ (b : List ℕ). length b) (renamed-bytes-at r 0 s.files number there) ∙ ap (λ (n : ℕ). length (renamed_bytes r n (file_at s number).bytes)) zero_plus
      ∙ length-moves number r.new (r.spans number) (file_at s number).bytes
      (chain-of r number (length (file_at s number).bytes) (are.lines number) (rise-in number there) (r.spans number) (names-in number there).ascending (each-name number there))
      (ends-of r number (length (file_at s number).bytes) (are.lines number) (rise-in number there) (r.spans number) (each-name number there))
    where
      zero_plus : 0 + number ≡ number
      zero_plus = omega arith

  -- ---- the built-in headers

  built-in-same : are'.built_in_lines ≡ map (renamed_line r built_in_file) are.built_in_lines
  built-in-same =
      one built_in_file built_in_text are'.built_in_lines (map (renamed_line r built_in_file) are.built_in_lines) are'.are_built_in
      (subst (λ (b : List ℕ). AreItsLines built_in_file b (map (renamed_line r built_in_file) are.built_in_lines)) (unmoved-bytes r built_in_file built_in_text built-in-spans)
      (renamed r built_in_file built_in_text are.built_in_lines fits.good are.are_built_in names))
    where
      names : AreNamesOf r.old are.built_in_lines (r.spans built_in_file)
      names = subst (λ (l : List PlainSpan). AreNamesOf r.old are.built_in_lines l) (sym built-in-spans) (record { ascending = tt; names = λ k d h. absurd (omega (arith, h)) })

  built-in-fit : AllByRecursion (IsLine r (AtIn r built_in_file) (standing-at built_in_file)) are.built_in_lines
  built-in-fit =
      lines-fit r built_in_file (length built_in_text) are.built_in_lines (entries-rise built_in_file built_in_text are.built_in_lines are.are_built_in)
      (subst (λ (l : List PlainSpan). AllByRecursion (IsNameAt r.old are.built_in_lines) l) (sym built-in-spans) tt) (standing-at built_in_file) fits.good

  module _ (misplaced : Source → List PlainToken) (told : AreMisplaced are misplaced) where
    built-in-of : (source : Source) (before after : List PlainLine) → after ≡ map (renamed_line r built_in_file) before → AllByRecursion (IsLine r (AtIn r built_in_file) (standing-at built_in_file)) before
        → (is : IsFile built_in_file (length built_in_text) before (x.part_of source) (x.broken_in source)) → IsFile built_in_file (length built_in_text) after (x'.part_of source) (x'.broken_in source) → misplaced source ≡ misplaced_in is.is_read → source_name (renamed_sources r s) source ≡ source_name s source
        → IsRenamedFile r s (renamed_sources r s) x x' misplaced standing-at source
    built-in-of source before after e fit is is' m n = record {
      file = built_in_file;
      size = length built_in_text;
      size' = length built_in_text;
      lines = before;
      fit = fit;
      size_moves = sym (unmoved-place r built_in_file (length built_in_text) built-in-spans);
      is = is;
      is' = subst (λ (l : List PlainLine). IsFile built_in_file (length built_in_text) l (x'.part_of source) (x'.broken_in source)) e is';
      misplaced_is = m;
      name = n;
    }

    pub renamed-file : (source : Source) → IsThere s source → IsRenamedFile r s (renamed_sources r s) x x' misplaced standing-at source
    renamed-file (project_file number) there =
        let there' : number < length (renamed_sources r s).files = subst (λ (n : ℕ). number < n) (sym (renamed-length r 0 s.files)) there in
        record {
          file = number;
          size = length (file_at s number).bytes;
          size' = length (file_at (renamed_sources r s) number).bytes;
          lines = are.lines number;
          fit = lines-fit r number (length (file_at s number).bytes) (are.lines number) (rise-in number there) (each-name number there) (standing-at number) fits.good;
          size_moves = size-same number there;
          is = are.are_files number there;
          is' =
              subst (λ (l : List PlainLine). IsFile number (length (file_at (renamed_sources r s) number).bytes) l (x'.part_of (project_file number)) (x'.broken_in (project_file number))) (lines-same number there)
              (are'.are_files number there');
          misplaced_is = told.in_files number there;
          name = renamed-name-at r 0 s.files number;
        }
    renamed-file stdio there =
        built-in-of stdio (take 5 are.built_in_lines) (take 5 are'.built_in_lines) (ap (λ (l : List PlainLine). take 5 l) built-in-same ∙ take-map (renamed_line r built_in_file) 5 are.built_in_lines)
        (each-take (IsLine r (AtIn r built_in_file) (standing-at built_in_file)) 5 are.built_in_lines built-in-fit) are.stdio_is are'.stdio_is told.in_stdio refl
    renamed-file stdlib there =
        built-in-of stdlib (drop 5 are.built_in_lines) (drop 5 are'.built_in_lines) (ap (λ (l : List PlainLine). drop 5 l) built-in-same ∙ drop-map (renamed_line r built_in_file) 5 are.built_in_lines)
        (each-drop (IsLine r (AtIn r built_in_file) (standing-at built_in_file)) 5 are.built_in_lines built-in-fit) are.stdlib_is are'.stdlib_is told.in_stdlib refl

-- ---- the start of a unit

pub start-alike : (r : Renaming) (s s' : Sources) → r.spans built_in_file ≡ [] → s'.on_features ≡ s.on_features → AlikeReadings r (at_start s) (at_start s')
start-alike r s s' e f = record { tables = λ name. found name; tokens = refl; names = tt }
  where
    token : OnlyMoved r feature_token feature_token
    token = record {
      kind = refl;
      untouched = rw e refl;
      text = refl;
      joined = refl;
      file = refl;
      span = rw e refl;
      place = refl;
    }

    either : (b : Bool) → AlikeFound r (cond b (Some (feature feature_token)) None) (cond b (Some (feature feature_token)) None)
    either true = token
    either false = tt

    found : (name : List ℕ) → AlikeFound r ((at_start s).table name) ((at_start s').table name)
    found name =
        subst (λ (l : List (List ℕ)). AlikeFound r ((at_start s).table name) (cond (list_any (bytes_eq name) l) (Some (feature feature_token)) None)) (sym f)
        (either (list_any (bytes_eq name) s.on_features))
