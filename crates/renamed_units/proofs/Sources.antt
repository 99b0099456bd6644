-- Files and renamed files are read alike, however deep they are nested.
use Rattle.std.proofs.Common.{◌≡◌, ℕ, zero, suc, ◌+◌, Bool, true, false, cond, List, [], ◌∷◌, ◌++◌, map, length, Option, Some, None, refl, ap, sym, ◌∙◌, subst, arith}
use Rattle.std.specs.Prelude.{⊤, ℤ, ◌<◌, ◌≤◌, option_map, codes}
use Rattle.std.specs.List.{AllByRecursion, list_any, flat_map}
use Rattle.std.specs.Str.{bytes_eq}
use Rattle.text_edits.specs.Span.{PlainSpan}
use Rattle.c_text.specs.Token.{PlainToken}
use Rattle.c_text.specs.Lines.{PlainLine}
use Rattle.c_text.specs.Constants.{inside}
use Rattle.c_text.specs.Expressions.{word_of, HasValue}
use Rattle.c_text.specs.Trees.{Part, Role, role_of}
use Rattle.c_text.specs.Preprocessing.{Refusal, unbalanced, Reading, Flow, Source, project_file, stdio, stdlib, built_in, place_in, header_at, or_source, quoted_source, source_of, without_ends, resolved, folder, components, IsSyntaxOf, Setting, read_part, Sources, Syntax, setting, source_name, read_source, IsFile, span_of_hash}
use Rattle.renamings.specs.Renamings.{Renaming, moved, moved_span, renamed_token, renamed_line}
use Rattle.active_tokens.specs.Reads.{Read, Following, reads_of_part}
use Rattle.active_tokens.specs.Active.{following, reads_of_source, misplaced_in}
use Rattle.file_walks.specs.Laws.{PartsAreWalked, FilesBreak}
use Rattle.file_walks.specs.Nests as nests
use Rattle.file_walks.specs.Nests.{Nest, nest_behind, behind_role, by_place, break_at, break_of}
use Rattle.file_walks.specs.Walk.{walked, start}
use Rattle.read_walks.specs.WalkReads.{reads_of_walk, one_by_one, by_token}
use Rattle.read_walks.specs.Laws.{ReadsAreWalked}
use Rattle.renamed_units.specs.Pairs.{Pairs}
use Rattle.renamed_units.proofs.Alike.{AlikeReadings, AlikeFlows}
use Rattle.renamed_units.specs.Renamed.{moved_refusal}
use Rattle.renamed_units.proofs.Runs.{IsStanding}
use Rattle.renamed_units.proofs.Directives.{role-moved}
use Rattle.renamed_units.proofs.Readings.{IsQuietIn, IsQuiet, AreQuiet, AlikeDeeper, AlikeSettings}
use Rattle.renamed_units.proofs.Places.{AtIn}
use Rattle.renamed_units.proofs.Walks.{each-append, each-left, each-right, IsToken, IsLine, all-moved, walked-alike}
use Rattle.renamed_units.proofs.WalkReads.{AlikeReads, AreAlikeReads, AlikeDeeperReads, walk-reads}

-- ---- what is read token by token

module _ (r : Renaming) where
  one-quiet : (read : Read) → IsQuiet r read → AreQuiet r (one_by_one read)
  one-quiet read q = each read.tokens q
    where
      each : (tokens : List PlainToken) → AllByRecursion (IsQuietIn r read.table) tokens → AreQuiet r (map (λ token. record read { tokens = token ∷ [] }) tokens)
      each [] q = tt
      each (t ∷ tokens) q = ((q.0, tt), each tokens q.1)

  quiet-one : (read : Read) → AreQuiet r (one_by_one read) → IsQuiet r read
  quiet-one read q = each read.tokens q
    where
      each : (tokens : List PlainToken) → AreQuiet r (map (λ token. record read { tokens = token ∷ [] }) tokens) → AllByRecursion (IsQuietIn r read.table) tokens
      each [] q = tt
      each (t ∷ tokens) q = (q.0.0, each tokens q.1)

  pub by-token-quiet : (all : List Read) → AreQuiet r all → AreQuiet r (by_token all)
  by-token-quiet [] q = tt
  by-token-quiet (read ∷ all) q = each-append (IsQuiet r) (one_by_one read) (by_token all) (one-quiet read q.0) (by-token-quiet all q.1)

  pub quiet-by-token : (all : List Read) → AreQuiet r (by_token all) → AreQuiet r all
  quiet-by-token [] q = tt
  quiet-by-token (read ∷ all) q =
      (quiet-one read (each-left (IsQuiet r) (one_by_one read) (by_token all) q), quiet-by-token all (each-right (IsQuiet r) (one_by_one read) (by_token all) q))

-- ---- where files break

module _ (r : Renaming) (At : ℕ → PlainSpan → Type 0) (standing : IsStanding r At) (file : ℕ) (in_file : (other : ℕ) (span : PlainSpan) → At other span → other ≡ file) where
  abbrev new : PlainLine → PlainLine
  new line = renamed_line r file line

  abbrev Line : PlainLine → Type 0
  Line line = IsLine r At standing line

  nest-moved : (nest : Nest) (line : PlainLine) → Line line → nest_behind nest (new line) ≡ nest_behind nest line
  nest-moved nest line i = either line.directive refl
    where
      either : (b : Bool) → line.directive ≡ b → cond b (behind_role (role_of (new line).tokens) nest) (Some nest) ≡ cond b (behind_role (role_of line.tokens) nest) (Some nest)
      either true e = ap (λ (role : Role). behind_role role nest) (role-moved r At standing line.tokens (new line).tokens (all-moved r At standing line.tokens i.tokens (i.untouched e)))
      either false e = refl

  abbrev AlikeLines : Option PlainLine → Option PlainLine → Type 0
  AlikeLines None None = ⊤
  AlikeLines None (Some m) = ⊥
  AlikeLines (Some l) None = ⊥
  AlikeLines (Some l) (Some m) = (m ≡ new l) × Line l

  by-place-alike : (line : PlainLine) → Line line → (n : Option Nest) (others others' : Nest → Option PlainLine) → ((next : Nest) → AlikeLines (others next) (others' next)) → AlikeLines (by_place n line others) (by_place n (new line) others')
  by-place-alike line i None others others' k = (refl, i)
  by-place-alike line i (Some next) others others' k = k next

  misplaced-alike : (lines : List PlainLine) (nest : Nest) → AllByRecursion Line lines → AlikeLines (nests.misplaced_in nest lines) (nests.misplaced_in nest (map new lines))
  misplaced-alike [] nest i = tt
  misplaced-alike (line ∷ lines) nest i =
      subst (λ (n : Option Nest). AlikeLines (nests.misplaced_in nest (line ∷ lines)) (by_place n (new line) (λ next. nests.misplaced_in next (map new lines)))) (sym (nest-moved nest line i.0))
      (by-place-alike line i.0 (nest_behind nest line) (λ next. nests.misplaced_in next lines) (λ next. nests.misplaced_in next (map new lines))
      (λ next. misplaced-alike lines next i.1))

  break-at-moved : (line : PlainLine) → Line line → break_at file (new line) ≡ moved_refusal r (break_at file line)
  break-at-moved line i = hash line.tokens i.tokens
    where
      hash : (tokens : List PlainToken) → AllByRecursion (IsToken r At standing) tokens
          → (let x : Refusal = record { kind = unbalanced; file = file; span = span_of_hash (map (renamed_token r) tokens) (moved_span r file line.span) } in x)
          ≡ moved_refusal r (record { kind = unbalanced; file = file; span = span_of_hash tokens line.span })
      hash [] t = refl
      hash (first ∷ rest) t = let e = in_file first.origin.file first.origin.span t.0.stands in cc

  break-moved : (size size' : ℕ) (l m : Option PlainLine) → size' ≡ moved r file size → AlikeLines l m → break_of file size' m ≡ moved_refusal r (break_of file size l)
  break-moved size size' None None e p = cc
  break-moved size size' None (Some m) e p = absurd p
  break-moved size size' (Some l) None e p = absurd p
  break-moved size size' (Some l) (Some m) e p = ap (λ (line : PlainLine). break_at file line) p.0 ∙ break-at-moved l p.1

  pub breaks-alike : FilesBreak → (size size' : ℕ) (lines : List PlainLine) (part part' : Part) (broken broken' : Refusal) → AllByRecursion Line lines → size' ≡ moved r file size → IsFile file size lines part broken → IsFile file size' (map new lines) part' broken' → broken' ≡ moved_refusal r broken
  breaks-alike breaks size size' lines part part' broken broken' i e is is' =
      breaks file size' (map new lines) part' broken' is' ∙ break-moved size size' (nests.misplaced_in [] lines) (nests.misplaced_in [] (map new lines)) e (misplaced-alike lines [] i)
      ∙ ap (moved_refusal r) (sym (breaks file size lines part broken is))

-- ---- one file

module _ (walks : PartsAreWalked) (are_read : ReadsAreWalked) (r : Renaming) (At : ℕ → PlainSpan → Type 0) (standing : IsStanding r At) (There : Source → Type 0) where
  pub part-alike : (s s' : Setting) (f : Following) → AlikeSettings r There s s' f → (file size size' : ℕ) (lines : List PlainLine) (part part' : Part) → AllByRecursion (IsLine r At standing) lines → (is : IsFile file size lines part s.broken) → IsFile file size' (map (renamed_line r file) lines) part' s'.broken → f.misplaced ≡ misplaced_in is.is_read
      → (a b : Reading) → AlikeReadings r a b → AreQuiet r (reads_of_part s f a part) → AlikeFlows r (read_part s a part) (read_part s' b part')
  part-alike s s' f settings file size size' lines part part' i is is' m a b t q =
      let quiet : AreQuiet r (reads_of_walk s f (start a) lines) =
      quiet-by-token r (reads_of_walk s f (start a) lines) (subst (λ (l : List Read). AreQuiet r l) (sym (are_read s f file size lines part a is m)) (by-token-quiet r (reads_of_part s f a part) q)) in
      let first : walked s (start a) lines ≡ read_part s a part = walks s file size lines part a is in
      let second : walked s' (start b) (map (renamed_line r file) lines) ≡ read_part s' b part' = walks s' file size' (map (renamed_line r file) lines) part' b is' in
      subst (λ (x : Flow). AlikeFlows r x (read_part s' b part')) first
      (subst (λ (y : Flow). AlikeFlows r (walked s (start a) lines) y) second
      (walked-alike r At standing There s s' f settings file lines (start a) (start b) i (record { reading = t; tokens = tt; run = refl; groups = refl }) quiet))

-- ---- which sources are found

abbrev pub IsThere : Sources → Source → Type 0
IsThere s (project_file number) = number < length s.files
IsThere s stdio = ⊤
IsThere s stdlib = ⊤

module _ (s : Sources) (enough : length s.headers ≤ length s.files) where
  abbrev WillBe : Option Source → Type 0
  WillBe None = ⊤
  WillBe (Some source) = IsThere s source

  place-below : (headers : List (List ℕ)) (number : ℕ) (name : List ℕ) → number + length headers ≤ length s.files → WillBe (option_map project_file (place_in headers number name))
  place-below [] number name h = tt
  place-below (header ∷ headers) number name h = either (bytes_eq header name) (place-below headers (suc number) name (omega (arith, h)))
    where
      either : (b : Bool) → WillBe (option_map project_file (place_in headers (suc number) name)) → WillBe (option_map project_file (cond b (Some number) (place_in headers (suc number) name)))
      either true later = omega (arith, h)
      either false later = later

  header-there : (name : Option (List ℕ)) → WillBe (header_at s.headers name)
  header-there None = tt
  header-there (Some name) = place-below s.headers 0 name (omega (arith, enough))

  either-there : (a b : Option Source) → WillBe a → WillBe b → WillBe (or_source a b)
  either-there None b p q = q
  either-there (Some source) b p q = p

  built-in-there : (name : List ℕ) → WillBe (built_in name)
  built-in-there name = first (bytes_eq name (codes "stdio.h")) (bytes_eq name (codes "stdlib.h"))
    where
      first : (b c : Bool) → WillBe (cond b (Some stdio) (cond c (Some stdlib) None))
      first true c = tt
      first false true = tt
      first false false = tt

  quoted-there : (includer name : List ℕ) → WillBe (quoted_source s.headers includer name)
  quoted-there includer name =
      either-there (header_at s.headers (resolved [] (folder (components includer) ++ components name))) (or_source (header_at s.headers (resolved [] (components name))) (built_in name))
      (header-there (resolved [] (folder (components includer) ++ components name)))
      (either-there (header_at s.headers (resolved [] (components name))) (built_in name) (header-there (resolved [] (components name))) (built-in-there name))

  source-there : (includer : List ℕ) (names : List PlainToken) → WillBe (source_of s.headers includer names)
  source-there includer [] = built-in-there (flat_map (λ token. token.text) (without_ends []))
  source-there includer (only ∷ []) = quoted-there includer (inside only.text)
  source-there includer (first ∷ second ∷ rest) = built-in-there (flat_map (λ token. token.text) (without_ends (first ∷ second ∷ rest)))

  pub found-there : (includer : List ℕ) (names : List PlainToken) (source : Source) → source_of s.headers includer names ≡ Some source → IsThere s source
  found-there includer names source e = subst WillBe e (source-there includer names)

-- ---- files of files

-- the values of expressions are told by their words
values-same : (s s' : Sources) (x x' : Syntax) → IsSyntaxOf s x → IsSyntaxOf s' x' → (as_ bs : List PlainToken) → map word_of bs ≡ map word_of as_ → x'.value_of bs ≡ x.value_of as_
values-same s s' x x' are are' as_ bs e = both (x.value_of as_) (x'.value_of bs) refl refl
  where
    value-moves : (as_ bs : List PlainToken) (z : ℤ) → map word_of bs ≡ map word_of as_ → HasValue as_ z → HasValue bs z
    value-moves as_ bs z e v = record { expression = v.expression; fits = v.fits; spells = e ∙ v.spells; low = v.low; value_is = v.value_is }

    both : (v v' : Option ℤ) → x.value_of as_ ≡ v → x'.value_of bs ≡ v' → v' ≡ v
    both (Some z) v' h k = sym k ∙ (are'.values bs z).1 (value-moves as_ bs z e ((are.values as_ z).0 h))
    both None None h k = refl
    both None (Some z) h k =
        let back : x.value_of as_ ≡ Some z = (are.values as_ z).1 (value-moves bs as_ z (sym e) ((are'.values bs z).0 k)) in
        let no : ⊥ = cc in absurd no

-- what is known of a source, before and after
module _ (r : Renaming) (s s' : Sources) (x x' : Syntax) (misplaced : Source → List PlainToken) (standing : (file : ℕ) → IsStanding r (AtIn r file)) where
  pub record IsRenamedFile (source : Source) : Type 0 where
    pub file : ℕ
    pub size : ℕ
    pub size' : ℕ
    pub lines : List PlainLine
    pub fit : AllByRecursion (IsLine r (AtIn r file) (standing file)) lines
    pub size_moves : size' ≡ moved r file size
    pub is : IsFile file size lines (x.part_of source) (x.broken_in source)
    pub is' : IsFile file size' (map (renamed_line r file) lines) (x'.part_of source) (x'.broken_in source)
    pub misplaced_is : misplaced source ≡ misplaced_in is.is_read
    pub name : source_name s' source ≡ source_name s source

  module _ (walks : PartsAreWalked) (breaks : FilesBreak) (are_read : ReadsAreWalked) (are : IsSyntaxOf s x) (are' : IsSyntaxOf s' x') (enough : length s.headers ≤ length s.files) (same_headers : s'.headers ≡ s.headers) (same_features : s'.features ≡ s.features) (files : (source : Source) → IsThere s source → IsRenamedFile source) where
    alike-settings : (source : Source) (there : IsThere s source) (deeper deeper' : Option (Source → Reading → Flow)) (what : Option (Source → Reading → List Read)) → AlikeDeeper r (IsThere s) deeper deeper' what → AlikeSettings r (IsThere s) (setting s x source deeper) (setting s' x' source deeper') (following (misplaced source) what)
    alike-settings source there deeper deeper' what d =
        let f = files source there in
        record {
          values = values-same s s' x x' are are';
          is_feature = λ name. ap (λ (l : List (List ℕ)). list_any (bytes_eq name) l) same_features;
          headers = same_headers;
          name = f.name;
          broken = breaks-alike r (AtIn r f.file) (standing f.file) f.file (λ other span at. at.0) breaks f.size f.size' f.lines (x.part_of source) (x'.part_of source) (x.broken_in source) (x'.broken_in source) f.fit f.size_moves f.is f.is';
          deeper = d;
          there = λ names found e. found-there s enough (source_name s source) names found e;
        }

    file-alike : (source : Source) (there : IsThere s source) (deeper deeper' : Option (Source → Reading → Flow)) (what : Option (Source → Reading → List Read)) → AlikeDeeper r (IsThere s) deeper deeper' what → (a b : Reading) → AlikeReadings r a b → AreQuiet r (reads_of_part (setting s x source deeper) (following (misplaced source) what) a (x.part_of source)) → AlikeFlows r (read_part (setting s x source deeper) a (x.part_of source)) (read_part (setting s' x' source deeper') b (x'.part_of source))
    file-alike source there deeper deeper' what d a b t q =
        let f = files source there in
        part-alike walks are_read r (AtIn r f.file) (standing f.file) (IsThere s) (setting s x source deeper) (setting s' x' source deeper') (following (misplaced source) what)
        (alike-settings source there deeper deeper' what d) f.file f.size f.size' f.lines (x.part_of source) (x'.part_of source) f.fit f.is f.is' f.misplaced_is a b t q

    pub source-alike : (n : ℕ) (source : Source) → IsThere s source → (a b : Reading) → AlikeReadings r a b → AreQuiet r (reads_of_source s x misplaced n source a) → AlikeFlows r (read_source s x n source a) (read_source s' x' n source b)
    source-alike zero source there a b t q = file-alike source there None None None tt a b t q
    source-alike (suc n) source there a b t q =
        file-alike source there (Some (read_source s x n)) (Some (read_source s' x' n)) (Some (reads_of_source s x misplaced n)) (source-alike n) a b t q

    -- ---- what is read

    module _ (misplaced' : Source → List PlainToken) (misplaced_is' : (source : Source) (there : IsThere s source) → misplaced' source ≡ misplaced_in (files source there).is'.is_read) where
      file-reads : (source : Source) (there : IsThere s source) (deeper deeper' : Option (Source → Reading → Flow)) (what what' : Option (Source → Reading → List Read)) → AlikeDeeper r (IsThere s) deeper deeper' what
          → ((file : ℕ) → AlikeDeeperReads r (AtIn r file) (standing file) (IsThere s) what what') → (a b : Reading) → AlikeReadings r a b → AreQuiet r (reads_of_part (setting s x source deeper) (following (misplaced source) what) a (x.part_of source))
          → AreAlikeReads r (reads_of_part (setting s x source deeper) (following (misplaced source) what) a (x.part_of source)) (reads_of_part (setting s' x' source deeper') (following (misplaced' source) what') b (x'.part_of source))
      file-reads source there deeper deeper' what what' d e a b t q =
          let file = files source there in
          let f = following (misplaced source) what in
          let f' = following (misplaced' source) what' in
          let before = setting s x source deeper in
          let after = setting s' x' source deeper' in
          let first : by_token (reads_of_walk before f (start a) file.lines) ≡ by_token (reads_of_part before f a (x.part_of source)) = are_read before f file.file file.size file.lines (x.part_of source) a file.is file.misplaced_is in
          let second : by_token (reads_of_walk after f' (start b) (map (renamed_line r file.file) file.lines)) ≡ by_token (reads_of_part after f' b (x'.part_of source)) = are_read after f' file.file file.size' (map (renamed_line r file.file) file.lines) (x'.part_of source) b file.is' (misplaced_is' source there) in
          let quiet : AreQuiet r (reads_of_walk before f (start a) file.lines) = quiet-by-token r (reads_of_walk before f (start a) file.lines) (subst (λ (l : List Read). AreQuiet r l) (sym first) (by-token-quiet r (reads_of_part before f a (x.part_of source)) q)) in
          subst (λ (l : List Read). Pairs (AlikeReads r) l (by_token (reads_of_part after f' b (x'.part_of source)))) first
          (subst (λ (l : List Read). Pairs (AlikeReads r) (by_token (reads_of_walk before f (start a) file.lines)) l) second
          (walk-reads r (AtIn r file.file) (standing file.file) (IsThere s) before after f f' (alike-settings source there deeper deeper' what d) (e file.file) file.file file.lines (start a) (start b) file.fit (record { reading = t; tokens = tt; run = refl; groups = refl }) quiet))

      pub source-reads : (n : ℕ) (source : Source) → IsThere s source → (a b : Reading) → AlikeReadings r a b → AreQuiet r (reads_of_source s x misplaced n source a) → AreAlikeReads r (reads_of_source s x misplaced n source a) (reads_of_source s' x' misplaced' n source b)
      source-reads zero source there a b t q = file-reads source there None None None None tt (λ file. tt) a b t q
      source-reads (suc n) source there a b t q =
          file-reads source there (Some (read_source s x n)) (Some (read_source s' x' n)) (Some (reads_of_source s x misplaced n)) (Some (reads_of_source s' x' misplaced' n)) (source-alike n) (λ file. source-reads n) a b t q
