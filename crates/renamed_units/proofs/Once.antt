-- However a project's files are read, a unit reads the same.
use Rattle.std.proofs.Common.{◌≡◌, ℕ, suc, ◌<◌, ◌≤◌, List, [], ◌∷◌, ◌++◌, map, length, take, drop, refl, ap, sym, ◌∙◌, subst, inl, inr, arith, codes}
use Rattle.std.specs.Prelude.{◌⊎◌, Contains}
use Rattle.std.specs.List.{AllByRecursion}
use Rattle.text_edits.specs.Span.{PlainSpan}
use Rattle.c_text.specs.Token.{PlainToken}
use Rattle.c_text.specs.Lines.{PlainLine, AreItsLines}
use Rattle.c_text.specs.Preprocessing.{Source, project_file, stdio, stdlib, Sources, Syntax, IsSyntaxOf, IsFile, file_at, built_in_file, built_in_text, most_nested, at_start}
use Rattle.renamings.specs.Renamings.{Renaming, renamed_token, renamed_line}
use Rattle.active_tokens.specs.Reads.{Read}
use Rattle.active_tokens.specs.Active.{AreMisplaced, misplaced_in, reads_of_unit, IsReadAt}
use Rattle.file_walks.specs.Laws.{PartsAreWalked, FilesBreak}
use Rattle.c_lexer.specs.Laws.{LinesAreOne}
use Rattle.read_walks.specs.WalkReads.{one_by_one, by_token}
use Rattle.read_walks.specs.Laws.{ReadsAreWalked}
use Rattle.renamed_units.specs.Pairs.{Pairs}
use Rattle.renamed_units.proofs.Runs.{IsStanding}
use Rattle.renamed_units.proofs.Readings.{IsQuietIn, IsQuiet, AreQuiet}
use Rattle.renamed_units.proofs.Walks.{IsLine}
use Rattle.renamed_units.proofs.WalkReads.{AlikeReads, AreAlikeReads}
use Rattle.renamed_units.proofs.Places.{AtIn, standing-in}
use Rattle.renamed_units.proofs.Tokens.{entries-rise, each-of, In, in-of, in-left, in-right, in-map}
use Rattle.renamed_units.proofs.Names.{lines-fit}
use Rattle.renamed_units.proofs.Files.{each-take, each-drop, start-alike}
use Rattle.renamed_units.proofs.Sources.{IsThere, IsRenamedFile, source-reads}

-- nothing is renamed
abbrev pub nothing : Renaming
nothing = record { spans = λ number. []; old = codes "x"; new = codes "x" }

pub standing-still : (file : ℕ) → IsStanding nothing (AtIn nothing file)
standing-still file = standing-in nothing file 0 (omega arith) tt

map-same : {X : Type 0} (f : X → X) → ((x : X) → f x ≡ x) → (xs : List X) → map f xs ≡ xs
map-same f k [] = refl
map-same f k (x ∷ xs) = let first = k x in let rest = map-same f k xs in cc

line-same : (file : ℕ) (line : PlainLine) → renamed_line nothing file line ≡ line
line-same file line = ap (λ (ts : List PlainToken). let x : PlainLine = record line { tokens = ts } in x) (map-same (renamed_token nothing) (λ t. refl) line.tokens)

lines-still : (file : ℕ) (lines : List PlainLine) → map (renamed_line nothing file) lines ≡ lines
lines-still file lines = map-same (renamed_line nothing file) (line-same file) lines

fit-still : (file : ℕ) (text : List ℕ) (lines : List PlainLine) → AreItsLines file text lines → AllByRecursion (IsLine nothing (AtIn nothing file) (standing-still file)) lines
fit-still file text lines is = lines-fit nothing file (length text) lines (entries-rise file text lines is) tt (standing-still file) refl

module _ (one : LinesAreOne) (s : Sources) (x y : Syntax) (are : IsSyntaxOf s x) (are' : IsSyntaxOf s y) (misplaced misplaced' : Source → List PlainToken) (told : AreMisplaced are misplaced) (told' : AreMisplaced are' misplaced') where
  -- the second reading of a file with these lines
  record IsAgain (source : Source) (file size : ℕ) (lines : List PlainLine) : Type 0 where
    is : IsFile file size lines (y.part_of source) (y.broken_in source)
    misplaced_is : misplaced' source ≡ misplaced_in is.is_read

  record IsSame (source : Source) : Type 0 where
    file : ℕ
    size : ℕ
    lines : List PlainLine
    fit : AllByRecursion (IsLine nothing (AtIn nothing file) (standing-still file)) lines
    is : IsFile file size lines (x.part_of source) (x.broken_in source)
    misplaced_is : misplaced source ≡ misplaced_in is.is_read
    again : IsAgain source file size (map (renamed_line nothing file) lines)

  again-in : (source : Source) (file size : ℕ) (lines lines' : List PlainLine) → lines' ≡ lines → IsAgain source file size lines' → IsAgain source file size (map (renamed_line nothing file) lines)
  again-in source file size lines lines' e a = subst (λ (l : List PlainLine). IsAgain source file size l) (e ∙ sym (lines-still file lines)) a

  same-file : (source : Source) → IsThere s source → IsSame source
  same-file (project_file number) there = record {
    file = number;
    size = length (file_at s number).bytes;
    lines = are.lines number;
    fit = fit-still number (file_at s number).bytes (are.lines number) (are.are_lines number there);
    is = are.are_files number there;
    misplaced_is = told.in_files number there;
    again = again-in (project_file number) number (length (file_at s number).bytes) (are.lines number) (are'.lines number) (one number (file_at s number).bytes (are'.lines number) (are.lines number) (are'.are_lines number there) (are.are_lines number there)) (record { is = are'.are_files number there; misplaced_is = told'.in_files number there });
  }
  same-file stdio there = record {
    file = built_in_file;
    size = length built_in_text;
    lines = take 5 are.built_in_lines;
    fit = each-take (IsLine nothing (AtIn nothing built_in_file) (standing-still built_in_file)) 5 are.built_in_lines (fit-still built_in_file built_in_text are.built_in_lines are.are_built_in);
    is = are.stdio_is;
    misplaced_is = told.in_stdio;
    again = again-in stdio built_in_file (length built_in_text) (take 5 are.built_in_lines) (take 5 are'.built_in_lines) (ap (λ (l : List PlainLine). take 5 l) (one built_in_file built_in_text are'.built_in_lines are.built_in_lines are'.are_built_in are.are_built_in)) (record { is = are'.stdio_is; misplaced_is = told'.in_stdio });
  }
  same-file stdlib there = record {
    file = built_in_file;
    size = length built_in_text;
    lines = drop 5 are.built_in_lines;
    fit = each-drop (IsLine nothing (AtIn nothing built_in_file) (standing-still built_in_file)) 5 are.built_in_lines (fit-still built_in_file built_in_text are.built_in_lines are.are_built_in);
    is = are.stdlib_is;
    misplaced_is = told.in_stdlib;
    again = again-in stdlib built_in_file (length built_in_text) (drop 5 are.built_in_lines) (drop 5 are'.built_in_lines) (ap (λ (l : List PlainLine). drop 5 l) (one built_in_file built_in_text are'.built_in_lines are.built_in_lines are'.are_built_in are.are_built_in)) (record { is = are'.stdlib_is; misplaced_is = told'.in_stdlib });
  }

  same-as-renamed : (source : Source) → IsThere s source → IsRenamedFile nothing s s x y misplaced standing-still source
  same-as-renamed source there =
      let f = same-file source there in
      record {
        file = f.file;
        size = f.size;
        size' = f.size;
        lines = f.lines;
        fit = f.fit;
        size_moves = refl;
        is = f.is;
        is' = f.again.is;
        misplaced_is = f.misplaced_is;
        name = refl;
      }

  quiet-still : (all : List Read) → AreQuiet nothing all
  quiet-still all = each-of (IsQuiet nothing) all (λ read i. each-of (IsQuietIn nothing read.table) read.tokens (λ token j h. let f : ⊥ = cc in absurd f))

  pub unit-reads : PartsAreWalked → FilesBreak → ReadsAreWalked → (number : ℕ) → number < length s.files → length s.headers ≤ length s.files → AreAlikeReads nothing (reads_of_unit s x misplaced number) (reads_of_unit s y misplaced' number)
  unfolding same-as-renamed
  unit-reads walks breaks are_read number there enough =
      source-reads nothing s s x y misplaced standing-still walks breaks are_read are are' enough refl refl same-as-renamed misplaced' (λ source there. (same-file source there).again.misplaced_is)
      most_nested (project_file number) there (at_start s) (at_start s) (start-alike nothing s s refl refl) (quiet-still (reads_of_unit s x misplaced number))

-- ---- a token that is read once is read each time

pub contains-of : {X : Type 0} (x : X) (xs : List X) → In x xs → Contains xs x
contains-of x [] i = absurd i
contains-of x (y ∷ xs) (inl e) = (0, omega arith, sym e)
contains-of x (y ∷ xs) (inr i) = let c = contains-of x xs i in (suc c.0, omega (arith, c.1), c.2)

record HasPair {X Y : Type 0} (R : X → Y → Type 0) (x : X) (ys : List Y) : Type 0 where
  other : Y
  among : In other ys
  related : R x other

pair-of : {X Y : Type 0} (R : X → Y → Type 0) (x : X) (xs : List X) (ys : List Y) → Pairs R xs ys → In x xs → HasPair R x ys
pair-of R x [] ys p i = absurd i
pair-of R x (y ∷ xs) [] p i = absurd p
pair-of R x (y ∷ xs) (z ∷ ys) p (inl e) = record { other = z; among = inl refl; related = subst (λ w. R w z) (sym e) p.0 }
pair-of R x (y ∷ xs) (z ∷ ys) p (inr i) = let h = pair-of R x xs ys p.1 i in record { other = h.other; among = inr h.among; related = h.related }

abbrev pub only : Read → PlainToken → Read
only read token = record read { tokens = token ∷ [] }

token-in : (read : Read) (token : PlainToken) (all : List Read) → In read all → In token read.tokens → In (only read token) (by_token all)
token-in read token [] i j = absurd i
token-in read token (first ∷ all) (inl e) j =
    in-left (only read token) (one_by_one first) (by_token all) (subst (λ (x : Read). In (only read token) (one_by_one x)) e (in-map (only read) token read.tokens j))
token-in read token (first ∷ all) (inr i) j = in-right (only read token) (one_by_one first) (by_token all) (token-in read token all i j)

record IsTokenOf (one : Read) (all : List Read) : Type 0 where
  read : Read
  token : PlainToken
  among : In read all
  within : In token read.tokens
  is : one ≡ only read token

in-map-of : {X Y : Type 0} (f : X → Y) (y : Y) (xs : List X) → In y (map f xs) → (x : X) × In x xs × (y ≡ f x)
in-map-of f y [] i = absurd i
in-map-of f y (x ∷ xs) (inl e) = (x, inl refl, e)
in-map-of f y (x ∷ xs) (inr i) = let h = in-map-of f y xs i in (h.0, inr h.1, h.2)

in-append-of : {X : Type 0} (x : X) (xs ys : List X) → In x (xs ++ ys) → In x xs ⊎ In x ys
in-append-of x [] ys i = inr i
in-append-of x (y ∷ xs) ys (inl e) = inl (inl e)
in-append-of x (y ∷ xs) ys (inr i) = elim (in-append-of x xs ys i) as (λ z. In x (y ∷ xs) ⊎ In x ys) [ inl j ↦ inl (inr j) | inr j ↦ inr j ]

token-of : (one : Read) (all : List Read) → In one (by_token all) → IsTokenOf one all
token-of one [] i = absurd i
token-of one (first ∷ all) i = elim (in-append-of one (one_by_one first) (by_token all) i) as (λ z. IsTokenOf one (first ∷ all)) [
  | inl j ↦ let h = in-map-of (only first) one first.tokens j in record { read = first; token = h.0; among = inl refl; within = h.1; is = h.2 }
  | inr j ↦ let h = token-of one all j in record { read = h.read; token = h.token; among = inr h.among; within = h.within; is = h.is }
]

-- a read that holds so holds with the tables of the other reading
pub read-again : (Holds : Read → Type 0) → ((a b : Read) → AlikeReads nothing a b → Holds a → Holds b) → ((read : Read) (token : PlainToken) → Holds read → Holds (only read token)) → ((read : Read) (token : PlainToken) → Holds (only read token) → Holds read)
    → (all others : List Read) → AreAlikeReads nothing all others → (file : ℕ) (span : PlainSpan) → IsReadAt all file span Holds → IsReadAt others file span Holds
read-again Holds keeps down up all others p file span is =
    let i = token-in is.read is.token all (in-of is.read all is.among) (in-of is.token is.read.tokens is.within) in
    let pair = pair-of (AlikeReads nothing) (only is.read is.token) (by_token all) (by_token others) p i in
    let found = token-of pair.other others pair.among in
    let same : found.token ∷ [] ≡ is.token ∷ [] = sym (ap (λ (x : Read). x.tokens) found.is) ∙ pair.related.tokens in
    let token : found.token ≡ is.token = cc in
    record {
      read = found.read;
      token = found.token;
      among = contains-of found.read others found.among;
      within = contains-of found.token found.read.tokens found.within;
      file_is = ap (λ (t : PlainToken). t.origin.file) token ∙ is.file_is;
      span_is = ap (λ (t : PlainToken). t.origin.span) token ∙ is.span_is;
      holds = up found.read found.token (subst Holds found.is (keeps (only is.read is.token) pair.other pair.related (down is.read is.token is.holds)));
    }
