-- The tokens that a unit gives are copies of tokens of text lines, or come out of the bodies of macros.
use Rattle.std.proofs.Common.{◌≡◌, ℕ, zero, suc, ◌≤◌, Bool, true, false, List, [], ◌∷◌, ◌++◌, length, take, drop, Some, None, refl, ap, sym, subst}
use Rattle.std.specs.List.{AllByRecursion, list_any}
use Rattle.std.specs.Str.{bytes_eq}
use Rattle.std.proofs.lemmas.List.Elements.{All-from_recursion, recursion_from_All}
use Rattle.c_text.specs.Token.{PlainToken}
use Rattle.c_text.specs.Lines.{PlainLine, AreItsLines}
use Rattle.c_text.specs.Directives.{in_body}
use Rattle.c_text.specs.Macros.{Item, in_call, brought, feature}
use Rattle.c_text.specs.Trees.{Part, finish, breaks, text_lines, directive_line, group, broken_group, Branches, no_branch, branch, lines_in, lines_of_branches, IsText, IsFormed, AreFormed, are_some, IsRead, whole_file, open_at_end, broken_at}
use Rattle.c_text.specs.Preprocessing.{Reading, tokens_of_lines, Source, project_file, stdio, stdlib, Sources, Syntax, IsSyntaxOf, file_at, source_name, built_in_file, built_in_text, setting, read_source, most_nested, at_start, feature_token, preprocessed}
use Rattle.plain_pp.specs.Laws.{ProjectsHaveSyntax}
use Rattle.active_tokens.proofs.Everywhere.{each-append, each-left, each-right, by-choice}
use Rattle.renamed_units.proofs.Tokens.{In, each-of, entry, entries, entry-of, entries-rise, own-in}
use Rattle.renamed_units.proofs.Files.{each-take, each-drop}
use Rattle.renamed_units.proofs.Once.{contains-of}
use Rattle.renamed_units.proofs.Sources.{IsThere, found-there}
use Rattle.copied_tokens.specs.Copies.{IsOnTextLine, IsCopied, from_file, from_header, from_body}
use Rattle.copied_tokens.specs.Laws.{TokensAreCopied}
use Rattle.copied_tokens.proofs.Replacing.{Tokens, GoodFound}
use Rattle.copied_tokens.proofs.Reading.{GoodReading, GoodFlow, flow-gives, GoodTexts, GoodBranches, part-good}

-- ---- a copy of a copy is one

still-there : (number : ℕ) (bytes : List ℕ) (first last : PlainToken) (item : Item) → IsOnTextLine number bytes item.token → IsOnTextLine number bytes (brought first last item).token
still-there number bytes first last item is = record {
  lines = is.lines;
  are_lines = is.are_lines;
  line = is.line;
  among = is.among;
  text_line = is.text_line;
  copied = is.copied;
  within = is.within;
  kind = is.kind;
  text = is.text;
  span = is.span;
  file = is.file;
}

module _ (s : Sources) where
  brings : (first last : PlainToken) (item : Item) → IsCopied s item.token → IsCopied s (brought first last item).token
  brings first last item (from_file number there is) = from_file number there (still-there number (file_at s number).bytes first last item is)
  brings first last item (from_header is) = from_header (still-there built_in_file built_in_text first last item is)
  brings first last item (from_body e) = from_body (ap in_call e)

  bodies : (token : PlainToken) → IsCopied s (in_body token)
  bodies token = from_body refl

  abbrev Good : List PlainToken → Type 0
  Good tokens = Tokens (IsCopied s) brings tokens

  abbrev GoodPart : Part → Type 0
  GoodPart part = GoodTexts (IsCopied s) brings bodies part

  abbrev GoodOthers : Branches → Type 0
  GoodOthers others = GoodBranches (IsCopied s) brings bodies others

  -- ---- the text lines of a file

  abbrev GoodLine : PlainLine → Type 0
  GoodLine line = line.directive ≡ false → Good line.tokens

  abbrev GoodLines : List PlainLine → Type 0
  GoodLines lines = AllByRecursion GoodLine lines

  run-of : (lines : List PlainLine) → AllByRecursion IsText lines → GoodLines lines → Good (tokens_of_lines lines)
  run-of [] t a = tt
  run-of (line ∷ lines) t a = each-append (IsCopied s) line.tokens (tokens_of_lines lines) (a.0 t.0) (run-of lines t.1 a.1)

  mutual
    texts-of : (whole : Bool) (part : Part) → IsFormed whole part → GoodLines (lines_in part) → GoodPart part
    texts-of whole finish f a = tt
    texts-of whole breaks f a = tt
    texts-of whole (text_lines lines rest) f a =
        (λ fine. run-of lines (recursion_from_All IsText lines f.1) (each-left GoodLine lines (lines_in rest) a), texts-of whole rest f.3 (each-right GoodLine lines (lines_in rest) a))
    texts-of whole (directive_line line rest) f a = texts-of whole rest f.1 a.1
    texts-of whole (group first body others last rest) f a =
        let before : GoodLines (lines_in body ++ lines_of_branches others) = each-left GoodLine (lines_in body ++ lines_of_branches others) (last ∷ lines_in rest) a.1 in
        let ending : GoodLines (last ∷ lines_in rest) = each-right GoodLine (lines_in body ++ lines_of_branches others) (last ∷ lines_in rest) a.1 in (
          texts-of true body f.1 (each-left GoodLine (lines_in body) (lines_of_branches others) before),
          branches-of true others f.2 (each-right GoodLine (lines_in body) (lines_of_branches others) before),
          texts-of whole rest f.4 ending.1,
        )
    texts-of whole (broken_group first body others) f a = (
      texts-of (are_some others) body f.2 (each-left GoodLine (lines_in body) (lines_of_branches others) a.1),
      branches-of false others f.3 (each-right GoodLine (lines_in body) (lines_of_branches others) a.1),
    )

    branches-of : (whole : Bool) (others : Branches) → AreFormed whole others → GoodLines (lines_of_branches others) → GoodOthers others
    branches-of whole no_branch f a = tt
    branches-of whole (branch line body no_branch) f a = (texts-of whole body f.1 (each-left GoodLine (lines_in body) [] a.1), tt)
    branches-of whole (branch line body (branch second inner more)) f a = (
      texts-of true body f.1 (each-left GoodLine (lines_in body) (lines_of_branches (branch second inner more)) a.1),
      branches-of whole (branch second inner more) f.2 (each-right GoodLine (lines_in body) (lines_of_branches (branch second inner more)) a.1),
    )

  part-of-lines : (lines : List PlainLine) (part : Part) → IsRead lines part → GoodLines lines → GoodPart part
  part-of-lines lines part (whole_file formed are) a = texts-of true part formed (subst GoodLines (sym are) a)
  part-of-lines lines part (open_at_end formed ends are) a = texts-of false part formed (subst GoodLines (sym are) a)
  part-of-lines lines part (broken_at line rest formed are misplaced) a =
      texts-of false part formed (each-left GoodLine (lines_in part) (line ∷ rest) (subst GoodLines are a))

  -- what stands in a file with these lines is a copy of itself
  lines-good : (number : ℕ) (bytes : List ℕ) (lines : List PlainLine) → AreItsLines number bytes lines → ((token : PlainToken) → IsOnTextLine number bytes token → IsCopied s token) → GoodLines lines
  lines-good number bytes lines are copied =
      each-of GoodLine lines (λ line i text. each-of (IsCopied s) line.tokens (λ token j. copied token (there line token i j text)))
    where
      there : (line : PlainLine) (token : PlainToken) → In line lines → In token line.tokens → line.directive ≡ false → IsOnTextLine number bytes token
      there line token i j text = record {
        lines = lines;
        are_lines = are;
        line = line;
        among = contains-of line lines i;
        text_line = text;
        copied = token;
        within = contains-of token line.tokens j;
        kind = refl;
        text = refl;
        span = refl;
        file = (own-in number (length bytes) 0 (entries lines) (entry line.directive token) (entries-rise number bytes lines are) (entry-of line token lines i j)).own.file_is;
      }

  -- ---- files, however deep they are nested

  module _ (x : Syntax) (are : IsSyntaxOf s x) (enough : length s.headers ≤ length s.files) where
    built-in-good : GoodLines are.built_in_lines
    built-in-good = lines-good built_in_file built_in_text are.built_in_lines are.are_built_in (λ token is. from_header is)

    file-good : (source : Source) → IsThere s source → GoodPart (x.part_of source)
    file-good (project_file number) there =
        part-of-lines (are.lines number) (x.part_of (project_file number)) (are.are_files number there).is_read
        (lines-good number (file_at s number).bytes (are.lines number) (are.are_lines number there) (λ token is. from_file number there is))
    file-good stdio there =
        part-of-lines (take 5 are.built_in_lines) (x.part_of stdio) are.stdio_is.is_read (each-take GoodLine 5 are.built_in_lines built-in-good)
    file-good stdlib there =
        part-of-lines (drop 5 are.built_in_lines) (x.part_of stdlib) are.stdlib_is.is_read (each-drop GoodLine 5 are.built_in_lines built-in-good)

    source-good : (n : ℕ) (source : Source) → IsThere s source → (r : Reading) → GoodReading (IsCopied s) brings bodies r → GoodFlow (IsCopied s) brings bodies (read_source s x n source r)
    source-good zero source there r g =
        part-good (IsCopied s) brings bodies (IsThere s) (setting s x source None) tt (λ names found e. found-there s enough (source_name s source) names found e)
        (x.part_of source) r (file-good source there) g
    source-good (suc n) source there r g =
        part-good (IsCopied s) brings bodies (IsThere s) (setting s x source (Some (read_source s x n))) (source-good n)
        (λ names found e. found-there s enough (source_name s source) names found e) (x.part_of source) r (file-good source there) g

  start-good : GoodReading (IsCopied s) brings bodies (at_start s)
  start-good = record {
    table = λ name. by-choice (GoodFound (IsCopied s) brings) (list_any (bytes_eq name) s.on_features) (Some (feature feature_token)) None (from_body refl) tt;
    tokens = tt;
  }

pub all-copied : ProjectsHaveSyntax → TokensAreCopied
all-copied have s number tokens unit is =
    let x : Syntax = (have s).0 in
    let are : IsSyntaxOf s x = (have s).1 in
    All-from_recursion (IsCopied s) tokens
    (flow-gives (IsCopied s) (brings s) (bodies s) (preprocessed s x number) tokens (source-good s x are unit.headers most_nested (project_file number) unit.unit (at_start s) (start-good s)) (is x are))
