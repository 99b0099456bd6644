-- Where something is found at a byte, there is its class.
use Rattle.std.proofs.Common.{◌≡◌, ℕ, ◌+◌, ◌<◌, ◌≤◌, List, [], length, refl, ap₂, subst, arith}
use Rattle.std.specs.Prelude.{Contains}
use Rattle.std.proofs.lemmas.List.Elements.{All-contains, All-from_recursion}
use Rattle.text_edits.specs.Span.{PlainSpan}
use Rattle.text_edits.specs.Files.{PlainFile}
use Rattle.cond_formula.specs.Features.{has}
use Rattle.c_text.specs.declared.token.TokenKind.TheVariants.{Name}
use Rattle.c_text.specs.Token.{PlainToken}
use Rattle.c_text.specs.Preprocessing.{Sources, Syntax, IsSyntaxOf, file_at, built_in_file, built_in_text}
use Rattle.c_lexer.specs.Laws.{LinesAreOne, TextsHaveLines}
use Rattle.project_file.specs.Projects.{PlainProject}
use Rattle.plain_pp.specs.Units.{sources_of, file_of}
use Rattle.plain_pp.specs.Laws.{ProjectsHaveSyntax}
use Rattle.command_projects.specs.Least.{Somewhere}
use Rattle.active_tokens.specs.Reads.{Read}
use Rattle.active_tokens.specs.Active.{reads_of_unit, IsActive}
use Rattle.read_walks.specs.SourceReads.{HasMisplaced}
use Rattle.read_walks.specs.Laws.{FilesHaveMisplaced}
use Rattle.renamed_units.specs.Laws.{IsUnitOf}
use Rattle.renamed_units.proofs.Once.{contains-of}
use Rattle.renamed_products.proofs.ReadTokens.{GoodLines, GoodRead, GoodReads, unit-good}
use Rattle.program_occurrences.specs.Classes.{PlainFileToken, copied_by}
use Rattle.program_occurrences.specs.Laws.{DeclarationsAreOccurrences}
use Rattle.reference_classes.specs.Products.{InClass}
use Rattle.reference_classes.specs.Preconditions.{IsFound}
use Rattle.renamed_sources.specs.Projects.{HasItsFiles}
use Rattle.renamed_sources.specs.Laws.{SourcesAreRenamed}
use Rattle.copied_tokens.specs.Laws.{NamesAreRead}
use Rattle.renamed_classes.proofs.Given.{IsGivenIn, is-given}
use Rattle.renamed_classes.proofs.Occurring.{OccursSomewhere, occurs}
use Rattle.named_classes.specs.Laws.{FoundAreNamed}
use Rattle.named_classes.proofs.Ordered.{those-are-listed}
use Rattle.named_classes.proofs.Texts.{lines-in-text, all-tokens, all-ordered, in-headers, in-file}

-- the laws that it follows from
pub record NamingLaws : Type 0 where
  pub declared : DeclarationsAreOccurrences
  pub sources : SourcesAreRenamed
  pub read : NamesAreRead
  pub syntax : ProjectsHaveSyntax
  pub misplaced : FilesHaveMisplaced
  pub have : TextsHaveLines
  pub one : LinesAreOne

module _ (laws : NamingLaws) (project : PlainProject) (files : List PlainFile) (there : HasItsFiles project files) where
  abbrev tokens-of-texts : List PlainFileToken
  tokens-of-texts = all-tokens laws.have 0 files

  -- a copy of a token of a text
  abbrev IsOfText : PlainToken → Type 0
  IsOfText token = Contains tokens-of-texts (copied_by token)

  -- ---- what a unit reads are tokens of texts

  module _ (s : Sources) (of_files : s.files ≡ files) (x : Syntax) (are : IsSyntaxOf s x) where
    file-lines : (number : ℕ) → number < length s.files → GoodLines IsOfText (are.lines number)
    file-lines number below =
        lines-in-text laws.have number (file_at s number).bytes laws.one IsOfText
        (λ token i. subst (λ (fs : List PlainFile). Contains (all-tokens laws.have 0 fs) (copied_by token)) of_files
        (in-file laws.have 0 number number s.files (record { name = []; bytes = [] }) (copied_by token) (omega arith) below i))
        (are.lines number) (are.are_lines number below)

    header-lines : GoodLines IsOfText are.built_in_lines
    header-lines =
        lines-in-text laws.have built_in_file built_in_text laws.one IsOfText (λ token i. in-headers laws.have 0 files (copied_by token) i) are.built_in_lines
        are.are_built_in

    read-of-text : (number file : ℕ) (span : PlainSpan) → IsUnitOf s number → IsActive s number file span → Contains tokens-of-texts (record { file = file; span = span })
    read-of-text number file span unit active =
        let m : HasMisplaced are = laws.misplaced s x are in
        let reads : List Read = reads_of_unit s x m.misplaced number in
        let is = active x are m.misplaced m.are_misplaced in
        let all : GoodReads IsOfText reads = unit-good IsOfText s x are m.misplaced m.are_misplaced unit.headers file-lines header-lines number unit.unit in
        let read : GoodRead IsOfText is.read = All-contains (GoodRead IsOfText) reads is.read (All-from_recursion (GoodRead IsOfText) reads all) is.among in
        let token : IsOfText is.token = All-contains IsOfText is.read.tokens is.token (All-from_recursion IsOfText is.read.tokens read) is.within in
        subst (λ (t : PlainFileToken). Contains tokens-of-texts t)
        (ap₂ (λ (f : ℕ) (p : PlainSpan). let t : PlainFileToken = record { file = f; span = p } in t) is.file_is is.span_is) token

  -- ---- so is each token that has an occurrence in a product

  occurring-of-text : (token : PlainFileToken) → OccursSomewhere project files token → Contains tokens-of-texts token
  occurring-of-text token o =
      let s : Sources = sources_of project files (has o.configuration) in
      let copy : PlainToken = o.found.occurrence.identifier.token in
      let given : IsGivenIn project files (has o.configuration) copy = is-given o.product o.found in
      let number : ℕ = file_of project given.unit in
      let active : IsActive s number copy.origin.file copy.origin.span =
      All-contains (λ (t : PlainToken). t.kind ≡ Name → IsActive s number t.origin.file t.origin.span) given.tokens copy
      (laws.read s number given.tokens given.are_given) (contains-of copy given.tokens given.among) given.is_name in
      subst (λ (t : PlainFileToken). Contains tokens-of-texts t) o.there
      (read-of-text s refl (laws.syntax s).0 (laws.syntax s).1 number copy.origin.file copy.origin.span
      (laws.sources.unit project files (has o.configuration) given.unit there given.present) active)

pub found-named : NamingLaws → FoundAreNamed
found-named laws project files file offset there found none =
    those-are-listed (InClass project files found.holds.place) (all-tokens laws.have 0 files) (all-ordered laws.have 0 files few)
    (λ tokens are. none (record { place = found.holds.place; old = found.holds.holds.is_token.name; tokens = tokens }) (record {
      holds = found.holds.holds;
      written = found.holds.holds.is_token.written;
      found = somewhere;
      members = λ token. (λ i. ((are.members token).0 i).1, λ m. (are.members token).1 (of-text token m, m));
      in_order = are.in_order;
    }))
  where
    somewhere : Somewhere project (IsFound project files found.holds.place)
    somewhere = record { witness = found.witness; admitted = found.admitted; holds = found.holds.found }

    few : 0 + length files ≤ built_in_file
    few = let most : length files ≤ built_in_file = there.few in omega (arith, most)

    of-text : (token : PlainFileToken) → InClass project files found.holds.place token → Contains (all-tokens laws.have 0 files) token
    of-text token member = occurring-of-text laws project files there token (occurs laws.declared project files found.holds.place somewhere token member)
