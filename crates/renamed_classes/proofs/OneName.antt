-- The tokens of a class are all written as the name that stands at the place.
use Rattle.std.proofs.Common.{◌≡◌, ℕ, zero, suc, ◌<◌, ◌≤◌, Bool, true, false, List, [], ◌∷◌, length, Some, refl, ap, sym, ◌∙◌, subst, arith}
use Rattle.std.specs.Prelude.{slice_get, slice_index_or, Contains}
use Rattle.std.specs.List.{AllByRecursion, AllZip, list_any}
use Rattle.std.specs.Str.{bytes_eq}
use Rattle.std.proofs.lemmas.Option.{same_Some, none-some}
use Rattle.std.proofs.lemmas.List.Elements.{recursion_from_All}
use Rattle.text_edits.specs.Files.{PlainFile}
use Rattle.cond_formula.specs.Features.{has}
use Rattle.c_text.specs.Token.{PlainToken}
use Rattle.c_text.specs.Lines.{PlainLine, AreItsLines}
use Rattle.c_text.specs.Directives.{is_word_kind, predefined_names}
use Rattle.c_text.specs.Preprocessing.{built_in_file, built_in_text}
use Rattle.c_lexer.specs.Laws.{LinesAreOne}
use Rattle.c_tree.specs.Trees.{PlainTree}
use Rattle.c_tree.specs.Units.{IsTreeOf}
use Rattle.bindings.specs.Laws.{ArePieces, AreWritten}
use Rattle.project_file.specs.Projects.{PlainProject}
use Rattle.plain_pp.specs.Units.{sources_of, file_of}
use Rattle.project_program.specs.Programs.{present_units, UnitGives}
use Rattle.command_projects.specs.Least.{Nowhere, Somewhere}
use Rattle.renamings.specs.Renamings.{Renaming}
use Rattle.unit_outcomes.specs.Laws.{IsSpelt, TokensAreSpelt}
use Rattle.program_occurrences.specs.Occurrences.{UnitNames}
use Rattle.program_occurrences.specs.Classes.{PlainFileToken, file_token, Brings, itself, brought}
use Rattle.brought_names.specs.Laws.{AreNamedAlike, BroughtAreNamedAlike}
use Rattle.reference_classes.specs.Products.{Product, names_in, AreOfProduct, InClass}
use Rattle.reference_classes.specs.Preconditions.{IsFound, in_macro_body, Breaks}
use Rattle.reference_classes.specs.Renamed.{IsWrittenAt, RenamesClass}
use Rattle.copied_tokens.specs.Copies.{IsOnTextLine, IsCopied, from_file, from_header, from_body, IsFromBodyIfPredefined}
use Rattle.copied_tokens.specs.Laws.{PlacesTellTokens, PredefinedComeFromBodies}
use Rattle.renamed_sources.specs.Projects.{HasItsFiles}
use Rattle.renamed_sources.specs.Laws.{SourcesAreRenamed}
use Rattle.renamed_classes.specs.Laws.{ClassesHaveOneName, OccurrencesHaveOneName, ClassNamesAreFree}
use Rattle.renamed_classes.proofs.Given.{IsGivenIn}
use Rattle.renamed_classes.proofs.Occurring.{OccursSomewhere}
use Rattle.renamed_classes.proofs.TextLines.{at, TokenLaws, given, is-copied, no-body, stands}

-- ---- a token of a file has one text

module _ (one : LinesAreOne) (tell : PlacesTellTokens) where
  line-text : (number : ℕ) (bytes : List ℕ) (a b : PlainToken) → IsOnTextLine number bytes a → IsOnTextLine number bytes b → a.origin.span ≡ b.origin.span → a.text ≡ b.text
  line-text number bytes a b x y span =
      let lines : y.lines ≡ x.lines = one number bytes y.lines x.lines y.are_lines x.are_lines in
      let same : x.copied ≡ y.copied =
      tell number bytes x.lines x.line y.line x.copied y.copied x.are_lines x.among x.within (subst (λ (ls : List PlainLine). Contains ls y.line) lines y.among) y.within
      (x.span ∙ (span ∙ sym y.span)) in
      sym x.text ∙ (ap (λ (t : PlainToken). t.text) same ∙ y.text)

  written-text : (files : List PlainFile) (token : PlainFileToken) (name : List ℕ) (a : PlainToken) → IsWrittenAt files token name → IsOnTextLine token.file (slice_index_or files token.file (record { name = []; bytes = [] })).bytes a → a.origin.span ≡ token.span → a.text ≡ name
  written-text files token name a w x span =
      let same_file : slice_index_or files token.file (record { name = []; bytes = [] }) ≡ w.file = file-got files token.file w.file (record { name = []; bytes = [] }) w.is_file in
      let lines : w.lines ≡ x.lines = one token.file w.file.bytes w.lines x.lines w.are_lines (subst (λ (f : PlainFile). AreItsLines token.file f.bytes x.lines) same_file x.are_lines) in
      let same : x.copied ≡ w.there =
      tell token.file (slice_index_or files token.file (record { name = []; bytes = [] })).bytes x.lines x.line w.line x.copied w.there x.are_lines x.among x.within
      (subst (λ (ls : List PlainLine). Contains ls w.line) lines w.among) w.within (x.span ∙ (span ∙ sym w.span_is)) in
      sym x.text ∙ (ap (λ (t : PlainToken). t.text) same ∙ w.text)
    where
      file-got : (files : List PlainFile) (n : ℕ) (f other : PlainFile) → slice_get files n ≡ Some f → slice_index_or files n other ≡ f
      file-got [] n f other e = absurd (none-some f e)
      file-got (first ∷ files) zero f other e = same_Some first f e
      file-got (first ∷ files) (suc n) f other e = file-got files n f other e

pub file-below : (files : List PlainFile) (n : ℕ) (other : PlainFile) → n < length files → slice_get files n ≡ Some (slice_index_or files n other)
file-below [] n other below = absurd (omega (arith, below))
file-below (first ∷ files) zero other below = refl
file-below (first ∷ files) (suc n) other below = file-below files n other (omega (arith, below))

known-below : (files : List PlainFile) (n : ℕ) (f : PlainFile) → slice_get files n ≡ Some f → n < length files
known-below [] n f e = absurd (none-some f e)
known-below (first ∷ files) zero f e = omega arith
known-below (first ∷ files) (suc n) f e = let below = known-below files n f e in omega (arith, below)

-- ---- the trees of a product are written with tokens that are spelt as their kinds say

pieces-of : (tokens : List PlainToken) → AllByRecursion IsSpelt tokens → ArePieces tokens
pieces-of [] h = tt
pieces-of (token ∷ tokens) h = (h.0, pieces-of tokens h.1)

module _ (spelt : TokensAreSpelt) (in_files : SourcesAreRenamed) (project : PlainProject) (files : List PlainFile) (on : ℕ → Bool) (there : HasItsFiles project files) where
  trees-written :
      (places : List ℕ) (tokens : List (List PlainToken)) (trees : List PlainTree) → ((place : ℕ) → Contains places place → Contains (present_units project on) place)
      → AllZip (UnitGives project files on) places tokens → AllZip IsTreeOf tokens trees → AreWritten trees
  trees-written [] [] [] among given parsed = tt
  trees-written [] [] (tree ∷ trees) among given parsed = absurd parsed
  trees-written [] (ts ∷ tokens) trees among given parsed = absurd given
  trees-written (place ∷ places) [] trees among given parsed = absurd given
  trees-written (place ∷ places) (ts ∷ tokens) [] among given parsed = absurd parsed
  trees-written (place ∷ places) (ts ∷ tokens) (tree ∷ trees) among given parsed =
      let is_unit = in_files.unit project files on place there (among place (0, omega arith, refl)) in
      let each = spelt (sources_of project files on) (file_of project place) (record { unit = is_unit.unit; headers = is_unit.headers }) ts given.0 in (
        record { unit = parsed.0.spells.unit; pieces = subst ArePieces (sym parsed.0.spells.text) (pieces-of ts (recursion_from_All IsSpelt ts each)) },
        trees-written places tokens trees (λ other i. among other (suc i.0, omega (arith, i.1), i.2)) given.1 parsed.1,
      )

pub product-written : (spelt : TokensAreSpelt) (in_files : SourcesAreRenamed) {project : PlainProject} {files : List PlainFile} {c : List Bool} → HasItsFiles project files → (product : Product project files c) → AreWritten product.is_program.trees
product-written spelt in_files {project} {files} {c} there product =
    let are = product.is_program.are_trees in
    trees-written spelt in_files project files (has c) there (present_units project (has c)) are.tokens product.is_program.trees (λ place i. i) are.preprocessed are.parsed

-- ---- the place

-- the laws that it follows from
pub record TextLaws : Type 0 where
  pub tokens : TokenLaws
  pub one : LinesAreOne
  pub tell : PlacesTellTokens

module _ (laws : TextLaws) (project : PlainProject) (files : List PlainFile) (place : PlainFileToken) (new : List ℕ) (r : Renaming) (there : HasItsFiles project files) (renames : RenamesClass project files place new r) (found : Somewhere project (IsFound project files place)) (unhindered : Nowhere project (Breaks project files place r in_macro_body)) where
  -- the occurrence that is found at the place
  abbrev at-place : OccursSomewhere project files place
  at-place = record { configuration = found.witness; product = found.holds.product; found = found.holds.found; there = found.holds.there }

  place-below : place.file < length files
  place-below = known-below files place.file renames.old_name.file renames.old_name.is_file

  span-is : (token : PlainFileToken) (o : OccursSomewhere project files token) → o.found.occurrence.identifier.token.origin.span ≡ token.span
  span-is token o = ap (λ (x : PlainFileToken). x.span) o.there

  -- each occurrence at the place has the old name
  old-at-place : at-place.found.occurrence.identifier.token.text ≡ r.old
  old-at-place =
      written-text laws.one laws.tell files place r.old at-place.found.occurrence.identifier.token renames.old_name
      (stands laws.tokens project files place r there found unhindered place itself at-place place-below) (span-is place at-place)

  -- ---- the class

  -- a token with an occurrence that has the old name
  record HasOldName (token : PlainFileToken) : Type 0 where
    occurrence : OccursSomewhere project files token
    text : occurrence.found.occurrence.identifier.token.text ≡ r.old

  -- in whichever products a token of the class occurs, it has one text
  one-text :
      (token : PlainFileToken) → InClass project files place token → (o p : OccursSomewhere project files token)
      → o.found.occurrence.identifier.token.text ≡ p.found.occurrence.identifier.token.text
  one-text token member o p = by (is-copied laws.tokens project files place r there found unhindered token member o) (is-copied laws.tokens project files place r there found unhindered token member p)
    where
      few : length files ≤ built_in_file
      few = there.few

      copy : OccursSomewhere project files token → PlainToken
      copy q = q.found.occurrence.identifier.token

      same_span : (copy o).origin.span ≡ (copy p).origin.span
      same_span = span-is token o ∙ sym (span-is token p)

      in-file : token.file < length files → (copy o).text ≡ (copy p).text
      in-file below =
          line-text laws.one laws.tell token.file (slice_index_or files token.file (record { name = []; bytes = [] })).bytes (copy o) (copy p)
          (stands laws.tokens project files place r there found unhindered token member o below) (stands laws.tokens project files place r there found unhindered token member p below) same_span

      file-of-token : (q : OccursSomewhere project files token) → (copy q).origin.file ≡ token.file
      file-of-token q = ap (λ (x : PlainFileToken). x.file) q.there

      below-of : (q : OccursSomewhere project files token) (number : ℕ) → number < length files → (copy q).origin.file ≡ number → token.file < length files
      below-of q number small e = let known : (copy q).origin.file ≡ token.file = file-of-token q in omega (arith, small, e, known)

      never : (q : OccursSomewhere project files token) → (copy q).origin.file ≡ built_in_file → token.file < length files → ⊥
      never q e below = let known : (copy q).origin.file ≡ token.file = file-of-token q in omega (arith, few, e, known, below)

      by : IsCopied (sources_of project files (has o.configuration)) (copy o) → IsCopied (sources_of project files (has p.configuration)) (copy p) → (copy o).text ≡ (copy p).text
      by (from_file number small x) y = in-file (below-of o number small x.file)
      by (from_header x) (from_file number small y) = absurd (never o x.file (below-of p number small y.file))
      by (from_header x) (from_header y) = line-text laws.one laws.tell built_in_file built_in_text (copy o) (copy p) x y same_span
      by (from_header x) (from_body e) = absurd (no-body laws.tokens project files place r there found unhindered token member p e)
      by (from_body e) y = absurd (no-body laws.tokens project files place r there found unhindered token member o e)

  module _ (spelt : TokensAreSpelt) (alike : BroughtAreNamedAlike) where
    also-brought :
        {units : List UnitNames} (member other : PlainFileToken) → AreOfProduct project files units → InClass project files place member → HasOldName member → Brings units member other
        → HasOldName other
    also-brought member other are inner h brings =
        let program = are.product.is_program in
        let b : AreNamedAlike (names_in are.product) member other =
        alike program.trees program.elaborated.linked program.elaborated.bindings member other (product-written spelt laws.tokens.sources there are.product) program.elaborated.judged
        (subst (λ (us : List UnitNames). Brings us member other) are.same brings) in
        let first : OccursSomewhere project files member = record { configuration = are.configuration; product = are.product; found = b.first; there = b.at_first } in
        record {
          occurrence = record { configuration = are.configuration; product = are.product; found = b.second; there = b.at_second };
          text = sym b.alike ∙ (one-text member inner first h.occurrence ∙ h.text);
        }

    old-name : (token : PlainFileToken) → InClass project files place token → HasOldName token
    old-name token itself = record { occurrence = at-place; text = old-at-place }
    old-name token (brought {member = member} units are inner brings) = also-brought member token are inner (old-name member inner) brings

    written-so : (token : PlainFileToken) → token.file < length files → InClass project files place token → IsWrittenAt files token r.old
    written-so token below member =
        let h = old-name token member in
        let x = stands laws.tokens project files place r there found unhindered token member h.occurrence below in
        record {
          file = slice_index_or files token.file (record { name = []; bytes = [] });
          is_file = file-below files token.file (record { name = []; bytes = [] }) below;
          lines = x.lines;
          are_lines = x.are_lines;
          line = x.line;
          among = x.among;
          there = x.copied;
          within = x.within;
          span_is = x.span ∙ span-is token h.occurrence;
          text = x.text ∙ h.text;
        }

pub one-name : TextLaws → TokensAreSpelt → BroughtAreNamedAlike → ClassesHaveOneName
one-name laws spelt alike project files place new r there renames found unhindered token below member =
    written-so laws project files place new r there renames found unhindered spelt alike token below member

pub occurrences-one-name : TextLaws → TokensAreSpelt → BroughtAreNamedAlike → OccurrencesHaveOneName
occurrences-one-name laws spelt alike project files place new r there renames found unhindered c product o member =
    let token = file_token o.occurrence in
    let named = old-name laws project files place new r there renames found unhindered spelt alike token member in
    let here : OccursSomewhere project files token = record { configuration = c; product = product; found = o; there = refl } in
    one-text laws project files place new r there renames found unhindered token member here named.occurrence ∙ named.text

pub names-free : TextLaws → PredefinedComeFromBodies → ClassNamesAreFree
names-free laws predefined project files place new r there renames found unhindered =
    by (list_any (bytes_eq r.old) predefined_names) refl
  where
    o : OccursSomewhere project files place
    o = at-place laws project files place new r there renames found unhindered

    copy : PlainToken
    copy = o.found.occurrence.identifier.token

    is : IsGivenIn project files (has o.configuration) copy
    is = given laws.tokens project files place r there found unhindered place itself o

    from-body : IsFromBodyIfPredefined copy
    from-body =
        at IsFromBodyIfPredefined copy is.tokens
        (recursion_from_All IsFromBodyIfPredefined is.tokens (predefined (sources_of project files (has o.configuration)) (file_of project is.unit) is.tokens is.are_given)) is.among

    by : (b : Bool) → list_any (bytes_eq r.old) predefined_names ≡ b → list_any (bytes_eq r.old) predefined_names ≡ false
    by false e = e
    by true e =
        absurd (no-body laws.tokens project files place r there found unhindered place itself o
        (from-body (ap is_word_kind is.is_name) (ap (λ (text : List ℕ). list_any (bytes_eq text) predefined_names) (old-at-place laws project files place new r there renames found unhindered) ∙ e)))
