-- The tokens of a class stand on text lines, where nothing of it comes out of the body of a macro.
use Rattle.std.proofs.Common.{◌≡◌, ℕ, ◌<◌, ◌≤◌, List, [], ◌∷◌, length, ap, sym, ◌∙◌, subst, inl, inr, arith}
use Rattle.std.specs.List.{AllByRecursion}
use Rattle.std.proofs.lemmas.List.Elements.{recursion_from_All}
use Rattle.text_edits.specs.Files.{PlainFile}
use Rattle.cond_formula.specs.Features.{has}
use Rattle.c_text.specs.declared.origin.Place.TheVariants.{MacroBody}
use Rattle.c_text.specs.declared.token.TokenKind.TheVariants.{Name}
use Rattle.c_text.specs.Token.{PlainToken}
use Rattle.c_text.specs.Preprocessing.{Sources, file_at, built_in_file}
use Rattle.project_file.specs.Projects.{PlainProject}
use Rattle.plain_pp.specs.Units.{sources_of, file_of}
use Rattle.command_projects.specs.Least.{Nowhere, Somewhere}
use Rattle.active_tokens.specs.Active.{IsActive}
use Rattle.renamings.specs.Renamings.{Renaming}
use Rattle.renamed_units.proofs.Tokens.{In}
use Rattle.program_occurrences.specs.Classes.{PlainFileToken, file_token}
use Rattle.program_occurrences.specs.Laws.{DeclarationsAreOccurrences}
use Rattle.reference_classes.specs.Products.{InClass}
use Rattle.reference_classes.specs.Preconditions.{IsFound, IsTouched, is_built_in, in_macro_body, fixed, Breaks}
use Rattle.copied_tokens.specs.Copies.{IsOnTextLine, IsCopied, from_file, from_header, from_body}
use Rattle.copied_tokens.specs.Laws.{TokensAreCopied, NamesAreRead}
use Rattle.renamed_sources.specs.Projects.{HasItsFiles}
use Rattle.renamed_sources.specs.Laws.{SourcesAreRenamed}
use Rattle.renamed_classes.specs.Laws.{IsTextNameSomewhere, ClassesStandOnTextLines, ClassesStandInFiles}
use Rattle.renamed_classes.proofs.Occurring.{OccursSomewhere, occurs}
use Rattle.renamed_classes.proofs.Given.{IsGivenIn, is-given}

pub at : {X : Type 0} (P : X → Type 0) (x : X) (xs : List X) → AllByRecursion P xs → In x xs → P x
at P x [] a i = absurd i
at P x (y ∷ xs) a (inl e) = subst P (sym e) a.0
at P x (y ∷ xs) a (inr i) = at P x xs a.1 i

-- the laws that it follows from
pub record TokenLaws : Type 0 where
  pub declared : DeclarationsAreOccurrences
  pub sources : SourcesAreRenamed
  pub copied : TokensAreCopied
  pub read : NamesAreRead

-- the identifier of an occurrence of the class is a copy of a token on a text line
module _ (laws : TokenLaws) (project : PlainProject) (files : List PlainFile) (place : PlainFileToken) (r : Renaming) (there : HasItsFiles project files) (found : Somewhere project (IsFound project files place)) (unhindered : Nowhere project (Breaks project files place r in_macro_body)) where
  module _ (token : PlainFileToken) (member : InClass project files place token) (o : OccursSomewhere project files token) where
    abbrev pub copy : PlainToken
    copy = o.found.occurrence.identifier.token

    pub given : IsGivenIn project files (has o.configuration) copy
    given = is-given o.product o.found

    abbrev pub sources : Sources
    sources = sources_of project files (has o.configuration)

    copy-member : InClass project files place (file_token o.found.occurrence)
    copy-member = subst (InClass project files place) (sym o.there) member

    touched : IsTouched project files place o.configuration
    touched = record {
      token = file_token o.found.occurrence;
      member = copy-member;
      unit = given.unit;
      present = given.present;
      active =
          at (λ t. t.kind ≡ Name → IsActive sources (file_of project given.unit) t.origin.file t.origin.span) copy given.tokens
          (recursion_from_All (λ t. t.kind ≡ Name → IsActive sources (file_of project given.unit) t.origin.file t.origin.span) given.tokens
          (laws.read sources (file_of project given.unit) given.tokens given.are_given)) given.among given.is_name;
    }

    pub is-copied : IsCopied sources copy
    is-copied =
        at (IsCopied sources) copy given.tokens
        (recursion_from_All (IsCopied sources) given.tokens
        (laws.copied sources (file_of project given.unit) given.tokens (laws.sources.unit project files (has o.configuration) given.unit there given.present) given.are_given)) given.among

    pub file-is : copy.origin.file ≡ token.file
    file-is = ap (λ (x : PlainFileToken). x.file) o.there

    pub no-body : copy.origin.place ≡ MacroBody → ⊥
    no-body e =
        unhindered o.configuration o.product.admitted
        (record { touched = touched; stands_in_the_way = record { product = o.product; found = o.found; member = copy-member; holds = e } })

    on-line : (number : ℕ) → IsOnTextLine number (file_at sources number).bytes copy → IsOnTextLine token.file (file_at sources token.file).bytes copy
    on-line number is = subst (λ (n : ℕ). IsOnTextLine n (file_at sources n).bytes copy) (sym is.file ∙ file-is) is

    by-copy : token.file < length files → IsCopied sources copy → IsOnTextLine token.file (file_at sources token.file).bytes copy
    by-copy below (from_file number small is) = on-line number is
    by-copy below (from_header is) =
        let few : length files ≤ built_in_file = there.few in
        let header : copy.origin.file ≡ built_in_file = is.file in
        let known : copy.origin.file ≡ token.file = file-is in
        absurd (omega (arith, few, header, known, below))
    by-copy below (from_body e) = absurd (no-body e)

    pub stands : token.file < length files → IsOnTextLine token.file (file_at sources token.file).bytes copy
    stands below = by-copy below is-copied

    text-name : token.file < length files → IsTextNameSomewhere project files token
    text-name below = record { configuration = o.configuration; there = record { copy = copy; is_name = given.is_name; copies = o.there; on_line = stands below } }

    -- it stands in a file of the project, where nothing of the class is fixed
    in-files : Nowhere project (Breaks project files place r fixed) → token.file < length files
    in-files unfixed = by-file is-copied
      where
        by-file : IsCopied sources copy → token.file < length files
        by-file (from_file number small is) = let known : copy.origin.file ≡ number = is.file in let here : copy.origin.file ≡ token.file = file-is in omega (arith, small, known, here)
        by-file (from_header is) =
            absurd
            (unfixed o.configuration o.product.admitted
            (record { touched = touched; stands_in_the_way = record { product = o.product; found = o.found; member = copy-member; holds = is_built_in is.file } }))
        by-file (from_body e) = absurd (no-body e)

pub stand-on-lines : TokenLaws → ClassesStandOnTextLines
stand-on-lines laws project files place r there found unhindered token below member =
    text-name laws project files place r there found unhindered token member (occurs laws.declared project files place found token member) below

pub stand-in-files : TokenLaws → ClassesStandInFiles
stand-in-files laws project files place r there found unhindered unfixed token member =
    in-files laws project files place r there found unhindered token member (occurs laws.declared project files place found token member) unfixed
