-- What is said of a renaming, by what becomes of it.
use Rattle.std.proofs.Common.{◌≡◌, inl, inr, ℕ, Bool, true, false, not, List, [], ◌∷◌, ◌++◌, length, Option, Some, None, map, refl, sym, ap, ◌∙◌, subst, codes, if◌then◌else◌}
use Rattle.std.specs.Prelude.{◌↔◌}
use Rattle.std.specs.List.{AllByRecursion}
use Rattle.std.specs.Str.{bytes_eq}
use Rattle.std.proofs.lemmas.Slice.Eq.{bytes_eq-Decides}
use Rattle.text_edits.specs.Files.{PlainFile}
use Rattle.cond_formula.specs.Features.{has}
use Rattle.project_file.specs.Projects.{PlainProject, names_on}
use Rattle.command_promises.specs.Courses.{Deed, says}
use Rattle.command_promises.specs.Sayings.{usage}
use Rattle.command_projects.specs.Least.{IsAdmitted, Nowhere, Somewhere, IsLeast}
use Rattle.command_projects.specs.Projects.{Unless}
use Rattle.sat_core.specs.declared.answers.Proof.{Proof}
use Rattle.project_questions.proofs.Same.{nowhere-of-same, least-of-same}
use Rattle.project_refactorings.specs.Refactorings.{refused_at, put_in, refactored, Asking, Refactors}
use Rattle.renamings.specs.Renamings.{Renaming, renamed_files}
use Rattle.program_occurrences.specs.Classes.{PlainFileToken}
use Rattle.reference_classes.specs.Preconditions.{Precondition, broken, in_macro_body, macro_name, fixed, capture, precondition_name, preconditions, Breaks, BreaksNamed}
use Rattle.reference_classes.specs.Renamed.{report_of}
use Rattle.class_edits.specs.Listed.{renaming_of}
use Rattle.named_classes.specs.Classes.{NamedClass, Finds, IsNamedClass}
use Rattle.rename_op.specs.Outcomes.{earlier, HasOldName, IsRefused, IsRenamed}
use Rattle.rename_words.specs.Words.{RenameQuery}
use Rattle.command_rename.specs.Rename.{renaming_for, renaming}

-- ---- names of preconditions

abbrev named : List ℕ → Option Precondition
named name =
    if bytes_eq name (codes "Broken") then Some broken
    else (if bytes_eq name (codes "InMacroBody") then Some in_macro_body
    else (if bytes_eq name (codes "MacroName") then Some macro_name
    else (if bytes_eq name (codes "Fixed") then Some fixed
    else (if bytes_eq name (codes "Capture") then Some capture else None))))

is-named : (p : Precondition) → named (precondition_name p) ≡ Some p
is-named broken = refl
is-named in_macro_body = refl
is-named macro_name = refl
is-named fixed = refl
is-named capture = refl

some-one : (a b : Precondition) → ◌≡◌ {A = Option Precondition} (Some a) (Some b) → a ≡ b
some-one a b e = cc

name-is-one : (p q : Precondition) → precondition_name p ≡ precondition_name q → p ≡ q
name-is-one p q e = some-one p q (sym (is-named p) ∙ (ap named e ∙ is-named q))

pub same-by-name :
    (project : PlainProject) (files : List PlainFile) (place : PlainFileToken) (r : Renaming) (p : Precondition) (c : List Bool) → IsAdmitted project c
    → Breaks project files place r p c ↔ BreaksNamed project files place r (precondition_name p) c
same-by-name project files place r p c admitted =
    (λ b. record { precondition = p; named = refl; breaks = b }, λ n. subst (λ x. Breaks project files place r x c) (name-is-one n.precondition p n.named) n.breaks)

-- ---- courses

module _ (q : RenameQuery) (source : PlainFile) (project : PlainProject) (file : ℕ) (sources : List PlainFile) where
  found-somewhere : (class : NamedClass) → IsNamedClass project sources file q.offset class → Somewhere project (Finds project sources file q.offset)
  found-somewhere class is = record {
    witness = is.found.witness;
    admitted = is.found.admitted;
    holds = record { place = class.place; holds = is.holds; found = is.found.holds };
  }

  pub same-name-said : HasOldName project sources file q.offset q.new → (deed : Deed) → deed ≡ says usage → Refactors renaming q source project file sources [] deed
  same-name-said h deed e =
      inr (
        found-somewhere h.class h.is_class,
        h.class,
        h.is_class,
        subst (λ b. Unless (not b) usage (Asking renaming q source project sources h.class (map precondition_name preconditions)) [] deed)
            (sym ((bytes_eq-Decides h.class.old q.new).1 h.same_name)) e,
      )

  module _ (class : NamedClass) (is : IsNamedClass project sources file q.offset class) (other : class.old ≡ q.new → ⊥) where
    abbrev r : Renaming
    r = renaming_for q sources class

    abbrev Broken : Precondition → List Bool → Type 0
    Broken p = Breaks project sources class.place r p

    abbrev Asks : List Precondition → Deed → Type 0
    Asks ps deed = Asking renaming q source project sources class (map precondition_name ps) [] deed

    other-name : (b : Bool) → bytes_eq class.old q.new ≡ b → b ≡ false
    other-name true e = absurd (other ((bytes_eq-Decides class.old q.new).0 e))
    other-name false e = refl

    asked : (deed : Deed) → Asks preconditions deed → Refactors renaming q source project file sources [] deed
    asked deed h =
        inr (
          found-somewhere class is,
          class,
          is,
          subst (λ b. Unless (not b) usage (Asking renaming q source project sources class (map precondition_name preconditions)) [] deed)
              (sym (other-name (bytes_eq class.old q.new) refl)) h,
        )

    none-named : (p : Precondition) → Nowhere project (Broken p) → Nowhere project (BreaksNamed project sources class.place r (precondition_name p))
    none-named p = nowhere-of-same project (Broken p) (BreaksNamed project sources class.place r (precondition_name p)) (same-by-name project sources class.place r p)

    least-named : (p : Precondition) (c : List Bool) → IsLeast project (Broken p) c → IsLeast project (BreaksNamed project sources class.place r (precondition_name p)) c
    least-named p c = least-of-same project (Broken p) (BreaksNamed project sources class.place r (precondition_name p)) (same-by-name project sources class.place r p) c

    abbrev Refusal : Precondition → List Bool → Deed → Type 0
    Refusal p c deed = deed ≡ says (refused_at (precondition_name p) (names_on (has c) project.features))

    said-first : (p : Precondition) (ps : List Precondition) (c : List Bool) (deed : Deed) → IsLeast project (Broken p) c → Refusal p c deed → Asks (p ∷ ps) deed
    said-first p ps c deed least e = inl (c, least-named p c least, e)

    asked-next : (p : Precondition) (ps : List Precondition) (deed : Deed) → Nowhere project (Broken p) → Asks ps deed → Asks (p ∷ ps) deed
    asked-next p ps deed none h = inr (none-named p none, h)

    refusal-asked : (p : Precondition) (c : List Bool) (deed : Deed) → AllByRecursion (λ x. Nowhere project (Broken x)) (earlier p) → IsLeast project (Broken p) c → Refusal p c deed → Asks preconditions deed
    refusal-asked broken c deed none least e = said-first broken (in_macro_body ∷ macro_name ∷ fixed ∷ capture ∷ []) c deed least e
    refusal-asked in_macro_body c deed none least e =
        asked-next broken (in_macro_body ∷ macro_name ∷ fixed ∷ capture ∷ []) deed none.0 (said-first in_macro_body (macro_name ∷ fixed ∷ capture ∷ []) c deed least e)
    refusal-asked macro_name c deed none least e =
        asked-next broken (in_macro_body ∷ macro_name ∷ fixed ∷ capture ∷ []) deed none.0
        (asked-next in_macro_body (macro_name ∷ fixed ∷ capture ∷ []) deed none.1.0 (said-first macro_name (fixed ∷ capture ∷ []) c deed least e))
    refusal-asked fixed c deed none least e =
        asked-next broken (in_macro_body ∷ macro_name ∷ fixed ∷ capture ∷ []) deed none.0
        (asked-next in_macro_body (macro_name ∷ fixed ∷ capture ∷ []) deed none.1.0
        (asked-next macro_name (fixed ∷ capture ∷ []) deed none.1.1.0 (said-first fixed (capture ∷ []) c deed least e)))
    refusal-asked capture c deed none least e =
        asked-next broken (in_macro_body ∷ macro_name ∷ fixed ∷ capture ∷ []) deed none.0
        (asked-next in_macro_body (macro_name ∷ fixed ∷ capture ∷ []) deed none.1.0
        (asked-next macro_name (fixed ∷ capture ∷ []) deed none.1.1.0 (asked-next fixed (capture ∷ []) deed none.1.1.1.0 (said-first capture [] c deed least e))))

    none-asked : ((p : Precondition) → Nowhere project (Broken p)) → (deed : Deed) → deed ≡ says (refactored renaming q source project sources class) → Asks preconditions deed
    none-asked none deed e =
        asked-next broken (in_macro_body ∷ macro_name ∷ fixed ∷ capture ∷ []) deed (none broken)
        (asked-next in_macro_body (macro_name ∷ fixed ∷ capture ∷ []) deed (none in_macro_body)
        (asked-next macro_name (fixed ∷ capture ∷ []) deed (none macro_name)
        (asked-next fixed (capture ∷ []) deed (none fixed) (asked-next capture [] deed (none capture) e))))

  pub refusal-said :
      (p : Precondition) (c : List Bool) → IsRefused project sources file q.offset q.new p c → (deed : Deed)
      → deed ≡ says (refused_at (precondition_name p) (names_on (has c) project.features)) → Refactors renaming q source project file sources [] deed
  refusal-said p c h deed e =
      asked h.class h.is_class h.other_name deed (refusal-asked h.class h.is_class h.other_name p c deed h.first.none_before h.first.least e)

  pub renaming-said :
      (tokens : List PlainFileToken) (proofs : List Proof) → IsRenamed project sources file q.offset q.new tokens proofs → (deed : Deed)
      → ((old : List ℕ) → deed ≡ says (put_in q.out (renamed_files (renaming_of (length sources) tokens old q.new) 0 sources ++ source ∷ []) (report_of (renaming_of (length sources) tokens old q.new) sources)))
      → Refactors renaming q source project file sources [] deed
  renaming-said tokens proofs h deed said =
      asked h.class h.is_class h.other_name deed (none-asked h.class h.is_class h.other_name h.unhindered deed
      (subst (λ (ts : List PlainFileToken). deed ≡ says (put_in q.out (renamed_files (renaming_of (length sources) ts h.class.old q.new) 0 sources ++ source ∷ []) (report_of (renaming_of (length sources) ts h.class.old q.new) sources)))
      (sym h.tokens_are) (said h.class.old)))
