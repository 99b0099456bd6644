-- What refactorings keep of the runs of a core program (ISO/IEC 9899:2011, 5.1.2.3).
use Rattle.std.specs.Prelude.{◌≡◌, ℕ, suc, ◌+◌, Bool, true, false, List, Option, Some}
use Rattle.c_types.specs.Types.{PlainType}
use Rattle.core_meaning.specs.Program.{PlainExpression, PlainStatement, PlainProgram}
use Rattle.core_meaning.specs.Meaning.{Frame, Job, value_of, ending_of, meaning}
use Rattle.core_meaning.specs.Run.{run}
use Rattle.core_meaning.specs.Growth.{IsDefined, IsReachedBy}
use Rattle.run_pairs.specs.Correspondences.{Correspondence, Grown, HeldAside, RelatedValues, RelatedPieces, RelatedEndings, expression_setting, statement_setting}
use Rattle.run_pairs.specs.Alike.{Uses, AreDistinct, RelatedFrames, Replacement, AlikeExpressions, AlikeStatements, RelatedJobs, AlikePrograms}
use Rattle.run_pairs.specs.Starts.{first_objects_of, AlikeStarts}
use Rattle.run_pairs.specs.Extraction.{Extracts}
use Rattle.run_pairs.specs.Inlining.{Inlines}

-- A program whose calls became more keeps the runs of the original, where the original meets no undefined behaviour up to
-- 2n + 1: each run of the original to n is reached by the other's to 2n + 1, and each of the other's to n by the original's.
abbrev pub KeepsRunsWithMoreCalls : PlainProgram → PlainProgram → Type 0
KeepsRunsWithMoreCalls p p' = (input : List ℕ) (n : ℕ) → IsDefined (run p input (suc (n + n))) →
    IsReachedBy (run p input n) (run p' input (suc (n + n))) × IsReachedBy (run p' input n) (run p input n)

-- the same where its calls became fewer
abbrev pub KeepsRunsWithFewerCalls : PlainProgram → PlainProgram → Type 0
KeepsRunsWithFewerCalls p p' = (input : List ℕ) (n : ℕ) → IsDefined (run p input (suc (n + n))) →
    IsReachedBy (run p input n) (run p' input n) × IsReachedBy (run p' input n) (run p input (suc (n + n)))

-- ---- pieces

-- Alike pieces that begin in related states, the original's with so much of the bound left and the result's with so much,
-- where the bound may cut off the original's alone, or else the result's alone.
pub record PiecesCorrespond (p p' : PlainProgram) (functions : ℕ → Option ℕ) (arity : ℕ → ℕ) (first : Correspondence) (Stands : Replacement) (first_cut : Bool) (n m : ℕ) : Type 0 where
  pub expressions : (held : HeldAside) (c : Correspondence) → Grown first c →
      (types types' : List PlainType) (uses : Uses) (a b : PlainExpression) →
      AlikeExpressions p p' functions arity first false uses a b →
      (frame frame' : Frame) → RelatedFrames types types' uses held c frame frame' →
      RelatedPieces (expression_setting first_cut held) RelatedValues c (value_of p (meaning p n) frame a) (value_of p' (meaning p' m) frame' b)
  pub statements : (held : HeldAside) (c : Correspondence) → Grown first c →
      (types types' : List PlainType) (selects : Bool) (uses : Uses) → AreDistinct uses → (in_loop may_return : Bool) (a b : PlainStatement) →
      AlikeStatements p p' functions arity first Stands types types' selects uses in_loop may_return a b →
      (frame frame' : Frame) → RelatedFrames types types' uses held c frame frame' → (ts us : List ℕ) →
      RelatedPieces (statement_setting first_cut held ts us) (RelatedEndings in_loop may_return) c
      (ending_of p (meaning p n) frame a) (ending_of p' (meaning p' m) frame' b)
  -- a call's body, or a turn of a loop with all that follows in that loop
  pub calls : (held : HeldAside) (c : Correspondence) → Grown first c → (may_return : Bool) (job job' : Job) →
      RelatedJobs p p' functions arity first Stands held may_return c job job' → (ts us : List ℕ) →
      RelatedPieces (statement_setting first_cut held ts us) (RelatedEndings false may_return) c (meaning p n job) (meaning p' m job')

-- ---- extraction

-- The second program is the first with selected statements in functions of their own. Functions and texts are numbered anew;
-- globals, as structs, keep their numbers.
pub record IsExtraction (p p' : PlainProgram) : Type 0 where
  pub functions : ℕ → Option ℕ
  pub arity : ℕ → ℕ
  pub texts : ℕ → Option ℕ
  pub same_main : functions p.main ≡ Some p'.main
  pub main_alone : arity p.main ≡ 0
  pub alike : AlikePrograms p p' functions arity (first_objects_of p texts) (Extracts p p' functions arity (first_objects_of p texts))
  pub starts : AlikeStarts p p' texts

abbrev pub ExtractionRuns : Type 0
ExtractionRuns = (p p' : PlainProgram) → IsExtraction p p' → KeepsRunsWithMoreCalls p p'

abbrev pub ExtractedPieces : (p p' : PlainProgram) → IsExtraction p p' → Bool → ℕ → ℕ → Type 0
ExtractedPieces p p' x first_cut n m =
    PiecesCorrespond p p' x.functions x.arity (first_objects_of p x.texts) (Extracts p p' x.functions x.arity (first_objects_of p x.texts)) first_cut n m

-- The side that may be cut off has n, and the other one 2n + 1.
abbrev pub ExtractionPieces : Type 0
ExtractionPieces = (p p' : PlainProgram) (x : IsExtraction p p') (n : ℕ) →
    ExtractedPieces p p' x true n (suc (n + n)) × ExtractedPieces p p' x false (suc (n + n)) n

-- ---- inlining

-- The second program is the first with blocks in the place of some calls; the functions that these call are still there.
pub record IsInlining (p p' : PlainProgram) : Type 0 where
  pub functions : ℕ → Option ℕ
  pub arity : ℕ → ℕ
  pub texts : ℕ → Option ℕ
  pub same_main : functions p.main ≡ Some p'.main
  pub main_alone : arity p.main ≡ 0
  pub alike : AlikePrograms p p' functions arity (first_objects_of p texts) (Inlines p p' functions arity (first_objects_of p texts))
  pub starts : AlikeStarts p p' texts

abbrev pub InliningRuns : Type 0
InliningRuns = (p p' : PlainProgram) → IsInlining p p' → KeepsRunsWithFewerCalls p p'

abbrev pub InlinedPieces : (p p' : PlainProgram) → IsInlining p p' → Bool → ℕ → ℕ → Type 0
InlinedPieces p p' x first_cut n m =
    PiecesCorrespond p p' x.functions x.arity (first_objects_of p x.texts) (Inlines p p' x.functions x.arity (first_objects_of p x.texts)) first_cut n m

-- Where the original's may be cut off, both have n; where the result's may, the original has 2n + 1 for its n.
abbrev pub InliningPieces : Type 0
InliningPieces = (p p' : PlainProgram) (x : IsInlining p p') (n : ℕ) →
    InlinedPieces p p' x true n n × InlinedPieces p p' x false (suc (n + n)) n

-- ---- renaming

-- a renaming leaves the core program as it is
abbrev pub RenamingRuns : Type 0
RenamingRuns = (p p' : PlainProgram) → p ≡ p' → KeepsRunsWithMoreCalls p p' × KeepsRunsWithFewerCalls p p'
