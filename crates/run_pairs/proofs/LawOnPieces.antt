-- Each piece of an extraction, at its bounds.
use Rattle.std.proofs.Common.{Option, ℕ, suc, ◌+◌, Bool, true, false, arith}
use Rattle.core_meaning.specs.Program.{PlainProgram}
use Rattle.core_meaning.specs.Meaning.{meaning}
use Rattle.run_pairs.specs.Correspondences.{Correspondence, expression_setting}
use Rattle.run_pairs.specs.Starts.{first_objects_of}
use Rattle.run_pairs.specs.Alike.{Replacement, AlikePrograms}
use Rattle.run_pairs.specs.Laws.{PiecesCorrespond, IsExtraction, ExtractedPieces, ExtractionPieces}
use Rattle.run_pairs.proofs.Calls.{temporary_related}
use Rattle.run_pairs.proofs.Expressions.{values_alike}
use Rattle.run_pairs.proofs.Statements.{LaterRelated, SelectedRelated, calls_alike, statements_alike}
use Rattle.run_pairs.proofs.Extractions.{Stands, selected_after}
use Rattle.run_pairs.proofs.Headline.{first_at, second_at, selected_second}

module _ (p p' : PlainProgram) (functions : ℕ → Option ℕ) (arity : ℕ → ℕ) (first : Correspondence) (Stands : Replacement) (alike : AlikePrograms p p' functions arity first Stands) where
  pub pieces_at : (first_cut : Bool) (n m : ℕ) →
      LaterRelated p p' functions arity first Stands alike first_cut (meaning p n) (meaning p' m) → SelectedRelated p p' functions arity first Stands alike first_cut (meaning p n) (meaning p' m) →
      PiecesCorrespond p p' functions arity first Stands first_cut n m
  pieces_at first_cut n m laters selecteds = record {
    expressions = λ held c g types types' uses a b h frame frame' fr.
        values_alike p p' functions arity first alike.same_structs (expression_setting first_cut held) (meaning p n) (meaning p' m)
        (calls_alike p p' functions arity first Stands alike first_cut (meaning p n) (meaning p' m) laters held)
        false (λ e. temporary_related p p' alike.same_structs first_cut held) types types' uses frame frame' a b h c g fr;
    statements = λ held c g types types' selects uses distinct l r a b h frame frame' fr ts us.
        statements_alike p p' functions arity first Stands alike first_cut (meaning p n) (meaning p' m) laters selects (λ e. selecteds) held types types' ts us uses l r a b h distinct c g frame frame' fr;
    calls = λ held c g r job job' h ts us. laters held r c g job job' h ts us;
  }

module _ (p p' : PlainProgram) (x : IsExtraction p p') where
  abbrev first : Correspondence
  first = first_objects_of p x.texts

  pub extraction_pieces_at : (n : ℕ) → ExtractedPieces p p' x true n (suc (n + n)) × ExtractedPieces p p' x false (suc (n + n)) n
  extraction_pieces_at n = (
    pieces_at p p' x.functions x.arity first (Stands p p' x.functions x.arity first) x.alike true n (suc (n + n)) (first_at p p' x.functions x.arity first x.alike n (suc (n + n)) (omega arith))
        (selected_after p p' x.functions x.arity first x.alike true n (n + n) (first_at p p' x.functions x.arity first x.alike n (n + n) (omega arith))),
    pieces_at p p' x.functions x.arity first (Stands p p' x.functions x.arity first) x.alike false (suc (n + n)) n (second_at p p' x.functions x.arity first x.alike (suc (n + n)) n (omega arith))
        (selected_second p p' x.functions x.arity first x.alike (suc (n + n)) n (omega arith)),
  )

pub extraction_pieces_lem : ExtractionPieces
extraction_pieces_lem p p' x n = extraction_pieces_at p p' x n
