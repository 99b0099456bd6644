-- An inlining keeps what runs do.
use Rattle.std.proofs.Common.{◌≡◌, ℕ, zero, suc, ◌+◌, ◌≤◌, Bool, true, false, List, [], refl, sym, subst, Option, None, arith}
use Rattle.core_meaning.specs.Program.{PlainProgram}
use Rattle.core_meaning.specs.Meaning.{body_of, job_ending, meaning}
use Rattle.core_meaning.specs.Run.{first_state, run}
use Rattle.core_meaning.specs.Growth.{IsDefined, LargerBoundReaches}
use Rattle.run_pairs.specs.Correspondences.{Correspondence, Related, statement_setting}
use Rattle.run_pairs.specs.Alike.{AlikePrograms, RelatedJobs}
use Rattle.run_pairs.specs.Starts.{first_objects_of}
use Rattle.run_pairs.specs.Laws.{IsInlining, InlinedPieces, InliningPieces, InliningRuns}
use Rattle.run_pairs.proofs.Pieces.{same_grown}
use Rattle.run_pairs.proofs.Starts.{starts_related}
use Rattle.run_pairs.proofs.Jobs.{LaterAt, SelectedAt, job_alike, first_stops, second_stops}
use Rattle.run_pairs.proofs.Inlinings.{Stands, inlined_at}
use Rattle.run_pairs.proofs.Headline.{Main, first_reached, second_reached, reached_defined}
use Rattle.run_pairs.proofs.LawOnPieces.{pieces_at}

module _ (p p' : PlainProgram) (functions : ℕ → Option ℕ) (arity : ℕ → ℕ) (first : Correspondence) (alike : AlikePrograms p p' functions arity first (Stands p p' functions arity first)) where
  abbrev Later : Bool → ℕ → ℕ → Type 0
  Later cut n m = LaterAt p p' functions arity first (Stands p p' functions arity first) alike cut n m

  abbrev Selected : Bool → ℕ → ℕ → Type 0
  Selected cut n m = SelectedAt p p' functions arity first (Stands p p' functions arity first) alike cut n m

  less_one : (n k : ℕ) → suc n ≡ suc k → n ≡ k
  less_one n k e = omega (arith, e)

  no_zero : (k : ℕ) → 0 ≡ suc k → ⊥
  no_zero k e = absurd (omega (arith, e))

  no_more : (n : ℕ) → suc n ≡ 0 → ⊥
  no_more n e = absurd (omega (arith, e))

  -- a call costs the original one, and the block in its place nothing
  selected_first : (m : ℕ) → Later true 0 m → Selected true 0 m
  selected_first m laters = inlined_at p p' functions arity first alike true 0 m laters (λ k e. absurd (no_zero k e)) (λ e. refl)

  selected_next : (cut : Bool) (n m : ℕ) → Later cut (suc n) m → Later cut n m → Selected cut (suc n) m
  selected_next cut n m laters inner =
      inlined_at p p' functions arity first alike cut (suc n) m laters (λ k e. subst (λ i. Later cut i m) (less_one n k e) inner) (λ e. absurd (no_more n e))

  -- Where the original's bound may cut it off, the result has as much; where the result's may, the original has twice as much.
  pub firsts : (n m : ℕ) → n ≤ m → Later true n m
  firsts zero m less = first_stops p p' functions arity first (Stands p p' functions arity first) alike true refl m
  firsts (suc n) zero less = absurd (omega (arith, less))
  firsts (suc zero) (suc m) less = λ held r c g job job' h ts us.
      job_alike p p' functions arity first (Stands p p' functions arity first) alike true (meaning p 0) (meaning p' m) (firsts 0 m (omega arith)) (selected_first m (firsts 0 m (omega arith))) held ts us r c g job job' h
  firsts (suc (suc n)) (suc m) less = λ held r c g job job' h ts us.
      job_alike p p' functions arity first (Stands p p' functions arity first) alike true (meaning p (suc n)) (meaning p' m) (firsts (suc n) m (omega (arith, less)))
      (selected_next true n m (firsts (suc n) m (omega (arith, less))) (firsts n m (omega (arith, less)))) held ts us r c g job job' h

  pub seconds : (n m : ℕ) → m + m ≤ n → Later false n m
  seconds n zero less = second_stops p p' functions arity first (Stands p p' functions arity first) alike false refl n
  seconds zero (suc m) less = absurd (omega (arith, less))
  seconds (suc zero) (suc m) less = absurd (omega (arith, less))
  seconds (suc (suc n)) (suc m) less = λ held r c g job job' h ts us.
      job_alike p p' functions arity first (Stands p p' functions arity first) alike false (meaning p (suc n)) (meaning p' m) (seconds (suc n) m (omega (arith, less)))
      (selected_next false n m (seconds (suc n) m (omega (arith, less))) (seconds n m (omega (arith, less)))) held ts us r c g job job' h

  pub selected_at : (n : ℕ) → Selected true n n
  selected_at zero = selected_first 0 (firsts 0 0 (omega arith))
  selected_at (suc n) = selected_next true n (suc n) (firsts (suc n) (suc n) (omega arith)) (firsts n (suc n) (omega arith))

  pub selected_twice : (n : ℕ) → Selected false (suc (n + n)) n
  selected_twice n = selected_next false (n + n) n (seconds (suc (n + n)) n (omega arith)) (seconds (n + n) n (omega arith))

module _ (p p' : PlainProgram) (x : IsInlining p p') where
  abbrev first : Correspondence
  first = first_objects_of p x.texts

  inlining_pieces_at : (n : ℕ) → InlinedPieces p p' x true n n × InlinedPieces p p' x false (suc (n + n)) n
  inlining_pieces_at n = (
    pieces_at p p' x.functions x.arity first (Stands p p' x.functions x.arity first) x.alike true n n (firsts p p' x.functions x.arity first x.alike n n (omega arith)) (selected_at p p' x.functions x.arity first x.alike n),
    pieces_at p p' x.functions x.arity first (Stands p p' x.functions x.arity first) x.alike false (suc (n + n)) n (seconds p p' x.functions x.arity first x.alike (suc (n + n)) n (omega arith)) (selected_twice p p' x.functions x.arity first x.alike n),
  )

  states : (cut : Bool) (input : List ℕ) → Related (statement_setting cut (λ k. None) [] []) first (first_state p input) (first_state p' input)
  states cut input = record { memories = starts_related p p' x.texts x.alike.same_structs x.starts; inputs = refl; temporary_objects = (refl, refl) }

  main_alike : RelatedJobs p p' x.functions x.arity first (Stands p p' x.functions x.arity first) (λ k. None) true first (body_of p.main []) (body_of p'.main [])
  main_alike = record { returning = refl; same_function = x.same_main; values = tt; count = sym x.main_alone }

  mains : (cut : Bool) (n m : ℕ) → Later p p' x.functions x.arity first x.alike cut n m → Selected p p' x.functions x.arity first x.alike cut n m → (input : List ℕ) →
      Main cut first (job_ending p (meaning p n) (body_of p.main []) (first_state p input)) (job_ending p' (meaning p' m) (body_of p'.main []) (first_state p' input))
  mains cut n m laters selecteds input =
      (job_alike p p' x.functions x.arity first (Stands p p' x.functions x.arity first) x.alike cut (meaning p n) (meaning p' m) laters selecteds (λ k. None) [] [] true first (same_grown first) (body_of p.main []) (body_of p'.main []) main_alike).in_states first (same_grown first) (first_state p input) (first_state p' input) (states cut input)

pub inlining_pieces_lem : InliningPieces
inlining_pieces_lem p p' x n = inlining_pieces_at p p' x n

module _ (grows : LargerBoundReaches) where
  pub inlining_runs_lem : InliningRuns
  inlining_runs_lem p p' x input n d =
      let first = first_objects_of p x.texts in
      let second = second_reached first _ _ (mains p p' x false (suc (n + n)) n (seconds p p' x.functions x.arity first x.alike (suc (n + n)) n (omega arith)) (selected_twice p p' x.functions x.arity first x.alike n) input) d in
      let defined_n : IsDefined (run p input n) = reached_defined (run p input n) (run p input (suc (n + n))) (grows p input n (suc (n + n)) (omega arith) d) in (
        first_reached first _ _ (mains p p' x true n n (firsts p p' x.functions x.arity first x.alike n n (omega arith)) (selected_at p p' x.functions x.arity first x.alike n) input) defined_n
            (reached_defined (run p' input n) (run p input (suc (n + n))) second),
        second,
      )
