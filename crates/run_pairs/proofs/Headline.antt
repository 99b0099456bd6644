-- An extraction keeps what runs do.
use Rattle.std.proofs.Common.{◌≡◌, ℕ, zero, suc, ◌+◌, ◌≤◌, Bool, true, false, ℤ, pos, List, [], map, refl, sym, ◌∙◌, ap, subst, Option, None, arith}
use Rattle.c_types.specs.Types.{PlainType, int}
use Rattle.c_types.specs.Integers.{converted}
use Rattle.core_meaning.specs.Program.{PlainStatement, no_item, PlainProgram}
use Rattle.core_meaning.specs.Values.{number, pointer, Value, nothing, scalar, whole}
use Rattle.core_meaning.specs.Outcomes.{State, Outcome, Comes, Exits, Stops, Fails, followed_by, give, without_temporaries}
use Rattle.core_meaning.specs.Meaning.{Frame, Ending, falls, breaks, continues, returns, body_of, called, called_function, then_item, items_ending, job_ending, meaning}
use Rattle.core_meaning.specs.Run.{Answer, Ended, Running, Undefined, answer_at, answer_of, first_state, run}
use Rattle.core_meaning.specs.Growth.{Extends, IsDefined, IsReachedBy, LargerBoundReaches, outcome_output, output_of}
use Rattle.run_pairs.specs.Correspondences.{Correspondence, HeldAside, Related, RelatedPieces, RelatedOutcomes, RelatedEndings, statement_setting}
use Rattle.run_pairs.specs.Alike.{Uses, RelatedFrames, in_block, at_declaration, before_items, AlikePrograms, RelatedJobs}
use Rattle.run_pairs.specs.Extraction.{Extracted}
use Rattle.run_pairs.specs.Starts.{first_objects_of}
use Rattle.run_pairs.specs.Laws.{KeepsRunsWithMoreCalls, KeepsRunsWithFewerCalls, ExtractionRuns, RenamingRuns}
use Rattle.run_pairs.proofs.Pieces.{same_grown, after_nothing, second_only, pieces_to}
use Rattle.run_pairs.proofs.Expressions.{frames_grow}
use Rattle.run_pairs.proofs.Statements.{SelectedRelated, only_falls, EndingPair, both_fall, both_break, both_continue, both_return, ending_pair}
use Rattle.run_pairs.proofs.Operations.{numbers, pointers, ValuePair, nothings, scalars, wholes, value_pair}
use Rattle.run_pairs.proofs.Starts.{starts_related}
use Rattle.run_pairs.proofs.Jobs.{LaterAt, first_laters, second_laters, job_alike}
use Rattle.run_pairs.proofs.Extractions.{Stands, all_passed, passed_values, second_there, selected_after}

module _ (p p' : PlainProgram) (functions : ℕ → Option ℕ) (arity : ℕ → ℕ) (first : Correspondence) (alike : AlikePrograms p p' functions arity first (Stands p p' functions arity first)) where
  -- where the result has nothing left of its bound
  extracted_stops : (n : ℕ) (held : HeldAside) (c : Correspondence) → (types types' : List PlainType) (uses : Uses) → (ss tt' : List PlainStatement) → Extracted p p' functions arity first types types' uses ss tt' →
      (frame frame' : Frame) → RelatedFrames types types' uses held c frame frame' → (ts us : List ℕ) →
      RelatedPieces (statement_setting false held ts us) (RelatedEndings false false) c (items_ending p (meaning p n) frame (before_items ss no_item)) (items_ending p' (meaning p' 0) frame' (before_items tt' no_item))
  extracted_stops n held c types types' uses ss tt' x frame frame' fr ts us = record {
    in_states = λ d grown s s' st.
        let later' = meaning p' 0 in
        let fr' = frames_grow types types' uses held c d grown frame frame' fr in
        let passing = all_passed frame'.objects x.entries (λ k e f. let i = x.in_scope k e f in second_there d (frame.objects i.0) (frame'.objects _) (fr'.direct_objects i.0 _ i.1)) in
        let vs = map scalar passing.0 in
        let s₀ : State = record s' { temporaries = [] } in
        let original : Outcome Ending = items_ending p (meaning p n) frame (before_items ss no_item) s in
        let result : items_ending p' later' frame' (before_items tt' no_item) s' ≡ Stops [] =
        ap (λ ts. items_ending p' later' frame' (before_items ts no_item) s') x.call_alone ∙
        (ap (λ o. followed_by (followed_by (followed_by (followed_by o (called p' later' x.callee)) (λ v now. Comes v (without_temporaries s'.temporaries now) [])) (λ v. give falls)) (λ e. then_item p' later' e (give falls)))
        (passed_values p' later' frame' x.entries passing.0 passing.1 s₀) ∙
        (ap (λ o. followed_by (followed_by (followed_by o (λ v now. Comes v (without_temporaries s'.temporaries now) [])) (λ v. give falls)) (λ e. then_item p' later' e (give falls)))
        (after_nothing (called p' later' x.callee vs s₀) ∙
        ap (λ o. called_function p' later' o x.callee vs s₀) x.is_function))) in
        subst (λ o. RelatedOutcomes (statement_setting false held ts us) (RelatedEndings false false) d original o) (sym result)
        (second_only (statement_setting false held ts us) (RelatedEndings false false) d false refl [] original (outcome_output original, refl));
  }

  selected_stops : (n : ℕ) → SelectedRelated p p' functions arity first (Stands p p' functions arity first) alike false (meaning p n) (meaning p' 0)
  selected_stops n held c g types types' uses distinct r (in_block ss) tt' x frame frame' fr object t declared ts us =
      pieces_to (λ d g' y z e. only_falls false r d y z (ending_pair false false d y z e)) (extracted_stops n held c types types' uses ss tt' x frame frame' fr ts us)
  selected_stops n held c g types types' uses distinct r (at_declaration j u) tt' x frame frame' fr object t declared ts us = absurd x

  pub first_at : (n m : ℕ) → n + n ≤ m → LaterAt p p' functions arity first (Stands p p' functions arity first) alike true n m
  first_at n m less = first_laters p p' functions arity first (Stands p p' functions arity first) alike true refl (selected_after p p' functions arity first alike true) n m less

  pub second_at : (n m : ℕ) → m ≤ n → LaterAt p p' functions arity first (Stands p p' functions arity first) alike false n m
  second_at n m less = second_laters p p' functions arity first (Stands p p' functions arity first) alike false refl selected_stops (selected_after p p' functions arity first alike false) n m less

  pub selected_second : (n m : ℕ) → m ≤ n → SelectedRelated p p' functions arity first (Stands p p' functions arity first) alike false (meaning p n) (meaning p' m)
  selected_second n zero less = selected_stops n
  selected_second n (suc m) less = selected_after p p' functions arity first alike false n m (second_at n m (omega (arith, less)))

-- ---- answers

abbrev pub Main : Bool → Correspondence → Outcome Ending → Outcome Ending → Type 0
Main cut c o o' = RelatedOutcomes (statement_setting cut (λ k. None) [] []) (RelatedEndings false true) c o o'

same_answer : (c : Correspondence) (out : List ℕ) (x y : Ending) → EndingPair false true c x y → IsDefined (answer_at x out) → (z : ℤ) × (answer_at x out ≡ Ended out z) × (answer_at y out ≡ Ended out z)
same_answer c out x y both_fall d = (pos 0, refl, refl)
same_answer c out x y (both_break e) d = absurd d
same_answer c out x y (both_continue e) d = absurd d
same_answer c out x y (both_return v w e h) d = by_value v w (value_pair c v w h) d where
  by_value : (v w : Value) → ValuePair c v w → IsDefined (answer_at (returns v) out) → (z : ℤ) × (answer_at (returns v) out ≡ Ended out z) × (answer_at (returns w) out ≡ Ended out z)
  by_value v w nothings d = absurd d
  by_value v w (scalars _ _ (numbers z)) d = (converted int z, refl, refl)
  by_value v w (scalars _ _ (pointers q r h)) d = absurd d
  by_value v w (wholes a b h) d = absurd d

answer_output : (x : Ending) (out : List ℕ) → output_of (answer_at x out) ≡ out
answer_output falls out = refl
answer_output breaks out = refl
answer_output continues out = refl
answer_output (returns nothing) out = refl
answer_output (returns (whole cells)) out = refl
answer_output (returns (scalar (number z))) out = refl
answer_output (returns (scalar (pointer q))) out = refl

same_output : (o : Outcome Ending) → output_of (answer_of o) ≡ outcome_output o
same_output (Comes x s out) = answer_output x out
same_output (Exits status out) = refl
same_output (Stops out) = refl
same_output (Fails out) = refl

pub first_reached : (c : Correspondence) (o o' : Outcome Ending) → Main true c o o' → IsDefined (answer_of o) → IsDefined (answer_of o') → IsReachedBy (answer_of o) (answer_of o')
first_reached c (Fails out) o' h d d' = absurd d
first_reached c (Comes x s out) (Comes y s' out') h d d' =
    let a = same_answer h.1.now out x y (ending_pair false true h.1.now x y h.1.ends.results) d in
    subst (λ b. IsReachedBy b (answer_at y out')) (sym a.1) (subst (λ o. answer_at y o ≡ Ended out a.0) h.0 a.2)
first_reached c (Exits status out) (Exits status' out') h d d' = ap (λ o. Ended o status') (sym h.1) ∙ ap (Ended out) (sym h.0)
first_reached c (Stops out) (Stops out') h d d' = (tt, h)
first_reached c (Stops out) (Comes y s' out') h d d' = (d', subst (λ o. Extends out o) (sym (answer_output y out')) h)
first_reached c (Stops out) (Exits status out') h d d' = (tt, h)
first_reached c (Stops out) (Fails out') h d d' = absurd d'
first_reached c (Comes x s out) (Exits status out') h d d' = absurd h
first_reached c (Comes x s out) (Stops out') h d d' = absurd h
first_reached c (Comes x s out) (Fails out') h d d' = absurd h
first_reached c (Exits status out) (Comes y s' out') h d d' = absurd h
first_reached c (Exits status out) (Stops out') h d d' = absurd h
first_reached c (Exits status out) (Fails out') h d d' = absurd h

pub second_reached : (c : Correspondence) (o o' : Outcome Ending) → Main false c o o' → IsDefined (answer_of o) → IsReachedBy (answer_of o') (answer_of o)
second_reached c (Fails out) o' h d = absurd d
second_reached c (Comes x s out) (Comes y s' out') h d =
    let a = same_answer h.1.now out x y (ending_pair false true h.1.now x y h.1.ends.results) d in
    subst (λ b. IsReachedBy b (answer_at x out)) (sym (subst (λ o. answer_at y o ≡ Ended out a.0) h.0 a.2)) a.1
second_reached c (Exits status out) (Exits status' out') h d = ap (λ o. Ended o status) h.1 ∙ ap (Ended out') h.0
second_reached c (Stops out) (Stops out') h d = (tt, h)
second_reached c (Comes x s out) (Stops out') h d = (d, subst (λ o. Extends out' o) (sym (answer_output x out)) h)
second_reached c (Exits status out) (Stops out') h d = (tt, h)
second_reached c (Comes x s out) (Exits status out') h d = absurd h
second_reached c (Comes x s out) (Fails out') h d = absurd h
second_reached c (Exits status out) (Comes y s' out') h d = absurd h
second_reached c (Exits status out) (Fails out') h d = absurd h
second_reached c (Stops out) (Comes y s' out') h d = absurd h
second_reached c (Stops out) (Exits status out') h d = absurd h
second_reached c (Stops out) (Fails out') h d = absurd h

pub reached_defined : (a b : Answer) → IsReachedBy a b → IsDefined a
reached_defined (Ended out status) b h = tt
reached_defined (Running out) b h = tt
reached_defined (Undefined out) b h = h

-- ---- the two ways

module _ (grows : LargerBoundReaches) where
  pub extraction_runs_lem : ExtractionRuns
  extraction_runs_lem p p' x input n d =
      let m = suc (n + n) in
      let states : (cut : Bool) → Related (statement_setting cut (λ k. None) [] []) (first_objects_of p x.texts) (first_state p input) (first_state p' input) =
      λ cut. record { memories = starts_related p p' x.texts x.alike.same_structs x.starts; inputs = refl; temporary_objects = (refl, refl) } in
      let main : RelatedJobs p p' x.functions x.arity (first_objects_of p x.texts) (Stands p p' x.functions x.arity (first_objects_of p x.texts)) (λ k. None) true (first_objects_of p x.texts) (body_of p.main []) (body_of p'.main []) =
      record { returning = refl; same_function = x.same_main; values = tt; count = sym x.main_alone } in
      let second : (k : ℕ) → Main false (first_objects_of p x.texts) (job_ending p (meaning p k) (body_of p.main []) (first_state p input)) (job_ending p' (meaning p' k) (body_of p'.main []) (first_state p' input)) =
      λ k. (job_alike p p' x.functions x.arity (first_objects_of p x.texts) (Stands p p' x.functions x.arity (first_objects_of p x.texts)) x.alike false (meaning p k) (meaning p' k) (second_at p p' x.functions x.arity (first_objects_of p x.texts) x.alike k k (omega arith)) (selected_second p p' x.functions x.arity (first_objects_of p x.texts) x.alike k k (omega arith)) (λ k. None) [] []
      true (first_objects_of p x.texts) (same_grown (first_objects_of p x.texts)) (body_of p.main []) (body_of p'.main []) main).in_states (first_objects_of p x.texts) (same_grown (first_objects_of p x.texts)) (first_state p input) (first_state p' input) (states false) in
      let first : Main true (first_objects_of p x.texts) (job_ending p (meaning p n) (body_of p.main []) (first_state p input)) (job_ending p' (meaning p' m) (body_of p'.main []) (first_state p' input)) =
      (job_alike p p' x.functions x.arity (first_objects_of p x.texts) (Stands p p' x.functions x.arity (first_objects_of p x.texts)) x.alike true (meaning p n) (meaning p' m) (first_at p p' x.functions x.arity (first_objects_of p x.texts) x.alike n m (omega arith)) (selected_after p p' x.functions x.arity (first_objects_of p x.texts) x.alike true n (n + n) (first_at p p' x.functions x.arity (first_objects_of p x.texts) x.alike n (n + n) (omega arith))) (λ k. None) [] []
      true (first_objects_of p x.texts) (same_grown (first_objects_of p x.texts)) (body_of p.main []) (body_of p'.main []) main).in_states (first_objects_of p x.texts) (same_grown (first_objects_of p x.texts)) (first_state p input) (first_state p' input) (states true) in
      let defined_n : IsDefined (run p input n) = reached_defined (run p input n) (run p input m) (grows p input n m (omega arith) d) in
      let defined_m : IsDefined (run p' input m) = reached_defined (run p' input m) (run p input m) (second_reached (first_objects_of p x.texts) _ _ (second m) d) in
      (first_reached (first_objects_of p x.texts) _ _ first defined_n defined_m, second_reached (first_objects_of p x.texts) _ _ (second n) defined_n)

  -- ---- a renaming

  pub same_program_with_more : (p : PlainProgram) → KeepsRunsWithMoreCalls p p
  same_program_with_more p input n d =
      let less : n ≤ suc (n + n) = omega arith in
      let defined_n : IsDefined (run p input n) = reached_defined (run p input n) (run p input (suc (n + n))) (grows p input n (suc (n + n)) less d) in
      (grows p input n (suc (n + n)) less d, grows p input n n (omega arith) defined_n)

  pub same_program_with_fewer : (p : PlainProgram) → KeepsRunsWithFewerCalls p p
  same_program_with_fewer p input n d =
      let less : n ≤ suc (n + n) = omega arith in
      let defined_n : IsDefined (run p input n) = reached_defined (run p input n) (run p input (suc (n + n))) (grows p input n (suc (n + n)) less d) in
      (grows p input n n (omega arith) defined_n, grows p input n (suc (n + n)) less d)

  pub renaming_runs_lem : RenamingRuns
  renaming_runs_lem p p' same =
      (subst (λ q. KeepsRunsWithMoreCalls p q) same (same_program_with_more p), subst (λ q. KeepsRunsWithFewerCalls p q) same (same_program_with_fewer p))
