-- Related calls and turns end in related ways, and so at bounds.
use Rattle.std.proofs.Common.{◌≡◌, ℕ, zero, suc, ◌+◌, ◌<◌, ◌≤◌, Bool, true, false, List, [], ◌∷◌, length, ◌⊎◌, inl, inr, refl, sym, ◌∙◌, ap, subst, cond, ltb, Option, Some, None, slice_get, arith}
use Rattle.std.proofs.lemmas.Option.{none-some}
use Rattle.std.proofs.lemmas.Bool.{true≢false, cases_order, eq-eqb, ne_eqb, lt-ltb, le-ltb}
use Rattle.c_types.specs.Types.{PlainType}
use Rattle.core_meaning.specs.Program.{PlainItems, PlainFunction, defined, built_in, PlainProgram}
use Rattle.core_meaning.specs.Values.{at, Value}
use Rattle.core_meaning.specs.Outcomes.{Piece}
use Rattle.core_meaning.specs.Meaning.{Ending, Frame, with_slot, Job, body_of, turn, enter, enter_function, after_turn, job_ending, meaning}
use Rattle.core_meaning.specs.Growth.{outcome_output}
use Rattle.run_pairs.specs.Correspondences.{Correspondence, Grown, WhereGiven, HeldAside, Setting, RelatedPieces, RelatedValueLists, statement_setting, RelatedEndings}
use Rattle.run_pairs.specs.Alike.{Use, Uses, direct, through, elements, unused, AreDistinct, with_use, RelatedFrames, AlikeItems, RelatedJobs, Replacement, parameter_uses, AlikeFunctions, AlikePrograms}
use Rattle.run_pairs.proofs.Pieces.{grown_on, first_only, second_only, pieces_then, pieces_give, pieces_given}
use Rattle.run_pairs.proofs.MemoryPairs.{values_grow, some_same}
use Rattle.run_pairs.proofs.Operations.{pieces_undefined, write_related, make_related, end_related}
use Rattle.run_pairs.proofs.Calls.{value_lists_grow}
use Rattle.run_pairs.proofs.Expressions.{frames_grow}
use Rattle.run_pairs.proofs.Statements.{direct_of, frames_with, endings_grow, EndingPair, both_fall, both_break, both_continue, both_return, ending_pair, LaterRelated, SelectedRelated, full_value, asks_alike, statements_alike, items_alike}

-- ---- the slots of parameters

module _ (k i : ℕ) where
  one_more : with_use (parameter_uses k) k k i ≡ parameter_uses (suc k) i
  one_more = by_case (cases_order i k) where
    by_case : (i ≡ k) ⊎ ((i < k) ⊎ (k < i)) → with_use (parameter_uses k) k k i ≡ parameter_uses (suc k) i
    by_case (inl same) =
        ap (λ b. cond b (direct k) (cond (ltb i k) (direct i) unused)) (eq-eqb i k same) ∙
        (ap direct (sym same) ∙ sym (ap (λ b. cond b (direct i) unused) (lt-ltb i (suc k) (omega (arith, same)))))
    by_case (inr (inl less)) =
        ap (λ b. cond b (direct k) (cond (ltb i k) (direct i) unused)) (ne_eqb i k (λ same. absurd (omega (arith, less, same)))) ∙
        (ap (λ b. cond b (direct i) unused) (lt-ltb i k less) ∙ sym (ap (λ b. cond b (direct i) unused) (lt-ltb i (suc k) (omega (arith, less)))))
    by_case (inr (inr more)) =
        ap (λ b. cond b (direct k) (cond (ltb i k) (direct i) unused)) (ne_eqb i k (λ same. absurd (omega (arith, more, same)))) ∙
        (ap (λ b. cond b (direct i) unused) (le-ltb i k (omega (arith, more))) ∙ sym (ap (λ b. cond b (direct i) unused) (le-ltb i (suc k) (omega (arith, more)))))

parameter_is : (n i k : ℕ) (b : Bool) → ltb i n ≡ b → cond b (direct i) unused ≡ direct k → i ≡ k
parameter_is n i k true t e = some_same (ap direct_of e)
parameter_is n i k false t e = absurd (none-some _ (ap direct_of e))

abbrev is_used : Use → Bool
is_used (direct k) = true
is_used (through k) = true
is_used (elements k) = true
is_used unused = false

abbrev is_other : Use → Bool
is_other (direct k) = false
is_other (through k) = true
is_other (elements k) = true
is_other unused = false

parameters_direct : (n i : ℕ) (b : Bool) (u : Use) → is_other u ≡ true → cond b (direct i) unused ≡ u → ⊥
parameters_direct n i true u t e = absurd (true≢false (sym (subst (λ u. is_other u ≡ true) (sym e) t)))
parameters_direct n i false u t e = absurd (true≢false (sym (subst (λ u. is_other u ≡ true) (sym e) t)))

distinct_parameters : (n : ℕ) → AreDistinct (parameter_uses n)
distinct_parameters n = record {
  one = λ i j k e f. parameter_is n i k (ltb i n) refl e ∙ sym (parameter_is n j k (ltb j n) refl f);
  no_parameter = λ i j k e f. parameters_direct n j (ltb j n) (through k) refl f;
  no_array = λ i j k e f. parameters_direct n j (ltb j n) (elements k) refl f;
}

distinct_to : (u v : Uses) → ((i : ℕ) → v i ≡ u i) → AreDistinct u → AreDistinct v
distinct_to u v same d = record {
  one = λ i j k e f. d.one i j k (sym (same i) ∙ e) (sym (same j) ∙ f);
  no_parameter = λ i j k e f. d.no_parameter i j k (sym (same i) ∙ e) (sym (same j) ∙ f);
  no_array = λ i j k e f. d.no_array i j k (sym (same i) ∙ e) (sym (same j) ∙ f);
}

frames_to : (types types' : List PlainType) (u v : Uses) → ((i : ℕ) → v i ≡ u i) → (held : HeldAside) (c : Correspondence) (frame frame' : Frame) → RelatedFrames types types' u held c frame frame' → RelatedFrames types types' v held c frame frame'
frames_to types types' u v same held c frame frame' r = record {
  these_types = r.these_types;
  those_types = r.those_types;
  direct_objects = λ j k e. r.direct_objects j k (sym (same j) ∙ e);
  passed_objects = λ j k e. r.passed_objects j k (sym (same j) ∙ e);
  passed_arrays = λ j k e. r.passed_arrays j k (sym (same j) ∙ e);
}

no_slots : (types types' : List PlainType) (held : HeldAside) (c : Correspondence) →
    RelatedFrames types types' (parameter_uses 0) held c (record { types = types; objects = λ k. None }) (record { types = types'; objects = λ k. None })
no_slots types types' held c = record {
  these_types = refl;
  those_types = refl;
  direct_objects = λ j k e. absurd (none_before j (direct k) e refl);
  passed_objects = λ j k e. absurd (none_before j (through k) e refl);
  passed_arrays = λ j k e. absurd (none_before j (elements k) e refl);
} where
  none_before : (j : ℕ) (u : Use) → parameter_uses 0 j ≡ u → is_used u ≡ true → ⊥
  none_before j u e t = true≢false (sym t ∙ (ap is_used (sym e) ∙ ap (λ b. is_used (cond b (direct j) unused)) (le-ltb j 0 (omega arith))))

module _ (p p' : PlainProgram) (functions : ℕ → Option ℕ) (arity : ℕ → ℕ) (first : Correspondence) (Stands : Replacement)
    (alike : AlikePrograms p p' functions arity first Stands) (first_cut : Bool) where
  module _ (later later' : Job → Piece Ending)
      (laters : LaterRelated p p' functions arity first Stands alike first_cut later later') (selecteds : SelectedRelated p p' functions arity first Stands alike first_cut later later')
      (held : HeldAside) (ts us : List ℕ) where
    abbrev around : Setting
    around = statement_setting first_cut held ts us

    enter_alike : (types types' : List PlainType) (count : ℕ) → ((k : ℕ) → suc k ≤ count → WhereGiven ◌≡◌ (slice_get types k) (slice_get types' k)) →
        (selects : Bool) (body body' : PlainItems) → AlikeItems p p' functions arity first Stands types types' selects (parameter_uses count) false true body body' →
        (vs ws : List Value) (k : ℕ) → k + length vs ≡ count → (c : Correspondence) → Grown first c → RelatedValueLists c vs ws → (frame frame' : Frame) → RelatedFrames types types' (parameter_uses k) held c frame frame' →
        RelatedPieces around (RelatedEndings false true) c (enter p later frame k vs body) (enter p' later' frame' k ws body')
    enter_alike types types' count same selects body body' h [] [] k n c g r frame frame' fr =
        let all : k ≡ count = omega (arith, n) in
        items_alike p p' functions arity first Stands alike first_cut later later' laters selects (λ e. selecteds) held types types' ts us (parameter_uses count) false true body body' h (distinct_parameters count) c g frame frame'
        (subst (λ n. RelatedFrames types types' (parameter_uses n) held c frame frame') all fr)
    enter_alike types types' count same selects body body' h (v ∷ vs) (w ∷ ws) k n c g r frame frame' fr =
        pieces_then (pieces_given (slice_get frame.types k) (slice_get frame'.types k) (λ d g'.
        subst (λ x. WhereGiven ◌≡◌ (slice_get x k) (slice_get frame'.types k)) (sym fr.these_types) (subst (λ x. WhereGiven ◌≡◌ (slice_get types k) (slice_get x k)) (sym fr.those_types) (same k (omega (arith, n)))))) (λ d g' t t' e.
        pieces_then (make_related p p' alike.same_structs around d t t' e) (λ d₂ g₂ i i' o.
        let to : Grown c d₂ = grown_on g' g₂ in
        let vw = values_grow c d₂ to v w r.0 in
        pieces_then (write_related p p' alike.same_structs around d₂ (at i []) (at i' []) (o, refl) v w vw) (λ d₃ g₃ q q' z.
        let o₃ = g₃.keeps i i' o in
        let frames = frames_to types types' (with_use (parameter_uses k) k k) (parameter_uses (suc k)) (λ x. sym (one_more k x)) held d₃ (with_slot frame k i) (with_slot frame' k i')
        (frames_with types types' (parameter_uses k) held d₃ k k (distinct_to (parameter_uses (suc k)) (with_use (parameter_uses k) k k) (λ x. one_more k x) (distinct_parameters (suc k))) i i' o₃ frame frame'
        (frames_grow types types' (parameter_uses k) held c d₃ (grown_on to g₃) frame frame' fr)) in
        pieces_then (enter_alike types types' count same selects body body' h vs ws (suc k) (omega (arith, n)) d₃ (grown_on g (grown_on to g₃)) (value_lists_grow c d₃ (grown_on to g₃) vs ws r.1) (with_slot frame k i) (with_slot frame' k i') frames) (λ d₄ g₄ x y end.
        end_related p p' alike.same_structs around (RelatedEndings false true) d₄ i i' (g₄.keeps i i' o₃) x y (λ d₅ g₅. endings_grow false true d₄ d₅ g₅ x y end)))))
    enter_alike types types' count same selects body body' h [] (w ∷ ws) k n c g r frame frame' fr = absurd r
    enter_alike types types' count same selects body body' h (v ∷ vs) [] k n c g r frame frame' fr = absurd r

    function_alike : (count : ℕ) (vs ws : List Value) → length vs ≡ count → (c : Correspondence) → Grown first c → RelatedValueLists c vs ws → (x y : Option PlainFunction) → WhereGiven (AlikeFunctions p p' functions arity first Stands count) x y →
        RelatedPieces around (RelatedEndings false true) c (enter_function p later x vs) (enter_function p' later' y ws)
    function_alike count vs ws n c g r None y h = pieces_undefined _
    function_alike count vs ws n c g r (Some x) None h = absurd h
    function_alike count vs ws n c g r (Some (built_in b)) (Some y) h = pieces_undefined _
    function_alike count vs ws n c g r (Some (defined types body)) (Some (built_in b)) h = absurd h
    function_alike count vs ws n c g r (Some (defined types body)) (Some (defined types' body')) h =
        enter_alike types types' count h.parameter_types h.selects body body' h.items vs ws 0 (omega (arith, n)) c g r _ _ (no_slots types types' held c)

    after_turn_alike : (r : Bool) (c : Correspondence) (x y : Ending) → EndingPair true r c x y → (f g : Piece Ending) → RelatedPieces around (RelatedEndings false r) c f g →
        RelatedPieces around (RelatedEndings false r) c (after_turn p later x f) (after_turn p' later' y g)
    after_turn_alike r c x y both_fall f g h = h
    after_turn_alike r c x y (both_continue e) f g h = h
    after_turn_alike r c x y (both_break e) f g h = pieces_give (λ d g. tt)
    after_turn_alike r c x y (both_return v w e k) f g h = pieces_give (λ d g. (e, values_grow c d g v w k))

    pub job_alike : (r : Bool) (c : Correspondence) → Grown first c → (job job' : Job) → RelatedJobs p p' functions arity first Stands held r c job job' →
        RelatedPieces around (RelatedEndings false r) c (job_ending p later job) (job_ending p' later' job')
    job_alike r c g (body_of f vs) (body_of f' ws) h =
        subst (λ r. RelatedPieces around (RelatedEndings false r) c (job_ending p later (body_of f vs)) (job_ending p' later' (body_of f' ws))) (sym h.returning)
        (function_alike (arity f) vs ws h.count c g h.values (slice_get p.functions f) (slice_get p'.functions f') (alike.alike_functions f f' h.same_function))
    job_alike r c g (turn frame a s x) (turn frame' b t y) h =
        pieces_then (statements_alike p p' functions arity first Stands alike first_cut later later' laters h.selects (λ e. selecteds) held h.types h.types' ts us h.uses true r x y h.bodies h.distinct c g frame frame' h.frames) (λ d g' z z' w.
        let fr = frames_grow h.types h.types' h.uses held c d g' frame frame' h.frames in
        after_turn_alike r d z z' (ending_pair true r d z z' w) _ _
        (pieces_then (full_value p p' functions arity first Stands alike first_cut later later' laters h.selects (λ e. selecteds) held h.types h.types' h.uses s t h.steps d (grown_on g g') frame frame' fr ts us) (λ d₂ g₂ v v' e.
        asks_alike p p' functions arity first Stands alike first_cut later later' laters h.selects (λ e. selecteds) held h.types h.types' ts us h.uses h.distinct r a b s t x y h.conditions h.steps h.bodies d₂ (grown_on g (grown_on g' g₂)) frame frame'
        (frames_grow h.types h.types' h.uses held d d₂ g₂ frame frame' fr))))
    job_alike r c g (body_of f vs) (turn frame' b t y) h = absurd h
    job_alike r c g (turn frame a s x) (body_of f ws) h = absurd h

  -- ---- at bounds

  abbrev pub LaterAt : ℕ → ℕ → Type 0
  LaterAt n m = LaterRelated p p' functions arity first Stands alike first_cut (meaning p n) (meaning p' m)

  abbrev pub SelectedAt : ℕ → ℕ → Type 0
  SelectedAt n m = SelectedRelated p p' functions arity first Stands alike first_cut (meaning p n) (meaning p' m)

  -- the original is cut off, and the result goes on; or the other way round
  pub first_stops : first_cut ≡ true → (m : ℕ) → LaterAt 0 m
  first_stops e m held r c g job job' h ts us = record {
    in_states = λ d grown s s' st.
        first_only (statement_setting first_cut held ts us) (RelatedEndings false r) d true e [] (meaning p' m job' s') (outcome_output (meaning p' m job' s'), refl);
  }

  pub second_stops : first_cut ≡ false → (n : ℕ) → LaterAt n 0
  second_stops e n held r c g job job' h ts us = record {
    in_states = λ d grown s s' st.
        second_only (statement_setting first_cut held ts us) (RelatedEndings false r) d false e [] (meaning p n job s) (outcome_output (meaning p n job s), refl);
  }

  -- The result has 2n for the original's n, where what stands for selected statements costs it one.
  pub first_laters : first_cut ≡ true → ((n m : ℕ) → LaterAt n m → SelectedAt n (suc m)) → (n m : ℕ) → n + n ≤ m → LaterAt n m
  first_laters e selecteds zero m less = first_stops e m
  first_laters e selecteds (suc n) zero less = absurd (omega (arith, less))
  first_laters e selecteds (suc n) (suc zero) less = absurd (omega (arith, less))
  first_laters e selecteds (suc n) (suc (suc m)) less = λ held r c g job job' h ts us.
      job_alike (meaning p n) (meaning p' (suc m)) (first_laters e selecteds n (suc m) (omega (arith, less))) (selecteds n m (first_laters e selecteds n m (omega (arith, less)))) held ts us r c g job job' h

  pub second_laters : first_cut ≡ false → ((n : ℕ) → SelectedAt n 0) → ((n m : ℕ) → LaterAt n m → SelectedAt n (suc m)) → (n m : ℕ) → m ≤ n → LaterAt n m
  second_laters e start selecteds n zero less = second_stops e n
  second_laters e start selecteds zero (suc m) less = absurd (omega (arith, less))
  second_laters e start selecteds (suc n) (suc zero) less = λ held r c g job job' h ts us.
      job_alike (meaning p n) (meaning p' 0) (second_stops e n) (start n) held ts us r c g job job' h
  second_laters e start selecteds (suc n) (suc (suc m)) less = λ held r c g job job' h ts us.
      job_alike (meaning p n) (meaning p' (suc m)) (second_laters e start selecteds n (suc m) (omega (arith, less))) (selecteds n m (second_laters e start selecteds n m (omega (arith, less)))) held ts us r c g job job' h
