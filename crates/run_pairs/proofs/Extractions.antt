-- Selected statements and the call that stands for them.
use Rattle.std.proofs.Common.{◌≡◌, ℕ, zero, suc, ◌+◌, ◌≤◌, ◌<◌, Bool, true, false, List, [], ◌∷◌, map, length, ◌⊎◌, inl, inr, refl, sym, ◌∙◌, ap, subst, eqb, Option, Some, None, option_map, slice_get, arith}
use Rattle.std.proofs.lemmas.Option.{none-some}
use Rattle.std.proofs.lemmas.Bool.{cond-true, cond-false, true≢false, cases_eq, eq-eqb, ne_eqb}
use Rattle.c_types.specs.Types.{PlainType}
use Rattle.core_meaning.specs.Program.{PlainStatement, PlainItems, no_item, PlainProgram}
use Rattle.core_meaning.specs.Values.{part, at, Scalar, pointer, Value, scalar, is_scalar}
use Rattle.core_meaning.specs.Memory.{Object, unwritten, fresh, with_new, with_all_ended, first_at}
use Rattle.core_meaning.specs.Outcomes.{State, Outcome, Comes, Piece, after, followed_by, ◌>>=◌, give, given, set_memory, without_temporaries}
use Rattle.core_meaning.specs.Meaning.{as_value, Ending, falls, Frame, with_slot, Job, make, write_to, end_object, values_of, called_function, called, call_value, then_item, items_ending, enter, enter_function, meaning}
use Rattle.run_pairs.specs.Correspondences.{Correspondence, Grown, holding, HeldAside, HoldsAside, RelatedMemories, Setting, Related, RelatedOutcomes, RelatedPieces, statement_setting, RelatedEndings}
use Rattle.run_pairs.specs.Alike.{Uses, AreDistinct, in_block, at_declaration, Replacement, BothGiven, RelatedFrames, before_items, AlikePrograms}
use Rattle.run_pairs.specs.Extraction.{Entry, variable, array, arguments_of, slot_of, Extracted, Extracts}
use Rattle.std.specs.Prelude.{⊤}
use Rattle.run_pairs.proofs.MemoryPairs.{some_same}
use Rattle.run_pairs.proofs.Pieces.{same_grown, grown_on, after_nothing, pieces_to, outcomes_right}
use Rattle.run_pairs.proofs.Private.{held_with, put, written_new, related_put, related_ended}
use Rattle.run_pairs.proofs.Embedding.{items_to}
use Rattle.run_pairs.proofs.Expressions.{frames_grow}
use Rattle.run_pairs.proofs.Statements.{EndingPair, both_fall, both_break, both_continue, both_return, ending_pair, LaterRelated, SelectedRelated, only_falls, items_alike}

-- ---- what is passed

plus_zero : (k : ℕ) → k ≡ k + 0
plus_zero k = omega arith

plus_suc : (k i : ℕ) → k + suc i ≡ suc k + i
plus_suc k i = omega arith

zero_plus : (i : ℕ) → i ≡ 0 + i
zero_plus i = omega arith

before_it : (i b : ℕ) → suc i ≤ b → i ≡ b → ⊥
before_it i b less same = absurd (omega (arith, less, same))

has_place : {A : Type 0} (xs : List A) (k : ℕ) (x : A) → slice_get xs k ≡ Some x → k < length xs
has_place [] k x e = absurd (none-some _ e)
has_place (y ∷ xs) zero x e = omega arith
has_place (y ∷ xs) (suc k) x e = let less : k < length xs = has_place xs k x e in omega (arith, less)

pub second_there : (c : Correspondence) (a b : Option ℕ) → BothGiven (λ a b. c a ≡ Some b) a b → (o : ℕ) × (b ≡ Some o)
second_there c None None h = absurd h
second_there c None (Some b) h = absurd h
second_there c (Some a) None h = absurd h
second_there c (Some a) (Some b) h = (b, refl)

abbrev pub passed_pointer : Entry → ℕ → Scalar
passed_pointer (variable i) b = pointer (at b [])
passed_pointer (array i) b = pointer (at b (part 0 ∷ []))

abbrev pub Passed : (ℕ → Option ℕ) → List Entry → List Scalar → Type 0
Passed objects [] [] = ⊤
Passed objects (e ∷ es) (x ∷ xs) = ((b : ℕ) × (objects (slot_of e) ≡ Some b) × (x ≡ passed_pointer e b)) × Passed objects es xs
Passed objects es xs = ⊥

passed_at : (objects : ℕ → Option ℕ) (es : List Entry) (xs : List Scalar) → Passed objects es xs → (k : ℕ) (e : Entry) → slice_get es k ≡ Some e →
    (b : ℕ) × (objects (slot_of e) ≡ Some b) × (slice_get xs k ≡ Some (passed_pointer e b))
passed_at objects [] xs h k e f = absurd (none-some _ f)
passed_at objects (e ∷ es) [] h k e' f = absurd h
passed_at objects (e ∷ es) (x ∷ xs) h zero e' f =
    let same : e ≡ e' = some_same f in
    subst (λ e'. (b : ℕ) × (objects (slot_of e') ≡ Some b) × (Some x ≡ Some (passed_pointer e' b))) same (h.0.0, h.0.1, ap Some h.0.2)
passed_at objects (e ∷ es) (x ∷ xs) h (suc k) e' f = passed_at objects es xs h.1 k e' f

entry_at : (objects : ℕ → Option ℕ) (es : List Entry) (xs : List Scalar) → Passed objects es xs → (k : ℕ) (y : Scalar) → slice_get xs k ≡ Some y → (e : Entry) × (slice_get es k ≡ Some e)
entry_at objects [] [] h k y f = absurd (none-some _ f)
entry_at objects [] (x ∷ xs) h k y f = absurd h
entry_at objects (e ∷ es) [] h k y f = absurd h
entry_at objects (e ∷ es) (x ∷ xs) h zero y f = (e, refl)
entry_at objects (e ∷ es) (x ∷ xs) h (suc k) y f = entry_at objects es xs h.1 k y f

pub all_passed : (objects : ℕ → Option ℕ) (es : List Entry) → ((k : ℕ) (e : Entry) → slice_get es k ≡ Some e → (b : ℕ) × (objects (slot_of e) ≡ Some b)) → (xs : List Scalar) × Passed objects es xs
all_passed objects [] h = ([], tt)
all_passed objects (e ∷ es) h =
    let here = h 0 e refl in
    let rest = all_passed objects es (λ k e f. h (suc k) e f) in
    (passed_pointer e here.0 ∷ rest.0, ((here.0, here.1, refl), rest.1))

module _ (p' : PlainProgram) (later' : Job → Piece Ending) (frame' : Frame) where
  passed_value : (e : Entry) (b : ℕ) → frame'.objects (slot_of e) ≡ Some b → (es : List Entry) (s : State) →
      values_of p' later' frame' (arguments_of (e ∷ es)) s ≡ after [] (followed_by (values_of p' later' frame' (arguments_of es) s) (λ vs. give (scalar (passed_pointer e b) ∷ vs)))
  passed_value (variable i) b h es s =
      ap (λ o. followed_by (followed_by (followed_by (given (option_map (λ object. at object []) o) s) (λ q. give (scalar (pointer q)))) as_value)
      (λ v. values_of p' later' frame' (arguments_of es) >>= (λ vs. give (v ∷ vs)))) h
  passed_value (array i) b h es s =
      ap (λ o. followed_by (followed_by (followed_by (given (option_map (λ object. at object []) o) s) (λ q. given (first_at q) >>= (λ first. give (scalar (pointer first))))) as_value)
      (λ v. values_of p' later' frame' (arguments_of es) >>= (λ vs. give (v ∷ vs)))) h

  pub passed_values : (es : List Entry) (xs : List Scalar) → Passed frame'.objects es xs → (s : State) → values_of p' later' frame' (arguments_of es) s ≡ Comes (map scalar xs) s []
  passed_values [] [] h s = refl
  passed_values [] (x ∷ xs) h s = absurd h
  passed_values (e ∷ es) [] h s = absurd h
  passed_values (e ∷ es) (x ∷ xs) h s =
      passed_value e h.0.0 h.0.1 es s ∙
      (ap (λ o. after [] (followed_by o (λ vs. give (scalar (passed_pointer e h.0.0) ∷ vs)))) (passed_values es xs h.1 s) ∙
      ap (λ x. Comes (scalar x ∷ map scalar xs) s []) (sym h.0.2))

-- ---- the new function is entered

module _ (p' : PlainProgram) (later' : Job → Piece Ending) (first_cut : Bool) (ts us : List ℕ) (c : Correspondence) (original : State → Outcome Ending) (body : PlainItems)
    (types : List PlainType) (all : List Scalar) (small : (k : ℕ) (x : Scalar) → slice_get all k ≡ Some x → (t : PlainType) × (slice_get types k ≡ Some t) × (is_scalar t ≡ true)) where
  -- the parameters below k hold what was passed
  abbrev Hold : HeldAside → Frame → ℕ → Type 0
  Hold held frame k = (j : ℕ) (x : Scalar) → j < k → slice_get all j ≡ Some x → (b : ℕ) × (frame.objects j ≡ Some b) × HoldsAside held b x

  abbrev around : HeldAside → Setting
  around held = statement_setting first_cut held ts us

  entered : (frame : Frame) (k : ℕ) (x : Scalar) (vs : List Value) (t : PlainType) → slice_get frame.types k ≡ Some t → (s : State) →
      enter p' later' frame k (scalar x ∷ vs) body s ≡
      after [] (after [] (after [] (followed_by (enter p' later' (with_slot frame k s.memory.made) (suc k) vs body (record s { memory = put s.memory t x })) (λ e. end_object p' s.memory.made e))))
  entered frame k x vs t e s =
      ap (λ o. followed_by (given o s) (λ t. make p' t unwritten >>= (λ object. write_to p' (at object []) (scalar x) >>= (λ written. enter p' later' (with_slot frame k object) (suc k) vs body >>= (λ ending. end_object p' object ending))))) e ∙
      ap (λ o. after [] (after [] (followed_by (after [] (followed_by (given o (record s { memory = with_new s.memory (fresh t unwritten) })) (λ now. set_memory now >>= (λ done. give (scalar x)))))
      (λ written. enter p' later' (with_slot frame k s.memory.made) (suc k) vs body >>= (λ ending. end_object p' s.memory.made ending))))) (written_new p'.structs s.memory t x)

  module _ (runs : (held : HeldAside) (frame : Frame) → frame.types ≡ types → Hold held frame (length all) → RelatedPieces (around held) (RelatedEndings false false) c original (items_ending p' later' frame body)) where
    still_hold : (held : HeldAside) (frame : Frame) (k : ℕ) (x : Scalar) → slice_get all k ≡ Some x → (b : ℕ) → ((i : ℕ) (y : Object) → held i ≡ Some y → i ≡ b → ⊥) → (t : PlainType) → is_scalar t ≡ true → Hold held frame k → Hold (held_with held b (holding t x)) (with_slot frame k b) (suc k)
    still_hold held frame k x e b new t tiny h j y less f = by_case (cases_eq j k) where
      by_case : (j ≡ k) ⊎ (j ≡ k → ⊥) → (i : ℕ) × ((with_slot frame k b).objects j ≡ Some i) × HoldsAside (held_with held b (holding t x)) i y
      by_case (inl same) = (b, cond-true (eqb j k) (Some b) (frame.objects j) (eq-eqb j k same), (t, tiny, cond-true (eqb b b) (Some (holding t x)) (held b) (eq-eqb b b refl) ∙ ap (λ x. Some (holding t x)) (some_same (sym e ∙ (ap (slice_get all) (sym same) ∙ f)))))
      by_case (inr differ) =
          let o = h j y (omega (arith, less, differ)) f in
          (o.0, cond-false (eqb j k) (Some b) (frame.objects j) (ne_eqb j k differ) ∙ o.1, (o.2.0, o.2.1, cond-false (eqb o.0 b) (Some (holding t x)) (held o.0) (ne_eqb o.0 b (new o.0 _ o.2.2)) ∙ o.2.2))

    enter_passed : (xs : List Scalar) (k : ℕ) → k + length xs ≡ length all → ((i : ℕ) → slice_get xs i ≡ slice_get all (k + i)) → (held : HeldAside) (frame : Frame) → frame.types ≡ types → Hold held frame k →
        (d : Correspondence) → Grown c d → (s s' : State) → Related (around held) d s s' → RelatedOutcomes (around held) (RelatedEndings false false) d (original s) (enter p' later' frame k (map scalar xs) body s')
    enter_passed [] k n at_k held frame these h d g s s' st =
        let whole : k ≡ length all = omega (arith, n) in
        (runs held frame these (subst (Hold held frame) whole h)).in_states d g s s' st
    enter_passed (x ∷ xs) k n at_k held frame these h d g s s' st =
        let e : slice_get all k ≡ Some x = ap (slice_get all) (plus_zero k) ∙ sym (at_k 0) in
        let t = small k x e in let t₀ = t in
        let b = s'.memory.made in
        let new : (i : ℕ) (y : Object) → held i ≡ Some y → i ≡ b → ⊥ = λ i y f same. before_it i b (st.memories.held_before i y f) same in
        let s₁ : State = record s' { memory = put s'.memory t.0 x } in
        let st₁ : Related (around (held_with held b (holding t.0 x))) d s s₁ = record { memories = related_put held d s.memory s'.memory st.memories t.0 x; inputs = st.inputs; temporary_objects = st.temporary_objects } in
        let inner = enter_passed xs (suc k) (omega (arith, n)) (λ i. at_k (suc i) ∙ ap (slice_get all) (plus_suc k i)) (held_with held b (holding t.0 x)) (with_slot frame k b) these (still_hold held frame k x e b new t.0 t.2 h) d g s s₁ st₁ in
        let ended = outcomes_right (around (held_with held b (holding t.0 x))) (RelatedEndings false false) (RelatedEndings false false) d held (around held).temps (around held).temps_grow (λ e. end_object p' b e)
        (λ d₁ g₁ y z t t' r st'. (refl, record { now = d₁; grown = same_grown d₁; ends = record { results = r; states = record { memories = related_ended held b (holding t₀.0 x) d₁ t.memory t'.memory st'.memories new; inputs = st'.inputs; temporary_objects = st'.temporary_objects } } }))
        (original s) (enter p' later' (with_slot frame k b) (suc k) (map scalar xs) body s₁) inner in
        subst (λ o. RelatedOutcomes (around held) (RelatedEndings false false) d (original s) o)
        (sym (entered frame k x (map scalar xs) t.0 (ap (λ ty. slice_get ty k) these ∙ t.1) s' ∙ (after_nothing _ ∙ (after_nothing _ ∙ after_nothing _))))
        ended

-- ---- the call

module _ (p p' : PlainProgram) (functions : ℕ → Option ℕ) (arity : ℕ → ℕ) (first : Correspondence) where
  abbrev pub Stands : Replacement
  Stands types types' uses r selection ts = Extracts p p' functions arity first types types' uses r selection ts

  -- what the call of a function with a body comes to, by what its body does
  abbrev after_body : List ℕ → Outcome Ending → Outcome Ending
  after_body us o = followed_by (followed_by (followed_by (followed_by o (call_value p')) (λ x now. Comes x (without_temporaries us now) [])) (λ v. give falls)) (λ e. then_item p' (λ job. give falls) e (give falls))

  abbrev FallsNow : Correspondence → Ending → Value → Type 0
  FallsNow c y v = y ≡ falls

  abbrev Falls : Correspondence → Ending → Ending → Type 0
  Falls c y z = (y ≡ falls) × (z ≡ falls)

  falls_then : (d : Correspondence) (w : Setting) (t t' : State) → Related w d t t' → (y z : Ending) → Falls d y z → RelatedOutcomes w (RelatedEndings false false) d (Comes y t []) (then_item p' (λ job. give falls) z (give falls) t')
  falls_then d w t t' st y z h =
      subst (λ y. RelatedOutcomes w (RelatedEndings false false) d (Comes y t []) (then_item p' (λ job. give falls) z (give falls) t')) (sym h.0)
      (subst (λ z. RelatedOutcomes w (RelatedEndings false false) d (Comes falls t []) (then_item p' (λ job. give falls) z (give falls) t')) (sym h.1)
      (refl, record { now = d; grown = same_grown d; ends = record { results = tt; states = st } }))

  falls_value : (d : Correspondence) (w : Setting) (t t' : State) → Related w d t t' → (y z : Ending) → EndingPair false false d y z → RelatedOutcomes w FallsNow d (Comes y t []) (call_value p' z t')
  falls_value d w t t' st y z both_fall = (refl, record { now = d; grown = same_grown d; ends = record { results = refl; states = st } })
  falls_value d w t t' st y z (both_break e) = absurd (true≢false (sym e))
  falls_value d w t t' st y z (both_continue e) = absurd (true≢false (sym e))
  falls_value d w t t' st y z (both_return v u e h) = absurd (true≢false (sym e))

  module _ (alike : AlikePrograms p p' functions arity first Stands) (first_cut : Bool) where
    -- the parameters and what they hold, for the selected statements
    inner_frames : (types types' : List PlainType) (uses : Uses) (ss ts : List PlainStatement) (x : Extracted p p' functions arity first types types' uses ss ts)
        (held : HeldAside) (outer : HeldAside) (c : Correspondence) (frame frame' : Frame) → RelatedFrames types types' uses outer c frame frame' → (xs : List Scalar) → Passed frame'.objects x.entries xs →
        (inner : Frame) → inner.types ≡ x.inner_types → ((j : ℕ) (y : Scalar) → j < length xs → slice_get xs j ≡ Some y → (b : ℕ) × (inner.objects j ≡ Some b) × HoldsAside held b y) →
        RelatedFrames types x.inner_types x.inner held c frame inner
    inner_frames types types' uses ss ts x held outer c frame frame' fr xs passed inner these h = record {
      these_types = fr.these_types;
      those_types = these;
      direct_objects = λ j k e. absurd (x.none_direct j k e);
      passed_objects = λ j k e.
          let i = x.passed j k e in
          let v = passed_at frame'.objects x.entries xs passed k (variable i.0) i.2 in
          let o = h k (passed_pointer (variable i.0) v.0) (has_place xs k _ v.2) v.2 in
          put_together (λ b. pointer (at b [])) (frame.objects j) (frame'.objects i.0) v.0 v.1 (fr.direct_objects j i.0 i.1) (inner.objects k) o.0 o.1 o.2;
      passed_arrays = λ j k e.
          let i = x.passed_array j k e in
          let v = passed_at frame'.objects x.entries xs passed k (array i.0) i.2 in
          let o = h k (passed_pointer (array i.0) v.0) (has_place xs k _ v.2) v.2 in
          put_together (λ b. pointer (at b (part 0 ∷ []))) (frame.objects j) (frame'.objects i.0) v.0 v.1 (fr.direct_objects j i.0 i.1) (inner.objects k) o.0 o.1 o.2;
    } where
      put_together : (of : ℕ → Scalar) (a b : Option ℕ) (o : ℕ) → b ≡ Some o → BothGiven (λ a b. c a ≡ Some b) a b → (y : Option ℕ) (q : ℕ) → y ≡ Some q → HoldsAside held q (of o) →
          BothGiven (λ a q. (o : ℕ) × (c a ≡ Some o) × HoldsAside held q (of o)) a y
      put_together of None None o e h y q f k = absurd h
      put_together of None (Some b) o e h y q f k = absurd h
      put_together of (Some a) None o e h y q f k = absurd h
      put_together of (Some a) (Some b) o e h y q f k =
          subst (λ y. BothGiven (λ a q. (o : ℕ) × (c a ≡ Some o) × HoldsAside held q (of o)) (Some a) y) (sym f) (o, h ∙ e, k)

    extracted_after : (n m : ℕ) → LaterRelated p p' functions arity first Stands alike first_cut (meaning p n) (meaning p' m) →
        (held : HeldAside) (c : Correspondence) → Grown first c → (types types' : List PlainType) (uses : Uses) → AreDistinct uses → (ss tt' : List PlainStatement) → Extracted p p' functions arity first types types' uses ss tt' →
        (frame frame' : Frame) → RelatedFrames types types' uses held c frame frame' → (ts us : List ℕ) →
        RelatedPieces (statement_setting first_cut held ts us) (RelatedEndings false false) c (items_ending p (meaning p n) frame (before_items ss no_item)) (items_ending p' (meaning p' (suc m)) frame' (before_items tt' no_item))
    extracted_after n m laters held c g types types' uses distinct ss tt' x frame frame' fr ts us = record {
      in_states = λ d grown s s' st.
          let later' = meaning p' (suc m) in
          let fr' = frames_grow types types' uses held c d grown frame frame' fr in
          let passing = all_passed frame'.objects x.entries (λ k e f. let i = x.in_scope k e f in second_there d (frame.objects i.0) (frame'.objects (slot_of e)) (fr'.direct_objects i.0 (slot_of e) i.1)) in
          let xs = passing.0 in let passed = passing.1 in
          let vs = map scalar xs in
          let s₀ : State = record s' { temporaries = [] } in
          let around = statement_setting first_cut held ts us in
          let inside = statement_setting first_cut held ts [] in
          let original : State → Outcome Ending = items_ending p (meaning p n) frame (before_items ss no_item) in
          let small : (k : ℕ) (y : Scalar) → slice_get xs k ≡ Some y → (t : PlainType) × (slice_get x.inner_types k ≡ Some t) × (is_scalar t ≡ true) =
          λ k y f. let e = entry_at frame'.objects x.entries xs passed k y f in x.parameter_types k e.0 e.1 in
          let inner = enter_passed p' (meaning p' m) first_cut ts [] d original x.body x.inner_types xs small
          (λ held₁ frame₁ these hold. items_alike p p' functions arity first Stands alike first_cut (meaning p n) (meaning p' m) laters false (λ e. absurd (true≢false (sym e))) held₁ types x.inner_types ts [] x.inner false false _ x.body
          (items_to p p' functions arity first Stands types x.inner_types false x.inner false false _ x.body x.items) x.distinct d (grown_on g grown) frame frame₁
          (inner_frames types types' uses ss tt' x held₁ held d frame frame' fr' xs passed frame₁ these hold))
          xs 0 (omega arith) (λ i. ap (slice_get xs) (zero_plus i)) held (record { types = x.inner_types; objects = λ k. None }) refl (λ j y less f. absurd (omega (arith, less))) d (same_grown d) s s₀
          (record { memories = st.memories; inputs = st.inputs; temporary_objects = (st.temporary_objects.0, refl) }) in
          let entered_at : Outcome Ending = enter p' (meaning p' m) (record { types = x.inner_types; objects = λ k. None }) 0 vs x.body s₀ in
          let result : items_ending p' later' frame' (before_items tt' no_item) s' ≡ after_body s'.temporaries entered_at =
          ap (λ ts. items_ending p' later' frame' (before_items ts no_item) s') x.call_alone ∙
          (ap (λ o. followed_by (followed_by (followed_by (followed_by o (called p' later' x.callee)) (λ v now. Comes v (without_temporaries s'.temporaries now) [])) (λ v. give falls)) (λ e. then_item p' later' e (give falls)))
          (passed_values p' later' frame' x.entries xs passed s₀) ∙
          (ap (λ o. followed_by (followed_by (followed_by o (λ v now. Comes v (without_temporaries s'.temporaries now) [])) (λ v. give falls)) (λ e. then_item p' later' e (give falls)))
          (after_nothing (called p' later' x.callee vs s₀) ∙
          (ap (λ o. called_function p' later' o x.callee vs s₀) x.is_function ∙
          ap (λ o. followed_by (enter_function p' (meaning p' m) o vs s₀) (call_value p')) x.is_function)))) in
          subst (λ o. RelatedOutcomes around (RelatedEndings false false) d (original s) o) (sym result)
          (outcomes_right around Falls (RelatedEndings false false) d held around.temps around.temps_grow (λ e. then_item p' (λ job. give falls) e (give falls))
          (λ d₁ g₁ y z t t' r st'. falls_then d₁ around t t' st' y z r)
          (original s) _
          (outcomes_right around FallsNow Falls d held around.temps around.temps_grow (λ v. give falls)
          (λ d₁ g₁ y z t t' r st'. (refl, record { now = d₁; grown = same_grown d₁; ends = record { results = (r, refl); states = st' } }))
          (original s) _
          (outcomes_right inside FallsNow FallsNow d held around.temps around.temps_grow (λ v now. Comes v (without_temporaries s'.temporaries now) [])
          (λ d₁ g₁ y z t t' r st'. (
            refl,
            record {
              now = d₁;
              grown = same_grown d₁;
              ends = record {
                results = r;
                states = record {
                  memories = subst (λ l. RelatedMemories held d₁ t.memory (with_all_ended t'.memory l)) (sym st'.temporary_objects.1) st'.memories;
                  inputs = st'.inputs;
                  temporary_objects = (st'.temporary_objects.0, st.temporary_objects.1);
                };
              };
            },
          ))
          (original s) _
          (outcomes_right inside (RelatedEndings false false) FallsNow d held inside.temps inside.temps_grow (call_value p')
          (λ d₁ g₁ y z t t' r st'. falls_value d₁ inside t t' st' y z (ending_pair false false d₁ y z r))
          (original s) entered_at inner))));
    }

    pub selected_after : (n m : ℕ) → LaterRelated p p' functions arity first Stands alike first_cut (meaning p n) (meaning p' m) → SelectedRelated p p' functions arity first Stands alike first_cut (meaning p n) (meaning p' (suc m))
    selected_after n m laters held c g types types' uses distinct r (in_block ss) tt' x frame frame' fr object t declared ts us =
        pieces_to (λ d g' y z e. only_falls false r d y z (ending_pair false false d y z e)) (extracted_after n m laters held c g types types' uses distinct ss tt' x frame frame' fr ts us)
    selected_after n m laters held c g types types' uses distinct r (at_declaration j u) tt' x frame frame' fr object t declared ts us = absurd x
