-- Alike expressions give related values.
use Rattle.std.proofs.Common.{◌≡◌, ℕ, suc, Bool, true, false, not, ℤ, pos, List, [], ◌∷◌, length, refl, sym, ◌∙◌, ap, subst, Option, Some, None, option_map, if◌then◌else◌}
use Rattle.c_types.specs.Types.{PlainType}
use Rattle.core_meaning.specs.Program.{PlainExpression, PlainPlace, slot, target, read, first_element, PlainArguments, PlainProgram}
use Rattle.core_meaning.specs.Values.{part, at, Scalar, pointer, Value, scalar, is_scalar, type_at}
use Rattle.core_meaning.specs.Memory.{Memory, value_in, is_there, value_at, first_at, member_at}
use Rattle.core_meaning.specs.Outcomes.{State, Comes, Piece, after, followed_by, ◌>>=◌, give, given}
use Rattle.core_meaning.specs.Meaning.{as_pointer, temporary_with, Ending, Frame, Job, read_from, called, value_of, place_of, values_of}
use Rattle.run_pairs.specs.Correspondences.{Correspondence, Grown, WhereGiven, RelatedPointers, RelatedValues, holding, HeldAside, HoldsAside, Setting, Related, RelatedOutcomes, RelatedPieces, RelatedValueLists}
use Rattle.run_pairs.specs.Alike
use Rattle.run_pairs.specs.Alike.{argument_count, BothGiven, Uses, through, elements, RelatedFrames, AlikeExpressions, AlikePlaces, AlikeArguments}
use Rattle.run_pairs.proofs.Pieces.{same_grown, grown_on, pieces_then, pieces_give, pieces_given, pieces_asked, pieces_choice}
use Rattle.run_pairs.proofs.MemoryPairs.{pointers_grow, scalars_grow, values_grow}
use Rattle.run_pairs.proofs.Operations.{pointer_pair, pair_grow, used_related, scalar_from_related, pointer_from_related, truth_from_related, in_type_related, first_related, member_related, read_related, write_related, operated_related, changed_related}
use Rattle.run_pairs.proofs.Calls.{value_lists_grow}

-- ---- frames

both_grow : {A B : Type 0} (R Q : A → B → Type 0) → ((x : A) (y : B) → R x y → Q x y) → (x : Option A) (y : Option B) → BothGiven R x y → BothGiven Q x y
both_grow R Q f (Some x) (Some y) h = f x y h
both_grow R Q f None None h = absurd h
both_grow R Q f None (Some y) h = absurd h
both_grow R Q f (Some x) None h = absurd h

given_from_both : {A B : Type 0} (R : A → B → Type 0) → (x : Option A) (y : Option B) → BothGiven R x y → WhereGiven R x y
given_from_both R (Some x) (Some y) h = h
given_from_both R None None h = absurd h
given_from_both R None (Some y) h = absurd h
given_from_both R (Some x) None h = absurd h

pub frames_grow : (types types' : List PlainType) (uses : Uses) (held : HeldAside) (c d : Correspondence) → Grown c d → (frame frame' : Frame) → RelatedFrames types types' uses held c frame frame' → RelatedFrames types types' uses held d frame frame'
frames_grow types types' uses held c d g frame frame' r = record {
  these_types = r.these_types;
  those_types = r.those_types;
  direct_objects = λ j k e. both_grow _ _ (λ a b h. g.keeps a b h) (frame.objects j) (frame'.objects k) (r.direct_objects j k e);
  passed_objects = λ j k e. both_grow _ _ (λ a b h. (h.0, g.keeps a h.0 h.1, h.2)) (frame.objects j) (frame'.objects k) (r.passed_objects j k e);
  passed_arrays = λ j k e. both_grow _ _ (λ a b h. (h.0, g.keeps a h.0 h.1, h.2)) (frame.objects j) (frame'.objects k) (r.passed_arrays j k e);
}

-- ---- what a parameter holds

module _ (p : PlainProgram) where
  held_value : (m : Memory) (k : ℕ) (t : PlainType) → is_scalar t ≡ true → (v : Scalar) → m.object k ≡ holding t v → value_at p.structs m (at k []) ≡ Some (scalar v)
  held_value m k t small v h =
      ap (λ o. if is_there p.structs o [] then value_in (is_scalar (type_at p.structs o.ty [])) o.cells [] else None) h ∙
      ap (λ b. value_in b (holding t v).cells []) small

  pub held_read : (s : State) (k : ℕ) (t : PlainType) → is_scalar t ≡ true → (v : Scalar) → s.memory.object k ≡ holding t v → read_from p (at k []) s ≡ Comes (scalar v) s []
  held_read s k t small v h = ap (λ x. after [] (given x s)) (held_value s.memory k t small v h)

module _ (p p' : PlainProgram) (functions : ℕ → Option ℕ) (arity : ℕ → ℕ) (first : Correspondence) (structs : p.structs ≡ p'.structs) (w : Setting)
    (later later' : Job → Piece Ending) where
  -- what a call of related functions gives
  abbrev pub CallsRelated : Type 0
  CallsRelated = (c : Correspondence) → Grown first c → (f g : ℕ) → functions f ≡ Some g → (vs ws : List Value) → RelatedValueLists c vs ws → length vs ≡ arity f →
      RelatedPieces w RelatedValues c (called p later f vs) (called p' later' g ws)

  abbrev Counted : ℕ → Correspondence → List Value → List Value → Type 0
  Counted n c vs ws = RelatedValueLists c vs ws × (length vs ≡ n)

  module _ (calls_related : CallsRelated) (quiet : Bool)
      (temporaries_related : quiet ≡ false → (c : Correspondence) (t : PlainType) (v v' : Value) → RelatedValues c v v' → RelatedPieces w RelatedPointers c (temporary_with p t v) (temporary_with p' t v')) (types types' : List PlainType) (uses : Uses) (frame frame' : Frame) where
    some_at : (c : Correspondence) (a b : Option ℕ) → WhereGiven (λ a b. c a ≡ Some b) a b → WhereGiven (RelatedPointers c) (option_map (λ object. at object []) a) (option_map (λ object. at object []) b)
    some_at c None b h = tt
    some_at c (Some a) None h = absurd h
    some_at c (Some a) (Some b) h = (h, refl)

    -- a use of a passed variable, and of a passed array
    passed_outcome : (d : Correspondence) (s s' : State) → Related w d s s' → (x y : Option ℕ) →
        WhereGiven (λ a b. (o : ℕ) × (d a ≡ Some o) × HoldsAside w.held b (pointer (at o []))) x y →
        RelatedOutcomes w RelatedPointers d (given (option_map (λ object. at object []) x) s)
        (((given (option_map (λ object. at object []) y) >>= read_from p') >>= as_pointer) s')
    passed_outcome d s s' st None y h = tt
    passed_outcome d s s' st (Some a) None h = absurd h
    passed_outcome d s s' st (Some a) (Some b) h =
        subst (λ o. RelatedOutcomes w RelatedPointers d (Comes (at a []) s []) (followed_by (after [] o) as_pointer))
        (sym (held_read p' s' b h.2.0 h.2.1 (pointer (at h.0 [])) (st.memories.holds b (holding h.2.0 (pointer (at h.0 []))) h.2.2)))
        (refl, record { now = d; grown = same_grown d; ends = record { results = (h.1, refl); states = st } })

    passed_alike : (j k : ℕ) → uses j ≡ through k → (c : Correspondence) → RelatedFrames types types' uses w.held c frame frame' →
        RelatedPieces w RelatedPointers c (place_of p later frame (slot j)) (place_of p' later' frame' (target (read (slot k))))
    passed_alike j k e c r = record {
      in_states = λ d g s s' st.
          passed_outcome d s s' st (frame.objects j) (frame'.objects k) (given_from_both (λ a b. (o : ℕ) × (d a ≡ Some o) × HoldsAside w.held b (pointer (at o []))) (frame.objects j) (frame'.objects k) ((frames_grow types types' uses w.held c d g frame frame' r).passed_objects j k e));
    }

    array_outcome : (d : Correspondence) (s s' : State) → Related w d s s' → (x y : Option ℕ) →
        WhereGiven (λ a b. (o : ℕ) × (d a ≡ Some o) × HoldsAside w.held b (pointer (at o (part 0 ∷ [])))) x y →
        RelatedOutcomes w RelatedValues d
        ((given (option_map (λ object. at object []) x) >>= (λ q. given (first_at q) >>= (λ first. give (scalar (pointer first))))) s)
        ((given (option_map (λ object. at object []) y) >>= read_from p') s')
    array_outcome d s s' st None y h = tt
    array_outcome d s s' st (Some a) None h = absurd h
    array_outcome d s s' st (Some a) (Some b) h =
        subst (λ o. RelatedOutcomes w RelatedValues d (Comes (scalar (pointer (at a (part 0 ∷ [])))) s []) (after [] o))
        (sym (held_read p' s' b h.2.0 h.2.1 (pointer (at h.0 (part 0 ∷ []))) (st.memories.holds b (holding h.2.0 (pointer (at h.0 (part 0 ∷ [])))) h.2.2)))
        (refl, record { now = d; grown = same_grown d; ends = record { results = (h.1, refl); states = st } })

    array_alike : (j k : ℕ) → uses j ≡ elements k → (c : Correspondence) → RelatedFrames types types' uses w.held c frame frame' →
        RelatedPieces w RelatedValues c (value_of p later frame (first_element (slot j))) (value_of p' later' frame' (read (slot k)))
    array_alike j k e c r = record {
      in_states = λ d g s s' st.
          array_outcome d s s' st (frame.objects j) (frame'.objects k) (given_from_both (λ a b. (o : ℕ) × (d a ≡ Some o) × HoldsAside w.held b (pointer (at o (part 0 ∷ [])))) (frame.objects j) (frame'.objects k) ((frames_grow types types' uses w.held c d g frame frame' r).passed_arrays j k e));
    }

    abbrev number_of_truth : Bool → ℤ
    number_of_truth t = if t then pos 1 else pos 0

    mutual
      pub values_alike : (a b : PlainExpression) → AlikeExpressions p p' functions arity first quiet uses a b → (c : Correspondence) → Grown first c → RelatedFrames types types' uses w.held c frame frame' →
          RelatedPieces w RelatedValues c (value_of p later frame a) (value_of p' later' frame' b)
      values_alike a b (Alike.constants z) c g r = pieces_give (λ d g. refl)
      values_alike a b Alike.null_constants c g r = pieces_give (λ d g. tt)
      values_alike a b (Alike.reads x y h) c g r = pieces_then (places_alike x y h c g r) (λ d g' q q' e. read_related p p' structs w d q q' e)
      values_alike a b (Alike.addresses x y h) c g r = pieces_then (places_alike x y h c g r) (λ d g' q q' e. pieces_give (λ d' g''. pointers_grow d d' g'' q q' e))
      values_alike a b (Alike.first_elements x y h) c g r =
          pieces_then (places_alike x y h c g r) (λ d g' q q' e.
          pieces_then {R = RelatedPointers} (pieces_given (first_at q) (first_at q') (λ d' g''. first_related d' q q' (pair_grow d d' g'' q q' (pointer_pair d q q' e))))
          (λ d' g'' i i' e'. pieces_give (λ d'' g. pointers_grow d' d'' g i i' e')))
      values_alike a b (Alike.converts t x y h) c g r =
          pieces_then (scalar_from_related w (values_alike x y h c g r)) (λ d g' z z' e.
          pieces_then (in_type_related w d t z z' e) (λ d' g'' v v' e'. pieces_give (λ d'' g. scalars_grow d' d'' g v v' e')))
      values_alike a b (Alike.binaries op x y u v h k) c g r =
          pieces_then (scalar_from_related w (values_alike x y h c g r)) (λ d g' i i' e.
          pieces_then (scalar_from_related w (values_alike u v k d (grown_on g g') (frames_grow types types' uses w.held c d g' frame frame' r))) (λ d' g'' j j' e'.
          pieces_then (operated_related p p' structs w d' op i i' j j' (scalars_grow d d' g'' i i' e) e') (λ d'' g''' z z' e''.
          pieces_give (λ d'' g. scalars_grow _ d'' g z z' e''))))
      values_alike a b (Alike.nots x y h) c g r =
          pieces_then (truth_from_related w (values_alike x y h c g r)) (λ d g' i i' e. pieces_give (λ d' g''. ap (λ t. number_of_truth (not t)) e))
      values_alike a b (Alike.ands x y u v h k) c g r =
          pieces_then (truth_from_related w (values_alike x y h c g r)) (λ d g' i i' e.
          pieces_then (pieces_choice i i' e (truth_from_related w (values_alike u v k d (grown_on g g') (frames_grow types types' uses w.held c d g' frame frame' r))) (pieces_give (λ d' g''. refl)))
          (λ d' g'' j j' e'. pieces_give (λ d'' g. ap number_of_truth e')))
      values_alike a b (Alike.ors x y u v h k) c g r =
          pieces_then (truth_from_related w (values_alike x y h c g r)) (λ d g' i i' e.
          pieces_then (pieces_choice i i' e (pieces_give (λ d' g''. refl)) (truth_from_related w (values_alike u v k d (grown_on g g') (frames_grow types types' uses w.held c d g' frame frame' r))))
          (λ d' g'' j j' e'. pieces_give (λ d'' g. ap number_of_truth e')))
      values_alike a b (Alike.chooses x y u v i j h k l) c g r =
          pieces_then (truth_from_related w (values_alike x y h c g r)) (λ d g' t t' e.
          let r' = frames_grow types types' uses w.held c d g' frame frame' r in
          pieces_choice t t' e (values_alike u v k d (grown_on g g') r') (values_alike i j l d (grown_on g g') r'))
      values_alike a b (Alike.assigns x y u v h k) c g r =
          pieces_then (places_alike x y h c g r) (λ d g' q q' e.
          pieces_then (used_related w (values_alike u v k d (grown_on g g') (frames_grow types types' uses w.held c d g' frame frame' r))) (λ d' g'' z z' e'.
          write_related p p' structs w d' q q' (pointers_grow d d' g'' q q' e) z z' e'))
      values_alike a b (Alike.updates by x y u v h k) c g r =
          pieces_then (places_alike x y h c g r) (λ d g' q q' e.
          pieces_then (scalar_from_related w (values_alike u v k d (grown_on g g') (frames_grow types types' uses w.held c d g' frame frame' r))) (λ d₂ g₂ j j' e₂.
          let e₂q = pointers_grow d d₂ g₂ q q' e in
          pieces_then (scalar_from_related w (read_related p p' structs w d₂ q q' e₂q)) (λ d₃ g₃ i i' e₃.
          pieces_then (changed_related p p' structs w d₃ by i i' j j' e₃ (scalars_grow d₂ d₃ g₃ j j' e₂)) (λ d₄ g₄ z z' e₄.
          write_related p p' structs w d₄ q q' (pointers_grow d₂ d₄ (grown_on g₃ g₄) q q' e₂q) (scalar z) (scalar z') e₄))))
      values_alike a b (Alike.updates_after by x y u v h k) c g r =
          pieces_then (places_alike x y h c g r) (λ d g' q q' e.
          pieces_then (scalar_from_related w (values_alike u v k d (grown_on g g') (frames_grow types types' uses w.held c d g' frame frame' r))) (λ d₂ g₂ j j' e₂.
          let e₂q = pointers_grow d d₂ g₂ q q' e in
          pieces_then (scalar_from_related w (read_related p p' structs w d₂ q q' e₂q)) (λ d₃ g₃ i i' e₃.
          pieces_then (changed_related p p' structs w d₃ by i i' j j' e₃ (scalars_grow d₂ d₃ g₃ j j' e₂)) (λ d₄ g₄ z z' e₄.
          pieces_then (write_related p p' structs w d₄ q q' (pointers_grow d₂ d₄ (grown_on g₃ g₄) q q' e₂q) (scalar z) (scalar z') e₄) (λ d₅ g₅ n n' e₅.
          pieces_give (λ d₆ g₆. scalars_grow d₃ d₆ (grown_on g₄ (grown_on g₅ g₆)) i i' e₃))))))
      values_alike a b (Alike.calls f f' x y e n h) c g r =
          pieces_then (arguments_alike x y h c g r) (λ d g' vs ws k. calls_related d (grown_on g g') f f' e vs ws k.0 (k.1 ∙ n))
      values_alike a b (Alike.discards x y h) c g r = pieces_then (values_alike x y h c g r) (λ d g' v v' e. pieces_give (λ d' g''. tt))
      values_alike a b (Alike.passed_array j k e) c g r = array_alike j k e c r

      pub places_alike : (a b : PlainPlace) → AlikePlaces p p' functions arity first quiet uses a b → (c : Correspondence) → Grown first c → RelatedFrames types types' uses w.held c frame frame' →
          RelatedPieces w RelatedPointers c (place_of p later frame a) (place_of p' later' frame' b)
      places_alike a b (Alike.slots j k e) c g r = pieces_given _ _ (λ d g'. some_at d (frame.objects j) (frame'.objects k) (given_from_both (λ a b. d a ≡ Some b) (frame.objects j) (frame'.objects k) ((frames_grow types types' uses w.held c d g' frame frame' r).direct_objects j k e)))
      places_alike a b (Alike.globals j k e) c g r = pieces_give (λ d g'. (g'.keeps j k (g.keeps j k e), refl))
      places_alike a b (Alike.literals j k e) c g r = pieces_give (λ d g'. (g'.keeps _ _ (g.keeps _ _ e), refl))
      places_alike a b (Alike.targets x y h) c g r = pointer_from_related w (values_alike x y h c g r)
      places_alike a b (Alike.members x y k h) c g r =
          pieces_then (places_alike x y h c g r) (λ d g' q q' e.
          pieces_asked (λ m. member_at m q k) (λ m. member_at m q' k) (λ d' g'' m m' mem. member_related p.structs w.held d' m m' mem q q' k (pair_grow d d' g'' q q' (pointer_pair d q q' e))))
      places_alike a b (Alike.temporaries t x y quiet_not h) c g r =
          pieces_then (used_related w (values_alike x y h c g r)) (λ d g' v v' e. temporaries_related quiet_not d t v v' e)
      places_alike a b (Alike.passed j k e) c g r = passed_alike j k e c r

      pub arguments_alike : (a b : PlainArguments) → AlikeArguments p p' functions arity first quiet uses a b → (c : Correspondence) → Grown first c → RelatedFrames types types' uses w.held c frame frame' →
          RelatedPieces w (Counted (argument_count a)) c (values_of p later frame a) (values_of p' later' frame' b)
      arguments_alike a b Alike.no_arguments c g r = pieces_give (λ d g. (tt, refl))
      arguments_alike a b (Alike.arguments x y u v h k) c g r =
          pieces_then (used_related w (values_alike x y h c g r)) (λ d g' i i' e.
          pieces_then (arguments_alike u v k d (grown_on g g') (frames_grow types types' uses w.held c d g' frame frame' r)) (λ d' g'' is is' e'.
          pieces_give (λ d'' g. ((values_grow d d'' (grown_on g'' g) i i' e, value_lists_grow d' d'' g is is' e'.0), ap suc e'.1))))
