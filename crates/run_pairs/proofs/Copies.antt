-- A body and its copy end in related ways, where the value of the one is put into an object of the other.
use Rattle.std.proofs.Common.{◌≡◌, ℕ, Bool, false, List, [], refl, sym, ◌∙◌, ap, subst, eqb, ◌&&◌, Option, Some, None, option_map, slice_get, if◌then◌else◌}
use Rattle.std.proofs.lemmas.Bool.{cond-false, true≢false, ne_eqb}
use Rattle.c_types.specs.Types.{PlainType}
use Rattle.core_meaning.specs.Program.{slot, assign, evaluate, return_value, PlainItems, no_item, statement_item, PlainProgram}
use Rattle.core_meaning.specs.Values.{at, Scalar, Cells, Value, nothing, scalar, whole}
use Rattle.core_meaning.specs.Memory.{Object, Memory, unwritten, fresh, with_object, with_ended, cells_with, is_there, written_at}
use Rattle.core_meaning.specs.Outcomes.{State, Outcome, Comes, Exits, Stops, Fails, Piece, after, followed_by, ◌>>=◌, give, given, set_memory, without_temporaries}
use Rattle.core_meaning.specs.Meaning.{as_value, used, Ending, falls, returns, Frame, with_slot, Job, write_to, end_object, value_of, then_item, items_ending}
use Rattle.run_pairs.specs.Correspondences.{Correspondence, Grown, WhereGiven, RelatedScalars, RelatedCells, RelatedValues, HeldAside, RelatedMemories, Setting, Related, EndsAt, Outcomes, RelatedPieces, expression_setting, statement_setting}
use Rattle.run_pairs.specs.Alike.{Uses, AreDistinct, with_use, RelatedFrames, Replacement, AlikePrograms}
use Rattle.run_pairs.specs.Inlining
use Rattle.run_pairs.specs.Inlining.{Copied}
use Rattle.run_pairs.proofs.MemoryPairs.{some_same, scalars_grow, cells_grow, related_with_ended}
use Rattle.run_pairs.proofs.Pieces.{same_grown, grown_on, ends_followed, pieces_then, pieces_give, pieces_given, after_nothing, followed_twice}
use Rattle.run_pairs.proofs.Operations.{pieces_undefined, ValuePair, nothings, scalars, wholes, value_pair, make_related}
use Rattle.run_pairs.proofs.Calls.{temporary_related, all_ended}
use Rattle.run_pairs.proofs.Expressions.{frames_grow, values_alike}
use Rattle.run_pairs.proofs.Statements.{frames_with, EndingPair, both_fall, both_break, both_continue, both_return, ending_pair, LaterRelated, calls_alike, initialise_alike, statements_alike}
use Rattle.run_pairs.proofs.Private.{held_with}
use Rattle.run_pairs.proofs.Aside.{Keeps, IsFree, held_here, changed_aside}
use Rattle.run_pairs.proofs.Embedding.{statements_to}

-- ---- ends of any kind

module _ {A B X Y : Type 0} (w : Setting) (R : Correspondence → A → B → Type 0) (Then : Correspondence → X → State → Y → State → Type 0) (c : Correspondence)
    (f : State → Outcome A) (g : State → Outcome B) (h : A → State → Outcome X) (k : B → State → Outcome Y) where
  pub ends_then : RelatedPieces w R c f g →
      ((d : Correspondence) → Grown c d → (x : A) (y : B) (s s' : State) → R d x y → Related w d s s' → Outcomes w.first_cut Then d (h x s) (k y s')) →
      (d : Correspondence) → Grown c d → (s s' : State) → Related w d s s' → Outcomes w.first_cut Then d ((f >>= h) s) ((g >>= k) s')
  ends_then pieces next d grown s s' st =
      ends_followed w.first_cut (λ e x s y s'. EndsAt w R e x s y s') Then d h k (λ e g' x y t t' end. next e (grown_on grown g') x y t t' end.results end.states)
      (f s) (g s') (pieces.in_states d grown s s' st)

-- what is known of the original's end as well
pub ends_also : {A B : Type 0} (cut : Bool) (End : Correspondence → A → State → B → State → Type 0) (P : A → State → Type 0) (c : Correspondence) (o : Outcome A) (o' : Outcome B) →
    ((x : A) (s : State) (out : List ℕ) → o ≡ Comes x s out → P x s) → Outcomes cut End c o o' → Outcomes cut (λ d x s y s'. End d x s y s' × P x s) c o o'
ends_also cut End P c (Fails out) o' k h = tt
ends_also cut End P c (Comes x s out) (Comes y s' out') k h = (h.0, record { now = h.1.now; grown = h.1.grown; ends = (h.1.ends, k x s out refl) })
ends_also cut End P c (Comes x s out) (Stops out') k h = h
ends_also cut End P c (Comes x s out) (Exits status out') k h = absurd h
ends_also cut End P c (Comes x s out) (Fails out') k h = absurd h
ends_also cut End P c (Exits status out) (Exits status' out') k h = h
ends_also cut End P c (Exits status out) (Stops out') k h = h
ends_also cut End P c (Exits status out) (Comes y s' out') k h = absurd h
ends_also cut End P c (Exits status out) (Fails out') k h = absurd h
ends_also cut End P c (Stops out) (Stops out') k h = h
ends_also cut End P c (Stops out) (Comes y s' out') k h = h
ends_also cut End P c (Stops out) (Exits status out') k h = h
ends_also cut End P c (Stops out) (Fails out') k h = h

-- ---- values that are used

pub data UsedPair (c : Correspondence) : Value → Value → Type 0 where
  two_scalars : (x y : Scalar) → RelatedScalars c x y → UsedPair c (scalar x) (scalar y)
  two_wholes : (x y : Cells) → RelatedCells c x y → UsedPair c (whole x) (whole y)

pub used_values : (c : Correspondence) (v w : Value) → UsedPair c v w → RelatedValues c v w
used_values c v w (two_scalars x y h) = h
used_values c v w (two_wholes x y h) = h

scalar_values : (c : Correspondence) (x y : Scalar) → RelatedValues c (scalar x) (scalar y) → RelatedScalars c x y
scalar_values c x y h = h

whole_values : (c : Correspondence) (x y : Cells) → RelatedValues c (whole x) (whole y) → RelatedCells c x y
whole_values c x y h = h

module _ (w : Setting) where
  as_used : (c : Correspondence) (v v' : Value) → RelatedValues c v v' → ValuePair c v v' → RelatedPieces w UsedPair c (as_value v) (as_value v')
  as_used c v v' h nothings = pieces_undefined _
  as_used c v v' h (scalars x y r) = pieces_give (λ d g. two_scalars x y (scalars_grow c d g x y (scalar_values c x y h)))
  as_used c v v' h (wholes a b r) = pieces_give (λ d g. two_wholes a b (cells_grow c d g a b (whole_values c a b h)))

  pub used_pairs : (c : Correspondence) (f g : State → Outcome Value) → RelatedPieces w RelatedValues c f g → RelatedPieces w UsedPair c (used f) (used g)
  used_pairs c f g h = pieces_then h (λ d grown v v' r. as_used d v v' r (value_pair d v v' r))

-- ---- an object that is written once

abbrev pub holding_cells : PlainType → Cells → Object
holding_cells t cells = record (fresh t unwritten) { cells = cells }

pub written_fresh : (structs : List (List PlainType)) (m : Memory) (b : ℕ) (t : PlainType) → m.object b ≡ fresh t unwritten → (v : Value) (cells : Cells) → cells_with unwritten [] v ≡ Some cells →
    written_at structs m (at b []) v ≡ Some (with_object m b (holding_cells t cells))
written_fresh structs m b t e v cells h =
    subst (λ o. (if is_there structs o [] && o.writable then option_map (λ cells. with_object m b (record o { cells = cells })) (cells_with o.cells [] v) else None) ≡ Some (with_object m b (holding_cells t cells)))
    (sym e) (ap (option_map (λ cells. with_object m b (record (fresh t unwritten) { cells = cells }))) h)

pub write_fresh : (p : PlainProgram) (s : State) (b : ℕ) (t : PlainType) → s.memory.object b ≡ fresh t unwritten → (v : Value) (cells : Cells) → cells_with unwritten [] v ≡ Some cells →
    write_to p (at b []) v s ≡ Comes v (record s { memory = with_object s.memory b (holding_cells t cells) }) []
write_fresh p s b t e v cells h = ap (λ now. after [] (followed_by (given now s) (λ now. set_memory now >>= (λ done. give v)))) (written_fresh p.structs s.memory b t e v cells h)

pub used_cells : (c : Correspondence) (v w : Value) → UsedPair c v w → (cells : Cells) × (cells_with unwritten [] w ≡ Some cells)
used_cells c v w (two_scalars x y h) = (_, refl)
used_cells c v w (two_wholes x y h) = (_, refl)

-- ---- what a body came to

-- the object for the value of the call: its number and its type
abbrev pub Into : Type 0
Into = Option (ℕ × PlainType)

-- what is held: what was before, and the object for the value
pub record IsAside (held : HeldAside) (into : Into) (now : HeldAside) : Type 0 where
  pub keeps : Keeps held now
  pub holds_result : (q : ℕ × PlainType) → into ≡ Some q → (o : Object) × (now q.0 ≡ Some o)

-- a value, and the object that holds the one that stands for it
pub data IsPut (into : Into) (now : HeldAside) (c : Correspondence) : Value → Type 0 where
  no_value : IsPut into now c nothing
  put_into : (v w : Value) (q : ℕ × PlainType) (cells : Cells) → into ≡ Some q → now q.0 ≡ Some (holding_cells q.1 cells) → RelatedValues c v w → cells_with unwritten [] w ≡ Some cells → IsPut into now c v

pub data Answered (first_cut : Bool) (held : HeldAside) (into : Into) (ts us : List ℕ) (c : Correspondence) : Ending → State → State → Type 0 where
  fell : (s s' : State) (now : HeldAside) → IsAside held into now → Related (statement_setting first_cut now ts us) c s s' → Answered first_cut held into ts us c falls s s'
  returned : (s s' : State) (v : Value) (now : HeldAside) → IsAside held into now → IsPut into now c v → Related (statement_setting first_cut now ts us) c s s' → Answered first_cut held into ts us c (returns v) s s'

pub record CopyEnd (first_cut : Bool) (held : HeldAside) (into : Into) (ts us : List ℕ) (c : Correspondence) (x : Ending) (s : State) (y : Ending) (s' : State) : Type 0 where
  pub falls_through : y ≡ falls
  pub answered : Answered first_cut held into ts us c x s s'

-- two objects that stand for each other end
answered_ended : (first_cut : Bool) (held : HeldAside) (into : Into) (ts us : List ℕ) (c : Correspondence) (k k' : ℕ) → c k ≡ Some k' → (x : Ending) (s s' : State) → Answered first_cut held into ts us c x s s' →
    Answered first_cut held into ts us c x (record s { memory = with_ended s.memory k }) (record s' { memory = with_ended s'.memory k' })
answered_ended first_cut held into ts us c k k' e x s s' (fell _ _ now aside st) =
    fell _ _ now aside (record { memories = related_with_ended now c s.memory s'.memory st.memories k k' e; inputs = st.inputs; temporary_objects = st.temporary_objects })
answered_ended first_cut held into ts us c k k' e x s s' (returned _ _ v now aside put st) =
    returned _ _ v now aside put (record { memories = related_with_ended now c s.memory s'.memory st.memories k k' e; inputs = st.inputs; temporary_objects = st.temporary_objects })

module _ (p p' : PlainProgram) (functions : ℕ → Option ℕ) (arity : ℕ → ℕ) (first : Correspondence) (Stands : Replacement) (alike : AlikePrograms p p' functions arity first Stands) (first_cut : Bool)
    (later later' : Job → Piece Ending) (laters : LaterRelated p p' functions arity first Stands alike first_cut later later')
    (types types' : List PlainType) (result : Option ℕ) (held : HeldAside) (into : Into) (ts us : List ℕ) (start : HeldAside) (aside : IsAside held into start)
    (is_fresh : (q : ℕ × PlainType) → into ≡ Some q → start q.0 ≡ Some (fresh q.1 unwritten)) (is_free : (q : ℕ × PlainType) → into ≡ Some q → IsFree held q.0) where
  abbrev End : Correspondence → Ending → State → Ending → State → Type 0
  End c x s y s' = CopyEnd first_cut held into ts us c x s y s'

  abbrev around : Setting
  around = statement_setting first_cut start ts us

  -- where the object for the value is
  abbrev pub ResultIn : Frame → Type 0
  ResultIn frame' = (k : ℕ) → result ≡ Some k → (q : ℕ × PlainType) × (into ≡ Some q) × (frame'.objects k ≡ Some q.0)

  result_stays : (frame' : Frame) (k b : ℕ) → (result ≡ Some k → ⊥) → ResultIn frame' → ResultIn (with_slot frame' k b)
  result_stays frame' k b other h j e =
      let q = h j e in
      (q.0, q.1, cond-false (eqb j k) (Some b) (frame'.objects j) (ne_eqb j k (λ same. other (e ∙ ap Some same))) ∙ q.2)

  -- the value is put into its object
  put_value : (c : Correspondence) (q : ℕ × PlainType) → into ≡ Some q → (v w : Value) → UsedPair c v w → (t t' : State) → Related (expression_setting first_cut start) c t t' → (s s' : State) → (s.temporaries ≡ ts) × (s'.temporaries ≡ us) →
      Outcomes first_cut End c (followed_by (followed_by (Comes v (without_temporaries s.temporaries t) []) (λ v. give (returns v))) (λ e. then_item p later e (give falls)))
      (followed_by (followed_by (followed_by (write_to p' (at q.0 []) w t') (λ x now. Comes x (without_temporaries s'.temporaries now) [])) (λ v. give falls)) (λ e. then_item p' later' e (give falls)))
  put_value c q e v w used t t' st s s' outer =
      let cells = used_cells c v w used in
      let new : Object = holding_cells q.1 cells.0 in
      let now : HeldAside = held_with start q.0 new in
      let written = write_fresh p' t' q.0 q.1 (st.memories.holds q.0 (fresh q.1 unwritten) (is_fresh q e)) w cells.0 cells.1 in
      let memories : RelatedMemories now c t.memory (with_object t'.memory q.0 new) = changed_aside start c t.memory t'.memory st.memories q.0 (fresh q.1 unwritten) (is_fresh q e) new in
      subst (λ o. Outcomes first_cut End c (Comes (returns v) (without_temporaries s.temporaries t) []) (followed_by (followed_by (followed_by o (λ x now. Comes x (without_temporaries s'.temporaries now) [])) (λ v. give falls)) (λ e. then_item p' later' e (give falls)))) (sym written) (
        refl,
        record {
          now = c;
          grown = same_grown c;
          ends = record {
            falls_through = refl;
            answered = returned _ _ v now
                (record { keeps = keeps_with_changed q e new; holds_result = λ r f. (new, subst (λ r. now r.0 ≡ Some new) (some_same (sym e ∙ f)) (held_here start q.0 new)) })
                (put_into v w q cells.0 e (held_here start q.0 new) (used_values c v w used) cells.1)
                (record { memories = all_ended p p' alike.same_structs first_cut now c t.temporaries t'.temporaries t.memory (with_object t'.memory q.0 new) st.temporary_objects memories; inputs = st.inputs; temporary_objects = outer });
          };
        },
      )
    where
      keeps_with_changed : (q : ℕ × PlainType) → into ≡ Some q → (new : Object) → Keeps held (held_with start q.0 new)
      keeps_with_changed q e new = record { keeps = λ k o f. cond-false (eqb k q.0) (Some new) (start k) (ne_eqb k q.0 (λ same. (is_free q e).free o (ap held (sym same) ∙ f))) ∙ aside.keeps.keeps k o f }

  pub copied_alike : (uses : Uses) (a b : PlainItems) → Copied p p' functions arity first types types' result uses a b → AreDistinct uses → (c : Correspondence) → Grown first c → (frame frame' : Frame) →
      RelatedFrames types types' uses start c frame frame' → ResultIn frame' → (s s' : State) → Related around c s s' →
      Outcomes first_cut End c (items_ending p later frame a s) (items_ending p' later' frame' b s')
  copied_alike uses a b (Inlining.no_items _) distinct c g frame frame' fr r s s' st =
      (refl, record { now = c; grown = same_grown c; ends = record { falls_through = refl; answered = fell s s' start aside st } })
  copied_alike uses a b (Inlining.returns_nothing _) distinct c g frame frame' fr r s s' st =
      (refl, record { now = c; grown = same_grown c; ends = record { falls_through = refl; answered = returned s s' nothing start aside no_value st } })
  copied_alike uses a b (Inlining.returns_value _ k x y e h) distinct c g frame frame' fr r s s' st =
      let q = r k e in
      let s₀ : State = record s { temporaries = [] } in let s₁ : State = record s' { temporaries = [] } in
      let inside = expression_setting first_cut start in
      let f = used (value_of p later frame x) in let f' = used (value_of p' later' frame' y) in
      let ends : Value → State → Outcome Value = λ x now. Comes x (without_temporaries s'.temporaries now) [] in
      let goes_on : Outcome Value → Outcome Ending = λ o. followed_by (followed_by o (λ v. give falls)) (λ e. then_item p' later' e (give falls)) in
      let values = used_pairs inside c (value_of p later frame x) (value_of p' later' frame' y) (values_alike p p' functions arity first alike.same_structs inside later later' (calls_alike p p' functions arity first Stands alike first_cut later later' laters start) false (λ e. temporary_related p p' alike.same_structs first_cut start) types types' uses frame frame' x y h c g fr) in
      let there : items_ending p' later' frame' (statement_item (evaluate (assign (slot k) y)) no_item) s' ≡ followed_by (f' s₁) (λ v now. goes_on (followed_by (write_to p' (at q.0.0 []) v now) ends)) =
      ap (λ o. goes_on (followed_by (followed_by (given (option_map (λ object. at object []) o) s₁) (λ q. f' >>= (λ v. write_to p' q v))) ends)) q.2 ∙
      (ap (λ o. goes_on (followed_by o ends)) (after_nothing (followed_by (f' s₁) (λ v. write_to p' (at q.0.0 []) v))) ∙
      moved_in (f' s₁) (λ v. write_to p' (at q.0.0 []) v) ends) in
      subst (λ o. Outcomes first_cut End c (items_ending p later frame (statement_item (return_value x) no_item) s) o) (sym there)
      (subst (λ o. Outcomes first_cut End c o (followed_by (f' s₁) (λ v now. goes_on (followed_by (write_to p' (at q.0.0 []) v now) ends)))) (sym (moved_out (f s₀) (λ x now. Comes x (without_temporaries s.temporaries now) [])))
      (ends_followed first_cut (λ d x s y s'. EndsAt inside UsedPair d x s y s') End c _ _
      (λ d grown v w t t' end. put_value d q.0 q.1 v w end.results t t' end.states s s' st.temporary_objects)
      (f s₀) (f' s₁) (values.in_states c (same_grown c) s₀ s₁ (record { memories = st.memories; inputs = st.inputs; temporary_objects = tt }))))
    where
      moved_in : (o : Outcome Value) (g h : Value → State → Outcome Value) →
          followed_by (followed_by (followed_by (followed_by o g) h) (λ v. give falls)) (λ e. then_item p' later' e (give falls))
          ≡ followed_by o (λ v now. followed_by (followed_by (followed_by (g v now) h) (λ v. give falls)) (λ e. then_item p' later' e (give falls)))
      moved_in o g h =
          ap (λ o. followed_by (followed_by o (λ v. give falls)) (λ e. then_item p' later' e (give falls))) (followed_twice o g h) ∙
          (ap (λ o. followed_by o (λ e. then_item p' later' e (give falls))) (followed_twice o (λ v now. followed_by (g v now) h) (λ v. give falls)) ∙
          followed_twice o (λ v now. followed_by (followed_by (g v now) h) (λ v. give falls)) (λ e. then_item p' later' e (give falls)))

      moved_out : (o : Outcome Value) (h : Value → State → Outcome Value) →
          followed_by (followed_by (followed_by o h) (λ v. give (returns v))) (λ e. then_item p later e (give falls))
          ≡ followed_by o (λ v now. followed_by (followed_by (h v now) (λ v. give (returns v))) (λ e. then_item p later e (give falls)))
      moved_out o h =
          ap (λ o. followed_by o (λ e. then_item p later e (give falls))) (followed_twice o h (λ v. give (returns v))) ∙
          followed_twice o (λ v now. followed_by (h v now) (λ v. give (returns v))) (λ e. then_item p later e (give falls))
  copied_alike uses a b (Inlining.locals _ j k x y u v other e distinct' h m) distinct c g frame frame' fr r s s' st =
      ends_then around _ End c _ _ _ _
      (pieces_given (slice_get frame.types j) (slice_get frame'.types k) (λ d g'. subst (λ x. WhereGiven ◌≡◌ (slice_get x j) (slice_get frame'.types k)) (sym fr.these_types) (subst (λ x. WhereGiven ◌≡◌ (slice_get types j) (slice_get x k)) (sym fr.those_types) e)))
      (λ d g' t t' n n' same st₁.
      ends_then around _ End d _ _ _ _ (make_related p p' alike.same_structs around d t t' same) (λ d₂ g₂ i i' n n' o st₂.
      let to : Grown c d₂ = grown_on g' g₂ in
      let fr' = frames_with types types' uses start d₂ j k distinct' i i' o frame frame' (frames_grow types types' uses start c d₂ to frame frame' fr) in
      ends_then around _ End d₂ _ _ _ _ (initialise_alike p p' functions arity first Stands alike first_cut later later' laters false (λ e. absurd (true≢false (sym e))) start types types' ts us (with_use uses j k) x y h d₂ (grown_on g to) (with_slot frame j i) (with_slot frame' k i') fr' i i' o t t' same)
      (λ d₃ g₃ z z' n n' q st₃.
      ends_followed first_cut End End d₃ (end_object p i) (end_object p' i')
      (λ d₄ g₄ x y n n' end. (refl, record { now = d₄; grown = same_grown d₄; ends = record { falls_through = end.falls_through; answered = answered_ended first_cut held into ts us d₄ i i' (g₄.keeps i i' (g₃.keeps i i' o)) x n n' end.answered } }))
      (items_ending p later (with_slot frame j i) u n) (items_ending p' later' (with_slot frame' k i') v n')
      (copied_alike (with_use uses j k) u v m distinct' d₃ (grown_on g (grown_on to g₃)) (with_slot frame j i) (with_slot frame' k i') (frames_grow types types' (with_use uses j k) start d₂ d₃ g₃ (with_slot frame j i) (with_slot frame' k i') fr') (result_stays frame' k i' other r) n n' st₃))
      d₂ (same_grown d₂) n n' st₂)
      d (same_grown d) n n' st₁)
      c (same_grown c) s s' st
  copied_alike uses a b (Inlining.statement_items _ x y u v h m) distinct c g frame frame' fr r s s' st =
      ends_then around _ End c _ _ _ _
      (statements_alike p p' functions arity first Stands alike first_cut later later' laters false (λ e. absurd (true≢false (sym e))) start types types' ts us uses false false x y (statements_to p p' functions arity first Stands types types' false uses false false x y h) distinct c g frame frame' fr)
      (λ d g' z z' n n' e st₁.
      by_ending d z z' (ending_pair false false d z z' e) n n' (copied_alike uses u v m distinct d (grown_on g g') frame frame' (frames_grow types types' uses start c d g' frame frame' fr) r n n' st₁))
      c (same_grown c) s s' st
    where
      by_ending : (d : Correspondence) (z z' : Ending) → EndingPair false false d z z' → (n n' : State) → Outcomes first_cut End d (items_ending p later frame u n) (items_ending p' later' frame' v n') →
          Outcomes first_cut End d (then_item p later z (items_ending p later frame u) n) (then_item p' later' z' (items_ending p' later' frame' v) n')
      by_ending d z z' both_fall n n' h = h
      by_ending d z z' (both_break e) n n' h = absurd (true≢false (sym e))
      by_ending d z z' (both_continue e) n n' h = absurd (true≢false (sym e))
      by_ending d z z' (both_return v w e k) n n' h = absurd (true≢false (sym e))
