-- A call, and the block that stands for it, end in related ways.
use Rattle.std.proofs.Common.{◌≡◌, ℕ, zero, suc, ◌+◌, Bool, true, false, List, [], ◌∷◌, length, refl, sym, ◌∙◌, ap, subst, eqb, Option, Some, None, slice_get, arith}
use Rattle.std.proofs.lemmas.Option.{none-some}
use Rattle.std.proofs.lemmas.Bool.{cond-true, true≢false, eq-eqb}
use Rattle.c_types.specs.Types.{PlainType}
use Rattle.core_meaning.specs.Program.{PlainStatement, block, PlainItems, no_item, local, statement_item, PlainProgram}
use Rattle.core_meaning.specs.Values.{Value, nothing}
use Rattle.core_meaning.specs.Memory.{Object, Memory, unwritten, fresh, with_new, with_ended}
use Rattle.core_meaning.specs.Outcomes.{State, Outcome, Comes, Stops, followed_by, ◌>>=◌, give, given}
use Rattle.core_meaning.specs.Meaning.{Ending, falls, returns, Frame, with_slot, body_of, make, end_object, call_value, called, called_function, initialise, then_item, items_ending, enter_function, meaning}
use Rattle.core_meaning.specs.Growth.{outcome_output}
use Rattle.run_pairs.specs.Correspondences.{Correspondence, Grown, WhereGiven, HeldAside, Related, EndsAt, Outcomes, RelatedOutcomes, statement_setting, RelatedEndings}
use Rattle.run_pairs.specs.Alike.{Uses, RelatedFrames, before_items, Selection, Replacement, AlikePrograms}
use Rattle.run_pairs.specs.Inlining.{Fits, ReturnsFit, ResultType, IsNew, AreNew, DifferFrom, AllDiffer, and_slot, with_parameters, with_result, Inlined, Inlines}
use Rattle.run_pairs.proofs.MemoryPairs.{some_same}
use Rattle.run_pairs.proofs.Pieces.{same_grown, grown_on, cut_first, ends_followed, after_nothing, followed_give, followed_twice}
use Rattle.run_pairs.proofs.Expressions.{frames_grow}
use Rattle.run_pairs.proofs.Statements.{selection_ending, IsDeclared, EndingPair, both_fall, both_break, both_continue, both_return, ending_pair, LaterRelated, SelectedRelated}
use Rattle.run_pairs.proofs.Private.{held_with}
use Rattle.run_pairs.proofs.Aside.{Keeps, keeps_all, IsFree, without, held_here, keeps_with, keeps_without, held_less, new_is_free, with_new_aside, ended_aside}
use Rattle.run_pairs.proofs.Copies.{ends_also, Into, IsAside, Answered, fell, returned, CopyEnd, no_value}
use Rattle.run_pairs.proofs.Entering.{Stored, AllLeft, EnterEnd, enter_alike}
use Rattle.run_pairs.proofs.Passing.{frames_new, frames_keep, LeftAll, CallEnd, onto, HaveTypes, pass_alike}
use Rattle.run_pairs.proofs.CallEnds.{Usage, used_in}

ends_to : {A B : Type 0} (cut : Bool) (End Then : Correspondence → A → State → B → State → Type 0) (c : Correspondence) → ((d : Correspondence) (x : A) (y : B) (s s' : State) → End d x s y s' → Then d x s y s') →
    (o : Outcome A) (o' : Outcome B) → Outcomes cut End c o o' → Outcomes cut Then c o o'
ends_to cut End Then c to o o' h =
    subst (λ o. Outcomes cut Then c o o') (followed_give o)
    (subst (λ y. Outcomes cut Then c (followed_by o give) y) (followed_give o')
    (ends_followed cut End Then c give give (λ d g x y s s' end. (refl, record { now = d; grown = same_grown d; ends = to d x y s s' end })) o o' h))

-- the result goes on alone
ends_right : {A B Y : Type 0} (cut : Bool) (End : Correspondence → A → State → B → State → Type 0) (Then : Correspondence → A → State → Y → State → Type 0) (c : Correspondence) (k : B → State → Outcome Y) →
    ((d : Correspondence) (x : A) (y : B) (s s' : State) → End d x s y s' → Outcomes cut Then d (Comes x s []) (k y s')) →
    (o : Outcome A) (o' : Outcome B) → Outcomes cut End c o o' → Outcomes cut Then c o (followed_by o' k)
ends_right cut End Then c k to o o' h =
    subst (λ o. Outcomes cut Then c o (followed_by o' k)) (followed_give o) (ends_followed cut End Then c give k (λ d g x y s s' end. to d x y s s' end) o o' h)

zero_plus : (i : ℕ) → i ≡ 0 + i
zero_plus i = omega arith

left_onto : (c : Correspondence) (m : Memory) (qs : List (ℕ × Object)) (bs : List ℕ) → AllLeft c m qs → LeftAll c m bs → LeftAll c m (onto qs bs)
left_onto c m [] bs h k = k
left_onto c m (q ∷ qs) bs h k = left_onto c m qs (q.0 ∷ bs) h.1 (h.0, k)

have_types : (types types' : List PlainType) (ks : List ℕ) → ((j k : ℕ) → slice_get ks j ≡ Some k → (t : PlainType) × (slice_get types j ≡ Some t) × (slice_get types' k ≡ Some t)) → HaveTypes types' ks
have_types types types' ks h = all ks (λ j k e. let t = h j k e in (t.0, t.2)) where
  all : (ks : List ℕ) → ((j k : ℕ) → slice_get ks j ≡ Some k → (t : PlainType) × (slice_get types' k ≡ Some t)) → HaveTypes types' ks
  all [] h = tt
  all (k ∷ ks) h = (h 0 k refl, all ks (λ j l e. h (suc j) l e))

module _ (p p' : PlainProgram) (functions : ℕ → Option ℕ) (arity : ℕ → ℕ) (first : Correspondence) where
  abbrev pub Stands : Replacement
  Stands types types' uses r selection ts = Inlines p p' functions arity first types types' uses r selection ts

  module _ (alike : AlikePrograms p p' functions arity first Stands) (first_cut : Bool) (n m : ℕ) (laters : LaterRelated p p' functions arity first Stands alike first_cut (meaning p n) (meaning p' m))
      (inner_laters : (k : ℕ) → n ≡ suc k → LaterRelated p p' functions arity first Stands alike first_cut (meaning p k) (meaning p' m)) (stops : n ≡ 0 → first_cut ≡ true)
      (types types' : List PlainType) (uses : Uses) (may_return : Bool) (selection : Selection) (tt' : List PlainStatement) (x : Inlined p p' functions arity first types types' uses may_return selection tt')
      (held : HeldAside) (d : Correspondence) (g : Grown first d) (frame frame' : Frame) (fr : RelatedFrames types types' uses held d frame frame') (object : ℕ) (t : PlainType) (declared : IsDeclared frame object selection)
      (ts us : List ℕ) (s s' : State) (st : Related (statement_setting first_cut held ts us) d s s') where
    abbrev rest : PlainItems
    rest = statement_item (block x.body') x.last

    abbrev FitsInto : Into → Value → Type 0
    FitsInto into v = (q : ℕ × PlainType) → into ≡ Some q → Fits q.1 v

    abbrev End : Into → List ℕ → Correspondence → Ending → State → Ending → State → Type 0
    End into bs c y o z o' = CallEnd first_cut held into ts us may_return bs c y o z o'

    -- the object for the value, if there is one, and the parameters' slots
    module _ (into : Into) (is_free : (q : ℕ × PlainType) → into ≡ Some q → IsFree held q.0) (base : HeldAside) (aside : IsAside held into base) (base_fresh : (q : ℕ × PlainType) → into ≡ Some q → base q.0 ≡ Some (fresh q.1 unwritten))
        (fits : (k : ℕ) (vs : List Value) (o now : State) (v : Value) (out : List ℕ) → meaning p k (body_of x.callee vs) o ≡ Comes (returns v) now out → FitsInto into v)
        (new : AreNew uses x.parameters) (differ : AllDiffer x.parameters)
        (outer : Frame) (outer_frames : RelatedFrames types types' uses base d frame outer) (result_there : (k : ℕ) → x.result ≡ Some k → (q : ℕ × PlainType) × (into ≡ Some q) × (outer.objects k ≡ Some q.0) × DifferFrom k x.parameters)
        (s₁ : State) (st₁ : Related (statement_setting first_cut base [] us) d (record s { temporaries = [] }) s₁) where
      usage : Usage p p' functions arity first alike.same_structs first_cut (meaning p n) (meaning p' m) types types' uses frame held into ts us may_return x.callee x.arguments x.result d g s object t selection x.last
      usage = used_in p p' functions arity first alike.same_structs first_cut (meaning p n) (meaning p' m) types types' uses frame held into ts us may_return x.callee x.arguments x.result d g s st.temporary_objects.0 held frame' fr x.result refl selection x.last x.same_use object t declared

      module _ (qs : List (ℕ × Object)) (vs : List Value) (c : Correspondence) (grown : Grown d c) (now : HeldAside) (inner : Frame) (inner_frames : RelatedFrames types types' uses now c frame inner)
          (there : (k : ℕ) → x.result ≡ Some k → (q : ℕ × PlainType) × (into ≡ Some q) × (inner.objects k ≡ Some q.0)) where
        -- what is done with the value
        with_ending : (e : Correspondence) → Grown c e → (y z : Ending) (o o' : State) → CopyEnd first_cut held into [] us e y o z o' → AllLeft e o.memory qs → ((v : Value) → y ≡ returns v → FitsInto into v) →
            Outcomes first_cut (End into (onto qs [])) e (followed_by (call_value p y o) usage.follows) (then_item p' (meaning p' m) z (items_ending p' (meaning p' m) inner x.last) o')
        with_ending e g₂ y z o o' end left ok =
            subst (λ z. Outcomes first_cut (End into (onto qs [])) e (followed_by (call_value p y o) usage.follows) (then_item p' (meaning p' m) z (items_ending p' (meaning p' m) inner x.last) o')) (sym end.falls_through) (by_answer y o o' end.answered left ok)
          where
            by_answer : (y : Ending) (o o' : State) → Answered first_cut held into [] us e y o o' → AllLeft e o.memory qs → ((v : Value) → y ≡ returns v → FitsInto into v) →
                Outcomes first_cut (End into (onto qs [])) e (followed_by (call_value p y o) usage.follows) (items_ending p' (meaning p' m) inner x.last o')
            by_answer _ o o' (fell _ _ now₂ aside₂ st₂) left ok =
                subst (λ y. Outcomes first_cut (End into (onto qs [])) e y (items_ending p' (meaning p' m) inner x.last o')) (sym (after_nothing (usage.follows nothing o)))
                (usage.follow_alike nothing e (grown_on grown g₂) now₂ aside₂ no_value (λ q f. tt) now inner (frames_grow types types' uses now c e g₂ frame inner inner_frames) there (onto qs []) o o' st₂ (left_onto e o.memory qs [] left tt))
            by_answer _ o o' (returned _ _ v now₂ aside₂ put st₂) left ok =
                subst (λ y. Outcomes first_cut (End into (onto qs [])) e y (items_ending p' (meaning p' m) inner x.last o')) (sym (after_nothing (usage.follows v o)))
                (usage.follow_alike v e (grown_on grown g₂) now₂ aside₂ put (ok v refl) now inner (frames_grow types types' uses now c e g₂ frame inner inner_frames) there (onto qs []) o o' st₂ (left_onto e o.memory qs [] left tt))

        -- the call's body, and what follows
        with_body : (k : ℕ) → n ≡ suc k → (o o' : State) → Outcomes first_cut (λ e y o z o'. EnterEnd first_cut held into [] us qs e y o z o') c (meaning p (suc k) (body_of x.callee vs) o) (items_ending p' (meaning p' m) inner x.body' o') →
            Outcomes first_cut (End into (onto qs [])) c (followed_by (called p (meaning p n) x.callee vs o) usage.follows) (items_ending p' (meaning p' m) inner rest o')
        with_body k e o o' h =
            let body : Outcome Ending = meaning p (suc k) (body_of x.callee vs) o in
            let call_is : followed_by (called p (meaning p n) x.callee vs o) usage.follows ≡ followed_by body (λ y now. followed_by (call_value p y now) usage.follows) =
            ap (λ f. followed_by (called_function p (meaning p n) f x.callee vs o) usage.follows) x.is_function ∙
            (ap (λ i. followed_by (followed_by (meaning p i (body_of x.callee vs) o) (call_value p)) usage.follows) e ∙
            followed_twice body (call_value p) usage.follows) in
            subst (λ y. Outcomes first_cut (End into (onto qs [])) c y (items_ending p' (meaning p' m) inner rest o')) (sym call_is)
            (ends_followed first_cut (λ e y o z o'. EnterEnd first_cut held into [] us qs e y o z o' × ((v : Value) → y ≡ returns v → FitsInto into v)) (End into (onto qs [])) c
            (λ y now. followed_by (call_value p y now) usage.follows) (λ z. then_item p' (meaning p' m) z (items_ending p' (meaning p' m) inner x.last))
            (λ e g₂ y z o o' end. with_ending e g₂ y z o o' end.0.copied end.0.left end.1)
            body (items_ending p' (meaning p' m) inner x.body' o')
            (ends_also first_cut (λ e y o z o'. EnterEnd first_cut held into [] us qs e y o z o') (λ y now. (v : Value) → y ≡ returns v → FitsInto into v) c body (items_ending p' (meaning p' m) inner x.body' o')
            (λ y now out f v is. fits (suc k) vs o now v out (f ∙ ap (λ y. Comes y now out) is)) h))

      -- the arguments are there
      with_arguments : (qs : List (ℕ × Object)) (vs : List Value) (c : Correspondence) → Grown d c → (now : HeldAside) → IsAside held into now → Keeps base now → (inner : Frame) → ((k : ℕ) → DifferFrom k x.parameters → inner.objects k ≡ outer.objects k) →
          RelatedFrames types types' uses now c frame inner → Stored types' c base now inner x.parameters qs vs → (o o' : State) → Related (statement_setting first_cut now [] us) c o o' →
          Outcomes first_cut (End into (onto qs [])) c (followed_by (called p (meaning p n) x.callee vs o) usage.follows) (items_ending p' (meaning p' m) inner rest o')
      with_arguments qs vs c grown now aside₂ keeps inner same inner_frames stored o o' st₂ = by_bound n refl where
        there : (k : ℕ) → x.result ≡ Some k → (q : ℕ × PlainType) × (into ≡ Some q) × (inner.objects k ≡ Some q.0)
        there k e = let r = result_there k e in (r.0, r.1, same k r.3 ∙ r.2)

        by_bound : (i : ℕ) → n ≡ i → Outcomes first_cut (End into (onto qs [])) c (followed_by (called p (meaning p n) x.callee vs o) usage.follows) (items_ending p' (meaning p' m) inner rest o')
        by_bound zero e =
            let result : Outcome Ending = items_ending p' (meaning p' m) inner rest o' in
            let stopped : followed_by (called p (meaning p n) x.callee vs o) usage.follows ≡ Stops [] =
            ap (λ f. followed_by (called_function p (meaning p n) f x.callee vs o) usage.follows) x.is_function ∙
            ap (λ i. followed_by (followed_by (meaning p i (body_of x.callee vs) o) (call_value p)) usage.follows) e in
            subst (λ y. Outcomes first_cut (End into (onto qs [])) c y result) (sym stopped)
            (cut_first first_cut (End into (onto qs [])) c true (stops e) [] result (outcome_output result, refl))
        by_bound (suc k) e =
            with_body qs vs c grown now inner inner_frames there k e o o'
            (subst (λ y. Outcomes first_cut (λ e y o z o'. EnterEnd first_cut held into [] us qs e y o z o') c y (items_ending p' (meaning p' m) inner x.body' o')) (sym (ap (λ f. enter_function p (meaning p k) f vs o) x.is_function))
            (enter_alike p p' functions arity first Stands alike first_cut (meaning p k) (meaning p' m) (inner_laters k e) x.inner_types types' x.result held into [] us is_free x.parameters differ
            (λ j l f. let u = x.parameter_types j l f in subst (λ y. WhereGiven ◌≡◌ y (slice_get types' l)) (sym u.1) (subst (λ y. WhereGiven ◌≡◌ (Some u.0) y) (sym u.2) refl))
            x.body x.body' x.copied inner inner_frames.those_types there x.parameters qs vs 0 (λ i. ap (slice_get x.parameters) (zero_plus i)) (sym (zero_plus (length x.parameters)))
            (record { types = x.inner_types; objects = λ k. None }) refl c (grown_on g grown) (λ i l less f. absurd (omega (arith, less))) base now aside.keeps base_fresh aside₂ (λ q f. keeps.keeps q.0 (fresh q.1 unwritten) (base_fresh q f)) stored o o' st₂))

      pub inside_block : Outcomes first_cut (End into []) d (selection_ending p (meaning p n) frame object t selection s) (items_ending p' (meaning p' m) outer (with_parameters x.parameters x.arguments' rest) s₁)
      inside_block =
          subst (λ y. Outcomes first_cut (End into []) d y (items_ending p' (meaning p' m) outer (with_parameters x.parameters x.arguments' rest) s₁)) (sym usage.original)
          (pass_alike p p' functions arity first Stands alike first_cut (meaning p n) (meaning p' m) laters types types' uses frame held into ts us may_return rest x.arguments x.arguments' x.same_arguments x.parameters x.count new differ (have_types x.inner_types types' x.parameters x.parameter_types)
          [] base aside d g outer outer_frames (λ vs now. followed_by (called p (meaning p n) x.callee vs now) usage.follows) with_arguments (record s { temporaries = [] }) s₁ st₁)

    -- ---- with an object for the value, or without

    abbrev Ends : Correspondence → Ending → State → Ending → State → Type 0
    Ends c y o z o' = EndsAt (statement_setting first_cut held ts us) (RelatedEndings false may_return) c y o z o'

    abbrev items : PlainItems
    items = with_parameters x.parameters x.arguments' rest

    without_result : x.result ≡ None → Outcomes first_cut Ends d (selection_ending p (meaning p n) frame object t selection s) (items_ending p' (meaning p' m) frame' items s')
    without_result e =
        ends_to first_cut (End None []) Ends d
        (λ c y z o o' end. record { results = end.results; states = record { memories = held_less held end.now end.aside.keeps c o.memory o'.memory end.states.memories; inputs = end.states.inputs; temporary_objects = end.states.temporary_objects } })
        _ _
        (inside_block None (λ q f. absurd (none-some _ f)) held (record { keeps = keeps_all held; holds_result = λ q f. absurd (none-some _ f) }) (λ q f. absurd (none-some _ f)) (λ k vs o now v out f q is. absurd (none-some _ is))
        (subst (λ r. AreNew uses (and_slot r x.parameters)) e x.are_new) (subst (λ r. AllDiffer (and_slot r x.parameters)) e x.differ) frame' fr (λ k f. absurd (none-some _ (sym e ∙ f)))
        s' (record { memories = st.memories; inputs = st.inputs; temporary_objects = (refl, st.temporary_objects.1) }))

    module _ (k : ℕ) (e : x.result ≡ Some k) where
      abbrev result_type : (t : PlainType) × (slice_get types' k ≡ Some t) × ReturnsFit p x.callee t
      result_type = subst (λ r. ResultType p x.callee types' r) e x.result_type

      abbrev made : ℕ
      made = s'.memory.made

      abbrev now_made : State
      now_made = record s' { memory = with_new s'.memory (fresh result_type.0 unwritten) }

      declared_alone : items_ending p' (meaning p' m) frame' (local k [] items) s' ≡ followed_by (items_ending p' (meaning p' m) (with_slot frame' k made) items now_made) (end_object p' made)
      declared_alone =
          ap (λ o. followed_by (given o s') (λ t. make p' t unwritten >>= (λ object. initialise p' (meaning p' m) (with_slot frame' k object) object t [] >>= (λ done. items_ending p' (meaning p' m) (with_slot frame' k object) items >>= (λ ending. end_object p' object ending)))))
          (ap (λ ty. slice_get ty k) fr.those_types ∙ result_type.1) ∙
          (after_nothing _ ∙ (after_nothing _ ∙ after_nothing _))

      with_object_for_it : Outcomes first_cut Ends d (selection_ending p (meaning p n) frame object t selection s) (items_ending p' (meaning p' m) frame' (local k [] items) s')
      with_object_for_it =
          let u = result_type.0 in
          let into : Into = Some (made, u) in
          let base : HeldAside = held_with held made (fresh u unwritten) in
          let free : IsFree held made = new_is_free held d s.memory s'.memory st.memories in
          let news : IsNew uses k × AreNew uses x.parameters = subst (λ r. AreNew uses (and_slot r x.parameters)) e x.are_new in
          let differs : DifferFrom k x.parameters × AllDiffer x.parameters = subst (λ r. AllDiffer (and_slot r x.parameters)) e x.differ in
          subst (λ y. Outcomes first_cut Ends d (selection_ending p (meaning p n) frame object t selection s) y) (sym declared_alone)
          (ends_right first_cut (End into []) Ends d (end_object p' made)
          (λ c y z o o' end.
          let r = end.aside.holds_result (made, u) refl in (
            refl,
            record {
              now = c;
              grown = same_grown c;
              ends = record {
                results = end.results;
                states = record {
                  memories = held_less held (without end.now made) (keeps_without held end.now made free end.aside.keeps) c o.memory (with_ended o'.memory made) (ended_aside end.now c o.memory o'.memory end.states.memories made r.0 r.1);
                  inputs = end.states.inputs;
                  temporary_objects = end.states.temporary_objects;
                };
              };
            },
          ))
          _ _
          (inside_block into (λ q f. subst (λ q. IsFree held q.0) (some_same f) free) base (record { keeps = keeps_with held made (fresh u unwritten) free; holds_result = λ q f. (fresh u unwritten, subst (λ q. base q.0 ≡ Some (fresh u unwritten)) (some_same f) (held_here held made (fresh u unwritten))) })
          (λ q f. subst (λ q. base q.0 ≡ Some (fresh q.1 unwritten)) (some_same f) (held_here held made (fresh u unwritten)))
          (λ i vs o now v out f q is. subst (λ q. Fits q.1 v) (some_same is) (result_type.2 i vs o now v out f))
          news.1 differs.1 (with_slot frame' k made)
          (frames_new types types' uses base d frame frame' (frames_keep types types' uses held d frame frame' fr base (keeps_with held made (fresh u unwritten) free)) k made news.0)
          (λ j f.
          let same : k ≡ j = some_same (sym e ∙ f) in
          ((made, u), refl, ap (with_slot frame' k made).objects (sym same) ∙ cond-true (eqb k k) (Some made) (frame'.objects k) (eq-eqb k k refl), subst (λ j. DifferFrom j x.parameters) same differs.0))
          now_made (record { memories = with_new_aside held d s.memory s'.memory st.memories (fresh u unwritten); inputs = st.inputs; temporary_objects = (refl, st.temporary_objects.1) })))

    by_result : (r : Option ℕ) → x.result ≡ r → Outcomes first_cut Ends d (selection_ending p (meaning p n) frame object t selection s) (items_ending p' (meaning p' m) frame' (with_result r items) s')
    by_result None e = without_result e
    by_result (Some k) e = with_object_for_it k e

    -- the block ends
    block_ended : (c : Correspondence) (y z : Ending) → EndingPair false may_return c y z → (o o' : State) → Ends c y o z o' → Outcomes first_cut Ends c (Comes y o []) (then_item p' (meaning p' m) z (give falls) o')
    block_ended c y z both_fall o o' end = (refl, record { now = c; grown = same_grown c; ends = end })
    block_ended c y z (both_return v w f h) o o' end = (refl, record { now = c; grown = same_grown c; ends = end })
    block_ended c y z (both_break f) o o' end = absurd (true≢false (sym f))
    block_ended c y z (both_continue f) o o' end = absurd (true≢false (sym f))

    pub block_alike : RelatedOutcomes (statement_setting first_cut held ts us) (RelatedEndings false may_return) d (selection_ending p (meaning p n) frame object t selection s) (items_ending p' (meaning p' m) frame' (before_items tt' no_item) s')
    block_alike =
        subst (λ ts'. Outcomes first_cut Ends d (selection_ending p (meaning p n) frame object t selection s) (items_ending p' (meaning p' m) frame' (before_items ts' no_item) s')) (sym x.one_block)
        (ends_right first_cut Ends Ends d (λ z. then_item p' (meaning p' m) z (give falls)) (λ c y z o o' end. block_ended c y z (ending_pair false may_return c y z end.results) o o' end)
        (selection_ending p (meaning p n) frame object t selection s) (items_ending p' (meaning p' m) frame' (with_result x.result items) s') (by_result x.result refl))

  module _ (alike : AlikePrograms p p' functions arity first Stands) (first_cut : Bool) where
    pub inlined_at : (n m : ℕ) → LaterRelated p p' functions arity first Stands alike first_cut (meaning p n) (meaning p' m) →
        ((k : ℕ) → n ≡ suc k → LaterRelated p p' functions arity first Stands alike first_cut (meaning p k) (meaning p' m)) → (n ≡ 0 → first_cut ≡ true) →
        SelectedRelated p p' functions arity first Stands alike first_cut (meaning p n) (meaning p' m)
    inlined_at n m laters inner stops held c g types types' uses distinct r selection tt' x frame frame' fr object t declared ts us = record {
      in_states = λ d grown s s' st.
          block_alike alike first_cut n m laters inner stops types types' uses r selection tt' x held d (grown_on g grown) frame frame' (frames_grow types types' uses held c d grown frame frame' fr) object t declared ts us s s' st;
    }
