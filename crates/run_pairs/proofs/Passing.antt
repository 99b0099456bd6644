-- The arguments of a call, and the objects that the result makes for them.
use Rattle.std.proofs.Common.{◌≡◌, ℕ, Bool, true, false, List, [], ◌∷◌, length, ◌⊎◌, inl, inr, refl, sym, ◌∙◌, ap, subst, cond, eqb, ◌||◌, Option, Some, None, option_map, slice_get, arith}
use Rattle.std.proofs.lemmas.Option.{none-some}
use Rattle.std.proofs.lemmas.Bool.{cond-true, cond-false, true≢false, eq-eqb, ne_eqb}
use Rattle.std.specs.Prelude.{⊤, is_some}
use Rattle.c_types.specs.Types.{PlainType}
use Rattle.core_meaning.specs.Program.{PlainExpression, PlainArguments, PlainPart, PlainItems, local, PlainProgram}
use Rattle.core_meaning.specs.Values.{Path, at, Cells, Value, onward}
use Rattle.core_meaning.specs.Memory.{Object, Memory, unwritten, zeros, fresh, with_object, with_new, with_ended, with_all_ended, cells_with}
use Rattle.core_meaning.specs.Outcomes.{State, Outcome, Comes, Piece, after, followed_by, ◌>>=◌, give, given, without_temporaries}
use Rattle.core_meaning.specs.Meaning.{used, Ending, Frame, with_slot, Job, make, write_to, end_object, fill_missing, cells_filled, value_of, values_of, initialise, items_ending}
use Rattle.run_pairs.specs.Correspondences.{Correspondence, Grown, WhereGiven, RelatedScalars, RelatedCells, RelatedObjects, HeldAside, RelatedMemories, Setting, Related, EndsAt, Outcomes, statement_setting, RelatedEndings}
use Rattle.run_pairs.specs.Alike
use Rattle.run_pairs.specs.Alike.{argument_count, Uses, direct, through, elements, BothGiven, RelatedFrames, AlikeArguments, Replacement, AlikePrograms}
use Rattle.run_pairs.specs.Inlining.{IsNew, AreNew, DifferFrom, AllDiffer, with_parameters}
use Rattle.run_pairs.proofs.MemoryPairs.{some_same, objects_grow, cells_with_related}
use Rattle.run_pairs.proofs.Pieces.{same_grown, grown_on, ends_followed, after_nothing, followed_give, followed_twice, followed_same}
use Rattle.run_pairs.proofs.Expressions.{frames_grow, values_alike}
use Rattle.run_pairs.proofs.Statements.{LaterRelated, calls_apart}
use Rattle.run_pairs.proofs.Private.{held_with}
use Rattle.run_pairs.proofs.Aside.{Keeps, keeps_all, keeps_on, IsFree, held_here, held_else, with_cases, keeps_with, held_less, new_is_free, with_new_aside, changed_aside, IsLeft, right_ended}
use Rattle.run_pairs.proofs.Copies.{UsedPair, used_values, used_pairs, used_cells, holding_cells, write_fresh, Into, IsAside}
use Rattle.run_pairs.proofs.Entering.{Stored}

-- ---- frames with a new slot, or with more held aside

module _ (types types' : List PlainType) (uses : Uses) (held : HeldAside) (c : Correspondence) (frame frame' : Frame) (r : RelatedFrames types types' uses held c frame frame') where
  both_to : (R : ℕ → ℕ → Type 0) (x y z : Option ℕ) → z ≡ y → BothGiven R x y → BothGiven R x z
  both_to R x y z e h = subst (λ z. BothGiven R x z) (sym e) h

  pub frames_new : (k b : ℕ) → IsNew uses k → RelatedFrames types types' uses held c frame (with_slot frame' k b)
  frames_new k b new = record {
    these_types = r.these_types;
    those_types = r.those_types;
    direct_objects = λ j l e. both_to _ (frame.objects j) (frame'.objects l) _ (same l (λ eq. new.not_direct j (e ∙ ap direct eq))) (r.direct_objects j l e);
    passed_objects = λ j l e. both_to _ (frame.objects j) (frame'.objects l) _ (same l (λ eq. new.not_through j (e ∙ ap through eq))) (r.passed_objects j l e);
    passed_arrays = λ j l e. both_to _ (frame.objects j) (frame'.objects l) _ (same l (λ eq. new.not_elements j (e ∙ ap elements eq))) (r.passed_arrays j l e);
  } where
    same : (l : ℕ) → (l ≡ k → ⊥) → (with_slot frame' k b).objects l ≡ frame'.objects l
    same l differ = cond-false (eqb l k) (Some b) (frame'.objects l) (ne_eqb l k differ)

  pub frames_keep : (more : HeldAside) → Keeps held more → RelatedFrames types types' uses more c frame frame'
  frames_keep more k = record {
    these_types = r.these_types;
    those_types = r.those_types;
    direct_objects = r.direct_objects;
    passed_objects = λ j l e. both_map _ _ (λ a b h. (h.0, h.1, (h.2.0, h.2.1, k.keeps b _ h.2.2))) (frame.objects j) (frame'.objects l) (r.passed_objects j l e);
    passed_arrays = λ j l e. both_map _ _ (λ a b h. (h.0, h.1, (h.2.0, h.2.1, k.keeps b _ h.2.2))) (frame.objects j) (frame'.objects l) (r.passed_arrays j l e);
  } where
    both_map : (R Q : ℕ → ℕ → Type 0) → ((a b : ℕ) → R a b → Q a b) → (x y : Option ℕ) → BothGiven R x y → BothGiven Q x y
    both_map R Q f (Some a) (Some b) h = f a b h
    both_map R Q f None None h = absurd h
    both_map R Q f None (Some b) h = absurd h
    both_map R Q f (Some a) None h = absurd h

-- ---- an object that was initialised as a whole

pub onward_root : (path : Path) → onward [] path ≡ Some path
onward_root [] = refl
onward_root (step ∷ outer) = ap (option_map (λ steps. step ∷ steps)) (onward_root outer)

abbrev pub whole_part : PlainExpression → List PlainPart
whole_part e = record { path = []; value = e } ∷ []

abbrev filled : List (List PlainType) → PlainType → PlainExpression → Cells → Cells
filled structs t e cells = cells_filled (whole_part e) (zeros structs t) cells

filled_same : (structs : List (List PlainType)) (t : PlainType) (e : PlainExpression) (cells : Cells) (path : Path) → filled structs t e cells path ≡ cells path
filled_same structs t e cells path = ap (λ o. cond (is_some o || false) (cells path) (zeros structs t path)) (onward_root path)

where_given_both : (c : Correspondence) (x y : Option Cells) (a b : Cells) → x ≡ Some a → y ≡ Some b → WhereGiven (RelatedCells c) x y → RelatedCells c a b
where_given_both c None y a b e f h = absurd (none-some _ e)
where_given_both c (Some x) None a b e f h = absurd h
where_given_both c (Some x) (Some y) a b e f h = subst (λ a. RelatedCells c a b) (some_same e) (subst (λ b. RelatedCells c x b) (some_same f) h)

cells_of_used : (c : Correspondence) (v w : Value) → UsedPair c v w → (a b : Cells) → cells_with unwritten [] v ≡ Some a → cells_with unwritten [] w ≡ Some b → RelatedCells c a b
cells_of_used c v w h a b e f =
    where_given_both c (cells_with unwritten [] v) (cells_with unwritten [] w) a b e f (cells_with_related c unwritten unwritten [] v w (record { at_path = λ path. tt }) (used_values c v w h))

-- an object like one that was written, but for how its cells are given
same_cells : (c : Correspondence) (t : PlainType) (a b d : Cells) → RelatedCells c a b → ((path : Path) → d path ≡ b path) → RelatedObjects c (holding_cells t a) (holding_cells t d)
same_cells c t a b d h same = record {
  same_type = refl;
  live = λ e. e;
  write = λ e. e;
  hold = record { at_path = λ path. subst (λ x. WhereGiven (RelatedScalars c) (a path) x) (sym (same path)) (h.at_path path) };
}

-- ---- what is done with the object

pub followed_four : {A B C D E : Type 0} (o : Outcome A) (f : A → State → Outcome B) (g : B → State → Outcome C) (h : C → State → Outcome D) (k : D → State → Outcome E) →
    followed_by (followed_by (followed_by (followed_by o f) g) h) k ≡ followed_by o (λ x s. followed_by (followed_by (followed_by (f x s) g) h) k)
followed_four o f g h k =
    ap (λ o. followed_by (followed_by o h) k) (followed_twice o f g) ∙
    (ap (λ o. followed_by o k) (followed_twice o (λ x s. followed_by (f x s) g) h) ∙ followed_twice o (λ x s. followed_by (followed_by (f x s) g) h) k)

module _ (p' : PlainProgram) (later' : Job → Piece Ending) (frame' : Frame) (k : ℕ) (e : PlainExpression) (items : PlainItems) (t : PlainType) (s : State) where
  abbrev pub made_state : State
  made_state = record s { memory = with_new s.memory (fresh t unwritten) }

  abbrev pub with_it : Frame
  with_it = with_slot frame' k s.memory.made

  abbrev writes : Value → State → Outcome (Unit {0})
  writes v = write_to p' (at s.memory.made []) v >>= (λ written. give tt)

  -- once the argument's value is there
  abbrev pub behind : Value → State → Outcome Ending
  behind w now =
      followed_by (followed_by (followed_by (Comes w (without_temporaries s.temporaries now) []) writes)
      (λ written. fill_missing p' s.memory.made t (whole_part e))) (λ done. items_ending p' later' with_it items >>= (λ ending. end_object p' s.memory.made ending))

  pub declared : slice_get frame'.types k ≡ Some t →
      items_ending p' later' frame' (local k (whole_part e) items) s ≡ followed_by (used (value_of p' later' with_it e) (record made_state { temporaries = [] })) behind
  declared same =
      ap (λ o. followed_by (given o s) (λ t. make p' t unwritten >>= (λ object. initialise p' later' (with_slot frame' k object) object t (whole_part e) >>= (λ done. items_ending p' later' (with_slot frame' k object) items >>= (λ ending. end_object p' object ending))))) same ∙
      (after_nothing _ ∙ (after_nothing _ ∙
      followed_four (used (value_of p' later' with_it e) (record made_state { temporaries = [] })) (λ x now. Comes x (without_temporaries s.temporaries now) []) writes
      (λ written. fill_missing p' s.memory.made t (whole_part e)) (λ done. items_ending p' later' with_it items >>= (λ ending. end_object p' s.memory.made ending))))

  -- the object then
  abbrev pub stored_object : Cells → Object
  stored_object cells = holding_cells t (filled p'.structs t e cells)

  abbrev pub stored_state : Cells → State → State
  stored_state cells now = record now { memory = with_object (with_object now.memory s.memory.made (holding_cells t cells)) s.memory.made (stored_object cells); temporaries = s.temporaries }

  pub stores : (now : State) → now.temporaries ≡ [] → now.memory.object s.memory.made ≡ fresh t unwritten → (w : Value) (cells : Cells) → cells_with unwritten [] w ≡ Some cells →
      behind w now ≡ followed_by (items_ending p' later' with_it items (stored_state cells now)) (end_object p' s.memory.made)
  stores now none there w cells h =
      let done : Value → State → Outcome (Unit {0}) = λ written. give tt in
      let now₁ : State = record now { temporaries = s.temporaries } in
      let outer : Outcome (Unit {0}) → Outcome Ending = λ o. followed_by (followed_by o (λ written. fill_missing p' s.memory.made t (whole_part e))) (λ done. items_ending p' later' with_it items >>= (λ ending. end_object p' s.memory.made ending)) in
      ap (λ ks. outer (followed_by (Comes w (record now { memory = with_all_ended now.memory ks; temporaries = s.temporaries }) []) writes)) none ∙
      (ap (λ o. outer (after [] (followed_by o done))) (write_fresh p' now₁ s.memory.made t there w cells h) ∙
      (ap (λ o. after [] (followed_by (items_ending p' later' with_it items (record now₁ { memory = with_object (with_object now.memory s.memory.made (holding_cells t cells)) s.memory.made (record o { cells = filled p'.structs t e o.cells }) })) (end_object p' s.memory.made)))
      (cond-true (eqb s.memory.made s.memory.made) (holding_cells t cells) (now.memory.object s.memory.made) (eq-eqb s.memory.made s.memory.made refl)) ∙
      after_nothing _))

-- ---- how a call and its block end

-- the objects for parameters stand for some that have ended
abbrev pub LeftAll : Correspondence → Memory → List ℕ → Type 0
LeftAll c m [] = ⊤
LeftAll c m (b ∷ bs) = IsLeft c m b × LeftAll c m bs

pub record CallEnd (first_cut : Bool) (held : HeldAside) (into : Into) (ts us : List ℕ) (may_return : Bool) (bs : List ℕ) (c : Correspondence) (x : Ending) (s : State) (y : Ending) (s' : State) : Type 0 where
  pub results : RelatedEndings false may_return c x y
  pub now : HeldAside
  pub aside : IsAside held into now
  pub states : Related (statement_setting first_cut now ts us) c s s'
  pub left : LeftAll c s.memory bs

-- the last of these objects, behind the others
abbrev pub onto : List (ℕ × Object) → List ℕ → List ℕ
onto [] bs = bs
onto (q ∷ qs) bs = onto qs (q.0 ∷ bs)

parameter_ended : (first_cut : Bool) (held : HeldAside) (into : Into) (ts us : List ℕ) (r : Bool) (b : ℕ) (bs : List ℕ) (c : Correspondence) (x : Ending) (s : State) (y : Ending) (s' : State) →
    CallEnd first_cut held into ts us r (b ∷ bs) c x s y s' → CallEnd first_cut held into ts us r bs c x s y (record s' { memory = with_ended s'.memory b })
parameter_ended first_cut held into ts us r b bs c x s y s' h = record {
  results = h.results;
  now = h.now;
  aside = h.aside;
  states = record { memories = right_ended h.now c s.memory s'.memory h.states.memories b h.left.0; inputs = h.states.inputs; temporary_objects = h.states.temporary_objects };
  left = h.left.1;
}

keeps_over : (base : HeldAside) (b : ℕ) (o x y : Object) → Keeps (held_with base b o) (held_with (held_with (held_with base b x) b y) b o)
keeps_over base b o x y = record { keeps = λ k q e. by_case k q (with_cases base b o k q e) } where
  by_case : (k : ℕ) (q : Object) → ((k ≡ b) × (o ≡ q)) ⊎ ((k ≡ b → ⊥) × (base k ≡ Some q)) → held_with (held_with (held_with base b x) b y) b o k ≡ Some q
  by_case k q (inl e) = cond-true (eqb k b) (Some o) _ (eq-eqb k b e.0) ∙ ap Some e.1
  by_case k q (inr e) = held_else (held_with (held_with base b x) b y) b o k e.0 ∙ (held_else (held_with base b x) b y k e.0 ∙ (held_else base b x k e.0 ∙ e.1))

-- ---- the arguments

abbrev pub HaveTypes : List PlainType → List ℕ → Type 0
HaveTypes types [] = ⊤
HaveTypes types (k ∷ ks) = ((t : PlainType) × (slice_get types k ≡ Some t)) × HaveTypes types ks

-- the frames have the same objects in all other slots
abbrev pub SameElse : List ℕ → Frame → Frame → Type 0
SameElse ks frame other = (k : ℕ) → DifferFrom k ks → other.objects k ≡ frame.objects k

module _ (p p' : PlainProgram) (functions : ℕ → Option ℕ) (arity : ℕ → ℕ) (first : Correspondence) (Stands : Replacement) (alike : AlikePrograms p p' functions arity first Stands) (first_cut : Bool)
    (later later' : Job → Piece Ending) (laters : LaterRelated p p' functions arity first Stands alike first_cut later later')
    (types types' : List PlainType) (uses : Uses) (frame : Frame) (held : HeldAside) (into : Into) (ts us : List ℕ) (may_return : Bool) (rest : PlainItems) where
  abbrev End : List ℕ → Correspondence → Ending → State → Ending → State → Type 0
  End bs c x s y s' = CallEnd first_cut held into ts us may_return bs c x s y s'

  -- what follows the arguments
  abbrev pub Next : List ℕ → List ℕ → HeldAside → Correspondence → Frame → (List Value → State → Outcome Ending) → Type 0
  Next ks bs base c frame' follows = (qs : List (ℕ × Object)) (vs : List Value) (d : Correspondence) → Grown c d → (now : HeldAside) → IsAside held into now → Keeps base now → (inner : Frame) → SameElse ks frame' inner →
      RelatedFrames types types' uses now d frame inner → Stored types' d base now inner ks qs vs → (t t' : State) → Related (statement_setting first_cut now [] us) d t t' →
      Outcomes first_cut (End (onto qs bs)) d (follows vs t) (items_ending p' later' inner rest t')

  pub pass_alike : (es es' : PlainArguments) → AlikeArguments p p' functions arity first true uses es es' → (ks : List ℕ) → length ks ≡ argument_count es → AreNew uses ks → AllDiffer ks → HaveTypes types' ks →
      (bs : List ℕ) (base : HeldAside) → IsAside held into base → (c : Correspondence) → Grown first c → (frame' : Frame) → RelatedFrames types types' uses base c frame frame' →
      (follows : List Value → State → Outcome Ending) → Next ks bs base c frame' follows → (s s' : State) → Related (statement_setting first_cut base [] us) c s s' →
      Outcomes first_cut (End bs) c (followed_by (values_of p later frame es s) follows) (items_ending p' later' frame' (with_parameters ks es' rest) s')
  pass_alike es es' Alike.no_arguments [] n new differ have bs base aside c g frame' fr follows next s s' st =
      subst (λ o. Outcomes first_cut (End bs) c o (items_ending p' later' frame' rest s')) (sym (after_nothing (follows [] s)))
      (next [] [] c (same_grown c) base aside (keeps_all base) frame' (λ k d. refl) fr tt s s' st)
  pass_alike es es' Alike.no_arguments (k ∷ ks) n new differ have bs base aside c g frame' fr follows next s s' st = absurd (omega (arith, n))
  pass_alike es es' (Alike.arguments a b x y h i) [] n new differ have bs base aside c g frame' fr follows next s s' st = absurd (omega (arith, n))
  pass_alike es es' (Alike.arguments a b x y h i) (k ∷ ks) n new differ have bs base aside c g frame' fr follows next s s' st =
      let t₀ : PlainType = have.0.0 in
      let made : ℕ = s'.memory.made in
      let base₁ : HeldAside = held_with base made (fresh t₀ unwritten) in
      let s₁ : State = record (made_state p' later' frame' k b (with_parameters ks y rest) t₀ s') { temporaries = [] } in
      let free : IsFree base made = new_is_free base c s.memory s'.memory st.memories in
      let memories₁ : RelatedMemories base₁ c s.memory s₁.memory = with_new_aside base c s.memory s'.memory st.memories (fresh t₀ unwritten) in
      let inner : Frame = with_slot frame' k made in
      let fr₁ : RelatedFrames types types' uses base₁ c frame inner = frames_new types types' uses base₁ c frame frame' (frames_keep types types' uses base c frame frame' fr base₁ (keeps_with base made (fresh t₀ unwritten) free)) k made new.0 in
      let w₁ : Setting = statement_setting first_cut base₁ [] [] in
      let f = used (value_of p later frame a) in
      let f' = used (value_of p' later' inner b) in
      let values = used_pairs w₁ c (value_of p later frame a) (value_of p' later' inner b) (values_alike p p' functions arity first alike.same_structs w₁ later later' (calls_apart p p' functions arity first Stands alike first_cut later later' laters base₁ [] []) true (λ e. absurd (true≢false e)) types types' uses frame inner a b h c g fr₁) in
      let goes_on : Value → State → Outcome Ending = λ v now. followed_by (values_of p later frame x now) (λ vs. follows (v ∷ vs)) in
      let original : followed_by (values_of p later frame es s) follows ≡ followed_by (f s) goes_on =
      followed_twice (f s) (λ v. values_of p later frame x >>= (λ vs. give (v ∷ vs))) follows ∙
      followed_same (f s) _ _ (λ v now. followed_twice (values_of p later frame x now) (λ vs. give (v ∷ vs)) follows ∙ followed_same (values_of p later frame x now) _ _ (λ vs now. after_nothing (follows (v ∷ vs) now))) in
      subst (λ o. Outcomes first_cut (End bs) c o (items_ending p' later' frame' (with_parameters (k ∷ ks) es' rest) s')) (sym original)
      (subst (λ o. Outcomes first_cut (End bs) c (followed_by (f s) goes_on) o) (sym (declared p' later' frame' k b (with_parameters ks y rest) t₀ s' (ap (λ ty. slice_get ty k) fr.those_types ∙ have.0.1)))
      (ends_followed first_cut (λ d x s y s'. EndsAt w₁ UsedPair d x s y s') (End bs) c goes_on (behind p' later' frame' k b (with_parameters ks y rest) t₀ s')
      (λ d grown v w t t' end.
      let cells = used_cells d v w end.results in
      let object₁ : Object = holding_cells t₀ cells.0 in
      let object₂ : Object = stored_object p' later' frame' k b (with_parameters ks y rest) t₀ s' cells.0 in
      let s₂ : State = stored_state p' later' frame' k b (with_parameters ks y rest) t₀ s' cells.0 t' in
      let base₂ : HeldAside = held_with base made object₂ in
      let keeps₂ : Keeps base base₂ = keeps_with base made object₂ free in
      let memories₂ : RelatedMemories (held_with base₁ made object₁) d t.memory (with_object t'.memory made object₁) = changed_aside base₁ d t.memory t'.memory end.states.memories made (fresh t₀ unwritten) (held_here base made (fresh t₀ unwritten)) object₁ in
      let memories₃ : RelatedMemories base₂ d t.memory s₂.memory =
      held_less base₂ (held_with (held_with base₁ made object₁) made object₂) (keeps_over base made object₂ (fresh t₀ unwritten) object₁) d t.memory s₂.memory
      (changed_aside (held_with base₁ made object₁) d t.memory (with_object t'.memory made object₁) memories₂ made object₁ (held_here base₁ made object₁) object₂) in
      let fr₂ : RelatedFrames types types' uses base₂ d frame inner =
      frames_grow types types' uses base₂ c d grown frame inner (frames_new types types' uses base₂ c frame frame' (frames_keep types types' uses base c frame frame' fr base₂ keeps₂) k made new.0) in
      let aside₂ : IsAside held into base₂ = record { keeps = keeps_on aside.keeps keeps₂; holds_result = λ q e. let o = aside.holds_result q e in (o.0, keeps₂.keeps q.0 o.0 o.1) } in
      let o = goes_on v t in
      let o' = items_ending p' later' inner (with_parameters ks y rest) s₂ in
      let run : Outcomes first_cut (End (made ∷ bs)) d o o' =
      pass_alike x y i ks (omega (arith, n)) new.1 differ.1 have.1 (made ∷ bs) base₂ aside₂ d (grown_on g grown) inner fr₂ (λ vs. follows (v ∷ vs))
      (λ qs vs d₂ g₂ now aside₃ keeps₃ inner₂ same fr₃ stored n n' st₃.
      next ((made, object₂) ∷ qs) (v ∷ vs) d₂ (grown_on grown g₂) now aside₃ (keeps_on keeps₂ keeps₃) inner₂
      (λ l other. same l other.1 ∙ cond-false (eqb l k) (Some made) (frame'.objects l) (ne_eqb l k (λ eq. other.0 (sym eq)))) fr₃ (
        record {
          is_free = free;
          held = keeps₃.keeps made object₂ (held_here base made object₂);
          in_slot = same k differ.0 ∙ cond-true (eqb k k) (Some made) (frame'.objects k) (eq-eqb k k refl);
          in_type = have.0.1;
          holds = λ cells₀ e. objects_grow d d₂ g₂ (holding_cells t₀ cells₀) object₂
              (same_cells d t₀ cells₀ cells.0 (filled p'.structs t₀ b cells.0) (cells_of_used d v w end.results cells₀ cells.0 e cells.1) (filled_same p'.structs t₀ b cells.0));
        },
        stored,
      ) n n' st₃)
      t s₂ (record { memories = memories₃; inputs = end.states.inputs; temporary_objects = (end.states.temporary_objects.0, st.temporary_objects.1) }) in
      subst (λ y. Outcomes first_cut (End bs) d o y) (sym (stores p' later' frame' k b (with_parameters ks y rest) t₀ s' t' end.states.temporary_objects.1 (end.states.memories.holds made (fresh t₀ unwritten) (held_here base made (fresh t₀ unwritten))) w cells.0 cells.1))
      (subst (λ z. Outcomes first_cut (End bs) d z (followed_by o' (end_object p' made))) (followed_give o)
      (ends_followed first_cut (End (made ∷ bs)) (End bs) d give (end_object p' made)
      (λ e g₂ x y n n' end. (refl, record { now = e; grown = same_grown e; ends = parameter_ended first_cut held into ts us may_return made bs e x n y n' end }))
      o o' run)))
      (f s) (f' s₁) (values.in_states c (same_grown c) s s₁ (record { memories = memories₁; inputs = st.inputs; temporary_objects = (st.temporary_objects.0, refl) }))))
