-- The original enters a body, for whose parameters the result has objects already.
use Rattle.std.proofs.Common.{◌≡◌, ℕ, zero, suc, ◌+◌, ◌<◌, Bool, true, false, List, [], ◌∷◌, length, ◌⊎◌, inl, inr, refl, sym, ◌∙◌, ap, subst, eqb, ◌&&◌, Option, Some, None, option_map, slice_get, if◌then◌else◌, arith}
use Rattle.std.proofs.lemmas.Option.{none-some}
use Rattle.std.proofs.lemmas.Bool.{cond-true, cond-false, true≢false, cases_eq, eq-eqb, ne_eqb}
use Rattle.std.specs.Prelude.{⊤}
use Rattle.c_types.specs.Types.{PlainType}
use Rattle.core_meaning.specs.Program.{PlainItems, PlainProgram}
use Rattle.core_meaning.specs.Values.{at, Cells, Value}
use Rattle.core_meaning.specs.Memory.{Object, Memory, unwritten, fresh, with_object, with_new, with_ended, cells_with, is_there, written_at}
use Rattle.core_meaning.specs.Outcomes.{State, Outcome, Fails, Piece, after, followed_by, ◌>>=◌, give, given, set_memory}
use Rattle.core_meaning.specs.Meaning.{Ending, Frame, with_slot, Job, make, write_to, end_object, enter, items_ending}
use Rattle.run_pairs.specs.Correspondences.{Correspondence, Grown, WhereGiven, RelatedObjects, HeldAside, RelatedMemories, Related, Outcomes, statement_setting}
use Rattle.run_pairs.specs.Alike.{Use, direct, through, elements, unused, AreDistinct, BothGiven, RelatedFrames, Replacement, AlikePrograms}
use Rattle.run_pairs.specs.Inlining.{DifferFrom, AllDiffer, slot_use, parameters_in, Copied}
use Rattle.run_pairs.proofs.MemoryPairs.{some_same, objects_grow}
use Rattle.run_pairs.proofs.Pieces.{same_grown, grown_on, ends_followed, ends_back, after_nothing, followed_give}
use Rattle.run_pairs.proofs.Statements.{direct_of, LaterRelated}
use Rattle.run_pairs.proofs.Private.{held_with}
use Rattle.run_pairs.proofs.Aside.{Keeps, IsFree, without, held_here, held_else, without_else, keeps_without, ended_is_dead, dead_ended, IsLeft, left_ended, with_mapped, grown_mapped, is_mapped, mapped_aside}
use Rattle.run_pairs.proofs.Copies.{ends_also, holding_cells, write_fresh, Into, IsAside, Answered, fell, returned, CopyEnd, copied_alike}

-- ---- objects that hold arguments

pub record StoredOne (types' : List PlainType) (c : Correspondence) (base now : HeldAside) (frame' : Frame) (k : ℕ) (q : ℕ × Object) (v : Value) : Type 0 where
  pub is_free : IsFree base q.0
  pub held : now q.0 ≡ Some q.1
  pub in_slot : frame'.objects k ≡ Some q.0
  pub in_type : slice_get types' k ≡ Some q.1.ty
  pub holds : (cells : Cells) → cells_with unwritten [] v ≡ Some cells → RelatedObjects c (holding_cells q.1.ty cells) q.1

abbrev pub Stored : (types' : List PlainType) (c : Correspondence) (base now : HeldAside) (frame' : Frame) → List ℕ → List (ℕ × Object) → List Value → Type 0
Stored types' c base now frame' [] [] [] = ⊤
Stored types' c base now frame' (k ∷ ks) (q ∷ qs) (v ∷ vs) = StoredOne types' c base now frame' k q v × Stored types' c (held_with base q.0 q.1) now frame' ks qs vs
Stored types' c base now frame' ks qs vs = ⊥

-- what is added is no less free
pub free_less : (held base : HeldAside) → Keeps held base → (b : ℕ) → IsFree base b → IsFree held b
free_less held base k b f = record { free = λ o e. f.free o (k.keeps b o e) }

pub differs : (base : HeldAside) (b : ℕ) (o : Object) (i : ℕ) → IsFree (held_with base b o) i → i ≡ b → ⊥
differs base b o i f same = f.free o (ap (held_with base b o) same ∙ held_here base b o)

still_stored : (types' : List PlainType) (c d : Correspondence) → Grown c d → (base now : HeldAside) (b : ℕ) (o : Object) → base b ≡ Some o → (frame' : Frame) (ks : List ℕ) (qs : List (ℕ × Object)) (vs : List Value) →
    Stored types' c base now frame' ks qs vs → Stored types' d base (without now b) frame' ks qs vs
still_stored types' c d g base now b o e frame' [] [] [] h = tt
still_stored types' c d g base now b o e frame' (k ∷ ks) (q ∷ qs) (v ∷ vs) h =
    let one = h.0 in
    let other : q.0 ≡ b → ⊥ = λ same. one.is_free.free o (ap base same ∙ e) in (
      record {
        is_free = one.is_free;
        held = without_else now b q.0 other ∙ one.held;
        in_slot = one.in_slot;
        in_type = one.in_type;
        holds = λ cells f. objects_grow c d g (holding_cells q.1.ty cells) q.1 (one.holds cells f);
      },
      still_stored types' c d g (held_with base q.0 q.1) now b o (held_else base q.0 q.1 b (λ same. other (sym same)) ∙ e) frame' ks qs vs h.1,
    )
still_stored types' c d g base now b o e frame' [] [] (v ∷ vs) h = absurd h
still_stored types' c d g base now b o e frame' [] (q ∷ qs) vs h = absurd h
still_stored types' c d g base now b o e frame' (k ∷ ks) [] vs h = absurd h
still_stored types' c d g base now b o e frame' (k ∷ ks) (q ∷ qs) [] h = absurd h

-- the objects that stand for those of the parameters, which have ended
abbrev pub AllLeft : Correspondence → Memory → List (ℕ × Object) → Type 0
AllLeft c m [] = ⊤
AllLeft c m (q ∷ qs) = IsLeft c m q.0 × AllLeft c m qs

left_after : (c : Correspondence) (m : Memory) (k b : ℕ) → IsLeft c m b → IsLeft c (with_ended m k) b
left_after c m k b h = record { object = h.object; stands = h.stands; dead = dead_ended m k h.object h.dead }

all_left_after : (c : Correspondence) (m : Memory) (k : ℕ) (qs : List (ℕ × Object)) → AllLeft c m qs → AllLeft c (with_ended m k) qs
all_left_after c m k [] h = tt
all_left_after c m k (q ∷ qs) h = (left_after c m k q.0 h.0, all_left_after c m k qs h.1)

pub record EnterEnd (first_cut : Bool) (held : HeldAside) (into : Into) (ts us : List ℕ) (qs : List (ℕ × Object)) (c : Correspondence) (x : Ending) (s : State) (y : Ending) (s' : State) : Type 0 where
  pub copied : CopyEnd first_cut held into ts us c x s y s'
  pub left : AllLeft c s.memory qs

answered_left : (first_cut : Bool) (held : HeldAside) (into : Into) (ts us : List ℕ) (c : Correspondence) (k b : ℕ) → c k ≡ Some b → (x : Ending) (s s' : State) → Answered first_cut held into ts us c x s s' →
    Answered first_cut held into ts us c x (record s { memory = with_ended s.memory k }) s'
answered_left first_cut held into ts us c k b e x s s' (fell _ _ now aside st) =
    fell _ _ now aside (record { memories = left_ended now c s.memory s'.memory st.memories k b e; inputs = st.inputs; temporary_objects = st.temporary_objects })
answered_left first_cut held into ts us c k b e x s s' (returned _ _ v now aside put st) =
    returned _ _ v now aside put (record { memories = left_ended now c s.memory s'.memory st.memories k b e; inputs = st.inputs; temporary_objects = st.temporary_objects })

-- ---- one parameter of the original

module _ (p : PlainProgram) (later : Job → Piece Ending) (body : PlainItems) (frame : Frame) (j : ℕ) (v : Value) (vs : List Value) (t : PlainType) (e : slice_get frame.types j ≡ Some t) (s : State) where
  abbrev made_in : Memory
  made_in = with_new s.memory (fresh t unwritten)

  abbrev pub entered_with : Cells → State
  entered_with cells = record s { memory = with_object made_in s.memory.made (holding_cells t cells) }

  abbrev follows : Value → State → Outcome Ending
  follows written = enter p later (with_slot frame j s.memory.made) (suc j) vs body >>= (λ ending. end_object p s.memory.made ending)

  begun : enter p later frame j (v ∷ vs) body s ≡ after [] (after [] (followed_by (write_to p (at s.memory.made []) v (record s { memory = made_in })) follows))
  begun = ap (λ o. followed_by (given o s) (λ t. make p t unwritten >>= (λ object. write_to p (at object []) v >>= (λ written. enter p later (with_slot frame j object) (suc j) vs body >>= (λ ending. end_object p object ending))))) e

  fresh_there : made_in.object s.memory.made ≡ fresh t unwritten
  fresh_there = cond-true (eqb s.memory.made s.memory.made) (fresh t unwritten) (s.memory.object s.memory.made) (eq-eqb s.memory.made s.memory.made refl)

  pub entered : (cells : Cells) → cells_with unwritten [] v ≡ Some cells →
      enter p later frame j (v ∷ vs) body s ≡ followed_by (enter p later (with_slot frame j s.memory.made) (suc j) vs body (entered_with cells)) (end_object p s.memory.made)
  entered cells h =
      begun ∙ (after_nothing _ ∙ (after_nothing _ ∙
      (ap (λ o. followed_by o follows) (write_fresh p (record s { memory = made_in }) s.memory.made t fresh_there v cells h) ∙ after_nothing _)))

  pub not_entered : cells_with unwritten [] v ≡ None → enter p later frame j (v ∷ vs) body s ≡ Fails []
  not_entered h =
      begun ∙ (after_nothing _ ∙ (after_nothing _ ∙
      ap (λ now. followed_by (after [] (followed_by (given now (record s { memory = made_in })) (λ now. set_memory now >>= (λ done. give v)))) follows) not_written))
    where
      not_written : written_at p.structs made_in (at s.memory.made []) v ≡ None
      not_written =
          subst (λ o. (if is_there p.structs o [] && o.writable then option_map (λ cells. with_object made_in s.memory.made (record o { cells = cells })) (cells_with o.cells [] v) else None) ≡ None)
          (sym fresh_there) (ap (option_map (λ cells. with_object made_in s.memory.made (record (fresh t unwritten) { cells = cells }))) h)

  pub there_now : (cells : Cells) → (entered_with cells).memory.object s.memory.made ≡ holding_cells t cells
  there_now cells = cond-true (eqb s.memory.made s.memory.made) (holding_cells t cells) (made_in.object s.memory.made) (eq-eqb s.memory.made s.memory.made refl)

  pub as_before : (cells : Cells) (i : ℕ) → (i ≡ s.memory.made → ⊥) → (entered_with cells).memory.object i ≡ s.memory.object i
  as_before cells i differ =
      cond-false (eqb i s.memory.made) (holding_cells t cells) (made_in.object i) (ne_eqb i s.memory.made differ) ∙
      cond-false (eqb i s.memory.made) (fresh t unwritten) (s.memory.object i) (ne_eqb i s.memory.made differ)

not_given : (p : PlainProgram) (later : Job → Piece Ending) (body : PlainItems) (frame : Frame) (j : ℕ) (v : Value) (vs : List Value) → slice_get frame.types j ≡ None → (s : State) → enter p later frame j (v ∷ vs) body s ≡ Fails []
not_given p later body frame j v vs e s = ap (λ o. followed_by (given o s) (λ t. make p t unwritten >>= (λ object. write_to p (at object []) v >>= (λ written. enter p later (with_slot frame j object) (suc j) vs body >>= (λ ending. end_object p object ending))))) e

-- ---- slots of parameters

slot_in : (o : Option ℕ) (k : ℕ) → slot_use o ≡ direct k → o ≡ Some k
slot_in None k e = absurd (none-some _ (ap direct_of e))
slot_in (Some i) k e = ap Some (some_same (ap direct_of e))

abbrev is_other : Use → Bool
is_other (direct k) = false
is_other (through k) = true
is_other (elements k) = true
is_other unused = false

slot_alone : (o : Option ℕ) (u : Use) → is_other u ≡ true → slot_use o ≡ u → ⊥
slot_alone None u t e = true≢false (sym t ∙ ap is_other (sym e))
slot_alone (Some k) u t e = true≢false (sym t ∙ ap is_other (sym e))

pub not_among : (ks : List ℕ) (a : ℕ) → DifferFrom a ks → (i k : ℕ) → slice_get ks i ≡ Some k → k ≡ a → ⊥
not_among [] a h i k e = absurd (none-some _ e)
not_among (b ∷ ks) a h zero k e = λ same. h.0 (some_same e ∙ same)
not_among (b ∷ ks) a h (suc i) k e = not_among ks a h.1 i k e

one_slot : (ks : List ℕ) → AllDiffer ks → (i j k : ℕ) → slice_get ks i ≡ Some k → slice_get ks j ≡ Some k → i ≡ j
one_slot [] d i j k e f = absurd (none-some _ e)
one_slot (a ∷ ks) d zero zero k e f = refl
one_slot (a ∷ ks) d zero (suc j) k e f = absurd (not_among ks a d.0 j k f (sym (some_same e)))
one_slot (a ∷ ks) d (suc i) zero k e f = absurd (not_among ks a d.0 i k e (sym (some_same f)))
one_slot (a ∷ ks) d (suc i) (suc j) k e f = ap suc (one_slot ks d.1 i j k e f)

pub distinct_in : (ks : List ℕ) → AllDiffer ks → AreDistinct (parameters_in ks)
distinct_in ks d = record {
  one = λ i j k e f. one_slot ks d i j k (slot_in (slice_get ks i) k e) (slot_in (slice_get ks j) k f);
  no_parameter = λ i j k e f. slot_alone (slice_get ks j) (through k) refl f;
  no_array = λ i j k e f. slot_alone (slice_get ks j) (elements k) refl f;
}

-- ---- the body

module _ (p p' : PlainProgram) (functions : ℕ → Option ℕ) (arity : ℕ → ℕ) (first : Correspondence) (Stands : Replacement) (alike : AlikePrograms p p' functions arity first Stands) (first_cut : Bool)
    (later later' : Job → Piece Ending) (laters : LaterRelated p p' functions arity first Stands alike first_cut later later')
    (types types' : List PlainType) (result : Option ℕ) (held : HeldAside) (into : Into) (ts us : List ℕ) (is_free : (q : ℕ × PlainType) → into ≡ Some q → IsFree held q.0)
    (slots : List ℕ) (differ : AllDiffer slots) (same_types : (j k : ℕ) → slice_get slots j ≡ Some k → WhereGiven ◌≡◌ (slice_get types j) (slice_get types' k))
    (body body' : PlainItems) (copied : Copied p p' functions arity first types types' result (parameters_in slots) body body')
    (frame' : Frame) (those_types : frame'.types ≡ types') where
  -- the parameters below j have objects that stand for each other
  abbrev Below : Correspondence → Frame → ℕ → Type 0
  Below c frame j = (i k : ℕ) → i < j → slice_get slots i ≡ Some k → BothGiven (λ a b. c a ≡ Some b) (frame.objects i) (frame'.objects k)

  abbrev IsFresh : HeldAside → Type 0
  IsFresh now = (q : ℕ × PlainType) → into ≡ Some q → now q.0 ≡ Some (fresh q.1 unwritten)

  both_grown : (c d : Correspondence) → Grown c d → (x y : Option ℕ) → BothGiven (λ a b. c a ≡ Some b) x y → BothGiven (λ a b. d a ≡ Some b) x y
  both_grown c d g (Some a) (Some b) h = g.keeps a b h
  both_grown c d g None None h = absurd h
  both_grown c d g None (Some b) h = absurd h
  both_grown c d g (Some a) None h = absurd h

  inside : (frame : Frame) → frame.types ≡ types → (c : Correspondence) (now : HeldAside) → Below c frame (length slots) → RelatedFrames types types' (parameters_in slots) now c frame frame'
  inside frame these c now h = record {
    these_types = these;
    those_types = those_types;
    direct_objects = λ j k e. let f = slot_in (slice_get slots j) k e in h j k (has_place slots j k f) f;
    passed_objects = λ j k e. absurd (slot_alone (slice_get slots j) (through k) refl e);
    passed_arrays = λ j k e. absurd (slot_alone (slice_get slots j) (elements k) refl e);
  } where
    has_place : (ks : List ℕ) (i k : ℕ) → slice_get ks i ≡ Some k → i < length ks
    has_place [] i k e = absurd (none-some _ e)
    has_place (a ∷ ks) zero k e = omega arith
    has_place (a ∷ ks) (suc i) k e = let less : i < length ks = has_place ks i k e in omega (arith, less)

  one_more : (c d : Correspondence) → Grown c d → (frame : Frame) (j a b k : ℕ) → d a ≡ Some b → slice_get slots j ≡ Some k → frame'.objects k ≡ Some b → Below c frame j → Below d (with_slot frame j a) (suc j)
  one_more c d g frame j a b k ab e there h i l less f = by_case (cases_eq i j) where
    by_case : (i ≡ j) ⊎ (i ≡ j → ⊥) → BothGiven (λ a b. d a ≡ Some b) ((with_slot frame j a).objects i) (frame'.objects l)
    by_case (inl same) =
        subst (λ x. BothGiven (λ a b. d a ≡ Some b) x (frame'.objects l)) (sym (cond-true (eqb i j) (Some a) (frame.objects i) (eq-eqb i j same)))
        (subst (λ y. BothGiven (λ a b. d a ≡ Some b) (Some a) y) (sym (ap frame'.objects (some_same (sym f ∙ (ap (slice_get slots) same ∙ e))) ∙ there)) ab)
    by_case (inr other) =
        subst (λ x. BothGiven (λ a b. d a ≡ Some b) x (frame'.objects l)) (sym (cond-false (eqb i j) (Some a) (frame.objects i) (ne_eqb i j other)))
        (both_grown c d g (frame.objects i) (frame'.objects l) (h i l (omega (arith, less, other)) f))

  module _ (result_there : (k : ℕ) → result ≡ Some k → (q : ℕ × PlainType) × (into ≡ Some q) × (frame'.objects k ≡ Some q.0)) where
    abbrev End : List (ℕ × Object) → Correspondence → Ending → State → Ending → State → Type 0
    End qs c x s y s' = EnterEnd first_cut held into ts us qs c x s y s'

    abbrev Further : List ℕ → List (ℕ × Object) → List Value → ℕ → Type 0
    Further ks qs vs j = ((i : ℕ) → slice_get ks i ≡ slice_get slots (j + i)) → j + length ks ≡ length slots →
        (frame : Frame) → frame.types ≡ types → (c : Correspondence) → Grown first c → Below c frame j → (base now : HeldAside) → Keeps held base → IsFresh base → IsAside held into now → IsFresh now →
        Stored types' c base now frame' ks qs vs → (s s' : State) → Related (statement_setting first_cut now ts us) c s s' →
        Outcomes first_cut (End qs) c (enter p later frame j vs body s) (items_ending p' later' frame' body' s')

    enter_one : (k : ℕ) (ks : List ℕ) (q : ℕ × Object) (qs : List (ℕ × Object)) (v : Value) (vs : List Value) (j : ℕ) → ((i : ℕ) → slice_get (k ∷ ks) i ≡ slice_get slots (j + i)) → j + length (k ∷ ks) ≡ length slots →
        (frame : Frame) → frame.types ≡ types → (c : Correspondence) → Grown first c → Below c frame j → (base now : HeldAside) → Keeps held base → IsFresh base → IsAside held into now → IsFresh now →
        Stored types' c base now frame' (k ∷ ks) (q ∷ qs) (v ∷ vs) → Further ks qs vs (suc j) → (s s' : State) → Related (statement_setting first_cut now ts us) c s s' →
        (t : PlainType) → slice_get frame.types j ≡ Some t → t ≡ q.1.ty →
        Outcomes first_cut (End (q ∷ qs)) c (enter p later frame j (v ∷ vs) body s) (items_ending p' later' frame' body' s')
    enter_one k ks q qs v vs j at_j n frame these c g below base now keeps base_fresh aside now_fresh stored next s s' st t e same =
        by_cells (cells_with unwritten [] v) refl
      where
        by_cells : (x : Option Cells) → cells_with unwritten [] v ≡ x → Outcomes first_cut (End (q ∷ qs)) c (enter p later frame j (v ∷ vs) body s) (items_ending p' later' frame' body' s')
        by_cells None h = subst (λ o. Outcomes first_cut (End (q ∷ qs)) c o (items_ending p' later' frame' body' s')) (sym (not_entered p later body frame j v vs t e s h)) tt
        by_cells (Some cells) h =
            let one = stored.0 in
            let made = s.memory.made in
            let d = with_mapped now c s.memory s'.memory st.memories q.0 q.1 one.held in
            let grown : Grown c d = grown_mapped now c s.memory s'.memory st.memories q.0 q.1 one.held in
            let mapped : d made ≡ Some q.0 = is_mapped now c s.memory s'.memory st.memories q.0 q.1 one.held in
            let s₂ : State = entered_with p later body frame j v vs t e s cells in
            let made_now : RelatedObjects d (s₂.memory.object made) q.1 =
            subst (λ o. RelatedObjects d o q.1) (sym (there_now p later body frame j v vs t e s cells))
            (subst (λ t. RelatedObjects d (holding_cells t cells) q.1) (sym same) (objects_grow c d grown (holding_cells q.1.ty cells) q.1 (one.holds cells h))) in
            let memories : RelatedMemories (without now q.0) d s₂.memory s'.memory =
            mapped_aside now c s.memory s'.memory st.memories q.0 q.1 one.held s₂.memory refl made_now (as_before p later body frame j v vs t e s cells) in
            let free : IsFree held q.0 = free_less held base keeps q.0 one.is_free in
            let other : (r : ℕ × PlainType) → into ≡ Some r → r.0 ≡ q.0 → ⊥ = λ r f eq. one.is_free.free (fresh r.1 unwritten) (ap base (sym eq) ∙ base_fresh r f) in
            let aside' : IsAside held into (without now q.0) = record { keeps = keeps_without held now q.0 free aside.keeps; holds_result = λ r f. (fresh r.1 unwritten, without_else now q.0 r.0 (other r f) ∙ now_fresh r f) } in
            let base' = held_with base q.0 q.1 in
            let inner = next (λ i. at_j (suc i) ∙ ap (slice_get slots) (plus_suc j i)) (omega (arith, n)) (with_slot frame j made) these d (grown_on g grown)
            (one_more c d grown frame j made q.0 k mapped (ap (slice_get slots) (plus_zero j) ∙ sym (at_j 0)) one.in_slot below) base' (without now q.0)
            (record { keeps = λ i o f. held_else base q.0 q.1 i (λ eq. free.free o (ap held (sym eq) ∙ f)) ∙ keeps.keeps i o f })
            (λ r f. held_else base q.0 q.1 r.0 (other r f) ∙ base_fresh r f) aside' (λ r f. without_else now q.0 r.0 (other r f) ∙ now_fresh r f)
            (still_stored types' c d grown base' now q.0 q.1 (held_here base q.0 q.1) frame' ks qs vs stored.1) s₂ s'
            (record { memories = memories; inputs = st.inputs; temporary_objects = st.temporary_objects }) in
            let o = enter p later (with_slot frame j made) (suc j) vs body s₂ in
            let o' = items_ending p' later' frame' body' s' in
            ends_back first_cut (End (q ∷ qs)) c d grown (enter p later frame j (v ∷ vs) body s) o'
            (subst (λ x. Outcomes first_cut (End (q ∷ qs)) d x o') (sym (entered p later body frame j v vs t e s cells h))
            (subst (λ y. Outcomes first_cut (End (q ∷ qs)) d (followed_by o (end_object p made)) y) (followed_give o')
            (ends_followed first_cut (End qs) (End (q ∷ qs)) d (end_object p made) give
            (λ e g₂ x y n n' end. (
              refl,
              record {
                now = e;
                grown = same_grown e;
                ends = record {
                  copied = record { falls_through = end.copied.falls_through; answered = answered_left first_cut held into ts us e made q.0 (g₂.keeps made q.0 mapped) x n n' end.copied.answered };
                  left = (record { object = made; stands = g₂.keeps made q.0 mapped; dead = ended_is_dead n.memory made }, all_left_after e n.memory made qs end.left);
                };
              },
            ))
            o o' inner)))
          where
            plus_zero : (j : ℕ) → j ≡ j + 0
            plus_zero j = omega arith

            plus_suc : (j i : ℕ) → j + suc i ≡ suc j + i
            plus_suc j i = omega arith

    pub enter_alike : (ks : List ℕ) (qs : List (ℕ × Object)) (vs : List Value) (j : ℕ) → Further ks qs vs j
    enter_alike [] [] [] j at_j n frame these c g below base now keeps base_fresh aside now_fresh stored s s' st =
        let all : j ≡ length slots = omega (arith, n) in
        by_copy (ends_also first_cut _ (λ x s. ⊤) c (items_ending p later frame body s) (items_ending p' later' frame' body' s') (λ x s out e. tt)
        (copied_alike p p' functions arity first Stands alike first_cut later later' laters types types' result held into ts us now aside now_fresh is_free (parameters_in slots) body body' copied (distinct_in slots differ) c g frame frame' (inside frame these c now (subst (Below c frame) all below)) result_there s s' st))
      where
        by_copy : Outcomes first_cut (λ d x s y s'. CopyEnd first_cut held into ts us d x s y s' × ⊤) c (items_ending p later frame body s) (items_ending p' later' frame' body' s') →
            Outcomes first_cut (End []) c (items_ending p later frame body s) (items_ending p' later' frame' body' s')
        by_copy h =
            subst (λ o. Outcomes first_cut (End []) c o (items_ending p' later' frame' body' s')) (followed_give (items_ending p later frame body s))
            (subst (λ o. Outcomes first_cut (End []) c (followed_by (items_ending p later frame body s) give) o) (followed_give (items_ending p' later' frame' body' s'))
            (ends_followed first_cut (λ d x s y s'. CopyEnd first_cut held into ts us d x s y s' × ⊤) (End []) c give give
            (λ d g x y s s' end. (refl, record { now = d; grown = same_grown d; ends = record { copied = end.0; left = tt } }))
            (items_ending p later frame body s) (items_ending p' later' frame' body' s') h))
    enter_alike (k ∷ ks) (q ∷ qs) (v ∷ vs) j at_j n frame these c g below base now keeps base_fresh aside now_fresh stored s s' st =
        by_type (λ t e same. enter_one k ks q qs v vs j at_j n frame these c g below base now keeps base_fresh aside now_fresh stored (λ at n f th d g b ba no ke bf a nf sd t t' st. enter_alike ks qs vs (suc j) at n f th d g b ba no ke bf a nf sd t t' st) s s' st t e same) (slice_get frame.types j) refl
      where
        by_type : ((t : PlainType) → slice_get frame.types j ≡ Some t → t ≡ q.1.ty → Outcomes first_cut (End (q ∷ qs)) c (enter p later frame j (v ∷ vs) body s) (items_ending p' later' frame' body' s')) →
            (x : Option PlainType) → slice_get frame.types j ≡ x → Outcomes first_cut (End (q ∷ qs)) c (enter p later frame j (v ∷ vs) body s) (items_ending p' later' frame' body' s')
        by_type next None e = subst (λ o. Outcomes first_cut (End (q ∷ qs)) c o (items_ending p' later' frame' body' s')) (sym (not_given p later body frame j v vs e s)) tt
        by_type next (Some t) e =
            next t e
            (same_in t (slice_get types' k) (subst (λ x. WhereGiven ◌≡◌ x (slice_get types' k)) (sym (ap (λ ty. slice_get ty j) these) ∙ e) (same_types j k (ap (slice_get slots) (plus_zero j) ∙ sym (at_j 0)))) (stored.0.in_type))
          where
            plus_zero : (j : ℕ) → j ≡ j + 0
            plus_zero j = omega arith

            same_in : (t : PlainType) (y : Option PlainType) → WhereGiven ◌≡◌ (Some t) y → y ≡ Some q.1.ty → t ≡ q.1.ty
            same_in t None h f = absurd h
            same_in t (Some u) h f = h ∙ some_same f
    enter_alike [] [] (v ∷ vs) j at_j n frame these c g below base now keeps base_fresh aside now_fresh stored s s' st = absurd stored
    enter_alike [] (q ∷ qs) vs j at_j n frame these c g below base now keeps base_fresh aside now_fresh stored s s' st = absurd stored
    enter_alike (k ∷ ks) [] vs j at_j n frame these c g below base now keeps base_fresh aside now_fresh stored s s' st = absurd stored
    enter_alike (k ∷ ks) (q ∷ qs) [] j at_j n frame these c g below base now keeps base_fresh aside now_fresh stored s s' st = absurd stored
