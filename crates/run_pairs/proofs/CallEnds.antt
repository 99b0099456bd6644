-- How a call whose value is used ends, and the block that stands for it.
use Rattle.std.proofs.Common.{◌≡◌, ℕ, Bool, true, false, List, [], ◌∷◌, refl, sym, ◌∙◌, ap, subst, Option, Some, None, option_map}
use Rattle.std.proofs.lemmas.Option.{none-some}
use Rattle.std.proofs.lemmas.Bool.{true≢false}
use Rattle.c_types.specs.Types.{PlainType}
use Rattle.core_meaning.specs.declared.integers.IntegerType.{IntegerType}
use Rattle.core_meaning.specs.Program.{read, assign, call, slot, PlainPlace, PlainArguments, PlainPart, evaluate, return_value, PlainItems, no_item, statement_item, PlainProgram}
use Rattle.core_meaning.specs.Values.{Pointer, at, Value, nothing, scalar, whole}
use Rattle.core_meaning.specs.Memory.{Memory, zeros, with_object, with_all_ended, value_at}
use Rattle.core_meaning.specs.Outcomes.{State, Outcome, Comes, Piece, after, followed_by, ◌>>=◌, give, given, without_temporaries}
use Rattle.core_meaning.specs.Meaning.{as_value, used, cells_filled, Ending, falls, returns, Frame, Job, read_from, write_to, fill_missing, called, value_of, place_of, values_of, then_item, items_ending}
use Rattle.run_pairs.specs.Correspondences.{Correspondence, Grown, RelatedPointers, RelatedValues, HeldAside, RelatedMemories, Setting, Related, EndsAt, Outcomes, RelatedPieces, statement_setting, RelatedEndings}
use Rattle.run_pairs.specs.Alike.{Uses, direct, BothGiven, RelatedFrames, Selection, in_block, at_declaration}
use Rattle.run_pairs.specs.Inlining
use Rattle.run_pairs.specs.Inlining.{Fits, converted_by, SameUse}
use Rattle.run_pairs.proofs.MemoryPairs.{some_same, pointers_grow}
use Rattle.run_pairs.proofs.Pieces.{same_grown, grown_on, ends_followed, pieces_then, after_nothing, followed_twice, followed_same}
use Rattle.run_pairs.proofs.Operations.{used_related, write_related}
use Rattle.run_pairs.proofs.Statements.{selection_ending, IsDeclared}
use Rattle.run_pairs.proofs.Aside.{IsDead, still_dead, dead_all_ended}
use Rattle.run_pairs.proofs.Copies.{ends_also, Into, IsAside, IsPut}
use Rattle.run_pairs.proofs.Passing.{followed_four, whole_part, LeftAll, CallEnd}
use Rattle.run_pairs.proofs.ValueUses.{conversions, converted_value, conversions_related, no_value_used, read_put, Lands, lands_then, lands_at, lands_value, lands_conversions, KeepsDead, KeepsDeadAndLives, lands_written, lands_written_in, same_cells_left, filled_as_before, Variable, variable}

followed_three : {A B C D : Type 0} (o : Outcome A) (f : A → State → Outcome B) (g : B → State → Outcome C) (h : C → State → Outcome D) →
    followed_by (followed_by (followed_by o f) g) h ≡ followed_by o (λ x s. followed_by (followed_by (f x s) g) h)
followed_three o f g h = ap (λ o. followed_by o h) (followed_twice o f g) ∙ followed_twice o (λ x s. followed_by (f x s) g) h

pub left_all_to : (c d : Correspondence) → Grown c d → (m now : Memory) → ((j : ℕ) → IsDead (m.object j) → IsDead (now.object j)) → (bs : List ℕ) → LeftAll c m bs → LeftAll d now bs
left_all_to c d g m now k [] h = tt
left_all_to c d g m now k (b ∷ bs) h =
    (record { object = h.0.object; stands = g.keeps h.0.object b h.0.stands; dead = k h.0.object h.0.dead }, left_all_to c d g m now k bs h.1)

-- ---- the end of a full expression

-- a statement that is a full expression with a value, and how it ends
module _ (p : PlainProgram) (later : Job → Piece Ending) (ending : Value → Ending) (alone : (x : Value) (s : State) → then_item p later (ending x) (give falls) s ≡ Comes (ending x) s []) where
  abbrev pub finished : List ℕ → Outcome Value → Outcome Ending
  finished outer o =
      followed_by (followed_by (followed_by o (λ x now. Comes x (without_temporaries outer now) [])) (λ x. give (ending x))) (λ e. then_item p later e (give falls))

  pub finished_is : (outer : List ℕ) (o : Outcome Value) → finished outer o ≡ followed_by o (λ x now. Comes (ending x) (without_temporaries outer now) [])
  finished_is outer o =
      followed_three o (λ x now. Comes x (without_temporaries outer now) []) (λ x. give (ending x)) (λ e. then_item p later e (give falls)) ∙
      followed_same o _ _ (λ x now. after_nothing (then_item p later (ending x) (give falls) (without_temporaries outer now)) ∙ alone x (without_temporaries outer now))

abbrev is_nothing : Value → Bool
is_nothing nothing = true
is_nothing (scalar v) = false
is_nothing (whole cells) = false

falls_alone : (p : PlainProgram) (later : Job → Piece Ending) (x : Value) (s : State) → then_item p later falls (give falls) s ≡ Comes falls s []
falls_alone p later x s = refl

returns_alone : (p : PlainProgram) (later : Job → Piece Ending) (x : Value) (s : State) → then_item p later (returns x) (give falls) s ≡ Comes (returns x) s []
returns_alone p later x s = refl

module _ (p p' : PlainProgram) (functions : ℕ → Option ℕ) (arity : ℕ → ℕ) (first : Correspondence) (structs : p.structs ≡ p'.structs) (first_cut : Bool) (later later' : Job → Piece Ending)
    (types types' : List PlainType) (uses : Uses) (frame : Frame) (held : HeldAside) (into : Into) (ts us : List ℕ) (may_return : Bool) where
  abbrev End : List ℕ → Correspondence → Ending → State → Ending → State → Type 0
  End bs c x s y s' = CallEnd first_cut held into ts us may_return bs c x s y s'

  -- related values with no temporary object, and what has died before
  abbrev ValuesEnd : HeldAside → Memory → Correspondence → Value → State → Value → State → Type 0
  ValuesEnd now m c x s y s' = EndsAt (statement_setting first_cut now [] []) RelatedValues c x s y s' × KeepsDead m s

  no_temporaries : (now : HeldAside) (c : Correspondence) (m m' : Memory) (js ks : List ℕ) → js ≡ [] → ks ≡ [] → RelatedMemories now c m m' → RelatedMemories now c (with_all_ended m js) (with_all_ended m' ks)
  no_temporaries now c m m' js ks e e' h = subst (λ js. RelatedMemories now c (with_all_ended m js) (with_all_ended m' ks)) (sym e) (subst (λ ks. RelatedMemories now c m (with_all_ended m' ks)) (sym e') h)

  module _ (ending : Value → Ending) (alone : (x : Value) (s : State) → then_item p later (ending x) (give falls) s ≡ Comes (ending x) s []) (alone' : (x : Value) (s : State) → then_item p' later' (ending x) (give falls) s ≡ Comes (ending x) s [])
      (ends_alike : (c : Correspondence) (x y : Value) → RelatedValues c x y → RelatedEndings false may_return c (ending x) (ending y)) where
    pub both_finished : (now : HeldAside) → IsAside held into now → (m : Memory) (c : Correspondence) (bs : List ℕ) → LeftAll c m bs → (outer outer' : List ℕ) → outer ≡ ts → outer' ≡ us →
        (o o' : Outcome Value) → Outcomes first_cut (ValuesEnd now m) c o o' → Outcomes first_cut (End bs) c (finished p later ending alone outer o) (finished p' later' ending alone' outer' o')
    both_finished now aside m c bs left outer outer' e e' o o' h =
        subst (λ x. Outcomes first_cut (End bs) c x (finished p' later' ending alone' outer' o')) (sym (finished_is p later ending alone outer o))
        (subst (λ y. Outcomes first_cut (End bs) c (followed_by o (λ x now. Comes (ending x) (without_temporaries outer now) [])) y) (sym (finished_is p' later' ending alone' outer' o'))
        (ends_followed first_cut (ValuesEnd now m) (End bs) c (λ x now. Comes (ending x) (without_temporaries outer now) []) (λ x now. Comes (ending x) (without_temporaries outer' now) [])
        (λ d g x y n n' end. (
          refl,
          record {
            now = d;
            grown = same_grown d;
            ends = record {
              results = ends_alike d x y end.0.results;
              now = now;
              aside = aside;
              states = record {
                memories = no_temporaries now d n.memory n'.memory n.temporaries n'.temporaries end.0.states.temporary_objects.0 end.0.states.temporary_objects.1 end.0.states.memories;
                inputs = end.0.states.inputs;
                temporary_objects = (e, e');
              };
              left = left_all_to c d g m (with_all_ended n.memory n.temporaries) (λ j dead. dead_all_ended n.memory n.temporaries j (end.1 j dead)) bs left;
            };
          },
        ))
        o o' h))

  -- ---- values that are converted and used

  module _ (now : HeldAside) (c : Correspondence) (cs : List IntegerType) (v w : Value) (vw : RelatedValues c v w) (s s' : State) (st : Related (statement_setting first_cut now [] []) c s s') where
    abbrev apart : Setting
    apart = statement_setting first_cut now [] []

    used_pair : RelatedPieces apart RelatedValues c (conversions cs v >>= as_value) (conversions cs w >>= as_value)
    used_pair = used_related apart (conversions_related apart cs c v w vw)

    lands_used : Lands (KeepsDead s.memory) (followed_by (conversions cs v s) as_value)
    lands_used = lands_then (KeepsDead s.memory) (KeepsDead s.memory) (conversions cs v s) as_value (lands_conversions (KeepsDead s.memory) cs v s (λ j d. d)) (λ x n h. lands_value (KeepsDead s.memory) x n h)

    pub used_alike : Outcomes first_cut (ValuesEnd now s.memory) c (followed_by (conversions cs v s) as_value) (followed_by (conversions cs w s') as_value)
    used_alike = ends_also first_cut (λ d x s y s'. EndsAt apart RelatedValues d x s y s') (λ x n. KeepsDead s.memory n) c _ _ (λ x n out e. lands_at (KeepsDead s.memory) _ lands_used x n out e) (used_pair.in_states c (same_grown c) s s' st)

    pub written_alike : (q q' : Pointer) → RelatedPointers c q q' →
        Outcomes first_cut (ValuesEnd now s.memory) c (followed_by (followed_by (conversions cs v s) as_value) (write_to p q)) (followed_by (followed_by (conversions cs w s') as_value) (write_to p' q'))
    written_alike q q' e =
        ends_also first_cut (λ d x s y s'. EndsAt apart RelatedValues d x s y s') (λ x n. KeepsDead s.memory n) c _ _
        (λ x n out eq. lands_at (KeepsDead s.memory) _ (lands_then (KeepsDead s.memory) (KeepsDead s.memory) (followed_by (conversions cs v s) as_value) (write_to p q) lands_used (λ x n h. lands_written p s.memory q x n h)) x n out eq)
        ((pieces_then used_pair (λ d g x y r. write_related p p' structs apart d q q' (pointers_grow c d g q q' e) x y r)).in_states c (same_grown c) s s' st)

  -- ---- each use of a value

  -- the values of this type that the body may return
  abbrev pub FitsInto : Value → Type 0
  FitsInto v = (q : ℕ × PlainType) → into ≡ Some q → Fits q.1 v

  abbrev pub ResultAt : Option ℕ → Frame → Type 0
  ResultAt result inner = (k : ℕ) → result ≡ Some k → (q : ℕ × PlainType) × (into ≡ Some q) × (inner.objects k ≡ Some q.0)

  module _ (callee : ℕ) (es : PlainArguments) (result : Option ℕ) (d : Correspondence) (g : Grown first d) (s : State) where
    abbrev pub FollowedBy : (Value → State → Outcome Ending) → PlainItems → Type 0
    FollowedBy follows last = (v : Value) (c : Correspondence) → Grown d c → (now : HeldAside) → IsAside held into now → IsPut into now c v → FitsInto v → (h : HeldAside) (inner : Frame) → RelatedFrames types types' uses h c frame inner → ResultAt result inner →
        (bs : List ℕ) (n n' : State) → Related (statement_setting first_cut now [] us) c n n' → LeftAll c n.memory bs →
        Outcomes first_cut (End bs) c (follows v n) (items_ending p' later' inner last n')

    -- what is selected is the arguments, the call and what follows it
    pub record Usage (object : ℕ) (t : PlainType) (selection : Selection) (last : PlainItems) : Type 0 where
      pub follows : Value → State → Outcome Ending
      pub original : selection_ending p later frame object t selection s ≡ followed_by (values_of p later frame es (record s { temporaries = [] })) (λ vs now. followed_by (called p later callee vs now) follows)
      pub follow_alike : FollowedBy follows last

    abbrev value_now : Outcome Value
    value_now = followed_by (values_of p later frame es (record s { temporaries = [] })) (called p later callee)

    after_call : (all : Outcome Ending) (follows : Value → State → Outcome Ending) → all ≡ followed_by value_now follows →
        all ≡ followed_by (values_of p later frame es (record s { temporaries = [] })) (λ vs now. followed_by (called p later callee vs now) follows)
    after_call all follows e = e ∙ followed_twice (values_of p later frame es (record s { temporaries = [] })) (called p later callee) follows

    -- what the result does with the object for the value
    module _ (k : ℕ) (cs : List IntegerType) (inner : Frame) (q : ℕ × PlainType) (there : inner.objects k ≡ Some q.0) (n : State) (w : Value) (value : value_at p'.structs n.memory (at q.0 []) ≡ Some w) where
      read_now : value_of p' later' inner (converted_by cs (read (slot k))) n ≡ conversions cs w n
      read_now =
          converted_value p' later' inner cs (read (slot k)) n ∙
          (ap (λ o. followed_by (followed_by (given (option_map (λ object. at object []) o) n) (read_from p')) (conversions cs)) there ∙
          (ap (λ o. followed_by (after [] (after [] (given o n))) (conversions cs)) value ∙ after_nothing (conversions cs w n)))

      assigned_now : (b : PlainPlace) (q' : Pointer) → place_of p' later' inner b n ≡ Comes q' n [] →
          value_of p' later' inner (assign b (converted_by cs (read (slot k)))) n ≡ followed_by (followed_by (conversions cs w n) as_value) (write_to p' q')
      assigned_now b q' e =
          ap (λ o. followed_by o (λ q. used (value_of p' later' inner (converted_by cs (read (slot k)))) >>= write_to p' q)) e ∙
          (after_nothing (followed_by (followed_by (value_of p' later' inner (converted_by cs (read (slot k))) n) as_value) (write_to p' q')) ∙
          ap (λ o. followed_by (followed_by o as_value) (write_to p' q')) read_now)

    -- f(a);
    not_used : s.temporaries ≡ ts → (object : ℕ) (t : PlainType) → Usage object t (in_block (evaluate (call callee es) ∷ [])) no_item
    not_used e object t = record {
      follows = λ v now. Comes falls (without_temporaries s.temporaries now) [];
      original = after_call _ (λ v now. Comes falls (without_temporaries s.temporaries now) []) (finished_is p later (λ x. falls) (falls_alone p later) s.temporaries value_now);
      follow_alike = λ v c grown now aside put fits h inner fr there bs n n' st left. (
        refl,
        record {
          now = c;
          grown = same_grown c;
          ends = record {
            results = tt;
            now = now;
            aside = aside;
            states = record {
              memories = subst (λ js. RelatedMemories now c (with_all_ended n.memory js) n'.memory) (sym st.temporary_objects.0) st.memories;
              inputs = st.inputs;
              temporary_objects = (e, st.temporary_objects.1);
            };
            left = left_all_to c c (same_grown c) n.memory (with_all_ended n.memory n.temporaries) (λ j dead. dead_all_ended n.memory n.temporaries j dead) bs left;
          };
        },
      );
    }

    -- a state inside the full expression of the result
    inside_it : (now : HeldAside) (c : Correspondence) (n n' : State) → Related (statement_setting first_cut now [] us) c n n' → Related (statement_setting first_cut now [] []) c n (record n' { temporaries = [] })
    inside_it now c n n' st = record { memories = st.memories; inputs = st.inputs; temporary_objects = (st.temporary_objects.0, refl) }

    -- x = f(a);
    module _ (k : ℕ) (cs : List IntegerType) (a b : PlainPlace) (same : Variable p p' functions arity first later later' types types' uses frame d a b) where
      abbrev q : Pointer
      q = same.place

      abbrev end_assigned : Outcome Value → Outcome Ending
      end_assigned o = finished p later (λ x. falls) (falls_alone p later) s.temporaries o

      abbrev assigns : Value → State → Outcome Ending
      assigns v now = end_assigned (followed_by (followed_by (conversions cs v now) as_value) (write_to p q))

      all_moved : (o : Outcome Value) → end_assigned (followed_by (followed_by (followed_by o (conversions cs)) as_value) (write_to p q)) ≡ followed_by o assigns
      all_moved o =
          ap end_assigned (followed_three o (conversions cs) as_value (write_to p q)) ∙
          followed_four o (λ v now. followed_by (followed_by (conversions cs v now) as_value) (write_to p q)) (λ x now. Comes x (without_temporaries s.temporaries now) []) (λ x. give falls) (λ e. then_item p later e (give falls))

      with_value : s.temporaries ≡ ts → (v : Value) → (v ≡ nothing → ⊥) → (c : Correspondence) → Grown d c → (now : HeldAside) → IsAside held into now → IsPut into now c v → FitsInto v → (h : HeldAside) (inner : Frame) → RelatedFrames types types' uses h c frame inner →
          (r : ℕ × PlainType) → into ≡ Some r → inner.objects k ≡ Some r.0 → (bs : List ℕ) (n n' : State) → Related (statement_setting first_cut now [] us) c n n' → LeftAll c n.memory bs →
          Outcomes first_cut (End bs) c (assigns v n) (items_ending p' later' inner (statement_item (evaluate (assign b (converted_by cs (read (slot k))))) no_item) n')
      with_value e v some c grown now aside put fits h inner fr r f there bs n n' st left =
          let value = read_put p'.structs n'.memory now into c v some put fits (λ b o e. st.memories.holds b o e) r f in
          let to = same.stands c grown h inner fr in
          let n₀ : State = record n' { temporaries = [] } in
          subst (λ o. Outcomes first_cut (End bs) c (assigns v n) (finished p' later' (λ x. falls) (falls_alone p' later') n'.temporaries o)) (sym (assigned_now k cs inner r there n₀ value.0 value.1 b to.0 (to.1 n₀)))
          (both_finished (λ x. falls) (falls_alone p later) (falls_alone p' later') (λ c x y h. tt) now aside n.memory c bs left s.temporaries n'.temporaries e st.temporary_objects.1 _ _
          (written_alike now c cs v value.0 value.2 n n₀ (inside_it now c n n' st) q to.0 to.2))

      without_value : (n : State) (o : Outcome Ending) (bs : List ℕ) (c : Correspondence) → Outcomes first_cut (End bs) c (assigns nothing n) o
      without_value n o bs c = subst (λ x. Outcomes first_cut (End bs) c x o) (sym (ap (λ o. end_assigned (followed_by o (write_to p q))) (no_value_used cs n))) tt

      by_value : s.temporaries ≡ ts → result ≡ Some k → FollowedBy assigns (statement_item (evaluate (assign b (converted_by cs (read (slot k))))) no_item)
      by_value e is nothing c grown now aside put fits h inner fr there bs n n' st left = without_value n _ bs c
      by_value e is (scalar x) c grown now aside put fits h inner fr there bs n n' st left =
          let r = there k is in with_value e (scalar x) (λ eq. true≢false (sym (ap is_nothing eq))) c grown now aside put fits h inner fr r.0 r.1 r.2 bs n n' st left
      by_value e is (whole x) c grown now aside put fits h inner fr there bs n n' st left =
          let r = there k is in with_value e (whole x) (λ eq. true≢false (sym (ap is_nothing eq))) c grown now aside put fits h inner fr r.0 r.1 r.2 bs n n' st left

      assigned : s.temporaries ≡ ts → result ≡ Some k → (object : ℕ) (t : PlainType) →
          Usage object t (in_block (evaluate (assign a (converted_by cs (call callee es))) ∷ [])) (statement_item (evaluate (assign b (converted_by cs (read (slot k))))) no_item)
      assigned e is object t = record {
        follows = assigns;
        original = after_call _ assigns (
            ap (λ o. end_assigned (followed_by o (λ q. used (value_of p later frame (converted_by cs (call callee es))) >>= write_to p q))) (same.is_place (record s { temporaries = [] })) ∙
            (ap end_assigned (after_nothing (followed_by (followed_by (value_of p later frame (converted_by cs (call callee es)) (record s { temporaries = [] })) as_value) (write_to p q)) ∙
            ap (λ o. followed_by (followed_by o as_value) (write_to p q)) (converted_value p later frame cs (call callee es) (record s { temporaries = [] }))) ∙
            all_moved value_now));
        follow_alike = by_value e is;
      }

    -- return f(a);
    module _ (k : ℕ) (cs : List IntegerType) (returning : may_return ≡ true) where
      abbrev end_returned : Outcome Value → Outcome Ending
      end_returned o = finished p later returns (returns_alone p later) s.temporaries o

      abbrev returns_it : Value → State → Outcome Ending
      returns_it v now = end_returned (followed_by (conversions cs v now) as_value)

      return_moved : (o : Outcome Value) → end_returned (followed_by (followed_by o (conversions cs)) as_value) ≡ followed_by o returns_it
      return_moved o =
          ap end_returned (followed_twice o (conversions cs) as_value) ∙
          followed_four o (λ v now. followed_by (conversions cs v now) as_value) (λ x now. Comes x (without_temporaries s.temporaries now) []) (λ x. give (returns x)) (λ e. then_item p later e (give falls))

      return_value_of : s.temporaries ≡ ts → (v : Value) → (v ≡ nothing → ⊥) → (c : Correspondence) (now : HeldAside) → IsAside held into now → IsPut into now c v → FitsInto v → (inner : Frame) →
          (r : ℕ × PlainType) → into ≡ Some r → inner.objects k ≡ Some r.0 → (bs : List ℕ) (n n' : State) → Related (statement_setting first_cut now [] us) c n n' → LeftAll c n.memory bs →
          Outcomes first_cut (End bs) c (returns_it v n) (items_ending p' later' inner (statement_item (return_value (converted_by cs (read (slot k)))) no_item) n')
      return_value_of e v some c now aside put fits inner r f there bs n n' st left =
          let value = read_put p'.structs n'.memory now into c v some put fits (λ b o e. st.memories.holds b o e) r f in
          let n₀ : State = record n' { temporaries = [] } in
          subst (λ o. Outcomes first_cut (End bs) c (returns_it v n) (finished p' later' returns (returns_alone p' later') n'.temporaries (followed_by o as_value))) (sym (read_now k cs inner r there n₀ value.0 value.1))
          (both_finished returns (returns_alone p later) (returns_alone p' later') (λ c x y h. (returning, h)) now aside n.memory c bs left s.temporaries n'.temporaries e st.temporary_objects.1 _ _
          (used_alike now c cs v value.0 value.2 n n₀ (inside_it now c n n' st)))

      return_nothing_of : (n : State) (o : Outcome Ending) (bs : List ℕ) (c : Correspondence) → Outcomes first_cut (End bs) c (returns_it nothing n) o
      return_nothing_of n o bs c = subst (λ x. Outcomes first_cut (End bs) c x o) (sym (ap end_returned (no_value_used cs n))) tt

      return_by_value : s.temporaries ≡ ts → result ≡ Some k → FollowedBy returns_it (statement_item (return_value (converted_by cs (read (slot k)))) no_item)
      return_by_value e is nothing c grown now aside put fits h inner fr there bs n n' st left = return_nothing_of n _ bs c
      return_by_value e is (scalar x) c grown now aside put fits h inner fr there bs n n' st left =
          let r = there k is in return_value_of e (scalar x) (λ eq. true≢false (sym (ap is_nothing eq))) c now aside put fits inner r.0 r.1 r.2 bs n n' st left
      return_by_value e is (whole x) c grown now aside put fits h inner fr there bs n n' st left =
          let r = there k is in return_value_of e (whole x) (λ eq. true≢false (sym (ap is_nothing eq))) c now aside put fits inner r.0 r.1 r.2 bs n n' st left

      returned : s.temporaries ≡ ts → result ≡ Some k → (object : ℕ) (t : PlainType) →
          Usage object t (in_block (return_value (converted_by cs (call callee es)) ∷ [])) (statement_item (return_value (converted_by cs (read (slot k)))) no_item)
      returned e is object t = record {
        follows = returns_it;
        original = after_call _ returns_it (
            ap (λ o. end_returned (followed_by o as_value)) (converted_value p later frame cs (call callee es) (record s { temporaries = [] })) ∙
            return_moved value_now);
        follow_alike = return_by_value e is;
      }

    -- T x = f(a);
    module _ (k : ℕ) (cs : List IntegerType) (i j : ℕ) (stands_in : uses i ≡ direct j) (object : ℕ) (is_declared : frame.objects i ≡ Some object) (t : PlainType) where
      abbrev part : List PlainPart
      part = whole_part (converted_by cs (call callee es))

      abbrev expression_ends : Value → State → Outcome Value
      expression_ends x now = Comes x (without_temporaries s.temporaries now) []

      abbrev writes : Value → State → Outcome (Unit {0})
      writes v = write_to p (at object []) v >>= (λ written. give tt)

      abbrev fills : Unit {0} → State → Outcome (Unit {0})
      fills written = fill_missing p object t part

      abbrev falls_then : Unit {0} → State → Outcome Ending
      falls_then done = give falls

      abbrev filled_state : State → State
      filled_state now = record now { memory = with_object now.memory object (record (now.memory.object object) { cells = cells_filled part (zeros p.structs t) (now.memory.object object).cells }) }

      abbrev declares : Value → State → Outcome Ending
      declares v now = followed_by (followed_by (followed_by (followed_by (followed_by (conversions cs v now) as_value) expression_ends) writes) fills) falls_then

      declare_moved : (o : Outcome Value) → followed_by (followed_by (followed_by (followed_by (followed_by (followed_by o (conversions cs)) as_value) expression_ends) writes) fills) falls_then ≡ followed_by o declares
      declare_moved o =
          ap (λ o. followed_by (followed_by (followed_by o writes) fills) falls_then) (followed_three o (conversions cs) as_value expression_ends) ∙
          followed_four o (λ v now. followed_by (followed_by (conversions cs v now) as_value) expression_ends) writes fills falls_then

      -- once the value is there
      abbrev puts : Value → State → Outcome Ending
      puts x now = followed_by (write_to p (at object []) x (without_temporaries s.temporaries now)) (λ z now. Comes falls (filled_state now) [])

      puts_is : (o : Outcome Value) → followed_by (followed_by (followed_by (followed_by o expression_ends) writes) fills) falls_then ≡ followed_by o puts
      puts_is o =
          followed_four o expression_ends writes fills falls_then ∙
          followed_same o _ _ (λ x now.
          ap (λ o. followed_by (followed_by o fills) falls_then) (after_nothing (writes x (without_temporaries s.temporaries now))) ∙
          followed_three (write_to p (at object []) x (without_temporaries s.temporaries now)) (λ written. give tt) fills falls_then)

      both_there : (c : Correspondence) (inner : Frame) (x y : Option ℕ) → BothGiven (λ a b. c a ≡ Some b) x y → x ≡ Some object → (b : ℕ) × (y ≡ Some b) × (c object ≡ Some b)
      both_there c inner (Some a) (Some b) h e = (b, refl, ap c (sym (some_same e)) ∙ h)
      both_there c inner None y h e = absurd (none-some _ e)
      both_there c inner (Some a) None h e = absurd h

      left_still : (c e : Correspondence) → Grown c e → (m : Memory) (now : State) → KeepsDeadAndLives m object now → (bs : List ℕ) → LeftAll c m bs → LeftAll e (filled_state now).memory bs
      left_still c e g m now h bs left =
          left_all_to c e g m (filled_state now).memory (λ l dead. still_dead now.memory object l _ (λ eq. true≢false (sym h.1 ∙ (ap (λ i. (now.memory.object i).lives) (sym eq) ∙ (h.0 l dead).ended))) (h.0 l dead)) bs left

      put_alike : s.temporaries ≡ ts → (c e : Correspondence) → Grown c e → (now : HeldAside) → IsAside held into now → (b : ℕ) → c object ≡ Some b → (m : Memory) (bs : List ℕ) → LeftAll c m bs → (outer' : List ℕ) → outer' ≡ us →
          (x y : Value) (n n' : State) → ValuesEnd now m e x n y n' →
          Outcomes first_cut (End bs) e (puts x n) (followed_by (write_to p' (at b []) y n') (λ z now. Comes falls (without_temporaries outer' now) []))
      put_alike et c e g now aside b mapped m bs left outer' eu x y n n' end =
          let n₁ : State = without_temporaries s.temporaries n in
          let around : Setting = statement_setting first_cut now ts [] in
          let st₁ : Related around e n₁ n' = record {
            memories = subst (λ js. RelatedMemories now e (with_all_ended n.memory js) n'.memory) (sym end.0.states.temporary_objects.0) end.0.states.memories;
            inputs = end.0.states.inputs;
            temporary_objects = (et, end.0.states.temporary_objects.1);
          } in
          ends_followed first_cut (λ d x s y s'. EndsAt around RelatedValues d x s y s' × KeepsDeadAndLives m object s) (End bs) e (λ z now. Comes falls (filled_state now) []) (λ z now. Comes falls (without_temporaries outer' now) [])
          (λ d g₂ z z' o o' last. (
            refl,
            record {
              now = d;
              grown = same_grown d;
              ends = record {
                results = tt;
                now = now;
                aside = aside;
                states = record {
                  memories = subst (λ ks. RelatedMemories now d (filled_state o).memory (with_all_ended o'.memory ks)) (sym last.0.states.temporary_objects.1)
                      (same_cells_left now d o.memory o'.memory last.0.states.memories object _ (filled_as_before p.structs t (converted_by cs (call callee es)) (o.memory.object object).cells));
                  inputs = last.0.states.inputs;
                  temporary_objects = (last.0.states.temporary_objects.0, eu);
                };
                left = left_still c d (grown_on g g₂) m o last.1 bs left;
              };
            },
          ))
          (write_to p (at object []) x n₁) (write_to p' (at b []) y n')
          (ends_also first_cut (λ d x s y s'. EndsAt around RelatedValues d x s y s') (λ x o. KeepsDeadAndLives m object o) e _ _
          (λ z o out eq. lands_at (KeepsDeadAndLives m object) _ (lands_written_in p m object x n₁ (λ l dead. dead_all_ended n.memory n.temporaries l (end.1 l dead))) z o out eq)
          ((write_related p p' structs around e (at object []) (at b []) (g.keeps object b mapped, refl) x y end.0.results).in_states e (same_grown e) n₁ n' st₁))

      declare_value : s.temporaries ≡ ts → (v : Value) → (v ≡ nothing → ⊥) → (c : Correspondence) → (now : HeldAside) → IsAside held into now → IsPut into now c v → FitsInto v → (h : HeldAside) (inner : Frame) → RelatedFrames types types' uses h c frame inner →
          (r : ℕ × PlainType) → into ≡ Some r → inner.objects k ≡ Some r.0 → (bs : List ℕ) (n n' : State) → Related (statement_setting first_cut now [] us) c n n' → LeftAll c n.memory bs →
          Outcomes first_cut (End bs) c (declares v n) (items_ending p' later' inner (statement_item (evaluate (assign (slot j) (converted_by cs (read (slot k))))) no_item) n')
      declare_value et v some c now aside put fits h inner fr r f there bs n n' st left =
          let value = read_put p'.structs n'.memory now into c v some put fits (λ b o e. st.memories.holds b o e) r f in
          let to = both_there c inner (frame.objects i) (inner.objects j) (fr.direct_objects i j stands_in) is_declared in
          let n₀ : State = record n' { temporaries = [] } in
          let o = followed_by (conversions cs v n) as_value in
          let o' = followed_by (conversions cs value.0 n₀) as_value in
          let result : items_ending p' later' inner (statement_item (evaluate (assign (slot j) (converted_by cs (read (slot k))))) no_item) n' ≡ followed_by o' (λ y m'. followed_by (write_to p' (at to.0 []) y m') (λ z now. Comes falls (without_temporaries n'.temporaries now) [])) =
          ap (finished p' later' (λ x. falls) (falls_alone p' later') n'.temporaries) (assigned_now k cs inner r there n₀ value.0 value.1 (slot j) (at to.0 []) (ap (λ x. given (option_map (λ object. at object []) x) n₀) to.1)) ∙
          (finished_is p' later' (λ x. falls) (falls_alone p' later') n'.temporaries (followed_by o' (write_to p' (at to.0 []))) ∙
          followed_twice o' (write_to p' (at to.0 [])) (λ z now. Comes falls (without_temporaries n'.temporaries now) [])) in
          subst (λ y. Outcomes first_cut (End bs) c (declares v n) y) (sym result)
          (subst (λ x. Outcomes first_cut (End bs) c x (followed_by o' (λ y m'. followed_by (write_to p' (at to.0 []) y m') (λ z now. Comes falls (without_temporaries n'.temporaries now) [])))) (sym (puts_is o))
          (ends_followed first_cut (ValuesEnd now n.memory) (End bs) c puts (λ y m'. followed_by (write_to p' (at to.0 []) y m') (λ z now. Comes falls (without_temporaries n'.temporaries now) []))
          (λ d₂ g₂ x y m m' end. put_alike et c d₂ g₂ now aside to.0 to.2 n.memory bs left n'.temporaries st.temporary_objects.1 x y m m' end)
          o o' (used_alike now c cs v value.0 value.2 n n₀ (inside_it now c n n' st))))

      declare_nothing : (n : State) (o : Outcome Ending) (bs : List ℕ) (c : Correspondence) → Outcomes first_cut (End bs) c (declares nothing n) o
      declare_nothing n o bs c = subst (λ x. Outcomes first_cut (End bs) c x o) (sym (ap (λ o. followed_by (followed_by (followed_by (followed_by o expression_ends) writes) fills) falls_then) (no_value_used cs n))) tt

      declare_by_value : s.temporaries ≡ ts → result ≡ Some k → FollowedBy declares (statement_item (evaluate (assign (slot j) (converted_by cs (read (slot k))))) no_item)
      declare_by_value e is nothing c grown now aside put fits h inner fr there bs n n' st left = declare_nothing n _ bs c
      declare_by_value e is (scalar x) c grown now aside put fits h inner fr there bs n n' st left =
          let r = there k is in declare_value e (scalar x) (λ eq. true≢false (sym (ap is_nothing eq))) c now aside put fits h inner fr r.0 r.1 r.2 bs n n' st left
      declare_by_value e is (whole x) c grown now aside put fits h inner fr there bs n n' st left =
          let r = there k is in declare_value e (whole x) (λ eq. true≢false (sym (ap is_nothing eq))) c now aside put fits h inner fr r.0 r.1 r.2 bs n n' st left

      declared : s.temporaries ≡ ts → result ≡ Some k →
          Usage object t (at_declaration i part) (statement_item (evaluate (assign (slot j) (converted_by cs (read (slot k))))) no_item)
      declared e is = record {
        follows = declares;
        original = after_call _ declares (
            ap (λ o. followed_by (followed_by (followed_by (followed_by (followed_by o as_value) expression_ends) writes) fills) falls_then) (converted_value p later frame cs (call callee es) (record s { temporaries = [] })) ∙
            declare_moved value_now);
        follow_alike = declare_by_value e is;
      }

    -- ---- all of them

    pub used_in : s.temporaries ≡ ts → (h₀ : HeldAside) (frame₀ : Frame) → RelatedFrames types types' uses h₀ d frame frame₀ → (into_slot : Option ℕ) → result ≡ into_slot → (selection : Selection) (last : PlainItems) →
        SameUse p p' functions arity first types types' (call callee es) uses may_return into_slot selection last → (object : ℕ) (t : PlainType) → IsDeclared frame object selection → Usage object t selection last
    used_in e h₀ frame₀ fr _ eq _ _ (Inlining.not_used _) object t is = not_used e object t
    used_in e h₀ frame₀ fr _ eq _ _ (Inlining.assigned k cs a b same) object t is = assigned k cs a b (variable p p' functions arity first later later' types types' uses frame d g h₀ frame₀ fr a b same) e eq object t
    used_in e h₀ frame₀ fr _ eq _ _ (Inlining.declared k cs i j stands) object t is = declared k cs i j stands object is t e eq
    used_in e h₀ frame₀ fr _ eq _ _ (Inlining.returned k cs returning) object t is = returned k cs returning e eq object t
