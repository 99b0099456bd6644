-- Built-in functions, full expressions and temporary objects.
use Rattle.std.proofs.Common.{◌≡◌, ℕ, zero, suc, ◌-◌, Bool, true, false, ℤ, pos, List, [], ◌∷◌, ◌++◌, refl, sym, ap, subst, Option, Some, None}
use Rattle.c_types.specs.Types.{PlainType, unsigned_char}
use Rattle.c_types.specs.Arithmetic.{bits_of}
use Rattle.core_meaning.specs.declared.program.BuiltIn.{BuiltIn}
use Rattle.core_meaning.specs.declared.program.BuiltIn.TheVariants.{Putchar, Getchar, Puts, Exit}
use Rattle.core_meaning.specs.Program.{PlainProgram}
use Rattle.core_meaning.specs.Values.{Pointer, at, number, Value, scalar, Stand, element_path}
use Rattle.core_meaning.specs.Memory.{Memory, with_all_ended, with_ended, value_at, stand_in}
use Rattle.core_meaning.specs.Outcomes.{State, Outcome, Comes, ◌>>=◌, give, put_out, full, without_temporaries}
use Rattle.core_meaning.specs.Meaning.{temporary_with, byte_of, until_zero, text_from, text_in, text_at, next_byte, called_built_in, Ending, falls, breaks, continues, returns, call_value}
use Rattle.run_pairs.specs.Correspondences.{Correspondence, Grown, WhereGiven, RelatedPointers, RelatedValues, HeldAside, RelatedMemories, Setting, Related, RelatedOutcomes, RelatedPieces, RelatedValueLists, RelatedLists, lists_grow, expression_setting, statement_setting, RelatedEndings}
use Rattle.run_pairs.proofs.Pieces.{same_grown, outcomes_to, outcomes_followed, pieces_then, pieces_give, pieces_asked_then}
use Rattle.run_pairs.proofs.MemoryPairs.{values_grow, where_given_mapped, related_with_ended, value_at_related}
use Rattle.run_pairs.proofs.Operations.{PointerPair, nulls, ats, numbers, pointers, ValuePair, nothings, scalars, wholes, value_pair, pieces_undefined, Same, stands, make_related, write_related, pair_grow}

pub data ListPair (c : Correspondence) : List Value → List Value → Type 0 where
  none : ListPair c [] []
  also : (v w : Value) (vs ws : List Value) → ValuePair c v w → ListPair c vs ws → ListPair c (v ∷ vs) (w ∷ ws)

pub list_pair : (c : Correspondence) (vs ws : List Value) → RelatedValueLists c vs ws → ListPair c vs ws
list_pair c [] [] h = none
list_pair c (v ∷ vs) (w ∷ ws) h = also v w vs ws (value_pair c v w h.0) (list_pair c vs ws h.1)
list_pair c [] (w ∷ ws) h = absurd h
list_pair c (v ∷ vs) [] h = absurd h

pub value_lists_grow : (c d : Correspondence) → Grown c d → (vs ws : List Value) → RelatedValueLists c vs ws → RelatedValueLists d vs ws
value_lists_grow c d g [] [] h = tt
value_lists_grow c d g (v ∷ vs) (w ∷ ws) h = (values_grow c d g v w h.0, value_lists_grow c d g vs ws h.1)
value_lists_grow c d g [] (w ∷ ws) h = absurd h
value_lists_grow c d g (v ∷ vs) [] h = absurd h

-- ---- texts

module _ (p p' : PlainProgram) (structs : p.structs ≡ p'.structs) where
  byte_pair : (c : Correspondence) (v w : Value) → ValuePair c v w → WhereGiven ◌≡◌ (byte_of p (Some v)) (byte_of p' (Some w))
  byte_pair c v w nothings = tt
  byte_pair c v w (scalars _ _ (numbers z)) = refl
  byte_pair c v w (scalars _ _ (pointers q r h)) = tt
  byte_pair c v w (wholes a b h) = tt

  same_byte : (c : Correspondence) (x y : Option Value) → WhereGiven (RelatedValues c) x y → WhereGiven ◌≡◌ (byte_of p x) (byte_of p' y)
  same_byte c None y h = tt
  same_byte c (Some v) None h = absurd h
  same_byte c (Some v) (Some w) h = byte_pair c v w (value_pair c v w h)

  same_until : (x y : Option ℕ) (r r' : Option (List ℕ)) → WhereGiven ◌≡◌ x y → WhereGiven ◌≡◌ r r' → WhereGiven ◌≡◌ (until_zero p x r) (until_zero p' y r')
  same_until None y r r' h k = tt
  same_until (Some b) None r r' h k = absurd h
  same_until (Some zero) (Some b) r r' h k = subst (λ b. WhereGiven ◌≡◌ (Some []) (until_zero p' (Some b) r')) h refl
  same_until (Some (suc b)) (Some b') r r' h k =
      subst (λ b'. WhereGiven ◌≡◌ (until_zero p (Some (suc b)) r) (until_zero p' (Some b') r')) h
      (where_given_mapped ◌≡◌ ◌≡◌ (λ bytes. suc b ∷ bytes) (λ bytes. suc b ∷ bytes) (λ x y e. ap (λ bytes. suc b ∷ bytes) e) r r' k)

  module _ (held : HeldAside) (c : Correspondence) (m m' : Memory) (mem : RelatedMemories held c m m') where
    texts_from : (j k : ℕ) (e : c j ≡ Some k) (stand : Stand) (left index : ℕ) → WhereGiven ◌≡◌ (text_from p m j stand left index) (text_from p' m' k stand left index)
    texts_from j k e stand zero index = tt
    texts_from j k e stand (suc left) index =
        same_until (byte_of p (value_at p.structs m (at j (element_path stand index)))) (byte_of p' (value_at p'.structs m' (at k (element_path stand index))))
        (text_from p m j stand left (suc index)) (text_from p' m' k stand left (suc index))
        (same_byte c (value_at p.structs m (at j (element_path stand index))) (value_at p'.structs m' (at k (element_path stand index)))
        (subst (λ ss. WhereGiven (RelatedValues c) (value_at p.structs m (at j (element_path stand index))) (value_at ss m' (at k (element_path stand index)))) structs
        (value_at_related p.structs held c m m' mem (at j (element_path stand index)) (at k (element_path stand index)) (e, refl))))
        (texts_from j k e stand left (suc index))

    texts_at : (q q' : Pointer) → PointerPair c q q' → WhereGiven ◌≡◌ (text_at p m q) (text_at p' m' q')
    texts_at q q' nulls = tt
    texts_at q q' (ats j k path e) =
        subst (λ ss. WhereGiven ◌≡◌ (text_in p m j (stand_in p.structs m j path)) (text_in p' m' k (stand_in ss m' k path))) structs
        (subst (λ stand. WhereGiven ◌≡◌ (text_in p m j (stand_in p.structs m j path)) (text_in p' m' k stand)) (stands p.structs held c m m' mem j k path e)
        (texts_from j k e (stand_in p.structs m j path) ((stand_in p.structs m j path).count - (stand_in p.structs m j path).index) (stand_in p.structs m j path).index))

  module _ (w : Setting) where
    put_then : (c : Correspondence) (bytes bytes' : List ℕ) → bytes ≡ bytes' → (z : ℤ) → RelatedPieces w RelatedValues c (put_out bytes >>= (λ done. give (scalar (number z)))) (put_out bytes' >>= (λ done. give (scalar (number z))))
    put_then c bytes bytes' e z = record { in_states = λ d g s s' st. (ap (λ o. o ++ []) e, record { now = d; grown = same_grown d; ends = record { results = refl; states = st } }) }

    next_outcome : (d : Correspondence) (i : List ℕ) (s s' : State) → Related w d s s' → RelatedOutcomes w RelatedValues d (next_byte p i s) (next_byte p' i s')
    next_outcome d [] s s' st = (refl, record { now = d; grown = same_grown d; ends = record { results = refl; states = st } })
    next_outcome d (b ∷ rest) s s' st =
        (refl, record { now = d; grown = same_grown d; ends = record { results = refl; states = record { memories = st.memories; inputs = refl; temporary_objects = st.temporary_objects } } })

    built_in_pair : (c : Correspondence) (b : BuiltIn) (vs ws : List Value) → ListPair c vs ws → RelatedPieces w RelatedValues c (called_built_in p b vs) (called_built_in p' b ws)
    built_in_pair c Putchar vs ws (also _ _ _ _ (scalars _ _ (numbers z)) none) =
        put_then c (bits_of unsigned_char z ∷ []) (bits_of unsigned_char z ∷ []) refl (pos (bits_of unsigned_char z))
    built_in_pair c Getchar vs ws none = record {
      in_states = λ d g s s' st.
          subst (λ i. RelatedOutcomes w RelatedValues d (next_byte p s.input s) (next_byte p' i s')) st.inputs (next_outcome d s.input s s' st);
    }
    built_in_pair c Puts vs ws (also _ _ _ _ (scalars _ _ (pointers q q' h)) none) =
        pieces_asked_then {R = Same} (λ m. text_at p m q) (λ m. text_at p' m q') _ _
        (λ d g m m' mem. texts_at w.held d m m' mem q q' (pair_grow c d g q q' h))
        (λ d g text text' e. put_then d (text ++ 10 ∷ []) (text' ++ 10 ∷ []) (ap (λ t. t ++ 10 ∷ []) e) (pos 0))
    built_in_pair c Exit vs ws (also _ _ _ _ (scalars _ _ (numbers z)) none) = record { in_states = λ d g s s' st. (refl, refl) }
    built_in_pair c b vs ws h = pieces_undefined _

    pub built_in_related : (c : Correspondence) (b : BuiltIn) (vs ws : List Value) → RelatedValueLists c vs ws → RelatedPieces w RelatedValues c (called_built_in p b vs) (called_built_in p' b ws)
    built_in_related c b vs ws h = built_in_pair c b vs ws (list_pair c vs ws h)

    pub call_value_related : (c : Correspondence) (x y : Ending) → RelatedEndings false true c x y → RelatedPieces w RelatedValues c (call_value p x) (call_value p' y)
    call_value_related c falls falls h = pieces_give (λ d g. tt)
    call_value_related c (returns v) (returns v') h = pieces_give (λ d g. values_grow c d g v v' h.1)
    call_value_related c falls breaks h = absurd h
    call_value_related c falls continues h = absurd h
    call_value_related c falls (returns v') h = absurd h
    call_value_related c (returns v) falls h = absurd h
    call_value_related c (returns v) breaks h = absurd h
    call_value_related c (returns v) continues h = absurd h
    call_value_related c breaks y h = pieces_undefined _
    call_value_related c continues y h = pieces_undefined _

  module _ (first_cut : Bool) (held : HeldAside) where
    abbrev inside : Setting
    inside = expression_setting first_cut held

    pushed : (c : Correspondence) (j k : ℕ) → c j ≡ Some k → RelatedPieces inside RelatedPointers c (λ s. Comes (at j []) (record s { temporaries = j ∷ s.temporaries }) []) (λ s. Comes (at k []) (record s { temporaries = k ∷ s.temporaries }) [])
    pushed c j k e = record {
      in_states = λ d g s s' st.
          let e' : d j ≡ Some k = g.keeps j k e in
          let st' : Related inside d (record s { temporaries = j ∷ s.temporaries }) (record s' { temporaries = k ∷ s'.temporaries }) = record { memories = st.memories; inputs = st.inputs; temporary_objects = (e', st.temporary_objects) } in
          (refl, record { now = d; grown = same_grown d; ends = record { results = (e', refl); states = st' } });
    }

    -- a temporary object of a full expression
    pub temporary_related : (c : Correspondence) (t : PlainType) (v v' : Value) → RelatedValues c v v' → RelatedPieces inside RelatedPointers c (temporary_with p t v) (temporary_with p' t v')
    temporary_related c t v v' h =
        pieces_then (make_related p p' structs inside c t t refl) (λ d g j k e.
        pieces_then (write_related p p' structs inside d (at j []) (at k []) (e, refl) v v' (values_grow c d g v v' h)) (λ d' g' u u' r.
        pushed d' j k (g'.keeps j k e)))

    pub all_ended : (d : Correspondence) (ts us : List ℕ) (m m' : Memory) → RelatedLists d ts us → RelatedMemories held d m m' → RelatedMemories held d (with_all_ended m ts) (with_all_ended m' us)
    all_ended d [] [] m m' h r = r
    all_ended d (j ∷ ts) (k ∷ us) m m' h r = all_ended d ts us (with_ended m j) (with_ended m' k) h.1 (related_with_ended held d m m' r j k h.0)
    all_ended d [] (k ∷ us) m m' h r = absurd h
    all_ended d (j ∷ ts) [] m m' h r = absurd h

    -- a full expression among statements
    pub full_related : {A B : Type 0} (R : Correspondence → A → B → Type 0) (c : Correspondence) (ts us : List ℕ) (f : State → Outcome A) (g : State → Outcome B) →
        RelatedPieces inside R c f g → RelatedPieces (statement_setting first_cut held ts us) R c (full f) (full g)
    full_related R c ts us f g h = record {
      in_states = λ d grown s s' st.
          let around = statement_setting first_cut held ts us in
          outcomes_followed inside R R d around.held around.temps around.temps_grow
          (λ x now. Comes x (without_temporaries s.temporaries now) []) (λ x now. Comes x (without_temporaries s'.temporaries now) [])
          (λ e g' x y t t' r st'. (
            refl,
            record {
              now = e;
              grown = same_grown e;
              ends = record {
                results = r;
                states = record {
                  memories = all_ended e t.temporaries t'.temporaries t.memory t'.memory st'.temporary_objects st'.memories;
                  inputs = st'.inputs;
                  temporary_objects = st.temporary_objects;
                };
              };
            },
          ))
          (f (record s { temporaries = [] })) (g (record s' { temporaries = [] }))
          (h.in_states d grown (record s { temporaries = [] }) (record s' { temporaries = [] }) (record { memories = st.memories; inputs = st.inputs; temporary_objects = tt }));
    }

    -- what runs statements inside a full expression
    pub inside_related : {A B : Type 0} (R : Correspondence → A → B → Type 0) (c : Correspondence) (f : State → Outcome A) (g : State → Outcome B) →
        ((ts us : List ℕ) → RelatedPieces (statement_setting first_cut held ts us) R c f g) → RelatedPieces inside R c f g
    inside_related R c f g h = record {
      in_states = λ d grown s s' st.
          let around = statement_setting first_cut held s.temporaries s'.temporaries in
          outcomes_to around R d inside.held inside.temps inside.temps_grow R d (same_grown d) (f s) (g s')
          ((h s.temporaries s'.temporaries).in_states d grown s s' (record { memories = st.memories; inputs = st.inputs; temporary_objects = (refl, refl) }))
          (λ e g' x y t t' r st'. (
            r,
            record {
              memories = st'.memories;
              inputs = st'.inputs;
              temporary_objects =
                  subst (λ js. RelatedLists e js t'.temporaries) (sym st'.temporary_objects.0) (subst (λ ks. RelatedLists e s.temporaries ks) (sym st'.temporary_objects.1)
                  (lists_grow d e g' s.temporaries s'.temporaries st.temporary_objects));
            },
          ));
    }
