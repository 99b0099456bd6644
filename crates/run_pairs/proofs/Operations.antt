-- What pieces do with related memories.
use Rattle.std.proofs.Common.{◌≡◌, ℕ, true, ℤ, pos, ◌-ℤ◌, neg_ℤ, List, [], refl, sym, ◌∙◌, ap, subst, eqb, ◌&&◌, Option, Some, None, option_map, if◌then◌else◌}
use Rattle.std.proofs.lemmas.Bool.{and_parts, and_from}
use Rattle.c_types.specs.Types.{PlainType, long}
use Rattle.c_types.specs.Arithmetic.{binary_value}
use Rattle.c_types.specs.declared.arithmetic.BinaryOp.{BinaryOp}
use Rattle.c_types.specs.declared.arithmetic.BinaryOp.TheVariants.{Mul, Div, Rem, Add, Sub, Shl, Shr, Lt, Gt, Le, Ge, Eq, Ne, BitAnd, BitXor, BitOr}
use Rattle.core_meaning.specs.declared.integers.IntegerType.{IntegerType}
use Rattle.core_meaning.specs.declared.expressions.Operation.{Operation}
use Rattle.core_meaning.specs.declared.expressions.Operation.TheVariants as operation
use Rattle.core_meaning.specs.declared.expressions.Change.{Change}
use Rattle.core_meaning.specs.declared.expressions.Change.TheVariants as change
use Rattle.core_meaning.specs.Program.{PlainProgram, type_of}
use Rattle.core_meaning.specs.Values.{Path, Pointer, null, at, Scalar, number, pointer, Cells, Value, nothing, scalar, whole, is_true, same_path, same_pointer, stand_of, same_array, moved_path}
use Rattle.core_meaning.specs.Memory.{Memory, unwritten, fresh, value_at, written_at, stand_in, moved, are_together, distance, ordered, compared, defined_value, member_at, first_at}
use Rattle.core_meaning.specs.Outcomes.{State, Outcome, followed_by, ◌>>=◌, give, undefined, given, set_memory}
use Rattle.core_meaning.specs.Meaning.{as_value, as_scalar, as_pointer, used, scalar_from, pointer_from, truth_from, scalar_in_type, computed, read_from, write_to, make, end_object, move_by, operated, changed}
use Rattle.run_pairs.specs.Correspondences.{Correspondence, Grown, WhereGiven, RelatedPointers, RelatedScalars, RelatedCells, RelatedValues, HeldAside, RelatedMemories, Setting, Related, RelatedOutcomes, RelatedPieces}
use Rattle.run_pairs.proofs.Pieces.{same_grown, outcomes_after, pieces_then, pieces_give, pieces_given, pieces_asked}
use Rattle.run_pairs.proofs.MemoryPairs.{pointers_grow, scalars_grow, values_grow, where_given_mapped, where_given_if, same_test, with_pair, grown_new, is_new, related_with_new, related_with_ended, value_at_related, written_at_related}

-- ---- the same relations as families

pub data PointerPair (c : Correspondence) : Pointer → Pointer → Type 0 where
  nulls : PointerPair c null null
  ats : (j k : ℕ) (path : Path) → c j ≡ Some k → PointerPair c (at j path) (at k path)

pub data ScalarPair (c : Correspondence) : Scalar → Scalar → Type 0 where
  numbers : (z : ℤ) → ScalarPair c (number z) (number z)
  pointers : (p q : Pointer) → PointerPair c p q → ScalarPair c (pointer p) (pointer q)

pub data ValuePair (c : Correspondence) : Value → Value → Type 0 where
  nothings : ValuePair c nothing nothing
  scalars : (x y : Scalar) → ScalarPair c x y → ValuePair c (scalar x) (scalar y)
  wholes : (a b : Cells) → RelatedCells c a b → ValuePair c (whole a) (whole b)

pub pointer_pair : (c : Correspondence) (p q : Pointer) → RelatedPointers c p q → PointerPair c p q
pointer_pair c null null h = nulls
pointer_pair c null (at k q) h = absurd h
pointer_pair c (at j p) null h = absurd h
pointer_pair c (at j p) (at k q) h = subst (λ q. PointerPair c (at j p) (at k q)) h.1 (ats j k p h.0)

pub scalar_pair : (c : Correspondence) (x y : Scalar) → RelatedScalars c x y → ScalarPair c x y
scalar_pair c (number x) (number y) h = subst (λ y. ScalarPair c (number x) (number y)) h (numbers x)
scalar_pair c (pointer p) (pointer q) h = pointers p q (pointer_pair c p q h)
scalar_pair c (number x) (pointer q) h = absurd h
scalar_pair c (pointer p) (number y) h = absurd h

pub pointer_back : (c : Correspondence) (p q : Pointer) → PointerPair c p q → RelatedPointers c p q
pointer_back c p q nulls = tt
pointer_back c p q (ats j k path e) = (e, refl)

pub scalar_back : (c : Correspondence) (x y : Scalar) → ScalarPair c x y → RelatedScalars c x y
scalar_back c x y (numbers z) = refl
scalar_back c x y (pointers p q h) = pointer_back c p q h

pub value_pair : (c : Correspondence) (v w : Value) → RelatedValues c v w → ValuePair c v w
value_pair c nothing nothing h = nothings
value_pair c nothing (scalar y) h = absurd h
value_pair c nothing (whole b) h = absurd h
value_pair c (scalar x) (scalar y) h = scalars x y (scalar_pair c x y h)
value_pair c (scalar x) nothing h = absurd h
value_pair c (scalar x) (whole b) h = absurd h
value_pair c (whole a) (whole b) h = wholes a b h
value_pair c (whole a) nothing h = absurd h
value_pair c (whole a) (scalar y) h = absurd h

-- ---- the use of values

pub pieces_undefined : {A B : Type 0} {w : Setting} {R : Correspondence → A → B → Type 0} {c : Correspondence} (g : State → Outcome B) → RelatedPieces w R c undefined g
pieces_undefined g = record { in_states = λ d grown s s' st. tt }

abbrev pub Same : {A : Type 0} → Correspondence → A → A → Type 0
Same c x y = x ≡ y

module _ (w : Setting) where
  as_value_pair : (c : Correspondence) (v v' : Value) → ValuePair c v v' → RelatedValues c v v' → RelatedPieces w RelatedValues c (as_value v) (as_value v')
  as_value_pair c v v' nothings h = pieces_undefined _
  as_value_pair c v v' (scalars x y r) h = pieces_give (λ d g. scalars_grow c d g x y h)
  as_value_pair c v v' (wholes a b r) h = pieces_give (λ d g. values_grow c d g (whole a) (whole b) h)

  as_scalar_pair : (c : Correspondence) (v v' : Value) → ValuePair c v v' → RelatedPieces w RelatedScalars c (as_scalar v) (as_scalar v')
  as_scalar_pair c v v' nothings = pieces_undefined _
  as_scalar_pair c v v' (scalars x y r) = pieces_give (λ d g. scalars_grow c d g x y (scalar_back c x y r))
  as_scalar_pair c v v' (wholes a b r) = pieces_undefined _

  as_pointer_pair : (c : Correspondence) (v v' : Value) → ValuePair c v v' → RelatedPieces w RelatedPointers c (as_pointer v) (as_pointer v')
  as_pointer_pair c v v' nothings = pieces_undefined _
  as_pointer_pair c v v' (scalars _ _ (numbers z)) = pieces_undefined _
  as_pointer_pair c v v' (scalars _ _ (pointers p q r)) = pieces_give (λ d g. pointers_grow c d g p q (pointer_back c p q r))
  as_pointer_pair c v v' (wholes a b r) = pieces_undefined _

  pub used_related : {c : Correspondence} {f g : State → Outcome Value} → RelatedPieces w RelatedValues c f g → RelatedPieces w RelatedValues c (used f) (used g)
  used_related h = pieces_then h (λ d grown v v' r. as_value_pair d v v' (value_pair d v v' r) r)

  pub scalar_from_related : {c : Correspondence} {f g : State → Outcome Value} → RelatedPieces w RelatedValues c f g → RelatedPieces w RelatedScalars c (scalar_from f) (scalar_from g)
  scalar_from_related h = pieces_then h (λ d grown v v' r. as_scalar_pair d v v' (value_pair d v v' r))

  pub pointer_from_related : {c : Correspondence} {f g : State → Outcome Value} → RelatedPieces w RelatedValues c f g → RelatedPieces w RelatedPointers c (pointer_from f) (pointer_from g)
  pointer_from_related h = pieces_then h (λ d grown v v' r. as_pointer_pair d v v' (value_pair d v v' r))

  same_truth : (c : Correspondence) (x y : Scalar) → ScalarPair c x y → is_true x ≡ is_true y
  same_truth c x y (numbers z) = refl
  same_truth c x y (pointers _ _ nulls) = refl
  same_truth c x y (pointers _ _ (ats j k path e)) = refl

  pub truth_from_related : {c : Correspondence} {f g : State → Outcome Value} → RelatedPieces w RelatedValues c f g → RelatedPieces w Same c (truth_from f) (truth_from g)
  truth_from_related h = pieces_then (scalar_from_related h) (λ d grown x y r. pieces_give (λ e g. same_truth d x y (scalar_pair d x y r)))

  in_type_pair : (c : Correspondence) (t : IntegerType) (x y : Scalar) → ScalarPair c x y → RelatedPieces w RelatedScalars c (scalar_in_type t x) (scalar_in_type t y)
  in_type_pair c t x y (numbers z) = pieces_give (λ d g. refl)
  in_type_pair c t x y (pointers p q r) = pieces_undefined _

  pub in_type_related : (c : Correspondence) (t : IntegerType) (x y : Scalar) → RelatedScalars c x y → RelatedPieces w RelatedScalars c (scalar_in_type t x) (scalar_in_type t y)
  in_type_related c t x y r = in_type_pair c t x y (scalar_pair c x y r)

-- ---- pure operations on pointers

where_given_same : {A : Type 0} (x : Option A) → WhereGiven ◌≡◌ x x
where_given_same None = tt
where_given_same (Some x) = refl

pub where_given_map : {A X Y : Type 0} (Q : X → Y → Type 0) (f : A → X) (g : A → Y) (x : Option A) → ((a : A) → Q (f a) (g a)) → WhereGiven Q (option_map f x) (option_map g x)
where_given_map Q f g None h = tt
where_given_map Q f g (Some x) h = h x

pub first_related : (c : Correspondence) (p q : Pointer) → PointerPair c p q → WhereGiven (RelatedPointers c) (first_at p) (first_at q)
first_related c p q nulls = tt
first_related c p q (ats j k path e) = (e, refl)

module _ (structs : List (List PlainType)) (held : HeldAside) (c : Correspondence) (m m' : Memory) (r : RelatedMemories held c m m') where
  pub member_related : (p q : Pointer) (n : ℕ) → PointerPair c p q → WhereGiven (RelatedPointers c) (member_at m p n) (member_at m' q n)
  member_related p q n nulls = tt
  member_related p q n (ats j k path e) =
      where_given_if (RelatedPointers c) (m.object j).lives (m'.object k).lives _ _ ((r.objects j k e).live) (λ t. (e, refl))

  pub stands : (j k : ℕ) (path : Path) → c j ≡ Some k → stand_in structs m j path ≡ stand_in structs m' k path
  stands j k path e = ap (λ ty. stand_of structs ty path) ((r.objects j k e).same_type)

  pub moved_related : (p q : Pointer) (by : ℤ) → PointerPair c p q → WhereGiven (RelatedPointers c) (moved structs m p by) (moved structs m' q by)
  moved_related p q by nulls = tt
  moved_related p q by (ats j k path e) =
      where_given_if (RelatedPointers c) (m.object j).lives (m'.object k).lives _ _ ((r.objects j k e).live)
      (λ t. subst (λ stand. WhereGiven (RelatedPointers c) (option_map (at j) (moved_path (stand_in structs m j path) by)) (option_map (at k) (moved_path stand by))) (stands j k path e)
      (where_given_map (RelatedPointers c) (at j) (at k) (moved_path (stand_in structs m j path) by) (λ there. (e, refl))))

  -- where the original's pointers are together, the result's are
  together : (i j i' j' : ℕ) (p q : Path) → c i ≡ Some i' → c j ≡ Some j' → are_together structs m i p j q ≡ true → are_together structs m' i' p j' q ≡ true
  together i j i' j' p q e f t =
      let a = and_parts (eqb i j && (m.object i).lives) (same_array (stand_in structs m i p) (stand_in structs m j q)) t in
      let b = and_parts (eqb i j) (m.object i).lives a.0 in
      and_from (eqb i' j' && (m'.object i').lives) (same_array (stand_in structs m' i' p) (stand_in structs m' j' q))
      (and_from (eqb i' j') (m'.object i').lives (sym (same_test held c m m' r i j i' j' e f) ∙ b.0) ((r.objects i i' e).live b.1))
      (subst (λ x. same_array x (stand_in structs m' j' q) ≡ true) (stands i i' p e) (subst (λ x. same_array (stand_in structs m i p) x ≡ true) (stands j j' q f) a.1))

  pub distance_related : (p p' q q' : Pointer) → PointerPair c p p' → PointerPair c q q' → WhereGiven ◌≡◌ (distance structs m p q) (distance structs m' p' q')
  distance_related p p' q q' nulls k = tt
  distance_related p p' q q' (ats i i' path e) nulls = tt
  distance_related p p' q q' (ats i i' path e) (ats j j' path' f) =
      where_given_if ◌≡◌ (are_together structs m i path j path') (are_together structs m' i' path j' path') _ _ (together i j i' j' path path' e f)
      (λ t. ap (λ x. pos x.index -ℤ pos (stand_in structs m j path').index) (stands i i' path e) ∙ ap (λ x. pos (stand_in structs m' i' path).index -ℤ pos x.index) (stands j j' path' f))

  ordered_related : (op : BinaryOp) (p p' q q' : Pointer) → PointerPair c p p' → PointerPair c q q' → WhereGiven ◌≡◌ (ordered structs op m p q) (ordered structs op m' p' q')
  ordered_related op p p' q q' nulls k = tt
  ordered_related op p p' q q' (ats i i' path e) nulls = tt
  ordered_related op p p' q q' (ats i i' path e) (ats j j' path' f) =
      where_given_if ◌≡◌ (are_together structs m i path j path') (are_together structs m' i' path j' path') _ _ (together i j i' j' path path' e f)
      (λ t. subst (λ x. WhereGiven ◌≡◌ (defined_value (binary_value op long (pos (stand_in structs m i path).index) (pos (stand_in structs m j path').index))) (defined_value (binary_value op long (pos x.index) (pos (stand_in structs m' j' path').index)))) (stands i i' path e)
      (subst (λ x. WhereGiven ◌≡◌ (defined_value (binary_value op long (pos (stand_in structs m i path).index) (pos (stand_in structs m j path').index))) (defined_value (binary_value op long (pos (stand_in structs m i path).index) (pos x.index)))) (stands j j' path' f)
      (where_given_same (defined_value (binary_value op long (pos (stand_in structs m i path).index) (pos (stand_in structs m j path').index))))))

  same_pointers : (p p' q q' : Pointer) → PointerPair c p p' → PointerPair c q q' → same_pointer p q ≡ same_pointer p' q'
  same_pointers p p' q q' nulls nulls = refl
  same_pointers p p' q q' nulls (ats j j' path' f) = refl
  same_pointers p p' q q' (ats i i' path e) nulls = refl
  same_pointers p p' q q' (ats i i' path e) (ats j j' path' f) = ap (λ b. b && same_path path path') (same_test held c m m' r i j i' j' e f)

  pub compared_related : (op : BinaryOp) (p p' q q' : Pointer) → PointerPair c p p' → PointerPair c q q' → WhereGiven ◌≡◌ (compared structs op m p q) (compared structs op m' p' q')
  compared_related Eq p p' q q' h k = ap (λ b. if b then pos 1 else pos 0) (same_pointers p p' q q' h k)
  compared_related Ne p p' q q' h k = ap (λ b. if b then pos 0 else pos 1) (same_pointers p p' q q' h k)
  compared_related Mul p p' q q' h k = ordered_related Mul p p' q q' h k
  compared_related Div p p' q q' h k = ordered_related Div p p' q q' h k
  compared_related Rem p p' q q' h k = ordered_related Rem p p' q q' h k
  compared_related Add p p' q q' h k = ordered_related Add p p' q q' h k
  compared_related Sub p p' q q' h k = ordered_related Sub p p' q q' h k
  compared_related Shl p p' q q' h k = ordered_related Shl p p' q q' h k
  compared_related Shr p p' q q' h k = ordered_related Shr p p' q q' h k
  compared_related Lt p p' q q' h k = ordered_related Lt p p' q q' h k
  compared_related Gt p p' q q' h k = ordered_related Gt p p' q q' h k
  compared_related Le p p' q q' h k = ordered_related Le p p' q q' h k
  compared_related Ge p p' q q' h k = ordered_related Ge p p' q q' h k
  compared_related BitAnd p p' q q' h k = ordered_related BitAnd p p' q q' h k
  compared_related BitXor p p' q q' h k = ordered_related BitXor p p' q q' h k
  compared_related BitOr p p' q q' h k = ordered_related BitOr p p' q q' h k

pub pair_grow : (c d : Correspondence) → Grown c d → (p q : Pointer) → PointerPair c p q → PointerPair d p q
pair_grow c d g p q nulls = nulls
pair_grow c d g p q (ats j k path e) = ats j k path (g.keeps j k e)

-- ---- with two programs that have the same structs

module _ (p p' : PlainProgram) (structs : p.structs ≡ p'.structs) (w : Setting) where
  pub read_related : (c : Correspondence) (q q' : Pointer) → RelatedPointers c q q' → RelatedPieces w RelatedValues c (read_from p q) (read_from p' q')
  read_related c q q' h = pieces_asked (λ m. value_at p.structs m q) (λ m. value_at p'.structs m q') (λ d g m m' r.
      subst (λ ss. WhereGiven (RelatedValues d) (value_at p.structs m q) (value_at ss m' q')) structs
      (value_at_related p.structs w.held d m m' r q q' (pointers_grow c d g q q' h)))

  -- memory that is given, if it is, and a result
  write_outcome : (d : Correspondence) (s s' : State) → Related w d s s' → (v v' : Value) → RelatedValues d v v' → (x y : Option Memory) → WhereGiven (RelatedMemories w.held d) x y →
      RelatedOutcomes w RelatedValues d (followed_by (given x s) (λ now. set_memory now >>= (λ done. give v))) (followed_by (given y s') (λ now. set_memory now >>= (λ done. give v')))
  write_outcome d s s' st v v' k None y h = tt
  write_outcome d s s' st v v' k (Some n) None h = absurd h
  write_outcome d s s' st v v' k (Some n) (Some n') h =
      (refl, record { now = d; grown = same_grown d; ends = record { results = k; states = record { memories = h; inputs = st.inputs; temporary_objects = st.temporary_objects } } })

  pub write_related : (c : Correspondence) (q q' : Pointer) → RelatedPointers c q q' → (v v' : Value) → RelatedValues c v v' → RelatedPieces w RelatedValues c (write_to p q v) (write_to p' q' v')
  write_related c q q' h v v' k = record {
    in_states = λ d g s s' st.
        let k' : RelatedValues d v v' = values_grow c d g v v' k in
        outcomes_after w RelatedValues d [] _ _ (write_outcome d s s' st v v' k' (written_at p.structs s.memory q v) (written_at p'.structs s'.memory q' v')
        (subst (λ ss. WhereGiven (RelatedMemories w.held d) (written_at p.structs s.memory q v) (written_at ss s'.memory q' v')) structs
        (written_at_related p.structs w.held d s.memory s'.memory st.memories q q' (pointers_grow c d g q q' h) v v' k')));
  }

  abbrev pub Numbered : Correspondence → ℕ → ℕ → Type 0
  Numbered c k k' = c k ≡ Some k'

  pub make_related : (c : Correspondence) (t t' : PlainType) → t ≡ t' → RelatedPieces w Numbered c (make p t unwritten) (make p' t' unwritten)
  make_related c t t' same = record {
    in_states = λ d g s s' st.
        let m = s.memory in let m' = s'.memory in let r = st.memories in (
          refl,
          record {
            now = with_pair w.held d m m' r;
            grown = grown_new w.held d m m' r;
            ends = record {
              results = is_new w.held d m m' r;
              states = record {
                memories = related_with_new w.held d m m' r (fresh t unwritten) (fresh t' unwritten) (record { same_type = same; live = λ e. e; write = λ e. e; hold = record { at_path = λ path. tt } });
                inputs = st.inputs;
                temporary_objects = w.temps_grow d (with_pair w.held d m m' r) (grown_new w.held d m m' r) s.temporaries s'.temporaries st.temporary_objects;
              };
            };
          },
        );
  }

  pub end_related : {A B : Type 0} (R : Correspondence → A → B → Type 0) (c : Correspondence) (k k' : ℕ) → c k ≡ Some k' → (x : A) (y : B) → ((d : Correspondence) → Grown c d → R d x y) → RelatedPieces w R c (end_object p k x) (end_object p' k' y)
  end_related R c k k' e x y h = record {
    in_states = λ d g s s' st. (
      refl,
      record {
        now = d;
        grown = same_grown d;
        ends = record {
          results = h d g;
          states = record {
            memories = related_with_ended w.held d s.memory s'.memory st.memories k k' (g.keeps k k' e);
            inputs = st.inputs;
            temporary_objects = st.temporary_objects;
          };
        };
      },
    );
  }

  move_related : (c : Correspondence) (q q' : Pointer) (by : ℤ) → PointerPair c q q' → RelatedPieces w RelatedScalars c (move_by p q by) (move_by p' q' by)
  move_related c q q' by h = pieces_asked (λ m. option_map pointer (moved p.structs m q by)) (λ m. option_map pointer (moved p'.structs m q' by)) (λ d g m m' r.
      subst (λ ss. WhereGiven (RelatedScalars d) (option_map pointer (moved p.structs m q by)) (option_map pointer (moved ss m' q' by))) structs
      (where_given_mapped (RelatedPointers d) (RelatedScalars d) pointer pointer (λ x y e. e) (moved p.structs m q by) (moved p.structs m' q' by) (moved_related p.structs w.held d m m' r q q' by (pair_grow c d g q q' h))))

  operated_pair : (c : Correspondence) (op : Operation) (x x' y y' : Scalar) → ScalarPair c x x' → ScalarPair c y y' → RelatedPieces w RelatedScalars c (operated p op x y) (operated p' op x' y')
  operated_pair c (operation.Numbers op t) x x' y y' (numbers a) (numbers b) =
      pieces_given _ _ (λ d g. where_given_map (RelatedScalars d) number number (computed op (type_of t) a b) (λ z. refl))
  operated_pair c operation.Forward x x' y y' (pointers q q' h) (numbers b) = move_related c q q' b h
  operated_pair c operation.ForwardBy x x' y y' (numbers a) (pointers q q' h) = move_related c q q' a h
  operated_pair c operation.Back x x' y y' (pointers q q' h) (numbers b) = move_related c q q' (neg_ℤ b) h
  operated_pair c operation.Distance x x' y y' (pointers q q' h) (pointers r r' k) =
      pieces_asked (λ m. option_map number (distance p.structs m q r)) (λ m. option_map number (distance p'.structs m q' r')) (λ d g m m' mem.
      subst (λ ss. WhereGiven (RelatedScalars d) (option_map number (distance p.structs m q r)) (option_map number (distance ss m' q' r'))) structs
      (where_given_mapped ◌≡◌ (RelatedScalars d) number number (λ x y e. e) (distance p.structs m q r) (distance p.structs m' q' r')
      (distance_related p.structs w.held d m m' mem q q' r r' (pair_grow c d g q q' h) (pair_grow c d g r r' k))))
  operated_pair c (operation.Pointers op) x x' y y' (pointers q q' h) (pointers r r' k) =
      pieces_asked (λ m. option_map number (compared p.structs op m q r)) (λ m. option_map number (compared p'.structs op m q' r')) (λ d g m m' mem.
      subst (λ ss. WhereGiven (RelatedScalars d) (option_map number (compared p.structs op m q r)) (option_map number (compared ss op m' q' r'))) structs
      (where_given_mapped ◌≡◌ (RelatedScalars d) number number (λ x y e. e) (compared p.structs op m q r) (compared p.structs op m' q' r')
      (compared_related p.structs w.held d m m' mem op q q' r r' (pair_grow c d g q q' h) (pair_grow c d g r r' k))))
  operated_pair c op x x' y y' h k = pieces_undefined _

  pub operated_related : (c : Correspondence) (op : Operation) (x x' y y' : Scalar) → RelatedScalars c x x' → RelatedScalars c y y' → RelatedPieces w RelatedScalars c (operated p op x y) (operated p' op x' y')
  operated_related c op x x' y y' h k = operated_pair c op x x' y y' (scalar_pair c x x' h) (scalar_pair c y y' k)

  pub changed_related : (c : Correspondence) (by : Change) (x x' y y' : Scalar) → RelatedScalars c x x' → RelatedScalars c y y' → RelatedPieces w RelatedScalars c (changed p by x y) (changed p' by x' y')
  changed_related c (change.Numbers op t place_type) x x' y y' h k =
      pieces_then (operated_related c (operation.Numbers op t) x x' y y' h k) (λ d g z z' r. in_type_related w d place_type z z' r)
  changed_related c change.Forward x x' y y' h k = operated_related c operation.Forward x x' y y' h k
  changed_related c change.Back x x' y y' h k = operated_related c operation.Back x x' y y' h k
