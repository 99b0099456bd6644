-- What is done with the value of a call, and with that of the object into which it was put.
use Rattle.std.proofs.Common.{◌≡◌, ℕ, Bool, true, false, List, [], ◌∷◌, ◌++◌, ◌⊎◌, inl, inr, refl, sym, ◌∙◌, ap, subst, cond, eqb, ◌&&◌, ◌||◌, Option, Some, None, option_map, append-nil, if◌then◌else◌}
use Rattle.std.proofs.lemmas.Option.{none-some}
use Rattle.std.proofs.lemmas.Bool.{cond-true, cond-false, cases_eq, eq-eqb, ne_eqb, and_parts}
use Rattle.std.specs.Prelude.{⊤, is_some}
use Rattle.c_types.specs.Types.{PlainType}
use Rattle.core_meaning.specs.declared.integers.IntegerType.{IntegerType}
use Rattle.core_meaning.specs.Program.{PlainExpression, PlainPlace, PlainProgram}
use Rattle.core_meaning.specs.Values.{Path, Pointer, at, Scalar, number, pointer, Cells, Value, nothing, scalar, whole, is_scalar, is_inside, type_at}
use Rattle.core_meaning.specs.Memory.{Object, Memory, unwritten, zeros, with_object, value_in, by_steps, cells_with, is_there, value_at, written_at}
use Rattle.core_meaning.specs.Outcomes.{State, Outcome, Comes, Exits, Stops, Fails, Piece, after, followed_by, ◌>>=◌, give, given, set_memory}
use Rattle.core_meaning.specs.Meaning.{as_value, as_scalar, scalar_in_type, cells_filled, Ending, Frame, Job, write_to, value_of, place_of}
use Rattle.run_pairs.specs.Correspondences.{Correspondence, Grown, WhereGiven, RelatedPointers, RelatedScalars, RelatedCells, RelatedValues, RelatedObjects, HeldAside, RelatedMemories, Setting, RelatedPieces}
use Rattle.run_pairs.specs.Alike.{Uses, BothGiven, RelatedFrames}
use Rattle.run_pairs.specs.Inlining
use Rattle.run_pairs.specs.Inlining.{Fits, converted_by, SameVariables}
use Rattle.run_pairs.proofs.MemoryPairs.{some_same, values_grow, scalars_grow}
use Rattle.run_pairs.proofs.Pieces.{pieces_then, pieces_give, followed_give, followed_twice}
use Rattle.run_pairs.proofs.Operations.{ValuePair, nothings, scalars, wholes, value_pair, scalar_from_related, in_type_related}
use Rattle.run_pairs.proofs.Aside.{IsDead, dead_written}
use Rattle.run_pairs.proofs.Copies.{holding_cells, Into, IsPut, no_value, put_into}
use Rattle.run_pairs.proofs.Passing.{onward_root, whole_part}

-- ---- conversions

abbrev in_scalar : IntegerType → Scalar → State → Outcome Value
in_scalar t x = scalar_in_type t x >>= (λ v. give (scalar v))

abbrev pub conversions : List IntegerType → Value → State → Outcome Value
conversions [] v = give v
conversions (t ∷ ts) v = conversions ts v >>= as_scalar >>= in_scalar t

pub converted_value : (p : PlainProgram) (later : Job → Piece Ending) (frame : Frame) (ts : List IntegerType) (e : PlainExpression) (s : State) →
    value_of p later frame (converted_by ts e) s ≡ followed_by (value_of p later frame e s) (conversions ts)
converted_value p later frame [] e s = sym (followed_give (value_of p later frame e s))
converted_value p later frame (t ∷ ts) e s =
    ap (λ o. followed_by (followed_by o as_scalar) (in_scalar t)) (converted_value p later frame ts e s) ∙
    (ap (λ o. followed_by o (in_scalar t)) (followed_twice (value_of p later frame e s) (conversions ts) as_scalar) ∙
    followed_twice (value_of p later frame e s) (λ v now. followed_by (conversions ts v now) as_scalar) (in_scalar t))

pub conversions_related : (w : Setting) (ts : List IntegerType) (c : Correspondence) (v v' : Value) → RelatedValues c v v' → RelatedPieces w RelatedValues c (conversions ts v) (conversions ts v')
conversions_related w [] c v v' h = pieces_give (λ d g. values_grow c d g v v' h)
conversions_related w (t ∷ ts) c v v' h =
    pieces_then (scalar_from_related w (conversions_related w ts c v v' h)) (λ d g x y r. pieces_then (in_type_related w d t x y r) (λ e g' z z' k. pieces_give (λ i g''. scalars_grow e i g'' z z' k)))

-- no value can't be used
no_scalar : (ts : List IntegerType) (s : State) → followed_by (conversions ts nothing s) as_scalar ≡ Fails []
no_scalar [] s = refl
no_scalar (t ∷ ts) s = ap (λ o. followed_by (followed_by o (in_scalar t)) as_scalar) (no_scalar ts s)

pub no_value_used : (ts : List IntegerType) (s : State) → followed_by (conversions ts nothing s) as_value ≡ Fails []
no_value_used [] s = refl
no_value_used (t ∷ ts) s = ap (λ o. followed_by (followed_by o (in_scalar t)) as_value) (no_scalar ts s)

-- ---- the value is read

pub read_put : (structs : List (List PlainType)) (m : Memory) (now : HeldAside) (into : Into) (c : Correspondence) (v : Value) → (v ≡ nothing → ⊥) → IsPut into now c v → ((q : ℕ × PlainType) → into ≡ Some q → Fits q.1 v) →
    ((b : ℕ) (o : Object) → now b ≡ Some o → m.object b ≡ o) → (q : ℕ × PlainType) → into ≡ Some q → (w : Value) × (value_at structs m (at q.0 []) ≡ Some w) × RelatedValues c v w
read_put structs m now into c _ some no_value fits holds q e = absurd (some refl)
read_put structs m now into c _ some (put_into v w r cells f there h k) fits holds q e =
    by_value v w (value_pair c v w h) h k (fits r f)
    (ap (λ i. value_at structs m (at i [])) (sym (ap (λ r. r.0) (some_same (sym f ∙ e)))) ∙ ap (λ o. if is_there structs o [] then value_in (is_scalar (type_at structs o.ty [])) o.cells [] else None) (holds r.0 (holding_cells r.1 cells) there))
  where
    by_value : (v w : Value) → ValuePair c v w → RelatedValues c v w → cells_with unwritten [] w ≡ Some cells → Fits r.1 v → value_at structs m (at q.0 []) ≡ value_in (is_scalar r.1) cells [] →
        (w : Value) × (value_at structs m (at q.0 []) ≡ Some w) × RelatedValues c v w
    by_value v w nothings h k fits value = absurd (none-some _ k)
    by_value v w (scalars x y r₁) h k fits value =
        (scalar y, value ∙ (ap (λ b. value_in b cells []) fits ∙ ap (option_map scalar) (sym (ap (λ f. f []) (some_same k)))), h)
    by_value v w (wholes a b r₁) h k fits value = (
      whole (λ steps. cells (steps ++ [])),
      value ∙ ap (λ b. value_in b cells []) fits,
      record { at_path = λ path. subst (λ x. WhereGiven (RelatedScalars c) (a path) x) (sym (same path)) ((whole_cells c a b h).at_path path) },
    )
      where
        whole_cells : (c : Correspondence) (a b : Cells) → RelatedValues c (whole a) (whole b) → RelatedCells c a b
        whole_cells c a b h = h

        same : (path : Path) → cells (path ++ []) ≡ b path
        same path = ap cells (append-nil path) ∙ (sym (ap (λ f. f path) (some_same k)) ∙ ap (by_steps b None) (onward_root path))

-- ---- what stays dead

-- where an outcome leads
abbrev pub Lands : {A : Type 0} → (State → Type 0) → Outcome A → Type 0
Lands P (Comes x s out) = P s
Lands P (Exits status out) = ⊤
Lands P (Stops out) = ⊤
Lands P (Fails out) = ⊤

lands_after : {A : Type 0} (P : State → Type 0) (out : List ℕ) (o : Outcome A) → Lands P o → Lands P (after out o)
lands_after P out (Comes x s more) h = h
lands_after P out (Exits status more) h = tt
lands_after P out (Stops more) h = tt
lands_after P out (Fails more) h = tt

pub lands_then : {A B : Type 0} (P Q : State → Type 0) (o : Outcome A) (k : A → State → Outcome B) → Lands P o → ((x : A) (s : State) → P s → Lands Q (k x s)) → Lands Q (followed_by o k)
lands_then P Q (Comes x s out) k h next = lands_after Q out (k x s) (next x s h)
lands_then P Q (Exits status out) k h next = tt
lands_then P Q (Stops out) k h next = tt
lands_then P Q (Fails out) k h next = tt

pub lands_at : {A : Type 0} (P : State → Type 0) (o : Outcome A) → Lands P o → (x : A) (s : State) (out : List ℕ) → o ≡ Comes x s out → P s
lands_at P o h x s out e = subst (Lands P) e h

lands_scalar : (P : State → Type 0) (v : Value) (s : State) → P s → Lands P (as_scalar v s)
lands_scalar P nothing s h = tt
lands_scalar P (scalar x) s h = h
lands_scalar P (whole cells) s h = tt

pub lands_value : (P : State → Type 0) (v : Value) (s : State) → P s → Lands P (as_value v s)
lands_value P nothing s h = tt
lands_value P (scalar x) s h = h
lands_value P (whole cells) s h = h

lands_type : (P : State → Type 0) (t : IntegerType) (x : Scalar) (s : State) → P s → Lands P (scalar_in_type t x s)
lands_type P t (number z) s h = h
lands_type P t (pointer q) s h = tt

pub lands_conversions : (P : State → Type 0) (ts : List IntegerType) (v : Value) (s : State) → P s → Lands P (conversions ts v s)
lands_conversions P [] v s h = h
lands_conversions P (t ∷ ts) v s h =
    lands_then P P (followed_by (conversions ts v s) as_scalar) (in_scalar t)
    (lands_then P P (conversions ts v s) as_scalar (lands_conversions P ts v s h) (λ x n k. lands_scalar P x n k))
    (λ x n k. lands_then P P (scalar_in_type t x n) (λ v. give (scalar v)) (lands_type P t x n k) (λ x n k. k))

-- what has died before
abbrev pub KeepsDead : Memory → State → Type 0
KeepsDead m s = (j : ℕ) → IsDead (m.object j) → IsDead (s.memory.object j)

-- and the object into which it was written lives
abbrev pub KeepsDeadAndLives : Memory → ℕ → State → Type 0
KeepsDeadAndLives m k s = KeepsDead m s × ((s.memory.object k).lives ≡ true)

given_written : (P : State → Type 0) (s : State) (v : Value) (x : Option Memory) → ((now : Memory) → x ≡ Some now → P (record s { memory = now })) →
    Lands P (followed_by (given x s) (λ now. set_memory now >>= (λ done. give v)))
given_written P s v None h = tt
given_written P s v (Some now) h = h now refl

pub lands_written : (p : PlainProgram) (m : Memory) (q : Pointer) (v : Value) (s : State) → KeepsDead m s → Lands (KeepsDead m) (write_to p q v s)
lands_written p m q v s h =
    lands_after (KeepsDead m) [] _ (given_written (KeepsDead m) s v (written_at p.structs s.memory q v) (λ now e j d. dead_written p.structs s.memory now q v e j (h j d)))

written_lives : (structs : List (List PlainType)) (m now : Memory) (k : ℕ) (v : Value) → written_at structs m (at k []) v ≡ Some now → (now.object k).lives ≡ true
written_lives structs m now k v e = by_test (is_there structs (m.object k) [] && (m.object k).writable) refl where
  by_cells : is_there structs (m.object k) [] && (m.object k).writable ≡ true → (x : Option Cells) → option_map (λ cells. with_object m k (record (m.object k) { cells = cells })) x ≡ Some now → (now.object k).lives ≡ true
  by_cells t None e = absurd (none-some _ e)
  by_cells t (Some cells) e =
      ap (λ m. (m.object k).lives) (sym (some_same e)) ∙
      (ap (λ o. o.lives) (cond-true (eqb k k) (record (m.object k) { cells = cells }) (m.object k) (eq-eqb k k refl)) ∙
      (and_parts (m.object k).lives (is_inside structs (m.object k).ty []) ((and_parts (is_there structs (m.object k) []) (m.object k).writable t).0)).0)

  by_test : (b : Bool) → is_there structs (m.object k) [] && (m.object k).writable ≡ b → (now.object k).lives ≡ true
  by_test true t = by_cells t (cells_with (m.object k).cells [] v) (sym (cond-true (is_there structs (m.object k) [] && (m.object k).writable) _ None t) ∙ e)
  by_test false t = absurd (none-some _ (sym (cond-false (is_there structs (m.object k) [] && (m.object k).writable) _ None t) ∙ e))

pub lands_written_in : (p : PlainProgram) (m : Memory) (k : ℕ) (v : Value) (s : State) → KeepsDead m s → Lands (KeepsDeadAndLives m k) (write_to p (at k []) v s)
lands_written_in p m k v s h =
    lands_after (KeepsDeadAndLives m k) [] _ (given_written (KeepsDeadAndLives m k) s v (written_at p.structs s.memory (at k []) v)
    (λ now e. ((λ j d. dead_written p.structs s.memory now (at k []) v e j (h j d)), written_lives p.structs s.memory now k v e)))

-- ---- cells that are given another way

pub same_cells_left : (held : HeldAside) (c : Correspondence) (m m' : Memory) → RelatedMemories held c m m' → (k : ℕ) (cells : Cells) → ((path : Path) → cells path ≡ (m.object k).cells path) →
    RelatedMemories held c (with_object m k (record (m.object k) { cells = cells })) m'
same_cells_left held c m m' r k cells same = record {
  before = r.before;
  behind_it = r.behind_it;
  one = r.one;
  objects = λ i l e. by_case i l e (cases_eq i k);
  held_before = r.held_before;
  holds = r.holds;
  apart = r.apart;
} where
  by_case : (i l : ℕ) → c i ≡ Some l → (i ≡ k) ⊎ (i ≡ k → ⊥) → RelatedObjects c ((with_object m k (record (m.object k) { cells = cells })).object i) (m'.object l)
  by_case i l e (inl eq) =
      let o : RelatedObjects c (m.object i) (m'.object l) = r.objects i l e in
      let o₁ : RelatedObjects c (m.object k) (m'.object l) = subst (λ i. RelatedObjects c (m.object i) (m'.object l)) eq o in
      subst (λ x. RelatedObjects c x (m'.object l)) (sym (cond-true (eqb i k) (record (m.object k) { cells = cells }) (m.object i) (eq-eqb i k eq)))
      (record { same_type = o₁.same_type; live = o₁.live; write = o₁.write; hold = record { at_path = λ path. subst (λ x. WhereGiven (RelatedScalars c) x ((m'.object l).cells path)) (sym (same path)) (o₁.hold.at_path path) } })
  by_case i l e (inr differ) = subst (λ x. RelatedObjects c x (m'.object l)) (sym (cond-false (eqb i k) _ (m.object i) (ne_eqb i k differ))) (r.objects i l e)

pub filled_as_before : (structs : List (List PlainType)) (t : PlainType) (e : PlainExpression) (cells : Cells) (path : Path) → cells_filled (whole_part e) (zeros structs t) cells path ≡ cells path
filled_as_before structs t e cells path = ap (λ o. cond (is_some o || false) (cells path) (zeros structs t path)) (onward_root path)

-- ---- variables

module _ (p p' : PlainProgram) (functions : ℕ → Option ℕ) (arity : ℕ → ℕ) (first : Correspondence) (later later' : Job → Piece Ending) (types types' : List PlainType) (uses : Uses) (frame : Frame) where
  both_there : (c : Correspondence) (x y : Option ℕ) → BothGiven (λ a b. c a ≡ Some b) x y → (a : ℕ) × (b : ℕ) × (x ≡ Some a) × (y ≡ Some b) × (c a ≡ Some b)
  both_there c (Some a) (Some b) h = (a, b, refl, refl, h)
  both_there c None None h = absurd h
  both_there c None (Some b) h = absurd h
  both_there c (Some a) None h = absurd h

  -- the place of a variable, whatever the state, and that of the one that stands for it
  pub record Variable (d : Correspondence) (x y : PlainPlace) : Type 0 where
    pub place : Pointer
    pub is_place : (s : State) → place_of p later frame x s ≡ Comes place s []
    pub stands : (c : Correspondence) → Grown d c → (held : HeldAside) (inner : Frame) → RelatedFrames types types' uses held c frame inner →
        (q : Pointer) × ((s : State) → place_of p' later' inner y s ≡ Comes q s []) × RelatedPointers c place q

  pub variable : (d : Correspondence) → Grown first d → (held : HeldAside) (frame' : Frame) → RelatedFrames types types' uses held d frame frame' →
      (x y : PlainPlace) → SameVariables p p' functions arity first types types' uses x y → Variable d x y
  variable d g held frame' r x y (Inlining.slots j k e) =
      let o = both_there d (frame.objects j) (frame'.objects k) (r.direct_objects j k e) in
      record {
        place = at o.0 [];
        is_place = λ s. ap (λ x. given (option_map (λ object. at object []) x) s) o.2;
        stands = λ c grown held inner fr.
            let i = both_there c (frame.objects j) (inner.objects k) (fr.direct_objects j k e) in
            (at i.1 [], (λ s. ap (λ x. given (option_map (λ object. at object []) x) s) i.3), (ap c (some_same (sym o.2 ∙ i.2)) ∙ i.4, refl));
      }
  variable d g held frame' r x y (Inlining.globals j k e) = record {
    place = at j [];
    is_place = λ s. refl;
    stands = λ c grown held inner fr. (at k [], (λ s. refl), (grown.keeps j k (g.keeps j k e), refl));
  }
