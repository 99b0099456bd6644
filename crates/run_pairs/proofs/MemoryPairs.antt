-- What is done with related memories comes to related memories.
use Rattle.std.proofs.Common.{◌≡◌, ℕ, suc, ◌≤◌, Bool, true, false, List, ◌++◌, ◌⊎◌, inl, inr, refl, sym, ◌∙◌, ap, subst, cond, eqb, ◌&&◌, Option, Some, None, option_map, arith}
use Rattle.std.proofs.lemmas.Bool.{true≢false, cases_eq, eq-eqb, ne_eqb, eqb-true, and_parts, and_from}
use Rattle.c_types.specs.Types.{PlainType}
use Rattle.core_meaning.specs.Values.{Path, Pointer, null, at, Scalar, number, pointer, Cells, Value, nothing, scalar, whole, onward, same_path, is_scalar, type_at, is_inside}
use Rattle.core_meaning.specs.Memory.{Object, Memory, unwritten, with_object, with_new, with_ended, value_in, by_steps, cells_with, is_there, value_at, written_at}
use Rattle.run_pairs.specs.Correspondences.{Correspondence, Grown, WhereGiven, RelatedPointers, RelatedScalars, RelatedCells, RelatedValues, RelatedObjects, HeldAside, RelatedMemories}

-- ---- growing

pub pointers_grow : (c d : Correspondence) → Grown c d → (p q : Pointer) → RelatedPointers c p q → RelatedPointers d p q
pointers_grow c d g null null h = tt
pointers_grow c d g (at j p) (at k q) h = (g.keeps j k h.0, h.1)
pointers_grow c d g null (at k q) h = absurd h
pointers_grow c d g (at j p) null h = absurd h

pub scalars_grow : (c d : Correspondence) → Grown c d → (x y : Scalar) → RelatedScalars c x y → RelatedScalars d x y
scalars_grow c d g (number x) (number y) h = h
scalars_grow c d g (pointer p) (pointer q) h = pointers_grow c d g p q h
scalars_grow c d g (number x) (pointer q) h = absurd h
scalars_grow c d g (pointer p) (number y) h = absurd h

pub below_grow : {A B : Type 0} (R Q : A → B → Type 0) → ((x : A) (y : B) → R x y → Q x y) → (x : Option A) (y : Option B) → WhereGiven R x y → WhereGiven Q x y
below_grow R Q f None y h = tt
below_grow R Q f (Some x) None h = absurd h
below_grow R Q f (Some x) (Some y) h = f x y h

pub cells_grow : (c d : Correspondence) → Grown c d → (a b : Cells) → RelatedCells c a b → RelatedCells d a b
cells_grow c d g a b h = record { at_path = λ path. below_grow (RelatedScalars c) (RelatedScalars d) (scalars_grow c d g) (a path) (b path) (h.at_path path) }

pub values_grow : (c d : Correspondence) → Grown c d → (v w : Value) → RelatedValues c v w → RelatedValues d v w
values_grow c d g nothing nothing h = tt
values_grow c d g (scalar v) (scalar w) h = scalars_grow c d g v w h
values_grow c d g (whole a) (whole b) h = cells_grow c d g a b h
values_grow c d g nothing (scalar w) h = absurd h
values_grow c d g nothing (whole b) h = absurd h
values_grow c d g (scalar v) nothing h = absurd h
values_grow c d g (scalar v) (whole b) h = absurd h
values_grow c d g (whole a) nothing h = absurd h
values_grow c d g (whole a) (scalar w) h = absurd h

pub objects_grow : (c d : Correspondence) → Grown c d → (o o' : Object) → RelatedObjects c o o' → RelatedObjects d o o'
objects_grow c d g o o' h = record { same_type = h.same_type; live = h.live; write = h.write; hold = cells_grow c d g o.cells o'.cells h.hold }

-- ---- one object for one

abbrev some_inside : {A : Type 0} → A → Option A → A
some_inside x None = x
some_inside x (Some y) = y

pub some_same : {A : Type 0} {x y : A} → Some x ≡ Some y → x ≡ y
some_same {x = x} e = ap (some_inside x) e

module _ (held : HeldAside) (c : Correspondence) (m m' : Memory) (r : RelatedMemories held c m m') where
  pub same_test : (i j i' j' : ℕ) → c i ≡ Some i' → c j ≡ Some j' → eqb i j ≡ eqb i' j'
  same_test i j i' j' e f = by_case (cases_eq i j) where
    by_case : (i ≡ j) ⊎ (i ≡ j → ⊥) → eqb i j ≡ eqb i' j'
    by_case (inl same) = eq-eqb i j same ∙ sym (eq-eqb i' j' (some_same (sym e ∙ (ap c same ∙ f))))
    by_case (inr differ) = ne_eqb i j differ ∙ sym (ne_eqb i' j' (λ same. differ (r.one i j j' (e ∙ ap Some same) f)))

  -- ---- a change of related objects

  choose_objects : (b b' : Bool) → b ≡ b' → (o o' q q' : Object) → RelatedObjects c o o' → RelatedObjects c q q' → RelatedObjects c (cond b o q) (cond b' o' q')
  choose_objects true true e o o' q q' h k = h
  choose_objects false false e o o' q q' h k = k
  choose_objects true false e o o' q q' h k = absurd (true≢false e)
  choose_objects false true e o o' q q' h k = absurd (true≢false (sym e))

  holds_unless : (b : Bool) → b ≡ false → (o q : Object) (v : Object) → q ≡ v → cond b o q ≡ v
  holds_unless true e o q v h = absurd (true≢false e)
  holds_unless false e o q v h = h

  pub related_with_object : (k k' : ℕ) → c k ≡ Some k' → (o o' : Object) → RelatedObjects c o o' → RelatedMemories held c (with_object m k o) (with_object m' k' o')
  related_with_object k k' e o o' h = record {
    before = r.before;
    behind_it = r.behind_it;
    one = r.one;
    objects = λ i i' f. choose_objects (eqb i k) (eqb i' k') (same_test i k i' k' f e) o o' (m.object i) (m'.object i') h (r.objects i i' f);
    held_before = r.held_before;
    holds = λ j v f. holds_unless (eqb j k') (ne_eqb j k' (λ same. r.apart k j v (e ∙ ap Some (sym same)) f)) o' (m'.object j) v (r.holds j v f);
    apart = r.apart;
  }

  -- ---- new objects

  abbrev pub with_pair : Correspondence
  with_pair j = cond (eqb j m.made) (Some m'.made) (c j)

  new_cases : (j k : ℕ) (b : Bool) → eqb j m.made ≡ b → cond b (Some m'.made) (c j) ≡ Some k → ((j ≡ m.made) × (k ≡ m'.made)) ⊎ (c j ≡ Some k)
  new_cases j k true t e = inl (eqb-true j m.made t, sym (some_same e))
  new_cases j k false t e = inr e

  cases_new : (j k : ℕ) → with_pair j ≡ Some k → ((j ≡ m.made) × (k ≡ m'.made)) ⊎ (c j ≡ Some k)
  cases_new j k e = new_cases j k (eqb j m.made) refl e

  cond_at_false : {A : Type 0} (b : Bool) (x y : A) → b ≡ false → cond b x y ≡ y
  cond_at_false true x y e = absurd (true≢false e)
  cond_at_false false x y e = refl

  cond_at_true : {A : Type 0} (b : Bool) (x y : A) → b ≡ true → cond b x y ≡ x
  cond_at_true false x y e = absurd (true≢false (sym e))
  cond_at_true true x y e = refl

  not_new : (j k : ℕ) → c j ≡ Some k → eqb j m.made ≡ false
  not_new j k e = ne_eqb j m.made (λ same. let less : suc j ≤ m.made = r.before j k e in absurd (omega (arith, less, same)))

  not_new' : (j k : ℕ) → suc k ≤ m'.made → eqb k m'.made ≡ false
  not_new' j k less = ne_eqb k m'.made (λ same. absurd (omega (arith, less, same)))

  pub grown_new : Grown c with_pair
  grown_new = record { keeps = λ j k e. cond_at_false (eqb j m.made) (Some m'.made) (c j) (not_new j k e) ∙ e }

  pub is_new : with_pair m.made ≡ Some m'.made
  is_new = cond_at_true (eqb m.made m.made) (Some m'.made) (c m.made) (eq-eqb m.made m.made refl)

  module _ (o o' : Object) (h : RelatedObjects with_pair o o') where
    new_objects : (j k : ℕ) → ((j ≡ m.made) × (k ≡ m'.made)) ⊎ (c j ≡ Some k) → RelatedObjects with_pair (cond (eqb j m.made) o (m.object j)) (cond (eqb k m'.made) o' (m'.object k))
    new_objects j k (inl e) =
        subst (λ x. RelatedObjects with_pair x (cond (eqb k m'.made) o' (m'.object k))) (sym (cond_at_true (eqb j m.made) o (m.object j) (eq-eqb j m.made e.0)))
        (subst (λ x. RelatedObjects with_pair o x) (sym (cond_at_true (eqb k m'.made) o' (m'.object k) (eq-eqb k m'.made e.1))) h)
    new_objects j k (inr e) =
        subst (λ x. RelatedObjects with_pair x (cond (eqb k m'.made) o' (m'.object k))) (sym (cond_at_false (eqb j m.made) o (m.object j) (not_new j k e)))
        (subst (λ x. RelatedObjects with_pair (m.object j) x) (sym (cond_at_false (eqb k m'.made) o' (m'.object k) (not_new' j k (r.behind_it j k e))))
        (objects_grow c with_pair grown_new (m.object j) (m'.object k) (r.objects j k e)))

    new_before : (j k : ℕ) → ((j ≡ m.made) × (k ≡ m'.made)) ⊎ (c j ≡ Some k) → suc j ≤ suc m.made
    new_before j k (inl e) = omega (arith, e.0)
    new_before j k (inr e) = let less : suc j ≤ m.made = r.before j k e in omega (arith, less)

    new_behind : (j k : ℕ) → ((j ≡ m.made) × (k ≡ m'.made)) ⊎ (c j ≡ Some k) → suc k ≤ suc m'.made
    new_behind j k (inl e) = omega (arith, e.1)
    new_behind j k (inr e) = let less : suc k ≤ m'.made = r.behind_it j k e in omega (arith, less)

    new_one : (i j k : ℕ) → ((i ≡ m.made) × (k ≡ m'.made)) ⊎ (c i ≡ Some k) → ((j ≡ m.made) × (k ≡ m'.made)) ⊎ (c j ≡ Some k) → i ≡ j
    new_one i j k (inl e) (inl f) = e.0 ∙ sym f.0
    new_one i j k (inl e) (inr f) = let less : suc k ≤ m'.made = r.behind_it j k f in absurd (omega (arith, less, e.1))
    new_one i j k (inr e) (inl f) = let less : suc k ≤ m'.made = r.behind_it i k e in absurd (omega (arith, less, f.1))
    new_one i j k (inr e) (inr f) = r.one i j k e f

    new_apart : (j k : ℕ) (v : Object) → ((j ≡ m.made) × (k ≡ m'.made)) ⊎ (c j ≡ Some k) → held k ≡ Some v → ⊥
    new_apart j k v (inl e) f = let less : suc k ≤ m'.made = r.held_before k v f in absurd (omega (arith, less, e.1))
    new_apart j k v (inr e) f = r.apart j k v e f

    pub related_with_new : RelatedMemories held with_pair (with_new m o) (with_new m' o')
    related_with_new = record {
      before = λ j k e. new_before j k (cases_new j k e);
      behind_it = λ j k e. new_behind j k (cases_new j k e);
      one = λ i j k e f. new_one i j k (cases_new i k e) (cases_new j k f);
      objects = λ j k e. new_objects j k (cases_new j k e);
      held_before = λ k v f. let less : suc k ≤ m'.made = r.held_before k v f in omega (arith, less);
      holds = λ k v f. holds_unless (eqb k m'.made) (not_new' k k (r.held_before k v f)) o' (m'.object k) v (r.holds k v f);
      apart = λ j k v e f. new_apart j k v (cases_new j k e) f;
    }

  -- ---- an end

  pub related_with_ended : (k k' : ℕ) → c k ≡ Some k' → RelatedMemories held c (with_ended m k) (with_ended m' k')
  related_with_ended k k' e =
      let o : RelatedObjects c (m.object k) (m'.object k') = r.objects k k' e in
      related_with_object k k' e (record (m.object k) { lives = false; cells = unwritten }) (record (m'.object k') { lives = false; cells = unwritten })
      (record { same_type = o.same_type; live = λ t. t; write = o.write; hold = record { at_path = λ path. tt } })

-- ---- reading and writing

pub where_given_mapped : {A B X Y : Type 0} (R : A → B → Type 0) (Q : X → Y → Type 0) (f : A → X) (g : B → Y) → ((x : A) (y : B) → R x y → Q (f x) (g y)) → (x : Option A) (y : Option B) → WhereGiven R x y → WhereGiven Q (option_map f x) (option_map g y)
where_given_mapped R Q f g h None y r = tt
where_given_mapped R Q f g h (Some x) None r = absurd r
where_given_mapped R Q f g h (Some x) (Some y) r = h x y r

pub where_given_if : {A B : Type 0} (R : A → B → Type 0) (b b' : Bool) (x : Option A) (y : Option B) → (b ≡ true → b' ≡ true) → (b ≡ true → WhereGiven R x y) → WhereGiven R (cond b x None) (cond b' y None)
where_given_if R false b' x y h r = tt
where_given_if R true true x y h r = r refl
where_given_if R true false x y h r = absurd (true≢false (sym (h refl)))

value_in_related : (c : Correspondence) (b : Bool) (cells cells' : Cells) (path : Path) → RelatedCells c cells cells' → WhereGiven (RelatedValues c) (value_in b cells path) (value_in b cells' path)
value_in_related c true cells cells' path h = where_given_mapped (RelatedScalars c) (RelatedValues c) scalar scalar (λ x y r. r) (cells path) (cells' path) (h.at_path path)
value_in_related c false cells cells' path h = record { at_path = λ steps. h.at_path (steps ++ path) }

cond_cells : (c : Correspondence) (b : Bool) (v v' : Scalar) (x y : Option Scalar) → RelatedScalars c v v' → WhereGiven (RelatedScalars c) x y → WhereGiven (RelatedScalars c) (cond b (Some v) x) (cond b (Some v') y)
cond_cells c true v v' x y h k = h
cond_cells c false v v' x y h k = k

by_steps_related : (c : Correspondence) (parts parts' : Cells) (x y : Option Scalar) (steps : Option Path) → RelatedCells c parts parts' → WhereGiven (RelatedScalars c) x y → WhereGiven (RelatedScalars c) (by_steps parts x steps) (by_steps parts' y steps)
by_steps_related c parts parts' x y None h k = k
by_steps_related c parts parts' x y (Some steps) h k = h.at_path steps

pub cells_with_related : (c : Correspondence) (cells cells' : Cells) (path : Path) (v v' : Value) → RelatedCells c cells cells' → RelatedValues c v v' → WhereGiven (RelatedCells c) (cells_with cells path v) (cells_with cells' path v')
cells_with_related c cells cells' path nothing v' h k = tt
cells_with_related c cells cells' path (scalar v) nothing h k = absurd k
cells_with_related c cells cells' path (scalar v) (whole b) h k = absurd k
cells_with_related c cells cells' path (scalar v) (scalar v') h k = record { at_path = λ other. cond_cells c (same_path other path) v v' (cells other) (cells' other) k (h.at_path other) }
cells_with_related c cells cells' path (whole a) nothing h k = absurd k
cells_with_related c cells cells' path (whole a) (scalar v') h k = absurd k
cells_with_related c cells cells' path (whole a) (whole b) h k = record { at_path = λ other. by_steps_related c a b (cells other) (cells' other) (onward path other) k (h.at_path other) }

there_related : (structs : List (List PlainType)) (c : Correspondence) (o o' : Object) (path : Path) → RelatedObjects c o o' → is_there structs o path ≡ true → is_there structs o' path ≡ true
there_related structs c o o' path h t =
    let parts = and_parts o.lives (is_inside structs o.ty path) t in
    and_from o'.lives (is_inside structs o'.ty path) (h.live parts.0) (subst (λ ty. is_inside structs ty path ≡ true) h.same_type parts.1)

pub value_at_related : (structs : List (List PlainType)) (held : HeldAside) (c : Correspondence) (m m' : Memory) → RelatedMemories held c m m' → (p q : Pointer) → RelatedPointers c p q → WhereGiven (RelatedValues c) (value_at structs m p) (value_at structs m' q)
value_at_related structs held c m m' r null q h = tt
value_at_related structs held c m m' r (at j path) null h = absurd h
value_at_related structs held c m m' r (at j path) (at k path') h =
    let o : RelatedObjects c (m.object j) (m'.object k) = r.objects j k h.0 in
    subst (λ path'. WhereGiven (RelatedValues c) (value_at structs m (at j path)) (value_at structs m' (at k path'))) h.1
    (where_given_if (RelatedValues c) (is_there structs (m.object j) path) (is_there structs (m'.object k) path) _ _
    (there_related structs c (m.object j) (m'.object k) path o)
    (λ t. subst (λ ty. WhereGiven (RelatedValues c) (value_in (is_scalar (type_at structs (m.object j).ty path)) (m.object j).cells path) (value_in (is_scalar (type_at structs ty path)) (m'.object k).cells path)) o.same_type
    (value_in_related c (is_scalar (type_at structs (m.object j).ty path)) (m.object j).cells (m'.object k).cells path o.hold)))

pub written_at_related : (structs : List (List PlainType)) (held : HeldAside) (c : Correspondence) (m m' : Memory) → RelatedMemories held c m m' → (p q : Pointer) → RelatedPointers c p q → (v v' : Value) → RelatedValues c v v' → WhereGiven (RelatedMemories held c) (written_at structs m p v) (written_at structs m' q v')
written_at_related structs held c m m' r null q h v v' k = tt
written_at_related structs held c m m' r (at j path) null h v v' k = absurd h
written_at_related structs held c m m' r (at j path) (at i path') h v v' k =
    let o : RelatedObjects c (m.object j) (m'.object i) = r.objects j i h.0 in
    subst (λ path'. WhereGiven (RelatedMemories held c) (written_at structs m (at j path) v) (written_at structs m' (at i path') v')) h.1
    (where_given_if (RelatedMemories held c) (is_there structs (m.object j) path && (m.object j).writable) (is_there structs (m'.object i) path && (m'.object i).writable) _ _
    (λ t. let parts = and_parts (is_there structs (m.object j) path) (m.object j).writable t in
    and_from (is_there structs (m'.object i) path) (m'.object i).writable (there_related structs c (m.object j) (m'.object i) path o parts.0) (o.write parts.1))
    (λ t. where_given_mapped (RelatedCells c) (RelatedMemories held c) _ _
    (λ cells cells' hold. related_with_object held c m m' r j i h.0 (record (m.object j) { cells = cells }) (record (m'.object i) { cells = cells' })
    (record { same_type = o.same_type; live = o.live; write = o.write; hold = hold }))
    (cells_with (m.object j).cells path v) (cells_with (m'.object i).cells path v')
    (cells_with_related c (m.object j).cells (m'.object i).cells path v v' o.hold k)))
