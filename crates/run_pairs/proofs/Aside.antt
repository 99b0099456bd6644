-- What is held aside: made, changed, ended, and taken for an object that the original makes later.
use Rattle.std.proofs.Common.{◌≡◌, ℕ, suc, ◌≤◌, Bool, true, false, List, [], ◌∷◌, ◌⊎◌, inl, inr, refl, sym, ◌∙◌, ap, subst, cond, eqb, ◌&&◌, Option, Some, None, option_map, arith}
use Rattle.std.proofs.lemmas.Option.{none-some}
use Rattle.std.proofs.lemmas.Bool.{cond-true, cond-false, true≢false, cases_eq, eq-eqb, ne_eqb, and_parts}
use Rattle.c_types.specs.Types.{PlainType}
use Rattle.core_meaning.specs.Values.{Path, Pointer, null, at, Scalar, Cells, Value, is_inside}
use Rattle.core_meaning.specs.Memory.{Object, Memory, unwritten, with_object, with_new, with_ended, with_all_ended, cells_with, is_there, written_at}
use Rattle.run_pairs.specs.Correspondences.{Correspondence, Grown, WhereGiven, RelatedScalars, RelatedObjects, HeldAside, RelatedMemories}
use Rattle.run_pairs.proofs.MemoryPairs.{some_same, objects_grow}
use Rattle.run_pairs.proofs.Private.{held_with}

-- ---- less and more is held

pub record Keeps (held more : HeldAside) : Type 0 where
  pub keeps : (k : ℕ) (o : Object) → held k ≡ Some o → more k ≡ Some o

pub keeps_all : (held : HeldAside) → Keeps held held
keeps_all held = record { keeps = λ k o e. e }

pub keeps_on : {a b c : HeldAside} → Keeps a b → Keeps b c → Keeps a c
keeps_on f g = record { keeps = λ k o e. g.keeps k o (f.keeps k o e) }

-- it isn't held
pub record IsFree (held : HeldAside) (b : ℕ) : Type 0 where
  pub free : (o : Object) → held b ≡ Some o → ⊥

abbrev pub without : HeldAside → ℕ → HeldAside
without held b k = cond (eqb k b) None (held k)

pub held_here : (held : HeldAside) (b : ℕ) (o : Object) → held_with held b o b ≡ Some o
held_here held b o = cond-true (eqb b b) (Some o) (held b) (eq-eqb b b refl)

pub held_else : (held : HeldAside) (b : ℕ) (o : Object) (k : ℕ) → (k ≡ b → ⊥) → held_with held b o k ≡ held k
held_else held b o k differ = cond-false (eqb k b) (Some o) (held k) (ne_eqb k b differ)

pub without_else : (held : HeldAside) (b k : ℕ) → (k ≡ b → ⊥) → without held b k ≡ held k
without_else held b k differ = cond-false (eqb k b) None (held k) (ne_eqb k b differ)

-- what is held with one more, or without one
module _ (held : HeldAside) (b : ℕ) (o : Object) where
  pub with_cases : (k : ℕ) (q : Object) → held_with held b o k ≡ Some q → ((k ≡ b) × (o ≡ q)) ⊎ ((k ≡ b → ⊥) × (held k ≡ Some q))
  with_cases k q e = by_case (cases_eq k b) where
    by_case : (k ≡ b) ⊎ (k ≡ b → ⊥) → ((k ≡ b) × (o ≡ q)) ⊎ ((k ≡ b → ⊥) × (held k ≡ Some q))
    by_case (inl same) = inl (same, some_same (sym (cond-true (eqb k b) (Some o) (held k) (eq-eqb k b same)) ∙ e))
    by_case (inr differ) = inr (differ, sym (held_else held b o k differ) ∙ e)

  pub keeps_with : IsFree held b → Keeps held (held_with held b o)
  keeps_with f = record { keeps = λ k q e. held_else held b o k (λ same. f.free q (ap held (sym same) ∙ e)) ∙ e }

without_cases : (held : HeldAside) (b k : ℕ) (q : Object) → without held b k ≡ Some q → (k ≡ b → ⊥) × (held k ≡ Some q)
without_cases held b k q e = by_case (cases_eq k b) where
  by_case : (k ≡ b) ⊎ (k ≡ b → ⊥) → (k ≡ b → ⊥) × (held k ≡ Some q)
  by_case (inl same) = absurd (none-some _ (sym (cond-true (eqb k b) None (held k) (eq-eqb k b same)) ∙ e))
  by_case (inr differ) = (differ, sym (without_else held b k differ) ∙ e)

pub keeps_without : (held more : HeldAside) (b : ℕ) → IsFree held b → Keeps held more → Keeps held (without more b)
keeps_without held more b f g = record { keeps = λ k q e. without_else more b k (λ same. f.free q (ap held (sym same) ∙ e)) ∙ g.keeps k q e }

pub held_less : (held more : HeldAside) → Keeps held more → (c : Correspondence) (m m' : Memory) → RelatedMemories more c m m' → RelatedMemories held c m m'
held_less held more g c m m' r = record {
  before = r.before;
  behind_it = r.behind_it;
  one = r.one;
  objects = r.objects;
  held_before = λ k o e. r.held_before k o (g.keeps k o e);
  holds = λ k o e. r.holds k o (g.keeps k o e);
  apart = λ j k o e f. r.apart j k o e (g.keeps k o f);
}

module _ (held : HeldAside) (c : Correspondence) (m m' : Memory) (r : RelatedMemories held c m m') where
  pub new_is_free : IsFree held m'.made
  new_is_free = record { free = λ o e. let less : suc m'.made ≤ m'.made = r.held_before m'.made o e in absurd (omega (arith, less)) }

  older : (k : ℕ) → suc k ≤ m'.made → k ≡ m'.made → ⊥
  older k less same = absurd (omega (arith, less, same))

  -- ---- a new object of the result

  module _ (o : Object) where
    unchanged : (k : ℕ) → suc k ≤ m'.made → (with_new m' o).object k ≡ m'.object k
    unchanged k less = cond-false (eqb k m'.made) o (m'.object k) (ne_eqb k m'.made (older k less))

    new_before : (k : ℕ) (q : Object) → ((k ≡ m'.made) × (o ≡ q)) ⊎ ((k ≡ m'.made → ⊥) × (held k ≡ Some q)) → suc k ≤ suc m'.made
    new_before k q (inl e) = omega (arith, e.0)
    new_before k q (inr e) = let less : suc k ≤ m'.made = r.held_before k q e.1 in omega (arith, less)

    new_holds : (k : ℕ) (q : Object) → ((k ≡ m'.made) × (o ≡ q)) ⊎ ((k ≡ m'.made → ⊥) × (held k ≡ Some q)) → (with_new m' o).object k ≡ q
    new_holds k q (inl e) = cond-true (eqb k m'.made) o (m'.object k) (eq-eqb k m'.made e.0) ∙ e.1
    new_holds k q (inr e) = unchanged k (r.held_before k q e.1) ∙ r.holds k q e.1

    new_apart : (j k : ℕ) (q : Object) → c j ≡ Some k → ((k ≡ m'.made) × (o ≡ q)) ⊎ ((k ≡ m'.made → ⊥) × (held k ≡ Some q)) → ⊥
    new_apart j k q e (inl f) = older k (r.behind_it j k e) f.0
    new_apart j k q e (inr f) = r.apart j k q e f.1

    pub with_new_aside : RelatedMemories (held_with held m'.made o) c m (with_new m' o)
    with_new_aside = record {
      before = r.before;
      behind_it = λ j k e. let less : suc k ≤ m'.made = r.behind_it j k e in omega (arith, less);
      one = r.one;
      objects = λ j k e. subst (λ x. RelatedObjects c (m.object j) x) (sym (unchanged k (r.behind_it j k e))) (r.objects j k e);
      held_before = λ k q e. new_before k q (with_cases held m'.made o k q e);
      holds = λ k q e. new_holds k q (with_cases held m'.made o k q e);
      apart = λ j k q e f. new_apart j k q e (with_cases held m'.made o k q f);
    }

  -- ---- what is held changes, or ends

  module _ (b : ℕ) (old : Object) (is_held : held b ≡ Some old) where
    not_mapped : (j k : ℕ) → c j ≡ Some k → k ≡ b → ⊥
    not_mapped j k e same = r.apart j b old (e ∙ ap Some same) is_held

    stays : (new : Object) (k : ℕ) → (k ≡ b → ⊥) → (with_object m' b new).object k ≡ m'.object k
    stays new k differ = cond-false (eqb k b) new (m'.object k) (ne_eqb k b differ)

    changed_before : (new : Object) (k : ℕ) (q : Object) → ((k ≡ b) × (new ≡ q)) ⊎ ((k ≡ b → ⊥) × (held k ≡ Some q)) → suc k ≤ m'.made
    changed_before new k q (inl e) = let less : suc b ≤ m'.made = r.held_before b old is_held in omega (arith, less, e.0)
    changed_before new k q (inr e) = r.held_before k q e.1

    changed_holds : (new : Object) (k : ℕ) (q : Object) → ((k ≡ b) × (new ≡ q)) ⊎ ((k ≡ b → ⊥) × (held k ≡ Some q)) → (with_object m' b new).object k ≡ q
    changed_holds new k q (inl e) = cond-true (eqb k b) new (m'.object k) (eq-eqb k b e.0) ∙ e.1
    changed_holds new k q (inr e) = stays new k e.0 ∙ r.holds k q e.1

    changed_apart : (new : Object) (j k : ℕ) (q : Object) → c j ≡ Some k → ((k ≡ b) × (new ≡ q)) ⊎ ((k ≡ b → ⊥) × (held k ≡ Some q)) → ⊥
    changed_apart new j k q e (inl f) = not_mapped j k e f.0
    changed_apart new j k q e (inr f) = r.apart j k q e f.1

    pub changed_aside : (new : Object) → RelatedMemories (held_with held b new) c m (with_object m' b new)
    changed_aside new = record {
      before = r.before;
      behind_it = r.behind_it;
      one = r.one;
      objects = λ j k e. subst (λ x. RelatedObjects c (m.object j) x) (sym (stays new k (not_mapped j k e))) (r.objects j k e);
      held_before = λ k q e. changed_before new k q (with_cases held b new k q e);
      holds = λ k q e. changed_holds new k q (with_cases held b new k q e);
      apart = λ j k q e f. changed_apart new j k q e (with_cases held b new k q f);
    }

    pub ended_aside : RelatedMemories (without held b) c m (with_ended m' b)
    ended_aside = record {
      before = r.before;
      behind_it = r.behind_it;
      one = r.one;
      objects = λ j k e. subst (λ x. RelatedObjects c (m.object j) x) (sym (stays (record (m'.object b) { lives = false; cells = unwritten }) k (not_mapped j k e))) (r.objects j k e);
      held_before = λ k q e. r.held_before k q ((without_cases held b k q e).1);
      holds = λ k q e. let f = without_cases held b k q e in stays (record (m'.object b) { lives = false; cells = unwritten }) k f.0 ∙ r.holds k q f.1;
      apart = λ j k q e f. r.apart j k q e ((without_cases held b k q f).1);
    }

    -- ---- the original makes the object for which it was kept

    abbrev pub with_mapped : Correspondence
    with_mapped j = cond (eqb j m.made) (Some b) (c j)

    mapped_cases : (j k : ℕ) → with_mapped j ≡ Some k → ((j ≡ m.made) × (k ≡ b)) ⊎ ((j ≡ m.made → ⊥) × (c j ≡ Some k))
    mapped_cases j k e = by_case (cases_eq j m.made) where
      by_case : (j ≡ m.made) ⊎ (j ≡ m.made → ⊥) → ((j ≡ m.made) × (k ≡ b)) ⊎ ((j ≡ m.made → ⊥) × (c j ≡ Some k))
      by_case (inl same) = inl (same, sym (some_same (sym (cond-true (eqb j m.made) (Some b) (c j) (eq-eqb j m.made same)) ∙ e)))
      by_case (inr differ) = inr (differ, sym (cond-false (eqb j m.made) (Some b) (c j) (ne_eqb j m.made differ)) ∙ e)

    pub grown_mapped : Grown c with_mapped
    grown_mapped = record { keeps = λ j k e. cond-false (eqb j m.made) (Some b) (c j) (ne_eqb j m.made (λ same. let less : suc j ≤ m.made = r.before j k e in absurd (omega (arith, less, same)))) ∙ e }

    pub is_mapped : with_mapped m.made ≡ Some b
    is_mapped = cond-true (eqb m.made m.made) (Some b) (c m.made) (eq-eqb m.made m.made refl)

    module _ (now : Memory) (one_more : now.made ≡ suc m.made) (made_now : RelatedObjects with_mapped (now.object m.made) old) (others : (j : ℕ) → (j ≡ m.made → ⊥) → now.object j ≡ m.object j) where
      mapped_before : (j k : ℕ) → ((j ≡ m.made) × (k ≡ b)) ⊎ ((j ≡ m.made → ⊥) × (c j ≡ Some k)) → suc j ≤ now.made
      mapped_before j k (inl e) = let same : now.made ≡ suc m.made = one_more in omega (arith, e.0, same)
      mapped_before j k (inr e) = let less : suc j ≤ m.made = r.before j k e.1 in let same : now.made ≡ suc m.made = one_more in omega (arith, less, same)

      mapped_behind : (j k : ℕ) → ((j ≡ m.made) × (k ≡ b)) ⊎ ((j ≡ m.made → ⊥) × (c j ≡ Some k)) → suc k ≤ m'.made
      mapped_behind j k (inl e) = let less : suc b ≤ m'.made = r.held_before b old is_held in omega (arith, less, e.1)
      mapped_behind j k (inr e) = r.behind_it j k e.1

      mapped_one : (i j k : ℕ) → ((i ≡ m.made) × (k ≡ b)) ⊎ ((i ≡ m.made → ⊥) × (c i ≡ Some k)) → ((j ≡ m.made) × (k ≡ b)) ⊎ ((j ≡ m.made → ⊥) × (c j ≡ Some k)) → i ≡ j
      mapped_one i j k (inl e) (inl f) = e.0 ∙ sym f.0
      mapped_one i j k (inl e) (inr f) = absurd (not_mapped j k f.1 e.1)
      mapped_one i j k (inr e) (inl f) = absurd (not_mapped i k e.1 f.1)
      mapped_one i j k (inr e) (inr f) = r.one i j k e.1 f.1

      mapped_objects : (j k : ℕ) → ((j ≡ m.made) × (k ≡ b)) ⊎ ((j ≡ m.made → ⊥) × (c j ≡ Some k)) → RelatedObjects with_mapped (now.object j) (m'.object k)
      mapped_objects j k (inl e) =
          subst (λ j. RelatedObjects with_mapped (now.object j) (m'.object k)) (sym e.0)
          (subst (λ k. RelatedObjects with_mapped (now.object m.made) (m'.object k)) (sym e.1)
          (subst (λ x. RelatedObjects with_mapped (now.object m.made) x) (sym (r.holds b old is_held)) made_now))
      mapped_objects j k (inr e) =
          subst (λ x. RelatedObjects with_mapped x (m'.object k)) (sym (others j e.0)) (objects_grow c with_mapped grown_mapped (m.object j) (m'.object k) (r.objects j k e.1))

      mapped_apart : (j k : ℕ) (q : Object) → ((j ≡ m.made) × (k ≡ b)) ⊎ ((j ≡ m.made → ⊥) × (c j ≡ Some k)) → (k ≡ b → ⊥) × (held k ≡ Some q) → ⊥
      mapped_apart j k q (inl e) f = f.0 e.1
      mapped_apart j k q (inr e) f = r.apart j k q e.1 f.1

      pub mapped_aside : RelatedMemories (without held b) with_mapped now m'
      mapped_aside = record {
        before = λ j k e. mapped_before j k (mapped_cases j k e);
        behind_it = λ j k e. mapped_behind j k (mapped_cases j k e);
        one = λ i j k e f. mapped_one i j k (mapped_cases i k e) (mapped_cases j k f);
        objects = λ j k e. mapped_objects j k (mapped_cases j k e);
        held_before = λ k q e. r.held_before k q ((without_cases held b k q e).1);
        holds = λ k q e. r.holds k q ((without_cases held b k q e).1);
        apart = λ j k q e f. mapped_apart j k q (mapped_cases j k e) (without_cases held b k q f);
      }

-- ---- objects of the original that have ended

pub record IsDead (o : Object) : Type 0 where
  pub ended : o.lives ≡ false
  pub empty : (path : Path) → o.cells path ≡ None

dead_related : (c : Correspondence) (o o' : Object) → IsDead o → o.ty ≡ o'.ty → (o.writable ≡ true → o'.writable ≡ true) → RelatedObjects c o o'
dead_related c o o' d same write = record {
  same_type = same;
  live = λ t. absurd (true≢false (sym t ∙ d.ended));
  write = write;
  hold = record { at_path = λ path. nothing_there (o.cells path) (d.empty path) (o'.cells path) };
} where
  nothing_there : (x : Option Scalar) → x ≡ None → (y : Option Scalar) → WhereGiven (RelatedScalars c) x y
  nothing_there None e y = tt
  nothing_there (Some v) e y = absurd (none-some _ (sym e))

pub ended_is_dead : (m : Memory) (k : ℕ) → IsDead ((with_ended m k).object k)
ended_is_dead m k = subst IsDead (sym (cond-true (eqb k k) (record (m.object k) { lives = false; cells = unwritten }) (m.object k) (eq-eqb k k refl))) (record { ended = refl; empty = λ path. refl })

-- a change of one object that isn't this one, or its end
pub still_dead : (m : Memory) (k j : ℕ) (o : Object) → (j ≡ k → ⊥) → IsDead (m.object j) → IsDead ((with_object m k o).object j)
still_dead m k j o differ d = subst IsDead (sym (cond-false (eqb j k) o (m.object j) (ne_eqb j k differ))) d

pub dead_ended : (m : Memory) (k j : ℕ) → IsDead (m.object j) → IsDead ((with_ended m k).object j)
dead_ended m k j d = by_case (cases_eq j k) where
  by_case : (j ≡ k) ⊎ (j ≡ k → ⊥) → IsDead ((with_ended m k).object j)
  by_case (inl same) = subst (λ i. IsDead ((with_ended m k).object i)) (sym same) (ended_is_dead m k)
  by_case (inr differ) = still_dead m k j _ differ d

pub dead_all_ended : (m : Memory) (ks : List ℕ) (j : ℕ) → IsDead (m.object j) → IsDead ((with_all_ended m ks).object j)
dead_all_ended m [] j d = d
dead_all_ended m (k ∷ ks) j d = dead_all_ended (with_ended m k) ks j (dead_ended m k j d)

-- what is written isn't written into it
pub dead_written : (structs : List (List PlainType)) (m now : Memory) (q : Pointer) (v : Value) → written_at structs m q v ≡ Some now → (j : ℕ) → IsDead (m.object j) → IsDead (now.object j)
dead_written structs m now null v e j d = absurd (none-some _ e)
dead_written structs m now (at k path) v e j d = by_test (is_there structs (m.object k) path && (m.object k).writable) refl where
  by_cells : is_there structs (m.object k) path && (m.object k).writable ≡ true → (x : Option Cells) → option_map (λ cells. with_object m k (record (m.object k) { cells = cells })) x ≡ Some now → IsDead (now.object j)
  by_cells t None e = absurd (none-some _ e)
  by_cells t (Some cells) e =
      subst (λ m. IsDead (m.object j)) (some_same e)
      (still_dead m k j _ (λ same. true≢false (sym (and_parts (m.object k).lives (is_inside structs (m.object k).ty path) ((and_parts (is_there structs (m.object k) path) (m.object k).writable t).0)).0 ∙ (ap (λ i. (m.object i).lives) (sym same) ∙ d.ended))) d)

  by_test : (b : Bool) → is_there structs (m.object k) path && (m.object k).writable ≡ b → IsDead (now.object j)
  by_test true t = by_cells t (cells_with (m.object k).cells path v) (sym (cond-true (is_there structs (m.object k) path && (m.object k).writable) _ None t) ∙ e)
  by_test false t = absurd (none-some _ (sym (cond-false (is_there structs (m.object k) path && (m.object k).writable) _ None t) ∙ e))

-- the object that stands for this one belongs to an object that has ended
pub record IsLeft (c : Correspondence) (m : Memory) (b : ℕ) : Type 0 where
  pub object : ℕ
  pub stands : c object ≡ Some b
  pub dead : IsDead (m.object object)

module _ (held : HeldAside) (c : Correspondence) (m m' : Memory) (r : RelatedMemories held c m m') where
  -- an object ends in the original first
  pub left_ended : (k b : ℕ) → c k ≡ Some b → RelatedMemories held c (with_ended m k) m'
  left_ended k b e = record {
    before = r.before;
    behind_it = r.behind_it;
    one = r.one;
    objects = λ i l f. by_case i l f (cases_eq i k);
    held_before = r.held_before;
    holds = r.holds;
    apart = r.apart;
  } where
    by_case : (i l : ℕ) → c i ≡ Some l → (i ≡ k) ⊎ (i ≡ k → ⊥) → RelatedObjects c ((with_ended m k).object i) (m'.object l)
    by_case i l f (inl same) =
        let o : RelatedObjects c (m.object i) (m'.object l) = r.objects i l f in
        let o₁ : RelatedObjects c (m.object k) (m'.object l) = subst (λ i. RelatedObjects c (m.object i) (m'.object l)) same o in
        subst (λ i. RelatedObjects c ((with_ended m k).object i) (m'.object l)) (sym same)
        (subst (λ x. RelatedObjects c x (m'.object l)) (sym (cond-true (eqb k k) (record (m.object k) { lives = false; cells = unwritten }) (m.object k) (eq-eqb k k refl)))
        (dead_related c _ (m'.object l) (record { ended = refl; empty = λ path. refl }) o₁.same_type o₁.write))
    by_case i l f (inr differ) = subst (λ x. RelatedObjects c x (m'.object l)) (sym (cond-false (eqb i k) _ (m.object i) (ne_eqb i k differ))) (r.objects i l f)

  -- and in the result afterwards
  pub right_ended : (b : ℕ) → IsLeft c m b → RelatedMemories held c m (with_ended m' b)
  right_ended b left = record {
    before = r.before;
    behind_it = r.behind_it;
    one = r.one;
    objects = λ i l f. by_case i l f (cases_eq l b);
    held_before = r.held_before;
    holds = λ k o e. cond-false (eqb k b) _ (m'.object k) (ne_eqb k b (λ same. r.apart left.object k o (left.stands ∙ ap Some (sym same)) e)) ∙ r.holds k o e;
    apart = r.apart;
  } where
    by_case : (i l : ℕ) → c i ≡ Some l → (l ≡ b) ⊎ (l ≡ b → ⊥) → RelatedObjects c (m.object i) ((with_ended m' b).object l)
    by_case i l f (inl same) =
        let o : RelatedObjects c (m.object i) (m'.object l) = r.objects i l f in
        let which : i ≡ left.object = r.one i left.object b (f ∙ ap Some same) left.stands in
        let o₁ : RelatedObjects c (m.object i) (m'.object b) = subst (λ l. RelatedObjects c (m.object i) (m'.object l)) same o in
        subst (λ l. RelatedObjects c (m.object i) ((with_ended m' b).object l)) (sym same)
        (subst (λ x. RelatedObjects c (m.object i) x) (sym (cond-true (eqb b b) (record (m'.object b) { lives = false; cells = unwritten }) (m'.object b) (eq-eqb b b refl)))
        (dead_related c (m.object i) _ (subst (λ i. IsDead (m.object i)) (sym which) left.dead) o₁.same_type o₁.write))
    by_case i l f (inr differ) = subst (λ x. RelatedObjects c (m.object i) x) (sym (cond-false (eqb l b) _ (m'.object l) (ne_eqb l b differ))) (r.objects i l f)

  pub left_is_dead : (k b : ℕ) → c k ≡ Some b → IsLeft c (with_ended m k) b
  left_is_dead k b e = record { object = k; stands = e; dead = ended_is_dead m k }
