-- Objects of the result that stand for none, and hold what they were given.
use Rattle.std.proofs.Common.{◌≡◌, ℕ, suc, ◌≤◌, List, [], ◌⊎◌, inl, inr, refl, sym, ◌∙◌, ap, subst, cond, eqb, ◌&&◌, Some, None, option_map, if◌then◌else◌, arith}
use Rattle.std.proofs.lemmas.Bool.{cond-true, cond-false, cases_eq, eq-eqb, ne_eqb}
use Rattle.c_types.specs.Types.{PlainType}
use Rattle.core_meaning.specs.Values.{at, Scalar, scalar}
use Rattle.core_meaning.specs.Memory.{Object, Memory, unwritten, fresh, with_object, with_new, with_ended, cells_with, is_there, written_at}
use Rattle.run_pairs.specs.Correspondences.{Correspondence, RelatedObjects, holding, HeldAside, RelatedMemories}
use Rattle.run_pairs.proofs.MemoryPairs.{some_same}

abbrev pub held_with : HeldAside → ℕ → Object → HeldAside
held_with held b o k = cond (eqb k b) (Some o) (held k)

abbrev pub put : Memory → PlainType → Scalar → Memory
put m t v = with_object (with_new m (fresh t unwritten)) m.made (holding t v)

pub written_new : (structs : List (List PlainType)) (m : Memory) (t : PlainType) (v : Scalar) → written_at structs (with_new m (fresh t unwritten)) (at m.made []) (scalar v) ≡ Some (put m t v)
written_new structs m t v =
    subst (λ o. (if is_there structs o [] && o.writable then option_map (λ cells. with_object (with_new m (fresh t unwritten)) m.made (record o { cells = cells })) (cells_with o.cells [] (scalar v)) else None) ≡ Some (put m t v))
    (sym (cond-true (eqb m.made m.made) (fresh t unwritten) (m.object m.made) (eq-eqb m.made m.made refl))) refl

module _ (held : HeldAside) (c : Correspondence) (m m' : Memory) (r : RelatedMemories held c m m') (t : PlainType) (v : Scalar) where
  abbrev it : Object
  it = holding t v

  untouched : (k : ℕ) → (k ≡ m'.made → ⊥) → (put m' t v).object k ≡ m'.object k
  untouched k differ = cond-false (eqb k m'.made) it _ (ne_eqb k m'.made differ) ∙ cond-false (eqb k m'.made) (fresh t unwritten) (m'.object k) (ne_eqb k m'.made differ)

  old : (k : ℕ) → suc k ≤ m'.made → k ≡ m'.made → ⊥
  old k less same = absurd (omega (arith, less, same))

  Either : ℕ → Object → Type 0
  Either k o = ((k ≡ m'.made) × (it ≡ o)) ⊎ ((k ≡ m'.made → ⊥) × (held k ≡ Some o))

  held_cases : (k : ℕ) (o : Object) → held_with held m'.made it k ≡ Some o → Either k o
  unfolding Either
  held_cases k o f = by_case (cases_eq k m'.made) where
    by_case : (k ≡ m'.made) ⊎ (k ≡ m'.made → ⊥) → ((k ≡ m'.made) × (it ≡ o)) ⊎ ((k ≡ m'.made → ⊥) × (held k ≡ Some o))
    by_case (inl same) = inl (same, some_same (sym (cond-true (eqb k m'.made) (Some it) (held k) (eq-eqb k m'.made same)) ∙ f))
    by_case (inr differ) = inr (differ, sym (cond-false (eqb k m'.made) (Some it) (held k) (ne_eqb k m'.made differ)) ∙ f)

  put_before : (k : ℕ) (o : Object) → Either k o → suc k ≤ suc m'.made
  unfolding Either
  put_before k o (inl e) = omega (arith, e.0)
  put_before k o (inr e) = let less : suc k ≤ m'.made = r.held_before k o e.1 in omega (arith, less)

  put_holds : (k : ℕ) (o : Object) → Either k o → (put m' t v).object k ≡ o
  unfolding Either
  put_holds k o (inl e) = cond-true (eqb k m'.made) it _ (eq-eqb k m'.made e.0) ∙ e.1
  put_holds k o (inr e) = untouched k e.0 ∙ r.holds k o e.1

  put_apart : (j k : ℕ) (o : Object) → c j ≡ Some k → Either k o → ⊥
  unfolding Either
  put_apart j k o e (inl f) = old k (r.behind_it j k e) f.0
  put_apart j k o e (inr f) = r.apart j k o e f.1

  pub related_put : RelatedMemories (held_with held m'.made it) c m (put m' t v)
  related_put = record {
    before = r.before;
    behind_it = λ j k e. let less : suc k ≤ m'.made = r.behind_it j k e in omega (arith, less);
    one = r.one;
    objects = λ j k e. subst (λ o. RelatedObjects c (m.object j) o) (sym (untouched k (old k (r.behind_it j k e)))) (r.objects j k e);
    held_before = λ k o f. put_before k o (held_cases k o f);
    holds = λ k o f. put_holds k o (held_cases k o f);
    apart = λ j k o e f. put_apart j k o e (held_cases k o f);
  }

-- its end
module _ (held : HeldAside) (b : ℕ) (v : Object) (c : Correspondence) (m m' : Memory) (r : RelatedMemories (held_with held b v) c m m') (new : (k : ℕ) (w : Object) → held k ≡ Some w → k ≡ b → ⊥) where
  here : held_with held b v b ≡ Some v
  here = cond-true (eqb b b) (Some v) (held b) (eq-eqb b b refl)

  stays : (k : ℕ) → (k ≡ b → ⊥) → (with_ended m' b).object k ≡ m'.object k
  stays k differ = cond-false (eqb k b) _ (m'.object k) (ne_eqb k b differ)

  still : (k : ℕ) (w : Object) → held k ≡ Some w → held_with held b v k ≡ Some w
  still k w f = cond-false (eqb k b) (Some v) (held k) (ne_eqb k b (new k w f)) ∙ f

  pub related_ended : RelatedMemories held c m (with_ended m' b)
  related_ended = record {
    before = r.before;
    behind_it = r.behind_it;
    one = r.one;
    objects = λ j k e. subst (λ o. RelatedObjects c (m.object j) o) (sym (stays k (λ same. r.apart j b v (e ∙ ap Some same) here))) (r.objects j k e);
    held_before = λ k w f. r.held_before k w (still k w f);
    holds = λ k w f. stays k (new k w f) ∙ r.holds k w (still k w f);
    apart = λ j k w e f. r.apart j k w e (still k w f);
  }
