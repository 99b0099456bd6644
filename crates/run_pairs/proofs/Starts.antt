-- The objects from the start of two programs are related.
use Rattle.std.proofs.Common.{◌≡◌, ℕ, zero, suc, ◌+◌, ◌-◌, ◌<◌, ◌≤◌, Bool, true, false, List, [], ◌∷◌, ◌++◌, length, map, ◌⊎◌, inl, inr, refl, sym, ◌∙◌, ap, subst, cond, ltb, Option, Some, None, option_map, slice_get, get_or, arith}
use Rattle.std.proofs.lemmas.Bool.{ltb-true, ltb-false}
use Rattle.std.proofs.lemmas.List.{get_or_append_left, get_or-append-add, length-append, length-map}
use Rattle.std.proofs.lemmas.Option.{none-some, slice_get_within, slice_get-map, get_or_from_slice_get}
use Rattle.c_types.specs.Types.{PlainType}
use Rattle.core_meaning.specs.Program.{PlainConstantPart, PlainGlobal, PlainProgram}
use Rattle.core_meaning.specs.Values.{part, Path, Cells, same_path}
use Rattle.core_meaning.specs.Memory.{zeros}
use Rattle.core_meaning.specs.Run.{first_cells, global_object, text_cells, literal_object, no_object, first_objects, memory_of}
use Rattle.run_pairs.specs.Correspondences.{Correspondence, WhereGiven, RelatedScalars, RelatedCells, RelatedObjects, RelatedMemories}
use Rattle.run_pairs.specs.Starts.{first_objects_of, AlikeConstantParts, AlikeGlobals, AlikeStarts}
use Rattle.run_pairs.proofs.MemoryPairs.{some_same}
use Rattle.run_pairs.proofs.Operations.{where_given_map}
use Rattle.run_pairs.proofs.Statements.{zeros_same, cells_choice}

-- ---- globals

first_cells_related : (c : Correspondence) (xs ys : List PlainConstantPart) → AlikeConstantParts c xs ys → (z z' : Cells) → RelatedCells c z z' → (path : Path) → WhereGiven (RelatedScalars c) (first_cells xs z path) (first_cells ys z' path)
first_cells_related c [] [] h z z' r path = r.at_path path
first_cells_related c (x ∷ xs) (y ∷ ys) h z z' r path =
    cells_choice c (same_path path x.path) (same_path path y.path) (ap (same_path path) h.0) (Some x.value) (Some y.value) (first_cells xs z path) (first_cells ys z' path) h.1
    (first_cells_related c xs ys h.2 z z' r path)
first_cells_related c [] (y ∷ ys) h z z' r path = absurd h
first_cells_related c (x ∷ xs) [] h z z' r path = absurd h

global_related : (c : Correspondence) (structs : List (List PlainType)) (g h : PlainGlobal) → g.ty ≡ h.ty → AlikeConstantParts c g.parts h.parts → RelatedObjects c (global_object structs g) (global_object structs h)
global_related c structs g h same parts = record {
  same_type = same;
  live = λ e. e;
  write = λ e. e;
  hold = record {
    at_path = first_cells_related c g.parts h.parts parts (zeros structs g.ty) (zeros structs h.ty) (subst (λ t. RelatedCells c (zeros structs g.ty) (zeros structs t)) same (zeros_same c structs g.ty));
  };
}

alike_length : (c : Correspondence) (gs hs : List PlainGlobal) → AlikeGlobals c gs hs → length gs ≡ length hs
alike_length c [] [] h = refl
alike_length c (g ∷ gs) (h ∷ hs) a = ap suc (alike_length c gs hs a.2)
alike_length c [] (h ∷ hs) a = absurd a
alike_length c (g ∷ gs) [] a = absurd a

pub record GlobalPair (c : Correspondence) (gs hs : List PlainGlobal) (j : ℕ) : Type 0 where
  pub g : PlainGlobal
  pub h : PlainGlobal
  pub there : slice_get gs j ≡ Some g
  pub here : slice_get hs j ≡ Some h
  pub same_type : g.ty ≡ h.ty
  pub parts : AlikeConstantParts c g.parts h.parts

alike_at : (c : Correspondence) (gs hs : List PlainGlobal) → AlikeGlobals c gs hs → (j : ℕ) → j < length gs → GlobalPair c gs hs j
alike_at c (g ∷ gs) (h ∷ hs) a zero less = record { g = g; h = h; there = refl; here = refl; same_type = a.0; parts = a.1 }
alike_at c (g ∷ gs) (h ∷ hs) a (suc j) less =
    let x = alike_at c gs hs a.2 j (omega (arith, less)) in
    record { g = x.g; h = x.h; there = x.there; here = x.here; same_type = x.same_type; parts = x.parts }
alike_at c [] [] a j less = absurd (omega (arith, less))
alike_at c [] (h ∷ hs) a j less = absurd a
alike_at c (g ∷ gs) [] a j less = absurd a

-- ---- texts

text_cells_same : (c : Correspondence) (text : List ℕ) (path : Path) → WhereGiven (RelatedScalars c) (text_cells text path) (text_cells text path)
text_cells_same c text (part k ∷ []) = where_given_map (RelatedScalars c) _ _ (slice_get _ k) (λ b. refl)
text_cells_same c text path = tt

text_related : (c : Correspondence) (text : List ℕ) → RelatedObjects c (literal_object text) (literal_object text)
text_related c text = record { same_type = refl; live = λ e. e; write = λ e. e; hold = record { at_path = text_cells_same c text } }

-- ---- memories

module _ (p p' : PlainProgram) (texts : ℕ → Option ℕ) (structs : p.structs ≡ p'.structs) (starts : AlikeStarts p p' texts) where
  abbrev first : Correspondence
  first = first_objects_of p texts

  abbrev count : ℕ
  count = length p.globals

  same_count : count ≡ length p'.globals
  same_count = alike_length first p.globals p'.globals starts.globals

  Either : ℕ → ℕ → Type 0
  Either j k = ((j < count) × (j ≡ k)) ⊎ ((i : ℕ) × (l : ℕ) × (j ≡ count + i) × (k ≡ count + l) × (texts i ≡ Some l))

  text_of : (j k : ℕ) → count ≤ j → (x : Option ℕ) → texts (j - count) ≡ x → option_map (λ i. count + i) x ≡ Some k → Either j k
  unfolding Either
  text_of j k more None e f = absurd (none-some _ f)
  text_of j k more (Some l) e f = inr (j - count, l, omega (arith, more), sym (some_same f), e)

  by_place : (j k : ℕ) (b : Bool) → ltb j count ≡ b → cond b (Some j) (option_map (λ i. count + i) (texts (j - count))) ≡ Some k → Either j k
  unfolding Either
  by_place j k true e f = inl (ltb-true j count e, some_same f)
  by_place j k false e f = text_of j k (ltb-false j count e) (texts (j - count)) refl f

  either : (j k : ℕ) → first j ≡ Some k → Either j k
  either j k e = by_place j k (ltb j count) refl e

  made_is : (q : PlainProgram) → length (first_objects q) ≡ length q.globals + length q.literals
  made_is q =
      length-append (map (global_object q.structs) q.globals) (map literal_object q.literals) ∙
      (ap (λ n. n + length (map literal_object q.literals)) (length-map q.globals (global_object q.structs)) ∙
      ap (λ n. length q.globals + n) (length-map q.literals literal_object))

  global_at : (q : PlainProgram) (j : ℕ) (g : PlainGlobal) → slice_get q.globals j ≡ Some g → (memory_of (first_objects q)).object j ≡ global_object q.structs g
  global_at q j g e =
      let less : j < length q.globals = slice_get_within q.globals j g e in
      let there : j < length (map (global_object q.structs) q.globals) = subst (λ n. j < n) (sym (length-map q.globals (global_object q.structs))) less in
      get_or_append_left (map (global_object q.structs) q.globals) (map literal_object q.literals) no_object j there ∙
      get_or_from_slice_get (map (global_object q.structs) q.globals) j (global_object q.structs g) no_object (slice_get-map (global_object q.structs) q.globals j ∙ ap (option_map (global_object q.structs)) e)

  text_at : (q : PlainProgram) (n i : ℕ) → n ≡ length q.globals → (text : List ℕ) → slice_get q.literals i ≡ Some text → (memory_of (first_objects q)).object (n + i) ≡ literal_object text
  text_at q n i same text e =
      ap (λ n. get_or (map (global_object q.structs) q.globals ++ map literal_object q.literals) (n + i) no_object) (same ∙ sym (length-map q.globals (global_object q.structs))) ∙
      (get_or-append-add (map (global_object q.structs) q.globals) (map literal_object q.literals) i no_object ∙
      get_or_from_slice_get (map literal_object q.literals) i (literal_object text) no_object (slice_get-map literal_object q.literals i ∙ ap (option_map literal_object) e))

  objects_of : (j k : ℕ) → Either j k → RelatedObjects first ((memory_of (first_objects p)).object j) ((memory_of (first_objects p')).object k)
  unfolding Either
  objects_of j k (inl e) =
      let x = alike_at first p.globals p'.globals starts.globals j e.0 in
      subst (λ k. RelatedObjects first ((memory_of (first_objects p)).object j) ((memory_of (first_objects p')).object k)) e.1
      (subst (λ o. RelatedObjects first o ((memory_of (first_objects p')).object j)) (sym (global_at p j x.g x.there))
      (subst (λ o. RelatedObjects first (global_object p.structs x.g) o) (sym (global_at p' j x.h x.here))
      (subst (λ ss. RelatedObjects first (global_object p.structs x.g) (global_object ss x.h)) structs (global_related first p.structs x.g x.h x.same_type x.parts))))
  objects_of j k (inr e) =
      let t = starts.same_texts e.0 e.1 e.4 in
      subst (λ j. RelatedObjects first ((memory_of (first_objects p)).object j) ((memory_of (first_objects p')).object k)) (sym e.2)
      (subst (λ k. RelatedObjects first ((memory_of (first_objects p)).object (count + e.0)) ((memory_of (first_objects p')).object k)) (sym e.3)
      (subst (λ o. RelatedObjects first o ((memory_of (first_objects p')).object (count + e.1))) (sym (text_at p count e.0 refl t.0 t.1))
      (subst (λ o. RelatedObjects first (literal_object t.0) o) (sym (text_at p' count e.1 same_count t.0 t.2)) (text_related first t.0))))

  before_of : (j k : ℕ) → Either j k → suc j ≤ length (first_objects p)
  unfolding Either
  before_of j k (inl e) = subst (λ n. suc j ≤ n) (sym (made_is p)) (omega (arith, e.0))
  before_of j k (inr e) =
      let t = starts.same_texts e.0 e.1 e.4 in
      let less : e.0 < length p.literals = slice_get_within p.literals e.0 t.0 t.1 in
      subst (λ n. suc j ≤ n) (sym (made_is p)) (omega (arith, less, e.2))

  behind_of : (j k : ℕ) → Either j k → suc k ≤ length (first_objects p')
  unfolding Either
  behind_of j k (inl e) = let same = same_count in subst (λ n. suc k ≤ n) (sym (made_is p')) (omega (arith, e.0, e.1, same))
  behind_of j k (inr e) =
      let same = same_count in
      let t = starts.same_texts e.0 e.1 e.4 in
      let less : e.1 < length p'.literals = slice_get_within p'.literals e.1 t.0 t.2 in
      subst (λ n. suc k ≤ n) (sym (made_is p')) (omega (arith, less, e.3, same))

  one_of : (i j k : ℕ) → Either i k → Either j k → i ≡ j
  unfolding Either
  one_of i j k (inl e) (inl f) = e.1 ∙ sym f.1
  one_of i j k (inl e) (inr f) = absurd (omega (arith, e.0, e.1, f.3))
  one_of i j k (inr e) (inl f) = absurd (omega (arith, f.0, f.1, e.3))
  one_of i j k (inr e) (inr f) =
      let same : e.1 ≡ f.1 = omega (arith, e.3, f.3) in
      let text : e.0 ≡ f.0 = starts.one e.0 f.0 f.1 (e.4 ∙ ap Some same) f.4 in
      e.2 ∙ (ap (λ i. count + i) text ∙ sym f.2)

  pub starts_related : RelatedMemories (λ k. None) first (memory_of (first_objects p)) (memory_of (first_objects p'))
  starts_related = record {
    before = λ j k e. before_of j k (either j k e);
    behind_it = λ j k e. behind_of j k (either j k e);
    one = λ i j k e f. one_of i j k (either i k e) (either j k f);
    objects = λ j k e. objects_of j k (either j k e);
    held_before = λ k o e. absurd (none-some o e);
    holds = λ k o e. absurd (none-some o e);
    apart = λ j k o e f. absurd (none-some o f);
  }
