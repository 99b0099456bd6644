-- One symbol more on a walk that looks for the names of a renaming.
use Rattle.std.proofs.Common.{◌≡◌, ℕ, ◌+◌, ◌-◌, ◌^◌, min, Bool, true, false, ◌||◌, ◌&&◌, cond, if◌then◌else◌, List, [], ◌∷◌, ◌++◌, Option, Some, None, length, count_by, is_some, refl, subst, sym, ◌∙◌, ap, arith, zero-add, add-zero}
use Rattle.std.proofs.lemmas.List.Sums.{sum_by-append}
use Rattle.std.proofs.lemmas.List.Folds.{list_any-append}
use Rattle.std.specs.List.{list_any}
use Rattle.quick_form.specs.Symbols.{Symbol, Int, Name, uses, mentions}
use Rattle.quick_parser.specs.Laws.{declares, begins_with_name}
use Rattle.quick_rename.specs.declared.scan.Scan.{Scan}
use Rattle.quick_form.specs.Places.{Placed, name_of, first_name}
use Rattle.quick_form.proofs.PlaceLemmas.{spelled_append}
use Rattle.quick_rename.specs.Scans.{is_int, ends_with_int, uses_one_of, first_of, Scanned, ScannedPlaces}
use Rattle.quick_rename.specs.Visits.{spelled}

ends_more : (ks : List Symbol) (k : Symbol) → ends_with_int (ks ++ k ∷ []) ≡ is_int k
ends_more [] k = refl
ends_more (x ∷ []) k = refl
ends_more (x ∷ y ∷ ks) k = ends_more (y ∷ ks) k

or_no : (b : Bool) → (b || false) ≡ b
or_no true = refl
or_no false = refl

or_group : (a b c : Bool) → ((a || b) || c) ≡ (a || (b || c))
or_group true b c = refl
or_group false b c = refl

-- behind a symbol that isn't `int`, nothing is declared by it
begins_more : (n : List ℕ) (x : Symbol) (ks : List Symbol) (k : Symbol) → begins_with_name n ((x ∷ ks) ++ k ∷ []) ≡ begins_with_name n (x ∷ ks)
begins_more n (Name m) ks k = refl
begins_more n x ks k = refl

begins_one : (n : List ℕ) (k : Symbol) → begins_with_name n (k ∷ []) ≡ uses n k
begins_one n (Name m) = refl
begins_one n k = refl

declares_one : (n : List ℕ) (k : Symbol) → declares n (k ∷ []) ≡ false
declares_one n Int = refl
declares_one n k = refl

declares_more : (n : List ℕ) (ks : List Symbol) (k : Symbol) → declares n (ks ++ k ∷ []) ≡ (declares n ks || (ends_with_int ks && uses n k))
declares_more n [] k = declares_one n k
declares_more n (Int ∷ []) k = ap (λ b. b || declares n (k ∷ [])) (begins_one n k) ∙ (ap (λ b. uses n k || b) (declares_one n k) ∙ or_no (uses n k))
declares_more n (Int ∷ y ∷ ks) k =
    ap (λ b. b || declares n ((y ∷ ks) ++ k ∷ [])) (begins_more n y ks k)
    ∙ (ap (λ b. begins_with_name n (y ∷ ks) || b) (declares_more n (y ∷ ks) k)
    ∙ sym (or_group (begins_with_name n (y ∷ ks)) (declares n (y ∷ ks)) (ends_with_int (y ∷ ks) && uses n k)))
declares_more n (x ∷ []) k = declares_one n k
declares_more n (x ∷ y ∷ ks) k = declares_more n (y ∷ ks) k

count_more : (p : Symbol → Bool) (ks : List Symbol) (k : Symbol) → count_by p (ks ++ k ∷ []) ≡ count_by p ks + cond (p k) 1 0
count_more p ks k = sum_by-append (λ x. cond (p x) 1 0) ks (k ∷ []) ∙ simp (zero-add, add-zero)

any_more : (p : Symbol → Bool) (ks : List Symbol) (k : Symbol) → list_any p (ks ++ k ∷ []) ≡ (list_any p ks || p k)
any_more p ks k = list_any-append p ks (k ∷ []) ∙ ap (λ b. list_any p ks || b) (or_no (p k))

counted_more : (b : Bool) (n : ℕ) → (if b then min (min n (2 ^ 64 - 1) + 1) (2 ^ 64 - 1) else min n (2 ^ 64 - 1)) ≡ min (n + cond b 1 0) (2 ^ 64 - 1)
counted_more true n = omega arith
counted_more false n = omega arith

-- all that was found, after one symbol more
pub scanned_more : (s t : Scan) (ks : List Symbol) (k : Symbol) (used mention test : Bool) → Scanned s ks
    → t.old.now ≡ s.old.now → t.new.now ≡ s.new.now → t.parser.now.tested_names ≡ s.parser.now.tested_names
    → used ≡ uses s.old.now k → mention ≡ mentions s.new.now k → test ≡ uses_one_of s.parser.now.tested_names k
    → t.declares_old ≡ (s.declares_old || (s.follows_int && used))
    → t.tokens ≡ (if used then min (s.tokens + 1) (2 ^ 64 - 1) else s.tokens)
    → is_some t.first_new ≡ (is_some s.first_new || mention)
    → is_some t.first_tested ≡ (is_some s.first_tested || test)
    → t.follows_int ≡ is_int k
    → Scanned t (ks ++ k ∷ [])
scanned_more s t ks k used mention test h o n p u m e d c f g i = record {
  follows = i ∙ sym (ends_more ks k);
  declares_it =
      d ∙ (ap (λ b. b || (s.follows_int && used)) h.declares_it ∙ (ap (λ b. declares s.old.now ks || (b && used)) h.follows
      ∙ (ap (λ b. declares s.old.now ks || (ends_with_int ks && b)) u ∙ (sym (declares_more s.old.now ks k) ∙ ap (λ w. declares w (ks ++ k ∷ [])) (sym o)))));
  tokens_are =
      c ∙ (ap (λ b. cond b (min (s.tokens + 1) (2 ^ 64 - 1)) s.tokens) u
      ∙ (ap (λ m. cond (uses s.old.now k) (min (m + 1) (2 ^ 64 - 1)) m) h.tokens_are
      ∙ (counted_more (uses s.old.now k) (count_by (uses s.old.now) ks)
      ∙ (ap (λ m. min m (2 ^ 64 - 1)) (sym (count_more (uses s.old.now) ks k)) ∙ ap (λ w. min (count_by (uses w) (ks ++ k ∷ [])) (2 ^ 64 - 1)) (sym o)))));
  mentions_new =
      f ∙ (ap (λ b. b || mention) h.mentions_new ∙ (ap (λ b. list_any (mentions s.new.now) ks || b) m
      ∙ (sym (any_more (mentions s.new.now) ks k) ∙ ap (λ w. list_any (mentions w) (ks ++ k ∷ [])) (sym n))));
  uses_tested =
      g ∙ (ap (λ b. b || test) h.uses_tested ∙ (ap (λ b. list_any (uses_one_of s.parser.now.tested_names) ks || b) e
      ∙ (sym (any_more (uses_one_of s.parser.now.tested_names) ks k) ∙ ap (λ w. list_any (uses_one_of w) (ks ++ k ∷ [])) (sym p))));
}

-- THE PLACES

some_first : (o : Option ℕ) (b : Bool) (i : ℕ) → is_some (first_of o b i) ≡ (is_some o || b)
some_first (Some j) b i = refl
some_first None true i = refl
some_first None false i = refl

first_name-if : (t : Bool) (p : Symbol → Bool) (x : Placed) (ks : List Placed) (k : Placed) (o : Option ℕ) → o ≡ first_of (first_name p ks) (p k.symbol) (k.end - length (name_of k.symbol))
    → cond t (Some (x.end - length (name_of x.symbol))) o ≡ first_of (cond t (Some (x.end - length (name_of x.symbol))) (first_name p ks)) (p k.symbol) (k.end - length (name_of k.symbol))
first_name-if true p x ks k o e = refl
first_name-if false p x ks k o e = e

first_name-more : (p : Symbol → Bool) (ks : List Placed) (k : Placed) → first_name p (ks ++ k ∷ []) ≡ first_of (first_name p ks) (p k.symbol) (k.end - length (name_of k.symbol))
first_name-more p [] k = refl
first_name-more p (x ∷ ks) k = first_name-if (p x.symbol) p x ks k (first_name p (ks ++ k ∷ [])) (first_name-more p ks k)

pub scanned_places_more : (s t : Scan) (ks : List Placed) (k : Placed) (used mention test : Bool) (start : ℕ) → ScannedPlaces s ks
    → t.old.now ≡ s.old.now → t.new.now ≡ s.new.now → t.parser.now.tested_names ≡ s.parser.now.tested_names
    → used ≡ uses s.old.now k.symbol → mention ≡ mentions s.new.now k.symbol → test ≡ uses_one_of s.parser.now.tested_names k.symbol
    → start ≡ k.end - length (name_of k.symbol)
    → t.declares_old ≡ (s.declares_old || (s.follows_int && used))
    → t.tokens ≡ (if used then min (s.tokens + 1) (2 ^ 64 - 1) else s.tokens)
    → t.first_new ≡ first_of s.first_new mention start
    → t.first_tested ≡ first_of s.first_tested test start
    → t.follows_int ≡ is_int k.symbol
    → ScannedPlaces t (ks ++ k ∷ [])
scanned_places_more s t ks k used mention test start h o n p u m e at d c f g i = record {
  known = subst (Scanned t) (sym (spelled_append ks (k ∷ []))) (scanned_more s t (spelled ks) k.symbol used mention test h.known o n p u m e d c (ap is_some f ∙ some_first s.first_new mention start) (ap is_some g ∙ some_first s.first_tested test start) i);
  new_at =
      f ∙ (ap (λ w. first_of w mention start) h.new_at ∙ (ap (λ b. first_of (first_name (mentions s.new.now) ks) b start) m
      ∙ (ap (λ j. first_of (first_name (mentions s.new.now) ks) (mentions s.new.now k.symbol) j) at
      ∙ (sym (first_name-more (mentions s.new.now) ks k) ∙ ap (λ w. first_name (mentions w) (ks ++ k ∷ [])) (sym n)))));
  tested_at =
      g ∙ (ap (λ w. first_of w test start) h.tested_at ∙ (ap (λ b. first_of (first_name (uses_one_of s.parser.now.tested_names) ks) b start) e
      ∙ (ap (λ j. first_of (first_name (uses_one_of s.parser.now.tested_names) ks) (uses_one_of s.parser.now.tested_names k.symbol) j) at
      ∙ (sym (first_name-more (uses_one_of s.parser.now.tested_names) ks k) ∙ ap (λ w. first_name (uses_one_of w) (ks ++ k ∷ [])) (sym p)))));
}
