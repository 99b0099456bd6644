-- Lists of names: the first that is unlawful, and the first that stands earlier.
use Rattle.std.proofs.Common.{◌≡◌, ◌≢◌, ℕ, zero, suc, ◌+◌, ◌<◌, Bool, true, false, not, ◌||◌, cond, length, take, drop, get_or, List, [], ◌∷◌, ◌++◌, map, Bor, Ordering, nat_cmp, refl, sym, ap, subst, ◌∙◌, arith}
use Rattle.std.specs.List.{list_any, Contains}
use Rattle.std.specs.Str.{bytes_eq}
use Rattle.std.specs.Ordering.{is_eq}
use Rattle.std.specs.Cmp.Lexicographic.{slice_cmp}
use Rattle.std.specs.BTreeSet.{BTreeSet, contains, Updates}
use Rattle.std.proofs.lemmas.Bool.{both_ways}
use Rattle.std.proofs.lemmas.List.{map_more}
use Rattle.std.proofs.lemmas.List.Elements.{All-push, All-same, Contains-get_or}
use Rattle.std.proofs.lemmas.List.Folds.{list_any-append}
use Rattle.std.proofs.lemmas.List.Quantifiers.{all_pairs_push}
use Rattle.std.proofs.lemmas.Map.Text.{is_eq-slice_cmp}
use Rattle.std.proofs.lemmas.Map.Views.{Contains-from_any, list_any-from_Contains}
use Rattle.std.proofs.lemmas.Cmp.{nat_list_eq_equiv}
use Rattle.std.proofs.lemmas.Slice.Eq.{bytes_eq-Decides}
use Rattle.c_names.specs.Names.{is_new_name}
use Rattle.project_file.specs.Projects.{AllDiffer, AreFeatureNames}
use Rattle.project_file.specs.Faults.{IsFirstUnlawful, IsFirstRepeated}

-- a list parted at an element
pub map-parted : {X Y : Type 0} (f : X → Y) (xs : List X) (i : ℕ) (x : X) → i < length xs → x ≡ get_or xs i x → map f xs ≡ map f (take i xs) ++ f x ∷ map f (drop (suc i) xs)
map-parted f [] i x h is = absurd (omega arith)
map-parted f (y ∷ xs) zero x h is = ap (λ z. f z ∷ map f xs) (sym is)
map-parted f (y ∷ xs) (suc i) x h is = ap (λ zs. f y ∷ zs) (map-parted f xs i x (omega arith) is)

-- the elements so far, and then the next
pub map-next : {X Y : Type 0} (f : X → Y) (xs : List X) (i : ℕ) (x : X) → i < length xs → x ≡ get_or xs i x → map f (take (i + 1) xs) ≡ map f (take i xs) ++ f x ∷ []
map-next f xs i x h is = map_more f xs i x h ∙ ap (λ z. map f (take i xs) ++ f z ∷ []) (sym is)

pub lawful_more : {X : Type 0} (f : X → List ℕ) (xs : List X) (i : ℕ) (x : X) → i < length xs → x ≡ get_or xs i x
    → AreFeatureNames (map f (take i xs)) → is_new_name (f x) ≡ true → AreFeatureNames (map f (take (i + 1) xs))
lawful_more f xs i x h is so_far good =
    let P : List ℕ → Type 0 = λ name. is_new_name name ≡ true in
    All-same P _ _ (map-next f xs i x h is) (All-push P (map f (take i xs)) (f x) so_far good)

pub first_unlawful : {X : Type 0} (f : X → List ℕ) (xs : List X) (i : ℕ) (x : X) → i < length xs → x ≡ get_or xs i x
    → AreFeatureNames (map f (take i xs)) → is_new_name (f x) ≡ false → IsFirstUnlawful (map f xs) (f x)
first_unlawful f xs i x h is so_far bad = record {
  before = map f (take i xs);
  after = map f (drop (suc i) xs);
  split = map-parted f xs i x h is;
  lawful = so_far;
  unlawful = bad;
}

abbrev pub str_cmp : Bor (List ℕ) → Bor (List ℕ) → Ordering
str_cmp a b = slice_cmp nat_cmp a.now b.now

abbrev pub text_of : Bor (List ℕ) → List ℕ
text_of name = name.now

-- the set holds these names
pub record HoldsNames (set : BTreeSet (Bor (List ℕ))) (names : List (List ℕ)) : Type 0 where
  pub holds : (q : Bor (List ℕ)) → contains str_cmp set q ≡ list_any (bytes_eq q.now) names
  pub differ : AllDiffer names

cond_or : (a b : Bool) → cond a true b ≡ (b || (a || false))
cond_or true true = refl
cond_or true false = refl
cond_or false true = refl
cond_or false false = refl

bytes_eq_sym : (a b : List ℕ) → bytes_eq a b ≡ bytes_eq b a
bytes_eq_sym a b = nat_list_eq_equiv.symm a b

not_among : (names : List (List ℕ)) (name : List ℕ) → list_any (bytes_eq name) names ≡ false → (k : ℕ) (d : List ℕ) → k < length names → get_or names k d ≢ name
not_among names name out k d h is =
    both_ways (list_any (bytes_eq name) names) out
    (list_any-from_Contains nat_list_eq_equiv name names (subst (λ n. Contains names n) is (Contains-get_or names k d h)))

pub no_names : (set : BTreeSet (Bor (List ℕ))) → ((q : Bor (List ℕ)) → contains str_cmp set q ≡ false) → HoldsNames set []
no_names set e = record { holds = λ q. e q; differ = λ i j d a b. absurd (omega arith) }

-- a new name goes into the set
pub names_more : (set set' : BTreeSet (Bor (List ℕ))) (xs : List (Bor (List ℕ))) (i : ℕ) (x : Bor (List ℕ)) → i < length xs → x ≡ get_or xs i x
    → HoldsNames set (map text_of (take i xs)) → contains str_cmp set x ≡ false → Updates str_cmp set set' x true
    → HoldsNames set' (map text_of (take (i + 1) xs))
names_more set set' xs i x h is held new updates =
    let names = map text_of (take i xs) in
    let no : list_any (bytes_eq x.now) names ≡ false = sym (held.holds x) ∙ new in
    rw (map-next text_of xs i x h is)
    (record {
      holds = λ q.
          let e : is_eq (slice_cmp nat_cmp x.now q.now) ≡ bytes_eq q.now x.now = is_eq-slice_cmp x.now q.now ∙ bytes_eq_sym x.now q.now in
          updates.0 q ∙ ap (λ t. cond t true (contains str_cmp set q)) e ∙ ap (λ t. cond (bytes_eq q.now x.now) true t) (held.holds q)
          ∙ cond_or (bytes_eq q.now x.now) (list_any (bytes_eq q.now) names)
          ∙ sym (list_any-append (bytes_eq q.now) names (x.now ∷ []));
      differ = all_pairs_push (λ a b. a ≢ b) names x.now held.differ (not_among names x.now no);
    })

-- a name that the set holds stands earlier
pub first_repeated : (set : BTreeSet (Bor (List ℕ))) (xs : List (Bor (List ℕ))) (i : ℕ) (x : Bor (List ℕ)) → i < length xs → x ≡ get_or xs i x
    → HoldsNames set (map text_of (take i xs)) → contains str_cmp set x ≡ true → IsFirstRepeated (map text_of xs) x.now
first_repeated set xs i x h is held old =
    let names = map text_of (take i xs) in
    record {
      before = names;
      after = map text_of (drop (suc i) xs);
      split = map-parted text_of xs i x h is;
      differ = held.differ;
      earlier = Contains-from_any (λ a b e. (bytes_eq-Decides a b).0 e) x.now names (sym (held.holds x) ∙ old);
    }

pub get_or-self : {X : Type 0} (xs : List X) (i : ℕ) (d : X) → i < length xs → get_or xs i d ≡ get_or xs i (get_or xs i d)
get_or-self [] i d h = absurd (omega arith)
get_or-self (x ∷ xs) zero d h = refl
get_or-self (x ∷ xs) (suc i) d h = get_or-self xs i d (omega arith)

pub held : (b : Bool) (added : Bool) → added ≡ not b → added ≡ false → b ≡ true
held true added e f = refl
held false added e f = let g : ◌≡◌ {A = Bool} true false = sym e ∙ f in cc

pub not_held : (b : Bool) (added : Bool) → added ≡ not b → added ≡ true → b ≡ false
not_held false added e f = refl
not_held true added e f = let g : ◌≡◌ {A = Bool} false true = sym e ∙ f in cc
