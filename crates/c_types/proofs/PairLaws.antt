-- Comparisons that note pairs of structs: what two types need, and comparisons one after the other.
use Rattle.std.proofs.Common.{◌≡◌, ℕ, zero, suc, ◌+◌, ◌<◌, Bool, true, false, ◌==◌, List, [], ◌∷◌, ◌++◌, Option, Some, None, slice_get, map, add-one, length, get_or, take, refl, sym, ap, ◌∙◌, arith, append_assoc, lit<, if◌then◌else◌}
use Rattle.std.proofs.lemmas.List.{append-nil, length-map}
use Rattle.std.proofs.Math.ListN.{get_or-map}
use Rattle.std.proofs.lemmas.Bool.Decides.{nat_tests}
use Rattle.std.proofs.lemmas.List.Elements.{All-push, AllZip-get_or, All-contains, All-contains_itself, Contains-append_left, Contains-append_right}
use Rattle.std.specs.List.{All, AllZip, Contains}
use Rattle.c_types.specs.declared.pairs.Pair.{Pair}
use Rattle.c_types.specs.declared.pairs.Needs.{Needs}
use Rattle.c_types.specs.declared.pairs.Needs.TheVariants.{Nothing, Structs, Never}
use Rattle.c_types.specs.Types.{PlainType, void, char, unsigned_char, int, unsigned_int, long, unsigned_long, pointer_to, array_of, structure}
use Rattle.c_types.specs.declared.types.Member.{Member}
use Rattle.c_types.specs.Tags.{PlainMember, PlainTag, plain_member}
use Rattle.c_types.specs.Compatible.{pair, Agree, MemberAgrees, TagAgrees, FoundAgree, PairAgrees}
use Rattle.c_types.specs.Pairs.{needed, Met, Adds, Notes}

-- ---- what two types need

met_if : (pairs : List Pair) (t : Bool) (x : Needs) → t ≡ true → Met pairs x → Met pairs (if t then x else Never)
met_if pairs true x e h = h
met_if pairs false x e h = absurd cc

if_met : (pairs : List Pair) (t : Bool) (x : Needs) → Met pairs (if t then x else Never) → (t ≡ true) × Met pairs x
if_met pairs true x h = (refl, h)
if_met pairs false x h = absurd h

same_count : (m n : ℕ) → m ≡ n → (m == n) ≡ true
same_count m n e = grind (arith, nat_tests)

count_same : (m n : ℕ) → (m == n) ≡ true → m ≡ n
count_same m n e = grind (arith, nat_tests)

met_of_agree : (pairs : List Pair) (a b : PlainType) → Agree pairs a b → Met pairs (needed a b)
met_of_agree pairs (pointer_to a) (pointer_to b) h = met_of_agree pairs a b h
met_of_agree pairs (array_of a m) (array_of b n) h =
    met_if pairs (m == n) (needed a b) (same_count m n h.0) (met_of_agree pairs a b h.1)
met_of_agree pairs (structure i) (structure j) h = h
met_of_agree pairs void void h = tt
met_of_agree pairs char char h = tt
met_of_agree pairs unsigned_char unsigned_char h = tt
met_of_agree pairs int int h = tt
met_of_agree pairs unsigned_int unsigned_int h = tt
met_of_agree pairs long long h = tt
met_of_agree pairs unsigned_long unsigned_long h = tt
met_of_agree pairs a b h = absurd cc

agree_of_met : (pairs : List Pair) (a b : PlainType) → Met pairs (needed a b) → Agree pairs a b
agree_of_met pairs (pointer_to a) (pointer_to b) h = agree_of_met pairs a b h
agree_of_met pairs (array_of a m) (array_of b n) h =
    let both = if_met pairs (m == n) (needed a b) h in
    (count_same m n both.0, agree_of_met pairs a b both.1)
agree_of_met pairs (structure i) (structure j) h = h
agree_of_met pairs void void h = refl
agree_of_met pairs char char h = refl
agree_of_met pairs unsigned_char unsigned_char h = refl
agree_of_met pairs int int h = refl
agree_of_met pairs unsigned_int unsigned_int h = refl
agree_of_met pairs long long h = refl
agree_of_met pairs unsigned_long unsigned_long h = refl
agree_of_met pairs a b h = absurd h

-- ---- pairs that are added

pub contains_front : (old new more : List Pair) → new ≡ old ++ more → All (Contains new) old
contains_front old new more e = rw e (λ k d h. Contains-append_left old more _ (All-contains_itself old k d h))

pub adds_pushed : (p : Pair) (old new : List Pair) → new ≡ old ++ p ∷ [] → Adds p old new
adds_pushed p old new e = record {
  more = p ∷ [];
  kept = e;
  has = rw e (Contains-append_right old (p ∷ []) p (0, lit< tt, refl));
  only = λ pairs h k. rw e (All-push (Contains pairs) old p h k);
}

pub notes_nothing : (a b : PlainType) (old : List Pair) → Nothing ≡ needed a b → Notes (λ pairs. Agree pairs a b) old old true
notes_nothing a b old e = record {
  more = [];
  kept = sym (append-nil old);
  enough = λ t. agree_of_met old a b (rw (← e) tt);
  least = λ pairs h k. (refl, h);
}

pub notes_structs : (a b : PlainType) (p : Pair) (old new : List Pair) → Structs p ≡ needed a b → Adds p old new → Notes (λ pairs. Agree pairs a b) old new true
notes_structs a b p old new e adds = record {
  more = adds.more;
  kept = adds.kept;
  enough = λ t. agree_of_met new a b (rw (← e) adds.has);
  least = λ pairs h k. (refl, adds.only pairs h (let m = met_of_agree pairs a b k in rw (← e) at m));
}

pub notes_never : (a b : PlainType) (old : List Pair) → Never ≡ needed a b → Notes (λ pairs. Agree pairs a b) old old false
notes_never a b old e = record {
  more = [];
  kept = sym (append-nil old);
  enough = λ t. absurd cc;
  least = λ pairs h k. absurd (let m = met_of_agree pairs a b k in rw (← e) at m);
}

-- ---- more pairs

pub agree_with_more : (few many : List Pair) (a b : PlainType) → All (Contains many) few → Agree few a b → Agree many a b
agree_with_more few many (pointer_to a) (pointer_to b) h k = agree_with_more few many a b h k
agree_with_more few many (array_of a m) (array_of b n) h k = (k.0, agree_with_more few many a b h k.1)
agree_with_more few many (structure i) (structure j) h k = All-contains (Contains many) few (pair i j) h k
agree_with_more few many a b h k = k

member_with_more : (few many : List Pair) (a b : PlainMember) → All (Contains many) few → MemberAgrees few a b → MemberAgrees many a b
member_with_more few many a b h k = (k.0, agree_with_more few many a.ty b.ty h k.1)

members_with_more : (few many : List Pair) (a b : List PlainMember) → All (Contains many) few → AllZip (MemberAgrees few) a b → AllZip (MemberAgrees many) a b
members_with_more few many [] [] h k = tt
members_with_more few many [] (y ∷ ys) h k = absurd k
members_with_more few many (x ∷ xs) [] h k = absurd k
members_with_more few many (x ∷ xs) (y ∷ ys) h k = (member_with_more few many x y h k.0, members_with_more few many xs ys h k.1)

tag_with_more : (few many : List Pair) (a b : PlainTag) → All (Contains many) few → TagAgrees few a b → TagAgrees many a b
tag_with_more few many a b h k = (k.0, λ p q. members_with_more few many a.members b.members h (k.1 p q))

found_with_more : (few many : List Pair) (a b : Option PlainTag) → All (Contains many) few → FoundAgree few a b → FoundAgree many a b
found_with_more few many (Some a) (Some b) h k = tag_with_more few many a b h k
found_with_more few many (Some a) None h k = absurd k
found_with_more few many None b h k = absurd k

pub pair_with_more : (first second : List PlainTag) (few many : List Pair) (p : Pair) → All (Contains many) few → PairAgrees first second few p → PairAgrees first second many p
pair_with_more first second few many p h k = found_with_more few many (slice_get first p.first) (slice_get second p.second) h k

-- ---- one comparison after another

pub notes_none : (Asked : List Pair → Type 0) (old : List Pair) → Asked old → Notes Asked old old true
notes_none Asked old asked = record { more = []; kept = sym (append-nil old); enough = λ t. asked; least = λ pairs h k. (refl, h) }

pub notes_failed : (Asked : List Pair → Type 0) (old : List Pair) → ((pairs : List Pair) → Asked pairs → ⊥) → Notes Asked old old false
notes_failed Asked old never =
    record { more = []; kept = sym (append-nil old); enough = λ t. absurd cc; least = λ pairs h k. absurd (never pairs k) }

pub notes_same : (Asked Other : List Pair → Type 0) (old new : List Pair) (r : Bool) → ((pairs : List Pair) → Asked pairs → Other pairs) → ((pairs : List Pair) → Other pairs → Asked pairs) → Notes Asked old new r → Notes Other old new r
notes_same Asked Other old new r to from n =
    record { more = n.more; kept = n.kept; enough = λ t. to new (n.enough t); least = λ pairs h k. n.least pairs h (from pairs k) }

pub notes_both : (First Second Both : List Pair → Type 0) (old mid new : List Pair) (r : Bool) → ((few many : List Pair) → All (Contains many) few → First few → First many) → ((pairs : List Pair) → First pairs → Second pairs → Both pairs) → ((pairs : List Pair) → Both pairs → First pairs × Second pairs) → Notes First old mid true → Notes Second mid new r → Notes Both old new r
notes_both First Second Both old mid new r with_more join split f s = record {
  more = f.more ++ s.more;
  kept = s.kept ∙ ap (λ (xs : List Pair). xs ++ s.more) f.kept ∙ append_assoc old f.more s.more;
  enough = λ t. join new (with_more mid new (contains_front mid new s.more s.kept) (f.enough refl)) (s.enough t);
  least = λ pairs h k.
      let parts = split pairs k in
      let front = f.least pairs h parts.0 in
      s.least pairs front.1 parts.1;
}

pub notes_first_failed : (First Both : List Pair → Type 0) (old mid : List Pair) → ((pairs : List Pair) → Both pairs → First pairs) → Notes First old mid false → Notes Both old mid false
notes_first_failed First Both old mid part f =
    record { more = f.more; kept = f.kept; enough = λ t. absurd cc; least = λ pairs h k. f.least pairs h (part pairs k) }

-- ---- members

pub same_length : (R : PlainMember → PlainMember → Type 0) (xs ys : List PlainMember) → AllZip R xs ys → length xs ≡ length ys
same_length R [] [] h = refl
same_length R [] (y ∷ ys) h = absurd h
same_length R (x ∷ xs) [] h = absurd h
same_length R (x ∷ xs) (y ∷ ys) h = ap (λ n. suc n) (same_length R xs ys h.1)

pub zip_more : (R : PlainMember → PlainMember → Type 0) (xs ys : List PlainMember) (i : ℕ) (d e : PlainMember) → i < length xs → i < length ys → AllZip R (take i xs) (take i ys) → R (get_or xs i d) (get_or ys i e) → AllZip R (take (suc i) xs) (take (suc i) ys)
zip_more R [] ys i d e p q h k = absurd (omega arith)
zip_more R (x ∷ xs) [] i d e p q h k = absurd (omega arith)
zip_more R (x ∷ xs) (y ∷ ys) zero d e p q h k = (k, tt)
zip_more R (x ∷ xs) (y ∷ ys) (suc i) d e p q h k = (h.0, zip_more R xs ys i d e (omega arith) (omega arith) h.1 k)

pub zip_parts : (R : PlainMember → PlainMember → Type 0) (xs ys : List PlainMember) (i : ℕ) (d e : PlainMember) → i < length xs → i < length ys → AllZip R (take (suc i) xs) (take (suc i) ys) → AllZip R (take i xs) (take i ys) × R (get_or xs i d) (get_or ys i e)
zip_parts R [] ys i d e p q h = absurd (omega arith)
zip_parts R (x ∷ xs) [] i d e p q h = absurd (omega arith)
zip_parts R (x ∷ xs) (y ∷ ys) zero d e p q h = (tt, h.0)
zip_parts R (x ∷ xs) (y ∷ ys) (suc i) d e p q h =
    let parts = zip_parts R xs ys i d e (omega arith) (omega arith) h.1 in
    ((h.0, parts.0), parts.1)

pub notes_second_failed : (First Second Both : List Pair → Type 0) (old mid new : List Pair) → ((pairs : List Pair) → Both pairs → First pairs × Second pairs) → Notes First old mid true → Notes Second mid new false → Notes Both old new false
notes_second_failed First Second Both old mid new split f s = record {
  more = f.more ++ s.more;
  kept = s.kept ∙ ap (λ (xs : List Pair). xs ++ s.more) f.kept ∙ append_assoc old f.more s.more;
  enough = λ t. absurd cc;
  least = λ pairs h k.
      let parts = split pairs k in
      let front = f.least pairs h parts.0 in
      s.least pairs front.1 parts.1;
}

zip_prefix : (R : PlainMember → PlainMember → Type 0) (xs ys : List PlainMember) (i : ℕ) → AllZip R xs ys → AllZip R (take i xs) (take i ys)
zip_prefix R xs ys zero h = tt
zip_prefix R [] [] (suc i) h = tt
zip_prefix R [] (y ∷ ys) (suc i) h = absurd h
zip_prefix R (x ∷ xs) [] (suc i) h = absurd h
zip_prefix R (x ∷ xs) (y ∷ ys) (suc i) h = (h.0, zip_prefix R xs ys i h.1)

-- the first i members agree
abbrev pub FirstAgree : List Member → List Member → ℕ → List Pair → Type 0
FirstAgree a b i pairs = AllZip (MemberAgrees pairs) (take i (map plain_member a)) (take i (map plain_member b))

pub members_none : (a b : List Member) (old : List Pair) → Notes (FirstAgree a b 0) old old true
members_none a b old = notes_none (FirstAgree a b 0) old tt

first_with_more : (a b : List Member) (i : ℕ) (few many : List Pair) → All (Contains many) few → FirstAgree a b i few → FirstAgree a b i many
first_with_more a b i few many h k = members_with_more few many (take i (map plain_member a)) (take i (map plain_member b)) h k

plain_at : (a : List Member) (i : ℕ) (x : Member) → x ≡ get_or a i x → get_or (map plain_member a) i (plain_member x) ≡ plain_member x
plain_at a i x e = get_or-map plain_member a i x ∙ ap plain_member (sym e)

module _ (a b : List Member) (i : ℕ) (x y : Member) (old mid new : List Pair) (in_a : i < length a) (in_b : i < length b) (at_a : x ≡ get_or a i x) (at_b : y ≡ get_or b i y) where
  below_a : i < length (map plain_member a)
  below_a = simp length-map in_a

  below_b : i < length (map plain_member b)
  below_b = simp length-map in_b

  pub members_more : Notes (FirstAgree a b i) old mid true → Notes (λ pairs. MemberAgrees pairs (plain_member x) (plain_member y)) mid new true → Notes (FirstAgree a b (i + 1)) old new true
  members_more f s =
      rw add-one
      (notes_both (FirstAgree a b i) (λ pairs. MemberAgrees pairs (plain_member x) (plain_member y)) (FirstAgree a b (suc i)) old mid new true
      (first_with_more a b i)
      (λ pairs front last. zip_more (MemberAgrees pairs) _ _ i (plain_member x) (plain_member y) below_a below_b front
      (rw (plain_at a i x at_a, plain_at b i y at_b) last))
      (λ pairs h.
      let parts = zip_parts (MemberAgrees pairs) _ _ i (plain_member x) (plain_member y) below_a below_b h in
      (parts.0, rw (plain_at a i x at_a, plain_at b i y at_b) at parts.1))
      f s)

  pub members_failed : Notes (FirstAgree a b i) old mid true → Notes (λ pairs. MemberAgrees pairs (plain_member x) (plain_member y)) mid new false → Notes (λ pairs. AllZip (MemberAgrees pairs) (map plain_member a) (map plain_member b)) old new false
  members_failed f s =
      notes_second_failed (FirstAgree a b i) (λ pairs. MemberAgrees pairs (plain_member x) (plain_member y)) (λ pairs. AllZip (MemberAgrees pairs) (map plain_member a) (map plain_member b)) old mid new
      (λ pairs h.
      let both = AllZip-get_or (MemberAgrees pairs) (map plain_member a) (map plain_member b) i (plain_member x) (plain_member y) h below_a in
      (zip_prefix (MemberAgrees pairs) (map plain_member a) (map plain_member b) i h, rw (plain_at a i x at_a, plain_at b i y at_b) at both))
      f s
