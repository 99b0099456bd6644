-- Types are compatible where they agree but for structs that are alike to a depth at which nothing changes any more.
use Rattle.std.proofs.Common.{arith, ◌≡◌, ℕ, zero, suc, ◌<◌, Bool, true, false, not, List, [], ◌∷◌, length, refl, sym, subst, ◌∙◌}
use Rattle.std.specs.Prelude.{◌==◌, ◌&&◌, Option, Some, None, is_some, slice_get}
use Rattle.std.specs.Str.{bytes_eq}
use Rattle.std.specs.List.{AllZip, Contains}
use Rattle.std.proofs.lemmas.Bool.{false≢true}
use Rattle.std.proofs.lemmas.Bool.Decides.{nat_tests}
use Rattle.std.proofs.lemmas.Slice.Eq.{bytes_eq-Decides}
use Rattle.std.proofs.lemmas.Option.{slice_get_within}
use Rattle.std.proofs.lemmas.List.Elements.{All-contains}
use Rattle.c_types.specs.declared.pairs.Pair.{Pair}
use Rattle.c_types.specs.Types.{PlainType, void, char, unsigned_char, int, unsigned_int, long, unsigned_long, pointer_to, array_of, structure}
use Rattle.c_types.specs.Tags.{PlainMember, PlainTag}
use Rattle.c_types.specs.Compatible.{pair, Agree, MemberAgrees, FoundAgree, PairAgrees, Compatible}
use Rattle.cond_compatible.specs.Depths.{types_agree, member_agrees, members_agree, structs_agree, alike_to}
use Rattle.cond_compatible.proofs.PairsWhere.{pairs_where, pairs_contain, pairs_hold}

same_count : (m n : ℕ) → m ≡ n → (m == n) ≡ true
same_count m n e = grind (arith, nat_tests)

count_same : (m n : ℕ) → (m == n) ≡ true → m ≡ n
count_same m n e = grind (arith, nat_tests)

pub both_true : (a b : Bool) → a ≡ true → b ≡ true → (a && b) ≡ true
both_true true b h k = k
both_true false b h k = h

pub left_true : (a b : Bool) → (a && b) ≡ true → a ≡ true
left_true true b h = refl
left_true false b h = h

pub right_true : (a b : Bool) → (a && b) ≡ true → b ≡ true
right_true true b h = h
right_true false b h = absurd (false≢true h)

-- ---- what holds of pairs, and of structs that are alike

module _ (pairs : List Pair) (alike : ℕ → ℕ → Bool) where
  module _ (held : (i j : ℕ) → Contains pairs (pair i j) → alike i j ≡ true) where
    pub types_agree_by : (a b : PlainType) → Agree pairs a b → types_agree alike a b ≡ true
    types_agree_by (pointer_to a) (pointer_to b) h = types_agree_by a b h
    types_agree_by (array_of a m) (array_of b n) h = both_true (m == n) (types_agree alike a b) (same_count m n h.0) (types_agree_by a b h.1)
    types_agree_by (structure i) (structure j) h = held i j h
    types_agree_by void void h = refl
    types_agree_by char char h = refl
    types_agree_by unsigned_char unsigned_char h = refl
    types_agree_by int int h = refl
    types_agree_by unsigned_int unsigned_int h = refl
    types_agree_by long long h = refl
    types_agree_by unsigned_long unsigned_long h = refl
    types_agree_by a b h = absurd cc

    pub member_agrees_by : (a b : PlainMember) → MemberAgrees pairs a b → member_agrees alike a b ≡ true
    member_agrees_by a b h =
        both_true (bytes_eq a.name b.name) (types_agree alike a.ty b.ty) ((bytes_eq-Decides a.name b.name).1 h.0) (types_agree_by a.ty b.ty h.1)

    pub members_agree_by : (as_ bs : List PlainMember) → AllZip (MemberAgrees pairs) as_ bs → members_agree alike as_ bs ≡ true
    members_agree_by [] [] h = refl
    members_agree_by [] (b ∷ bs) h = absurd h
    members_agree_by (a ∷ as_) [] h = absurd h
    members_agree_by (a ∷ as_) (b ∷ bs) h =
        both_true (member_agrees alike a b) (members_agree alike as_ bs) (member_agrees_by a b h.0) (members_agree_by as_ bs h.1)

    unless_apart : (a b m : Bool) → (a ≡ true → b ≡ true → m ≡ true) → not (a && b && not m) ≡ true
    unless_apart true true m h = subst (λ x. not (not x) ≡ true) (sym (h refl refl)) refl
    unless_apart true false m h = refl
    unless_apart false b m h = refl

    pub structs_agree_by : (s t : Option PlainTag) → FoundAgree pairs s t → structs_agree alike s t ≡ true
    structs_agree_by None t h = absurd h
    structs_agree_by (Some a) None h = absurd h
    structs_agree_by (Some a) (Some b) h =
        both_true (bytes_eq a.name b.name) (not (a.complete && b.complete && not (members_agree alike a.members b.members)))
        ((bytes_eq-Decides a.name b.name).1 h.0)
        (unless_apart a.complete b.complete (members_agree alike a.members b.members) (λ p q. members_agree_by a.members b.members (h.1 p q)))

  module _ (kept : (i j : ℕ) → alike i j ≡ true → Contains pairs (pair i j)) where
    pub agree_of : (a b : PlainType) → types_agree alike a b ≡ true → Agree pairs a b
    agree_of (pointer_to a) (pointer_to b) h = agree_of a b h
    agree_of (array_of a m) (array_of b n) h =
        (count_same m n (left_true (m == n) (types_agree alike a b) h), agree_of a b (right_true (m == n) (types_agree alike a b) h))
    agree_of (structure i) (structure j) h = kept i j h
    agree_of void void h = refl
    agree_of char char h = refl
    agree_of unsigned_char unsigned_char h = refl
    agree_of int int h = refl
    agree_of unsigned_int unsigned_int h = refl
    agree_of long long h = refl
    agree_of unsigned_long unsigned_long h = refl
    agree_of a b h = absurd (false≢true h)

    member_agrees_of : (a b : PlainMember) → member_agrees alike a b ≡ true → MemberAgrees pairs a b
    member_agrees_of a b h =
        let name = left_true (bytes_eq a.name b.name) (types_agree alike a.ty b.ty) h in
        ((bytes_eq-Decides a.name b.name).0 name, agree_of a.ty b.ty (right_true (bytes_eq a.name b.name) (types_agree alike a.ty b.ty) h))

    members_agree_of : (as_ bs : List PlainMember) → members_agree alike as_ bs ≡ true → AllZip (MemberAgrees pairs) as_ bs
    members_agree_of [] [] h = tt
    members_agree_of [] (b ∷ bs) h = absurd (false≢true h)
    members_agree_of (a ∷ as_) [] h = absurd (false≢true h)
    members_agree_of (a ∷ as_) (b ∷ bs) h = (
      member_agrees_of a b (left_true (member_agrees alike a b) (members_agree alike as_ bs) h),
      members_agree_of as_ bs (right_true (member_agrees alike a b) (members_agree alike as_ bs) h),
    )

    no_apart : (a b m : Bool) → not (a && b && not m) ≡ true → a ≡ true → b ≡ true → m ≡ true
    no_apart true true true h p q = refl
    no_apart true true false h p q = h
    no_apart true false m h p q = absurd (false≢true q)
    no_apart false b m h p q = absurd (false≢true p)

    pub structs_agree_of : (s t : Option PlainTag) → structs_agree alike s t ≡ true → FoundAgree pairs s t
    structs_agree_of None t h = absurd (false≢true h)
    structs_agree_of (Some a) None h = absurd (false≢true h)
    structs_agree_of (Some a) (Some b) h =
        let apart = not (a.complete && b.complete && not (members_agree alike a.members b.members)) in (
          (bytes_eq-Decides a.name b.name).0 (left_true (bytes_eq a.name b.name) apart h),
          λ p q. members_agree_of a.members b.members
              (no_apart a.complete b.complete (members_agree alike a.members b.members) (right_true (bytes_eq a.name b.name) apart h) p q),
        )

-- ---- compatible types

module _ (tags : List PlainTag) where
  found_of : (pairs : List Pair) (s t : Option PlainTag) → FoundAgree pairs s t → (is_some s && is_some t) ≡ true
  found_of pairs None t h = absurd h
  found_of pairs (Some a) None h = absurd h
  found_of pairs (Some a) (Some b) h = refl

  module _ (a b : PlainType) (c : Compatible tags tags a b) where
    alike_by : (depth i j : ℕ) → Contains c.pairs (pair i j) → alike_to tags depth i j ≡ true
    alike_by zero i j h =
        found_of c.pairs (slice_get tags i) (slice_get tags j) (All-contains (PairAgrees tags tags c.pairs) c.pairs (pair i j) c.closed h)
    alike_by (suc depth) i j h =
        both_true (alike_to tags depth i j) (structs_agree (alike_to tags depth) (slice_get tags i) (slice_get tags j)) (alike_by depth i j h)
        (structs_agree_by c.pairs (alike_to tags depth) (alike_by depth) (slice_get tags i) (slice_get tags j)
        (All-contains (PairAgrees tags tags c.pairs) c.pairs (pair i j) c.closed h))

    pub compatible_agree : (depth : ℕ) → types_agree (alike_to tags depth) a b ≡ true
    compatible_agree depth = types_agree_by c.pairs (alike_to tags depth) (alike_by depth) a b c.agree

  within : (o : Option PlainTag) (i : ℕ) → slice_get tags i ≡ o → is_some o ≡ true → i < length tags
  within None i e h = absurd (false≢true h)
  within (Some s) i e h = slice_get_within tags i s e

  pub alike_there : (depth i j : ℕ) → alike_to tags depth i j ≡ true → (i < length tags) × (j < length tags)
  alike_there zero i j h = (
    within (slice_get tags i) i refl (left_true (is_some (slice_get tags i)) (is_some (slice_get tags j)) h),
    within (slice_get tags j) j refl (right_true (is_some (slice_get tags i)) (is_some (slice_get tags j)) h),
  )
  alike_there (suc depth) i j h =
      alike_there depth i j (left_true (alike_to tags depth i j) (structs_agree (alike_to tags depth) (slice_get tags i) (slice_get tags j)) h)

  module _ (depth : ℕ) (stable : (i j : ℕ) → i < length tags → j < length tags → alike_to tags (suc depth) i j ≡ alike_to tags depth i j) where
    abbrev all_pairs : List Pair
    all_pairs = pairs_where (alike_to tags depth) (length tags) (length tags)

    held_all : (i j : ℕ) → alike_to tags depth i j ≡ true → Contains all_pairs (pair i j)
    held_all i j h =
        let there = alike_there depth i j h in
        pairs_contain (alike_to tags depth) (length tags) (length tags) i j there.0 there.1 h

    closed_all : (i j : ℕ) → i < length tags → j < length tags → alike_to tags depth i j ≡ true → PairAgrees tags tags all_pairs (pair i j)
    closed_all i j low within h =
        structs_agree_of all_pairs (alike_to tags depth) held_all (slice_get tags i) (slice_get tags j)
        (right_true (alike_to tags depth i j) (structs_agree (alike_to tags depth) (slice_get tags i) (slice_get tags j)) (stable i j low within ∙ h))

    -- compatible types are those that agree at a depth at which nothing changes any more
    pub agree_compatible : (a b : PlainType) → types_agree (alike_to tags depth) a b ≡ true → Compatible tags tags a b
    agree_compatible a b h = record {
      pairs = all_pairs;
      agree = agree_of all_pairs (alike_to tags depth) held_all a b h;
      closed = pairs_hold (alike_to tags depth) (PairAgrees tags tags all_pairs) (length tags) (length tags) closed_all;
    }
