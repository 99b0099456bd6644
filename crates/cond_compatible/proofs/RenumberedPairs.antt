-- Compatible types stay compatible where structs have other numbers.
use Rattle.std.proofs.Common.{arith, ◌≡◌, ℕ, zero, suc, ◌<◌, Bool, true, false, List, [], ◌∷◌, length, refl, sym, ap, ap₂, subst, ◌∙◌}
use Rattle.std.specs.Prelude.{◌==◌, ◌&&◌, ◌||◌, map, Option, Some, None, option_map, slice_get, get_or}
use Rattle.std.specs.List.{AllZip, Contains}
use Rattle.std.proofs.lemmas.Bool.{false≢true}
use Rattle.std.proofs.lemmas.Bool.Decides.{nat_tests}
use Rattle.std.proofs.lemmas.Option.{slice_get_within, slice_get-map}
use Rattle.std.proofs.lemmas.List.{length-map}
use Rattle.std.proofs.Math.ListN.{get_or-map}
use Rattle.std.proofs.lemmas.List.Elements.{All-contains, All-map, Contains-append_right}
use Rattle.c_types.specs.declared.pairs.Pair.{Pair}
use Rattle.c_types.specs.Types.{PlainType, void, char, unsigned_char, int, unsigned_int, long, unsigned_long, pointer_to, array_of, structure}
use Rattle.c_types.specs.Tags.{PlainMember, PlainTag}
use Rattle.c_types.specs.Compatible.{pair, Agree, MemberAgrees, TagAgrees, FoundAgree, PairAgrees, Compatible}
use Rattle.core_meaning.specs.Entities.{Struct, tags_of}
use Rattle.operand_types.specs.OperandTypes.{renumbered}
use Rattle.type_tables.specs.Follows.{IsThere, AreThere, types_of, renumbered_member}
use Rattle.cond_compatible.proofs.PairsWhere.{pairs_where, pairs_contain, pairs_hold}
use Rattle.cond_compatible.proofs.AgreeLaws.{both_true, left_true, right_true}

abbrev pub scope_tag : Struct → PlainTag
scope_tag s = record { name = s.name; members = s.members; complete = s.complete }

-- ---- whether a pair is among others

abbrev is_pair : ℕ → ℕ → Pair → Bool
is_pair i j p = p.first == i && p.second == j

abbrev has_pair : List Pair → ℕ → ℕ → Bool
has_pair [] i j = false
has_pair (p ∷ ps) i j = is_pair i j p || has_pair ps i j

same_itself : (n : ℕ) → (n == n) ≡ true
same_itself n = grind (arith, nat_tests)

count_same : (m n : ℕ) → (m == n) ≡ true → m ≡ n
count_same m n e = grind (arith, nat_tests)

or_left : (a b : Bool) → a ≡ true → (a || b) ≡ true
or_left true b h = refl
or_left false b h = absurd (false≢true h)

or_right : (a b : Bool) → b ≡ true → (a || b) ≡ true
or_right true b h = refl
or_right false b h = h

has_at : (ps : List Pair) (i j k : ℕ) → k < length ps → get_or ps k (pair i j) ≡ pair i j → has_pair ps i j ≡ true
has_at [] i j k low e = absurd (omega (arith, low))
has_at (p ∷ ps) i j zero low e =
    or_left (is_pair i j p) (has_pair ps i j) (subst (λ q. is_pair i j q ≡ true) (sym e) (both_true (i == i) (j == j) (same_itself i) (same_itself j)))
has_at (p ∷ ps) i j (suc k) low e = or_right (is_pair i j p) (has_pair ps i j) (has_at ps i j k (omega (arith, low)) e)

pub has_contained : (ps : List Pair) (i j : ℕ) → Contains ps (pair i j) → has_pair ps i j ≡ true
has_contained ps i j h = has_at ps i j h.0 h.1 h.2

pub contains_had : (ps : List Pair) (i j : ℕ) → has_pair ps i j ≡ true → Contains ps (pair i j)
contains_had [] i j h = absurd (false≢true h)
contains_had (p ∷ ps) i j h = by (is_pair i j p) refl h (contains_had ps i j)
  where
    by : (b : Bool) → is_pair i j p ≡ b → (b || has_pair ps i j) ≡ true → (has_pair ps i j ≡ true → Contains ps (pair i j)) → Contains (p ∷ ps) (pair i j)
    by true e h rest = (0, omega arith, ap₂ pair (count_same p.first i (left_true (p.first == i) (p.second == j) e)) (count_same p.second j (right_true (p.first == i) (p.second == j) e)))
    by false e h rest = Contains-append_right (p ∷ []) ps (pair i j) (rest h)

-- ---- pairs by other numbers

module _ (by : ℕ → ℕ) where
  abbrev moved : Pair → Pair
  moved p = pair (by p.first) (by p.second)

  moved_in : (pairs : List Pair) (i j : ℕ) → Contains pairs (pair i j) → Contains (map moved pairs) (pair (by i) (by j))
  moved_in pairs i j h = (
    h.0,
    let low : h.0 < length pairs = h.1 in let same = length-map pairs moved in omega (arith, low, same),
    get_or-map moved pairs h.0 (pair i j) ∙ ap moved h.2,
  )

  module _ (pairs : List Pair) where
    agree_moved : (a b : PlainType) → Agree pairs a b → Agree (map moved pairs) (renumbered by a) (renumbered by b)
    agree_moved (pointer_to a) (pointer_to b) h = agree_moved a b h
    agree_moved (array_of a m) (array_of b n) h = (h.0, agree_moved a b h.1)
    agree_moved (structure i) (structure j) h = moved_in pairs i j h
    agree_moved void void h = refl
    agree_moved char char h = refl
    agree_moved unsigned_char unsigned_char h = refl
    agree_moved int int h = refl
    agree_moved unsigned_int unsigned_int h = refl
    agree_moved long long h = refl
    agree_moved unsigned_long unsigned_long h = refl
    agree_moved a b h = absurd cc

    members_moved : (as_ bs : List PlainMember) → AllZip (MemberAgrees pairs) as_ bs
        → AllZip (MemberAgrees (map moved pairs)) (map (renumbered_member by) as_) (map (renumbered_member by) bs)
    members_moved [] [] h = tt
    members_moved [] (b ∷ bs) h = absurd h
    members_moved (a ∷ as_) [] h = absurd h
    members_moved (a ∷ as_) (b ∷ bs) h = ((h.0.0, agree_moved a.ty b.ty h.0.1), members_moved as_ bs h.1)

  module _ (structs : List Struct) (pairs few : List Pair)
      (kept : (i j : ℕ) → i < length structs → j < length structs → Contains pairs (pair (by i) (by j)) → Contains few (pair i j)) where
    agree_back : (a b : PlainType) → IsThere structs a → IsThere structs b → Agree pairs (renumbered by a) (renumbered by b) → Agree few a b
    agree_back (pointer_to a) (pointer_to b) p q h = agree_back a b p q h
    agree_back (array_of a m) (array_of b n) p q h = (h.0, agree_back a b p q h.1)
    agree_back (structure i) (structure j) p q h =
        let s = p i refl in
        let t = q j refl in
        kept i j (slice_get_within structs i s.0 s.1) (slice_get_within structs j t.0 t.1) h
    agree_back void void p q h = refl
    agree_back char char p q h = refl
    agree_back unsigned_char unsigned_char p q h = refl
    agree_back int int p q h = refl
    agree_back unsigned_int unsigned_int p q h = refl
    agree_back long long p q h = refl
    agree_back unsigned_long unsigned_long p q h = refl
    agree_back a b p q h = absurd cc

    members_back : (as_ bs : List PlainMember) → AreThere structs (types_of as_) → AreThere structs (types_of bs)
        → AllZip (MemberAgrees pairs) (map (renumbered_member by) as_) (map (renumbered_member by) bs) → AllZip (MemberAgrees few) as_ bs
    members_back [] [] p q h = tt
    members_back [] (b ∷ bs) p q h = absurd h
    members_back (a ∷ as_) [] p q h = absurd h
    members_back (a ∷ as_) (b ∷ bs) p q h = ((h.0.0, agree_back a.ty b.ty p.0 q.0 h.0.1), members_back as_ bs p.1 q.1 h.1)

none_within : (xs : List Struct) (i : ℕ) → i < length xs → slice_get xs i ≡ None → ⊥
none_within [] i low e = absurd (omega (arith, low))
none_within (x ∷ xs) zero low e = absurd cc
none_within (x ∷ xs) (suc i) low e = none_within xs i (omega (arith, low)) e

-- a struct of other tables, which says what the struct of a scope does
pub record TagFollows (by : ℕ → ℕ) (structs : List Struct) (s : Struct) (t : PlainTag) : Type 0 where
  pub name : t.name ≡ s.name
  pub complete : t.complete ≡ s.complete
  pub members : s.complete ≡ true → t.members ≡ map (renumbered_member by) s.members
  pub there : s.complete ≡ true → AreThere structs (types_of s.members)

module _ (by : ℕ → ℕ) (structs : List Struct) (tags : List PlainTag)
    (followed : (n : ℕ) (s : Struct) → slice_get structs n ≡ Some s → (t : PlainTag) × (slice_get tags (by n) ≡ Some t) × TagFollows by structs s t) where
  scope_tag_at : (n : ℕ) → slice_get (tags_of structs) n ≡ option_map scope_tag (slice_get structs n)
  scope_tag_at n = slice_get-map scope_tag structs n

  -- ---- from the scope to the tables

  module _ (pairs : List Pair) where
    tag_moved : (s t : Struct) (s' t' : PlainTag) → TagFollows by structs s s' → TagFollows by structs t t'
        → TagAgrees pairs (scope_tag s) (scope_tag t) → TagAgrees (map (moved by) pairs) s' t'
    tag_moved s t s' t' f g h = (
      f.name ∙ h.0 ∙ sym g.name,
      λ p q.
          let c : s.complete ≡ true = sym f.complete ∙ p in
          let d : t.complete ≡ true = sym g.complete ∙ q in
          subst (λ xs. AllZip (MemberAgrees (map (moved by) pairs)) xs t'.members) (sym (f.members c))
          (subst (λ ys. AllZip (MemberAgrees (map (moved by) pairs)) (map (renumbered_member by) s.members) ys) (sym (g.members d))
          (members_moved by pairs s.members t.members (h.1 c d))),
    )

    found_moved : (i j : ℕ) (s t : Option Struct) → slice_get structs i ≡ s → slice_get structs j ≡ t
        → FoundAgree pairs (option_map scope_tag s) (option_map scope_tag t)
        → FoundAgree (map (moved by) pairs) (slice_get tags (by i)) (slice_get tags (by j))
    found_moved i j None t e d h = absurd h
    found_moved i j (Some s) None e d h = absurd h
    found_moved i j (Some s) (Some t) e d h =
        let f = followed i s e in
        let g = followed j t d in
        subst (λ o. FoundAgree (map (moved by) pairs) o (slice_get tags (by j))) (sym f.1)
        (subst (λ o. FoundAgree (map (moved by) pairs) (Some f.0) o) (sym g.1) (tag_moved s t f.0 g.0 f.2 g.2 h))

    pair_moved : (p : Pair) → PairAgrees (tags_of structs) (tags_of structs) pairs p → PairAgrees tags tags (map (moved by) pairs) (moved by p)
    pair_moved p h =
        found_moved p.first p.second (slice_get structs p.first) (slice_get structs p.second) refl refl
        (subst (λ o. FoundAgree pairs o (option_map scope_tag (slice_get structs p.second))) (scope_tag_at p.first)
        (subst (λ o. FoundAgree pairs (slice_get (tags_of structs) p.first) o) (scope_tag_at p.second) h))

  pub compatible_moved : (a b : PlainType) → Compatible (tags_of structs) (tags_of structs) a b → Compatible tags tags (renumbered by a) (renumbered by b)
  compatible_moved a b c = record {
    pairs = map (moved by) c.pairs;
    agree = agree_moved by c.pairs a b c.agree;
    closed = All-map (PairAgrees tags tags (map (moved by) c.pairs)) (moved by) c.pairs (λ k d low. pair_moved c.pairs _ (c.closed k d low));
  }

  -- ---- and back

  module _ (pairs : List Pair) where
    abbrev few : List Pair
    few = pairs_where (λ i j. has_pair pairs (by i) (by j)) (length structs) (length structs)

    kept_few : (i j : ℕ) → i < length structs → j < length structs → Contains pairs (pair (by i) (by j)) → Contains few (pair i j)
    kept_few i j low within h =
        pairs_contain (λ i j. has_pair pairs (by i) (by j)) (length structs) (length structs) i j low within (has_contained pairs (by i) (by j) h)

    tag_back : (s t : Struct) (s' t' : PlainTag) → TagFollows by structs s s' → TagFollows by structs t t'
        → TagAgrees pairs s' t' → TagAgrees few (scope_tag s) (scope_tag t)
    tag_back s t s' t' f g h = (
      sym f.name ∙ h.0 ∙ g.name,
      λ p q.
          members_back by structs pairs few kept_few s.members t.members (f.there p) (g.there q)
          (subst (λ xs. AllZip (MemberAgrees pairs) xs (map (renumbered_member by) t.members)) (f.members p)
          (subst (λ ys. AllZip (MemberAgrees pairs) s'.members ys) (g.members q) (h.1 (f.complete ∙ p) (g.complete ∙ q)))),
    )

    found_back : (i j : ℕ) (s t : Option Struct) → slice_get structs i ≡ s → slice_get structs j ≡ t → i < length structs → j < length structs
        → FoundAgree pairs (slice_get tags (by i)) (slice_get tags (by j)) → FoundAgree few (option_map scope_tag s) (option_map scope_tag t)
    found_back i j None t e d low within h = absurd (none_within structs i low e)
    found_back i j (Some s) None e d low within h = absurd (none_within structs j within d)
    found_back i j (Some s) (Some t) e d low within h =
        let f = followed i s e in
        let g = followed j t d in
        tag_back s t f.0 g.0 f.2 g.2
        (subst (λ o. FoundAgree pairs (Some f.0) o) g.1 (subst (λ o. FoundAgree pairs o (slice_get tags (by j))) f.1 h))

  pub compatible_back : (a b : PlainType) → IsThere structs a → IsThere structs b → Compatible tags tags (renumbered by a) (renumbered by b)
      → Compatible (tags_of structs) (tags_of structs) a b
  compatible_back a b p q c = record {
    pairs = few c.pairs;
    agree = agree_back by structs c.pairs (few c.pairs) (kept_few c.pairs) a b p q c.agree;
    closed = pairs_hold (λ i j. has_pair c.pairs (by i) (by j)) (PairAgrees (tags_of structs) (tags_of structs) (few c.pairs)) (length structs) (length structs)
        (λ i j low within h.
        subst (λ o. FoundAgree (few c.pairs) o (slice_get (tags_of structs) j)) (sym (scope_tag_at i))
        (subst (λ o. FoundAgree (few c.pairs) (option_map scope_tag (slice_get structs i)) o) (sym (scope_tag_at j))
        (found_back c.pairs i j (slice_get structs i) (slice_get structs j) refl refl low within
        (All-contains (PairAgrees tags tags c.pairs) c.pairs (pair (by i) (by j)) c.closed (contains_had c.pairs (by i) (by j) h)))));
  }
