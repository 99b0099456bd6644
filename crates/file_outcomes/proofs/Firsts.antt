-- The first element of a list of which something isn't so.
use Rattle.std.proofs.Common.{◌≡◌, ◌≢◌, ℕ, suc, ◌<◌, Bool, true, false, List, [], ◌∷◌, ◌++◌, length, get_or, Ordering, Less, Equal, Greater, nat_cmp, refl, sym, subst, ◌∙◌, inl, inr, ◌⊎◌, arith, append_assoc, append-nil}
use Rattle.std.specs.List.{All, Contains, list_any}
use Rattle.std.specs.Str.{bytes_eq}
use Rattle.std.specs.Cmp.Lexicographic.{slice_cmp}
use Rattle.std.proofs.lemmas.Bool.{both_ways}
use Rattle.std.proofs.lemmas.Cmp.{nat_list_cmp_total, nat_list_eq_equiv}
use Rattle.std.proofs.lemmas.List.Elements.{All-nil, All-cons, All-push, Contains-get_or}
use Rattle.std.proofs.lemmas.List.Quantifiers.{all_pairs_push}
use Rattle.std.proofs.lemmas.Map.Views.{Contains-from_any, list_any-from_Contains}
use Rattle.std.proofs.lemmas.Slice.Eq.{bytes_eq-Decides}
use Rattle.c_names.specs.Names.{is_new_name}
use Rattle.toml.specs.Data.{Members}
use Rattle.project_file.specs.Documents.{keys_of, is_listed, AllListed, IsFirstUnlisted}
use Rattle.project_file.specs.Projects.{AllDiffer, AreFeatureNames}
use Rattle.project_file.specs.Faults.{IsFirstUnlawful, IsFirstRepeated}

-- ---- names

shifted : {X : Type 0} (before : List X) (x : X) (rest : List X) → (before ++ x ∷ []) ++ rest ≡ before ++ x ∷ rest
shifted before x rest = append_assoc before (x ∷ []) rest

pub record HasUnlawful (names : List (List ℕ)) : Type 0 where
  pub name : List ℕ
  pub first : IsFirstUnlawful names name

lawful-from : (names before rest : List (List ℕ)) → names ≡ before ++ rest → AreFeatureNames before → AreFeatureNames names ⊎ HasUnlawful names
lawful-from names before [] e h = inl (subst AreFeatureNames (sym (e ∙ append-nil before)) h)
lawful-from names before (name ∷ rest) e h =
    by (is_new_name name) refl
    (λ is. lawful-from names (before ++ name ∷ []) rest (e ∙ sym (shifted before name rest)) (All-push (λ n. is_new_name n ≡ true) before name h is))
  where
    by : (b : Bool) → is_new_name name ≡ b → (is_new_name name ≡ true → AreFeatureNames names ⊎ HasUnlawful names) → AreFeatureNames names ⊎ HasUnlawful names
    by true is next = next is
    by false is next = inr (record { name = name; first = record { before = before; after = rest; split = e; lawful = h; unlawful = is } })

pub lawful-or-first : (names : List (List ℕ)) → AreFeatureNames names ⊎ HasUnlawful names
lawful-or-first names = lawful-from names [] names refl (All-nil (λ n. is_new_name n ≡ true))

pub record HasRepeated (names : List (List ℕ)) : Type 0 where
  pub name : List ℕ
  pub first : IsFirstRepeated names name

apart : (names : List (List ℕ)) (name : List ℕ) → list_any (bytes_eq name) names ≡ false → (k : ℕ) (d : List ℕ) → k < length names → get_or names k d ≢ name
apart names name out k d h is =
    both_ways (list_any (bytes_eq name) names) out
    (list_any-from_Contains nat_list_eq_equiv name names (subst (λ n. Contains names n) is (Contains-get_or names k d h)))

differ-from : (names before rest : List (List ℕ)) → names ≡ before ++ rest → AllDiffer before → AllDiffer names ⊎ HasRepeated names
differ-from names before [] e h = inl (subst AllDiffer (sym (e ∙ append-nil before)) h)
differ-from names before (name ∷ rest) e h =
    by (list_any (bytes_eq name) before) refl
    (λ is. differ-from names (before ++ name ∷ []) rest (e ∙ sym (shifted before name rest)) (all_pairs_push (λ a b. a ≢ b) before name h (apart before name is)))
  where
    by : (b : Bool) → list_any (bytes_eq name) before ≡ b → (list_any (bytes_eq name) before ≡ false → AllDiffer names ⊎ HasRepeated names) → AllDiffer names ⊎ HasRepeated names
    by false is next = next is
    by true is next = inr (record { name = name; first = record { before = before; after = rest; split = e; differ = h; earlier = Contains-from_any (λ a b e. (bytes_eq-Decides a b).0 e) name before is } })

pub differ-or-first : (names : List (List ℕ)) → AllDiffer names ⊎ HasRepeated names
differ-or-first names = differ-from names [] names refl (λ i j d a b. absurd (omega arith))

-- ---- keys

abbrev IsLeast : List (List ℕ) → List (List ℕ) → List ℕ → Type 0
IsLeast listed keys key = All (λ other. slice_cmp nat_cmp other key ≡ Less → is_listed listed other ≡ true) keys

record HasLeast (listed keys : List (List ℕ)) : Type 0 where
  key : List ℕ
  stands : Contains keys key
  unlisted : is_listed listed key ≡ false
  first : IsLeast listed keys key

not-less : (key : List ℕ) → slice_cmp nat_cmp key key ≡ Less → ⊥
not-less key e = by (slice_cmp nat_cmp key key) e (nat_list_cmp_total.antisymm key key)
  where
    by : (o : Ordering) → o ≡ Less → o ≡ Rattle.std.specs.Ordering.ordering_reverse o → ⊥
    by Less e s = cc
    by Equal e s = cc
    by Greater e s = cc

later : (keys : List (List ℕ)) (k key : List ℕ) → Contains keys key → Contains (k ∷ keys) key
later keys k key c = (suc c.0, omega (arith, c.1), c.2)

least : (listed keys : List (List ℕ)) → All (λ key. is_listed listed key ≡ true) keys ⊎ HasLeast listed keys
least listed [] = inl (All-nil (λ key. is_listed listed key ≡ true))
least listed (k ∷ keys) = by (is_listed listed k) refl (least listed keys)
  where
    kept : (m : HasLeast listed keys) → (slice_cmp nat_cmp k m.key ≡ Less → is_listed listed k ≡ true) → HasLeast listed (k ∷ keys)
    kept m h = record {
      key = m.key;
      stands = later keys k m.key m.stands;
      unlisted = m.unlisted;
      first = All-cons (λ other. slice_cmp nat_cmp other m.key ≡ Less → is_listed listed other ≡ true) k keys h m.first;
    }

    taken : is_listed listed k ≡ false → IsLeast listed keys k → HasLeast listed (k ∷ keys)
    taken is h = record {
      key = k;
      stands = (0, omega arith, refl);
      unlisted = is;
      first = All-cons (λ other. slice_cmp nat_cmp other k ≡ Less → is_listed listed other ≡ true) k keys (λ e. absurd (not-less k e)) h;
    }

    against : (o : Ordering) (m : HasLeast listed keys) → is_listed listed k ≡ false → slice_cmp nat_cmp k m.key ≡ o → HasLeast listed (k ∷ keys)
    against Less m is e =
        taken is
        (λ i d l less. m.first i d l (nat_list_cmp_total.trans (get_or keys i d) k m.key less e))
    against Equal m is e = kept m (λ less. let no : ◌≡◌ {A = Ordering} Equal Less = sym e ∙ less in absurd cc)
    against Greater m is e = kept m (λ less. let no : ◌≡◌ {A = Ordering} Greater Less = sym e ∙ less in absurd cc)

    by : (b : Bool) → is_listed listed k ≡ b → All (λ key. is_listed listed key ≡ true) keys ⊎ HasLeast listed keys → All (λ key. is_listed listed key ≡ true) (k ∷ keys) ⊎ HasLeast listed (k ∷ keys)
    by true is (inl all) = inl (All-cons (λ key. is_listed listed key ≡ true) k keys is all)
    by false is (inl all) = inr (taken is (λ i d l less. all i d l))
    by true is (inr m) = inr (kept m (λ less. is))
    by false is (inr m) = inr (against (slice_cmp nat_cmp k m.key) m is refl)

pub record HasUnlisted (listed : List (List ℕ)) (document : Members) : Type 0 where
  pub key : List ℕ
  pub first : IsFirstUnlisted listed document key

pub listed-or-first : (listed : List (List ℕ)) (document : Members) → AllListed listed document ⊎ HasUnlisted listed document
listed-or-first listed document =
    elim (least listed (keys_of document)) [
      | inl all ↦ inl all
      | inr m ↦ inr (record { key = m.key; first = record { stands = m.stands; unlisted = m.unlisted; first = m.first } })
    ]
