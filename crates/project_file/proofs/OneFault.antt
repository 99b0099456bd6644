-- A file has one first fault at most.
use Rattle.std.proofs.Common.{◌≡◌, ℕ, suc, true, length, List, [], ◌∷◌, ◌++◌, Option, Some, Ordering, Less, Equal, Greater, nat_cmp, refl, sym, ap, subst, ◌∙◌, inl, inr, ◌⊎◌, arith}
use Rattle.std.specs.List.{All}
use Rattle.std.specs.Ordering.{ordering_reverse, is_eq}
use Rattle.std.specs.Cmp.Lexicographic.{slice_cmp}
use Rattle.std.proofs.lemmas.Bool.{both_ways}
use Rattle.std.proofs.lemmas.Cmp.{nat_list_cmp_total}
use Rattle.std.proofs.lemmas.List.Elements.{All-contains}
use Rattle.std.proofs.lemmas.Map.Text.{is_eq-slice_cmp}
use Rattle.std.proofs.lemmas.Slice.Eq.{bytes_eq-Decides}
use Rattle.c_names.specs.Names.{is_new_name}
use Rattle.toml.specs.Data.{Members}
use Rattle.project_file.specs.Documents.{keys_of, is_listed, IsFirstUnlisted}
use Rattle.project_file.specs.Contents.{Contents, files_of, texts_of, document_keys}
use Rattle.project_file.specs.Texts.{IsLawful}
use Rattle.project_file.specs.Faults.{size, not_toml, shape, feature, duplicate, constraint, IsShapeFault, unlisted, bad_features, bad_constraints, bad_headers, bad_units, IsFirstUnlawful, IsFirstRepeated, IsDuplicate, IsFirstBadText}
use Rattle.project_file.specs.Laws.{FirstFaultIsOne}
use Rattle.project_file.proofs.Exclusion.{document_one, says_one, contains_middle, repeats, no_unlisted, no_shape_fault, no_unlawful, no_duplicate}

-- of two places in a list, one is in front of the other, or both are one
part_one : {X : Type 0} (b c : List X) (x y : X) (a d : List X) → b ++ x ∷ a ≡ c ++ y ∷ d
    → ((x ≡ y) × (length b ≡ length c)) ⊎ (((m : List X) × (c ≡ b ++ x ∷ m)) ⊎ ((m : List X) × (b ≡ c ++ y ∷ m)))
part_one [] [] x y a d e = inl (cc, refl)
part_one [] (z ∷ c) x y a d e = let h : z ≡ x = cc in inr (inl (c, ap (λ w. w ∷ c) h))
part_one (z ∷ b) [] x y a d e = let h : z ≡ y = cc in inr (inr (b, ap (λ w. w ∷ b) h))
part_one (z ∷ b) (w ∷ c) x y a d e =
    let heads : z ≡ w = cc in
    let tails : b ++ x ∷ a ≡ c ++ y ∷ d = cc in
    elim (part_one b c x y a d tails) [
      | inl p ↦ inl (p.0, ap suc p.1)
      | inr (inl p) ↦ inr (inl (p.0, ap (λ t. t ∷ c) (sym heads) ∙ ap (λ ts. z ∷ ts) p.1))
      | inr (inr p) ↦ inr (inr (p.0, ap (λ t. t ∷ b) heads ∙ ap (λ ts. w ∷ ts) p.1))
    ]

-- the first element of which something doesn't hold is one
first_one : {X : Type 0} (P : X → Type 0) (b c : List X) (x y : X) (a d : List X) → b ++ x ∷ a ≡ c ++ y ∷ d → All P b → (P x → ⊥) → All P c → (P y → ⊥) → (x ≡ y) × (length b ≡ length c)
first_one P b c x y a d e pb nx pc ny =
    elim (part_one b c x y a d e) [
      | inl p ↦ p
      | inr (inl p) ↦ absurd (nx (All-contains P c x pc (contains_middle c b x p.0 p.1)))
      | inr (inr p) ↦ absurd (ny (All-contains P b y pb (contains_middle b c y p.0 p.1)))
    ]

unlawful_one : (names : List (List ℕ)) (n m : List ℕ) → IsFirstUnlawful names n → IsFirstUnlawful names m → n ≡ m
unlawful_one names n m f g =
    (first_one (λ x. is_new_name x ≡ true) f.before g.before n m f.after g.after (sym f.split ∙ g.split) f.lawful
    (λ h. both_ways (is_new_name n) f.unlawful h) g.lawful (λ h. both_ways (is_new_name m) g.unlawful h)).0

repeated_one : (names : List (List ℕ)) (n m : List ℕ) → IsFirstRepeated names n → IsFirstRepeated names m → n ≡ m
repeated_one names n m f g =
    elim (part_one f.before g.before n m f.after g.after (sym f.split ∙ g.split)) [
      | inl p ↦ p.0
      | inr (inl p) ↦
          absurd
          (repeats g.before n (record { before = f.before; after = p.0; split = p.1; differ = f.differ; earlier = f.earlier }) g.differ)
      | inr (inr p) ↦
          absurd
          (repeats f.before m (record { before = g.before; after = p.0; split = p.1; differ = g.differ; earlier = g.earlier }) f.differ)
    ]

duplicate_one : (contents : Contents) (n m : List ℕ) → IsDuplicate contents n → IsDuplicate contents m → n ≡ m
duplicate_one contents n m (inl f) (inl g) = repeated_one contents.features n m f g
duplicate_one contents n m (inl f) (inr g) = absurd (repeats contents.features n f g.0)
duplicate_one contents n m (inr f) (inl g) = absurd (repeats contents.features m g f.0)
duplicate_one contents n m (inr f) (inr g) = repeated_one (files_of contents) n m f.1 g.1

text_one : (names : List (List ℕ)) (texts : List (Option (List ℕ))) (n m : ℕ) → IsFirstBadText names texts n → IsFirstBadText names texts m → n ≡ m
text_one names texts n m f g =
    let same =
    (first_one (IsLawful names) f.before g.before (Some f.text) (Some g.text) f.after g.after (sym f.split ∙ g.split) f.lawful f.bad g.lawful g.bad).1
    in
    f.place_is ∙ ap suc same ∙ sym g.place_is

-- neither of two keys is before the other
same_key : (o : Ordering) (k l : List ℕ) → slice_cmp nat_cmp k l ≡ o → (o ≡ Less → ⊥) → (ordering_reverse o ≡ Less → ⊥) → k ≡ l
same_key Less k l e low high = absurd (low refl)
same_key Greater k l e low high = absurd (high refl)
same_key Equal k l e low high = (bytes_eq-Decides k l).0 (sym (is_eq-slice_cmp k l) ∙ ap is_eq e)

-- the first key that isn't listed is one
least_one : (listed : List (List ℕ)) (document : Members) (k l : List ℕ) → IsFirstUnlisted listed document k → IsFirstUnlisted listed document l → k ≡ l
least_one listed document k l f g =
    let low : slice_cmp nat_cmp k l ≡ Less → ⊥ = λ less.
    both_ways (is_listed listed k) f.unlisted
    (All-contains (λ other. slice_cmp nat_cmp other l ≡ Less → is_listed listed other ≡ true) (keys_of document) k g.first f.stands less)
    in
    let high : ordering_reverse (slice_cmp nat_cmp k l) ≡ Less → ⊥ = λ less.
    both_ways (is_listed listed l) g.unlisted
    (All-contains (λ other. slice_cmp nat_cmp other k ≡ Less → is_listed listed other ≡ true) (keys_of document) l f.first g.stands (nat_list_cmp_total.antisymm l k ∙ less))
    in
    same_key (slice_cmp nat_cmp k l) k l refl low high

-- the key of a fault of shape is one
key_one : (project : List ℕ) (document : Members) (k l : List ℕ) → IsShapeFault project document k → IsShapeFault project document l → k ≡ l
key_one project document k l (unlisted p) (unlisted p2) = least_one document_keys document k l p p2
key_one project document k l (unlisted p) (bad_features p2 q2 x2) = absurd (no_unlisted document_keys document k q2 p)
key_one project document k l (unlisted p) (bad_constraints p2 q2 a2 b2 x2) = absurd (no_unlisted document_keys document k q2 p)
key_one project document k l (unlisted p) (bad_headers p2 q2 a2 b2 c2 d2 x2) = absurd (no_unlisted document_keys document k q2 p)
key_one project document k l (unlisted p) (bad_units p2 q2 a2 b2 c2 d2 e2 h2 x2) = absurd (no_unlisted document_keys document k q2 p)
key_one project document k l (bad_features p q x) (unlisted p2) = absurd (no_unlisted document_keys document l q p2)
key_one project document k l (bad_features p q x) (bad_features p2 q2 x2) = p ∙ sym p2
key_one project document k l (bad_features p q x) (bad_constraints p2 q2 a2 b2 x2) = absurd (x a2 b2)
key_one project document k l (bad_features p q x) (bad_headers p2 q2 a2 b2 c2 d2 x2) = absurd (x a2 b2)
key_one project document k l (bad_features p q x) (bad_units p2 q2 a2 b2 c2 d2 e2 h2 x2) = absurd (x a2 b2)
key_one project document k l (bad_constraints p q a b x) (unlisted p2) = absurd (no_unlisted document_keys document l q p2)
key_one project document k l (bad_constraints p q a b x) (bad_features p2 q2 x2) = absurd (x2 a b)
key_one project document k l (bad_constraints p q a b x) (bad_constraints p2 q2 a2 b2 x2) = p ∙ sym p2
key_one project document k l (bad_constraints p q a b x) (bad_headers p2 q2 a2 b2 c2 d2 x2) = absurd (x c2 d2)
key_one project document k l (bad_constraints p q a b x) (bad_units p2 q2 a2 b2 c2 d2 e2 h2 x2) = absurd (x c2 d2)
key_one project document k l (bad_headers p q a b c d x) (unlisted p2) = absurd (no_unlisted document_keys document l q p2)
key_one project document k l (bad_headers p q a b c d x) (bad_features p2 q2 x2) = absurd (x2 a b)
key_one project document k l (bad_headers p q a b c d x) (bad_constraints p2 q2 a2 b2 x2) = absurd (x2 c d)
key_one project document k l (bad_headers p q a b c d x) (bad_headers p2 q2 a2 b2 c2 d2 x2) = p ∙ sym p2
key_one project document k l (bad_headers p q a b c d x) (bad_units p2 q2 a2 b2 c2 d2 e2 h2 x2) = absurd (x e2 h2)
key_one project document k l (bad_units p q a b c d e h x) (unlisted p2) = absurd (no_unlisted document_keys document l q p2)
key_one project document k l (bad_units p q a b c d e h x) (bad_features p2 q2 x2) = absurd (x2 a b)
key_one project document k l (bad_units p q a b c d e h x) (bad_constraints p2 q2 a2 b2 x2) = absurd (x2 c d)
key_one project document k l (bad_units p q a b c d e h x) (bad_headers p2 q2 a2 b2 c2 d2 x2) = absurd (x2 e h)
key_one project document k l (bad_units p q a b c d e h x) (bad_units p2 q2 a2 b2 c2 d2 e2 h2 x2) = p ∙ sym p2

pub one_fault : FirstFaultIsOne
one_fault name bytes (size n) (size m) f g =
    ap size (f.0 ∙ sym g.0)
one_fault name bytes (size n) not_toml f g =
    let s = g.0 in absurd (omega (arith, f.1, s))
one_fault name bytes (size n) (shape l) f g =
    let s = g.short in absurd (omega (arith, f.1, s))
one_fault name bytes (size n) (feature m) f g =
    let s = g.1.short in absurd (omega (arith, f.1, s))
one_fault name bytes (size n) (duplicate m) f g =
    let s = g.1.short in absurd (omega (arith, f.1, s))
one_fault name bytes (size n) (constraint m) f g =
    let s = g.1.short in absurd (omega (arith, f.1, s))
one_fault name bytes not_toml (size m) f g =
    let s = f.0 in absurd (omega (arith, g.1, s))
one_fault name bytes not_toml not_toml f g =
    refl
one_fault name bytes not_toml (shape l) f g =
    absurd (f.1 g.document g.is_toml)
one_fault name bytes not_toml (feature m) f g =
    absurd (f.1 g.1.document g.1.is_toml)
one_fault name bytes not_toml (duplicate m) f g =
    absurd (f.1 g.1.document g.1.is_toml)
one_fault name bytes not_toml (constraint m) f g =
    absurd (f.1 g.1.document g.1.is_toml)
one_fault name bytes (shape k) (size m) f g =
    let s = f.short in absurd (omega (arith, g.1, s))
one_fault name bytes (shape k) not_toml f g =
    absurd (g.1 f.document f.is_toml)
one_fault name bytes (shape k) (shape l) f g =
    ap shape (key_one name g.document k l (subst (λ d. IsShapeFault name d k) (document_one bytes f.document g.document f.is_toml g.is_toml) f.fault) g.fault)
one_fault name bytes (shape k) (feature m) f g =
    absurd (no_shape_fault name g.1.document k g.0 g.1.are_contents (subst (λ d. IsShapeFault name d k) (document_one bytes f.document g.1.document f.is_toml g.1.is_toml) f.fault))
one_fault name bytes (shape k) (duplicate m) f g =
    absurd (no_shape_fault name g.1.document k g.0 g.1.are_contents (subst (λ d. IsShapeFault name d k) (document_one bytes f.document g.1.document f.is_toml g.1.is_toml) f.fault))
one_fault name bytes (shape k) (constraint m) f g =
    absurd (no_shape_fault name g.1.document k g.0 g.1.are_contents (subst (λ d. IsShapeFault name d k) (document_one bytes f.document g.1.document f.is_toml g.1.is_toml) f.fault))
one_fault name bytes (feature n) (size m) f g =
    let s = f.1.short in absurd (omega (arith, g.1, s))
one_fault name bytes (feature n) not_toml f g =
    absurd (g.1 f.1.document f.1.is_toml)
one_fault name bytes (feature n) (shape l) f g =
    absurd (no_shape_fault name f.1.document l f.0 f.1.are_contents (subst (λ d. IsShapeFault name d l) (document_one bytes g.document f.1.document g.is_toml f.1.is_toml) g.fault))
one_fault name bytes (feature n) (feature m) f g =
    ap feature (unlawful_one g.0.features n m (subst (λ c. IsFirstUnlawful c.features n) (says_one name bytes f.0 g.0 f.1 g.1) f.2) g.2)
one_fault name bytes (feature n) (duplicate m) f g =
    absurd (no_unlawful g.0.features n g.2 (subst (λ c. IsFirstUnlawful c.features n) (says_one name bytes f.0 g.0 f.1 g.1) f.2))
one_fault name bytes (feature n) (constraint m) f g =
    absurd (no_unlawful g.0.features n g.2 (subst (λ c. IsFirstUnlawful c.features n) (says_one name bytes f.0 g.0 f.1 g.1) f.2))
one_fault name bytes (duplicate n) (size m) f g =
    let s = f.1.short in absurd (omega (arith, g.1, s))
one_fault name bytes (duplicate n) not_toml f g =
    absurd (g.1 f.1.document f.1.is_toml)
one_fault name bytes (duplicate n) (shape l) f g =
    absurd (no_shape_fault name f.1.document l f.0 f.1.are_contents (subst (λ d. IsShapeFault name d l) (document_one bytes g.document f.1.document g.is_toml f.1.is_toml) g.fault))
one_fault name bytes (duplicate n) (feature m) f g =
    absurd (no_unlawful f.0.features m f.2 (subst (λ c. IsFirstUnlawful c.features m) (says_one name bytes g.0 f.0 g.1 f.1) g.2))
one_fault name bytes (duplicate n) (duplicate m) f g =
    ap duplicate (duplicate_one g.0 n m (subst (λ c. IsDuplicate c n) (says_one name bytes f.0 g.0 f.1 g.1) f.3) g.3)
one_fault name bytes (duplicate n) (constraint m) f g =
    absurd (no_duplicate g.0 n g.3 (subst (λ c. IsDuplicate c n) (says_one name bytes f.0 g.0 f.1 g.1) f.3))
one_fault name bytes (constraint n) (size m) f g =
    let s = f.1.short in absurd (omega (arith, g.1, s))
one_fault name bytes (constraint n) not_toml f g =
    absurd (g.1 f.1.document f.1.is_toml)
one_fault name bytes (constraint n) (shape l) f g =
    absurd (no_shape_fault name f.1.document l f.0 f.1.are_contents (subst (λ d. IsShapeFault name d l) (document_one bytes g.document f.1.document g.is_toml f.1.is_toml) g.fault))
one_fault name bytes (constraint n) (feature m) f g =
    absurd (no_unlawful f.0.features m f.2 (subst (λ c. IsFirstUnlawful c.features m) (says_one name bytes g.0 f.0 g.1 f.1) g.2))
one_fault name bytes (constraint n) (duplicate m) f g =
    absurd (no_duplicate f.0 m f.3 (subst (λ c. IsDuplicate c m) (says_one name bytes g.0 f.0 g.1 f.1) g.3))
one_fault name bytes (constraint n) (constraint m) f g =
    ap constraint (text_one g.0.features (texts_of g.0) n m (subst (λ c. IsFirstBadText c.features (texts_of c) n) (says_one name bytes f.0 g.0 f.1 g.1) f.4) g.4)
