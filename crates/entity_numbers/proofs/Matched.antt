-- Lists of bindings that are numbered from the same counts and have the same firsts correspond.
use Rattle.std.proofs.Common.{◌≡◌, inl, inr, ℕ, suc, Bool, true, false, List, [], ◌∷◌, ◌++◌, refl, sym, ap, subst, ◌∙◌}
use Rattle.std.specs.Prelude.{Option, Some, None, option_map, if◌then◌else◌}
use Rattle.core_meaning.specs.Checking.{Entity, local_entity, local_of_function, file_entity, struct_entity, member_entity, own_entity, Binding}
use Rattle.bindings.specs.Judged.{same_entity}
use Rattle.bindings.proofs.Histories.{same_is}
use Rattle.renamed_programs.specs.Entities.{Correspondence, SameEntity, SameBinding, AreBoundAlike}
use Rattle.entity_numbers.specs.Numbered.{Counts, one_more, with_entity, IsNext, first_place, IsNumbered, counted, AreNumbered, HaveSameFirsts, AreNamedAt, AreNamedSo}
use Rattle.entity_numbers.specs.Kinds.{Ties, AreTied, with_tie, AreDeclaredAlike, AreMeantAlike, AreKindsAlike}
use Rattle.entity_numbers.specs.Bound.{IsOfUnit, AreOfUnit, AreUsedBehind}
use Rattle.entity_numbers.specs.Laws.{NumberedAreBoundAlike}

-- ---- bindings before that correspond

snoc_alike :
    (named : Correspondence) (before others : List Binding) (j k : Binding) → AreBoundAlike named before others → SameBinding named j k
    → AreBoundAlike named (before ++ j ∷ []) (others ++ k ∷ [])
snoc_alike named [] [] j k h e = (e, tt)
snoc_alike named [] (y ∷ ys) j k h e = absurd h
snoc_alike named (x ∷ xs) [] j k h e = absurd h
snoc_alike named (x ∷ xs) (y ∷ ys) j k h e = (h.0, snoc_alike named xs ys j k h.1 e)

-- what is first bound at one place corresponds
suc_none : (o : Option ℕ) → option_map (λ n. suc n) o ≡ Some 0 → ⊥
suc_none None e = absurd cc
suc_none (Some n) e = absurd cc

suc_same : (o p : Option ℕ) → option_map (λ n. suc n) o ≡ option_map (λ n. suc n) p → o ≡ p
suc_same None None e = refl
suc_same None (Some n) e = absurd cc
suc_same (Some m) None e = absurd cc
suc_same (Some m) (Some n) e = cc

first_alike :
    (named : Correspondence) (before others : List Binding) (a b : Entity) → AreBoundAlike named before others → first_place a before ≡ first_place b others
    → (first_place a before ≡ None → ⊥) → SameEntity named a b
first_alike named [] [] a b h e some = absurd (some refl)
first_alike named [] (y ∷ ys) a b h e some = absurd h
first_alike named (x ∷ xs) [] a b h e some = absurd h
first_alike named (x ∷ xs) (y ∷ ys) a b h e some = by (same_entity x.entity a) (same_entity y.entity b) refl refl (λ same further. first_alike named xs ys a b h.1 same further) e some
  where
    by :
        (p q : Bool) → same_entity x.entity a ≡ p → same_entity y.entity b ≡ q
        → (first_place a xs ≡ first_place b ys → (first_place a xs ≡ None → ⊥) → SameEntity named a b)
        → (if p then Some 0 else option_map (λ n. suc n) (first_place a xs)) ≡ (if q then Some 0 else option_map (λ n. suc n) (first_place b ys))
        → ((if p then Some 0 else option_map (λ n. suc n) (first_place a xs)) ≡ None → ⊥) → SameEntity named a b
    by true true f g further same some =
        subst (λ c. SameEntity named c b) (same_is x.entity a f) (subst (λ c. SameEntity named x.entity c) (same_is y.entity b g) h.0)
    by true false f g further same some = absurd (suc_none (first_place b ys) (sym same))
    by false true f g further same some = absurd (suc_none (first_place a xs) same)
    by false false f g further same some =
        further (suc_same (first_place a xs) (first_place b ys) same) (λ none_. some (ap (option_map (λ n. suc n)) none_))

-- ---- the next ones correspond

-- structs that are tied have one number
abbrev AreOne : Ties → Type 0
AreOne ties = (m n : ℕ) → AreTied m n ties → m ≡ n

next_alike :
    (named : Correspondence) (ties : Ties) (counts : Counts) (a b : Entity) → AreOne ties → IsOfUnit a → AreDeclaredAlike ties a b → IsNext counts a → IsNext counts b → AreNamedAt named a b → SameEntity named a b
next_alike named ties counts (local_entity m) (local_entity n) one_ of_unit kind f g names = absurd of_unit
next_alike named ties counts (local_of_function i m) (local_of_function j n) one_ of_unit kind f g names = (kind, f ∙ ap counts.slots kind ∙ sym g)
next_alike named ties counts (file_entity a) (file_entity b) one_ of_unit kind f g names = names
next_alike named ties counts (struct_entity m) (struct_entity n) one_ of_unit kind f g names = f ∙ sym g
next_alike named ties counts (member_entity s m) (member_entity t n) one_ of_unit kind f g names = let same_ = one_ s t kind in (same_, f ∙ ap counts.members same_ ∙ sym g)
next_alike named ties counts own_entity own_entity one_ of_unit kind f g names = tt
next_alike named ties counts _ _ one_ of_unit kind f g names = absurd kind

same_counts : (named : Correspondence) (counts : Counts) (a b : Entity) → SameEntity named a b → with_entity counts a ≡ with_entity counts b
same_counts named counts (local_entity m) (local_entity n) h = refl
same_counts named counts (local_of_function i m) (local_of_function j n) h = ap (λ f. record counts { slots = one_more f counts.slots }) h.0
same_counts named counts (file_entity a) (file_entity b) h = refl
same_counts named counts (struct_entity m) (struct_entity n) h = refl
same_counts named counts (member_entity s m) (member_entity t n) h = ap (λ f. record counts { members = one_more f counts.members }) h.0
same_counts named counts own_entity own_entity h = refl
same_counts named counts _ _ h = absurd h

-- structs at one place that correspond have one number
still_one : (named : Correspondence) (ties : Ties) (a b : Entity) → AreOne ties → SameEntity named a b → AreOne (with_tie ties a b)
still_one named ties (struct_entity m) (struct_entity n) one_ h = λ i j. by i j
  where
    by : (i j : ℕ) → AreTied i j ((m, n) ∷ ties) → i ≡ j
    by i j (inl e) = sym e.0 ∙ h ∙ e.1
    by i j (inr e) = one_ i j e
still_one named ties _ _ one_ h = one_

-- ---- all

record Step (named : Correspondence) (counts more : Counts) (a b : Entity) : Type 0 where
  same_ : SameEntity named a b
  counts_ : more ≡ counts

-- no expression uses what is first
declared_alike : (ties : Ties) (p q : Bool) (a b : Entity) → AreMeantAlike ties p q a b → (p ≡ true → ⊥) → AreDeclaredAlike ties a b
declared_alike ties true true a b h unused = absurd (unused refl)
declared_alike ties false false a b h unused = h
declared_alike ties true false a b h unused = absurd h
declared_alike ties false true a b h unused = absurd h

step :
    (named : Correspondence) (ties : Ties) (counts : Counts) (before others : List Binding) (j k : Binding) → AreBoundAlike named before others → AreOne ties → first_place j.entity before ≡ first_place k.entity others
    → AreMeantAlike ties j.in_expression k.in_expression j.entity k.entity → IsOfUnit j.entity → (j.in_expression ≡ true → first_place j.entity before ≡ None → ⊥) → AreNamedAt named j.entity k.entity
    → (p q : Option ℕ) → first_place j.entity before ≡ p → first_place k.entity others ≡ q → IsNumbered p counts j.entity → IsNumbered q counts k.entity
    → Step named (counted p counts j.entity) (counted q counts k.entity) j.entity k.entity
step named ties counts before others j k h one_ first kind of_unit used names (Some i) (Some l) e f x y =
    record { same_ = first_alike named before others j.entity k.entity h first (λ none_. let no : Some i ≡ None = sym e ∙ none_ in absurd cc); counts_ = refl }
step named ties counts before others j k h one_ first kind of_unit used names (Some i) None e f x y = let no : Some i ≡ None = sym e ∙ first ∙ f in absurd cc
step named ties counts before others j k h one_ first kind of_unit used names None (Some l) e f x y = let no : Some l ≡ None = sym f ∙ sym first ∙ e in absurd cc
step named ties counts before others j k h one_ first kind of_unit used names None None e f x y =
    let same_ = next_alike named ties counts j.entity k.entity one_ of_unit (declared_alike ties j.in_expression k.in_expression j.entity k.entity kind (λ is. used is e)) x y names in
    record { same_ = same_; counts_ = sym (same_counts named counts j.entity k.entity same_) }

alike_from :
    (named : Correspondence) (ties : Ties) (counts : Counts) (before others js ks : List Binding) → AreBoundAlike named before others → AreOne ties → AreNumbered counts before js → AreNumbered counts others ks
    → HaveSameFirsts before others js ks → AreKindsAlike ties js ks → AreOfUnit js → AreUsedBehind before js → AreNamedSo named js ks → AreBoundAlike named js ks
alike_from named ties counts before others [] [] h one_ x y m kinds of_unit used names = tt
alike_from named ties counts before others [] (k ∷ ks) h one_ x y m kinds of_unit used names = absurd m
alike_from named ties counts before others (j ∷ js) [] h one_ x y m kinds of_unit used names = absurd m
alike_from named ties counts before others (j ∷ js) (k ∷ ks) h one_ x y m kinds of_unit used names =
    let s = step named ties counts before others j k h one_ m.0 kinds.0 of_unit.0 used.0 names.0 (first_place j.entity before) (first_place k.entity others) refl refl x.0 y.0 in (
      s.same_,
      alike_from named (with_tie ties j.entity k.entity) (counted (first_place j.entity before) counts j.entity) (before ++ j ∷ []) (others ++ k ∷ []) js ks (snoc_alike named before others j k h s.same_)
          (still_one named ties j.entity k.entity one_ s.same_) x.1 (subst (λ c. AreNumbered c (others ++ k ∷ []) ks) s.counts_ y.1) m.1 kinds.1 of_unit.1 used.1 names.1,
    )

pub numbered_are_bound_alike : NumberedAreBoundAlike
numbered_are_bound_alike named counts js ks x y m kinds of_unit used names = alike_from named [] counts [] [] js ks tt (λ i j. absurd) x y m kinds of_unit used names
