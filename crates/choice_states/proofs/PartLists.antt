-- Lists of parts that go on, and in which one is put in the place of another.
use Rattle.std.proofs.Common.{◌≡◌, ℕ, zero, suc, ◌+◌, ◌<◌, Bool, true, false, not, ◌&&◌, ◌||◌, List, [], ◌∷◌, ◌++◌, length, map, drop, get_or, Option, Some, None, IsTrue, refl, sym, ap, ◌∙◌, arith, add-one, drop-cons}
use Rattle.std.specs.List.{insert, remove}
use Rattle.choice_trees.specs.declared.trees.Choice.{Choice}
use Rattle.choice_trees.specs.declared.trees.Item.{Item}
use Rattle.choice_trees.specs.ChoiceTrees.{plain_branches}
use Rattle.choice_states.specs.Seen.{Seen, Parts, in_front, branch_seen, choice_seen, seen_in}
use Rattle.choice_states.specs.Parts.{is_empty, is_there, first_of, values, aligned}
use Rattle.choice_states.proofs.Branches.{or_later, or_later-none, branches_append}

pub values-none : (parts : Parts) → values (in_front None parts) ≡ values parts
values-none [] = refl
values-none (first ∷ rest) = refl

with_first : Option Seen → List Seen → List Seen
with_first None rest = rest
with_first (Some first) rest = first ∷ rest

values-front : (first : Option Seen) (parts : Parts) → values (in_front first parts) ≡ with_first first (values parts)
unfolding with_first
values-front None parts = values-none parts
values-front (Some first) parts = refl

first-append : (first : Option Seen) (rest more : List Seen) → with_first first (rest ++ more) ≡ with_first first rest ++ more
unfolding with_first
first-append None rest more = refl
first-append (Some first) rest more = refl

trimmed : List (Option Seen) → Parts
trimmed [] = []
trimmed (first ∷ rest) = in_front first (trimmed rest)

module _ (on : ℕ → Bool) where
  seen_in-trimmed : (xs : List (Choice Item)) → seen_in on xs ≡ trimmed (map (choice_seen on) xs)
  unfolding trimmed
  seen_in-trimmed [] = refl
  seen_in-trimmed (x ∷ xs) = ap (in_front (choice_seen on x)) (seen_in-trimmed xs)

  -- parts are seen alike where each is
  pub seen_alike : (xs ys : List (Choice Item)) → map (choice_seen on) xs ≡ map (choice_seen on) ys → seen_in on xs ≡ seen_in on ys
  seen_alike xs ys same = seen_in-trimmed xs ∙ ap trimmed same ∙ sym (seen_in-trimmed ys)

  -- ---- one part behind all

  pub none_behind : (xs : List (Choice Item)) (y : Choice Item) → choice_seen on y ≡ None → seen_in on (xs ++ y ∷ []) ≡ seen_in on xs
  none_behind [] y none = ap (λ first. in_front first []) none
  none_behind (x ∷ xs) y none = ap (in_front (choice_seen on x)) (none_behind xs y none)

  pub some_behind : (xs : List (Choice Item)) (y : Choice Item) (v : Seen) → choice_seen on y ≡ Some v → values (seen_in on (xs ++ y ∷ [])) ≡ values (seen_in on xs) ++ v ∷ []
  some_behind [] y v some = ap (λ first. values (in_front first [])) some
  some_behind (x ∷ xs) y v some =
      values-front (choice_seen on x) (seen_in on (xs ++ y ∷ []))
      ∙ ap (with_first (choice_seen on x)) (some_behind xs y v some)
      ∙ first-append (choice_seen on x) (values (seen_in on xs)) (v ∷ [])
      ∙ ap (λ vs. vs ++ v ∷ []) (sym (values-front (choice_seen on x) (seen_in on xs)))
  -- ---- one part in the place of another

pub replaced : List (Choice Item) → ℕ → Choice Item → List (Choice Item)
replaced [] i y = []
replaced (x ∷ xs) zero y = y ∷ xs
replaced (x ∷ xs) (suc i) y = x ∷ replaced xs i y

pub insert-remove : (xs : List (Choice Item)) (i : ℕ) (y : Choice Item) → i < length xs → insert (remove xs i) i y ≡ replaced xs i y
unfolding replaced
insert-remove [] i y within = absurd (omega arith)
insert-remove (x ∷ xs) zero y within = refl
insert-remove (x ∷ xs) (suc i) y within = ap (λ zs. x ∷ zs) (insert-remove xs i y (omega arith))

empty_is : (parts : Parts) → IsTrue (is_empty parts) → parts ≡ []
empty_is [] h = refl
empty_is (first ∷ rest) h = absurd (cc h)

front-empty : (first : Option Seen) (parts : Parts) → IsTrue (is_empty (in_front first parts)) → parts ≡ []
front-empty None [] h = refl
front-empty None (second ∷ rest) h = absurd (cc h)
front-empty (Some first) parts h = absurd (cc h)

front-aligned : (n : ℕ) (first : Option Seen) (parts : Parts) → IsTrue (aligned (suc n) (in_front first parts)) → IsTrue (is_there first) × IsTrue (aligned n parts)
front-aligned n None [] h = absurd (cc h)
front-aligned n None (second ∷ rest) h = absurd (cc h)
front-aligned n (Some first) parts h = (refl, h)

there_aligned : (n : ℕ) (first : Option Seen) (parts : Parts) → IsTrue (is_there first) → IsTrue (aligned n parts) → IsTrue (aligned (suc n) (in_front first parts))
there_aligned n None parts h a = absurd (cc h)
there_aligned n (Some first) parts h a = a

module _ (on : ℕ → Bool) where
  pub seen-replaced : (xs : List (Choice Item)) (i : ℕ) (y z : Choice Item) → i < length xs → choice_seen on y ≡ choice_seen on (get_or xs i z) → seen_in on (replaced xs i y) ≡ seen_in on xs
  unfolding replaced
  seen-replaced [] i y z within e = absurd (omega arith)
  seen-replaced (x ∷ xs) zero y z within e = ap (λ first. in_front first (seen_in on xs)) e
  seen-replaced (x ∷ xs) (suc i) y z within e = ap (in_front (choice_seen on x)) (seen-replaced xs i y z (omega arith) e)

  pub values-replaced :
      (xs : List (Choice Item)) (i : ℕ) (y : Choice Item) (v : Seen) → i < length xs → choice_seen on y ≡ Some v → IsTrue (aligned i (seen_in on xs))
      → values (seen_in on (replaced xs i y)) ≡ values (seen_in on xs) ++ v ∷ []
  unfolding replaced
  values-replaced [] i y v within some h = absurd (omega arith)
  values-replaced (x ∷ xs) zero y v within some h =
      ap (λ first. values (in_front first (seen_in on xs))) some
      ∙ ap (λ ps. v ∷ values ps) (front-empty (choice_seen on x) (seen_in on xs) h)
      ∙ ap (λ ps. values ps ++ v ∷ []) (sym (empty_is (in_front (choice_seen on x) (seen_in on xs)) h))
  values-replaced (x ∷ xs) (suc i) y v within some h =
      values-front (choice_seen on x) (seen_in on (replaced xs i y))
      ∙ ap (with_first (choice_seen on x)) (values-replaced xs i y v (omega arith) some (front-aligned i (choice_seen on x) (seen_in on xs) h).1)
      ∙ first-append (choice_seen on x) (values (seen_in on xs)) (v ∷ [])
      ∙ ap (λ vs. vs ++ v ∷ []) (sym (values-front (choice_seen on x) (seen_in on xs)))

  pub aligned-replaced :
      (xs : List (Choice Item)) (i : ℕ) (y : Choice Item) (v : Seen) → i < length xs → choice_seen on y ≡ Some v → IsTrue (aligned i (seen_in on xs))
      → IsTrue (aligned (suc i) (seen_in on (replaced xs i y)))
  unfolding replaced
  aligned-replaced [] i y v within some h = absurd (omega arith)
  aligned-replaced (x ∷ xs) zero y v within some h =
      ap (λ first. aligned 1 (in_front first (seen_in on xs))) some ∙ ap is_empty (front-empty (choice_seen on x) (seen_in on xs) h)
  aligned-replaced (x ∷ xs) (suc i) y v within some h =
      let both = front-aligned i (choice_seen on x) (seen_in on xs) h in
      there_aligned (suc i) (choice_seen on x) (seen_in on (replaced xs i y)) both.0 (aligned-replaced xs i y v (omega arith) some both.1)

first_last : (vs : List Seen) (v : Seen) → first_of (vs ++ v ∷ []) ≡ or_later (first_of vs) (Some v)
unfolding or_later
first_last [] v = refl
first_last (first ∷ rest) v = refl

-- the first part that is there, with one part more
pub first_behind : (on : ℕ → Bool) (xs : List (Choice Item)) (y : Choice Item) → first_of (values (seen_in on (xs ++ y ∷ []))) ≡ or_later (first_of (values (seen_in on xs))) (choice_seen on y)
first_behind on xs y = by_part (choice_seen on y) refl
  where
    by_part : (seen : Option Seen) → choice_seen on y ≡ seen → first_of (values (seen_in on (xs ++ y ∷ []))) ≡ or_later (first_of (values (seen_in on xs))) (choice_seen on y)
    by_part None is =
        ap (λ ps. first_of (values ps)) (none_behind on xs y is) ∙ sym (or_later-none (first_of (values (seen_in on xs)))) ∙ ap (or_later (first_of (values (seen_in on xs)))) (sym is)
    by_part (Some v) is =
        ap first_of (some_behind on xs y v is) ∙ first_last (values (seen_in on xs)) v ∙ ap (or_later (first_of (values (seen_in on xs)))) (sym is)

-- whether nothing is there, by the first part
pub nothing_first : (first : Option Seen) (parts : Parts) → is_empty (values (in_front first parts)) ≡ (not (is_there first) && is_empty (values parts))
nothing_first None parts = ap is_empty (values-none parts)
nothing_first (Some first) parts = refl

false_and : (b : Bool) → (b && false) ≡ false
false_and true = refl
false_and false = refl

-- a part that is there is among those that are
pub part_there : (on : ℕ → Bool) (xs : List (Choice Item)) (i : ℕ) (x : Choice Item) → i < length xs → x ≡ get_or xs i x → IsTrue (is_there (choice_seen on x)) → is_empty (values (seen_in on xs)) ≡ false
part_there on [] i x within is there = absurd (omega arith)
part_there on (y ∷ ys) zero x within is there =
    nothing_first (choice_seen on y) (seen_in on ys) ∙ ap (λ (b : Bool). not b && is_empty (values (seen_in on ys))) (ap (λ (part : Choice Item). is_there (choice_seen on part)) (sym is) ∙ there)
part_there on (y ∷ ys) (suc i) x within is there =
    nothing_first (choice_seen on y) (seen_in on ys) ∙ ap (λ (b : Bool). not (is_there (choice_seen on y)) && b) (part_there on ys i x (omega arith) is there) ∙ false_and (not (is_there (choice_seen on y)))

or_parts : (all first : Bool) (rest : Bool) → ((all || first) || not rest) ≡ (all || not (not first && rest))
or_parts true first rest = refl
or_parts false true rest = refl
or_parts false false rest = refl

-- what is there of the rest, by its first part
pub some_first : (on : ℕ → Bool) (x : Choice Item) (rest : List (Choice Item)) (all now : Bool) → now ≡ (all || is_there (choice_seen on x))
    → (now || not (is_empty (values (seen_in on rest)))) ≡ (all || not (is_empty (values (seen_in on (x ∷ rest)))))
some_first on x rest all now is =
    ap (λ (b : Bool). b || not (is_empty (values (seen_in on rest)))) is
    ∙ or_parts all (is_there (choice_seen on x)) (is_empty (values (seen_in on rest)))
    ∙ ap (λ (b : Bool). all || not b) (sym (nothing_first (choice_seen on x) (seen_in on rest)))

rest_of : (xs : List (Choice Item)) (x : Choice Item) (i : ℕ) → i < length xs → x ≡ get_or xs i x → drop i xs ≡ x ∷ drop (i + 1) xs
rest_of xs x i within is = rw (add-one, drop-cons xs i x within) (ap (λ y. y ∷ drop (suc i) xs) (sym is))

-- what is there of the rest, behind one part of all
pub somewhere_step :
    (on : ℕ → Bool) (parts : List (Choice Item)) (i : ℕ) (x : Choice Item) (all now total : Bool) → i < length parts → x ≡ get_or parts i x
    → now ≡ (all || is_there (choice_seen on x))
    → (all || not (is_empty (values (seen_in on (drop i parts))))) ≡ total → (now || not (is_empty (values (seen_in on (drop (i + 1) parts))))) ≡ total
somewhere_step on parts i x all now total within is step before =
    some_first on x (drop (i + 1) parts) all now step
    ∙ ap (λ rest. all || not (is_empty (values (seen_in on rest)))) (sym (rest_of parts x i within is))
    ∙ before

-- ---- alternatives put before those for the part with a number

module _
    (on : ℕ → Bool) (old padded removed new : List (Choice Item)) (i : ℕ) (part prior y : Choice Item)
    (same : seen_in on padded ≡ seen_in on old) (within : i < length padded)
    (removed_is : removed ≡ remove padded i) (new_is : new ≡ insert removed i y) (prior_is : prior ≡ get_or padded i prior)
    (y_is : y.branches.items ≡ part.branches.items ++ prior.branches.items)
  where
    new_replaced : new ≡ replaced padded i y
    new_replaced = new_is ∙ ap (λ xs. insert xs i y) removed_is ∙ insert-remove padded i y within

    seen_first : choice_seen on y ≡ or_later (choice_seen on part) (choice_seen on prior)
    seen_first = ap (λ items. branch_seen on (plain_branches items)) y_is ∙ branches_append on part.branches.items prior.branches.items

    pub put_nothing : choice_seen on part ≡ None → seen_in on new ≡ seen_in on old
    unfolding or_later
    put_nothing none =
        ap (seen_in on) new_replaced
        ∙ seen-replaced on padded i y prior within (seen_first ∙ ap (λ first. or_later first (choice_seen on prior)) none ∙ ap (choice_seen on) prior_is)
        ∙ same

    put_seen : (v : Seen) → choice_seen on part ≡ Some v → choice_seen on y ≡ Some v
    unfolding or_later
    put_seen v some = seen_first ∙ ap (λ first. or_later first (choice_seen on prior)) some

    pub put_values : (v : Seen) → choice_seen on part ≡ Some v → IsTrue (aligned i (seen_in on old)) → values (seen_in on new) ≡ values (seen_in on old) ++ v ∷ []
    put_values v some h =
        ap (λ xs. values (seen_in on xs)) new_replaced
        ∙ values-replaced on padded i y v within (put_seen v some) (ap (aligned i) same ∙ h)
        ∙ ap (λ ps. values ps ++ v ∷ []) same

    pub put_aligned : (v : Seen) → choice_seen on part ≡ Some v → IsTrue (aligned i (seen_in on old)) → IsTrue (aligned (i + 1) (seen_in on new))
    put_aligned v some h =
        ap (λ (n : ℕ). aligned n (seen_in on new)) (add-one i)
        ∙ ap (λ xs. aligned (suc i) (seen_in on xs)) new_replaced
        ∙ aligned-replaced on padded i y v within (put_seen v some) (ap (aligned i) same ∙ h)
