-- Bodies that are joined, place by place.
use Rattle.std.proofs.Common.{◌≡◌, ℕ, zero, suc, ◌+◌, ◌<◌, ◌≤◌, Bool, true, false, ◌&&◌, ◌||◌, if◌then◌else◌, List, [], ◌∷◌, ◌++◌, map, drop, take, length, get_or, refl, sym, ap, ◌∙◌, add-one, drop-cons, append_assoc, append-nil, arith}
use Rattle.std.proofs.lemmas.List.{drop_all, map-append}
use Rattle.std.specs.List.{flat_map}
use Rattle.c_text.specs.Token.{PlainToken}
use Rattle.c_text.specs.Directives.{is_spelled, is_word}
use Rattle.c_text.specs.Macros as spec
use Rattle.cond_formula.specs.Conditions.{condition_of, value}
use Rattle.conditional.specs.declared.entries.Guarded.{Guarded}
use Rattle.conditional.specs.Entries.{entries_of, seen, under}
use Rattle.cond_bodies.specs.declared.meanings.Function.{Function}
use Rattle.cond_bodies.specs.declared.part.Part.{Part}
use Rattle.cond_bodies.specs.declared.part.Part.TheVariants as part
use Rattle.cond_bodies.specs.Cores.{core, cores}
use Rattle.cond_bodies.specs.CondMeanings.{PlainFunction, plain_function}
use Rattle.cond_bodies.specs.Parts.{part_from}
use Rattle.cond_bodies.specs.Slots.{PlainSlot, slot_of, slots_of, argument_or, part_items, slot_items}
use Rattle.cond_bodies.proofs.ItemLemmas.{seen_next}

nothing_in : {P : Type 0} (x : P) (xs : List P) → x ∷ xs ≡ [] → ⊥
nothing_in x xs e = cc

-- an entry of a list of which nothing is seen doesn't hold
pub unseen_entry : {T P : Type 0} (form : T → P) (on : ℕ → Bool) (xs : List (Guarded T)) (x : Guarded T) (i : ℕ) → i < length xs → x ≡ get_or xs i x → seen on (entries_of form xs) ≡ [] → value on (condition_of x.when) ≡ false
unseen_entry form on [] x i within is none = absurd (omega arith)
unseen_entry {T} form on (y ∷ ys) x zero within is none = ap (λ (z : Guarded T). value on (condition_of z.when)) is ∙ by_test (value on (condition_of y.when)) none where
  by_test : (t : Bool) → (if t then form y.what ∷ seen on (entries_of form ys) else seen on (entries_of form ys)) ≡ [] → t ≡ false
  by_test true e = absurd (nothing_in (form y.what) (seen on (entries_of form ys)) e)
  by_test false e = refl
unseen_entry form on (y ∷ ys) x (suc i) within is none = unseen_entry form on ys x i (omega arith) is (by_test (value on (condition_of y.when)) none) where
  by_test : (t : Bool) → (if t then form y.what ∷ seen on (entries_of form ys) else seen on (entries_of form ys)) ≡ [] → seen on (entries_of form ys) ≡ []
  by_test true e = absurd (nothing_in (form y.what) (seen on (entries_of form ys)) e)
  by_test false e = e

-- ---- one place

pub fit_cases : {P : Type 0} (w t : Bool) (x y : P) → under (t || w) ((if w then y else x) ∷ []) ≡ (if w then y ∷ [] else under t (x ∷ []))
fit_cases true true x y = refl
fit_cases true false x y = refl
fit_cases false true x y = refl
fit_cases false false x y = refl

pub unfit_cases : {P : Type 0} (w t : Bool) (x y : P) (old : List P) → (w ≡ true → t ≡ false) → (old ++ under t (x ∷ [])) ++ under w (y ∷ []) ≡ old ++ (if w then y ∷ [] else under t (x ∷ []))
unfit_cases {P} true t x y old off = ap (λ (b : Bool). (old ++ under b (x ∷ [])) ++ y ∷ []) (off refl) ∙ ap (λ (l : List P). l ++ y ∷ []) (append-nil old)
unfit_cases false t x y old off = append-nil (old ++ under t (x ∷ []))

pub pairs_cases : {P : Type 0} (w t : Bool) (x y : P) (xs ys so_far new all : List P) → so_far ++ (if w then y ∷ ys else (if t then x ∷ xs else xs)) ≡ all →
    new ≡ so_far ++ (if w then y ∷ [] else under t (x ∷ [])) → new ++ (if w then ys else xs) ≡ all
pairs_cases {P} true t x y xs ys so_far new all before pushed = ap (λ (l : List P). l ++ ys) pushed ∙ append_assoc so_far (y ∷ []) ys ∙ before
pairs_cases {P} false true x y xs ys so_far new all before pushed = ap (λ (l : List P). l ++ xs) pushed ∙ append_assoc so_far (x ∷ []) xs ∙ before
pairs_cases {P} false false x y xs ys so_far new all before pushed = ap (λ (l : List P). l ++ xs) (pushed ∙ append-nil so_far) ∙ before

-- ---- the four parts of a joined list

nothing_appended : {P : Type 0} (xs ys : List P) → xs ++ ys ≡ [] → (xs ≡ []) × (ys ≡ [])
nothing_appended [] ys e = (refl, e)
nothing_appended (x ∷ xs) ys e = absurd (nothing_in x (xs ++ ys) e)

pub joined_cases : {P : Type 0} (w : Bool) (first middle last own_first own_middle own_last start a b c d : List P) → (w ≡ true → middle ≡ []) → start ≡ [] →
    a ≡ start ++ (if w then own_first else first) → b ≡ a ++ middle → c ≡ b ++ under w own_middle → d ≡ c ++ (if w then own_last else last) →
    d ≡ (if w then own_first ++ (own_middle ++ own_last) else first ++ (middle ++ last))
joined_cases {P} true first middle last own_first own_middle own_last start a b c d none empty is_a is_b is_c is_d =
    let e : a ≡ own_first = is_a ∙ ap (λ (l : List P). l ++ own_first) empty in
    let f : b ≡ own_first = is_b ∙ ap (λ (l : List P). a ++ l) (none refl) ∙ append-nil a ∙ e in
    is_d ∙ ap (λ (l : List P). l ++ own_last) (is_c ∙ ap (λ (l : List P). l ++ own_middle) f) ∙ append_assoc own_first own_middle own_last
joined_cases {P} false first middle last own_first own_middle own_last start a b c d none empty is_a is_b is_c is_d =
    let e : a ≡ first = is_a ∙ ap (λ (l : List P). l ++ first) empty in
    let f : c ≡ first ++ middle = is_c ∙ append-nil b ∙ is_b ∙ ap (λ (l : List P). l ++ middle) e in
    is_d ∙ ap (λ (l : List P). l ++ last) f ∙ append_assoc first middle last

-- a list in two parts
seen_split : {T P : Type 0} (form : T → P) (on : ℕ → Bool) (n : ℕ) (xs : List (Guarded T)) → seen on (entries_of form xs) ≡ seen on (entries_of form (take n xs)) ++ seen on (entries_of form (drop n xs))
seen_split form on zero xs = refl
seen_split form on (suc n) [] = refl
seen_split {T} {P} form on (suc n) (x ∷ xs) = by_test (value on (condition_of x.when)) (seen_split form on n xs) where
  by_test : (t : Bool) → seen on (entries_of form xs) ≡ seen on (entries_of form (take n xs)) ++ seen on (entries_of form (drop n xs)) →
      (if t then form x.what ∷ seen on (entries_of form xs) else seen on (entries_of form xs))
      ≡ (if t then form x.what ∷ seen on (entries_of form (take n xs)) else seen on (entries_of form (take n xs))) ++ seen on (entries_of form (drop n xs))
  by_test true rest = ap (λ (l : List P). form x.what ∷ l) rest
  by_test false rest = rest

maps_split : {A B C : Type 0} (f : B → C) (g : A → B) (n : ℕ) (xs : List A) → map f (map g xs) ≡ map f (map g (take n xs)) ++ map f (map g (drop n xs))
maps_split f g zero xs = refl
maps_split f g (suc n) [] = refl
maps_split {A} {B} {C} f g (suc n) (x ∷ xs) = ap (λ (l : List C). f (g x) ∷ l) (maps_split f g n xs)

pub seen_parts : {T P : Type 0} (form : T → P) (on : ℕ → Bool) (n : ℕ) (xs first rest : List (Guarded T)) → first ≡ take n xs → rest ≡ drop n xs → seen on (entries_of form xs) ≡ seen on (entries_of form first) ++ seen on (entries_of form rest)
seen_parts {T} form on n xs first rest is_first is_rest =
    seen_split form on n xs
    ∙ ap (λ (l : List (Guarded T)). seen on (entries_of form l) ++ seen on (entries_of form (drop n xs))) (sym is_first)
    ∙ ap (λ (l : List (Guarded T)). seen on (entries_of form first) ++ seen on (entries_of form l)) (sym is_rest)

pub maps_parts : {A B C : Type 0} (f : B → C) (g : A → B) (n : ℕ) (xs first rest : List A) → first ≡ take n xs → rest ≡ drop n xs → map f (map g xs) ≡ map f (map g first) ++ map f (map g rest)
maps_parts {A} f g n xs first rest is_first is_rest =
    maps_split f g n xs
    ∙ ap (λ (l : List A). map f (map g l) ++ map f (map g (drop n xs))) (sym is_first)
    ∙ ap (λ (l : List A). map f (map g first) ++ map f (map g l)) (sym is_rest)

pub map_next : {A B C : Type 0} (f : B → C) (g : A → B) (xs : List A) (x : A) (i : ℕ) → i < length xs → x ≡ get_or xs i x → map f (map g (drop i xs)) ≡ f (g x) ∷ map f (map g (drop (i + 1) xs))
map_next {A} f g xs x i within is =
    let e : drop i xs ≡ x ∷ drop (i + 1) xs = rw (add-one, drop-cons xs i x within) (ap (λ (y : A). y ∷ drop (suc i) xs) (sym is)) in
    rw e refl

pub pairs_end : {A B T P : Type 0} (f : B → P) (g : A → B) (form : T → P) (on : ℕ → Bool) (w : Bool) (ts : List A) (xs : List (Guarded T)) (i : ℕ) (so_far all : List P) → length xs ≤ i → length ts ≤ i →
    so_far ++ (if w then map f (map g (drop i ts)) else seen on (entries_of form (drop i xs))) ≡ all → so_far ≡ all
pairs_end {A} {B} {T} {P} f g form on w ts xs i so_far all past past_tokens is =
    let e = drop_all i xs past in
    let d = drop_all i ts past_tokens in
    let is' = rw (e, d) at is in
    nothing_left w ∙ is'
  where
    nothing_left : (w : Bool) → so_far ≡ so_far ++ (if◌then◌else◌ {A = List P} w [] [])
    nothing_left true = sym (append-nil so_far)
    nothing_left false = sym (append-nil so_far)

pub parts_unseen : {P : Type 0} (w : Bool) (all first middle last : List P) → all ≡ first ++ (middle ++ last) → (w ≡ true → all ≡ []) → (w ≡ true → (first ≡ []) × (middle ≡ []) × (last ≡ []))
parts_unseen w all first middle last is none e =
    let a = nothing_appended first (middle ++ last) (sym is ∙ none e) in
    let b = nothing_appended middle last a.1 in
    (a.0, b.0, b.1)

-- ---- bodies of which one holds

-- the functions that are left, and the places so far, of which this function's are the only ones
abbrev pub Joining : List PlainFunction → List PlainSlot → PlainFunction → Type 0
Joining [] slots f = slots ≡ slots_of f
Joining (g ∷ []) slots f = (g ≡ f) × (slots ≡ [])
Joining (g ∷ h ∷ rest) slots f = ⊥

joining_begins : (fs : List PlainFunction) (slots : List PlainSlot) (f : PlainFunction) → slots ≡ [] → fs ≡ f ∷ [] → Joining fs slots f
joining_begins [] slots f none e = cc
joining_begins (g ∷ []) slots f none e = (cc, none)
joining_begins (g ∷ h ∷ rest) slots f none e = cc

pub joining_init : (fs : List PlainFunction) (slots : List PlainSlot) (f : PlainFunction) → slots ≡ [] → fs ≡ f ∷ [] → Joining fs slots f
joining_init fs slots f none e = joining_begins fs slots f none e

joining_empty_at : (t : Bool) (g : PlainFunction) (rest : List PlainFunction) (slots : List PlainSlot) (f : PlainFunction) → Joining (if t then g ∷ rest else rest) slots f → t ≡ true → slots ≡ []
joining_empty_at true g [] slots f joining e = joining.1
joining_empty_at true g (h ∷ rest) slots f joining e = absurd joining
joining_empty_at false g rest slots f joining e = cc

joining_step_at : (t : Bool) (g : PlainFunction) (rest : List PlainFunction) (slots all : List PlainSlot) (f : PlainFunction) → Joining (if t then g ∷ rest else rest) slots f → all ≡ (if t then slots_of g else slots) → Joining rest all f
joining_step_at true g [] slots all f joining e = e ∙ ap slots_of joining.0
joining_step_at true g (h ∷ rest) slots all f joining e = absurd joining
joining_step_at false g [] slots all f joining e = e ∙ joining
joining_step_at false g (h ∷ []) slots all f joining e = (joining.0, e ∙ joining.1)
joining_step_at false g (h ∷ i ∷ rest) slots all f joining e = absurd joining

module _ (on : ℕ → Bool) (xs : List (Guarded Function)) (x : Guarded Function) (i : ℕ) (within : i < length xs) (is : x ≡ get_or xs i x) where
  pub joining_empty : (slots : List PlainSlot) (f : PlainFunction) → Joining (seen on (entries_of plain_function (drop i xs))) slots f → value on (condition_of x.when) ≡ true → slots ≡ []
  joining_empty slots f joining e =
      let joining' = rw (seen_next plain_function on xs x i within is) at joining in
      joining_empty_at (value on (condition_of x.when)) (plain_function x.what) (seen on (entries_of plain_function (drop (i + 1) xs))) slots f joining' e

  pub joining_step : (slots all : List PlainSlot) (f : PlainFunction) → Joining (seen on (entries_of plain_function (drop i xs))) slots f → all ≡ (if value on (condition_of x.when) then slots_of (plain_function x.what) else slots) → Joining (seen on (entries_of plain_function (drop (i + 1) xs))) all f
  joining_step slots all f joining e =
      let joining' = rw (seen_next plain_function on xs x i within is) at joining in
      joining_step_at (value on (condition_of x.when)) (plain_function x.what) (seen on (entries_of plain_function (drop (i + 1) xs))) slots all f joining' e

pub joining_end : (on : ℕ → Bool) (xs : List (Guarded Function)) (i : ℕ) (slots : List PlainSlot) (f : PlainFunction) → length xs ≤ i → Joining (seen on (entries_of plain_function (drop i xs))) slots f → slots ≡ slots_of f
joining_end on xs i slots f past joining =
    let e = drop_all i xs past in
    let joining' = rw e at joining in
    joining'

-- ---- arguments in the places of parameters

pub argument_found : {A : Type 0} (form : A → List spec.Item) (token : PlainToken) (number : ℕ) (arguments : List A) (a : A) → number < length arguments → a ≡ get_or arguments number a → argument_or token number (map form arguments) ≡ form a
argument_found form token number [] a within is = absurd (omega arith)
argument_found form token zero (b ∷ arguments) a within is = ap form (sym is)
argument_found form token (suc number) (b ∷ arguments) a within is = argument_found form token number arguments a (omega arith) is

pub argument_beyond : {A : Type 0} (form : A → List spec.Item) (token : PlainToken) (number : ℕ) (arguments : List A) → length arguments ≤ number → argument_or token number (map form arguments) ≡ spec.fresh token ∷ []
argument_beyond form token number [] past = refl
argument_beyond form token zero (b ∷ arguments) past = absurd (omega arith)
argument_beyond form token (suc number) (b ∷ arguments) past = argument_beyond form token number arguments (omega arith)

no_arguments : (token : PlainToken) (p : Part) → part_items [] token p ≡ spec.fresh token ∷ []
no_arguments token part.Token = refl
no_arguments token (part.Parameter number) = refl

part_shifted : (argument : List spec.Item) (arguments : List (List spec.Item)) (token : PlainToken) (number : ℕ) (params : List (List ℕ)) →
    part_items (argument ∷ arguments) token (part_from (number + 1) params token) ≡ part_items arguments token (part_from number params token)
part_shifted argument arguments token number [] = refl
part_shifted argument arguments token number (param ∷ params) = by_test (is_word token && is_spelled param token) (part_shifted argument arguments token (number + 1) params) where
  by_test : (b : Bool) → part_items (argument ∷ arguments) token (part_from ((number + 1) + 1) params token) ≡ part_items arguments token (part_from (number + 1) params token) →
      part_items (argument ∷ arguments) token (if b then part.Parameter (number + 1) else part_from ((number + 1) + 1) params token) ≡ part_items arguments token (if b then part.Parameter number else part_from (number + 1) params token)
  by_test true rest = rw add-one refl
  by_test false rest = rest

part_substituted : (params : List (List ℕ)) (arguments : List (List spec.Item)) (token : PlainToken) → part_items arguments token (part_from 0 params token) ≡ spec.substituted_for params arguments token
part_substituted [] arguments token = refl
part_substituted (param ∷ params) [] token = no_arguments token (part_from 0 (param ∷ params) token)
part_substituted (param ∷ params) (argument ∷ arguments) token = by_test (is_word token && is_spelled param token) (part_shifted argument arguments token 0 params ∙ part_substituted params arguments token) where
  by_test : (b : Bool) → part_items (argument ∷ arguments) token (part_from 1 params token) ≡ spec.substituted_for params arguments token →
      part_items (argument ∷ arguments) token (if b then part.Parameter 0 else part_from 1 params token) ≡ (if b then argument else spec.substituted_for params arguments token)
  by_test true rest = refl
  by_test false rest = rest

pub slots_substituted : (params : List (List ℕ)) (arguments : List (List spec.Item)) (body : List PlainToken) → flat_map (slot_items arguments) (map (slot_of params) body) ≡ spec.substituted params arguments body
slots_substituted params arguments [] = refl
slots_substituted params arguments (token ∷ body) =
    ap (λ (l : List spec.Item). l ++ flat_map (slot_items arguments) (map (slot_of params) body)) (part_substituted params arguments token)
    ∙ ap (λ (l : List spec.Item). spec.substituted_for params arguments token ++ l) (slots_substituted params arguments body)

-- one place more
part_cases : (g : PlainSlot → List spec.Item) (t : Bool) (y : PlainSlot) (rest : List PlainSlot) (so_far new all : List spec.Item) → so_far ++ cores (flat_map g (if t then y ∷ rest else rest)) ≡ all →
    new ≡ so_far ++ under t (cores (g y)) → new ++ cores (flat_map g rest) ≡ all
part_cases g true y rest so_far new all before pushed =
    ap (λ (l : List spec.Item). l ++ cores (flat_map g rest)) pushed ∙ append_assoc so_far (cores (g y)) (cores (flat_map g rest))
    ∙ ap (λ (l : List spec.Item). so_far ++ l) (sym (map-append core (g y) (flat_map g rest))) ∙ before
part_cases g false y rest so_far new all before pushed = ap (λ (l : List spec.Item). l ++ cores (flat_map g rest)) (pushed ∙ append-nil so_far) ∙ before

pub part_step : {T : Type 0} (form : T → PlainSlot) (on : ℕ → Bool) (g : PlainSlot → List spec.Item) (xs : List (Guarded T)) (x : Guarded T) (i : ℕ) (so_far new all : List spec.Item) → i < length xs → x ≡ get_or xs i x →
    so_far ++ cores (flat_map g (seen on (entries_of form (drop i xs)))) ≡ all → new ≡ so_far ++ under (value on (condition_of x.when)) (cores (g (form x.what))) → new ++ cores (flat_map g (seen on (entries_of form (drop (i + 1) xs)))) ≡ all
part_step form on g xs x i so_far new all within is before pushed =
    let before' = rw (seen_next form on xs x i within is) at before in
    part_cases g (value on (condition_of x.when)) (form x.what) (seen on (entries_of form (drop (i + 1) xs))) so_far new all before' pushed

pub part_end : {T : Type 0} (form : T → PlainSlot) (on : ℕ → Bool) (g : PlainSlot → List spec.Item) (xs : List (Guarded T)) (i : ℕ) (so_far all : List spec.Item) → length xs ≤ i →
    so_far ++ cores (flat_map g (seen on (entries_of form (drop i xs)))) ≡ all → so_far ≡ all
part_end form on g xs i so_far all past before =
    let e = drop_all i xs past in
    let before' = rw e at before in
    sym (append-nil so_far) ∙ before'

-- an argument, or a token, in its place
pub part_pushed : (t : Bool) (so_far new items given : List spec.Item) → new ≡ so_far ++ under t items → items ≡ given → cores new ≡ cores so_far ++ under t (cores given)
part_pushed true so_far new items given pushed is = ap cores pushed ∙ map-append core so_far items ∙ ap (λ (l : List spec.Item). cores so_far ++ cores l) is
part_pushed false so_far new items given pushed is = ap cores pushed ∙ map-append core so_far []

pub cores_under : (t : Bool) (items : List spec.Item) → cores (under t items) ≡ under t (cores items)
cores_under true items = refl
cores_under false items = refl
