-- What is seen of lists of items, step by step.
use Rattle.std.proofs.Common.{◌≡◌, ℕ, suc, ◌+◌, ◌<◌, ◌≤◌, Bool, true, false, not, ◌&&◌, if◌then◌else◌, List, [], ◌∷◌, ◌++◌, map, drop, length, get_or, Option, Some, refl, sym, ap, ◌∙◌, add-one, drop-cons, append_assoc, append-nil}
use Rattle.std.proofs.lemmas.List.{drop_all, map-append}
use Rattle.c_text.specs.Token.{PlainToken}
use Rattle.cond_formula.specs.Conditions.{condition_of, value}
use Rattle.conditional.specs.declared.entries.Guarded.{Guarded}
use Rattle.conditional.specs.Entries.{Entry, entry_of, entries_of, first, seen, under}
use Rattle.cond_bodies.specs.Spellings.{spelling}
use Rattle.cond_bodies.specs.CondItems.{or_token}

-- the item at an index, and what is behind it
next_item : {T : Type 0} (xs : List T) (x : T) (i : ℕ) → i < length xs → x ≡ get_or xs i x → drop i xs ≡ x ∷ drop (i + 1) xs
next_item xs x i within is = rw (add-one, drop-cons xs i x within) (ap (λ (y : _). y ∷ drop (suc i) xs) (sym is))

pub seen_next : {T P : Type 0} (form : T → P) (on : ℕ → Bool) (xs : List (Guarded T)) (x : Guarded T) (i : ℕ) → i < length xs → x ≡ get_or xs i x →
    seen on (entries_of form (drop i xs))
    ≡ (if value on (condition_of x.when) then form x.what ∷ seen on (entries_of form (drop (i + 1) xs)) else seen on (entries_of form (drop (i + 1) xs)))
seen_next form on xs x i within is = let e = next_item xs x i within is in rw e refl

seen-append : {P : Type 0} (on : ℕ → Bool) (xs ys : List (Entry P)) → seen on (xs ++ ys) ≡ seen on xs ++ seen on ys
seen-append on [] ys = refl
seen-append {P} on (x ∷ xs) ys = by_test (value on x.when) (seen-append on xs ys) where
  by_test : (t : Bool) → seen on (xs ++ ys) ≡ seen on xs ++ seen on ys →
      (if t then x.what ∷ seen on (xs ++ ys) else seen on (xs ++ ys)) ≡ (if t then x.what ∷ seen on xs else seen on xs) ++ seen on ys
  by_test true rest = ap (λ (l : List P). x.what ∷ l) rest
  by_test false rest = rest

-- one more entry
pub seen_pushed : {T P : Type 0} (form : T → P) (on : ℕ → Bool) (xs longer : List (Guarded T)) (x : Guarded T) → longer ≡ xs ++ x ∷ [] →
    seen on (entries_of form longer) ≡ seen on (entries_of form xs) ++ under (value on (condition_of x.when)) (form x.what ∷ [])
seen_pushed {T} {P} form on xs longer x is =
    ap (λ (l : List (Guarded T)). seen on (entries_of form l)) is
    ∙ ap (seen on) (map-append (entry_of form) xs (x ∷ []))
    ∙ seen-append on (entries_of form xs) (entries_of form (x ∷ []))
    ∙ ap (λ (l : List P). seen on (entries_of form xs) ++ l) (one (value on (condition_of x.when)))
  where
    one : (t : Bool) → (if t then form x.what ∷ [] else []) ≡ under t (form x.what ∷ [])
    one true = refl
    one false = refl

-- an entry that never holds
pub never_pushed : {P : Type 0} (k : Bool) (xs ys : List P) → k ≡ false → xs ≡ xs ++ under k ys
never_pushed true xs ys never = cc
never_pushed false xs ys never = sym (append-nil xs)

-- one step through a list that is mapped and taken under a condition
pub under_step : {P Q : Type 0} (f : P → Q) (k t : Bool) (y : P) (rest : List P) (so_far new all : List Q) → so_far ++ under k (map f (if t then y ∷ rest else rest)) ≡ all →
    new ≡ so_far ++ under (t && k) (f y ∷ []) → new ++ under k (map f rest) ≡ all
under_step {P} {Q} f true true y rest so_far new all before pushed = ap (λ (l : List Q). l ++ map f rest) pushed ∙ append_assoc so_far (f y ∷ []) (map f rest) ∙ before
under_step {P} {Q} f false true y rest so_far new all before pushed = ap (λ (l : List Q). l ++ []) (pushed ∙ append-nil so_far) ∙ before
under_step {P} {Q} f k false y rest so_far new all before pushed = ap (λ (l : List Q). l ++ under k (map f rest)) (pushed ∙ append-nil so_far) ∙ before

pub map_step : {P Q : Type 0} (f : P → Q) (t : Bool) (y : P) (rest : List P) (so_far new all : List Q) → so_far ++ map f (if t then y ∷ rest else rest) ≡ all →
    new ≡ so_far ++ under t (f y ∷ []) → new ++ map f rest ≡ all
map_step {P} {Q} f true y rest so_far new all before pushed = ap (λ (l : List Q). l ++ map f rest) pushed ∙ append_assoc so_far (f y ∷ []) (map f rest) ∙ before
map_step {P} {Q} f false y rest so_far new all before pushed = ap (λ (l : List Q). l ++ map f rest) (pushed ∙ append-nil so_far) ∙ before

pub under_end : {P Q : Type 0} (f : P → Q) (k : Bool) (so_far all : List Q) → so_far ++ under k (map f []) ≡ all → so_far ≡ all
under_end f true so_far all is = sym (append-nil so_far) ∙ is
under_end f false so_far all is = sym (append-nil so_far) ∙ is

pub under_all : {T P Q : Type 0} (form : T → P) (f : P → Q) (on : ℕ → Bool) (k : Bool) (xs : List (Guarded T)) (i : ℕ) (so_far all : List Q) → length xs ≤ i →
    so_far ++ under k (map f (seen on (entries_of form (drop i xs)))) ≡ all → so_far ≡ all
under_all form f on k xs i so_far all past is =
    let e = drop_all i xs past in
    let is' = rw e at is in
    under_end f k so_far all is'

pub under_rest : {T P : Type 0} (form : T → P) (on : ℕ → Bool) (k : Bool) (xs : List (Guarded T)) (i : ℕ) (so_far all : List P) → length xs ≤ i →
    so_far ++ under k (seen on (entries_of form (drop i xs))) ≡ all → so_far ≡ all
under_rest form on k xs i so_far all past is =
    let e = drop_all i xs past in
    let is' = rw e at is in
    never_more k so_far ∙ is'
  where
    never_more : {P : Type 0} (k : Bool) (l : List P) → l ≡ l ++ under k []
    never_more true l = sym (append-nil l)
    never_more false l = sym (append-nil l)

pub under_mapped : {A B C : Type 0} (f : B → C) (g : A → B) (k : Bool) (xs : List A) (i : ℕ) (so_far all : List C) → length xs ≤ i →
    so_far ++ under k (map f (map g (drop i xs))) ≡ all → so_far ≡ all
under_mapped f g k xs i so_far all past is =
    let e = drop_all i xs past in
    let is' = rw e at is in
    under_end f k so_far all is'

-- ---- the token that an item copies

first_next : {P : Type 0} (t : Bool) (x : P) (rest : List P) → first (if t then x ∷ rest else rest) ≡ (if t then Some x else first rest)
first_next true x rest = refl
first_next false x rest = refl

source_cases : (like : PlainToken → PlainToken) (token x : PlainToken) (rest : Option PlainToken) (left t : Bool) (so_far new all : List PlainToken) →
    so_far ++ under left (like (or_token token (if t then Some x else rest)) ∷ []) ≡ all → new ≡ so_far ++ under (left && t) (like x ∷ []) →
    new ++ under (left && not t) (like (or_token token rest) ∷ []) ≡ all
source_cases like token x rest true true so_far new all before pushed = append-nil new ∙ pushed ∙ before
source_cases like token x rest true false so_far new all before pushed = ap (λ (l : List PlainToken). l ++ like (or_token token rest) ∷ []) (pushed ∙ append-nil so_far) ∙ before
source_cases like token x rest false t so_far new all before pushed = ap (λ (l : List PlainToken). l ++ []) (pushed ∙ append-nil so_far) ∙ before

pub source_step : {S : Type 0} (plain : S → PlainToken) (like : PlainToken → PlainToken) (token : PlainToken) (on : ℕ → Bool) (xs : List (Guarded S)) (x : Guarded S) (i : ℕ) (left here after : Bool) (so_far new all : List PlainToken) →
    i < length xs → x ≡ get_or xs i x → here ≡ (left && value on (condition_of x.when)) → after ≡ (left && not (value on (condition_of x.when))) →
    so_far ++ under left (like (or_token token (first (seen on (entries_of plain (drop i xs))))) ∷ []) ≡ all → new ≡ so_far ++ under here (like (plain x.what) ∷ []) →
    new ++ under after (like (or_token token (first (seen on (entries_of plain (drop (i + 1) xs))))) ∷ []) ≡ all
source_step plain like token on xs x i left here after so_far new all within is is_here is_after before pushed =
    let t = value on (condition_of x.when) in
    let rest = seen on (entries_of plain (drop (i + 1) xs)) in
    ap (λ (b : Bool). new ++ under b (like (or_token token (first rest)) ∷ [])) is_after
    ∙ source_cases like token (plain x.what) (first rest) left t so_far new all
    (ap (λ (o : Option PlainToken). so_far ++ under left (like (or_token token o) ∷ [])) (sym (ap first (seen_next plain on xs x i within is) ∙ first_next t (plain x.what) rest)) ∙ before)
    (pushed ∙ ap (λ (b : Bool). so_far ++ under b (like (plain x.what) ∷ [])) is_here)

pub source_end : {S : Type 0} (plain : S → PlainToken) (like : PlainToken → PlainToken) (token : PlainToken) (on : ℕ → Bool) (xs : List (Guarded S)) (i : ℕ) (left : Bool) (so_far new all : List PlainToken) → length xs ≤ i →
    so_far ++ under left (like (or_token token (first (seen on (entries_of plain (drop i xs))))) ∷ []) ≡ all → new ≡ so_far ++ under left (like token ∷ []) → new ≡ all
source_end plain like token on xs i left so_far new all past before pushed =
    let e = drop_all i xs past in
    let before' = rw e at before in
    pushed ∙ before'

cons_parts : {A : Type 0} (x y : A) (xs ys : List A) → x ∷ xs ≡ y ∷ ys → (x ≡ y) × (xs ≡ ys)
cons_parts x y xs ys e = (cc, cc)

-- the token that is copied has the spelling of the item
pub source_spelled : (token : PlainToken) (on : ℕ → Bool) (others : List (Entry PlainToken)) → map (λ o. spelling o.what) others ≡ map (λ o. spelling token) others → spelling (or_token token (first (seen on others))) ≡ spelling token
source_spelled token on [] alike = refl
source_spelled token on (x ∷ others) alike =
    let parts = cons_parts (spelling x.what) (spelling token) (map (λ o. spelling o.what) others) (map (λ o. spelling token) others) alike in
    by_test (value on x.when) parts.0 (source_spelled token on others parts.1)
  where
    by_test : (t : Bool) → spelling x.what ≡ spelling token → spelling (or_token token (first (seen on others))) ≡ spelling token →
        spelling (or_token token (first (if t then x.what ∷ seen on others else seen on others))) ≡ spelling token
    by_test true here rest = here
    by_test false here rest = rest
