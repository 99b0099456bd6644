-- Types by their numbers.
use Rattle.std.proofs.Common.{arith, ◌≡◌, ℕ, zero, suc, ◌+◌, ◌<◌, ◌≤◌, Bool, true, false, List, [], ◌∷◌, ◌++◌, length, get_or, replicate, refl, sym, ap, subst, ◌∙◌}
use Rattle.std.specs.Prelude.{◌||◌, map, Option, Some, slice_get, if◌then◌else◌}
use Rattle.c_types.specs.declared.types.CType.{CType}
use Rattle.c_types.specs.Types.{PlainType, plain_type}
use Rattle.cond_formula.specs.Conditions.{condition_of, value}
use Rattle.conditional.specs.declared.entries.Guarded.{Guarded}
use Rattle.conditional.specs.Entries.{entries_of, seen, under}
use Rattle.cond_initialisers.specs.Refusals.{RefusedFor, in_pairs, some_refused}
use Rattle.cond_initialisers.specs.Rows.{plain_types, asked_each, some_row, rows_in_pairs}
use Rattle.cond_initialisers.specs.Places.{Extends, AreNumbered}

head_same : {A : Type 0} (x y : A) (xs ys : List A) → x ∷ xs ≡ y ∷ ys → x ≡ y
head_same x y xs ys e = cc

tail_same : {A : Type 0} (x y : A) (xs ys : List A) → x ∷ xs ≡ y ∷ ys → xs ≡ ys
tail_same x y xs ys e = cc

some_same : {A : Type 0} (x y : A) → Some x ≡ Some y → x ≡ y
some_same x y e = cc

-- ---- what is asked of entries

asked_at : (entry : RefusedFor) (ts : List PlainType) (n : ℕ) (ty : PlainType) → slice_get ts n ≡ Some ty → get_or (map entry ts) n false ≡ entry ty
asked_at entry [] n ty e = absurd cc
asked_at entry (t ∷ ts) zero ty e = ap entry (some_same t ty e)
asked_at entry (t ∷ ts) (suc n) ty e = asked_at entry ts n ty e

pub pairs_numbered : (ts : List PlainType) (each : List RefusedFor) (ns : List ℕ) (parts : List PlainType) → AreNumbered ts ns parts → rows_in_pairs (asked_each ts each) ns ≡ in_pairs each parts
pairs_numbered ts [] ns parts are = refl
pairs_numbered ts (entry ∷ each) [] [] are = refl
pairs_numbered ts (entry ∷ each) [] (part ∷ parts) are = absurd cc
pairs_numbered ts (entry ∷ each) (n ∷ ns) [] are = absurd cc
pairs_numbered ts (entry ∷ each) (n ∷ ns) (part ∷ parts) are =
    ap (λ b. b || rows_in_pairs (asked_each ts each) ns)
    (asked_at entry ts n part (head_same (slice_get ts n) (Some part) (map (λ n. slice_get ts n) ns) (map Some parts) are))
    ∙ ap (λ b. entry part || b) (pairs_numbered ts each ns parts (tail_same (slice_get ts n) (Some part) (map (λ n. slice_get ts n) ns) (map Some parts) are))

pub some_asked : (ty : PlainType) (each : List RefusedFor) → some_row (asked_each (ty ∷ []) each) ≡ some_refused each ty
some_asked ty [] = refl
some_asked ty (entry ∷ each) = ap (λ b. entry ty || b) (some_asked ty each)

-- ---- parts of one type

pub one_more_same : {A : Type 0} (count : ℕ) (x : A) → replicate count x ++ x ∷ [] ≡ replicate (count + 1) x
one_more_same count x = let e : count + 1 ≡ suc count = omega arith in last count ∙ ap (λ n. replicate n x) (sym e)
  where
    last : (n : ℕ) → replicate n x ++ x ∷ [] ≡ replicate (suc n) x
    last zero = refl
    last (suc n) = ap (λ l. x ∷ l) (last n)

repeated_numbered : (count : ℕ) (ty : PlainType) → AreNumbered (ty ∷ []) (replicate count 0) (replicate count ty)
repeated_numbered zero ty = refl
repeated_numbered (suc count) ty = ap (λ (l : List (Option PlainType)). Some ty ∷ l) (repeated_numbered count ty)

pub pairs_repeated : (ty : PlainType) (each : List RefusedFor) (count : ℕ) (seen_rows : List (List Bool)) (ns : List ℕ) → seen_rows ≡ asked_each (ty ∷ []) each → ns ≡ replicate count 0
    → rows_in_pairs seen_rows ns ≡ in_pairs each (replicate count ty)
pairs_repeated ty each count seen_rows ns e n =
    ap (λ rs. rows_in_pairs rs ns) e ∙ (ap (rows_in_pairs (asked_each (ty ∷ []) each)) n ∙ pairs_numbered (ty ∷ []) each (replicate count 0) (replicate count ty) (repeated_numbered count ty))

few_repeated : (ty : PlainType) (each : List RefusedFor) (count : ℕ) → length each ≤ count → some_refused each ty ≡ in_pairs each (replicate count ty)
few_repeated ty [] count few = refl
few_repeated ty (entry ∷ each) zero few = absurd (omega (arith, few))
few_repeated ty (entry ∷ each) (suc count) few = ap (λ b. entry ty || b) (few_repeated ty each count (omega (arith, few)))

seen_within : {T P : Type 0} (on : ℕ → Bool) (form : T → P) (list : List (Guarded T)) → length (seen on (entries_of form list)) ≤ length list
seen_within on form [] = omega arith
seen_within {T} {P} on form (x ∷ list) = by (value on (condition_of x.when)) (seen on (entries_of form list)) (seen_within on form list)
  where
    by : (b : Bool) (rest : List P) → length rest ≤ length list → length (if b then form x.what ∷ rest else rest) ≤ suc (length list)
    by true rest h = omega (arith, h)
    by false rest h = omega (arith, h)

asked_long : (ts : List PlainType) (each : List RefusedFor) → length (asked_each ts each) ≡ length each
asked_long ts [] = refl
asked_long ts (entry ∷ each) = ap suc (asked_long ts each)

pub few_in_pairs : {T : Type 0} (on : ℕ → Bool) (form : T → List Bool) (list : List (Guarded T)) (ty : PlainType) (each : List RefusedFor) (count : ℕ) → length list ≤ count
    → seen on (entries_of form list) ≡ asked_each (ty ∷ []) each → some_row (seen on (entries_of form list)) ≡ in_pairs each (replicate count ty)
few_in_pairs on form list ty each count few e =
    let within : length (seen on (entries_of form list)) ≤ length list = seen_within on form list in
    let long : length (seen on (entries_of form list)) ≡ length each = ap length e ∙ asked_long (ty ∷ []) each in
    ap some_row e ∙ (some_asked ty each ∙ few_repeated ty each count (omega (arith, within, long, few)))

-- ---- numbers

pub type_at : (types : List CType) (n : ℕ) (ty : CType) → n < length types → ty ≡ get_or types n ty → slice_get (plain_types types) n ≡ Some (plain_type ty)
type_at [] n ty less e = absurd (omega (arith, less))
type_at (t ∷ types) zero ty less e = ap (λ x. Some (plain_type x)) (sym e)
type_at (t ∷ types) (suc n) ty less e = type_at types n ty (omega (arith, less)) e

pub last_type : (types : List CType) (copy : CType) (ty : PlainType) → plain_type copy ≡ ty → slice_get (plain_types (types ++ copy ∷ [])) (length types) ≡ Some ty
last_type [] copy ty e = ap Some e
last_type (t ∷ types) copy ty e = last_type types copy ty e

pub longer_extends : (types : List CType) (copy : CType) → Extends (plain_types types) (plain_types (types ++ copy ∷ []))
longer_extends [] copy n ty e = absurd cc
longer_extends (t ∷ types) copy zero ty e = e
longer_extends (t ∷ types) copy (suc n) ty e = longer_extends types copy n ty e

still_numbered : (ts us : List PlainType) (ns : List ℕ) (parts : List PlainType) → Extends ts us → AreNumbered ts ns parts → AreNumbered us ns parts
still_numbered ts us [] [] more_ are = refl
still_numbered ts us [] (part ∷ parts) more_ are = absurd cc
still_numbered ts us (n ∷ ns) [] more_ are = absurd cc
still_numbered ts us (n ∷ ns) (part ∷ parts) more_ are =
    ap (λ (o : Option PlainType). o ∷ map (λ n. slice_get us n) ns) (more_ n part (head_same (slice_get ts n) (Some part) (map (λ n. slice_get ts n) ns) (map Some parts) are))
    ∙ ap (λ (l : List (Option PlainType)). Some part ∷ l) (still_numbered ts us ns parts more_ (tail_same (slice_get ts n) (Some part) (map (λ n. slice_get ts n) ns) (map Some parts) are))

one_more : (ts : List PlainType) (ns : List ℕ) (parts : List PlainType) (n : ℕ) (ty : PlainType) → AreNumbered ts ns parts → slice_get ts n ≡ Some ty → AreNumbered ts (ns ++ n ∷ []) (parts ++ ty ∷ [])
one_more ts [] [] n ty are e = ap (λ (o : Option PlainType). o ∷ []) e
one_more ts [] (part ∷ parts) n ty are e = absurd cc
one_more ts (m ∷ ns) [] n ty are e = absurd cc
one_more ts (m ∷ ns) (part ∷ parts) n ty are e =
    ap (λ (o : Option PlainType). o ∷ map (λ n. slice_get ts n) (ns ++ n ∷ [])) (head_same (slice_get ts m) (Some part) (map (λ n. slice_get ts n) ns) (map Some parts) are)
    ∙ ap (λ (l : List (Option PlainType)). Some part ∷ l) (one_more ts ns parts n ty (tail_same (slice_get ts m) (Some part) (map (λ n. slice_get ts n) ns) (map Some parts) are) e)

pub next_numbered : (ts us : List PlainType) (ns new : List ℕ) (parts : List PlainType) (b : Bool) (n : ℕ) (ty : PlainType) → Extends ts us → AreNumbered ts ns parts → slice_get us n ≡ Some ty
    → new ≡ ns ++ under b (n ∷ []) → AreNumbered us new (parts ++ under b (ty ∷ []))
next_numbered ts us ns new parts true n ty more_ are e is =
    subst (λ l. AreNumbered us l (parts ++ ty ∷ [])) (sym is) (one_more us ns parts n ty (still_numbered ts us ns parts more_ are) e)
next_numbered ts us ns new parts false n ty more_ are e is =
    subst (λ l. AreNumbered us l (parts ++ [])) (sym is) (subst (λ l. AreNumbered us (ns ++ []) l) (sym (Rattle.std.proofs.Common.append-nil parts))
    (subst (λ l. AreNumbered us l parts) (sym (Rattle.std.proofs.Common.append-nil ns)) (still_numbered ts us ns parts more_ are)))
