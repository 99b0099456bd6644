-- The least of the names that have a fault is the first, and each name that has one is found.
use Rattle.std.proofs.Common.{◌≡◌, ◌↔◌, ℕ, zero, suc, ◌+◌, ◌<◌, ◌≤◌, ◌-◌, nat_lt, nat_le, Bool, true, false, not, ◌&&◌, ◌||◌, ◌==◌, List, [], ◌∷◌, ◌++◌, map, length, get_or, drop, ⊎_elim, inl, inr, refl, sym, ap, subst, ◌∙◌, arith, add-one, drop-cons}
use Rattle.std.specs.Result.{MatchResult, IsErrAnd}
use Rattle.std.specs.Prelude.{Result, Ok, Err, ◌⊎◌, Option, Some, None, is_some, option_map, filter, if◌then◌else◌, Vec}
use Rattle.std.specs.declared.alloc.Global.{Global}
use Rattle.std.specs.List.{list_any, AllZip}
use Rattle.std.specs.Map.{lookup, keys_of}
use Rattle.std.specs.Str.{bytes_eq}
use Rattle.std.specs.Cmp.Lexicographic.{bytes_decides}
use Rattle.std.proofs.Math.ListN.{drop_of_length-le}
use Rattle.std.proofs.lemmas.List.{length-drop}
use Rattle.std.proofs.lemmas.Bool.{cases_Bool, or_cases, or_left, or_right, and_parts, and_from, both_ways}
use Rattle.std.proofs.lemmas.Bool.Decides.{nat_tests}
use Rattle.core_meaning.specs.declared.refusals.LinkKind.{LinkKind}
use Rattle.core_meaning.specs.declared.refusals.LinkKind.TheVariants as link
use Rattle.core_meaning.specs.UnitNames.{Defined, same_types}
use Rattle.core_meaning.specs.Linking.{Unit, Units, is_lesser, IsFault, IsFirstFault, Links, link_number, is_internal, defines, count_whole, count_defined, count_external, count_in_unit, is_available, is_duplicate, built_in_named, built_in_signature, is_tentative, SortsAgree, external_sort, external_sorts, built_in_sort}
use Rattle.std.proofs.lemmas.List.Elements.{All-nil}
use Rattle.c_types.specs.declared.types.CType.{CType}
use Rattle.c_types.specs.Types.{PlainType, void, char, int, pointer_to, plain_type}
use Rattle.c_types.specs.Tags.{PlainTag}
use Rattle.c_types.specs.Compatible.{Agree, Compatible, PairAgrees}
use Rattle.core_meaning.specs.declared.program.BuiltIn.{BuiltIn}
use Rattle.core_meaning.specs.declared.program.BuiltIn.TheVariants.{Putchar, Getchar, Puts, Exit}
use Rattle.core_meaning.specs.Entities.{Sort, function, tags_of}
use Rattle.core_meaning.proofs.NameOrder.{lesser_trans, lesser_not_itself}
use Rattle.plain_scope.specs.declared.entities.FileName.{FileName}
use Rattle.plain_scope.specs.declared.entities.Struct.{Struct}
use Rattle.plain_scope.specs.PlainScope.{plain_file_name, plain_struct, entry_of}
use Rattle.plain_link.specs.PlainUnits.{plain_unit, plain_units, key_texts}
use Rattle.plain_link.specs.PlainDefinitions.{plain_defined}
use Rattle.plain_link.specs.declared.left.Left.{Left}
use Rattle.plain_link.specs.declared.definitions.Defined.{Defined as RustDefined}
use Rattle.plain_scope.specs.declared.errors.ElabError.{ElabError}
use Rattle.plain_scope.specs.declared.errors.ElabError.TheVariants.{BadType, Link, Memory}
use Rattle.plain_link.specs.Faults.{IsIn, Finds, least_from, least_of, RefusedLeast, IsLeastFault, NotLinked, undefined_in, undefined_names, not_available, duplicate_in, duplicate_names, Adds, Collects, AllOf, FitsSort, IsFitting, FitsHere, IsApartHere, IsApartOf, IsApartAmong, IsApartFrom, AreApartNamed}

-- ---- the order of names

pub lesser_past : (a b : List ℕ) (i : ℕ) → i < length a → length b ≤ i → is_lesser (drop i a) (drop i b) ≡ false
lesser_past a b i h k = rw (drop-cons a i 0 h, drop_of_length-le b k) refl

lesser_nil : (b : List ℕ) → is_lesser [] b ≡ nat_lt 0 (length b)
lesser_nil [] = refl
lesser_nil (b ∷ bs) = grind (arith, nat_tests)

pub lesser_end : (a b : List ℕ) (i : ℕ) → i ≡ length a → i ≤ length b → is_lesser (drop i a) (drop i b) ≡ nat_lt (length a) (length b)
lesser_end a b i h k =
    let none : drop i a ≡ [] = drop_of_length-le a (omega arith) in
    let some : is_lesser [] (drop i b) ≡ nat_lt 0 (length (drop i b)) = lesser_nil (drop i b) in
    rw none (some ∙ rw (length-drop i b) (grind (arith, nat_tests)))

-- ---- the least of a list

least_is_in : (least : List ℕ) (names : List (List ℕ)) → IsIn (least_from least names) (least ∷ names)
least_is_in least [] = inl refl
least_is_in least (name ∷ rest) = choose (is_lesser name least) (least_is_in (if is_lesser name least then name else least) rest)
  where
    choose : (t : Bool) → IsIn (least_from (if t then name else least) rest) ((if t then name else least) ∷ rest) → IsIn (least_from (if t then name else least) rest) (least ∷ name ∷ rest)
    choose true h = inr h
    choose false (inl e) = inl e
    choose false (inr h) = inr (inr h)

never_below : (n least : List ℕ) (names : List (List ℕ)) → (is_lesser n least ≡ true → ⊥) → is_lesser n (least_from least names) ≡ true → ⊥
never_below n least [] h k = h k
never_below n least (name ∷ rest) h k =
    ⊎_elim
    (λ (e : is_lesser name least ≡ true).
    let k2 = rw e at k in
    never_below n name rest (λ below. h (lesser_trans n name least below e)) k2)
    (λ (e : is_lesser name least ≡ false).
    let k2 = rw e at k in
    never_below n least rest h k2)
    (cases_Bool (is_lesser name least))

least_is_least : (n least : List ℕ) (names : List (List ℕ)) → IsIn n (least ∷ names) → is_lesser n (least_from least names) ≡ true → ⊥
least_is_least n least names (inl e) k =
    never_below n least names (λ below. lesser_not_itself n (subst (λ x. is_lesser n x ≡ true) e below)) k
least_is_least n least [] (inr h) k = absurd h
least_is_least n least (name ∷ rest) (inr (inl e)) k =
    ⊎_elim
    (λ (t : is_lesser name least ≡ true).
    let k2 = rw t at k in
    least_is_least n name rest (inl e) k2)
    (λ (t : is_lesser name least ≡ false).
    let k2 = rw t at k in
    never_below n least rest (λ below. both_ways _ t (subst (λ x. is_lesser x least ≡ true) (sym e) below)) k2)
    (cases_Bool (is_lesser name least))
least_is_least n least (name ∷ rest) (inr (inr h)) k =
    ⊎_elim
    (λ (t : is_lesser name least ≡ true).
    let k2 = rw t at k in
    least_is_least n name rest (inr h) k2)
    (λ (t : is_lesser name least ≡ false).
    let k2 = rw t at k in
    least_is_least n least rest (inr h) k2)
    (cases_Bool (is_lesser name least))

least_in : (names : List (List ℕ)) (name : List ℕ) → least_of names ≡ Some name → IsIn name names
least_in [] name e = absurd cc
least_in (first ∷ rest) name e =
    let same : least_from first rest ≡ name = cc in
    subst (λ n. IsIn n (first ∷ rest)) same (least_is_in first rest)

least_below : (names : List (List ℕ)) (name n : List ℕ) → least_of names ≡ Some name → IsIn n names → is_lesser n name ≡ true → ⊥
least_below [] name n e h k = absurd h
least_below (first ∷ rest) name n e h k =
    let same : name ≡ least_from first rest = cc in
    least_is_least n first rest h (subst (λ x. is_lesser n x ≡ true) same k)

none_in : (names : List (List ℕ)) (n : List ℕ) → least_of names ≡ None → IsIn n names → ⊥
none_in [] n e h = absurd h
none_in (first ∷ rest) n e h = absurd cc

pub none_found : {P : List ℕ → Type 0} (names : List (List ℕ)) → Finds names P → least_of names ≡ None → (n : List ℕ) → P n → ⊥
none_found names finds e n p = none_in names n e (finds.complete n p)

pub least_found : (linked : Units) (kind : LinkKind) (names : List (List ℕ)) → Finds names (IsFault linked kind) → (e : ElabError) → RefusedLeast kind names e → IsLeastFault linked kind e
least_found linked kind names finds (Link given name) h = (
  h.0,
  record {
    fault = finds.holds name.items (least_in names name.items h.1);
    no_lesser = λ n lesser p. least_below names name.items n h.1 (finds.complete n p) lesser;
  },
)
least_found linked kind names finds (BadType given at) h = absurd h
least_found linked kind names finds Memory h = tt

-- ---- membership

pub in_front : {A : Type 0} (x : A) (xs ys : List A) → IsIn x xs → IsIn x (xs ++ ys)
in_front x [] ys h = absurd h
in_front x (y ∷ xs) ys (inl e) = inl e
in_front x (y ∷ xs) ys (inr h) = inr (in_front x xs ys h)

pub in_back : {A : Type 0} (x : A) (xs ys : List A) → IsIn x ys → IsIn x (xs ++ ys)
in_back x [] ys h = h
in_back x (y ∷ xs) ys h = inr (in_back x xs ys h)

pub in_either : {A : Type 0} (x : A) (xs ys : List A) → IsIn x (xs ++ ys) → IsIn x xs ⊎ IsIn x ys
in_either x [] ys h = inr h
in_either x (y ∷ xs) ys (inl e) = inl (inl e)
in_either x (y ∷ xs) ys (inr h) = ⊎_elim (λ (p : IsIn x xs). inl (inr p)) (λ (p : IsIn x ys). inr p) (in_either x xs ys h)

put_in : {A : Type 0} (x y : A) (rest : List A) (b : Bool) → IsIn x rest → IsIn x (if b then y ∷ rest else rest)
put_in x y rest true h = inr h
put_in x y rest false h = h

in_filtered : {A : Type 0} (test : A → Bool) (x : A) (xs : List A) → IsIn x xs → test x ≡ true → IsIn x (filter test xs)
in_filtered test x [] h t = absurd h
in_filtered test x (y ∷ xs) (inl e) t =
    let t2 : test y ≡ true = ap test e ∙ t in
    rw t2 (inl e)
in_filtered test x (y ∷ xs) (inr h) t = put_in x y (filter test xs) (test y) (in_filtered test x xs h t)

kept_in : {A : Type 0} (test : A → Bool) (x y : A) (rest kept : List A) (b : Bool) → test y ≡ b → (IsIn x kept → IsIn x rest × (test x ≡ true)) → IsIn x (if b then y ∷ kept else kept) → IsIn x (y ∷ rest) × (test x ≡ true)
kept_in test x y rest kept true t later (inl e) = (inl e, ap test (sym e) ∙ t)
kept_in test x y rest kept true t later (inr h) = (inr (later h).0, (later h).1)
kept_in test x y rest kept false t later h = (inr (later h).0, (later h).1)

of_filtered : {A : Type 0} (test : A → Bool) (x : A) (xs : List A) → IsIn x (filter test xs) → IsIn x xs × (test x ≡ true)
of_filtered test x [] h = absurd h
of_filtered test x (y ∷ xs) h = kept_in test x y xs (filter test xs) (test y) refl (of_filtered test x xs) h

-- ---- names that are keys of maps

key_found : {K X : Type 0} (text : K → List ℕ) (name : List ℕ) (es : List (K × X)) → is_some (lookup (λ k. bytes_eq name (text k)) es) ≡ true → IsIn name (map text (keys_of es))
key_found text name [] h = absurd cc
key_found text name (e ∷ es) h =
    ⊎_elim
    (λ (t : bytes_eq name (text e.0) ≡ true). inl (sym ((bytes_decides name (text e.0)).0 t)))
    (λ (t : bytes_eq name (text e.0) ≡ false). inr (key_found text name es (rw t at h)))
    (cases_Bool (bytes_eq name (text e.0)))

key_is_found : {K X : Type 0} (text : K → List ℕ) (name : List ℕ) (es : List (K × X)) → IsIn name (map text (keys_of es)) → is_some (lookup (λ k. bytes_eq name (text k)) es) ≡ true
key_is_found text name [] h = absurd h
key_is_found text name (e ∷ es) (inl same) = rw ((bytes_decides name (text e.0)).1 (sym same)) refl
key_is_found text name (e ∷ es) (inr h) =
    ⊎_elim
    (λ (t : bytes_eq name (text e.0) ≡ true). rw t refl)
    (λ (t : bytes_eq name (text e.0) ≡ false). rw t (key_is_found text name es h))
    (cases_Bool (bytes_eq name (text e.0)))

-- ---- names that aren't defined

undefined_is : (all units : List Left) (name : List ℕ) → IsIn name (undefined_names all units) → list_any (λ unit. unit.uses name && not (is_available (map (plain_unit 0) all) unit name)) (map (plain_unit 0) units) ≡ true
undefined_is all [] name h = absurd h
undefined_is all (unit ∷ rest) name h =
    ⊎_elim
    (λ (p : IsIn name (undefined_in all unit)).
    let parts = of_filtered (not_available all unit) name (key_texts unit.used.names) p in
    or_left _ _ (and_from _ _ (key_is_found (λ (key : Vec ℕ Global). key.items) name unit.used.names.entries parts.0) parts.1))
    (λ (p : IsIn name (undefined_names all rest)). or_right _ _ (undefined_is all rest name p))
    (in_either name (undefined_in all unit) (undefined_names all rest) h)

undefined_all : (all units : List Left) (name : List ℕ) → list_any (λ unit. unit.uses name && not (is_available (map (plain_unit 0) all) unit name)) (map (plain_unit 0) units) ≡ true → IsIn name (undefined_names all units)
undefined_all all [] name h = absurd cc
undefined_all all (unit ∷ rest) name h =
    ⊎_elim
    (λ (p : ((plain_unit 0 unit).uses name && not_available all unit name) ≡ true).
    let parts = and_parts _ _ p in
    in_front name (undefined_in all unit) (undefined_names all rest)
    (in_filtered (not_available all unit) name (key_texts unit.used.names)
    (key_found (λ (key : Vec ℕ Global). key.items) name unit.used.names.entries parts.0) parts.1))
    (λ (p : list_any (λ u. u.uses name && not (is_available (map (plain_unit 0) all) u name)) (map (plain_unit 0) rest) ≡ true).
    in_back name (undefined_in all unit) (undefined_names all rest) (undefined_all all rest name p))
    (or_cases _ _ h)

pub finds_undefined : (units : List Left) → Finds (undefined_names units units) (IsFault (plain_units 0 units []) link.Undefined)
finds_undefined units = record {
  holds = λ name h. undefined_is units units name h;
  complete = λ name h. undefined_all units units name h;
}

-- ---- names that are defined twice

duplicate_is : (all units : List Left) (name : List ℕ) → IsIn name (duplicate_names all units) → is_duplicate (map (plain_unit 0) all) name ≡ true
duplicate_is all [] name h = absurd h
duplicate_is all (unit ∷ rest) name h =
    ⊎_elim
    (λ (p : IsIn name (duplicate_in all unit)).
    (of_filtered (is_duplicate (map (plain_unit 0) all)) name (map (λ (d : RustDefined). d.name.items) unit.defined.list.items) p).1)
    (λ (p : IsIn name (duplicate_names all rest)). duplicate_is all rest name p)
    (in_either name (duplicate_in all unit) (duplicate_names all rest) h)

defined_in : (defined : List RustDefined) (name : List ℕ) → list_any (λ d. bytes_eq d.name name) (map (plain_defined 0) defined) ≡ true → IsIn name (map (λ (d : RustDefined). d.name.items) defined)
defined_in [] name h = absurd cc
defined_in (d ∷ rest) name h =
    ⊎_elim
    (λ (t : bytes_eq d.name.items name ≡ true). inl ((bytes_decides d.name.items name).0 t))
    (λ (t : list_any (λ e. bytes_eq e.name name) (map (plain_defined 0) rest) ≡ true). inr (defined_in rest name t))
    (or_cases _ _ h)

duplicate_all : (all units : List Left) (name : List ℕ) → is_duplicate (map (plain_unit 0) all) name ≡ true → list_any (λ unit. defines unit name) (map (plain_unit 0) units) ≡ true → IsIn name (duplicate_names all units)
duplicate_all all [] name twice h = absurd cc
duplicate_all all (unit ∷ rest) name twice h =
    ⊎_elim
    (λ (p : defines (plain_unit 0 unit) name ≡ true).
    in_front name (duplicate_in all unit) (duplicate_names all rest)
    (in_filtered (is_duplicate (map (plain_unit 0) all)) name (map (λ (d : RustDefined). d.name.items) unit.defined.list.items)
    (defined_in unit.defined.list.items name p) twice))
    (λ (p : list_any (λ u. defines u name) (map (plain_unit 0) rest) ≡ true).
    in_back name (duplicate_in all unit) (duplicate_names all rest) (duplicate_all all rest name twice p))
    (or_cases _ _ h)

whole_step : (t : Bool) (n : ℕ) → 1 ≤ (if t then 1 else 0) + n → (t ≡ true) ⊎ (1 ≤ n)
whole_step true n h = inl refl
whole_step false n h = inr (omega arith)

whole_defined : (defined : List Defined) (name : List ℕ) → 1 ≤ count_whole defined name → list_any (λ d. bytes_eq d.name name) defined ≡ true
whole_defined [] name h = absurd (omega arith)
whole_defined (d ∷ rest) name h =
    ⊎_elim
    (λ (t : (bytes_eq d.name name && not (is_tentative d.body)) ≡ true). or_left (bytes_eq d.name name) (list_any (λ e. bytes_eq e.name name) rest) (and_parts (bytes_eq d.name name) (not (is_tentative d.body)) t).0)
    (λ (k : 1 ≤ count_whole rest name). or_right (bytes_eq d.name name) (list_any (λ e. bytes_eq e.name name) rest) (whole_defined rest name k))
    (whole_step (bytes_eq d.name name && not (is_tentative d.body)) (count_whole rest name) h)

counted_cases : (n : ℕ) (t : Bool) → 1 ≤ (if n == 0 && t then 1 else n) → (t ≡ true) ⊎ (1 ≤ n)
counted_cases n true h = inl refl
counted_cases zero false h = absurd (omega arith)
counted_cases (suc n) false h = inr (omega arith)

counted_defined : (unit : Unit) (name : List ℕ) → 1 ≤ count_defined unit name → defines unit name ≡ true
counted_defined unit name h =
    ⊎_elim
    (λ (t : defines unit name ≡ true). t)
    (λ (k : 1 ≤ count_whole unit.defined name). whole_defined unit.defined name k)
    (counted_cases (count_whole unit.defined name) (defines unit name) h)

external_step : (t : Bool) (m n : ℕ) → 1 ≤ (if t then 0 else m) + n → (1 ≤ m) ⊎ (1 ≤ n)
external_step true m n h = inr (omega arith)
external_step false zero n h = inr (omega arith)
external_step false (suc m) n h = inl (omega arith)

external_defined : (units : List Unit) (name : List ℕ) → 1 ≤ count_external units name → list_any (λ unit. defines unit name) units ≡ true
external_defined [] name h = absurd (omega arith)
external_defined (unit ∷ rest) name h =
    ⊎_elim
    (λ (k : 1 ≤ count_defined unit name). or_left _ _ (counted_defined unit name k))
    (λ (k : 1 ≤ count_external rest name). or_right _ _ (external_defined rest name k))
    (external_step (is_internal unit name) (count_defined unit name) (count_external rest name) h)

two_inside : (t : Bool) (n : ℕ) → nat_le 2 (if t then n else 0) ≡ true → 1 ≤ n
two_inside true n h = grind (arith, nat_tests)
two_inside false n h = absurd (grind (arith, nat_tests))

inside_defined : (units : List Unit) (name : List ℕ) → list_any (λ unit. nat_le 2 (count_in_unit unit name)) units ≡ true → list_any (λ unit. defines unit name) units ≡ true
inside_defined [] name h = absurd cc
inside_defined (unit ∷ rest) name h =
    ⊎_elim
    (λ (k : nat_le 2 (count_in_unit unit name) ≡ true).
    or_left _ _ (counted_defined unit name (two_inside (is_internal unit name) (count_defined unit name) k)))
    (λ (k : list_any (λ u. nat_le 2 (count_in_unit u name)) rest ≡ true). or_right _ _ (inside_defined rest name k))
    (or_cases _ _ h)

duplicate_cases : (a b c d : Bool) → (a || b || c && d) ≡ true → (a ≡ true) ⊎ ((b ≡ true) ⊎ (d ≡ true))
duplicate_cases true b c d h = inl refl
duplicate_cases false true c d h = inr (inl refl)
duplicate_cases false false true true h = inr (inr refl)
duplicate_cases false false true false h = absurd cc
duplicate_cases false false false d h = absurd cc

duplicate_defined : (units : List Unit) (name : List ℕ) → is_duplicate units name ≡ true → list_any (λ unit. defines unit name) units ≡ true
duplicate_defined units name h =
    ⊎_elim
    (λ (k : nat_le 2 (count_external units name) ≡ true). external_defined units name (at_least 2 (count_external units name) k (omega arith)))
    (λ (rest : (list_any (λ unit. nat_le 2 (count_in_unit unit name)) units ≡ true) ⊎ (nat_le 1 (count_external units name) ≡ true)). ⊎_elim
    (λ (k : list_any (λ unit. nat_le 2 (count_in_unit unit name)) units ≡ true). inside_defined units name k)
    (λ (k : nat_le 1 (count_external units name) ≡ true). external_defined units name (at_least 1 (count_external units name) k (omega arith)))
    rest)
    (duplicate_cases _ _ (is_some (built_in_named name)) _ h)
  where
    at_least : (m n : ℕ) → nat_le m n ≡ true → 1 ≤ m → 1 ≤ n
    at_least m n k l = grind (arith, nat_tests)

pub finds_duplicate : (units : List Left) → Finds (duplicate_names units units) (IsFault (plain_units 0 units []) link.Duplicate)
finds_duplicate units = record {
  holds = λ name h. duplicate_is units units name h;
  complete = λ name h. duplicate_all units units name h (duplicate_defined (map (plain_unit 0) units) name h);
}

-- ---- answers

-- an error is passed on as it is
pub passed_on : {T : Type 0} (r : Result T ElabError) (e : ElabError) (P : T → Type 0) (Q : ElabError → Type 0) → IsErrAnd r (λ x. x ≡ e) → Q e → MatchResult r P Q
passed_on (Ok x) e P Q h q = absurd h
passed_on (Err x) e P Q h q = subst Q (sym h) q

-- ---- lists of names that grow

pub adds_none : (P : List ℕ → Type 0) (found : List (List ℕ)) → Adds P [] found found
adds_none P found = record {
  kept = λ name h. h;
  holds = λ name h. inl h;
  complete = λ name h p. absurd h;
}

adds_head : (P : List ℕ → Type 0) (name n : List ℕ) (rest : List (List ℕ)) → P name → IsIn n (name ∷ []) → IsIn n (name ∷ rest) × P n
adds_head P name n rest p (inl e) = (inl e, subst P e p)
adds_head P name n rest p (inr h) = absurd h

adds_complete : (P : List ℕ → Type 0) (name n : List ℕ) (rest found last : List (List ℕ)) → Adds P rest (found ++ name ∷ []) last → IsIn n (name ∷ rest) → P n → IsIn n last
adds_complete P name n rest found last h (inl e) p = h.kept n (in_back n found (name ∷ []) (inl e))
adds_complete P name n rest found last h (inr k) p = h.complete n k p

pub adds_one : (P : List ℕ → Type 0) (name : List ℕ) (rest found last : List (List ℕ)) → P name → Adds P rest (found ++ name ∷ []) last → Adds P (name ∷ rest) found last
adds_one P name rest found last p h = record {
  kept = λ n k. h.kept n (in_front n found (name ∷ []) k);
  holds = λ n k. ⊎_elim
      (λ (a : IsIn n (found ++ name ∷ [])). ⊎_elim
      (λ (b : IsIn n found). inl b)
      (λ (b : IsIn n (name ∷ [])). inr (adds_head P name n rest p b))
      (in_either n found (name ∷ []) a))
      (λ (a : IsIn n rest × P n). inr (inr a.0, a.1))
      (h.holds n k);
  complete = λ n k q. adds_complete P name n rest found last h k q;
}

skips_complete : (P : List ℕ → Type 0) (name n : List ℕ) (rest found last : List (List ℕ)) → (P name → ⊥) → Adds P rest found last → IsIn n (name ∷ rest) → P n → IsIn n last
skips_complete P name n rest found last never h (inl e) p = absurd (never (subst P (sym e) p))
skips_complete P name n rest found last never h (inr k) p = h.complete n k p

pub skips_one : (P : List ℕ → Type 0) (name : List ℕ) (rest found last : List (List ℕ)) → (P name → ⊥) → Adds P rest found last → Adds P (name ∷ rest) found last
skips_one P name rest found last never h = record {
  kept = h.kept;
  holds = λ n k. ⊎_elim
      (λ (a : IsIn n found). inl a)
      (λ (a : IsIn n rest × P n). inr (inr a.0, a.1))
      (h.holds n k);
  complete = λ n k q. skips_complete P name n rest found last never h k q;
}

pub collects_none : (P : List ℕ → Type 0) (found : List (List ℕ)) → ((n : List ℕ) → P n → ⊥) → Collects P found found
collects_none P found never = record {
  kept = λ n h. h;
  holds = λ n h. inl h;
  complete = λ n p. absurd (never n p);
}

-- the candidates of one kind, and then those of another
pub collects_both : (P Q : List ℕ → Type 0) (xs old mid last : List (List ℕ)) → ((n : List ℕ) → P n → IsIn n xs) → Adds P xs old mid → Collects Q mid last → Collects (λ n. P n ⊎ Q n) old last
collects_both P Q xs old mid last candidates h k = record {
  kept = λ n q. k.kept n (h.kept n q);
  holds = λ n q. ⊎_elim
      (λ (a : IsIn n mid). ⊎_elim
      (λ (b : IsIn n old). inl b)
      (λ (b : IsIn n xs × P n). inr (inl b.1))
      (h.holds n a))
      (λ (a : Q n). inr (inr a))
      (k.holds n q);
  complete = λ n p. ⊎_elim
      (λ (a : P n). k.kept n (h.complete n (candidates n a) a))
      (λ (a : Q n). k.complete n a)
      p;
}

-- ---- declarations that aren't compatible

of_all : {A : Type 0} (P : A → Type 0) (x : A) (xs : List A) → AllOf P xs → IsIn x xs → P x
of_all P x [] h k = absurd k
of_all P x (y ∷ ys) h (inl e) = subst P e h.0
of_all P x (y ∷ ys) h (inr k) = of_all P x ys h.1 k

fitting_sort : (tags : List PlainTag) (units : List Unit) (name : List ℕ) (sort : Sort) → FitsHere tags units name (Some sort) → IsApartHere tags units name (Some sort) → ⊥
fitting_sort tags units name sort fits (inl apart) = apart fits.0
fitting_sort tags units name sort fits (inr apart) =
    apart.apart (of_all (FitsSort tags sort) (Some apart.other) (external_sorts units name) fits.1 apart.declared)

pub fit_not_apart : (tags : List PlainTag) (units : List Unit) (name : List ℕ) (own : Option Sort) → FitsHere tags units name own → IsApartHere tags units name own → ⊥
fit_not_apart tags units name None fits apart = apart
fit_not_apart tags units name (Some sort) fits apart = fitting_sort tags units name sort fits apart

external_is_declared : (o : Option FileName) (sort : Sort) → elim (option_map plain_file_name o) as (λ x. Option Sort) [ None ↦ None | Some n ↦ if n.internal then None else Some n.sort ] ≡ Some sort → is_some o ≡ true
external_is_declared (Some n) sort h = refl
external_is_declared None sort h = absurd cc

apart_own : (tags : List PlainTag) (units : List Unit) (name : List ℕ) (own : Option Sort) → IsApartHere tags units name own → (sort : Sort) × (own ≡ Some sort) × ((IsFitting tags (built_in_sort name) sort → ⊥) ⊎ IsApartFrom tags sort (external_sorts units name))
apart_own tags units name None h = absurd h
apart_own tags units name (Some sort) h = (sort, refl, h)

-- what a unit declares is among its names
pub apart_of_declared : (tags : List PlainTag) (units : List Unit) (unit : Left) (name : List ℕ) → IsApartOf tags units (plain_unit 0 unit) name → IsIn name (key_texts unit.names)
apart_of_declared tags units unit name h =
    let own = apart_own tags units name (external_sort name (plain_unit 0 unit)) h in
    key_found (λ (key : Vec ℕ Global). key.items) name unit.names.entries
    (external_is_declared (entry_of unit.names name) own.0 own.1)

fits_itself : (tags : List PlainTag) (t : PlainType) → Agree [] t t → Compatible tags tags t t
fits_itself tags t h = record { pairs = []; agree = h; closed = All-nil (PairAgrees tags tags []) }

built_in_fits_itself : (tags : List PlainTag) (b : BuiltIn) → SortsAgree tags (function (built_in_signature b)) (function (built_in_signature b))
built_in_fits_itself tags Putchar = (fits_itself tags int refl, (fits_itself tags int refl, tt))
built_in_fits_itself tags Getchar = (fits_itself tags int refl, tt)
built_in_fits_itself tags Puts = (fits_itself tags int refl, (fits_itself tags (pointer_to char) refl, tt))
built_in_fits_itself tags Exit = (fits_itself tags void refl, (fits_itself tags int refl, tt))

built_in_alone : (tags : List PlainTag) (found : Option BuiltIn) (first second : Sort) → option_map (λ b. function (built_in_signature b)) found ≡ Some first → option_map (λ b. function (built_in_signature b)) found ≡ Some second → SortsAgree tags first second
built_in_alone tags None first second h k = absurd cc
built_in_alone tags (Some b) first second h k =
    let e : function (built_in_signature b) ≡ first = cc in
    let f : function (built_in_signature b) ≡ second = cc in
    subst (λ s. SortsAgree tags s second) e (subst (λ s. SortsAgree tags (function (built_in_signature b)) s) f (built_in_fits_itself tags b))

not_fitting : (tags : List PlainTag) (built_in : Option Sort) (sort : Sort) → (IsFitting tags built_in sort → ⊥) → (first : Sort) × (built_in ≡ Some first) × (SortsAgree tags first sort → ⊥)
not_fitting tags None sort h = absurd (h tt)
not_fitting tags (Some first) sort h = (first, refl, h)

apart_here_named : (tags : List PlainTag) (units : List Unit) (name : List ℕ) (sort : Sort) → IsIn (Some sort) (external_sorts units name) → ((IsFitting tags (built_in_sort name) sort → ⊥) ⊎ IsApartFrom tags sort (external_sorts units name)) → AreApartNamed tags units name
apart_here_named tags units name sort declared (inl h) =
    let first = not_fitting tags (built_in_sort name) sort h in
    record {
      first = first.0;
      declared = inl first.1;
      apart = record { other = sort; declared = declared; apart = first.2 };
    }
apart_here_named tags units name sort declared (inr h) = record { first = sort; declared = declared; apart = h }

apart_among_named : (tags : List PlainTag) (units rest : List Unit) (name : List ℕ) → ((sort : Option Sort) → IsIn sort (map (external_sort name) rest) → IsIn sort (external_sorts units name)) → IsApartAmong tags units rest name → AreApartNamed tags units name
apart_among_named tags units [] name within h = absurd h
apart_among_named tags units (unit ∷ rest) name within (inl h) =
    let own = apart_own tags units name (external_sort name unit) h in
    apart_here_named tags units name own.0 (within (Some own.0) (inl own.1)) own.2
apart_among_named tags units (unit ∷ rest) name within (inr h) =
    apart_among_named tags units rest name (λ sort k. within sort (inr k)) h

apart_at : (tags : List PlainTag) (units rest : List Unit) (name : List ℕ) (sort : Sort) → IsIn (Some sort) (map (external_sort name) rest) → ((IsFitting tags (built_in_sort name) sort → ⊥) ⊎ IsApartFrom tags sort (external_sorts units name)) → IsApartAmong tags units rest name
apart_at tags units [] name sort h k = absurd h
apart_at tags units (unit ∷ rest) name sort (inl e) k = inl (subst (IsApartHere tags units name) (sym e) k)
apart_at tags units (unit ∷ rest) name sort (inr h) k = inr (apart_at tags units rest name sort h k)

apart_cases : (tags : List PlainTag) (units : List Unit) (name : List ℕ) (first second : Sort) → IsIn (Some first) (external_sorts units name) → IsIn (Some second) (external_sorts units name) → (SortsAgree tags first second → ⊥) → IsApartAmong tags units units name
apart_cases tags units name first second (inr h) k apart =
    apart_at tags units units name first h (inr (record { other = second; declared = k; apart = apart }))
apart_cases tags units name first second (inl e) (inr k) apart =
    apart_at tags units units name second k (inl (λ fits. apart (subst (λ b. IsFitting tags b second) e fits)))
apart_cases tags units name first second (inl e) (inl f) apart = absurd (apart (built_in_alone tags (built_in_named name) first second e f))

pub finds_collected : (tags : List PlainTag) (units : List Unit) (names : List (List ℕ)) → Collects (IsApartAmong tags units units) [] names → Finds names (AreApartNamed tags units)
finds_collected tags units names h = record {
  holds = λ n k. ⊎_elim
      (λ (a : IsIn n []). absurd a)
      (λ (a : IsApartAmong tags units units n). apart_among_named tags units units n (λ sort w. inr w) a)
      (h.holds n k);
  complete = λ n p. h.complete n (apart_cases tags units n p.first p.apart.other p.declared p.apart.declared p.apart.apart);
}

in_from_index : {A : Type 0} (xs : List A) (k : ℕ) (x : A) → k < length xs → get_or xs k x ≡ x → IsIn x xs
in_from_index [] k x h e = absurd (omega arith)
in_from_index (y ∷ xs) zero x h e = inl e
in_from_index (y ∷ xs) (suc k) x h e = inr (in_from_index xs k x (omega arith) e)

index_from_in : {A : Type 0} (x : A) (xs : List A) → IsIn x xs → (k : ℕ) × (k < length xs) × (get_or xs k x ≡ x)
index_from_in x [] h = absurd h
index_from_in x (y ∷ xs) (inl e) = (0, omega arith, e)
index_from_in x (y ∷ xs) (inr h) = let r = index_from_in x xs h in (suc r.0, omega (arith, r.1), r.2)

pub finds_incompatible : (units : List Left) (structs : List Struct) (tags : List PlainTag) (names : List (List ℕ)) → tags ≡ tags_of (map plain_struct structs) → Finds names (AreApartNamed tags (map (plain_unit 0) units)) → Finds names (IsFault (plain_units 0 units structs) link.Incompatible)
finds_incompatible units structs tags names e h = record {
  holds = λ n k. let a = h.holds n k in record {
    first = a.first;
    second = a.apart.other;
    declares_first = index_from_in (Some a.first) (external_sorts (map (plain_unit 0) units) n) a.declared;
    declares_second = index_from_in (Some a.apart.other) (external_sorts (map (plain_unit 0) units) n) a.apart.declared;
    apart = subst (λ t. SortsAgree t a.first a.apart.other → ⊥) e a.apart.apart;
  };
  complete = λ n p. h.complete n (record {
    first = p.first;
    declared = in_from_index (external_sorts (map (plain_unit 0) units) n) p.declares_first.0 (Some p.first) p.declares_first.1 p.declares_first.2;
    apart = record {
      other = p.second;
      declared = in_from_index (external_sorts (map (plain_unit 0) units) n) p.declares_second.0 (Some p.second) p.declares_second.1 p.declares_second.2;
      apart = subst (λ t. SortsAgree t p.first p.second → ⊥) (sym e) p.apart;
    };
  });
}

pub no_types : (types : List CType) → 1 ≤ length types → same_types (map plain_type types) [] ≡ false
no_types [] h = absurd (omega arith)
no_types (t ∷ types) h = refl

zip_suc : {A B : Type 0} (R : B → B → Type 0) (f : A → B) (xs ys : List A) (i : ℕ) (x y : A) → i < length xs → i < length ys → x ≡ get_or xs i x → y ≡ get_or ys i y → AllZip R (drop i (map f xs)) (drop i (map f ys)) ↔ (R (f x) (f y) × AllZip R (drop (suc i) (map f xs)) (drop (suc i) (map f ys)))
zip_suc R f [] ys i x y p q d e = absurd (omega arith)
zip_suc R f (a ∷ xs) [] i x y p q d e = absurd (omega arith)
zip_suc R f (a ∷ xs) (b ∷ ys) zero x y p q d e = (
  λ h. (subst (λ v. R (f v) (f y)) (sym d) (subst (λ w. R (f a) (f w)) (sym e) h.0), h.1),
  λ h. (subst (λ v. R (f v) (f b)) d (subst (λ w. R (f x) (f w)) e h.0), h.1),
)
zip_suc R f (a ∷ xs) (b ∷ ys) (suc i) x y p q d e = zip_suc R f xs ys i x y (omega arith) (omega arith) d e

pub zip_at : {A B : Type 0} (R : B → B → Type 0) (f : A → B) (xs ys : List A) (i : ℕ) (x y : A) → i < length xs → i < length ys → x ≡ get_or xs i x → y ≡ get_or ys i y → AllZip R (drop i (map f xs)) (drop i (map f ys)) ↔ (R (f x) (f y) × AllZip R (drop (i + 1) (map f xs)) (drop (i + 1) (map f ys)))
zip_at R f xs ys i x y p q d e = rw add-one (zip_suc R f xs ys i x y p q d e)

pub not_linked : (linked : Units) (kind : LinkKind) (e : ElabError) → ((other : LinkKind) → (n : List ℕ) → link_number other < link_number kind → IsFault linked other n → ⊥) → IsLeastFault linked kind e → NotLinked linked e
not_linked linked kind (Link given name) earlier h =
    subst (λ k. IsFirstFault linked k name.items) (sym h.0) (record {
      fault = h.1.fault;
      no_earlier = earlier;
      no_lesser = h.1.no_lesser;
    })
not_linked linked kind (BadType given at) earlier h = h
not_linked linked kind Memory earlier h = tt

without_main : (units : List Left) (structs : List Struct) (e : ElabError) → IsLeastFault (plain_units 0 units []) link.NoMain e → IsLeastFault (plain_units 0 units structs) link.NoMain e
without_main units structs (Link given name) h = (h.0, record { fault = h.1.fault; no_lesser = h.1.no_lesser })
without_main units structs (BadType given at) h = h
without_main units structs Memory h = tt

undefined_fault : (units : List Left) (structs : List Struct) (e : ElabError) → IsLeastFault (plain_units 0 units []) link.Undefined e → IsLeastFault (plain_units 0 units structs) link.Undefined e
undefined_fault units structs (Link given name) h = (h.0, record { fault = h.1.fault; no_lesser = h.1.no_lesser })
undefined_fault units structs (BadType given at) h = h
undefined_fault units structs Memory h = tt

duplicate_fault : (units : List Left) (structs : List Struct) (e : ElabError) → IsLeastFault (plain_units 0 units []) link.Duplicate e → IsLeastFault (plain_units 0 units structs) link.Duplicate e
duplicate_fault units structs (Link given name) h = (h.0, record { fault = h.1.fault; no_lesser = h.1.no_lesser })
duplicate_fault units structs (BadType given at) h = h
duplicate_fault units structs Memory h = tt

pub first_fault : (units : List Left) (structs : List Struct) (e : ElabError) → IsLeastFault (plain_units 0 units []) link.NoMain e → NotLinked (plain_units 0 units structs) e
first_fault units structs e h = not_linked (plain_units 0 units structs) link.NoMain e earlier (without_main units structs e h)
  where
    earlier : (other : LinkKind) → (n : List ℕ) → link_number other < 1 → IsFault (plain_units 0 units structs) other n → ⊥
    earlier link.NoMain n l f = absurd (omega arith)
    earlier link.Undefined n l f = absurd (omega arith)
    earlier link.Duplicate n l f = absurd (omega arith)
    earlier link.Incompatible n l f = absurd (omega arith)

pub second_fault : (units : List Left) (structs : List Struct) (e : ElabError) → ((n : List ℕ) → IsFault (plain_units 0 units []) link.NoMain n → ⊥) → IsLeastFault (plain_units 0 units []) link.Undefined e → NotLinked (plain_units 0 units structs) e
second_fault units structs e none1 h = not_linked (plain_units 0 units structs) link.Undefined e earlier (undefined_fault units structs e h)
  where
    earlier : (other : LinkKind) → (n : List ℕ) → link_number other < 2 → IsFault (plain_units 0 units structs) other n → ⊥
    earlier link.NoMain n l f = none1 n f
    earlier link.Undefined n l f = absurd (omega arith)
    earlier link.Duplicate n l f = absurd (omega arith)
    earlier link.Incompatible n l f = absurd (omega arith)

pub third_fault : (units : List Left) (structs : List Struct) (e : ElabError) → ((n : List ℕ) → IsFault (plain_units 0 units []) link.NoMain n → ⊥) → ((n : List ℕ) → IsFault (plain_units 0 units []) link.Undefined n → ⊥) → IsLeastFault (plain_units 0 units []) link.Duplicate e → NotLinked (plain_units 0 units structs) e
third_fault units structs e none1 none2 h = not_linked (plain_units 0 units structs) link.Duplicate e earlier (duplicate_fault units structs e h)
  where
    earlier : (other : LinkKind) → (n : List ℕ) → link_number other < 3 → IsFault (plain_units 0 units structs) other n → ⊥
    earlier link.NoMain n l f = none1 n f
    earlier link.Undefined n l f = none2 n f
    earlier link.Duplicate n l f = absurd (omega arith)
    earlier link.Incompatible n l f = absurd (omega arith)

pub fourth_fault : (units : List Left) (structs : List Struct) (e : ElabError) → ((n : List ℕ) → IsFault (plain_units 0 units []) link.NoMain n → ⊥) → ((n : List ℕ) → IsFault (plain_units 0 units []) link.Undefined n → ⊥) → ((n : List ℕ) → IsFault (plain_units 0 units []) link.Duplicate n → ⊥) → IsLeastFault (plain_units 0 units structs) link.Incompatible e → NotLinked (plain_units 0 units structs) e
fourth_fault units structs e none1 none2 none3 h = not_linked (plain_units 0 units structs) link.Incompatible e earlier h
  where
    earlier : (other : LinkKind) → (n : List ℕ) → link_number other < 4 → IsFault (plain_units 0 units structs) other n → ⊥
    earlier link.NoMain n l f = none1 n f
    earlier link.Undefined n l f = none2 n f
    earlier link.Duplicate n l f = none3 n f
    earlier link.Incompatible n l f = absurd (omega arith)

pub no_fault : (units : List Left) (structs : List Struct) → ((n : List ℕ) → IsFault (plain_units 0 units []) link.NoMain n → ⊥) → ((n : List ℕ) → IsFault (plain_units 0 units []) link.Undefined n → ⊥) → ((n : List ℕ) → IsFault (plain_units 0 units []) link.Duplicate n → ⊥) → ((n : List ℕ) → IsFault (plain_units 0 units structs) link.Incompatible n → ⊥) → Links (plain_units 0 units structs)
no_fault units structs none1 none2 none3 none4 = record { no_fault = each }
  where
    each : (kind : LinkKind) → (n : List ℕ) → IsFault (plain_units 0 units structs) kind n → ⊥
    each link.NoMain n f = none1 n f
    each link.Undefined n f = none2 n f
    each link.Duplicate n f = none3 n f
    each link.Incompatible n f = none4 n f

pub drop_at : {A : Type 0} (xs : List A) (i : ℕ) (x : A) → i < length xs → x ≡ get_or xs i x → drop i xs ≡ x ∷ drop (i + 1) xs
drop_at xs i x h e = rw add-one (drop-cons xs i x h ∙ ap (λ y. y ∷ drop (suc i) xs) (sym e))
