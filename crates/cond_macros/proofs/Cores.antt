-- Sites and places of items below the outermost list change nothing but sites and places.
use Rattle.std.proofs.Common.{◌≡◌, ℕ, zero, suc, Bool, true, false, ◌&&◌, List, [], ◌∷◌, ◌++◌, map, length, Option, Some, None, refl, sym, ap, subst, ◌∙◌}
use Rattle.std.specs.Prelude.{if◌then◌else◌, codes, ◌==◌, ⊤}
use Rattle.std.specs.Option.{option_map}
use Rattle.std.proofs.lemmas.List.{map-append, length-map}
use Rattle.c_text.specs.Token.{PlainToken}
use Rattle.c_text.specs.Directives.{is_spelled, is_word}
use Rattle.c_text.specs.Macros.{Table, Item, Deeper, Replaced, fine, bad_call, brought, meaning_of, ends_in_function, opens, before, call_then, unless_bad, Call, replacement, unless_left_open, and_then, all_replaced, substituted, substituted_for, fits, body_replacement, all_arguments, call_replacement, Progress, goes_on, ends, with_item, next_argument, opening, closing, progress, Meaning, feature, object, function, fresh, begun, treatment, treated, progressed, is_named_in, outside, inside, level}
use Rattle.cond_bodies.specs.Cores.{core, cores}
use Rattle.cond_runs.proofs.Sites.{core-brought, cores-brought}

-- what is looked at in a list stays
pub ends-cores : (table : Table) (items : List Item) → ends_in_function table (cores items) ≡ ends_in_function table items
ends-cores table [] = refl
ends-cores table (item ∷ []) = refl
ends-cores table (first ∷ second ∷ rest) = ends-cores table (second ∷ rest)

pub opens-cores : (items : List Item) → opens (cores items) ≡ opens items
opens-cores [] = refl
opens-cores (item ∷ rest) = refl

-- ---- lists that differ in sites and places alone are replaced alike

-- what a list gives, but for sites and places
abbrev pub given : Replaced → Option (List Item)
given r = option_map cores (unless_bad r)

abbrev pub prepended : List Item → Option (List Item) → Option (List Item)
prepended items None = None
prepended items (Some others) = Some (items ++ others)

given-before : (items : List Item) (r : Replaced) → given (before items r) ≡ prepended (cores items) (given r)
given-before items (fine others) = ap (λ (l : List Item). Some l) (map-append core items others)
given-before items (bad_call name) = refl

abbrev both_given : Option (List Item) → Option (List Item) → Option (List Item)
both_given None others = None
both_given (Some items) others = prepended items others

given-call_then : (name : PlainToken) (found : Option (List Item)) (r : Replaced) → given (call_then name found r) ≡ both_given (option_map cores found) (given r)
given-call_then name None r = refl
given-call_then name (Some items) r = given-before items r

-- the two are the same but for sites and places
abbrev pub AreAlike : List Item → List Item → Type 0
AreAlike xs ys = cores xs ≡ cores ys

pub record Respects (deeper : Deeper) : Type 0 where
  pub alike : (names : List (List ℕ)) (xs ys : List Item) → AreAlike xs ys → option_map cores (deeper names xs) ≡ option_map cores (deeper names ys)

-- calls of one macro with arguments that are alike
pub record SameCall (c d : Call) : Type 0 where
  pub name : c.name.text ≡ d.name.text
  pub params : c.params ≡ d.params
  pub body : c.body ≡ d.body
  pub arguments : map cores c.arguments ≡ map cores d.arguments
  pub last : AreAlike c.last d.last
  pub nested : c.nested ≡ d.nested

cons_parts : {A : Type 0} (x y : A) (xs ys : List A) → x ∷ xs ≡ y ∷ ys → (x ≡ y) × (xs ≡ ys)
cons_parts x y xs ys e = (cc, cc)

some_parts : {A : Type 0} (x y : A) → ◌≡◌ {A = Option A} (Some x) (Some y) → x ≡ y
some_parts x y e = cc

-- ---- what replaces a name

pub open_at : (b : Bool) (first last : PlainToken) (items : List Item) → option_map cores (if b then None else Some (map (brought first last) items)) ≡ (if b then None else Some (cores items))
open_at true first last items = refl
open_at false first last items = ap (λ (l : List Item). Some l) (cores-brought first last items)

open_alike : (table : Table) (first last other another : PlainToken) (p q : Option (List Item)) → option_map cores p ≡ option_map cores q →
    option_map cores (unless_left_open table first last p) ≡ option_map cores (unless_left_open table other another q)
open_alike table first last other another None None e = refl
open_alike table first last other another None (Some ys) e = cc
open_alike table first last other another (Some xs) None e = cc
open_alike table first last other another (Some xs) (Some ys) e =
    let same = some_parts (cores xs) (cores ys) e in
    open_at (ends_in_function table xs) first last xs
    ∙ ap (λ (l : List Item). if ends_in_function table xs then None else Some l) same
    ∙ ap (λ (b : Bool). if b then None else Some (cores ys)) (sym (ends-cores table xs) ∙ ap (ends_in_function table) same ∙ ends-cores table ys)
    ∙ sym (open_at (ends_in_function table ys) other another ys)

module _ (table : Table) (deeper : Deeper) (respects : Respects deeper) (active : List (List ℕ)) where
  pub replacement_alike : (first last other another : PlainToken) (xs ys : List Item) → first.text ≡ other.text → AreAlike xs ys →
      option_map cores (replacement table deeper active first last xs) ≡ option_map cores (replacement table deeper active other another ys)
  replacement_alike first last other another xs ys name e =
      open_alike table first last other another (deeper (first.text ∷ active) xs) (deeper (other.text ∷ active) ys)
      (respects.alike (first.text ∷ active) xs ys e ∙ ap (λ (n : List ℕ). option_map cores (deeper (n ∷ active) ys)) name)

  -- ---- arguments

  and_then_alike : (p q : Option (List Item)) (r s : Option (List (List Item))) → option_map cores p ≡ option_map cores q → option_map (map cores) r ≡ option_map (map cores) s →
      option_map (map cores) (and_then p r) ≡ option_map (map cores) (and_then q s)
  and_then_alike None None None None e f = refl
  and_then_alike None None None (Some ss) e f = cc
  and_then_alike None None (Some rs) None e f = cc
  and_then_alike None None (Some rs) (Some ss) e f = refl
  and_then_alike None (Some y) r s e f = cc
  and_then_alike (Some x) None r s e f = cc
  and_then_alike (Some x) (Some y) None None e f = refl
  and_then_alike (Some x) (Some y) None (Some ss) e f = cc
  and_then_alike (Some x) (Some y) (Some rs) None e f = cc
  and_then_alike (Some x) (Some y) (Some rs) (Some ss) e f =
      ap (λ (l : List (List Item)). Some l) (ap (λ (a : List Item). a ∷ map cores rs) (some_parts (cores x) (cores y) e) ∙ ap (λ (l : List (List Item)). cores y ∷ l) (some_parts (map cores rs) (map cores ss) f))

  all_replaced_alike : (xs ys : List (List Item)) → map cores xs ≡ map cores ys → option_map (map cores) (all_replaced deeper active xs) ≡ option_map (map cores) (all_replaced deeper active ys)
  all_replaced_alike [] [] e = refl
  all_replaced_alike [] (y ∷ ys) e = cc
  all_replaced_alike (x ∷ xs) [] e = cc
  all_replaced_alike (x ∷ xs) (y ∷ ys) e =
      let parts = cons_parts (cores x) (cores y) (map cores xs) (map cores ys) e in
      and_then_alike (deeper active x) (deeper active y) (all_replaced deeper active xs) (all_replaced deeper active ys) (respects.alike active x y parts.0) (all_replaced_alike xs ys parts.1)

substituted_for_alike : (params : List (List ℕ)) (xs ys : List (List Item)) (token : PlainToken) → map cores xs ≡ map cores ys → AreAlike (substituted_for params xs token) (substituted_for params ys token)
substituted_for_alike [] xs ys token e = refl
substituted_for_alike (param ∷ params) [] [] token e = refl
substituted_for_alike (param ∷ params) [] (y ∷ ys) token e = cc
substituted_for_alike (param ∷ params) (x ∷ xs) [] token e = cc
substituted_for_alike (param ∷ params) (x ∷ xs) (y ∷ ys) token e =
    let parts = cons_parts (cores x) (cores y) (map cores xs) (map cores ys) e in
    by_test (is_word token && is_spelled param token) parts.0 (substituted_for_alike params xs ys token parts.1)
  where
    by_test : (b : Bool) → cores x ≡ cores y → AreAlike (substituted_for params xs token) (substituted_for params ys token) →
        cores (if b then x else substituted_for params xs token) ≡ cores (if b then y else substituted_for params ys token)
    by_test true same rest = same
    by_test false same rest = rest

pub substituted_alike : (params : List (List ℕ)) (xs ys : List (List Item)) (body : List PlainToken) → map cores xs ≡ map cores ys → AreAlike (substituted params xs body) (substituted params ys body)
substituted_alike params xs ys [] e = refl
substituted_alike params xs ys (token ∷ body) e =
    map-append core (substituted_for params xs token) (substituted params xs body)
    ∙ ap (λ (l : List Item). l ++ cores (substituted params xs body)) (substituted_for_alike params xs ys token e)
    ∙ ap (λ (l : List Item). cores (substituted_for params ys token) ++ l) (substituted_alike params xs ys body e)
    ∙ sym (map-append core (substituted_for params ys token) (substituted params ys body))

fits-cores : (params : List (List ℕ)) (xs : List (List Item)) → fits params (map cores xs) ≡ fits params xs
fits-cores [] [] = refl
fits-cores [] ([] ∷ []) = refl
fits-cores [] ((x ∷ xs) ∷ []) = refl
fits-cores [] ([] ∷ b ∷ rest) = ap (λ (n : ℕ). 0 == suc (suc n)) (length-map rest cores)
fits-cores [] ((x ∷ xs) ∷ b ∷ rest) = ap (λ (n : ℕ). 0 == suc (suc n)) (length-map rest cores)
fits-cores (param ∷ params) xs = ap (λ (n : ℕ). suc (length params) == n) (length-map xs cores)

module _ (table : Table) (deeper : Deeper) (respects : Respects deeper) (active : List (List ℕ)) where
  body_alike : (c d : Call) (last another : PlainToken) (p q : Option (List (List Item))) → SameCall c d → option_map (map cores) p ≡ option_map (map cores) q →
      option_map cores (body_replacement table deeper active c last p) ≡ option_map cores (body_replacement table deeper active d another q)
  body_alike c d last another None None same e = refl
  body_alike c d last another None (Some ys) same e = cc
  body_alike c d last another (Some xs) None same e = cc
  body_alike c d last another (Some xs) (Some ys) same e =
      replacement_alike table deeper respects active c.name last d.name another (substituted c.params xs c.body) (substituted d.params ys d.body) same.name
      (substituted_alike c.params xs ys c.body (some_parts (map cores xs) (map cores ys) e)
      ∙ ap (λ (ps : List (List ℕ)). cores (substituted ps ys c.body)) same.params
      ∙ ap (λ (b : List PlainToken). cores (substituted d.params ys b)) same.body)

  all_arguments_alike : (c d : Call) → SameCall c d → map cores (all_arguments c) ≡ map cores (all_arguments d)
  all_arguments_alike c d same =
      map-append cores c.arguments (c.last ∷ [])
      ∙ ap (λ (l : List (List Item)). l ++ cores c.last ∷ []) same.arguments
      ∙ ap (λ (l : List Item). map cores d.arguments ++ l ∷ []) same.last
      ∙ sym (map-append cores d.arguments (d.last ∷ []))

  fit_alike : (b : Bool) (p q : Option (List Item)) → option_map cores p ≡ option_map cores q → option_map cores (if b then p else None) ≡ option_map cores (if b then q else None)
  fit_alike true p q e = e
  fit_alike false p q e = refl

  call_alike : (c d : Call) (last another : PlainToken) → SameCall c d →
      option_map cores (call_replacement table deeper active c last) ≡ option_map cores (call_replacement table deeper active d another)
  call_alike c d last another same =
      let arguments = all_arguments_alike c d same in
      let fit : fits c.params (all_arguments c) ≡ fits d.params (all_arguments d) =
      sym (fits-cores c.params (all_arguments c)) ∙ ap (fits c.params) arguments ∙ ap (λ (ps : List (List ℕ)). fits ps (map cores (all_arguments d))) same.params ∙ fits-cores d.params (all_arguments d) in
      let body = body_alike c d last another (all_replaced deeper active (all_arguments c)) (all_replaced deeper active (all_arguments d)) same
      (all_replaced_alike table deeper respects active (all_arguments c) (all_arguments d) arguments) in
      fit_alike (fits c.params (all_arguments c)) (body_replacement table deeper active c last (all_replaced deeper active (all_arguments c))) (body_replacement table deeper active d another (all_replaced deeper active (all_arguments d))) body
      ∙ ap (λ (b : Bool). option_map cores (if b then body_replacement table deeper active d another (all_replaced deeper active (all_arguments d)) else None)) fit

-- ---- how calls go on

abbrev pub SameProgress : Progress → Progress → Type 0
SameProgress (goes_on c) (goes_on d) = SameCall c d
SameProgress (goes_on c) ends = ⊥
SameProgress ends (goes_on d) = ⊥
SameProgress ends ends = ⊤

longer_alike : (xs ys : List Item) (x y : Item) → AreAlike xs ys → core x ≡ core y → AreAlike (xs ++ x ∷ []) (ys ++ y ∷ [])
longer_alike xs ys x y e f =
    map-append core xs (x ∷ []) ∙ ap (λ (l : List Item). l ++ core x ∷ []) e ∙ ap (λ (i : Item). cores ys ++ i ∷ []) f ∙ sym (map-append core ys (y ∷ []))

with_item_alike : (c d : Call) (x y : Item) → SameCall c d → core x ≡ core y → SameCall (with_item c x) (with_item d y)
with_item_alike c d x y same e = record { name = same.name; params = same.params; body = same.body; arguments = same.arguments; last = longer_alike c.last d.last x y same.last e; nested = same.nested }

next_alike : (c d : Call) → SameCall c d → SameCall (next_argument c) (next_argument d)
next_alike c d same = record {
  name = same.name;
  params = same.params;
  body = same.body;
  arguments = map-append cores c.arguments (c.last ∷ []) ∙ ap (λ (l : List (List Item)). l ++ cores c.last ∷ []) same.arguments ∙ ap (λ (l : List Item). map cores d.arguments ++ l ∷ []) same.last ∙ sym (map-append cores d.arguments (d.last ∷ []));
  last = refl;
  nested = same.nested;
}

renested : (c d : Call) (n : ℕ) → SameCall c d → SameCall (record c { nested = n }) (record d { nested = n })
renested c d n same = record { name = same.name; params = same.params; body = same.body; arguments = same.arguments; last = same.last; nested = refl }

opening_alike : (c d : Call) (x y : Item) (n : ℕ) → SameCall c d → core x ≡ core y → SameCall (opening c x n) (opening d y n)
opening_alike c d x y zero same e = renested c d 1 same
opening_alike c d x y (suc n) same e = renested (with_item c x) (with_item d y) (suc (suc n)) (with_item_alike c d x y same e)

closing_alike : (c d : Call) (x y : Item) (n : ℕ) → SameCall c d → core x ≡ core y → SameProgress (closing c x n) (closing d y n)
closing_alike c d x y zero same e = tt
closing_alike c d x y (suc zero) same e = tt
closing_alike c d x y (suc (suc n)) same e =
    renested (with_item c x) (with_item d y) (suc n) (with_item_alike c d x y same e)

abbrev progress_at : Call → Item → ℕ → Bool → Bool → Bool → Progress
progress_at call item n closes opens_ splits =
    if closes then closing call item n
    else if opens_ then goes_on (opening call item n)
    else if splits then goes_on (next_argument call)
    else goes_on (with_item call item)

progress_at_alike : (c d : Call) (x y : Item) (n : ℕ) (closes opens_ splits : Bool) → SameCall c d → core x ≡ core y → SameProgress (progress_at c x n closes opens_ splits) (progress_at d y n closes opens_ splits)
progress_at_alike c d x y n true opens_ splits same e = closing_alike c d x y n same e
progress_at_alike c d x y n false true splits same e = opening_alike c d x y n same e
progress_at_alike c d x y n false false true same e = next_alike c d same
progress_at_alike c d x y n false false false same e = with_item_alike c d x y same e

progress_alike : (c d : Call) (x y : Item) → SameCall c d → core x ≡ core y → SameProgress (progress c x) (progress d y)
progress_alike c d x y same e =
    let closes = ap (λ (i : Item). is_spelled (codes ")") i.token) e in
    let opens_ = ap (λ (i : Item). is_spelled (codes "(") i.token) e in
    let splits : (is_spelled (codes ",") x.token && c.nested == 1) ≡ (is_spelled (codes ",") y.token && d.nested == 1) =
    ap (λ (i : Item). is_spelled (codes ",") i.token && c.nested == 1) e ∙ ap (λ (n : ℕ). is_spelled (codes ",") y.token && n == 1) same.nested in
    subst (λ (p : Progress). SameProgress (progress c x) p)
    (ap (λ (n : ℕ). progress_at d y n (is_spelled (codes ")") x.token) (is_spelled (codes "(") x.token) (is_spelled (codes ",") x.token && c.nested == 1)) same.nested
    ∙ ap (λ (b : Bool). progress_at d y d.nested b (is_spelled (codes "(") x.token) (is_spelled (codes ",") x.token && c.nested == 1)) closes
    ∙ ap (λ (b : Bool). progress_at d y d.nested (is_spelled (codes ")") y.token) b (is_spelled (codes ",") x.token && c.nested == 1)) opens_
    ∙ ap (progress_at d y d.nested (is_spelled (codes ")") y.token) (is_spelled (codes "(") y.token)) splits)
    (progress_at_alike c d x y c.nested (is_spelled (codes ")") x.token) (is_spelled (codes "(") x.token) (is_spelled (codes ",") x.token && c.nested == 1) same e)

-- ---- whole lists

then_alike : (name another : PlainToken) (p q : Option (List Item)) (r s : Replaced) → option_map cores p ≡ option_map cores q → given r ≡ given s → given (call_then name p r) ≡ given (call_then another q s)
then_alike name another p q r s e f =
    given-call_then name p r
    ∙ ap (λ (o : Option (List Item)). both_given o (given r)) e
    ∙ ap (both_given (option_map cores q)) f
    ∙ sym (given-call_then another q s)

before_alike : (xs ys : List Item) (r s : Replaced) → AreAlike xs ys → given r ≡ given s → given (before xs r) ≡ given (before ys s)
before_alike xs ys r s e f = given-before xs r ∙ ap (λ (l : List Item). prepended l (given r)) e ∙ ap (prepended (cores ys)) f ∙ sym (given-before ys s)

module _ (table : Table) (deeper : Deeper) (respects : Respects deeper) (active : List (List ℕ)) where
  treated_alike : (x y : Item) (is_active next_opens : Bool) (meaning : Option Meaning) (r s : Replaced) (calls others : Call → Replaced) →
      core x ≡ core y → given r ≡ given s → ((c d : Call) → SameCall c d → given (calls c) ≡ given (others d)) →
      given (treated table deeper active x (treatment x is_active next_opens meaning) r calls) ≡ given (treated table deeper active y (treatment y is_active next_opens meaning) s others)
  treated_alike x y a o None r s calls others e f g = before_alike (x ∷ []) (y ∷ []) r s (ap (λ (i : Item). i ∷ []) e) f
  treated_alike x y true o (Some m) r s calls others e f g =
      before_alike (record x { kept = true } ∷ []) (record y { kept = true } ∷ []) r s (ap (λ (i : Item). record i { kept = true } ∷ []) e) f
  treated_alike x y false o (Some (feature one)) r s calls others e f g =
      before_alike (brought x.token x.token (fresh one) ∷ []) (brought y.token y.token (fresh one) ∷ []) r s
      (ap (λ (i : Item). i ∷ []) (core-brought x.token x.token (fresh one) ∙ sym (core-brought y.token y.token (fresh one)))) f
  treated_alike x y false o (Some (object body)) r s calls others e f g =
      then_alike x.token y.token (replacement table deeper active x.token x.token (map fresh body)) (replacement table deeper active y.token y.token (map fresh body)) r s
      (replacement_alike table deeper respects active x.token x.token y.token y.token (map fresh body) (map fresh body) (ap (λ (i : Item). i.token.text) e) refl) f
  treated_alike x y false true (Some (function params body)) r s calls others e f g =
      g (begun x.token params body) (begun y.token params body)
      (record { name = ap (λ (i : Item). i.token.text) e; params = refl; body = refl; arguments = refl; last = refl; nested = refl })
  treated_alike x y false false (Some (function params body)) r s calls others e f g = before_alike (x ∷ []) (y ∷ []) r s (ap (λ (i : Item). i ∷ []) e) f

  progressed_alike : (c d : Call) (x y : Item) (p q : Progress) (r s : Replaced) (goes others : Call → Replaced) → SameCall c d → SameProgress p q → given r ≡ given s →
      ((c d : Call) → SameCall c d → given (goes c) ≡ given (others d)) →
      given (progressed table deeper active c x p r goes) ≡ given (progressed table deeper active d y q s others)
  progressed_alike c d x y (goes_on a) (goes_on b) r s goes others same next f g = g a b next
  progressed_alike c d x y (goes_on a) ends r s goes others same next f g = absurd next
  progressed_alike c d x y ends (goes_on b) r s goes others same next f g = absurd next
  progressed_alike c d x y ends ends r s goes others same next f g =
      then_alike c.name d.name (call_replacement table deeper active c x.token) (call_replacement table deeper active d y.token) r s (call_alike table deeper respects active c d x.token y.token same) f

  mutual
    pub outside_alike : (xs ys : List Item) → AreAlike xs ys → given (outside table deeper active xs) ≡ given (outside table deeper active ys)
    outside_alike [] [] e = refl
    outside_alike [] (y ∷ ys) e = cc
    outside_alike (x ∷ xs) [] e = cc
    outside_alike (x ∷ xs) (y ∷ ys) e =
        let parts = cons_parts (core x) (core y) (cores xs) (cores ys) e in
        let named = ap (λ (i : Item). is_named_in active i.token) parts.0 in
        let next = sym (opens-cores xs) ∙ ap opens parts.1 ∙ opens-cores ys in
        let means = ap (meaning_of table) parts.0 in
        treated_alike x y (is_named_in active x.token) (opens xs) (meaning_of table x) (outside table deeper active xs) (outside table deeper active ys)
        (λ call. inside table deeper active call xs) (λ call. inside table deeper active call ys) parts.0 (outside_alike xs ys parts.1) (λ c d same. inside_alike c d xs ys same parts.1)
        ∙ ap (λ (b : Bool). given (treated table deeper active y (treatment y b (opens xs) (meaning_of table x)) (outside table deeper active ys) (λ call. inside table deeper active call ys))) named
        ∙ ap (λ (b : Bool). given (treated table deeper active y (treatment y (is_named_in active y.token) b (meaning_of table x)) (outside table deeper active ys) (λ call. inside table deeper active call ys))) next
        ∙ ap (λ (m : Option Meaning). given (treated table deeper active y (treatment y (is_named_in active y.token) (opens ys) m) (outside table deeper active ys) (λ call. inside table deeper active call ys))) means

    inside_alike : (c d : Call) (xs ys : List Item) → SameCall c d → AreAlike xs ys → given (inside table deeper active c xs) ≡ given (inside table deeper active d ys)
    inside_alike c d [] [] same e = refl
    inside_alike c d [] (y ∷ ys) same e = cc
    inside_alike c d (x ∷ xs) [] same e = cc
    inside_alike c d (x ∷ xs) (y ∷ ys) same e =
        let parts = cons_parts (core x) (core y) (cores xs) (cores ys) e in
        progressed_alike c d x y (progress c x) (progress d y) (outside table deeper active xs) (outside table deeper active ys)
        (λ call. inside table deeper active call xs) (λ call. inside table deeper active call ys) same (progress_alike c d x y same parts.0) (outside_alike xs ys parts.1) (λ a b next. inside_alike a b xs ys next parts.1)

-- each level gives alike lists for alike lists
pub level_alike : (table : Table) (n : ℕ) → Respects (level table n)
level_alike table zero = record { alike = λ names xs ys e. outside_alike table (λ names list. None) (record { alike = λ names xs ys e. refl }) names xs ys e }
level_alike table (suc n) = record { alike = λ names xs ys e. outside_alike table (level table n) (level_alike table n) names xs ys e }
