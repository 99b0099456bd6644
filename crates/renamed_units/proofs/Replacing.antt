-- Tokens that are alike are replaced by tokens that are.
use Rattle.std.proofs.Common.{◌≡◌, ℕ, zero, suc, Bool, true, false, ◌&&◌, not, ◌==◌, ◌-◌, cond, List, [], ◌∷◌, map, length, codes, Option, Some, None, refl, ap, sym, ◌∙◌, subst}
use Rattle.std.specs.Prelude.{⊤, IsTrue, is_some}
use Rattle.std.specs.List.{list_any}
use Rattle.std.specs.Str.{bytes_eq}
use Rattle.c_text.specs.Token.{PlainToken}
use Rattle.c_text.specs.Directives.{is_spelled, is_word}
use Rattle.c_text.specs.Macros.{Meaning, feature, object, function, Table, Item, fresh, is_name_kind, is_named_in, meaning_of, Replaced, fine, bad_call, before, call_then, unless_bad, in_call, brought, is_function, ends_in_function, unless_left_open, Deeper, replacement, Call, begun, Progress, goes_on, ends, with_item, next_argument, opening, closing, progress, all_arguments, fits, and_then, all_replaced, substituted_for, substituted, body_replacement, call_replacement, Treatment, stays, is_feature, is_object, is_call, opens, treatment, treatment_of, treated, progressed, outside, inside, level, deepest, replaced}
use Rattle.renamings.specs.Renamings.{Renaming, moved_span}
use Rattle.renamed_units.proofs.Alike as alike
use Rattle.renamed_units.specs.Pairs.{Pairs}
use Rattle.renamed_units.proofs.Alike.{SameText, changes, AreAlike, SameSite, AlikeItems, OnlyMoved, AlikeMeanings, AlikeFound, AlikeTables}
use Rattle.renamed_units.proofs.Pairs.{pairs-append, pairs-map, pairs-flat-map, pairs-weaker, pairs-length, choice-alike}

untrue : IsTrue false → ⊥
untrue e = cc

none-alike : (r : Renaming) (found : Option Meaning) → AlikeFound r None found → found ≡ None
none-alike r None a = refl
none-alike r (Some m) a = absurd a

-- ---- tests on tokens

module _ (r : Renaming) (May : Type 0) (table : Table) where
  pub opens-alike : (a b : PlainToken) → AreAlike r May table a b → is_spelled (codes "(") b ≡ is_spelled (codes "(") a
  opens-alike a b s = elim s.text as (λ x. is_spelled (codes "(") b ≡ is_spelled (codes "(") a) [
    | alike.stays u e ↦ ap (λ (t : List ℕ). bytes_eq t (codes "(")) e
    | changes may u k o n t m p q old_free new_free ↦
        ap (λ (t : List ℕ). bytes_eq t (codes "(")) n ∙ q.opens ∙ sym p.opens ∙ sym (ap (λ (t : List ℕ). bytes_eq t (codes "(")) o)
  ]

  pub closes-alike : (a b : PlainToken) → AreAlike r May table a b → is_spelled (codes ")") b ≡ is_spelled (codes ")") a
  closes-alike a b s = elim s.text as (λ x. is_spelled (codes ")") b ≡ is_spelled (codes ")") a) [
    | alike.stays u e ↦ ap (λ (t : List ℕ). bytes_eq t (codes ")")) e
    | changes may u k o n t m p q old_free new_free ↦
        ap (λ (t : List ℕ). bytes_eq t (codes ")")) n ∙ q.closes ∙ sym p.closes ∙ sym (ap (λ (t : List ℕ). bytes_eq t (codes ")")) o)
  ]

  pub divides-alike : (a b : PlainToken) → AreAlike r May table a b → is_spelled (codes ",") b ≡ is_spelled (codes ",") a
  divides-alike a b s = elim s.text as (λ x. is_spelled (codes ",") b ≡ is_spelled (codes ",") a) [
    | alike.stays u e ↦ ap (λ (t : List ℕ). bytes_eq t (codes ",")) e
    | changes may u k o n t m p q old_free new_free ↦
        ap (λ (t : List ℕ). bytes_eq t (codes ",")) n ∙ q.divides ∙ sym p.divides ∙ sym (ap (λ (t : List ℕ). bytes_eq t (codes ",")) o)
  ]

  -- a token of a macro is alike in every table
  pub moved-alike : (a b : PlainToken) → OnlyMoved r a b → AreAlike r May table a b
  moved-alike a b m = record {
    kind = m.kind;
    text = alike.stays m.untouched m.text;
    joined = m.joined;
    file = m.file;
    span = m.span;
    place = m.place;
  }

  pub fresh-alike : (as_ bs : List PlainToken) → Pairs (OnlyMoved r) as_ bs → Pairs (AlikeItems r May table false) (map fresh as_) (map fresh bs)
  fresh-alike as_ bs p =
      pairs-map (OnlyMoved r) (AlikeItems r May table false) fresh fresh
      (λ a b m. record { token = moved-alike a b m; kept = refl; site = λ t. absurd (untrue t) }) as_ bs p

  pub untold : (told : Bool) (a b : Item) → AlikeItems r May table told a b → AlikeItems r May table false a b
  untold told a b s = record { token = s.token; kept = s.kept; site = λ t. absurd (untrue t) }

is-function-alike : (r : Renaming) (a b : Option Meaning) → AlikeFound r a b → is_function b ≡ is_function a
is-function-alike r None None s = refl
is-function-alike r None (Some m) s = absurd s
is-function-alike r (Some m) None s = absurd s
is-function-alike r (Some (feature a)) (Some (feature b)) s = refl
is-function-alike r (Some (object a)) (Some (object b)) s = refl
is-function-alike r (Some (function ps a)) (Some (function qs b)) s = refl
is-function-alike r (Some (feature a)) (Some (object b)) s = absurd s
is-function-alike r (Some (feature a)) (Some (function qs b)) s = absurd s
is-function-alike r (Some (object a)) (Some (feature b)) s = absurd s
is-function-alike r (Some (object a)) (Some (function qs b)) s = absurd s
is-function-alike r (Some (function ps a)) (Some (feature b)) s = absurd s
is-function-alike r (Some (function ps a)) (Some (object b)) s = absurd s

-- tokens of an outermost list, which stand in one file
pub record IsPlace (Outer : PlainToken → Type 0) : Type 0 where
  pub one_file : (a b : PlainToken) → Outer a → Outer b → a.origin.file ≡ b.origin.file

module _ (r : Renaming) (May : Type 0) (Outer : PlainToken → Type 0) (place : IsPlace Outer) (table table' : Table) (tables : AlikeTables r table table') where
  abbrev Are : Bool → List Item → List Item → Type 0
  Are told as_ bs = Pairs (AlikeItems r May table told) as_ bs

  -- items of a list that is replaced
  pub record Given (told : Bool) (a b : Item) : Type 0 where
    pub is : AlikeItems r May table told a b
    pub outer : IsTrue told → Outer a.token

  untold-all : (told : Bool) (as_ bs : List Item) → Are told as_ bs → Are false as_ bs
  untold-all told as_ bs p = pairs-weaker (AlikeItems r May table told) (AlikeItems r May table false) (untold r May table told) as_ bs p

  -- ---- meanings

  pub meaning-alike : (told : Bool) (a b : Item) → AlikeItems r May table told a b → AlikeFound r (meaning_of table a) (meaning_of table' b)
  meaning-alike told a b s =
      let e : (is_name_kind b.token.kind && not b.kept) ≡ (is_name_kind a.token.kind && not a.kept) = cc (s.token.kind, s.kept) in
      choice-alike (AlikeFound r) (is_name_kind a.token.kind && not a.kept) (is_name_kind b.token.kind && not b.kept) (table a.token.text) None (table' b.token.text) None e
      (found s.token.text) tt
    where
      found : SameText r May table a.token.kind a.token.origin.file a.token.origin.span a.token.text b.token.text → AlikeFound r (table a.token.text) (table' b.token.text)
      found (alike.stays u e) = subst (λ (t : List ℕ). AlikeFound r (table a.token.text) (table' t)) (sym e) (tables a.token.text)
      found (changes may u k o n t m p q old_free new_free) =
          let none : table' r.new ≡ None = none-alike r (table' r.new) (subst (λ (f : Option Meaning). AlikeFound r f (table' r.new)) m (tables r.new)) in
          let first : table a.token.text ≡ None = ap table o ∙ t in
          let second : table' b.token.text ≡ None = ap table' n ∙ none in
          rw (first, second) tt

  -- a name that has a meaning isn't renamed
  pub meant-text : (told : Bool) (a b : Item) → AlikeItems r May table told a b → IsTrue (is_some (meaning_of table a)) → b.token.text ≡ a.token.text
  meant-text told a b s some = elim s.token.text as (λ x. b.token.text ≡ a.token.text) [
    | alike.stays u e ↦ e
    | changes may u k o n t m p q old_free new_free ↦ absurd (untrue (none-meant (ap table o ∙ t) some))
  ]
    where
      none-meant : table a.token.text ≡ None → IsTrue (is_some (meaning_of table a)) → IsTrue false
      none-meant e some = subst (λ (f : Option Meaning). IsTrue (is_some f)) (either-none (is_name_kind a.token.kind && not a.kept) e) some
        where
          either-none : (b : Bool) → table a.token.text ≡ None → cond b (table a.token.text) None ≡ None
          either-none true e = e
          either-none false e = refl

  ends-alike : (told : Bool) (as_ bs : List Item) → Are told as_ bs → ends_in_function table' bs ≡ ends_in_function table as_
  ends-alike told [] [] p = refl
  ends-alike told [] (b ∷ bs) p = absurd p
  ends-alike told (a ∷ as_) [] p = absurd p
  ends-alike told (a ∷ []) (b ∷ []) p = is-function-alike r (meaning_of table a) (meaning_of table' b) (meaning-alike told a b p.0)
  ends-alike told (a ∷ []) (b ∷ d ∷ bs) p = absurd p.1
  ends-alike told (a ∷ c ∷ as_) (b ∷ []) p = absurd p.1
  ends-alike told (a ∷ c ∷ as_) (b ∷ d ∷ bs) p = ends-alike told (c ∷ as_) (d ∷ bs) p.1

  -- ---- what replaces

  abbrev pub AlikeOptions : Bool → Option (List Item) → Option (List Item) → Type 0
  AlikeOptions told None None = ⊤
  AlikeOptions told None (Some bs) = ⊥
  AlikeOptions told (Some as_) None = ⊥
  AlikeOptions told (Some as_) (Some bs) = Are told as_ bs

  -- the names of calls that are refused
  pub record AlikeNames (told : Bool) (a b : PlainToken) : Type 0 where
    pub is : AreAlike r May table a b
    pub outer : IsTrue told → Outer a

  abbrev pub AlikeReplaced : Bool → Replaced → Replaced → Type 0
  AlikeReplaced told (fine as_) (fine bs) = Are told as_ bs
  AlikeReplaced told (fine as_) (bad_call b) = ⊥
  AlikeReplaced told (bad_call a) (fine bs) = ⊥
  AlikeReplaced told (bad_call a) (bad_call b) = AlikeNames told a b

  abbrev pub AlikeDeeper : Deeper → Deeper → Type 0
  AlikeDeeper f g = (active : List (List ℕ)) (as_ bs : List Item) → Are false as_ bs → AlikeOptions false (f active as_) (g active bs)

  before-alike : (told : Bool) (as_ bs : List Item) (x y : Replaced) → Are told as_ bs → AlikeReplaced told x y → AlikeReplaced told (before as_ x) (before bs y)
  before-alike told as_ bs (fine cs) (fine ds) p q = pairs-append (AlikeItems r May table told) as_ cs bs ds p q
  before-alike told as_ bs (fine cs) (bad_call b) p q = absurd q
  before-alike told as_ bs (bad_call a) (fine ds) p q = absurd q
  before-alike told as_ bs (bad_call a) (bad_call b) p q = q

  call-then-alike : (told : Bool) (a b : PlainToken) (f g : Option (List Item)) (x y : Replaced) → AlikeNames told a b → AlikeOptions told f g → AlikeReplaced told x y → AlikeReplaced told (call_then a f x) (call_then b g y)
  call-then-alike told a b None None x y n p q = n
  call-then-alike told a b None (Some bs) x y n p q = absurd p
  call-then-alike told a b (Some as_) None x y n p q = absurd p
  call-then-alike told a b (Some as_) (Some bs) x y n p q = before-alike told as_ bs x y p q

  unless-bad-alike : (x y : Replaced) → AlikeReplaced false x y → AlikeOptions false (unless_bad x) (unless_bad y)
  unless-bad-alike (fine as_) (fine bs) p = p
  unless-bad-alike (fine as_) (bad_call b) p = absurd p
  unless-bad-alike (bad_call a) (fine bs) p = absurd p
  unless-bad-alike (bad_call a) (bad_call b) p = tt

  -- the token that a call begins or ends with
  pub record AreEnds (told : Bool) (a b : PlainToken) : Type 0 where
    pub file : b.origin.file ≡ a.origin.file
    pub span : b.origin.span ≡ moved_span r a.origin.file a.origin.span
    pub outer : IsTrue told → Outer a

  ends-of-given : (told : Bool) (a b : Item) → Given told a b → AreEnds told a.token b.token
  ends-of-given told a b g = record { file = g.is.token.file; span = g.is.token.span; outer = g.outer }

  brought-alike : (told : Bool) (first first' last last' : PlainToken) → AreEnds told first first' → AreEnds told last last' → (a b : Item) → AlikeItems r May table false a b → AlikeItems r May table told (brought first last a) (brought first' last' b)
  brought-alike told first first' last last' f l a b s = record {
    token = record {
      kind = s.token.kind;
      text = s.token.text;
      joined = s.token.joined;
      file = s.token.file;
      span = s.token.span;
      place = ap in_call s.token.place;
    };
    kept = s.kept;
    site = λ t.
        let one : first.origin.file ≡ last.origin.file = place.one_file first last (f.outer t) (l.outer t) in
        record { file = f.file; span = sites one };
  }
    where
      sites : first.origin.file ≡ last.origin.file → (brought first' last' b).token.origin.site ≡ moved_span r first.origin.file (brought first last a).token.origin.site
      sites one = cc (f.span, l.span)

  left-open-alike : (told : Bool) (first first' last last' : PlainToken) (f g : Option (List Item)) → AreEnds told first first' → AreEnds told last last' → AlikeOptions false f g → AlikeOptions told (unless_left_open table first last f) (unless_left_open table' first' last' g)
  left-open-alike told first first' last last' None None x y p = tt
  left-open-alike told first first' last last' None (Some bs) x y p = absurd p
  left-open-alike told first first' last last' (Some as_) None x y p = absurd p
  left-open-alike told first first' last last' (Some as_) (Some bs) x y p =
      choice-alike (AlikeOptions told) (ends_in_function table as_) (ends_in_function table' bs) None (Some (map (brought first last) as_)) None (Some (map (brought first' last') bs))
      (ends-alike false as_ bs p) tt
      (pairs-map (AlikeItems r May table false) (AlikeItems r May table told) (brought first last) (brought first' last') (brought-alike told first first' last last' x y) as_ bs p)

  replacement-alike : (told : Bool) (f g : Deeper) (active : List (List ℕ)) (first first' last last' : PlainToken) (as_ bs : List Item) → AlikeDeeper f g → AreEnds told first first' → first'.text ≡ first.text → AreEnds told last last' → Are false as_ bs → AlikeOptions told (replacement table f active first last as_) (replacement table' g active first' last' bs)
  replacement-alike told f g active first first' last last' as_ bs d x e y p =
      left-open-alike told first first' last last' (f (first.text ∷ active) as_) (g (first'.text ∷ active) bs) x y
      (subst (λ (t : List ℕ). AlikeOptions false (f (first.text ∷ active) as_) (g (t ∷ active) bs)) (sym e) (d (first.text ∷ active) as_ bs p))

  -- ---- calls

  pub record AlikeCalls (told : Bool) (c d : Call) : Type 0 where
    pub name : AreAlike r May table c.name d.name
    pub outer : IsTrue told → Outer c.name
    pub name_text : d.name.text ≡ c.name.text
    pub params : d.params ≡ c.params
    pub body : Pairs (OnlyMoved r) c.body d.body
    pub arguments : Pairs (Are false) c.arguments d.arguments
    pub last : Are false c.last d.last
    pub nested : d.nested ≡ c.nested

  names-of-calls : (told : Bool) (c d : Call) → AlikeCalls told c d → AlikeNames told c.name d.name
  names-of-calls told c d g = record { is = g.name; outer = g.outer }

  abbrev AlikeProgress : Bool → Progress → Progress → Type 0
  AlikeProgress told (goes_on c) (goes_on d) = AlikeCalls told c d
  AlikeProgress told (goes_on c) ends = ⊥
  AlikeProgress told ends (goes_on d) = ⊥
  AlikeProgress told ends ends = ⊤

  with-item-alike : (told : Bool) (c d : Call) (a b : Item) → AlikeCalls told c d → AlikeItems r May table false a b → AlikeCalls told (with_item c a) (with_item d b)
  with-item-alike told c d a b g s = record {
    name = g.name;
    outer = g.outer;
    name_text = g.name_text;
    params = g.params;
    body = g.body;
    arguments = g.arguments;
    last = pairs-append (AlikeItems r May table false) c.last (a ∷ []) d.last (b ∷ []) g.last (s, tt);
    nested = g.nested;
  }

  all-arguments-alike : (told : Bool) (c d : Call) → AlikeCalls told c d → Pairs (Are false) (all_arguments c) (all_arguments d)
  all-arguments-alike told c d g =
      pairs-append (Are false) c.arguments (c.last ∷ []) d.arguments (d.last ∷ []) g.arguments (g.last, tt)

  next-argument-alike : (told : Bool) (c d : Call) → AlikeCalls told c d → AlikeCalls told (next_argument c) (next_argument d)
  next-argument-alike told c d g = record {
    name = g.name;
    outer = g.outer;
    name_text = g.name_text;
    params = g.params;
    body = g.body;
    arguments = all-arguments-alike told c d g;
    last = tt;
    nested = g.nested;
  }

  opening-alike : (told : Bool) (c d : Call) (a b : Item) (nested : ℕ) → AlikeCalls told c d → AlikeItems r May table false a b → AlikeCalls told (opening c a nested) (opening d b nested)
  opening-alike told c d a b zero g s = record {
    name = g.name;
    outer = g.outer;
    name_text = g.name_text;
    params = g.params;
    body = g.body;
    arguments = g.arguments;
    last = g.last;
    nested = refl;
  }
  opening-alike told c d a b (suc nested) g s =
      let w = with-item-alike told c d a b g s in
      record {
        name = w.name;
        outer = w.outer;
        name_text = w.name_text;
        params = w.params;
        body = w.body;
        arguments = w.arguments;
        last = w.last;
        nested = refl;
      }

  closing-alike : (told : Bool) (c d : Call) (a b : Item) (nested : ℕ) → AlikeCalls told c d → AlikeItems r May table false a b → AlikeProgress told (closing c a nested) (closing d b nested)
  closing-alike told c d a b zero g s = tt
  closing-alike told c d a b (suc zero) g s = tt
  closing-alike told c d a b (suc (suc nested)) g s =
      let w = with-item-alike told c d a b g s in
      record {
        name = w.name;
        outer = w.outer;
        name_text = w.name_text;
        params = w.params;
        body = w.body;
        arguments = w.arguments;
        last = w.last;
        nested = refl;
      }

  progress-alike : (told : Bool) (c d : Call) (a b : Item) → AlikeCalls told c d → AlikeItems r May table false a b → AlikeProgress told (progress c a) (progress d b)
  progress-alike told c d a b g s =
      choice-alike (AlikeProgress told) (is_spelled (codes ")") a.token) (is_spelled (codes ")") b.token) (closing c a c.nested) _ (closing d b d.nested) _
      (closes-alike r May table a.token b.token s.token)
      (subst (λ (n : ℕ). AlikeProgress told (closing c a c.nested) (closing d b n)) (sym g.nested) (closing-alike told c d a b c.nested g s))
      (choice-alike (AlikeProgress told) (is_spelled (codes "(") a.token) (is_spelled (codes "(") b.token) (goes_on (opening c a c.nested)) _ (goes_on (opening d b d.nested)) _
      (opens-alike r May table a.token b.token s.token)
      (subst (λ (n : ℕ). AlikeCalls told (opening c a c.nested) (opening d b n)) (sym g.nested) (opening-alike told c d a b c.nested g s))
      (choice-alike (AlikeProgress told) (is_spelled (codes ",") a.token && c.nested == 1) (is_spelled (codes ",") b.token && d.nested == 1)
      (goes_on (next_argument c)) (goes_on (with_item c a)) (goes_on (next_argument d)) (goes_on (with_item d b)) parts
      (next-argument-alike told c d g) (with-item-alike told c d a b g s)))
    where
      parts : (is_spelled (codes ",") b.token && d.nested == 1) ≡ (is_spelled (codes ",") a.token && c.nested == 1)
      parts = rw (divides-alike r May table a.token b.token s.token, g.nested) refl

  abbrev AlikeLists : Option (List (List Item)) → Option (List (List Item)) → Type 0
  AlikeLists None None = ⊤
  AlikeLists None (Some bs) = ⊥
  AlikeLists (Some as_) None = ⊥
  AlikeLists (Some as_) (Some bs) = Pairs (Are false) as_ bs

  and-then-alike : (f g : Option (List Item)) (x y : Option (List (List Item))) → AlikeOptions false f g → AlikeLists x y → AlikeLists (and_then f x) (and_then g y)
  and-then-alike None None None None p q = tt
  and-then-alike None None (Some x) (Some y) p q = tt
  and-then-alike None None None (Some y) p q = absurd q
  and-then-alike None None (Some x) None p q = absurd q
  and-then-alike None (Some bs) x y p q = absurd p
  and-then-alike (Some as_) None x y p q = absurd p
  and-then-alike (Some as_) (Some bs) None None p q = tt
  and-then-alike (Some as_) (Some bs) (Some x) (Some y) p q = (p, q)
  and-then-alike (Some as_) (Some bs) None (Some y) p q = absurd q
  and-then-alike (Some as_) (Some bs) (Some x) None p q = absurd q

  all-replaced-alike : (f g : Deeper) (active : List (List ℕ)) (x y : List (List Item)) → AlikeDeeper f g → Pairs (Are false) x y → AlikeLists (all_replaced f active x) (all_replaced g active y)
  all-replaced-alike f g active [] [] d p = tt
  all-replaced-alike f g active [] (y ∷ ys) d p = absurd p
  all-replaced-alike f g active (x ∷ xs) [] d p = absurd p
  all-replaced-alike f g active (x ∷ xs) (y ∷ ys) d p =
      and-then-alike (f active x) (g active y) (all_replaced f active xs) (all_replaced g active ys) (d active x y p.0)
      (all-replaced-alike f g active xs ys d p.1)

  fits-alike : (params : List (List ℕ)) (x y : List (List Item)) → Pairs (Are false) x y → fits params y ≡ fits params x
  fits-alike [] [] [] p = refl
  fits-alike [] [] (y ∷ ys) p = absurd p
  fits-alike [] (x ∷ xs) [] p = absurd p
  fits-alike [] ([] ∷ []) ([] ∷ []) p = refl
  fits-alike [] ([] ∷ []) ((b ∷ bs) ∷ []) p = absurd p.0
  fits-alike [] ((a ∷ as_) ∷ []) ([] ∷ []) p = absurd p.0
  fits-alike [] ((a ∷ as_) ∷ []) ((b ∷ bs) ∷ []) p = refl
  fits-alike [] (x ∷ []) (y ∷ y2 ∷ ys) p = absurd p.1
  fits-alike [] (x ∷ x2 ∷ xs) (y ∷ []) p = absurd p.1
  fits-alike [] ([] ∷ x2 ∷ xs) ([] ∷ y2 ∷ ys) p = let e : length ys ≡ length xs = pairs-length (Are false) xs ys p.1.1 in cc
  fits-alike [] ([] ∷ x2 ∷ xs) ((b ∷ bs) ∷ y2 ∷ ys) p = absurd p.0
  fits-alike [] ((a ∷ as_) ∷ x2 ∷ xs) ([] ∷ y2 ∷ ys) p = absurd p.0
  fits-alike [] ((a ∷ as_) ∷ x2 ∷ xs) ((b ∷ bs) ∷ y2 ∷ ys) p = let e : length ys ≡ length xs = pairs-length (Are false) xs ys p.1.1 in cc
  fits-alike (param ∷ params) x y p = let e : length y ≡ length x = pairs-length (Are false) x y p in cc

  substituted-for-alike : (params : List (List ℕ)) (x y : List (List Item)) (a b : PlainToken) → Pairs (Are false) x y → OnlyMoved r a b → Are false (substituted_for params x a) (substituted_for params y b)
  substituted-for-alike [] x y a b p m = (record { token = moved-alike r May table a b m; kept = refl; site = λ t. absurd (untrue t) }, tt)
  substituted-for-alike (param ∷ params) [] [] a b p m = (record { token = moved-alike r May table a b m; kept = refl; site = λ t. absurd (untrue t) }, tt)
  substituted-for-alike (param ∷ params) [] (y ∷ ys) a b p m = absurd p
  substituted-for-alike (param ∷ params) (x ∷ xs) [] a b p m = absurd p
  substituted-for-alike (param ∷ params) (x ∷ xs) (y ∷ ys) a b p m =
      choice-alike (Are false) (is_word a && is_spelled param a) (is_word b && is_spelled param b) x (substituted_for params xs a) y (substituted_for params ys b)
      (same-test param a b m) p.0 (substituted-for-alike params xs ys a b p.1 m)
    where
      same-test : (param : List ℕ) (a b : PlainToken) → OnlyMoved r a b → (is_word b && is_spelled param b) ≡ (is_word a && is_spelled param a)
      same-test param a b m = cc (m.kind, m.text)

  substituted-alike : (params : List (List ℕ)) (x y : List (List Item)) (as_ bs : List PlainToken) → Pairs (Are false) x y → Pairs (OnlyMoved r) as_ bs → Are false (substituted params x as_) (substituted params y bs)
  substituted-alike params x y as_ bs p q =
      pairs-flat-map (OnlyMoved r) (AlikeItems r May table false) (substituted_for params x) (substituted_for params y)
      (λ a b m. substituted-for-alike params x y a b p m) as_ bs q

  body-replacement-alike : (told : Bool) (f g : Deeper) (active : List (List ℕ)) (c d : Call) (last last' : PlainToken) (x y : Option (List (List Item))) → AlikeDeeper f g → AlikeCalls told c d → AreEnds told last last' → AlikeLists x y → AlikeOptions told (body_replacement table f active c last x) (body_replacement table' g active d last' y)
  body-replacement-alike told f g active c d last last' None None e s l p = tt
  body-replacement-alike told f g active c d last last' None (Some y) e s l p = absurd p
  body-replacement-alike told f g active c d last last' (Some x) None e s l p = absurd p
  body-replacement-alike told f g active c d last last' (Some x) (Some y) e s l p =
      replacement-alike told f g active c.name d.name last last' (substituted c.params x c.body) (substituted d.params y d.body) e
      (record { file = s.name.file; span = s.name.span; outer = s.outer }) s.name_text l
      (subst (λ (ps : List (List ℕ)). Are false (substituted c.params x c.body) (substituted ps y d.body)) (sym s.params)
      (substituted-alike c.params x y c.body d.body p s.body))

  call-replacement-alike : (told : Bool) (f g : Deeper) (active : List (List ℕ)) (c d : Call) (last last' : PlainToken) → AlikeDeeper f g → AlikeCalls told c d → AreEnds told last last' → AlikeOptions told (call_replacement table f active c last) (call_replacement table' g active d last')
  call-replacement-alike told f g active c d last last' e s l =
      let x : Pairs (Are false) (all_arguments c) (all_arguments d) = all-arguments-alike told c d s in
      choice-alike (AlikeOptions told) (fits c.params (all_arguments c)) (fits d.params (all_arguments d))
      (body_replacement table f active c last (all_replaced f active (all_arguments c))) None
      (body_replacement table' g active d last' (all_replaced g active (all_arguments d))) None
      (ap (λ (ps : List (List ℕ)). fits ps (all_arguments d)) s.params ∙ fits-alike c.params (all_arguments c) (all_arguments d) x)
      (body-replacement-alike told f g active c d last last' (all_replaced f active (all_arguments c)) (all_replaced g active (all_arguments d)) e s l
      (all-replaced-alike f g active (all_arguments c) (all_arguments d) e x))
      tt

  -- ---- one list

  abbrev AlikeTreatments : Bool → Item → Item → Treatment → Treatment → Type 0
  AlikeTreatments told a b (stays x) (stays y) = AlikeItems r May table told x y
  AlikeTreatments told a b (is_feature x) (is_feature y) = OnlyMoved r x y
  AlikeTreatments told a b (is_object x) (is_object y) = Pairs (OnlyMoved r) x y × (b.token.text ≡ a.token.text)
  AlikeTreatments told a b (is_call ps x) (is_call qs y) = (qs ≡ ps) × Pairs (OnlyMoved r) x y × (b.token.text ≡ a.token.text)
  AlikeTreatments told a b other another = ⊥

  some-treated : (told : Bool) (a b : Item) (active opens : Bool) (m n : Meaning) → AlikeItems r May table told a b → AlikeMeanings r m n → b.token.text ≡ a.token.text → AlikeTreatments told a b (treatment a active opens (Some m)) (treatment b active opens (Some n))
  some-treated told a b true opens m n s x e = record { token = s.token; kept = refl; site = s.site }
  some-treated told a b false opens (feature v) (feature w) s x e = x
  some-treated told a b false opens (object v) (object w) s x e = (x, e)
  some-treated told a b false true (function ps v) (function qs w) s x e = (x.0, x.1, e)
  some-treated told a b false false (function ps v) (function qs w) s x e = s
  some-treated told a b false opens (feature v) (object w) s x e = absurd x
  some-treated told a b false opens (feature v) (function qs w) s x e = absurd x
  some-treated told a b false opens (object v) (feature w) s x e = absurd x
  some-treated told a b false opens (object v) (function qs w) s x e = absurd x
  some-treated told a b false opens (function ps v) (feature w) s x e = absurd x
  some-treated told a b false opens (function ps v) (object w) s x e = absurd x

  treatment-alike : (told : Bool) (a b : Item) (names : List (List ℕ)) (opens opens' : Bool) (m n : Option Meaning) → AlikeItems r May table told a b → opens' ≡ opens → AlikeFound r m n → (IsTrue (is_some m) → b.token.text ≡ a.token.text) → AlikeTreatments told a b (treatment a (is_named_in names a.token) opens m) (treatment b (is_named_in names b.token) opens' n)
  treatment-alike told a b names opens opens' None None s e x same = s
  treatment-alike told a b names opens opens' None (Some n) s e x same = absurd x
  treatment-alike told a b names opens opens' (Some m) None s e x same = absurd x
  treatment-alike told a b names opens opens' (Some m) (Some n) s e x same =
      let t : b.token.text ≡ a.token.text = same refl in
      let n_same : is_named_in names b.token ≡ is_named_in names a.token = ap (λ (u : List ℕ). list_any (bytes_eq u) names) t in
      subst (λ (o : Bool). AlikeTreatments told a b (treatment a (is_named_in names a.token) opens (Some m)) (treatment b (is_named_in names b.token) o (Some n))) (sym e)
      (subst (λ (o : Bool). AlikeTreatments told a b (treatment a (is_named_in names a.token) opens (Some m)) (treatment b o opens (Some n))) (sym n_same)
      (some-treated told a b (is_named_in names a.token) opens m n s x t))

  opens-next : (told : Bool) (as_ bs : List Item) → Pairs (Given told) as_ bs → opens bs ≡ opens as_
  opens-next told [] [] p = refl
  opens-next told [] (b ∷ bs) p = absurd p
  opens-next told (a ∷ as_) [] p = absurd p
  opens-next told (a ∷ as_) (b ∷ bs) p = opens-alike r May table a.token b.token p.0.is.token

  module _ (f g : Deeper) (names : List (List ℕ)) (deep : AlikeDeeper f g) where
    given-name : (told : Bool) (a b : Item) → Given told a b → AlikeNames told a.token b.token
    given-name told a b s = record { is = s.is.token; outer = s.outer }

    treated-alike : (told : Bool) (a b : Item) (v w : Treatment) (x y : Replaced) (calls calls' : Call → Replaced) → Given told a b → AlikeTreatments told a b v w → AlikeReplaced told x y → ((c d : Call) → AlikeCalls told c d → AlikeReplaced told (calls c) (calls' d)) → AlikeReplaced told (treated table f names a v x calls) (treated table' g names b w y calls')
    treated-alike told a b (stays i) (stays j) x y calls calls' s t p k = before-alike told (i ∷ []) (j ∷ []) x y (t, tt) p
    treated-alike told a b (is_feature i) (is_feature j) x y calls calls' s t p k =
        let e : AreEnds told a.token b.token = ends-of-given told a b s in
        before-alike told (brought a.token a.token (fresh i) ∷ []) (brought b.token b.token (fresh j) ∷ []) x y
        (brought-alike told a.token b.token a.token b.token e e (fresh i) (fresh j) (record { token = moved-alike r May table i j t; kept = refl; site = λ h. absurd (untrue h) }), tt) p
    treated-alike told a b (is_object i) (is_object j) x y calls calls' s t p k =
        let e : AreEnds told a.token b.token = ends-of-given told a b s in
        call-then-alike told a.token b.token (replacement table f names a.token a.token (map fresh i)) (replacement table' g names b.token b.token (map fresh j)) x y (given-name told a b s)
        (replacement-alike told f g names a.token b.token a.token b.token (map fresh i) (map fresh j) deep e t.1 e (fresh-alike r May table i j t.0)) p
    treated-alike told a b (is_call ps i) (is_call qs j) x y calls calls' s t p k =
        k (begun a.token ps i) (begun b.token qs j)
        (record { name = s.is.token; outer = s.outer; name_text = t.2; params = t.0; body = t.1; arguments = tt; last = tt; nested = refl })
    treated-alike told a b (stays i) (is_feature j) x y calls calls' s t p k = absurd t
    treated-alike told a b (stays i) (is_object j) x y calls calls' s t p k = absurd t
    treated-alike told a b (stays i) (is_call qs j) x y calls calls' s t p k = absurd t
    treated-alike told a b (is_feature i) (stays j) x y calls calls' s t p k = absurd t
    treated-alike told a b (is_feature i) (is_object j) x y calls calls' s t p k = absurd t
    treated-alike told a b (is_feature i) (is_call qs j) x y calls calls' s t p k = absurd t
    treated-alike told a b (is_object i) (stays j) x y calls calls' s t p k = absurd t
    treated-alike told a b (is_object i) (is_feature j) x y calls calls' s t p k = absurd t
    treated-alike told a b (is_object i) (is_call qs j) x y calls calls' s t p k = absurd t
    treated-alike told a b (is_call ps i) (stays j) x y calls calls' s t p k = absurd t
    treated-alike told a b (is_call ps i) (is_feature j) x y calls calls' s t p k = absurd t
    treated-alike told a b (is_call ps i) (is_object j) x y calls calls' s t p k = absurd t

    progressed-alike : (told : Bool) (c d : Call) (a b : Item) (v w : Progress) (x y : Replaced) (goes goes' : Call → Replaced) → AlikeCalls told c d → Given told a b → AlikeProgress told v w → AlikeReplaced told x y → ((c2 d2 : Call) → AlikeCalls told c2 d2 → AlikeReplaced told (goes c2) (goes' d2)) → AlikeReplaced told (progressed table f names c a v x goes) (progressed table' g names d b w y goes')
    progressed-alike told c d a b ends ends x y goes goes' s t p q k =
        call-then-alike told c.name d.name (call_replacement table f names c a.token) (call_replacement table' g names d b.token) x y (names-of-calls told c d s)
        (call-replacement-alike told f g names c d a.token b.token deep s (ends-of-given told a b t)) q
    progressed-alike told c d a b ends (goes_on w) x y goes goes' s t p q k = absurd p
    progressed-alike told c d a b (goes_on v) ends x y goes goes' s t p q k = absurd p
    progressed-alike told c d a b (goes_on v) (goes_on w) x y goes goes' s t p q k = k v w p

    mutual
      pub outside-alike : (told : Bool) (as_ bs : List Item) → Pairs (Given told) as_ bs → AlikeReplaced told (outside table f names as_) (outside table' g names bs)
      outside-alike told [] [] p = tt
      outside-alike told [] (b ∷ bs) p = absurd p
      outside-alike told (a ∷ as_) [] p = absurd p
      outside-alike told (a ∷ as_) (b ∷ bs) p =
          treated-alike told a b (treatment_of table names a as_) (treatment_of table' names b bs) (outside table f names as_) (outside table' g names bs)
          (λ c. inside table f names c as_) (λ d. inside table' g names d bs) p.0
          (treatment-alike told a b names (opens as_) (opens bs) (meaning_of table a) (meaning_of table' b) p.0.is (opens-next told as_ bs p.1)
          (meaning-alike told a b p.0.is) (meant-text told a b p.0.is))
          (outside-alike told as_ bs p.1) (λ c d s. inside-alike told c d as_ bs s p.1)

      pub inside-alike : (told : Bool) (c d : Call) (as_ bs : List Item) → AlikeCalls told c d → Pairs (Given told) as_ bs → AlikeReplaced told (inside table f names c as_) (inside table' g names d bs)
      inside-alike told c d [] [] s p = names-of-calls told c d s
      inside-alike told c d [] (b ∷ bs) s p = absurd p
      inside-alike told c d (a ∷ as_) [] s p = absurd p
      inside-alike told c d (a ∷ as_) (b ∷ bs) s p =
          progressed-alike told c d a b (progress c a) (progress d b) (outside table f names as_) (outside table' g names bs)
          (λ c2. inside table f names c2 as_) (λ d2. inside table' g names d2 bs) s p.0
          (progress-alike told c d a b s (untold r May table told a b p.0.is)) (outside-alike told as_ bs p.1)
          (λ c2 d2 t. inside-alike told c2 d2 as_ bs t p.1)

  -- ---- lists of every depth

  given-of : (as_ bs : List Item) → Are false as_ bs → Pairs (Given false) as_ bs
  given-of as_ bs p = pairs-weaker (AlikeItems r May table false) (Given false) (λ a b s. record { is = s; outer = λ t. absurd (untrue t) }) as_ bs p

  level-alike : (n : ℕ) → AlikeDeeper (level table n) (level table' n)
  level-alike zero active as_ bs p =
      unless-bad-alike (outside table (λ names list. None) active as_) (outside table' (λ names list. None) active bs)
      (outside-alike (λ names list. None) (λ names list. None) active (λ names cs ds q. tt) false as_ bs (given-of as_ bs p))
  level-alike (suc n) active as_ bs p =
      unless-bad-alike (outside table (level table n) active as_) (outside table' (level table' n) active bs)
      (outside-alike (level table n) (level table' n) active (level-alike n) false as_ bs (given-of as_ bs p))

  -- tokens of an outermost list
  pub record GivenTokens (a b : PlainToken) : Type 0 where
    pub is : AreAlike r May table a b
    pub site : SameSite r a b
    pub outer : Outer a

  pub replaced-alike : (as_ bs : List PlainToken) → Pairs GivenTokens as_ bs → AlikeReplaced true (replaced table as_) (replaced table' bs)
  replaced-alike as_ bs p =
      outside-alike (level table (deepest - 1)) (level table' (deepest - 1)) [] (level-alike (deepest - 1)) true (map fresh as_) (map fresh bs)
      (pairs-map GivenTokens (Given true) fresh fresh
      (λ a b s. record { is = record { token = s.is; kept = refl; site = λ t. s.site }; outer = λ t. s.outer }) as_ bs p)
