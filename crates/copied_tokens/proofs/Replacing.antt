-- What replaces tokens has each property that these and the bodies of macros have: one of kinds, texts and places of tokens.
use Rattle.std.proofs.Common.{ℕ, zero, suc, Bool, true, false, ◌&&◌, not, ◌==◌, ◌-◌, List, [], ◌∷◌, map, codes, Option, Some, None}
use Rattle.std.specs.Prelude.{⊤}
use Rattle.std.specs.List.{AllByRecursion}
use Rattle.c_text.specs.Token.{PlainToken}
use Rattle.c_text.specs.Directives.{is_spelled, is_word}
use Rattle.c_text.specs.Macros.{Meaning, feature, object, function, Table, Item, fresh, is_name_kind, is_named_in, meaning_of, Replaced, fine, bad_call, before, call_then, unless_bad, brought, ends_in_function, unless_left_open, Deeper, replacement, Call, begun, Progress, goes_on, ends, with_item, next_argument, opening, closing, progress, all_arguments, fits, and_then, all_replaced, substituted_for, substituted, body_replacement, call_replacement, Treatment, stays, is_feature, is_object, is_call, opens, treatment, treatment_of, treated, progressed, outside, inside, level, deepest, replaced}
use Rattle.active_tokens.proofs.Everywhere.{each-append, each-map, each-flat-map, by-choice}

module _ (P : PlainToken → Type 0) (brings : (first last : PlainToken) (item : Item) → P item.token → P (brought first last item).token) where
  abbrev pub Comes : PlainToken → Type 0
  Comes token = P token

  abbrev pub ComesItem : Item → Type 0
  ComesItem item = Comes item.token

  abbrev pub Tokens : List PlainToken → Type 0
  Tokens tokens = AllByRecursion Comes tokens

  abbrev pub Items : List Item → Type 0
  Items items = AllByRecursion ComesItem items

  abbrev pub GoodMeaning : Meaning → Type 0
  GoodMeaning (feature one) = Comes one
  GoodMeaning (object body) = Tokens body
  GoodMeaning (function params body) = Tokens body

  abbrev pub GoodFound : Option Meaning → Type 0
  GoodFound None = ⊤
  GoodFound (Some m) = GoodMeaning m

  abbrev pub GoodTable : Table → Type 0
  GoodTable table = (name : List ℕ) → GoodFound (table name)

  abbrev pub GoodReplaced : Replaced → Type 0
  GoodReplaced (fine items) = Items items
  GoodReplaced (bad_call name) = ⊤

  abbrev pub GoodOption : Option (List Item) → Type 0
  GoodOption None = ⊤
  GoodOption (Some items) = Items items

  abbrev pub GoodDeeper : Deeper → Type 0
  GoodDeeper deeper = (active : List (List ℕ)) (items : List Item) → Items items → GoodOption (deeper active items)

  pub before-good : (items : List Item) (others : Replaced) → Items items → GoodReplaced others → GoodReplaced (before items others)
  before-good items (fine others) a b = each-append ComesItem items others a b
  before-good items (bad_call name) a b = tt

  call-then-good : (name : PlainToken) (found : Option (List Item)) (others : Replaced) → GoodOption found → GoodReplaced others → GoodReplaced (call_then name found others)
  call-then-good name None others a b = tt
  call-then-good name (Some items) others a b = before-good items others a b

  unless-bad-good : (r : Replaced) → GoodReplaced r → GoodOption (unless_bad r)
  unless-bad-good (fine items) a = a
  unless-bad-good (bad_call name) a = tt

  brought-good : (first last : PlainToken) (items : List Item) → Items items → Items (map (brought first last) items)
  brought-good first last items a = each-map ComesItem ComesItem (brought first last) (brings first last) items a

  left-open-good : (table : Table) (first last : PlainToken) (found : Option (List Item)) → GoodOption found → GoodOption (unless_left_open table first last found)
  left-open-good table first last None a = tt
  left-open-good table first last (Some items) a =
      by-choice GoodOption (ends_in_function table items) None (Some (map (brought first last) items)) tt (brought-good first last items a)

  fresh-good : (body : List PlainToken) → Tokens body → Items (map fresh body)
  fresh-good body a = each-map ComesItem Comes fresh (λ token x. x) body a

  replacement-good : (table : Table) (deeper : Deeper) (active : List (List ℕ)) (first last : PlainToken) (body : List Item) → GoodDeeper deeper → Items body → GoodOption (replacement table deeper active first last body)
  replacement-good table deeper active first last body d a =
      left-open-good table first last (deeper (first.text ∷ active) body) (d (first.text ∷ active) body a)

  -- a call whose parts come so
  pub record GoodCall (call : Call) : Type 0 where
    pub body : Tokens call.body
    pub arguments : AllByRecursion Items call.arguments
    pub last : Items call.last

  abbrev pub GoodProgress : Progress → Type 0
  GoodProgress (goes_on call) = GoodCall call
  GoodProgress ends = ⊤

  with-item-good : (call : Call) (item : Item) → GoodCall call → ComesItem item → GoodCall (with_item call item)
  with-item-good call item g a =
      record { body = g.body; arguments = g.arguments; last = each-append ComesItem call.last (item ∷ []) g.last (a, tt) }

  all-arguments-good : (call : Call) → GoodCall call → AllByRecursion Items (all_arguments call)
  all-arguments-good call g = each-append Items call.arguments (call.last ∷ []) g.arguments (g.last, tt)

  next-argument-good : (call : Call) → GoodCall call → GoodCall (next_argument call)
  next-argument-good call g = record { body = g.body; arguments = all-arguments-good call g; last = tt }

  opening-good : (call : Call) (item : Item) (nested : ℕ) → GoodCall call → ComesItem item → GoodCall (opening call item nested)
  opening-good call item zero g a = record { body = g.body; arguments = g.arguments; last = g.last }
  opening-good call item (suc nested) g a =
      let w = with-item-good call item g a in record { body = w.body; arguments = w.arguments; last = w.last }

  closing-good : (call : Call) (item : Item) (nested : ℕ) → GoodCall call → ComesItem item → GoodProgress (closing call item nested)
  closing-good call item zero g a = tt
  closing-good call item (suc zero) g a = tt
  closing-good call item (suc (suc nested)) g a =
      let w = with-item-good call item g a in record { body = w.body; arguments = w.arguments; last = w.last }

  progress-good : (call : Call) (item : Item) → GoodCall call → ComesItem item → GoodProgress (progress call item)
  progress-good call item g a =
      by-choice GoodProgress (is_spelled (codes ")") item.token) (closing call item call.nested) _ (closing-good call item call.nested g a)
      (by-choice GoodProgress (is_spelled (codes "(") item.token) (goes_on (opening call item call.nested)) _ (opening-good call item call.nested g a)
      (by-choice GoodProgress (is_spelled (codes ",") item.token && call.nested == 1) (goes_on (next_argument call)) (goes_on (with_item call item))
      (next-argument-good call g) (with-item-good call item g a)))

  abbrev GoodLists : Option (List (List Item)) → Type 0
  GoodLists None = ⊤
  GoodLists (Some lists) = AllByRecursion Items lists

  and-then-good : (found : Option (List Item)) (others : Option (List (List Item))) → GoodOption found → GoodLists others → GoodLists (and_then found others)
  and-then-good (Some items) (Some others) a b = (a, b)
  and-then-good None (Some others) a b = tt
  and-then-good None None a b = tt
  and-then-good (Some items) None a b = tt

  all-replaced-good : (deeper : Deeper) (active : List (List ℕ)) (arguments : List (List Item)) → GoodDeeper deeper → AllByRecursion Items arguments → GoodLists (all_replaced deeper active arguments)
  all-replaced-good deeper active [] d a = tt
  all-replaced-good deeper active (argument ∷ arguments) d a =
      and-then-good (deeper active argument) (all_replaced deeper active arguments) (d active argument a.0) (all-replaced-good deeper active arguments d a.1)

  substituted-for-good : (params : List (List ℕ)) (arguments : List (List Item)) (token : PlainToken) → AllByRecursion Items arguments → Comes token → Items (substituted_for params arguments token)
  substituted-for-good [] arguments token a b = (b, tt)
  substituted-for-good (param ∷ params) [] token a b = (b, tt)
  substituted-for-good (param ∷ params) (argument ∷ arguments) token a b =
      by-choice Items (is_word token && is_spelled param token) argument (substituted_for params arguments token) a.0
      (substituted-for-good params arguments token a.1 b)

  substituted-good : (params : List (List ℕ)) (arguments : List (List Item)) (body : List PlainToken) → AllByRecursion Items arguments → Tokens body → Items (substituted params arguments body)
  substituted-good params arguments body a b =
      each-flat-map ComesItem Comes (substituted_for params arguments) (λ token x. substituted-for-good params arguments token a x) body b

  body-replacement-good : (table : Table) (deeper : Deeper) (active : List (List ℕ)) (call : Call) (last : PlainToken) (found : Option (List (List Item))) → GoodDeeper deeper → GoodCall call → GoodLists found → GoodOption (body_replacement table deeper active call last found)
  body-replacement-good table deeper active call last None d g a = tt
  body-replacement-good table deeper active call last (Some arguments) d g a =
      replacement-good table deeper active call.name last (substituted call.params arguments call.body) d (substituted-good call.params arguments call.body a g.body)

  call-replacement-good : (table : Table) (deeper : Deeper) (active : List (List ℕ)) (call : Call) (last : PlainToken) → GoodDeeper deeper → GoodCall call → GoodOption (call_replacement table deeper active call last)
  call-replacement-good table deeper active call last d g =
      by-choice GoodOption (fits call.params (all_arguments call))
      (body_replacement table deeper active call last (all_replaced deeper active (all_arguments call))) None
      (body-replacement-good table deeper active call last (all_replaced deeper active (all_arguments call)) d g
      (all-replaced-good deeper active (all_arguments call) d (all-arguments-good call g)))
      tt

  abbrev pub GoodTreatment : Treatment → Type 0
  GoodTreatment (stays item) = ComesItem item
  GoodTreatment (is_feature one) = Comes one
  GoodTreatment (is_object body) = Tokens body
  GoodTreatment (is_call params body) = Tokens body

  treatment-good : (item : Item) (is_active next_opens : Bool) (found : Option Meaning) → ComesItem item → GoodFound found → GoodTreatment (treatment item is_active next_opens found)
  treatment-good item is_active next_opens None a m = a
  treatment-good item true next_opens (Some meaning) a m = a
  treatment-good item false next_opens (Some (feature one)) a m = m
  treatment-good item false next_opens (Some (object body)) a m = m
  treatment-good item false true (Some (function params body)) a m = m
  treatment-good item false false (Some (function params body)) a m = a

  meaning-good : (table : Table) (item : Item) → GoodTable table → GoodFound (meaning_of table item)
  meaning-good table item t =
      by-choice GoodFound (is_name_kind item.token.kind && not item.kept) (table item.token.text) None (t item.token.text) tt

  module _ (table : Table) (deeper : Deeper) (active : List (List ℕ)) (t : GoodTable table) (d : GoodDeeper deeper) where
    treated-good : (item : Item) (what : Treatment) (others : Replaced) (calls : Call → Replaced) → GoodTreatment what → GoodReplaced others → ((call : Call) → GoodCall call → GoodReplaced (calls call)) → GoodReplaced (treated table deeper active item what others calls)
    treated-good item (stays kept) others calls a b c = before-good (kept ∷ []) others (a, tt) b
    treated-good item (is_feature one) others calls a b c = before-good (brought item.token item.token (fresh one) ∷ []) others (brings item.token item.token (fresh one) a, tt) b
    treated-good item (is_object body) others calls a b c =
        call-then-good item.token (replacement table deeper active item.token item.token (map fresh body)) others
        (replacement-good table deeper active item.token item.token (map fresh body) d (fresh-good body a)) b
    treated-good item (is_call params body) others calls a b c =
        c (begun item.token params body) (record { body = a; arguments = tt; last = tt })

    progressed-good : (call : Call) (item : Item) (step : Progress) (others : Replaced) (goes : Call → Replaced) → GoodCall call → GoodProgress step → GoodReplaced others → ((next : Call) → GoodCall next → GoodReplaced (goes next)) → GoodReplaced (progressed table deeper active call item step others goes)
    progressed-good call item ends others goes g p b c =
        call-then-good call.name (call_replacement table deeper active call item.token) others (call-replacement-good table deeper active call item.token d g) b
    progressed-good call item (goes_on next) others goes g p b c = c next p

    mutual
      pub outside-good : (items : List Item) → Items items → GoodReplaced (outside table deeper active items)
      outside-good [] a = tt
      outside-good (item ∷ rest) a =
          treated-good item (treatment_of table active item rest) (outside table deeper active rest) (λ call. inside table deeper active call rest)
          (treatment-good item (is_named_in active item.token) (opens rest) (meaning_of table item) a.0 (meaning-good table item t))
          (outside-good rest a.1) (λ call g. inside-good call rest g a.1)

      pub inside-good : (call : Call) (items : List Item) → GoodCall call → Items items → GoodReplaced (inside table deeper active call items)
      inside-good call [] g a = tt
      inside-good call (item ∷ rest) g a =
          progressed-good call item (progress call item) (outside table deeper active rest) (λ next. inside table deeper active next rest) g
          (progress-good call item g a.0) (outside-good rest a.1) (λ next h. inside-good next rest h a.1)

  level-good : (table : Table) (n : ℕ) → GoodTable table → GoodDeeper (level table n)
  level-good table zero t active items a =
      unless-bad-good (outside table (λ names list. None) active items) (outside-good table (λ names list. None) active t (λ names list b. tt) items a)
  level-good table (suc n) t active items a =
      unless-bad-good (outside table (level table n) active items) (outside-good table (level table n) active t (level-good table n t) items a)

  pub replaced-good : (table : Table) (tokens : List PlainToken) → GoodTable table → Tokens tokens → GoodReplaced (replaced table tokens)
  replaced-good table tokens t a =
      outside-good table (level table (deepest - 1)) [] t (level-good table (deepest - 1) t) (map fresh tokens) (fresh-good tokens a)
