-- A function that moves the tokens of some units can be had so that it moves every token: what the units don't have goes to files of its own.
use Rattle.std.proofs.Common.{◌≡◌, inl, inr, ℕ, ◌+◌, ◌<◌, Bool, true, false, List, [], ◌∷◌, map, refl, sym, ap, subst, ◌∙◌, arith}
use Rattle.std.specs.Prelude.{◌⊎◌, ◌==◌, ◌&&◌, ◌||◌, if◌then◌else◌}
use Rattle.std.specs.List.{list_any, Contains}
use Rattle.std.proofs.lemmas.Bool.{false≢true, eq-eqb, eqb-true}
use Rattle.std.proofs.lemmas.List.Elements.{Contains-append_left, Contains-append_right, Contains-push, Contains-push_cases, Contains-append_cases}
use Rattle.std.proofs.lemmas.Map.Views.{Contains-from_any}
use Rattle.c_text.specs.Token.{PlainToken}
use Rattle.c_tree.specs.Trees.{PlainTree, PlainTrees, leaf, node, none, more, written, all_written}
use Rattle.core_meaning.specs.Constancy.{same_span, same_place}
use Rattle.moved_programs.specs.Trees.{moved_tree, moved_trees, tokens_of, OnlyMoves}
use Rattle.moved_programs.proofs.Moves.{elsewhere}
use Rattle.moved_programs.proofs.Constants.{KeepsPlaces}
use Rattle.moved_programs.proofs.Tokens.{same_token, token_is, token_itself, OnePlace, one_place, place_itself, places_alike}

-- ---- members of lists

in_head : {X : Type 0} (x : X) (xs : List X) → Contains (x ∷ xs) x
in_head x xs = Contains-append_left (x ∷ []) xs x (Contains-push [] x)

in_tail : {X : Type 0} (y : X) (xs : List X) (x : X) → Contains xs x → Contains (y ∷ xs) x
in_tail y xs x h = Contains-append_right (y ∷ []) xs x h

in_none : {X : Type 0} (x : X) → Contains [] x → ⊥
in_none x h = let low : h.0 < 0 = h.1 in absurd (omega (arith, low))

in_cases : {X : Type 0} (y : X) (xs : List X) (x : X) → Contains (y ∷ xs) x → (y ≡ x) ⊎ Contains xs x
in_cases y xs x h = first (Contains-append_cases (y ∷ []) xs x h)
  where
    second : Contains [] x ⊎ (y ≡ x) → (y ≡ x) ⊎ Contains xs x
    second (inl h) = absurd (in_none x h)
    second (inr e) = inl e

    first : Contains (y ∷ []) x ⊎ Contains xs x → (y ≡ x) ⊎ Contains xs x
    first (inl h) = second (Contains-push_cases [] y x h)
    first (inr h) = inr h

or_true : (a b : Bool) → b ≡ true → (a || b) ≡ true
or_true true b e = refl
or_true false b e = e

passes : {X : Type 0} (test : X → Bool) (xs : List X) (x : X) → Contains xs x → test x ≡ true → list_any test xs ≡ true
passes test [] x h e = absurd (in_none x h)
passes test (y ∷ rest) x h e = by (in_cases y rest x h) (λ there. passes test rest x there e)
  where
    by : (y ≡ x) ⊎ Contains rest x → (Contains rest x → list_any test rest ≡ true) → (test y || list_any test rest) ≡ true
    by (inl same) later = ap (λ z. test z || list_any test rest) same ∙ ap (λ b. b || list_any test rest) e
    by (inr there) later = or_true (test y) (list_any test rest) (later there)

-- ---- trees with the same tokens put elsewhere

mutual
  behind_in : (tree : PlainTree) (behind : List PlainToken) (token : PlainToken) → Contains behind token → Contains (written tree behind) token
  behind_in (leaf first) behind token h = in_tail first behind token h
  behind_in (node kind parts) behind token h = behind_all parts behind token h

  behind_all : (parts : PlainTrees) (behind : List PlainToken) (token : PlainToken) → Contains behind token → Contains (all_written parts behind) token
  behind_all none behind token h = h
  behind_all (more tree rest) behind token h = behind_in tree (all_written rest behind) token (behind_all rest behind token h)

module _ (f g : PlainToken → PlainToken) where
  mutual
    same_tree : (tree : PlainTree) (behind : List PlainToken) → ((t : PlainToken) → Contains (written tree behind) t → f t ≡ g t) → moved_tree f tree ≡ moved_tree g tree
    same_tree (leaf token) behind e = ap leaf (e token (in_head token behind))
    same_tree (node kind parts) behind e = ap (node kind) (same_trees parts behind e)

    same_trees : (parts : PlainTrees) (behind : List PlainToken) → ((t : PlainToken) → Contains (all_written parts behind) t → f t ≡ g t) → moved_trees f parts ≡ moved_trees g parts
    same_trees none behind e = refl
    same_trees (more tree rest) behind e =
        ap (λ x. more x (moved_trees f rest)) (same_tree tree (all_written rest behind) e)
        ∙ ap (more (moved_tree g tree)) (same_trees rest behind (λ t h. e t (behind_in tree (all_written rest behind) t h)))

  pub same_units : (units : List PlainTree) → ((t : PlainToken) → Contains (tokens_of units) t → f t ≡ g t) → map (moved_tree f) units ≡ map (moved_tree g) units
  same_units [] e = refl
  same_units (tree ∷ rest) e =
      ap (λ x. x ∷ map (moved_tree f) rest) (same_tree tree (tokens_of rest) e)
      ∙ ap (λ l. moved_tree g tree ∷ l) (same_units rest (λ t h. e t (behind_in tree (tokens_of rest) t h)))

-- ---- a place for every token

-- a file behind all those that the tokens are moved to
abbrev next_file : (PlainToken → PlainToken) → List PlainToken → ℕ
next_file f [] = 0
next_file f (t ∷ rest) = (f t).origin.file + (1 + next_file f rest)

abbrev in_file : ℕ → PlainToken → PlainToken
in_file away t = record t { origin = record t.origin { file = t.origin.file + away } }

-- a token that stands where this one is to stand
abbrev stands_for : (PlainToken → PlainToken) → ℕ → List PlainToken → PlainToken → PlainToken
stands_for f away [] t = in_file away t
stands_for f away (u ∷ rest) t = if same_place t u then f u else stands_for f away rest t

record Finds (f : PlainToken → PlainToken) (away : ℕ) (tokens : List PlainToken) (t : PlainToken) : Type 0 where
  token : PlainToken
  contained : Contains tokens token
  here : same_place t token ≡ true
  is : stands_for f away tokens t ≡ f token
  below : (f token).origin.file < next_file f tokens

less_first : (a b : ℕ) → a < a + (1 + b)
less_first a b = omega arith

less_rest : (a b c : ℕ) → c < b → c < a + (1 + b)
less_rest a b c h = omega (arith, h)

module _ (f : PlainToken → PlainToken) (away : ℕ) where
  finds : (tokens : List PlainToken) (t : PlainToken) → list_any (same_place t) tokens ≡ true → Finds f away tokens t
  finds [] t e = absurd (false≢true e)
  finds (u ∷ rest) t e = by (same_place t u) refl e (finds rest t)
    where
      by : (b : Bool) → same_place t u ≡ b → (b || list_any (same_place t) rest) ≡ true → (list_any (same_place t) rest ≡ true → Finds f away rest t) → Finds f away (u ∷ rest) t
      by true here any later = record {
        token = u;
        contained = in_head u rest;
        here = here;
        is = ap (λ b. if b then f u else stands_for f away rest t) here;
        below = less_first (f u).origin.file (next_file f rest);
      }
      by false here any later =
          let found = later any in
          record {
            token = found.token;
            contained = in_tail u rest found.token found.contained;
            here = found.here;
            is = ap (λ b. if b then f u else stands_for f away rest t) here ∙ found.is;
            below = less_rest (f u).origin.file (next_file f rest) (f found.token).origin.file found.below;
          }

  misses : (tokens : List PlainToken) (t : PlainToken) → list_any (same_place t) tokens ≡ false → stands_for f away tokens t ≡ in_file away t
  misses [] t e = refl
  misses (u ∷ rest) t e = by (same_place t u) refl e (misses rest t)
    where
      by :
          (b : Bool) → same_place t u ≡ b → (b || list_any (same_place t) rest) ≡ false → (list_any (same_place t) rest ≡ false → stands_for f away rest t ≡ in_file away t)
          → (if same_place t u then f u else stands_for f away rest t) ≡ in_file away t
      by true here any later = absurd (false≢true (sym any))
      by false here any later = ap (λ b. if b then f u else stands_for f away rest t) here ∙ later any

not_true : (b : Bool) → (b ≡ true → ⊥) → b ≡ false
not_true true no_ = absurd (no_ refl)
not_true false no_ = refl

same_tests : (a b : Bool) → (a ≡ true → b ≡ true) → (b ≡ true → a ≡ true) → a ≡ b
same_tests true true h i = refl
same_tests true false h i = sym (h refl)
same_tests false true h i = i refl
same_tests false false h i = refl

any_alike : (a b : PlainToken) → OnePlace a b → (tokens : List PlainToken) → list_any (same_place a) tokens ≡ list_any (same_place b) tokens
any_alike a b h [] = refl
any_alike a b h (u ∷ rest) =
    ap (λ x. x || list_any (same_place a) rest) (places_alike a u b u h (record { file = refl; span = refl }))
    ∙ ap (λ x. same_place b u || x) (any_alike a b h rest)

-- one of two tokens stands where a token of the list does, and the other doesn't
apart_by : (a b : PlainToken) (tokens : List PlainToken) (x y : Bool) → list_any (same_place a) tokens ≡ x → list_any (same_place b) tokens ≡ y → (x ≡ y → ⊥) → same_place a b ≡ false
apart_by a b tokens x y e i differ = not_true (same_place a b) (λ same. differ (sym e ∙ any_alike a b (one_place a b same) tokens ∙ i))

other_file : (a b : PlainToken) → (a.origin.file ≡ b.origin.file → ⊥) → same_place a b ≡ false
other_file a b differ = not_true (same_place a b) (λ same. differ (one_place a b same).file)

shifted : (m n k : ℕ) → (m + k == n + k) ≡ (m == n)
shifted m n k =
    same_tests (m + k == n + k) (m == n)
    (λ e. let sum : m + k ≡ n + k = eqb-true (m + k) (n + k) e in eq-eqb m n (omega (arith, sum)))
    (λ e. eq-eqb (m + k) (n + k) (ap (λ x. x + k) (eqb-true m n e)))

above : (m n k : ℕ) → m < k → m ≡ n + k → ⊥
above m n k less e = absurd (omega (arith, less, e))

module _ (f : PlainToken → PlainToken) (tokens : List PlainToken) (only : OnlyMoves f tokens) where
  abbrev stand : PlainToken → PlainToken
  stand t = stands_for f (next_file f tokens) tokens t

  stand_apart : (a b : PlainToken) (x y : Bool) → list_any (same_place a) tokens ≡ x → list_any (same_place b) tokens ≡ y → same_place (stand a) (stand b) ≡ same_place a b
  stand_apart a b true true e i =
      let first = finds f (next_file f tokens) tokens a e in
      let second = finds f (next_file f tokens) tokens b i in
      ap (λ t. same_place t (stand b)) first.is
      ∙ ap (same_place (f first.token)) second.is
      ∙ only.places first.token second.token first.contained second.contained
      ∙ sym (places_alike a b first.token second.token (one_place a first.token first.here) (one_place b second.token second.here))
  stand_apart a b true false e i =
      let first = finds f (next_file f tokens) tokens a e in
      ap (λ t. same_place t (stand b)) first.is
      ∙ ap (same_place (f first.token)) (misses f (next_file f tokens) tokens b i)
      ∙ other_file (f first.token) (in_file (next_file f tokens) b) (above (f first.token).origin.file b.origin.file (next_file f tokens) first.below)
      ∙ sym (apart_by a b tokens true false e i (λ h. false≢true (sym h)))
  stand_apart a b false true e i =
      let second = finds f (next_file f tokens) tokens b i in
      ap (λ t. same_place t (stand b)) (misses f (next_file f tokens) tokens a e)
      ∙ ap (same_place (in_file (next_file f tokens) a)) second.is
      ∙ other_file (in_file (next_file f tokens) a) (f second.token) (λ h. above (f second.token).origin.file a.origin.file (next_file f tokens) second.below (sym h))
      ∙ sym (apart_by a b tokens false true e i false≢true)
  stand_apart a b false false e i =
      ap (λ t. same_place t (stand b)) (misses f (next_file f tokens) tokens a e)
      ∙ ap (same_place (in_file (next_file f tokens) a)) (misses f (next_file f tokens) tokens b i)
      ∙ ap (λ x. x && same_span a.origin.span b.origin.span) (shifted a.origin.file b.origin.file (next_file f tokens))

  -- The function, with every token at a place: one that isn't of the list comes from a macro call in this file.
  abbrev pub extended : ℕ → PlainToken → PlainToken
  extended site t = if list_any (same_token t) tokens then f t else (record t { origin = record (stand t).origin { site_file = site } })

  pub at_listed : (site : ℕ) (t : PlainToken) → Contains tokens t → elsewhere (extended site) t ≡ f t
  at_listed site t h =
      let is = ap (λ b. if b then f t else (record t { origin = record (stand t).origin { site_file = site } })) (passes (same_token t) tokens t h (token_itself t)) in
      ap (λ (u : PlainToken). record u { kind = t.kind; text = t.text }) is
      ∙ ap (λ k. record (f t) { kind = k; text = t.text }) (sym (only.kinds t h))
      ∙ ap (λ text. record (f t) { text = text }) (sym (only.texts t h))

  pub at_other : (site : ℕ) (t : PlainToken) → list_any (same_token t) tokens ≡ false → elsewhere (extended site) t ≡ record t { origin = record (stand t).origin { site_file = site } }
  at_other site t e = ap (λ b. record (if b then f t else (record t { origin = record (stand t).origin { site_file = site } })) { kind = t.kind; text = t.text }) e

  pub is_listed : (t : PlainToken) → list_any (same_token t) tokens ≡ true → Contains tokens t
  is_listed t e = Contains-from_any {eq = same_token} token_is t tokens e

  listed_stands : (t : PlainToken) → Contains tokens t → OnePlace (f t) (stand t)
  listed_stands t h =
      let found = finds f (next_file f tokens) tokens t (passes (same_place t) tokens t h (place_itself t)) in
      subst (λ u. OnePlace (f t) u) (sym found.is) (one_place (f t) (f found.token) (only.places t found.token h found.contained ∙ found.here))

  extended_stands : (site : ℕ) (t : PlainToken) (b : Bool) → list_any (same_token t) tokens ≡ b → OnePlace (elsewhere (extended site) t) (stand t)
  extended_stands site t true e = subst (λ u. OnePlace u (stand t)) (sym (at_listed site t (is_listed t e))) (listed_stands t (is_listed t e))
  extended_stands site t false e = subst (λ u. OnePlace u (stand t)) (sym (at_other site t e)) (record { file = refl; span = refl })

  pub extended_apart : (site : ℕ) → KeepsPlaces (extended site)
  extended_apart site a b =
      places_alike (elsewhere (extended site) a) (elsewhere (extended site) b) (stand a) (stand b) (extended_stands site a (list_any (same_token a) tokens) refl) (extended_stands site b (list_any (same_token b) tokens) refl)
      ∙ stand_apart a b (list_any (same_place a) tokens) (list_any (same_place b) tokens) refl refl
