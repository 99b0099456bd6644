-- What a name gives outside calls, kind by kind of its meanings.
use Rattle.std.proofs.Common.{◌≡◌, ℕ, Bool, true, false, not, ◌&&◌, List, [], ◌∷◌, map, Option, Some, None, refl, sym, ap, ◌∙◌}
use Rattle.std.specs.Prelude.{is_some}
use Rattle.c_text.specs.Token.{PlainToken}
use Rattle.c_text.specs.Macros as spec
use Rattle.cond_bodies.specs.CondMeanings.{PlainFunction, is_feature, object_of, function_of}
use Rattle.cond_runs.specs.Functions.{is_single, or_function, some_seen, without_params, kept_item}
use Rattle.cond_runs.specs.Pieces.{Piece, also, under_piece, items_piece, given_piece, open_piece, brought_again, outside_piece}
use Rattle.cond_macros.proofs.PieceLemmas.{also-nothing}

four_features : (s : Option Piece) (w : Bool) (p q r t : Option Piece) → also (also (also (also s (under_piece (w && true) p)) (under_piece (w && false) q)) (under_piece (w && false) r)) (under_piece (((w && not true) && not false) && not false) t) ≡ also s (under_piece w p)
four_features s true p q r t = simp also-nothing
four_features s false p q r t = simp also-nothing

four_objects : (s : Option Piece) (w : Bool) (p q r t : Option Piece) → also (also (also (also s (under_piece (w && false) p)) (under_piece (w && true) q)) (under_piece (w && false) r)) (under_piece (((w && not false) && not true) && not false) t) ≡ also s (under_piece w q)
four_objects s true p q r t = simp also-nothing
four_objects s false p q r t = simp also-nothing

four_calls : (s : Option Piece) (w : Bool) (p q r t : Option Piece) → also (also (also (also s (under_piece (w && false) p)) (under_piece (w && false) q)) (under_piece (w && true) r)) (under_piece (((w && not false) && not false) && not true) t) ≡ also s (under_piece w r)
four_calls s true p q r t = simp also-nothing
four_calls s false p q r t = simp also-nothing

four_others : (s : Option Piece) (w : Bool) (p q r t : Option Piece) → also (also (also (also s (under_piece (w && false) p)) (under_piece (w && false) q)) (under_piece (w && false) r)) (under_piece (((w && not false) && not false) && not false) t) ≡ also s (under_piece w t)
four_others s true p q r t = simp also-nothing
four_others s false p q r t = simp also-nothing

all_four : (s : Option Piece) (w : Bool) (f g o u k v : Bool) (p q r t after_first after_second after_third after_fourth : Option Piece) → f ≡ g → o ≡ u → k ≡ v →
    after_first ≡ also s (under_piece (w && f) p) → after_second ≡ also after_first (under_piece (w && o) q) → after_third ≡ also after_second (under_piece (w && k) r) →
    after_fourth ≡ also after_third (under_piece (((w && not f) && not o) && not k) t) →
    after_fourth ≡ also (also (also (also s (under_piece (w && g) p)) (under_piece (w && u) q)) (under_piece (w && v) r)) (under_piece (((w && not g) && not u) && not v) t)
all_four s w f g o u k v p q r t first second third fourth is_f is_o is_k a b c d =
    let e : first ≡ also s (under_piece (w && g) p) = a ∙ ap (λ (x : Bool). also s (under_piece (w && x) p)) is_f in
    let f' : second ≡ also (also s (under_piece (w && g) p)) (under_piece (w && u) q) = b ∙ ap (λ (x : Bool). also first (under_piece (w && x) q)) is_o ∙ ap (λ (x : Option Piece). also x (under_piece (w && u) q)) e in
    let g' : third ≡ also (also (also s (under_piece (w && g) p)) (under_piece (w && u) q)) (under_piece (w && v) r) = c ∙ ap (λ (x : Bool). also second (under_piece (w && x) r)) is_k ∙ ap (λ (x : Option Piece). also x (under_piece (w && v) r)) f' in
    d ∙ ap (λ (x : Bool). also third (under_piece (((w && not x) && not o) && not k) t)) is_f
    ∙ ap (λ (x : Bool). also third (under_piece (((w && not g) && not x) && not k) t)) is_o
    ∙ ap (λ (x : Bool). also third (under_piece (((w && not g) && not u) && not x) t)) is_k
    ∙ ap (λ (x : Option Piece). also x (under_piece (((w && not g) && not u) && not v) t)) g'

abbrev pub some_body : List (List PlainToken) → Bool
some_body [] = false
some_body (body ∷ bodies) = true

false_and : (w : Bool) → (w && false) ≡ true → ⊥
false_and true e = cc
false_and false e = cc

-- a name that is active
pub active_named : (exact : Bool) (s after_kept after : Option Piece) (w m here elsewhere : Bool) (item : spec.Item) (meaning : Option spec.Meaning) →
    m ≡ is_some meaning → here ≡ (w && m) → elsewhere ≡ (w && not m) →
    after_kept ≡ also s (under_piece here (items_piece exact (record item { kept = true } ∷ []))) → after ≡ also after_kept (under_piece elsewhere (items_piece exact (item ∷ []))) →
    after ≡ also s (under_piece w (items_piece exact (kept_item (is_some meaning) item ∷ [])))
active_named exact s a b w m here elsewhere item meaning is_m is_here is_elsewhere e f =
    f ∙ ap (λ (x : Option Piece). also x (under_piece elsewhere (items_piece exact (item ∷ [])))) e
    ∙ ap (λ (x : Bool). also (also s (under_piece here (items_piece exact (record item { kept = true } ∷ [])))) (under_piece x (items_piece exact (item ∷ [])))) is_elsewhere
    ∙ ap (λ (x : Bool). also (also s (under_piece x (items_piece exact (record item { kept = true } ∷ [])))) (under_piece (w && not m) (items_piece exact (item ∷ [])))) is_here
    ∙ by_test w m
    ∙ ap (λ (x : Bool). also s (under_piece w (items_piece exact (kept_item x item ∷ [])))) is_m
  where
    by_test : (w m : Bool) → also (also s (under_piece (w && m) (items_piece exact (record item { kept = true } ∷ [])))) (under_piece (w && not m) (items_piece exact (item ∷ []))) ≡ also s (under_piece w (items_piece exact (kept_item m item ∷ [])))
    by_test true true = simp also-nothing
    by_test true false = simp also-nothing
    by_test false m = simp also-nothing

module _ (exact : Bool) (table : spec.Table) (deeper : spec.Deeper) (active : List (List ℕ)) where
  -- a name that is no active one
  pub named : (s after_feature after_object after_call after : Option Piece) (w f o k opens : Bool) (one : PlainToken) (item : spec.Item) (own : PlainToken) (meaning : Option spec.Meaning) →
      ((other : PlainToken) → meaning ≡ Some (spec.feature other) → one ≡ other) →
      f ≡ is_feature meaning → o ≡ some_body (object_of meaning) → k ≡ (some_seen (function_of meaning) && opens) →
      after_feature ≡ also s (under_piece (w && f) (items_piece exact (spec.brought own own (spec.fresh one) ∷ []))) →
      ((body : List PlainToken) → ((w && o) ≡ true → object_of meaning ≡ body ∷ []) →
      after_object ≡ also after_feature (under_piece (w && o) (given_piece exact (brought_again own own (spec.replacement table deeper active item.token item.token (map spec.fresh body)))))) →
      after_call ≡ also after_object (under_piece (w && k) (open_piece (record { call = spec.begun item.token (or_function (function_of meaning)).params (or_function (function_of meaning)).body; first = own } ∷ []))) →
      after ≡ also after_call (under_piece (((w && not f) && not o) && not k) (items_piece exact (item ∷ []))) →
      after ≡ also s (under_piece w (outside_piece exact table deeper active item own (spec.treatment item false opens meaning)))
  named s a b c d w f o k opens one item own None is_one is_f is_o is_k e_a e_b e_c e_d =
      all_four s w f false o false k false _ _ _ _ a b c d is_f is_o is_k e_a (e_b [] (λ t. absurd (false_and w (sym (ap (λ (x : Bool). w && x) is_o) ∙ t)))) e_c e_d
      ∙ four_others s w _ _ _ _
  named s a b c d w f o k opens one item own (Some (spec.feature other)) is_one is_f is_o is_k e_a e_b e_c e_d =
      all_four s w f true o false k false _ _ _ _ a b c d is_f is_o is_k e_a (e_b [] (λ t. absurd (false_and w (sym (ap (λ (x : Bool). w && x) is_o) ∙ t)))) e_c e_d
      ∙ four_features s w _ _ _ _
      ∙ ap (λ (t : PlainToken). also s (under_piece w (items_piece exact (spec.brought own own (spec.fresh t) ∷ [])))) (is_one other refl)
  named s a b c d w f o k opens one item own (Some (spec.object body)) is_one is_f is_o is_k e_a e_b e_c e_d =
      all_four s w f false o true k false _ _ _ _ a b c d is_f is_o is_k e_a (e_b body (λ t. refl)) e_c e_d
      ∙ four_objects s w _ _ _ _
  named s a b c d w f o k true one item own (Some (spec.function params body)) is_one is_f is_o is_k e_a e_b e_c e_d =
      all_four s w f false o false k true _ _ _ _ a b c d is_f is_o is_k e_a (e_b [] (λ t. absurd (false_and w (sym (ap (λ (x : Bool). w && x) is_o) ∙ t)))) e_c e_d
      ∙ four_calls s w _ _ _ _
  named s a b c d w f o k false one item own (Some (spec.function params body)) is_one is_f is_o is_k e_a e_b e_c e_d =
      all_four s w f false o false k false _ _ _ _ a b c d is_f is_o is_k e_a (e_b [] (λ t. absurd (false_and w (sym (ap (λ (x : Bool). w && x) is_o) ∙ t)))) e_c e_d
      ∙ four_others s w _ _ _ _

  pub treated_active : (item : spec.Item) (own : PlainToken) (opens : Bool) (meaning : Option spec.Meaning) →
      outside_piece exact table deeper active item own (spec.treatment item true opens meaning) ≡ items_piece exact (kept_item (is_some meaning) item ∷ [])
  treated_active item own opens None = refl
  treated_active item own opens (Some meaning) = refl

  pub treated_nothing : (item : spec.Item) (own : PlainToken) (is_active opens : Bool) (meaning : Option spec.Meaning) → meaning ≡ None →
      outside_piece exact table deeper active item own (spec.treatment item is_active opens meaning) ≡ items_piece exact (item ∷ [])
  treated_nothing item own is_active opens meaning e = rw e refl

-- ---- kinds of meanings

pub bodies_seen : (bodies : List (List PlainToken)) → some_seen (map without_params bodies) ≡ some_body bodies
bodies_seen [] = refl
bodies_seen (body ∷ bodies) = refl

pub one_object : (fs : List PlainFunction) (bodies : List (List PlainToken)) (body : List PlainToken) → fs ≡ map without_params bodies → bodies ≡ body ∷ [] → fs ≡ without_params body ∷ []
one_object fs bodies body e f = e ∙ ap (map without_params) f

pub single_if : (w opens : Bool) (meaning : Option spec.Meaning) → (w && (some_seen (function_of meaning) && opens)) ≡ true → is_single (function_of meaning) ≡ true
single_if w opens None e = absurd (false_and w e)
single_if w opens (Some (spec.feature one)) e = absurd (false_and w e)
single_if w opens (Some (spec.object body)) e = absurd (false_and w e)
single_if w opens (Some (spec.function params body)) e = refl

pub no_meaning : (meaning : Option spec.Meaning) → is_feature meaning ≡ false → object_of meaning ≡ [] → function_of meaning ≡ [] → meaning ≡ None
no_meaning None e f g = refl
no_meaning (Some (spec.feature one)) e f g = cc
no_meaning (Some (spec.object body)) e f g = cc
no_meaning (Some (spec.function params body)) e f g = cc

pub named_meaning : (table : spec.Table) (item : spec.Item) (text : List ℕ) → item.token.text ≡ text → (spec.is_name_kind item.token.kind && not item.kept) ≡ true → spec.meaning_of table item ≡ table text
named_meaning table item text e f = rw (f, e) refl

pub unnamed_meaning : (table : spec.Table) (item : spec.Item) → (spec.is_name_kind item.token.kind && not item.kept) ≡ false → spec.meaning_of table item ≡ None
unnamed_meaning table item f = rw f refl

pub fresh_substituted : (arguments : List (List spec.Item)) (body : List PlainToken) → spec.substituted [] arguments body ≡ map spec.fresh body
fresh_substituted arguments [] = refl
fresh_substituted arguments (token ∷ body) = ap (λ (l : List spec.Item). spec.fresh token ∷ l) (fresh_substituted arguments body)
