-- Runs of tokens that are alike give tokens that are, or are refused alike.
use Rattle.std.proofs.Common.{◌≡◌, ℕ, Bool, true, ◌&&◌, cond, List, [], ◌∷◌, ◌++◌, map, Option, Some, None, refl, ap, sym, ◌∙◌, subst}
use Rattle.std.specs.Prelude.{⊤, nat_lt}
use Rattle.std.specs.List.{AllByRecursion, list_any}
use Rattle.std.specs.Str.{bytes_eq}
use Rattle.text_edits.specs.Span.{PlainSpan}
use Rattle.c_text.specs.declared.origin.Place.{Place}
use Rattle.c_text.specs.declared.token.BadKind.{BadKind}
use Rattle.c_text.specs.declared.token.BadKind.TheVariants.{OpenComment}
use Rattle.c_text.specs.declared.token.TokenKind.{TokenKind}
use Rattle.c_text.specs.Token.{PlainToken}
use Rattle.c_text.specs.Directives.{is_word, is_predefined, predefined_names}
use Rattle.c_text.specs.Macros.{Table, Item, Replaced, fine, bad_call, replaced}
use Rattle.c_text.specs.Preprocessing.{Kind, bad_token, bad_call_kind, predefined, Refusal, refusal_at, bad_kind, is_open_comment, by_bad, or_else, refused_token, refused_ignored, earlier, Reading, emitted, read_run}
use Rattle.renamings.specs.Renamings.{Renaming, is_renamed, moved_span, renamed_token}
use Rattle.renamed_units.proofs.Alike as alike
use Rattle.renamed_units.specs.Pairs.{Pairs}
use Rattle.renamed_units.proofs.Alike.{SameText, changes, AreAlike, SameSite, AlikeItems, AlikeTables, IsNamed, AlikeReadings, AlikeFlows}
use Rattle.renamed_units.specs.Renamed.{moved_refusal}
use Rattle.renamed_units.proofs.Pairs.{choice-alike}
use Rattle.renamed_units.proofs.Replacing.{IsPlace, AlikeReplaced, GivenTokens, replaced-alike}

-- ---- exact tokens

made : TokenKind → List ℕ → Bool → ℕ → PlainSpan → Place → PlainSpan → ℕ → PlainToken
made kind text joined file span place site site_file =
    record { kind = kind; text = text; joined = joined; origin = record { file = file; span = span; place = place; site = site; site_file = site_file } }

module _ (r : Renaming) (May : Type 0) (table : Table) where
  text-after : (a : PlainToken) (new : List ℕ) → SameText r May table a.kind a.origin.file a.origin.span a.text new → new ≡ cond (is_renamed r a.origin.file a.origin.span) r.new a.text
  text-after a new (alike.stays u e) = rw u e
  text-after a new (changes may u k o n t m p q old_free new_free) = rw u n

  parts : (a b : PlainToken) → AreAlike r May table a b → SameSite r a b → made b.kind b.text b.joined b.origin.file b.origin.span b.origin.place b.origin.site b.origin.site_file ≡ made a.kind (cond (is_renamed r a.origin.file a.origin.span) r.new a.text) a.joined a.origin.file (moved_span r a.origin.file a.origin.span) a.origin.place (moved_span r a.origin.site_file a.origin.site) a.origin.site_file
  parts a b s t = let text = text-after a b.text s.text in cc (s.kind, text, s.joined, s.file, s.span, s.place, t.file, t.span)

  exact : (a b : PlainToken) → AreAlike r May table a b → SameSite r a b → b ≡ renamed_token r a
  unfolding made
  exact a b s t = parts a b s t

  pub all-exact : (as_ bs : List Item) → Pairs (AlikeItems r May table true) as_ bs → map (λ item. item.token) bs ≡ map (renamed_token r) (map (λ item. item.token) as_)
  all-exact [] [] p = refl
  all-exact [] (b ∷ bs) p = absurd p
  all-exact (a ∷ as_) [] p = absurd p
  all-exact (a ∷ as_) (b ∷ bs) p =
      let first = exact a.token b.token p.0.token (p.0.site refl) in
      let rest = all-exact as_ bs p.1 in
      cc

  named : (a : PlainToken) (new : List ℕ) → SameText r May table a.kind a.origin.file a.origin.span a.text new → IsNamed r a
  named a new (alike.stays u e) h = let f : ⊥ = cc in absurd f
  named a new (changes may u k o n t m p q old_free new_free) h = k

  pub all-named : (as_ bs : List Item) → Pairs (AlikeItems r May table true) as_ bs → AllByRecursion (IsNamed r) (map (λ item. item.token) as_)
  all-named [] [] p = tt
  all-named [] (b ∷ bs) p = absurd p
  all-named (a ∷ as_) [] p = absurd p
  all-named (a ∷ as_) (b ∷ bs) p = (named a.token b.token.text p.0.token.text, all-named as_ bs p.1)

-- ---- where tokens stand

-- spans at which the tokens of an outermost list stand: in one file, and the renaming keeps their order
pub record IsStanding (r : Renaming) (At : ℕ → PlainSpan → Type 0) : Type 0 where
  pub one_file : (file other : ℕ) (a b : PlainSpan) → At file a → At other b → file ≡ other
  pub order : (file other : ℕ) (a b : PlainSpan) → At file a → At other b → nat_lt (moved_span r file a).start (moved_span r other b).start ≡ nat_lt a.start b.start

module _ (r : Renaming) (At : ℕ → PlainSpan → Type 0) (standing : IsStanding r At) where
  abbrev pub Outer : PlainToken → Type 0
  Outer a = At a.origin.file a.origin.span

  pub outer-place : IsPlace Outer
  outer-place = record { one_file = λ a b x y. standing.one_file a.origin.file b.origin.file a.origin.span b.origin.span x y }

  -- ---- refusals

  abbrev pub AlikeRefusals : Option Refusal → Option Refusal → Type 0
  AlikeRefusals None None = ⊤
  AlikeRefusals None (Some w) = ⊥
  AlikeRefusals (Some v) None = ⊥
  AlikeRefusals (Some v) (Some w) = (w ≡ moved_refusal r v) × At v.file v.span

  pub or-else-alike : (f g x y : Option Refusal) → AlikeRefusals f g → AlikeRefusals x y → AlikeRefusals (or_else f x) (or_else g y)
  or-else-alike None None x y p q = q
  or-else-alike None (Some w) x y p q = absurd p
  or-else-alike (Some v) None x y p q = absurd p
  or-else-alike (Some v) (Some w) x y p q = p

  pub refusal-moves : (kind : Kind) (a b : PlainToken) → b.origin.file ≡ a.origin.file → b.origin.span ≡ moved_span r a.origin.file a.origin.span → refusal_at kind b ≡ moved_refusal r (refusal_at kind a)
  refusal-moves kind a b e f = cc

  pub earlier-alike : (f g : Option Refusal) (v w : Refusal) → AlikeRefusals f g → w ≡ moved_refusal r v → At v.file v.span → earlier g w ≡ moved_refusal r (earlier f v)
  earlier-alike None None v w p e s = e
  earlier-alike None (Some y) v w p e s = absurd p
  earlier-alike (Some x) None v w p e s = absurd p
  earlier-alike (Some x) (Some y) v w p e s =
      choice-alike (λ (a b : Refusal). b ≡ moved_refusal r a) (nat_lt x.span.start v.span.start) (nat_lt y.span.start w.span.start) x v y w same p.0 e
    where
      same : nat_lt y.span.start w.span.start ≡ nat_lt x.span.start v.span.start
      same = ap (λ (a : Refusal). nat_lt a.span.start w.span.start) p.0 ∙ ap (λ (a : Refusal). nat_lt (moved_refusal r x).span.start a.span.start) e ∙ standing.order x.file v.file x.span v.span p.1 s

  module _ (May : Type 0) (table table' : Table) (tables : AlikeTables r table table') where
    abbrev pub AreGiven : List PlainToken → List PlainToken → Type 0
    AreGiven as_ bs = Pairs (GivenTokens r May Outer outer-place table table' tables) as_ bs

    abbrev Given : PlainToken → PlainToken → Type 0
    Given a b = GivenTokens r May Outer outer-place table table' tables a b

    by-predefined : (a b : PlainToken) → Given a b → (is_word b && is_predefined b) ≡ (is_word a && is_predefined a)
    by-predefined a b g = elim g.is.text as (λ x. (is_word b && is_predefined b) ≡ (is_word a && is_predefined a)) [
      | alike.stays u e ↦ cc (g.is.kind, e)
      | changes may u k o n t m p q old_free new_free ↦
          let same : is_predefined b ≡ is_predefined a = ap (λ (w : List ℕ). list_any (bytes_eq w) predefined_names) n ∙ new_free ∙ sym old_free ∙ sym (ap (λ (w : List ℕ). list_any (bytes_eq w) predefined_names) o) in
          cc (g.is.kind, same)
    ]

    by-bad-alike : (a b : PlainToken) (kind : Option BadKind) → Given a b → AlikeRefusals (by_bad a kind) (by_bad b kind)
    by-bad-alike a b (Some kind) g = (refusal-moves (bad_token kind) a b g.is.file g.is.span, g.outer)
    by-bad-alike a b None g =
        choice-alike AlikeRefusals (is_word a && is_predefined a) (is_word b && is_predefined b) (Some (refusal_at predefined a)) None (Some (refusal_at predefined b)) None
        (by-predefined a b g) (refusal-moves predefined a b g.is.file g.is.span, g.outer) tt

    pub refused-token-alike : (as_ bs : List PlainToken) → AreGiven as_ bs → AlikeRefusals (refused_token as_) (refused_token bs)
    refused-token-alike [] [] p = tt
    refused-token-alike [] (b ∷ bs) p = absurd p
    refused-token-alike (a ∷ as_) [] p = absurd p
    refused-token-alike (a ∷ as_) (b ∷ bs) p =
        or-else-alike (by_bad a (bad_kind a.kind)) (by_bad b (bad_kind b.kind)) (refused_token as_) (refused_token bs)
        (subst (λ (k : TokenKind). AlikeRefusals (by_bad a (bad_kind a.kind)) (by_bad b (bad_kind k))) (sym p.0.is.kind) (by-bad-alike a b (bad_kind a.kind) p.0))
        (refused-token-alike as_ bs p.1)

    pub refused-ignored-alike : (as_ bs : List PlainToken) → AreGiven as_ bs → AlikeRefusals (refused_ignored as_) (refused_ignored bs)
    refused-ignored-alike [] [] p = tt
    refused-ignored-alike [] (b ∷ bs) p = absurd p
    refused-ignored-alike (a ∷ as_) [] p = absurd p
    refused-ignored-alike (a ∷ as_) (b ∷ bs) p =
        choice-alike AlikeRefusals (is_open_comment a.kind) (is_open_comment b.kind) (Some (refusal_at (bad_token OpenComment) a)) (refused_ignored as_)
        (Some (refusal_at (bad_token OpenComment) b)) (refused_ignored bs) (ap is_open_comment p.0.is.kind)
        (refusal-moves (bad_token OpenComment) a b p.0.is.file p.0.is.span, p.0.outer) (refused-ignored-alike as_ bs p.1)

  -- ---- readings

  map-append : {X Y : Type 0} (f : X → Y) (as_ bs : List X) → map f (as_ ++ bs) ≡ map f as_ ++ map f bs
  map-append f [] bs = refl
  map-append f (a ∷ as_) bs = ap (λ l. f a ∷ l) (map-append f as_ bs)

  named-append : (as_ bs : List PlainToken) → AllByRecursion (IsNamed r) as_ → AllByRecursion (IsNamed r) bs → AllByRecursion (IsNamed r) (as_ ++ bs)
  named-append [] bs p q = q
  named-append (a ∷ as_) bs p q = (p.0, named-append as_ bs p.1 q)

  module _ (May : Type 0) (a b : Reading) (alike : AlikeReadings r a b) where
    emitted-alike : (as_ bs : List PlainToken) (f g : Option Refusal) (x y : Replaced) → AlikeRefusals f g → AlikeReplaced r May Outer outer-place a.table b.table alike.tables true x y → AlikeFlows r (emitted a as_ f x) (emitted b bs g y)
    emitted-alike as_ bs (Some v) (Some w) (fine xs) (fine ys) p q = p.0
    emitted-alike as_ bs None None (fine xs) (fine ys) p q = record {
      tables = alike.tables;
      tokens =
          ap (λ (l : List PlainToken). l ++ map (λ item. item.token) ys) alike.tokens
          ∙ ap (λ (l : List PlainToken). map (renamed_token r) a.tokens ++ l) (all-exact r May a.table xs ys q)
          ∙ sym (map-append (renamed_token r) a.tokens (map (λ item. item.token) xs));
      names = named-append a.tokens (map (λ item. item.token) xs) alike.names (all-named r May a.table xs ys q);
    }
    emitted-alike as_ bs None (Some w) x y p q = absurd p
    emitted-alike as_ bs (Some v) None x y p q = absurd p
    emitted-alike as_ bs None None (fine xs) (bad_call n) p q = absurd q
    emitted-alike as_ bs None None (bad_call m) (fine ys) p q = absurd q
    emitted-alike as_ bs None None (bad_call m) (bad_call n) p q =
        earlier-alike None None (refusal_at bad_call_kind m) (refusal_at bad_call_kind n) p (refusal-moves bad_call_kind m n q.is.file q.is.span) (q.outer refl)
    emitted-alike as_ bs (Some v) (Some w) (fine xs) (bad_call n) p q = absurd q
    emitted-alike as_ bs (Some v) (Some w) (bad_call m) (fine ys) p q = absurd q
    emitted-alike as_ bs (Some v) (Some w) (bad_call m) (bad_call n) p q =
        earlier-alike (Some v) (Some w) (refusal_at bad_call_kind m) (refusal_at bad_call_kind n) p (refusal-moves bad_call_kind m n q.is.file q.is.span) (q.outer refl)

    pub run-alike : (as_ bs : List PlainToken) → AreGiven May a.table b.table alike.tables as_ bs → AlikeFlows r (read_run a as_) (read_run b bs)
    run-alike as_ bs p =
        emitted-alike as_ bs (refused_token as_) (refused_token bs) (replaced a.table as_) (replaced b.table bs)
        (refused-token-alike May a.table b.table alike.tables as_ bs p) (replaced-alike r May Outer outer-place a.table b.table alike.tables as_ bs p)
