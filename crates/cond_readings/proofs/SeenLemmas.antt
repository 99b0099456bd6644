-- What is seen of lists that grow.
use Rattle.std.proofs.Common.{◌≡◌, ℕ, Bool, true, false, List, [], ◌∷◌, ◌++◌, refl, ap, sym, ◌∙◌, append-nil}
use Rattle.std.specs.Prelude.{if◌then◌else◌, not, ◌&&◌}
use Rattle.std.proofs.lemmas.List.{append_assoc}
use Rattle.cond_formula.specs.Conditions.{value}
use Rattle.c_text.specs.Token.{PlainToken}
use Rattle.conditional.specs.Entries.{Entry, seen, under}

seen-one : {P : Type 0} (b : Bool) (what : P) (rest more : List P) → (if b then what ∷ (rest ++ more) else rest ++ more) ≡ (if b then what ∷ rest else rest) ++ more
seen-one true what rest more = refl
seen-one false what rest more = refl

pub seen-append : {P : Type 0} (features : ℕ → Bool) (xs ys : List (Entry P)) → seen features (xs ++ ys) ≡ seen features xs ++ seen features ys
seen-append features [] ys = refl
seen-append features (x ∷ xs) ys =
    ap (λ zs. if value features x.when then x.what ∷ zs else zs) (seen-append features xs ys)
    ∙ seen-one (value features x.when) x.what (seen features xs) (seen features ys)

-- one entry, under a condition more
pub seen-under : {P : Type 0} (features : ℕ → Bool) (h w k : Bool) (what : P) → k ≡ (h && w) → (if k then what ∷ [] else []) ≡ under h (if w then what ∷ [] else [])
seen-under features true w k what e = ap (λ (b : Bool). if b then what ∷ [] else []) e
seen-under features false w k what e = ap (λ (b : Bool). if b then what ∷ [] else []) e

pub under-append : {P : Type 0} (h : Bool) (xs ys : List P) → under h (xs ++ ys) ≡ under h xs ++ under h ys
under-append true xs ys = refl
under-append false xs ys = refl

-- so many entries, and one more
pub pushed-one : {P : Type 0} (features : ℕ → Bool) (h : Bool) (old mid new : List P) (before : List (Entry P)) (entry : Entry P) → mid ≡ old ++ under h (seen features before) → new ≡ mid ++ under h (seen features (entry ∷ [])) → new ≡ old ++ under h (seen features (before ++ entry ∷ []))
pushed-one features h old mid new before entry so_far one =
    one ∙ ap (λ xs. xs ++ under h (seen features (entry ∷ []))) so_far
    ∙ append_assoc old (under h (seen features before)) (under h (seen features (entry ∷ [])))
    ∙ ap (λ xs. old ++ xs) (sym (under-append h (seen features before) (seen features (entry ∷ []))))
    ∙ ap (λ xs. old ++ under h xs) (sym (seen-append features before (entry ∷ [])))

-- a token that is one of two, each where the other isn't
pub seen-either : {P : Type 0} (d u : Bool) (one other : P) (before : List P) → u ≡ not d → (before ++ (if d then one ∷ [] else [])) ++ (if u then other ∷ [] else []) ≡ before ++ (if d then one else other) ∷ []
seen-either true u one other before e = ap (λ (b : Bool). (before ++ one ∷ []) ++ (if b then other ∷ [] else [])) e ∙ append-nil (before ++ one ∷ [])
seen-either false u one other before e = ap (λ (b : Bool). (before ++ []) ++ (if b then other ∷ [] else [])) e ∙ ap (λ xs. xs ++ other ∷ []) (append-nil before)

pub under-nothing : (h : Bool) → under {P = PlainToken} h [] ≡ []
under-nothing true = refl
under-nothing false = refl

choice : {P : Type 0} (t : Bool → P) (d : Bool) → (if d then t true else t false) ≡ t d
choice t true = refl
choice t false = refl

-- two entries more, of which one is present
pub pushed-either : {P : Type 0} (features : ℕ → Bool) (t : Bool → P) (d : Bool) (old mid new : List (Entry P)) (one other : Entry P) → mid ≡ old ++ one ∷ [] → new ≡ mid ++ other ∷ [] → value features one.when ≡ d → value features other.when ≡ not d → one.what ≡ t true → other.what ≡ t false → seen features new ≡ seen features old ++ t d ∷ []
pushed-either features t d old mid new one other mid_is new_is one_when other_when one_is other_is =
    ap (λ xs. seen features xs) new_is
    ∙ seen-append features mid (other ∷ [])
    ∙ ap (λ xs. seen features xs ++ seen features (other ∷ [])) mid_is
    ∙ ap (λ xs. xs ++ seen features (other ∷ [])) (seen-append features old (one ∷ []))
    ∙ ap (λ (b : Bool). (seen features old ++ (if b then one.what ∷ [] else [])) ++ seen features (other ∷ [])) one_when
    ∙ seen-either d (value features other.when) one.what other.what (seen features old) other_when
    ∙ ap (λ x. seen features old ++ x ∷ []) (ap (λ x. if d then x else other.what) one_is ∙ ap (λ x. if d then t true else x) other_is ∙ choice t d)
