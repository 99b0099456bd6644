-- What is visible at a place of a list.
use Rattle.std.proofs.Common.{◌≡◌, ℕ, ◌<◌, ◌≤◌, ◌+◌, true, List, [], ◌∷◌, ◌++◌, length, reverse, take, drop, get_or, refl, sym, ap, ◌∙◌, arith, length-append, append_assoc}
use Rattle.std.specs.Prelude.{Option, Some, None}
use Rattle.std.proofs.lemmas.Bool.{ltb-true, eq-eqb, ne_eqb}
use Rattle.std.proofs.lemmas.List.{reverse-append, length-reverse, take-append-drop, drop_more, get_or-take, take-take, length-take-le}
use Rattle.cond_bindings.specs.declared.unit_bindings.Declaration.{Declaration}
use Rattle.cond_bindings.specs.Bindings.{visible_from, visible}
use Rattle.cond_bindings.specs.NameSteps.{as_visible}
use Rattle.cond_bindings.specs.Places.{is_below}

-- ---- a list with the latest first

none_from : (ds : List Declaration) → visible_from ds None ≡ []
none_from [] = refl
none_from (d ∷ ds) = refl

from_kept : (d : Declaration) (ds : List Declaration) (place : Option ℕ) → is_below (length ds) place ≡ true → visible_from (d ∷ ds) place ≡ visible_from ds place
from_kept d ds None below = sym (none_from ds)
from_kept d ds (Some place) below =
    let lt = ltb-true place (length ds) below in
    rw (ne_eqb place (length ds) (λ (e : place ≡ length ds). absurd (omega (arith, lt))))

from_new : (d : Declaration) (ds : List Declaration) (place : ℕ) → place ≡ length ds → visible_from (d ∷ ds) (Some place) ≡ as_visible d ∷ visible_from ds d.hides
from_new d ds place is = rw (eq-eqb place (length ds) is)

from_behind : (latest : List Declaration) (d : Declaration) (ds : List Declaration) (place : ℕ) → place ≡ length ds → visible_from (latest ++ d ∷ ds) (Some place) ≡ as_visible d ∷ visible_from ds d.hides
from_behind [] d ds place is = from_new d ds place is
from_behind (x ∷ latest) d ds place is =
    let long = length-append latest (d ∷ ds) in
    rw (ne_eqb place (length (latest ++ d ∷ ds)) (λ (e : place ≡ length (latest ++ d ∷ ds)). absurd (omega (arith, long)))) (from_behind latest d ds place is)

past_from : (ds : List Declaration) (place : ℕ) → length ds ≤ place → visible_from ds (Some place) ≡ []
past_from [] place le = refl
past_from (d ∷ ds) place le = rw (ne_eqb place (length ds) (λ (e : place ≡ length ds). absurd (omega arith))) (past_from ds place (omega arith))

-- ---- a list with the latest last

pub visible_none : (ds : List Declaration) → visible ds None ≡ []
visible_none ds = none_from (reverse ds)

pub visible_kept : (ds : List Declaration) (d : Declaration) (place : Option ℕ) → is_below (length ds) place ≡ true → visible (ds ++ d ∷ []) place ≡ visible ds place
visible_kept ds d place below =
    ap (λ (ls : List Declaration). visible_from ls place) (reverse-append ds (d ∷ []))
    ∙ from_kept d (reverse ds) place (ap (λ n. is_below n place) (length-reverse ds) ∙ below)

pub visible_new : (ds : List Declaration) (d : Declaration) → visible (ds ++ d ∷ []) (Some (length ds)) ≡ as_visible d ∷ visible ds d.hides
visible_new ds d =
    ap (λ (ls : List Declaration). visible_from ls (Some (length ds))) (reverse-append ds (d ∷ []))
    ∙ from_new d (reverse ds) (length ds) (sym (length-reverse ds))

visible_between : (front : List Declaration) (d : Declaration) (behind : List Declaration) (place : ℕ) → place ≡ length front → visible (front ++ d ∷ behind) (Some place) ≡ as_visible d ∷ visible front d.hides
visible_between front d behind place is =
    ap (λ (ls : List Declaration). visible_from ls (Some place)) (reverse-append front (d ∷ behind) ∙ ap (λ ls. ls ++ reverse front) (reverse-append (d ∷ []) behind) ∙ append_assoc (reverse behind) (d ∷ []) (reverse front))
    ∙ from_behind (reverse behind) d (reverse front) place (is ∙ sym (length-reverse front))

visible_at : (ds : List Declaration) (place : ℕ) (d : Declaration) → place < length ds → visible ds (Some place) ≡ as_visible (get_or ds place d) ∷ visible (take place ds) (get_or ds place d).hides
visible_at ds place d lt =
    ap (λ (ls : List Declaration). visible ls (Some place)) (sym (take-append-drop place ds) ∙ ap (λ ls. take place ds ++ ls) (drop_more ds place d lt))
    ∙ visible_between (take place ds) (get_or ds place d) (drop (place + 1) ds) place (sym (length-take-le place ds (omega arith)))

-- in the front of a list
pub visible_in_front : (ds : List Declaration) (behind place : ℕ) (d : Declaration) → place < behind → behind ≤ length ds → d ≡ get_or ds place d → visible (take behind ds) (Some place) ≡ as_visible d ∷ visible (take place ds) d.hides
visible_in_front ds behind place d lt le is =
    let long = length-take-le behind ds le in
    let same : get_or (take behind ds) place d ≡ d = get_or-take behind ds place d lt ∙ sym is in
    visible_at (take behind ds) place d (omega (arith, long))
    ∙ ap (λ (x : Declaration). as_visible x ∷ visible (take place (take behind ds)) x.hides) same
    ∙ ap (λ (ls : List Declaration). as_visible d ∷ visible ls d.hides) (take-take place behind ds (omega arith))

-- behind the end of a list nothing is visible
pub visible_past : (ds : List Declaration) (place : ℕ) → length ds ≤ place → visible ds (Some place) ≡ []
visible_past ds place le = past_from (reverse ds) place (omega (arith, length-reverse ds))
