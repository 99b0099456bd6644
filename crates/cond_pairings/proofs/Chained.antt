-- Declarations that are visible, one behind the other.
use Rattle.std.proofs.Common.{◌≡◌, ℕ, ◌<◌, ◌≤◌, List, [], ◌∷◌, ◌++◌, map, length, take, get_or, sym, ap, ◌∙◌, arith, append_assoc, Bor}
use Rattle.std.specs.Prelude.{Option, Some, None}
use Rattle.std.proofs.lemmas.List.{length-take, map-append}
use Rattle.cond_bindings.specs.declared.unit_bindings.Declaration.{Declaration}
use Rattle.cond_bindings.specs.Bindings.{Visible, visible}
use Rattle.cond_bindings.specs.NameSteps.{as_visible}
use Rattle.cond_bindings.proofs.PlaceLemmas.{visible_none, visible_past, visible_in_front}
use Rattle.cond_pairings.proofs.Walks.{append_none}

abbrev pub seen_as : Bor Declaration → Visible
seen_as d = as_visible d.now

module _ (ds : List Declaration) (behind : ℕ) (next : Option ℕ) (xs : List (Bor Declaration)) (whole : List Visible) (so_far : map seen_as xs ++ visible (take behind ds) next ≡ whole) where
  none_behind : visible (take behind ds) next ≡ [] → map seen_as xs ≡ whole
  none_behind none = sym (append_none (map seen_as xs)) ∙ (ap (λ vs. map seen_as xs ++ vs) (sym none) ∙ so_far)

  pub ended : next ≡ None → map seen_as xs ≡ whole
  ended is = none_behind (ap (visible (take behind ds)) is ∙ visible_none (take behind ds))

  pub past : (place : ℕ) → next ≡ Some place → behind ≤ place → map seen_as xs ≡ whole
  past place is le = none_behind (ap (visible (take behind ds)) is ∙ visible_past (take behind ds) place (omega (arith, length-take behind ds)))

  pub gone_on : (place : ℕ) (d : Declaration) (b : Bor Declaration) → next ≡ Some place → place < behind → behind ≤ length ds → d ≡ get_or ds place d → b.now ≡ d
      → map seen_as (xs ++ b ∷ []) ++ visible (take place ds) d.hides ≡ whole
  gone_on place d b is lt le at same =
      ap (λ vs. vs ++ visible (take place ds) d.hides) (map-append seen_as xs (b ∷ []))
      ∙ (append_assoc (map seen_as xs) (seen_as b ∷ []) (visible (take place ds) d.hides)
      ∙ (ap (λ x. map seen_as xs ++ as_visible x ∷ visible (take place ds) d.hides) same
      ∙ (ap (λ vs. map seen_as xs ++ vs) (sym (ap (visible (take behind ds)) is ∙ visible_in_front ds behind place d lt le at)) ∙ so_far)))
