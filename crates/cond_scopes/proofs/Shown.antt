-- The names of a declarator are shown one after the other, the latest first.
use Rattle.std.proofs.Common.{◌≡◌, ℕ, ◌+◌, ◌<◌, Bool, true, false, List, [], ◌∷◌, length, get_or, take, reverse, sym, ap, ◌∙◌, if◌then◌else◌}
use Rattle.std.proofs.lemmas.List.{take_more, reverse-append}
use Rattle.cond_formula.specs.Conditions.{conditions_of, all_true}
use Rattle.scope_readings.specs.Scopes.{Scope, shown}
use Rattle.cond_bindings.specs.Names.{PlainNames, seen, Steps}
use Rattle.cond_scopes.specs.declared.parts.Pending.{Pending}
use Rattle.cond_scopes.specs.Progress.{Hidden, showing, hidden_at}

-- of a list that begins so the last
pub last_first : {A : Type 0} → (items : List A) (left : ℕ) (item : A) → left < length items → item ≡ get_or items left item
    → reverse (take (left + 1) items) ≡ item ∷ reverse (take left items)
last_first items left item within is =
    ap reverse (take_more items left item within) ∙
    (reverse-append (take left items) (get_or items left item ∷ []) ∙ ap (λ i. i ∷ reverse (take left items)) (sym is))

module _ (on : ℕ → Bool) (coming : List ℕ) (scope : Scope) (old new : PlainNames) where
  -- what names are shown behind these, by whether a name is there
  shown_first :
      (b : Bool) (h : Hidden) (rest : List Hidden) → Steps on b coming (shown scope h.name h.number) coming old new
      → showing scope rest (seen on coming new) ≡ showing scope (if b then h ∷ rest else rest) (seen on coming old)
  shown_first true h rest shows = ap (showing scope rest) shows
  shown_first false h rest shows = ap (showing scope rest) shows

  pub shown_one_more :
      (items : List Pending) (left : ℕ) (item : Pending) → left < length items → item ≡ get_or items left item
      → Steps on (all_true on (conditions_of item.path.items)) coming (shown scope item.name.now item.number) coming old new
      → showing scope (hidden_at on (reverse (take left items))) (seen on coming new)
      ≡ showing scope (hidden_at on (reverse (take (left + 1) items))) (seen on coming old)
  shown_one_more items left item within is shows =
      shown_first (all_true on (conditions_of item.path.items)) (record { name = item.name.now; number = item.number }) (hidden_at on (reverse (take left items))) shows ∙
      ap (λ list. showing scope (hidden_at on list) (seen on coming old)) (sym (last_first items left item within is))
