-- Where alternatives of a type are refused, one after the other.
use Rattle.std.proofs.Common.{◌≡◌, ℕ, ◌+◌, ◌<◌, ◌≤◌, Bool, true, false, ◌||◌, ◌&&◌, List, [], ◌∷◌, drop, length, get_or, IsTrue, refl, sym, ap, ◌∙◌}
use Rattle.std.proofs.lemmas.List.{drop_all}
use Rattle.cond_formula.specs.Conditions.{condition_of, value}
use Rattle.c_types.specs.Types.{PlainType}
use Rattle.conditional.specs.declared.entries.Guarded.{Guarded}
use Rattle.conditional.specs.Entries.{Entry, entries_of, some_holds, Carry, Stands}
use Rattle.conditional.proofs.ListLaws.{item_of}
use Rattle.cond_statements.specs.Results.{some_refused}

module _ {T : Type 0} (form : T → PlainType) (refuses : PlainType → Bool) (on : ℕ → Bool) where
  or_or : (a b c : Bool) → ((a || b) || c) ≡ (a || (b || c))
  or_or true b c = refl
  or_or false b c = refl

  -- what the rest refuses is still to come
  abbrev pub SomeSoFar : List (Guarded T) → ℕ → Bool → Type 0
  SomeSoFar items i so_far = (so_far || some_refused refuses on (entries_of form (drop i items))) ≡ some_refused refuses on (entries_of form items)

  pub some_goes_on : (items : List (Guarded T)) (x : Guarded T) (i : ℕ) (so_far here now : Bool) → i < length items → x ≡ get_or items i x → now ≡ (so_far || here) → here ≡ (value on (condition_of x.when) && refuses (form x.what))
      → (so_far || some_refused refuses on (entries_of form (drop i items))) ≡ some_refused refuses on (entries_of form items)
      → (now || some_refused refuses on (entries_of form (drop (i + 1) items))) ≡ some_refused refuses on (entries_of form items)
  some_goes_on items x i so_far here now within is grown found before =
      ap (λ b. b || some_refused refuses on (entries_of form (drop (i + 1) items))) grown
      ∙ or_or so_far here (some_refused refuses on (entries_of form (drop (i + 1) items)))
      ∙ ap (λ b. so_far || (b || some_refused refuses on (entries_of form (drop (i + 1) items)))) found
      ∙ ap (λ (l : List (Guarded T)). so_far || some_refused refuses on (entries_of form l)) (sym (item_of items x i within is))
      ∙ before

  or_false : (b : Bool) → b ≡ (b || false)
  or_false true = refl
  or_false false = refl

  carried : (v : PlainType) (b others : Bool) (w : PlainType) (later : Bool) → (IsTrue b → w ≡ v) → later ≡ (others && refuses v) → ((b && refuses w) || later) ≡ ((b || others) && refuses v)
  carried v true others w later h is = ap (λ t. refuses t || later) (h refl) ∙ ap (λ l. refuses v || l) is ∙ absorbed (refuses v) others
    where
      absorbed : (r o : Bool) → (r || (o && r)) ≡ r
      absorbed true o = refl
      absorbed false true = refl
      absorbed false false = refl
  carried v false others w later h is = is

  all_carried : (v : PlainType) (es : List (Entry PlainType)) → Carry on v es → some_refused refuses on es ≡ (some_holds on es && refuses v)
  all_carried v [] h = refl
  all_carried v (e ∷ rest) h = carried v (value on e.when) (some_holds on rest) e.what (some_refused refuses on rest) h.0 (all_carried v rest h.1)

  pub some_end : (items : List (Guarded T)) (i : ℕ) (so_far : Bool) (v : PlainType) → length items ≤ i → (so_far || some_refused refuses on (entries_of form (drop i items))) ≡ some_refused refuses on (entries_of form items)
      → Stands on v (entries_of form items) → so_far ≡ refuses v
  some_end items i so_far v past before stands =
      or_false so_far
      ∙ ap (λ (l : List (Guarded T)). so_far || some_refused refuses on (entries_of form l)) (sym (drop_all i items past))
      ∙ before ∙ all_carried v (entries_of form items) stands.carry ∙ ap (λ b. b && refuses v) stands.held
