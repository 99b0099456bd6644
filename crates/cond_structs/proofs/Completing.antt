-- Structs that are completed, and where one is complete already.
use Rattle.std.proofs.Common.{◌≡◌, ℕ, ◌+◌, ◌<◌, ◌≤◌, Bool, true, false, not, ◌&&◌, ◌||◌, List, length, get_or, drop, IsTrue, refl, sym, ap, ◌∙◌}
use Rattle.std.proofs.lemmas.List.{drop_all}
use Rattle.cond_formula.specs.Conditions.{condition_of, value}
use Rattle.c_types.specs.Types.{PlainType}
use Rattle.conditional.specs.Entries.{some_holds, entries_of}
use Rattle.conditional.specs.declared.entries.Guarded.{Guarded}
use Rattle.conditional.proofs.ListLaws.{item_of}
use Rattle.type_tables.specs.Forms.{declared_type_form}
use Rattle.type_tables.specs.declared.entries.DeclaredType.{DeclaredType}
use Rattle.type_tables.specs.Tables.{Tables}
use Rattle.type_tables.specs.Steps.{where_true}

found_step : (t rest c found now all : Bool) → now ≡ (found || (t && c)) → (found || ((t || rest) && c)) ≡ all → (now || (rest && c)) ≡ all
found_step t rest c true now all n e = ap (λ x. x || (rest && c)) n ∙ e
found_step true rest true false now all n e = ap (λ x. x || (rest && true)) n ∙ e
found_step true rest false false now all n e = ap (λ x. x || (rest && false)) n ∙ none rest ∙ e
  where
    none : (b : Bool) → (b && false) ≡ false
    none true = refl
    none false = refl
found_step false rest c false now all n e = ap (λ x. x || (rest && c)) n ∙ e

left_step : (left t rest now when : Bool) (step : Tables → Tables) (old new end_ : Tables) → when ≡ (left && t) → now ≡ (left && not t) → (when ≡ false → new ≡ old) → (t ≡ true → new ≡ where_true when step old)
    → where_true (left && (t || rest)) step old ≡ end_ → where_true (now && rest) step new ≡ end_
left_step false t rest now when step old new end_ w n same go e = ap (λ b. where_true (b && rest) step new) n ∙ same w ∙ e
left_step true true rest now when step old new end_ w n same go e = ap (λ b. where_true (b && rest) step new) n ∙ go refl ∙ ap (λ b. where_true b step old) w ∙ e
left_step true false rest now when step old new end_ w n same go e = ap (λ b. where_true (b && rest) step new) n ∙ ap (where_true rest step) (same w) ∙ e

module _ (on : ℕ → Bool) (types : List (Guarded DeclaredType)) where
  pub complete_step : (ty : PlainType) (complete : PlainType → Bool) (i : ℕ) (x : Guarded DeclaredType) (found now all : Bool) → i < length types → x ≡ get_or types i x
      → (IsTrue (value on (condition_of x.when)) → declared_type_form x.what ≡ ty) → now ≡ (found || (value on (condition_of x.when) && complete (declared_type_form x.what)))
      → (found || (some_holds on (entries_of declared_type_form (drop i types)) && complete ty)) ≡ all → (now || (some_holds on (entries_of declared_type_form (drop (i + 1) types)) && complete ty)) ≡ all
  complete_step ty complete i x found now all less is carry n e =
      found_step (value on (condition_of x.when)) (some_holds on (entries_of declared_type_form (drop (i + 1) types))) (complete ty) found now all
      (n ∙ ap (λ b. found || b) (carried (value on (condition_of x.when)) carry)) (ap (λ (l : List (Guarded DeclaredType)). found || (some_holds on (entries_of declared_type_form l) && complete ty)) (sym (item_of types x i less is)) ∙ e)
    where
      carried : (t : Bool) → (IsTrue t → declared_type_form x.what ≡ ty) → (t && complete (declared_type_form x.what)) ≡ (t && complete ty)
      carried true c = ap complete (c refl)
      carried false c = refl

  pub complete_end : (c : Bool) (i : ℕ) (now all : Bool) → length types ≤ i → (now || (some_holds on (entries_of declared_type_form (drop i types)) && c)) ≡ all → now ≡ all
  complete_end c i now all past e =
      sym (or_false now) ∙ ap (λ (l : List (Guarded DeclaredType)). now || (some_holds on (entries_of declared_type_form l) && c)) (sym (drop_all i types past)) ∙ e
    where
      or_false : (b : Bool) → (b || false) ≡ b
      or_false true = refl
      or_false false = refl

  pub completing_step : (ty : PlainType) (i : ℕ) (x : Guarded DeclaredType) (left now when : Bool) (step : Tables → Tables) (old new end_ : Tables) → i < length types → x ≡ get_or types i x
      → (IsTrue (value on (condition_of x.when)) → declared_type_form x.what ≡ ty) → when ≡ (left && value on (condition_of x.when)) → now ≡ (left && not (value on (condition_of x.when)))
      → (when ≡ false → new ≡ old) → (declared_type_form x.what ≡ ty → new ≡ where_true when step old)
      → where_true (left && some_holds on (entries_of declared_type_form (drop i types))) step old ≡ end_ → where_true (now && some_holds on (entries_of declared_type_form (drop (i + 1) types))) step new ≡ end_
  completing_step ty i x left now when step old new end_ less is carry w n same go e =
      left_step left (value on (condition_of x.when)) (some_holds on (entries_of declared_type_form (drop (i + 1) types))) now when step old new end_ w n same (λ t. go (carry t))
      (ap (λ (l : List (Guarded DeclaredType)). where_true (left && some_holds on (entries_of declared_type_form l)) step old) (sym (item_of types x i less is)) ∙ e)

  pub completing_end : (i : ℕ) (left : Bool) (step : Tables → Tables) (now end_ : Tables) → length types ≤ i → where_true (left && some_holds on (entries_of declared_type_form (drop i types))) step now ≡ end_ → now ≡ end_
  completing_end i left step now end_ past e =
      none left ∙ ap (λ (l : List (Guarded DeclaredType)). where_true (left && some_holds on (entries_of declared_type_form l)) step now) (sym (drop_all i types past)) ∙ e
    where
      none : (b : Bool) → now ≡ where_true (b && false) step now
      none true = refl
      none false = refl
