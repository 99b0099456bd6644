-- The names that a unit leaves are those that it declares.
use Rattle.std.proofs.Common.{◌≡◌, ℕ, zero, suc, ◌+◌, ◌<◌, Bool, true, false, List, [], ◌∷◌, ◌++◌, map, take, length, get_or, refl, sym, ap, ap₂, ◌∙◌}
use Rattle.std.specs.Prelude.{Option, Some, None, option_map, slice_get, if◌then◌else◌}
use Rattle.std.specs.List.{AllZip}
use Rattle.std.specs.Str.{bytes_eq}
use Rattle.conditional.specs.Entries.{seen, first, listed}
use Rattle.type_tables.specs.Tables.{FileName}
use Rattle.type_tables.specs.Forms.{file_name_form}
use Rattle.type_tables.specs.Seen.{meaning_of, name_in}
use Rattle.type_tables.specs.declared.entries.CondName.{CondName}
use Rattle.std.proofs.lemmas.List.{take_more}
use Rattle.cond_types.specs.Leaving.{name_behind, IsLeftAs}
use Rattle.cond_types.proofs.LeftUnits.{zip_last}

pub first_map : {A B : Type 0} (f : A → B) (xs : List A) → first (map f xs) ≡ option_map f (first xs)
first_map f [] = refl
first_map f (x ∷ xs) = refl

module _ (earlier : ℕ) (on : ℕ → Bool) (name : List ℕ) where
  chosen : (b : Bool) (m : Option FileName) → (if b then option_map (name_behind earlier) m else None) ≡ option_map (name_behind earlier) (if b then m else None)
  chosen true m = refl
  chosen false m = refl

  left_at : (declared left : List CondName) (place : ℕ) → AllZip (IsLeftAs earlier) declared left
      → meaning_of on name (slice_get left place) ≡ option_map (name_behind earlier) (meaning_of on name (slice_get declared place))
  left_at [] [] place h = refl
  left_at [] (l ∷ left) place h = absurd h
  left_at (n ∷ declared) [] place h = absurd h
  left_at (n ∷ declared) (l ∷ left) zero h =
      ap₂ (λ (b : Bool) (m : Option FileName). if b then m else None) (ap (bytes_eq name) h.0.name) (h.0.meanings on)
      ∙ chosen (bytes_eq name n.name.items) (first (seen on (listed file_name_form n.meanings)))
  left_at (n ∷ declared) (l ∷ left) (suc place) h = left_at declared left place h.1

  pub left_names_seen : (declared left : List CondName) (place : Option ℕ) → AllZip (IsLeftAs earlier) declared left
      → name_in on left name place ≡ option_map (name_behind earlier) (name_in on declared name place)
  left_names_seen declared left None h = refl
  left_names_seen declared left (Some place) h = left_at declared left place h

-- one more name
pub one_more_left :
    (earlier : ℕ) (declared left all : List CondName) (i : ℕ) (n entry : CondName) → i < length declared → n ≡ get_or declared i n → AllZip (IsLeftAs earlier) (take i declared) left
    → IsLeftAs earlier n entry → all ≡ left ++ entry ∷ [] → AllZip (IsLeftAs earlier) (take (i + 1) declared) all
one_more_left earlier declared left all i n entry inside is so_far one pushed =
    let front = take_more declared i n inside ∙ ap (λ (m : CondName). take i declared ++ m ∷ []) (sym is) in
    rw (front, pushed) (zip_last (IsLeftAs earlier) (take i declared) left n entry so_far one)
