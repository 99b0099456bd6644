-- The names that are on, and how they are listed.
use Rattle.std.proofs.Common.{◌≡◌, ℕ, ◌+◌, ◌<◌, ◌≤◌, ◌==◌, Bool, true, false, length, get_or, drop, List, [], ◌∷◌, ◌++◌, map, String, Global, Result, Ok, Err, IfOk, codes, refl, sym, ap, ◌∙◌}
use Rattle.std.specs.String.{string_bytes}
use Rattle.std.specs.declared.alloc.AllocError.{AllocError}
use Rattle.std.specs.List.{join_by, flat_map}
use Rattle.std.proofs.lemmas.List.{drop_more, drop_all, map-append, append_assoc, append-nil}
use Rattle.command_projects.specs.Names.{listed}
use Rattle.project_file.specs.Projects.{names_from}

module _ (on : ℕ → Bool) where
  -- the names that are on from this one on
  pub from_here : (features : List (String Global)) (i : ℕ) (feature : String Global) → i < length features → feature ≡ get_or features i feature → names_from i on (map string_bytes (drop i features)) ≡ names_from i on (string_bytes feature ∷ map string_bytes (drop (i + 1) features))
  from_here features i feature h is =
      ap (λ xs. names_from i on (map string_bytes xs)) (drop_more features i feature h ∙ ap (λ x. x ∷ drop (i + 1) features) (sym is))

  with_first : (i : ℕ) (name : List ℕ) (rest : List (List ℕ)) → on i ≡ true → names_from i on (name ∷ rest) ≡ name ∷ names_from (i + 1) on rest
  with_first i name rest h = rw h refl

  without_first : (i : ℕ) (name : List ℕ) (rest : List (List ℕ)) → on i ≡ false → names_from i on (name ∷ rest) ≡ names_from (i + 1) on rest
  without_first i name rest h = rw h refl

  pub one_more : (names features : List (String Global)) (i : ℕ) (feature copy : String Global) → i < length features → feature ≡ get_or features i feature → on i ≡ true → string_bytes copy ≡ string_bytes feature → map string_bytes (names ++ copy ∷ []) ++ names_from (i + 1) on (map string_bytes (drop (i + 1) features)) ≡ map string_bytes names ++ names_from i on (map string_bytes (drop i features))
  one_more names features i feature copy h is is_on same =
      let rest = map string_bytes (drop (i + 1) features) in
      ap (λ xs. xs ++ names_from (i + 1) on rest) (map-append string_bytes names (copy ∷ []))
      ∙ (append_assoc (map string_bytes names) (string_bytes copy ∷ []) (names_from (i + 1) on rest)
      ∙ ap (λ xs. map string_bytes names ++ xs)
      (ap (λ x. x ∷ names_from (i + 1) on rest) same
      ∙ sym (from_here features i feature h is ∙ with_first i (string_bytes feature) rest is_on)))

  pub none_more : (names features : List (String Global)) (i : ℕ) (feature : String Global) → i < length features → feature ≡ get_or features i feature → on i ≡ false → map string_bytes names ++ names_from (i + 1) on (map string_bytes (drop (i + 1) features)) ≡ map string_bytes names ++ names_from i on (map string_bytes (drop i features))
  none_more names features i feature h is is_off =
      ap (λ xs. map string_bytes names ++ xs)
      (sym (from_here features i feature h is ∙ without_first i (string_bytes feature) (map string_bytes (drop (i + 1) features)) is_off))

further_names : (separator : List ℕ) (names : List (String Global)) → flat_map (λ name. separator ++ string_bytes name) names ≡ flat_map (λ name. separator ++ name) (map string_bytes names)
further_names separator [] = refl
further_names separator (name ∷ names) = ap (λ xs. (separator ++ string_bytes name) ++ xs) (further_names separator names)

pub joined_names : (names : List (String Global)) → (length names == 0) ≡ false → join_by string_bytes (codes ",") names ≡ listed (map string_bytes names)
joined_names [] h = cc
joined_names (name ∷ names) h = ap (λ xs. string_bytes name ++ xs) (further_names (codes ",") names)

pub joined_ok : (names : List (String Global)) (r : Result (String Global) AllocError) → (length names == 0) ≡ false → IfOk r (λ text. string_bytes text ≡ join_by string_bytes (codes ",") names) → IfOk r (λ text. string_bytes text ≡ listed (map string_bytes names))
joined_ok names (Ok text) some is = is ∙ joined_names names some
joined_ok names (Err e) some is = tt

-- no names are left at the end
pub at_end : (on : ℕ → Bool) (names features : List (String Global)) (i : ℕ) (all : List (List ℕ)) → length features ≤ i → map string_bytes names ++ names_from i on (map string_bytes (drop i features)) ≡ all → map string_bytes names ≡ all
at_end on names features i all h so_far =
    sym (append-nil (map string_bytes names)) ∙ (ap (λ rest. map string_bytes names ++ names_from i on (map string_bytes rest)) (sym (drop_all i features h)) ∙ so_far)
