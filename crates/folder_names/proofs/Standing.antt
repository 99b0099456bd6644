-- What stands behind a folder's name.
use Rattle.std.proofs.Common.{◌≡◌, ◌≢◌, ◌↔◌, ℕ, ◌+◌, length, take, drop, eqb, IsTrue, Some, None, Bor, ◌++◌, Bool, true, false, List, ◌∷◌, sym, ap, ◌∙◌}
use Rattle.std.proofs.lemmas.Bool.Decides.{Decides-eqb}
use Rattle.std.proofs.lemmas.List.{append_cancel_left}
use Rattle.std.proofs.lemmas.Slice.Eq.{strip_prefix_is}
use Rattle.std.specs.Cmp.Lexicographic.{pointwise}
use Rattle.folder_names.specs.Folders.{IsInFolder}

pub stands_in : (name folder : List ℕ) (rest : Bor (List ℕ)) (b : Bool) → (pointwise eqb (take (length folder) name) folder ≡ true) × (rest.now ≡ drop (length folder) name) × (length rest.now + length folder ≡ length name) → IsTrue b ↔ ((more : List ℕ) × (rest.now ≡ 47 ∷ more)) → IsTrue b ↔ IsInFolder name folder
stands_in name folder rest b h e =
    let is : name ≡ folder ++ rest.now = strip_prefix_is Decides-eqb name folder (Some rest) h in (
      λ t. ((e.0 t).0, is ∙ ap (λ r. folder ++ r) (e.0 t).1),
      λ i. e.1 (i.0, append_cancel_left folder rest.now (47 ∷ i.0) (sym is ∙ i.1)),
    )

pub stands_elsewhere : (name folder : List ℕ) → pointwise eqb (take (length folder) name) folder ≡ false → IsTrue false ↔ IsInFolder name folder
stands_elsewhere name folder h =
    let no : (rest : List ℕ) → name ≢ folder ++ rest = strip_prefix_is Decides-eqb name folder None h in
    (λ t. let f : ⊥ = cc in absurd f, λ i. absurd (no (47 ∷ i.0) i.1))
