-- Lists of which there is a first element, and arguments before others.
use Rattle.std.proofs.Common.{◌≡◌, ◌<◌, ◌≤◌, ◌-◌, List, [], ◌∷◌, ◌++◌, length, get_or, take, drop, map, reverse, append_assoc, refl, sym, ap, ◌∙◌, arith}
use Rattle.std.proofs.Math.Seq.{drop-cons}
use Rattle.std.proofs.lemmas.List.{take_rest, append-nil, map-append, reverse-append, reverse-reverse}
use Rattle.core_meaning.specs.Values.{Value}
use Rattle.core_cells.specs.declared.values.Value as code
use Rattle.core_cells.specs.Forms.{plain_value}
use Rattle.interp_actions.specs.Finish.{onto}

pub first_of : {A : Type 0} (xs : List A) (x : A) → 1 ≤ length xs → x ≡ get_or xs 0 x → xs ≡ x ∷ take (length xs - 1) (drop 1 xs)
first_of xs x there same =
    drop-cons xs 0 x (omega arith)
    ∙ (ap (λ y. y ∷ drop 1 xs) (sym same) ∙ ap (λ ys. x ∷ ys) (sym (take_rest xs 1)))

pub pushed_value : (values : List code.Value) (v : code.Value) → reverse (map plain_value (values ++ v ∷ [])) ≡ plain_value v ∷ reverse (map plain_value values)
pushed_value values v =
    ap reverse (map-append plain_value values (v ∷ []))
    ∙ reverse-append (map plain_value values) (plain_value v ∷ [])

onto_reverse : (before vs : List Value) → onto before vs ≡ reverse before ++ vs
onto_reverse [] vs = refl
onto_reverse (v ∷ before) vs =
    onto_reverse before (v ∷ vs)
    ∙ (sym (append_assoc (reverse before) (v ∷ []) vs)
    ∙ ap (λ xs. xs ++ vs) (sym (reverse-append (v ∷ []) before)))

pub all_given : (values : List code.Value) → onto (reverse (map plain_value values)) [] ≡ map plain_value values
all_given values =
    onto_reverse (reverse (map plain_value values)) []
    ∙ (append-nil (reverse (reverse (map plain_value values)))
    ∙ reverse-reverse (map plain_value values))

map_reverse : (values : List code.Value) → map plain_value (reverse values) ≡ reverse (map plain_value values)
map_reverse [] = refl
map_reverse (v ∷ values) =
    ap (map plain_value) (reverse-append (v ∷ []) values)
    ∙ (map-append plain_value (reverse values) (v ∷ [])
    ∙ (ap (λ xs. xs ++ plain_value v ∷ []) (map_reverse values)
    ∙ sym (reverse-append (plain_value v ∷ []) (map plain_value values))))

pub turned_twice : (values : List code.Value) → reverse (map plain_value (reverse values)) ≡ map plain_value values
turned_twice values = ap reverse (map_reverse values) ∙ reverse-reverse (map plain_value values)

pub none_left : {A : Type 0} (xs : List A) → length xs < 1 → xs ≡ []
none_left [] h = refl
none_left (x ∷ xs) h = absurd (omega arith)
