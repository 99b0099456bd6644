-- The names of open blocks, the latest first.
use Rattle.std.proofs.Common.{◌≡◌, ℕ, ◌<◌, ◌+◌, Bool, List, [], ◌∷◌, ◌++◌, length, map, reverse, take, get_or, sym, ap, ◌∙◌}
use Rattle.std.specs.Prelude.{Some, if◌then◌else◌}
use Rattle.std.specs.Str.{bytes_eq}
use Rattle.std.proofs.lemmas.List.{map-append, reverse-append, take_more}
use Rattle.cond_bindings.specs.declared.locals.LocalName.{LocalName}
use Rattle.cond_bindings.specs.Places.{LocalPlace, latest_first, local_place, innermost_in}

latest_push : (locals : List LocalName) (l : LocalName) → latest_first (locals ++ l ∷ []) ≡ local_place l ∷ latest_first locals
latest_push locals l = ap reverse (map-append local_place locals (l ∷ [])) ∙ reverse-append (map local_place locals) (local_place l ∷ [])

latest_more : (locals : List LocalName) (i k : ℕ) (l : LocalName) → k ≡ i + 1 → i < length locals → l ≡ get_or locals i l → latest_first (take k locals) ≡ local_place l ∷ latest_first (take i locals)
latest_more locals i k l is lt at =
    ap (λ (n : ℕ). latest_first (take n locals)) is
    ∙ ap (λ (ls : List LocalName). latest_first ls) (take_more locals i l lt ∙ ap (λ (x : LocalName). take i locals ++ x ∷ []) (sym at))
    ∙ latest_push (take i locals) l

-- what is found in front of one more name
pub innermost_more : (locals : List LocalName) (i k : ℕ) (l : LocalName) (name : List ℕ) (b : Bool) → k ≡ i + 1 → i < length locals → l ≡ get_or locals i l → bytes_eq name l.name.items ≡ b → innermost_in (latest_first (take k locals)) name ≡ (if b then Some l.place else innermost_in (latest_first (take i locals)) name)
innermost_more locals i k l name b is lt at same =
    ap (λ (ls : List LocalPlace). innermost_in ls name) (latest_more locals i k l is lt at)
    ∙ ap (λ (t : Bool). if t then Some l.place else innermost_in (latest_first (take i locals)) name) same
