-- What calls give to items: sites and places alone.
use Rattle.std.proofs.Common.{◌≡◌, true, false, List, [], ◌∷◌, map, refl, ap, ◌∙◌}
use Rattle.c_text.specs.declared.origin.Place.{Place}
use Rattle.c_text.specs.declared.origin.Place.TheVariants as place
use Rattle.c_text.specs.Token.{PlainToken}
use Rattle.c_text.specs.Macros.{Item, in_call, brought}
use Rattle.cond_bodies.specs.Cores.{core, cores}
use Rattle.cond_runs.specs.Looked.{looked}

pub in_call_twice : (p : Place) → in_call (in_call p) ≡ in_call p
in_call_twice place.Text = refl
in_call_twice place.MacroArgument = refl
in_call_twice place.MacroBody = refl

-- a call's site and place are all that it gives to an item
pub core-brought : (first last : PlainToken) (item : Item) → core (brought first last item) ≡ core item
core-brought first last item = rw (in_call_twice item.token.origin.place) refl

pub brought-core : (first last : PlainToken) (item : Item) → brought first last (core item) ≡ brought first last item
brought-core first last item = rw (in_call_twice item.token.origin.place) refl

pub cores-brought : (first last : PlainToken) (items : List Item) → cores (map (brought first last) items) ≡ cores items
cores-brought first last [] = refl
cores-brought first last (item ∷ items) = ap (λ (x : Item). x ∷ cores (map (brought first last) items)) (core-brought first last item) ∙ ap (λ (xs : List Item). core item ∷ xs) (cores-brought first last items)

pub brought-cores : (first last : PlainToken) (items : List Item) → map (brought first last) (cores items) ≡ map (brought first last) items
brought-cores first last [] = refl
brought-cores first last (item ∷ items) = ap (λ (x : Item). x ∷ map (brought first last) (cores items)) (brought-core first last item) ∙ ap (λ (xs : List Item). brought first last item ∷ xs) (brought-cores first last items)

-- items as they are looked at
pub looked_cores : (items : List Item) → map (looked false) items ≡ cores items
looked_cores [] = refl
looked_cores (item ∷ items) = ap (λ (xs : List Item). core item ∷ xs) (looked_cores items)

pub looked_exact : (items : List Item) → map (looked true) items ≡ items
looked_exact [] = refl
looked_exact (item ∷ items) = ap (λ (xs : List Item). item ∷ xs) (looked_exact items)
