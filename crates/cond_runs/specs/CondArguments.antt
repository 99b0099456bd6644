-- Arguments of calls, and the functions that may have them.
use Rattle.std.specs.Prelude.{ℕ, Bool, true, false, not, ◌||◌, if◌then◌else◌, List, [], ◌∷◌, map, Vec}
use Rattle.std.specs.declared.alloc.Global.{Global}
use Rattle.c_text.specs.Macros as spec
use Rattle.conditional.specs.declared.entries.Guarded.{Guarded}
use Rattle.cond_bodies.specs.declared.item.Item.{Item}
use Rattle.cond_bodies.specs.CondItems.{items_at}
use Rattle.cond_bodies.specs.CondMeanings.{PlainFunction}

-- the arguments of a configuration
abbrev pub lists_at : (ℕ → Bool) → List (Vec (Guarded Item) Global) → List (List spec.Item)
lists_at on lists = map (λ list. items_at on list.items) lists

abbrev pub is_present : List spec.Item → Bool
is_present [] = false
is_present (item ∷ items) = true

-- the functions that may have these arguments
abbrev pub fit_among : List (List spec.Item) → List PlainFunction → List PlainFunction
fit_among arguments [] = []
fit_among arguments (function ∷ functions) = if spec.fits function.params arguments then function ∷ fit_among arguments functions else fit_among arguments functions

-- whether some function can't have them
abbrev pub some_unfit : List (List spec.Item) → List PlainFunction → Bool
some_unfit arguments [] = false
some_unfit arguments (function ∷ functions) = not (spec.fits function.params arguments) || some_unfit arguments functions
