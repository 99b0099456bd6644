-- The last item of a list.
use Rattle.std.proofs.Common.{◌≡◌, ℕ, zero, suc, ◌-◌, ◌<◌, List, [], ◌∷◌, length, get_or, map, refl, ap, ◌∙◌, arith}
use Rattle.c_text.specs.Macros as spec
use Rattle.c_text.specs.Macros.{is_function, meaning_of, ends_in_function}
use Rattle.plain_macros.specs.declared.items.Item.{Item}
use Rattle.plain_macros.specs.PlainItems.{plain_item}

last_is : (table : spec.Table) (items : List Item) (d : Item) (i : ℕ) → length items ≡ suc i → is_function (meaning_of table (plain_item (get_or items i d))) ≡ ends_in_function table (map plain_item items)
last_is table [] d i h = absurd (omega arith)
last_is table (a ∷ []) d zero h = refl
last_is table (a ∷ []) d (suc i) h = absurd (omega arith)
last_is table (a ∷ b ∷ items) d zero h = absurd (omega arith)
last_is table (a ∷ b ∷ items) d (suc i) h = last_is table (b ∷ items) d i (omega arith)

pub last_at : (table : spec.Table) (items : List Item) (d : Item) → 0 < length items → d ≡ get_or items (length items - 1) d → is_function (meaning_of table (plain_item d)) ≡ ends_in_function table (map plain_item items)
last_at table items d h e =
    ap (λ (x : Item). is_function (meaning_of table (plain_item x))) e ∙ last_is table items d (length items - 1) (omega arith)
