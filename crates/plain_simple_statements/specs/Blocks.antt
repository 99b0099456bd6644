-- The items of a block, as functions that put them before those that follow.
use Rattle.std.proofs.Common.{◌≡◌, List, [], ◌∷◌, ◌++◌, map, refl, ap, ◌∙◌}
use Rattle.std.proofs.Math.Path.{fun_ext}
use Rattle.core_meaning.specs.Program.{PlainItems, no_item, local}
use Rattle.std.proofs.lemmas.List.{map-append}
use Rattle.core_meaning.specs.declared.statements.Item.{Item}
use Rattle.core_meaning.specs.declared.statements.Item.TheVariants as item_kind
use Rattle.core_meaning.specs.declared.statements.Statement.{Statement}
use Rattle.core_meaning.specs.Plain.{items_from, plain_item, plain_items, plain_statement}
use Rattle.core_meaning.specs.PlainLaws.{plain_item-Statement}
use Rattle.core_meaning.specs.Declarations.{LocalItem}
use Rattle.core_meaning.specs.Statements.{before_items, one_item}

abbrev pub put : List (PlainItems → PlainItems) → PlainItems → PlainItems
put [] rest = rest
put (first ∷ others) rest = first (put others rest)

-- a local before the items that follow it
abbrev pub placed : LocalItem → PlainItems → PlainItems
placed l rest = local l.slot l.parts rest

pub put_both : (a b : List (PlainItems → PlainItems)) (rest : PlainItems) → put (a ++ b) rest ≡ put a (put b rest)
put_both [] b rest = refl
put_both (first ∷ others) b rest = ap first (put_both others b rest)

pub put_all : (a : List (PlainItems → PlainItems)) → items_from a ≡ put a no_item
put_all [] = refl
put_all (first ∷ others) = ap first (put_all others)

put_locals_before : (items : List LocalItem) (rest : PlainItems) → put (map placed items) rest ≡ before_items items rest
put_locals_before [] rest = refl
put_locals_before (l ∷ others) rest = ap (local l.slot l.parts) (put_locals_before others rest)

pub put_locals : (items : List LocalItem) → put (map placed items) ≡ before_items items
put_locals items = fun_ext (put_locals_before items)

pub put_last : (a : List (PlainItems → PlainItems)) (last : PlainItems → PlainItems) → items_from (a ++ last ∷ []) ≡ put a (last no_item)
put_last a last = put_all (a ++ last ∷ []) ∙ put_both a (last ∷ []) no_item

-- ---- items of the code

pub block_behind : (items : List Item) (all : List Item) (turns : Statement) → all ≡ items ++ item_kind.Statement turns ∷ [] → plain_items all ≡ put (map plain_item items) (one_item (plain_statement turns))
block_behind items all turns is =
    ap plain_items is
    ∙ ap items_from (map-append plain_item items (item_kind.Statement turns ∷ []))
    ∙ put_last (map plain_item items) (plain_item (item_kind.Statement turns))
    ∙ ap (λ f. put (map plain_item items) (f no_item)) (plain_item-Statement turns)
