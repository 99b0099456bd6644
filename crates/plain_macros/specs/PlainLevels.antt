-- What stands for a name in a list of one level.
use Rattle.std.specs.Prelude.{ℕ, zero, suc, List, map, None}
use Rattle.c_text.specs.Token.{plain_token}
use Rattle.c_text.specs.Macros as spec
use Rattle.c_text.specs.Macros.{Deeper, Treatment, stays, is_feature, is_object, is_call}
use Rattle.plain_macros.specs.PlainItems.{plain_item, item_token}
use Rattle.plain_macros.specs.PlainTables.{table_of}
use Rattle.plain_macros.specs.declared.levels.Level.{Level}
use Rattle.plain_macros.specs.declared.levels.Kind.{Kind}
use Rattle.plain_macros.specs.declared.levels.Kind.TheVariants.{Stays, Feature, Object, Call}

abbrev pub plain_kind : Kind → Treatment
plain_kind (Stays item) = stays (plain_item item)
plain_kind (Feature one) = is_feature (plain_token one.now)
plain_kind (Object body) = is_object (map plain_token body.now)
plain_kind (Call params body) = is_call (map (λ n. n.items) params.now) (map plain_token body.now)

-- how the lists of bodies and arguments are replaced, where so many levels are left
abbrev pub below : spec.Table → ℕ → Deeper
below table zero = λ names list. None
below table (suc left) = spec.level table left

abbrev pub macros_of : Level → spec.Table
macros_of level = table_of level.table.now

abbrev pub active_in : Level → List (List ℕ)
active_in level = map (λ name. (item_token name).text) level.active.now

abbrev pub deeper_in : Level → Deeper
deeper_in level = below (table_of level.table.now) level.left
