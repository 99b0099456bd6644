-- Lists one level below, but for sites and places.
use Rattle.std.specs.Prelude.{ℕ, zero, suc, Bool, true, false, List, [], ◌∷◌, ◌++◌, map, Option, Some, None}
use Rattle.std.specs.Option.{option_map}
use Rattle.c_text.specs.Macros as spec
use Rattle.cond_bodies.specs.Cores.{cores}

-- how the lists of bodies and arguments are replaced, where so many levels are left
abbrev pub below : spec.Table → ℕ → spec.Deeper
below table zero = λ names list. None
below table (suc left) = spec.level table left

abbrev pub cores_of : Option (List spec.Item) → Option (List spec.Item)
cores_of items = option_map cores items

abbrev pub all_cores_of : Option (List (List spec.Item)) → Option (List (List spec.Item))
all_cores_of lists = option_map (map cores) lists

-- no lists where one is refused
abbrev pub unless_any : Bool → List (List spec.Item) → Option (List (List spec.Item))
unless_any true lists = None
unless_any false lists = Some lists

-- arguments that are replaced already, before others
abbrev pub behind_lists : Option (List (List spec.Item)) → Option (List (List spec.Item)) → Option (List (List spec.Item))
behind_lists None others = None
behind_lists (Some lists) None = None
behind_lists (Some lists) (Some others) = Some (lists ++ others)

abbrev pub one_list : Option (List spec.Item) → Option (List (List spec.Item))
one_list None = None
one_list (Some items) = Some (items ∷ [])
