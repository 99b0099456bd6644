-- Places of names in lists.
use Rattle.std.specs.Prelude.{ℕ, List, Option, Vec}
use Rattle.std.specs.HashMap.{HashMap, get_by}
use Rattle.std.specs.Str.{bytes_eq}
use Rattle.std.specs.declared.alloc.Global.{Global}

-- what a map has for a name
abbrev pub place_of : {S : Type 0} → HashMap (Vec ℕ Global) ℕ S → List ℕ → Option ℕ
place_of table name = get_by (λ key. bytes_eq name key.items) table
