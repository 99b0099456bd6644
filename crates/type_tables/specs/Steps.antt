-- How tables go on.
use Rattle.std.specs.Prelude.{ℕ, suc, ◌==◌, Bool, true, false, not, ◌&&◌, List, [], ◌∷◌, Some, if◌then◌else◌}
use Rattle.std.specs.Str.{bytes_eq}
use Rattle.c_types.specs.Types.{PlainType}
use Rattle.c_types.specs.Tags.{PlainMember}
use Rattle.conditional.specs.Entries.{or_later}
use Rattle.core_meaning.specs.Entities.{no_entry, with_entry, Signature}
use Rattle.type_tables.specs.Tables.{Tables, FileName, no_signature}

-- before the first unit
abbrev pub no_tables : Tables
no_tables = record {
  declared = λ n. false;
  complete = λ n. false;
  members = λ n. [];
  scalars = λ n. 0;
  named = λ n. [];
  tags = no_entry;
  names = no_entry;
  signatures = λ n. no_signature;
  functions = 0;
  locals = [];
  depth = 0;
}

-- a struct is declared by its tag, which is that of its first declaration
abbrev pub with_declared : List ℕ → ℕ → Tables → Tables
with_declared name number t = record t {
  declared = λ n. if n == number then true else t.declared n;
  named = λ n. if n == number && not (t.declared n) then name else t.named n;
  tags = with_entry t.tags name number;
}

-- a struct is completed, with its members and so many scalars
abbrev pub with_completed : ℕ → List PlainMember → ℕ → Tables → Tables
with_completed number ms scalars t = record t {
  complete = λ n. if n == number then true else t.complete n;
  members = λ n. if n == number then ms else t.members n;
  scalars = λ n. if n == number then scalars else t.scalars n;
}

-- a name of file scope: what it was first is what it is
abbrev pub with_name : List ℕ → FileName → Tables → Tables
with_name name what t = record t { names = λ other. if bytes_eq other name then or_later (t.names other) (Some what) else t.names other }

-- one more declaration of a function
abbrev pub with_signature : Signature → Tables → Tables
with_signature signature t = record t { signatures = λ n. if n == t.functions then signature else t.signatures n; functions = suc t.functions }

-- one more block is open
abbrev pub entered : Tables → Tables
entered t = record t { depth = suc t.depth }

-- one more local, in the innermost block
abbrev pub with_local : List ℕ → PlainType → Tables → Tables
with_local name ty t = record t { locals = record { name = name; ty = ty; depth = t.depth } ∷ t.locals }

-- a unit begins: structs and declarations of functions have numbers through all units
abbrev pub unit_begun : Tables → Tables
unit_begun t = record t { tags = no_entry; names = no_entry; locals = []; depth = 0 }

-- a step where a condition is true
abbrev pub where_true : Bool → (Tables → Tables) → Tables → Tables
where_true true step t = step t
where_true false step t = t
