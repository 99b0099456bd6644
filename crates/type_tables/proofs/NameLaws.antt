-- Tables go on to follow a scope where names of file scope are declared, and where a unit begins.
use Rattle.std.proofs.Common.{arith, ◌≡◌, ℕ, suc, Bool, true, false, List, [], refl, ap, subst, ◌∙◌}
use Rattle.std.specs.Prelude.{◌==◌, Option, Some, None, if◌then◌else◌}
use Rattle.std.proofs.lemmas.Bool.{ne_eqb}
use Rattle.std.specs.Str.{bytes_eq}
use Rattle.conditional.specs.Entries.{or_later}
use Rattle.core_meaning.specs.Entities.{Struct, Signature, Numbers, Scope}
use Rattle.core_meaning.specs.Entities as scopes
use Rattle.core_meaning.specs.UnitNames.{with_file_name, unit_start}
use Rattle.type_tables.specs.Tables.{Tables, FileName, Sort, object, declared_function}
use Rattle.type_tables.specs.Steps.{no_tables, with_name, with_signature}
use Rattle.type_tables.specs.Steps as step
use Rattle.type_tables.specs.Follows.{IsNumbered, SortFollows, NameFollows, SortIsThere, Follows}
use Rattle.type_tables.proofs.Options.{some_same}

-- ---- a name

either_name : (by : ℕ → ℕ) (signatures : ℕ → Signature) (b : Bool) (n : scopes.FileName) (o : FileName) (before : Option scopes.FileName) (other : Option FileName)
    → NameFollows by signatures (Some n) (Some o) → NameFollows by signatures before other → (b ≡ true → other ≡ None)
    → NameFollows by signatures (if b then Some n else before) (if b then or_later other (Some o) else other)
either_name by signatures true n o before None h i new = h
either_name by signatures true n o before (Some x) h i new = absurd (never (new refl))
  where
    never : Some x ≡ None → ⊥
    never e = cc
either_name by signatures false n o before other h i new = i

either_there : (structs : List Struct) (b : Bool) (n : scopes.FileName) (before : Option scopes.FileName) → SortIsThere structs n.sort
    → ((x : scopes.FileName) → before ≡ Some x → SortIsThere structs x.sort) → (x : scopes.FileName) → (if b then Some n else before) ≡ Some x → SortIsThere structs x.sort
either_there structs true n before h i x e = subst (λ (y : scopes.FileName). SortIsThere structs y.sort) (some_same n x e) h
either_there structs false n before h i x e = i x e

either_numbered : (functions : ℕ) (b : Bool) (o : FileName) (before : Option FileName) → IsNumbered functions o.sort → ((x : FileName) → before ≡ Some x → IsNumbered functions x.sort)
    → (x : FileName) → (if b then or_later before (Some o) else before) ≡ Some x → IsNumbered functions x.sort
either_numbered functions true o None h i x e = subst (λ (y : FileName). IsNumbered functions y.sort) (some_same o x e) h
either_numbered functions true o (Some y) h i x e = i x e
either_numbered functions false o before h i x e = i x e

pub name_declared : (t : Tables) (scope : Scope) (f : Follows t scope) (name : List ℕ) (n : scopes.FileName) (o : FileName) → NameFollows f.by t.signatures (Some n) (Some o)
    → SortIsThere scope.structs n.sort → IsNumbered t.functions o.sort → ((other : List ℕ) → bytes_eq other name ≡ true → t.names other ≡ None)
    → Follows (with_name name o t) (with_file_name scope name n)
name_declared t scope f name n o h there is_numbered new = record {
  by = f.by;
  apart = f.apart;
  structs = λ m s e. let is = f.structs m s e in record { declared = is.declared; complete = is.complete; members = is.members; numbers = is.numbers; there = is.there; scalars = is.scalars; none_before = is.none_before; named = is.named };
  tags = f.tags;
  tagged = f.tagged;
  names = λ other. either_name f.by t.signatures (bytes_eq other name) n o (scope.file_names other) (t.names other) h (f.names other) (new other);
  names_there = λ other x e. either_there scope.structs (bytes_eq other name) n (scope.file_names other) there (f.names_there other) x e;
  names_numbered = λ other x e. either_numbered t.functions (bytes_eq other name) o (t.names other) is_numbered (f.names_numbered other) x e;
  locals = f.locals;
  locals_there = f.locals_there;
  within = f.within;
  completes = f.completes;
  uncounted = f.uncounted;
}

-- structs keep their numbers
pub name_by : (t : Tables) (scope : Scope) (f : Follows t scope) (name : List ℕ) (n : scopes.FileName) (o : FileName) (h : NameFollows f.by t.signatures (Some n) (Some o))
    (there : SortIsThere scope.structs n.sort) (is_numbered : IsNumbered t.functions o.sort) (new : (other : List ℕ) → bytes_eq other name ≡ true → t.names other ≡ None)
    → (name_declared t scope f name n o h there is_numbered new).by ≡ f.by
unfolding name_declared
name_by t scope f name n o h there is_numbered new = refl

-- ---- a declaration of a function, which no name stands for yet

sort_still : (by : ℕ → ℕ) (signatures : ℕ → Signature) (functions : ℕ) (signature : Signature) (sort : scopes.Sort) (o : Sort) → IsNumbered functions o
    → SortFollows by signatures sort o → SortFollows by (λ n. if n == functions then signature else signatures n) sort o
sort_still by signatures functions signature (scopes.variable ty) (object other) h i = i
sort_still by signatures functions signature (scopes.variable ty) (declared_function other) h i = i
sort_still by signatures functions signature (scopes.function f) (object other) h i = i
sort_still by signatures functions signature (scopes.function f) (declared_function other) h i =
    ap (λ b. if b then signature else signatures other) (ne_eqb other functions (λ e. let same : other ≡ functions = e in omega (arith, h, same))) ∙ i

name_still : (by : ℕ → ℕ) (signatures : ℕ → Signature) (functions : ℕ) (signature : Signature) (n : Option scopes.FileName) (o : Option FileName)
    → ((x : FileName) → o ≡ Some x → IsNumbered functions x.sort) → NameFollows by signatures n o → NameFollows by (λ n. if n == functions then signature else signatures n) n o
name_still by signatures functions signature None None h i = i
name_still by signatures functions signature None (Some o) h i = i
name_still by signatures functions signature (Some n) None h i = i
name_still by signatures functions signature (Some n) (Some o) h i = (sort_still by signatures functions signature n.sort o.sort (h o refl) i.0, i.1)

sort_numbered : (functions : ℕ) (o : Sort) → IsNumbered functions o → IsNumbered (suc functions) o
sort_numbered functions (object ty) h = tt
sort_numbered functions (declared_function number) h = omega (arith, h)

pub function_declared : (t : Tables) (scope : Scope) (f : Follows t scope) (signature : Signature) → Follows (with_signature signature t) scope
function_declared t scope f signature = record {
  by = f.by;
  apart = f.apart;
  structs = λ m s e. let is = f.structs m s e in record { declared = is.declared; complete = is.complete; members = is.members; numbers = is.numbers; there = is.there; scalars = is.scalars; none_before = is.none_before; named = is.named };
  tags = f.tags;
  tagged = f.tagged;
  names = λ name. name_still f.by t.signatures t.functions signature (scope.file_names name) (t.names name) (f.names_numbered name) (f.names name);
  names_there = f.names_there;
  names_numbered = λ name n e. sort_numbered t.functions n.sort (f.names_numbered name n e);
  locals = f.locals;
  locals_there = f.locals_there;
  within = f.within;
  completes = f.completes;
  uncounted = f.uncounted;
}

pub function_by : (t : Tables) (scope : Scope) (f : Follows t scope) (signature : Signature) → (function_declared t scope f signature).by ≡ f.by
unfolding function_declared
function_by t scope f signature = refl

-- ---- a unit, behind the structs of the units before it

pub unit_begun : (t : Tables) (scope : Scope) → Follows t scope → (numbers : Numbers)
    → Follows (step.unit_begun t) (unit_start scope.structs numbers).scope
unit_begun t scope f numbers = record {
  by = f.by;
  apart = f.apart;
  structs = λ m s e. let is = f.structs m s e in record { declared = is.declared; complete = is.complete; members = is.members; numbers = is.numbers; there = is.there; scalars = is.scalars; none_before = is.none_before; named = is.named };
  tags = λ name. refl;
  tagged = λ name n e. absurd cc;
  names = λ name. tt;
  names_there = λ name n e. absurd cc;
  names_numbered = λ name n e. absurd cc;
  locals = λ name. tt;
  locals_there = λ name l e. absurd cc;
  within = tt;
  completes = f.completes;
  uncounted = f.uncounted;
}

-- before the first unit
pub nothing_begun : (numbers : Numbers) → Follows no_tables (unit_start [] numbers).scope
nothing_begun numbers = record {
  by = λ n. n;
  apart = record { apart = λ m n. refl };
  structs = λ m s e. absurd cc;
  tags = λ name. refl;
  tagged = λ name n e. absurd cc;
  names = λ name. tt;
  names_there = λ name n e. absurd cc;
  names_numbered = λ name n e. absurd cc;
  locals = λ name. tt;
  locals_there = λ name l e. absurd cc;
  within = tt;
  completes = λ n h. refl;
  uncounted = λ n h. refl;
}
