-- What expressions depend on is known from tables that follow a scope.
use Rattle.std.proofs.Common.{◌≡◌, ℕ, suc, Bool, true, false, List, [], ◌∷◌, refl, sym, ap, ◌∙◌}
use Rattle.std.specs.Prelude.{map, Option, Some, None, option_map, slice_get, if◌then◌else◌}
use Rattle.std.specs.Str.{bytes_eq}
use Rattle.c_types.specs.Types.{PlainType, void, char, unsigned_char, int, unsigned_int, long, unsigned_long, pointer_to, array_of, structure}
use Rattle.c_types.specs.Tags.{PlainMember}
use Rattle.core_meaning.specs.Entities.{Struct, Signature, Scope, local_in}
use Rattle.core_meaning.specs.Entities as scopes
use Rattle.core_meaning.specs.Typing.{is_complete_struct}
use Rattle.operand_types.specs.OperandTypes.{OperandType, rvalue, lvalue, struct_in, is_known_complete, renumbered}
use Rattle.expression_types.specs.Known.{an_object, a_function, IsKnown, object_type, value_type, callable, denoted_by, denoted_of, numbered_member, member_type}
use Rattle.type_tables.specs.Tables.{Tables, Local, local_named, member_named, Sort, object, declared_function, FileName, is_complete_in, object_of, value_of, callable_in, denoted_as, denoted_in, known_in}
use Rattle.type_tables.specs.Follows.{IsThere, AreThere, types_of, place_of, renumbered_member, renumbered_signature, SortFollows, NameFollows, LocalFollows, SortIsThere, Follows}

pub struct_renumbered : (by : ℕ → ℕ) (ty : PlainType) → struct_in (renumbered by ty) ≡ option_map by (struct_in ty)
struct_renumbered by void = refl
struct_renumbered by char = refl
struct_renumbered by unsigned_char = refl
struct_renumbered by int = refl
struct_renumbered by unsigned_int = refl
struct_renumbered by long = refl
struct_renumbered by unsigned_long = refl
struct_renumbered by (pointer_to ty) = struct_renumbered by ty
struct_renumbered by (array_of ty count) = struct_renumbered by ty
struct_renumbered by (structure n) = refl

module _ (t : Tables) (scope : Scope) (f : Follows t scope) where
  number_complete : (o : Option ℕ) → ((n : ℕ) → o ≡ Some n → (s : Struct) × (slice_get scope.structs n ≡ Some s)) → is_complete_in t (option_map f.by o) ≡ is_known_complete scope.structs o
  number_complete None there = refl
  number_complete (Some n) there =
      let found = there n refl in (f.structs n found.0 found.1).complete ∙ sym (ap is_complete_struct found.1)

  pub complete_same : (ty : PlainType) → IsThere scope.structs ty → is_complete_in t (struct_in (renumbered f.by ty)) ≡ is_known_complete scope.structs (struct_in ty)
  complete_same ty there = ap (is_complete_in t) (struct_renumbered f.by ty) ∙ number_complete (struct_in ty) there

  object_same : (ty : PlainType) → IsThere scope.structs ty → object_of t (renumbered f.by ty) ≡ object_type f.by scope ty
  object_same ty there =
      ap (λ b. record { ty = renumbered f.by ty; category = lvalue true; is_null = false; has_complete_struct = b }) (complete_same ty there)

  value_same : (ty : PlainType) → IsThere scope.structs ty → value_of t (renumbered f.by ty) ≡ value_type f.by scope ty
  value_same ty there =
      ap (λ b. record { ty = renumbered f.by ty; category = rvalue; is_null = false; has_complete_struct = b }) (complete_same ty there)

  -- ---- names

  function_same : (signature : Signature) (number : ℕ) → t.signatures number ≡ renumbered_signature f.by signature → IsThere scope.structs signature.result → callable_in t number ≡ callable f.by scope signature
  function_same signature number e there =
      ap (λ (s : Signature). record { result = value_of t s.result; parameters = s.parameters }) e
      ∙ ap (λ (v : OperandType). record { result = v; parameters = map (renumbered f.by) signature.parameters }) (value_same signature.result there)

  sort_same : (sort : scopes.Sort) (other : Sort) → SortFollows f.by t.signatures sort other → SortIsThere scope.structs sort → denoted_as t other ≡ denoted_by f.by scope sort
  sort_same (scopes.variable ty) (object other) h there = ap (λ ty. an_object (object_of t ty)) h ∙ ap an_object (object_same ty there)
  sort_same (scopes.variable ty) (declared_function number) h there = absurd h
  sort_same (scopes.function signature) (object other) h there = absurd h
  sort_same (scopes.function signature) (declared_function number) h there = ap a_function (function_same signature number h there.0)

  name_same : (n : Option scopes.FileName) (m : Option FileName) → NameFollows f.by t.signatures n m → ((x : scopes.FileName) → n ≡ Some x → SortIsThere scope.structs x.sort)
      → denoted_in t None m ≡ denoted_of f.by scope None n
  name_same None None h there = refl
  name_same None (Some m) h there = absurd h
  name_same (Some n) None h there = absurd h
  name_same (Some n) (Some m) h there = ap Some (sort_same n.sort m.sort h.0 (there n refl))

  ordinary_same : (l : Option scopes.Local) (o : Option Local) (n : Option scopes.FileName) (m : Option FileName) → LocalFollows f.by l o → NameFollows f.by t.signatures n m
      → ((x : scopes.Local) → l ≡ Some x → IsThere scope.structs x.ty) → ((x : scopes.FileName) → n ≡ Some x → SortIsThere scope.structs x.sort)
      → denoted_in t o m ≡ denoted_of f.by scope l n
  ordinary_same None None n m h i there named = name_same n m i named
  ordinary_same None (Some o) n m h i there named = absurd h
  ordinary_same (Some l) None n m h i there named = absurd h
  ordinary_same (Some l) (Some o) n m h i there named = ap (λ ty. Some (an_object (object_of t ty))) h ∙ ap (λ o. Some (an_object o)) (object_same l.ty (there l refl))

  -- ---- members

  abbrev member_at : List PlainMember → Option ℕ → Option OperandType
  member_at ms None = None
  member_at ms (Some n) = option_map (λ m. object_type f.by scope m.ty) (slice_get ms n)

  member_behind : (m : PlainMember) (rest : List PlainMember) (o : Option ℕ) → member_at rest o ≡ member_at (m ∷ rest) (option_map suc o)
  member_behind m rest None = refl
  member_behind m rest (Some n) = refl

  first_or_later : (b : Bool) (m : PlainMember) (rest : List PlainMember) (name : List ℕ) → IsThere scope.structs m.ty
      → option_map (λ m. object_of t m.ty) (member_named (map (renumbered_member f.by) rest) name) ≡ member_at rest (place_of rest name)
      → option_map (λ m. object_of t m.ty) (if b then Some (renumbered_member f.by m) else member_named (map (renumbered_member f.by) rest) name)
      ≡ member_at (m ∷ rest) (if b then Some 0 else option_map suc (place_of rest name))
  first_or_later true m rest name there later = ap Some (object_same m.ty there)
  first_or_later false m rest name there later = later ∙ member_behind m rest (place_of rest name)

  found_same : (ms : List PlainMember) (name : List ℕ) → AreThere scope.structs (types_of ms)
      → option_map (λ m. object_of t m.ty) (member_named (map (renumbered_member f.by) ms) name) ≡ member_at ms (place_of ms name)
  found_same [] name there = refl
  found_same (m ∷ rest) name there = first_or_later (bytes_eq name m.name) m rest name there.0 (found_same rest name there.1)

  member_same : (s : Struct) (o : Option ℕ) → member_at s.members o ≡ numbered_member f.by scope s o
  member_same s None = refl
  member_same s (Some n) = refl

  struct_members : (n : ℕ) (s : Struct) → slice_get scope.structs n ≡ Some s → s.complete ≡ true → (name : List ℕ) → (known_in t).members (f.by n) name ≡ member_type f.by scope s name
  struct_members n s e c name =
      let is = f.structs n s e in
      ap (λ ms. option_map (λ (m : PlainMember). object_of t m.ty) (member_named ms name)) (is.members c)
      ∙ found_same s.members name (is.there c)
      ∙ ap (member_at s.members) (sym (is.numbers c name))
      ∙ member_same s (s.numbers name)

  -- what is known of the tables is what is known in the scope
  pub known_followed : IsKnown f.by scope (known_in t)
  known_followed = record {
    ordinary = λ name.
        ordinary_same (local_in scope.blocks name) (local_named t.locals name) (scope.file_names name) (t.names name) (f.locals name) (f.names name) (f.locals_there name) (f.names_there name);
    members = struct_members;
  }
