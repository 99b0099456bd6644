-- Tables follow a scope with other numbers too, where the structs that are there have the same ones.
use Rattle.std.proofs.Common.{◌≡◌, ℕ, refl, sym, ap, ◌∙◌, subst}
use Rattle.std.specs.Prelude.{Option, Some, None, option_map, slice_get}
use Rattle.core_meaning.specs.Entities.{Struct, Scope}
use Rattle.operand_types.specs.Laws.{KeepsApart}
use Rattle.type_tables.specs.Tables.{Tables}
use Rattle.type_tables.specs.Follows.{StructFollows, Follows}
use Rattle.type_tables.specs.Numbers.{FollowsBy, NumbersKept}
use Rattle.type_tables.proofs.Renumbering.{members_same, name_follows, local_follows}

module _ (t : Tables) (scope : Scope) (f : Follows t scope) (other : ℕ → ℕ) (apart : KeepsApart other) (kept : NumbersKept scope.structs f.by other) where
  struct_follows : (n : ℕ) (s : Struct) → slice_get scope.structs n ≡ Some s → StructFollows other t scope.structs n s
  struct_follows n s e =
      let is = f.structs n s e in
      let same : f.by n ≡ other n = kept n s e in
      record {
        declared = ap t.declared (sym same) ∙ is.declared;
        complete = ap t.complete (sym same) ∙ is.complete;
        members = λ c. ap t.members (sym same) ∙ is.members c ∙ members_same scope.structs f.by other kept s.members (is.there c);
        numbers = is.numbers;
        there = is.there;
        scalars = ap t.scalars (sym same) ∙ is.scalars;
        none_before = is.none_before;
        named = ap t.named (sym same) ∙ is.named;
      }

  tag_follows : (o : Option ℕ) → ((n : ℕ) → o ≡ Some n → (s : Struct) × (slice_get scope.structs n ≡ Some s)) → option_map f.by o ≡ option_map other o
  tag_follows None there = refl
  tag_follows (Some n) there = let found = there n refl in ap Some (kept n found.0 found.1)

  renumbered_follows : Follows t scope
  renumbered_follows = record {
    by = other;
    apart = apart;
    structs = struct_follows;
    tags = λ name. f.tags name ∙ tag_follows (scope.tags name) (f.tagged name);
    tagged = f.tagged;
    names = λ name. name_follows scope.structs f.by other kept t.signatures (scope.file_names name) (t.names name) (f.names_there name) (f.names name);
    names_there = f.names_there;
    names_numbered = f.names_numbered;
    locals = λ name. local_follows scope.structs f.by other kept _ _ (f.locals_there name) (f.locals name);
    locals_there = f.locals_there;
    within = f.within;
    completes = f.completes;
    uncounted = f.uncounted;
  }

  numbers_are : renumbered_follows.by ≡ other
  unfolding renumbered_follows
  numbers_are = refl

pub follows_by : (by other : ℕ → ℕ) (t : Tables) (scope : Scope) → FollowsBy by t scope → KeepsApart other → NumbersKept scope.structs by other → FollowsBy other t scope
follows_by by other t scope f apart kept =
    let same = subst (λ (m : ℕ → ℕ). NumbersKept scope.structs m other) (sym f.numbers) kept in
    record { follows = renumbered_follows t scope f.follows other apart same; numbers = numbers_are t scope f.follows other apart same }
