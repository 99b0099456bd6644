-- Tables that follow scopes have structs that say what those of the scopes do.
use Rattle.std.proofs.Common.{◌≡◌, ℕ, Bool, true, false, List, [], refl, sym, ap, ◌∙◌}
use Rattle.std.specs.Prelude.{◌↔◌, Option, Some, None, option_map, slice_get, if◌then◌else◌}
use Rattle.std.proofs.lemmas.Bool.{false≢true}
use Rattle.std.proofs.lemmas.Option.{slice_get-map}
use Rattle.c_types.specs.Types.{PlainType}
use Rattle.c_types.specs.Tags.{PlainTag}
use Rattle.c_types.specs.Compatible.{Compatible}
use Rattle.core_meaning.specs.Entities.{Struct, tags_of}
use Rattle.operand_types.specs.OperandTypes.{renumbered}
use Rattle.type_tables.specs.Seen.{is_declared, is_complete, members_of, holds, tag_of, seen_tables}
use Rattle.type_tables.specs.declared.entries.CondStruct.{CondStruct}
use Rattle.type_tables.specs.declared.tables.Tables.{Tables}
use Rattle.type_tables.specs.Follows.{IsThere, StructFollows}
use Rattle.cond_compatible.specs.SeenTags.{tag_seen, tags_seen, TypesAgree}
use Rattle.cond_compatible.proofs.RenumberedPairs.{TagFollows, compatible_moved, compatible_back}

module _ (on : ℕ → Bool) (tables : Tables) (structs : List Struct) (by : ℕ → ℕ)
    (follow : (n : ℕ) (s : Struct) → slice_get structs n ≡ Some s → StructFollows by (seen_tables on tables) structs n s) where
  tag_where : (b : Bool) (tag none : List ℕ) → b ≡ true → (if b then tag else none) ≡ tag
  tag_where true tag none h = refl
  tag_where false tag none h = absurd (false≢true h)

  follows_at : (n : ℕ) (s : Struct) → StructFollows by (seen_tables on tables) structs n s
      → (o : Option CondStruct) → slice_get tables.structs.items (by n) ≡ o
      → (t : PlainTag) × (option_map (tag_seen on) o ≡ Some t) × TagFollows by structs s t
  follows_at n s f None e = absurd (false≢true (ap (is_declared on) (sym e) ∙ f.declared))
  follows_at n s f (Some x) e =
      let there : holds on x.declared ≡ true = ap (is_declared on) (sym e) ∙ f.declared in (
        tag_seen on x,
        refl,
        record {
          name = sym (tag_where (holds on x.declared) x.tag.items [] there) ∙ ap (tag_of on) (sym e) ∙ f.named;
          complete = ap (is_complete on) (sym e) ∙ f.complete;
          members = λ c. ap (members_of on) (sym e) ∙ f.members c;
          there = f.there;
        },
      )

  followed : (n : ℕ) (s : Struct) → slice_get structs n ≡ Some s → (t : PlainTag) × (slice_get (tags_seen on tables) (by n) ≡ Some t) × TagFollows by structs s t
  followed n s e =
      let at = follows_at n s (follow n s e) (slice_get tables.structs.items (by n)) refl in
      (at.0, slice_get-map (tag_seen on) tables.structs.items (by n) ∙ at.1, at.2)

  pub stay_compatible : (a b : PlainType) → IsThere structs a → IsThere structs b
      → Compatible (tags_of structs) (tags_of structs) a b ↔ TypesAgree on tables (renumbered by a) (renumbered by b)
  stay_compatible a b p q =
      (compatible_moved by structs (tags_seen on tables) followed a b, compatible_back by structs (tags_seen on tables) followed a b p q)
