-- How one entry of the tables changes, as a configuration sees it.
use Rattle.std.specs.Prelude.{◌≡◌, ℕ, Bool, true, false, not, ◌||◌, List, [], ◌∷◌, ◌++◌, length, Option, None, Some, slice_get, slice_set, if◌then◌else◌}
use Rattle.c_types.specs.Tags.{PlainMember}
use Rattle.std.specs.Str.{bytes_eq}
use Rattle.conditional.specs.Entries.{seen, listed, first, under, or_later}
use Rattle.name_places.specs.Places.{place_of}
use Rattle.type_tables.specs.Forms.{member_form, file_name_form}
use Rattle.core_meaning.specs.Entities.{with_entry}
use Rattle.core_meaning.specs.Constancy.{capped}
use Rattle.cond_sums.specs.Sums.{sum_at}
use Rattle.type_tables.specs.Seen.{holds}
use Rattle.type_tables.specs.Tables as plain
use Rattle.type_tables.specs.declared.entries.CondStruct.{CondStruct}
use Rattle.type_tables.specs.declared.entries.CondName.{CondName}
use Rattle.type_tables.specs.declared.tables.Tables.{Tables}

-- a struct that is declared nowhere
pub record IsUndeclared (tag : List ℕ) (s : CondStruct) : Type 0 where
  pub tag_is : s.tag.items ≡ tag
  pub declared : (on : ℕ → Bool) → holds on s.declared ≡ false
  pub complete : (on : ℕ → Bool) → holds on s.complete ≡ false
  pub members : (on : ℕ → Bool) → seen on (listed member_form s.members) ≡ []
  pub scalars : (on : ℕ → Bool) → sum_at on s.scalars ≡ 0

-- it is declared where it was, and where this is true
pub record Declares (on : ℕ → Bool) (here : Bool) (old new : CondStruct) : Type 0 where
  pub tag_is : new.tag.items ≡ old.tag.items
  pub declared : holds on new.declared ≡ (holds on old.declared || here)
  pub complete : holds on new.complete ≡ holds on old.complete
  pub members : seen on (listed member_form new.members) ≡ seen on (listed member_form old.members)
  pub scalars : sum_at on new.scalars ≡ sum_at on old.scalars

-- it is complete where it was, and where this is true, and has these members and so many scalars there
pub record Completes (on : ℕ → Bool) (here : Bool) (members : List PlainMember) (scalars : ℕ) (old new : CondStruct) : Type 0 where
  pub tag_is : new.tag.items ≡ old.tag.items
  pub declared : holds on new.declared ≡ holds on old.declared
  pub complete : holds on new.complete ≡ (holds on old.complete || here)
  pub members_are : seen on (listed member_form new.members) ≡ (if here then members else seen on (listed member_form old.members))
  pub scalars_are : capped (sum_at on new.scalars) ≡ (if here then scalars else capped (sum_at on old.scalars))

-- one entry of a list becomes another
pub record BecomesAt {A : Type 0} (P : A → A → Type 0) (place : ℕ) (old new : List A) : Type 0 where
  pub now : A
  pub set_is : new ≡ slice_set old place now
  pub changed : (before : A) → slice_get old place ≡ Some before → P before now

-- whether the struct with this number has this tag
abbrev pub has_tag_in : List CondStruct → ℕ → List ℕ → Bool
has_tag_in structs number tag = elim (slice_get structs number) as (λ x. Bool) [ None ↦ false | Some s ↦ bytes_eq tag s.tag.items ]

-- no struct has this tag
abbrev pub is_free : List CondStruct → Option ℕ → List ℕ → Bool
is_free structs None tag = true
is_free structs (Some number) tag = not (has_tag_in structs number tag)

-- one more struct, which is declared nowhere
pub record AddsStruct (tag : List ℕ) (number : ℕ) (old new : Tables) : Type 0 where
  pub added : CondStruct
  pub undeclared : IsUndeclared tag added
  pub number_is : number ≡ length old.structs.items
  pub structs_are : new.structs.items ≡ old.structs.items ++ added ∷ []
  pub places_are : place_of new.tags ≡ with_entry (place_of old.tags) tag number
  pub names_are : new.names ≡ old.names
  pub declared_are : new.declared ≡ old.declared
  pub signatures_are : new.signatures ≡ old.signatures
  pub locals_are : new.locals ≡ old.locals
  pub depth_is : new.depth ≡ old.depth

-- ---- names of file scope

-- a name that stands for nothing
pub record IsNothing (name : List ℕ) (n : CondName) : Type 0 where
  pub name_is : n.name.items ≡ name
  pub meanings : (on : ℕ → Bool) → seen on (listed file_name_form n.meanings) ≡ []

-- it stands for what it did, or where this is true for what is given
pub record Means (on : ℕ → Bool) (here : Bool) (what : plain.FileName) (old new : CondName) : Type 0 where
  pub name_is : new.name.items ≡ old.name.items
  pub meanings : first (seen on (listed file_name_form new.meanings)) ≡ or_later (first (seen on (listed file_name_form old.meanings))) (first (under here (what ∷ [])))

abbrev pub has_name_in : List CondName → ℕ → List ℕ → Bool
has_name_in declared place name = elim (slice_get declared place) as (λ x. Bool) [ None ↦ false | Some n ↦ bytes_eq name n.name.items ]

abbrev pub is_unnamed : List CondName → Option ℕ → List ℕ → Bool
is_unnamed declared None name = true
is_unnamed declared (Some place) name = not (has_name_in declared place name)

-- one more name, which stands for nothing
pub record AddsName (name : List ℕ) (place : ℕ) (old new : Tables) : Type 0 where
  pub added : CondName
  pub nothing : IsNothing name added
  pub place_is : place ≡ length old.declared.items
  pub declared_are : new.declared.items ≡ old.declared.items ++ added ∷ []
  pub places_are : place_of new.names ≡ with_entry (place_of old.names) name place
  pub structs_are : new.structs ≡ old.structs
  pub tags_are : new.tags ≡ old.tags
  pub signatures_are : new.signatures ≡ old.signatures
  pub locals_are : new.locals ≡ old.locals
  pub depth_is : new.depth ≡ old.depth
