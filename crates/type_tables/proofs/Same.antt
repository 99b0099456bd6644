-- Tables that are seen alike are equal, and what is seen where one struct is added or changes.
use Rattle.std.proofs.Common.{◌≡◌, ℕ, zero, suc, Bool, true, false, ◌&&◌, List, [], ◌∷◌, ◌++◌, refl, ap, ◌∙◌}
use Rattle.std.specs.Prelude.{Option, Some, None, slice_get, if◌then◌else◌}
use Rattle.std.proofs.Math.Path.{fun_ext}
use Rattle.std.specs.Str.{bytes_eq}
use Rattle.c_types.specs.Tags.{PlainMember}
use Rattle.core_meaning.specs.Entities.{Table}
use Rattle.core_meaning.specs.Constancy.{capped}
use Rattle.type_tables.specs.Tables.{Tables}
use Rattle.type_tables.specs.Seen.{is_declared, is_complete, members_of, scalars_of, tag_of, is_of_tag, tag_in}
use Rattle.type_tables.specs.Changes.{IsUndeclared}
use Rattle.type_tables.specs.declared.entries.CondStruct.{CondStruct}

abbrev tables_of : (ℕ → Bool) → (ℕ → Bool) → (ℕ → List PlainMember) → (ℕ → ℕ) → (ℕ → List ℕ) → Table ℕ → Tables → Tables
tables_of declared complete members scalars named tags t = record t { declared = declared; complete = complete; members = members; scalars = scalars; named = named; tags = tags }

-- ---- structs and tags alone

pub structs_same :
    (t : Tables) (declared complete : ℕ → Bool) (members : ℕ → List PlainMember) (scalars : ℕ → ℕ) (named : ℕ → List ℕ) (tags : Table ℕ)
    → ((n : ℕ) → declared n ≡ t.declared n) → ((n : ℕ) → complete n ≡ t.complete n) → ((n : ℕ) → members n ≡ t.members n) → ((n : ℕ) → scalars n ≡ t.scalars n)
    → ((n : ℕ) → named n ≡ t.named n) → ((name : List ℕ) → tags name ≡ t.tags name)
    → record t { declared = declared; complete = complete; members = members; scalars = scalars; named = named; tags = tags } ≡ t
structs_same t declared complete members scalars named tags d c m k n g =
    ap (λ f. tables_of f complete members scalars named tags t) (fun_ext d)
    ∙ ap (λ f. tables_of t.declared f members scalars named tags t) (fun_ext c)
    ∙ ap (λ f. tables_of t.declared t.complete f scalars named tags t) (fun_ext m)
    ∙ ap (λ f. tables_of t.declared t.complete t.members f named tags t) (fun_ext k)
    ∙ ap (λ f. tables_of t.declared t.complete t.members t.scalars f tags t) (fun_ext n)
    ∙ ap (λ f. tables_of t.declared t.complete t.members t.scalars t.named f t) (fun_ext g)

-- ---- one more struct, which is declared nowhere

module _ (on : ℕ → Bool) (tag : List ℕ) (u : CondStruct) (is : IsUndeclared tag u) where
  pub declared_more : (structs : List CondStruct) (n : ℕ) → is_declared on (slice_get (structs ++ u ∷ []) n) ≡ is_declared on (slice_get structs n)
  declared_more [] zero = is.declared on
  declared_more [] (suc n) = refl
  declared_more (s ∷ structs) zero = refl
  declared_more (s ∷ structs) (suc n) = declared_more structs n

  pub complete_more : (structs : List CondStruct) (n : ℕ) → is_complete on (slice_get (structs ++ u ∷ []) n) ≡ is_complete on (slice_get structs n)
  complete_more [] zero = is.complete on
  complete_more [] (suc n) = refl
  complete_more (s ∷ structs) zero = refl
  complete_more (s ∷ structs) (suc n) = complete_more structs n

  pub members_more : (structs : List CondStruct) (n : ℕ) → members_of on (slice_get (structs ++ u ∷ []) n) ≡ members_of on (slice_get structs n)
  members_more [] zero = is.members on
  members_more [] (suc n) = refl
  members_more (s ∷ structs) zero = refl
  members_more (s ∷ structs) (suc n) = members_more structs n

  pub scalars_more : (structs : List CondStruct) (n : ℕ) → scalars_of on (slice_get (structs ++ u ∷ []) n) ≡ scalars_of on (slice_get structs n)
  scalars_more [] zero = ap capped (is.scalars on)
  scalars_more [] (suc n) = refl
  scalars_more (s ∷ structs) zero = refl
  scalars_more (s ∷ structs) (suc n) = scalars_more structs n

  pub named_more : (structs : List CondStruct) (n : ℕ) → tag_of on (slice_get (structs ++ u ∷ []) n) ≡ tag_of on (slice_get structs n)
  named_more [] zero = ap (λ b. if b then u.tag.items else []) (is.declared on)
  named_more [] (suc n) = refl
  named_more (s ∷ structs) zero = refl
  named_more (s ∷ structs) (suc n) = named_more structs n

  no_tag : (b : Bool) → (b && Rattle.type_tables.specs.Seen.holds on u.declared) ≡ false
  no_tag true = is.declared on
  no_tag false = refl

  tag_more : (structs : List CondStruct) (other : List ℕ) (n : ℕ) → is_of_tag on other (slice_get (structs ++ u ∷ []) n) ≡ is_of_tag on other (slice_get structs n)
  tag_more [] other zero = no_tag (bytes_eq other u.tag.items)
  tag_more [] other (suc n) = refl
  tag_more (s ∷ structs) other zero = refl
  tag_more (s ∷ structs) other (suc n) = tag_more structs other n

  pub tag_in_more : (structs : List CondStruct) (other : List ℕ) (place : Option ℕ) → tag_in on (structs ++ u ∷ []) other place ≡ tag_in on structs other place
  tag_in_more structs other None = refl
  tag_in_more structs other (Some n) = ap (λ b. if b then Some n else None) (tag_more structs other n)
