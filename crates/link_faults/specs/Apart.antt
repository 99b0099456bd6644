-- Declarations of a name in units and headers that don't agree (ISO/IEC 9899:2011, 6.2.7).
use Rattle.std.specs.Prelude.{ℕ, Bool, List, Option, Some}
use Rattle.std.specs.List.{Contains}
use Rattle.c_types.specs.Tags.{PlainTag}
use Rattle.core_meaning.specs.Entities.{Sort}
use Rattle.core_meaning.specs.Linking.{SortsAgree, external_sorts}
use Rattle.type_tables.specs.declared.tables.Tables.{Tables}
use Rattle.cond_compatible.specs.SeenTags.{tags_seen}
use Rattle.link_faults.specs.declared.left.LeftUnit.{LeftUnit}
use Rattle.link_faults.specs.SeenUnits.{units_seen}

-- Two of these sorts don't agree.
pub record SomeAreApart (tags : List PlainTag) (sorts : List (Option Sort)) : Type 0 where
  pub first : Sort
  pub second : Sort
  pub declares_first : Contains sorts (Some first)
  pub declares_second : Contains sorts (Some second)
  pub apart : SortsAgree tags first second → ⊥

-- Among what the units that are present and the built-in headers declare a name as, with external linkage, two don't agree.
abbrev pub AreSeenApart : (ℕ → Bool) → Tables → List LeftUnit → List ℕ → Type 0
AreSeenApart on tables units name = SomeAreApart (tags_seen on tables) (external_sorts (units_seen on tables units) name)
