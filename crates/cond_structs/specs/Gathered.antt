-- The members of a struct while they are declared, as a configuration sees them: with the numbers that structs have in all configurations
-- (ISO/IEC 9899:2011, 6.7.2.1).
use Rattle.std.specs.Prelude.{◌≡◌, ℕ, ◌+◌, Bool, true, false, not, ◌||◌, List, [], ◌∷◌, ◌++◌, Option, Some, None, is_some}
use Rattle.c_text.specs.Token.{PlainToken}
use Rattle.cond_formula.specs.Conditions.{condition_of, value}
use Rattle.c_types.specs.Types.{PlainType}
use Rattle.c_types.specs.Tags.{PlainMember}
use Rattle.conditional.specs.Entries.{seen, listed}
use Rattle.conditional.specs.Judgements.{Checked, fine, refused}
use Rattle.core_meaning.specs.Constancy.{capped}
use Rattle.cond_sums.specs.Sums.{sum_at}
use Rattle.type_tables.specs.Tables.{Tables, member_named, is_complete_type, scalars_in}
use Rattle.type_tables.specs.Forms.{member_form}
use Rattle.cond_structs.specs.declared.collecting.Gathering.{Gathering}

pub record Gathered : Type 0 where
  pub members : List PlainMember
  -- how many scalars they have
  pub scalars : ℕ
  -- a member was refused
  pub refused : Bool

abbrev pub refuse : Bool → Gathered → Gathered
refuse found g = record { members = g.members; scalars = g.scalars; refused = g.refused || found }

-- a member of this name is among them
abbrev pub is_named : List ℕ → Gathered → Bool
is_named name g = is_some (member_named g.members name)

module _ (t : Tables) where
  -- one member more, whose type has to be complete
  abbrev pub with_type : List ℕ → PlainType → Gathered → Gathered
  with_type name ty g = record {
    members = g.members ++ record { name = name; ty = ty } ∷ [];
    scalars = capped (g.scalars + scalars_in t ty);
    refused = g.refused || not (is_complete_type t ty);
  }

  abbrev pub with_outcome : List ℕ → Checked PlainType (Unit {0}) → Gathered → Gathered
  with_outcome name (fine ty) g = with_type name ty g
  with_outcome name (refused why) g = refuse true g

  -- a member whose declarator comes to this; its name has to be new
  abbrev pub with_member : List ℕ → Checked PlainType (Unit {0}) → Gathered → Gathered
  with_member name outcome g = with_outcome name outcome (refuse (is_named name g) g)

  -- a declarator of this name, if it has one
  abbrev pub with_declared : (PlainToken → Checked PlainType (Unit {0})) → Option PlainToken → Gathered → Gathered
  with_declared outcome None g = refuse true g
  with_declared outcome (Some name) g = with_member name.text (outcome name) g

-- both are refused, or they are the same
pub record Comes (a b : Gathered) : Type 0 where
  pub refused : a.refused ≡ b.refused
  pub members : b.refused ≡ false → a.members ≡ b.members
  pub scalars : b.refused ≡ false → a.scalars ≡ b.scalars

-- elsewhere nothing changes, and what was refused before is so still
pub record Keeps (here : Bool) (old new : Gathered) : Type 0 where
  pub elsewhere : here ≡ false → new ≡ old
  pub refused : old.refused ≡ true → new.refused ≡ true

abbrev pub gathered : (ℕ → Bool) → Gathering → Gathered
gathered on g = record {
  members = seen on (listed member_form g.members);
  scalars = capped (sum_at on g.scalars);
  refused = value on (condition_of g.refused);
}
