-- What a configuration sees of the tables.
use Rattle.std.specs.Prelude.{ℕ, Bool, false, ◌&&◌, List, [], ◌∷◌, length, reverse, Option, Some, None, slice_get, if◌then◌else◌}
use Rattle.std.specs.Str.{bytes_eq}
use Rattle.cond_formula.specs.declared.formulas.Formula.{Formula}
use Rattle.cond_formula.specs.Conditions.{condition_of, value}
use Rattle.c_types.specs.Types.{plain_type}
use Rattle.c_types.specs.Tags.{PlainMember}
use Rattle.conditional.specs.Entries.{seen, first, listed}
use Rattle.core_meaning.specs.Entities.{Signature}
use Rattle.core_meaning.specs.Constancy.{capped}
use Rattle.cond_sums.specs.Sums.{sum_at}
use Rattle.name_places.specs.Places.{place_of}
use Rattle.type_tables.specs.Tables as plain
use Rattle.type_tables.specs.Tables.{no_signature}
use Rattle.type_tables.specs.Forms.{member_form, declared_type_form, file_name_form}
use Rattle.type_tables.specs.declared.entries.CondStruct.{CondStruct}
use Rattle.type_tables.specs.declared.entries.CondSignature.{CondSignature}
use Rattle.type_tables.specs.declared.entries.CondName.{CondName}
use Rattle.type_tables.specs.declared.entries.LocalName.{LocalName}
use Rattle.type_tables.specs.declared.tables.Tables.{Tables}

module _ (on : ℕ → Bool) where
  abbrev pub holds : Formula → Bool
  holds f = value on (condition_of f)

  abbrev pub is_declared : Option CondStruct → Bool
  is_declared None = false
  is_declared (Some s) = holds s.declared

  abbrev pub is_complete : Option CondStruct → Bool
  is_complete None = false
  is_complete (Some s) = holds s.complete

  abbrev pub members_of : Option CondStruct → List PlainMember
  members_of None = []
  members_of (Some s) = seen on (listed member_form s.members)

  abbrev pub scalars_of : Option CondStruct → ℕ
  scalars_of None = 0
  scalars_of (Some s) = capped (sum_at on s.scalars)

  -- the tag of a struct that is declared
  abbrev pub tag_of : Option CondStruct → List ℕ
  tag_of None = []
  tag_of (Some s) = if holds s.declared then s.tag.items else []

  abbrev pub is_of_tag : List ℕ → Option CondStruct → Bool
  is_of_tag tag None = false
  is_of_tag tag (Some s) = bytes_eq tag s.tag.items && holds s.declared

  -- the struct of a tag, where it is declared
  abbrev pub tag_in : List CondStruct → List ℕ → Option ℕ → Option ℕ
  tag_in structs tag None = None
  tag_in structs tag (Some number) = if is_of_tag tag (slice_get structs number) then Some number else None

  abbrev pub meaning_of : List ℕ → Option CondName → Option plain.FileName
  meaning_of name None = None
  meaning_of name (Some n) = if bytes_eq name n.name.items then first (seen on (listed file_name_form n.meanings)) else None

  -- a name of file scope, by its place among those that are declared somewhere
  abbrev pub name_in : List CondName → List ℕ → Option ℕ → Option plain.FileName
  name_in declared name None = None
  name_in declared name (Some place) = meaning_of name (slice_get declared place)

  abbrev pub signature_of : Option CondSignature → Signature
  signature_of None = no_signature
  signature_of (Some s) = record { result = plain_type s.result; parameters = seen on (listed declared_type_form s.parameters) }

  abbrev pub local_form : LocalName → plain.Local
  local_form l = record { name = l.name.items; ty = plain_type l.ty; depth = l.depth }

  abbrev pub locals_in : List LocalName → List plain.Local
  locals_in [] = []
  locals_in (l ∷ rest) = if holds l.when then local_form l ∷ locals_in rest else locals_in rest

  abbrev pub seen_tables : Tables → plain.Tables
  seen_tables t = record {
    declared = λ n. is_declared (slice_get t.structs.items n);
    complete = λ n. is_complete (slice_get t.structs.items n);
    members = λ n. members_of (slice_get t.structs.items n);
    scalars = λ n. scalars_of (slice_get t.structs.items n);
    named = λ n. tag_of (slice_get t.structs.items n);
    tags = λ tag. tag_in t.structs.items tag (place_of t.tags tag);
    names = λ name. name_in t.declared.items name (place_of t.names name);
    signatures = λ n. signature_of (slice_get t.signatures.items n);
    functions = length t.signatures.items;
    locals = locals_in (reverse t.locals.items);
    depth = t.depth;
  }
