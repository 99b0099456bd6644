-- Where the renaming of a class links declarations otherwise than before, told by the class and the names before (ISO/IEC 9899:2011, 6.2.2).
use Rattle.std.specs.Prelude.{◌≡◌, ℕ, Bool, true, false, List, Option, Some, None, option_map, if◌then◌else◌, ◌⊎◌}
use Rattle.std.specs.List.{AllZip, AllByRecursion}
use Rattle.c_text.specs.Token.{PlainToken}
use Rattle.core_meaning.specs.Linking.{built_in_named}
use Rattle.entity_numbers.specs.Firsts.{AreInOrder}
use Rattle.program_occurrences.specs.Occurrences.{UnitNames, Occurrence, occurrences_of, OccursIn, CommonName, external_name}
use Rattle.program_occurrences.specs.Classes.{file_token, Brings}
use Rattle.name_spaces.specs.Laws.{declared_name}

-- ---- declarations of names with external linkage

-- an identifier of the units that declares a name with external linkage
pub record ExternalDeclaration (units : List UnitNames) : Type 0 where
  pub found : OccursIn units
  pub name : List ℕ
  pub declares : declared_name found.unit found.occurrence ≡ Some (external_name name)

abbrev pub token_of : {units : List UnitNames} → ExternalDeclaration units → PlainToken
token_of d = d.found.occurrence.identifier.token

-- the same name, if it is one with external linkage
abbrev pub if_external : Option CommonName → Option (List ℕ)
if_external (Some (external_name name)) = Some name
if_external other = None

-- identifiers of each unit stand in the order of the text
abbrev pub AreAllInOrder : List UnitNames → Type 0
AreAllInOrder units = AllByRecursion (λ unit. AreInOrder 0 unit.identified) units

-- ---- a renaming

-- the name of a declaration behind it: the new one if it is of the class
abbrev pub name_after : List ℕ → Bool → List ℕ → List ℕ
name_after new of_class name = if of_class then new else name

module _ (of_class : PlainToken → Bool) where
  -- Of two identifiers at one place the one declares a name with external linkage after where the other did before: the new name if it is of
  -- the class, else the same.
  abbrev pub IsRenamedAt : List ℕ → UnitNames → UnitNames → Occurrence → Occurrence → Type 0
  IsRenamedAt new unit other o p =
      if_external (declared_name other p) ≡ option_map (name_after new (of_class o.identifier.token)) (if_external (declared_name unit o))

  -- identifier by identifier, unit by unit
  abbrev pub AreRenamed : List ℕ → List UnitNames → List UnitNames → Type 0
  AreRenamed new before after = AllZip (λ unit other. AllZip (IsRenamedAt new unit other) (occurrences_of unit) (occurrences_of other)) before after

  -- declarations of the class have this name
  pub record AreNamed (old : List ℕ) (units : List UnitNames) : Type 0 where
    pub named : (d : ExternalDeclaration units) → of_class (token_of d) ≡ true → d.name ≡ old

  -- identifiers of the class are written as this name
  pub record AreWrittenSo (old : List ℕ) (units : List UnitNames) : Type 0 where
    pub written : (o : OccursIn units) → of_class o.occurrence.identifier.token ≡ true → o.occurrence.identifier.token.text ≡ old

  -- Declarations of one name are all of the class, or none is.
  pub record AreRenamedTogether (units : List UnitNames) : Type 0 where
    pub together : (d e : ExternalDeclaration units) → d.name ≡ e.name → of_class (token_of d) ≡ of_class (token_of e)

  -- with an identifier each is of the class that it brings along
  pub record IsClosed (units : List UnitNames) : Type 0 where
    pub closed :
        (o p : OccursIn units) → Brings units (file_token o.occurrence) (file_token p.occurrence) → of_class o.occurrence.identifier.token ≡ true
        → of_class p.occurrence.identifier.token ≡ true

  -- ---- what it links otherwise

  -- a declaration that isn't of the class has the new name
  pub record IsTaken (new : List ℕ) (units : List UnitNames) : Type 0 where
    pub other : ExternalDeclaration units
    pub outside : of_class (token_of other) ≡ false
    pub is_new : other.name ≡ new

  -- Some declaration is of the class, and the new name is that of another, or isn't that of the same built-in function as the old one, or of none
  -- as the old one.
  pub record IsLinkedOtherwise (old new : List ℕ) (units : List UnitNames) : Type 0 where
    pub renamed : ExternalDeclaration units
    pub inside : of_class (token_of renamed) ≡ true
    pub otherwise : IsTaken new units ⊎ (built_in_named old ≡ built_in_named new → ⊥)
