-- What is said of an occurrence in some unit, unit by unit.
use Rattle.std.proofs.Common.{◌≡◌, ℕ, zero, suc, List, [], ◌∷◌, ◌++◌, Some, inl, inr, Contains, refl, subst}
use Rattle.std.specs.Prelude.{◌⊎◌, ◌↔◌, IsTrue, slice_get}
use Rattle.std.proofs.lemmas.List.Elements.{Contains-append_left, Contains-append_right, Contains-append_cases}
use Rattle.program_occurrences.specs.Occurrences.{UnitNames, Occurrence, occurrences_of, declares_itself, OccursIn, CommonName, common_name}
use Rattle.program_occurrences.specs.Classes.{PlainFileToken, file_token, declaring_token}
use Rattle.tied_classes.specs.Told.{IsDeclaredBy, DeclaresName}

-- what is said of an occurrence and its unit
abbrev pub Said : Type 1
Said = UnitNames → Occurrence → Type 0

-- it holds of an occurrence of this unit
pub record IsSaidOf (P : UnitNames → Occurrence → Type 0) (unit : UnitNames) : Type 0 where
  pub occurrence : Occurrence
  pub among : Contains (occurrences_of unit) occurrence
  pub holds : P unit occurrence

-- it holds of an occurrence of one of these
pub record IsSaidIn (P : UnitNames → Occurrence → Type 0) (units : List UnitNames) : Type 0 where
  pub found : OccursIn units
  pub holds : P found.unit found.occurrence

pub said_of_none : (P : UnitNames → Occurrence → Type 0) → IsSaidIn P [] → ⊥
said_of_none P h = let none = h.found.is_unit in absurd cc

module _ (P : UnitNames → Occurrence → Type 0) (unit : UnitNames) (units : List UnitNames) where
  pub said_first : IsSaidOf P unit → IsSaidIn P (unit ∷ units)
  said_first h = record { found = record { place = zero; unit = unit; is_unit = refl; occurrence = h.occurrence; among = h.among }; holds = h.holds }

  pub said_later : IsSaidIn P units → IsSaidIn P (unit ∷ units)
  said_later h = record {
    found = record { place = suc h.found.place; unit = h.found.unit; is_unit = h.found.is_unit; occurrence = h.found.occurrence; among = h.found.among };
    holds = h.holds;
  }

  pub said_cases : IsSaidIn P (unit ∷ units) → IsSaidOf P unit ⊎ IsSaidIn P units
  said_cases h = by h.found.place h.found.unit h.found.is_unit h.found.occurrence h.found.among h.holds
    where
      by : (place : ℕ) (u : UnitNames) → slice_get (unit ∷ units) place ≡ Some u → (o : Occurrence) → Contains (occurrences_of u) o → P u o → IsSaidOf P unit ⊎ IsSaidIn P units
      by zero u is o among holds =
          let same : u ≡ unit = cc in
          inl (record { occurrence = o; among = subst (λ (x : UnitNames). Contains (occurrences_of x) o) same among; holds = subst (λ (x : UnitNames). P x o) same holds })
      by (suc k) u is o among holds = inr (record { found = record { place = k; unit = u; is_unit = is; occurrence = o; among = among }; holds = holds })

  -- what is listed of this unit, and behind it of these, is said of all
  pub said_together :
      {X : Type 0} (xs ys : List X) (x : X) → (Contains xs x ↔ IsSaidOf P unit) → (Contains ys x ↔ IsSaidIn P units)
      → Contains (xs ++ ys) x ↔ IsSaidIn P (unit ∷ units)
  said_together {X} xs ys x here behind = (λ h. forth (Contains-append_cases xs ys x h), λ h. back (said_cases h))
    where
      forth : Contains xs x ⊎ Contains ys x → IsSaidIn P (unit ∷ units)
      forth (inl h) = said_first (here.0 h)
      forth (inr h) = said_later (behind.0 h)

      back : IsSaidOf P unit ⊎ IsSaidIn P units → Contains (xs ++ ys) x
      back (inl h) = Contains-append_left xs ys x (here.1 h)
      back (inr h) = Contains-append_right xs ys x (behind.1 h)

-- ---- ties and names

-- these tokens are those of the occurrence and of what declares it
pub record Ties (identifier declared_by : PlainFileToken) (unit : UnitNames) (o : Occurrence) : Type 0 where
  pub identifier_is : file_token o ≡ identifier
  pub declared_by_is : declaring_token o ≡ declared_by

-- this is its token, and it declares this name
pub record Names (token : PlainFileToken) (name : CommonName) (unit : UnitNames) (o : Occurrence) : Type 0 where
  pub itself : IsTrue (declares_itself o)
  pub token_is : file_token o ≡ token
  pub name_is : common_name unit o.identifier ≡ Some name

pub declared_as_said : (units : List UnitNames) (a b : PlainFileToken) → IsSaidIn (Ties a b) units ↔ IsDeclaredBy units a b
declared_as_said units a b = (
  λ h. record { found = h.found; identifier_is = h.holds.identifier_is; declared_by_is = h.holds.declared_by_is },
  λ d. record { found = d.found; holds = record { identifier_is = d.identifier_is; declared_by_is = d.declared_by_is } },
)

pub named_as_said : (units : List UnitNames) (token : PlainFileToken) (name : CommonName) → IsSaidIn (Names token name) units ↔ DeclaresName units token name
named_as_said units token name = (
  λ h. record { found = h.found; itself = h.holds.itself; token_is = h.holds.token_is; name_is = h.holds.name_is },
  λ d. record { found = d.found; holds = record { itself = d.itself; token_is = d.token_is; name_is = d.name_is } },
)
