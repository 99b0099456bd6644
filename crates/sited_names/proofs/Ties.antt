-- What tokens of files have to do with each other in units without the sites of their tokens.
use Rattle.std.proofs.Common.{◌≡◌, List, map, Option, Some, None, Contains, refl, sym, ap, subst, ◌∙◌}
use Rattle.std.specs.Prelude.{slice_get, option_map, IsTrue}
use Rattle.std.proofs.lemmas.Option.{slice_get-map}
use Rattle.program_occurrences.specs.Occurrences.{UnitNames, names_of_units, Occurrence, occurrences_of, declares_itself, OccursIn, CommonName, common_name}
use Rattle.program_occurrences.specs.Classes.{PlainFileToken, file_token, declaring_token}
use Rattle.program_occurrences.proofs.Entities.{source_of, made_from}
use Rattle.tied_classes.specs.Told.{IsDeclaredBy, DeclaresName}
use Rattle.moved_names.proofs.Occurrences.{occurrences-moved, name-moved}
use Rattle.changed_forests.specs.Numbered.{unsited}
use Rattle.sited_names.specs.Unsited.{unsited_identifier, unsited_names}
use Rattle.sited_names.specs.Laws.{SitesDontName, AreTiedAlike, SitesDontTie}

abbrev unsited_occurrence : Occurrence → Occurrence
unsited_occurrence o = record { identifier = unsited_identifier o.identifier; declared_by = unsited_identifier o.declared_by }

-- ---- units with sites and without

record IsSame (units : List UnitNames) (without : OccursIn (map unsited_names units)) : Type 0 where
  found : OccursIn units
  unit_is : without.unit ≡ unsited_names found.unit
  occurrence_is : without.occurrence ≡ unsited_occurrence found.occurrence

some_unit : (units : Option UnitNames) (unit : UnitNames) → option_map unsited_names units ≡ Some unit → (before : UnitNames) × (units ≡ Some before) × (unit ≡ unsited_names before)
some_unit None unit e = absurd cc
some_unit (Some before) unit e = (before, refl, cc)

with_sites : (units : List UnitNames) (without : OccursIn (map unsited_names units)) → IsSame units without
with_sites units without =
    let u = some_unit (slice_get units without.place) without.unit (sym (slice_get-map unsited_names units without.place) ∙ without.is_unit) in
    let among : Contains (map unsited_occurrence (occurrences_of u.0)) without.occurrence =
    subst (λ (os : List Occurrence). Contains os without.occurrence) (ap occurrences_of u.2 ∙ occurrences-moved unsited u.0) without.among in
    let s = source_of unsited_occurrence (occurrences_of u.0) without.occurrence among in
    record {
      found = record { place = without.place; unit = u.0; is_unit = u.1; occurrence = s.source; among = s.among };
      unit_is = u.2;
      occurrence_is = sym s.same;
    }

abbrev without_sites : (units : List UnitNames) (found : OccursIn units) → OccursIn (map unsited_names units)
without_sites units found = record {
  place = found.place;
  unit = unsited_names found.unit;
  is_unit = slice_get-map unsited_names units found.place ∙ ap (option_map unsited_names) found.is_unit;
  occurrence = unsited_occurrence found.occurrence;
  among = subst (λ (os : List Occurrence). Contains os (unsited_occurrence found.occurrence)) (sym (occurrences-moved unsited found.unit))
      (made_from unsited_occurrence (occurrences_of found.unit) found.occurrence found.among);
}

declared_with : (units : List UnitNames) (a b : PlainFileToken) → IsDeclaredBy (map unsited_names units) a b → IsDeclaredBy units a b
declared_with units a b d =
    let s = with_sites units d.found in
    record {
      found = s.found;
      identifier_is = sym (ap file_token s.occurrence_is) ∙ d.identifier_is;
      declared_by_is = sym (ap declaring_token s.occurrence_is) ∙ d.declared_by_is;
    }

declared_without : (units : List UnitNames) (a b : PlainFileToken) → IsDeclaredBy units a b → IsDeclaredBy (map unsited_names units) a b
declared_without units a b d = record { found = without_sites units d.found; identifier_is = d.identifier_is; declared_by_is = d.declared_by_is }

named_with : (units : List UnitNames) (token : PlainFileToken) (name : CommonName) → DeclaresName (map unsited_names units) token name → DeclaresName units token name
named_with units token name d =
    let s = with_sites units d.found in
    record {
      found = s.found;
      itself = subst (λ (o : Occurrence). IsTrue (declares_itself o)) s.occurrence_is d.itself;
      token_is = sym (ap file_token s.occurrence_is) ∙ d.token_is;
      name_is = sym (name-moved unsited s.found.unit s.found.occurrence.identifier)
          ∙ (ap (λ (unit : UnitNames). common_name unit (unsited_identifier s.found.occurrence.identifier)) (sym s.unit_is)
          ∙ (ap (λ (o : Occurrence). common_name d.found.unit o.identifier) (sym s.occurrence_is) ∙ d.name_is));
    }

named_without : (units : List UnitNames) (token : PlainFileToken) (name : CommonName) → DeclaresName units token name → DeclaresName (map unsited_names units) token name
named_without units token name d = record {
  found = without_sites units d.found;
  itself = d.itself;
  token_is = d.token_is;
  name_is = name-moved unsited d.found.unit d.found.occurrence.identifier ∙ d.name_is;
}

-- ---- two lists of units that are the same without sites

module _ (units others : List UnitNames) (same : map unsited_names units ≡ map unsited_names others) where
  declared_in_others : (a b : PlainFileToken) → IsDeclaredBy units a b → IsDeclaredBy others a b
  declared_in_others a b d = declared_with others a b (subst (λ (us : List UnitNames). IsDeclaredBy us a b) same (declared_without units a b d))

  named_in_others : (token : PlainFileToken) (name : CommonName) → DeclaresName units token name → DeclaresName others token name
  named_in_others token name d = named_with others token name (subst (λ (us : List UnitNames). DeclaresName us token name) same (named_without units token name d))

pub tied_alike : (units others : List UnitNames) → map unsited_names units ≡ map unsited_names others → AreTiedAlike units others
tied_alike units others same = record {
  declared = λ a b. (declared_in_others units others same a b, declared_in_others others units (sym same) a b);
  named = λ token name. (named_in_others units others same token name, named_in_others others units (sym same) token name);
}

pub sites_dont_tie_lem : SitesDontName → SitesDontTie
sites_dont_tie_lem moved trees others same =
    tied_alike (names_of_units trees) (names_of_units others) (sym (moved trees) ∙ (ap names_of_units same ∙ moved others))
