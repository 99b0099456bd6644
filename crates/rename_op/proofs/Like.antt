-- Identifiers of units have their like in units that are the same but for the sites of their tokens.
use Rattle.std.proofs.Common.{◌≡◌, List, map, Some, option_map, Contains, sym, ap, subst, ◌∙◌}
use Rattle.std.specs.Prelude.{slice_get}
use Rattle.std.proofs.lemmas.Option.{slice_get-map}
use Rattle.c_text.specs.Token.{PlainToken}
use Rattle.c_tree.specs.Trees.{PlainTree}
use Rattle.bindings.specs.Judged.{Identified}
use Rattle.program_occurrences.specs.Occurrences.{UnitNames, names_of_units, Occurrence, occurrence_among, OccursIn}
use Rattle.program_occurrences.proofs.Entities.{source_of, made_from}
use Rattle.changed_forests.specs.Numbered.{unsited, AreSameButSites}
use Rattle.sited_names.specs.Unsited.{unsited_identifier, unsited_names}
use Rattle.sited_names.specs.Laws.{SitesDontName}
use Rattle.told_ties.proofs.Lists.{some_of}

-- an identifier of these units is this token, but for its site
pub record HasLike (units : List UnitNames) (token : PlainToken) : Type 0 where
  pub found : OccursIn units
  pub same : unsited found.occurrence.identifier.token ≡ unsited token

like_in : (units others : List UnitNames) → map unsited_names units ≡ map unsited_names others → (o : OccursIn others) → HasLike units o.occurrence.identifier.token
like_in units others same o =
    let there : slice_get (map unsited_names units) o.place ≡ Some (unsited_names o.unit)
    = ap (λ (us : List UnitNames). slice_get us o.place) same ∙ (slice_get-map unsited_names others o.place ∙ ap (option_map unsited_names) o.is_unit) in
    let unit = some_of unsited_names (slice_get units o.place) (unsited_names o.unit) (sym (slice_get-map unsited_names units o.place) ∙ there) in
    let identified : map unsited_identifier o.unit.identified ≡ map unsited_identifier unit.0.identified = sym (ap (λ (u : UnitNames). u.identified) unit.2) in
    let i = source_of (occurrence_among o.unit.identified) o.unit.identified o.occurrence o.among in
    let like = source_of unsited_identifier unit.0.identified (unsited_identifier i.source)
    (subst (λ (is : List Identified). Contains is (unsited_identifier i.source)) identified (made_from unsited_identifier o.unit.identified i.source i.among)) in
    record {
      found = record {
        place = o.place;
        unit = unit.0;
        is_unit = unit.1;
        occurrence = occurrence_among unit.0.identified like.source;
        among = made_from (occurrence_among unit.0.identified) unit.0.identified like.source like.among;
      };
      same = ap (λ (j : Identified). j.token) like.same ∙ ap (λ (p : Occurrence). unsited p.identifier.token) i.same;
    }

pub like_in_trees :
    SitesDontName → (trees others : List PlainTree) → AreSameButSites trees others → (o : OccursIn (names_of_units others))
    → HasLike (names_of_units trees) o.occurrence.identifier.token
like_in_trees sites trees others same o =
    like_in (names_of_units trees) (names_of_units others) (sym (sites trees) ∙ (ap names_of_units same ∙ sites others)) o
