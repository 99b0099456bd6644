-- What tokens bring along: where one token brings another, that brings it too.
use Rattle.std.proofs.Common.{List, refl, ap, sym, subst}
use Rattle.bindings.specs.Judged.{Identified}
use Rattle.program_occurrences.specs.Occurrences.{UnitNames, OccursIn}
use Rattle.program_occurrences.specs.Classes.{PlainFileToken, copied_by, file_token, declaring_token, Brings, by_declaration, by_occurrence, by_name}
use Rattle.program_occurrences.specs.Laws.{TokensBringBack}
use Rattle.program_occurrences.proofs.Entities.{declarations_are_occurrences}

declared_back : {units : List UnitNames} (o : OccursIn units) → Brings units (declaring_token o.occurrence) (file_token o.occurrence)
declared_back {units} o =
    let d = declarations_are_occurrences o.unit o.occurrence o.among in
    subst (λ t. Brings units t (file_token o.occurrence)) (ap (λ (i : Identified). copied_by i.token) d.identifier)
    (by_occurrence (record { place = o.place; unit = o.unit; is_unit = o.is_unit; occurrence = d.declaration; among = d.among }) o refl
    (ap (λ (i : Identified). i.number) d.itself))

brings_back : {units : List UnitNames} {a b : PlainFileToken} → Brings units a b → Brings units b a
brings_back (by_declaration o) = declared_back o
brings_back (by_occurrence o p place same) = by_occurrence p o (sym place) (sym same)
brings_back (by_name o p name first other known also) = by_name p o name other first also known

pub tokens_bring_back : TokensBringBack
tokens_bring_back units a b brings = brings_back brings
