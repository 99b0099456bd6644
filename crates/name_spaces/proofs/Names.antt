-- The names that a unit declares, identifier by identifier.
use Rattle.std.proofs.Common.{◌≡◌, ℕ, Bool, true, false, List, [], ◌∷◌, map, Option, None, refl, sym, ap, ap₂, ◌∙◌}
use Rattle.std.specs.Prelude.{if◌then◌else◌}
use Rattle.std.specs.List.{AllZip}
use Rattle.c_text.specs.Token.{PlainToken}
use Rattle.bindings.specs.Visible.{NameSpace, Occurrence as BoundIdentifier}
use Rattle.bindings.specs.Bindings.{bindings_of}
use Rattle.bindings.specs.Judged.{Identified}
use Rattle.program_occurrences.specs.Occurrences.{UnitNames, names_of_unit, judged_behind, Occurrence, occurrences_of, declares_itself, CommonName, common_name}
use Rattle.program_occurrences.specs.Laws.{IsOccurrenceOf, OccurrencesAreBound}
use Rattle.name_spaces.specs.Spaces.{spaces_of}
use Rattle.name_spaces.specs.Laws.{common_by, IsTold, SpacesTellNames, binds_itself, BindingsTellDeclarations, declared_name, told_name, told_names, DeclaredNamesAreTold}

-- where it declares itself, both are told alike, and else there is none
one_name : (b : Bool) (first second : Option CommonName) → (b ≡ true → first ≡ second) → (if b then first else None) ≡ (if b then second else None)
one_name true first second same = same refl
one_name false first second same = refl

one_declared :
    (unit : UnitNames) (all : List Identified) (b : BoundIdentifier) (o : Occurrence) (space : Option NameSpace) → IsOccurrenceOf all b o → IsTold unit o space → binds_itself b ≡ declares_itself o
    → declared_name unit o ≡ told_name unit b space
one_declared unit all b o space is told same =
    one_name (declares_itself o) (common_name unit o.identifier) (common_by unit space o.identifier.token.text) told
    ∙ ap₂ (λ (c : Bool) (text : List ℕ). if c then common_by unit space text else None) (sym same) (ap (λ (t : PlainToken). t.text) is.token)

each_declared :
    (unit : UnitNames) (all : List Identified) (bs : List BoundIdentifier) (os : List Occurrence) (spaces : List (Option NameSpace)) → AllZip (IsOccurrenceOf all) bs os → AllZip (IsTold unit) os spaces
    → AllZip (λ b o. binds_itself b ≡ declares_itself o) bs os → map (declared_name unit) os ≡ told_names unit bs spaces
each_declared unit all [] [] spaces f g h = refl
each_declared unit all [] (o ∷ os) spaces f g h = absurd f
each_declared unit all (b ∷ bs) [] spaces f g h = absurd f
each_declared unit all (b ∷ bs) (o ∷ os) [] f g h = absurd g
each_declared unit all (b ∷ bs) (o ∷ os) (space ∷ spaces) f g h =
    ap₂ (λ (x : Option CommonName) (xs : List (Option CommonName)). x ∷ xs) (one_declared unit all b o space f.0 g.0 h.0) (each_declared unit all bs os spaces f.1 g.1 h.1)

pub declared_names : OccurrencesAreBound → SpacesTellNames → BindingsTellDeclarations → DeclaredNamesAreTold
declared_names bound told declared tree w structs state js judged =
    let unit : UnitNames = names_of_unit tree (judged_behind structs tree) in
    each_declared unit unit.identified (bindings_of tree) (occurrences_of unit) (spaces_of tree) (bound tree w structs state js judged) (told tree w structs state js judged) (declared tree w structs state js judged)
