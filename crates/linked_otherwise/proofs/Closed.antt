-- Declarations of one name with external linkage bring one another along.
use Rattle.std.proofs.Common.{◌≡◌, ℕ, Bool, true, false, List, refl, ap, sym, ◌∙◌, IsTrue}
use Rattle.std.specs.Prelude.{Some, None, if◌then◌else◌}
use Rattle.std.specs.Cmp.{both_ways}
use Rattle.std.proofs.lemmas.Option.{none-some}
use Rattle.program_occurrences.specs.Occurrences.{UnitNames, Occurrence, declares_itself, CommonName, external_name, common_name}
use Rattle.program_occurrences.specs.Classes.{file_token, Brings, by_name}
use Rattle.name_spaces.specs.Laws.{declared_name}
use Rattle.linked_otherwise.specs.Otherwise.{ExternalDeclaration, token_of}
use Rattle.linked_otherwise.specs.Laws.{ClosedAreRenamedTogether}
use Rattle.linked_otherwise.proofs.Units.{known-so}

-- what declares a name declares itself
itself-so : (unit : UnitNames) (o : Occurrence) (name : CommonName) → declared_name unit o ≡ Some name → IsTrue (declares_itself o)
itself-so unit o name e = by (declares_itself o) e
  where
    by : (b : Bool) → (if b then common_name unit o.identifier else None) ≡ Some name → IsTrue b
    by true f = refl
    by false f = absurd (none-some name f)

brings : (units : List UnitNames) (d e : ExternalDeclaration units) → d.name ≡ e.name → Brings units (file_token d.found.occurrence) (file_token e.found.occurrence)
brings units d e same =
    by_name d.found e.found (external_name d.name) (itself-so d.found.unit d.found.occurrence (external_name d.name) d.declares) (itself-so e.found.unit e.found.occurrence (external_name e.name) e.declares)
    (known-so d.found.unit d.found.occurrence d.name d.declares)
    (known-so e.found.unit e.found.occurrence e.name e.declares ∙ ap (λ (name : List ℕ). Some (external_name name)) (sym same))

pub closed-together : ClosedAreRenamedTogether
closed-together of_class units h = record {
  together = λ d e same.
      both_ways (of_class (token_of d)) (of_class (token_of e)) (h.closed d.found e.found (brings units d e same)) (h.closed e.found d.found (brings units e d (sym same)));
}
