-- Tables that follow a scope have the members of its structs.
use Rattle.std.proofs.Common.{◌≡◌, ℕ, Bool, true, false, List, [], ◌∷◌, refl, sym, ap, subst, ◌∙◌}
use Rattle.std.specs.Prelude.{map, Some, slice_get, if◌then◌else◌}
use Rattle.c_types.specs.Tags.{PlainMember}
use Rattle.core_meaning.specs.Entities.{Struct, Scope}
use Rattle.operand_types.specs.OperandTypes.{renumbered}
use Rattle.type_tables.specs.Tables.{Tables}
use Rattle.type_tables.specs.Follows.{AreThere, types_of, renumbered_member, StructFollows, Follows}
use Rattle.cond_initialisers.specs.Refusals.{members_in}

types_renumbered : (by : ℕ → ℕ) (ms : List PlainMember) → types_of (map (renumbered_member by) ms) ≡ map (renumbered by) (types_of ms)
types_renumbered by [] = refl
types_renumbered by (m ∷ ms) = ap (λ ts. renumbered by m.ty ∷ ts) (types_renumbered by ms)

complete_or_not :
    (by : ℕ → ℕ) (t : Tables) (structs : List Struct) (n : ℕ) (s : Struct) (b : Bool) → StructFollows by t structs n s → s.complete ≡ b
    → (members_in t (by n) ≡ map (renumbered by) (types_of s.members)) × AreThere structs (types_of s.members)
complete_or_not by t structs n s true is e = (
  ap (λ b. if b then types_of (t.members (by n)) else []) (is.complete ∙ e) ∙ (ap types_of (is.members e) ∙ types_renumbered by s.members),
  is.there e,
)
complete_or_not by t structs n s false is e = (
  ap (λ b. if b then types_of (t.members (by n)) else []) (is.complete ∙ e) ∙ ap (λ ms. map (renumbered by) (types_of ms)) (sym (is.none_before e)),
  subst (λ ms. AreThere structs (types_of ms)) (sym (is.none_before e)) tt,
)

pub members_followed :
    (t : Tables) (scope : Scope) (f : Follows t scope) (n : ℕ) (s : Struct) → slice_get scope.structs n ≡ Some s
    → (members_in t (f.by n) ≡ map (renumbered f.by) (types_of s.members)) × AreThere scope.structs (types_of s.members)
members_followed t scope f n s found = complete_or_not f.by t scope.structs n s s.complete (f.structs n s found) refl
