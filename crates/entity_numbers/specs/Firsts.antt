-- The first identifiers of entities, told by the numbers of identifiers.
use Rattle.std.specs.Prelude.{◌≡◌, ℕ, suc, ◌≤◌, List, [], ◌∷◌}
use Rattle.std.specs.List.{AllZip}
use Rattle.core_meaning.specs.Checking.{Binding}
use Rattle.bindings.specs.Judged.{Identified, first_with, number_or}

-- identifiers with the entities to which these bindings bind them
abbrev pub AreOf : List Identified → List Binding → Type 0
AreOf identified bindings = AllZip (λ i b. i.entity ≡ b.entity) identified bindings

-- identifiers in the order of the text, the first with this number or a greater one
abbrev pub AreInOrder : ℕ → List Identified → Type 0
AreInOrder from [] = Unit {0}
AreInOrder from (i ∷ rest) = (from ≤ i.number) × AreInOrder (suc i.number) rest

-- the number of the first identifier among these that stands for the same
abbrev pub first_number : List Identified → Identified → ℕ
first_number all i = number_or (first_with i.entity all) i.number

-- two identifiers have one number, and so have the first ones that stand for the same
pub record AreFirstAlike (all others : List Identified) (i j : Identified) : Type 0 where
  pub number : i.number ≡ j.number
  pub first : first_number all i ≡ first_number others j

-- identifier by identifier
abbrev pub HaveFirstsAlike : List Identified → List Identified → Type 0
HaveFirstsAlike all others = AllZip (AreFirstAlike all others) all others
