-- Units of which is told one after the other.
use Rattle.std.proofs.Common.{◌≡◌, ℕ, suc, Bool, List, [], ◌∷◌, ◌++◌, length, sym, ap, subst, ◌∙◌, arith}
use Rattle.std.proofs.lemmas.List.{append-nil, append_assoc, length-append}
use Rattle.conditional.specs.declared.lists.CondList.{CondList}
use Rattle.choice_trees.specs.declared.trees.Forest.{Forest}
use Rattle.project_file.specs.declared.projects.Unit.{Unit}
use Rattle.cond_bindings.specs.declared.unit_bindings.UnitBindings.{UnitBindings}
use Rattle.link_faults.specs.declared.left.LeftUnit.{LeftUnit}
use Rattle.type_tables.specs.declared.tables.Tables.{Tables}
use Rattle.cond_selections.specs.declared.entries.Selection.{Selection}
use Rattle.told_occurrences.specs.declared.told.ToldUnit.{ToldUnit}
use Rattle.told_units.specs.Told.{IsToldAt, AreToldFrom}

module _ (on : ℕ → Bool) (bound : List UnitBindings) (left : List LeftUnit) (tables : Tables) (noted : List (CondList Selection)) (units : List Unit) (forests : List Forest) where
  -- What is told of the units that are left goes on to what is told of all.
  pub record GoesOn (so_far : List ToldUnit) (rest : List Unit) (trees : List Forest) : Type 0 where
    pub ends : (others : List ToldUnit) → AreToldFrom on bound left tables noted (length so_far) rest trees others → AreToldFrom on bound left tables noted 0 units forests (so_far ++ others)

  pub none_told : (so_far : List ToldUnit) (rest : List Unit) (trees : List Forest) → so_far ≡ [] → rest ≡ units → trees ≡ forests → GoesOn so_far rest trees
  none_told so_far rest trees none units_are forests_are = rw (none, units_are, forests_are) (record { ends = λ others h. h })

  pub one_more_told :
      (so_far new : List ToldUnit) (unit : Unit) (before rest : List Unit) (forest : Forest) (old trees : List Forest) (told : ToldUnit) (place : ℕ) → new ≡ so_far ++ told ∷ [] → before ≡ unit ∷ rest
      → old ≡ forest ∷ trees → place ≡ length so_far → IsToldAt on unit forest place bound left tables noted told → GoesOn so_far before old → GoesOn new rest trees
  one_more_told so_far new unit before rest forest old trees told place is units_are forests_are place_is tells so = record {
    ends = λ others h.
        let many : length new ≡ suc (length so_far) = omega (arith, ap (λ (l : List ToldUnit). length l) is, length-append so_far (told ∷ [])) in
        let at : IsToldAt on unit forest (length so_far) bound left tables noted told = subst (λ p. IsToldAt on unit forest p bound left tables noted told) place_is tells in
        let behind : AreToldFrom on bound left tables noted (suc (length so_far)) rest trees others = subst (λ p. AreToldFrom on bound left tables noted p rest trees others) many h in
        let all : AreToldFrom on bound left tables noted (length so_far) before old (told ∷ others) =
        subst (λ u. AreToldFrom on bound left tables noted (length so_far) u old (told ∷ others)) (sym units_are)
        (subst (λ f. AreToldFrom on bound left tables noted (length so_far) (unit ∷ rest) f (told ∷ others)) (sym forests_are) (at, behind)) in
        subst (λ l. AreToldFrom on bound left tables noted 0 units forests l) (sym (ap (λ l. l ++ others) is ∙ append_assoc so_far (told ∷ []) others)) (so.ends (told ∷ others) all);
  }

  pub all_told : (so_far : List ToldUnit) (rest : List Unit) (trees : List Forest) → rest ≡ [] → GoesOn so_far rest trees → AreToldFrom on bound left tables noted 0 units forests so_far
  all_told so_far rest trees none so =
      subst (λ l. AreToldFrom on bound left tables noted 0 units forests l) (append-nil so_far)
      (so.ends [] (subst (λ u. AreToldFrom on bound left tables noted (length so_far) u trees []) (sym none) tt))
