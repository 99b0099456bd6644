-- The units are gone through as they are judged, and their uses noted one after the other.
use Rattle.std.proofs.Common.{◌≡◌, ℕ, ◌+◌, Bool, true, false, List, [], ◌∷◌, ◌++◌, map, refl, sym, ap, ◌∙◌, subst, append_assoc, append-nil, if◌then◌else◌}
use Rattle.std.specs.Prelude.{Some, slice_get}
use Rattle.cond_formula.specs.Conditions.{condition_of, value}
use Rattle.c_tree.specs.declared.kinds.Kind.TheVariants as k
use Rattle.c_tree.specs.Trees.{PlainTree, PlainTrees, node}
use Rattle.tree_derivations.specs.Derivations.{UnitsAreDerived}
use Rattle.choice_trees.specs.declared.trees.Forest.{Forest}
use Rattle.choice_trees.specs.ChoiceTrees.{plain_choices, parts_at}
use Rattle.project_file.specs.declared.projects.Unit.{Unit}
use Rattle.bindings.specs.Laws.{AreWritten}
use Rattle.core_meaning.specs.Checking.{Binding, Checked, fine, refused, broken, ◌>>=◌, give}
use Rattle.core_meaning.specs.Entities.{Struct, Numbers}
use Rattle.core_meaning.specs.Linking.{Units, closed, judged_units}
use Rattle.core_meaning.specs.UnitNames.{UnitState, unit_start, too_big_in, unless_too_big, judged_file_items, judged_unit}
use Rattle.core_meaning.proofs.Outlines.{bound, given_is}
use Rattle.operand_types.specs.Laws.{KeepsApart}
use Rattle.member_uses.specs.Uses.{Use, uses_in}
use Rattle.unit_member_uses.specs.Laws.{ScopesKeepNames, UnitsAreUsed}
use Rattle.cond_scopes.specs.Units.{present_trees}
use Rattle.type_tables.specs.Follows.{StructFollows}
use Rattle.type_tables.specs.Numbers.{NumbersKept}
use Rattle.type_tables.specs.Seen.{seen_tables}
use Rattle.type_tables.proofs.Renumbering.{Has}
use Rattle.cond_declarators.proofs.There.{whole_of}
use Rattle.cond_units.proofs.Growing.{UnitGrows, has_itself}
use Rattle.cond_types.proofs.AtEnd.{unit_grows}
use Rattle.cond_units.specs.Seen.{SeenUnit, seen_unit}
use Rattle.cond_units.specs.declared.units.UnitTables.{UnitTables}
use Rattle.cond_units.specs.Declaring.{IsUnit}
use Rattle.cond_types.specs.Leaving.{unit_before_all}
use Rattle.cond_types.proofs.LeftUnits.{next_begins, first_by, first_begins}
use Rattle.cond_unit_uses.specs.Noted.{uses_at}
use Rattle.cond_unit_uses.specs.Units.{structs_behind, uses_in_units, of_units, TakesUnit, AreNoted}
use Rattle.cond_unit_uses.specs.declared.units.UnitUses.{UnitUses}

-- ---- a unit that is judged well

-- its structs are those of its end
structs_closed : (c : Checked UnitState) (first : Units) (bindings : List Binding) → closed c ≡ fine first bindings → (state : UnitState) × (js : List Binding) × (c ≡ fine state js) × (first.structs ≡ state.scope.structs)
structs_closed (fine state js) first bindings e = (state, js, refl, sym (ap (λ (u : Units). u.structs) (closed_is e)))
  where
    closed_is : {u v : Units} {x y : List Binding} → fine u x ≡ fine v y → u ≡ v
    closed_is e = cc
structs_closed (refused kind token) first bindings e = absurd cc
structs_closed broken first bindings e = absurd cc

-- so are its items
items_judged : (globals : ℕ) (structs : List Struct) (numbers : Numbers) (parts : PlainTrees) (state : UnitState) (js : List Binding) → judged_unit globals structs numbers (node k.Unit parts) ≡ fine state js
    → (bindings : List Binding) × (judged_file_items globals (unit_start structs numbers) parts ≡ fine state bindings)
items_judged globals structs numbers parts state js e =
    let b = bound (judged_file_items globals (unit_start structs numbers) parts) (λ unit. unless_too_big (too_big_in unit.scope parts) >>= (λ small. give unit)) state js e in
    let c = bound (unless_too_big (too_big_in b.value.scope parts)) (λ small. give b.value) state b.behind b.rest in
    (b.before, subst (λ (u : UnitState). judged_file_items globals (unit_start structs numbers) parts ≡ fine u b.before) (given_is b.value state c.behind c.rest) b.first)

-- ---- all units

module _ (on : ℕ → Bool) where
  absent_first : (unit : Unit) (units : List Unit) (all : List (List Use)) → value on (condition_of unit.when) ≡ false → of_units on (unit ∷ units) all ≡ [] ∷ of_units on units all
  absent_first unit units [] off = refl
  absent_first unit units (uses ∷ rest) off = ap (λ b. if b then uses ∷ of_units on units rest else [] ∷ of_units on units (uses ∷ rest)) off

  present_first : (unit : Unit) (units : List Unit) (uses : List Use) (rest : List (List Use)) → value on (condition_of unit.when) ≡ true → of_units on (unit ∷ units) (uses ∷ rest) ≡ uses ∷ of_units on units rest
  present_first unit units uses rest here = ap (λ b. if b then uses ∷ of_units on units rest else [] ∷ of_units on units (uses ∷ rest)) here

  module _ (globals : ℕ) (numbers : ℕ → Numbers) (all_units : List Unit) (all_trees : List PlainTree) (final : List Struct) where
    -- The next unit begins behind these structs, those that are left are judged well, and what has been noted goes on to what all use.
    pub record IsReached (logs : List (List Use)) (next : SeenUnit) (units : List Unit) (rest : List PlainTree) : Type 0 where
      pub by : ℕ → ℕ
      pub structs : List Struct
      pub index : ℕ
      pub begins : (n : Numbers) → IsUnit by next (unit_start structs n)
      pub linked : Units
      pub bindings : List Binding
      pub judged : judged_units numbers globals index structs rest ≡ fine linked bindings
      pub linked_is : linked.structs ≡ final
      pub written : AreWritten rest
      pub noted :
          (m : ℕ → ℕ) → KeepsApart m → NumbersKept structs by m
          → logs ++ of_units on units (uses_in_units m numbers globals index structs rest) ≡ of_units on all_units (uses_in_units m numbers globals 0 [] all_trees)

    pub units_begin : (logs : List (List Use)) (next : SeenUnit) (linked : Units) (bindings : List Binding) → logs ≡ [] → next ≡ unit_before_all → linked.structs ≡ final → AreWritten all_trees
        → judged_units numbers globals 0 [] all_trees ≡ fine linked bindings → IsReached logs next all_units all_trees
    units_begin logs next linked bindings none nothing same written judged = record {
      by = first_by;
      structs = [];
      index = 0;
      begins = first_begins next nothing;
      linked = linked;
      bindings = bindings;
      judged = judged;
      linked_is = same;
      written = written;
      noted = λ m apart kept. ap (λ l. l ++ of_units on all_units (uses_in_units m numbers globals 0 [] all_trees)) none;
    }

    module _ (units_used : UnitsAreUsed) (derived : UnitsAreDerived) (scopes : ScopesKeepNames) (unit : Unit) (units : List Unit) (parts : PlainTrees) (rest : List PlainTree) (logs : List (List Use)) (uses : List Use)
        (old new : SeenUnit) where
      -- one more that is present
      present : value on (condition_of unit.when) ≡ true → TakesUnit true parts old new uses → IsReached logs old (unit ∷ units) (node k.Unit parts ∷ rest) → IsReached (logs ++ uses ∷ []) new units rest
      present here step at =
          let tree : PlainTree = node k.Unit parts in
          let judgement : Checked UnitState = judged_unit globals at.structs (numbers at.index) tree in
          let behind : Units → Checked Units = λ first. judged_units numbers globals (at.index + 1) first.structs rest >>= (λ others. give (record { units = first.units ++ others.units; structs = others.structs })) in
          let b = bound (closed judgement) behind at.linked at.bindings at.judged in
          let first = structs_closed judgement b.value b.before b.first in
          let state : UnitState = first.0 in
          let c = bound (judged_units numbers globals (at.index + 1) b.value.structs rest) (λ others. give (record { units = b.value.units ++ others.units; structs = others.structs })) at.linked b.behind b.rest in
          let items = items_judged globals at.structs (numbers at.index) parts state first.1 first.2 in
          let start : UnitState = unit_start at.structs (numbers at.index) in
          let has : Has at.structs state.scope.structs = whole_of (UnitGrows at.structs) judgement state first.1 (unit_grows at.structs globals start parts (has_itself at.structs)) first.2 in
          let comes = ((step.notes globals).does refl).notes at.by start state items.0 (at.begins (numbers at.index)) (scopes.starts at.structs (numbers at.index)) (derived tree at.written.0.unit, at.written.0.pieces) items.1 in
          record {
            by = comes.anew.numbers;
            structs = state.scope.structs;
            index = at.index + 1;
            begins = next_begins comes.anew.numbers step.at_end new state step.next_is comes.anew.is_unit;
            linked = c.value;
            bindings = c.before;
            judged = ap (λ structs. judged_units numbers globals (at.index + 1) structs rest) (sym first.3) ∙ c.first;
            linked_is = ap (λ (u : Units). u.structs) (given_is _ at.linked c.behind c.rest) ∙ at.linked_is;
            written = at.written.1;
            noted = λ m apart kept.
                let others : List (List Use) = uses_in_units m numbers globals (at.index + 1) state.scope.structs rest in
                append_assoc logs (uses ∷ []) (of_units on units others)
                ∙ ap (λ l. logs ++ l)
                (ap (λ x. x ∷ of_units on units others) (comes.noted m apart kept ∙ sym (units_used m parts at.written.0 globals at.structs (numbers at.index) state first.1 first.2))
                ∙ ap (λ j. uses_in m tree judgement ∷ of_units on units (uses_in_units m numbers globals (at.index + 1) (structs_behind at.structs j) rest)) (sym first.2)
                ∙ sym (present_first unit units (uses_in m tree judgement) (uses_in_units m numbers globals (at.index + 1) (structs_behind at.structs judgement) rest) here))
                ∙ at.noted m apart (λ n s e. let there = has n s e in comes.anew.kept n s e ∙ kept n there.0 there.1);
          }

      -- one more that isn't
      absent : value on (condition_of unit.when) ≡ false → TakesUnit false parts old new uses → IsReached logs old (unit ∷ units) rest → IsReached (logs ++ uses ∷ []) new units rest
      absent off step at =
          let same = (step.notes globals).elsewhere refl in
          record {
            by = at.by;
            structs = at.structs;
            index = at.index;
            begins = next_begins at.by step.at_end new (unit_start at.structs (numbers at.index)) step.next_is (same.unit.stays at.by (unit_start at.structs (numbers at.index)) (at.begins (numbers at.index)));
            linked = at.linked;
            bindings = at.bindings;
            judged = at.judged;
            linked_is = at.linked_is;
            written = at.written;
            noted = λ m apart kept.
                let all : List (List Use) = uses_in_units m numbers globals at.index at.structs rest in
                append_assoc logs (uses ∷ []) (of_units on units all)
                ∙ ap (λ l. logs ++ l) (ap (λ x. x ∷ of_units on units all) same.uses ∙ sym (absent_first unit units all off))
                ∙ at.noted m apart kept;
          }

      next_unit : (here : Bool) → value on (condition_of unit.when) ≡ here → TakesUnit here parts old new uses → IsReached logs old (unit ∷ units) (if here then node k.Unit parts ∷ rest else rest)
          → IsReached (logs ++ uses ∷ []) new units rest
      next_unit true e step at = present e step at
      next_unit false e step at = absent e step at

    -- ---- the ends

    -- other names for what is ahead
    pub ahead_are : (logs : List (List Use)) (next : SeenUnit) (units left_units : List Unit) (forests left_forests : List Forest) → units ≡ left_units → forests ≡ left_forests
        → IsReached logs next units (present_trees on units forests) → IsReached logs next left_units (present_trees on left_units left_forests)
    ahead_are logs next units left_units forests left_forests same_units same_forests at =
        subst (λ list. IsReached logs next list (present_trees on list left_forests)) same_units (subst (λ list. IsReached logs next units (present_trees on units list)) same_forests at)

    pub one_more_unit : UnitsAreUsed → UnitsAreDerived → ScopesKeepNames → (unit : Unit) (units : List Unit) (forest : Forest) (forests : List Forest) (logs more : List (List Use)) (uses : List Use) (old new : SeenUnit)
        → more ≡ logs ++ uses ∷ [] → TakesUnit (value on (condition_of unit.when)) (parts_at on k.Unit 0 (plain_choices forest.items.items)) old new uses
        → IsReached logs old (unit ∷ units) (present_trees on (unit ∷ units) (forest ∷ forests)) → IsReached more new units (present_trees on units forests)
    one_more_unit used derived scopes unit units forest forests logs more uses old new is step at =
        subst (λ l. IsReached l new units (present_trees on units forests)) (sym is)
        (next_unit used derived scopes unit units (parts_at on k.Unit 0 (plain_choices forest.items.items)) (present_trees on units forests) logs uses old new (value on (condition_of unit.when)) refl step at)

    pub units_end : (noted : UnitUses) (next : UnitTables) (logs : List (List Use)) → map (uses_at on) noted.units.items ≡ logs → noted.tables ≡ next.tables → IsReached logs (seen_unit on next) [] []
        → AreNoted on final all_units (λ by. uses_in_units by numbers globals 0 [] all_trees) noted
    units_end noted next logs are tables at =
        let begun = (at.begins (numbers at.index)).tables in
        let apart : KeepsApart at.by = subst KeepsApart begun.numbers begun.follows.apart in
        let structs : at.structs ≡ final = ap (λ (u : Units). u.structs) (given_is _ at.linked at.bindings at.judged) ∙ at.linked_is in
        record {
          by = at.by;
          apart = apart;
          uses_are = are ∙ (sym (append-nil logs) ∙ at.noted at.by apart (λ n s e. refl));
          structs_are =
              subst (λ (list : List Struct). (n : ℕ) (s : Struct) → slice_get list n ≡ Some s → StructFollows at.by (seen_tables on noted.tables) list n s) structs
              (subst (λ t. (n : ℕ) (s : Struct) → slice_get at.structs n ≡ Some s → StructFollows at.by (seen_tables on t) at.structs n s) (sym tables)
              (λ n s e. subst (λ (m : ℕ → ℕ). StructFollows m (seen_tables on next.tables) at.structs n s) begun.numbers (begun.follows.structs n s e)));
        }
