-- The items of a unit are gone through as they are judged, and their uses noted one after the other.
use Rattle.std.proofs.Common.{◌≡◌, ℕ, ◌+◌, ◌<◌, ◌≤◌, Bool, true, false, List, [], ◌∷◌, ◌++◌, drop, length, get_or, refl, sym, ap, ◌∙◌, subst, append_assoc, append-nil, if◌then◌else◌}
use Rattle.cond_formula.specs.Conditions.{condition_of, value}
use Rattle.conditional.specs.Entries.{seen}
use Rattle.conditional_steps.proofs.FirstAlternative.{next_seen, none_seen}
use Rattle.c_tree.specs.Trees.{PlainTree, PlainTrees, more, trees, spelled, all_written}
use Rattle.c_tree.specs.Grammar.{file_item}
use Rattle.tree_derivations.specs.Derivations.{Derivation, Each, one_more}
use Rattle.bindings.specs.Laws.{ArePieces}
use Rattle.choice_trees.specs.ChoiceTrees.{plain_item, item_at}
use Rattle.declarator_lists.specs.Entries.{entry_at, entries_at}
use Rattle.declarator_lists.specs.declared.items.ListEntry.{ListEntry}
use Rattle.core_meaning.specs.Checking.{Binding, Checked, fine}
use Rattle.core_meaning.specs.UnitNames.{UnitState, judged_item, judged_file_items}
use Rattle.core_meaning.proofs.Outlines.{bound, given_is}
use Rattle.operand_types.specs.Laws.{KeepsApart}
use Rattle.selections.specs.Laws.{HasNames}
use Rattle.member_uses.specs.Uses.{Use, uses_in}
use Rattle.unit_member_uses.specs.Items.{behind_item, uses_in_items}
use Rattle.unit_member_uses.specs.Laws.{ItemsKeepNames}
use Rattle.type_tables.specs.Numbers.{NumbersKept}
use Rattle.type_tables.proofs.Renumbering.{Has}
use Rattle.cond_declarators.proofs.There.{whole_of}
use Rattle.cond_member_uses.proofs.Pieces.{first_pieces, rest_pieces}
use Rattle.cond_units.specs.Declaring.{IsUnit}
use Rattle.cond_units.specs.Items.{GoesOnAnew}
use Rattle.cond_units.proofs.Growing.{UnitGrows, has_itself, item_grows}
use Rattle.cond_units.proofs.Staying.{staying}
use Rattle.cond_unit_uses.specs.Noted.{NotedUnit, Stays, Where, Comes, NotesItem}

first_derived : {tree : PlainTree} {rest : PlainTrees} → Each file_item (more tree rest) → Derivation file_item tree
first_derived (one_more d others) = d

rest_derived : {tree : PlainTree} {rest : PlainTrees} → Each file_item (more tree rest) → Each file_item rest
rest_derived (one_more d others) = others

-- ---- what stays so

pub stays_same : (a : NotedUnit) → Stays a a
stays_same a = record { unit = staying.same a.unit; uses = refl }

pub stays_again : (a b c : NotedUnit) → Stays a b → Stays b c → Stays a c
stays_again a b c x y = record { unit = staying.again a.unit b.unit c.unit x.unit y.unit; uses = y.uses ∙ x.uses }

-- ---- items

module _ (globals : ℕ) (by : ℕ → ℕ) (start : UnitState) (parts : PlainTrees) (final : UnitState) (before : List Use) where
  -- a unit has been reached behind which the rest of the items is judged well, and what has been noted goes on to what all use
  pub record IsReached (rest : List PlainTree) (now : NotedUnit) : Type 0 where
    pub unit : UnitState
    pub anew : GoesOnAnew by start.scope.structs unit now.unit
    pub grows : UnitGrows start.scope.structs unit
    pub names : HasNames unit.scope
    pub ready : Each file_item (trees rest)
    pub pieces : ArePieces (all_written (trees rest) [])
    pub bindings : List Binding
    pub judged : judged_file_items globals unit (trees rest) ≡ fine final bindings
    pub noted :
        (numbers : ℕ → ℕ) → KeepsApart numbers → NumbersKept unit.scope.structs anew.numbers numbers
        → now.uses ++ uses_in_items numbers globals unit (trees rest) ≡ before ++ uses_in_items numbers globals start parts

  pub reached_begin : (rest : List PlainTree) (now : NotedUnit) (bindings : List Binding) → trees rest ≡ parts → now.uses ≡ before → IsUnit by now.unit start → HasNames start.scope → Each file_item (trees rest)
      → ArePieces (all_written (trees rest) []) → judged_file_items globals start (trees rest) ≡ fine final bindings → IsReached rest now
  reached_begin rest now bindings all nothing is_unit names ready pieces judged = record {
    unit = start;
    anew = record { numbers = by; is_unit = is_unit; kept = λ n s e. refl };
    grows = has_itself start.scope.structs;
    names = names;
    ready = ready;
    pieces = pieces;
    bindings = bindings;
    judged = judged;
    noted = λ numbers apart kept. ap (λ l. l ++ uses_in_items numbers globals start (trees rest)) nothing ∙ ap (λ ps. before ++ uses_in_items numbers globals start ps) all;
  }

  -- an item that is there
  one_reached : ItemsKeepNames → (tree : PlainTree) (rest : List PlainTree) (old new : NotedUnit) → NotesItem globals tree (trees rest) old new → IsReached (tree ∷ rest) old → IsReached rest new
  one_reached keep tree rest old new does at =
      let item : Checked UnitState = judged_item globals at.unit tree (trees rest) in
      let b = bound item (λ first. judged_file_items globals first (trees rest)) final at.bindings at.judged in
      let first : UnitState = b.value in
      let derived = first_derived at.ready in
      let spelt : ArePieces (spelled tree) = first_pieces tree (trees rest) at.pieces in
      let c = does.notes at.anew.numbers at.unit first b.before at.anew.is_unit at.names (derived, spelt) b.first in
      let has : Has at.unit.scope.structs first.scope.structs = whole_of (UnitGrows at.unit.scope.structs) item first b.before (item_grows at.unit.scope.structs globals at.unit tree (trees rest) (has_itself at.unit.scope.structs)) b.first in
      record {
        unit = first;
        anew = record { numbers = c.anew.numbers; is_unit = c.anew.is_unit; kept = λ n s e. let there = at.grows n s e in at.anew.kept n s e ∙ c.anew.kept n there.0 there.1 };
        grows = whole_of (UnitGrows start.scope.structs) item first b.before (item_grows start.scope.structs globals at.unit tree (trees rest) at.grows) b.first;
        names = keep globals at.unit at.names tree derived spelt (trees rest) first b.before b.first;
        ready = rest_derived at.ready;
        pieces = rest_pieces tree (trees rest) at.pieces;
        bindings = b.behind;
        judged = b.rest;
        noted = λ numbers apart kept.
            let uses : List Use = uses_in numbers tree item in
            let others : List Use = uses_in_items numbers globals first (trees rest) in
            ap (λ l. l ++ others) (c.noted numbers apart kept) ∙ append_assoc old.uses uses others
            ∙ ap (λ m. old.uses ++ (uses ++ uses_in_items numbers globals (behind_item at.unit m) (trees rest))) (sym b.first)
            ∙ at.noted numbers apart (λ n s e. let there = has n s e in c.anew.kept n s e ∙ kept n there.0 there.1);
      }

  -- one that isn't
  none_reached : (rest : List PlainTree) (old new : NotedUnit) → Stays old new → IsReached rest old → IsReached rest new
  none_reached rest old new same at = record {
    unit = at.unit;
    anew = record { numbers = at.anew.numbers; is_unit = same.unit.stays at.anew.numbers at.unit at.anew.is_unit; kept = at.anew.kept };
    grows = at.grows;
    names = at.names;
    ready = at.ready;
    pieces = at.pieces;
    bindings = at.bindings;
    judged = at.judged;
    noted = λ numbers apart kept. ap (λ l. l ++ uses_in_items numbers globals at.unit (trees rest)) same.uses ∙ at.noted numbers apart kept;
  }

  reached_next : ItemsKeepNames → (here : Bool) (tree : PlainTree) (list rest : List PlainTree) (old new : NotedUnit) → list ≡ (if here then tree ∷ rest else rest) → Where here (NotesItem globals tree (trees rest)) old new
      → IsReached list old → IsReached rest new
  reached_next keep true tree list rest old new is does at = one_reached keep tree rest old new (does.does refl) (subst (λ l. IsReached l old) is at)
  reached_next keep false tree list rest old new is does at = none_reached rest old new (does.elsewhere refl) (subst (λ l. IsReached l old) is at)

  pub reached_end : (old now : NotedUnit) → old.uses ≡ before → IsReached [] now → Comes by start.scope.structs final (λ numbers. uses_in_items numbers globals start parts) old now
  reached_end old now nothing at =
      subst (λ u. Comes by start.scope.structs u (λ numbers. uses_in_items numbers globals start parts) old now) (given_is at.unit final at.bindings at.judged)
      (record {
        anew = at.anew;
        noted = λ numbers apart kept. sym (append-nil now.uses) ∙ at.noted numbers apart kept ∙ ap (λ l. l ++ uses_in_items numbers globals start parts) (sym nothing);
      })

  -- ---- the entries of a list

  module _ (on : ℕ → Bool) (list : List ListEntry) where
    pub entry_reached : ItemsKeepNames → (place : ℕ) (entry : ListEntry) (old new : NotedUnit) → place < length list → entry ≡ get_or list place entry
        → Where (value on (condition_of entry.when)) (NotesItem globals (item_at on (plain_item entry.item.now)) (trees (seen on (entries_at on (drop (place + 1) list))))) old new
        → IsReached (seen on (entries_at on (drop place list))) old → IsReached (seen on (entries_at on (drop (place + 1) list))) new
    entry_reached keep place entry old new within is does at =
        reached_next keep (value on (condition_of entry.when)) (item_at on (plain_item entry.item.now)) (seen on (entries_at on (drop place list))) (seen on (entries_at on (drop (place + 1) list))) old new
        (next_seen on (entry_at on) list place entry within is) does at

    pub entries_reached : (place : ℕ) (old now : NotedUnit) → length list ≤ place → old.uses ≡ before → IsReached (seen on (entries_at on (drop place list))) now
        → Comes by start.scope.structs final (λ numbers. uses_in_items numbers globals start parts) old now
    entries_reached place old now past nothing at = reached_end old now nothing (subst (λ l. IsReached l now) (none_seen on (entry_at on) list place past) at)
