-- A unit is declared to its end, and the structs that are there stay there.
use Rattle.std.proofs.Common.{◌≡◌, ℕ, Bool, ◌&&◌, ◌||◌, List, ap, ap₂, ◌∙◌}
use Rattle.std.specs.Prelude.{Option, Some, None, is_some}
use Rattle.c_text.specs.Token.{PlainToken}
use Rattle.c_tree.specs.Trees.{PlainTrees, none, more}
use Rattle.c_tree.specs.Grammar.{file_item}
use Rattle.tree_derivations.specs.Derivations.{Each}
use Rattle.core_meaning.specs.Checking.{Checked, fine, refused, broken, with_bindings, ◌>>=◌, give}
use Rattle.core_meaning.specs.Entities.{Struct}
use Rattle.core_meaning.specs.UnitNames.{UnitState, too_big_in, unless_too_big, judged_item, judged_file_items, judged_to_end}
use Rattle.type_tables.specs.Numbers.{FollowsBy}
use Rattle.cond_declarators.proofs.There.{Whole}
use Rattle.cond_units.specs.Seen.{SeenUnit}
use Rattle.cond_units.specs.Declaring.{IsUnit}
use Rattle.cond_units.specs.Where.{Where}
use Rattle.cond_units.specs.Items.{ItemGoesOn}
use Rattle.cond_units.specs.Units.{DeclaresItems}
use Rattle.cond_units.proofs.Growing.{UnitGrows, whole_then, whole_behind, item_grows}
use Rattle.cond_types.specs.Steps.{DeclaresToEnd}

module _ (by : ℕ → ℕ) (structs : List Struct) (parts : PlainTrees) where
  ends : (o : Checked UnitState) (first big later : Bool) (new : SeenUnit) → ItemGoesOn by structs o first new
      → ((numbers : ℕ → ℕ) (u : UnitState) → IsUnit numbers new u → big ≡ is_some (too_big_in u.scope parts)) → later ≡ (first || big)
      → ItemGoesOn by structs (o >>= (λ unit. unless_too_big (too_big_in unit.scope parts) >>= (λ small. give unit))) later new
  ends (fine u bindings) first big later new h size either = checked (too_big_in u.scope parts) (size h.1.numbers u h.1.is_unit)
    where
      checked : (o : Option PlainToken) → big ≡ is_some o → ItemGoesOn by structs (with_bindings bindings (unless_too_big o >>= (λ small. give u))) later new
      checked None e = (either ∙ ap₂ (λ (a b : Bool). a || b) h.0 e, h.1)
      checked (Some name) e = either ∙ ap₂ (λ (a b : Bool). a || b) h.0 e
  ends (refused kind token) first big later new h size either = either ∙ ap (λ (b : Bool). b || big) h
  ends broken first big later new h size either = either ∙ ap (λ (b : Bool). b || big) h

pub to_end_where :
    (here : Bool) (globals : ℕ) (parts : PlainTrees) (old new : SeenUnit) (first big later : Bool) → Where here (DeclaresItems globals parts) old new first
    → ((by : ℕ → ℕ) (u : UnitState) → FollowsBy by new.tables u.scope → Each file_item parts → big ≡ is_some (too_big_in u.scope parts)) → later ≡ (first || (here && big))
    → Where here (DeclaresToEnd globals parts) old new later
to_end_where here globals parts old new first big later does size either = record {
  elsewhere = λ off. let none_done = does.elsewhere off in (none_done.0, either ∙ ap₂ (λ (a b : Bool). a || (b && big)) none_done.1 off);
  does = λ on. record {
    goes_on = λ by unit is_unit ready.
        ends by unit.scope.structs parts (judged_file_items globals unit parts) first (here && big) later new ((does.does on).goes_on by unit is_unit ready)
        (λ numbers u x. ap (λ (b : Bool). b && big) on ∙ size numbers u x.tables ready) either;
  };
}

-- ---- the structs stay there

module _ (structs : List Struct) (globals : ℕ) where
  items_grow : (unit : UnitState) (parts : PlainTrees) → UnitGrows structs unit → Whole (UnitGrows structs) (judged_file_items globals unit parts)
  items_grow unit none h = h
  items_grow unit (more tree rest) h =
      whole_then (UnitGrows structs) (UnitGrows structs) (judged_item globals unit tree rest) (λ first. judged_file_items globals first rest) (item_grows structs globals unit tree rest h)
      (λ first grows. items_grow first rest grows)

  pub unit_grows : (unit : UnitState) (parts : PlainTrees) → UnitGrows structs unit → Whole (UnitGrows structs) (judged_to_end globals unit parts)
  unit_grows unit parts h =
      whole_then (UnitGrows structs) (UnitGrows structs) (judged_file_items globals unit parts) (λ unit. unless_too_big (too_big_in unit.scope parts) >>= (λ small. give unit)) (items_grow unit parts h)
      (λ last grows. whole_behind (UnitGrows structs) (unless_too_big (too_big_in last.scope parts)) (λ small. give last) (λ small. grows))
