-- The items of a unit are gone through as they are judged.
use Rattle.std.proofs.Common.{◌≡◌, ℕ, ◌+◌, ◌<◌, ◌≤◌, Bool, true, false, ◌||◌, List, [], ◌∷◌, drop, length, get_or, refl, sym, ap, ◌∙◌, subst, if◌then◌else◌}
use Rattle.std.proofs.lemmas.List.{drop_all}
use Rattle.cond_formula.specs.Conditions.{condition_of, value}
use Rattle.conditional.specs.Entries.{seen}
use Rattle.conditional.proofs.ListLaws.{item_of}
use Rattle.c_tree.specs.Trees.{PlainTree, PlainTrees, none, more, trees}
use Rattle.c_tree.specs.Grammar.{file_item}
use Rattle.tree_derivations.specs.Derivations.{Derivation, Each, one_more}
use Rattle.choice_trees.specs.ChoiceTrees.{plain_item, item_at}
use Rattle.conditional_steps.proofs.Alternatives.{or_nothing}
use Rattle.declarator_lists.specs.Lists.{trees_of}
use Rattle.declarator_lists.specs.Entries.{entries_at}
use Rattle.declarator_lists.specs.declared.items.ListEntry.{ListEntry}
use Rattle.core_meaning.specs.Checking.{Binding, Checked, fine, refused, broken, with_bindings, ◌>>=◌}
use Rattle.core_meaning.specs.Entities.{Struct}
use Rattle.core_meaning.specs.UnitNames.{UnitState, judged_item, judged_file_items}
use Rattle.type_tables.specs.Numbers.{NumbersKept}
use Rattle.cond_declarators.proofs.There.{whole_of}
use Rattle.cond_units.specs.Seen.{SeenUnit}
use Rattle.cond_units.specs.Declaring.{IsUnit}
use Rattle.cond_units.specs.Where.{Where}
use Rattle.cond_units.specs.Items.{GoesOnAnew, ItemGoesOn, DeclaresItem}
use Rattle.cond_units.specs.Units.{one_item}
use Rattle.cond_units.proofs.Growing.{UnitGrows, has_itself, item_grows}

pub trees_again : (parts : PlainTrees) → trees (trees_of parts) ≡ parts
trees_again none = refl
trees_again (more tree rest) = ap (more tree) (trees_again rest)

ready_first : {tree : PlainTree} {rest : PlainTrees} → Each file_item (more tree rest) → Derivation file_item tree
ready_first (one_more d others) = d

ready_rest : {tree : PlainTree} {rest : PlainTrees} → Each file_item (more tree rest) → Each file_item rest
ready_rest (one_more d others) = others

module _ (globals : ℕ) (by : ℕ → ℕ) (structs : List Struct) (whole : Checked UnitState) where
  -- what the rest of the items makes of a unit is what all make of the first one
  abbrev pub Leads : List PlainTree → UnitState → Type 0
  Leads rest unit = (f : Bool) (s : SeenUnit) → ItemGoesOn by structs (judged_file_items globals unit (trees rest)) f s → ItemGoesOn by structs whole f s

  -- a unit that is seen has been reached, in which the first structs have the numbers that they had
  pub record IsReached (rest : List PlainTree) (s : SeenUnit) (unit : UnitState) : Type 0 where
    pub anew : GoesOnAnew by structs unit s
    pub grows : UnitGrows structs unit
    pub ready : Each file_item (trees rest)
    pub leads : Leads rest unit

  -- so it is; or one has been refused
  pub data SoFar (rest : List PlainTree) (s : SeenUnit) (f : Bool) : Type 0 where
    going : (unit : UnitState) → f ≡ false → IsReached rest s unit → SoFar rest s f
    declined : f ≡ true → ((t : SeenUnit) → ItemGoesOn by structs whole true t) → SoFar rest s f

  goes_still : (before : List Binding) (next : Checked UnitState) (f : Bool) (s : SeenUnit) → ItemGoesOn by structs next f s → ItemGoesOn by structs (with_bindings before next) f s
  goes_still before (fine unit bindings) f s h = h
  goes_still before (refused kind token) f s h = h
  goes_still before broken f s h = h

  one_judged :
      (tree : PlainTree) (rest : List PlainTree) (new : SeenUnit) (found later : Bool) (unit : UnitState) (numbers : ℕ → ℕ) → later ≡ found → NumbersKept structs by numbers → UnitGrows structs unit
      → Each file_item (trees rest)
      → ((f : Bool) (s : SeenUnit) → ItemGoesOn by structs (judged_item globals unit tree (trees rest) >>= (λ first. judged_file_items globals first (trees rest))) f s → ItemGoesOn by structs whole f s)
      → (o : Checked UnitState) → judged_item globals unit tree (trees rest) ≡ o → ItemGoesOn numbers unit.scope.structs o found new → SoFar rest new later
  one_judged tree rest new found later unit numbers is kept grows others leads (fine first bindings) e h =
      going first (is ∙ h.0) (record {
        anew = record { numbers = h.1.numbers; is_unit = h.1.is_unit; kept = λ n s at. let there = grows n s at in kept n s at ∙ h.1.kept n there.0 there.1 };
        grows = whole_of (UnitGrows structs) (judged_item globals unit tree (trees rest)) first bindings (item_grows structs globals unit tree (trees rest) grows) e;
        ready = others;
        leads = λ f s c. leads f s (subst (λ o. ItemGoesOn by structs (o >>= (λ first. judged_file_items globals first (trees rest))) f s) (sym e)
            (goes_still bindings (judged_file_items globals first (trees rest)) f s c));
      })
  one_judged tree rest new found later unit numbers is kept grows others leads (refused kind token) e h =
      declined (is ∙ h) (λ s. leads true s (subst (λ o. ItemGoesOn by structs (o >>= (λ first. judged_file_items globals first (trees rest))) true s) (sym e) refl))
  one_judged tree rest new found later unit numbers is kept grows others leads broken e h =
      declined (is ∙ h) (λ s. leads true s (subst (λ o. ItemGoesOn by structs (o >>= (λ first. judged_file_items globals first (trees rest))) true s) (sym e) refl))

  one_more_item :
      (tree : PlainTree) (here : Bool) (before rest : List PlainTree) (old new : SeenUnit) (earlier found later : Bool) → before ≡ (if here then tree ∷ rest else rest) → later ≡ (earlier || found)
      → Where here (DeclaresItem (one_item globals tree (trees rest)) (Derivation file_item tree)) old new found → SoFar before old earlier → SoFar rest new later
  one_more_item tree true before rest old new earlier found later is either does (going unit accepted at) =
      let all = subst (λ list. Each file_item (trees list)) is at.ready in
      one_judged tree rest new found later unit at.anew.numbers (either ∙ ap (λ (b : Bool). b || found) accepted) at.anew.kept at.grows (ready_rest all) (subst (λ list. Leads list unit) is at.leads)
      (judged_item globals unit tree (trees rest)) refl ((does.does refl).goes_on at.anew.numbers unit at.anew.is_unit (ready_first all))
  one_more_item tree false before rest old new earlier found later is either does (going unit accepted at) =
      let none = does.elsewhere refl in
      going unit (either ∙ (or_nothing earlier found none.1 ∙ accepted)) (record {
        anew = record { numbers = at.anew.numbers; is_unit = none.0.stays at.anew.numbers unit at.anew.is_unit; kept = at.anew.kept };
        grows = at.grows;
        ready = subst (λ list. Each file_item (trees list)) is at.ready;
        leads = subst (λ list. Leads list unit) is at.leads;
      })
  one_more_item tree here before rest old new earlier found later is either does (declined is_refused leads) =
      declined (either ∙ ap (λ (b : Bool). b || found) is_refused) leads

  items_end : (s : SeenUnit) (f : Bool) → SoFar [] s f → ItemGoesOn by structs whole f s
  items_end s f (going unit accepted at) = at.leads f s (accepted, at.anew)
  items_end s f (declined is_refused leads) = subst (λ (b : Bool). ItemGoesOn by structs whole b s) (sym is_refused) (leads s)

  module _ (on : ℕ → Bool) (list : List ListEntry) where
    pub next_item :
        (i : ℕ) (x : ListEntry) (old new : SeenUnit) (earlier found later : Bool) → i < length list → x ≡ get_or list i x → later ≡ (earlier || found)
        → Where (value on (condition_of x.when)) (DeclaresItem (one_item globals (item_at on (plain_item x.item.now)) (trees (seen on (entries_at on (drop (i + 1) list))))) (Derivation file_item (item_at on (plain_item x.item.now)))) old new found
        → SoFar (seen on (entries_at on (drop i list))) old earlier → SoFar (seen on (entries_at on (drop (i + 1) list))) new later
    next_item i x old new earlier found later within is either does so_far =
        one_more_item (item_at on (plain_item x.item.now)) (value on (condition_of x.when)) (seen on (entries_at on (drop i list))) (seen on (entries_at on (drop (i + 1) list))) old new earlier found later
        (ap (λ others. seen on (entries_at on others)) (item_of list x i within is)) either does so_far

    pub no_item : (i : ℕ) (s : SeenUnit) (f : Bool) → length list ≤ i → SoFar (seen on (entries_at on (drop i list))) s f → ItemGoesOn by structs whole f s
    no_item i s f past so_far = items_end s f (subst (λ others. SoFar (seen on (entries_at on others)) s f) (drop_all i list past) so_far)

-- nothing has been declared yet
pub items_begin : (globals : ℕ) (by : ℕ → ℕ) (unit : UnitState) (all : List PlainTree) (s : SeenUnit) (f : Bool) → f ≡ false → IsUnit by s unit → Each file_item (trees all)
    → SoFar globals by unit.scope.structs (judged_file_items globals unit (trees all)) all s f
items_begin globals by unit all s f accepted is_unit ready =
    going unit accepted (record { anew = record { numbers = by; is_unit = is_unit; kept = λ n s e. refl }; grows = has_itself unit.scope.structs; ready = ready; leads = λ f s h. h })
