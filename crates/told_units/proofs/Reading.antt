-- What is told of each unit is what its readers note, which is what there is in it, one unit behind the other.
use Rattle.std.proofs.Common.{◌≡◌, ℕ, zero, suc, ◌+◌, Bool, true, false, List, [], ◌∷◌, ◌++◌, length, get_or, map, refl, sym, ap, subst, ◌∙◌, if◌then◌else◌}
use Rattle.std.specs.Prelude.{not, Some, slice_get, filter}
use Rattle.std.specs.List.{AllZip}
use Rattle.cond_formula.specs.Conditions.{condition_of, value}
use Rattle.conditional.specs.Entries.{under}
use Rattle.conditional.specs.declared.lists.CondList.{CondList}
use Rattle.c_tree.specs.Trees.{PlainTree}
use Rattle.choice_trees.specs.declared.trees.Forest.{Forest}
use Rattle.choice_trees.specs.ChoiceTrees.{forest_at}
use Rattle.choice_trees.specs.Leaves.{forest_leaves, LeavesAreSpelled}
use Rattle.project_file.specs.declared.projects.Unit.{Unit}
use Rattle.bindings.specs.Laws.{AreWritten}
use Rattle.core_meaning.specs.Checking.{Binding, Checked, fine, refused, broken, ◌>>=◌, give}
use Rattle.core_meaning.specs.Entities.{Struct, Numbers}
use Rattle.core_meaning.specs.UnitNames.{UnitState, judged_unit}
use Rattle.core_meaning.specs.Linking.{Units, closed, judged_units, no_numbers, numbers_in, literals_of, listed, judged_program}
use Rattle.core_meaning.specs.Linking as linking
use Rattle.core_meaning.proofs.Outlines.{bound, given_is}
use Rattle.core_numbers.specs.Laws.{BindingsNeedNoNumbers}
use Rattle.program_occurrences.specs.Occurrences.{UnitNames, names_of_unit, judged_behind, structs_behind, names_behind, names_of_units, has_external, is_external_name}
use Rattle.cond_bindings.specs.declared.unit_bindings.UnitBindings.{UnitBindings}
use Rattle.cond_bindings.specs.declared.unit_bindings.CondBindings.{CondBindings}
use Rattle.cond_scopes.specs.Progress.{numbers as numbers_of}
use Rattle.cond_scopes.specs.Units.{IsScoped, UnitsAreScoped, AreScoped, present_trees, bindings_at}
use Rattle.member_uses.specs.Uses.{Use, uses_in}
use Rattle.type_tables.specs.declared.tables.Tables.{Tables}
use Rattle.type_tables.specs.declared.entries.CondStruct.{CondStruct}
use Rattle.type_tables.specs.Seen as seen_struct
use Rattle.link_faults.specs.declared.left.LeftUnit.{LeftUnit}
use Rattle.link_faults.specs.SeenUnits.{name_seen, is_present, LeavesAlike}
use Rattle.link_faults.specs.Measures.{is_so}
use Rattle.cond_selections.specs.declared.entries.Selection.{Selection}
use Rattle.cond_pairings.specs.Pairs.{Pair, declared_pairs, pairs_seen}
use Rattle.cond_name_spaces.specs.Spaced.{spaces_at}
use Rattle.member_pairs.specs.Members.{tag_of, pairs_of_uses}
use Rattle.cond_unit_uses.specs.Noted.{uses_at}
use Rattle.cond_unit_uses.specs.Units as noting
use Rattle.cond_unit_uses.specs.Units.{uses_in_units, of_units, AreNoted}
use Rattle.cond_unit_uses.specs.declared.units.UnitUses.{UnitUses}
use Rattle.cond_types.specs.declared.typing.CondTypes.{CondTypes}
use Rattle.cond_types.specs.Typed.{IsLinkable}
use Rattle.told_occurrences.specs.Told.{IsTold}
use Rattle.told_occurrences.specs.Leaves.{TellNumbers}
use Rattle.told_occurrences.specs.Units.{names_seen, IsSilent, AreTold, no_more, present, absent}
use Rattle.told_occurrences.specs.declared.told.ToldUnit.{ToldUnit}
use Rattle.read_occurrences.specs.Read.{names_read}
use Rattle.read_occurrences.specs.Laws.{IsUnit, AreTags, names_in_spaces, unit_pairs, OccurrencesAreRead}
use Rattle.told_units.specs.Told.{TellsExternal, bound_pairs, IsToldBy, AreToldFrom}
use Rattle.told_units.specs.Units.{AreLeftWherePresent, UnitsTellNumbers}
use Rattle.told_units.proofs.Lists.{external_alike}
use Rattle.told_units.proofs.Structs.{KeepNames, keep_all, keep_both, unit_keeps_names}

same_heads : {X : Type 0} (x y : X) (xs ys : List X) → x ∷ xs ≡ y ∷ ys → (x ≡ y) × (xs ≡ ys)
same_heads x y xs ys e = (cc, cc)

-- ---- a unit that is judged well

-- what linking takes of it
record IsClosed (c : Checked UnitState) (first : Units) : Type 0 where
  pub state : UnitState
  pub js : List Binding
  pub is : c ≡ fine state js
  pub structs : first.structs ≡ state.scope.structs
  pub unit : linking.Unit
  pub units : first.units ≡ unit ∷ []
  pub names : unit.names ≡ state.scope.file_names

closed_well : (c : Checked UnitState) (first : Units) (bindings : List Binding) → closed c ≡ fine first bindings → IsClosed c first
closed_well (fine state js) first bindings e = record {
  state = state;
  js = js;
  is = refl;
  structs = sym (ap (λ (u : Units). u.structs) (closed_is e));
  unit = record { names = state.scope.file_names; order = state.scope.order; defined = state.defined; uses = linking.uses_in js };
  units = sym (ap (λ (u : Units). u.units) (closed_is e));
  names = refl;
}
  where
    closed_is : {u v : Units} {x y : List Binding} → fine u x ≡ fine v y → u ≡ v
    closed_is e = cc
closed_well (refused kind token) first bindings e = absurd cc
closed_well broken first bindings e = absurd cc

-- a unit and those behind it
record IsFollowed (numbers : ℕ → Numbers) (globals index : ℕ) (structs : List Struct) (tree : PlainTree) (rest : List PlainTree) (all : Units) : Type 0 where
  pub first : Units
  pub closed_as : IsClosed (judged_unit globals structs (numbers index) tree) first
  pub others : Units
  pub bindings : List Binding
  pub judged : judged_units numbers globals (index + 1) first.structs rest ≡ fine others bindings
  pub units : all.units ≡ first.units ++ others.units
  pub structs_are : all.structs ≡ others.structs

followed : (numbers : ℕ → Numbers) (globals index : ℕ) (structs : List Struct) (tree : PlainTree) (rest : List PlainTree) (all : Units) (js : List Binding)
    → judged_units numbers globals index structs (tree ∷ rest) ≡ fine all js → IsFollowed numbers globals index structs tree rest all
followed numbers globals index structs tree rest all js e =
    let joined : Units → Units → Checked Units = λ first others. give (record { units = first.units ++ others.units; structs = others.structs }) in
    let b = bound (closed (judged_unit globals structs (numbers index) tree)) (λ first. judged_units numbers globals (index + 1) first.structs rest >>= joined first) all js e in
    let c = bound (judged_units numbers globals (index + 1) b.value.structs rest) (joined b.value) all b.behind b.rest in
    let is = given_is (record { units = b.value.units ++ c.value.units; structs = c.value.structs }) all c.behind c.rest in
    record {
      first = b.value;
      closed_as = closed_well (judged_unit globals structs (numbers index) tree) b.value b.before b.first;
      others = c.value;
      bindings = c.before;
      judged = c.first;
      units = sym (ap (λ (u : Units). u.units) is);
      structs_are = sym (ap (λ (u : Units). u.structs) is);
    }

-- ---- the structs of all units

units_keep_names : (index : ℕ) (structs : List Struct) (trees : List PlainTree) (all : Units) (js : List Binding) → judged_units no_numbers 0 index structs trees ≡ fine all js → KeepNames structs all.structs
units_keep_names index structs [] all js e = keep_all structs all.structs (ap (λ (u : Units). u.structs) (given_is (record { units = []; structs = structs }) all js e))
units_keep_names index structs (tree ∷ rest) all js e =
    let f = followed no_numbers 0 index structs tree rest all js e in
    let state = f.closed_as.state in
    keep_both structs state.scope.structs all.structs (unit_keeps_names 0 structs (no_numbers index) tree state f.closed_as.js f.closed_as.is)
    (keep_both state.scope.structs f.others.structs all.structs
    (units_keep_names (index + 1) state.scope.structs rest f.others f.bindings (ap (λ before. judged_units no_numbers 0 (index + 1) before rest) (sym f.closed_as.structs) ∙ f.judged))
    (keep_all f.others.structs all.structs (sym f.structs_are)))

-- ---- what is told

module _ (on : ℕ → Bool) (no_need : BindingsNeedNoNumbers) (spelled_alike : LeavesAreSpelled) (are_read : OccurrencesAreRead) (by : ℕ → ℕ) (tables : Tables) (numbers : ℕ → Numbers) (globals : ℕ)
    (left_tables : Tables) (left_by : ℕ → ℕ) (final : List Struct) where
  -- The units that are left are judged well, with these numbers and with none; these leave what they do, and structs have their tags.
  pub record AreAhead (structs : List Struct) (index : ℕ) (trees : List PlainTree) (left : List LeftUnit) : Type 0 where
    pub written : AreWritten trees
    pub first : Units
    pub first_bindings : List Binding
    pub judged : judged_units no_numbers 0 index structs trees ≡ fine first first_bindings
    pub linked : Units
    pub linked_bindings : List Binding
    pub judged_again : judged_units numbers globals index structs trees ≡ fine linked linked_bindings
    pub leave : AllZip (LeavesAlike on left_tables left_by final) linked.units left
    pub tags : (n : ℕ) (s : Struct) → slice_get first.structs n ≡ Some s → tag_of tables (by n) ≡ s.name

  abbrev uses_ahead : List Struct → ℕ → List PlainTree → List (List Use)
  uses_ahead structs index trees = uses_in_units by no_numbers 0 index structs trees

  -- what a unit leaves says which names have external linkage
  tells_external : (tree : PlainTree) (structs : List Struct) (state : UnitState) (js : List Binding) (unit : linking.Unit) (left : LeftUnit) → judged_behind structs tree ≡ fine state js
      → unit.names ≡ state.scope.file_names → LeavesAlike on left_tables left_by final unit left → TellsExternal on left (names_of_unit tree (judged_behind structs tree))
  tells_external tree structs state js unit left judged names leaves name =
      ap (λ (c : Checked UnitState). has_external c name) judged
      ∙ ap (λ (t : List ℕ → _). is_external_name (t name)) (sym names)
      ∙ external_alike left_by _ (unit.names name) (name_seen on left.names name) (leaves.names name)

  module _ (structs : List Struct) (index : ℕ) (unit : Unit) (units : List Unit) (forest : Forest) (forests : List Forest) (b : UnitBindings) (l : LeftUnit) (left : List LeftUnit) (u : CondList Selection)
      (uses : List (CondList Selection)) (told : ToldUnit) (all : List ToldUnit) (scoped : IsScoped on (condition_of unit.when) forest b) (telling : value on (condition_of unit.when) ≡ true → TellNumbers (forest_leaves on forest)) (tells : IsToldBy on (condition_of unit.when) forest b l tables u told)
      (go_on : (structs : List Struct) (index : ℕ) → AreAhead structs index (present_trees on units forests) (filter (is_present on) left)
      → map (uses_at on) uses ≡ of_units on units (uses_ahead structs index (present_trees on units forests)) → AreTold on units forests (names_behind structs (present_trees on units forests)) all) where
    abbrev tree : PlainTree
    tree = forest_at on forest

    abbrev rest : List PlainTree
    rest = present_trees on units forests

    of_first : value on (condition_of unit.when) ≡ true → (list : List Use) (lists : List (List Use)) → of_units on (unit ∷ units) (list ∷ lists) ≡ list ∷ of_units on units lists
    of_first here list lists = ap (λ b. if b then list ∷ of_units on units lists else [] ∷ of_units on units (list ∷ lists)) here

    of_none : value on (condition_of unit.when) ≡ false → (lists : List (List Use)) → of_units on (unit ∷ units) lists ≡ [] ∷ of_units on units lists
    of_none off [] = refl
    of_none off (list ∷ lists) = ap (λ b. if b then list ∷ of_units on units lists else [] ∷ of_units on units (list ∷ lists)) off

    unit_present : value on (condition_of unit.when) ≡ true → AreAhead structs index (tree ∷ rest) (l ∷ filter (is_present on) left)
        → uses_at on u ∷ map (uses_at on) uses ≡ of_units on (unit ∷ units) (uses_ahead structs index (tree ∷ rest)) → AreTold on (unit ∷ units) (forest ∷ forests) (names_behind structs (tree ∷ rest)) (told ∷ all)
    unit_present here at used =
        let f = followed no_numbers 0 index structs tree rest at.first at.first_bindings at.judged in
        let g = followed numbers globals index structs tree rest at.linked at.linked_bindings at.judged_again in
        let state : UnitState = f.closed_as.state in
        let well : judged_behind structs tree ≡ fine state f.closed_as.js = f.closed_as.is in
        let same = no_need tree 0 globals structs (no_numbers 0) (numbers index) state g.closed_as.state f.closed_as.js g.closed_as.js well g.closed_as.is in
        let leave : AllZip (LeavesAlike on left_tables left_by final) (g.closed_as.unit ∷ g.others.units) (l ∷ filter (is_present on) left) =
        subst (λ list. AllZip (LeavesAlike on left_tables left_by final) list (l ∷ filter (is_present on) left)) (g.units ∙ ap (λ list. list ++ g.others.units) g.closed_as.units) at.leave in
        let list : List Use = uses_in by tree (judged_behind structs tree) in
        let lists : List (List Use) = uses_in_units by no_numbers 0 (index + 1) (noting.structs_behind structs (judged_behind structs tree)) rest in
        let uses_are = same_heads (uses_at on u) list (map (uses_at on) uses) (of_units on units lists) (used ∙ of_first here list lists) in
        let next : AreAhead state.scope.structs (index + 1) rest (filter (is_present on) left) = record {
          written = at.written.1;
          first = f.others;
          first_bindings = f.bindings;
          judged = ap (λ before. judged_units no_numbers 0 (index + 1) before rest) (sym f.closed_as.structs) ∙ f.judged;
          linked = g.others;
          linked_bindings = g.bindings;
          judged_again = ap (λ before. judged_units numbers globals (index + 1) before rest) (same.structs ∙ sym g.closed_as.structs) ∙ g.judged;
          leave = leave.1;
          tags = λ n s e. at.tags n s (ap (λ l. slice_get l n) f.structs_are ∙ e);
        } in
        let keeps : KeepNames state.scope.structs f.others.structs = units_keep_names (index + 1) state.scope.structs rest f.others f.bindings next.judged in
        let behind : structs_behind structs (judged_behind structs tree) ≡ state.scope.structs = ap (structs_behind structs) well in
        let own : List Pair = declared_pairs (bindings_at on forest) in
        let bound_are : bound_pairs on b ≡ own = ap declared_pairs (scoped.present here at.written.0.unit) in
        let external = tells_external tree structs state f.closed_as.js g.closed_as.unit l well (g.closed_as.names ∙ sym same.names) leave.0 in
        let names : UnitNames = names_of_unit tree (judged_behind structs tree) in
        let leaves = forest_leaves on forest in
        let pairs : List Pair = unit_pairs leaves structs tree by (tag_of tables) in
        let pairs_are : pairs_seen on told.pairs.items ≡ pairs =
        tells.pairs
        ∙ ap (λ ps. ps ++ pairs_of_uses (tag_of tables) (under (value on (condition_of unit.when)) (spaces_at on forest)) (uses_at on u)) bound_are
        ∙ ap (λ w. own ++ pairs_of_uses (tag_of tables) (under w (spaces_at on forest)) (uses_at on u)) here
        ∙ ap (λ list. own ++ pairs_of_uses (tag_of tables) (spaces_at on forest) list) uses_are.0 in
        let names_are : names_seen on told.names.items ≡ names_read names pairs (names_in_spaces leaves tree) =
        tells.names names external
        ∙ ap (λ w. names_read names (pairs_seen on told.pairs.items) (under w (spaces_at on forest))) here
        ∙ ap (λ ps. names_read names ps (spaces_at on forest)) pairs_are in
        let is_unit : IsUnit leaves structs tree state f.closed_as.js = record { written = at.written.0; spells = spelled_alike on forest; numbered = telling here; judged = well } in
        let tags : AreTags by (tag_of tables) state.scope.structs = λ n s e. let kept = keeps n s e in next.tags n kept.0 kept.1 ∙ kept.2 in
        let read : IsTold (numbers_of leaves) names pairs (names_read names pairs (names_in_spaces leaves tree)) = are_read leaves structs tree state f.closed_as.js is_unit by (tag_of tables) tags in
        present here
        (subst (λ ps. IsTold (numbers_of leaves) names ps (names_seen on told.names.items)) (sym pairs_are) (subst (λ ns. IsTold (numbers_of leaves) names pairs ns) (sym names_are) read))
        (subst (λ before. AreTold on units forests (names_behind before rest) all) (sym behind)
        (go_on state.scope.structs (index + 1) next
        (uses_are.1 ∙ ap (λ c. of_units on units (uses_in_units by no_numbers 0 (index + 1) (noting.structs_behind structs c) rest)) well)))

    unit_absent : value on (condition_of unit.when) ≡ false → AreAhead structs index rest (filter (is_present on) left)
        → uses_at on u ∷ map (uses_at on) uses ≡ of_units on (unit ∷ units) (uses_ahead structs index rest) → AreTold on (unit ∷ units) (forest ∷ forests) (names_behind structs rest) (told ∷ all)
    unit_absent off at used =
        let uses_are = same_heads (uses_at on u) [] (map (uses_at on) uses) (of_units on units (uses_ahead structs index rest)) (used ∙ of_none off (uses_ahead structs index rest)) in
        let some : UnitNames = record { identified = []; is_external = λ name. is_so (λ n. not n.internal) (name_seen on l.names name) } in
        let silent : IsSilent on told = record {
          no_pairs =
              tells.pairs
              ∙ ap (λ ps. declared_pairs ps ++ pairs_of_uses (tag_of tables) (under (value on (condition_of unit.when)) (spaces_at on forest)) (uses_at on u)) (scoped.absent off)
              ∙ ap (λ list. pairs_of_uses (tag_of tables) (under (value on (condition_of unit.when)) (spaces_at on forest)) list) uses_are.0;
          no_names = tells.names some (λ name. refl) ∙ ap (λ w. names_read some (pairs_seen on told.pairs.items) (under w (spaces_at on forest))) off;
        } in
        absent off silent (go_on structs index at uses_are.1)

    pub one_unit : (here : Bool) → value on (condition_of unit.when) ≡ here → AreAhead structs index (if here then tree ∷ rest else rest) (if here then l ∷ filter (is_present on) left else filter (is_present on) left)
        → uses_at on u ∷ map (uses_at on) uses ≡ of_units on (unit ∷ units) (uses_ahead structs index (if here then tree ∷ rest else rest)) → AreTold on (unit ∷ units) (forest ∷ forests) (names_behind structs (if here then tree ∷ rest else rest)) (told ∷ all)
    one_unit true here at used = unit_present here at used
    one_unit false off at used = unit_absent off at used

  -- ---- the units one behind the other

  shifted : (b : UnitBindings) (bound : List UnitBindings) (l : LeftUnit) (left : List LeftUnit) (u : CondList Selection) (noted : List (CondList Selection)) (place : ℕ) (units : List Unit) (forests : List Forest) (all : List ToldUnit)
      → AreToldFrom on (b ∷ bound) (l ∷ left) tables (u ∷ noted) (suc place) units forests all → AreToldFrom on bound left tables noted place units forests all
  shifted b bound l left u noted place [] forests [] h = tt
  shifted b bound l left u noted place [] forests (told ∷ all) h = absurd h
  shifted b bound l left u noted place (unit ∷ units) [] all h = absurd h
  shifted b bound l left u noted place (unit ∷ units) (forest ∷ forests) [] h = absurd h
  shifted b bound l left u noted place (unit ∷ units) (forest ∷ forests) (told ∷ all) h = (record { by = h.0.by }, shifted b bound l left u noted (suc place) units forests all h.1)

  some_uses : (unit : Unit) (units : List Unit) (lists : List (List Use)) → [] ≡ of_units on (unit ∷ units) lists → ⊥
  some_uses unit units [] e = cc
  some_uses unit units (list ∷ lists) e = either (value on (condition_of unit.when)) e
    where
      either : (b : Bool) → [] ≡ (if b then list ∷ of_units on units lists else [] ∷ of_units on units (list ∷ lists)) → ⊥
      either true e = cc
      either false e = cc

  pub each_told :
      (structs : List Struct) (index : ℕ) (units : List Unit) (forests : List Forest) (bound : List UnitBindings) (left : List LeftUnit) (noted : List (CondList Selection)) (all : List ToldUnit)
      → UnitsAreScoped on units forests bound → UnitsTellNumbers on units forests → AreLeftWherePresent on units left → AreAhead structs index (present_trees on units forests) (filter (is_present on) left)
      → map (uses_at on) noted ≡ of_units on units (uses_ahead structs index (present_trees on units forests)) → AreToldFrom on bound left tables noted 0 units forests all
      → AreTold on units forests (names_behind structs (present_trees on units forests)) all
  each_told structs index [] forests bound left noted [] scoped telling here at used tells = no_more
  each_told structs index [] forests bound left noted (told ∷ all) scoped telling here at used tells = absurd tells
  each_told structs index (unit ∷ units) [] bound left noted all scoped telling here at used tells = absurd tells
  each_told structs index (unit ∷ units) (forest ∷ forests) bound left noted [] scoped telling here at used tells = absurd tells
  each_told structs index (unit ∷ units) (forest ∷ forests) [] left noted (told ∷ all) scoped telling here at used tells = absurd scoped
  each_told structs index (unit ∷ units) (forest ∷ forests) (b ∷ bound) [] noted (told ∷ all) scoped telling here at used tells = absurd (let e = here in cc)
  each_told structs index (unit ∷ units) (forest ∷ forests) (b ∷ bound) (l ∷ left) [] (told ∷ all) scoped telling here at used tells =
      absurd (some_uses unit units (uses_ahead structs index (present_trees on (unit ∷ units) (forest ∷ forests))) used)
  each_told structs index (unit ∷ units) (forest ∷ forests) (b ∷ bound) (l ∷ left) (u ∷ noted) (told ∷ all) scoped telling here at used tells =
      let same = same_heads (value on (condition_of l.when)) (value on (condition_of unit.when)) (map (λ l. value on (condition_of l.when)) left) (map (λ u. value on (condition_of u.when)) units) here in
      one_unit structs index unit units forest forests b l left u noted told all scoped.0 telling.0 (tells.0.by b l u refl refl refl)
      (λ structs index at used. each_told structs index units forests bound left noted all scoped.1 telling.1 same.1 at used (shifted b bound l left u noted 0 units forests all tells.1))
      (value on (condition_of unit.when)) refl
      (subst (λ w. AreAhead structs index (present_trees on (unit ∷ units) (forest ∷ forests)) (if w then l ∷ filter (is_present on) left else filter (is_present on) left)) same.0 at)
      used

-- ---- all units

-- the tags of structs are those that a configuration sees
tag_is : (on : ℕ → Bool) (structs : List CondStruct) (n : ℕ) → seen_struct.is_declared on (slice_get structs n) ≡ true
    → get_or (map (λ s. s.tag.items) structs) n [] ≡ seen_struct.tag_of on (slice_get structs n)
tag_is on [] n declared = absurd cc
tag_is on (s ∷ structs) zero declared = ap (λ b. if b then s.tag.items else []) (sym declared)
tag_is on (s ∷ structs) (suc n) declared = tag_is on structs n declared

pub units_told :
    (on : ℕ → Bool) → BindingsNeedNoNumbers → LeavesAreSpelled → OccurrencesAreRead → (units : List Unit) (forests : List Forest) (b : CondBindings) (t : CondTypes) (noted : UnitUses) (all : List ToldUnit) (linked : Units) (js : List Binding)
    → AreScoped on units forests b → AreWritten (present_trees on units forests) → judged_program (present_trees on units forests) ≡ fine linked js → UnitsTellNumbers on units forests
    → AreLeftWherePresent on units t.units.items → IsLinkable on linked t
    → ((first : Units) (ks : List Binding) → judged_units no_numbers 0 0 [] (present_trees on units forests) ≡ fine first ks
    → AreNoted on first.structs units (λ by. uses_in_units by no_numbers 0 0 [] (present_trees on units forests)) noted)
    → AreToldFrom on b.units.items t.units.items noted.tables noted.units.items 0 units forests all
    → AreTold on units forests (names_of_units (present_trees on units forests)) all
units_told on no_need spelled_alike are_read units forests b t noted all linked js scoped written judged telling here linkable notes tells =
    let trees : List PlainTree = present_trees on units forests in
    let p = bound (judged_units no_numbers 0 0 [] trees) (λ first. judged_units (numbers_in first.units (literals_of trees)) (length (listed first.units false)) 0 [] trees) linked js judged in
    let n = notes p.value p.before p.first in
    each_told on no_need spelled_alike are_read n.by noted.tables (numbers_in p.value.units (literals_of trees)) (length (listed p.value.units false)) t.tables linkable.by linked.structs
    [] 0 units forests b.units.items t.units.items noted.units.items all scoped.bound telling here
    (record {
      written = written;
      first = p.value;
      first_bindings = p.before;
      judged = p.first;
      linked = linked;
      linked_bindings = p.behind;
      judged_again = p.rest;
      leave = linkable.leave;
      tags = λ m s e. let follows = n.structs_are m s e in tag_is on noted.tables.structs.items (n.by m) follows.declared ∙ follows.named;
    })
    n.uses_are tells
