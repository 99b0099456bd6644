-- Changed trees are units where the trees were.
use Rattle.std.proofs.Common.{◌≡◌, Bool, true, false, List, [], map, Option, Some, None, option_map, All, Contains, refl, ap, ap₂, sym, subst, ◌∙◌}
use Rattle.std.specs.Prelude.{IsTrue}
use Rattle.std.proofs.lemmas.List.Elements.{All-weaker, All-contains_itself}
use Rattle.c_text.specs.Token.{PlainToken}
use Rattle.c_tree.specs.declared.kinds.Kind.{Kind}
use Rattle.c_tree.specs.Trees.{PlainTree, PlainTrees, leaf, node, none, more, written, all_written, spelled}
use Rattle.c_tree.specs.Grammar.{is_unit}
use Rattle.c_tree.specs.Machine.{read, of_trees}
use Rattle.c_tree.specs.ReadingLaws.{ReadIsSpelt, SpeltIsRead}
use Rattle.moved_programs.specs.Trees.{moved_tree, moved_trees}
use Rattle.moved_trees.specs.Laws.{Change, KeepsTerminal, UnitsStayUnits}
use Rattle.moved_trees.proofs.Machines.{read_changed}

-- ---- what a changed tree spells

mutual
  written_changed : (f : Change) (tree : PlainTree) (behind : List PlainToken) → written (moved_tree f tree) (map f behind) ≡ map f (written tree behind)
  written_changed f (leaf token) behind = refl
  written_changed f (node kind parts) behind = all_written_changed f parts behind

  all_written_changed : (f : Change) (parts : PlainTrees) (behind : List PlainToken) → all_written (moved_trees f parts) (map f behind) ≡ map f (all_written parts behind)
  all_written_changed f none behind = refl
  all_written_changed f (more part rest) behind =
      ap (written (moved_tree f part)) (all_written_changed f rest behind) ∙ written_changed f part (all_written rest behind)

pub spelled_changed : (f : Change) (tree : PlainTree) → spelled (moved_tree f tree) ≡ map f (spelled tree)
spelled_changed f tree = written_changed f tree []

-- ---- trees that are changed to one tree and spell the same are one

record AreOne {T : Type 0} (a b : T) (behind after : List PlainToken) : Type 0 where
  same : a ≡ b
  rest : behind ≡ after

mutual
  one_tree : (f : Change) (a b : PlainTree) (behind after : List PlainToken) → moved_tree f a ≡ moved_tree f b → written a behind ≡ written b after → AreOne a b behind after
  one_tree f (leaf x) (leaf y) behind after e w = record { same = cc; rest = cc }
  one_tree f (leaf x) (node kind parts) behind after e w = absurd cc
  one_tree f (node kind parts) (leaf y) behind after e w = absurd cc
  one_tree f (node kind parts) (node other more_parts) behind after e w =
      let kinds : kind ≡ other = cc in
      let changed : moved_trees f parts ≡ moved_trees f more_parts = cc in
      let both = one_list f parts more_parts behind after changed w in
      record { same = ap₂ (λ (k : Kind) (ps : PlainTrees). node k ps) kinds both.same; rest = both.rest }

  one_list : (f : Change) (a b : PlainTrees) (behind after : List PlainToken) → moved_trees f a ≡ moved_trees f b → all_written a behind ≡ all_written b after → AreOne a b behind after
  one_list f none none behind after e w = record { same = refl; rest = w }
  one_list f none (more part rest) behind after e w = absurd cc
  one_list f (more part rest) none behind after e w = absurd cc
  one_list f (more part rest) (more other others) behind after e w =
      let first : moved_tree f part ≡ moved_tree f other = cc in
      let changed : moved_trees f rest ≡ moved_trees f others = cc in
      let here = one_tree f part other (all_written rest behind) (all_written others after) first w in
      let further = one_list f rest others behind after changed here.rest in
      record { same = ap₂ (λ (t : PlainTree) (ts : PlainTrees). more t ts) here.same further.same; rest = further.rest }

-- ---- units

all_kept : (f : Change) → ((token : PlainToken) → KeepsTerminal f token) → (tokens : List PlainToken) → All (KeepsTerminal f) tokens
all_kept f kept tokens = All-weaker (Contains tokens) (KeepsTerminal f) (λ token among. kept token) tokens (All-contains_itself tokens)

module _ (read_is_spelt : ReadIsSpelt) (spelt_is_read : SpeltIsRead) (f : Change) (kept : (token : PlainToken) → KeepsTerminal f token) (tree : PlainTree) where
  abbrev tokens : List PlainToken
  tokens = spelled tree

  stays : IsTrue (is_unit tree) → IsTrue (is_unit (moved_tree f tree))
  stays h =
      let is : read of_trees (map f tokens) ≡ Some (moved_tree f tree)
      = read_changed f tokens (all_kept f kept tokens) ∙ ap (option_map (moved_tree f)) (spelt_is_read tokens tree (record { unit = h; text = refl })) in
      let spells = read_is_spelt (map f tokens) (moved_tree f tree) is in
      spells.unit

  was : IsTrue (is_unit (moved_tree f tree)) → IsTrue (is_unit tree)
  was h = by (read of_trees tokens) refl
    where
      is : option_map (moved_tree f) (read of_trees tokens) ≡ Some (moved_tree f tree)
      is = sym (read_changed f tokens (all_kept f kept tokens)) ∙ spelt_is_read (map f tokens) (moved_tree f tree) (record { unit = h; text = spelled_changed f tree })

      by : (found : Option PlainTree) → read of_trees tokens ≡ found → IsTrue (is_unit tree)
      by None e = absurd (let no : None ≡ Some (moved_tree f tree) = ap (option_map (moved_tree f)) (sym e) ∙ is in cc)
      by (Some other) e =
          let changed : Some (moved_tree f other) ≡ Some (moved_tree f tree) = ap (option_map (moved_tree f)) (sym e) ∙ is in
          let same : moved_tree f other ≡ moved_tree f tree = cc in
          let spells = read_is_spelt tokens other e in
          let one = one_tree f other tree [] [] same spells.text in
          subst (λ t. IsTrue (is_unit t)) one.same spells.unit

both_ways : (a b : Bool) → (IsTrue b → IsTrue a) → (IsTrue a → IsTrue b) → a ≡ b
both_ways true true back forth = refl
both_ways false false back forth = refl
both_ways true false back forth = absurd (let no : true ≡ true → false ≡ true = forth in let e : false ≡ true = no refl in cc)
both_ways false true back forth = absurd (let no : true ≡ true → false ≡ true = back in let e : false ≡ true = no refl in cc)

pub units-stay : ReadIsSpelt → SpeltIsRead → UnitsStayUnits
units-stay read_is_spelt spelt_is_read f kept tree =
    both_ways (is_unit (moved_tree f tree)) (is_unit tree) (stays read_is_spelt spelt_is_read f kept tree) (was read_is_spelt spelt_is_read f kept tree)
