-- Trees with the new name tell the numbers that they told.
use Rattle.std.proofs.Common.{◌≡◌, ℕ, Bool, true, false, List, [], ◌∷◌, map, Some, None, refl, sym, ap, subst, ◌∙◌}
use Rattle.std.specs.Prelude.{Option, slice_get, if◌then◌else◌}
use Rattle.std.specs.List.{AllZip, list_any}
use Rattle.std.proofs.lemmas.Bool.{and_parts}
use Rattle.std.proofs.lemmas.List.Elements.{All-map, All-weaker}
use Rattle.std.proofs.lemmas.Option.{slice_get-map}
use Rattle.cond_formula.specs.Conditions.{condition_of, value}
use Rattle.c_text.specs.declared.origin.FileToken.{FileToken}
use Rattle.c_text.specs.declared.token.TokenKind.{TokenKind}
use Rattle.c_text.specs.declared.token.TokenKind.TheVariants.{Name}
use Rattle.c_text.specs.Token.{PlainToken}
use Rattle.c_tree.specs.declared.terminals.Terminal.TheVariants as t
use Rattle.c_tree.specs.Terminals.{terminal_of, same}
use Rattle.choice_trees.specs.declared.trees.Forest.{Forest}
use Rattle.choice_trees.specs.ChoiceTrees.{forest_at}
use Rattle.choice_trees.specs.Leaves.{Leaf, forest_leaves, LeavesAreSpelled}
use Rattle.bindings.specs.Bindings.{is_name}
use Rattle.project_file.specs.declared.projects.Unit.{Unit}
use Rattle.cond_scopes.specs.Progress.{numbers, number_or_none}
use Rattle.cond_scopes.specs.Units.{present_trees}
use Rattle.changed_forests.specs.Changed.{changed_text, changed_leaf}
use Rattle.changed_forests.specs.Renamed.{is_name as is_name_kind, copies, is_of_class, with_name, renaming, renamed_tree, IsRenamed}
use Rattle.changed_forests.specs.Numbered.{number_of}
use Rattle.changed_forests.specs.Laws.{ChangesAreSeen, RenamingsAreSeen}
use Rattle.told_occurrences.specs.Leaves.{TellsNumber, TellNumbers}
use Rattle.told_units.specs.Units.{UnitsTellNumbers}
use Rattle.told_captures.specs.Captures.{AreLeavesOf}
use Rattle.told_ties.proofs.Lists.{some_of}
use Rattle.class_captures.proofs.Told.{contradiction}

-- a name is one whatever its text
name-still : (kind : TokenKind) (text other : List ℕ) → is_name_kind kind ≡ true → same t.Name (terminal_of kind other) ≡ same t.Name (terminal_of kind text)
name-still Name text other e = refl
name-still _ text other e = contradiction e

module _ (class : List FileToken) (new : List ℕ) where
  abbrev pub renamed_leaf : Leaf → Leaf
  renamed_leaf leaf = changed_leaf (renaming class new) leaf

  name-kept : (token : PlainToken) → is_name (with_name class new token) ≡ is_name token
  name-kept token = by (is_of_class class new token) refl
    where
      by : (b : Bool) → is_of_class class new token ≡ b → is_name (if b then record token { text = new } else token) ≡ is_name token
      by false e = refl
      by true e = name-still token.kind token.text new (and_parts (is_name_kind token.kind) (list_any (λ of. copies of token) class) e).0

  number-kept : (token : PlainToken) → number_of (with_name class new token) ≡ number_of token
  number-kept token = by (is_of_class class new token)
    where
      by : (b : Bool) → number_of (if b then record token { text = new } else token) ≡ number_of token
      by false = refl
      by true = refl

  leaf-name : (number : Option ℕ) (token : PlainToken) → is_name (changed_text (renaming class new) number token) ≡ is_name token
  leaf-name None token = refl
  leaf-name (Some number) token = name-kept token

  leaf-number : (number : Option ℕ) (token : PlainToken) → number_of (changed_text (renaming class new) number token) ≡ number_of token
  leaf-number None token = refl
  leaf-number (Some number) token = number-kept token

  tells-after : (leaf : Leaf) → TellsNumber leaf → TellsNumber (renamed_leaf leaf)
  tells-after leaf h = λ named. h (sym (leaf-name leaf.number leaf.text) ∙ named) ∙ ap Some (sym (leaf-number leaf.number leaf.text))

  tell-after : (leaves : List Leaf) → TellNumbers leaves → TellNumbers (map renamed_leaf leaves)
  tell-after leaves h = record {
    told = All-map TellsNumber renamed_leaf leaves (All-weaker TellsNumber (λ leaf. TellsNumber (renamed_leaf leaf)) tells-after leaves h.told);
    apart = λ i j a b first second one other same.
        let x = some_of renamed_leaf (slice_get leaves i) a (sym (slice_get-map renamed_leaf leaves i) ∙ first) in
        let y = some_of renamed_leaf (slice_get leaves j) b (sym (slice_get-map renamed_leaf leaves j) ∙ second) in
        h.apart i j x.0 y.0 x.1 y.1
        (sym (leaf-name x.0.number x.0.text) ∙ ap (λ (l : Leaf). is_name l.text) x.2 ∙ one)
        (sym (leaf-name y.0.number y.0.text) ∙ ap (λ (l : Leaf). is_name l.text) y.2 ∙ other)
        (sym (leaf-number x.0.number x.0.text) ∙ ap (λ (l : Leaf). number_of l.text) x.2 ∙ same ∙ sym (ap (λ (l : Leaf). number_of l.text) y.2) ∙ leaf-number y.0.number y.0.text);
  }

  pub numbers-kept : (leaves : List Leaf) → numbers (map renamed_leaf leaves) ≡ numbers leaves
  numbers-kept [] = refl
  numbers-kept (leaf ∷ leaves) = ap (λ (ns : List ℕ). number_or_none leaf.number ∷ ns) (numbers-kept leaves)

  -- ---- all units

  pub units-tell :
      ChangesAreSeen → (on : ℕ → Bool) (units : List Unit) (forests renamed : List Forest) → AllZip (IsRenamed class new) forests renamed → UnitsTellNumbers on units forests
      → UnitsTellNumbers on units renamed
  units-tell seen on [] forests renamed are h = tt
  units-tell seen on (unit ∷ units) [] [] are h = tt
  units-tell seen on (unit ∷ units) [] (g ∷ renamed) are h = absurd are
  units-tell seen on (unit ∷ units) (f ∷ forests) [] are h = absurd are
  units-tell seen on (unit ∷ units) (f ∷ forests) (g ∷ renamed) are h = (
    λ there. subst TellNumbers (sym (seen (renaming class new) f g are.0 on)) (tell-after (forest_leaves on f) (h.0 there)),
    units-tell seen on units forests renamed are.1 h.1,
  )

  pub trees-renamed :
      RenamingsAreSeen → (on : ℕ → Bool) (units : List Unit) (forests renamed : List Forest) → AllZip (IsRenamed class new) forests renamed
      → present_trees on units renamed ≡ map (renamed_tree class new) (present_trees on units forests)
  trees-renamed seen on [] forests renamed are = refl
  trees-renamed seen on (unit ∷ units) [] [] are = refl
  trees-renamed seen on (unit ∷ units) [] (g ∷ renamed) are = absurd are
  trees-renamed seen on (unit ∷ units) (f ∷ forests) [] are = absurd are
  trees-renamed seen on (unit ∷ units) (f ∷ forests) (g ∷ renamed) are = by (value on (condition_of unit.when)) (trees-renamed seen on units forests renamed are.1)
    where
      by : (b : Bool) → present_trees on units renamed ≡ map (renamed_tree class new) (present_trees on units forests)
          → (if b then forest_at on g ∷ present_trees on units renamed else present_trees on units renamed)
          ≡ map (renamed_tree class new) (if b then forest_at on f ∷ present_trees on units forests else present_trees on units forests)
      by true behind = ap (λ tree. tree ∷ present_trees on units renamed) (seen class new f g are.0 on) ∙ ap (λ trees. renamed_tree class new (forest_at on f) ∷ trees) behind
      by false behind = behind

-- ---- the leaves of the units that are present

abbrev pub present_leaves : (ℕ → Bool) → List Unit → List Forest → List (List Leaf)
present_leaves on (unit ∷ units) (forest ∷ forests) =
    if value on (condition_of unit.when) then forest_leaves on forest ∷ present_leaves on units forests else present_leaves on units forests
present_leaves on units forests = []

pub are-leaves :
    LeavesAreSpelled → (on : ℕ → Bool) (units : List Unit) (forests : List Forest) → UnitsTellNumbers on units forests
    → AllZip AreLeavesOf (present_leaves on units forests) (present_trees on units forests)
are-leaves spelled on [] forests h = tt
are-leaves spelled on (unit ∷ units) [] h = tt
are-leaves spelled on (unit ∷ units) (forest ∷ forests) h = by (value on (condition_of unit.when)) refl (are-leaves spelled on units forests h.1)
  where
    by : (b : Bool) → value on (condition_of unit.when) ≡ b → AllZip AreLeavesOf (present_leaves on units forests) (present_trees on units forests)
        → AllZip AreLeavesOf (if b then forest_leaves on forest ∷ present_leaves on units forests else present_leaves on units forests)
        (if b then forest_at on forest ∷ present_trees on units forests else present_trees on units forests)
    by true there behind = (record { are_spelled = spelled on forest; tell_numbers = h.0 there }, behind)
    by false there behind = behind
