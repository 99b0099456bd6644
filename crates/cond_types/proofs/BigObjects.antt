-- Objects that are too big in tables that follow a scope are too big there.
use Rattle.std.proofs.Common.{◌≡◌, ℕ, Bool, true, false, not, ◌&&◌, ◌||◌, List, [], ◌∷◌, refl, sym, ap, ap₂, ◌∙◌, ◌+◌, ◌<◌, ◌≤◌, map, drop, length, get_or}
use Rattle.std.proofs.lemmas.Bool.{false≢true}
use Rattle.std.specs.Prelude.{Option, Some, None, is_some, if◌then◌else◌}
use Rattle.std.specs.List.{list_any}
use Rattle.cond_formula.specs.Conditions.{value}
use Rattle.conditional.specs.Entries.{Entry, seen}
use Rattle.c_text.specs.Token.{PlainToken}
use Rattle.c_tree.specs.declared.kinds.Kind.TheVariants as k
use Rattle.c_tree.specs.Trees.{PlainTree, PlainTrees, leaf, node, none, more}
use Rattle.c_tree.specs.Grammar.{file_item, file_specifiers, declarators, file_first}
use Rattle.tree_derivations.specs.Derivations.{Derivation, single, made_of, a_row, a_part, a_word, at_end, Each, no_more, one_more}
use Rattle.declarator_lists.specs.Lists.{trees_of}
use Rattle.core_meaning.specs.Declarations.{name_in}
use Rattle.core_meaning.specs.Entities.{Scope, or_else}
use Rattle.core_meaning.specs.Entities as scopes
use Rattle.core_meaning.specs.UnitNames as meaning
use Rattle.type_tables.specs.Tables.{Tables, Sort, object, declared_function, FileName, is_small}
use Rattle.type_tables.specs.Follows.{SortFollows, NameFollows, SortIsThere, Follows}
use Rattle.type_tables.proofs.ScalarLaws.{small_same}
use Rattle.link_faults.specs.Measures.{is_so}
use Rattle.link_faults.proofs.Loops.{or_none, or_step, or_end}
use Rattle.cond_types.specs.Sizes.{is_big, is_big_name, is_given_big, is_big_declarator, is_big_list, is_big_item}

-- ---- entries, one more at a time

any_split : {A : Type 0} (p : A → Bool) (on : ℕ → Bool) (e : Entry A) (es : List (Entry A)) → list_any p (seen on (e ∷ es)) ≡ (list_any p (seen on (e ∷ [])) || list_any p (seen on es))
any_split {A} p on e es = by (value on e.when)
  where
    by : (b : Bool) → list_any p (if b then e.what ∷ seen on es else seen on es) ≡ (list_any p (if b then e.what ∷ [] else []) || list_any p (seen on es))
    by true = sym (ap (λ b. b || list_any p (seen on es)) (or_none (p e.what)))
    by false = refl

any_one : {A : Type 0} (p : A → Bool) (on : ℕ → Bool) (e : Entry A) → list_any p (seen on (e ∷ [])) ≡ (value on e.when && p e.what)
any_one {A} p on e = by (value on e.when)
  where
    by : (b : Bool) → list_any p (if b then e.what ∷ [] else []) ≡ (b && p e.what)
    by true = or_none (p e.what)
    by false = refl

-- a list is gone through, of which each element is an entry
module _ {T A : Type 0} (p : A → Bool) (on : ℕ → Bool) (entry : T → Entry A) (xs : List T) where
  pub next_so : (x : T) (i : ℕ) (before after : Bool) → i < length xs → x ≡ get_or xs i x → after ≡ (before || (value on (entry x).when && p (entry x).what))
      → (before || list_any p (seen on (map entry (drop i xs)))) ≡ list_any p (seen on (map entry xs)) → (after || list_any p (seen on (map entry (drop (i + 1) xs)))) ≡ list_any p (seen on (map entry xs))
  next_so x i before after within is now so_far =
      or_step (λ (ys : List T). list_any p (seen on (map entry ys))) xs x i before after (any_split p on (entry x) (map entry (drop (i + 1) xs))) within is
      (now ∙ ap (λ b. before || b) (sym (any_one p on (entry x)))) so_far

  pub none_so : (i : ℕ) (b : Bool) → length xs ≤ i → (b || list_any p (seen on (map entry (drop i xs)))) ≡ list_any p (seen on (map entry xs)) → b ≡ list_any p (seen on (map entry xs))
  none_so i b past so_far = or_end (λ (ys : List T). list_any p (seen on (map entry ys))) xs i b refl past so_far

-- ---- what is found first

some_either : {A : Type 0} (a b : Option A) → is_some (or_else a b) ≡ (is_some a || is_some b)
some_either (Some x) b = refl
some_either None b = refl

none_such : {A : Type 0} → false ≡ true → A
none_such h = absurd (false≢true h)

module _ (t : Tables) (scope : Scope) (f : Follows t scope) where
  sort_same : (s : scopes.Sort) (o : Sort) → SortFollows f.by t.signatures s o → SortIsThere scope.structs s → is_big t o ≡ meaning.is_big scope s
  sort_same (scopes.variable ty) (object other) h there = ap (λ u. not (is_small t u)) h ∙ ap not (small_same t scope f ty there)
  sort_same (scopes.variable ty) (declared_function number) h there = absurd h
  sort_same (scopes.function g) (object other) h there = absurd h
  sort_same (scopes.function g) (declared_function number) h there = refl

  name_same : (n : Option scopes.FileName) (o : Option FileName) → NameFollows f.by t.signatures n o → ((x : scopes.FileName) → n ≡ Some x → SortIsThere scope.structs x.sort)
      → is_so (is_big_name t) o ≡ meaning.is_too_big scope n
  name_same None None h there = refl
  name_same None (Some o) h there = absurd h
  name_same (Some n) None h there = absurd h
  name_same (Some n) (Some o) h there = sort_same n.sort o.sort h.0 (there n refl)

  some_if : {A : Type 0} (b : Bool) (x : A) → b ≡ is_some (if b then Some x else None)
  some_if true x = refl
  some_if false x = refl

  given_same : (o : Option PlainToken) → is_given_big t o ≡ is_some (meaning.name_if_too_big scope o)
  given_same None = refl
  given_same (Some name) =
      name_same (scope.file_names name.text) (t.names name.text) (f.names name.text) (f.names_there name.text)
      ∙ some_if (meaning.is_too_big scope (scope.file_names name.text)) name

  declarator_same : (tree : PlainTree) → is_big_declarator t tree ≡ is_some (meaning.too_big_declarator scope tree)
  declarator_same (leaf token) = refl
  declarator_same (node k.Declarator parts) = given_same (name_in parts)
  declarator_same (node kind parts) = refl

  among_same : (list : PlainTrees) → list_any (is_big_declarator t) (trees_of list) ≡ is_some (meaning.too_big_among scope list)
  among_same none = refl
  among_same (more tree rest) =
      ap₂ (λ (a b : Bool). a || b) (declarator_same tree) (among_same rest)
      ∙ sym (some_either (meaning.too_big_declarator scope tree) (meaning.too_big_among scope rest))

  -- words are no list of declarators
  no_list : {words : PlainTree} → Derivation file_specifiers words → is_big_list t words ≡ false
  no_list (single is) = none_such is
  no_list (made_of k.Specifiers b a s) = refl
  no_list (made_of _ b a s) = none_such b

  list_same : (words end : PlainTree) → is_big_list t words ≡ false → is_big_list t end ≡ false → {tree : PlainTree} → Derivation (declarators file_first) tree
      → list_any (is_big_list t) (trees_of (more words (more tree (more end none)))) ≡ is_some (meaning.too_big_declared scope (more words (more tree (more end none))))
  list_same words end h i (single is) = none_such is
  list_same words end h i (made_of k.Declarators {parts = parts} b a s) =
      ap₂ (λ (a b : Bool). a || (list_any (is_big_declarator t) (trees_of parts) || (b || false))) h i
      ∙ or_none (list_any (is_big_declarator t) (trees_of parts)) ∙ among_same parts
  list_same words end h i (made_of _ b a s) = none_such b

  item_same : {tree : PlainTree} → Derivation file_item tree → is_big_item t tree ≡ is_some (meaning.too_big_in_item scope tree)
  item_same (single is) = none_such is
  item_same (made_of k.Declaration b a (a_row (a_part {tree = words} h (a_part i (a_word {token = end_} w at_end))))) = list_same words (leaf end_) (no_list h) refl i
  item_same (made_of k.Function b a s) = refl
  item_same (made_of k.StructDefinition b a s) = refl
  item_same (made_of k.StructDeclaration b a s) = refl
  item_same (made_of _ b a s) = none_such b

  pub items_same : {parts : PlainTrees} → Each file_item parts → list_any (is_big_item t) (trees_of parts) ≡ is_some (meaning.too_big_in scope parts)
  items_same no_more = refl
  items_same (one_more {tree = tree} {rest = rest} d others) =
      ap₂ (λ (a b : Bool). a || b) (item_same d) (items_same others)
      ∙ sym (some_either (meaning.too_big_in_item scope tree) (meaning.too_big_in scope rest))
