-- Units are derived.
use Rattle.std.proofs.Common.{◌≡◌, Bool, true, false, ◌&&◌, List, [], ◌∷◌, refl, IsTrue}
use Rattle.std.specs.Prelude.{if◌then◌else◌}
use Rattle.std.proofs.lemmas.Bool.{and_parts}
use Rattle.c_text.specs.Token.{PlainToken}
use Rattle.c_tree.specs.declared.kinds.Kind.TheVariants as k
use Rattle.c_tree.specs.declared.terminals.Terminal.{Terminal}
use Rattle.c_tree.specs.declared.terminals.Terminal.TheVariants as t
use Rattle.c_tree.specs.Grammar.{Category, initialiser, declarator, file_item, Role, Slot, word, perhaps, stars, needed, optional, Shape, in_row, of_words, of_texts, repeated, any_number, separated, separated_or_ended, declaring, shape, belongs, agree, Next, fine, must_be, wrong, next_part, is_word, is_absent, is_a, are_in_row, are_words_of, are_texts, any_part, nothing_is_needed, are_each, are_separated, are_separated_or_ended, are_declared, may_follow_declarator, may_follow_initialiser, may_be_initialised}
use Rattle.c_tree.specs.Trees.{PlainTree, PlainTrees, leaf, node, none, more}
use Rattle.tree_derivations.specs.Derivations.{Derivation, single, made_of, Shaped, a_row, some_words, some_texts, one_or_more, as_many, with_commas, with_last_comma, declarators_of, Row, at_end, a_word, perhaps_there, not_there, a_star, no_star, a_part, left_out, given, Each, no_more, one_more, Separated, last_one, next_one, Ended, ends, ends_in_comma, goes_on, Declared, last_plain, last_initialised, next_plain, next_initialised, IsWord, UnitsAreDerived}

-- wherever the tree may stand, it is derived
abbrev IsGood : PlainTree → Type 0
IsGood tree = (category : Category) → IsTrue (is_a category tree) → Derivation category tree

abbrev AreGood : PlainTrees → Type 0
AreGood none = Unit {0}
AreGood (more first rest) = IsGood first × AreGood rest

-- a tree that is a word is a token
record Token (terminals : List Terminal) (tree : PlainTree) : Type 0 where
  token : PlainToken
  is : tree ≡ leaf token
  word : IsWord terminals token

token_of : (terminals : List Terminal) (tree : PlainTree) → IsTrue (is_word terminals tree) → Token terminals tree
token_of terminals (leaf token) h = record { token = token; is = refl; word = h }
token_of terminals (node kind parts) h = absurd cc

-- ---- rows

abbrev RowIsGood : PlainTrees → Type 0
RowIsGood parts = (slots : List Slot) → IsTrue (are_in_row slots parts) → Row slots parts

abbrev stands : Next → PlainTree → PlainTrees → Bool
stands next tree rest = elim next as (λ x. Bool) [
  | fine slots ↦ are_in_row slots rest
  | must_be category slots ↦ is_a category tree && are_in_row slots rest
  | wrong ↦ false
]

no_part : (slots : List Slot) → IsTrue (nothing_is_needed slots) → Row slots none
no_part [] h = at_end
no_part (perhaps ts ∷ slots) h = not_there (no_part slots h)
no_part (stars ∷ slots) h = no_star (no_part slots h)
no_part (word ts ∷ slots) h = absurd cc
no_part (needed category ∷ slots) h = absurd cc
no_part (optional category ∷ slots) h = absurd cc

word_row : (ts : List Terminal) (slots : List Slot) (tree : PlainTree) (rest : PlainTrees) → IsTrue (is_word ts tree) → Row slots rest → Row (word ts ∷ slots) (more tree rest)
word_row ts slots (leaf token) rest h r = a_word h r
word_row ts slots (node kind parts) rest h r = absurd cc

perhaps_row : (ts : List Terminal) (slots : List Slot) (tree : PlainTree) (rest : PlainTrees) → IsTrue (is_word ts tree) → Row slots rest → Row (perhaps ts ∷ slots) (more tree rest)
perhaps_row ts slots (leaf token) rest h r = perhaps_there h r
perhaps_row ts slots (node kind parts) rest h r = absurd cc

star_row : (slots : List Slot) (tree : PlainTree) (rest : PlainTrees) → IsTrue (is_word (t.Star ∷ []) tree) → Row (stars ∷ slots) rest → Row (stars ∷ slots) (more tree rest)
star_row slots (leaf token) rest h r = a_star h r
star_row slots (node kind parts) rest h r = absurd cc

absent_row : (category : Category) (slots : List Slot) (tree : PlainTree) (rest : PlainTrees) → IsTrue (is_absent tree) → Row slots rest → Row (optional category ∷ slots) (more tree rest)
absent_row category slots (node k.Absent none) rest h r = left_out r
absent_row category slots (node k.Absent (more first others)) rest h r = absurd cc
absent_row category slots (node _ parts) rest h r = absurd cc
absent_row category slots (leaf token) rest h r = absurd cc

first_part :
    (tree : PlainTree) (rest : PlainTrees) → IsGood tree → RowIsGood rest → (slots : List Slot) → IsTrue (stands (next_part slots tree) tree rest)
    → Row slots (more tree rest)
first_part tree rest good others [] h = absurd cc
first_part tree rest good others (word ts ∷ slots) h = where_word (is_word ts tree) refl h
  where
    where_word : (b : Bool) → is_word ts tree ≡ b → IsTrue (stands (if b then fine slots else wrong) tree rest) → Row (word ts ∷ slots) (more tree rest)
    where_word true e h = word_row ts slots tree rest e (others slots h)
    where_word false e h = absurd cc
first_part tree rest good others (perhaps ts ∷ slots) h =
    where_word (λ h. first_part tree rest good others slots h) (is_word ts tree) refl h
  where
    where_word :
        (IsTrue (stands (next_part slots tree) tree rest) → Row slots (more tree rest)) → (b : Bool) → is_word ts tree ≡ b
        → IsTrue (stands (if b then fine slots else next_part slots tree) tree rest) → Row (perhaps ts ∷ slots) (more tree rest)
    where_word without true e h = perhaps_row ts slots tree rest e (others slots h)
    where_word without false e h = not_there (without h)
first_part tree rest good others (stars ∷ slots) h =
    where_star (λ h. first_part tree rest good others slots h) (is_word (t.Star ∷ []) tree) refl h
  where
    where_star :
        (IsTrue (stands (next_part slots tree) tree rest) → Row slots (more tree rest)) → (b : Bool) → is_word (t.Star ∷ []) tree ≡ b
        → IsTrue (stands (if b then fine (stars ∷ slots) else next_part slots tree) tree rest) → Row (stars ∷ slots) (more tree rest)
    where_star without true e h = star_row slots tree rest e (others (stars ∷ slots) h)
    where_star without false e h = no_star (without h)
first_part tree rest good others (needed category ∷ slots) h =
    let both = and_parts (is_a category tree) (are_in_row slots rest) h in
    a_part (good category both.0) (others slots both.1)
first_part tree rest good others (optional category ∷ slots) h = where_absent (is_absent tree) refl h
  where
    where_absent :
        (b : Bool) → is_absent tree ≡ b → IsTrue (stands (if b then fine slots else must_be category slots) tree rest)
        → Row (optional category ∷ slots) (more tree rest)
    where_absent true e h = absent_row category slots tree rest e (others slots h)
    where_absent false e h =
        let both = and_parts (is_a category tree) (are_in_row slots rest) h in
        given (good category both.0) (others slots both.1)

row_is_good : (parts : PlainTrees) → AreGood parts → RowIsGood parts
row_is_good none good slots h = no_part slots h
row_is_good (more tree rest) good slots h = first_part tree rest good.0 (row_is_good rest good.1) slots h

-- ---- lists

each_is_good : (each : Category) (parts : PlainTrees) → AreGood parts → IsTrue (are_each each parts) → Each each parts
each_is_good each none good h = no_more
each_is_good each (more tree rest) good h =
    let both = and_parts (is_a each tree) (are_each each rest) h in
    one_more (good.0 each both.0) (each_is_good each rest good.1 both.1)

comma_between : (each : Category) (tree comma : PlainTree) (rest : PlainTrees) → Derivation each tree → IsTrue (is_word (t.Comma ∷ []) comma) → Separated each rest → Separated each (more tree (more comma rest))
comma_between each tree (leaf comma) rest d h s = next_one d h s
comma_between each tree (node kind parts) rest d h s = absurd cc

separated_are_good : (each : Category) (parts : PlainTrees) → AreGood parts → IsTrue (are_separated each parts) → Separated each parts
separated_are_good each none good h = absurd cc
separated_are_good each (more tree none) good h = last_one (good.0 each h)
separated_are_good each (more tree (more comma rest)) good h =
    let outer = and_parts (is_a each tree && is_word (t.Comma ∷ []) comma) (are_separated each rest) h in
    let inner = and_parts (is_a each tree) (is_word (t.Comma ∷ []) comma) outer.0 in
    comma_between each tree comma rest (good.0 each inner.0) inner.1 (separated_are_good each rest good.1.1 outer.1)

comma_behind : (each : Category) (tree comma : PlainTree) → Derivation each tree → IsTrue (is_word (t.Comma ∷ []) comma) → Ended each (more tree (more comma none))
comma_behind each tree (leaf comma) d h = ends_in_comma d h
comma_behind each tree (node kind parts) d h = absurd cc

comma_before : (each : Category) (tree comma : PlainTree) (rest : PlainTrees) → Derivation each tree → IsTrue (is_word (t.Comma ∷ []) comma) → Ended each rest → Ended each (more tree (more comma rest))
comma_before each tree (leaf comma) rest d h s = goes_on d h s
comma_before each tree (node kind parts) rest d h s = absurd cc

ended_are_good : (each : Category) (parts : PlainTrees) → AreGood parts → IsTrue (are_separated_or_ended each parts) → Ended each parts
ended_are_good each none good h = absurd cc
ended_are_good each (more tree none) good h = ends (good.0 each h)
ended_are_good each (more tree (more comma none)) good h =
    let both = and_parts (is_a each tree) (is_word (t.Comma ∷ []) comma) h in
    comma_behind each tree comma (good.0 each both.0) both.1
ended_are_good each (more tree (more comma (more next rest))) good h =
    let outer = and_parts (is_a each tree && is_word (t.Comma ∷ []) comma) (are_separated_or_ended each (more next rest)) h in
    let inner = and_parts (is_a each tree) (is_word (t.Comma ∷ []) comma) outer.0 in
    comma_before each tree comma (more next rest) (good.0 each inner.0) inner.1 (ended_are_good each (more next rest) good.1.1 outer.1)

-- ---- declarators

plain_before : (role : Role) (tree sign : PlainTree) (rest : PlainTrees) → Derivation (declarator role) tree → IsTrue (is_word (t.Comma ∷ []) sign) → Declared role rest → Declared role (more tree (more sign rest))
plain_before role tree (leaf sign) rest d h s = next_plain d h s
plain_before role tree (node kind parts) rest d h s = absurd cc

initialised_last : (role : Role) (tree sign value : PlainTree) → Derivation (declarator role) tree → IsTrue (is_word (t.Assign ∷ []) sign) → IsTrue (may_be_initialised role) → Derivation initialiser value → Declared role (more tree (more sign (more value none)))
initialised_last role tree (leaf sign) value d h m v = last_initialised m d h v
initialised_last role tree (node kind parts) value d h m v = absurd cc

initialised_before : (role : Role) (tree sign value comma : PlainTree) (rest : PlainTrees) → Derivation (declarator role) tree → IsTrue (is_word (t.Assign ∷ []) sign) → IsTrue (may_be_initialised role) → Derivation initialiser value → IsTrue (is_word (t.Comma ∷ []) comma) → Declared role rest → Declared role (more tree (more sign (more value (more comma rest))))
initialised_before role tree (leaf sign) value (leaf comma) rest d h m v c s = next_initialised m d h v c s
initialised_before role tree (leaf sign) value (node kind parts) rest d h m v c s = absurd cc
initialised_before role tree (node kind parts) value comma rest d h m v c s = absurd cc

record Initialised (role : Role) (sign value : PlainTree) (rest : PlainTrees) : Type 0 where
  assigns : IsTrue (is_word (t.Assign ∷ []) sign)
  allowed : IsTrue (may_be_initialised role)
  derived : IsTrue (is_a initialiser value)
  follows : IsTrue (may_follow_initialiser role rest)

initialised : (role : Role) (sign value : PlainTree) (rest : PlainTrees) → IsTrue (is_word (t.Assign ∷ []) sign && may_be_initialised role && is_a initialiser value && may_follow_initialiser role rest) → Initialised role sign value rest
initialised role sign value rest h =
    let a = and_parts (is_word (t.Assign ∷ []) sign && may_be_initialised role && is_a initialiser value) (may_follow_initialiser role rest) h in
    let b = and_parts (is_word (t.Assign ∷ []) sign && may_be_initialised role) (is_a initialiser value) a.0 in
    let c = and_parts (is_word (t.Assign ∷ []) sign) (may_be_initialised role) b.0 in
    record { assigns = c.0; allowed = c.1; derived = b.1; follows = a.1 }

by_sign :
    (role : Role) (sign next : PlainTree) (rest : PlainTrees) → IsGood next → (tree : PlainTree) → Derivation (declarator role) tree
    → (IsTrue (may_follow_declarator role rest) → Derivation (declarator role) next → Declared role (more next rest))
    → (IsTrue (may_follow_initialiser role rest) → Derivation initialiser next → IsTrue (is_word (t.Assign ∷ []) sign) → IsTrue (may_be_initialised role) → Declared role (more tree (more sign (more next rest))))
    → (b : Bool) → is_word (t.Comma ∷ []) sign ≡ b
    → IsTrue (if b then is_a (declarator role) next && may_follow_declarator role rest else is_word (t.Assign ∷ []) sign && may_be_initialised role && is_a initialiser next && may_follow_initialiser role rest)
    → Declared role (more tree (more sign (more next rest)))
by_sign role sign next rest good tree d as_declarator as_initialiser true e h =
    let both = and_parts (is_a (declarator role) next) (may_follow_declarator role rest) h in
    plain_before role tree sign (more next rest) d e (as_declarator both.1 (good (declarator role) both.0))
by_sign role sign next rest good tree d as_declarator as_initialiser false e h =
    let i = initialised role sign next rest h in
    as_initialiser i.follows (good initialiser i.derived) i.assigns i.allowed

mutual
  declared_are_good : (role : Role) (parts : PlainTrees) → AreGood parts → IsTrue (are_declared role parts) → Declared role parts
  declared_are_good role none good h = absurd cc
  declared_are_good role (more tree rest) good h =
      let both = and_parts (is_a (declarator role) tree) (may_follow_declarator role rest) h in
      follows_declarator role rest good.1 both.1 tree (good.0 (declarator role) both.0)

  follows_declarator : (role : Role) (parts : PlainTrees) → AreGood parts → IsTrue (may_follow_declarator role parts) → (tree : PlainTree) → Derivation (declarator role) tree → Declared role (more tree parts)
  follows_declarator role none good h tree d = last_plain d
  follows_declarator role (more sign none) good h tree d = absurd cc
  follows_declarator role (more sign (more next rest)) good h tree d =
      by_sign role sign next rest good.1.0 tree d
      (λ g n. follows_declarator role rest good.1.1 g next n)
      (λ g v assigns allowed. follows_initialiser role rest good.1.1 g tree sign next d assigns allowed v)
      (is_word (t.Comma ∷ []) sign) refl h

  follows_initialiser : (role : Role) (parts : PlainTrees) → AreGood parts → IsTrue (may_follow_initialiser role parts) → (tree sign value : PlainTree) → Derivation (declarator role) tree → IsTrue (is_word (t.Assign ∷ []) sign) → IsTrue (may_be_initialised role) → Derivation initialiser value → Declared role (more tree (more sign (more value parts)))
  follows_initialiser role none good h tree sign value d assigns allowed v = initialised_last role tree sign value d assigns allowed v
  follows_initialiser role (more comma rest) good h tree sign value d assigns allowed v =
      let both = and_parts (is_word (t.Comma ∷ []) comma) (are_declared role rest) h in
      initialised_before role tree sign value comma rest d assigns allowed v both.0 (declared_are_good role rest good.1 both.1)

-- ---- nodes

abbrev shaped : Shape → PlainTrees → Bool
shaped s parts = elim s as (λ x. Bool) [
  | in_row slots ↦ are_in_row slots parts
  | of_words lists ↦ are_words_of lists parts
  | of_texts ↦ are_texts parts && any_part parts
  | repeated each ↦ are_each each parts && any_part parts
  | any_number each ↦ are_each each parts
  | separated each ↦ are_separated each parts
  | separated_or_ended each ↦ are_separated_or_ended each parts
  | declaring role ↦ are_declared role parts
]

shape_is_good : (s : Shape) (parts : PlainTrees) → AreGood parts → IsTrue (shaped s parts) → Shaped s parts
shape_is_good (in_row slots) parts good h = a_row (row_is_good parts good slots h)
shape_is_good (of_words lists) parts good h = some_words h
shape_is_good of_texts parts good h = let both = and_parts (are_texts parts) (any_part parts) h in some_texts both.0 both.1
shape_is_good (repeated each) parts good h =
    let both = and_parts (are_each each parts) (any_part parts) h in one_or_more (each_is_good each parts good both.0) both.1
shape_is_good (any_number each) parts good h = as_many (each_is_good each parts good h)
shape_is_good (separated each) parts good h = with_commas (separated_are_good each parts good h)
shape_is_good (separated_or_ended each) parts good h = with_last_comma (ended_are_good each parts good h)
shape_is_good (declaring role) parts good h = declarators_of (declared_are_good role parts good h)

mutual
  tree_is_good : (tree : PlainTree) → IsGood tree
  tree_is_good (leaf token) = λ category h. single h
  tree_is_good (node kind parts) = λ category h.
      let outer = and_parts (belongs category kind && agree kind parts) (shaped (shape category kind) parts) h in
      let inner = and_parts (belongs category kind) (agree kind parts) outer.0 in
      made_of kind inner.0 inner.1 (shape_is_good (shape category kind) parts (trees_are_good parts) outer.1)

  trees_are_good : (parts : PlainTrees) → AreGood parts
  trees_are_good none = tt
  trees_are_good (more first rest) = (tree_is_good first, trees_are_good rest)

pub units_are_derived_lem : UnitsAreDerived
units_are_derived_lem (leaf token) h = absurd cc
units_are_derived_lem (node k.Unit parts) h = each_is_good file_item parts (trees_are_good parts) h
units_are_derived_lem (node _ parts) h = absurd cc
