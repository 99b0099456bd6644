-- An aid of proofs, no further definition of the grammar: how a tree of a category is made of its parts. It says what `is_a` says, kind by kind
-- of node, so that a law on units is proved by cases on how their trees are derived.
use Rattle.std.specs.Prelude.{List, [], ◌∷◌, IsTrue}
use Rattle.c_text.specs.Token.{PlainToken}
use Rattle.c_tree.specs.declared.kinds.Kind.{Kind}
use Rattle.c_tree.specs.declared.kinds.Kind.TheVariants as k
use Rattle.c_tree.specs.declared.terminals.Terminal.{Terminal}
use Rattle.c_tree.specs.declared.terminals.Terminal.TheVariants.{Comma, Assign, Star}
use Rattle.c_tree.specs.Terminals.{terminal, is_one_of}
use Rattle.c_tree.specs.Trees.{PlainTree, PlainTrees, leaf, node, none, more, absent}
use Rattle.c_tree.specs.Grammar.{Category, declarator, initialiser, file_item, Role, Slot, word, perhaps, stars, needed, optional, Shape, in_row, of_words, of_texts, repeated, any_number, separated, separated_or_ended, declaring, shape, belongs, agree, is_single, are_words_of, are_texts, any_part, may_be_initialised, is_unit}

-- a token of these terminals
abbrev pub IsWord : List Terminal → PlainToken → Type 0
IsWord terminals token = IsTrue (is_one_of terminals (terminal token))

mutual
  pub data Derivation : Category → PlainTree → Type 0 where
    single : {category : Category} {token : PlainToken} → IsTrue (is_single category (terminal token)) → Derivation category (leaf token)
    made_of :
        {category : Category} (kind : Kind) {parts : PlainTrees} → IsTrue (belongs category kind) → IsTrue (agree kind parts)
        → Shaped (shape category kind) parts → Derivation category (node kind parts)

  pub data Shaped : Shape → PlainTrees → Type 0 where
    a_row : {slots : List Slot} {parts : PlainTrees} → Row slots parts → Shaped (in_row slots) parts
    some_words : {lists : List (List Terminal)} {parts : PlainTrees} → IsTrue (are_words_of lists parts) → Shaped (of_words lists) parts
    some_texts : {parts : PlainTrees} → IsTrue (are_texts parts) → IsTrue (any_part parts) → Shaped of_texts parts
    one_or_more : {each : Category} {parts : PlainTrees} → Each each parts → IsTrue (any_part parts) → Shaped (repeated each) parts
    as_many : {each : Category} {parts : PlainTrees} → Each each parts → Shaped (any_number each) parts
    with_commas : {each : Category} {parts : PlainTrees} → Separated each parts → Shaped (separated each) parts
    with_last_comma : {each : Category} {parts : PlainTrees} → Ended each parts → Shaped (separated_or_ended each) parts
    declarators_of : {role : Role} {parts : PlainTrees} → Declared role parts → Shaped (declaring role) parts

  pub data Row : List Slot → PlainTrees → Type 0 where
    at_end : Row [] none
    a_word :
        {terminals : List Terminal} {slots : List Slot} {token : PlainToken} {rest : PlainTrees} → IsWord terminals token → Row slots rest
        → Row (word terminals ∷ slots) (more (leaf token) rest)
    perhaps_there :
        {terminals : List Terminal} {slots : List Slot} {token : PlainToken} {rest : PlainTrees} → IsWord terminals token → Row slots rest
        → Row (perhaps terminals ∷ slots) (more (leaf token) rest)
    not_there : {terminals : List Terminal} {slots : List Slot} {parts : PlainTrees} → Row slots parts → Row (perhaps terminals ∷ slots) parts
    a_star :
        {slots : List Slot} {token : PlainToken} {rest : PlainTrees} → IsWord (Star ∷ []) token → Row (stars ∷ slots) rest
        → Row (stars ∷ slots) (more (leaf token) rest)
    no_star : {slots : List Slot} {parts : PlainTrees} → Row slots parts → Row (stars ∷ slots) parts
    a_part :
        {category : Category} {slots : List Slot} {tree : PlainTree} {rest : PlainTrees} → Derivation category tree → Row slots rest
        → Row (needed category ∷ slots) (more tree rest)
    left_out : {category : Category} {slots : List Slot} {rest : PlainTrees} → Row slots rest → Row (optional category ∷ slots) (more absent rest)
    given :
        {category : Category} {slots : List Slot} {tree : PlainTree} {rest : PlainTrees} → Derivation category tree → Row slots rest
        → Row (optional category ∷ slots) (more tree rest)

  pub data Each : Category → PlainTrees → Type 0 where
    no_more : {each : Category} → Each each none
    one_more : {each : Category} {tree : PlainTree} {rest : PlainTrees} → Derivation each tree → Each each rest → Each each (more tree rest)

  pub data Separated : Category → PlainTrees → Type 0 where
    last_one : {each : Category} {tree : PlainTree} → Derivation each tree → Separated each (more tree none)
    next_one :
        {each : Category} {tree : PlainTree} {comma : PlainToken} {rest : PlainTrees} → Derivation each tree → IsWord (Comma ∷ []) comma
        → Separated each rest → Separated each (more tree (more (leaf comma) rest))

  pub data Ended : Category → PlainTrees → Type 0 where
    ends : {each : Category} {tree : PlainTree} → Derivation each tree → Ended each (more tree none)
    ends_in_comma :
        {each : Category} {tree : PlainTree} {comma : PlainToken} → Derivation each tree → IsWord (Comma ∷ []) comma
        → Ended each (more tree (more (leaf comma) none))
    goes_on :
        {each : Category} {tree : PlainTree} {comma : PlainToken} {rest : PlainTrees} → Derivation each tree → IsWord (Comma ∷ []) comma
        → Ended each rest → Ended each (more tree (more (leaf comma) rest))

  -- declarators with commas between them, each perhaps with an initialiser
  pub data Declared : Role → PlainTrees → Type 0 where
    last_plain : {role : Role} {tree : PlainTree} → Derivation (declarator role) tree → Declared role (more tree none)
    last_initialised :
        {role : Role} {tree value : PlainTree} {sign : PlainToken} → IsTrue (may_be_initialised role) → Derivation (declarator role) tree
        → IsWord (Assign ∷ []) sign → Derivation initialiser value → Declared role (more tree (more (leaf sign) (more value none)))
    next_plain :
        {role : Role} {tree : PlainTree} {comma : PlainToken} {rest : PlainTrees} → Derivation (declarator role) tree → IsWord (Comma ∷ []) comma
        → Declared role rest → Declared role (more tree (more (leaf comma) rest))
    next_initialised :
        {role : Role} {tree value : PlainTree} {sign comma : PlainToken} {rest : PlainTrees} → IsTrue (may_be_initialised role)
        → Derivation (declarator role) tree → IsWord (Assign ∷ []) sign → Derivation initialiser value → IsWord (Comma ∷ []) comma
        → Declared role rest → Declared role (more tree (more (leaf sign) (more value (more (leaf comma) rest))))

-- the items of a unit are derived
abbrev pub IsDerived : PlainTree → Type 0
IsDerived (leaf token) = ⊥
IsDerived (node k.Unit parts) = Each file_item parts
IsDerived (node kind parts) = ⊥

abbrev pub UnitsAreDerived : Type 0
UnitsAreDerived = (tree : PlainTree) → IsTrue (is_unit tree) → IsDerived tree
