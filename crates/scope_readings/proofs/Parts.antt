-- Parts of nodes that are walked as they are read.
use Rattle.std.proofs.Common.{◌≡◌, Bool, true, false, not, ◌&&◌, ◌||◌, List, [], ◌∷◌, refl, sym, ap, subst, ◌∙◌, IsTrue}
use Rattle.std.specs.Prelude.{ℕ, if◌then◌else◌}
use Rattle.std.proofs.lemmas.Bool.{and_parts, not-true, false≢true}
use Rattle.c_text.specs.Token.{PlainToken}
use Rattle.c_tree.specs.declared.kinds.Kind.{Kind}
use Rattle.c_tree.specs.declared.terminals.Terminal.{Terminal}
use Rattle.c_tree.specs.declared.terminals.Terminal.TheVariants as t
use Rattle.c_tree.specs.Terminals.{terminal, same, is_one_of}
use Rattle.c_tree.specs.Trees.{PlainTree, PlainTrees, leaf, node, none, more, absent}
use Rattle.c_tree.specs.Grammar.{Category, Slot, word, needed, optional}
use Rattle.c_tree.proofs.TerminalCases.{same-true}
use Rattle.tree_derivations.specs.Derivations.{Derivation, Row, at_end, a_word, perhaps_there, not_there, a_star, no_star, a_part, left_out, given, Each, no_more, one_more, Separated, last_one, next_one, Ended, ends, ends_in_comma, goes_on, IsWord}
use Rattle.bindings.specs.Visible as reading
use Rattle.bindings.specs.Visible.{Reading}
use Rattle.bindings.specs.Bindings.{is_name, read_expression}
use Rattle.scope_readings.specs.Scopes.{passed}
use Rattle.scope_readings.specs.Walks.{turns, role, ordinary_use, walk_name, walk_parts, walk_node}
use Rattle.scope_readings.proofs.Images.{image, passed_image, used_image}

pub none_such : {A : Type 0} → false ≡ true → A
none_such h = absurd (false≢true h)

-- a word is none of the terminals that it may not be
pub other_word : (k : Terminal) (ts : List Terminal) (token : PlainToken) → is_one_of ts k ≡ false → IsWord ts token → same k (terminal token) ≡ false
other_word k ts token never w = by (same k (terminal token)) refl
  where
    by : (b : Bool) → same k (terminal token) ≡ b → same k (terminal token) ≡ false
    by false e = e
    by true e = absurd (false≢true (sym never ∙ subst (λ x. is_one_of ts x ≡ true) (sym (same-true k (terminal token) e)) w))

-- a name among the parts of such a node is used there, and tokens but `.` and `->` turn nothing
pub record Uses (kind : Kind) (turned : Bool) : Type 0 where
  pub role_is : role kind turned ≡ ordinary_use
  pub still : (token : PlainToken) → same t.Select (terminal token) ≡ false → (turned || turns kind token) ≡ turned

pub plain_uses : (kind : Kind) → role kind false ≡ ordinary_use → ((token : PlainToken) → turns kind token ≡ false) → Uses kind false
plain_uses kind e f = record { role_is = e; still = λ token h. f token }

module _ (numbers : List ℕ) where
  -- a part is walked so, whatever stands behind it
  abbrev pub PartWalks : Kind → Kind → Bool → PlainTree → (Reading → Reading) → Type 0
  PartWalks d kind turned tree f =
      (rest : PlainTrees) (r : Reading) → walk_parts d kind turned (more tree rest) (image numbers r) ≡ walk_parts d kind turned rest (image numbers (f r))

  abbrev pub PartsWalk : Kind → Kind → Bool → PlainTrees → (Reading → Reading) → Type 0
  PartsWalk d kind turned parts f = (r : Reading) → walk_parts d kind turned parts (image numbers r) ≡ image numbers (f r)

  abbrev pub NodeWalks : Kind → Kind → PlainTrees → (Reading → Reading) → Type 0
  NodeWalks d kind parts f = (r : Reading) → walk_node d kind parts (image numbers r) ≡ image numbers (f r)

  pub node_part :
      (d kind : Kind) (turned : Bool) (inner : Kind) (parts : PlainTrees) (f : Reading → Reading) → NodeWalks d inner parts f
      → PartWalks d kind turned (node inner parts) f
  node_part d kind turned inner parts f h rest r = ap (walk_parts d kind turned rest) (h r)

  pub read_so :
      (d kind : Kind) (turned : Bool) (tree : PlainTree) (f g : Reading → Reading) → ((r : Reading) → f r ≡ g r) → PartWalks d kind turned tree g
      → PartWalks d kind turned tree f
  read_so d kind turned tree f g same_ h rest r = h rest r ∙ ap (λ (s : Reading). walk_parts d kind turned rest (image numbers s)) (sym (same_ r))

  -- ---- tokens

  pub mark_part :
      (d kind : Kind) (turned : Bool) (token : PlainToken) → is_name token ≡ false → (turned || turns kind token) ≡ turned
      → PartWalks d kind turned (leaf token) reading.passed
  mark_part d kind turned token e still rest r =
      ap (λ (b : Bool). if b then walk_name d (role kind turned) token (λ after. walk_parts d kind turned rest after) (image numbers r)
      else walk_parts d kind (turned || turns kind token) rest (passed (image numbers r))) e
      ∙ ap (λ (b : Bool). walk_parts d kind b rest (passed (image numbers r))) still
      ∙ ap (walk_parts d kind turned rest) (passed_image numbers r)

  pub sign_part :
      (d kind : Kind) (turned : Bool) (token : PlainToken) → is_name token ≡ false → (turned || turns kind token) ≡ turned
      → PartWalks d kind turned (leaf token) (read_expression (leaf token))
  sign_part d kind turned token e still =
      read_so d kind turned (leaf token) (read_expression (leaf token)) reading.passed
      (λ r. ap (λ (b : Bool). if b then reading.used token r else reading.passed r) e) (mark_part d kind turned token e still)

  pub leaf_part :
      (d kind : Kind) (turned : Bool) → Uses kind turned → (token : PlainToken) → same t.Select (terminal token) ≡ false
      → PartWalks d kind turned (leaf token) (read_expression (leaf token))
  leaf_part d kind turned uses token e rest r = by (is_name token)
    where
      by :
          (b : Bool)
          → (if b then walk_name d (role kind turned) token (λ after. walk_parts d kind turned rest after) (image numbers r)
          else walk_parts d kind (turned || turns kind token) rest (passed (image numbers r)))
          ≡ walk_parts d kind turned rest (image numbers (if b then reading.used token r else reading.passed r))
      by true =
          ap (λ x. walk_name d x token (λ after. walk_parts d kind turned rest after) (image numbers r)) uses.role_is
          ∙ ap (walk_parts d kind turned rest) (used_image numbers token r)
      by false =
          ap (λ (b : Bool). walk_parts d kind b rest (passed (image numbers r))) (uses.still token e)
          ∙ ap (walk_parts d kind turned rest) (passed_image numbers r)

  -- ---- lists of parts, each of which is read so, where trees of these categories are known to be walked so

  module _ (one : PlainTree → Reading → Reading) where
    abbrev pub AllParts : Kind → Kind → Bool → PlainTrees → Type 0
    AllParts d kind turned none = Unit {0}
    AllParts d kind turned (more tree rest) = PartWalks d kind turned tree (one tree) × AllParts d kind turned rest

    module _ (known : Category → Bool) where
      abbrev pub Good : PlainTree → Type 0
      Good tree =
          (category : Category) → IsTrue (known category) → Derivation category tree → (d kind : Kind) (turned : Bool) → Uses kind turned
          → PartWalks d kind turned tree (one tree)

      abbrev pub AllGood : PlainTrees → Type 0
      AllGood none = Unit {0}
      AllGood (more tree rest) = Good tree × AllGood rest

      abbrev pub known_slots : List Slot → Bool
      known_slots [] = true
      known_slots (word ts ∷ slots) = not (is_one_of ts t.Select) && known_slots slots
      known_slots (needed category ∷ slots) = known category && known_slots slots
      known_slots (optional category ∷ slots) = known category && known_slots slots
      known_slots (other ∷ slots) = false

      module _ (leaf_read : (token : PlainToken) (r : Reading) → one (leaf token) r ≡ read_expression (leaf token) r) (absent_read : (r : Reading) → one absent r ≡ r) where
        word_part :
            (ts : List Terminal) (token : PlainToken) → is_one_of ts t.Select ≡ false → IsWord ts token → (d kind : Kind) (turned : Bool) → Uses kind turned
            → PartWalks d kind turned (leaf token) (one (leaf token))
        word_part ts token never w d kind turned uses =
            read_so d kind turned (leaf token) (one (leaf token)) (read_expression (leaf token)) (leaf_read token)
            (leaf_part d kind turned uses token (other_word t.Select ts token never w))

        absent_part : (d kind : Kind) (turned : Bool) → PartWalks d kind turned absent (one absent)
        absent_part d kind turned rest r = ap (λ (s : Reading). walk_parts d kind turned rest (image numbers s)) (sym (absent_read r))

        pub row_parts :
            {slots : List Slot} {parts : PlainTrees} → Row slots parts → IsTrue (known_slots slots) → AllGood parts → (d kind : Kind) (turned : Bool) → Uses kind turned
            → AllParts d kind turned parts
        row_parts at_end q good d kind turned uses = tt
        row_parts (a_word {terminals = ts} {slots = slots} {token = token} w row) q good d kind turned uses =
            let both = and_parts (not (is_one_of ts t.Select)) (known_slots slots) q in
            (word_part ts token (not-true (is_one_of ts t.Select) both.0) w d kind turned uses, row_parts row both.1 good.1 d kind turned uses)
        row_parts (perhaps_there w row) q good d kind turned uses = none_such q
        row_parts (not_there row) q good d kind turned uses = none_such q
        row_parts (a_star w row) q good d kind turned uses = none_such q
        row_parts (no_star row) q good d kind turned uses = none_such q
        row_parts (a_part {category = category} {slots = slots} h row) q good d kind turned uses =
            let both = and_parts (known category) (known_slots slots) q in
            (good.0 category both.0 h d kind turned uses, row_parts row both.1 good.1 d kind turned uses)
        row_parts (left_out {category = category} {slots = slots} row) q good d kind turned uses =
            let both = and_parts (known category) (known_slots slots) q in
            (absent_part d kind turned, row_parts row both.1 good.1 d kind turned uses)
        row_parts (given {category = category} {slots = slots} h row) q good d kind turned uses =
            let both = and_parts (known category) (known_slots slots) q in
            (good.0 category both.0 h d kind turned uses, row_parts row both.1 good.1 d kind turned uses)

        pub each_parts :
            {each : Category} {parts : PlainTrees} → Each each parts → IsTrue (known each) → AllGood parts → (d kind : Kind) (turned : Bool) → Uses kind turned
            → AllParts d kind turned parts
        each_parts no_more q good d kind turned uses = tt
        each_parts (one_more {each = each} h others) q good d kind turned uses =
            (good.0 each q h d kind turned uses, each_parts others q good.1 d kind turned uses)

        pub separated_parts :
            {each : Category} {parts : PlainTrees} → Separated each parts → IsTrue (known each) → AllGood parts → (d kind : Kind) (turned : Bool) → Uses kind turned
            → AllParts d kind turned parts
        separated_parts (last_one {each = each} h) q good d kind turned uses = (good.0 each q h d kind turned uses, tt)
        separated_parts (next_one {each = each} {comma = comma} h w others) q good d kind turned uses = (
          good.0 each q h d kind turned uses,
          (word_part (t.Comma ∷ []) comma refl w d kind turned uses, separated_parts others q good.1.1 d kind turned uses),
        )

        pub ended_parts :
            {each : Category} {parts : PlainTrees} → Ended each parts → IsTrue (known each) → AllGood parts → (d kind : Kind) (turned : Bool) → Uses kind turned
            → AllParts d kind turned parts
        ended_parts (ends {each = each} h) q good d kind turned uses = (good.0 each q h d kind turned uses, tt)
        ended_parts (ends_in_comma {each = each} {comma = comma} h w) q good d kind turned uses =
            (good.0 each q h d kind turned uses, (word_part (t.Comma ∷ []) comma refl w d kind turned uses, tt))
        ended_parts (goes_on {each = each} {comma = comma} h w others) q good d kind turned uses = (
          good.0 each q h d kind turned uses,
          (word_part (t.Comma ∷ []) comma refl w d kind turned uses, ended_parts others q good.1.1 d kind turned uses),
        )
