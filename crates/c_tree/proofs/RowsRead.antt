-- A row of parts in a node of a fixed list of parts is read part by part.
use Rattle.std.proofs.Common.{◌≡◌, ℕ, Bool, true, false, ◌&&◌, List, [], ◌∷◌, ◌++◌, refl, ap, sym, ◌∙◌}
use Rattle.std.specs.Prelude.{IsTrue, if◌then◌else◌}
use Rattle.std.proofs.lemmas.Bool.{and_parts, false≢true}
use Rattle.std.proofs.lemmas.List.{append_assoc, append-nil}
use Rattle.c_text.specs.Token.{PlainToken}
use Rattle.c_tree.specs.declared.kinds.Kind.{Kind}
use Rattle.c_tree.specs.declared.kinds.Kind.TheVariants as k
use Rattle.c_tree.specs.declared.terminals.Terminal.{Terminal}
use Rattle.c_tree.specs.Terminals.{terminal, is_one_of}
use Rattle.c_tree.specs.Trees.{PlainTree, PlainTrees, leaf, node, none, more, absent, trees, written, all_written}
use Rattle.c_tree.specs.Grammar.{Category, expression, arguments, else_part, items, Slot, word, perhaps, stars, needed, optional, Next, fine, must_be, wrong, is_a, is_absent, are_in_row}
use Rattle.c_tree.specs.Places.{Place, inside, operand, Beginning, no_beginning, begins, Move, shifts, enters, takes, skips, finishes, passes, fails, move, back, or_skips, begins_part, row_move}
use Rattle.c_tree.specs.Machine.{Frame, frame, begun, moved, alone, arrives, of_trees}
use Rattle.c_tree.proofs.TerminalCases.{EachOf, one_of}
use Rattle.c_tree.proofs.Coming.{is_beginning, ahead, value_ahead, after, reading, with_move, shifting, needing, skipping, finishing}
use Rattle.c_tree.proofs.Readable.{firsts, MayFollow, is_steady, AllReadable, listed}

pub trees_listed : (ps : PlainTrees) → trees (listed ps) ≡ ps
trees_listed none = refl
trees_listed (more tree rest) = ap (more tree) (trees_listed rest)

-- the parts are those of the slots
pub data InRow : List Slot → PlainTrees → Type 0 where
  row_ended : InRow [] none
  word_part :
      {terminals : List Terminal} {slots : List Slot} {token : PlainToken} {ps : PlainTrees}
      → IsTrue (is_one_of terminals (terminal token)) → InRow slots ps → InRow (word terminals ∷ slots) (more (leaf token) ps)
  needed_part :
      {category : Category} {slots : List Slot} {tree : PlainTree} {ps : PlainTrees}
      → IsTrue (is_a category tree) → InRow slots ps → InRow (needed category ∷ slots) (more tree ps)
  absent_part :
      {category : Category} {slots : List Slot} {ps : PlainTrees} → InRow slots ps → InRow (optional category ∷ slots) (more absent ps)
  present_part :
      {category : Category} {slots : List Slot} {tree : PlainTree} {ps : PlainTrees}
      → IsTrue (is_a category tree) → InRow slots ps → InRow (optional category ∷ slots) (more tree ps)

-- no stars and no words that may be left out
abbrev pub are_fixed : List Slot → Bool
are_fixed [] = true
are_fixed (word terminals ∷ slots) = are_fixed slots
are_fixed (needed category ∷ slots) = are_fixed slots
are_fixed (optional category ∷ slots) = are_fixed slots
are_fixed (perhaps terminals ∷ slots) = false
are_fixed (stars ∷ slots) = false

is_absent-true : (tree : PlainTree) → IsTrue (is_absent tree) → tree ≡ absent
is_absent-true (leaf token) h = absurd (false≢true h)
is_absent-true (node k.Absent none) h = refl
is_absent-true (node k.Absent (more tree ps)) h = absurd (false≢true h)
is_absent-true (node _ ps) h = absurd (false≢true h)

-- what is needed behind the next part
abbrev pub row_goes_on : Next → PlainTree → PlainTrees → Bool
row_goes_on n tree rest = elim n as (λ x. Bool) [
  | fine others ↦ are_in_row others rest
  | must_be category others ↦ is_a category tree && are_in_row others rest
  | wrong ↦ false
]

word_case :
    (terminals : List Terminal) (slots : List Slot) (token : PlainToken) (ps : PlainTrees) (b : Bool)
    → is_one_of terminals (terminal token) ≡ b
    → IsTrue (row_goes_on (if b then fine slots else wrong) (leaf token) ps)
    → (IsTrue (are_in_row slots ps) → InRow slots ps) → InRow (word terminals ∷ slots) (more (leaf token) ps)
word_case terminals slots token ps true e h others = word_part e (others h)
word_case terminals slots token ps false e h others = absurd (false≢true h)

optional_case :
    (category : Category) (slots : List Slot) (tree : PlainTree) (ps : PlainTrees) (b : Bool)
    → is_absent tree ≡ b
    → IsTrue (row_goes_on (if b then fine slots else must_be category slots) tree ps)
    → (IsTrue (are_in_row slots ps) → InRow slots ps) → InRow (optional category ∷ slots) (more tree ps)
optional_case category slots tree ps true e h others =
    rw (is_absent-true tree e) (absent_part (others h))
optional_case category slots tree ps false e h others =
    let parts : _ × _ = and_parts (is_a category tree) (are_in_row slots ps) h in present_part parts.0 (others parts.1)

pub fixed_row : (slots : List Slot) (ps : PlainTrees) → IsTrue (are_fixed slots) → IsTrue (are_in_row slots ps) → InRow slots ps
fixed_row [] none fixed h = row_ended
fixed_row (word terminals ∷ slots) none fixed h = absurd (false≢true h)
fixed_row (perhaps terminals ∷ slots) none fixed h = absurd (false≢true fixed)
fixed_row (stars ∷ slots) none fixed h = absurd (false≢true fixed)
fixed_row (needed category ∷ slots) none fixed h = absurd (false≢true h)
fixed_row (optional category ∷ slots) none fixed h = absurd (false≢true h)
fixed_row [] (more tree ps) fixed h = absurd (false≢true h)
fixed_row (word terminals ∷ slots) (more (leaf token) ps) fixed h =
    word_case terminals slots token ps (is_one_of terminals (terminal token)) refl h (fixed_row slots ps fixed)
fixed_row (word terminals ∷ slots) (more (node kind parts) ps) fixed h = absurd (false≢true h)
fixed_row (perhaps terminals ∷ slots) (more tree ps) fixed h = absurd (false≢true fixed)
fixed_row (stars ∷ slots) (more tree ps) fixed h = absurd (false≢true fixed)
fixed_row (needed category ∷ slots) (more tree ps) fixed h =
    let parts : _ × _ = and_parts (is_a category tree) (are_in_row slots ps) h in needed_part parts.0 (fixed_row slots ps fixed parts.1)
fixed_row (optional category ∷ slots) (more tree ps) fixed h =
    optional_case category slots tree ps (is_absent tree) refl h (fixed_row slots ps fixed)

-- the categories of parts that may be left out
abbrev pub may_be_left_out : Category → Bool
may_be_left_out (expression wanted) = true
may_be_left_out arguments = true
may_be_left_out items = true
may_be_left_out else_part = true
may_be_left_out category = false

-- what follows each part may follow it
abbrev pub Fit : {slots : List Slot} {ps : PlainTrees} → InRow slots ps → List PlainToken → Type 0
Fit row_ended rest = Unit {0}
Fit (word_part h others) rest = Fit others rest
Fit (needed_part {category = category} {tree = tree} {ps = ps} h others) rest =
    IsTrue (is_steady category) × MayFollow category tree (ahead (all_written ps rest)) × Fit others rest
Fit (absent_part {category = category} {ps = ps} others) rest =
    (begins_part category (ahead (all_written ps rest)) ≡ no_beginning) × Fit others rest
Fit (present_part {category = category} {tree = tree} {ps = ps} h others) rest =
    IsTrue (is_steady category) × IsTrue (may_be_left_out category) × MayFollow category tree (ahead (all_written ps rest)) × Fit others rest

expression_begins : (wanted : ℕ) → EachOf (λ k. IsTrue (is_beginning (begins_part (expression wanted) k))) (firsts (expression wanted))
expression_begins wanted = (refl, (refl, (refl, (refl, (refl, (refl, (refl, (refl, (refl, (refl, tt))))))))))

arguments_begin : EachOf (λ k. IsTrue (is_beginning (begins_part arguments k))) (firsts arguments)
arguments_begin = (refl, (refl, (refl, (refl, (refl, (refl, (refl, (refl, (refl, (refl, tt))))))))))

items_begin : EachOf (λ k. IsTrue (is_beginning (begins_part items k))) (firsts items)
items_begin = (
  refl,
  (
    refl,
    (
      refl,
      (
        refl,
        (
          refl,
          (
            refl,
            (
              refl,
              (
                refl,
                (
                  refl,
                  (
                    refl,
                    (
                      refl,
                      (
                        refl,
                        (
                          refl,
                          (
                            refl,
                            (
                              refl,
                              (
                                refl,
                                (
                                  refl,
                                  (
                                    refl,
                                    (
                                      refl,
                                      (refl, (refl, (refl, (refl, (refl, tt))))),
                                    ),
                                  ),
                                ),
                              ),
                            ),
                          ),
                        ),
                      ),
                    ),
                  ),
                ),
              ),
            ),
          ),
        ),
      ),
    ),
  ),
)

-- a part that may be left out begins with each of its first terminals
left_out_begins :
    (category : Category) (k : Terminal) → IsTrue (may_be_left_out category) → IsTrue (is_one_of (firsts category) k)
    → IsTrue (is_beginning (begins_part category k))
left_out_begins (expression wanted) k may h =
    one_of (λ k. IsTrue (is_beginning (begins_part (expression wanted) k))) (firsts (expression wanted)) k h (expression_begins wanted)
left_out_begins arguments k may h =
    one_of (λ k. IsTrue (is_beginning (begins_part arguments k))) (firsts arguments) k h arguments_begin
left_out_begins items k may h =
    one_of (λ k. IsTrue (is_beginning (begins_part items k))) (firsts items) k h items_begin
left_out_begins else_part k may h =
    one_of (λ k. IsTrue (is_beginning (begins_part else_part k))) (firsts else_part) k h (refl, tt)
left_out_begins _ k may h = absurd (false≢true may)

pub or_skips_nothing : (behind : Place) (b : Beginning) (m : Move) → b ≡ no_beginning → or_skips behind b m ≡ skips m
or_skips_nothing behind b m e = ap (λ x. or_skips behind x m) e

pub or_skips_enters :
    (place behind : Place) (b : Beginning) (m : Move) (parts : List PlainTree) (frames : List (Frame PlainTree))
    (tokens : List PlainToken) → IsTrue (is_beginning b)
    → with_move place parts frames tokens (or_skips behind b m)
    ≡ after (begun of_trees b (value_ahead tokens) (frame behind parts ∷ frames)) tokens
or_skips_enters place behind no_beginning m parts frames tokens h = absurd (false≢true h)
or_skips_enters place behind (begins places skipped inner) m parts frames tokens h = refl

-- a value that ends at either place comes back to the same
abbrev pub EndAlike : Place → Place → Type 0
EndAlike first second = (outer : Place) → back outer first ≡ back outer second

arrives_alike :
    (kind : Terminal) (token value : PlainTree) (first second : Place) (frames : List (Frame PlainTree)) → EndAlike first second
    → arrives of_trees kind token value first frames ≡ arrives of_trees kind token value second frames
arrives_alike kind token value first second [] alike = refl
arrives_alike kind token value first second (inner ∷ frames) alike =
    ap
    (λ p. moved of_trees p (inner.parts ++ value ∷ []) (move p kind) token frames
    (λ whole. arrives of_trees kind token whole p frames))
    (alike inner.place)

-- a move from one of these places leads to what it leads to from the other
pub moved_alike :
    (first second : Place) (frames : List (Frame PlainTree)) (tokens : List PlainToken) → EndAlike first second
    → (m : Move) (parts : List PlainTree) → with_move first parts frames tokens m ≡ with_move second parts frames tokens m
moved_alike first second frames tokens alike (shifts behind) parts = refl
moved_alike first second frames tokens alike (enters behind b) parts = refl
moved_alike first second frames tokens alike (takes behind inner) parts = refl
moved_alike first second frames tokens alike (skips m) parts = moved_alike first second frames tokens alike m (parts ++ absent ∷ [])
moved_alike first second frames tokens alike (finishes kind) parts =
    ap (λ o. after o tokens) (arrives_alike (ahead tokens) (value_ahead tokens) (node kind (trees parts)) first second frames alike)
moved_alike first second frames tokens alike passes parts =
    ap (λ o. after o tokens)
    (arrives_alike (ahead tokens) (value_ahead tokens) (alone of_trees parts) first second frames alike)
moved_alike first second frames tokens alike fails parts = refl

pub more_parts :
    (place : Place) (parts : List PlainTree) (first : PlainTree) (rest : List PlainTree) (frames : List (Frame PlainTree))
    (tokens : List PlainToken)
    → reading (frame place ((parts ++ first ∷ []) ++ rest) ∷ frames) tokens ≡ reading (frame place (parts ++ first ∷ rest) ∷ frames) tokens
more_parts place parts first rest frames tokens =
    ap (λ ps. reading (frame place ps ∷ frames) tokens) (append_assoc parts (first ∷ []) rest)

module _ (kind : Kind) (at : List Slot → Place)
    (moves : (slots : List Slot) (k : Terminal) → move (at slots) k ≡ row_move kind at slots k)
    (steady : (slots : List Slot) (ended : Place) → back (at slots) ended ≡ at slots)
    (alike : (first second : List Slot) → EndAlike (at first) (at second)) where
  pub row_read :
      {slots : List Slot} {ps : PlainTrees} (r : InRow slots ps) → AllReadable ps → (parts : List PlainTree)
      (frames : List (Frame PlainTree)) (rest : List PlainToken) → Fit r rest
      → reading (frame (at slots) parts ∷ frames) (all_written ps rest) ≡ reading (frame (at []) (parts ++ listed ps) ∷ frames) rest
  row_read row_ended all parts frames rest fit =
      ap (λ ps. reading (frame (at []) ps ∷ frames) rest) (sym (append-nil parts))
  row_read (word_part {terminals = terminals} {slots = slots} {token = token} {ps = ps} h others) all parts frames rest fit =
      shifting (at (word terminals ∷ slots)) parts frames token (all_written ps rest) (at slots)
      (moves (word terminals ∷ slots) (terminal token) ∙ ap (λ b. if b then shifts (at slots) else fails) h)
      ∙ row_read others all.1 (parts ++ leaf token ∷ []) frames rest fit
      ∙ more_parts (at []) parts (leaf token) (listed ps) frames rest
  row_read (needed_part {category = category} {slots = slots} {tree = tree} {ps = ps} h others) all parts frames rest fit =
      needing (at (needed category ∷ slots)) parts frames (written tree (all_written ps rest)) (at slots) (begins_part category)
      (moves (needed category ∷ slots) (ahead (written tree (all_written ps rest))))
      ∙ all.0.joins category fit.0 h (at slots) parts frames (all_written ps rest) (steady slots) fit.1
      ∙ row_read others all.1 (parts ++ tree ∷ []) frames rest fit.2
      ∙ more_parts (at []) parts tree (listed ps) frames rest
  row_read (absent_part {category = category} {slots = slots} {ps = ps} others) all parts frames rest fit =
      skipping (at (optional category ∷ slots)) parts frames (all_written ps rest)
      (row_move kind at slots (ahead (all_written ps rest)))
      (moves (optional category ∷ slots) (ahead (all_written ps rest))
      ∙ or_skips_nothing (at slots) (begins_part category (ahead (all_written ps rest)))
      (row_move kind at slots (ahead (all_written ps rest))) fit.0)
      ∙ moved_alike (at (optional category ∷ slots)) (at slots) frames (all_written ps rest) (alike (optional category ∷ slots) slots)
      (row_move kind at slots (ahead (all_written ps rest))) (parts ++ absent ∷ [])
      ∙ ap (with_move (at slots) (parts ++ absent ∷ []) frames (all_written ps rest))
      (sym (moves slots (ahead (all_written ps rest))))
      ∙ row_read others all.1 (parts ++ absent ∷ []) frames rest fit.1
      ∙ more_parts (at []) parts absent (listed ps) frames rest
  row_read (present_part {category = category} {slots = slots} {tree = tree} {ps = ps} h others) all parts frames rest fit =
      ap (with_move (at (optional category ∷ slots)) parts frames (written tree (all_written ps rest)))
      (moves (optional category ∷ slots) (ahead (written tree (all_written ps rest))))
      ∙ or_skips_enters (at (optional category ∷ slots)) (at slots)
      (begins_part category (ahead (written tree (all_written ps rest))))
      (row_move kind at slots (ahead (written tree (all_written ps rest)))) parts frames (written tree (all_written ps rest))
      (left_out_begins category (ahead (written tree (all_written ps rest))) fit.1
      (all.0.first category h (all_written ps rest)))
      ∙ all.0.joins category fit.0 h (at slots) parts frames (all_written ps rest) (steady slots) fit.2
      ∙ row_read others all.1 (parts ++ tree ∷ []) frames rest fit.3
      ∙ more_parts (at []) parts tree (listed ps) frames rest

inside_alike : (kind : Kind) (first second : List Slot) → EndAlike (inside kind first) (inside kind second)
inside_alike kind first second (operand wanted) = refl
inside_alike kind first second _ = refl

-- in a node of a fixed list of parts
pub inside_read :
    (kind : Kind) {slots : List Slot} {ps : PlainTrees} (r : InRow slots ps) → AllReadable ps → (parts : List PlainTree)
    (frames : List (Frame PlainTree)) (rest : List PlainToken) → Fit r rest
    → reading (frame (inside kind slots) parts ∷ frames) (all_written ps rest)
    ≡ reading (frame (inside kind []) (parts ++ listed ps) ∷ frames) rest
inside_read kind =
    row_read kind (inside kind) (λ slots k. refl) (λ slots ended. refl) (inside_alike kind)

-- to the end of the node
pub node_read :
    (kind : Kind) {slots : List Slot} {ps : PlainTrees} (r : InRow slots ps) → AllReadable ps → (parts : List PlainTree)
    (place : Place) (others : List PlainTree) (frames : List (Frame PlainTree)) (rest : List PlainToken) → Fit r rest
    → reading (frame (inside kind slots) parts ∷ frame place others ∷ frames) (all_written ps rest)
    ≡ reading (frame (back place (inside kind [])) (others ++ node kind (trees (parts ++ listed ps)) ∷ []) ∷ frames) rest
node_read kind r all parts place others frames rest fit =
    inside_read kind r all parts (frame place others ∷ frames) rest fit
    ∙ finishing (inside kind []) (parts ++ listed _) (frame place others ∷ frames) rest kind refl
