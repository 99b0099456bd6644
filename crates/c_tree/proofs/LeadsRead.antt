-- Nodes that begin with a word, or with a part, are read to their ends.
use Rattle.std.proofs.Common.{◌≡◌, true, false, List, [], ◌∷◌, ◌++◌, refl, ap, sym, ◌∙◌}
use Rattle.c_text.specs.Token.{PlainToken}
use Rattle.c_tree.specs.declared.kinds.Kind.{Kind}
use Rattle.c_tree.specs.declared.terminals.Terminal.{Terminal}
use Rattle.c_tree.specs.Terminals.{terminal}
use Rattle.c_tree.specs.Trees.{PlainTree, PlainTrees, leaf, node, more, absent, trees, written, all_written}
use Rattle.c_tree.specs.Grammar.{Category, Slot, needed}
use Rattle.c_tree.specs.Places.{Place, inside, Beginning, begins, back, around, begins_part}
use Rattle.c_tree.specs.Machine.{Frame, frame, begun, of_trees}
use Rattle.c_tree.proofs.Coming.{ahead, after, reading, entering, on, needing, entering_node, entering_around}
use Rattle.c_tree.proofs.Readable.{Readable, AllReadable, listed}
use Rattle.c_tree.proofs.RowsRead.{InRow, Fit, trees_listed, node_read}

-- the place is the same behind each part
abbrev pub Steady : Place → Type 0
Steady place = (ended : Place) → back place ended ≡ place

-- a node is the next part
joined_on :
    (kind : Kind) (first : List PlainTree) (ps : PlainTrees) (place : Place) (parts : List PlainTree) (frames : List (Frame PlainTree))
    (rest : List PlainToken) → Steady place
    → reading (frame (back place (inside kind [])) (parts ++ node kind (trees (first ++ listed ps)) ∷ []) ∷ frames) rest
    ≡ reading (frame place (parts ++ node kind (trees (first ++ listed ps)) ∷ []) ∷ frames) rest
joined_on kind first ps place parts frames rest steady =
    ap (λ p. reading (frame p (parts ++ node kind (trees (first ++ listed ps)) ∷ []) ∷ frames) rest) (steady (inside kind []))

module _ (kind : Kind) (beginning : Terminal → Beginning) (token : PlainToken) (slots : List Slot) (ps : PlainTrees)
    (place : Place) (parts : List PlainTree) (frames : List (Frame PlainTree)) (rest : List PlainToken) (steady : Steady place) where
  -- a node that begins with a word
  pub row_leads :
      beginning (terminal token) ≡ begins [] false (inside kind slots) → (r : InRow slots ps) → AllReadable ps → Fit r rest
      → entering beginning (frame place parts ∷ frames) (token ∷ all_written ps rest)
      ≡ reading (frame place (parts ++ node kind (more (leaf token) ps) ∷ []) ∷ frames) rest
  row_leads e r all fit =
      entering_node beginning (inside kind slots) (frame place parts ∷ frames) token (all_written ps rest) e
      ∙ node_read kind r all (leaf token ∷ []) place parts frames rest fit
      ∙ joined_on kind (leaf token ∷ []) ps place parts frames rest steady
      ∙ ap (λ ps. reading (frame place (parts ++ node kind (more (leaf token) ps) ∷ []) ∷ frames) rest) (trees_listed ps)

  -- a node that begins with a word behind a part that is left out
  pub skipped_row_leads :
      beginning (terminal token) ≡ begins [] true (inside kind slots) → (r : InRow slots ps) → AllReadable ps → Fit r rest
      → entering beginning (frame place parts ∷ frames) (token ∷ all_written ps rest)
      ≡ reading (frame place (parts ++ node kind (more absent (more (leaf token) ps)) ∷ []) ∷ frames) rest
  skipped_row_leads e r all fit =
      ap (λ b. after (begun of_trees b (leaf token) (frame place parts ∷ frames)) (token ∷ all_written ps rest)) e
      ∙ on (frame (inside kind slots) (absent ∷ leaf token ∷ []) ∷ frame place parts ∷ frames) (all_written ps rest)
      ∙ node_read kind r all (absent ∷ leaf token ∷ []) place parts frames rest fit
      ∙ joined_on kind (absent ∷ leaf token ∷ []) ps place parts frames rest steady
      ∙ ap (λ ps. reading (frame place (parts ++ node kind (more absent (more (leaf token) ps)) ∷ []) ∷ frames) rest) (trees_listed ps)

module _ (kind : Kind) (beginning : Terminal → Beginning) (category : Category) (slots : List Slot) (tree : PlainTree) (ps : PlainTrees)
    (place : Place) (parts : List PlainTree) (frames : List (Frame PlainTree)) (rest : List PlainToken) (steady : Steady place) where
  -- a node that begins with a part
  pub part_leads :
      beginning (ahead (written tree (all_written ps rest)))
      ≡ around (inside kind slots) (begins_part category (ahead (written tree (all_written ps rest))))
      → (r : InRow (needed category ∷ slots) (more tree ps)) → Readable tree → AllReadable ps → Fit r rest
      → entering beginning (frame place parts ∷ frames) (written tree (all_written ps rest))
      ≡ reading (frame place (parts ++ node kind (more tree ps) ∷ []) ∷ frames) rest
  part_leads e r readable all fit =
      entering_around (inside kind slots) beginning (begins_part category) (frame place parts ∷ frames)
      (written tree (all_written ps rest)) e
      ∙ sym
      (needing (inside kind (needed category ∷ slots)) [] (frame place parts ∷ frames) (written tree (all_written ps rest))
      (inside kind slots) (begins_part category) refl)
      ∙ node_read kind r (readable, all) [] place parts frames rest fit
      ∙ joined_on kind [] (more tree ps) place parts frames rest steady
      ∙ ap (λ ps. reading (frame place (parts ++ node kind (more tree ps) ∷ []) ∷ frames) rest) (trees_listed ps)
