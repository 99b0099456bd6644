-- The tree of present items spells their tokens, and is a unit.
use Rattle.std.proofs.Common.{◌≡◌, ℕ, Bool, true, false, ◌&&◌, List, [], ◌∷◌, ◌++◌, refl, ◌∙◌, ap, IsTrue}
use Rattle.c_text.specs.Token.{PlainToken}
use Rattle.c_tree.specs.Trees.{PlainTree, PlainTrees, leaf, none, more, written, all_written, spelled}
use Rattle.c_tree.specs.Grammar.{expression, item, file_item, statement, block, is_absent, is_a, are_each}
use Rattle.quick_form.specs.Symbols.{Symbol, Int, Void, While, Return, Putchar, Main, Name, Number, Mark}
use Rattle.quick_form.specs.Form.{Operand, Named, Literal, Term, Sum, operand_symbol, write_terms, write_sum}
use Rattle.quick_form.specs.Program.{Code, done, assign, put, give, while_}
use Rattle.quick_core.specs.Present.{Item, tentative, valued, main_of}
use Rattle.quick_trees.specs.Tokens.{Seat, Seats, skip, token_of, tokens_of, write_code, write_present, write_unit}
use Rattle.quick_trees.specs.UnitTree.{terms_tree, sum_tree, code_trees, item_trees, unit_tree, block_items, block_tree, sum_node, word, Grown, GrownAll, assignment_tree, output_tree, return_tree, while_tree, main_tree}
use Rattle.quick_trees.specs.Laws.{TreesAreSpelled}

terms_spelled : (left : PlainTree) (ts : List Term) (seats : Seats) (k : List Symbol)
    → written (terms_tree left ts seats).tree (tokens_of k (terms_tree left ts seats).seats) ≡ written left (tokens_of (write_terms ts k) seats)
terms_spelled left [] seats k = refl
terms_spelled left (t ∷ ts) seats k = terms_spelled (sum_node left t seats) ts (skip 2 seats) k

sum_spelled : (s : Sum) (seats : Seats) (k : List Symbol) → written (sum_tree s seats).tree (tokens_of k (sum_tree s seats).seats) ≡ tokens_of (write_sum s k) seats
sum_spelled s seats k = terms_spelled (leaf (token_of (operand_symbol s.first) (seats 0))) s.more (skip 1 seats) k

block_written : (items : PlainTrees) (behind : List PlainToken) → written (block_items items) behind ≡ all_written items behind
block_written none behind = refl
block_written (more first rest) behind = refl

code_spelled : (c : Code) (seats : Seats) (k : List Symbol) → all_written (code_trees c seats).trees (tokens_of k (code_trees c seats).seats) ≡ tokens_of (write_code c k) seats
code_spelled done seats k = refl
code_spelled (assign x s rest) seats k =
    let sum = sum_tree s (skip 2 seats) in
    ap (λ b. token_of (Name x) (seats 0) ∷ token_of (Mark 61) (seats 1) ∷ written sum.tree (token_of (Mark 59) (sum.seats 0) ∷ b)) (code_spelled rest (skip 1 sum.seats) k)
    ∙ ap (λ b. token_of (Name x) (seats 0) ∷ token_of (Mark 61) (seats 1) ∷ b) (sum_spelled s (skip 2 seats) (Mark 59 ∷ write_code rest k))
code_spelled (put s rest) seats k =
    let sum = sum_tree s (skip 2 seats) in
    ap (λ b. token_of Putchar (seats 0) ∷ token_of (Mark 40) (seats 1) ∷ written sum.tree (token_of (Mark 41) (sum.seats 0) ∷ token_of (Mark 59) (sum.seats 1) ∷ b)) (code_spelled rest (skip 2 sum.seats) k)
    ∙ ap (λ b. token_of Putchar (seats 0) ∷ token_of (Mark 40) (seats 1) ∷ b) (sum_spelled s (skip 2 seats) (Mark 41 ∷ Mark 59 ∷ write_code rest k))
code_spelled (give s rest) seats k =
    let sum = sum_tree s (skip 1 seats) in
    ap (λ b. token_of Return (seats 0) ∷ written sum.tree (token_of (Mark 59) (sum.seats 0) ∷ b)) (code_spelled rest (skip 1 sum.seats) k)
    ∙ ap (λ b. token_of Return (seats 0) ∷ b) (sum_spelled s (skip 1 seats) (Mark 59 ∷ write_code rest k))
code_spelled (while_ s body rest) seats k =
    let sum = sum_tree s (skip 2 seats) in
    let inner = code_trees body (skip 2 sum.seats) in
    let others = code_trees rest (skip 1 inner.seats) in
    let brace = token_of (Mark 125) (inner.seats 0) in
    let front : List PlainToken → List PlainToken = λ b. token_of While (seats 0) ∷ token_of (Mark 40) (seats 1) ∷ b in
    let open_ : List PlainToken → List PlainToken = λ b. token_of (Mark 41) (sum.seats 0) ∷ token_of (Mark 123) (sum.seats 1) ∷ b in
    ap (λ b. front (written sum.tree (open_ b))) (block_written inner.trees (brace ∷ all_written others.trees (tokens_of k others.seats)))
    ∙ (ap (λ b. front (written sum.tree (open_ (all_written inner.trees (brace ∷ b))))) (code_spelled rest (skip 1 inner.seats) k)
    ∙ (ap (λ b. front (written sum.tree (open_ b))) (code_spelled body (skip 2 sum.seats) (Mark 125 ∷ write_code rest k))
    ∙ ap front (sum_spelled s (skip 2 seats) (Mark 41 ∷ Mark 123 ∷ write_code body (Mark 125 ∷ write_code rest k)))))

items_spelled : (items : List Item) (seats : Seats) → all_written (item_trees items seats) [] ≡ tokens_of (write_present items) seats
items_spelled [] seats = refl
items_spelled (tentative x ∷ rest) seats =
    ap (λ b. token_of Int (seats 0) ∷ token_of (Name x) (seats 1) ∷ token_of (Mark 59) (seats 2) ∷ b) (items_spelled rest (skip 3 seats))
items_spelled (valued x d ∷ rest) seats =
    ap (λ b. token_of Int (seats 0) ∷ token_of (Name x) (seats 1) ∷ token_of (Mark 61) (seats 2) ∷ token_of (Number d) (seats 3) ∷ token_of (Mark 59) (seats 4) ∷ b)
    (items_spelled rest (skip 5 seats))
items_spelled (main_of body ∷ rest) seats =
    let inner = code_trees body (skip 6 seats) in
    let brace = token_of (Mark 125) (inner.seats 0) in
    let front : List PlainToken → List PlainToken = λ b. tokens_of (Int ∷ Main ∷ Mark 40 ∷ Void ∷ Mark 41 ∷ Mark 123 ∷ []) seats ++ b in
    ap front (block_written inner.trees (brace ∷ all_written (item_trees rest (skip 1 inner.seats)) []))
    ∙ (ap (λ b. front (all_written inner.trees (brace ∷ b))) (items_spelled rest (skip 1 inner.seats))
    ∙ ap front (code_spelled body (skip 6 seats) (Mark 125 ∷ write_present rest)))

pub unit_spelled : (items : List Item) (seats : Seats) → spelled (unit_tree items seats) ≡ tokens_of (write_unit items) seats
unit_spelled items seats = ap (λ b. tokens_of (Int ∷ Putchar ∷ Mark 40 ∷ Int ∷ Mark 41 ∷ Mark 59 ∷ []) seats ++ b) (items_spelled items (skip 6 seats))

-- ---- the grammar

both : (a b : Bool) → IsTrue a → IsTrue b → IsTrue (a && b)
both true b h k = k
both false b h k = absurd cc

-- a tree that may stand as a sum
record IsSum (tree : PlainTree) : Type 0 where
  left : IsTrue (is_a (expression 11) tree)
  whole : IsTrue (is_a (expression 1) tree)
  present : is_absent tree ≡ false

operand_is : (o : Operand) (seat : Seat) → IsSum (word (operand_symbol o) seat)
operand_is (Named x) seat = record { left = refl; whole = refl; present = refl }
operand_is (Literal d) seat = record { left = refl; whole = refl; present = refl }

sum_node_is : (left : PlainTree) (b : Bool) (o : Operand) (seats : Seats) → IsSum left → IsSum (sum_node left (record { subtracted = b; operand = o }) seats)
sum_node_is left true (Named x) seats h = record { left = both _ true h.left refl; whole = both _ true h.left refl; present = refl }
sum_node_is left true (Literal d) seats h = record { left = both _ true h.left refl; whole = both _ true h.left refl; present = refl }
sum_node_is left false (Named x) seats h = record { left = both _ true h.left refl; whole = both _ true h.left refl; present = refl }
sum_node_is left false (Literal d) seats h = record { left = both _ true h.left refl; whole = both _ true h.left refl; present = refl }

terms_are : (left : PlainTree) (ts : List Term) (seats : Seats) → IsSum left → IsSum (terms_tree left ts seats).tree
terms_are left [] seats h = h
terms_are left (t ∷ ts) seats h = terms_are (sum_node left t seats) ts (skip 2 seats) (sum_node_is left t.subtracted t.operand seats h)

sum_is : (s : Sum) (seats : Seats) → IsSum (sum_tree s seats).tree
sum_is s seats = terms_are (word (operand_symbol s.first) (seats 0)) s.more (skip 1 seats) (operand_is s.first (seats 0))

-- statements
assignment_is : (x : List ℕ) (seats : Seats) (sum : Grown) → IsSum sum.tree → IsTrue (is_a item (assignment_tree x seats sum))
assignment_is x seats sum h = rw h.whole refl

output_is : (seats : Seats) (sum : Grown) → IsSum sum.tree → IsTrue (is_a item (output_tree seats sum))
output_is seats sum h = rw h.whole refl

return_is : (seats : Seats) (sum : Grown) → IsSum sum.tree → IsTrue (is_a item (return_tree seats sum))
return_is seats sum h = rw (h.present, h.whole) refl

block_is : (brace : Seat) (items : PlainTrees) (seats : Seats) → IsTrue (are_each item items)
    → IsTrue (is_a statement (block_tree brace (record { trees = items; seats = seats }))) × IsTrue (is_a block (block_tree brace (record { trees = items; seats = seats })))
block_is brace none seats h = (refl, refl)
block_is brace (more first rest) seats h = (rw h refl, rw h refl)

while_is : (seats : Seats) (sum : Grown) (body : GrownAll) → IsSum sum.tree → IsTrue (are_each item body.trees) → IsTrue (is_a item (while_tree seats sum body))
while_is seats sum body h k = both _ _ h.whole (both _ _ (block_is (sum.seats 1) body.trees body.seats k).0 refl)

code_is : (c : Code) (seats : Seats) → IsTrue (are_each item (code_trees c seats).trees)
code_is done seats = refl
code_is (assign x s rest) seats =
    let sum = sum_tree s (skip 2 seats) in
    both _ _ (assignment_is x seats sum (sum_is s (skip 2 seats))) (code_is rest (skip 1 sum.seats))
code_is (put s rest) seats =
    let sum = sum_tree s (skip 2 seats) in
    both _ _ (output_is seats sum (sum_is s (skip 2 seats))) (code_is rest (skip 2 sum.seats))
code_is (give s rest) seats =
    let sum = sum_tree s (skip 1 seats) in
    both _ _ (return_is seats sum (sum_is s (skip 1 seats))) (code_is rest (skip 1 sum.seats))
code_is (while_ s body rest) seats =
    let sum = sum_tree s (skip 2 seats) in
    let inner = code_trees body (skip 2 sum.seats) in
    both _ _ (while_is seats sum inner (sum_is s (skip 2 seats)) (code_is body (skip 2 sum.seats))) (code_is rest (skip 1 inner.seats))

main_is : (seats : Seats) (body : GrownAll) → IsTrue (are_each item body.trees) → IsTrue (is_a file_item (main_tree seats body))
main_is seats body h = both _ _ (block_is (seats 5) body.trees body.seats h).1 refl

items_are : (items : List Item) (seats : Seats) → IsTrue (are_each file_item (item_trees items seats))
items_are [] seats = refl
items_are (tentative x ∷ rest) seats = items_are rest (skip 3 seats)
items_are (valued x d ∷ rest) seats = items_are rest (skip 5 seats)
items_are (main_of body ∷ rest) seats =
    let inner = code_trees body (skip 6 seats) in
    both _ _ (main_is seats inner (code_is body (skip 6 seats))) (items_are rest (skip 1 inner.seats))

pub trees_are_spelled_lem : TreesAreSpelled
trees_are_spelled_lem items seats = record { unit = items_are items (skip 6 seats); text = unit_spelled items seats }
