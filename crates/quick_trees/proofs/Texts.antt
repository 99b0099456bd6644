-- The tree of present items has no texts.
use Rattle.std.proofs.Common.{◌≡◌, List, [], ◌∷◌, ◌++◌, refl, ap}
use Rattle.c_tree.specs.Trees.{PlainTree, PlainTrees, none, more}
use Rattle.core_meaning.specs.Linking.{texts_in, texts_in_all, literals_of, different_texts}
use Rattle.quick_form.specs.Form.{Term, Sum, operand_symbol}
use Rattle.quick_form.specs.Program.{Code, done, assign, put, give, while_}
use Rattle.quick_core.specs.Present.{Item, tentative, valued, main_of}
use Rattle.quick_trees.specs.Tokens.{Seats, skip}
use Rattle.quick_trees.specs.UnitTree.{word, sum_node, terms_tree, sum_tree, block_items, code_trees, item_trees, unit_tree}

terms_textless : (left : PlainTree) (ts : List Term) (seats : Seats) → texts_in left ≡ [] → texts_in (terms_tree left ts seats).tree ≡ []
terms_textless left [] seats h = h
terms_textless left (t ∷ ts) seats h = terms_textless (sum_node left t seats) ts (skip 2 seats) (ap (λ x. x ++ []) h)

sum_textless : (s : Sum) (seats : Seats) → texts_in (sum_tree s seats).tree ≡ []
sum_textless s seats = terms_textless (word (operand_symbol s.first) (seats 0)) s.more (skip 1 seats) refl

block_textless : (items : PlainTrees) → texts_in_all items ≡ [] → texts_in (block_items items) ≡ []
block_textless none h = refl
block_textless (more first rest) h = h

code_textless : (c : Code) (seats : Seats) → texts_in_all (code_trees c seats).trees ≡ []
code_textless done seats = refl
code_textless (assign x s rest) seats = rw (sum_textless s (skip 2 seats), code_textless rest (skip 1 (sum_tree s (skip 2 seats)).seats)) refl
code_textless (put s rest) seats = rw (sum_textless s (skip 2 seats), code_textless rest (skip 2 (sum_tree s (skip 2 seats)).seats)) refl
code_textless (give s rest) seats = rw (sum_textless s (skip 1 seats), code_textless rest (skip 1 (sum_tree s (skip 1 seats)).seats)) refl
code_textless (while_ s body rest) seats =
    let sum = sum_tree s (skip 2 seats) in
    let inner = code_trees body (skip 2 sum.seats) in
    rw (sum_textless s (skip 2 seats), block_textless inner.trees (code_textless body (skip 2 sum.seats)), code_textless rest (skip 1 inner.seats)) refl

items_textless : (items : List Item) (seats : Seats) → texts_in_all (item_trees items seats) ≡ []
items_textless [] seats = refl
items_textless (tentative x ∷ rest) seats = items_textless rest (skip 3 seats)
items_textless (valued x d ∷ rest) seats = items_textless rest (skip 5 seats)
items_textless (main_of c ∷ rest) seats =
    let inner = code_trees c (skip 6 seats) in
    rw (block_textless inner.trees (code_textless c (skip 6 seats)), items_textless rest (skip 1 inner.seats)) refl

pub no_literals : (items : List Item) (seats : Seats) → literals_of (unit_tree items seats ∷ []) ≡ []
no_literals items seats = ap (λ x. different_texts [] (x ++ [])) (items_textless items (skip 6 seats))
