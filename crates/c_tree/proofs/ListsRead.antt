-- Lists of parts are read part by part, with or without commas between them.
use Rattle.std.proofs.Common.{◌≡◌, true, false, ◌&&◌, List, [], ◌∷◌, ◌++◌, refl, ap, sym, ◌∙◌, arith}
use Rattle.std.specs.Prelude.{IsTrue, if◌then◌else◌}
use Rattle.std.proofs.lemmas.Bool.{and_parts, and_from, false≢true}
use Rattle.std.proofs.lemmas.List.{append_assoc, append-nil}
use Rattle.c_text.specs.Token.{PlainToken}
use Rattle.c_tree.specs.declared.kinds.Kind.{Kind}
use Rattle.c_tree.specs.declared.kinds.Kind.TheVariants as k
use Rattle.c_tree.specs.declared.terminals.Terminal.{Terminal}
use Rattle.c_tree.specs.declared.terminals.Terminal.TheVariants as t
use Rattle.c_tree.specs.Terminals.{terminal, is_one_of}
use Rattle.c_tree.specs.Trees.{PlainTree, PlainTrees, leaf, node, none, more, trees, written, all_written}
use Rattle.c_tree.specs.Grammar.{Category, expression, arguments, initialiser, initialisers, items, item, members, member, is_a, is_word, are_each, are_separated, are_separated_or_ended, row, word, needed, belongs, agree, shape}
use Rattle.c_tree.specs.Places.{Place, in_list, entered, separated_from, Beginning, no_beginning, begins, begins_part, Move, shifts, enters, finishes, fails, move, or_ends, may_end_with_comma, begins_initialiser, begins_expression, begins_row}
use Rattle.c_tree.specs.Machine.{Frame, frame, begun, of_trees}
use Rattle.c_tree.proofs.TerminalCases.{one_of}
use Rattle.c_tree.proofs.Coming.{is_beginning, ahead, value_ahead, after, reading, arriving, entering, with_move, shifting, finishing, beginning_part, entering_around, entering_by}
use Rattle.c_tree.proofs.Readable.{firsts, expression_firsts, MayFollow, is_steady, Joins, Readable, AllReadable, listed}
use Rattle.c_tree.proofs.RowsRead.{more_parts, InRow, row_ended, word_part, needed_part, fixed_row, trees_listed}
use Rattle.c_tree.proofs.ExpressionsRead.{Formed, formed, shaped, closed, AllParts, expression_joins}
use Rattle.c_tree.proofs.FirstsRead.{expression_first, initialiser_expression}
use Rattle.c_tree.proofs.LeadsRead.{Steady, row_leads}
use Rattle.c_tree.proofs.StatementsRead.{not_else}

-- ---- lists without commas

or_ends_enters :
    (place behind : Place) (b : Beginning) (kind : Kind) (parts : List PlainTree) (frames : List (Frame PlainTree))
    (tokens : List PlainToken) → IsTrue (is_beginning b)
    → with_move place parts frames tokens (or_ends behind b kind)
    ≡ after (begun of_trees b (value_ahead tokens) (frame behind parts ∷ frames)) tokens
or_ends_enters place behind no_beginning kind parts frames tokens h = absurd (false≢true h)
or_ends_enters place behind (begins places skipped inner) kind parts frames tokens h = refl

module _ (kind : Kind) (category : Category) (steady : IsTrue (is_steady category))
    (begin : (x : Terminal) → IsTrue (is_one_of (firsts category) x) → IsTrue (is_beginning (begins_part category x)))
    (between : (tree : PlainTree) (x : Terminal) → IsTrue (is_a category tree) → IsTrue (is_one_of (firsts category) x) → MayFollow category tree x)
    (frames : List (Frame PlainTree)) (rest : List PlainToken)
    (last : (tree : PlainTree) → IsTrue (is_a category tree) → MayFollow category tree (ahead rest)) where
  list_follows :
      (tree : PlainTree) (ps : PlainTrees) → IsTrue (is_a category tree) → IsTrue (are_each category ps) → AllReadable ps
      → MayFollow category tree (ahead (all_written ps rest))
  list_follows tree none h each all = last tree h
  list_follows tree (more next ps) h each all =
      let both : _ × _ = and_parts (is_a category next) (are_each category ps) each in
      between tree (ahead (written next (all_written ps rest))) h (all.0.first category both.0 (all_written ps rest))

  pub list_read :
      (ps : PlainTrees) (parts : List PlainTree) → IsTrue (are_each category ps) → AllReadable ps
      → reading (frame (in_list kind category) parts ∷ frames) (all_written ps rest)
      ≡ reading (frame (in_list kind category) (parts ++ listed ps) ∷ frames) rest
  list_read none parts each all = ap (λ ps. reading (frame (in_list kind category) ps ∷ frames) rest) (sym (append-nil parts))
  list_read (more tree ps) parts each all =
      let both : _ × _ = and_parts (is_a category tree) (are_each category ps) each in
      let tokens : List PlainToken = written tree (all_written ps rest) in
      or_ends_enters (in_list kind category) (in_list kind category) (begins_part category (ahead tokens)) kind parts frames tokens
      (begin (ahead tokens) (all.0.first category both.0 (all_written ps rest)))
      ∙ all.0.joins category steady both.0 (in_list kind category) parts frames (all_written ps rest) (λ ended. refl)
      (list_follows tree ps both.0 both.1 all.1)
      ∙ list_read ps (parts ++ tree ∷ []) both.1 all.1
      ∙ more_parts (in_list kind category) parts tree (listed ps) frames rest

  -- a list whose first token begins it
  pub list_leads :
      (tree : PlainTree) (ps : PlainTrees) → IsTrue (are_each category (more tree ps)) → AllReadable (more tree ps)
      → entering (begins_part category) (frame (in_list kind category) [] ∷ frames) (written tree (all_written ps rest))
      ≡ reading (frame (in_list kind category) (tree ∷ listed ps) ∷ frames) rest
  list_leads tree ps each all =
      let both : _ × _ = and_parts (is_a category tree) (are_each category ps) each in
      all.0.joins category steady both.0 (in_list kind category) [] frames (all_written ps rest) (λ ended. refl)
      (list_follows tree ps both.0 both.1 all.1)
      ∙ list_read ps (tree ∷ []) both.1 all.1

pub item_begins : (x : Terminal) → IsTrue (is_one_of (firsts item) x) → IsTrue (is_beginning (begins_part item x))
item_begins x h =
    one_of (λ x. IsTrue (is_beginning (begins_part item x))) (firsts item) x h (
      refl,
      (
        refl,
        (
          refl,
          (
            refl,
            (
              refl,
              (
                refl,
                (
                  refl,
                  (
                    refl,
                    (
                      refl,
                      (
                        refl,
                        (
                          refl,
                          (
                            refl,
                            (
                              refl,
                              (
                                refl,
                                (
                                  refl,
                                  (
                                    refl,
                                    (
                                      refl,
                                      (
                                        refl,
                                        (
                                          refl,
                                          (refl, (refl, (refl, (refl, (refl, tt))))),
                                        ),
                                      ),
                                    ),
                                  ),
                                ),
                              ),
                            ),
                          ),
                        ),
                      ),
                    ),
                  ),
                ),
              ),
            ),
          ),
        ),
      ),
    )

member_begins : (x : Terminal) → IsTrue (is_one_of (firsts member) x) → IsTrue (is_beginning (begins_part member x))
member_begins x h =
    one_of (λ x. IsTrue (is_beginning (begins_part member x))) (firsts member) x h (refl, (refl, (refl, (refl, (refl, (refl, tt))))))

behind_item : (tree : PlainTree) (x : Terminal) → IsTrue (is_a item tree) → IsTrue (is_one_of (firsts item) x) → MayFollow item tree x
behind_item tree x h one =
    not_else tree (firsts item) x one (
      refl,
      (
        refl,
        (
          refl,
          (
            refl,
            (
              refl,
              (
                refl,
                (
                  refl,
                  (
                    refl,
                    (
                      refl,
                      (
                        refl,
                        (
                          refl,
                          (
                            refl,
                            (
                              refl,
                              (
                                refl,
                                (
                                  refl,
                                  (
                                    refl,
                                    (
                                      refl,
                                      (
                                        refl,
                                        (
                                          refl,
                                          (refl, (refl, (refl, (refl, (refl, tt))))),
                                        ),
                                      ),
                                    ),
                                  ),
                                ),
                              ),
                            ),
                          ),
                        ),
                      ),
                    ),
                  ),
                ),
              ),
            ),
          ),
        ),
      ),
    )

items_node_join : (kind : Kind) (ps : PlainTrees) → Formed items kind ps → AllReadable ps → Joins items (node kind ps)
items_node_join k.Items none f all place parts frames rest steady follows = absurd (false≢true f.shaped_so)
items_node_join k.Items (more tree ps) f all place parts frames rest steady follows =
    let both : _ × _ = and_parts (are_each item (more tree ps)) true f.shaped_so in
    let outside : List (Frame PlainTree) = frame place parts ∷ frames in
    entering_around (in_list k.Items item) (begins_part items) (begins_part item) outside (written tree (all_written ps rest)) refl
    ∙ list_leads k.Items item refl item_begins behind_item outside rest
    (λ last h. not_else last (t.CloseBrace ∷ []) (ahead rest) follows (refl, tt)) tree ps both.0 all
    ∙ finishing (in_list k.Items item) (tree ∷ listed ps) outside rest k.Items
    (one_of (λ x. move (in_list k.Items item) x ≡ finishes k.Items) (t.CloseBrace ∷ []) (ahead rest) follows (refl, tt))
    ∙ ap (λ p. reading (frame p (parts ++ node k.Items (trees (tree ∷ listed ps)) ∷ []) ∷ frames) rest) (steady (in_list k.Items item))
    ∙ ap (λ ps. reading (frame place (parts ++ node k.Items (more tree ps) ∷ []) ∷ frames) rest) (trees_listed ps)
items_node_join _ ps f all place parts frames rest steady follows = absurd (false≢true f.belongs_there)

pub items_join : (tree : PlainTree) → AllParts tree → IsTrue (is_a items tree) → Joins items tree
items_join (leaf token) all h = absurd (false≢true h)
items_join (node kind ps) all h = items_node_join kind ps (formed items kind ps h) all

members_node_join : (kind : Kind) (ps : PlainTrees) → Formed members kind ps → AllReadable ps → Joins members (node kind ps)
members_node_join k.Members none f all place parts frames rest steady follows = absurd (false≢true f.shaped_so)
members_node_join k.Members (more tree ps) f all place parts frames rest steady follows =
    let both : _ × _ = and_parts (are_each member (more tree ps)) true f.shaped_so in
    let outside : List (Frame PlainTree) = frame place parts ∷ frames in
    entering_around (in_list k.Members member) (begins_part members) (begins_part member) outside (written tree (all_written ps rest)) refl
    ∙ list_leads k.Members member refl member_begins (λ tree x h one. tt) outside rest (λ last h. tt) tree ps both.0 all
    ∙ finishing (in_list k.Members member) (tree ∷ listed ps) outside rest k.Members
    (one_of (λ x. move (in_list k.Members member) x ≡ finishes k.Members) (t.CloseBrace ∷ []) (ahead rest) follows (refl, tt))
    ∙ ap (λ p. reading (frame p (parts ++ node k.Members (trees (tree ∷ listed ps)) ∷ []) ∷ frames) rest) (steady (in_list k.Members member))
    ∙ ap (λ ps. reading (frame place (parts ++ node k.Members (more tree ps) ∷ []) ∷ frames) rest) (trees_listed ps)
members_node_join _ ps f all place parts frames rest steady follows = absurd (false≢true f.belongs_there)

pub members_join : (tree : PlainTree) → AllParts tree → IsTrue (is_a members tree) → Joins members tree
members_join (leaf token) all h = absurd (false≢true h)
members_join (node kind ps) all h = members_node_join kind ps (formed members kind ps h) all

-- ---- lists with commas

pub separated_head :
    (category : Category) (tree : PlainTree) (ps : PlainTrees) → IsTrue (are_separated category (more tree ps))
    → IsTrue (is_a category tree)
separated_head category tree none h = h
separated_head category tree (more comma ps) h =
    let outer : _ × _ = and_parts (is_a category tree && is_word (t.Comma ∷ []) comma) (are_separated category ps) h in
    (and_parts (is_a category tree) (is_word (t.Comma ∷ []) comma) outer.0).0

ended_head :
    (category : Category) (tree : PlainTree) (ps : PlainTrees) → IsTrue (are_separated_or_ended category (more tree ps))
    → IsTrue (is_a category tree)
ended_head category tree none h = h
ended_head category tree (more comma none) h = (and_parts (is_a category tree) (is_word (t.Comma ∷ []) comma) h).0
ended_head category tree (more comma (more next ps)) h =
    let outer : _ × _ =
    and_parts (is_a category tree && is_word (t.Comma ∷ []) comma) (are_separated_or_ended category (more next ps)) h in
    (and_parts (is_a category tree) (is_word (t.Comma ∷ []) comma) outer.0).0

comma_enters :
    (kind : Kind) (category : Category) (parts : List PlainTree) (frames : List (Frame PlainTree)) (tokens : List PlainToken) (b : Beginning)
    → begins_part category (ahead tokens) ≡ b → IsTrue (is_beginning b)
    → reading (frame (separated_from kind category) parts ∷ frames) tokens
    ≡ after (begun of_trees b (value_ahead tokens) (frame (entered kind category) parts ∷ frames)) tokens
comma_enters kind category parts frames tokens no_beginning e h = absurd (false≢true h)
comma_enters kind category parts frames tokens (begins places skipped inner) e h =
    beginning_part (separated_from kind category) parts frames tokens (entered kind category) (begins places skipped inner)
    (ap
    (λ b. elim b as (λ x. Move) [
      | begins places skipped inner ↦ enters (entered kind category) (begins places skipped inner)
      | no_beginning ↦ if may_end_with_comma kind then finishes kind else fails
    ])
    e)

module _ (kind : Kind) (category : Category) (steady : IsTrue (is_steady category))
    (begin : (x : Terminal) → IsTrue (is_one_of (firsts category) x) → IsTrue (is_beginning (begins_part category x)))
    (closer : Terminal)
    (follow : (tree : PlainTree) (x : Terminal) → IsTrue (is_a category tree) → IsTrue (is_one_of (t.Comma ∷ closer ∷ []) x) → MayFollow category tree x)
    (frames : List (Frame PlainTree)) (rest : List PlainToken) (closes : IsTrue (is_one_of (t.Comma ∷ closer ∷ []) (ahead rest))) where
  -- behind an entry, the comma and then the next entry
  comma_read :
      (tree : PlainTree) (token : PlainToken) (parts : List PlainTree) (tokens : List PlainToken) → Readable tree
      → IsTrue (is_a category tree) → IsTrue (is_one_of (t.Comma ∷ []) (terminal token))
      → entering (begins_part category) (frame (entered kind category) parts ∷ frames) (written tree (token ∷ tokens))
      ≡ reading (frame (separated_from kind category) ((parts ++ tree ∷ []) ++ leaf token ∷ []) ∷ frames) tokens
  comma_read tree token parts tokens readable h comma =
      readable.joins category steady h (entered kind category) parts frames (token ∷ tokens) (λ ended. refl)
      (follow tree (terminal token) h
      (one_of (λ x. IsTrue (is_one_of (t.Comma ∷ closer ∷ []) x)) (t.Comma ∷ []) (terminal token) comma (refl, tt)))
      ∙ shifting (entered kind category) (parts ++ tree ∷ []) frames token tokens (separated_from kind category)
      (one_of (λ x. move (entered kind category) x ≡ shifts (separated_from kind category)) (t.Comma ∷ []) (terminal token) comma
      (refl, tt))

  entry_read :
      (next : PlainTree) (parts : List PlainTree) (tokens : List PlainToken) → Readable next → IsTrue (is_a category next)
      → reading (frame (separated_from kind category) parts ∷ frames) (written next tokens)
      ≡ entering (begins_part category) (frame (entered kind category) parts ∷ frames) (written next tokens)
  entry_read next parts tokens readable h =
      comma_enters kind category parts frames (written next tokens) (begins_part category (ahead (written next tokens))) refl
      (begin (ahead (written next tokens)) (readable.first category h tokens))

  more_entries :
      (place : Place) (parts : List PlainTree) (first second : PlainTree) (others : List PlainTree)
      → reading (frame place (((parts ++ first ∷ []) ++ second ∷ []) ++ others) ∷ frames) rest
      ≡ reading (frame place (parts ++ first ∷ second ∷ others) ∷ frames) rest
  more_entries place parts first second others =
      more_parts place (parts ++ first ∷ []) second others frames rest ∙ more_parts place parts first (second ∷ others) frames rest

  pub separated_read :
      (tree : PlainTree) (ps : PlainTrees) (parts : List PlainTree) → IsTrue (are_separated category (more tree ps))
      → AllReadable (more tree ps)
      → entering (begins_part category) (frame (entered kind category) parts ∷ frames) (written tree (all_written ps rest))
      ≡ reading (frame (entered kind category) (parts ++ tree ∷ listed ps) ∷ frames) rest
  separated_read tree none parts h all =
      all.0.joins category steady h (entered kind category) parts frames rest (λ ended. refl) (follow tree (ahead rest) h closes)
  separated_read tree (more (leaf token) none) parts h all =
      absurd (false≢true (and_parts (is_a category tree && is_word (t.Comma ∷ []) (leaf token)) false h).1)
  separated_read tree (more (node inner qs) ps) parts h all =
      let outer : _ × _ = and_parts (is_a category tree && false) (are_separated category ps) h in
      absurd (false≢true (and_parts (is_a category tree) false outer.0).1)
  separated_read tree (more (leaf token) (more next ps)) parts h all =
      let outer : _ × _ =
      and_parts (is_a category tree && is_one_of (t.Comma ∷ []) (terminal token)) (are_separated category (more next ps)) h in
      let both : _ × _ = and_parts (is_a category tree) (is_one_of (t.Comma ∷ []) (terminal token)) outer.0 in
      comma_read tree token parts (written next (all_written ps rest)) all.0 both.0 both.1
      ∙ entry_read next ((parts ++ tree ∷ []) ++ leaf token ∷ []) (all_written ps rest) ((all.1).1).0 (separated_head category next ps outer.1)
      ∙ separated_read next ps ((parts ++ tree ∷ []) ++ leaf token ∷ []) outer.1 (all.1).1
      ∙ more_entries (entered kind category) parts tree (leaf token) (next ∷ listed ps)

  -- the same, perhaps with a comma behind the last, up to what ends it
  pub ended_read :
      (tree : PlainTree) (ps : PlainTrees) (place : Place) (others parts : List PlainTree) (outside : List (Frame PlainTree))
      → Steady place → frames ≡ frame place others ∷ outside
      → move (entered kind category) (ahead rest) ≡ finishes kind → move (separated_from kind category) (ahead rest) ≡ finishes kind
      → IsTrue (are_separated_or_ended category (more tree ps)) → AllReadable (more tree ps)
      → entering (begins_part category) (frame (entered kind category) parts ∷ frames) (written tree (all_written ps rest))
      ≡ reading (frame place (others ++ node kind (trees (parts ++ tree ∷ listed ps)) ∷ []) ∷ outside) rest
  ended_read tree none place others parts outside same_place is_outside ends ends_so h all =
      all.0.joins category steady h (entered kind category) parts frames rest (λ ended. refl) (follow tree (ahead rest) h closes)
      ∙ finishing (entered kind category) (parts ++ tree ∷ []) frames rest kind ends
      ∙ ap (λ fs. arriving (node kind (trees (parts ++ tree ∷ []))) (entered kind category) fs rest) is_outside
      ∙ ap (λ p. reading (frame p (others ++ node kind (trees (parts ++ tree ∷ [])) ∷ []) ∷ outside) rest) (same_place (entered kind category))
  ended_read tree (more (leaf token) none) place others parts outside same_place is_outside ends ends_so h all =
      let both : _ × _ = and_parts (is_a category tree) (is_one_of (t.Comma ∷ []) (terminal token)) h in
      let all_parts : List PlainTree = (parts ++ tree ∷ []) ++ leaf token ∷ [] in
      comma_read tree token parts rest all.0 both.0 both.1
      ∙ finishing (separated_from kind category) all_parts frames rest kind ends_so
      ∙ ap (λ fs. arriving (node kind (trees all_parts)) (separated_from kind category) fs rest) is_outside
      ∙ ap (λ p. reading (frame p (others ++ node kind (trees all_parts) ∷ []) ∷ outside) rest) (same_place (separated_from kind category))
      ∙ ap (λ qs. reading (frame place (others ++ node kind (trees qs) ∷ []) ∷ outside) rest) (append_assoc parts (tree ∷ []) (leaf token ∷ []))
  ended_read tree (more (node inner qs) none) place others parts outside same_place is_outside ends ends_so h all =
      absurd (false≢true (and_parts (is_a category tree) false h).1)
  ended_read tree (more (node inner qs) (more next ps)) place others parts outside same_place is_outside ends ends_so h all =
      let outer : _ × _ = and_parts (is_a category tree && false) (are_separated_or_ended category (more next ps)) h in
      absurd (false≢true (and_parts (is_a category tree) false outer.0).1)
  ended_read tree (more (leaf token) (more next ps)) place others parts outside same_place is_outside ends ends_so h all =
      let outer : _ × _ =
      and_parts (is_a category tree && is_one_of (t.Comma ∷ []) (terminal token)) (are_separated_or_ended category (more next ps)) h in
      let both : _ × _ = and_parts (is_a category tree) (is_one_of (t.Comma ∷ []) (terminal token)) outer.0 in
      comma_read tree token parts (written next (all_written ps rest)) all.0 both.0 both.1
      ∙ entry_read next ((parts ++ tree ∷ []) ++ leaf token ∷ []) (all_written ps rest) ((all.1).1).0 (ended_head category next ps outer.1)
      ∙ ended_read next ps place others ((parts ++ tree ∷ []) ++ leaf token ∷ []) outside same_place is_outside ends ends_so outer.1 (all.1).1
      ∙ ap (λ qs. reading (frame place (others ++ node kind (trees qs) ∷ []) ∷ outside) rest)
      (append_assoc (parts ++ tree ∷ []) (leaf token ∷ []) (next ∷ listed ps)
      ∙ append_assoc parts (tree ∷ []) (leaf token ∷ next ∷ listed ps))

-- ---- arguments

argument_begins : (x : Terminal) → IsTrue (is_one_of expression_firsts x) → IsTrue (is_beginning (begins_part (expression 1) x))
argument_begins x h =
    one_of (λ x. IsTrue (is_beginning (begins_part (expression 1) x))) expression_firsts x h
    (refl, (refl, (refl, (refl, (refl, (refl, (refl, (refl, (refl, (refl, tt))))))))))

arguments_node_join : (kind : Kind) (ps : PlainTrees) → Formed arguments kind ps → AllReadable ps → Joins arguments (node kind ps)
arguments_node_join k.Arguments none f all place parts frames rest steady follows = absurd (false≢true f.shaped_so)
arguments_node_join k.Arguments (more tree ps) f all place parts frames rest steady follows =
    let outside : List (Frame PlainTree) = frame place parts ∷ frames in
    entering_around (entered k.Arguments (expression 1)) (begins_part arguments) (begins_part (expression 1)) outside
    (written tree (all_written ps rest)) refl
    ∙ separated_read k.Arguments (expression 1) refl argument_begins t.CloseParenthesis
    (λ tree x h one. closed 1 tree (t.Comma ∷ t.CloseParenthesis ∷ []) x h (omega arith) (omega arith) one (refl, (refl, tt)))
    outside rest
    (one_of (λ x. IsTrue (is_one_of (t.Comma ∷ t.CloseParenthesis ∷ []) x)) (t.CloseParenthesis ∷ []) (ahead rest) follows (refl, tt))
    tree ps [] f.shaped_so all
    ∙ finishing (entered k.Arguments (expression 1)) (tree ∷ listed ps) outside rest k.Arguments
    (one_of (λ x. move (entered k.Arguments (expression 1)) x ≡ finishes k.Arguments) (t.CloseParenthesis ∷ []) (ahead rest) follows
    (refl, tt))
    ∙ ap (λ p. reading (frame p (parts ++ node k.Arguments (trees (tree ∷ listed ps)) ∷ []) ∷ frames) rest)
    (steady (entered k.Arguments (expression 1)))
    ∙ ap (λ ps. reading (frame place (parts ++ node k.Arguments (more tree ps) ∷ []) ∷ frames) rest) (trees_listed ps)
arguments_node_join _ ps f all place parts frames rest steady follows = absurd (false≢true f.belongs_there)

pub arguments_join : (tree : PlainTree) → AllParts tree → IsTrue (is_a arguments tree) → Joins arguments tree
arguments_join (leaf token) all h = absurd (false≢true h)
arguments_join (node kind ps) all h = arguments_node_join kind ps (formed arguments kind ps h) all

-- ---- initialisers

initialiser_begins : (x : Terminal) → IsTrue (is_one_of (firsts initialiser) x) → IsTrue (is_beginning (begins_part initialiser x))
initialiser_begins x h =
    one_of (λ x. IsTrue (is_beginning (begins_part initialiser x))) (firsts initialiser) x h
    (refl, (refl, (refl, (refl, (refl, (refl, (refl, (refl, (refl, (refl, (refl, tt)))))))))))

behind_initialiser :
    (tree : PlainTree) (x : Terminal) → IsTrue (is_a initialiser tree) → IsTrue (is_one_of (t.Comma ∷ t.CloseBrace ∷ []) x)
    → MayFollow initialiser tree x
behind_initialiser tree x h one = one_of (λ x. MayFollow initialiser tree x) (t.Comma ∷ t.CloseBrace ∷ []) x one (refl, (refl, tt))

initialisers_node_join : (kind : Kind) (ps : PlainTrees) → Formed initialisers kind ps → AllReadable ps → Joins initialisers (node kind ps)
initialisers_node_join k.Initialisers none f all place parts frames rest steady follows = absurd (false≢true f.shaped_so)
initialisers_node_join k.Initialisers (more tree ps) f all place parts frames rest steady follows =
    let outside : List (Frame PlainTree) = frame place parts ∷ frames in
    entering_around (entered k.Initialisers initialiser) (begins_part initialisers) (begins_part initialiser) outside
    (written tree (all_written ps rest)) refl
    ∙ ended_read k.Initialisers initialiser refl initialiser_begins t.CloseBrace behind_initialiser outside rest
    (one_of (λ x. IsTrue (is_one_of (t.Comma ∷ t.CloseBrace ∷ []) x)) (t.CloseBrace ∷ []) (ahead rest) follows (refl, tt))
    tree ps place parts [] frames steady refl
    (one_of (λ x. move (entered k.Initialisers initialiser) x ≡ finishes k.Initialisers) (t.CloseBrace ∷ []) (ahead rest) follows
    (refl, tt))
    (one_of (λ x. move (separated_from k.Initialisers initialiser) x ≡ finishes k.Initialisers) (t.CloseBrace ∷ []) (ahead rest) follows
    (refl, tt))
    f.shaped_so all
    ∙ ap (λ ps. reading (frame place (parts ++ node k.Initialisers (more tree ps) ∷ []) ∷ frames) rest) (trees_listed ps)
initialisers_node_join _ ps f all place parts frames rest steady follows = absurd (false≢true f.belongs_there)

pub initialisers_join : (tree : PlainTree) → AllParts tree → IsTrue (is_a initialisers tree) → Joins initialisers tree
initialisers_join (leaf token) all h = absurd (false≢true h)
initialisers_join (node kind ps) all h = initialisers_node_join kind ps (formed initialisers kind ps h) all

-- ---- an initialiser

expression_initialises :
    (tree : PlainTree) → AllParts tree → IsTrue (is_a (expression 1) tree) → Joins initialiser tree
expression_initialises tree all h place parts frames rest steady follows =
    entering_by begins_initialiser (begins_expression 1) (frame place parts ∷ frames) (written tree rest)
    (one_of (λ x. begins_initialiser x ≡ begins_expression 1 x) expression_firsts (ahead (written tree rest))
    (expression_first 1 tree all h rest)
    (refl, (refl, (refl, (refl, (refl, (refl, (refl, (refl, (refl, (refl, tt)))))))))))
    ∙ expression_joins 1 tree all h place parts frames rest steady
    (closed 1 tree (t.Comma ∷ t.CloseBrace ∷ t.Semicolon ∷ []) (ahead rest) h (omega arith) (omega arith) follows (refl, (refl, (refl, tt))))

unformed : (category : Category) (kind : Kind) (ps : PlainTrees) → Formed category kind ps → IsTrue (is_a category (node kind ps))
unformed category kind ps f =
    and_from (belongs category kind && agree kind ps) (shaped (shape category kind) ps)
    (and_from (belongs category kind) (agree kind ps) f.belongs_there f.agreeing) f.shaped_so

braces_read :
    (ps : PlainTrees) → InRow (row k.Braces) ps → AllReadable ps → (place : Place) (parts : List PlainTree) (frames : List (Frame PlainTree))
    (rest : List PlainToken) → Steady place
    → entering begins_initialiser (frame place parts ∷ frames) (all_written ps rest)
    ≡ reading (frame place (parts ++ node k.Braces ps ∷ []) ∷ frames) rest
braces_read ps (word_part {token = token} o (needed_part {tree = inner} b (word_part {token = last} c row_ended))) all place parts frames
    rest steady =
    row_leads k.Braces begins_initialiser token (needed initialisers ∷ word (t.CloseBrace ∷ []) ∷ []) (more inner (more (leaf last) none))
    place parts frames rest steady
    (one_of (λ x. begins_initialiser x ≡ begins_row k.Braces) (t.OpenBrace ∷ []) (terminal token) o (refl, tt))
    (needed_part b (word_part c row_ended)) all.1 (refl, c, tt)

initialiser_node_joins : (kind : Kind) (ps : PlainTrees) → Formed initialiser kind ps → AllReadable ps → Joins initialiser (node kind ps)
initialiser_node_joins k.Braces ps f all place parts frames rest steady follows =
    braces_read ps (fixed_row (row k.Braces) ps refl f.shaped_so) all place parts frames rest steady
initialiser_node_joins kind ps f all place parts frames rest steady follows =
    expression_initialises (node kind ps) all (unformed (expression 1) kind ps (initialiser_expression kind ps f refl)) place parts frames
    rest steady follows

pub initialiser_joins : (tree : PlainTree) → AllParts tree → IsTrue (is_a initialiser tree) → Joins initialiser tree
initialiser_joins (leaf token) all h = expression_initialises (leaf token) all h
initialiser_joins (node kind ps) all h = initialiser_node_joins kind ps (formed initialiser kind ps h) all
