-- What stands at file scope is read as itself.
use Rattle.std.proofs.Common.{◌≡◌, Bool, true, false, not, ◌||◌, List, [], ◌∷◌, ◌++◌, refl, ap, ◌∙◌}
use Rattle.std.specs.Prelude.{IsTrue, if◌then◌else◌}
use Rattle.std.specs.List.{list_any}
use Rattle.std.proofs.lemmas.Bool.{and_parts, false≢true, not-true}
use Rattle.c_text.specs.Token.{PlainToken}
use Rattle.c_tree.specs.declared.kinds.Kind.{Kind}
use Rattle.c_tree.specs.declared.kinds.Kind.TheVariants as k
use Rattle.c_tree.specs.declared.terminals.Terminal.{Terminal}
use Rattle.c_tree.specs.declared.terminals.Terminal.TheVariants as t
use Rattle.c_tree.specs.Terminals.{terminal, same, is_one_of}
use Rattle.c_tree.specs.Trees.{PlainTree, PlainTrees, leaf, node, none, more, trees, written, all_written}
use Rattle.c_tree.specs.Grammar.{file_specifiers, tag, declarators, block, members, file_item, file_first, file_inline, Slot, word, needed, row, file_types, tag_words, is_a, agree, has_word, is_inline, lacks_parameters, may_be_declared}
use Rattle.c_tree.specs.Places.{Place, inside, specifying, specified, declaring, declared, file_wording, begins_words, begins_file_item, begins_part, begins_row, or_fails, shifts, enters, fails, Specified, by_tag, by_inline, by_others, specified_by, specified_move, declared_move, are_same, flavour_at}
use Rattle.c_tree.specs.Machine.{Frame, frame}
use Rattle.c_tree.proofs.TerminalCases.{one_of}
use Rattle.c_tree.proofs.Coming.{ahead, reading, entering, shifting, finishing, needing, entering_around}
use Rattle.c_tree.proofs.Readable.{Joins, Readable, AllReadable, DeclarationRead, DefinitionRead, begins_declarators, may_be_declarators, first_role}
use Rattle.c_tree.proofs.RowsRead.{InRow, row_ended, word_part, needed_part, fixed_row, node_read}
use Rattle.c_tree.proofs.ExpressionsRead.{Formed, formed, AllParts}
use Rattle.c_tree.proofs.LeadsRead.{Steady}
use Rattle.c_tree.proofs.WordsRead.{words_of, terminals_of, AreAmong, Worded, worded, among, words_arrive}

-- ---- the words

abbrev behind_file_words : List Terminal
behind_file_words = t.Star ∷ t.Name ∷ t.OpenBrace ∷ t.Semicolon ∷ []

words_specify :
    (lists : List (List Terminal)) (ps : PlainTrees) (frames : List (Frame PlainTree)) (rest : List PlainToken) → Worded lists ps
    → AreAmong (terminals_of ps) file_types → IsTrue (is_one_of behind_file_words (ahead rest))
    → entering begins_file_item frames (all_written ps rest)
    ≡ reading (frame (specified (specified_by (terminals_of ps))) (node k.Specifiers ps ∷ []) ∷ frames) rest
words_specify lists ps frames rest words h one =
    entering_around specifying begins_file_item (begins_words file_wording) frames (all_written ps rest) refl
    ∙ words_arrive file_wording ps behind_file_words (frame specifying [] ∷ frames) rest words.leaves h refl refl one

file_words_specify :
    (tree : PlainTree) (frames : List (Frame PlainTree)) (rest : List PlainToken) → IsTrue (is_a file_specifiers tree)
    → IsTrue (is_one_of behind_file_words (ahead rest))
    → entering begins_file_item frames (written tree rest)
    ≡ reading (frame (specified (specified_by (words_of tree))) (tree ∷ []) ∷ frames) rest
file_words_specify (leaf token) frames rest h one = absurd (false≢true h)
file_words_specify (node k.Specifiers ps) frames rest h one =
    let words : Worded file_types ps = worded file_types ps (formed file_specifiers k.Specifiers ps h).shaped_so in
    words_specify file_types ps frames rest words words.words_among one
file_words_specify (node kind ps) frames rest h one = absurd (false≢true (formed file_specifiers kind ps h).belongs_there)

tag_specifies :
    (tree : PlainTree) (frames : List (Frame PlainTree)) (rest : List PlainToken) → IsTrue (is_a tag tree)
    → IsTrue (is_one_of behind_file_words (ahead rest))
    → entering begins_file_item frames (written tree rest) ≡ reading (frame (specified by_tag) (tree ∷ []) ∷ frames) rest
tag_specifies (leaf token) frames rest h one = absurd (false≢true h)
tag_specifies (node k.Specifiers ps) frames rest h one =
    let words : Worded (tag_words ∷ []) ps = worded (tag_words ∷ []) ps (formed tag k.Specifiers ps h).shaped_so in
    words_specify (tag_words ∷ []) ps frames rest words
    (among (λ ws. list_any (are_same ws) file_types) (tag_words ∷ []) (terminals_of ps) refl words.words_among) one
    ∙ ap
    (λ b. reading
    (frame (specified (if b then by_tag else if list_any (same t.Inline) (terminals_of ps) then by_inline else by_others))
    (node k.Specifiers ps ∷ []) ∷ frames) rest)
    (among (λ ws. are_same ws tag_words) (tag_words ∷ []) (terminals_of ps) refl words.words_among)
tag_specifies (node kind ps) frames rest h one = absurd (false≢true (formed tag kind ps h).belongs_there)

abbrev says_inline : Specified → Bool
says_inline by_tag = false
says_inline by_inline = true
says_inline by_others = false

-- what begins behind the words
declarators_begin :
    (s : Specified) (x : Terminal) → IsTrue (is_one_of (t.Star ∷ t.Name ∷ []) x)
    → specified_move s x ≡ or_fails (declaring (says_inline s)) (begins_declarators (first_role (says_inline s)) x)
declarators_begin by_tag x h =
    one_of (λ x. specified_move by_tag x ≡ or_fails (declaring false) (begins_declarators file_first x)) (t.Star ∷ t.Name ∷ []) x h (refl, (refl, tt))
declarators_begin by_inline x h =
    one_of (λ x. specified_move by_inline x ≡ or_fails (declaring true) (begins_declarators file_inline x)) (t.Star ∷ t.Name ∷ []) x h (refl, (refl, tt))
declarators_begin by_others x h =
    one_of (λ x. specified_move by_others x ≡ or_fails (declaring false) (begins_declarators file_first x)) (t.Star ∷ t.Name ∷ []) x h (refl, (refl, tt))

inline_words : (ps : PlainTrees) → list_any (same t.Inline) (terminals_of ps) ≡ has_word t.Inline ps
inline_words none = refl
inline_words (more (leaf token) ps) = ap (λ b. same t.Inline (terminal token) || b) (inline_words ps)
inline_words (more (node kind inner) ps) = inline_words ps

tag_or_not :
    (b inline : Bool) → inline ≡ false → says_inline (if b then by_tag else if inline then by_inline else by_others) ≡ false
tag_or_not true inline e = refl
tag_or_not false inline e = ap (λ i. says_inline (if i then by_inline else by_others)) e

not_inline : (tree : PlainTree) → IsTrue (not (is_inline tree)) → says_inline (specified_by (words_of tree)) ≡ false
not_inline (leaf token) h = refl
not_inline (node kind ps) h =
    tag_or_not (are_same (terminals_of ps) tag_words) (list_any (same t.Inline) (terminals_of ps))
    (inline_words ps ∙ not-true (has_word t.Inline ps) h)

-- the words, up to the declarators
module _ (words : PlainTree) (list : PlainTree) (place : Place) (parts : List PlainTree) (frames : List (Frame PlainTree))
    (tokens : List PlainToken) (h : IsTrue (is_a file_specifiers words)) (readable : Readable list)
    (declares : IsTrue (is_a (declarators file_first) list)) where
  star_or_name : IsTrue (is_one_of (t.Star ∷ t.Name ∷ []) (ahead (written list tokens)))
  star_or_name = readable.first (declarators file_first) declares tokens

  words_read :
      (inline : Bool) → says_inline (specified_by (words_of words)) ≡ inline
      → entering begins_file_item (frame place parts ∷ frames) (written words (written list tokens))
      ≡ entering (begins_declarators (first_role inline)) (frame (declaring inline) (words ∷ []) ∷ frame place parts ∷ frames)
      (written list tokens)
  words_read inline e =
      file_words_specify words (frame place parts ∷ frames) (written list tokens) h
      (one_of (λ x. IsTrue (is_one_of behind_file_words x)) (t.Star ∷ t.Name ∷ []) (ahead (written list tokens)) star_or_name
      (refl, (refl, tt)))
      ∙ needing (specified (specified_by (words_of words))) (words ∷ []) (frame place parts ∷ frames) (written list tokens) (declaring inline)
      (begins_declarators (first_role inline))
      (declarators_begin (specified_by (words_of words)) (ahead (written list tokens)) star_or_name
      ∙ ap (λ b. or_fails (declaring b) (begins_declarators (first_role b) (ahead (written list tokens)))) e)

-- a node is the next part of the one around it
ending :
    (kind : Kind) (ps : List PlainTree) (place : Place) (parts : List PlainTree) (frames : List (Frame PlainTree)) (rest : List PlainToken)
    → Steady place
    → reading (frame (inside kind []) ps ∷ frame place parts ∷ frames) rest
    ≡ reading (frame place (parts ++ node kind (trees ps) ∷ []) ∷ frames) rest
ending kind ps place parts frames rest steady =
    finishing (inside kind []) ps (frame place parts ∷ frames) rest kind refl
    ∙ ap (λ p. reading (frame p (parts ++ node kind (trees ps) ∷ []) ∷ frames) rest) (steady (inside kind []))

-- ---- declarations and definitions

declared_well :
    (words list : PlainTree) → IsTrue (may_be_declared words list) → IsTrue (not (is_inline words)) × IsTrue (may_be_declarators list)
declared_well words (leaf token) h = absurd (false≢true h)
declared_well words (node kind ps) h = and_parts (not (is_inline words)) (not (lacks_parameters ps)) h

declaration_joins :
    (ps : PlainTrees) → InRow (row k.Declaration) ps → IsTrue (agree k.Declaration ps) → AllReadable ps → Joins file_item (node k.Declaration ps)
declaration_joins ps (needed_part {tree = words} a (needed_part {tree = list} b (word_part {token = last} c row_ended))) agreeing all
    place parts frames rest steady follows =
    let well : _ × _ = declared_well words list agreeing in
    let r : DeclarationRead list = (all.1).0.declaration_reads b well.1 in
    let outside : List (Frame PlainTree) = frame place parts ∷ frames in
    words_read words list place parts frames (last ∷ rest) a (all.1).0 b false (not_inline words well.0)
    ∙ r.reads (frame (declaring false) (words ∷ []) ∷ outside) (last ∷ rest) c
    ∙ shifting (declared false (flavour_at r.ended)) (words ∷ list ∷ []) outside last rest (inside k.Declaration [])
    (one_of (λ x. declared_move false (flavour_at r.ended) x ≡ shifts (inside k.Declaration [])) (t.Semicolon ∷ []) (terminal last) c
    (ap (λ b. if b then shifts (inside k.Declaration []) else fails) r.declarable_so, tt))
    ∙ ending k.Declaration (words ∷ list ∷ leaf last ∷ []) place parts frames rest steady

function_joins :
    (ps : PlainTrees) → InRow (row k.Function) ps → IsTrue (agree k.Function ps) → AllReadable ps → Joins file_item (node k.Function ps)
function_joins ps (needed_part {tree = words} a (needed_part {tree = list} b (needed_part {tree = body} c row_ended))) agreeing all
    place parts frames rest steady follows =
    let inline : Bool = says_inline (specified_by (words_of words)) in
    let r : DefinitionRead inline list = (all.1).0.definition_reads inline b agreeing in
    let outside : List (Frame PlainTree) = frame place parts ∷ frames in
    let brace : IsTrue (is_one_of (t.OpenBrace ∷ []) (ahead (written body rest))) = ((all.1).1).0.first block c rest in
    words_read words list place parts frames (written body rest) a (all.1).0 b inline refl
    ∙ r.reads (frame (declaring inline) (words ∷ []) ∷ outside) (written body rest) brace
    ∙ needing (declared inline (flavour_at r.ended)) (words ∷ list ∷ []) outside (written body rest) (inside k.Function []) (begins_part block)
    (one_of (λ x. declared_move inline (flavour_at r.ended) x ≡ or_fails (inside k.Function []) (begins_part block x)) (t.OpenBrace ∷ [])
    (ahead (written body rest)) brace
    (ap (λ b. if b then enters (inside k.Function []) (begins_row k.Block) else fails) r.definable_so, tt))
    ∙ ((all.1).1).0.joins block refl c (inside k.Function []) (words ∷ list ∷ []) outside rest (λ ended. refl) tt
    ∙ ending k.Function (words ∷ list ∷ body ∷ []) place parts frames rest steady

-- ---- structs

struct_definition_joins :
    (ps : PlainTrees) → InRow (row k.StructDefinition) ps → AllReadable ps → Joins file_item (node k.StructDefinition ps)
struct_definition_joins ps
    (needed_part {tree = words} a (word_part {token = opening} b (needed_part {tree = inner} c
    (word_part {token = closing} d (word_part {token = last} e row_ended))))) all place parts frames rest steady follows =
    let tokens : List PlainToken = written inner (closing ∷ last ∷ rest) in
    let slots : List Slot = needed members ∷ word (t.CloseBrace ∷ []) ∷ word (t.Semicolon ∷ []) ∷ [] in
    tag_specifies words (frame place parts ∷ frames) (opening ∷ tokens) a
    (one_of (λ x. IsTrue (is_one_of behind_file_words x)) (t.OpenBrace ∷ []) (terminal opening) b (refl, tt))
    ∙ shifting (specified by_tag) (words ∷ []) (frame place parts ∷ frames) opening tokens (inside k.StructDefinition slots)
    (one_of (λ x. specified_move by_tag x ≡ shifts (inside k.StructDefinition slots)) (t.OpenBrace ∷ []) (terminal opening) b (refl, tt))
    ∙ node_read k.StructDefinition (needed_part c (word_part d (word_part e row_ended))) ((all.1).1) (words ∷ leaf opening ∷ []) place parts frames
    rest (refl, d, tt)
    ∙ ap
    (λ p. reading
    (frame p (parts ++ node k.StructDefinition (trees (words ∷ leaf opening ∷ inner ∷ leaf closing ∷ leaf last ∷ [])) ∷ []) ∷ frames) rest)
    (steady (inside k.StructDefinition []))

struct_declaration_joins :
    (ps : PlainTrees) → InRow (row k.StructDeclaration) ps → AllReadable ps → Joins file_item (node k.StructDeclaration ps)
struct_declaration_joins ps (needed_part {tree =
    words} a (word_part {token = last} b row_ended)) all place parts frames rest steady follows =
    tag_specifies words (frame place parts ∷ frames) (last ∷ rest) a
    (one_of (λ x. IsTrue (is_one_of behind_file_words x)) (t.Semicolon ∷ []) (terminal last) b (refl, tt))
    ∙ shifting (specified by_tag) (words ∷ []) (frame place parts ∷ frames) last rest (inside k.StructDeclaration [])
    (one_of (λ x. specified_move by_tag x ≡ shifts (inside k.StructDeclaration [])) (t.Semicolon ∷ []) (terminal last) b (refl, tt))
    ∙ ending k.StructDeclaration (words ∷ leaf last ∷ []) place parts frames rest steady

-- ---- all

file_item_node_joins : (kind : Kind) (ps : PlainTrees) → Formed file_item kind ps → AllReadable ps → Joins file_item (node kind ps)
file_item_node_joins k.Function ps f all = function_joins ps (fixed_row (row k.Function) ps refl f.shaped_so) f.agreeing all
file_item_node_joins k.Declaration ps f all = declaration_joins ps (fixed_row (row k.Declaration) ps refl f.shaped_so) f.agreeing all
file_item_node_joins k.StructDefinition ps f all = struct_definition_joins ps (fixed_row (row k.StructDefinition) ps refl f.shaped_so) all
file_item_node_joins k.StructDeclaration ps f all =
    struct_declaration_joins ps (fixed_row (row k.StructDeclaration) ps refl f.shaped_so) all
file_item_node_joins _ ps f all = absurd (false≢true f.belongs_there)

pub file_item_joins : (tree : PlainTree) → AllParts tree → IsTrue (is_a file_item tree) → Joins file_item tree
file_item_joins (leaf token) all h = absurd (false≢true h)
file_item_joins (node kind ps) all h = file_item_node_joins kind ps (formed file_item kind ps h) all
