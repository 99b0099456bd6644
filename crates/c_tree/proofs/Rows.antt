-- Lemmas on the grammar: rows of parts, expressions, words.
use Rattle.std.proofs.Common.{◌≡◌, ℕ, ◌≤◌, Bool, true, false, not, ◌&&◌, ◌||◌, List, [], ◌∷◌, ◌++◌, refl, ap, ◌∙◌, sym, arith}
use Rattle.std.proofs.lemmas.Bool.{and_parts, and_from, leb-true, le-leb, eqb-true, eq-eqb}
use Rattle.std.proofs.Math.Bool.{or-true}
use Rattle.std.specs.Prelude.{nat_le, IsTrue, if◌then◌else◌}
use Rattle.std.specs.List.{list_any}
use Rattle.c_text.specs.Token.{PlainToken}
use Rattle.c_tree.specs.declared.kinds.Kind.{Kind}
use Rattle.c_tree.specs.declared.kinds.Kind.TheVariants as k
use Rattle.c_tree.specs.declared.terminals.Terminal.{Terminal}
use Rattle.c_tree.specs.declared.terminals.Terminal.TheVariants as t
use Rattle.c_tree.specs.Terminals.{terminal, same, is_one_of, number}
use Rattle.c_tree.specs.Trees.{PlainTree, PlainTrees, leaf, node, none, more, trees}
use Rattle.c_tree.specs.Grammar.{Category, expression, initialiser, statement, item, Slot, word, perhaps, stars, needed, optional, level, are_words, are_words_of, is_absent, is_a, are_in_row, Next, fine, must_be, wrong, next_part, Shape, in_row, of_words, of_texts, repeated, any_number, separated, separated_or_ended, declaring, shape, belongs, agree, is_single, is_kind, are_texts, any_part, are_each, are_separated, are_separated_or_ended, are_declared, takes_else, last_takes_else}
use Rattle.c_tree.specs.Places.{are_same}
use Rattle.c_tree.proofs.Fits.{ends_in_statement}

pub nat_le_more : (a b c : ℕ) → nat_le a b ≡ true → b ≤ c → nat_le a c ≡ true
nat_le_more a b c h below = let x : a ≤ b = leb-true a b h in le-leb a c (omega arith)

-- ---- a token as the first part

abbrev pub next_word : List Slot → Terminal → Next
next_word [] kind = wrong
next_word (word terminals ∷ slots) kind = if is_one_of terminals kind then fine slots else wrong
next_word (perhaps terminals ∷ slots) kind = if is_one_of terminals kind then fine slots else next_word slots kind
next_word (stars ∷ slots) kind = if is_one_of (t.Star ∷ []) kind then fine (stars ∷ slots) else next_word slots kind
next_word (needed category ∷ slots) kind = must_be category slots
next_word (optional category ∷ slots) kind = must_be category slots

next_part-leaf : (slots : List Slot) (token : PlainToken) → next_part slots (leaf token) ≡ next_word slots (terminal token)
next_part-leaf [] token = refl
next_part-leaf (word terminals ∷ slots) token = refl
next_part-leaf (perhaps terminals ∷ slots) token =
    ap (λ x. if is_one_of terminals (terminal token) then fine slots else x) (next_part-leaf slots token)
next_part-leaf (stars ∷ slots) token =
    ap (λ x. if is_one_of (t.Star ∷ []) (terminal token) then fine (stars ∷ slots) else x) (next_part-leaf slots token)
next_part-leaf (needed category ∷ slots) token = refl
next_part-leaf (optional category ∷ slots) token = refl

abbrev pub goes_in : PlainTree → PlainTrees → Next → Bool
goes_in tree rest (fine others) = are_in_row others rest
goes_in tree rest (must_be category others) = is_a category tree && are_in_row others rest
goes_in tree rest wrong = false

pub goes_in-row : (slots : List Slot) (tree : PlainTree) (rest : PlainTrees) → are_in_row slots (more tree rest) ≡ goes_in tree rest (next_part slots tree)
goes_in-row slots tree rest = goes_in_so (next_part slots tree)
  where
    goes_in_so :
        (x : Next)
        → elim x as (λ y. Bool) [ fine others ↦ are_in_row others rest | must_be category others ↦ is_a category tree && are_in_row others rest | wrong ↦ false ]
        ≡ goes_in tree rest x
    goes_in_so (fine others) = refl
    goes_in_so (must_be category others) = refl
    goes_in_so wrong = refl

pub leaf_first :
    (slots others : List Slot) (token : PlainToken) (kind : Terminal) (rest : PlainTrees) → terminal token ≡ kind
    → next_word slots kind ≡ fine others → IsTrue (are_in_row others rest) → IsTrue (are_in_row slots (more (leaf token) rest))
leaf_first slots others token kind rest e f h =
    let at : next_part slots (leaf token) ≡ fine others = next_part-leaf slots token ∙ ap (next_word slots) e ∙ f in
    goes_in-row slots (leaf token) rest ∙ ap (goes_in (leaf token) rest) at ∙ h

pub optional_first :
    (category : Category) (slots : List Slot) (tree : PlainTree) (rest : PlainTrees) → IsTrue (is_a category tree)
    → IsTrue (are_in_row slots rest) → IsTrue (are_in_row (optional category ∷ slots) (more tree rest))
optional_first category slots tree rest a h =
    goes_in-row (optional category ∷ slots) tree rest ∙ either_way (is_absent tree)
  where
    either_way : (b : Bool) → goes_in tree rest (if b then fine slots else must_be category slots) ≡ true
    either_way true = h
    either_way false = and_from (is_a category tree) (are_in_row slots rest) a h

-- ---- what may stand in one place may in another

abbrev shaped : PlainTrees → Shape → Bool
shaped parts (in_row slots) = are_in_row slots parts
shaped parts (of_words lists) = are_words_of lists parts
shaped parts of_texts = are_texts parts && any_part parts
shaped parts (repeated each) = are_each each parts && any_part parts
shaped parts (any_number each) = are_each each parts
shaped parts (separated each) = are_separated each parts
shaped parts (separated_or_ended each) = are_separated_or_ended each parts
shaped parts (declaring role) = are_declared role parts

is_a-node :
    (category : Category) (kind : Kind) (parts : PlainTrees)
    → is_a category (node kind parts) ≡ (belongs category kind && agree kind parts && shaped parts (shape category kind))
is_a-node category kind parts = ap (λ x. belongs category kind && agree kind parts && x) (shaped_so (shape category kind))
  where
    shaped_so :
        (x : Shape)
        → elim x as (λ y. Bool) [
          | in_row slots ↦ are_in_row slots parts
          | of_words lists ↦ are_words_of lists parts
          | of_texts ↦ are_texts parts && any_part parts
          | repeated each ↦ are_each each parts && any_part parts
          | any_number each ↦ are_each each parts
          | separated each ↦ are_separated each parts
          | separated_or_ended each ↦ are_separated_or_ended each parts
          | declaring role ↦ are_declared role parts
        ]
        ≡ shaped parts x
    shaped_so (in_row slots) = refl
    shaped_so (of_words lists) = refl
    shaped_so of_texts = refl
    shaped_so (repeated each) = refl
    shaped_so (any_number each) = refl
    shaped_so (separated each) = refl
    shaped_so (separated_or_ended each) = refl
    shaped_so (declaring role) = refl

pub record Within (inner outer : Category) : Type 0 where
  pub kinds : (kind : Kind) → belongs inner kind ≡ true → belongs outer kind ≡ true
  pub shapes : (kind : Kind) → belongs inner kind ≡ true → shape inner kind ≡ shape outer kind
  pub singles : (kind : Terminal) → is_single inner kind ≡ true → is_single outer kind ≡ true

pub within : (inner outer : Category) → Within inner outer → (tree : PlainTree) → IsTrue (is_a inner tree) → IsTrue (is_a outer tree)
within inner outer w (leaf token) h = w.singles (terminal token) h
within inner outer w (node kind parts) h =
    let all = and_parts (belongs inner kind && agree kind parts) (shaped parts (shape inner kind)) (sym (is_a-node inner kind parts) ∙ h) in
    let front = and_parts (belongs inner kind) (agree kind parts) all.0 in
    let back : shaped parts (shape outer kind) ≡ true = ap (shaped parts) (sym (w.shapes kind front.0)) ∙ all.1 in
    is_a-node outer kind parts
    ∙ and_from (belongs outer kind && agree kind parts) (shaped parts (shape outer kind))
    (and_from (belongs outer kind) (agree kind parts) (w.kinds kind front.0) front.1) back

shape-expression : (wanted own : ℕ) (kind : Kind) → shape (expression own) kind ≡ shape (expression wanted) kind
shape-expression wanted own k.Unit = refl
shape-expression wanted own _ = refl

belongs-level : (wanted own : ℕ) (kind : Kind) → nat_le wanted own ≡ true → belongs (expression own) kind ≡ true → belongs (expression wanted) kind ≡ true
belongs-level wanted own kind below h =
    let both = and_parts (nat_le 1 (level kind)) (nat_le own (level kind)) h in
    and_from (nat_le 1 (level kind)) (nat_le wanted (level kind)) both.0
    (nat_le_more wanted own (level kind) below (leb-true own (level kind) both.1))

-- an expression of a level is one of each lower level
pub weaker :
    (wanted own : ℕ) → nat_le wanted own ≡ true → (tree : PlainTree) → IsTrue (is_a (expression own) tree)
    → IsTrue (is_a (expression wanted) tree)
weaker wanted own below =
    within (expression own) (expression wanted)
    (record {
      kinds = λ kind. belongs-level wanted own kind below;
      shapes = λ kind h. shape-expression wanted own kind;
      singles = λ kind h. h;
    })

belongs_initialiser : (kind : Kind) → belongs (expression 1) kind ≡ true → belongs initialiser kind ≡ true
belongs_initialiser k.Braces h = refl
belongs_initialiser _ h = h

shape-initialiser : (kind : Kind) → shape (expression 1) kind ≡ shape initialiser kind
shape-initialiser k.Unit = refl
shape-initialiser _ = refl

pub initialiser_of : (tree : PlainTree) → IsTrue (is_a (expression 1) tree) → IsTrue (is_a initialiser tree)
initialiser_of =
    within (expression 1) initialiser
    (record { kinds = belongs_initialiser; shapes = λ kind h. shape-initialiser kind; singles = λ kind h. h })

belongs_item : (kind : Kind) → belongs statement kind ≡ true → belongs item kind ≡ true
belongs_item k.LocalDeclaration h = refl
belongs_item _ h = h

shape-item : (kind : Kind) → shape statement kind ≡ shape item kind
shape-item k.Unit = refl
shape-item _ = refl

pub item_of : (tree : PlainTree) → IsTrue (is_a statement tree) → IsTrue (is_a item tree)
item_of = within statement item (record { kinds = belongs_item; shapes = λ kind h. shape-item kind; singles = λ kind h. h })

-- ---- words

pub same-refl : (a : Terminal) → same a a ≡ true
same-refl a = eq-eqb (number a) (number a) refl

same_both : (a b c : Terminal) → same a b ≡ true → same a c ≡ true → same b c ≡ true
same_both a b c h g =
    let p : number a ≡ number b = eqb-true (number a) (number b) h in
    let q : number a ≡ number c = eqb-true (number a) (number c) g in
    eq-eqb (number b) (number c) (sym p ∙ q)

pub are_words-append :
    (words : List Terminal) (parts : List PlainTree) (token : PlainToken) (kind : Terminal) → terminal token ≡ kind
    → IsTrue (are_words words (trees parts)) → IsTrue (are_words (words ++ kind ∷ []) (trees (parts ++ leaf token ∷ [])))
are_words-append [] [] token kind e h =
    and_from (same kind (terminal token)) true (ap (same kind) e ∙ same-refl kind) refl
are_words-append [] (first ∷ parts) token kind e h = absurd cc
are_words-append (first ∷ words) [] token kind e h = absurd cc
are_words-append (first ∷ words) (leaf one ∷ parts) token kind e h =
    let both = and_parts (same first (terminal one)) (are_words words (trees parts)) h in
    and_from (same first (terminal one)) (are_words (words ++ kind ∷ []) (trees (parts ++ leaf token ∷ []))) both.0
    (are_words-append words parts token kind e both.1)
are_words-append (first ∷ words) (node other inner ∷ parts) token kind e h = absurd cc

pub are_words-same :
    (words full : List Terminal) (parts : PlainTrees) → are_same words full ≡ true → IsTrue (are_words words parts) → IsTrue (are_words full parts)
are_words-same [] [] parts s h = h
are_words-same [] (second ∷ full) parts s h = absurd cc
are_words-same (first ∷ words) [] parts s h = absurd cc
are_words-same (first ∷ words) (second ∷ full) none s h = absurd cc
are_words-same (first ∷ words) (second ∷ full) (more (leaf token) rest) s h =
    let alike = and_parts (same first second) (are_same words full) s in
    let both = and_parts (same first (terminal token)) (are_words words rest) h in
    and_from (same second (terminal token)) (are_words full rest) (same_both first second (terminal token) alike.0 both.0)
    (are_words-same words full rest alike.1 both.1)
are_words-same (first ∷ words) (second ∷ full) (more (node kind inner) rest) s h = absurd cc

pub are_words_of-same :
    (lists : List (List Terminal)) (words : List Terminal) (parts : PlainTrees)
    → list_any (are_same words) lists ≡ true → IsTrue (are_words words parts) → IsTrue (are_words_of lists parts)
are_words_of-same [] words parts s h = absurd cc
are_words_of-same (first ∷ lists) words parts s h =
    by_first (are_same words first) refl (λ more. are_words_of-same lists words parts more h)
  where
    by_first :
        (b : Bool) → are_same words first ≡ b → (list_any (are_same words) lists ≡ true → are_words_of lists parts ≡ true)
        → are_words_of (first ∷ lists) parts ≡ true
    by_first true e later = ap (λ x. x || are_words_of lists parts) (are_words-same words first parts e h)
    by_first false e later =
        ap (λ x. are_words first parts || x) (later (ap (λ x. x || list_any (are_same words) lists) (sym e) ∙ s))
        ∙ or-true (are_words first parts)

-- ---- whether an `else` may belong to what comes before

pub last_takes_else-append : (parts : List PlainTree) (tree : PlainTree) → last_takes_else (trees (parts ++ tree ∷ [])) ≡ takes_else tree
last_takes_else-append [] tree = refl
last_takes_else-append (first ∷ []) tree = refl
last_takes_else-append (first ∷ second ∷ rest) tree = last_takes_else-append (second ∷ rest) tree

pub shut_end : (kind : Kind) (parts : PlainTrees) → ends_in_statement kind ≡ false → takes_else (node kind parts) ≡ false
shut_end k.Absent parts h = absurd cc
shut_end k.If parts h = absurd cc
shut_end k.Else parts h = absurd cc
shut_end k.While parts h = absurd cc
shut_end k.For parts h = absurd cc
shut_end _ parts h = refl

pub open_end : (kind : Kind) (parts : PlainTrees) → IsTrue (not (is_kind k.Absent kind)) → last_takes_else parts ≡ false → takes_else (node kind parts) ≡ false
open_end k.Absent parts h e = absurd cc
open_end k.If parts h e = e
open_end k.Else parts h e = e
open_end k.While parts h e = e
open_end k.For parts h e = e
open_end _ parts h e = refl
