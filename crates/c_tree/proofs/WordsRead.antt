-- The words of a type are read to their end.
use Rattle.std.proofs.Common.{◌≡◌, Bool, true, false, not, ◌&&◌, ◌||◌, List, [], ◌∷◌, ◌++◌, refl, ap, sym, ◌∙◌, inl, inr, ◌⊎◌}
use Rattle.std.specs.Prelude.{IsTrue, if◌then◌else◌}
use Rattle.std.specs.List.{list_any}
use Rattle.std.proofs.lemmas.Bool.{and_parts, and_from, or_cases, or_left, or_right, false≢true, not-true}
use Rattle.std.proofs.lemmas.List.{append_assoc, append-nil}
use Rattle.c_text.specs.Token.{PlainToken}
use Rattle.c_tree.specs.declared.kinds.Kind.{Kind}
use Rattle.c_tree.specs.declared.kinds.Kind.TheVariants as k
use Rattle.c_tree.specs.declared.terminals.Terminal.{Terminal}
use Rattle.c_tree.specs.declared.terminals.Terminal.TheVariants as t
use Rattle.c_tree.specs.Terminals.{terminal, same, is_one_of}
use Rattle.c_tree.specs.Trees.{PlainTree, PlainTrees, leaf, node, none, more, written, all_written}
use Rattle.c_tree.specs.Grammar.{cast_type, specifiers, file_specifiers, tag, cast_types, types, file_types, tag_words, is_a, are_words, are_words_of}
use Rattle.c_tree.specs.Places.{in_words, Wording, cast_wording, type_wording, wordings, goes_on, are_same, no_beginning, begins, begins_words, shifts, finishes, fails, move}
use Rattle.c_tree.specs.Machine.{Frame, frame}
use Rattle.c_tree.proofs.TerminalCases.{same-true, same_refl}
use Rattle.c_tree.proofs.Coming.{ahead, reading, arriving, entering, entering_node, shifting, finishing}
use Rattle.c_tree.proofs.Readable.{firsts, cast_firsts, type_firsts, Joins, listed}
use Rattle.c_tree.proofs.RowsRead.{trees_listed}
use Rattle.c_tree.proofs.ExpressionsRead.{Formed, formed}

-- ---- lists of words

abbrev pub terminals_of : PlainTrees → List Terminal
terminals_of none = []
terminals_of (more (leaf token) ps) = terminal token ∷ terminals_of ps
terminals_of (more (node kind inner) ps) = terminals_of ps

abbrev pub words_of : PlainTree → List Terminal
words_of (leaf token) = []
words_of (node kind ps) = terminals_of ps

abbrev pub are_leaves : PlainTrees → Bool
are_leaves none = true
are_leaves (more (leaf token) ps) = are_leaves ps
are_leaves (more (node kind inner) ps) = false

-- the words are a list of these
abbrev pub AreAmong : List Terminal → List (List Terminal) → Type 0
AreAmong words lists = IsTrue (list_any (are_same words) lists)

abbrev pub every : {X : Type 0} → (X → Bool) → List X → Bool
every f [] = true
every f (x ∷ xs) = f x && every f xs

pub are_same-true : (first second : List Terminal) → IsTrue (are_same first second) → first ≡ second
are_same-true [] [] h = refl
are_same-true [] (x ∷ second) h = absurd (false≢true h)
are_same-true (x ∷ first) [] h = absurd (false≢true h)
are_same-true (x ∷ first) (y ∷ second) h =
    let both : _ × _ = and_parts (same x y) (are_same first second) h in
    ap (λ z. z ∷ first) (same-true x y both.0) ∙ ap (λ rest. y ∷ rest) (are_same-true first second both.1)

goes_on-front : (front behind full : List Terminal) → IsTrue (are_same (front ++ behind) full) → IsTrue (goes_on front full)
goes_on-front [] behind full h = refl
goes_on-front (x ∷ front) behind [] h = absurd (false≢true h)
goes_on-front (x ∷ front) behind (y ∷ full) h =
    let both : _ × _ = and_parts (same x y) (are_same (front ++ behind) full) h in
    and_from (same x y) (goes_on front full) both.0 (goes_on-front front behind full both.1)

any_of : {X : Type 0} (f g : X → Bool) (xs : List X) → ((x : X) → IsTrue (f x) → IsTrue (g x)) → list_any f xs ≡ true → list_any g xs ≡ true
any_of f g [] each h = h
any_of f g (x ∷ xs) each h = by_case (or_cases (f x) (list_any f xs) h) (λ e. any_of f g xs each e)
  where
    by_case : (f x ≡ true) ⊎ (list_any f xs ≡ true) → (list_any f xs ≡ true → list_any g xs ≡ true) → (g x || list_any g xs) ≡ true
    by_case (inl e) others = or_left (g x) (list_any g xs) (each x e)
    by_case (inr e) others = or_right (g x) (list_any g xs) (others e)

-- what holds of each list holds of words that are one of them
pub among :
    (f : List Terminal → Bool) (lists : List (List Terminal)) (words : List Terminal) → IsTrue (every f lists) → AreAmong words lists
    → IsTrue (f words)
among f [] words all h = absurd (false≢true h)
among f (first ∷ lists) words all h =
    by_case (and_parts (f first) (every f lists) all) (or_cases (are_same words first) (list_any (are_same words) lists) h)
    (λ others e. among f lists words others e)
  where
    by_case :
        (IsTrue (f first) × IsTrue (every f lists)) → (are_same words first ≡ true) ⊎ (list_any (are_same words) lists ≡ true)
        → (IsTrue (every f lists) → list_any (are_same words) lists ≡ true → IsTrue (f words)) → IsTrue (f words)
    by_case both (inl e) others = rw (are_same-true words first e) both.0
    by_case both (inr e) others = others both.1 e

pub record Worded (lists : List (List Terminal)) (ps : PlainTrees) : Type 0 where
  pub leaves : IsTrue (are_leaves ps)
  pub words_among : AreAmong (terminals_of ps) lists

pub are_words-same :
    (words : List Terminal) (ps : PlainTrees) → IsTrue (are_words words ps)
    → IsTrue (are_leaves ps) × IsTrue (are_same (terminals_of ps) words)
are_words-same [] none h = (refl, refl)
are_words-same [] (more tree ps) h = absurd (false≢true h)
are_words-same (x ∷ words) none h = absurd (false≢true h)
are_words-same (x ∷ words) (more (leaf token) ps) h =
    let both : _ × _ = and_parts (same x (terminal token)) (are_words words ps) h in
    let others : _ × _ = are_words-same words ps both.1 in (
      others.0,
      and_from (same (terminal token) x) (are_same (terminals_of ps) words)
          (rw (← same-true x (terminal token) both.0) (same_refl x)) others.1,
    )
are_words-same (x ∷ words) (more (node kind inner) ps) h = absurd (false≢true h)

pub worded : (lists : List (List Terminal)) (ps : PlainTrees) → IsTrue (are_words_of lists ps) → Worded lists ps
worded [] ps h = absurd (false≢true h)
worded (first ∷ lists) ps h =
    by_case (or_cases (are_words first ps) (are_words_of lists ps) h) (λ e. worded lists ps e)
  where
    by_case : (are_words first ps ≡ true) ⊎ (are_words_of lists ps ≡ true) → (are_words_of lists ps ≡ true → Worded lists ps) → Worded (first ∷ lists) ps
    by_case (inl e) others =
        let both : _ × _ = are_words-same first ps e in
        record {
          leaves = both.0;
          words_among = or_left (are_same (terminals_of ps) first) (list_any (are_same (terminals_of ps)) lists) both.1;
        }
    by_case (inr e) others =
        record {
          leaves = (others e).leaves;
          words_among = or_right (are_same (terminals_of ps) first) (list_any (are_same (terminals_of ps)) lists) (others e).words_among;
        }

-- ---- words are read

words_shift :
    (wording : Wording) (before behind : List Terminal) (x : Terminal) → AreAmong (before ++ x ∷ behind) (wordings wording)
    → list_any (goes_on (before ++ x ∷ [])) (wordings wording) ≡ true
words_shift wording before behind x h =
    any_of (are_same (before ++ x ∷ behind)) (goes_on (before ++ x ∷ [])) (wordings wording)
    (λ full e. goes_on-front (before ++ x ∷ []) behind full (rw (append_assoc before (x ∷ []) behind) e)) h

words_read :
    (wording : Wording) (before : List Terminal) (ps : PlainTrees) (parts : List PlainTree) (frames : List (Frame PlainTree))
    (rest : List PlainToken) → IsTrue (are_leaves ps) → AreAmong (before ++ terminals_of ps) (wordings wording)
    → reading (frame (in_words wording before) parts ∷ frames) (all_written ps rest)
    ≡ reading (frame (in_words wording (before ++ terminals_of ps)) (parts ++ listed ps) ∷ frames) rest
words_read wording before none parts frames rest leaves h =
    ap (λ ps. reading (frame (in_words wording before) ps ∷ frames) rest) (sym (append-nil parts))
    ∙ ap (λ words. reading (frame (in_words wording words) (parts ++ []) ∷ frames) rest) (sym (append-nil before))
words_read wording before (more (leaf token) ps) parts frames rest leaves h =
    let x : Terminal = terminal token in
    shifting (in_words wording before) parts frames token (all_written ps rest) (in_words wording (before ++ x ∷ []))
    (ap
    (λ b. if b then shifts (in_words wording (before ++ x ∷ []))
    else if list_any (are_same before) (wordings wording) then finishes k.Specifiers else fails)
    (words_shift wording before (terminals_of ps) x h))
    ∙ words_read wording (before ++ x ∷ []) ps (parts ++ leaf token ∷ []) frames rest leaves
    (rw (append_assoc before (x ∷ []) (terminals_of ps)) h)
    ∙ ap (λ qs. reading (frame (in_words wording ((before ++ x ∷ []) ++ terminals_of ps)) qs ∷ frames) rest)
    (append_assoc parts (leaf token ∷ []) (listed ps))
    ∙ ap (λ words. reading (frame (in_words wording words) (parts ++ leaf token ∷ listed ps) ∷ frames) rest)
    (append_assoc before (x ∷ []) (terminals_of ps))
words_read wording before (more (node kind inner) ps) parts frames rest leaves h = absurd (false≢true leaves)

-- none of these goes on with the words
abbrev pub ends_words : Wording → List Terminal → List Terminal → Bool
ends_words wording ks words = every (λ x. not (list_any (goes_on (words ++ x ∷ [])) (wordings wording))) ks

every_of : (f : Terminal → Bool) (ks : List Terminal) (x : Terminal) → IsTrue (every f ks) → IsTrue (is_one_of ks x) → IsTrue (f x)
every_of f [] x all h = absurd (false≢true h)
every_of f (first ∷ ks) x all h =
    by_case (and_parts (f first) (every f ks) all) (or_cases (same x first) (is_one_of ks x) h) (λ others e. every_of f ks x others e)
  where
    by_case :
        (IsTrue (f first) × IsTrue (every f ks)) → (same x first ≡ true) ⊎ (is_one_of ks x ≡ true)
        → (IsTrue (every f ks) → is_one_of ks x ≡ true → IsTrue (f x)) → IsTrue (f x)
    by_case both (inl e) others = rw (same-true x first e) both.0
    by_case both (inr e) others = others both.1 e

words_end :
    (wording : Wording) (words ks : List Terminal) (x : Terminal) → AreAmong words (wordings wording)
    → IsTrue (ends_words wording ks words) → IsTrue (is_one_of ks x) → move (in_words wording words) x ≡ finishes k.Specifiers
words_end wording words ks x h ends one =
    ap
    (λ b. if b then shifts (in_words wording (words ++ x ∷ []))
    else if list_any (are_same words) (wordings wording) then finishes k.Specifiers else fails)
    (not-true (list_any (goes_on (words ++ x ∷ [])) (wordings wording))
    (every_of (λ x. not (list_any (goes_on (words ++ x ∷ [])) (wordings wording))) ks x ends one))
    ∙ ap (λ b. if b then finishes k.Specifiers else fails) h

-- words of a node, up to what ends them
pub words_arrive :
    (wording : Wording) (ps : PlainTrees) (ks : List Terminal) (frames : List (Frame PlainTree)) (rest : List PlainToken)
    → IsTrue (are_leaves ps) → AreAmong (terminals_of ps) (wordings wording) → list_any (are_same []) (wordings wording) ≡ false
    → IsTrue (every (ends_words wording ks) (wordings wording)) → IsTrue (is_one_of ks (ahead rest))
    → entering (begins_words wording) frames (all_written ps rest)
    ≡ arriving (node k.Specifiers ps) (in_words wording (terminals_of ps)) frames rest
words_arrive wording none ks frames rest leaves h none_empty ends one = absurd (false≢true (sym none_empty ∙ h))
words_arrive wording (more (node kind inner) ps) ks frames rest leaves h none_empty ends one = absurd (false≢true leaves)
words_arrive wording (more (leaf token) ps) ks frames rest leaves h none_empty ends one =
    let x : Terminal = terminal token in
    entering_node (begins_words wording) (in_words wording (x ∷ [])) frames token (all_written ps rest)
    (ap (λ b. if b then begins [] false (in_words wording (x ∷ [])) else no_beginning) (words_shift wording [] (terminals_of ps) x h))
    ∙ words_read wording (x ∷ []) ps (leaf token ∷ []) frames rest leaves h
    ∙ finishing (in_words wording (x ∷ terminals_of ps)) (leaf token ∷ listed ps) frames rest k.Specifiers
    (words_end wording (x ∷ terminals_of ps) ks (ahead rest) h
    (among (ends_words wording ks) (wordings wording) (x ∷ terminals_of ps) ends h) one)
    ∙ ap (λ qs. arriving (node k.Specifiers (more (leaf token) qs)) (in_words wording (x ∷ terminals_of ps)) frames rest) (trees_listed ps)

-- ---- types

abbrev pub behind_types : List Terminal
behind_types = t.Star ∷ t.Name ∷ t.OpenBracket ∷ t.CloseParenthesis ∷ t.Comma ∷ []

pub specifiers_arrive :
    (ps : PlainTrees) (frames : List (Frame PlainTree)) (rest : List PlainToken) → IsTrue (are_words_of types ps)
    → IsTrue (is_one_of behind_types (ahead rest))
    → entering (begins_words type_wording) frames (all_written ps rest)
    ≡ arriving (node k.Specifiers ps) (in_words type_wording (terminals_of ps)) frames rest
specifiers_arrive ps frames rest h one =
    let words : Worded types ps = worded types ps h in
    words_arrive type_wording ps behind_types frames rest words.leaves words.words_among refl refl one

specifiers_node_joins : (kind : Kind) (ps : PlainTrees) → Formed specifiers kind ps → Joins specifiers (node kind ps)
specifiers_node_joins k.Specifiers ps f place parts frames rest steady follows =
    specifiers_arrive ps (frame place parts ∷ frames) rest f.shaped_so follows
    ∙ ap (λ p. reading (frame p (parts ++ node k.Specifiers ps ∷ []) ∷ frames) rest) (steady (in_words type_wording (terminals_of ps)))
specifiers_node_joins _ ps f place parts frames rest steady follows = absurd (false≢true f.belongs_there)

pub specifiers_join : (tree : PlainTree) → IsTrue (is_a specifiers tree) → Joins specifiers tree
specifiers_join (leaf token) h = absurd (false≢true h)
specifiers_join (node kind ps) h = specifiers_node_joins kind ps (formed specifiers kind ps h)

cast_node_joins : (kind : Kind) (ps : PlainTrees) → Formed cast_type kind ps → Joins cast_type (node kind ps)
cast_node_joins k.Specifiers ps f place parts frames rest steady follows =
    let words : Worded cast_types ps = worded cast_types ps f.shaped_so in
    words_arrive cast_wording ps (t.CloseParenthesis ∷ []) (frame place parts ∷ frames) rest words.leaves words.words_among refl refl follows
    ∙ ap (λ p. reading (frame p (parts ++ node k.Specifiers ps ∷ []) ∷ frames) rest) (steady (in_words cast_wording (terminals_of ps)))
cast_node_joins _ ps f place parts frames rest steady follows = absurd (false≢true f.belongs_there)

pub cast_joins : (tree : PlainTree) → IsTrue (is_a cast_type tree) → Joins cast_type tree
cast_joins (leaf token) h = absurd (false≢true h)
cast_joins (node kind ps) h = cast_node_joins kind ps (formed cast_type kind ps h)

-- ---- the first word

abbrev pub first_word : List Terminal → Terminal
first_word [] = t.Other
first_word (x ∷ words) = x

words_first :
    (lists : List (List Terminal)) (ks : List Terminal) (ps : PlainTrees) (rest : List PlainToken) → IsTrue (are_words_of lists ps)
    → list_any (are_same []) lists ≡ false → IsTrue (every (λ words. is_one_of ks (first_word words)) lists)
    → IsTrue (is_one_of ks (ahead (all_written ps rest)))
words_first lists ks none rest h none_empty all =
    absurd (false≢true (sym none_empty ∙ (worded lists none h).words_among))
words_first lists ks (more (node kind inner) ps) rest h none_empty all =
    absurd (false≢true (worded lists (more (node kind inner) ps) h).leaves)
words_first lists ks (more (leaf token) ps) rest h none_empty all =
    among (λ words. is_one_of ks (first_word words)) lists (terminal token ∷ terminals_of ps) all
    (worded lists (more (leaf token) ps) h).words_among

pub specifiers_first :
    (tree : PlainTree) (rest : List PlainToken) → IsTrue (is_a specifiers tree) → IsTrue (is_one_of type_firsts (ahead (written tree rest)))
specifiers_first (leaf token) rest h = absurd (false≢true h)
specifiers_first (node k.Specifiers ps) rest h =
    words_first types type_firsts ps rest (formed specifiers k.Specifiers ps h).shaped_so refl refl
specifiers_first (node kind ps) rest h = absurd (false≢true (formed specifiers kind ps h).belongs_there)

pub cast_first :
    (tree : PlainTree) (rest : List PlainToken) → IsTrue (is_a cast_type tree) → IsTrue (is_one_of cast_firsts (ahead (written tree rest)))
cast_first (leaf token) rest h = absurd (false≢true h)
cast_first (node k.Specifiers ps) rest h =
    words_first cast_types cast_firsts ps rest (formed cast_type k.Specifiers ps h).shaped_so refl refl
cast_first (node kind ps) rest h = absurd (false≢true (formed cast_type kind ps h).belongs_there)

pub file_specifiers_first :
    (tree : PlainTree) (rest : List PlainToken) → IsTrue (is_a file_specifiers tree)
    → IsTrue (is_one_of (firsts file_specifiers) (ahead (written tree rest)))
file_specifiers_first (leaf token) rest h = absurd (false≢true h)
file_specifiers_first (node k.Specifiers ps) rest h =
    words_first file_types (firsts file_specifiers) ps rest (formed file_specifiers k.Specifiers ps h).shaped_so refl refl
file_specifiers_first (node kind ps) rest h = absurd (false≢true (formed file_specifiers kind ps h).belongs_there)

pub tag_first :
    (tree : PlainTree) (rest : List PlainToken) → IsTrue (is_a tag tree) → IsTrue (is_one_of type_firsts (ahead (written tree rest)))
tag_first (leaf token) rest h = absurd (false≢true h)
tag_first (node k.Specifiers ps) rest h =
    words_first (tag_words ∷ []) type_firsts ps rest (formed tag k.Specifiers ps h).shaped_so refl refl
tag_first (node kind ps) rest h = absurd (false≢true (formed tag kind ps h).belongs_there)
