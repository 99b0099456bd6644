-- Parameters are read to their ends, and the place there tells whether they have names.
use Rattle.std.proofs.Common.{◌≡◌, Bool, true, false, not, ◌&&◌, ◌||◌, List, [], ◌∷◌, ◌++◌, refl, ap, sym, ◌∙◌, inl, inr, ◌⊎◌}
use Rattle.std.specs.Prelude.{IsTrue, if◌then◌else◌}
use Rattle.std.proofs.lemmas.Bool.{and_parts, and_right, or_cases, or_left, or_right, false≢true}
use Rattle.std.proofs.lemmas.List.{append_assoc, append-nil}
use Rattle.c_text.specs.Token.{PlainToken}
use Rattle.c_tree.specs.declared.kinds.Kind.{Kind}
use Rattle.c_tree.specs.declared.kinds.Kind.TheVariants as k
use Rattle.c_tree.specs.declared.terminals.Terminal.{Terminal}
use Rattle.c_tree.specs.declared.terminals.Terminal.TheVariants as t
use Rattle.c_tree.specs.Terminals.{terminal, same, is_one_of}
use Rattle.c_tree.specs.Trees.{PlainTree, PlainTrees, leaf, node, none, more, absent, trees, written, all_written}
use Rattle.c_tree.specs.Grammar.{specifiers, parameters, parameter, abstract_declarator, parameter_of, Slot, needed, optional, bracketed_size, row, is_a, is_word, is_absent, any_part, are_words, are_separated, has_name, is_named, all_named, is_lone_void}
use Rattle.c_tree.specs.Places.{Place, before_name, behind_name, in_brackets, in_words, type_wording, parameter_at, parameter_read, parameter_next, parameter_begins, parameter_typed, parameter_declared, begins, begins_declarator, begins_parameter, begins_words, behind_first, shifts, skips, finishes, fails, move, parameter_read_move, parameter_typed_move, parameter_role, may_go_on, are_same, Naming, lone_void, named, unnamed, naming_at, joined_naming, flavour_of, may_be_defined_so}
use Rattle.c_tree.specs.Machine.{Frame, frame}
use Rattle.c_tree.proofs.TerminalCases.{one_of}
use Rattle.c_tree.proofs.Coming.{is_beginning, ahead, reading, arriving, entering, shifting, skipping, finishing, needing, entering_around}
use Rattle.c_tree.proofs.Readable.{firsts, Readable, AllReadable, listed, AbstractRead, ParameterRead, ParametersRead, begins_parameters, are_definable, has_name_of, is_void}
use Rattle.c_tree.proofs.RowsRead.{InRow, row_ended, word_part, needed_part, absent_part, present_part, fixed_row, trees_listed, or_skips_enters}
use Rattle.c_tree.proofs.ExpressionsRead.{formed, AllParts}
use Rattle.c_tree.proofs.WordsRead.{words_of, are_words-same, specifiers_arrive, behind_types}
use Rattle.c_tree.proofs.DeclaratorForms.{Perhaps, star_first, with_name, nameless, AbstractForm, abstract_plain, abstract_array, abstract_form}
use Rattle.c_tree.proofs.DeclaratorsRead.{PartsRead, leaf_read, leaf_leads, plain_parts, array_parts, takes_brackets, brackets_read}

abbrev pub parameter_closers : List Terminal
parameter_closers = t.Comma ∷ t.CloseParenthesis ∷ []

-- ---- declarators that may do without a name

record AbstractParts (inline : Bool) (kind : Kind) (place : Place) (ps : PlainTrees) : Type 0 where
  ended : Place
  reads : PartsRead parameter_closers kind place ended ps
  named_so : IsTrue (has_name ps) → naming_at ended ≡ named

star_name :
    (token : PlainToken) (ps : PlainTrees) → IsTrue (is_one_of (t.Star ∷ []) (terminal token)) → has_name (more (leaf token) ps) ≡ has_name ps
star_name token ps h =
    one_of (λ x. (same t.Name x || (same t.Star x && has_name ps)) ≡ has_name ps) (t.Star ∷ []) (terminal token) h (refl, tt)

bracket_name :
    (token : PlainToken) (ps : PlainTrees) → IsTrue (is_one_of (t.OpenBracket ∷ []) (terminal token)) → has_name (more (leaf token) ps) ≡ false
bracket_name token ps h =
    one_of (λ x. (same t.Name x || (same t.Star x && has_name ps)) ≡ false) (t.OpenBracket ∷ []) (terminal token) h (refl, tt)

behind_star :
    (inline : Bool) (token : PlainToken) (ps : PlainTrees) → IsTrue (is_one_of (t.Star ∷ []) (terminal token))
    → IsTrue (not inline || has_name (more (leaf token) ps)) → IsTrue (not inline || has_name ps)
behind_star inline token ps h named_or = rw (← star_name token ps h) named_or

module _ (inline : Bool) (kind : Kind) (slots : List Slot) (named_end : Place) (is_named_end : naming_at named_end ≡ named)
    (behind : (qs : PlainTrees) → InRow slots qs → AllReadable qs → PartsRead parameter_closers kind (behind_name (parameter_role inline)) named_end qs)
    (without : (qs : PlainTrees) → InRow slots qs → AllReadable qs → IsTrue (not inline || has_name qs)
    → AbstractParts inline kind (before_name (parameter_role inline) true) qs) where
  perhaps_read :
      {ps : PlainTrees} → Perhaps slots ps → AllReadable ps → IsTrue (not inline || has_name ps)
      → AbstractParts inline kind (before_name (parameter_role inline) true) ps
  perhaps_read (star_first {token = token} {ps = ps} h others) all named_or =
      let r : AbstractParts inline kind (before_name (parameter_role inline) true) ps =
      perhaps_read others all.1 (behind_star inline token ps h named_or) in
      record {
        ended = r.ended;
        reads = leaf_read parameter_closers kind (before_name (parameter_role inline) true) (before_name (parameter_role inline) true) r.ended
            token ps
            (one_of (λ x. move (before_name (parameter_role inline) true) x ≡ shifts (before_name (parameter_role inline) true)) (t.Star ∷ [])
            (terminal token) h (refl, tt))
            r.reads;
        named_so = λ e. r.named_so (rw (← star_name token ps h) e);
      }
  perhaps_read (with_name {token = token} {ps = ps} h row) all named_or = record {
    ended = named_end;
    reads = leaf_read parameter_closers kind (before_name (parameter_role inline) true) (behind_name (parameter_role inline)) named_end token ps
        (one_of (λ x. move (before_name (parameter_role inline) true) x ≡ shifts (behind_name (parameter_role inline))) (t.Name ∷ [])
        (terminal token) h (refl, tt))
        (behind ps row all.1);
    named_so = λ e. is_named_end;
  }
  perhaps_read {ps = ps} (nameless row) all named_or = without ps row all named_or

  abstract_leads :
      {ps : PlainTrees} → Perhaps slots ps → AllReadable ps → IsTrue (not inline || has_name ps)
      → ((row : InRow slots ps) → AbstractRead inline (node kind ps)) → AbstractRead inline (node kind ps)
  abstract_leads (star_first {token = token} {ps = ps} h others) all named_or alone =
      let r : AbstractParts inline kind (before_name (parameter_role inline) true) ps =
      perhaps_read others all.1 (behind_star inline token ps h named_or) in
      record {
        ended = r.ended;
        reads = leaf_leads parameter_closers kind (begins_declarator (parameter_role inline)) (before_name (parameter_role inline) true) r.ended
            token ps
            (one_of (λ x. begins_declarator (parameter_role inline) x ≡ begins [] false (before_name (parameter_role inline) true)) (t.Star ∷ [])
            (terminal token) h (refl, tt))
            r.reads;
        named_so = λ e. r.named_so (rw (← star_name token ps h) e);
        begins_so = λ rest.
            one_of (λ x. IsTrue (is_beginning (begins_declarator (parameter_role inline) x))) (t.Star ∷ []) (terminal token) h (refl, tt);
      }
  abstract_leads (with_name {token = token} {ps = ps} h row) all named_or alone = record {
    ended = named_end;
    reads = leaf_leads parameter_closers kind (begins_declarator (parameter_role inline)) (behind_name (parameter_role inline)) named_end token ps
        (one_of (λ x. begins_declarator (parameter_role inline) x ≡ begins [] false (behind_name (parameter_role inline))) (t.Name ∷ [])
        (terminal token) h (refl, tt))
        (behind ps row all.1);
    named_so = λ e. is_named_end;
    begins_so = λ rest.
        one_of (λ x. IsTrue (is_beginning (begins_declarator (parameter_role inline) x))) (t.Name ∷ []) (terminal token) h (refl, tt);
  }
  abstract_leads (nameless row) all named_or alone = alone row

plain_without :
    (inline : Bool) (qs : PlainTrees) → InRow [] qs → AllReadable qs → IsTrue (not inline || has_name qs)
    → AbstractParts inline k.Declarator (before_name (parameter_role inline) true) qs
plain_without true qs row_ended all named_or = absurd (false≢true named_or)
plain_without false qs row_ended all named_or = record {
  ended = before_name parameter_of true;
  reads = λ parts frames rest follows.
      finishing (before_name parameter_of true) parts frames rest k.Declarator
      (one_of (λ x. move (before_name parameter_of true) x ≡ finishes k.Declarator) parameter_closers (ahead rest) follows (refl, (refl, tt)))
      ∙ ap (λ ps. arriving (node k.Declarator (trees ps)) (before_name parameter_of true) frames rest) (sym (append-nil parts));
  named_so = λ e. absurd (false≢true e);
}

array_without :
    (inline : Bool) (qs : PlainTrees) → InRow bracketed_size qs → AllReadable qs → IsTrue (not inline || has_name qs)
    → AbstractParts inline k.ArrayDeclarator (before_name (parameter_role inline) true) qs
array_without true qs (word_part {token = token} {ps = ps} h row) all named_or =
    absurd (false≢true (sym (bracket_name token ps h) ∙ named_or))
array_without false qs (word_part {token = token} {ps = ps} h row) all named_or = record {
  ended = in_brackets false [];
  reads = leaf_read parameter_closers k.ArrayDeclarator (before_name parameter_of true) (in_brackets false (behind_first bracketed_size))
      (in_brackets false []) token ps
      (one_of (λ x. move (before_name parameter_of true) x ≡ shifts (in_brackets false (behind_first bracketed_size))) (t.OpenBracket ∷ [])
      (terminal token) h (refl, tt))
      (λ parts frames rest follows. brackets_read false frames rest row all.1 parts);
  named_so = λ e. absurd (false≢true (sym (bracket_name token ps h) ∙ e));
}

array_alone :
    (inline : Bool) {ps : PlainTrees} → InRow bracketed_size ps → AllReadable ps → IsTrue (not inline || has_name ps)
    → AbstractRead inline (node k.ArrayDeclarator ps)
array_alone true (word_part {token = token} {ps = ps} h row) all named_or =
    absurd (false≢true (sym (bracket_name token ps h) ∙ named_or))
array_alone false (word_part {token = token} {ps = ps} h row) all named_or = record {
  ended = in_brackets false [];
  reads = leaf_leads parameter_closers k.ArrayDeclarator (begins_declarator parameter_of) (in_brackets false (behind_first bracketed_size))
      (in_brackets false []) token ps
      (one_of (λ x. begins_declarator parameter_of x ≡ begins [] false (in_brackets false (behind_first bracketed_size))) (t.OpenBracket ∷ [])
      (terminal token) h (refl, tt))
      (λ parts frames rest follows. brackets_read false frames rest row all.1 parts);
  named_so = λ e. absurd (false≢true (sym (bracket_name token ps h) ∙ e));
  begins_so = λ rest.
      one_of (λ x. IsTrue (is_beginning (begins_declarator parameter_of x))) (t.OpenBracket ∷ []) (terminal token) h (refl, tt);
}

plain_alone : (inline : Bool) {ps : PlainTrees} → IsTrue (any_part ps) → InRow [] ps → AbstractRead inline (node k.Declarator ps)
plain_alone inline any row_ended = absurd (false≢true any)

takes_in_parameters : (inline : Bool) → IsTrue (takes_brackets (parameter_role inline))
takes_in_parameters true = refl
takes_in_parameters false = refl

abstract_form_read :
    (inline : Bool) (tree : PlainTree) → AbstractForm tree → AllParts tree → IsTrue (not inline || has_name_of tree) → AbstractRead inline tree
abstract_form_read inline (leaf token) form all named_or = elim form [ ]
abstract_form_read inline (node kind ps) (abstract_plain any p) all named_or =
    abstract_leads inline k.Declarator [] (behind_name (parameter_role inline)) refl
    (plain_parts (parameter_role inline) parameter_closers (refl, (refl, tt))) (plain_without inline) p all named_or
    (plain_alone inline any)
abstract_form_read inline (node kind ps) (abstract_array p) all named_or =
    abstract_leads inline k.ArrayDeclarator bracketed_size (in_brackets true []) refl
    (array_parts (parameter_role inline) parameter_closers (takes_in_parameters inline)) (array_without inline) p all named_or
    (λ row. array_alone inline row all named_or)

pub abstract_read_as :
    (inline : Bool) (tree : PlainTree) → AllParts tree → IsTrue (is_a abstract_declarator tree) → IsTrue (not inline || has_name_of tree)
    → AbstractRead inline tree
abstract_read_as inline tree all h named_or = abstract_form_read inline tree (abstract_form tree h) all named_or

-- ---- a parameter

specifiers_tree_arrives :
    (tree : PlainTree) (frames : List (Frame PlainTree)) (rest : List PlainToken) → IsTrue (is_a specifiers tree)
    → IsTrue (is_one_of behind_types (ahead rest))
    → entering (begins_words type_wording) frames (written tree rest) ≡ arriving tree (in_words type_wording (words_of tree)) frames rest
specifiers_tree_arrives (leaf token) frames rest h one = absurd (false≢true h)
specifiers_tree_arrives (node k.Specifiers ps) frames rest h one =
    specifiers_arrive ps frames rest (formed specifiers k.Specifiers ps h).shaped_so one
specifiers_tree_arrives (node kind ps) frames rest h one = absurd (false≢true (formed specifiers kind ps h).belongs_there)

parameter_typed_by :
    (inline : Bool) (words : PlainTree) (frames : List (Frame PlainTree)) (rest : List PlainToken) → IsTrue (is_a specifiers words)
    → IsTrue (is_one_of behind_types (ahead rest))
    → entering (begins_parameter inline) frames (written words rest)
    ≡ reading (frame (parameter_typed inline (are_same (words_of words) (t.Void ∷ []))) (words ∷ []) ∷ frames) rest
parameter_typed_by inline words frames rest h one =
    entering_around (parameter_begins inline) (begins_parameter inline) (begins_words type_wording) frames (written words rest) refl
    ∙ specifiers_tree_arrives words (frame (parameter_begins inline) [] ∷ frames) rest h one

ends_typed :
    (inline : Bool) (x : Terminal) → IsTrue (is_one_of parameter_closers x)
    → parameter_typed_move inline x ≡ skips (finishes k.Parameter)
ends_typed true x h = one_of (λ x. parameter_typed_move true x ≡ skips (finishes k.Parameter)) parameter_closers x h (refl, (refl, tt))
ends_typed false x h = one_of (λ x. parameter_typed_move false x ≡ skips (finishes k.Parameter)) parameter_closers x h (refl, (refl, tt))

typed_void :
    (inline : Bool) (words : PlainTree) → IsTrue (is_void (node k.Parameter (more words (more absent none))))
    → naming_at (parameter_typed inline (are_same (words_of words) (t.Void ∷ []))) ≡ lone_void
typed_void inline (leaf token) h = absurd (false≢true h)
typed_void inline (node kind ps) h =
    ap (λ b. naming_at (parameter_typed inline b))
    (are_words-same (t.Void ∷ []) ps (and_parts (are_words (t.Void ∷ []) ps) true h).0).1

absent_declarator :
    (inline : Bool) (words : PlainTree) → IsTrue (is_a specifiers words)
    → ParameterRead inline (node k.Parameter (more words (more absent none)))
absent_declarator inline words h = record {
  ended = parameter_typed inline (are_same (words_of words) (t.Void ∷ []));
  reads = λ frames rest follows.
      parameter_typed_by inline words frames rest h
      (one_of (λ x. IsTrue (is_one_of behind_types x)) parameter_closers (ahead rest) follows (refl, (refl, tt)))
      ∙ skipping (parameter_typed inline (are_same (words_of words) (t.Void ∷ []))) (words ∷ []) frames rest (finishes k.Parameter)
      (ends_typed inline (ahead rest) follows);
  named_so = λ e. absurd (false≢true e);
  void_so = typed_void inline words;
}

not_absent : (tree : PlainTree) → IsTrue (is_a abstract_declarator tree) → is_absent tree ≡ false
not_absent (leaf token) h = refl
not_absent (node k.Declarator ps) h = refl
not_absent (node k.ArrayDeclarator ps) h = refl
not_absent (node kind ps) h = absurd (false≢true (formed abstract_declarator kind ps h).belongs_there)

not_void :
    (words tree : PlainTree) → IsTrue (is_a abstract_declarator tree) → is_void (node k.Parameter (more words (more tree none))) ≡ false
not_void (leaf token) tree h = refl
not_void (node kind ps) tree h = and_right (are_words (t.Void ∷ []) ps) (is_absent tree) (not_absent tree h)

named_declarator : (words tree : PlainTree) → IsTrue (is_named (node k.Parameter (more words (more tree none)))) → IsTrue (has_name_of tree)
named_declarator words (leaf token) h = absurd (false≢true h)
named_declarator words (node kind ps) h = h

present_named :
    (inline : Bool) (words tree : PlainTree) → IsTrue (is_a abstract_declarator tree)
    → IsTrue (not inline || (is_named (node k.Parameter (more words (more tree none))) || is_void (node k.Parameter (more words (more tree none)))))
    → IsTrue (not inline || has_name_of tree)
present_named false words tree h e = refl
present_named true words tree h e =
    by_case (or_cases (is_named (node k.Parameter (more words (more tree none)))) (is_void (node k.Parameter (more words (more tree none)))) e)
  where
    by_case :
        (is_named (node k.Parameter (more words (more tree none))) ≡ true) ⊎ (is_void (node k.Parameter (more words (more tree none))) ≡ true)
        → IsTrue (has_name_of tree)
    by_case (inl e) = named_declarator words tree e
    by_case (inr e) = absurd (false≢true (sym (not_void words tree h) ∙ e))

present_declarator :
    (inline : Bool) (words tree : PlainTree) → IsTrue (is_a specifiers words) → IsTrue (is_a abstract_declarator tree) → Readable tree
    → AbstractRead inline tree → ParameterRead inline (node k.Parameter (more words (more tree none)))
present_declarator inline words tree h declares readable r = record {
  ended = parameter_declared (naming_at r.ended);
  reads = λ frames rest follows.
      let place : Place = parameter_typed inline (are_same (words_of words) (t.Void ∷ [])) in
      parameter_typed_by inline words frames (written tree rest) h
      (one_of (λ x. IsTrue (is_one_of behind_types x)) (firsts abstract_declarator) (ahead (written tree rest))
      (readable.first abstract_declarator declares rest) (refl, (refl, (refl, tt))))
      ∙ or_skips_enters place (parameter_declared unnamed) (begins_declarator (parameter_role inline) (ahead (written tree rest)))
      (finishes k.Parameter) (words ∷ []) frames (written tree rest) (r.begins_so rest)
      ∙ r.reads (frame (parameter_declared unnamed) (words ∷ []) ∷ frames) rest follows
      ∙ finishing (parameter_declared (naming_at r.ended)) (words ∷ tree ∷ []) frames rest k.Parameter refl;
  named_so = λ e. r.named_so (named_declarator words tree e);
  void_so = λ e. absurd (false≢true (sym (not_void words tree declares) ∙ e));
}

parameter_row_read :
    (inline : Bool) (ps : PlainTrees) → InRow (needed specifiers ∷ optional abstract_declarator ∷ []) ps → AllReadable ps
    → IsTrue (not inline || (is_named (node k.Parameter ps) || is_void (node k.Parameter ps)))
    → ParameterRead inline (node k.Parameter ps)
parameter_row_read inline ps (needed_part {tree = words} h (absent_part row_ended)) all named_or = absent_declarator inline words h
parameter_row_read inline ps (needed_part {tree = words} h (present_part {tree = tree} declares row_ended)) all named_or =
    present_declarator inline words tree h declares (all.1).0
    ((all.1).0.abstract_reads inline declares (present_named inline words tree declares named_or))

pub parameter_read_as :
    (inline : Bool) (tree : PlainTree) → AllParts tree → IsTrue (is_a parameter tree)
    → IsTrue (not inline || (is_named tree || is_void tree)) → ParameterRead inline tree
parameter_read_as inline (leaf token) all h named_or = absurd (false≢true h)
parameter_read_as inline (node k.Parameter ps) all h named_or =
    parameter_row_read inline ps (fixed_row (row k.Parameter) ps refl (formed parameter k.Parameter ps h).shaped_so) all named_or
parameter_read_as inline (node kind ps) all h named_or = absurd (false≢true (formed parameter kind ps h).belongs_there)

-- ---- parameters

record Namings (inline : Bool) (before : List Naming) (tree : PlainTree) (ps : PlainTrees) : Type 0 where
  naming : Naming
  reads :
      (parts : List PlainTree) (frames : List (Frame PlainTree)) (rest : List PlainToken)
      → IsTrue (is_one_of (t.CloseParenthesis ∷ []) (ahead rest))
      → entering (begins_parameter inline) (frame (parameter_at inline before) parts ∷ frames) (written tree (all_written ps rest))
      ≡ arriving (node k.Parameters (trees (parts ++ tree ∷ listed ps))) (parameter_read inline naming) frames rest
  named_so : joined_naming before named ≡ named → IsTrue (all_named (more tree ps)) → naming ≡ named
  void_so : IsTrue (is_lone_void (more tree ps)) → naming ≡ joined_naming before lone_void

-- a lone parameter is alone
not_alone : (tree : PlainTree) (comma : PlainTree) (ps : PlainTrees) → is_lone_void (more tree (more comma ps)) ≡ false
not_alone (leaf token) comma ps = refl
not_alone (node kind none) comma ps = refl
not_alone (node kind (more (leaf token) qs)) comma ps = refl
not_alone (node kind (more (node inner words) none)) comma ps = refl
not_alone (node kind (more (node inner words) (more second none))) comma ps = refl
not_alone (node kind (more (node inner words) (more second (more third qs)))) comma ps = refl

may_go_on_so : (inline : Bool) (naming : Naming) → (IsTrue inline → naming ≡ named) → IsTrue (may_go_on inline naming)
may_go_on_so false naming h = refl
may_go_on_so true naming h = rw (h refl) refl

last_suits : (a lone has : Bool) → IsTrue (not a || (lone || (has && true))) → IsTrue (not a || (has || lone))
last_suits false lone has h = refl
last_suits true true true h = refl
last_suits true true false h = refl
last_suits true false true h = refl
last_suits true false false h = h

first_suits :
    (a lone has others : Bool) → lone ≡ false → IsTrue (not a || (lone || (has && others))) → (IsTrue a → IsTrue has × IsTrue others)
first_suits a lone has others e h i =
    and_parts has others (ap (λ l. l || (has && others)) (sym e) ∙ ap (λ b. not b || (lone || (has && others))) (sym i) ∙ h)

implied : (a b : Bool) → (IsTrue a → IsTrue b) → IsTrue (not a || b)
implied false b h = refl
implied true b h = h refl

last_parameter :
    (inline : Bool) (before : List Naming) (tree : PlainTree) → ParameterRead inline tree → Namings inline before tree none
last_parameter inline before tree r = record {
  naming = joined_naming before (naming_at r.ended);
  reads = λ parts frames rest follows.
      r.reads (frame (parameter_at inline before) parts ∷ frames) rest
      (one_of (λ x. IsTrue (is_one_of parameter_closers x)) (t.CloseParenthesis ∷ []) (ahead rest) follows (refl, tt))
      ∙ finishing (parameter_read inline (joined_naming before (naming_at r.ended))) (parts ++ tree ∷ []) frames rest k.Parameters
      (one_of (λ x. parameter_read_move inline (joined_naming before (naming_at r.ended)) x ≡ finishes k.Parameters) (t.CloseParenthesis ∷ [])
      (ahead rest) follows (refl, tt));
  named_so = λ b h. ap (joined_naming before) (r.named_so (and_parts (is_named tree) true h).0) ∙ b;
  void_so = λ h. ap (joined_naming before) (r.void_so h);
}

further_parameter :
    (inline : Bool) (before : List Naming) (tree : PlainTree) (comma : PlainToken) (next : PlainTree) (qs : PlainTrees)
    → IsTrue (is_one_of (t.Comma ∷ []) (terminal comma)) → (r : ParameterRead inline tree)
    → (IsTrue inline → joined_naming before (naming_at r.ended) ≡ named)
    → Namings inline (joined_naming before (naming_at r.ended) ∷ []) next qs
    → Namings inline before tree (more (leaf comma) (more next qs))
further_parameter inline before tree comma next qs is_comma r still others =
    let naming : Naming = joined_naming before (naming_at r.ended) in
    record {
      naming = others.naming;
      reads = λ parts frames rest follows.
          r.reads (frame (parameter_at inline before) parts ∷ frames) (comma ∷ written next (all_written qs rest))
          (one_of (λ x. IsTrue (is_one_of parameter_closers x)) (t.Comma ∷ []) (terminal comma) is_comma (refl, tt))
          ∙ shifting (parameter_read inline naming) (parts ++ tree ∷ []) frames comma (written next (all_written qs rest))
          (parameter_next inline naming)
          (one_of (λ x. parameter_read_move inline naming x ≡ shifts (parameter_next inline naming)) (t.Comma ∷ []) (terminal comma) is_comma
          (ap (λ b. if b then shifts (parameter_next inline naming) else fails) (may_go_on_so inline naming still), tt))
          ∙ needing (parameter_next inline naming) ((parts ++ tree ∷ []) ++ leaf comma ∷ []) frames (written next (all_written qs rest))
          (parameter_at inline (naming ∷ [])) (begins_parameter inline) refl
          ∙ others.reads ((parts ++ tree ∷ []) ++ leaf comma ∷ []) frames rest follows
          ∙ ap (λ ps. arriving (node k.Parameters (trees ps)) (parameter_read inline others.naming) frames rest)
          (append_assoc (parts ++ tree ∷ []) (leaf comma ∷ []) (next ∷ listed qs)
          ∙ append_assoc parts (tree ∷ []) (leaf comma ∷ next ∷ listed qs));
      named_so = λ b h.
          let both : _ × _ = and_parts (is_named tree) (all_named (more next qs)) h in
          others.named_so
          (ap (λ n. joined_naming (n ∷ []) named) (ap (joined_naming before) (r.named_so both.0) ∙ b)) both.1;
      void_so = λ h. absurd (false≢true (sym (not_alone tree (leaf comma) (more next qs)) ∙ h));
    }

parameters_list :
    (inline : Bool) (before : List Naming) (tree : PlainTree) (ps : PlainTrees) → IsTrue (are_separated parameter (more tree ps))
    → AllReadable (more tree ps) → IsTrue (not inline || (is_lone_void (more tree ps) || all_named (more tree ps)))
    → (IsTrue inline → joined_naming before named ≡ named) → Namings inline before tree ps
parameters_list inline before tree none h all suit still =
    last_parameter inline before tree
    (all.0.parameter_reads inline h (last_suits inline (is_lone_void (more tree none)) (is_named tree) suit))
parameters_list inline before tree (more (node inner qs) ps) h all suit still =
    let outer : _ × _ = and_parts (is_a parameter tree && false) (are_separated parameter ps) h in
    absurd (false≢true (and_parts (is_a parameter tree) false outer.0).1)
parameters_list inline before tree (more (leaf comma) none) h all suit still =
    absurd (false≢true (and_parts (is_a parameter tree && is_word (t.Comma ∷ []) (leaf comma)) false h).1)
parameters_list inline before tree (more (leaf comma) (more next qs)) h all suit still =
    let outer : _ × _ =
    and_parts (is_a parameter tree && is_one_of (t.Comma ∷ []) (terminal comma)) (are_separated parameter (more next qs)) h in
    let both : _ × _ = and_parts (is_a parameter tree) (is_one_of (t.Comma ∷ []) (terminal comma)) outer.0 in
    let suited : (IsTrue inline → IsTrue (is_named tree) × IsTrue (all_named (more next qs))) =
    first_suits inline (is_lone_void (more tree (more (leaf comma) (more next qs)))) (is_named tree) (all_named (more next qs))
    (not_alone tree (leaf comma) (more next qs)) suit in
    let r : ParameterRead inline tree =
    all.0.parameter_reads inline both.0
    (implied inline (is_named tree || is_void tree) (λ i. or_left (is_named tree) (is_void tree) (suited i).0)) in
    let named_still : (IsTrue inline → joined_naming before (naming_at r.ended) ≡ named) =
    λ i. ap (joined_naming before) (r.named_so (suited i).0) ∙ still i in
    further_parameter inline before tree comma next qs both.1 r named_still
    (parameters_list inline (joined_naming before (naming_at r.ended) ∷ []) next qs outer.1 (all.1).1
    (implied inline (is_lone_void (more next qs) || all_named (more next qs))
    (λ i. or_right (is_lone_void (more next qs)) (all_named (more next qs)) (suited i).1))
    (λ i. ap (λ n. joined_naming (n ∷ []) named) (named_still i)))

defined_naming :
    (naming : Naming) (lone all : Bool) → (IsTrue lone → naming ≡ lone_void) → (IsTrue all → naming ≡ named) → IsTrue (lone || all)
    → IsTrue (may_be_defined_so (flavour_of naming))
defined_naming naming true all l a h = rw (l refl) refl
defined_naming naming false true l a h = rw (a refl) refl
defined_naming naming false false l a h = absurd (false≢true h)

parameters_node_read :
    (inline : Bool) (ps : PlainTrees) → IsTrue (are_separated parameter ps) → AllReadable ps
    → IsTrue (not inline || (is_lone_void ps || all_named ps)) → ParametersRead inline (node k.Parameters ps)
parameters_node_read inline none h all suit = absurd (false≢true h)
parameters_node_read inline (more tree ps) h all suit =
    let r : Namings inline [] tree ps = parameters_list inline [] tree ps h all suit (λ i. refl) in
    record {
      naming = r.naming;
      reads = λ frames rest follows.
          entering_around (parameter_at inline []) (begins_parameters inline) (begins_parameter inline) frames
          (written tree (all_written ps rest)) refl
          ∙ r.reads [] frames rest follows
          ∙ ap (λ ps. arriving (node k.Parameters (more tree ps)) (parameter_read inline r.naming) frames rest) (trees_listed ps);
      definable_so = defined_naming r.naming (is_lone_void (more tree ps)) (all_named (more tree ps)) r.void_so (r.named_so refl);
    }

pub parameters_read_as :
    (inline : Bool) (tree : PlainTree) → AllParts tree → IsTrue (is_a parameters tree) → IsTrue (not inline || are_definable tree)
    → ParametersRead inline tree
parameters_read_as inline (leaf token) all h suit = absurd (false≢true h)
parameters_read_as inline (node k.Parameters ps) all h suit =
    parameters_node_read inline ps (formed parameters k.Parameters ps h).shaped_so all suit
parameters_read_as inline (node kind ps) all h suit = absurd (false≢true (formed parameters kind ps h).belongs_there)
