-- Declarators are read to their ends, and the place there tells what they declare.
use Rattle.std.proofs.Common.{◌≡◌, Bool, true, false, not, ◌&&◌, ◌||◌, List, [], ◌∷◌, ◌++◌, refl, ap, sym, ◌∙◌, arith}
use Rattle.std.specs.Prelude.{IsTrue, if◌then◌else◌}
use Rattle.std.proofs.lemmas.Bool.{and_parts, false≢true}
use Rattle.std.proofs.lemmas.List.{append_assoc, append-nil}
use Rattle.c_text.specs.Token.{PlainToken}
use Rattle.c_tree.specs.declared.kinds.Kind.{Kind}
use Rattle.c_tree.specs.declared.kinds.Kind.TheVariants as k
use Rattle.c_tree.specs.declared.terminals.Terminal.{Terminal}
use Rattle.c_tree.specs.declared.terminals.Terminal.TheVariants as t
use Rattle.c_tree.specs.Terminals.{terminal, is_one_of}
use Rattle.c_tree.specs.Trees.{PlainTree, PlainTrees, leaf, node, none, more, absent, trees, written, all_written}
use Rattle.c_tree.specs.Grammar.{expression, parameters, declarator, Role, file_first, file_inline, file_later, at_file_scope, Slot, word, optional, bracketed_size, is_a, has_absent, may_be_defined, is_lone_void, all_named}
use Rattle.c_tree.specs.Places.{Place, operand, before_name, behind_name, in_brackets, parameters_next, parameters_read, behind_parameters, Beginning, no_beginning, begins, begins_declarator, begins_part, behind_first, or_fails, shifts, skips, finishes, fails, move, behind_name_move, parameters_next_move, parameters_read_move, is_inline_role, is_later, Flavour, empty, flavour_of, may_be_declared_so, may_be_defined_so, Naming, lone_void, named, unnamed}
use Rattle.c_tree.specs.Machine.{Frame, frame}
use Rattle.c_tree.proofs.TerminalCases.{EachOf, one_of}
use Rattle.c_tree.proofs.Coming.{ahead, reading, arriving, entering, on, shifting, skipping, finishing, needing, entering_node}
use Rattle.c_tree.proofs.Readable.{type_firsts, AllReadable, listed, suits, DeclaratorRead, ParametersRead, begins_parameters, are_definable}
use Rattle.c_tree.proofs.RowsRead.{InRow, row_ended, word_part, absent_part, present_part, EndAlike, row_read, trees_listed}
use Rattle.c_tree.proofs.ExpressionsRead.{formed, closed, AllParts}
use Rattle.c_tree.proofs.DeclaratorForms.{Starred, starred, unstarred, DeclaratorForm, plain_form, array_form, function_form, declarator_form, function_row}

-- the rest of the parts of a node are read to its end, before one of these
abbrev pub PartsRead : List Terminal → Kind → Place → Place → PlainTrees → Type 0
PartsRead ks kind place ended ps =
    (parts : List PlainTree) (frames : List (Frame PlainTree)) (rest : List PlainToken) → IsTrue (is_one_of ks (ahead rest))
    → reading (frame place parts ∷ frames) (all_written ps rest) ≡ arriving (node kind (trees (parts ++ listed ps))) ended frames rest

pub leaf_read :
    (ks : List Terminal) (kind : Kind) (place next ended : Place) (token : PlainToken) (ps : PlainTrees)
    → move place (terminal token) ≡ shifts next → PartsRead ks kind next ended ps → PartsRead ks kind place ended (more (leaf token) ps)
leaf_read ks kind place next ended token ps e others parts frames rest follows =
    shifting place parts frames token (all_written ps rest) next e
    ∙ others (parts ++ leaf token ∷ []) frames rest follows
    ∙ ap (λ qs. arriving (node kind (trees qs)) ended frames rest) (append_assoc parts (leaf token ∷ []) (listed ps))

-- the node begins with a token
pub leaf_leads :
    (ks : List Terminal) (kind : Kind) (beginning : Terminal → Beginning) (next ended : Place) (token : PlainToken) (ps : PlainTrees)
    → beginning (terminal token) ≡ begins [] false next → PartsRead ks kind next ended ps
    → (frames : List (Frame PlainTree)) (rest : List PlainToken) → IsTrue (is_one_of ks (ahead rest))
    → entering beginning frames (token ∷ all_written ps rest) ≡ arriving (node kind (more (leaf token) ps)) ended frames rest
leaf_leads ks kind beginning next ended token ps e others frames rest follows =
    entering_node beginning next frames token (all_written ps rest) e
    ∙ others (leaf token ∷ []) frames rest follows
    ∙ ap (λ qs. arriving (node kind (more (leaf token) qs)) ended frames rest) (trees_listed ps)

-- ---- brackets

named_brackets_alike : (first second : List Slot) → EndAlike (in_brackets true first) (in_brackets true second)
named_brackets_alike first second (operand wanted) = refl
named_brackets_alike first second _ = refl

nameless_brackets_alike : (first second : List Slot) → EndAlike (in_brackets false first) (in_brackets false second)
nameless_brackets_alike first second (operand wanted) = refl
nameless_brackets_alike first second _ = refl

in_brackets_alike : (has_name : Bool) (first second : List Slot) → EndAlike (in_brackets has_name first) (in_brackets has_name second)
in_brackets_alike true = named_brackets_alike
in_brackets_alike false = nameless_brackets_alike

module _ (has_name : Bool) (frames : List (Frame PlainTree)) (rest : List PlainToken) where
  -- what stands in brackets, and the end of the declarator
  pub brackets_read :
      {ps : PlainTrees} → InRow (behind_first bracketed_size) ps → AllReadable ps → (parts : List PlainTree)
      → reading (frame (in_brackets has_name (behind_first bracketed_size)) parts ∷ frames) (all_written ps rest)
      ≡ arriving (node k.ArrayDeclarator (trees (parts ++ listed ps))) (in_brackets has_name []) frames rest
  brackets_read (absent_part (word_part {token = token} h row_ended)) all parts =
      row_read k.ArrayDeclarator (in_brackets has_name) (λ slots x. refl) (λ slots ended. refl) (in_brackets_alike has_name)
      (absent_part {category = expression 2} (word_part {terminals = t.CloseBracket ∷ []} h row_ended)) all parts frames rest
      (one_of (λ x. begins_part (expression 2) x ≡ no_beginning) (t.CloseBracket ∷ []) (terminal token) h (refl, tt), tt)
      ∙ finishing (in_brackets has_name []) (parts ++ absent ∷ leaf token ∷ []) frames rest k.ArrayDeclarator refl
  brackets_read (present_part {tree = tree} size (word_part {token = token} h row_ended)) all parts =
      row_read k.ArrayDeclarator (in_brackets has_name) (λ slots x. refl) (λ slots ended. refl) (in_brackets_alike has_name)
      (present_part {category = expression 2} size (word_part {terminals = t.CloseBracket ∷ []} h row_ended)) all parts frames rest
      (refl, refl, closed 2 tree (t.CloseBracket ∷ []) (terminal token) size (omega arith) (omega arith) h (refl, tt), tt)
      ∙ finishing (in_brackets has_name []) (parts ++ tree ∷ leaf token ∷ []) frames rest k.ArrayDeclarator refl

-- ---- names

module _ (ks : List Terminal) (kind : Kind) (role : Role) (ended : Place) (slots : List Slot)
    (behind : (qs : PlainTrees) → InRow slots qs → AllReadable qs → PartsRead ks kind (behind_name role) ended qs) where
  stars_read :
      {ps : PlainTrees} → Starred (word (t.Name ∷ []) ∷ slots) ps → AllReadable ps → PartsRead ks kind (before_name role true) ended ps
  stars_read (starred {token = token} {ps = ps} h others) all =
      leaf_read ks kind (before_name role true) (before_name role true) ended token ps
      (one_of (λ x. move (before_name role true) x ≡ shifts (before_name role true)) (t.Star ∷ []) (terminal token) h (refl, tt))
      (stars_read others all.1)
  stars_read (unstarred (word_part {token = token} {ps = ps} h r)) all =
      leaf_read ks kind (before_name role true) (behind_name role) ended token ps
      (one_of (λ x. move (before_name role true) x ≡ shifts (behind_name role)) (t.Name ∷ []) (terminal token) h (refl, tt))
      (behind ps r all.1)

  declarator_leads :
      {ps : PlainTrees} → Starred (word (t.Name ∷ []) ∷ slots) ps → AllReadable ps
      → (frames : List (Frame PlainTree)) (rest : List PlainToken) → IsTrue (is_one_of ks (ahead rest))
      → entering (begins_declarator role) frames (all_written ps rest) ≡ arriving (node kind ps) ended frames rest
  declarator_leads (starred {token = token} {ps = ps} h others) all frames rest follows =
      leaf_leads ks kind (begins_declarator role) (before_name role true) ended token ps
      (one_of (λ x. begins_declarator role x ≡ begins [] false (before_name role true)) (t.Star ∷ []) (terminal token) h (refl, tt))
      (stars_read others all.1) frames rest follows
  declarator_leads (unstarred (word_part {token = token} {ps = ps} h r)) all frames rest follows =
      leaf_leads ks kind (begins_declarator role) (behind_name role) ended token ps
      (one_of (λ x. begins_declarator role x ≡ begins [] false (behind_name role)) (t.Name ∷ []) (terminal token) h (refl, tt))
      (behind ps r all.1) frames rest follows

abbrev pub declarator_closers : List Terminal
declarator_closers = t.Comma ∷ t.Assign ∷ t.Semicolon ∷ t.OpenBrace ∷ []

name_ends :
    (role : Role) (x : Terminal) → IsTrue (is_one_of (t.Comma ∷ t.Assign ∷ t.Semicolon ∷ t.OpenBrace ∷ t.CloseParenthesis ∷ []) x)
    → behind_name_move role x ≡ finishes k.Declarator
name_ends file_first x h =
    one_of (λ x. behind_name_move file_first x ≡ finishes k.Declarator)
    (t.Comma ∷ t.Assign ∷ t.Semicolon ∷ t.OpenBrace ∷ t.CloseParenthesis ∷ []) x h (refl, (refl, (refl, (refl, (refl, tt)))))
name_ends role x h =
    one_of (λ x. behind_name_move role x ≡ finishes k.Declarator)
    (t.Comma ∷ t.Assign ∷ t.Semicolon ∷ t.OpenBrace ∷ t.CloseParenthesis ∷ []) x h (refl, (refl, (refl, (refl, (refl, tt)))))

-- a declarator of a name alone
pub plain_parts :
    (role : Role) (ks : List Terminal)
    → EachOf (λ x. IsTrue (is_one_of (t.Comma ∷ t.Assign ∷ t.Semicolon ∷ t.OpenBrace ∷ t.CloseParenthesis ∷ []) x)) ks
    → (qs : PlainTrees) → InRow [] qs → AllReadable qs → PartsRead ks k.Declarator (behind_name role) (behind_name role) qs
plain_parts role ks each qs row_ended all parts frames rest follows =
    finishing (behind_name role) parts frames rest k.Declarator
    (name_ends role (ahead rest)
    (one_of (λ x. IsTrue (is_one_of (t.Comma ∷ t.Assign ∷ t.Semicolon ∷ t.OpenBrace ∷ t.CloseParenthesis ∷ []) x)) ks (ahead rest)
    follows each))
    ∙ ap (λ ps. arriving (node k.Declarator (trees ps)) (behind_name role) frames rest) (sym (append-nil parts))

abbrev pub takes_brackets : Role → Bool
takes_brackets file_inline = false
takes_brackets role = true

brackets_open :
    (role : Role) (x : Terminal) → IsTrue (takes_brackets role) → IsTrue (is_one_of (t.OpenBracket ∷ []) x)
    → behind_name_move role x ≡ shifts (in_brackets true (behind_first bracketed_size))
brackets_open file_inline x may h = absurd (false≢true may)
brackets_open role x may h =
    one_of (λ x. behind_name_move role x ≡ shifts (in_brackets true (behind_first bracketed_size))) (t.OpenBracket ∷ []) x h (refl, tt)

-- one with brackets
pub array_parts :
    (role : Role) (ks : List Terminal) → IsTrue (takes_brackets role) → (qs : PlainTrees) → InRow bracketed_size qs → AllReadable qs
    → PartsRead ks k.ArrayDeclarator (behind_name role) (in_brackets true []) qs
array_parts role ks may qs (word_part {token = token} {ps = ps} h r) all =
    leaf_read ks k.ArrayDeclarator (behind_name role) (in_brackets true (behind_first bracketed_size)) (in_brackets true []) token ps
    (brackets_open role (terminal token) may h)
    (λ parts frames rest follows. brackets_read true frames rest r all.1 parts)

-- ---- functions

record FunctionRead (role : Role) (place : Place) (ps : PlainTrees) : Type 0 where
  flavour : Flavour
  reads : PartsRead declarator_closers k.FunctionDeclarator place (behind_parameters flavour) ps
  declarable_so : IsTrue (not (has_absent ps)) → IsTrue (may_be_declared_so false flavour)
  definable_so : IsTrue (may_be_defined ps) → IsTrue (may_be_defined_so flavour)

function_leaf :
    (role : Role) (place next : Place) (token : PlainToken) (ps : PlainTrees) → move place (terminal token) ≡ shifts next
    → FunctionRead role next ps → FunctionRead role place (more (leaf token) ps)
function_leaf role place next token ps e r = record {
  flavour = r.flavour;
  reads = leaf_read declarator_closers k.FunctionDeclarator place next (behind_parameters r.flavour) token ps e r.reads;
  declarable_so = r.declarable_so;
  definable_so = r.definable_so;
}

-- what a place asks of the parts of a function's declarator
abbrev suits_parts : Role → PlainTrees → Bool
suits_parts file_inline ps = may_be_defined ps
suits_parts file_later ps = not (has_absent ps)
suits_parts role ps = true

suits_leaf :
    (role : Role) (token : PlainToken) (ps : PlainTrees) → IsTrue (suits_parts role (more (leaf token) ps)) → IsTrue (suits_parts role ps)
suits_leaf file_inline token ps h = h
suits_leaf role token ps h = h

no_parameters :
    (role : Role) (x : Terminal) → IsTrue (at_file_scope role) → is_later role ≡ false → IsTrue (is_one_of (t.CloseParenthesis ∷ []) x)
    → parameters_next_move role x ≡ skips (shifts (behind_parameters empty))
no_parameters role x at first h =
    one_of (λ x. parameters_next_move role x ≡ skips (shifts (behind_parameters empty))) (t.CloseParenthesis ∷ []) x h
    (ap (λ b. if b then fails else skips (shifts (behind_parameters empty))) first, tt)

not_later : (role : Role) (ps : PlainTrees) → IsTrue (suits_parts role (more absent ps)) → is_later role ≡ false
not_later file_later ps h = absurd (false≢true h)
not_later _ ps h = refl

parameters_begin :
    (role : Role) (x : Terminal) → IsTrue (is_one_of type_firsts x)
    → parameters_next_move role x ≡ or_fails (parameters_read role empty) (begins_parameters (is_inline_role role) x)
parameters_begin role x h =
    one_of (λ x. parameters_next_move role x ≡ or_fails (parameters_read role empty) (begins_parameters (is_inline_role role) x))
    type_firsts x h (refl, (refl, (refl, (refl, (refl, (refl, tt))))))

definable_parameters :
    (tree : PlainTree) (rest : PlainTrees) → IsTrue (is_a parameters tree) → IsTrue (may_be_defined (more tree rest))
    → IsTrue (are_definable tree)
definable_parameters (leaf token) rest h defined = absurd (false≢true h)
definable_parameters (node k.Parameters ps) rest h defined =
    (and_parts (is_lone_void ps || all_named ps) (may_be_defined rest) defined).0
definable_parameters (node kind ps) rest h defined = absurd (false≢true (formed parameters kind ps h).belongs_there)

parameters_suit :
    (role : Role) (tree : PlainTree) (rest : PlainTrees) → IsTrue (is_a parameters tree) → IsTrue (at_file_scope role)
    → IsTrue (suits_parts role (more tree rest)) → IsTrue (not (is_inline_role role) || are_definable tree)
parameters_suit file_inline tree rest h at suit = definable_parameters tree rest h suit
parameters_suit file_first tree rest h at suit = refl
parameters_suit file_later tree rest h at suit = refl
parameters_suit _ tree rest h at suit = absurd (false≢true at)

neither : (a b c : Bool) → IsTrue (not a || b) → (IsTrue b → IsTrue c) → (a && not c) ≡ false
neither false b c h e = refl
neither true b c h e = ap not (e h)

parameters_close :
    (role : Role) (flavour : Flavour) (x : Terminal) → IsTrue (is_one_of (t.CloseParenthesis ∷ []) x)
    → (is_inline_role role && not (may_be_defined_so flavour)) ≡ false
    → parameters_read_move role flavour x ≡ shifts (behind_parameters flavour)
parameters_close role flavour x h e =
    one_of (λ x. parameters_read_move role flavour x ≡ shifts (behind_parameters flavour)) (t.CloseParenthesis ∷ []) x h
    (ap (λ b. if b then fails else shifts (behind_parameters flavour)) e, tt)

naming_declarable : (naming : Naming) → IsTrue (may_be_declared_so false (flavour_of naming))
naming_declarable lone_void = refl
naming_declarable named = refl
naming_declarable unnamed = refl

parameters_parts :
    (role : Role) (qs : PlainTrees) → InRow (optional parameters ∷ word (t.CloseParenthesis ∷ []) ∷ []) qs → AllReadable qs
    → IsTrue (at_file_scope role) → IsTrue (suits_parts role qs) → FunctionRead role (parameters_next role) qs
parameters_parts role qs (absent_part (word_part {token = token} h row_ended)) all at suit = record {
  flavour = empty;
  reads = λ parts frames rest follows.
      skipping (parameters_next role) parts frames (token ∷ rest) (shifts (behind_parameters empty))
      (no_parameters role (terminal token) at (not_later role (more (leaf token) none) suit) h)
      ∙ on (frame (behind_parameters empty) ((parts ++ absent ∷ []) ++ leaf token ∷ []) ∷ frames) rest
      ∙ finishing (behind_parameters empty) ((parts ++ absent ∷ []) ++ leaf token ∷ []) frames rest k.FunctionDeclarator refl
      ∙ ap (λ ps. arriving (node k.FunctionDeclarator (trees ps)) (behind_parameters empty) frames rest)
      (append_assoc parts (absent ∷ []) (leaf token ∷ []));
  declarable_so = λ h. absurd (false≢true h);
  definable_so = λ h. refl;
}
parameters_parts role qs (present_part {tree = tree} given (word_part {token = token} h row_ended)) all at suit =
    let suited : IsTrue (not (is_inline_role role) || are_definable tree) = parameters_suit role tree (more (leaf token) none) given at suit in
    let inner : ParametersRead (is_inline_role role) tree = all.0.parameters_reads (is_inline_role role) given suited in
    let flavour : Flavour = flavour_of inner.naming in
    record {
      flavour = flavour;
      reads = λ parts frames rest follows.
          needing (parameters_next role) parts frames (written tree (token ∷ rest)) (parameters_read role empty)
          (begins_parameters (is_inline_role role))
          (parameters_begin role (ahead (written tree (token ∷ rest))) (all.0.first parameters given (token ∷ rest)))
          ∙ inner.reads (frame (parameters_read role empty) parts ∷ frames) (token ∷ rest) h
          ∙ shifting (parameters_read role flavour) (parts ++ tree ∷ []) frames token rest (behind_parameters flavour)
          (parameters_close role flavour (terminal token) h
          (neither (is_inline_role role) (are_definable tree) (may_be_defined_so flavour) suited inner.definable_so))
          ∙ finishing (behind_parameters flavour) ((parts ++ tree ∷ []) ++ leaf token ∷ []) frames rest k.FunctionDeclarator refl
          ∙ ap (λ ps. arriving (node k.FunctionDeclarator (trees ps)) (behind_parameters flavour) frames rest)
          (append_assoc parts (tree ∷ []) (leaf token ∷ []));
      declarable_so = λ h. naming_declarable inner.naming;
      definable_so = λ defined. inner.definable_so (definable_parameters tree (more (leaf token) none) given defined);
    }

parenthesis_opens :
    (role : Role) (x : Terminal) → IsTrue (at_file_scope role) → IsTrue (is_one_of (t.OpenParenthesis ∷ []) x)
    → behind_name_move role x ≡ shifts (parameters_next role)
parenthesis_opens file_first x at h =
    one_of (λ x. behind_name_move file_first x ≡ shifts (parameters_next file_first)) (t.OpenParenthesis ∷ []) x h (refl, tt)
parenthesis_opens file_inline x at h =
    one_of (λ x. behind_name_move file_inline x ≡ shifts (parameters_next file_inline)) (t.OpenParenthesis ∷ []) x h (refl, tt)
parenthesis_opens file_later x at h =
    one_of (λ x. behind_name_move file_later x ≡ shifts (parameters_next file_later)) (t.OpenParenthesis ∷ []) x h (refl, tt)
parenthesis_opens _ x at h = absurd (false≢true at)

function_name :
    (role : Role) {ps : PlainTrees} → InRow function_row ps → AllReadable ps → IsTrue (at_file_scope role) → IsTrue (suits_parts role ps)
    → (place : Place) → ((x : Terminal) → IsTrue (is_one_of (t.Name ∷ []) x) → move place x ≡ shifts (behind_name role))
    → FunctionRead role place ps
function_name role (word_part {token = name} {ps = ps} n (word_part {token = token} {ps = qs} o r)) all at suit place shifts_name =
    function_leaf role place (behind_name role) name ps (shifts_name (terminal name) n)
    (function_leaf role (behind_name role) (parameters_next role) token qs (parenthesis_opens role (terminal token) at o)
    (parameters_parts role qs r (all.1).1 at (suits_leaf role token qs (suits_leaf role name ps suit))))

function_stars :
    (role : Role) {ps : PlainTrees} → Starred function_row ps → AllReadable ps → IsTrue (at_file_scope role) → IsTrue (suits_parts role ps)
    → FunctionRead role (before_name role true) ps
function_stars role (starred {token = token} {ps = ps} h others) all at suit =
    function_leaf role (before_name role true) (before_name role true) token ps
    (one_of (λ x. move (before_name role true) x ≡ shifts (before_name role true)) (t.Star ∷ []) (terminal token) h (refl, tt))
    (function_stars role others all.1 at (suits_leaf role token ps suit))
function_stars role (unstarred r) all at suit =
    function_name role r all at suit (before_name role true)
    (λ x h. one_of (λ x. move (before_name role true) x ≡ shifts (behind_name role)) (t.Name ∷ []) x h (refl, tt))

function_suits : (role : Role) (ps : PlainTrees) → IsTrue (suits role (node k.FunctionDeclarator ps)) → IsTrue (suits_parts role ps)
function_suits file_inline ps h = h
function_suits role ps h = h

function_begins :
    (role : Role) (place : Place) (token : PlainToken) (ps : PlainTrees) → begins_declarator role (terminal token) ≡ begins [] false place
    → FunctionRead role place ps → DeclaratorRead role (node k.FunctionDeclarator (more (leaf token) ps))
function_begins role place token ps e r = record {
  ended = behind_parameters r.flavour;
  reads = leaf_leads declarator_closers k.FunctionDeclarator (begins_declarator role) place (behind_parameters r.flavour) token ps e r.reads;
  declarable_so = r.declarable_so;
  definable_so = r.definable_so;
}

function_leads :
    (role : Role) {ps : PlainTrees} → Starred function_row ps → AllReadable ps → IsTrue (at_file_scope role) → IsTrue (suits_parts role ps)
    → DeclaratorRead role (node k.FunctionDeclarator ps)
function_leads role (starred {token = token} {ps = ps} h others) all at suit =
    function_begins role (before_name role true) token ps
    (one_of (λ x. begins_declarator role x ≡ begins [] false (before_name role true)) (t.Star ∷ []) (terminal token) h (refl, tt))
    (function_stars role others all.1 at (suits_leaf role token ps suit))
function_leads role (unstarred (word_part {token = name} {ps = ps} n (word_part {token = token} {ps = qs} o r))) all at suit =
    function_begins role (behind_name role) name ps
    (one_of (λ x. begins_declarator role x ≡ begins [] false (behind_name role)) (t.Name ∷ []) (terminal name) n (refl, tt))
    (function_leaf role (behind_name role) (parameters_next role) token qs (parenthesis_opens role (terminal token) at o)
    (parameters_parts role qs r (all.1).1 at (suits_leaf role token qs (suits_leaf role name ps suit))))

-- ---- all declarators

array_suits : (role : Role) (ps : PlainTrees) → IsTrue (suits role (node k.ArrayDeclarator ps)) → IsTrue (takes_brackets role)
array_suits file_inline ps h = absurd (false≢true h)
array_suits role ps h = refl

declarator_form_read :
    (asked role : Role) (tree : PlainTree) → DeclaratorForm asked tree → AllParts tree
    → (IsTrue (at_file_scope asked) → IsTrue (at_file_scope role)) → IsTrue (suits role tree) → DeclaratorRead role tree
declarator_form_read asked role (leaf token) form all at suit = elim form [ ]
declarator_form_read asked role (node kind ps) (plain_form s) all at suit = record {
  ended = behind_name role;
  reads = declarator_leads declarator_closers k.Declarator role (behind_name role) []
      (plain_parts role declarator_closers (refl, (refl, (refl, (refl, tt))))) s all;
  declarable_so = λ h. refl;
  definable_so = λ h. absurd (false≢true h);
}
declarator_form_read asked role (node kind ps) (array_form s) all at suit = record {
  ended = in_brackets true [];
  reads = declarator_leads declarator_closers k.ArrayDeclarator role (in_brackets true []) bracketed_size
      (array_parts role declarator_closers (array_suits role ps suit)) s all;
  declarable_so = λ h. refl;
  definable_so = λ h. absurd (false≢true h);
}
declarator_form_read asked role (node kind ps) (function_form h s) all at suit =
    function_leads role s all (at h) (function_suits role ps suit)

pub declarator_read_as :
    (asked role : Role) (tree : PlainTree) → AllParts tree → IsTrue (is_a (declarator asked) tree)
    → (IsTrue (at_file_scope asked) → IsTrue (at_file_scope role)) → IsTrue (suits role tree) → DeclaratorRead role tree
declarator_read_as asked role tree all h at suit = declarator_form_read asked role tree (declarator_form asked tree h) all at suit
