-- Statements, blocks and what a `for` begins with are read as themselves.
use Rattle.std.proofs.Common.{◌≡◌, true, false, not, ◌||◌, List, [], ◌∷◌, ◌++◌, refl, ap, sym, ◌∙◌, arith}
use Rattle.std.specs.Prelude.{IsTrue}
use Rattle.std.proofs.lemmas.Bool.{false≢true, and_right, and_left, not-true}
use Rattle.c_text.specs.Token.{PlainToken}
use Rattle.c_tree.specs.declared.kinds.Kind.{Kind}
use Rattle.c_tree.specs.declared.kinds.Kind.TheVariants as k
use Rattle.c_tree.specs.declared.terminals.Terminal.{Terminal}
use Rattle.c_tree.specs.declared.terminals.Terminal.TheVariants as t
use Rattle.c_tree.specs.Terminals.{terminal, same, is_one_of}
use Rattle.c_tree.specs.Trees.{PlainTree, PlainTrees, leaf, node, none, more, absent, written}
use Rattle.c_tree.specs.Grammar.{Role, agree, is_statement, are_in_row, expression, specifiers, declarators, local, member_of, statement, else_part, block, items, item, for_start, member, word, needed, optional, row, is_a, is_absent, takes_else, nearest_if}
use Rattle.c_tree.specs.Places.{Place, inside, Beginning, no_beginning, begins, around, begins_part, begins_row, begins_statement, begins_item, begins_member, begins_for}
use Rattle.c_tree.specs.Machine.{Frame, frame}
use Rattle.c_tree.proofs.TerminalCases.{EachOf, one_of}
use Rattle.c_tree.proofs.Coming.{ahead, reading, entering}
use Rattle.c_tree.proofs.Readable.{expression_firsts, type_firsts, MayFollow, MayFollowStatement, is_steady, Joins, AllReadable}
use Rattle.c_tree.proofs.RowsRead.{InRow, row_ended, word_part, needed_part, absent_part, present_part, fixed_row}
use Rattle.c_tree.proofs.ExpressionsRead.{Formed, formed, closed, AllParts}
use Rattle.c_tree.proofs.LeadsRead.{Steady, row_leads, skipped_row_leads, part_leads}

-- ---- what may follow

pub not_else :
    (tree : PlainTree) (ks : List Terminal) (x : Terminal) → IsTrue (is_one_of ks x) → EachOf (λ x. same t.Else x ≡ false) ks
    → MayFollowStatement tree x
not_else tree ks x h each =
    ap not (and_right (takes_else tree) (same t.Else x) (one_of (λ x. same t.Else x ≡ false) ks x h each))

is_no_else : (tree : PlainTree) (x : Terminal) → same t.Else x ≡ false → MayFollowStatement tree x
is_no_else tree x e = ap not (and_right (takes_else tree) (same t.Else x) e)

takes_none : (tree : PlainTree) (x : Terminal) → takes_else tree ≡ false → MayFollowStatement tree x
takes_none tree x e = ap not (and_left (takes_else tree) (same t.Else x) e)

no_else_begins : (x : Terminal) → same t.Else x ≡ false → begins_part else_part x ≡ no_beginning
no_else_begins t.Else e = cc
no_else_begins _ e = refl

semicolon_closes :
    (tree : PlainTree) (x : Terminal) → IsTrue (is_a (expression 1) tree) → IsTrue (is_one_of (t.Semicolon ∷ []) x)
    → MayFollow (expression 1) tree x
semicolon_closes tree x h one = closed 1 tree (t.Semicolon ∷ []) x h (omega arith) (omega arith) one (refl, tt)

parenthesis_closes :
    (tree : PlainTree) (x : Terminal) → IsTrue (is_a (expression 1) tree) → IsTrue (is_one_of (t.CloseParenthesis ∷ []) x)
    → MayFollow (expression 1) tree x
parenthesis_closes tree x h one = closed 1 tree (t.CloseParenthesis ∷ []) x h (omega arith) (omega arith) one (refl, tt)

no_expression :
    (ks : List Terminal) (x : Terminal) → IsTrue (is_one_of ks x) → EachOf (λ x. begins_part (expression 1) x ≡ no_beginning) ks
    → begins_part (expression 1) x ≡ no_beginning
no_expression ks x h each = one_of (λ x. begins_part (expression 1) x ≡ no_beginning) ks x h each

else_is_there : (other : PlainTree) → IsTrue (is_a else_part other) → is_absent other ≡ false
else_is_there (leaf token) h = refl
else_is_there (node k.Else ps) h = refl
else_is_there (node kind ps) h = absurd (false≢true (formed else_part kind ps h).belongs_there)

-- ---- statements that begin with a word

-- a statement of a kind, wherever its first word begins it
abbrev pub Leads : Kind → Terminal → (Terminal → Beginning) → Type 0
Leads kind first beginning = beginning first ≡ begins_row kind

module _ (beginning : Terminal → Beginning) (place : Place) (parts : List PlainTree) (frames : List (Frame PlainTree))
    (rest : List PlainToken) (steady : Steady place) where
  abbrev pub Read : PlainTree → Type 0
  Read tree = entering beginning (frame place parts ∷ frames) (written tree rest) ≡ reading (frame place (parts ++ tree ∷ []) ∷ frames) rest

  pub block_read :
      (ps : PlainTrees) → Leads k.Block t.OpenBrace beginning → InRow (row k.Block) ps → AllReadable ps → Read (node k.Block ps)
  block_read ps leads (word_part {token = token} o (absent_part (word_part {token = last} c row_ended))) all =
      row_leads k.Block beginning token (optional items ∷ word (t.CloseBrace ∷ []) ∷ []) (more absent (more (leaf last) none))
      place parts frames rest steady
      (one_of (λ x. beginning x ≡ begins_row k.Block) (t.OpenBrace ∷ []) (terminal token) o (leads, tt))
      (absent_part (word_part c row_ended)) all.1
      (one_of (λ x. begins_part items x ≡ no_beginning) (t.CloseBrace ∷ []) (terminal last) c (refl, tt), tt)
  block_read ps leads (word_part {token = token} o (present_part {tree = inner} b (word_part {token = last} c row_ended))) all =
      row_leads k.Block beginning token (optional items ∷ word (t.CloseBrace ∷ []) ∷ []) (more inner (more (leaf last) none))
      place parts frames rest steady
      (one_of (λ x. beginning x ≡ begins_row k.Block) (t.OpenBrace ∷ []) (terminal token) o (leads, tt))
      (present_part b (word_part c row_ended)) all.1 (refl, refl, c, tt)

  while_read :
      (ps : PlainTrees) → Leads k.While t.While beginning → InRow (row k.While) ps → AllReadable ps
      → MayFollowStatement (node k.While ps) (ahead rest) → Read (node k.While ps)
  while_read ps leads
      (word_part {token = token} o (word_part {token = opening} c (needed_part {tree = condition} d
      (word_part {token = closing} e (needed_part {tree = body} f row_ended))))) all follows =
      row_leads k.While beginning token
      (word (t.OpenParenthesis ∷ []) ∷ needed (expression 1) ∷ word (t.CloseParenthesis ∷ []) ∷ needed statement ∷ [])
      (more (leaf opening) (more condition (more (leaf closing) (more body none))))
      place parts frames rest steady
      (one_of (λ x. beginning x ≡ begins_row k.While) (t.While ∷ []) (terminal token) o (leads, tt))
      (word_part c (needed_part d (word_part e (needed_part f row_ended)))) all.1
      (refl, parenthesis_closes condition (terminal closing) d e, (refl, follows, tt))

  else_read :
      (ps : PlainTrees) → Leads k.Else t.Else beginning → InRow (row k.Else) ps → AllReadable ps
      → MayFollowStatement (node k.Else ps) (ahead rest) → Read (node k.Else ps)
  else_read ps leads (word_part {token = token} o (needed_part {tree = body} f row_ended)) all follows =
      row_leads k.Else beginning token (needed statement ∷ []) (more body none) place parts frames rest steady
      (one_of (λ x. beginning x ≡ begins_row k.Else) (t.Else ∷ []) (terminal token) o (leads, tt))
      (needed_part f row_ended) all.1 (refl, follows, tt)

  do_read : (ps : PlainTrees) → Leads k.Do t.Do beginning → InRow (row k.Do) ps → AllReadable ps → Read (node k.Do ps)
  do_read ps leads
      (word_part {token = token} o (needed_part {tree = body} f (word_part {token = while} w (word_part {token = opening} c
      (needed_part {tree = condition} d (word_part {token = closing} e (word_part {token = last} g row_ended))))))) all =
      row_leads k.Do beginning token
      (needed statement ∷ word (t.While ∷ []) ∷ word (t.OpenParenthesis ∷ []) ∷ needed (expression 1)
      ∷ word (t.CloseParenthesis ∷ []) ∷ word (t.Semicolon ∷ []) ∷ [])
      (more body (more (leaf while) (more (leaf opening) (more condition (more (leaf closing) (more (leaf last) none))))))
      place parts frames rest steady
      (one_of (λ x. beginning x ≡ begins_row k.Do) (t.Do ∷ []) (terminal token) o (leads, tt))
      (needed_part f (word_part w (word_part c (needed_part d (word_part e (word_part g row_ended)))))) all.1 (
        refl,
        not_else body (t.While ∷ []) (terminal while) w (refl, tt),
        (refl, parenthesis_closes condition (terminal closing) d e, tt),
      )

  jump_read : (ps : PlainTrees) → Leads k.Jump t.Jump beginning → InRow (row k.Jump) ps → AllReadable ps → Read (node k.Jump ps)
  jump_read ps leads (word_part {token = token} o (word_part {token = last} c row_ended)) all =
      row_leads k.Jump beginning token (word (t.Semicolon ∷ []) ∷ []) (more (leaf last) none) place parts frames rest steady
      (one_of (λ x. beginning x ≡ begins_row k.Jump) (t.Jump ∷ []) (terminal token) o (leads, tt))
      (word_part c row_ended) all.1 tt

  return_read :
      (ps : PlainTrees) → Leads k.Return t.Return beginning → InRow (row k.Return) ps → AllReadable ps → Read (node k.Return ps)
  return_read ps leads (word_part {token = token} o (absent_part (word_part {token = last} c row_ended))) all =
      row_leads k.Return beginning token (optional (expression 1) ∷ word (t.Semicolon ∷ []) ∷ []) (more absent (more (leaf last) none))
      place parts frames rest steady
      (one_of (λ x. beginning x ≡ begins_row k.Return) (t.Return ∷ []) (terminal token) o (leads, tt))
      (absent_part (word_part c row_ended)) all.1
      (no_expression (t.Semicolon ∷ []) (terminal last) c (refl, tt), tt)
  return_read ps leads (word_part {token = token} o (present_part {tree = inner} b (word_part {token = last} c row_ended))) all =
      row_leads k.Return beginning token (optional (expression 1) ∷ word (t.Semicolon ∷ []) ∷ []) (more inner (more (leaf last) none))
      place parts frames rest steady
      (one_of (λ x. beginning x ≡ begins_row k.Return) (t.Return ∷ []) (terminal token) o (leads, tt))
      (present_part b (word_part c row_ended)) all.1
      (refl, refl, semicolon_closes inner (terminal last) b c, tt)

  -- the parts of a `for` behind its start
  for_read :
      (ps : PlainTrees) → Leads k.For t.For beginning → InRow (row k.For) ps → AllReadable ps
      → MayFollowStatement (node k.For ps) (ahead rest) → Read (node k.For ps)
  for_read ps leads
      (word_part {token = token} o (word_part {token = opening} c (needed_part {tree = start} d (absent_part
      (word_part {token = middle} e (absent_part (word_part {token = closing} f (needed_part {tree = body} g row_ended)))))))) all follows =
      row_leads k.For beginning token
      (word (t.OpenParenthesis ∷ []) ∷ needed for_start ∷ optional (expression 1) ∷ word (t.Semicolon ∷ []) ∷ optional (expression 1)
      ∷ word (t.CloseParenthesis ∷ []) ∷ needed statement ∷ [])
      (more (leaf opening) (more start (more absent (more (leaf middle) (more absent (more (leaf closing) (more body none)))))))
      place parts frames rest steady
      (one_of (λ x. beginning x ≡ begins_row k.For) (t.For ∷ []) (terminal token) o (leads, tt))
      (word_part c (needed_part d (absent_part (word_part e (absent_part (word_part f (needed_part g row_ended))))))) all.1 (
        refl,
        tt,
        (
          no_expression (t.Semicolon ∷ []) (terminal middle) e (refl, tt),
          (no_expression (t.CloseParenthesis ∷ []) (terminal closing) f (refl, tt), (refl, follows, tt)),
        ),
      )
  for_read ps leads
      (word_part {token = token} o (word_part {token = opening} c (needed_part {tree = start} d (absent_part
      (word_part {token = middle} e (present_part {tree = step} s
      (word_part {token = closing} f (needed_part {tree = body} g row_ended)))))))) all follows =
      row_leads k.For beginning token
      (word (t.OpenParenthesis ∷ []) ∷ needed for_start ∷ optional (expression 1) ∷ word (t.Semicolon ∷ []) ∷ optional (expression 1)
      ∷ word (t.CloseParenthesis ∷ []) ∷ needed statement ∷ [])
      (more (leaf opening) (more start (more absent (more (leaf middle) (more step (more (leaf closing) (more body none)))))))
      place parts frames rest steady
      (one_of (λ x. beginning x ≡ begins_row k.For) (t.For ∷ []) (terminal token) o (leads, tt))
      (word_part c (needed_part d (absent_part (word_part e (present_part s (word_part f (needed_part g row_ended))))))) all.1 (
        refl,
        tt,
        (
          no_expression (t.Semicolon ∷ []) (terminal middle) e (refl, tt),
          (refl, refl, parenthesis_closes step (terminal closing) s f, (refl, follows, tt)),
        ),
      )
  for_read ps leads
      (word_part {token = token} o (word_part {token = opening} c (needed_part {tree = start} d (present_part {tree = test} s
      (word_part {token = middle} e (absent_part (word_part {token = closing} f (needed_part {tree = body} g row_ended)))))))) all follows =
      row_leads k.For beginning token
      (word (t.OpenParenthesis ∷ []) ∷ needed for_start ∷ optional (expression 1) ∷ word (t.Semicolon ∷ []) ∷ optional (expression 1)
      ∷ word (t.CloseParenthesis ∷ []) ∷ needed statement ∷ [])
      (more (leaf opening) (more start (more test (more (leaf middle) (more absent (more (leaf closing) (more body none)))))))
      place parts frames rest steady
      (one_of (λ x. beginning x ≡ begins_row k.For) (t.For ∷ []) (terminal token) o (leads, tt))
      (word_part c (needed_part d (present_part s (word_part e (absent_part (word_part f (needed_part g row_ended))))))) all.1 (
        refl,
        tt,
        (
          refl,
          refl,
          semicolon_closes test (terminal middle) s e,
          (no_expression (t.CloseParenthesis ∷ []) (terminal closing) f (refl, tt), (refl, follows, tt)),
        ),
      )
  for_read ps leads
      (word_part {token = token} o (word_part {token = opening} c (needed_part {tree = start} d (present_part {tree = test} s
      (word_part {token = middle} e (present_part {tree = step} u
      (word_part {token = closing} f (needed_part {tree = body} g row_ended)))))))) all follows =
      row_leads k.For beginning token
      (word (t.OpenParenthesis ∷ []) ∷ needed for_start ∷ optional (expression 1) ∷ word (t.Semicolon ∷ []) ∷ optional (expression 1)
      ∷ word (t.CloseParenthesis ∷ []) ∷ needed statement ∷ [])
      (more (leaf opening) (more start (more test (more (leaf middle) (more step (more (leaf closing) (more body none)))))))
      place parts frames rest steady
      (one_of (λ x. beginning x ≡ begins_row k.For) (t.For ∷ []) (terminal token) o (leads, tt))
      (word_part c (needed_part d (present_part s (word_part e (present_part u (word_part f (needed_part g row_ended))))))) all.1 (
        refl,
        tt,
        (
          refl,
          refl,
          semicolon_closes test (terminal middle) s e,
          (refl, refl, parenthesis_closes step (terminal closing) u f, (refl, follows, tt)),
        ),
      )

  if_read :
      (ps : PlainTrees) → Leads k.If t.If beginning → InRow (row k.If) ps → IsTrue (nearest_if ps) → AllReadable ps
      → MayFollowStatement (node k.If ps) (ahead rest) → Read (node k.If ps)
  if_read ps leads
      (word_part {token = token} o (word_part {token = opening} c (needed_part {tree = condition} d
      (word_part {token = closing} e (needed_part {tree = body} f (absent_part row_ended)))))) nearest all follows =
      let no_else : same t.Else (ahead rest) ≡ false = not-true (same t.Else (ahead rest)) follows in
      row_leads k.If beginning token
      (word (t.OpenParenthesis ∷ []) ∷ needed (expression 1) ∷ word (t.CloseParenthesis ∷ []) ∷ needed statement ∷ optional else_part ∷ [])
      (more (leaf opening) (more condition (more (leaf closing) (more body (more absent none)))))
      place parts frames rest steady
      (one_of (λ x. beginning x ≡ begins_row k.If) (t.If ∷ []) (terminal token) o (leads, tt))
      (word_part c (needed_part d (word_part e (needed_part f (absent_part row_ended))))) all.1 (
        refl,
        parenthesis_closes condition (terminal closing) d e,
        (refl, is_no_else body (ahead rest) no_else, (no_else_begins (ahead rest) no_else, tt)),
      )
  if_read ps leads
      (word_part {token = token} o (word_part {token = opening} c (needed_part {tree = condition} d
      (word_part {token = closing} e (needed_part {tree = body} f (present_part {tree = other} g row_ended)))))) nearest all follows =
      row_leads k.If beginning token
      (word (t.OpenParenthesis ∷ []) ∷ needed (expression 1) ∷ word (t.CloseParenthesis ∷ []) ∷ needed statement ∷ optional else_part ∷ [])
      (more (leaf opening) (more condition (more (leaf closing) (more body (more other none)))))
      place parts frames rest steady
      (one_of (λ x. beginning x ≡ begins_row k.If) (t.If ∷ []) (terminal token) o (leads, tt))
      (word_part c (needed_part d (word_part e (needed_part f (present_part g row_ended))))) all.1 (
        refl,
        parenthesis_closes condition (terminal closing) d e,
        (
          refl,
          takes_none body (ahead (written other rest))
              (not-true (takes_else body) (ap (λ b. b || not (takes_else body)) (sym (else_is_there other g)) ∙ nearest)),
          (refl, refl, follows, tt),
        ),
      )

  -- an expression that may be left out, and its `;`
  expression_ended :
      (kind : Kind) (ps : PlainTrees) → beginning t.Semicolon ≡ begins [] true (inside kind [])
      → EachOf (λ x. beginning x ≡ around (inside kind (word (t.Semicolon ∷ []) ∷ [])) (begins_part (expression 1) x)) expression_firsts
      → InRow (optional (expression 1) ∷ word (t.Semicolon ∷ []) ∷ []) ps → AllReadable ps → Read (node kind ps)
  expression_ended kind ps alone others (absent_part (word_part {token = last} c row_ended)) all =
      skipped_row_leads kind beginning last [] none place parts frames rest steady
      (one_of (λ x. beginning x ≡ begins [] true (inside kind [])) (t.Semicolon ∷ []) (terminal last) c (alone, tt))
      row_ended tt tt
  expression_ended kind ps alone others (present_part {tree = inner} b (word_part {token = last} c row_ended)) all =
      part_leads kind beginning (expression 1) (word (t.Semicolon ∷ []) ∷ []) inner (more (leaf last) none) place parts frames rest steady
      (one_of (λ x. beginning x ≡ around (inside kind (word (t.Semicolon ∷ []) ∷ [])) (begins_part (expression 1) x)) expression_firsts
      (ahead (written inner (last ∷ rest))) (all.0.first (expression 1) b (last ∷ rest)) others)
      (needed_part b (word_part c row_ended)) all.0 all.1
      (refl, semicolon_closes inner (terminal last) b c, tt)

  -- the words of a type, declarators and a `;`
  declaration_read :
      (kind : Kind) (role : Role) (ps : PlainTrees) → IsTrue (is_steady (declarators role))
      → EachOf
      (λ x. beginning x ≡ around (inside kind (needed (declarators role) ∷ word (t.Semicolon ∷ []) ∷ [])) (begins_part specifiers x))
      type_firsts
      → InRow (needed specifiers ∷ needed (declarators role) ∷ word (t.Semicolon ∷ []) ∷ []) ps → AllReadable ps → Read (node kind ps)
  declaration_read kind role ps is_role others
      (needed_part {tree = words} a (needed_part {tree = declared} b (word_part {token = last} c row_ended))) all =
      part_leads kind beginning specifiers (needed (declarators role) ∷ word (t.Semicolon ∷ []) ∷ []) words
      (more declared (more (leaf last) none)) place parts frames rest steady
      (one_of
      (λ x. beginning x ≡ around (inside kind (needed (declarators role) ∷ word (t.Semicolon ∷ []) ∷ [])) (begins_part specifiers x))
      type_firsts (ahead (written words (written declared (last ∷ rest))))
      (all.0.first specifiers a (written declared (last ∷ rest))) others)
      (needed_part a (needed_part b (word_part c row_ended))) all.0 all.1 (
        refl,
        one_of (λ x. MayFollow specifiers words x) (t.Star ∷ t.Name ∷ []) (ahead (written declared (last ∷ rest)))
            ((all.1).0.first (declarators role) b (last ∷ rest)) (refl, (refl, tt)),
        (is_role, c, tt),
      )

-- ---- statements

-- how statements begin in a place
record BeginsStatements (beginning : Terminal → Beginning) : Type 0 where
  block_begins : Leads k.Block t.OpenBrace beginning
  if_begins : Leads k.If t.If beginning
  while_begins : Leads k.While t.While beginning
  do_begins : Leads k.Do t.Do beginning
  for_begins : Leads k.For t.For beginning
  jump_begins : Leads k.Jump t.Jump beginning
  return_begins : Leads k.Return t.Return beginning
  alone_begins : beginning t.Semicolon ≡ begins [] true (inside k.ExpressionStatement [])
  expression_begins :
      EachOf
      (λ x. beginning x ≡ around (inside k.ExpressionStatement (word (t.Semicolon ∷ []) ∷ [])) (begins_part (expression 1) x))
      expression_firsts

module _ (beginning : Terminal → Beginning) (begin : BeginsStatements beginning) (place : Place) (parts : List PlainTree)
    (frames : List (Frame PlainTree)) (rest : List PlainToken) (steady : Steady place) where
  statement_read :
      (kind : Kind) (ps : PlainTrees) → IsTrue (is_statement kind) → IsTrue (agree kind ps) → IsTrue (are_in_row (row kind) ps)
      → AllReadable ps → MayFollowStatement (node kind ps) (ahead rest)
      → Read beginning place parts frames rest steady (node kind ps)
  statement_read k.Block ps h agreeing r all follows =
      block_read beginning place parts frames rest steady ps begin.block_begins (fixed_row (row k.Block) ps refl r) all
  statement_read k.ExpressionStatement ps h agreeing r all follows =
      expression_ended beginning place parts frames rest steady k.ExpressionStatement ps begin.alone_begins begin.expression_begins
      (fixed_row (row k.ExpressionStatement) ps refl r) all
  statement_read k.If ps h agreeing r all follows =
      if_read beginning place parts frames rest steady ps begin.if_begins (fixed_row (row k.If) ps refl r) agreeing all follows
  statement_read k.While ps h agreeing r all follows =
      while_read beginning place parts frames rest steady ps begin.while_begins (fixed_row (row k.While) ps refl r) all follows
  statement_read k.Do ps h agreeing r all follows =
      do_read beginning place parts frames rest steady ps begin.do_begins (fixed_row (row k.Do) ps refl r) all
  statement_read k.For ps h agreeing r all follows =
      for_read beginning place parts frames rest steady ps begin.for_begins (fixed_row (row k.For) ps refl r) all follows
  statement_read k.Jump ps h agreeing r all follows =
      jump_read beginning place parts frames rest steady ps begin.jump_begins (fixed_row (row k.Jump) ps refl r) all
  statement_read k.Return ps h agreeing r all follows =
      return_read beginning place parts frames rest steady ps begin.return_begins (fixed_row (row k.Return) ps refl r) all
  statement_read _ ps h agreeing r all follows = absurd (false≢true h)

statements_begin : BeginsStatements begins_statement
statements_begin = record {
  block_begins = refl;
  if_begins = refl;
  while_begins = refl;
  do_begins = refl;
  for_begins = refl;
  jump_begins = refl;
  return_begins = refl;
  alone_begins = refl;
  expression_begins = (refl, (refl, (refl, (refl, (refl, (refl, (refl, (refl, (refl, (refl, tt))))))))));
}

items_begin_statements : BeginsStatements begins_item
items_begin_statements = record {
  block_begins = refl;
  if_begins = refl;
  while_begins = refl;
  do_begins = refl;
  for_begins = refl;
  jump_begins = refl;
  return_begins = refl;
  alone_begins = refl;
  expression_begins = (refl, (refl, (refl, (refl, (refl, (refl, (refl, (refl, (refl, (refl, tt))))))))));
}

statement_node_joins :
    (kind : Kind) (ps : PlainTrees) → Formed statement kind ps → AllReadable ps → Joins statement (node kind ps)
statement_node_joins k.Block ps f all place parts frames rest steady follows =
    statement_read begins_statement statements_begin place parts frames rest steady k.Block ps refl f.agreeing f.shaped_so all follows
statement_node_joins k.ExpressionStatement ps f all place parts frames rest steady follows =
    statement_read begins_statement statements_begin place parts frames rest steady k.ExpressionStatement ps refl f.agreeing f.shaped_so
    all follows
statement_node_joins k.If ps f all place parts frames rest steady follows =
    statement_read begins_statement statements_begin place parts frames rest steady k.If ps refl f.agreeing f.shaped_so all follows
statement_node_joins k.While ps f all place parts frames rest steady follows =
    statement_read begins_statement statements_begin place parts frames rest steady k.While ps refl f.agreeing f.shaped_so all follows
statement_node_joins k.Do ps f all place parts frames rest steady follows =
    statement_read begins_statement statements_begin place parts frames rest steady k.Do ps refl f.agreeing f.shaped_so all follows
statement_node_joins k.For ps f all place parts frames rest steady follows =
    statement_read begins_statement statements_begin place parts frames rest steady k.For ps refl f.agreeing f.shaped_so all follows
statement_node_joins k.Jump ps f all place parts frames rest steady follows =
    statement_read begins_statement statements_begin place parts frames rest steady k.Jump ps refl f.agreeing f.shaped_so all follows
statement_node_joins k.Return ps f all place parts frames rest steady follows =
    statement_read begins_statement statements_begin place parts frames rest steady k.Return ps refl f.agreeing f.shaped_so all follows
statement_node_joins _ ps f all place parts frames rest steady follows = absurd (false≢true f.belongs_there)

pub statement_joins : (tree : PlainTree) → AllParts tree → IsTrue (is_a statement tree) → Joins statement tree
statement_joins (leaf token) all h = absurd (false≢true h)
statement_joins (node kind ps) all h = statement_node_joins kind ps (formed statement kind ps h) all

item_node_joins :
    (kind : Kind) (ps : PlainTrees) → Formed item kind ps → AllReadable ps → Joins item (node kind ps)
item_node_joins k.LocalDeclaration ps f all place parts frames rest steady follows =
    declaration_read begins_item place parts frames rest steady k.LocalDeclaration local ps refl
    (refl, (refl, (refl, (refl, (refl, (refl, tt)))))) (fixed_row (row k.LocalDeclaration) ps refl f.shaped_so) all
item_node_joins k.Block ps f all place parts frames rest steady follows =
    statement_read begins_item items_begin_statements place parts frames rest steady k.Block ps refl f.agreeing f.shaped_so all follows
item_node_joins k.ExpressionStatement ps f all place parts frames rest steady follows =
    statement_read begins_item items_begin_statements place parts frames rest steady k.ExpressionStatement ps refl f.agreeing f.shaped_so
    all follows
item_node_joins k.If ps f all place parts frames rest steady follows =
    statement_read begins_item items_begin_statements place parts frames rest steady k.If ps refl f.agreeing f.shaped_so all follows
item_node_joins k.While ps f all place parts frames rest steady follows =
    statement_read begins_item items_begin_statements place parts frames rest steady k.While ps refl f.agreeing f.shaped_so all follows
item_node_joins k.Do ps f all place parts frames rest steady follows =
    statement_read begins_item items_begin_statements place parts frames rest steady k.Do ps refl f.agreeing f.shaped_so all follows
item_node_joins k.For ps f all place parts frames rest steady follows =
    statement_read begins_item items_begin_statements place parts frames rest steady k.For ps refl f.agreeing f.shaped_so all follows
item_node_joins k.Jump ps f all place parts frames rest steady follows =
    statement_read begins_item items_begin_statements place parts frames rest steady k.Jump ps refl f.agreeing f.shaped_so all follows
item_node_joins k.Return ps f all place parts frames rest steady follows =
    statement_read begins_item items_begin_statements place parts frames rest steady k.Return ps refl f.agreeing f.shaped_so all follows
item_node_joins _ ps f all place parts frames rest steady follows = absurd (false≢true f.belongs_there)

pub item_joins : (tree : PlainTree) → AllParts tree → IsTrue (is_a item tree) → Joins item tree
item_joins (leaf token) all h = absurd (false≢true h)
item_joins (node kind ps) all h = item_node_joins kind ps (formed item kind ps h) all

block_node_joins : (kind : Kind) (ps : PlainTrees) → Formed block kind ps → AllReadable ps → Joins block (node kind ps)
block_node_joins k.Block ps f all place parts frames rest steady follows =
    block_read (begins_part block) place parts frames rest steady ps refl (fixed_row (row k.Block) ps refl f.shaped_so) all
block_node_joins _ ps f all place parts frames rest steady follows = absurd (false≢true f.belongs_there)

pub block_joins : (tree : PlainTree) → AllParts tree → IsTrue (is_a block tree) → Joins block tree
block_joins (leaf token) all h = absurd (false≢true h)
block_joins (node kind ps) all h = block_node_joins kind ps (formed block kind ps h) all

else_node_joins : (kind : Kind) (ps : PlainTrees) → Formed else_part kind ps → AllReadable ps → Joins else_part (node kind ps)
else_node_joins k.Else ps f all place parts frames rest steady follows =
    else_read (begins_part else_part) place parts frames rest steady ps refl (fixed_row (row k.Else) ps refl f.shaped_so) all follows
else_node_joins _ ps f all place parts frames rest steady follows = absurd (false≢true f.belongs_there)

pub else_joins : (tree : PlainTree) → AllParts tree → IsTrue (is_a else_part tree) → Joins else_part tree
else_joins (leaf token) all h = absurd (false≢true h)
else_joins (node kind ps) all h = else_node_joins kind ps (formed else_part kind ps h) all

for_start_node_joins : (kind : Kind) (ps : PlainTrees) → Formed for_start kind ps → AllReadable ps → Joins for_start (node kind ps)
for_start_node_joins k.LocalDeclaration ps f all place parts frames rest steady follows =
    declaration_read begins_for place parts frames rest steady k.LocalDeclaration local ps refl
    (refl, (refl, (refl, (refl, (refl, (refl, tt)))))) (fixed_row (row k.LocalDeclaration) ps refl f.shaped_so) all
for_start_node_joins k.ForStart ps f all place parts frames rest steady follows =
    expression_ended begins_for place parts frames rest steady k.ForStart ps refl
    (refl, (refl, (refl, (refl, (refl, (refl, (refl, (refl, (refl, (refl, tt))))))))))
    (fixed_row (row k.ForStart) ps refl f.shaped_so) all
for_start_node_joins _ ps f all place parts frames rest steady follows = absurd (false≢true f.belongs_there)

pub for_start_joins : (tree : PlainTree) → AllParts tree → IsTrue (is_a for_start tree) → Joins for_start tree
for_start_joins (leaf token) all h = absurd (false≢true h)
for_start_joins (node kind ps) all h = for_start_node_joins kind ps (formed for_start kind ps h) all

member_node_joins : (kind : Kind) (ps : PlainTrees) → Formed member kind ps → AllReadable ps → Joins member (node kind ps)
member_node_joins k.Member ps f all place parts frames rest steady follows =
    declaration_read begins_member place parts frames rest steady k.Member member_of ps refl
    (refl, (refl, (refl, (refl, (refl, (refl, tt)))))) (fixed_row (row k.Member) ps refl f.shaped_so) all
member_node_joins _ ps f all place parts frames rest steady follows = absurd (false≢true f.belongs_there)

pub member_joins : (tree : PlainTree) → AllParts tree → IsTrue (is_a member tree) → Joins member tree
member_joins (leaf token) all h = absurd (false≢true h)
member_joins (node kind ps) all h = member_node_joins kind ps (formed member kind ps h) all
