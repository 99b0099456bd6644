-- Declarations in blocks, and statements, that differ only in names: they declare locals, name structs and use identifiers at the same places.
use Rattle.std.proofs.Common.{false, List, [], ◌∷◌, ◌++◌, map, length}
use Rattle.std.specs.Prelude.{Option, Some, None, not}
use Rattle.c_text.specs.Token.{PlainToken}
use Rattle.c_types.specs.Types.{PlainType}
use Rattle.c_tree.specs.declared.kinds.Kind.{Kind}
use Rattle.c_tree.specs.declared.kinds.Kind.TheVariants as k
use Rattle.c_tree.specs.declared.terminals.Terminal.TheVariants as t
use Rattle.c_tree.specs.Trees.{PlainTree, PlainTrees, none, more}
use Rattle.c_tree.specs.Grammar.{is_word}
use Rattle.core_meaning.specs.declared.refusals.TypeKind.TheVariants.{Redeclared, Misplaced}
use Rattle.core_meaning.specs.Program.{PlainExpression, statement_item}
use Rattle.core_meaning.specs.Checking.{local_entity, Checked, ◌>>=◌, give}
use Rattle.core_meaning.specs.Entities.{Scope}
use Rattle.core_meaning.specs.Typing.{fits_into}
use Rattle.core_meaning.specs.Expressions.{has_terminal, valued, judged_condition, is_void}
use Rattle.core_meaning.specs.Declarations.{name_in, based, object_type, with_local, is_new_local, plain_part, local_initial, judged_object, declared_local, one_local, with_items, locals_from, judged_locals}
use Rattle.core_meaning.specs.Statements.{Around, Judged, items_as, in_block, within_loop, nothing_to_do, discarded, condition_or_true, expression_statement, jump, returned, judged_statement, judged_else, judged_items}
use Rattle.renamed_programs.specs.Trees.{SameButNames, AllSameButNames, same_leaf, same_node, same_end, same_more}
use Rattle.entity_numbers.specs.Kinds.{Ties}
use Rattle.bound_slots.specs.Laws.{SizesBindNothing}
use Rattle.entity_kinds.proofs.Pairs.{Anything, Alike, alike_then, any_then, alike_give, left_broken, alike_if, quiet_then, unless_then, found_then, some_then, declares_then}
use Rattle.entity_kinds.proofs.Expressions.{valued_alike, judged_condition_alike}
use Rattle.entity_kinds.proofs.Declarators.{BothTrees, same_sign, NameStructs, words_alike, object_quiet, whole_object_quiet, local_values_alike}

-- ---- locals

module _ (counts : SizesBindNothing) where
  declared_alike :
      (ties : Ties) (s u : Scope) (slots places : List PlainType) (ty other : PlainType) (kind : Kind) (parts others : PlainTrees) (a b : PlainToken) (o p : Option PlainTree) → BothTrees o p
      → Alike ties Anything (declared_local s slots ty kind parts a o) (declared_local u places other kind others b p)
  declared_alike ties s u slots places ty other kind parts others a b o p h =
      unless_then Anything ties (is_new_local s a.text) (is_new_local u b.text) Redeclared Redeclared a b _ _
      (λ x y. declares_then Anything ties (local_entity (length slots)) (local_entity (length places))
      (λ bound. object_type s ty kind parts a o >>= (λ whole. judged_object s whole a >>= (λ judged_. local_initial (with_local s a.text (length slots) whole) whole a o >>= (λ given_. give (record {
        scope = with_local s a.text (length slots) whole;
        slots = slots ++ whole ∷ [];
        items = record { slot = length slots; parts = map plain_part given_ } ∷ [];
      })))))
      (λ bound. object_type u other kind others b p >>= (λ whole. judged_object u whole b >>= (λ judged_. local_initial (with_local u b.text (length places) whole) whole b p >>= (λ given_. give (record {
        scope = with_local u b.text (length places) whole;
        slots = places ++ whole ∷ [];
        items = record { slot = length places; parts = map plain_part given_ } ∷ [];
      }))))) tt
      (λ x1 y1. quiet_then Anything ties (object_type s ty kind parts a o) (object_type u other kind others b p) _ _ (object_quiet counts s ty kind parts a o) (object_quiet counts u other kind others b p)
      (λ v w. quiet_then Anything ties (judged_object s v a) (judged_object u w b) _ _ (whole_object_quiet counts s v a) (whole_object_quiet counts u w b)
      (λ x2 y2. any_then Anything ties (local_initial (with_local s a.text (length slots) v) v a o) (local_initial (with_local u b.text (length places) w) w b p) _ _
      (local_values_alike ties (with_local s a.text (length slots) v) (with_local u b.text (length places) w) v w a b o p h) (λ more_ grows i j. alike_give Anything more_ _ _ tt)))))

  one_alike :
      {tree other : PlainTree} (ties : Ties) (s u : Scope) (slots places : List PlainType) (ty kind : PlainType) (o p : Option PlainTree) → SameButNames tree other → BothTrees o p
      → Alike ties Anything (one_local s slots ty tree o) (one_local u places kind other p)
  one_alike ties s u slots places ty kind o p (same_node {kind = inner} {parts = parts} {others = others} e) h =
      some_then Anything ties (name_in parts) (name_in others) _ _ (λ a b. declared_alike ties s u slots places ty kind inner parts others a b o p h)
  one_alike ties s u slots places ty kind o p (same_leaf e) h = left_broken Anything ties _

  first_then :
      {tree other : PlainTree} (parts others : PlainTrees) (o p : Option PlainTree) → SameButNames tree other → BothTrees o p
      → ((ties : Ties) (s u : Scope) (slots places : List PlainType) (ty kind : PlainType) → Alike ties Anything (locals_from s slots ty parts) (locals_from u places kind others))
      → (ties : Ties) (s u : Scope) (slots places : List PlainType) (ty kind : PlainType)
      → Alike ties Anything (one_local s slots ty tree o >>= (λ first. locals_from first.scope first.slots ty parts >>= (λ rest. give (with_items first.items rest))))
      (one_local u places kind other p >>= (λ first. locals_from first.scope first.slots kind others >>= (λ rest. give (with_items first.items rest))))
  first_then {tree = tree} {other = other} parts others o p e h next ties s u slots places ty kind =
      any_then Anything ties (one_local s slots ty tree o) (one_local u places kind other p) _ _ (one_alike ties s u slots places ty kind o p e h)
      (λ more_ grows x y. any_then Anything more_ (locals_from x.scope x.slots ty parts) (locals_from y.scope y.slots kind others) _ _ (next more_ x.scope y.scope x.slots y.slots ty kind)
      (λ third grows' v w. alike_give Anything third _ _ tt))

  locals_alike :
      {parts others : PlainTrees} → AllSameButNames parts others → (ties : Ties) (s u : Scope) (slots places : List PlainType) (ty kind : PlainType)
      → Alike ties Anything (locals_from s slots ty parts) (locals_from u places kind others)
  locals_alike same_end ties s u slots places ty kind = left_broken Anything ties _
  locals_alike (same_more e same_end) ties s u slots places ty kind = one_alike ties s u slots places ty kind None None e tt
  locals_alike (same_more e (same_more x same_end)) ties s u slots places ty kind = left_broken Anything ties _
  locals_alike (same_more e (same_more {tree = sign} {other = mark} x (same_more {tree = next} {other = second} f same_end))) ties s u slots places ty kind =
      alike_if Anything ties (is_word (t.Assign ∷ []) sign) (is_word (t.Assign ∷ []) mark) _ _ _ _ (same_sign (t.Assign ∷ []) x)
      (one_alike ties s u slots places ty kind (Some next) (Some second) e f)
      (first_then (more next none) (more second none) None None e tt (locals_alike (same_more f same_end)) ties s u slots places ty kind)
  locals_alike (same_more e (same_more {tree = sign} {other = mark} x (same_more {tree = next} {other = second} f (same_more {tree = comma} {other = point} {rest = rest} {others = others} y l)))) ties s u slots places ty kind =
      alike_if Anything ties (is_word (t.Assign ∷ []) sign) (is_word (t.Assign ∷ []) mark) _ _ _ _ (same_sign (t.Assign ∷ []) x)
      (first_then rest others (Some next) (Some second) e f (locals_alike l) ties s u slots places ty kind)
      (first_then (more next (more comma rest)) (more second (more point others)) None None e tt (locals_alike (same_more f (same_more y l))) ties s u slots places ty kind)

  declarations_alike :
      {parts others : PlainTrees} (ties : Ties) (s u : Scope) (slots places : List PlainType) → AllSameButNames parts others → Alike ties Anything (judged_locals s slots parts) (judged_locals u places others)
  declarations_alike ties s u slots places (same_more (same_node {parts = words} {others = others} w) (same_more (same_node {parts = parts} e) (same_more x same_end))) =
      alike_then (NameStructs (has_terminal t.Struct words)) Anything ties (based false s words) (based false u others) _ _ (words_alike false s u ties words others w)
      (λ more_ grows x y v. locals_alike e more_ s u slots places x.ty y.ty)
  declarations_alike ties s u slots places same_end = left_broken Anything ties _
  declarations_alike ties s u slots places (same_more e l) = left_broken Anything ties _

-- ---- expressions that may be left out

module _ (s u : Scope) where
  discarded_alike : {tree other : PlainTree} (ties : Ties) (e f : PlainExpression) → SameButNames tree other → Alike ties Anything (discarded s tree e) (discarded u other f)
  discarded_alike ties x y (same_node {kind = k.Absent} e) = alike_give Anything ties x y tt
  discarded_alike {tree = tree} {other = other} ties x y e = any_then Anything ties (valued s tree) (valued u other) _ _ (valued_alike s u ties e) (λ more_ grows v w. alike_give Anything more_ _ _ tt)

  conditions_alike : {tree other : PlainTree} (ties : Ties) (a b : PlainToken) → SameButNames tree other → Alike ties Anything (condition_or_true s tree a) (condition_or_true u other b)
  conditions_alike ties a b (same_node {kind = k.Absent} e) = alike_give Anything ties _ _ tt
  conditions_alike ties a b e = judged_condition_alike s u ties a b e

  expression_statements_alike : {tree other : PlainTree} (ties : Ties) → SameButNames tree other → Alike ties Anything (expression_statement s tree) (expression_statement u other)
  expression_statements_alike ties (same_node {kind = k.Absent} e) = alike_give Anything ties _ _ tt
  expression_statements_alike {tree = tree} {other = other} ties e = any_then Anything ties (valued s tree) (valued u other) _ _ (valued_alike s u ties e) (λ more_ grows v w. alike_give Anything more_ _ _ tt)

-- ---- statements

jumps_alike : (ties : Ties) (a b : Around) (x y : PlainToken) → Alike ties Anything (jump a x) (jump b y)
jumps_alike ties a b x y = unless_then Anything ties a.in_loop b.in_loop Misplaced Misplaced x y _ _ (λ v w. alike_give Anything ties _ _ tt)

returns_alike : {tree other : PlainTree} (ties : Ties) (a b : Around) (x y : PlainToken) → SameButNames tree other → Alike ties Anything (returned a x tree) (returned b y other)
returns_alike ties a b x y (same_node {kind = k.Absent} e) = unless_then Anything ties (is_void a.result) (is_void b.result) Misplaced Misplaced x y _ _ (λ v w. alike_give Anything ties _ _ tt)
returns_alike {tree = tree} {other = other} ties a b x y e =
    unless_then Anything ties (not (is_void a.result)) (not (is_void b.result)) Misplaced Misplaced x y _ _
    (λ x1 y1. any_then Anything ties (valued a.scope tree) (valued b.scope other) _ _ (valued_alike a.scope b.scope ties e)
    (λ more_ grows v w. found_then Anything more_ (fits_into a.result v) (fits_into b.result w) Misplaced Misplaced x y _ _ (λ c d. alike_give Anything more_ _ _ tt)))

-- a statement, and the items behind it
item_then :
    (ties : Ties) (a b : Around) (c d : Checked Judged) (rest others : PlainTrees) → Alike ties Anything c d
    → ((more_ : Ties) (slots places : List PlainType) → Alike more_ Anything (judged_items a slots rest) (judged_items b places others))
    → Alike ties Anything (c >>= (λ first. judged_items a first.slots rest >>= (λ behind. give (items_as behind.slots (statement_item first.core behind.core)))))
    (d >>= (λ first. judged_items b first.slots others >>= (λ behind. give (items_as behind.slots (statement_item first.core behind.core)))))
item_then ties a b c d rest others h next =
    any_then Anything ties c d _ _ h (λ more_ grows p q. any_then Anything more_ (judged_items a p.slots rest) (judged_items b q.slots others) _ _ (next more_ p.slots q.slots) (λ third grows' v w. alike_give Anything third _ _ tt))

module _ (counts : SizesBindNothing) where
  mutual
    pub statements_alike :
        {tree other : PlainTree} (ties : Ties) (a b : Around) (slots places : List PlainType) → SameButNames tree other → Alike ties Anything (judged_statement a slots tree) (judged_statement b places other)
    statements_alike ties a b slots places (same_node {kind = k.Block} (same_more x (same_more (same_node {kind = k.Items} {parts = parts} {others = others} e) (same_more y same_end)))) =
        any_then Anything ties (judged_items (in_block a) slots parts) (judged_items (in_block b) places others) _ _ (items_alike ties (in_block a) (in_block b) slots places e) (λ more_ grows v w. alike_give Anything more_ _ _ tt)
    statements_alike ties a b slots places (same_node {kind = k.Block} (same_more x (same_more (same_node {kind = k.Absent} e) (same_more y same_end)))) = alike_give Anything ties _ _ tt
    statements_alike ties a b slots places (same_node {kind = k.ExpressionStatement} (same_more {tree = tree} {other = other} e (same_more x same_end))) =
        any_then Anything ties (expression_statement a.scope tree) (expression_statement b.scope other) _ _ (expression_statements_alike a.scope b.scope ties e) (λ more_ grows v w. alike_give Anything more_ _ _ tt)
    statements_alike ties a b slots places
        (same_node {kind = k.If} (same_more x (same_more y (same_more {tree = condition} {other = test} e (same_more (same_leaf {a = m} {b = n} z) (same_more {tree = first} {other = last} f (same_more {tree = second} {other = other} g same_end))))))) =
        any_then Anything ties (judged_condition a.scope condition m) (judged_condition b.scope test n) _ _ (judged_condition_alike a.scope b.scope ties m n e)
        (λ more_ grows c d. any_then Anything more_ (judged_statement a slots first) (judged_statement b places last) _ _ (statements_alike more_ a b slots places f)
        (λ third grows' v w. any_then Anything third (judged_else a v.slots second) (judged_else b w.slots other) _ _ (else_alike third a b v.slots w.slots g) (λ also grows'' i j. alike_give Anything also _ _ tt)))
    statements_alike ties a b slots places
        (same_node {kind = k.While} (same_more x (same_more y (same_more {tree = condition} {other = test} e (same_more (same_leaf {a = m} {b = n} z) (same_more {tree = body} {other = other} f same_end)))))) =
        any_then Anything ties (judged_condition a.scope condition m) (judged_condition b.scope test n) _ _ (judged_condition_alike a.scope b.scope ties m n e)
        (λ more_ grows c d. any_then Anything more_ (judged_statement (within_loop a) slots body) (judged_statement (within_loop b) places other) _ _ (statements_alike more_ (within_loop a) (within_loop b) slots places f)
        (λ third grows' v w. alike_give Anything third _ _ tt))
    statements_alike ties a b slots places
        (same_node {kind = k.Do} (same_more x (same_more {tree = body} {other = other} f (same_more y (same_more z (same_more {tree = condition} {other = test} e (same_more (same_leaf {a = m} {b = n} v) (same_more w same_end)))))))) =
        any_then Anything ties (judged_statement (within_loop a) slots body) (judged_statement (within_loop b) places other) _ _ (statements_alike ties (within_loop a) (within_loop b) slots places f)
        (λ more_ grows i j. any_then Anything more_ (judged_condition a.scope condition m) (judged_condition b.scope test n) _ _ (judged_condition_alike a.scope b.scope more_ m n e) (λ third grows' c d. alike_give Anything third _ _ tt))
    statements_alike ties a b slots places
        (same_node {kind = k.For} (same_more x (same_more y (same_more (same_node {kind = k.LocalDeclaration} {parts = parts} {others = others} l)
        (same_more {tree = condition} {other = test} e (same_more (same_leaf {a = m} {b = n} z) (same_more {tree = step} {other = turn} g (same_more v (same_more {tree = body} {other = other} f same_end))))))))) =
        any_then Anything ties (judged_locals (in_block a).scope slots parts) (judged_locals (in_block b).scope places others) _ _ (declarations_alike counts ties (in_block a).scope (in_block b).scope slots places l)
        (λ more_ grows p q. any_then Anything more_ (condition_or_true p.scope condition m) (condition_or_true q.scope test n) _ _ (conditions_alike p.scope q.scope more_ m n e)
        (λ third grows' c d. any_then Anything third (discarded p.scope step nothing_to_do) (discarded q.scope turn nothing_to_do) _ _ (discarded_alike p.scope q.scope third nothing_to_do nothing_to_do g)
        (λ also grows'' i j. any_then Anything also (judged_statement (within_loop (record a { scope = p.scope })) p.slots body) (judged_statement (within_loop (record b { scope = q.scope })) q.slots other) _ _
        (statements_alike also (within_loop (record a { scope = p.scope })) (within_loop (record b { scope = q.scope })) p.slots q.slots f) (λ last grows''' r t1. alike_give Anything last _ _ tt))))
    statements_alike ties a b slots places
        (same_node {kind = k.For} (same_more x (same_more y (same_more (same_node {kind = k.ForStart} (same_more {tree = first} {other = start} l (same_more w same_end)))
        (same_more {tree = condition} {other = test} e (same_more (same_leaf {a = m} {b = n} z) (same_more {tree = step} {other = turn} g (same_more v (same_more {tree = body} {other = other} f same_end))))))))) =
        any_then Anything ties (expression_statement a.scope first) (expression_statement b.scope start) _ _ (expression_statements_alike a.scope b.scope ties l)
        (λ more_ grows p q. any_then Anything more_ (condition_or_true a.scope condition m) (condition_or_true b.scope test n) _ _ (conditions_alike a.scope b.scope more_ m n e)
        (λ third grows' c d. any_then Anything third (discarded a.scope step nothing_to_do) (discarded b.scope turn nothing_to_do) _ _ (discarded_alike a.scope b.scope third nothing_to_do nothing_to_do g)
        (λ also grows'' i j. any_then Anything also (judged_statement (within_loop a) slots body) (judged_statement (within_loop b) places other) _ _
        (statements_alike also (within_loop a) (within_loop b) slots places f) (λ last grows''' r t1. alike_give Anything last _ _ tt))))
    statements_alike ties a b slots places (same_node {kind = k.Jump} (same_more (same_leaf {a = m} {b = n} x) (same_more y same_end))) =
        any_then Anything ties (jump a m) (jump b n) _ _ (jumps_alike ties a b m n) (λ more_ grows v w. alike_give Anything more_ _ _ tt)
    statements_alike ties a b slots places (same_node {kind = k.Return} (same_more (same_leaf {a = m} {b = n} x) (same_more {tree = tree} {other = other} e (same_more y same_end)))) =
        any_then Anything ties (returned a m tree) (returned b n other) _ _ (returns_alike ties a b m n e) (λ more_ grows v w. alike_give Anything more_ _ _ tt)
    statements_alike ties a b slots places (same_leaf e) = left_broken Anything ties _
    statements_alike ties a b slots places (same_node e) = left_broken Anything ties _

    else_alike : {tree other : PlainTree} (ties : Ties) (a b : Around) (slots places : List PlainType) → SameButNames tree other → Alike ties Anything (judged_else a slots tree) (judged_else b places other)
    else_alike ties a b slots places (same_node {kind = k.Else} (same_more x (same_more e same_end))) = statements_alike ties a b slots places e
    else_alike ties a b slots places (same_node {kind = k.Absent} e) = alike_give Anything ties _ _ tt
    else_alike ties a b slots places (same_leaf e) = left_broken Anything ties _
    else_alike ties a b slots places (same_node e) = left_broken Anything ties _

    pub items_alike : {parts others : PlainTrees} (ties : Ties) (a b : Around) (slots places : List PlainType) → AllSameButNames parts others → Alike ties Anything (judged_items a slots parts) (judged_items b places others)
    items_alike ties a b slots places same_end = alike_give Anything ties _ _ tt
    items_alike ties a b slots places (same_more {rest = rest} {others = others} (same_node {kind = k.LocalDeclaration} {parts = parts} {others = further} e) l) =
        any_then Anything ties (judged_locals a.scope slots parts) (judged_locals b.scope places further) _ _ (declarations_alike counts ties a.scope b.scope slots places e)
        (λ more_ grows p q. any_then Anything more_ (judged_items (record a { scope = p.scope }) p.slots rest) (judged_items (record b { scope = q.scope }) q.slots others) _ _
        (items_alike more_ (record a { scope = p.scope }) (record b { scope = q.scope }) p.slots q.slots l) (λ third grows' v w. alike_give Anything third _ _ tt))
    items_alike ties a b slots places (same_more {tree = tree} {other = other} {rest = rest} {others = others} e l) =
        item_then ties a b (judged_statement a slots tree) (judged_statement b places other) rest others (statements_alike ties a b slots places e) (λ more_ p q. items_alike more_ a b p q l)
