-- The terminal with which a part begins is one of its category's.
use Rattle.std.proofs.Common.{ℕ, Bool, true, false, ◌&&◌, List, [], ◌∷◌, ◌++◌, refl}
use Rattle.std.specs.Prelude.{IsTrue, nat_le}
use Rattle.std.proofs.lemmas.Bool.{and_parts, and_from, false≢true}
use Rattle.c_text.specs.Token.{PlainToken}
use Rattle.c_tree.specs.declared.kinds.Kind.{Kind}
use Rattle.c_tree.specs.declared.kinds.Kind.TheVariants as k
use Rattle.c_tree.specs.declared.terminals.Terminal.{Terminal}
use Rattle.c_tree.specs.declared.terminals.Terminal.TheVariants as t
use Rattle.c_tree.specs.Terminals.{terminal, is_one_of}
use Rattle.c_tree.specs.Trees.{PlainTree, PlainTrees, leaf, node, none, more, written, all_written}
use Rattle.c_tree.specs.Grammar.{Category, expression, arguments, cast_type, specifiers, file_specifiers, tag, declarators, declarator, abstract_declarator, parameters, parameter, initialiser, initialisers, statement, else_part, block, items, item, for_start, members, member, file_item, Role, Slot, level, word, needed, optional, row, bracketed_size, is_a, are_in_row, are_each, any_part, are_separated, are_separated_or_ended, may_follow_declarator, is_word, is_statement, are_texts}
use Rattle.c_tree.proofs.TerminalCases.{EachOf, one_of}
use Rattle.c_tree.proofs.Coming.{ahead}
use Rattle.c_tree.proofs.Readable.{firsts, expression_firsts, statement_firsts, type_firsts, AllReadable}
use Rattle.c_tree.proofs.RowsRead.{InRow, row_ended, word_part, needed_part, absent_part, present_part, fixed_row}
use Rattle.c_tree.proofs.ExpressionsRead.{Formed, formed, AllParts}
use Rattle.c_tree.proofs.WordsRead.{cast_first, specifiers_first, file_specifiers_first, tag_first}
use Rattle.c_tree.proofs.DeclaratorForms.{Starred, starred, unstarred, Perhaps, star_first, with_name, nameless, DeclaratorForm, plain_form, array_form, function_form, declarator_form, AbstractForm, abstract_plain, abstract_array, abstract_form}

-- the terminal ahead is one of these
abbrev pub Ahead : List Terminal → List PlainToken → Type 0
Ahead ks tokens = IsTrue (is_one_of ks (ahead tokens))

wider :
    (few many : List Terminal) (tokens : List PlainToken) → Ahead few tokens → EachOf (λ x. IsTrue (is_one_of many x)) few
    → Ahead many tokens
wider few many tokens h each = one_of (λ x. IsTrue (is_one_of many x)) few (ahead tokens) h each

needed_first :
    {category : Category} {slots : List Slot} {ps : PlainTrees} → InRow (needed category ∷ slots) ps → AllReadable ps
    → (rest : List PlainToken) → Ahead (firsts category) (all_written ps rest)
needed_first {category} (needed_part {ps = ps} h others) all rest = all.0.first category h (all_written ps rest)

word_first :
    {terminals : List Terminal} {slots : List Slot} {ps : PlainTrees} → InRow (word terminals ∷ slots) ps
    → (rest : List PlainToken) → Ahead terminals (all_written ps rest)
word_first (word_part h others) rest = h

from_word :
    (terminals many : List Terminal) {slots : List Slot} {ps : PlainTrees} → InRow (word terminals ∷ slots) ps
    → (rest : List PlainToken) → EachOf (λ x. IsTrue (is_one_of many x)) terminals → Ahead many (all_written ps rest)
from_word terminals many {ps = ps} r rest each = wider terminals many (all_written ps rest) (word_first r rest) each

-- ---- expressions

expression_node_first :
    (wanted : ℕ) (kind : Kind) (ps : PlainTrees) → Formed (expression wanted) kind ps → AllReadable ps → (rest : List PlainToken)
    → Ahead expression_firsts (all_written ps rest)
expression_node_first wanted k.Assignment ps f all rest = needed_first (fixed_row (row k.Assignment) ps refl f.shaped_so) all rest
expression_node_first wanted k.Conditional ps f all rest = needed_first (fixed_row (row k.Conditional) ps refl f.shaped_so) all rest
expression_node_first wanted k.LogicalOr ps f all rest = needed_first (fixed_row (row k.LogicalOr) ps refl f.shaped_so) all rest
expression_node_first wanted k.LogicalAnd ps f all rest = needed_first (fixed_row (row k.LogicalAnd) ps refl f.shaped_so) all rest
expression_node_first wanted k.Or ps f all rest = needed_first (fixed_row (row k.Or) ps refl f.shaped_so) all rest
expression_node_first wanted k.Xor ps f all rest = needed_first (fixed_row (row k.Xor) ps refl f.shaped_so) all rest
expression_node_first wanted k.And ps f all rest = needed_first (fixed_row (row k.And) ps refl f.shaped_so) all rest
expression_node_first wanted k.Equality ps f all rest = needed_first (fixed_row (row k.Equality) ps refl f.shaped_so) all rest
expression_node_first wanted k.Relation ps f all rest = needed_first (fixed_row (row k.Relation) ps refl f.shaped_so) all rest
expression_node_first wanted k.Shift ps f all rest = needed_first (fixed_row (row k.Shift) ps refl f.shaped_so) all rest
expression_node_first wanted k.Sum ps f all rest = needed_first (fixed_row (row k.Sum) ps refl f.shaped_so) all rest
expression_node_first wanted k.Product ps f all rest = needed_first (fixed_row (row k.Product) ps refl f.shaped_so) all rest
expression_node_first wanted k.Cast ps f all rest =
    from_word (t.OpenParenthesis ∷ []) expression_firsts (fixed_row (row k.Cast) ps refl f.shaped_so) rest (refl, tt)
expression_node_first wanted k.Prefix ps f all rest =
    from_word (t.Ampersand ∷ t.Star ∷ t.Sign ∷ t.Negation ∷ []) expression_firsts (fixed_row (row k.Prefix) ps refl f.shaped_so) rest
    (refl, (refl, (refl, (refl, tt))))
expression_node_first wanted k.PrefixStep ps f all rest =
    from_word (t.Step ∷ []) expression_firsts (fixed_row (row k.PrefixStep) ps refl f.shaped_so) rest (refl, tt)
expression_node_first wanted k.PostfixStep ps f all rest = needed_first (fixed_row (row k.PostfixStep) ps refl f.shaped_so) all rest
expression_node_first wanted k.Index ps f all rest = needed_first (fixed_row (row k.Index) ps refl f.shaped_so) all rest
expression_node_first wanted k.Call ps f all rest = needed_first (fixed_row (row k.Call) ps refl f.shaped_so) all rest
expression_node_first wanted k.Selection ps f all rest = needed_first (fixed_row (row k.Selection) ps refl f.shaped_so) all rest
expression_node_first wanted k.Parenthesized ps f all rest =
    from_word (t.OpenParenthesis ∷ []) expression_firsts (fixed_row (row k.Parenthesized) ps refl f.shaped_so) rest (refl, tt)
expression_node_first wanted k.Texts none f all rest = absurd (false≢true f.shaped_so)
expression_node_first wanted k.Texts (more (leaf token) ps) f all rest =
    let outer : _ × _ = and_parts (are_texts (more (leaf token) ps)) true f.shaped_so in
    let both : _ × _ = and_parts (is_one_of (t.Text ∷ []) (terminal token)) (are_texts ps) outer.0 in
    wider (t.Text ∷ []) expression_firsts (token ∷ all_written ps rest) both.0 (refl, tt)
expression_node_first wanted k.Texts (more (node kind inner) ps) f all rest = absurd (false≢true f.shaped_so)
expression_node_first wanted _ ps f all rest = absurd (false≢true f.belongs_there)

pub expression_first :
    (wanted : ℕ) (tree : PlainTree) → AllParts tree → IsTrue (is_a (expression wanted) tree) → (rest : List PlainToken)
    → Ahead expression_firsts (written tree rest)
expression_first wanted (leaf token) all h rest =
    wider (t.Name ∷ t.Number ∷ t.Character ∷ []) expression_firsts (token ∷ rest) h (refl, (refl, (refl, tt)))
expression_first wanted (node kind ps) all h rest = expression_node_first wanted kind ps (formed (expression wanted) kind ps h) all rest

abbrev pub not_braces : Kind → Bool
not_braces k.Braces = false
not_braces kind = true

-- an initialiser without braces is an expression
pub initialiser_expression :
    (kind : Kind) (ps : PlainTrees) → Formed initialiser kind ps → IsTrue (not_braces kind) → Formed (expression 1) kind ps
initialiser_expression k.Braces ps f no_braces = absurd (false≢true no_braces)
initialiser_expression kind ps f no_braces = record {
  belongs_there = and_from (nat_le 1 (level kind)) (nat_le 1 (level kind)) f.belongs_there f.belongs_there;
  agreeing = f.agreeing;
  shaped_so = f.shaped_so;
}

initialiser_node_first :
    (kind : Kind) (ps : PlainTrees) → Formed initialiser kind ps → AllReadable ps → (rest : List PlainToken)
    → Ahead (firsts initialiser) (all_written ps rest)
initialiser_node_first k.Braces ps f all rest =
    from_word (t.OpenBrace ∷ []) (firsts initialiser) (fixed_row (row k.Braces) ps refl f.shaped_so) rest (refl, tt)
initialiser_node_first kind ps f all rest =
    wider expression_firsts (firsts initialiser) (all_written ps rest)
    (expression_node_first 1 kind ps (initialiser_expression kind ps f refl) all rest)
    (refl, (refl, (refl, (refl, (refl, (refl, (refl, (refl, (refl, (refl, tt))))))))))

initialiser_first :
    (tree : PlainTree) → AllParts tree → IsTrue (is_a initialiser tree) → (rest : List PlainToken)
    → Ahead (firsts initialiser) (written tree rest)
initialiser_first (leaf token) all h rest =
    wider (t.Name ∷ t.Number ∷ t.Character ∷ []) (firsts initialiser) (token ∷ rest) h (refl, (refl, (refl, tt)))
initialiser_first (node kind ps) all h rest = initialiser_node_first kind ps (formed initialiser kind ps h) all rest

-- ---- statements

ended_first :
    (many : List Terminal) {ps : PlainTrees} → InRow (optional (expression 1) ∷ word (t.Semicolon ∷ []) ∷ []) ps → AllReadable ps
    → (rest : List PlainToken) → IsTrue (is_one_of many t.Semicolon) → EachOf (λ x. IsTrue (is_one_of many x)) expression_firsts
    → Ahead many (all_written ps rest)
ended_first many (absent_part (word_part {token = token} h row_ended)) all rest alone each =
    wider (t.Semicolon ∷ []) many (token ∷ rest) h (alone, tt)
ended_first many (present_part {tree = tree} h (word_part {token = token} last row_ended)) all rest alone each =
    wider expression_firsts many (written tree (token ∷ rest)) (all.0.first (expression 1) h (token ∷ rest)) each

statement_row_first :
    (many : List Terminal) (kind : Kind) (ps : PlainTrees) → IsTrue (is_statement kind) → IsTrue (are_in_row (row kind) ps)
    → AllReadable ps → (rest : List PlainToken) → EachOf (λ x. IsTrue (is_one_of many x)) (statement_firsts ++ expression_firsts)
    → Ahead many (all_written ps rest)
statement_row_first many k.Block ps h r all rest each =
    from_word (t.OpenBrace ∷ []) many (fixed_row (row k.Block) ps refl r) rest (each.0, tt)
statement_row_first many k.ExpressionStatement ps h r all rest each =
    ended_first many (fixed_row (row k.ExpressionStatement) ps refl r) all rest (each.1).0 (((((((each.1).1).1).1).1).1).1).1
statement_row_first many k.If ps h r all rest each =
    from_word (t.If ∷ []) many (fixed_row (row k.If) ps refl r) rest (((each.1).1).0, tt)
statement_row_first many k.While ps h r all rest each =
    from_word (t.While ∷ []) many (fixed_row (row k.While) ps refl r) rest ((((each.1).1).1).0, tt)
statement_row_first many k.Do ps h r all rest each =
    from_word (t.Do ∷ []) many (fixed_row (row k.Do) ps refl r) rest (((((each.1).1).1).1).0, tt)
statement_row_first many k.For ps h r all rest each =
    from_word (t.For ∷ []) many (fixed_row (row k.For) ps refl r) rest ((((((each.1).1).1).1).1).0, tt)
statement_row_first many k.Jump ps h r all rest each =
    from_word (t.Jump ∷ []) many (fixed_row (row k.Jump) ps refl r) rest (((((((each.1).1).1).1).1).1).0, tt)
statement_row_first many k.Return ps h r all rest each =
    from_word (t.Return ∷ []) many (fixed_row (row k.Return) ps refl r) rest ((((((((each.1).1).1).1).1).1).1).0, tt)
statement_row_first many _ ps h r all rest each = absurd (false≢true h)

each_statement : EachOf (λ x. IsTrue (is_one_of (firsts statement) x)) (statement_firsts ++ expression_firsts)
each_statement =
    (refl, (refl, (refl, (refl, (refl, (refl, (refl, (refl, (refl, (refl, (refl, (refl, (refl, (refl, (refl, (refl, (refl, (refl, tt))))))))))))))))))

each_item : EachOf (λ x. IsTrue (is_one_of (firsts item) x)) (statement_firsts ++ expression_firsts)
each_item =
    (refl, (refl, (refl, (refl, (refl, (refl, (refl, (refl, (refl, (refl, (refl, (refl, (refl, (refl, (refl, (refl, (refl, (refl, tt))))))))))))))))))

abbrev pub FirstOf : Category → PlainTree → Type 0
FirstOf category tree = AllParts tree → IsTrue (is_a category tree) → (rest : List PlainToken) → Ahead (firsts category) (written tree rest)

abbrev FirstOfNode : Category → Kind → PlainTrees → Type 0
FirstOfNode category kind ps =
    Formed category kind ps → AllReadable ps → (rest : List PlainToken) → Ahead (firsts category) (all_written ps rest)

statement_node_first : (kind : Kind) (ps : PlainTrees) → FirstOfNode statement kind ps
statement_node_first k.Block ps f all rest = statement_row_first (firsts statement) k.Block ps refl f.shaped_so all rest each_statement
statement_node_first k.ExpressionStatement ps f all rest =
    statement_row_first (firsts statement) k.ExpressionStatement ps refl f.shaped_so all rest each_statement
statement_node_first k.If ps f all rest = statement_row_first (firsts statement) k.If ps refl f.shaped_so all rest each_statement
statement_node_first k.While ps f all rest = statement_row_first (firsts statement) k.While ps refl f.shaped_so all rest each_statement
statement_node_first k.Do ps f all rest = statement_row_first (firsts statement) k.Do ps refl f.shaped_so all rest each_statement
statement_node_first k.For ps f all rest = statement_row_first (firsts statement) k.For ps refl f.shaped_so all rest each_statement
statement_node_first k.Jump ps f all rest = statement_row_first (firsts statement) k.Jump ps refl f.shaped_so all rest each_statement
statement_node_first k.Return ps f all rest = statement_row_first (firsts statement) k.Return ps refl f.shaped_so all rest each_statement
statement_node_first _ ps f all rest = absurd (false≢true f.belongs_there)

statement_first : (tree : PlainTree) → FirstOf statement tree
statement_first (leaf token) all h rest = absurd (false≢true h)
statement_first (node kind ps) all h rest = statement_node_first kind ps (formed statement kind ps h) all rest

item_node_first : (kind : Kind) (ps : PlainTrees) → FirstOfNode item kind ps
item_node_first k.LocalDeclaration ps f all rest =
    wider type_firsts (firsts item) (all_written ps rest) (needed_first (fixed_row (row k.LocalDeclaration) ps refl f.shaped_so) all rest)
    (refl, (refl, (refl, (refl, (refl, (refl, tt))))))
item_node_first k.Block ps f all rest = statement_row_first (firsts item) k.Block ps refl f.shaped_so all rest each_item
item_node_first k.ExpressionStatement ps f all rest =
    statement_row_first (firsts item) k.ExpressionStatement ps refl f.shaped_so all rest each_item
item_node_first k.If ps f all rest = statement_row_first (firsts item) k.If ps refl f.shaped_so all rest each_item
item_node_first k.While ps f all rest = statement_row_first (firsts item) k.While ps refl f.shaped_so all rest each_item
item_node_first k.Do ps f all rest = statement_row_first (firsts item) k.Do ps refl f.shaped_so all rest each_item
item_node_first k.For ps f all rest = statement_row_first (firsts item) k.For ps refl f.shaped_so all rest each_item
item_node_first k.Jump ps f all rest = statement_row_first (firsts item) k.Jump ps refl f.shaped_so all rest each_item
item_node_first k.Return ps f all rest = statement_row_first (firsts item) k.Return ps refl f.shaped_so all rest each_item
item_node_first _ ps f all rest = absurd (false≢true f.belongs_there)

item_first : (tree : PlainTree) → FirstOf item tree
item_first (leaf token) all h rest = absurd (false≢true h)
item_first (node kind ps) all h rest = item_node_first kind ps (formed item kind ps h) all rest

else_node_first : (kind : Kind) (ps : PlainTrees) → FirstOfNode else_part kind ps
else_node_first k.Else ps f all rest = word_first (fixed_row (row k.Else) ps refl f.shaped_so) rest
else_node_first _ ps f all rest = absurd (false≢true f.belongs_there)

else_first : (tree : PlainTree) → FirstOf else_part tree
else_first (leaf token) all h rest = absurd (false≢true h)
else_first (node kind ps) all h rest = else_node_first kind ps (formed else_part kind ps h) all rest

block_node_first : (kind : Kind) (ps : PlainTrees) → FirstOfNode block kind ps
block_node_first k.Block ps f all rest = word_first (fixed_row (row k.Block) ps refl f.shaped_so) rest
block_node_first _ ps f all rest = absurd (false≢true f.belongs_there)

block_first : (tree : PlainTree) → FirstOf block tree
block_first (leaf token) all h rest = absurd (false≢true h)
block_first (node kind ps) all h rest = block_node_first kind ps (formed block kind ps h) all rest

for_start_node_first : (kind : Kind) (ps : PlainTrees) → FirstOfNode for_start kind ps
for_start_node_first k.LocalDeclaration ps f all rest =
    wider type_firsts (firsts for_start) (all_written ps rest) (needed_first (fixed_row (row k.LocalDeclaration) ps refl f.shaped_so) all rest)
    (refl, (refl, (refl, (refl, (refl, (refl, tt))))))
for_start_node_first k.ForStart ps f all rest =
    ended_first (firsts for_start) (fixed_row (row k.ForStart) ps refl f.shaped_so) all rest refl
    (refl, (refl, (refl, (refl, (refl, (refl, (refl, (refl, (refl, (refl, tt))))))))))
for_start_node_first _ ps f all rest = absurd (false≢true f.belongs_there)

for_start_first : (tree : PlainTree) → FirstOf for_start tree
for_start_first (leaf token) all h rest = absurd (false≢true h)
for_start_first (node kind ps) all h rest = for_start_node_first kind ps (formed for_start kind ps h) all rest

member_node_first : (kind : Kind) (ps : PlainTrees) → FirstOfNode member kind ps
member_node_first k.Member ps f all rest = needed_first (fixed_row (row k.Member) ps refl f.shaped_so) all rest
member_node_first _ ps f all rest = absurd (false≢true f.belongs_there)

member_first : (tree : PlainTree) → FirstOf member tree
member_first (leaf token) all h rest = absurd (false≢true h)
member_first (node kind ps) all h rest = member_node_first kind ps (formed member kind ps h) all rest

-- ---- lists

each_first :
    (category : Category) (ps : PlainTrees) → IsTrue (are_each category ps && any_part ps) → AllReadable ps → (rest : List PlainToken)
    → Ahead (firsts category) (all_written ps rest)
each_first category none h all rest = absurd (false≢true (and_parts (are_each category none) false h).1)
each_first category (more tree ps) h all rest =
    let outer : _ × _ = and_parts (are_each category (more tree ps)) true h in
    all.0.first category (and_parts (is_a category tree) (are_each category ps) outer.0).0 (all_written ps rest)

separated_first :
    (category : Category) (ps : PlainTrees) → IsTrue (are_separated category ps) → AllReadable ps → (rest : List PlainToken)
    → Ahead (firsts category) (all_written ps rest)
separated_first category none h all rest = absurd (false≢true h)
separated_first category (more tree none) h all rest = all.0.first category h rest
separated_first category (more tree (more comma ps)) h all rest =
    let outer : _ × _ = and_parts (is_a category tree && is_word (t.Comma ∷ []) comma) (are_separated category ps) h in
    all.0.first category (and_parts (is_a category tree) (is_word (t.Comma ∷ []) comma) outer.0).0 (all_written (more comma ps) rest)

ended_list_first :
    (category : Category) (ps : PlainTrees) → IsTrue (are_separated_or_ended category ps) → AllReadable ps → (rest : List PlainToken)
    → Ahead (firsts category) (all_written ps rest)
ended_list_first category none h all rest = absurd (false≢true h)
ended_list_first category (more tree none) h all rest = all.0.first category h rest
ended_list_first category (more tree (more comma none)) h all rest =
    all.0.first category (and_parts (is_a category tree) (is_word (t.Comma ∷ []) comma) h).0 (all_written (more comma none) rest)
ended_list_first category (more tree (more comma (more next ps))) h all rest =
    let outer : _ × _ =
    and_parts (is_a category tree && is_word (t.Comma ∷ []) comma) (are_separated_or_ended category (more next ps)) h in
    all.0.first category (and_parts (is_a category tree) (is_word (t.Comma ∷ []) comma) outer.0).0
    (all_written (more comma (more next ps)) rest)

arguments_node_first : (kind : Kind) (ps : PlainTrees) → FirstOfNode arguments kind ps
arguments_node_first k.Arguments ps f all rest = separated_first (expression 1) ps f.shaped_so all rest
arguments_node_first _ ps f all rest = absurd (false≢true f.belongs_there)

items_node_first : (kind : Kind) (ps : PlainTrees) → FirstOfNode items kind ps
items_node_first k.Items ps f all rest = each_first item ps f.shaped_so all rest
items_node_first _ ps f all rest = absurd (false≢true f.belongs_there)

members_node_first : (kind : Kind) (ps : PlainTrees) → FirstOfNode members kind ps
members_node_first k.Members ps f all rest = each_first member ps f.shaped_so all rest
members_node_first _ ps f all rest = absurd (false≢true f.belongs_there)

initialisers_node_first : (kind : Kind) (ps : PlainTrees) → FirstOfNode initialisers kind ps
initialisers_node_first k.Initialisers ps f all rest = ended_list_first initialiser ps f.shaped_so all rest
initialisers_node_first _ ps f all rest = absurd (false≢true f.belongs_there)

parameters_node_first : (kind : Kind) (ps : PlainTrees) → FirstOfNode parameters kind ps
parameters_node_first k.Parameters ps f all rest = separated_first parameter ps f.shaped_so all rest
parameters_node_first _ ps f all rest = absurd (false≢true f.belongs_there)

parameter_node_first : (kind : Kind) (ps : PlainTrees) → FirstOfNode parameter kind ps
parameter_node_first k.Parameter ps f all rest = needed_first (fixed_row (row k.Parameter) ps refl f.shaped_so) all rest
parameter_node_first _ ps f all rest = absurd (false≢true f.belongs_there)

declarators_node_first : (role : Role) (kind : Kind) (ps : PlainTrees) → FirstOfNode (declarators role) kind ps
declarators_node_first role k.Declarators none f all rest = absurd (false≢true f.shaped_so)
declarators_node_first role k.Declarators (more tree ps) f all rest =
    all.0.first (declarator role) (and_parts (is_a (declarator role) tree) (may_follow_declarator role ps) f.shaped_so).0 (all_written ps rest)
declarators_node_first role _ ps f all rest = absurd (false≢true f.belongs_there)

file_item_node_first : (kind : Kind) (ps : PlainTrees) → FirstOfNode file_item kind ps
file_item_node_first k.Function ps f all rest = needed_first (fixed_row (row k.Function) ps refl f.shaped_so) all rest
file_item_node_first k.Declaration ps f all rest = needed_first (fixed_row (row k.Declaration) ps refl f.shaped_so) all rest
file_item_node_first k.StructDefinition ps f all rest =
    wider type_firsts (firsts file_item) (all_written ps rest) (needed_first (fixed_row (row k.StructDefinition) ps refl f.shaped_so) all rest)
    (refl, (refl, (refl, (refl, (refl, (refl, tt))))))
file_item_node_first k.StructDeclaration ps f all rest =
    wider type_firsts (firsts file_item) (all_written ps rest) (needed_first (fixed_row (row k.StructDeclaration) ps refl f.shaped_so) all rest)
    (refl, (refl, (refl, (refl, (refl, (refl, tt))))))
file_item_node_first _ ps f all rest = absurd (false≢true f.belongs_there)

-- ---- declarators

starred_first :
    (slots : List Slot) {ps : PlainTrees} → Starred (word (t.Name ∷ []) ∷ slots) ps → (rest : List PlainToken)
    → Ahead (t.Star ∷ t.Name ∷ []) (all_written ps rest)
starred_first slots (starred {token = token} {ps = ps} h others) rest =
    wider (t.Star ∷ []) (t.Star ∷ t.Name ∷ []) (token ∷ all_written ps rest) h (refl, tt)
starred_first slots (unstarred r) rest = from_word (t.Name ∷ []) (t.Star ∷ t.Name ∷ []) r rest (refl, tt)

declarator_form_first :
    (role : Role) (tree : PlainTree) → DeclaratorForm role tree → (rest : List PlainToken) → Ahead (t.Star ∷ t.Name ∷ []) (written tree rest)
declarator_form_first role (leaf token) form rest = elim form [ ]
declarator_form_first role (node kind ps) (plain_form s) rest = starred_first [] s rest
declarator_form_first role (node kind ps) (array_form s) rest = starred_first bracketed_size s rest
declarator_form_first role (node kind ps) (function_form h s) rest =
    starred_first (word (t.OpenParenthesis ∷ []) ∷ optional parameters ∷ word (t.CloseParenthesis ∷ []) ∷ []) s rest

perhaps_plain_first :
    {ps : PlainTrees} → IsTrue (any_part ps) → Perhaps [] ps → (rest : List PlainToken)
    → Ahead (firsts abstract_declarator) (all_written ps rest)
perhaps_plain_first any (star_first {token = token} {ps = ps} h others) rest =
    wider (t.Star ∷ []) (firsts abstract_declarator) (token ∷ all_written ps rest) h (refl, tt)
perhaps_plain_first any (with_name {token = token} {ps = ps} h others) rest =
    wider (t.Name ∷ []) (firsts abstract_declarator) (token ∷ all_written ps rest) h (refl, tt)
perhaps_plain_first any (nameless row_ended) rest = absurd (false≢true any)

perhaps_array_first :
    {ps : PlainTrees} → Perhaps bracketed_size ps → (rest : List PlainToken) → Ahead (firsts abstract_declarator) (all_written ps rest)
perhaps_array_first (star_first {token = token} {ps = ps} h others) rest =
    wider (t.Star ∷ []) (firsts abstract_declarator) (token ∷ all_written ps rest) h (refl, tt)
perhaps_array_first (with_name {token = token} {ps = ps} h others) rest =
    wider (t.Name ∷ []) (firsts abstract_declarator) (token ∷ all_written ps rest) h (refl, tt)
perhaps_array_first (nameless r) rest = from_word (t.OpenBracket ∷ []) (firsts abstract_declarator) r rest (refl, tt)

abstract_form_first :
    (tree : PlainTree) → AbstractForm tree → (rest : List PlainToken) → Ahead (firsts abstract_declarator) (written tree rest)
abstract_form_first (leaf token) form rest = elim form [ ]
abstract_form_first (node kind ps) (abstract_plain any p) rest = perhaps_plain_first any p rest
abstract_form_first (node kind ps) (abstract_array p) rest = perhaps_array_first p rest

-- ---- all parts

pub part_first : (category : Category) (tree : PlainTree) → FirstOf category tree
part_first (expression wanted) tree all h rest = expression_first wanted tree all h rest
part_first arguments (leaf token) all h rest = absurd (false≢true h)
part_first arguments (node kind ps) all h rest = arguments_node_first kind ps (formed arguments kind ps h) all rest
part_first cast_type tree all h rest = cast_first tree rest h
part_first specifiers tree all h rest = specifiers_first tree rest h
part_first file_specifiers tree all h rest = file_specifiers_first tree rest h
part_first tag tree all h rest = tag_first tree rest h
part_first (declarators role) (leaf token) all h rest = absurd (false≢true h)
part_first (declarators role) (node kind ps) all h rest = declarators_node_first role kind ps (formed (declarators role) kind ps h) all rest
part_first (declarator role) tree all h rest = declarator_form_first role tree (declarator_form role tree h) rest
part_first abstract_declarator tree all h rest = abstract_form_first tree (abstract_form tree h) rest
part_first parameters (leaf token) all h rest = absurd (false≢true h)
part_first parameters (node kind ps) all h rest = parameters_node_first kind ps (formed parameters kind ps h) all rest
part_first parameter (leaf token) all h rest = absurd (false≢true h)
part_first parameter (node kind ps) all h rest = parameter_node_first kind ps (formed parameter kind ps h) all rest
part_first initialiser tree all h rest = initialiser_first tree all h rest
part_first initialisers (leaf token) all h rest = absurd (false≢true h)
part_first initialisers (node kind ps) all h rest = initialisers_node_first kind ps (formed initialisers kind ps h) all rest
part_first statement tree all h rest = statement_first tree all h rest
part_first else_part tree all h rest = else_first tree all h rest
part_first block tree all h rest = block_first tree all h rest
part_first items (leaf token) all h rest = absurd (false≢true h)
part_first items (node kind ps) all h rest = items_node_first kind ps (formed items kind ps h) all rest
part_first item tree all h rest = item_first tree all h rest
part_first for_start tree all h rest = for_start_first tree all h rest
part_first members (leaf token) all h rest = absurd (false≢true h)
part_first members (node kind ps) all h rest = members_node_first kind ps (formed members kind ps h) all rest
part_first member tree all h rest = member_first tree all h rest
part_first file_item (leaf token) all h rest = absurd (false≢true h)
part_first file_item (node kind ps) all h rest = file_item_node_first kind ps (formed file_item kind ps h) all rest
