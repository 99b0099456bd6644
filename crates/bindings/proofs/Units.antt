-- Units are read as they are judged.
use Rattle.std.proofs.Common.{◌≡◌, ℕ, Bool, true, false, List, [], refl, sym, ap, subst, ◌∙◌, IsTrue, arith}
use Rattle.std.specs.Prelude.{Option, Some, None, if◌then◌else◌}
use Rattle.std.proofs.lemmas.Bool.{false≢true}
use Rattle.std.proofs.lemmas.List.{append-nil}
use Rattle.std.proofs.lemmas.Option.{none-some}
use Rattle.c_text.specs.Token.{PlainToken}
use Rattle.c_tree.specs.declared.kinds.Kind.TheVariants as k
use Rattle.c_tree.specs.Trees.{PlainTree, PlainTrees, leaf, node, none, more}
use Rattle.c_tree.specs.Grammar.{file_item, file_specifiers, file_types, tag, members, member, declarator, file_first, defines_function}
use Rattle.core_meaning.specs.Checking.{local_entity, file_entity, Checked, ◌>>=◌, give, or_broken, in_function, fine, refused, broken}
use Rattle.core_meaning.specs.Entities.{Struct, Numbers}
use Rattle.core_meaning.specs.Declarations.{name_in, Based, based}
use Rattle.core_meaning.specs.UnitNames.{UnitState, storage_of, with_scope, declared_from, defined_function, defined_struct, count_functions, judged_item, judged_file_items, unit_start, too_big_in, unless_too_big, judged_unit}
use Rattle.tree_derivations.specs.Derivations.{Derivation, single, made_of, a_row, at_end, a_word, a_part, some_words, one_or_more, Each, no_more, one_more, Declared, last_plain, last_initialised, next_plain, next_initialised}
use Rattle.bindings.specs.Visible.{Reading, start, passed, leave}
use Rattle.bindings.specs.Bindings.{is_name, at_file, read_words, read_declarators, read_declarator, read_closed_suffix, read_suffix, read_statement, read_members, read_item, read_items, bindings_of, tag_text}
use Rattle.bindings.specs.Judged.{Identified, first_with}
use Rattle.bindings.proofs.Follows.{adds_none, adds_both, Follows, follows_both, follows_as}
use Rattle.bindings.proofs.Spellings.{Holds, AllHold}
use Rattle.bindings.proofs.Types.{Made}
use Rattle.bindings.proofs.Related.{numbering, Related}
use Rattle.bindings.proofs.Growing.{local_slots}
use Rattle.bindings.proofs.Expressions.{After}
use Rattle.bindings.proofs.Words.{WordForm, words_form, TagForm, tag_form, based_read}
use Rattle.bindings.proofs.Declarators.{Named, named_form}
use Rattle.bindings.proofs.Additions.{suffix_adds, closed_suffix_adds, declarator_adds, declarators_add, statement_adds, items_add}
use Rattle.bindings.proofs.Locals.{declarators_are}
use Rattle.bindings.proofs.Tags.{BasedThen, based_declared}
use Rattle.bindings.proofs.FileNames.{closed}
use Rattle.bindings.proofs.FileObjects.{FileRel, UnitThen, declared_read, parenthesized}
use Rattle.bindings.proofs.Functions.{FunctionThen, function_defined}
use Rattle.bindings.proofs.Items.{Binds, binds_both, binds_plain, binds_function, Fresh}
use Rattle.bindings.proofs.Structs.{struct_defined}

-- between two items of a unit
pub record Between (unit : UnitState) (r : Reading) (h : List Identified) : Type 0 where
  pub rel : FileRel unit.scope r h
  pub outside : unit.scope.blocks ≡ []
  pub fresh : Fresh (count_functions unit.defined) h

record FileWords (lists : List (List Rattle.c_tree.specs.declared.terminals.Terminal.Terminal)) (words : PlainTree) : Type 1 where
  parts : PlainTrees
  is : words ≡ node k.Specifiers parts
  form : WordForm parts

file_words : {tree : PlainTree} → Derivation file_specifiers tree → FileWords file_types tree
file_words (single is) = absurd cc
file_words (made_of k.Specifiers {parts = parts} b a (some_words are)) = record { parts = parts; is = refl; form = words_form file_types parts are refl }
file_words (made_of _ b a s) = absurd cc

record TagWordsOf (words : PlainTree) : Type 1 where
  parts : PlainTrees
  is : words ≡ node k.Specifiers parts
  form : TagForm parts

tag_words_of : {tree : PlainTree} → Derivation tag tree → TagWordsOf tree
tag_words_of (single is) = absurd cc
tag_words_of (made_of k.Specifiers {parts = parts} b a (some_words are)) = record { parts = parts; is = refl; form = tag_form parts are }
tag_words_of (made_of _ b a s) = absurd cc

record MembersOf (tree : PlainTree) : Type 0 where
  parts : PlainTrees
  is : tree ≡ node k.Members parts
  each : Each member parts

members_of_tree : {tree : PlainTree} → Derivation members tree → MembersOf tree
members_of_tree (single is) = absurd cc
members_of_tree (made_of k.Members {parts = parts} b a (one_or_more each any)) = record { parts = parts; is = refl; each = each }
members_of_tree (made_of _ b a s) = absurd cc

record DefinedFunction (list : PlainTrees) : Type 1 where
  parts : PlainTrees
  is : list ≡ more (node k.FunctionDeclarator parts) none
  form : Named parenthesized parts
  holds : AllHold list → AllHold parts

defined_declarator : {tree : PlainTree} → Derivation (declarator file_first) tree → IsTrue (defines_function (node k.Declarators (more tree none))) → DefinedFunction (more tree none)
defined_declarator (single is) h = absurd cc
defined_declarator (made_of k.FunctionDeclarator {parts = parts} b a (a_row row)) h = record { parts = parts; is = refl; form = named_form row; holds = λ x. x.0 }
defined_declarator (made_of _ b a s) h = absurd cc

no_others : {tree : PlainTree} → Derivation (declarator file_first) tree → (second : PlainTree) (rest : PlainTrees) → IsTrue (defines_function (node k.Declarators (more tree (more second rest)))) → ⊥
no_others (single is) second rest h = false≢true h
no_others (made_of _ b a s) second rest h = false≢true h

defined_list : {list : PlainTrees} → Declared file_first list → IsTrue (defines_function (node k.Declarators list)) → DefinedFunction list
defined_list (last_plain d) h = defined_declarator d h
defined_list (last_initialised {value = value} {sign = sign} m d w v) h = absurd (no_others d (leaf sign) (more value none) h)
defined_list (next_plain {comma = comma} {rest = rest} d w s) h = absurd (no_others d (leaf comma) rest h)
defined_list (next_initialised {value = value} {sign = sign} {comma = comma} {rest = rest} m d w v c s) h = absurd (no_others d (leaf sign) (more value (more (leaf comma) rest)) h)

abbrev ItemRead : PlainTree → Type 0
ItemRead tree =
    (globals : ℕ) (unit : UnitState) (behind : PlainTrees) (r : Reading) (h : List Identified) → Between unit r h
    → Binds h r.found (read_item tree r).found (λ x g. Between x (read_item tree r) g) (judged_item globals unit tree behind)

given_name :
    {A : Type 0} (h : List Identified) (a b : List Rattle.bindings.specs.Visible.Occurrence) (W : A → List Identified → Type 0) (name : PlainToken) (next : PlainToken → Checked A) → Binds h a b W (next name) → Binds h a b W (give name >>= next)
given_name h a b W name next f = same (next name) f
  where
    same : (c : Checked _) → Binds h a b W c → Binds h a b W (Rattle.core_meaning.specs.Checking.with_bindings [] c)
    same (fine x js) f = f
    same (refused kind token) f = f
    same broken f = f

tag_blocks : (may : Bool) (token : PlainToken) (found : Option ℕ) (r : Reading) → (Rattle.bindings.specs.Visible.tag_found may token found r).blocks ≡ r.blocks
tag_blocks may token (Some by) r = refl
tag_blocks true token None r = refl
tag_blocks false token None r = refl

word_blocks : (b : Bool) (token : PlainToken) (r : Reading) → (if b then Rattle.bindings.specs.Visible.tag_named false token r else passed r).blocks ≡ r.blocks
word_blocks true token r = tag_blocks false token (Rattle.bindings.specs.Visible.look_up Rattle.bindings.specs.Visible.tags token.text r.file) r
word_blocks false token r = refl

words_blocks : (words : PlainTrees) (r : Reading) → (read_words false words r).blocks ≡ r.blocks
words_blocks none r = refl
words_blocks (more (leaf token) rest) r = words_blocks rest (if is_name token then Rattle.bindings.specs.Visible.tag_named false token r else passed r) ∙ word_blocks (is_name token) token r
words_blocks (more (node kind parts) rest) r = words_blocks rest (Rattle.bindings.specs.Bindings.read_expressions parts r) ∙ Rattle.bindings.proofs.Declarators.expressions_blocks parts r

-- what a declaration leaves, but for its tags
record ItemThen (unit : UnitState) (r : Reading) (x : UnitState) (h : List Identified) : Type 0 where
  rel : FileRel x.scope r h
  outside : x.scope.blocks ≡ unit.scope.blocks
  count : count_functions x.defined ≡ count_functions unit.defined

plain_item :
    (unit : UnitState) (r last : Reading) (h : List Identified) (c : Checked UnitState) → Between unit r h → Follows (numbering local_entity) h r.found last.found (ItemThen unit last) c
    → Binds h r.found last.found (λ x g. Between x last g) c
plain_item unit r last h c between f =
    binds_plain (count_functions unit.defined) h r.found last.found (ItemThen unit last) (λ x g. Between x last g) c between.fresh f
    (λ x g v fresh. record { rel = v.rel; outside = v.outside ∙ between.outside; fresh = subst (λ m. Fresh m g) (sym v.count) fresh })

declaration_read :
    (words list : PlainTrees) (end_ : PlainToken) → WordForm words → Declared file_first list → AllHold list
    → ItemRead (node k.Declaration (more (node k.Specifiers words) (more (node k.Declarators list) (more (leaf end_) none))))
declaration_read words list end_ form d holds globals unit behind r h between =
    let one_ : Reading = read_words true words r in
    let last : Reading = passed (read_declarators read_closed_suffix at_file list one_) in
    plain_item unit r last h (based true unit.scope words >>= (λ base. declared_from globals (with_scope unit base.scope) (storage_of words) base.ty list behind)) between
    (follows_both (numbering local_entity) h r.found one_.found last.found (BasedThen local_entity local_slots (closed false) unit.scope one_.file one_.blocks) (ItemThen unit last)
    (based true unit.scope words) (λ base. declared_from globals (with_scope unit base.scope) (storage_of words) base.ty list behind)
    (based_declared local_entity local_slots (closed false) unit.scope words form r h between.rel)
    (λ base g v. follows_as (numbering local_entity) g one_.found last.found (UnitThen (with_scope unit base.scope) last.file last.blocks) (ItemThen unit last) (declared_from globals (with_scope unit base.scope) (storage_of words) base.ty list behind)
    (declared_read d holds globals (with_scope unit base.scope) (storage_of words) base.ty v.made behind one_ g v.rel)
    (λ x g2 z. record { rel = z.rel; outside = z.outside ∙ v.outside; count = z.count }))
    (declarators_add read_closed_suffix closed_suffix_adds at_file list one_))

struct_declared_read : (words : PlainTrees) (end_ : PlainToken) → TagForm words → ItemRead (node k.StructDeclaration (more (node k.Specifiers words) (more (leaf end_) none)))
struct_declared_read words end_ form globals unit behind r h between =
    let last : Reading = passed (read_words true words r) in
    plain_item unit r last h (based true unit.scope words >>= (λ base. give (with_scope unit base.scope))) between
    (follows_both (numbering local_entity) h r.found last.found last.found (BasedThen local_entity local_slots (closed false) unit.scope last.file last.blocks) (ItemThen unit last) (based true unit.scope words) (λ base. give (with_scope unit base.scope))
    (based_declared local_entity local_slots (closed false) unit.scope words (Rattle.bindings.proofs.Words.with_tag form.has form.form) r h between.rel)
    (λ base g v. record { os = []; is = sym (append-nil last.found); alike = tt; plain = refl; used = refl; after = record { rel = v.rel; outside = v.outside; count = refl } })
    (adds_none last.found))

struct_read :
    (words parts : PlainTrees) (brace close end_ : PlainToken) → TagForm words → Each member parts → AllHold parts
    → ItemRead (node k.StructDefinition (more (node k.Specifiers words) (more (leaf brace) (more (node k.Members parts) (more (leaf close) (more (leaf end_) none))))))
struct_read words parts brace close end_ form each holds globals unit behind r h between =
    let last : Reading = read_members (tag_text (name_in words)) parts (passed (read_words true words r)) in
    plain_item unit r (passed (passed last)) h (defined_struct unit words parts) between
    (follows_as (numbering local_entity) h r.found last.found (λ x g. Related local_entity (closed false) x.scope last.file last.blocks g × (x.scope.blocks ≡ unit.scope.blocks) × (x.defined ≡ unit.defined)) (ItemThen unit (passed (passed last))) (defined_struct unit words parts)
    (struct_defined unit words parts form each holds r h between.rel)
    (λ x g v. record { rel = v.0; outside = v.1; count = ap count_functions v.2 }))

function_read :
    (words list : PlainTrees) (body : PlainTree) → WordForm words → DefinedFunction list → AllHold list → Derivation Rattle.c_tree.specs.Grammar.block body → Holds body
    → ItemRead (node k.Function (more (node k.Specifiers words) (more (node k.Declarators list) (more body none))))
function_read words list body form f holds d body_holds globals unit behind r h between =
    let one_ : Reading = read_words false words r in
    let two_ : Reading = read_declarator read_suffix at_file f.parts one_ in
    let last : Reading = read_statement body two_ in
    let n : ℕ = count_functions unit.defined in
    let W : Based → List Identified → Type 0 = λ b g. (Made unit.scope.tags b.ty × FileRel unit.scope one_ g) × Fresh n g in
    subst (λ l. Binds h r.found (read_item (node k.Function (more (node k.Specifiers words) (more (node k.Declarators l) (more body none)))) r).found (λ x g. Between x (read_item (node k.Function (more (node k.Specifiers words) (more (node k.Declarators l) (more body none)))) r) g)
    (judged_item globals unit (node k.Function (more (node k.Specifiers words) (more (node k.Declarators l) (more body none)))) behind)) (sym f.is)
    (subst (λ name. Binds h r.found last.found (λ x g. Between x (leave r last) g) (based false unit.scope words >>= (λ base. or_broken name >>= (λ name. in_function n (defined_function unit (storage_of words) base.ty f.parts name body))))) (sym f.form.name_is)
    (binds_both h r.found one_.found last.found W (λ x g. Between x (leave r last) g) (based false unit.scope words) (λ base. give f.form.name >>= (λ name. in_function n (defined_function unit (storage_of words) base.ty f.parts name body)))
    (binds_plain n h r.found one_.found (After local_entity (closed false) unit.scope (λ (b : Based). Made unit.scope.tags b.ty) one_) W (based false unit.scope words) between.fresh
    (based_read local_entity (closed false) unit.scope words form r h between.rel) (λ b g v fresh. (v, fresh)))
    (λ base g w. given_name g one_.found last.found (λ x g2. Between x (leave r last) g2) f.form.name (λ name. in_function n (defined_function unit (storage_of words) base.ty f.parts name body))
    (binds_function n g one_.found last.found (FunctionThen unit last.file one_.blocks) (λ x g2. Between x (leave r last) g2) (defined_function unit (storage_of words) base.ty f.parts f.form.name body) w.1
    (function_defined unit (storage_of words) base.ty f.parts f.form d (f.holds holds) body_holds w.0.0 one_ g w.0.1 between.outside (λ s. w.1 n s (omega arith)))
    (λ x g2 v fresh. record { rel = subst (λ b. Related local_entity (closed false) x.scope last.file b g2) (words_blocks words r) v.rel; outside = v.outside; fresh = subst (λ m. Fresh m g2) (sym v.count) fresh })))
    (adds_both (declarator_adds read_suffix suffix_adds at_file f.parts one_) (statement_adds body two_))))

-- ---- the items of a unit

subst_item : (a b : PlainTree) → a ≡ b → ItemRead b → ItemRead a
subst_item a b e f = subst ItemRead (sym e) f

item_read : {tree : PlainTree} → Derivation file_item tree → Holds tree → ItemRead tree
item_read (single is) holds = absurd cc
item_read (made_of k.StructDefinition b a (a_row (a_part {tree = words} w (a_word {token = brace} o (a_part {tree = list} d (a_word {token = close} c (a_word {token = end_} e at_end))))))) holds =
    let ws = tag_words_of w in
    let ms = members_of_tree d in
    subst (λ x. ItemRead (node k.StructDefinition (more x (more (leaf brace) (more list (more (leaf close) (more (leaf end_) none))))))) (sym ws.is)
    (subst (λ x. ItemRead (node k.StructDefinition (more (node k.Specifiers ws.parts) (more (leaf brace) (more x (more (leaf close) (more (leaf end_) none))))))) (sym ms.is)
    (struct_read ws.parts ms.parts brace close end_ ws.form ms.each (subst Holds ms.is holds.1.1.0)))
item_read (made_of k.StructDeclaration b a (a_row (a_part {tree = words} w (a_word {token = end_} e at_end)))) holds =
    let ws = tag_words_of w in
    subst (λ x. ItemRead (node k.StructDeclaration (more x (more (leaf end_) none)))) (sym ws.is) (struct_declared_read ws.parts end_ ws.form)
item_read (made_of k.Declaration b a (a_row (a_part {tree = words} w (a_part {tree = list} d (a_word {token = end_} e at_end))))) holds =
    let ws = file_words w in
    let ds = declarators_are d in
    subst (λ x. ItemRead (node k.Declaration (more x (more list (more (leaf end_) none))))) (sym ws.is)
    (subst (λ x. ItemRead (node k.Declaration (more (node k.Specifiers ws.parts) (more x (more (leaf end_) none))))) (sym ds.is)
    (declaration_read ws.parts ds.parts end_ ws.form ds.declared (subst Holds ds.is holds.1.0)))
item_read (made_of k.Function b a (a_row (a_part {tree = words} w (a_part {tree = list} d (a_part {tree = body} e at_end))))) holds =
    let ws = file_words w in
    let ds = declarators_are d in
    let defined = defined_list ds.declared (subst (λ x. IsTrue (defines_function x)) ds.is a) in
    subst (λ x. ItemRead (node k.Function (more x (more list (more body none))))) (sym ws.is)
    (subst (λ x. ItemRead (node k.Function (more (node k.Specifiers ws.parts) (more x (more body none))))) (sym ds.is)
    (function_read ws.parts ds.parts body ws.form defined (subst Holds ds.is holds.1.0) e holds.1.1.0))
item_read (made_of _ b a s) holds = absurd cc

nothing_between : (unit : UnitState) (r : Reading) (h : List Identified) → Between unit r h → Binds h r.found r.found (λ x g. Between x r g) (give unit)
nothing_between unit r h between = record { os = []; is = sym (append-nil r.found); alike = tt; used = refl; after = between }

items_read :
    {parts : PlainTrees} → Each file_item parts → AllHold parts → (globals : ℕ) (unit : UnitState) (r : Reading) (h : List Identified) → Between unit r h
    → Binds h r.found (read_items parts r).found (λ x g. Between x (read_items parts r) g) (judged_file_items globals unit parts)
items_read no_more holds globals unit r h between = nothing_between unit r h between
items_read (one_more {tree = tree} {rest = rest} d others) holds globals unit r h between =
    let one_ : Reading = read_item tree r in
    let last : Reading = read_items rest one_ in
    binds_both h r.found one_.found last.found (λ x g. Between x one_ g) (λ x g. Between x last g) (judged_item globals unit tree rest) (λ first. judged_file_items globals first rest)
    (item_read d holds.0 globals unit rest r h between)
    (λ first g v. items_read others holds.1 globals first one_ g v)
    (items_add rest one_)

-- before the first item
start_between : (structs : List Struct) (numbers : Numbers) → Between (unit_start structs numbers) start []
start_between structs numbers = record {
  rel = record {
    locals = λ name l e. absurd (none-some l e);
    no_local = λ name e. refl;
    names = λ name n e. absurd (none-some n e);
    no_name = λ name e. refl;
    no_first = λ name e p. refl;
    tagged = λ tag n e. absurd (none-some n e);
    no_tag = λ tag e. refl;
    new_structs = λ n far. refl;
    new_members = λ n m far. refl;
    free = λ alive. absurd (false≢true alive);
    dead = λ dead slot. refl;
  };
  outside = refl;
  fresh = λ f s far. refl;
}

-- no identifier is bound to a name of file scope that isn't visible
abbrev pub AreVisible : UnitState → List Identified → Type 0
AreVisible unit h = (name : List ℕ) → unit.scope.file_names name ≡ None → first_with (file_entity name) h ≡ None

small_binds : (o : Option PlainToken) (unit : UnitState) (h : List Identified) (found : List Rattle.bindings.specs.Visible.Occurrence) → AreVisible unit h → Binds h found found AreVisible (unless_too_big o >>= (λ small. give unit))
small_binds None unit h found v = record { os = []; is = sym (append-nil found); alike = tt; used = refl; after = v }
small_binds (Some name) unit h found v = tt

pub unit_read :
    {parts : PlainTrees} → Each file_item parts → AllHold parts → (globals : ℕ) (structs : List Struct) (numbers : Numbers)
    → Binds [] [] (bindings_of (node k.Unit parts)) AreVisible (judged_unit globals structs numbers (node k.Unit parts))
unit_read {parts} each holds globals structs numbers =
    let last : Reading = read_items parts start in
    binds_both [] [] last.found last.found (λ x g. Between x last g) AreVisible (judged_file_items globals (unit_start structs numbers) parts)
    (λ unit. unless_too_big (too_big_in unit.scope parts) >>= (λ small. give unit))
    (items_read each holds globals (unit_start structs numbers) start [] (start_between structs numbers))
    (λ unit g v. small_binds (too_big_in unit.scope parts) unit g last.found (λ name e. v.rel.no_first name e refl))
    (adds_none last.found)
