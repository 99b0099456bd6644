-- What is used of the grammar: which nodes stand among the parts of which, and which tokens are names.
use Rattle.std.proofs.Common.{◌≡◌, Bool, true, false, ◌||◌, List, [], ◌∷◌, refl, sym, ap, subst, ◌∙◌, IsTrue, ℕ}
use Rattle.std.proofs.lemmas.Bool.{false≢true, and_parts}
use Rattle.c_text.specs.Token.{PlainToken}
use Rattle.c_names.specs.Names.{is_identifier}
use Rattle.c_tree.specs.declared.kinds.Kind.{Kind}
use Rattle.c_tree.specs.declared.kinds.Kind.TheVariants as k
use Rattle.c_tree.specs.declared.terminals.Terminal.{Terminal}
use Rattle.c_tree.specs.declared.terminals.Terminal.TheVariants as t
use Rattle.c_tree.specs.Terminals.{terminal, same, is_one_of}
use Rattle.c_tree.specs.Trees.{PlainTree, PlainTrees, leaf, node, none, more}
use Rattle.c_tree.specs.Grammar.{Category, expression, specifiers, file_specifiers, tag, declarators, members, member, parameter, Role, shape, agree, defines_function, are_words, are_words_of, are_texts, Slot, Shape}
use Rattle.core_meaning.specs.Expressions.{has_terminal}
use Rattle.tree_derivations.specs.Derivations.{IsWord, Derivation, single, made_of, Shaped, a_row, some_words, some_texts, one_or_more, as_many, with_commas, with_last_comma, declarators_of, Row, at_end, a_word, perhaps_there, not_there, a_star, no_star, a_part, left_out, given, Each, no_more, one_more, Separated, last_one, next_one, Ended, ends, ends_in_comma, goes_on, Declared, last_plain, last_initialised, next_plain, next_initialised}
use Rattle.bindings.specs.Bindings.{is_name}
use Rattle.bindings.proofs.Spellings.{Told, Holds, AllHold, a_name}
use Rattle.bindings.proofs.Words.{tag_form}

-- ---- the shapes

abbrev pub singles : List Terminal
singles = t.Name ∷ t.Number ∷ t.Character ∷ []

-- what needs no operator
abbrev pub IsSingle : PlainTree → Type 0
IsSingle (leaf token) = IsWord singles token
IsSingle (node kind parts) = Unit {0}

abbrev pub AreSpecifiers : PlainTree → Type 0
AreSpecifiers (node k.Specifiers words) = Unit {0}
AreSpecifiers other = ⊥

abbrev pub NameAStruct : PlainTree → Type 0
NameAStruct (node k.Specifiers words) = has_terminal t.Struct words ≡ true
NameAStruct other = ⊥

abbrev pub AreDeclarators : PlainTree → Type 0
AreDeclarators (node k.Declarators list) = Unit {0}
AreDeclarators other = ⊥

abbrev pub DefinesFunction : PlainTree → Type 0
DefinesFunction (node k.Declarators (more (node k.FunctionDeclarator parts) none)) = Unit {0}
DefinesFunction other = ⊥

abbrev pub AreMembers : PlainTree → Type 0
AreMembers (node k.Members list) = Unit {0}
AreMembers other = ⊥

abbrev pub IsMember : PlainTree → Type 0
IsMember (node k.Member parts) = Unit {0}
IsMember other = ⊥

abbrev pub AllMembers : PlainTrees → Type 0
AllMembers none = Unit {0}
AllMembers (more tree rest) = IsMember tree × AllMembers rest

-- a parameter, or a comma between two
abbrev pub IsParameter : PlainTree → Type 0
IsParameter (leaf token) = Unit {0}
IsParameter (node k.Parameter parts) = Unit {0}
IsParameter other = ⊥

abbrev pub AllParameters : PlainTrees → Type 0
AllParameters none = Unit {0}
AllParameters (more tree rest) = IsParameter tree × AllParameters rest

abbrev pub HasShape : Kind → PlainTrees → Type 0
HasShape k.Call (more first rest) = IsSingle first
HasShape k.Parenthesized (more bracket (more inner rest)) = IsSingle inner
HasShape k.Selection (more first (more sign (more (leaf name) none))) = is_name name ≡ true
HasShape k.LocalDeclaration (more words (more list rest)) = AreSpecifiers words × AreDeclarators list
HasShape k.Member (more words (more list rest)) = AreSpecifiers words × AreDeclarators list
HasShape k.Declaration (more words (more list rest)) = AreSpecifiers words × AreDeclarators list
HasShape k.Function (more words (more list rest)) = AreSpecifiers words × DefinesFunction list
HasShape k.StructDefinition (more words (more brace (more list rest))) = NameAStruct words × AreMembers list
HasShape k.StructDeclaration (more words rest) = AreSpecifiers words
HasShape k.Parameter (more words rest) = AreSpecifiers words
HasShape k.Parameters parts = AllParameters parts
HasShape k.Members parts = AllMembers parts
HasShape other parts = Unit {0}

-- ---- trees that are formed so

-- a token of an expression that is spelt as an identifier is a name
abbrev pub IsFormedToken : PlainToken → Type 0
IsFormedToken token = IsWord singles token → is_identifier token.text ≡ true → is_name token ≡ true

abbrev mutual
  pub IsFormed : PlainTree → Type 0
  IsFormed (leaf token) = IsFormedToken token
  IsFormed (node kind parts) = HasShape kind parts × AreFormed parts

  pub AreFormed : PlainTrees → Type 0
  AreFormed none = Unit {0}
  AreFormed (more tree rest) = IsFormed tree × AreFormed rest

token_formed : (token : PlainToken) → Told token → IsFormedToken token
token_formed token told single_ identifier = by (terminal token) refl single_
  where
    number : IsWord (t.Number ∷ t.Character ∷ []) token → is_name token ≡ true
    number w = absurd (false≢true (sym (told.no_identifier w) ∙ identifier))

    by : (x : Terminal) → terminal token ≡ x → IsTrue (is_one_of singles x) → is_name token ≡ true
    by t.Name e w = ap (same t.Name) e
    by t.Number e w = number (subst (λ x. IsTrue (is_one_of (t.Number ∷ t.Character ∷ []) x)) (sym e) refl)
    by t.Character e w = number (subst (λ x. IsTrue (is_one_of (t.Number ∷ t.Character ∷ []) x)) (sym e) refl)
    by _ e w = absurd (false≢true w)

words_formed : (words : List Terminal) (parts : PlainTrees) → IsTrue (are_words words parts) → AllHold parts → AreFormed parts
words_formed [] none w h = tt
words_formed [] (more tree rest) w h = absurd (false≢true w)
words_formed (first ∷ words) none w h = absurd (false≢true w)
words_formed (first ∷ words) (more (leaf token) rest) w h =
    (token_formed token h.0, words_formed words rest (and_parts (same first (terminal token)) (are_words words rest) w).1 h.1)
words_formed (first ∷ words) (more (node kind parts) rest) w h = absurd (false≢true w)

some_words_formed : (lists : List (List Terminal)) (parts : PlainTrees) → IsTrue (are_words_of lists parts) → AllHold parts → AreFormed parts
some_words_formed [] parts w h = absurd (false≢true w)
some_words_formed (words ∷ lists) parts w h = by (are_words words parts) refl w (λ later. some_words_formed lists parts later h)
  where
    by : (b : Bool) → are_words words parts ≡ b → IsTrue (b || are_words_of lists parts) → (IsTrue (are_words_of lists parts) → AreFormed parts) → AreFormed parts
    by true e w later = words_formed words parts e h
    by false e w later = later w

texts_formed : (parts : PlainTrees) → IsTrue (are_texts parts) → AllHold parts → AreFormed parts
texts_formed none w h = tt
texts_formed (more (leaf token) rest) w h = (token_formed token h.0, texts_formed rest (and_parts (is_one_of (t.Text ∷ []) (terminal token)) (are_texts rest) w).1 h.1)
texts_formed (more (node kind parts) rest) w h = absurd (false≢true w)

-- ---- which nodes stand where

single_is : {n : ℕ} {tree : PlainTree} → Derivation (expression n) tree → IsSingle tree
single_is (single is) = is
single_is (made_of kind b a s) = tt

specifiers_are : {tree : PlainTree} → Derivation specifiers tree → AreSpecifiers tree
specifiers_are (single is) = absurd (false≢true is)
specifiers_are (made_of k.Specifiers b a s) = tt
specifiers_are (made_of _ b a s) = absurd (false≢true b)

file_specifiers_are : {tree : PlainTree} → Derivation file_specifiers tree → AreSpecifiers tree
file_specifiers_are (single is) = absurd (false≢true is)
file_specifiers_are (made_of k.Specifiers b a s) = tt
file_specifiers_are (made_of _ b a s) = absurd (false≢true b)

tag_is : {tree : PlainTree} → Derivation tag tree → NameAStruct tree
tag_is (single is) = absurd (false≢true is)
tag_is (made_of k.Specifiers {parts = parts} b a (some_words are)) = (tag_form parts are).has
tag_is (made_of _ b a s) = absurd (false≢true b)

words_of_tag : (tree : PlainTree) → NameAStruct tree → AreSpecifiers tree
words_of_tag (leaf token) h = absurd h
words_of_tag (node k.Specifiers words) h = tt
words_of_tag (node _ words) h = absurd h

declarators_are : {role : Role} {tree : PlainTree} → Derivation (declarators role) tree → AreDeclarators tree
declarators_are (single is) = absurd (false≢true is)
declarators_are (made_of k.Declarators b a s) = tt
declarators_are (made_of _ b a s) = absurd (false≢true b)

function_defined : (tree : PlainTree) → IsTrue (defines_function tree) → DefinesFunction tree
function_defined (leaf token) h = absurd (false≢true h)
function_defined (node k.Declarators none) h = absurd (false≢true h)
function_defined (node k.Declarators (more (leaf token) rest)) h = absurd (false≢true h)
function_defined (node k.Declarators (more (node kind parts) (more second rest))) h = absurd (false≢true h)
function_defined (node k.Declarators (more (node k.FunctionDeclarator parts) none)) h = tt
function_defined (node k.Declarators (more (node _ parts) none)) h = absurd (false≢true h)
function_defined (node _ parts) h = absurd (false≢true h)

members_are : {tree : PlainTree} → Derivation members tree → AreMembers tree
members_are (single is) = absurd (false≢true is)
members_are (made_of k.Members b a s) = tt
members_are (made_of _ b a s) = absurd (false≢true b)

member_is : {tree : PlainTree} → Derivation member tree → IsMember tree
member_is (single is) = absurd (false≢true is)
member_is (made_of k.Member b a s) = tt
member_is (made_of _ b a s) = absurd (false≢true b)

all_members : {parts : PlainTrees} → Each member parts → AllMembers parts
all_members no_more = tt
all_members (one_more d each) = (member_is d, all_members each)

parameter_is : {tree : PlainTree} → Derivation parameter tree → IsParameter tree
parameter_is (single is) = tt
parameter_is (made_of k.Parameter b a s) = tt
parameter_is (made_of _ b a s) = absurd (false≢true b)

all_parameters : {parts : PlainTrees} → Separated parameter parts → AllParameters parts
all_parameters (last_one d) = (parameter_is d, tt)
all_parameters (next_one d w others) = (parameter_is d, (tt, all_parameters others))

has_shape : (category : Category) (kind : Kind) {parts : PlainTrees} → IsTrue (agree kind parts) → Shaped (shape category kind) parts → HasShape kind parts
has_shape category k.Call a (a_row (a_part d row)) = single_is d
has_shape category k.Parenthesized a (a_row (a_word w (a_part d row))) = single_is d
has_shape category k.Selection a (a_row (a_part d (a_word w (a_word {token = name} v at_end)))) = a_name name v
has_shape category k.LocalDeclaration a (a_row (a_part d (a_part e row))) = (specifiers_are d, declarators_are e)
has_shape category k.Member a (a_row (a_part d (a_part e row))) = (specifiers_are d, declarators_are e)
has_shape category k.Declaration a (a_row (a_part d (a_part e row))) = (file_specifiers_are d, declarators_are e)
has_shape category k.Function a (a_row (a_part d (a_part {tree = list} e (a_part f at_end)))) = (file_specifiers_are d, function_defined list a)
has_shape category k.StructDefinition a (a_row (a_part d (a_word w (a_part e row)))) = (tag_is d, members_are e)
has_shape category k.StructDeclaration a (a_row (a_part {tree = words} d row)) = words_of_tag words (tag_is d)
has_shape category k.Parameter a (a_row (a_part d row)) = specifiers_are d
has_shape category k.Parameters a (with_commas each) = all_parameters each
has_shape category k.Members a (one_or_more each any) = all_members each
has_shape category _ a s = tt

-- ---- what is derived is formed so

mutual
  pub derived_formed : {category : Category} {tree : PlainTree} → Derivation category tree → Holds tree → IsFormed tree
  derived_formed (single {token = token} is) h = token_formed token h
  derived_formed (made_of {category = category} kind b a s) h = (has_shape category kind a s, shaped_formed s h)

  shaped_formed : {parts : PlainTrees} {s : Shape} → Shaped s parts → AllHold parts → AreFormed parts
  shaped_formed (a_row row) h = row_formed row h
  shaped_formed (some_words {lists = lists} {parts = parts} are) h = some_words_formed lists parts are h
  shaped_formed (some_texts {parts = parts} are any) h = texts_formed parts are h
  shaped_formed (one_or_more each any) h = each_formed each h
  shaped_formed (as_many each) h = each_formed each h
  shaped_formed (with_commas each) h = separated_formed each h
  shaped_formed (with_last_comma each) h = ended_formed each h
  shaped_formed (declarators_of declared) h = declared_formed declared h

  row_formed : {slots : List Slot} {parts : PlainTrees} → Row slots parts → AllHold parts → AreFormed parts
  row_formed at_end h = tt
  row_formed (a_word {token = token} w row) h = (token_formed token h.0, row_formed row h.1)
  row_formed (perhaps_there {token = token} w row) h = (token_formed token h.0, row_formed row h.1)
  row_formed (not_there row) h = row_formed row h
  row_formed (a_star {token = token} w row) h = (token_formed token h.0, row_formed row h.1)
  row_formed (no_star row) h = row_formed row h
  row_formed (a_part d row) h = (derived_formed d h.0, row_formed row h.1)
  row_formed (left_out row) h = ((tt, tt), row_formed row h.1)
  row_formed (given d row) h = (derived_formed d h.0, row_formed row h.1)

  pub each_formed : {each : Category} {parts : PlainTrees} → Each each parts → AllHold parts → AreFormed parts
  each_formed no_more h = tt
  each_formed (one_more d each) h = (derived_formed d h.0, each_formed each h.1)

  separated_formed : {each : Category} {parts : PlainTrees} → Separated each parts → AllHold parts → AreFormed parts
  separated_formed (last_one d) h = (derived_formed d h.0, tt)
  separated_formed (next_one {comma = comma} d w each) h = (derived_formed d h.0, (token_formed comma h.1.0, separated_formed each h.1.1))

  ended_formed : {each : Category} {parts : PlainTrees} → Ended each parts → AllHold parts → AreFormed parts
  ended_formed (ends d) h = (derived_formed d h.0, tt)
  ended_formed (ends_in_comma {comma = comma} d w) h = (derived_formed d h.0, (token_formed comma h.1.0, tt))
  ended_formed (goes_on {comma = comma} d w each) h = (derived_formed d h.0, (token_formed comma h.1.0, ended_formed each h.1.1))

  declared_formed : {role : Role} {parts : PlainTrees} → Declared role parts → AllHold parts → AreFormed parts
  declared_formed (last_plain d) h = (derived_formed d h.0, tt)
  declared_formed (last_initialised {sign = sign} m d w v) h = (derived_formed d h.0, (token_formed sign h.1.0, (derived_formed v h.1.1.0, tt)))
  declared_formed (next_plain {comma = comma} d w others) h = (derived_formed d h.0, (token_formed comma h.1.0, declared_formed others h.1.1))
  declared_formed (next_initialised {sign = sign} {comma = comma} m d w v c others) h =
      (derived_formed d h.0, (token_formed sign h.1.0, (derived_formed v h.1.1.0, (token_formed comma h.1.1.1.0, declared_formed others h.1.1.1.1))))
