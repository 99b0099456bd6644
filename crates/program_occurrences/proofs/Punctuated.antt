-- Where units have punctuators and names: behind declarations, round the members of a struct, and behind `.` and `->`.
use Rattle.std.proofs.Common.{◌≡◌, Bool, true, false, ◌||◌, List, [], ◌∷◌, refl, sym, ◌∙◌, IsTrue}
use Rattle.std.proofs.lemmas.Bool.{and_parts, false≢true}
use Rattle.c_text.specs.Token.{PlainToken}
use Rattle.c_tree.specs.declared.kinds.Kind.{Kind}
use Rattle.c_tree.specs.declared.kinds.Kind.TheVariants as k
use Rattle.c_tree.specs.declared.terminals.Terminal.{Terminal}
use Rattle.c_tree.specs.declared.terminals.Terminal.TheVariants as t
use Rattle.c_tree.specs.Terminals.{terminal, same}
use Rattle.c_tree.specs.Trees.{PlainTree, PlainTrees, leaf, node, none, more}
use Rattle.c_tree.specs.Grammar.{Category, Role, Slot, word, needed, row, Shape, shape, is_single, are_words, are_words_of, are_texts, is_word}
use Rattle.c_tree.proofs.TerminalCases.{one_of}
use Rattle.tree_derivations.specs.Derivations.{Derivation, single, made_of, Shaped, a_row, some_words, some_texts, one_or_more, as_many, with_commas, with_last_comma, declarators_of, Row, at_end, a_word, perhaps_there, not_there, a_star, no_star, a_part, left_out, given, Each, no_more, one_more, Separated, last_one, next_one, Ended, ends, ends_in_comma, goes_on, Declared, last_plain, last_initialised, next_plain, next_initialised, IsWord}
use Rattle.bindings.specs.Bindings.{is_name}

none_such : {A : Type 0} → false ≡ true → A
none_such h = absurd (false≢true h)

-- no token directly among the parts is a name
abbrev pub NoNames : PlainTrees → Type 0
NoNames none = Unit {0}
NoNames (more (leaf token) rest) = (is_name token ≡ false) × NoNames rest
NoNames (more (node kind parts) rest) = NoNames rest

abbrev pub IsSelection : PlainTrees → Type 0
IsSelection (more structure (more (leaf sign) (more (leaf name) none))) = (is_name sign ≡ false) × (is_name name ≡ true)
IsSelection other = Unit {0}

abbrev pub Fits : Kind → PlainTrees → Type 0
Fits k.Selection parts = IsSelection parts
Fits k.Declaration parts = NoNames parts
Fits k.LocalDeclaration parts = NoNames parts
Fits k.Member parts = NoNames parts
Fits k.StructDefinition parts = NoNames parts
Fits k.StructDeclaration parts = NoNames parts
Fits other parts = Unit {0}

abbrev mutual
  pub IsPunctuated : PlainTree → Type 0
  IsPunctuated (leaf token) = Unit {0}
  IsPunctuated (node kind parts) = Fits kind parts × ArePunctuated parts

  pub ArePunctuated : PlainTrees → Type 0
  ArePunctuated none = Unit {0}
  ArePunctuated (more tree rest) = IsPunctuated tree × ArePunctuated rest

-- ---- the nodes with punctuators

semicolon_no_name : (token : PlainToken) → IsWord (t.Semicolon ∷ []) token → is_name token ≡ false
semicolon_no_name token w = one_of (λ x. same t.Name x ≡ false) (t.Semicolon ∷ []) (terminal token) w (refl, tt)

open_brace_no_name : (token : PlainToken) → IsWord (t.OpenBrace ∷ []) token → is_name token ≡ false
open_brace_no_name token w = one_of (λ x. same t.Name x ≡ false) (t.OpenBrace ∷ []) (terminal token) w (refl, tt)

close_brace_no_name : (token : PlainToken) → IsWord (t.CloseBrace ∷ []) token → is_name token ≡ false
close_brace_no_name token w = one_of (λ x. same t.Name x ≡ false) (t.CloseBrace ∷ []) (terminal token) w (refl, tt)

select_no_name : (token : PlainToken) → IsWord (t.Select ∷ []) token → is_name token ≡ false
select_no_name token w = one_of (λ x. same t.Name x ≡ false) (t.Select ∷ []) (terminal token) w (refl, tt)

is_a_name : (token : PlainToken) → IsWord (t.Name ∷ []) token → is_name token ≡ true
is_a_name token w = one_of (λ x. same t.Name x ≡ true) (t.Name ∷ []) (terminal token) w (refl, tt)

-- a part that is no token
no_token : {category : Category} {tree : PlainTree} (rest : PlainTrees) → ((x : Terminal) → is_single category x ≡ false) → Derivation category tree → NoNames rest → NoNames (more tree rest)
no_token rest never (single {token = token} is) h = none_such (sym (never (terminal token)) ∙ is)
no_token rest never (made_of kind b a s) h = h

declaration_fits :
    {words declarators : Category} {parts : PlainTrees} → ((x : Terminal) → is_single words x ≡ false) → ((x : Terminal) → is_single declarators x ≡ false)
    → Row (needed words ∷ needed declarators ∷ word (t.Semicolon ∷ []) ∷ []) parts → NoNames parts
declaration_fits first second (a_part a (a_part {tree = tree} b (a_word {token = token} w at_end))) =
    no_token (more tree (more (leaf token) none)) first a (no_token (more (leaf token) none) second b (semicolon_no_name token w, tt))

definition_fits : {parts : PlainTrees} → Row (row k.StructDefinition) parts → NoNames parts
definition_fits (a_part a (a_word {token = opens} o (a_part {tree = members} b (a_word {token = closes} c (a_word {token = semicolon} w at_end))))) =
    no_token (more (leaf opens) (more members (more (leaf closes) (more (leaf semicolon) none)))) (λ x. refl) a
    (open_brace_no_name opens o, no_token (more (leaf closes) (more (leaf semicolon) none)) (λ x. refl) b (close_brace_no_name closes c, (semicolon_no_name semicolon w, tt)))

struct_fits : {parts : PlainTrees} → Row (row k.StructDeclaration) parts → NoNames parts
struct_fits (a_part a (a_word {token = token} w at_end)) = no_token (more (leaf token) none) (λ x. refl) a (semicolon_no_name token w, tt)

selection_fits : {parts : PlainTrees} → Row (row k.Selection) parts → IsSelection parts
selection_fits (a_part a (a_word {token = sign} s (a_word {token = name} n at_end))) = (select_no_name sign s, is_a_name name n)

fits : (category : Category) (kind : Kind) {parts : PlainTrees} → Shaped (shape category kind) parts → Fits kind parts
fits category k.Selection (a_row row) = selection_fits row
fits category k.Declaration (a_row row) = declaration_fits (λ x. refl) (λ x. refl) row
fits category k.LocalDeclaration (a_row row) = declaration_fits (λ x. refl) (λ x. refl) row
fits category k.Member (a_row row) = declaration_fits (λ x. refl) (λ x. refl) row
fits category k.StructDefinition (a_row row) = definition_fits row
fits category k.StructDeclaration (a_row row) = struct_fits row
fits category _ shaped = tt

-- ---- what is derived

words_punctuated : (words : List Terminal) (parts : PlainTrees) → IsTrue (are_words words parts) → ArePunctuated parts
words_punctuated words none h = tt
words_punctuated [] (more tree rest) h = none_such h
words_punctuated (first ∷ words) (more (leaf token) rest) h =
    let both = and_parts (same first (terminal token)) (are_words words rest) h in (tt, words_punctuated words rest both.1)
words_punctuated (first ∷ words) (more (node kind parts) rest) h = none_such h

by_words : (words : List Terminal) (parts : PlainTrees) (b c : Bool) → are_words words parts ≡ b → (IsTrue c → ArePunctuated parts) → IsTrue (b || c) → ArePunctuated parts
by_words words parts true c e others h = words_punctuated words parts e
by_words words parts false c e others h = others h

lists_punctuated : (lists : List (List Terminal)) (parts : PlainTrees) → IsTrue (are_words_of lists parts) → ArePunctuated parts
lists_punctuated [] parts h = none_such h
lists_punctuated (words ∷ lists) parts h =
    by_words words parts (are_words words parts) (are_words_of lists parts) refl (λ m. lists_punctuated lists parts m) h

texts_punctuated : (parts : PlainTrees) → IsTrue (are_texts parts) → ArePunctuated parts
texts_punctuated none h = tt
texts_punctuated (more (leaf token) rest) h =
    let both = and_parts (is_word (t.Text ∷ []) (leaf token)) (are_texts rest) h in (tt, texts_punctuated rest both.1)
texts_punctuated (more (node kind parts) rest) h = none_such h

mutual
  derived_punctuated : {category : Category} {tree : PlainTree} → Derivation category tree → IsPunctuated tree
  derived_punctuated (single is) = tt
  derived_punctuated (made_of {category = category} kind b a shaped) = (fits category kind shaped, shaped_punctuated shaped)

  shaped_punctuated : {s : Shape} {parts : PlainTrees} → Shaped s parts → ArePunctuated parts
  shaped_punctuated (a_row row) = row_punctuated row
  shaped_punctuated (some_words {lists = lists} {parts = parts} h) = lists_punctuated lists parts h
  shaped_punctuated (some_texts {parts = parts} h any) = texts_punctuated parts h
  shaped_punctuated (one_or_more each any) = each_punctuated each
  shaped_punctuated (as_many each) = each_punctuated each
  shaped_punctuated (with_commas separated) = separated_punctuated separated
  shaped_punctuated (with_last_comma ended) = ended_punctuated ended
  shaped_punctuated (declarators_of declared) = declared_punctuated declared

  row_punctuated : {slots : List Slot} {parts : PlainTrees} → Row slots parts → ArePunctuated parts
  row_punctuated at_end = tt
  row_punctuated (a_word w row) = (tt, row_punctuated row)
  row_punctuated (perhaps_there w row) = (tt, row_punctuated row)
  row_punctuated (not_there row) = row_punctuated row
  row_punctuated (a_star w row) = (tt, row_punctuated row)
  row_punctuated (no_star row) = row_punctuated row
  row_punctuated (a_part part row) = (derived_punctuated part, row_punctuated row)
  row_punctuated (left_out row) = ((tt, tt), row_punctuated row)
  row_punctuated (given part row) = (derived_punctuated part, row_punctuated row)

  pub each_punctuated : {each : Category} {parts : PlainTrees} → Each each parts → ArePunctuated parts
  each_punctuated no_more = tt
  each_punctuated (one_more part rest) = (derived_punctuated part, each_punctuated rest)

  separated_punctuated : {each : Category} {parts : PlainTrees} → Separated each parts → ArePunctuated parts
  separated_punctuated (last_one part) = (derived_punctuated part, tt)
  separated_punctuated (next_one part w rest) = (derived_punctuated part, (tt, separated_punctuated rest))

  ended_punctuated : {each : Category} {parts : PlainTrees} → Ended each parts → ArePunctuated parts
  ended_punctuated (ends part) = (derived_punctuated part, tt)
  ended_punctuated (ends_in_comma part w) = (derived_punctuated part, (tt, tt))
  ended_punctuated (goes_on part w rest) = (derived_punctuated part, (tt, ended_punctuated rest))

  declared_punctuated : {role : Role} {parts : PlainTrees} → Declared role parts → ArePunctuated parts
  declared_punctuated (last_plain part) = (derived_punctuated part, tt)
  declared_punctuated (last_initialised may part w value) = (derived_punctuated part, (tt, (derived_punctuated value, tt)))
  declared_punctuated (next_plain part w rest) = (derived_punctuated part, (tt, declared_punctuated rest))
  declared_punctuated (next_initialised may part w value v rest) =
      (derived_punctuated part, (tt, (derived_punctuated value, (tt, declared_punctuated rest))))
