-- What the spelling of a token tells of it.
use Rattle.std.proofs.Common.{◌≡◌, ℕ, Bool, true, false, not, ◌||◌, List, [], ◌∷◌, refl, sym, subst, ◌∙◌}
use Rattle.std.specs.Prelude.{Some, is_some, codes, if◌then◌else◌}
use Rattle.std.specs.List.{list_all}
use Rattle.std.specs.Str.{bytes_eq}
use Rattle.std.specs.Cmp.Lexicographic.{bytes_decides}
use Rattle.std.proofs.lemmas.Bool.{and_parts, false≢true}
use Rattle.c_text.specs.declared.token.TokenKind.{TokenKind}
use Rattle.c_text.specs.declared.token.TokenKind.TheVariants as token
use Rattle.c_text.specs.Token.{PlainToken}
use Rattle.c_names.specs.Names.{is_identifier}
use Rattle.c_text.specs.Constants.{quoted_values}
use Rattle.c_tree.specs.declared.terminals.Terminal.{Terminal}
use Rattle.c_tree.specs.declared.terminals.Terminal.TheVariants as t
use Rattle.c_tree.specs.Terminals.{Spelling, terminal, terminal_of, found, keywords, punctuators, same, is_one_of}
use Rattle.c_tree.specs.Trees.{PlainTree, PlainTrees, leaf, node, none, more}
use Rattle.c_tree.proofs.TerminalCases.{same-true, one_of}
use Rattle.core_meaning.specs.Expressions.{operator_named, compound_operator}
use Rattle.tree_derivations.specs.Derivations.{IsWord}
use Rattle.bindings.specs.Bindings.{is_name}

-- what judging and reading need of a token
pub record Told (token : PlainToken) : Type 0 where
  pub identifier : terminal token ≡ t.Name → is_identifier token.text ≡ true
  pub no_identifier : IsWord (t.Number ∷ t.Character ∷ []) token → is_identifier token.text ≡ false
  pub character : terminal token ≡ t.Character → (byte : ℕ) × (quoted_values token.text ≡ Some (byte ∷ []))
  pub text : terminal token ≡ t.Text → (bytes : List ℕ) × (quoted_values token.text ≡ Some bytes)

abbrev mutual
  pub Holds : PlainTree → Type 0
  Holds (leaf token) = Told token
  Holds (node kind parts) = AllHold parts

  pub AllHold : PlainTrees → Type 0
  AllHold none = Unit {0}
  AllHold (more tree rest) = Holds tree × AllHold rest

-- ---- terminals

-- words of other terminals are no names
pub no_name : (ts : List Terminal) (token : PlainToken) → is_one_of ts t.Name ≡ false → IsWord ts token → is_name token ≡ false
no_name ts token never h = by (is_name token) refl
  where
    by : (b : Bool) → is_name token ≡ b → is_name token ≡ false
    by false e = e
    by true e = absurd (false≢true (sym never ∙ subst (λ k. is_one_of ts k ≡ true) (sym (same-true t.Name (terminal token) e)) h))

pub a_name : (token : PlainToken) → IsWord (t.Name ∷ []) token → is_name token ≡ true
a_name token h = one_of (λ k. same t.Name k ≡ true) (t.Name ∷ []) (terminal token) h (refl, tt)

-- ---- what holds of each terminal and its spellings holds of a token

record Everywhere (test : List ℕ → Terminal → Bool) : Type 0 where
  of_name : (text : List ℕ) → test text t.Name ≡ true
  of_number : (text : List ℕ) → test text t.Number ≡ true
  of_character : (text : List ℕ) → test text t.Character ≡ true
  of_text : (text : List ℕ) → test text t.Text ≡ true
  of_other : (text : List ℕ) → test text t.Other ≡ true
  of_keywords : list_all (λ s. test s.text s.terminal) keywords ≡ true
  of_punctuators : list_all (λ s. test s.text s.terminal) punctuators ≡ true

found_all : (test : List ℕ → Terminal → Bool) (l : List Spelling) (text : List ℕ) → list_all (λ s. test s.text s.terminal) l ≡ true → test text t.Other ≡ true → test text (found text l) ≡ true
found_all test [] text h other = other
found_all test (first ∷ rest) text h other =
    let both = and_parts (test first.text first.terminal) (list_all (λ s. test s.text s.terminal) rest) h in
    by (bytes_eq text first.text) refl both.0 (found_all test rest text both.1 other)
  where
    by : (b : Bool) → bytes_eq text first.text ≡ b → test first.text first.terminal ≡ true → test text (found text rest) ≡ true → test text (if b then first.terminal else found text rest) ≡ true
    by true e here there = subst (λ x. test x first.terminal ≡ true) (sym ((bytes_decides text first.text).0 e)) here
    by false e here there = there

of_kind : (test : List ℕ → Terminal → Bool) → Everywhere test → (kind : TokenKind) (text : List ℕ) → test text (terminal_of kind text) ≡ true
of_kind test e token.Name text = e.of_name text
of_kind test e token.Keyword text = found_all test keywords text e.of_keywords (e.of_other text)
of_kind test e token.Number text = e.of_number text
of_kind test e token.Character text = e.of_character text
of_kind test e token.Text text = e.of_text text
of_kind test e token.Punctuator text = found_all test punctuators text e.of_punctuators (e.of_other text)
of_kind test e (token.Bad kind) text = e.of_other text

-- a token of these terminals passes the test
abbrev of_terminals : List Terminal → (List ℕ → Bool) → List ℕ → Terminal → Bool
of_terminals ts test text k = not (is_one_of ts k) || test text

passes : (ts : List Terminal) (test : List ℕ → Bool) (token : PlainToken) → Everywhere (of_terminals ts test) → IsWord ts token → test token.text ≡ true
passes ts test token e h = by (is_one_of ts (terminal token)) h (of_kind (of_terminals ts test) e token.kind token.text)
  where
    by : (b : Bool) → b ≡ true → (not b || test token.text) ≡ true → test token.text ≡ true
    by true e h = h
    by false e h = absurd (false≢true e)

abbrev pub steps : List Terminal
steps = t.Step ∷ []

abbrev pub assignments : List Terminal
assignments = t.Assign ∷ t.CompoundAssign ∷ []

-- the operators on two values but for `&&` and `||`
abbrev pub operators : List Terminal
operators = t.Sign ∷ t.Star ∷ t.Divide ∷ t.Shift ∷ t.Relation ∷ t.Equality ∷ t.Caret ∷ t.Bar ∷ t.Ampersand ∷ []

pub step_named : (token : PlainToken) → IsWord steps token → is_some (compound_operator token.text) ≡ true
step_named token h = passes steps (λ text. is_some (compound_operator text)) token (record { of_name = λ text. refl; of_number = λ text. refl; of_character = λ text. refl; of_text = λ text. refl; of_other = λ text. refl; of_keywords = refl; of_punctuators = refl }) h

pub assignment_named : (token : PlainToken) → IsWord assignments token → (bytes_eq token.text (codes "=") || is_some (compound_operator token.text)) ≡ true
assignment_named token h = passes assignments (λ text. bytes_eq text (codes "=") || is_some (compound_operator text)) token (record { of_name = λ text. refl; of_number = λ text. refl; of_character = λ text. refl; of_text = λ text. refl; of_other = λ text. refl; of_keywords = refl; of_punctuators = refl }) h

pub operator_found : (token : PlainToken) → IsWord operators token → is_some (operator_named token.text) ≡ true
operator_found token h = passes operators (λ text. is_some (operator_named text)) token (record { of_name = λ text. refl; of_number = λ text. refl; of_character = λ text. refl; of_text = λ text. refl; of_other = λ text. refl; of_keywords = refl; of_punctuators = refl }) h

-- names, numbers, characters and texts
abbrev pub singles : List Terminal
singles = t.Name ∷ t.Number ∷ t.Character ∷ t.Text ∷ []

pub keyword_other : (text : List ℕ) → is_one_of singles (found text keywords) ≡ false
keyword_other text = Rattle.std.proofs.lemmas.Bool.not-true (is_one_of singles (found text keywords)) (found_all (λ text k. not (is_one_of singles k)) keywords text refl refl)

pub punctuator_other : (text : List ℕ) → is_one_of singles (found text punctuators) ≡ false
punctuator_other text = Rattle.std.proofs.lemmas.Bool.not-true (is_one_of singles (found text punctuators)) (found_all (λ text k. not (is_one_of singles k)) punctuators text refl refl)
