-- The words of a type: a struct's tag stands last, and other words are no identifiers.
use Rattle.std.proofs.Common.{◌≡◌, Bool, true, false, List, [], ◌∷◌, refl, sym, ap, subst, ◌∙◌, IsTrue}
use Rattle.std.specs.Prelude.{not, ◌&&◌, ◌||◌, Some, None, if◌then◌else◌}
use Rattle.std.specs.List.{list_any, list_all}
use Rattle.std.proofs.lemmas.Bool.{and_parts, false≢true}
use Rattle.c_text.specs.Token.{PlainToken}
use Rattle.c_tree.specs.declared.terminals.Terminal.{Terminal}
use Rattle.c_tree.specs.declared.terminals.Terminal.TheVariants as t
use Rattle.c_tree.specs.Terminals.{terminal, same}
use Rattle.c_tree.specs.Trees.{PlainTrees, leaf, node, none, more}
use Rattle.c_tree.specs.Grammar.{are_words, are_words_of}
use Rattle.c_tree.proofs.TerminalCases.{same-true}
use Rattle.core_meaning.specs.Declarations.{name_in}
use Rattle.core_meaning.specs.Expressions.{has_terminal}
use Rattle.bindings.specs.Bindings.{is_name}
use Rattle.member_uses.specs.Uses.{names_among}
use Rattle.member_uses.proofs.Parts.{word_names}

-- ---- what the words are

abbrev nameless : List Terminal → Bool
nameless [] = true
nameless (k ∷ ks) = not (same t.Name k) && nameless ks

abbrev tagged : List Terminal → Bool
tagged [] = false
tagged (k ∷ []) = same k t.Name
tagged (k ∷ (l ∷ ks)) = not (same t.Name k) && not (same t.OpenBracket k) && tagged (l ∷ ks)

abbrev pub well_formed : List Terminal → Bool
well_formed ws = if list_any (same t.Struct) ws then tagged ws else nameless ws

pub record IsTagged (words : PlainTrees) : Type 0 where
  pub tag : PlainToken
  pub name : name_in words ≡ Some tag
  pub names : names_among words ≡ tag ∷ []

pub data Words (words : PlainTrees) : Type 0 where
  with_tag : has_terminal t.Struct words ≡ true → IsTagged words → Words words
  without_tag : has_terminal t.Struct words ≡ false → names_among words ≡ [] → Words words

-- ---- by their terminals

other : (b : Bool) → not b ≡ true → b ≡ false
other true h = absurd (false≢true h)
other false h = refl

-- a word is of its terminal
word_is : (wanted k : Terminal) (token : PlainToken) → same k (terminal token) ≡ true → same wanted (terminal token) ≡ same wanted k
word_is wanted k token h = ap (same wanted) (sym (same-true k (terminal token) h))

pub no_names : (ws : List Terminal) (words : PlainTrees) → IsTrue (are_words ws words) → nameless ws ≡ true → names_among words ≡ []
no_names [] none h free = refl
no_names [] (more first rest) h free = absurd cc
no_names (k ∷ ks) none h free = absurd cc
no_names (k ∷ ks) (more (node kind parts) rest) h free = absurd cc
no_names (k ∷ ks) (more (leaf token) rest) h free =
    let word = and_parts (same k (terminal token)) (are_words ks rest) h in
    let frees = and_parts (not (same t.Name k)) (nameless ks) free in
    word_names token rest (word_is t.Name k token word.0 ∙ other (same t.Name k) frees.0) ∙ no_names ks rest word.1 frees.1

last_named : (token : PlainToken) → is_name token ≡ true → IsTagged (more (leaf token) none)
last_named token is = record {
  tag = token;
  name = ap (λ b. if b then Some token else (if same t.OpenBracket (terminal token) then None else None)) is;
  names = ap (λ b. Rattle.std.specs.Prelude.◌++◌ (if b then token ∷ [] else []) []) is;
}

tag_is : (ws : List Terminal) (words : PlainTrees) → IsTrue (are_words ws words) → tagged ws ≡ true → IsTagged words
tag_is [] words h last = absurd cc
tag_is (k ∷ ks) none h last = absurd cc
tag_is (k ∷ ks) (more (node kind parts) rest) h last = absurd cc
tag_is (k ∷ []) (more (leaf token) (more second rest)) h last = absurd (false≢true (and_parts (same k (terminal token)) false h).1)
tag_is (k ∷ []) (more (leaf token) none) h last =
    let word = and_parts (same k (terminal token)) true h in
    last_named token (subst (λ x. same t.Name x ≡ true) (sym (same-true k t.Name last) ∙ same-true k (terminal token) word.0) refl)
tag_is (k ∷ (l ∷ ks)) (more (leaf token) rest) h last =
    let word = and_parts (same k (terminal token)) (are_words (l ∷ ks) rest) h in
    let outer = and_parts (not (same t.Name k) && not (same t.OpenBracket k)) (tagged (l ∷ ks)) last in
    let inner = and_parts (not (same t.Name k)) (not (same t.OpenBracket k)) outer.0 in
    let others = tag_is (l ∷ ks) rest word.1 outer.1 in
    let no_name : is_name token ≡ false = word_is t.Name k token word.0 ∙ other (same t.Name k) inner.0 in
    let no_bracket : same t.OpenBracket (terminal token) ≡ false = word_is t.OpenBracket k token word.0 ∙ other (same t.OpenBracket k) inner.1 in
    record {
      tag = others.tag;
      name = ap (λ b. if b then Some token else if same t.OpenBracket (terminal token) then None else name_in rest) no_name ∙ (ap (λ b. if b then None else name_in rest) no_bracket ∙ others.name);
      names = word_names token rest no_name ∙ others.names;
    }

has_same : (ws : List Terminal) (words : PlainTrees) → IsTrue (are_words ws words) → has_terminal t.Struct words ≡ list_any (same t.Struct) ws
has_same [] none h = refl
has_same [] (more first rest) h = absurd cc
has_same (k ∷ ks) none h = absurd cc
has_same (k ∷ ks) (more (node kind parts) rest) h = absurd cc
has_same (k ∷ ks) (more (leaf token) rest) h =
    let word = and_parts (same k (terminal token)) (are_words ks rest) h in
    ap (λ x. same t.Struct x || has_terminal t.Struct rest) (sym (same-true k (terminal token) word.0)) ∙ ap (λ b. same t.Struct k || b) (has_same ks rest word.1)

words_by : (ws : List Terminal) (words : PlainTrees) → IsTrue (are_words ws words) → (b : Bool) → list_any (same t.Struct) ws ≡ b → (if b then tagged ws else nameless ws) ≡ true → Words words
words_by ws words h true e well = with_tag (has_same ws words h ∙ e) (tag_is ws words h well)
words_by ws words h false e well = without_tag (has_same ws words h ∙ e) (no_names ws words h well)

pub words_are : (lists : List (List Terminal)) (words : PlainTrees) → IsTrue (are_words_of lists words) → list_all well_formed lists ≡ true → Words words
words_are [] words h well = absurd cc
words_are (ws ∷ lists) words h well =
    let both = and_parts (well_formed ws) (list_all well_formed lists) well in
    by (are_words ws words) refl both.0 (λ others. words_are lists words others both.1) h
  where
    by : (b : Bool) → are_words ws words ≡ b → well_formed ws ≡ true → (IsTrue (are_words_of lists words) → Words words) → IsTrue (b || are_words_of lists words) → Words words
    by true e here others h = words_by ws words e (list_any (same t.Struct) ws) refl here
    by false e here others h = others h
