-- The words of types, and the tags that they declare.
use Rattle.std.proofs.Common.{◌≡◌, ℕ, Bool, true, false, List, [], ◌∷◌, ◌++◌, refl, sym, ap, subst, ◌∙◌, IsTrue}
use Rattle.std.specs.Prelude.{Option, Some, None, not, if◌then◌else◌, ◌&&◌, ◌||◌}
use Rattle.std.specs.List.{list_any, list_all}
use Rattle.std.proofs.lemmas.Bool.{and_parts, false≢true}
use Rattle.c_text.specs.Token.{PlainToken}
use Rattle.c_types.specs.Types.{structure}
use Rattle.c_tree.specs.declared.terminals.Terminal.{Terminal}
use Rattle.c_tree.specs.declared.terminals.Terminal.TheVariants as t
use Rattle.c_tree.specs.Terminals.{terminal, same}
use Rattle.c_tree.specs.Trees.{PlainTrees, leaf, node, none, more}
use Rattle.c_tree.specs.Grammar.{are_words, are_words_of}
use Rattle.c_tree.proofs.TerminalCases.{same-true}
use Rattle.core_meaning.specs.Checking.{Entity, struct_entity, ◌>>=◌, give, or_broken, declares}
use Rattle.core_meaning.specs.Entities.{Scope}
use Rattle.core_meaning.specs.Expressions.{has_terminal, arithmetic_words}
use Rattle.core_meaning.specs.Declarations.{name_in, Based, based, based_on_tag}
use Rattle.bindings.specs.Visible.{tags as tag_space, look_up, bound_to, undeclared, Occurrence, Reading, passed, occurs, tag_found, tag_named}
use Rattle.bindings.specs.Bindings.{is_name, read_words}
use Rattle.bindings.specs.Judged.{Identified, identified}
use Rattle.bindings.proofs.Histories.{first_again}
use Rattle.bindings.proofs.Follows.{Adds, adds_none, adds_both, renamed_one, Follows, yields}
use Rattle.bindings.proofs.Types.{Made, made_words}
use Rattle.bindings.proofs.Related.{Room, numbering, related_same, one_occurrence, bound_first, one_undeclared}
use Rattle.bindings.proofs.Expressions.{nameless, turned, Rel, After, Goal, then_quietly, quietly}
use Rattle.bindings.proofs.Operators.{Anything}

-- ---- reading only adds

tag_adds : (may_declare : Bool) (token : PlainToken) (found : Option ℕ) (r : Reading) → Adds r.found (tag_found may_declare token found r).found
tag_adds may_declare token (Some by) r = record { others = record { number = r.next; token = token; binding = bound_to by; uses_file_name = false } ∷ []; is = refl }
tag_adds true token None r = record { others = record { number = r.next; token = token; binding = bound_to r.next; uses_file_name = false } ∷ []; is = refl }
tag_adds false token None r = record { others = record { number = r.next; token = token; binding = undeclared; uses_file_name = false } ∷ []; is = refl }

word_adds : (may_declare b : Bool) (token : PlainToken) (r : Reading) → Adds r.found (if b then tag_named may_declare token r else passed r).found
word_adds may_declare true token r = tag_adds may_declare token (look_up tag_space token.text r.file) r
word_adds may_declare false token r = adds_none r.found

pub words_add : (may_declare : Bool) (words : PlainTrees) (r : Reading) → Adds r.found (read_words may_declare words r).found
words_add may_declare none r = adds_none r.found
words_add may_declare (more (leaf token) rest) r =
    adds_both (word_adds may_declare (is_name token) token r) (words_add may_declare rest (if is_name token then tag_named may_declare token r else passed r))
words_add may_declare (more (node kind parts) rest) r = adds_both (Rattle.bindings.proofs.Expressions.expressions_add parts r) (words_add may_declare rest (Rattle.bindings.specs.Bindings.read_expressions parts r))

-- ---- the form of words: a struct's tag stands last, and other types have no name

abbrev tag_last : List Terminal → Bool
tag_last [] = false
tag_last (k ∷ []) = same k t.Name
tag_last (k ∷ (l ∷ ks)) = not (same k t.Name) && not (same k t.OpenBracket) && tag_last (l ∷ ks)

abbrev pub well_worded : List Terminal → Bool
well_worded ws = if list_any (same t.Struct) ws then tag_last ws else nameless ws

pub record ReadsTag (may_declare : Bool) (words : PlainTrees) (tag : PlainToken) (r : Reading) (P : Reading → Type 0) : Type 0 where
  pub s : Reading
  pub still : P s
  pub is : read_words may_declare words r ≡ tag_named may_declare tag s

pub record TagWords (words : PlainTrees) : Type 1 where
  pub tag : PlainToken
  pub name : name_in words ≡ Some tag
  pub reads : (may_declare : Bool) (r : Reading) (P : Reading → Type 0) → ((s : Reading) → P s → P (passed s)) → P r → ReadsTag may_declare words tag r P

abbrev pub PlainWords : PlainTrees → Type 1
PlainWords words = (may_declare : Bool) (r : Reading) (P : Reading → Type 0) → ((s : Reading) → P s → P (passed s)) → P r → P (read_words may_declare words r)

pub data WordForm (words : PlainTrees) : Type 1 where
  with_tag : has_terminal t.Struct words ≡ true → TagWords words → WordForm words
  without_tag : has_terminal t.Struct words ≡ false → PlainWords words → WordForm words

other_word : (k l : Terminal) (token : PlainToken) → same k (terminal token) ≡ true → same l k ≡ false → same l (terminal token) ≡ false
other_word k l token h other = subst (λ x. same l x ≡ false) (same-true k (terminal token) h) other

turned_bracket : (w : Terminal) → not (same w t.OpenBracket) ≡ true → same t.OpenBracket w ≡ false
turned_bracket t.OpenBracket free = absurd cc
turned_bracket _ free = refl

tag_words_form : (ws : List Terminal) (words : PlainTrees) → IsTrue (are_words ws words) → tag_last ws ≡ true → TagWords words
tag_words_form [] words h last = absurd cc
tag_words_form (k ∷ ks) none h last = absurd cc
tag_words_form (k ∷ ks) (more (node kind parts) rest) h last = absurd cc
tag_words_form (k ∷ []) (more (leaf token) (more second rest)) h last = absurd (false≢true (and_parts (same k (terminal token)) false h).1)
tag_words_form (k ∷ []) (more (leaf token) none) h last =
    let word = and_parts (same k (terminal token)) true h in
    let is : is_name token ≡ true = subst (λ x. same t.Name x ≡ true) (sym (same-true k t.Name last) ∙ same-true k (terminal token) word.0) refl in
    record {
      tag = token;
      name = ap (λ b. if b then Some token else (if same t.OpenBracket (terminal token) then None else None)) is;
      reads = λ may_declare r P step p. record { s = r; still = p; is = ap (λ b. if b then tag_named may_declare token r else passed r) is };
    }
tag_words_form (k ∷ (l ∷ ks)) (more (leaf token) rest) h last =
    let word = and_parts (same k (terminal token)) (are_words (l ∷ ks) rest) h in
    let outer = and_parts (not (same k t.Name) && not (same k t.OpenBracket)) (tag_last (l ∷ ks)) last in
    let inner = and_parts (not (same k t.Name)) (not (same k t.OpenBracket)) outer.0 in
    let others = tag_words_form (l ∷ ks) rest word.1 outer.1 in
    let no_name : is_name token ≡ false = other_word k t.Name token word.0 (turned k inner.0) in
    let no_bracket : same t.OpenBracket (terminal token) ≡ false = other_word k t.OpenBracket token word.0 (turned_bracket k inner.1) in
    record {
      tag = others.tag;
      name = ap (λ b. if b then Some token else if same t.OpenBracket (terminal token) then None else name_in rest) no_name ∙ ap (λ b. if b then None else name_in rest) no_bracket ∙ others.name;
      reads = λ may_declare r P step p. let read = others.reads may_declare (passed r) P step (step r p) in
          record { s = read.s; still = read.still; is = ap (λ b. read_words may_declare rest (if b then tag_named may_declare token r else passed r)) no_name ∙ read.is };
    }

pub plain_words_form : (ws : List Terminal) (words : PlainTrees) → IsTrue (are_words ws words) → nameless ws ≡ true → PlainWords words
plain_words_form [] none h free may_declare r P step p = p
plain_words_form [] (more first rest) h free may_declare r P step p = absurd cc
plain_words_form (k ∷ ks) none h free may_declare r P step p = absurd cc
plain_words_form (k ∷ ks) (more (node kind parts) rest) h free may_declare r P step p = absurd cc
plain_words_form (k ∷ ks) (more (leaf token) rest) h free may_declare r P step p =
    let word = and_parts (same k (terminal token)) (are_words ks rest) h in
    let frees = and_parts (not (same k t.Name)) (nameless ks) free in
    subst (λ b. P (read_words may_declare rest (if b then tag_named may_declare token r else passed r))) (sym (other_word k t.Name token word.0 (turned k frees.0)))
    (plain_words_form ks rest word.1 frees.1 may_declare (passed r) P step (step r p))

has_same : (ws : List Terminal) (words : PlainTrees) → IsTrue (are_words ws words) → has_terminal t.Struct words ≡ list_any (same t.Struct) ws
has_same [] none h = refl
has_same [] (more first rest) h = absurd cc
has_same (k ∷ ks) none h = absurd cc
has_same (k ∷ ks) (more (node kind parts) rest) h = absurd cc
has_same (k ∷ ks) (more (leaf token) rest) h =
    let word = and_parts (same k (terminal token)) (are_words ks rest) h in
    ap (λ x. same t.Struct x || has_terminal t.Struct rest) (sym (same-true k (terminal token) word.0)) ∙ ap (λ b. same t.Struct k || b) (has_same ks rest word.1)

word_form : (ws : List Terminal) (words : PlainTrees) → IsTrue (are_words ws words) → (b : Bool) → list_any (same t.Struct) ws ≡ b → (if b then tag_last ws else nameless ws) ≡ true → WordForm words
word_form ws words h true e well = with_tag (has_same ws words h ∙ e) (tag_words_form ws words h well)
word_form ws words h false e well = without_tag (has_same ws words h ∙ e) (plain_words_form ws words h well)

pub words_form : (lists : List (List Terminal)) (words : PlainTrees) → IsTrue (are_words_of lists words) → list_all well_worded lists ≡ true → WordForm words
words_form [] words h well = absurd cc
words_form (ws ∷ lists) words h well =
    let both = and_parts (well_worded ws) (list_all well_worded lists) well in
    by (are_words ws words) refl both.0 (λ others. words_form lists words others both.1) h
  where
    by : (b : Bool) → are_words ws words ≡ b → well_worded ws ≡ true → (IsTrue (are_words_of lists words) → WordForm words) → IsTrue (b || are_words_of lists words) → WordForm words
    by true e here others h = word_form ws words e (list_any (same t.Struct) ws) refl here
    by false e here others h = others h

-- ---- a tag that is visible, or nowhere

module _ (at : ℕ → Entity) (taken : Room) (scope : Scope) where
  tag_use :
      (may_declare : Bool) (r : Reading) (h : List Identified) (tag : PlainToken) (n : ℕ) → scope.tags tag.text ≡ Some n → Rel at taken scope r h
      → Goal at taken scope Anything h r.found (tag_named may_declare tag r) (declares (struct_entity n))
  tag_use may_declare r h tag n e rel =
      let f = rel.tagged tag.text n e in
      subst (λ x. Goal at taken scope Anything h r.found (tag_found may_declare tag x r) (declares (struct_entity n))) (sym f.found.entry)
      (let o : Occurrence = record { number = r.next; token = tag; binding = bound_to f.found.by.number; uses_file_name = false } in
      let i : Identified = identified o (renamed_one (numbering at) (record { entity = struct_entity n; in_expression = false })) in
      one_occurrence (numbering at) h r.found o (record { entity = struct_entity n; in_expression = false }) (λ g. Unit {0} × Rel at taken scope (occurs tag (bound_to f.found.by.number) r) g) refl refl
      (bound_first h r.next tag (bound_to f.found.by.number) false (struct_entity n) f.found.by refl f.found.first)
      (tt, related_same at taken scope r.file r.blocks h (h ++ i ∷ []) (first_again h i f.found.by f.found.first) rel))

  abbrev pub BasedHere : Based → Type 0
  BasedHere b = Made scope.tags b.ty

  tag_read :
      (r : Reading) (h : List Identified) (tag : PlainToken) → Rel at taken scope r h → (n : Option ℕ) → scope.tags tag.text ≡ n
      → Goal at taken scope BasedHere h r.found (tag_named false tag r) (based_on_tag false scope tag n)
  tag_read r h tag rel (Some n) e =
      then_quietly at taken scope Anything BasedHere h r.found (tag_named false tag r) (declares (struct_entity n)) (λ bound. give (record { ty = structure n; scope = scope }))
      (tag_use false r h tag n e rel) (λ x any. yields BasedHere (record { ty = structure n; scope = scope }) (record { tag = tag.text; is = e }))
  tag_read r h tag rel None e =
      subst (λ x. Rattle.bindings.proofs.Follows.Unbound r.found (tag_found false tag x r).found tag) (sym (rel.no_tag tag.text e)) (one_undeclared tag r.found r.next undeclared false refl)

  -- the words of a type where they declare no struct
  pub based_read :
      (words : PlainTrees) → WordForm words → (r : Reading) (h : List Identified) → Rel at taken scope r h
      → Goal at taken scope BasedHere h r.found (read_words false words r) (based false scope words)
  based_read words (with_tag has w) r h rel =
      let read = w.reads false r (λ s. Rel at taken scope s h × (s.found ≡ r.found)) (λ s p. p) (rel, refl) in
      subst (λ b. Goal at taken scope BasedHere h r.found (read_words false words r) (if b then or_broken (name_in words) >>= (λ tag. based_on_tag false scope tag (scope.tags tag.text)) else give (record { ty = arithmetic_words words; scope = scope }))) (sym has)
      (subst (λ x. Goal at taken scope BasedHere h r.found (read_words false words r) (or_broken x >>= (λ tag. based_on_tag false scope tag (scope.tags tag.text)))) (sym w.name)
      (Rattle.bindings.proofs.Follows.quietly_before (numbering at) h r.found (read_words false words r).found (λ x. w.tag ≡ x) (After at taken scope BasedHere (read_words false words r)) (give w.tag) (λ tag. based_on_tag false scope tag (scope.tags tag.text)) (yields (λ x. w.tag ≡ x) w.tag refl)
      (λ tag any. subst (λ x. Goal at taken scope BasedHere h r.found (read_words false words r) (based_on_tag false scope x (scope.tags x.text))) any
      (subst (λ s. Goal at taken scope BasedHere h r.found s (based_on_tag false scope w.tag (scope.tags w.tag.text))) (sym read.is)
      (subst (λ f. Goal at taken scope BasedHere h f (tag_named false w.tag read.s) (based_on_tag false scope w.tag (scope.tags w.tag.text))) read.still.1
      (tag_read read.s h w.tag read.still.0 (scope.tags w.tag.text) refl))))))
  based_read words (without_tag has plain) r h rel =
      let still = plain false r (λ s. Rel at taken scope s h × (s.found ≡ r.found)) (λ s p. p) (rel, refl) in
      subst (λ b. Goal at taken scope BasedHere h r.found (read_words false words r) (if b then or_broken (name_in words) >>= (λ tag. based_on_tag false scope tag (scope.tags tag.text)) else give (record { ty = arithmetic_words words; scope = scope }))) (sym has)
      (subst (λ f. Goal at taken scope BasedHere h f (read_words false words r) (give (record { ty = arithmetic_words words; scope = scope }))) still.1
      (quietly at taken scope BasedHere h (read_words false words r) (give (record { ty = arithmetic_words words; scope = scope })) still.0 (yields BasedHere (record { ty = arithmetic_words words; scope = scope }) (made_words scope.tags words))))

-- the words of a tag
alone : (b : Bool) → (b || false) ≡ true → b ≡ true
alone true h = refl
alone false h = h

pub record TagForm (words : PlainTrees) : Type 1 where
  pub has : has_terminal t.Struct words ≡ true
  pub form : TagWords words

pub tag_form : (words : PlainTrees) → IsTrue (are_words_of (Rattle.c_tree.specs.Grammar.tag_words ∷ []) words) → TagForm words
tag_form words h =
    let is : are_words Rattle.c_tree.specs.Grammar.tag_words words ≡ true = alone (are_words Rattle.c_tree.specs.Grammar.tag_words words) h in
    record { has = has_same Rattle.c_tree.specs.Grammar.tag_words words is; form = tag_words_form Rattle.c_tree.specs.Grammar.tag_words words is refl }
