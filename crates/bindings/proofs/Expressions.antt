-- Expressions are read as they are judged.
use Rattle.std.proofs.Common.{◌≡◌, ℕ, Bool, true, false, List, [], ◌∷◌, ◌++◌, refl, sym, ap, subst, ◌∙◌, IsTrue}
use Rattle.std.specs.Prelude.{Option, Some, None, is_some, slice_get, codes, pos, not, if◌then◌else◌, ◌&&◌, ◌||◌, ◌==◌}
use Rattle.std.specs.List.{list_all}
use Rattle.std.specs.Str.{bytes_eq}
use Rattle.std.specs.Cmp.Lexicographic.{bytes_decides}
use Rattle.std.proofs.lemmas.Bool.{and_parts, and_from, false≢true}
use Rattle.c_text.specs.Token.{PlainToken}
use Rattle.c_text.specs.Constants.{quoted_values}
use Rattle.c_types.specs.Types.{PlainType, structure, pointer_to}
use Rattle.c_tree.specs.declared.kinds.Kind.TheVariants as k
use Rattle.c_tree.specs.declared.terminals.Terminal.{Terminal}
use Rattle.c_tree.specs.declared.terminals.Terminal.TheVariants as t
use Rattle.c_tree.specs.Terminals.{terminal, same, is_one_of}
use Rattle.c_tree.specs.Trees.{PlainTree, PlainTrees, leaf, node, none, more}
use Rattle.c_tree.specs.Grammar.{are_texts, any_part, are_words, are_words_of, is_word}
use Rattle.c_tree.proofs.TerminalCases.{one_of, same-true}
use Rattle.core_meaning.specs.Program.{PlainPlace, constant}
use Rattle.core_meaning.specs.Checking.{Entity, local_entity, file_entity, struct_entity, member_entity, Checked, ◌>>=◌, give, unless_so, found_or, or_broken, uses}
use Rattle.core_meaning.specs.Entities.{Local, Sort, variable, function, FileName, Scope, local_in, entity_number}
use Rattle.core_meaning.specs.Typing.{Operand, Typed, of_object, loaded}
use Rattle.core_meaning.specs.Expressions.{single_operand, name_operand, file_name_operand, file_operand, number_operand, character_operand, character_value, text_bytes, joined_bytes, first_text, selected, member_of, member_in, member_operand, member_of_target, struct_place, is_free}
use Rattle.core_meaning.specs.declared.refusals.TypeKind.TheVariants.{Incomplete, NoMember}
use Rattle.bindings.specs.Visible.{ordinary, members_of, look_up, Binding, bound_to, undeclared, member_use, Occurrence, Reading, passed, binding_found, visible_name, is_of_file, used, member_used}
use Rattle.bindings.specs.Bindings.{is_name, read_expression, read_expressions}
use Rattle.bindings.specs.Judged.{Identified, first_with, identified}
use Rattle.bindings.proofs.Histories.{first_again}
use Rattle.bindings.proofs.Follows.{is_plain, used_alike, Adds, adds_none, adds_both, renamed_one, Follows, follows_both, quietly_follows, quietly_before, Yields, yields, yields_both}
use Rattle.bindings.proofs.Types.{Made, MadeSort, made_number}
use Rattle.bindings.proofs.Spellings.{Told, AllHold, no_name}
use Rattle.bindings.proofs.Operators.{Anything, MadeOperand, MadeTyped, loads, yields_unless, yields_found, yields_some}
use Rattle.bindings.proofs.Growing.{related_grown}
use Rattle.bindings.proofs.Related.{Room, numbering, LocalFound, TagFound, Related, related_same, one_occurrence, bound_first, one_undeclared, or_else_some, or_else_none}

-- ---- reading only adds

leaf_adds : (b : Bool) (token : PlainToken) (r : Reading) → Adds r.found (if b then used token r else passed r).found
leaf_adds true token r = record { others = record { number = r.next; token = token; binding = binding_found (visible_name token.text r); uses_file_name = is_of_file token.text r } ∷ []; is = refl }
leaf_adds false token r = adds_none r.found

mutual
  pub expression_adds : (tree : PlainTree) (r : Reading) → Adds r.found (read_expression tree r).found
  expression_adds (leaf token) r = leaf_adds (is_name token) token r
  expression_adds (node k.Selection (more whole (more (leaf sign) (more (leaf name) none)))) r =
      adds_both (expression_adds whole r) (record { others = record { number = (passed (read_expression whole r)).next; token = name; binding = member_use (λ tag. look_up (members_of tag) name.text (read_expression whole r).file); uses_file_name = false } ∷ []; is = refl })
  expression_adds (node kind parts) r = expressions_add parts r

  pub expressions_add : (trees : PlainTrees) (r : Reading) → Adds r.found (read_expressions trees r).found
  expressions_add none r = adds_none r.found
  expressions_add (more tree rest) r = adds_both (expression_adds tree r) (expressions_add rest (read_expression tree r))

-- ---- tokens that are no identifiers

abbrev pub read_leaf : PlainToken → Reading → Reading
read_leaf token r = if is_name token then used token r else passed r

pub skip : (token : PlainToken) (r : Reading) → is_name token ≡ false → (G : Reading → Type 0) → G (passed r) → G (read_leaf token r)
skip token r e G g = subst (λ b. G (if b then used token r else passed r)) (sym e) g

pub skip_texts : (parts : PlainTrees) → IsTrue (are_texts parts) → (r : Reading) (G : Reading → Type 0) → ((s : Reading) → G s → G (passed s)) → G r → G (read_expressions parts r)
skip_texts none h r G step g = g
skip_texts (more (leaf token) rest) h r G step g =
    let both = and_parts (is_word (t.Text ∷ []) (leaf token)) (are_texts rest) h in
    skip token r (no_name (t.Text ∷ []) token refl both.0) (λ s. G (read_expressions rest s)) (skip_texts rest both.1 (passed r) G step (step r g))
skip_texts (more (node kind parts) rest) h r G step g = absurd cc

-- lists of words without names
abbrev pub nameless : List Terminal → Bool
nameless [] = true
nameless (k ∷ ks) = not (same k t.Name) && nameless ks

pub turned : (w : Terminal) → not (same w t.Name) ≡ true → same t.Name w ≡ false
turned t.Name free = absurd cc
turned _ free = refl

skip_words : (ws : List Terminal) (parts : PlainTrees) → IsTrue (are_words ws parts) → nameless ws ≡ true → (r : Reading) (G : Reading → Type 0) → ((s : Reading) → G s → G (passed s)) → G r → G (read_expressions parts r)
skip_words [] none h free r G step g = g
skip_words [] (more first rest) h free r G step g = absurd cc
skip_words (w ∷ ws) none h free r G step g = absurd cc
skip_words (w ∷ ws) (more (leaf token) rest) h free r G step g =
    let both = and_parts (same w (terminal token)) (are_words ws rest) h in
    let frees = and_parts (not (same w t.Name)) (nameless ws) free in
    skip token r (other both.0 frees.0) (λ s. G (read_expressions rest s)) (skip_words ws rest both.1 frees.1 (passed r) G step (step r g))
  where
    other : same w (terminal token) ≡ true → not (same w t.Name) ≡ true → is_name token ≡ false
    other h free = subst (λ k. same t.Name k ≡ false) (same-true w (terminal token) h) (turned w free)
skip_words (w ∷ ws) (more (node kind parts) rest) h free r G step g = absurd cc

pub skip_words_of : (lists : List (List Terminal)) (parts : PlainTrees) → IsTrue (are_words_of lists parts) → list_all nameless lists ≡ true → (r : Reading) (G : Reading → Type 0) → ((s : Reading) → G s → G (passed s)) → G r → G (read_expressions parts r)
skip_words_of [] parts h free r G step g = absurd cc
skip_words_of (ws ∷ lists) parts h free r G step g =
    let both = and_parts (nameless ws) (list_all nameless lists) free in
    by (are_words ws parts) refl both.0 (λ others. skip_words_of lists parts others both.1 r G step g) h
  where
    by : (b : Bool) → are_words ws parts ≡ b → nameless ws ≡ true → (IsTrue (are_words_of lists parts) → G (read_expressions parts r)) → IsTrue (b || are_words_of lists parts) → G (read_expressions parts r)
    by true e free others h = skip_words ws parts e free r G step g
    by false e free others h = others h

some_is : {A : Type 0} (o : Option A) (x : A) → o ≡ Some x → is_some o ≡ true
some_is o x e = ap is_some e

pub bytes_known : (parts : PlainTrees) → IsTrue (are_texts parts) → AllHold parts → is_some (text_bytes parts) ≡ true
bytes_known none h holds = refl
bytes_known (more (leaf token) rest) h holds =
    let both = and_parts (is_word (t.Text ∷ []) (leaf token)) (are_texts rest) h in
    let bytes = holds.0.text (one_of (λ k. k ≡ t.Text) (t.Text ∷ []) (terminal token) both.0 (refl, tt)) in
    joined (quoted_values token.text) (text_bytes rest) (some_is (quoted_values token.text) bytes.0 bytes.1) (bytes_known rest both.1 holds.1)
  where
    joined : (a b : Option (List ℕ)) → is_some a ≡ true → is_some b ≡ true → is_some (joined_bytes a b) ≡ true
    joined (Some a) (Some b) f g = refl
    joined None b f g = absurd (false≢true f)
    joined (Some a) None f g = absurd (false≢true g)
bytes_known (more (node kind parts) rest) h holds = absurd cc

pub first_known : (parts : PlainTrees) → IsTrue (are_texts parts) → IsTrue (any_part parts) → is_some (first_text parts) ≡ true
first_known none h some = absurd (false≢true some)
first_known (more (leaf token) rest) h some = refl
first_known (more (node kind parts) rest) h some = absurd cc

-- ---- what names a use is of

of_file : (inner outer : Option ℕ) (by : ℕ) → inner ≡ None → outer ≡ Some by → (not (is_some inner) && is_some outer) ≡ true
of_file inner outer by e f = ap (λ (o : Option ℕ). not (is_some o) && is_some outer) e ∙ ap (λ (o : Option ℕ). is_some o) f

pub file_used :
    (token : PlainToken) (r : Reading) (by : ℕ) → look_up ordinary token.text r.blocks ≡ None → look_up ordinary token.text r.file ≡ Some by
    → used_alike (is_of_file token.text r) token.text (record { entity = file_entity token.text; in_expression = true }) ≡ true
file_used token r by inner outer =
    ap (λ (b : Bool). used_alike b token.text (record { entity = file_entity token.text; in_expression = true })) (of_file (look_up ordinary token.text r.blocks) (look_up ordinary token.text r.file) by inner outer)
    ∙ (bytes_decides token.text token.text).1 refl

pub block_used :
    (token : PlainToken) (r : Reading) (slot by : ℕ) → look_up ordinary token.text r.blocks ≡ Some by
    → used_alike (is_of_file token.text r) token.text (record { entity = local_entity slot; in_expression = true }) ≡ true
block_used token r slot by inner =
    ap (λ (o : Option ℕ). used_alike (not (is_some o) && is_some (look_up ordinary token.text r.file)) token.text (record { entity = local_entity slot; in_expression = true })) inner

module _ (at : ℕ → Entity) (taken : Room) (scope : Scope) where
  abbrev pub Rel : Reading → List Identified → Type 0
  Rel r h = Related at taken scope r.file r.blocks h

  -- a value of this kind, and what is visible behind it
  abbrev pub After : {A : Type 0} → (A → Type 0) → Reading → A → List Identified → Type 0
  After P r x h = P x × Rel r h

  abbrev pub Goal : {A : Type 0} → (A → Type 0) → List Identified → List Occurrence → Reading → Checked A → Type 0
  Goal P h found r c = Follows (numbering at) h found r.found (After P r) c

  abbrev pub Operands : Operand → Type 0
  Operands x = MadeOperand scope.tags x

  abbrev pub Values : Typed → Type 0
  Values x = MadeTyped scope.tags x

  -- what comes of a judgement in a quiet way
  pub then_quietly :
      {A B : Type 0} (P : A → Type 0) (Q : B → Type 0) (h : List Identified) (found : List Occurrence) (r : Reading) (c : Checked A) (next : A → Checked B)
      → Goal P h found r c → ((x : A) → P x → Yields Q (next x)) → Goal Q h found r (c >>= next)
  then_quietly P Q h found r c next f g =
      follows_both (numbering at) h found r.found r.found (After P r) (After Q r) c next f
      (λ x after v. quietly_follows (numbering at) after r.found Q (After Q r) (next x) (g x v.0) (λ y q. (q, v.1))) (adds_none r.found)

  pub quietly : {A : Type 0} (Q : A → Type 0) (h : List Identified) (r : Reading) (c : Checked A) → Rel r h → Yields Q c → Goal Q h r.found r c
  quietly Q h r c rel y = quietly_follows (numbering at) h r.found Q (After Q r) c y (λ x q. (q, rel))

  pub then_on :
      {A B : Type 0} (P : A → Type 0) (Q : B → Type 0) (h : List Identified) (found : List Occurrence) (r s : Reading) (c : Checked A) (next : A → Checked B)
      → Goal P h found r c → ((x : A) (after : List Identified) → P x → Rel r after → Goal Q after r.found s (next x)) → Adds r.found s.found
      → Goal Q h found s (c >>= next)
  then_on P Q h found r s c next f g adds =
      follows_both (numbering at) h found r.found s.found (After P r) (After Q s) c next f (λ x after v. g x after v.0 v.1) adds

  -- ---- names

  pub use_of :
      (r : Reading) (h : List Identified) (token : PlainToken) (entity : Entity) (by : Identified) → is_plain entity ≡ true
      → used_alike (is_of_file token.text r) token.text (record { entity = entity; in_expression = true }) ≡ true → visible_name token.text r ≡ Some by.number
      → first_with (numbering at entity) h ≡ Some by → Rel r h → Goal Anything h r.found (used token r) (uses entity)
  use_of r h token entity by plain alike visible first rel =
      let o : Occurrence = record { number = r.next; token = token; binding = binding_found (visible_name token.text r); uses_file_name = is_of_file token.text r } in
      one_occurrence (numbering at) h r.found o (record { entity = entity; in_expression = true }) (λ g. Unit {0} × Rel (used token r) g) plain alike
      (bound_first h r.next token (binding_found (visible_name token.text r)) (is_of_file token.text r) (numbering at entity) by (ap binding_found visible) first) (
        tt,
        related_same at taken scope r.file r.blocks h (h ++ identified o (renamed_one (numbering at) (record { entity = entity; in_expression = true })) ∷ [])
            (first_again h (identified o (renamed_one (numbering at) (record { entity = entity; in_expression = true }))) by first) rel,
      )

  file_name_read :
      (r : Reading) (h : List Identified) (token : PlainToken) → Rel r h → local_in scope.blocks token.text ≡ None → (n : Option FileName)
      → scope.file_names token.text ≡ n → Goal Operands h r.found (used token r) (file_name_operand scope token n)
  file_name_read r h token rel hidden None e =
      one_undeclared token r.found r.next (binding_found (visible_name token.text r)) (is_of_file token.text r)
      (ap binding_found (or_else_none (look_up ordinary token.text r.blocks) (look_up ordinary token.text r.file) (rel.no_local token.text hidden) ∙ rel.no_name token.text e))
  file_name_read r h token rel hidden (Some n) e = by n.sort (rel.names token.text n e).made
    where
      by : (sort : Sort) → MadeSort scope.tags sort → Goal Operands h r.found (used token r) (file_operand scope token sort)
      by (variable ty) made =
          let f = (rel.names token.text n e).found in
          then_quietly Anything Operands h r.found (used token r) (uses (file_entity token.text)) (λ bound. give (of_object token ty (Rattle.core_meaning.specs.Program.global (entity_number scope.numbers.globals token.text)) true))
          (use_of r h token (file_entity token.text) f.by refl (file_used token r f.by.number (rel.no_local token.text hidden) f.entry) (or_else_none (look_up ordinary token.text r.blocks) (look_up ordinary token.text r.file) (rel.no_local token.text hidden) ∙ f.entry) f.first rel)
          (λ x a. yields Operands (of_object token ty (Rattle.core_meaning.specs.Program.global (entity_number scope.numbers.globals token.text)) true) made)
      by (function signature) made = tt

  -- a parameter of a declaration that defines no function
  dead_use :
      (r : Reading) (h : List Identified) (token : PlainToken) (slot by : ℕ) → look_up ordinary token.text r.blocks ≡ Some by → visible_name token.text r ≡ Some by → taken.alive ≡ false → Rel r h
      → Goal Anything h r.found (used token r) (uses (local_entity slot))
  dead_use r h token slot by inner visible dead rel =
      let o : Occurrence = record { number = r.next; token = token; binding = binding_found (visible_name token.text r); uses_file_name = is_of_file token.text r } in
      let i : Identified = record { number = r.next; token = token; entity = at slot } in
      let is : at slot ≡ local_entity slot = rel.dead dead slot in
      record {
        os = o ∷ [];
        is = refl;
        plain = refl;
        used = and_from (used_alike (is_of_file token.text r) token.text (record { entity = local_entity slot; in_expression = true })) true (block_used token r slot by inner) refl;
        alike = (subst (λ e. Rattle.bindings.specs.Judged.IsAlike h o e) (sym is) (subst (λ (b : Binding). elim b as (λ x. Type 0) [ bound_to n ↦ Unit {0} | undeclared ↦ ⊥ | member_use w ↦ Unit {0} ]) (sym (ap binding_found visible)) tt), tt);
        after = (
          tt,
          related_grown at taken taken scope r.file r.blocks h i rel (record {
            names = λ name e p. (p, subst (λ e. Rattle.bindings.specs.Judged.same_entity e (file_entity name) ≡ false) (sym is) refl);
            members = λ number n far. (far, subst (λ e. Rattle.bindings.specs.Judged.same_entity e (member_entity number n) ≡ false) (sym is) refl);
            structs = λ number far. subst (λ e. Rattle.bindings.specs.Judged.same_entity e (struct_entity number) ≡ false) (sym is) refl;
            of_structs = λ number n far. subst (λ e. Rattle.bindings.specs.Judged.same_entity e (member_entity number n) ≡ false) (sym is) refl;
            slots = λ alive. absurd (false≢true (sym dead ∙ alive));
            alive = refl;
          }),
        );
      }

  name_read :
      (r : Reading) (h : List Identified) (token : PlainToken) → Rel r h → (l : Option Local) → local_in scope.blocks token.text ≡ l
      → Goal Operands h r.found (used token r) (name_operand scope token l)
  name_read r h token rel None e = file_name_read r h token rel e (scope.file_names token.text) refl
  name_read r h token rel (Some l) e =
      let f = rel.locals token.text l e in
      let visible : visible_name token.text r ≡ Some f.by = or_else_some (look_up ordinary token.text r.blocks) (look_up ordinary token.text r.file) f.by f.entry in
      then_quietly Anything Operands h r.found (used token r) (uses (local_entity l.slot)) (λ bound. give (of_object token l.ty (Rattle.core_meaning.specs.Program.slot l.slot) true))
      (by f visible taken.alive refl)
      (λ x a. yields Operands (of_object token l.ty (Rattle.core_meaning.specs.Program.slot l.slot) true) f.made)
    where
      by : (f : LocalFound at taken.alive scope.tags r.blocks h token.text l) → visible_name token.text r ≡ Some f.by → (b : Bool) → taken.alive ≡ b → Goal Anything h r.found (used token r) (uses (local_entity l.slot))
      by f visible true alive = let i = f.first alive in use_of r h token (local_entity l.slot) i.by refl (block_used token r l.slot f.by f.entry) (visible ∙ ap Some (sym i.is)) i.first rel
      by f visible false dead = dead_use r h token l.slot f.by f.entry visible dead rel

  one_byte : (o : Option (List ℕ)) (byte : ℕ) → o ≡ Some (byte ∷ []) → is_some (character_value o) ≡ true
  one_byte o byte e = ap (λ x. is_some (character_value x)) e

  pub single_read :
      (r : Reading) (h : List Identified) (token : PlainToken) → Rel r h → Told token → IsTrue (is_one_of (t.Name ∷ t.Number ∷ t.Character ∷ []) (terminal token))
      → Goal Operands h r.found (read_leaf token r) (single_operand scope token (terminal token))
  single_read r h token rel told is =
      one_of (λ k. terminal token ≡ k → Goal Operands h r.found (if same t.Name k then used token r else passed r) (single_operand scope token k))
      (t.Name ∷ t.Number ∷ t.Character ∷ []) (terminal token) is (
        (λ e. name_read r h token rel (local_in scope.blocks token.text) refl),
        (
          (λ e. quietly Operands h r (give (number_operand token)) rel (yields Operands (number_operand token) (number_made token))),
          (
            (λ e. let byte = told.character e in quietly Operands h r (character_operand token) rel
                (yields_both (λ z. character_value (quoted_values token.text) ≡ Some z) Operands (or_broken (character_value (quoted_values token.text))) (λ z. give (Rattle.core_meaning.specs.Typing.of_value token Rattle.c_types.specs.Types.int (constant z)))
                (yields_some (character_value (quoted_values token.text)) (one_byte (quoted_values token.text) byte.0 byte.1))
                (λ z f. yields Operands (Rattle.core_meaning.specs.Typing.of_value token Rattle.c_types.specs.Types.int (constant z)) tt))),
            tt,
          ),
        ),
      )
      refl
    where
      number_made : (token : PlainToken) → Operands (number_operand token)
      number_made token =
          made_number scope.tags (Rattle.core_meaning.specs.Expressions.number_types (Rattle.c_text.specs.Constants.is_unsigned token.text) (Rattle.core_meaning.specs.Expressions.has_long token.text) ((Rattle.c_text.specs.Constants.digits_of token.text).base == 10))
          (pos (Rattle.c_text.specs.Constants.number_value token.text)) (Rattle.c_text.specs.Constants.is_unsigned token.text) (Rattle.core_meaning.specs.Expressions.has_long token.text) ((Rattle.c_text.specs.Constants.digits_of token.text).base == 10) refl

  -- ---- members

  pub member_used_adds : (name : PlainToken) (r : Reading) → Adds r.found (member_used name r).found
  member_used_adds name r = record { others = record { number = r.next; token = name; binding = member_use (λ tag. look_up (members_of tag) name.text r.file); uses_file_name = false } ∷ []; is = refl }

  use_of_member :
      (r : Reading) (h : List Identified) (name : PlainToken) (number n : ℕ) (tag : List ℕ) (f : TagFound taken.members scope.tags scope.structs r.file h tag number)
      → f.struct.numbers name.text ≡ Some n → Rel r h → Goal Anything h r.found (member_used name r) (uses (member_entity number n))
  use_of_member r h name number n tag f e rel =
      let o : Occurrence = record { number = r.next; token = name; binding = member_use (λ tag. look_up (members_of tag) name.text r.file); uses_file_name = false } in
      let m = f.members name.text n e in
      one_occurrence (numbering at) h r.found o (record { entity = member_entity number n; in_expression = true }) (λ g. Unit {0} × Rel (member_used name r) g) refl refl
      (record { tag = f.found.by; member = m.found.by; declares_struct = f.found.first; declares_member = m.found.first; bound = ap (λ x. look_up (members_of x) name.text r.file) f.spelt ∙ m.found.entry }) (
        tt,
        related_same at taken scope r.file r.blocks h (h ++ identified o (renamed_one (numbering at) (record { entity = member_entity number n; in_expression = true })) ∷ [])
            (first_again h (identified o (renamed_one (numbering at) (record { entity = member_entity number n; in_expression = true }))) m.found.by m.found.first) rel,
      )

  operand_of_member :
      (r : Reading) (h : List Identified) (name : PlainToken) (place : PlainPlace) (free : Bool) (number n : ℕ) (tag : List ℕ) (f : TagFound taken.members scope.tags scope.structs r.file h tag number)
      → f.struct.numbers name.text ≡ Some n → Rel r h
      → Goal Operands h r.found (member_used name r) (member_operand name place free number (slice_get f.struct.members n) n)
  operand_of_member r h name place free number n tag f e rel =
      let m = f.members name.text n e in
      subst (λ x. Goal Operands h r.found (member_used name r) (member_operand name place free number x n)) (sym m.is)
      (then_quietly Anything Operands h r.found (member_used name r) (uses (member_entity number n)) (λ bound. give (of_object name m.member.ty (Rattle.core_meaning.specs.Program.member place n) free))
      (use_of_member r h name number n tag f e rel) (λ x a. yields Operands (of_object name m.member.ty (Rattle.core_meaning.specs.Program.member place n) free) m.made))

  member_read :
      (r : Reading) (h : List Identified) (sign name : PlainToken) (place : PlainPlace) (free : Bool) (number : ℕ) (tag : List ℕ) → TagFound taken.members scope.tags scope.structs r.file h tag number → Rel r h
      → Goal Operands h r.found (member_used name r) (member_in sign name place free number (slice_get scope.structs number))
  member_read r h sign name place free number tag f rel =
      subst (λ s. Goal Operands h r.found (member_used name r) (member_in sign name place free number s)) (sym f.is)
      (quietly_before (numbering at) h r.found (member_used name r).found (λ x. f.struct.complete ≡ true) (After Operands (member_used name r))
      (unless_so f.struct.complete Incomplete sign) (λ complete. found_or (f.struct.numbers name.text) NoMember name >>= (λ n. member_operand name place free number (slice_get f.struct.members n) n))
      (yields_unless f.struct.complete Incomplete sign tt)
      (λ x c. quietly_before (numbering at) h r.found (member_used name r).found (λ n. f.struct.numbers name.text ≡ Some n) (After Operands (member_used name r))
      (found_or (f.struct.numbers name.text) NoMember name) (λ n. member_operand name place free number (slice_get f.struct.members n) n)
      (yields_found (f.struct.numbers name.text) NoMember name tt)
      (λ n e. operand_of_member r h name place free number n tag f e rel)))

  member_of_read :
      (r : Reading) (h : List Identified) (sign name : PlainToken) (ty : PlainType) (place : PlainPlace) (free : Bool) → Made scope.tags ty → Rel r h
      → Goal Operands h r.found (member_used name r) (member_of scope sign name ty place free)
  member_of_read r h sign name (structure number) place free made rel = member_read r h sign name place free number made.tag (rel.tagged made.tag number made.is) rel
  member_of_read r h sign name _ place free made rel = tt

  target_read :
      (r : Reading) (h : List Identified) (sign name : PlainToken) (x : Typed) (ty : PlainType) → Made scope.tags ty → Rel r h
      → Goal Operands h r.found (member_used name r) (member_of_target scope sign name x ty)
  target_read r h sign name x (pointer_to ty) made rel = member_of_read r h sign name ty (Rattle.core_meaning.specs.Program.target x.core) true made rel
  target_read r h sign name x _ made rel = tt

  pub selected_read :
      (r : Reading) (h : List Identified) (sign name : PlainToken) (operand : Operand) → Operands operand → Rel r h
      → Goal Operands h r.found (member_used name r) (selected scope sign name operand)
  selected_read r h sign name operand made rel = by (bytes_eq sign.text (codes "."))
    where
      by :
          (b : Bool)
          → Goal Operands h r.found (member_used name r) (if b then member_of scope sign name operand.ty (struct_place operand.ty operand.designates) (is_free operand.designates)
          else loaded scope operand >>= (λ x. member_of_target scope sign name x x.ty))
      by true = member_of_read r h sign name operand.ty (struct_place operand.ty operand.designates) (is_free operand.designates) made rel
      by false =
          quietly_before (numbering at) h r.found (member_used name r).found Values (After Operands (member_used name r)) (loaded scope operand) (λ x. member_of_target scope sign name x x.ty)
          (loads scope.tags scope operand made) (λ x m. target_read r h sign name x x.ty m rel)

  -- ---- two operands

  pub two :
      {B : Type 0} (P : B → Type 0) (h : List Identified) (found : List Occurrence) (r s : Reading) (first second : Checked Operand) (next : Typed → Typed → Checked B)
      → Goal Operands h found r first → ((after : List Identified) → Rel r after → Goal Operands after r.found s second) → Adds r.found s.found
      → ((a b : Typed) → Values a → Values b → Yields P (next a b))
      → Goal P h found s (first >>= (λ left. loaded scope left >>= (λ a. second >>= (λ right. loaded scope right >>= (λ b. next a b)))))
  two P h found r s first second next f g adds q =
      then_on Operands P h found r s first (λ left. loaded scope left >>= (λ a. second >>= (λ right. loaded scope right >>= (λ b. next a b)))) f
      (λ left after m rel. quietly_before (numbering at) after r.found s.found Values (After P s) (loaded scope left) (λ a. second >>= (λ right. loaded scope right >>= (λ b. next a b)))
      (loads scope.tags scope left m)
      (λ a v. then_quietly Operands P after r.found s second (λ right. loaded scope right >>= (λ b. next a b)) (g after rel)
      (λ right n. yields_both Values P (loaded scope right) (λ b. next a b) (loads scope.tags scope right n) (λ b w. q a b v w))))
      adds
