-- Declarations of locals are read as they are judged.
use Rattle.std.proofs.Common.{◌≡◌, ℕ, ◌+◌, Bool, true, false, List, [], ◌∷◌, ◌++◌, map, refl, sym, ap, subst, ◌∙◌, length, arith}
use Rattle.std.specs.Prelude.{Option, Some, None, if◌then◌else◌}
use Rattle.std.proofs.lemmas.Bool.{false≢true}
use Rattle.std.proofs.lemmas.List.{length-append}
use Rattle.c_text.specs.Token.{PlainToken}
use Rattle.c_types.specs.Types.{PlainType}
use Rattle.c_tree.specs.declared.kinds.Kind.{Kind}
use Rattle.c_tree.specs.declared.kinds.Kind.TheVariants as k
use Rattle.c_tree.specs.declared.terminals.Terminal.TheVariants as t
use Rattle.c_tree.specs.Terminals.{terminal, is_one_of}
use Rattle.c_tree.specs.Trees.{PlainTree, PlainTrees, leaf, node, none, more}
use Rattle.c_tree.specs.Grammar.{initialiser, declarator, declarators, specifiers, Role, local, types, is_word, at_file_scope}
use Rattle.c_tree.proofs.TerminalCases.{one_of}
use Rattle.core_meaning.specs.Checking.{Entity, local_entity, Binding as JudgedBinding, Checked, ◌>>=◌, give, unless_so, or_broken, declares}
use Rattle.core_meaning.specs.Entities.{Table, Local, Scope}
use Rattle.core_meaning.specs.Constancy.{Initial, initial}
use Rattle.core_meaning.specs.Declarations.{Based, based, object_type, judged_object, with_local, with_local_in, Locals, is_new_local, plain_part, local_initial, declared_local, one_local, with_items, locals_from, judged_locals}
use Rattle.core_meaning.specs.declared.refusals.TypeKind.TheVariants.{Redeclared}
use Rattle.tree_derivations.specs.Derivations.{Derivation, single, made_of, a_row, some_words, declarators_of, Declared, last_plain, last_initialised, next_plain, next_initialised, IsWord}
use Rattle.bindings.specs.Visible.{Entry, bound_to, Occurrence, Reading, passed, occurs, with_block_entry, leave}
use Rattle.bindings.specs.Bindings.{is_name, Where, in_block, read_expression, read_words, read_declarator, read_declared, read_declarators, read_suffix, read_closed_suffix, read_declaration}
use Rattle.bindings.specs.Judged.{Identified, first_with, identified, number_or}
use Rattle.bindings.proofs.Histories.{first_new}
use Rattle.bindings.proofs.Follows.{Adds, adds_none, adds_both, renamed_one, Follows, follows_both, follows_as, follows_growing, quietly_before, yields}
use Rattle.bindings.proofs.Spellings.{Holds, AllHold, no_name}
use Rattle.bindings.proofs.Types.{Made}
use Rattle.bindings.proofs.Operators.{Anything, yields_unless}
use Rattle.bindings.proofs.Related.{Room, numbering, Related, one_occurrence}
use Rattle.bindings.proofs.Growing.{IsSlots, IsNew, related_grown}
use Rattle.bindings.proofs.Scopes.{related_local}
use Rattle.bindings.proofs.Expressions.{expression_adds, read_leaf, skip, Rel, After, Goal, quietly}
use Rattle.bindings.proofs.Initialisers.{initial_read}
use Rattle.bindings.proofs.Words.{WordForm, words_form, based_read}
use Rattle.bindings.proofs.Declarators.{named_form, ObjectForm, plain_form, array_form, object_quiet}

-- nothing is being declared but slots
abbrev pub room : ℕ → Room
room n = record { slots = n; pending = λ name. false; members = λ s. 0; alive = true }

-- ---- an initialiser, or none

pub data Valued : Option PlainTree → (Reading → Reading) → Type 0 where
  no_value : Valued None (λ s. s)
  a_value : (sign : PlainToken) {tree : PlainTree} → is_name sign ≡ false → Derivation initialiser tree → Holds tree → Valued (Some tree) (λ s. read_expression tree (read_leaf sign s))

pub valued_adds : {v : Option PlainTree} {after : Reading → Reading} → Valued v after → (s : Reading) → Adds s.found (after s).found
valued_adds no_value s = adds_none s.found
valued_adds (a_value sign {tree = tree} e d holds) s = adds_both (expression_adds (leaf sign) s) (expression_adds tree (read_leaf sign s))

-- what the declaration of a local leaves
pub record LocalsThen (at : ℕ → Entity) (scope : Scope) (file blocks : List Entry) (x : Locals) (h : List Identified) : Type 0 where
  pub tables : List (Table Local)
  pub is : x.scope ≡ record scope { blocks = tables }
  pub rel : Related at (room (length x.slots)) (record scope { blocks = tables }) file blocks h

abbrev pub LocalsAfter : (ℕ → Entity) → Scope → Reading → Locals → List Identified → Type 0
LocalsAfter at scope r x h = LocalsThen at scope r.file r.blocks x h

more_slots : (slots : List PlainType) (ty : PlainType) → length slots + 1 ≡ length (slots ++ ty ∷ [])
more_slots slots ty = sym (length-append slots (ty ∷ []))

new_slot : (at : ℕ → Entity) → IsSlots at → (scope : Scope) (n : ℕ) → IsNew at (room n) (room (n + 1)) scope (at n)
new_slot at is scope n = record {
  names = λ name e p. (p, is.no_file n name);
  members = λ number m far. (far, is.no_member n number m);
  structs = λ number far. is.no_struct n number;
  of_structs = λ number m far. is.no_member n number m;
  slots = λ alive slot far. (omega (arith, far), is.other n slot (omega (arith, far)));
  alive = refl;
}

module _ (at : ℕ → Entity) (slots_are : IsSlots at) (scope : Scope) where
  value_read :
      (taken : Room) {v : Option PlainTree} {after : Reading → Reading} → Valued v after → (ty : PlainType) (name : PlainToken) (s : Reading) (h : List Identified) → Rel at taken scope s h
      → Goal at taken scope Anything h s.found (after s) (local_initial scope ty name v)
  value_read taken no_value ty name s h rel = quietly at taken scope {A = List Initial} Anything h s (give []) rel (yields {A = List Initial} Anything [] tt)
  value_read taken (a_value sign {tree = tree} e d holds) ty name s h rel =
      skip sign s e (λ u. Goal at taken scope Anything h s.found (read_expression tree u) (initial scope None ty [] tree name))
      (Rattle.bindings.proofs.Follows.follows_as (numbering at) h s.found (read_expression tree (passed s)).found (After at taken scope (Rattle.bindings.proofs.Initialisers.Parts at taken scope None) (read_expression tree (passed s))) (After at taken scope Anything (read_expression tree (passed s)))
      (initial scope None ty [] tree name) (initial_read at taken scope None d holds ty [] name (passed s) h rel) (λ x g v. (tt, v.1)))

module _ (at : ℕ → Entity) (slots_are : IsSlots at) where
  local_given :
      (scope : Scope) (slots : List PlainType) (ty : PlainType) (name : PlainToken) {v : Option PlainTree} {after : Reading → Reading} → Valued v after → Made scope.tags ty
      → (r : Reading) (h : List Identified) (i : Identified) → first_with (at (length slots)) h ≡ Some i → Rel at (room (length slots + 1)) scope r h
      → Follows (numbering at) h r.found (after (with_block_entry name.text i.number r)).found (LocalsAfter at scope (after (with_block_entry name.text i.number r)))
      (local_initial (with_local scope name.text (length slots) ty) ty name v
      >>= (λ given_. give (record {
        scope = with_local scope name.text (length slots) ty;
        slots = slots ++ ty ∷ [];
        items = record { slot = length slots; parts = map plain_part given_ } ∷ [];
      })))
  local_given scope slots ty name {v = v} {after = after} value made r h i first rel =
      let taken : Room = room (length slots + 1) in
      let inner : Scope = with_local scope name.text (length slots) ty in
      let s : Reading = with_block_entry name.text i.number r in
      follows_both (numbering at) h r.found (after s).found (after s).found (After at taken inner Anything (after s)) (LocalsAfter at scope (after s))
      (local_initial inner ty name v) (λ given_. give (record { scope = inner; slots = slots ++ ty ∷ []; items = record { slot = length slots; parts = map plain_part given_ } ∷ [] }))
      (value_read at slots_are inner taken value ty name s h (related_local at taken scope r.file r.blocks h name.text (length slots) ty i.number rel (λ alive. record { by = i; is = refl; first = first }) made))
      (λ given_ g w. record {
        os = [];
        is = sym (Rattle.std.proofs.lemmas.List.append-nil (after s).found);
        alike = tt;
        plain = refl;
        used = refl;
        after = record {
          tables = with_local_in scope.blocks name.text (record { slot = length slots; ty = ty });
          is = refl;
          rel = subst (λ n. Related at (room n) inner (after s).file (after s).blocks g) (more_slots slots ty) w.1;
        };
      })
      (adds_none (after s).found)

  pub declared_local_read :
      (scope : Scope) (slots : List PlainType) (ty : PlainType) (kind : Kind) (parts : PlainTrees) (form : ObjectForm kind parts) {v : Option PlainTree} {after : Reading → Reading}
      → Valued v after → AllHold parts → Made scope.tags ty → (r : Reading) (h : List Identified) → Rel at (room (length slots)) scope r h
      → Follows (numbering at) h r.found (after (read_declarator read_closed_suffix in_block parts r)).found
      (LocalsAfter at scope (after (read_declarator read_closed_suffix in_block parts r)))
      (declared_local scope slots ty kind parts form.named.name v)
  declared_local_read scope slots ty kind parts form {v = v} {after = after} value holds made r h rel =
      let n = form.named in
      let name : PlainToken = n.name in
      let read = n.reads read_closed_suffix in_block r (λ s. Rel at (room (length slots)) scope s h × (s.found ≡ r.found)) (λ s p. p) (rel, refl) in
      let s : Reading = read.s in
      let r1 : Reading = occurs name (bound_to s.next) s in
      let r2 : Reading = leave r1 (read_suffix n.rest r1) in
      let last : Reading = after (with_block_entry name.text s.next r2) in
      let taken : Room = room (length slots + 1) in
      let o : Occurrence = record { number = s.next; token = name; binding = bound_to s.next; uses_file_name = false } in
      let j : JudgedBinding = record { entity = local_entity (length slots); in_expression = false } in
      let i : Identified = identified o (renamed_one (numbering at) j) in
      let none_before : first_with (at (length slots)) h ≡ None = rel.free refl (length slots) (omega arith) in
      let rest_of : PlainType → Checked Locals = λ whole. judged_object scope whole name >>= (λ judged. local_initial (with_local scope name.text (length slots) whole) whole name v >>= (λ given_. give (record {
        scope = with_local scope name.text (length slots) whole;
        slots = slots ++ whole ∷ [];
        items = record { slot = length slots; parts = map plain_part given_ } ∷ [];
      }))) in
      subst (λ u. Follows (numbering at) h r.found (after u).found (LocalsAfter at scope (after u)) (declared_local scope slots ty kind parts name v)) (sym read.is)
      (subst (λ f. Follows (numbering at) h f last.found (LocalsAfter at scope last) (declared_local scope slots ty kind parts name v)) read.still.1
      (quietly_before (numbering at) h s.found last.found (λ x. is_new_local scope name.text ≡ true) (LocalsAfter at scope last)
      (unless_so (is_new_local scope name.text) Redeclared name) (λ new. declares (local_entity (length slots)) >>= (λ bound. object_type scope ty kind parts name v >>= rest_of))
      (yields_unless (is_new_local scope name.text) Redeclared name tt)
      (λ x new. follows_both (numbering at) h s.found r1.found last.found (λ y g. (first_with (at (length slots)) g ≡ Some i) × Rel at taken scope r1 g) (LocalsAfter at scope last)
      (declares (local_entity (length slots))) (λ bound. object_type scope ty kind parts name v >>= rest_of)
      (one_occurrence (numbering at) h s.found o j (λ g. (first_with (at (length slots)) g ≡ Some i) × Rel at taken scope r1 g) refl refl
      (sym (ap (λ f. number_or f s.next) none_before)) (
        first_new (at (length slots)) h i none_before (slots_are.itself (length slots)),
        related_grown at (room (length slots)) taken scope s.file s.blocks h i read.still.0 (new_slot at slots_are scope (length slots)),
      ))
      (λ y g w. follows_growing (numbering at) g r1.found r2.found last.found (After at taken scope (λ t. Made scope.tags t) r2) (LocalsAfter at scope last)
      (object_type scope ty kind parts name v) rest_of
      (form.sizes at taken scope ty name v (n.holds holds).1 made r1 g w.1)
      (λ whole g2 w2 grows. quietly_before (numbering at) g2 r2.found last.found Anything (LocalsAfter at scope last) (judged_object scope whole name)
      (λ judged. local_initial (with_local scope name.text (length slots) whole) whole name v >>= (λ given_. give (record {
        scope = with_local scope name.text (length slots) whole;
        slots = slots ++ whole ∷ [];
        items = record { slot = length slots; parts = map plain_part given_ } ∷ [];
      })))
      (object_quiet scope whole name)
      (λ z any. local_given scope slots whole name value w2.0 r2 g2 i (grows (at (length slots)) i w.0) w2.1))
      (valued_adds value (with_block_entry name.text s.next r2)))
      (adds_both (Rattle.bindings.proofs.Additions.suffix_adds n.rest r1) (valued_adds value (with_block_entry name.text s.next r2))))))

-- ---- declarators and their lists

pub record ObjectTree (tree : PlainTree) : Type 1 where
  pub kind : Kind
  pub parts : PlainTrees
  pub is : tree ≡ node kind parts
  pub form : ObjectForm kind parts
  pub reads : (suffix : PlainTrees → Reading → Reading) (place : Where) (r : Reading) → read_declared suffix place tree r ≡ read_declarator suffix place parts r
  pub holds : Holds tree → AllHold parts

pub object_tree : {role : Role} {tree : PlainTree} → Derivation (declarator role) tree → at_file_scope role ≡ false → ObjectTree tree
object_tree (single is) inner = absurd cc
object_tree (made_of k.Declarator {parts = parts} b a (a_row row)) inner =
    record { kind = k.Declarator; parts = parts; is = refl; form = plain_form parts (named_form row); reads = λ suffix place r. refl; holds = λ h. h }
object_tree (made_of k.ArrayDeclarator {parts = parts} b a (a_row row)) inner =
    record { kind = k.ArrayDeclarator; parts = parts; is = refl; form = array_form parts (named_form row); reads = λ suffix place r. refl; holds = λ h. h }
object_tree (made_of k.FunctionDeclarator b a s) inner = absurd (false≢true (sym inner ∙ b))
object_tree (made_of _ b a s) inner = absurd cc

pub value_declared : {tree : PlainTree} → Derivation initialiser tree → (suffix : PlainTrees → Reading → Reading) (place : Where) (r : Reading) → read_declared suffix place tree r ≡ read_expression tree r
value_declared (single is) suffix place r = refl
value_declared (made_of k.Declarator b a s) suffix place r = absurd cc
value_declared (made_of k.ArrayDeclarator b a s) suffix place r = absurd cc
value_declared (made_of k.FunctionDeclarator b a s) suffix place r = absurd cc
value_declared (made_of _ b a s) suffix place r = refl

pub comma_is : (comma : PlainToken) → IsWord (t.Comma ∷ []) comma → is_word (t.Assign ∷ []) (leaf comma) ≡ false
comma_is comma w = one_of (λ x. is_one_of (t.Assign ∷ []) x ≡ false) (t.Comma ∷ []) (terminal comma) w (refl, tt)

abbrev pub is_filled : PlainTrees → Bool
is_filled none = false
is_filled (more tree rest) = true

pub declared_filled : {role : Role} {parts : PlainTrees} → Declared role parts → is_filled parts ≡ true
declared_filled (last_plain d) = refl
declared_filled (last_initialised m d w v) = refl
declared_filled (next_plain d w s) = refl
declared_filled (next_initialised m d w v c s) = refl

abbrev both_locals : Scope → List PlainType → PlainType → PlainTree → Option PlainTree → PlainTrees → Checked Locals
both_locals scope slots ty tree v rest =
    one_local scope slots ty tree v >>= (λ first. locals_from first.scope first.slots ty rest >>= (λ others. give (with_items first.items others)))

locals_next : (scope : Scope) (slots : List PlainType) (ty : PlainType) (tree : PlainTree) (comma : PlainToken) (rest : PlainTrees) → is_filled rest ≡ true → is_word (t.Assign ∷ []) (leaf comma) ≡ false
    → locals_from scope slots ty (more tree (more (leaf comma) rest)) ≡ both_locals scope slots ty tree None rest
locals_next scope slots ty tree comma none filled e = absurd (false≢true filled)
locals_next scope slots ty tree comma (more next none) filled e = ap (λ b. if b then one_local scope slots ty tree (Some next) else both_locals scope slots ty tree None (more next none)) e
locals_next scope slots ty tree comma (more next (more c rest)) filled e =
    ap (λ b. if b then both_locals scope slots ty tree (Some next) rest else both_locals scope slots ty tree None (more next (more c rest))) e

module _ (at : ℕ → Entity) (slots_are : IsSlots at) where
  one_local_read :
      (scope : Scope) (slots : List PlainType) (ty : PlainType) (tree : PlainTree) (o : ObjectTree tree) {v : Option PlainTree} {after : Reading → Reading}
      → Valued v after → Holds tree → Made scope.tags ty → (r : Reading) (h : List Identified) → Rel at (room (length slots)) scope r h
      → Follows (numbering at) h r.found (after (read_declared read_closed_suffix in_block tree r)).found (LocalsAfter at scope (after (read_declared read_closed_suffix in_block tree r)))
      (one_local scope slots ty tree v)
  one_local_read scope slots ty tree o {v = v} {after = after} value holds made r h rel =
      let last : Reading = after (read_declarator read_closed_suffix in_block o.parts r) in
      subst (λ u. Follows (numbering at) h r.found (after u).found (LocalsAfter at scope (after u)) (one_local scope slots ty tree v)) (sym (o.reads read_closed_suffix in_block r))
      (subst (λ x. Follows (numbering at) h r.found last.found (LocalsAfter at scope last) (one_local scope slots ty x v)) (sym o.is)
      (subst (λ x. Follows (numbering at) h r.found last.found (LocalsAfter at scope last) (or_broken x >>= (λ name. declared_local scope slots ty o.kind o.parts name v))) (sym o.form.named.name_is)
      (quietly_before (numbering at) h r.found last.found (λ x. o.form.named.name ≡ x) (LocalsAfter at scope last) (give o.form.named.name) (λ name. declared_local scope slots ty o.kind o.parts name v)
      (yields (λ x. o.form.named.name ≡ x) o.form.named.name refl)
      (λ name e. subst (λ x. Follows (numbering at) h r.found last.found (LocalsAfter at scope last) (declared_local scope slots ty o.kind o.parts x v)) e
      (declared_local_read at slots_are scope slots ty o.kind o.parts o.form value (o.holds holds) made r h rel)))))

  -- a local, and the others
  both_read :
      (scope : Scope) (slots : List PlainType) (ty : PlainType) (tree : PlainTree) (v : Option PlainTree) (rest : PlainTrees) (r s u : Reading) (h : List Identified)
      → Follows (numbering at) h r.found s.found (LocalsAfter at scope s) (one_local scope slots ty tree v) → Adds s.found u.found
      → ((inner : Scope) (others : List PlainType) (g : List Identified) → (inner.tags ≡ scope.tags) → Rel at (room (length others)) inner s g → Follows (numbering at) g s.found u.found (LocalsAfter at inner u) (locals_from inner others ty rest))
      → Follows (numbering at) h r.found u.found (LocalsAfter at scope u) (both_locals scope slots ty tree v rest)
  both_read scope slots ty tree v rest r s u h f adds next =
      follows_both (numbering at) h r.found s.found u.found (LocalsAfter at scope s) (LocalsAfter at scope u) (one_local scope slots ty tree v)
      (λ first. locals_from first.scope first.slots ty rest >>= (λ others. give (with_items first.items others))) f
      (λ first g w. let inner : Scope = record scope { blocks = w.tables } in
      subst (λ x. Follows (numbering at) g s.found u.found (LocalsAfter at scope u) (locals_from x first.slots ty rest >>= (λ others. give (with_items first.items others)))) (sym w.is)
      (follows_both (numbering at) g s.found u.found u.found (LocalsAfter at inner u) (LocalsAfter at scope u) (locals_from inner first.slots ty rest) (λ others. give (with_items first.items others))
      (next inner first.slots g refl w.rel)
      (λ others g2 w2. record { os = []; is = sym (Rattle.std.proofs.lemmas.List.append-nil u.found); alike = tt; plain = refl; used = refl; after = record { tables = w2.tables; is = w2.is; rel = w2.rel } })
      (adds_none u.found)))
      adds

  pub locals_read :
      {parts : PlainTrees} → Declared local parts → AllHold parts → (scope : Scope) (slots : List PlainType) (ty : PlainType) → Made scope.tags ty → (r : Reading) (h : List Identified)
      → Rel at (room (length slots)) scope r h
      → Follows (numbering at) h r.found (read_declarators read_closed_suffix in_block parts r).found (LocalsAfter at scope (read_declarators read_closed_suffix in_block parts r))
      (locals_from scope slots ty parts)
  locals_read (last_plain {tree = tree} d) holds scope slots ty made r h rel = one_local_read scope slots ty tree (object_tree d refl) no_value holds.0 made r h rel
  locals_read (last_initialised {tree = tree} {value = value} {sign = sign} m d w v) holds scope slots ty made r h rel =
      let one_ : Reading = read_declared read_closed_suffix in_block tree r in
      subst (λ u. Follows (numbering at) h r.found u.found (LocalsAfter at scope u) (locals_from scope slots ty (more tree (more (leaf sign) (more value none))))) (sym (value_declared v read_closed_suffix in_block (read_leaf sign one_)))
      (subst (λ b. Follows (numbering at) h r.found (read_expression value (read_leaf sign one_)).found (LocalsAfter at scope (read_expression value (read_leaf sign one_))) (if b then one_local scope slots ty tree (Some value) else both_locals scope slots ty tree None (more value none))) (sym w)
      (one_local_read scope slots ty tree (object_tree d refl) (a_value sign (no_name (t.Assign ∷ []) sign refl w) v holds.1.1.0) holds.0 made r h rel))
  locals_read (next_plain {tree = tree} {comma = comma} {rest = rest} d w s) holds scope slots ty made r h rel =
      let one_ : Reading = read_declared read_closed_suffix in_block tree r in
      let last : Reading = read_declarators read_closed_suffix in_block rest (passed one_) in
      subst (λ c. Follows (numbering at) h r.found (read_declarators read_closed_suffix in_block rest (read_leaf comma one_)).found (LocalsAfter at scope (read_declarators read_closed_suffix in_block rest (read_leaf comma one_))) c) (sym (locals_next scope slots ty tree comma rest (declared_filled s) (comma_is comma w)))
      (skip comma one_ (no_name (t.Comma ∷ []) comma refl w) (λ u. Follows (numbering at) h r.found (read_declarators read_closed_suffix in_block rest u).found (LocalsAfter at scope (read_declarators read_closed_suffix in_block rest u)) (both_locals scope slots ty tree None rest))
      (both_read scope slots ty tree None rest r (passed one_) last h (one_local_read scope slots ty tree (object_tree d refl) no_value holds.0 made r h rel)
      (Rattle.bindings.proofs.Additions.declarators_add read_closed_suffix Rattle.bindings.proofs.Additions.closed_suffix_adds in_block rest (passed one_))
      (λ inner others g same rel2. locals_read s holds.1.1 inner others ty (subst (λ x. Made x ty) (sym same) made) (passed one_) g rel2)))
  locals_read (next_initialised {tree = tree} {value = value} {sign = sign} {comma = comma} {rest = rest} m d w v c s) holds scope slots ty made r h rel =
      let one_ : Reading = read_declared read_closed_suffix in_block tree r in
      let two_ : Reading = read_expression value (read_leaf sign one_) in
      let last : Reading = read_declarators read_closed_suffix in_block rest (passed two_) in
      let all : Checked Locals = locals_from scope slots ty (more tree (more (leaf sign) (more value (more (leaf comma) rest)))) in
      subst (λ u. Follows (numbering at) h r.found (read_declarators read_closed_suffix in_block rest (read_leaf comma u)).found (LocalsAfter at scope (read_declarators read_closed_suffix in_block rest (read_leaf comma u))) all) (sym (value_declared v read_closed_suffix in_block (read_leaf sign one_)))
      (skip comma two_ (no_name (t.Comma ∷ []) comma refl c) (λ u. Follows (numbering at) h r.found (read_declarators read_closed_suffix in_block rest u).found (LocalsAfter at scope (read_declarators read_closed_suffix in_block rest u)) all)
      (subst (λ b. Follows (numbering at) h r.found last.found (LocalsAfter at scope last) (if b then both_locals scope slots ty tree (Some value) rest else both_locals scope slots ty tree None (more value (more (leaf comma) rest)))) (sym w)
      (both_read scope slots ty tree (Some value) rest r (passed two_) last h
      (one_local_read scope slots ty tree (object_tree d refl) (a_value sign (no_name (t.Assign ∷ []) sign refl w) v holds.1.1.0) holds.0 made r h rel)
      (Rattle.bindings.proofs.Additions.declarators_add read_closed_suffix Rattle.bindings.proofs.Additions.closed_suffix_adds in_block rest (passed two_))
      (λ inner others g same rel2. locals_read s holds.1.1.1.1 inner others ty (subst (λ x. Made x ty) (sym same) made) (passed two_) g rel2))))

-- ---- declarations

pub record WordsOf (words : PlainTree) : Type 1 where
  pub parts : PlainTrees
  pub is : words ≡ node k.Specifiers parts
  pub form : WordForm parts

pub specifiers_are : {tree : PlainTree} → Derivation specifiers tree → WordsOf tree
specifiers_are (single is) = absurd cc
specifiers_are (made_of k.Specifiers {parts = parts} b a (some_words are)) = record { parts = parts; is = refl; form = words_form types parts are refl }
specifiers_are (made_of _ b a s) = absurd cc

pub record DeclaratorsOf (role : Role) (tree : PlainTree) : Type 0 where
  pub parts : PlainTrees
  pub is : tree ≡ node k.Declarators parts
  pub declared : Declared role parts

pub declarators_are : {role : Role} {tree : PlainTree} → Derivation (declarators role) tree → DeclaratorsOf role tree
declarators_are (single is) = absurd cc
declarators_are (made_of k.Declarators {parts = parts} b a (declarators_of d)) = record { parts = parts; is = refl; declared = d }
declarators_are (made_of _ b a s) = absurd cc

module _ (at : ℕ → Entity) (slots_are : IsSlots at) where
  abbrev pub LocalsRead : PlainTrees → Type 0
  LocalsRead parts =
      (scope : Scope) (slots : List PlainType) (r : Reading) (h : List Identified) → Rel at (room (length slots)) scope r h
      → Follows (numbering at) h r.found (read_declaration in_block parts r).found (LocalsAfter at scope (read_declaration in_block parts r)) (judged_locals scope slots parts)

  pub judged_locals_read :
      (words list : PlainTree) (semicolon : PlainToken) → WordsOf words → DeclaratorsOf local list → Holds list → LocalsRead (more words (more list (more (leaf semicolon) none)))
  judged_locals_read words list semicolon w d holds scope slots r h rel =
      let one_ : Reading = read_words false w.parts r in
      let last : Reading = read_declarators read_closed_suffix in_block d.parts one_ in
      subst (λ x. Follows (numbering at) h r.found (read_declaration in_block (more x (more list (more (leaf semicolon) none))) r).found (LocalsAfter at scope (read_declaration in_block (more x (more list (more (leaf semicolon) none))) r)) (judged_locals scope slots (more x (more list (more (leaf semicolon) none))))) (sym w.is)
      (subst (λ x. Follows (numbering at) h r.found (read_declaration in_block (more (node k.Specifiers w.parts) (more x (more (leaf semicolon) none))) r).found (LocalsAfter at scope (read_declaration in_block (more (node k.Specifiers w.parts) (more x (more (leaf semicolon) none))) r)) (judged_locals scope slots (more (node k.Specifiers w.parts) (more x (more (leaf semicolon) none))))) (sym d.is)
      (follows_both (numbering at) h r.found one_.found last.found (After at (room (length slots)) scope (λ (b : Based). Made scope.tags b.ty) one_) (LocalsAfter at scope last)
      (based false scope w.parts) (λ base. locals_from scope slots base.ty d.parts)
      (based_read at (room (length slots)) scope w.parts w.form r h rel)
      (λ base g v. locals_read at slots_are d.declared (subst Holds d.is holds) scope slots base.ty v.0 one_ g v.1)
      (Rattle.bindings.proofs.Additions.declarators_add read_closed_suffix Rattle.bindings.proofs.Additions.closed_suffix_adds in_block d.parts one_)))
