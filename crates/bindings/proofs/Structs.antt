-- Definitions of structs are read as they are judged.
use Rattle.std.proofs.Common.{◌≡◌, ℕ, ◌≤◌, Bool, true, false, List, [], ◌∷◌, refl, sym, ap, subst, ◌∙◌, length, arith, zero, suc}
use Rattle.std.specs.Prelude.{Option, Some, None, slice_get, not, ◌==◌, if◌then◌else◌}
use Rattle.std.proofs.lemmas.Bool.{false≢true, eq-eqb, eqb-true}
use Rattle.std.proofs.lemmas.List.{append-nil}
use Rattle.std.proofs.lemmas.Option.{same_Some, none-some}
use Rattle.c_text.specs.Token.{PlainToken}
use Rattle.c_types.specs.Types.{PlainType}
use Rattle.c_tree.specs.declared.kinds.Kind.TheVariants as k
use Rattle.c_tree.specs.declared.terminals.Terminal.TheVariants as t
use Rattle.c_tree.specs.Trees.{PlainTree, PlainTrees, leaf, node, none, more}
use Rattle.c_tree.specs.Grammar.{member, member_of}
use Rattle.core_meaning.specs.Checking.{local_entity, struct_entity, member_entity, Checked, ◌>>=◌, give, unless_so, or_broken}
use Rattle.core_meaning.specs.Entities.{no_entry, Struct, Scope}
use Rattle.core_meaning.specs.Expressions.{arithmetic_words}
use Rattle.core_meaning.specs.Declarations.{name_in, Based, based, based_on_tag}
use Rattle.core_meaning.specs.UnitNames.{Members, declared_member, one_member, members_from, AllMembers, all_members, completed, with_members_at, is_defined_tag, number_of_struct, UnitState, with_scope, defined_struct}
use Rattle.core_meaning.specs.declared.refusals.TypeKind.TheVariants.{Redeclared}
use Rattle.tree_derivations.specs.Derivations.{Derivation, single, made_of, a_row, at_end, a_word, a_part, Each, no_more, one_more, Declared, last_plain, last_initialised, next_plain, next_initialised}
use Rattle.bindings.specs.Visible.{tags as tag_space, members_of, Entry, look_up, Reading, passed, tag_found, tag_named}
use Rattle.bindings.specs.Bindings.{is_name, among_members, read_expressions, read_words, read_declared, read_declarators, read_declarator, read_closed_suffix, read_members, tag_text}
use Rattle.bindings.specs.Judged.{Identified, first_with}
use Rattle.bindings.proofs.Follows.{adds_none, adds_both, Follows, follows_both, follows_as, follows_growing, quietly_before, yields}
use Rattle.bindings.proofs.Spellings.{Holds, AllHold, no_name}
use Rattle.bindings.proofs.Types.{Made}
use Rattle.bindings.proofs.Operators.{yields_unless}
use Rattle.bindings.proofs.Related.{Room, numbering, MemberFound, TagFound, Related}
use Rattle.bindings.proofs.Growing.{local_slots}
use Rattle.bindings.proofs.Expressions.{skip}
use Rattle.bindings.proofs.Words.{TagForm}
use Rattle.bindings.proofs.Additions.{closed_suffix_adds, declarators_add, members_add}
use Rattle.bindings.proofs.Locals.{ObjectTree, object_tree, specifiers_are, declarators_are}
use Rattle.bindings.proofs.Tags.{made_more, TagThen, tag_declared, BasedThen, based_declared}
use Rattle.bindings.proofs.FileNames.{closed}
use Rattle.bindings.proofs.FileObjects.{FileRel}
use Rattle.bindings.proofs.Members.{with_members, InStruct, MembersThen, member_read}

-- ---- the declarators of members

module _ (tag : List ℕ) (number : ℕ) (scope : Scope) where
  one_member_read :
      (known : Members) (ty : PlainType) (tree : PlainTree) (o : ObjectTree tree) → Holds tree → Made scope.tags ty → (r : Reading) (h : List Identified) → MembersThen tag number scope r known h
      → Follows (numbering local_entity) h r.found (read_declared read_closed_suffix (among_members tag) tree r).found (MembersThen tag number scope (read_declared read_closed_suffix (among_members tag) tree r))
      (one_member scope number known ty tree)
  one_member_read known ty tree o holds made r h inside =
      let last : Reading = read_declarator read_closed_suffix (among_members tag) o.parts r in
      subst (λ u. Follows (numbering local_entity) h r.found u.found (MembersThen tag number scope u) (one_member scope number known ty tree)) (sym (o.reads read_closed_suffix (among_members tag) r))
      (subst (λ x. Follows (numbering local_entity) h r.found last.found (MembersThen tag number scope last) (one_member scope number known ty x)) (sym o.is)
      (subst (λ x. Follows (numbering local_entity) h r.found last.found (MembersThen tag number scope last) (or_broken x >>= (λ name. declared_member scope number known ty o.kind o.parts name))) (sym o.form.named.name_is)
      (quietly_before (numbering local_entity) h r.found last.found (λ x. o.form.named.name ≡ x) (MembersThen tag number scope last) (give o.form.named.name) (λ name. declared_member scope number known ty o.kind o.parts name)
      (yields (λ x. o.form.named.name ≡ x) o.form.named.name refl)
      (λ name e. subst (λ x. Follows (numbering local_entity) h r.found last.found (MembersThen tag number scope last) (declared_member scope number known ty o.kind o.parts x)) e
      (member_read tag number scope known ty o.kind o.parts o.form (o.holds holds) made r h inside)))))

  members_read :
      {parts : PlainTrees} → Declared member_of parts → AllHold parts → (known : Members) (ty : PlainType) → Made scope.tags ty → (r : Reading) (h : List Identified) → MembersThen tag number scope r known h
      → Follows (numbering local_entity) h r.found (read_declarators read_closed_suffix (among_members tag) parts r).found (MembersThen tag number scope (read_declarators read_closed_suffix (among_members tag) parts r))
      (members_from scope number known ty parts)
  members_read (last_plain {tree = tree} d) holds known ty made r h inside = one_member_read known ty tree (object_tree d refl) holds.0 made r h inside
  members_read (last_initialised m d w v) holds known ty made r h inside = absurd (false≢true m)
  members_read (next_plain {tree = tree} {comma = comma} {rest = rest} d w s) holds known ty made r h inside =
      let one_ : Reading = read_declared read_closed_suffix (among_members tag) tree r in
      let last : Reading = read_declarators read_closed_suffix (among_members tag) rest (passed one_) in
      skip comma one_ (no_name (t.Comma ∷ []) comma refl w) (λ u. Follows (numbering local_entity) h r.found (read_declarators read_closed_suffix (among_members tag) rest u).found (MembersThen tag number scope (read_declarators read_closed_suffix (among_members tag) rest u)) (members_from scope number known ty (more tree (more (leaf comma) rest))))
      (follows_both (numbering local_entity) h r.found one_.found last.found (MembersThen tag number scope one_) (MembersThen tag number scope last) (one_member scope number known ty tree) (λ first. members_from scope number first ty rest)
      (one_member_read known ty tree (object_tree d refl) holds.0 made r h inside)
      (λ first g v. members_read s holds.1.1 first ty made (passed one_) g v)
      (declarators_add read_closed_suffix closed_suffix_adds (among_members tag) rest (passed one_)))
  members_read (next_initialised m d w v c s) holds known ty made r h inside = absurd (false≢true m)

-- ---- the list of members

tag_members : (token : PlainToken) (found : Option ℕ) (r : Reading) (tag m : List ℕ) → look_up (members_of tag) m (tag_found true token found r).file ≡ look_up (members_of tag) m r.file
tag_members token (Some by) r tag m = refl
tag_members token None r tag m = refl

word_members : (b : Bool) (token : PlainToken) (r : Reading) (tag m : List ℕ) → look_up (members_of tag) m (if b then tag_named true token r else passed r).file ≡ look_up (members_of tag) m r.file
word_members true token r tag m = tag_members token (look_up tag_space token.text r.file) r tag m
word_members false token r tag m = refl

words_members : (words : PlainTrees) (r : Reading) (tag m : List ℕ) → look_up (members_of tag) m (read_words true words r).file ≡ look_up (members_of tag) m r.file
words_members none r tag m = refl
words_members (more (leaf token) rest) r tag m = words_members rest (if is_name token then tag_named true token r else passed r) tag m ∙ word_members (is_name token) token r tag m
words_members (more (node kind parts) rest) r tag m =
    words_members rest (read_expressions parts r) tag m ∙ ap (look_up (members_of tag) m) (Rattle.bindings.proofs.FilesKept.expressions_files parts r)

record AllThen (tag : List ℕ) (number : ℕ) (scope : Scope) (file blocks : List Entry) (x : AllMembers) (h : List Identified) : Type 0 where
  inside : InStruct tag number x.scope x.known file blocks h
  outside : x.scope.blocks ≡ scope.blocks

all_read :
    (tag : List ℕ) (number : ℕ) {parts : PlainTrees} → Each member parts → AllHold parts → (scope : Scope) (known : Members) (r : Reading) (h : List Identified) → InStruct tag number scope known r.file r.blocks h
    → Follows (numbering local_entity) h r.found (read_members tag parts r).found (AllThen tag number scope (read_members tag parts r).file (read_members tag parts r).blocks) (all_members scope number known parts)
all_read tag number no_more holds scope known r h inside = record { os = []; is = sym (append-nil r.found); alike = tt; plain = refl; used = refl; after = record { inside = inside; outside = refl } }
all_read tag number (one_more {rest = rest} d others) holds scope known r h inside = by d holds.0 (λ s k1 x g i. all_read tag number others holds.1 s k1 x g i)
  where
    by :
        {tree : PlainTree} → Derivation member tree → Holds tree
        → ((s : Scope) (k1 : Members) (x : Reading) (g : List Identified) → InStruct tag number s k1 x.file x.blocks g → Follows (numbering local_entity) g x.found (read_members tag rest x).found (AllThen tag number s (read_members tag rest x).file (read_members tag rest x).blocks) (all_members s number k1 rest))
        → Follows (numbering local_entity) h r.found (read_members tag (more tree rest) r).found (AllThen tag number scope (read_members tag (more tree rest) r).file (read_members tag (more tree rest) r).blocks) (all_members scope number known (more tree rest))
    by (single is) holds next = absurd cc
    by (made_of k.Member b a (a_row (a_part {tree = words} w (a_part {tree = list} l (a_word {token = end_} v at_end))))) holds next =
        let ws = specifiers_are w in
        let ds = declarators_are l in
        let one_ : Reading = read_words true ws.parts r in
        let two_ : Reading = passed (read_declarators read_closed_suffix (among_members tag) ds.parts one_) in
        let last : Reading = read_members tag rest two_ in
        let taken : Room = with_members number (length known.members) in
        subst (λ x. Follows (numbering local_entity) h r.found (read_members tag (more (node k.Member (more x (more list (more (leaf end_) none)))) rest) r).found (AllThen tag number scope (read_members tag (more (node k.Member (more x (more list (more (leaf end_) none)))) rest) r).file (read_members tag (more (node k.Member (more x (more list (more (leaf end_) none)))) rest) r).blocks) (all_members scope number known (more (node k.Member (more x (more list (more (leaf end_) none)))) rest))) (sym ws.is)
        (subst (λ x. Follows (numbering local_entity) h r.found (read_members tag (more (node k.Member (more (node k.Specifiers ws.parts) (more x (more (leaf end_) none)))) rest) r).found (AllThen tag number scope (read_members tag (more (node k.Member (more (node k.Specifiers ws.parts) (more x (more (leaf end_) none)))) rest) r).file (read_members tag (more (node k.Member (more (node k.Specifiers ws.parts) (more x (more (leaf end_) none)))) rest) r).blocks) (all_members scope number known (more (node k.Member (more (node k.Specifiers ws.parts) (more x (more (leaf end_) none)))) rest))) (sym ds.is)
        (follows_growing (numbering local_entity) h r.found one_.found last.found (BasedThen local_entity local_slots taken scope one_.file one_.blocks) (AllThen tag number scope last.file last.blocks) (based true scope ws.parts)
        (λ base. members_from base.scope number known base.ty ds.parts >>= (λ first. all_members base.scope number first rest))
        (based_declared local_entity local_slots taken scope ws.parts ws.form r h inside.rel)
        (λ base g v grows. follows_both (numbering local_entity) g one_.found two_.found last.found (MembersThen tag number base.scope two_) (AllThen tag number scope last.file last.blocks) (members_from base.scope number known base.ty ds.parts)
        (λ first. all_members base.scope number first rest)
        (members_read tag number base.scope ds.declared (subst Holds ds.is holds.1.0) known base.ty v.made one_ g (record {
          rel = v.rel;
          here = v.more_tags tag number inside.here;
          struct = inside.struct;
          is = v.more_structs number inside.struct inside.is;
          open_ = inside.open_;
          empty = inside.empty;
          found = λ m n e. let f = inside.found m n e in record {
            member = f.member;
            is = f.is;
            made = made_more scope.tags base.scope.tags v.more_tags f.member.ty f.made;
            found = record { by = f.found.by; entry = words_members ws.parts r tag m ∙ f.found.entry; first = grows (member_entity number n) f.found.by f.found.first };
          };
        }))
        (λ first g2 w2. follows_as (numbering local_entity) g2 two_.found last.found (AllThen tag number base.scope last.file last.blocks) (AllThen tag number scope last.file last.blocks) (all_members base.scope number first rest)
        (next base.scope first two_ g2 w2) (λ x g3 z. record { inside = z.inside; outside = z.outside ∙ v.outside }))
        (members_add tag rest two_))
        (adds_both (declarators_add read_closed_suffix closed_suffix_adds (among_members tag) ds.parts one_) (members_add tag rest two_))))
    by (made_of _ b a s) holds next = absurd cc

-- ---- where a struct is complete

completed_there : (structs : List Struct) (n : ℕ) (known : Members) (s : Struct) → slice_get structs n ≡ Some s → slice_get (with_members_at n known structs) n ≡ Some (completed known s)
completed_there [] n known s e = absurd (none-some s e)
completed_there (x ∷ structs) zero known s e = ap (λ (o : Struct). Some (completed known o)) (same_Some x s e)
completed_there (x ∷ structs) (suc n) known s e = completed_there structs n known s e

completed_elsewhere : (structs : List Struct) (n m : ℕ) (known : Members) → (m ≡ n → ⊥) → slice_get (with_members_at n known structs) m ≡ slice_get structs m
completed_elsewhere [] n m known e = refl
completed_elsewhere (x ∷ structs) zero zero known e = absurd (e refl)
completed_elsewhere (x ∷ structs) zero (suc m) known e = refl
completed_elsewhere (x ∷ structs) (suc n) zero known e = refl
completed_elsewhere (x ∷ structs) (suc n) (suc m) known e = completed_elsewhere structs n m known (λ same_. e (ap suc same_))

completed_length : (structs : List Struct) (n : ℕ) (known : Members) → length (with_members_at n known structs) ≡ length structs
completed_length [] n known = refl
completed_length (x ∷ structs) zero known = refl
completed_length (x ∷ structs) (suc n) known = ap suc (completed_length structs n known)

related_completed :
    (tag : List ℕ) (number : ℕ) (scope : Scope) (known : Members) (file blocks : List Entry) (h : List Identified) → InStruct tag number scope known file blocks h
    → Related local_entity (closed false) (record scope { structs = with_members_at number known scope.structs }) file blocks h
related_completed tag number scope known file blocks h inside =
    let r = inside.rel in
    record {
      locals = r.locals;
      no_local = r.no_local;
      names = r.names;
      no_name = r.no_name;
      no_first = r.no_first;
      tagged = λ other n e. tagged other n e (n == number) refl;
      no_tag = r.no_tag;
      new_structs = λ n far. r.new_structs n (subst (λ l. l ≤ n) (completed_length scope.structs number known) far);
      new_members = λ n m far. r.new_members n m (subst (λ l. l ≤ n) (completed_length scope.structs number known) far);
      free = r.free;
      dead = r.dead;
    }
  where
    tagged : (other : List ℕ) (n : ℕ) → scope.tags other ≡ Some n → (b : Bool) → (n == number) ≡ b → TagFound (closed false).members scope.tags (with_members_at number known scope.structs) file h other n
    tagged other n e true same_ =
        let f = inside.rel.tagged other n e in
        let g = inside.rel.tagged tag number inside.here in
        let is_number : n ≡ number = eqb-true n number same_ in
        let one_ : f.found.by ≡ g.found.by = same_Some f.found.by g.found.by (sym f.found.first ∙ ap (λ x. first_with (struct_entity x) h) is_number ∙ g.found.first) in
        let is_tag : tag ≡ other = sym g.spelt ∙ ap (λ (i : Identified). i.token.text) (sym one_) ∙ f.spelt in
        record {
          found = f.found;
          spelt = f.spelt;
          struct = completed known inside.struct;
          is = ap (slice_get (with_members_at number known scope.structs)) is_number ∙ completed_there scope.structs number known inside.struct inside.is;
          members = λ m k e2. subst (λ x. MemberFound scope.tags file h x n known.members m k) is_tag (subst (λ x. MemberFound scope.tags file h tag x known.members m k) (sym is_number) (inside.found m k e2));
          none_yet = λ open_. absurd (false≢true (sym open_));
        }
    tagged other n e false same_ =
        let f = inside.rel.tagged other n e in
        record {
          found = f.found;
          spelt = f.spelt;
          struct = f.struct;
          is = completed_elsewhere scope.structs number n known (λ e. false≢true (sym same_ ∙ eq-eqb n number e)) ∙ f.is;
          members = f.members;
          none_yet = λ open_ m far. f.none_yet open_ m (subst (λ b. (if b then length known.members else 0) ≤ m) (sym same_) far);
        }

-- ---- the definition

open_struct : (tag : List ℕ) (number : ℕ) (scope : Scope) (file blocks : List Entry) (h : List Identified) → Related local_entity (closed false) scope file blocks h → scope.tags tag ≡ Some number → (struct : Struct)
    → slice_get scope.structs number ≡ Some struct → struct.complete ≡ false → InStruct tag number scope (record { members = []; numbers = no_entry; scalars = 0 }) file blocks h
open_struct tag number scope file blocks h r here struct is open_ =
    record {
      rel = record {
        locals = r.locals;
        no_local = r.no_local;
        names = r.names;
        no_name = r.no_name;
        no_first = r.no_first;
        tagged = λ other n e. let f = r.tagged other n e in record { found = f.found; spelt = f.spelt; struct = f.struct; is = f.is; members = f.members; none_yet = λ open_ m far. f.none_yet open_ m (omega arith) };
        no_tag = r.no_tag;
        new_structs = r.new_structs;
        new_members = r.new_members;
        free = r.free;
        dead = r.dead;
      };
      here = here;
      struct = struct;
      is = is;
      open_ = open_;
      empty = λ m. by m (struct.numbers m) refl;
      found = λ m n e. absurd (none-some n e);
    }
  where
    by : (m : List ℕ) (o : Option ℕ) → struct.numbers m ≡ o → struct.numbers m ≡ None
    by m None e = e
    by m (Some n) e =
        let f = r.tagged tag number here in
        let one_ : struct ≡ f.struct = same_Some struct f.struct (sym is ∙ f.is) in
        let g = f.members m n (ap (λ (s : Struct). s.numbers m) (sym one_) ∙ e) in
        absurd (none-some g.found.by (sym (f.none_yet (ap (λ (s : Struct). s.complete) (sym one_) ∙ open_) n (omega arith)) ∙ g.found.first))

pub struct_defined :
    (unit : UnitState) (words parts : PlainTrees) → TagForm words → Each member parts → AllHold parts → (r : Reading) (h : List Identified) → FileRel unit.scope r h
    → Follows (numbering local_entity) h r.found (read_members (tag_text (name_in words)) parts (passed (read_words true words r))).found
    (λ x g. Related local_entity (closed false) x.scope (read_members (tag_text (name_in words)) parts (passed (read_words true words r))).file (read_members (tag_text (name_in words)) parts (passed (read_words true words r))).blocks g × (x.scope.blocks ≡ unit.scope.blocks) × (x.defined ≡ unit.defined))
    (defined_struct unit words parts)
struct_defined unit words parts form each holds r h rel =
    let w = form.form in
    let tag : PlainToken = w.tag in
    let read = w.reads true r (λ s. FileRel unit.scope s h × (s.found ≡ r.found)) (λ s p. p) (rel, refl) in
    let one_ : Reading = tag_named true tag read.s in
    let last : Reading = read_members tag.text parts (passed one_) in
    let V : UnitState → List Identified → Type 0 = λ x g. Related local_entity (closed false) x.scope last.file last.blocks g × (x.scope.blocks ≡ unit.scope.blocks) × (x.defined ≡ unit.defined) in
    let none_known : Members = record { members = []; numbers = no_entry; scalars = 0 } in
    let finish : Based → Checked UnitState = λ base. all_members base.scope (number_of_struct base.ty) none_known parts >>= (λ all. give (with_scope unit (record all.scope { structs = with_members_at (number_of_struct base.ty) all.known all.scope.structs }))) in
    subst (λ x. Follows (numbering local_entity) h r.found (read_members (tag_text x) parts (passed (read_words true words r))).found
    (λ y g. Related local_entity (closed false) y.scope (read_members (tag_text x) parts (passed (read_words true words r))).file (read_members (tag_text x) parts (passed (read_words true words r))).blocks g × (y.scope.blocks ≡ unit.scope.blocks) × (y.defined ≡ unit.defined))
    (or_broken x >>= (λ tag. unless_so (not (is_defined_tag unit.scope (unit.scope.tags tag.text))) Redeclared tag >>= (λ new. based true unit.scope words >>= finish)))) (sym w.name)
    (subst (λ u. Follows (numbering local_entity) h r.found (read_members tag.text parts (passed u)).found
    (λ y g. Related local_entity (closed false) y.scope (read_members tag.text parts (passed u)).file (read_members tag.text parts (passed u)).blocks g × (y.scope.blocks ≡ unit.scope.blocks) × (y.defined ≡ unit.defined))
    (give tag >>= (λ tag. unless_so (not (is_defined_tag unit.scope (unit.scope.tags tag.text))) Redeclared tag >>= (λ new. based true unit.scope words >>= finish)))) (sym read.is)
    (subst (λ f. Follows (numbering local_entity) h f last.found V (give tag >>= (λ tag. unless_so (not (is_defined_tag unit.scope (unit.scope.tags tag.text))) Redeclared tag >>= (λ new. based true unit.scope words >>= finish)))) read.still.1
    (quietly_before (numbering local_entity) h read.s.found last.found (λ x. tag ≡ x) V (give tag) (λ tag. unless_so (not (is_defined_tag unit.scope (unit.scope.tags tag.text))) Redeclared tag >>= (λ new. based true unit.scope words >>= finish)) (yields (λ x. tag ≡ x) tag refl)
    (λ given_ same_. subst (λ z. Follows (numbering local_entity) h read.s.found last.found V (unless_so (not (is_defined_tag unit.scope (unit.scope.tags z.text))) Redeclared z >>= (λ new. based true unit.scope words >>= finish))) same_
    (quietly_before (numbering local_entity) h read.s.found last.found (λ x. not (is_defined_tag unit.scope (unit.scope.tags tag.text)) ≡ true) V (unless_so (not (is_defined_tag unit.scope (unit.scope.tags tag.text))) Redeclared tag) (λ new. based true unit.scope words >>= finish)
    (yields_unless (not (is_defined_tag unit.scope (unit.scope.tags tag.text))) Redeclared tag tt)
    (λ x new. follows_both (numbering local_entity) h read.s.found one_.found last.found (TagThen local_entity (closed false) unit.scope tag.text (unit.scope.tags tag.text) one_.file one_.blocks) V (based true unit.scope words) finish
    (subst (λ b. Follows (numbering local_entity) h read.s.found one_.found (TagThen local_entity (closed false) unit.scope tag.text (unit.scope.tags tag.text) one_.file one_.blocks) (if b then or_broken (name_in words) >>= (λ tag. based_on_tag true unit.scope tag (unit.scope.tags tag.text)) else give (record { ty = arithmetic_words words; scope = unit.scope }))) (sym form.has)
    (subst (λ x. Follows (numbering local_entity) h read.s.found one_.found (TagThen local_entity (closed false) unit.scope tag.text (unit.scope.tags tag.text) one_.file one_.blocks) (or_broken x >>= (λ tag. based_on_tag true unit.scope tag (unit.scope.tags tag.text)))) (sym w.name)
    (quietly_before (numbering local_entity) h read.s.found one_.found (λ x. tag ≡ x) (TagThen local_entity (closed false) unit.scope tag.text (unit.scope.tags tag.text) one_.file one_.blocks) (give tag) (λ tag. based_on_tag true unit.scope tag (unit.scope.tags tag.text)) (yields (λ x. tag ≡ x) tag refl)
    (λ y e. subst (λ z. Follows (numbering local_entity) h read.s.found one_.found (TagThen local_entity (closed false) unit.scope tag.text (unit.scope.tags tag.text) one_.file one_.blocks) (based_on_tag true unit.scope z (unit.scope.tags z.text))) e
    (tag_declared local_entity local_slots (closed false) unit.scope read.s h tag read.still.0 (unit.scope.tags tag.text) refl)))))
    (λ base g v. subst (λ n. Follows (numbering local_entity) g one_.found last.found V (all_members base.scope n none_known parts >>= (λ all. give (with_scope unit (record all.scope { structs = with_members_at n all.known all.scope.structs }))))) (ap number_of_struct (sym v.ty))
    (follows_both (numbering local_entity) g one_.found last.found last.found (AllThen tag.text v.number base.scope last.file last.blocks) V (all_members base.scope v.number none_known parts)
    (λ all. give (with_scope unit (record all.scope { structs = with_members_at v.number all.known all.scope.structs })))
    (all_read tag.text v.number each holds base.scope none_known (passed one_) g (open_struct tag.text v.number base.scope one_.file one_.blocks g v.rel v.here v.struct v.is (v.open_ (Rattle.std.proofs.lemmas.Bool.not-true (is_defined_tag unit.scope (unit.scope.tags tag.text)) new))))
    (λ all g2 z. record { os = []; is = sym (append-nil last.found); alike = tt; plain = refl; used = refl; after = (related_completed tag.text v.number all.scope all.known last.file last.blocks g2 z.inside, z.outside ∙ v.outside, refl) })
    (adds_none last.found)))
    (members_add tag.text parts (passed one_))))))))
