-- Members of structs are read as they are judged.
use Rattle.std.proofs.Common.{◌≡◌, ℕ, ◌+◌, ◌≤◌, ◌<◌, Bool, true, false, List, [], ◌∷◌, ◌++◌, refl, sym, ap, subst, ◌∙◌, length, arith}
use Rattle.std.specs.Prelude.{Some, None, is_some, slice_get, not, ◌&&◌, ◌==◌, if◌then◌else◌}
use Rattle.std.specs.Str.{bytes_eq}
use Rattle.std.specs.Cmp.Lexicographic.{bytes_decides}
use Rattle.std.proofs.lemmas.Bool.{false≢true, eq-eqb, ne_eqb, and_left, and_right}
use Rattle.std.proofs.lemmas.List.{length-append, append-nil}
use Rattle.std.proofs.lemmas.Option.{same_Some, none-some, slice_get_within}
use Rattle.c_text.specs.Token.{PlainToken}
use Rattle.c_types.specs.Types.{PlainType}
use Rattle.c_tree.specs.declared.kinds.Kind.{Kind}
use Rattle.c_tree.specs.Trees.{PlainTrees}
use Rattle.core_meaning.specs.Checking.{local_entity, member_entity, Binding as JudgedBinding, Checked, ◌>>=◌, give, unless_so, declares}
use Rattle.core_meaning.specs.Entities.{Table, Struct, Scope}
use Rattle.core_meaning.specs.Typing.{is_complete}
use Rattle.core_meaning.specs.Declarations.{object_type}
use Rattle.core_meaning.specs.UnitNames.{Members, with_member, declared_member}
use Rattle.core_meaning.specs.declared.refusals.TypeKind.TheVariants.{Redeclared, Incomplete}
use Rattle.bindings.specs.Visible.{members_of, Entry, look_up, bound_to, Occurrence, Reading, occurs, with_file_entry, leave}
use Rattle.bindings.specs.Bindings.{among_members, read_declarator, read_suffix, read_closed_suffix}
use Rattle.bindings.specs.Judged.{same_entity, Identified, first_with, identified, number_or}
use Rattle.bindings.proofs.Histories.{first_kept, first_new, Grows}
use Rattle.bindings.proofs.Follows.{renamed_one, Follows, follows_both, follows_growing, quietly_before}
use Rattle.bindings.proofs.Spellings.{AllHold}
use Rattle.bindings.proofs.Types.{Made}
use Rattle.bindings.proofs.Operators.{yields_unless}
use Rattle.bindings.proofs.Related.{Room, numbering, MemberFound, TagFound, Related, one_occurrence}
use Rattle.bindings.proofs.Growing.{IsNew, related_grown}
use Rattle.bindings.proofs.Scopes.{look_up_here, look_up_past, bytes_turned, bytes_same}
use Rattle.bindings.proofs.Tags.{kept_left, last_there}
use Rattle.bindings.proofs.FilesKept.{suffix_files}
use Rattle.bindings.proofs.Expressions.{Rel, After}
use Rattle.bindings.proofs.Declarators.{ObjectForm}
use Rattle.bindings.proofs.Additions.{suffix_adds}

-- so many members of a struct are known, and it isn't complete yet
abbrev pub with_members : ℕ → ℕ → Room
with_members number n = record { slots = 0; pending = λ other. false; members = λ other. if other == number then n else 0; alive = false }

-- a struct whose members are being declared
pub record InStruct (tag : List ℕ) (number : ℕ) (scope : Scope) (known : Members) (file blocks : List Entry) (h : List Identified) : Type 0 where
  pub rel : Related local_entity (with_members number (length known.members)) scope file blocks h
  pub here : scope.tags tag ≡ Some number
  pub struct : Struct
  pub is : slice_get scope.structs number ≡ Some struct
  pub open_ : struct.complete ≡ false
  pub empty : (name : List ℕ) → struct.numbers name ≡ None
  pub found : (name : List ℕ) (n : ℕ) → known.numbers name ≡ Some n → MemberFound scope.tags file h tag number known.members name n

members_here : (number n : ℕ) → (if number == number then n else 0) ≡ n
members_here number n = ap (λ b. if b then n else 0) (eq-eqb number number refl)

less_than : (a b : ℕ) → a < b → (a == b) ≡ false
less_than a b less = ne_eqb a b (λ e. let same_ : a ≡ b = e in omega (arith, less, same_))

new_member : (scope : Scope) (number n : ℕ) → number < length scope.structs → IsNew local_entity (with_members number n) (with_members number (n + 1)) scope (member_entity number n)
new_member scope number n inside = record {
  names = λ name e p. (p, refl);
  members = λ other m far. by other m (other == number) refl far;
  structs = λ other far. refl;
  of_structs = λ other m far. and_left (number == other) (n == m) (less_than number other (omega (arith, far, inside)));
  slots = λ alive. absurd (false≢true alive);
  alive = refl;
}
  where
    by : (other m : ℕ) (b : Bool) → (other == number) ≡ b → (if b then n + 1 else 0) ≤ m → ((if b then n else 0) ≤ m) × (same_entity (member_entity number n) (member_entity other m) ≡ false)
    by other m true e far = (omega (arith, far), and_right (number == other) (n == m) (less_than n m (omega (arith, far))))
    by other m false e far = (omega arith, and_left (number == other) (n == m) (ne_eqb number other (λ same_. false≢true (sym e ∙ eq-eqb other number (sym same_)))))

-- a further entry among the members of a struct that has none yet
related_member :
    (taken : Room) (scope : Scope) (file blocks : List Entry) (h : List Identified) (tag name : List ℕ) (by number : ℕ) (struct : Struct) → Related local_entity taken scope file blocks h
    → scope.tags tag ≡ Some number → slice_get scope.structs number ≡ Some struct → ((m : List ℕ) → struct.numbers m ≡ None)
    → Related local_entity taken scope (record { space = members_of tag; name = name; declared_by = by } ∷ file) blocks h
related_member taken scope file blocks h tag name by number struct r here is empty =
    record {
      locals = r.locals;
      no_local = r.no_local;
      names = λ other n e. let f = r.names other n e in record { found = record { by = f.found.by; entry = f.found.entry; first = f.found.first }; made = f.made; word = f.word };
      no_name = r.no_name;
      no_first = r.no_first;
      tagged = λ other n e. let f = r.tagged other n e in record {
        found = record { by = f.found.by; entry = f.found.entry; first = f.found.first };
        spelt = f.spelt;
        struct = f.struct;
        is = f.is;
        members = λ m k e2. let g = f.members m k e2 in record { member = g.member; is = g.is; made = g.made; found = record { by = g.found.by; entry = entry other n e f m k e2 g.found.by.number g.found.entry (bytes_eq tag other) refl; first = g.found.first } };
        none_yet = f.none_yet;
      };
      no_tag = r.no_tag;
      new_structs = r.new_structs;
      new_members = r.new_members;
      free = r.free;
      dead = r.dead;
    }
  where
    entry :
        (other : List ℕ) (n : ℕ) → scope.tags other ≡ Some n → (f : TagFound taken.members scope.tags scope.structs file h other n) → (m : List ℕ) (k : ℕ) → f.struct.numbers m ≡ Some k → (at : ℕ) → look_up (members_of other) m file ≡ Some at
        → (b : Bool) → bytes_eq tag other ≡ b → look_up (members_of other) m (record { space = members_of tag; name = name; declared_by = by } ∷ file) ≡ Some at
    entry other n e f m k e2 at found true same_ =
        let one_ : Some number ≡ Some n = sym here ∙ ap scope.tags ((bytes_decides tag other).0 same_) ∙ e in
        let two_ : struct ≡ f.struct = same_Some struct f.struct (sym is ∙ ap (slice_get scope.structs) (same_Some number n one_) ∙ f.is) in
        absurd (none-some k (sym (empty m) ∙ ap (λ (s : Struct). s.numbers m) two_ ∙ e2))
    entry other n e f m k e2 at found false same_ = ap (λ b. if b && bytes_eq name m then Some by else look_up (members_of other) m file) same_ ∙ found

member_then :
    (tags : Table ℕ) (file : List Entry) (h g : List Identified) (tag : List ℕ) (number : ℕ) (known : Members) (name : List ℕ) (whole : PlainType) (i : Identified)
    → ((other : List ℕ) (n : ℕ) → known.numbers other ≡ Some n → MemberFound tags file h tag number known.members other n) → Grows h g → first_with (member_entity number (length known.members)) g ≡ Some i
    → Made tags whole → (other : List ℕ) (k : ℕ) (b : Bool) → bytes_eq other name ≡ b → (if b then Some (length known.members) else known.numbers other) ≡ Some k
    → MemberFound tags (record { space = members_of tag; name = name; declared_by = i.number } ∷ file) g tag number (known.members ++ record { name = name; ty = whole } ∷ []) other k
member_then tags file h g tag number known name whole i found grows first made other k true same_ e =
    subst (λ n. MemberFound tags (record { space = members_of tag; name = name; declared_by = i.number } ∷ file) g tag number (known.members ++ record { name = name; ty = whole } ∷ []) other n) (same_Some (length known.members) k e)
    (record {
      member = record { name = name; ty = whole };
      is = last_there known.members (record { name = name; ty = whole });
      made = made;
      found = record { by = i; entry = subst (λ x. look_up (members_of tag) x (record { space = members_of tag; name = name; declared_by = i.number } ∷ file) ≡ Some i.number) (sym ((bytes_decides other name).0 same_)) (look_up_here (members_of tag) name i.number file (bytes_same tag)); first = first };
    })
member_then tags file h g tag number known name whole i found grows first made other k false same_ e =
    let f = found other k e in
    record {
      member = f.member;
      is = kept_left known.members (record { name = name; ty = whole } ∷ []) k f.member f.is;
      made = f.made;
      found = record { by = f.found.by; entry = look_up_past (members_of tag) name other i.number file (bytes_turned other name same_) ∙ f.found.entry; first = grows (member_entity number k) f.found.by f.found.first };
    }

module _ (tag : List ℕ) (number : ℕ) (scope : Scope) where
  abbrev pub MembersThen : Reading → Members → List Identified → Type 0
  MembersThen r known h = InStruct tag number scope known r.file r.blocks h

  pub member_read :
      (known : Members) (ty : PlainType) (kind : Kind) (parts : PlainTrees) (form : ObjectForm kind parts) → AllHold parts → Made scope.tags ty → (r : Reading) (h : List Identified) → MembersThen r known h
      → Follows (numbering local_entity) h r.found (read_declarator read_closed_suffix (among_members tag) parts r).found (MembersThen (read_declarator read_closed_suffix (among_members tag) parts r))
      (declared_member scope number known ty kind parts form.named.name)
  member_read known ty kind parts form holds made r h inside =
      let n = form.named in
      let name : PlainToken = n.name in
      let m : ℕ = length known.members in
      let P : Reading → Type 0 = λ s. InStruct tag number scope known s.file s.blocks h × (s.found ≡ r.found) in
      let read = n.reads read_closed_suffix (among_members tag) r P (λ s p. p) (inside, refl) in
      let s : Reading = read.s in
      let r1 : Reading = occurs name (bound_to s.next) s in
      let r2 : Reading = leave r1 (read_suffix n.rest r1) in
      let last : Reading = with_file_entry (members_of tag) name.text s.next r2 in
      let start_ = read.still.0 in
      let taken : Room = with_members number (m + 1) in
      let o : Occurrence = record { number = s.next; token = name; binding = bound_to s.next; uses_file_name = false } in
      let j : JudgedBinding = record { entity = member_entity number m; in_expression = false } in
      let i : Identified = identified o (renamed_one (numbering local_entity) j) in
      let f = start_.rel.tagged tag number start_.here in
      let none_before : first_with (member_entity number m) h ≡ None =
      f.none_yet (ap (λ (x : Struct). x.complete) (same_Some f.struct start_.struct (sym f.is ∙ start_.is)) ∙ start_.open_) m (let z = members_here number m in omega (arith, z)) in
      let rest_of : PlainType → Checked Members = λ whole. unless_so (is_complete scope.structs whole) Incomplete name >>= (λ complete. give (with_member scope.structs known name.text whole)) in
      subst (λ u. Follows (numbering local_entity) h r.found u.found (MembersThen u) (declared_member scope number known ty kind parts name)) (sym read.is)
      (subst (λ g. Follows (numbering local_entity) h g last.found (MembersThen last) (declared_member scope number known ty kind parts name)) read.still.1
      (quietly_before (numbering local_entity) h s.found last.found (λ x. not (is_some (known.numbers name.text)) ≡ true) (MembersThen last)
      (unless_so (not (is_some (known.numbers name.text))) Redeclared name) (λ new. declares (member_entity number m) >>= (λ bound. object_type scope ty kind parts name None >>= rest_of))
      (yields_unless (not (is_some (known.numbers name.text))) Redeclared name tt)
      (λ x new. follows_both (numbering local_entity) h s.found r1.found last.found
      (λ y g. (first_with (member_entity number m) g ≡ Some i) × Rel local_entity taken scope r1 g × Grows h g) (MembersThen last)
      (declares (member_entity number m)) (λ bound. object_type scope ty kind parts name None >>= rest_of)
      (one_occurrence (numbering local_entity) h s.found o j (λ g. (first_with (member_entity number m) g ≡ Some i) × Rel local_entity taken scope r1 g × Grows h g) refl refl
      (sym (ap (λ x. number_or x s.next) none_before)) (
        first_new (member_entity number m) h i none_before (Rattle.std.proofs.lemmas.Bool.and_from (number == number) (m == m) (eq-eqb number number refl) (eq-eqb m m refl)),
        related_grown local_entity (with_members number m) taken scope s.file s.blocks h i start_.rel (new_member scope number m (slice_get_within scope.structs number start_.struct start_.is)),
        λ e x is. first_kept e h i x is,
      ))
      (λ y g w. follows_growing (numbering local_entity) g r1.found r2.found last.found (After local_entity taken scope (λ t. Made scope.tags t) r2) (MembersThen last)
      (object_type scope ty kind parts name None) rest_of
      (form.sizes local_entity taken scope ty name None (n.holds holds).1 made r1 g w.1)
      (λ whole g2 v grows. quietly_before (numbering local_entity) g2 r2.found last.found (λ x. is_complete scope.structs whole ≡ true) (MembersThen last)
      (unless_so (is_complete scope.structs whole) Incomplete name) (λ complete. give (with_member scope.structs known name.text whole))
      (yields_unless (is_complete scope.structs whole) Incomplete name tt)
      (λ x complete. record {
        os = [];
        is = sym (append-nil last.found);
        alike = tt;
        plain = refl;
        used = refl;
        after = record {
          rel = related_member (with_members number (length (known.members ++ record { name = name.text; ty = whole } ∷ []))) scope r2.file r2.blocks g2 tag name.text s.next number start_.struct
              (subst (λ z. Rel local_entity (with_members number z) scope r2 g2) (sym (length-append known.members (record { name = name.text; ty = whole } ∷ []))) v.1) start_.here start_.is start_.empty;
          here = start_.here;
          struct = start_.struct;
          is = start_.is;
          open_ = start_.open_;
          empty = start_.empty;
          found = λ other k e. subst (λ (x : List Entry). MemberFound scope.tags (record { space = members_of tag; name = name.text; declared_by = s.next } ∷ x) g2 tag number (known.members ++ record { name = name.text; ty = whole } ∷ []) other k) (sym (suffix_files n.rest r1))
              (member_then scope.tags s.file h g2 tag number known name.text whole i start_.found (λ e i is. grows e i (w.2 e i is)) (grows (member_entity number m) i w.0) v.0 other k (bytes_eq other name.text) refl e);
        };
      }))
      (Rattle.bindings.proofs.Follows.adds_none r2.found))
      (suffix_adds n.rest r1))))
