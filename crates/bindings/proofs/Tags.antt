-- Tags that words declare.
use Rattle.std.proofs.Common.{◌≡◌, ℕ, ◌+◌, ◌≤◌, ◌<◌, Bool, true, false, List, [], ◌∷◌, ◌++◌, refl, sym, ap, subst, ◌∙◌, length, arith, zero, suc}
use Rattle.std.specs.Prelude.{Option, Some, None, slice_get, if◌then◌else◌}
use Rattle.std.specs.Str.{bytes_eq}
use Rattle.std.specs.Cmp.Lexicographic.{bytes_decides}
use Rattle.std.proofs.lemmas.Bool.{eq-eqb, ne_eqb}
use Rattle.std.proofs.lemmas.List.{length-append, append-nil}
use Rattle.std.proofs.lemmas.Option.{same_Some, none-some}
use Rattle.c_text.specs.Token.{PlainToken}
use Rattle.c_types.specs.Types.{PlainType, void, char, unsigned_char, int, unsigned_int, long, unsigned_long, pointer_to, array_of, structure}
use Rattle.c_tree.specs.Trees.{PlainTrees}
use Rattle.core_meaning.specs.Checking.{Entity, struct_entity, member_entity, file_entity, Binding as JudgedBinding, ◌>>=◌, give, or_broken}
use Rattle.core_meaning.specs.Entities.{Table, with_entry, Struct, Sort, variable, function, Scope}
use Rattle.core_meaning.specs.Expressions.{arithmetic_words}
use Rattle.core_meaning.specs.Declarations.{name_in, Based, based, based_on_tag, new_struct, with_struct}
use Rattle.bindings.specs.Visible.{tags as tag_space, Entry, look_up, bound_to, Occurrence, Reading, tag_found, tag_named}
use Rattle.bindings.specs.Bindings.{read_words}
use Rattle.bindings.specs.Judged.{same_entity, Identified, identified, number_or}
use Rattle.bindings.proofs.Histories.{first_kept, first_new, first_other, first_again}
use Rattle.bindings.proofs.Follows.{renamed_one, Follows, quietly_before, yields}
use Rattle.bindings.proofs.Types.{Made, AllMade, MadeSort, made_words}
use Rattle.bindings.proofs.Related.{Room, numbering, TagFound, Related, related_same, one_occurrence, bound_first}
use Rattle.bindings.proofs.Growing.{IsSlots}
use Rattle.bindings.proofs.Scopes.{look_up_here, look_up_past, bytes_turned}
use Rattle.bindings.proofs.Expressions.{Rel}
use Rattle.bindings.proofs.Words.{WordForm, with_tag, without_tag}

-- ---- more tags

abbrev pub MoreTags : Table ℕ → Table ℕ → Type 0
MoreTags tags further = (tag : List ℕ) (n : ℕ) → tags tag ≡ Some n → further tag ≡ Some n

pub made_more : (tags further : Table ℕ) → MoreTags tags further → (ty : PlainType) → Made tags ty → Made further ty
made_more tags further m (pointer_to ty) h = made_more tags further m ty h
made_more tags further m (array_of ty count) h = made_more tags further m ty h
made_more tags further m (structure n) h = record { tag = h.tag; is = m h.tag n h.is }
made_more tags further m void h = tt
made_more tags further m char h = tt
made_more tags further m unsigned_char h = tt
made_more tags further m int h = tt
made_more tags further m unsigned_int h = tt
made_more tags further m long h = tt
made_more tags further m unsigned_long h = tt

all_made_more : (tags further : Table ℕ) → MoreTags tags further → (types : List PlainType) → AllMade tags types → AllMade further types
all_made_more tags further m [] h = tt
all_made_more tags further m (ty ∷ types) h = (made_more tags further m ty h.0, all_made_more tags further m types h.1)

sort_made_more : (tags further : Table ℕ) → MoreTags tags further → (sort : Sort) → MadeSort tags sort → MadeSort further sort
sort_made_more tags further m (variable ty) h = made_more tags further m ty h
sort_made_more tags further m (function s) h = (made_more tags further m s.result h.0, all_made_more tags further m s.parameters h.1)

pub kept_left : {A : Type 0} (xs ys : List A) (n : ℕ) (x : A) → slice_get xs n ≡ Some x → slice_get (xs ++ ys) n ≡ Some x
kept_left [] ys n x h = absurd (none-some x h)
kept_left (y ∷ xs) ys zero x h = h
kept_left (y ∷ xs) ys (suc n) x h = kept_left xs ys n x h

pub last_there : {A : Type 0} (xs : List A) (x : A) → slice_get (xs ++ x ∷ []) (length xs) ≡ Some x
last_there [] x = refl
last_there (y ∷ xs) x = last_there xs x

-- a struct's number isn't another one's
struct_other : (m n : ℕ) → m < n → same_entity (struct_entity m) (struct_entity n) ≡ false
struct_other m n less = ne_eqb m n (λ e. let same_ : m ≡ n = e in omega (arith, less, same_))

pub related_tagged :
    (at : ℕ → Entity) → IsSlots at → (taken : Room) (scope : Scope) (file blocks : List Entry) (h : List Identified) (name : List ℕ) (i : Identified) → Related at taken scope file blocks h
    → scope.tags name ≡ None → i.entity ≡ struct_entity (length scope.structs) → i.token.text ≡ name
    → Related at taken (with_struct scope name) (record { space = tag_space; name = name; declared_by = i.number } ∷ file) blocks (h ++ i ∷ [])
related_tagged at slots_are taken scope file blocks h name i r new is spelt =
    record {
      locals = λ other l e. let f = r.locals other l e in record { by = f.by; entry = f.entry; first = λ alive. let g = f.first alive in record { by = g.by; is = g.is; first = first_kept (at l.slot) h i g.by g.first }; made = made_more scope.tags further more_ l.ty f.made };
      no_local = r.no_local;
      names = λ other n e. let f = r.names other n e in record { found = record { by = f.found.by; entry = f.found.entry; first = first_kept (file_entity other) h i f.found.by f.found.first }; made = sort_made_more scope.tags further more_ n.sort f.made; word = f.word };
      no_name = r.no_name;
      no_first = λ other e p. first_other (file_entity other) h i (subst (λ e. same_entity e (file_entity other) ≡ false) (sym is) refl) ∙ r.no_first other e p;
      tagged = λ tag number e. tagged tag number (bytes_eq tag name) refl e;
      no_tag = λ tag e. no_tag tag (bytes_eq tag name) refl e;
      new_structs = λ number far. let further_ : length scope.structs < number = far_off number far in
          first_other (struct_entity number) h i (subst (λ e. same_entity e (struct_entity number) ≡ false) (sym is) (struct_other (length scope.structs) number further_)) ∙ r.new_structs number (omega (arith, further_));
      new_members = λ number n far. let further_ : length scope.structs < number = far_off number far in
          first_other (member_entity number n) h i (subst (λ e. same_entity e (member_entity number n) ≡ false) (sym is) refl) ∙ r.new_members number n (omega (arith, further_));
      free = λ alive slot far. first_other (at slot) h i (subst (λ e. same_entity e (at slot) ≡ false) (sym is) (slots_are.struct_no slot (length scope.structs))) ∙ r.free alive slot far;
      dead = r.dead;
    }
  where
    further : Table ℕ
    further = with_entry scope.tags name (length scope.structs)

    far_off : (number : ℕ) → length (scope.structs ++ new_struct name ∷ []) ≤ number → length scope.structs < number
    far_off number far = let l : length (scope.structs ++ new_struct name ∷ []) ≡ length scope.structs + 1 = length-append scope.structs (new_struct name ∷ []) in omega (arith, far, l)

    more_ : MoreTags scope.tags (with_entry scope.tags name (length scope.structs))
    more_ tag n e = by (bytes_eq tag name) refl
      where
        by : (b : Bool) → bytes_eq tag name ≡ b → (if b then Some (length scope.structs) else scope.tags tag) ≡ Some n
        by true same_ = absurd (none-some n (sym new ∙ ap scope.tags (sym ((bytes_decides tag name).0 same_)) ∙ e))
        by false same_ = e

    tagged :
        (tag : List ℕ) (number : ℕ) (b : Bool) → bytes_eq tag name ≡ b → (if b then Some (length scope.structs) else scope.tags tag) ≡ Some number
        → TagFound taken.members (with_struct scope name).tags (with_struct scope name).structs (record { space = tag_space; name = name; declared_by = i.number } ∷ file) (h ++ i ∷ []) tag number
    tagged tag number true same_ e =
        subst (λ n. TagFound taken.members (with_struct scope name).tags (with_struct scope name).structs (record { space = tag_space; name = name; declared_by = i.number } ∷ file) (h ++ i ∷ []) tag n) (same_Some (length scope.structs) number e)
        (subst (λ x. TagFound taken.members (with_struct scope name).tags (with_struct scope name).structs (record { space = tag_space; name = name; declared_by = i.number } ∷ file) (h ++ i ∷ []) x (length scope.structs)) (sym ((bytes_decides tag name).0 same_))
        (record {
          found = record {
            by = i;
            entry = look_up_here tag_space name i.number file refl;
            first = first_new (struct_entity (length scope.structs)) h i (r.new_structs (length scope.structs) (omega arith)) (subst (λ e. same_entity e (struct_entity (length scope.structs)) ≡ true) (sym is) (eq-eqb (length scope.structs) (length scope.structs) refl));
          };
          spelt = spelt;
          struct = new_struct name;
          is = last_there scope.structs (new_struct name);
          members = λ m n none_. absurd (none-some n none_);
          none_yet = λ open_ n far. first_other (member_entity (length scope.structs) n) h i (subst (λ e. same_entity e (member_entity (length scope.structs) n) ≡ false) (sym is) refl) ∙ r.new_members (length scope.structs) n (omega arith);
        }))
    tagged tag number false same_ e =
        let f = r.tagged tag number e in
        record {
          found = record { by = f.found.by; entry = look_up_past tag_space name tag i.number file (bytes_turned tag name same_) ∙ f.found.entry; first = first_kept (struct_entity number) h i f.found.by f.found.first };
          spelt = f.spelt;
          struct = f.struct;
          is = kept_left scope.structs (new_struct name ∷ []) number f.struct f.is;
          members = λ m n is_. let g = f.members m n is_ in record { member = g.member; is = g.is; made = made_more scope.tags (with_entry scope.tags name (length scope.structs)) more_ g.member.ty g.made; found = record { by = g.found.by; entry = g.found.entry; first = first_kept (member_entity number n) h i g.found.by g.found.first } };
          none_yet = λ open_ n far. first_other (member_entity number n) h i (subst (λ e. same_entity e (member_entity number n) ≡ false) (sym is) refl) ∙ f.none_yet open_ n far;
        }

    no_tag : (tag : List ℕ) (b : Bool) → bytes_eq tag name ≡ b → (if b then Some (length scope.structs) else scope.tags tag) ≡ None → look_up tag_space tag (record { space = tag_space; name = name; declared_by = i.number } ∷ file) ≡ None
    no_tag tag true same_ e = absurd (none-some (length scope.structs) (sym e))
    no_tag tag false same_ e = look_up_past tag_space name tag i.number file (bytes_turned tag name same_) ∙ r.no_tag tag e

abbrev pub MoreStructs : List Struct → List Struct → Type 0
MoreStructs structs further = (n : ℕ) (s : Struct) → slice_get structs n ≡ Some s → slice_get further n ≡ Some s

-- ---- words that may declare a tag

-- what a tag stands for behind it
pub record TagThen (at : ℕ → Entity) (taken : Room) (scope : Scope) (tag : List ℕ) (n : Option ℕ) (file blocks : List Entry) (b : Based) (h : List Identified) : Type 0 where
  pub number : ℕ
  pub ty : b.ty ≡ structure number
  pub here : b.scope.tags tag ≡ Some number
  pub rel : Related at taken b.scope file blocks h
  pub outside : b.scope.blocks ≡ scope.blocks
  pub more_tags : MoreTags scope.tags b.scope.tags
  pub more_structs : MoreStructs scope.structs b.scope.structs
  -- it is incomplete where it wasn't complete before
  pub struct : Struct
  pub is : slice_get b.scope.structs number ≡ Some struct
  pub open_ : (Rattle.core_meaning.specs.UnitNames.is_defined_tag scope n ≡ false) → struct.complete ≡ false

module _ (at : ℕ → Entity) (slots_are : IsSlots at) (taken : Room) (scope : Scope) where
  pub tag_declared :
      (r : Reading) (h : List Identified) (tag : PlainToken) → Rel at taken scope r h → (n : Option ℕ) → scope.tags tag.text ≡ n
      → Follows (numbering at) h r.found (tag_named true tag r).found (TagThen at taken scope tag.text n (tag_named true tag r).file (tag_named true tag r).blocks) (based_on_tag true scope tag n)
  tag_declared r h tag rel (Some n) e =
      let f = rel.tagged tag.text n e in
      subst (λ x. Follows (numbering at) h r.found (tag_found true tag x r).found (TagThen at taken scope tag.text (Some n) (tag_found true tag x r).file (tag_found true tag x r).blocks) (based_on_tag true scope tag (Some n))) (sym f.found.entry)
      (let o : Occurrence = record { number = r.next; token = tag; binding = bound_to f.found.by.number; uses_file_name = false } in
      let j : JudgedBinding = record { entity = struct_entity n; in_expression = false } in
      let i : Identified = identified o (renamed_one (numbering at) j) in
      one_occurrence (numbering at) h r.found o j (λ g. TagThen at taken scope tag.text (Some n) r.file r.blocks (record { ty = structure n; scope = scope }) g) refl refl
      (bound_first h r.next tag (bound_to f.found.by.number) false (struct_entity n) f.found.by refl f.found.first)
      (record {
        number = n;
        ty = refl;
        here = e;
        rel = related_same at taken scope r.file r.blocks h (h ++ i ∷ []) (first_again h i f.found.by f.found.first) rel;
        outside = refl;
        more_tags = λ tag n e. e;
        more_structs = λ n s e. e;
        struct = f.struct;
        is = f.is;
        open_ = λ defined. ap Rattle.core_meaning.specs.UnitNames.is_defined_struct (sym f.is) ∙ defined;
      }))
  tag_declared r h tag rel None e =
      subst (λ x. Follows (numbering at) h r.found (tag_found true tag x r).found (TagThen at taken scope tag.text None (tag_found true tag x r).file (tag_found true tag x r).blocks) (based_on_tag true scope tag None)) (sym (rel.no_tag tag.text e))
      (let o : Occurrence = record { number = r.next; token = tag; binding = bound_to r.next; uses_file_name = false } in
      let j : JudgedBinding = record { entity = struct_entity (length scope.structs); in_expression = false } in
      let i : Identified = identified o (renamed_one (numbering at) j) in
      one_occurrence (numbering at) h r.found o j (λ g. TagThen at taken scope tag.text None (record { space = tag_space; name = tag.text; declared_by = r.next } ∷ r.file) r.blocks (record { ty = structure (length scope.structs); scope = with_struct scope tag.text }) g) refl refl
      (sym (ap (λ f. number_or f r.next) (rel.new_structs (length scope.structs) (omega arith))))
      (record {
        number = length scope.structs;
        ty = refl;
        here = ap (λ b. if b then Some (length scope.structs) else scope.tags tag.text) (Rattle.bindings.proofs.Scopes.bytes_same tag.text);
        rel = related_tagged at slots_are taken scope r.file r.blocks h tag.text i rel e refl refl;
        outside = refl;
        more_tags = λ other n f. more_of other n f (bytes_eq other tag.text) refl;
        more_structs = λ n s e. kept_left scope.structs (new_struct tag.text ∷ []) n s e;
        struct = new_struct tag.text;
        is = last_there scope.structs (new_struct tag.text);
        open_ = λ defined. refl;
      }))
    where
      more_of : (other : List ℕ) (n : ℕ) → scope.tags other ≡ Some n → (b : Bool) → bytes_eq other tag.text ≡ b → (if b then Some (length scope.structs) else scope.tags other) ≡ Some n
      more_of other n f true same_ = absurd (none-some n (sym e ∙ ap scope.tags (sym ((bytes_decides other tag.text).0 same_)) ∙ f))
      more_of other n f false same_ = f

  pub record BasedThen (file blocks : List Entry) (b : Based) (h : List Identified) : Type 0 where
    pub made : Made b.scope.tags b.ty
    pub rel : Related at taken b.scope file blocks h
    pub outside : b.scope.blocks ≡ scope.blocks
    pub more_tags : MoreTags scope.tags b.scope.tags
    pub more_structs : MoreStructs scope.structs b.scope.structs

  -- the words of a type where they may declare a struct
  pub based_declared :
      (words : PlainTrees) → WordForm words → (r : Reading) (h : List Identified) → Rel at taken scope r h
      → Follows (numbering at) h r.found (read_words true words r).found (BasedThen (read_words true words r).file (read_words true words r).blocks) (based true scope words)
  based_declared words (with_tag has w) r h rel =
      let read = w.reads true r (λ s. Rel at taken scope s h × (s.found ≡ r.found)) (λ s p. p) (rel, refl) in
      let last : Reading = read_words true words r in
      subst (λ b. Follows (numbering at) h r.found last.found (BasedThen last.file last.blocks) (if b then or_broken (name_in words) >>= (λ tag. based_on_tag true scope tag (scope.tags tag.text)) else give (record { ty = arithmetic_words words; scope = scope }))) (sym has)
      (subst (λ x. Follows (numbering at) h r.found last.found (BasedThen last.file last.blocks) (or_broken x >>= (λ tag. based_on_tag true scope tag (scope.tags tag.text)))) (sym w.name)
      (quietly_before (numbering at) h r.found last.found (λ x. w.tag ≡ x) (BasedThen last.file last.blocks) (give w.tag) (λ tag. based_on_tag true scope tag (scope.tags tag.text)) (yields (λ x. w.tag ≡ x) w.tag refl)
      (λ tag any. subst (λ x. Follows (numbering at) h r.found last.found (BasedThen last.file last.blocks) (based_on_tag true scope x (scope.tags x.text))) any
      (subst (λ s. Follows (numbering at) h r.found s.found (BasedThen s.file s.blocks) (based_on_tag true scope w.tag (scope.tags w.tag.text))) (sym read.is)
      (subst (λ f. Follows (numbering at) h f (tag_named true w.tag read.s).found (BasedThen (tag_named true w.tag read.s).file (tag_named true w.tag read.s).blocks) (based_on_tag true scope w.tag (scope.tags w.tag.text))) read.still.1
      (Rattle.bindings.proofs.Follows.follows_as (numbering at) h read.s.found (tag_named true w.tag read.s).found (TagThen at taken scope w.tag.text (scope.tags w.tag.text) (tag_named true w.tag read.s).file (tag_named true w.tag read.s).blocks) (BasedThen (tag_named true w.tag read.s).file (tag_named true w.tag read.s).blocks)
      (based_on_tag true scope w.tag (scope.tags w.tag.text)) (tag_declared read.s h w.tag read.still.0 (scope.tags w.tag.text) refl)
      (λ b g v. record { made = subst (λ ty. Made b.scope.tags ty) (sym v.ty) (record { tag = w.tag.text; is = v.here }); rel = v.rel; outside = v.outside; more_tags = v.more_tags; more_structs = v.more_structs })))))))
  based_declared words (without_tag has plain) r h rel =
      let still = plain true r (λ s. Rel at taken scope s h × (s.found ≡ r.found)) (λ s p. p) (rel, refl) in
      let last : Reading = read_words true words r in
      subst (λ b. Follows (numbering at) h r.found last.found (BasedThen last.file last.blocks) (if b then or_broken (name_in words) >>= (λ tag. based_on_tag true scope tag (scope.tags tag.text)) else give (record { ty = arithmetic_words words; scope = scope }))) (sym has)
      (subst (λ f. Follows (numbering at) h f last.found (BasedThen last.file last.blocks) (give (record { ty = arithmetic_words words; scope = scope }))) still.1
      (record { os = []; is = sym (append-nil last.found); alike = tt; plain = refl; used = refl; after = record { made = made_words scope.tags words; rel = still.0; outside = refl; more_tags = λ tag n e. e; more_structs = λ n s e. e } }))
