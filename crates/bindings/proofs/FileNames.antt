-- Names of file scope are read as they are judged.
use Rattle.std.proofs.Common.{◌≡◌, ℕ, Bool, true, false, List, [], ◌∷◌, ◌++◌, refl, sym, ap, subst, ◌∙◌}
use Rattle.std.specs.Prelude.{Option, Some, None, ◌&&◌}
use Rattle.std.specs.Str.{bytes_eq}
use Rattle.std.specs.Cmp.Lexicographic.{bytes_decides}
use Rattle.std.proofs.lemmas.Bool.{false≢true}
use Rattle.std.proofs.lemmas.Option.{same_Some, none-some}
use Rattle.c_text.specs.Token.{PlainToken}
use Rattle.c_names.specs.Names.{is_identifier}
use Rattle.core_meaning.specs.Checking.{Entity, file_entity, Binding as JudgedBinding, give, unless_so, declares}
use Rattle.core_meaning.specs.Entities.{Table, Local, Sort, FileName, Scope}
use Rattle.core_meaning.specs.UnitNames.{Storage, same_sort, same_bool, with_file_name, declared_as, with_name, linkage, is_function}
use Rattle.core_meaning.specs.declared.refusals.TypeKind.TheVariants.{Redeclared}
use Rattle.bindings.specs.Visible.{ordinary, Entry, look_up, bound_to, Occurrence, Reading, occurs}
use Rattle.bindings.specs.Bindings.{at_file, declaring, first_or}
use Rattle.bindings.specs.Judged.{Identified, first_with, identified, number_or}
use Rattle.bindings.proofs.Histories.{first_kept, first_new, first_again}
use Rattle.bindings.proofs.Follows.{renamed_one, Follows, Yields, yields, yields_both}
use Rattle.bindings.proofs.Types.{MadeSort}
use Rattle.bindings.proofs.Operators.{yields_unless}
use Rattle.bindings.proofs.Related.{Room, numbering, Related, related_same, one_occurrence, bound_first}
use Rattle.bindings.proofs.Growing.{IsSlots, related_grown}
use Rattle.bindings.proofs.Scopes.{related_again, related_named, bytes_turned}
use Rattle.bindings.proofs.Expressions.{Rel}

-- a name's declarator is open
abbrev pub pending : Bool → List ℕ → Room
pending alive name = record { slots = 0; pending = λ other. bytes_eq other name; members = λ s. 0; alive = alive }

abbrev pub closed : Bool → Room
closed alive = record { slots = 0; pending = λ other. false; members = λ s. 0; alive = alive }

related_pending :
    (at : ℕ → Entity) (alive : Bool) (name : List ℕ) (scope : Scope) (file blocks : List Entry) (h : List Identified) → Related at (closed alive) scope file blocks h
    → Related at (pending alive name) scope file blocks h
related_pending at alive name scope file blocks h r =
    record {
      locals = r.locals;
      no_local = r.no_local;
      names = r.names;
      no_name = r.no_name;
      no_first = λ other e p. r.no_first other e refl;
      tagged = r.tagged;
      no_tag = r.no_tag;
      new_structs = r.new_structs;
      new_members = r.new_members;
      free = r.free;
      dead = r.dead;
    }

-- while no slot is a function's, it is the same how many are taken
pub related_slots : (at : ℕ → Entity) (taken : Room) (n : ℕ) (scope : Scope) (file blocks : List Entry) (h : List Identified) → taken.alive ≡ false → Related at taken scope file blocks h → Related at (record taken { slots = n }) scope file blocks h
related_slots at taken n scope file blocks h dead r =
    record {
      locals = r.locals;
      no_local = r.no_local;
      names = r.names;
      no_name = r.no_name;
      no_first = r.no_first;
      tagged = r.tagged;
      no_tag = r.no_tag;
      new_structs = r.new_structs;
      new_members = r.new_members;
      free = λ alive slot far. absurd (false≢true (sym dead ∙ alive));
      dead = r.dead;
    }

pub record NameKnown (at : ℕ → Entity) (alive : Bool) (scope : Scope) (name : List ℕ) (by : ℕ) (file blocks : List Entry) (h : List Identified) : Type 0 where
  pub i : Identified
  pub first : first_with (file_entity name) h ≡ Some i
  pub is : i.number ≡ by
  pub rel : Related at (pending alive name) scope file blocks h

module _ (at : ℕ → Entity) (slots_are : IsSlots at) (alive : Bool) (scope : Scope) where
  pub name_declared :
      (name : PlainToken) (s : Reading) (h : List Identified) → Rel at (closed alive) scope s h → (n : Option FileName) → scope.file_names name.text ≡ n
      → Follows (numbering at) h s.found (occurs name (bound_to (declaring at_file name s)) s).found
      (λ x g. NameKnown at alive scope name.text (declaring at_file name s) s.file s.blocks g) (declares (file_entity name.text))
  name_declared name s h rel (Some n) e =
      let f = rel.names name.text n e in
      subst (λ by. Follows (numbering at) h s.found (occurs name (bound_to by) s).found (λ x g. NameKnown at alive scope name.text by s.file s.blocks g) (declares (file_entity name.text))) (sym (ap (λ x. first_or x s.next) f.found.entry))
      (let o : Occurrence = record { number = s.next; token = name; binding = bound_to f.found.by.number; uses_file_name = false } in
      let j : JudgedBinding = record { entity = file_entity name.text; in_expression = false } in
      let i : Identified = identified o (renamed_one (numbering at) j) in
      one_occurrence (numbering at) h s.found o j (λ g. NameKnown at alive scope name.text f.found.by.number s.file s.blocks g) refl refl
      (bound_first h s.next name (bound_to f.found.by.number) false (file_entity name.text) f.found.by refl f.found.first)
      (record {
        i = f.found.by;
        first = first_kept (file_entity name.text) h i f.found.by f.found.first;
        is = refl;
        rel = related_pending at alive name.text scope s.file s.blocks (h ++ i ∷ []) (related_same at (closed alive) scope s.file s.blocks h (h ++ i ∷ []) (first_again h i f.found.by f.found.first) rel);
      }))
  name_declared name s h rel None e =
      subst (λ by. Follows (numbering at) h s.found (occurs name (bound_to by) s).found (λ x g. NameKnown at alive scope name.text by s.file s.blocks g) (declares (file_entity name.text))) (sym (ap (λ x. first_or x s.next) (rel.no_name name.text e)))
      (let o : Occurrence = record { number = s.next; token = name; binding = bound_to s.next; uses_file_name = false } in
      let j : JudgedBinding = record { entity = file_entity name.text; in_expression = false } in
      let i : Identified = identified o (renamed_one (numbering at) j) in
      let none_before : first_with (file_entity name.text) h ≡ None = rel.no_first name.text e refl in
      one_occurrence (numbering at) h s.found o j (λ g. NameKnown at alive scope name.text s.next s.file s.blocks g) refl refl
      (sym (ap (λ f. number_or f s.next) none_before))
      (record {
        i = i;
        first = first_new (file_entity name.text) h i none_before ((bytes_decides name.text name.text).1 refl);
        is = refl;
        rel = related_grown at (closed alive) (pending alive name.text) scope s.file s.blocks h i rel (record {
          names = λ other e p. (refl, bytes_turned other name.text p);
          members = λ number m far. (far, refl);
          structs = λ number far. refl;
          of_structs = λ number m far. refl;
          slots = λ x slot far. (far, slots_are.file_no slot name.text);
          alive = refl;
        });
      }))

-- what a name's declaration leaves behind its declarator
pub record NameThen (at : ℕ → Entity) (taken : Room) (scope : Scope) (tables : List (Table Local)) (file blocks : List Entry) (h : List Identified) (x : Scope) : Type 0 where
  pub rel : Related at taken (record x { blocks = tables }) file blocks h
  pub outside : x.blocks ≡ scope.blocks
  pub same_tags : x.tags ≡ scope.tags
  pub same_structs : x.structs ≡ scope.structs

module _ (at : ℕ → Entity) (taken further : Room) (scope : Scope) (tables : List (Table Local)) (name : PlainToken) (file blocks : List Entry) (h : List Identified) (i : Identified) where
  pub named_then :
      Related at taken (record scope { blocks = tables }) file blocks h → taken.pending ≡ (λ other. bytes_eq other name.text) → further ≡ record taken { pending = λ other. false }
      → first_with (file_entity name.text) h ≡ Some i → is_identifier name.text ≡ true → (sort : Sort) → MadeSort scope.tags sort → (storage : Storage)
      → Yields (NameThen at further scope tables (record { space = ordinary; name = name.text; declared_by = i.number } ∷ file) blocks h) (with_name scope name sort storage)
  named_then rel p f first word sort made storage =
      subst (λ z. Yields (NameThen at z scope tables (record { space = ordinary; name = name.text; declared_by = i.number } ∷ file) blocks h) (with_name scope name sort storage)) (sym f)
      (by (scope.file_names name.text) refl)
    where
      closed_ : Room
      closed_ = record { slots = taken.slots; pending = λ other. false; members = taken.members; alive = taken.alive }

      there : (visible : FileName) → scope.file_names name.text ≡ Some visible → look_up ordinary name.text file ≡ Some i.number
      there visible e = let g = (rel.names name.text visible e).found in g.entry ∙ ap (λ x. Some x) (ap (λ (x : Identified). x.number) (same_Some g.by i (sym g.first ∙ first)))

      by :
          (n : Option FileName) → scope.file_names name.text ≡ n
          → Yields (NameThen at (record taken { pending = λ other. false }) scope tables (record { space = ordinary; name = name.text; declared_by = i.number } ∷ file) blocks h) (declared_as scope name sort (linkage storage (is_function sort) n) n)
      by (Some visible) e =
          let test : Bool = same_sort visible.sort sort && same_bool visible.internal (linkage storage (is_function sort) (Some visible)) in
          yields_both (λ x. test ≡ true) (NameThen at (record taken { pending = λ other. false }) scope tables (record { space = ordinary; name = name.text; declared_by = i.number } ∷ file) blocks h)
          (unless_so test Redeclared name) (λ same. give scope) (yields_unless test Redeclared name tt)
          (λ x same_. yields (NameThen at (record taken { pending = λ other. false }) scope tables (record { space = ordinary; name = name.text; declared_by = i.number } ∷ file) blocks h) scope (record {
            rel = related_again at taken (record taken { pending = λ other. false }) (record scope { blocks = tables }) file blocks h name.text i rel (there visible e)
                (λ other none_ q. subst (λ (z : List ℕ → Bool). z other ≡ false) (sym p) (unlike other none_ (bytes_eq other name.text) refl)) refl refl refl;
            outside = refl;
            same_tags = refl;
            same_structs = refl;
          }))
        where
          unlike : (other : List ℕ) → scope.file_names other ≡ None → (b : Bool) → bytes_eq other name.text ≡ b → bytes_eq other name.text ≡ false
          unlike other none_ true same_ = absurd (none-some visible (sym none_ ∙ ap scope.file_names ((bytes_decides other name.text).0 same_) ∙ e))
          unlike other none_ false same_ = same_
      by None e =
          yields (NameThen at (record taken { pending = λ other. false }) scope tables (record { space = ordinary; name = name.text; declared_by = i.number } ∷ file) blocks h)
          (with_file_name scope name.text (record { sort = sort; internal = linkage storage (is_function sort) None })) (record {
            rel = related_named at taken (record taken { pending = λ other. false }) (record scope { blocks = tables }) file blocks h name.text (record { sort = sort; internal = linkage storage (is_function sort) None }) i rel first made word
                (λ other unlike q. subst (λ (z : List ℕ → Bool). z other ≡ false) (sym p) unlike) refl refl refl;
            outside = refl;
            same_tags = refl;
            same_structs = refl;
          })
