-- How what is visible grows: by locals, names of file scope, tags and members.
use Rattle.std.proofs.Common.{◌≡◌, ℕ, ◌≤◌, ◌<◌, true, false, List, [], ◌∷◌, ◌++◌, refl, sym, ◌∙◌, length, arith}
use Rattle.std.specs.Prelude.{None, ◌==◌}
use Rattle.std.proofs.lemmas.Bool.{eq-eqb, ne_eqb, and_right}
use Rattle.core_meaning.specs.Checking.{Entity, local_entity, local_of_function, file_entity, struct_entity, member_entity}
use Rattle.core_meaning.specs.Entities.{Table, Scope}
use Rattle.bindings.specs.Visible.{NameSpace, ordinary, tags as tag_space, members_of, Entry}
use Rattle.bindings.specs.Judged.{same_entity, Identified}
use Rattle.bindings.proofs.Histories.{first_kept, first_other}
use Rattle.bindings.proofs.Related.{Room, Found, MemberFound, Related}

-- ---- slots

pub record IsSlots (at : ℕ → Entity) : Type 0 where
  pub no_file : (s : ℕ) (name : List ℕ) → same_entity (at s) (file_entity name) ≡ false
  pub no_struct : (s n : ℕ) → same_entity (at s) (struct_entity n) ≡ false
  pub no_member : (s m n : ℕ) → same_entity (at s) (member_entity m n) ≡ false
  pub file_no : (s : ℕ) (name : List ℕ) → same_entity (file_entity name) (at s) ≡ false
  pub struct_no : (s n : ℕ) → same_entity (struct_entity n) (at s) ≡ false
  pub member_no : (s m n : ℕ) → same_entity (member_entity m n) (at s) ≡ false
  pub other : (s u : ℕ) → s < u → same_entity (at s) (at u) ≡ false
  pub itself : (s : ℕ) → same_entity (at s) (at s) ≡ true

different : (s u : ℕ) → s < u → (s == u) ≡ false
different s u less = ne_eqb s u (λ e. let same_ : s ≡ u = e in omega (arith, less, same_))

pub local_slots : IsSlots local_entity
local_slots = record {
  no_file = λ s name. refl;
  no_struct = λ s n. refl;
  no_member = λ s m n. refl;
  file_no = λ s name. refl;
  struct_no = λ s n. refl;
  member_no = λ s m n. refl;
  other = λ s u less. different s u less;
  itself = λ s. eq-eqb s s refl;
}

pub function_slots : (f : ℕ) → IsSlots (local_of_function f)
function_slots f = record {
  no_file = λ s name. refl;
  no_struct = λ s n. refl;
  no_member = λ s m n. refl;
  file_no = λ s name. refl;
  struct_no = λ s n. refl;
  member_no = λ s m n. refl;
  other = λ s u less. and_right (f == f) (s == u) (different s u less);
  itself = λ s. Rattle.std.proofs.lemmas.Bool.and_from (f == f) (s == s) (eq-eqb f f refl) (eq-eqb s s refl);
}

-- ---- a further entity

found_grown : (space : NameSpace) (name : List ℕ) (entries : List Entry) (entity : Entity) (h : List Identified) (i : Identified) → Found space name entries entity h → Found space name entries entity (h ++ i ∷ [])
found_grown space name entries entity h i f = record { by = f.by; entry = f.entry; first = first_kept entity h i f.by f.first }

member_grown :
    (tags : Table ℕ) (file : List Entry) (h : List Identified) (i : Identified) (tag : List ℕ) (number : ℕ) (members : List Rattle.c_types.specs.Tags.PlainMember) (name : List ℕ) (n : ℕ)
    → MemberFound tags file h tag number members name n → MemberFound tags file (h ++ i ∷ []) tag number members name n
member_grown tags file h i tag number members name n m = record { member = m.member; is = m.is; made = m.made; found = found_grown (members_of tag) name file (member_entity number n) h i m.found }

-- what is new isn't one of those that aren't there yet
pub record IsNew (at : ℕ → Entity) (taken further : Room) (scope : Scope) (entity : Entity) : Type 0 where
  pub names : (name : List ℕ) → scope.file_names name ≡ None → further.pending name ≡ false → (taken.pending name ≡ false) × (same_entity entity (file_entity name) ≡ false)
  pub members : (number n : ℕ) → further.members number ≤ n → (taken.members number ≤ n) × (same_entity entity (member_entity number n) ≡ false)
  pub structs : (number : ℕ) → length scope.structs ≤ number → same_entity entity (struct_entity number) ≡ false
  pub of_structs : (number n : ℕ) → length scope.structs ≤ number → same_entity entity (member_entity number n) ≡ false
  pub slots : further.alive ≡ true → (slot : ℕ) → further.slots ≤ slot → (taken.slots ≤ slot) × (same_entity entity (at slot) ≡ false)
  pub alive : further.alive ≡ taken.alive

pub related_grown :
    (at : ℕ → Entity) (taken further : Room) (scope : Scope) (file blocks : List Entry) (h : List Identified) (i : Identified) → Related at taken scope file blocks h
    → IsNew at taken further scope i.entity → Related at further scope file blocks (h ++ i ∷ [])
unfolding found_grown
related_grown at taken further scope file blocks h i r new = record {
  locals = λ name l e. let f = r.locals name l e in record { by = f.by; entry = f.entry; first = λ alive. let g = f.first (sym new.alive ∙ alive) in record { by = g.by; is = g.is; first = first_kept (at l.slot) h i g.by g.first }; made = f.made };
  no_local = r.no_local;
  names = λ name n e. let f = r.names name n e in record { found = found_grown ordinary name file (file_entity name) h i f.found; made = f.made; word = f.word };
  no_name = r.no_name;
  no_first = λ name e p. let q = new.names name e p in first_other (file_entity name) h i q.1 ∙ r.no_first name e q.0;
  tagged = λ tag number e. let f = r.tagged tag number e in record {
    found = found_grown tag_space tag file (struct_entity number) h i f.found;
    spelt = f.spelt;
    struct = f.struct;
    is = f.is;
    members = λ name n is. member_grown scope.tags file h i tag number f.struct.members name n (f.members name n is);
    none_yet = λ open_ n far. let q = new.members number n far in first_other (member_entity number n) h i q.1 ∙ f.none_yet open_ n q.0;
  };
  no_tag = r.no_tag;
  new_structs = λ number far. first_other (struct_entity number) h i (new.structs number far) ∙ r.new_structs number far;
  new_members = λ number n far. first_other (member_entity number n) h i (new.of_structs number n far) ∙ r.new_members number n far;
  free = λ alive slot far. let q = new.slots alive slot far in first_other (at slot) h i q.1 ∙ r.free (sym new.alive ∙ alive) slot q.0;
  dead = λ dead. r.dead (sym new.alive ∙ dead);
}
