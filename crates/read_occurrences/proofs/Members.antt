-- Where a reading declares members: their names are in the name space of a struct's members.
use Rattle.std.proofs.Common.{◌≡◌, ℕ, suc, ◌+◌, ◌≤◌, Bool, true, false, ◌||◌, ◌&&◌, List, [], ◌∷◌, ◌++◌, length, inl, inr, refl, sym, subst, ◌∙◌, append_assoc, arith}
use Rattle.std.specs.Prelude.{◌⊎◌, Option, Some, if◌then◌else◌}
use Rattle.std.specs.List.{AllByRecursion}
use Rattle.std.specs.Str.{bytes_eq}
use Rattle.std.proofs.lemmas.Bool.{false≢true}
use Rattle.std.proofs.lemmas.Option.{none-some, same_Some}
use Rattle.c_text.specs.Token.{PlainToken}
use Rattle.c_tree.specs.declared.kinds.Kind.{Kind}
use Rattle.c_tree.specs.declared.kinds.Kind.TheVariants as k
use Rattle.c_tree.specs.declared.terminals.Terminal.TheVariants as t
use Rattle.c_tree.specs.Terminals.{terminal, same}
use Rattle.c_tree.specs.Trees.{PlainTree, PlainTrees, leaf, node, none, more}
use Rattle.core_meaning.specs.Declarations.{name_in}
use Rattle.bindings.specs.Visible.{NameSpace, members_of, Entry, look_up, Binding, bound_to, undeclared, member_use, Occurrence, Reading, start, passed, occurs, leave}
use Rattle.bindings.specs.Bindings.{is_name, at_file, among_members, may_declare_tags, declared, read_expression, read_expressions, read_words, read_declarator, read_declared, read_declarators, read_suffix, read_closed_suffix, read_declaration, read_statement, read_members, tag_text, read_item, read_items}
use Rattle.scope_readings.specs.Walks.{Role, declared_name, role, turns}
use Rattle.name_spaces.specs.Spaces.{space_by, spaces_in_parts, spaces_of}
use Rattle.name_spaces.proofs.Formed.{IsFormed, AreFormed, AreDeclarators, AreMembers}
use Rattle.name_spaces.proofs.Uses.{names, all_names}
use Rattle.name_spaces.proofs.Embeddings.{Spaces}
use Rattle.name_spaces.proofs.Listed.{spaces_at, part_is, parts_count, part_count}
use Rattle.read_occurrences.proofs.Walked.{IsMember}
use Rattle.read_occurrences.proofs.Quiet.{Marked, IsOfMarked, Holds, last_marked, one_more, Unmarked, Quiet, quiet_then, stays, passes, leaves, expression_quiet, expressions_quiet, words_quiet, closed_suffix_quiet, suffix_quiet, declarators_quiet, declaration_quiet, statement_quiet}

-- ---- marks among the names of a tree: names may be passed over

abbrev pub Embeds : Spaces → List Bool → Type 0
Embeds spaces [] = Unit {0}
Embeds [] (m ∷ ms) = ⊥
Embeds (s ∷ spaces) (m ∷ ms) = ((m ≡ true → IsMember s) × Embeds spaces ms) ⊎ Embeds spaces (m ∷ ms)

embeds_past : (s : Option NameSpace) (spaces : Spaces) (ms : List Bool) → Embeds spaces ms → Embeds (s ∷ spaces) ms
embeds_past s spaces [] h = tt
embeds_past s spaces (m ∷ ms) h = inr h

embeds_behind : (before spaces : Spaces) (ms : List Bool) → Embeds spaces ms → Embeds (before ++ spaces) ms
embeds_behind [] spaces ms h = h
embeds_behind (s ∷ before) spaces ms h = embeds_past s (before ++ spaces) ms (embeds_behind before spaces ms h)

embeds_both : (spaces others : Spaces) (ms ns : List Bool) → Embeds spaces ms → Embeds others ns → Embeds (spaces ++ others) (ms ++ ns)
embeds_both spaces others [] ns f g = embeds_behind spaces others ns g
embeds_both [] others (m ∷ ms) ns f g = absurd f
embeds_both (s ∷ spaces) others (m ∷ ms) ns (inl f) g = inl (f.0, embeds_both spaces others ms ns f.1 g)
embeds_both (s ∷ spaces) others (m ∷ ms) ns (inr f) g = inr (embeds_both spaces others (m ∷ ms) ns f g)

unmarked_embed : (spaces : Spaces) (ms : List Bool) → Unmarked ms → length ms ≤ length spaces → Embeds spaces ms
unmarked_embed spaces [] h less = tt
unmarked_embed [] (m ∷ ms) h less = absurd (omega (arith, less))
unmarked_embed (s ∷ spaces) (m ∷ ms) h less = inl ((λ e. absurd (false≢true (sym h.0 ∙ e))), unmarked_embed spaces ms h.1 (omega (arith, less)))

embeds_short : (spaces : Spaces) (ms : List Bool) → Embeds spaces ms → length ms ≤ length spaces
embeds_short spaces [] h = omega arith
embeds_short [] (m ∷ ms) h = absurd h
embeds_short (s ∷ spaces) (m ∷ ms) (inl h) = let short = embeds_short spaces ms h.1 in omega (arith, short)
embeds_short (s ∷ spaces) (m ∷ ms) (inr h) = let short : suc (length ms) ≤ length spaces = embeds_short spaces (m ∷ ms) h in omega (arith, short)

-- ---- readings

record Read (spaces : Spaces) (ms : List Bool) (s : Reading) : Type 0 where
  others : List Bool
  embeds : Embeds spaces others
  kept : Holds s.found s.file (ms ++ others)

record Reads (spaces : Spaces) (r s : Reading) : Type 0 where
  goes : (ms : List Bool) → Holds r.found r.file ms → Read spaces ms s

reads_quiet : (spaces : Spaces) (n : ℕ) (r s : Reading) → n ≤ length spaces → Quiet n r s → Reads spaces r s
reads_quiet spaces n r s less q = record {
  goes = λ ms h. let a = q.goes ms h in let few_ : length a.others ≤ n = a.few in record { others = a.others; embeds = unmarked_embed spaces a.others a.unmarked (omega (arith, few_, less)); kept = a.kept };
}

reads_then : (spaces others : Spaces) (r s u : Reading) → Reads spaces r s → Reads others s u → Reads (spaces ++ others) r u
reads_then spaces others r s u f g = record {
  goes = λ ms h.
      let a = f.goes ms h in
      let b = g.goes (ms ++ a.others) a.kept in
      record { others = a.others ++ b.others; embeds = embeds_both spaces others a.others b.others a.embeds b.embeds; kept = subst (Holds u.found u.file) (append_assoc ms a.others b.others) b.kept };
}

-- what is read quietly, of the parts of a node
parts_quiet :
    (parts : PlainTrees) (around : Kind) (struct : List ℕ) (kind : Kind) (turned : Bool) (r s : Reading) → Quiet (all_names parts) r s → Reads (spaces_in_parts around struct kind turned parts) r s
parts_quiet parts around struct kind turned r s q =
    let e = parts_count parts around struct kind turned in reads_quiet (spaces_in_parts around struct kind turned parts) (all_names parts) r s (omega (arith, e)) q

part_quiet :
    (tree : PlainTree) (around : Kind) (struct : List ℕ) (kind : Kind) (turned : Bool) (r s : Reading) → Quiet (names tree) r s → Reads (spaces_at around struct kind turned tree) r s
part_quiet tree around struct kind turned r s q =
    let e = part_count tree around struct kind turned in reads_quiet (spaces_at around struct kind turned tree) (names tree) r s (omega (arith, e)) q

part_then :
    (around : Kind) (struct : List ℕ) (kind : Kind) (turned : Bool) (tree : PlainTree) (rest : PlainTrees) (r s u : Reading) → Reads (spaces_at around struct kind turned tree) r s
    → ((later : Bool) → Reads (spaces_in_parts around struct kind later rest) s u) → Reads (spaces_in_parts around struct kind turned (more tree rest)) r u
part_then around struct kind turned tree rest r s u f g =
    let p = part_is around struct kind turned tree rest in
    subst (λ (l : Spaces). Reads l r u) (sym p.is) (reads_then (spaces_at around struct kind turned tree) (spaces_in_parts around struct kind p.later rest) r s u f (g p.later))

-- a token that is none of the names read
mark_then :
    (around : Kind) (struct : List ℕ) (kind : Kind) (turned : Bool) (token : PlainToken) (rest : PlainTrees) (r u : Reading)
    → ((later : Bool) → Reads (spaces_in_parts around struct kind later rest) (passed r) u) → Reads (spaces_in_parts around struct kind turned (more (leaf token) rest)) r u
mark_then around struct kind turned token rest r u g =
    part_then around struct kind turned (leaf token) rest r (passed r) u (reads_quiet (spaces_at around struct kind turned (leaf token)) 0 r (passed r) (omega arith) (passes 0 r)) g

-- ---- members

module _ (tag struct : List ℕ) where
  entered :
      (token : PlainToken) (number : ℕ) (found : List Occurrence) (file : List Entry) (ms : List Bool) → Holds found file ms → Marked found ms number
      → Holds found (record { space = members_of tag; name = token.text; declared_by = number } ∷ file) ms
  entered token number found file ms h here = record {
    entries = λ other name d. by other name d (bytes_eq tag other && bytes_eq token.text name);
    uses = h.uses;
    as_many = h.as_many;
  }
    where
      by : (other name : List ℕ) (d : ℕ) (b : Bool) → (if b then Some number else look_up (members_of other) name file) ≡ Some d → Marked found ms d
      by other name d true e = subst (Marked found ms) (same_Some number d e) here
      by other name d false e = h.entries other name d e

  name_read :
      (token : PlainToken) (rest : PlainTrees) (spaces : Spaces) → AreFormed rest → all_names rest ≤ length spaces → (r : Reading)
      → Reads (Some (members_of struct) ∷ spaces) r (declared (among_members tag) token r.next (read_closed_suffix rest (occurs token (bound_to r.next) r)))
  name_read token rest spaces formed less r =
      let o : Occurrence = record { number = r.next; token = token; binding = bound_to r.next; uses_file_name = false } in
      let s : Reading = occurs token (bound_to r.next) r in
      let u : Reading = read_closed_suffix rest s in
      record {
        goes = λ ms h.
            let first : Holds s.found s.file (ms ++ true ∷ []) = one_more r.found r.file ms o true h tt in
            let a = (closed_suffix_quiet rest formed s).goes (ms ++ true ∷ []) first in
            let few_ : length a.others ≤ all_names rest = a.few in
            let here : Marked u.found ((ms ++ true ∷ []) ++ a.others) r.next = a.marked r.next (last_marked r.found ms o h.as_many) in
            record {
              others = true ∷ a.others;
              embeds = inl ((λ e. tt), unmarked_embed spaces a.others a.unmarked (omega (arith, few_, less)));
              kept = subst (Holds u.found (record { space = members_of tag; name = token.text; declared_by = r.next } ∷ u.file)) (append_assoc ms (true ∷ []) a.others)
                  (entered token r.next u.found u.file ((ms ++ true ∷ []) ++ a.others) a.kept here);
            };
      }

  declarator_reads :
      (kind : Kind) → role kind false ≡ declared_name → ((token : PlainToken) → same t.OpenBracket (terminal token) ≡ false → turns kind token ≡ false) → (parts : PlainTrees) → AreFormed parts → (r : Reading)
      → Reads (spaces_in_parts k.Member struct kind false parts) r (read_declarator read_closed_suffix (among_members tag) parts r)
  declarator_reads kind named still none h r = reads_quiet [] 0 r r (omega arith) (stays 0 r)
  declarator_reads kind named still (more (node inner parts) rest) h r =
      parts_quiet (more (node inner parts) rest) k.Member struct kind false r (read_expressions rest (read_expressions parts r))
      (quiet_then (all_names parts) (all_names rest) _ r (read_expressions parts r) _ (omega arith) (expressions_quiet parts h.0.1 r) (expressions_quiet rest h.1 (read_expressions parts r)))
  declarator_reads kind named still (more (leaf token) rest) h r =
      by (is_name token) (same t.OpenBracket (terminal token)) refl (declarator_reads kind named still rest h.1 (passed r))
    where
      by :
          (b c : Bool) → same t.OpenBracket (terminal token) ≡ c → Reads (spaces_in_parts k.Member struct kind false rest) (passed r) (read_declarator read_closed_suffix (among_members tag) rest (passed r))
          → Reads (if b then space_by k.Member struct (role kind false) ∷ spaces_in_parts k.Member struct kind false rest else spaces_in_parts k.Member struct kind (false || turns kind token) rest) r
          (if b then declared (among_members tag) token r.next (read_closed_suffix rest (occurs token (bound_to r.next) r))
          else if c then read_expressions rest (passed r) else read_declarator read_closed_suffix (among_members tag) rest (passed r))
      by true c e further =
          let l = parts_count rest k.Member struct kind false in
          subst (λ (x : Role). Reads (space_by k.Member struct x ∷ spaces_in_parts k.Member struct kind false rest) r (declared (among_members tag) token r.next (read_closed_suffix rest (occurs token (bound_to r.next) r)))) (sym named)
          (name_read token rest (spaces_in_parts k.Member struct kind false rest) h.1 (omega (arith, l)) r)
      by false true e further =
          parts_quiet rest k.Member struct kind (false || turns kind token) r (read_expressions rest (passed r))
          (quiet_then 0 (all_names rest) _ r (passed r) _ (omega arith) (passes 0 r) (expressions_quiet rest h.1 (passed r)))
      by false false e further =
          subst (λ (later : Bool). Reads (spaces_in_parts k.Member struct kind later rest) r (read_declarator read_closed_suffix (among_members tag) rest (passed r))) (sym (still token e))
          (reads_then [] (spaces_in_parts k.Member struct kind false rest) r (passed r) (read_declarator read_closed_suffix (among_members tag) rest (passed r))
          (reads_quiet [] 0 r (passed r) (omega arith) (passes 0 r)) further)

  declared_reads :
      (tree : PlainTree) → IsFormed tree → (turned : Bool) (r : Reading) → Reads (spaces_at k.Member struct k.Declarators turned tree) r (read_declared read_closed_suffix (among_members tag) tree r)
  declared_reads (node k.Declarator parts) h turned r = declarator_reads k.Declarator refl (λ token e. refl) parts h.1 r
  declared_reads (node k.ArrayDeclarator parts) h turned r = declarator_reads k.ArrayDeclarator refl (λ token e. e) parts h.1 r
  declared_reads (node k.FunctionDeclarator parts) h turned r = declarator_reads k.FunctionDeclarator refl (λ token e. refl) parts h.1 r
  declared_reads other h turned r = part_quiet other k.Member struct k.Declarators turned r (read_expression other r) (expression_quiet other h r)

  list_reads :
      (parts : PlainTrees) → AreFormed parts → (turned : Bool) (r : Reading)
      → Reads (spaces_in_parts k.Member struct k.Declarators turned parts) r (read_declarators read_closed_suffix (among_members tag) parts r)
  list_reads none h turned r = reads_quiet [] 0 r r (omega arith) (stays 0 r)
  list_reads (more tree rest) h turned r =
      let s : Reading = read_declared read_closed_suffix (among_members tag) tree r in
      part_then k.Member struct k.Declarators turned tree rest r s (read_declarators read_closed_suffix (among_members tag) rest s) (declared_reads tree h.0 turned r) (λ later. list_reads rest h.1 later s)

  declarators_read :
      (inner : Kind) (parts : PlainTrees) → AreDeclarators (node inner parts) → AreFormed parts → (r : Reading)
      → Reads (spaces_at k.Member struct k.Member false (node inner parts)) r (read_declarators read_closed_suffix (among_members tag) parts r)
  declarators_read k.Declarators parts are h r = list_reads parts h false r
  declarators_read _ parts are h r = absurd are

  member_reads :
      (parts : PlainTrees) → IsFormed (node k.Member parts) → (r : Reading) → Reads (spaces_in_parts k.Member struct k.Member false parts) r (read_declaration (among_members tag) parts r)
  member_reads (more (node kind words) (more (node inner list) (more (leaf semicolon) none))) h r =
      let one : Reading = read_words (may_declare_tags (among_members tag)) words r in
      let two : Reading = read_declarators read_closed_suffix (among_members tag) list one in
      part_then k.Member struct k.Member false (node kind words) (more (node inner list) (more (leaf semicolon) none)) r one (passed two)
      (part_quiet (node kind words) k.Member struct k.Member false r one (words_quiet (may_declare_tags (among_members tag)) words h.1.0.1 r))
      (λ later. part_then k.Member struct k.Member later (node inner list) (more (leaf semicolon) none) one two (passed two) (declarators_read inner list h.0.1 h.1.1.0.1 one)
      (λ last. mark_then k.Member struct k.Member last semicolon none two (passed two) (λ end_. reads_quiet [] 0 (passed two) (passed two) (omega arith) (stays 0 (passed two)))))
  member_reads parts h r = parts_quiet parts k.Member struct k.Member false r (read_expressions parts r) (expressions_quiet parts h.1 r)

  members_read :
      (parts : PlainTrees) → AreFormed parts → (turned : Bool) (r : Reading) → Reads (spaces_in_parts k.StructDefinition struct k.Members turned parts) r (read_members tag parts r)
  members_read none h turned r = reads_quiet [] 0 r r (omega arith) (stays 0 r)
  members_read (more (node k.Member parts) rest) h turned r =
      let s : Reading = read_declaration (among_members tag) parts r in
      part_then k.StructDefinition struct k.Members turned (node k.Member parts) rest r s (read_members tag rest s) (member_reads parts h.0 r) (λ later. members_read rest h.1 later s)
  members_read (more other rest) h turned r =
      let s : Reading = read_expression other r in
      part_then k.StructDefinition struct k.Members turned other rest r s (read_members tag rest s) (part_quiet other k.StructDefinition struct k.Members turned r s (expression_quiet other h.0 r))
      (λ later. members_read rest h.1 later s)

  all_read :
      (inner : Kind) (parts : PlainTrees) → AreMembers (node inner parts) → AreFormed parts → (turned : Bool) (r : Reading)
      → Reads (spaces_at k.StructDefinition struct k.StructDefinition turned (node inner parts)) r (read_members tag parts r)
  all_read k.Members parts are h turned r = members_read parts h false r
  all_read _ parts are h turned r = absurd are

-- ---- items

item_quiet_parts :
    (inner : Kind) (parts : PlainTrees) (turned : Bool) (r s : Reading) → Quiet (all_names parts) r s → Reads (spaces_at k.Unit [] k.Unit turned (node inner parts)) r s
item_quiet_parts inner parts turned r s q = part_quiet (node inner parts) k.Unit [] k.Unit turned r s q

item_reads : (tree : PlainTree) → IsFormed tree → (turned : Bool) (r : Reading) → Reads (spaces_at k.Unit [] k.Unit turned tree) r (read_item tree r)
item_reads (node k.StructDefinition (more (node kind words) (more (leaf brace) (more (node list members) (more (leaf last) (more (leaf semicolon) none)))))) h turned r =
    let tag : List ℕ = tag_text (name_in words) in
    let one : Reading = read_words true words r in
    let two : Reading = read_members tag members (passed one) in
    let end_ : Reading = passed (passed two) in
    part_then k.StructDefinition tag k.StructDefinition false (node kind words) (more (leaf brace) (more (node list members) (more (leaf last) (more (leaf semicolon) none)))) r one end_
    (part_quiet (node kind words) k.StructDefinition tag k.StructDefinition false r one (words_quiet true words h.1.0.1 r))
    (λ a. mark_then k.StructDefinition tag k.StructDefinition a brace (more (node list members) (more (leaf last) (more (leaf semicolon) none))) one end_
    (λ b. part_then k.StructDefinition tag k.StructDefinition b (node list members) (more (leaf last) (more (leaf semicolon) none)) (passed one) two end_ (all_read tag tag list members h.0.1 h.1.1.1.0.1 b (passed one))
    (λ c. mark_then k.StructDefinition tag k.StructDefinition c last (more (leaf semicolon) none) two end_
    (λ d. mark_then k.StructDefinition tag k.StructDefinition d semicolon none (passed two) end_ (λ e. reads_quiet [] 0 end_ end_ (omega arith) (stays 0 end_))))))
item_reads (node k.StructDeclaration (more (node kind words) (more (leaf semicolon) none))) h turned r =
    let one : Reading = read_words true words r in
    item_quiet_parts k.StructDeclaration (more (node kind words) (more (leaf semicolon) none)) turned r (passed one)
    (quiet_then (all_names words) 0 _ r one (passed one) (omega arith) (words_quiet true words h.1.0.1 r) (passes 0 one))
item_reads (node k.Declaration parts) h turned r = item_quiet_parts k.Declaration parts turned r (read_declaration at_file parts r) (declaration_quiet at_file tt parts h.1 r)
item_reads (node k.Function (more (node kind words) (more (node list declarators) (more body none)))) h turned r =
    let one : Reading = read_words false words r in
    let two : Reading = read_declarators read_suffix at_file declarators one in
    let last : Reading = read_statement body two in
    item_quiet_parts k.Function (more (node kind words) (more (node list declarators) (more body none))) turned r (leave r last)
    (leaves _ r last (quiet_then (all_names words) (all_names declarators + names body) _ r one last (omega arith) (words_quiet false words h.1.0.1 r)
    (quiet_then (all_names declarators) (names body) _ one two last (omega arith) (declarators_quiet read_suffix at_file tt suffix_quiet declarators h.1.1.0.1 one) (statement_quiet body h.1.1.1.0 two))))
item_reads other h turned r = part_quiet other k.Unit [] k.Unit turned r (read_expression other r) (expression_quiet other h r)

items_read : (parts : PlainTrees) → AreFormed parts → (turned : Bool) (r : Reading) → Reads (spaces_in_parts k.Unit [] k.Unit turned parts) r (read_items parts r)
items_read none h turned r = reads_quiet [] 0 r r (omega arith) (stays 0 r)
items_read (more tree rest) h turned r =
    part_then k.Unit [] k.Unit turned tree rest r (read_item tree r) (read_items rest (read_item tree r)) (item_reads tree h.0 turned r) (λ later. items_read rest h.1 later (read_item tree r))

-- ---- a unit

-- an identifier with this number is in the name space of a struct's members
abbrev pub InMembers : List Occurrence → Spaces → ℕ → Type 0
InMembers [] spaces d = ⊥
InMembers (o ∷ os) [] d = ⊥
InMembers (o ∷ os) (s ∷ spaces) d = ((o.number ≡ d) × IsMember s) ⊎ InMembers os spaces d

abbrev pub IsOfMembers : List Occurrence → Spaces → Binding → Type 0
IsOfMembers found spaces (member_use which) = (tag : List ℕ) (d : ℕ) → which tag ≡ Some d → InMembers found spaces d
IsOfMembers found spaces other = Unit {0}

in_members : (os : List Occurrence) (spaces : Spaces) (ms : List Bool) (d : ℕ) → Embeds spaces ms → length spaces ≡ length ms → Marked os ms d → InMembers os spaces d
in_members [] spaces ms d h e m = absurd m
in_members (o ∷ os) spaces [] d h e m = absurd m
in_members (o ∷ os) [] (x ∷ ms) d h e m = absurd h
in_members (o ∷ os) (s ∷ spaces) (x ∷ ms) d (inl h) e (inl m) = inl (m.0, h.0 m.1)
in_members (o ∷ os) (s ∷ spaces) (x ∷ ms) d (inl h) e (inr m) = inr (in_members os spaces ms d h.1 (omega (arith, e)) m)
in_members (o ∷ os) (s ∷ spaces) (x ∷ ms) d (inr h) e m =
    let short : suc (length ms) ≤ length spaces = embeds_short spaces (x ∷ ms) h in absurd (omega (arith, short, e))

of_members : (os : List Occurrence) (spaces : Spaces) (ms : List Bool) (b : Binding) → Embeds spaces ms → length spaces ≡ length ms → IsOfMarked os ms b → IsOfMembers os spaces b
of_members os spaces ms (member_use which) h e m = λ tag d f. in_members os spaces ms d h e (m tag d f)
of_members os spaces ms (bound_to by) h e m = tt
of_members os spaces ms undeclared h e m = tt

all_of_members :
    (os : List Occurrence) (spaces : Spaces) (ms : List Bool) (xs : List Occurrence) → Embeds spaces ms → length spaces ≡ length ms → AllByRecursion (λ o. IsOfMarked os ms o.binding) xs
    → AllByRecursion (λ o. IsOfMembers os spaces o.binding) xs
all_of_members os spaces ms [] h e m = tt
all_of_members os spaces ms (x ∷ xs) h e m = (of_members os spaces ms x.binding h e m.0, all_of_members os spaces ms xs h e m.1)

start_holds : Holds [] [] []
start_holds = record { entries = λ tag name d e. absurd (none-some d e); uses = tt; as_many = refl }

pub unit_members :
    (parts : PlainTrees) → AreFormed parts → length (read_items parts start).found ≡ length (spaces_of (node k.Unit parts))
    → AllByRecursion (λ o. IsOfMembers (read_items parts start).found (spaces_of (node k.Unit parts)) o.binding) (read_items parts start).found
unit_members parts h same_ =
    let a = (items_read parts h false start).goes [] start_holds in
    let many : length (read_items parts start).found ≡ length a.others = a.kept.as_many in
    all_of_members (read_items parts start).found (spaces_of (node k.Unit parts)) a.others (read_items parts start).found a.embeds (omega (arith, many, same_)) a.kept.uses
