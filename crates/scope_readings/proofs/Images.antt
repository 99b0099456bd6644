-- What is visible in a reading, as tables of names with the numbers of the stream: each step of a reading is a step of a walk there.
use Rattle.std.proofs.Common.{◌≡◌, ℕ, ◌+◌, Bool, true, false, List, [], ◌∷◌, ◌++◌, drop, get_or, refl, sym, ap, ◌∙◌, drop-drop, get_or-drop, append-nil, add-zero}
use Rattle.std.specs.Prelude.{not, ◌&&◌, ◌||◌, Option, Some, None, is_some, if◌then◌else◌}
use Rattle.std.specs.Str.{bytes_eq}
use Rattle.std.specs.Cmp.Lexicographic.{bytes_decides}
use Rattle.std.proofs.lemmas.Bool.{false≢true}
use Rattle.std.proofs.lemmas.List.Concat.{flat_map-append}
use Rattle.c_text.specs.Token.{PlainToken}
use Rattle.core_meaning.specs.Entities.{with_entry, or_else}
use Rattle.bindings.specs.Visible as reading
use Rattle.bindings.specs.Visible.{ordinary, tags as tag_space, members_of, Entry, look_up, Binding, bound_to, undeclared, member_use, Occurrence, uses_among, Reading, occurs, with_file_entry, binding_found, visible_name, member_used, tag_found, tag_named}
use Rattle.bindings.specs.Bindings.{Where, at_file, in_block, among_members, first_or, declaring, declared}
use Rattle.scope_readings.specs.Scopes.{Pairing, Scopes, this, or_own, passed, paired, file_used, used, tagged, Scope, file_scope, block_scope, members, named, shown}
use Rattle.scope_readings.specs.Laws.{pairing, pairings}

-- ---- the image of a reading

abbrev pub seen : List ℕ → Option ℕ → Option ℕ
seen numbers None = None
seen numbers (Some by) = Some (get_or numbers by 0)

abbrev pub image : List ℕ → Reading → Scopes
image numbers r = record {
  coming = drop r.next numbers;
  file = λ name. seen numbers (look_up ordinary name r.file);
  tags = λ name. seen numbers (look_up tag_space name r.file);
  blocks = λ name. seen numbers (look_up ordinary name r.blocks);
  found = pairings numbers r.found;
  uses = uses_among r.found;
}

abbrev pub scope_at : Where → Scope
scope_at at_file = file_scope
scope_at in_block = block_scope
scope_at (among_members tag) = members

-- ---- tables that have the same for each name

same_scopes :
    (s t : Scopes) → s.coming ≡ t.coming → ((name : List ℕ) → s.file name ≡ t.file name) → ((name : List ℕ) → s.tags name ≡ t.tags name)
    → ((name : List ℕ) → s.blocks name ≡ t.blocks name) → s.found ≡ t.found → ((name : List ℕ) → s.uses name ≡ t.uses name) → s ≡ t
same_scopes s t e f g h found_ uses_ = λ i. record { coming = e i; file = λ name. f name i; tags = λ name. g name i; blocks = λ name. h name i; found = found_ i; uses = λ name. uses_ name i }

bytes_turned : (a b : List ℕ) → bytes_eq a b ≡ bytes_eq b a
bytes_turned a b = by (bytes_eq a b) refl (bytes_eq b a) refl
  where
    by : (x : Bool) → bytes_eq a b ≡ x → (y : Bool) → bytes_eq b a ≡ y → x ≡ y
    by true e true f = refl
    by true e false f = absurd (false≢true (sym f ∙ (bytes_decides b a).1 (sym ((bytes_decides a b).0 e))))
    by false e true f = absurd (false≢true (sym e ∙ (bytes_decides a b).1 (sym ((bytes_decides b a).0 f))))
    by false e false f = refl

-- a table with one more entry
entry_seen :
    (numbers name other : List ℕ) (by : ℕ) (o : Option ℕ)
    → seen numbers (if bytes_eq name other then Some by else o) ≡ (if bytes_eq other name then Some (get_or numbers by 0) else seen numbers o)
entry_seen numbers name other by o =
    by_test (bytes_eq name other) ∙ ap (λ (b : Bool). if b then Some (get_or numbers by 0) else seen numbers o) (bytes_turned name other)
  where
    by_test : (b : Bool) → seen numbers (if b then Some by else o) ≡ (if b then Some (get_or numbers by 0) else seen numbers o)
    by_test true = refl
    by_test false = refl

-- with an entry that it has already
entry_known :
    (numbers name other : List ℕ) (by : ℕ) (file : List Entry) → look_up tag_space name file ≡ Some by
    → (if bytes_eq other name then Some (get_or numbers by 0) else seen numbers (look_up tag_space other file)) ≡ seen numbers (look_up tag_space other file)
entry_known numbers name other by file e = by_test (bytes_eq other name) refl
  where
    by_test :
        (b : Bool) → bytes_eq other name ≡ b
        → (if b then Some (get_or numbers by 0) else seen numbers (look_up tag_space other file)) ≡ seen numbers (look_up tag_space other file)
    by_test true same = sym (ap (λ (x : List ℕ). seen numbers (look_up tag_space x file)) ((bytes_decides other name).0 same) ∙ ap (seen numbers) e)
    by_test false same = refl

-- ---- numbers

next_coming : (numbers : List ℕ) (n : ℕ) → drop 1 (drop n numbers) ≡ drop (n + 1) numbers
next_coming numbers n = drop-drop 1 n numbers

this_number : (numbers : List ℕ) (n : ℕ) → get_or (drop n numbers) 0 0 ≡ get_or numbers n 0
this_number numbers n = get_or-drop n numbers 0 0 ∙ ap (λ (k : ℕ). get_or numbers k 0) (add-zero n)

own_seen : (numbers : List ℕ) (o : Option ℕ) (n : ℕ) → or_own (seen numbers o) (get_or (drop n numbers) 0 0) ≡ get_or numbers (first_or o n) 0
own_seen numbers None n = this_number numbers n
own_seen numbers (Some by) n = refl

or_seen : (numbers : List ℕ) (a b : Option ℕ) → or_else (seen numbers a) (seen numbers b) ≡ seen numbers (or_else a b)
or_seen numbers None b = refl
or_seen numbers (Some by) b = refl

-- ---- identifiers

abbrev pair : ℕ → Option ℕ → List Pairing
pair number by = record { number = number; declared_by = by } ∷ []

found_pair : (numbers : List ℕ) (n : ℕ) (o : Option ℕ) → pairing numbers n (binding_found o) ≡ pair (get_or numbers n 0) (seen numbers o)
found_pair numbers n None = refl
found_pair numbers n (Some by) = refl

found_more :
    (numbers : List ℕ) (os : List Occurrence) (token : PlainToken) (n : ℕ) (binding : Binding) (uses_file_name : Bool) (by : Option ℕ)
    → pairing numbers n binding ≡ pair (get_or numbers n 0) by
    → pairings numbers os ++ pair (get_or (drop n numbers) 0 0) by ≡ pairings numbers (os ++ record { number = n; token = token; binding = binding; uses_file_name = uses_file_name } ∷ [])
found_more numbers os token n binding uses_file_name by e =
    let o : Occurrence = record { number = n; token = token; binding = binding; uses_file_name = uses_file_name } in
    ap (λ (k : ℕ). pairings numbers os ++ pair k by) (this_number numbers n)
    ∙ ap (λ (l : List Pairing). pairings numbers os ++ l) (sym (ap (λ (l : List Pairing). l ++ []) e))
    ∙ sym (flat_map-append (λ (o : Occurrence). pairing numbers o.number o.binding) os (o ∷ []))

-- ---- names of file scope that are used

or_assoc : (a b c : Bool) → ((a || b) || c) ≡ (a || (b || c))
or_assoc true b c = refl
or_assoc false b c = refl

or_false : (a : Bool) → (a || false) ≡ a
or_false true = refl
or_false false = refl

uses_more : (os : List Occurrence) (o : Occurrence) (name : List ℕ) → uses_among (os ++ o ∷ []) name ≡ (uses_among os name || (o.uses_file_name && bytes_eq o.token.text name))
uses_more [] o name = or_false (o.uses_file_name && bytes_eq o.token.text name)
uses_more (p ∷ os) o name =
    let here : Bool = p.uses_file_name && bytes_eq p.token.text name in
    ap (λ (b : Bool). here || b) (uses_more os o name) ∙ sym (or_assoc here (uses_among os name) (o.uses_file_name && bytes_eq o.token.text name))

-- an identifier that is no such use
no_use : (os : List Occurrence) (token : PlainToken) (n : ℕ) (binding : Binding) (name : List ℕ) → uses_among os name ≡ uses_among (os ++ record { number = n; token = token; binding = binding; uses_file_name = false } ∷ []) name
no_use os token n binding name = sym (uses_more os (record { number = n; token = token; binding = binding; uses_file_name = false }) name ∙ or_false (uses_among os name))

-- ---- the steps

module _ (numbers : List ℕ) where
  pub passed_image : (r : Reading) → passed (image numbers r) ≡ image numbers (reading.passed r)
  passed_image r =
      same_scopes (passed (image numbers r)) (image numbers (reading.passed r)) (next_coming numbers r.next) (λ name. refl) (λ name. refl) (λ name. refl) refl (λ name. refl)

  pub member_image : (token : PlainToken) (r : Reading) → passed (image numbers r) ≡ image numbers (member_used token r)
  member_image token r =
      let o : Occurrence = record { number = r.next; token = token; binding = member_use (λ tag. look_up (members_of tag) token.text r.file); uses_file_name = false } in
      same_scopes (passed (image numbers r)) (image numbers (member_used token r)) (next_coming numbers r.next) (λ name. refl) (λ name. refl) (λ name. refl)
      (sym (flat_map-append (λ (o : Occurrence). pairing numbers o.number o.binding) r.found (o ∷ []) ∙ append-nil (pairings numbers r.found)))
      (no_use r.found token r.next (member_use (λ tag. look_up (members_of tag) token.text r.file)))

  occurs_image :
      (token : PlainToken) (binding : Binding) (by : Option ℕ) (r : Reading) → pairing numbers r.next binding ≡ pair (get_or numbers r.next 0) by
      → paired by (image numbers r) ≡ image numbers (occurs token binding r)
  occurs_image token binding by r e =
      same_scopes (paired by (image numbers r)) (image numbers (occurs token binding r)) (next_coming numbers r.next) (λ name. refl) (λ name. refl) (λ name. refl)
      (found_more numbers r.found token r.next binding false by e) (no_use r.found token r.next binding)

  pub used_image : (token : PlainToken) (r : Reading) → used token.text (image numbers r) ≡ image numbers (reading.used token r)
  used_image token r =
      let of_file : Bool = reading.is_of_file token.text r in
      let by : Option ℕ = seen numbers (visible_name token.text r) in
      ap (λ (by : Option ℕ). paired by (file_used token.text (image numbers r))) (or_seen numbers (look_up ordinary token.text r.blocks) (look_up ordinary token.text r.file))
      ∙ same_scopes (paired by (file_used token.text (image numbers r))) (image numbers (reading.used token r)) (next_coming numbers r.next) (λ name. refl) (λ name. refl) (λ name. refl)
      (found_more numbers r.found token r.next (binding_found (visible_name token.text r)) of_file by (found_pair numbers r.next (visible_name token.text r)))
      (λ name. ap (λ (b : Bool). uses_among r.found name || (b && bytes_eq token.text name)) (file_seen (look_up ordinary token.text r.blocks) (look_up ordinary token.text r.file))
      ∙ sym (uses_more r.found (record { number = r.next; token = token; binding = binding_found (visible_name token.text r); uses_file_name = of_file }) name))
    where
      is_seen : (o : Option ℕ) → is_some (seen numbers o) ≡ is_some o
      is_seen None = refl
      is_seen (Some by) = refl

      file_seen : (inner outer : Option ℕ) → (not (is_some (seen numbers inner)) && is_some (seen numbers outer)) ≡ (not (is_some inner) && is_some outer)
      file_seen inner outer = ap (λ (b : Bool). not b && is_some (seen numbers outer)) (is_seen inner) ∙ ap (λ (b : Bool). not (is_some inner) && b) (is_seen outer)

  -- ---- tags

  abbrev entered : List ℕ → ℕ → Scopes → Scopes
  entered name by s = record (paired (Some by) s) { tags = with_entry s.tags name by }

  tag_entered :
      (token : PlainToken) (r : Reading) (o : Option ℕ) → look_up tag_space token.text r.file ≡ o
      → entered token.text (or_own (seen numbers o) (this (image numbers r))) (image numbers r) ≡ image numbers (tag_found true token o r)
  tag_entered token r (Some by) e =
      same_scopes (entered token.text (get_or numbers by 0) (image numbers r)) (image numbers (occurs token (bound_to by) r)) (next_coming numbers r.next)
      (λ name. refl) (λ name. entry_known numbers token.text name by r.file e) (λ name. refl)
      (found_more numbers r.found token r.next (bound_to by) false (Some (get_or numbers by 0)) refl) (no_use r.found token r.next (bound_to by))
  tag_entered token r None e =
      same_scopes (entered token.text (this (image numbers r)) (image numbers r))
      (image numbers (occurs token (bound_to r.next) (with_file_entry tag_space token.text r.next r))) (next_coming numbers r.next) (λ name. refl)
      (λ name. ap (λ (k : ℕ). if bytes_eq name token.text then Some k else seen numbers (look_up tag_space name r.file)) (this_number numbers r.next)
      ∙ sym (entry_seen numbers token.text name r.next (look_up tag_space name r.file)))
      (λ name. refl)
      (ap (λ (k : ℕ). pairings numbers r.found ++ pair (get_or (drop r.next numbers) 0 0) (Some k)) (this_number numbers r.next)
      ∙ found_more numbers r.found token r.next (bound_to r.next) false (Some (get_or numbers r.next 0)) refl)
      (no_use r.found token r.next (bound_to r.next))

  tag_used : (token : PlainToken) (r : Reading) (o : Option ℕ) → paired (seen numbers o) (image numbers r) ≡ image numbers (tag_found false token o r)
  tag_used token r (Some by) = occurs_image token (bound_to by) (Some (get_or numbers by 0)) r refl
  tag_used token r None = occurs_image token undeclared None r refl

  pub tag_image : (may_declare : Bool) (token : PlainToken) (r : Reading) → tagged may_declare token.text (image numbers r) ≡ image numbers (tag_named may_declare token r)
  tag_image true token r = tag_entered token r (look_up tag_space token.text r.file) refl
  tag_image false token r = tag_used token r (look_up tag_space token.text r.file)

  -- ---- names that are declared

  own_named : (token : PlainToken) (r : Reading) → paired (Some (this (image numbers r))) (image numbers r) ≡ image numbers (occurs token (bound_to r.next) r)
  own_named token r =
      ap (λ (by : ℕ). paired (Some by) (image numbers r)) (this_number numbers r.next)
      ∙ occurs_image token (bound_to r.next) (Some (get_or numbers r.next 0)) r refl

  pub named_image :
      (place : Where) (token : PlainToken) (r : Reading)
      → named (scope_at place) token.text (image numbers r) ≡ image numbers (occurs token (bound_to (declaring place token r)) r)
  named_image at_file token r =
      ap (λ (by : ℕ). paired (Some by) (image numbers r)) (own_seen numbers (look_up ordinary token.text r.file) r.next)
      ∙ occurs_image token (bound_to (declaring at_file token r)) (Some (get_or numbers (declaring at_file token r) 0)) r refl
  named_image in_block token r = own_named token r
  named_image (among_members tag) token r = own_named token r

  pub shown_image :
      (place : Where) (token : PlainToken) (r s : Reading) → s.file ≡ r.file
      → shown (scope_at place) token.text (this (image numbers r)) (image numbers s) ≡ image numbers (declared place token (declaring place token r) s)
  shown_image at_file token r s same =
      let by : ℕ = declaring at_file token r in
      same_scopes (shown file_scope token.text (this (image numbers r)) (image numbers s)) (image numbers (with_file_entry ordinary token.text by s)) refl
      (λ name. ap (λ (k : ℕ). if bytes_eq name token.text then Some k else seen numbers (look_up ordinary name s.file))
      (ap (λ (file : List Entry). or_own (seen numbers (look_up ordinary token.text file)) (this (image numbers r))) same
      ∙ own_seen numbers (look_up ordinary token.text r.file) r.next)
      ∙ sym (entry_seen numbers token.text name by (look_up ordinary name s.file)))
      (λ name. refl) (λ name. refl) refl (λ name. refl)
  shown_image in_block token r s same =
      same_scopes (shown block_scope token.text (this (image numbers r)) (image numbers s)) (image numbers (declared in_block token r.next s)) refl
      (λ name. refl) (λ name. refl)
      (λ name. ap (λ (k : ℕ). if bytes_eq name token.text then Some k else seen numbers (look_up ordinary name s.blocks)) (this_number numbers r.next)
      ∙ sym (entry_seen numbers token.text name r.next (look_up ordinary name s.blocks)))
      refl (λ name. refl)
  shown_image (among_members tag) token r s same =
      same_scopes (image numbers s) (image numbers (with_file_entry (members_of tag) token.text r.next s)) refl (λ name. refl) (λ name. refl) (λ name. refl) refl (λ name. refl)
