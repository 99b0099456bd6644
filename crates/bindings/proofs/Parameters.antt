-- Parameters are read as they are judged.
use Rattle.std.proofs.Common.{◌≡◌, ℕ, ◌+◌, Bool, true, false, List, [], ◌∷◌, ◌++◌, refl, sym, ap, subst, ◌∙◌, length, arith, suc}
use Rattle.std.specs.Prelude.{Option, Some, None, if◌then◌else◌}
use Rattle.std.proofs.lemmas.Bool.{false≢true, and_parts}
use Rattle.std.proofs.lemmas.List.{length-append, append-nil}
use Rattle.c_text.specs.Token.{PlainToken}
use Rattle.c_types.specs.Types.{PlainType, pointer_to}
use Rattle.c_tree.specs.declared.kinds.Kind.{Kind}
use Rattle.c_tree.specs.declared.kinds.Kind.TheVariants as k
use Rattle.c_tree.specs.declared.terminals.Terminal.{Terminal}
use Rattle.c_tree.specs.declared.terminals.Terminal.TheVariants as t
use Rattle.c_tree.specs.Terminals.{terminal, same}
use Rattle.c_tree.specs.Trees.{PlainTree, PlainTrees, leaf, node, none, more, absent}
use Rattle.c_tree.specs.Grammar.{abstract_declarator, parameters, parameter, Slot, word, stars, perhaps, optional, bracketed_size, is_lone_void, are_words, is_absent}
use Rattle.c_tree.specs.Heights.{count_stars}
use Rattle.c_tree.proofs.TerminalCases.{one_of}
use Rattle.core_meaning.specs.Checking.{Entity, local_entity, own_entity, Binding as JudgedBinding, Checked, ◌>>=◌, give, unless_so, declares}
use Rattle.core_meaning.specs.Entities.{Table, Local, Scope, no_entry}
use Rattle.core_meaning.specs.Typing.{is_complete}
use Rattle.core_meaning.specs.Constancy.{is_small}
use Rattle.core_meaning.specs.Expressions.{first_token_in}
use Rattle.core_meaning.specs.Declarations.{name_in, behind_word, starred, Based, based, Parameter, size_of_parameter, parameter_type, token_of, is_new_parameter, parameter_entity, declares_name, may_be_parameter, judged_parameter, declared_parameter, one_parameter, with_parameter, with_local_in, with_block, parameters_from, parameters_in, parameters_of}
use Rattle.core_meaning.specs.declared.refusals.TypeKind.TheVariants.{Redeclared, Incomplete, BadConstant}
use Rattle.tree_derivations.specs.Derivations.{Derivation, single, made_of, a_row, Row, at_end, a_word, perhaps_there, not_there, a_star, no_star, a_part, left_out, given, with_commas, Separated, last_one, next_one, IsWord}
use Rattle.bindings.specs.Visible.{Entry, bound_to, Occurrence, Reading, passed, occurs, with_block_entry, leave}
use Rattle.bindings.specs.Bindings.{is_name, Where, in_block, declaring, declared, read_expressions, read_words, read_declarator, read_declared, read_parameter, read_parameters, read_suffix}
use Rattle.bindings.specs.Judged.{same_entity, Identified, first_with, identified, number_or}
use Rattle.bindings.proofs.Histories.{first_new}
use Rattle.bindings.proofs.Follows.{Adds, adds_none, renamed_one, Follows, follows_both, follows_growing, quietly_before, Yields, yields, yields_both, yields_as}
use Rattle.bindings.proofs.Spellings.{Holds, AllHold, no_name}
use Rattle.bindings.proofs.Types.{Made}
use Rattle.bindings.proofs.Operators.{Anything, yields_unless}
use Rattle.bindings.proofs.Related.{Room, FirstIs, numbering, Related, one_occurrence}
use Rattle.bindings.proofs.Growing.{IsSlots, related_grown}
use Rattle.bindings.proofs.Scopes.{related_local, related_block}
use Rattle.bindings.proofs.Expressions.{expressions_add, read_leaf, skip, Rel, After, Goal, then_quietly, quietly}
use Rattle.bindings.proofs.Words.{WordForm, based_read, plain_words_form}
use Rattle.bindings.proofs.Declarators.{Named, named_here, named_star, step_behind, SizeForm, unsized, sized, size_form, size_read, suffix_of, expressions_blocks, made_pointers, row_end, Here}
use Rattle.bindings.proofs.Additions.{one_declared_adds, parameters_add}
use Rattle.bindings.proofs.Locals.{specifiers_are}

-- ---- declarators that may do without a name

record ReadsRest (suffix : PlainTrees → Reading → Reading) (place : Where) (parts rest : PlainTrees) (P : Reading → Type 0) (r : Reading) : Type 0 where
  s : Reading
  still : P s
  is : read_declarator suffix place parts r ≡ read_declarator suffix place rest s

record Unnamed (slots : List Slot) (parts : PlainTrees) : Type 1 where
  rest : PlainTrees
  row : Row slots rest
  names : name_in parts ≡ name_in rest
  behind : (w : Terminal) → same w t.Star ≡ false → behind_word w parts ≡ behind_word w rest
  holds : AllHold parts → AllHold rest
  reads : (suffix : PlainTrees → Reading → Reading) (place : Where) (r : Reading) (P : Reading → Type 0) → ((s : Reading) → P s → P (passed s)) → P r → ReadsRest suffix place parts rest P r

data Abstract (slots : List Slot) (parts : PlainTrees) : Type 1 where
  with_name : Named slots parts → Abstract slots parts
  without_name : Unnamed slots parts → Abstract slots parts

unnamed_star : (slots : List Slot) (token : PlainToken) (rest : PlainTrees) → IsWord (t.Star ∷ []) token → Unnamed slots rest → Unnamed slots (more (leaf token) rest)
unnamed_star slots token rest w others =
    let kind : terminal token ≡ t.Star = one_of (λ x. x ≡ t.Star) (t.Star ∷ []) (terminal token) w (refl, tt) in
    let no_name_ : is_name token ≡ false = ap (same t.Name) kind in
    let no_bracket : same t.OpenBracket (terminal token) ≡ false = ap (same t.OpenBracket) kind in
    record {
      rest = others.rest;
      row = others.row;
      names = ap (λ b. if b then Some token else (if same t.OpenBracket (terminal token) then None else name_in rest)) no_name_ ∙ ap (λ b. if b then None else name_in rest) no_bracket ∙ others.names;
      behind = λ x star. step_behind x token rest (subst (λ y. same x y ≡ false) (sym kind) star) ∙ others.behind x star;
      holds = λ h. others.holds h.1;
      reads = λ suffix place r P step p. let read = others.reads suffix place (passed r) P step (step r p) in record {
        s = read.s;
        still = read.still;
        is = ap (λ b. if b then declared place token (declaring place token r) (suffix rest (occurs token (bound_to (declaring place token r)) r))
            else if same t.OpenBracket (terminal token) then read_expressions rest (passed r) else read_declarator suffix place rest (passed r)) no_name_
            ∙ ap (λ b. if b then read_expressions rest (passed r) else read_declarator suffix place rest (passed r)) no_bracket ∙ read.is;
      };
    }

abstract_star : (slots : List Slot) (token : PlainToken) (rest : PlainTrees) → IsWord (t.Star ∷ []) token → Abstract slots rest → Abstract slots (more (leaf token) rest)
abstract_star slots token rest w (with_name n) = with_name (named_star slots token rest w n)
abstract_star slots token rest w (without_name u) = without_name (unnamed_star slots token rest w u)

abstract_form : {slots : List Slot} {parts : PlainTrees} → Row (stars ∷ perhaps (t.Name ∷ []) ∷ slots) parts → Abstract slots parts
abstract_form (a_star {slots = slots} {token = token} {rest = rest} w row) = abstract_star _ token rest w (abstract_form row)
abstract_form (no_star (perhaps_there {slots = slots} {token = token} {rest = rest} w row)) = with_name (named_here slots token rest w row)
abstract_form (no_star (not_there {slots = slots} {parts = parts} row)) =
    without_name (record { rest = parts; row = row; names = refl; behind = λ w star. refl; holds = λ h. h; reads = λ suffix place r P step p. record { s = r; still = p; is = refl } })

-- ---- sizes of parameters

suffix_expressions : {rest : PlainTrees} → SizeForm rest → (r : Reading) → read_suffix rest r ≡ read_expressions rest r
suffix_expressions (unsized bracket close b c) r = refl
suffix_expressions (sized bracket close size b c d) r = suffix_of d (more (leaf close) none) (read_leaf bracket r)

first_bracket :
    (bracket : PlainToken) (rest : PlainTrees) → terminal bracket ≡ t.OpenBracket → (suffix : PlainTrees → Reading → Reading) (place : Where) (r : Reading)
    → (name_in (more (leaf bracket) rest) ≡ None) × (read_declarator suffix place (more (leaf bracket) rest) r ≡ read_expressions (more (leaf bracket) rest) r)
first_bracket bracket rest b suffix place r =
    let no_name_ : is_name bracket ≡ false = ap (same t.Name) b in
    let is_bracket : same t.OpenBracket (terminal bracket) ≡ true = ap (same t.OpenBracket) b in (
      ap (λ x. if x then Some bracket else (if same t.OpenBracket (terminal bracket) then None else name_in rest)) no_name_ ∙ ap (λ x. if x then None else name_in rest) is_bracket,
      ap (λ x. if x then declared place bracket (declaring place bracket r) (suffix rest (occurs bracket (bound_to (declaring place bracket r)) r))
          else if same t.OpenBracket (terminal bracket) then read_expressions rest (passed r) else read_declarator suffix place rest (passed r)) no_name_
          ∙ ap (λ x. if x then read_expressions rest (passed r) else read_declarator suffix place rest (passed r)) is_bracket
          ∙ ap (λ x. read_expressions rest (if x then Rattle.bindings.specs.Visible.used bracket r else passed r)) (sym no_name_),
    )

bracket_first : {rest : PlainTrees} → SizeForm rest → (suffix : PlainTrees → Reading → Reading) (place : Where) (r : Reading) → (name_in rest ≡ None) × (read_declarator suffix place rest r ≡ read_expressions rest r)
bracket_first (unsized bracket close b c) suffix place r = first_bracket bracket (more absent (more (leaf close) none)) b suffix place r
bracket_first (sized bracket close size b c d) suffix place r = first_bracket bracket (more size (more (leaf close) none)) b suffix place r

-- the type of a parameter is read as it is judged
abbrev Sizing : Kind → PlainTrees → PlainTrees → Type 0
Sizing kind parts rest =
    (at : ℕ → Entity) (taken : Room) (scope : Scope) (ty : PlainType) (name : PlainToken) → AllHold rest → Made scope.tags ty → (r : Reading) (h : List Identified) → Rel at taken scope r h
    → Goal at taken scope (Here at taken scope) h r.found (read_expressions rest r) (parameter_type scope ty kind parts name)

plain_sizing : (parts rest : PlainTrees) → Row [] rest → Sizing k.Declarator parts rest
plain_sizing parts rest row at taken scope ty name holds made r h rel =
    subst (λ x. Goal at taken scope (Here at taken scope) h r.found (read_expressions x r) (parameter_type scope ty k.Declarator parts name)) (sym (row_end row))
    (quietly at taken scope (Here at taken scope) h r (give (starred parts ty)) rel (yields (Here at taken scope) (starred parts ty) (made_pointers scope.tags (count_stars parts) ty made)))

array_sizing : (parts rest : PlainTrees) → Row bracketed_size rest → behind_word t.OpenBracket parts ≡ behind_word t.OpenBracket rest → Sizing k.ArrayDeclarator parts rest
array_sizing parts rest row behind at taken scope ty name holds made r h rel =
    quietly_before (numbering at) h r.found (read_expressions rest r).found (λ x. is_complete scope.structs (starred parts ty) ≡ true) (After at taken scope (Here at taken scope) (read_expressions rest r))
    (unless_so (is_complete scope.structs (starred parts ty)) Incomplete name)
    (λ complete. size_of_parameter scope name (behind_word t.OpenBracket parts) >>= (λ count. give (pointer_to (starred parts ty))))
    (yields_unless (is_complete scope.structs (starred parts ty)) Incomplete name tt)
    (λ x complete. then_quietly at taken scope Anything (Here at taken scope) h r.found (read_expressions rest r) (size_of_parameter scope name (behind_word t.OpenBracket parts)) (λ count. give (pointer_to (starred parts ty)))
    (subst (λ x. Goal at taken scope Anything h r.found (read_expressions rest r) (size_of_parameter scope name x)) (sym behind)
    (subst (λ (b : List Entry). Goal at taken scope Anything h r.found (record (read_expressions rest r) { blocks = b }) (size_of_parameter scope name (behind_word t.OpenBracket rest))) (sym (expressions_blocks rest r))
    (subst (λ s. Goal at taken scope Anything h r.found (leave r s) (size_of_parameter scope name (behind_word t.OpenBracket rest))) (suffix_expressions (size_form row) r)
    (size_read at taken scope (size_form row) holds name (give 0) (yields Anything 0 tt) r h rel))))
    (λ count any. yields (Here at taken scope) (pointer_to (starred parts ty)) (made_pointers scope.tags (count_stars parts) ty made)))

-- ---- one parameter

first_own : (h : List Identified) → first_with own_entity h ≡ None
first_own [] = refl
first_own (i ∷ rest) = ap (λ b. if b then Some i else first_with own_entity rest) (never i.entity) ∙ first_own rest
  where
    never : (e : Entity) → same_entity e own_entity ≡ false
    never own_entity = refl
    never _ = refl

related_more : (at : ℕ → Entity) (taken further : Room) (scope : Scope) (file blocks : List Entry) (h : List Identified) → Related at taken scope file blocks h → further ≡ record taken { slots = taken.slots + 1 } → Related at further scope file blocks h
related_more at taken further scope file blocks h r e =
    subst (λ x. Related at x scope file blocks h) (sym e) (record {
      locals = r.locals;
      no_local = r.no_local;
      names = r.names;
      no_name = r.no_name;
      no_first = r.no_first;
      tagged = r.tagged;
      no_tag = r.no_tag;
      new_structs = r.new_structs;
      new_members = r.new_members;
      free = λ alive slot far. r.free alive slot (omega (arith, far));
      dead = r.dead;
    })

abbrev declared_so : Bool → Scope → List Parameter → PlainType → PlainToken → Kind → PlainTrees → Checked Parameter
declared_so defining scope before ty first kind parts =
    unless_so (is_new_parameter before (name_in parts)) Redeclared (token_of (name_in parts) first)
    >>= (λ new. declares_name (name_in parts) (parameter_entity defining (length before))
    >>= (λ bound. parameter_type scope ty kind parts (token_of (name_in parts) first)
    >>= (λ whole. judged_parameter defining scope whole (token_of (name_in parts) first)
    >>= (λ judged. give (record { name = name_in parts; ty = whole })))))

parameter_quiet : (defining : Bool) (scope : Scope) (ty : PlainType) (token : PlainToken) → Yields Anything (judged_parameter defining scope ty token)
parameter_quiet defining scope ty token =
    yields_both (λ x. may_be_parameter defining scope ty ≡ true) Anything (unless_so (may_be_parameter defining scope ty) Incomplete token) (λ fits. unless_so (is_small scope.structs ty) BadConstant token)
    (yields_unless (may_be_parameter defining scope ty) Incomplete token tt)
    (λ x e. yields_as (λ y. is_small scope.structs ty ≡ true) Anything (unless_so (is_small scope.structs ty) BadConstant token) (yields_unless (is_small scope.structs ty) BadConstant token tt) (λ y f. tt))

-- ---- the lone `void`

abstract_present : {tree : PlainTree} → Derivation abstract_declarator tree → is_absent tree ≡ false
abstract_present (single is) = absurd cc
abstract_present (made_of k.Absent b a s) = absurd cc
abstract_present (made_of _ b a s) = refl

lone_read :
    {parts : PlainTrees} → Separated parameter parts → is_lone_void parts ≡ true → (r : Reading) (P : Reading → Type 0) → ((s : Reading) → P s → P (passed s)) → P r → P (read_parameters parts r)
lone_read (last_one d) lone r P step p = one_lone d lone r P step p
  where
    one_lone : {tree : PlainTree} → Derivation parameter tree → is_lone_void (more tree none) ≡ true → (r : Reading) (P : Reading → Type 0) → ((s : Reading) → P s → P (passed s)) → P r → P (read_parameter tree r)
    one_lone (single is) lone r P step p = absurd cc
    one_lone (made_of k.Parameter b a (a_row (a_part {tree = words} w (left_out at_end)))) lone r P step p =
        let ws = specifiers_are w in
        subst (λ x. P (read_parameter (node k.Parameter (more x (more absent none))) r)) (sym ws.is)
        (plain_words_form (t.Void ∷ []) ws.parts (and_parts (are_words (t.Void ∷ []) ws.parts) true (subst (λ x. is_lone_void (more (node k.Parameter (more x (more absent none))) none) ≡ true) ws.is lone)).0 refl false r P step p)
    one_lone (made_of k.Parameter b a (a_row (a_part {tree = words} w (given {tree = tree} d at_end)))) lone r P step p =
        let ws = specifiers_are w in
        absurd (false≢true (sym (abstract_present d) ∙ (and_parts (are_words (t.Void ∷ []) ws.parts) (is_absent tree) (subst (λ x. is_lone_void (more (node k.Parameter (more x (more tree none))) none) ≡ true) ws.is lone)).1))
    one_lone (made_of _ b a s) lone r P step p = absurd cc
lone_read (next_one {comma = comma} {rest = rest} d w others) lone r P step p = absurd (more_than d comma rest lone)
  where
    more_than : {tree : PlainTree} → Derivation parameter tree → (comma : PlainToken) (rest : PlainTrees) → is_lone_void (more tree (more (leaf comma) rest)) ≡ true → ⊥
    more_than (single is) comma rest lone = absurd cc
    more_than (made_of k.Parameter b a (a_row (a_part {tree = words} w (left_out at_end)))) comma rest lone =
        let ws = specifiers_are w in false≢true (subst (λ x. is_lone_void (more (node k.Parameter (more x (more absent none))) (more (leaf comma) rest)) ≡ true) ws.is lone)
    more_than (made_of k.Parameter b a (a_row (a_part {tree = words} w (given {tree = tree} d at_end)))) comma rest lone =
        let ws = specifiers_are w in false≢true (subst (λ x. is_lone_void (more (node k.Parameter (more x (more tree none))) (more (leaf comma) rest)) ≡ true) ws.is lone)
    more_than (made_of _ b a s) comma rest lone = absurd cc

record ListOf (tree : PlainTree) : Type 0 where
  parts : PlainTrees
  is : tree ≡ node k.Parameters parts
  listed : Separated parameter parts

list_of : {tree : PlainTree} → Derivation parameters tree → ListOf tree
list_of (single is) = absurd cc
list_of (made_of k.Parameters {parts = parts} b a (with_commas s)) = record { parts = parts; is = refl; listed = s }
list_of (made_of _ b a s) = absurd cc

behind_open : (open_ : PlainToken) (list : PlainTree) (rest : PlainTrees) → IsWord (t.OpenParenthesis ∷ []) open_ → behind_word t.OpenParenthesis (more (leaf open_) (more list rest)) ≡ Some list
behind_open open_ list rest w = one_of (λ x. (if same t.OpenParenthesis x then Some list else behind_word t.OpenParenthesis (more list rest)) ≡ Some list) (t.OpenParenthesis ∷ []) (terminal open_) w (refl, tt)

-- a parameter is visible behind its declarator
abbrev pub with_parameter_in : List (Table Local) → ℕ → Option PlainToken → PlainType → List (Table Local)
with_parameter_in blocks n None ty = blocks
with_parameter_in blocks n (Some name) ty = with_local_in blocks name.text (record { slot = n; ty = ty })

nothing_left : (rest : PlainTrees) → Row [] rest → (s : Reading) → (name_in rest ≡ None) × (read_declarator read_expressions in_block rest s ≡ read_expressions rest s)
nothing_left none at_end s = (refl, refl)
nothing_left (more _ _) row s = elim row [ ]

module _ (at : ℕ → Entity) (slots_are : IsSlots at) (base : Room) where
  abbrev pub taken : ℕ → Room
  taken n = record base { slots = n }

  abbrev ParameterAfter : Scope → ℕ → Reading → Parameter → List Identified → Type 0
  ParameterAfter scope n r x h = Made scope.tags x.ty × Related at (taken (n + 1)) (with_parameter scope n x.name x.ty) r.file r.blocks h

  name_step :
      (defining : Bool) → base.alive ≡ defining → (scope : Scope) (n : ℕ) (name : PlainToken) (s : Reading) (h : List Identified) → Rel at (taken n) scope s h
      → Follows (numbering at) h s.found (occurs name (bound_to s.next) s).found (λ x g. (base.alive ≡ true → FirstIs (at n) g s.next) × Rel at (taken (n + 1)) scope (occurs name (bound_to s.next) s) g)
      (declares (parameter_entity defining n))
  name_step true alive scope n name s h rel =
      let o : Occurrence = record { number = s.next; token = name; binding = bound_to s.next; uses_file_name = false } in
      let j : JudgedBinding = record { entity = local_entity n; in_expression = false } in
      let i : Identified = identified o (renamed_one (numbering at) j) in
      let none_before : first_with (at n) h ≡ None = rel.free alive n (omega arith) in
      one_occurrence (numbering at) h s.found o j (λ g. (base.alive ≡ true → FirstIs (at n) g s.next) × Rel at (taken (n + 1)) scope (occurs name (bound_to s.next) s) g) refl refl
      (sym (ap (λ f. number_or f s.next) none_before)) (
        (λ x. record { by = i; is = refl; first = first_new (at n) h i none_before (slots_are.itself n) }),
        related_grown at (taken n) (taken (n + 1)) scope s.file s.blocks h i rel (record {
          names = λ name e p. (p, slots_are.no_file n name);
          members = λ number m far. (far, slots_are.no_member n number m);
          structs = λ number far. slots_are.no_struct n number;
          of_structs = λ number m far. slots_are.no_member n number m;
          slots = λ alive slot far. (omega (arith, far), slots_are.other n slot (omega (arith, far)));
          alive = refl;
        }),
      )
  name_step false dead scope n name s h rel =
      let o : Occurrence = record { number = s.next; token = name; binding = bound_to s.next; uses_file_name = false } in
      let j : JudgedBinding = record { entity = own_entity; in_expression = false } in
      let i : Identified = identified o (renamed_one (numbering at) j) in
      one_occurrence (numbering at) h s.found o j (λ g. (base.alive ≡ true → FirstIs (at n) g s.next) × Rel at (taken (n + 1)) scope (occurs name (bound_to s.next) s) g) refl refl
      (sym (ap (λ f. number_or f s.next) (first_own h))) (
        (λ x. absurd (false≢true (sym dead ∙ x))),
        related_grown at (taken n) (taken (n + 1)) scope s.file s.blocks h i rel (record {
          names = λ name e p. (p, refl);
          members = λ number m far. (far, refl);
          structs = λ number far. refl;
          of_structs = λ number m far. refl;
          slots = λ alive slot far. (omega (arith, far), refl);
          alive = refl;
        }),
      )

  named_parameter :
      (defining : Bool) → base.alive ≡ defining → (scope : Scope) (before : List Parameter) (ty : PlainType) (first : PlainToken) (kind : Kind) (parts : PlainTrees) {slots : List Slot} (n : Named slots parts)
      → Sizing kind parts n.rest → AllHold parts → Made scope.tags ty → (r : Reading) (h : List Identified) → Rel at (taken (length before)) scope r h
      → Follows (numbering at) h r.found (read_declarator read_expressions in_block parts r).found (ParameterAfter scope (length before) (read_declarator read_expressions in_block parts r))
      (declared_so defining scope before ty first kind parts)
  named_parameter defining alive scope before ty first kind parts n sizing holds made r h rel =
      let name : PlainToken = n.name in
      let read = n.reads read_expressions in_block r (λ s. Rel at (taken (length before)) scope s h × (s.found ≡ r.found)) (λ s p. p) (rel, refl) in
      let s : Reading = read.s in
      let r1 : Reading = occurs name (bound_to s.next) s in
      let r2 : Reading = read_expressions n.rest r1 in
      let last : Reading = with_block_entry name.text s.next r2 in
      let m : ℕ = length before in
      let all : Option PlainToken → Checked Parameter = λ found.
      unless_so (is_new_parameter before found) Redeclared (token_of found first) >>= (λ new. declares_name found (parameter_entity defining m) >>= (λ bound. parameter_type scope ty kind parts (token_of found first)
      >>= (λ whole. judged_parameter defining scope whole (token_of found first) >>= (λ judged. give (record { name = found; ty = whole }))))) in
      subst (λ u. Follows (numbering at) h r.found u.found (ParameterAfter scope m u) (all (name_in parts))) (sym read.is)
      (subst (λ x. Follows (numbering at) h r.found last.found (ParameterAfter scope m last) (all x)) (sym n.name_is)
      (subst (λ f. Follows (numbering at) h f last.found (ParameterAfter scope m last) (all (Some name))) read.still.1
      (quietly_before (numbering at) h s.found last.found (λ x. is_new_parameter before (Some name) ≡ true) (ParameterAfter scope m last)
      (unless_so (is_new_parameter before (Some name)) Redeclared name)
      (λ new. declares (parameter_entity defining m) >>= (λ bound. parameter_type scope ty kind parts name >>= (λ whole. judged_parameter defining scope whole name >>= (λ judged. give (record { name = Some name; ty = whole })))))
      (yields_unless (is_new_parameter before (Some name)) Redeclared name tt)
      (λ x new. follows_both (numbering at) h s.found r1.found last.found (λ y g. (base.alive ≡ true → FirstIs (at m) g s.next) × Rel at (taken (m + 1)) scope r1 g) (ParameterAfter scope m last)
      (declares (parameter_entity defining m)) (λ bound. parameter_type scope ty kind parts name >>= (λ whole. judged_parameter defining scope whole name >>= (λ judged. give (record { name = Some name; ty = whole }))))
      (name_step defining alive scope m name s h read.still.0)
      (λ y g w. follows_growing (numbering at) g r1.found r2.found last.found (After at (taken (m + 1)) scope (λ t. Made scope.tags t) r2) (ParameterAfter scope m last)
      (parameter_type scope ty kind parts name) (λ whole. judged_parameter defining scope whole name >>= (λ judged. give (record { name = Some name; ty = whole })))
      (sizing at (taken (m + 1)) scope ty name (n.holds holds).1 made r1 g w.1)
      (λ whole g2 w2 grows. quietly_before (numbering at) g2 r2.found last.found Anything (ParameterAfter scope m last) (judged_parameter defining scope whole name) (λ judged. give (record { name = Some name; ty = whole }))
      (parameter_quiet defining scope whole name)
      (λ z any. record {
        os = [];
        is = sym (append-nil last.found);
        alike = tt;
        plain = refl;
        used = refl;
        after = (w2.0, related_local at (taken (m + 1)) scope r2.file r2.blocks g2 name.text m whole s.next w2.1 (λ yes_. let i = w.0 yes_ in record { by = i.by; is = i.is; first = grows (at m) i.by i.first }) w2.0);
      }))
      (adds_none r2.found))
      (expressions_add n.rest r1)))))

  unnamed_parameter :
      (defining : Bool) (scope : Scope) (before : List Parameter) (ty : PlainType) (first : PlainToken) (kind : Kind) (parts rest : PlainTrees) → name_in parts ≡ None
      → (s r : Reading) → read_declarator read_expressions in_block parts r ≡ read_expressions rest s → s.found ≡ r.found
      → Sizing kind parts rest → AllHold rest → Made scope.tags ty → (h : List Identified) → Rel at (taken (length before)) scope s h
      → Follows (numbering at) h r.found (read_declarator read_expressions in_block parts r).found (ParameterAfter scope (length before) (read_declarator read_expressions in_block parts r))
      (declared_so defining scope before ty first kind parts)
  unnamed_parameter defining scope before ty first kind parts rest none_ s r reads same_ sizing holds made h rel =
      let last : Reading = read_expressions rest s in
      let m : ℕ = length before in
      let all : Option PlainToken → Checked Parameter = λ found.
      unless_so (is_new_parameter before found) Redeclared (token_of found first) >>= (λ new. declares_name found (parameter_entity defining m) >>= (λ bound. parameter_type scope ty kind parts (token_of found first)
      >>= (λ whole. judged_parameter defining scope whole (token_of found first) >>= (λ judged. give (record { name = found; ty = whole }))))) in
      subst (λ u. Follows (numbering at) h r.found u.found (ParameterAfter scope m u) (all (name_in parts))) (sym reads)
      (subst (λ x. Follows (numbering at) h r.found last.found (ParameterAfter scope m last) (all x)) (sym none_)
      (subst (λ f. Follows (numbering at) h f last.found (ParameterAfter scope m last) (all None)) same_
      (quietly_before (numbering at) h s.found last.found Anything (ParameterAfter scope m last) (give {A = Unit {0}} tt)
      (λ new. give {A = Unit {0}} tt >>= (λ bound. parameter_type scope ty kind parts first >>= (λ whole. judged_parameter defining scope whole first >>= (λ judged. give (record { name = None; ty = whole }))))) (yields {A = Unit {0}} Anything tt tt)
      (λ x new. quietly_before (numbering at) h s.found last.found Anything (ParameterAfter scope m last) (give {A = Unit {0}} tt)
      (λ bound. parameter_type scope ty kind parts first >>= (λ whole. judged_parameter defining scope whole first >>= (λ judged. give (record { name = None; ty = whole })))) (yields {A = Unit {0}} Anything tt tt)
      (λ y bound.
      follows_both (numbering at) h s.found last.found last.found (After at (taken m) scope (λ t. Made scope.tags t) last) (ParameterAfter scope m last) (parameter_type scope ty kind parts first)
      (λ whole. judged_parameter defining scope whole first >>= (λ judged. give (record { name = None; ty = whole })))
      (sizing at (taken m) scope ty first holds made s h rel)
      (λ whole g w. quietly_before (numbering at) g last.found last.found Anything (ParameterAfter scope m last) (judged_parameter defining scope whole first) (λ judged. give (record { name = None; ty = whole }))
      (parameter_quiet defining scope whole first)
      (λ z any. record { os = []; is = sym (append-nil last.found); alike = tt; plain = refl; used = refl; after = (w.0, related_more at (taken m) (taken (m + 1)) scope last.file last.blocks g w.1 refl) }))
      (adds_none last.found))))))

  absent_parameter :
      (defining : Bool) (scope : Scope) (before : List Parameter) (ty : PlainType) (first : PlainToken) → Made scope.tags ty → (r : Reading) (h : List Identified) → Rel at (taken (length before)) scope r h
      → Follows (numbering at) h r.found r.found (ParameterAfter scope (length before) r) (declared_parameter defining scope before ty first absent)
  absent_parameter defining scope before ty first made r h rel =
      quietly_before (numbering at) h r.found r.found Anything (ParameterAfter scope (length before) r) (judged_parameter defining scope ty first) (λ judged. give (record { name = None; ty = ty }))
      (parameter_quiet defining scope ty first)
      (λ z any. record { os = []; is = sym (append-nil r.found); alike = tt; plain = refl; used = refl; after = (made, related_more at (taken (length before)) (taken (length before + 1)) scope r.file r.blocks h rel refl) })

  -- ---- a parameter of the grammar

  with_words :
      (defining : Bool) (scope : Scope) (before : List Parameter) (words : PlainTrees) (behind : PlainToken) (declarator : PlainTree) → WordForm words → (r last : Reading) (h : List Identified) → Rel at (taken (length before)) scope r h
      → Adds (read_words false words r).found last.found
      → ((ty : PlainType) (g : List Identified) → Made scope.tags ty → Rel at (taken (length before)) scope (read_words false words r) g
      → Follows (numbering at) g (read_words false words r).found last.found (ParameterAfter scope (length before) last) (declared_parameter defining scope before ty (first_token_in words behind) declarator))
      → Follows (numbering at) h r.found last.found (ParameterAfter scope (length before) last) (one_parameter defining scope before (node k.Parameter (more (node k.Specifiers words) (more declarator none))) behind)
  with_words defining scope before words behind declarator form r last h rel adds f =
      follows_both (numbering at) h r.found (read_words false words r).found last.found (After at (taken (length before)) scope (λ (b : Based). Made scope.tags b.ty) (read_words false words r)) (ParameterAfter scope (length before) last)
      (based false scope words) (λ base. declared_parameter defining scope before base.ty (first_token_in words behind) declarator)
      (based_read at (taken (length before)) scope words form r h rel)
      (λ base g v. f base.ty g v.0 v.1) adds

  by_form :
      (defining : Bool) → base.alive ≡ defining → (kind : Kind) (parts : PlainTrees) {slots : List Slot} → Abstract slots parts
      → ((rest : PlainTrees) → Row slots rest → behind_word t.OpenBracket parts ≡ behind_word t.OpenBracket rest → Sizing kind parts rest)
      → ((rest : PlainTrees) → Row slots rest → (s : Reading) → (name_in rest ≡ None) × (read_declarator read_expressions in_block rest s ≡ read_expressions rest s))
      → AllHold parts → (scope : Scope) (before : List Parameter) (ty : PlainType) (first : PlainToken) → Made scope.tags ty → (r : Reading) (h : List Identified) → Rel at (taken (length before)) scope r h
      → Follows (numbering at) h r.found (read_declarator read_expressions in_block parts r).found (ParameterAfter scope (length before) (read_declarator read_expressions in_block parts r)) (declared_so defining scope before ty first kind parts)
  by_form defining alive kind parts (with_name n) sizing nameless_ holds scope before ty first made r h rel =
      named_parameter defining alive scope before ty first kind parts n (sizing n.rest n.row (n.behind t.OpenBracket refl refl)) holds made r h rel
  by_form defining alive kind parts (without_name u) sizing nameless_ holds scope before ty first made r h rel =
      let read = u.reads read_expressions in_block r (λ s. Rel at (taken (length before)) scope s h × (s.found ≡ r.found)) (λ s p. p) (rel, refl) in
      let rest = nameless_ u.rest u.row read.s in
      unnamed_parameter defining scope before ty first kind parts u.rest (u.names ∙ rest.0) read.s r (read.is ∙ rest.1) read.still.1 (sizing u.rest u.row (u.behind t.OpenBracket refl)) (u.holds holds) made h read.still.0

  declarator_read :
      (defining : Bool) → base.alive ≡ defining → {tree : PlainTree} → Derivation abstract_declarator tree → Holds tree → (scope : Scope) (before : List Parameter) (ty : PlainType) (first : PlainToken) → Made scope.tags ty
      → (r : Reading) (h : List Identified) → Rel at (taken (length before)) scope r h
      → Follows (numbering at) h r.found (read_declared read_expressions in_block tree r).found (ParameterAfter scope (length before) (read_declared read_expressions in_block tree r))
      (declared_parameter defining scope before ty first tree)
  declarator_read defining alive (single is) holds = absurd cc
  declarator_read defining alive (made_of k.Declarator {parts = parts} b a (a_row row)) holds =
      by_form defining alive k.Declarator parts (abstract_form row) (λ rest row behind. plain_sizing parts rest row) (λ rest row s. nothing_left rest row s) holds
  declarator_read defining alive (made_of k.ArrayDeclarator {parts = parts} b a (a_row row)) holds =
      by_form defining alive k.ArrayDeclarator parts (abstract_form row) (λ rest row behind. array_sizing parts rest row behind) (λ rest row s. bracket_first (size_form row) read_expressions in_block s) holds
  declarator_read defining alive (made_of _ b a s) holds = absurd cc

  one_read :
      (defining : Bool) → base.alive ≡ defining → {tree : PlainTree} → Derivation parameter tree → Holds tree → (scope : Scope) (before : List Parameter) (behind : PlainToken) (r : Reading) (h : List Identified)
      → Rel at (taken (length before)) scope r h
      → Follows (numbering at) h r.found (read_parameter tree r).found (ParameterAfter scope (length before) (read_parameter tree r)) (one_parameter defining scope before tree behind)
  one_read defining alive (single is) holds scope before behind r h rel = absurd cc
  one_read defining alive (made_of k.Parameter b a (a_row (a_part {tree = words} w (left_out at_end)))) holds scope before behind r h rel =
      let ws = specifiers_are w in
      subst (λ x. Follows (numbering at) h r.found (read_parameter (node k.Parameter (more x (more absent none))) r).found (ParameterAfter scope (length before) (read_parameter (node k.Parameter (more x (more absent none))) r)) (one_parameter defining scope before (node k.Parameter (more x (more absent none))) behind)) (sym ws.is)
      (with_words defining scope before ws.parts behind absent ws.form r (read_words false ws.parts r) h rel (adds_none (read_words false ws.parts r).found)
      (λ ty g made rel2. absent_parameter defining scope before ty (first_token_in ws.parts behind) made (read_words false ws.parts r) g rel2))
  one_read defining alive (made_of k.Parameter b a (a_row (a_part {tree = words} w (given {tree = tree} d at_end)))) holds scope before behind r h rel =
      let ws = specifiers_are w in
      subst (λ x. Follows (numbering at) h r.found (read_parameter (node k.Parameter (more x (more tree none))) r).found (ParameterAfter scope (length before) (read_parameter (node k.Parameter (more x (more tree none))) r)) (one_parameter defining scope before (node k.Parameter (more x (more tree none))) behind)) (sym ws.is)
      (with_words defining scope before ws.parts behind tree ws.form r (read_declared read_expressions in_block tree (read_words false ws.parts r)) h rel (one_declared_adds read_expressions expressions_add in_block tree (read_words false ws.parts r))
      (λ ty g made rel2. declarator_read defining alive d holds.1.0 scope before ty (first_token_in ws.parts behind) made (read_words false ws.parts r) g rel2))
  one_read defining alive (made_of _ b a s) holds scope before behind r h rel = absurd cc

  -- ---- lists of parameters

  -- what parameters leave in the innermost block
  abbrev pub tables : List (Table Local) → ℕ → List Parameter → List (Table Local)
  tables blocks n [] = blocks
  tables blocks n (p ∷ rest) = tables (with_parameter_in blocks n p.name p.ty) (n + 1) rest

  abbrev pub AllTyped : Table ℕ → List Parameter → Type 0
  AllTyped tags [] = Unit {0}
  AllTyped tags (p ∷ rest) = Made tags p.ty × AllTyped tags rest

  typed_more : (tags : Table ℕ) (before : List Parameter) (p : Parameter) → AllTyped tags before → Made tags p.ty → AllTyped tags (before ++ p ∷ [])
  typed_more tags [] p f g = (g, tt)
  typed_more tags (q ∷ before) p f g = (f.0, typed_more tags before p f.1 g)

  tables_more : (blocks : List (Table Local)) (n : ℕ) (before : List Parameter) (p : Parameter) → tables blocks n (before ++ p ∷ []) ≡ with_parameter_in (tables blocks n before) (n + length before) p.name p.ty
  tables_more blocks n [] p = ap (λ m. with_parameter_in blocks m p.name p.ty) (let e : n ≡ n + 0 = omega arith in e)
  tables_more blocks n (q ∷ before) p =
      tables_more (with_parameter_in blocks n q.name q.ty) (n + 1) before p
      ∙ ap (λ m. with_parameter_in (tables (with_parameter_in blocks n q.name q.ty) (n + 1) before) m p.name p.ty) (let e : n + 1 + length before ≡ n + suc (length before) = omega arith in e)

  pub with_parameter_is : (scope : Scope) (blocks : List (Table Local)) (n : ℕ) (name : Option PlainToken) (ty : PlainType) → with_parameter (record scope { blocks = blocks }) n name ty ≡ record scope { blocks = with_parameter_in blocks n name ty }
  with_parameter_is scope blocks n None ty = refl
  with_parameter_is scope blocks n (Some name) ty = refl

  pub record ParametersThen (scope : Scope) (file blocks : List Entry) (x : List Parameter) (h : List Identified) : Type 0 where
    pub made : AllTyped scope.tags x
    pub rel : Related at (taken (length x)) (record scope { blocks = tables (no_entry ∷ scope.blocks) 0 x }) file blocks h

  abbrev ParametersRead : Bool → PlainTrees → Type 0
  ParametersRead defining parts =
      (scope : Scope) (before : List Parameter) (behind : PlainToken) (r : Reading) (h : List Identified) → AllTyped scope.tags before
      → Rel at (taken (length before)) (record scope { blocks = tables (no_entry ∷ scope.blocks) 0 before }) r h
      → Follows (numbering at) h r.found (read_parameters parts r).found (λ x g. ParametersThen scope (read_parameters parts r).file (read_parameters parts r).blocks x g)
      (parameters_from defining (record scope { blocks = tables (no_entry ∷ scope.blocks) 0 before }) before parts behind)

  -- one more, and what is visible then
  then_more :
      (scope : Scope) (before : List Parameter) (s : Reading) (p : Parameter) (g : List Identified)
      → ParameterAfter (record scope { blocks = tables (no_entry ∷ scope.blocks) 0 before }) (length before) s p g
      → Rel at (taken (length (before ++ p ∷ []))) (record scope { blocks = tables (no_entry ∷ scope.blocks) 0 (before ++ p ∷ []) }) s g
  then_more scope before s p g v =
      subst (λ m. Rel at (taken m) (record scope { blocks = tables (no_entry ∷ scope.blocks) 0 (before ++ p ∷ []) }) s g) (sym (length-append before (p ∷ [])))
      (subst (λ b. Rel at (taken (length before + 1)) (record scope { blocks = b }) s g) (sym (tables_more (no_entry ∷ scope.blocks) 0 before p ∙ ap (λ m. with_parameter_in (tables (no_entry ∷ scope.blocks) 0 before) m p.name p.ty) (let e : 0 + length before ≡ length before = omega arith in e)))
      (subst (λ x. Rel at (taken (length before + 1)) x s g) (with_parameter_is scope (tables (no_entry ∷ scope.blocks) 0 before) (length before) p.name p.ty) v.1))

  parameters_read : (defining : Bool) → base.alive ≡ defining → {parts : PlainTrees} → Separated parameter parts → AllHold parts → ParametersRead defining parts
  parameters_read defining alive (last_one {tree = tree} d) holds scope before behind r h made rel =
      let inner : Scope = record scope { blocks = tables (no_entry ∷ scope.blocks) 0 before } in
      let s : Reading = read_parameter tree r in
      follows_both (numbering at) h r.found s.found s.found (ParameterAfter inner (length before) s) (λ x g. ParametersThen scope s.file s.blocks x g)
      (one_parameter defining inner before tree behind) (λ p. give (before ++ p ∷ []))
      (one_read defining alive d holds.0 inner before behind r h rel)
      (λ p g v. record { os = []; is = sym (append-nil s.found); alike = tt; plain = refl; used = refl; after = record { made = typed_more scope.tags before p made v.0; rel = then_more scope before s p g v } })
      (adds_none s.found)
  parameters_read defining alive (next_one {tree = tree} {comma = comma} {rest = rest} d w others) holds scope before behind r h made rel =
      let inner : Scope = record scope { blocks = tables (no_entry ∷ scope.blocks) 0 before } in
      let s : Reading = passed (read_parameter tree r) in
      let last : Reading = read_parameters rest s in
      let all : Checked (List Parameter) = parameters_from defining inner before (more tree (more (leaf comma) rest)) behind in
      skip comma (read_parameter tree r) (no_name (t.Comma ∷ []) comma refl w) (λ u. Follows (numbering at) h r.found (read_parameters rest u).found (λ x g. ParametersThen scope (read_parameters rest u).file (read_parameters rest u).blocks x g) all)
      (follows_both (numbering at) h r.found s.found last.found (ParameterAfter inner (length before) s) (λ x g. ParametersThen scope last.file last.blocks x g)
      (one_parameter defining inner before tree behind) (λ p. parameters_from defining (with_parameter inner (length before) p.name p.ty) (before ++ p ∷ []) rest behind)
      (one_read defining alive d holds.0 inner before behind r h rel)
      (λ p g v. subst (λ x. Follows (numbering at) g s.found last.found (λ x g. ParametersThen scope last.file last.blocks x g) (parameters_from defining x (before ++ p ∷ []) rest behind))
      (sym (with_parameter_is scope (tables (no_entry ∷ scope.blocks) 0 before) (length before) p.name p.ty
      ∙ ap (λ b. record scope { blocks = b }) (sym (tables_more (no_entry ∷ scope.blocks) 0 before p ∙ ap (λ m. with_parameter_in (tables (no_entry ∷ scope.blocks) 0 before) m p.name p.ty) (let e : 0 + length before ≡ length before = omega arith in e)))))
      (parameters_read defining alive others holds.1.1 scope (before ++ p ∷ []) behind s g (typed_more scope.tags before p made v.0) (then_more scope before s p g v)))
      (parameters_add rest s))

  -- ---- the parentheses of a function's declarator

  no_parameter : (scope : Scope) (r : Reading) (h : List Identified) → Rel at (taken 0) scope r h → Follows (numbering at) h r.found r.found (λ x g. ParametersThen scope r.file r.blocks x g) (give [])
  no_parameter scope r h rel = record { os = []; is = sym (append-nil r.found); alike = tt; plain = refl; used = refl; after = record { made = tt; rel = related_block at (taken 0) scope r.file r.blocks h rel } }

  listed_read :
      (defining : Bool) → base.alive ≡ defining → (parts : PlainTrees) → Separated parameter parts → AllHold parts → (scope : Scope) (behind : PlainToken) (r : Reading) (h : List Identified) → Rel at (taken 0) scope r h
      → Follows (numbering at) h r.found (read_parameters parts r).found (λ x g. ParametersThen scope (read_parameters parts r).file (read_parameters parts r).blocks x g)
      (parameters_in defining scope (node k.Parameters parts) behind)
  listed_read defining alive parts s holds scope behind r h rel = by (is_lone_void parts) refl
    where
      by : (b : Bool) → is_lone_void parts ≡ b
          → Follows (numbering at) h r.found (read_parameters parts r).found (λ x g. ParametersThen scope (read_parameters parts r).file (read_parameters parts r).blocks x g)
          (if b then give [] else parameters_from defining (with_block scope) [] parts behind)
      by true lone =
          let same_ = lone_read s lone r (λ u. Rel at (taken 0) scope u h × (u.found ≡ r.found)) (λ u p. p) (rel, refl) in
          subst (λ f. Follows (numbering at) h f (read_parameters parts r).found (λ x g. ParametersThen scope (read_parameters parts r).file (read_parameters parts r).blocks x g) (give [])) same_.1
          (no_parameter scope (read_parameters parts r) h same_.0)
      by false lone = parameters_read defining alive s holds scope [] behind r h tt (related_block at (taken 0) scope r.file r.blocks h rel)

  pub parameters_of_read :
      (defining : Bool) → base.alive ≡ defining → {rest : PlainTrees} → Row (word (t.OpenParenthesis ∷ []) ∷ optional parameters ∷ word (t.CloseParenthesis ∷ []) ∷ []) rest → AllHold rest
      → (scope : Scope) (name : PlainToken) (r : Reading) (h : List Identified) → Rel at (taken 0) scope r h
      → Follows (numbering at) h r.found (read_suffix rest r).found (λ x g. ParametersThen scope (read_suffix rest r).file (read_suffix rest r).blocks x g)
      (parameters_of defining scope (behind_word t.OpenParenthesis rest) name)
  parameters_of_read defining alive (a_word {token = open_} w (left_out (a_word {token = close} v at_end))) holds scope name r h rel =
      let all : Checked (List Parameter) = give [] in
      subst (λ x. Follows (numbering at) h r.found (read_leaf close (read_leaf open_ r)).found (λ x g. ParametersThen scope (read_leaf close (read_leaf open_ r)).file (read_leaf close (read_leaf open_ r)).blocks x g) (parameters_of defining scope x name)) (sym (behind_open open_ absent (more (leaf close) none) w))
      (skip open_ r (no_name (t.OpenParenthesis ∷ []) open_ refl w) (λ u. Follows (numbering at) h r.found (read_leaf close u).found (λ x g. ParametersThen scope (read_leaf close u).file (read_leaf close u).blocks x g) all)
      (skip close (passed r) (no_name (t.CloseParenthesis ∷ []) close refl v) (λ u. Follows (numbering at) h r.found u.found (λ x g. ParametersThen scope u.file u.blocks x g) all)
      (no_parameter scope r h rel)))
  parameters_of_read defining alive (a_word {token = open_} w (given {tree = list} d (a_word {token = close} v at_end))) holds scope name r h rel =
      let l = list_of d in
      let all : Checked (List Parameter) = parameters_in defining scope (node k.Parameters l.parts) name in
      let last : Reading = read_parameters l.parts (passed r) in
      subst (λ x. Follows (numbering at) h r.found (read_suffix (more (leaf open_) (more x (more (leaf close) none))) r).found (λ y g. ParametersThen scope (read_suffix (more (leaf open_) (more x (more (leaf close) none))) r).file (read_suffix (more (leaf open_) (more x (more (leaf close) none))) r).blocks y g)
      (parameters_of defining scope (behind_word t.OpenParenthesis (more (leaf open_) (more x (more (leaf close) none)))) name)) (sym l.is)
      (subst (λ x. Follows (numbering at) h r.found (read_leaf close (read_parameters l.parts (read_leaf open_ r))).found (λ y g. ParametersThen scope (read_leaf close (read_parameters l.parts (read_leaf open_ r))).file (read_leaf close (read_parameters l.parts (read_leaf open_ r))).blocks y g) (parameters_of defining scope x name)) (sym (behind_open open_ (node k.Parameters l.parts) (more (leaf close) none) w))
      (skip open_ r (no_name (t.OpenParenthesis ∷ []) open_ refl w) (λ u. Follows (numbering at) h r.found (read_leaf close (read_parameters l.parts u)).found (λ x g. ParametersThen scope (read_leaf close (read_parameters l.parts u)).file (read_leaf close (read_parameters l.parts u)).blocks x g) all)
      (skip close last (no_name (t.CloseParenthesis ∷ []) close refl v) (λ u. Follows (numbering at) h r.found u.found (λ x g. ParametersThen scope u.file u.blocks x g) all)
      (listed_read defining alive l.parts l.listed (subst Holds l.is holds.1.0) scope name (passed r) h rel))))
