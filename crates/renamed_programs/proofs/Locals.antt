-- Locals and parameters of units that are alike have the same slots and types, and the same values to begin with.
-- Behind a declaration the types of slots are written down further (`Grown`); what was visible stays so.
use Rattle.std.proofs.Common.{◌≡◌, ℕ, zero, suc, Bool, true, false, List, [], ◌∷◌, ◌++◌, map, refl, sym, ap, subst, ◌∙◌, length}
use Rattle.std.specs.Prelude.{Option, Some, None, slice_get, if◌then◌else◌}
use Rattle.std.specs.Str.{bytes_eq}
use Rattle.c_text.specs.Token.{PlainToken}
use Rattle.c_types.specs.Types.{PlainType}
use Rattle.c_tree.specs.declared.kinds.Kind.{Kind}
use Rattle.c_tree.specs.declared.kinds.Kind.TheVariants as k
use Rattle.c_tree.specs.declared.terminals.Terminal.TheVariants as t
use Rattle.c_tree.specs.Terminals.{is_one_of}
use Rattle.c_tree.specs.Trees.{PlainTree, PlainTrees, leaf, none, more}
use Rattle.c_tree.specs.Grammar.{Role, local, specifiers, declarators, declarator, is_word}
use Rattle.core_meaning.specs.declared.refusals.TypeKind.TheVariants.{Redeclared, Incomplete, BadConstant}
use Rattle.core_meaning.specs.Program.{PlainPart}
use Rattle.core_meaning.specs.Checking.{local_entity, Checked, ◌>>=◌, give, unless_so}
use Rattle.core_meaning.specs.Entities.{Table, no_entry, Local, Scope, local_in, or_else}
use Rattle.core_meaning.specs.Typing.{is_complete}
use Rattle.core_meaning.specs.Constancy.{is_small}
use Rattle.core_meaning.specs.Declarations.{name_in, based, object_type, with_local_in, with_local, with_block, LocalItem, Locals, is_new_local, plain_part, local_initial, judged_object, declared_local, one_local, with_items, locals_from, judged_locals}
use Rattle.tree_derivations.specs.Derivations.{Derivation, single, made_of, a_row, some_words, declarators_of, Declared, last_plain, last_initialised, next_plain, next_initialised, IsWord}
use Rattle.renamed_programs.specs.Trees.{SameButName, SameButNames, AllSameButNames, same_leaf, same_node, same_end, same_more}
use Rattle.renamed_programs.proofs.Alike.{Naming, Alike, Anything, Quiet, alike_equal, alike_tests, alike_somes, alike_give, alike_broken, alike_declares, alike_then, alike_any, alike_quiet, quiet_then, quiet_unless}
use Rattle.renamed_programs.proofs.Tokens.{same_terminal}
use Rattle.renamed_programs.proofs.Scopes.{AlikeScopes, HaveTypes}
use Rattle.renamed_programs.proofs.Constants.{SameParts, initial_alike}
use Rattle.renamed_programs.proofs.Declarators.{Sizes, array_sizes, Values, no_value, a_value, object_alike, SameBase, based_alike}

-- ---- types of slots

pub record Grown (slots further : List PlainType) : Type 0 where
  pub kept : (n : ℕ) (ty : PlainType) → slice_get slots n ≡ Some ty → slice_get further n ≡ Some ty

pub grown_none : (slots : List PlainType) → Grown slots slots
grown_none slots = record { kept = λ n ty e. e }

pub grown_both : (a b c : List PlainType) → Grown a b → Grown b c → Grown a c
grown_both a b c f g = record { kept = λ n ty e. g.kept n ty (f.kept n ty e) }

kept_behind : (slots others : List PlainType) (n : ℕ) (ty : PlainType) → slice_get slots n ≡ Some ty → slice_get (slots ++ others) n ≡ Some ty
kept_behind [] others n ty e = absurd cc
kept_behind (x ∷ slots) others zero ty e = e
kept_behind (x ∷ slots) others (suc n) ty e = kept_behind slots others n ty e

pub grown_by : (slots others : List PlainType) → Grown slots (slots ++ others)
grown_by slots others = record { kept = kept_behind slots others }

pub last_type : (slots : List PlainType) (ty : PlainType) → slice_get (slots ++ ty ∷ []) (length slots) ≡ Some ty
last_type [] ty = refl
last_type (x ∷ slots) ty = last_type slots ty

-- ---- blocks

pub types_grown : (slots further : List PlainType) (blocks : List (Table Local)) → Grown slots further → HaveTypes slots blocks → HaveTypes further blocks
types_grown slots further blocks g h = λ name l e. g.kept l.slot l.ty (h name l e)

local_found : (blocks : List (Table Local)) (name other : List ℕ) (l : Local) → local_in (with_local_in blocks name l) other ≡ (if bytes_eq other name then Some l else local_in blocks other)
local_found [] name other l = by (bytes_eq other name)
  where
    by : (b : Bool) → or_else (if b then Some l else None) None ≡ (if b then Some l else None)
    by true = refl
    by false = refl
local_found (block ∷ others) name other l = by (bytes_eq other name)
  where
    by : (b : Bool) → or_else (if b then Some l else block other) (local_in others other) ≡ (if b then Some l else or_else (block other) (local_in others other))
    by true = refl
    by false = refl

pub types_with : (slots : List PlainType) (blocks : List (Table Local)) (name : List ℕ) (slot : ℕ) (ty : PlainType) → slice_get slots slot ≡ Some ty → HaveTypes slots blocks → HaveTypes slots (with_local_in blocks name (record { slot = slot; ty = ty }))
types_with slots blocks name slot ty is h = λ other l e. by other l (bytes_eq other name) (sym (local_found blocks name other (record { slot = slot; ty = ty })) ∙ e)
  where
    by : (other : List ℕ) (l : Local) (b : Bool) → (if b then Some (record { slot = slot; ty = ty }) else local_in blocks other) ≡ Some l → slice_get slots l.slot ≡ Some l.ty
    by other l true e =
        let made : Local = record { slot = slot; ty = ty } in
        let same_ : made ≡ l = cc in
        subst (λ (x : Local). slice_get slots x.slot ≡ Some x.ty) same_ is
    by other l false e = h other l e

module _ (named : Naming) where
  pub in_blocks :
      (slots further : List PlainType) (s u : Scope) (blocks others : List (Table Local)) → AlikeScopes named slots s u → HaveTypes further blocks → HaveTypes further others
      → AlikeScopes named further (record s { blocks = blocks }) (record u { blocks = others })
  in_blocks slots further s u blocks others h f g =
      record { structs = h.structs; names = h.names; order = h.order; locals = f; other_locals = g; tags = h.tags; other_tags = h.other_tags; numbers = h.numbers }

  pub scopes_grown : (slots further : List PlainType) (s u : Scope) → Grown slots further → AlikeScopes named slots s u → AlikeScopes named further s u
  scopes_grown slots further s u g h = in_blocks slots further s u s.blocks u.blocks h (types_grown slots further s.blocks g h.locals) (types_grown slots further u.blocks g h.other_locals)

  pub block_alike : (slots : List PlainType) (s u : Scope) → AlikeScopes named slots s u → AlikeScopes named slots (with_block s) (with_block u)
  block_alike slots s u h = in_blocks slots slots s u (no_entry ∷ s.blocks) (no_entry ∷ u.blocks) h h.locals h.other_locals

  pub local_alike : (slots : List PlainType) (s u : Scope) (a b : List ℕ) (ty : PlainType) → AlikeScopes named slots s u → AlikeScopes named (slots ++ ty ∷ []) (with_local s a (length slots) ty) (with_local u b (length slots) ty)
  local_alike slots s u a b ty h =
      let g = scopes_grown slots (slots ++ ty ∷ []) s u (grown_by slots (ty ∷ [])) h in
      in_blocks (slots ++ ty ∷ []) (slots ++ ty ∷ []) s u (with_local_in s.blocks a (record { slot = length slots; ty = ty })) (with_local_in u.blocks b (record { slot = length slots; ty = ty })) g
      (types_with (slots ++ ty ∷ []) s.blocks a (length slots) ty (last_type slots ty) g.locals) (types_with (slots ++ ty ∷ []) u.blocks b (length slots) ty (last_type slots ty) g.other_locals)

  -- ---- objects

  pub object_quiet : (scope : Scope) (ty : PlainType) (name : PlainToken) → Quiet named (judged_object scope ty name)
  object_quiet scope ty name =
      quiet_then named (unless_so (is_complete scope.structs ty) Incomplete name) (λ complete. unless_so (is_small scope.structs ty) BadConstant name) (quiet_unless named (is_complete scope.structs ty) Incomplete name)
      (λ x. quiet_unless named (is_small scope.structs ty) BadConstant name)

  pub objects_judged : (s u : Scope) (ty : PlainType) (a b : PlainToken) → Alike named Anything (judged_object s ty a) (judged_object u ty b)
  objects_judged s u ty a b = alike_quiet named (judged_object s ty a) (judged_object u ty b) (object_quiet s ty a) (object_quiet u ty b)

  pub record SameLocals (slots : List PlainType) (x y : Locals) : Type 0 where
    pub slots_ : x.slots ≡ y.slots
    pub items : x.items ≡ y.items
    pub scopes : AlikeScopes named x.slots x.scope y.scope
    pub grown : Grown slots x.slots

  given_alike :
      (slots : List PlainType) (s u : Scope) (ty : PlainType) (a b : PlainToken) {value other : Option PlainTree} → AlikeScopes named slots s u → Values value other
      → Alike named SameParts (local_initial s ty a value) (local_initial u ty b other)
  given_alike slots s u ty a b h no_value = alike_give named SameParts [] [] refl
  given_alike slots s u ty a b h (a_value d e) = initial_alike named slots s u h None d e ty [] a b

  declared_alike :
      (slots : List PlainType) (s u : Scope) (ty : PlainType) (kind : Kind) (parts others : PlainTrees) (a b : PlainToken) {value other : Option PlainTree} → AlikeScopes named slots s u → AllSameButNames parts others
      → (kind ≡ k.ArrayDeclarator → Sizes parts others) → Values value other
      → Alike named (SameLocals slots) (declared_local s slots ty kind parts a value) (declared_local u slots ty kind others b other)
  declared_alike slots s u ty kind parts others a b {value} {other} h e sizes v =
      alike_tests named (SameLocals slots) (is_new_local s a.text) (is_new_local u b.text) Redeclared Redeclared a b _ _
      (λ x1 y1. alike_declares named (SameLocals slots) (local_entity (length slots)) (local_entity (length slots)) _ _
      (λ tied_ x2 y2. alike_equal named (SameLocals slots) (object_type s ty kind parts a value) (object_type u ty kind others b other) _ _ (object_alike named slots s u h ty kind parts others e sizes v a b)
      (λ whole. alike_any named (SameLocals slots) (judged_object s whole a) (judged_object u whole b) _ _ (objects_judged s u whole a b)
      (λ x3 y3. let g = local_alike slots s u a.text b.text whole h in
      alike_then named SameParts (SameLocals slots) (local_initial (with_local s a.text (length slots) whole) whole a value) (local_initial (with_local u b.text (length slots) whole) whole b other) _ _
      (given_alike (slots ++ whole ∷ []) (with_local s a.text (length slots) whole) (with_local u b.text (length slots) whole) whole a b g v)
      (λ xs ys same_. alike_give named (SameLocals slots)
      (record { scope = with_local s a.text (length slots) whole; slots = slots ++ whole ∷ []; items = record { slot = length slots; parts = map plain_part xs } ∷ [] })
      (record { scope = with_local u b.text (length slots) whole; slots = slots ++ whole ∷ []; items = record { slot = length slots; parts = map plain_part ys } ∷ [] })
      (record { slots_ = refl; items = ap (λ (l : List PlainPart). let item : LocalItem = record { slot = length slots; parts = l } in item ∷ []) same_; scopes = g; grown = grown_by slots (whole ∷ []) }))))))

  -- a declarator of a role that is no function's
  one_alike :
      (slots : List PlainType) (s u : Scope) (ty : PlainType) {role : Role} {tree second : PlainTree} {value other : Option PlainTree} → AlikeScopes named slots s u → Derivation (declarator role) tree
      → SameButNames tree second → Values value other → Alike named (SameLocals slots) (one_local s slots ty tree value) (one_local u slots ty second other)
  one_alike slots s u ty {value = value} {other = other} h (single is) e v = absurd cc
  one_alike slots s u ty {value = value} {other = other} h (made_of k.Declarator {parts = parts} b a (a_row row)) (same_node {others = others} e) v =
      alike_somes named (SameLocals slots) (name_in parts) (name_in others) (λ name. declared_local s slots ty k.Declarator parts name value) (λ name. declared_local u slots ty k.Declarator others name other)
      (λ x y f g. declared_alike slots s u ty k.Declarator parts others x y h e (λ i. absurd cc) v)
  one_alike slots s u ty {value = value} {other = other} h (made_of k.ArrayDeclarator {parts = parts} b a (a_row row)) (same_node {others = others} e) v =
      alike_somes named (SameLocals slots) (name_in parts) (name_in others) (λ name. declared_local s slots ty k.ArrayDeclarator parts name value) (λ name. declared_local u slots ty k.ArrayDeclarator others name other)
      (λ x y f g. declared_alike slots s u ty k.ArrayDeclarator parts others x y h e (λ i. array_sizes row e) v)
  one_alike slots s u ty {value = value} {other = other} h (made_of k.FunctionDeclarator {parts = parts} b a l) (same_node {others = others} e) v =
      alike_somes named (SameLocals slots) (name_in parts) (name_in others) (λ name. declared_local s slots ty k.FunctionDeclarator parts name value) (λ name. declared_local u slots ty k.FunctionDeclarator others name other)
      (λ x y f g. declared_alike slots s u ty k.FunctionDeclarator parts others x y h e (λ i. absurd cc) v)
  one_alike slots s u ty h (made_of _ b a l) e v = absurd cc

  both_items : (slots : List PlainType) (x y first second : Locals) → SameLocals slots x y → SameLocals x.slots first second → SameLocals slots (with_items x.items first) (with_items y.items second)
  both_items slots x y first second f g = record {
    slots_ = g.slots_;
    items = ap (λ l. l ++ first.items) f.items ∙ ap (λ l. y.items ++ l) g.items;
    scopes = g.scopes;
    grown = grown_both slots x.slots first.slots f.grown g.grown;
  }

  abbrev LocalsAlike : PlainTrees → PlainTrees → Type 0
  LocalsAlike parts others = (slots : List PlainType) (s u : Scope) (ty : PlainType) → AlikeScopes named slots s u → Alike named (SameLocals slots) (locals_from s slots ty parts) (locals_from u slots ty others)

  then_locals :
      (slots : List PlainType) (s u : Scope) (ty : PlainType) (tree second : PlainTree) (value other : Option PlainTree) (rest others : PlainTrees)
      → Alike named (SameLocals slots) (one_local s slots ty tree value) (one_local u slots ty second other) → LocalsAlike rest others
      → Alike named (SameLocals slots)
      (one_local s slots ty tree value >>= (λ first. locals_from first.scope first.slots ty rest >>= (λ behind. give (with_items first.items behind))))
      (one_local u slots ty second other >>= (λ first. locals_from first.scope first.slots ty others >>= (λ behind. give (with_items first.items behind))))
  then_locals slots s u ty tree second value other rest others f g =
      alike_then named (SameLocals slots) (SameLocals slots) (one_local s slots ty tree value) (one_local u slots ty second other) _ _ f
      (λ x y i. alike_then named (SameLocals x.slots) (SameLocals slots) (locals_from x.scope x.slots ty rest) (locals_from y.scope y.slots ty others) _ _
      (subst (λ (l : List PlainType). Alike named (SameLocals x.slots) (locals_from x.scope x.slots ty rest) (locals_from y.scope l ty others)) i.slots_ (g x.slots x.scope y.scope ty i.scopes))
      (λ first behind j. alike_give named (SameLocals slots) (with_items x.items first) (with_items y.items behind) (both_items slots x y first behind i j)))

  -- whether a sign is that of an initialiser
  pub sign_is : (sign other : PlainToken) → IsWord (t.Assign ∷ []) sign → SameButName sign other → is_word (t.Assign ∷ []) (leaf other) ≡ true
  sign_is sign other w e = ap (is_one_of (t.Assign ∷ [])) (sym (same_terminal sign other e)) ∙ w

  comma_is : (comma : PlainToken) → IsWord (t.Comma ∷ []) comma → is_word (t.Assign ∷ []) (leaf comma) ≡ false
  comma_is comma w = ap (is_one_of (t.Assign ∷ [])) (Rattle.renamed_programs.proofs.Declarators.word_is t.Comma comma w)

  pub no_sign : (comma other : PlainToken) → IsWord (t.Comma ∷ []) comma → SameButName comma other → (is_word (t.Assign ∷ []) (leaf comma) ≡ false) × (is_word (t.Assign ∷ []) (leaf other) ≡ false)
  no_sign comma other w e = (comma_is comma w, ap (is_one_of (t.Assign ∷ [])) (sym (same_terminal comma other e)) ∙ comma_is comma w)

  -- the choice that both take
  pub taken : {A B : Type 0} (V : A → B → Type 0) (a b : Bool) (c d : Checked A) (f g : Checked B) → a ≡ true → b ≡ true → Alike named V c f → Alike named V (if a then c else d) (if b then f else g)
  taken V true true c d f g x y h = h
  taken V true false c d f g x y h = absurd cc
  taken V false b c d f g x y h = absurd cc

  pub passed_by : {A B : Type 0} (V : A → B → Type 0) (a b : Bool) (c d : Checked A) (f g : Checked B) → a ≡ false → b ≡ false → Alike named V d g → Alike named V (if a then c else d) (if b then f else g)
  passed_by V false false c d f g x y h = h
  passed_by V false true c d f g x y h = absurd cc
  passed_by V true b c d f g x y h = absurd cc

  locals_alike : {parts others : PlainTrees} → Declared local parts → AllSameButNames parts others → LocalsAlike parts others
  locals_alike (last_plain d) (same_more e same_end) = λ slots s u ty h. one_alike slots s u ty h d e no_value
  locals_alike (last_initialised {tree = tree} {value = value} {sign = sign} m d w v) (same_more {other = second} e (same_more (same_leaf {b = other} x) (same_more {other = given_} y same_end))) = λ slots s u ty h.
      taken (SameLocals slots) (is_word (t.Assign ∷ []) (leaf sign)) (is_word (t.Assign ∷ []) (leaf other)) _ _ _ _ w (sign_is sign other w x) (one_alike slots s u ty h d e (a_value v y))
  locals_alike (next_plain {tree = tree} {comma = comma} {rest = more next none} d w l) (same_more {other = second} e (same_more (same_leaf {b = other} x) (same_more {other = next'} y same_end))) = λ slots s u ty h.
      let signs = no_sign comma other w x in
      passed_by (SameLocals slots) (is_word (t.Assign ∷ []) (leaf comma)) (is_word (t.Assign ∷ []) (leaf other)) _ _ _ _ signs.0 signs.1
      (then_locals slots s u ty tree second None None (more next none) (more next' none) (one_alike slots s u ty h d e no_value) (locals_alike l (same_more y same_end)))
  locals_alike (next_plain {tree = tree} {comma = comma} {rest = more next (more sign rest)} d w l) (same_more {other = second} e (same_more (same_leaf {b = other} x) (same_more {other = next'} y (same_more {other = sign'} {others = others} z r)))) = λ slots s u ty h.
      let signs = no_sign comma other w x in
      passed_by (SameLocals slots) (is_word (t.Assign ∷ []) (leaf comma)) (is_word (t.Assign ∷ []) (leaf other)) _ _ _ _ signs.0 signs.1
      (then_locals slots s u ty tree second None None (more next (more sign rest)) (more next' (more sign' others)) (one_alike slots s u ty h d e no_value) (locals_alike l (same_more y (same_more z r))))
  locals_alike (next_plain {rest = none} d w l) (same_more e (same_more x same_end)) = λ slots s u ty h. alike_broken named (SameLocals slots) _
  locals_alike (next_initialised {tree = tree} {value = value} {sign = sign} {comma = comma} {rest = rest} m d w v c l) (same_more {other = second} e (same_more (same_leaf {b = other} x) (same_more {other = given_} y (same_more {others = others} z r)))) = λ slots s u ty h.
      taken (SameLocals slots) (is_word (t.Assign ∷ []) (leaf sign)) (is_word (t.Assign ∷ []) (leaf other)) _ _ _ _ w (sign_is sign other w x)
      (then_locals slots s u ty tree second (Some value) (Some given_) rest others (one_alike slots s u ty h d e (a_value v y)) (locals_alike l r))

  -- a declaration in a block
  pub judged_locals_alike :
      {words list words' list' : PlainTree} → Derivation specifiers words → SameButNames words words' → Derivation (declarators local) list → SameButNames list list' → (end_ last : PlainTree)
      → (slots : List PlainType) (s u : Scope) → AlikeScopes named slots s u
      → Alike named (SameLocals slots) (judged_locals s slots (more words (more list (more end_ none)))) (judged_locals u slots (more words' (more list' (more last none))))
  judged_locals_alike (made_of k.Specifiers {parts = words} b a (some_words are)) (same_node {others = others} e) (made_of k.Declarators {parts = list} c f (declarators_of d)) (same_node {others = second} g) end_ last slots s u h =
      alike_then named (SameBase named slots s u h) (SameLocals slots) (based false s words) (based false u others) _ _ (based_alike named slots s u h false words others e)
      (λ x y i. subst (λ ty. Alike named (SameLocals slots) (locals_from s slots x.ty list) (locals_from u slots ty second)) i.ty (locals_alike d g slots s u x.ty h))
  judged_locals_alike (single is) e d f end_ last slots s u h = absurd cc
  judged_locals_alike (made_of k.Specifiers b a w) e (single is) f end_ last slots s u h = absurd cc
  judged_locals_alike (made_of k.Specifiers b a w) e (made_of _ c g d) f end_ last slots s u h = absurd cc
  judged_locals_alike (made_of _ b a w) e d f end_ last slots s u h = absurd cc
