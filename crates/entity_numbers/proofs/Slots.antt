-- The slots of a function are numbered in the order of its text: what its block binds is known, or has the next slot. This holds of all trees.
use Rattle.std.proofs.Common.{◌≡◌, ℕ, ◌+◌, suc, ◌≤◌, ◌<◌, Bool, true, false, List, [], ◌∷◌, ◌++◌, map, refl, subst, length, arith}
use Rattle.std.specs.Prelude.{Option, Some, None, slice_get, not, if◌then◌else◌}
use Rattle.std.specs.Str.{bytes_eq}
use Rattle.std.proofs.lemmas.List.{length-append}
use Rattle.c_text.specs.Token.{PlainToken}
use Rattle.c_types.specs.Types.{PlainType}
use Rattle.c_types.specs.Tags.{PlainMember}
use Rattle.c_tree.specs.declared.kinds.Kind.{Kind}
use Rattle.c_tree.specs.declared.kinds.Kind.TheVariants as k
use Rattle.c_tree.specs.declared.terminals.Terminal.TheVariants as t
use Rattle.c_tree.specs.Trees.{PlainTree, PlainTrees, leaf, node, none, more}
use Rattle.c_tree.specs.Grammar.{is_word}
use Rattle.core_meaning.specs.declared.refusals.TypeKind.TheVariants.{Redeclared, Misplaced}
use Rattle.core_meaning.specs.Program.{PlainExpression, PlainStatement}
use Rattle.core_meaning.specs.Program as core
use Rattle.core_meaning.specs.Checking.{Entity, local_entity, file_entity, struct_entity, member_entity, Binding, Checked, fine, refused, broken, with_bindings, ◌>>=◌, give, unless_so, or_broken, declares}
use Rattle.core_meaning.specs.Entities.{Table, no_entry, Struct, Local, FileName, Scope, local_in, or_else}
use Rattle.core_meaning.specs.Typing.{fits_into}
use Rattle.core_meaning.specs.Expressions.{valued, judged_condition, is_void, has_terminal, arithmetic_words}
use Rattle.core_meaning.specs.Declarations.{Based, based, based_on_tag, name_in, object_type, with_local, with_local_in, Locals, is_new_local, plain_part, local_initial, judged_object, declared_local, one_local, with_items, locals_from, judged_locals}
use Rattle.core_meaning.specs.Statements.{Around, Judged, JudgedItems, judged_as, items_as, in_block, within_loop, before_items, one_item, nothing_to_do, discarded, condition_or_true, expression_statement, jump, returned, judged_statement, judged_else, judged_items}
use Rattle.bindings.proofs.Types.{Tagged as TagOf, Made, MadeSort, made_words}
use Rattle.entity_numbers.proofs.Uses.{Sense, Gives, All, Binds, Allows, then_binds, found_then, unless_then, unless_binds, some_binds, valued_binds, judged_condition_binds}
use Rattle.entity_numbers.proofs.Initialisers.{object_gives, whole_object_binds, local_value_binds}

module _ (K : Sense) where
  -- a slot that is taken; of other entities, what is said of them
  abbrev pub Knows : ℕ → Entity → Type 0
  Knows n (local_entity slot) = slot < n
  Knows n other = K.knows other

  -- each is known, or declares the next slot; so many slots are taken before, and so many behind
  pub data Slots : ℕ → List Binding → ℕ → Type 0 where
    no_more : {n : ℕ} → Slots n [] n
    known : {n m : ℕ} {b : Binding} {rest : List Binding} → Knows n b.entity → Slots n rest m → Slots n (b ∷ rest) m
    next : {n m : ℕ} {b : Binding} {rest : List Binding} → b.entity ≡ local_entity n → b.in_expression ≡ false → Slots (suc n) rest m → Slots n (b ∷ rest) m

  pub slots_append : {n m o : ℕ} {js ks : List Binding} → Slots n js m → Slots m ks o → Slots n (js ++ ks) o
  slots_append no_more g = g
  slots_append (known h f) g = known h (slots_append f g)
  slots_append (next h d f) g = next h d (slots_append f g)

  all_known : (n : ℕ) (js : List Binding) → All (Knows n) js → Slots n js n
  all_known n [] h = no_more
  all_known n (j ∷ js) h = known h.0 (all_known n js h.1)

  -- ---- judgements that take slots

  abbrev pub Taken : {A : Type 0} → (A → ℕ) → (A → Type 0) → ℕ → Checked A → Type 0
  Taken size V n (fine x js) = Slots n js (size x) × V x
  Taken size V n (refused kind token) = Unit {0}
  Taken size V n broken = Unit {0}

  pub record Takes {A : Type 0} (size : A → ℕ) (V : A → Type 0) (n : ℕ) (c : Checked A) : Type 0 where
    pub taken : Taken size V n c

  behind : {B : Type 0} (more_ : B → ℕ) (W : B → Type 0) (n m : ℕ) (js : List Binding) (c : Checked B) → Slots n js m → Taken more_ W m c → Taken more_ W n (with_bindings js c)
  behind more_ W n m js (fine y ks) f g = (slots_append f g.0, g.1)
  behind more_ W n m js (refused kind token) f g = tt
  behind more_ W n m js broken f g = tt

  pub takes_then :
      {A B : Type 0} (size : A → ℕ) (V : A → Type 0) (more_ : B → ℕ) (W : B → Type 0) (n : ℕ) (c : Checked A) (f : A → Checked B) → Takes size V n c → ((x : A) → V x → Takes more_ W (size x) (f x))
      → Takes more_ W n (c >>= f)
  takes_then size V more_ W n (fine x js) f h g = record { taken = behind more_ W n (size x) js (f x) h.taken.0 (g x h.taken.1).taken }
  takes_then size V more_ W n (refused kind token) f h g = record { taken = tt }
  takes_then size V more_ W n broken f h g = record { taken = tt }

  -- one that takes none first
  pub binds_then :
      {A B : Type 0} (more_ : B → ℕ) (W : B → Type 0) (n : ℕ) (c : Checked A) (f : A → Checked B) → Binds (Knows n) c → ((x : A) → Takes more_ W n (f x)) → Takes more_ W n (c >>= f)
  binds_then more_ W n (fine x js) f h g = record { taken = behind more_ W n n js (f x) (all_known n js h.all) (g x).taken }
  binds_then more_ W n (refused kind token) f h g = record { taken = tt }
  binds_then more_ W n broken f h g = record { taken = tt }

  pub gives_taken : {A : Type 0} (size : A → ℕ) (V : A → Type 0) (n : ℕ) (x : A) → n ≡ size x → V x → Takes size V n (give x)
  gives_taken size V n x e v = record { taken = (subst (λ m. Slots n [] m) e no_more, v) }

  -- ---- what is visible in a function

  pub record Base (s : Scope) : Type 0 where
    pub files : (name : List ℕ) (n : FileName) → s.file_names name ≡ Some n → K.knows (file_entity name) × MadeSort K.tags n.sort
    pub members :
        (number n : ℕ) (found : Struct) (m : PlainMember) → TagOf K.tags number → slice_get s.structs number ≡ Some found → slice_get found.members n ≡ Some m
        → K.knows (member_entity number n) × Made K.tags m.ty
    pub tags : (name : List ℕ) (n : ℕ) → s.tags name ≡ Some n → K.knows (struct_entity n) × TagOf K.tags n

  pub record Visible (n : ℕ) (s : Scope) : Type 0 where
    pub base : Base s
    pub locals : (name : List ℕ) (l : Local) → local_in s.blocks name ≡ Some l → (l.slot < n) × Made K.tags l.ty

  pub allowed : (n : ℕ) (s : Scope) → Visible n s → Allows (Knows n) K.tags s
  allowed n s h = record { locals = h.locals; files = h.base.files; members = h.base.members }

  pub further : (n m : ℕ) (s : Scope) → n ≤ m → Visible n s → Visible m s
  further n m s less h = record { base = h.base; locals = λ name l e. let f = h.locals name l e in let below : l.slot < n = f.0 in (omega (arith, below, less), f.1) }

  pub blocked : (n : ℕ) (s : Scope) → Visible n s → Visible n (record s { blocks = no_entry ∷ s.blocks })
  blocked n s h = record { base = record { files = h.base.files; members = h.base.members; tags = h.base.tags }; locals = h.locals }

  pub local_found :
      (G : Local → Type 0) (blocks : List (Table Local)) (name other : List ℕ) (new l : Local) → G new → ((l : Local) → local_in blocks other ≡ Some l → G l)
      → local_in (with_local_in blocks name new) other ≡ Some l → G l
  local_found G [] name other new l is old = by (bytes_eq other name)
    where
      by : (b : Bool) → or_else (if b then Some new else None) None ≡ Some l → G l
      by true e = let same_ : new ≡ l = cc in subst G same_ is
      by false e = absurd cc
  local_found G (table ∷ others) name other new l is old = by (bytes_eq other name)
    where
      by : (b : Bool) → or_else (if b then Some new else table other) (local_in others other) ≡ Some l → G l
      by true e = let same_ : new ≡ l = cc in subst G same_ is
      by false e = old l e

  pub declared_visible : (n : ℕ) (s : Scope) (name : List ℕ) (ty : PlainType) → Made K.tags ty → Visible n s → Visible (suc n) (with_local s name n ty)
  declared_visible n s name ty made h = record {
    base = record { files = h.base.files; members = h.base.members; tags = h.base.tags };
    locals = λ other l e. local_found (λ m. (m.slot < suc n) × Made K.tags m.ty) s.blocks name other (record { slot = n; ty = ty }) l (omega arith, made)
        (λ m f. let g = h.locals other m f in let less : m.slot < n = g.0 in (omega (arith, less), g.1)) e;
  }

  -- ---- declarations

  -- the words of a type that declare no struct
  pub record BasedOn (s : Scope) (b : Based) : Type 0 where
    pub scope : b.scope ≡ s
    pub made : Made K.tags b.ty

  pub based_binds : (n : ℕ) (s : Scope) (words : PlainTrees) → Base s → Takes (λ (b : Based). n) (BasedOn s) n (based false s words)
  based_binds n s words h = by (has_terminal t.Struct words)
    where
      tagged : (tag : PlainToken) (o : Option ℕ) → s.tags tag.text ≡ o → Takes (λ (b : Based). n) (BasedOn s) n (based_on_tag false s tag o)
      tagged tag (Some number) e = let f = h.tags tag.text number e in record { taken = (known f.0 no_more, record { scope = refl; made = f.1 }) }
      tagged tag None e = record { taken = tt }

      by :
          (b : Bool)
          → Takes (λ (b : Based). n) (BasedOn s) n
          (if b then or_broken (name_in words) >>= (λ tag. based_on_tag false s tag (s.tags tag.text)) else give (record { ty = arithmetic_words words; scope = s }))
      by true = binds_then (λ (b : Based). n) (BasedOn s) n (or_broken (name_in words)) _ (some_binds (Knows n) (name_in words)) (λ tag. tagged tag (s.tags tag.text) refl)
      by false = record { taken = (no_more, record { scope = refl; made = made_words K.tags words }) }

  -- one that takes none first, with what holds of its result
  pub gives_first :
      {A B : Type 0} (P : A → Type 0) (more_ : B → ℕ) (W : B → Type 0) (n : ℕ) (c : Checked A) (f : A → Checked B) → Gives (Knows n) P c → ((x : A) → P x → Takes more_ W n (f x)) → Takes more_ W n (c >>= f)
  gives_first P more_ W n (fine x js) f h g = record { taken = behind more_ W n n js (f x) (all_known n js h.given_.0) (g x h.given_.1).taken }
  gives_first P more_ W n (refused kind token) f h g = record { taken = tt }
  gives_first P more_ W n broken f h g = record { taken = tt }

  abbrev pub size_of_locals : Locals → ℕ
  size_of_locals x = length x.slots

  abbrev pub LocalsVisible : Locals → Type 0
  LocalsVisible x = Visible (length x.slots) x.scope

  longer : (slots : List PlainType) (ty : PlainType) → suc (length slots) ≡ length (slots ++ ty ∷ [])
  longer slots ty = let e : length (slots ++ ty ∷ []) ≡ length slots + length (ty ∷ []) = length-append slots (ty ∷ []) in let one_ : length (ty ∷ []) ≡ 1 = refl in omega (arith, e, one_)

  pub slot_then :
      {B : Type 0} (more_ : B → ℕ) (W : B → Type 0) (n : ℕ) (f : Unit {0} → Checked B) → Takes more_ W (suc n) (f tt) → Takes more_ W n (declares (local_entity n) >>= f)
  slot_then more_ W n f h = record { taken = behind more_ W n (suc n) (record { entity = local_entity n; in_expression = false } ∷ []) (f tt) (next refl refl no_more) h.taken }

  local_takes :
      (s : Scope) (slots : List PlainType) (ty : PlainType) (kind : Kind) (parts : PlainTrees) (name : PlainToken) (o : Option PlainTree) → Made K.tags ty → Visible (length slots) s
      → Takes size_of_locals LocalsVisible (length slots) (declared_local s slots ty kind parts name o)
  local_takes s slots ty kind parts name o made h =
      let n : ℕ = length slots in
      binds_then size_of_locals LocalsVisible n (unless_so (is_new_local s name.text) Redeclared name) _ (unless_binds (Knows n) (is_new_local s name.text) Redeclared name)
      (λ x. slot_then size_of_locals LocalsVisible n
      (λ bound. object_type s ty kind parts name o >>= (λ whole. judged_object s whole name >>= (λ judged_. local_initial (with_local s name.text n whole) whole name o >>= (λ given_. give (record {
        scope = with_local s name.text n whole;
        slots = slots ++ whole ∷ [];
        items = record { slot = n; parts = map plain_part given_ } ∷ [];
      })))))
      (gives_first (Made K.tags) size_of_locals LocalsVisible (suc n) (object_type s ty kind parts name o)
      (λ whole. judged_object s whole name >>= (λ judged_. local_initial (with_local s name.text n whole) whole name o >>= (λ given_. give (record {
        scope = with_local s name.text n whole;
        slots = slots ++ whole ∷ [];
        items = record { slot = n; parts = map plain_part given_ } ∷ [];
      }))))
      (object_gives (Knows (suc n)) K.tags s (allowed (suc n) s (further n (suc n) s (omega arith) h)) ty kind parts name o made)
      (λ whole whole_made. binds_then size_of_locals LocalsVisible (suc n) (judged_object s whole name) _ (whole_object_binds (Knows (suc n)) K.tags s (allowed (suc n) s (further n (suc n) s (omega arith) h)) whole name)
      (λ y. binds_then size_of_locals LocalsVisible (suc n) (local_initial (with_local s name.text n whole) whole name o) _
      (local_value_binds (Knows (suc n)) K.tags (with_local s name.text n whole) (allowed (suc n) (with_local s name.text n whole) (declared_visible n s name.text whole whole_made h)) whole name o)
      (λ given_. gives_taken size_of_locals LocalsVisible (suc n)
      (record { scope = with_local s name.text n whole; slots = slots ++ whole ∷ []; items = record { slot = n; parts = map plain_part given_ } ∷ [] }) (longer slots whole)
      (subst (λ m. Visible m (with_local s name.text n whole)) (longer slots whole) (declared_visible n s name.text whole whole_made h)))))))

  one_takes : (s : Scope) (slots : List PlainType) (ty : PlainType) (tree : PlainTree) (o : Option PlainTree) → Made K.tags ty → Visible (length slots) s → Takes size_of_locals LocalsVisible (length slots) (one_local s slots ty tree o)
  one_takes s slots ty (node kind parts) o made h =
      binds_then size_of_locals LocalsVisible (length slots) (or_broken (name_in parts)) _ (some_binds (Knows (length slots)) (name_in parts)) (λ name. local_takes s slots ty kind parts name o made h)
  one_takes s slots ty (leaf token) o made h = record { taken = tt }

  pub if_takes : {A : Type 0} (size : A → ℕ) (V : A → Type 0) (n : ℕ) (b : Bool) (c d : Checked A) → Takes size V n c → Takes size V n d → Takes size V n (if b then c else d)
  if_takes size V n true c d f g = f
  if_takes size V n false c d f g = g

  first_then :
      (s : Scope) (slots : List PlainType) (ty : PlainType) (tree : PlainTree) (o : Option PlainTree) (rest : PlainTrees) → Made K.tags ty → Visible (length slots) s
      → ((s : Scope) (slots : List PlainType) → Visible (length slots) s → Takes size_of_locals LocalsVisible (length slots) (locals_from s slots ty rest))
      → Takes size_of_locals LocalsVisible (length slots) (one_local s slots ty tree o >>= (λ first. locals_from first.scope first.slots ty rest >>= (λ others. give (with_items first.items others))))
  first_then s slots ty tree o rest made h g =
      takes_then size_of_locals LocalsVisible size_of_locals LocalsVisible (length slots) (one_local s slots ty tree o) _ (one_takes s slots ty tree o made h)
      (λ first v. takes_then size_of_locals LocalsVisible size_of_locals LocalsVisible (length first.slots) (locals_from first.scope first.slots ty rest) _ (g first.scope first.slots v)
      (λ others w. gives_taken size_of_locals LocalsVisible (length others.slots) (with_items first.items others) refl w))

  from_takes : (parts : PlainTrees) (s : Scope) (slots : List PlainType) (ty : PlainType) → Made K.tags ty → Visible (length slots) s → Takes size_of_locals LocalsVisible (length slots) (locals_from s slots ty parts)
  from_takes none s slots ty made h = record { taken = tt }
  from_takes (more tree none) s slots ty made h = one_takes s slots ty tree None made h
  from_takes (more tree (more sign none)) s slots ty made h = record { taken = tt }
  from_takes (more tree (more sign (more next_ none))) s slots ty made h =
      if_takes size_of_locals LocalsVisible (length slots) (is_word (t.Assign ∷ []) sign) _ _ (one_takes s slots ty tree (Some next_) made h)
      (first_then s slots ty tree None (more next_ none) made h (λ u more_ i. from_takes (more next_ none) u more_ ty made i))
  from_takes (more tree (more sign (more next_ (more comma rest)))) s slots ty made h =
      if_takes size_of_locals LocalsVisible (length slots) (is_word (t.Assign ∷ []) sign) _ _ (first_then s slots ty tree (Some next_) rest made h (λ u more_ i. from_takes rest u more_ ty made i))
      (first_then s slots ty tree None (more next_ (more comma rest)) made h (λ u more_ i. from_takes (more next_ (more comma rest)) u more_ ty made i))

  pub locals_take : (s : Scope) (slots : List PlainType) (parts : PlainTrees) → Visible (length slots) s → Takes size_of_locals LocalsVisible (length slots) (judged_locals s slots parts)
  locals_take s slots (more (node words_kind words) (more (node kind declarators) (more end_ none))) h =
      takes_then (λ (b : Based). length slots) (BasedOn s) size_of_locals LocalsVisible (length slots) (based false s words) (λ b. locals_from s slots b.ty declarators) (based_binds (length slots) s words h.base)
      (λ b e. from_takes declarators s slots b.ty e.made h)
  locals_take s slots _ h = record { taken = tt }

  -- ---- expressions in statements

  discarded_binds : (n : ℕ) (s : Scope) (tree : PlainTree) (otherwise : PlainExpression) → Visible n s → Binds (Knows n) (discarded s tree otherwise)
  discarded_binds n s (node k.Absent parts) otherwise h = record { all = tt }
  discarded_binds n s tree otherwise h = then_binds (Knows n) (valued s tree) _ (valued_binds (Knows n) K.tags s (allowed n s h) tree) (λ x. record { all = tt })

  condition_or_binds : (n : ℕ) (s : Scope) (tree : PlainTree) (at : PlainToken) → Visible n s → Binds (Knows n) (condition_or_true s tree at)
  condition_or_binds n s (node k.Absent parts) at h = record { all = tt }
  condition_or_binds n s tree at h = judged_condition_binds (Knows n) K.tags s (allowed n s h) tree at

  expression_binds : (n : ℕ) (s : Scope) (tree : PlainTree) → Visible n s → Binds (Knows n) (expression_statement s tree)
  expression_binds n s (node k.Absent parts) h = record { all = tt }
  expression_binds n s tree h = then_binds (Knows n) (valued s tree) _ (valued_binds (Knows n) K.tags s (allowed n s h) tree) (λ x. record { all = tt })

  jump_binds : (n : ℕ) (around : Around) (word : PlainToken) → Binds (Knows n) (jump around word)
  jump_binds n around word = unless_then (Knows n) around.in_loop Misplaced word _ (λ x. record { all = tt })

  returned_binds : (n : ℕ) (around : Around) (word : PlainToken) (tree : PlainTree) → Visible n around.scope → Binds (Knows n) (returned around word tree)
  returned_binds n around word (node k.Absent parts) h = unless_then (Knows n) (is_void around.result) Misplaced word _ (λ x. record { all = tt })
  returned_binds n around word tree h =
      unless_then (Knows n) (not (is_void around.result)) Misplaced word _
      (λ x. then_binds (Knows n) (valued around.scope tree) _ (valued_binds (Knows n) K.tags around.scope (allowed n around.scope h) tree)
      (λ y. found_then (Knows n) (fits_into around.result y) Misplaced word _ (λ z. record { all = tt })))

  -- ---- statements

  abbrev pub size_of_judged : Judged → ℕ
  size_of_judged x = length x.slots

  abbrev pub size_of_items : JudgedItems → ℕ
  size_of_items x = length x.slots

  slots_grow : {n m : ℕ} {js : List Binding} → Slots n js m → n ≤ m
  slots_grow (no_more {n = n}) = let e : n ≡ n = refl in omega arith
  slots_grow (known h f) = slots_grow f
  slots_grow (next {n = n} {m = m} e d f) = let less : suc n ≤ m = slots_grow f in omega (arith, less)

  pub grown : {A : Type 0} (size : A → ℕ) (V : A → Type 0) (n : ℕ) (c : Checked A) → Takes size V n c → Takes size (λ x. V x × (n ≤ size x)) n c
  grown size V n (fine x js) h = record { taken = (h.taken.0, (h.taken.1, slots_grow h.taken.0)) }
  grown size V n (refused kind token) h = record { taken = tt }
  grown size V n broken h = record { taken = tt }

  -- what follows a statement, where what was visible still is
  then_further :
      {A B : Type 0} (size : A → ℕ) (more_ : B → ℕ) (n : ℕ) (s : Scope) (c : Checked A) (f : A → Checked B) → Visible n s → Takes size (λ x. Unit {0}) n c
      → ((x : A) → Visible (size x) s → Takes more_ (λ y. Unit {0}) (size x) (f x)) → Takes more_ (λ y. Unit {0}) n (c >>= f)
  then_further size more_ n s c f h a g =
      takes_then size (λ x. Unit {0} × (n ≤ size x)) more_ (λ y. Unit {0}) n c f (grown size (λ x. Unit {0}) n c a) (λ x v. g x (further n (size x) s v.1 h))

  no_statement : (slots : List PlainType) (core_ : PlainStatement) → Takes size_of_judged (λ x. Unit {0}) (length slots) (give (judged_as slots core_))
  no_statement slots core_ = record { taken = (no_more, tt) }

  plain_statement : {A : Type 0} (slots : List PlainType) (c : Checked A) (f : A → PlainStatement) → Binds (Knows (length slots)) c → Takes size_of_judged (λ x. Unit {0}) (length slots) (c >>= (λ x. give (judged_as slots (f x))))
  plain_statement slots c f h = binds_then size_of_judged (λ x. Unit {0}) (length slots) c _ h (λ x. record { taken = (no_more, tt) })

  mutual
    pub statement_takes : (around : Around) (slots : List PlainType) (tree : PlainTree) → Visible (length slots) around.scope → Takes size_of_judged (λ x. Unit {0}) (length slots) (judged_statement around slots tree)
    statement_takes around slots (node k.Block (more brace (more (node k.Items items) (more last none)))) h =
        takes_then size_of_items (λ x. Unit {0}) size_of_judged (λ x. Unit {0}) (length slots) (judged_items (in_block around) slots items) _ (items_take (in_block around) slots items (blocked (length slots) around.scope h))
        (λ inner v. no_statement inner.slots (core.block inner.core))
    statement_takes around slots (node k.Block (more brace (more (node k.Absent items) (more last none)))) h = record { taken = (no_more, tt) }
    statement_takes around slots (node k.ExpressionStatement (more tree (more end_ none))) h =
        plain_statement slots (expression_statement around.scope tree) (λ x. x) (expression_binds (length slots) around.scope tree h)
    statement_takes around slots (node k.If (more word (more bracket (more condition (more (leaf close) (more first (more second none))))))) h =
        binds_then size_of_judged (λ x. Unit {0}) (length slots) (judged_condition around.scope condition close) _ (judged_condition_binds (Knows (length slots)) K.tags around.scope (allowed (length slots) around.scope h) condition close)
        (λ c. then_further size_of_judged size_of_judged (length slots) around.scope (judged_statement around slots first) _ h (statement_takes around slots first h)
        (λ a i. then_further size_of_judged size_of_judged (length a.slots) around.scope (judged_else around a.slots second) _ i (else_takes around a.slots second i)
        (λ b j. no_statement b.slots (core.selection c a.core b.core))))
    statement_takes around slots (node k.While (more word (more bracket (more condition (more (leaf close) (more body none)))))) h =
        binds_then size_of_judged (λ x. Unit {0}) (length slots) (judged_condition around.scope condition close) _ (judged_condition_binds (Knows (length slots)) K.tags around.scope (allowed (length slots) around.scope h) condition close)
        (λ c. then_further size_of_judged size_of_judged (length slots) around.scope (judged_statement (within_loop around) slots body) _ h (statement_takes (within_loop around) slots body h)
        (λ b i. no_statement b.slots (core.loop true c nothing_to_do b.core)))
    statement_takes around slots (node k.Do (more word (more body (more again (more bracket (more condition (more (leaf close) (more end_ none)))))))) h =
        then_further size_of_judged size_of_judged (length slots) around.scope (judged_statement (within_loop around) slots body) _ h (statement_takes (within_loop around) slots body h)
        (λ b i. binds_then size_of_judged (λ x. Unit {0}) (length b.slots) (judged_condition around.scope condition close) _ (judged_condition_binds (Knows (length b.slots)) K.tags around.scope (allowed (length b.slots) around.scope i) condition close)
        (λ c. no_statement b.slots (core.loop false c nothing_to_do b.core)))
    statement_takes around slots (node k.For (more word (more bracket (more (node k.LocalDeclaration parts) (more condition (more (leaf end_) (more step (more close (more body none))))))))) h =
        takes_then size_of_locals LocalsVisible size_of_judged (λ x. Unit {0}) (length slots) (judged_locals (in_block around).scope slots parts) _ (locals_take (in_block around).scope slots parts (blocked (length slots) around.scope h))
        (λ locals v. binds_then size_of_judged (λ x. Unit {0}) (length locals.slots) (condition_or_true locals.scope condition end_) _ (condition_or_binds (length locals.slots) locals.scope condition end_ v)
        (λ c. binds_then size_of_judged (λ x. Unit {0}) (length locals.slots) (discarded locals.scope step nothing_to_do) _ (discarded_binds (length locals.slots) locals.scope step nothing_to_do v)
        (λ z. then_further size_of_judged size_of_judged (length locals.slots) locals.scope (judged_statement (within_loop (record around { scope = locals.scope })) locals.slots body) _ v (statement_takes (within_loop (record around { scope = locals.scope })) locals.slots body v)
        (λ b i. no_statement b.slots (core.block (before_items locals.items (one_item (core.loop true c z b.core))))))))
    statement_takes around slots (node k.For (more word (more bracket (more (node k.ForStart (more first (more semicolon none))) (more condition (more (leaf end_) (more step (more close (more body none))))))))) h =
        let n : ℕ = length slots in
        binds_then size_of_judged (λ x. Unit {0}) n (expression_statement around.scope first) _ (expression_binds n around.scope first h)
        (λ start. binds_then size_of_judged (λ x. Unit {0}) n (condition_or_true around.scope condition end_) _ (condition_or_binds n around.scope condition end_ h)
        (λ c. binds_then size_of_judged (λ x. Unit {0}) n (discarded around.scope step nothing_to_do) _ (discarded_binds n around.scope step nothing_to_do h)
        (λ z. then_further size_of_judged size_of_judged n around.scope (judged_statement (within_loop around) slots body) _ h (statement_takes (within_loop around) slots body h)
        (λ b i. no_statement b.slots (core.block (core.statement_item start (one_item (core.loop true c z b.core))))))))
    statement_takes around slots (node k.Jump (more (leaf word) (more end_ none))) h = plain_statement slots (jump around word) (λ x. x) (jump_binds (length slots) around word)
    statement_takes around slots (node k.Return (more (leaf word) (more tree (more end_ none)))) h = plain_statement slots (returned around word tree) (λ x. x) (returned_binds (length slots) around word tree h)
    statement_takes around slots tree h = record { taken = tt }

    pub else_takes : (around : Around) (slots : List PlainType) (tree : PlainTree) → Visible (length slots) around.scope → Takes size_of_judged (λ x. Unit {0}) (length slots) (judged_else around slots tree)
    else_takes around slots (node k.Else (more word (more tree none))) h = statement_takes around slots tree h
    else_takes around slots (node k.Absent parts) h = record { taken = (no_more, tt) }
    else_takes around slots tree h = record { taken = tt }

    pub items_take : (around : Around) (slots : List PlainType) (items : PlainTrees) → Visible (length slots) around.scope → Takes size_of_items (λ x. Unit {0}) (length slots) (judged_items around slots items)
    items_take around slots none h = record { taken = (no_more, tt) }
    items_take around slots (more (node k.LocalDeclaration parts) rest) h =
        takes_then size_of_locals LocalsVisible size_of_items (λ x. Unit {0}) (length slots) (judged_locals around.scope slots parts) _ (locals_take around.scope slots parts h)
        (λ locals v. takes_then size_of_items (λ x. Unit {0}) size_of_items (λ x. Unit {0}) (length locals.slots) (judged_items (record around { scope = locals.scope }) locals.slots rest) (λ others. give (items_as others.slots (before_items locals.items others.core))) (items_take (record around { scope = locals.scope }) locals.slots rest v)
        (λ others w. gives_taken size_of_items (λ x. Unit {0}) (length others.slots) (items_as others.slots (before_items locals.items others.core)) refl tt))
    items_take around slots (more tree rest) h =
        then_further size_of_judged size_of_items (length slots) around.scope (judged_statement around slots tree)
        (λ first. judged_items around first.slots rest >>= (λ others. give (items_as others.slots (core.statement_item first.core others.core)))) h (statement_takes around slots tree h)
        (λ first i. takes_then size_of_items (λ x. Unit {0}) size_of_items (λ x. Unit {0}) (length first.slots) (judged_items around first.slots rest) (λ others. give (items_as others.slots (core.statement_item first.core others.core))) (items_take around first.slots rest i)
        (λ others w. gives_taken size_of_items (λ x. Unit {0}) (length others.slots) (items_as others.slots (core.statement_item first.core others.core)) refl tt))
