-- A function takes slots in the order of its text: its parameters first, and then the locals of its block.
use Rattle.std.proofs.Common.{◌≡◌, ℕ, ◌+◌, suc, ◌<◌, Bool, true, false, List, [], ◌∷◌, ◌++◌, refl, sym, subst, ◌∙◌, length, IsTrue, arith}
use Rattle.std.specs.Prelude.{Option, Some, None, slice_get, is_some, if◌then◌else◌, ◌&&◌}
use Rattle.std.specs.Str.{bytes_eq}
use Rattle.std.specs.Cmp.Lexicographic.{bytes_decides}
use Rattle.std.proofs.lemmas.Option.{same_Some, none-some}
use Rattle.std.proofs.lemmas.List.{length-append, length-map}
use Rattle.c_text.specs.Token.{PlainToken}
use Rattle.c_types.specs.Types.{PlainType}
use Rattle.c_tree.specs.declared.kinds.Kind.{Kind}
use Rattle.c_tree.specs.declared.kinds.Kind.TheVariants as k
use Rattle.c_tree.specs.declared.terminals.Terminal.TheVariants as t
use Rattle.c_tree.specs.Trees.{PlainTree, PlainTrees, leaf, node, none, more}
use Rattle.c_tree.specs.Grammar.{is_lone_void}
use Rattle.core_meaning.specs.declared.refusals.TypeKind.TheVariants.{Redeclared}
use Rattle.core_meaning.specs.Program.{PlainItems}
use Rattle.core_meaning.specs.Checking.{local_entity, file_entity, Binding, Checked, fine, refused, broken, with_bindings, ◌>>=◌, give, unless_so, declares}
use Rattle.core_meaning.specs.Entities.{Table, Local, Sort, function, FileName, Scope, local_in}
use Rattle.core_meaning.specs.Expressions.{first_token_in}
use Rattle.core_meaning.specs.Declarations.{Based, based, name_in, starred, behind_word, Parameter, token_of, is_new_parameter, declares_name, parameter_type, judged_parameter, declared_parameter, one_parameter, with_block, with_parameter, parameters_from, parameters_in, parameters_of}
use Rattle.core_meaning.specs.Statements.{JudgedItems}
use Rattle.core_meaning.specs.UnitNames.{with_file_name, UnitState, Storage, function_body, parameter_types, signature_of, may_be_function, new_function, same_sort, same_bool, linkage, declared_as, declared_again, with_name, with_parameters, is_result, result_kind, judged_body, with_defined, with_scope, defined_function}
use Rattle.entity_numbers.specs.Slots.{IsNamed, AreNamed, HasNamedParameters}
use Rattle.entity_numbers.specs.Laws.{FunctionsTakeSlotsInTurn}
use Rattle.bindings.proofs.Types.{Made, AllMade, MadeSort}
use Rattle.entity_numbers.proofs.Uses.{Sense, unless_binds}
use Rattle.entity_numbers.proofs.Initialisers.{made_starred, parameter_gives, whole_parameter_binds}
use Rattle.entity_numbers.proofs.Slots.{Base, BasedOn, gives_first, Knows, Slots, slots_append, no_more, known, Takes, takes_then, binds_then, gives_taken, slot_then, based_binds, Visible, allowed, further, declared_visible, items_take, size_of_items}
use Rattle.entity_numbers.proofs.Blocks.{Anything, all_made, any_base, in_turn}

module _ (K : Sense) where
  -- what is known of names of file scope
  abbrev pub FilesKnown : Scope → Type 0
  FilesKnown s = (name : List ℕ) (n : FileName) → s.file_names name ≡ Some n → K.knows (file_entity name) × MadeSort K.tags n.sort

  -- what a scope keeps when names of file scope are declared
  pub record Keeps (s x : Scope) : Type 0 where
    pub blocks : x.blocks ≡ s.blocks
    pub structs : x.structs ≡ s.structs
    pub tags : x.tags ≡ s.tags
    pub files : FilesKnown s → FilesKnown x

  pub keeps_itself : (s : Scope) → Keeps s s
  keeps_itself s = record { blocks = refl; structs = refl; tags = refl; files = λ f. f }

  pub based_in : (s x : Scope) → Keeps s x → Base K s → Base K x
  based_in s x e h = record {
    files = e.files h.files;
    members = λ number n found m tag is f. h.members number n found m tag (subst (λ l. slice_get l number ≡ Some found) e.structs is) f;
    tags = λ name n is. h.tags name n (subst (λ (table : Table ℕ). table name ≡ Some n) e.tags is);
  }

  blocked_base : (s : Scope) → Base K s → Base K (with_block s)
  blocked_base s h = record { files = h.files; members = h.members; tags = h.tags }

  pub entered_files : (s : Scope) (name : List ℕ) (n : FileName) → K.knows (file_entity name) → MadeSort K.tags n.sort → FilesKnown s → FilesKnown (with_file_name s name n)
  entered_files s name n known_ made f other m e = by (bytes_eq other name) refl e
    where
      by : (b : Bool) → bytes_eq other name ≡ b → (if b then Some n else s.file_names other) ≡ Some m → K.knows (file_entity other) × MadeSort K.tags m.sort
      by true same_ e =
          let is : other ≡ name = (bytes_decides other name).0 same_ in
          let it : n ≡ m = same_Some n m e in
          (subst (λ x. K.knows (file_entity x)) (sym is) known_, subst (λ (x : FileName). MadeSort K.tags x.sort) it made)
      by false same_ e = f other m e

  pub name_kept : (s : Scope) (name : List ℕ) (n : FileName) → K.knows (file_entity name) → MadeSort K.tags n.sort → Keeps s (with_file_name s name n)
  name_kept s name n known_ made = record { blocks = refl; structs = refl; tags = refl; files = entered_files s name n known_ made }

  visible : (n : ℕ) (s : Scope) → Base K s → ((name : List ℕ) → local_in s.blocks name ≡ None) → Visible K n s
  visible n s base no_local = record { base = base; locals = λ name l e. absurd (none-some l (sym (no_local name) ∙ e)) }

  abbrev pub NoLocals : Scope → Type 0
  NoLocals s = (name : List ℕ) → local_in s.blocks name ≡ None

  -- ---- parameters

  abbrev pub MadeParameter : Parameter → Type 0
  MadeParameter p = Made K.tags p.ty

  abbrev MadeParameters : List Parameter → Type 0
  MadeParameters ps = AllMade K.tags (parameter_types ps)

  abbrev size_of_list : List Parameter → ℕ
  size_of_list ps = length ps

  module _ (s : Scope) (before : List Parameter) where
    parameter_takes :
        (ty : PlainType) (first : PlainToken) (kind : Kind) (parts : PlainTrees) (o : Option PlainToken) → IsTrue (is_some o) → Made K.tags ty → Visible K (length before) s
        → Takes K (λ (p : Parameter). suc (length before)) MadeParameter (length before)
        (unless_so (is_new_parameter before o) Redeclared (token_of o first) >>= (λ new. declares_name o (local_entity (length before)) >>= (λ bound. parameter_type s ty kind parts (token_of o first)
        >>= (λ whole. judged_parameter true s whole (token_of o first) >>= (λ judged_. give (record { name = o; ty = whole }))))))
    parameter_takes ty first kind parts None some made h = absurd cc
    parameter_takes ty first kind parts (Some name) some made h =
        let n : ℕ = length before in
        let more_ : Visible K (suc n) s = further K n (suc n) s (omega arith) h in
        binds_then K (λ (p : Parameter). suc n) MadeParameter n (unless_so (is_new_parameter before (Some name)) Redeclared name) _ (unless_binds (Knows K n) (is_new_parameter before (Some name)) Redeclared name)
        (λ x. slot_then K (λ (p : Parameter). suc n) MadeParameter n
        (λ bound. parameter_type s ty kind parts name >>= (λ whole. judged_parameter true s whole name >>= (λ judged_. give (record { name = Some name; ty = whole }))))
        (gives_first K (Made K.tags) (λ (p : Parameter). suc n) MadeParameter (suc n) (parameter_type s ty kind parts name) (λ whole. judged_parameter true s whole name >>= (λ judged_. give (record { name = Some name; ty = whole }))) (parameter_gives (Knows K (suc n)) K.tags s (allowed K (suc n) s more_) ty kind parts name made)
        (λ whole whole_made. binds_then K (λ (p : Parameter). suc n) MadeParameter (suc n) (judged_parameter true s whole name) _ (whole_parameter_binds (Knows K (suc n)) K.tags s (allowed K (suc n) s more_) true whole name)
        (λ y. record { taken = (no_more, whole_made) }))))

    declared_takes :
        (ty : PlainType) (first : PlainToken) (kind words_kind : Kind) (words : PlainTrees) (tree : PlainTree) → IsNamed (node kind (more (node words_kind words) (more tree none))) → Made K.tags ty → Visible K (length before) s
        → Takes K (λ (p : Parameter). suc (length before)) MadeParameter (length before) (declared_parameter true s before ty first tree)
    declared_takes ty first kind words_kind words (node k.Absent parts) named made h = absurd named
    declared_takes ty first kind words_kind words (node inner parts) named made h = parameter_takes ty first inner parts (name_in parts) named made h
    declared_takes ty first kind words_kind words (leaf token) named made h = record { taken = tt }

    one_takes :
        (tree : PlainTree) (at : PlainToken) → IsNamed tree → Visible K (length before) s
        → Takes K (λ (p : Parameter). suc (length before)) MadeParameter (length before) (one_parameter true s before tree at)
    one_takes (node kind (more (node words_kind words) (more declarator none))) at named h =
        takes_then K (λ (b : Based). length before) (BasedOn K s) (λ (p : Parameter). suc (length before)) MadeParameter (length before)
        (based false s words) (λ b. declared_parameter true s before b.ty (first_token_in words at) declarator) (based_binds K (length before) s words h.base)
        (λ b e. declared_takes b.ty (first_token_in words at) kind words_kind words declarator named e.made h)
    one_takes _ at named h = record { taken = tt }

  longer : (before : List Parameter) (p : Parameter) → suc (length before) ≡ length (before ++ p ∷ [])
  longer before p = let e : length (before ++ p ∷ []) ≡ length before + length (p ∷ []) = length-append before (p ∷ []) in let one_ : length (p ∷ []) ≡ 1 = refl in omega (arith, e, one_)

  parameter_visible : (n : ℕ) (s : Scope) (name : Option PlainToken) (ty : PlainType) → Made K.tags ty → Visible K n s → Visible K (suc n) (with_parameter s n name ty)
  parameter_visible n s None ty made h = further K n (suc n) s (omega arith) h
  parameter_visible n s (Some name) ty made h = declared_visible K n s name.text ty made h

  one_more_made : (ps : List Parameter) (p : Parameter) → MadeParameters ps → MadeParameter p → MadeParameters (ps ++ p ∷ [])
  one_more_made [] p h made = (made, tt)
  one_more_made (q ∷ ps) p h made = (h.0, one_more_made ps p h.1 made)

  from_takes :
      (parts : PlainTrees) (s : Scope) (before : List Parameter) (at : PlainToken) → AreNamed parts → MadeParameters before → Visible K (length before) s
      → Takes K size_of_list MadeParameters (length before) (parameters_from true s before parts at)
  from_takes none s before at named made h = record { taken = (no_more, made) }
  from_takes (more tree none) s before at named made h =
      takes_then K (λ (p : Parameter). suc (length before)) MadeParameter size_of_list MadeParameters (length before) (one_parameter true s before tree at) (λ p. give (before ++ p ∷ [])) (one_takes s before tree at named.0 h)
      (λ p v. gives_taken K size_of_list MadeParameters (suc (length before)) (before ++ p ∷ []) (longer before p) (one_more_made before p made v))
  from_takes (more tree (more comma rest)) s before at named made h =
      takes_then K (λ (p : Parameter). suc (length before)) MadeParameter size_of_list MadeParameters (length before) (one_parameter true s before tree at)
      (λ p. parameters_from true (with_parameter s (length before) p.name p.ty) (before ++ p ∷ []) rest at) (one_takes s before tree at named.0 h)
      (λ p v. subst (λ m. Takes K size_of_list MadeParameters m (parameters_from true (with_parameter s (length before) p.name p.ty) (before ++ p ∷ []) rest at)) (sym (longer before p))
      (from_takes rest (with_parameter s (length before) p.name p.ty) (before ++ p ∷ []) at named.1.1 (one_more_made before p made v)
      (subst (λ m. Visible K m (with_parameter s (length before) p.name p.ty)) (longer before p) (parameter_visible (length before) s p.name p.ty v h))))

  list_takes :
      (s : Scope) (tree : PlainTree) (at : PlainToken) → HasNamedParameters (Some tree) → Base K s → NoLocals s → Takes K size_of_list MadeParameters 0 (parameters_in true s tree at)
  list_takes s (node k.Parameters parts) at named base h = by (is_lone_void parts) named
    where
      by : (b : Bool) → (b ≡ false → AreNamed parts) → Takes K size_of_list MadeParameters 0 (if b then give [] else parameters_from true (with_block s) [] parts at)
      by true f = record { taken = (no_more, tt) }
      by false f = from_takes parts (with_block s) [] at (f refl) tt (visible 0 (with_block s) (blocked_base s base) h)
  list_takes s _ at named base h = record { taken = (no_more, tt) }

  parameters_take :
      (s : Scope) (o : Option PlainTree) (at : PlainToken) → HasNamedParameters o → Base K s → NoLocals s → Takes K size_of_list MadeParameters 0 (parameters_of true s o at)
  parameters_take s None at named base h = record { taken = tt }
  parameters_take s (Some tree) at named base h = list_takes s tree at named base h

  -- ---- what a function's block sees

  again_takes : (n : ℕ) (s : Scope) (name : PlainToken) (sort : Sort) (internal : Bool) (v : FileName) → Takes K (λ (x : Scope). n) (λ (x : Scope). Keeps s x) n (declared_again s name sort internal v)
  again_takes n s name sort internal v =
      binds_then K (λ (x : Scope). n) (λ (x : Scope). Keeps s x) n (unless_so (same_sort v.sort sort && same_bool v.internal internal) Redeclared name) _
      (unless_binds (Knows K n) (same_sort v.sort sort && same_bool v.internal internal) Redeclared name) (λ x. record { taken = (no_more, keeps_itself s) })

  name_takes : (n : ℕ) (s : Scope) (name : PlainToken) (sort : Sort) (internal : Bool) (o : Option FileName) → K.knows (file_entity name.text) → MadeSort K.tags sort → Takes K (λ (x : Scope). n) (λ (x : Scope). Keeps s x) n (declared_as s name sort internal o)
  name_takes n s name sort internal (Some v) known_ made = again_takes n s name sort internal v
  name_takes n s name sort internal None known_ made = record { taken = (no_more, name_kept s name.text (record { sort = sort; internal = internal }) known_ made) }

  all_visible : (n : ℕ) (s : Scope) (ps : List Parameter) → MadeParameters ps → Visible K n s → Visible K (n + length ps) (with_parameters s n ps)
  all_visible n s [] made h = further K n (n + length {A = Parameter} []) s (let e : length {A = Parameter} [] ≡ 0 = refl in omega (arith, e)) h
  all_visible n s (p ∷ rest) made h =
      let up : suc n ≡ n + 1 = omega arith in
      let e : (n + 1) + length rest ≡ n + length (p ∷ rest) = omega arith in
      subst (λ m. Visible K m (with_parameters (with_parameter s n p.name p.ty) (n + 1) rest)) e
      (all_visible (n + 1) (with_parameter s n p.name p.ty) rest made.1 (subst (λ m. Visible K m (with_parameter s n p.name p.ty)) up (parameter_visible n s p.name p.ty made.0 h)))

  body_takes :
      (s : Scope) (result : PlainType) (slots : List PlainType) (tree : PlainTree) → Visible K (length slots) s
      → Takes K (size_of_items K) (λ (x : JudgedItems). Unit {0}) (length slots) (judged_body s result slots tree)
  body_takes s result slots (node kind (more brace (more (node k.Items items) (more last none)))) h = items_take K (record { scope = s; result = result; in_loop = false }) slots items h
  body_takes s result slots (node kind (more brace (more (node k.Absent items) (more last none)))) h = record { taken = (no_more, tt) }
  body_takes s result slots _ h = record { taken = tt }

  -- ---- functions

  unless_takes : (n : ℕ) (b : Bool) (kind : Rattle.core_meaning.specs.declared.refusals.TypeKind.TypeKind) (token : PlainToken) → Takes K (λ (x : Unit {0}). n) (λ (x : Unit {0}). Unit {0}) n (unless_so b kind token)
  unless_takes n true kind token = record { taken = (no_more, tt) }
  unless_takes n false kind token = record { taken = tt }

  module _ (unit : UnitState) (name : List ℕ) where
    -- what the definition leaves: a body with as many slots as are taken
    pub record Defines (n : ℕ) (x : UnitState) (js : List Binding) : Type 0 where
      pub slots : List PlainType
      pub items : PlainItems
      pub kept : Keeps unit.scope x.scope
      pub defined : x.defined ≡ unit.defined ++ record { name = name; body = function_body slots items } ∷ []
      pub taken : Slots K n js (length slots)

    abbrev pub Ended : ℕ → Checked UnitState → Type 0
    Ended n (fine x js) = Defines n x js
    Ended n (refused kind token) = Unit {0}
    Ended n broken = Unit {0}

    pub record Ends (n : ℕ) (c : Checked UnitState) : Type 0 where
      pub ended : Ended n c

    ends_behind : (n m : ℕ) (js : List Binding) (c : Checked UnitState) → Slots K n js m → Ended m c → Ended n (with_bindings js c)
    ends_behind n m js (fine y ks) f g = record { slots = g.slots; items = g.items; defined = g.defined; kept = g.kept; taken = slots_append K f g.taken }
    ends_behind n m js (refused kind token) f g = tt
    ends_behind n m js broken f g = tt

    ends_then :
        {A : Type 0} (size : A → ℕ) (V : A → Type 0) (n : ℕ) (c : Checked A) (f : A → Checked UnitState) → Takes K size V n c → ((x : A) → V x → Ends (size x) (f x)) → Ends n (c >>= f)
    ends_then size V n (fine x js) f h g = record { ended = ends_behind n (size x) js (f x) h.taken.0 (g x h.taken.1).ended }
    ends_then size V n (refused kind token) f h g = record { ended = tt }
    ends_then size V n broken f h g = record { ended = tt }

  pub function_ends :
      (unit : UnitState) (storage : Storage) (ty : PlainType) (parts : PlainTrees) (name : PlainToken) (body : PlainTree) → K.knows (file_entity name.text) → Made K.tags ty → Base K unit.scope → NoLocals unit.scope → HasNamedParameters (behind_word t.OpenParenthesis parts)
      → Ends unit name.text 0 (defined_function unit storage ty parts name body)
  function_ends unit storage ty parts name body known_ made base h named =
      let result : PlainType = starred parts ty in
      let list : Option PlainTree = behind_word t.OpenParenthesis parts in
      ends_then unit name.text (λ (x : Unit {0}). 0) (λ (x : Unit {0}). Unit {0}) 0 (declares (file_entity name.text))
      (λ bound. unless_so (is_result unit.scope result) (result_kind unit.scope storage result name (parameters_of true unit.scope list name)) name
      >>= (λ fits. new_function true unit.scope storage result parts name
      >>= (λ parameters. with_name unit.scope name (function (signature_of result parameters)) storage
      >>= (λ scope. judged_body (with_parameters (with_block scope) 0 parameters) result (parameter_types parameters) body
      >>= (λ items. give (with_defined (with_scope unit scope) name.text (function_body items.slots items.core)))))))
      (record { taken = (known known_ no_more, tt) })
      (λ x v. ends_then unit name.text (λ (x : Unit {0}). 0) (λ (x : Unit {0}). Unit {0}) 0 (unless_so (is_result unit.scope result) (result_kind unit.scope storage result name (parameters_of true unit.scope list name)) name) _
      (unless_takes 0 (is_result unit.scope result) (result_kind unit.scope storage result name (parameters_of true unit.scope list name)) name)
      (λ y w. ends_then unit name.text size_of_list MadeParameters 0 (new_function true unit.scope storage result parts name)
      (λ parameters. with_name unit.scope name (function (signature_of result parameters)) storage
      >>= (λ scope. judged_body (with_parameters (with_block scope) 0 parameters) result (parameter_types parameters) body
      >>= (λ items. give (with_defined (with_scope unit scope) name.text (function_body items.slots items.core)))))
      (takes_then K (λ (x : Unit {0}). 0) (λ (x : Unit {0}). Unit {0}) size_of_list MadeParameters 0 (unless_so (may_be_function storage result (unit.scope.file_names name.text)) Redeclared name) (λ new. parameters_of true unit.scope list name)
      (unless_takes 0 (may_be_function storage result (unit.scope.file_names name.text)) Redeclared name) (λ z u. parameters_take unit.scope list name named base h))
      (λ ps u. ends_then unit name.text (λ (x : Scope). length ps) (λ (x : Scope). Keeps unit.scope x) (length ps) (with_name unit.scope name (function (signature_of result ps)) storage)
      (λ scope. judged_body (with_parameters (with_block scope) 0 ps) result (parameter_types ps) body >>= (λ items. give (with_defined (with_scope unit scope) name.text (function_body items.slots items.core))))
      (name_takes (length ps) unit.scope name (function (signature_of result ps)) (linkage storage true (unit.scope.file_names name.text)) (unit.scope.file_names name.text) known_ (made_starred K.tags parts ty made, u))
      (λ scope e.
      let types : length (parameter_types ps) ≡ length ps = length-map ps (λ (p : Parameter). p.ty) in
      let inner : NoLocals (with_block scope) = subst (λ (b : List (Table Local)). (other : List ℕ) → local_in b other ≡ None) (sym e.blocks) h in
      let seen : Visible K (length (parameter_types ps)) (with_parameters (with_block scope) 0 ps) =
      subst (λ m. Visible K m (with_parameters (with_block scope) 0 ps)) (let z : 0 + length ps ≡ length (parameter_types ps) = omega (arith, types) in z) (all_visible 0 (with_block scope) ps u (visible 0 (with_block scope) (blocked_base scope (based_in unit.scope scope e base)) inner)) in
      ends_then unit name.text (size_of_items K) (λ (x : JudgedItems). Unit {0}) (length ps) (judged_body (with_parameters (with_block scope) 0 ps) result (parameter_types ps) body)
      (λ items. give (with_defined (with_scope unit scope) name.text (function_body items.slots items.core)))
      (subst (λ m. Takes K (size_of_items K) (λ (x : JudgedItems). Unit {0}) m (judged_body (with_parameters (with_block scope) 0 ps) result (parameter_types ps) body)) types
      (body_takes (with_parameters (with_block scope) 0 ps) result (parameter_types ps) body seen))
      (λ items q. record { ended = record { slots = items.slots; items = items.core; defined = refl; kept = e; taken = no_more } })))))

pub functions_take_slots_in_turn : FunctionsTakeSlotsInTurn
functions_take_slots_in_turn unit after_ storage ty parts name body js h named e =
    let no_local : (other : List ℕ) → local_in unit.scope.blocks other ≡ None = λ other. never other (local_in unit.scope.blocks other) refl in
    let ends = function_ends Anything unit storage ty parts name body tt (all_made ty) (any_base unit.scope) no_local named in
    let last = subst (λ c. Ended Anything unit name.text 0 c) e ends.ended in
    record { slots = last.slots; items = last.items; defined = last.defined; in_turn = in_turn last.taken }
  where
    never : (other : List ℕ) (o : Option Local) → local_in unit.scope.blocks other ≡ o → local_in unit.scope.blocks other ≡ None
    never other None e = e
    never other (Some l) e = absurd (let less : l.slot < 0 = h other l e in omega (arith, less))
