-- Where an expression is the address of an object or of a text, or the null constant, none of its identifiers names a member.
use Rattle.std.proofs.Common.{◌≡◌, ℕ, ◌+◌, ℤ, Bool, true, false, ◌&&◌, ◌||◌, List, [], ◌∷◌, ◌++◌, length, refl, sym, subst}
use Rattle.std.specs.Prelude.{Option, Some, None, pos, negsuc, codes, if◌then◌else◌}
use Rattle.std.specs.Str.{bytes_eq}
use Rattle.std.proofs.lemmas.Bool.{false≢true}
use Rattle.c_text.specs.Token.{PlainToken}
use Rattle.c_types.specs.declared.arithmetic.BinaryOp.{BinaryOp}
use Rattle.c_types.specs.declared.arithmetic.BinaryOp.TheVariants.{Sub, BitXor}
use Rattle.c_types.specs.Types.{PlainType, void, char, pointer_to, array_of}
use Rattle.c_types.specs.Integers.{is_integer}
use Rattle.c_tree.specs.declared.kinds.Kind.{Kind}
use Rattle.c_tree.specs.declared.kinds.Kind.TheVariants as k
use Rattle.c_tree.specs.declared.terminals.Terminal.{Terminal}
use Rattle.c_tree.specs.declared.terminals.Terminal.TheVariants as t
use Rattle.c_tree.specs.Terminals.{terminal}
use Rattle.c_tree.specs.Trees.{PlainTree, leaf, node, none, more}
use Rattle.core_meaning.specs.declared.expressions.Operation.TheVariants as operation
use Rattle.core_meaning.specs.declared.refusals.TypeKind.TheVariants.{BadOperand, Incomplete}
use Rattle.core_meaning.specs.Program.{PlainExpression, constant, null_constant, address, first_element, read, convert, binary, update, update_after, PlainPlace, global, literal}
use Rattle.core_meaning.specs.Checking.{Binding, Checked, fine, refused, broken, with_bindings, ◌>>=◌, give, found_or, or_broken}
use Rattle.core_meaning.specs.Entities.{Struct, Local, Sort, variable, function, FileName, Scope, local_in, entity_number}
use Rattle.core_meaning.specs.Typing.{promoted, integer_type, Designation, value, object, Operand, Typed, typed, of_value, of_object, loaded_from, loaded, is_complete, is_pointer, is_struct, is_scalar_type, same_type}
use Rattle.core_meaning.specs.Expressions as spec
use Rattle.core_meaning.specs.Expressions.{callee, judged, valued, text_bytes, first_text, first_token, arithmetic_words}
use Rattle.bound_slots.proofs.Constants.{OnlyOf, Only, weaker, Never, never, never_then, never_given, only_if}
use Rattle.bound_slots.proofs.Shapes.{PassNot, stepped_never, assignment_never, subscript_never, selected_never, called_never, called_without_never}
use Rattle.first_values.specs.Laws.{NameNoMembers}

-- ---- where what comes of a judgement passes a test, no member is named

abbrev NoneNamedIn : {A : Type 0} → (A → Bool) → Checked A → Type 0
NoneNamedIn test (fine x js) = test x ≡ true → NameNoMembers js
NoneNamedIn test (refused kind token) = Unit {0}
NoneNamedIn test broken = Unit {0}

pub record NoneNamed {A : Type 0} (test : A → Bool) (c : Checked A) : Type 0 where
  pub none_named : NoneNamedIn test c

pub both_none : (js ks : List Binding) → NameNoMembers js → NameNoMembers ks → NameNoMembers (js ++ ks)
both_none [] ks h g = g
both_none (j ∷ js) ks h g = (h.0, both_none js ks h.1 g)

pub never_named : {A : Type 0} (test : A → Bool) (c : Checked A) → Never test c → NoneNamed test c
never_named test (fine x js) h = record { none_named = λ e. absurd (h.only e).0 }
never_named test (refused kind token) h = record { none_named = tt }
never_named test broken h = record { none_named = tt }

module _ {A B : Type 0} (test : A → Bool) (goal : B → Bool) where
  none_behind : (P : Type 0) (js : List Binding) (d : Checked B) → (P → NameNoMembers js) → OnlyOf P goal d → NoneNamedIn goal (with_bindings js d)
  none_behind P js (fine y ks) h g = λ e. let q = g e in both_none js ks (h q.0) (subst NameNoMembers (sym q.1) tt)
  none_behind P js (refused kind token) h g = tt
  none_behind P js broken h g = tt

  -- one judgement, and then what names nothing more
  pub none_then : (c : Checked A) (f : A → Checked B) → NoneNamed test c → ((x : A) → Only (test x ≡ true) goal (f x)) → NoneNamed goal (c >>= f)
  none_then (fine x js) f h g = record { none_named = none_behind (test x ≡ true) js (f x) h.none_named (g x).only }
  none_then (refused kind token) f h g = record { none_named = tt }
  none_then broken f h g = record { none_named = tt }

-- ---- addresses

abbrev is_static : PlainPlace → Bool
is_static (global n) = true
is_static (literal n) = true
is_static other = false

abbrev pub is_address : PlainExpression → Bool
is_address null_constant = true
is_address (address p) = is_static p
is_address (first_element p) = is_static p
is_address other = false

abbrev designates_address : Designation → Bool
designates_address (value core) = is_address core
designates_address (object place free) = is_static place

abbrev is_address_operand : Operand → Bool
is_address_operand o = designates_address o.designates || o.is_null

abbrev pub is_address_value : Typed → Bool
is_address_value x = is_address x.core || x.is_null

address_shapes : PassNot is_address_operand
address_shapes = record {
  changed = λ sign ty c p e. refl;
  changed_after = λ sign ty c p e. refl;
  assigned = λ sign ty p e. refl;
  called = λ sign ty number arguments. refl;
  pointed = λ sign ty e. refl;
  selected = λ sign ty p number free. refl;
}

or_first : (a b : Bool) → (a || false) ≡ true → (a || b) ≡ true
or_first true b e = refl
or_first false b e = absurd (false≢true e)

only_first : (a : Bool) → (a || false) ≡ true → a ≡ true
only_first true e = refl
only_first false e = e

first_holds : (a b : Bool) → a ≡ true → (a || b) ≡ true
first_holds true b e = refl
first_holds false b e = absurd (false≢true e)

module _ (s : Scope) where
  -- ---- operators

  pointed_only : (sign : PlainToken) (ty : PlainType) (d : Designation) → Only (designates_address d ≡ true) is_address_operand (spec.pointed_at sign ty d)
  pointed_only sign ty (object place true) = record { only = λ e. (only_first (is_static place) e, refl) }
  pointed_only sign ty (object place false) = record { only = tt }
  pointed_only sign ty (value core) = record { only = tt }

  dereferenced_never : (sign : PlainToken) (x : Typed) (ty : PlainType) → Never is_address_operand (spec.dereferenced sign x ty)
  dereferenced_never sign x (pointer_to ty) = never_given is_address_operand _ refl
  dereferenced_never sign x _ = record { only = tt }

  signed_core_is : (sign : PlainToken) (ty : PlainType) (x : Typed) → is_address_operand (of_value sign ty (spec.signed_core sign.text ty x)) ≡ false
  signed_core_is sign ty x = by (bytes_eq sign.text (codes "-")) (bytes_eq sign.text (codes "~"))
    where
      by :
          (a b : Bool)
          → is_address_operand (of_value sign ty (if a then binary (operation.Numbers Sub (integer_type ty)) (constant (pos 0)) x.core
          else if b then binary (operation.Numbers BitXor (integer_type ty)) x.core (constant (negsuc 0))
          else convert (integer_type ty) x.core)) ≡ false
      by true b = refl
      by false true = refl
      by false false = refl

  prefixed_only : (sign : PlainToken) (o : Operand) → Only (is_address_operand o ≡ true) is_address_operand (spec.prefixed s sign o)
  prefixed_only sign o =
      only_if (is_address_operand o ≡ true) is_address_operand (bytes_eq sign.text (codes "&")) _ _
      (weaker (designates_address o.designates ≡ true) (is_address_operand o ≡ true) is_address_operand (spec.pointed_at sign o.ty o.designates) (λ e. first_holds (designates_address o.designates) o.is_null e) (pointed_only sign o.ty o.designates))
      (never (is_address_operand o ≡ true) is_address_operand _
      (only_if ⊥ is_address_operand (bytes_eq sign.text (codes "*")) _ _ (never_then is_address_operand (loaded s o) (λ x. spec.dereferenced sign x x.ty) (λ x. dereferenced_never sign x x.ty))
      (only_if ⊥ is_address_operand (bytes_eq sign.text (codes "!")) _ _
      (never_then is_address_operand (loaded s o) (spec.negated sign) (λ x. only_if ⊥ is_address_operand (is_scalar_type x.ty) _ _ (never_given is_address_operand _ refl) (record { only = tt })))
      (never_then is_address_operand (loaded s o) (spec.signed sign)
      (λ x. only_if ⊥ is_address_operand (is_integer x.ty) _ _ (never_given is_address_operand _ (signed_core_is sign (promoted x.ty) x)) (record { only = tt }))))))

  cast_never : (sign : PlainToken) (x : Typed) (ty : PlainType) → Never is_address_operand (spec.cast_to sign x ty)
  cast_never sign x void = never_given is_address_operand _ refl
  cast_never sign x ty = only_if ⊥ is_address_operand (is_integer x.ty) _ _ (never_given is_address_operand _ refl) (record { only = tt })

  combined_never : (sign : PlainToken) (a b : Typed) (op : BinaryOp) → Never is_address_operand (spec.combined s sign a b op)
  combined_never sign a b op = never_then is_address_operand (found_or (spec.operation_on s.structs op a b) BadOperand sign) _ (λ o. never_given is_address_operand _ refl)

  combined_by_never : (kind : Kind) (sign : PlainToken) (a b : Typed) → Never is_address_operand (spec.combined_by s kind sign a b)
  combined_by_never k.LogicalAnd sign a b = only_if ⊥ is_address_operand (is_scalar_type a.ty && is_scalar_type b.ty) _ _ (never_given is_address_operand _ refl) (record { only = tt })
  combined_by_never k.LogicalOr sign a b = only_if ⊥ is_address_operand (is_scalar_type a.ty && is_scalar_type b.ty) _ _ (never_given is_address_operand _ refl) (record { only = tt })
  combined_by_never kind sign a b = never_then is_address_operand (or_broken (spec.operator_named sign.text)) (spec.combined s sign a b) (λ op. combined_never sign a b op)

  chosen_never : (question : PlainToken) (condition : PlainExpression) (a b : Typed) → Never is_address_operand (spec.chosen question condition a b)
  chosen_never question condition a b =
      only_if ⊥ is_address_operand (is_integer a.ty && is_integer b.ty) _ _ (never_given is_address_operand _ refl)
      (only_if ⊥ is_address_operand (spec.is_void a.ty && spec.is_void b.ty) _ _ (never_given is_address_operand _ refl)
      (only_if ⊥ is_address_operand ((is_struct a.ty || is_pointer a.ty) && same_type a.ty b.ty) _ _ (never_given is_address_operand _ refl)
      (only_if ⊥ is_address_operand (is_pointer a.ty && b.is_null) _ _ (never_given is_address_operand _ refl)
      (only_if ⊥ is_address_operand (a.is_null && is_pointer b.ty) _ _ (never_given is_address_operand _ refl) (record { only = tt })))))

  -- two operands, one after the other
  two_never : (first second : Checked Operand) (f : Typed → Typed → Checked Operand) → ((a b : Typed) → Never is_address_operand (f a b))
      → Never is_address_operand (first >>= (λ left. loaded s left >>= (λ a. second >>= (λ right. loaded s right >>= (λ b. f a b)))))
  two_never first second f h =
      never_then is_address_operand first _ (λ left. never_then is_address_operand (loaded s left) _
      (λ a. never_then is_address_operand second _ (λ right. never_then is_address_operand (loaded s right) (λ b. f a b) (λ b. h a b))))

  -- ---- expressions

  abbrev Names : Checked Operand → Type 0
  Names c = NoneNamed is_address_operand c

  file_names : (token : PlainToken) (found : Option FileName) → Names (spec.file_name_operand s token found)
  file_names token None = record { none_named = tt }
  file_names token (Some found) = by found.sort
    where
      by : (sort : Sort) → Names (spec.file_operand s token sort)
      by (variable ty) = record { none_named = λ e. (tt, tt) }
      by (function signature) = record { none_named = tt }

  name_names : (token : PlainToken) (found : Option Local) → Names (spec.name_operand s token found)
  name_names token (Some found) = record { none_named = λ e. (tt, tt) }
  name_names token None = file_names token (s.file_names token.text)

  character_names : (token : PlainToken) → Names (spec.character_operand token)
  character_names token = by (spec.character_value (Rattle.c_text.specs.Constants.quoted_values token.text))
    where
      by : (o : Option ℤ) → Names (or_broken o >>= (λ z. give (of_value token Rattle.c_types.specs.Types.int (constant z))))
      by (Some z) = record { none_named = λ e. tt }
      by None = record { none_named = tt }

  single_names : (token : PlainToken) (kind : Terminal) → Names (spec.single_operand s token kind)
  single_names token t.Name = name_names token (local_in s.blocks token.text)
  single_names token t.Number = record { none_named = λ e. tt }
  single_names token t.Character = character_names token
  single_names token _ = record { none_named = tt }

  texts_name : (bytes : Option (List ℕ)) (first : Option PlainToken)
      → Names (or_broken bytes >>= (λ bytes. or_broken first >>= (λ first. give (of_object first (array_of char (length bytes + 1)) (literal (entity_number s.numbers.literals bytes)) true))))
  texts_name None first = record { none_named = tt }
  texts_name (Some bytes) None = record { none_named = tt }
  texts_name (Some bytes) (Some first) = record { none_named = λ e. tt }

  never_names : (c : Checked Operand) → Never is_address_operand c → Names c
  never_names c h = never_named is_address_operand c h

  then_never : (c : Checked Operand) (f : Operand → Checked Operand) → ((o : Operand) → Never is_address_operand (f o)) → Names (c >>= f)
  then_never c f g = never_names (c >>= f) (never_then is_address_operand c f g)

  pub names : (tree : PlainTree) → Names (judged s tree)
  names (leaf token) = single_names token (terminal token)
  names (node k.Texts parts) = texts_name (text_bytes parts) (first_text parts)
  names (node k.Parenthesized (more bracket (more inner (more close none)))) = names inner
  names (node k.PostfixStep (more inner (more (leaf sign) none))) =
      then_never (judged s inner) (spec.stepped s update_after sign) (λ o. stepped_never s is_address_operand address_shapes update_after address_shapes.changed_after sign o)
  names (node k.PrefixStep (more (leaf sign) (more inner none))) = then_never (judged s inner) (spec.stepped s update sign) (λ o. stepped_never s is_address_operand address_shapes update address_shapes.changed sign o)
  names (node k.Prefix (more (leaf sign) (more inner none))) = none_then is_address_operand is_address_operand (judged s inner) (spec.prefixed s sign) (names inner) (λ o. prefixed_only sign o)
  names (node k.Cast (more (leaf bracket) (more (node words_kind words) (more close (more inner none))))) =
      then_never (judged s inner) (λ operand. loaded s operand >>= (λ x. spec.cast_to bracket x (arithmetic_words words)))
      (λ o. never_then is_address_operand (loaded s o) (λ x. spec.cast_to bracket x (arithmetic_words words)) (λ x. cast_never bracket x (arithmetic_words words)))
  names (node k.Selection (more first (more (leaf sign) (more (leaf name) none)))) = then_never (judged s first) (spec.selected s sign name) (λ o. selected_never s is_address_operand address_shapes sign name o)
  names (node k.Index (more first (more (leaf bracket) (more second (more close none))))) = never_names _ (subscript_never s is_address_operand address_shapes bracket (judged s first) (judged s second))
  names (node k.Call (more first (more (leaf bracket) (more (node k.Arguments parts) (more close none))))) = never_names _ (called_never s is_address_operand address_shapes bracket (judged s first) parts (callee s first))
  names (node k.Call (more first (more (leaf bracket) (more (node k.Absent none) (more close none))))) = never_names _ (called_without_never s is_address_operand address_shapes bracket (judged s first) (callee s first))
  names (node k.Assignment (more first (more (leaf sign) (more second none)))) = never_names _ (assignment_never s is_address_operand address_shapes sign (judged s first) (judged s second))
  names (node k.Conditional (more first (more (leaf question) (more second (more colon (more third none)))))) =
      never_names _ (never_then is_address_operand (judged s first >>= spec.condition_value s (first_token first question)) _
      (λ condition. two_never (judged s second) (judged s third) (spec.chosen question condition) (λ a b. chosen_never question condition a b)))
  names (node kind (more first (more (leaf sign) (more second none)))) = never_names _ (two_never (judged s first) (judged s second) (spec.combined_by s kind sign) (λ a b. combined_by_never kind sign a b))
  names (node kind parts) = record { none_named = tt }

  -- ---- values

  loads_from : (structs : List Struct) (o : Operand) (ty : PlainType) (d : Designation) → Only ((designates_address d || o.is_null) ≡ true) is_address_value (loaded_from structs o ty d)
  loads_from structs o ty (value core) = record { only = λ e. (e, refl) }
  loads_from structs o (array_of element count) (object place free) = record { only = λ e. (or_first (is_static place) o.is_null e, refl) }
  loads_from structs o void (object place free) = record { only = λ e. absurd (false≢true e) }
  loads_from structs o ty (object place free) =
      never ((is_static place || o.is_null) ≡ true) is_address_value _ (only_if ⊥ is_address_value (is_complete structs ty) (give (typed ty (read place))) (refused Incomplete o.stands_at) (never_given is_address_value _ refl) (record { only = tt }))

  pub value_names : (tree : PlainTree) → NoneNamed is_address_value (valued s tree)
  value_names tree = none_then is_address_operand is_address_value (judged s tree) (loaded s) (names tree) (λ o. loads_from s.structs o o.ty o.designates)
