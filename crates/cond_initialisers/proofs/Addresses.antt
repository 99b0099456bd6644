-- What expressions of file scope designate, by their forms.
use Rattle.std.proofs.Common.{◌≡◌, ℕ, IsTrue, Bool, true, false, ◌&&◌, ◌||◌, ◌+◌, List, [], length, refl, sym, ap, subst}
use Rattle.std.specs.Prelude.{⊤, pos, negsuc, Option, Some, None, if◌then◌else◌, codes, slice_get}
use Rattle.std.specs.Str.{bytes_eq}
use Rattle.c_text.specs.Token.{PlainToken}
use Rattle.c_types.specs.declared.arithmetic.BinaryOp.TheVariants.{Sub, BitXor}
use Rattle.c_types.specs.Types.{PlainType, void, char, pointer_to, array_of, structure}
use Rattle.c_types.specs.Tags.{PlainMember}
use Rattle.c_types.specs.Integers.{is_integer}
use Rattle.c_tree.specs.declared.kinds.Kind.{Kind}
use Rattle.c_tree.specs.declared.kinds.Kind.TheVariants as k
use Rattle.c_tree.specs.declared.terminals.Terminal.{Terminal}
use Rattle.c_tree.specs.declared.terminals.Terminal.TheVariants as t
use Rattle.c_tree.specs.Terminals.{terminal, same}
use Rattle.c_tree.specs.Trees.{PlainTree, PlainTrees, leaf, node, none, more}
use Rattle.core_meaning.specs.declared.expressions.Operation.TheVariants as operation
use Rattle.core_meaning.specs.declared.expressions.Change.{Change}
use Rattle.core_meaning.specs.declared.refusals.TypeKind.TheVariants.{BadOperand, Incomplete, NoMember}
use Rattle.core_meaning.specs.Program.{PlainExpression, PlainPlace, constant, null_constant, address, first_element, convert, binary, logical_and, logical_or, choose, global, literal, target, update, update_after, no_argument}
use Rattle.core_meaning.specs.Checking.{Checked, refused, ◌>>=◌, give, unless_so, uses, found_or, or_broken, file_entity}
use Rattle.core_meaning.specs.Entities.{Struct, Sort, variable, function, FileName, Scope, local_in, Local, entity_number}
use Rattle.core_meaning.specs.Typing.{Designation, value, object, Operand, Typed, of_value, of_object, loaded, is_complete, is_pointer, is_struct, is_scalar_type, same_type, fits_into, promoted, common, integer_type}
use Rattle.core_meaning.specs.Expressions as spec
use Rattle.core_meaning.specs.Expressions.{Callee, callee, judged, judged_arguments, count_entries, first_token, text_bytes, first_text, arithmetic_words}
use Rattle.cond_initialisers.specs.declared.forms.Form.{Form}
use Rattle.cond_initialisers.specs.declared.forms.Form.TheVariants.{Name, Address, Other}
use Rattle.cond_initialisers.specs.Forms.{pointed, prefixed, form_of}
use Rattle.cond_initialisers.specs.Constants.{is_array}
use Rattle.cond_initialisers.proofs.Each.{Each, each_after, each_then, each_of_both}

-- ---- what is designated

-- an address that an object of file scope may be given first
abbrev pub is_address : PlainExpression → Bool
is_address null_constant = true
is_address (address (global n)) = true
is_address (first_element (global n)) = true
is_address (first_element (literal n)) = true
is_address other = false

abbrev pub place_form : PlainPlace → Form
place_form (global n) = Name
place_form (literal n) = Address
place_form other = Other

abbrev pub designated : Designation → Form
designated (value core) = if is_address core then Address else Other
designated (object place free) = place_form place

-- texts are arrays, and an address is a pointer
abbrev pub PlaceFits : PlainPlace → PlainType → Type 0
PlaceFits (literal n) ty = IsTrue (is_array ty)
PlaceFits place ty = ⊤

abbrev pub ValueFits : Bool → PlainType → Type 0
ValueFits true (pointer_to ty) = ⊤
ValueFits true ty = ⊥
ValueFits false ty = ⊤

abbrev pub TypeFits : Designation → PlainType → Type 0
TypeFits (value core) ty = ValueFits (is_address core) ty
TypeFits (object place free) ty = PlaceFits place ty

-- what is the null constant is a number
abbrev pub NullFits : Bool → Designation → Type 0
NullFits false d = ⊤
NullFits true (value (constant z)) = ⊤
NullFits true d = ⊥

pub record HasForm (f : Form) (x : Operand) : Type 0 where
  pub form : designated x.designates ≡ f
  pub fits : TypeFits x.designates x.ty
  pub null : NullFits x.is_null x.designates

other_value : (sign : PlainToken) (ty : PlainType) (core : PlainExpression) → is_address core ≡ false → HasForm Other (of_value sign ty core)
other_value sign ty core off = record {
  form = ap (λ b. if b then Address else Other) off;
  fits = subst (λ b. ValueFits b ty) (sym off) tt;
  null = tt;
}

abbrev IsOther : Checked Operand → Type 0
IsOther c = Each (HasForm Other) c

after : {A : Type 0} (f : A → Checked Operand) → ((x : A) → IsOther (f x)) → (c : Checked A) → IsOther (c >>= f)
after f each c = each_after (HasForm Other) f each c

of_both : (b : Bool) (c d : Checked Operand) → IsOther c → IsOther d → IsOther (if b then c else d)
of_both b c d is_c is_d = each_of_both (HasForm Other) b c d is_c is_d

-- ---- assignments (6.5.2.4, 6.5.3.1, 6.5.16)

updated_other : (scope : Scope) (make : Change → PlainPlace → PlainExpression → PlainExpression) → ((c : Change) (p : PlainPlace) (e : PlainExpression) → is_address (make c p e) ≡ false)
    → (sign : PlainToken) (left : Operand) (place : PlainPlace) (right : Typed) → IsOther (spec.updated scope make sign left place right)
updated_other scope make made sign left place right =
    after _ (λ op. after (λ c. give (of_value sign left.ty (make c place right.core)))
    (λ c. other_value sign left.ty (make c place right.core) (made c place right.core)) _) (or_broken (spec.compound_operator sign.text))

stepped_other : (scope : Scope) (make : Change → PlainPlace → PlainExpression → PlainExpression) → ((c : Change) (p : PlainPlace) (e : PlainExpression) → is_address (make c p e) ≡ false)
    → (sign : PlainToken) (x : Operand) → IsOther (spec.stepped scope make sign x)
stepped_other scope make made sign x = after (λ place. spec.updated scope make sign x place spec.one) (λ place. updated_other scope make made sign x place spec.one) (spec.written_place scope sign x)

assignment_other : (scope : Scope) (sign : PlainToken) (left : Operand) (place : PlainPlace) (right : Typed) → IsOther (spec.assignment scope sign left place right)
assignment_other scope sign left place right =
    of_both (spec.is_plain_assignment sign) _ _ (after _ (λ core. other_value sign left.ty _ refl) (found_or (fits_into left.ty right) BadOperand sign))
    (updated_other scope update (λ c p e. refl) sign left place right)

assigned_other : (scope : Scope) (sign : PlainToken) (first second : Checked Operand)
    → IsOther (first >>= (λ left. spec.written_place scope sign left >>= (λ place. second >>= (λ operand. loaded scope operand >>= (λ right. spec.assignment scope sign left place right)))))
assigned_other scope sign first second =
    after (λ left. spec.written_place scope sign left >>= (λ place. second >>= (λ operand. loaded scope operand >>= (λ right. spec.assignment scope sign left place right))))
    (λ left. after (λ place. second >>= (λ operand. loaded scope operand >>= (λ right. spec.assignment scope sign left place right)))
    (λ place. after (λ operand. loaded scope operand >>= (λ right. spec.assignment scope sign left place right))
    (λ operand. after (λ right. spec.assignment scope sign left place right) (λ right. assignment_other scope sign left place right) (loaded scope operand)) second) (spec.written_place scope sign left)) first

-- ---- subscripts and members (6.5.2.1, 6.5.2.3)

target_operand : (sign : PlainToken) (ty : PlainType) (core : PlainExpression) → HasForm Other (of_object sign ty (target core) true)
target_operand sign ty core = record { form = refl; fits = tt; null = tt }

element_other : (scope : Scope) (sign : PlainToken) (ty : PlainType) (core : PlainExpression) → IsOther (spec.element_target scope sign ty core)
element_other scope sign (pointer_to ty) core = of_both (is_complete scope.structs ty) (give (of_object sign ty (target core) true)) (refused Incomplete sign) (target_operand sign ty core) tt
element_other scope sign ty core = tt

indexed_other : (scope : Scope) (sign : PlainToken) (a b : Typed) → IsOther (spec.indexed scope sign a b)
indexed_other scope sign a b =
    of_both (is_pointer a.ty && is_integer b.ty) _ _ (element_other scope sign a.ty (binary operation.Forward a.core b.core))
    (of_both (is_integer a.ty && is_pointer b.ty) _ _ (element_other scope sign b.ty (binary operation.ForwardBy a.core b.core)) tt)

member_operand_other : (name : PlainToken) (place : PlainPlace) (free : Bool) (n : ℕ) (m : Option PlainMember) (number : ℕ) → IsOther (spec.member_operand name place free n m number)
member_operand_other name place free n None number = tt
member_operand_other name place free n (Some m) number = record { form = refl; fits = tt; null = tt }

member_in_other : (sign name : PlainToken) (place : PlainPlace) (free : Bool) (n : ℕ) (s : Option Struct) → IsOther (spec.member_in sign name place free n s)
member_in_other sign name place free n None = tt
member_in_other sign name place free n (Some s) =
    after (λ complete. found_or (s.numbers name.text) NoMember name >>= (λ number. spec.member_operand name place free n (slice_get s.members number) number))
    (λ complete. after (λ number. spec.member_operand name place free n (slice_get s.members number) number)
    (λ number. member_operand_other name place free n (slice_get s.members number) number) (found_or (s.numbers name.text) NoMember name)) (unless_so s.complete Incomplete sign)

member_other : (scope : Scope) (sign name : PlainToken) (ty : PlainType) (place : PlainPlace) (free : Bool) → IsOther (spec.member_of scope sign name ty place free)
member_other scope sign name (structure n) place free = member_in_other sign name place free n (slice_get scope.structs n)
member_other scope sign name ty place free = tt

target_other : (scope : Scope) (sign name : PlainToken) (x : Typed) (ty : PlainType) → IsOther (spec.member_of_target scope sign name x ty)
target_other scope sign name x (pointer_to ty) = member_other scope sign name ty (target x.core) true
target_other scope sign name x ty = tt

selected_other : (scope : Scope) (sign name : PlainToken) (x : Operand) → IsOther (spec.selected scope sign name x)
selected_other scope sign name x =
    of_both (bytes_eq sign.text (codes ".")) _ _ (member_other scope sign name x.ty (spec.struct_place x.ty x.designates) (spec.is_free x.designates))
    (after (λ x. spec.member_of_target scope sign name x x.ty) (λ x. target_other scope sign name x x.ty) (loaded scope x))

-- two values, one after the other, and what is made of them
two_other : (scope : Scope) (f : Typed → Typed → Checked Operand) → ((a b : Typed) → IsOther (f a b)) → (first second : Checked Operand)
    → IsOther (first >>= (λ left. loaded scope left >>= (λ a. second >>= (λ right. loaded scope right >>= (λ b. f a b)))))
two_other scope f each first second =
    after (λ left. loaded scope left >>= (λ a. second >>= (λ right. loaded scope right >>= (λ b. f a b))))
    (λ left. after (λ a. second >>= (λ right. loaded scope right >>= (λ b. f a b)))
    (λ a. after (λ right. loaded scope right >>= (λ b. f a b)) (λ right. after (λ b. f a b) (λ b. each a b) (loaded scope right)) second) (loaded scope left)) first

-- ---- calls (6.5.2.2)

no_function : (scope : Scope) (bracket : PlainToken) (first : Checked Operand) → IsOther (first >>= (λ operand. loaded scope operand >>= (λ x. refused BadOperand bracket)))
no_function scope bracket first =
    after (λ operand. loaded scope operand >>= (λ x. refused BadOperand bracket)) (λ operand. after (λ x. refused BadOperand bracket) (λ x. tt) (loaded scope operand)) first

called_other : (scope : Scope) (bracket : PlainToken) (first : Checked Operand) (parts : PlainTrees) (f : Option Callee)
    → IsOther (elim f as (λ x. Checked Operand) [
      | Some f ↦ (do
        bound ← uses (file_entity f.name.text)
        callable ← spec.may_be_called scope f.signature (count_entries parts) bracket
        arguments ← judged_arguments scope f.signature.parameters parts bracket
        give (spec.result_of_call scope f bracket arguments))
      | None ↦ (do
        operand ← first
        x ← loaded scope operand
        refused BadOperand bracket)
    ])
called_other scope bracket first parts None = no_function scope bracket first
called_other scope bracket first parts (Some f) =
    after (λ bound. spec.may_be_called scope f.signature (count_entries parts) bracket >>= (λ callable. judged_arguments scope f.signature.parameters parts bracket >>= (λ arguments. give (spec.result_of_call scope f bracket arguments))))
    (λ bound. after (λ callable. judged_arguments scope f.signature.parameters parts bracket >>= (λ arguments. give (spec.result_of_call scope f bracket arguments)))
    (λ callable. after (λ arguments. give (spec.result_of_call scope f bracket arguments)) (λ arguments. other_value bracket f.signature.result _ refl) (judged_arguments scope f.signature.parameters parts bracket))
    (spec.may_be_called scope f.signature (count_entries parts) bracket)) (uses (file_entity f.name.text))

called_without_other : (scope : Scope) (bracket : PlainToken) (first : Checked Operand) (f : Option Callee)
    → IsOther (elim f as (λ x. Checked Operand) [
      | Some f ↦ (do
        bound ← uses (file_entity f.name.text)
        callable ← spec.may_be_called scope f.signature 0 bracket
        give (spec.result_of_call scope f bracket no_argument))
      | None ↦ (do
        operand ← first
        x ← loaded scope operand
        refused BadOperand bracket)
    ])
called_without_other scope bracket first None = no_function scope bracket first
called_without_other scope bracket first (Some f) =
    after (λ bound. spec.may_be_called scope f.signature 0 bracket >>= (λ callable. give (spec.result_of_call scope f bracket no_argument)))
    (λ bound. after (λ callable. give (spec.result_of_call scope f bracket no_argument)) (λ callable. other_value bracket f.signature.result _ refl) (spec.may_be_called scope f.signature 0 bracket)) (uses (file_entity f.name.text))

-- ---- one operand (6.5.3, 6.5.4)

dereferenced_other : (sign : PlainToken) (x : Typed) (ty : PlainType) → IsOther (spec.dereferenced sign x ty)
dereferenced_other sign x (pointer_to ty) = target_operand sign ty x.core
dereferenced_other sign x ty = tt

negated_other : (sign : PlainToken) (x : Typed) → IsOther (spec.negated sign x)
negated_other sign x = of_both (is_scalar_type x.ty) _ (refused BadOperand sign) (other_value sign _ _ refl) tt

signed_core_other : (text : List ℕ) (ty : PlainType) (x : Typed) → is_address (spec.signed_core text ty x) ≡ false
signed_core_other text ty x = by_test (bytes_eq text (codes "-")) (bytes_eq text (codes "~")) where
  by_test : (a b : Bool)
      → is_address (if a then binary (operation.Numbers Sub (integer_type ty)) (constant (pos 0)) x.core
      else if b then binary (operation.Numbers BitXor (integer_type ty)) x.core (constant (negsuc 0))
      else convert (integer_type ty) x.core) ≡ false
  by_test true b = refl
  by_test false true = refl
  by_test false false = refl

signed_other : (sign : PlainToken) (x : Typed) → IsOther (spec.signed sign x)
signed_other sign x =
    of_both (is_integer x.ty) _ (refused BadOperand sign) (other_value sign (promoted x.ty) (spec.signed_core sign.text (promoted x.ty) x) (signed_core_other sign.text (promoted x.ty) x)) tt

cast_other : (sign : PlainToken) (ty : PlainType) (x : Typed) → IsOther (spec.cast_to sign x ty)
cast_other sign void x = other_value sign void _ refl
cast_other sign ty x = of_both (is_integer x.ty) _ (refused BadOperand sign) (other_value sign ty _ refl) tt

-- the address of a name
address_form : (sign : PlainToken) (ty : PlainType) (place : PlainPlace) → HasForm (pointed (place_form place)) (of_value sign (pointer_to ty) (address place))
address_form sign ty (global n) = record { form = refl; fits = tt; null = tt }
address_form sign ty place = record { form = refl; fits = tt; null = tt }

pointed_form : (sign : PlainToken) (ty : PlainType) (d : Designation) → Each (HasForm (pointed (designated d))) (spec.pointed_at sign ty d)
pointed_form sign ty (object place true) = address_form sign ty place
pointed_form sign ty (object place false) = tt
pointed_form sign ty (value core) = tt

prefixed_form : (scope : Scope) (sign : PlainToken) (f : Form) (x : Operand) → HasForm f x → Each (HasForm (prefixed sign f)) (spec.prefixed scope sign x)
prefixed_form scope sign f x is = by_test (bytes_eq sign.text (codes "&")) where
  by_test : (b : Bool)
      → Each (HasForm (if b then pointed f else Other))
      (if b then spec.pointed_at sign x.ty x.designates
      else if bytes_eq sign.text (codes "*") then loaded scope x >>= (λ v. spec.dereferenced sign v v.ty)
      else if bytes_eq sign.text (codes "!") then loaded scope x >>= spec.negated sign
      else loaded scope x >>= spec.signed sign)
  by_test true = subst (λ g. Each (HasForm (pointed g)) (spec.pointed_at sign x.ty x.designates)) is.form (pointed_form sign x.ty x.designates)
  by_test false =
      of_both (bytes_eq sign.text (codes "*")) _ _ (after (λ v. spec.dereferenced sign v v.ty) (λ v. dereferenced_other sign v v.ty) (loaded scope x))
      (of_both (bytes_eq sign.text (codes "!")) _ _ (after (spec.negated sign) (negated_other sign) (loaded scope x)) (after (spec.signed sign) (signed_other sign) (loaded scope x)))

-- ---- two operands (6.5.5 to 6.5.14)

logical_other : (make : PlainExpression → PlainExpression → PlainExpression) → ((x y : PlainExpression) → is_address (make x y) ≡ false) → (sign : PlainToken) (a b : Typed) → IsOther (spec.logical make sign a b)
logical_other make made sign a b =
    of_both (is_scalar_type a.ty && is_scalar_type b.ty) _ (refused BadOperand sign) (other_value sign _ (make a.core b.core) (made a.core b.core)) tt

combined_by_other : (scope : Scope) (kind : Kind) (sign : PlainToken) (a b : Typed) → IsOther (spec.combined_by scope kind sign a b)
combined_by_other scope k.LogicalAnd sign a b = logical_other logical_and (λ x y. refl) sign a b
combined_by_other scope k.LogicalOr sign a b = logical_other logical_or (λ x y. refl) sign a b
combined_by_other scope kind sign a b =
    after (spec.combined scope sign a b)
    (λ op. after (λ o. give (of_value sign (spec.operation_type o a.ty b.ty) (binary o (spec.operand_core o a) (spec.operand_core o b)))) (λ o. other_value sign _ _ refl)
    (found_or (spec.operation_on scope.structs op a b) BadOperand sign)) (or_broken (spec.operator_named sign.text))

-- ---- `?:` (6.5.15)

chosen_core_other : (question : PlainToken) (condition : PlainExpression) (ty : PlainType) (a b : PlainExpression) → IsOther (spec.chosen_core question condition ty a b)
chosen_core_other question condition ty a b = other_value question ty (choose condition a b) refl

chosen_other : (question : PlainToken) (condition : PlainExpression) (a b : Typed) → IsOther (spec.chosen question condition a b)
chosen_other question condition a b =
    of_both (is_integer a.ty && is_integer b.ty) _ _
    (chosen_core_other question condition (common a.ty b.ty) (spec.converted_to (common a.ty b.ty) a) (spec.converted_to (common a.ty b.ty) b))
    (of_both (spec.is_void a.ty && spec.is_void b.ty) _ _ (chosen_core_other question condition void a.core b.core)
    (of_both ((is_struct a.ty || is_pointer a.ty) && same_type a.ty b.ty) _ _ (chosen_core_other question condition a.ty a.core b.core)
    (of_both (is_pointer a.ty && b.is_null) _ _ (chosen_core_other question condition a.ty a.core null_constant)
    (of_both (a.is_null && is_pointer b.ty) _ _ (chosen_core_other question condition b.ty null_constant b.core) tt))))

conditional_other : (scope : Scope) (question : PlainToken) (first : Checked PlainExpression) (second third : Checked Operand)
    → IsOther (first >>= (λ condition. second >>= (λ left. loaded scope left >>= (λ a. third >>= (λ right. loaded scope right >>= (λ b. spec.chosen question condition a b))))))
conditional_other scope question first second third =
    after (λ condition. second >>= (λ left. loaded scope left >>= (λ a. third >>= (λ right. loaded scope right >>= (λ b. spec.chosen question condition a b)))))
    (λ condition. two_other scope (spec.chosen question condition) (chosen_other question condition) second third) first

-- ---- names, constants and texts

file_form : (scope : Scope) (token : PlainToken) (sort : Sort) → Each (HasForm Name) (spec.file_operand scope token sort)
file_form scope token (variable ty) = record { form = refl; fits = tt; null = tt }
file_form scope token (function signature) = tt

file_name_form : (scope : Scope) (token : PlainToken) (found : Option FileName) → Each (HasForm Name) (spec.file_name_operand scope token found)
file_name_form scope token None = tt
file_name_form scope token (Some found) = file_form scope token found.sort

name_form : (scope : Scope) (token : PlainToken) (found : Option Local) → found ≡ None → Each (HasForm Name) (spec.name_operand scope token found)
name_form scope token None absent = file_name_form scope token (scope.file_names token.text)
name_form scope token (Some found) absent = absurd cc

null_number : (b : Bool) (token : PlainToken) → NullFits b (spec.number_operand token).designates
null_number true token = tt
null_number false token = tt

single_form : (scope : Scope) → scope.blocks ≡ [] → (token : PlainToken) (kind : Terminal) → Each (HasForm (if same t.Name kind then Name else Other)) (spec.single_operand scope token kind)
single_form scope outside token t.Name = name_form scope token (local_in scope.blocks token.text) (ap (λ blocks. local_in blocks token.text) outside)
single_form scope outside token t.Number = record { form = refl; fits = tt; null = null_number (spec.is_zero_number token.text) token }
single_form scope outside token t.Character = after (λ z. give (of_value token _ (constant z))) (λ z. record { form = refl; fits = tt; null = tt }) (or_broken (spec.character_value _))
single_form scope outside token kind = tt

texts_form : (scope : Scope) (bytes : Option (List ℕ)) (first : Option PlainToken)
    → Each (HasForm Address) (or_broken bytes >>= (λ bytes. or_broken first >>= (λ first. give (of_object first (array_of char (length bytes + 1)) (literal (entity_number scope.numbers.literals bytes)) true))))
texts_form scope bytes first =
    each_after (HasForm Address) (λ bytes. or_broken first >>= (λ first. give (of_object first (array_of char (length bytes + 1)) (literal (entity_number scope.numbers.literals bytes)) true)))
    (λ bytes. each_after (HasForm Address) (λ first. give (of_object first (array_of char (length bytes + 1)) (literal (entity_number scope.numbers.literals bytes)) true))
    (λ first. record { form = refl; fits = refl; null = tt }) (or_broken first)) (or_broken bytes)

-- ---- expressions

module _ (scope : Scope) (outside : scope.blocks ≡ []) where
  -- what an expression designates has its form
  pub designates_by_form : (tree : PlainTree) → Each (HasForm (form_of tree)) (judged scope tree)
  designates_by_form (leaf token) = single_form scope outside token (terminal token)
  designates_by_form (node k.Texts parts) = texts_form scope (text_bytes parts) (first_text parts)
  designates_by_form (node k.Parenthesized (more bracket (more inner (more close none)))) = designates_by_form inner
  designates_by_form (node k.PostfixStep (more inner (more (leaf sign) none))) = after (spec.stepped scope update_after sign) (stepped_other scope update_after (λ c p e. refl) sign) (judged scope inner)
  designates_by_form (node k.PrefixStep (more (leaf sign) (more inner none))) = after (spec.stepped scope update sign) (stepped_other scope update (λ c p e. refl) sign) (judged scope inner)
  designates_by_form (node k.Prefix (more (leaf sign) (more inner none))) =
      each_then (HasForm (form_of inner)) (HasForm (prefixed sign (form_of inner))) (spec.prefixed scope sign) (prefixed_form scope sign (form_of inner)) (judged scope inner) (designates_by_form inner)
  designates_by_form (node k.Cast (more (leaf bracket) (more (node words_kind words) (more close (more inner none))))) =
      after (λ operand. loaded scope operand >>= (λ x. spec.cast_to bracket x (arithmetic_words words)))
      (λ operand. after (λ x. spec.cast_to bracket x (arithmetic_words words)) (cast_other bracket (arithmetic_words words)) (loaded scope operand)) (judged scope inner)
  designates_by_form (node k.Selection (more first (more (leaf sign) (more (leaf name) none)))) = after (spec.selected scope sign name) (selected_other scope sign name) (judged scope first)
  designates_by_form (node k.Index (more first (more (leaf bracket) (more second (more close none))))) = two_other scope (spec.indexed scope bracket) (indexed_other scope bracket) (judged scope first) (judged scope second)
  designates_by_form (node k.Call (more first (more (leaf bracket) (more (node k.Arguments parts) (more close none))))) = called_other scope bracket (judged scope first) parts (callee scope first)
  designates_by_form (node k.Call (more first (more (leaf bracket) (more (node k.Absent none) (more close none))))) = called_without_other scope bracket (judged scope first) (callee scope first)
  designates_by_form (node k.Assignment (more first (more (leaf sign) (more second none)))) = assigned_other scope sign (judged scope first) (judged scope second)
  designates_by_form (node k.Conditional (more first (more (leaf question) (more second (more colon (more third none)))))) =
      conditional_other scope question (judged scope first >>= spec.condition_value scope (first_token first question)) (judged scope second) (judged scope third)
  designates_by_form (node kind (more first (more (leaf sign) (more second none)))) = two_other scope (spec.combined_by scope kind sign) (combined_by_other scope kind sign) (judged scope first) (judged scope second)
  designates_by_form (node kind parts) = tt
