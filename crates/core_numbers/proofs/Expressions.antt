-- An expression binds the same and has the same type, whatever numbers names have.
use Rattle.std.proofs.Common.{◌≡◌, ℕ, ◌+◌, Bool, true, false, List, [], ◌∷◌, refl, subst, length}
use Rattle.std.specs.Prelude.{Option, Some, None, slice_get, codes, ◌&&◌, ◌||◌}
use Rattle.std.specs.Str.{bytes_eq}
use Rattle.c_text.specs.Token.{PlainToken}
use Rattle.c_types.specs.declared.arithmetic.BinaryOp.{BinaryOp}
use Rattle.c_types.specs.declared.arithmetic.BinaryOp.TheVariants.{Add, Sub}
use Rattle.c_types.specs.Types.{PlainType, void, char, pointer_to, array_of, structure}
use Rattle.c_types.specs.Integers.{is_integer}
use Rattle.c_types.specs.Tags.{PlainMember}
use Rattle.c_tree.specs.declared.kinds.Kind.{Kind}
use Rattle.c_tree.specs.declared.kinds.Kind.TheVariants as k
use Rattle.c_tree.specs.declared.terminals.Terminal.{Terminal}
use Rattle.c_tree.specs.declared.terminals.Terminal.TheVariants as t
use Rattle.c_tree.specs.Terminals.{terminal}
use Rattle.c_tree.specs.Trees.{PlainTree, PlainTrees, leaf, node, none, more}
use Rattle.core_meaning.specs.declared.refusals.TypeKind.TheVariants.{BadOperand, Incomplete, NoMember}
use Rattle.core_meaning.specs.declared.expressions.Change.{Change}
use Rattle.core_meaning.specs.Program.{PlainExpression, binary, PlainPlace, global, member, PlainArguments, no_argument, update, update_after, target}
use Rattle.core_meaning.specs.Checking.{file_entity, member_entity, Checked, fine, refused, broken, ◌>>=◌, give, uses, found_or, or_broken}
use Rattle.core_meaning.specs.Entities.{Numbers, Struct, Local, Sort, variable, function, FileName, Scope, local_in, entity_number}
use Rattle.core_meaning.specs.Typing.{promoted, common, of_value, of_object, is_complete, is_struct, is_pointer, is_scalar_type, same_type, Designation, value, object, Operand, Typed, loaded, loaded_from, fits_into}
use Rattle.core_meaning.specs.Expressions.{judged, operation_type, operand_core, may_be_assigned, judged_arguments, single_operand, name_operand, file_name_operand, file_operand, character_operand, text_bytes, first_text, first_token, compound_operator, operator_named, operation_on, change_by, place_in, written_place, is_plain_assignment, left_value, updated, one, stepped, assignment, pointed_at, dereferenced, signed, negated, prefixed, cast_to, arithmetic_words, element_target, indexed, selected, member_of, member_in, member_operand, member_of_target, struct_place, is_free, chosen, is_void, Callee, callee, callee_unless_local, count_entries, may_be_called, result_of_call, passed, condition_value, combined, combined_by, valued, judged_condition}
use Rattle.entity_kinds.proofs.Pairs.{NeverFine, never_then}
use Rattle.core_numbers.proofs.Twice.{Sides, Same, Anything, right_refused, left_refused, left_broken, same_give, itself, any_then, first_then, same_as, same_if, unless_then, found_then, SameDesignation, SameOperand, SameTyped, operand_itself, operand_then, value_then, gives_value, gives_object, gives_typed}

-- ---- operators

sides_never : {A : Type 0} (V : A → A → Type 0) (c d : Checked A) → NeverFine c → Sides V c d
sides_never V (fine x js) d h = absurd h
sides_never V (refused kind token) d h = tt
sides_never V broken d h = tt

pub left_never : {A : Type 0} (V : A → A → Type 0) (c d : Checked A) → NeverFine c → Same V c d
left_never V c d h = record { holds = sides_never V c d h }

operation_same : (structs : List Struct) (op : BinaryOp) (a b : Typed) (c d : PlainExpression) → operation_on structs op a b ≡ operation_on structs op (record a { core = c }) (record b { core = d })
operation_same structs Add a b c d = refl
operation_same structs Sub a b c d = refl
operation_same structs _ a b c d = refl

free_same : (d e : Designation) → SameDesignation d e → is_free d ≡ is_free e
free_same (value a) (value b) h = refl
free_same (object p free) (object q shut) h = h
free_same (value a) (object q shut) h = absurd h
free_same (object p free) (value b) h = absurd h

module _ (n : Numbers) (s : Scope) where
  -- what is visible, with other numbers
  abbrev pub renumbered : Scope
  renumbered = record s { numbers = n }

  loads_from : (o : Operand) (ty : PlainType) (d e f : Designation) → SameDesignation d e → Same SameTyped (loaded_from s.structs o ty d) (loaded_from s.structs (record o { designates = f }) ty e)
  loads_from o ty (value a) (value b) f h = gives_typed _ b
  loads_from o (array_of element count) (object p free) (object q shut) f h = gives_typed _ _
  loads_from o void (object p free) (object q shut) f h = gives_typed _ _
  loads_from o ty (object p free) (object q shut) f h = same_if SameTyped (is_complete s.structs ty) _ _ _ _ (gives_typed _ _) (left_refused SameTyped Incomplete o.stands_at (refused Incomplete o.stands_at))
  loads_from o ty (value a) (object q shut) f h = absurd h
  loads_from o ty (object p free) (value b) f h = absurd h

  loads : (o : Operand) (e : Designation) → SameDesignation o.designates e → Same SameTyped (loaded s o) (loaded renumbered (record o { designates = e }))
  loads o e h = loads_from o o.ty o.designates e e h

  load_then :
      {B : Type 0} (W : B → B → Type 0) (o : Operand) (e : Designation) (f g : Typed → Checked B) → SameDesignation o.designates e → ((x : Typed) (core : PlainExpression) → Same W (f x) (g (record x { core = core })))
      → Same W (loaded s o >>= f) (loaded renumbered (record o { designates = e }) >>= g)
  load_then W o e f g h next = value_then W (loaded s o) (loaded renumbered (record o { designates = e })) f g (loads o e h) next

  places_same : (o : Operand) (sign : PlainToken) (d e f : Designation) → SameDesignation d e → Same {A = PlainPlace} Anything (place_in o sign d) (place_in (record o { designates = f }) sign e)
  places_same o sign (object p true) (object q true) f h = same_if Anything (may_be_assigned o.ty) _ _ _ _ (same_give Anything p q tt) (left_refused Anything _ _ _)
  places_same o sign (object p false) e f h = left_refused Anything _ _ _
  places_same o sign (value a) e f h = left_refused Anything _ _ _
  places_same o sign (object p true) (object q false) f h = right_refused Anything _ _ _
  places_same o sign (object p true) (value b) f h = right_refused Anything _ _ _

  written_same : (sign : PlainToken) (o : Operand) (e : Designation) → SameDesignation o.designates e → Same {A = PlainPlace} Anything (written_place s sign o) (written_place renumbered sign (record o { designates = e }))
  written_same sign o e h =
      any_then Anything (place_in o sign o.designates) (place_in (record o { designates = e }) sign e) _ _ (places_same o sign o.designates e e h)
      (λ p q. unless_then Anything (is_plain_assignment sign || is_complete s.structs o.ty) (is_plain_assignment sign || is_complete s.structs o.ty) Incomplete Incomplete o.stands_at o.stands_at _ _ (λ x. same_give Anything p q tt))

  updated_same :
      (make : Change → PlainPlace → PlainExpression → PlainExpression) (sign : PlainToken) (left : Operand) (e : Designation) (p q : PlainPlace) (x : Typed) (core : PlainExpression)
      → Same SameOperand (updated s make sign left p x) (updated renumbered make sign (record left { designates = e }) q (record x { core = core }))
  updated_same make sign left e p q x core =
      first_then SameOperand (or_broken (compound_operator sign.text)) _ _
      (λ op. found_then SameOperand (change_by left.ty (operation_on s.structs op (left_value left p) x)) (change_by left.ty (operation_on s.structs op (left_value (record left { designates = e }) q) (record x { core = core }))) BadOperand BadOperand sign sign _ _
      (λ c d. gives_value sign left.ty _ _))

  stepped_same :
      (make : Change → PlainPlace → PlainExpression → PlainExpression) (sign : PlainToken) (o : Operand) (e : Designation) → SameDesignation o.designates e
      → Same SameOperand (stepped s make sign o) (stepped renumbered make sign (record o { designates = e }))
  stepped_same make sign o e h =
      any_then SameOperand (written_place s sign o) (written_place renumbered sign (record o { designates = e })) _ _ (written_same sign o e h) (λ p q. updated_same make sign o e p q one one.core)

  assignment_same :
      (sign : PlainToken) (left : Operand) (e : Designation) (p q : PlainPlace) (x : Typed) (core : PlainExpression)
      → Same SameOperand (assignment s sign left p x) (assignment renumbered sign (record left { designates = e }) q (record x { core = core }))
  assignment_same sign left e p q x core =
      same_if SameOperand (is_plain_assignment sign) _ _ _ _
      (found_then SameOperand (fits_into left.ty x) (fits_into left.ty (record x { core = core })) BadOperand BadOperand sign sign _ _ (λ c d. gives_value sign left.ty _ _))
      (updated_same update sign left e p q x core)

  pointed_same : (sign : PlainToken) (ty : PlainType) (d e : Designation) → SameDesignation d e → Same SameOperand (pointed_at sign ty d) (pointed_at sign ty e)
  pointed_same sign ty (object p true) (object q true) h = gives_value sign (pointer_to ty) _ _
  pointed_same sign ty (object p false) e h = left_refused SameOperand _ _ _
  pointed_same sign ty (value a) e h = left_refused SameOperand _ _ _
  pointed_same sign ty (object p true) (object q false) h = right_refused SameOperand _ _ _
  pointed_same sign ty (object p true) (value b) h = right_refused SameOperand _ _ _

  dereferenced_same : (sign : PlainToken) (x : Typed) (core : PlainExpression) (ty : PlainType) → Same SameOperand (dereferenced sign x ty) (dereferenced sign (record x { core = core }) ty)
  dereferenced_same sign x core (pointer_to ty) = gives_object sign ty _ _ true
  dereferenced_same sign x core _ = left_refused SameOperand _ _ _

  prefixed_same : (sign : PlainToken) (o : Operand) (e : Designation) → SameDesignation o.designates e → Same SameOperand (prefixed s sign o) (prefixed renumbered sign (record o { designates = e }))
  prefixed_same sign o e h =
      same_if SameOperand (bytes_eq sign.text (codes "&")) _ _ _ _ (pointed_same sign o.ty o.designates e h)
      (same_if SameOperand (bytes_eq sign.text (codes "*")) _ _ _ _ (load_then SameOperand o e (λ x. dereferenced sign x x.ty) (λ x. dereferenced sign x x.ty) h (λ x core. dereferenced_same sign x core x.ty))
      (same_if SameOperand (bytes_eq sign.text (codes "!")) _ _ _ _
      (load_then SameOperand o e (negated sign) (negated sign) h (λ x core. same_if SameOperand (is_scalar_type x.ty) _ _ _ _ (gives_value sign _ _ _) (left_refused SameOperand _ _ _)))
      (load_then SameOperand o e (signed sign) (signed sign) h (λ x core. same_if SameOperand (is_integer x.ty) _ _ _ _ (gives_value sign (promoted x.ty) _ _) (left_refused SameOperand _ _ _)))))

  cast_same : (sign : PlainToken) (x : Typed) (core : PlainExpression) (ty : PlainType) → Same SameOperand (cast_to sign x ty) (cast_to sign (record x { core = core }) ty)
  cast_same sign x core void = gives_value sign void _ _
  cast_same sign x core ty = same_if SameOperand (is_integer x.ty) _ _ _ _ (gives_value sign ty _ _) (left_refused SameOperand _ _ _)

  element_same : (sign : PlainToken) (ty : PlainType) (a b : PlainExpression) → Same SameOperand (element_target s sign ty a) (element_target renumbered sign ty b)
  element_same sign (pointer_to ty) a b = same_if SameOperand (is_complete s.structs ty) _ _ _ _ (gives_object sign ty _ _ true) (left_refused SameOperand _ _ _)
  element_same sign _ a b = left_refused SameOperand _ _ _

  indexed_same : (sign : PlainToken) (a b : Typed) (c d : PlainExpression) → Same SameOperand (indexed s sign a b) (indexed renumbered sign (record a { core = c }) (record b { core = d }))
  indexed_same sign a b c d =
      same_if SameOperand (is_pointer a.ty && is_integer b.ty) _ _ _ _ (element_same sign a.ty _ _)
      (same_if SameOperand (is_integer a.ty && is_pointer b.ty) _ _ _ _ (element_same sign b.ty _ _) (left_refused SameOperand _ _ _))

  chosen_same : (sign : PlainToken) (x y : PlainExpression) (a b : Typed) (c d : PlainExpression) → Same SameOperand (chosen sign x a b) (chosen sign y (record a { core = c }) (record b { core = d }))
  chosen_same sign x y a b c d =
      same_if SameOperand (is_integer a.ty && is_integer b.ty) _ _ _ _ (gives_value sign (common a.ty b.ty) _ _)
      (same_if SameOperand (is_void a.ty && is_void b.ty) _ _ _ _ (gives_value sign void _ _)
      (same_if SameOperand ((is_struct a.ty || is_pointer a.ty) && same_type a.ty b.ty) _ _ _ _ (gives_value sign a.ty _ _)
      (same_if SameOperand (is_pointer a.ty && b.is_null) _ _ _ _ (gives_value sign a.ty _ _)
      (same_if SameOperand (a.is_null && is_pointer b.ty) _ _ _ _ (gives_value sign b.ty _ _) (left_refused SameOperand _ _ _)))))

  combined_same : (sign : PlainToken) (a b : Typed) (c d : PlainExpression) (op : BinaryOp) → Same SameOperand (combined s sign a b op) (combined renumbered sign (record a { core = c }) (record b { core = d }) op)
  combined_same sign a b c d op =
      subst (λ o. Same SameOperand (combined s sign a b op) (found_or o BadOperand sign
      >>= (λ o. give (of_value sign (operation_type o a.ty b.ty) (binary o (operand_core o (record a { core = c })) (operand_core o (record b { core = d }))))))) (operation_same s.structs op a b c d)
      (first_then SameOperand (found_or (operation_on s.structs op a b) BadOperand sign) _ _ (λ o. gives_value sign (operation_type o a.ty b.ty) _ _))

  named_same : (sign : PlainToken) (a b : Typed) (c d : PlainExpression) → Same SameOperand (or_broken (operator_named sign.text) >>= combined s sign a b) (or_broken (operator_named sign.text) >>= combined renumbered sign (record a { core = c }) (record b { core = d }))
  named_same sign a b c d = first_then SameOperand (or_broken (operator_named sign.text)) _ _ (λ op. combined_same sign a b c d op)

  combined_by_same : (kind : Kind) (sign : PlainToken) (a b : Typed) (c d : PlainExpression) → Same SameOperand (combined_by s kind sign a b) (combined_by renumbered kind sign (record a { core = c }) (record b { core = d }))
  combined_by_same k.LogicalAnd sign a b c d = same_if SameOperand (is_scalar_type a.ty && is_scalar_type b.ty) _ _ _ _ (gives_value sign _ _ _) (left_refused SameOperand _ _ _)
  combined_by_same k.LogicalOr sign a b c d = same_if SameOperand (is_scalar_type a.ty && is_scalar_type b.ty) _ _ _ _ (gives_value sign _ _ _) (left_refused SameOperand _ _ _)
  combined_by_same _ sign a b c d = named_same sign a b c d

  passed_same : (ty : PlainType) (o : Operand) (e : Designation) (first : PlainToken) → SameDesignation o.designates e → Same {A = PlainExpression} Anything (passed s ty o first) (passed renumbered ty (record o { designates = e }) first)
  passed_same ty o e first h =
      load_then Anything o e _ _ h
      (λ x core. same_as Anything Anything _ _ (found_gives (fits_into ty x) (fits_into ty (record x { core = core })) first) (λ c d v. tt))
    where
      found_gives : (a b : Option PlainExpression) (at : PlainToken) → Same Anything (found_or a BadOperand at) (found_or b BadOperand at)
      found_gives (Some a) (Some b) at = same_give Anything a b tt
      found_gives (Some a) None at = right_refused Anything _ _ _
      found_gives None b at = left_refused Anything _ _ _

  condition_same : (first : PlainToken) (o : Operand) (e : Designation) → SameDesignation o.designates e → Same {A = PlainExpression} Anything (condition_value s first o) (condition_value renumbered first (record o { designates = e }))
  condition_same first o e h = load_then Anything o e _ _ h (λ x core. same_if Anything (is_scalar_type x.ty) _ _ _ _ (same_give Anything x.core core tt) (left_refused Anything _ _ _))

  -- ---- names and members

  sort_same : (a : PlainToken) (x : Sort) → Same SameOperand (file_operand s a x) (file_operand renumbered a x)
  sort_same a (variable ty) = first_then SameOperand (uses (file_entity a.text)) (λ bound. give (of_object a ty (global (entity_number s.numbers.globals a.text)) true)) (λ bound. give (of_object a ty (global (entity_number n.globals a.text)) true)) (λ x. gives_object a ty _ _ true)
  sort_same a (function f) = left_refused SameOperand _ _ _

  file_same : (a : PlainToken) (x : Option FileName) → Same SameOperand (file_name_operand s a x) (file_name_operand renumbered a x)
  file_same a (Some x) = sort_same a x.sort
  file_same a None = left_refused SameOperand _ _ _

  name_same : (a : PlainToken) (x : Option Local) → Same SameOperand (name_operand s a x) (name_operand renumbered a x)
  name_same a (Some x) = itself SameOperand _ operand_itself
  name_same a None = file_same a (s.file_names a.text)

  single_same : (a : PlainToken) (x : Terminal) → Same SameOperand (single_operand s a x) (single_operand renumbered a x)
  single_same a t.Name = name_same a (local_in s.blocks a.text)
  single_same a t.Number = itself SameOperand _ operand_itself
  single_same a t.Character = itself SameOperand (character_operand a) operand_itself
  single_same a _ = left_broken SameOperand _

  member_same : (a : PlainToken) (p q : PlainPlace) (free : Bool) (m : ℕ) (x : Option PlainMember) (i : ℕ) → Same SameOperand (member_operand a p free m x i) (member_operand a q free m x i)
  member_same a p q free m (Some x) i = first_then SameOperand (uses (member_entity m i)) (λ bound. give (of_object a x.ty (member p i) free)) (λ bound. give (of_object a x.ty (member q i) free)) (λ y. gives_object a x.ty _ _ free)
  member_same a p q free m None i = left_broken SameOperand _

  struct_same : (sign a : PlainToken) (p q : PlainPlace) (free : Bool) (m : ℕ) (x : Option Struct) → Same SameOperand (member_in sign a p free m x) (member_in sign a q free m x)
  struct_same sign a p q free m (Some x) =
      unless_then SameOperand x.complete x.complete Incomplete Incomplete sign sign _ _
      (λ x1. first_then SameOperand (found_or (x.numbers a.text) NoMember a) _ _ (λ i. member_same a p q free m (slice_get x.members i) i))
  struct_same sign a p q free m None = left_broken SameOperand _

  type_same : (sign a : PlainToken) (ty : PlainType) (p q : PlainPlace) (free : Bool) → Same SameOperand (member_of s sign a ty p free) (member_of renumbered sign a ty q free)
  type_same sign a (structure m) p q free = struct_same sign a p q free m (slice_get s.structs m)
  type_same sign a _ p q free = left_refused SameOperand _ _ _

  target_same : (sign a : PlainToken) (x : Typed) (core : PlainExpression) (ty : PlainType) → Same SameOperand (member_of_target s sign a x ty) (member_of_target renumbered sign a (record x { core = core }) ty)
  target_same sign a x core (pointer_to ty) = type_same sign a ty (target x.core) (target core) true
  target_same sign a x core _ = left_refused SameOperand _ _ _

  selected_same : (sign a : PlainToken) (o : Operand) (e : Designation) → SameDesignation o.designates e → Same SameOperand (selected s sign a o) (selected renumbered sign a (record o { designates = e }))
  selected_same sign a o e h =
      same_if SameOperand (bytes_eq sign.text (codes ".")) _ _ _ _
      (subst (λ free. Same SameOperand (member_of s sign a o.ty (struct_place o.ty o.designates) (is_free o.designates)) (member_of renumbered sign a o.ty (struct_place o.ty e) free)) (free_same o.designates e h)
      (type_same sign a o.ty (struct_place o.ty o.designates) (struct_place o.ty e) (is_free o.designates)))
      (load_then SameOperand o e (λ x. member_of_target s sign a x x.ty) (λ x. member_of_target renumbered sign a x x.ty) h (λ x core. target_same sign a x core x.ty))

  -- ---- calls

  callee_same : (tree : PlainTree) → callee s tree ≡ callee renumbered tree
  callee_same (leaf token) = by (local_in s.blocks token.text)
    where
      by : (o : Option Local) → callee_unless_local s token o ≡ callee_unless_local renumbered token o
      by (Some l) = refl
      by None = refl
  callee_same (node k.Parenthesized (more bracket (more inner (more close none)))) = callee_same inner
  callee_same _ = refl

  no_call : (c : Checked Operand) (bracket : PlainToken) → NeverFine {A = Operand} (c >>= (λ operand. loaded s operand >>= (λ x. refused BadOperand bracket)))
  no_call c bracket = never_then c _ (λ o. never_then (loaded s o) _ (λ x. tt))

  no_call_same :
      (c d : Checked Operand) (bracket : PlainToken)
      → Same SameOperand (c >>= (λ operand. loaded s operand >>= (λ x. refused BadOperand bracket))) (d >>= (λ operand. loaded renumbered operand >>= (λ x. refused BadOperand bracket)))
  no_call_same c d bracket = left_never SameOperand _ _ (no_call c bracket)

  call_same :
      (c d : Checked Operand) (bracket : PlainToken) (count : ℕ) (first second : Callee → Checked PlainArguments) (o : Option Callee) → ((f : Callee) → Same Anything (first f) (second f))
      → Same SameOperand (elim o as (λ x. Checked Operand) [
        | Some f ↦ uses (file_entity f.name.text) >>= (λ bound. may_be_called s f.signature count bracket >>= (λ callable. first f >>= (λ arguments. give (result_of_call s f bracket arguments))))
        | None ↦ c >>= (λ operand. loaded s operand >>= (λ x. refused BadOperand bracket))
      ]) (elim o as (λ x. Checked Operand) [
        | Some f ↦ uses (file_entity f.name.text) >>= (λ bound. may_be_called renumbered f.signature count bracket >>= (λ callable. second f >>= (λ arguments. give (result_of_call renumbered f bracket arguments))))
        | None ↦ d >>= (λ operand. loaded renumbered operand >>= (λ x. refused BadOperand bracket))
      ])
  call_same c d bracket count first second (Some f) h =
      first_then SameOperand (uses (file_entity f.name.text))
      (λ bound. may_be_called s f.signature count bracket >>= (λ callable. first f >>= (λ arguments. give (result_of_call s f bracket arguments))))
      (λ bound. may_be_called renumbered f.signature count bracket >>= (λ callable. second f >>= (λ arguments. give (result_of_call renumbered f bracket arguments))))
      (λ x. first_then SameOperand (may_be_called s f.signature count bracket) _ _ (λ y. any_then SameOperand (first f) (second f) _ _ (h f) (λ v w. gives_value bracket f.signature.result _ _)))
  call_same c d bracket count first second None h = no_call_same c d bracket

  empty_same :
      (c d : Checked Operand) (bracket : PlainToken) (o : Option Callee)
      → Same SameOperand (elim o as (λ x. Checked Operand) [
        | Some f ↦ uses (file_entity f.name.text) >>= (λ bound. may_be_called s f.signature 0 bracket >>= (λ callable. give (result_of_call s f bracket no_argument)))
        | None ↦ c >>= (λ operand. loaded s operand >>= (λ x. refused BadOperand bracket))
      ]) (elim o as (λ x. Checked Operand) [
        | Some f ↦ uses (file_entity f.name.text) >>= (λ bound. may_be_called renumbered f.signature 0 bracket >>= (λ callable. give (result_of_call renumbered f bracket no_argument)))
        | None ↦ d >>= (λ operand. loaded renumbered operand >>= (λ x. refused BadOperand bracket))
      ])
  empty_same c d bracket (Some f) =
      first_then SameOperand (uses (file_entity f.name.text))
      (λ bound. may_be_called s f.signature 0 bracket >>= (λ callable. give (result_of_call s f bracket no_argument)))
      (λ bound. may_be_called renumbered f.signature 0 bracket >>= (λ callable. give (result_of_call renumbered f bracket no_argument)))
      (λ x. first_then SameOperand (may_be_called s f.signature 0 bracket) _ _ (λ y. gives_value bracket f.signature.result _ _))
  empty_same c d bracket None = no_call_same c d bracket

  -- ---- expressions

  value_of :
      {B : Type 0} (W : B → B → Type 0) (c d : Checked Operand) (f g : Typed → Checked B) → Same SameOperand c d → ((x : Typed) (core : PlainExpression) → Same W (f x) (g (record x { core = core })))
      → Same W (c >>= (λ o. loaded s o >>= f)) (d >>= (λ o. loaded renumbered o >>= g))
  value_of W c d f g h next = operand_then W c d (λ o. loaded s o >>= f) (λ o. loaded renumbered o >>= g) h (λ o e v. load_then W o e f g v next)

  two_same :
      (c d a b : Checked Operand) (f g : Typed → Typed → Checked Operand) → Same SameOperand c d → Same SameOperand a b
      → ((x y : Typed) (v w : PlainExpression) → Same SameOperand (f x y) (g (record x { core = v }) (record y { core = w })))
      → Same SameOperand (c >>= (λ left. loaded s left >>= (λ x. a >>= (λ right. loaded s right >>= (λ y. f x y))))) (d >>= (λ left. loaded renumbered left >>= (λ x. b >>= (λ right. loaded renumbered right >>= (λ y. g x y)))))
  two_same c d a b f g h i next =
      value_of SameOperand c d (λ x. a >>= (λ right. loaded s right >>= (λ y. f x y))) (λ x. b >>= (λ right. loaded renumbered right >>= (λ y. g x y))) h
      (λ x v. value_of SameOperand a b (f x) (g (record x { core = v })) i (λ y w. next x y v w))

  conditions_same : (c d : Checked Operand) (first : PlainToken) → Same SameOperand c d → Same Anything (c >>= condition_value s first) (d >>= condition_value renumbered first)
  conditions_same c d first h = operand_then Anything c d (condition_value s first) (condition_value renumbered first) h (λ o e v. condition_same first o e v)

  mutual
    pub judged_same : (tree : PlainTree) → Same SameOperand (judged s tree) (judged renumbered tree)
    judged_same (leaf token) = single_same token (terminal token)
    judged_same (node k.Texts parts) =
        first_then SameOperand (or_broken (text_bytes parts)) _ _ (λ bytes. first_then SameOperand (or_broken (first_text parts)) _ _ (λ first. gives_object first (array_of char (length bytes + 1)) _ _ true))
    judged_same (node k.Parenthesized (more bracket (more inner (more close none)))) = judged_same inner
    judged_same (node k.PostfixStep (more inner (more (leaf sign) none))) =
        operand_then SameOperand (judged s inner) (judged renumbered inner) (stepped s update_after sign) (stepped renumbered update_after sign) (judged_same inner) (λ o e v. stepped_same update_after sign o e v)
    judged_same (node k.PrefixStep (more (leaf sign) (more inner none))) =
        operand_then SameOperand (judged s inner) (judged renumbered inner) (stepped s update sign) (stepped renumbered update sign) (judged_same inner) (λ o e v. stepped_same update sign o e v)
    judged_same (node k.Prefix (more (leaf sign) (more inner none))) =
        operand_then SameOperand (judged s inner) (judged renumbered inner) (prefixed s sign) (prefixed renumbered sign) (judged_same inner) (λ o e v. prefixed_same sign o e v)
    judged_same (node k.Cast (more (leaf bracket) (more (node words_kind words) (more close (more inner none))))) =
        value_of SameOperand (judged s inner) (judged renumbered inner) (λ x. cast_to bracket x (arithmetic_words words)) (λ x. cast_to bracket x (arithmetic_words words)) (judged_same inner) (λ x core. cast_same bracket x core (arithmetic_words words))
    judged_same (node k.Selection (more first (more (leaf sign) (more (leaf name) none)))) =
        operand_then SameOperand (judged s first) (judged renumbered first) (selected s sign name) (selected renumbered sign name) (judged_same first) (λ o e v. selected_same sign name o e v)
    judged_same (node k.Index (more first (more (leaf bracket) (more second (more close none))))) =
        two_same (judged s first) (judged renumbered first) (judged s second) (judged renumbered second) (indexed s bracket) (indexed renumbered bracket) (judged_same first) (judged_same second) (λ x y v w. indexed_same bracket x y v w)
    judged_same (node k.Call (more first (more (leaf bracket) (more (node k.Arguments parts) (more close none))))) =
        subst (λ o. Same SameOperand (judged s (node k.Call (more first (more (leaf bracket) (more (node k.Arguments parts) (more close none))))))
        (elim o as (λ x. Checked Operand) [
          | Some f ↦ uses (file_entity f.name.text) >>= (λ bound. may_be_called renumbered f.signature (count_entries parts) bracket >>= (λ callable. judged_arguments renumbered f.signature.parameters parts bracket >>= (λ arguments. give (result_of_call renumbered f bracket arguments))))
          | None ↦ judged renumbered first >>= (λ operand. loaded renumbered operand >>= (λ x. refused BadOperand bracket))
        ])) (callee_same first)
        (call_same (judged s first) (judged renumbered first) bracket (count_entries parts) (λ f. judged_arguments s f.signature.parameters parts bracket) (λ f. judged_arguments renumbered f.signature.parameters parts bracket) (callee s first)
        (λ f. arguments_same f.signature.parameters parts bracket))
    judged_same (node k.Call (more first (more (leaf bracket) (more (node k.Absent none) (more close none))))) =
        subst (λ o. Same SameOperand (judged s (node k.Call (more first (more (leaf bracket) (more (node k.Absent none) (more close none))))))
        (elim o as (λ x. Checked Operand) [
          | Some f ↦ uses (file_entity f.name.text) >>= (λ bound. may_be_called renumbered f.signature 0 bracket >>= (λ callable. give (result_of_call renumbered f bracket no_argument)))
          | None ↦ judged renumbered first >>= (λ operand. loaded renumbered operand >>= (λ x. refused BadOperand bracket))
        ])) (callee_same first) (empty_same (judged s first) (judged renumbered first) bracket (callee s first))
    judged_same (node k.Assignment (more first (more (leaf sign) (more second none)))) =
        operand_then SameOperand (judged s first) (judged renumbered first)
        (λ left. written_place s sign left >>= (λ place. judged s second >>= (λ operand. loaded s operand >>= (λ right. assignment s sign left place right))))
        (λ left. written_place renumbered sign left >>= (λ place. judged renumbered second >>= (λ operand. loaded renumbered operand >>= (λ right. assignment renumbered sign left place right)))) (judged_same first)
        (λ o e v. any_then SameOperand (written_place s sign o) (written_place renumbered sign (record o { designates = e })) _ _ (written_same sign o e v)
        (λ p q. value_of SameOperand (judged s second) (judged renumbered second) (λ right. assignment s sign o p right) (λ right. assignment renumbered sign (record o { designates = e }) q right) (judged_same second) (λ x core. assignment_same sign o e p q x core)))
    judged_same (node k.Conditional (more first (more (leaf question) (more second (more colon (more third none)))))) =
        any_then SameOperand (judged s first >>= condition_value s (first_token first question)) (judged renumbered first >>= condition_value renumbered (first_token first question)) _ _
        (conditions_same (judged s first) (judged renumbered first) (first_token first question) (judged_same first))
        (λ x y. two_same (judged s second) (judged renumbered second) (judged s third) (judged renumbered third) (chosen question x) (chosen question y) (judged_same second) (judged_same third) (λ a b v w. chosen_same question x y a b v w))
    judged_same (node kind (more first (more (leaf sign) (more second none)))) =
        two_same (judged s first) (judged renumbered first) (judged s second) (judged renumbered second) (combined_by s kind sign) (combined_by renumbered kind sign) (judged_same first) (judged_same second) (λ x y v w. combined_by_same kind sign x y v w)
    judged_same (node kind parts) = left_broken SameOperand _

    arguments_same : (types : List PlainType) (parts : PlainTrees) (bracket : PlainToken) → Same {A = PlainArguments} Anything (judged_arguments s types parts bracket) (judged_arguments renumbered types parts bracket)
    arguments_same (ty ∷ types) (more tree none) bracket =
        operand_then Anything (judged s tree) (judged renumbered tree) _ _ (judged_same tree)
        (λ o e v. any_then Anything (passed s ty o (first_token tree bracket)) (passed renumbered ty (record o { designates = e }) (first_token tree bracket)) _ _ (passed_same ty o e (first_token tree bracket) v) (λ x y. same_give Anything _ _ tt))
    arguments_same (ty ∷ types) (more tree (more comma rest)) bracket =
        operand_then Anything (judged s tree) (judged renumbered tree) _ _ (judged_same tree)
        (λ o e v. any_then Anything (passed s ty o (first_token tree bracket)) (passed renumbered ty (record o { designates = e }) (first_token tree bracket)) _ _ (passed_same ty o e (first_token tree bracket) v)
        (λ x y. any_then Anything (judged_arguments s types rest bracket) (judged_arguments renumbered types rest bracket) _ _ (arguments_same types rest bracket) (λ a b. same_give Anything _ _ tt)))
    arguments_same (ty ∷ types) none bracket = same_give Anything _ _ tt
    arguments_same [] none bracket = same_give Anything _ _ tt
    arguments_same [] (more tree none) bracket = left_broken Anything _
    arguments_same [] (more tree (more comma rest)) bracket = left_broken Anything _

  pub valued_same : (tree : PlainTree) → Same SameTyped (valued s tree) (valued renumbered tree)
  valued_same tree = operand_then SameTyped (judged s tree) (judged renumbered tree) (loaded s) (loaded renumbered) (judged_same tree) (λ o e v. loads o e v)

  pub condition_of : (tree : PlainTree) (behind : PlainToken) → Same {A = PlainExpression} Anything (judged_condition s tree behind) (judged_condition renumbered tree behind)
  condition_of tree behind = conditions_same (judged s tree) (judged renumbered tree) (first_token tree behind) (judged_same tree)
