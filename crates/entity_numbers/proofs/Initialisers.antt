-- What sizes, initialisers and the types of declarators bind: what is visible to them, and nothing else. This holds of all trees.
use Rattle.std.proofs.Common.{ℕ, zero, suc, ◌+◌, Bool, List, [], length}
use Rattle.std.specs.Prelude.{Option, Some, None, nat_le, if◌then◌else◌}
use Rattle.c_text.specs.Token.{PlainToken}
use Rattle.c_types.specs.Types.{PlainType, pointer_to, array_of}
use Rattle.c_types.specs.Integers.{is_integer}
use Rattle.c_tree.specs.declared.kinds.Kind.{Kind}
use Rattle.c_tree.specs.declared.kinds.Kind.TheVariants as k
use Rattle.c_tree.specs.declared.terminals.Terminal.TheVariants as t
use Rattle.c_tree.specs.Trees.{PlainTree, PlainTrees, node, none, more}
use Rattle.core_meaning.specs.declared.refusals.TypeKind.TheVariants.{BadOperand, BadConstant, Incomplete}
use Rattle.core_meaning.specs.Values.{Path}
use Rattle.c_tree.specs.Heights.{count_stars}
use Rattle.core_meaning.specs.Checking.{Entity, ◌>>=◌, give, unless_so}
use Rattle.core_meaning.specs.Entities.{Table, Scope}
use Rattle.core_meaning.specs.Typing.{is_complete, fits_into}
use Rattle.core_meaning.specs.Expressions.{valued, first_token, text_bytes}
use Rattle.core_meaning.specs.Constancy.{judged_count, count_of_value, value_if_constant, is_small, part_for, path_for, is_character_type, text_initial, part_or_excess, is_allowed, value_initial, whole_initial, text_or_whole, initial, initial_entries, count_by_initialiser, most_elements}
use Rattle.core_meaning.specs.Declarations.{pointers, starred, count_of_size, is_left_out, count_or_one, count_without_size, element_count, object_type, behind_word, size_of_parameter, parameter_type, judged_object, local_initial, may_be_parameter, judged_parameter}
use Rattle.bindings.proofs.Types.{Made}
use Rattle.bindings.proofs.Operators.{Anything}
use Rattle.entity_numbers.proofs.Uses.{Gives, gives_then, binds_give, Binds, Allows, then_binds, if_binds, some_then, found_then, unless_then, unless_binds, found_binds, valued_binds}

pub made_pointers : (tags : Table ℕ) (n : ℕ) (ty : PlainType) → Made tags ty → Made tags (pointers n ty)
made_pointers tags zero ty h = h
made_pointers tags (suc n) ty h = made_pointers tags n ty h

pub made_starred : (tags : Table ℕ) (parts : PlainTrees) (ty : PlainType) → Made tags ty → Made tags (starred parts ty)
made_starred tags parts ty h = made_pointers tags (count_stars parts) ty h

module _ (K : Entity → Type 0) (tags : Table ℕ) (s : Scope) (h : Allows K tags s) where
  pub count_binds : (tree : PlainTree) (behind : PlainToken) → Binds K (judged_count s tree behind)
  count_binds tree behind =
      then_binds K (valued s tree) _ (valued_binds K tags s h tree)
      (λ x. found_binds K (if is_integer x.ty then count_of_value (value_if_constant x.core) else None) BadConstant (first_token tree behind))

  -- ---- initialisers

  text_binds : (element : PlainType) (count : ℕ) (path : Path) (bytes : List ℕ) (first : PlainToken) → Binds K (text_initial element count path bytes first)
  text_binds element count path bytes first = unless_then K (nat_le (length bytes) count) BadConstant first _ (λ x. record { all = tt })

  module _ (globals : Option ℕ) where
    excess_binds : (o : Option PlainType) (tree : PlainTree) (first : PlainToken) → Binds K (part_or_excess s globals o tree first)
    excess_binds (Some element) tree first = record { all = tt }
    excess_binds None tree first = record { all = tt }

    value_binds : (ty : PlainType) (path : Path) (tree : PlainTree) (first : PlainToken) → Binds K (value_initial s globals ty path tree first)
    value_binds ty path tree first =
        then_binds K (valued s tree) _ (valued_binds K tags s h tree)
        (λ x. found_then K (fits_into ty x) BadOperand first _ (λ core. unless_then K (is_allowed s globals core) BadConstant first _ (λ y. record { all = tt })))

    whole_binds : (ty : PlainType) (path : Path) (tree : PlainTree) (first : PlainToken) → Binds K (whole_initial s globals ty path tree first)
    whole_binds (array_of element count) path tree first = then_binds K (valued s tree) _ (valued_binds K tags s h tree) (λ x. record { all = tt })
    whole_binds ty path tree first = value_binds ty path tree first

    texts_bind : (ty : PlainType) (path : Path) (parts : PlainTrees) (first : PlainToken) → Binds K (text_or_whole s globals ty path parts first)
    texts_bind (array_of element count) path parts first =
        if_binds K (is_character_type element) _ _ (some_then K (text_bytes parts) _ (λ bytes. text_binds element count path bytes first)) (record { all = tt })
    texts_bind ty path parts first = value_binds ty path (node k.Texts parts) first

    mutual
      pub initial_binds : (ty : PlainType) (path : Path) (tree : PlainTree) (behind : PlainToken) → Binds K (initial s globals ty path tree behind)
      initial_binds ty path (node k.Braces (more brace (more (node kind entries) (more last none)))) behind = entries_bind ty path 0 entries behind
      initial_binds ty path (node k.Texts parts) behind = texts_bind ty path parts (first_token (node k.Texts parts) behind)
      initial_binds ty path tree behind = whole_binds ty path tree (first_token tree behind)

      entries_bind : (ty : PlainType) (path : Path) (n : ℕ) (entries : PlainTrees) (behind : PlainToken) → Binds K (initial_entries s globals ty path n entries behind)
      entries_bind ty path n none behind = record { all = tt }
      entries_bind ty path n (more tree none) behind =
          then_binds K (part_or_excess s globals (part_for s.structs ty n) tree (first_token tree behind)) _ (excess_binds (part_for s.structs ty n) tree (first_token tree behind))
          (λ element. initial_binds element (path_for ty path n) tree behind)
      entries_bind ty path n (more tree (more comma rest)) behind =
          then_binds K (part_or_excess s globals (part_for s.structs ty n) tree (first_token tree behind)) _ (excess_binds (part_for s.structs ty n) tree (first_token tree behind))
          (λ element. then_binds K (initial s globals element (path_for ty path n) tree behind) _ (initial_binds element (path_for ty path n) tree behind)
          (λ first. then_binds K (initial_entries s globals ty path (n + 1) rest behind) _ (entries_bind ty path (n + 1) rest behind) (λ others. record { all = tt })))

  -- ---- types of declarators

  size_binds : (name : PlainToken) (o : Option PlainTree) → Binds K (count_of_size s name o)
  size_binds name None = record { all = tt }
  size_binds name (Some size) = count_binds size name

  no_size_binds : (element : PlainType) (name : PlainToken) (o : Option PlainTree) → Binds K (count_without_size element name o)
  no_size_binds element name None = record { all = tt }
  no_size_binds element name (Some value) = unless_then K (nat_le (count_or_one (count_by_initialiser element value)) most_elements) BadConstant name _ (λ x. record { all = tt })

  pub object_gives : (ty : PlainType) (kind : Kind) (parts : PlainTrees) (name : PlainToken) (o : Option PlainTree) → Made tags ty → Gives K (Made tags) (object_type s ty kind parts name o)
  object_gives ty k.ArrayDeclarator parts name o made =
      gives_then K Anything (Made tags) (unless_so (is_complete s.structs (starred parts ty)) Incomplete name) (λ complete. element_count s (starred parts ty) name (behind_word t.OpenBracket parts) o >>= (λ count. give (array_of (starred parts ty) count)))
      (binds_give K (unless_so (is_complete s.structs (starred parts ty)) Incomplete name) (unless_binds K (is_complete s.structs (starred parts ty)) Incomplete name))
      (λ x u. gives_then K Anything (Made tags) (element_count s (starred parts ty) name (behind_word t.OpenBracket parts) o) (λ count. give (array_of (starred parts ty) count))
      (binds_give K (element_count s (starred parts ty) name (behind_word t.OpenBracket parts) o)
      (if_binds K (is_left_out (behind_word t.OpenBracket parts)) _ _ (no_size_binds (starred parts ty) name o) (size_binds name (behind_word t.OpenBracket parts)))) (λ count v. record { given_ = (tt, made_starred tags parts ty made) }))
  object_gives ty k.Declarator parts name o made = record { given_ = (tt, made_starred tags parts ty made) }
  object_gives ty _ parts name o made = record { given_ = tt }

  pub parameter_gives : (ty : PlainType) (kind : Kind) (parts : PlainTrees) (name : PlainToken) → Made tags ty → Gives K (Made tags) (parameter_type s ty kind parts name)
  parameter_gives ty k.ArrayDeclarator parts name made =
      gives_then K Anything (Made tags) (unless_so (is_complete s.structs (starred parts ty)) Incomplete name) (λ complete. size_of_parameter s name (behind_word t.OpenBracket parts) >>= (λ count. give (pointer_to (starred parts ty))))
      (binds_give K (unless_so (is_complete s.structs (starred parts ty)) Incomplete name) (unless_binds K (is_complete s.structs (starred parts ty)) Incomplete name))
      (λ x u. gives_then K Anything (Made tags) (size_of_parameter s name (behind_word t.OpenBracket parts)) (λ count. give (pointer_to (starred parts ty)))
      (binds_give K (size_of_parameter s name (behind_word t.OpenBracket parts))
      (if_binds K (is_left_out (behind_word t.OpenBracket parts)) _ _ (record { all = tt }) (size_binds name (behind_word t.OpenBracket parts)))) (λ count v. record { given_ = (tt, made_starred tags parts ty made) }))
  parameter_gives ty k.Declarator parts name made = record { given_ = (tt, made_starred tags parts ty made) }
  parameter_gives ty _ parts name made = record { given_ = tt }

  pub whole_object_binds : (ty : PlainType) (name : PlainToken) → Binds K (judged_object s ty name)
  whole_object_binds ty name = unless_then K (is_complete s.structs ty) Incomplete name _ (λ x. unless_binds K (is_small s.structs ty) BadConstant name)

  pub whole_parameter_binds : (defining : Bool) (ty : PlainType) (name : PlainToken) → Binds K (judged_parameter defining s ty name)
  whole_parameter_binds defining ty name = unless_then K (may_be_parameter defining s ty) Incomplete name _ (λ x. unless_binds K (is_small s.structs ty) BadConstant name)

  pub local_value_binds : (ty : PlainType) (name : PlainToken) (o : Option PlainTree) → Binds K (local_initial s ty name o)
  local_value_binds ty name None = record { all = tt }
  local_value_binds ty name (Some value) = initial_binds None ty [] value name
