-- What an initialiser gives an object of file scope has first values.
use Rattle.std.proofs.Common.{◌≡◌, ℕ, suc, ◌+◌, Bool, true, false, List, [], ◌∷◌, ◌++◌, length, refl}
use Rattle.std.specs.Prelude.{pos, Option, Some, None, is_some, option_map, nat_le, take}
use Rattle.std.proofs.lemmas.Bool.{false≢true}
use Rattle.c_text.specs.Token.{PlainToken}
use Rattle.c_types.specs.Types.{PlainType, array_of}
use Rattle.c_types.specs.Integers.{converted}
use Rattle.c_tree.specs.declared.kinds.Kind.TheVariants as k
use Rattle.c_tree.specs.Trees.{PlainTree, PlainTrees, node, none, more}
use Rattle.core_meaning.specs.declared.refusals.TypeKind.TheVariants.{BadOperand, BadConstant}
use Rattle.core_meaning.specs.Program.{PlainExpression, PlainConstantPart, constant}
use Rattle.core_meaning.specs.Values.{part, Path, Scalar}
use Rattle.core_meaning.specs.Checking.{refused, ◌>>=◌, give, unless_so, found_or, or_broken}
use Rattle.core_meaning.specs.Entities.{Scope}
use Rattle.core_meaning.specs.Typing.{fits_into}
use Rattle.core_meaning.specs.Expressions.{valued, first_token, text_bytes}
use Rattle.core_meaning.specs.Constancy.{first_scalar, part_for, path_for, is_character_type, text_parts, text_initial, Initial, part_or_excess, value_initial, whole_initial, text_or_whole, initial, initial_entries}
use Rattle.core_meaning.specs.UnitNames.{constant_parts}
use Rattle.cond_initialisers.proofs.Each.{Each, each_after, each_then, each_of_both}

module _ (g : ℕ) where
  abbrev pub AreThere : List Initial → Type 0
  AreThere parts = is_some (constant_parts g parts) ≡ true

  abbrev with_first : Path → Option Scalar → Option (List PlainConstantPart) → Option (List PlainConstantPart)
  with_first path first others =
      elim first as (λ x. Option (List PlainConstantPart)) [ None ↦ None | Some v ↦ option_map (λ parts. record { path = path; value = v } ∷ parts) others ]

  joined_there : (path : Path) (first : Option Scalar) (others : Option (List PlainConstantPart)) → is_some first ≡ true → is_some others ≡ true → is_some (with_first path first others) ≡ true
  joined_there path None others is are = absurd (false≢true is)
  joined_there path (Some v) None is are = absurd (false≢true are)
  joined_there path (Some v) (Some others) is are = refl

  first_is : (path : Path) (first : Option Scalar) (others : Option (List PlainConstantPart)) → is_some (with_first path first others) ≡ true → is_some first ≡ true
  first_is path None others are = are
  first_is path (Some v) others are = refl

  others_are : (path : Path) (first : Option Scalar) (others : Option (List PlainConstantPart)) → is_some (with_first path first others) ≡ true → is_some others ≡ true
  others_are path None others are = absurd (false≢true are)
  others_are path (Some v) None are = are
  others_are path (Some v) (Some others) are = refl

  more_there : (i : Initial) (rest : List Initial) → is_some (first_scalar g i.value) ≡ true → AreThere rest → AreThere (i ∷ rest)
  more_there i rest is are = joined_there i.path (first_scalar g i.value) (constant_parts g rest) is are

  both_there : (a b : List Initial) → AreThere a → AreThere b → AreThere (a ++ b)
  both_there [] b are others = others
  both_there (i ∷ a) b are others =
      more_there i (a ++ b) (first_is i.path (first_scalar g i.value) (constant_parts g a) are) (both_there a b (others_are i.path (first_scalar g i.value) (constant_parts g a) are) others)

  -- ---- texts

  bytes_there : (element : PlainType) (path : Path) (n : ℕ) (bytes : List ℕ) (first : PlainToken) → AreThere (text_parts element path n bytes first)
  bytes_there element path n [] first = refl
  bytes_there element path n (byte ∷ rest) first =
      more_there (record { path = part n ∷ path; value = constant (converted element (pos byte)); first = first }) (text_parts element path (suc n) rest first) refl (bytes_there element path (suc n) rest first)

  text_there : (element : PlainType) (count : ℕ) (path : Path) (bytes : List ℕ) (first : PlainToken) → Each AreThere (text_initial element count path bytes first)
  text_there element count path bytes first =
      each_after AreThere (λ room. give (text_parts element path 0 (take count (bytes ++ 0 ∷ [])) first)) (λ room. bytes_there element path 0 (take count (bytes ++ 0 ∷ [])) first)
      (unless_so (nat_le (length bytes) count) BadConstant first)

  module _ (scope : Scope) where
    -- ---- expressions

    allowed_there : (path : Path) (core : PlainExpression) (first : PlainToken) (b : Bool) → is_some (first_scalar g core) ≡ b
        → Each AreThere (unless_so b BadConstant first >>= (λ allowed. give (record { path = path; value = core; first = first } ∷ [])))
    allowed_there path core first true is = more_there (record { path = path; value = core; first = first }) [] is refl
    allowed_there path core first false is = tt

    value_there : (ty : PlainType) (path : Path) (tree : PlainTree) (first : PlainToken) → Each AreThere (value_initial scope (Some g) ty path tree first)
    value_there ty path tree first =
        each_after AreThere _
        (λ x. each_after AreThere (λ core. unless_so (is_some (first_scalar g core)) BadConstant first >>= (λ allowed. give (record { path = path; value = core; first = first } ∷ [])))
        (λ core. allowed_there path core first (is_some (first_scalar g core)) refl) (found_or (fits_into ty x) BadOperand first)) (valued scope tree)

    whole_there : (ty : PlainType) (path : Path) (tree : PlainTree) (first : PlainToken) → Each AreThere (whole_initial scope (Some g) ty path tree first)
    whole_there (array_of element count) path tree first = each_after AreThere (λ x. refused BadOperand first) (λ x. tt) (valued scope tree)
    whole_there ty path tree first = value_there ty path tree first

    text_or_whole_there : (ty : PlainType) (path : Path) (parts : PlainTrees) (first : PlainToken) → Each AreThere (text_or_whole scope (Some g) ty path parts first)
    text_or_whole_there (array_of element count) path parts first =
        each_of_both AreThere (is_character_type element) (or_broken (text_bytes parts) >>= (λ bytes. text_initial element count path bytes first)) (refused BadOperand first)
        (each_after AreThere (λ bytes. text_initial element count path bytes first) (λ bytes. text_there element count path bytes first) (or_broken (text_bytes parts))) tt
    text_or_whole_there ty path parts first = value_there ty path (node k.Texts parts) first

    -- ---- initialisers

    mutual
      pub values_there : (tree : PlainTree) (ty : PlainType) (path : Path) (behind : PlainToken) → Each AreThere (initial scope (Some g) ty path tree behind)
      values_there (node k.Braces (more brace (more (node kind entries) (more last none)))) ty path behind = entries_there entries ty path 0 behind
      values_there (node k.Texts parts) ty path behind = text_or_whole_there ty path parts (first_token (node k.Texts parts) behind)
      values_there tree ty path behind = whole_there ty path tree (first_token tree behind)

      entries_there : (entries : PlainTrees) (ty : PlainType) (path : Path) (n : ℕ) (behind : PlainToken) → Each AreThere (initial_entries scope (Some g) ty path n entries behind)
      entries_there none ty path n behind = refl
      entries_there (more tree none) ty path n behind =
          each_after AreThere (λ element. initial scope (Some g) element (path_for ty path n) tree behind) (λ element. values_there tree element (path_for ty path n) behind)
          (part_or_excess scope (Some g) (part_for scope.structs ty n) tree (first_token tree behind))
      entries_there (more tree (more comma rest)) ty path n behind =
          each_after AreThere (λ element. initial scope (Some g) element (path_for ty path n) tree behind >>= (λ first. initial_entries scope (Some g) ty path (n + 1) rest behind >>= (λ others. give (first ++ others))))
          (λ element. each_then AreThere AreThere (λ first. initial_entries scope (Some g) ty path (n + 1) rest behind >>= (λ others. give (first ++ others)))
          (λ first are. each_then AreThere AreThere (λ others. give (first ++ others)) (λ others too. both_there first others are too) (initial_entries scope (Some g) ty path (n + 1) rest behind)
          (entries_there rest ty path (n + 1) behind)) (initial scope (Some g) element (path_for ty path n) tree behind) (values_there tree element (path_for ty path n) behind))
          (part_or_excess scope (Some g) (part_for scope.structs ty n) tree (first_token tree behind))
