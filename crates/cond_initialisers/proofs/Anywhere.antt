-- A number is the same whatever is visible.
use Rattle.std.proofs.Common.{◌≡◌, Bool, true, false, refl, sym, ap, ◌∙◌}
use Rattle.std.specs.Prelude.{Option, Some, None, is_some, if◌then◌else◌}
use Rattle.c_tree.specs.Trees.{PlainTree}
use Rattle.core_meaning.specs.Checking.{Checked, fine, refused, broken}
use Rattle.core_meaning.specs.Entities.{Scope}
use Rattle.core_meaning.specs.Typing.{Typed, loaded}
use Rattle.core_meaning.specs.Expressions.{judged, valued}
use Rattle.core_meaning.specs.Constancy.{is_constant, constant_value}
use Rattle.cond_sizes.proofs.Constants.{has_constant, is_constant_value, constant_typed, alike, loaded_strict, loaded_alike}
use Rattle.cond_sizes.proofs.Nameless.{nameless}
use Rattle.cond_initialisers.specs.Constants.{is_number}

abbrev has_value : Option Typed → Bool
has_value None = false
has_value (Some x) = is_some (constant_value x.core)

of_constant : (c : Checked Typed) → is_number c ≡ has_value (constant_typed c)
of_constant (fine x bindings) = by_test (is_constant x.core) where
  by_test : (b : Bool) → is_some (if b then constant_value x.core else None) ≡ has_value (if b then Some x else None)
  by_test true = refl
  by_test false = refl
of_constant (refused kind token) = refl
of_constant broken = refl

pub numbers_need_no_names : (scope other : Scope) (tree : PlainTree) → is_number (valued scope tree) ≡ is_number (valued other tree)
numbers_need_no_names scope other tree =
    of_constant (valued scope tree)
    ∙ (ap has_value (alike has_constant is_constant_value (loaded scope) (loaded other) (loaded_strict scope) (loaded_strict other) (loaded_alike scope other)
    (judged scope tree) (judged other tree) (nameless scope other tree))
    ∙ sym (of_constant (valued other tree)))
