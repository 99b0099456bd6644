-- An object of one type.
use Rattle.std.proofs.Common.{◌≡◌, ℕ, Bool, true, false, not, ◌&&◌, ◌||◌, List, refl, sym, ap, ap₂, ◌∙◌}
use Rattle.std.specs.Prelude.{Option}
use Rattle.cond_formula.specs.Conditions.{Condition, value}
use Rattle.c_text.specs.Token.{PlainToken}
use Rattle.c_types.specs.Types.{PlainType}
use Rattle.c_tree.specs.Trees.{PlainTree}
use Rattle.core_meaning.specs.declared.refusals.TypeKind.TheVariants.{Incomplete, BadConstant}
use Rattle.core_meaning.specs.Checking.{◌>>=◌, unless_so}
use Rattle.core_meaning.specs.Entities.{Scope}
use Rattle.core_meaning.specs.Typing.{is_complete}
use Rattle.core_meaning.specs.Constancy as constancy
use Rattle.core_meaning.specs.Declarations.{judged_object, local_initial}
use Rattle.core_meaning.specs.Declarations as meaning
use Rattle.operand_types.specs.OperandTypes.{renumbered}
use Rattle.statement_readings.specs.Walks.{is_refused}
use Rattle.type_tables.specs.Tables.{Tables, is_complete_type, is_small}
use Rattle.type_tables.specs.Steps.{with_local, where_true}
use Rattle.type_tables.specs.Follows.{IsThere, Follows}
use Rattle.type_tables.proofs.ScalarLaws.{small_same}
use Rattle.cond_declarators.proofs.DeclaratorTypes.{complete_followed}
use Rattle.conditional_steps.specs.Here.{Here}
use Rattle.cond_locals.specs.Declaring.{IsInitialiser, IsDeclared}
use Rattle.cond_locals.proofs.Locals.{follows_with}

-- a local that is declared by copies of a condition and of a type
pub declared_so : (on : ℕ → Bool) (text name : List ℕ) (here when : Condition) (copy ty : PlainType) (t : Tables) → text ≡ name → here ≡ when → copy ≡ ty
    → where_true (value on here) (with_local text copy) t ≡ where_true (value on when) (with_local name ty) t
declared_so on text name here when copy ty t text_is here_is copy_is =
    ap (λ (k : Condition). where_true (value on k) (with_local text copy) t) here_is
    ∙ ap₂ (λ (name : List ℕ) (ty : PlainType). where_true (value on when) (with_local name ty) t) text_is copy_is

both_judged : (name : PlainToken) (a b : Bool) → is_refused (unless_so a Incomplete name >>= (λ fits. unless_so b BadConstant name)) ≡ not (a && b)
both_judged name true true = refl
both_judged name true false = refl
both_judged name false b = refl

object_judged : (t : Tables) (scope : Scope) (f : Follows t scope) (whole : PlainType) (name : PlainToken) → IsThere scope.structs whole
    → not (is_complete_type t (renumbered f.by whole) && is_small t (renumbered f.by whole)) ≡ is_refused (judged_object scope whole name)
object_judged t scope f whole name there =
    ap₂ (λ (a b : Bool). not (a && b)) (complete_followed t scope f whole there) (small_same t scope f whole there)
    ∙ sym (both_judged name (is_complete scope.structs whole) (constancy.is_small scope.structs whole))

-- where the code says that the initialiser is refused
abbrev pub ValueRefused : Tables → PlainType → Option PlainTree → Bool → Type 0
ValueRefused t ty initialiser invalid =
    (scope : Scope) (follows : Follows t scope) (whole : PlainType) → ty ≡ renumbered follows.by whole → IsThere scope.structs whole → IsInitialiser initialiser
    → (name : PlainToken) → invalid ≡ is_refused (local_initial scope whole name initialiser)

pub object_here :
    (when unfit invalid either f : Bool) (ty : PlainType) (name : PlainToken) (initialiser : Option PlainTree) (old new : Tables)
    → new ≡ where_true when (with_local name.text ty) old → unfit ≡ not (is_complete_type old ty && is_small old ty) → ValueRefused new ty initialiser invalid
    → either ≡ (unfit || invalid) → f ≡ (when && either) → Here when (IsDeclared ty name initialiser) old new f
object_here when unfit invalid either f ty name initialiser old new is_new is_unfit is_invalid is_either is_f = record {
  elsewhere = λ h. (is_new ∙ ap (λ (b : Bool). where_true b (with_local name.text ty) old) h, is_f ∙ ap (λ (b : Bool). b && either) h);
  does = λ h. record {
    local = added h;
    refused_is = λ scope slot follows whole is there derived.
        let g = follows_with old new scope follows name.text slot whole there (added h ∙ ap (λ (ty : PlainType). with_local name.text ty old) is) in
        is_f ∙ (ap (λ (b : Bool). b && either) h ∙ (is_either ∙ ap₂ (λ (a b : Bool). a || b)
        (is_unfit ∙ (ap (λ (ty : PlainType). not (is_complete_type old ty && is_small old ty)) is ∙ object_judged old scope follows.follows whole name there))
        (is_invalid (meaning.with_local scope name.text slot whole) g.follows.follows whole (is ∙ ap (λ (by : ℕ → ℕ). renumbered by whole) (sym g.numbers)) there derived name)));
  };
}
  where
    added : when ≡ true → new ≡ with_local name.text ty old
    added h = is_new ∙ ap (λ (b : Bool). where_true b (with_local name.text ty) old) h
