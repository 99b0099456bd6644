-- Arguments, one after another.
use Rattle.std.proofs.Common.{◌≡◌, ℕ, zero, suc, ◌+◌, ◌*◌, ◌/◌, ◌<◌, ◌≤◌, Bool, List, [], ◌∷◌, ◌++◌, map, length, get_or, drop, refl, sym, ap, subst, ◌∙◌, arith, add-one, drop-cons}
use Rattle.c_text.specs.Token.{PlainToken}
use Rattle.c_types.specs.Types.{PlainType}
use Rattle.c_tree.specs.Trees.{PlainTree, PlainTrees, none, more}
use Rattle.core_meaning.specs.Program.{PlainExpression, PlainArguments, no_argument, argument}
use Rattle.core_meaning.specs.Plain.{arguments_from}
use Rattle.core_meaning.specs.Checking.{Checked, ◌>>=◌, give}
use Rattle.core_meaning.specs.Entities.{Scope}
use Rattle.core_meaning.specs.Typing.{loaded}
use Rattle.core_meaning.specs.Expressions.{judged, judged_arguments, passed, first_token, count_entries}
use Rattle.plain_scope.specs.declared.errors.ElabError.{ElabError}
use Rattle.plain_scope.specs.Judgements.{Gives, RefusedAs}
use Rattle.plain_scope.specs.JudgementLaws.{gives_then, gives_nothing_used, refused_first}
use Rattle.std.proofs.Math.ListN.{drop_of_length-le}
use Rattle.std.proofs.lemmas.List.{map-append}
use Rattle.c_types.specs.declared.types.CType.{CType}
use Rattle.c_types.specs.Types.{plain_type}
use Rattle.c_tree.specs.declared.trees.Tree.{Tree}
use Rattle.c_tree.specs.Trees.{plain_tree, plain_trees}
use Rattle.core_meaning.specs.declared.expressions.Expression.{Expression}
use Rattle.core_meaning.specs.Plain.{plain_expression, plain_arguments}
use Rattle.plain_expressions.proofs.Shapes.{half_of_parts}
use Rattle.plain_expressions.specs.Steps.{passed_argument}
use Rattle.plain_expressions.specs.Continuing.{Continues, followed_by}
use Rattle.plain_expressions.proofs.NodeLaws.{no_arguments}
use Rattle.plain_scope.specs.Bindings.{then_then}
use Rattle.plain_expressions.proofs.Answering.{gives_as, refused_as, refused_behind, gives_last}

-- the parts behind an entry and its comma
abbrev pub behind_entry : PlainTrees → PlainTrees
behind_entry none = none
behind_entry (more comma rest) = rest

passed_first : {B : Type 0} (scope : Scope) (ty : PlainType) (tree : PlainTree) (bracket : PlainToken) (next : PlainExpression → Checked B) → (judged scope tree >>= (λ operand. passed scope ty operand (first_token tree bracket) >>= next)) ≡ (passed_argument scope ty tree bracket >>= next)
passed_first scope ty tree bracket next =
    sym (ap (λ (c : Checked _). c >>= next) (then_then (judged scope tree) (loaded scope) _)
    ∙ then_then (judged scope tree) (λ operand. passed scope ty operand (first_token tree bracket)) next)

-- one argument, and those behind it
pub arguments_step : (scope : Scope) (ty : PlainType) (types : List PlainType) (tree : PlainTree) (rest : PlainTrees) (bracket : PlainToken) → judged_arguments scope (ty ∷ types) (more tree rest) bracket ≡ (passed_argument scope ty tree bracket >>= (λ core. judged_arguments scope types (behind_entry rest) bracket >>= (λ others. give (argument core others))))
arguments_step scope ty types tree none bracket = rw no_arguments (passed_first scope ty tree bracket (λ core. give (argument core no_argument)))
arguments_step scope ty types tree (more comma rest) bracket = passed_first scope ty tree bracket (λ core. judged_arguments scope types rest bracket >>= (λ others. give (argument core others)))

followed_once : (given : List PlainExpression) (core : PlainExpression) (others : PlainArguments) → followed_by (arguments_from given) (argument core others) ≡ followed_by (arguments_from (given ++ core ∷ [])) others
followed_once [] core others = refl
followed_once (first ∷ rest) core others = ap (argument first) (followed_once rest core others)

followed_by_none : (given : List PlainExpression) → followed_by (arguments_from given) no_argument ≡ arguments_from given
followed_by_none [] = refl
followed_by_none (first ∷ rest) = ap (argument first) (followed_by_none rest)

pub continues_none : (c : Checked PlainArguments) (before : List ℕ → Bool) → Continues c c no_argument before before
continues_none c before = record { gives = λ others after g. g; refuses = λ error r. r }

pub continues_step : (scope : Scope) (whole : Checked PlainArguments) (ty : PlainType) (types : List PlainType) (tree : PlainTree) (rest : PlainTrees) (bracket : PlainToken) (given : List PlainExpression) (core : PlainExpression) (before now next : List ℕ → Bool) → Continues whole (judged_arguments scope (ty ∷ types) (more tree rest) bracket) (arguments_from given) before now → Gives (passed_argument scope ty tree bracket) core now next → Continues whole (judged_arguments scope types (behind_entry rest) bracket) (arguments_from (given ++ core ∷ [])) before next
continues_step scope whole ty types tree rest bracket given core before now next so_far one =
    let behind : PlainExpression → Checked PlainArguments = λ e. judged_arguments scope types (behind_entry rest) bracket >>= (λ others. give (argument e others)) in
    let all = judged_arguments scope (ty ∷ types) (more tree rest) bracket in
    let first = passed_argument scope ty tree bracket in
    let others_of = judged_arguments scope types (behind_entry rest) bracket in
    record {
      gives = λ others after g.
          subst (λ (y : PlainArguments). Gives whole y before after) (followed_once given core others)
          (so_far.gives (argument core others) after
          (gives_as all (first >>= behind) (argument core others) now after (arguments_step scope ty types tree rest bracket)
          (gives_then first behind core (argument core others) now next after one
          (gives_last others_of (λ (o : PlainArguments). give (argument core o)) others (argument core others) next after g refl))));
      refuses = λ error r.
          so_far.refuses error
          (refused_as all (first >>= behind) error (arguments_step scope ty types tree rest bracket)
          (refused_behind first behind core now next error one
          (refused_first others_of (λ (o : PlainArguments). give (argument core o)) error r)));
    }

pub continues_refused : (scope : Scope) (whole : Checked PlainArguments) (ty : PlainType) (types : List PlainType) (tree : PlainTree) (rest : PlainTrees) (bracket : PlainToken) (given : PlainArguments) (before now : List ℕ → Bool) (error : ElabError) → Continues whole (judged_arguments scope (ty ∷ types) (more tree rest) bracket) given before now → RefusedAs (passed_argument scope ty tree bracket) error → RefusedAs whole error
continues_refused scope whole ty types tree rest bracket given before now error so_far r =
    let behind : PlainExpression → Checked PlainArguments = λ e. judged_arguments scope types (behind_entry rest) bracket >>= (λ others. give (argument e others)) in
    let first = passed_argument scope ty tree bracket in
    so_far.refuses error
    (refused_as (judged_arguments scope (ty ∷ types) (more tree rest) bracket) (first >>= behind) error (arguments_step scope ty types tree rest bracket) (refused_first first behind error r))

pub continues_end : (scope : Scope) (whole : Checked PlainArguments) (types : List PlainType) (bracket : PlainToken) (given : List PlainExpression) (before now : List ℕ → Bool) → Continues whole (judged_arguments scope types none bracket) (arguments_from given) before now → Gives whole (arguments_from given) before now
continues_end scope whole types bracket given before now so_far =
    subst (λ (y : PlainArguments). Gives whole y before now) (followed_by_none given)
    (so_far.gives no_argument now (gives_nothing_used (judged_arguments scope types none bracket) no_argument now (no_arguments scope types bracket)))

-- ---- at an index

drop_at : {A : Type 0} (xs : List A) (i : ℕ) (x : A) → i < length xs → x ≡ get_or xs i x → drop i xs ≡ x ∷ drop (suc i) xs
drop_at xs i x h e = drop-cons xs i x h ∙ ap (λ y. y ∷ drop (suc i) xs) (sym e)

behind_drop : (n : ℕ) (xs : List Tree) → behind_entry (plain_trees (drop n xs)) ≡ plain_trees (drop (suc n) xs)
behind_drop zero [] = refl
behind_drop zero (x ∷ xs) = refl
behind_drop (suc n) [] = refl
behind_drop (suc n) (x ∷ xs) = behind_drop n xs

twice_more : (i : ℕ) → 2 * (i + 1) ≡ suc (suc (2 * i))
twice_more i = omega arith

-- the arguments from a parameter and a part on
abbrev pub from : Scope → PlainToken → List CType → List Tree → Checked PlainArguments
from scope bracket types parts = judged_arguments scope (map plain_type types) (plain_trees parts) bracket

pub step_at : (scope : Scope) (whole : Checked PlainArguments) (types : List CType) (parts : List Tree) (i : ℕ) (ty : CType) (tree : Tree) (bracket : PlainToken) (given : List Expression) (core : Expression) (before now next : List ℕ → Bool) → i < length types → ty ≡ get_or types i ty → 2 * i < length parts → tree ≡ get_or parts (2 * i) tree → Continues whole (from scope bracket (drop i types) (drop (2 * i) parts)) (plain_arguments given) before now → Gives (passed_argument scope (plain_type ty) (plain_tree tree) bracket) (plain_expression core) now next → Continues whole (from scope bracket (drop (i + 1) types) (drop (2 * (i + 1)) parts)) (plain_arguments (given ++ core ∷ [])) before next
step_at scope whole types parts i ty tree bracket given core before now next h e l f so_far one =
    let a = drop_at types i ty h e in
    let b = drop_at parts (2 * i) tree l f in
    let at_a = subst (λ (ts : List CType). Continues whole (from scope bracket ts (drop (2 * i) parts)) (plain_arguments given) before now) a so_far in
    let at_b = subst (λ (ps : List Tree). Continues whole (from scope bracket (ty ∷ drop (suc i) types) ps) (plain_arguments given) before now) b at_a in
    let rest = plain_trees (drop (suc (2 * i)) parts) in
    let stepped = continues_step scope whole (plain_type ty) (map plain_type (drop (suc i) types)) (plain_tree tree) rest bracket (map plain_expression given) (plain_expression core) before now next at_b one in
    let on_parts = subst (λ (ps : PlainTrees). Continues whole (judged_arguments scope (map plain_type (drop (suc i) types)) ps bracket) (arguments_from (map plain_expression given ++ plain_expression core ∷ [])) before next) (behind_drop (suc (2 * i)) parts) stepped in
    let on_given = subst (λ (es : List PlainExpression). Continues whole (from scope bracket (drop (suc i) types) (drop (suc (suc (2 * i))) parts)) (arguments_from es) before next) (sym (map-append plain_expression given (core ∷ []))) on_parts in
    let on_two = subst (λ (n : ℕ). Continues whole (from scope bracket (drop (suc i) types) (drop n parts)) (plain_arguments (given ++ core ∷ [])) before next) (sym (twice_more i)) on_given in
    subst (λ (n : ℕ). Continues whole (from scope bracket (drop n types) (drop (2 * (i + 1)) parts)) (plain_arguments (given ++ core ∷ [])) before next) (sym (add-one i)) on_two

pub refused_at : (scope : Scope) (whole : Checked PlainArguments) (types : List CType) (parts : List Tree) (i : ℕ) (ty : CType) (tree : Tree) (bracket : PlainToken) (given : PlainArguments) (before now : List ℕ → Bool) (error : ElabError) → i < length types → ty ≡ get_or types i ty → 2 * i < length parts → tree ≡ get_or parts (2 * i) tree → Continues whole (from scope bracket (drop i types) (drop (2 * i) parts)) given before now → RefusedAs (passed_argument scope (plain_type ty) (plain_tree tree) bracket) error → RefusedAs whole error
refused_at scope whole types parts i ty tree bracket given before now error h e l f so_far r =
    let a = drop_at types i ty h e in
    let b = drop_at parts (2 * i) tree l f in
    let at_a = subst (λ (ts : List CType). Continues whole (from scope bracket ts (drop (2 * i) parts)) given before now) a so_far in
    let at_b = subst (λ (ps : List Tree). Continues whole (from scope bracket (ty ∷ drop (suc i) types) ps) given before now) b at_a in
    continues_refused scope whole (plain_type ty) (map plain_type (drop (suc i) types)) (plain_tree tree) (plain_trees (drop (suc (2 * i)) parts)) bracket given before now error at_b r

pub end_at : (scope : Scope) (whole : Checked PlainArguments) (types : List CType) (parts : List Tree) (i : ℕ) (bracket : PlainToken) (given : List Expression) (before now : List ℕ → Bool) → length types ≤ i → count_entries (plain_trees parts) ≡ length types → Continues whole (from scope bracket (drop i types) (drop (2 * i) parts)) (plain_arguments given) before now → Gives whole (plain_arguments given) before now
end_at scope whole types parts i bracket given before now h e so_far =
    let half : (length parts + 1) / 2 ≡ length types = sym (half_of_parts parts) ∙ e in
    let short : length parts ≤ 2 * i = omega (arith, half, h) in
    let at_end = subst (λ (ps : List Tree). Continues whole (from scope bracket (drop i types) ps) (plain_arguments given) before now) (drop_of_length-le parts short) so_far in
    continues_end scope whole (map plain_type (drop i types)) bracket (map plain_expression given) before now at_end
