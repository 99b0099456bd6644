-- The items of a unit, and then the sizes of its objects.
use Rattle.std.proofs.Common.{◌≡◌, ℕ, Bool, List}
use Rattle.c_tree.specs.Trees.{PlainTrees}
use Rattle.core_meaning.specs.Checking.{◌>>=◌, give}
use Rattle.core_meaning.specs.UnitNames.{UnitState, too_big_in, unless_too_big, judged_file_items, judged_to_end}
use Rattle.plain_scope.specs.Judgements.{Gives, RefusedAs}
use Rattle.plain_scope.specs.JudgementLaws.{refused_first}
use Rattle.plain_scope.specs.declared.errors.ElabError.{ElabError}
use Rattle.plain_declarators.specs.Sequences.{next_of, gives_as, refused_behind}

pub to_end_gives : (globals : ℕ) (start unit : UnitState) (parts : PlainTrees) (before after : List ℕ → Bool) → Gives (judged_file_items globals start parts) unit before after → unless_too_big (too_big_in unit.scope parts) ≡ give tt → Gives (judged_to_end globals start parts) unit before after
to_end_gives globals start unit parts before after g small =
    gives_as (judged_file_items globals start parts) (λ u. unless_too_big (too_big_in u.scope parts) >>= (λ small. give u)) unit unit before after g (next_of (unless_too_big (too_big_in unit.scope parts)) (λ s. give unit) tt small)

pub to_end_refused : (globals : ℕ) (start unit : UnitState) (parts : PlainTrees) (before after : List ℕ → Bool) (error : ElabError) → Gives (judged_file_items globals start parts) unit before after → RefusedAs (unless_too_big (too_big_in unit.scope parts)) error → RefusedAs (judged_to_end globals start parts) error
to_end_refused globals start unit parts before after error g r =
    refused_behind (judged_file_items globals start parts) (λ u. unless_too_big (too_big_in u.scope parts) >>= (λ small. give u)) unit before after error g (refused_first (unless_too_big (too_big_in unit.scope parts)) (λ s. give unit) error r)

pub items_refused : (globals : ℕ) (start : UnitState) (parts : PlainTrees) (error : ElabError) → RefusedAs (judged_file_items globals start parts) error → RefusedAs (judged_to_end globals start parts) error
items_refused globals start parts error r = refused_first (judged_file_items globals start parts) (λ u. unless_too_big (too_big_in u.scope parts) >>= (λ small. give u)) error r
