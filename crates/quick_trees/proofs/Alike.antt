-- The names of a file, and the run of the core program of its tokens.
use Rattle.std.proofs.Common.{◌≡◌, ℕ, Bool, true, false, List, [], ◌∷◌, ◌++◌, ◌∙◌, ap, subst, cond}
use Rattle.std.specs.List.{AllByRecursion, list_any}
use Rattle.std.specs.Str.{bytes_eq}
use Rattle.c_tree.specs.ReadingLaws.{TreesAreOne}
use Rattle.core_meaning.specs.Linking.{IsElaborated}
use Rattle.core_meaning.specs.Run as core
use Rattle.quick_form.specs.Form.{Items, no_item, variable, initialised, main_with, item_group, item_choice, declared_names}
use Rattle.quick_form.specs.Program.{IsAccepted}
use Rattle.quick_form.proofs.Behaviour.{old_is_name}
use Rattle.quick_core.specs.Present.{Item, tentative, valued, main_of, present_items}
use Rattle.quick_core.specs.CoreProgram.{core_program}
use Rattle.quick_core.specs.Laws.{ProgramIsOfItems, NumbersAreRead, RunsAgree}
use Rattle.quick_core.proofs.Starts.{split_all}
use Rattle.quick_core.proofs.Numbers.{all_from}
use Rattle.quick_trees.specs.Tokens.{tokens_of, write_unit}
use Rattle.quick_trees.specs.UnitTree.{unit_tree}
use Rattle.quick_trees.specs.Laws.{TreesAreSpelled, IsSpelled, ElaboratesToCore, NamesAreRead, TokensRunAlike}
use Rattle.quick_trees.proofs.Readiness.{IsProperName, objects_of, same_bytes}
use Rattle.quick_trees.proofs.LinkedUnit.{or_first, or_second}

-- what holds of each name that is found in a list
all_found : (P : List ℕ → Type 0) (xs : List (List ℕ)) → ((x : List ℕ) → list_any (bytes_eq x) xs ≡ true → P x) → AllByRecursion P xs
all_found P [] f = tt
all_found P (x ∷ xs) f =
    (f x (or_first (bytes_eq x x) (list_any (bytes_eq x) xs) (same_bytes x)), all_found P xs (λ y h. f y (or_second (bytes_eq y x) (list_any (bytes_eq y) xs) h)))

objects_append : (P : List ℕ → Type 0) (a b : List Item) → AllByRecursion P (objects_of a) → AllByRecursion P (objects_of b) → AllByRecursion P (objects_of (a ++ b))
objects_append P [] b h k = k
objects_append P (tentative x ∷ a) b h k = (h.0, objects_append P a b h.1 k)
objects_append P (valued x d ∷ a) b h k = (h.0, objects_append P a b h.1 k)
objects_append P (main_of c ∷ a) b h k = objects_append P a b h k

objects_if : (P : List ℕ → Type 0) (t : Bool) (a b : List Item) → AllByRecursion P (objects_of a) → AllByRecursion P (objects_of b) → AllByRecursion P (objects_of (cond t a b))
objects_if P true a b h k = h
objects_if P false a b h k = k

-- what is present is declared in some branch
present_names : (P : List ℕ → Type 0) (on : List ℕ → Bool) (items : Items) → AllByRecursion P (declared_names items) → AllByRecursion P (objects_of (present_items on items))
present_names P on no_item h = tt
present_names P on (variable x rest) h = (h.0, present_names P on rest h.1)
present_names P on (initialised x d rest) h = (h.0, present_names P on rest h.1)
present_names P on (main_with body rest) h = present_names P on rest h
present_names P on (item_group n body rest) h =
    let parts = split_all P (declared_names body) (declared_names rest) h in
    objects_append P (cond (on n) (present_items on body) []) (present_items on rest)
    (objects_if P (on n) (present_items on body) [] (present_names P on body parts.0) tt) (present_names P on rest parts.1)
present_names P on (item_choice n body other rest) h =
    let parts = split_all P (declared_names body) (declared_names other ++ declared_names rest) h in
    let others = split_all P (declared_names other) (declared_names rest) parts.1 in
    objects_append P (cond (on n) (present_items on body) (present_items on other)) (present_items on rest)
    (objects_if P (on n) (present_items on body) (present_items on other) (present_names P on body parts.0) (present_names P on other others.0)) (present_names P on rest others.1)

pub names_are_read_lem : NamesAreRead
names_are_read_lem on bytes items reads =
    all_from IsProperName (objects_of (present_items on items))
    (present_names IsProperName on items (all_found IsProperName (declared_names items) (λ x h. old_is_name bytes x items reads h)))

pub tokens_run_alike_lem : ProgramIsOfItems → NumbersAreRead → RunsAgree → TreesAreOne → NamesAreRead → TreesAreSpelled → ElaboratesToCore → TokensRunAlike
tokens_run_alike_lem of_items numbers runs trees names spelled elaborates on bytes items reads accepted seats tree p is_tree elaborated input bound =
    let present = present_items on items in
    let same : tree ≡ unit_tree present seats = trees (tokens_of (write_unit present) seats) tree (unit_tree present seats) is_tree.spells (spelled present seats) in
    let is_spelled : IsSpelled present = record { names = names on bytes items reads; numbers = numbers on bytes items reads } in
    let is_core : p ≡ core_program present =
    elaborates present seats is_spelled (subst IsAccepted (of_items on items) accepted) p (subst (λ t. IsElaborated (t ∷ []) p) same elaborated) in
    ap (λ q. core.run q input bound) is_core ∙ runs on bytes items reads accepted input bound
