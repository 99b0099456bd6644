-- Paths by their first step and by their last one.
use Rattle.std.proofs.Common.{◌≡◌, ℕ, ◌==◌, Bool, true, false, ◌&&◌, cond, List, [], ◌∷◌, ◌++◌, reverse, refl, sym, ap, ◌∙◌, Option, Some, None, option_map}
use Rattle.std.proofs.lemmas.Bool.{eqb-true}
use Rattle.std.proofs.lemmas.List.{reverse-append, reverse-reverse, append-nil}
use Rattle.c_types.specs.Types.{PlainType}
use Rattle.core_meaning.specs.Values.{Step, part, behind, Path, Scalar, Cells, scalar, whole, same_step, same_path, onward, is_inside}
use Rattle.core_meaning.specs.Memory.{by_steps}
use Rattle.core_cells.specs.Forms.{Inner}
use Rattle.core_cells.specs.CellForms.{behind_step, below, placed, only_parts, by_paths, cells_at}

pub same_at : {A B : Type 0} (f g : A → B) → ((x : A) → f x ≡ g x) → f ≡ g
same_at f g h = λ i x. h x i

reverse-cons : (x : Step) (xs : List Step) → reverse (x ∷ xs) ≡ reverse xs ++ (x ∷ [])
reverse-cons x xs = reverse-append (x ∷ []) xs

-- ---- what is read below some steps

pub below_at : (steps : List Step) (f : Inner) (rest : List Step) → below steps f rest ≡ f (steps ++ rest)
below_at [] f rest = refl
below_at (step ∷ steps) f rest = below_at steps (behind_step step f) rest

pub scalar_below : (steps : List Step) (f : Inner) → below steps f [] ≡ f (reverse (reverse steps))
scalar_below steps f = below_at steps f [] ∙ ap f (append-nil steps ∙ sym (reverse-reverse steps))

below_reversed : (steps : List Step) (f : Inner) (path : Path) → below steps f (reverse path) ≡ f (reverse (path ++ reverse steps))
below_reversed steps f path =
    below_at steps f (reverse path)
    ∙ ap (λ front. f (front ++ reverse path)) (sym (reverse-reverse steps))
    ∙ ap f (sym (reverse-append path (reverse steps)))

pub cells_below : (steps : List Step) (f g : Inner) → g ≡ below steps f → whole (by_paths g) ≡ whole (cells_at (by_paths f) (reverse steps))
cells_below steps f g same = ap whole (ap by_paths same ∙ same_at _ _ (below_reversed steps f))

-- ---- equal paths, by the last step

and_false : (b : Bool) → (b && false) ≡ false
and_false true = refl
and_false false = refl

and_again : (a b c : Bool) → (a && (b && c)) ≡ ((a && b) && c)
and_again true b c = refl
and_again false b c = refl

and_swap : (a b : Bool) → (a && b) ≡ (b && a)
and_swap true true = refl
and_swap true false = refl
and_swap false true = refl
and_swap false false = refl

longer_is_other : (a : List Step) (x : Step) → same_path (a ++ x ∷ []) [] ≡ false
longer_is_other [] x = refl
longer_is_other (y ∷ a) x = refl

shorter_is_other : (a : List Step) (x : Step) → same_path [] (a ++ x ∷ []) ≡ false
shorter_is_other [] x = refl
shorter_is_other (y ∷ a) x = refl

same_path-last : (a b : List Step) (x y : Step) → same_path (a ++ x ∷ []) (b ++ y ∷ []) ≡ (same_step x y && same_path a b)
same_path-last [] [] x y = refl
same_path-last [] (z ∷ b) x y = ap (λ s. same_step x z && s) (shorter_is_other b y) ∙ and_false (same_step x z) ∙ sym (and_false (same_step x y))
same_path-last (z ∷ a) [] x y = ap (λ s. same_step z y && s) (longer_is_other a x) ∙ and_false (same_step z y) ∙ sym (and_false (same_step x y))
same_path-last (z ∷ a) (w ∷ b) x y =
    ap (λ s. same_step z w && s) (same_path-last a b x y)
    ∙ and_again (same_step z w) (same_step x y) (same_path a b)
    ∙ ap (λ s. s && same_path a b) (and_swap (same_step z w) (same_step x y))
    ∙ sym (and_again (same_step x y) (same_step z w) (same_path a b))

pub same_reversed : (a b : List Step) → same_path (reverse a) (reverse b) ≡ same_path a b
same_reversed [] [] = refl
same_reversed [] (y ∷ b) = ap (same_path []) (reverse-cons y b) ∙ shorter_is_other (reverse b) y
same_reversed (x ∷ a) [] = ap (λ p. same_path p []) (reverse-cons x a) ∙ longer_is_other (reverse a) x
same_reversed (x ∷ a) (y ∷ b) =
    ap (λ p. same_path p (reverse (y ∷ b))) (reverse-cons x a)
    ∙ ap (same_path (reverse a ++ x ∷ [])) (reverse-cons y b)
    ∙ same_path-last (reverse a) (reverse b) x y
    ∙ ap (λ s. same_step x y && s) (same_reversed a b)

-- ---- the steps that lead on, from the outside in

pub stripped : List Step → List Step → Option (List Step)
stripped [] qs = Some qs
stripped (p ∷ ps) [] = None
stripped (p ∷ ps) (q ∷ qs) = cond (same_step q p) (stripped ps qs) None

none_mapped : (b : Bool) (f : List Step → List Step) (o : Option (List Step)) → cond b (option_map f o) None ≡ option_map f (cond b o None)
none_mapped true f o = refl
none_mapped false f o = refl

cond_and : {A : Type 0} (a b : Bool) (x y z : A) → cond a (cond b x y) z ≡ cond (a && b) x (cond a y z)
cond_and true b x y z = refl
cond_and false b x y z = refl

all_stripped : (a : Bool) → ◌≡◌ {A = Option (List Step)} (cond a (Some []) None) (cond (a && true) (Some []) None)
all_stripped true = refl
all_stripped false = refl

none_stripped : (a : Bool) → ◌≡◌ {A = Option (List Step)} (cond a None None) (cond (a && false) (Some []) None)
none_stripped true = refl
none_stripped false = refl

with_last : Step → List Step → List Step
with_last s r = r ++ s ∷ []

stripped-last : (ps qs : List Step) (s : Step) → stripped ps (qs ++ s ∷ []) ≡ cond (same_path (qs ++ s ∷ []) ps) (Some []) (option_map (with_last s) (stripped ps qs))
unfolding stripped with_last
stripped-last [] [] s = refl
stripped-last [] (q ∷ qs) s = refl
stripped-last (p ∷ []) [] s = all_stripped (same_step s p)
stripped-last (p ∷ r ∷ ps) [] s = none_stripped (same_step s p)
stripped-last (p ∷ ps) (q ∷ qs) s =
    ap (λ o. cond (same_step q p) o None) (stripped-last ps qs s)
    ∙ cond_and (same_step q p) (same_path (qs ++ s ∷ []) ps) (Some []) (option_map (with_last s) (stripped ps qs)) None
    ∙ ap (cond (same_step q p && same_path (qs ++ s ∷ []) ps) (Some [])) (none_mapped (same_step q p) (with_last s) (stripped ps qs))

-- the steps that lead on from a path, as they are found from the outside in
reversed_on : Bool → Step → Option (List Step) → Option (List Step)
reversed_on same s found = cond same (Some []) (option_map (λ steps. s ∷ steps) found)

mapped_twice : (s : Step) (o : Option (List Step)) → option_map (λ steps. s ∷ steps) (option_map reverse o) ≡ option_map reverse (option_map (with_last s) o)
unfolding with_last
mapped_twice s None = refl
mapped_twice s (Some r) = ap Some (sym (reverse-append r (s ∷ [])))

reverse_either : (b : Bool) (o : Option (List Step)) → cond b (Some []) (option_map reverse o) ≡ option_map reverse (cond b (Some []) o)
reverse_either true o = refl
reverse_either false o = refl

pub onward_is : (p other : List Step) → onward p other ≡ option_map reverse (stripped (reverse p) (reverse other))
unfolding stripped
onward_is [] [] = refl
onward_is (x ∷ p) [] = sym (ap (λ ps. option_map reverse (stripped ps [])) (reverse-cons x p) ∙ none_left (reverse p) x)
  where
    none_left : (ps : List Step) (x : Step) → option_map reverse (stripped (ps ++ x ∷ []) []) ≡ None
    none_left [] x = refl
    none_left (y ∷ ps) x = refl
onward_is p (step ∷ outer) =
    ap (λ o. cond (same_path (step ∷ outer) p) (Some []) (option_map (λ steps. step ∷ steps) o)) (onward_is p outer)
    ∙ ap (cond (same_path (step ∷ outer) p) (Some [])) (mapped_twice step (stripped (reverse p) (reverse outer)))
    ∙ reverse_either (same_path (step ∷ outer) p) (option_map (with_last step) (stripped (reverse p) (reverse outer)))
    ∙ ap (λ b. option_map reverse (cond b (Some []) (option_map (with_last step) (stripped (reverse p) (reverse outer)))))
    (sym (same_reversed (step ∷ outer) p) ∙ ap (λ q. same_path q (reverse p)) (reverse-cons step outer))
    ∙ ap (option_map reverse) (sym (stripped-last (reverse p) (reverse outer) step))
    ∙ ap (λ q. option_map reverse (stripped (reverse p) q)) (sym (reverse-cons step outer))

-- ---- what is written below some steps

only_parts-append : (xs ys : List Step) → only_parts (xs ++ ys) ≡ (only_parts xs && only_parts ys)
only_parts-append [] ys = refl
only_parts-append (part k ∷ xs) ys = only_parts-append xs ys
only_parts-append (behind ∷ xs) ys = refl

first_holds : (a b : Bool) → (a && b) ≡ true → a ≡ true
first_holds true b h = refl
first_holds false b h = h

and_true : (a : Bool) → (a && true) ≡ a
and_true true = refl
and_true false = refl

pub inside_only : (structs : List (List PlainType)) (t : PlainType) (path : Path) → is_inside structs t path ≡ true → only_parts (reverse path) ≡ true
inside_only structs t [] inside = refl
inside_only structs t (part k ∷ outer) inside =
    ap only_parts (reverse-cons (part k) outer)
    ∙ only_parts-append (reverse outer) (part k ∷ [])
    ∙ and_true (only_parts (reverse outer))
    ∙ inside_only structs t outer (first_holds _ _ inside)
inside_only structs t (behind ∷ outer) inside = cc

-- where two numbers are equal, what holds at one holds at the other
chosen_at : (k j : ℕ) (x y : ℕ → Option Scalar) (z : Option Scalar) → (j ≡ k → x k ≡ y j) → cond (j == k) (x k) z ≡ cond (j == k) (y j) z
chosen_at k j x y z same = by_cases (j == k) (λ h. same (eqb-true j k h))
  where
    by_cases : (b : Bool) → (b ≡ true → x k ≡ y j) → cond b (x k) z ≡ cond b (y j) z
    by_cases true h = h refl
    by_cases false h = refl

and_chosen : (a b : Bool) (v x : Option Scalar) → cond a (cond b v x) x ≡ cond (a && b) v x
and_chosen true b v x = refl
and_chosen false b v x = refl

-- a scalar
placed_scalar : (steps : List Step) (v : Scalar) (f : Inner) (qs : List Step) → only_parts steps ≡ true → placed steps (scalar v) f qs ≡ cond (same_path qs steps) (Some v) (f qs)
placed_scalar [] v f [] only = refl
placed_scalar [] v f (q ∷ qs) only = refl
placed_scalar (part k ∷ steps) v f [] only = refl
placed_scalar (part k ∷ steps) v f (part j ∷ qs) only =
    chosen_at k j (λ i. placed steps (scalar v) (behind_step (part i) f) qs) (λ i. cond (same_path qs steps) (Some v) (f (part i ∷ qs))) (f (part j ∷ qs))
    (λ same. placed_scalar steps v (behind_step (part k) f) qs only ∙ ap (λ i. cond (same_path qs steps) (Some v) (f (part i ∷ qs))) (sym same))
    ∙ and_chosen (j == k) (same_path qs steps) (Some v) (f (part j ∷ qs))
placed_scalar (part k ∷ steps) v f (behind ∷ qs) only = refl
placed_scalar (behind ∷ steps) v f qs only = cc

-- all scalars below
found_or : Cells → Option Scalar → Option (List Step) → Option Scalar
found_or parts old None = old
found_or parts old (Some steps) = parts (reverse steps)

found_chosen : (parts : Cells) (old : Option Scalar) (b : Bool) (o : Option (List Step)) → cond b (found_or parts old o) old ≡ found_or parts old (cond b o None)
unfolding found_or
found_chosen parts old true o = refl
found_chosen parts old false o = refl

placed_whole : (steps : List Step) (parts : Cells) (f : Inner) (qs : List Step) → only_parts steps ≡ true → placed steps (whole parts) f qs ≡ found_or parts (f qs) (stripped steps qs)
unfolding found_or stripped
placed_whole [] parts f qs only = refl
placed_whole (part k ∷ steps) parts f [] only = refl
placed_whole (part k ∷ steps) parts f (part j ∷ qs) only =
    chosen_at k j (λ i. placed steps (whole parts) (behind_step (part i) f) qs) (λ i. found_or parts (f (part i ∷ qs)) (stripped steps qs)) (f (part j ∷ qs))
    (λ same. placed_whole steps parts (behind_step (part k) f) qs only ∙ ap (λ i. found_or parts (f (part i ∷ qs)) (stripped steps qs)) (sym same))
    ∙ found_chosen parts (f (part j ∷ qs)) (j == k) (stripped steps qs)
placed_whole (part k ∷ steps) parts f (behind ∷ qs) only = refl
placed_whole (behind ∷ steps) parts f qs only = cc

-- ---- by paths whose last step comes first

pub scalar_written : (path : Path) (v : Scalar) (f : Inner) → only_parts (reverse path) ≡ true → (λ other. cond (same_path other path) (Some v) (by_paths f other)) ≡ by_paths (placed (reverse path) (scalar v) f)
scalar_written path v f only =
    same_at _ _ (λ other. sym (placed_scalar (reverse path) v f (reverse other) only ∙ ap (λ b. cond b (Some v) (f (reverse other))) (same_reversed other path)))

found_by_steps : (parts : Cells) (old : Option Scalar) (o : Option (List Step)) → found_or parts old o ≡ by_steps parts old (option_map reverse o)
unfolding found_or
found_by_steps parts old None = refl
found_by_steps parts old (Some steps) = refl

pub whole_written : (path : Path) (parts : Cells) (f : Inner) → only_parts (reverse path) ≡ true → (λ other. by_steps parts (by_paths f other) (onward path other)) ≡ by_paths (placed (reverse path) (whole parts) f)
whole_written path parts f only =
    same_at _ _ (λ other.
    ap (by_steps parts (f (reverse other))) (onward_is path other)
    ∙ sym (placed_whole (reverse path) parts f (reverse other) only ∙ found_by_steps parts (f (reverse other)) (stripped (reverse path) (reverse other))))
