-- Alternatives put behind others.
use Rattle.std.proofs.Common.{◌≡◌, ℕ, zero, suc, ◌+◌, ◌<◌, Bool, true, false, ◌||◌, List, [], ◌∷◌, ◌++◌, length, drop, get_or, Option, Some, None, IsTrue, refl, sym, ap, ◌∙◌, arith, add-one, drop-cons}
use Rattle.std.specs.Bool.{if◌then◌else◌}
use Rattle.cond_formula.specs.declared.formulas.Formula.{Formula}
use Rattle.cond_formula.specs.Conditions.{condition_of, value}
use Rattle.choice_trees.specs.declared.trees.Item.{Item}
use Rattle.choice_trees.specs.ChoiceTrees.{plain_item, plain_branches}
use Rattle.choice_states.specs.Seen.{Seen, seen_at, branch_seen}
use Rattle.choice_states.specs.Parts.{is_there}

unfoldable pub or_later : Option Seen → Option Seen → Option Seen
or_later None second = second
or_later (Some first) second = Some first

pub or_later-none : (first : Option Seen) → or_later first None ≡ first
unfolding or_later
or_later-none None = refl
or_later-none (Some first) = refl

chosen : (b : Bool) (first : Seen) (second other : Option Seen) → (if b then Some first else or_later second other) ≡ or_later (if b then Some first else second) other
unfolding or_later
chosen true first second other = refl
chosen false first second other = refl

pub branches_append : (on : ℕ → Bool) (xs ys : List (Formula × Item)) → branch_seen on (plain_branches (xs ++ ys)) ≡ or_later (branch_seen on (plain_branches xs)) (branch_seen on (plain_branches ys))
unfolding or_later
branches_append on [] ys = refl
branches_append on (x ∷ xs) ys =
    ap (λ r. if value on (condition_of x.0) then Some (seen_at on (plain_item x.1)) else r) (branches_append on xs ys)
    ∙ chosen (value on (condition_of x.0)) (seen_at on (plain_item x.1)) (branch_seen on (plain_branches xs)) (branch_seen on (plain_branches ys))

pub one_behind : (on : ℕ → Bool) (xs : List (Formula × Item)) (f : Formula) (item : Item)
    → branch_seen on (plain_branches (xs ++ (f, item) ∷ [])) ≡ or_later (branch_seen on (plain_branches xs)) (if value on (condition_of f) then Some (seen_at on (plain_item item)) else None)
one_behind on xs f item = branches_append on xs ((f, item) ∷ [])

-- an alternative more, where all is true and elsewhere
one_more : (here when : Bool) (item : Seen) (before : Option Seen)
    → or_later (if here then before else None) (if (if here then when else false) then Some item else None)
    ≡ (if here then or_later before (if when then Some item else None) else None)
unfolding or_later
one_more true when item before = refl
one_more false when item before = refl

pub restricted_step :
    (on : ℕ → Bool) (here : Bool) (done yielded : List (Formula × Item)) (f condition : Formula) (item : Item)
    → value on (condition_of condition) ≡ (if here then value on (condition_of f) else false)
    → branch_seen on (plain_branches done) ≡ (if here then branch_seen on (plain_branches yielded) else None)
    → branch_seen on (plain_branches (done ++ (condition, item) ∷ [])) ≡ (if here then branch_seen on (plain_branches (yielded ++ (f, item) ∷ [])) else None)
restricted_step on here done yielded f condition item is so_far =
    one_behind on done condition item
    ∙ ap (λ r. or_later r (if value on (condition_of condition) then Some (seen_at on (plain_item item)) else None)) so_far
    ∙ ap (λ b. or_later (if here then branch_seen on (plain_branches yielded) else None) (if b then Some (seen_at on (plain_item item)) else None)) is
    ∙ one_more here (value on (condition_of f)) (seen_at on (plain_item item)) (branch_seen on (plain_branches yielded))
    ∙ ap (λ r. if here then r else None) (sym (one_behind on yielded f item))

-- an alternative is kept by another condition that is alike, or dropped where it doesn't hold
pub kept_step :
    (on : ℕ → Bool) (done : List (Formula × Item)) (f left : Formula) (item : Item)
    → value on (condition_of left) ≡ value on (condition_of f)
    → branch_seen on (plain_branches (done ++ (left, item) ∷ [])) ≡ branch_seen on (plain_branches (done ++ (f, item) ∷ []))
kept_step on done f left item is =
    one_behind on done left item
    ∙ ap (λ b. or_later (branch_seen on (plain_branches done)) (if b then Some (seen_at on (plain_item item)) else None)) is
    ∙ sym (one_behind on done f item)

pub dropped_step :
    (on : ℕ → Bool) (done : List (Formula × Item)) (f : Formula) (item : Item)
    → value on (condition_of f) ≡ false
    → branch_seen on (plain_branches done) ≡ branch_seen on (plain_branches (done ++ (f, item) ∷ []))
dropped_step on done f item is =
    sym (or_later-none (branch_seen on (plain_branches done)))
    ∙ ap (λ b. or_later (branch_seen on (plain_branches done)) (if b then Some (seen_at on (plain_item item)) else None)) (sym is)
    ∙ sym (one_behind on done f item)

pub same_behind :
    (on : ℕ → Bool) (done yielded : List (Formula × Item)) (f : Formula) (item : Item)
    → branch_seen on (plain_branches done) ≡ branch_seen on (plain_branches yielded)
    → branch_seen on (plain_branches (done ++ (f, item) ∷ [])) ≡ branch_seen on (plain_branches (yielded ++ (f, item) ∷ []))
same_behind on done yielded f item so_far =
    one_behind on done f item
    ∙ ap (λ r. or_later r (if value on (condition_of f) then Some (seen_at on (plain_item item)) else None)) so_far
    ∙ sym (one_behind on yielded f item)

-- one of some alternatives holds
pub there_first : (on : ℕ → Bool) (f : Formula) (item : Item) (rest : List (Formula × Item))
    → is_there (branch_seen on (plain_branches ((f, item) ∷ rest))) ≡ (value on (condition_of f) || is_there (branch_seen on (plain_branches rest)))
there_first on f item rest = by_value (value on (condition_of f))
  where
    by_value : (b : Bool) → is_there (if b then Some (seen_at on (plain_item item)) else branch_seen on (plain_branches rest)) ≡ (b || is_there (branch_seen on (plain_branches rest)))
    by_value true = refl
    by_value false = refl

or_assoc : (a b c : Bool) → ((a || b) || c) ≡ (a || (b || c))
or_assoc true b c = refl
or_assoc false b c = refl

or_true : (b : Bool) → (b || true) ≡ true
or_true true = refl
or_true false = refl

-- an alternative that holds is there
pub holds_there : (on : ℕ → Bool) (xs : List (Formula × Item)) (i : ℕ) (x : Formula × Item) → i < length xs → x ≡ get_or xs i x → IsTrue (value on (condition_of x.0))
    → IsTrue (is_there (branch_seen on (plain_branches xs)))
holds_there on [] i x within is holds = absurd (omega arith)
holds_there on ((f, item) ∷ rest) zero x within is holds =
    there_first on f item rest ∙ ap (λ (b : Bool). b || is_there (branch_seen on (plain_branches rest))) (ap (λ (b : Formula × Item). value on (condition_of b.0)) (sym is) ∙ holds)
holds_there on ((f, item) ∷ rest) (suc i) x within is holds =
    there_first on f item rest ∙ ap (λ b. value on (condition_of f) || b) (holds_there on rest i x (omega arith) is holds) ∙ or_true (value on (condition_of f))

rest_of : (xs : List (Formula × Item)) (x : Formula × Item) (i : ℕ) → i < length xs → x ≡ get_or xs i x → drop i xs ≡ x ∷ drop (i + 1) xs
rest_of xs x i within is = rw (add-one, drop-cons xs i x within) (ap (λ y. y ∷ drop (suc i) xs) (sym is))

-- what of the rest holds, behind one alternative of all
pub conditions_step :
    (on : ℕ → Bool) (xs : List (Formula × Item)) (i : ℕ) (x : Formula × Item) (all now total : Bool) → i < length xs → x ≡ get_or xs i x
    → now ≡ (all || value on (condition_of x.0))
    → (all || is_there (branch_seen on (plain_branches (drop i xs)))) ≡ total → (now || is_there (branch_seen on (plain_branches (drop (i + 1) xs)))) ≡ total
conditions_step on xs i x all now total within is step before =
    ap (λ (b : Bool). b || is_there (branch_seen on (plain_branches (drop (i + 1) xs)))) step
    ∙ or_assoc all (value on (condition_of x.0)) (is_there (branch_seen on (plain_branches (drop (i + 1) xs))))
    ∙ ap (λ (b : Bool). all || b) (sym (there_first on x.0 x.1 (drop (i + 1) xs)))
    ∙ ap (λ rest. all || is_there (branch_seen on (plain_branches rest))) (sym (rest_of xs x i within is))
    ∙ before
