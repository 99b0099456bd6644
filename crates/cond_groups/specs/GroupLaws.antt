-- Laws, not part of the meaning:
-- what is read in open groups whose conditions fit.
use Rattle.std.proofs.Common.{◌≡◌, ℕ, Bool, true, false, List, [], ◌∷◌, map, IsTrue, refl, sym, ◌∙◌, subst}
use Rattle.std.proofs.lemmas.List.Elements.{All-nil, All-head, All-tail}
use Rattle.cond_formula.specs.Conditions.{Condition, value}
use Rattle.file_walks.specs.Walk.{Open, reads, waits, passed, skipped, are_read}
use Rattle.cond_groups.specs.Groups.{PlainGroup, Fits, AllFit, open_at, level_at, read_in, left}

read-level : (w r t last : Bool) → (IsTrue r → IsTrue w) → are_read (level_at w r t last ∷ []) ≡ r
read-level true true t last h = refl
read-level true false true last h = refl
read-level true false false last h = refl
read-level false true t last h = h refl
read-level false false t last h = refl

read-outer : (l : Open) (outer : List Open) → are_read (l ∷ outer) ≡ are_read (l ∷ [])
read-outer (reads last) outer = refl
read-outer (waits last) outer = refl
read-outer (passed last) outer = refl
read-outer (skipped last) outer = refl

-- a configuration in which the file is read reads lines where the groups say
pub read-is : (features : ℕ → Bool) (at : Condition) (groups : List PlainGroup) → AllFit features at groups → IsTrue (value features at) → are_read (map (open_at features) groups) ≡ value features (read_in at groups)
read-is features at [] fit h = sym h
read-is features at (g ∷ outer) fit h =
    read-outer (open_at features g) (map (open_at features) outer)
    ∙ read-level (value features g.within) (value features g.reads_when) (value features g.waits_when) g.last (All-head (λ g'. Fits features at g') g outer fit).reads

-- lines are read only where the file is
pub read-inside : (features : ℕ → Bool) (at : Condition) (groups : List PlainGroup) → AllFit features at groups → IsTrue (value features (read_in at groups)) → IsTrue (value features at)
read-inside features at [] fit h = h
read-inside features at (g ∷ outer) fit h =
    let f = All-head (λ g'. Fits features at g') g outer fit in
    f.inside (f.reads h)

-- without the innermost
pub fits-left : (features : ℕ → Bool) (at : Condition) (groups : List PlainGroup) → AllFit features at groups → AllFit features at (left groups)
fits-left features at [] fit = fit
fits-left features at (g ∷ outer) fit = All-tail (λ g'. Fits features at g') g outer fit

-- in a file that is read no longer nothing is open
pub fits-none : (features : ℕ → Bool) (at : Condition) (groups : List PlainGroup) → groups ≡ [] → AllFit features at groups
fits-none features at groups none = subst (λ gs. AllFit features at gs) (sym none) (All-nil (λ g. Fits features at g))
