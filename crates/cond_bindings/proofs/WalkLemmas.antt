-- Where none of the declarations is there that a use may see.
use Rattle.std.proofs.Common.{◌≡◌, ℕ, ◌<◌, ◌≤◌, Bool, true, false, not, ◌&&◌, ◌||◌, List, [], ◌∷◌, length, take, get_or, IsTrue, refl, sym, ap, ◌∙◌, arith}
use Rattle.std.specs.Prelude.{Option, Some, None, is_none, is_some, if◌then◌else◌}
use Rattle.std.proofs.lemmas.List.{length-take}
use Rattle.cond_formula.specs.Conditions.{condition_of, value}
use Rattle.core_meaning.specs.Entities.{or_else}
use Rattle.cond_bindings.specs.declared.unit_bindings.Declaration.{Declaration}
use Rattle.cond_bindings.specs.Bindings.{Visible, visible, innermost, first}
use Rattle.cond_bindings.specs.Unseen.{none_there}
use Rattle.cond_bindings.proofs.PlaceLemmas.{visible_none, visible_past, visible_in_front}

and_assoc : (a b c : Bool) → ((a && b) && c) ≡ (a && (b && c))
and_assoc true b c = refl
and_assoc false b c = refl

and_true : (a : Bool) → (a && true) ≡ a
and_true true = refl
and_true false = refl

pub none_yet : (path seen : Bool) → seen ≡ false → path ≡ (path && not seen)
none_yet path seen none = sym (and_true path) ∙ ap (λ b. path && not b) (sym none)

-- the path where one thing more isn't seen
pub narrower : (path seen there now : Bool) → now ≡ (seen || there) → (path && not now) ≡ ((path && not seen) && not there)
narrower path true there now is = ap (λ b. path && not b) is ∙ none path there
  where
    none : (p t : Bool) → (p && false) ≡ ((p && false) && not t)
    none true t = refl
    none false t = refl
narrower path false there now is = ap (λ b. path && not b) is ∙ ap (λ b. b && not there) (sym (and_true path))

-- nothing is left of a path on which all is seen
pub nothing_left : (path seen others whole : Bool) → (IsTrue path → IsTrue seen) → ((path && not seen) && others) ≡ whole → false ≡ whole
nothing_left true seen others whole follows is = ap (λ b. not b && others) (sym (follows refl)) ∙ is
nothing_left false seen others whole follows is = is

-- one step: from declarations of the front of a list, with the path that is left so far
module _ (on : ℕ → Bool) (ds : List Declaration) (behind : ℕ) (next : Option ℕ) (path whole : Bool) (so_far : (path && none_there on (visible (take behind ds) next)) ≡ whole) where
  unseen_end : visible (take behind ds) next ≡ [] → path ≡ whole
  unseen_end none = sym (and_true path) ∙ ap (λ (vs : List Visible). path && none_there on vs) (sym none) ∙ so_far

  pub ended : next ≡ None → path ≡ whole
  ended is = unseen_end (ap (visible (take behind ds)) is ∙ visible_none (take behind ds))

  pub past : (place : ℕ) → next ≡ Some place → behind ≤ place → path ≡ whole
  past place is le = unseen_end (ap (visible (take behind ds)) is ∙ visible_past (take behind ds) place (omega (arith, length-take behind ds)))

  module _ (place : ℕ) (d : Declaration) (is : next ≡ Some place) (lt : place < behind) (le : behind ≤ length ds) (at : d ≡ get_or ds place d) where
    stepped : (path && (not (value on (condition_of d.when)) && none_there on (visible (take place ds) d.hides))) ≡ whole
    stepped = ap (λ (vs : List Visible). path && none_there on vs) (sym (ap (visible (take behind ds)) is ∙ visible_in_front ds behind place d lt le at)) ∙ so_far

    pub gone_on : (left : Bool) → left ≡ (path && not (value on (condition_of d.when))) → (left && none_there on (visible (take place ds) d.hides)) ≡ whole
    gone_on left without =
        ap (λ (b : Bool). b && none_there on (visible (take place ds) d.hides)) without
        ∙ and_assoc path (not (value on (condition_of d.when))) (none_there on (visible (take place ds) d.hides))
        ∙ stepped

none_of_both : (a b : Option ℕ) → is_none (or_else a b) ≡ (is_none a && is_none b)
none_of_both None b = refl
none_of_both (Some n) b = refl

pub innermost_is_none : (on : ℕ → Bool) (vs : List Visible) → is_none (innermost on vs) ≡ none_there on vs
innermost_is_none on [] = refl
innermost_is_none on (v ∷ outer) = one (value on v.when) (innermost on outer) ∙ ap (λ b. not (value on v.when) && b) (innermost_is_none on outer)
  where
    one : (b : Bool) (o : Option ℕ) → is_none (if b then Some v.number else o) ≡ (not b && is_none o)
    one true o = refl
    one false o = refl

first_is_none : (on : ℕ → Bool) (vs : List Visible) → is_none (first on vs) ≡ none_there on vs
first_is_none on [] = refl
first_is_none on (v ∷ earlier) = one (value on v.when) (first on earlier) ∙ ap (λ b. not (value on v.when) && b) (first_is_none on earlier)
  where
    one : (b : Bool) (o : Option ℕ) → is_none (or_else o (if b then Some v.number else None)) ≡ (not b && is_none o)
    one true None = refl
    one true (Some n) = refl
    one false None = refl
    one false (Some n) = refl

-- undeclared is what has no declaration in open blocks, and none at file scope
pub undeclared_is : (on : ℕ → Bool) (path : Bool) (block file : List Visible) → ((path && none_there on block) && none_there on file) ≡ (path && is_none (or_else (innermost on block) (first on file)))
undeclared_is on path block file =
    and_assoc path (none_there on block) (none_there on file)
    ∙ ap (λ b. path && (b && none_there on file)) (sym (innermost_is_none on block))
    ∙ ap (λ b. path && (is_none (innermost on block) && b)) (sym (first_is_none on file))
    ∙ ap (λ b. path && b) (sym (none_of_both (innermost on block) (first on file)))

not_some : (o : Option ℕ) → is_none o ≡ not (is_some o)
not_some None = refl
not_some (Some n) = refl

is_there : (o : Option ℕ) → not (is_none o) ≡ is_some o
is_there None = refl
is_there (Some n) = refl

-- of file scope is what has no declaration in open blocks, and one at file scope
pub of_file_is : (on : ℕ → Bool) (path : Bool) (block file : List Visible) → ((path && none_there on block) && not (none_there on file)) ≡ (path && (not (is_some (innermost on block)) && is_some (first on file)))
of_file_is on path block file =
    and_assoc path (none_there on block) (not (none_there on file))
    ∙ ap (λ b. path && (b && not (none_there on file))) (sym (innermost_is_none on block) ∙ not_some (innermost on block))
    ∙ ap (λ b. path && (not (is_some (innermost on block)) && b)) (ap not (sym (first_is_none on file)) ∙ is_there (first on file))
