-- What a tree spells is read to its end, as this tree.
use Rattle.std.proofs.Common.{◌≡◌, ℕ, zero, suc, ◌≤◌, List, [], ◌∷◌, ◌++◌, Option, Some, None, refl, ap, ◌∙◌, arith}
use Rattle.feature_model.specs.declared.signs.Sign.TheVariants.{Not, And, Or, Implies, Equals, Opens, Closes}
use Rattle.feature_model.specs.Tokens.{Token, Name, Mark}
use Rattle.feature_model.specs.Trees.{Tree, named, inverse, grouped, both, either, implies, equals, spell, strength, Fits}
use Rattle.feature_model.specs.Reading.{Sides, Wanting, wants, has, joined_sides, implied, no_sides, inversions, trees, read, at_start}

abbrev pub sides : Option Tree → List Tree → Option Tree → Sides Tree
sides same premises any = record { same = same; premises = premises; any = any }

-- the tree of what is read where an operand is wanted, and behind conjuncts
abbrev pub wanted_read : Sides Tree → Option Tree → ℕ → List (Wanting Tree ℕ) → List Token → Option Tree
wanted_read s all n outer k =
    read trees (record { place = wants (record { sides = s; all = all; nots = n }); outer = outer }) k

abbrev pub had_read : Sides Tree → Tree → List (Wanting Tree ℕ) → List Token → Option Tree
had_read s c outer k = read trees (record { place = has s c; outer = outer }) k

-- how tight the next connective binds, if one is next
abbrev pub binding : List Token → ℕ
binding (Mark And ∷ k) = 4
binding (Mark Or ∷ k) = 3
binding (Mark Implies ∷ k) = 2
binding (Mark Equals ∷ k) = 1
binding k = 0

abbrev pub Tight : Tree → Type 0
Tight t =
    (s : Sides Tree) (all : Option Tree) (n : ℕ) (outer : List (Wanting Tree ℕ)) (k : List Token)
    → wanted_read s all n outer (spell t k) ≡ had_read s (joined_sides both all (inversions n t)) outer k

abbrev pub Conjunct : Tree → Type 0
Conjunct t =
    (s : Sides Tree) (outer : List (Wanting Tree ℕ)) (k : List Token)
    → wanted_read s None zero outer (spell t k) ≡ had_read s t outer k

abbrev pub Disjunct : Tree → Type 0
Disjunct t =
    (same : Option Tree) (premises : List Tree) (outer : List (Wanting Tree ℕ)) (k : List Token) → binding k ≤ 3
    → wanted_read (sides same premises None) None zero outer (spell t k) ≡ had_read (sides same premises None) t outer k

abbrev pub Conclusion : Tree → Type 0
Conclusion t =
    (same : Option Tree) (premises : List Tree) (outer : List (Wanting Tree ℕ)) (k : List Token) → binding k ≤ 1
    → wanted_read (sides same premises None) None zero outer (spell t k) ≡ had_read (sides same premises None) t outer k

abbrev pub Whole : Tree → Type 0
Whole t =
    (outer : List (Wanting Tree ℕ)) (k : List Token) → binding k ≤ 1
    → wanted_read no_sides None zero outer (spell t k) ≡ had_read no_sides t outer k

-- how a tree is read, by its strength
pub record Passes (t : Tree) : Type 0 where
  pub tight : 5 ≤ strength t → Tight t
  pub conjunct : 4 ≤ strength t → Conjunct t
  pub disjunct : 3 ≤ strength t → Disjunct t
  pub conclusion : 2 ≤ strength t → Conclusion t
  pub all : Whole t

from_conclusion : (t : Tree) → Conclusion t → Whole t
from_conclusion t p outer k h = p None [] outer k h

from_disjunct : (t : Tree) → Disjunct t → Conclusion t
from_disjunct t p same premises outer k h = p same premises outer k (omega arith)

from_conjunct : (t : Tree) → Conjunct t → Disjunct t
from_conjunct t p same premises outer k h = p (sides same premises None) outer k

from_tight : (t : Tree) → Tight t → Conjunct t
from_tight t p s outer k = p s None zero outer k

pass5 : (t : Tree) → Tight t → Passes t
pass5 t p =
    let c = from_tight t p in
    let d = from_conjunct t c in
    let e = from_disjunct t d in
    record {
      tight = λ _. p;
      conjunct = λ _. c;
      disjunct = λ _. d;
      conclusion = λ _. e;
      all = from_conclusion t e;
    }

pass4 : (t : Tree) → strength t ≤ 4 → Conjunct t → Passes t
pass4 t w c =
    let d = from_conjunct t c in
    let e = from_disjunct t d in
    record {
      tight = λ h. absurd (omega arith);
      conjunct = λ _. c;
      disjunct = λ _. d;
      conclusion = λ _. e;
      all = from_conclusion t e;
    }

pass3 : (t : Tree) → strength t ≤ 3 → Disjunct t → Passes t
pass3 t w d =
    let e = from_disjunct t d in
    record {
      tight = λ h. absurd (omega arith);
      conjunct = λ h. absurd (omega arith);
      disjunct = λ _. d;
      conclusion = λ _. e;
      all = from_conclusion t e;
    }

pass2 : (t : Tree) → strength t ≤ 2 → Conclusion t → Passes t
pass2 t w e =
    record {
      tight = λ h. absurd (omega arith);
      conjunct = λ h. absurd (omega arith);
      disjunct = λ h. absurd (omega arith);
      conclusion = λ _. e;
      all = from_conclusion t e;
    }

pass1 : (t : Tree) → strength t ≤ 1 → Whole t → Passes t
pass1 t w p =
    record {
      tight = λ h. absurd (omega arith);
      conjunct = λ h. absurd (omega arith);
      disjunct = λ h. absurd (omega arith);
      conclusion = λ h. absurd (omega arith);
      all = p;
    }

-- a connective that binds no tighter takes what waits as one side
settle_or :
    (same : Option Tree) (premises : List Tree) (a b : Tree) (outer : List (Wanting Tree ℕ)) (k : List Token)
    → binding k ≤ 3
    → had_read (sides same premises (Some a)) b outer k ≡ had_read (sides same premises None) (either a b) outer k
settle_or same premises a b [] [] h = refl
settle_or same premises a b (w ∷ outer) [] h = refl
settle_or same premises a b outer (Name x ∷ k) h = refl
settle_or same premises a b outer (Mark Not ∷ k) h = refl
settle_or same premises a b outer (Mark And ∷ k) h = absurd (omega arith)
settle_or same premises a b outer (Mark Or ∷ k) h = refl
settle_or same premises a b outer (Mark Implies ∷ k) h = refl
settle_or same premises a b outer (Mark Equals ∷ k) h = refl
settle_or same premises a b outer (Mark Opens ∷ k) h = refl
settle_or same premises a b outer (Mark Closes ∷ k) h = refl

pub implied-push :
    {A : Type 0} (op : A → A → A) (premises : List A) (a b : A)
    → implied op (premises ++ a ∷ []) b ≡ implied op premises (op a b)
implied-push op [] a b = refl
implied-push op (p ∷ premises) a b = ap (λ x. op p x) (implied-push op premises a b)

settle_implies :
    (same : Option Tree) (premises : List Tree) (a b : Tree) (outer : List (Wanting Tree ℕ)) (k : List Token)
    → binding k ≤ 1
    → had_read (sides same (premises ++ a ∷ []) None) b outer k ≡ had_read (sides same premises None) (implies a b) outer k
settle_implies same premises a b [] [] h = rw (implied-push implies premises a b) refl
settle_implies same premises a b (w ∷ outer) [] h = refl
settle_implies same premises a b outer (Name x ∷ k) h = refl
settle_implies same premises a b outer (Mark Not ∷ k) h = refl
settle_implies same premises a b outer (Mark And ∷ k) h = absurd (omega arith)
settle_implies same premises a b outer (Mark Or ∷ k) h = absurd (omega arith)
settle_implies same premises a b outer (Mark Implies ∷ k) h = absurd (omega arith)
settle_implies same premises a b outer (Mark Equals ∷ k) h = rw (implied-push implies premises a b) refl
settle_implies same premises a b outer (Mark Opens ∷ k) h = refl
settle_implies same premises a b outer (Mark Closes ∷ k) h = rw (implied-push implies premises a b) refl

settle_equals :
    (a b : Tree) (outer : List (Wanting Tree ℕ)) (k : List Token) → binding k ≤ 1
    → had_read (sides (Some a) [] None) b outer k ≡ had_read no_sides (equals a b) outer k
settle_equals a b [] [] h = refl
settle_equals a b (w ∷ outer) [] h = refl
settle_equals a b outer (Name x ∷ k) h = refl
settle_equals a b outer (Mark Not ∷ k) h = refl
settle_equals a b outer (Mark And ∷ k) h = absurd (omega arith)
settle_equals a b outer (Mark Or ∷ k) h = absurd (omega arith)
settle_equals a b outer (Mark Implies ∷ k) h = absurd (omega arith)
settle_equals a b outer (Mark Equals ∷ k) h = refl
settle_equals a b outer (Mark Opens ∷ k) h = refl
settle_equals a b outer (Mark Closes ∷ k) h = refl

passes : (t : Tree) → Fits t → Passes t
passes (named x) f = pass5 (named x) (λ s all n outer k. refl)
passes (inverse a) f = pass5 (inverse a) (λ s all n outer k. (passes a f.1).tight f.0 s all (suc n) outer k)
passes (grouped a) f =
    pass5 (grouped a)
    (λ s all n outer k.
    (passes a f).all (record { sides = s; all = all; nots = n } ∷ outer) (Mark Closes ∷ k) (omega arith))
passes (both a b) f =
    pass4 (both a b) (omega arith)
    (λ s outer k.
    (passes a f.2).conjunct f.0 s outer (Mark And ∷ spell b k)
    ∙ (passes b f.3).tight f.1 s (Some a) zero outer k)
passes (either a b) f =
    pass3 (either a b) (omega arith)
    (λ same premises outer k h.
    (passes a f.2).disjunct f.0 same premises outer (Mark Or ∷ spell b k) (omega arith)
    ∙ (passes b f.3).conjunct f.1 (sides same premises (Some a)) outer k
    ∙ settle_or same premises a b outer k h)
passes (implies a b) f =
    pass2 (implies a b) (omega arith)
    (λ same premises outer k h.
    (passes a f.2).disjunct f.0 same premises outer (Mark Implies ∷ spell b k) (omega arith)
    ∙ (passes b f.3).conclusion f.1 same (premises ++ a ∷ []) outer k h
    ∙ settle_implies same premises a b outer k h)
passes (equals a b) f =
    pass1 (equals a b) (omega arith)
    (λ outer k h.
    (passes a f.2).all outer (Mark Equals ∷ spell b k) (omega arith)
    ∙ (passes b f.3).conclusion f.1 (Some a) [] outer k h
    ∙ settle_equals a b outer k h)

pub complete : (t : Tree) → Fits t → read trees (at_start trees) (spell t []) ≡ Some t
complete t f = (passes t f).all [] [] (omega arith)
