-- A constraint read token by token: operands that wait for more, and what connectives make of them.
use Rattle.std.specs.Prelude.{ℕ, zero, suc, Bool, false, not, ◌&&◌, ◌||◌, List, [], ◌∷◌, ◌++◌, Option, Some, None, if◌then◌else◌, option_and_then, String}
use Rattle.std.specs.declared.alloc.Global.{Global}
use Rattle.feature_model.specs.declared.signs.Sign.TheVariants.{Not, And, Or, Implies, Equals, Opens, Closes}
use Rattle.feature_model.specs.Tokens.{Token, Name, Mark}
use Rattle.feature_model.specs.Trees.{Tree, named, inverse, grouped, both, either, implies, equals, feature_number, on_feature}

-- what names and connectives make: trees, or truth values
pub record Algebra (A N : Type 0) : Type 0 where
  pub of_name : List ℕ → A
  -- no `!`, one more, and what they make of an operand
  pub plain : N
  pub once_more : N → N
  pub inverted : N → A → A
  pub in_group : A → A
  pub all_of : A → A → A
  pub any_of : A → A → A
  pub leads_to : A → A → A
  pub same_as : A → A → A

-- Left sides that wait for their right sides: of `<->`, of `->` with the first one first, of `||`.
pub record Sides (A : Type 0) : Type 0 where
  pub same : Option A
  pub premises : List A
  pub any : Option A

-- what waits for an operand: besides them a left side of `&&`, and the `!` behind it
pub record Wanting (A N : Type 0) : Type 0 where
  pub sides : Sides A
  pub all : Option A
  pub nots : N

-- An operand is wanted, or conjuncts are there.
pub data Place (A N : Type 0) : Type 0 where
  wants : Wanting A N → Place A N
  has : Sides A → A → Place A N

-- the place in the innermost group, and what waits for each open group, the innermost first
pub record Reading (A N : Type 0) : Type 0 where
  pub place : Place A N
  pub outer : List (Wanting A N)

abbrev pub joined_sides : {A : Type 0} → (A → A → A) → Option A → A → A
joined_sides op None right = right
joined_sides op (Some left) right = op left right

abbrev pub implied : {A : Type 0} → (A → A → A) → List A → A → A
implied op [] conclusion = conclusion
implied op (premise ∷ rest) conclusion = op premise (implied op rest conclusion)

abbrev pub no_sides : {A : Type 0} → Sides A
no_sides = record { same = None; premises = []; any = None }

module _ {A N : Type 0} (R : Algebra A N) where
  abbrev pub fresh : Sides A → Wanting A N
  fresh sides = record { sides = sides; all = None; nots = R.plain }

  abbrev pub at_sides : Sides A → List (Wanting A N) → Reading A N
  at_sides sides outer = record { place = wants (fresh sides); outer = outer }

  abbrev pub wanting : Sides A → List (Wanting A N) → Option (Reading A N)
  wanting sides outer = Some (at_sides sides outer)

  -- all that waits in a group, with its last conjuncts
  abbrev pub whole : Sides A → A → A
  whole sides last =
      joined_sides R.same_as sides.same (implied R.leads_to sides.premises (joined_sides R.any_of sides.any last))

  abbrev pub placed : Wanting A N → List (Wanting A N) → A → Reading A N
  placed w outer a = record { place = has w.sides (joined_sides R.all_of w.all (R.inverted w.nots a)); outer = outer }

  abbrev pub closed : List (Wanting A N) → A → Option (Reading A N)
  closed [] a = None
  closed (w ∷ outer) a = Some (placed w outer a)

  abbrev pub wanted : Wanting A N → List (Wanting A N) → Token → Option (Reading A N)
  wanted w outer (Name name) = Some (placed w outer (R.of_name name))
  wanted w outer (Mark Not) =
      Some (record { place = wants (record { sides = w.sides; all = w.all; nots = R.once_more w.nots }); outer = outer })
  wanted w outer (Mark Opens) = wanting no_sides (w ∷ outer)
  wanted w outer (Mark sign) = None

  abbrev pub reading_behind : Sides A → A → List (Wanting A N) → Token → Option (Reading A N)
  reading_behind s c outer (Name name) = None
  reading_behind s c outer (Mark And) =
      Some (record { place = wants (record { sides = s; all = Some c; nots = R.plain }); outer = outer })
  reading_behind s c outer (Mark Or) =
      wanting (record { same = s.same; premises = s.premises; any = Some (joined_sides R.any_of s.any c) }) outer
  reading_behind s c outer (Mark Implies) =
      wanting (record { same = s.same; premises = s.premises ++ joined_sides R.any_of s.any c ∷ []; any = None }) outer
  reading_behind s c outer (Mark Equals) = wanting (record { same = Some (whole s c); premises = []; any = None }) outer
  reading_behind s c outer (Mark Closes) = closed outer (R.in_group (whole s c))
  reading_behind s c outer (Mark sign) = None

  abbrev pub next : Place A N → List (Wanting A N) → Token → Option (Reading A N)
  next (wants w) outer token = wanted w outer token
  next (has s c) outer token = reading_behind s c outer token

  abbrev pub finished : Place A N → List (Wanting A N) → Option A
  finished (wants w) outer = None
  finished (has s c) [] = Some (whole s c)
  finished (has s c) (w ∷ outer) = None

  abbrev pub read : Reading A N → List Token → Option A
  read r [] = finished r.place r.outer
  read r (token ∷ rest) = option_and_then (λ q. read q rest) (next r.place r.outer token)

  abbrev pub at_start : Reading A N
  at_start = record { place = wants (fresh no_sides); outer = [] }

abbrev pub inversions : ℕ → Tree → Tree
inversions zero a = a
inversions (suc n) a = inversions n (inverse a)

abbrev pub trees : Algebra Tree ℕ
trees = record {
  of_name = named;
  plain = zero;
  once_more = λ n. suc n;
  inverted = inversions;
  in_group = grouped;
  all_of = both;
  any_of = either;
  leads_to = implies;
  same_as = equals;
}

abbrev pub truths : List (String Global) → (ℕ → Bool) → Algebra Bool Bool
truths features on = record {
  of_name = λ name. on_feature on (feature_number features name);
  plain = false;
  once_more = not;
  inverted = λ n a. if n then not a else a;
  in_group = λ a. a;
  all_of = λ a b. a && b;
  any_of = λ a b. a || b;
  leads_to = λ a b. not a || b;
  same_as = λ a b. if a then b else not b;
}
