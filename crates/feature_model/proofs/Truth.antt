-- What is read over truth values is the truth of the tree that is read.
use Rattle.std.proofs.Common.{◌≡◌, ℕ, zero, suc, Bool, true, false, not, ◌&&◌, ◌||◌, List, [], ◌∷◌, ◌++◌, Option, Some, None, map, refl, sym, ap, ◌∙◌}
use Rattle.std.specs.Prelude.{option_map, option_and_then, if◌then◌else◌, String}
use Rattle.std.specs.declared.alloc.Global.{Global}
use Rattle.std.proofs.lemmas.List.{map-append}
use Rattle.feature_model.specs.declared.signs.Sign.TheVariants.{Not, And, Or, Implies, Equals, Opens, Closes}
use Rattle.feature_model.specs.Tokens.{Token, Name, Mark}
use Rattle.feature_model.specs.Trees.{Tree, named, inverse, grouped, both, either, implies, equals, holds}
use Rattle.feature_model.specs.Reading.{Algebra, Sides, Wanting, Place, wants, has, Reading, joined_sides, implied, inversions, trees, truths, read, next, placed, closed, finished, whole, at_start}

abbrev odd : ℕ → Bool
odd zero = false
odd (suc n) = not (odd n)

flip : (b x : Bool) → (if not b then not x else x) ≡ (if b then not (not x) else not x)
flip true true = refl
flip true false = refl
flip false true = refl
flip false false = refl

module _ (features : List (String Global)) (on : ℕ → Bool) where
  abbrev truth : Tree → Bool
  truth t = holds features on t

  abbrev T : Algebra Bool Bool
  T = truths features on

  abbrev at_sides : Sides Tree → Sides Bool
  at_sides s = record { same = option_map truth s.same; premises = map truth s.premises; any = option_map truth s.any }

  abbrev at_wanting : Wanting Tree ℕ → Wanting Bool Bool
  at_wanting w = record { sides = at_sides w.sides; all = option_map truth w.all; nots = odd w.nots }

  abbrev at_place : Place Tree ℕ → Place Bool Bool
  at_place (wants w) = wants (at_wanting w)
  at_place (has s c) = has (at_sides s) (truth c)

  abbrev at_reading : Reading Tree ℕ → Reading Bool Bool
  at_reading r = record { place = at_place r.place; outer = map at_wanting r.outer }

  inversions_hold : (n : ℕ) (a : Tree) → (if odd n then not (truth a) else truth a) ≡ truth (inversions n a)
  inversions_hold zero a = refl
  inversions_hold (suc n) a = flip (odd n) (truth a) ∙ inversions_hold n (inverse a)

  joined_hold :
      (op : Tree → Tree → Tree) (p : Bool → Bool → Bool) → ((a b : Tree) → p (truth a) (truth b) ≡ truth (op a b))
      → (o : Option Tree) (a : Tree) → joined_sides p (option_map truth o) (truth a) ≡ truth (joined_sides op o a)
  joined_hold op p e None a = refl
  joined_hold op p e (Some b) a = e b a

  implied_hold :
      (ps : List Tree) (c : Tree)
      → implied (λ a b. not a || b) (map truth ps) (truth c) ≡ truth (implied implies ps c)
  implied_hold [] c = refl
  implied_hold (p ∷ ps) c = ap (λ x. not (truth p) || x) (implied_hold ps c)

  abbrev any_hold : (o : Option Tree) (a : Tree) → joined_sides (λ x y. x || y) (option_map truth o) (truth a) ≡ truth (joined_sides either o a)
  any_hold o a = joined_hold either (λ x y. x || y) (λ x y. refl) o a

  whole_holds : (s : Sides Tree) (c : Tree) → whole T (at_sides s) (truth c) ≡ truth (whole trees s c)
  whole_holds s c =
      ap
      (λ x.
      joined_sides (λ a b. if a then b else not b) (option_map truth s.same)
      (implied (λ a b. not a || b) (map truth s.premises) x))
      (any_hold s.any c)
      ∙ ap (joined_sides (λ a b. if a then b else not b) (option_map truth s.same))
      (implied_hold s.premises (joined_sides either s.any c))
      ∙ joined_hold equals (λ a b. if a then b else not b) (λ a b. refl) s.same
      (implied implies s.premises (joined_sides either s.any c))

  placed_holds :
      (w : Wanting Tree ℕ) (outer : List (Wanting Tree ℕ)) (a : Tree)
      → placed T (at_wanting w) (map at_wanting outer) (truth a) ≡ at_reading (placed trees w outer a)
  placed_holds w outer a =
      ap
      (λ x. let r : Reading Bool Bool = record { place = has (at_sides w.sides) x; outer = map at_wanting outer } in r)
      (ap (joined_sides (λ x y. x && y) (option_map truth w.all)) (inversions_hold w.nots a)
      ∙ joined_hold both (λ x y. x && y) (λ x y. refl) w.all (inversions w.nots a))

  wanted_holds :
      (w : Wanting Tree ℕ) (outer : List (Wanting Tree ℕ)) (token : Token)
      → next T (wants (at_wanting w)) (map at_wanting outer) token
      ≡ option_map at_reading (next trees (wants w) outer token)
  wanted_holds w outer (Name x) = ap (λ r. Some r) (placed_holds w outer (named x))
  wanted_holds w outer (Mark Not) = refl
  wanted_holds w outer (Mark And) = refl
  wanted_holds w outer (Mark Or) = refl
  wanted_holds w outer (Mark Implies) = refl
  wanted_holds w outer (Mark Equals) = refl
  wanted_holds w outer (Mark Opens) = refl
  wanted_holds w outer (Mark Closes) = refl

  closed_holds :
      (outer : List (Wanting Tree ℕ)) (a : Tree) (x : Bool) → x ≡ truth a
      → closed T (map at_wanting outer) x ≡ option_map at_reading (closed trees outer a)
  closed_holds [] a x e = refl
  closed_holds (w ∷ outer) a x e =
      ap (λ y. Some (placed T (at_wanting w) (map at_wanting outer) y)) e ∙ ap (λ r. Some r) (placed_holds w outer a)

  abbrev waiting : Option Bool → List Bool → Option Bool → List (Wanting Tree ℕ) → Option (Reading Bool Bool)
  waiting same premises any outer =
      Some
      (record {
        place = wants
            (record {
              sides = record { same = same; premises = premises; any = any };
              all = None;
              nots = false;
            });
        outer = map at_wanting outer;
      })

  behind_holds :
      (s : Sides Tree) (c : Tree) (outer : List (Wanting Tree ℕ)) (token : Token)
      → next T (has (at_sides s) (truth c)) (map at_wanting outer) token
      ≡ option_map at_reading (next trees (has s c) outer token)
  behind_holds s c outer (Name x) = refl
  behind_holds s c outer (Mark Not) = refl
  behind_holds s c outer (Mark And) = refl
  behind_holds s c outer (Mark Or) =
      ap (λ x. waiting (option_map truth s.same) (map truth s.premises) (Some x) outer) (any_hold s.any c)
  behind_holds s c outer (Mark Implies) =
      ap (λ x. waiting (option_map truth s.same) (map truth s.premises ++ x ∷ []) None outer) (any_hold s.any c)
      ∙ ap (λ l. waiting (option_map truth s.same) l None outer)
      (sym (map-append truth s.premises (joined_sides either s.any c ∷ [])))
  behind_holds s c outer (Mark Equals) = ap (λ x. waiting (Some x) [] None outer) (whole_holds s c)
  behind_holds s c outer (Mark Opens) = refl
  behind_holds s c outer (Mark Closes) =
      closed_holds outer (grouped (whole trees s c)) (whole T (at_sides s) (truth c)) (whole_holds s c)

  next_holds :
      (p : Place Tree ℕ) (outer : List (Wanting Tree ℕ)) (token : Token)
      → next T (at_place p) (map at_wanting outer) token ≡ option_map at_reading (next trees p outer token)
  next_holds (wants w) outer token = wanted_holds w outer token
  next_holds (has s c) outer token = behind_holds s c outer token

  ends_hold :
      (p : Place Tree ℕ) (outer : List (Wanting Tree ℕ))
      → finished T (at_place p) (map at_wanting outer) ≡ option_map truth (finished trees p outer)
  ends_hold (wants w) outer = refl
  ends_hold (has s c) [] = ap (λ x. Some x) (whole_holds s c)
  ends_hold (has s c) (w ∷ outer) = refl

  read_holds :
      (ks : List Token) (r : Reading Tree ℕ) → read T (at_reading r) ks ≡ option_map truth (read trees r ks)
  read_holds [] r = ends_hold r.place r.outer
  read_holds (k ∷ ks) r =
      ap (option_and_then (λ q. read T q ks)) (next_holds r.place r.outer k)
      ∙ onward (λ q. read_holds ks q) (next trees r.place r.outer k)
    where
      onward :
          ((q : Reading Tree ℕ) → read T (at_reading q) ks ≡ option_map truth (read trees q ks))
          → (x : Option (Reading Tree ℕ))
          → option_and_then (λ q. read T q ks) (option_map at_reading x)
          ≡ option_map truth (option_and_then (λ q. read trees q ks) x)
      onward ih None = refl
      onward ih (Some q) = ih q

  pub truth_read : (ks : List Token) → read T (at_start T) ks ≡ option_map truth (read trees (at_start trees) ks)
  truth_read ks = read_holds ks (at_start trees)
