-- What is read is what a tree spells.
use Rattle.std.proofs.Common.{◌≡◌, ℕ, zero, suc, ◌≤◌, List, [], ◌∷◌, ◌++◌, Option, Some, None, MatchOption, refl, sym, ap, ◌∙◌, arith}
use Rattle.std.specs.Prelude.{⊤, option_and_then}
use Rattle.feature_model.specs.declared.signs.Sign.{Sign}
use Rattle.feature_model.specs.declared.signs.Sign.TheVariants.{Not, And, Or, Implies, Equals, Opens, Closes}
use Rattle.feature_model.specs.Tokens.{Token, Name, Mark}
use Rattle.feature_model.specs.Trees.{Tree, named, inverse, grouped, both, either, implies, equals, spell, strength, Fits, Spells}
use Rattle.feature_model.specs.Reading.{Sides, Wanting, Place, wants, has, Reading, joined_sides, implied, no_sides, inversions, trees, read, next, closed, finished, whole, at_start}

-- the tokens that were read, and then these
abbrev side_text : Sign → Option Tree → List Token → List Token
side_text sign None k = k
side_text sign (Some t) k = spell t (Mark sign ∷ k)

abbrev premises_text : List Tree → List Token → List Token
premises_text [] k = k
premises_text (p ∷ ps) k = spell p (Mark Implies ∷ premises_text ps k)

abbrev nots_text : ℕ → List Token → List Token
nots_text zero k = k
nots_text (suc n) k = nots_text n (Mark Not ∷ k)

abbrev sides_text : Sides Tree → List Token → List Token
sides_text s k = side_text Equals s.same (premises_text s.premises (side_text Or s.any k))

abbrev wanting_text : Wanting Tree ℕ → List Token → List Token
wanting_text w k = sides_text w.sides (side_text And w.all (nots_text w.nots k))

abbrev place_text : Place Tree ℕ → List Token → List Token
place_text (wants w) k = wanting_text w k
place_text (has s c) k = sides_text s (spell c k)

abbrev outer_text : List (Wanting Tree ℕ) → List Token → List Token
outer_text [] k = k
outer_text (w ∷ ws) k = outer_text ws (wanting_text w (Mark Opens ∷ k))

abbrev reading_text : Reading Tree ℕ → List Token → List Token
reading_text r k = outer_text r.outer (place_text r.place k)

-- each left side binds as tight as its connective wants
abbrev SideFits : ℕ → Option Tree → Type 0
SideFits n None = ⊤
SideFits n (Some t) = (n ≤ strength t) × Fits t

abbrev PremisesFit : List Tree → Type 0
PremisesFit [] = ⊤
PremisesFit (p ∷ ps) = (3 ≤ strength p) × Fits p × PremisesFit ps

record SidesFit (s : Sides Tree) : Type 0 where
  same : SideFits 1 s.same
  premises : PremisesFit s.premises
  any : SideFits 3 s.any

record WantingFits (w : Wanting Tree ℕ) : Type 0 where
  sides : SidesFit w.sides
  all : SideFits 4 w.all

record HasFits (s : Sides Tree) (c : Tree) : Type 0 where
  sides : SidesFit s
  strong : 4 ≤ strength c
  fits : Fits c

abbrev PlaceFits : Place Tree ℕ → Type 0
PlaceFits (wants w) = WantingFits w
PlaceFits (has s c) = HasFits s c

abbrev OuterFits : List (Wanting Tree ℕ) → Type 0
OuterFits [] = ⊤
OuterFits (w ∷ ws) = WantingFits w × OuterFits ws

-- spelling what is joined
spell-side : (op : Tree → Tree → Tree) (sign : Sign) → ((a b : Tree) (k : List Token) → spell (op a b) k ≡ spell a (Mark sign ∷ spell b k))
    → (o : Option Tree) (c : Tree) (k : List Token) → spell (joined_sides op o c) k ≡ side_text sign o (spell c k)
spell-side op sign e None c k = refl
spell-side op sign e (Some a) c k = e a c k

spell-implied : (ps : List Tree) (c : Tree) (k : List Token) → spell (implied implies ps c) k ≡ premises_text ps (spell c k)
spell-implied [] c k = refl
spell-implied (p ∷ ps) c k = ap (λ l. spell p (Mark Implies ∷ l)) (spell-implied ps c k)

spell-inversions : (n : ℕ) (a : Tree) (k : List Token) → spell (inversions n a) k ≡ nots_text n (spell a k)
spell-inversions zero a k = refl
spell-inversions (suc n) a k = spell-inversions n (inverse a) k

spell-whole : (s : Sides Tree) (c : Tree) (k : List Token) → spell (whole trees s c) k ≡ sides_text s (spell c k)
spell-whole s c k =
    spell-side equals Equals (λ a b l. refl) s.same (implied implies s.premises (joined_sides either s.any c)) k
    ∙ ap (side_text Equals s.same)
    (spell-implied s.premises (joined_sides either s.any c) k
    ∙ ap (premises_text s.premises) (spell-side either Or (λ a b l. refl) s.any c k))

premises_text-push : (ps : List Tree) (p : Tree) (k : List Token) → premises_text (ps ++ p ∷ []) k ≡ premises_text ps (spell p (Mark Implies ∷ k))
premises_text-push [] p k = refl
premises_text-push (q ∷ ps) p k = ap (λ l. spell q (Mark Implies ∷ l)) (premises_text-push ps p k)

-- and its fit
fits_inversions : (n : ℕ) (a : Tree) → 5 ≤ strength a → Fits a → (5 ≤ strength (inversions n a)) × Fits (inversions n a)
fits_inversions zero a h f = (h, f)
fits_inversions (suc n) a h f = fits_inversions n (inverse a) (omega arith) (h, f)

fits_all : (o : Option Tree) (c : Tree) → SideFits 4 o → 5 ≤ strength c → Fits c → (4 ≤ strength (joined_sides both o c)) × Fits (joined_sides both o c)
fits_all None c g h f = (omega arith, f)
fits_all (Some a) c g h f = (omega arith, (g.0, h, g.1, f))

fits_any : (o : Option Tree) (c : Tree) → SideFits 3 o → 4 ≤ strength c → Fits c → (3 ≤ strength (joined_sides either o c)) × Fits (joined_sides either o c)
fits_any None c g h f = (omega arith, f)
fits_any (Some a) c g h f = (omega arith, (g.0, h, g.1, f))

fits_implied : (ps : List Tree) (c : Tree) → PremisesFit ps → 2 ≤ strength c → Fits c → (2 ≤ strength (implied implies ps c)) × Fits (implied implies ps c)
fits_implied [] c g h f = (h, f)
fits_implied (p ∷ ps) c g h f = let r = fits_implied ps c g.2 h f in (omega arith, (g.0, r.0, g.1, r.1))

fits_same : (o : Option Tree) (c : Tree) → SideFits 1 o → 2 ≤ strength c → Fits c → (1 ≤ strength (joined_sides equals o c)) × Fits (joined_sides equals o c)
fits_same None c g h f = (omega arith, f)
fits_same (Some a) c g h f = (omega arith, (g.0, h, g.1, f))

fits_whole : (s : Sides Tree) (c : Tree) → HasFits s c → (1 ≤ strength (whole trees s c)) × Fits (whole trees s c)
fits_whole s c g =
    let a = fits_any s.any c g.sides.any g.strong g.fits in
    let i = fits_implied s.premises (joined_sides either s.any c) g.sides.premises (omega arith) a.1 in
    fits_same s.same (implied implies s.premises (joined_sides either s.any c)) g.sides.same i.0 i.1

fits_push : (ps : List Tree) (p : Tree) → PremisesFit ps → 3 ≤ strength p → Fits p → PremisesFit (ps ++ p ∷ [])
fits_push [] p g h f = (h, f, tt)
fits_push (q ∷ ps) p g h f = (g.0, g.1, fits_push ps p g.2 h f)

no_sides_fit : SidesFit no_sides
no_sides_fit = record { same = tt; premises = tt; any = tt }

-- the reading behind a token has read it too
record Goes (before : List Token → List Token) (token : Token) (r : Reading Tree ℕ) : Type 0 where
  text : (k : List Token) → reading_text r k ≡ before (token ∷ k)
  place : PlaceFits r.place
  outer : OuterFits r.outer

abbrev GoesIf : (List Token → List Token) → Token → Option (Reading Tree ℕ) → Type 0
GoesIf before token None = ⊤
GoesIf before token (Some r) = Goes before token r

-- an operand in its place
operand_text : (w : Wanting Tree ℕ) (a : Tree) (k : List Token)
    → sides_text w.sides (spell (joined_sides both w.all (inversions w.nots a)) k) ≡ wanting_text w (spell a k)
operand_text w a k =
    ap (sides_text w.sides)
    (spell-side both And (λ x y l. refl) w.all (inversions w.nots a) k
    ∙ ap (side_text And w.all) (spell-inversions w.nots a k))

operand_fits : (w : Wanting Tree ℕ) (a : Tree) → WantingFits w → 5 ≤ strength a → Fits a → HasFits w.sides (joined_sides both w.all (inversions w.nots a))
operand_fits w a g h f =
    let i = fits_inversions w.nots a h f in
    let j = fits_all w.all (inversions w.nots a) g.all i.0 i.1 in
    record { sides = g.sides; strong = j.0; fits = j.1 }

wanted_goes : (w : Wanting Tree ℕ) (outer : List (Wanting Tree ℕ)) (token : Token) → WantingFits w → OuterFits outer
    → GoesIf (λ k. outer_text outer (wanting_text w k)) token (next trees (wants w) outer token)
wanted_goes w outer (Name x) g o =
    record {
      text = λ k. ap (outer_text outer) (operand_text w (named x) k);
      place = operand_fits w (named x) g (omega arith) tt;
      outer = o;
    }
wanted_goes w outer (Mark Not) g o =
    record { text = λ k. refl; place = record { sides = g.sides; all = g.all }; outer = o }
wanted_goes w outer (Mark Opens) g o =
    record { text = λ k. refl; place = record { sides = no_sides_fit; all = tt }; outer = (g, o) }
wanted_goes w outer (Mark And) g o = tt
wanted_goes w outer (Mark Or) g o = tt
wanted_goes w outer (Mark Implies) g o = tt
wanted_goes w outer (Mark Equals) g o = tt
wanted_goes w outer (Mark Closes) g o = tt

closed_goes : (s : Sides Tree) (c : Tree) (outer : List (Wanting Tree ℕ)) → HasFits s c → OuterFits outer
    → GoesIf (λ k. outer_text outer (sides_text s (spell c k))) (Mark Closes) (closed trees outer (grouped (whole trees s c)))
closed_goes s c [] g o = tt
closed_goes s c (w ∷ outer) g o =
    record {
      text = λ k.
          ap (outer_text outer)
          (operand_text w (grouped (whole trees s c)) k
          ∙ ap (λ l. wanting_text w (Mark Opens ∷ l)) (spell-whole s c (Mark Closes ∷ k)));
      place = operand_fits w (grouped (whole trees s c)) o.0 (omega arith) (fits_whole s c g).1;
      outer = o.1;
    }

behind_goes : (s : Sides Tree) (c : Tree) (outer : List (Wanting Tree ℕ)) (token : Token) → HasFits s c → OuterFits outer
    → GoesIf (λ k. outer_text outer (sides_text s (spell c k))) token (next trees (has s c) outer token)
behind_goes s c outer (Name x) g o = tt
behind_goes s c outer (Mark Not) g o = tt
behind_goes s c outer (Mark Opens) g o = tt
behind_goes s c outer (Mark And) g o =
    record { text = λ k. refl; place = record { sides = g.sides; all = (g.strong, g.fits) }; outer = o }
behind_goes s c outer (Mark Or) g o =
    record {
      text = λ k.
          ap (λ l. outer_text outer (side_text Equals s.same (premises_text s.premises l)))
          (spell-side either Or (λ a b l. refl) s.any c (Mark Or ∷ k));
      place = record {
        sides = record { same = g.sides.same; premises = g.sides.premises; any = fits_any s.any c g.sides.any g.strong g.fits };
        all = tt;
      };
      outer = o;
    }
behind_goes s c outer (Mark Implies) g o =
    let a = fits_any s.any c g.sides.any g.strong g.fits in
    record {
      text = λ k.
          ap (λ l. outer_text outer (side_text Equals s.same l))
          (premises_text-push s.premises (joined_sides either s.any c) k
          ∙ ap (premises_text s.premises) (spell-side either Or (λ a b l. refl) s.any c (Mark Implies ∷ k)));
      place = record {
        sides = record { same = g.sides.same; premises = fits_push s.premises (joined_sides either s.any c) g.sides.premises a.0 a.1; any = tt };
        all = tt;
      };
      outer = o;
    }
behind_goes s c outer (Mark Equals) g o =
    record {
      text = λ k. ap (outer_text outer) (spell-whole s c (Mark Equals ∷ k));
      place = record { sides = record { same = fits_whole s c g; premises = tt; any = tt }; all = tt };
      outer = o;
    }
behind_goes s c outer (Mark Closes) g o = closed_goes s c outer g o

goes : (p : Place Tree ℕ) (outer : List (Wanting Tree ℕ)) (token : Token) → PlaceFits p → OuterFits outer
    → GoesIf (λ k. outer_text outer (place_text p k)) token (next trees p outer token)
goes (wants w) outer token g o = wanted_goes w outer token g o
goes (has s c) outer token g o = behind_goes s c outer token g o

ends : (p : Place Tree ℕ) (outer : List (Wanting Tree ℕ)) → PlaceFits p
    → MatchOption (finished trees p outer) ⊤ (Spells (outer_text outer (place_text p [])))
ends (wants w) outer g = tt
ends (has s c) [] g = record { spelled = sym (spell-whole s c []); fits = (fits_whole s c g).1 }
ends (has s c) (w ∷ outer) g = tt

sound_from : (ks : List Token) (r : Reading Tree ℕ) → PlaceFits r.place → OuterFits r.outer
    → MatchOption (read trees r ks) ⊤ (Spells (reading_text r ks))
sound_from [] r g o = ends r.place r.outer g
sound_from (k ∷ ks) r g o =
    step (λ q. sound_from ks q) (reading_text r) (next trees r.place r.outer k) (goes r.place r.outer k g o)
  where
    step :
        ((q : Reading Tree ℕ) → PlaceFits q.place → OuterFits q.outer → MatchOption (read trees q ks) ⊤ (Spells (reading_text q ks)))
        → (before : List Token → List Token) (x : Option (Reading Tree ℕ)) → GoesIf before k x
        → MatchOption (option_and_then (λ q. read trees q ks) x) ⊤ (Spells (before (k ∷ ks)))
    step ih before None w = tt
    step ih before (Some q) w = rw (w.text ks) at (ih q w.place w.outer)

pub sound : (ks : List Token) → MatchOption (read trees (at_start trees) ks) ⊤ (Spells ks)
sound ks = sound_from ks (at_start trees) (record { sides = no_sides_fit; all = tt }) tt
