-- What is read is what an expression spells.
use Rattle.std.proofs.Common.{◌≡◌, ℕ, ◌<◌, ◌≤◌, List, [], ◌∷◌, ◌++◌, append_assoc, append-nil, Option, Some, None, Bool, true, false, refl, sym, ap, ◌∙◌, subst, arith}
use Rattle.std.specs.Prelude.{⊤, codes, nat_le, option_and_then}
use Rattle.std.proofs.lemmas.Bool.Decides.{nat_tests}
use Rattle.c_text.specs.Expressions.{Word, mark, Expression, operand, parenthesized, unary_text, binary_text, binary_level, spelled, level, Fits}
use Rattle.pp_lines.specs.ExpressionReading.{Pending, opened, prefixed, joined, asked, parted, Place, Front, stands, opens, prefixes, misplaced, Sign, connects, asks, parts, closes, ends, front_of, sign_of, sign_level, pending_level, completed, settled, read, next, place_behind, with_sign, at_front, whole, finished, if_alone, at_colon, at_close, trees}
use Rattle.pp_lines.proofs.ExpressionComplete.{binary_bounds, HeldBy, Held, takes, held_more}
use Rattle.pp_lines.proofs.ExpressionWords.{front_stands, front_opens, front_prefixes, sign_connects, sign_asks, sign_parts, sign_closes}

-- the words that were read, and then these
abbrev pub waits_text : List (Pending Expression) → List Word → List Word
waits_text [] k = k
waits_text (opened ∷ ps) k = waits_text ps (mark (codes "(") ∷ k)
waits_text (prefixed op ∷ ps) k = waits_text ps (mark (unary_text op) ∷ k)
waits_text (joined a op ∷ ps) k = waits_text ps (spelled a ++ mark (binary_text op) ∷ k)
waits_text (asked a ∷ ps) k = waits_text ps (spelled a ++ mark (codes "?") ∷ k)
waits_text (parted a b ∷ ps) k = waits_text ps (spelled a ++ mark (codes "?") ∷ (spelled b ++ mark (codes ":") ∷ k))

abbrev pub place_text : Option Expression → List (Pending Expression) → List Word → List Word
place_text None ps k = waits_text ps k
place_text (Some x) ps k = waits_text ps (spelled x ++ k)

-- each operand that waits holds as tightly as what it waits in wants
abbrev pub WaitsFit : List (Pending Expression) → Type 0
WaitsFit [] = ⊤
WaitsFit (opened ∷ ps) = WaitsFit ps
WaitsFit (prefixed op ∷ ps) = WaitsFit ps
WaitsFit (joined a op ∷ ps) = Fits a × (binary_level op ≤ level a) × Held ps (binary_level op) × WaitsFit ps
WaitsFit (asked a ∷ ps) = Fits a × (2 ≤ level a) × Held ps 1 × WaitsFit ps
WaitsFit (parted a b ∷ ps) = Fits a × (2 ≤ level a) × Fits b × Held ps 1 × WaitsFit ps

abbrev pub LastFits : Option Expression → Type 0
LastFits None = ⊤
LastFits (Some x) = Fits x × (13 ≤ level x)

-- the innermost that waits holds less tightly
abbrev pub Below : ℕ → List (Pending Expression) → Type 0
Below l [] = ⊤
Below l (p ∷ ps) = pending_level p < l

pub record Settles (l : ℕ) (x : Expression) (ps : List (Pending Expression)) : Type 0 where
  to : Expression
  left : List (Pending Expression)
  is : settled trees l x ps ≡ record { last = Some to; waits = left }
  fits : Fits to
  tight : l ≤ level to
  waits : WaitsFit left
  below : Below l left
  text : (k : List Word) → waits_text left (spelled to ++ k) ≡ waits_text ps (spelled x ++ k)

held_tight : (ps : List (Pending Expression)) → Held ps 12
held_tight [] = tt
held_tight (opened ∷ ps) = tt
held_tight (prefixed op ∷ ps) = omega arith
held_tight (joined a op ∷ ps) = let b = binary_bounds op in omega arith
held_tight (asked a ∷ ps) = tt
held_tight (parted a b ∷ ps) = tt

-- what waits and what it makes of its operand, where it takes it
takes_text :
    (p : Pending Expression) (ps : List (Pending Expression)) (x : Expression) (k : List Word) → 1 ≤ pending_level p
    → waits_text ps (spelled (completed trees p x) ++ k) ≡ waits_text (p ∷ ps) (spelled x ++ k)
takes_text opened ps x k h = absurd (omega arith)
takes_text (prefixed op) ps x k h = refl
takes_text (joined a op) ps x k h = ap (waits_text ps) (append_assoc (spelled a) (mark (binary_text op) ∷ spelled x) k)
takes_text (asked a) ps x k h = absurd (omega arith)
takes_text (parted a b) ps x k h =
    ap (waits_text ps)
    (append_assoc (spelled a ++ (mark (codes "?") ∷ spelled b)) (mark (codes ":") ∷ spelled x) k
    ∙ append_assoc (spelled a) (mark (codes "?") ∷ spelled b) (mark (codes ":") ∷ (spelled x ++ k)))

takes_fits :
    (p : Pending Expression) (ps : List (Pending Expression)) (x : Expression) → 1 ≤ pending_level p → Fits x
    → HeldBy p (level x) → WaitsFit (p ∷ ps)
    → Fits (completed trees p x) × Held ps (level (completed trees p x)) × (pending_level p ≤ level (completed trees p x)) × WaitsFit ps
takes_fits opened ps x h f a w = absurd (omega arith)
takes_fits (prefixed op) ps x h f a w = ((f, a), held_tight ps, omega arith, w)
takes_fits (joined l op) ps x h f a w = ((w.0, f, w.1, a), w.2, omega arith, w.3)
takes_fits (asked l) ps x h f a w = absurd (omega arith)
takes_fits (parted l r) ps x h f a w = ((w.0, w.2, f, w.1), w.3, omega arith, w.4)

-- what takes the operand, and then all that takes it further
taken :
    (l : ℕ) (x : Expression) (p : Pending Expression) (ps : List (Pending Expression)) → l ≤ pending_level p → 1 ≤ pending_level p
    → Settles l (completed trees p x) ps → Settles l x (p ∷ ps)
taken l x p ps g i s =
    record {
      to = s.to;
      left = s.left;
      is = takes p ps x l g ∙ s.is;
      fits = s.fits;
      tight = s.tight;
      waits = s.waits;
      below = s.below;
      text = λ k. s.text k ∙ takes_text p ps x k i;
    }

settles_by :
    (l : ℕ) (x : Expression) (p : Pending Expression) (ps : List (Pending Expression)) (b : Bool) → nat_le l (pending_level p) ≡ b
    → 1 ≤ l → Fits x → l ≤ level x → HeldBy p (level x) → WaitsFit (p ∷ ps)
    → ((y : Expression) → Fits y → l ≤ level y → Held ps (level y) → WaitsFit ps → Settles l y ps) → Settles l x (p ∷ ps)
settles_by l x p ps true e h f t a w more =
    let g : l ≤ pending_level p = grind (arith, nat_tests) in
    let i : 1 ≤ pending_level p = omega arith in
    let n = takes_fits p ps x i f a w in
    taken l x p ps g i (more (completed trees p x) n.0 (omega (arith, n.2)) n.1 n.3)
settles_by l x p ps false e h f t a w more =
    record {
      to = x;
      left = p ∷ ps;
      is = rw e refl;
      fits = f;
      tight = t;
      waits = w;
      below = grind (arith, nat_tests);
      text = λ k. refl;
    }

settles :
    (l : ℕ) (x : Expression) (ps : List (Pending Expression)) → 1 ≤ l → Fits x → l ≤ level x → Held ps (level x) → WaitsFit ps
    → Settles l x ps
settles l x [] h f t a w =
    record { to = x; left = []; is = refl; fits = f; tight = t; waits = w; below = tt; text = λ k. refl }
settles l x (p ∷ ps) h f t a w =
    settles_by l x p ps (nat_le l (pending_level p)) refl h f t a w (λ y g u b v. settles l y ps h g u b v)

pub record Steps (last : Option Expression) (ps : List (Pending Expression)) (w : Word) (p : Place Expression) : Type 0 where
  fits : LastFits p.last
  waits : WaitsFit p.waits
  text : (k : List Word) → place_text p.last p.waits k ≡ place_text last ps (w ∷ k)

front_steps :
    (f : Front) (w : Word) (ps : List (Pending Expression)) (p : Place Expression) → front_of w.kind w.text ≡ f → WaitsFit ps
    → at_front trees f w ps ≡ Some p → Steps None ps w p
front_steps stands w ps p e a h =
    let at : record { last = Some (operand w); waits = ps } ≡ p = cc in
    let P : Place Expression → Type 0 = λ q. Steps None ps w q in
    subst P at (record { fits = (front_stands w.kind w.text e, omega arith); waits = a; text = λ k. refl })
front_steps opens w ps p e a h =
    let at : record { last = None; waits = opened ∷ ps } ≡ p = cc in
    let P : Place Expression → Type 0 = λ q. Steps None ps w q in
    subst P at
    (record { fits = tt; waits = a; text = λ k. ap (λ (v : Word). waits_text ps (v ∷ k)) (sym (front_opens w e)) })
front_steps (prefixes op) w ps p e a h =
    let at : record { last = None; waits = prefixed op ∷ ps } ≡ p = cc in
    let P : Place Expression → Type 0 = λ q. Steps None ps w q in
    subst P at
    (record { fits = tt; waits = a; text = λ k. ap (λ (v : Word). waits_text ps (v ∷ k)) (sym (front_prefixes w op e)) })
front_steps misplaced w ps p e a h = absurd cc

below_held : (ps : List (Pending Expression)) (l : ℕ) → Below l ps → l ≤ 11 → Held ps l
below_held [] l b h = tt
below_held (opened ∷ ps) l b h = tt
below_held (prefixed op ∷ ps) l b h = absurd (omega arith)
below_held (joined a op ∷ ps) l b h = b
below_held (asked a ∷ ps) l b h = tt
below_held (parted a c ∷ ps) l b h = tt

below_two : (ps : List (Pending Expression)) → Below 2 ps → Held ps 1
below_two [] b = tt
below_two (opened ∷ ps) b = tt
below_two (prefixed op ∷ ps) b = absurd (omega arith)
below_two (joined a op ∷ ps) b = let n = binary_bounds op in absurd (omega arith)
below_two (asked a ∷ ps) b = tt
below_two (parted a c ∷ ps) b = tt

-- a word behind an operand that nothing takes any more
pub record SignSteps (x : Expression) (ps : List (Pending Expression)) (w : Word) (p : Place Expression) : Type 0 where
  fits : LastFits p.last
  waits : WaitsFit p.waits
  text : (k : List Word) → place_text p.last p.waits k ≡ waits_text ps (spelled x ++ w ∷ k)

colon_steps :
    (w : Word) (x : Expression) (ps : List (Pending Expression)) (p : Place Expression) → w ≡ mark (codes ":") → Fits x
    → WaitsFit ps → at_colon x ps ≡ Some p → SignSteps x ps w p
colon_steps w x [] p e f a h = absurd cc
colon_steps w x (opened ∷ ps) p e f a h = absurd cc
colon_steps w x (prefixed op ∷ ps) p e f a h = absurd cc
colon_steps w x (joined l op ∷ ps) p e f a h = absurd cc
colon_steps w x (parted l r ∷ ps) p e f a h = absurd cc
colon_steps w x (asked l ∷ ps) p e f a h =
    let at : record { last = None; waits = parted l x ∷ ps } ≡ p = cc in
    let P : Place Expression → Type 0 = λ q. SignSteps x (asked l ∷ ps) w q in
    subst P at
    (record {
      fits = tt;
      waits = (a.0, a.1, f, a.2, a.3);
      text = λ k. ap (λ (v : Word). waits_text (asked l ∷ ps) (spelled x ++ v ∷ k)) (sym e);
    })

close_steps :
    (w : Word) (x : Expression) (ps : List (Pending Expression)) (p : Place Expression) → w ≡ mark (codes ")") → Fits x
    → WaitsFit ps → at_close trees x ps ≡ Some p → SignSteps x ps w p
close_steps w x [] p e f a h = absurd cc
close_steps w x (asked l ∷ ps) p e f a h = absurd cc
close_steps w x (prefixed op ∷ ps) p e f a h = absurd cc
close_steps w x (joined l op ∷ ps) p e f a h = absurd cc
close_steps w x (parted l r ∷ ps) p e f a h = absurd cc
close_steps w x (opened ∷ ps) p e f a h =
    let at : record { last = Some (parenthesized x); waits = ps } ≡ p = cc in
    let P : Place Expression → Type 0 = λ q. SignSteps x (opened ∷ ps) w q in
    subst P at
    (record {
      fits = (f, omega arith);
      waits = a;
      text = λ k.
          ap (λ (l : List Word). waits_text ps (mark (codes "(") ∷ l)) (append_assoc (spelled x) (mark (codes ")") ∷ []) k)
          ∙ ap (λ (v : Word). waits_text (opened ∷ ps) (spelled x ++ v ∷ k)) (sym e);
    })

sign_steps :
    (s : Sign) (w : Word) (x : Expression) (ps : List (Pending Expression)) (p : Place Expression) → sign_of w.kind w.text ≡ s
    → Fits x → sign_level s ≤ level x → WaitsFit ps → Below (sign_level s) ps → with_sign trees s x ps ≡ Some p
    → SignSteps x ps w p
sign_steps (connects op) w x ps p e f t a b h =
    let at : record { last = None; waits = joined x op ∷ ps } ≡ p = cc in
    let P : Place Expression → Type 0 = λ q. SignSteps x ps w q in
    let n = binary_bounds op in
    subst P at
    (record {
      fits = tt;
      waits = (f, t, below_held ps (binary_level op) b n.1, a);
      text = λ k. ap (λ (v : Word). waits_text ps (spelled x ++ v ∷ k)) (sym (sign_connects w op e));
    })
sign_steps asks w x ps p e f t a b h =
    let at : record { last = None; waits = asked x ∷ ps } ≡ p = cc in
    let P : Place Expression → Type 0 = λ q. SignSteps x ps w q in
    subst P at
    (record {
      fits = tt;
      waits = (f, t, below_two ps b, a);
      text = λ k. ap (λ (v : Word). waits_text ps (spelled x ++ v ∷ k)) (sym (sign_asks w e));
    })
sign_steps parts w x ps p e f t a b h = colon_steps w x ps p (sign_parts w e) f a h
sign_steps closes w x ps p e f t a b h = close_steps w x ps p (sign_closes w e) f a h
sign_steps ends w x ps p e f t a b h = absurd cc

sign_bounds : (s : Sign) → (1 ≤ sign_level s) × (sign_level s ≤ 13)
sign_bounds (connects op) = let b = binary_bounds op in (omega arith, omega arith)
sign_bounds asks = (omega arith, omega arith)
sign_bounds parts = (omega arith, omega arith)
sign_bounds closes = (omega arith, omega arith)
sign_bounds ends = (omega arith, omega arith)

steps :
    (last : Option Expression) (ps : List (Pending Expression)) (w : Word) (p : Place Expression) → LastFits last → WaitsFit ps
    → next trees last ps w ≡ Some p → Steps last ps w p
steps None ps w p f a h = front_steps (front_of w.kind w.text) w ps p refl a h
steps (Some x) ps w p f a h =
    let s = sign_of w.kind w.text in
    let n = sign_bounds s in
    let on = settles (sign_level s) x ps n.0 f.0 (omega (arith, f.1)) (held_more ps 12 (level x) (held_tight ps) (omega (arith, f.1))) a in
    let g : with_sign trees s on.to on.left ≡ Some p = ap (place_behind trees s) (sym on.is) ∙ h in
    let m = sign_steps s w on.to on.left p refl on.fits on.tight on.waits on.below g in
    record { fits = m.fits; waits = m.waits; text = λ k. m.text k ∙ on.text (w ∷ k) }

-- an expression that is spelled by these words, behind what is read
pub record Spells (last : Option Expression) (ps : List (Pending Expression)) (ws : List Word) (e : Expression) : Type 0 where
  pub fits : Fits e
  pub text : place_text last ps ws ≡ spelled e

alone : (x e : Expression) (ps : List (Pending Expression)) → if_alone (Some x) ps ≡ Some e → (ps ≡ []) × (x ≡ e)
alone x e [] h = (refl, cc)
alone x e (p ∷ ps) h = absurd cc

ending : (last : Option Expression) (ps : List (Pending Expression)) (e : Expression) → LastFits last → WaitsFit ps
    → finished trees last ps ≡ Some e → Spells last ps [] e
ending None ps e f a h = absurd cc
ending (Some x) ps e f a h =
    let on = settles 1 x ps (omega arith) f.0 (omega (arith, f.1)) (held_more ps 12 (level x) (held_tight ps) (omega (arith, f.1))) a in
    let end = alone on.to e on.left (ap (whole) (sym on.is) ∙ h) in
    let P : Expression → Type 0 = Fits in
    record {
      fits = subst P end.1 on.fits;
      text =
          sym (on.text [])
          ∙ ap (λ (l : List (Pending Expression)). waits_text l (spelled on.to ++ [])) end.0
          ∙ append-nil (spelled on.to)
          ∙ ap spelled end.1;
    }

pub sound :
    (ws : List Word) (place : Place Expression) (e : Expression) → LastFits place.last → WaitsFit place.waits
    → read trees place ws ≡ Some e → Spells place.last place.waits ws e
sound [] place e f a h = ending place.last place.waits e f a h
sound (w ∷ ws) place e f a h = by (next trees place.last place.waits w) refl h (λ p. sound ws p e)
  where
    by : (o : Option (Place Expression)) → next trees place.last place.waits w ≡ o
        → option_and_then (λ p. read trees p ws) o ≡ Some e
        → ((p : Place Expression) → LastFits p.last → WaitsFit p.waits → read trees p ws ≡ Some e → Spells p.last p.waits ws e)
        → Spells place.last place.waits (w ∷ ws) e
    by None g k more = absurd cc
    by (Some p) g k more =
        let s = steps place.last place.waits w p f a g in
        let r = more p s.fits s.waits k in
        record { fits = r.fits; text = sym (s.text ws) ∙ r.text }
