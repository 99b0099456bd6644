-- The outcomes of what is read are those of the expressions.
use Rattle.std.proofs.Common.{◌≡◌, ℕ, suc, List, [], ◌∷◌, map, Option, Some, None, Bool, true, false, refl, ap, ◌∙◌, arith}
use Rattle.std.specs.Prelude.{min, max, nat_le, option_map, option_and_then, if◌then◌else◌, ℤ}
use Rattle.c_text.specs.Expressions.{Word, Expression, height}
use Rattle.pp_lines.specs.ExpressionReading.{Pending, opened, prefixed, joined, asked, parted, Place, Front, stands, opens, prefixes, misplaced, Sign, connects, asks, parts, closes, ends, front_of, sign_of, sign_level, pending_level, completed, settled, read, next, place_behind, with_sign, at_front, whole, finished, if_alone, at_colon, at_close, trees, outcomes, Outcome, outcome_of, raised}

abbrev pub pending_of : Pending Expression → Pending Outcome
pending_of opened = opened
pending_of (prefixed op) = prefixed op
pending_of (joined a op) = joined (outcome_of a) op
pending_of (asked a) = asked (outcome_of a)
pending_of (parted a b) = parted (outcome_of a) (outcome_of b)

abbrev pub place_of : Place Expression → Place Outcome
place_of p = record { last = option_map outcome_of p.last; waits = map pending_of p.waits }

abbrev pub outcome : Option ℤ → ℕ → Outcome
outcome v h = record { height = h; value = v }

outcome_same : (h g : ℕ) (v : Option ℤ) → h ≡ g → outcome v h ≡ outcome v g
outcome_same h g v e = ap (outcome v) e

raised_one : (a : ℕ) → raised (min a 129) ≡ min (suc a) 129
raised_one a = omega arith

raised_two : (a b : ℕ) → raised (max (min a 129) (min b 129)) ≡ min (suc (max a b)) 129
raised_two a b = omega arith

raised_three : (a b c : ℕ) → raised (max (min a 129) (max (min b 129) (min c 129))) ≡ min (suc (max a (max b c))) 129
raised_three a b c = omega arith

completed_of :
    (p : Pending Expression) (x : Expression)
    → completed outcomes (pending_of p) (outcome_of x) ≡ outcome_of (completed trees p x)
completed_of opened x = refl
completed_of (prefixed op) x = outcome_same _ _ _ (raised_one (height x))
completed_of (joined a op) x = outcome_same _ _ _ (raised_two (height a) (height x))
completed_of (asked a) x = refl
completed_of (parted a b) x = outcome_same _ _ _ (raised_three (height a) (height b) (height x))

pending_level_of : (p : Pending Expression) → pending_level (pending_of p) ≡ pending_level p
pending_level_of opened = refl
pending_level_of (prefixed op) = refl
pending_level_of (joined a op) = refl
pending_level_of (asked a) = refl
pending_level_of (parted a b) = refl

settled_by :
    (l : ℕ) (x : Expression) (p : Pending Expression) (ps : List (Pending Expression)) (b : Bool)
    → ((y : Expression) → settled outcomes l (outcome_of y) (map pending_of ps) ≡ place_of (settled trees l y ps))
    → (if b then settled outcomes l (completed outcomes (pending_of p) (outcome_of x)) (map pending_of ps)
    else record { last = Some (outcome_of x); waits = pending_of p ∷ map pending_of ps })
    ≡ place_of (if b then settled trees l (completed trees p x) ps else record { last = Some x; waits = p ∷ ps })
settled_by l x p ps true more =
    ap (λ (o : Outcome). settled outcomes l o (map pending_of ps)) (completed_of p x) ∙ more (completed trees p x)
settled_by l x p ps false more = refl

settled_of :
    (l : ℕ) (x : Expression) (ps : List (Pending Expression))
    → settled outcomes l (outcome_of x) (map pending_of ps) ≡ place_of (settled trees l x ps)
settled_of l x [] = refl
settled_of l x (p ∷ ps) =
    rw (pending_level_of p) (settled_by l x p ps (nat_le l (pending_level p)) (λ y. settled_of l y ps))

front_next_of :
    (f : Front) (w : Word) (ps : List (Pending Expression))
    → at_front outcomes f w (map pending_of ps) ≡ option_map place_of (at_front trees f w ps)
front_next_of stands w ps = refl
front_next_of opens w ps = refl
front_next_of (prefixes op) w ps = refl
front_next_of misplaced w ps = refl

colon_next_of :
    (x : Expression) (ps : List (Pending Expression))
    → at_colon (outcome_of x) (map pending_of ps) ≡ option_map place_of (at_colon x ps)
colon_next_of x [] = refl
colon_next_of x (opened ∷ ps) = refl
colon_next_of x (prefixed op ∷ ps) = refl
colon_next_of x (joined a op ∷ ps) = refl
colon_next_of x (asked a ∷ ps) = refl
colon_next_of x (parted a b ∷ ps) = refl

close_next_of :
    (x : Expression) (ps : List (Pending Expression))
    → at_close outcomes (outcome_of x) (map pending_of ps) ≡ option_map place_of (at_close trees x ps)
close_next_of x [] = refl
close_next_of x (opened ∷ ps) =
    let P : Outcome → Option (Place Outcome) = λ o. Some (record { last = Some o; waits = map pending_of ps }) in
    ap P (outcome_same _ _ _ (raised_one (height x)))
close_next_of x (prefixed op ∷ ps) = refl
close_next_of x (joined a op ∷ ps) = refl
close_next_of x (asked a ∷ ps) = refl
close_next_of x (parted a b ∷ ps) = refl

sign_next_of :
    (s : Sign) (x : Expression) (ps : List (Pending Expression))
    → with_sign outcomes s (outcome_of x) (map pending_of ps) ≡ option_map place_of (with_sign trees s x ps)
sign_next_of (connects op) x ps = refl
sign_next_of asks x ps = refl
sign_next_of parts x ps = colon_next_of x ps
sign_next_of closes x ps = close_next_of x ps
sign_next_of ends x ps = refl

behind_of :
    (s : Sign) (last : Option Expression) (ps : List (Pending Expression))
    → place_behind outcomes s (place_of (record { last = last; waits = ps })) ≡ option_map place_of (place_behind trees s (record { last = last; waits = ps }))
behind_of s None ps = refl
behind_of s (Some x) ps = sign_next_of s x ps

next_of :
    (last : Option Expression) (ps : List (Pending Expression)) (w : Word)
    → next outcomes (option_map outcome_of last) (map pending_of ps) w ≡ option_map place_of (next trees last ps w)
next_of None ps w = front_next_of (front_of w.kind w.text) w ps
next_of (Some x) ps w =
    let s = sign_of w.kind w.text in
    let at = settled trees (sign_level s) x ps in
    ap (place_behind outcomes s) (settled_of (sign_level s) x ps) ∙ behind_of s at.last at.waits

whole_of :
    (last : Option Expression) (ps : List (Pending Expression))
    → if_alone (option_map outcome_of last) (map pending_of ps) ≡ option_map outcome_of (if_alone last ps)
whole_of last [] = refl
whole_of last (p ∷ ps) = refl

finished_of :
    (last : Option Expression) (ps : List (Pending Expression))
    → finished outcomes (option_map outcome_of last) (map pending_of ps) ≡ option_map outcome_of (finished trees last ps)
finished_of None ps = refl
finished_of (Some x) ps =
    let at = settled trees 1 x ps in
    ap (whole) (settled_of 1 x ps) ∙ whole_of at.last at.waits

then_of :
    (ws : List Word) (o : Option (Place Expression))
    → ((p : Place Expression) → read outcomes (place_of p) ws ≡ option_map outcome_of (read trees p ws))
    → option_and_then (λ p. read outcomes p ws) (option_map place_of o)
    ≡ option_map outcome_of (option_and_then (λ p. read trees p ws) o)
then_of ws None more = refl
then_of ws (Some p) more = more p

pub read_of : (ws : List Word) (p : Place Expression) → read outcomes (place_of p) ws ≡ option_map outcome_of (read trees p ws)
read_of [] p = finished_of p.last p.waits
read_of (w ∷ ws) p =
    ap (λ (o : Option (Place Outcome)). option_and_then (λ q. read outcomes q ws) o) (next_of p.last p.waits w)
    ∙ then_of ws (next trees p.last p.waits w) (λ q. read_of ws q)
