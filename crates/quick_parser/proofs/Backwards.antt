-- The step backwards: what ends a file behind a symbol ends it, with the symbol, before.
use Rattle.std.proofs.Common.{eqb-true, ◌≡◌, ℕ, zero, suc, ◌-◌, ◌≤◌, ◌<◌, inl, inr, Bool, true, false, List, [], ◌∷◌, Option, Some, None, refl, ap, sym, subst, arith}
use Rattle.std.specs.Prelude.{option_map, if◌then◌else◌, ◌==◌, nat_lt}
use Rattle.std.proofs.lemmas.Bool.{ltb-true}
use Rattle.quick_form.specs.Symbols.{Symbol, Int, Void, While, Return, Putchar, Main, Name, Number, Mark, Ifdef, Else, Endif}
use Rattle.quick_form.specs.Form as form
use Rattle.quick_form.specs.Form.{Named, Literal, Statements, no_more, assignment, output, return_of, loop, group, choice, Items, no_item, variable, initialised, main_with, item_group, item_choice, operand_symbol, write_statements, write_items, statement_blocks, item_blocks}
use Rattle.quick_parser.specs.declared.spots.SumEnd.{SumEnd}
use Rattle.quick_parser.specs.declared.spots.SumEnd.TheVariants.{Statement, Output, Condition}
use Rattle.quick_parser.specs.declared.spots.Place.{Place}
use Rattle.quick_parser.specs.declared.spots.Place.TheVariants.{Entry, Declarator, Declared, Initializer, Semicolon, MainOpening, MainVoid, MainClosing, Body, Assignment, Opening, Operand, Operator}
use Rattle.quick_parser.specs.declared.spots.Frame.{Frame}
use Rattle.quick_parser.specs.declared.spots.Frame.TheVariants.{Block, Group, Alternative}
use Rattle.quick_parser.specs.declared.spots.Move.{Move}
use Rattle.quick_parser.specs.declared.spots.Move.TheVariants.{To, Enter, Turn, Leave}
use Rattle.quick_parser.specs.Spots.{Spot, block_count, inside, outside, wanted, brace_move, endif_move, else_move, entry_move, declarator_move, initializer_move, void_move, operand_move, mark_move, declared_move, end_mark, end_move, operator_move, next_move, innermost, spot_move, moved, advanced}
use Rattle.quick_parser.proofs.Language.{Language, Follows, ItemsThen, StatementsThen, ListThen, BranchEnds, DeclaredThen, TermsThen, SumThen, SumEnds, Ends, Closes, EndsAt}

-- what a chosen move tells
if_some : (t : Bool) (x : Option Move) (m : Move) → (if t then x else None) ≡ Some m → (t ≡ true) × (x ≡ Some m)
if_some true x m e = (refl, e)
if_some false x m e = cc

inside_some : (n : ℕ) (x : Option Move) (m : Move) → inside n x ≡ Some m → x ≡ Some m
inside_some zero x m e = cc
inside_some (suc n) x m e = e

outside_some : (n : ℕ) (x : Option Move) (m : Move) → outside n x ≡ Some m → x ≡ Some m
outside_some zero x m e = e
outside_some (suc n) x m e = cc

-- the move is the one that the step makes
arrives : (fs : List Frame) (ks : List Symbol) (n m : Move) → Some n ≡ Some m → EndsAt (moved fs m) ks → EndsAt (moved fs n) ks
arrives fs ks n m e c =
    let same : m ≡ n = cc in let P : Move → Type 0 = λ x. EndsAt (moved fs x) ks in subst P same c

-- the wanted mark
mark_follows :
    (mark b : ℕ) (L : Language) (ks : List Symbol) → (b == mark) ≡ true → L ks → Follows (Mark mark) L (Mark b ∷ ks)
mark_follows mark b L ks e c =
    let same : b ≡ mark = eqb-true b mark e in record { rest = ks; is = ap (λ x. Mark x ∷ ks) same; more = c }

mark_back :
    (mark : ℕ) (n : Move) (fs : List Frame) (k : Symbol) (m : Move) → mark_move mark n k ≡ Some m
    → (ks : List Symbol) → EndsAt (moved fs m) ks → Follows (Mark mark) (EndsAt (moved fs n)) (k ∷ ks)
mark_back mark n fs (Mark b) m e ks c =
    let told = if_some (b == mark) (Some n) m e in
    mark_follows mark b (EndsAt (moved fs n)) ks told.0 (arrives fs ks n m told.1 c)
mark_back mark n fs _ m e ks c = cc

-- an empty list
pub none_then : (n : ℕ) (L : Language) (ks : List Symbol) → L ks → ListThen n L ks
none_then zero L ks c = record { items = no_item; rest = ks; is = refl; fits = omega arith; more = c }
none_then (suc n) L ks c = record { statements = no_more; rest = ks; is = refl; fits = omega arith; more = c }

-- each entry of a list
name_back :
    (n : ℕ) (L : Language) (x : List ℕ) (m : Move) → inside n (Some (To Assignment)) ≡ Some m
    → (ks : List Symbol) → Ends Assignment n L ks → ListThen n L (Name x ∷ ks)
name_back zero L x m e ks c = absurd cc
name_back (suc n) L x m e ks c =
    let s = c.more in let t = s.more.more in
    record { statements = assignment x s.sum_read t.statements; rest = t.rest; is = cc; fits = t.fits; more = t.more }

putchar_back :
    (n : ℕ) (L : Language) (m : Move) → inside n (Some (To (Opening Output))) ≡ Some m
    → (ks : List Symbol) → Ends (Opening Output) n L ks → ListThen n L (Putchar ∷ ks)
putchar_back zero L m e ks c = absurd cc
putchar_back (suc n) L m e ks c =
    let s = c.more in let t = s.more.more.more in
    record { statements = output s.sum_read t.statements; rest = t.rest; is = cc; fits = t.fits; more = t.more }

return_back :
    (n : ℕ) (L : Language) (m : Move) → inside n (Some (To (Operand Statement))) ≡ Some m
    → (ks : List Symbol) → Ends (Operand Statement) n L ks → ListThen n L (Return ∷ ks)
return_back zero L m e ks c = absurd cc
return_back (suc n) L m e ks c =
    let t = c.more.more in
    record { statements = return_of c.sum_read t.statements; rest = t.rest; is = cc; fits = t.fits; more = t.more }

while_back :
    (n : ℕ) (L : Language) (m : Move)
    → inside n (if nat_lt n 64 then Some (To (Opening Condition)) else None) ≡ Some m
    → (ks : List Symbol) → Ends (Opening Condition) n L ks → ListThen n L (While ∷ ks)
while_back zero L m e ks c = absurd cc
while_back (suc n) L m e ks c =
    let s = c.more in let body = s.more.more.more in let t = body.more.more in
    let few : suc n < 64 = ltb-true (suc n) 64 (if_some (nat_lt (suc n) 64) (Some (To (Opening Condition))) m e).0 in
    record {
      statements = loop s.sum_read body.statements t.statements;
      rest = t.rest;
      is = cc;
      fits = let h : statement_blocks body.statements ≤ 64 - suc (suc n) = body.fits in let g : statement_blocks t.statements ≤ 64 - suc n = t.fits in omega arith;
      more = t.more;
    }

variable_back :
    (L : Language) (x : List ℕ) (ks rest : List Symbol) → ks ≡ Name x ∷ rest → DeclaredThen (ItemsThen L) rest
    → ItemsThen L (Int ∷ ks)
variable_back L x ks rest e (inl c) =
    let t = c.more in record { items = variable x t.items; rest = t.rest; is = cc; fits = t.fits; more = t.more }
variable_back L x ks rest e (inr c) =
    let v = c.more in let t = v.more.more.more in
    record { items = initialised x v.digits t.items; rest = t.rest; is = cc; fits = t.fits; more = t.more }

int_ends : (L : Language) (ks : List Symbol) → Ends Declarator zero L ks → ItemsThen L (Int ∷ ks)
int_ends L ks (inl c) = variable_back L c.name ks c.more.rest c.more.is c.more.more
int_ends L ks (inr c) =
    let body = c.more.more.more.more.more in let t = body.more.more in
    record {
      items = main_with body.statements t.items;
      rest = t.rest;
      is = cc;
      fits = let h : statement_blocks body.statements ≤ 64 - 1 = body.fits in let g : item_blocks t.items ≤ 64 = t.fits in omega arith;
      more = t.more;
    }

int_back :
    (n : ℕ) (L : Language) (m : Move) → outside n (Some (To Declarator)) ≡ Some m
    → (ks : List Symbol) → Ends Declarator n L ks → ListThen n L (Int ∷ ks)
int_back zero L m e ks c = int_ends L ks c
int_back (suc n) L m e ks c = absurd cc

-- a group among items, and among statements
item_group_back :
    (L : Language) (n : List ℕ) (ks : List Symbol) (body : Items) (rest : List Symbol)
    → ks ≡ write_items body rest → item_blocks body ≤ 64 → BranchEnds zero (ItemsThen L) rest
    → ItemsThen L (Ifdef n ∷ ks)
item_group_back L n ks body rest e h (inl c) =
    let t = c.more in let g : item_blocks t.items ≤ 64 = t.fits in
    record { items = item_group n body t.items; rest = t.rest; is = cc; fits = omega arith; more = t.more }
item_group_back L n ks body rest e h (inr c) =
    let o = c.more in let t = o.more.more in
    let f : item_blocks o.items ≤ 64 = o.fits in let g : item_blocks t.items ≤ 64 = t.fits in
    record { items = item_choice n body o.items t.items; rest = t.rest; is = cc; fits = omega arith; more = t.more }

group_back_inside :
    (b : ℕ) (L : Language) (n : List ℕ) (ks : List Symbol) (body : Statements) (rest : List Symbol)
    → ks ≡ write_statements body rest → statement_blocks body ≤ 64 - suc b
    → BranchEnds (suc b) (StatementsThen (suc b) L) rest → StatementsThen (suc b) L (Ifdef n ∷ ks)
group_back_inside b L n ks body rest e h (inl c) =
    let t = c.more in let g : statement_blocks t.statements ≤ 64 - suc b = t.fits in
    record { statements = group n body t.statements; rest = t.rest; is = cc; fits = omega arith; more = t.more }
group_back_inside b L n ks body rest e h (inr c) =
    let o = c.more in let t = o.more.more in
    let f : statement_blocks o.statements ≤ 64 - suc b = o.fits in
    let g : statement_blocks t.statements ≤ 64 - suc b = t.fits in
    record {
      statements = choice n body o.statements t.statements;
      rest = t.rest;
      is = cc;
      fits = omega arith;
      more = t.more;
    }

group_back :
    (n : ℕ) (L : Language) (x : List ℕ) (ks : List Symbol) → ListThen n (BranchEnds n (ListThen n L)) ks
    → ListThen n L (Ifdef x ∷ ks)
group_back zero L x ks c = item_group_back L x ks c.items c.rest c.is c.fits c.more
group_back (suc n) L x ks c = group_back_inside n L x ks c.statements c.rest c.is c.fits c.more

brace_back :
    (fs : List Frame) (m : Move) → brace_move (innermost fs) ≡ Some m → (ks : List Symbol) → EndsAt (moved fs m) ks
    → ListThen (block_count fs) (Closes fs) (Mark 125 ∷ ks)
brace_back [] m e ks c = absurd cc
brace_back (Block ∷ fs) m e ks c =
    let stays : EndsAt (moved (Block ∷ fs) Leave) ks = arrives (Block ∷ fs) ks Leave m e c in
    none_then (suc (block_count fs)) (Closes (Block ∷ fs)) (Mark 125 ∷ ks) (record { rest = ks; is = refl; more = stays })
brace_back (Group ∷ fs) m e ks c = absurd cc
brace_back (Alternative ∷ fs) m e ks c = absurd cc

endif_back :
    (fs : List Frame) (m : Move) → endif_move (innermost fs) ≡ Some m → (ks : List Symbol) → EndsAt (moved fs m) ks
    → ListThen (block_count fs) (Closes fs) (Endif ∷ ks)
endif_back [] m e ks c = absurd cc
endif_back (Block ∷ fs) m e ks c = absurd cc
endif_back (Group ∷ fs) m e ks c =
    let stays : EndsAt (moved (Group ∷ fs) Leave) ks = arrives (Group ∷ fs) ks Leave m e c in
    none_then (block_count fs) (Closes (Group ∷ fs)) (Endif ∷ ks) (inl (record { rest = ks; is = refl; more = stays }))
endif_back (Alternative ∷ fs) m e ks c =
    let stays : EndsAt (moved (Alternative ∷ fs) Leave) ks = arrives (Alternative ∷ fs) ks Leave m e c in
    none_then (block_count fs) (Closes (Alternative ∷ fs)) (Endif ∷ ks) (record { rest = ks; is = refl; more = stays })

else_back :
    (fs : List Frame) (m : Move) → else_move (innermost fs) ≡ Some m → (ks : List Symbol) → EndsAt (moved fs m) ks
    → ListThen (block_count fs) (Closes fs) (Else ∷ ks)
else_back [] m e ks c = absurd cc
else_back (Block ∷ fs) m e ks c = absurd cc
else_back (Group ∷ fs) m e ks c =
    let turns : EndsAt (moved (Group ∷ fs) Turn) ks = arrives (Group ∷ fs) ks Turn m e c in
    none_then (block_count fs) (Closes (Group ∷ fs)) (Else ∷ ks) (inr (record { rest = ks; is = refl; more = turns }))
else_back (Alternative ∷ fs) m e ks c = absurd cc

entry_back :
    (fs : List Frame) (k : Symbol) (m : Move) → entry_move (innermost fs) (block_count fs) k ≡ Some m
    → (ks : List Symbol) → EndsAt (moved fs m) ks → ListThen (block_count fs) (Closes fs) (k ∷ ks)
entry_back fs Int m e ks c =
    int_back (block_count fs) (Closes fs) m e ks
    (arrives fs ks (To Declarator) m (outside_some (block_count fs) _ m e) c)
entry_back fs (Name x) m e ks c =
    name_back (block_count fs) (Closes fs) x m e ks
    (arrives fs ks (To Assignment) m (inside_some (block_count fs) _ m e) c)
entry_back fs Putchar m e ks c =
    putchar_back (block_count fs) (Closes fs) m e ks
    (arrives fs ks (To (Opening Output)) m (inside_some (block_count fs) _ m e) c)
entry_back fs Return m e ks c =
    return_back (block_count fs) (Closes fs) m e ks
    (arrives fs ks (To (Operand Statement)) m (inside_some (block_count fs) _ m e) c)
entry_back fs While m e ks c =
    let chosen = inside_some (block_count fs) (if nat_lt (block_count fs) 64 then Some (To (Opening Condition)) else None) m e in
    while_back (block_count fs) (Closes fs) m e ks
    (arrives fs ks (To (Opening Condition)) m (if_some (nat_lt (block_count fs) 64) _ m chosen).1 c)
entry_back fs (Mark b) m e ks c =
    let told = if_some (b == 125) (brace_move (innermost fs)) m e in
    let same : 125 ≡ b = sym (eqb-true b 125 told.0) in
    let P : ℕ → Type 0 = λ x. ListThen (block_count fs) (Closes fs) (Mark x ∷ ks) in
    subst P same (brace_back fs m told.1 ks c)
entry_back fs (Ifdef n) m e ks c =
    group_back (block_count fs) (Closes fs) n ks (arrives fs ks (Enter Group) m e c)
entry_back fs Else m e ks c = else_back fs m e ks c
entry_back fs Endif m e ks c = endif_back fs m e ks c
entry_back fs _ m e ks c = absurd cc

declarator_back :
    (fs : List Frame) (k : Symbol) (m : Move) → declarator_move k ≡ Some m
    → (ks : List Symbol) → EndsAt (moved fs m) ks → Ends Declarator (block_count fs) (Closes fs) (k ∷ ks)
declarator_back fs (Name x) m e ks c =
    inl (record { name = x; more = record { rest = ks; is = refl; more = arrives fs ks (To Declared) m e c } })
declarator_back fs Main m e ks c = inr (record { rest = ks; is = refl; more = arrives fs ks (To MainOpening) m e c })
declarator_back fs _ m e ks c = absurd cc

-- the first mark, or else the second
declared_mark_back :
    (fs : List Frame) (t : Bool) (b : ℕ) (m : Move) → (b == 61) ≡ t
    → (if t then Some (To Initializer) else wanted 59 b (Some (To Entry))) ≡ Some m
    → (ks : List Symbol) → EndsAt (moved fs m) ks → Ends Declared (block_count fs) (Closes fs) (Mark b ∷ ks)
declared_mark_back fs true b m f e ks c =
    inr (mark_follows 61 b (EndsAt (moved fs (To Initializer))) ks f (arrives fs ks (To Initializer) m e c))
declared_mark_back fs false b m f e ks c = inl (mark_back 59 (To Entry) fs (Mark b) m e ks c)

declared_back :
    (fs : List Frame) (k : Symbol) (m : Move) → declared_move k ≡ Some m
    → (ks : List Symbol) → EndsAt (moved fs m) ks → Ends Declared (block_count fs) (Closes fs) (k ∷ ks)
declared_back fs (Mark b) m e ks c = declared_mark_back fs (b == 61) b m refl e ks c
declared_back fs _ m e ks c = absurd cc

initializer_back :
    (fs : List Frame) (k : Symbol) (m : Move) → initializer_move k ≡ Some m
    → (ks : List Symbol) → EndsAt (moved fs m) ks → Ends Initializer (block_count fs) (Closes fs) (k ∷ ks)
initializer_back fs (Number d) m e ks c =
    record { digits = d; more = record { rest = ks; is = refl; more = arrives fs ks (To Semicolon) m e c } }
initializer_back fs _ m e ks c = absurd cc

void_back :
    (fs : List Frame) (k : Symbol) (m : Move) → void_move k ≡ Some m
    → (ks : List Symbol) → EndsAt (moved fs m) ks → Ends MainVoid (block_count fs) (Closes fs) (k ∷ ks)
void_back fs Void m e ks c = record { rest = ks; is = refl; more = arrives fs ks (To MainClosing) m e c }
void_back fs _ m e ks c = absurd cc

-- an operand, and the terms behind it
pub operand_then :
    (o : form.Operand) (L : Language) (ks : List Symbol) → TermsThen L ks → SumThen L (operand_symbol o ∷ ks)
operand_then o L ks c =
    record {
      sum_read = record { first = o; more = c.terms };
      rest = c.rest;
      is = ap (λ x. operand_symbol o ∷ x) c.is;
      more = c.more;
    }

operand_back :
    (s : SumEnd) (fs : List Frame) (k : Symbol) (m : Move) → operand_move s k ≡ Some m
    → (ks : List Symbol) → EndsAt (moved fs m) ks → Ends (Operand s) (block_count fs) (Closes fs) (k ∷ ks)
operand_back s fs (Name x) m e ks c = operand_then (Named x) _ ks (arrives fs ks (To (Operator s)) m e c)
operand_back s fs (Number d) m e ks c = operand_then (Literal d) _ ks (arrives fs ks (To (Operator s)) m e c)
operand_back s fs _ m e ks c = absurd cc

-- an operator, and the sum behind it
term_then :
    (t : Bool) (b : ℕ) (L : Language) (ks : List Symbol) → b ≡ (if t then 45 else 43) → SumThen L ks
    → TermsThen L (Mark b ∷ ks)
term_then t b L ks e c =
    record {
      terms = record { subtracted = t; operand = c.sum_read.first } ∷ c.sum_read.more;
      rest = c.rest;
      is = rw (e, c.is) refl;
      more = c.more;
    }

-- the end of a sum, with no further term
pub end_then :
    (s : SumEnd) (n : ℕ) (L : Language) (ks : List Symbol) → SumEnds s n L ks → TermsThen (SumEnds s n L) ks
end_then s n L ks c = record { terms = []; rest = ks; is = refl; more = c }

end_back :
    (s : SumEnd) (fs : List Frame) (b : ℕ) (m : Move) → wanted (end_mark s) b (Some (end_move s)) ≡ Some m
    → (ks : List Symbol) → EndsAt (moved fs m) ks → SumEnds s (block_count fs) (Closes fs) (Mark b ∷ ks)
end_back Statement fs b m e ks c = mark_back 59 (To Entry) fs (Mark b) m e ks c
end_back Output fs b m e ks c = mark_back 41 (To Semicolon) fs (Mark b) m e ks c
end_back Condition fs b m e ks c = mark_back 41 (To Body) fs (Mark b) m e ks c

operator_mark_back :
    (s : SumEnd) (fs : List Frame) (plus minus : Bool) (b : ℕ) (m : Move) → (b == 43) ≡ plus → (b == 45) ≡ minus
    → (if plus then Some (To (Operand s)) else if minus then Some (To (Operand s))
    else wanted (end_mark s) b (Some (end_move s))) ≡ Some m
    → (ks : List Symbol) → EndsAt (moved fs m) ks → Ends (Operator s) (block_count fs) (Closes fs) (Mark b ∷ ks)
operator_mark_back s fs true minus b m p q e ks c =
    term_then false b _ ks (eqb-true b 43 p) (arrives fs ks (To (Operand s)) m e c)
operator_mark_back s fs false true b m p q e ks c =
    term_then true b _ ks (eqb-true b 45 q) (arrives fs ks (To (Operand s)) m e c)
operator_mark_back s fs false false b m p q e ks c =
    end_then s (block_count fs) (Closes fs) (Mark b ∷ ks) (end_back s fs b m e ks c)

operator_back :
    (s : SumEnd) (fs : List Frame) (k : Symbol) (m : Move) → operator_move s k ≡ Some m
    → (ks : List Symbol) → EndsAt (moved fs m) ks → Ends (Operator s) (block_count fs) (Closes fs) (k ∷ ks)
operator_back s fs (Mark b) m e ks c = operator_mark_back s fs (b == 43) (b == 45) b m refl refl e ks c
operator_back s fs _ m e ks c = absurd cc

move_back :
    (p : Place) (fs : List Frame) (k : Symbol) (m : Move) → next_move p (innermost fs) (block_count fs) k ≡ Some m
    → (ks : List Symbol) → EndsAt (moved fs m) ks → Ends p (block_count fs) (Closes fs) (k ∷ ks)
move_back Entry fs k m e ks c = entry_back fs k m e ks c
move_back Declarator fs k m e ks c = declarator_back fs k m e ks c
move_back Declared fs k m e ks c = declared_back fs k m e ks c
move_back Initializer fs k m e ks c = initializer_back fs k m e ks c
move_back Semicolon fs k m e ks c = mark_back 59 (To Entry) fs k m e ks c
move_back MainOpening fs k m e ks c = mark_back 40 (To MainVoid) fs k m e ks c
move_back MainVoid fs k m e ks c = void_back fs k m e ks c
move_back MainClosing fs k m e ks c = mark_back 41 (To Body) fs k m e ks c
move_back Body fs k m e ks c = mark_back 123 (Enter Block) fs k m e ks c
move_back Assignment fs k m e ks c = mark_back 61 (To (Operand Statement)) fs k m e ks c
move_back (Opening s) fs k m e ks c = mark_back 40 (To (Operand s)) fs k m e ks c
move_back (Operand s) fs k m e ks c = operand_back s fs k m e ks c
move_back (Operator s) fs k m e ks c = operator_back s fs k m e ks c

moved_back :
    (p q : Spot) (k : Symbol) (x : Option Move) → spot_move p k ≡ x
    → option_map (moved p.open_frames) x ≡ Some q → (ks : List Symbol) → EndsAt q ks → EndsAt p (k ∷ ks)
moved_back p q k None f e ks c = absurd cc
moved_back p q k (Some m) f e ks c =
    let same : q ≡ moved p.open_frames m = cc in
    let P : Spot → Type 0 = λ r. EndsAt r ks in move_back p.place p.open_frames k m f ks (subst P same c)

-- what ends a file behind a symbol ends it, with the symbol, before
pub backwards :
    (p q : Spot) (k : Symbol) → advanced p k ≡ Some q → (ks : List Symbol) → EndsAt q ks → EndsAt p (k ∷ ks)
backwards p q k e ks c = moved_back p q k (spot_move p k) refl e ks c
