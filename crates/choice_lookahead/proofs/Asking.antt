-- Tokens that may come next are asked one by one.
use Rattle.std.proofs.Common.{◌≡◌, ℕ, ◌+◌, ◌<◌, ◌≤◌, Bool, true, false, not, ◌&&◌, List, [], ◌∷◌, drop, length, Option, Some, None, IsTrue, refl, sym, ap, ◌∙◌, subst, IfSome, get_or, zero, suc}
use Rattle.std.specs.Bool.{if◌then◌else◌}
use Rattle.std.proofs.lemmas.List.{drop_more, drop_all}
use Rattle.cond_formula.specs.declared.formulas.Formula.{Formula}
use Rattle.cond_formula.specs.Conditions.{condition_of, conditions_of, value, all_true}
use Rattle.c_text.specs.Token.{plain_token}
use Rattle.c_tree.specs.declared.terminals.Terminal.{Terminal}
use Rattle.c_tree.specs.declared.terminals.Terminal.TheVariants.{Other}
use Rattle.c_tree.specs.Terminals.{terminal}
use Rattle.c_tree.specs.Places.{Place, Move, enters, move}
use Rattle.cond_tokens.specs.declared.tokens.CondToken.{CondToken}
use Rattle.grammar_moves.specs.PlainMoves.{skipping}
use Rattle.choice_lookahead.specs.declared.ahead.Ending.{Ending}
use Rattle.choice_lookahead.specs.Ahead.{next_kind, ended_by, plain_ending, AgreesWith, begins_part, EachEnds, NoneBegins}

-- Where all that is known is true, the next token is one of the rest; elsewhere it is one of which this is true.
abbrev pub Asked : (Terminal → Type 0) → Bool → Terminal → Terminal → Type 0
Asked IsSo true coming rest = coming ≡ rest
Asked IsSo false coming rest = IsSo coming

-- the token ends the node at a place as has been found
abbrev pub EndsSo : Place → Option Ending → Terminal → Type 0
EndsSo place None token = ⊥
EndsSo place (Some ending) token = move place token ≡ plain_ending ending

-- with the token no part begins at a place
abbrev pub BeginsNone : Place → Terminal → Type 0
BeginsNone place token = begins_part (move place token) ≡ false

pub ends_as : (place : Place) (found : Option Ending) (ending : Ending) → AgreesWith found ending → (token : Terminal) → EndsSo place found token → EndsSo place (Some ending) token
ends_as place None ending agrees token h = absurd h
ends_as place (Some other) ending agrees token h = h ∙ agrees

-- the first of the rest isn't there
pub not_there : (IsSo : Terminal → Type 0) (known when : Bool) (coming token first rest : Terminal)
    → first ≡ (if when then token else rest) → (IsTrue known → when ≡ false) → Asked IsSo known coming first → Asked IsSo known coming rest
not_there IsSo true when coming token first rest is excluded asked =
    asked ∙ is ∙ ap (λ (b : Bool). if b then token else rest) (excluded refl)
not_there IsSo false when coming token first rest is excluded asked = asked

-- it has been asked
pub also_asked : (IsSo AlsoSo : Terminal → Type 0) (known when after : Bool) (coming token first rest : Terminal)
    → first ≡ (if when then token else rest) → after ≡ (known && not when) → AlsoSo token → ((other : Terminal) → IsSo other → AlsoSo other)
    → Asked IsSo known coming first → Asked AlsoSo after coming rest
also_asked IsSo AlsoSo true true after coming token first rest is now so weaker asked =
    subst (λ b. Asked AlsoSo b coming rest) (sym now) (subst AlsoSo (sym (asked ∙ is)) so)
also_asked IsSo AlsoSo true false after coming token first rest is now so weaker asked =
    subst (λ b. Asked AlsoSo b coming rest) (sym now) (asked ∙ is)
also_asked IsSo AlsoSo false when after coming token first rest is now so weaker asked =
    subst (λ b. Asked AlsoSo b coming rest) (sym now) (weaker coming asked)

-- it is there
pub surely_there : (IsSo AlsoSo : Terminal → Type 0) (known when : Bool) (coming token first rest : Terminal)
    → first ≡ (if when then token else rest) → (IsTrue known → IsTrue when) → AlsoSo token → ((other : Terminal) → IsSo other → AlsoSo other)
    → Asked IsSo known coming first → AlsoSo coming
surely_there IsSo AlsoSo true when coming token first rest is follows so weaker asked =
    subst AlsoSo (sym (asked ∙ is ∙ ap (λ (b : Bool). if b then token else rest) (follows refl))) so
surely_there IsSo AlsoSo false when coming token first rest is follows so weaker asked = weaker coming asked

-- the last of them
pub all_asked : (IsSo AlsoSo : Terminal → Type 0) (known : Bool) (coming rest : Terminal)
    → AlsoSo rest → ((other : Terminal) → IsSo other → AlsoSo other) → Asked IsSo known coming rest → AlsoSo coming
all_asked IsSo AlsoSo true coming rest so weaker asked = subst AlsoSo (sym asked) so
all_asked IsSo AlsoSo false coming rest so weaker asked = weaker coming asked

pub next_of : (on : ℕ → Bool) (ahead : List CondToken) (i : ℕ) (entry : CondToken) → i < length ahead → entry ≡ get_or ahead i entry
    → next_kind on (drop i ahead) ≡ (if value on (condition_of entry.when) then terminal (plain_token entry.token) else next_kind on (drop (i + 1) ahead))
next_of on ahead i entry within is = ap (next_kind on) (drop_more ahead i entry within) ∙ ap (λ e. next_kind on (e ∷ drop (i + 1) ahead)) (sym is)

pub same_ending : (a b : Ending) → a.skipped ≡ b.skipped → a.kind ≡ b.kind → plain_ending a ≡ plain_ending b
same_ending a b skipped kind = ap (λ n. skipping n (ended_by a.kind)) skipped ∙ ap (λ k. skipping b.skipped (ended_by k)) kind

pub begins_skipping : (n : ℕ) (m : Move) → begins_part (skipping n m) ≡ begins_part m
begins_skipping zero m = refl
begins_skipping (suc n) m = begins_skipping n m

pub last_ending : (path known : List Formula) (place : Place) (ahead : List CondToken) (found : Option Ending) (i : ℕ) (result : Option Ending) → length ahead ≤ i
    → ((on : ℕ → Bool) → IsTrue (all_true on (conditions_of path)) → Asked (EndsSo place found) (all_true on (conditions_of known)) (next_kind on ahead) (next_kind on (drop i ahead)))
    → IfSome result (λ ending. move place Other ≡ plain_ending ending) → IfSome result (λ ending. AgreesWith found ending) → IfSome result (EachEnds path place ahead)
last_ending path known place ahead found i None beyond asked ends agrees = tt
last_ending path known place ahead found i (Some ending) beyond asked ends agrees = λ on is_so.
    all_asked (EndsSo place found) (EndsSo place (Some ending)) (all_true on (conditions_of known)) (next_kind on ahead) (next_kind on (drop i ahead))
    (ap (λ rest. move place (next_kind on rest)) (drop_all i ahead beyond) ∙ ends) (ends_as place found ending agrees) (asked on is_so)

pub last_beginning : (path known : List Formula) (place : Place) (ahead : List CondToken) (i : ℕ) (enters : Bool) → length ahead ≤ i
    → ((on : ℕ → Bool) → IsTrue (all_true on (conditions_of path)) → Asked (BeginsNone place) (all_true on (conditions_of known)) (next_kind on ahead) (next_kind on (drop i ahead)))
    → enters ≡ begins_part (move place Other) → NoneBegins path place ahead (not enters)
last_beginning path known place ahead i true beyond asked is = tt
last_beginning path known place ahead i false beyond asked is = λ on is_so.
    all_asked (BeginsNone place) (BeginsNone place) (all_true on (conditions_of known)) (next_kind on ahead) (next_kind on (drop i ahead))
    (ap (λ rest. begins_part (move place (next_kind on rest))) (drop_all i ahead beyond) ∙ sym is) (λ other so. so) (asked on is_so)
