-- How the tokens of a unit are read one after the other.
use Rattle.std.proofs.Common.{◌≡◌, ℕ, suc, Bool, true, false, not, ◌&&◌, ◌||◌, List, [], ◌∷◌, ◌++◌, drop, length, Option, Some, None, IsTrue, refl, sym, ap, ◌∙◌, subst, arith, get_or, take, take_all, length-drop, drop-cons, ◌-◌, add-one, ◌+◌, ◌<◌}
use Rattle.std.specs.Bool.{if◌then◌else◌}
use Rattle.std.proofs.lemmas.List.{drop_all}
use Rattle.cond_formula.specs.Conditions.{condition_of, value}
use Rattle.c_text.specs.Token.{plain_token}
use Rattle.c_tree.specs.declared.kinds.Kind.{Kind}
use Rattle.c_tree.specs.declared.kinds.Kind.TheVariants as k
use Rattle.c_tree.specs.declared.terminals.Terminal.{Terminal}
use Rattle.c_tree.specs.declared.terminals.Terminal.TheVariants.{Other}
use Rattle.c_tree.specs.Terminals.{terminal}
use Rattle.c_tree.specs.Grammar.{file_item}
use Rattle.c_tree.specs.Places.{Place, in_list, Beginning, no_beginning, begins, Move, shifts, enters, takes, skips, finishes, passes, fails, move, back}
use Rattle.c_tree.specs.Machine.{Frame, frame, Outcome, goes_on, is_whole, is_wrong, begun, moved, alone, arrives, going_on, whole, start}
use Rattle.choice_trees.specs.Leaves.{Leaf}
use Rattle.cond_tokens.specs.declared.tokens.CondToken.{CondToken}
use Rattle.choice_lookahead.specs.Ahead.{next_kind}
use Rattle.choice_states.specs.Seen.{Seen, Parts, of_seen, node_seen}
use Rattle.choice_states.specs.Parts.{values}
use Rattle.choice_states.specs.Lists.{whole_fits_in}
use Rattle.choice_states.specs.States as states
use Rattle.choice_states.specs.States.{Stay, Standing, dead, IsClean}
use Rattle.choice_states.specs.Reading.{leaf_seen, read_seen, finished_seen}
use Rattle.choice_settling.specs.Steps.{seen_of, IsSound, IsBehind, IsRead}
use Rattle.choice_parser.specs.Deaths.{if_left}
use Rattle.choice_parser.specs.Units.{numbered_at, Nodes, leading, StandsBehind, nodes_behind, HasRead, IsInUnit, IsSoFar, Progress, IsEnded, EndsNoUnit, EndsUnit, IsEndOfUnit, IsRefusedHere}

-- ---- reading on

pub read_none : (leaves : List Leaf) → read_seen None leaves ≡ None
read_none [] = refl
read_none (leaf ∷ leaves) = refl

pub read_next_one : (nodes : Nodes) (leaf : Leaf) (leaves : List Leaf) → read_seen nodes (leaf ∷ leaves) ≡ read_seen (read_seen nodes (leaf ∷ [])) leaves
read_next_one None leaf leaves = sym (read_none leaves)
read_next_one (Some frames) leaf leaves = refl

-- one token more of those ahead
pub reads_behind : (on : ℕ → Bool) (number : ℕ) (entry : CondToken) (rest : List CondToken) (nodes : Nodes)
    → read_seen nodes (numbered_at on number (entry ∷ rest)) ≡ read_seen (nodes_behind on number entry nodes) (numbered_at on (suc number) rest)
reads_behind on number entry rest nodes =
    elim (value on (condition_of entry.when)) as (λ there.
    read_seen nodes (if there then record { number = Some number; text = plain_token entry.token } ∷ numbered_at on (suc number) rest else numbered_at on (suc number) rest)
    ≡ read_seen (read_seen nodes (if there then record { number = Some number; text = plain_token entry.token } ∷ [] else [])) (numbered_at on (suc number) rest)) [
      | true ↦ read_next_one nodes (record { number = Some number; text = plain_token entry.token }) (numbered_at on (suc number) rest)
      | false ↦ refl
    ]

pub behind_there : (on : ℕ → Bool) (number : ℕ) (entry : CondToken) (nodes : Nodes) → IsTrue (value on (condition_of entry.when))
    → nodes_behind on number entry nodes ≡ going_on (leading nodes (terminal (plain_token entry.token)) (seen_of number entry))
behind_there on number entry None there =
    ap (λ b. read_seen None (if b then record { number = Some number; text = plain_token entry.token } ∷ [] else [])) there
behind_there on number entry (Some frames) there =
    ap (λ b. read_seen (Some frames) (if b then record { number = Some number; text = plain_token entry.token } ∷ [] else [])) there

pub behind_absent : (on : ℕ → Bool) (number : ℕ) (entry : CondToken) (nodes : Nodes) → value on (condition_of entry.when) ≡ false → nodes_behind on number entry nodes ≡ nodes
behind_absent on number entry nodes absent = ap (λ b. read_seen nodes (if b then record { number = Some number; text = plain_token entry.token } ∷ [] else [])) absent

pub next_there : (on : ℕ → Bool) (entry : CondToken) (rest : List CondToken) → IsTrue (value on (condition_of entry.when)) → next_kind on (entry ∷ rest) ≡ terminal (plain_token entry.token)
next_there on entry rest there = ap (λ b. if b then terminal (plain_token entry.token) else next_kind on rest) there

pub next_absent : (on : ℕ → Bool) (entry : CondToken) (rest : List CondToken) → value on (condition_of entry.when) ≡ false → next_kind on (entry ∷ rest) ≡ next_kind on rest
next_absent on entry rest absent = ap (λ b. if b then terminal (plain_token entry.token) else next_kind on rest) absent

-- nodes behind which nothing can stand are those of no unit
pub wrong_ends : (nodes : Nodes) → ((kind : Terminal) (token : Seen) → leading nodes kind token ≡ is_wrong) → (leaves : List Leaf) → finished_seen (read_seen nodes leaves) ≡ None
wrong_ends None wrong leaves = ap finished_seen (read_none leaves)
wrong_ends (Some frames) wrong [] = ap whole (wrong Other of_seen.of_nothing)
wrong_ends (Some frames) wrong (leaf ∷ leaves) =
    ap (λ o. finished_seen (read_seen (going_on o) leaves)) (wrong (terminal leaf.text) (leaf_seen leaf)) ∙ ap finished_seen (read_none leaves)

-- ---- behind one token

-- one stands behind some tokens, and goes on by any token as the reader does
pub record LeadsOn (nodes : Nodes) (standing : Standing) : Type 0 where
  pub sound : IsSound standing
  pub fit_in : IsTrue (standing.fits_in None)
  pub still : standing.stay ≡ states.stays
  pub leads_are : (kind : Terminal) (token : Seen) → standing.leads [] kind token ≡ leading nodes kind token

leads_behind : (o : Outcome Seen) (next : Terminal → Seen → Outcome Seen) → IsBehind o next → (kind : Terminal) (token : Seen) → next kind token ≡ leading (going_on o) kind token
leads_behind (goes_on frames) next nodes_behind = nodes_behind
leads_behind (is_whole value) next nodes_behind = absurd nodes_behind
leads_behind is_wrong next nodes_behind = nodes_behind

dead_leads : (nodes : Nodes) → nodes ≡ None → LeadsOn nodes dead
dead_leads nodes none = record {
  sound = record { fit = refl; clean = tt };
  fit_in = refl;
  still = refl;
  leads_are = λ kind token. sym (ap (λ n. leading n kind token) none);
}

-- a token that is there has been read in the unit
pub reads_in_unit :
    (nodes : Nodes) (kind : Terminal) (token : Seen) (before after : Standing) → HasRead nodes kind token before → IsInUnit before after → LeadsOn (going_on (leading nodes kind token)) after
reads_in_unit nodes kind token before after read is =
    subst (LeadsOn (going_on (leading nodes kind token))) (sym is.new_is)
    ((elim before.stay as (λ stay. stay ≡ before.stay → LeadsOn (going_on (leading nodes kind token)) (if_left stay before)) [
      | states.stays ↦ λ same. record {
        sound = record { fit = read.fit; clean = subst IsClean same tt };
        fit_in = read.fit_in;
        still = sym same;
        leads_are = leads_behind (leading nodes kind token) (before.leads []) (subst (λ s. IsRead s kind token (leading nodes kind token) (before.leads [])) (sym same) read.reads);
      }
      | states.leaves ↦ λ same. dead_leads (going_on (leading nodes kind token))
          (ap going_on (sym (subst (λ s. IsRead s kind token (leading nodes kind token) (before.leads [])) (sym same) read.reads)) ∙ is.ends (sym same) kind token)
      | states.takes ↦ λ same. absurd (is.takes_none read.fit_in (sym same))
      | states.astray ↦ λ same. absurd (subst (λ s. IsRead s kind token (leading nodes kind token) (before.leads [])) (sym same) read.reads)
    ]) refl)

-- what hasn't been left is as it was
pub still_same : (before after : Standing) → IsInUnit before after → before.stay ≡ states.stays → after ≡ before
still_same before after is stays = is.new_is ∙ ap (λ stay. if_left stay before) stays

-- ---- what has left the unit

going_arriving : (part : Option Seen) (ended : Place) (kind : Terminal) (token : Seen) → going_on (states.arriving part ended [] kind token) ≡ None
going_arriving None ended kind token = refl
going_arriving (Some part) ended kind token = refl

pub left_closed : (kind : Option Kind) (ended : Place) (parts : Parts) → IsInUnit (states.closed kind ended parts) dead
left_closed kind ended parts = record {
  new_is = refl;
  ends = λ left next token. going_arriving (states.made kind (values parts)) ended next token;
  takes_none = λ fits_in taken. absurd (cc taken);
}

pub left_unbegun : (around : Place) → IsInUnit (states.unbegun around) dead
left_unbegun around = record {
  new_is = refl;
  ends = λ left next token. refl;
  takes_none = λ fits_in taken. absurd (cc taken);
}

-- no node takes it
pub left_taken : (behind second : Place) (parts : Parts) → IsInUnit (states.taken behind second parts) dead
left_taken behind second parts = record {
  new_is = refl;
  ends = λ left next token. absurd (cc left);
  takes_none = λ fits_in. absurd (cc fits_in);
}

pub still_at : (place : Place) (parts : Parts) → IsInUnit (states.at_place place parts) (states.at_place place parts)
still_at place parts = record {
  new_is = refl;
  ends = λ left next token. absurd (cc left);
  takes_none = λ fits_in taken. absurd (cc taken);
}

pub still_dead : IsInUnit dead dead
still_dead = record {
  new_is = refl;
  ends = λ left next token. absurd (cc left);
  takes_none = λ fits_in taken. absurd (cc taken);
}

stays_inside : (stay : Stay) (standing : Standing) → standing ≡ if_left (states.stay_within stay) standing
stays_inside states.stays standing = refl
stays_inside states.leaves standing = refl
stays_inside states.takes standing = refl
stays_inside states.astray standing = refl

never_leaves : (stay : Stay) → states.stay_within stay ≡ states.leaves → ⊥
never_leaves states.stays h = cc h
never_leaves states.leaves h = cc h
never_leaves states.takes h = cc h
never_leaves states.astray h = cc h

never_takes : (stay : Stay) → states.stay_within stay ≡ states.takes → ⊥
never_takes states.stays h = cc h
never_takes states.leaves h = cc h
never_takes states.takes h = cc h
never_takes states.astray h = cc h

pub still_within : (place : Place) (inner : Standing) (parts : Parts) → IsInUnit (states.within place inner parts) (states.within place inner parts)
still_within place inner parts = record {
  new_is = stays_inside inner.stay (states.within place inner parts);
  ends = λ left next token. absurd (never_leaves inner.stay left);
  takes_none = λ fits_in. never_takes inner.stay;
}

still_split : (f : Bool) (first second one other : Standing) → IsInUnit first one → IsInUnit second other → IsInUnit (if f then first else second) (if f then one else other)
still_split true first second one other x y = x
still_split false first second one other x y = y

-- ---- the end of the text

whole_begun : (beginning : Beginning) (a b : Seen) (frames : List (Frame Seen)) → whole (begun of_seen beginning a frames) ≡ whole (begun of_seen beginning b frames)
whole_begun no_beginning a b frames = refl
whole_begun (begins places false inner) a b frames = refl
whole_begun (begins places true inner) a b frames = refl

whole_moved : (place : Place) (parts : List Seen) (m : Move) (a b : Seen) (frames : List (Frame Seen)) (ends others : Seen → Outcome Seen)
    → ((value : Seen) → whole (ends value) ≡ whole (others value)) → whole (moved of_seen place parts m a frames ends) ≡ whole (moved of_seen place parts m b frames others)
whole_moved place parts (shifts nodes_behind) a b frames ends others same = refl
whole_moved place parts (enters nodes_behind beginning) a b frames ends others same = whole_begun beginning a b (frame nodes_behind parts ∷ frames)
whole_moved place parts (takes nodes_behind inner) a b frames ends others same = refl
whole_moved place parts (skips other) a b frames ends others same = whole_moved place (parts ++ of_seen.of_nothing ∷ []) other a b frames ends others same
whole_moved place parts (finishes kind) a b frames ends others same = same (node_seen kind parts)
whole_moved place parts passes a b frames ends others same = same (alone of_seen parts)
whole_moved place parts fails a b frames ends others same = refl

whole_arrives : (kind : Terminal) (a b value : Seen) (ended : Place) (frames : List (Frame Seen)) → whole (arrives of_seen kind a value ended frames) ≡ whole (arrives of_seen kind b value ended frames)
whole_arrives kind a b value ended [] = refl
whole_arrives kind a b value ended (inner ∷ frames) =
    whole_moved (back inner.place ended) (inner.parts ++ value ∷ []) (move (back inner.place ended) kind) a b frames
    (λ w. arrives of_seen kind a w (back inner.place ended) frames) (λ w. arrives of_seen kind b w (back inner.place ended) frames)
    (λ w. whole_arrives kind a b w (back inner.place ended) frames)

-- what is whole is so whatever the token behind it is in itself
whole_alike : (nodes : Nodes) (kind : Terminal) (a b : Seen) → whole (leading nodes kind a) ≡ whole (leading nodes kind b)
whole_alike None kind a b = refl
whole_alike (Some []) kind a b = refl
whole_alike (Some (inner ∷ frames)) kind a b =
    whole_moved inner.place inner.parts (move inner.place kind) a b frames
    (λ w. arrives of_seen kind a w inner.place frames) (λ w. arrives of_seen kind b w inner.place frames)
    (λ w. whole_arrives kind a b w inner.place frames)

finished_leads : (nodes : Nodes) → finished_seen nodes ≡ whole (leading nodes Other of_seen.of_nothing)
finished_leads None = refl
finished_leads (Some frames) = refl

behind_no_whole : (o : Outcome Seen) (next : Terminal → Seen → Outcome Seen) → IsBehind o next → whole o ≡ None
behind_no_whole (goes_on frames) next h = refl
behind_no_whole (is_whole value) next h = absurd h
behind_no_whole is_wrong next h = refl

-- no unit ends here
no_unit : (nodes : Nodes) (token : Seen) (standing : Standing) → HasRead nodes Other token standing → EndsNoUnit standing → whole (leading nodes Other token) ≡ None
no_unit nodes token standing read ends =
    (elim standing.stay as (λ stay. standing.stay ≡ stay → whole (leading nodes Other token) ≡ None) [
      | states.stays ↦ λ same. behind_no_whole (leading nodes Other token) (standing.leads []) (subst (λ s. IsRead s Other token (leading nodes Other token) (standing.leads [])) same read.reads)
      | states.leaves ↦ λ same. ap whole (sym (subst (λ s. IsRead s Other token (leading nodes Other token) (standing.leads [])) same read.reads)) ∙ ends.leaving read.fit_in same Other token
      | states.takes ↦ λ same. absurd (ends.taking read.fit_in same)
      | states.astray ↦ λ same. absurd (subst (λ s. IsRead s Other token (leading nodes Other token) (standing.leads [])) same read.reads)
    ]) refl

one_unit : (nodes : Nodes) (token : Seen) (standing : Standing) (parts : Parts) → HasRead nodes Other token standing → EndsUnit standing parts
    → whole (leading nodes Other token) ≡ Some (node_seen k.Unit (values parts))
one_unit nodes token standing parts read ends =
    ap whole (sym (subst (λ s. IsRead s Other token (leading nodes Other token) (standing.leads [])) ends.left read.reads) ∙ ends.leads_are Other token)

pub ended_so : (nodes : Nodes) (token : Seen) (here : Bool) (standing : Standing) (parts : Parts) → HasRead nodes Other token standing → IsEndOfUnit here standing parts
    → IsEnded nodes here (values parts)
ended_so nodes token true standing parts read ends =
    finished_leads nodes ∙ whole_alike nodes Other of_seen.of_nothing token ∙ no_unit nodes token standing read ends
ended_so nodes token false standing parts read ends =
    finished_leads nodes ∙ whole_alike nodes Other of_seen.of_nothing token ∙ one_unit nodes token standing parts read ends

pub still_split_so : (f : Bool) (all new first second one other : Standing) → all ≡ (if f then first else second) → new ≡ (if f then one else other)
    → IsInUnit first one → IsInUnit second other → IsInUnit all new
still_split_so f all new first second one other all_is new_is x y =
    subst (λ a. IsInUnit a new) (sym all_is) (subst (IsInUnit (if f then first else second)) (sym new_is) (still_split f first second one other x y))

-- one still in the unit, by the kinds of states
pub ruleset still_kinds = (left_closed, left_unbegun, left_taken, still_at, still_dead, still_within)

-- ---- what is refused where the text ends

or_on : (old path new : Bool) → new ≡ (old || path) → new ≡ (old || (path && true))
or_on old true new is = is
or_on old false new is = is

pub ends_at : (place : Place) (parts : Parts) (path old new : Bool) → new ≡ (old || path) → IsRefusedHere (states.at_place place parts) parts path old new
ends_at place parts path old new is = (true, or_on old path new is, record { leaving = λ fits_in left kind token. absurd (cc left); taking = λ fits_in taken. absurd (cc taken) })

pub ends_dead : (parts : Parts) (path old new : Bool) → new ≡ (old || path) → IsRefusedHere dead parts path old new
ends_dead parts path old new is = (true, or_on old path new is, record { leaving = λ fits_in left kind token. absurd (cc left); taking = λ fits_in taken. absurd (cc taken) })

pub ends_unbegun : (around : Place) (parts : Parts) (path old new : Bool) → new ≡ (old || path) → IsRefusedHere (states.unbegun around) parts path old new
ends_unbegun around parts path old new is = (true, or_on old path new is, record { leaving = λ fits_in left kind token. refl; taking = λ fits_in taken. absurd (cc taken) })

pub ends_within : (place : Place) (inner : Standing) (parts : Parts) (path old new : Bool) → new ≡ (old || path) → IsRefusedHere (states.within place inner parts) parts path old new
ends_within place inner parts path old new is =
    (true, or_on old path new is, record { leaving = λ fits_in left kind token. absurd (never_leaves inner.stay left); taking = λ fits_in. never_takes inner.stay })

pub ends_taken : (behind second : Place) (parts : Parts) (path old new : Bool) → new ≡ (old || path) → IsRefusedHere (states.taken behind second parts) parts path old new
ends_taken behind second parts path old new is =
    (true, or_on old path new is, record { leaving = λ fits_in left kind token. absurd (cc left); taking = λ fits_in. absurd (cc fits_in) })

-- what is whole as another node isn't in the unit's list
pub ends_other : (kind : Option Kind) (ended : Place) (parts : Parts) (path old new : Bool) → whole_fits_in kind None ≡ false → new ≡ (old || path)
    → IsRefusedHere (states.closed kind ended parts) parts path old new
ends_other kind ended parts path old new other is =
    (true, or_on old path new is, record { leaving = λ fits_in. absurd (cc (other, fits_in)); taking = λ fits_in taken. absurd (cc taken) })

or_off : (old path : Bool) → old ≡ (old || (path && false))
or_off true path = refl
or_off false true = refl
or_off false false = refl

pub ends_whole : (kind : Option Kind) (ended : Place) (parts : Parts) (path old : Bool) → kind ≡ Some k.Unit → IsRefusedHere (states.closed kind ended parts) parts path old old
ends_whole kind ended parts path old is =
    (false, or_off old path, record { left = refl; leads_are = λ next token. ap (λ part. states.arriving part ended [] next token) (ap (λ of_kind. states.made of_kind (values parts)) is) })

nothing_more : (mid new path here : Bool) → new ≡ (mid || ((path && false) && here)) → new ≡ mid
nothing_more true new path here is = is
nothing_more false new true here is = is
nothing_more false new false here is = is

more_here : (old new path here : Bool) → new ≡ (old || ((path && true) && here)) → new ≡ (old || (path && here))
more_here old new true here is = is
more_here old new false here is = is

pub ends_split : (f : Bool) (first second : Standing) (parts : Parts) (path old mid new : Bool)
    → IsRefusedHere first parts (path && f) old mid → IsRefusedHere second parts (path && not f) mid new
    → IsRefusedHere (if f then first else second) parts path old new
ends_split true first second parts path old mid new one other =
    (one.0, nothing_more mid new path other.0 other.1 ∙ more_here old mid path one.0 one.1, one.2)
ends_split false first second parts path old mid new one other =
    (other.0, more_here mid new path other.0 other.1 ∙ ap (λ b. b || (path && other.0)) (nothing_more old mid path one.0 one.1), other.2)

pub ends_split_so : (f : Bool) (all first second : Standing) (parts : Parts) (path one_path other_path old mid new : Bool)
    → all ≡ (if f then first else second) → one_path ≡ (path && f) → other_path ≡ (path && not f)
    → IsRefusedHere first parts one_path old mid → IsRefusedHere second parts other_path mid new → IsRefusedHere all parts path old new
ends_split_so f all first second parts path one_path other_path old mid new all_is one_is other_is one other =
    subst (λ a. IsRefusedHere a parts path old new) (sym all_is)
    (ends_split f first second parts path old mid new (subst (λ p. IsRefusedHere first parts p old mid) one_is one) (subst (λ p. IsRefusedHere second parts p mid new) other_is other))

-- what is refused where the text ends, by the kinds of states
pub ruleset end_kinds = (ends_at, ends_dead, ends_unbegun, ends_within, ends_whole, ends_taken, ends_other)

-- ---- one token of the unit

-- where the next of the tokens ahead can't stand, they are those of no unit
wrong_next : (on : ℕ → Bool) (number : ℕ) (ahead : List CondToken) (nodes : Nodes) → ((token : Seen) → leading nodes (next_kind on ahead) token ≡ is_wrong)
    → finished_seen (read_seen nodes (numbered_at on number ahead)) ≡ None
wrong_next on number [] nodes wrong = finished_leads nodes ∙ ap whole (wrong of_seen.of_nothing)
wrong_next on number (entry ∷ rest) nodes wrong =
    (elim (value on (condition_of entry.when)) as (λ there. value on (condition_of entry.when) ≡ there → finished_seen (read_seen nodes (numbered_at on number (entry ∷ rest))) ≡ None) [
      | true ↦ λ there.
          ap finished_seen (reads_behind on number entry rest nodes)
          ∙ ap (λ n. finished_seen (read_seen n (numbered_at on (suc number) rest)))
          (behind_there on number entry nodes there ∙ ap going_on (ap (λ kind. leading nodes kind (seen_of number entry)) (sym (next_there on entry rest there)) ∙ wrong (seen_of number entry)))
          ∙ ap finished_seen (read_none (numbered_at on (suc number) rest))
      | false ↦ λ absent.
          ap finished_seen (reads_behind on number entry rest nodes)
          ∙ ap (λ n. finished_seen (read_seen n (numbered_at on (suc number) rest))) (behind_absent on number entry nodes absent)
          ∙ wrong_next on (suc number) rest nodes (λ token. ap (λ kind. leading nodes kind token) (sym (next_absent on entry rest absent)) ∙ wrong token)
    ]) refl

-- behind a token, when what is dead has been refused
so_far_behind : (on : ℕ → Bool) (number : ℕ) (rest : List CondToken) (nodes : Nodes) (new dies : Bool) (still last : Standing)
    → IsSound still → IsTrue (still.fits_in None) → still.stay ≡ states.stays → ((token : Seen) → still.leads [] (next_kind on rest) token ≡ leading nodes (next_kind on rest) token)
    → (dies ≡ false → last ≡ still) → (dies ≡ true → (kind : Terminal) (token : Seen) → still.leads [] kind token ≡ is_wrong) → new ≡ dies
    → IsSoFar on number rest nodes new last
so_far_behind on number rest nodes new false still last sound fit_in stays leads same wrong is =
    subst (λ b. IsSoFar on number rest nodes b last) (sym is)
    (subst (StandsBehind on rest nodes) (sym (same refl)) (record { sound = sound; fit_in = fit_in; still = stays; leads_are = leads }))
so_far_behind on number rest nodes new true still last sound fit_in stays leads same wrong is =
    subst (λ b. IsSoFar on number rest nodes b last) (sym is)
    (wrong_next on number rest nodes (λ token. sym (leads token) ∙ wrong refl (next_kind on rest) token))

-- what is known of the standings before a token, behind its reading, in the unit, and without what is dead
pub record FirstRead (on : ℕ → Bool) (number : ℕ) (entry : CondToken) (rest : List CondToken) (nodes : Nodes) (before read still last : Standing) (old new dies : Bool) : Type 0 where
  pub there : IsTrue (value on (condition_of entry.when)) → StandsBehind on (entry ∷ rest) nodes before → HasRead nodes (terminal (plain_token entry.token)) (seen_of number entry) read
  pub absent : value on (condition_of entry.when) ≡ false → StandsBehind on (entry ∷ rest) nodes before → StandsBehind on (entry ∷ rest) nodes read
  pub in_unit : IsInUnit read still
  pub same : dies ≡ false → last ≡ still
  pub wrong : dies ≡ true → (kind : Terminal) (token : Seen) → still.leads [] kind token ≡ is_wrong
  pub refused_is : new ≡ (old || (true && dies))

stands_then : (on : ℕ → Bool) (number : ℕ) (entry : CondToken) (rest : List CondToken) (nodes : Nodes) (before read still last : Standing) (new dies there : Bool)
    → value on (condition_of entry.when) ≡ there → FirstRead on number entry rest nodes before read still last false new dies → StandsBehind on (entry ∷ rest) nodes before
    → IsSoFar on (suc number) rest (nodes_behind on number entry nodes) new last
stands_then on number entry rest nodes before read still last new dies true there first stands =
    let leads : LeadsOn (going_on (leading nodes (terminal (plain_token entry.token)) (seen_of number entry))) still =
    reads_in_unit nodes (terminal (plain_token entry.token)) (seen_of number entry) read still (first.there there stands) first.in_unit
    in
    subst (λ n. IsSoFar on (suc number) rest n new last) (sym (behind_there on number entry nodes there))
    (so_far_behind on (suc number) rest (going_on (leading nodes (terminal (plain_token entry.token)) (seen_of number entry))) new dies still last
    leads.sound leads.fit_in leads.still (λ token. leads.leads_are (next_kind on rest) token) first.same first.wrong first.refused_is)
stands_then on number entry rest nodes before read still last new dies false absent first stands =
    let stayed = first.absent absent stands in
    let same : still ≡ read = still_same read still first.in_unit stayed.still in
    subst (λ n. IsSoFar on (suc number) rest n new last) (sym (behind_absent on number entry nodes absent))
    (so_far_behind on (suc number) rest nodes new dies still last (subst IsSound (sym same) stayed.sound) (ap (λ (s : Standing). s.fits_in None) same ∙ stayed.fit_in)
    (ap (λ (s : Standing). s.stay) same ∙ stayed.still)
    (subst (λ kind. (token : Seen) → still.leads [] kind token ≡ leading nodes kind token) (next_absent on entry rest absent)
    (λ token. ap (λ (s : Standing). s.leads [] (next_kind on (entry ∷ rest)) token) same ∙ stayed.leads_are token)) first.same first.wrong first.refused_is)

pub first_so_far : (on : ℕ → Bool) (number : ℕ) (entry : CondToken) (rest : List CondToken) (nodes : Nodes) (before read still last : Standing) (old new dies : Bool)
    → FirstRead on number entry rest nodes before read still last old new dies → IsSoFar on number (entry ∷ rest) nodes old before
    → IsSoFar on (suc number) rest (nodes_behind on number entry nodes) new last
first_so_far on number entry rest nodes before read still last true new dies first ends =
    subst (λ b. IsSoFar on (suc number) rest (nodes_behind on number entry nodes) b last) (sym first.refused_is) (ap finished_seen (sym (reads_behind on number entry rest nodes)) ∙ ends)
first_so_far on number entry rest nodes before read still last false new dies first stands =
    stands_then on number entry rest nodes before read still last new dies (value on (condition_of entry.when)) refl first stands

-- the same, by the tokens ahead and the kind of the first
pub first_read_so : (on : ℕ → Bool) (number : ℕ) (entry : CondToken) (rest tokens : List CondToken) (kind : Terminal) (nodes : Nodes) (before read still last : Standing) (old new dies : Bool)
    → tokens ≡ entry ∷ rest → terminal (plain_token entry.token) ≡ kind
    → (IsTrue (value on (condition_of entry.when)) → next_kind on tokens ≡ kind → StandsBehind on tokens nodes before → HasRead nodes kind (seen_of number entry) read)
    → (value on (condition_of entry.when) ≡ false → StandsBehind on tokens nodes before → StandsBehind on tokens nodes read)
    → IsInUnit read still → (dies ≡ false → last ≡ still)
    → (dies ≡ true → (next : Terminal) (token : Seen) → still.leads [] next token ≡ is_wrong) → new ≡ (old || (true && dies))
    → FirstRead on number entry rest nodes before read still last old new dies
first_read_so on number entry rest tokens kind nodes before read still last old new dies tokens_are kind_is there absent in_unit same wrong refused_is = record {
  there = λ t stands.
      subst (λ k. HasRead nodes k (seen_of number entry) read) (sym kind_is)
      (there t (ap (next_kind on) tokens_are ∙ next_there on entry rest t ∙ kind_is) (subst (λ ts. StandsBehind on ts nodes before) (sym tokens_are) stands));
  absent = λ a stands. subst (λ ts. StandsBehind on ts nodes read) tokens_are (absent a (subst (λ ts. StandsBehind on ts nodes before) (sym tokens_are) stands));
  in_unit = in_unit;
  same = same;
  wrong = wrong;
  refused_is = refused_is;
}

pub first_then : (on : ℕ → Bool) (number : ℕ) (entry : CondToken) (rest : List CondToken) (nodes : Nodes) (before read still last : Standing) (old new dies : Bool)
    → FirstRead on number entry rest nodes before read still last old new dies → IsSoFar on number (entry ∷ rest) nodes old before
    → IsSoFar on (number + 1) rest (nodes_behind on number entry nodes) new last
first_then on number entry rest nodes before read still last old new dies first so_far =
    subst (λ n. IsSoFar on n rest (nodes_behind on number entry nodes) new last) (sym (add-one number)) (first_so_far on number entry rest nodes before read still last old new dies first so_far)

-- ---- the end of the unit

pub end_so_far : (on : ℕ → Bool) (nodes : Nodes) (kind : Terminal) (token : Seen) (old new : Bool) (parts : Parts) (before read : Standing) → kind ≡ Other
    → (StandsBehind on [] nodes before → HasRead nodes kind token read) → IsRefusedHere read parts true old new → IsSoFar on 0 [] nodes old before → IsEnded nodes new (values parts)
end_so_far on nodes kind token true new parts before read is reads refused ends = subst (λ b. IsEnded nodes b (values parts)) (sym refused.1) ends
end_so_far on nodes kind token false new parts before read is reads refused stands =
    subst (λ b. IsEnded nodes b (values parts)) (sym refused.1)
    (ended_so nodes token refused.0 read parts (subst (λ k. HasRead nodes k token read) is (reads stands)) refused.2)

-- ---- all tokens

pub token_of : (tokens : List CondToken) (entry : CondToken) (i : ℕ) → i < length tokens → entry ≡ get_or tokens i entry → drop i tokens ≡ entry ∷ drop (i + 1) tokens
token_of tokens entry i below same = drop-cons tokens i entry below ∙ ap (λ x. x ∷ drop (suc i) tokens) (sym same) ∙ ap (λ j. entry ∷ drop j tokens) (sym (add-one i))

pub begins_unit : (on : ℕ → Bool) (tokens : List CondToken) (refused : Bool) (standing : Standing) → refused ≡ false → standing ≡ states.at_place (in_list k.Unit file_item) []
    → Progress on tokens 0 refused standing
begins_unit on tokens refused standing none is = record {
  nodes = Some start;
  reads = refl;
  so_far = subst (λ b. IsSoFar on 0 tokens (Some start) b standing) (sym none)
      (subst (StandsBehind on tokens (Some start)) (sym is) (record { sound = record { fit = refl; clean = tt }; fit_in = refl; still = refl; leads_are = λ token. refl }));
}

pub rest_of : (tokens : List CondToken) (i : ℕ) → take (length tokens - i) (drop i tokens) ≡ drop i tokens
rest_of tokens i = take_all (length tokens - i) (drop i tokens) (let l : length (drop i tokens) ≡ length tokens - i = length-drop i tokens in omega (arith, l))

pub progress_next : (on : ℕ → Bool) (tokens : List CondToken) (number : ℕ) (entry : CondToken) (rest : List CondToken) (old new : Bool) (before after : Standing)
    → drop number tokens ≡ entry ∷ rest → rest ≡ drop (number + 1) tokens → Progress on tokens number old before
    → ((nodes : Nodes) → IsSoFar on number (entry ∷ rest) nodes old before → IsSoFar on (number + 1) rest (nodes_behind on number entry nodes) new after)
    → Progress on tokens (number + 1) new after
progress_next on tokens number entry rest old new before after dropped rest_is progress step = record {
  nodes = nodes_behind on number entry progress.nodes;
  reads =
      ap (λ n. read_seen (nodes_behind on number entry progress.nodes) (numbered_at on n (drop (number + 1) tokens))) (add-one number)
      ∙ ap (λ xs. read_seen (nodes_behind on number entry progress.nodes) (numbered_at on (suc number) xs)) (sym rest_is)
      ∙ sym (reads_behind on number entry rest progress.nodes)
      ∙ ap (λ xs. read_seen progress.nodes (numbered_at on number xs)) (sym dropped) ∙ progress.reads;
  so_far =
      subst (λ xs. IsSoFar on (number + 1) xs (nodes_behind on number entry progress.nodes) new after) rest_is
      (step progress.nodes (subst (λ xs. IsSoFar on number xs progress.nodes old before) dropped progress.so_far));
}

-- behind all of them what they are read as is known
pub progress_ends : (on : ℕ → Bool) (tokens : List CondToken) (refused : Bool) (standing : Standing) → Progress on tokens (length tokens) refused standing
    → (nodes : Nodes) × (nodes ≡ read_seen (Some start) (numbered_at on 0 tokens)) × IsSoFar on 0 [] nodes refused standing
progress_ends on tokens refused standing progress =
    let gone : drop (length tokens) tokens ≡ [] = drop_all (length tokens) tokens (omega arith) in (
      progress.nodes,
      ap (λ xs. read_seen progress.nodes (numbered_at on (length tokens) xs)) (sym gone) ∙ progress.reads,
      ended_alike on (length tokens) progress.nodes refused standing (subst (λ xs. IsSoFar on (length tokens) xs progress.nodes refused standing) gone progress.so_far),
    )
  where
    ended_alike : (on : ℕ → Bool) (number : ℕ) (nodes : Nodes) (refused : Bool) (standing : Standing) → IsSoFar on number [] nodes refused standing → IsSoFar on 0 [] nodes refused standing
    ended_alike on number nodes true standing so_far = so_far
    ended_alike on number nodes false standing so_far = so_far
