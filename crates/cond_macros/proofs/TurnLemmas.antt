-- An item in open calls, where a configuration may have it or not.
use Rattle.std.proofs.Common.{◌≡◌, ℕ, zero, suc, Bool, true, false, not, ◌&&◌, List, [], ◌∷◌, ◌++◌, Option, Some, None, refl, sym, ap, ◌∙◌, arith}
use Rattle.std.specs.Prelude.{if◌then◌else◌, codes, nat_lt}
use Rattle.std.proofs.lemmas.Grind.{common_steps}
use Rattle.c_text.specs.Token.{PlainToken}
use Rattle.c_text.specs.Directives.{is_spelled}
use Rattle.c_text.specs.Macros as spec
use Rattle.conditional.specs.Entries.{under}
use Rattle.cond_macros.specs.Below.{cores_of}
use Rattle.cond_runs.specs.Pieces.{Held, Piece, also, under_piece, given_piece, open_piece, some_open, brought_again, progress_piece, turn_piece, turn_pieces}
use Rattle.cond_runs.proofs.Sites.{brought-cores}
use Rattle.cond_macros.proofs.PieceLemmas.{also-nothing, also-assoc, turn_pieces-append}

-- what can't be changes nothing
pub unseen : (s : Option Piece) (w : Bool) (p : Option Piece) → w ≡ false → s ≡ also s (under_piece w p)
unseen s true p e = cc
unseen s false p e = sym (also-nothing s)

pub and_true : (b : Bool) → b ≡ (b && true)
and_true true = refl
and_true false = refl

pub both_first : (a b : Bool) → (a && b) ≡ true → a ≡ true
both_first true b e = refl
both_first false b e = cc

-- what is brought twice
pub brought_from : (exact : Bool) (first last : PlainToken) (given : Option (List spec.Item)) (found : Option (List spec.Item)) → given ≡ cores_of found → given_piece exact (brought_again first last given) ≡ given_piece exact (brought_again first last found)
brought_from exact first last given None e = rw e refl
brought_from exact first last given (Some items) e = rw e (ap (λ (l : List spec.Item). given_piece exact (Some l)) (brought-cores first last items))

pub given_turn : (exact : Bool) (s after : Option Piece) (w : Bool) (first last : PlainToken) (given found : Option (List spec.Item)) → (w ≡ true → given ≡ cores_of found) →
    after ≡ also s (under_piece w (given_piece exact (brought_again first last given))) → after ≡ also s (under_piece w (given_piece exact (brought_again first last found)))
given_turn exact s after true first last given found is e = e ∙ ap (also s) (brought_from exact first last given found (is refl))
given_turn exact s after false first last given found is e = e

-- ---- an item that ends a call

closing_ends : (call : spec.Call) (item : spec.Item) (nested : ℕ) → nat_lt nested 2 ≡ true → spec.closing call item nested ≡ spec.ends
closing_ends call item zero h = refl
closing_ends call item (suc zero) h = refl
closing_ends call item (suc (suc nested)) h = absurd (grind (arith, common_steps))

pub progress_ends : (call : spec.Call) (item : spec.Item) → (is_spelled (codes ")") item.token && nat_lt call.nested 2) ≡ true → spec.progress call item ≡ spec.ends
progress_ends call item h =
    let both = and_parts (is_spelled (codes ")") item.token) (nat_lt call.nested 2) h in
    rw both.0 (closing_ends call item call.nested both.1)
  where
    and_parts : (a b : Bool) → (a && b) ≡ true → (a ≡ true) × (b ≡ true)
    and_parts true b h = (refl, h)
    and_parts false b h = cc

module _ (exact : Bool) (table : spec.Table) (deeper : spec.Deeper) (active : List (List ℕ)) where
  pub ends_piece : (s after : Option Piece) (w : Bool) (held : Held) (item : spec.Item) (own : PlainToken) (given : Option (List spec.Item)) → spec.progress held.call item ≡ spec.ends →
      (w ≡ true → given ≡ cores_of (spec.call_replacement table deeper active held.call item.token)) →
      after ≡ also s (under_piece w (given_piece exact (brought_again held.first own given))) →
      after ≡ also s (under_piece w (turn_piece exact table deeper active true held item own))
  ends_piece s after true held item own given ends is_given e =
      e ∙ ap (also s) (brought_from exact held.first own given (spec.call_replacement table deeper active held.call item.token) (is_given refl))
      ∙ ap (λ (p : spec.Progress). also s (progress_piece exact table deeper active held p item.token own)) (sym ends)
  ends_piece s after false held item own given ends is_given e = e

  pub goes_piece : (s after : Option Piece) (w v : Bool) (held : Held) (next : spec.Call) (first : PlainToken) (item : spec.Item) (own : PlainToken) → spec.goes_on next ≡ spec.progress held.call item → first ≡ held.first → v ≡ w →
      after ≡ also s (under_piece v (open_piece (record { call = next; first = first } ∷ []))) →
      after ≡ also s (under_piece w (turn_piece exact table deeper active true held item own))
  goes_piece s after w v held next first item own goes is_first same e =
      e ∙ ap (λ (b : Bool). also s (under_piece b (open_piece (record { call = next; first = first } ∷ [])))) same
      ∙ ap (λ (t : PlainToken). also s (under_piece w (open_piece (record { call = next; first = t } ∷ [])))) is_first
      ∙ ap (λ (p : spec.Progress). also s (under_piece w (progress_piece exact table deeper active held p item.token own))) goes

  -- an item that only lengthens an argument
  pub lengthened : (s after : Option Piece) (w v t : Bool) (held : Held) (next : spec.Call) (first : PlainToken) (item : spec.Item) (own : PlainToken) →
      spec.progress held.call item ≡ spec.goes_on (spec.with_item held.call item) → next ≡ (if t then spec.with_item held.call item else held.call) → first ≡ held.first → v ≡ w →
      after ≡ also s (under_piece v (open_piece (record { call = next; first = first } ∷ []))) →
      after ≡ also s (under_piece w (turn_piece exact table deeper active t held item own))
  lengthened s after w v true held next first item own goes is_next is_first same e =
      goes_piece s after w v held next first item own (ap spec.goes_on is_next ∙ sym goes) is_first same e
  lengthened s after w v false held next first item own goes is_next is_first same e =
      e ∙ ap (λ (b : Bool). also s (under_piece b (open_piece (record { call = next; first = first } ∷ [])))) same
      ∙ ap (λ (t : PlainToken). also s (under_piece w (open_piece (record { call = next; first = t } ∷ [])))) is_first
      ∙ ap (λ (c : spec.Call). also s (under_piece w (open_piece (record { call = c; first = held.first } ∷ [])))) is_next

  -- a call in two parts: where the item isn't present, and where it is
  pub parted : (s middle after : Option Piece) (w t elsewhere here : Bool) (held other another : Held) (item : spec.Item) (own : PlainToken) →
      elsewhere ≡ (w && not t) → here ≡ (w && t) → other ≡ held → another ≡ held →
      middle ≡ also s (under_piece elsewhere (open_piece (other ∷ []))) → after ≡ also middle (under_piece here (turn_piece exact table deeper active true another item own)) →
      after ≡ also s (under_piece w (turn_piece exact table deeper active t held item own))
  parted s middle after w t elsewhere here held other another item own is_elsewhere is_here is_other is_another e f =
      f ∙ ap (λ (p : Option Piece). also p (under_piece here (turn_piece exact table deeper active true another item own))) e
      ∙ ap (λ (b : Bool). also (also s (under_piece b (open_piece (other ∷ [])))) (under_piece here (turn_piece exact table deeper active true another item own))) is_elsewhere
      ∙ ap (λ (b : Bool). also (also s (under_piece (w && not t) (open_piece (other ∷ [])))) (under_piece b (turn_piece exact table deeper active true another item own))) is_here
      ∙ ap (λ (h : Held). also (also s (under_piece (w && not t) (open_piece (h ∷ [])))) (under_piece (w && t) (turn_piece exact table deeper active true another item own))) is_other
      ∙ ap (λ (h : Held). also (also s (under_piece (w && not t) (open_piece (held ∷ [])))) (under_piece (w && t) (turn_piece exact table deeper active true h item own))) is_another
      ∙ by_test w t
    where
      by_test : (w t : Bool) → also (also s (under_piece (w && not t) (open_piece (held ∷ [])))) (under_piece (w && t) (turn_piece exact table deeper active true held item own)) ≡ also s (under_piece w (turn_piece exact table deeper active t held item own))
      by_test true true = ap (λ (p : Option Piece). also p (turn_piece exact table deeper active true held item own)) (also-nothing s)
      by_test true false = also-nothing (also s (open_piece (held ∷ [])))
      by_test false t = also-nothing (also s (under_piece false (open_piece (held ∷ []))))

  -- one call more
  pub turned_more : (present w : Bool) (held : Held) (calls : List Held) (item : spec.Item) (own : PlainToken) (start s after : Option Piece) →
      s ≡ also start (turn_pieces exact table deeper active present calls item own) → after ≡ also s (under_piece w (turn_piece exact table deeper active present held item own)) →
      after ≡ also start (turn_pieces exact table deeper active present (calls ++ under w (held ∷ [])) item own)
  turned_more present w held calls item own start s after e f =
      let pieces = turn_pieces exact table deeper active present calls item own in
      f ∙ ap (λ (p : Option Piece). also p (under_piece w (turn_piece exact table deeper active present held item own))) e
      ∙ also-assoc start pieces (under_piece w (turn_piece exact table deeper active present held item own))
      ∙ ap (also start) (by_test w ∙ sym (turn_pieces-append exact table deeper active present calls (under w (held ∷ [])) item own))
    where
      by_test : (b : Bool) → also (turn_pieces exact table deeper active present calls item own) (under_piece b (turn_piece exact table deeper active present held item own))
          ≡ also (turn_pieces exact table deeper active present calls item own) (turn_pieces exact table deeper active present (under b (held ∷ [])) item own)
      by_test true = ap (also (turn_pieces exact table deeper active present calls item own)) (sym (also-nothing (turn_piece exact table deeper active present held item own)))
      by_test false = refl

pub open_more : (t w outside new : Bool) (held : Held) (calls : List Held) → outside ≡ (t && not (some_open calls)) → new ≡ (outside && not w) → new ≡ (t && not (some_open (calls ++ under w (held ∷ []))))
open_more t w outside new held calls e f = f ∙ ap (λ (b : Bool). b && not w) e ∙ by_test t w calls where
  by_test : (t w : Bool) (calls : List Held) → ((t && not (some_open calls)) && not w) ≡ (t && not (some_open (calls ++ under w (held ∷ []))))
  by_test true true [] = refl
  by_test true false [] = refl
  by_test false w [] = refl
  by_test true w (c ∷ cs) = refl
  by_test false w (c ∷ cs) = refl
