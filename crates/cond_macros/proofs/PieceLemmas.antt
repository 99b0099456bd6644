-- One step through a list in a configuration.
use Rattle.std.proofs.Common.{◌≡◌, ℕ, zero, suc, Bool, true, false, not, ◌&&◌, List, [], ◌∷◌, ◌++◌, map, Option, Some, None, refl, sym, ap, ◌∙◌, append_assoc, append-nil}
use Rattle.std.specs.Prelude.{if◌then◌else◌, ⊤}
use Rattle.std.specs.Option.{option_map}
use Rattle.std.proofs.lemmas.List.{map-append}
use Rattle.c_text.specs.Token.{PlainToken}
use Rattle.c_text.specs.Macros as spec
use Rattle.cond_runs.specs.Looked.{looked}
use Rattle.cond_runs.specs.Pieces.{Held, Piece, nothing_done, unless_refused, also, under_piece, items_piece, given_piece, open_piece, some_open, ended, without_calls, brought_again, progress_piece, turn_piece, turn_pieces, outside_piece}
use Rattle.cond_macros.specs.Readings.{look, prepended, IsSound, items_behind, goes_on, IsSoundPiece, ListBecomes}
use Rattle.cond_runs.proofs.Sites.{in_call_twice, core-brought, cores-brought, looked_cores}

-- ---- pieces are a monoid

pub also-nothing : (piece : Option Piece) → also piece nothing_done ≡ piece
also-nothing None = refl
also-nothing (Some piece) = ap (λ (l : List spec.Item). Some (record { done = l; open_calls = piece.open_calls ++ [] })) (append-nil piece.done) ∙ ap (λ (l : List Held). Some (record { done = piece.done; open_calls = l })) (append-nil piece.open_calls)

pub nothing-also : (piece : Option Piece) → also nothing_done piece ≡ piece
nothing-also None = refl
nothing-also (Some piece) = refl

pub also-assoc : (p q r : Option Piece) → also (also p q) r ≡ also p (also q r)
also-assoc None q r = refl
also-assoc (Some p) None r = refl
also-assoc (Some p) (Some q) None = refl
also-assoc (Some p) (Some q) (Some r) =
    ap (λ (l : List spec.Item). Some (record { done = l; open_calls = (p.open_calls ++ q.open_calls) ++ r.open_calls })) (append_assoc p.done q.done r.done)
    ∙ ap (λ (l : List Held). Some (record { done = p.done ++ (q.done ++ r.done); open_calls = l })) (append_assoc p.open_calls q.open_calls r.open_calls)

pub turn_pieces-append : (exact : Bool) (table : spec.Table) (deeper : spec.Deeper) (active : List (List ℕ)) (present : Bool) (xs ys : List Held) (item : spec.Item) (own : PlainToken) →
    turn_pieces exact table deeper active present (xs ++ ys) item own ≡ also (turn_pieces exact table deeper active present xs item own) (turn_pieces exact table deeper active present ys item own)
turn_pieces-append exact table deeper active present [] ys item own = sym (nothing-also (turn_pieces exact table deeper active present ys item own))
turn_pieces-append exact table deeper active present (x ∷ xs) ys item own =
    let one = turn_piece exact table deeper active present x item own in
    ap (also one) (turn_pieces-append exact table deeper active present xs ys item own)
    ∙ sym (also-assoc one (turn_pieces exact table deeper active present xs item own) (turn_pieces exact table deeper active present ys item own))

-- ---- sites

brought_twice : (first last : PlainToken) (item : spec.Item) → spec.brought first last (spec.brought first last item) ≡ spec.brought first last item
brought_twice first last item = rw (in_call_twice item.token.origin.place) refl

all_brought_twice : (first last : PlainToken) (items : List spec.Item) → map (spec.brought first last) (map (spec.brought first last) items) ≡ map (spec.brought first last) items
all_brought_twice first last [] = refl
all_brought_twice first last (item ∷ items) = ap (λ (x : spec.Item). x ∷ map (spec.brought first last) (map (spec.brought first last) items)) (brought_twice first last item) ∙ ap (λ (xs : List spec.Item). spec.brought first last item ∷ xs) (all_brought_twice first last items)

-- what a call brings is the same under sites of its own
brought_looked : (exact : Bool) (first last other another : PlainToken) (items : List spec.Item) → (exact ≡ true → first ≡ other) → (exact ≡ true → last ≡ another) →
    map (looked exact) (map (spec.brought first last) (map (spec.brought other another) items)) ≡ map (looked exact) (map (spec.brought other another) items)
brought_looked true first last other another items e f =
    ap (λ (l : List spec.Item). map (looked true) l)
    (ap (λ (t : PlainToken). map (spec.brought t last) (map (spec.brought other another) items)) (e refl)
    ∙ ap (λ (t : PlainToken). map (spec.brought other t) (map (spec.brought other another) items)) (f refl)
    ∙ all_brought_twice other another items)
brought_looked false first last other another items e f =
    looked_cores (map (spec.brought first last) (map (spec.brought other another) items))
    ∙ cores-brought first last (map (spec.brought other another) items)
    ∙ sym (looked_cores (map (spec.brought other another) items))

abbrev pub looked_all : Bool → Option (List spec.Item) → Option (List spec.Item)
looked_all exact items = option_map (map (looked exact)) items

open_looked : (exact : Bool) (table : spec.Table) (first last other another : PlainToken) (items : Option (List spec.Item)) → (exact ≡ true → first ≡ other) → (exact ≡ true → last ≡ another) →
    looked_all exact (brought_again first last (spec.unless_left_open table other another items)) ≡ looked_all exact (spec.unless_left_open table other another items)
open_looked exact table first last other another None e f = refl
open_looked exact table first last other another (Some items) e f = by_test (spec.ends_in_function table items) where
  by_test : (b : Bool) → looked_all exact (brought_again first last (if b then None else Some (map (spec.brought other another) items))) ≡ looked_all exact (if b then None else Some (map (spec.brought other another) items))
  by_test true = refl
  by_test false = ap (λ (l : List spec.Item). Some l) (brought_looked exact first last other another items e f)

module _ (exact : Bool) (table : spec.Table) (deeper : spec.Deeper) (active : List (List ℕ)) where
  body_looked : (call : spec.Call) (first last another : PlainToken) (arguments : Option (List (List spec.Item))) → (exact ≡ true → first ≡ call.name) → (exact ≡ true → last ≡ another) →
      looked_all exact (brought_again first last (spec.body_replacement table deeper active call another arguments)) ≡ looked_all exact (spec.body_replacement table deeper active call another arguments)
  body_looked call first last another None e f = refl
  body_looked call first last another (Some arguments) e f =
      open_looked exact table first last call.name another (deeper (call.name.text ∷ active) (spec.substituted call.params arguments call.body)) e f

  call_looked : (call : spec.Call) (first last another : PlainToken) → (exact ≡ true → first ≡ call.name) → (exact ≡ true → last ≡ another) →
      looked_all exact (brought_again first last (spec.call_replacement table deeper active call another)) ≡ looked_all exact (spec.call_replacement table deeper active call another)
  call_looked call first last another e f = by_test (spec.fits call.params (spec.all_arguments call)) where
    by_test : (b : Bool) → looked_all exact (brought_again first last (if b then spec.body_replacement table deeper active call another (spec.all_replaced deeper active (spec.all_arguments call)) else None))
        ≡ looked_all exact (if b then spec.body_replacement table deeper active call another (spec.all_replaced deeper active (spec.all_arguments call)) else None)
    by_test true = body_looked call first last another (spec.all_replaced deeper active (spec.all_arguments call)) e f
    by_test false = refl

  -- ---- what a list becomes

  look-before : (items : List spec.Item) (r : spec.Replaced) → look exact (spec.before items r) ≡ prepended (map (looked exact) items) (look exact r)
  look-before items (spec.fine others) = ap (λ (l : List spec.Item). Some l) (map-append (looked exact) items others)
  look-before items (spec.bad_call name) = refl

  prepended-append : (xs ys : List spec.Item) (items : Option (List spec.Item)) → prepended (xs ++ ys) items ≡ prepended xs (prepended ys items)
  prepended-append xs ys None = refl
  prepended-append xs ys (Some items) = ap (λ (l : List spec.Item). Some l) (append_assoc xs ys items)

  abbrev then_given : Option (List spec.Item) → Option (List spec.Item) → Option (List spec.Item)
  then_given None others = None
  then_given (Some items) others = prepended items others

  look-call_then : (name : PlainToken) (items : Option (List spec.Item)) (r : spec.Replaced) → look exact (spec.call_then name items r) ≡ then_given (looked_all exact items) (look exact r)
  look-call_then name None r = refl
  look-call_then name (Some items) r = look-before items r

  -- a piece behind items, where no call is open
  goes-given : (done : List spec.Item) (items : Option (List spec.Item)) (rest : List spec.Item) →
      goes_on exact table deeper active (also (Some (record { done = done; open_calls = [] })) (given_piece exact items)) rest ≡ prepended done (then_given (looked_all exact items) (look exact (spec.outside table deeper active rest)))
  goes-given done None rest = prepended_none done where
    prepended_none : (xs : List spec.Item) → None ≡ prepended xs None
    prepended_none xs = refl
  goes-given done (Some items) rest = prepended-append done (map (looked exact) items) (look exact (spec.outside table deeper active rest))

  feature_looked : (e : Bool) (one own token : PlainToken) → (e ≡ true → own ≡ token) → looked e (spec.brought own own (spec.fresh one)) ≡ looked e (spec.brought token token (spec.fresh one))
  feature_looked true one own token is = ap (λ (t : PlainToken). spec.brought t t (spec.fresh one)) (is refl)
  feature_looked false one own token is = core-brought own own (spec.fresh one) ∙ sym (core-brought token token (spec.fresh one))

  one_more : (done : List spec.Item) (x y : spec.Item) (rest : List spec.Item) → looked exact x ≡ looked exact y →
      goes_on exact table deeper active (also (Some (record { done = done; open_calls = [] })) (items_piece exact (x ∷ []))) rest ≡ prepended done (look exact (spec.before (y ∷ []) (spec.outside table deeper active rest)))
  one_more done x y rest e =
      prepended-append done (looked exact x ∷ []) (look exact (spec.outside table deeper active rest))
      ∙ ap (λ (i : spec.Item). prepended done (prepended (i ∷ []) (look exact (spec.outside table deeper active rest)))) e
      ∙ ap (prepended done) (sym (look-before (y ∷ []) (spec.outside table deeper active rest)))

  one_open : (done : List spec.Item) (held : Held) (rest : List spec.Item) →
      goes_on exact table deeper active (also (Some (record { done = done; open_calls = [] })) (open_piece (held ∷ []))) rest ≡ prepended done (look exact (spec.inside table deeper active held.call rest))
  one_open done held rest = ap (λ (l : List spec.Item). prepended l (look exact (spec.inside table deeper active held.call rest))) (append-nil done)

  -- an item outside calls
  outside_goes : (done : List spec.Item) (item : spec.Item) (own : PlainToken) (rest : List spec.Item) (t : spec.Treatment) → (exact ≡ true → own ≡ item.token) →
      goes_on exact table deeper active (also (Some (record { done = done; open_calls = [] })) (outside_piece exact table deeper active item own t)) rest
      ≡ prepended done (look exact (spec.treated table deeper active item t (spec.outside table deeper active rest) (λ call. spec.inside table deeper active call rest)))
  outside_goes done item own rest (spec.stays kept) is = one_more done kept kept rest refl
  outside_goes done item own rest (spec.is_feature one) is = one_more done (spec.brought own own (spec.fresh one)) (spec.brought item.token item.token (spec.fresh one)) rest (feature_looked exact one own item.token is)
  outside_goes done item own rest (spec.is_object body) is =
      let given = spec.replacement table deeper active item.token item.token (map spec.fresh body) in
      goes-given done (brought_again own own given) rest
      ∙ ap (λ (o : Option (List spec.Item)). prepended done (then_given o (look exact (spec.outside table deeper active rest)))) (open_looked exact table own own item.token item.token (deeper (item.token.text ∷ active) (map spec.fresh body)) is is)
      ∙ ap (prepended done) (sym (look-call_then item.token given (spec.outside table deeper active rest)))
  outside_goes done item own rest (spec.is_call params body) is = one_open done (record { call = spec.begun item.token params body; first = own }) rest

  given_sound : (done : List spec.Item) (items : Option (List spec.Item)) → IsSoundPiece exact table deeper active (also (Some (record { done = done; open_calls = [] })) (given_piece exact items))
  given_sound done None = tt
  given_sound done (Some items) = tt

  outside_sound : (done : List spec.Item) (item : spec.Item) (own : PlainToken) (t : spec.Treatment) → (exact ≡ true → own ≡ item.token) →
      IsSoundPiece exact table deeper active (also (Some (record { done = done; open_calls = [] })) (outside_piece exact table deeper active item own t))
  outside_sound done item own (spec.stays kept) is = tt
  outside_sound done item own (spec.is_feature one) is = tt
  outside_sound done item own (spec.is_object body) is = given_sound done (brought_again own own (spec.replacement table deeper active item.token item.token (map spec.fresh body)))
  outside_sound done item own (spec.is_call params body) is = is

  -- an item in a call
  inside_goes : (done : List spec.Item) (held : Held) (item : spec.Item) (own : PlainToken) (rest : List spec.Item) (p : spec.Progress) → (exact ≡ true → held.first ≡ held.call.name) → (exact ≡ true → own ≡ item.token) →
      goes_on exact table deeper active (also (Some (record { done = done; open_calls = [] })) (progress_piece exact table deeper active held p item.token own)) rest
      ≡ prepended done (look exact (spec.progressed table deeper active held.call item p (spec.outside table deeper active rest) (λ next. spec.inside table deeper active next rest)))
  inside_goes done held item own rest spec.ends first is =
      let given = spec.call_replacement table deeper active held.call item.token in
      goes-given done (brought_again held.first own given) rest
      ∙ ap (λ (o : Option (List spec.Item)). prepended done (then_given o (look exact (spec.outside table deeper active rest)))) (call_looked held.call held.first own item.token first is)
      ∙ ap (prepended done) (sym (look-call_then held.call.name given (spec.outside table deeper active rest)))
  inside_goes done held item own rest (spec.goes_on next) first is = one_open done (record { call = next; first = held.first }) rest

  moved : (p q : Option Piece) (rest : List spec.Item) (becomes : Option (List spec.Item)) → p ≡ q → ListBecomes exact table deeper active q rest becomes → ListBecomes exact table deeper active p rest becomes
  moved p q rest becomes e reads = rw e reads

  -- the name of a call stays
  abbrev KeepsName : spec.Call → spec.Progress → Type 0
  KeepsName call spec.ends = ⊤
  KeepsName call (spec.goes_on next) = next.name ≡ call.name

  inside_sound : (done : List spec.Item) (held : Held) (item : spec.Item) (own : PlainToken) (p : spec.Progress) → (exact ≡ true → held.first ≡ held.call.name) → KeepsName held.call p →
      IsSoundPiece exact table deeper active (also (Some (record { done = done; open_calls = [] })) (progress_piece exact table deeper active held p item.token own))
  inside_sound done held item own spec.ends first keeps = given_sound done (brought_again held.first own (spec.call_replacement table deeper active held.call item.token))
  inside_sound done held item own (spec.goes_on next) first keeps = λ e. first e ∙ sym keeps

  closing_keeps : (call : spec.Call) (item : spec.Item) (n : ℕ) → KeepsName call (spec.closing call item n)
  closing_keeps call item zero = tt
  closing_keeps call item (suc zero) = tt
  closing_keeps call item (suc (suc n)) = refl

  opening_keeps : (call : spec.Call) (item : spec.Item) (n : ℕ) → (spec.opening call item n).name ≡ call.name
  opening_keeps call item zero = refl
  opening_keeps call item (suc n) = refl

  progress_keeps : (call : spec.Call) (item : spec.Item) (a b c : Bool) → KeepsName call (if a then spec.closing call item call.nested else if b then spec.goes_on (spec.opening call item call.nested) else if c then spec.goes_on (spec.next_argument call) else spec.goes_on (spec.with_item call item))
  progress_keeps call item true b c = closing_keeps call item call.nested
  progress_keeps call item false true c = opening_keeps call item call.nested
  progress_keeps call item false false true = refl
  progress_keeps call item false false false = refl

  -- one item more, in a configuration
  turned_reads : (done : List spec.Item) (calls : List Held) (present : Bool) (item : spec.Item) (own : PlainToken) (rest : List spec.Item) (becomes : Option (List spec.Item)) → (exact ≡ true → own ≡ item.token) →
      ListBecomes exact table deeper active (Some (record { done = done; open_calls = calls })) (if present then item ∷ rest else rest) becomes →
      ListBecomes exact table deeper active (also (also (Some (record { done = done; open_calls = [] })) (turn_pieces exact table deeper active present calls item own)) (under_piece (present && not (some_open calls)) (outside_piece exact table deeper active item own (spec.treatment_of table active item rest)))) rest becomes
  turned_reads done [] true item own rest becomes is before =
      let start : Option Piece = Some (record { done = done; open_calls = [] }) in
      let piece = outside_piece exact table deeper active item own (spec.treatment_of table active item rest) in
      moved (also (also start nothing_done) piece) (also start piece) rest becomes (ap (λ (p : Option Piece). also p piece) (also-nothing start))
      (record { sound = outside_sound done item own (spec.treatment_of table active item rest) is; same = outside_goes done item own rest (spec.treatment_of table active item rest) is ∙ before.same })
  turned_reads done [] false item own rest becomes is before =
      let start : Option Piece = Some (record { done = done; open_calls = [] }) in
      moved (also (also start nothing_done) nothing_done) start rest becomes (also-nothing (also start nothing_done) ∙ also-nothing start) before
  turned_reads done (held ∷ []) true item own rest becomes is before =
      let start : Option Piece = Some (record { done = done; open_calls = [] }) in
      let p = spec.progress held.call item in
      let piece = progress_piece exact table deeper active held p item.token own in
      moved (also (also start (also piece nothing_done)) nothing_done) (also start piece) rest becomes (also-nothing (also start (also piece nothing_done)) ∙ ap (also start) (also-nothing piece))
      (record { sound = inside_sound done held item own p before.sound (progress_keeps held.call item _ _ _); same = inside_goes done held item own rest p before.sound is ∙ before.same })
  turned_reads done (held ∷ []) false item own rest becomes is before =
      let start : Option Piece = Some (record { done = done; open_calls = [] }) in
      let piece : Option Piece = Some (record { done = done; open_calls = held ∷ [] }) in
      moved (also (also start (also (open_piece (held ∷ [])) nothing_done)) nothing_done) piece rest becomes
      (also-nothing (also start (also (open_piece (held ∷ [])) nothing_done)) ∙ ap (also start) (also-nothing (open_piece (held ∷ []))) ∙ ap (λ (l : List spec.Item). Some (record { done = l; open_calls = held ∷ [] })) (append-nil done)) before
  turned_reads done (held ∷ other ∷ calls) present item own rest becomes is before = absurd before.sound

  pub step_reads : (refused : Bool) (piece : Piece) (present outside : Bool) (item : spec.Item) (own : PlainToken) (rest : List spec.Item) (becomes : Option (List spec.Item)) (middle after : Option Piece) → (exact ≡ true → own ≡ item.token) →
      outside ≡ (present && not (some_open piece.open_calls)) →
      middle ≡ also (without_calls (unless_refused refused piece)) (turn_pieces exact table deeper active present piece.open_calls item own) →
      after ≡ also middle (under_piece outside (outside_piece exact table deeper active item own (spec.treatment_of table active item rest))) →
      ListBecomes exact table deeper active (unless_refused refused piece) (if present then item ∷ rest else rest) becomes → ListBecomes exact table deeper active after rest becomes
  step_reads true piece present outside item own rest becomes middle after is is_outside is_middle is_after before =
      moved after None rest becomes (is_after ∙ ap (λ (p : Option Piece). also p (under_piece outside (outside_piece exact table deeper active item own (spec.treatment_of table active item rest)))) is_middle) (record { sound = tt; same = before.same })
  step_reads false piece present outside item own rest becomes middle after is is_outside is_middle is_after before =
      let last = outside_piece exact table deeper active item own (spec.treatment_of table active item rest) in
      moved after (also (also (Some (record { done = piece.done; open_calls = [] })) (turn_pieces exact table deeper active present piece.open_calls item own)) (under_piece (present && not (some_open piece.open_calls)) last)) rest becomes
      (is_after ∙ ap (λ (p : Option Piece). also p (under_piece outside last)) is_middle ∙ ap (λ (b : Bool). also (also (Some (record { done = piece.done; open_calls = [] })) (turn_pieces exact table deeper active present piece.open_calls item own)) (under_piece b last)) is_outside)
      (turned_reads piece.done piece.open_calls present item own rest becomes is before)

  -- where no item is left
  pub end_reads : (so_far : Option Piece) (becomes : Option (List spec.Item)) → ListBecomes exact table deeper active so_far [] becomes → ended so_far ≡ becomes
  end_reads None becomes reads = reads.same
  end_reads (Some piece) becomes reads = by_calls piece.done piece.open_calls reads.sound ∙ reads.same where
    by_calls : (done : List spec.Item) (calls : List Held) → IsSound exact calls → ended (Some (record { done = done; open_calls = calls })) ≡ prepended done (items_behind exact table deeper active calls [])
    by_calls done [] sound = ap (λ (l : List spec.Item). Some l) (sym (append-nil done))
    by_calls done (held ∷ []) sound = refl
    by_calls done (held ∷ other ∷ calls) sound = absurd sound

  pub begin_reads : (items : List spec.Item) → ListBecomes exact table deeper active nothing_done items (look exact (spec.outside table deeper active items))
  begin_reads items = record { sound = tt; same = unchanged (look exact (spec.outside table deeper active items)) } where
    unchanged : (o : Option (List spec.Item)) → prepended [] o ≡ o
    unchanged None = refl
    unchanged (Some items) = refl
