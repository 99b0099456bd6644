-- Alike statements end in related ways.
use Rattle.std.proofs.Common.{◌≡◌, ℕ, Bool, true, false, ◌&&◌, List, [], ◌∷◌, length, ◌⊎◌, inl, inr, refl, sym, ◌∙◌, ap, subst, cond, eqb, ◌||◌, Option, Some, None, slice_get}
use Rattle.std.proofs.lemmas.Option.{none-some}
use Rattle.std.proofs.lemmas.Bool.{cond-true, cond-false, true≢false, cases_eq, eq-eqb, ne_eqb}
use Rattle.std.specs.List.{list_any}
use Rattle.std.specs.Prelude.{is_some}
use Rattle.std.specs.Prelude.{⊤}
use Rattle.c_types.specs.Types.{PlainType, pointer_to, void}
use Rattle.core_meaning.specs.Program.{PlainExpression, PlainPart, PlainStatement, PlainItems, no_item, PlainFunction, defined, built_in, PlainProgram}
use Rattle.core_meaning.specs.Values.{Path, at, Scalar, Cells, Value, onward, type_at, is_inside, is_scalar}
use Rattle.core_meaning.specs.Memory.{zeros, zero_of}
use Rattle.core_meaning.specs.Outcomes.{State, Piece, followed_by, ◌>>=◌, give, full}
use Rattle.core_meaning.specs.Meaning.{Ending, falls, breaks, continues, returns, Frame, with_slot, Job, body_of, turn, used, truth_from, cells_filled, fill_missing, called_built_in, called_function, value_of, write_parts, initialise, asks, then_item, ending_of, items_ending, end_object}
use Rattle.run_pairs.specs.Correspondences.{Correspondence, Grown, WhereGiven, RelatedScalars, RelatedCells, RelatedValues, RelatedObjects, HeldAside, Setting, RelatedPieces, RelatedValueLists, expression_setting, statement_setting, RelatedEndings}
use Rattle.run_pairs.specs.Alike
use Rattle.run_pairs.specs.Alike.{Use, Uses, direct, through, elements, unused, AreDistinct, with_use, BothGiven, RelatedFrames, AlikeParts, before_items, Selection, in_block, at_declaration, Replacement, AlikeStatements, AlikeItems, RelatedJobs, AlikeFunctions, AlikePrograms}
use Rattle.run_pairs.proofs.Pieces.{same_grown, grown_on, pieces_then, pieces_give, pieces_given, pieces_choice, pieces_to, pieces_equal, after_nothing, followed_twice, followed_same}
use Rattle.run_pairs.proofs.MemoryPairs.{values_grow, some_same, related_with_object}
use Rattle.run_pairs.proofs.Operations.{pieces_undefined, Same, used_related, truth_from_related, write_related, make_related, end_related}
use Rattle.run_pairs.proofs.Calls.{temporary_related, built_in_related, call_value_related, full_related, inside_related}
use Rattle.run_pairs.proofs.Expressions.{frames_grow, CallsRelated, values_alike}

-- ---- a new object for two slots that stand for each other

abbrev pub direct_of : Use → Option ℕ
direct_of (direct k) = Some k
direct_of (through k) = None
direct_of (elements k) = None
direct_of unused = None

-- slots after a change: the changed ones, or others
choose_both : (R : ℕ → ℕ → Type 0) (b b' : Bool) (i j : ℕ) (x y : Option ℕ) → ((b ≡ true) × (b' ≡ true) × R i j) ⊎ ((b ≡ false) × (b' ≡ false) × BothGiven R x y) → BothGiven R (cond b (Some i) x) (cond b' (Some j) y)
choose_both R true true i j x y (inl h) = h.2
choose_both R true false i j x y (inl h) = absurd (true≢false (sym h.1))
choose_both R false b' i j x y (inl h) = absurd (true≢false (sym h.0))
choose_both R false false i j x y (inr h) = h.2
choose_both R false true i j x y (inr h) = absurd (true≢false h.1)
choose_both R true b' i j x y (inr h) = absurd (true≢false h.0)

module _ (types types' : List PlainType) (uses : Uses) (held : HeldAside) (c : Correspondence) (j k : ℕ) (distinct : AreDistinct (with_use uses j k)) (a b : ℕ) (ab : c a ≡ Some b)
    (frame frame' : Frame) (r : RelatedFrames types types' uses held c frame frame') where
  here : with_use uses j k j ≡ direct k
  here = cond-true (eqb j j) (direct k) (uses j) (eq-eqb j j refl)

  elsewhere : (i : ℕ) → (i ≡ j → ⊥) → (u : Use) → with_use uses j k i ≡ u → uses i ≡ u
  elsewhere i differ u f = sym (cond-false (eqb i j) (direct k) (uses i) (ne_eqb i j differ)) ∙ f

  at_here : (i : ℕ) → i ≡ j → with_use uses j k i ≡ direct k
  at_here i same = ap (with_use uses j k) same ∙ here

  pub frames_with : RelatedFrames types types' (with_use uses j k) held c (with_slot frame j a) (with_slot frame' k b)
  frames_with = record {
    these_types = r.these_types;
    those_types = r.those_types;
    direct_objects = λ i l f. choose_both (λ a b. c a ≡ Some b) (eqb i j) (eqb l k) a b (frame.objects i) (frame'.objects l) (directs i l f (cases_eq i j));
    passed_objects = λ i l f. choose_both _ (eqb i j) (eqb l k) a b (frame.objects i) (frame'.objects l)
        (inr (ne_eqb i j (not_at i (through l) f refl), ne_eqb l k (λ same. distinct.no_parameter j i k here (f ∙ ap through same)), r.passed_objects i l (elsewhere i (not_at i (through l) f refl) (through l) f)));
    passed_arrays = λ i l f. choose_both _ (eqb i j) (eqb l k) a b (frame.objects i) (frame'.objects l)
        (inr (ne_eqb i j (not_at i (elements l) f refl), ne_eqb l k (λ same. distinct.no_array j i k here (f ∙ ap elements same)), r.passed_arrays i l (elsewhere i (not_at i (elements l) f refl) (elements l) f)));
  } where
    not_at : (i : ℕ) (u : Use) → with_use uses j k i ≡ u → None ≡ direct_of u → i ≡ j → ⊥
    not_at i u f none same = none-some _ (none ∙ ap direct_of (sym f ∙ at_here i same))

    directs : (i l : ℕ) → with_use uses j k i ≡ direct l → (i ≡ j) ⊎ (i ≡ j → ⊥) →
        ((eqb i j ≡ true) × (eqb l k ≡ true) × (c a ≡ Some b)) ⊎ ((eqb i j ≡ false) × (eqb l k ≡ false) × BothGiven (λ a b. c a ≡ Some b) (frame.objects i) (frame'.objects l))
    directs i l f (inl same) = inl (eq-eqb i j same, eq-eqb l k (some_same (ap direct_of (sym f ∙ at_here i same))), ab)
    directs i l f (inr differ) = inr (ne_eqb i j differ, ne_eqb l k (λ same. differ (distinct.one i j k (f ∙ ap direct same) here)), r.direct_objects i l (elsewhere i differ (direct l) f))

-- ---- scalars that no part gives

zero_same : (c : Correspondence) (t : PlainType) → RelatedScalars c (zero_of t) (zero_of t)
zero_same c (pointer_to t) = tt
zero_same c other = refl

pub zeros_same : (c : Correspondence) (structs : List (List PlainType)) (t : PlainType) → RelatedCells c (zeros structs t) (zeros structs t)
zeros_same c structs t = record { at_path = λ path. by_case (is_inside structs t path && is_scalar (type_at structs t path)) (type_at structs t path) } where
  by_case : (b : Bool) (u : PlainType) → WhereGiven (RelatedScalars c) (cond b (Some (zero_of u)) None) (cond b (Some (zero_of u)) None)
  by_case true u = zero_same c u
  by_case false u = tt

pub cells_choice : (c : Correspondence) (b b' : Bool) → b ≡ b' → (x y u v : Option Scalar) → WhereGiven (RelatedScalars c) x y → WhereGiven (RelatedScalars c) u v → WhereGiven (RelatedScalars c) (cond b x u) (cond b' y v)
cells_choice c true true e x y u v h k = h
cells_choice c false false e x y u v h k = k
cells_choice c true false e x y u v h k = absurd (true≢false e)
cells_choice c false true e x y u v h k = absurd (true≢false (sym e))

-- ---- endings

pub endings_grow : (l r : Bool) (c d : Correspondence) → Grown c d → (x y : Ending) → RelatedEndings l r c x y → RelatedEndings l r d x y
endings_grow l r c d g falls falls h = tt
endings_grow l r c d g breaks breaks h = h
endings_grow l r c d g continues continues h = h
endings_grow l r c d g (returns v) (returns w) h = (h.0, values_grow c d g v w h.1)
endings_grow l r c d g falls breaks h = absurd h
endings_grow l r c d g falls continues h = absurd h
endings_grow l r c d g falls (returns w) h = absurd h
endings_grow l r c d g breaks falls h = absurd h
endings_grow l r c d g breaks continues h = absurd h
endings_grow l r c d g breaks (returns w) h = absurd h
endings_grow l r c d g continues falls h = absurd h
endings_grow l r c d g continues breaks h = absurd h
endings_grow l r c d g continues (returns w) h = absurd h
endings_grow l r c d g (returns v) falls h = absurd h
endings_grow l r c d g (returns v) breaks h = absurd h
endings_grow l r c d g (returns v) continues h = absurd h

-- the four ways in which two endings are related
pub data EndingPair (l r : Bool) (c : Correspondence) : Ending → Ending → Type 0 where
  both_fall : EndingPair l r c falls falls
  both_break : l ≡ true → EndingPair l r c breaks breaks
  both_continue : l ≡ true → EndingPair l r c continues continues
  both_return : (v w : Value) → r ≡ true → RelatedValues c v w → EndingPair l r c (returns v) (returns w)

pub ending_pair : (l r : Bool) (c : Correspondence) (x y : Ending) → RelatedEndings l r c x y → EndingPair l r c x y
ending_pair l r c falls falls h = both_fall
ending_pair l r c breaks breaks h = both_break h
ending_pair l r c continues continues h = both_continue h
ending_pair l r c (returns v) (returns w) h = both_return v w h.0 h.1
ending_pair l r c falls breaks h = absurd h
ending_pair l r c falls continues h = absurd h
ending_pair l r c falls (returns w) h = absurd h
ending_pair l r c breaks falls h = absurd h
ending_pair l r c breaks continues h = absurd h
ending_pair l r c breaks (returns w) h = absurd h
ending_pair l r c continues falls h = absurd h
ending_pair l r c continues breaks h = absurd h
ending_pair l r c continues (returns w) h = absurd h
ending_pair l r c (returns v) falls h = absurd h
ending_pair l r c (returns v) breaks h = absurd h
ending_pair l r c (returns v) continues h = absurd h

-- what ends outside loops ends so anywhere
outside_pair : (l r : Bool) (c : Correspondence) (x y : Ending) → EndingPair false r c x y → RelatedEndings l r c x y
outside_pair l r c x y both_fall = tt
outside_pair l r c x y (both_break e) = absurd (true≢false (sym e))
outside_pair l r c x y (both_continue e) = absurd (true≢false (sym e))
outside_pair l r c x y (both_return v w e h) = (e, h)

falls_anywhere : (l r : Bool) (c : Correspondence) (x y : Ending) → EndingPair false false c x y → EndingPair l r c x y
falls_anywhere l r c x y both_fall = both_fall
falls_anywhere l r c x y (both_break e) = absurd (true≢false (sym e))
falls_anywhere l r c x y (both_continue e) = absurd (true≢false (sym e))
falls_anywhere l r c x y (both_return v w e h) = absurd (true≢false (sym e))

pub only_falls : (l r : Bool) (c : Correspondence) (x y : Ending) → EndingPair false false c x y → RelatedEndings l r c x y
only_falls l r c x y both_fall = tt
only_falls l r c x y (both_break e) = absurd (true≢false (sym e))
only_falls l r c x y (both_continue e) = absurd (true≢false (sym e))
only_falls l r c x y (both_return v w e h) = absurd (true≢false (sym e))

-- ---- statements before others

then_later : (p : PlainProgram) (later : Job → Piece Ending) (ending : Ending) (f g : Piece Ending) (h : Piece Ending) →
    ((s : State) → f s ≡ followed_by (g s) (λ e. then_item p later e h)) → (s : State) → then_item p later ending f s ≡ followed_by (then_item p later ending g s) (λ e. then_item p later e h)
then_later p later falls f g h same s = same s
then_later p later breaks f g h same s = refl
then_later p later continues f g h same s = refl
then_later p later (returns v) f g h same s = refl

pub items_before : (p : PlainProgram) (later : Job → Piece Ending) (frame : Frame) (ss : List PlainStatement) (rest : PlainItems) (s : State) →
    items_ending p later frame (before_items ss rest) s ≡ (items_ending p later frame (before_items ss no_item) >>= (λ e. then_item p later e (items_ending p later frame rest))) s
items_before p later frame [] rest s = sym (after_nothing (items_ending p later frame rest s))
items_before p later frame (x ∷ ss) rest s =
    followed_same (ending_of p later frame x s) _ _ (λ e t. then_later p later e (items_ending p later frame (before_items ss rest)) (items_ending p later frame (before_items ss no_item)) (items_ending p later frame rest) (items_before p later frame ss rest) t) ∙
    sym (followed_twice (ending_of p later frame x s) _ _)

-- ---- what is selected

-- how it ends; this object, of this type, is the one that is initialised
abbrev pub selection_ending : (p : PlainProgram) → (Job → Piece Ending) → Frame → ℕ → PlainType → Selection → Piece Ending
selection_ending p later frame object t (in_block ss) = items_ending p later frame (before_items ss no_item)
selection_ending p later frame object t (at_declaration j x) = initialise p later frame object t x >>= (λ done. give falls)

abbrev pub IsDeclared : Frame → ℕ → Selection → Type 0
IsDeclared frame object (in_block ss) = ⊤
IsDeclared frame object (at_declaration j x) = frame.objects j ≡ Some object

module _ (p : PlainProgram) (later : Job → Piece Ending) where
  -- what follows an initialiser
  initialised_then : (frame : Frame) (object : ℕ) (t : PlainType) (x : List PlainPart) (rest : Piece Ending) (end : Ending → Piece Ending) (s : State) →
      (initialise p later frame object t x >>= (λ done. rest >>= end)) s ≡ (initialise p later frame object t x >>= (λ done. give falls) >>= (λ e. then_item p later e rest >>= end)) s
  initialised_then frame object t x rest end s =
      sym (followed_twice (initialise p later frame object t x s) (λ done. give falls) (λ e. then_item p later e rest >>= end) ∙
      followed_same (initialise p later frame object t x s) _ _ (λ done now. after_nothing (followed_by (rest now) end)))

  -- what follows a declaration alone
  declared_then : (frame : Frame) (object : ℕ) (t : PlainType) (tt' : List PlainStatement) (rest : PlainItems) (end : Ending → Piece Ending) (s : State) →
      (initialise p later frame object t [] >>= (λ done. items_ending p later frame (before_items tt' rest) >>= end)) s
      ≡ (items_ending p later frame (before_items tt' no_item) >>= (λ e. then_item p later e (items_ending p later frame rest) >>= end)) s
  declared_then frame object t tt' rest end s =
      after_nothing (followed_by (items_ending p later frame (before_items tt' rest) s) end) ∙
      (ap (λ o. followed_by o end) (items_before p later frame tt' rest s) ∙
      followed_twice (items_ending p later frame (before_items tt' no_item) s) (λ e. then_item p later e (items_ending p later frame rest)) end)

-- ---- statements

module _ (p p' : PlainProgram) (functions : ℕ → Option ℕ) (arity : ℕ → ℕ) (first : Correspondence) (Stands : Replacement)
    (alike : AlikePrograms p p' functions arity first Stands) (first_cut : Bool) (later later' : Job → Piece Ending) where
  abbrev pub LaterRelated : Type 0
  LaterRelated = (held : HeldAside) (r : Bool) (c : Correspondence) → Grown first c → (job job' : Job) → RelatedJobs p p' functions arity first Stands held r c job job' →
      (ts us : List ℕ) → RelatedPieces (statement_setting first_cut held ts us) (RelatedEndings false r) c (later job) (later' job')

  -- what is selected comes to, and what stands for it
  abbrev pub SelectedRelated : Type 0
  SelectedRelated = (held : HeldAside) (c : Correspondence) → Grown first c → (types types' : List PlainType) (uses : Uses) → AreDistinct uses → (r : Bool) (selection : Selection) (tt' : List PlainStatement) → Stands types types' uses r selection tt' →
      (frame frame' : Frame) → RelatedFrames types types' uses held c frame frame' → (object : ℕ) (t : PlainType) → IsDeclared frame object selection → (ts us : List ℕ) →
      RelatedPieces (statement_setting first_cut held ts us) (RelatedEndings false r) c
      (selection_ending p later frame object t selection) (items_ending p' later' frame' (before_items tt' no_item))

  module _ (laters : LaterRelated) where
    -- ---- calls

    module _ (w : Setting) (jobs : (c : Correspondence) → Grown first c → (job job' : Job) → RelatedJobs p p' functions arity first Stands w.held true c job job' → RelatedPieces w (RelatedEndings false true) c (later job) (later' job')) where
      called_alike : (c : Correspondence) → Grown first c → (f g : ℕ) → functions f ≡ Some g → (vs ws : List Value) → RelatedValueLists c vs ws → length vs ≡ arity f →
          (x y : Option PlainFunction) → WhereGiven (AlikeFunctions p p' functions arity first Stands (arity f)) x y →
          RelatedPieces w RelatedValues c (called_function p later x f vs) (called_function p' later' y g ws)
      called_alike c grown f g e vs ws h n None y k = pieces_undefined _
      called_alike c grown f g e vs ws h n (Some x) None k = absurd k
      called_alike c grown f g e vs ws h n (Some (built_in b)) (Some (built_in b')) k =
          subst (λ b'. RelatedPieces w RelatedValues c (called_built_in p b vs) (called_built_in p' b' ws)) k (built_in_related p p' alike.same_structs w c b vs ws h)
      called_alike c grown f g e vs ws h n (Some (defined types body)) (Some (defined types' body')) k =
          pieces_then (jobs c grown (body_of f vs) (body_of g ws) (record { returning = refl; same_function = e; values = h; count = n }))
          (λ d g' x y r. call_value_related p p' alike.same_structs w d x y r)
      called_alike c grown f g e vs ws h n (Some (built_in b)) (Some (defined types' body')) k = absurd k
      called_alike c grown f g e vs ws h n (Some (defined types body)) (Some (built_in b')) k = absurd k

      calls_in : CallsRelated p p' functions arity first alike.same_structs w later later'
      calls_in c grown f g e vs ws h n = called_alike c grown f g e vs ws h n (slice_get p.functions f) (slice_get p'.functions g) (alike.alike_functions f g e)

    pub calls_alike : (held : HeldAside) → CallsRelated p p' functions arity first alike.same_structs (expression_setting first_cut held) later later'
    calls_alike held =
        calls_in (expression_setting first_cut held) (λ c g job job' h. inside_related p p' alike.same_structs first_cut held (RelatedEndings false true) c (later job) (later' job') (laters held true c g job job' h))

    -- where no temporary object is made
    pub calls_apart : (held : HeldAside) (ts us : List ℕ) → CallsRelated p p' functions arity first alike.same_structs (statement_setting first_cut held ts us) later later'
    calls_apart held ts us = calls_in (statement_setting first_cut held ts us) (λ c g job job' h. laters held true c g job job' h ts us)

    module _ (selects : Bool) (selecteds : selects ≡ true → SelectedRelated) (held : HeldAside) (types types' : List PlainType) where
      -- full expressions among statements
      pub full_value : (uses : Uses) (a b : PlainExpression) → Alike.AlikeExpressions p p' functions arity first false uses a b → (c : Correspondence) → Grown first c → (frame frame' : Frame) → RelatedFrames types types' uses held c frame frame' → (ts us : List ℕ) →
          RelatedPieces (statement_setting first_cut held ts us) RelatedValues c (full (value_of p later frame a)) (full (value_of p' later' frame' b))
      full_value uses a b h c g frame frame' r ts us =
          full_related p p' alike.same_structs first_cut held RelatedValues c ts us _ _ (values_alike p p' functions arity first alike.same_structs (expression_setting first_cut held) later later' (calls_alike held) false (λ e. temporary_related p p' alike.same_structs first_cut held) types types' uses frame frame' a b h c g r)

      pub full_used : (uses : Uses) (a b : PlainExpression) → Alike.AlikeExpressions p p' functions arity first false uses a b → (c : Correspondence) → Grown first c → (frame frame' : Frame) → RelatedFrames types types' uses held c frame frame' → (ts us : List ℕ) →
          RelatedPieces (statement_setting first_cut held ts us) RelatedValues c (full (used (value_of p later frame a))) (full (used (value_of p' later' frame' b)))
      full_used uses a b h c g frame frame' r ts us =
          full_related p p' alike.same_structs first_cut held RelatedValues c ts us _ _ (used_related (expression_setting first_cut held) (values_alike p p' functions arity first alike.same_structs (expression_setting first_cut held) later later' (calls_alike held) false (λ e. temporary_related p p' alike.same_structs first_cut held) types types' uses frame frame' a b h c g r))

      pub full_truth : (uses : Uses) (a b : PlainExpression) → Alike.AlikeExpressions p p' functions arity first false uses a b → (c : Correspondence) → Grown first c → (frame frame' : Frame) → RelatedFrames types types' uses held c frame frame' → (ts us : List ℕ) →
          RelatedPieces (statement_setting first_cut held ts us) Same c (full (truth_from (value_of p later frame a))) (full (truth_from (value_of p' later' frame' b)))
      full_truth uses a b h c g frame frame' r ts us =
          full_related p p' alike.same_structs first_cut held Same c ts us _ _ (truth_from_related (expression_setting first_cut held) (values_alike p p' functions arity first alike.same_structs (expression_setting first_cut held) later later' (calls_alike held) false (λ e. temporary_related p p' alike.same_structs first_cut held) types types' uses frame frame' a b h c g r))

      module _ (ts us : List ℕ) where
        abbrev around : Setting
        around = statement_setting first_cut held ts us

        -- ---- initialisers

        abbrev Done : Correspondence → Unit {0} → Unit {0} → Type 0
        Done c x y = ⊤

        parts_alike : (uses : Uses) (x y : List PlainPart) → AlikeParts p p' functions arity first false uses x y → (c : Correspondence) → Grown first c → (frame frame' : Frame) → RelatedFrames types types' uses held c frame frame' →
            (j k : ℕ) → c j ≡ Some k → RelatedPieces around Done c (write_parts p later frame j x) (write_parts p' later' frame' k y)
        parts_alike uses x y Alike.no_parts c g frame frame' r j k e = pieces_give (λ d g. tt)
        parts_alike uses x y (Alike.parts path a b u v h t) c g frame frame' r j k e =
            pieces_then (full_used uses a b h c g frame frame' r ts us) (λ d g' i i' z.
            pieces_then (write_related p p' alike.same_structs around d (at j path) (at k path) (g'.keeps j k e, refl) i i' z) (λ d' g'' q q' o.
            parts_alike uses u v t d' (grown_on g (grown_on g' g'')) frame frame' (frames_grow types types' uses held c d' (grown_on g' g'') frame frame' r) j k (g''.keeps j k (g'.keeps j k e))))

        same_paths : (uses : Uses) (x y : List PlainPart) → AlikeParts p p' functions arity first false uses x y → (path : Path) → list_any (λ x. is_some (onward x.path path)) x ≡ list_any (λ x. is_some (onward x.path path)) y
        same_paths uses x y Alike.no_parts path = refl
        same_paths uses x y (Alike.parts start a b u v h t) path = ap (λ b. is_some (onward start path) || b) (same_paths uses u v t path)

        filled : (uses : Uses) (x y : List PlainPart) → AlikeParts p p' functions arity first false uses x y → (c : Correspondence) (t : PlainType) (cells cells' : Cells) → RelatedCells c cells cells' →
            RelatedCells c (cells_filled x (zeros p.structs t) cells) (cells_filled y (zeros p.structs t) cells')
        filled uses x y h c t cells cells' r = record {
          at_path = λ path.
              cells_choice c _ _ (same_paths uses x y h path) (cells path) (cells' path) (zeros p.structs t path) (zeros p.structs t path) (r.at_path path) ((zeros_same c p.structs t).at_path path);
        }

        fill_related : (uses : Uses) (c : Correspondence) (j k : ℕ) → c j ≡ Some k → (t t' : PlainType) → t ≡ t' → (x y : List PlainPart) → AlikeParts p p' functions arity first false uses x y →
            RelatedPieces around Done c (fill_missing p j t x) (fill_missing p' k t' y)
        fill_related uses c j k e t t' same x y h = record {
          in_states = λ d g s s' st.
              let m = s.memory in let m' = s'.memory in
              let e' : d j ≡ Some k = g.keeps j k e in
              let o : RelatedObjects d (m.object j) (m'.object k) = st.memories.objects j k e' in
              let zeros' : Cells = zeros p'.structs t' in
              let fills : RelatedCells d (cells_filled x (zeros p.structs t) (m.object j).cells) (cells_filled y zeros' (m'.object k).cells) =
              subst (λ z. RelatedCells d (cells_filled x (zeros p.structs t) (m.object j).cells) (cells_filled y z (m'.object k).cells)) (ap (λ ss. zeros ss t) alike.same_structs ∙ ap (λ t. zeros p'.structs t) same)
              (filled uses x y h d t (m.object j).cells (m'.object k).cells o.hold) in (
                refl,
                record {
                  now = d;
                  grown = same_grown d;
                  ends = record {
                    results = tt;
                    states = record {
                      memories = related_with_object held d m m' st.memories j k e' (record (m.object j) { cells = cells_filled x (zeros p.structs t) (m.object j).cells }) (record (m'.object k) { cells = cells_filled y zeros' (m'.object k).cells })
                          (record { same_type = o.same_type; live = o.live; write = o.write; hold = fills });
                      inputs = st.inputs;
                      temporary_objects = st.temporary_objects;
                    };
                  };
                },
              );
        }

        pub initialise_alike : (uses : Uses) (x y : List PlainPart) → AlikeParts p p' functions arity first false uses x y → (c : Correspondence) → Grown first c → (frame frame' : Frame) → RelatedFrames types types' uses held c frame frame' →
            (j k : ℕ) → c j ≡ Some k → (t t' : PlainType) → t ≡ t' → RelatedPieces around Done c (initialise p later frame j t x) (initialise p' later' frame' k t' y)
        initialise_alike uses x y Alike.no_parts c g frame frame' r j k e t t' same = pieces_give (λ d g. tt)
        initialise_alike uses x y (Alike.parts path a b u v h l) c g frame frame' r j k e t t' same =
            pieces_then (parts_alike uses _ _ (Alike.parts path a b u v h l) c g frame frame' r j k e) (λ d g' q q' o. fill_related uses d j k (g'.keeps j k e) t t' same _ _ (Alike.parts path a b u v h l))

        -- ---- loops and blocks

        pub asks_alike : (uses : Uses) → AreDistinct uses → (r : Bool) (a b s t : PlainExpression) (x y : PlainStatement) → Alike.AlikeExpressions p p' functions arity first false uses a b → Alike.AlikeExpressions p p' functions arity first false uses s t →
            AlikeStatements p p' functions arity first Stands types types' selects uses true r x y →
            (c : Correspondence) → Grown first c → (frame frame' : Frame) → RelatedFrames types types' uses held c frame frame' → RelatedPieces around (RelatedEndings false r) c (asks p later frame a s x) (asks p' later' frame' b t y)
        asks_alike uses distinct r a b s t x y h k l c g frame frame' fr =
            pieces_then (full_truth uses a b h c g frame frame' fr ts us) (λ d g' i i' e.
            pieces_choice i i' e
            (laters held r d (grown_on g g') (turn frame a s x) (turn frame' b t y) (record { types = types; types' = types'; uses = uses; selects = selects; distinct = distinct; frames = frames_grow types types' uses held c d g' frame frame' fr; conditions = h; steps = k; bodies = l }) ts us)
            (pieces_give (λ d' g''. tt)))

        then_item_pair : (l r : Bool) (c : Correspondence) (x y : Ending) → EndingPair l r c x y → (f g : Piece Ending) → RelatedPieces around (RelatedEndings l r) c f g →
            RelatedPieces around (RelatedEndings l r) c (then_item p later x f) (then_item p' later' y g)
        then_item_pair l r c x y both_fall f g h = h
        then_item_pair l r c x y (both_break e) f g h = pieces_give (λ d g. e)
        then_item_pair l r c x y (both_continue e) f g h = pieces_give (λ d g. e)
        then_item_pair l r c x y (both_return v w e k) f g h = pieces_give (λ d g. (e, values_grow c d g v w k))

        mutual
          pub statements_alike : (uses : Uses) (l r : Bool) (x y : PlainStatement) → AlikeStatements p p' functions arity first Stands types types' selects uses l r x y → AreDistinct uses → (c : Correspondence) → Grown first c →
              (frame frame' : Frame) → RelatedFrames types types' uses held c frame frame' → RelatedPieces around (RelatedEndings l r) c (ending_of p later frame x) (ending_of p' later' frame' y)
          statements_alike _ _ _ x y (Alike.blocks uses l r a b h) distinct c g frame frame' fr = items_alike uses l r a b h distinct c g frame frame' fr
          statements_alike _ _ _ x y (Alike.evaluates uses l r a b h) distinct c g frame frame' fr = pieces_then (full_value uses a b h c g frame frame' fr ts us) (λ d g' v v' e. pieces_give (λ d' g''. tt))
          statements_alike _ _ _ x y (Alike.selections uses l r a b i j u v h k m) distinct c g frame frame' fr =
              pieces_then (full_truth uses a b h c g frame frame' fr ts us) (λ d g' t t' e.
              let fr' = frames_grow types types' uses held c d g' frame frame' fr in
              pieces_choice t t' e (statements_alike uses l r i j k distinct d (grown_on g g') frame frame' fr') (statements_alike uses l r u v m distinct d (grown_on g g') frame frame' fr'))
          statements_alike _ _ _ x y (Alike.loops uses l r asks a b s t i j h k m) distinct c g frame frame' fr =
              pieces_to (λ d g' x y e. outside_pair l r d x y (ending_pair false r d x y e))
              (pieces_choice asks asks refl (asks_alike uses distinct r a b s t i j h k m c g frame frame' fr)
              (laters held r c g (turn frame a s i) (turn frame' b t j) (record { types = types; types' = types'; uses = uses; selects = selects; distinct = distinct; frames = fr; conditions = h; steps = k; bodies = m }) ts us))
          statements_alike _ _ _ x y (Alike.break_loops uses l r e) distinct c g frame frame' fr = pieces_give (λ d g. e)
          statements_alike _ _ _ x y (Alike.continue_loops uses l r e) distinct c g frame frame' fr = pieces_give (λ d g. e)
          statements_alike _ _ _ x y (Alike.returns_nothing uses l r e) distinct c g frame frame' fr = pieces_give (λ d g. (e, tt))
          statements_alike _ _ _ x y (Alike.returns_value uses l r a b e h) distinct c g frame frame' fr =
              pieces_then (full_used uses a b h c g frame frame' fr ts us) (λ d g' v v' k. pieces_give (λ d' g''. (e, values_grow d d' g'' v v' k)))

          pub items_alike : (uses : Uses) (l r : Bool) (x y : PlainItems) → AlikeItems p p' functions arity first Stands types types' selects uses l r x y → AreDistinct uses → (c : Correspondence) → Grown first c →
              (frame frame' : Frame) → RelatedFrames types types' uses held c frame frame' → RelatedPieces around (RelatedEndings l r) c (items_ending p later frame x) (items_ending p' later' frame' y)
          items_alike _ _ _ x y (Alike.no_items uses l r) distinct c g frame frame' fr = pieces_give (λ d g. tt)
          items_alike _ _ _ x y (Alike.locals uses l r j k u v a b e distinct' h m) distinct c g frame frame' fr =
              pieces_then (pieces_given (slice_get frame.types j) (slice_get frame'.types k) (λ d g'. subst (λ x. WhereGiven ◌≡◌ (slice_get x j) (slice_get frame'.types k)) (sym fr.these_types) (subst (λ x. WhereGiven ◌≡◌ (slice_get types j) (slice_get x k)) (sym fr.those_types) e))) (λ d g' t t' same.
              pieces_then (make_related p p' alike.same_structs around d t t' same) (λ d₂ g₂ i i' n.
              let to : Grown c d₂ = grown_on g' g₂ in
              let fr' = frames_with types types' uses held d₂ j k distinct' i i' n frame frame' (frames_grow types types' uses held c d₂ to frame frame' fr) in
              pieces_then (initialise_alike (with_use uses j k) u v h d₂ (grown_on g to) (with_slot frame j i) (with_slot frame' k i') fr' i i' n t t' same) (λ d₃ g₃ q q' o.
              pieces_then (items_alike (with_use uses j k) l r a b m distinct' d₃ (grown_on g (grown_on to g₃)) (with_slot frame j i) (with_slot frame' k i') (frames_grow types types' (with_use uses j k) held d₂ d₃ g₃ (with_slot frame j i) (with_slot frame' k i') fr')) (λ d₄ g₄ z z' w.
              end_related p p' alike.same_structs around (RelatedEndings l r) d₄ i i' (g₄.keeps i i' (g₃.keeps i i' n)) z z' (λ d₅ g₅. endings_grow l r d₄ d₅ g₅ z z' w)))))
          items_alike _ _ _ x y (Alike.statement_items uses l r s t a b h m) distinct c g frame frame' fr =
              pieces_then (statements_alike uses l r s t h distinct c g frame frame' fr) (λ d g' z z' w.
              then_item_pair l r d z z' (ending_pair l r d z z' w) _ _ (items_alike uses l r a b m distinct d (grown_on g g') frame frame' (frames_grow types types' uses held c d g' frame frame' fr)))
          items_alike _ _ _ x y (Alike.selected uses l r ss tt' a b e h m) distinct c g frame frame' fr =
              pieces_equal _ _ _ _ (items_before p later frame ss a) (items_before p' later' frame' tt' b)
              (pieces_then (pieces_to (λ d g' x y e. outside_pair l r d x y (ending_pair false r d x y e)) (selecteds e held c g types types' uses distinct r (in_block ss) tt' h frame frame' fr 0 void tt ts us)) (λ d g' z z' w.
              then_item_pair l r d z z' (ending_pair l r d z z' w) _ _ (items_alike uses l r a b m distinct d (grown_on g g') frame frame' (frames_grow types types' uses held c d g' frame frame' fr))))
          items_alike _ _ _ x y (Alike.initialised uses l r j k u tt' a b e same distinct' h m) distinct c g frame frame' fr =
              pieces_then (pieces_given (slice_get frame.types j) (slice_get frame'.types k) (λ d g'. subst (λ x. WhereGiven ◌≡◌ (slice_get x j) (slice_get frame'.types k)) (sym fr.these_types) (subst (λ x. WhereGiven ◌≡◌ (slice_get types j) (slice_get x k)) (sym fr.those_types) same))) (λ d g' t t' equal.
              pieces_then (make_related p p' alike.same_structs around d t t' equal) (λ d₂ g₂ i i' n.
              let to : Grown c d₂ = grown_on g' g₂ in
              let fr' = frames_with types types' uses held d₂ j k distinct' i i' n frame frame' (frames_grow types types' uses held c d₂ to frame frame' fr) in
              pieces_equal _ _ _ _ (initialised_then p later (with_slot frame j i) i t u (items_ending p later (with_slot frame j i) a) (end_object p i)) (declared_then p' later' (with_slot frame' k i') i' t' tt' b (end_object p' i'))
              (pieces_then (selecteds e held d₂ (grown_on g to) types types' (with_use uses j k) distinct' false (at_declaration j u) tt' h (with_slot frame j i) (with_slot frame' k i') fr' i t (cond-true (eqb j j) (Some i) (frame.objects j) (eq-eqb j j refl)) ts us) (λ d₃ g₃ y y' q.
              pieces_then (then_item_pair l r d₃ y y' (falls_anywhere l r d₃ y y' (ending_pair false false d₃ y y' q)) _ _ (items_alike (with_use uses j k) l r a b m distinct' d₃ (grown_on g (grown_on to g₃)) (with_slot frame j i) (with_slot frame' k i') (frames_grow types types' (with_use uses j k) held d₂ d₃ g₃ (with_slot frame j i) (with_slot frame' k i') fr'))) (λ d₄ g₄ z z' w.
              end_related p p' alike.same_structs around (RelatedEndings l r) d₄ i i' (g₄.keeps i i' (g₃.keeps i i' n)) z z' (λ d₅ g₅. endings_grow l r d₄ d₅ g₅ z z' w))))))
