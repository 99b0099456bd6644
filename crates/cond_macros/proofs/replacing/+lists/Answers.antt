use Rattle.std.proofs.Common.{◌≡◌, ℕ, ◌+◌, ◌-◌, Bool, true, false, not, ◌&&◌, List, [], ◌∷◌, ◌++◌, map, drop, Option, Some, None, Bor, Vec, Global, refl, sym, ap, subst, ◌∙◌, arith}
use Rattle.std.specs.Prelude.{is_some}
use Rattle.std.proofs.lemmas.Result.{IfOk-weaker, on_ok_weaker}
use Rattle.c_text.specs.declared.token.Token.{Token}
use Rattle.c_text.specs.Token.{plain_token}
use Rattle.c_text.specs.Macros as spec
use Rattle.cond_formula.specs.Features.{has}
use Rattle.cond_formula.specs.Conditions.{Condition, condition_of, value}
use Rattle.cond_formula.specs.ConditionLaws.{condition_of-False, condition_of-True}
use Rattle.conditional.specs.declared.entries.Guarded.{Guarded}
use Rattle.conditional.specs.Entries.{entries_of, seen}
use Rattle.cond_bodies.specs.declared.item.Item.{Item}
use Rattle.cond_bodies.specs.declared.meanings.Function.{Function}
use Rattle.cond_bodies.specs.Cores.{cores}
use Rattle.cond_bodies.specs.CondItems.{item_at, items_at}
use Rattle.cond_bodies.specs.CondMeanings.{PlainFunction, plain_function, object_of, function_of}
use Rattle.cond_bodies.proofs.SpellingLemmas.{item_text}
use Rattle.cond_macros.specs.Below.{cores_of, all_cores_of, unless_any, behind_lists}
use Rattle.cond_runs.specs.Looked.{looked, unless}
use Rattle.cond_runs.specs.Functions.{is_single, or_function, some_seen, without_params, kept_item}
use Rattle.cond_runs.specs.CondArguments.{lists_at}
use Rattle.cond_runs.specs.CondCalls.{call_at, held_at, calls_at}
use Rattle.cond_runs.specs.CondFinished.{given_at}
use Rattle.cond_runs.specs.CondRuns.{run_at}
use Rattle.cond_macros.specs.CondLevels.{macros_in, active_in, deeper_in, is_within, replaced_at}
use Rattle.cond_runs.specs.Pieces.{Held, Piece, also, under_piece, items_piece, given_piece, open_piece, some_open, without_calls, brought_again, turn_pieces, outside_piece}
use Rattle.cond_macros.specs.Readings.{look, ListBecomes}
use Rattle.cond_macros.proofs.Cores.{replacement_alike}
use Rattle.cond_macros.proofs.CallLemmas.{below_none, below_is, below_alike, left_open_is, body_given, call_given, call_unfit, inexact, both_true}
use Rattle.cond_runs.proofs.ArgumentLemmas.{fit_alone, unfit_alone, unfit_if_none, single_is}
use Rattle.cond_runs.proofs.OpenLemmas.{calls_pushed}
use Rattle.cond_macros.proofs.ArgumentLemmas.{replaced_step, replaced_end, replaced_init}
use Rattle.cond_macros.proofs.TurnLemmas.{and_true, both_first, unseen, given_turn, ends_piece, progress_ends, parted, turned_more, open_more}
use Rattle.cond_macros.proofs.PieceLemmas.{step_reads, begin_reads, also-nothing}
use Rattle.cond_macros.proofs.NameLemmas.{bodies_seen, named, treated_active, treated_nothing, single_if, one_object, no_meaning, named_meaning, unnamed_meaning, fresh_substituted}
use Rattle.cond_macros.proofs.CondRunLemmas.{reads_next, reads_moved, reads_done, own_at, feature_is_built_in}
use Rattle.cond_macros.proofs.replacing.+lists.Goals as goal

-- ---- a list one level below

pub deeper-returns-then-level-eq0-clause-given : goal.deeper-returns-then-level-eq0-clause-given
deeper-returns-then-level-eq0-clause-given g t c = λ n admitted within.
    let level = c.args.level.now in
    c.nothing.ensures false (has n)
    ∙ ap (λ (d : Condition). unless (value (has n) d) (Some [])) condition_of-True
    ∙ below_none (macros_in n level) level.left (active_in level) (items_at (has n) c.args.items.now) c.if-level-eq0.true

pub deeper-returns-clause-given : goal.deeper-returns-clause-given
deeper-returns-clause-given g t c =
    let level = c.args.level.now in
    IfOk-weaker c.replaced_list.result _ _ (λ f h. λ n admitted within.
    below_is (macros_in n level) level.left (level.left - 1) (active_in level) (items_at (has n) c.args.items.now) (given_at false (has n) f) (omega arith) (h false n admitted within inexact))
    c.replaced_list.ensures.given

pub replacement-returns-clause-given : goal.replacement-returns-clause-given
unfolding given_at
replacement-returns-clause-given g t c =
    IfOk-weaker c.unless_left_open.result _ _ (λ finished h. λ n first last admitted within name.
    let level = c.args.level.now in
    let f = c.in_ok-f.f in
    let names : map (λ (t : Bor Token). t.now.text.items) c.as_slice.result.now ≡ first.text ∷ active_in level =
    ap (map (λ (t : Bor Token). t.now.text.items)) c.as_slice.ensures.value ∙ c.in_ok-names.ensures ∙ ap (λ (t : List ℕ). t ∷ active_in level) (sym name) in
    let found = deeper_in n level (first.text ∷ active_in level) (items_at (has n) c.args.body.now) in
    let given : given_at false (has n) f ≡ cores_of found = c.in_ok-f.ensures.given n admitted within ∙ ap (λ (a : List (List ℕ)). cores_of (deeper_in n level a (items_at (has n) c.args.body.now))) names in
    h false n
    ∙ left_open_is (macros_in n level) first last (value (has n) (condition_of f.refused)) (items_at (has n) f.items.items) found given)
    c.unless_left_open.ensures

-- ---- arguments

pub arguments_replaced-loop-argument-init : goal.arguments_replaced-loop-argument-init
arguments_replaced-loop-argument-init g t c = record {
  kept = refl;
  replaced = λ n admitted within.
      let all = all_cores_of (spec.all_replaced (deeper_in n c.args.level.now) (active_in c.args.level.now) (lists_at (has n) c.args.arguments.now)) in
      ap (λ (d : Condition). behind_lists (unless_any (value (has n) d) (map cores (lists_at (has n) c.in_ok-with_capacity.field-0.items))) all) condition_of-False
      ∙ ap (λ (l : List (Vec (Guarded Item) Global)). behind_lists (Some (map cores (lists_at (has n) l))) all) c.in_ok-with_capacity.ensures.items
      ∙ replaced_init all;
}

pub arguments_replaced-loop-argument-preserved : goal.arguments_replaced-loop-argument-preserved
arguments_replaced-loop-argument-preserved g t c = record {
  kept = c.in_ok-f.ensures.kept ∙ c.loop-argument.invariant.kept;
  replaced = λ n admitted within.
      let level = c.args.level.now in
      replaced_step (has n) (deeper_in n level) (active_in level) c.args.arguments.now c.argument-item.result c.loop-argument.argument-index (replaced_at (has n) c.loop-argument.replaced) (replaced_at (has n) c.add.new.self)
      (all_cores_of (spec.all_replaced (deeper_in n level) (active_in level) (lists_at (has n) c.args.arguments.now))) (given_at false (has n) c.in_ok-f.f) c.loop-argument-test.true c.argument-item.is
      (c.in_ok-add.ensures (has n))
      (c.in_ok-f.ensures.given n (rw c.loop-argument.invariant.kept admitted) within ∙ ap (λ (l : List (Guarded Item)). cores_of (deeper_in n level (active_in level) (items_at (has n) l))) c.as_slice.ensures.value)
      (c.loop-argument.invariant.replaced n admitted within);
}

pub arguments_replaced-returns-clause-replaced : goal.arguments_replaced-returns-clause-replaced
arguments_replaced-returns-clause-replaced g t c = λ n admitted within.
    let level = c.args.level.now in
    replaced_end (has n) (deeper_in n level) (active_in level) c.args.arguments.now c.loop-argument.argument-index (replaced_at (has n) c.loop-argument.replaced) (all_cores_of (spec.all_replaced (deeper_in n level) (active_in level) (lists_at (has n) c.args.arguments.now)))
    (omega arith) (c.loop-argument.invariant.replaced n admitted within)

-- ---- lists

pub turn-returns-clause-read : goal.turn-returns-clause-read
unfolding run_at
turn-returns-clause-read g t c =
    on_ok_weaker c.outside_turn.result (λ h. λ exact n becomes admitted within own before.
    let level = c.args.level.now in
    let entry = c.args.entry.now in
    let old = c.args.run.now in
    step_reads exact (macros_in n level) (deeper_in n level) (active_in level) (value (has n) (condition_of old.refused)) (record { done = map (looked exact) (items_at (has n) old.done.items); open_calls = calls_at (has n) old.calls.items })
    (value (has n) (condition_of entry.when)) (value (has n) (condition_of c.in_ok-outside.outside)) (item_at (has n) entry.what) (plain_token entry.what.token.now) (items_at (has n) c.args.rest.now) becomes
    (run_at exact (has n) c.inside_turn.new.run) (run_at exact (has n) c.outside_turn.new.run)
    (λ e. sym ((own e).token (has n))) (c.in_ok-outside.ensures.outside (has n)) (c.in_ok-outside.ensures.read exact n admitted within) (h exact n (rw c.in_ok-outside.ensures.kept admitted) within) before)
    c.outside_turn.ensures.read

pub replaced_list-loop-i-init : goal.replaced_list-loop-i-init
replaced_list-loop-i-init g t c = record {
  kept = refl;
  reads = λ exact n admitted within own.
      let level = c.args.level.now in
      let items = items_at (has n) c.args.items.now in
      subst (λ (p : Option Piece). ListBecomes exact (macros_in n level) (deeper_in n level) (active_in level) p items (look exact (spec.outside (macros_in n level) (deeper_in n level) (active_in level) items)))
      (sym (c.begun-run.ensures exact (has n))) (begin_reads exact (macros_in n level) (deeper_in n level) (active_in level) items);
}

pub replaced_list-loop-i-preserved : goal.replaced_list-loop-i-preserved
replaced_list-loop-i-preserved g t c = record {
  kept = c.in_ok-turn.ensures.kept ∙ c.loop-i.invariant.kept;
  reads = λ exact n admitted within own.
      let level = c.args.level.now in
      let items = c.args.items.now in
      let x = c.index-items-i.result in
      let rest = c.split_at.result.1.now in
      let becomes = look exact (spec.outside (macros_in n level) (deeper_in n level) (active_in level) (items_at (has n) items)) in
      reads_moved exact (macros_in n level) (deeper_in n level) (active_in level) (has n) (drop (c.loop-i.i + 1) items) rest (run_at exact (has n) c.turn.new.run) becomes c.split_at.ensures.back
      (c.in_ok-turn.ensures.read exact n becomes (rw c.loop-i.invariant.kept admitted) within (λ e. own_at items x c.loop-i.i c.loop-i-test.true c.index-items-i.is (own e))
      (reads_next exact (macros_in n level) (deeper_in n level) (active_in level) (has n) items rest x c.loop-i.i (run_at exact (has n) c.loop-i.run) becomes c.loop-i-test.true c.index-items-i.is c.split_at.ensures.back (c.loop-i.invariant.reads exact n admitted within own)));
}

pub replaced_list-returns-clause-given : goal.replaced_list-returns-clause-given
replaced_list-returns-clause-given g t c =
    IfOk-weaker c.finished.result _ _ (λ f h. λ exact n admitted within own.
    let level = c.args.level.now in
    let items = c.args.items.now in
    h exact (has n)
    ∙ reads_done exact (macros_in n level) (deeper_in n level) (active_in level) (has n) items c.loop-i.i (run_at exact (has n) c.loop-i.run) (look exact (spec.outside (macros_in n level) (deeper_in n level) (active_in level) (items_at (has n) items)))
    (omega arith) (c.loop-i.invariant.reads exact n admitted within own))
    c.finished.ensures

-- ---- calls

pub fitting_brought-returns-clause-given : goal.fitting_brought-returns-clause-given
fitting_brought-returns-clause-given g t c =
    let level = c.args.level.now in
    let replaced = c.in_ok-replaced.replaced in
    let own = plain_token c.args.name.now in
    IfOk-weaker c.refused_too.result _ _ (λ f h. λ n call last admitted inside name one arguments.
    let lists = lists_at (has n) replaced.lists.items in
    let all : replaced_at (has n) replaced ≡ all_cores_of (spec.all_replaced (deeper_in n level) (active_in level) (spec.all_arguments call)) =
    c.in_ok-replaced.ensures.replaced n admitted inside ∙ ap (λ (l : List (List spec.Item)). all_cores_of (spec.all_replaced (deeper_in n level) (active_in level) l)) arguments in
    let body : cores (items_at (has n) c.as_slice-2.result.now) ≡ cores (spec.substituted call.params lists call.body) =
    ap (λ (l : List (Guarded Item)). cores (items_at (has n) l)) c.as_slice-2.ensures.value
    ∙ c.in_ok-body.ensures (has n) (record { params = call.params; body = call.body }) one
    ∙ ap (λ (l : List (Vec (Guarded Item) Global)). cores (spec.substituted call.params (lists_at (has n) l) call.body)) c.as_slice.ensures.value in
    h false (has n)
    ∙ body_given (macros_in n level) (deeper_in n level) (below_alike (macros_in n level) level.left) (active_in level) call own own last (value (has n) (condition_of replaced.refused)) lists
    (items_at (has n) c.as_slice-2.result.now) (spec.all_replaced (deeper_in n level) (active_in level) (spec.all_arguments call)) (given_at false (has n) c.in_ok-f.f) name all body
    (c.in_ok-f.ensures.given n own own (rw c.in_ok-replaced.ensures.kept admitted) inside refl))
    c.refused_too.ensures

pub brought-returns-then-is_none-clause-given : goal.brought-returns-then-is_none-clause-given
brought-returns-then-is_none-clause-given g t c = λ n call last admitted inside name one arguments.
    let level = c.args.level.now in
    let f : PlainFunction = record { params = call.params; body = call.body } in
    let lists = lists_at (has n) c.args.arguments.now in
    let functions = seen (has n) (entries_of plain_function c.args.functions.now) in
    let unfit : value (has n) (condition_of c.in_ok-fit.fit.unfit) ≡ not (spec.fits call.params (spec.all_arguments call)) =
    c.in_ok-fit.ensures.unfit (has n) ∙ unfit_alone f lists functions one ∙ ap (λ (l : List (List spec.Item)). not (spec.fits call.params l)) arguments in
    let none : spec.fits call.params (spec.all_arguments call) ≡ false =
    ap (spec.fits call.params) (sym arguments)
    ∙ unfit_if_none f lists functions one (sym (c.in_ok-fit.ensures.functions (has n)) ∙ ap (λ (l : List (Guarded Function)). seen (has n) (entries_of plain_function l)) (c.is_none.ensures c.if-is_none.true)) in
    c.nothing.ensures false (has n)
    ∙ call_unfit (macros_in n level) (deeper_in n level) (below_alike (macros_in n level) level.left) (active_in level) call last (value (has n) (condition_of c.in_ok-fit.fit.unfit)) (Some []) unfit none

pub brought-returns-clause-given : goal.brought-returns-clause-given
brought-returns-clause-given g t c =
    let level = c.args.level.now in
    let lists : (n : List Bool) → List (List spec.Item) = λ n. lists_at (has n) c.args.arguments.now in
    let functions : (n : List Bool) → List PlainFunction = λ n. seen (has n) (entries_of plain_function c.args.functions.now) in
    IfOk-weaker c.refused_too.result _ _ (λ r h. λ n call last admitted inside name one arguments.
    let f : PlainFunction = record { params = call.params; body = call.body } in
    let unfit : value (has n) (condition_of c.in_ok-fit.fit.unfit) ≡ not (spec.fits call.params (spec.all_arguments call)) =
    c.in_ok-fit.ensures.unfit (has n) ∙ unfit_alone f (lists n) (functions n) one ∙ ap (λ (l : List (List spec.Item)). not (spec.fits call.params l)) arguments in
    h false (has n)
    ∙ call_given (macros_in n level) (deeper_in n level) (below_alike (macros_in n level) level.left) (active_in level) call last (value (has n) (condition_of c.in_ok-fit.fit.unfit)) (given_at false (has n) c.in_ok-f.f) unfit
    (λ fit. c.in_ok-f.ensures.given n call last admitted inside name
    (ap (λ (l : List (Guarded Function)). seen (has n) (entries_of plain_function l)) c.as_slice.ensures.value ∙ c.in_ok-fit.ensures.functions (has n)
    ∙ fit_alone f (lists n) (functions n) one (ap (spec.fits call.params) arguments ∙ fit)) arguments))
    c.refused_too.ensures

pub called-returns-clause-given : goal.called-returns-clause-given
called-returns-clause-given g t c =
    let level = c.args.level.now in
    let call = c.args.call.now in
    IfOk-weaker c.brought.result _ _ (λ f h. λ n plain last admitted within opened name one arguments.
    h n plain last admitted
    (both_true (is_within n level) (value (has n) (condition_of call.when)) (value (has n) (condition_of c.in_ok-within.within)) (c.in_ok-within.ensures (has n)) within opened)
    name
    (ap (λ (l : List (Guarded Function)). seen (has n) (entries_of plain_function l)) c.as_slice.ensures.value ∙ one)
    (ap (λ (l : List (Vec (Guarded Item) Global)). lists_at (has n) l) c.as_slice-2.ensures.value ∙ arguments))
    c.brought.ensures.given

-- ---- items in opened calls

pub present_turn-returns-then-not-possible-clause-read : goal.present_turn-returns-then-not-possible-clause-read
present_turn-returns-then-not-possible-clause-read g t c = λ exact n admitted within.
    unseen (run_at exact (has n) c.args.run.now) (value (has n) (condition_of c.args.call.when)) _ (c.in_ok-possible.ensures.no c.if-not-possible.true n admitted within)

pub present_turn-returns-then-is_closed_by-clause-read : goal.present_turn-returns-then-is_closed_by-clause-read
unfolding call_at
present_turn-returns-then-is_closed_by-clause-read g t c =
    on_ok_weaker c.take.result (λ h. λ exact n admitted within.
    let level = c.args.level.now in
    let item = item_at (has n) c.args.item.now in
    let call = c.args.call in
    let held = held_at (has n) call in
    let own = plain_token c.args.item.now.token.now in
    let old = run_at exact (has n) c.args.run.now in
    let w = value (has n) (condition_of call.when) in
    let given = given_at false (has n) c.in_ok-given.given in
    let ended = c.in_ok-ended.ensures in
    ends_piece exact (macros_in n level) (deeper_in n level) (active_in level) old (run_at exact (has n) c.take.new.self) w held item own given
    (progress_ends held.call item (sym (c.is_closed_by.ensures (has n)) ∙ c.if-is_closed_by.true))
    (λ opened. c.in_ok-given.ensures.given n held.call item.token (rw c.in_ok-possible.ensures.kept admitted) within
    (ap (value (has n)) ended.when ∙ opened)
    (ap (λ (t : Token). t.text.items) ended.name ∙ sym (item_text (has n) call.name))
    (ap (λ (v : Vec (Guarded Function) Global). seen (has n) (entries_of plain_function v.items)) ended.functions ∙ single_is (seen (has n) (entries_of plain_function call.functions.items)) (call.single n opened))
    (ended.arguments (has n)))
    (h exact (has n)
    ∙ ap (λ (d : Condition). also old (under_piece (value (has n) d) (given_piece exact (brought_again (plain_token c.in_ok-ended.ended.name.now) own given)))) ended.when
    ∙ ap (λ (t : Token). also old (under_piece w (given_piece exact (brought_again (plain_token t) own given)))) ended.name))
    c.take.ensures

pub present_turn-go_on-requires : goal.present_turn-go_on-requires
present_turn-go_on-requires g t c = λ on. sym (c.is_closed_by.ensures on) ∙ c.if-is_closed_by.false

pub present_turn-returns-clause-read : goal.present_turn-returns-clause-read
present_turn-returns-clause-read g t c =
    on_ok_weaker c.go_on.result (λ h. λ exact n admitted within.
    let level = c.args.level.now in
    h exact (has n) (macros_in n level) (deeper_in n level) (active_in level))
    c.go_on.ensures

pub call_turn-lengthen-requires : goal.call_turn-lengthen-requires
call_turn-lengthen-requires g t c = λ on. c.is_split_by.ensures c.if-not-is_split_by.true on

pub call_turn-returns-then-not-is_split_by-clause-read : goal.call_turn-returns-then-not-is_split_by-clause-read
call_turn-returns-then-not-is_split_by-clause-read g t c =
    on_ok_weaker c.lengthen.result (λ h. λ exact n admitted within.
    let level = c.args.level.now in
    h exact (has n) (macros_in n level) (deeper_in n level) (active_in level))
    c.lengthen.ensures

pub call_turn-narrowed-call-requires : goal.call_turn-narrowed-call-requires
call_turn-narrowed-call-requires g t c = λ n e. both_first (value (has n) (condition_of c.args.call.when)) (value (has n) (condition_of c.args.entry.now.when)) (sym (c.in_ok-here.ensures.here (has n)) ∙ e)

pub call_turn-returns-clause-read : goal.call_turn-returns-clause-read
call_turn-returns-clause-read g t c =
    on_ok_weaker c.present_turn.result (λ h. λ exact n admitted within.
    let level = c.args.level.now in
    let entry = c.args.entry.now in
    let item = item_at (has n) entry.what in
    let held = held_at (has n) c.args.call in
    let w = value (has n) (condition_of c.args.call.when) in
    let p = value (has n) (condition_of entry.when) in
    let another = held_at (has n) c.narrowed-call.result in
    parted exact (macros_in n level) (deeper_in n level) (active_in level) (run_at exact (has n) c.args.run.now) (run_at exact (has n) c.stay_elsewhere.new.run) (run_at exact (has n) c.present_turn.new.run) w p
    (w && not p) (value (has n) (condition_of c.narrowed-call.result.when)) held held another item (plain_token entry.what.token.now)
    refl (ap (value (has n)) c.narrowed-call.ensures.when ∙ c.in_ok-here.ensures.here (has n)) refl
    (ap (λ (k : spec.Call). record { call = k; first = another.first }) (c.narrowed-call.ensures.call (has n)) ∙ ap (λ (i : Item). record { call = held.call; first = plain_token i.token.now }) c.narrowed-call.ensures.name)
    (c.in_ok-here.ensures.read exact n admitted within) (h exact n (rw c.in_ok-here.ensures.kept admitted) within))
    c.present_turn.ensures.read

pub inside_turn-loop-call-init : goal.inside_turn-loop-call-init
inside_turn-loop-call-init g t c = record {
  kept = refl;
  outside = λ on. ap (value on) c.in_ok-outside.ensures ∙ and_true (value on (condition_of c.args.entry.now.when));
  read = λ exact n admitted within. c.taken_calls-calls.ensures.rest exact (has n) ∙ sym (also-nothing (without_calls (run_at exact (has n) c.args.run.now)));
}

pub inside_turn-loop-call-preserved : goal.inside_turn-loop-call-preserved
inside_turn-loop-call-preserved g t c = record {
  kept = c.in_ok-call_turn.ensures.kept ∙ c.loop-call.invariant.kept;
  outside = λ on.
      let held = held_at on c.in-Some.call in
      let w = value on (condition_of c.in-Some.call.when) in
      let calls = calls_at on c.loop-call.yielded in
      open_more (value on (condition_of c.args.entry.now.when)) w (value on (condition_of c.loop-call.outside)) (value on (condition_of c.in_ok-outside-2.outside)) held calls (c.loop-call.invariant.outside on) (c.in_ok-outside-2.ensures on)
      ∙ ap (λ (l : List Held). value on (condition_of c.args.entry.now.when) && not (some_open l)) (sym (calls_pushed on c.loop-call.yielded (c.loop-call.yielded ++ c.in-Some.call ∷ []) c.in-Some.call refl));
  read = λ exact n admitted within.
      let level = c.args.level.now in
      let entry = c.args.entry.now in
      let held = held_at (has n) c.in-Some.call in
      let w = value (has n) (condition_of c.in-Some.call.when) in
      let start = without_calls (run_at exact (has n) c.args.run.now) in
      turned_more exact (macros_in n level) (deeper_in n level) (active_in level) (value (has n) (condition_of entry.when)) w held (calls_at (has n) c.loop-call.yielded) (item_at (has n) entry.what) (plain_token entry.what.token.now) start
      (run_at exact (has n) c.loop-call.run) (run_at exact (has n) c.call_turn.new.run) (c.loop-call.invariant.read exact n admitted within) (c.in_ok-call_turn.ensures.read exact n (rw c.loop-call.invariant.kept admitted) within)
      ∙ ap (λ (l : List Held). also start (turn_pieces exact (macros_in n level) (deeper_in n level) (active_in level) (value (has n) (condition_of entry.when)) l (item_at (has n) entry.what) (plain_token entry.what.token.now)))
      (sym (calls_pushed (has n) c.loop-call.yielded (c.loop-call.yielded ++ c.in-Some.call ∷ []) c.in-Some.call refl));
}

-- ---- names outside calls

pub object_turn-returns-then-not-possible-clause-read : goal.object_turn-returns-then-not-possible-clause-read
object_turn-returns-then-not-possible-clause-read g t c = λ exact n body admitted within is.
    unseen (run_at exact (has n) c.args.run.now) (value (has n) (condition_of c.args.when.now)) _ (c.in_ok-possible.ensures.no c.if-not-possible.true n admitted within)

pub object_turn-returns-clause-read : goal.object_turn-returns-clause-read
object_turn-returns-clause-read g t c =
    on_ok_weaker c.take.result (λ h. λ exact n body admitted within is.
    let level = c.args.level.now in
    let item = item_at (has n) c.args.item.now in
    let own = plain_token c.args.item.now.token.now in
    given_turn exact (run_at exact (has n) c.args.run.now) (run_at exact (has n) c.take.new.self) (value (has n) (condition_of c.args.when.now)) own own (given_at false (has n) c.in_ok-given.given)
    (spec.replacement (macros_in n level) (deeper_in n level) (active_in level) item.token item.token (map spec.fresh body))
    (λ opened.
    c.in_ok-given.ensures.given n item.token item.token (rw c.in_ok-possible.ensures.kept admitted)
    (both_true (is_within n level) (value (has n) (condition_of c.args.when.now)) (value (has n) (condition_of c.in_ok-within.within)) (c.in_ok-within.ensures (has n)) within opened)
    (item_text (has n) c.args.item.now)
    ∙ replacement_alike (macros_in n level) (deeper_in n level) (below_alike (macros_in n level) level.left) (active_in level) item.token item.token item.token item.token (items_at (has n) c.as_slice.result.now) (map spec.fresh body) refl
    (ap (λ (l : List (Guarded Item)). cores (items_at (has n) l)) c.as_slice.ensures.value ∙ c.in_ok-body.ensures (has n) (record { params = []; body = body }) (is opened) ∙ ap cores (fresh_substituted [] body)))
    (h exact (has n)))
    c.take.ensures

pub name_turn-begin_call-requires : goal.name_turn-begin_call-requires
name_turn-begin_call-requires g t c = λ n opened.
    let meaning = macros_in n c.args.level.now c.args.item.now.token.now.text.items in
    let w = value (has n) (condition_of c.args.when.now) in
    let opens = spec.opens (items_at (has n) c.args.rest.now) in
    ap (λ (l : List (Guarded Function)). is_single (seen (has n) (entries_of plain_function l))) c.as_slice-5.ensures.value
    ∙ ap is_single (c.requires n).functions
    ∙ single_if w opens meaning
    (ap (λ (l : List PlainFunction). w && (some_seen l && opens)) (sym (c.requires n).functions)
    ∙ ap (λ (l : List (Guarded Function)). w && (some_seen (seen (has n) (entries_of plain_function l)) && opens)) (sym c.as_slice-3.ensures.value)
    ∙ sym (c.in_ok-ways.ensures.call (has n)) ∙ opened)

pub name_turn-returns-clause-read : goal.name_turn-returns-clause-read
name_turn-returns-clause-read g t c =
    on_ok_weaker c.stay_turn.result (λ h. λ exact n admitted within.
    let level = c.args.level.now in
    let on = has n in
    let item = item_at on c.args.item.now in
    let own = plain_token c.args.item.now.token.now in
    let w = value on (condition_of c.args.when.now) in
    let opens = spec.opens (items_at on c.args.rest.now) in
    let meaning = macros_in n level c.args.item.now.token.now.text.items in
    let means = c.requires n in
    let ways = c.in_ok-ways.ensures in
    let o = some_seen (seen on (entries_of plain_function c.as_slice-2.result.now)) in
    let k = some_seen (seen on (entries_of plain_function c.as_slice-3.result.now)) && opens in
    let is_objects : seen on (entries_of plain_function c.in_ok-objects.objects.items) ≡ map without_params (object_of meaning) =
    c.in_ok-objects.ensures on ∙ ap (λ (l : List (Guarded (Bor (List Token)))). map without_params (seen on (entries_of (λ b. map plain_token b.now) l))) c.as_slice.ensures.value ∙ ap (map without_params) means.objects in
    let is_functions : seen on (entries_of plain_function c.as_slice-5.result.now) ≡ function_of meaning =
    ap (λ (l : List (Guarded Function)). seen on (entries_of plain_function l)) c.as_slice-5.ensures.value ∙ means.functions in
    let s = run_at exact on c.args.run.now in
    let after_feature = run_at exact on c.feature_turn.new.run in
    let after_object = run_at exact on c.object_turn.new.run in
    let after_call = run_at exact on c.begin_call.new.run in
    named exact (macros_in n level) (deeper_in n level) (active_in level) s after_feature after_object after_call (run_at exact on c.stay_turn.new.run)
    w (value on (condition_of c.args.meanings.now.feature)) o k opens (plain_token level.feature.now) item own meaning
    (λ other e. level.built_in ∙ feature_is_built_in on level.macros c.args.item.now.token.now.text.items other e)
    means.feature
    (ap (λ (l : List (Guarded Function)). some_seen (seen on (entries_of plain_function l))) c.as_slice-2.ensures.value ∙ ap (λ (l : List PlainFunction). some_seen l) is_objects ∙ bodies_seen (object_of meaning))
    (ap (λ (l : List (Guarded Function)). some_seen (seen on (entries_of plain_function l)) && opens) c.as_slice-3.ensures.value ∙ ap (λ (l : List PlainFunction). some_seen l && opens) means.functions)
    (c.in_ok-feature_turn.ensures exact on)
    (λ body is.
    c.in_ok-object_turn.ensures.read exact n body admitted within
    (λ opened. one_object (seen on (entries_of plain_function c.as_slice-4.result.now)) (object_of meaning) body (ap (λ (l : List (Guarded Function)). seen on (entries_of plain_function l)) c.as_slice-4.ensures.value ∙ is_objects) (is (sym (ways.object on) ∙ opened)))
    ∙ ap (λ (b : Bool). also after_feature (under_piece b (given_piece exact (brought_again own own (spec.replacement (macros_in n level) (deeper_in n level) (active_in level) item.token item.token (map spec.fresh body)))))) (ways.object on))
    (c.in_ok-begin_call.ensures.read exact n (rw c.in_ok-object_turn.ensures.kept admitted) within
    ∙ ap (λ (l : List PlainFunction). also after_object (under_piece (value on (condition_of c.in_ok-ways.ways.call)) (open_piece (record { call = spec.begun item.token (or_function l).params (or_function l).body; first = own } ∷ [])))) is_functions
    ∙ ap (λ (b : Bool). also after_object (under_piece b (open_piece (record { call = spec.begun item.token (or_function (function_of meaning)).params (or_function (function_of meaning)).body; first = own } ∷ [])))) (ways.call on))
    (h exact n (rw c.in_ok-begin_call.ensures.kept (rw c.in_ok-object_turn.ensures.kept admitted)) within
    ∙ ap (λ (b : Bool). also after_call (under_piece b (items_piece exact (item ∷ [])))) (ways.stays on)))
    c.stay_turn.ensures.read

pub outside_turn-returns-then-is_never-clause-read : goal.outside_turn-returns-then-is_never-clause-read
outside_turn-returns-then-is_never-clause-read g t c = λ exact n admitted within.
    unseen (run_at exact (has n) c.args.run.now) (value (has n) (condition_of c.args.when)) _ (c.is_never.ensures c.if-is_never.true (has n))

pub outside_turn-returns-then-not-is_name-clause-read : goal.outside_turn-returns-then-not-is_name-clause-read
outside_turn-returns-then-not-is_name-clause-read g t c =
    on_ok_weaker c.push_item.result (λ h. λ exact n admitted within.
    let level = c.args.level.now in
    let item = item_at (has n) c.args.item.now in
    let rest = items_at (has n) c.args.rest.now in
    let old = run_at exact (has n) c.args.run.now in
    let w = value (has n) (condition_of c.args.when) in
    h exact (has n)
    ∙ ap (λ (i : spec.Item). also old (under_piece w (items_piece exact (i ∷ [])))) (c.in_ok-try_clone.ensures.item (has n))
    ∙ ap (λ (p : Option Piece). also old (under_piece w p))
    (sym (treated_nothing exact (macros_in n level) (deeper_in n level) (active_in level) item (plain_token c.args.item.now.token.now) (spec.is_named_in (active_in level) item.token) (spec.opens rest) (spec.meaning_of (macros_in n level) item)
    (unnamed_meaning (macros_in n level) item (sym (c.is_name.ensures (has n)) ∙ c.if-not-is_name.true)))))
    c.push_item.ensures

pub outside_turn-returns-then-is_nothing-clause-read : goal.outside_turn-returns-then-is_nothing-clause-read
outside_turn-returns-then-is_nothing-clause-read g t c =
    on_ok_weaker c.push_item-then-is_nothing.result (λ h. λ exact n admitted within.
    let level = c.args.level.now in
    let item = item_at (has n) c.args.item.now in
    let rest = items_at (has n) c.args.rest.now in
    let old = run_at exact (has n) c.args.run.now in
    let w = value (has n) (condition_of c.args.when) in
    let text = c.args.item.now.token.now.text.items in
    let means = c.in_ok-meanings.ensures n in
    let nothing = c.is_nothing.ensures c.if-is_nothing.true (has n) in
    let none : macros_in n level c.as_slice.result.now ≡ None =
    no_meaning (macros_in n level c.as_slice.result.now) (sym means.feature ∙ nothing.feature) (sym means.objects ∙ nothing.objects) (sym means.functions ∙ nothing.functions) in
    h exact (has n)
    ∙ ap (λ (i : spec.Item). also old (under_piece w (items_piece exact (i ∷ [])))) (c.in_ok-try_clone-2.ensures.item (has n))
    ∙ ap (λ (p : Option Piece). also old (under_piece w p))
    (sym (treated_nothing exact (macros_in n level) (deeper_in n level) (active_in level) item (plain_token c.args.item.now.token.now) (spec.is_named_in (active_in level) item.token) (spec.opens rest) (spec.meaning_of (macros_in n level) item)
    (named_meaning (macros_in n level) item c.as_slice.result.now (item_text (has n) c.args.item.now ∙ sym c.as_slice.ensures.value) (sym (c.is_name.ensures (has n)) ∙ c.if-not-is_name.false) ∙ none))))
    c.push_item-then-is_nothing.ensures

pub outside_turn-returns-then-is_active-clause-read : goal.outside_turn-returns-then-is_active-clause-read
outside_turn-returns-then-is_active-clause-read g t c =
    on_ok_weaker c.active_turn.result (λ h. λ exact n admitted within.
    let level = c.args.level.now in
    let item = item_at (has n) c.args.item.now in
    let rest = items_at (has n) c.args.rest.now in
    let own = plain_token c.args.item.now.token.now in
    let old = run_at exact (has n) c.args.run.now in
    let w = value (has n) (condition_of c.args.when) in
    let meaning = macros_in n level c.as_slice.result.now in
    let known : spec.meaning_of (macros_in n level) item ≡ meaning =
    named_meaning (macros_in n level) item c.as_slice.result.now (item_text (has n) c.args.item.now ∙ sym c.as_slice.ensures.value) (sym (c.is_name.ensures (has n)) ∙ c.if-not-is_name.false) in
    let is_active : spec.is_named_in (active_in level) item.token ≡ true = sym (c.is_active.ensures (has n)) ∙ c.if-is_active.true in
    h exact (has n) meaning (c.in_ok-meanings.ensures n)
    ∙ ap (λ (p : Option Piece). also old (under_piece w p))
    (sym (ap (λ (b : Bool). outside_piece exact (macros_in n level) (deeper_in n level) (active_in level) item own (spec.treatment item b (spec.opens rest) (spec.meaning_of (macros_in n level) item))) is_active
    ∙ treated_active exact (macros_in n level) (deeper_in n level) (active_in level) item own (spec.opens rest) (spec.meaning_of (macros_in n level) item)
    ∙ ap (λ (m : Option spec.Meaning). items_piece exact (kept_item (is_some m) item ∷ [])) known)))
    c.active_turn.ensures

pub outside_turn-returns-clause-read : goal.outside_turn-returns-clause-read
outside_turn-returns-clause-read g t c =
    on_ok_weaker c.name_turn.result (λ h. λ exact n admitted within.
    let level = c.args.level.now in
    let item = item_at (has n) c.args.item.now in
    let rest = items_at (has n) c.args.rest.now in
    let own = plain_token c.args.item.now.token.now in
    let old = run_at exact (has n) c.args.run.now in
    let w = value (has n) (condition_of c.args.when) in
    let text = c.args.item.now.token.now.text.items in
    let known : spec.meaning_of (macros_in n level) item ≡ macros_in n level text =
    named_meaning (macros_in n level) item text (item_text (has n) c.args.item.now) (sym (c.is_name.ensures (has n)) ∙ c.if-not-is_name.false) in
    let is_active : spec.is_named_in (active_in level) item.token ≡ false = sym (c.is_active.ensures (has n)) ∙ c.if-is_active.false in
    h exact n admitted within
    ∙ ap (λ (m : Option spec.Meaning). also old (under_piece w (outside_piece exact (macros_in n level) (deeper_in n level) (active_in level) item own (spec.treatment item false (spec.opens rest) m)))) (sym known)
    ∙ ap (λ (b : Bool). also old (under_piece w (outside_piece exact (macros_in n level) (deeper_in n level) (active_in level) item own (spec.treatment item b (spec.opens rest) (spec.meaning_of (macros_in n level) item))))) (sym is_active))
    c.name_turn.ensures.read

-- ---- what the oracle admits stays

pub deeper-returns-clause-kept : goal.deeper-returns-clause-kept
deeper-returns-clause-kept g t c = c.replaced_list.ensures.kept

pub replacement-returns-in_err-f-clause-kept : goal.replacement-returns-in_err-f-clause-kept
replacement-returns-in_err-f-clause-kept g t c = c.in_err-f.ensures.kept

pub replacement-returns-clause-kept : goal.replacement-returns-clause-kept
replacement-returns-clause-kept g t c = c.in_ok-f.ensures.kept

pub arguments_replaced-returns-in_err-f-clause-kept : goal.arguments_replaced-returns-in_err-f-clause-kept
arguments_replaced-returns-in_err-f-clause-kept g t c = c.in_err-f.ensures.kept ∙ c.loop-argument.invariant.kept

pub arguments_replaced-returns-in_err-add-clause-kept : goal.arguments_replaced-returns-in_err-add-clause-kept
arguments_replaced-returns-in_err-add-clause-kept g t c = c.in_ok-f.ensures.kept ∙ c.loop-argument.invariant.kept

pub arguments_replaced-returns-clause-kept : goal.arguments_replaced-returns-clause-kept
arguments_replaced-returns-clause-kept g t c = c.loop-argument.invariant.kept

pub fitting_brought-returns-in_err-replaced-clause-kept : goal.fitting_brought-returns-in_err-replaced-clause-kept
fitting_brought-returns-in_err-replaced-clause-kept g t c = c.in_err-replaced.ensures.kept

pub fitting_brought-returns-in_err-body-clause-kept : goal.fitting_brought-returns-in_err-body-clause-kept
fitting_brought-returns-in_err-body-clause-kept g t c = c.in_ok-replaced.ensures.kept

pub fitting_brought-returns-in_err-f-clause-kept : goal.fitting_brought-returns-in_err-f-clause-kept
fitting_brought-returns-in_err-f-clause-kept g t c = c.in_err-f.ensures.kept ∙ c.in_ok-replaced.ensures.kept

pub fitting_brought-returns-clause-kept : goal.fitting_brought-returns-clause-kept
fitting_brought-returns-clause-kept g t c = c.in_ok-f.ensures.kept ∙ c.in_ok-replaced.ensures.kept

pub brought-returns-in_err-f-clause-kept : goal.brought-returns-in_err-f-clause-kept
brought-returns-in_err-f-clause-kept g t c = c.in_err-f.ensures.kept

pub brought-returns-clause-kept : goal.brought-returns-clause-kept
brought-returns-clause-kept g t c = c.in_ok-f.ensures.kept

pub called-returns-clause-kept : goal.called-returns-clause-kept
called-returns-clause-kept g t c = c.brought.ensures.kept

pub present_turn-returns-in_err-possible-clause-kept : goal.present_turn-returns-in_err-possible-clause-kept
present_turn-returns-in_err-possible-clause-kept g t c = c.in_err-possible.ensures.kept

pub present_turn-returns-then-not-possible-clause-kept : goal.present_turn-returns-then-not-possible-clause-kept
present_turn-returns-then-not-possible-clause-kept g t c = c.in_ok-possible.ensures.kept

pub present_turn-returns-in_err-ended-clause-kept : goal.present_turn-returns-in_err-ended-clause-kept
present_turn-returns-in_err-ended-clause-kept g t c = c.in_ok-possible.ensures.kept

pub present_turn-returns-in_err-given-clause-kept : goal.present_turn-returns-in_err-given-clause-kept
present_turn-returns-in_err-given-clause-kept g t c = c.in_err-given.ensures.kept ∙ c.in_ok-possible.ensures.kept

pub present_turn-returns-then-is_closed_by-clause-kept : goal.present_turn-returns-then-is_closed_by-clause-kept
present_turn-returns-then-is_closed_by-clause-kept g t c = c.in_ok-given.ensures.kept ∙ c.in_ok-possible.ensures.kept

pub present_turn-returns-clause-kept : goal.present_turn-returns-clause-kept
present_turn-returns-clause-kept g t c = c.in_ok-possible.ensures.kept

pub call_turn-returns-in_err-here-clause-kept : goal.call_turn-returns-in_err-here-clause-kept
call_turn-returns-in_err-here-clause-kept g t c = c.in_err-here.ensures.kept

pub call_turn-returns-clause-kept : goal.call_turn-returns-clause-kept
call_turn-returns-clause-kept g t c = c.present_turn.ensures.kept ∙ c.in_ok-here.ensures.kept

pub inside_turn-returns-in_err-outside-2-clause-kept : goal.inside_turn-returns-in_err-outside-2-clause-kept
inside_turn-returns-in_err-outside-2-clause-kept g t c = c.loop-call.invariant.kept

pub inside_turn-returns-in_err-call_turn-clause-kept : goal.inside_turn-returns-in_err-call_turn-clause-kept
inside_turn-returns-in_err-call_turn-clause-kept g t c = c.in_err-call_turn.ensures.kept ∙ c.loop-call.invariant.kept

pub inside_turn-returns-clause-kept : goal.inside_turn-returns-clause-kept
inside_turn-returns-clause-kept g t c = c.loop-call.invariant.kept

pub object_turn-returns-in_err-possible-clause-kept : goal.object_turn-returns-in_err-possible-clause-kept
object_turn-returns-in_err-possible-clause-kept g t c = c.in_err-possible.ensures.kept

pub object_turn-returns-then-not-possible-clause-kept : goal.object_turn-returns-then-not-possible-clause-kept
object_turn-returns-then-not-possible-clause-kept g t c = c.in_ok-possible.ensures.kept

pub object_turn-returns-in_err-body-clause-kept : goal.object_turn-returns-in_err-body-clause-kept
object_turn-returns-in_err-body-clause-kept g t c = c.in_ok-possible.ensures.kept

pub object_turn-returns-in_err-within-clause-kept : goal.object_turn-returns-in_err-within-clause-kept
object_turn-returns-in_err-within-clause-kept g t c = c.in_ok-possible.ensures.kept

pub object_turn-returns-in_err-given-clause-kept : goal.object_turn-returns-in_err-given-clause-kept
object_turn-returns-in_err-given-clause-kept g t c = c.in_err-given.ensures.kept ∙ c.in_ok-possible.ensures.kept

pub object_turn-returns-clause-kept : goal.object_turn-returns-clause-kept
object_turn-returns-clause-kept g t c = c.in_ok-given.ensures.kept ∙ c.in_ok-possible.ensures.kept

pub name_turn-returns-in_err-object_turn-clause-kept : goal.name_turn-returns-in_err-object_turn-clause-kept
name_turn-returns-in_err-object_turn-clause-kept g t c = c.in_err-object_turn.ensures.kept

pub name_turn-returns-in_err-begin_call-clause-kept : goal.name_turn-returns-in_err-begin_call-clause-kept
name_turn-returns-in_err-begin_call-clause-kept g t c = c.in_err-begin_call.ensures.kept ∙ c.in_ok-object_turn.ensures.kept

pub name_turn-returns-clause-kept : goal.name_turn-returns-clause-kept
name_turn-returns-clause-kept g t c = c.stay_turn.ensures.kept ∙ c.in_ok-begin_call.ensures.kept ∙ c.in_ok-object_turn.ensures.kept

pub outside_turn-returns-clause-kept : goal.outside_turn-returns-clause-kept
outside_turn-returns-clause-kept g t c = c.name_turn.ensures.kept

pub turn-returns-in_err-outside-clause-kept : goal.turn-returns-in_err-outside-clause-kept
turn-returns-in_err-outside-clause-kept g t c = c.in_err-outside.ensures.kept

pub turn-returns-clause-kept : goal.turn-returns-clause-kept
turn-returns-clause-kept g t c = c.outside_turn.ensures.kept ∙ c.in_ok-outside.ensures.kept

pub replaced_list-returns-in_err-turn-clause-kept : goal.replaced_list-returns-in_err-turn-clause-kept
replaced_list-returns-in_err-turn-clause-kept g t c = c.in_err-turn.ensures.kept ∙ c.loop-i.invariant.kept

pub replaced_list-returns-clause-kept : goal.replaced_list-returns-clause-kept
replaced_list-returns-clause-kept g t c = c.loop-i.invariant.kept
