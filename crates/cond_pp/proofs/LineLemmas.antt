-- What a watch sees of a line, and of the end of a file.
use Rattle.std.proofs.Common.{◌≡◌, ℕ, Bool, true, false, ◌||◌, List, [], ◌∷◌, ◌++◌, map, Option, None, refl, ap, sym, ◌∙◌}
use Rattle.std.specs.Prelude.{if◌then◌else◌}
use Rattle.cond_formula.specs.Conditions.{condition_of, value}
use Rattle.conditional.specs.Entries.{under}
use Rattle.c_text.specs.Token.{PlainToken, plain_token}
use Rattle.c_text.specs.Lines.{PlainLine}
use Rattle.c_text.specs.Trees.{role_of}
use Rattle.c_text.specs.Preprocessing.{Reading, Flow, Setting, on, refused, then_read, read_run}
use Rattle.active_tokens.specs.Reads.{Read, read_of, Following, reads_behind}
use Rattle.file_walks.specs.Walk.{Walk, flushed}
use Rattle.read_walks.specs.WalkReads.{reads_at_flush, reads_by_role, reads_of_step}
use Rattle.read_walks.specs.Laws.{Leads, goes_on, stops, WalksAreOne, TestIsJoined}
use Rattle.cond_pp.specs.declared.walk.CondWalker.{CondWalker}
use Rattle.cond_groups.specs.Groups.{groups_of, open_at, read_in, line_read_in}
use Rattle.cond_pp.specs.Walks.{IsFit, ahead, reads_ahead, reads_included, reads_named, walk_at}
use Rattle.cond_pp.specs.Watches.{PlainSought, is_read_in, read_where}
use Rattle.cond_pp.proofs.ReadLemmas.{line-reads, reads-none, reads-same, behind-none}
use Rattle.cond_pp.proofs.SeenLemmas.{seen-joined}
use Rattle.cond_pp.proofs.WalkLemmas.{emptied, under-none, fit-kept}
use Rattle.cond_pp.proofs.WatchLemmas.{carried}

-- ---- the tokens since the last directive line

flush-leads : (w : Walk) → Leads (λ v. Unit {0}) (flushed w) (reads_at_flush w)
flush-leads w = by_flow (read_run w.reading w.run)
  where
    by_flow :
        (x : Flow)
        → Leads (λ v. Unit {0}) (λ next. then_read x (λ after. next (record w { reading = after; run = [] })))
        (λ next. read_of w.reading w.run ∷ reads_behind x (λ after. next (record w { reading = after; run = [] })))
    by_flow (on r) = goes_on (record w { reading = r; run = [] }) tt (λ next. refl) (λ next. refl)
    by_flow (refused why) = stops why (λ next. refl) (λ next. refl)

-- with nothing behind them
pub run-reads : (features : ℕ → Bool) (w : CondWalker) (o : Option Reading) → reads_ahead features w (λ v. read_of v.reading v.run ∷ []) o ≡ reads_ahead features w (λ v. reads_at_flush v (λ after. [])) o
run-reads features w o =
    reads-same (value features (condition_of w.entered)) (λ r. read_of r (walk_at features w r).run ∷ []) (λ r. reads_at_flush (walk_at features w r) (λ after. [])) o
    (λ r. ap (λ (l : List Read). read_of r (walk_at features w r).run ∷ l) (sym (behind-none (read_run r (walk_at features w r).run))))

-- ---- a line

pub reads-emptied : (features : ℕ → Bool) (w : CondWalker) (next : Walk → List Read) (o : Option Reading) → w.run.items ≡ [] → reads_ahead features w next o ≡ read_where (value features (condition_of w.entered)) (λ r. next (emptied r (map (open_at features) (groups_of w.groups)))) o
reads-emptied features w next o none =
    let h = value features (read_in (condition_of w.entered) (groups_of w.groups)) in
    let e : under h (map (λ t. plain_token t.now) w.run.items) ≡ [] =
    ap (λ ts. under h (map (λ t. plain_token t.now) ts)) none ∙ under-none h
    in
    ap (λ (run : List PlainToken). read_where (value features (condition_of w.entered)) (λ r. next (record { reading = r; run = run; groups = map (open_at features) (groups_of w.groups) })) o) e

or-four : (before run line more : Bool) → (((before || run) || line) || more) ≡ (before || (run || (line || more)))
or-four true run line more = refl
or-four false true line more = refl
or-four false false true more = refl
or-four false false false more = refl

-- what a directive line reads, with the tokens before it
directive-reads : WalksAreOne → (s : Setting) (f : Following) (features : ℕ → Bool) (w v : CondWalker) (line : PlainLine) (o m : Option Reading) → line.directive ≡ true → IsFit features w → v.entered ≡ w.entered → v.groups ≡ w.groups → v.run.items ≡ [] → ((next : Walk → Flow) → ahead features w (λ u. flushed u next) o ≡ ahead features v next m) → reads_ahead features w (λ u. reads_of_step s f u line (λ after. [])) o ≡ reads_ahead features w (λ u. read_of u.reading u.run ∷ []) o ++ (read_where (value features (line_read_in (role_of line.tokens) (condition_of v.entered) (groups_of v.groups))) (λ r. read_of r line.tokens ∷ []) m ++ read_where (value features (read_in (condition_of v.entered) (groups_of v.groups))) (λ r. reads_named s f (role_of line.tokens) r line.tokens) m)
directive-reads one s f features w v line o m is_directive fit entered groups none step =
    let role = role_of line.tokens in
    let next : Walk → List Read = λ u. reads_by_role s f role u line (λ after. []) in
    let e = value features (condition_of w.entered) in
    ap (λ (b : Bool). reads_ahead features w (λ u. if b then reads_at_flush u next else []) o) is_directive
    ∙ carried one (λ r u. Unit {0}) (λ r. flushed (walk_at features w r)) (λ r. reads_at_flush (walk_at features w r)) (λ r. on r) (λ r a. record (walk_at features v r) { reading = a }) e (value features (condition_of v.entered)) o m (λ r. flush-leads (walk_at features w r)) step next
    ∙ ap (λ (l : List Read). l ++ reads_ahead features v next m) (sym (run-reads features w o))
    ∙ ap (λ (l : List Read). reads_ahead features w (λ u. read_of u.reading u.run ∷ []) o ++ l)
    (reads-emptied features v next m none ∙ line-reads s f line features (condition_of v.entered) role (groups_of v.groups) m (fit-kept features w v entered groups fit))

pub directive-seen : WalksAreOne → TestIsJoined → (sought : Option PlainSought) (s : Setting) (f : Following) (features : ℕ → Bool) (w v : CondWalker) (line : PlainLine) (o m : Option Reading) (before at_run at_line : Bool) (included : List Read) → line.directive ≡ true → IsFit features w → v.entered ≡ w.entered → v.groups ≡ w.groups → v.run.items ≡ [] → ((next : Walk → Flow) → ahead features w (λ u. flushed u next) o ≡ ahead features v next m) → at_run ≡ (before || is_read_in sought (reads_ahead features w (λ u. read_of u.reading u.run ∷ []) o)) → at_line ≡ (at_run || is_read_in sought (read_where (value features (line_read_in (role_of line.tokens) (condition_of v.entered) (groups_of v.groups))) (λ r. read_of r line.tokens ∷ []) m)) → included ≡ read_where (value features (read_in (condition_of v.entered) (groups_of v.groups))) (λ r. reads_named s f (role_of line.tokens) r line.tokens) m → (at_line || is_read_in sought included) ≡ (before || is_read_in sought (reads_ahead features w (λ u. reads_of_step s f u line (λ after. [])) o))
directive-seen one joined sought s f features w v line o m before at_run at_line included is_directive fit entered groups none step run_is line_is included_is =
    let run = reads_ahead features w (λ u. read_of u.reading u.run ∷ []) o in
    let own = read_where (value features (line_read_in (role_of line.tokens) (condition_of v.entered) (groups_of v.groups))) (λ r. read_of r line.tokens ∷ []) m in
    ap (λ (b : Bool). b || is_read_in sought included) (line_is ∙ ap (λ (b : Bool). b || is_read_in sought own) run_is)
    ∙ or-four before (is_read_in sought run) (is_read_in sought own) (is_read_in sought included)
    ∙ ap (λ (b : Bool). before || (is_read_in sought run || b)) (sym (seen-joined joined sought own included))
    ∙ ap (λ (b : Bool). before || b) (sym (seen-joined joined sought run (own ++ included)))
    ∙ ap (λ (l : List Read). before || is_read_in sought (run ++ (own ++ l))) included_is
    ∙ ap (λ (l : List Read). before || is_read_in sought l) (sym (directive-reads one s f features w v line o m is_directive fit entered groups none step))

-- a line of no directive
pub text-seen : (sought : Option PlainSought) (s : Setting) (f : Following) (features : ℕ → Bool) (w : CondWalker) (line : PlainLine) (o n : Option Reading) (before : Bool) → line.directive ≡ false → (before || is_read_in sought (read_where true (λ r. reads_included features f.deeper None r) n)) ≡ (before || is_read_in sought (reads_ahead features w (λ u. reads_of_step s f u line (λ after. [])) o))
text-seen sought s f features w line o n before is_text =
    let e = value features (condition_of w.entered) in
    let next : Walk → List Read = λ u. reads_at_flush u (λ a. reads_by_role s f (role_of line.tokens) a line (λ after. [])) in
    ap (λ (l : List Read). before || is_read_in sought l)
    (reads-none true n ∙ sym (reads-none e o) ∙ sym (ap (λ (b : Bool). reads_ahead features w (λ u. if b then next u else []) o) is_text))
