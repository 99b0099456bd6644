-- The open groups of a configuration, and what lines make of them.
use Rattle.std.proofs.Common.{◌≡◌, ℕ, Bool, true, false, List, [], ◌∷◌, map, drop, IsTrue, Option, Some, None, refl, sym, ap, ◌∙◌}
use Rattle.std.specs.Prelude.{if◌then◌else◌, ◌&&◌, not, is_some}
use Rattle.std.proofs.lemmas.Bool.{false≢true}
use Rattle.std.proofs.lemmas.List.Elements.{All-cons}
use Rattle.cond_formula.specs.Conditions.{Condition, value}
use Rattle.c_text.specs.Token.{PlainToken}
use Rattle.c_text.specs.Lines.{PlainLine}
use Rattle.c_text.specs.Macros.{Table}
use Rattle.c_text.specs.Preprocessing as spec
use Rattle.c_text.specs.Preprocessing.{Reading, Flow, Setting, on, Refusal, holds, fails, by_condition, unless, refused_ignored}
use Rattle.file_walks.specs.Walk.{Walk, Open, reads, waits, passed, skipped, are_read, group_read, branch_read}
use Rattle.cond_readings.specs.Readings.{unless_refused, came_to, taken}
use Rattle.cond_groups.specs.Truths.{came_out}
use Rattle.cond_groups.specs.Groups.{PlainGroup, Fits, AllFit, open_at, level_at, read_in}
use Rattle.cond_groups.specs.GroupLaws.{read-is, read-inside}
use Rattle.cond_readings.specs.TakenLaws.{taken-off}

-- ---- the conditions of a group

holds-by : (a b : Bool) → (a ≡ false → b ≡ false) → IsTrue b → IsTrue a
holds-by true b e h = refl
holds-by false b e h = sym (e refl) ∙ h

-- the first branch of a group
pub fits-first : (features : ℕ → Bool) (at here : Condition) (groups : List PlainGroup) (g : PlainGroup) → g.within ≡ here → (value features here ≡ false → (value features g.reads_when ≡ false) × (value features g.waits_when ≡ false)) → (IsTrue (value features g.waits_when) → value features g.reads_when ≡ false) → AllFit features at groups → read_in at groups ≡ here → AllFit features at (g ∷ groups)
fits-first features at here groups g within_is elsewhere apart fit here_is =
    let seen = ap (λ (k : Condition). value features k) within_is in
    let fits : Fits features at g =
    record {
      inside = λ h. read-inside features at groups fit (ap (λ (k : Condition). value features k) here_is ∙ sym seen ∙ h);
      reads = λ h. seen ∙ holds-by (value features here) (value features g.reads_when) (λ e. (elsewhere e).0) h;
      waits = λ h. seen ∙ holds-by (value features here) (value features g.waits_when) (λ e. (elsewhere e).1) h;
      apart = apart;
    } in
    All-cons (λ k. Fits features at k) g groups fits fit

-- the next branch of a group
pub fits-next : (features : ℕ → Bool) (at : Condition) (old g : PlainGroup) → g.within ≡ old.within → (value features old.waits_when ≡ false → (value features g.reads_when ≡ false) × (value features g.waits_when ≡ false)) → (IsTrue (value features g.waits_when) → value features g.reads_when ≡ false) → Fits features at old → Fits features at g
fits-next features at old g within_is elsewhere apart fit = record {
  inside = λ h. fit.inside (sym (ap (λ (k : Condition). value features k) within_is) ∙ h);
  reads = λ h. ap (λ (k : Condition). value features k) within_is ∙ fit.waits (holds-by (value features old.waits_when) (value features g.reads_when) (λ e. (elsewhere e).0) h);
  waits = λ h. ap (λ (k : Condition). value features k) within_is ∙ fit.waits (holds-by (value features old.waits_when) (value features g.waits_when) (λ e. (elsewhere e).1) h);
  apart = apart;
}

-- ---- a line that begins a branch

abbrev truth_in : Option Bool → Bool
truth_in None = true
truth_in (Some b) = b

begun-there : (s : Setting) (rf h last : Bool) (c : spec.Condition) (r : Reading) (next : Open → Reading → Flow) → (if rf then None else Some h) ≡ came_out c → came_to (by_condition s c (next (reads last) r) (next (waits last) r)) ≡ taken true (λ a. next (level_at true h (not h) last) a) (unless_refused rf (Some r))
begun-there s true h last (holds b) r next e = absurd (false≢true (ap is_some e))
begun-there s true h last (fails why) r next e = refl
begun-there s false true last (holds true) r next e = refl
begun-there s false true last (holds false) r next e = absurd (false≢true (ap truth_in (sym e)))
begun-there s false false last (holds true) r next e = absurd (false≢true (ap truth_in e))
begun-there s false false last (holds false) r next e = refl
begun-there s false h last (fails why) r next e = absurd (false≢true (ap is_some (sym e)))

begun-at : (s : Setting) (a w rf h b last : Bool) (table : Table) (ts tokens : List PlainToken) (next : Open → Reading → Flow) → (IsTrue a → IsTrue w) → (IsTrue a → (if rf then None else Some h) ≡ came_out (spec.condition_at s.value_of table tokens)) → taken a (λ r. by_condition s (spec.condition_at s.value_of r.table tokens) (next (reads last) r) (next (waits last) r)) (if b then None else Some (record { table = table; tokens = ts })) ≡ taken a (λ r. next (level_at w (a && h) (a && not h) last) r) (unless_refused (a && rf) (if b then None else Some (record { table = table; tokens = ts })))
begun-at s true w true h true last table ts tokens next inside truth = refl
begun-at s true w false h true last table ts tokens next inside truth = refl
begun-at s false w rf h true last table ts tokens next inside truth = refl
begun-at s true true rf h false last table ts tokens next inside truth =
    begun-there s rf h last (spec.condition_at s.value_of table tokens) (record { table = table; tokens = ts }) next (truth refl)
begun-at s true false rf h false last table ts tokens next inside truth = absurd (false≢true (inside refl))
begun-at s false w rf h false last table ts tokens next inside truth = refl

-- a branch whose condition is asked where a holds: the group that it is in, and what is read then
pub begun-is : (s : Setting) (a w rf h b last : Bool) (table : Table) (ts tokens : List PlainToken) (within rd wt at_last : Bool) (new : Option Reading) (next : Open → Reading → Flow) → (IsTrue a → IsTrue w) → (IsTrue a → (if rf then None else Some h) ≡ came_out (spec.condition_at s.value_of table tokens)) → within ≡ w → rd ≡ (a && h) → wt ≡ (a && not h) → at_last ≡ last → new ≡ unless_refused (a && rf) (if b then None else Some (record { table = table; tokens = ts })) → taken a (λ r. by_condition s (spec.condition_at s.value_of r.table tokens) (next (reads last) r) (next (waits last) r)) (if b then None else Some (record { table = table; tokens = ts })) ≡ taken a (λ r. next (level_at within rd wt at_last) r) new
begun-is s a w rf h b last table ts tokens within rd wt at_last new next inside truth within_is rd_is wt_is last_is new_is =
    let level : level_at w (a && h) (a && not h) last ≡ level_at within rd wt at_last =
    ap (λ (k : Bool). level_at k (a && h) (a && not h) last) (sym within_is)
    ∙ ap (λ (k : Bool). level_at within k (a && not h) last) (sym rd_is)
    ∙ ap (λ (k : Bool). level_at within rd k last) (sym wt_is)
    ∙ ap (λ (k : Bool). level_at within rd wt k) (sym last_is)
    in
    begun-at s a w rf h b last table ts tokens next inside truth
    ∙ ap (λ (m : Option Reading). taken a (λ r. next (level_at w (a && h) (a && not h) last) r) m) (sym new_is)
    ∙ ap (λ (l : Open). taken a (λ r. next l r) new) level

-- a branch whose condition needn't be asked, since the unit is refused wherever it would be
pub begun-stays : (s : Setting) (a last : Bool) (o : Option Reading) (tokens : List PlainToken) (level : Open) (next : Open → Reading → Flow) → (IsTrue a → o ≡ None) → taken a (λ r. by_condition s (spec.condition_at s.value_of r.table tokens) (next (reads last) r) (next (waits last) r)) o ≡ taken a (λ r. next level r) o
begun-stays s a last None tokens level next h = refl
begun-stays s true last (Some r) tokens level next h = absurd (false≢true (ap is_some (sym (h refl))))
begun-stays s false last (Some r) tokens level next h = refl

-- ---- a line at a group

passed-there : (k : Option Refusal) (f : Reading → Flow) (o : Option Reading) → taken true (λ r. unless k (f r)) o ≡ taken true f (unless_refused (is_some k) o)
passed-there None f o = refl
passed-there (Some why) f None = refl
passed-there (Some why) f (Some r) = refl

moved : (s : Setting) (last : Bool) (line : PlainLine) (mid new : Option Reading) (rd' wt' wi : Bool) → ((nx : Open → Reading → Flow) → taken false (λ r. by_condition s (spec.condition_at s.value_of r.table line.tokens) (nx (reads last) r) (nx (waits last) r)) mid ≡ taken false (λ r. nx (level_at wi rd' wt' last) r) new) → mid ≡ new
moved s last line mid new rd' wt' wi step =
    let nx : Open → Reading → Flow = λ l r. on r in
    sym (taken-off (λ r. by_condition s (spec.condition_at s.value_of r.table line.tokens) (nx (reads last) r) (nx (waits last) r)) mid) ∙ step nx ∙ taken-off (λ r. nx (level_at wi rd' wt' last) r) new

left-passed : (line : PlainLine) (o mid new : Option Reading) (last rd' wt' : Bool) (run : List PlainToken) (outer : List Open) (next : Walk → Flow) → mid ≡ unless_refused (is_some (refused_ignored (drop 2 line.tokens))) o → (rd' ≡ false) × (wt' ≡ false) → mid ≡ new → taken true (λ r. next (record { reading = r; run = run; groups = passed last ∷ outer })) (unless_refused (is_some (refused_ignored (drop 2 line.tokens))) o) ≡ taken true (λ r. next (record { reading = r; run = run; groups = level_at true rd' wt' last ∷ outer })) new
left-passed line o mid new last rd' wt' run outer next mid_is off moved_is =
    let e : passed last ≡ level_at true rd' wt' last =
    ap (λ (k : Bool). level_at true k false last) (sym off.0) ∙ ap (λ (k : Bool). level_at true rd' k last) (sym off.1)
    in
    ap (λ (m : Option Reading). taken true (λ r. next (record { reading = r; run = run; groups = passed last ∷ outer })) m) (sym mid_is ∙ moved_is)
    ∙ ap (λ (l : Open). taken true (λ r. next (record { reading = r; run = run; groups = l ∷ outer })) new) e

branch-is : (s : Setting) (e wi rd wt last : Bool) (line : PlainLine) (o mid new : Option Reading) (rd' wt' : Bool) (run : List PlainToken) (outer : List Open) (next : Walk → Flow) → (IsTrue wi → IsTrue e) → (IsTrue rd → IsTrue wi) → (IsTrue wt → IsTrue wi) → (IsTrue wt → rd ≡ false) → mid ≡ unless_refused ((wi && not wt) && is_some (refused_ignored (drop 2 line.tokens))) o → (wt ≡ false → (rd' ≡ false) × (wt' ≡ false)) → ((nx : Open → Reading → Flow) → taken wt (λ r. by_condition s (spec.condition_at s.value_of r.table line.tokens) (nx (reads last) r) (nx (waits last) r)) mid ≡ taken wt (λ r. nx (level_at wi rd' wt' last) r) new) → taken e (λ r. branch_read s (record { reading = r; run = run; groups = level_at wi rd wt false ∷ outer }) line last (level_at wi rd wt false ∷ outer) next) o ≡ taken e (λ r. next (record { reading = r; run = run; groups = level_at wi rd' wt' last ∷ outer })) new
branch-is s true true true true last line o mid new rd' wt' run outer next inside in_read in_wait apart mid_is elsewhere step = absurd (false≢true (sym (apart refl)))
branch-is s true true false true last line o mid new rd' wt' run outer next inside in_read in_wait apart mid_is elsewhere step =
    ap (λ (m : Option Reading). taken true (λ r. by_condition s (spec.condition_at s.value_of r.table line.tokens) (next (record { reading = r; run = run; groups = reads last ∷ outer })) (next (record { reading = r; run = run; groups = waits last ∷ outer }))) m) (sym mid_is)
    ∙ step (λ l r. next (record { reading = r; run = run; groups = l ∷ outer }))
branch-is s e false rd true last line o mid new rd' wt' run outer next inside in_read in_wait apart mid_is elsewhere step = absurd (false≢true (in_wait refl))
branch-is s false true rd wt last line o mid new rd' wt' run outer next inside in_read in_wait apart mid_is elsewhere step = absurd (false≢true (inside refl))
branch-is s e false true false last line o mid new rd' wt' run outer next inside in_read in_wait apart mid_is elsewhere step = absurd (false≢true (in_read refl))
branch-is s true true true false last line o mid new rd' wt' run outer next inside in_read in_wait apart mid_is elsewhere step =
    passed-there (refused_ignored (drop 2 line.tokens)) (λ r. next (record { reading = r; run = run; groups = passed last ∷ outer })) o
    ∙ left-passed line o mid new last rd' wt' run outer next mid_is (elsewhere refl) (moved s last line mid new rd' wt' true step)
branch-is s true true false false last line o mid new rd' wt' run outer next inside in_read in_wait apart mid_is elsewhere step =
    passed-there (refused_ignored (drop 2 line.tokens)) (λ r. next (record { reading = r; run = run; groups = passed last ∷ outer })) o
    ∙ left-passed line o mid new last rd' wt' run outer next mid_is (elsewhere refl) (moved s last line mid new rd' wt' true step)
branch-is s e false false false last line o mid new rd' wt' run outer next inside in_read in_wait apart mid_is elsewhere step =
    ap (λ (m : Option Reading). taken e (λ r. next (record { reading = r; run = run; groups = skipped last ∷ outer })) m) (sym mid_is ∙ moved s last line mid new rd' wt' false step)

-- the next branch of a group whose conditions fit
pub next-is : (features : ℕ → Bool) (at : Condition) (s : Setting) (old g : PlainGroup) (last : Bool) (line : PlainLine) (o mid new : Option Reading) (run : List PlainToken) (outer : List Open) (next : Walk → Flow) → Fits features at old → old.last ≡ false → g.within ≡ old.within → g.last ≡ last → mid ≡ unless_refused ((value features old.within && not (value features old.waits_when)) && is_some (refused_ignored (drop 2 line.tokens))) o → (value features old.waits_when ≡ false → (value features g.reads_when ≡ false) × (value features g.waits_when ≡ false)) → ((nx : Open → Reading → Flow) → taken (value features old.waits_when) (λ r. by_condition s (spec.condition_at s.value_of r.table line.tokens) (nx (reads last) r) (nx (waits last) r)) mid ≡ taken (value features old.waits_when) (λ r. nx (open_at features g) r) new) → taken (value features at) (λ r. branch_read s (record { reading = r; run = run; groups = open_at features old ∷ outer }) line last (open_at features old ∷ outer) next) o ≡ taken (value features at) (λ r. next (record { reading = r; run = run; groups = open_at features g ∷ outer })) new
next-is features at s old g last line o mid new run outer next fit more within_is last_is mid_is elsewhere step =
    let e = value features at in
    let wi = value features old.within in
    let rd = value features old.reads_when in
    let wt = value features old.waits_when in
    let rd' = value features g.reads_when in
    let wt' = value features g.waits_when in
    let level : level_at wi rd' wt' last ≡ open_at features g =
    ap (λ (k : Bool). level_at wi rd' wt' k) (sym last_is) ∙ ap (λ (f : Condition). level_at (value features f) rd' wt' g.last) (sym within_is)
    in
    ap (λ (k : Bool). taken e (λ r. branch_read s (record { reading = r; run = run; groups = level_at wi rd wt k ∷ outer }) line last (level_at wi rd wt k ∷ outer) next) o) more
    ∙ branch-is s e wi rd wt last line o mid new rd' wt' run outer next fit.inside fit.reads fit.waits fit.apart mid_is elsewhere (λ nx. step nx ∙ ap (λ (l : Open). taken wt (λ r. nx l r) new) (sym level))
    ∙ ap (λ (l : Open). taken e (λ r. next (record { reading = r; run = run; groups = l ∷ outer })) new) level

group-is : (s : Setting) (e h : Bool) (line : PlainLine) (o new : Option Reading) (rd wt : Bool) (run : List PlainToken) (groups : List Open) (next : Walk → Flow) → (IsTrue e → are_read groups ≡ h) → (IsTrue h → IsTrue e) → ((nx : Open → Reading → Flow) → taken h (λ r. by_condition s (spec.condition_at s.value_of r.table line.tokens) (nx (reads false) r) (nx (waits false) r)) o ≡ taken h (λ r. nx (level_at h rd wt false) r) new) → taken e (λ r. group_read s (record { reading = r; run = run; groups = groups }) line next) o ≡ taken e (λ r. next (record { reading = r; run = run; groups = level_at h rd wt false ∷ groups })) new
group-is s true true line o new rd wt run groups next are inside step =
    ap (λ (b : Bool). taken true (λ r. if b then by_condition s (spec.condition_at s.value_of r.table line.tokens) (next (record { reading = r; run = run; groups = reads false ∷ groups })) (next (record { reading = r; run = run; groups = waits false ∷ groups })) else next (record { reading = r; run = run; groups = skipped false ∷ groups })) o) (are refl)
    ∙ step (λ l r. next (record { reading = r; run = run; groups = l ∷ groups }))
group-is s true false line o new rd wt run groups next are inside step =
    let nx : Open → Reading → Flow = λ l r. on r in
    let moved : o ≡ new =
    sym (taken-off (λ r. by_condition s (spec.condition_at s.value_of r.table line.tokens) (nx (reads false) r) (nx (waits false) r)) o) ∙ step nx ∙ taken-off (λ r. nx (level_at false rd wt false) r) new
    in
    ap (λ (b : Bool). taken true (λ r. if b then by_condition s (spec.condition_at s.value_of r.table line.tokens) (next (record { reading = r; run = run; groups = reads false ∷ groups })) (next (record { reading = r; run = run; groups = waits false ∷ groups })) else next (record { reading = r; run = run; groups = skipped false ∷ groups })) o) (are refl)
    ∙ ap (λ (m : Option Reading). taken true (λ r. next (record { reading = r; run = run; groups = skipped false ∷ groups })) m) moved
group-is s false true line o new rd wt run groups next are inside step = absurd (false≢true (inside refl))
group-is s false false line o new rd wt run groups next are inside step =
    let nx : Open → Reading → Flow = λ l r. on r in
    let moved : o ≡ new =
    sym (taken-off (λ r. by_condition s (spec.condition_at s.value_of r.table line.tokens) (nx (reads false) r) (nx (waits false) r)) o) ∙ step nx ∙ taken-off (λ r. nx (level_at false rd wt false) r) new
    in
    taken-off (λ r. group_read s (record { reading = r; run = run; groups = groups }) line next) o
    ∙ moved ∙ sym (taken-off (λ r. next (record { reading = r; run = run; groups = skipped false ∷ groups })) new)

level-is : (features : ℕ → Bool) (g : PlainGroup) (here : Condition) (last : Bool) → g.within ≡ here → g.last ≡ last → open_at features g ≡ level_at (value features here) (value features g.reads_when) (value features g.waits_when) last
level-is features g here last within_is last_is =
    ap (λ (k : Condition). level_at (value features k) (value features g.reads_when) (value features g.waits_when) g.last) within_is
    ∙ ap (λ (l : Bool). level_at (value features here) (value features g.reads_when) (value features g.waits_when) l) last_is

-- a line that begins a group
pub group-begins : (s : Setting) (features : ℕ → Bool) (at here : Condition) (groups : List PlainGroup) (g : PlainGroup) (line : PlainLine) (o new : Option Reading) (run : List PlainToken) (next : Walk → Flow) → AllFit features at groups → read_in at groups ≡ here → g.within ≡ here → g.last ≡ false → ((nx : Open → Reading → Flow) → taken (value features here) (λ r. by_condition s (spec.condition_at s.value_of r.table line.tokens) (nx (reads false) r) (nx (waits false) r)) o ≡ taken (value features here) (λ r. nx (open_at features g) r) new) → taken (value features at) (λ r. group_read s (record { reading = r; run = run; groups = map (open_at features) groups }) line next) o ≡ taken (value features at) (λ r. next (record { reading = r; run = run; groups = map (open_at features) (g ∷ groups) })) new
group-begins s features at here groups g line o new run next fit here_is within_is last_is step =
    let e = level-is features g here false within_is last_is in
    let seen = ap (λ (k : Condition). value features k) here_is in
    group-is s (value features at) (value features here) line o new (value features g.reads_when) (value features g.waits_when) run (map (open_at features) groups) next
    (λ there. read-is features at groups fit there ∙ seen)
    (λ h. read-inside features at groups fit (seen ∙ h))
    (λ nx. step nx ∙ ap (λ (l : Open). taken (value features here) (λ r. nx l r) new) e)
    ∙ ap (λ (l : Open). taken (value features at) (λ r. next (record { reading = r; run = run; groups = l ∷ map (open_at features) groups })) new) (sym e)
