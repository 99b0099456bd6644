-- The walk of a configuration, line by line.
use Rattle.std.proofs.Common.{◌≡◌, ℕ, Bool, true, false, List, [], ◌∷◌, map, IsTrue, Option, Some, None, refl, sym, ap, ◌∙◌, ◌++◌, subst}
use Rattle.std.specs.Prelude.{if◌then◌else◌, is_some}
use Rattle.std.proofs.lemmas.Bool.{false≢true}
use Rattle.std.proofs.lemmas.List.Elements.{All-head, All-cons, All-tail}
use Rattle.cond_formula.specs.declared.formulas.Formula.{Formula}
use Rattle.cond_formula.specs.Conditions.{Condition, condition_of, value}
use Rattle.conditional.specs.Entries.{under}
use Rattle.c_text.specs.Preprocessing as spec
use Rattle.c_text.specs.Token.{PlainToken, plain_token}
use Rattle.c_text.specs.Lines.{PlainLine}
use Rattle.c_text.specs.Preprocessing.{Reading, Flow, Setting, on, refused, then_read, read_run, read_directive}
use Rattle.c_text.specs.Trees.{Role, role_of}
use Rattle.file_walks.specs.Walk.{Walk, Open, flushed, are_read, text_read, end_of_file, branch_read, directive_read, by_role}
use Rattle.cond_readings.specs.Readings.{unless_refused, came_to, taken}
use Rattle.unit_files.specs.Settings.{entered}
use Rattle.cond_readings.specs.TakenLaws.{taken-then, taken-off, taken-same, taken-refuses, with-none}
use Rattle.cond_groups.specs.declared.groups.OpenGroups.{OpenGroups}
use Rattle.cond_pp.specs.declared.walk.CondWalker.{CondWalker}
use Rattle.cond_pp.specs.declared.walk.Inclusion.{Inclusion}
use Rattle.cond_groups.specs.Groups.{PlainGroup, Fits, AllFit, open_at, read_in, innermost, left, groups_of}
use Rattle.cond_pp.specs.Walks.{IsFit, ahead, including, after_file}
use Rattle.cond_groups.specs.GroupLaws.{read-is, read-inside}

pub under-none : (b : Bool) → under {P = PlainToken} b [] ≡ []
under-none true = refl
under-none false = refl

nothing-read : (e : Bool) (nx : Reading → Flow) (o : Option Reading) → taken e (λ r. then_read (read_run r []) nx) o ≡ taken e nx o
nothing-read e nx None = refl
nothing-read true nx (Some r) = ap (λ (m : Option Reading). taken true nx m) (with-none (Some r))
nothing-read false nx (Some r) = refl

-- the tokens since the last directive line are read
pub flush-is : (e h : Bool) (run : List PlainToken) (groups : List Open) (o n : Option Reading) (next : Walk → Flow) → (IsTrue h → IsTrue e) → n ≡ taken h (λ r. read_run r run) o → taken e (λ r. flushed (record { reading = r; run = under h run; groups = groups }) next) o ≡ taken e (λ r. next (record { reading = r; run = []; groups = groups })) n
flush-is e true run groups o n next inside read =
    let nx : Reading → Flow = λ r. next (record { reading = r; run = []; groups = groups }) in
    ap (λ (b : Bool). taken b (λ r. then_read (read_run r run) nx) o) (inside refl)
    ∙ taken-then true (λ r. read_run r run) nx o
    ∙ ap (λ (m : Option Reading). taken true nx m) (sym read)
    ∙ ap (λ (b : Bool). taken b nx n) (sym (inside refl))
flush-is e false run groups o n next inside read =
    let nx : Reading → Flow = λ r. next (record { reading = r; run = []; groups = groups }) in
    ap (λ (m : Option Reading). taken e (λ r. then_read (read_run r []) nx) m) (sym (read ∙ taken-off (λ r. read_run r run) o))
    ∙ nothing-read e nx n

-- a line of no directive
pub text-is : (e h : Bool) (run tokens all : List PlainToken) (groups : List Open) (line : PlainLine) (o : Option Reading) (next : Walk → Flow) → line.tokens ≡ tokens → all ≡ run ++ tokens → (IsTrue e → are_read groups ≡ h) → taken e (λ r. next (text_read (record { reading = r; run = under h run; groups = groups }) line)) o ≡ taken e (λ r. next (record { reading = r; run = under h all; groups = groups })) o
text-is e h run tokens all groups line None next tokens_are all_is are = refl
text-is false h run tokens all groups line (Some r) next tokens_are all_is are = refl
text-is true true run tokens all groups line (Some r) next tokens_are all_is are =
    ap (λ (b : Bool). came_to (next (if b then record { reading = r; run = run ++ line.tokens; groups = groups } else record { reading = r; run = run; groups = groups }))) (are refl)
    ∙ ap (λ (ts : List PlainToken). came_to (next (record { reading = r; run = ts; groups = groups }))) (ap (λ (ts : List PlainToken). run ++ ts) tokens_are ∙ sym all_is)
text-is true false run tokens all groups line (Some r) next tokens_are all_is are =
    ap (λ (b : Bool). came_to (next (if b then record { reading = r; run = [] ++ line.tokens; groups = groups } else record { reading = r; run = []; groups = groups }))) (are refl)

-- ---- directive lines, before which no tokens wait

-- a walk in which no tokens wait
abbrev pub emptied : Reading → List Open → Walk
emptied r groups = record { reading = r; run = []; groups = groups }

pub ahead-emptied : (features : ℕ → Bool) (w : CondWalker) (next : Walk → Flow) (o : Option Reading) → w.run.items ≡ [] → ahead features w next o ≡ taken (value features (condition_of w.entered)) (λ r. next (emptied r (map (open_at features) (groups_of w.groups)))) o
ahead-emptied features w next o none =
    let h = value features (read_in (condition_of w.entered) (groups_of w.groups)) in
    let e : under h (map (λ t. plain_token t.now) w.run.items) ≡ [] =
    ap (λ ts. under h (map (λ t. plain_token t.now) ts)) none ∙ under-none h
    in
    ap (λ (run : List PlainToken). taken (value features (condition_of w.entered)) (λ r. next (record { reading = r; run = run; groups = map (open_at features) (groups_of w.groups) })) o) e

-- a walk at the same place with the same groups
pub fit-kept : (features : ℕ → Bool) (w v : CondWalker) → v.entered ≡ w.entered → v.groups ≡ w.groups → IsFit features w → IsFit features v
fit-kept features w v entered_is groups_are fit =
    subst (λ (f : Formula). AllFit features (condition_of f) (groups_of v.groups)) (sym entered_is) (subst (λ (g : OpenGroups). AllFit features (condition_of w.entered) (groups_of g)) (sym groups_are) fit)

-- a line that begins a further branch
pub branch-begins : (s : Setting) (features : ℕ → Bool) (at : Condition) (groups : List PlainGroup) (old g : PlainGroup) (line : PlainLine) (last : Bool) (o new : Option Reading) (next : Walk → Flow) → Some old ≡ innermost groups → AllFit features at groups → (Fits features at old → (outer : List Open) → taken (value features at) (λ r. branch_read s (emptied r (open_at features old ∷ outer)) line last (open_at features old ∷ outer) next) o ≡ taken (value features at) (λ r. next (emptied r (open_at features g ∷ outer))) new) → taken (value features at) (λ r. branch_read s (emptied r (map (open_at features) groups)) line last (map (open_at features) groups) next) o ≡ taken (value features at) (λ r. next (emptied r (map (open_at features) (g ∷ left groups)))) new
branch-begins s features at [] old g line last o new next is fit step = absurd (false≢true (ap is_some (sym is)))
branch-begins s features at (g' ∷ outer) old g line last o new next is fit step =
    let e : g' ≡ old = cc in
    let fits = subst (λ (k : PlainGroup). Fits features at k) e (All-head (λ k. Fits features at k) g' outer fit) in
    ap (λ (k : PlainGroup). taken (value features at) (λ r. branch_read s (emptied r (open_at features k ∷ map (open_at features) outer)) line last (open_at features k ∷ map (open_at features) outer) next) o) e
    ∙ step fits (map (open_at features) outer)

pub branch-fits : (features : ℕ → Bool) (at : Condition) (groups : List PlainGroup) (old g : PlainGroup) → Some old ≡ innermost groups → AllFit features at groups → (Fits features at old → Fits features at g) → AllFit features at (g ∷ left groups)
branch-fits features at [] old g is fit fits = absurd (false≢true (ap is_some (sym is)))
branch-fits features at (g' ∷ outer) old g is fit fits =
    let e : g' ≡ old = cc in
    let here = subst (λ (k : PlainGroup). Fits features at k) e (All-head (λ k. Fits features at k) g' outer fit) in
    All-cons (λ k. Fits features at k) g outer (fits here) (All-tail (λ k. Fits features at k) g' outer fit)

-- a directive line that belongs to no group
alone-is : (s : Setting) (e h : Bool) (line : PlainLine) (o new : Option Reading) (source : Option spec.Source) (read_on : Reading → Flow) (run : List PlainToken) (groups : List Open) (next : Walk → Flow) → (IsTrue e → are_read groups ≡ h) → (IsTrue h → IsTrue e) → ((nx : Reading → Flow) → taken h (λ r. then_read (read_directive s r line.tokens) nx) o ≡ taken h (λ r. then_read (entered s.deeper source r) nx) new) → ((r : Reading) → read_on r ≡ (if h then entered s.deeper source r else on r)) → taken e (λ r. directive_read s (record { reading = r; run = run; groups = groups }) line next) o ≡ taken e (λ r. then_read (read_on r) (λ a. next (record { reading = a; run = run; groups = groups }))) new
alone-is s true true line o new source read_on run groups next are inside step is =
    let nx : Reading → Flow = λ a. next (record { reading = a; run = run; groups = groups }) in
    ap (λ (b : Bool). taken true (λ r. if b then then_read (read_directive s r line.tokens) nx else nx r) o) (are refl)
    ∙ step nx
    ∙ taken-same true (λ r. then_read (entered s.deeper source r) nx) (λ r. then_read (read_on r) nx) new (λ r. ap (λ (f : Flow). then_read f nx) (sym (is r)))
alone-is s true false line o new source read_on run groups next are inside step is =
    let nx : Reading → Flow = λ a. next (record { reading = a; run = run; groups = groups }) in
    let moved : o ≡ new =
    sym (taken-off (λ r. then_read (read_directive s r line.tokens) nx) o) ∙ step nx ∙ taken-off (λ r. then_read (entered s.deeper source r) nx) new
    in
    ap (λ (b : Bool). taken true (λ r. if b then then_read (read_directive s r line.tokens) nx else nx r) o) (are refl)
    ∙ ap (λ (m : Option Reading). taken true nx m) moved
    ∙ taken-same true nx (λ r. then_read (read_on r) nx) new (λ r. ap (λ (f : Flow). then_read f nx) (sym (is r)))
alone-is s false true line o new source read_on run groups next are inside step is = absurd (false≢true (inside refl))
alone-is s false false line o new source read_on run groups next are inside step is =
    let nx : Reading → Flow = λ a. next (record { reading = a; run = run; groups = groups }) in
    let moved : o ≡ new =
    sym (taken-off (λ r. then_read (read_directive s r line.tokens) nx) o) ∙ step nx ∙ taken-off (λ r. then_read (entered s.deeper source r) nx) new
    in
    taken-off (λ r. directive_read s (record { reading = r; run = run; groups = groups }) line next) o
    ∙ moved ∙ sym (taken-off (λ r. then_read (read_on r) nx) new)

same-either : (h : Bool) (r : Reading) → on r ≡ (if h then on r else on r)
same-either true r = refl
same-either false r = refl

pub finds-none : (features : ℕ → Bool) (deeper : Option (spec.Source → Reading → Flow)) (h : Bool) (r : Reading) → including features deeper None r ≡ (if h then entered deeper None r else on r)
finds-none features deeper h r = same-either h r

pub alone-finds : (s : Setting) (features : ℕ → Bool) (w : CondWalker) (here : Condition) (line : PlainLine) (o new : Option Reading) (found : Option Inclusion) (source : Option spec.Source) (next : Walk → Flow) → IsFit features w → read_in (condition_of w.entered) (groups_of w.groups) ≡ here → ((nx : Reading → Flow) → taken (value features here) (λ r. then_read (read_directive s r line.tokens) nx) o ≡ taken (value features here) (λ r. then_read (entered s.deeper source r) nx) new) → ((r : Reading) → including features s.deeper found r ≡ (if value features here then entered s.deeper source r else on r)) → ahead features w (λ v. directive_read s v line next) o ≡ ahead features w (λ v. after_file features s.deeper found next v) new
alone-finds s features w here line o new found source next fit here_is step is =
    let at = condition_of w.entered in
    let groups = groups_of w.groups in
    let seen = ap (λ (k : Condition). value features k) here_is in
    alone-is s (value features at) (value features here) line o new source (λ r. including features s.deeper found r)
    (under (value features (read_in at groups)) (map (λ t. plain_token t.now) w.run.items)) (map (open_at features) groups) next
    (λ there. read-is features at groups fit there ∙ seen)
    (λ h. read-inside features at groups fit (seen ∙ h))
    step is

pub of-role : (s : Setting) (features : ℕ → Bool) (w : CondWalker) (line : PlainLine) (o new : Option Reading) (next : Walk → Flow) (role : Role) → role ≡ role_of line.tokens → ahead features w (λ v. by_role s role v line next) o ≡ new → ahead features w (λ v. by_role s (role_of line.tokens) v line next) o ≡ new
of-role s features w line o new next role is read = sym (ap (λ (r : Role). ahead features w (λ v. by_role s r v line next) o) is) ∙ read

-- ---- the end of a file

end-open : (s : Setting) (e : Bool) (g : Open) (outer : List Open) (o : Option Reading) → taken e (λ r. end_of_file s (g ∷ outer) r) o ≡ unless_refused e o
end-open s e g outer o = sym (taken-refuses e (λ r. refused s.broken) o (λ r. refl))

end-closed : (s : Setting) (e : Bool) (o : Option Reading) → taken e (λ r. end_of_file s [] r) o ≡ o
end-closed s e None = refl
end-closed s true (Some r) = refl
end-closed s false (Some r) = refl

pub ends-open : (s : Setting) (features : ℕ → Bool) (at : Condition) (groups : List PlainGroup) (g : PlainGroup) (o : Option Reading) → Some g ≡ innermost groups → taken (value features at) (λ r. end_of_file s (map (open_at features) groups) r) o ≡ unless_refused (value features at) o
ends-open s features at [] g o is = absurd (false≢true (ap is_some (sym is)))
ends-open s features at (g' ∷ outer) g o is = end-open s (value features at) (open_at features g') (map (open_at features) outer) o

pub ends-closed : (s : Setting) (features : ℕ → Bool) (at : Condition) (groups : List PlainGroup) (o : Option Reading) → None ≡ innermost groups → taken (value features at) (λ r. end_of_file s (map (open_at features) groups) r) o ≡ o
ends-closed s features at [] o is = end-closed s (value features at) o
ends-closed s features at (g ∷ outer) o is = absurd (false≢true (ap is_some is))
