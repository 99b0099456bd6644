-- A walk over the lines of a file is the reading of their part.
use Rattle.std.proofs.Common.{◌≡◌, Bool, true, false, List, [], ◌∷◌, Option, Some, None, refl, ap, sym, ◌∙◌, subst}
use Rattle.std.specs.Prelude.{if◌then◌else◌, drop, ◌++◌}
use Rattle.c_text.specs.Lines.{PlainLine}
use Rattle.c_text.specs.Trees.{finish, breaks, Role, begins, begins_branch, begins_last, closes, stands_alone, role_of}
use Rattle.c_text.specs.Preprocessing.{Reading, Flow, Setting, refused, then_read, unless, read_run, read_part, read_directive, condition_at, by_condition, refused_ignored}
use Rattle.file_walks.specs.Walk.{Walk, Open, reads, waits, passed, skipped, are_read, with_groups, end_refusal, begun, group_read, branch_read, directive_read, by_role, step, finished, text_read, walked, start}
use Rattle.file_walks.specs.Nests.{Nest, nest_of, nest_behind, behind_role, behind_branch}
use Rattle.file_walks.specs.Laws.{PartsAreWalked}
use Rattle.file_walks.proofs.Flows.{then_read-on, then_read-cong}
use Rattle.file_walks.proofs.Spines.{Spine, ground, broken_front, up, up0, up-nil, up-flushed, IsNoText, step-up, behind-branch}
use Rattle.file_walks.proofs.Forms.{spine_of, by_next, spine-fits}
use Rattle.file_walks.proofs.Complete.{spine-step}
use Rattle.file_walks.proofs.Parts.{file-is}

-- ---- where a walk doesn't go on

no_text_broken : (s : Setting) (nest : Nest) → IsNoText s (broken_front nest breaks)
no_text_broken s [] = (refl, refl)
no_text_broken s (e ∷ nest) = (refl, refl)

up0-broken : (s : Setting) (groups : List Open) (r : Reading) → up0 s groups (broken_front (nest_of groups) breaks) r ≡ refused s.broken
up0-broken s [] r = refl
up0-broken s (reads e ∷ groups) r = refl
up0-broken s (waits e ∷ groups) r = refl
up0-broken s (passed e ∷ groups) r = refl
up0-broken s (skipped e ∷ groups) r = refl

up-broken : (s : Setting) (w : Walk) → up s w (broken_front (nest_of w.groups) breaks) ≡ then_read (read_run w.reading w.run) (λ a. refused s.broken)
up-broken s w =
    up-flushed s w (broken_front (nest_of w.groups) breaks) (no_text_broken s (nest_of w.groups))
    ∙ then_read-cong (read_run w.reading w.run) _ (λ a. refused s.broken) (λ a. up0-broken s w.groups a)

branch-broken : (s : Setting) (last : Bool) (groups : List Open) (w : Walk) (line : PlainLine) (next : Walk → Flow) → behind_branch last (nest_of groups) ≡ None → branch_read s w line last groups next ≡ refused s.broken
branch-broken s last [] w line next h = refl
branch-broken s last (reads true ∷ groups) w line next h = refl
branch-broken s last (waits true ∷ groups) w line next h = refl
branch-broken s last (passed true ∷ groups) w line next h = refl
branch-broken s last (skipped true ∷ groups) w line next h = refl
branch-broken s last (reads false ∷ groups) w line next h = cc
branch-broken s last (waits false ∷ groups) w line next h = cc
branch-broken s last (passed false ∷ groups) w line next h = cc
branch-broken s last (skipped false ∷ groups) w line next h = cc

role-broken : (s : Setting) (role : Role) (groups : List Open) (r : Reading) (line : PlainLine) (next : Walk → Flow) → behind_role role (nest_of groups) ≡ None → by_role s role (record { reading = r; run = []; groups = groups }) line next ≡ refused s.broken
role-broken s begins groups r line next h = cc
role-broken s begins_branch groups r line next h = branch-broken s false groups (record { reading = r; run = []; groups = groups }) line next h
role-broken s begins_last groups r line next h = branch-broken s true groups (record { reading = r; run = []; groups = groups }) line next h
role-broken s closes [] r line next h = refl
role-broken s closes (g ∷ groups) r line next h = cc
role-broken s stands_alone groups r line next h = cc

step-broken : (s : Setting) (w : Walk) (line : PlainLine) (next : Walk → Flow) → nest_behind (nest_of w.groups) line ≡ None → step s w line next ≡ up s w (broken_front (nest_of w.groups) breaks)
step-broken s w line next h = by_cases line.directive h ∙ sym (up-broken s w)
  where
    by_cases :
        (b : Bool) → (if b then behind_role (role_of line.tokens) (nest_of w.groups) else Some (nest_of w.groups)) ≡ None
        → (if b then then_read (read_run w.reading w.run) (λ a. by_role s (role_of line.tokens) (record { reading = a; run = []; groups = w.groups }) line next) else next (text_read w line))
        ≡ then_read (read_run w.reading w.run) (λ a. refused s.broken)
    by_cases true e = then_read-cong (read_run w.reading w.run) _ (λ a. refused s.broken) (λ a. role-broken s (role_of line.tokens) w.groups a line next e)
    by_cases false e = cc

-- ---- what follows a step counts only where these groups are open

module _ (s : Setting) (line : PlainLine) (f g : Walk → Flow) where
  abbrev Agree : Nest → Type 0
  Agree nest = (v : Walk) → nest_of v.groups ≡ nest → f v ≡ g v

  agree-moved : (nest next : Nest) → nest ≡ next → Agree next → Agree nest
  agree-moved nest next e h = subst (λ (n : Nest). Agree n) (sym e) h

  begun-cong : (w : Walk) (last : Bool) (outer : List Open) → Agree (last ∷ nest_of outer) → begun s w line last outer f ≡ begun s w line last outer g
  begun-cong w last outer h =
      let c = condition_at s.value_of w.reading.table line.tokens in
      ap (λ x. by_condition s c x (f (with_groups w (waits last ∷ outer)))) (h (with_groups w (reads last ∷ outer)) refl)
      ∙ ap (λ y. by_condition s c (g (with_groups w (reads last ∷ outer))) y) (h (with_groups w (waits last ∷ outer)) refl)

  group-cong : (r : Reading) (groups : List Open) → Agree (false ∷ nest_of groups) → group_read s (record { reading = r; run = []; groups = groups }) line f ≡ group_read s (record { reading = r; run = []; groups = groups }) line g
  group-cong r [] h = begun-cong (record { reading = r; run = []; groups = [] }) false [] h
  group-cong r (reads e ∷ outer) h = begun-cong (record { reading = r; run = []; groups = reads e ∷ outer }) false (reads e ∷ outer) h
  group-cong r (waits e ∷ outer) h = h (record { reading = r; run = []; groups = skipped false ∷ waits e ∷ outer }) refl
  group-cong r (passed e ∷ outer) h = h (record { reading = r; run = []; groups = skipped false ∷ passed e ∷ outer }) refl
  group-cong r (skipped e ∷ outer) h = h (record { reading = r; run = []; groups = skipped false ∷ skipped e ∷ outer }) refl

  branch-cong : (r : Reading) (last : Bool) (groups : List Open) (next : Nest) → behind_branch last (nest_of groups) ≡ Some next → Agree next → branch_read s (record { reading = r; run = []; groups = groups }) line last groups f ≡ branch_read s (record { reading = r; run = []; groups = groups }) line last groups g
  branch-cong r last [] next e h = refl
  branch-cong r last (reads true ∷ outer) next e h = refl
  branch-cong r last (waits true ∷ outer) next e h = refl
  branch-cong r last (passed true ∷ outer) next e h = refl
  branch-cong r last (skipped true ∷ outer) next e h = refl
  branch-cong r last (reads false ∷ outer) next e h =
      ap (λ x. unless (refused_ignored (drop 2 line.tokens)) x) (h (record { reading = r; run = []; groups = passed last ∷ outer }) (behind-branch s last false (nest_of outer) next e).1)
  branch-cong r last (waits false ∷ outer) next e h =
      begun-cong (record { reading = r; run = []; groups = waits false ∷ outer }) last outer (agree-moved (last ∷ nest_of outer) next (behind-branch s last false (nest_of outer) next e).1 h)
  branch-cong r last (passed false ∷ outer) next e h =
      ap (λ x. unless (refused_ignored (drop 2 line.tokens)) x) (h (record { reading = r; run = []; groups = passed last ∷ outer }) (behind-branch s last false (nest_of outer) next e).1)
  branch-cong r last (skipped false ∷ outer) next e h = h (record { reading = r; run = []; groups = skipped last ∷ outer }) (behind-branch s last false (nest_of outer) next e).1

  alone-cong : (r : Reading) (groups : List Open) → Agree (nest_of groups) → directive_read s (record { reading = r; run = []; groups = groups }) line f ≡ directive_read s (record { reading = r; run = []; groups = groups }) line g
  alone-cong r groups h = by_cases (are_read groups)
    where
      by_cases :
          (b : Bool)
          → (if b then then_read (read_directive s r line.tokens) (λ a. f (record { reading = a; run = []; groups = groups })) else f (record { reading = r; run = []; groups = groups }))
          ≡ (if b then then_read (read_directive s r line.tokens) (λ a. g (record { reading = a; run = []; groups = groups })) else g (record { reading = r; run = []; groups = groups }))
      by_cases true = then_read-cong (read_directive s r line.tokens) _ _ (λ a. h (record { reading = a; run = []; groups = groups }) refl)
      by_cases false = h (record { reading = r; run = []; groups = groups }) refl

  role-cong : (role : Role) (r : Reading) (groups : List Open) (next : Nest) → behind_role role (nest_of groups) ≡ Some next → Agree next → by_role s role (record { reading = r; run = []; groups = groups }) line f ≡ by_role s role (record { reading = r; run = []; groups = groups }) line g
  role-cong begins r groups next e h =
      let same : false ∷ nest_of groups ≡ next = cc in
      group-cong r groups (agree-moved (false ∷ nest_of groups) next same h)
  role-cong begins_branch r groups next e h = branch-cong r false groups next e h
  role-cong begins_last r groups next e h = branch-cong r true groups next e h
  role-cong closes r [] next e h = refl
  role-cong closes r (open_ ∷ outer) next e h =
      let same : nest_of outer ≡ next = cc in
      ap (λ x. unless (end_refusal open_ line) x) (h (record { reading = r; run = []; groups = outer }) same)
  role-cong stands_alone r groups next e h =
      let same : nest_of groups ≡ next = cc in
      alone-cong r groups (agree-moved (nest_of groups) next same h)

  text-nest : (w : Walk) → nest_of (text_read w line).groups ≡ nest_of w.groups
  text-nest w = by_cases (are_read w.groups)
    where
      by_cases : (b : Bool) → nest_of (if b then record w { run = w.run ++ line.tokens } else w).groups ≡ nest_of w.groups
      by_cases true = refl
      by_cases false = refl

  step-cong : (w : Walk) (next : Nest) → nest_behind (nest_of w.groups) line ≡ Some next → Agree next → step s w line f ≡ step s w line g
  step-cong w next e h = by_cases line.directive e
    where
      by_cases :
          (b : Bool) → (if b then behind_role (role_of line.tokens) (nest_of w.groups) else Some (nest_of w.groups)) ≡ Some next
          → (if b then then_read (read_run w.reading w.run) (λ a. by_role s (role_of line.tokens) (record { reading = a; run = []; groups = w.groups }) line f) else f (text_read w line))
          ≡ (if b then then_read (read_run w.reading w.run) (λ a. by_role s (role_of line.tokens) (record { reading = a; run = []; groups = w.groups }) line g) else g (text_read w line))
      by_cases true moved = then_read-cong (read_run w.reading w.run) _ _ (λ a. role-cong (role_of line.tokens) a w.groups next moved h)
      by_cases false moved =
          let same : nest_of w.groups ≡ next = cc in
          h (text_read w line) (text-nest w ∙ same)

-- ---- the walk

walk-ends : (s : Setting) (w : Walk) → finished s w ≡ up s w (spine_of (nest_of w.groups) [])
walk-ends s w = by_cases w.groups
  where
    by_cases : (groups : List Open) → finished s (record w { groups = groups }) ≡ up s (record w { groups = groups }) (spine_of (nest_of groups) [])
    by_cases [] = sym (up-flushed s (record w { groups = [] }) (ground finish) (refl, refl))
    by_cases (g ∷ groups) = sym (up-broken s (record w { groups = g ∷ groups }))

walked-up : (s : Setting) (lines : List PlainLine) (w : Walk) → walked s w lines ≡ up s w (spine_of (nest_of w.groups) lines)
walked-up s [] w = walk-ends s w
walked-up s (line ∷ lines) w = by_cases (nest_behind (nest_of w.groups) line) refl (λ v. walked-up s lines v)
  where
    by_cases :
        (o : Option Nest) → nest_behind (nest_of w.groups) line ≡ o → ((v : Walk) → walked s v lines ≡ up s v (spine_of (nest_of v.groups) lines))
        → step s w line (λ v. walked s v lines) ≡ up s w (by_next (nest_behind (nest_of w.groups) line) (nest_of w.groups) line (λ n. spine_of n lines))
    by_cases None h others =
        step-broken s w line (λ v. walked s v lines) h
        ∙ sym (ap (λ (o : Option Nest). up s w (by_next o (nest_of w.groups) line (λ n. spine_of n lines))) h)
    by_cases (Some next) h others =
        step-cong s line (λ v. walked s v lines) (λ v. up s v (spine_of next lines)) w next h (λ v same. others v ∙ ap (λ (n : Nest). up s v (spine_of n lines)) same)
        ∙ step-up s w next line (spine_of next lines) h (spine-fits next lines)
        ∙ sym (ap (λ (sp : Spine). up s w sp) (spine-step (nest_of w.groups) next line lines h))

pub parts-are_walked : PartsAreWalked
parts-are_walked s file length lines part r is =
    let its = file-is file length lines part s.broken is in
    walked-up s lines (start r) ∙ ap (λ (sp : Spine). up s (start r) sp) its.spine ∙ up-nil s [] (ground part) r ∙ then_read-on (read_part s r part)
