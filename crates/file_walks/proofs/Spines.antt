-- What lines that stand from a place on are, where groups are open there, and what a walk makes of them.
use Rattle.std.proofs.Common.{subst, ◌≡◌, Bool, true, false, List, [], ◌∷◌, ◌++◌, Some, None, refl, ap, sym, ◌∙◌, append-nil}
use Rattle.std.specs.Prelude.{if◌then◌else◌, ⊤, drop}
use Rattle.std.proofs.lemmas.List.{append_assoc}
use Rattle.c_text.specs.Token.{PlainToken}
use Rattle.c_text.specs.Lines.{PlainLine}
use Rattle.c_text.specs.Trees.{Part, finish, breaks, text_lines, directive_line, group, broken_group, Branches, no_branch, branch, Role, begins, begins_branch, begins_last, closes, stands_alone, role_of}
use Rattle.c_text.specs.Preprocessing.{Reading, Flow, Setting, on, refused, then_read, unless, Condition, by_condition, read_run, read_part, read_branches, skip, tokens_of_lines, refused_ignored, condition_at, read_directive}
use Rattle.file_walks.specs.Walk.{branch_read, Open, reads, waits, passed, skipped, Walk, are_read, is_last, end_refusal, by_role, step, text_read, flushed}
use Rattle.file_walks.specs.Nests.{Nest, nest_of, nest_behind, behind_role, behind_branch}
use Rattle.file_walks.proofs.Flows.{then_read-assoc, then_read-cong, then_read-unless, run_nil, branches-then, group-then}

-- the rest of the innermost branch, the further branches of its group with the group's last line, and so on outwards
pub data Spine : Type 0 where
  ground : Part → Spine
  level : Part → Branches → PlainLine → Spine → Spine
  -- the file breaks before the group is closed
  broken_level : Part → Branches → Spine

abbrev pub front_of : Spine → Part
front_of (ground part) = part
front_of (level body others last outer) = body
front_of (broken_level body others) = body

abbrev pub others_of : Spine → Branches
others_of (ground part) = no_branch
others_of (level body others last outer) = others
others_of (broken_level body others) = others

abbrev pub map_front : (Part → Part) → Spine → Spine
map_front f (ground part) = ground (f part)
map_front f (level body others last outer) = level (f body) others last outer
map_front f (broken_level body others) = broken_level (f body) others

-- where a file breaks
abbrev pub broken_front : Nest → Part → Spine
broken_front [] part = ground part
broken_front (last ∷ outer) part = broken_level part no_branch

abbrev pub with_text : PlainLine → Part → Part
with_text line (text_lines lines rest) = text_lines (line ∷ lines) rest
with_text line other = text_lines (line ∷ []) other

abbrev pub with_group : Nest → PlainLine → Spine → Spine
with_group nest line (ground part) = ground part
with_group nest line (level body others last outer) = map_front (group line body others last) outer
with_group nest line (broken_level body others) = broken_front nest (broken_group line body others)

abbrev pub with_branch : PlainLine → Spine → Spine
with_branch line (ground part) = ground part
with_branch line (level body others last outer) = level finish (branch line body others) last outer
with_branch line (broken_level body others) = broken_level finish (branch line body others)

abbrev pub with_role : Role → Nest → PlainLine → Spine → Spine
with_role begins nest line spine = with_group nest line spine
with_role begins_branch nest line spine = with_branch line spine
with_role begins_last nest line spine = with_branch line spine
with_role closes nest line spine = level finish no_branch line spine
with_role stands_alone nest line spine = map_front (directive_line line) spine

-- a line before others, where these groups are open before it
abbrev pub with_line : Nest → PlainLine → Spine → Spine
with_line nest line spine =
    if line.directive then with_role (role_of line.tokens) nest line spine else map_front (with_text line) spine

abbrev pub Fits : Nest → Spine → Type 0
Fits [] (ground part) = ⊤
Fits [] (level body others last outer) = ⊥
Fits [] (broken_level body others) = ⊥
Fits (e ∷ nest) (ground part) = ⊥
Fits (e ∷ nest) (level body others last outer) = Fits nest outer
Fits (e ∷ nest) (broken_level body others) = ⊤

abbrev pub leading : Part → List PlainToken
leading (text_lines lines rest) = tokens_of_lines lines
leading other = []

abbrev pub behind_text : Part → Part
behind_text (text_lines lines rest) = rest
behind_text other = other

module _ (s : Setting) where
  abbrev pub closed : Open → (Spine → Reading → Flow) → Spine → Reading → Flow
  closed g outside (ground part) r = refused s.broken
  closed g outside (level body others last outer) r = unless (end_refusal g last) (outside outer r)
  closed g outside (broken_level body others) r = refused s.broken

  abbrev pub by_open : Open → Spine → (Reading → Flow) → Reading → Flow
  by_open (reads last) spine after r = then_read (read_part s r (front_of spine)) (λ a. then_read (skip s a (others_of spine)) after)
  by_open (waits last) spine after r = then_read (read_branches s r (others_of spine)) after
  by_open (passed last) spine after r = then_read (skip s r (others_of spine)) after
  by_open (skipped last) spine after r = after r

  -- what becomes of the lines, where no tokens wait
  abbrev pub up0 : List Open → Spine → Reading → Flow
  up0 [] spine r = then_read (read_part s r (front_of spine)) on
  up0 (g ∷ groups) spine r = by_open g spine (closed g (λ outer a. up0 groups outer a) spine) r

  -- what becomes of them behind a walk
  abbrev pub up : Walk → Spine → Flow
  up w spine =
      if are_read w.groups
      then then_read (read_run w.reading (w.run ++ leading (front_of spine))) (λ a. up0 w.groups (map_front behind_text spine) a)
      else then_read (read_run w.reading w.run) (λ a. up0 w.groups spine a)

  text_first : (p : Part) (r : Reading) (k : Reading → Flow) → then_read (read_run r (leading p)) (λ a. then_read (read_part s a (behind_text p)) k) ≡ then_read (read_part s r p) k
  text_first finish r k = ap (λ x. then_read x (λ a. then_read (read_part s a finish) k)) (run_nil r)
  text_first breaks r k = ap (λ x. then_read x (λ a. then_read (read_part s a breaks) k)) (run_nil r)
  text_first (text_lines lines rest) r k = then_read-assoc (read_run r (tokens_of_lines lines)) (λ a. read_part s a rest) k
  text_first (directive_line line rest) r k = ap (λ x. then_read x (λ a. then_read (read_part s a (directive_line line rest)) k)) (run_nil r)
  text_first (group first body others last rest) r k = ap (λ x. then_read x (λ a. then_read (read_part s a (group first body others last rest)) k)) (run_nil r)
  text_first (broken_group first body others) r k = ap (λ x. then_read x (λ a. then_read (read_part s a (broken_group first body others)) k)) (run_nil r)

  -- without tokens that wait
  pub up-nil : (groups : List Open) (spine : Spine) (r : Reading) → up (record { reading = r; run = []; groups = groups }) spine ≡ up0 groups spine r
  up-nil [] (ground p) r = text_first p r on
  up-nil [] (level p others last outer) r = text_first p r on
  up-nil [] (broken_level p others) r = text_first p r on
  up-nil (reads e ∷ groups) (ground p) r = text_first p r (λ a. then_read (skip s a no_branch) (closed (reads e) (up0 groups) (ground p)))
  up-nil (reads e ∷ groups) (level p others last outer) r = text_first p r (λ a. then_read (skip s a others) (closed (reads e) (up0 groups) (level p others last outer)))
  up-nil (reads e ∷ groups) (broken_level p others) r = text_first p r (λ a. then_read (skip s a others) (closed (reads e) (up0 groups) (broken_level p others)))
  up-nil (waits e ∷ groups) spine r = ap (λ x. then_read x (λ a. up0 (waits e ∷ groups) spine a)) (run_nil r)
  up-nil (passed e ∷ groups) spine r = ap (λ x. then_read x (λ a. up0 (passed e ∷ groups) spine a)) (run_nil r)
  up-nil (skipped e ∷ groups) spine r = ap (λ x. then_read x (λ a. up0 (skipped e ∷ groups) spine a)) (run_nil r)

  -- what isn't read doesn't count
  pub up0-skipped : (groups : List Open) (f : Part → Part) (spine : Spine) (r : Reading) → are_read groups ≡ false → up0 groups (map_front f spine) r ≡ up0 groups spine r
  up0-skipped [] f spine r h = cc
  up0-skipped (reads e ∷ groups) f spine r h = cc
  up0-skipped (waits e ∷ groups) f (ground p) r h = refl
  up0-skipped (waits e ∷ groups) f (level p others last outer) r h = refl
  up0-skipped (waits e ∷ groups) f (broken_level p others) r h = refl
  up0-skipped (passed e ∷ groups) f (ground p) r h = refl
  up0-skipped (passed e ∷ groups) f (level p others last outer) r h = refl
  up0-skipped (passed e ∷ groups) f (broken_level p others) r h = refl
  up0-skipped (skipped e ∷ groups) f (ground p) r h = refl
  up0-skipped (skipped e ∷ groups) f (level p others last outer) r h = refl
  up0-skipped (skipped e ∷ groups) f (broken_level p others) r h = refl

  text_more : (line : PlainLine) (p : Part) → leading (with_text line p) ≡ line.tokens ++ leading p
  text_more line finish = refl
  text_more line breaks = refl
  text_more line (text_lines lines rest) = refl
  text_more line (directive_line first rest) = refl
  text_more line (group first body others last rest) = refl
  text_more line (broken_group first body others) = refl

  behind_more : (line : PlainLine) (p : Part) → behind_text (with_text line p) ≡ behind_text p
  behind_more line finish = refl
  behind_more line breaks = refl
  behind_more line (text_lines lines rest) = refl
  behind_more line (directive_line first rest) = refl
  behind_more line (group first body others last rest) = refl
  behind_more line (broken_group first body others) = refl

  front-more : (line : PlainLine) (spine : Spine) → leading (front_of (map_front (with_text line) spine)) ≡ line.tokens ++ leading (front_of spine)
  front-more line (ground p) = text_more line p
  front-more line (level p others last outer) = text_more line p
  front-more line (broken_level p others) = text_more line p

  spine-more : (line : PlainLine) (spine : Spine) → map_front behind_text (map_front (with_text line) spine) ≡ map_front behind_text spine
  spine-more line (ground p) = ap ground (behind_more line p)
  spine-more line (level p others last outer) = ap (λ q. level q others last outer) (behind_more line p)
  spine-more line (broken_level p others) = ap (λ q. broken_level q others) (behind_more line p)

  -- a line of no directive
  text-active : (groups : List Open) (r : Reading) (run : List PlainToken) (line : PlainLine) (spine : Spine) → then_read (read_run r ((run ++ line.tokens) ++ leading (front_of spine))) (λ a. up0 groups (map_front behind_text spine) a) ≡ then_read (read_run r (run ++ leading (front_of (map_front (with_text line) spine)))) (λ a. up0 groups (map_front behind_text (map_front (with_text line) spine)) a)
  text-active groups r run line spine =
      let tokens = append_assoc run line.tokens (leading (front_of spine)) ∙ ap (λ ts. run ++ ts) (sym (front-more line spine)) in
      ap (λ ts. then_read (read_run r ts) (λ a. up0 groups (map_front behind_text spine) a)) tokens
      ∙ ap (λ sp. then_read (read_run r (run ++ leading (front_of (map_front (with_text line) spine)))) (λ a. up0 groups sp a)) (sym (spine-more line spine))

  pub up-text : (w : Walk) (line : PlainLine) (spine : Spine) → up (text_read w line) spine ≡ up w (map_front (with_text line) spine)
  up-text w line spine = up-text_in w.groups w.reading w.run line spine
    where
      up-text_in : (groups : List Open) (r : Reading) (run : List PlainToken) (line : PlainLine) (spine : Spine) → up (text_read (record { reading = r; run = run; groups = groups }) line) spine ≡ up (record { reading = r; run = run; groups = groups }) (map_front (with_text line) spine)
      up-text_in [] r run line spine = text-active [] r run line spine
      up-text_in (reads e ∷ groups) r run line spine = text-active (reads e ∷ groups) r run line spine
      up-text_in (waits e ∷ groups) r run line spine = then_read-cong (read_run r run) (λ a. up0 (waits e ∷ groups) spine a) (λ a. up0 (waits e ∷ groups) (map_front (with_text line) spine) a) (λ a. sym (up0-skipped (waits e ∷ groups) (with_text line) spine a refl))
      up-text_in (passed e ∷ groups) r run line spine = then_read-cong (read_run r run) (λ a. up0 (passed e ∷ groups) spine a) (λ a. up0 (passed e ∷ groups) (map_front (with_text line) spine) a) (λ a. sym (up0-skipped (passed e ∷ groups) (with_text line) spine a refl))
      up-text_in (skipped e ∷ groups) r run line spine = then_read-cong (read_run r run) (λ a. up0 (skipped e ∷ groups) spine a) (λ a. up0 (skipped e ∷ groups) (map_front (with_text line) spine) a) (λ a. sym (up0-skipped (skipped e ∷ groups) (with_text line) spine a refl))

  -- the front of a spine isn't text
  abbrev pub IsNoText : Spine → Type 0
  IsNoText spine = (leading (front_of spine) ≡ []) × (map_front behind_text spine ≡ spine)

  pub up-flushed : (w : Walk) (spine : Spine) → IsNoText spine → up w spine ≡ then_read (read_run w.reading w.run) (λ a. up0 w.groups spine a)
  up-flushed w spine h = by_cases (are_read w.groups)
    where
      by_cases : (b : Bool) → (if b then then_read (read_run w.reading (w.run ++ leading (front_of spine))) (λ a. up0 w.groups (map_front behind_text spine) a) else then_read (read_run w.reading w.run) (λ a. up0 w.groups spine a)) ≡ then_read (read_run w.reading w.run) (λ a. up0 w.groups spine a)
      by_cases true =
          ap (λ ts. then_read (read_run w.reading (w.run ++ ts)) (λ a. up0 w.groups (map_front behind_text spine) a)) h.0
          ∙ ap (λ ts. then_read (read_run w.reading ts) (λ a. up0 w.groups (map_front behind_text spine) a)) (append-nil w.run)
          ∙ ap (λ sp. then_read (read_run w.reading w.run) (λ a. up0 w.groups sp a)) h.1
      by_cases false = refl

  -- what a walk at a line makes of a spine behind the line
  abbrev at_line : Role → List Open → Reading → PlainLine → Spine → Flow
  at_line role groups r line spine = by_role s role (record { reading = r; run = []; groups = groups }) line (λ w. up w spine)

  alone : (groups : List Open) (r : Reading) (line : PlainLine) (spine : Spine) → Fits (nest_of groups) spine → at_line stands_alone groups r line spine ≡ up0 groups (map_front (directive_line line) spine) r
  alone [] r line (ground p) fits =
      then_read-cong (read_directive s r line.tokens) _ (λ a. then_read (read_part s a p) on) (λ a. up-nil [] (ground p) a)
      ∙ then_read-assoc (read_directive s r line.tokens) (λ a. read_part s a p) on
  alone [] r line (level p others last outer) fits = absurd fits
  alone [] r line (broken_level p others) fits = absurd fits
  alone (reads e ∷ groups) r line (ground p) fits = absurd fits
  alone (reads e ∷ groups) r line (level p others last outer) fits =
      let k = λ (a : Reading). then_read (skip s a others) (closed (reads e) (up0 groups) (level p others last outer)) in
      then_read-cong (read_directive s r line.tokens) _ (λ a. then_read (read_part s a p) k) (λ a. up-nil (reads e ∷ groups) (level p others last outer) a)
      ∙ then_read-assoc (read_directive s r line.tokens) (λ a. read_part s a p) k
  alone (reads e ∷ groups) r line (broken_level p others) fits =
      let k = λ (a : Reading). then_read (skip s a others) (closed (reads e) (up0 groups) (broken_level p others)) in
      then_read-cong (read_directive s r line.tokens) _ (λ a. then_read (read_part s a p) k) (λ a. up-nil (reads e ∷ groups) (broken_level p others) a)
      ∙ then_read-assoc (read_directive s r line.tokens) (λ a. read_part s a p) k
  alone (waits e ∷ groups) r line spine fits = up-nil (waits e ∷ groups) spine r ∙ sym (up0-skipped (waits e ∷ groups) (directive_line line) spine r refl)
  alone (passed e ∷ groups) r line spine fits = up-nil (passed e ∷ groups) spine r ∙ sym (up0-skipped (passed e ∷ groups) (directive_line line) spine r refl)
  alone (skipped e ∷ groups) r line spine fits = up-nil (skipped e ∷ groups) spine r ∙ sym (up0-skipped (skipped e ∷ groups) (directive_line line) spine r refl)

  condition-cong : (c : Condition) (x x' y y' : Flow) → x ≡ x' → y ≡ y' → by_condition s c x y ≡ by_condition s c x' y'
  condition-cong c x x' y y' e f = ap (λ z. by_condition s c z y) e ∙ ap (λ z. by_condition s c x' z) f

  -- a group that begins where lines are read
  group_active : (groups : List Open) (r : Reading) (line : PlainLine) (body : Part) (others : Branches) (inner : Spine) (k : Reading → Flow) → up0 (reads false ∷ groups) inner r ≡ then_read (read_part s r body) (λ a. then_read (skip s a others) k) → up0 (waits false ∷ groups) inner r ≡ then_read (read_branches s r others) k → by_condition s (condition_at s.value_of r.table line.tokens) (up (record { reading = r; run = []; groups = reads false ∷ groups }) inner) (up (record { reading = r; run = []; groups = waits false ∷ groups }) inner) ≡ by_condition s (condition_at s.value_of r.table line.tokens) (then_read (read_part s r body) (λ a. then_read (skip s a others) k)) (then_read (read_branches s r others) k)
  group_active groups r line body others inner k e f =
      condition-cong (condition_at s.value_of r.table line.tokens) _ _ _ _ (up-nil (reads false ∷ groups) inner r ∙ e) (up-nil (waits false ∷ groups) inner r ∙ f)

  begins-at : (groups : List Open) (r : Reading) (line : PlainLine) (spine : Spine) → Fits (false ∷ nest_of groups) spine → at_line begins groups r line spine ≡ up0 groups (with_group (nest_of groups) line spine) r
  begins-at groups r line (ground p) fits = absurd fits
  begins-at [] r line (level body others last (ground q)) fits =
      group_active [] r line body others (level body others last (ground q)) (λ b. unless (refused_ignored (drop 2 last.tokens)) (then_read (read_part s b q) on)) refl refl
      ∙ group-then s (condition_at s.value_of r.table line.tokens) (read_part s r body) (read_branches s r others) (λ a. skip s a others) (λ b. read_part s b q) on (refused_ignored (drop 2 last.tokens))
  begins-at [] r line (level body others last (level p more end outer)) fits = absurd fits
  begins-at [] r line (level body others last (broken_level p more)) fits = absurd fits
  begins-at [] r line (broken_level body others) fits =
      group_active [] r line body others (broken_level body others) (λ b. refused s.broken) refl refl
      ∙ group-then s (condition_at s.value_of r.table line.tokens) (read_part s r body) (read_branches s r others) (λ a. skip s a others) (λ b. refused s.broken) on None
  begins-at (reads e ∷ groups) r line (level body others last (ground q)) fits = absurd fits
  begins-at (reads e ∷ groups) r line (level body others last (level p more end outer)) fits =
      let k = λ (b : Reading). then_read (skip s b more) (closed (reads e) (up0 groups) (level p more end outer)) in
      group_active (reads e ∷ groups) r line body others (level body others last (level p more end outer)) (λ b. unless (refused_ignored (drop 2 last.tokens)) (then_read (read_part s b p) k)) refl refl
      ∙ group-then s (condition_at s.value_of r.table line.tokens) (read_part s r body) (read_branches s r others) (λ a. skip s a others) (λ b. read_part s b p) k (refused_ignored (drop 2 last.tokens))
  begins-at (reads e ∷ groups) r line (level body others last (broken_level p more)) fits =
      let k = λ (b : Reading). then_read (skip s b more) (closed (reads e) (up0 groups) (broken_level p more)) in
      group_active (reads e ∷ groups) r line body others (level body others last (broken_level p more)) (λ b. unless (refused_ignored (drop 2 last.tokens)) (then_read (read_part s b p) k)) refl refl
      ∙ group-then s (condition_at s.value_of r.table line.tokens) (read_part s r body) (read_branches s r others) (λ a. skip s a others) (λ b. read_part s b p) k (refused_ignored (drop 2 last.tokens))
  begins-at (reads e ∷ groups) r line (broken_level body others) fits =
      let k = λ (b : Reading). then_read (skip s b no_branch) (λ (a : Reading). refused s.broken) in
      group_active (reads e ∷ groups) r line body others (broken_level body others) (λ b. refused s.broken) refl refl
      ∙ group-then s (condition_at s.value_of r.table line.tokens) (read_part s r body) (read_branches s r others) (λ a. skip s a others) (λ b. refused s.broken) k None
  begins-at (waits e ∷ groups) r line (level body others last outer) fits =
      up-nil (skipped false ∷ waits e ∷ groups) (level body others last outer) r ∙ sym (up0-skipped (waits e ∷ groups) (group line body others last) outer r refl)
  begins-at (waits e ∷ groups) r line (broken_level body others) fits = up-nil (skipped false ∷ waits e ∷ groups) (broken_level body others) r
  begins-at (passed e ∷ groups) r line (level body others last outer) fits =
      up-nil (skipped false ∷ passed e ∷ groups) (level body others last outer) r ∙ sym (up0-skipped (passed e ∷ groups) (group line body others last) outer r refl)
  begins-at (passed e ∷ groups) r line (broken_level body others) fits = up-nil (skipped false ∷ passed e ∷ groups) (broken_level body others) r
  begins-at (skipped e ∷ groups) r line (level body others last outer) fits =
      up-nil (skipped false ∷ skipped e ∷ groups) (level body others last outer) r ∙ sym (up0-skipped (skipped e ∷ groups) (group line body others last) outer r refl)
  begins-at (skipped e ∷ groups) r line (broken_level body others) fits = up-nil (skipped false ∷ skipped e ∷ groups) (broken_level body others) r

  -- a further branch of a group that has been read, or one of whose branches may still be
  skip_branch : (r : Reading) (line : PlainLine) (others : Branches) (k : Reading → Flow) → unless (refused_ignored (drop 2 line.tokens)) (then_read (skip s r others) k) ≡ then_read (unless (refused_ignored (drop 2 line.tokens)) (skip s r others)) k
  skip_branch r line others k = then_read-unless (refused_ignored (drop 2 line.tokens)) (skip s r others) k

  branch-at : (last : Bool) (g : Open) (groups : List Open) (r : Reading) (line : PlainLine) (spine : Spine) → is_last g ≡ false → Fits (last ∷ nest_of groups) spine → branch_read s (record { reading = r; run = []; groups = g ∷ groups }) line last (g ∷ groups) (λ w. up w spine) ≡ up0 (g ∷ groups) (with_branch line spine) r
  branch-at last g groups r line (ground p) h fits = absurd fits
  branch-at last (reads true) groups r line spine h fits = cc
  branch-at last (waits true) groups r line spine h fits = cc
  branch-at last (passed true) groups r line spine h fits = cc
  branch-at last (skipped true) groups r line spine h fits = cc
  branch-at last (reads false) groups r line (level body others end outer) h fits =
      ap (λ x. unless (refused_ignored (drop 2 line.tokens)) x) (up-nil (passed last ∷ groups) (level body others end outer) r)
      ∙ skip_branch r line others (closed (reads false) (up0 groups) (level body others end outer))
  branch-at last (reads false) groups r line (broken_level body others) h fits =
      ap (λ x. unless (refused_ignored (drop 2 line.tokens)) x) (up-nil (passed last ∷ groups) (broken_level body others) r)
      ∙ skip_branch r line others (λ a. refused s.broken)
  branch-at last (passed false) groups r line (level body others end outer) h fits =
      ap (λ x. unless (refused_ignored (drop 2 line.tokens)) x) (up-nil (passed last ∷ groups) (level body others end outer) r)
      ∙ skip_branch r line others (closed (passed false) (up0 groups) (level body others end outer))
  branch-at last (passed false) groups r line (broken_level body others) h fits =
      ap (λ x. unless (refused_ignored (drop 2 line.tokens)) x) (up-nil (passed last ∷ groups) (broken_level body others) r)
      ∙ skip_branch r line others (λ a. refused s.broken)
  branch-at last (skipped false) groups r line (level body others end outer) h fits = up-nil (skipped last ∷ groups) (level body others end outer) r
  branch-at last (skipped false) groups r line (broken_level body others) h fits = up-nil (skipped last ∷ groups) (broken_level body others) r
  branch-at last (waits false) groups r line (level body others end outer) h fits =
      condition-cong (condition_at s.value_of r.table line.tokens) _ _ _ _ (up-nil (reads last ∷ groups) (level body others end outer) r) (up-nil (waits last ∷ groups) (level body others end outer) r)
      ∙ branches-then s (condition_at s.value_of r.table line.tokens) (read_part s r body) (read_branches s r others) (λ a. skip s a others) (closed (waits false) (up0 groups) (level body others end outer))
  branch-at last (waits false) groups r line (broken_level body others) h fits =
      condition-cong (condition_at s.value_of r.table line.tokens) _ _ _ _ (up-nil (reads last ∷ groups) (broken_level body others) r) (up-nil (waits last ∷ groups) (broken_level body others) r)
      ∙ branches-then s (condition_at s.value_of r.table line.tokens) (read_part s r body) (read_branches s r others) (λ a. skip s a others) (λ a. refused s.broken)

  -- the end of a group
  end-at : (g : Open) (groups : List Open) (r : Reading) (line : PlainLine) (spine : Spine) → unless (end_refusal g line) (up (record { reading = r; run = []; groups = groups }) spine) ≡ up0 (g ∷ groups) (level finish no_branch line spine) r
  end-at (reads e) groups r line spine = ap (λ x. unless (refused_ignored (drop 2 line.tokens)) x) (up-nil groups spine r)
  end-at (waits e) groups r line spine = ap (λ x. unless (refused_ignored (drop 2 line.tokens)) x) (up-nil groups spine r)
  end-at (passed e) groups r line spine = ap (λ x. unless (refused_ignored (drop 2 line.tokens)) x) (up-nil groups spine r)
  end-at (skipped e) groups r line spine = up-nil groups spine r

  no_text_front : (f : Part → Part) (spine : Spine) → ((p : Part) → leading (f p) ≡ []) → ((p : Part) → behind_text (f p) ≡ f p) → IsNoText (map_front f spine)
  no_text_front f (ground p) h k = (h p, ap ground (k p))
  no_text_front f (level p others last outer) h k = (h p, ap (λ q. level q others last outer) (k p))
  no_text_front f (broken_level p others) h k = (h p, ap (λ q. broken_level q others) (k p))

  no_text_group : (nest : Nest) (line : PlainLine) (spine : Spine) → Fits (false ∷ nest) spine → IsNoText (with_group nest line spine)
  no_text_group nest line (ground p) fits = absurd fits
  no_text_group nest line (level body others last outer) fits = no_text_front (group line body others last) outer (λ p. refl) (λ p. refl)
  no_text_group [] line (broken_level body others) fits = (refl, refl)
  no_text_group (e ∷ nest) line (broken_level body others) fits = (refl, refl)

  no_text_branch : (e : Bool) (nest : Nest) (line : PlainLine) (spine : Spine) → Fits (e ∷ nest) spine → IsNoText (with_branch line spine)
  no_text_branch e nest line (ground p) fits = absurd fits
  no_text_branch e nest line (level body others last outer) fits = (refl, refl)
  no_text_branch e nest line (broken_level body others) fits = (refl, refl)

  -- the branch that begins behind a line of a group
  pub behind-branch : (last e : Bool) (nest next : Nest) → behind_branch last (e ∷ nest) ≡ Some next → (e ≡ false) × (last ∷ nest ≡ next)
  behind-branch last true nest next h = cc
  behind-branch last false nest next h = (refl, cc)

  no_text_role : (role : Role) (nest next : Nest) (line : PlainLine) (spine : Spine) → behind_role role nest ≡ Some next → Fits next spine → IsNoText (with_role role nest line spine)
  no_text_role begins nest next line spine h fits =
      let e : false ∷ nest ≡ next = cc in
      no_text_group nest line spine (subst (λ n. Fits n spine) (sym e) fits)
  no_text_role begins_branch [] next line spine h fits = cc
  no_text_role begins_branch (e ∷ nest) next line spine h fits =
      no_text_branch false nest line spine (subst (λ n. Fits n spine) (sym (behind-branch false e nest next h).1) fits)
  no_text_role begins_last [] next line spine h fits = cc
  no_text_role begins_last (e ∷ nest) next line spine h fits =
      no_text_branch true nest line spine (subst (λ n. Fits n spine) (sym (behind-branch true e nest next h).1) fits)
  no_text_role closes nest next line spine h fits = (refl, refl)
  no_text_role stands_alone nest next line spine h fits = no_text_front (directive_line line) spine (λ p. refl) (λ p. refl)

  role-at : (role : Role) (groups : List Open) (next : Nest) (r : Reading) (line : PlainLine) (spine : Spine) → behind_role role (nest_of groups) ≡ Some next → Fits next spine → at_line role groups r line spine ≡ up0 groups (with_role role (nest_of groups) line spine) r
  role-at begins groups next r line spine h fits =
      let e : false ∷ nest_of groups ≡ next = cc in
      begins-at groups r line spine (subst (λ n. Fits n spine) (sym e) fits)
  role-at begins_branch [] next r line spine h fits = cc
  role-at begins_branch (g ∷ groups) next r line spine h fits =
      let e = behind-branch false (is_last g) (nest_of groups) next h in
      branch-at false g groups r line spine e.0 (subst (λ n. Fits n spine) (sym e.1) fits)
  role-at begins_last [] next r line spine h fits = cc
  role-at begins_last (g ∷ groups) next r line spine h fits =
      let e = behind-branch true (is_last g) (nest_of groups) next h in
      branch-at true g groups r line spine e.0 (subst (λ n. Fits n spine) (sym e.1) fits)
  role-at closes [] next r line spine h fits = cc
  role-at closes (g ∷ groups) next r line spine h fits = end-at g groups r line spine
  role-at stands_alone groups next r line spine h fits =
      let e : nest_of groups ≡ next = cc in
      alone groups r line spine (subst (λ n. Fits n spine) (sym e) fits)

  -- a walk over a line, and what stands behind it
  pub step-up : (w : Walk) (next : Nest) (line : PlainLine) (spine : Spine) → nest_behind (nest_of w.groups) line ≡ Some next → Fits next spine → step s w line (λ v. up v spine) ≡ up w (with_line (nest_of w.groups) line spine)
  step-up w next line spine h fits = by_cases line.directive h
    where
      by_cases :
          (b : Bool) → (if b then behind_role (role_of line.tokens) (nest_of w.groups) else Some (nest_of w.groups)) ≡ Some next
          → (if b then flushed w (λ after. by_role s (role_of line.tokens) after line (λ v. up v spine)) else up (text_read w line) spine)
          ≡ up w (if b then with_role (role_of line.tokens) (nest_of w.groups) line spine else map_front (with_text line) spine)
      by_cases true e =
          then_read-cong (read_run w.reading w.run) _ _ (λ a. role-at (role_of line.tokens) w.groups next a line spine e fits)
          ∙ sym (up-flushed w (with_role (role_of line.tokens) (nest_of w.groups) line spine) (no_text_role (role_of line.tokens) (nest_of w.groups) next line spine e fits))
      by_cases false e = up-text w line spine
