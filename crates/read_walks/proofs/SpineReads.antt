-- What is read of lines that stand from a place on, where groups are open there.
use Rattle.std.proofs.Common.{◌≡◌, Bool, true, false, List, [], ◌∷◌, ◌++◌, drop, Some, refl, ap, sym, ◌∙◌, subst, append-nil}
use Rattle.std.specs.Prelude.{if◌then◌else◌}
use Rattle.std.proofs.lemmas.List.{append_assoc}
use Rattle.c_text.specs.Lines.{PlainLine}
use Rattle.c_text.specs.Trees.{Part, finish, text_lines, directive_line, group, broken_group, Branches, no_branch, Role, begins, begins_branch, begins_last, closes, stands_alone, role_of}
use Rattle.c_text.specs.Preprocessing.{Reading, Setting, condition_at, read_run, read_directive, refused_ignored}
use Rattle.active_tokens.specs.Reads.{Read, read_of, reads_behind, unless_refused, Following, reads_of_directive, by_truth}
use Rattle.file_walks.specs.Walk.{Walk, Open, reads, waits, passed, skipped, are_read, is_last, text_read}
use Rattle.file_walks.specs.Nests as nests
use Rattle.file_walks.specs.Nests.{Nest, nest_of, behind_role}
use Rattle.file_walks.proofs.Spines.{Spine, ground, level, broken_level, front_of, others_of, map_front, broken_front, with_text, with_group, with_branch, with_role, with_line, Fits, leading, behind_text, behind-branch}
use Rattle.read_walks.specs.WalkReads.{by_token, reads_at_branch, reads_at_end, reads_at_group, reads_at_directive, reads_by_role, reads_of_step}
use Rattle.read_walks.proofs.Behind.{Same, same-before, same-behind, same-unless, same-truth, part_then, branches_then, passed_then, name_then, choice_then, branch-first, passed-first, directive-first, group-first, broken-first, run_then, run-none, text-first}

-- ---- the front of a spine

front_of-map : (h : Part → Part) (spine : Spine) → front_of (map_front h spine) ≡ h (front_of spine)
front_of-map h (ground p) = refl
front_of-map h (level p others last outer) = refl
front_of-map h (broken_level p others) = refl

map_front-as : (g h : Part → Part) (spine : Spine) → ((p : Part) → g p ≡ h p) → map_front g spine ≡ map_front h spine
map_front-as g h (ground p) e = ap ground (e p)
map_front-as g h (level p others last outer) e = ap (λ q. level q others last outer) (e p)
map_front-as g h (broken_level p others) e = ap (λ q. broken_level q others) (e p)

map_front-map : (g h : Part → Part) (spine : Spine) → map_front g (map_front h spine) ≡ map_front (λ p. g (h p)) spine
map_front-map g h (ground p) = refl
map_front-map g h (level p others last outer) = refl
map_front-map g h (broken_level p others) = refl

leading-more : (line : PlainLine) (p : Part) → leading (with_text line p) ≡ line.tokens ++ leading p
leading-more line (text_lines lines rest) = refl
leading-more line other = refl

behind-more : (line : PlainLine) (p : Part) → behind_text (with_text line p) ≡ behind_text p
behind-more line (text_lines lines rest) = refl
behind-more line other = refl

-- the front isn't text
abbrev pub IsNoText : Spine → Type 0
IsNoText spine = (leading (front_of spine) ≡ []) × (map_front behind_text spine ≡ spine)

no_text-front : (h : Part → Part) (spine : Spine) → ((p : Part) → leading (h p) ≡ []) → ((p : Part) → behind_text (h p) ≡ h p) → IsNoText (map_front h spine)
no_text-front h spine e k =
    (ap leading (front_of-map h spine) ∙ e (front_of spine), map_front-map behind_text h spine ∙ map_front-as (λ p. behind_text (h p)) h spine k)

pub no_text-broken : (nest : Nest) (part : Part) → leading part ≡ [] → behind_text part ≡ part → IsNoText (broken_front nest part)
no_text-broken [] part e k = (e, ap ground k)
no_text-broken (last ∷ outer) part e k = (e, ap (λ p. broken_level p no_branch) k)

no_text-group : (nest : Nest) (line : PlainLine) (spine : Spine) → Fits (false ∷ nest) spine → IsNoText (with_group nest line spine)
no_text-group nest line (ground p) fits = absurd fits
no_text-group nest line (level body others last outer) fits = no_text-front (group line body others last) outer (λ p. refl) (λ p. refl)
no_text-group nest line (broken_level body others) fits = no_text-broken nest (broken_group line body others) refl refl

no_text-branch : (e : Bool) (nest : Nest) (line : PlainLine) (spine : Spine) → Fits (e ∷ nest) spine → IsNoText (with_branch line spine)
no_text-branch e nest line (ground p) fits = absurd fits
no_text-branch e nest line (level body others last outer) fits = (refl, refl)
no_text-branch e nest line (broken_level body others) fits = (refl, refl)

-- a walk without tokens that wait
abbrev pub at : List Open → Reading → Walk
at groups r = record { reading = r; run = []; groups = groups }

module _ (s : Setting) (f : Following) where
  -- ---- what is read of a spine

  abbrev pub ended : Open → PlainLine → (Reading → List Read) → Reading → List Read
  ended (reads e) last k = name_then last k
  ended (waits e) last k = name_then last k
  ended (passed e) last k = name_then last k
  ended (skipped e) last k = k

  abbrev pub closed : Open → (Spine → Reading → List Read) → Spine → Reading → List Read
  closed g outside (ground part) r = []
  closed g outside (level body others last outer) r = ended g last (outside outer) r
  closed g outside (broken_level body others) r = []

  -- the further branches of a group, and what follows
  abbrev pub further : Open → Branches → (Reading → List Read) → Reading → List Read
  further (reads e) others k = passed_then s f others k
  further (waits e) others k = branches_then s f others k
  further (passed e) others k = passed_then s f others k
  further (skipped e) others k = k

  abbrev pub within : List Open → Spine → (Reading → List Read) → Reading → List Read
  within groups spine k r = if are_read groups then part_then s f (front_of spine) k r else k r

  -- what is read behind the front
  abbrev pub beyond : List Open → Spine → Reading → List Read
  beyond [] spine = λ r. []
  beyond (g ∷ groups) spine = further g (others_of spine) (closed g (λ outer. within groups outer (beyond groups outer)) spine)

  -- what is read of the lines, where no tokens wait
  abbrev pub up0 : List Open → Spine → Reading → List Read
  up0 groups spine = within groups spine (beyond groups spine)

  -- what is read of them behind a walk
  abbrev pub up : Walk → Spine → List Read
  up w spine =
      if are_read w.groups then run_then (w.run ++ leading (front_of spine)) (up0 w.groups (map_front behind_text spine)) w.reading
      else run_then w.run (up0 w.groups spine) w.reading

  -- ---- the front counts where lines are read, and there alone

  beyond-map : (groups : List Open) (h : Part → Part) (spine : Spine) → beyond groups (map_front h spine) ≡ beyond groups spine
  beyond-map [] h spine = refl
  beyond-map (g ∷ groups) h (ground p) = refl
  beyond-map (g ∷ groups) h (level p others last outer) = refl
  beyond-map (g ∷ groups) h (broken_level p others) = refl

  by_read : (b : Bool) (groups : List Open) (spine : Spine) → are_read groups ≡ b → up0 groups spine ≡ (λ r. if b then part_then s f (front_of spine) (beyond groups spine) r else beyond groups spine r)
  by_read b groups spine e =
      ap {B = Reading → List Read} (λ (c : Bool) (r : Reading). if c then part_then s f (front_of spine) (beyond groups spine) r else beyond groups spine r) e

  front-is : (groups : List Open) (spine : Spine) → are_read groups ≡ true → up0 groups spine ≡ part_then s f (front_of spine) (beyond groups spine)
  front-is groups spine e = by_read true groups spine e

  front-map : (groups : List Open) (h : Part → Part) (spine : Spine) → are_read groups ≡ true → up0 groups (map_front h spine) ≡ part_then s f (h (front_of spine)) (beyond groups spine)
  front-map groups h spine e =
      front-is groups (map_front h spine) e
      ∙ ap (λ (p : Part). part_then s f p (beyond groups (map_front h spine))) (front_of-map h spine)
      ∙ ap (λ (k : Reading → List Read). part_then s f (h (front_of spine)) k) (beyond-map groups h spine)

  skip-map : (groups : List Open) (h : Part → Part) (spine : Spine) → are_read groups ≡ false → up0 groups (map_front h spine) ≡ up0 groups spine
  skip-map groups h spine e = by_read false groups (map_front h spine) e ∙ beyond-map groups h spine ∙ sym (by_read false groups spine e)

  pub broken-read : (groups : List Open) (part : Part) → are_read groups ≡ true → up0 groups (broken_front (nest_of groups) part) ≡ part_then s f part (λ r. [])
  broken-read [] part e = refl
  broken-read (reads last ∷ groups) part e = refl
  broken-read (waits last ∷ groups) part e = cc
  broken-read (passed last ∷ groups) part e = cc
  broken-read (skipped last ∷ groups) part e = cc

  pub broken-skipped : (groups : List Open) (part : Part) → are_read groups ≡ false → up0 groups (broken_front (nest_of groups) part) ≡ (λ r. [])
  broken-skipped [] part e = cc
  broken-skipped (reads last ∷ groups) part e = cc
  broken-skipped (waits last ∷ groups) part e = refl
  broken-skipped (passed last ∷ groups) part e = refl
  broken-skipped (skipped last ∷ groups) part e = refl

  at-reading : (g h : Reading → List Read) (r : Reading) → g ≡ h → Same (g r) (h r)
  at-reading g h r e = ap (λ (k : Reading → List Read). by_token (k r)) e

  pub up-nil : (groups : List Open) (spine : Spine) (r : Reading) → Same (up (at groups r) spine) (up0 groups spine r)
  up-nil groups spine r = by_cases (are_read groups) refl
    where
      by_cases : (b : Bool) → are_read groups ≡ b → Same (if b then run_then (leading (front_of spine)) (up0 groups (map_front behind_text spine)) r else run_then [] (up0 groups spine) r) (up0 groups spine r)
      by_cases true e =
          ap (λ (k : Reading → List Read). by_token (run_then (leading (front_of spine)) k r)) (front-map groups behind_text spine e)
          ∙ text-first s f (front_of spine) (beyond groups spine) r
          ∙ at-reading (part_then s f (front_of spine) (beyond groups spine)) (up0 groups spine) r (sym (front-is groups spine e))
      by_cases false e = run-none (up0 groups spine) r

  pub up-flushed : (w : Walk) (spine : Spine) → IsNoText spine → up w spine ≡ run_then w.run (up0 w.groups spine) w.reading
  up-flushed w spine h = by_cases (are_read w.groups)
    where
      by_cases : (b : Bool) → (if b then run_then (w.run ++ leading (front_of spine)) (up0 w.groups (map_front behind_text spine)) w.reading else run_then w.run (up0 w.groups spine) w.reading) ≡ run_then w.run (up0 w.groups spine) w.reading
      by_cases true =
          ap (λ ts. run_then (w.run ++ ts) (up0 w.groups (map_front behind_text spine)) w.reading) h.0
          ∙ ap (λ ts. run_then ts (up0 w.groups (map_front behind_text spine)) w.reading) (append-nil w.run)
          ∙ ap (λ sp. run_then w.run (up0 w.groups sp) w.reading) h.1
      by_cases false = refl

  -- ---- a line before a spine

  -- a line of no directive
  up-text : (w : Walk) (line : PlainLine) (spine : Spine) → up (text_read w line) spine ≡ up w (map_front (with_text line) spine)
  up-text w line spine = by_cases (are_read w.groups) refl
    where
      more : w.run ++ (line.tokens ++ leading (front_of spine)) ≡ w.run ++ leading (front_of (map_front (with_text line) spine))
      more = ap (λ ts. w.run ++ ts) (sym (ap leading (front_of-map (with_text line) spine) ∙ leading-more line (front_of spine)))

      rest : map_front behind_text spine ≡ map_front behind_text (map_front (with_text line) spine)
      rest = sym (map_front-map behind_text (with_text line) spine ∙ map_front-as (λ p. behind_text (with_text line p)) behind_text spine (behind-more line))

      by_cases : (b : Bool) → are_read w.groups ≡ b → up (if b then record w { run = w.run ++ line.tokens } else w) spine ≡ up w (map_front (with_text line) spine)
      by_cases true e =
          ap (λ (b : Bool). if b then run_then ((w.run ++ line.tokens) ++ leading (front_of spine)) (up0 w.groups (map_front behind_text spine)) w.reading else run_then (w.run ++ line.tokens) (up0 w.groups spine) w.reading) e
          ∙ ap (λ ts. run_then ts (up0 w.groups (map_front behind_text spine)) w.reading) (append_assoc w.run line.tokens (leading (front_of spine)) ∙ more)
          ∙ ap (λ sp. run_then (w.run ++ leading (front_of (map_front (with_text line) spine))) (up0 w.groups sp) w.reading) rest
          ∙ ap (λ (b : Bool). if b then run_then (w.run ++ leading (front_of (map_front (with_text line) spine))) (up0 w.groups (map_front behind_text (map_front (with_text line) spine))) w.reading else run_then w.run (up0 w.groups (map_front (with_text line) spine)) w.reading) (sym e)
      by_cases false e =
          ap (λ (b : Bool). if b then run_then (w.run ++ leading (front_of spine)) (up0 w.groups (map_front behind_text spine)) w.reading else run_then w.run (up0 w.groups spine) w.reading) e
          ∙ ap (λ (k : Reading → List Read). run_then w.run k w.reading) (sym (skip-map w.groups (with_text line) spine e))
          ∙ ap (λ (b : Bool). if b then run_then (w.run ++ leading (front_of (map_front (with_text line) spine))) (up0 w.groups (map_front behind_text (map_front (with_text line) spine))) w.reading else run_then w.run (up0 w.groups (map_front (with_text line) spine)) w.reading) (sym e)

  alone-at : (groups : List Open) (r : Reading) (line : PlainLine) (spine : Spine) → Same (reads_at_directive s f (at groups r) line (λ w. up w spine)) (up0 groups (map_front (directive_line line) spine) r)
  alone-at groups r line spine = by_cases (are_read groups) refl
    where
      by_cases : (b : Bool) → are_read groups ≡ b → Same (if b then reads_of_directive s f r line.tokens ++ reads_behind (read_directive s r line.tokens) (λ a. up (at groups a) spine) else up (at groups r) spine) (up0 groups (map_front (directive_line line) spine) r)
      by_cases true e =
          let k = part_then s f (front_of spine) (beyond groups spine) in
          let x = read_directive s r line.tokens in
          same-before (reads_of_directive s f r line.tokens) (reads_behind x (λ a. up (at groups a) spine)) (reads_behind x k) (same-behind x (λ a. up (at groups a) spine) k (λ a. up-nil groups spine a ∙ at-reading (up0 groups spine) k a (front-is groups spine e)))
          ∙ ap by_token (directive-first s f line (front_of spine) (beyond groups spine) r)
          ∙ at-reading (part_then s f (directive_line line (front_of spine)) (beyond groups spine)) (up0 groups (map_front (directive_line line) spine)) r (sym (front-map groups (directive_line line) spine e))
      by_cases false e =
          up-nil groups spine r
          ∙ at-reading (up0 groups spine) (up0 groups (map_front (directive_line line) spine)) r (sym (skip-map groups (directive_line line) spine e))

  -- a line that begins a branch which may be the first to be read
  begun-at : (r : Reading) (line : PlainLine) (last : Bool) (groups : List Open) (spine : Spine) → Same (read_of r line.tokens ∷ by_truth s f (condition_at s.value_of r.table line.tokens) (up (at (reads last ∷ groups) r) spine) (up (at (waits last ∷ groups) r) spine)) (read_of r line.tokens ∷ by_truth s f (condition_at s.value_of r.table line.tokens) (up0 (reads last ∷ groups) spine r) (up0 (waits last ∷ groups) spine r))
  begun-at r line last groups spine =
      let truth = by_truth s f (condition_at s.value_of r.table line.tokens) in
      let taken = up (at (reads last ∷ groups) r) spine in
      let taken0 = up0 (reads last ∷ groups) spine r in
      let others = up (at (waits last ∷ groups) r) spine in
      let others0 = up0 (waits last ∷ groups) spine r in
      same-before (read_of r line.tokens ∷ []) (truth taken others) (truth taken0 others0) (same-truth s f (condition_at s.value_of r.table line.tokens) taken taken0 others others0 (up-nil (reads last ∷ groups) spine r) (up-nil (waits last ∷ groups) spine r))

  group-at : (groups : List Open) (r : Reading) (line : PlainLine) (spine : Spine) → Fits (false ∷ nest_of groups) spine → Same (reads_at_group s f (at groups r) line (λ w. up w spine)) (up0 groups (with_group (nest_of groups) line spine) r)
  group-at groups r line spine fits = by_cases (are_read groups) refl spine fits
    where
      by_cases :
          (b : Bool) → are_read groups ≡ b → (spine : Spine) → Fits (false ∷ nest_of groups) spine
          → Same (if b then read_of r line.tokens ∷ by_truth s f (condition_at s.value_of r.table line.tokens) (up (at (reads false ∷ groups) r) spine) (up (at (waits false ∷ groups) r) spine) else up (at (skipped false ∷ groups) r) spine)
          (up0 groups (with_group (nest_of groups) line spine) r)
      by_cases b e (ground p) fits = absurd fits
      by_cases true e (level body others last outer) fits =
          let inner = level body others last outer in
          begun-at r line false groups inner
          ∙ ap (λ (k : Reading → List Read). by_token (choice_then s f line body others (name_then last k) r)) (front-is groups outer e)
          ∙ ap by_token (group-first s f line body others last (front_of outer) (beyond groups outer) r)
          ∙ at-reading (part_then s f (group line body others last (front_of outer)) (beyond groups outer)) (up0 groups (map_front (group line body others last) outer)) r (sym (front-map groups (group line body others last) outer e))
      by_cases false e (level body others last outer) fits =
          up-nil (skipped false ∷ groups) (level body others last outer) r
          ∙ at-reading (up0 groups outer) (up0 groups (map_front (group line body others last) outer)) r (sym (skip-map groups (group line body others last) outer e))
      by_cases true e (broken_level body others) fits =
          let inner = broken_level body others in
          begun-at r line false groups inner
          ∙ ap by_token (broken-first s f line body others (λ a. []) r)
          ∙ at-reading (part_then s f (broken_group line body others) (λ a. [])) (up0 groups (broken_front (nest_of groups) (broken_group line body others))) r (sym (broken-read groups (broken_group line body others) e))
      by_cases false e (broken_level body others) fits =
          up-nil (skipped false ∷ groups) (broken_level body others) r
          ∙ at-reading (λ a. []) (up0 groups (broken_front (nest_of groups) (broken_group line body others))) r (sym (broken-skipped groups (broken_group line body others) e))

  -- a line of which only the name counts
  name-at : (r : Reading) (line : PlainLine) (groups : List Open) (spine : Spine) → Same (name_then line (λ a. up (at groups a) spine) r) (name_then line (up0 groups spine) r)
  name-at r line groups spine =
      let found = refused_ignored (drop 2 line.tokens) in
      let later = up (at groups r) spine in
      let later0 = up0 groups spine r in
      same-before (read_of r line.tokens ∷ []) (unless_refused found later) (unless_refused found later0) (same-unless found later later0 (up-nil groups spine r))

  branch-at : (last : Bool) (g : Open) (groups : List Open) (r : Reading) (line : PlainLine) (spine : Spine) → is_last g ≡ false → Fits (last ∷ nest_of groups) spine → Same (reads_at_branch s f (at (g ∷ groups) r) line last (g ∷ groups) (λ w. up w spine)) (up0 (g ∷ groups) (with_branch line spine) r)
  branch-at last g groups r line (ground p) h fits = absurd fits
  branch-at last (reads true) groups r line spine h fits = cc
  branch-at last (waits true) groups r line spine h fits = cc
  branch-at last (passed true) groups r line spine h fits = cc
  branch-at last (skipped true) groups r line spine h fits = cc
  branch-at last (reads false) groups r line (level body others end outer) h fits =
      name-at r line (passed last ∷ groups) (level body others end outer)
      ∙ ap by_token (passed-first s f line body others (name_then end (up0 groups outer)) r)
  branch-at last (reads false) groups r line (broken_level body others) h fits =
      name-at r line (passed last ∷ groups) (broken_level body others) ∙ ap by_token (passed-first s f line body others (λ a. []) r)
  branch-at last (passed false) groups r line (level body others end outer) h fits =
      name-at r line (passed last ∷ groups) (level body others end outer)
      ∙ ap by_token (passed-first s f line body others (name_then end (up0 groups outer)) r)
  branch-at last (passed false) groups r line (broken_level body others) h fits =
      name-at r line (passed last ∷ groups) (broken_level body others) ∙ ap by_token (passed-first s f line body others (λ a. []) r)
  branch-at last (skipped false) groups r line (level body others end outer) h fits = up-nil (skipped last ∷ groups) (level body others end outer) r
  branch-at last (skipped false) groups r line (broken_level body others) h fits = up-nil (skipped last ∷ groups) (broken_level body others) r
  branch-at last (waits false) groups r line (level body others end outer) h fits =
      let inner = level body others end outer in
      begun-at r line last groups inner
      ∙ ap by_token (branch-first s f line body others (name_then end (up0 groups outer)) r)
  branch-at last (waits false) groups r line (broken_level body others) h fits =
      let inner = broken_level body others in
      begun-at r line last groups inner
      ∙ ap by_token (branch-first s f line body others (λ a. []) r)

  end-at : (g : Open) (groups : List Open) (r : Reading) (line : PlainLine) (spine : Spine) → Same (reads_at_end (at (g ∷ groups) r) line (g ∷ groups) (λ w. up w spine)) (up0 (g ∷ groups) (level finish no_branch line spine) r)
  end-at (reads e) groups r line spine = name-at r line groups spine
  end-at (waits e) groups r line spine = name-at r line groups spine
  end-at (passed e) groups r line spine = name-at r line groups spine
  end-at (skipped e) groups r line spine = up-nil groups spine r

  role-at : (role : Role) (groups : List Open) (next : Nest) (r : Reading) (line : PlainLine) (spine : Spine) → behind_role role (nest_of groups) ≡ Some next → Fits next spine → Same (reads_by_role s f role (at groups r) line (λ w. up w spine)) (up0 groups (with_role role (nest_of groups) line spine) r)
  role-at begins groups next r line spine h fits =
      let e : false ∷ nest_of groups ≡ next = cc in
      group-at groups r line spine (subst (λ (n : Nest). Fits n spine) (sym e) fits)
  role-at begins_branch [] next r line spine h fits = cc
  role-at begins_branch (g ∷ groups) next r line spine h fits =
      let e = behind-branch s false (is_last g) (nest_of groups) next h in
      branch-at false g groups r line spine e.0 (subst (λ (n : Nest). Fits n spine) (sym e.1) fits)
  role-at begins_last [] next r line spine h fits = cc
  role-at begins_last (g ∷ groups) next r line spine h fits =
      let e = behind-branch s true (is_last g) (nest_of groups) next h in
      branch-at true g groups r line spine e.0 (subst (λ (n : Nest). Fits n spine) (sym e.1) fits)
  role-at closes [] next r line spine h fits = cc
  role-at closes (g ∷ groups) next r line spine h fits = end-at g groups r line spine
  role-at stands_alone groups next r line spine h fits = alone-at groups r line spine

  no_text-role : (role : Role) (nest next : Nest) (line : PlainLine) (spine : Spine) → behind_role role nest ≡ Some next → Fits next spine → IsNoText (with_role role nest line spine)
  no_text-role begins nest next line spine h fits =
      let e : false ∷ nest ≡ next = cc in
      no_text-group nest line spine (subst (λ (n : Nest). Fits n spine) (sym e) fits)
  no_text-role begins_branch [] next line spine h fits = cc
  no_text-role begins_branch (e ∷ nest) next line spine h fits =
      no_text-branch false nest line spine (subst (λ (n : Nest). Fits n spine) (sym (behind-branch s false e nest next h).1) fits)
  no_text-role begins_last [] next line spine h fits = cc
  no_text-role begins_last (e ∷ nest) next line spine h fits =
      no_text-branch true nest line spine (subst (λ (n : Nest). Fits n spine) (sym (behind-branch s true e nest next h).1) fits)
  no_text-role closes nest next line spine h fits = (refl, refl)
  no_text-role stands_alone nest next line spine h fits = no_text-front (directive_line line) spine (λ p. refl) (λ p. refl)

  -- what a line reads, and what stands behind it
  pub step-up : (w : Walk) (next : Nest) (line : PlainLine) (spine : Spine) → nests.nest_behind (nest_of w.groups) line ≡ Some next → Fits next spine → Same (reads_of_step s f w line (λ v. up v spine)) (up w (with_line (nest_of w.groups) line spine))
  step-up w next line spine h fits = by_cases line.directive h
    where
      by_cases :
          (b : Bool) → (if b then behind_role (role_of line.tokens) (nest_of w.groups) else Some (nest_of w.groups)) ≡ Some next
          → Same (if b then read_of w.reading w.run ∷ reads_behind (read_run w.reading w.run) (λ a. reads_by_role s f (role_of line.tokens) (at w.groups a) line (λ v. up v spine)) else up (text_read w line) spine)
          (up w (if b then with_role (role_of line.tokens) (nest_of w.groups) line spine else map_front (with_text line) spine))
      by_cases true e =
          let role = role_of line.tokens in
          let x = read_run w.reading w.run in
          let here = λ (a : Reading). reads_by_role s f role (at w.groups a) line (λ v. up v spine) in
          let there = up0 w.groups (with_role role (nest_of w.groups) line spine) in
          same-before (read_of w.reading w.run ∷ []) (reads_behind x here) (reads_behind x there) (same-behind x here there (λ a. role-at role w.groups next a line spine e fits))
          ∙ ap by_token (sym (up-flushed w (with_role role (nest_of w.groups) line spine) (no_text-role role (nest_of w.groups) next line spine e fits)))
      by_cases false e = ap by_token (up-text w line spine)
