-- What is read behind flows, token by token.
use Rattle.std.proofs.Common.{◌≡◌, true, false, List, [], ◌∷◌, ◌++◌, drop, Option, Some, None, refl, ap, sym, ◌∙◌}
use Rattle.std.proofs.lemmas.List.{append_assoc}
use Rattle.std.proofs.lemmas.Grind.{flat_map-append}
use Rattle.c_text.specs.Token.{PlainToken}
use Rattle.c_text.specs.Lines.{PlainLine}
use Rattle.c_text.specs.Trees.{Part, finish, breaks, text_lines, directive_line, group, broken_group, Branches, branch}
use Rattle.c_text.specs.Preprocessing.{Refusal, Reading, Flow, Setting, on, refused, then_read, unless, Condition, holds, fails, condition_at, by_condition, read_run, read_directive, tokens_of_lines, refused_ignored, skip, branched, read_part, read_branches}
use Rattle.active_tokens.specs.Reads.{Read, read_of, reads_behind, unless_refused, Following, reads_of_directive, reads_of_passed, by_truth, reads_of_branch, reads_of_part, reads_of_branches}
use Rattle.file_walks.proofs.Flows.{run_nil}
use Rattle.file_walks.proofs.Spines.{leading, behind_text}
use Rattle.read_walks.specs.WalkReads.{one_by_one, by_token}

-- ---- the same token by token

abbrev pub Same : List Read → List Read → Type 0
Same first second = by_token first ≡ by_token second

pub same-before : (all first second : List Read) → Same first second → Same (all ++ first) (all ++ second)
same-before all first second h =
    flat_map-append one_by_one all first ∙ ap (λ l. by_token all ++ l) h ∙ sym (flat_map-append one_by_one all second)

pub same-behind : (x : Flow) (f g : Reading → List Read) → ((r : Reading) → Same (f r) (g r)) → Same (reads_behind x f) (reads_behind x g)
same-behind (on r) f g h = h r
same-behind (refused why) f g h = refl

pub same-unless : (found : Option Refusal) (first second : List Read) → Same first second → Same (unless_refused found first) (unless_refused found second)
same-unless None first second h = h
same-unless (Some why) first second h = refl

-- ---- one flow behind another

pub behind-nothing : (x : Flow) → reads_behind x (λ a. []) ≡ []
behind-nothing (on r) = refl
behind-nothing (refused why) = refl

refused-nothing : (x : Flow) (why : Refusal) (k : Reading → List Read) → reads_behind (then_read x (λ a. refused why)) k ≡ reads_behind x (λ a. [])
refused-nothing (on r) why k = refl
refused-nothing (refused other) why k = refl

behind-join : (x : Flow) (p : Reading → List Read) (q : Reading → Flow) (k : Reading → List Read) → reads_behind x (λ a. p a ++ reads_behind (q a) k) ≡ reads_behind x p ++ reads_behind (then_read x q) k
behind-join (on r) p q k = refl
behind-join (refused why) p q k = refl

unless-join : (found : Option Refusal) (first : List Read) (x : Flow) (k : Reading → List Read) → unless_refused found (first ++ reads_behind x k) ≡ unless_refused found first ++ reads_behind (unless found x) k
unless-join None first x k = refl
unless-join (Some why) first x k = refl

-- the line of a branch or the end of a group of which only the name counts, and what follows
abbrev pub name_then : PlainLine → (Reading → List Read) → Reading → List Read
name_then line k r = read_of r line.tokens ∷ unless_refused (refused_ignored (drop 2 line.tokens)) (k r)

-- a run of text, and what follows
abbrev pub run_then : List PlainToken → (Reading → List Read) → Reading → List Read
run_then tokens k r = read_of r tokens ∷ reads_behind (read_run r tokens) k

pub run-none : (k : Reading → List Read) (r : Reading) → Same (run_then [] k r) (k r)
run-none k r = ap (λ (x : Flow). by_token (reads_behind x k)) (run_nil r)

module _ (s : Setting) (f : Following) where
  pub same-truth : (c : Condition) (x x' y y' : List Read) → Same x x' → Same y y' → Same (by_truth s f c x y) (by_truth s f c x' y')
  same-truth (holds true) x x' y y' h k = h
  same-truth (holds false) x x' y y' h k = k
  same-truth (fails why) x x' y y' h k = refl

  -- a part, branches or passed branches, and what follows
  abbrev pub part_then : Part → (Reading → List Read) → Reading → List Read
  part_then part k r = reads_of_part s f r part ++ reads_behind (read_part s r part) k

  abbrev pub branches_then : Branches → (Reading → List Read) → Reading → List Read
  branches_then others k r = reads_of_branches s f r others ++ reads_behind (read_branches s r others) k

  abbrev pub passed_then : Branches → (Reading → List Read) → Reading → List Read
  passed_then others k r = reads_of_passed s f r others ++ reads_behind (skip s r others) k

  branches-join : (c : Condition) (a b : List Read) (x y : Flow) (p : Reading → List Read) (q : Reading → Flow) (k : Reading → List Read) → by_truth s f c (a ++ reads_behind x (λ r. p r ++ reads_behind (q r) k)) (b ++ reads_behind y k) ≡ by_truth s f c (a ++ reads_behind x p) b ++ reads_behind (by_condition s c (then_read x q) y) k
  branches-join (holds true) a b x y p q k =
      ap (λ l. a ++ l) (behind-join x p q k) ∙ sym (append_assoc a (reads_behind x p) (reads_behind (then_read x q) k))
  branches-join (holds false) a b x y p q k = refl
  branches-join (fails why) a b x y p q k = refl

  -- a branch by its line, and what follows its group
  abbrev pub choice_then : PlainLine → Part → Branches → (Reading → List Read) → Reading → List Read
  choice_then line body others k r =
      read_of r line.tokens
      ∷ by_truth s f (condition_at s.value_of r.table line.tokens) (part_then body (passed_then others k) r) (branches_then others k r)

  pub branch-first : (line : PlainLine) (body : Part) (others : Branches) (k : Reading → List Read) (r : Reading) → choice_then line body others k r ≡ branches_then (branch line body others) k r
  branch-first line body others k r =
      ap (λ l. read_of r line.tokens ∷ l) (branches-join (condition_at s.value_of r.table line.tokens) (reads_of_part s f r body) (reads_of_branches s f r others) (read_part s r body) (read_branches s r others) (λ a. reads_of_passed s f a others) (λ a. skip s a others) k)

  pub passed-first : (line : PlainLine) (body : Part) (others : Branches) (k : Reading → List Read) (r : Reading) → name_then line (passed_then others k) r ≡ passed_then (branch line body others) k r
  passed-first line body others k r =
      ap (λ l. read_of r line.tokens ∷ l) (unless-join (refused_ignored (drop 2 line.tokens)) (reads_of_passed s f r others) (skip s r others) k)

  pub directive-first : (line : PlainLine) (rest : Part) (k : Reading → List Read) (r : Reading) → reads_of_directive s f r line.tokens ++ reads_behind (read_directive s r line.tokens) (part_then rest k) ≡ part_then (directive_line line rest) k r
  directive-first line rest k r =
      let x = read_directive s r line.tokens in
      ap (λ l. reads_of_directive s f r line.tokens ++ l) (behind-join x (λ a. reads_of_part s f a rest) (λ a. read_part s a rest) k)
      ∙ sym (append_assoc (reads_of_directive s f r line.tokens) (reads_behind x (λ a. reads_of_part s f a rest)) (reads_behind (then_read x (λ a. read_part s a rest)) k))

  end-join : (last : PlainLine) (x : Flow) (p : Reading → List Read) (q : Reading → Flow) (k : Reading → List Read) → reads_behind x (name_then last (λ a. p a ++ reads_behind (q a) k)) ≡ reads_behind x (name_then last p) ++ reads_behind (then_read x (λ a. unless (refused_ignored (drop 2 last.tokens)) (q a))) k
  end-join last (on r) p q k =
      ap (λ l. read_of r last.tokens ∷ l) (unless-join (refused_ignored (drop 2 last.tokens)) (p r) (q r) k)
  end-join last (refused why) p q k = refl

  pub group-first : (line : PlainLine) (body : Part) (others : Branches) (last : PlainLine) (rest : Part) (k : Reading → List Read) (r : Reading) → choice_then line body others (name_then last (part_then rest k)) r ≡ part_then (group line body others last rest) k r
  group-first line body others last rest k r =
      let first = reads_of_branch s f r line body others (reads_of_part s f r body) (reads_of_branches s f r others) in
      let x = branched s r line (read_part s r body) others (read_branches s r others) in
      let found = refused_ignored (drop 2 last.tokens) in
      branch-first line body others (name_then last (part_then rest k)) r
      ∙ ap (λ l. first ++ l) (end-join last x (λ a. reads_of_part s f a rest) (λ a. read_part s a rest) k)
      ∙ sym (append_assoc first (reads_behind x (name_then last (λ a. reads_of_part s f a rest))) (reads_behind (then_read x (λ a. unless found (read_part s a rest))) k))

  pub broken-first : (line : PlainLine) (body : Part) (others : Branches) (k : Reading → List Read) (r : Reading) → choice_then line body others (λ a. []) r ≡ part_then (broken_group line body others) k r
  broken-first line body others k r =
      let x = branched s r line (read_part s r body) others (read_branches s r others) in
      branch-first line body others (λ a. []) r
      ∙ ap (λ l. reads_of_branch s f r line body others (reads_of_part s f r body) (reads_of_branches s f r others) ++ l) (sym (refused-nothing x s.broken k))

  pub text-first : (part : Part) (k : Reading → List Read) (r : Reading) → Same (run_then (leading part) (part_then (behind_text part) k) r) (part_then part k r)
  text-first finish k r = run-none (part_then finish k) r
  text-first breaks k r = run-none (part_then breaks k) r
  text-first (text_lines lines rest) k r =
      let tokens = tokens_of_lines lines in
      ap (λ l. by_token (read_of r tokens ∷ l)) (behind-join (read_run r tokens) (λ a. reads_of_part s f a rest) (λ a. read_part s a rest) k)
  text-first (directive_line line rest) k r = run-none (part_then (directive_line line rest) k) r
  text-first (group first body others last rest) k r = run-none (part_then (group first body others last rest) k) r
  text-first (broken_group first body others) k r = run-none (part_then (broken_group first body others) k) r
