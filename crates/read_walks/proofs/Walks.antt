-- What the part of a file reads is read by the walk over its lines.
use Rattle.std.proofs.Common.{◌≡◌, Bool, true, false, List, [], ◌∷◌, ◌++◌, Option, Some, None, refl, ap, sym, ◌∙◌, subst, append-nil}
use Rattle.std.specs.Prelude.{if◌then◌else◌}
use Rattle.c_text.specs.Token.{PlainToken}
use Rattle.c_text.specs.Lines.{PlainLine}
use Rattle.c_text.specs.Trees.{Part, finish, breaks, Role, begins, begins_branch, begins_last, closes, stands_alone, role_of, lines_in, IsFormed, IsMisplaced, IsRead, whole_file, open_at_end, broken_at}
use Rattle.c_text.specs.Preprocessing.{Reading, Setting, read_run, read_part}
use Rattle.active_tokens.specs.Reads.{Read, read_of, reads_behind, Following, reads_of_part}
use Rattle.active_tokens.specs.Active as active
use Rattle.file_walks.specs.Walk.{Walk, Open, reads, waits, passed, skipped, are_read, text_read, step, start}
use Rattle.file_walks.specs.Nests as nests
use Rattle.file_walks.specs.Nests.{Nest, nest_of, behind_role, behind_branch, by_place, misplaced_in}
use Rattle.file_walks.proofs.Spines.{Spine, ground, broken_front}
use Rattle.file_walks.proofs.Forms.{by_next, spine_of, spine-fits, is_whole}
use Rattle.file_walks.proofs.Complete.{spine-step, place-step, whole-places, broken-places, end_nest}
use Rattle.file_walks.proofs.Sound.{Formed, spine-formed, lines_of, spine-lines, before-all}
use Rattle.file_walks.proofs.Parts.{part_of, part-spine, file-is}
use Rattle.read_walks.specs.WalkReads.{by_token, reads_at_branch, reads_by_role, reads_of_step, reads_of_walk}
use Rattle.read_walks.specs.Laws.{Leads, goes_on, stops, ReadsAreWalked}
use Rattle.read_walks.proofs.Behind.{Same, same-before, same-behind, behind-nothing, run_then}
use Rattle.read_walks.proofs.SpineReads.{no_text-broken, up, up0, up-nil, up-flushed, at, broken-read, broken-skipped, step-up}
use Rattle.read_walks.proofs.Leading.{lines-lead-on}

-- ---- the line at which a file breaks

abbrev pub tokens_at : Option PlainLine → List PlainToken
tokens_at None = []
tokens_at (Some line) = line.tokens

-- behind a part that breaks at a misplaced line the line fits no group
misplaced-behind : (part : Part) (line : PlainLine) → IsFormed false part → IsMisplaced (lines_in part) line → nests.nest_behind (end_nest [] part) line ≡ None
misplaced-behind part line formed misplaced = by_cases (nests.nest_behind (end_nest [] part) line) refl
  where
    by_cases : (o : Option Nest) → nests.nest_behind (end_nest [] part) line ≡ o → o ≡ None
    by_cases None h = refl
    by_cases (Some next) h =
        let lines = lines_in part ++ line ∷ [] in
        let places : misplaced_in [] lines ≡ None =
        broken-places part formed [] (line ∷ []) ∙ ap (λ (o : Option Nest). by_place o line (λ n. misplaced_in n [])) h
        in
        let is_formed : IsFormed (is_whole [] lines) (part_of lines) =
        subst (λ (sp : Spine). Formed (is_whole [] lines) [] sp) (sym (part-spine lines)) (spine-formed [] lines)
        in
        let are : lines_in (part_of lines) ≡ lines =
        ap (λ (sp : Spine). lines_of sp) (part-spine lines) ∙ spine-lines [] lines ∙ before-all [] lines places
        in
        absurd (misplaced.no_part (is_whole [] lines) (part_of lines) is_formed are)

pub misplaced-is : (lines : List PlainLine) (part : Part) (is : IsRead lines part) → active.misplaced_in is ≡ tokens_at (misplaced_in [] lines)
misplaced-is lines part (whole_file formed are) =
    sym (ap (λ ls. tokens_at (misplaced_in [] ls)) (sym are ∙ sym (append-nil (lines_in part))) ∙ ap tokens_at (whole-places part formed [] []))
misplaced-is lines part (open_at_end formed open' are) =
    sym (ap (λ ls. tokens_at (misplaced_in [] ls)) (sym are ∙ sym (append-nil (lines_in part))) ∙ ap tokens_at (broken-places part formed [] []))
misplaced-is lines part (broken_at line rest formed are misplaced) =
    let reads_behind' = misplaced-behind part line formed misplaced in
    sym
    (ap (λ ls. tokens_at (misplaced_in [] ls)) are ∙ ap tokens_at (broken-places part formed [] (line ∷ rest))
    ∙ ap (λ (o : Option Nest). tokens_at (by_place o line (λ n. misplaced_in n rest))) reads_behind')

module _ (s : Setting) (f : Following) where
  -- ---- where a walk doesn't go on

  -- a line with these tokens at which the file breaks
  abbrev breaking : List Open → List PlainToken → Reading → List Read
  breaking groups tokens r = if are_read groups then read_of r tokens ∷ [] else []

  up-broken : (w : Walk) → up s f w (broken_front (nest_of w.groups) breaks) ≡ run_then w.run (breaking w.groups f.misplaced) w.reading
  up-broken w =
      let there = broken_front (nest_of w.groups) breaks in
      up-flushed s f w there (no_text-broken (nest_of w.groups) breaks refl refl)
      ∙ ap (λ (k : Reading → List Read). run_then w.run k w.reading) (by_cases (are_read w.groups) refl)
    where
      by_cases : (b : Bool) → are_read w.groups ≡ b → up0 s f w.groups (broken_front (nest_of w.groups) breaks) ≡ breaking w.groups f.misplaced
      by_cases true e = broken-read s f w.groups breaks e ∙ ap {B = Reading → List Read} (λ (b : Bool) (r : Reading). if b then read_of r f.misplaced ∷ [] else []) (sym e)
      by_cases false e = broken-skipped s f w.groups breaks e ∙ ap {B = Reading → List Read} (λ (b : Bool) (r : Reading). if b then read_of r f.misplaced ∷ [] else []) (sym e)

  branch-broken : (last : Bool) (groups : List Open) (r : Reading) (line : PlainLine) (next : Walk → List Read) → behind_branch last (nest_of groups) ≡ None → reads_at_branch s f (at groups r) line last groups next ≡ breaking groups line.tokens r
  branch-broken last [] r line next h = refl
  branch-broken last (reads true ∷ groups) r line next h = refl
  branch-broken last (waits true ∷ groups) r line next h = refl
  branch-broken last (passed true ∷ groups) r line next h = refl
  branch-broken last (skipped true ∷ groups) r line next h = refl
  branch-broken last (reads false ∷ groups) r line next h = cc
  branch-broken last (waits false ∷ groups) r line next h = cc
  branch-broken last (passed false ∷ groups) r line next h = cc
  branch-broken last (skipped false ∷ groups) r line next h = cc

  role-broken : (role : Role) (groups : List Open) (r : Reading) (line : PlainLine) (next : Walk → List Read) → behind_role role (nest_of groups) ≡ None → reads_by_role s f role (at groups r) line next ≡ breaking groups line.tokens r
  role-broken begins groups r line next h = cc
  role-broken begins_branch groups r line next h = branch-broken false groups r line next h
  role-broken begins_last groups r line next h = branch-broken true groups r line next h
  role-broken closes [] r line next h = refl
  role-broken closes (g ∷ groups) r line next h = cc
  role-broken stands_alone groups r line next h = cc

  step-broken : (w : Walk) (line : PlainLine) (next : Walk → List Read) → nests.nest_behind (nest_of w.groups) line ≡ None → f.misplaced ≡ line.tokens → Same (reads_of_step s f w line next) (up s f w (broken_front (nest_of w.groups) breaks))
  step-broken w line next h m = by_cases line.directive h ∙ ap by_token (sym (up-broken w))
    where
      by_cases :
          (b : Bool) → (if b then behind_role (role_of line.tokens) (nest_of w.groups) else Some (nest_of w.groups)) ≡ None
          → Same (if b then run_then w.run (λ a. reads_by_role s f (role_of line.tokens) (at w.groups a) line next) w.reading else next (text_read w line))
          (run_then w.run (breaking w.groups f.misplaced) w.reading)
      by_cases true e =
          let x = read_run w.reading w.run in
          let here = λ (a : Reading). reads_by_role s f (role_of line.tokens) (at w.groups a) line next in
          let there = breaking w.groups f.misplaced in
          same-before (read_of w.reading w.run ∷ []) (reads_behind x here) (reads_behind x there) (same-behind x here there (λ a. ap by_token (role-broken (role_of line.tokens) w.groups a line next e ∙ ap (λ ts. breaking w.groups ts a) (sym m))))
      by_cases false e = cc

  -- ---- the walk

  walk-ends : (w : Walk) → f.misplaced ≡ [] → Same (reads_of_walk s f w []) (up s f w (spine_of (nest_of w.groups) []))
  walk-ends w m = by_cases w.groups
    where
      nothing : (b : Bool) (r : Reading) → Same [] (if b then read_of r f.misplaced ∷ [] else [])
      nothing true r = ap (λ ts. by_token (read_of r ts ∷ [])) (sym m)
      nothing false r = refl

      by_cases : (groups : List Open) → Same (run_then w.run (λ a. []) w.reading) (up s f (record w { groups = groups }) (spine_of (nest_of groups) []))
      by_cases [] = ap by_token (sym (up-flushed s f (record w { groups = [] }) (ground finish) (refl, refl)))
      by_cases (g ∷ groups) =
          let x = read_run w.reading w.run in
          let there = breaking (g ∷ groups) f.misplaced in
          same-before (read_of w.reading w.run ∷ []) (reads_behind x (λ a. [])) (reads_behind x there) (same-behind x (λ a. []) there (nothing (are_read (g ∷ groups))))
          ∙ ap by_token (sym (up-broken (record w { groups = g ∷ groups })))

  -- what follows a line counts only where these groups are open
  step-agrees : (w : Walk) (line : PlainLine) (lines : List PlainLine) (next : Nest) → nests.nest_behind (nest_of w.groups) line ≡ Some next → f.misplaced ≡ tokens_at (misplaced_in next lines) → ((v : Walk) → f.misplaced ≡ tokens_at (misplaced_in (nest_of v.groups) lines) → Same (reads_of_walk s f v lines) (up s f v (spine_of (nest_of v.groups) lines))) → Same (reads_of_step s f w line (λ v. reads_of_walk s f v lines)) (reads_of_step s f w line (λ v. up s f v (spine_of next lines)))
  step-agrees w line lines next h m others = by_cases (lines-lead-on s f w line)
    where
      by_cases :
          Leads (λ v. nests.nest_behind (nest_of w.groups) line ≡ Some (nest_of v.groups)) (step s w line) (reads_of_step s f w line)
          → Same (reads_of_step s f w line (λ v. reads_of_walk s f v lines)) (reads_of_step s f w line (λ v. up s f v (spine_of next lines)))
      by_cases (goes_on after nest k what) =
          let e : nest_of after.groups ≡ next = cc in
          let first = reads_of_step s f w line (λ v. []) in
          let here = reads_of_walk s f after lines in
          let there = up s f after (spine_of next lines) in
          let same : Same here there =
          others after (m ∙ ap (λ (n : Nest). tokens_at (misplaced_in n lines)) (sym e)) ∙ ap (λ (n : Nest). by_token (up s f after (spine_of n lines))) e
          in
          ap by_token (what (λ v. reads_of_walk s f v lines)) ∙ same-before first here there same
          ∙ ap by_token (sym (what (λ v. up s f v (spine_of next lines))))
      by_cases (stops why k what) = ap by_token (what (λ v. reads_of_walk s f v lines) ∙ sym (what (λ v. up s f v (spine_of next lines))))

  walked-up : (lines : List PlainLine) (w : Walk) → f.misplaced ≡ tokens_at (misplaced_in (nest_of w.groups) lines) → Same (reads_of_walk s f w lines) (up s f w (spine_of (nest_of w.groups) lines))
  walked-up [] w m = walk-ends w m
  walked-up (line ∷ lines) w m = by_place_of (nests.nest_behind (nest_of w.groups) line) refl (λ v. walked-up lines v)
    where
      by_place_of :
          (o : Option Nest) → nests.nest_behind (nest_of w.groups) line ≡ o
          → ((v : Walk) → f.misplaced ≡ tokens_at (misplaced_in (nest_of v.groups) lines) → Same (reads_of_walk s f v lines) (up s f v (spine_of (nest_of v.groups) lines)))
          → Same (reads_of_step s f w line (λ v. reads_of_walk s f v lines)) (up s f w (by_next (nests.nest_behind (nest_of w.groups) line) (nest_of w.groups) line (λ n. spine_of n lines)))
      by_place_of None h others =
          step-broken w line (λ v. reads_of_walk s f v lines) h (m ∙ ap (λ (o : Option Nest). tokens_at (by_place o line (λ n. misplaced_in n lines))) h)
          ∙ sym (ap (λ (o : Option Nest). by_token (up s f w (by_next o (nest_of w.groups) line (λ n. spine_of n lines)))) h)
      by_place_of (Some next) h others =
          step-agrees w line lines next h (m ∙ ap tokens_at (place-step (nest_of w.groups) next line lines h)) others ∙ step-up s f w next line (spine_of next lines) h (spine-fits next lines)
          ∙ sym (ap (λ (sp : Spine). by_token (up s f w sp)) (spine-step (nest_of w.groups) next line lines h))

pub reads-are_walked : ReadsAreWalked
reads-are_walked s f file length lines part r is m =
    let its = file-is file length lines part s.broken is in
    let all = reads_of_part s f r part in
    walked-up s f lines (start r) (m ∙ misplaced-is lines part is.is_read)
    ∙ ap (λ (sp : Spine). by_token (up s f (start r) sp)) its.spine ∙ up-nil s f [] (ground part) r
    ∙ ap (λ l. by_token (all ++ l)) (behind-nothing (read_part s r part)) ∙ ap by_token (append-nil all)
