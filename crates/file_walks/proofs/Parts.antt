-- The part of lines.
use Rattle.std.proofs.Common.{◌≡◌, ◌≢◌, ℕ, Bool, true, false, List, [], ◌∷◌, ◌++◌, Option, Some, None, refl, ap, sym, ◌∙◌, subst, append-nil}
use Rattle.c_text.specs.Lines.{PlainLine}
use Rattle.c_text.specs.Trees.{Part, finish, breaks, text_lines, directive_line, group, broken_group, Branches, no_branch, branch, lines_in, IsFormed, ends_open, IsMisplaced, IsRead, whole_file, open_at_end, broken_at}
use Rattle.c_text.specs.Preprocessing.{Refusal, IsFile, span_of_break, unbalanced}
use Rattle.file_walks.specs.Nests.{Nest, nest_behind, by_place, misplaced_in, break_of}
use Rattle.file_walks.proofs.Spines.{Spine, ground, level, broken_level, front_of, broken_front, Fits}
use Rattle.file_walks.proofs.Forms.{by_next, spine_of, lines_before, is_whole, spine-fits}
use Rattle.file_walks.proofs.Complete.{whole-part, followed-finish, whole-places, broken-part, broken-places, end_nest, end_branches}
use Rattle.file_walks.proofs.Sound.{Formed, spine-formed, lines_of, spine-lines, ends_of, spine-ends, before-all, before-split}

-- a formed part has no misplaced line
formed-places : (w : Bool) (part : Part) → IsFormed w part → misplaced_in [] (lines_in part) ≡ None
formed-places true part formed = ap (λ ls. misplaced_in [] ls) (sym (append-nil (lines_in part))) ∙ whole-places part formed [] []
formed-places false part formed = ap (λ ls. misplaced_in [] ls) (sym (append-nil (lines_in part))) ∙ broken-places part formed [] []

-- the spine where no group is open is a part
ground-is : (spine : Spine) → Fits [] spine → ground (front_of spine) ≡ spine
ground-is (ground part) fits = refl
ground-is (level body others last outer) fits = absurd fits
ground-is (broken_level body others) fits = absurd fits

abbrev pub part_of : List PlainLine → Part
part_of lines = front_of (spine_of [] lines)

pub part-spine : (lines : List PlainLine) → ground (part_of lines) ≡ spine_of [] lines
part-spine lines = ground-is (spine_of [] lines) (spine-fits [] lines)

part-formed : (lines : List PlainLine) → IsFormed (is_whole [] lines) (part_of lines)
part-formed lines = subst (λ (sp : Spine). Formed (is_whole [] lines) [] sp) (sym (part-spine lines)) (spine-formed [] lines)

part-lines : (lines : List PlainLine) → lines_in (part_of lines) ≡ lines_before [] lines
part-lines lines = ap (λ (sp : Spine). lines_of sp) (part-spine lines) ∙ spine-lines [] lines

misplaced-is : (before : List PlainLine) (line : PlainLine) → misplaced_in [] (before ++ line ∷ []) ≡ Some line → IsMisplaced before line
misplaced-is before line h = record {
  no_part = λ w part formed are.
      let e : Some line ≡ None = sym h ∙ ap (λ ls. misplaced_in [] ls) (sym are) ∙ formed-places w part formed in
      cc;
}

-- each list of lines is read as a part
pub lines-are_read : (lines : List PlainLine) → IsRead lines (part_of lines)
lines-are_read lines = by_place_of (misplaced_in [] lines) refl
  where
    by_whole_of : (w : Bool) → is_whole [] lines ≡ w → misplaced_in [] lines ≡ None → IsRead lines (part_of lines)
    by_whole_of true e h =
        whole_file (subst (λ (w : Bool). IsFormed w (part_of lines)) e (part-formed lines)) (part-lines lines ∙ before-all [] lines h)
    by_whole_of false e h =
        open_at_end (subst (λ (w : Bool). IsFormed w (part_of lines)) e (part-formed lines)) (ap (λ (sp : Spine). ends_of sp) (part-spine lines) ∙ spine-ends [] lines h e) (part-lines lines ∙ before-all [] lines h)

    by_place_of : (o : Option PlainLine) → misplaced_in [] lines ≡ o → IsRead lines (part_of lines)
    by_place_of None h = by_whole_of (is_whole [] lines) refl h
    by_place_of (Some line) h =
        let b = before-split [] lines line h in
        broken_at line b.rest (subst (λ (w : Bool). IsFormed w (part_of lines)) b.not_whole (part-formed lines)) (b.lines_are ∙ ap (λ ls. ls ++ line ∷ b.rest) (sym (part-lines lines))) (misplaced-is (lines_in (part_of lines)) line (ap (λ ls. misplaced_in [] (ls ++ line ∷ [])) (part-lines lines) ∙ b.still))

-- ---- and as no other

-- groups that are open stay open
mutual
  not-nil : (part : Part) (e : Bool) (nest : Nest) → end_nest (e ∷ nest) part ≢ []
  not-nil finish e nest h = cc
  not-nil breaks e nest h = cc
  not-nil (text_lines lines rest) e nest h = not-nil rest e nest h
  not-nil (directive_line line rest) e nest h = not-nil rest e nest h
  not-nil (group first body others last rest) e nest h = not-nil rest e nest h
  not-nil (broken_group first body no_branch) e nest h = not-nil body false (e ∷ nest) h
  not-nil (broken_group first body (branch line inside others)) e nest h = not-nil_branches (branch line inside others) (e ∷ nest) h

  not-nil_branches : (others : Branches) (nest : Nest) → end_branches nest others ≢ []
  not-nil_branches no_branch nest h = cc
  not-nil_branches (branch line body no_branch) nest h = not-nil body _ nest h
  not-nil_branches (branch line body (branch second inside others)) nest h = not-nil_branches (branch second inside others) nest h

open-not-nil : (part : Part) → ends_open part ≡ true → end_nest [] part ≢ []
open-not-nil finish open' h = cc
open-not-nil breaks open' h = cc
open-not-nil (text_lines lines rest) open' h = open-not-nil rest open' h
open-not-nil (directive_line line rest) open' h = open-not-nil rest open' h
open-not-nil (group first body others last rest) open' h = open-not-nil rest open' h
open-not-nil (broken_group first body no_branch) open' h = not-nil body false [] h
open-not-nil (broken_group first body (branch line inside others)) open' h = not-nil_branches (branch line inside others) [] h

stops-at_end : (nest : Nest) → nest ≢ [] → spine_of nest [] ≡ broken_front nest breaks
stops-at_end [] h = absurd (h refl)
stops-at_end (e ∷ nest) h = refl

stops-at : (nest : Nest) (line : PlainLine) (rest : List PlainLine) → nest_behind nest line ≡ None → spine_of nest (line ∷ rest) ≡ broken_front nest breaks
stops-at nest line rest h = ap (λ (o : Option Nest). by_next o nest line (λ n. spine_of n rest)) h

-- behind a part that breaks at a misplaced line the line fits no group
misplaced-behind : (part : Part) (line : PlainLine) → IsFormed false part → IsMisplaced (lines_in part) line → nest_behind (end_nest [] part) line ≡ None
misplaced-behind part line formed misplaced = by_cases (nest_behind (end_nest [] part) line) refl
  where
    by_cases : (o : Option Nest) → nest_behind (end_nest [] part) line ≡ o → o ≡ None
    by_cases None h = refl
    by_cases (Some next) h =
        let lines = lines_in part ++ line ∷ [] in
        let places : misplaced_in [] lines ≡ None =
        broken-places part formed [] (line ∷ []) ∙ ap (λ (o : Option Nest). by_place o line (λ n. misplaced_in n [])) h
        in
        absurd (misplaced.no_part (is_whole [] lines) (part_of lines) (part-formed lines) (part-lines lines ∙ before-all [] lines places))

pub record IsItsPart (file length : ℕ) (lines : List PlainLine) (part : Part) (broken : Refusal) : Type 0 where
  pub spine : spine_of [] lines ≡ ground part
  pub break_is : broken ≡ break_of file length (misplaced_in [] lines)

pub file-is : (file length : ℕ) (lines : List PlainLine) (part : Part) (broken : Refusal) → IsFile file length lines part broken → IsItsPart file length lines part broken
file-is file length lines part broken is = by_cases is.is_read is.broken_is
  where
    by_cases :
        (r : IsRead lines part)
        → broken ≡ (let w : Refusal = record { kind = unbalanced; file = file; span = span_of_break length r } in w)
        → IsItsPart file length lines part broken
    by_cases (whole_file formed are) e = record {
      spine =
          ap (λ ls. spine_of [] ls) (sym are ∙ sym (append-nil (lines_in part)))
          ∙ whole-part part formed [] [] ∙ ap ground (followed-finish part formed);
      break_is = e ∙ ap (break_of file length) (sym (ap (λ ls. misplaced_in [] ls) (sym are) ∙ formed-places true part formed));
    }
    by_cases (open_at_end formed open' are) e = record {
      spine =
          ap (λ ls. spine_of [] ls) (sym are ∙ sym (append-nil (lines_in part)))
          ∙ broken-part part formed [] [] (stops-at_end (end_nest [] part) (open-not-nil part open'));
      break_is = e ∙ ap (break_of file length) (sym (ap (λ ls. misplaced_in [] ls) (sym are) ∙ formed-places false part formed));
    }
    by_cases (broken_at line rest formed are misplaced) e =
        let nest_behind' = misplaced-behind part line formed misplaced in
        record {
          spine = ap (λ ls. spine_of [] ls) are ∙ broken-part part formed [] (line ∷ rest) (stops-at (end_nest [] part) line rest nest_behind');
          break_is =
              e
              ∙ ap (break_of file length) (sym (ap (λ ls. misplaced_in [] ls) are ∙ broken-places part formed [] (line ∷ rest) ∙ ap (λ (o : Option Nest). by_place o line (λ n. misplaced_in n rest)) nest_behind'));
        }
