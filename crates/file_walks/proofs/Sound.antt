-- The spine of lines is formed, and has these lines.
use Rattle.std.proofs.Common.{◌≡◌, Bool, true, false, List, [], ◌∷◌, ◌++◌, Option, Some, None, refl, ap, sym, ◌∙◌, subst, append-nil, inl, inr}
use Rattle.std.specs.Prelude.{if◌then◌else◌}
use Rattle.std.proofs.lemmas.List.{append_assoc}
use Rattle.std.proofs.lemmas.List.Elements.{All-cons, All-nil}
use Rattle.c_text.specs.Lines.{PlainLine}
use Rattle.c_text.specs.Trees.{Part, finish, breaks, text_lines, directive_line, group, broken_group, no_branch, branch, Role, begins, begins_branch, begins_last, closes, stands_alone, role_of, lines_in, lines_of_branches, IsFormed, AreFormed, HasRole, IsText, are_some, ends_open}
use Rattle.file_walks.specs.Nests.{Nest, nest_behind, behind_role, by_place, misplaced_in}
use Rattle.file_walks.proofs.Spines.{Spine, ground, level, broken_level, map_front, broken_front, with_text, with_group, with_branch, with_role, with_line, Fits}
use Rattle.file_walks.proofs.Forms.{by_next, spine_of, by_before, lines_before, by_whole, is_whole, spine-fits}
use Rattle.file_walks.proofs.Complete.{IsFree}

abbrev pub Formed : Bool → Nest → Spine → Type 0
Formed whole [] (ground part) = IsFormed whole part
Formed whole [] (level body others last outer) = ⊥
Formed whole [] (broken_level body others) = ⊥
Formed whole (e ∷ nest) (ground part) = ⊥
Formed whole (e ∷ nest) (level body others last outer) =
    IsFormed true body × AreFormed true others × IsFree e others × HasRole closes last × Formed whole nest outer
Formed whole (e ∷ nest) (broken_level body others) =
    (whole ≡ false) × IsFormed (are_some others) body × AreFormed false others × IsFree e others

free-none : (e : Bool) → IsFree e no_branch
free-none true = tt
free-none false = tt

map_front-formed : (f : Part → Part) → ((w : Bool) (p : Part) → IsFormed w p → IsFormed w (f p)) → (whole : Bool) (nest : Nest) (spine : Spine) → Formed whole nest spine → Formed whole nest (map_front f spine)
map_front-formed f k whole [] (ground part) h = k whole part h
map_front-formed f k whole [] (level body others last outer) h = absurd h
map_front-formed f k whole [] (broken_level body others) h = absurd h
map_front-formed f k whole (e ∷ nest) (ground part) h = absurd h
map_front-formed f k whole (e ∷ nest) (level body others last outer) h = (k true body h.0, h.1, h.2, h.3, h.4)
map_front-formed f k whole (e ∷ nest) (broken_level body others) h = (h.0, k (are_some others) body h.1, h.2, h.3)

text-formed : (line : PlainLine) → IsText line → (w : Bool) (p : Part) → IsFormed w p → IsFormed w (with_text line p)
text-formed line text w finish h = ((λ e. cc), All-cons IsText line [] text (All-nil IsText), tt, h)
text-formed line text w breaks h = ((λ e. cc), All-cons IsText line [] text (All-nil IsText), tt, h)
text-formed line text w (text_lines lines rest) h = ((λ e. cc), All-cons IsText line lines text h.1, h.2, h.3)
text-formed line text w (directive_line first rest) h = ((λ e. cc), All-cons IsText line [] text (All-nil IsText), tt, h)
text-formed line text w (group first body others last rest) h = ((λ e. cc), All-cons IsText line [] text (All-nil IsText), tt, h)
text-formed line text w (broken_group first body others) h = ((λ e. cc), All-cons IsText line [] text (All-nil IsText), tt, h)

group-formed : (whole : Bool) (nest : Nest) (line : PlainLine) (spine : Spine) → HasRole begins line → Formed whole (false ∷ nest) spine → Formed whole nest (with_group nest line spine)
group-formed whole nest line (ground part) role h = absurd h
group-formed whole nest line (level body others last outer) role h =
    map_front-formed (group line body others last) (λ w p f. (role, h.0, h.1, h.3, f)) whole nest outer h.4
group-formed whole [] line (broken_level body others) role h = (h.0, role, h.1, h.2)
group-formed whole (e ∷ nest) line (broken_level body others) role h = (h.0, (refl, role, h.1, h.2), tt, free-none e)

branch-formed : (whole : Bool) (nest : Nest) (line : PlainLine) (spine : Spine) → HasRole begins_branch line → Formed whole (false ∷ nest) spine → Formed whole (false ∷ nest) (with_branch line spine)
branch-formed whole nest line (ground part) role h = absurd h
branch-formed whole nest line (level body no_branch end outer) role h = (refl, (inl role, h.0), tt, h.3, h.4)
branch-formed whole nest line (level body (branch l b o) end outer) role h = (refl, (role, h.0, h.1), tt, h.3, h.4)
branch-formed whole nest line (broken_level body no_branch) role h = (h.0, refl, (inl role, h.1), tt)
branch-formed whole nest line (broken_level body (branch l b o)) role h = (h.0, refl, (role, h.1, h.2), tt)

last-formed : (whole : Bool) (nest : Nest) (line : PlainLine) (spine : Spine) → HasRole begins_last line → Formed whole (true ∷ nest) spine → Formed whole (false ∷ nest) (with_branch line spine)
last-formed whole nest line (ground part) role h = absurd h
last-formed whole nest line (level body no_branch end outer) role h = (refl, (inr role, h.0), tt, h.3, h.4)
last-formed whole nest line (level body (branch l b o) end outer) role h = absurd h.2
last-formed whole nest line (broken_level body no_branch) role h = (h.0, refl, (inr role, h.1), tt)
last-formed whole nest line (broken_level body (branch l b o)) role h = absurd h.3

role-formed : (role : Role) (whole : Bool) (nest next : Nest) (line : PlainLine) (spine : Spine) → HasRole role line → behind_role role nest ≡ Some next → Formed whole next spine → Formed whole nest (with_role role nest line spine)
role-formed begins whole nest next line spine r h f =
    let e : false ∷ nest ≡ next = cc in
    group-formed whole nest line spine r (subst (λ (n : Nest). Formed whole n spine) (sym e) f)
role-formed begins_branch whole [] next line spine r h f = cc
role-formed begins_branch whole (true ∷ nest) next line spine r h f = cc
role-formed begins_branch whole (false ∷ nest) next line spine r h f =
    let e : false ∷ nest ≡ next = cc in
    branch-formed whole nest line spine r (subst (λ (n : Nest). Formed whole n spine) (sym e) f)
role-formed begins_last whole [] next line spine r h f = cc
role-formed begins_last whole (true ∷ nest) next line spine r h f = cc
role-formed begins_last whole (false ∷ nest) next line spine r h f =
    let e : true ∷ nest ≡ next = cc in
    last-formed whole nest line spine r (subst (λ (n : Nest). Formed whole n spine) (sym e) f)
role-formed closes whole [] next line spine r h f = cc
role-formed closes whole (e ∷ nest) next line spine r h f =
    let k : nest ≡ next = cc in
    (refl, tt, free-none e, r, subst (λ (n : Nest). Formed whole n spine) (sym k) f)
role-formed stands_alone whole nest next line spine r h f =
    let e : nest ≡ next = cc in
    map_front-formed (directive_line line) (λ w p g. (r, g)) whole nest spine (subst (λ (n : Nest). Formed whole n spine) (sym e) f)

line-formed : (whole : Bool) (nest next : Nest) (line : PlainLine) (spine : Spine) → nest_behind nest line ≡ Some next → Formed whole next spine → Formed whole nest (with_line nest line spine)
line-formed whole nest next line spine h f = by_cases line.directive refl h
  where
    by_cases :
        (b : Bool) → line.directive ≡ b → (if b then behind_role (role_of line.tokens) nest else Some nest) ≡ Some next
        → Formed whole nest (if b then with_role (role_of line.tokens) nest line spine else map_front (with_text line) spine)
    by_cases true d e = role-formed (role_of line.tokens) whole nest next line spine (d, refl) e f
    by_cases false d e =
        let k : nest ≡ next = cc in
        map_front-formed (with_text line) (text-formed line d) whole nest spine (subst (λ (n : Nest). Formed whole n spine) (sym k) f)

broken-formed : (nest : Nest) → Formed false nest (broken_front nest breaks)
broken-formed [] = refl
broken-formed (e ∷ nest) = (refl, refl, tt, free-none e)

pub spine-formed : (nest : Nest) (lines : List PlainLine) → Formed (is_whole nest lines) nest (spine_of nest lines)
spine-formed [] [] = refl
spine-formed (e ∷ nest) [] = (refl, refl, tt, free-none e)
spine-formed nest (line ∷ lines) = by_cases (nest_behind nest line) refl (λ next. spine-formed next lines)
  where
    by_cases :
        (o : Option Nest) → nest_behind nest line ≡ o → ((next : Nest) → Formed (is_whole next lines) next (spine_of next lines))
        → Formed (by_whole o (λ next. is_whole next lines)) nest (by_next o nest line (λ next. spine_of next lines))
    by_cases None h others = broken-formed nest
    by_cases (Some next) h others = line-formed (is_whole next lines) nest next line (spine_of next lines) h (others next)

-- ---- its lines

abbrev pub lines_of : Spine → List PlainLine
lines_of (ground part) = lines_in part
lines_of (level body others last outer) = lines_in body ++ (lines_of_branches others ++ last ∷ lines_of outer)
lines_of (broken_level body others) = lines_in body ++ lines_of_branches others

map_front-lines : (f : Part → Part) (before : List PlainLine) → ((p : Part) → lines_in (f p) ≡ before ++ lines_in p) → (spine : Spine) → lines_of (map_front f spine) ≡ before ++ lines_of spine
map_front-lines f before h (ground part) = h part
map_front-lines f before h (level body others last outer) =
    let more = lines_of_branches others ++ last ∷ lines_of outer in
    ap (λ ls. ls ++ more) (h body) ∙ append_assoc before (lines_in body) more
map_front-lines f before h (broken_level body others) =
    ap (λ ls. ls ++ lines_of_branches others) (h body) ∙ append_assoc before (lines_in body) (lines_of_branches others)

text-lines : (line : PlainLine) (p : Part) → lines_in (with_text line p) ≡ (line ∷ []) ++ lines_in p
text-lines line finish = refl
text-lines line breaks = refl
text-lines line (text_lines lines rest) = refl
text-lines line (directive_line first rest) = refl
text-lines line (group first body others last rest) = refl
text-lines line (broken_group first body others) = refl

group-lines : (nest : Nest) (line : PlainLine) (spine : Spine) → Fits (false ∷ nest) spine → lines_of (with_group nest line spine) ≡ line ∷ lines_of spine
group-lines nest line (ground part) fits = absurd fits
group-lines nest line (level body others last outer) fits =
    let a = lines_in body ++ lines_of_branches others in
    map_front-lines (group line body others last) (line ∷ (a ++ last ∷ [])) (λ p. ap (λ ls. line ∷ ls) (sym (append_assoc a (last ∷ []) (lines_in p)))) outer
    ∙ ap (λ ls. line ∷ ls) (append_assoc a (last ∷ []) (lines_of outer) ∙ append_assoc (lines_in body) (lines_of_branches others) (last ∷ lines_of outer))
group-lines [] line (broken_level body others) fits = refl
group-lines (e ∷ nest) line (broken_level body others) fits = append-nil (line ∷ (lines_in body ++ lines_of_branches others))

branch-lines : (e : Bool) (nest : Nest) (line : PlainLine) (spine : Spine) → Fits (e ∷ nest) spine → lines_of (with_branch line spine) ≡ line ∷ lines_of spine
branch-lines e nest line (ground part) fits = absurd fits
branch-lines e nest line (level body others last outer) fits =
    ap (λ ls. line ∷ ls) (append_assoc (lines_in body) (lines_of_branches others) (last ∷ lines_of outer))
branch-lines e nest line (broken_level body others) fits = refl

role-lines : (role : Role) (nest next : Nest) (line : PlainLine) (spine : Spine) → behind_role role nest ≡ Some next → Fits next spine → lines_of (with_role role nest line spine) ≡ line ∷ lines_of spine
role-lines begins nest next line spine h fits =
    let e : false ∷ nest ≡ next = cc in
    group-lines nest line spine (subst (λ (n : Nest). Fits n spine) (sym e) fits)
role-lines begins_branch [] next line spine h fits = cc
role-lines begins_branch (true ∷ nest) next line spine h fits = cc
role-lines begins_branch (false ∷ nest) next line spine h fits =
    let e : false ∷ nest ≡ next = cc in
    branch-lines false nest line spine (subst (λ (n : Nest). Fits n spine) (sym e) fits)
role-lines begins_last [] next line spine h fits = cc
role-lines begins_last (true ∷ nest) next line spine h fits = cc
role-lines begins_last (false ∷ nest) next line spine h fits =
    let e : true ∷ nest ≡ next = cc in
    branch-lines true nest line spine (subst (λ (n : Nest). Fits n spine) (sym e) fits)
role-lines closes nest next line spine h fits = refl
role-lines stands_alone nest next line spine h fits = map_front-lines (directive_line line) (line ∷ []) (λ p. refl) spine

line-lines : (nest next : Nest) (line : PlainLine) (spine : Spine) → nest_behind nest line ≡ Some next → Fits next spine → lines_of (with_line nest line spine) ≡ line ∷ lines_of spine
line-lines nest next line spine h fits = by_cases line.directive h
  where
    by_cases :
        (b : Bool) → (if b then behind_role (role_of line.tokens) nest else Some nest) ≡ Some next
        → lines_of (if b then with_role (role_of line.tokens) nest line spine else map_front (with_text line) spine) ≡ line ∷ lines_of spine
    by_cases true e = role-lines (role_of line.tokens) nest next line spine e fits
    by_cases false e = map_front-lines (with_text line) (line ∷ []) (text-lines line) spine

broken-lines : (nest : Nest) → lines_of (broken_front nest breaks) ≡ []
broken-lines [] = refl
broken-lines (e ∷ nest) = refl

pub spine-lines : (nest : Nest) (lines : List PlainLine) → lines_of (spine_of nest lines) ≡ lines_before nest lines
spine-lines [] [] = refl
spine-lines (e ∷ nest) [] = refl
spine-lines nest (line ∷ lines) = by_cases (nest_behind nest line) refl (λ next. spine-lines next lines)
  where
    by_cases :
        (o : Option Nest) → nest_behind nest line ≡ o → ((next : Nest) → lines_of (spine_of next lines) ≡ lines_before next lines)
        → lines_of (by_next o nest line (λ next. spine_of next lines)) ≡ by_before o line (λ next. lines_before next lines)
    by_cases None h others = broken-lines nest
    by_cases (Some next) h others =
        line-lines nest next line (spine_of next lines) h (spine-fits next lines) ∙ ap (λ ls. line ∷ ls) (others next)

-- ---- whether a group is open at its end

abbrev pub ends_of : Spine → Bool
ends_of (ground part) = ends_open part
ends_of (level body others last outer) = ends_of outer
ends_of (broken_level body others) = true

map_front-ends : (f : Part → Part) → ((p : Part) → ends_open (f p) ≡ ends_open p) → (spine : Spine) → ends_of (map_front f spine) ≡ ends_of spine
map_front-ends f h (ground part) = h part
map_front-ends f h (level body others last outer) = refl
map_front-ends f h (broken_level body others) = refl

text-ends : (line : PlainLine) (p : Part) → ends_open (with_text line p) ≡ ends_open p
text-ends line finish = refl
text-ends line breaks = refl
text-ends line (text_lines lines rest) = refl
text-ends line (directive_line first rest) = refl
text-ends line (group first body others last rest) = refl
text-ends line (broken_group first body others) = refl

group-ends : (nest : Nest) (line : PlainLine) (spine : Spine) → Fits (false ∷ nest) spine → ends_of (with_group nest line spine) ≡ ends_of spine
group-ends nest line (ground part) fits = absurd fits
group-ends nest line (level body others last outer) fits = map_front-ends (group line body others last) (λ p. refl) outer
group-ends [] line (broken_level body others) fits = refl
group-ends (e ∷ nest) line (broken_level body others) fits = refl

branch-ends : (line : PlainLine) (spine : Spine) → ends_of (with_branch line spine) ≡ ends_of spine
branch-ends line (ground part) = refl
branch-ends line (level body others last outer) = refl
branch-ends line (broken_level body others) = refl

role-ends : (role : Role) (nest next : Nest) (line : PlainLine) (spine : Spine) → behind_role role nest ≡ Some next → Fits next spine → ends_of (with_role role nest line spine) ≡ ends_of spine
role-ends begins nest next line spine h fits =
    let e : false ∷ nest ≡ next = cc in
    group-ends nest line spine (subst (λ (n : Nest). Fits n spine) (sym e) fits)
role-ends begins_branch nest next line spine h fits = branch-ends line spine
role-ends begins_last nest next line spine h fits = branch-ends line spine
role-ends closes nest next line spine h fits = refl
role-ends stands_alone nest next line spine h fits = map_front-ends (directive_line line) (λ p. refl) spine

line-ends : (nest next : Nest) (line : PlainLine) (spine : Spine) → nest_behind nest line ≡ Some next → Fits next spine → ends_of (with_line nest line spine) ≡ ends_of spine
line-ends nest next line spine h fits = by_cases line.directive h
  where
    by_cases :
        (b : Bool) → (if b then behind_role (role_of line.tokens) nest else Some nest) ≡ Some next
        → ends_of (if b then with_role (role_of line.tokens) nest line spine else map_front (with_text line) spine) ≡ ends_of spine
    by_cases true e = role-ends (role_of line.tokens) nest next line spine e fits
    by_cases false e = map_front-ends (with_text line) (text-ends line) spine

pub spine-ends : (nest : Nest) (lines : List PlainLine) → misplaced_in nest lines ≡ None → is_whole nest lines ≡ false → ends_of (spine_of nest lines) ≡ true
spine-ends [] [] h w = cc
spine-ends (e ∷ nest) [] h w = refl
spine-ends nest (line ∷ lines) h w = by_cases (nest_behind nest line) refl h w (λ next. spine-ends next lines)
  where
    by_cases :
        (o : Option Nest) → nest_behind nest line ≡ o → by_place o line (λ next. misplaced_in next lines) ≡ None
        → by_whole o (λ next. is_whole next lines) ≡ false
        → ((next : Nest) → misplaced_in next lines ≡ None → is_whole next lines ≡ false → ends_of (spine_of next lines) ≡ true)
        → ends_of (by_next o nest line (λ next. spine_of next lines)) ≡ true
    by_cases None e h w others = cc
    by_cases (Some next) e h w others =
        line-ends nest next line (spine_of next lines) e (spine-fits next lines) ∙ others next h w

-- ---- the lines before one that is misplaced

pub before-all : (nest : Nest) (lines : List PlainLine) → misplaced_in nest lines ≡ None → lines_before nest lines ≡ lines
before-all nest [] h = refl
before-all nest (line ∷ lines) h = by_cases (nest_behind nest line) h (λ next. before-all next lines)
  where
    by_cases :
        (o : Option Nest) → by_place o line (λ next. misplaced_in next lines) ≡ None
        → ((next : Nest) → misplaced_in next lines ≡ None → lines_before next lines ≡ lines)
        → by_before o line (λ next. lines_before next lines) ≡ line ∷ lines
    by_cases None h others = cc
    by_cases (Some next) h others = ap (λ ls. line ∷ ls) (others next h)

pub record Before (nest : Nest) (lines : List PlainLine) (line : PlainLine) : Type 0 where
  pub rest : List PlainLine
  pub lines_are : lines ≡ lines_before nest lines ++ line ∷ rest
  pub still : misplaced_in nest (lines_before nest lines ++ line ∷ []) ≡ Some line
  pub not_whole : is_whole nest lines ≡ false

pub before-split : (nest : Nest) (lines : List PlainLine) (line : PlainLine) → misplaced_in nest lines ≡ Some line → Before nest lines line
before-split nest [] line h = cc
before-split nest (first ∷ lines) line h = by_cases (nest_behind nest first) refl h (λ next. before-split next lines line)
  where
    by_cases :
        (o : Option Nest) → nest_behind nest first ≡ o → by_place o first (λ next. misplaced_in next lines) ≡ Some line
        → ((next : Nest) → misplaced_in next lines ≡ Some line → Before next lines line) → Before nest (first ∷ lines) line
    by_cases None e h others =
        let k : first ≡ line = cc in
        let before : lines_before nest (first ∷ lines) ≡ [] = ap (λ (o : Option Nest). by_before o first (λ next. lines_before next lines)) e in
        record {
          rest = lines;
          lines_are = ap (λ l. l ∷ lines) k ∙ sym (ap (λ ls. ls ++ line ∷ lines) before);
          still =
              ap (λ ls. misplaced_in nest (ls ++ line ∷ [])) before
              ∙ ap (λ l. misplaced_in nest (l ∷ [])) (sym k)
              ∙ ap (λ (o : Option Nest). by_place o first (λ next. misplaced_in next [])) e ∙ ap Some k;
          not_whole = ap (λ (o : Option Nest). by_whole o (λ next. is_whole next lines)) e;
        }
    by_cases (Some next) e h others =
        let inner = others next h in
        let before : lines_before nest (first ∷ lines) ≡ first ∷ lines_before next lines = ap (λ (o : Option Nest). by_before o first (λ next. lines_before next lines)) e in
        record {
          rest = inner.rest;
          lines_are = ap (λ ls. first ∷ ls) inner.lines_are ∙ sym (ap (λ ls. ls ++ line ∷ inner.rest) before);
          still =
              ap (λ ls. misplaced_in nest (ls ++ line ∷ [])) before
              ∙ ap (λ (o : Option Nest). by_place o first (λ n. misplaced_in n (lines_before next lines ++ line ∷ []))) e ∙ inner.still;
          not_whole = ap (λ (o : Option Nest). by_whole o (λ next. is_whole next lines)) e ∙ inner.not_whole;
        }
