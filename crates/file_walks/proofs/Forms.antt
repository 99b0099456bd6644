-- The spine of lines, and where it ends.
use Rattle.std.proofs.Common.{◌≡◌, Bool, true, false, List, [], ◌∷◌, Option, Some, None, refl, sym, subst}
use Rattle.std.specs.Prelude.{if◌then◌else◌}
use Rattle.c_text.specs.Lines.{PlainLine}
use Rattle.c_text.specs.Trees.{Part, finish, breaks, directive_line, group, broken_group, no_branch, Role, begins, begins_branch, begins_last, closes, stands_alone, role_of}
use Rattle.file_walks.specs.Nests.{Nest, nest_behind, behind_role, behind_branch}
use Rattle.file_walks.proofs.Spines.{Spine, ground, level, broken_level, map_front, broken_front, with_text, with_group, with_branch, with_role, with_line, Fits}

-- at the end of the file
abbrev pub at_end : Nest → Spine
at_end [] = ground finish
at_end (last ∷ outer) = broken_level breaks no_branch

abbrev pub by_next : Option Nest → Nest → PlainLine → (Nest → Spine) → Spine
by_next None nest line others = broken_front nest breaks
by_next (Some next) nest line others = with_line nest line (others next)

-- the spine of lines, where these groups are open before them
abbrev pub spine_of : Nest → List PlainLine → Spine
spine_of nest [] = at_end nest
spine_of nest (line ∷ lines) = by_next (nest_behind nest line) nest line (λ next. spine_of next lines)

abbrev pub by_before : Option Nest → PlainLine → (Nest → List PlainLine) → List PlainLine
by_before None line others = []
by_before (Some next) line others = line ∷ others next

-- the lines before it
abbrev pub lines_before : Nest → List PlainLine → List PlainLine
lines_before nest [] = []
lines_before nest (line ∷ lines) = by_before (nest_behind nest line) line (λ next. lines_before next lines)

abbrev pub is_nil : Nest → Bool
is_nil [] = true
is_nil (last ∷ outer) = false

abbrev pub by_whole : Option Nest → (Nest → Bool) → Bool
by_whole None others = false
by_whole (Some next) others = others next

-- whether each line fits and all groups are closed
abbrev pub is_whole : Nest → List PlainLine → Bool
is_whole nest [] = is_nil nest
is_whole nest (line ∷ lines) = by_whole (nest_behind nest line) (λ next. is_whole next lines)

-- ---- a line before a spine

map_front-fits : (nest : Nest) (f : Part → Part) (spine : Spine) → Fits nest spine → Fits nest (map_front f spine)
map_front-fits [] f (ground part) fits = fits
map_front-fits [] f (level body others last outer) fits = fits
map_front-fits [] f (broken_level body others) fits = fits
map_front-fits (e ∷ nest) f (ground part) fits = fits
map_front-fits (e ∷ nest) f (level body others last outer) fits = fits
map_front-fits (e ∷ nest) f (broken_level body others) fits = fits

broken_front-fits : (nest : Nest) (part : Part) → Fits nest (broken_front nest part)
broken_front-fits [] part = tt
broken_front-fits (e ∷ nest) part = tt

branch-fits : (last e : Bool) (nest : Nest) (line : PlainLine) (spine : Spine) → Fits (last ∷ nest) spine → Fits (e ∷ nest) (with_branch line spine)
branch-fits last e nest line (ground part) fits = fits
branch-fits last e nest line (level body others end outer) fits = fits
branch-fits last e nest line (broken_level body others) fits = fits

group-fits : (nest : Nest) (line : PlainLine) (spine : Spine) → Fits (false ∷ nest) spine → Fits nest (with_group nest line spine)
group-fits nest line (ground part) fits = absurd fits
group-fits nest line (level body others last outer) fits = map_front-fits nest (group line body others last) outer fits
group-fits nest line (broken_level body others) fits = broken_front-fits nest (broken_group line body others)

role-fits : (role : Role) (nest next : Nest) (line : PlainLine) (spine : Spine) → behind_role role nest ≡ Some next → Fits next spine → Fits nest (with_role role nest line spine)
role-fits begins nest next line spine h fits =
    let e : false ∷ nest ≡ next = cc in
    group-fits nest line spine (subst (λ n. Fits n spine) (sym e) fits)
role-fits begins_branch [] next line spine h fits = cc
role-fits begins_branch (e ∷ nest) next line spine h fits =
    branch-fits false e nest line spine (subst (λ n. Fits n spine) (sym (behind_is false e nest next h)) fits)
  where
    behind_is : (last e : Bool) (nest next : Nest) → behind_branch last (e ∷ nest) ≡ Some next → last ∷ nest ≡ next
    behind_is last true nest next h = cc
    behind_is last false nest next h = cc
role-fits begins_last [] next line spine h fits = cc
role-fits begins_last (e ∷ nest) next line spine h fits =
    branch-fits true e nest line spine (subst (λ n. Fits n spine) (sym (behind_is true e nest next h)) fits)
  where
    behind_is : (last e : Bool) (nest next : Nest) → behind_branch last (e ∷ nest) ≡ Some next → last ∷ nest ≡ next
    behind_is last true nest next h = cc
    behind_is last false nest next h = cc
role-fits closes [] next line spine h fits = cc
role-fits closes (e ∷ nest) next line spine h fits =
    let e' : nest ≡ next = cc in
    subst (λ n. Fits n spine) (sym e') fits
role-fits stands_alone nest next line spine h fits =
    let e : nest ≡ next = cc in
    map_front-fits nest (directive_line line) spine (subst (λ n. Fits n spine) (sym e) fits)

pub line-fits : (nest next : Nest) (line : PlainLine) (spine : Spine) → nest_behind nest line ≡ Some next → Fits next spine → Fits nest (with_line nest line spine)
line-fits nest next line spine h fits = by_cases line.directive h
  where
    by_cases :
        (b : Bool) → (if b then behind_role (role_of line.tokens) nest else Some nest) ≡ Some next
        → Fits nest (if b then with_role (role_of line.tokens) nest line spine else map_front (with_text line) spine)
    by_cases true e = role-fits (role_of line.tokens) nest next line spine e fits
    by_cases false e =
        let k : nest ≡ next = cc in
        map_front-fits nest (with_text line) spine (subst (λ n. Fits n spine) (sym k) fits)

pub spine-fits : (nest : Nest) (lines : List PlainLine) → Fits nest (spine_of nest lines)
spine-fits [] [] = tt
spine-fits (e ∷ nest) [] = tt
spine-fits nest (line ∷ lines) = by_cases (nest_behind nest line) refl (λ next. spine-fits next lines)
  where
    by_cases : (o : Option Nest) → nest_behind nest line ≡ o → ((next : Nest) → Fits next (spine_of next lines)) → Fits nest (by_next o nest line (λ next. spine_of next lines))
    by_cases None h others = broken_front-fits nest breaks
    by_cases (Some next) h others = line-fits nest next line (spine_of next lines) h (others next)
