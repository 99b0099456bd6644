-- The lines of a part have that part as their spine, and no other.
use Rattle.std.proofs.Common.{◌≡◌, ◌≢◌, Bool, true, false, List, [], ◌∷◌, ◌++◌, All, Option, Some, refl, ap, sym, ◌∙◌, subst, inl, inr}
use Rattle.std.specs.Prelude.{if◌then◌else◌, ⊤}
use Rattle.std.proofs.lemmas.List.{append_assoc}
use Rattle.std.proofs.lemmas.List.Elements.{All-head, All-tail}
use Rattle.c_text.specs.Lines.{PlainLine}
use Rattle.c_text.specs.Trees.{Part, finish, breaks, text_lines, directive_line, group, broken_group, Branches, no_branch, branch, Role, begins, begins_branch, begins_last, closes, stands_alone, role_of, lines_in, lines_of_branches, IsFormed, AreFormed, HasRole, IsText, BeginsNoText, are_some}
use Rattle.file_walks.specs.Nests.{Nest, nest_behind, behind_role, by_place, misplaced_in}
use Rattle.file_walks.proofs.Spines.{Spine, ground, level, broken_level, map_front, broken_front, with_text, with_group, with_branch, with_role, with_line}
use Rattle.file_walks.proofs.Forms.{by_next, spine_of}

-- ---- one line

pub behind-role : (role : Role) (nest : Nest) (line : PlainLine) → HasRole role line → nest_behind nest line ≡ behind_role role nest
behind-role role nest line h =
    ap (λ (b : Bool). if b then behind_role (role_of line.tokens) nest else Some nest) h.0 ∙ ap (λ (r : Role). behind_role r nest) h.1

pub behind-text : (nest : Nest) (line : PlainLine) → IsText line → nest_behind nest line ≡ Some nest
behind-text nest line h = ap (λ (b : Bool). if b then behind_role (role_of line.tokens) nest else Some nest) h

pub line-role : (role : Role) (nest : Nest) (line : PlainLine) (spine : Spine) → HasRole role line → with_line nest line spine ≡ with_role role nest line spine
line-role role nest line spine h =
    ap (λ (b : Bool). if b then with_role (role_of line.tokens) nest line spine else map_front (with_text line) spine) h.0
    ∙ ap (λ (r : Role). with_role r nest line spine) h.1

pub line-text : (nest : Nest) (line : PlainLine) (spine : Spine) → IsText line → with_line nest line spine ≡ map_front (with_text line) spine
line-text nest line spine h = ap (λ (b : Bool). if b then with_role (role_of line.tokens) nest line spine else map_front (with_text line) spine) h

pub spine-step : (nest next : Nest) (line : PlainLine) (lines : List PlainLine) → nest_behind nest line ≡ Some next → spine_of nest (line ∷ lines) ≡ with_line nest line (spine_of next lines)
spine-step nest next line lines h = ap (λ (o : Option Nest). by_next o nest line (λ n. spine_of n lines)) h

pub place-step : (nest next : Nest) (line : PlainLine) (lines : List PlainLine) → nest_behind nest line ≡ Some next → misplaced_in nest (line ∷ lines) ≡ misplaced_in next lines
place-step nest next line lines h = ap (λ (o : Option Nest). by_place o line (λ n. misplaced_in n lines)) h

role-step : (role : Role) (nest next : Nest) (line : PlainLine) (lines : List PlainLine) → HasRole role line → behind_role role nest ≡ Some next → spine_of nest (line ∷ lines) ≡ with_role role nest line (spine_of next lines)
role-step role nest next line lines h e =
    spine-step nest next line lines (behind-role role nest line h ∙ e) ∙ line-role role nest line (spine_of next lines) h

-- ---- parts behind parts

map_front-id : (spine : Spine) → map_front (λ p. p) spine ≡ spine
map_front-id (ground part) = refl
map_front-id (level body others last outer) = refl
map_front-id (broken_level body others) = refl

map_front-comp : (f g : Part → Part) (spine : Spine) → map_front f (map_front g spine) ≡ map_front (λ p. f (g p)) spine
map_front-comp f g (ground part) = refl
map_front-comp f g (level body others last outer) = refl
map_front-comp f g (broken_level body others) = refl

map_front-broken : (f : Part → Part) (nest : Nest) (part : Part) → map_front f (broken_front nest part) ≡ broken_front nest (f part)
map_front-broken f [] part = refl
map_front-broken f (e ∷ nest) part = refl

abbrev pub texts_before : List PlainLine → Part → Part
texts_before [] part = part
texts_before (line ∷ lines) part = with_text line (texts_before lines part)

text-one : (line : PlainLine) (part : Part) → BeginsNoText part → with_text line part ≡ text_lines (line ∷ []) part
text-one line finish h = refl
text-one line breaks h = refl
text-one line (text_lines lines rest) h = absurd h
text-one line (directive_line first rest) h = refl
text-one line (group first body others last rest) h = refl
text-one line (broken_group first body others) h = refl

texts-are : (lines : List PlainLine) (part : Part) → lines ≢ [] → BeginsNoText part → texts_before lines part ≡ text_lines lines part
texts-are [] part some no_text = absurd (some refl)
texts-are (line ∷ []) part some no_text = text-one line part no_text
texts-are (line ∷ second ∷ lines) part some no_text = ap (λ p. with_text line p) (texts-are (second ∷ lines) part (λ e. cc) no_text)

spine-texts : (lines : List PlainLine) (nest : Nest) (more : List PlainLine) → All IsText lines → spine_of nest (lines ++ more) ≡ map_front (λ p. texts_before lines p) (spine_of nest more)
spine-texts [] nest more texts = sym (map_front-id (spine_of nest more))
spine-texts (line ∷ lines) nest more texts =
    let first = All-head IsText line lines texts in
    let others = All-tail IsText line lines texts in
    spine-step nest nest line (lines ++ more) (behind-text nest line first)
    ∙ line-text nest line (spine_of nest (lines ++ more)) first
    ∙ ap (λ sp. map_front (with_text line) sp) (spine-texts lines nest more others)
    ∙ map_front-comp (with_text line) (λ p. texts_before lines p) (spine_of nest more)

place-texts : (lines : List PlainLine) (nest : Nest) (more : List PlainLine) → All IsText lines → misplaced_in nest (lines ++ more) ≡ misplaced_in nest more
place-texts [] nest more texts = refl
place-texts (line ∷ lines) nest more texts =
    let first = All-head IsText line lines texts in
    let others = All-tail IsText line lines texts in
    place-step nest nest line (lines ++ more) (behind-text nest line first) ∙ place-texts lines nest more others

-- what follows a whole part
abbrev pub followed : Part → Part → Part
followed finish next = next
followed breaks next = next
followed (text_lines lines rest) next = texts_before lines (followed rest next)
followed (directive_line line rest) next = directive_line line (followed rest next)
followed (group first body others last rest) next = group first body others last (followed rest next)
followed (broken_group first body others) next = broken_group first body others

pub followed-finish : (part : Part) → IsFormed true part → followed part finish ≡ part
followed-finish finish formed = refl
followed-finish breaks formed = cc
followed-finish (text_lines lines rest) formed =
    ap (λ p. texts_before lines p) (followed-finish rest formed.3) ∙ texts-are lines rest formed.0 formed.2
followed-finish (directive_line line rest) formed = ap (λ p. directive_line line p) (followed-finish rest formed.1)
followed-finish (group first body others last rest) formed = ap (λ p. group first body others last p) (followed-finish rest formed.4)
followed-finish (broken_group first body others) formed = let e : true ≡ false = formed.0 in cc

-- behind `#else` there is no branch
abbrev pub IsFree : Bool → Branches → Type 0
IsFree false others = ⊤
IsFree true no_branch = ⊤
IsFree true (branch line body others) = ⊥

abbrev pub is_else : Role → Bool
is_else begins_last = true
is_else other = false

regroup : (a b c d : List PlainLine) (line : PlainLine) → ((a ++ b) ++ line ∷ c) ++ d ≡ a ++ (b ++ line ∷ (c ++ d))
regroup a b c d line = append_assoc (a ++ b) (line ∷ c) d ∙ append_assoc a b (line ∷ (c ++ d))

-- a further branch, where the branches behind it are known
branch-spine : (e : Bool) (nest : Nest) (line : PlainLine) (body : Part) (others : Branches) (more : List PlainLine) (last : PlainLine) (outer : Spine) → spine_of (false ∷ nest) (line ∷ ((lines_in body ++ lines_of_branches others) ++ last ∷ more)) ≡ with_branch line (spine_of (e ∷ nest) ((lines_in body ++ lines_of_branches others) ++ last ∷ more)) → spine_of (e ∷ nest) (lines_in body ++ (lines_of_branches others ++ last ∷ more)) ≡ map_front (λ p. followed body p) (spine_of (e ∷ nest) (lines_of_branches others ++ last ∷ more)) → spine_of (e ∷ nest) (lines_of_branches others ++ last ∷ more) ≡ level finish others last outer → followed body finish ≡ body → spine_of (false ∷ nest) (line ∷ ((lines_in body ++ lines_of_branches others) ++ last ∷ more)) ≡ level finish (branch line body others) last outer
branch-spine e nest line body others more last outer h k m f =
    h ∙ ap (λ ls. with_branch line (spine_of (e ∷ nest) ls)) (append_assoc (lines_in body) (lines_of_branches others) (last ∷ more))
    ∙ ap (λ sp. with_branch line sp) (k ∙ ap (λ sp. map_front (λ p. followed body p) sp) m)
    ∙ ap (λ p. level finish (branch line p others) last outer) f

mutual
  pub whole-part : (part : Part) → IsFormed true part → (nest : Nest) (more : List PlainLine) → spine_of nest (lines_in part ++ more) ≡ map_front (λ p. followed part p) (spine_of nest more)
  whole-part finish formed nest more = sym (map_front-id (spine_of nest more))
  whole-part breaks formed nest more = cc
  whole-part (text_lines lines rest) formed nest more =
      ap (λ ls. spine_of nest ls) (append_assoc lines (lines_in rest) more)
      ∙ spine-texts lines nest (lines_in rest ++ more) formed.1
      ∙ ap (λ sp. map_front (λ p. texts_before lines p) sp) (whole-part rest formed.3 nest more)
      ∙ map_front-comp (λ p. texts_before lines p) (λ p. followed rest p) (spine_of nest more)
  whole-part (directive_line line rest) formed nest more =
      role-step stands_alone nest nest line (lines_in rest ++ more) formed.0 refl
      ∙ ap (λ sp. map_front (directive_line line) sp) (whole-part rest formed.1 nest more)
      ∙ map_front-comp (directive_line line) (λ p. followed rest p) (spine_of nest more)
  whole-part (group first body others last rest) formed nest more =
      let inner = spine_of nest (lines_in rest ++ more) in
      role-step begins nest (false ∷ nest) first (((lines_in body ++ lines_of_branches others) ++ last ∷ lines_in rest) ++ more) formed.0 refl
      ∙ ap (λ ls. with_group nest first (spine_of (false ∷ nest) ls)) (regroup (lines_in body) (lines_of_branches others) (lines_in rest) more last)
      ∙ ap (λ sp. with_group nest first sp) (whole-part body formed.1 (false ∷ nest) (lines_of_branches others ++ last ∷ (lines_in rest ++ more)))
      ∙ ap (λ sp. with_group nest first (map_front (λ p. followed body p) sp)) (whole-branches false others formed.2 tt nest last formed.3 (lines_in rest ++ more))
      ∙ ap (λ p. map_front (group first p others last) inner) (followed-finish body formed.1)
      ∙ ap (λ sp. map_front (group first body others last) sp) (whole-part rest formed.4 nest more)
      ∙ map_front-comp (group first body others last) (λ p. followed rest p) (spine_of nest more)
  whole-part (broken_group first body others) formed nest more = let e : true ≡ false = formed.0 in cc

  whole-branches : (e : Bool) (others : Branches) → AreFormed true others → IsFree e others → (nest : Nest) (last : PlainLine) → HasRole closes last → (more : List PlainLine) → spine_of (e ∷ nest) (lines_of_branches others ++ last ∷ more) ≡ level finish others last (spine_of nest more)
  whole-branches e no_branch formed free nest last closing more = role-step closes (e ∷ nest) nest last more closing refl
  whole-branches true (branch line body others) formed free nest last closing more = absurd free
  whole-branches false (branch line body no_branch) formed free nest last closing more =
      elim formed.0 [
        | inl role ↦ branch-spine false nest line body no_branch more last (spine_of nest more) (role-step begins_branch (false ∷ nest) (false ∷ nest) line ((lines_in body ++ []) ++ last ∷ more) role refl) (whole-part body formed.1 (false ∷ nest) (last ∷ more)) (whole-branches false no_branch tt tt nest last closing more) (followed-finish body formed.1)
        | inr role ↦ branch-spine true nest line body no_branch more last (spine_of nest more) (role-step begins_last (false ∷ nest) (true ∷ nest) line ((lines_in body ++ []) ++ last ∷ more) role refl) (whole-part body formed.1 (true ∷ nest) (last ∷ more)) (whole-branches true no_branch tt tt nest last closing more) (followed-finish body formed.1)
      ]
  whole-branches false (branch line body (branch second inside others)) formed free nest last closing more =
      branch-spine false nest line body (branch second inside others) more last (spine_of nest more) (role-step begins_branch (false ∷ nest) (false ∷ nest) line ((lines_in body ++ lines_of_branches (branch second inside others)) ++ last ∷ more) formed.0 refl) (whole-part body formed.1 (false ∷ nest) (lines_of_branches (branch second inside others) ++ last ∷ more)) (whole-branches false (branch second inside others) formed.2 tt nest last closing more) (followed-finish body formed.1)

-- ---- whole parts have no misplaced line

mutual
  pub whole-places : (part : Part) → IsFormed true part → (nest : Nest) (more : List PlainLine) → misplaced_in nest (lines_in part ++ more) ≡ misplaced_in nest more
  whole-places finish formed nest more = refl
  whole-places breaks formed nest more = cc
  whole-places (text_lines lines rest) formed nest more =
      ap (λ ls. misplaced_in nest ls) (append_assoc lines (lines_in rest) more)
      ∙ place-texts lines nest (lines_in rest ++ more) formed.1 ∙ whole-places rest formed.3 nest more
  whole-places (directive_line line rest) formed nest more =
      place-step nest nest line (lines_in rest ++ more) (behind-role stands_alone nest line formed.0) ∙ whole-places rest formed.1 nest more
  whole-places (group first body others last rest) formed nest more =
      place-step nest (false ∷ nest) first (((lines_in body ++ lines_of_branches others) ++ last ∷ lines_in rest) ++ more) (behind-role begins nest first formed.0)
      ∙ ap (λ ls. misplaced_in (false ∷ nest) ls) (regroup (lines_in body) (lines_of_branches others) (lines_in rest) more last)
      ∙ whole-places body formed.1 (false ∷ nest) (lines_of_branches others ++ last ∷ (lines_in rest ++ more))
      ∙ branches-places false others formed.2 tt nest last formed.3 (lines_in rest ++ more)
      ∙ whole-places rest formed.4 nest more
  whole-places (broken_group first body others) formed nest more = let e : true ≡ false = formed.0 in cc

  branches-places : (e : Bool) (others : Branches) → AreFormed true others → IsFree e others → (nest : Nest) (last : PlainLine) → HasRole closes last → (more : List PlainLine) → misplaced_in (e ∷ nest) (lines_of_branches others ++ last ∷ more) ≡ misplaced_in nest more
  branches-places e no_branch formed free nest last closing more = place-step (e ∷ nest) nest last more (behind-role closes (e ∷ nest) last closing)
  branches-places true (branch line body others) formed free nest last closing more = absurd free
  branches-places false (branch line body no_branch) formed free nest last closing more =
      elim formed.0 [
        | inl role ↦
            place-step (false ∷ nest) (false ∷ nest) line ((lines_in body ++ []) ++ last ∷ more) (behind-role begins_branch (false ∷ nest) line role)
            ∙ ap (λ ls. misplaced_in (false ∷ nest) ls) (append_assoc (lines_in body) [] (last ∷ more))
            ∙ whole-places body formed.1 (false ∷ nest) (last ∷ more) ∙ branches-places false no_branch tt tt nest last closing more
        | inr role ↦
            place-step (false ∷ nest) (true ∷ nest) line ((lines_in body ++ []) ++ last ∷ more) (behind-role begins_last (false ∷ nest) line role)
            ∙ ap (λ ls. misplaced_in (true ∷ nest) ls) (append_assoc (lines_in body) [] (last ∷ more))
            ∙ whole-places body formed.1 (true ∷ nest) (last ∷ more) ∙ branches-places true no_branch tt tt nest last closing more
      ]
  branches-places false (branch line body (branch second inside others)) formed free nest last closing more =
      let rest = branch second inside others in
      place-step (false ∷ nest) (false ∷ nest) line ((lines_in body ++ lines_of_branches rest) ++ last ∷ more) (behind-role begins_branch (false ∷ nest) line formed.0)
      ∙ ap (λ ls. misplaced_in (false ∷ nest) ls) (append_assoc (lines_in body) (lines_of_branches rest) (last ∷ more))
      ∙ whole-places body formed.1 (false ∷ nest) (lines_of_branches rest ++ last ∷ more)
      ∙ branches-places false (branch second inside others) formed.2 tt nest last closing more

-- ---- parts that break

-- the groups that are open where a part breaks
abbrev mutual
  pub end_nest : Nest → Part → Nest
  end_nest nest finish = nest
  end_nest nest breaks = nest
  end_nest nest (text_lines lines rest) = end_nest nest rest
  end_nest nest (directive_line line rest) = end_nest nest rest
  end_nest nest (group first body others last rest) = end_nest nest rest
  end_nest nest (broken_group first body others) = if are_some others then end_branches nest others else end_nest (false ∷ nest) body

  pub end_branches : Nest → Branches → Nest
  end_branches nest no_branch = false ∷ nest
  end_branches nest (branch line body others) =
      if are_some others then end_branches nest others else end_nest (is_else (role_of line.tokens) ∷ nest) body

-- what stands behind a part that breaks doesn't go on
abbrev pub Stops : Nest → List PlainLine → Type 0
Stops nest more = spine_of nest more ≡ broken_front nest breaks

else-nest : (role : Role) (nest : Nest) (line : PlainLine) (part : Part) → HasRole role line → end_nest (is_else role ∷ nest) part ≡ end_nest (is_else (role_of line.tokens) ∷ nest) part
else-nest role nest line part h = ap (λ (r : Role). end_nest (is_else r ∷ nest) part) (sym h.1)

mutual
  pub broken-part : (part : Part) → IsFormed false part → (nest : Nest) (more : List PlainLine) → Stops (end_nest nest part) more → spine_of nest (lines_in part ++ more) ≡ broken_front nest part
  broken-part finish formed nest more stops = let e : false ≡ true = formed in cc
  broken-part breaks formed nest more stops = stops
  broken-part (text_lines lines rest) formed nest more stops =
      ap (λ ls. spine_of nest ls) (append_assoc lines (lines_in rest) more)
      ∙ spine-texts lines nest (lines_in rest ++ more) formed.1
      ∙ ap (λ sp. map_front (λ p. texts_before lines p) sp) (broken-part rest formed.3 nest more stops)
      ∙ map_front-broken (λ p. texts_before lines p) nest rest
      ∙ ap (λ p. broken_front nest p) (texts-are lines rest formed.0 formed.2)
  broken-part (directive_line line rest) formed nest more stops =
      role-step stands_alone nest nest line (lines_in rest ++ more) formed.0 refl
      ∙ ap (λ sp. map_front (directive_line line) sp) (broken-part rest formed.1 nest more stops)
      ∙ map_front-broken (directive_line line) nest rest
  broken-part (group first body others last rest) formed nest more stops =
      let inner = spine_of nest (lines_in rest ++ more) in
      role-step begins nest (false ∷ nest) first (((lines_in body ++ lines_of_branches others) ++ last ∷ lines_in rest) ++ more) formed.0 refl
      ∙ ap (λ ls. with_group nest first (spine_of (false ∷ nest) ls)) (regroup (lines_in body) (lines_of_branches others) (lines_in rest) more last)
      ∙ ap (λ sp. with_group nest first sp) (whole-part body formed.1 (false ∷ nest) (lines_of_branches others ++ last ∷ (lines_in rest ++ more)))
      ∙ ap (λ sp. with_group nest first (map_front (λ p. followed body p) sp)) (whole-branches false others formed.2 tt nest last formed.3 (lines_in rest ++ more))
      ∙ ap (λ p. map_front (group first p others last) inner) (followed-finish body formed.1)
      ∙ ap (λ sp. map_front (group first body others last) sp) (broken-part rest formed.4 nest more stops)
      ∙ map_front-broken (group first body others last) nest rest
  broken-part (broken_group first body no_branch) formed nest more stops =
      role-step begins nest (false ∷ nest) first ((lines_in body ++ []) ++ more) formed.1 refl
      ∙ ap (λ ls. with_group nest first (spine_of (false ∷ nest) ls)) (append_assoc (lines_in body) [] more)
      ∙ ap (λ sp. with_group nest first sp) (broken-part body formed.2 (false ∷ nest) more stops)
  broken-part (broken_group first body (branch line inside others)) formed nest more stops =
      let rest = branch line inside others in
      role-step begins nest (false ∷ nest) first ((lines_in body ++ lines_of_branches rest) ++ more) formed.1 refl
      ∙ ap (λ ls. with_group nest first (spine_of (false ∷ nest) ls)) (append_assoc (lines_in body) (lines_of_branches rest) more)
      ∙ ap (λ sp. with_group nest first sp) (whole-part body formed.2 (false ∷ nest) (lines_of_branches rest ++ more))
      ∙ ap (λ sp. with_group nest first (map_front (λ p. followed body p) sp)) (broken-branches (branch line inside others) formed.3 refl nest more stops)
      ∙ ap (λ p. broken_front nest (broken_group first p rest)) (followed-finish body formed.2)

  broken-branches : (others : Branches) → AreFormed false others → are_some others ≡ true → (nest : Nest) (more : List PlainLine) → Stops (end_branches nest others) more → spine_of (false ∷ nest) (lines_of_branches others ++ more) ≡ broken_level finish others
  broken-branches no_branch formed some nest more stops = cc
  broken-branches (branch line body no_branch) formed some nest more stops =
      elim formed.0 [
        | inl role ↦
            role-step begins_branch (false ∷ nest) (false ∷ nest) line ((lines_in body ++ []) ++ more) role refl
            ∙ ap (λ ls. with_branch line (spine_of (false ∷ nest) ls)) (append_assoc (lines_in body) [] more)
            ∙ ap (λ sp. with_branch line sp) (broken-part body formed.1 (false ∷ nest) more (subst (λ (n : Nest). Stops n more) (sym (else-nest begins_branch nest line body role)) stops))
        | inr role ↦
            role-step begins_last (false ∷ nest) (true ∷ nest) line ((lines_in body ++ []) ++ more) role refl
            ∙ ap (λ ls. with_branch line (spine_of (true ∷ nest) ls)) (append_assoc (lines_in body) [] more)
            ∙ ap (λ sp. with_branch line sp) (broken-part body formed.1 (true ∷ nest) more (subst (λ (n : Nest). Stops n more) (sym (else-nest begins_last nest line body role)) stops))
      ]
  broken-branches (branch line body (branch second inside others)) formed some nest more stops =
      let rest = branch second inside others in
      role-step begins_branch (false ∷ nest) (false ∷ nest) line ((lines_in body ++ lines_of_branches rest) ++ more) formed.0 refl
      ∙ ap (λ ls. with_branch line (spine_of (false ∷ nest) ls)) (append_assoc (lines_in body) (lines_of_branches rest) more)
      ∙ ap (λ sp. with_branch line sp) (whole-part body formed.1 (false ∷ nest) (lines_of_branches rest ++ more))
      ∙ ap (λ sp. with_branch line (map_front (λ p. followed body p) sp)) (broken-branches (branch second inside others) formed.2 refl nest more stops)
      ∙ ap (λ p. broken_level finish (branch line p rest)) (followed-finish body formed.1)

mutual
  pub broken-places : (part : Part) → IsFormed false part → (nest : Nest) (more : List PlainLine) → misplaced_in nest (lines_in part ++ more) ≡ misplaced_in (end_nest nest part) more
  broken-places finish formed nest more = refl
  broken-places breaks formed nest more = refl
  broken-places (text_lines lines rest) formed nest more =
      ap (λ ls. misplaced_in nest ls) (append_assoc lines (lines_in rest) more)
      ∙ place-texts lines nest (lines_in rest ++ more) formed.1 ∙ broken-places rest formed.3 nest more
  broken-places (directive_line line rest) formed nest more =
      place-step nest nest line (lines_in rest ++ more) (behind-role stands_alone nest line formed.0) ∙ broken-places rest formed.1 nest more
  broken-places (group first body others last rest) formed nest more =
      place-step nest (false ∷ nest) first (((lines_in body ++ lines_of_branches others) ++ last ∷ lines_in rest) ++ more) (behind-role begins nest first formed.0)
      ∙ ap (λ ls. misplaced_in (false ∷ nest) ls) (regroup (lines_in body) (lines_of_branches others) (lines_in rest) more last)
      ∙ whole-places body formed.1 (false ∷ nest) (lines_of_branches others ++ last ∷ (lines_in rest ++ more))
      ∙ branches-places false others formed.2 tt nest last formed.3 (lines_in rest ++ more)
      ∙ broken-places rest formed.4 nest more
  broken-places (broken_group first body no_branch) formed nest more =
      place-step nest (false ∷ nest) first ((lines_in body ++ []) ++ more) (behind-role begins nest first formed.1)
      ∙ ap (λ ls. misplaced_in (false ∷ nest) ls) (append_assoc (lines_in body) [] more)
      ∙ broken-places body formed.2 (false ∷ nest) more
  broken-places (broken_group first body (branch line inside others)) formed nest more =
      let rest = branch line inside others in
      place-step nest (false ∷ nest) first ((lines_in body ++ lines_of_branches rest) ++ more) (behind-role begins nest first formed.1)
      ∙ ap (λ ls. misplaced_in (false ∷ nest) ls) (append_assoc (lines_in body) (lines_of_branches rest) more)
      ∙ whole-places body formed.2 (false ∷ nest) (lines_of_branches rest ++ more)
      ∙ broken-branch-places (branch line inside others) formed.3 refl nest more

  broken-branch-places : (others : Branches) → AreFormed false others → are_some others ≡ true → (nest : Nest) (more : List PlainLine) → misplaced_in (false ∷ nest) (lines_of_branches others ++ more) ≡ misplaced_in (end_branches nest others) more
  broken-branch-places no_branch formed some nest more = cc
  broken-branch-places (branch line body no_branch) formed some nest more =
      elim formed.0 [
        | inl role ↦
            place-step (false ∷ nest) (false ∷ nest) line ((lines_in body ++ []) ++ more) (behind-role begins_branch (false ∷ nest) line role)
            ∙ ap (λ ls. misplaced_in (false ∷ nest) ls) (append_assoc (lines_in body) [] more)
            ∙ broken-places body formed.1 (false ∷ nest) more ∙ ap (λ n. misplaced_in n more) (else-nest begins_branch nest line body role)
        | inr role ↦
            place-step (false ∷ nest) (true ∷ nest) line ((lines_in body ++ []) ++ more) (behind-role begins_last (false ∷ nest) line role)
            ∙ ap (λ ls. misplaced_in (true ∷ nest) ls) (append_assoc (lines_in body) [] more)
            ∙ broken-places body formed.1 (true ∷ nest) more ∙ ap (λ n. misplaced_in n more) (else-nest begins_last nest line body role)
      ]
  broken-branch-places (branch line body (branch second inside others)) formed some nest more =
      let rest = branch second inside others in
      place-step (false ∷ nest) (false ∷ nest) line ((lines_in body ++ lines_of_branches rest) ++ more) (behind-role begins_branch (false ∷ nest) line formed.0)
      ∙ ap (λ ls. misplaced_in (false ∷ nest) ls) (append_assoc (lines_in body) (lines_of_branches rest) more)
      ∙ whole-places body formed.1 (false ∷ nest) (lines_of_branches rest ++ more)
      ∙ broken-branch-places (branch second inside others) formed.2 refl nest more
