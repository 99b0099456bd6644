-- The lines of a file as conditional groups and their branches (ISO/IEC 9899:2011, 6.10, 6.10.1).
use Rattle.std.specs.Prelude.{◌≡◌, ◌≢◌, Bool, true, false, ◌||◌, List, [], ◌∷◌, ◌++◌, codes, if◌then◌else◌, All, ⊤, ◌⊎◌}
use Rattle.c_text.specs.Token.{PlainToken}
use Rattle.c_text.specs.Directives.{is_spelled}
use Rattle.c_text.specs.Lines.{PlainLine}

mutual
  -- What stands in a file, or in a branch of a group.
  pub data Part : Type 0 where
    -- it ends here: the branch, or the file with all its groups
    finish : Part
    -- the file can't go on here: a conditional line that fits no group, or the end of the file with open groups
    breaks : Part
    -- lines that are no directive lines, as many as follow one another
    text_lines : List PlainLine → Part → Part
    -- a directive line that belongs to no group
    directive_line : PlainLine → Part → Part
    -- a group with its first line, its first branch, the others, its last line, and what follows it
    group : PlainLine → Part → Branches → PlainLine → Part → Part
    -- a group that the file breaks in
    broken_group : PlainLine → Part → Branches → Part

  -- further branches, each with its `#elif` or `#else` line
  pub data Branches : Type 0 where
    no_branch : Branches
    branch : PlainLine → Part → Branches → Branches

-- The lines of a part, up to where it ends or breaks.
abbrev mutual
  pub lines_in : Part → List PlainLine
  lines_in finish = []
  lines_in breaks = []
  lines_in (text_lines lines rest) = lines ++ lines_in rest
  lines_in (directive_line line rest) = line ∷ lines_in rest
  lines_in (group first body others last rest) =
      first ∷ lines_in body ++ lines_of_branches others ++ last ∷ lines_in rest
  lines_in (broken_group first body others) = first ∷ lines_in body ++ lines_of_branches others

  pub lines_of_branches : Branches → List PlainLine
  lines_of_branches no_branch = []
  lines_of_branches (branch line body others) = line ∷ lines_in body ++ lines_of_branches others

-- how a directive line belongs to groups: by its name alone, since in a skipped group nothing else counts
pub data Role : Type 0 where
  begins : Role
  begins_branch : Role
  begins_last : Role
  closes : Role
  stands_alone : Role

abbrev pub role_of_name : PlainToken → Role
role_of_name name =
    if is_spelled (codes "if") name || is_spelled (codes "ifdef") name || is_spelled (codes "ifndef") name then begins
    else if is_spelled (codes "elif") name then begins_branch
    else if is_spelled (codes "else") name then begins_last
    else if is_spelled (codes "endif") name then closes
    else stands_alone

abbrev pub role_of : List PlainToken → Role
role_of [] = stands_alone
role_of (hash ∷ []) = stands_alone
role_of (hash ∷ name ∷ rest) = role_of_name name

abbrev pub HasRole : Role → PlainLine → Type 0
HasRole role line = (line.directive ≡ true) × (role_of line.tokens ≡ role)

abbrev pub IsText : PlainLine → Type 0
IsText line = line.directive ≡ false

-- it doesn't begin with lines that are no directive lines
abbrev pub BeginsNoText : Part → Type 0
BeginsNoText (text_lines lines rest) = ⊥
BeginsNoText other = ⊤

abbrev pub are_some : Branches → Bool
are_some no_branch = false
are_some (branch line body others) = true

-- Each line has its place: branches by `#elif` come before the one by `#else`. `whole` says whether the part ends; else
-- it breaks, and so do the groups that are open there, each in its last branch.
abbrev mutual
  pub IsFormed : Bool → Part → Type 0
  IsFormed whole finish = whole ≡ true
  IsFormed whole breaks = whole ≡ false
  IsFormed whole (text_lines lines rest) = (lines ≢ []) × All IsText lines × BeginsNoText rest × IsFormed whole rest
  IsFormed whole (directive_line line rest) = HasRole stands_alone line × IsFormed whole rest
  IsFormed whole (group first body others last rest) =
      HasRole begins first × IsFormed true body × AreFormed true others × HasRole closes last × IsFormed whole rest
  IsFormed whole (broken_group first body others) = (whole ≡ false) × HasRole begins first × IsFormed (are_some others) body × AreFormed false others

  pub AreFormed : Bool → Branches → Type 0
  AreFormed whole no_branch = ⊤
  AreFormed whole (branch line body no_branch) = (HasRole begins_branch line ⊎ HasRole begins_last line) × IsFormed whole body
  AreFormed whole (branch line body others) = HasRole begins_branch line × IsFormed true body × AreFormed whole others

-- whether a group is open where the part breaks
abbrev pub ends_open : Part → Bool
ends_open finish = false
ends_open breaks = false
ends_open (text_lines lines rest) = ends_open rest
ends_open (directive_line line rest) = ends_open rest
ends_open (group first body others last rest) = ends_open rest
ends_open (broken_group first body others) = true

-- no parts have these lines and then this one: it begins a branch or closes a group that isn't open
pub record IsMisplaced (before : List PlainLine) (line : PlainLine) : Type 0 where
  pub no_part : (whole : Bool) (part : Part) → IsFormed whole part → lines_in part ≡ before ++ line ∷ [] → ⊥

-- how the lines of a file are read as parts
pub data IsRead (lines : List PlainLine) (part : Part) : Type 0 where
  whole_file : IsFormed true part → lines_in part ≡ lines → IsRead lines part
  open_at_end : IsFormed false part → ends_open part ≡ true → lines_in part ≡ lines → IsRead lines part
  broken_at :
      (line : PlainLine) (rest : List PlainLine) → IsFormed false part → lines ≡ lines_in part ++ line ∷ rest
      → IsMisplaced (lines_in part) line → IsRead lines part
