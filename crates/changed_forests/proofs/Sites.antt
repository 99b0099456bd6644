-- Units that are the same but for the sites of their tokens are judged the same: both are judged as they are without sites.
use Rattle.std.proofs.Common.{◌≡◌, ℕ, ◌+◌, List, [], ◌∷◌, map, refl, sym, ap, ◌∙◌}
use Rattle.c_tree.specs.Trees.{PlainTree}
use Rattle.core_meaning.specs.Checking.{Binding, Checked, fine, refused, broken, with_bindings, ◌>>=◌}
use Rattle.core_meaning.specs.Entities.{Struct, Numbers}
use Rattle.core_meaning.specs.UnitNames.{UnitState, judged_unit}
use Rattle.core_meaning.specs.Linking.{Units, closed, judged_units, judged_program}
use Rattle.moved_programs.specs.Trees.{moved_tree}
use Rattle.moved_programs.proofs.Follows.{told_as, as_one, fine_together}
use Rattle.moved_programs.proofs.Constants.{kinds_as_one}
use Rattle.moved_programs.proofs.Items.{unit_follows}
use Rattle.moved_programs.proofs.Programs.{program_follows}
use Rattle.changed_forests.specs.Numbered.{unsited, SameButSites, AreSameButSites}
use Rattle.changed_forests.specs.Laws.{SitesDontMatter}

units_lem :
    (tree other : PlainTree) → SameButSites tree other → (globals : ℕ) (structs : List Struct) (numbers : Numbers) (unit : UnitState) (bindings : List Binding)
    → judged_unit globals structs numbers tree ≡ fine unit bindings → judged_unit globals structs numbers other ≡ fine unit bindings
units_lem tree other same globals structs numbers unit bindings e =
    fine_together unsited (judged_unit globals structs numbers tree) (judged_unit globals structs numbers other) (judged_unit globals structs numbers (moved_tree unsited other))
    (record { holds = ap (λ t. told_as as_one (judged_unit globals structs numbers t)) (sym same) ∙ (unit_follows as_one unsited (kinds_as_one unsited) globals structs numbers tree).holds })
    (unit_follows as_one unsited (kinds_as_one unsited) globals structs numbers other) unit bindings e

-- ---- one unit after the other

abbrev WellAgain : {A : Type 0} → Checked A → Checked A → Type 0
WellAgain {A} c d = (x : A) (bindings : List Binding) → c ≡ fine x bindings → d ≡ fine x bindings

well_behind : {A : Type 0} (before : List Binding) (c d : Checked A) → WellAgain c d → WellAgain (with_bindings before c) (with_bindings before d)
well_behind before (fine y first) d again x bindings e = ap (with_bindings before) (again y first refl) ∙ e
well_behind before (refused kind token) d again x bindings e = absurd cc
well_behind before broken d again x bindings e = absurd cc

well_then : {A B : Type 0} (c d : Checked A) (m n : A → Checked B) → WellAgain c d → ((x : A) → WellAgain (m x) (n x)) → WellAgain (c >>= m) (d >>= n)
well_then (fine y first) d m n again next x bindings e =
    ap (λ k. k >>= n) (again y first refl) ∙ well_behind first (m y) (n y) (next y) x bindings e
well_then (refused kind token) d m n again next x bindings e = absurd cc
well_then broken d m n again next x bindings e = absurd cc

well_closed : (c d : Checked UnitState) → WellAgain c d → WellAgain (closed c) (closed d)
well_closed (fine state first) d again x bindings e = ap closed (again state first refl) ∙ e
well_closed (refused kind token) d again x bindings e = absurd cc
well_closed broken d again x bindings e = absurd cc

parts_of : {A : Type 0} (x y : A) (xs ys : List A) → x ∷ xs ≡ y ∷ ys → (x ≡ y) × (xs ≡ ys)
parts_of x y xs ys e = (cc, cc)

all_units_lem :
    (trees others : List PlainTree) → AreSameButSites trees others → (numbers : ℕ → Numbers) (globals index : ℕ) (structs : List Struct)
    → WellAgain (judged_units numbers globals index structs trees) (judged_units numbers globals index structs others)
all_units_lem [] [] same numbers globals index structs = λ x bindings e. e
all_units_lem [] (other ∷ others) same numbers globals index structs = absurd cc
all_units_lem (tree ∷ rest) [] same numbers globals index structs = absurd cc
all_units_lem (tree ∷ rest) (other ∷ others) same numbers globals index structs =
    well_then (closed (judged_unit globals structs (numbers index) tree)) (closed (judged_unit globals structs (numbers index) other)) _ _
    (well_closed (judged_unit globals structs (numbers index) tree) (judged_unit globals structs (numbers index) other) (units_lem tree other (both same).0 globals structs (numbers index)))
    (λ first. well_then (judged_units numbers globals (index + 1) first.structs rest) (judged_units numbers globals (index + 1) first.structs others) _ _
    (all_units_lem rest others (both same).1 numbers globals (index + 1) first.structs)
    (λ further x bindings e. e))
  where
    both : AreSameButSites (tree ∷ rest) (other ∷ others) → SameButSites tree other × AreSameButSites rest others
    both e = parts_of (moved_tree unsited tree) (moved_tree unsited other) (map (moved_tree unsited) rest) (map (moved_tree unsited) others) e

programs_lem :
    (trees others : List PlainTree) → AreSameButSites trees others → (linked : Units) (bindings : List Binding)
    → judged_program trees ≡ fine linked bindings → judged_program others ≡ fine linked bindings
programs_lem trees others same linked bindings e =
    fine_together unsited (judged_program trees) (judged_program others) (judged_program (map (moved_tree unsited) others))
    (record { holds = ap (λ ts. told_as as_one (judged_program ts)) (sym same) ∙ (program_follows as_one unsited (kinds_as_one unsited) trees).holds })
    (program_follows as_one unsited (kinds_as_one unsited) others) linked bindings e

pub sites_dont_matter_lem : SitesDontMatter
sites_dont_matter_lem = record { units = units_lem; all_units = all_units_lem; programs = programs_lem }
