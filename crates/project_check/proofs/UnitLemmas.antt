-- Units one by one: which are present, and what becomes of them.
use Rattle.std.proofs.Common.{◌≡◌, ℕ, zero, suc, ◌+◌, ◌<◌, Bool, true, false, ◌&&◌, ◌||◌, List, [], ◌∷◌, ◌++◌, length, take, map, get_or, refl, sym, ap, subst, ◌∙◌, arith}
use Rattle.std.specs.Prelude.{IsTrue, if◌then◌else◌}
use Rattle.std.specs.List.{AllZip, Contains}
use Rattle.std.proofs.lemmas.List.{map-append, length-map, append-nil, length-take-le, take_more, take_all}
use Rattle.std.proofs.lemmas.List.Elements.{Contains-append_left, Contains-push}
use Rattle.text_edits.specs.Files.{PlainFile}
use Rattle.cond_formula.specs.Conditions.{condition_of, value}
use Rattle.c_text.specs.Token.{PlainToken}
use Rattle.c_tree.specs.Trees.{PlainTree}
use Rattle.c_tree.specs.Units.{IsTreeOf}
use Rattle.choice_trees.specs.declared.trees.Forest.{Forest}
use Rattle.choice_trees.specs.ChoiceTrees.{forest_at}
use Rattle.choice_trees.specs.Leaves.{forest_leaves}
use Rattle.project_file.specs.declared.projects.Unit.{Unit}
use Rattle.project_file.specs.declared.projects.Project.{Project}
use Rattle.project_file.specs.Projects.{PlainUnit, PlainProject}
use Rattle.project_file.specs.View.{unit_view, project_view}
use Rattle.cond_tokens.specs.declared.tokens.CondStream.{CondStream}
use Rattle.cond_tokens.specs.Streams.{tokens_at}
use Rattle.choice_parser.specs.Units.{IsParsed, numbered_at}
use Rattle.plain_pp.specs.Units.{sources_of, file_of}
use Rattle.cond_pp.specs.Streams.{IsStreamAt}
use Rattle.project_program.specs.Programs.{present_from, present_units, UnitGives, IsNotPreprocessed}
use Rattle.project_program.specs.Steps.{LacksTree}
use Rattle.cond_scopes.specs.Units.{present_trees}
use Rattle.project_check.specs.Parsed.{HaveTree, IsUnitParsed, AreReadUnits, AreLeaves}

-- ---- lists with one more

abbrev pub perhaps : {A : Type 0} → Bool → A → List A
perhaps true x = x ∷ []
perhaps false x = []

behind : {A : Type 0} (b : Bool) (x : A) (all front back : List A) → all ≡ front ++ back → (if b then x ∷ all else all) ≡ (if b then x ∷ front else front) ++ back
behind true x all front back e = ap (λ l. x ∷ l) e
behind false x all front back e = e

alone : {A : Type 0} (b : Bool) (x y : A) → x ≡ y → (if b then x ∷ [] else []) ≡ perhaps b y
alone true x y e = ap (λ z. z ∷ []) e
alone false x y e = refl

zipped_push : {A B : Type 0} (R : A → B → Type 0) (xs : List A) (ys : List B) (x : A) (y : B) → AllZip R xs ys → R x y → AllZip R (xs ++ x ∷ []) (ys ++ y ∷ [])
zipped_push R [] [] x y h r = (r, tt)
zipped_push R [] (b ∷ ys) x y h r = absurd h
zipped_push R (a ∷ xs) [] x y h r = absurd h
zipped_push R (a ∷ xs) (b ∷ ys) x y h r = (h.0, zipped_push R xs ys x y h.1 r)

contains_later : {A : Type 0} (first : A) (xs : List A) (x : A) → Contains xs x → Contains (first ∷ xs) x
contains_later first xs x h = (suc h.0, omega (arith, h.1), h.2)

-- ---- units that are present

module _ (on : ℕ → Bool) where
  present_more : (place : ℕ) (units : List PlainUnit) (unit : PlainUnit) → present_from on place (units ++ unit ∷ []) ≡ present_from on place units ++ perhaps (value on unit.when) (place + length units)
  present_more place [] unit = alone (value on unit.when) place (place + 0) (omega arith)
  present_more place (u ∷ units) unit =
      let same : place + 1 + length units ≡ place + length (u ∷ units) = omega arith in
      behind (value on u.when) place (present_from on (place + 1) (units ++ unit ∷ [])) (present_from on (place + 1) units) (perhaps (value on unit.when) (place + length (u ∷ units)))
      (present_more (place + 1) units unit ∙ ap (λ n. present_from on (place + 1) units ++ perhaps (value on unit.when) n) same)

  trees_more :
      (units : List Unit) (forests : List Forest) (unit : Unit) (forest : Forest) → length forests ≡ length units
      → present_trees on (units ++ unit ∷ []) (forests ++ forest ∷ []) ≡ present_trees on units forests ++ perhaps (value on (condition_of unit.when)) (forest_at on forest)
  trees_more [] [] unit forest e = alone (value on (condition_of unit.when)) (forest_at on forest) (forest_at on forest) refl
  trees_more [] (f ∷ forests) unit forest e = absurd (omega (arith, e))
  trees_more (u ∷ units) [] unit forest e = absurd (omega (arith, e))
  trees_more (u ∷ units) (f ∷ forests) unit forest e =
      behind (value on (condition_of u.when)) (forest_at on f) (present_trees on (units ++ unit ∷ []) (forests ++ forest ∷ [])) (present_trees on units forests) (perhaps (value on (condition_of unit.when)) (forest_at on forest))
      (trees_more units forests unit forest (omega (arith, e)))

  perhaps_later : (b : Bool) (place : ℕ) (rest : List ℕ) (x : ℕ) → Contains rest x → Contains (if b then place ∷ rest else rest) x
  perhaps_later true place rest x h = contains_later place rest x h
  perhaps_later false place rest x h = h

  first_if : (b : Bool) (place x : ℕ) (rest : List ℕ) → b ≡ true → place ≡ x → Contains (if b then place ∷ rest else rest) x
  first_if true place x rest h e = (0, omega arith, e)
  first_if false place x rest h e = absurd (let no : ◌≡◌ {A = Bool} false true = h in cc)

  contains_present :
      (place : ℕ) (units : List Unit) (k : ℕ) (unit : Unit) → k < length units → unit ≡ get_or units k unit → value on (condition_of unit.when) ≡ true
      → Contains (present_from on place (map unit_view units)) (place + k)
  contains_present place [] k unit inside is here = absurd (omega (arith, inside))
  contains_present place (u ∷ units) zero unit inside is here =
      first_if (value on (condition_of u.when)) place (place + 0) (present_from on (place + 1) (map unit_view units)) (ap (λ (x : Unit). value on (condition_of x.when)) (sym is) ∙ here) (omega arith)
  contains_present place (u ∷ units) (suc k) unit inside is here =
      let same : place + 1 + k ≡ place + suc k = omega arith in
      perhaps_later (value on (condition_of u.when)) place (present_from on (place + 1) (map unit_view units)) (place + suc k)
      (subst (λ n. Contains (present_from on (place + 1) (map unit_view units)) n) same (contains_present (place + 1) units k unit (omega (arith, inside)) is here))

-- ---- what becomes of them

-- one list of tokens has no tree, or these are the trees
abbrev HaveTrees : List (List PlainToken) → Bool → List PlainTree → Type 0
HaveTrees tokens true trees = LacksTree tokens
HaveTrees tokens false trees = AllZip IsTreeOf tokens trees

module _ (on : ℕ → Bool) (project : PlainProject) (files : List PlainFile) where
  -- the units at these places gave tokens
  pub record ReadSoFar (treeless : Bool) (places : List ℕ) (trees : List PlainTree) : Type 0 where
    pub tokens : List (List PlainToken)
    pub given : AllZip (UnitGives project files on) places tokens
    pub have : HaveTrees tokens treeless trees

  abbrev pub SoFar : Bool → Bool → List ℕ → List PlainTree → Type 0
  SoFar true treeless places trees = IsNotPreprocessed project files on
  SoFar false treeless places trees = ReadSoFar treeless places trees

  lacks_front : (tokens : List (List PlainToken)) (ts : List PlainToken) → LacksTree tokens → LacksTree (tokens ++ ts ∷ [])
  lacks_front tokens ts h = record { tokens = h.tokens; one = Contains-append_left tokens (ts ∷ []) h.tokens h.one; treeless = h.treeless }

  absent_too : (place : ℕ) (tree : PlainTree) (treeless t : Bool) (places : List ℕ) (trees : List PlainTree) → ReadSoFar treeless places trees → ReadSoFar (treeless || (false && t)) (places ++ []) (trees ++ [])
  absent_too place tree true t places trees h = rw (append-nil places, append-nil trees) h
  absent_too place tree false t places trees h = rw (append-nil places, append-nil trees) h

  tree_too :
      (forest : Forest) (treeless t : Bool) (tokens : List (List PlainToken)) (ts : List PlainToken) (trees : List PlainTree) → HaveTrees tokens treeless trees → HaveTree on ts t forest
      → HaveTrees (tokens ++ ts ∷ []) (treeless || (true && t)) (trees ++ forest_at on forest ∷ [])
  tree_too forest true t tokens ts trees h x = lacks_front tokens ts h
  tree_too forest false true tokens ts trees h x = record { tokens = ts; one = Contains-push tokens ts; treeless = x }
  tree_too forest false false tokens ts trees h x = zipped_push IsTreeOf tokens trees ts (forest_at on forest) h x

  one_more :
      (place : ℕ) (here unread_here treeless_here : Bool) (forest : Forest) (unread treeless : Bool) (places : List ℕ) (trees : List PlainTree)
      → SoFar unread treeless places trees → (here ≡ true → Contains (present_units project on) place) → IsUnitParsed on project files place unread_here treeless_here forest
      → SoFar (unread || (here && unread_here)) (treeless || (here && treeless_here)) (places ++ perhaps here place) (trees ++ perhaps here (forest_at on forest))
  one_more place here u t forest true treeless places trees so_far among is = so_far
  one_more place false u t forest false treeless places trees so_far among is = absent_too place (forest_at on forest) treeless t places trees so_far
  one_more place true true t forest false treeless places trees so_far among is = record { unit = place; present = among refl; why = is.0; refused = is.1 }
  one_more place true false t forest false treeless places trees so_far among is = record {
    tokens = so_far.tokens ++ is.tokens ∷ [];
    given = zipped_push (UnitGives project files on) places so_far.tokens place is.tokens so_far.given is.given;
    have = tree_too forest treeless t so_far.tokens is.tokens trees so_far.have is.tree;
  }

-- what a unit is by its stream and by its trees
pub unit_parsed :
    (on : ℕ → Bool) (project : PlainProject) (files : List PlainFile) (place : ℕ) (stream : CondStream) (unread treeless : Bool) (forest : Forest)
    → IsStreamAt on (sources_of project files on) (file_of project place) stream → unread ≡ value on (condition_of stream.refused) → IsParsed on stream.tokens.items treeless forest
    → IsUnitParsed on project files place unread treeless forest
unit_parsed on project files place stream true treeless forest is e parsed = is.refused (sym e)
unit_parsed on project files place stream false treeless forest is e parsed = record {
  tokens = tokens_at on stream.tokens.items;
  given = is.tokens (sym e);
  tree = by treeless parsed;
}
  where
    by : (b : Bool) → IsParsed on stream.tokens.items b forest → HaveTree on (tokens_at on stream.tokens.items) b forest
    by true h = h
    by false h = h.0

-- ---- the leaves of their trees

leaves_more :
    (on : ℕ → Bool) (units : List Unit) (streams : List CondStream) (forests : List Forest) (unit : Unit) (stream : CondStream) (forest : Forest) → AreLeaves on units streams forests
    → (IsTrue (value on (condition_of unit.when)) → forest_leaves on forest ≡ numbered_at on 0 stream.tokens.items)
    → AreLeaves on (units ++ unit ∷ []) (streams ++ stream ∷ []) (forests ++ forest ∷ [])
leaves_more on [] [] [] unit stream forest h one = (one, tt)
leaves_more on [] [] (f ∷ forests) unit stream forest h one = absurd h
leaves_more on [] (s ∷ streams) forests unit stream forest h one = absurd h
leaves_more on (u ∷ units) [] forests unit stream forest h one = absurd h
leaves_more on (u ∷ units) (s ∷ streams) [] unit stream forest h one = absurd h
leaves_more on (u ∷ units) (s ∷ streams) (f ∷ forests) unit stream forest h one = (h.0, leaves_more on units streams forests unit stream forest h.1 one)

neither : (a b : Bool) → (a || b) ≡ false → (a ≡ false) × (b ≡ false)
neither true b e = absurd (let no : ◌≡◌ {A = Bool} true false = e in cc)
neither false b e = (refl, e)

not_the_other : (a b : Bool) → (a && b) ≡ false → IsTrue a → b ≡ false
not_the_other true b e h = e
not_the_other false b e h = absurd cc

-- one unit more, where its tokens have a tree
pub next_leaves :
    (on : ℕ → Bool) (units : List Unit) (k : ℕ) (unit : Unit) (stream : CondStream) (forest : Forest) (treeless_here treeless new_treeless : Bool)
    (streams new_streams : List CondStream) (forests new_forests : List Forest) → k < length units → unit ≡ get_or units k unit
    → (treeless ≡ false → AreLeaves on (take k units) streams forests) → (treeless_here ≡ false → forest_leaves on forest ≡ numbered_at on 0 stream.tokens.items)
    → new_streams ≡ streams ++ stream ∷ [] → new_forests ≡ forests ++ forest ∷ [] → new_treeless ≡ (treeless || (value on (condition_of unit.when) && treeless_here))
    → new_treeless ≡ false → AreLeaves on (take (k + 1) units) new_streams new_forests
next_leaves on units k unit stream forest t treeless new_treeless streams new_streams forests new_forests inside is so_far here streams_are forests_are treeless_is none =
    let front : take (k + 1) units ≡ take k units ++ unit ∷ [] = take_more units k unit inside ∙ ap (λ z. take k units ++ z ∷ []) (sym is) in
    let off = neither treeless (value on (condition_of unit.when) && t) (sym treeless_is ∙ none) in
    rw (front, streams_are, forests_are)
    (leaves_more on (take k units) streams forests unit stream forest (so_far off.0) (λ there. here (not_the_other (value on (condition_of unit.when)) t off.1 there)))

-- the leaves of a unit whose tokens have a tree
pub parsed_leaves : (on : ℕ → Bool) (stream : CondStream) (treeless : Bool) (forest : Forest) → IsParsed on stream.tokens.items treeless forest → treeless ≡ false → forest_leaves on forest ≡ numbered_at on 0 stream.tokens.items
parsed_leaves on stream true forest h e = absurd (let no : ◌≡◌ {A = Bool} true false = e in cc)
parsed_leaves on stream false forest h e = h.1

module _ (on : ℕ → Bool) (project : Project) (files : List PlainFile) where
  -- these units, with their forests
  abbrev pub UnitsSoFar : Bool → Bool → List Unit → List Forest → Type 0
  UnitsSoFar unread treeless units forests =
      SoFar on (project_view project) files unread treeless (present_from on 0 (map unit_view units)) (present_trees on units forests)

  pub no_unit_yet : (unread treeless : Bool) (forests : List Forest) → unread ≡ false → treeless ≡ false → UnitsSoFar unread treeless (take 0 project.units.items) forests
  no_unit_yet unread treeless forests e f = rw (e, f) (record { tokens = []; given = tt; have = tt })

  one_unit_more :
      (place : ℕ) (unit : Unit) (forest : Forest) (unread_here treeless_here unread treeless new_unread new_treeless : Bool) (units new_units : List Unit) (forests new_forests : List Forest)
      → UnitsSoFar unread treeless units forests → length forests ≡ length units → place ≡ length units
      → (value on (condition_of unit.when) ≡ true → Contains (present_units (project_view project) on) place)
      → IsUnitParsed on (project_view project) files place unread_here treeless_here forest
      → new_units ≡ units ++ unit ∷ [] → new_forests ≡ forests ++ forest ∷ []
      → new_unread ≡ (unread || (value on (condition_of unit.when) && unread_here)) → new_treeless ≡ (treeless || (value on (condition_of unit.when) && treeless_here))
      → UnitsSoFar new_unread new_treeless new_units new_forests
  one_unit_more place unit forest u t unread treeless new_unread new_treeless units new_units forests new_forests so_far as_many at among is units_are forests_are unread_is treeless_is =
      let here = value on (condition_of unit.when) in
      let places : present_from on 0 (map unit_view new_units) ≡ present_from on 0 (map unit_view units) ++ perhaps here place
      = ap (λ us. present_from on 0 (map unit_view us)) units_are ∙ ap (present_from on 0) (map-append unit_view units (unit ∷ [])) ∙ present_more on 0 (map unit_view units) (unit_view unit)
      ∙ ap (λ n. present_from on 0 (map unit_view units) ++ perhaps here n) (omega (arith, at, length-map units unit_view)) in
      let trees : present_trees on new_units new_forests ≡ present_trees on units forests ++ perhaps here (forest_at on forest)
      = ap (λ us. present_trees on us new_forests) units_are ∙ ap (λ fs. present_trees on (units ++ unit ∷ []) fs) forests_are ∙ trees_more on units forests unit forest as_many in
      rw (places, trees, unread_is, treeless_is) (one_more on (project_view project) files place here u t forest unread treeless (present_from on 0 (map unit_view units)) (present_trees on units forests) so_far among is)

  is_among :
      (k : ℕ) (unit : Unit) → k < length project.units.items → unit ≡ get_or project.units.items k unit → value on (condition_of unit.when) ≡ true
      → Contains (present_units (project_view project) on) k
  is_among k unit inside is here =
      let same : 0 + k ≡ k = omega arith in
      subst (λ n. Contains (present_units (project_view project) on) n) same (contains_present on 0 project.units.items k unit inside is here)

  -- one unit more
  pub next_unit :
      (k : ℕ) (unit : Unit) (forest : Forest) (unread_here treeless_here unread treeless new_unread new_treeless : Bool) (forests new_forests : List Forest)
      → k < length project.units.items → unit ≡ get_or project.units.items k unit → length forests ≡ k
      → UnitsSoFar unread treeless (take k project.units.items) forests
      → IsUnitParsed on (project_view project) files k unread_here treeless_here forest → new_forests ≡ forests ++ forest ∷ []
      → new_unread ≡ (unread || (value on (condition_of unit.when) && unread_here)) → new_treeless ≡ (treeless || (value on (condition_of unit.when) && treeless_here))
      → UnitsSoFar new_unread new_treeless (take (k + 1) project.units.items) new_forests
  next_unit k unit forest u t unread treeless new_unread new_treeless forests new_forests inside is as_many so_far parsed forests_are unread_is treeless_is =
      let units = project.units.items in
      let so_many : length (take k units) ≡ k = length-take-le k units (omega (arith, inside)) in
      let front : take (k + 1) units ≡ take k units ++ unit ∷ [] = take_more units k unit inside ∙ ap (λ z. take k units ++ z ∷ []) (sym is) in
      one_unit_more k unit forest u t unread treeless new_unread new_treeless (take k units) (take (k + 1) units) forests new_forests so_far (omega (arith, as_many, so_many)) (sym so_many) (is_among k unit inside is) parsed
      front forests_are unread_is treeless_is

  pub no_unit_left : (unread treeless : Bool) (forests : List Forest) → UnitsSoFar unread treeless project.units.items forests → AreReadUnits on project files unread treeless forests
  no_unit_left true treeless forests h = h
  no_unit_left false true forests h = record { tokens = h.tokens; preprocessed = h.given; of_unit = h.have.tokens; one = h.have.one; treeless = h.have.treeless }
  no_unit_left false false forests h = record { tokens = h.tokens; preprocessed = h.given; parsed = h.have }

  pub all_units : (n : ℕ) (unread treeless : Bool) (forests : List Forest) → n ≡ length project.units.items → UnitsSoFar unread treeless (take n project.units.items) forests → AreReadUnits on project files unread treeless forests
  all_units n unread treeless forests e h =
      let whole : take n project.units.items ≡ project.units.items = ap (λ m. take m project.units.items) e ∙ take_all (length project.units.items) project.units.items (omega arith) in
      no_unit_left unread treeless forests (subst (λ us. UnitsSoFar unread treeless us forests) whole h)
