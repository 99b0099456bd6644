-- The leaves of trees whose tokens tell their numbers.
use Rattle.std.proofs.Common.{◌≡◌, ℕ, zero, suc, ◌≤◌, Bool, true, false, List, [], ◌∷◌, map, Some, refl, sym, ap, subst, ◌∙◌, arith}
use Rattle.std.specs.Prelude.{slice_get, if◌then◌else◌}
use Rattle.std.specs.List.{AllByRecursion, AllZip}
use Rattle.std.proofs.lemmas.List.Elements.{All-from_recursion}
use Rattle.cond_formula.specs.Conditions.{condition_of, value}
use Rattle.c_text.specs.Token.{plain_token}
use Rattle.choice_trees.specs.declared.trees.Forest.{Forest}
use Rattle.choice_trees.specs.Leaves.{Leaf}
use Rattle.project_file.specs.declared.projects.Unit.{Unit}
use Rattle.cond_tokens.specs.declared.tokens.CondToken.{CondToken}
use Rattle.cond_tokens.specs.declared.tokens.CondStream.{CondStream}
use Rattle.choice_parser.specs.Units.{numbered_at}
use Rattle.project_check.specs.Parsed.{AreLeaves}
use Rattle.changed_forests.specs.Changed.{changed_leaf}
use Rattle.changed_forests.specs.Numbered.{numbering, number_of, IsNumbered}
use Rattle.changed_forests.specs.Laws.{ChangesAreSeen}
use Rattle.told_occurrences.specs.Leaves.{TellsNumber, TellNumbers}
use Rattle.told_units.specs.Units.{UnitsTellNumbers}

module _ (on : ℕ → Bool) where
  -- the tokens of a stream that are there, from a number on, each with its number for its site
  abbrev sited_from : ℕ → List CondToken → List Leaf
  sited_from number tokens = map (changed_leaf numbering) (numbered_at on number tokens)

  abbrev this : ℕ → CondToken → Leaf
  this number first = changed_leaf numbering (record { number = Some number; text = plain_token first.token })

  -- the first of them, if it is there, and those behind it
  abbrev sited_next : Bool → ℕ → CondToken → List CondToken → List Leaf
  sited_next there number first rest =
      map (changed_leaf numbering) (if there then record { number = Some number; text = plain_token first.token } ∷ numbered_at on (suc number) rest else numbered_at on (suc number) rest)

  tell : (number : ℕ) (tokens : List CondToken) → AllByRecursion TellsNumber (sited_from number tokens)
  tell number [] = tt
  tell number (first ∷ rest) = by (value on (condition_of first.when)) (tell (suc number) rest)
    where
      by : (b : Bool) → AllByRecursion TellsNumber (sited_from (suc number) rest)
          → AllByRecursion TellsNumber (sited_next b number first rest)
      by true behind = ((λ name. refl), behind)
      by false behind = behind

  -- those behind a number have greater ones
  above : (number : ℕ) (tokens : List CondToken) (i : ℕ) (a : Leaf) → slice_get (sited_from number tokens) i ≡ Some a → number ≤ number_of a.text
  above number [] i a e = absurd (cc)
  above number (first ∷ rest) i a e = by (value on (condition_of first.when)) i e (λ j f. above (suc number) rest j a f)
    where
      by : (b : Bool) (i : ℕ)
          → slice_get (sited_next b number first rest) i ≡ Some a
          → ((j : ℕ) → slice_get (sited_from (suc number) rest) j ≡ Some a → suc number ≤ number_of a.text) → number ≤ number_of a.text
      by true zero e behind = let same : this number first ≡ a = cc in subst (λ (l : Leaf). number ≤ number_of l.text) same (omega arith)
      by true (suc j) e behind = let later = behind j e in omega (arith, later)
      by false i e behind = let later = behind i e in omega (arith, later)

  apart :
      (number : ℕ) (tokens : List CondToken) (i j : ℕ) (a b : Leaf) → slice_get (sited_from number tokens) i ≡ Some a → slice_get (sited_from number tokens) j ≡ Some b
      → number_of a.text ≡ number_of b.text → i ≡ j
  apart number [] i j a b e f same = absurd (cc)
  apart number (first ∷ rest) i j a b e f same = by (value on (condition_of first.when)) i j e f (λ k l g h. apart (suc number) rest k l a b g h same)
    where
      by : (x : Bool) (i j : ℕ) → slice_get (sited_next x number first rest) i ≡ Some a → slice_get (sited_next x number first rest) j ≡ Some b
          → ((k l : ℕ) → slice_get (sited_from (suc number) rest) k ≡ Some a → slice_get (sited_from (suc number) rest) l ≡ Some b → k ≡ l) → i ≡ j
      by false i j e f behind = behind i j e f
      by true zero zero e f behind = refl
      by true (suc k) (suc l) e f behind = ap suc (behind k l e f)
      by true zero (suc l) e f behind =
          let is : this number first ≡ a = cc in
          let here : number ≡ number_of a.text = ap (λ (x : Leaf). number_of x.text) is in
          let later = above (suc number) rest l b f in absurd (omega (arith, here, later, same))
      by true (suc k) zero e f behind =
          let is : this number first ≡ b = cc in
          let here : number ≡ number_of b.text = ap (λ (x : Leaf). number_of x.text) is in
          let later = above (suc number) rest k a e in absurd (omega (arith, here, later, same))

  sited_tell : (tokens : List CondToken) → TellNumbers (sited_from 0 tokens)
  sited_tell tokens = record {
    told = All-from_recursion TellsNumber (sited_from 0 tokens) (tell 0 tokens);
    apart = λ i j a b e f name other same. apart 0 tokens i j a b e f same;
  }

  -- where a unit is present, the leaves of its trees tell their numbers
  pub units_tell :
      ChangesAreSeen → (units : List Unit) (streams : List CondStream) (forests numbered : List Forest) → AreLeaves on units streams forests → AllZip IsNumbered forests numbered
      → UnitsTellNumbers on units numbered
  units_tell seen [] streams forests numbered leaves are = tt
  units_tell seen (unit ∷ units) [] forests numbered leaves are = absurd leaves
  units_tell seen (unit ∷ units) (stream ∷ streams) [] numbered leaves are = absurd leaves
  units_tell seen (unit ∷ units) (stream ∷ streams) (forest ∷ forests) [] leaves are = absurd are
  units_tell seen (unit ∷ units) (stream ∷ streams) (forest ∷ forests) (new ∷ numbered) leaves are = (
    λ there. subst TellNumbers (sym (seen numbering forest new are.0 on ∙ ap (map (changed_leaf numbering)) (leaves.0 there))) (sited_tell stream.tokens.items),
    units_tell seen units streams forests numbered leaves.1 are.1,
  )
