-- `check` comes to something: of the configurations that a project admits one is the least that is refused, or all are accepted.
use Rattle.std.proofs.Common.{◌≡◌, inl, inr, ◌⊎◌, ℕ, zero, suc, ◌+◌, ◌<◌, ◌≤◌, Bool, true, false, List, [], ◌∷◌, ◌++◌, length, IsTrue, refl, sym, ap, subst, ◌∙◌, arith}
use Rattle.std.proofs.lemmas.Bool.{cases_lt}
use mathlib.Core.Path.{fun_ext}
use Rattle.text_edits.specs.Files.{PlainFile, Lookup}
use Rattle.cond_formula.specs.Features.{has}
use Rattle.cond_formula.specs.Conditions.{value}
use Rattle.sat_core.specs.Models.{IsLess, AreSame}
use Rattle.core_meaning.specs.Program.{PlainProgram}
use Rattle.project_file.specs.Projects.{PlainProject}
use Rattle.project_store.specs.Reads.{names_of}
use Rattle.project_program.specs.declared.programs.Stage.{Stage}
use Rattle.project_program.specs.Programs.{IsProgram, IsRefusedAt}
use Rattle.project_program.specs.Laws.{ProgramsAreOne}
use Rattle.project_check.specs.declared.outcomes.CheckOutcome.TheVariants.{Accepted, Broken}
use Rattle.file_outcomes.specs.Laws.{NoFileIsLeftOut}
use Rattle.product_outcomes.specs.Laws.{NoProductIsLeftOut}
use Rattle.command_outcomes.specs.Concluding.{Concludes}
use Rattle.command_outcomes.proofs.Courses.{says_so, files_conclude, project_concludes}
use Rattle.command_outcomes.proofs.Least.{has_end, has_past, one_longer, Follows, follows_more, shorter}
use Rattle.command_check.specs.Check.{said_of, OfProducts, OfProject}
use Rattle.command_check.specs.Laws.{CheckConcludes}

-- ---- of finitely many sets of features one is the first that is bad, or all are good

-- no feature from this number on
abbrev IsWithin : ℕ → (ℕ → Bool) → Type 0
IsWithin n on = (i : ℕ) → n ≤ i → on i ≡ false

same_set : (n : ℕ) (p : List Bool) (on : ℕ → Bool) → length p ≡ n → IsWithin n on → Follows p on → has p ≡ on
same_set n p on e within f = fun_ext (λ i. by i (cases_lt i n))
  where
    by : (i : ℕ) → (i < n) ⊎ (n ≤ i) → has p i ≡ on i
    by i (inl inside) = f i (omega (arith, inside, e))
    by i (inr past) = has_past p i (omega (arith, past, e)) ∙ sym (within i past)

module _ (n : ℕ) (few : n ≤ 128) (Bad Good : (ℕ → Bool) → Type 0) (apart : (on : ℕ → Bool) → Good on → Bad on → ⊥) (either : (on : ℕ → Bool) → (Bad on ⊎ Good on → ⊥) → ⊥) where
  record HasFirst (p : List Bool) : Type 0 where
    config : List Bool
    sized : length config ≡ n
    starts : Follows p (has config)
    bad : Bad (has config)
    least : (on : ℕ → Bool) → IsWithin n on → Bad on → Follows p on → AreSame n (has config) on ⊎ IsLess n (has config) on

  abbrev AllGood : List Bool → Type 0
  AllGood p = (on : ℕ → Bool) → IsWithin n on → Follows p on → Good on

  all_chosen : (p : List Bool) → length p ≡ n → Bad (has p) ⊎ Good (has p) → HasFirst p ⊎ AllGood p
  all_chosen p e (inl bad) = inl (record {
    config = p;
    sized = e;
    starts = λ i inside. refl;
    bad = bad;
    least = λ on within b f. inl (record { same = λ i inside. f i (omega (arith, inside, e)) });
  })
  all_chosen p e (inr good) = inr (λ on within f. subst Good (same_set n p on e within f) good)

  off_first : (p : List Bool) → length p < n → HasFirst (p ++ false ∷ []) → HasFirst p
  off_first p h found = record {
    config = found.config;
    sized = found.sized;
    starts = shorter p false (has found.config) found.starts;
    bad = found.bad;
    least = λ on within b f. by on within b f (on (length p)) refl;
  }
    where
      by : (on : ℕ → Bool) → IsWithin n on → Bad on → Follows p on → (b : Bool) → on (length p) ≡ b → AreSame n (has found.config) on ⊎ IsLess n (has found.config) on
      by on within bad f false e = found.least on within bad (follows_more p false on (omega (arith, h, few)) f e)
      by on within bad f true e = inr (record {
        first = length p;
        within = h;
        same_before = λ i inside. sym (shorter p false (has found.config) found.starts i inside) ∙ f i inside;
        off = sym (found.starts (length p) (omega (arith, one_longer p false))) ∙ has_end p false (omega (arith, h, few));
        other_on = e;
      })

  on_first : (p : List Bool) → length p < n → AllGood (p ++ false ∷ []) → HasFirst (p ++ true ∷ []) → HasFirst p
  on_first p h good found = record {
    config = found.config;
    sized = found.sized;
    starts = shorter p true (has found.config) found.starts;
    bad = found.bad;
    least = λ on within b f. by on within b f (on (length p)) refl;
  }
    where
      by : (on : ℕ → Bool) → IsWithin n on → Bad on → Follows p on → (b : Bool) → on (length p) ≡ b → AreSame n (has found.config) on ⊎ IsLess n (has found.config) on
      by on within bad f true e = found.least on within bad (follows_more p true on (omega (arith, h, few)) f e)
      by on within bad f false e = absurd (apart on (good on within (follows_more p false on (omega (arith, h, few)) f e)) bad)

  all_good : (p : List Bool) → length p < n → AllGood (p ++ false ∷ []) → AllGood (p ++ true ∷ []) → AllGood p
  all_good p h good good' on within f = by (on (length p)) refl
    where
      by : (b : Bool) → on (length p) ≡ b → Good on
      by false e = good on within (follows_more p false on (omega (arith, h, few)) f e)
      by true e = good' on within (follows_more p true on (omega (arith, h, few)) f e)

  -- by halves: first those without the next feature, then those with it
  search : (m : ℕ) (p : List Bool) → length p + m ≡ n → (HasFirst p ⊎ AllGood p → ⊥) → ⊥
  search zero p e none = either (has p) (λ x. none (all_chosen p (omega (arith, e)) x))
  search (suc m) p e none =
      search m (p ++ false ∷ []) (omega (arith, e, one_longer p false))
      (λ x. search m (p ++ true ∷ []) (omega (arith, e, one_longer p true)) (λ y. none (by x y)))
    where
      inside : length p < n
      inside = omega (arith, e)

      by : HasFirst (p ++ false ∷ []) ⊎ AllGood (p ++ false ∷ []) → HasFirst (p ++ true ∷ []) ⊎ AllGood (p ++ true ∷ []) → HasFirst p ⊎ AllGood p
      by (inl found) other = inl (off_first p inside found)
      by (inr good) (inl found) = inl (on_first p inside good found)
      by (inr good) (inr good') = inr (all_good p inside good good')

-- ---- of the configurations that a project admits

module _ (products_law : NoProductIsLeftOut) (one : ProgramsAreOne) (held : Lookup) (project : PlainProject) (few : length project.features ≤ 128) where
  abbrev IsBad : List PlainFile → (ℕ → Bool) → Type 0
  IsBad sources on = IsTrue (value on project.model) × (stage : Stage) × IsRefusedAt project sources on stage

  abbrev IsGood : List PlainFile → (ℕ → Bool) → Type 0
  IsGood sources on = IsTrue (value on project.model) → (program : PlainProgram) × IsProgram project sources on program

  never_both : (sources : List PlainFile) (on : ℕ → Bool) → IsGood sources on → IsBad sources on → ⊥
  never_both sources on good bad =
      let program = good bad.0 in one.not_both project sources on program.0 bad.1 program.1 bad.2

  false_true : (b : Bool) → b ≡ false → IsTrue b → ⊥
  false_true true e t = let no : ◌≡◌ {A = Bool} true false = e in cc
  false_true false e t = let no : ◌≡◌ {A = Bool} false true = t in cc

  one_of_both : (sources : List PlainFile) → length sources ≡ length (names_of project) → (on : ℕ → Bool) → (IsBad sources on ⊎ IsGood sources on → ⊥) → ⊥
  one_of_both sources same on none = by (value on project.model) refl
    where
      by : (b : Bool) → value on project.model ≡ b → ⊥
      by true e =
          products_law project sources on same (λ program is. none (inr (λ admitted. (program, is)))) (λ stage is. none (inl (e, stage, is)))
      by false e = none (inr (λ admitted. absurd (false_true (value on project.model) e admitted)))

  products_end : (sources : List PlainFile) → length sources ≡ length (names_of project) → Concludes (OfProducts project sources) held
  products_end sources same say read =
      search (length project.features) few (IsBad sources) (IsGood sources) (never_both sources) (one_of_both sources same) (length project.features) [] (omega arith)
      (λ x. by x)
    where
      by : HasFirst (length project.features) few (IsBad sources) (IsGood sources) (never_both sources) (one_of_both sources same) [] ⊎ AllGood (length project.features) few (IsBad sources) (IsGood sources) (never_both sources) (one_of_both sources same) [] → ⊥
      by (inl found) =
          let c = found.config in
          let stage = found.bad.1 in
          says_so held (OfProducts project sources) (said_of project.features (Broken c stage)) (
            Broken c stage,
            (
              record {
                admitted = record { within = λ i past. has_past c i (omega (arith, past, found.sized)); admitted = found.bad.0 };
                holds = (stage, found.bad.2);
                least = λ other admitted holds. found.least (has other) admitted.within (admitted.admitted, holds.0, holds.1) (λ i inside. absurd (omega (arith, inside)));
              },
              found.bad.2,
            ),
            refl,
          )
          say read
      by (inr all) =
          says_so held (OfProducts project sources) (said_of project.features Accepted)
          (Accepted, (λ c admitted. all (has c) admitted.within (λ i inside. absurd (omega (arith, inside))) admitted.admitted), refl)
          say read

  project_ends : Concludes (OfProject project) held
  project_ends = files_conclude held (names_of project) (OfProducts project) products_end

pub check_ends : NoFileIsLeftOut → NoProductIsLeftOut → ProgramsAreOne → CheckConcludes
check_ends files_law products_law one alloc name held =
    project_concludes held files_law alloc name OfProject
    (λ project bytes is.
    let features : length project.features ≡ length is.contents.features = ap length is.project_is.features in
    project_ends products_law one held project (subst (λ n. n ≤ 128) (sym features) is.says.are_contents.features.few))
