-- A command on a project does one thing at most, where it does so with each project.
use Rattle.std.proofs.Common.{◌≡◌, inl, inr, ℕ, Bool, true, false, List, [], ◌∷◌, ◌++◌, map, refl, sym, ◌∙◌, ap, subst, arith}
use Rattle.text_edits.specs.Files.{PlainFile}
use Rattle.project_file.specs.Projects.{PlainUnit, PlainProject}
use Rattle.project_file.specs.Faults.{Fault, size}
use Rattle.project_file.specs.Laws.{Alike, AreAlike, ProjectsHaveNoFault, FirstFaultIsOne, ProjectsAreAlike}
use Rattle.project_store.specs.Reads.{names_of}
use Rattle.command_promises.specs.Courses.{Saying, reads, says, Course, Agree, IsDecided}
use Rattle.command_promises.specs.Sayings.{usage}
use Rattle.command_projects.specs.Names.{AsksProject}
use Rattle.command_projects.specs.Faults.{bad_project}
use Rattle.command_projects.specs.Projects.{WithProject, WithFit, WithFiles, Unless}

-- the laws on projects that it follows from
pub record ProjectLaws : Type 0 where
  pub no_fault : ProjectsHaveNoFault
  pub one_fault : FirstFaultIsOne
  pub alike : ProjectsAreAlike

pub laws_of : ProjectsHaveNoFault → FirstFaultIsOne → ProjectsAreAlike → ProjectLaws
laws_of no_fault one_fault alike = record { no_fault = no_fault; one_fault = one_fault; alike = alike }

-- words ask for one project at most
pub one_project : (further : List (List ℕ)) (m n : List ℕ) → AsksProject further m → AsksProject further n → m ≡ n
one_project further m n a b = let e : m ∷ [] ≡ n ∷ [] = sym a.words_are ∙ b.words_are in cc

pub alike_back : (a b : PlainProject) → Alike a b → Alike b a
alike_back a b like = record {
  name = sym like.name;
  features = sym like.features;
  headers = sym like.headers;
  model = λ on. sym (like.model on);
  units = back a.units b.units like.units;
} where
  back : (us vs : List PlainUnit) → AreAlike us vs → AreAlike vs us
  back [] [] h = h
  back [] (v ∷ vs) h = absurd h
  back (u ∷ us) [] h = absurd h
  back (u ∷ us) (v ∷ vs) h = (sym h.0, λ on. sym (h.1 on), back us vs h.2)

file_names_alike : (us vs : List PlainUnit) → AreAlike us vs → map (λ (u : PlainUnit). u.file) us ≡ map (λ (u : PlainUnit). u.file) vs
file_names_alike [] [] a = refl
file_names_alike [] (v ∷ vs) a = absurd a
file_names_alike (u ∷ us) [] a = absurd a
file_names_alike (u ∷ us) (v ∷ vs) a = ap (λ f. f ∷ map (λ (u : PlainUnit). u.file) us) a.0 ∙ ap (λ fs. v.file ∷ fs) (file_names_alike us vs a.2)

pub names_alike : (a b : PlainProject) → Alike a b → names_of a ≡ names_of b
names_alike a b alike =
    ap (λ hs. hs ++ map (λ (u : PlainUnit). u.file) a.units) alike.headers ∙ ap (λ fs. b.headers ++ fs) (file_names_alike a.units b.units alike.units)

pub project_decided : ProjectLaws → (name : List ℕ) (Then : PlainProject → Course) → ((a b : PlainProject) → Alike a b → Agree (Then a) (Then b)) → IsDecided (WithProject name Then)
project_decided laws name Then agree [] a b h k = h ∙ sym k
project_decided laws name Then agree (source ∷ files) a b (inl h) (inl k) =
    h.2 ∙ (ap (λ fault. says (bad_project fault)) (laws.one_fault name source.bytes h.0 k.0 h.1 k.1) ∙ sym k.2)
project_decided laws name Then agree (source ∷ files) a b (inl h) (inr k) = absurd (laws.no_fault name source.bytes k.0 h.0 k.1 h.1)
project_decided laws name Then agree (source ∷ files) a b (inr h) (inl k) = absurd (laws.no_fault name source.bytes h.0 k.0 h.1 k.1)
project_decided laws name Then agree (source ∷ files) a b (inr h) (inr k) =
    agree h.0 k.0 (laws.alike name source.bytes h.0 k.0 h.1 k.1) files a b h.2 k.2

-- whether words fit, and what comes then
pub fits_agree : {Fit : Type 0} (Fits Fits' : Fit → Type 0) (Then Then' : Fit → Course) → ((x : Fit) → Fits x → (y : Fit) × Fits' y) → ((x : Fit) → Fits' x → (y : Fit) × Fits y)
    → ((x y : Fit) → Fits x → Fits' y → Agree (Then x) (Then' y)) → Agree (WithFit Fits Then) (WithFit Fits' Then')
fits_agree Fits Fits' Then Then' there back agree files a b (inl h) (inl k) = agree h.0 k.0 h.1 k.1 files a b h.2 k.2
fits_agree Fits Fits' Then Then' there back agree files a b (inl h) (inr k) = let f = there h.0 h.1 in absurd (k.0 f.0 f.1)
fits_agree Fits Fits' Then Then' there back agree files a b (inr h) (inl k) = let f = back k.0 k.1 in absurd (h.0 f.0 f.1)
fits_agree Fits Fits' Then Then' there back agree files a b (inr h) (inr k) = h.1 ∙ sym k.1

files_agree_on : (names : List (List ℕ)) (Then Then' : List PlainFile → Course) → ((sources : List PlainFile) → Agree (Then sources) (Then' sources)) → Agree (WithFiles names Then) (WithFiles names Then')
files_agree_on [] Then Then' agree files a b h k = agree [] files a b h k
files_agree_on (name ∷ names) Then Then' agree [] a b h k = h ∙ sym k
files_agree_on (name ∷ names) Then Then' agree (file ∷ files) a b (inl h) (inl k) = h.1 ∙ sym k.1
files_agree_on (name ∷ names) Then Then' agree (file ∷ files) a b (inl h) (inr k) = let long = h.0 in let short = k.0 in absurd (omega (arith, long, short))
files_agree_on (name ∷ names) Then Then' agree (file ∷ files) a b (inr h) (inl k) = let short = h.0 in let long = k.0 in absurd (omega (arith, long, short))
files_agree_on (name ∷ names) Then Then' agree (file ∷ files) a b (inr h) (inr k) =
    files_agree_on names (λ sources. Then (file ∷ sources)) (λ sources. Then' (file ∷ sources)) (λ sources. agree (file ∷ sources)) files a b h.1 k.1

pub files_agree : (names names' : List (List ℕ)) (Then Then' : List PlainFile → Course) → names ≡ names' → ((sources : List PlainFile) → Agree (Then sources) (Then' sources)) → Agree (WithFiles names Then) (WithFiles names' Then')
files_agree names names' Then Then' same agree =
    subst (λ ns. Agree (WithFiles names Then) (WithFiles ns Then')) same (files_agree_on names Then Then' agree)

pub unless_agree : (so so' : Bool) (x : Saying) (Then Then' : Course) → so ≡ so' → Agree Then Then' → Agree (Unless so x Then) (Unless so' x Then')
unless_agree so so' x Then Then' same agree = subst (λ b. Agree (Unless so x Then) (Unless b x Then')) same (by so)
  where
    by : (b : Bool) → Agree (Unless b x Then) (Unless b x Then')
    by true = agree
    by false = λ files a b h k. h ∙ sym k

-- what is said has a property where all that is said then has it
module _ (P : Saying → Type 0) (faulty : (fault : Fault) → P (bad_project fault)) where
  one_saying : (x y : Saying) → says x ≡ says y → x ≡ y
  one_saying x y e = cc

  by_saying : (x y : Saying) → says x ≡ says y → P y → P x
  by_saying x y e h = subst P (sym (one_saying x y e)) h

  no_read : (x : Saying) (name : List ℕ) → says x ≡ reads name → ⊥
  no_read x name e = cc

  pub project_says : (name : List ℕ) (Then : PlainProject → Course) → ((project : PlainProject) (files : List PlainFile) (what : Saying) → Then project files (says what) → P what)
      → (files : List PlainFile) (what : Saying) → WithProject name Then files (says what) → P what
  project_says name Then then_says [] what h = absurd (no_read what name h)
  project_says name Then then_says (source ∷ files) what (inl h) = by_saying what (bad_project h.0) h.2 (faulty h.0)
  project_says name Then then_says (source ∷ files) what (inr h) = then_says h.0 files what h.2

  pub fit_says : {Fit : Type 0} (Fits : Fit → Type 0) (Then : Fit → Course) → P usage → ((fit : Fit) (files : List PlainFile) (what : Saying) → Then fit files (says what) → P what)
      → (files : List PlainFile) (what : Saying) → WithFit Fits Then files (says what) → P what
  fit_says Fits Then useless then_says files what (inl h) = then_says h.0 files what h.2
  fit_says Fits Then useless then_says files what (inr h) = by_saying what usage h.1 useless

  pub files_say : (names : List (List ℕ)) (Then : List PlainFile → Course) → ((sources files : List PlainFile) (what : Saying) → Then sources files (says what) → P what)
      → (files : List PlainFile) (what : Saying) → WithFiles names Then files (says what) → P what
  files_say [] Then then_says files what h = then_says [] files what h
  files_say (name ∷ names) Then then_says [] what h = absurd (no_read what name h)
  files_say (name ∷ names) Then then_says (file ∷ files) what (inl h) = by_saying what (bad_project (size name)) h.1 (faulty (size name))
  files_say (name ∷ names) Then then_says (file ∷ files) what (inr h) =
      files_say names (λ sources. Then (file ∷ sources)) (λ sources. then_says (file ∷ sources)) files what h.1

  pub unless_says : (so : Bool) (x : Saying) (Then : Course) → P x → ((files : List PlainFile) (what : Saying) → Then files (says what) → P what)
      → (files : List PlainFile) (what : Saying) → Unless so x Then files (says what) → P what
  unless_says true x Then p then_says files what h = then_says files what h
  unless_says false x Then p then_says files what h = by_saying what x h p
