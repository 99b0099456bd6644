-- One unit and configuration, and one thing that is said of it.
use Rattle.std.proofs.Common.{◌≡◌, inl, inr, ℕ, ◌+◌, List, [], ◌∷◌, length, refl, sym, ◌∙◌, ap, subst, arith}
use Rattle.text_edits.specs.Files.{PlainFile}
use Rattle.cond_formula.specs.Conditions.{value}
use Rattle.c_text.specs.Token.{PlainToken}
use Rattle.c_text.specs.Preprocessing.{Refusal, Sources, gives, is_refused}
use Rattle.plain_pp.specs.Units.{sources_of, file_of}
use Rattle.plain_pp.specs.Laws.{OutcomesAreOne}
use Rattle.project_file.specs.Projects.{PlainProject}
use Rattle.project_file.specs.Faults.{Fault}
use Rattle.project_file.specs.Laws.{Alike}
use Rattle.project_store.specs.Reads.{names_of}
use Rattle.command_promises.specs.Courses.{Saying, says, Agree, IsDecided}
use Rattle.command_promises.specs.Sayings.{tells, usage}
use Rattle.command_promises.specs.Commands.{IsFit, IsDecidedCommand}
use Rattle.command_promises.proofs.Leading.{one_saying}
use Rattle.command_promises.proofs.Fitting.{tells_fits}
use Rattle.command_projects.specs.Faults.{bad_project}
use Rattle.command_projects.specs.Names.{names_in}
use Rattle.command_projects.specs.Products.{on_by, admits_named, not_admitted}
use Rattle.command_projects.specs.Projects.{WithFiles, Unless}
use Rattle.command_projects.proofs.Decided.{ProjectLaws, alike_back, names_alike, project_decided, fits_agree, files_agree, unless_agree, project_says, fit_says, files_say, unless_says}
use Rattle.command_tokens.specs.Words.{UnitQuery, Asks}
use Rattle.command_tokens.specs.Tokens.{NumberedUnit, FitsProject, not_present, not_preprocessed, prints, OfSources, OfUnit, OfProject, tokens}
use Rattle.command_tokens.proofs.Units.{fit_alike, same_unit, same_sources_of}

one_query : (further : List (List ℕ)) (p q : UnitQuery) → Asks further p → Asks further q → p ≡ q
one_query further p q a b =
    let e : p.project ∷ p.unit ∷ a.text ∷ [] ≡ q.project ∷ q.unit ∷ b.text ∷ [] = sym a.words_are ∙ b.words_are in
    let project : p.project ≡ q.project = cc in
    let unit : p.unit ≡ q.unit = cc in
    let text : a.text ≡ b.text = cc in
    let names : p.names ≡ q.names = a.names_are ∙ (ap names_in text ∙ sym b.names_are) in
    let f : List ℕ → UnitQuery = λ x. record { project = x; unit = p.unit; names = p.names } in
    let g : List ℕ → UnitQuery = λ x. record { project = q.project; unit = x; names = p.names } in
    let h : List (List ℕ) → UnitQuery = λ x. record { project = q.project; unit = q.unit; names = x } in
    ap f project ∙ (ap g unit ∙ ap h names)

not_both : (tokens : List PlainToken) (why : Refusal) → gives tokens ≡ is_refused why → ⊥
not_both tokens why e = cc

one_list : (x y : List PlainToken) → gives x ≡ gives y → x ≡ y
one_list x y e = cc

module _ (one : OutcomesAreOne) where
  sources_decided : (s : Sources) (number : ℕ) → IsDecided (OfSources s number)
  sources_decided s number files a b (inl h) (inl k) =
      h.2 ∙ (ap (λ ts. says (prints ts)) (one_list h.0 k.0 (one s number (gives h.0) (gives k.0) h.1 k.1)) ∙ sym k.2)
  sources_decided s number files a b (inl h) (inr k) = absurd (not_both h.0 k.0 (one s number (gives h.0) (is_refused k.0) h.1 k.1))
  sources_decided s number files a b (inr h) (inl k) = absurd (not_both k.0 h.0 (one s number (gives k.0) (is_refused h.0) k.1 h.1))
  sources_decided s number files a b (inr h) (inr k) = h.2 ∙ sym k.2

  sources_agree : (s t : Sources) (m n : ℕ) → s ≡ t → m ≡ n → Agree (OfSources s m) (OfSources t n)
  sources_agree s t m n same number =
      subst (λ x. Agree (OfSources s m) (OfSources x n)) same (subst (λ x. Agree (OfSources s m) (OfSources s x)) number (sources_decided s m))

  unit_agree : (q : UnitQuery) (a b : PlainProject) (x y : NumberedUnit) → Alike a b → FitsProject q a x → FitsProject q b y → (files : List PlainFile) → Agree (OfUnit q a x files) (OfUnit q b y files)
  unit_agree q a b x y like h k files =
      let unit = same_unit q a b x y like h k in
      let on_a = on_by a.features q.names in
      let on_b = on_by b.features q.names in
      let on : on_a ≡ on_b = ap (λ features. on_by features q.names) like.features in
      let admitted : admits_named a q.names ≡ admits_named b q.names = like.model on_a ∙ ap (λ on. value on b.model) on in
      let present : value on_a x.unit.when ≡ value on_b y.unit.when = unit.presence on_a ∙ ap (λ on. value on y.unit.when) on in
      let sources : sources_of a files on_a ≡ sources_of b files on_b = same_sources_of a b files on_a like ∙ ap (λ on. sources_of b files on) on in
      let number : file_of a x.number ≡ file_of b y.number = ap (λ hs. length hs + x.number) like.headers ∙ ap (λ n. length b.headers + n) unit.number in
      let inner = unless_agree (value on_a x.unit.when) (value on_b y.unit.when) not_present (OfSources (sources_of a files on_a) (file_of a x.number)) (OfSources (sources_of b files on_b) (file_of b y.number)) present
      (sources_agree (sources_of a files on_a) (sources_of b files on_b) (file_of a x.number) (file_of b y.number) sources number) in
      unless_agree (admits_named a q.names) (admits_named b q.names) not_admitted
      (Unless (value on_a x.unit.when) not_present (OfSources (sources_of a files on_a) (file_of a x.number)))
      (Unless (value on_b y.unit.when) not_present (OfSources (sources_of b files on_b) (file_of b y.number))) admitted inner

  agree : (q : UnitQuery) (a b : PlainProject) → Alike a b → Agree (OfProject q a) (OfProject q b)
  agree q a b like =
      fits_agree (FitsProject q a) (FitsProject q b) (λ asked. WithFiles (names_of a) (OfUnit q a asked)) (λ asked. WithFiles (names_of b) (OfUnit q b asked))
      (λ x h. let r = fit_alike q a b x like h in (r.unit, r.fits))
      (λ y k. let r = fit_alike q b a y (alike_back a b like) k in (r.unit, r.fits))
      (λ x y h k. files_agree (names_of a) (names_of b) (OfUnit q a x) (OfUnit q b y) (names_alike a b like) (unit_agree q a b x y like h k))

-- ---- what is said fits the command

abbrev Fit : Saying → Type 0
Fit = IsFit tokens

useless_fits : Fit usage
useless_fits = tells_fits tokens 2 usage.report (1, omega arith, refl) (inl (omega arith))

refused_fits : (report : List ℕ) → Fit (tells 9 report)
refused_fits report = tells_fits tokens 9 report (3, omega arith, refl) (inr (inr (omega arith)))

fault_fits : (fault : Fault) → Fit (bad_project fault)
fault_fits fault = tells_fits tokens 5 (bad_project fault).report (2, omega arith, refl) (inr (inl refl))

printed_fits : (ts : List PlainToken) → Fit (prints ts)
printed_fits ts = tells_fits tokens 0 (prints ts).report (0, omega arith, refl) (inl (omega arith))

sources_fit : (s : Sources) (number : ℕ) (files : List PlainFile) (what : Saying) → OfSources s number files (says what) → Fit what
sources_fit s number files what (inl h) = subst Fit (sym (one_saying what (prints h.0) h.2)) (printed_fits h.0)
sources_fit s number files what (inr h) = subst Fit (sym (one_saying what not_preprocessed h.2)) (refused_fits not_preprocessed.report)

unit_fits : (q : UnitQuery) (project : PlainProject) (asked : NumberedUnit) (sources files : List PlainFile) (what : Saying) → OfUnit q project asked sources files (says what) → Fit what
unit_fits q project asked sources =
    let on = on_by project.features q.names in
    let inner = OfSources (sources_of project sources on) (file_of project asked.number) in
    unless_says Fit fault_fits (admits_named project q.names) not_admitted (Unless (value on asked.unit.when) not_present inner) (refused_fits not_admitted.report)
    (unless_says Fit fault_fits (value on asked.unit.when) not_present inner (refused_fits not_present.report) (sources_fit (sources_of project sources on) (file_of project asked.number)))

project_fits : (q : UnitQuery) (project : PlainProject) (files : List PlainFile) (what : Saying) → OfProject q project files (says what) → Fit what
project_fits q project =
    fit_says Fit fault_fits (FitsProject q project) (λ asked. WithFiles (names_of project) (OfUnit q project asked)) useless_fits
    (λ asked. files_say Fit fault_fits (names_of project) (OfUnit q project asked) (unit_fits q project asked))

pub decided : ProjectLaws → OutcomesAreOne → IsDecidedCommand tokens
decided laws one = record {
  one_query = one_query;
  one_deed = λ q. project_decided laws q.project (OfProject q) (agree one q);
  fits = λ q. project_says Fit fault_fits q.project (OfProject q) (project_fits q);
}
