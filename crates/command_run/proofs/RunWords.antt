-- The further words of `run` name one run at most.
use Rattle.std.proofs.Common.{◌≡◌, ℕ, List, [], ◌∷◌, Option, refl, sym, ◌∙◌, ap, subst, arith}
use Rattle.decimal_numbers.proofs.OneNumber.{one_number}
use Rattle.command_projects.specs.Names.{names_in}
use Rattle.command_run.specs.Words.{RunQuery, largest_bound, IsBound, IsGood, input_in, Asks}

-- a run of what the words say
record IsRunOf (project names bound input : List ℕ) (q : RunQuery) : Type 0 where
  pub project_is : q.project ≡ project
  pub names_are : q.names ≡ names_in names
  pub bound_is : IsBound bound q.bound
  pub input_is : q.input ≡ input_in input

same_run : (project names bound input : List ℕ) (p q : RunQuery) → IsRunOf project names bound input p → IsRunOf project names bound input q → p ≡ q
same_run project names bound input p q h k =
    let project : p.project ≡ q.project = h.project_is ∙ sym k.project_is in
    let names : p.names ≡ q.names = h.names_are ∙ sym k.names_are in
    let bound : p.bound ≡ q.bound = one_number largest_bound bound p.bound q.bound (omega arith) h.bound_is k.bound_is in
    let input : p.input ≡ q.input = h.input_is ∙ sym k.input_is in
    let e : List ℕ → RunQuery = λ x. record { project = x; names = p.names; bound = p.bound; input = p.input } in
    let f : List (List ℕ) → RunQuery = λ x. record { project = q.project; names = x; bound = p.bound; input = p.input } in
    let g : ℕ → RunQuery = λ x. record { project = q.project; names = q.names; bound = x; input = p.input } in
    let i : Option (List ℕ) → RunQuery = λ x. record { project = q.project; names = q.names; bound = q.bound; input = x } in
    ap e project ∙ (ap f names ∙ (ap g bound ∙ ap i input))

asked_is : (project names bound input : List ℕ) (words : List (List ℕ)) (q : RunQuery) → words ≡ project ∷ names ∷ bound ∷ input ∷ [] → Asks words q → IsRunOf project names bound input q
asked_is project names bound input words q is a =
    let e : q.project ∷ a.names ∷ a.bound ∷ a.input ∷ [] ≡ project ∷ names ∷ bound ∷ input ∷ [] = sym a.words_are ∙ is in
    let same_names : a.names ≡ names = cc in
    let same_bound : a.bound ≡ bound = cc in
    let same_input : a.input ≡ input = cc in
    record {
      project_is = cc;
      names_are = a.names_are ∙ ap names_in same_names;
      bound_is = subst (λ text. IsBound text q.bound) same_bound a.bound_is;
      input_is = a.input_is ∙ ap input_in same_input;
    }

pub one_run : (words : List (List ℕ)) (p q : RunQuery) → Asks words p → Asks words q → p ≡ q
one_run words p q a b =
    same_run q.project b.names b.bound b.input p q (asked_is q.project b.names b.bound b.input words p b.words_are a)
    (asked_is q.project b.names b.bound b.input words q b.words_are b)

-- where a run of what the words say isn't good, they ask for none
pub none_good : (project names bound input : List ℕ) (r : RunQuery) → r.project ≡ project → r.names ≡ names_in names → IsBound bound r.bound → r.input ≡ input_in input → (IsGood r → ⊥) → (q : RunQuery) → Asks (project ∷ names ∷ bound ∷ input ∷ []) q → ⊥
none_good project names bound input r project_is names_are bound_is input_is bad q a =
    let is = asked_is project names bound input (project ∷ names ∷ bound ∷ input ∷ []) q refl a in
    let same = same_run project names bound input q r is (record { project_is = project_is; names_are = names_are; bound_is = bound_is; input_is = input_is }) in
    bad (subst IsGood same a.good)

-- where there is no bound, they ask for none either
pub none_bounded : (project names bound input : List ℕ) (words : List (List ℕ)) → words ≡ project ∷ names ∷ bound ∷ input ∷ [] → ((n : ℕ) → IsBound bound n → ⊥) → (q : RunQuery) → Asks words q → ⊥
none_bounded project names bound input words is none q a = none q.bound (asked_is project names bound input words q is a).bound_is
