use Rattle.std.proofs.Common.{◌≡◌, ◌∙◌, ◌++◌, ◌∷◌, ℕ, List, [], ap, sym, codes, append_assoc}
use Rattle.command_promises.specs.Sayings.{tells}
use Rattle.command_projects.proofs.faults.named.Goals as goal

-- a kind and a name, and then the end of the line
kind_and_name : (kind name : List ℕ) → kind ++ (32 ∷ (name ++ (10 ∷ []))) ≡ (kind ++ (32 ∷ name)) ++ (10 ∷ [])
kind_and_name kind name = sym (append_assoc kind (32 ∷ name) (10 ∷ []))

pub returns : goal.returns
returns c =
    c.in_ok-said.ensures
    ∙ ap (tells 5) (c.as_str.ensures.value ∙ (c.in_ok-text.ensures.ok ∙ ap (λ text. codes "bad project: " ++ text) (kind_and_name c.args.kind.now c.args.name.now)))
