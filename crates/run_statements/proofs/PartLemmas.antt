-- Initialisers, and the parts of them that are left.
use Rattle.std.proofs.Common.{◌≡◌, List, ◌∷◌, sym, ap, ◌∙◌}
use Rattle.core_meaning.specs.Program.{PlainPart}
use Rattle.interp_actions.specs.Actions.{PlainInitialiser, initialise_action, parts_action}
use Rattle.run_machine.specs.declared.machine.Machine.{Machine}
use Rattle.run_machine.specs.Machines.{outcome_with}

pub initialiser_begins :
    (m : Machine) (x : PlainInitialiser) (first : PlainPart) (left : List PlainPart)
    → x.parts ≡ first ∷ left
    → outcome_with (parts_action x (first ∷ left)) m ≡ outcome_with (initialise_action x) m
initialiser_begins m x first left same =
    ap (λ parts. outcome_with (parts_action (record x { parts = parts }) (first ∷ left)) m) same
    ∙ sym (ap (λ parts. outcome_with (initialise_action (record x { parts = parts })) m) same)
