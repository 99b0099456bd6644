use Rattle.std.proofs.Common.{List, map, refl, ap, sym, ◌∙◌, ◌++◌}
use Rattle.cond_formula.specs.declared.formulas.Formula.{Formula}
use Rattle.cond_formula.specs.Conditions.{condition_of, value}
use Rattle.conditional.specs.Entries.{under}
use Rattle.c_text.specs.declared.token.Token.{Token}
use Rattle.c_text.specs.Token.{plain_token}
use Rattle.c_text.specs.Lines.{plain_line}
use Rattle.cond_readings.specs.Readings.{taken}
use Rattle.cond_groups.specs.declared.groups.OpenGroups.{OpenGroups}
use Rattle.cond_groups.specs.Groups.{groups_of, open_at, read_in}
use Rattle.cond_groups.specs.GroupLaws.{read-is}
use Rattle.cond_pp.proofs.WalkLemmas.{text-is}
use Rattle.cond_pp.proofs.walk.CondWalker.read_text.Goals as goal

pub returns-clause-step : goal.returns-clause-step
returns-clause-step c =
    λ on fit next r.
    let self = c.args.self.now in
    let new = c.add.new.self in
    let e = value on (condition_of self.entered) in
    let groups = groups_of self.groups in
    let h = value on (read_in (condition_of self.entered) groups) in
    let before = map (λ t. plain_token t.now) self.run.items in
    let all = map (λ t. plain_token t.now) new.run.items in
    text-is e h before (map plain_token c.args.line.now.tokens.items) all (map (open_at on) groups) (plain_line c.args.line.now) r next refl
    (c.in_ok-add.ensures.run ∙ ap (λ (ts : List Token). before ++ map plain_token ts) c.as_slice.ensures.value)
    (λ there. read-is on (condition_of self.entered) groups fit there)
    ∙ ap (λ (f : Formula). taken (value on (condition_of f)) (λ at. next (record { reading = at; run = under (value on (read_in (condition_of f) groups)) all; groups = map (open_at on) groups })) r) (sym c.add.ensures.entered)
    ∙ ap (λ (g : OpenGroups). taken (value on (condition_of new.entered)) (λ at. next (record { reading = at; run = under (value on (read_in (condition_of new.entered) (groups_of g))) all; groups = map (open_at on) (groups_of g) })) r) (sym c.add.ensures.groups)
