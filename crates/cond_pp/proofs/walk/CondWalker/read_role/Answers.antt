use Rattle.std.proofs.Common.{map, refl, sym, ap, ◌∙◌}
use Rattle.std.specs.String.{string_bytes}
use Rattle.cond_formula.specs.Features.{has}
use Rattle.cond_formula.specs.Conditions.{condition_of, value}
use Rattle.c_text.specs.Lines.{plain_line}
use Rattle.c_text.specs.Trees.{begins, begins_branch, begins_last, closes}
use Rattle.unit_files.specs.Roles.{plain_role}
use Rattle.cond_readings.specs.Readings.{reading_at}
use Rattle.cond_groups.specs.Groups.{groups_of, read_in}
use Rattle.cond_pp.proofs.ReadLemmas.{no-inclusion, alone-named}
use Rattle.cond_pp.proofs.WalkLemmas.{of-role}
use Rattle.cond_pp.proofs.walk.CondWalker.read_role.Goals as goal

pub returns-in_ok-begin_group-in-Begins-clause-step : goal.returns-in_ok-begin_group-in-Begins-clause-step
returns-in_ok-begin_group-in-Begins-clause-step g c =
    λ k s adm is fit next.
    of-role s (has k) c.args.self.now (plain_line c.args.line.now) (reading_at (has k) (map string_bytes c.args.place.now.features.now) c.args.reading.now) _ next begins (sym (ap plain_role c.in-Begins.is) ∙ c.role_of.ensures) (c.in_ok-begin_group-in-Begins.ensures.step k s adm is fit next)

pub returns-in_ok-begin_branch-in-BeginsBranch-clause-step : goal.returns-in_ok-begin_branch-in-BeginsBranch-clause-step
returns-in_ok-begin_branch-in-BeginsBranch-clause-step g c =
    λ k s adm is fit next.
    of-role s (has k) c.args.self.now (plain_line c.args.line.now) (reading_at (has k) (map string_bytes c.args.place.now.features.now) c.args.reading.now) _ next begins_branch (sym (ap plain_role c.in-BeginsBranch.is) ∙ c.role_of.ensures) (c.in_ok-begin_branch-in-BeginsBranch.ensures.step k s adm is fit next)

pub returns-in_ok-begin_branch-in-BeginsLast-clause-step : goal.returns-in_ok-begin_branch-in-BeginsLast-clause-step
returns-in_ok-begin_branch-in-BeginsLast-clause-step g c =
    λ k s adm is fit next.
    of-role s (has k) c.args.self.now (plain_line c.args.line.now) (reading_at (has k) (map string_bytes c.args.place.now.features.now) c.args.reading.now) _ next begins_last (sym (ap plain_role c.in-BeginsLast.is) ∙ c.role_of.ensures) (c.in_ok-begin_branch-in-BeginsLast.ensures.step k s adm is fit next)

pub returns-in_ok-end_group-in-Closes-clause-step : goal.returns-in_ok-end_group-in-Closes-clause-step
returns-in_ok-end_group-in-Closes-clause-step g c =
    λ k s adm is fit next.
    of-role s (has k) c.args.self.now (plain_line c.args.line.now) (reading_at (has k) (map string_bytes c.args.place.now.features.now) c.args.reading.now) _ next closes (sym (ap plain_role c.in-Closes.is) ∙ c.role_of.ensures) (c.in_ok-end_group-in-Closes.ensures.step (has k) (map string_bytes c.args.place.now.features.now) s fit next)

pub returns-in_ok-begin_group-in-Begins-clause-included : goal.returns-in_ok-begin_group-in-Begins-clause-included
returns-in_ok-begin_group-in-Begins-clause-included g c =
    λ k s f adm is alike.
    no-inclusion s f (has k) begins (plain_line c.args.line.now).tokens _ _ _ (sym (ap plain_role c.in-Begins.is) ∙ c.role_of.ensures) (λ r. refl)

pub returns-in_ok-begin_branch-in-BeginsBranch-clause-included : goal.returns-in_ok-begin_branch-in-BeginsBranch-clause-included
returns-in_ok-begin_branch-in-BeginsBranch-clause-included g c =
    λ k s f adm is alike.
    no-inclusion s f (has k) begins_branch (plain_line c.args.line.now).tokens _ _ _ (sym (ap plain_role c.in-BeginsBranch.is) ∙ c.role_of.ensures) (λ r. refl)

pub returns-in_ok-begin_branch-in-BeginsLast-clause-included : goal.returns-in_ok-begin_branch-in-BeginsLast-clause-included
returns-in_ok-begin_branch-in-BeginsLast-clause-included g c =
    λ k s f adm is alike.
    no-inclusion s f (has k) begins_last (plain_line c.args.line.now).tokens _ _ _ (sym (ap plain_role c.in-BeginsLast.is) ∙ c.role_of.ensures) (λ r. refl)

pub returns-in_ok-end_group-in-Closes-clause-included : goal.returns-in_ok-end_group-in-Closes-clause-included
returns-in_ok-end_group-in-Closes-clause-included g c =
    λ k s f adm is alike.
    no-inclusion s f (has k) closes (plain_line c.args.line.now).tokens _ _ _ (sym (ap plain_role c.in-Closes.is) ∙ c.role_of.ensures) (λ r. refl)

pub returns-in_ok-read_alone-in-StandsAlone-clause-included : goal.returns-in_ok-read_alone-in-StandsAlone-clause-included
returns-in_ok-read_alone-in-StandsAlone-clause-included g c =
    λ k s f adm is alike.
    let w = c.args.self.now in
    c.in_ok-read_alone-in-StandsAlone.ensures.included k s f adm is alike
    ∙ alone-named s f (plain_line c.args.line.now).tokens (value (has k) (read_in (condition_of w.entered) (groups_of w.groups))) (reading_at (has k) (map string_bytes c.args.place.now.features.now) c.args.reading.now) (sym (ap plain_role c.in-StandsAlone.is) ∙ c.role_of.ensures)
