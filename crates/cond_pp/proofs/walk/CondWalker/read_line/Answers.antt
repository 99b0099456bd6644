use Rattle.std.proofs.Common.{[], ◌∷◌, ◌||◌, map, IsTrue, sym, ap, ◌∙◌, subst, Option, option_map, Bool}
use Rattle.std.specs.String.{string_bytes}
use Rattle.cond_formula.specs.Features.{has}
use Rattle.cond_formula.specs.Conditions.{Condition, condition_of, value}
use Rattle.c_text.specs.Lines.{plain_line}
use Rattle.c_text.specs.Trees.{role_of}
use Rattle.active_tokens.specs.Reads.{read_of}
use Rattle.cond_readings.specs.Readings.{reading_at}
use Rattle.cond_pp.specs.declared.watch.Sought.{Sought}
use Rattle.cond_groups.specs.Groups.{groups_of, line_read_in}
use Rattle.cond_pp.specs.Watches.{plain_sought, is_read_in, read_where}
use Rattle.cond_pp.proofs.LineLemmas.{directive-seen}
use Rattle.std.specs.Prelude.{if◌then◌else◌}
use Rattle.c_text.specs.Preprocessing.{Flow}
use Rattle.file_walks.specs.Walk.{Walk, flushed, text_read, by_role}
use Rattle.cond_pp.specs.Walks.{ahead}
use Rattle.cond_pp.proofs.WalkLemmas.{fit-kept}
use Rattle.cond_pp.proofs.walk.CondWalker.read_line.Goals as goal

pub returns-then-line-clause-step : goal.returns-then-line-clause-step
returns-then-line-clause-step g c =
    λ k s adm is fit next.
    let features = has k in
    let w = c.args.self.now in
    let line = plain_line c.args.line.now in
    let others : Walk → Flow = λ u. by_role s (role_of line.tokens) u line next in
    let before = reading_at features (map string_bytes c.args.place.now.features.now) c.args.reading.now in
    let admitted = subst (λ (a : Condition). IsTrue (value features a)) (sym c.in_ok-flush.ensures.kept) adm in
    ap (λ (b : Bool). ahead features w (λ u. if b then flushed u others else next (text_read u line)) before) c.if-line.true
    ∙ c.in_ok-flush.ensures.step k adm fit others
    ∙ c.in_ok-read_role.ensures.step k s admitted is (fit-kept features w c.flush.new.self c.in_ok-flush.ensures.entered c.in_ok-flush.ensures.groups fit) next

pub returns-then-line-clause-found : goal.returns-then-line-clause-found
returns-then-line-clause-found g c =
    λ k s f adm is alike fit.
    let on = has k in
    let v = c.flush.new.self in
    let line = plain_line c.args.line.now in
    let names = map string_bytes c.args.place.now.features.now in
    let between = reading_at on names c.flush.new.reading in
    let watch = c.args.watch.now in
    let at_run = value on (condition_of c.look_at_run.new.watch.found) in
    let admitted = subst (λ (a : Condition). IsTrue (value on a)) (sym c.in_ok-flush.ensures.kept) adm in
    directive-seen c.walks_are_one.ensures c.reads_are_tested.ensures.joined (option_map plain_sought watch.sought) s f on c.args.self.now v line (reading_at on names c.args.reading.now) between
    (value on (condition_of watch.found)) at_run (value on (condition_of c.look_at_line.new.watch.found)) _
    c.if-line.true fit c.in_ok-flush.ensures.entered c.in_ok-flush.ensures.groups c.in_ok-flush.ensures.run
    (λ next. c.in_ok-flush.ensures.step k adm fit next)
    (c.in_ok-look_at_run.ensures.found k fit)
    (c.in_ok-look_at_line.ensures.found k
    ∙ ap (λ (q : Option Sought). at_run || is_read_in (option_map plain_sought q) (read_where (value on (line_read_in (role_of line.tokens) (condition_of v.entered) (groups_of v.groups))) (λ r. read_of r line.tokens ∷ []) between)) c.in_ok-look_at_run.ensures.sought)
    (c.in_ok-read_role.ensures.included k s f admitted is alike)
