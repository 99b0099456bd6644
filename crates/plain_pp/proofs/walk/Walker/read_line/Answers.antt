use Rattle.std.proofs.Common.{◌≡◌, map, Option, Some, ap, sym, ◌∙◌, subst, OnOk, List}
use Rattle.c_text.specs.Token.{plain_token}
use Rattle.c_text.specs.Lines.{plain_line}
use Rattle.c_text.specs.Trees.{role_of}
use Rattle.c_text.specs.Preprocessing.{Flow}
use Rattle.plain_pp.specs.Readings.{plain_reading}
use Rattle.file_walks.specs.Nests.{nest_of, behind_role, Nest}
use Rattle.file_walks.specs.Walk.{Open}
use Rattle.plain_pp.specs.Walking.{plain_walk, Enters}
use Rattle.plain_pp.proofs.WalkLemmas.{step-directive, behind-directive}
use Rattle.plain_pp.proofs.walk.Walker.read_line.Goals as goal

pub returns-then-line-clause-moved : goal.returns-then-line-clause-moved
returns-then-line-clause-moved c =
    let line = plain_line c.args.line.now in
    let e =
    ap (λ (groups : List Open). behind_role (role_of line.tokens) (nest_of groups)) c.in_ok-flush.ensures.groups
    ∙ behind-directive (nest_of c.args.self.now.groups) line c.if-line.true
    in
    subst (λ (n : Option Nest). OnOk c.read_role.result (n ≡ Some (nest_of c.read_role.new.self.groups))) e c.read_role.ensures.moved

pub returns-then-line-clause-step : goal.returns-then-line-clause-step
returns-then-line-clause-step c =
    λ s is breaks next.
    let line = plain_line c.args.line.now in
    let w = plain_walk (plain_reading c.args.reading.now) c.args.self.now in
    let v = plain_walk (plain_reading c.flush.new.reading) c.flush.new.self in
    let e =
    ap (λ (groups : List Open). behind_role (role_of line.tokens) (nest_of groups)) c.in_ok-flush.ensures.groups
    ∙ behind-directive (nest_of c.args.self.now.groups) line c.if-line.true
    in
    let done = step-directive s w v line next c.if-line.true c.in_ok-flush.ensures.flow (ap (λ xs. map (λ t. plain_token t.now) xs) c.in_ok-flush.ensures.run) c.in_ok-flush.ensures.groups in
    subst (λ (flow : Flow). Enters c.read_role.result flow s.deeper (plain_walk (plain_reading c.read_role.new.reading) c.read_role.new.self) next) done (c.read_role.ensures.step s is (λ none. breaks (sym e ∙ none)) next)
