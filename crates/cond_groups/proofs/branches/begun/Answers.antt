use Rattle.std.proofs.Common.{◌≡◌, Bool, IsTrue, map, ap, sym, ◌∙◌, subst}
use Rattle.std.specs.Prelude.{◌&&◌, None, Some, if◌then◌else◌}
use Rattle.std.specs.String.{string_bytes}
use Rattle.cond_formula.specs.Features.{has}
use Rattle.cond_formula.specs.Conditions.{Condition, condition_of, value}
use Rattle.c_text.specs.Token.{plain_token}
use Rattle.c_text.specs.Macros.{Table}
use Rattle.c_text.specs.Preprocessing as spec
use Rattle.cond_tokens.specs.Streams.{tokens_at}
use Rattle.cond_readings.specs.Readings.{reading_at, table_in, unless_refused}
use Rattle.cond_groups.specs.Truths.{came_out}
use Rattle.cond_groups.specs.Groups.{plain_group, open_at}
use Rattle.cond_groups.proofs.GroupLemmas.{begun-is, begun-stays}
use Rattle.cond_groups.proofs.branches.begun.Goals as goal

pub returns-then-is_done-clause-step : goal.returns-then-is_done-clause-step
returns-then-is_done-clause-step g c =
    λ k s adm is inside next.
    let features = map string_bytes c.args.place.now.features.now in
    let asked = value (has k) (condition_of c.args.branch.now.asked.now) in
    let tokens = map plain_token c.args.line.now.tokens.items in
    begun-stays s asked c.args.branch.now.last (reading_at (has k) features c.args.reading.now) tokens (open_at (has k) (plain_group c.in_ok-closed.field-0)) next
    (λ here. c.is_done.ensures.done c.if-is_done.true k adm here features)

pub returns-clause-step : goal.returns-clause-step
returns-clause-step g c =
    λ k s adm is inside next.
    let on = has k in
    let branch = c.args.branch.now in
    let features = map string_bytes c.args.place.now.features.now in
    let reading = c.args.reading.now in
    let new = reading_at on features c.refuse.new.self in
    let asked = value on (condition_of branch.asked.now) in
    let rf = value on (condition_of c.in_ok-truth.truth.refused) in
    let h = value on (condition_of c.in_ok-truth.truth.holds) in
    let group = plain_group c.in_ok-split.field-0 in
    let tokens = map plain_token c.args.line.now.tokens.items in
    let table = table_in on features reading.table in
    let adm' = subst (λ (f : Condition). IsTrue (value on f)) (sym c.is_done.ensures.kept) adm in
    let comes : IsTrue asked → (if rf then None else Some h) ≡ came_out (spec.condition_at s.value_of table tokens) =
    λ here.
    c.in_ok-truth.ensures.truth k adm' here s.value_of is.values
    ∙ ap (λ (t : Table). came_out (spec.condition_at s.value_of t tokens)) (c.macros-macros.ensures on)
    in
    let refuses : value on (condition_of c.in_ok-refused.refused) ≡ (asked && rf) =
    c.in_ok-refused.ensures on ∙ ap (λ (f : Condition). value on f && rf) c.in_ok-try_clone.ensures
    in
    begun-is s asked (value on (condition_of branch.within.now)) rf h (value on (condition_of reading.refused)) branch.last table (tokens_at on reading.tokens.items) tokens
    (value on group.within) (value on group.reads_when) (value on group.waits_when) group.last new next inside comes
    (ap (λ (f : Condition). value on f) c.in_ok-split.ensures.within)
    (c.in_ok-split.ensures.reads on) (c.in_ok-split.ensures.waits on) c.in_ok-split.ensures.last
    (c.in_ok-refuse.ensures on features ∙ ap (λ (b : Bool). unless_refused b (reading_at on features reading)) refuses)
