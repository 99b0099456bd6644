use Rattle.std.proofs.Common.{length, subst, sym, ap, ◌∙◌}
use Rattle.cond_formula.specs.Features.{has}
use Rattle.cond_formula.specs.Conditions.{condition_of, value}
use Rattle.choice_settling.specs.Steps.{stood}
use Rattle.choice_parser.specs.Units.{Progress, IsParsed}
use Rattle.choice_parser.proofs.UnitLemmas.{progress_ends}
use Rattle.choice_parser.proofs.ParsedLemmas.{parsed_so, apart_parsed}
use Rattle.choice_parser.proofs.parser.parse_all.Goals as goal

pub returns-clause-parsed : goal.returns-clause-parsed
returns-clause-parsed g c = λ c' admitted.
    let ends = progress_ends (has c') c.args.stream.now.tokens.items (value (has c') (condition_of c.in_ok-so_far.so_far.refused)) (stood c.in_ok-so_far.so_far.state c.in_ok-so_far.so_far.items.items (has c'))
    (subst (λ tokens. Progress (has c') tokens (length tokens) (value (has c') (condition_of c.in_ok-so_far.so_far.refused)) (stood c.in_ok-so_far.so_far.state c.in_ok-so_far.so_far.items.items (has c')))
    c.deref.ensures.value (c.in_ok-so_far.ensures.read c' admitted)) in
    let low : IsParsed (has c') c.args.stream.now.tokens.items (value (has c') (condition_of c.in_ok-low.low.refused)) c.in_ok-low.low.forest =
    subst (λ forest. IsParsed (has c') c.args.stream.now.tokens.items (value (has c') (condition_of c.in_ok-low.low.refused)) forest) (sym c.in_ok-low.ensures.forest_is)
    (parsed_so (record { trees = c.trees_are_read.ensures; leaves = c.leaves_are_the_tokens.ensures; units = c.units_are_seen.ensures; spelt = c.what_is_read_is_spelt.ensures; read = c.what_is_spelt_is_read.ensures })
    (has c') c.args.stream.now.tokens.items ends.0 (value (has c') (condition_of c.in_ok-parsed.parsed.refused)) (value (has c') (condition_of c.in_ok-low.low.refused)) c.in_ok-parsed.parsed.forest
    ends.1 (c.in_ok-parsed.ensures.ended c' ends.0 (ap (value (has c')) c.in_ok-so_far.ensures.kept ∙ admitted) ends.2) (c.in_ok-low.ensures.refused_is (has c'))) in
    subst (λ refused. IsParsed (has c') c.args.stream.now.tokens.items (value (has c') (condition_of refused)) c.in_ok-apart.apart.forest) (sym c.in_ok-apart.ensures.refused_is)
    (apart_parsed (has c') c.args.stream.now.tokens.items (value (has c') (condition_of c.in_ok-low.low.refused)) c.in_ok-low.low.forest c.in_ok-apart.apart.forest (c.in_ok-apart.ensures.forest_is (has c')) low)

pub returns-clause-exclude : goal.returns-clause-exclude
returns-clause-exclude g c = λ on. let apart = c.in_ok-apart.ensures.forest_is on in apart.excludes
