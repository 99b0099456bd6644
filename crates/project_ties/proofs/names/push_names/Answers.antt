use Rattle.std.proofs.Common.{◌+◌, [], ◌∷◌, map, drop, ◌∙◌}
use Rattle.std.specs.Prelude.{flat_map}
use Rattle.cond_formula.specs.Features.{has}
use Rattle.tied_tokens.specs.Ties.{plain_declared_name}
use Rattle.told_occurrences.specs.Units.{names_seen}
use Rattle.told_ties.specs.Ties.{named_seen, named_by}
use Rattle.project_ties.proofs.Pushed.{still_own, stepped, named_from}
use Rattle.project_ties.proofs.names.push_names.Goals as goal

pub loop-one-preserved : goal.loop-one-preserved
loop-one-preserved g c =
    let tokens = c.args.tokens.now in
    let told = c.args.told.now in
    let i = c.loop-one.one-index in
    let one = c.one-item.result in
    record {
      kept = c.in_ok-push_name.ensures.kept ∙ c.loop-one.invariant.kept;
      below = λ h. c.in_ok-push_name.ensures.below (c.loop-one.invariant.below h);
      named = λ c' own.
          stepped (named_seen (has c') (map plain_declared_name c.args.names.now.items)) (named_seen (has c') (map plain_declared_name c.loop-one.names.items))
          (named_seen (has c') (map plain_declared_name c.push_name.new.names.items)) (flat_map (named_by tokens) (names_seen (has c') (one ∷ [])))
          (flat_map (named_by tokens) (names_seen (has c') (drop (i + 1) told))) (flat_map (named_by tokens) (names_seen (has c') (drop i told))) (flat_map (named_by tokens) (names_seen (has c') told))
          (c.in_ok-push_name.ensures.named c' (still_own c.loop-one.invariant.kept own)) (named_from (has c') tokens told i one c.loop-one-test.true c.one-item.is) (c.loop-one.invariant.named c' own);
    }
