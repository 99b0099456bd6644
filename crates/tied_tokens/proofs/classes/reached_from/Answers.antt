use Rattle.std.proofs.Common.{◌≡◌, ◌<◌, ◌≤◌, [], ◌∷◌, length, get_or, rules, sym, ap, ◌∙◌, subst, arith, List}
use Rattle.std.specs.Prelude.{All, Contains}
use Rattle.std.proofs.lemmas.List.{get_or-map, length-map}
use Rattle.std.proofs.lemmas.List.Elements.{All-nil, All-cons, All-contains}
use Rattle.program_occurrences.specs.Classes.{PlainFileToken}
use Rattle.tied_tokens.specs.Tokens.{plain_file_token, plain_file_tokens}
use Rattle.tied_tokens.specs.Ties.{plain_tied_tokens}
use Rattle.tied_tokens.specs.Reached.{IsReached, itself}
use Rattle.tied_tokens.specs.Search.{IsVisited}
use Rattle.tied_tokens.proofs.Members.{in_head}
use Rattle.tied_tokens.proofs.Growth.{found_still, longer}
use Rattle.tied_tokens.proofs.Reaching.{reached_more, visited_more, found_are_reached}
use Rattle.tied_tokens.proofs.classes.reached_from.Goals as goal

pub loop-next-init : goal.loop-next-init
loop-next-init c =
    let all = plain_tied_tokens c.args.all.now in
    let place = plain_file_token c.args.place.now in
    let is : plain_file_tokens c.in_ok-found.found.items ≡ place ∷ [] = ap plain_file_tokens c.in_ok-found.ensures.items in
    record {
      within = omega arith;
      there = subst (λ (ts : List PlainFileToken). Contains ts place) (sym is) (in_head place []);
      reached = subst (All (IsReached all place)) (sym is) (All-cons (IsReached all place) place [] itself (All-nil (IsReached all place)));
      visited = All-nil (IsVisited all (plain_file_tokens c.in_ok-found.found.items));
    }

pub loop-next-preserved : goal.loop-next-preserved
loop-next-preserved c =
    let all = plain_tied_tokens c.args.all.now in
    let place = plain_file_token c.args.place.now in
    let items = c.loop-next.found.items in
    let old = plain_file_tokens items in
    let member = plain_file_token c.index.result.now in
    let grew = c.in_ok-visit.ensures.grows in
    let here : c.loop-next.next < length items = search rules in
    let inside : c.loop-next.next < length old = omega (arith, length-map items plain_file_token, here) in
    let is : member ≡ get_or old c.loop-next.next member = ap plain_file_token c.index.ensures ∙ sym (get_or-map plain_file_token items c.loop-next.next c.index.result.now member here) in
    let reached = All-contains (IsReached all place) old member c.loop-next.invariant.reached (c.loop-next.next, inside, sym is) in
    record {
      within = let more = longer all member grew in omega (arith, more, inside);
      there = found_still all member grew place c.loop-next.invariant.there;
      reached = reached_more all place member grew reached c.loop-next.invariant.reached;
      visited = visited_more all place member grew c.loop-next.next inside is c.loop-next.invariant.visited c.in_ok-visit.ensures.visited;
    }

pub returns : goal.returns
returns c =
    let all = plain_tied_tokens c.args.all.now in
    let items = c.loop-next.found.items in
    let past : length items ≤ c.loop-next.next = search rules in
    found_are_reached all (plain_file_token c.args.place.now) (plain_file_tokens items) c.loop-next.next c.loop-next.invariant.there c.loop-next.invariant.reached
    (omega (arith, length-map items plain_file_token, past)) c.loop-next.invariant.visited
