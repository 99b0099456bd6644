use Rattle.std.proofs.Common.{◌≡◌, ◌<◌, ◌≤◌, ◌-◌, ◌++◌, length, take, drop, refl, sym, ap, ◌∙◌, subst, arith}
use Rattle.std.proofs.lemmas.Grind.{common_steps}
use Rattle.file_edits.specs.Edits as spec
use Rattle.file_edits.specs.Places.{edits_in, NoneReaches, covered_to, next_start}
use Rattle.file_edits.proofs.WritingLemmas.{ordered-in, one-in, apart-in, resumed-within, resumed-reaches, written-resumed, next-reaches, written-next}
use Rattle.file_edits.proofs.writing.write_on.Goals as goal

pub returns-then-at-resumed-clause-inside : goal.returns-then-at-resumed-clause-inside
returns-then-at-resumed-clause-inside c =
    let number = c.args.number in
    let edits = c.args.edits.now in
    let bytes = c.args.bytes.now in
    let goes : c.args.at < covered_to c.args.at c.args.at (edits_in number edits) = subst (λ k. c.args.at < k) c.covered_to-resumed.ensures c.if-at-resumed.true in
    subst (λ k. k ≤ length bytes) (sym c.covered_to-resumed.ensures)
    (resumed-within (edits_in number edits) (length bytes) c.args.at bytes refl c.requires.inside (ordered-in number edits) (one-in number edits) c.requires.within (apart-in number edits c.requires.apart) c.requires.none_reaches goes)

pub returns-then-at-resumed-clause-none_reaches : goal.returns-then-at-resumed-clause-none_reaches
returns-then-at-resumed-clause-none_reaches c =
    let number = c.args.number in
    let edits = c.args.edits.now in
    let bytes = c.args.bytes.now in
    let goes : c.args.at < covered_to c.args.at c.args.at (edits_in number edits) = subst (λ k. c.args.at < k) c.covered_to-resumed.ensures c.if-at-resumed.true in
    subst (λ k. NoneReaches k (edits_in number edits)) (sym c.covered_to-resumed.ensures)
    (resumed-reaches (edits_in number edits) (length bytes) c.args.at bytes refl c.requires.inside (ordered-in number edits) (one-in number edits) c.requires.within (apart-in number edits c.requires.apart) c.requires.none_reaches goes)

pub returns-then-at-resumed-clause-written : goal.returns-then-at-resumed-clause-written
returns-then-at-resumed-clause-written c =
    let number = c.args.number in
    let edits = c.args.edits.now in
    let bytes = c.args.bytes.now in
    let goes : c.args.at < covered_to c.args.at c.args.at (edits_in number edits) = subst (λ k. c.args.at < k) c.covered_to-resumed.ensures c.if-at-resumed.true in
    let put : c.put_in.new.out.items ≡ c.args.out.now.items ++ spec.put_in (edits_in number edits) c.args.at = grind (arith, common_steps) in
    subst (λ k. c.put_in.new.out.items ++ spec.edited_from k (edits_in number edits) (drop k bytes) ≡ c.args.out.now.items ++ spec.edited_from c.args.at (edits_in number edits) (drop c.args.at bytes)) (sym c.covered_to-resumed.ensures)
    (ap (λ xs. xs ++ spec.edited_from (covered_to c.args.at c.args.at (edits_in number edits)) (edits_in number edits) (drop (covered_to c.args.at c.args.at (edits_in number edits)) bytes)) put
    ∙ written-resumed (edits_in number edits) (length bytes) c.args.at bytes refl c.requires.inside (ordered-in number edits) (one-in number edits) c.requires.within (apart-in number edits c.requires.apart) c.requires.none_reaches goes c.args.out.now.items)

pub returns-clause-none_reaches : goal.returns-clause-none_reaches
returns-clause-none_reaches c =
    let number = c.args.number in
    let edits = c.args.edits.now in
    let bytes = c.args.bytes.now in
    let stays : covered_to c.args.at c.args.at (edits_in number edits) ≤ c.args.at = subst (λ k. k ≤ c.args.at) c.covered_to-resumed.ensures c.if-at-resumed.false in
    subst (λ k. NoneReaches k (edits_in number edits)) (sym c.next_start-next.ensures.value)
    (next-reaches (edits_in number edits) (length bytes) c.args.at bytes refl c.requires.inside (ordered-in number edits) (one-in number edits) c.requires.within (apart-in number edits c.requires.apart) c.requires.none_reaches stays)

pub returns-clause-written : goal.returns-clause-written
returns-clause-written c =
    let number = c.args.number in
    let edits = c.args.edits.now in
    let bytes = c.args.bytes.now in
    let stays : covered_to c.args.at c.args.at (edits_in number edits) ≤ c.args.at = subst (λ k. k ≤ c.args.at) c.covered_to-resumed.ensures c.if-at-resumed.false in
    let next = next_start (length bytes) c.args.at (edits_in number edits) in
    let put : c.put_in.new.out.items ≡ c.args.out.now.items ++ spec.put_in (edits_in number edits) c.args.at = grind (arith, common_steps) in
    let copied : c.extend_from_slice.new.self.items ≡ (c.args.out.now.items ++ spec.put_in (edits_in number edits) c.args.at) ++ take (next - c.args.at) (drop c.args.at bytes) =
    c.in_ok-extend_from_slice.ensures.items
    ∙ ap (λ xs. xs ++ take (c.next_start-next.result - c.args.at) (drop c.args.at bytes)) put
    ∙ ap (λ k. (c.args.out.now.items ++ spec.put_in (edits_in number edits) c.args.at) ++ take (k - c.args.at) (drop c.args.at bytes)) c.next_start-next.ensures.value in
    subst (λ k. c.extend_from_slice.new.self.items ++ spec.edited_from k (edits_in number edits) (drop k bytes) ≡ c.args.out.now.items ++ spec.edited_from c.args.at (edits_in number edits) (drop c.args.at bytes)) (sym c.next_start-next.ensures.value)
    (ap (λ xs. xs ++ spec.edited_from next (edits_in number edits) (drop next bytes)) copied
    ∙ written-next (edits_in number edits) (length bytes) c.args.at bytes refl c.requires.inside (ordered-in number edits) (one-in number edits) c.requires.within (apart-in number edits c.requires.apart) c.requires.none_reaches stays c.args.out.now.items)
