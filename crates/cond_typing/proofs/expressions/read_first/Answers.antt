use Rattle.std.proofs.Common.{rules, ◌≡◌, ◌<◌, length, sym, subst, arith}
use Rattle.std.proofs.lemmas.Result.{IfOk-weaker}
use Rattle.cond_formula.specs.Features.{has}
use Rattle.c_tree.specs.Trees.{none}
use Rattle.conditional.proofs.ListLaws.{item_of}
use Rattle.choice_variants.specs.Variants.{before}
use Rattle.cond_nodes.specs.Reads.{ShowsRead}
use Rattle.cond_typing.specs.Readings.{first_read}
use Rattle.cond_typing.proofs.PartsBehindParts.{no_items}
use Rattle.cond_typing.proofs.expressions.read_first.Goals as goal

pub returns-then-is_empty-clause-shows : goal.returns-then-is_empty-clause-shows
returns-then-is_empty-clause-shows g c =
    let zero : length c.args.parts.now ≡ 0 = grind (arith, c.is_empty.ensures, c.if-is_empty.true) in
    IfOk-weaker c.nothing_read.result _ _ (λ z shows n right admitted.
    subst (λ parts. ShowsRead (has n) (g.K.Knowledge.callable c.args.known.now n) (first_read (g.K.Knowledge.known c.args.known.now n) (before (has n) parts none)) z) (sym (no_items c.args.parts.now zero))
    (shows (has n) (g.K.Knowledge.callable c.args.known.now n))) c.nothing_read.ensures

pub returns-else-is_empty-clause-shows : goal.returns-else-is_empty-clause-shows
returns-else-is_empty-clause-shows g c =
    let within : 0 < length c.args.parts.now = first_of (search rules, grind arith) in
    IfOk-weaker c.read_part.result _ _ (λ z shows n right admitted.
    subst (λ parts. ShowsRead (has n) (g.K.Knowledge.callable c.args.known.now n) (first_read (g.K.Knowledge.known c.args.known.now n) (before (has n) parts none)) z)
    (sym (item_of c.args.parts.now c.index-parts-0.result 0 within c.index-parts-0.is)) (shows n right admitted)) c.read_part.ensures.shows
