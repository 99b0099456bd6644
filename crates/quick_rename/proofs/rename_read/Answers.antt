use Rattle.std.proofs.Common.{sym, ◌∙◌}
use Rattle.quick_form.specs.Places.{placed_symbols}
use Rattle.quick_rename.specs.Scans.{ScannedPlaces}
use Rattle.quick_rename.proofs.RenameLemmas.{scanned_all, scanned_file, takes, refuses, tokens_is, has_place}
use Rattle.quick_rename.proofs.rename_read.Goals as goal

pub returns-in-Some-clause-answer : goal.returns-in-Some-clause-answer
returns-in-Some-clause-answer c =
    let words = c.in_ok-visit.ensures.words ∙ c.new-scan.ensures.words in
    let all : ScannedPlaces c.visit.new.visitor (placed_symbols c.args.bytes.now) = scanned_all (placed_symbols c.args.bytes.now) c.new-scan.result c.visit.new.visitor _ c.in_ok-visit.field-0 c.new-scan.ensures.nothing c.in_ok-visit.ensures.visits in
    refuses c.args.bytes.now c.args.old.now c.args.new.now c.args.parser.now c.visit.new.visitor c.tests_are_kept.ensures c.declared_behind_int.ensures c.requires.whole (scanned_file c.args.bytes.now c.visit.new.visitor all) words
    (sym c.in-Some.ensures.some)

pub returns-in-Some-clause-place : goal.returns-in-Some-clause-place
returns-in-Some-clause-place c =
    let words = c.in_ok-visit.ensures.words ∙ c.new-scan.ensures.words in
    let all : ScannedPlaces c.visit.new.visitor (placed_symbols c.args.bytes.now) = scanned_all (placed_symbols c.args.bytes.now) c.new-scan.result c.visit.new.visitor _ c.in_ok-visit.field-0 c.new-scan.ensures.nothing c.in_ok-visit.ensures.visits in
    has_place c.args.bytes.now c.args.old.now c.args.new.now c.args.parser.now c.visit.new.visitor _ c.tests_are_kept.ensures c.declared_behind_int.ensures c.requires.whole c.requires.size all words
    (sym c.in-Some.ensures.place)

pub returns-in_ok-renamed-in-None-clause-answer : goal.returns-in_ok-renamed-in-None-clause-answer
returns-in_ok-renamed-in-None-clause-answer c =
    let words = c.in_ok-visit.ensures.words ∙ c.new-scan.ensures.words in
    let all : ScannedPlaces c.visit.new.visitor (placed_symbols c.args.bytes.now) = scanned_all (placed_symbols c.args.bytes.now) c.new-scan.result c.visit.new.visitor _ c.in_ok-visit.field-0 c.new-scan.ensures.nothing c.in_ok-visit.ensures.visits in
    let known = scanned_file c.args.bytes.now c.visit.new.visitor all in
    record {
      takes = takes c.args.bytes.now c.args.old.now c.args.new.now c.args.parser.now c.visit.new.visitor c.tests_are_kept.ensures c.declared_behind_int.ensures c.requires.whole c.requires.size known words (sym c.in-None.ensures.some);
      renamed_is = c.in_ok-renamed-in-None.ensures;
      tokens_are = c.tokens.ensures ∙ tokens_is c.args.bytes.now c.args.old.now c.args.new.now _ c.visit.new.visitor c.requires.size known words;
    }
