use Rattle.std.proofs.Common.{refl, ℕ, List, length, map, drop, ◌+◌, Option, ap, sym, ◌∙◌, subst, arith, ◌<◌}
use Rattle.std.specs.Prelude.{option_map, IfSome}
use Rattle.std.proofs.lemmas.List.{length-map}
use Rattle.text_edits.specs.Files.{PlainFile, plain_file}
use Rattle.c_text.specs.Token.{plain_token}
use Rattle.c_text.specs.Lines.{plain_line, AreItsLines}
use Rattle.c_text.specs.declared.line.Line.{Line}
use Rattle.c_text.specs.Preprocessing as spec
use Rattle.c_text.specs.Preprocessing.{Flow}
use Rattle.unit_files.specs.declared.inclusions.Source.{Source}
use Rattle.unit_files.specs.Inclusions.{plain_source, IsAmong}
use Rattle.unit_files.specs.Settings.{entered}
use Rattle.plain_pp.specs.Readings.{plain_reading, Follows}
use Rattle.unit_files.specs.SourceFiles.{deeper_of}
use Rattle.plain_pp.specs.Walking.{plain_walk}
use Rattle.plain_pp.proofs.FileLemmas.{starts-at, stands-at, stands-end, says-stops, says-inner, follows-err, walk-goes, walk-breaks, walk-ends, walk-end_breaks, deeper-read}
use Rattle.plain_pp.proofs.units.+files.Goals as goal

pub enter-returns-in-Some : goal.enter-returns-in-Some
enter-returns-in-Some t c =
    λ s x are syn.
    let r = plain_reading c.args.reading.now in
    let there = subst (λ (o : Option Source). IfSome o (λ source. (0 < c.args.more) × IsAmong (length c.args.sources.now.headers.now) source)) c.in-Some.is c.requires.there in
    let e = deeper-read s x c.args.more (plain_source c.in-Some.source) r there.0 ∙ ap (λ (o : Option Source). entered (deeper_of s x c.args.more) (option_map plain_source o) r) (sym c.in-Some.is) in
    subst (λ (flow : Flow). Follows c.read_source.result flow (plain_reading c.read_source.new.reading)) e (c.read_source.ensures s x are syn)

pub read_source-loop-line-init : goal.read_source-loop-line-init
read_source-loop-line-init t c =
    λ s x are syn.
    let files = c.args.sources.now.files.now in
    let there = subst (λ (n : ℕ). IsAmong n c.args.source) (sym (length-map files plain_file) ∙ ap (λ (fs : List PlainFile). length fs) (sym are.files)) c.requires.there in
    starts-at c.sources_are_walked.ensures c.sources_break.ensures s x syn c.args.source there c.args.more c.source_number-file.result c.text_of-text.result.now (map plain_line c.as_slice.result.now) (map plain_line c.its_lines-lines.result.now) (plain_reading c.args.reading.now) (plain_walk (plain_reading c.args.reading.now) c.new-walker.result) c.source_number-file.ensures (c.text_of-text.ensures.value s are) (subst (λ (ls : List Line). AreItsLines c.source_number-file.result c.text_of-text.result.now (map plain_line ls)) (sym c.as_slice.ensures.value) c.in_ok-all.ensures) c.its_lines-lines.ensures refl (ap (λ ts. map (λ t. plain_token t.now) ts) c.new-walker.ensures.run) c.new-walker.ensures.groups

pub read_source-returns-in_err-found : goal.read_source-returns-in_err-found
read_source-returns-in_err-found t c =
    λ s x are syn.
    let st = spec.setting s x (plain_source c.args.source) (deeper_of s x c.args.more) in
    let w = plain_walk (plain_reading c.loop-line.reading) c.loop-line.walker in
    let rest = map plain_line (drop (c.loop-line.line-index + 1) c.its_lines-lines.result.now) in
    let line = plain_line c.line-item.result in
    let flow = spec.read_source s x c.args.more (plain_source c.args.source) (plain_reading c.args.reading.now) in
    let stands = stands-at plain_line st c.source_number-file.result (length c.text_of-text.result.now) w c.its_lines-lines.result.now c.loop-line.line-index c.line-item.result flow c.loop-line-test.true c.line-item.is (c.loop-line.invariant s x are syn) in
    let says = says-stops st c.source_number-file.result (length c.text_of-text.result.now) w line rest flow c.in_err-found.field-0.0 stands (c.in_err-found.ensures.step st (c.place_of-place.ensures.setting s x are syn) (walk-breaks st c.source_number-file.result (length c.text_of-text.result.now) w line rest flow stands)) in
    follows-err c.from_residual-in_err-found.result c.in_err-found.field-0.0 flow (plain_reading c.read_line.new.reading) c.from_residual-in_err-found.ensures.1 says

pub read_source-returns-in_err-enter : goal.read_source-returns-in_err-enter
read_source-returns-in_err-enter t c =
    λ s x are syn.
    let st = spec.setting s x (plain_source c.args.source) (deeper_of s x c.args.more) in
    let w = plain_walk (plain_reading c.loop-line.reading) c.loop-line.walker in
    let v = plain_walk (plain_reading c.read_line.new.reading) c.read_line.new.self in
    let rest = map plain_line (drop (c.loop-line.line-index + 1) c.its_lines-lines.result.now) in
    let line = plain_line c.line-item.result in
    let flow = spec.read_source s x c.args.more (plain_source c.args.source) (plain_reading c.args.reading.now) in
    let stands = stands-at plain_line st c.source_number-file.result (length c.text_of-text.result.now) w c.its_lines-lines.result.now c.loop-line.line-index c.line-item.result flow c.loop-line-test.true c.line-item.is (c.loop-line.invariant s x are syn) in
    let walked = c.in_ok-found.ensures.step st (c.place_of-place.ensures.setting s x are syn) (walk-breaks st c.source_number-file.result (length c.text_of-text.result.now) w line rest flow stands) in
    let says = says-inner st c.source_number-file.result (length c.text_of-text.result.now) w v line rest flow (option_map plain_source c.in_ok-found.found) c.in_err-enter.field-0.0 stands walked (c.in_err-enter.ensures s x are syn) in
    follows-err c.from_residual-in_err-enter.result c.in_err-enter.field-0.0 flow (plain_reading c.enter.new.reading) c.from_residual-in_err-enter.ensures.1 says

pub read_source-loop-line-preserved : goal.read_source-loop-line-preserved
read_source-loop-line-preserved t c =
    λ s x are syn.
    let st = spec.setting s x (plain_source c.args.source) (deeper_of s x c.args.more) in
    let w = plain_walk (plain_reading c.loop-line.reading) c.loop-line.walker in
    let v = plain_walk (plain_reading c.read_line.new.reading) c.read_line.new.self in
    let rest = map plain_line (drop (c.loop-line.line-index + 1) c.its_lines-lines.result.now) in
    let line = plain_line c.line-item.result in
    let flow = spec.read_source s x c.args.more (plain_source c.args.source) (plain_reading c.args.reading.now) in
    let stands = stands-at plain_line st c.source_number-file.result (length c.text_of-text.result.now) w c.its_lines-lines.result.now c.loop-line.line-index c.line-item.result flow c.loop-line-test.true c.line-item.is (c.loop-line.invariant s x are syn) in
    let walked = c.in_ok-found.ensures.step st (c.place_of-place.ensures.setting s x are syn) (walk-breaks st c.source_number-file.result (length c.text_of-text.result.now) w line rest flow stands) in
    walk-goes st c.source_number-file.result (length c.text_of-text.result.now) w v line rest flow (option_map plain_source c.in_ok-found.found) (plain_reading c.enter.new.reading) stands c.in_ok-found.ensures.moved walked (c.in_ok-enter.ensures s x are syn)

pub read_source-returns : goal.read_source-returns
read_source-returns t c =
    λ s x are syn.
    let st = spec.setting s x (plain_source c.args.source) (deeper_of s x c.args.more) in
    let w = plain_walk (plain_reading c.loop-line.reading) c.loop-line.walker in
    let flow = spec.read_source s x c.args.more (plain_source c.args.source) (plain_reading c.args.reading.now) in
    let stands = stands-end plain_line st c.source_number-file.result (length c.text_of-text.result.now) w c.its_lines-lines.result.now c.loop-line.line-index flow (omega arith) (c.loop-line.invariant s x are syn) in
    subst (λ (f : Flow). Follows c.finish.result f (plain_reading c.finish.new.reading)) (walk-ends st c.source_number-file.result (length c.text_of-text.result.now) w flow stands) (c.finish.ensures st (λ some. walk-end_breaks st c.source_number-file.result (length c.text_of-text.result.now) w flow stands))
