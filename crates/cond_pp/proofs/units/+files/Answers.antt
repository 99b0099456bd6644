use Rattle.std.proofs.Common.{◌≡◌, ℕ, ◌+◌, ◌<◌, true, ◌||◌, List, [], length, map, drop, IsTrue, refl, ap, sym, ◌∙◌, subst, arith, option_map}
use Rattle.std.specs.Prelude.{Option, IfSome}
use Rattle.std.specs.String.{string_bytes}
use Rattle.cond_formula.specs.Features.{has}
use Rattle.cond_formula.specs.Conditions.{Condition, condition_of, value}
use Rattle.c_text.specs.Lines.{plain_line}
use Rattle.c_text.specs.Preprocessing as spec
use Rattle.c_text.specs.Preprocessing.{Flow}
use Rattle.file_walks.specs.Walk.{Walk, step, finished}
use Rattle.unit_files.specs.Inclusions.{plain_source, IsAmong}
use Rattle.unit_files.specs.SourceFiles.{deeper_of}
use Rattle.cond_readings.specs.Readings.{taken, reading_at}
use Rattle.cond_groups.specs.Groups.{groups_of}
use Rattle.cond_pp.specs.Walks.{IsFit, ahead, after_file, including, reads_ahead, reads_included}
use Rattle.cond_pp.specs.declared.walk.Inclusion.{Inclusion}
use Rattle.cond_groups.specs.GroupLaws.{fits-none}
use Rattle.active_tokens.specs.Reads.{Read}
use Rattle.active_tokens.specs.Active.{reads_of_source}
use Rattle.read_walks.specs.SourceReads.{deeper_reads_of, following_in}
use Rattle.read_walks.specs.WalkReads.{reads_at_flush, reads_of_step}
use Rattle.cond_pp.specs.declared.watch.Sought.{Sought}
use Rattle.cond_pp.specs.Watches.{plain_sought, is_read_in, is_seen, read_where}
use Rattle.cond_pp.proofs.SourceLemmas.{inclusion-reads, deeper-alike, line-carried, file-starts-reads, file-ends-reads}
use Rattle.cond_pp.proofs.FileLemmas.{inclusion-read, include-outside, line-read, lines-at, file-starts, file-ends}
use Rattle.cond_pp.proofs.units.+files.Goals as goal

pub enter-returns-in_ok-read_source-in-Some-clause-read : goal.enter-returns-in_ok-read_source-in-Some-clause-read
enter-returns-in_ok-read_source-in-Some-clause-read g t c =
    λ k s x adm are syntax.
    let features = has k in
    let old = reading_at features (map string_bytes c.args.sources.now.features.now) c.args.reading.now in
    let new = reading_at features (map string_bytes c.args.sources.now.features.now) c.read_source.new.reading in
    let i = c.in-Some.field-0 in
    let there = subst (λ (o : Option Inclusion). IfSome o (λ f. (0 < c.args.more) × IsAmong (length c.args.sources.now.headers.now) f.source)) c.in-Some.is c.requires.there in
    subst (λ (o : Option Inclusion). new ≡ taken true (λ r. including features (deeper_of s x c.args.more) o r) old) (sym c.in-Some.is)
    (inclusion-read features s x c.args.more i old new there.0 (c.in_ok-read_source-in-Some.ensures.read k s x adm are syntax))

pub read_source-loop-line-init : goal.read_source-loop-line-init
read_source-loop-line-init g t c =
    let w = c.new-walker.result in (
      refl,
      λ on. fits-none on (condition_of w.entered) (groups_of w.groups) c.new-walker.ensures.groups,
      λ k s x adm are syntax.
          file-starts c.sources_are_walked.ensures c.args.sources.now s x are syntax c.args.source c.requires.there c.args.more c.source_number-file.result c.text_of-text.result.now c.in_ok-all.all.items c.as_slice.result.now c.its_lines-lines.result.now
          c.source_number-file.ensures (c.text_of-text.ensures.value s are) c.in_ok-all.ensures c.as_slice.ensures.value c.its_lines-lines.ensures
          (has k) w c.args.when (reading_at (has k) (map string_bytes c.args.sources.now.features.now) c.args.reading.now) c.new-walker.ensures.entered c.new-walker.ensures.run c.new-walker.ensures.groups,
      refl,
      λ k s x are misplaced adm are_sources are_misplaced.
          file-starts-reads c.source_reads_are_walked.ensures c.reads_are_tested.ensures.by_token c.args.sources.now s x are_sources are misplaced are_misplaced c.args.source c.requires.there c.args.more c.source_number-file.result c.text_of-text.result.now c.in_ok-all.all.items c.as_slice.result.now c.its_lines-lines.result.now
          c.source_number-file.ensures (c.text_of-text.ensures.value s are_sources) c.in_ok-all.ensures c.as_slice.ensures.value c.its_lines-lines.ensures
          (has k) w c.args.when (reading_at (has k) (map string_bytes c.args.sources.now.features.now) c.args.reading.now) (option_map plain_sought c.args.watch.now.sought) (value (has k) (condition_of c.args.watch.now.found)) c.new-walker.ensures.entered c.new-walker.ensures.run c.new-walker.ensures.groups,
    )

pub read_source-loop-line-preserved : goal.read_source-loop-line-preserved
read_source-loop-line-preserved g t c = (
  c.in_ok-enter.ensures.kept ∙ c.in_ok-found.ensures.kept ∙ c.loop-line.invariant.0,
  λ on. c.in_ok-found.ensures.fit on (c.loop-line.invariant.1 on),
  λ k s x adm are syntax.
      let features = has k in
      let names = map string_bytes c.args.sources.now.features.now in
      let named : map string_bytes c.place_of-place.result.features.now ≡ names = ap (λ fs. map string_bytes fs) {y = c.args.sources.now.features.now} c.place_of-place.ensures.features in
      let st = spec.setting s x (plain_source c.args.source) (deeper_of s x c.args.more) in
      let w = c.loop-line.walker in
      let v = c.read_line.new.self in
      let lines = c.its_lines-lines.result.now in
      let i = c.loop-line.line-index in
      let line = plain_line c.line-item.result in
      let found = c.in_ok-found.found in
      let end = taken (value features (condition_of c.args.when)) (λ r. spec.read_source s x c.args.more (plain_source c.args.source) r) (reading_at features names c.args.reading.now) in
      let before = subst (λ (a : Condition). IsTrue (value features a)) (sym c.loop-line.invariant.0) adm in
      let between = subst (λ (a : Condition). IsTrue (value features a)) (sym c.in_ok-found.ensures.kept) before in
      let goes : (next : Walk → Flow) → ahead features w (λ u. step st u line next) (reading_at features names c.loop-line.reading) ≡ ahead features v (λ u. after_file features st.deeper found next u) (reading_at features names c.read_line.new.reading) =
      λ next.
      subst (λ (ns : List (List ℕ)). ahead features w (λ u. step st u line next) (reading_at features ns c.loop-line.reading) ≡ ahead features v (λ u. after_file features st.deeper found next u) (reading_at features ns c.read_line.new.reading)) named
      (c.in_ok-found.ensures.step k st before (c.place_of-place.ensures.setting s x are syntax) (c.loop-line.invariant.1 features) next)
      in
      line-read features st w v line (map plain_line (drop (i + 1) lines)) (map plain_line (drop i lines)) found (reading_at features names c.loop-line.reading) (reading_at features names c.read_line.new.reading) (reading_at features names c.enter.new.reading) end
      (lines-at plain_line lines i c.line-item.result c.loop-line-test.true c.line-item.is)
      (c.loop-line.invariant.2 k s x adm are syntax)
      goes
      (include-outside features st.deeper found (condition_of v.entered) (λ on. IsFit on w) (c.loop-line.invariant.1 features) c.in_ok-found.ensures.inside)
      (c.in_ok-enter.ensures.read k s x between are syntax),
  c.in_ok-enter.ensures.sought ∙ c.in_ok-found.ensures.sought ∙ c.loop-line.invariant.3,
  λ k s x are misplaced adm are_sources are_misplaced.
      let features = has k in
      let names = map string_bytes c.args.sources.now.features.now in
      let named : map string_bytes c.place_of-place.result.features.now ≡ names = ap (λ fs. map string_bytes fs) {y = c.args.sources.now.features.now} c.place_of-place.ensures.features in
      let st = spec.setting s x (plain_source c.args.source) (deeper_of s x c.args.more) in
      let f = following_in s x misplaced c.args.more (plain_source c.args.source) in
      let setting = c.place_of-place.ensures.setting s x are_sources are in
      let w = c.loop-line.walker in
      let v = c.read_line.new.self in
      let lines = c.its_lines-lines.result.now in
      let i = c.loop-line.line-index in
      let line = plain_line c.line-item.result in
      let found = c.in_ok-found.found in
      let sought = option_map plain_sought c.args.watch.now.sought in
      let start = value features (condition_of c.loop-line.watch.found) in
      let at_line = value features (condition_of c.read_line.new.watch.found) in
      let fit = c.loop-line.invariant.1 features in
      let end = value features (condition_of c.args.watch.now.found) || is_read_in sought (read_where (value features (condition_of c.args.when)) (λ r. reads_of_source s x misplaced c.args.more (plain_source c.args.source) r) (reading_at features names c.args.reading.now)) in
      let before = subst (λ (a : Condition). IsTrue (value features a)) (sym c.loop-line.invariant.0) adm in
      let between = subst (λ (a : Condition). IsTrue (value features a)) (sym c.in_ok-found.ensures.kept) before in
      let goes : (next : Walk → Flow) → ahead features w (λ u. step st u line next) (reading_at features names c.loop-line.reading) ≡ ahead features v (λ u. after_file features st.deeper found next u) (reading_at features names c.read_line.new.reading) =
      λ next.
      subst (λ (ns : List (List ℕ)). ahead features w (λ u. step st u line next) (reading_at features ns c.loop-line.reading) ≡ ahead features v (λ u. after_file features st.deeper found next u) (reading_at features ns c.read_line.new.reading)) named
      (c.in_ok-found.ensures.step k st before setting fit next)
      in
      let seen : (at_line || is_read_in sought (read_where true (λ r. reads_included features f.deeper found r) (reading_at features names c.read_line.new.reading))) ≡ (start || is_read_in sought (reads_ahead features w (λ u. reads_of_step st f u line (λ a. [])) (reading_at features names c.loop-line.reading))) =
      subst (λ (q : Option Sought). (at_line || is_read_in (option_map plain_sought q) (read_where true (λ r. reads_included features f.deeper found r) (reading_at features names c.read_line.new.reading))) ≡ (start || is_read_in (option_map plain_sought q) (reads_ahead features w (λ u. reads_of_step st f u line (λ a. [])) (reading_at features names c.loop-line.reading)))) c.loop-line.invariant.3
      (subst (λ (ns : List (List ℕ)). (at_line || is_seen c.loop-line.watch (read_where true (λ r. reads_included features f.deeper found r) (reading_at features ns c.read_line.new.reading))) ≡ (start || is_seen c.loop-line.watch (reads_ahead features w (λ u. reads_of_step st f u line (λ a. [])) (reading_at features ns c.loop-line.reading)))) named
      (c.in_ok-found.ensures.found k st f before setting (deeper-alike s x misplaced c.args.more) fit))
      in
      line-carried c.lines_lead_on.ensures c.walks_are_one.ensures c.reads_are_tested.ensures.joined sought st f features w v line (map plain_line (drop (i + 1) lines)) (map plain_line (drop i lines)) found (reading_at features names c.loop-line.reading) (reading_at features names c.read_line.new.reading) (reading_at features names c.enter.new.reading) start at_line (value features (condition_of c.enter.new.watch.found)) end
      (lines-at plain_line lines i c.line-item.result c.loop-line-test.true c.line-item.is)
      (c.loop-line.invariant.4 k s x are misplaced adm are_sources are_misplaced)
      goes seen
      (c.in_ok-enter.ensures.read k s x between are_sources are)
      (subst (λ (q : Option Sought). value features (condition_of c.enter.new.watch.found) ≡ (at_line || is_read_in (option_map plain_sought q) (read_where true (λ r. reads_included features f.deeper found r) (reading_at features names c.read_line.new.reading)))) (c.in_ok-found.ensures.sought ∙ c.loop-line.invariant.3)
      (c.in_ok-enter.ensures.found k s x are misplaced between are_sources are_misplaced)),
)

pub read_source-returns-clause-read : goal.read_source-returns-clause-read
read_source-returns-clause-read g t c =
    λ k s x adm are syntax.
    let features = has k in
    let names = map string_bytes c.args.sources.now.features.now in
    let named : map string_bytes c.place_of-place.result.features.now ≡ names = ap (λ fs. map string_bytes fs) {y = c.args.sources.now.features.now} c.place_of-place.ensures.features in
    let st = spec.setting s x (plain_source c.args.source) (deeper_of s x c.args.more) in
    let w = c.loop-line.walker in
    let end = taken (value features (condition_of c.args.when)) (λ r. spec.read_source s x c.args.more (plain_source c.args.source) r) (reading_at features names c.args.reading.now) in
    let before = subst (λ (a : Condition). IsTrue (value features a)) (sym c.loop-line.invariant.0) adm in
    let finishes =
    subst (λ (ns : List (List ℕ)). ahead features w (λ v. finished st v) (reading_at features ns c.loop-line.reading) ≡ reading_at features ns c.finish.new.reading) named
    (c.in_ok-finish.ensures.step k st before (c.loop-line.invariant.1 features))
    in
    file-ends plain_line st features w c.its_lines-lines.result.now c.loop-line.line-index (reading_at features names c.loop-line.reading) (reading_at features names c.finish.new.reading) end (omega arith) (c.loop-line.invariant.2 k s x adm are syntax) finishes

pub enter-returns-in_ok-read_source-in-Some-clause-found : goal.enter-returns-in_ok-read_source-in-Some-clause-found
enter-returns-in_ok-read_source-in-Some-clause-found g t c =
    λ k s x are misplaced adm are_sources are_misplaced.
    let features = has k in
    let watch = c.args.watch.now in
    let old = reading_at features (map string_bytes c.args.sources.now.features.now) c.args.reading.now in
    let i = c.in-Some.field-0 in
    let there = subst (λ (o : Option Inclusion). IfSome o (λ f. (0 < c.args.more) × IsAmong (length c.args.sources.now.headers.now) f.source)) c.in-Some.is c.requires.there in
    subst (λ (o : Option Inclusion). value features (condition_of c.read_source.new.watch.found) ≡ (value features (condition_of watch.found) || is_seen watch (read_where true (λ r. reads_included features (deeper_reads_of s x misplaced c.args.more) o r) old))) (sym c.in-Some.is)
    (c.in_ok-read_source-in-Some.ensures.found k s x are misplaced adm are_sources are_misplaced
    ∙ ap (λ (l : List Read). value features (condition_of watch.found) || is_seen watch l) (inclusion-reads features s x misplaced c.args.more i old there.0))

pub read_source-returns-clause-found : goal.read_source-returns-clause-found
read_source-returns-clause-found g t c =
    λ k s x are misplaced adm are_sources are_misplaced.
    let features = has k in
    let names = map string_bytes c.args.sources.now.features.now in
    let named : map string_bytes c.place_of-place.result.features.now ≡ names = ap (λ fs. map string_bytes fs) {y = c.args.sources.now.features.now} c.place_of-place.ensures.features in
    let st = spec.setting s x (plain_source c.args.source) (deeper_of s x c.args.more) in
    let f = following_in s x misplaced c.args.more (plain_source c.args.source) in
    let w = c.loop-line.walker in
    let start = value features (condition_of c.loop-line.watch.found) in
    let after = value features (condition_of c.finish.new.watch.found) in
    let sought = option_map plain_sought c.args.watch.now.sought in
    let end = value features (condition_of c.args.watch.now.found) || is_read_in sought (read_where (value features (condition_of c.args.when)) (λ r. reads_of_source s x misplaced c.args.more (plain_source c.args.source) r) (reading_at features names c.args.reading.now)) in
    let finishes =
    subst (λ (q : Option Sought). after ≡ (start || is_read_in (option_map plain_sought q) (reads_ahead features w (λ v. reads_at_flush v (λ a. [])) (reading_at features names c.loop-line.reading)))) c.loop-line.invariant.3
    (subst (λ (ns : List (List ℕ)). after ≡ (start || is_seen c.loop-line.watch (reads_ahead features w (λ v. reads_at_flush v (λ a. [])) (reading_at features ns c.loop-line.reading)))) named
    (c.in_ok-finish.ensures.found k (c.loop-line.invariant.1 features)))
    in
    file-ends-reads plain_line sought st f features w c.its_lines-lines.result.now c.loop-line.line-index (reading_at features names c.loop-line.reading) start after end (omega arith) (c.loop-line.invariant.4 k s x are misplaced adm are_sources are_misplaced) finishes
