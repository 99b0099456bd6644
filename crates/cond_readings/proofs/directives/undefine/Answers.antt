use Rattle.std.proofs.Common.{◌≡◌, ℕ, Bool, true, false, List, map, drop, ap, sym, ◌∙◌}
use Rattle.std.specs.Prelude.{◌||◌, is_some, if◌then◌else◌}
use Rattle.std.specs.List.{list_any}
use Rattle.std.specs.Str.{bytes_eq}
use Rattle.std.specs.String.{string_bytes}
use Rattle.cond_formula.specs.Features.{has}
use Rattle.cond_formula.specs.Conditions.{Condition, condition_of, value}
use Rattle.c_text.specs.Token.{plain_token}
use Rattle.c_text.specs.Directives.{undef_line}
use Rattle.c_text.specs.Preprocessing.{Reading, directed, refused_ignored}
use Rattle.cond_tokens.specs.Streams.{tokens_at}
use Rattle.macro_table.specs.MacroTables.{table_at, without_name}
use Rattle.cond_readings.specs.Readings.{reading_at, unless_refused}
use Rattle.cond_readings.specs.TakenLaws.{taken-refuses}
use Rattle.cond_readings.proofs.OptionLemmas.{left_false, right_false, nothing_is}
use Rattle.cond_readings.proofs.DirectiveLemmas.{undef-is, undef-barred}
use Rattle.cond_readings.proofs.directives.undefine.Goals as goal

pub returns-then-bars_undef : goal.returns-then-bars_undef
returns-then-bars_undef c =
    λ k s is hash.
    let name = plain_token c.args.name.now in
    let ts = map plain_token c.args.tokens.now in
    let features = map string_bytes c.args.place.now.features.now in
    let old = reading_at (has k) features c.args.reading.now in
    let barred : (s.is_feature name.text || is_some (refused_ignored (drop 3 ts))) ≡ true =
    ap (λ (b : Bool). b || is_some (refused_ignored (drop 3 ts))) (is.features name.text ∙ ap (λ (n : List ℕ). list_any (bytes_eq n) features) (sym c.as_slice-text.ensures.value))
    ∙ sym c.bars_undef.ensures ∙ c.if-bars_undef.true
    in
    c.in_ok-refuse.ensures (has k) features
    ∙ ap (λ (h : Condition). unless_refused (value (has k) h) old) c.in_ok-try_clone.ensures
    ∙ taken-refuses (value (has k) (condition_of c.args.here.now)) (λ (r : Reading). directed s r hash ts (undef_line name)) old (λ r. undef-barred s r hash ts name barred)

pub returns : goal.returns
returns c =
    λ k s is hash.
    let name = plain_token c.args.name.now in
    let ts = map plain_token c.args.tokens.now in
    let features = map string_bytes c.args.place.now.features.now in
    let reading = c.args.reading.now in
    let h = value (has k) (condition_of c.args.here.now) in
    let t0 = table_at (has k) reading.table in
    let fine = sym c.bars_undef.ensures ∙ c.if-bars_undef.false in
    let none : list_any (bytes_eq name.text) features ≡ false =
    ap (λ (n : List ℕ). list_any (bytes_eq n) features) (sym c.as_slice-text.ensures.value) ∙ left_false _ _ fine
    in
    undef-is s h (value (has k) (condition_of reading.refused)) (has k) features t0 (table_at (has k) c.undef_lawful.new.self) (tokens_at (has k) reading.tokens.items) ts hash name (is.features name.text ∙ none) none (nothing_is _ (right_false _ _ fine)) (λ other. c.in_ok-undef_lawful.ensures.table (has k) other ∙ ap (λ (n : List ℕ). if h then without_name t0 n other else t0 other) c.as_slice-text.ensures.value)
