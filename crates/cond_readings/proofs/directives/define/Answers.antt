use Rattle.std.proofs.Common.{◌≡◌, ℕ, Bool, true, false, List, map, drop, ap, sym, ◌∙◌}
use Rattle.std.specs.Prelude.{◌||◌, is_some}
use Rattle.std.specs.List.{list_any}
use Rattle.std.specs.Str.{bytes_eq}
use Rattle.std.specs.String.{string_bytes}
use Rattle.cond_formula.specs.Features.{has}
use Rattle.cond_formula.specs.Conditions.{Condition, condition_of, value}
use Rattle.c_text.specs.Token.{plain_token}
use Rattle.c_text.specs.PlainMacros.{plain_macro}
use Rattle.c_text.specs.Directives.{define_line}
use Rattle.c_text.specs.Preprocessing.{Reading, directed, refused_token}
use Rattle.cond_tokens.specs.Streams.{tokens_at}
use Rattle.macro_table.specs.MacroTables.{table_at}
use Rattle.cond_readings.specs.Readings.{reading_at, unless_refused}
use Rattle.cond_readings.specs.TakenLaws.{taken-refuses}
use Rattle.cond_readings.proofs.OptionLemmas.{left_false, right_false, nothing_is}
use Rattle.cond_readings.proofs.DirectiveLemmas.{define-is, define-barred}
use Rattle.cond_readings.proofs.directives.define.Goals as goal

pub returns-then-bars_define : goal.returns-then-bars_define
returns-then-bars_define c =
    λ k s is hash.
    let m = plain_macro c.args.m.now in
    let ts = map plain_token c.args.tokens.now in
    let features = map string_bytes c.args.place.now.features.now in
    let old = reading_at (has k) features c.args.reading.now in
    let barred : (s.is_feature m.name || is_some (refused_token (drop 2 ts))) ≡ true =
    ap (λ (b : Bool). b || is_some (refused_token (drop 2 ts))) (is.features m.name ∙ ap (λ (n : List ℕ). list_any (bytes_eq n) features) (sym c.as_slice.ensures.value))
    ∙ sym c.bars_define.ensures ∙ c.if-bars_define.true
    in
    c.in_ok-refuse.ensures (has k) features
    ∙ ap (λ (h : Condition). unless_refused (value (has k) h) old) c.in_ok-try_clone.ensures
    ∙ taken-refuses (value (has k) (condition_of c.args.here.now)) (λ (r : Reading). directed s r hash ts (define_line m)) old (λ r. define-barred s r hash ts m barred)

pub returns : goal.returns
returns c =
    λ k s is hash.
    let m = plain_macro c.args.m.now in
    let ts = map plain_token c.args.tokens.now in
    let features = map string_bytes c.args.place.now.features.now in
    let reading = c.args.reading.now in
    let h = value (has k) (condition_of c.args.here.now) in
    let t0 = table_at (has k) reading.table in
    let fine = sym c.bars_define.ensures ∙ c.if-bars_define.false in
    let none : list_any (bytes_eq m.name) features ≡ false =
    ap (λ (n : List ℕ). list_any (bytes_eq n) features) (sym c.as_slice.ensures.value) ∙ left_false _ _ fine
    in
    c.in_ok-refuse-2.ensures (has k) features
    ∙ ap (λ (b : Bool). unless_refused b (reading_at (has k) features (record reading { table = c.define_in.new.table }))) (c.in_ok-refused.ensures.refused (has k))
    ∙ define-is s h (value (has k) (condition_of reading.refused)) (has k) features t0 (table_at (has k) c.define_in.new.table) (tokens_at (has k) reading.tokens.items) ts hash m (is.features m.name ∙ none) none (nothing_is _ (right_false _ _ fine)) (c.in_ok-refused.ensures.table (has k))
