-- What the condition of a line comes to.
use Rattle.std.proofs.Common.{◌≡◌, ◌↔◌, ℕ, ◌<◌, Bool, true, false, List, [], ◌∷◌, map, drop, length, Option, Some, None, refl, sym, ap, ◌∙◌, arith}
use Rattle.std.specs.Prelude.{ℤ, if◌then◌else◌, ◌||◌, ◌&&◌, is_some}
use Rattle.std.specs.List.{list_any}
use Rattle.cond_formula.specs.Conditions.{value}
use Rattle.conditional.specs.Entries.{Entry, seen}
use Rattle.c_text.specs.Token.{PlainToken}
use Rattle.c_text.specs.Directives.{PlainDirective, ifdef_line, ifndef_line, else_line, directive_of}
use Rattle.c_text.specs.Macros.{Table, Replaced, fine, bad_call, replaced}
use Rattle.c_text.specs.Expressions.{HasValue}
use Rattle.c_text.specs.Preprocessing as spec
use Rattle.c_text.specs.Preprocessing.{Refusal, by_value, by_replaced, by_tests, unless_fails, refused_token, refused_ignored, tests_replaced}
use Rattle.pp_lines.specs.declared.expressions.Value.{Value}
use Rattle.pp_lines.specs.declared.expressions.Value.TheVariants.{Number, Refused}
use Rattle.cond_macros.specs.Outcomes.{is_bad_call, tokens_of}
use Rattle.unit_files.specs.Settings.{AreValues}
use Rattle.cond_groups.specs.Truths.{came_out, truth_of_value, is_met, is_bad, any_met, any_bad}

-- ---- the value of an expression

abbrev number_in : Value → Option ℤ
number_in (Number n) = Some n
number_in Refused = None

same-option : (a b : Option ℤ) → ((z : ℤ) → a ≡ Some z → b ≡ Some z) → ((z : ℤ) → b ≡ Some z → a ≡ Some z) → a ≡ b
same-option None None h k = refl
same-option None (Some z) h k = k z refl
same-option (Some z) b h k = sym (h z refl)

is-number : (v : Value) (z : ℤ) → number_in v ≡ Some z → v ≡ Number z
is-number (Number n) z h = cc
is-number Refused z h = cc

value-is : (value_of : List PlainToken → Option ℤ) → AreValues value_of → (ts : List PlainToken) (v : Value) → ((z : ℤ) → (v ≡ Number z) ↔ HasValue ts z) → number_in v ≡ value_of ts
value-is value_of are ts v h =
    same-option (number_in v) (value_of ts) (λ z e. (are.values ts z).1 ((h z).0 (is-number v z e))) (λ z e. ap number_in ((h z).1 ((are.values ts z).0 e)))

truth-of-number : (hash : PlainToken) (v : Value) → truth_of_value v ≡ came_out (by_value hash None (number_in v))
truth-of-number hash (Number n) = refl
truth-of-number hash Refused = refl

-- where a call is refused, so is the line; elsewhere the condition is whether the value isn't 0
pub truth-is : (value_of : List PlainToken → Option ℤ) → AreValues value_of → (hash : PlainToken) (p : Replaced) (rf : Bool) (ts : List PlainToken) (v : Value) → rf ≡ is_bad_call p → (is_bad_call p ≡ false → ts ≡ tokens_of p) → ((z : ℤ) → (v ≡ Number z) ↔ HasValue ts z) → (if rf then None else truth_of_value v) ≡ came_out (by_replaced value_of hash None p)
truth-is value_of are hash (fine items) rf ts v bad tokens is =
    ap (λ (b : Bool). if b then None else truth_of_value v) bad
    ∙ truth-of-number hash v
    ∙ ap (λ (o : Option ℤ). came_out (by_value hash None o)) (value-is value_of are ts v is ∙ ap value_of (tokens refl))
truth-is value_of are hash (bad_call name) rf ts v bad tokens is =
    ap (λ (b : Bool). if b then None else truth_of_value v) bad

-- ---- a token that refuses

refused-value : (hash : PlainToken) (found : Option Refusal) (v : Option ℤ) → is_some found ≡ true → came_out (by_value hash found v) ≡ None
refused-value hash found None h = refl
refused-value hash None (Some z) h = cc
refused-value hash (Some why) (Some z) h = refl

refused-replaced : (value_of : List PlainToken → Option ℤ) (hash : PlainToken) (found : Option Refusal) (p : Replaced) → is_some found ≡ true → came_out (by_replaced value_of hash found p) ≡ None
refused-replaced value_of hash found (fine items) h = refused-value hash found (value_of (map (λ item. item.token) items)) h
refused-replaced value_of hash found (bad_call name) h = refl

refused-tests : (value_of : List PlainToken → Option ℤ) (table : Table) (hash : PlainToken) (found : Option Refusal) (o : Option (List PlainToken)) → is_some found ≡ true → came_out (by_tests value_of table hash found o) ≡ None
refused-tests value_of table hash found None h = refl
refused-tests value_of table hash found (Some tokens) h = refused-replaced value_of hash found (replaced table tokens) h

pub expression-refused : (value_of : List PlainToken → Option ℤ) (table : Table) (hash : PlainToken) (tokens : List PlainToken) → is_some (refused_token tokens) ≡ true → None ≡ came_out (spec.condition_of value_of table hash tokens)
expression-refused value_of table hash tokens h =
    sym (refused-tests value_of table hash (refused_token tokens) (tests_replaced table 0 tokens) h)

pub expression-untested : (value_of : List PlainToken → Option ℤ) (table : Table) (hash : PlainToken) (tokens : List PlainToken) → None ≡ tests_replaced table 0 tokens → None ≡ came_out (spec.condition_of value_of table hash tokens)
expression-untested value_of table hash tokens none =
    ap (λ (o : Option (List PlainToken)). came_out (by_tests value_of table hash (refused_token tokens) o)) none

none-is : {X : Type 0} (o : Option X) → is_some o ≡ false → None ≡ o
none-is None h = refl
none-is (Some x) h = cc

pub expression-is : (value_of : List PlainToken → Option ℤ) (table : Table) (hash : PlainToken) (tokens tested : List PlainToken) → is_some (refused_token tokens) ≡ false → Some tested ≡ tests_replaced table 0 tokens → came_out (by_replaced value_of hash None (replaced table tested)) ≡ came_out (spec.condition_of value_of table hash tokens)
expression-is value_of table hash tokens tested off some =
    ap (λ (o : Option (List PlainToken)). came_out (by_tests value_of table hash None o)) some
    ∙ ap (λ (k : Option Refusal). came_out (by_tests value_of table hash k (tests_replaced table 0 tokens))) (none-is (refused_token tokens) off)

-- ---- `#ifdef`, `#ifndef` and `#else`

pub ifdef-is : (value_of : List PlainToken → Option ℤ) (table : Table) (hash name : PlainToken) (tokens ignored : List PlainToken) (says : PlainDirective) (truth : Option Bool) → ignored ≡ drop 3 tokens → says ≡ ifdef_line name → truth ≡ came_out (spec.defined_condition value_of table true name ignored) → truth ≡ came_out (spec.line_condition value_of table hash tokens says)
ifdef-is value_of table hash name tokens ignored says truth behind is there =
    there
    ∙ ap (λ (ts : List PlainToken). came_out (spec.defined_condition value_of table true name ts)) behind
    ∙ ap (λ (d : PlainDirective). came_out (spec.line_condition value_of table hash tokens d)) (sym is)

pub ifndef-is : (value_of : List PlainToken → Option ℤ) (table : Table) (hash name : PlainToken) (tokens ignored : List PlainToken) (says : PlainDirective) (truth : Option Bool) → ignored ≡ drop 3 tokens → says ≡ ifndef_line name → truth ≡ came_out (spec.defined_condition value_of table false name ignored) → truth ≡ came_out (spec.line_condition value_of table hash tokens says)
ifndef-is value_of table hash name tokens ignored says truth behind is there =
    there
    ∙ ap (λ (ts : List PlainToken). came_out (spec.defined_condition value_of table false name ts)) behind
    ∙ ap (λ (d : PlainDirective). came_out (spec.line_condition value_of table hash tokens d)) (sym is)

unless-bad : (found : Option Refusal) → (if is_some found then None else Some true) ≡ came_out (unless_fails found true)
unless-bad None = refl
unless-bad (Some why) = refl

pub else-is : (value_of : List PlainToken → Option ℤ) (table : Table) (hash : PlainToken) (tokens ignored : List PlainToken) (says : PlainDirective) (bad : Bool) → bad ≡ is_some (refused_ignored ignored) → ignored ≡ drop 2 tokens → says ≡ else_line → (if bad then None else Some true) ≡ came_out (spec.line_condition value_of table hash tokens says)
else-is value_of table hash tokens ignored says bad bad_is behind is =
    ap (λ (b : Bool). if b then None else Some true) (bad_is ∙ ap (λ (ts : List PlainToken). is_some (refused_ignored ts)) behind)
    ∙ unless-bad (refused_ignored (drop 2 tokens))
    ∙ ap (λ (d : PlainDirective). came_out (spec.line_condition value_of table hash tokens d)) (sym is)

-- ---- a line by its tokens

pub line-is : (value_of : List PlainToken → Option ℤ) (table : Table) (tokens : List PlainToken) (says : PlainDirective) (x : Option Bool) → 0 < length tokens → says ≡ directive_of tokens → ((hash : PlainToken) → x ≡ came_out (spec.line_condition value_of table hash tokens says)) → x ≡ came_out (spec.condition_at value_of table tokens)
line-is value_of table [] says x some is line = absurd (omega arith)
line-is value_of table (hash ∷ rest) says x some is line =
    line hash ∙ ap (λ (d : PlainDirective). came_out (spec.line_condition value_of table hash (hash ∷ rest) d)) is

pub line-none : (value_of : List PlainToken → Option ℤ) (table : Table) (tokens : List PlainToken) → length tokens < 1 → Some false ≡ came_out (spec.condition_at value_of table tokens)
line-none value_of table [] none = refl
line-none value_of table (hash ∷ rest) none = absurd (omega arith)

-- ---- values one by one

met-one : (b : Bool) (v : Value) (vs : List Value) (k : Bool) → k ≡ list_any is_met vs → ((b && is_met v) || k) ≡ list_any is_met (if b then v ∷ vs else vs)
met-one true v vs k h = ap (λ (x : Bool). is_met v || x) h
met-one false v vs k h = h

any-met-seen : (features : ℕ → Bool) (xs : List (Entry Value)) → any_met features xs ≡ list_any is_met (seen features xs)
any-met-seen features [] = refl
any-met-seen features (e ∷ rest) =
    met-one (value features e.when) e.what (seen features rest) (any_met features rest) (any-met-seen features rest)

bad-one : (b : Bool) (v : Value) (vs : List Value) (k : Bool) → k ≡ list_any is_bad vs → ((b && is_bad v) || k) ≡ list_any is_bad (if b then v ∷ vs else vs)
bad-one true v vs k h = ap (λ (x : Bool). is_bad v || x) h
bad-one false v vs k h = h

any-bad-seen : (features : ℕ → Bool) (xs : List (Entry Value)) → any_bad features xs ≡ list_any is_bad (seen features xs)
any-bad-seen features [] = refl
any-bad-seen features (e ∷ rest) =
    bad-one (value features e.when) e.what (seen features rest) (any_bad features rest) (any-bad-seen features rest)

pub or-false : (b : Bool) → (b || false) ≡ b
or-false true = refl
or-false false = refl

by-value : (rf : Bool) (v : Value) → (if rf || is_bad v then None else Some (is_met v)) ≡ (if rf then None else truth_of_value v)
by-value true v = refl
by-value false (Number n) = refl
by-value false Refused = refl

pub truth-found : (features : ℕ → Bool) (xs : List (Entry Value)) (h rf rf0 : Bool) (v : Value) → h ≡ any_met features xs → rf ≡ (rf0 || any_bad features xs) → seen features xs ≡ v ∷ [] → (if rf then None else Some h) ≡ (if rf0 then None else truth_of_value v)
truth-found features xs h rf rf0 v h_is rf_is alone =
    let met : h ≡ is_met v = h_is ∙ any-met-seen features xs ∙ ap (λ (vs : List Value). list_any is_met vs) alone ∙ or-false (is_met v) in
    let bad : rf ≡ (rf0 || is_bad v) = rf_is ∙ ap (λ (k : Bool). rf0 || k) (any-bad-seen features xs ∙ ap (λ (vs : List Value). list_any is_bad vs) alone ∙ or-false (is_bad v)) in
    ap (λ (k : Bool). if k then None else Some h) bad ∙ ap (λ (k : Bool). if rf0 || is_bad v then None else Some k) met ∙ by-value rf0 v
