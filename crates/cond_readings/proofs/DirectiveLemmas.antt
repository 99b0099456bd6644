-- Directive lines where a condition holds.
use Rattle.std.proofs.Common.{◌≡◌, ℕ, suc, ◌<◌, Bool, true, false, List, [], ◌∷◌, length, drop, IsTrue, Option, Some, None, refl, sym, ap, ◌∙◌, arith}
use Rattle.std.specs.Prelude.{if◌then◌else◌, ◌||◌, ◌&&◌, not, is_some, IfSome, Vec, ◌≢◌}
use Rattle.std.specs.declared.alloc.Global.{Global}
use Rattle.std.specs.List.{list_any}
use Rattle.std.specs.Str.{bytes_eq}
use Rattle.std.specs.Cmp.Lexicographic.{bytes_decides}
use Rattle.std.proofs.Math.Path.{fun_ext}
use Rattle.c_text.specs.Token.{PlainToken}
use Rattle.c_text.specs.Directives.{PlainMacro, PlainDirective, directive_of, define_line, undef_line}
use Rattle.c_text.specs.declared.token.Token.{Token}
use Rattle.c_text.specs.declared.macros.Macro.{Macro}
use Rattle.pp_lines.specs.declared.forms.Directive.{Directive}
use Rattle.pp_lines.specs.declared.forms.Directive.TheVariants.{If, Ifdef, Ifndef, Elif, Else, Endif, Define, BadDefine, Undef, Include, Error, Null, Malformed}
use Rattle.pp_lines.specs.PlainDirectives.{plain_directive}
use Rattle.c_text.specs.Macros.{Table, Meaning, feature}
use Rattle.c_text.specs.Preprocessing as spec
use Rattle.c_text.specs.Preprocessing.{Reading, Flow, Setting, on, refused, Refusal, unless, redefined, put, same_meaning, feature_token, then_read, directed, included, read_directive, refused_token, refused_ignored}
use Rattle.macro_table.specs.MacroTables.{macro_meaning, clashes, with_macro, without_name, unless_defined}
use Rattle.macro_table.specs.Features.{is_feature_on}
use Rattle.cond_readings.specs.Readings.{unless_refused, came_to, taken}
use Rattle.unit_files.specs.declared.inclusions.Source.{Source}
use Rattle.unit_files.specs.Inclusions.{IsAmong}
use Rattle.unit_files.specs.declared.surroundings.Surroundings.{Surroundings}
use Rattle.unit_files.specs.Settings.{entered, MayEnter}
use Rattle.cond_readings.specs.Settings.{IsFound}
use Rattle.cond_readings.specs.TakenLaws.{taken-then, taken-refuses, taken-same}

-- ---- a definition kept under a condition that says nothing of where the name is defined

pub wider-refused : (h w : Bool) (old : Option Meaning) (new : Meaning) → (is_some old ≡ false → w ≡ h) → (IsTrue h → IsTrue w) → (h && (w && clashes old new)) ≡ (h && clashes old new)
wider-refused true w None new same wider = ap (λ (k : Bool). k && false) (same refl)
wider-refused false w None new same wider = refl
wider-refused true w (Some old) new same wider = ap (λ (k : Bool). k && clashes (Some old) new) (wider refl)
wider-refused false w (Some old) new same wider = refl

same-arms : (a b : Bool) (x : Option Meaning) → (if a then x else x) ≡ (if b then x else x)
same-arms true true x = refl
same-arms true false x = refl
same-arms false true x = refl
same-arms false false x = refl

wider-entry : (h w : Bool) (table : Table) (m : PlainMacro) (name : List ℕ) (old : Option Meaning) → (is_some old ≡ false → w ≡ h) → (if w then unless_defined table m.name old (macro_meaning m) name else table name) ≡ (if h then unless_defined table m.name old (macro_meaning m) name else table name)
wider-entry h w table m name None same =
    ap (λ (k : Bool). if k then unless_defined table m.name None (macro_meaning m) name else table name) (same refl)
wider-entry h w table m name (Some old) same = same-arms w h (table name)

pub wider-table : (h w : Bool) (table : Table) (m : PlainMacro) (name : List ℕ) → (is_some (table m.name) ≡ false → w ≡ h) → (if w then with_macro table m name else table name) ≡ (if h then with_macro table m name else table name)
wider-table h w table m name same = wider-entry h w table m name (table m.name) same

-- ---- the features that are on before the macros

never-first : (b f any rest : Bool) → (any ≡ false → rest ≡ false) → (b || any) ≡ false → ((b && f) || rest) ≡ false
never-first true f any rest k h = cc
never-first false f any rest k h = k h

pub never-on : (features : ℕ → Bool) (i : ℕ) (names : List (List ℕ)) (name : List ℕ) → list_any (bytes_eq name) names ≡ false → is_feature_on features i names name ≡ false
never-on features i [] name h = refl
never-on features i (first ∷ names) name h =
    never-first (bytes_eq name first) (features i) (list_any (bytes_eq name) names) (is_feature_on features (suc i) names name) (never-on features (suc i) names name) h

-- a table with the features before
abbrev full : (List ℕ → Bool) → Table → Table
full is_on table name = if is_on name then Some (feature feature_token) else table name

put-commutes : (f b : Bool) (entry other : Option Meaning) → (b ≡ true → f ≡ false) → (if f then Some (feature feature_token) else if b then entry else other) ≡ (if b then entry else if f then Some (feature feature_token) else other)
put-commutes true true entry other h =
    let e : true ≡ false = h refl in
    cc
put-commutes true false entry other h = refl
put-commutes false true entry other h = refl
put-commutes false false entry other h = refl

full-put : (is_on : List ℕ → Bool) (t0 t1 : Table) (name : List ℕ) (entry : Option Meaning) → is_on name ≡ false → ((other : List ℕ) → t1 other ≡ put t0 name entry other) → full is_on t1 ≡ put (full is_on t0) name entry
full-put is_on t0 t1 name entry off same =
    fun_ext (λ other.
    ap (λ (o : Option Meaning). if is_on other then Some (feature feature_token) else o) (same other)
    ∙ put-commutes (is_on other) (bytes_eq other name) entry (t0 other) (λ is. ap is_on ((bytes_decides other name).0 is) ∙ off))

full-same : (is_on : List ℕ → Bool) (t0 t1 : Table) → ((other : List ℕ) → t1 other ≡ t0 other) → full is_on t1 ≡ full is_on t0
full-same is_on t0 t1 same =
    fun_ext (λ other. ap (λ (o : Option Meaning). if is_on other then Some (feature feature_token) else o) (same other))

abbrev some-reading : Table → List PlainToken → Option Reading
some-reading table tokens = Some (record { table = table; tokens = tokens })

-- ---- `#define`

redefine-there : (is_on : List ℕ → Bool) (t0 t1 : Table) (ts : List PlainToken) (hash : PlainToken) (m : PlainMacro) (old : Option Meaning) → is_on m.name ≡ false → ((name : List ℕ) → t1 name ≡ unless_defined t0 m.name old (macro_meaning m) name) → unless_refused (clashes old (macro_meaning m)) (Some (record { table = full is_on t1; tokens = ts })) ≡ came_to (redefined (record { table = full is_on t0; tokens = ts }) hash None m.name old (macro_meaning m))
redefine-there is_on t0 t1 ts hash m None off same =
    ap (λ (t : Table). some-reading t ts) (full-put is_on t0 t1 m.name (Some (macro_meaning m)) off same)
redefine-there is_on t0 t1 ts hash m (Some old) off same =
    ap (λ (t : Table). unless_refused (not (same_meaning old (macro_meaning m))) (some-reading t ts)) (full-same is_on t0 t1 same)
    ∙ by_same (same_meaning old (macro_meaning m))
  where
    by_same : (b : Bool) → unless_refused (not b) (some-reading (full is_on t0) ts) ≡ came_to (if b then unless None (on (record { table = full is_on t0; tokens = ts })) else refused (spec.refusal_at spec.bad_macro hash))
    by_same true = refl
    by_same false = refl

directed-define : (s : Setting) (r : Reading) (hash : PlainToken) (tokens : List PlainToken) (m : PlainMacro) (entry : Option Meaning) → s.is_feature m.name ≡ false → refused_token (drop 2 tokens) ≡ None → r.table m.name ≡ entry → directed s r hash tokens (define_line m) ≡ redefined r hash None m.name entry (macro_meaning m)
directed-define s r hash tokens m entry off fine at =
    ap (λ (b : Bool). if b then refused (spec.refusal_at spec.bad_macro hash) else redefined r hash (refused_token (drop 2 tokens)) m.name (r.table m.name) (macro_meaning m)) off
    ∙ ap (λ (k : Option Refusal). redefined r hash k m.name (r.table m.name) (macro_meaning m)) fine
    ∙ ap (λ (o : Option Meaning). redefined r hash None m.name o (macro_meaning m)) at

unless-none : (b : Bool) → unless_refused b None ≡ None
unless-none true = refl
unless-none false = refl

pub define-is : (s : Setting) (h b : Bool) (features : ℕ → Bool) (names : List (List ℕ)) (t0 t1 : Table) (ts tokens : List PlainToken) (hash : PlainToken) (m : PlainMacro) → s.is_feature m.name ≡ false → list_any (bytes_eq m.name) names ≡ false → refused_token (drop 2 tokens) ≡ None → ((name : List ℕ) → t1 name ≡ (if h then with_macro t0 m name else t0 name)) → unless_refused (h && clashes (t0 m.name) (macro_meaning m)) (if b then None else Some (record { table = λ name. if is_feature_on features 0 names name then Some (feature feature_token) else t1 name; tokens = ts })) ≡ taken h (λ r. directed s r hash tokens (define_line m)) (if b then None else Some (record { table = λ name. if is_feature_on features 0 names name then Some (feature feature_token) else t0 name; tokens = ts }))
define-is s h true features names t0 t1 ts tokens hash m off none fine same = unless-none (h && clashes (t0 m.name) (macro_meaning m))
define-is s false false features names t0 t1 ts tokens hash m off none fine same =
    ap (λ (t : Table). some-reading t ts) (full-same (is_feature_on features 0 names) t0 t1 same)
define-is s true false features names t0 t1 ts tokens hash m off none fine same =
    let is_on = is_feature_on features 0 names in
    let never : is_on m.name ≡ false = never-on features 0 names m.name none in
    let r : Reading = record { table = full is_on t0; tokens = ts } in
    let at : r.table m.name ≡ t0 m.name = ap (λ (k : Bool). if k then Some (feature feature_token) else t0 m.name) never in
    redefine-there is_on t0 t1 ts hash m (t0 m.name) never same
    ∙ sym (ap came_to (directed-define s r hash tokens m (t0 m.name) off fine at))

some-is : {X : Type 0} (o : Option X) → is_some o ≡ false → o ≡ None
some-is None h = refl
some-is (Some x) h = cc

barred-same : (r : Reading) (hash : PlainToken) (b : Bool) (why : Refusal) → came_to (if b then unless (Some why) (on r) else refused (spec.refusal_at spec.bad_macro hash)) ≡ None
barred-same r hash true why = refl
barred-same r hash false why = refl

barred-entry : (r : Reading) (hash : PlainToken) (m : PlainMacro) (k : Option Refusal) (old : Option Meaning) → is_some k ≡ true → came_to (redefined r hash k m.name old (macro_meaning m)) ≡ None
barred-entry r hash m None old h = cc
barred-entry r hash m (Some why) None h = refl
barred-entry r hash m (Some why) (Some old) h = barred-same r hash (same_meaning old (macro_meaning m)) why

barred-feature : (r : Reading) (hash : PlainToken) (m : PlainMacro) (b : Bool) (k : Option Refusal) → (b || is_some k) ≡ true → came_to (if b then refused (spec.refusal_at spec.bad_macro hash) else redefined r hash k m.name (r.table m.name) (macro_meaning m)) ≡ None
barred-feature r hash m true k h = refl
barred-feature r hash m false k h = barred-entry r hash m k (r.table m.name) h

-- what a barred definition is refused by
pub define-barred : (s : Setting) (r : Reading) (hash : PlainToken) (tokens : List PlainToken) (m : PlainMacro) → (s.is_feature m.name || is_some (refused_token (drop 2 tokens))) ≡ true → came_to (directed s r hash tokens (define_line m)) ≡ None
define-barred s r hash tokens m h =
    barred-feature r hash m (s.is_feature m.name) (refused_token (drop 2 tokens)) h

-- ---- `#undef`

pub undef-is : (s : Setting) (h b : Bool) (features : ℕ → Bool) (names : List (List ℕ)) (t0 t1 : Table) (ts tokens : List PlainToken) (hash name : PlainToken) → s.is_feature name.text ≡ false → list_any (bytes_eq name.text) names ≡ false → refused_ignored (drop 3 tokens) ≡ None → ((other : List ℕ) → t1 other ≡ (if h then without_name t0 name.text other else t0 other)) → (if b then None else Some (record { table = λ n. if is_feature_on features 0 names n then Some (feature feature_token) else t1 n; tokens = ts })) ≡ taken h (λ r. directed s r hash tokens (undef_line name)) (if b then None else Some (record { table = λ n. if is_feature_on features 0 names n then Some (feature feature_token) else t0 n; tokens = ts }))
undef-is s h true features names t0 t1 ts tokens hash name off none fine same = refl
undef-is s false false features names t0 t1 ts tokens hash name off none fine same =
    ap (λ (t : Table). some-reading t ts) (full-same (is_feature_on features 0 names) t0 t1 same)
undef-is s true false features names t0 t1 ts tokens hash name off none fine same =
    let is_on = is_feature_on features 0 names in
    let never : is_on name.text ≡ false = never-on features 0 names name.text none in
    let undone : Flow = on (record { table = put (full is_on t0) name.text None; tokens = ts }) in
    ap (λ (t : Table). some-reading t ts) (full-put is_on t0 t1 name.text None never same)
    ∙ sym (ap came_to
    (ap (λ (b : Bool). if b then refused (spec.refusal_at spec.bad_macro hash) else unless (refused_ignored (drop 3 tokens)) undone) off
    ∙ ap (λ (k : Option Refusal). unless k undone) fine))

pub undef-barred : (s : Setting) (r : Reading) (hash : PlainToken) (tokens : List PlainToken) (name : PlainToken) → (s.is_feature name.text || is_some (refused_ignored (drop 3 tokens))) ≡ true → came_to (directed s r hash tokens (undef_line name)) ≡ None
undef-barred s r hash tokens name h = by_feature (s.is_feature name.text) (refused_ignored (drop 3 tokens)) h
  where
    by_feature : (b : Bool) (k : Option Refusal) → (b || is_some k) ≡ true → came_to (if b then refused (spec.refusal_at spec.bad_macro hash) else unless k (on (record r { table = put r.table name.text None }))) ≡ None
    by_feature true k h = refl
    by_feature false None h = cc
    by_feature false (Some why) h = refl

-- ---- `#include`

pub found-is : (s : Setting) (r : Reading) (hash : PlainToken) (names : List PlainToken) (deeper : Option (spec.Source → Reading → Flow)) (source : Option spec.Source) → (is_some deeper && not (is_some (refused_token names))) ≡ true → IsFound deeper source (included s r hash names deeper source) r
found-is s r hash names None source h = cc
found-is s r hash names (Some read) None h = refl
found-is s r hash names (Some read) (Some source) h = by_token (refused_token names) h
  where
    by_token : (k : Option Refusal) → not (is_some k) ≡ true → unless k (read source r) ≡ read source r
    by_token None h = refl
    by_token (Some why) h = cc

pub found-none : (s : Setting) (r : Reading) (hash : PlainToken) (names : List PlainToken) (deeper : Option (spec.Source → Reading → Flow)) (source : Option spec.Source) → (is_some deeper && not (is_some (refused_token names))) ≡ false → came_to (included s r hash names deeper source) ≡ None
found-none s r hash names None None h = refl
found-none s r hash names None (Some source) h = refl
found-none s r hash names (Some read) None h = refl
found-none s r hash names (Some read) (Some source) h = by_token (refused_token names) h
  where
    by_token : (k : Option Refusal) → not (is_some k) ≡ false → came_to (unless k (read source r)) ≡ None
    by_token None h = cc
    by_token (Some why) h = refl

-- ---- a line with what is next

pub step-then : (h : Bool) (f next : Reading → Flow) (o new : Option Reading) → new ≡ taken h f o → taken h (λ r. then_read (f r) next) o ≡ taken h next new
step-then h f next o new e = taken-then h f next o ∙ ap (λ (m : Option Reading). taken h next m) (sym e)

pub refused-then : (h : Bool) (f next : Reading → Flow) (o new : Option Reading) → new ≡ unless_refused h o → ((r : Reading) → came_to (f r) ≡ None) → taken h (λ r. then_read (f r) next) o ≡ taken h next new
refused-then h f next o new e none = step-then h f next o new (e ∙ taken-refuses h f o none)

pub found-then : (h : Bool) (f g next : Reading → Flow) (o : Option Reading) → ((r : Reading) → f r ≡ g r) → taken h (λ r. then_read (f r) next) o ≡ taken h (λ r. then_read (g r) next) o
found-then h f g next o same = taken-same h (λ r. then_read (f r) next) (λ r. then_read (g r) next) o (λ r. ap (λ (x : Flow). then_read x next) (same r))

pub may-enter : (place : Surroundings) (found : Option Source) → place.may_include ≡ true → IfSome found (λ source. IsAmong (length place.headers.now) source) → IfSome found (λ source. MayEnter place source)
may-enter place None may among = tt
may-enter place (Some source) may among = record { may_include = may; among = among }

-- ---- a line, by what it says

pub other-refused : (s : Setting) (r : Reading) (hash : PlainToken) (ts : List PlainToken) (d : Directive) → ((m : Macro) → d ≢ Define m) → ((name : Token) → d ≢ Undef name) → ((names : Vec Token Global) → d ≢ Include names) → d ≢ Null → came_to (directed s r hash ts (plain_directive d)) ≡ None
other-refused s r hash ts (If tokens) a b c d = refl
other-refused s r hash ts (Ifdef name) a b c d = refl
other-refused s r hash ts (Ifndef name) a b c d = refl
other-refused s r hash ts (Elif tokens) a b c d = refl
other-refused s r hash ts Else a b c d = refl
other-refused s r hash ts Endif a b c d = refl
other-refused s r hash ts (Define m) a b c d = absurd (a m refl)
other-refused s r hash ts BadDefine a b c d = refl
other-refused s r hash ts (Undef name) a b c d = absurd (b name refl)
other-refused s r hash ts (Include names) a b c d = absurd (c names refl)
other-refused s r hash ts Error a b c d = refl
other-refused s r hash ts Null a b c d = absurd (d refl)
other-refused s r hash ts Malformed a b c d = refl

pub at-line : (s : Setting) (h : Bool) (ts : List PlainToken) (d : PlainDirective) (next : Reading → Flow) (o rest : Option Reading) → 0 < length ts → d ≡ directive_of ts → ((hash : PlainToken) → taken h (λ r. then_read (directed s r hash ts d) next) o ≡ rest) → taken h (λ r. then_read (read_directive s r ts) next) o ≡ rest
at-line s h [] d next o rest some says line = absurd (omega arith)
at-line s h (hash ∷ others) d next o rest some says line =
    ap (λ (e : PlainDirective). taken h (λ r. then_read (directed s r hash (hash ∷ others) e) next) o) (sym says) ∙ line hash

pub at-none : (s : Setting) (h : Bool) (ts : List PlainToken) (next : Reading → Flow) (o : Option Reading) → ts ≡ [] → taken h (λ r. then_read (read_directive s r ts) next) o ≡ taken h next o
at-none s h ts next o none = ap (λ (us : List PlainToken). taken h (λ r. then_read (read_directive s r us) next) o) none

pub both-left : (a b : Bool) → (a && b) ≡ true → a ≡ true
both-left true b h = refl
both-left false b h = h

pub found-some : (s : Setting) (deeper : Option (spec.Source → Reading → Flow)) (source : Option spec.Source) (flow : Flow) (r : Reading) → is_some source ≡ true → IsFound deeper source flow r → flow ≡ entered deeper source r
found-some s deeper None flow r h found = cc
found-some s deeper (Some source) flow r h found = found

pub found-nothing : (deeper : Option (spec.Source → Reading → Flow)) (source : Option spec.Source) (flow : Flow) (r : Reading) → is_some source ≡ false → IsFound deeper source flow r → came_to flow ≡ None
found-nothing deeper None flow r h found = found
found-nothing deeper (Some source) flow r h found = cc
