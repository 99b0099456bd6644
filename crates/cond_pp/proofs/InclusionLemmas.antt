-- What is read of a file that a line includes.
use Rattle.std.proofs.Common.{◌≡◌, ℕ, Bool, true, false, ◌&&◌, List, [], ◌∷◌, map, Option, Some, None, refl, ap, sym, ◌∙◌}
use Rattle.std.specs.Prelude.{if◌then◌else◌, not, is_some}
use Rattle.std.specs.String.{string_bytes}
use Rattle.cond_formula.specs.Conditions.{Condition, condition_of, value}
use Rattle.c_text.specs.Token.{PlainToken}
use Rattle.c_text.specs.Directives.{PlainDirective, include_line, directive_of}
use Rattle.c_text.specs.Preprocessing as spec
use Rattle.c_text.specs.Preprocessing.{Reading, Refusal, Flow, Setting, on, unless, then_read, included, directed, read_directive, source_of, refused_token}
use Rattle.active_tokens.specs.Reads.{Read, Following, unless_refused, included_reads, reads_of_inclusion}
use Rattle.unit_files.specs.declared.surroundings.Surroundings.{Surroundings}
use Rattle.cond_readings.specs.Readings.{came_to, taken}
use Rattle.unit_files.specs.Settings.{IsSettingOf, entered}
use Rattle.cond_readings.specs.Settings.{named_by}
use Rattle.unit_files.specs.Inclusions.{plain_source}
use Rattle.cond_pp.specs.declared.walk.Inclusion.{Inclusion}
use Rattle.cond_pp.specs.Walks.{reads_included}
use Rattle.cond_pp.specs.Watches.{read_where}
use Rattle.cond_pp.proofs.ReadLemmas.{reads-none, reads-same}

taken-on : (b : Bool) (f : Reading → Flow) (o : Option Reading) → ((r : Reading) → f r ≡ on r) → taken b f o ≡ o
taken-on b f None h = refl
taken-on true f (Some r) h = ap came_to (h r)
taken-on false f (Some r) h = refl

-- ---- what a line names

-- a line that names a file
record Names (place : Surroundings) (d : PlainDirective) (source : spec.Source) : Type 0 where
  names : List PlainToken
  is : d ≡ include_line names
  may_include : place.may_include ≡ true
  fine : refused_token names ≡ None
  source_is : source_of (map string_bytes place.headers.now) place.name.now names ≡ Some source

named-parts : (may : Bool) (bad : Option Refusal) (found : Option spec.Source) (source : spec.Source) → Some source ≡ (if may && not (is_some bad) then found else None) → (may ≡ true) × (bad ≡ None) × (found ≡ Some source)
named-parts true None found source e = (refl, refl, sym e)
named-parts true (Some why) found source e = cc
named-parts false bad found source e = cc

names-of : (place : Surroundings) (d : PlainDirective) (source : spec.Source) → Some source ≡ named_by place d → Names place d source
names-of place (include_line names) source e =
    let parts = named-parts place.may_include (refused_token names) (source_of (map string_bytes place.headers.now) place.name.now names) source e in
    record { names = names; is = refl; may_include = parts.0; fine = parts.1; source_is = parts.2 }
names-of place other source e = cc

module _ (place : Surroundings) (s : Setting) (is : IsSettingOf place s) where
  source-is : (names : List PlainToken) → source_of s.headers s.name names ≡ source_of (map string_bytes place.headers.now) place.name.now names
  source-is names =
      ap (λ hs. source_of hs s.name names) is.headers ∙ ap (λ n. source_of (map string_bytes place.headers.now) n names) is.name

  -- the same with a file of which nothing is read
  abbrev passing : Setting
  passing = record s { deeper = Some (λ source r. on r) }

  passing-is : place.may_include ≡ true → IsSettingOf place passing
  passing-is may = record {
    values = is.values;
    features = is.features;
    headers = is.headers;
    name = is.name;
    deeper = sym may;
  }

  directed-passes : (source : spec.Source) (r : Reading) (hash : PlainToken) (tokens : List PlainToken) (d : PlainDirective) → Names place d source → directed passing r hash tokens d ≡ on r
  directed-passes source r hash tokens d n =
      ap (λ (k : PlainDirective). directed passing r hash tokens k) n.is
      ∙ ap (λ (found : Option spec.Source). included passing r hash n.names (Some (λ at a. on a)) found) (source-is n.names ∙ n.source_is)
      ∙ ap (λ (bad : Option Refusal). unless bad (on r)) n.fine

  passes : (source : spec.Source) (r : Reading) (tokens : List PlainToken) → Names place (directive_of tokens) source → read_directive passing r tokens ≡ on r
  passes source r [] n = refl
  passes source r (hash ∷ rest) n = directed-passes source r hash (hash ∷ rest) (directive_of (hash ∷ rest)) n

  -- what a line with these tokens did to a reading
  abbrev IsDirected : Bool → List PlainToken → Option spec.Source → Option Reading → Option Reading → Type 0
  IsDirected here tokens found before after =
      (t : Setting) → IsSettingOf place t → (next : Reading → Flow)
      → taken here (λ r. then_read (read_directive t r tokens) next) before ≡ taken here (λ r. then_read (entered t.deeper found r) next) after

  -- a line that includes a file changes nothing itself
  same-reading : (here : Bool) (tokens : List PlainToken) (source : spec.Source) (before after : Option Reading) → Names place (directive_of tokens) source → IsDirected here tokens (Some source) before after → before ≡ after
  same-reading here tokens source before after n flow =
      sym (taken-on here (λ r. then_read (read_directive passing r tokens) (λ a. on a)) before (λ r. ap (λ (x : Flow). then_read x (λ a. on a)) (passes source r tokens n)))
      ∙ flow passing (passing-is n.may_include) (λ a. on a)
      ∙ taken-on here (λ r. on r) after (λ r. refl)

  module _ (f : Following) where
    -- what is read of the file
    abbrev read_by : Option (spec.Source → Reading → List Read) → spec.Source → Reading → List Read
    read_by None source r = []
    read_by (Some read) source r = read source r

    fine-reads : (deeper : Option (spec.Source → Reading → List Read)) (r : Reading) (names : List PlainToken) (source : spec.Source) → refused_token names ≡ None → included_reads s f r names deeper (Some source) ≡ read_by deeper source r
    fine-reads None r names source fine = refl
    fine-reads (Some read) r names source fine = ap (λ (bad : Option Refusal). unless_refused bad (read source r)) fine

    named-reads : (d : PlainDirective) (source : spec.Source) (r : Reading) → Names place d source → reads_of_inclusion s f r d ≡ read_by f.deeper source r
    named-reads d source r n =
        ap (λ (k : PlainDirective). reads_of_inclusion s f r k) n.is
        ∙ ap (λ (found : Option spec.Source). included_reads s f r n.names f.deeper found) (source-is n.names ∙ n.source_is)
        ∙ fine-reads f.deeper r n.names source n.fine

    included-is : (features : ℕ → Bool) (deeper : Option (spec.Source → Reading → List Read)) (i : Inclusion) (r : Reading) → reads_included features deeper (Some i) r ≡ (if value features (condition_of i.when) then read_by deeper (plain_source i.source) r else [])
    included-is features None i r = either-none (value features (condition_of i.when))
      where
        either-none : (b : Bool) → ◌≡◌ {A = List Read} [] (if b then [] else [])
        either-none true = refl
        either-none false = refl
    included-is features (Some read) i r = refl

    -- a line that finds nothing includes nothing
    nothing-found : (may : Bool) (names : List PlainToken) (found : Option spec.Source) (deeper : Option (spec.Source → Reading → List Read)) (r : Reading) → None ≡ (if may && not (is_some (refused_token names)) then found else None) → is_some deeper ≡ may → included_reads s f r names deeper found ≡ []
    nothing-found may names None deeper r none is_there = refl
    nothing-found may names (Some source) None r none is_there = refl
    nothing-found may names (Some source) (Some read) r none is_there =
        refuses (refused_token names) (ap (λ (m : Bool). if m && not (is_some (refused_token names)) then Some source else None) is_there ∙ sym none)
      where
        refuses : (bad : Option Refusal) → (if true && not (is_some bad) then Some source else None) ≡ None → unless_refused bad (read source r) ≡ []
        refuses None e = cc
        refuses (Some why) e = refl

    unnamed-reads : (d : PlainDirective) (r : Reading) → is_some f.deeper ≡ place.may_include → None ≡ named_by place d → reads_of_inclusion s f r d ≡ []
    unnamed-reads (include_line names) r is_there none =
        ap (λ (found : Option spec.Source). included_reads s f r names f.deeper found) (source-is names)
        ∙ nothing-found place.may_include names (source_of (map string_bytes place.headers.now) place.name.now names) f.deeper r none is_there
    unnamed-reads other r is_there none = refl

    where-reads : (here : Bool) (what included : Reading → List Read) (read : Reading → List Read) (o : Option Reading) → ((r : Reading) → what r ≡ read r) → ((r : Reading) → included r ≡ (if here then read r else [])) → read_where true included o ≡ read_where here what o
    where-reads here what included read None h k = refl
    where-reads true what included read (Some r) h k = k r ∙ sym (h r)
    where-reads false what included read (Some r) h k = k r

    -- what is read of the file that a line includes where a condition holds
    pub found-reads : (features : ℕ → Bool) (here : Condition) (tokens : List PlainToken) (i : Inclusion) (before after : Option Reading) → condition_of i.when ≡ here → Some (plain_source i.source) ≡ named_by place (directive_of tokens) → IsDirected (value features here) tokens (Some (plain_source i.source)) before after → read_where true (λ r. reads_included features f.deeper (Some i) r) after ≡ read_where (value features here) (λ r. reads_of_inclusion s f r (directive_of tokens)) before
    found-reads features here tokens i before after when_is named flow =
        let source = plain_source i.source in
        let n = names-of place (directive_of tokens) source named in
        where-reads (value features here) (λ r. reads_of_inclusion s f r (directive_of tokens)) (λ r. reads_included features f.deeper (Some i) r) (λ r. read_by f.deeper source r) after
        (λ r. named-reads (directive_of tokens) source r n)
        (λ r. included-is features f.deeper i r ∙ ap (λ (k : Condition). if value features k then read_by f.deeper source r else []) when_is)
        ∙ ap (λ (o : Option Reading). read_where (value features here) (λ r. reads_of_inclusion s f r (directive_of tokens)) o) (sym (same-reading (value features here) tokens source before after n flow))

    pub no-reads : (features : ℕ → Bool) (here : Bool) (tokens : List PlainToken) (before after : Option Reading) → is_some f.deeper ≡ is_some s.deeper → None ≡ named_by place (directive_of tokens) → read_where true (λ r. reads_included features f.deeper None r) after ≡ read_where here (λ r. reads_of_inclusion s f r (directive_of tokens)) before
    no-reads features here tokens before after alike none =
        reads-none true after
        ∙ sym (reads-none here before)
        ∙ reads-same here (λ r. []) (λ r. reads_of_inclusion s f r (directive_of tokens)) before (λ r. sym (unnamed-reads (directive_of tokens) r (alike ∙ is.deeper) none))
