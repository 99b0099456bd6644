-- Directive lines do the same where their tokens only move.
use Rattle.std.proofs.Common.{◌≡◌, ℕ, true, false, List, [], ◌∷◌, map, drop, Option, Some, None, refl, ap, sym, ◌∙◌, subst}
use Rattle.std.specs.Prelude.{⊤}
use Rattle.std.specs.List.{AllByRecursion, list_any}
use Rattle.std.specs.Str.{bytes_eq}
use Rattle.text_edits.specs.Span.{PlainSpan}
use Rattle.c_text.specs.Token.{PlainToken}
use Rattle.c_text.specs.Directives.{PlainMacro, PlainDirective, if_line, ifdef_line, ifndef_line, elif_line, else_line, endif_line, define_line, bad_define, undef_line, include_line, error_line, null_line, malformed, predefined_names, directive_of}
use Rattle.c_text.specs.Expressions.{word_of}
use Rattle.c_text.specs.Macros.{Meaning, feature, object, function, Table}
use Rattle.c_text.specs.Preprocessing.{Refusal, refusal_at, refused_token, refused_ignored, bad_directive, bad_macro, error_directive, include_depth, no_file, Reading, Flow, on, refused, then_read, unless, Condition, line_condition, condition_at, meaning, put, texts, same_meaning, redefined, Source, source_of, Setting, included, directed, read_directive}
use Rattle.renamings.specs.Renamings.{Renaming, is_renamed}
use Rattle.active_tokens.specs.Reads.{Read, unless_refused, Following, included_reads, reads_of_inclusion}
use Rattle.renamed_units.specs.Pairs.{Pairs}
use Rattle.renamed_units.proofs.Alike.{OnlyMoved, AlikeMeanings, AlikeFound, AlikeTables, AlikeReadings, AlikeFlows}
use Rattle.renamed_units.specs.Renamed.{moved_refusal}
use Rattle.renamed_units.proofs.Pairs.{choice-alike}
use Rattle.renamed_units.proofs.Runs.{IsStanding, AlikeRefusals, refusal-moves}
use Rattle.renamed_units.proofs.Conditions.{AreMoved, pairs-drop, moved-token-refused, moved-ignored-refused, AlikeConditions, unless-fails-alike, expression-alike, definedness-alike}
use Rattle.renamed_units.proofs.Directives.{AreAllMoved, AlikeMacros, AlikeDirectives, directive-moved, source-moved}

-- ---- definitions

module _ (r : Renaming) where
  same-texts-self : (as_ bs : List PlainToken) → Pairs (OnlyMoved r) as_ bs → texts bs ≡ texts as_
  same-texts-self [] [] p = refl
  same-texts-self [] (b ∷ bs) p = absurd p
  same-texts-self (a ∷ as_) [] p = absurd p
  same-texts-self (a ∷ as_) (b ∷ bs) p = let first = p.0.text in let rest = same-texts-self as_ bs p.1 in cc

  same-meaning-alike : (m m' n n' : Meaning) → AlikeMeanings r m m' → AlikeMeanings r n n' → same_meaning m' n' ≡ same_meaning m n
  same-meaning-alike (feature a) (feature b) (feature c) (feature d) p q = refl
  same-meaning-alike (feature a) (feature b) (object c) (object d) p q = refl
  same-meaning-alike (feature a) (feature b) (function os c) (function ps d) p q = refl
  same-meaning-alike (object a) (object b) (feature c) (feature d) p q = refl
  same-meaning-alike (object a) (object b) (object c) (object d) p q = let x = same-texts-self a b p in let y = same-texts-self c d q in cc
  same-meaning-alike (object a) (object b) (function os c) (function ps d) p q = refl
  same-meaning-alike (function ms a) (function ns b) (feature c) (feature d) p q = refl
  same-meaning-alike (function ms a) (function ns b) (object c) (object d) p q = refl
  same-meaning-alike (function ms a) (function ns b) (function os c) (function ps d) p q =
      let x = same-texts-self a b p.1 in let y = same-texts-self c d q.1 in cc (p.0, q.0)
  same-meaning-alike (feature a) (object b) n n' p q = absurd p
  same-meaning-alike (feature a) (function bs b) n n' p q = absurd p
  same-meaning-alike (object a) (feature b) n n' p q = absurd p
  same-meaning-alike (object a) (function bs b) n n' p q = absurd p
  same-meaning-alike (function as_ a) (feature b) n n' p q = absurd p
  same-meaning-alike (function as_ a) (object b) n n' p q = absurd p
  same-meaning-alike m m' (feature a) (object b) p q = absurd q
  same-meaning-alike m m' (feature a) (function bs b) p q = absurd q
  same-meaning-alike m m' (object a) (feature b) p q = absurd q
  same-meaning-alike m m' (object a) (function bs b) p q = absurd q
  same-meaning-alike m m' (function as_ a) (feature b) p q = absurd q
  same-meaning-alike m m' (function as_ a) (object b) p q = absurd q

  put-alike : (table table' : Table) (name : List ℕ) (entry entry' : Option Meaning) → AlikeTables r table table' → AlikeFound r entry entry' → AlikeTables r (put table name entry) (put table' name entry')
  put-alike table table' name entry entry' t e other =
      choice-alike (AlikeFound r) (bytes_eq other name) (bytes_eq other name) entry (table other) entry' (table' other) refl e (t other)

module _ (r : Renaming) (At : ℕ → PlainSpan → Type 0) (standing : IsStanding r At) where
  meaning-of-macro : (m n : PlainMacro) (ps qs : Option (List (List ℕ))) → AlikeMacros r At standing m n → qs ≡ ps → AlikeMeanings r (meaning m ps) (meaning n qs)
  meaning-of-macro m n None None s e = s.body
  meaning-of-macro m n None (Some qs) s e = let h : ⊥ = cc in absurd h
  meaning-of-macro m n (Some ps) None s e = let h : ⊥ = cc in absurd h
  meaning-of-macro m n (Some ps) (Some qs) s e = (cc e, s.body)

  unless-alike : (f g : Option Refusal) (x y : Flow) → AlikeRefusals r At standing f g → AlikeFlows r x y → AlikeFlows r (unless f x) (unless g y)
  unless-alike None None x y p q = q
  unless-alike None (Some w) x y p q = absurd p
  unless-alike (Some v) None x y p q = absurd p
  unless-alike (Some v) (Some w) x y p q = p.0

  pub then-alike : (x y : Flow) (next next' : Reading → Flow) → AlikeFlows r x y → ((a b : Reading) → AlikeReadings r a b → x ≡ on a → AlikeFlows r (next a) (next' b)) → AlikeFlows r (then_read x next) (then_read y next')
  then-alike (on a) (on b) next next' p k = k a b p refl
  then-alike (on a) (refused w) next next' p k = absurd p
  then-alike (refused v) (on b) next next' p k = absurd p
  then-alike (refused v) (refused w) next next' p k = p

  redefined-alike : (a b : Reading) (hash hash' : PlainToken) (f g : Option Refusal) (name : List ℕ) (old old' : Option Meaning) (m n : Meaning) → AlikeReadings r a b → AreMoved r At standing hash hash' → AlikeRefusals r At standing f g → AlikeFound r old old' → AlikeMeanings r m n → AlikeFlows r (redefined a hash f name old m) (redefined b hash' g name old' n)
  redefined-alike a b hash hash' f g name None None m n s h p o e =
      unless-alike f g _ _ p (record { tables = put-alike r a.table b.table name (Some m) (Some n) s.tables e; tokens = s.tokens; names = s.names })
  redefined-alike a b hash hash' f g name None (Some y) m n s h p o e = absurd o
  redefined-alike a b hash hash' f g name (Some x) None m n s h p o e = absurd o
  redefined-alike a b hash hash' f g name (Some x) (Some y) m n s h p o e =
      choice-alike (AlikeFlows r) (same_meaning x m) (same_meaning y n) (unless f (on a)) (refused (refusal_at bad_macro hash)) (unless g (on b)) (refused (refusal_at bad_macro hash'))
      (same-meaning-alike r x y m n o e) (unless-alike f g (on a) (on b) p s) (refusal-moves r At standing bad_macro hash hash' h.is.file h.is.span)

-- ---- settings

-- each token of what is read that is renamed has a name that is no macro there and isn't predefined, and the new one is no macro either
module _ (r : Renaming) where
  abbrev pub IsQuietIn : Table → PlainToken → Type 0
  IsQuietIn table a = is_renamed r a.origin.file a.origin.span ≡ true → (table r.old ≡ None) × (table r.new ≡ None) × (list_any (bytes_eq r.old) predefined_names ≡ false)

  abbrev pub IsQuiet : Read → Type 0
  IsQuiet read = AllByRecursion (IsQuietIn read.table) read.tokens

  abbrev pub AreQuiet : List Read → Type 0
  AreQuiet reads = AllByRecursion IsQuiet reads

  -- how included files are read
  abbrev pub AlikeDeeper : (Source → Type 0) → Option (Source → Reading → Flow) → Option (Source → Reading → Flow) → Option (Source → Reading → List Read) → Type 0
  AlikeDeeper There None None reads = ⊤
  AlikeDeeper There (Some read) (Some read') (Some reads) =
      (source : Source) → There source → (a b : Reading) → AlikeReadings r a b → AreQuiet (reads source a) → AlikeFlows r (read source a) (read' source b)
  AlikeDeeper There other another reads = ⊥

  pub record AlikeSettings (There : Source → Type 0) (s s' : Setting) (f : Following) : Type 0 where
    pub values : (as_ bs : List PlainToken) → map word_of bs ≡ map word_of as_ → s'.value_of bs ≡ s.value_of as_
    pub is_feature : (name : List ℕ) → s'.is_feature name ≡ s.is_feature name
    pub headers : s'.headers ≡ s.headers
    pub name : s'.name ≡ s.name
    pub broken : s'.broken ≡ moved_refusal r s.broken
    pub deeper : AlikeDeeper There s.deeper s'.deeper f.deeper
    pub there : (names : List PlainToken) (source : Source) → source_of s.headers s.name names ≡ Some source → There source

module _ (r : Renaming) (At : ℕ → PlainSpan → Type 0) (standing : IsStanding r At) (There : Source → Type 0) (s s' : Setting) (f : Following) (settings : AlikeSettings r There s s' f) where
  abbrev All_moved : List PlainToken → List PlainToken → Type 0
  All_moved as_ bs = AreAllMoved r At standing as_ bs

  -- ---- conditions

  module _ (table table' : Table) (tables : AlikeTables r table table') where
    abbrev Conditions : Condition → Condition → Type 0
    Conditions x y = AlikeConditions r At standing table table' tables x y

    line-condition-alike : (hash hash' : PlainToken) (as_ bs : List PlainToken) (x y : PlainDirective) → AreMoved r At standing hash hash' → All_moved as_ bs → AlikeDirectives r At standing x y → Conditions (line_condition s.value_of table hash as_ x) (line_condition s'.value_of table' hash' bs y)
    line-condition-alike hash hash' as_ bs (if_line cs) (if_line ds) h p q = expression-alike r At standing table table' tables s.value_of s'.value_of settings.values hash hash' cs ds h q
    line-condition-alike hash hash' as_ bs (elif_line cs) (elif_line ds) h p q = expression-alike r At standing table table' tables s.value_of s'.value_of settings.values hash hash' cs ds h q
    line-condition-alike hash hash' as_ bs (ifdef_line c) (ifdef_line d) h p q =
        definedness-alike r At standing table table' tables s.value_of s'.value_of settings.values true c d (drop 3 as_) (drop 3 bs) q (pairs-drop (AreMoved r At standing) 3 as_ bs p)
    line-condition-alike hash hash' as_ bs (ifndef_line c) (ifndef_line d) h p q =
        definedness-alike r At standing table table' tables s.value_of s'.value_of settings.values false c d (drop 3 as_) (drop 3 bs) q (pairs-drop (AreMoved r At standing) 3 as_ bs p)
    line-condition-alike hash hash' as_ bs else_line else_line h p q =
        unless-fails-alike r At standing table table' tables (refused_ignored (drop 2 as_)) (refused_ignored (drop 2 bs)) true true
        (moved-ignored-refused r At standing table table' tables (drop 2 as_) (drop 2 bs) (pairs-drop (AreMoved r At standing) 2 as_ bs p)) refl
    line-condition-alike hash hash' as_ bs endif_line endif_line h p q = refusal-moves r At standing bad_directive hash hash' h.is.file h.is.span
    line-condition-alike hash hash' as_ bs (define_line m) (define_line n) h p q = refusal-moves r At standing bad_directive hash hash' h.is.file h.is.span
    line-condition-alike hash hash' as_ bs bad_define bad_define h p q = refusal-moves r At standing bad_directive hash hash' h.is.file h.is.span
    line-condition-alike hash hash' as_ bs (undef_line c) (undef_line d) h p q = refusal-moves r At standing bad_directive hash hash' h.is.file h.is.span
    line-condition-alike hash hash' as_ bs (include_line cs) (include_line ds) h p q = refusal-moves r At standing bad_directive hash hash' h.is.file h.is.span
    line-condition-alike hash hash' as_ bs error_line error_line h p q = refusal-moves r At standing bad_directive hash hash' h.is.file h.is.span
    line-condition-alike hash hash' as_ bs null_line null_line h p q = refusal-moves r At standing bad_directive hash hash' h.is.file h.is.span
    line-condition-alike hash hash' as_ bs malformed malformed h p q = refusal-moves r At standing bad_directive hash hash' h.is.file h.is.span
    line-condition-alike hash hash' as_ bs x y h p q = absurd q

    pub condition-alike : (as_ bs : List PlainToken) → All_moved as_ bs → Conditions (condition_at s.value_of table as_) (condition_at s'.value_of table' bs)
    condition-alike [] [] p = refl
    condition-alike [] (b ∷ bs) p = absurd p
    condition-alike (a ∷ as_) [] p = absurd p
    condition-alike (a ∷ as_) (b ∷ bs) p =
        line-condition-alike a b (a ∷ as_) (b ∷ bs) (directive_of (a ∷ as_)) (directive_of (b ∷ bs)) p.0 p (directive-moved r At standing (a ∷ as_) (b ∷ bs) p)

  -- ---- directive lines

  included-alike : (a b : Reading) (hash hash' : PlainToken) (as_ bs : List PlainToken) (read read' : Option (Source → Reading → Flow)) (reads : Option (Source → Reading → List Read)) (source : Option Source) → AlikeReadings r a b → AreMoved r At standing hash hash' → All_moved as_ bs → AlikeDeeper r There read read' reads → ((x : Source) → source ≡ Some x → There x) → AreQuiet r (included_reads s f a as_ reads source) → AlikeFlows r (included s a hash as_ read source) (included s' b hash' bs read' source)
  included-alike a b hash hash' as_ bs read read' reads None t h p d there q = refusal-moves r At standing no_file hash hash' h.is.file h.is.span
  included-alike a b hash hash' as_ bs None None reads (Some x) t h p d there q = refusal-moves r At standing include_depth hash hash' h.is.file h.is.span
  included-alike a b hash hash' as_ bs None (Some read') reads (Some x) t h p d there q = absurd d
  included-alike a b hash hash' as_ bs (Some read) None reads (Some x) t h p d there q = absurd d
  included-alike a b hash hash' as_ bs (Some read) (Some read') None (Some x) t h p d there q = absurd d
  included-alike a b hash hash' as_ bs (Some read) (Some read') (Some reads) (Some x) t h p d there q =
      unless-quiet (refused_token as_) (refused_token bs) (moved-token-refused r At standing a.table b.table t.tables as_ bs p) q
    where
      unless-quiet : (v w : Option Refusal) → AlikeRefusals r At standing v w → AreQuiet r (unless_refused v (reads x a)) → AlikeFlows r (unless v (read x a)) (unless w (read' x b))
      unless-quiet None None e q = d x (there x refl) a b t q
      unless-quiet None (Some w) e q = absurd e
      unless-quiet (Some v) None e q = absurd e
      unless-quiet (Some v) (Some w) e q = e.0

  directed-alike : (a b : Reading) (hash hash' : PlainToken) (as_ bs : List PlainToken) (x y : PlainDirective) → AlikeReadings r a b → AreMoved r At standing hash hash' → All_moved as_ bs → AlikeDirectives r At standing x y → AreQuiet r (reads_of_inclusion s f a x) → AlikeFlows r (directed s a hash as_ x) (directed s' b hash' bs y)
  directed-alike a b hash hash' as_ bs (define_line m) (define_line n) t h p q z =
      choice-alike (AlikeFlows r) (s.is_feature m.name) (s'.is_feature n.name) (refused (refusal_at bad_macro hash)) _ (refused (refusal_at bad_macro hash')) _
      (ap s'.is_feature q.name ∙ settings.is_feature m.name) (refusal-moves r At standing bad_macro hash hash' h.is.file h.is.span)
      (subst (λ (name : List ℕ). AlikeFlows r (redefined a hash (refused_token (drop 2 as_)) m.name (a.table m.name) (meaning m m.params)) (redefined b hash' (refused_token (drop 2 bs)) name (b.table name) (meaning n n.params))) (sym q.name)
      (redefined-alike r At standing a b hash hash' (refused_token (drop 2 as_)) (refused_token (drop 2 bs)) m.name (a.table m.name) (b.table m.name) (meaning m m.params) (meaning n n.params) t h
      (moved-token-refused r At standing a.table b.table t.tables (drop 2 as_) (drop 2 bs) (pairs-drop (AreMoved r At standing) 2 as_ bs p)) (t.tables m.name) (meaning-of-macro r At standing m n m.params n.params q q.params)))
  directed-alike a b hash hash' as_ bs (undef_line c) (undef_line d) t h p q z =
      choice-alike (AlikeFlows r) (s.is_feature c.text) (s'.is_feature d.text) (refused (refusal_at bad_macro hash)) _ (refused (refusal_at bad_macro hash')) _
      (ap s'.is_feature q.is.text ∙ settings.is_feature c.text) (refusal-moves r At standing bad_macro hash hash' h.is.file h.is.span)
      (unless-alike r At standing (refused_ignored (drop 3 as_)) (refused_ignored (drop 3 bs)) (on (record a { table = put a.table c.text None })) (on (record b { table = put b.table d.text None }))
      (moved-ignored-refused r At standing a.table b.table t.tables (drop 3 as_) (drop 3 bs) (pairs-drop (AreMoved r At standing) 3 as_ bs p))
      (record { tables = subst (λ (name : List ℕ). AlikeTables r (put a.table c.text None) (put b.table name None)) (sym q.is.text) (put-alike r a.table b.table c.text None None t.tables tt); tokens = t.tokens; names = t.names }))
  directed-alike a b hash hash' as_ bs (include_line cs) (include_line ds) t h p q z =
      let e : source_of s'.headers s'.name ds ≡ source_of s.headers s.name cs = found cs ds q in
      subst (λ (x : Option Source). AlikeFlows r (included s a hash cs s.deeper (source_of s.headers s.name cs)) (included s' b hash' ds s'.deeper x)) (sym e)
      (included-alike a b hash hash' cs ds s.deeper s'.deeper f.deeper (source_of s.headers s.name cs) t h q settings.deeper (settings.there cs) z)
    where
      found : (cs ds : List PlainToken) → All_moved cs ds → source_of s'.headers s'.name ds ≡ source_of s.headers s.name cs
      found cs ds q = rw (settings.headers, settings.name) (source-moved r At standing s.headers s.name cs ds q)
  directed-alike a b hash hash' as_ bs bad_define bad_define t h p q z = refusal-moves r At standing bad_macro hash hash' h.is.file h.is.span
  directed-alike a b hash hash' as_ bs error_line error_line t h p q z = refusal-moves r At standing error_directive hash hash' h.is.file h.is.span
  directed-alike a b hash hash' as_ bs null_line null_line t h p q z = t
  directed-alike a b hash hash' as_ bs (if_line cs) (if_line ds) t h p q z = refusal-moves r At standing bad_directive hash hash' h.is.file h.is.span
  directed-alike a b hash hash' as_ bs (elif_line cs) (elif_line ds) t h p q z = refusal-moves r At standing bad_directive hash hash' h.is.file h.is.span
  directed-alike a b hash hash' as_ bs (ifdef_line c) (ifdef_line d) t h p q z = refusal-moves r At standing bad_directive hash hash' h.is.file h.is.span
  directed-alike a b hash hash' as_ bs (ifndef_line c) (ifndef_line d) t h p q z = refusal-moves r At standing bad_directive hash hash' h.is.file h.is.span
  directed-alike a b hash hash' as_ bs else_line else_line t h p q z = refusal-moves r At standing bad_directive hash hash' h.is.file h.is.span
  directed-alike a b hash hash' as_ bs endif_line endif_line t h p q z = refusal-moves r At standing bad_directive hash hash' h.is.file h.is.span
  directed-alike a b hash hash' as_ bs malformed malformed t h p q z = refusal-moves r At standing bad_directive hash hash' h.is.file h.is.span
  directed-alike a b hash hash' as_ bs x y t h p q z = absurd q

  pub directive-read-alike : (a b : Reading) (as_ bs : List PlainToken) → AlikeReadings r a b → All_moved as_ bs → AreQuiet r (reads_of_inclusion s f a (directive_of as_)) → AlikeFlows r (read_directive s a as_) (read_directive s' b bs)
  directive-read-alike a b [] [] t p z = t
  directive-read-alike a b [] (d ∷ bs) t p z = absurd p
  directive-read-alike a b (c ∷ as_) [] t p z = absurd p
  directive-read-alike a b (c ∷ as_) (d ∷ bs) t p z =
      directed-alike a b c d (c ∷ as_) (d ∷ bs) (directive_of (c ∷ as_)) (directive_of (d ∷ bs)) t p.0 p (directive-moved r At standing (c ∷ as_) (d ∷ bs) p) z
